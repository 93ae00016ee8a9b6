use Rattle.ug_rule.specs.Values.{id_in, interface_in, string_in}
use Rattle.ug_rule.proofs.ValueCuts.{value_cut, value_reads}
use Rattle.ug_rule.proofs.laws.values_law.Goals as goal

pub returns-clause-ids : goal.returns-clause-ids
returns-clause-ids c = λ line ending values tokens rest. (value_cut line (id_in line) ending values tokens rest, value_reads line (id_in line) ending values tokens rest)

pub returns-clause-interfaces : goal.returns-clause-interfaces
returns-clause-interfaces c = λ line ending values tokens rest. (value_cut line (interface_in line) ending values tokens rest, value_reads line (interface_in line) ending values tokens rest)

pub returns-clause-strings : goal.returns-clause-strings
returns-clause-strings c = λ line ending values tokens rest. (value_cut line (string_in line) ending values tokens rest, value_reads line (string_in line) ending values tokens rest)
