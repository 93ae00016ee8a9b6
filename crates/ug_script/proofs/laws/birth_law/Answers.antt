use Rattle.ug_kernel.proofs.Defaults.{along_on_entries, empty_on_entries, moves_on_entries}
use Rattle.ug_script.proofs.laws.birth_law.Goals as goal

pub returns-clause-empty : goal.returns-clause-empty
returns-clause-empty c = empty_on_entries

pub returns-clause-moves : goal.returns-clause-moves
returns-clause-moves c = moves_on_entries

pub returns-clause-behind : goal.returns-clause-behind
returns-clause-behind c = along_on_entries
