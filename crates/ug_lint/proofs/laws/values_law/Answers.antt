use Rattle.std.specs.Cmp.Lexicographic.{bytes_decides}
use Rattle.ug_lint.proofs.Matches.{id_same, interface_same, number_is}
use Rattle.ug_lint.proofs.laws.values_law.Goals as goal

pub returns : goal.returns
returns c = record { number = number_is; id = id_same; interface = interface_same; text = bytes_decides }
