use Rattle.std.proofs.Common.{◌≡◌, true, subst, sym}
use Rattle.clap.specs.Words.{App, is_simple_and_free}
use Rattle.ug_arguments.proofs.SimpleApps.{simple_and_free}
use Rattle.ug_arguments.proofs.arguments.read_by.Goals as goal

pub find_values-requires : goal.find_values-requires
find_values-requires c = subst (λ (app : App). is_simple_and_free app ≡ true) (sym c.in-Ok.ensures) (simple_and_free c.args.word)
