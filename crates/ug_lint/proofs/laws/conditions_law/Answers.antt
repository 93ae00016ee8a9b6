use Rattle.ug_lint.proofs.Sure.{always_holds, never_holds}
use Rattle.ug_lint.proofs.laws.conditions_law.Goals as goal

pub returns : goal.returns
returns c = record { always = always_holds; never = never_holds }
