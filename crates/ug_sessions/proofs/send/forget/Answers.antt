use Rattle.std.proofs.Common.{rules}
use Rattle.std.proofs.lemmas.Fn.{filter_same}
use Rattle.ug_sessions.specs.Sending.{stays}
use Rattle.ug_sessions.proofs.send.forget.Goals as goal

pub returns : goal.returns
returns c = filter_same _ stays _ (λ x b q h. (search rules, search rules)) _ _ c.retain.ensures.filtered
