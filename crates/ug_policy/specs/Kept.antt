-- What the histories of rules stand for.
use Rattle.std.specs.Prelude.{◌≡◌, ℕ, ◌<◌, List, Some}
use Rattle.ug_types.specs.Elements.{Has}
use Rattle.ug_cond.specs.Judgements.{Judgement, IsHistory}
use Rattle.ug_policy.specs.declared.entry.RuleEntry.{RuleEntry}

-- the judgements speak of ids that were given, and each rule's history is what they say of it
pub record StandsFor (entries : List RuleEntry) (next : ℕ)
    (judgements : List Judgement) : Type 0 where
  pub evaluated : (j : Judgement) (id : ℕ) → Has judgements j → Has j.evaluated id → id < next
  pub applied : (j : Judgement) (id : ℕ) → Has judgements j → j.applied ≡ Some id → id < next
  pub histories : (e : RuleEntry) → Has entries e → IsHistory judgements e.id e.history
