-- Judgements by rules, and what is kept of them for a rule.
use Rattle.std.specs.Prelude.{◌≡◌, ℕ, ◌≤◌, List, Option, Some, None}
use Rattle.ug_types.specs.Elements.{Has}
use Rattle.ug_types.specs.declared.verdict.Moment.{Moment}
use Rattle.ug_cond.specs.declared.history.History.{History}

-- when a device was judged, the ids of the rules that were evaluated, and the id of the one that
-- decided
pub record Judgement : Type 0 where
  pub moment : Moment
  pub evaluated : List ℕ
  pub applied : Option ℕ

-- at that moment a judgement evaluated the rule
abbrev pub WasEvaluated : List Judgement → ℕ → Moment → Type 0
WasEvaluated judgements id moment =
    (j : Judgement) × Has judgements j × Has j.evaluated id × (j.moment ≡ moment)

-- at that moment the rule decided
abbrev pub WasApplied : List Judgement → ℕ → Moment → Type 0
WasApplied judgements id moment =
    (j : Judgement) × Has judgements j × (j.applied ≡ Some id) × (j.moment ≡ moment)

-- the greatest moment of a kind, and None where there is none
abbrev pub IsGreatest : (Moment → Type 0) → Option Moment → Type 0
IsGreatest Was None = (m : Moment) → ¬ Was m
IsGreatest Was (Some kept) = Was kept × ((m : Moment) → Was m → m.0 ≤ kept.0)

-- a history stands for what the judgements say of the rule
abbrev pub IsHistory : List Judgement → ℕ → History → Type 0
IsHistory judgements id history =
    IsGreatest (WasEvaluated judgements id) history.evaluated
    × IsGreatest (WasApplied judgements id) history.applied
