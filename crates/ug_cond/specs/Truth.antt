-- Whether conditions hold, by all judgements since the start.
use Rattle.std.specs.Prelude.{ℕ, ◌+◌, ◌*◌, ◌^◌, ◌<◌, ◌≤◌, ◌⊎◌, List, Bool, true, false, IsTrue, Option, Some, None}
use Rattle.ug_types.specs.Elements.{Has}
use Rattle.ug_types.specs.declared.record.DeviceRecord.{DeviceRecord}
use Rattle.ug_types.specs.declared.rule.Cond.{Cond}
use Rattle.ug_types.specs.declared.rule.CondKind.{CondKind}
use Rattle.ug_types.specs.declared.rule.CondKind.TheVariants as kind
use Rattle.ug_types.specs.declared.rule.Conds.{Conds}
use Rattle.ug_types.specs.declared.rule.Op.{Op}
use Rattle.ug_types.specs.declared.rule.Op.TheVariants.{AllOf, OneOf, NoneOf, Equals, EqualsOrdered}
use Rattle.ug_types.specs.declared.verdict.Moment.{Moment}
use Rattle.ug_match.specs.Queries.{query_matches}
use Rattle.ug_cond.specs.declared.context.Context.{Context}
use Rattle.ug_cond.specs.Judgements.{Judgement, WasApplied, WasEvaluated}
use Rattle.ug_cond.specs.Words.{with_words}

-- the second is in the span, or in one that goes on into the next day
abbrev pub IsInTime : ℕ → ℕ → ℕ → Type 0
IsInTime begin end second =
    ((begin ≤ end) × (begin ≤ second) × (second ≤ end))
    ⊎ ((end < begin) × ((begin ≤ second) ⊎ (second ≤ end)))

-- the moment is that many seconds ago, or fewer; where no number is given, each moment will do
abbrev pub IsRecent : Option ℕ → Moment → Moment → Type 0
IsRecent None now moment = Unit {0}
IsRecent (Some past) now moment = now.0 ≤ moment.0 + past

-- a condition of the rule without its negation; the word is for a random one
abbrev pub IsSo : List Judgement → ℕ → Context → List DeviceRecord → ℕ → CondKind → Type 0
IsSo judgements id ctx records word (kind.LocalTime begin end) = IsInTime begin end ctx.second
IsSo judgements id ctx records word (kind.AllowedMatches query) =
    (r : DeviceRecord) × Has records r × IsTrue (query_matches query r)
IsSo judgements id ctx records word (kind.RuleApplied past) =
    (m : Moment) × WasApplied judgements id m × IsRecent past ctx.moment m
IsSo judgements id ctx records word (kind.RuleEvaluated past) =
    (m : Moment) × WasEvaluated judgements id m × IsRecent past ctx.moment m
IsSo judgements id ctx records word (kind.Random billionths) =
    word * 1000000000 < billionths * 2 ^ 64
IsSo judgements id ctx records word kind.True = Unit {0}
IsSo judgements id ctx records word kind.False = ⊥

abbrev pub unless_negated : Bool → Type 0 → Type 0
unless_negated true P = ¬ P
unless_negated false P = P

abbrev pub ConditionHolds : List Judgement → ℕ → Context → List DeviceRecord → Cond × ℕ → Type 0
ConditionHolds judgements id ctx records c =
    unless_negated c.0.negated (IsSo judgements id ctx records c.1 c.0.kind)

-- all must pass, or one, or none
abbrev pub PassBy : {X : Type 0} → Op → (X → Type 0) → List X → Type 0
PassBy {X} AllOf Passes xs = (x : X) → Has xs x → Passes x
PassBy {X} OneOf Passes xs = (x : X) × Has xs x × Passes x
PassBy {X} NoneOf Passes xs = (x : X) → Has xs x → ¬ Passes x
PassBy {X} Equals Passes xs = (x : X) → Has xs x → Passes x
PassBy {X} EqualsOrdered Passes xs = (x : X) → Has xs x → Passes x

-- by their operator
abbrev pub ConditionsHold : List Judgement → ℕ → Context → List DeviceRecord → Conds → List ℕ
    → Type 0
ConditionsHold judgements id ctx records conds words =
    PassBy conds.op (ConditionHolds judgements id ctx records) (with_words conds.items words)
