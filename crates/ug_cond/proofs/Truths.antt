-- What is kept of a rule's past, against all judgements.
use Rattle.std.proofs.Common.{◌≡◌, ℕ, ◌<◌, ◌≤◌, List, Bool, true, false, not, Option, Some, None, IsTrue, refl, arith, inl, inr, cond, nat_le, ◌*◌, ◌^◌, ◌&&◌, ◌||◌}
use Rattle.std.specs.Bool.{Decides}
use Rattle.std.specs.List.{list_all, list_any}
use Rattle.std.proofs.lemmas.Bool.Decides.{Decides-not, Decides-like, nat_tests}
use Rattle.ug_types.specs.Elements.{Has}
use Rattle.ug_types.specs.declared.record.DeviceRecord.{DeviceRecord}
use Rattle.ug_types.specs.declared.rule.Cond.{Cond}
use Rattle.ug_types.specs.declared.rule.CondKind.{CondKind}
use Rattle.ug_types.specs.declared.rule.CondKind.TheVariants as kind
use Rattle.ug_types.specs.declared.rule.Conds.{Conds}
use Rattle.ug_types.specs.declared.rule.Op.{Op}
use Rattle.ug_types.specs.declared.rule.Op.TheVariants.{AllOf, OneOf, NoneOf, Equals, EqualsOrdered}
use Rattle.ug_types.specs.declared.verdict.Moment.{Moment}
use Rattle.ug_match.specs.Queries.{query_matches}
use Rattle.ug_match.proofs.Membership.{all_decides, any_decides, itself}
use Rattle.ug_cond.specs.declared.context.Context.{Context}
use Rattle.ug_cond.specs.declared.history.History.{History}
use Rattle.ug_cond.specs.Conditions.{is_in_time, is_recent, was_recent, is_drawn, is_so, condition_holds, by_operator, conditions_hold}
use Rattle.ug_cond.specs.Judgements.{Judgement, WasApplied, WasEvaluated, IsGreatest, IsHistory}
use Rattle.ug_cond.specs.Truth.{IsInTime, IsRecent, IsSo, unless_negated, ConditionHolds, PassBy, ConditionsHold}
use Rattle.ug_cond.specs.Words.{with_words}

time_decides : (begin end second : ℕ) → Decides (is_in_time begin end second) (IsInTime begin end second)
time_decides begin end second =
    let T : Bool → Type 0 = λ b. nat_le begin end ≡ b → Decides (cond b (nat_le begin second && nat_le second end) (nat_le begin second || nat_le second end)) (IsInTime begin end second) in
    let f : (b : Bool) → T b = λ b. elim b as T [
      | true ↦ λ e. (λ h. inl (grind (arith, nat_tests)), λ w. elim w [ inl a ↦ grind (arith, nat_tests) | inr a ↦ absurd (let le : begin ≤ end = grind arith in omega arith) ])
      | false ↦ λ e. (λ h. inr (grind (arith, nat_tests)), λ w. elim w [ inl a ↦ absurd (let lt : end < begin = grind arith in omega arith) | inr a ↦ grind (arith, nat_tests) ])
    ] in
    f (nat_le begin end) refl

recent_decides : (past : Option ℕ) (now moment : Moment) → Decides (is_recent past now moment) (IsRecent past now moment)
recent_decides None now moment = (λ h. tt, λ h. refl)
recent_decides (Some past) now moment = (λ h. grind arith, λ h. grind arith)

-- a later moment is as recent
later_recent : (past : Option ℕ) (now moment later : Moment) → moment.0 ≤ later.0 → IsRecent past now moment → IsRecent past now later
later_recent None now moment later le h = tt
later_recent (Some past) now moment later le h = omega arith

was_decides : (Was : Moment → Type 0) (past : Option ℕ) (now : Moment) (kept : Option Moment) → IsGreatest Was kept → Decides (was_recent past now kept) ((m : Moment) × Was m × IsRecent past now m)
was_decides Was past now None g = (λ h. let none : ⊥ = cc in absurd none, λ w. absurd (g w.0 w.1))
was_decides Was past now (Some kept) g = (λ h. (kept, g.0, (recent_decides past now kept).0 h), λ w. (recent_decides past now kept).1 (later_recent past now w.0 kept (g.1 w.0 w.1) w.2))

drawn_decides : (billionths word : ℕ) → Decides (is_drawn billionths word) (word * 1000000000 < billionths * 2 ^ 64)
drawn_decides billionths word = (λ h. grind arith, λ h. grind arith)

so_decides : (judgements : List Judgement) (id : ℕ) (history : History) (ctx : Context) (records : List DeviceRecord) (word : ℕ) (k : CondKind) → IsHistory judgements id history → Decides (is_so history ctx records word k) (IsSo judgements id ctx records word k)
so_decides judgements id history ctx records word (kind.LocalTime begin end) h = time_decides begin end ctx.second
so_decides judgements id history ctx records word (kind.AllowedMatches query) h = any_decides (λ r. query_matches query r) (λ r. IsTrue (query_matches query r)) (λ r. itself (query_matches query r)) records
so_decides judgements id history ctx records word (kind.RuleApplied past) h = was_decides (WasApplied judgements id) past ctx.moment history.applied h.1
so_decides judgements id history ctx records word (kind.RuleEvaluated past) h = was_decides (WasEvaluated judgements id) past ctx.moment history.evaluated h.0
so_decides judgements id history ctx records word (kind.Random billionths) h = drawn_decides billionths word
so_decides judgements id history ctx records word kind.True h = (λ t. tt, λ t. refl)
so_decides judgements id history ctx records word kind.False h = (λ t. let none : ⊥ = cc in absurd none, λ t. absurd t)

unless_decides : (b negated : Bool) (P : Type 0) → Decides b P → Decides (cond negated (not b) b) (unless_negated negated P)
unless_decides b true P d = Decides-not b d
unless_decides b false P d = d

pub condition_decides : (judgements : List Judgement) (id : ℕ) (history : History) (ctx : Context) (records : List DeviceRecord) (c : Cond × ℕ) → IsHistory judgements id history → Decides (condition_holds history ctx records c) (ConditionHolds judgements id ctx records c)
condition_decides judgements id history ctx records c h = unless_decides (is_so history ctx records c.1 c.0.kind) c.0.negated (IsSo judgements id ctx records c.1 c.0.kind) (so_decides judgements id history ctx records c.1 c.0.kind h)

passes_decide : {X : Type 0} (op : Op) (passes : X → Bool) (Passes : X → Type 0) → ((x : X) → Decides (passes x) (Passes x)) → (xs : List X) → Decides (by_operator op (list_all passes xs) (list_any passes xs)) (PassBy op Passes xs)
passes_decide AllOf passes Passes each xs = all_decides passes Passes each xs
passes_decide OneOf passes Passes each xs = any_decides passes Passes each xs
passes_decide {X} NoneOf passes Passes each xs = Decides-like {P = ¬ ((x : X) × Has xs x × Passes x)} (not (list_any passes xs)) (λ h x m p. h (x, m, p)) (λ h s. h s.0 s.1 s.2) (Decides-not (list_any passes xs) (any_decides passes Passes each xs))
passes_decide Equals passes Passes each xs = all_decides passes Passes each xs
passes_decide EqualsOrdered passes Passes each xs = all_decides passes Passes each xs

pub conditions_decide : (judgements : List Judgement) (id : ℕ) (history : History) (ctx : Context) (records : List DeviceRecord) (conds : Conds) (words : List ℕ) → IsHistory judgements id history → Decides (conditions_hold history ctx records conds words) (ConditionsHold judgements id ctx records conds words)
conditions_decide judgements id history ctx records conds words h = passes_decide conds.op (condition_holds history ctx records) (ConditionHolds judgements id ctx records) (λ c. condition_decides judgements id history ctx records c h) (with_words conds.items words)
