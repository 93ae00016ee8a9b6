-- The daemon's tests of rules decide just what the headline's rules say.
use Rattle.std.proofs.Common.{◌≡◌, ℕ, List, [], ◌∷◌, Bool, ◌&&◌, true, false, length, Option, Some, None, IsTrue, subst, sym, refl, inl, inr, nat_eq, arith}
use Rattle.std.specs.Bool.{Decides}
use Rattle.std.specs.Cmp.Lexicographic.{bytes_decides}
use Rattle.std.specs.List.{list_all, list_any, zip}
use Rattle.std.proofs.lemmas.Bool.Decides.{Decides-and, Decides-not, Decides-like, Decides-eqb}
use Rattle.ug_types.specs.Elements.{Has}
use Rattle.ug_types.specs.declared.record.DeviceRecord.{DeviceRecord}
use Rattle.ug_types.specs.declared.record.Triple.{Triple}
use Rattle.ug_types.specs.declared.rule.Cond.{Cond}
use Rattle.ug_types.specs.declared.rule.CondKind.{CondKind}
use Rattle.ug_types.specs.declared.rule.CondKind.TheVariants as kind
use Rattle.ug_types.specs.declared.rule.Conds.{Conds}
use Rattle.ug_types.specs.declared.rule.Id.{Id}
use Rattle.ug_types.specs.declared.rule.Iface.{Iface}
use Rattle.ug_types.specs.declared.rule.Op.{Op}
use Rattle.ug_types.specs.declared.rule.Op.TheVariants.{AllOf, OneOf, NoneOf, Equals, EqualsOrdered}
use Rattle.ug_types.specs.declared.rule.Query.{Query}
use Rattle.ug_types.specs.declared.rule.Values.{Values}
use Rattle.ug_types.specs.declared.verdict.Moment.{Moment}
use Rattle.ug_match.specs.Covers.{covers_id, covers_interface, covers_number, covers_text}
use Rattle.ug_match.specs.Operators.{holds, is_matched, matches_some}
use Rattle.ug_match.specs.Queries.{attribute, query_matches}
use Rattle.ug_match.specs.declared.covers.DeviceId.{DeviceId}
use Rattle.ug_match.proofs.Membership.{all_decides, any_decides, ordered_decides}
use Rattle.ug_cond.specs.declared.context.Context.{Context}
use Rattle.ug_cond.specs.declared.history.History.{History}
use Rattle.ug_cond.specs.Judgements.{IsHistory, Judgement}
use Rattle.ug_cond.specs.Truth.{ConditionHolds, ConditionsHold, IsRecent, IsSo, PassBy, unless_negated}
use Rattle.ug_cond.specs.Words.{with_words}
use Rattle.ug_cond.proofs.Truths.{conditions_decide}
use Rattle.ug_policy.specs.Deciding.{rule_conditions_hold}
use Rattle.ug_headline.specs.Rules.{Attribute, Compare, Hold, MatchInOrder, MatchesId, MatchesInterface, MatchesNumber, MatchesText, IsTrueNow, IsNoOlder, Matches, PassAs, PassesNow, Unless}

-- values

number_decides : (given : Option ℕ) (n : ℕ) → Decides (covers_number given n) (MatchesNumber given n)
number_decides None n = (λ h. tt, λ h. refl)
number_decides (Some m) n = Decides-eqb m n

id_decides : (rule : Id) (device : DeviceId) → Decides (covers_id rule device) (MatchesId rule device)
id_decides rule device = Decides-and (covers_number rule.vendor device.vendor) (covers_number rule.product device.product) (number_decides rule.vendor device.vendor) (number_decides rule.product device.product)

interface_decides : (rule : Iface) (device : Triple) → Decides (covers_interface rule device) (MatchesInterface rule device)
interface_decides rule device =
    let one = nat_eq rule.class device.class in
    let two = covers_number rule.subclass device.subclass in
    let three = covers_number rule.protocol device.protocol in
    Decides-like {P = ((rule.class ≡ device.class) × MatchesNumber rule.subclass device.subclass) × MatchesNumber rule.protocol device.protocol} (covers_interface rule device) (λ h. (h.0.0, h.0.1, h.1)) (λ h. ((h.0, h.1), h.2))
    (Decides-and (one && two) three (Decides-and one two (Decides-eqb rule.class device.class) (number_decides rule.subclass device.subclass)) (number_decides rule.protocol device.protocol))

-- operators

module _ {X Y : Type 0} (covers : X → Y → Bool) (Is : X → Y → Type 0) (each : (x : X) (y : Y) → Decides (covers x y) (Is x y)) where
  abbrev Pairs : List X → List Y → Type 0
  Pairs xs ys = (length xs ≡ length ys) × ((pair : X × Y) → Has (zip xs ys) pair → IsTrue (covers pair.0 pair.1))

  to_order : (xs : List X) (ys : List Y) → Pairs xs ys → MatchInOrder Is xs ys
  to_order [] [] h = tt
  to_order [] (y ∷ ys) h = let e : 0 ≡ length (y ∷ ys) = h.0 in let none : ⊥ = grind arith in absurd none
  to_order (x ∷ xs) [] h = let e : length (x ∷ xs) ≡ 0 = h.0 in let none : ⊥ = grind arith in absurd none
  to_order (x ∷ xs) (y ∷ ys) h =
      let e : length (x ∷ xs) ≡ length (y ∷ ys) = h.0 in
      let rest : length xs ≡ length ys = grind arith in
      ((each x y).0 (h.1 (x, y) (inl refl)), to_order xs ys (rest, λ pair a. h.1 pair (inr a)))

  from_order : (xs : List X) (ys : List Y) → MatchInOrder Is xs ys → Pairs xs ys
  from_order [] [] h = (refl, λ pair a. absurd a)
  from_order [] (y ∷ ys) h = absurd h
  from_order (x ∷ xs) [] h = absurd h
  from_order (x ∷ xs) (y ∷ ys) h =
      let k = from_order xs ys h.1 in
      let e : length xs ≡ length ys = k.0 in
      let all : length (x ∷ xs) ≡ length (y ∷ ys) = grind arith in
      (all, λ pair a. elim a [ inl is ↦ subst (λ (p : X × Y). IsTrue (covers p.0 p.1)) is ((each x y).1 h.0) | inr b ↦ k.1 pair b ])

  pub compare_decides : (op : Op) (xs : List X) (ys : List Y) → Decides (holds covers op xs ys) (Compare Is op xs ys)
  compare_decides AllOf xs ys = all_decides (matches_some covers ys) (λ x. (y : Y) × Has ys y × Is x y) (λ x. any_decides (λ y. covers x y) (λ y. Is x y) (λ y. each x y) ys) xs
  compare_decides OneOf xs ys = any_decides (matches_some covers ys) (λ x. (y : Y) × Has ys y × Is x y) (λ x. any_decides (λ y. covers x y) (λ y. Is x y) (λ y. each x y) ys) xs
  compare_decides NoneOf xs ys = Decides-not (list_any (matches_some covers ys) xs) (any_decides (matches_some covers ys) (λ x. (y : Y) × Has ys y × Is x y) (λ x. any_decides (λ y. covers x y) (λ y. Is x y) (λ y. each x y) ys) xs)
  compare_decides Equals xs ys = Decides-and (list_all (matches_some covers ys) xs) (list_all (is_matched covers xs) ys)
      (all_decides (matches_some covers ys) (λ x. (y : Y) × Has ys y × Is x y) (λ x. any_decides (λ y. covers x y) (λ y. Is x y) (λ y. each x y) ys) xs)
      (all_decides (is_matched covers xs) (λ y. (x : X) × Has xs x × Is x y) (λ y. any_decides (λ x. covers x y) (λ x. Is x y) (λ x. each x y) xs) ys)
  compare_decides EqualsOrdered xs ys = Decides-like {P = Pairs xs ys} (holds covers EqualsOrdered xs ys) (to_order xs ys) (from_order xs ys) (ordered_decides covers xs ys)

  pub attribute_decides : (given : Option (Values X)) (ys : List Y) → Decides (attribute covers given ys) (Attribute Is given ys)
  attribute_decides None ys = (λ h. tt, λ h. refl)
  attribute_decides (Some values) ys = compare_decides values.op values.items ys

-- queries

pub matches_decides : (query : Query) (device : DeviceRecord) → Decides (query_matches query device) (Matches query device)
unfolding query_matches
matches_decides query device =
    let own : DeviceId = record { vendor = device.vendor; product = device.product } in
    let text : (given : Option (Values (List ℕ))) (value : List ℕ) → Decides (attribute covers_text given (value ∷ [])) (Attribute MatchesText given (value ∷ [])) = λ given value. attribute_decides covers_text MatchesText bytes_decides given (value ∷ []) in
    let a = attribute covers_id query.id (own ∷ []) in
    let b = attribute covers_text query.serial (device.serial ∷ []) in
    let c = attribute covers_text query.name (device.name ∷ []) in
    let d = attribute covers_text query.hash (device.hash ∷ []) in
    let e = attribute covers_text query.parent_hash (device.parent_hash ∷ []) in
    let f = attribute covers_text query.via_port (device.via_port ∷ []) in
    let g = attribute covers_interface query.interface device.interfaces in
    let h = attribute covers_text query.connect (device.connect ∷ []) in
    Decides-like (query_matches query device)
    (λ m. record { id = m.0.0.0.0.0.0.0; serial = m.0.0.0.0.0.0.1; name = m.0.0.0.0.0.1; hash = m.0.0.0.0.1; parent_hash = m.0.0.0.1; via_port = m.0.0.1; interface = m.0.1; connect = m.1 })
    (λ m. (((((((m.id, m.serial), m.name), m.hash), m.parent_hash), m.via_port), m.interface), m.connect))
    (Decides-and (a && b && c && d && e && f && g) h
    (Decides-and (a && b && c && d && e && f) g
    (Decides-and (a && b && c && d && e) f
    (Decides-and (a && b && c && d) e
    (Decides-and (a && b && c) d
    (Decides-and (a && b) c
    (Decides-and a b (attribute_decides covers_id MatchesId id_decides query.id (own ∷ [])) (text query.serial device.serial))
    (text query.name device.name)) (text query.hash device.hash)) (text query.parent_hash device.parent_hash)) (text query.via_port device.via_port))
    (attribute_decides covers_interface MatchesInterface interface_decides query.interface device.interfaces)) (text query.connect device.connect))

-- conditions

to_within : (past : Option ℕ) (now m : Moment) → IsRecent past now m → IsNoOlder past now m
to_within None now m h = tt
to_within (Some n) now m h = h

from_within : (past : Option ℕ) (now m : Moment) → IsNoOlder past now m → IsRecent past now m
from_within None now m h = tt
from_within (Some n) now m h = h

module _ (judgements : List Judgement) (id : ℕ) (ctx : Context) (beside : List DeviceRecord) where
  to_now : (word : ℕ) (k : CondKind) → IsSo judgements id ctx beside word k → IsTrueNow judgements id ctx beside word k
  to_now word (kind.LocalTime begin end) h = h
  to_now word (kind.AllowedMatches query) h = (h.0, h.1, (matches_decides query h.0).0 h.2)
  to_now word (kind.RuleApplied past) h = let w = h.1 in (w.0, w.1, w.2, subst (λ (x : Moment). IsNoOlder past ctx.moment x) (sym w.3) (to_within past ctx.moment h.0 h.2))
  to_now word (kind.RuleEvaluated past) h = let w = h.1 in (w.0, w.1, w.2, subst (λ (x : Moment). IsNoOlder past ctx.moment x) (sym w.3) (to_within past ctx.moment h.0 h.2))
  to_now word (kind.Random billionths) h = h
  to_now word kind.True h = tt
  to_now word kind.False h = h

  from_now : (word : ℕ) (k : CondKind) → IsTrueNow judgements id ctx beside word k → IsSo judgements id ctx beside word k
  from_now word (kind.LocalTime begin end) h = h
  from_now word (kind.AllowedMatches query) h = (h.0, h.1, (matches_decides query h.0).1 h.2)
  from_now word (kind.RuleApplied past) h = (h.0.moment, (h.0, h.1, h.2, refl), from_within past ctx.moment h.0.moment h.3)
  from_now word (kind.RuleEvaluated past) h = (h.0.moment, (h.0, h.1, h.2, refl), from_within past ctx.moment h.0.moment h.3)
  from_now word (kind.Random billionths) h = h
  from_now word kind.True h = tt
  from_now word kind.False h = h

  to_passes : (c : Cond × ℕ) → ConditionHolds judgements id ctx beside c → PassesNow judgements id ctx beside c
  to_passes c = by c.0.negated
    where
      by : (b : Bool) → unless_negated b (IsSo judgements id ctx beside c.1 c.0.kind) → Unless b (IsTrueNow judgements id ctx beside c.1 c.0.kind)
      by true h = λ x. h (from_now c.1 c.0.kind x)
      by false h = to_now c.1 c.0.kind h

  from_passes : (c : Cond × ℕ) → PassesNow judgements id ctx beside c → ConditionHolds judgements id ctx beside c
  from_passes c = by c.0.negated
    where
      by : (b : Bool) → Unless b (IsTrueNow judgements id ctx beside c.1 c.0.kind) → unless_negated b (IsSo judgements id ctx beside c.1 c.0.kind)
      by true h = λ x. h (to_now c.1 c.0.kind x)
      by false h = from_now c.1 c.0.kind h

  to_pass : (op : Op) (cs : List (Cond × ℕ)) → PassBy op (ConditionHolds judgements id ctx beside) cs → PassAs op (PassesNow judgements id ctx beside) cs
  to_pass AllOf cs h = λ c a. to_passes c (h c a)
  to_pass OneOf cs h = (h.0, h.1, to_passes h.0 h.2)
  to_pass NoneOf cs h = λ c a x. h c a (from_passes c x)
  to_pass Equals cs h = λ c a. to_passes c (h c a)
  to_pass EqualsOrdered cs h = λ c a. to_passes c (h c a)

  from_pass : (op : Op) (cs : List (Cond × ℕ)) → PassAs op (PassesNow judgements id ctx beside) cs → PassBy op (ConditionHolds judgements id ctx beside) cs
  from_pass AllOf cs h = λ c a. from_passes c (h c a)
  from_pass OneOf cs h = (h.0, h.1, from_passes h.0 h.2)
  from_pass NoneOf cs h = λ c a x. h c a (to_passes c x)
  from_pass Equals cs h = λ c a. from_passes c (h c a)
  from_pass EqualsOrdered cs h = λ c a. from_passes c (h c a)

  pub hold_decides : (history : History) (conds : Option Conds) (words : List ℕ) → IsHistory judgements id history → Decides (rule_conditions_hold history ctx beside conds words) (Hold judgements id ctx beside conds words)
  hold_decides history None words h = (λ t. tt, λ t. refl)
  hold_decides history (Some conds) words h =
      Decides-like {P = ConditionsHold judgements id ctx beside conds words} (rule_conditions_hold history ctx beside (Some conds) words) (to_pass conds.op (with_words conds.items words)) (from_pass conds.op (with_words conds.items words))
      (conditions_decide judgements id history ctx beside conds words h)
