-- Which places are among the candidates.
use Rattle.std.proofs.Common.{◌≡◌, ℕ, zero, suc, ◌+◌, ◌<◌, List, [], ◌∷◌, ◌++◌, Bool, true, false, cond, ◌&&◌, ◌||◌, nat_eq, nat_le, Option, Some, None, length, get_or, take, drop, map, arith, refl, sym, ap, ◌∙◌, subst, inl, inr}
use Rattle.std.specs.Prelude.{IsTrue, slice_get}
use Rattle.std.specs.List.{insert, remove}
use Rattle.std.specs.List.Sorted.{IsStrictlyIncreasing}
use Rattle.std.proofs.lemmas.Bool.{and_parts, cond-true, eq-eqb, eqb-true, leb-true}
use Rattle.std.proofs.lemmas.Option.{same_Some, none-some}
use Rattle.ug_types.specs.Elements.{Has}
use Rattle.ug_types.specs.declared.record.DeviceRecord.{DeviceRecord}
use Rattle.ug_types.specs.declared.rule.Id.{Id}
use Rattle.ug_types.specs.declared.rule.Op.{Op}
use Rattle.ug_types.specs.declared.rule.Op.TheVariants.{AllOf, OneOf, NoneOf, Equals, EqualsOrdered}
use Rattle.ug_types.specs.declared.rule.Values.{Values}
use Rattle.ug_types.specs.declared.rule.Query.{Query}
use Rattle.ug_match.specs.Covers.{covers_id, covers_interface, covers_number, covers_text}
use Rattle.ug_match.specs.Operators.{holds}
use Rattle.ug_match.specs.Queries.{attribute, query_matches}
use Rattle.ug_policy.specs.declared.reach.Reach.{Reach}
use Rattle.ug_policy.specs.declared.reach.Reach.TheVariants as reach
use Rattle.ug_policy.specs.Candidates.{AreCandidates}
use Rattle.ug_policy.specs.Places.{all_from, places_by, places_from, places_of, reaches_to}
use Rattle.ug_policy.specs.Reaches.{can_match, reach_of, reach_of_attribute, reach_of_numbers, reach_of_values, remainder}
use Rattle.ug_policy.proofs.Exact.{AllBelow, places_behind, places_below}
use Rattle.ug_policy.proofs.Narrow.{narrow_there}

-- a rule that can match an id is in the list of its remainder
reach_numbers : (a b : Option ℕ) (vendor product : ℕ) → (covers_number a vendor && covers_number b product) ≡ true → reaches_to (remainder vendor product) (reach_of_numbers a b) ≡ true
reach_numbers None b vendor product h = refl
reach_numbers (Some a) None vendor product h = refl
reach_numbers (Some a) (Some b) vendor product h =
    let both = and_parts (nat_eq a vendor) (nat_eq b product) h in
    let v : a ≡ vendor = eqb-true a vendor both.0 in
    let p : b ≡ product = eqb-true b product both.1 in
    eq-eqb (remainder a b) (remainder vendor product) (ap (λ (n : ℕ). remainder n b) v ∙ ap (λ (n : ℕ). remainder vendor n) p)

only_all : (b : Bool) → ((b || false) && true) ≡ true → b ≡ true
only_all true h = refl
only_all false h = h

only_one : (b : Bool) → ((b || false) || false) ≡ true → b ≡ true
only_one true h = refl
only_one false h = h

only_equals : (b : Bool) → (((b || false) && true) && ((b || false) && true)) ≡ true → b ≡ true
only_equals true h = refl
only_equals false h = h

only_ordered : (b : Bool) → (b && true) ≡ true → b ≡ true
only_ordered true h = refl
only_ordered false h = h

reach_values : (op : Op) (ids : List Id) (vendor product : ℕ) → holds covers_id op ids (record { vendor = vendor; product = product } ∷ []) ≡ true → reaches_to (remainder vendor product) (reach_of_values op ids) ≡ true
reach_values NoneOf ids vendor product h = refl
reach_values AllOf [] vendor product h = refl
reach_values AllOf (id ∷ []) vendor product h = reach_numbers id.vendor id.product vendor product (only_all (covers_id id (record { vendor = vendor; product = product })) h)
reach_values AllOf (id ∷ other ∷ ids) vendor product h = refl
reach_values OneOf [] vendor product h = refl
reach_values OneOf (id ∷ []) vendor product h = reach_numbers id.vendor id.product vendor product (only_one (covers_id id (record { vendor = vendor; product = product })) h)
reach_values OneOf (id ∷ other ∷ ids) vendor product h = refl
reach_values Equals [] vendor product h = refl
reach_values Equals (id ∷ []) vendor product h = reach_numbers id.vendor id.product vendor product (only_equals (covers_id id (record { vendor = vendor; product = product })) h)
reach_values Equals (id ∷ other ∷ ids) vendor product h = refl
reach_values EqualsOrdered [] vendor product h = refl
reach_values EqualsOrdered (id ∷ []) vendor product h = reach_numbers id.vendor id.product vendor product (only_ordered (covers_id id (record { vendor = vendor; product = product })) h)
reach_values EqualsOrdered (id ∷ other ∷ ids) vendor product h = refl

pub reach_query : (query : Query) (vendor product : ℕ) → IsTrue (can_match query vendor product) → reaches_to (remainder vendor product) (reach_of query) ≡ true
reach_query query vendor product h = of_attribute query.id h where
  of_attribute : (values : Option (Values Id)) → attribute covers_id values (record { vendor = vendor; product = product } ∷ []) ≡ true → reaches_to (remainder vendor product) (reach_of_attribute values) ≡ true
  of_attribute None h = refl
  of_attribute (Some values) h = reach_values values.op values.items vendor product h

first_of : (a b c d e f g h : Bool) → (a && b && c && d && e && f && g && h) ≡ true → a ≡ true
first_of true b c d e f g h t = refl
first_of false b c d e f g h t = t

-- a query that matches a device can match its id
pub can_as_matches : (query : Query) (dev : DeviceRecord) → query_matches query dev ≡ true → can_match query dev.vendor dev.product ≡ true
unfolding query_matches
can_as_matches query dev h = first_of
    (can_match query dev.vendor dev.product)
    (attribute covers_text query.serial (dev.serial ∷ []))
    (attribute covers_text query.name (dev.name ∷ []))
    (attribute covers_text query.hash (dev.hash ∷ []))
    (attribute covers_text query.parent_hash (dev.parent_hash ∷ []))
    (attribute covers_text query.via_port (dev.via_port ∷ []))
    (attribute covers_interface query.interface dev.interfaces)
    (attribute covers_text query.connect (dev.connect ∷ []))
    h

-- the places rise
rise_first : (s : ℕ) (ps : List ℕ) → all_from (suc s) ps ≡ true → IsStrictlyIncreasing ps → IsStrictlyIncreasing (s ∷ ps)
rise_first s [] a h = λ k lt. absurd (omega arith)
rise_first s (p ∷ ps) a h = at_place where
  at_place : (k : ℕ) → k + 1 < suc (suc (length ps)) → get_or (s ∷ p ∷ ps) k 0 < get_or (s ∷ p ∷ ps) (k + 1) 0
  at_place zero lt = leb-true (suc s) p (and_parts (nat_le (suc s) p) (all_from (suc s) ps) a).0
  at_place (suc k) lt =
      let more : suc (k + 1) ≡ suc k + 1 = omega arith in
      subst (λ (n : ℕ). get_or (p ∷ ps) k 0 < get_or (s ∷ p ∷ ps) n 0) more (h k (omega arith))

pub places_rise : (kept : Reach → Bool) (s : ℕ) (xs : List Reach) → IsStrictlyIncreasing (places_from kept s xs)
places_rise kept s [] = λ k lt. absurd (omega arith)
places_rise kept s (x ∷ xs) = elim (kept x) as (λ (b : Bool). IsStrictlyIncreasing (cond b (s ∷ places_from kept (suc s) xs) (places_from kept (suc s) xs))) [
  | true ↦ rise_first s (places_from kept (suc s) xs) (places_behind kept (suc s) (suc s) xs (omega arith)) (places_rise kept (suc s) xs)
  | false ↦ places_rise kept (suc s) xs
]

below_has : (n : ℕ) (ps : List ℕ) (k : ℕ) → AllBelow n ps → Has ps k → k < n
below_has n [] k h m = absurd m
below_has n (p ∷ ps) k h (inl same) = omega (arith, h.0, same)
below_has n (p ∷ ps) k h (inr m) = below_has n ps k h.1 m

long_map : (queries : List Query) → length (map reach_of queries) ≡ length queries
long_map [] = refl
long_map (q ∷ queries) = ap suc (long_map queries)

-- a rule's place is in a list just where its reach passes the test
pub place_there : (kept : Reach → Bool) (s at : ℕ) (queries : List Query) (k : ℕ) (query : Query) → at ≡ s + k → slice_get queries k ≡ Some query → kept (reach_of query) ≡ true → Has (places_from kept s (map reach_of queries)) at
place_there kept s at [] k query same there h = absurd (none-some query there)
place_there kept s at (q ∷ queries) zero query same there h =
    let here : s ≡ at = omega arith in
    let first : kept (reach_of q) ≡ true = ap (λ (v : Query). kept (reach_of v)) (same_Some q query there) ∙ h in
    subst (λ (ps : List ℕ). Has ps at) (sym (cond-true (kept (reach_of q)) (s ∷ places_from kept (suc s) (map reach_of queries)) (places_from kept (suc s) (map reach_of queries)) first)) (inl here)
place_there kept s at (q ∷ queries) (suc k) query same there h =
    let later = place_there kept (suc s) at queries k query (omega arith) there h in
    elim (kept (reach_of q)) as (λ (b : Bool). Has (cond b (s ∷ places_from kept (suc s) (map reach_of queries)) (places_from kept (suc s) (map reach_of queries))) at) [ true ↦ inr later | false ↦ later ]

later_place : (kept : Reach → Bool) (s at : ℕ) (xs : List Reach) → at < s → Has (places_from kept s xs) at → ⊥
later_place kept s at [] lt m = m
later_place kept s at (x ∷ xs) lt m =
    let T : Bool → Type 0 = λ b. Has (cond b (s ∷ places_from kept (suc s) xs) (places_from kept (suc s) xs)) at → ⊥ in
    let f : (b : Bool) → T b = λ b. elim b as T [
      | true ↦ λ h. elim h [ inl same ↦ absurd (omega arith) | inr n ↦ later_place kept (suc s) at xs (omega arith) n ]
      | false ↦ λ h. later_place kept (suc s) at xs (omega arith) h
    ] in
    f (kept x) m

pub place_passes : (kept : Reach → Bool) (s at : ℕ) (queries : List Query) (k : ℕ) (query : Query) → at ≡ s + k → slice_get queries k ≡ Some query → Has (places_from kept s (map reach_of queries)) at → kept (reach_of query) ≡ true
place_passes kept s at [] k query same there m = absurd m
place_passes kept s at (q ∷ queries) zero query same there m =
    let rest = places_from kept (suc s) (map reach_of queries) in
    let T : Bool → Type 0 = λ b. kept (reach_of q) ≡ b → Has (cond b (s ∷ rest) rest) at → kept (reach_of query) ≡ true in
    let f : (b : Bool) → T b = λ b. elim b as T [
      | true ↦ λ e h. ap (λ (v : Query). kept (reach_of v)) (sym (same_Some q query there)) ∙ e
      | false ↦ λ e h. absurd (later_place kept (suc s) at (map reach_of queries) (omega arith) h)
    ] in
    f (kept (reach_of q)) refl m
place_passes kept s at (q ∷ queries) (suc k) query same there m =
    let rest = places_from kept (suc s) (map reach_of queries) in
    let later : Has rest at → kept (reach_of query) ≡ true = place_passes kept (suc s) at queries k query (omega arith) there in
    let T : Bool → Type 0 = λ b. Has (cond b (s ∷ rest) rest) at → kept (reach_of query) ≡ true in
    let f : (b : Bool) → T b = λ b. elim b as T [
      | true ↦ λ h. elim h [ inl here ↦ absurd (omega arith) | inr n ↦ later n ]
      | false ↦ λ h. later h
    ] in
    f (kept (reach_of q)) m

pub candidates_are : (queries : List Query) (vendor product : ℕ) → AreCandidates queries vendor product (places_of (remainder vendor product) (map reach_of queries))
candidates_are queries vendor product =
    let kept : Reach → Bool = reaches_to (remainder vendor product) in
    record {
      rise = places_rise kept 0 (map reach_of queries);
      below = λ k m. below_has (length queries) (places_by kept (map reach_of queries)) k (places_below kept 0 (length queries) (map reach_of queries) (omega (arith, long_map queries))) m;
      complete = λ k query there can. place_there kept 0 k queries k query (omega arith) there (reach_query query vendor product can);
      apart = λ k own_vendor own_product query there narrow other m.
          let own : ℕ = remainder own_vendor own_product in
          let passes : kept (reach.Narrow own) ≡ true = ap kept (sym (narrow_there query own_vendor own_product narrow)) ∙ place_passes kept 0 k queries k query (omega arith) there m in
          other (eqb-true own (remainder vendor product) passes);
    }

-- a map of a list that is changed
map_take : {X Y : Type 0} (f : X → Y) (xs : List X) (n : ℕ) → take n (map f xs) ≡ map f (take n xs)
map_take f xs zero = refl
map_take f [] (suc n) = refl
map_take f (x ∷ xs) (suc n) = ap (λ (v : List _). f x ∷ v) (map_take f xs n)

map_drop : {X Y : Type 0} (f : X → Y) (xs : List X) (n : ℕ) → drop n (map f xs) ≡ map f (drop n xs)
map_drop f xs zero = refl
map_drop f [] (suc n) = refl
map_drop f (x ∷ xs) (suc n) = map_drop f xs n

map_append : {X Y : Type 0} (f : X → Y) (xs ys : List X) → map f (xs ++ ys) ≡ map f xs ++ map f ys
map_append f [] ys = refl
map_append f (x ∷ xs) ys = ap (λ (v : List _). f x ∷ v) (map_append f xs ys)

pub insert_map : {X Y : Type 0} (f : X → Y) (xs : List X) (at : ℕ) (x : X) → insert (map f xs) at (f x) ≡ map f (insert xs at x)
insert_map {X} {Y} f xs at x =
    ap (λ (v : List Y). v ++ f x ∷ drop at (map f xs)) (map_take f xs at)
    ∙ ap (λ (v : List Y). map f (take at xs) ++ f x ∷ v) (map_drop f xs at)
    ∙ sym (map_append f (take at xs) (x ∷ drop at xs))

pub remove_map : {X Y : Type 0} (f : X → Y) (xs : List X) (at : ℕ) → remove (map f xs) at ≡ map f (remove xs at)
remove_map {X} {Y} f xs at =
    ap (λ (v : List Y). v ++ drop (suc at) (map f xs)) (map_take f xs at)
    ∙ ap (λ (v : List Y). map f (take at xs) ++ v) (map_drop f xs (suc at))
    ∙ sym (map_append f (take at xs) (drop (suc at) xs))
