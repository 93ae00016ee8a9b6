-- The lists of an index, where a rule is put in or taken out.
use Rattle.std.proofs.Common.{◌≡◌, ℕ, zero, suc, ◌+◌, ◌-◌, ◌^◌, ◌<◌, ◌≤◌, List, ◌∷◌, ◌++◌, [], Bool, true, length, get_or, take, drop, arith, sym, ap, ◌∙◌, subst, vec_len, vec_capacity}
use Rattle.std.specs.Global.{Vec}
use Rattle.std.specs.List.{All, insert, remove}
use Rattle.std.proofs.lemmas.List.{length-take-le, take-append-drop}
use Rattle.std.proofs.lemmas.List.Edits.{length-insert, length-remove}
use Rattle.ug_policy.specs.declared.reach.Reach.{Reach}
use Rattle.ug_policy.specs.Lists.{AreKept, ArePutIn, AreTakenOut, HasRoomForPlace, IsIndex, IsKeptList, IsPutIn, IsTakenOut}
use Rattle.ug_policy.specs.Places.{count_before, places_by, put_in, reaches_to, taken_out}
use Rattle.ug_policy.proofs.Exact.{all_below, places_below, put_exact, taken_exact, taken_there}

-- one list
pub has_room : (test : Reach → Bool) (places : Vec ℕ) (xs : List Reach) (spare : ℕ) → IsKeptList test places xs spare → length xs < 65536 → 0 < spare → HasRoomForPlace places
has_room test places xs spare k few some = record {
  room = omega (arith, k.room);
  low = subst (λ (ps : List ℕ). All (λ p. p < 2 ^ 32 - 1) ps) (sym k.items)
      (all_below (length xs) (2 ^ 32 - 1) (places_by test xs) (omega arith) (places_below test 0 (length xs) xs (omega arith)));
}

pub kept_put : (test : Reach → Bool) (places new : Vec ℕ) (xs : List Reach) (spare at : ℕ) (x : Reach) → IsKeptList test places xs spare → IsPutIn (test x) at places new → at ≤ length xs → 0 < spare → IsKeptList test new (insert xs at x) (spare - 1)
kept_put test places new xs spare at x k put within some = record {
  items =
      put.items
      ∙ ap (λ (ps : List ℕ). put_in (test x) at ps) (k.items ∙ ap (λ (ys : List Reach). places_by test ys) (sym (take-append-drop at xs)))
      ∙ put_exact test at (take at xs) (drop at xs) x (sym (length-take-le at xs within));
  room = omega (arith, put.len, put.capacity, k.room);
}

-- a list at one of its places
pub split_there : (xs : List Reach) (at : ℕ) (x : Reach) → at < length xs → x ≡ get_or xs at x → xs ≡ take at xs ++ x ∷ drop (suc at) xs
split_there [] at x lt e = absurd (omega arith)
split_there (y ∷ xs) zero x lt e = ap (λ (v : Reach). v ∷ xs) (sym e)
split_there (y ∷ xs) (suc at) x lt e = ap (λ (v : List Reach). y ∷ v) (split_there xs at x (omega arith) e)

pub kept_there : (test : Reach → Bool) (places : Vec ℕ) (xs : List Reach) (spare at : ℕ) (x : Reach) → IsKeptList test places xs spare → at < length xs → x ≡ get_or xs at x → test x ≡ true → 0 < count_before (suc at) places.items
kept_there test places xs spare at x k within there passes =
    let counted : count_before (suc at) places.items ≡ length (places_by test (take at xs)) + 1 =
    ap (λ (ps : List ℕ). count_before (suc at) ps) (k.items ∙ ap (λ (ys : List Reach). places_by test ys) (split_there xs at x within there))
    ∙ taken_there test at (take at xs) (drop (suc at) xs) x (sym (length-take-le at xs (omega arith))) passes in
    omega (arith, counted)

pub kept_taken : (test : Reach → Bool) (places new : Vec ℕ) (xs : List Reach) (spare at : ℕ) (x : Reach) → IsKeptList test places xs spare → IsTakenOut (test x) at places new → at < length xs → x ≡ get_or xs at x → IsKeptList test new (remove xs at) spare
kept_taken test places new xs spare at x k taken within there = record {
  items =
      taken.items
      ∙ ap (λ (ps : List ℕ). taken_out (test x) at ps) (k.items ∙ ap (λ (ys : List Reach). places_by test ys) (split_there xs at x within there))
      ∙ taken_exact test at (take at xs) (drop (suc at) xs) x (sym (length-take-le at xs (omega arith)));
  room = omega (arith, taken.len, taken.capacity, k.room);
}

-- each list
pub each_put : (lists new : List (Vec ℕ)) (xs : List Reach) (spare at : ℕ) (x : Reach) → AreKept lists xs spare → ArePutIn x at lists new → length new ≡ length lists → at ≤ length xs → 0 < spare → AreKept new (insert xs at x) (spare - 1)
each_put lists new xs spare at x k put long within some = λ r d lt.
    let old : r < length lists = omega (arith, long) in
    kept_put (reaches_to r) (get_or lists r d) (get_or new r d) xs spare at x (k r d old) (put r d old) within some

pub each_taken : (lists new : List (Vec ℕ)) (xs : List Reach) (spare at : ℕ) (x : Reach) → AreKept lists xs spare → AreTakenOut x at lists new → length new ≡ length lists → at < length xs → x ≡ get_or xs at x → AreKept new (remove xs at) spare
each_taken lists new xs spare at x k taken long within there = λ r d lt.
    let old : r < length lists = omega (arith, long) in
    kept_taken (reaches_to r) (get_or lists r d) (get_or new r d) xs spare at x (k r d old) (taken r d old) within there

-- an index
pub index_put : (lists new : List (Vec ℕ)) (reaches later : Vec Reach) (spare at : ℕ) (x : Reach) → IsIndex lists reaches spare → ArePutIn x at lists new → length new ≡ length lists → later.items ≡ insert reaches.items at x → vec_len later ≡ vec_len reaches + 1 → vec_capacity later ≡ vec_capacity reaches → at ≤ length reaches.items → length reaches.items < 65536 → 0 < spare → IsIndex new later (spare - 1)
index_put lists new reaches later spare at x i put long items len capacity within few some =
    let more : length (insert reaches.items at x) ≡ length reaches.items + 1 = length-insert reaches.items at x within in
    record {
      long = long ∙ i.long;
      kept = subst (λ (xs : List Reach). AreKept new xs (spare - 1)) (sym items) (each_put lists new reaches.items spare at x i.kept put long within some);
      room = omega (arith, i.room);
      few = omega (arith, ap (λ (ys : List Reach). length ys) items);
    }

pub index_taken : (lists new : List (Vec ℕ)) (reaches later : Vec Reach) (spare at : ℕ) (x : Reach) → IsIndex lists reaches spare → AreTakenOut x at lists new → length new ≡ length lists → x ≡ get_or reaches.items at x → later.items ≡ remove reaches.items at → vec_len later + 1 ≡ vec_len reaches → vec_capacity later ≡ vec_capacity reaches → at < length reaches.items → IsIndex new later spare
index_taken lists new reaches later spare at x i taken long there items len capacity within =
    let less : length (remove reaches.items at) + 1 ≡ length reaches.items = length-remove reaches.items at within in
    record {
      long = long ∙ i.long;
      kept = subst (λ (xs : List Reach). AreKept new xs spare) (sym items) (each_taken lists new reaches.items spare at x i.kept taken long within there);
      room = omega (arith, i.room);
      few = omega (arith, i.few, ap (λ (ys : List Reach). length ys) items);
    }
