-- One call more, and what a crash may leave.
use Rattle.std.proofs.Common.{◌≡◌, true, false, List, [], ◌∷◌, ◌++◌, refl, ap}
use Rattle.ug_store.specs.Disk.{Images}
use Rattle.ug_store.specs.Passed.{left_within, left_after, left_now, left_so_far, any_settles}
use Rattle.ug_store.specs.declared.mem_disk.Passed.{Passed}
use Rattle.ug_store.specs.declared.mem_disk.Passed.TheVariants as passed

pub left_now_more : (left : Images) (ps : List Passed) (p : Passed) → left_now left (ps ++ p ∷ []) ≡ left_after p (left_now left ps)
left_now_more left [] p = refl
left_now_more left (q ∷ ps) p = left_now_more (left_after q left) ps p

pub left_so_far_more : (left : Images) (ps : List Passed) (p : Passed) → left_so_far left (ps ++ p ∷ []) ≡ left_so_far left ps ++ left_within p (left_now left ps) ∷ []
left_so_far_more left [] p = refl
left_so_far_more left (q ∷ ps) p = ap (λ (is : List Images). left_within q left ∷ is) (left_so_far_more (left_after q left) ps p)

pub left_now_joined : (left : Images) (ps qs : List Passed) → left_now left (ps ++ qs) ≡ left_now (left_now left ps) qs
left_now_joined left [] qs = refl
left_now_joined left (p ∷ ps) qs = left_now_joined (left_after p left) ps qs

-- what was left before a swap that was done doesn't count
pub left_now_settled : (a b : Images) (ps : List Passed) → any_settles ps ≡ true → left_now a ps ≡ left_now b ps
left_now_settled a b [] e = let never : ⊥ = cc in absurd never
left_now_settled a b (passed.Quiet ∷ ps) e = left_now_settled a b ps e
left_now_settled a b (passed.Swap fresh synced true ∷ ps) e = refl
left_now_settled a b (passed.Swap fresh true false ∷ ps) e = left_now_settled (left_after (passed.Swap fresh true false) a) (left_after (passed.Swap fresh true false) b) ps e
left_now_settled a b (passed.Swap fresh false false ∷ ps) e = left_now_settled (left_after (passed.Swap fresh false false) a) (left_after (passed.Swap fresh false false) b) ps e
