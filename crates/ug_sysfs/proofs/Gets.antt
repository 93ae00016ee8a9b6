-- What a reading of a list by place gives.
use Rattle.std.proofs.Common.{◌≡◌, ℕ, List, length, Option, Some, None, refl, subst}
use Rattle.std.proofs.lemmas.Option.{slice_get_read, slice_get_past}
use Rattle.std.specs.List.{ItemBy, slice_get}
use denote.Ref.{Bor}

pub got : {X : Type 0} (xs : List X) (i : ℕ) (r : Option (Bor X)) (x : Bor X) → ItemBy (λ (b : Bor X). b.now) xs i i r → r ≡ Some x → slice_get xs i ≡ Some x.now
got {X} xs i r x h e =
    let k : ItemBy (λ (b : Bor X). b.now) xs i i (Some x) = subst (ItemBy (λ (b : Bor X). b.now) xs i i) e h in
    slice_get_read xs (length xs) i x.now refl k.3.0 k.1

pub got_none : {X : Type 0} (xs : List X) (i : ℕ) (r : Option (Bor X)) → ItemBy (λ (b : Bor X). b.now) xs i i r → r ≡ None → slice_get xs i ≡ None
got_none {X} xs i r h e =
    let k : ItemBy (λ (b : Bor X). b.now) xs i i None = subst (ItemBy (λ (b : Bor X). b.now) xs i i) e h in
    slice_get_past xs i k.3
