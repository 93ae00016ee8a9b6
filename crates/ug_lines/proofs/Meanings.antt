-- A text that reads as what it says, or else has the fault that it has.
use Rattle.std.proofs.Common.{◌≡◌, ◌⊎◌, inl, inr, Result, Ok, Err, sym, subst, ◌∙◌}

module _ {X F : Type 0} (read : Result X F) (Says : X → Type 0) (HasFault : F → Type 0) (said : (x : X) → Says x → read ≡ Ok x) (faulty : (f : F) → HasFault f → read ≡ Err f) where
  same_ok : (x y : X) → ◌≡◌ {A = Result X F} (Ok x) (Ok y) → x ≡ y
  same_ok x y h = let e : x ≡ y = cc in e

  same_err : (f g : F) → ◌≡◌ {A = Result X F} (Err f) (Err g) → f ≡ g
  same_err f g h = let e : f ≡ g = cc in e

  ok_or_err : (x : X) (f : F) → read ≡ Ok x → read ≡ Err f → ⊥
  ok_or_err x f h k = let none : ⊥ = cc in none

  pub one_meaning : (x y : X) → Says x → Says y → x ≡ y
  one_meaning x y h k = same_ok x y (sym (said x h) ∙ said y k)

  pub one_fault : (f g : F) → HasFault f → HasFault g → f ≡ g
  one_fault f g h k = same_err f g (sym (faulty f h) ∙ faulty g k)

  pub never_both : (x : X) (f : F) → Says x → HasFault f → ⊥
  never_both x f h k = ok_or_err x f (said x h) (faulty f k)

  pub reads_meaning : ((x : X) × Says x) ⊎ ((f : F) × HasFault f) → (x : X) → (read ≡ Ok x → Says x) × (Says x → read ≡ Ok x)
  reads_meaning some x = (by some, said x)
    where
      by : ((x : X) × Says x) ⊎ ((f : F) × HasFault f) → read ≡ Ok x → Says x
      by (inl (y, s)) h = subst Says (same_ok y x (sym (said y s) ∙ h)) s
      by (inr (f, k)) h = absurd (ok_or_err x f h (faulty f k))

  pub reads_fault : ((x : X) × Says x) ⊎ ((f : F) × HasFault f) → (f : F) → (read ≡ Err f → HasFault f) × (HasFault f → read ≡ Err f)
  reads_fault some f = (by some, faulty f)
    where
      by : ((x : X) × Says x) ⊎ ((f : F) × HasFault f) → read ≡ Err f → HasFault f
      by (inl (y, s)) h = absurd (ok_or_err y f (said y s) h)
      by (inr (g, k)) h = subst HasFault (same_err g f (sym (faulty g k) ∙ h)) k
