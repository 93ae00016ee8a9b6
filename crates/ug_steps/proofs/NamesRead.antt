-- A text is read as a name where it is one.
use Rattle.std.proofs.Common.{◌≡◌, ℕ, ◌<◌, ◌≤◌, Bool, true, false, List, [], ◌∷◌, length, take, get_or, suc, Option, None, Some, Result, Ok, Err, nat_le, refl, ap, ◌∙◌, arith, inl, inr, ◌⊎◌, ◌↔◌, IfOk, true≢false, ◌&&◌, sym}
use Rattle.std.proofs.lemmas.Bool.{and_parts, leb-true}
use Rattle.std.proofs.lemmas.Bool.Decides.{nat_tests}
use Rattle.std.proofs.lemmas.Option.{cond_some}
use Rattle.std.proofs.lemmas.List.{take_all}
use Rattle.std.specs.List.{fold}
use Rattle.ug_types.specs.declared.reading.Reading.{Reading}
use Rattle.ug_types.specs.declared.reading.Reading.TheVariants.{Start}
use Rattle.ug_types.specs.declared.name.NameFault.{NameFault}
use Rattle.ug_types.specs.NodeNames.{IsNodeName}
use Rattle.ug_types.specs.Reading.{after, ends_name}
use Rattle.ug_types.proofs.Spelled.{read, stopped, ended, ended_early}
use Rattle.ug_steps.specs.Words.{then_byte, reading_of, is_whole, name_of}

read-fold : (s : Option Reading) (xs : List ℕ) → read s xs ≡ fold then_byte s xs
read-fold s [] = refl
read-fold None (x ∷ xs) = read-fold None xs
read-fold (Some s) (x ∷ xs) = read-fold (after s x) xs

-- the place where the reading stops
abbrev Stops : Reading → List ℕ → Type 0
Stops from xs = (i : ℕ) × (s : Reading) × (i < length xs) × (read (Some from) (take i xs) ≡ Some s) × (after s (get_or xs i 0) ≡ None)

stops-later : (from : Reading) (x : ℕ) (xs : List ℕ) (o : Option Reading) → ((s : Reading) → read (Some s) xs ≡ None → Stops s xs) → after from x ≡ o → read o xs ≡ None → Stops from (x ∷ xs)
stops-later from x xs None f e h = (0, from, omega arith, refl, e)
stops-later from x xs (Some s) f e h =
    let r : Stops s xs = f s h in
    (suc r.0, r.1, omega (arith, r.2), ap (λ (o : Option Reading). read o (take r.0 xs)) e ∙ r.3, r.4)

stops : (from : Reading) (xs : List ℕ) → read (Some from) xs ≡ None → Stops from xs
stops from [] h = let none : ⊥ = cc in absurd none
stops from (x ∷ xs) h = stops-later from x xs (after from x) (λ s k. stops s xs k) refl h

abbrev Reads : List ℕ → Bool → Type 0
Reads t whole = (IsNodeName t × (whole ≡ true)) ⊎ ((¬ IsNodeName t) × (whole ≡ false))

reads-end : (t : List ℕ) (s : Reading) (end : Bool) → read (Some Start) t ≡ Some s → ends_name s ≡ end → Reads t end
reads-end t s true h k = inl (ended t (length t) s (omega arith) (ap (read (Some Start)) (take_all (length t) t (omega arith)) ∙ h) k, refl)
reads-end t s false h k = inr ((ended_early t (length t) s (omega arith) (ap (read (Some Start)) (take_all (length t) t (omega arith)) ∙ h) k).0, refl)

reads : (t : List ℕ) (o : Option Reading) → read (Some Start) t ≡ o → Reads t (is_whole o)
reads t None h = let r : Stops Start t = stops Start t h in inr ((stopped t r.0 r.1 r.2 r.3 r.4).0, refl)
reads t (Some s) h = reads-end t s (ends_name s) h refl

whole : (t : List ℕ) → Reads t (is_whole (reading_of t))
whole t = reads t (reading_of t) (read-fold (Some Start) t)

pub name-some : (t : List ℕ) → IsNodeName t → length t ≤ 31 → Some t ≡ name_of t
unfolding name_of
name-some t n l =
    let q : nat_le (length t) 31 ≡ true = grind (arith, nat_tests) in
    elim (whole t) [ inl h ↦ rw (h.1, q) | inr h ↦ absurd (h.0 n) ]

pub name-none : (t : List ℕ) → (IsNodeName t × (length t ≤ 31) → ⊥) → None ≡ name_of t
unfolding name_of
name-none t f =
    let long : IsNodeName t → nat_le (length t) 31 ≡ false = λ n. let k : length t ≤ 31 → ⊥ = (λ l. f (n, l)) in grind (arith, nat_tests, k) in
    elim (whole t) [ inl h ↦ rw (h.1, long h.0) | inr h ↦ rw h.1 ]

abbrev Answer : Type 0
Answer = Result (List ℕ) NameFault

pub name-read : (t n : List ℕ) (r : Answer) → ((r ≡ Ok t) ↔ (IsNodeName t × (length t ≤ 31))) → IfOk r (λ name. name ≡ t) → r ≡ Ok n → Some n ≡ name_of t
name-read t n (Ok m) h k e =
    let w : IsNodeName t × (length t ≤ 31) = h.0 (ap Ok k) in
    let s : n ≡ t = cc in
    ap Some s ∙ name-some t w.0 w.1
name-read t n (Err m) h k e = let none : ⊥ = cc in absurd none

pub name-refused : (t : List ℕ) (e : NameFault) (r : Answer) → ((r ≡ Ok t) ↔ (IsNodeName t × (length t ≤ 31))) → r ≡ Err e → None ≡ name_of t
name-refused t e r h k = name-none t (λ w. let p : r ≡ Ok t = h.1 w in let none : ⊥ = cc in absurd none)

pub name_text : (t n : List ℕ) → (name_of t ≡ Some n) ↔ (IsNodeName t × (length t ≤ 31) × (n ≡ t))
unfolding name_of
name_text t n = (
  λ h.
      let p : ((is_whole (reading_of t) && nat_le (length t) 31) ≡ true) × (t ≡ n) = cond_some (is_whole (reading_of t) && nat_le (length t) 31) t n h in
      let q : (is_whole (reading_of t) ≡ true) × (nat_le (length t) 31 ≡ true) = and_parts (is_whole (reading_of t)) (nat_le (length t) 31) p.0 in
      let named : IsNodeName t = elim (whole t) [ inl w ↦ w.0 | inr w ↦ absurd (true≢false (sym q.0 ∙ w.1)) ] in
      (named, leb-true (length t) 31 q.1, sym p.1),
  λ h. sym (name-some t h.0 h.1) ∙ ap Some (sym h.2),
)
