-- Bytes cut into descriptors, up to the first fault.
use Rattle.std.proofs.Common.{◌≡◌, ℕ, zero, suc, ◌+◌, ◌<◌, ◌≤◌, ◌⊎◌, inl, inr, Bool, true, List, [], ◌∷◌, ◌++◌, length, length-append, length-drop, take, drop, slice_index, Option, None, Some, refl, sym, ap, subst, ◌∙◌, arith, append_assoc}
use Rattle.std.specs.List.{AllByRecursion, concat}
use Rattle.std.proofs.lemmas.List.{take-append-drop, length-take-le}
use Rattle.std.proofs.Math.Seq.{drop-append_seam, take-append_seam}
use Rattle.ug_record.specs.declared.descriptors.Config.{Config}
use Rattle.ug_record.specs.Reading.{kind_at, configs_from, with_descriptor}
use Rattle.ug_record.specs.Grammar.{IsDescriptor}
use Rattle.ug_record.proofs.Faults.{no_fault}
use Rattle.ug_record.proofs.Order.{Ordered}
use Rattle.ug_record.proofs.Grouping.{add_all, some_piece}
use Rattle.ug_record.proofs.Steps.{some_config, Sound, sound, next}

-- one piece is read
one : (configs : List Config) (place : ℕ) (piece tail : List ℕ) → IsDescriptor piece → (slice_index piece 1 ≡ 4 → some_config configs ≡ true) → configs_from configs place 0 (piece ++ tail) ≡ configs_from (with_descriptor configs piece) (place + length piece) 0 tail
one configs place [] tail d b = absurd (omega (arith, d.0))
one configs place (n ∷ []) tail d b = absurd (omega (arith, d.0))
one configs place (n ∷ t ∷ rest) tail d b =
    let xs : List ℕ = n ∷ t ∷ (rest ++ tail) in
    let long : length xs ≡ length (n ∷ t ∷ rest) + length tail = length-append (n ∷ t ∷ rest) tail in
    let f : kind_at (some_config configs) xs ≡ None =
    no_fault (some_config configs) xs (omega (arith, d.0, d.1)) (omega (arith, d.1, long)) (λ e. omega (arith, d.1, d.2 e)) (λ e. omega (arith, d.1, d.3 e)) b in
    let front : take n xs ≡ n ∷ t ∷ rest = ap (λ (k : ℕ). take k xs) d.1 ∙ take-append_seam (n ∷ t ∷ rest) tail in
    let back : drop n xs ≡ tail = ap (λ (k : ℕ). drop k xs) d.1 ∙ drop-append_seam (n ∷ t ∷ rest) tail in
    next configs place xs (omega arith) f
    ∙ ap (λ (p : List ℕ). configs_from (with_descriptor configs p) (place + n) 0 (drop n xs)) front
    ∙ ap (λ (l : List ℕ). configs_from (with_descriptor configs (n ∷ t ∷ rest)) (place + n) 0 l) back
    ∙ ap (λ (k : ℕ). configs_from (with_descriptor configs (n ∷ t ∷ rest)) (place + k) 0 tail) d.1

-- all pieces are read
pub all_read : (configs : List Config) (place : ℕ) (pieces : List (List ℕ)) (tail : List ℕ) → AllByRecursion IsDescriptor pieces → Ordered (some_config configs) pieces → configs_from configs place 0 (concat pieces ++ tail) ≡ configs_from (add_all configs pieces) (place + length (concat pieces)) 0 tail
all_read configs place [] tail d o = ap (λ (p : ℕ). configs_from configs p 0 tail) (omega arith)
all_read configs place (piece ∷ pieces) tail d o =
    let order : Ordered (some_config (with_descriptor configs piece)) pieces = subst (λ (b : Bool). Ordered b pieces) (sym (some_piece configs piece)) o.1 in
    let sum : place + length piece + length (concat pieces) ≡ place + length (piece ++ concat pieces) = omega (arith, length-append piece (concat pieces)) in
    ap (configs_from configs place 0) (append_assoc piece (concat pieces) tail)
    ∙ one configs place piece (concat pieces ++ tail) d.0 o.0
    ∙ all_read (with_descriptor configs piece) (place + length piece) pieces tail d.1 order
    ∙ ap (λ (p : ℕ). configs_from (add_all (with_descriptor configs piece) pieces) p 0 tail) sum

-- what a cut of the bytes finds
pub record Whole (configs : List Config) (xs : List ℕ) : Type 0 where
  pub pieces : List (List ℕ)
  pub joined : xs ≡ concat pieces
  pub each : AllByRecursion IsDescriptor pieces
  pub order : Ordered (some_config configs) pieces

pub record Stopped (configs : List Config) (xs : List ℕ) : Type 0 where
  pub pieces : List (List ℕ)
  pub tail : List ℕ
  pub kind : ℕ
  pub joined : xs ≡ concat pieces ++ tail
  pub each : AllByRecursion IsDescriptor pieces
  pub order : Ordered (some_config configs) pieces
  pub begins : 0 < length tail
  pub fault : kind_at (some_config (add_all configs pieces)) tail ≡ Some kind

abbrev pub Cut : List Config → List ℕ → Type 0
Cut configs xs = Whole configs xs ⊎ Stopped configs xs

front_piece : (configs : List Config) (xs : List ℕ) → Sound (some_config configs) xs → IsDescriptor (take (slice_index xs 0) xs) × (slice_index (take (slice_index xs 0) xs) 1 ≡ 4 → some_config configs ≡ true)
front_piece configs [] s = absurd (omega (arith, s.two))
front_piece configs (zero ∷ xs) s = absurd (omega (arith, s.two))
front_piece configs (suc zero ∷ xs) s = absurd (omega (arith, s.two))
front_piece configs (suc (suc n) ∷ []) s = absurd (omega (arith, s.within))
front_piece configs (suc (suc n) ∷ t ∷ xs) s =
    let long : length (take n xs) ≡ n = length-take-le n xs (omega (arith, s.within)) in
    ((omega arith, omega (arith, long), λ e. omega (arith, long, s.configuration e), λ e. omega (arith, long, s.interface e)), s.behind)

longer : (configs : List Config) (piece xs : List ℕ) → IsDescriptor piece → (slice_index piece 1 ≡ 4 → some_config configs ≡ true) → Cut (with_descriptor configs piece) xs → Cut configs (piece ++ xs)
longer configs piece xs d b (inl w) = inl (record {
  pieces = piece ∷ w.pieces;
  joined = ap (λ (l : List ℕ). piece ++ l) w.joined;
  each = (d, w.each);
  order = (b, subst (λ (c : Bool). Ordered c w.pieces) (some_piece configs piece) w.order);
})
longer configs piece xs d b (inr w) = inr (record {
  pieces = piece ∷ w.pieces;
  tail = w.tail;
  kind = w.kind;
  joined = ap (λ (l : List ℕ). piece ++ l) w.joined ∙ sym (append_assoc piece (concat w.pieces) w.tail);
  each = (d, w.each);
  order = (b, subst (λ (c : Bool). Ordered c w.pieces) (some_piece configs piece) w.order);
  begins = w.begins;
  fault = w.fault;
})

pub cut : (n : ℕ) (configs : List Config) (xs : List ℕ) → length xs ≤ n → Cut configs xs
cut n configs [] h = inl (record { pieces = []; joined = refl; each = tt; order = tt })
cut zero configs (x ∷ xs) h = absurd (omega (arith, h))
cut (suc n) configs (x ∷ xs) h =
    let G : Option ℕ → Type 0 = λ o. kind_at (some_config configs) (x ∷ xs) ≡ o → Cut configs (x ∷ xs) in
    let g : (o : Option ℕ) → G o = λ o. elim o as G [
      | None ↦ λ e.
          let s : Sound (some_config configs) (x ∷ xs) = sound (some_config configs) (x ∷ xs) e in
          let p = front_piece configs (x ∷ xs) s in
          let less : length (drop x (x ∷ xs)) ≤ n = omega (arith, h, s.two, length-drop x (x ∷ xs)) in
          let later = cut n (with_descriptor configs (take x (x ∷ xs))) (drop x (x ∷ xs)) less in
          subst (λ (l : List ℕ). Cut configs l) (take-append-drop x (x ∷ xs)) (longer configs (take x (x ∷ xs)) (drop x (x ∷ xs)) p.0 p.1 later)
      | Some kind ↦ λ e. inr (record { pieces = []; tail = x ∷ xs; kind = kind; joined = refl; each = tt; order = tt; begins = omega arith; fault = e })
    ] in
    g (kind_at (some_config configs) (x ∷ xs)) refl
