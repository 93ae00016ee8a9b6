-- A line is cut as the relation says.
use Rattle.std.proofs.Common.{◌≡◌, ℕ, ◌+◌, ◌-◌, ◌≤◌, ◌⊎◌, inl, inr, Bool, true, false, cond, nat_eq, List, [], ◌∷◌, length, drop, refl, sym, ap, subst, ◌∙◌, arith, length-append}
use Rattle.std.specs.Prelude.{◌↔◌}
use Rattle.std.proofs.lemmas.Bool.Decides.{nat_tests}
use Rattle.ug_lines.specs.Blanks.{without_front, without_end}
use Rattle.ug_lines.specs.Equations.{IsTextOf, IsSkipped, IsEquation}
use Rattle.ug_lines.proofs.Signs.{sign, sign_missing, Parts, parts, equation, value_place}
use Rattle.ug_lines.proofs.Trimming as trimming
use Rattle.ug_lines.specs.Cuts.{EquationCut, Skip, NoSign, Sides, cut_sides, cut_at, cut_shown, cut_bare, cut_of, IsEquationCut, IsWithin}
use Rattle.ug_lines.specs.declared.cut.LineCut.{LineCut}
use Rattle.ug_lines.specs.declared.cut.LineCut.TheVariants as line_cut

-- the text of a line decides
on_text : (line text : List ℕ) → IsTextOf line text → cut_of line ≡ cut_bare text
on_text line text t = ap (λ (l : List ℕ). cut_bare l) (trimming.text_read line text t)

skipped : (text : List ℕ) → IsSkipped text → cut_bare text ≡ Skip
skipped [] k = refl
skipped (b ∷ bytes) k = ap (λ (c : ℕ). cond (nat_eq c 35) Skip (cut_shown (b ∷ bytes))) k

shown : (text : List ℕ) → ¬ IsSkipped text → cut_bare text ≡ cut_shown text
shown [] h = absurd (h tt)
shown (b ∷ bytes) h =
    let t : nat_eq b 35 ≡ false = grind (arith, nat_tests) in
    rw t refl

at_sides : (text word value : List ℕ) (place : ℕ) → IsEquation text word value → length text ≡ place + length value → cut_shown text ≡ Sides word value place
at_sides text word value place e l =
    let p : Parts text word value = parts text word value e in
    let from : length text - length value ≡ place = omega (arith, l) in
    ap (cut_at text) p.found
    ∙ ap (λ (w : List ℕ). cut_sides text w (without_front (drop (p.at + 1) text))) p.word_is
    ∙ ap (cut_sides text word) p.value_is
    ∙ ap (Sides word value) from

pub cut_so : (line : List ℕ) (cut : EquationCut) → IsEquationCut line cut → cut_of line ≡ cut
cut_so line Skip h = on_text line h.0 h.1 ∙ skipped h.0 h.2
cut_so line NoSign h = on_text line h.0 h.1 ∙ shown h.0 h.2 ∙ ap (cut_at h.0) (sign_missing h.0 h.3)
cut_so line (Sides word value place) h = on_text line h.0 h.1 ∙ shown h.0 h.2 ∙ at_sides h.0 word value place h.3 h.4

skip : (text : List ℕ) → IsSkipped text ⊎ (¬ IsSkipped text)
skip [] = inl tt
skip (b ∷ bytes) = by (nat_eq b 35) refl
  where
    by : (v : Bool) → nat_eq b 35 ≡ v → (b ≡ 35) ⊎ (¬ (b ≡ 35))
    by true e = inl (grind (arith, nat_tests))
    by false e = inr (λ k. (let none : ⊥ = grind (arith, nat_tests) in none))

-- an equation is cut into its word and its value
pub sides_so : (line text word value : List ℕ) → IsTextOf line text → ¬ IsSkipped text → IsEquation text word value → cut_of line ≡ Sides word value (length text - length value)
sides_so line text word value t s e =
    let whole : length value ≤ length text = value_place text word value e in
    cut_so line (Sides word value (length text - length value)) (text, t, s, e, omega (arith, whole))

-- each line is cut
pub cut_some : (line : List ℕ) → (cut : EquationCut) × IsEquationCut line cut
cut_some line =
    let text : List ℕ = without_end (without_front line) in
    let t : IsTextOf line text = trimming.text_of line in
    elim (skip text) [
      | inl s ↦ (Skip, (text, t, s))
      | inr s ↦ elim (sign text) [
        | inl g ↦
            let word : List ℕ = without_end g.word in
            let value : List ℕ = without_front g.rest in
            let e : IsEquation text word value = equation text g in
            let whole : length value ≤ length text = value_place text word value e in
            (Sides word value (length text - length value), (text, t, s, e, omega (arith, whole)))
        | inr n ↦ (NoSign, (text, t, s, n))
      ]
    ]

pub cut_law : (line : List ℕ) (cut : EquationCut) → (cut_of line ≡ cut) ↔ IsEquationCut line cut
cut_law line cut = (so, cut_so line cut)
  where
    so : cut_of line ≡ cut → IsEquationCut line cut
    so e = let c = cut_some line in subst (λ (it : EquationCut). IsEquationCut line it) (sym (cut_so line c.0 c.1) ∙ e) c.1

-- a line's text is no longer than the line
end_shorter : (text : List ℕ) → length (without_end text) ≤ length text
end_shorter text = let e = trimming.end text in omega (arith, ap length e.is, length-append (without_end text) e.behind)

within_more : (n m : ℕ) (cut : LineCut) → n ≤ m → IsWithin n cut → IsWithin m cut
within_more n m line_cut.Skipped le h = tt
within_more n m line_cut.NoSign le h = tt
within_more n m (line_cut.Equation word value place) le h = omega (arith, le, h)

pub within_line : (line front text : List ℕ) (cut : LineCut) → length front ≤ length line → text ≡ without_end front → IsWithin (length text) cut → IsWithin (length line) cut
within_line line front text cut le e h = within_more (length text) (length line) cut (omega (arith, le, ap length e, end_shorter front)) h
