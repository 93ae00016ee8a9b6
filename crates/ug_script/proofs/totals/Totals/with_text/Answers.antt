use Rattle.std.proofs.Common.{◌≡◌, ℕ, List, [], ◌∷◌, length, refl, sym, ap, ◌∙◌, arith}
use Rattle.std.proofs.lemmas.Bool.Decides.{nat_tests}
use Rattle.ug_lines.specs.Lines.{lines_of}
use Rattle.ug_lines.proofs.FirstLine.{nothing}
use Rattle.ug_script.specs.Summing.{with_lines}
use Rattle.ug_script.proofs.Counted.{one_more, with_both}
use Rattle.ug_script.proofs.totals.Totals.with_text.Goals as goal

pub loop-rest-preserved : goal.loop-rest-preserved
loop-rest-preserved c = record {
  whole = ap (with_lines (lines_of c.next_line.result.1.now)) c.with_line-totals.ensures
      ∙ one_more c.next_line.result.0.now (lines_of c.next_line.result.1.now) c.loop-rest.totals
      ∙ ap (λ (lines : List (List ℕ)). with_lines lines c.loop-rest.totals) (sym c.next_line.ensures.lines)
      ∙ c.loop-rest.invariant.whole;
  none = ap (with_lines []) c.with_line-totals.ensures ∙ with_both (c.next_line.result.0.now ∷ []) [] c.loop-rest.totals ∙ sym c.with_line-totals.ensures;
}

no_bytes : (text : List ℕ) → length text ≡ 0 → text ≡ []
no_bytes [] none = refl
no_bytes (b ∷ text) none = let never : ⊥ = omega (arith, none) in absurd never

pub returns : goal.returns
returns c =
    let none : length c.loop-rest.rest.now ≡ 0 = grind (arith, nat_tests, c.is_empty.ensures, c.loop-rest-test.false) in
    sym c.loop-rest.invariant.none
    ∙ ap (λ (lines : List (List ℕ)). with_lines lines c.loop-rest.totals) (sym (nothing c.loop-rest.rest.now (no_bytes c.loop-rest.rest.now none)))
    ∙ c.loop-rest.invariant.whole
