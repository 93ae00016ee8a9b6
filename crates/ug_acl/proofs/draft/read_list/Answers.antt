use Rattle.std.proofs.Common.{◌≡◌, ◌+◌, ◌<◌, [], length, drop, map, slice_index_or, Bor, sym, ap, ◌∙◌, arith, List, ℕ}
use Rattle.std.proofs.lemmas.List.{drop_all}
use Rattle.ug_acl.specs.Grammar.{width_of}
use Rattle.ug_acl.specs.Lines.{comma_parts, parts_read}
use Rattle.ug_acl.proofs.Parts.{parts_width}
use Rattle.ug_acl.proofs.PartSteps.{with_held, nothing_before, goes_on, stops, ends, next_slice}
use Rattle.ug_acl.proofs.draft.read_list.Goals as goal

pub loop-part-init : goal.loop-part-init
loop-part-init c =
    let slices : List (Bor (List ℕ)) = c.as_slice-slices.result.now in
    let same : map (λ part. part.now) slices ≡ comma_parts c.args.text.now = ap (map (λ part. part.now)) c.as_slice-slices.ensures.value ∙ c.in-Ok.ensures in record {
      here = ap (λ p. with_held p (parts_read c.args.section c.args.place (map (λ part. part.now) slices))) c.none-privileges.ensures
          ∙ nothing_before (parts_read c.args.section c.args.place (map (λ part. part.now) slices))
          ∙ ap (parts_read c.args.section c.args.place) same;
      width = omega (arith, ap width_of same, parts_width c.args.text.now);
    }

pub returns-in-Err-read_part : goal.returns-in-Err-read_part
returns-in-Err-read_part c =
    let slices : List (Bor (List ℕ)) = c.as_slice-slices.result.now in
    let none : Bor (List ℕ) = record { ref_ptr = (0, 0); now = [] } in
    let i : ℕ = c.loop-part.part-index in
    let here : i < length slices = omega (arith, c.loop-part-test.true) in
    let cut = next_slice slices i none here in
    stops c.args.section c.loop-part.at (slice_index_or slices i none).now (map (λ part. part.now) (drop (i + 1) slices)) c.loop-part.privileges c.in-Err-read_part.fault _ c.in-Err-read_part.ensures
    (ap (λ (ps : List (List ℕ)). with_held c.loop-part.privileges (parts_read c.args.section c.loop-part.at ps)) (sym cut) ∙ c.loop-part.invariant.here)

pub loop-part-preserved : goal.loop-part-preserved
loop-part-preserved c =
    let slices : List (Bor (List ℕ)) = c.as_slice-slices.result.now in
    let none : Bor (List ℕ) = record { ref_ptr = (0, 0); now = [] } in
    let i : ℕ = c.loop-part.part-index in
    let here : i < length slices = omega (arith, c.loop-part-test.true) in
    let cut = next_slice slices i none here in
    let part : List ℕ = (slice_index_or slices i none).now in
    let rest : List (List ℕ) = map (λ part. part.now) (drop (i + 1) slices) in
    let next : c.loop-part.at + (length part + 1) ≡ c.loop-part.at + length part + 1 = omega arith in record {
      here = ap (λ p. with_held p (parts_read c.args.section (c.loop-part.at + (length part + 1)) rest)) c.union-privileges.ensures
          ∙ goes_on c.args.section c.loop-part.at (c.loop-part.at + (length part + 1)) part rest c.loop-part.privileges _ _ next c.in-Ok-read_part.ensures
          (ap (λ (ps : List (List ℕ)). with_held c.loop-part.privileges (parts_read c.args.section c.loop-part.at ps)) (sym cut) ∙ c.loop-part.invariant.here);
      width = omega (arith, ap width_of cut, c.loop-part.invariant.width);
    }

pub returns : goal.returns
returns c =
    let slices : List (Bor (List ℕ)) = c.as_slice-slices.result.now in
    let none : map (λ part. part.now) (drop c.loop-part.part-index slices) ≡ [] = ap (map (λ part. part.now)) (drop_all c.loop-part.part-index slices (omega (arith, c.loop-part-test.false))) in
    ends c.args.section c.loop-part.at _ c.loop-part.privileges _ none c.loop-part.invariant.here
