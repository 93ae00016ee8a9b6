use Rattle.std.proofs.Common.{◌≡◌, ℕ, List, [], ◌∷◌, ◌++◌, get_or, ap, ◌∙◌, append_assoc}
use Rattle.ug_print.specs.Words.{spaced}
use Rattle.ug_print.proofs.Appending.{one_more}
use Rattle.ug_print.proofs.sets.put_spaced.Goals as goal

pub loop-word-preserved : goal.loop-word-preserved
loop-word-preserved c =
    let before : List ℕ = c.loop-word.out.items in
    let word : List ℕ = c.word-item.result in
    let put : c.extend_from_slice.new.self.items ≡ before ++ spaced (get_or c.args.words.now c.loop-word.word-index word) =
    c.in_ok-extend_from_slice.ensures.items ∙ ap (λ (l : List ℕ). l ++ c.bytes.result.now) c.in_ok-push.ensures.items
    ∙ append_assoc before (32 ∷ []) c.bytes.result.now ∙ ap (λ (w : List ℕ). before ++ spaced w) (c.bytes.ensures ∙ c.word-item.is) in
    one_more spaced c.args.out.now.items before _ c.args.words.now c.loop-word.word-index word c.loop-word-test.true c.loop-word.invariant put
