use Rattle.std.proofs.Common.{◌≡◌, ℕ, ◌+◌, List, ◌∷◌, [], ◌++◌, take, subst, sym, ap, ◌∙◌}
use Rattle.std.proofs.lemmas.List.{take_more}
use Rattle.ug_types.specs.Elements.{Has}
use Rattle.ug_proto.specs.declared.scan.Stop.{Stop}
use Rattle.ug_proto.specs.RefusalParts.{spelled_then}
use Rattle.ug_proto.specs.Scanning.{IsStop, neither}
use Rattle.ug_proto.proofs.RefusalScans.{one_more, all_tried}
use Rattle.ug_proto.proofs.spelled.take_spelled.Goals as goal

pub loop-it-init : goal.loop-it-init
loop-it-init g c it more rest none e = none

pub loop-it-preserved : goal.loop-it-preserved
loop-it-preserved g c =
    let end = c.args.end in
    let text = c.args.text.now in
    let tried = take c.loop-it.it-index c.all-all.result.now in
    let it = c.it-item.result in
    let text_of = spelled_then g.T.OneWord.word_of end in
    let one : IsStop {X = Unit {0}} (λ _. text_of it) (λ _. Unit {0}) text c.in-Err.now
    = subst (λ (w : List ℕ). IsStop {X = Unit {0}} (λ _. w ++ end ∷ []) (λ _. Unit {0}) text c.in-Err.now) c.spelling.ensures c.in-Err.ensures.err in
    let more : take (c.loop-it.it-index + 1) c.all-all.result.now ≡ tried ++ it ∷ []
    = take_more c.all-all.result.now c.loop-it.it-index it c.loop-it-test.true ∙ ap (λ (x : g.row.T.Denot). tried ++ x ∷ []) (sym c.it-item.is) in
    subst (λ (s : Stop). IsStop text_of (Has (take (c.loop-it.it-index + 1) c.all-all.result.now)) text s) (sym c.neither-stop.ensures)
    (subst (λ (l : List g.row.T.Denot). IsStop text_of (Has l) text (neither c.loop-it.stop c.in-Err.now)) (sym more) (one_more text_of tried it text c.loop-it.stop c.in-Err.now c.loop-it.invariant one))

pub returns-clause-err : goal.returns-clause-err
returns-clause-err g c = all_tried (spelled_then g.T.OneWord.word_of c.args.end) c.all-all.result.now c.loop-it.it-index c.args.text.now c.loop-it.stop c.loop-it-test.false c.all-all.ensures c.loop-it.invariant
