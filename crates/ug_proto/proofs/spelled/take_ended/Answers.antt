use Rattle.std.proofs.Common.{◌∷◌, [], ◌++◌, ap, sym, ◌∙◌, append_assoc, List, ℕ}
use Rattle.std.proofs.lemmas.Result.{IfErr-weaker, IfOk-weaker, err_from_is_err_and}
use Rattle.ug_proto.proofs.RefusalScans.{front_stops, behind_stops}
use Rattle.ug_proto.proofs.spelled.take_ended.Goals as goal

pub returns-in_err-rest-clause-err : goal.returns-in_err-rest-clause-err
returns-in_err-rest-clause-err c =
    let p = err_from_is_err_and c.from_residual.result c.from_residual.ensures.1 in
    rw (p.1, p.2) (front_stops {X = Unit {0}} c.args.word.now (λ _. c.args.end ∷ []) (λ _. Unit {0}) c.args.text.now c.in_err-rest.field-0.0 tt tt c.in_err-rest.ensures.err)

pub returns-clause-ok : goal.returns-clause-ok
returns-clause-ok c =
    IfOk-weaker c.take_word-2.result _ _ (λ rest h. c.in_ok-rest.ensures.ok ∙ ap (λ (l : List ℕ). c.args.word.now ++ l) h ∙ sym (append_assoc c.args.word.now (c.args.end ∷ []) rest.now)) c.take_word-2.ensures.ok

pub returns-clause-err : goal.returns-clause-err
returns-clause-err c =
    IfErr-weaker c.take_word-2.result _ _ (λ s h. behind_stops {X = Unit {0}} c.args.word.now (λ _. c.args.end ∷ []) (λ _. Unit {0}) c.args.text.now c.in_ok-rest.rest.now s c.in_ok-rest.ensures.ok h) c.take_word-2.ensures.err
