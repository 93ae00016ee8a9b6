use Rattle.std.proofs.lemmas.Result.{IfErr-weaker, IfOk-weaker, err_from_is_err_and}
use Rattle.ug_proto.proofs.RefusalNumbers.{word_stops, line_stops, number_stops, rest_stops, line_taken}
use Rattle.ug_proto.proofs.parse.take_refusal.Goals as goal

pub returns-in_err-rest-clause-err : goal.returns-in_err-rest-clause-err
returns-in_err-rest-clause-err c =
    let p = err_from_is_err_and c.from_residual.result c.from_residual.ensures.1 in
    rw (p.1, p.2) (word_stops c.args.text.now c.in_err-rest.field-0.0 c.in_err-rest.ensures.err)

pub returns-in_err-number-clause-err : goal.returns-in_err-number-clause-err
returns-in_err-number-clause-err c =
    let p = err_from_is_err_and c.from_residual-in_err-number.result c.from_residual-in_err-number.ensures.1 in
    rw (p.1, p.2) (line_stops c.args.text.now c.in_ok-rest.rest.now c.in_err-number.field-0.0 c.in_ok-rest.ensures.ok (number_stops c.in_ok-rest.rest.now c.in_err-number.field-0.0 c.in_err-number.ensures.err))

pub take_numbered-requires : goal.take_numbered-requires
take_numbered-requires c = c.in_ok-number.ensures.ok.0.0

pub returns-clause-ok : goal.returns-clause-ok
returns-clause-ok c =
    IfOk-weaker c.take_numbered.result _ _ (λ p h. line_taken c.args.text.now c.in_ok-rest.rest.now c.in_ok-number.rest.now p.1.now c.in_ok-number.number p.0 c.in_ok-rest.ensures.ok c.in_ok-number.ensures.ok.1 h) c.take_numbered.ensures.ok

pub returns-clause-err : goal.returns-clause-err
returns-clause-err c =
    IfErr-weaker c.take_numbered.result _ _ (λ s h. line_stops c.args.text.now c.in_ok-rest.rest.now s c.in_ok-rest.ensures.ok (rest_stops c.in_ok-number.number c.in_ok-rest.rest.now c.in_ok-number.rest.now s c.in_ok-number.ensures.ok.0 c.in_ok-number.ensures.ok.1 h)) c.take_numbered.ensures.err
