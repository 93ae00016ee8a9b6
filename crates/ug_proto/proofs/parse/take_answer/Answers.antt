use Rattle.std.proofs.Common.{arith}
use Rattle.std.proofs.lemmas.Result.{IfErr-weaker, IfOk-weaker, err_from_is_err_and}
use Rattle.ug_proto.proofs.AnswerScans.{count_stops, answer_stops, answer_taken}
use Rattle.ug_proto.proofs.parse.take_answer.Goals as goal

pub returns-in_err-count-clause-err : goal.returns-in_err-count-clause-err
returns-in_err-count-clause-err c =
    let p = err_from_is_err_and c.from_residual.result c.from_residual.ensures.1 in
    rw (p.1, p.2) (count_stops c.args.text.now c.in_err-count.field-0.0 c.in_err-count.ensures.err)

pub returns-clause-ok : goal.returns-clause-ok
returns-clause-ok c =
    IfOk-weaker c.take_lines.result _ _ (λ p h. answer_taken c.in_ok-count.count c.args.text.now c.in_ok-count.rest.now p.1.now p.0 (omega (arith, c.in_ok-count.ensures.ok.0)) c.in_ok-count.ensures.ok.1 h) c.take_lines.ensures.ok

pub returns-clause-err : goal.returns-clause-err
returns-clause-err c =
    IfErr-weaker c.take_lines.result _ _ (λ s h. answer_stops c.in_ok-count.count c.args.text.now c.in_ok-count.rest.now s (omega (arith, c.in_ok-count.ensures.ok.0)) c.in_ok-count.ensures.ok.1 h) c.take_lines.ensures.err
