use Rattle.std.proofs.Common.{List, ℕ, subst}
use Rattle.std.specs.Prelude.{codes}
use Rattle.std.proofs.lemmas.Result.{err_from_is_err_and}
use Rattle.ug_proto.specs.declared.scan.Stop.{Stop}
use Rattle.ug_proto.specs.Scanning.{IsStop}
use Rattle.ug_proto.proofs.AnswerScans.{ok_stops, ok_begun, ok_taken, refused_stops, refused_taken}
use Rattle.ug_proto.proofs.parse.take_reply.Goals as goal

-- what the bytes say of `ok `
abbrev OkStop : List ℕ → Stop → Type 0
OkStop bytes s = IsStop {X = Unit {0}} (λ _. codes "ok ") (λ _. Unit {0}) bytes s

pub returns-in_err-lines-in-Ok-clause-err : goal.returns-in_err-lines-in-Ok-clause-err
returns-in_err-lines-in-Ok-clause-err c =
    let p = err_from_is_err_and c.from_residual.result c.from_residual.ensures.1 in
    rw (p.1, p.2) (ok_stops c.args.text.now c.in-Ok.rest.now c.in_err-lines-in-Ok.field-0.0 c.in-Ok.ensures.ok c.in_err-lines-in-Ok.ensures.err)

pub returns-in_err-refusal-in-Err-Bad-clause-err : goal.returns-in_err-refusal-in-Err-Bad-clause-err
returns-in_err-refusal-in-Err-Bad-clause-err c =
    let p = err_from_is_err_and c.from_residual-in_err-refusal-in-Err-Bad.result c.from_residual-in_err-refusal-in-Err-Bad.ensures.1 in
    rw (p.1, p.2) (refused_stops c.args.text.now c.in_err-refusal-in-Err-Bad.field-0.0 (subst (OkStop c.args.text.now) c.in-Err-Bad.field-0-is c.in-Err-Bad.ensures.err) c.in_err-refusal-in-Err-Bad.ensures.err)

pub returns-in_ok-lines-in-Ok-clause-ok : goal.returns-in_ok-lines-in-Ok-clause-ok
returns-in_ok-lines-in-Ok-clause-ok c = ok_taken c.args.text.now c.in-Ok.rest.now c.in_ok-lines-in-Ok.rest.now c.in_ok-lines-in-Ok.lines c.in-Ok.ensures.ok c.in_ok-lines-in-Ok.ensures.ok

pub returns-in_ok-refusal-in-Err-Bad-clause-ok : goal.returns-in_ok-refusal-in-Err-Bad-clause-ok
returns-in_ok-refusal-in-Err-Bad-clause-ok c = refused_taken c.args.text.now c.in_ok-refusal-in-Err-Bad.rest.now c.in_ok-refusal-in-Err-Bad.refusal c.in_ok-refusal-in-Err-Bad.ensures.ok

pub returns-in-Err-Short-clause-err : goal.returns-in-Err-Short-clause-err
returns-in-Err-Short-clause-err c = ok_begun c.args.text.now (subst (OkStop c.args.text.now) c.in-Err-Short.field-0-is c.in-Err-Short.ensures.err)
