use Rattle.std.proofs.Common.{arith}
use Rattle.std.proofs.lemmas.Result.{err_from_is_err_and}
use Rattle.ug_proto.specs.RefusalParts.{number_then, IsNumberIn}
use Rattle.ug_proto.proofs.NamedTaken.{front_taken}
use Rattle.ug_proto.proofs.RefusalScans.{front_stops, behind_stops}
use Rattle.ug_proto.proofs.parse.take_named.Goals as goal

pub returns-in_err-rest-clause-err : goal.returns-in_err-rest-clause-err
returns-in_err-rest-clause-err c =
    let p = err_from_is_err_and c.from_residual.result c.from_residual.ensures.1 in
    rw (p.1, p.2) (front_stops c.args.name.now (number_then 10) (IsNumberIn 0 c.args.most) c.args.text.now c.in_err-rest.field-0.0 0 (omega arith, omega arith) c.in_err-rest.ensures.err)

pub returns-in_err-number-clause-err : goal.returns-in_err-number-clause-err
returns-in_err-number-clause-err c =
    let p = err_from_is_err_and c.from_residual-in_err-number.result c.from_residual-in_err-number.ensures.1 in
    rw (p.1, p.2) (behind_stops c.args.name.now (number_then 10) (IsNumberIn 0 c.args.most) c.args.text.now c.in_ok-rest.rest.now c.in_err-number.field-0.0 c.in_ok-rest.ensures.ok c.in_err-number.ensures.err)

pub returns-clause-ok : goal.returns-clause-ok
returns-clause-ok c =
    (c.in_ok-number.number, front_taken c.args.name.now (number_then 10) (IsNumberIn 0 c.args.most) c.args.text.now c.in_ok-rest.rest.now c.in_ok-number.number c.in_ok-number.rest.now c.in_ok-rest.ensures.ok c.in_ok-number.ensures.ok, c.renumbered.ensures)
