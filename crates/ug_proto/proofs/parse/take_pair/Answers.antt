use Rattle.std.proofs.Common.{ℕ, ◌++◌, arith}
use Rattle.std.proofs.lemmas.Result.{err_from_is_err_and}
use Rattle.ug_proto.specs.RefusalParts.{number_then, IsNumberIn, IsPairIn}
use Rattle.ug_proto.proofs.RefusalScans.{front_stops, behind_stops, first_stops, second_stops, one_number}
use Rattle.ug_proto.proofs.parse.take_pair.Goals as goal

pub returns-in_err-rest-clause-err : goal.returns-in_err-rest-clause-err
returns-in_err-rest-clause-err c =
    let p = err_from_is_err_and c.from_residual.result c.from_residual.ensures.1 in
    rw (p.1, p.2) (front_stops {X = ℕ × ℕ} c.args.name.now (λ (p : ℕ × ℕ). number_then 32 p.0 ++ number_then 10 p.1) (IsPairIn c.args.most) c.args.text.now c.in_err-rest.field-0.0 (0, 0) ((omega arith, omega arith), (omega arith, omega arith)) c.in_err-rest.ensures.err)

pub returns-in_err-first-clause-err : goal.returns-in_err-first-clause-err
returns-in_err-first-clause-err c =
    let p = err_from_is_err_and c.from_residual-in_err-first.result c.from_residual-in_err-first.ensures.1 in
    rw (p.1, p.2) (behind_stops {X = ℕ × ℕ} c.args.name.now (λ (p : ℕ × ℕ). number_then 32 p.0 ++ number_then 10 p.1) (IsPairIn c.args.most) c.args.text.now c.in_ok-rest.rest.now c.in_err-first.field-0.0 c.in_ok-rest.ensures.ok (first_stops (number_then 32) (IsNumberIn 0 c.args.most) (number_then 10) (IsNumberIn 0 18446744073709551615) c.in_ok-rest.rest.now c.in_err-first.field-0.0 0 (omega arith, omega arith) c.in_err-first.ensures.err))

pub returns-in_err-second-clause-err : goal.returns-in_err-second-clause-err
returns-in_err-second-clause-err c =
    let p = err_from_is_err_and c.from_residual-in_err-second.result c.from_residual-in_err-second.ensures.1 in
    rw (p.1, p.2) (behind_stops {X = ℕ × ℕ} c.args.name.now (λ (p : ℕ × ℕ). number_then 32 p.0 ++ number_then 10 p.1) (IsPairIn c.args.most) c.args.text.now c.in_ok-rest.rest.now c.in_err-second.field-0.0 c.in_ok-rest.ensures.ok (second_stops (number_then 32) (IsNumberIn 0 c.args.most) (number_then 10) (IsNumberIn 0 18446744073709551615) c.in_ok-rest.rest.now c.in_ok-first.rest.now c.in_err-second.field-0.0 c.in_ok-first.first c.in_ok-first.ensures.ok.0 c.in_ok-first.ensures.ok.1 (one_number 32 c.args.most (omega arith) (omega arith)) c.in_err-second.ensures.err))
