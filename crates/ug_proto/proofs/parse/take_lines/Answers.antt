use Rattle.std.proofs.Common.{ℕ, List, ◌≡◌, ◌+◌, ◌++◌, length, subst, sym}
use Rattle.std.proofs.lemmas.Result.{err_from_is_err_and}
use Rattle.ug_proto.specs.Replies.{ended_lines, AreWholeLines}
use Rattle.ug_proto.proofs.AnswerScans.{lines_stop, line_more, whole_more, count_more}
use Rattle.ug_proto.proofs.parse.take_lines.Goals as goal

pub returns-in_err-line-clause-err : goal.returns-in_err-line-clause-err
returns-in_err-line-clause-err c =
    let p = err_from_is_err_and c.from_residual.result c.from_residual.ensures.1 in
    rw (p.1, p.2) (lines_stop c.args.count c.loop-i._i c.args.text.now c.loop-i.rest.now c.loop-i.lines c.in_err-line.field-0.0 c.loop-i-test.true c.loop-i.invariant.whole c.loop-i.invariant.count c.loop-i.invariant.text c.in_err-line.ensures.err)

pub loop-i-preserved : goal.loop-i-preserved
loop-i-preserved c =
    let more = c.in_ok-push.ensures.ok in record {
      whole = subst AreWholeLines (sym more) (whole_more c.loop-i.lines c.in_ok-line.line c.loop-i.invariant.whole c.in_ok-line.ensures.ok.0);
      count = subst (λ (ls : List (List ℕ)). length ls ≡ c.loop-i._i + 1) (sym more) (count_more c.loop-i.lines c.in_ok-line.line c.loop-i._i c.loop-i.invariant.count);
      text = subst (λ (ls : List (List ℕ)). c.args.text.now ≡ ended_lines ls ++ c.in_ok-line.behind.now) (sym more) (line_more c.args.text.now c.loop-i.rest.now c.in_ok-line.line c.in_ok-line.behind.now c.loop-i.lines c.loop-i.invariant.text c.in_ok-line.ensures.ok.1);
    }
