use Rattle.std.proofs.Common.{ℕ, ◌≤◌, List, length, drop, subst, arith, length-drop, Ok, None}
use Rattle.ug_types.proofs.Known.{to_end}
use Rattle.ug_client.specs.Answers.{IsNoticeBegun}
use Rattle.ug_client.specs.Notices.{IsNoticeThen, BeginsOtherwise}
use Rattle.ug_client.proofs.Skipping.{one_skipped, begun_awaits, behind_notices}
use Rattle.ug_client.proofs.answer.read_behind.Goals as goal

pub notices-init : goal.notices-init
notices-init c = record { within = c.requires.within; skipped = c.requires.notices }

pub notices-preserved : goal.notices-preserved
notices-preserved c =
    let e = to_end c.notices.at c.args.text.now in
    let l : c.in-Notice.n ≤ length (drop c.notices.at c.args.text.now) = subst (λ (b : List ℕ). c.in-Notice.n ≤ length b) e c.in-Notice.ensures.0 in
    let i = c.notices.invariant in
    record {
      within = omega (arith, l, length-drop c.notices.at c.args.text.now, i.within);
      skipped = one_skipped c.args.text.now c.notices.at c.in-Notice.n i.skipped (subst (λ (b : List ℕ). IsNoticeThen b (drop c.in-Notice.n b)) e c.in-Notice.ensures.1);
    }

pub returns-in-Begun-clause-answers : goal.returns-in-Begun-clause-answers
returns-in-Begun-clause-answers c = behind_notices c.args.text.now c.notices.at c.notices.invariant.within c.notices.invariant.skipped (Ok None)
    (begun_awaits (drop c.notices.at c.args.text.now) (subst IsNoticeBegun (to_end c.notices.at c.args.text.now) c.in-Begun.ensures))

pub read_reply-requires-clause-other : goal.read_reply-requires-clause-other
read_reply-requires-clause-other c = subst BeginsOtherwise (to_end c.notices.at c.args.text.now) c.in-Other.ensures
