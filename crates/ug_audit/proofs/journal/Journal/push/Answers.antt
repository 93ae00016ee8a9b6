-- The entry is noted, and then each `dropped` entry that is due.
use Rattle.std.proofs.Common.{ℕ, List, length, ap, ◌∙◌, arith}
use Rattle.ug_audit.proofs.Noting.{live_few}
use Rattle.ug_audit.proofs.Pushing.{first_pushed, next_pushed, pushed_one}
use Rattle.ug_audit.proofs.journal.Journal.push.Goals as goal

pub note-requires-clause-few : goal.note-requires-clause-few
note-requires-clause-few g c =
    let panel = c.args.self.now.panel.now in
    let few = live_few panel.auditors.items panel.dropped in
    let none = ap (λ (xs : List ℕ). length xs) c.new-due.ensures in
    omega (arith, few, panel.few, none)

pub loop-member-init : goal.loop-member-init
loop-member-init g c =
    let n = c.note.ensures in
    let panel = c.args.self.now.panel.now in
    let few = live_few panel.auditors.items panel.dropped in
    let none = ap (λ (xs : List ℕ). length xs) c.new-due.ensures in
    record {
      panel = n.same_panel;
      entries = n.same_entries;
      pushed = first_pushed _ _ _ _ _ _ c.requires.kind c.new-due.ensures n.entries n.each n.due;
      spare = omega (arith, n.spare, n.live, none);
      room = n.room;
      few = omega (arith, n.live, none, few, panel.few);
    }

pub loop-member-preserved : goal.loop-member-preserved
loop-member-preserved g c =
    let n = c.note-in-Some.ensures in
    let i = c.loop-member.invariant in
    let first = ap (λ (xs : List ℕ). length xs) c.in-Some.ensures in
    record {
      panel = n.same_panel ∙ i.panel;
      entries = n.same_entries ∙ i.entries;
      pushed = next_pushed _ _ c.in-Some.member _ _ _ _ _ _ i.pushed c.in-Some.ensures n.entries n.each n.due;
      spare = omega (arith, n.spare, n.live, i.spare, first);
      room = n.room ∙ i.room;
      few = omega (arith, n.live, i.few, first);
    }

pub returns-clause-entries : goal.returns-clause-entries
returns-clause-entries g c = pushed_one _ _ _ _ _ c.loop-member.invariant.pushed
