-- The line is noted, and then each `dropped` entry that is due.
use Rattle.std.proofs.Common.{ℕ, List, length, ap, ◌∙◌, arith}
use Rattle.ug_audit.proofs.Noting.{live_few}
use Rattle.ug_audit.proofs.StartNoting.{first_given, next_given, all_given}
use Rattle.ug_audit.proofs.panel.Panel.note_start.Goals as goal

pub give_line-requires : goal.give_line-requires
give_line-requires g c =
    let panel = c.args.self.now in
    let few = live_few panel.auditors.items panel.dropped in
    let none = ap (λ (xs : List ℕ). length xs) c.new-due.ensures in
    omega (arith, few, panel.few, none)

pub loop-member-init : goal.loop-member-init
loop-member-init g c =
    let n = c.give_line.ensures in
    let panel = c.args.self.now in
    let few = live_few panel.auditors.items panel.dropped in
    let none = ap (λ (xs : List ℕ). length xs) c.new-due.ensures in
    record {
      given = first_given _ _ _ _ _ _ (c.bytes.ensures ∙ c.line_of_start.ensures) c.new-due.ensures n.each n.due;
      few = omega (arith, n.live, none, few, panel.few);
    }

pub loop-member-preserved : goal.loop-member-preserved
loop-member-preserved g c =
    let n = c.give_line-in-Some.ensures in
    let i = c.loop-member.invariant in
    let first = ap (λ (xs : List ℕ). length xs) c.in-Some.ensures in
    record {
      given = next_given _ _ _ c.in-Some.member _ _ _ _ _ i.given c.in-Some.ensures (c.bytes-in-Some.ensures ∙ c.line_of.ensures) n.each n.due;
      few = omega (arith, n.live, i.few, first);
    }

pub returns : goal.returns
returns g c = all_given _ _ _ _ c.loop-member.invariant.given c.in_default.ensures
