use Rattle.std.proofs.Common.{◌≡◌, ◌∙◌, List, Option, Some, Bor, option_copied, sym, ap, subst, arith}
use Rattle.ug_audit.specs.Journal.{noted_in}
use Rattle.ug_table.proofs.Loops.{notes_then}
use Rattle.ug_table.proofs.Common.{Entry, Runs, known_of, numbered, tried_standings, bringing}
use Rattle.ug_table.proofs.Marks.{keeps_tried, kept_as}
use Rattle.ug_table.proofs.Ordered.{keeps_ordered, ordering_goes}
use Rattle.ug_table.specs.Orders.{with_verdict}
use Rattle.ug_table.specs.declared.standing.Standing.{Standing}
use Rattle.ug_table.proofs.order.order_standing.Goals as goal

pub returns-clause-runs : goal.returns-clause-runs
returns-clause-runs g c =
    let x : Standing = c.in-Some.s.now in
    let ss : List Standing = c.args.standings.now.items in
    let copied : Option (Bor Standing) → Option Standing = option_copied in
    let at : numbered c.args.number ss ≡ Some x = sym c.numbered.ensures ∙ ap copied c.in-Some.is in
    let h = c.bring-settled in
    let run = subst (λ (es : List Entry). Runs g.Y.Sysfs.gives c.args.sysfs.now (bringing x.name (known_of (with_verdict c.args.verdict c.args.who x)) c.args.on es) (h.result, (noted_in h.new.out).entries) h.new.sysfs) c.push.ensures.entries h.ensures.runs in
    ordering_goes g.Y.Sysfs.gives c.args.number c.args.verdict c.args.who c.args.on ss _ (noted_in c.args.out.now).entries _ x _ _ h.result at run
    (c.remember.ensures.standings ∙ ap (λ (v : List Standing). tried_standings v x.name h.result) c.set_verdict.ensures.items)

pub returns-clause-journal : goal.returns-clause-journal
returns-clause-journal g c = notes_then _ 1 5 _ _ _ _ (c.push.ensures.same, c.push.ensures.room, omega (arith, c.push.ensures.spare)) c.bring-settled.ensures.journal (omega arith)

pub returns-clause-keeps : goal.returns-clause-keeps
returns-clause-keeps g c next o =
    kept_as _ _ _ c.remember.ensures.standings (keeps_tried c.in-Some.s.now.name _ c.set_verdict.new.self.items) next
    (kept_as _ _ _ c.set_verdict.ensures.items (keeps_ordered c.args.number c.args.verdict c.args.who c.args.standings.now.items) next o)
