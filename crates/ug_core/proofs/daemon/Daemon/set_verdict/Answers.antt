use Rattle.std.proofs.Common.{rules, sym, ap, ◌∙◌, arith}
use Rattle.ug_audit.specs.Journal.{live_in}
use Rattle.ug_core.proofs.daemon.Daemon.set_verdict.Goals as goal

pub returns-clause-notes : goal.returns-clause-notes
returns-clause-notes g c =
    let notes = c.order.ensures.journal in
    let name = sym (notes.0.panel ∙ c.join-journal.ensures.same_panel) in
    let left = c.panel-1.given.1 name in
    let after = ap (λ (p : _). live_in p) left in
    let before = ap (λ (p : _). live_in p) c.join-journal.ensures.panel in
    let entries = ap (λ (e : _). e.spare) c.join-journal.ensures.now in
    record {
      spare = omega (arith, notes.2, c.requires.spare, after, before, entries);
      noted = search rules;
      number = search rules;
      next = search rules;
      next_event = search rules;
      due = search rules;
      standings = search rules;
    }
