use Rattle.ug_audit.specs.Noting.{without_drops}
use Rattle.std.proofs.Common.{refl, ap, ◌∙◌}
use Rattle.ug_core.proofs.start.Beside.start.Goals as goal

pub returns-clause-ok : goal.returns-clause-ok
returns-clause-ok g c = record {
  started = record { judge = c.new.ensures; hub = refl; standings = c.new-2.ensures.standings; next = c.new-2.ensures.next; listed = c.new-2.ensures.listed; entries = ap without_drops (c.reserve.ensures.entries ∙ ap (λ n. n.entries) c.new-entries.ensures); pending = c.requires.unsaved; stream = λ i. record { messages = c.new-3.ensures.messages i; begun = c.new-3.ensures.begun i }; due = refl; event = refl; reply = refl; watch = refl };
  access = refl;
  pending = refl;
}
