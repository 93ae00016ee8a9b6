-- What the members noted over a part of an event.
use Rattle.std.proofs.Common.{◌≡◌, ℕ, ◌+◌, Bool, List, [], ◌++◌, length, refl, sym, subst, ap, ◌∙◌, append_assoc, append-nil, arith}
use Rattle.rand_core.specs.declared.Rng as Rng
use Rattle.ug_cond.specs.declared.zone.Zone as Zone
use Rattle.ug_audit.specs.declared.entry.Entry.{Entry}
use Rattle.ug_audit.specs.declared.journal.Journal.{Journal}
use Rattle.ug_audit.specs.declared.panel.Panel.{Panel}
use Rattle.ug_audit.specs.Journal.{SameEntries, AuditorTold, members}
use Rattle.ug_audit.specs.Noting.{NotesEntries}
use Rattle.ug_audit.specs.Panels.{Member}
use Rattle.ug_audit.proofs.Noting.{notes_on}
use Rattle.ug_core.specs.Event.{DaemonState, daemon_of, NotesAtMost, NotesMore}
use Rattle.ug_core.specs.declared.daemon.Daemon.{Daemon}
use Rattle.ug_core.specs.declared.report.Report.{Report}

-- what was noted in a journal, by the panel that it leaves
pub noted_more : {X : Type 0} {F : X → Type 0} (told : AuditorTold X F) (a b : Journal X F) (panel last : Panel X F) (es fs : List Entry) → SameEntries told a b → a.panel.now ≡ panel → last ≡ b.panel.now → a.entries.now.entries ≡ es → fs ≡ b.entries.now.entries → NotesMore es fs (members told panel) (members told last)
noted_more {X} {F} told a b panel last es fs h same end was is =
    let from = subst (λ (p : Panel X F). NotesEntries h.added (members told p) (members told b.panel.now)) same h.noted in
    record {
      added = h.added;
      all = is ∙ h.all ∙ ap (λ (xs : List Entry). xs ++ h.added) was;
      noted = subst (λ (p : Panel X F). NotesEntries h.added (members told panel) (members told p)) (sym end) from;
    }

-- where the first was noted into no entries
pub all_noted : (es fs : List Entry) (ms ns os : List Member) → NotesEntries es ms ns → NotesMore es fs ns os → NotesEntries fs ms os
all_noted es fs ms ns os h k = subst (λ (xs : List Entry). NotesEntries xs ms os) (sym k.all) (notes_on [] es k.added ms ns os [] [] h k.noted)

pub more_noted : (es fs gs : List Entry) (ms ns os : List Member) → NotesMore es fs ms ns → NotesMore fs gs ns os → NotesMore es gs ms os
more_noted es fs gs ms ns os h k = record {
  added = h.added ++ k.added;
  all = k.all ∙ ap (λ (xs : List Entry). xs ++ k.added) h.all ∙ append_assoc es h.added k.added;
  noted = notes_on [] h.added k.added ms ns os [] [] h.noted k.noted;
}

-- a step that notes nothing: it changes at most whether a save is pending
pub notes_none : {Z R : Type 0} {z : Zone.Ghosts Z} {g : Rng.Ghosts R} {X : Type 0} {F : X → Type 0} {most : ℕ}
    {told : AuditorTold X F} {d e : Daemon Z R z g} {panel : Panel X F} {pending : Bool}
    → e.report ≡ d.report → daemon_of e ≡ record (daemon_of d) { pending = pending }
    → NotesAtMost most told d panel e panel
notes_none {d = d} report same =
    let spare = ap (λ (r : Report). r.entries.spare) report in
    let few = ap (λ (x : DaemonState). length x.sweep.standings) same in
    record {
      spare = omega (arith, spare);
      noted = record {
        added = [];
        all = ap (λ (r : Report). r.entries.entries) report ∙ sym (append-nil d.report.entries.entries);
        noted = (refl, refl);
      };
      number = ap (λ (r : Report). r.event) report;
      next = ap (λ (x : DaemonState). x.sweep.next) same;
      next_event = ap (λ (x : DaemonState). x.event) same;
      due = ap (λ (x : DaemonState). x.due) same;
      standings = omega (arith, few);
    }

-- a step behind another
pub notes_then : {Z R : Type 0} {z : Zone.Ghosts Z} {g : Rng.Ghosts R} {X : Type 0} {F : X → Type 0} {m n : ℕ}
    {told : AuditorTold X F} {d e f : Daemon Z R z g} {panel amid last : Panel X F}
    → NotesAtMost m told d panel e amid → NotesAtMost n told e amid f last
    → NotesAtMost (m + n) told d panel f last
notes_then h k = record {
  spare = omega (arith, h.spare, k.spare);
  noted = more_noted _ _ _ _ _ _ h.noted k.noted;
  number = k.number ∙ h.number;
  next = k.next ∙ h.next;
  next_event = k.next_event ∙ h.next_event;
  due = k.due ∙ h.due;
  standings = omega (arith, h.standings, k.standings);
}
