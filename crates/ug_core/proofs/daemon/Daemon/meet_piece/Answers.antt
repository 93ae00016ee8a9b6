use Rattle.std.proofs.Common.{◌≡◌, ◌++◌, ◌∷◌, [], List, Bool, ℕ, Some, inl, inr, refl, sym, ap, subst, ◌∙◌, length, arith}
use Rattle.std.specs.Prelude.{◌↔◌}
use Rattle.ug_types.specs.Elements.{Has}
use Rattle.ug_audit.specs.declared.entry.Entry.{Entry}
use Rattle.ug_audit.specs.declared.entry.Entry.TheVariants as entry
use Rattle.ug_audit.specs.declared.entry.Fault.TheVariants as fault
use Rattle.ug_audit.specs.Journal.{live_in}
use Rattle.ug_audit.specs.Noted.{Noted}
use Rattle.ug_audit.specs.Noting.{without_drops}
use Rattle.ug_audit.proofs.Noting.{goes_on}
use Rattle.ug_table.specs.Laws.{AreInOrder}
use Rattle.ug_uevent.specs.Streams.{stream_with_piece}
use Rattle.ug_core.specs.Event.{daemon_of}
use Rattle.ug_core.specs.Hinting.{names_due, refusals}
use Rattle.ug_core.proofs.Noted.{noted_more}
use Rattle.ug_core.proofs.Pieces.{due_order, fits_names}
use Rattle.ug_core.proofs.daemon.Daemon.meet_piece.Goals as goal

pub returns-in-Ok-clause-noted : goal.returns-in-Ok-clause-noted
returns-in-Ok-clause-noted g c =
    let all = c.read_piece.ensures.same in
    let name = sym (all.panel ∙ c.join-journal.ensures.same_panel) in
    noted_more _ _ _ _ _ _ _ all c.join-journal.ensures.panel (c.in-Ok.panel-1-own.given.1 name) (ap (λ (v : Noted). v.entries) c.join-journal.ensures.now) refl

pub returns-in-Ok-clause-fits : goal.returns-in-Ok-clause-fits
returns-in-Ok-clause-fits g c =
    let due = c.names_due.ensures.due in
    let few = c.names_due.ensures.few in
    let name = sym (c.read_piece.ensures.same.panel ∙ c.join-journal.ensures.same_panel) in
    let live = ap (λ (p : _). live_in p) (c.in-Ok.panel-1-own.given.1 name) in
    fits_names _ c.names_due.result _ _ _ _ refl
    (subst AreInOrder (sym due.3) (due_order c.listed.result due.0 due.1))
    (omega (arith, few, c.in-Ok.ensures.fits.0))
    (omega (arith, few, live, c.in-Ok.ensures.fits.1))
    (omega (arith, few, c.in-Ok.ensures.fits.2))

pub returns-in-Ok-clause-meets : goal.returns-in-Ok-clause-meets
returns-in-Ok-clause-meets g c =
    let r = c.in-Ok.ensures.reads in
    let sorted = c.names_due.ensures.due in
    let d = daemon_of c.args.self.now in
    let noted : without_drops c.read_piece.new.out.entries.now.entries ≡ d.sweep.entries ++ refusals r.answers =
    r.noted ∙ ap (λ (es : List Entry). es ++ refusals r.answers) (ap (λ (v : Noted). without_drops v.entries) c.join-journal.ensures.now) in
    let stream : c.read_piece.new.hints ≡ record { messages = []; begun = (stream_with_piece c.args.self.now.hints c.args.piece.now).begun } = c.in-Ok.ensures.stream in
    let due : c.names_due.result ≡ names_due c.args.self.now.table.listed sorted.0 = sorted.3 ∙ ap (λ (listed : Bool). names_due listed sorted.0) c.listed.ensures in
    inl (record {
      answers = r.answers;
      each = r.each;
      names = sorted.0;
      order = sorted.1;
      hinted = λ name. subst (λ (ns : List (List ℕ)). Has sorted.0 name ↔ Has ns name) r.hinted (sorted.2 name);
      state = λ i. record d { sweep = record d.sweep { entries = noted i }; stream = stream i; due = Some (due i) };
    })

pub returns-in-Err-clause-noted : goal.returns-in-Err-clause-noted
returns-in-Err-clause-noted g c =
    let all = goes_on _ _ _ _ c.read_piece.ensures.same c.push.ensures.same in
    let name = sym (all.panel ∙ c.join-journal.ensures.same_panel) in
    noted_more _ _ _ _ _ _ _ all c.join-journal.ensures.panel (c.panel-in-Err-1.given.1 name) (ap (λ (v : Noted). v.entries) c.join-journal.ensures.now) refl

pub returns-in-Err-clause-fits : goal.returns-in-Err-clause-fits
returns-in-Err-clause-fits g c =
    let none = ap length c.new.ensures in
    let kept = c.in-Err.ensures.kept in
    let name = sym ((c.push.ensures.same.panel ∙ c.read_piece.ensures.same.panel) ∙ c.join-journal.ensures.same_panel) in
    let live = ap (λ (p : _). live_in p) (c.panel-in-Err-1.given.1 name) in
    let joined = ap (λ (p : _). live_in p) c.join-journal.ensures.panel in
    fits_names _ c.new.result _ _ _ _ refl
    (subst AreInOrder (sym c.new.ensures) tt)
    (omega (arith, none))
    (omega (arith, none, live, joined, c.push.ensures.places, kept.1, ap (λ (v : Noted). v.spare) c.join-journal.ensures.now, c.requires.place))
    (omega (arith, none, c.push.ensures.room, kept.2, ap (λ (v : Noted). v.room) c.join-journal.ensures.now, c.args.self.now.room))

pub returns-in-Err-clause-meets : goal.returns-in-Err-clause-meets
returns-in-Err-clause-meets g c =
    let d = daemon_of c.args.self.now in
    let told : Entry = entry.UnsettledAll fault.Memory in
    let noted : without_drops c.push.new.self.entries.now.entries ≡ d.sweep.entries ++ told ∷ [] =
    c.push.ensures.entries ∙ ap (λ (es : List Entry). es ++ told ∷ []) (c.in-Err.ensures.kept.0 ∙ ap (λ (v : Noted). without_drops v.entries) c.join-journal.ensures.now) in
    inr (λ i. record d { sweep = record d.sweep { entries = noted i }; stream = c.in-Err.ensures.stream i; due = Some (c.new.ensures i) })
