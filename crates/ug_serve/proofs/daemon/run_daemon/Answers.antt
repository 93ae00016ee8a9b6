use Rattle.std.proofs.Common.{◌≡◌, ◌∙◌, ℕ, List, Bor, Option, Some, None, map, ap, inl, inr, refl, subst, sym}
use Rattle.ug_arguments.specs.Commands.{settings_path}
use Rattle.ug_audit.specs.Journal.{members}
use Rattle.ug_serve.specs.Opening.{words_of_seed}
use Rattle.ug_serve.specs.Serving.{objects}
use Rattle.ug_serve.proofs.Running.{turns_tell}
use Rattle.ug_serve.proofs.Refused.{status_told}
use Rattle.ug_serve.proofs.Served.{Runs, bad_words, completes, has_status, none_is_some, other_words, runs_without_room, runs_without_words}
use Rattle.ug_serve.proofs.daemon.run_daemon.Goals as goal

pub returns-in-Err-Bad-clause-runs : goal.returns-in-Err-Bad-clause-runs
returns-in-Err-Bad-clause-runs g c =
    let none : settings_path (map (λ (w : Bor (List ℕ)). w.now) c.args.words.now) ≡ None = rw c.in-Err-Bad.field-0-is at c.in-Err-Bad.ensures.err in
    rw none
    (runs_without_words g.F.ConfFiles.gives g.Y.Sysfs g.D.RuleDisk g.N.Links g.W.Waiter g.C.Clock
    c.args.turns (g.Z.Zone.clock c.args.zone) (words_of_seed c.args.seed) c.args.files.now (objects c.args.sysfs.now c.args.disk.now c.args.links.now c.args.waiter.now c.args.clock.now (members (λ b. goal.Auditor-dyn g (b.vtable, b.value)) c.args.panel.now)))

pub returns-in-Err-Bad-clause-statuses : goal.returns-in-Err-Bad-clause-statuses
returns-in-Err-Bad-clause-statuses g c = inr (inl refl)

pub returns-in-Err-Bad-clause-bad_words : goal.returns-in-Err-Bad-clause-bad_words
returns-in-Err-Bad-clause-bad_words g c = λ e.
    let none : settings_path (map (λ (w : Bor (List ℕ)). w.now) c.args.words.now) ≡ None = rw c.in-Err-Bad.field-0-is at c.in-Err-Bad.ensures.err in
    none

pub returns-in-Err-Bad-clause-other_words : goal.returns-in-Err-Bad-clause-other_words
returns-in-Err-Bad-clause-other_words g c = λ e. inl refl

pub returns-in-Err-Bad-clause-refused : goal.returns-in-Err-Bad-clause-refused
returns-in-Err-Bad-clause-refused g c = λ path tree n is files disk.
    let none : settings_path (map (λ (w : Bor (List ℕ)). w.now) c.args.words.now) ≡ None = rw c.in-Err-Bad.field-0-is at c.in-Err-Bad.ensures.err in
    absurd (none_is_some _ path none is)

pub returns-in-Err-Bad-clause-complete : goal.returns-in-Err-Bad-clause-complete
returns-in-Err-Bad-clause-complete g c = λ words taken files disk links waiter.
    let none : settings_path (map (λ (w : Bor (List ℕ)). w.now) c.args.words.now) ≡ None = rw c.in-Err-Bad.field-0-is at c.in-Err-Bad.ensures.err in
    absurd (words none)

pub returns-in-Err-Bad-clause-carries : goal.returns-in-Err-Bad-clause-carries
returns-in-Err-Bad-clause-carries g c = turns_tell g.Y.Sysfs g.D.RuleDisk g.N.Links g.W.Waiter g.C.Clock g.met.N.Links.tells g.met.W.Waiter.tells g.met.C.Clock.tells g.met.Y.Sysfs.did

pub returns-in-Err-Memory-clause-runs : goal.returns-in-Err-Memory-clause-runs
returns-in-Err-Memory-clause-runs g c =
    runs_without_room g.F.ConfFiles.gives g.Y.Sysfs g.D.RuleDisk g.N.Links g.W.Waiter g.C.Clock
    c.args.turns (g.Z.Zone.clock c.args.zone) (words_of_seed c.args.seed) c.args.files.now (objects c.args.sysfs.now c.args.disk.now c.args.links.now c.args.waiter.now c.args.clock.now (members (λ b. goal.Auditor-dyn g (b.vtable, b.value)) c.args.panel.now)) (settings_path (map (λ (w : Bor (List ℕ)). w.now) c.args.words.now)) c.status.result c.status.ensures

pub returns-in-Err-Memory-clause-statuses : goal.returns-in-Err-Memory-clause-statuses
returns-in-Err-Memory-clause-statuses g c = inr (inr (inr (inr (inl (sym c.status.ensures)))))

pub returns-in-Err-Memory-clause-other_words : goal.returns-in-Err-Memory-clause-other_words
returns-in-Err-Memory-clause-other_words g c = λ e. inr (inl (sym c.status.ensures))

pub returns-in-Err-Memory-clause-refused : goal.returns-in-Err-Memory-clause-refused
returns-in-Err-Memory-clause-refused g c =
    let r = runs_without_room g.F.ConfFiles.gives g.Y.Sysfs g.D.RuleDisk g.N.Links g.W.Waiter g.C.Clock
    c.args.turns (g.Z.Zone.clock c.args.zone) (words_of_seed c.args.seed) c.args.files.now (objects c.args.sysfs.now c.args.disk.now c.args.links.now c.args.waiter.now c.args.clock.now (members (λ b. goal.Auditor-dyn g (b.vtable, b.value)) c.args.panel.now)) (settings_path (map (λ (w : Bor (List ℕ)). w.now) c.args.words.now)) c.status.result c.status.ensures in
    status_told g.F.ConfFiles.gives g.Y.Sysfs g.D.RuleDisk g.N.Links g.W.Waiter g.C.Clock
    g.F.ConfFiles.told g.met.F.ConfFiles.tells c.args.turns (g.Z.Zone.clock c.args.zone) (words_of_seed c.args.seed) c.args.files.now (objects c.args.sysfs.now c.args.disk.now c.args.links.now c.args.waiter.now c.args.clock.now (members (λ b. goal.Auditor-dyn g (b.vtable, b.value)) c.args.panel.now))
    (settings_path (map (λ (w : Bor (List ℕ)). w.now) c.args.words.now)) r.start r.sockets r.made c.status.result c.args.files.now (objects c.args.sysfs.now c.args.disk.now c.args.links.now c.args.waiter.now c.args.clock.now (members (λ b. goal.Auditor-dyn g (b.vtable, b.value)) c.args.panel.now)) r.serves

pub returns-in-Err-Memory-clause-complete : goal.returns-in-Err-Memory-clause-complete
returns-in-Err-Memory-clause-complete g c = λ words taken files disk links waiter. inr (inl (sym c.status.ensures))

pub returns-in-Err-Memory-clause-carries : goal.returns-in-Err-Memory-clause-carries
returns-in-Err-Memory-clause-carries g c = turns_tell g.Y.Sysfs g.D.RuleDisk g.N.Links g.W.Waiter g.C.Clock g.met.N.Links.tells g.met.W.Waiter.tells g.met.C.Clock.tells g.met.Y.Sysfs.did

pub returns-clause-runs : goal.returns-clause-runs
returns-clause-runs g c =
    let path : Some c.bytes.result.now ≡ (settings_path (map (λ (w : Bor (List ℕ)). w.now) c.args.words.now)) = ap Some c.bytes.ensures ∙ sym c.in-Ok.ensures.ok in
    let r = subst (λ (p : Option (List ℕ)). Runs g.F.ConfFiles.gives g.Y.Sysfs g.D.RuleDisk g.N.Links g.W.Waiter g.C.Clock c.args.turns (g.Z.Zone.clock c.args.zone) (words_of_seed c.args.seed) c.args.files.now (objects c.args.sysfs.now c.args.disk.now c.args.links.now c.args.waiter.now c.args.clock.now (members (λ b. goal.Auditor-dyn g (b.vtable, b.value)) c.args.panel.now)) p c.serve.result c.serve.new.files (objects c.serve.new.sysfs c.serve.new.disk c.serve.new.links c.serve.new.waiter c.serve.new.clock (members (λ b. goal.Auditor-dyn g (b.vtable, b.value)) c.serve.new.panel))) path c.serve.ensures.runs in
    r

pub returns-clause-statuses : goal.returns-clause-statuses
returns-clause-statuses g c =
    let path : Some c.bytes.result.now ≡ (settings_path (map (λ (w : Bor (List ℕ)). w.now) c.args.words.now)) = ap Some c.bytes.ensures ∙ sym c.in-Ok.ensures.ok in
    let r = subst (λ (p : Option (List ℕ)). Runs g.F.ConfFiles.gives g.Y.Sysfs g.D.RuleDisk g.N.Links g.W.Waiter g.C.Clock c.args.turns (g.Z.Zone.clock c.args.zone) (words_of_seed c.args.seed) c.args.files.now (objects c.args.sysfs.now c.args.disk.now c.args.links.now c.args.waiter.now c.args.clock.now (members (λ b. goal.Auditor-dyn g (b.vtable, b.value)) c.args.panel.now)) p c.serve.result c.serve.new.files (objects c.serve.new.sysfs c.serve.new.disk c.serve.new.links c.serve.new.waiter c.serve.new.clock (members (λ b. goal.Auditor-dyn g (b.vtable, b.value)) c.serve.new.panel))) path c.serve.ensures.runs in
    has_status g.F.ConfFiles.gives g.Y.Sysfs g.D.RuleDisk g.N.Links g.W.Waiter g.C.Clock
    c.args.turns (g.Z.Zone.clock c.args.zone) (words_of_seed c.args.seed) c.args.files.now (objects c.args.sysfs.now c.args.disk.now c.args.links.now c.args.waiter.now c.args.clock.now (members (λ b. goal.Auditor-dyn g (b.vtable, b.value)) c.args.panel.now))
    (settings_path (map (λ (w : Bor (List ℕ)). w.now) c.args.words.now)) r.start r.sockets r.made c.serve.result c.serve.new.files (objects c.serve.new.sysfs c.serve.new.disk c.serve.new.links c.serve.new.waiter c.serve.new.clock (members (λ b. goal.Auditor-dyn g (b.vtable, b.value)) c.serve.new.panel)) r.serves

pub returns-clause-bad_words : goal.returns-clause-bad_words
returns-clause-bad_words g c =
    let path : Some c.bytes.result.now ≡ (settings_path (map (λ (w : Bor (List ℕ)). w.now) c.args.words.now)) = ap Some c.bytes.ensures ∙ sym c.in-Ok.ensures.ok in
    let r = subst (λ (p : Option (List ℕ)). Runs g.F.ConfFiles.gives g.Y.Sysfs g.D.RuleDisk g.N.Links g.W.Waiter g.C.Clock c.args.turns (g.Z.Zone.clock c.args.zone) (words_of_seed c.args.seed) c.args.files.now (objects c.args.sysfs.now c.args.disk.now c.args.links.now c.args.waiter.now c.args.clock.now (members (λ b. goal.Auditor-dyn g (b.vtable, b.value)) c.args.panel.now)) p c.serve.result c.serve.new.files (objects c.serve.new.sysfs c.serve.new.disk c.serve.new.links c.serve.new.waiter c.serve.new.clock (members (λ b. goal.Auditor-dyn g (b.vtable, b.value)) c.serve.new.panel))) path c.serve.ensures.runs in
    bad_words g.F.ConfFiles.gives g.Y.Sysfs g.D.RuleDisk g.N.Links g.W.Waiter g.C.Clock
    c.args.turns (g.Z.Zone.clock c.args.zone) (words_of_seed c.args.seed) c.args.files.now (objects c.args.sysfs.now c.args.disk.now c.args.links.now c.args.waiter.now c.args.clock.now (members (λ b. goal.Auditor-dyn g (b.vtable, b.value)) c.args.panel.now))
    (settings_path (map (λ (w : Bor (List ℕ)). w.now) c.args.words.now)) r.start r.sockets r.made c.serve.result c.serve.new.files (objects c.serve.new.sysfs c.serve.new.disk c.serve.new.links c.serve.new.waiter c.serve.new.clock (members (λ b. goal.Auditor-dyn g (b.vtable, b.value)) c.serve.new.panel)) r.serves

pub returns-clause-other_words : goal.returns-clause-other_words
returns-clause-other_words g c =
    let path : Some c.bytes.result.now ≡ (settings_path (map (λ (w : Bor (List ℕ)). w.now) c.args.words.now)) = ap Some c.bytes.ensures ∙ sym c.in-Ok.ensures.ok in
    let r = subst (λ (p : Option (List ℕ)). Runs g.F.ConfFiles.gives g.Y.Sysfs g.D.RuleDisk g.N.Links g.W.Waiter g.C.Clock c.args.turns (g.Z.Zone.clock c.args.zone) (words_of_seed c.args.seed) c.args.files.now (objects c.args.sysfs.now c.args.disk.now c.args.links.now c.args.waiter.now c.args.clock.now (members (λ b. goal.Auditor-dyn g (b.vtable, b.value)) c.args.panel.now)) p c.serve.result c.serve.new.files (objects c.serve.new.sysfs c.serve.new.disk c.serve.new.links c.serve.new.waiter c.serve.new.clock (members (λ b. goal.Auditor-dyn g (b.vtable, b.value)) c.serve.new.panel))) path c.serve.ensures.runs in
    other_words g.F.ConfFiles.gives g.Y.Sysfs g.D.RuleDisk g.N.Links g.W.Waiter g.C.Clock
    c.args.turns (g.Z.Zone.clock c.args.zone) (words_of_seed c.args.seed) c.args.files.now (objects c.args.sysfs.now c.args.disk.now c.args.links.now c.args.waiter.now c.args.clock.now (members (λ b. goal.Auditor-dyn g (b.vtable, b.value)) c.args.panel.now))
    (settings_path (map (λ (w : Bor (List ℕ)). w.now) c.args.words.now)) r.start r.sockets r.made c.serve.result c.serve.new.files (objects c.serve.new.sysfs c.serve.new.disk c.serve.new.links c.serve.new.waiter c.serve.new.clock (members (λ b. goal.Auditor-dyn g (b.vtable, b.value)) c.serve.new.panel)) r.serves

pub returns-clause-refused : goal.returns-clause-refused
returns-clause-refused g c =
    let path : Some c.bytes.result.now ≡ (settings_path (map (λ (w : Bor (List ℕ)). w.now) c.args.words.now)) = ap Some c.bytes.ensures ∙ sym c.in-Ok.ensures.ok in
    let r = subst (λ (p : Option (List ℕ)). Runs g.F.ConfFiles.gives g.Y.Sysfs g.D.RuleDisk g.N.Links g.W.Waiter g.C.Clock c.args.turns (g.Z.Zone.clock c.args.zone) (words_of_seed c.args.seed) c.args.files.now (objects c.args.sysfs.now c.args.disk.now c.args.links.now c.args.waiter.now c.args.clock.now (members (λ b. goal.Auditor-dyn g (b.vtable, b.value)) c.args.panel.now)) p c.serve.result c.serve.new.files (objects c.serve.new.sysfs c.serve.new.disk c.serve.new.links c.serve.new.waiter c.serve.new.clock (members (λ b. goal.Auditor-dyn g (b.vtable, b.value)) c.serve.new.panel))) path c.serve.ensures.runs in
    status_told g.F.ConfFiles.gives g.Y.Sysfs g.D.RuleDisk g.N.Links g.W.Waiter g.C.Clock
    g.F.ConfFiles.told g.met.F.ConfFiles.tells c.args.turns (g.Z.Zone.clock c.args.zone) (words_of_seed c.args.seed) c.args.files.now (objects c.args.sysfs.now c.args.disk.now c.args.links.now c.args.waiter.now c.args.clock.now (members (λ b. goal.Auditor-dyn g (b.vtable, b.value)) c.args.panel.now))
    (settings_path (map (λ (w : Bor (List ℕ)). w.now) c.args.words.now)) r.start r.sockets r.made c.serve.result c.serve.new.files (objects c.serve.new.sysfs c.serve.new.disk c.serve.new.links c.serve.new.waiter c.serve.new.clock (members (λ b. goal.Auditor-dyn g (b.vtable, b.value)) c.serve.new.panel)) r.serves

pub returns-clause-complete : goal.returns-clause-complete
returns-clause-complete g c = λ words taken files disk links waiter.
    let path : Some c.bytes.result.now ≡ (settings_path (map (λ (w : Bor (List ℕ)). w.now) c.args.words.now)) = ap Some c.bytes.ensures ∙ sym c.in-Ok.ensures.ok in
    let r = subst (λ (p : Option (List ℕ)). Runs g.F.ConfFiles.gives g.Y.Sysfs g.D.RuleDisk g.N.Links g.W.Waiter g.C.Clock c.args.turns (g.Z.Zone.clock c.args.zone) (words_of_seed c.args.seed) c.args.files.now (objects c.args.sysfs.now c.args.disk.now c.args.links.now c.args.waiter.now c.args.clock.now (members (λ b. goal.Auditor-dyn g (b.vtable, b.value)) c.args.panel.now)) p c.serve.result c.serve.new.files (objects c.serve.new.sysfs c.serve.new.disk c.serve.new.links c.serve.new.waiter c.serve.new.clock (members (λ b. goal.Auditor-dyn g (b.vtable, b.value)) c.serve.new.panel))) path c.serve.ensures.runs in
    let one =
    bad_words g.F.ConfFiles.gives g.Y.Sysfs g.D.RuleDisk g.N.Links g.W.Waiter g.C.Clock
    c.args.turns (g.Z.Zone.clock c.args.zone) (words_of_seed c.args.seed) c.args.files.now (objects c.args.sysfs.now c.args.disk.now c.args.links.now c.args.waiter.now c.args.clock.now (members (λ b. goal.Auditor-dyn g (b.vtable, b.value)) c.args.panel.now))
    (settings_path (map (λ (w : Bor (List ℕ)). w.now) c.args.words.now)) r.start r.sockets r.made c.serve.result c.serve.new.files (objects c.serve.new.sysfs c.serve.new.disk c.serve.new.links c.serve.new.waiter c.serve.new.clock (members (λ b. goal.Auditor-dyn g (b.vtable, b.value)) c.serve.new.panel)) r.serves in
    let known =
    has_status g.F.ConfFiles.gives g.Y.Sysfs g.D.RuleDisk g.N.Links g.W.Waiter g.C.Clock
    c.args.turns (g.Z.Zone.clock c.args.zone) (words_of_seed c.args.seed) c.args.files.now (objects c.args.sysfs.now c.args.disk.now c.args.links.now c.args.waiter.now c.args.clock.now (members (λ b. goal.Auditor-dyn g (b.vtable, b.value)) c.args.panel.now))
    (settings_path (map (λ (w : Bor (List ℕ)). w.now) c.args.words.now)) r.start r.sockets r.made c.serve.result c.serve.new.files (objects c.serve.new.sysfs c.serve.new.disk c.serve.new.links c.serve.new.waiter c.serve.new.clock (members (λ b. goal.Auditor-dyn g (b.vtable, b.value)) c.serve.new.panel)) r.serves in
    completes c.serve.result known (λ e. words (one e)) taken
    (λ e. files (c.serve.ensures.files_failed e)) (λ e. disk (c.serve.ensures.disk_failed e)) (λ e. elim (c.serve.ensures.wait_failed e) [ inl h ↦ links h | inr h ↦ waiter h ])

pub returns-clause-carries : goal.returns-clause-carries
returns-clause-carries g c = turns_tell g.Y.Sysfs g.D.RuleDisk g.N.Links g.W.Waiter g.C.Clock g.met.N.Links.tells g.met.W.Waiter.tells g.met.C.Clock.tells g.met.Y.Sysfs.did
