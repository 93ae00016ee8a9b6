use Rattle.std.proofs.Common.{◌≡◌, ◌≤◌, arith, ℕ, List, [], Result, Ok, Err, IfOk, ap, refl, subst, sym}
use Rattle.std.proofs.lemmas.Result.{err_from_is_err_and}
use Rattle.ug_types.specs.Ends.{Rose}
use Rattle.ug_types.specs.Principals.{Named}
use Rattle.ug_store.specs.Store.{seen_by}
use Rattle.ug_core.specs.Event.{DaemonState, daemon_of}
use Rattle.ug_audit.specs.Journal.{members}
use Rattle.ug_audit.specs.Noting.{NotesStart}
use Rattle.ug_serve.specs.declared.not_started.NotStarted.{NotStarted}
use Rattle.ug_serve.specs.declared.not_started.NotStarted.TheVariants.{FilesFailed}
use Rattle.ug_serve.specs.Opening.{Started, Opens, Unread, From_rules, started, unused_entries, with_principals, words_of_seed}
use Rattle.ug_serve.proofs.start.start.Goals as goal

opened : {A : Type 0} (people : A → List Named) (d : A → DaemonState) (r : Result A NotStarted) (principals : List Named) → IfOk r (λ s. people s ≡ principals) → with_principals principals (seen_by d r) ≡ seen_by (λ s. started (people s) (d s)) r
opened people d (Ok s) principals h = ap (λ (those : List Named). Ok (started those (d s))) (sym h)
opened people d (Err e) principals h = refl

cause_of : {A : Type 0} (a b : NotStarted) → ◌≡◌ {A = Result A NotStarted} (Err a) (Err b) → a ≡ b
cause_of a b e = cc

rose_after : (a b c : ℕ) → a ≤ b → b ≤ c → Rose b c → Rose a c
rose_after a b c h k r = λ p. grind (arith, r)

pub returns-in_err-settings-clause-starts : goal.returns-in_err-settings-clause-starts
returns-in_err-settings-clause-starts g c =
    let p = err_from_is_err_and c.from_residual.result c.from_residual.ensures.1 in
    rw (p.1, p.2) ([], Unread c.in_err-settings.field-0.0 c.read_settings.new.files c.in_err-settings.ensures.reads, refl)

pub returns-in_err-access-clause-starts : goal.returns-in_err-access-clause-starts
returns-in_err-access-clause-starts g c =
    let p = err_from_is_err_and c.from_residual-in_err-access.result c.from_residual-in_err-access.ensures.1 in
    let noted = subst (λ (ls : List ℕ). NotesStart (unused_entries ls) (members (λ b. goal.Auditor-dyn g (b.vtable, b.value)) c.args.panel.now) (members (λ b. goal.Auditor-dyn g (b.vtable, b.value)) c.note_unused.new.panel)) c.as_slice.ensures c.note_unused.ensures in
    rw (p.1, p.2) (unused_entries c.in_ok-settings.settings.unused, c.in_err-access.ensures.opens c.args.path.now (g.Z.Zone.clock c.args.zone) (words_of_seed c.args.seed) c.args.files.now c.in_ok-settings.ensures.reads, noted)

pub returns-in_err-access-clause-files_cause : goal.returns-in_err-access-clause-files_cause
returns-in_err-access-clause-files_cause g c =
    let p = err_from_is_err_and c.from_residual-in_err-access.result c.from_residual-in_err-access.ensures.1 in
    rw (p.1, p.2) (λ e. rose_after (g.F.ConfFiles.faults c.args.files.now) (g.F.ConfFiles.faults c.read_settings.new.files) (g.F.ConfFiles.faults c.read_parts.new.files) c.read_settings.ensures.counted.0 c.read_parts.ensures.counted (c.in_err-access.ensures.cause (ap (λ (why : NotStarted). Err why) (cause_of c.in_err-access.field-0.0 FilesFailed e))))

pub returns-clause-starts : goal.returns-clause-starts
returns-clause-starts g c =
    let noted = subst (λ (ls : List ℕ). NotesStart (unused_entries ls) (members (λ b. goal.Auditor-dyn g (b.vtable, b.value)) c.args.panel.now) (members (λ b. goal.Auditor-dyn g (b.vtable, b.value)) c.note_unused.new.panel)) c.as_slice.ensures c.note_unused.ensures in
    let parts = c.in_ok-access.ensures.reads in
    let unused = unused_entries c.in_ok-settings.settings.unused in (
      unused,
      subst (λ (r : Result Started NotStarted). Opens g.F.ConfFiles.gives g.D.RuleDisk c.args.path.now (g.Z.Zone.clock c.args.zone) (words_of_seed c.args.seed) c.args.files.now c.args.disk.now unused r c.read_parts.new.files c.start_daemon.new.disk)
          (opened (λ s. s.principals) (λ s. daemon_of s.daemon) c.start_daemon.result c.in_ok-access.access.principals c.start_daemon.ensures.principals)
          (From_rules c.in_ok-settings.settings c.in_ok-access.access c.in_ok-access.folder c.read_settings.new.files parts.0 c.read_parts.new.files c.read_parts.new.disk c.start_daemon.new.disk (seen_by (λ s. daemon_of s.daemon) c.start_daemon.result) c.in_ok-settings.ensures.reads parts.1 parts.2 parts.3 c.start_daemon.ensures.starts),
      noted,
    )
