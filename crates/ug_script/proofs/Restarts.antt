-- A restart that starts the first daemon before.
use Rattle.std.proofs.Common.{◌≡◌, ℕ, Bool, true, false, cond, List, Option, Some, Result, Ok, Err, refl, sym, ◌∙◌, ap, subst}
use Rattle.ug_types.specs.declared.rule.Rule.{Rule}
use Rattle.ug_sysfs.specs.World.{World}
use Rattle.ug_command_io.specs.Fold.{LineRefusal, InputTooLong, LineOutcome, Refused}
use Rattle.ug_command_io.specs.Runs.{Steps}
use Rattle.ug_command_io.specs.declared.machine.Ran.{Ran}
use Rattle.ug_store.specs.Scripted.{DiskWorld}
use Rattle.ug_store.specs.declared.mishap.Planned.{Planned}
use Rattle.ug_core.specs.Event.{DaemonState}
use Rattle.ug_script.specs.Replay.{restart_taken, restarted}
use Rattle.ug_script.specs.Script.{Phase, Script, SettingUp, Started, Unstarted, disk_in, fits_file, has_started}
use Rattle.ug_script.specs.Setup.{SetupState, rules_disk, rules_from, first_started}

-- a daemon was started over that disk
abbrev started_with : SetupState → List Planned → DaemonState → DiskWorld → Script
started_with setup plan d o = record { setup = setup; phase = Started d o; planned = plan }

-- by the setup lines alone, a restart goes on from the daemon that they give
same_restart : (setup : SetupState) (phase : Phase) (plan : List Planned) (w : World) (r : Result (List Rule) LineRefusal) → has_started phase ≡ false → restarted r (record { setup = setup; phase = phase; planned = plan }) w ≡ restarted r (started_with setup plan (first_started setup) (rules_disk setup)) w
same_restart setup SettingUp plan w (Ok rules) new = refl
same_restart setup SettingUp plan w (Err fault) new = refl
same_restart setup Unstarted plan w (Ok rules) new = refl
same_restart setup Unstarted plan w (Err fault) new = refl
same_restart setup (Started d o) plan w r new = let none : ⊥ = cc in absurd none

abbrev restarted_if : Bool → Script → World → LineOutcome (Option Script × World)
restarted_if starts s w = cond starts (restarted (rules_from s.setup.folder.count (disk_in s).disk.text) s w) (Refused InputTooLong (Some s, w))

first_taken : (setup : SetupState) (phase : Phase) (plan : List Planned) (w : World) → has_started phase ≡ false → fits_file setup ≡ true → restart_taken (record { setup = setup; phase = phase; planned = plan }) w ≡ restarted (rules_from setup.folder.count (rules_disk setup).disk.text) (started_with setup plan (first_started setup) (rules_disk setup)) w
first_taken setup SettingUp plan w new fits =
    ap (λ (b : Bool). restarted_if b (record { setup = setup; phase = SettingUp; planned = plan }) w) fits
    ∙ same_restart setup SettingUp plan w (rules_from setup.folder.count (rules_disk setup).disk.text) new
first_taken setup Unstarted plan w new fits =
    ap (λ (b : Bool). restarted_if b (record { setup = setup; phase = Unstarted; planned = plan }) w) fits
    ∙ same_restart setup Unstarted plan w (rules_from setup.folder.count (rules_disk setup).disk.text) new
first_taken setup (Started d o) plan w new fits = let none : ⊥ = cc in absurd none

-- and so from one that was started by them
pub restart_first : (setup : SetupState) (phase : Phase) (plan : List Planned) (d : DaemonState) (o : DiskWorld) (e : DaemonState) (p : DiskWorld) (w : World) (held : Option (List ℕ)) (r : Ran) → has_started phase ≡ false → fits_file setup ≡ true → d ≡ first_started setup → o ≡ rules_disk setup → Steps (restarted (rules_from setup.folder.count o.disk.text) (started_with setup plan d o) w) (Some (started_with setup plan e p), w) held held r → Steps (restart_taken (record { setup = setup; phase = phase; planned = plan }) w) (Some (started_with setup plan e p), w) held held r
restart_first setup phase plan d o e p w held r new fits is on h =
    subst (λ (x : LineOutcome (Option Script × World)). Steps x (Some (started_with setup plan e p), w) held held r)
    (ap (λ (x : DiskWorld). restarted (rules_from setup.folder.count x.disk.text) (started_with setup plan d x) w) on
    ∙ ap (λ (x : DaemonState). restarted (rules_from setup.folder.count (rules_disk setup).disk.text) (started_with setup plan x (rules_disk setup)) w) is
    ∙ sym (first_taken setup phase plan w new fits))
    h
