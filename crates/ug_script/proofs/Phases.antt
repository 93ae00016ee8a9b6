-- What a script's phase says of its daemon.
use Rattle.std.proofs.Common.{◌≡◌, true, false, refl}
use Rattle.ug_script.specs.Script.{Phase, SettingUp, Unstarted, Started, takes_setup, has_started, closed_phase, daemon_by, disk_by}
use Rattle.ug_script.specs.Setup.{SetupState, rules_disk, first_started}

-- while lines of setup may come, no daemon was started
pub open_unstarted : (phase : Phase) → takes_setup phase ≡ true → (has_started phase ≡ false) × ((setup : SetupState) → daemon_by setup phase ≡ first_started setup) × ((setup : SetupState) → disk_by setup phase ≡ rules_disk setup)
open_unstarted SettingUp e = (refl, λ setup. refl, λ setup. refl)
open_unstarted Unstarted e = let none : ⊥ = cc in absurd none
open_unstarted (Started d disk) e = let none : ⊥ = cc in absurd none

pub closed_daemon : (setup : SetupState) (phase : Phase) → daemon_by setup (closed_phase phase) ≡ daemon_by setup phase
closed_daemon setup SettingUp = refl
closed_daemon setup Unstarted = refl
closed_daemon setup (Started d disk) = refl

pub closed_disk : (setup : SetupState) (phase : Phase) → disk_by setup (closed_phase phase) ≡ disk_by setup phase
closed_disk setup SettingUp = refl
closed_disk setup Unstarted = refl
closed_disk setup (Started d disk) = refl

pub closed_started : (phase : Phase) → has_started (closed_phase phase) ≡ has_started phase
closed_started SettingUp = refl
closed_started Unstarted = refl
closed_started (Started d disk) = refl
