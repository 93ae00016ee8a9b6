-- A script keeps devices and interfaces sound: its events, its passes, and what is scheduled.
use Rattle.std.proofs.Common.{◌≡◌, Bool, true, false, cond, List, [], ◌∷◌, Some, None, refl, sym, ap, subst, ◌∙◌, inl}
use Rattle.std.proofs.lemmas.Option.{same_Some}
use Rattle.ug_kernel.specs.Calls.{Call}
use Rattle.ug_kernel.specs.Tree.{Prog, Return, Ask, Room}
use Rattle.ug_sysfs.specs.World.{World, halting, over, scripted_answer}
use Rattle.ug_sysfs.specs.Serving.{bus_in, bus_told, iface_answer_of}
use Rattle.ug_sysfs.specs.IfaceLaw.{does_so, keeps_ifaces}
use Rattle.ug_sysfs.specs.IfaceMoves.{bus_over_sound}
use Rattle.ug_iface.specs.Bus.{IsSoundBus}
use Rattle.ug_iface.specs.declared.settle.Begun.{Begun}
use Rattle.ug_iface.specs.declared.settle.Begun.TheVariants.{Walks, Ends}
use Rattle.ug_iface.specs.declared.rules.IfaceRule.{IfaceRule}
use Rattle.ug_iface.specs.Calls.{IfaceCall}
use Rattle.ug_iface.specs.Order.{in_iface_order}
use Rattle.ug_iface.specs.Settle.{Aim, beginning, walking}
use Rattle.ug_iface.specs.Tree as iface
use Rattle.ug_script.specs.Play.{play}
use Rattle.ug_script.proofs.Plays.{told_unless}
use Rattle.ug_store.specs.Scripted.{DiskWorld}
use Rattle.ug_core.specs.Event.{DaemonState}
use Rattle.ug_script.specs.Passes.{aims_in, device_pass, pass_behind, pass_over, play_ifaces, walk_from}
use Rattle.ug_script.specs.Replay.{halted}
use Rattle.ug_script.proofs.PassBehind.{call_behind, device_behind, play_behind}

abbrev pub IsSoundWorld : World → Type 0
IsSoundWorld w = IsSoundBus (bus_in w)

told_bus : (w : World) → w.ran_out ≡ false → bus_told w ≡ Some (bus_in w)
told_bus w e = ap (λ (b : Bool). cond b None (Some (bus_in w))) e

-- ---- calls of devices' files

call_sound : (w : World) (call : Call) → w.ran_out ≡ false → IsSoundWorld w → IsSoundWorld (scripted_answer w call).1
call_sound w call e s =
    let t : World = (scripted_answer w call).1 in
    let k = keeps_ifaces w call (scripted_answer w call).0 t (bus_in t) (inl (refl, refl)) (told_bus t (told_unless w call e)) in
    let same : k.bus ≡ bus_in w = same_Some k.bus (bus_in w) (sym k.was ∙ told_bus w e) in
    k.sound (subst IsSoundBus (sym same) s)

pub play_sound : {R : Type 0} (p : Prog R) (w : World) → w.ran_out ≡ false → IsSoundWorld w → IsSoundWorld (play p w).1
play_sound (Return value) w e s = s
play_sound (Ask call next) w e s = play_sound (next (scripted_answer w call).0) (scripted_answer w call).1 (told_unless w call e) (call_sound w call e s)
play_sound (Room next) w e s = play_sound (next true) w e s

pub halted_sound : (o : DiskWorld) (w : World) → IsSoundWorld w → IsSoundWorld (halted o w)
halted_sound o w s = by o.stopped
  where
    by : (b : Bool) → IsSoundWorld (cond b (halting w) w)
    by true = s
    by false = s

pub over_sound : (w : World) → IsSoundWorld w → IsSoundWorld (over w)
over_sound w s = bus_over_sound w.moves (bus_in w) s

-- ---- calls of interfaces' files

iface_sound : (w : World) (call : IfaceCall) → w.ran_out ≡ false → IsSoundWorld w → IsSoundWorld (iface_answer_of w call).1
iface_sound w call e s =
    let t : World = (iface_answer_of w call).1 in
    let k = does_so w call (iface_answer_of w call).0 t (bus_in t) (inl (refl, refl)) (told_bus t ((call_behind w call).out ∙ e)) in
    let same : k.bus ≡ bus_in w = same_Some k.bus (bus_in w) (sym k.was ∙ told_bus w e) in
    (k.called (subst IsSoundBus (sym same) s)).sound

pub play_ifaces_sound : {R : Type 0} (p : iface.IfaceProg R) (w : World) → w.ran_out ≡ false → IsSoundWorld w → IsSoundWorld (play_ifaces p w).1
play_ifaces_sound (iface.Return value) w e s = s
play_ifaces_sound (iface.Make call next) w e s = play_ifaces_sound (next (iface_answer_of w call).0) (iface_answer_of w call).1 ((call_behind w call).out ∙ e) (iface_sound w call e s)
play_ifaces_sound (iface.Room next) w e s = play_ifaces_sound (next true) w e s

walk_sound : (aim : Aim) (p : Begun × World) → p.1.ran_out ≡ false → IsSoundWorld p.1 → IsSoundWorld (walk_from aim p).world
walk_sound aim (Ends end, u) e s = s
walk_sound aim (Walks names, u) e s = play_ifaces_sound (walking aim (in_iface_order names) []) u e s

pub device_sound : (aim : Aim) (w : World) → w.ran_out ≡ false → IsSoundWorld w → IsSoundWorld (device_pass aim w).world
device_sound aim w e s =
    let begun = play_ifaces (beginning aim.device.via_port) w in
    walk_sound aim begun ((play_behind (beginning aim.device.via_port) w).out ∙ e) (play_ifaces_sound (beginning aim.device.via_port) w e s)

pub pass_sound : (aims : List Aim) (w : World) → w.ran_out ≡ false → IsSoundWorld w → IsSoundWorld (pass_over aims w).world
pass_sound [] w e s = s
pass_sound (aim ∷ aims) w e s = pass_sound aims (device_pass aim w).world ((device_behind aim w).out ∙ e) (device_sound aim w e s)

pub behind_sound : (rules : List IfaceRule) (d : DaemonState) (w : World) → w.ran_out ≡ false → IsSoundWorld w → IsSoundWorld (pass_behind rules d w).world
behind_sound [] d w e s = s
behind_sound (rule ∷ rules) d w e s = pass_sound (aims_in (rule ∷ rules) d.sweep.standings) w e s
