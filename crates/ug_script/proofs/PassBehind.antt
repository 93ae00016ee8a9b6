-- What a pass leaves of the kernel and of the daemon's standings: devices only come and go.
use Rattle.std.proofs.Common.{◌≡◌, ℕ, ◌≤◌, Bool, true, false, List, [], ◌∷◌, length, Option, Some, None, refl, sym, ap, subst, ◌∙◌, arith}
use Rattle.ug_kernel.specs.Kernel.{Kernel, IsKernel, Moves}
use Rattle.ug_kernel.proofs.Births.{moves_then}
use Rattle.ug_kernel.proofs.Sounds.{kernel_moves}
use Rattle.ug_kernel.proofs.Stayed.{unmoving}
use Rattle.ug_sysfs.specs.Begins.{happen_moves, happened_moves}
use Rattle.ug_sysfs.specs.Sound.{happened_sound, sound_happen}
use Rattle.ug_sysfs.specs.Serving.{bus_in, iface_act, iface_answer_from, iface_answer_of, iface_answer_unless, iface_effect, iface_hidden, iface_opened, live_file, put_off}
use Rattle.ug_sysfs.specs.Interfaces.{place_named}
use Rattle.ug_sysfs.specs.declared.script.Scheduled.{Scheduled}
use Rattle.ug_sysfs.specs.World.{World, entered, fate_of, over, shift}
use Rattle.ug_table.specs.Laws.{Stand}
use Rattle.ug_table.specs.State.{State}
use Rattle.ug_iface.specs.Bus.{Bus}
use Rattle.ug_iface.specs.declared.rules.IfaceRule.{IfaceRule}
use Rattle.ug_iface.specs.declared.settle.Begun.{Begun}
use Rattle.ug_iface.specs.declared.settle.Begun.TheVariants.{Walks, Ends}
use Rattle.ug_iface.specs.Calls.{IfaceCall, Names_of, Open, Read, Ask_device, Ask, Put_off, Close}
use Rattle.ug_iface.specs.Order.{in_iface_order}
use Rattle.ug_iface.specs.Settle.{Aim, beginning, walking}
use Rattle.ug_iface.specs.Tree.{IfaceProg, Return, Make, Room}
use Rattle.ug_script.proofs.Plays.{play_told}
use Rattle.ug_types.specs.declared.event.Event.{Event}
use Rattle.ug_core.specs.Event.{DaemonState, handling}
use Rattle.ug_store.specs.Scripted.{DiskWorld}
use Rattle.ug_script.specs.Passes.{aims_in, device_pass, pass_behind, pass_over, play_ifaces, walk_from}
use Rattle.ug_script.specs.Replay.{answered_from, event_from, halted}
use Rattle.ug_script.specs.Laws.{coming_in}
use Rattle.ug_script.proofs.FewDevices.{over_few, shift_few}
use Rattle.ug_script.proofs.LastStages.{last_stage}
use Rattle.ug_script.proofs.Lawful.{HoldsOf, answered_holds, halted_holds, handled, moves_on}

-- ---- devices only come and go

pub record IsBehind (w v : World) : Type 0 where
  pub moves : Moves w.kernel v.kernel
  pub sound : IsKernel w.kernel → IsKernel v.kernel
  pub out : v.ran_out ≡ w.ran_out
  pub few : coming_in v ≤ coming_in w

still : (w v : World) → v.kernel ≡ w.kernel → v.ran_out ≡ w.ran_out → v.moves ≡ w.moves → IsBehind w v
still w v same out moves = record {
  moves = subst (λ (k : Kernel). Moves w.kernel k) (sym same) (unmoving w.kernel);
  sound = λ s. subst IsKernel (sym same) s;
  out = out;
  few = let one = ap (λ (k : Kernel). length k.devices) same in let rest = ap (λ (ms : List Scheduled). length ms) moves in omega (arith, one, rest);
}

behind_then : (w v u : World) → IsBehind w v → IsBehind v u → IsBehind w u
behind_then w v u g h = record {
  moves = moves_then w.kernel v.kernel u.kernel g.moves h.moves;
  sound = λ s. h.sound (g.sound s);
  out = h.out ∙ g.out;
  few = let one = g.few in let rest = h.few in omega (arith, one, rest);
}

shifted : (n : ℕ) (after : Bool) (w : World) → IsBehind w (shift n after w)
shifted n after w = record {
  moves = happen_moves n after w.moves w.kernel;
  sound = λ s. kernel_moves w.kernel (shift n after w).kernel s (happen_moves n after w.moves w.kernel) (sound_happen n after w.moves w.kernel.devices s.devices);
  out = refl;
  few = shift_few n after w;
}

pub over_behind : (w : World) → IsBehind w (over w)
over_behind w = record {
  moves = happened_moves w.moves w.kernel;
  sound = λ s. happened_sound w.moves w.kernel s;
  out = refl;
  few = over_few w;
}

-- ---- a call of interfaces' files does nothing to a device

opened_kernel : (o : Option ℕ) (b : Bus) → (iface_opened o b).1.kernel ≡ b.kernel
opened_kernel None b = refl
opened_kernel (Some i) b = refl

off_kernel : (o : Option ℕ) (b : Bus) → (put_off o b).1.kernel ≡ b.kernel
off_kernel None b = refl
off_kernel (Some i) b = refl

act_kernel : (call : IfaceCall) (b : Bus) → (iface_act call b).1.kernel ≡ b.kernel
act_kernel (Names_of name) b = refl
act_kernel (Open name) b = opened_kernel (place_named name b.kernel.devices b.interfaces) b
act_kernel (Read name) b = refl
act_kernel (Ask_device held) b = refl
act_kernel (Ask held) b = refl
act_kernel (Put_off held) b = off_kernel (live_file held b) b
act_kernel (Close held) b = refl

hidden_kernel : (call : IfaceCall) (b : Bus) → (iface_hidden call b).kernel ≡ b.kernel
hidden_kernel (Names_of name) b = refl
hidden_kernel (Open name) b = refl
hidden_kernel (Read name) b = refl
hidden_kernel (Ask_device held) b = refl
hidden_kernel (Ask held) b = refl
hidden_kernel (Put_off held) b = off_kernel (live_file held b) b
hidden_kernel (Close held) b = refl

pub effect_kernel : (fate : Option Bool) (call : IfaceCall) (b : Bus) → (iface_effect fate call b).1.kernel ≡ b.kernel
effect_kernel None call b = act_kernel call b
effect_kernel (Some true) call b = hidden_kernel call b
effect_kernel (Some false) call b = refl

from_behind : (w : World) (call : IfaceCall) → IsBehind w (iface_answer_from (entered w) call).1
from_behind w call =
    let u : World = entered w in
    let v : World = Rattle.ug_sysfs.specs.Serving.with_bus (Rattle.ug_sysfs.specs.World.failure_counted u) (iface_effect (fate_of u) call (bus_in u)).1 in
    behind_then w v (iface_answer_from u call).1
    (behind_then w u v (shifted (Rattle.ug_kernel.specs.Calls.raised w.calls) false w) (still u v (effect_kernel (fate_of u) call (bus_in u)) refl refl))
    (shifted v.calls true v)

unless_behind : (out : Bool) (w : World) (call : IfaceCall) → IsBehind w (iface_answer_unless out w call).1
unless_behind out w (Close held) = still w w refl refl refl
unless_behind true w (Names_of name) = still w _ refl refl refl
unless_behind false w (Names_of name) = from_behind w (Names_of name)
unless_behind true w (Open name) = still w _ refl refl refl
unless_behind false w (Open name) = from_behind w (Open name)
unless_behind true w (Read name) = still w _ refl refl refl
unless_behind false w (Read name) = from_behind w (Read name)
unless_behind true w (Ask_device held) = still w _ refl refl refl
unless_behind false w (Ask_device held) = from_behind w (Ask_device held)
unless_behind true w (Ask held) = still w _ refl refl refl
unless_behind false w (Ask held) = from_behind w (Ask held)
unless_behind true w (Put_off held) = still w _ refl refl refl
unless_behind false w (Put_off held) = from_behind w (Put_off held)

pub call_behind : (w : World) (call : IfaceCall) → IsBehind w (iface_answer_of w call).1
call_behind w call = unless_behind w.ran_out w call

-- ---- a pass

pub play_behind : {R : Type 0} (p : IfaceProg R) (w : World) → IsBehind w (play_ifaces p w).1
play_behind (Return value) w = still w w refl refl refl
play_behind (Make call next) w =
    let u : World = (iface_answer_of w call).1 in
    behind_then w u _ (call_behind w call) (play_behind (next (iface_answer_of w call).0) u)
play_behind (Room next) w = play_behind (next true) w

walked_behind : (aim : Aim) (w : World) (p : Begun × World) → IsBehind w p.1 → IsBehind w (walk_from aim p).world
walked_behind aim w (Ends end, u) h = h
walked_behind aim w (Walks names, u) h = behind_then w u _ h (play_behind (walking aim (in_iface_order names) []) u)

pub device_behind : (aim : Aim) (w : World) → IsBehind w (device_pass aim w).world
device_behind aim w = walked_behind aim w (play_ifaces (beginning aim.device.via_port) w) (play_behind (beginning aim.device.via_port) w)

aims_behind : (aims : List Aim) (w : World) → IsBehind w (pass_over aims w).world
aims_behind [] w = still w w refl refl refl
aims_behind (aim ∷ aims) w = behind_then w (device_pass aim w).world _ (device_behind aim w) (aims_behind aims (device_pass aim w).world)

pub rules_behind : (rules : List IfaceRule) (d : DaemonState) (w : World) → IsBehind w (pass_behind rules d w).world
rules_behind [] d w = still w w refl refl refl
rules_behind (rule ∷ rules) d w = aims_behind (aims_in (rule ∷ rules) d.sweep.standings) w

-- and what is still to come
pub pass_is_behind : (rules : List IfaceRule) (d : DaemonState) (w : World) → IsBehind w (over (pass_behind rules d w).world)
pass_is_behind rules d w = behind_then w (pass_behind rules d w).world (over (pass_behind rules d w).world) (rules_behind rules d w) (over_behind (pass_behind rules d w).world)

-- ---- what holds at an event's end holds behind its pass

pub event_ends : (event : Event) (d : DaemonState) (w : World) (o : DiskWorld) → HoldsOf d w → HoldsOf (event_from event d w o).daemon (event_from event d w o).world
event_ends event d w o h =
    let a = answered_from event d w o in
    let p = event_from event d w o in
    let law = handled event d w o h in
    let last = last_stage a.daemon.due a.world.kernel a.daemon.sweep p.world.kernel law.swept law.law in
    record {
      told = play_told (handling a.daemon) (halted a.disk a.world) (halted_holds a.daemon a.disk a.world (answered_holds event d w o h)).told;
      sound = last.sound;
      stand = subst (λ (v : State Rattle.ug_core.specs.Policy.Judging). Stand p.world.kernel v.standings v.next) (sym law.entries) last.stand;
    }

pub behind_holds : (d : DaemonState) (w v : World) → IsBehind w v → HoldsOf d w → HoldsOf d v
behind_holds d w v b h = record {
  told = b.out ∙ h.told;
  sound = b.sound h.sound;
  stand = moves_on d.sweep.standings d.sweep.next w.kernel v.kernel b.moves h.stand;
}
