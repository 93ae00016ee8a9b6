-- A line of a move does it at once.
use Rattle.std.proofs.Common.{ℕ, List, Option, ap, refl}
use Rattle.ug_kernel.specs.Kernel.{IsSound}
use Rattle.ug_iface.specs.Bus.{IsSoundBus}
use Rattle.ug_sysfs.specs.declared.script.Move.{Move}
use Rattle.ug_sysfs.specs.declared.script.Move.TheVariants as move
use Rattle.ug_sysfs.specs.Doing.{DoesIfaces}
use Rattle.ug_sysfs.specs.Serving.{bus_in}
use Rattle.ug_sysfs.specs.World.{World, carried}
use Rattle.ug_sysfs.proofs.AtCalls.{does, does_ifaces}
use Rattle.ug_steps.specs.declared.step.Step.{Step}
use Rattle.ug_steps.specs.declared.step.Step.TheVariants as step
use Rattle.ug_steps.specs.LineGrammar.{AsksFor}
use Rattle.ug_script.specs.Replay.{taken_if}
use Rattle.ug_script.specs.Schedules.{DoesAtOnce, LeavesElse}
use Rattle.ug_script.specs.Script.{Script}
use Rattle.ug_steps.proofs.LineReads.{so_line}

leaves : (action : Move) (w : World) → LeavesElse action w (carried action w)
leaves (move.Plug device) w = refl
leaves (move.Unplug name) w = refl
leaves (move.Iface change) w = refl

pub at_once : (line : List ℕ) (action : Move) (s : Script) (w : World) → AsksFor line (step.Move action) → IsSound w.kernel.devices → DoesAtOnce line action s w
at_once line action s w asks sound = record {
  does = does action w.kernel.devices sound;
  leaves = leaves action w;
  leads = ap (λ (o : Option Step). taken_if o s w) (so_line line (step.Move action) asks);
}

pub ifaces : (action : Move) (w : World) → IsSoundBus (bus_in w) → DoesIfaces action (bus_in w) (carried action w).interfaces
ifaces action w s = does_ifaces action (bus_in w) s
