-- A kernel that is halted is as it was but for its next calls, and behind a call of the disk it is halted only where the machine stopped.
use Rattle.std.proofs.Common.{◌≡◌, Bool, true, false, cond, refl, ap}
use Rattle.ug_sysfs.specs.World.{World, halting}
use Rattle.ug_store.specs.Scripted.{DiskWorld, IsUnplanned}
use Rattle.ug_store.proofs.PlayedDisk.{play_keeps_unplanned, play_unstopped}
use Rattle.ug_core.specs.Answering.{asking}
use Rattle.ug_core.specs.Event.{DaemonState}
use Rattle.ug_core.specs.Storing.{storing}
use Rattle.ug_types.specs.declared.event.Event.{Event}
use Rattle.ug_types.specs.declared.event.Event.TheVariants.{Sweep, Order, Hint}
use Rattle.ug_script.specs.Play.{play}
use Rattle.ug_script.specs.Replay.{order_played_by, halted}

-- what halting leaves as it was
halted_same : {X : Type 0} (f : World → X) → ((w : World) → f (halting w) ≡ f w) → (o : DiskWorld) (w : World) → f (halted o w) ≡ f w
halted_same f same o w = by_stopped o.stopped
  where
    by_stopped : (b : Bool) → f (cond b (halting w) w) ≡ f w
    by_stopped true = same w
    by_stopped false = refl

pub halted_told : (o : DiskWorld) (w : World) → (halted o w).ran_out ≡ w.ran_out
halted_told o w = halted_same (λ (v : World). v.ran_out) (λ v. refl) o w

pub halted_kernel : (o : DiskWorld) (w : World) → (halted o w).kernel ≡ w.kernel
halted_kernel o w = halted_same (λ (v : World). v.kernel) (λ v. refl) o w

pub halted_calls : (o : DiskWorld) (w : World) → (halted o w).calls ≡ w.calls
halted_calls o w = halted_same (λ (v : World). v.calls) (λ v. refl) o w

pub halted_faults : (o : DiskWorld) (w : World) → (halted o w).faults ≡ w.faults
halted_faults o w = halted_same (λ (v : World). v.faults) (λ v. refl) o w

pub halted_moves : (o : DiskWorld) (w : World) → (halted o w).moves ≡ w.moves
halted_moves o w = halted_same (λ (v : World). v.moves) (λ v. refl) o w

-- where the machine hasn't stopped
pub halted_not : (o : DiskWorld) (w : World) → o.stopped ≡ false → halted o w ≡ w
halted_not o w e = ap (λ (b : Bool). cond b (halting w) w) e

-- where it hasn't behind an order, it hadn't before it
pub answered_unstopped : (event : Event) (d : DaemonState) (w : World) (o : DiskWorld) → (order_played_by event d w o).disk.stopped ≡ false → o.stopped ≡ false
answered_unstopped (Sweep moment) d w o e = e
answered_unstopped (Hint moment piece) d w o e = e
answered_unstopped (Order moment who line) d w o e = play_unstopped (storing d (play (asking d who line) w).0.change) o e

pub answered_unplanned : (event : Event) (d : DaemonState) (w : World) (o : DiskWorld) → IsUnplanned o → IsUnplanned (order_played_by event d w o).disk
answered_unplanned (Sweep moment) d w o none = none
answered_unplanned (Hint moment piece) d w o none = none
answered_unplanned (Order moment who line) d w o none = play_keeps_unplanned (storing d (play (asking d who line) w).0.change) o none
