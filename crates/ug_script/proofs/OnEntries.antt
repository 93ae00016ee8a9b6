-- A device that was born while its controller's default was off is on only after an On entry, whatever is asked of the kernel, and whatever it does by itself.
use Rattle.std.proofs.Common.{◌≡◌, true, false, inl, refl, sym, ◌∙◌, subst}
use Rattle.std.proofs.lemmas.Option.{same_Some}
use Rattle.ug_kernel.specs.Calls.{Call}
use Rattle.ug_kernel.specs.Called.{Called}
use Rattle.ug_kernel.specs.Defaults.{HasOnEntries}
use Rattle.ug_kernel.specs.Kernel.{Kernel, IsKernel}
use Rattle.ug_kernel.specs.Tree.{Prog, Return, Ask, Room}
use Rattle.ug_kernel.proofs.Defaults.{called_on_entries, moves_on_entries}
use Rattle.ug_sysfs.specs.World.{World, scripted_answer, event_begun, over}
use Rattle.ug_sysfs.specs.Law.{does_what_it_may}
use Rattle.ug_sysfs.specs.Begins.{happened_moves}
use Rattle.ug_script.specs.Play.{play}
use Rattle.ug_script.proofs.Plays.{told_unless}
use Rattle.ug_store.specs.PlayDisk.{play_disk}
use Rattle.ug_store.specs.Scripted.{DiskWorld}
use Rattle.ug_core.specs.Answering.{acting, asking, deed_after}
use Rattle.ug_core.specs.Event.{DaemonState, handling, ready}
use Rattle.ug_core.specs.Storing.{stored_with, storing}
use Rattle.ug_types.specs.declared.event.Event.{Event}
use Rattle.ug_types.specs.declared.event.Event.TheVariants.{Sweep, Order, Hint}
use Rattle.ug_script.specs.Laws.{AtEachCall, BehindEach, EachInOrder}
use Rattle.ug_script.specs.Replay.{order_played_by, answered_from, disk_of, event_from, halted, tried_by}
use Rattle.ug_script.specs.Script.{Script, daemon_in}
use Rattle.ug_script.proofs.Halts.{halted_kernel, halted_told}
use Rattle.ug_script.proofs.Lawful.{HoldsOf, start_of, told_at}

called_at : (w : World) (call : Call) → w.ran_out ≡ false → IsKernel w.kernel → Called call (scripted_answer w call).0 w.kernel (scripted_answer w call).1.kernel
called_at w call run sound =
    let t : World = (scripted_answer w call).1 in
    let x = does_what_it_may w call (scripted_answer w call).0 t t.kernel (inl (refl, refl)) (told_at t (told_unless w call run)) in
    let same : x.kernel ≡ w.kernel = same_Some x.kernel w.kernel (sym x.was ∙ told_at w run) in
    subst (λ (k : Kernel). Called call (scripted_answer w call).0 k t.kernel) same (x.called (subst (λ (k : Kernel). IsKernel k) (sym same) sound))

abbrev IsGood : World → Type 0
IsGood w = (w.ran_out ≡ false) × IsKernel w.kernel × HasOnEntries w.kernel

play_good : {R : Type 0} (p : Prog R) (w : World) → IsGood w → IsGood (play p w).1
play_good (Return value) w g = g
play_good (Ask call next) w g =
    let c = called_at w call g.0 g.1 in
    play_good (next (scripted_answer w call).0) (scripted_answer w call).1 (told_unless w call g.0, c.sound, called_on_entries call (scripted_answer w call).0 w.kernel (scripted_answer w call).1.kernel c g.2)
play_good (Room next) w g = play_good (next true) w g

answered_good : (event : Event) (d : DaemonState) (w : World) (o : DiskWorld) → IsGood w → IsGood (order_played_by event d w o).world
answered_good (Sweep moment) d w o g = g
answered_good (Hint moment piece) d w o g = g
answered_good (Order moment who line) d w o g =
    let c = play (asking d who line) w in
    let b = play_disk (storing d c.0.change) o in
    play_good (acting who (stored_with b.0 c.0.change d) (deed_after b.0 c.0.deed)) c.1 (play_good (asking d who line) w g)

halted_good : (o : DiskWorld) (w : World) → IsGood w → IsGood (halted o w)
halted_good o w g = (
  halted_told o w ∙ g.0,
  subst (λ (k : Kernel). IsKernel k) (sym (halted_kernel o w)) g.1,
  subst (λ (k : Kernel). HasOnEntries k) (sym (halted_kernel o w)) g.2,
)

-- an event
pub event_ends_on_entries : (event : Event) (d : DaemonState) (w : World) (o : DiskWorld) → HoldsOf d w → HasOnEntries w.kernel → HasOnEntries (event_from event d w o).world.kernel
event_ends_on_entries event d w o h g =
    let a = answered_from event d w o in
    let p = event_from event d w o in
    let start : IsGood (start_of d w o) = halted_good (tried_by d o).1 (event_begun w) (h.told, h.sound, g) in
    let good : IsGood p.world = play_good (handling a.daemon) (halted a.disk a.world) (halted_good a.disk a.world (answered_good event (ready event (tried_by d o).0 d) (start_of d w o) (tried_by d o).1 start)) in
    good.2

-- and what is still to come behind it
pub event_on_entries : (event : Event) (d : DaemonState) (w : World) (o : DiskWorld) → HoldsOf d w → HasOnEntries w.kernel → HasOnEntries (over (event_from event d w o).world).kernel
event_on_entries event d w o h g =
    let p = event_from event d w o in
    moves_on_entries p.world.kernel (over p.world).kernel (happened_moves p.world.moves p.world.kernel) (event_ends_on_entries event d w o h g)

-- ---- behind each call

each_good : {R : Type 0} (p : Prog R) (w : World) → IsGood w → BehindEach HasOnEntries p w
each_good (Return value) w g = g.2
each_good (Ask call next) w g =
    let c = called_at w call g.0 g.1 in
    (g.2, each_good (next (scripted_answer w call).0) (scripted_answer w call).1 (told_unless w call g.0, c.sound, called_on_entries call (scripted_answer w call).0 w.kernel (scripted_answer w call).1.kernel c g.2))
each_good (Room next) w g = each_good (next true) w g

order_good : (event : Event) (d : DaemonState) (w : World) (o : DiskWorld) → IsGood w → EachInOrder HasOnEntries event d w o
order_good (Sweep moment) d w o g = g.2
order_good (Hint moment piece) d w o g = g.2
order_good (Order moment who line) d w o g =
    let c = play (asking d who line) w in
    let b = play_disk (storing d c.0.change) o in
    (each_good (asking d who line) w g, each_good (acting who (stored_with b.0 c.0.change d) (deed_after b.0 c.0.deed)) c.1 (play_good (asking d who line) w g))

pub each_on_entries : (event : Event) (s : Script) (w : World) → HoldsOf (daemon_in s) w → HasOnEntries w.kernel → AtEachCall HasOnEntries event s w
each_on_entries event s w h g =
    let d : DaemonState = daemon_in s in
    let o : DiskWorld = disk_of s in
    let a = answered_from event d w o in
    let start : IsGood (start_of d w o) = halted_good (tried_by d o).1 (event_begun w) (h.told, h.sound, g) in (
      order_good event (ready event (tried_by d o).0 d) (start_of d w o) (tried_by d o).1 start,
      each_good (handling a.daemon) (halted a.disk a.world) (halted_good a.disk a.world (answered_good event (ready event (tried_by d o).0 d) (start_of d w o) (tried_by d o).1 start)),
      event_on_entries event d w o h g,
    )
