-- The pass behind an event of a script: of each allowed device, the interfaces that rules name are
-- switched off.
use Rattle.std.specs.Prelude.{◌≡◌, ◌⊎◌, ℕ, ◌-◌, nat_lt, Bool, true, false, ◌||◌, List, [], ◌∷◌, ◌++◌, map, flat_map}
use Rattle.std.specs.List.{filter, list_any}
use Rattle.ug_sysfs.specs.World.{World}
use Rattle.ug_sysfs.specs.Serving.{ServesIfaces, bus_told, iface_answer_of}
use Rattle.ug_iface.specs.declared.rules.IfaceRule.{IfaceRule}
use Rattle.ug_iface.specs.declared.settle.Begun.{Begun}
use Rattle.ug_iface.specs.declared.settle.Begun.TheVariants.{Walks, Ends}
use Rattle.ug_iface.specs.declared.settle.IfaceEntry.{IfaceEntry}
use Rattle.ug_iface.specs.declared.settle.IfaceEntry.TheVariants as entry
use Rattle.ug_iface.specs.declared.settle.Passed.{Passed}
use Rattle.ug_iface.specs.declared.settle.Passed.TheVariants as passed
use Rattle.ug_iface.specs.Counting.{CountsFaults}
use Rattle.ug_iface.specs.Laws.{IsComplete, IsHeldOf, IsPass}
use Rattle.ug_iface.specs.Order.{iface_cmp, in_iface_order}
use Rattle.ug_iface.specs.Settle.{Aim, RunsPass, aim_of, beginning, walking}
use Rattle.ug_iface.specs.Tree.{IfaceProg, Return, Make, Room}
use Rattle.ug_table.specs.Allowed.{allowed_of}
use Rattle.ug_table.specs.declared.standing.Standing.{Standing}
use Rattle.ug_core.specs.DeviceRows.{by_number}
use Rattle.ug_core.specs.Event.{DaemonState}
use Rattle.ug_script.specs.PassLines.{told_text, pass_begins, pass_ends}

-- ---- which standings

-- those whose numbers are above that one
abbrev pub later_than : ℕ → List Standing → List Standing
later_than number standings = filter (λ s. nat_lt number s.number) standings

-- a standing that is settled, has the verdict Allow and has a record
abbrev pub aims_at : List IfaceRule → Standing → List Aim
aims_at rules s =
    map (λ device. aim_of rules device s.number s.held.0) (allowed_of s.settled s.verdict s.judged)

-- each such standing, by number; numbers begin with 1
abbrev pub aims_in : List IfaceRule → List Standing → List Aim
aims_in rules standings = flat_map (aims_at rules) (later_than 0 (by_number standings))

-- ---- one of them, as the script fixes it

-- the run of a program whose calls are answered by the script alone, and that finds room wherever
-- it asks for some
abbrev pub play_ifaces : {R : Type 0} → IfaceProg R → World → R × World
play_ifaces (Return value) w = (value, w)
play_ifaces (Make call next) w =
    play_ifaces (next (iface_answer_of w call).0) (iface_answer_of w call).1
play_ifaces (Room next) w = play_ifaces (next true) w

-- what the pass over one device came to
pub record DevicePass : Type 0 where
  pub end : Passed
  pub entries : List IfaceEntry
  pub world : World

abbrev pub of_walk : (Passed × List IfaceEntry) × World → DevicePass
of_walk p = record { end = p.0.0; entries = p.0.1; world = p.1 }

abbrev pub walk_from : Aim → Begun × World → DevicePass
walk_from aim (Ends end, w) = record { end = end; entries = []; world = w }
walk_from aim (Walks names, w) = of_walk (play_ifaces (walking aim (in_iface_order names) []) w)

-- the listing, and then the walk over what it named
abbrev pub device_pass : Aim → World → DevicePass
device_pass aim w = walk_from aim (play_ifaces (beginning aim.device.via_port) w)

-- ---- all of them

-- what a pass writes, and what it leaves
pub record Pass : Type 0 where
  pub text : List ℕ
  pub world : World

abbrev pub behind_text : List ℕ → Pass → Pass
behind_text text p = record p { text = text ++ p.text }

-- one after the other
abbrev pub pass_over : List Aim → World → Pass
pass_over [] w = record { text = []; world = w }
pass_over (aim ∷ aims) w =
    behind_text
    (told_text aim.device.via_port (device_pass aim w).entries (device_pass aim w).end)
    (pass_over aims (device_pass aim w).world)

-- between its first line and its last
abbrev pub whole_pass : ℕ → Pass → Pass
whole_pass event p = record p { text = pass_begins event ++ (p.text ++ pass_ends event) }

-- behind the last event of that daemon. A script without rules of interfaces has no passes
abbrev pub pass_behind : List IfaceRule → DaemonState → World → Pass
pass_behind [] d w = record { text = []; world = w }
pass_behind (rule ∷ rules) d w =
    whole_pass (d.event - 1) (pass_over (aims_in (rule ∷ rules) d.sweep.standings) w)

-- ---- want of memory

abbrev pub iface_tells_memory : IfaceEntry → Bool
iface_tells_memory (entry.Intent number name) = false
iface_tells_memory (entry.Wrote number name out) = false
iface_tells_memory (entry.Fault number name count) = false
iface_tells_memory (entry.Memory number name) = true

abbrev pub ends_by_memory : Passed → Bool
ends_by_memory passed.Done = false
ends_by_memory passed.Gone = false
ends_by_memory (passed.Fault count) = false
ends_by_memory passed.Memory = true

-- the pass over a device tells want of memory
abbrev pub pass_tells_memory : Passed → List IfaceEntry → Bool
pass_tells_memory end entries = ends_by_memory end || list_any iface_tells_memory entries

-- ---- what that is

-- A call of `settle_ifaces` for that standing over the kernel in memory, with all that it promises:
-- the calls that it makes, what it says of devices and interfaces, the failures that it counts, and
-- that without one it leaves no named interface on. No want of memory is told, as a script refuses
-- none, and its held file is the `authorized` of a device of that name.
pub record SettlesIfaces (aim : Aim) (w : World) (end : Passed) (entries : List IfaceEntry)
    (v : World) : Type 0 where
  pub runs : RunsPass ServesIfaces iface_cmp aim w [] end entries v
  pub law : IsPass bus_told w aim [] end entries v
  pub counts : CountsFaults w.faults v.faults [] end entries
  pub complete : IsComplete bus_told (λ u. u.faults) w aim [] end entries v
  pub room : pass_tells_memory end entries ≡ false
  pub device : ℕ
  pub held : IsHeldOf w.kernel aim.device.via_port aim.held device

-- one call for each, one after the other, with the text of what it told
pub data SettleAll : World → List Aim → List ℕ → World → Type 0 where
  Over : (w : World) → SettleAll w [] [] w
  First : (aim : Aim) (aims : List Aim) (end : Passed) (entries : List IfaceEntry) (text : List ℕ)
      (w u v : World) → SettlesIfaces aim w end entries u → SettleAll u aims text v
      → SettleAll w (aim ∷ aims) (told_text aim.device.via_port entries end ++ text) v

-- the pass behind the last event of that daemon, with its text. Without rules there is none
pub data IsPassBehind : List IfaceRule → DaemonState → World → List ℕ → World → Type 0 where
  NoPass : (d : DaemonState) (w : World) → IsPassBehind [] d w [] w
  Whole : (rule : IfaceRule) (rules : List IfaceRule) (d : DaemonState) (w : World) (text : List ℕ)
      (v : World) → SettleAll w (aims_in (rule ∷ rules) d.sweep.standings) text v
      → IsPassBehind (rule ∷ rules) d w
      (pass_begins (d.event - 1) ++ (text ++ pass_ends (d.event - 1))) v

-- ---- what the code does

-- the kernel has run out, or what is fixed was done, and its text stands behind what was there
abbrev pub IsPassedOver : List Aim → World → List ℕ → World → List ℕ → Type 0
IsPassedOver aims w text v longer =
    (v.ran_out ≡ true)
    ⊎ ((longer ≡ text ++ (pass_over aims w).text) × (v ≡ (pass_over aims w).world))
