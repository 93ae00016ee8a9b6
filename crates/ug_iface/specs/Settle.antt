-- The pass over a device's interfaces, as calls and entries.
use Rattle.std.specs.Prelude.{ℕ, ◌+◌, ◌*◌, ◌≤◌, Bool, true, false, if◌then◌else◌, ◌&&◌, List, [], ◌∷◌, ◌++◌, length}
use Rattle.std.specs.declared.cmp.Ordering.{Ordering}
use Rattle.std.specs.List.Sorted.{IsPermutation, IsSorted}
use Rattle.ug_types.specs.declared.record.DeviceRecord.{DeviceRecord}
use Rattle.ug_kernel.specs.declared.calls.Wrote.{Wrote}
use Rattle.ug_kernel.specs.declared.calls.Wrote.TheVariants as wrote
use Rattle.ug_iface.specs.declared.name.IfaceName.{IfaceName}
use Rattle.ug_iface.specs.declared.calls.IfaceHeld.{IfaceHeld}
use Rattle.ug_iface.specs.declared.calls.IfaceListing.{IfaceListing}
use Rattle.ug_iface.specs.declared.calls.IfaceListing.TheVariants as listing
use Rattle.ug_iface.specs.declared.look.Look.{Look}
use Rattle.ug_iface.specs.declared.look.Look.TheVariants as look
use Rattle.ug_iface.specs.declared.rules.IfaceRule.{IfaceRule}
use Rattle.ug_iface.specs.declared.settle.Begun.{Begun}
use Rattle.ug_iface.specs.declared.settle.Begun.TheVariants.{Walks, Ends}
use Rattle.ug_iface.specs.declared.settle.IfaceEntry.{IfaceEntry}
use Rattle.ug_iface.specs.declared.settle.IfaceEntry.TheVariants as entry
use Rattle.ug_iface.specs.declared.settle.Passed.{Passed}
use Rattle.ug_iface.specs.declared.settle.Task.{Task}
use Rattle.ug_iface.specs.declared.settle.Passed.TheVariants as passed
use Rattle.ug_iface.specs.Calls.{IfaceCall, IfaceAnswer, Names_of, Put_off, Close}
use Rattle.ug_iface.specs.Look.{looking}
use Rattle.ug_iface.specs.Named.{is_named_off}
use Rattle.ug_iface.specs.Tree.{IfaceProg, Return, Make, Room, RunsIfaces, then_iface}

-- whose interfaces are switched off, and which of them
pub record Aim : Type 0 where
  pub rules : List IfaceRule
  pub device : DeviceRecord
  pub number : ℕ
  pub held : ℕ

abbrev pub aim_of : List IfaceRule → DeviceRecord → ℕ → ℕ → Aim
aim_of rules device number held =
    record { rules = rules; device = device; number = number; held = held }

abbrev pub aim_in : Task → Aim
aim_in task = aim_of task.rules.now task.device.now task.number task.held.0

-- ---- one interface

-- what a write was answered, and its failure
abbrev pub noted_off : ℕ → IfaceName → Wrote → ℕ → List IfaceEntry → List IfaceEntry
noted_off number name wrote.Done count es = es ++ entry.Wrote number name wrote.Done ∷ []
noted_off number name wrote.Gone count es = es ++ entry.Wrote number name wrote.Gone ∷ []
noted_off number name wrote.Failed count es =
    (es ++ entry.Wrote number name wrote.Failed ∷ []) ++ entry.Fault number name count ∷ []

-- an intent, the write, what it was answered
abbrev pub switching : ℕ → IfaceName → IfaceHeld → List IfaceEntry → IfaceProg (List IfaceEntry)
switching number name file es =
    Make (Put_off file.0) (λ t.
    Make (Close file.0) (λ closed.
    Return (noted_off number name t.answer t.count (es ++ entry.Intent number name ∷ []))))

abbrev pub leaving : IfaceHeld → List IfaceEntry → IfaceProg (Bool × List IfaceEntry)
leaving file es = Make (Close file.0) (λ closed. Return (true, es))

abbrev pub after_look : Aim → IfaceName → List IfaceEntry → Look
    → IfaceProg (Bool × List IfaceEntry)
after_look aim name es (look.Here file triple on) =
    if on && is_named_off aim.rules aim.device triple
    then then_iface (switching aim.number name file es) (λ more. Return (true, more))
    else leaving file es
after_look aim name es look.Absent = Return (true, es)
after_look aim name es look.Gone = Return (false, es)
after_look aim name es (look.Failed count) =
    Return (true, es ++ entry.Fault aim.number name count ∷ [])
after_look aim name es look.Memory = Return (true, es ++ entry.Memory aim.number name ∷ [])

-- it is looked at, and switched off where it is on and named; and whether the device is still there
abbrev pub settling_iface : Aim → IfaceName → List IfaceEntry → IfaceProg (Bool × List IfaceEntry)
settling_iface aim name es = then_iface (looking name aim.held) (after_look aim name es)

-- ---- all of them

-- one after the other, as long as the device is there
abbrev pub walking : Aim → List IfaceName → List IfaceEntry → IfaceProg (Passed × List IfaceEntry)
walking aim [] es = Return (passed.Done, es)
walking aim (name ∷ names) es =
    then_iface (settling_iface aim name es)
    (λ p. if p.0 then walking aim names p.1 else Return (passed.Gone, p.1))

-- ---- the listing

abbrev pub if_entry_room : IfaceListing → List IfaceName → Bool → IfaceProg Begun
if_entry_room answer names true = Return (Walks names)
if_entry_room answer names false = Return (Ends passed.Memory)

abbrev pub after_listing : IfaceListing → ℕ → IfaceProg Begun
after_listing (listing.Names names) count = Room (if_entry_room (listing.Names names) names)
after_listing listing.Absent count = Return (Ends passed.Gone)
after_listing listing.Failed count = Return (Ends (passed.Fault count))
after_listing listing.Memory count = Return (Ends passed.Memory)

-- the interfaces are listed, and room is made for their entries
abbrev pub beginning : List ℕ → IfaceProg Begun
beginning name = Make (Names_of name) (λ t. after_listing t.answer t.count)

-- ---- room

-- there is room for so many entries more
abbrev pub HasEntryRoom : ℕ → ℕ → ℕ → Type 0
HasEntryRoom n len capacity = len + n ≤ capacity

abbrev pub HasRoomForNames : Begun → ℕ → ℕ → Type 0
HasRoomForNames (Walks names) len capacity = HasEntryRoom (3 * length names) len capacity
HasRoomForNames (Ends end) len capacity = Unit {0}

-- ---- the whole pass

module _ {S : Type 0} (serves : S → (call : IfaceCall) → IfaceAnswer call → S → Type 0)
    (cmp : IfaceName → IfaceName → Ordering) where
  -- the listing, and then the walk over what it named, in order
  pub data RunsPass (aim : Aim) (s : S) (es : List IfaceEntry) : Passed → List IfaceEntry → S
      → Type 0 where
    Ended : (end : Passed) (t : S)
        → RunsIfaces serves s (beginning aim.device.via_port) (Ends end) t
        → RunsPass aim s es end es t
    Walked : (names order : List IfaceName) (u : S) (end : Passed) (more : List IfaceEntry) (t : S)
        → RunsIfaces serves s (beginning aim.device.via_port) (Walks names) u
        → IsPermutation names order → IsSorted cmp order
        → RunsIfaces serves u (walking aim order es) (end, more) t
        → RunsPass aim s es end more t
