-- The writes that bring a device to its verdict: of its value, and then, for one that is rejected,
-- of its removal.
use Rattle.std.specs.Prelude.{◌≡◌, ℕ, Bool, true, false, not, is_none, ◌&&◌, cond, List, [], ◌∷◌, ◌++◌, Option, Some, None, ◌⊎◌}
use Rattle.ug_types.specs.Names.{parent_of}
use Rattle.ug_types.specs.declared.verdict.Target.{Target}
use Rattle.ug_types.specs.declared.verdict.Target.TheVariants as target
use Rattle.ug_kernel.specs.declared.control.Write.{Write}
use Rattle.ug_kernel.specs.declared.control.Write.TheVariants as write
use Rattle.ug_kernel.specs.declared.calls.FailedCall.{FailedCall}
use Rattle.ug_kernel.specs.declared.calls.Wrote.{Wrote}
use Rattle.ug_kernel.specs.declared.calls.Wrote.TheVariants as wrote
use Rattle.ug_kernel.specs.Calls.{Put, Close}
use Rattle.ug_kernel.specs.Tree.{Prog, Return, Ask, then}
use Rattle.ug_kernel.specs.Along.{failure_of}
use Rattle.ug_kernel.specs.Removal.{holding}
use Rattle.ug_kernel.specs.declared.removal.RemoveHold.{RemoveHold}
use Rattle.ug_kernel.specs.declared.removal.RemoveHold.TheVariants as hold
use Rattle.ug_audit.specs.declared.entry.Entry.{Entry}
use Rattle.ug_audit.specs.declared.entry.Entry.TheVariants as entry
use Rattle.ug_table.specs.Done.{control_of}
use Rattle.ug_table.specs.declared.standing.Known.{Known}
use Rattle.ug_table.specs.declared.standing.Settled.{Settled}
use Rattle.ug_table.specs.declared.standing.Settled.TheVariants as settled

-- whether a verdict wants the device to be authorised
abbrev pub wants : Target → Bool
wants target.Allow = true
wants target.Block = false
wants target.Reject = false

abbrev pub write_of : Target → Write
write_of target.Allow = write.On
write_of target.Block = write.Off
write_of target.Reject = write.Off

abbrev pub is_reject : Target → Bool
is_reject target.Allow = false
is_reject target.Block = false
is_reject target.Reject = true

-- what is written to the default of each root hub
abbrev pub default_write : Option Write → Option Write
default_write (Some write.DefaultOff) = Some write.DefaultOff
default_write (Some write.DefaultOn) = Some write.DefaultOn
default_write other = None

-- The writes that are called for: by the verdict, and to the default of a root hub.
abbrev pub CallsFor : Option Write → List ℕ → Target → Write → Type 0
CallsFor hub name verdict write.On = wants verdict ≡ true
CallsFor hub name verdict write.Off = wants verdict ≡ false
CallsFor hub name verdict write.Remove = is_reject verdict ≡ true
CallsFor hub name verdict write.DefaultOff =
    (parent_of name ≡ None) × (default_write hub ≡ Some write.DefaultOff)
CallsFor hub name verdict write.DefaultOn =
    (parent_of name ≡ None) × (default_write hub ≡ Some write.DefaultOn)

-- the outcome of a write is journalled
abbrev pub after_write : List ℕ → ℕ → Write → List Entry → Wrote → FailedCall
    → Prog (Settled × List Entry)
after_write name number what entries wrote.Done failed =
    Return (settled.Stands, entries ++ entry.Wrote number name what wrote.Done ∷ [])
after_write name number what entries wrote.Gone failed =
    Return (
      settled.Nobody,
      (entries ++ entry.Wrote number name what wrote.Gone ∷ [])
          ++ entry.Gone number name ∷ [],
    )
after_write name number what entries wrote.Failed failed =
    Return (settled.Fault failed, entries ++ entry.Wrote number name what wrote.Failed ∷ [])

abbrev pub to_write : List ℕ → Known → Write → List Entry → Prog (Settled × List Entry)
to_write name known what entries =
    Ask (Put known.held.0 what)
    (λ t. after_write name known.number what (entries ++ entry.Intent known.number name what ∷ [])
    t.answer (failure_of t))

abbrev pub to_value : List ℕ → Known → List Entry → Bool → Bool → Prog (Settled × List Entry)
to_value name known entries true true = Return (settled.Stands, entries)
to_value name known entries false false = Return (settled.Stands, entries)
to_value name known entries true false = to_write name known (write_of known.verdict) entries
to_value name known entries false true = to_write name known (write_of known.verdict) entries

-- a write where the value differs
unfoldable pub valuing : List ℕ → Known → Bool → List Entry → Prog (Settled × List Entry)
valuing name known on entries = to_value name known entries (wants known.verdict) on

-- a file that is held is written, and closed
abbrev pub to_once : List ℕ → Known → Write → ℕ → List Entry → Prog (Settled × List Entry)
to_once name known what file entries =
    Ask (Put file what)
    (λ t. Ask (Close file) (λ closed. after_write name known.number what
    (entries ++ entry.Intent known.number name what ∷ []) t.answer (failure_of t)))

abbrev pub after_hold : List ℕ → Known → Write → List Entry → RemoveHold
    → Prog (Settled × List Entry)
after_hold name known what entries (hold.Ready file) = to_once name known what file.0 entries
after_hold name known what entries hold.Gone =
    Return (settled.Nobody, entries ++ entry.Gone known.number name ∷ [])
after_hold name known what entries (hold.Failed failed) = Return (settled.Fault failed, entries)
after_hold name known what entries hold.Memory = Return (settled.Memory, entries)

-- a write that is made once: its file is opened and held, written, and closed
unfoldable pub once : List ℕ → Known → Write → List Entry → Prog (Settled × List Entry)
once name known what entries =
    then (holding (control_of what) name known.held.0) (after_hold name known what entries)

-- whether it is still to be removed
abbrev pub is_to_go : Known → Bool
is_to_go known = is_reject known.verdict && not known.removed

abbrev pub if_to_go : List ℕ → Known → List Entry → Bool → Prog (Settled × List Entry)
if_to_go name known entries true = once name known write.Remove entries
if_to_go name known entries false = Return (settled.Stands, entries)

abbrev pub after_value : List ℕ → Known → List Entry → Settled → Prog (Settled × List Entry)
after_value name known entries settled.Stands = if_to_go name known entries (is_to_go known)
after_value name known entries settled.Nobody = Return (settled.Nobody, entries)
after_value name known entries (settled.Fault failed) = Return (settled.Fault failed, entries)
after_value name known entries settled.Memory = Return (settled.Memory, entries)

-- the value, and then the removal
unfoldable pub writing : List ℕ → Known → Bool → List Entry → Prog (Settled × List Entry)
writing name known on entries =
    then (valuing name known on entries) (λ p. after_value name known p.1 p.0)

-- the held file of a device that is gone is closed
abbrev pub close_gone : ℕ → List Entry → Settled → Prog (Settled × List Entry)
close_gone held entries settled.Nobody =
    Ask (Close held) (λ closed. Return (settled.Nobody, entries))
close_gone held entries settled.Stands = Return (settled.Stands, entries)
close_gone held entries (settled.Fault failed) = Return (settled.Fault failed, entries)
close_gone held entries settled.Memory = Return (settled.Memory, entries)

-- the writes; and where they find the device gone, its held file is closed
unfoldable pub bringing : List ℕ → Known → Bool → List Entry → Prog (Settled × List Entry)
bringing name known on entries =
    then (writing name known on entries) (λ p. close_gone known.held.0 p.1 p.0)

-- the default of a root hub

-- what is still to be written to it for a standing of that name
abbrev pub default_due : Option Write → List ℕ → Known → Option Write
default_due hub name known =
    cond (is_none (parent_of name) && not known.defaulted) (default_write hub) None

-- a known device whose default was written
abbrev pub defaulted_known : Known → Known
defaulted_known known = record known { defaulted = true }

-- behind the write, where that stands, the device is brought to its verdict; and where its device
-- is found gone, its held file is closed
abbrev pub after_default : List ℕ → Known → Bool → List Entry → Settled
    → Prog (Settled × Bool × List Entry)
after_default name known on entries settled.Stands =
    then (bringing name (defaulted_known known) on entries) (λ p. Return (p.0, true, p.1))
after_default name known on entries settled.Nobody =
    Ask (Close known.held.0) (λ closed. Return (settled.Nobody, false, entries))
after_default name known on entries (settled.Fault failed) =
    Return (settled.Fault failed, false, entries)
after_default name known on entries settled.Memory = Return (settled.Memory, false, entries)

abbrev pub by_default : List ℕ → Known → Bool → List Entry → Option Write
    → Prog (Settled × Bool × List Entry)
by_default name known on entries None =
    then (bringing name known on entries) (λ p. Return (p.0, false, p.1))
by_default name known on entries (Some what) =
    then (once name known what entries) (λ p. after_default name known on p.1 p.0)

-- all writes of a sweep for a device: first that to its default, where it is still to be made. The
-- answer tells whether it was done
unfoldable pub treating : Option Write → List ℕ → Known → Bool → List Entry
    → Prog (Settled × Bool × List Entry)
treating hub name known on entries = by_default name known on entries (default_due hub name known)

-- memory may be wanted for the device: it is still to be removed, or its default is still to be
-- written
abbrev pub NeedsMemory : Option Write → List ℕ → Known → Type 0
NeedsMemory hub name known =
    (is_to_go known ≡ true) ⊎ ((what : Write) × (default_due hub name known ≡ Some what))
