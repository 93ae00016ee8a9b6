-- Which entries there are, and what of an entry is printed.
use Rattle.std.specs.Prelude.{◌<◌, ◌^◌, IsTrue, Ok, Err}
use Rattle.ug_types.specs.NodeNames.{IsNodeName}
use Rattle.ug_types.specs.Principals.{is_name}
use Rattle.ug_types.specs.Refusals.{IsRefusal}
use Rattle.ug_types.specs.declared.saved.Saved.TheVariants as saved
use Rattle.ug_types.specs.declared.verdict.Cause.{Cause}
use Rattle.ug_types.specs.declared.verdict.Cause.TheVariants as cause
use Rattle.ug_audit.specs.declared.entry.Fault.{Fault}
use Rattle.ug_audit.specs.declared.entry.Fault.TheVariants as fault
use Rattle.ug_audit.specs.declared.entry.Entry.{Entry}
use Rattle.ug_audit.specs.declared.entry.Entry.TheVariants as entry

abbrev pub IsCause : Cause → Type 0
IsCause (cause.Rule id) = id < 2 ^ 64
IsCause cause.Implicit = Unit {0}
IsCause cause.Present = Unit {0}
IsCause cause.Keep = Unit {0}
IsCause cause.Inserted = Unit {0}
IsCause (cause.Malformed kind place) = (kind < 256) × (place < 2 ^ 64)
IsCause (cause.Order who) = IsTrue (is_name who.name)

abbrev pub IsUnsettling : Fault → Type 0
IsUnsettling (fault.Call failed) = (failed.call < 2 ^ 64) × (failed.count < 2 ^ 64)
IsUnsettling fault.Memory = Unit {0}

-- the numbers, names and principals that an entry can have: each value of the type is so
abbrev pub IsEntry : Entry → Type 0
IsEntry (entry.Event number moment) = (number < 2 ^ 64) × (moment.0 < 2 ^ 64)
IsEntry (entry.Order number moment who) =
    (number < 2 ^ 64) × (moment.0 < 2 ^ 64) × IsTrue (is_name who.name)
IsEntry (entry.Hint number moment) = (number < 2 ^ 64) × (moment.0 < 2 ^ 64)
IsEntry (entry.Save became) = Unit {0}
IsEntry (entry.Judged number name held verdict why) =
    (number < 2 ^ 64) × IsNodeName name × IsCause why
IsEntry (entry.Intent number name what) = (number < 2 ^ 64) × IsNodeName name
IsEntry (entry.Wrote number name what outcome) = (number < 2 ^ 64) × IsNodeName name
IsEntry (entry.Gone number name) = (number < 2 ^ 64) × IsNodeName name
IsEntry (entry.Unsettled name why) = IsNodeName name × IsUnsettling why
IsEntry (entry.UnsettledAll why) = IsUnsettling why
IsEntry (entry.HintRefused kind place) = (kind < 256) × (place < 2 ^ 64)
IsEntry (entry.Rules done id) = id < 2 ^ 64
IsEntry (entry.Parameter set) = Unit {0}
IsEntry (entry.Reply (Ok done)) = Unit {0}
IsEntry (entry.Reply (Err refusal)) = IsRefusal refusal
IsEntry (entry.Dropped member) = member < 256
IsEntry (entry.End number) = number < 2 ^ 64

-- the held file of a verdict and the count of a failed save aren't printed: the entry with 0 in
-- their place
abbrev pub as_printed : Entry → Entry
as_printed (entry.Judged number name held verdict why) =
    entry.Judged number name (record { 0 = 0 }) verdict why
as_printed (entry.Save (saved.Failed count)) = entry.Save (saved.Failed 0)
as_printed e = e
