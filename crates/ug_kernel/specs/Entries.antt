-- How a call stands in the event's list of calls.
use Rattle.std.specs.Prelude.{List, [], ◌∷◌}
use Rattle.ug_kernel.specs.Calls.{Call, Names, Open, Read, Ask_alive, Put, Close, Answer}
use Rattle.ug_kernel.specs.declared.calls.Listing.{Listing}
use Rattle.ug_kernel.specs.declared.calls.Listing.TheVariants as listing
use Rattle.ug_kernel.specs.declared.calls.Opened.{Opened}
use Rattle.ug_kernel.specs.declared.calls.Opened.TheVariants as opened
use Rattle.ug_kernel.specs.declared.calls.ReadOut.{ReadOut}
use Rattle.ug_kernel.specs.declared.calls.ReadOut.TheVariants as out
use Rattle.ug_kernel.specs.declared.calls.Probe.{Probe}
use Rattle.ug_kernel.specs.declared.calls.Probe.TheVariants as probe
use Rattle.ug_kernel.specs.declared.calls.Wrote.{Wrote}
use Rattle.ug_kernel.specs.declared.calls.Wrote.TheVariants as wrote
use Rattle.ug_kernel.specs.declared.record.Asked.TheVariants as asked
use Rattle.ug_kernel.specs.declared.record.Kind.{Kind}
use Rattle.ug_kernel.specs.declared.record.Kind.TheVariants as kind
use Rattle.ug_kernel.specs.declared.record.CallRecord.{CallRecord}

abbrev pub listing_kind : Listing → Kind
listing_kind (listing.Names names) = kind.Names
listing_kind listing.Failed = kind.Failed
listing_kind listing.Memory = kind.Memory

abbrev pub opened_kind : Opened → Kind
opened_kind (opened.Token held) = kind.Token
opened_kind opened.Absent = kind.Absent
opened_kind opened.Failed = kind.Failed
opened_kind opened.Memory = kind.Memory

abbrev pub read_kind : ReadOut → Kind
read_kind (out.Bytes bytes) = kind.Bytes
read_kind out.Absent = kind.Absent
read_kind out.TooLong = kind.TooLong
read_kind out.Failed = kind.Failed
read_kind out.Memory = kind.Memory

abbrev pub probe_kind : Probe → Kind
probe_kind (probe.Alive on) = kind.Alive
probe_kind probe.Gone = kind.Gone
probe_kind probe.Failed = kind.Failed

abbrev pub wrote_kind : Wrote → Kind
wrote_kind wrote.Done = kind.Done
wrote_kind wrote.Gone = kind.Gone
wrote_kind wrote.Failed = kind.Failed

-- a call with the kind of its answer. Closing isn't listed
abbrev pub entry_of : (call : Call) → Answer call → List CallRecord
entry_of Names told = record { asked = asked.List; kind = listing_kind told.answer } ∷ []
entry_of (Open name control) told =
    record { asked = asked.Open name control; kind = opened_kind told.answer } ∷ []
entry_of (Read name attr) told =
    record { asked = asked.Read name attr; kind = read_kind told.answer } ∷ []
entry_of (Ask_alive held) told =
    record { asked = asked.Probe (record { 0 = held }); kind = probe_kind told.answer } ∷ []
entry_of (Put held write) told =
    record { asked = asked.Write (record { 0 = held }) write; kind = wrote_kind told.answer } ∷ []
entry_of (Close held) told = []
