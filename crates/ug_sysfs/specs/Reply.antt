-- The answers themselves, and their kinds.
use Rattle.std.specs.Prelude.{◌≡◌, Bool, true, false, List, [], ◌∷◌}
use Rattle.ug_kernel.specs.declared.calls.Listing.{Listing}
use Rattle.ug_kernel.specs.declared.calls.Listing.TheVariants as listing
use Rattle.ug_kernel.specs.declared.calls.Opened.{Opened}
use Rattle.ug_kernel.specs.declared.calls.Opened.TheVariants as opened
use Rattle.ug_kernel.specs.declared.calls.ReadOut.{ReadOut}
use Rattle.ug_kernel.specs.declared.calls.ReadOut.TheVariants as out
use Rattle.ug_kernel.specs.declared.calls.Probe.{Probe}
use Rattle.ug_kernel.specs.declared.calls.Probe.TheVariants as probe
use Rattle.ug_kernel.specs.declared.calls.Wrote.{Wrote}
use Rattle.ug_kernel.specs.declared.calls.Wrote.TheVariants as wrote
use Rattle.ug_kernel.specs.Calls.{Call, Names, Open, Read, Ask_alive, Put, Close, Closing, Closed, failed_listing, failed_open, failed_read, is_probe_failed, failed_put}
use Rattle.ug_kernel.specs.declared.record.Asked.TheVariants as asked
use Rattle.ug_kernel.specs.declared.record.Kind.{Kind}
use Rattle.ug_kernel.specs.declared.record.Kind.TheVariants as kind
use Rattle.ug_kernel.specs.declared.record.CallRecord.{CallRecord}
use Rattle.ug_kernel.specs.Entries.{listing_kind, opened_kind, read_kind, probe_kind, wrote_kind}

-- what a call's method returns
abbrev pub Reply : Call → Type 0
Reply Names = Listing
Reply (Open name control) = Opened
Reply (Read name attr) = ReadOut
Reply (Ask_alive held) = Probe
Reply (Put held write) = Wrote
Reply (Close held) = Closing

-- a failure. Closing has none
abbrev pub failing_reply : (call : Call) → Reply call
failing_reply Names = listing.Failed
failing_reply (Open name control) = opened.Failed
failing_reply (Read name attr) = out.Failed
failing_reply (Ask_alive held) = probe.Failed
failing_reply (Put held write) = wrote.Failed
failing_reply (Close held) = Closed

abbrev pub is_failure : (call : Call) → Reply call → Bool
is_failure Names reply = failed_listing reply
is_failure (Open name control) reply = failed_open reply
is_failure (Read name attr) reply = failed_read reply
is_failure (Ask_alive held) reply = is_probe_failed reply
is_failure (Put held write) reply = failed_put reply
is_failure (Close held) reply = false

-- want of memory, where the call takes memory
abbrev pub IsMemory : (call : Call) → Reply call → Type 0
IsMemory Names reply = reply ≡ listing.Memory
IsMemory (Open name control) reply = reply ≡ opened.Memory
IsMemory (Read name attr) reply = reply ≡ out.Memory
IsMemory (Ask_alive held) reply = ⊥
IsMemory (Put held write) reply = ⊥
IsMemory (Close held) reply = ⊥

abbrev pub is_failed : Kind → Bool
is_failed kind.Failed = true
is_failed other = false

-- a call as it is listed. Closing isn't
abbrev pub calls_listed : (call : Call) → Reply call → List CallRecord
calls_listed Names reply = record { asked = asked.List; kind = listing_kind reply } ∷ []
calls_listed (Open name control) reply =
    record { asked = asked.Open name control; kind = opened_kind reply } ∷ []
calls_listed (Read name attr) reply =
    record { asked = asked.Read name attr; kind = read_kind reply } ∷ []
calls_listed (Ask_alive held) reply =
    record { asked = asked.Probe (record { 0 = held }); kind = probe_kind reply } ∷ []
calls_listed (Put held write) reply =
    record { asked = asked.Write (record { 0 = held }) write; kind = wrote_kind reply } ∷ []
calls_listed (Close held) reply = []
