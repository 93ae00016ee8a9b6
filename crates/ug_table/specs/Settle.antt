-- The settling of one name: a known one is probed and written, another is bound, judged and
-- written.
use Rattle.std.specs.Prelude.{ℕ, ◌+◌, Bool, true, false, is_none, List, [], ◌∷◌, ◌++◌, Option, Some, None, map}
use Rattle.ug_types.specs.Names.{parent_of}
use Rattle.ug_types.specs.declared.record.Judged.{Judged}
use Rattle.ug_types.specs.declared.verdict.Target.{Target}
use Rattle.ug_types.specs.declared.verdict.Cause.{Cause}
use Rattle.ug_kernel.specs.declared.calls.FailedCall.{FailedCall}
use Rattle.ug_kernel.specs.declared.calls.Probe.{Probe}
use Rattle.ug_kernel.specs.declared.calls.Probe.TheVariants as probe
use Rattle.ug_kernel.specs.Calls.{Ask_alive, Close}
use Rattle.ug_kernel.specs.Tree.{Prog, Return, Ask, Room, then}
use Rattle.ug_kernel.specs.Along.{failure_of}
use Rattle.ug_kernel.specs.declared.identity.Bound.{Bound}
use Rattle.ug_kernel.specs.declared.identity.Binding.{Binding}
use Rattle.ug_kernel.specs.declared.identity.Binding.TheVariants as bound
use Rattle.ug_audit.specs.declared.entry.Entry.{Entry}
use Rattle.ug_audit.specs.declared.entry.Entry.TheVariants as entry
use Rattle.ug_audit.specs.declared.entry.Fault.{Fault}
use Rattle.ug_audit.specs.declared.entry.Fault.TheVariants as fault
use Rattle.ug_kernel.specs.declared.control.Write.{Write}
use Rattle.ug_table.specs.State.{State, noted, Kept, Answers, Laters, Terms}
use Rattle.ug_table.specs.Standings.{standing_of, without, did_default, marked, with_standing, settled_standing}
use Rattle.ug_table.specs.Parent.{binding_for, judged_bound, bound_hash}
use Rattle.ug_table.specs.Bring.{treating}
use Rattle.ug_table.specs.declared.standing.Standing.{Standing}
use Rattle.ug_table.specs.declared.standing.Known.{Known}
use Rattle.ug_table.specs.declared.standing.Settled.{Settled}
use Rattle.ug_table.specs.declared.standing.Settled.TheVariants as settled

abbrev pub stands : Settled → Bool
stands settled.Stands = true
stands (settled.Fault failed) = false
stands settled.Nobody = false
stands settled.Memory = false

-- the entry that tells a name as unsettled, where its part ended so
abbrev pub unsettled_by : List ℕ → Settled → List Entry
unsettled_by name settled.Stands = []
unsettled_by name settled.Nobody = []
unsettled_by name (settled.Fault failed) = entry.Unsettled name (fault.Call failed) ∷ []
unsettled_by name settled.Memory = entry.Unsettled name fault.Memory ∷ []

-- a new standing is kept, unless its device is gone
abbrev pub kept_standings : List Standing → Standing → Settled → List Standing
kept_standings ss s settled.Nobody = ss
kept_standings ss s settled.Stands = with_standing (settled_standing s) ss
kept_standings ss s (settled.Fault failed) = with_standing s ss
kept_standings ss s settled.Memory = with_standing s ss

abbrev pub to_keep : {J : Type 0} → State J → Standing → Settled × Bool × List Entry
    → Prog (Settled × State J)
to_keep w s p =
    Return (
      p.0,
      record w {
        standings = kept_standings w.standings (record s { defaulted = p.1 }) p.0;
        entries = p.2 ++ unsettled_by s.name p.0;
      },
    )

-- how a name ends whose settling a fault stopped
abbrev pub stopped_by : Fault → Settled
stopped_by (fault.Call failed) = settled.Fault failed
stopped_by fault.Memory = settled.Memory

abbrev pub unsettled : {J : Type 0} → State J → List ℕ → Fault → Prog (Settled × State J)
unsettled w name why = Return (stopped_by why, noted w (entry.Unsettled name why))

-- want of memory for a standing: its file is closed
abbrev pub no_room : {J : Type 0} → State J → List ℕ → ℕ → Prog (Settled × State J)
no_room w name held = Ask (Close held) (λ closed. unsettled w name fault.Memory)

-- the standing that a verdict makes
abbrev pub standing_for : {J : Type 0} → State J → List ℕ → ℕ → Judged → List ℕ → Target × Cause
    → Standing
standing_for w name held judged hash given = record {
  number = w.next;
  name = name;
  held = record { 0 = held };
  judged = judged;
  hash = hash;
  verdict = given.0;
  cause = given.1;
  settled = false;
  removed = false;
  defaulted = false;
}

abbrev pub known_in : {J : Type 0} → State J → ℕ → Target × Cause → Known
known_in w held given =
    record {
      number = w.next;
      held = record { 0 = held };
      verdict = given.0;
      removed = false;
      defaulted =
          false;
    }

abbrev pub judged_entry : {J : Type 0} → State J → List ℕ → ℕ → Target × Cause → Entry
judged_entry w name held given = entry.Judged w.next name (record { 0 = held }) given.0 given.1

abbrev pub judging : {J : Type 0} → Option Write → J → State J → List ℕ → ℕ → Judged → List ℕ
    → Bool → Target × Cause → Prog (Settled × State J)
judging hub later w name held judged hash on given =
    then
    (treating hub name (known_in w held given) on
    (w.entries ++ judged_entry w name held given ∷ []))
    (to_keep (record w { next = w.next + 1; judge = later })
    (standing_for w name held judged hash given))

abbrev pub to_judge : {J : Type 0} → Answers J → Laters J → List ℕ → Terms → State J → Bound
    → Judged → List ℕ → Prog (Settled × State J)
to_judge answer later name terms w b judged hash =
    judging terms.hub
    (later w.judge judged (is_none (parent_of name)) terms.present b.on w.standings) w name
    b.held.0 judged hash b.on
    (answer w.judge judged (is_none (parent_of name)) terms.present b.on w.standings)

abbrev pub if_place : {J : Type 0} → Answers J → Laters J → List ℕ → Terms → State J → Bound
    → Judged → List ℕ → Bool → Prog (Settled × State J)
if_place answer later name terms w b judged hash true =
    to_judge answer later name terms w b judged hash
if_place answer later name terms w b judged hash false = no_room w name b.held.0

abbrev pub if_record : {J : Type 0} → Answers J → Laters J → List ℕ → Terms → State J → Bound → Bool
    → Prog (Settled × State J)
if_record answer later name terms w b true =
    Room (if_place answer later name terms w b (judged_bound name w.standings b) (bound_hash b))
if_record answer later name terms w b false = no_room w name b.held.0

-- a bound device gets room for its record with its hash, and for its standing, a verdict and its
-- writes
unfoldable pub admitting : {J : Type 0} → Answers J → Laters J → List ℕ → Terms → State J → Bound
    → Prog (Settled × State J)
admitting answer later name terms w b = Room (if_record answer later name terms w b)

abbrev pub after_bind : {J : Type 0} → Answers J → Laters J → List ℕ → Terms → State J → Binding
    → Prog (Settled × State J)
after_bind answer later name terms w (bound.Bound b) = admitting answer later name terms w b
after_bind answer later name terms w bound.Absent = Return (settled.Nobody, w)
after_bind answer later name terms w bound.Vanished = Return (settled.Nobody, w)
after_bind answer later name terms w (bound.Failed failed) = unsettled w name (fault.Call failed)
after_bind answer later name terms w bound.Memory = unsettled w name fault.Memory

-- a name that has no standing
unfoldable pub entering : {J : Type 0} → Answers J → Laters J → List ℕ → Terms → State J
    → Prog (Settled × State J)
entering answer later name terms w =
    then (binding_for name w.standings) (after_bind answer later name terms w)

-- a standing that was tried again
abbrev pub tried_standings : List Standing → List ℕ → Settled → List Standing
tried_standings ss name settled.Nobody = without name ss
tried_standings ss name settled.Stands = map (marked name true) ss
tried_standings ss name (settled.Fault failed) = map (marked name false) ss
tried_standings ss name settled.Memory = map (marked name false) ss

abbrev pub to_mark : {J : Type 0} → State J → List ℕ → Settled × Bool × List Entry
    → Prog (Settled × State J)
to_mark w name p =
    Return (
      p.0,
      record w {
        standings = tried_standings (did_default name p.1 w.standings) name p.0;
        entries = p.2 ++ unsettled_by name p.0;
      },
    )

-- a device that is gone loses its standing, and its held file is closed
abbrev pub dropped : {J : Type 0} → State J → List ℕ → ℕ → State J
dropped w name number =
    record w
    { standings = without name w.standings; entries = w.entries ++ entry.Gone number name ∷ [] }

abbrev pub failed_probe : {J : Type 0} → State J → List ℕ → FailedCall → Prog (Settled × State J)
failed_probe w name failed =
    Return (
      settled.Fault failed,
      record w {
        standings = tried_standings w.standings name
            (settled.Fault failed);
        entries = w.entries ++ entry.Unsettled name (fault.Call failed) ∷ [];
      },
    )

abbrev pub after_known : {J : Type 0} → Answers J → Laters J → List ℕ → Terms → State J → Known
    → Probe → FailedCall → Prog (Settled × State J)
after_known answer later name terms w known (probe.Alive on) failed =
    then (treating terms.hub name known on w.entries) (to_mark w name)
after_known answer later name terms w known probe.Gone failed =
    Ask (Close known.held.0)
    (λ closed. entering answer later name terms (dropped w name known.number))
after_known answer later name terms w known probe.Failed failed = failed_probe w name failed

abbrev pub from_standing : {J : Type 0} → Answers J → Laters J → List ℕ → Terms → State J
    → Option Known → Prog (Settled × State J)
from_standing answer later name terms w (Some known) =
    Ask (Ask_alive known.held.0)
    (λ t. after_known answer later name terms w known t.answer (failure_of t))
from_standing answer later name terms w None = entering answer later name terms w

-- one listed name
unfoldable pub settling : {J : Type 0} → Answers J → Laters J → List ℕ → Terms → State J
    → Prog (Settled × State J)
settling answer later name terms w =
    from_standing answer later name terms w (standing_of name w.standings)

abbrev pub to_keep_mark : Kept → List ℕ → Settled × Bool × List Entry → Prog (Settled × Kept)
to_keep_mark k name p =
    Return (
      p.0,
      record {
        standings = tried_standings (did_default name p.1 k.standings) name p.0;
        entries = p.2 ++ unsettled_by name p.0;
      },
    )

abbrev pub after_again : Option Write → List ℕ → Kept → Known → Probe → FailedCall
    → Prog (Settled × Kept)
after_again hub name k known (probe.Alive on) failed =
    then (treating hub name known on k.entries) (to_keep_mark k name)
after_again hub name k known probe.Gone failed =
    Ask (Close known.held.0)
    (λ closed. Return (
      settled.Nobody,
      record {
        standings = without name k.standings;
        entries =
            k.entries ++ entry.Gone known.number name ∷ [];
      },
    ))
after_again hub name k known probe.Failed failed =
    Return (
      settled.Fault failed,
      record {
        standings = tried_standings k.standings name
            (settled.Fault failed);
        entries = k.entries ++ entry.Unsettled name (fault.Call failed) ∷ [];
      },
    )

abbrev pub again : Option Write → List ℕ → Kept → Option Known → Prog (Settled × Kept)
again hub name k (Some known) =
    Ask (Ask_alive known.held.0) (λ t. after_again hub name k known t.answer (failure_of t))
again hub name k None = Return (settled.Nobody, k)

-- one known name where the listing didn't succeed
unfoldable pub resettling : Option Write → List ℕ → Kept → Prog (Settled × Kept)
resettling hub name k = again hub name k (standing_of name k.standings)
