-- The journal's lines of events, without their newlines.
use Rattle.std.specs.Prelude.{ℕ, List, [], ◌∷◌, ◌++◌, Ok, Err, codes, decimal}
use Rattle.ug_types.specs.Parameters.{parameter_name, parameter_set, value_word}
use Rattle.ug_types.specs.Principals.{principal_text}
use Rattle.ug_types.specs.Refusals.{refusal_words}
use Rattle.ug_types.specs.declared.saved.Saved.{Saved}
use Rattle.ug_types.specs.declared.saved.Saved.TheVariants as saved
use Rattle.ug_types.specs.Targets.{target_word}
use Rattle.ug_types.specs.declared.verdict.Cause.{Cause}
use Rattle.ug_types.specs.declared.verdict.Cause.TheVariants as cause
use Rattle.ug_kernel.specs.declared.control.Write.{Write}
use Rattle.ug_kernel.specs.declared.control.Write.TheVariants as write
use Rattle.ug_kernel.specs.declared.calls.Wrote.{Wrote}
use Rattle.ug_kernel.specs.declared.calls.Wrote.TheVariants as wrote
use Rattle.ug_audit.specs.declared.entry.Fault.{Fault}
use Rattle.ug_audit.specs.declared.entry.Fault.TheVariants as fault
use Rattle.ug_audit.specs.declared.entry.RuleChange.{RuleChange}
use Rattle.ug_audit.specs.declared.entry.RuleChange.TheVariants as change
use Rattle.ug_audit.specs.declared.entry.Entry.{Entry}
use Rattle.ug_audit.specs.declared.entry.Entry.TheVariants as entry

-- a text and words behind it, one space before each
abbrev pub and_words : List ℕ → List (List ℕ) → List ℕ
and_words text [] = text
and_words text (word ∷ words) = and_words (text ++ 32 ∷ word) words

unfoldable pub write_word : Write → List ℕ
write_word write.On = codes "on"
write_word write.Off = codes "off"
write_word write.Remove = codes "remove"
write_word write.DefaultOff = codes "default-off"
write_word write.DefaultOn = codes "default-on"

unfoldable pub wrote_word : Wrote → List ℕ
wrote_word wrote.Done = codes "done"
wrote_word wrote.Gone = codes "gone"
wrote_word wrote.Failed = codes "failed"

unfoldable pub saved_word : Saved → List ℕ
saved_word saved.Done = codes "done"
saved_word (saved.Failed count) = codes "failed"
saved_word saved.Memory = codes "memory"

unfoldable pub change_word : RuleChange → List ℕ
change_word change.Added = codes "added"
change_word change.Removed = codes "removed"
change_word change.Changed = codes "changed"

unfoldable pub cause_words : Cause → List (List ℕ)
cause_words (cause.Rule id) = codes "rule" ∷ decimal id ∷ []
cause_words cause.Implicit = codes "implicit" ∷ []
cause_words cause.Present = codes "present" ∷ []
cause_words cause.Keep = codes "keep" ∷ []
cause_words cause.Inserted = codes "inserted" ∷ []
cause_words (cause.Malformed kind place) = codes "malformed" ∷ decimal kind ∷ decimal place ∷ []
cause_words (cause.Order who) = codes "order" ∷ principal_text who ∷ []

unfoldable pub fault_words : Fault → List (List ℕ)
fault_words (fault.Call failed) = codes "fault" ∷ decimal failed.call ∷ decimal failed.count ∷ []
fault_words fault.Memory = codes "memory" ∷ []

-- a star stands for every name
unfoldable pub entry_line : Entry → List ℕ
entry_line (entry.Event number moment) =
    and_words (codes "event") (decimal number ∷ codes "sweep" ∷ decimal moment.0 ∷ [])
entry_line (entry.Order number moment who) =
    and_words (codes "event")
    (decimal number ∷ codes "order" ∷ decimal moment.0 ∷ principal_text who ∷ [])
entry_line (entry.Hint number moment) =
    and_words (codes "event") (decimal number ∷ codes "hint" ∷ decimal moment.0 ∷ [])
entry_line (entry.Save became) = and_words (codes "save") (saved_word became ∷ [])
entry_line (entry.Judged number name held verdict why) =
    and_words (codes "judged") (decimal number ∷ name ∷ target_word verdict ∷ cause_words why)
entry_line (entry.Intent number name bytes) =
    and_words (codes "intent") (decimal number ∷ name ∷ write_word bytes ∷ [])
entry_line (entry.Wrote number name bytes outcome) =
    and_words (codes "wrote") (decimal number ∷ name ∷ write_word bytes ∷ wrote_word outcome ∷ [])
entry_line (entry.Gone number name) = and_words (codes "gone") (decimal number ∷ name ∷ [])
entry_line (entry.Unsettled name why) = and_words (codes "unsettled") (name ∷ fault_words why)
entry_line (entry.UnsettledAll why) = and_words (codes "unsettled") (codes "*" ∷ fault_words why)
entry_line (entry.HintRefused kind place) =
    and_words (codes "hint") (codes "refused" ∷ decimal kind ∷ decimal place ∷ [])
entry_line (entry.Rules done id) = and_words (codes "rules") (change_word done ∷ decimal id ∷ [])
entry_line (entry.Parameter set) =
    and_words (codes "parameter") (parameter_name (parameter_set set) ∷ value_word set ∷ [])
entry_line (entry.Reply (Ok done)) = and_words (codes "reply") (codes "ok" ∷ [])
entry_line (entry.Reply (Err refusal)) = and_words (codes "reply") (refusal_words refusal ∷ [])
entry_line (entry.Dropped member) = and_words (codes "dropped") (decimal member ∷ [])
entry_line (entry.End number) = and_words (codes "end") (decimal number ∷ [])
