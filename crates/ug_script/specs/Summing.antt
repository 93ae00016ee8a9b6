-- What each line of a script is to `replay --summary`, and the line that is written behind the
-- last.
use Rattle.std.specs.Prelude.{◌≡◌, ℕ, ◌+◌, ◌-◌, ◌^◌, min, nat_eq, Bool, true, false, List, [], ◌++◌, filter, length, codes, decimal, Option, Some, None}
use Rattle.std.specs.List.{starts_with}
use Rattle.ug_audit.specs.declared.entry.Entry.{Entry}
use Rattle.ug_audit.specs.declared.entry.Entry.TheVariants as entry
use Rattle.ug_lines.specs.Lines.{lines_of}
use Rattle.ug_sysfs.specs.World.{World}
use Rattle.ug_command_io.specs.Fold.{LineRefusal, LineOutcome, Writes, Refused, Going, fault_line, no_memory, plays, read_fault}
use Rattle.ug_script.specs.Script.{Script}
use Rattle.ug_script.specs.Replay.{interpreter_state, script_step}
use Rattle.ug_script.specs.declared.summarizer.Summarizer.{Summarizer}
use Rattle.ug_script.specs.declared.totals.Totals.{Totals}

-- ---- numbers of lines

-- a number stands still at its type's end
abbrev pub bounded_count : ℕ → ℕ
bounded_count n = min n (2 ^ 64 - 1)

-- how many of the lines begin so
abbrev pub count : List ℕ → List (List ℕ) → ℕ
count front lines = length (filter (λ line. starts_with nat_eq line front) lines)

abbrev pub no_totals : Totals
no_totals = record { events = 0; judged = 0; writes = 0; unsettled = 0 }

-- with the events, the verdicts, the writes and the unsettled devices of more lines of a journal
abbrev pub with_lines : List (List ℕ) → Totals → Totals
with_lines lines t = record {
  events = bounded_count (t.events + count (codes "event ") lines);
  judged = bounded_count (t.judged + count (codes "judged ") lines);
  writes = bounded_count (t.writes + count (codes "wrote ") lines);
  unsettled = bounded_count (t.unsettled + count (codes "unsettled ") lines);
}

-- those of a whole journal
abbrev pub totals_of : List ℕ → Totals
totals_of journal = with_lines (lines_of journal) no_totals

-- ---- kinds of entries

-- an event begins: a sweep, an order, or a piece of recorded uevents
abbrev pub begins_event : Entry → Bool
begins_event (entry.Event number moment) = true
begins_event (entry.Order number moment who) = true
begins_event (entry.Hint number moment) = true
begins_event other = false

abbrev pub sets_verdict : Entry → Bool
sets_verdict (entry.Judged number name held verdict why) = true
sets_verdict other = false

-- a write was made, and not only intended
abbrev pub tells_write : Entry → Bool
tells_write (entry.Wrote number name bytes outcome) = true
tells_write other = false

-- of a device, or of all
abbrev pub tells_unsettled : Entry → Bool
tells_unsettled (entry.Unsettled name why) = true
tells_unsettled (entry.UnsettledAll why) = true
tells_unsettled other = false

-- ---- lines of a script

-- a machine beside the numbers of the journal so far
abbrev pub Summary : Type 0
Summary = Option Script × Totals

abbrev pub summary_of : Summarizer → Summary
summary_of summarizer = (interpreter_state summarizer.script, summarizer.totals)

-- the text of a line is counted in place of being written
abbrev pub counted : Totals → LineOutcome (Option Script × World) → LineOutcome (Summary × World)
counted t (Writes text p) = Writes [] ((p.0, with_lines (lines_of text) t), p.1)
counted t (Refused fault p) = Refused fault ((p.0, t), p.1)

abbrev pub summary_step : Summary × World → List ℕ → LineOutcome (Summary × World)
summary_step p line = counted p.0.1 (script_step (p.0.0, p.1) line)

-- ---- the end

unfoldable pub summary_line : Totals → List ℕ
summary_line t =
    codes "summary events " ++ decimal t.events ++ codes " judged " ++ decimal t.judged
    ++ codes " writes " ++ decimal t.writes ++ codes " unsettled " ++ decimal t.unsettled
    ++ codes "\n"

abbrev pub summary_end_of : Option Script → Totals → Option (List ℕ)
summary_end_of None t = None
summary_end_of (Some s) t = Some (summary_line t)

-- where the header was read
abbrev pub summary_end : Summary × World → Option (List ℕ)
summary_end p = summary_end_of p.0.0 p.0.1

-- ---- a whole script

-- One line is written: the numbers of the journal that a replay writes, or what is wrong.
pub record TellsSummary (first : World) (all base : List ℕ) (held : Option (List ℕ)) (status : ℕ) :
    Type 0 where
  pub done : status ≡ 0 → (n : ℕ) × (journal : List ℕ) × (s : Script) × (w : World)
      × (plays script_step (Going 0 [] (None, first)) (lines_of all) ≡ Going n journal (Some s, w))
      × (held ≡ Some (base ++ summary_line (totals_of journal)))
  pub bad : status ≡ 2 → (fault : LineRefusal) × (n : ℕ)
      × (held ≡ Some (base ++ fault_line fault n))
  pub read : status ≡ 4 → held ≡ Some (base ++ read_fault)
  pub memory : status ≡ 6 → held ≡ Some (base ++ no_memory)
