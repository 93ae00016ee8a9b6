-- A request that follows another, and what is printed of the replies to both.
use Rattle.std.specs.Prelude.{◌≡◌, ℕ, List, [], ◌∷◌, ◌++◌, cond, codes, Option}
use Rattle.ug_proto.specs.Replies.{ended_lines}
use Rattle.ug_proto.specs.declared.reply.Reply.{Reply}
use Rattle.ug_proto.specs.declared.reply.Reply.TheVariants.{Lines, Refused}
use Rattle.ug_rows.specs.Contrary.{contrary_lines}
use Rattle.ug_rows.specs.RuleRows.{applied_rows, is_shown, labelled_rows, left_rows, rule_in_row}
use Rattle.ug_types.specs.declared.verdict.Target.{Target}
use Rattle.ug_client.specs.Answers.{printed}
use Rattle.ug_client.specs.Fetching.{AsksShowing, FetchesReply, WritesFetched}
use Rattle.ug_client.specs.Ordering.{Around}
use Rattle.ug_client.specs.declared.asked.Asked.{Asked}
use Rattle.ug_client.specs.declared.fetch.Fetched.{Fetched}
use Rattle.ug_client.specs.declared.fetch.Fetched.TheVariants as fetched
use Rattle.ug_client.specs.declared.following.Told.{Told}
use Rattle.ug_client.specs.declared.following.Told.TheVariants as told

-- ---- what is printed

-- of the rules those with a label, or the refusal
abbrev pub labelled_text : List ℕ → Reply → List ℕ
labelled_text label (Lines rules) = ended_lines (labelled_rows label rules)
labelled_text label (Refused refusal) = printed (Refused refusal)

-- a tab in front of each
abbrev pub device_lines : List (List ℕ) → List ℕ
device_lines [] = []
device_lines (row ∷ rows) = 9 ∷ (row ++ (10 ∷ device_lines rows))

-- a rule, and behind it the devices that it applies to
abbrev pub rule_lines : List ℕ → List (List ℕ) → List ℕ
rule_lines row devices = row ++ (10 ∷ device_lines devices)

-- each rule is asked for the devices that earlier ones have left
abbrev pub rules_lines : Option (List ℕ) → List (List ℕ) → List (List ℕ) → List ℕ
rules_lines label [] devices = []
rules_lines label (row ∷ rules) devices =
    cond (is_shown label row) (rule_lines row (applied_rows (rule_in_row row) devices)) []
    ++ rules_lines label rules (left_rows (rule_in_row row) devices)

abbrev pub front_line : List (List ℕ) → List ℕ
front_line [] = []
front_line (line ∷ lines) = line

-- what a setting was, and what it is
abbrev pub change_line : List ℕ → List (List ℕ) → List (List ℕ) → List ℕ
change_line value was done = front_line was ++ (codes " => " ++ (value ++ 10 ∷ []))

-- the rules that come before what was ordered, and the device's row behind them
abbrev pub lines_before : Target → ℕ → List (List ℕ) → List (List ℕ) → List ℕ
lines_before target number rules devices =
    ended_lines (contrary_lines target number rules devices)

-- by the lines of both replies
abbrev pub both_text : Told → List (List ℕ) → List (List ℕ) → List ℕ
both_text (told.Devices label) = rules_lines label.now
both_text (told.Change value) = change_line value.now
both_text (told.Contrary target number) = lines_before target number

-- behind a first reply's lines, by the second reply
abbrev pub by_lines : (List (List ℕ) → List (List ℕ) → List ℕ) → List (List ℕ) → Reply → List ℕ
by_lines text first (Lines second) = text first second
by_lines text first (Refused refusal) = printed (Refused refusal)

-- ---- two requests

-- behind a reply with lines the second request is sent, of whose reply the text is written; behind
-- none or a refusal it isn't
abbrev pub AsksBehind : (List (List ℕ) → Reply → List ℕ) → List ℕ → List ℕ → Fetched
    → Around → Around → Asked → Type 0
AsksBehind text path line (fetched.Replied (Lines rows)) a b result =
    AsksShowing (text rows) path line
    a.calls b.calls a.sent b.sent a.left b.left a.held b.held result
AsksBehind text path line came a b result =
    WritesFetched printed a.held b.held came result × (b ≡ record a { held = b.held })

pub record AsksTwice (text : List (List ℕ) → Reply → List ℕ) (path first second : List ℕ)
    (a b : Around) (result : Asked) : Type 0 where
  pub came : Fetched
  pub between : Around
  pub fetches : FetchesReply path first
      a.calls between.calls a.sent between.sent a.left between.left came
  pub unwritten : between.held ≡ a.held
  pub told : AsksBehind text path second came between b result
