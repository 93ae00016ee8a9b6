-- Orders on the devices that a query matches, one after another.
use Rattle.std.specs.Prelude.{◌≡◌, ◌⊎◌, ℕ, ◌||◌, Bool, false, if◌then◌else◌, List, [], ◌∷◌, ◌++◌, codes, decimal, Option, Some, None}
use Rattle.ug_links.specs.declared.link_call.LinkCall.{LinkCall}
use Rattle.ug_proto.specs.declared.reply.Reply.{Reply}
use Rattle.ug_proto.specs.declared.reply.Reply.TheVariants.{Lines, Refused}
use Rattle.ug_proto.specs.declared.request.Request.TheVariants as request
use Rattle.ug_types.specs.declared.rule.Query.{Query}
use Rattle.ug_rows.specs.Rows.{matching_numbers}
use Rattle.ug_client.specs.Answers.{printed}
use Rattle.ug_client.specs.Asking.{request_line}
use Rattle.ug_client.specs.Fetching.{AsksShowing, FetchesReply, WritesFetched}
use Rattle.ug_client.specs.declared.asked.Asked.{Asked}
use Rattle.ug_client.specs.declared.asked.Asked.TheVariants as asked
use Rattle.ug_client.specs.declared.fetch.Fetched.{Fetched}
use Rattle.ug_client.specs.declared.fetch.Fetched.TheVariants as fetched
use Rattle.ug_client.specs.declared.orders.Wanted.{Wanted}

-- ---- one order

-- a space in front of each
abbrev pub spaced_lines : List (List ℕ) → List ℕ
spaced_lines [] = []
spaced_lines (line ∷ lines) = 32 ∷ (line ++ spaced_lines lines)

abbrev pub outcome_words : Reply → List ℕ
outcome_words (Lines lines) = codes "ok" ++ (spaced_lines lines ++ 10 ∷ [])
outcome_words (Refused refusal) = printed (Refused refusal)

-- a device's number, and what came of the order on it
abbrev pub outcome_line : ℕ → Reply → List ℕ
outcome_line number reply = decimal number ++ (codes ": " ++ outcome_words reply)

-- what a client's link and output hold at one time
pub record Around : Type 0 where
  pub calls : Option (List LinkCall)
  pub sent : Option (List ℕ)
  pub left : Option (List ℕ)
  pub held : Option (List ℕ)

abbrev pub GivesOrder : List ℕ → Wanted → ℕ → Around → Around → Asked → Type 0
GivesOrder path wanted number a b result =
    AsksShowing (outcome_line number) path
    (request_line (request.Device number wanted.target wanted.permanent))
    a.calls b.calls a.sent b.sent a.left b.left a.held b.held result

-- ---- orders in a row

abbrev pub end_by_refusal : Bool → Asked
end_by_refusal refused = if refused then asked.Refused else asked.Done

-- each was answered, in order; whether one of them was refused
abbrev pub GaveOrders : List ℕ → Wanted → List ℕ → Around → Bool → Around → Type 0
GaveOrders path wanted [] a refused b = (b ≡ a) × (refused ≡ false)
GaveOrders path wanted (number ∷ numbers) a refused b =
    (between : Around) × (first later : Bool)
    × GivesOrder path wanted number a between (end_by_refusal first)
    × GaveOrders path wanted numbers between later b
    × (refused ≡ first || later)

-- those up to one that wasn't answered, or whose line wasn't written; none behind it was given
pub record StopsAtOrder (path : List ℕ) (wanted : Wanted) (numbers : List ℕ) (a b : Around)
    (result : Asked) : Type 0 where
  pub answered : List ℕ
  pub number : ℕ
  pub others : List ℕ
  pub split : numbers ≡ answered ++ number ∷ others
  pub between : Around
  pub refused : Bool
  pub gave : GaveOrders path wanted answered a refused between
  pub stops : GivesOrder path wanted number between b result
  pub undone : ¬ (result ≡ asked.Done)
  pub unrefused : ¬ (result ≡ asked.Refused)

-- one order on each number, in order
abbrev pub GivesOrders : List ℕ → Wanted → List ℕ → Around → Around → Asked → Type 0
GivesOrders path wanted numbers a b result =
    ((refused : Bool) × GaveOrders path wanted numbers a refused b
    × (result ≡ end_by_refusal refused))
    ⊎ StopsAtOrder path wanted numbers a b result

-- none where there is no number, and else one on each, unless memory was short for the numbers
abbrev pub OrdersEach : List ℕ → Wanted → List ℕ → Around → Around → Option Asked → Type 0
OrdersEach path wanted numbers a b None = (numbers ≡ []) × (b ≡ a)
OrdersEach path wanted numbers a b (Some result) =
    ((¬ (numbers ≡ [])) × GivesOrders path wanted numbers a b result)
    ⊎ ((result ≡ asked.Memory) × (b ≡ a))

-- what follows the list that was fetched
abbrev pub OrdersBehind : List ℕ → Query → Wanted → Fetched → Around → Around → Option Asked
    → Type 0
OrdersBehind path query wanted (fetched.Replied (Lines rows)) a b result =
    OrdersEach path wanted (matching_numbers query rows) a b result
OrdersBehind path query wanted came a b result =
    (ended : Asked) × (result ≡ Some ended) × WritesFetched printed a.held b.held came ended
    × (b ≡ record a { held = b.held })

-- the list is asked for once, and each device that the query matches gets one order, in the list's
-- order; there is no result where none matches
pub record OrdersMatching (path : List ℕ) (query : Query) (wanted : Wanted) (a b : Around)
    (result : Option Asked) : Type 0 where
  pub came : Fetched
  pub between : Around
  pub fetches : FetchesReply path (request_line request.ListDevices)
      a.calls between.calls a.sent between.sent a.left between.left came
  pub unwritten : between.held ≡ a.held
  pub told : OrdersBehind path query wanted came between b result
