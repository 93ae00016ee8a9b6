-- The messages of a stream. A zero byte ends a string, and an empty string ends a message; 8,192
-- bytes without a message's end end the stream.
use Rattle.std.specs.Prelude.{◌≡◌, ◌≢◌, ℕ, ◌+◌, ◌<◌, Bool, true, false, nat_eq, nat_lt, ◌&&◌}
use Rattle.std.specs.Prelude.{if◌then◌else◌, List, [], ◌∷◌, ◌++◌, length, take, drop, flat_map}
use Rattle.ug_types.specs.Elements.{Has}
use Rattle.ug_uevent.specs.declared.scan.Beginning.{Beginning}
use Rattle.ug_uevent.specs.declared.scan.Beginning.TheVariants as beginning

-- what has come behind the last message's end: the beginning of a message, and whether a string
-- begins behind it; or what is taken no more
pub data BegunMessage : Type 0 where
  Partial : (bytes : List ℕ) (fresh : Bool) → BegunMessage
  Overlong : BegunMessage

-- a message without the zero byte that closes it, or what is too long
pub data Message : Type 0 where
  Whole : (bytes : List ℕ) → Message
  TooLong : Message

-- the messages that were not handed out yet, and what has begun
pub record Stream : Type 0 where
  pub messages : List Message
  pub begun : BegunMessage

abbrev pub nothing_begun : BegunMessage
nothing_begun = Partial [] true

abbrev pub with_byte : List ℕ → ℕ → Stream
with_byte bytes b = if nat_lt (length bytes) 8191
    then record { messages = []; begun = Partial (bytes ++ b ∷ []) (nat_eq b 0) }
    else record { messages = TooLong ∷ []; begun = Overlong }

-- one more byte
abbrev pub byte_then : BegunMessage → ℕ → Stream
byte_then (Partial bytes fresh) b = if nat_eq b 0 && fresh
    then record { messages = Whole bytes ∷ []; begun = nothing_begun }
    else with_byte bytes b
byte_then Overlong b = record { messages = []; begun = Overlong }

abbrev pub behind_messages : List Message → Stream → Stream
behind_messages messages s = record { messages = messages ++ s.messages; begun = s.begun }

-- the messages that end among the bytes, the first of which goes on from what has begun
abbrev pub stream_of : BegunMessage → List ℕ → Stream
stream_of begun [] = record { messages = []; begun = begun }
stream_of begun (b ∷ bytes) =
    behind_messages (byte_then begun b).messages (stream_of (byte_then begun b).begun bytes)

abbrev pub whole_stream : List ℕ → Stream
whole_stream bytes = stream_of nothing_begun bytes

-- the messages of a piece stand behind those before it
abbrev pub stream_with_piece : Stream → List ℕ → Stream
stream_with_piece s piece = behind_messages s.messages (stream_of s.begun piece)

-- what is kept of a stream: the bytes that were not handed out, or that it has ended
abbrev pub waiting : Bool → List ℕ → Stream
waiting true bytes = record { messages = []; begun = Overlong }
waiting false bytes = whole_stream bytes

abbrev pub FindsEnd : List ℕ → Beginning → Type 0
FindsEnd bytes (beginning.Message n) = (n < length bytes)
    × (whole_stream bytes
    ≡ behind_messages (Whole (take n bytes) ∷ []) (whole_stream (drop (n + 1) bytes)))
FindsEnd bytes beginning.TooLong =
    whole_stream bytes ≡ record { messages = TooLong ∷ []; begun = Overlong }
FindsEnd bytes beginning.Open = (whole_stream bytes).messages ≡ []

-- strings that aren't empty, and have no zero byte
abbrev pub AreTexts : List (List ℕ) → Type 0
AreTexts [] = Unit {0}
AreTexts (text ∷ texts) = (text ≢ []) × (¬ Has text 0) × AreTexts texts

abbrev pub with_zero : List ℕ → List ℕ
with_zero text = text ++ 0 ∷ []

-- strings, each with its zero byte, and the beginning of one more: no message ends here
pub record HasNoEnd (bytes last : List ℕ) : Type 0 where
  pub strings : List (List ℕ)
  pub each : AreTexts strings
  pub last_open : ¬ Has last 0
  pub is : bytes ≡ flat_map with_zero strings ++ last

-- a message is strings, each with its zero byte; with the zero byte that closes it, it is within
-- the limit
abbrev pub IsWholeMessage : Message → Type 0
IsWholeMessage (Whole bytes) = HasNoEnd bytes [] × (length bytes < 8192)
IsWholeMessage TooLong = ⊥

abbrev pub AreWholeMessages : List Message → Type 0
AreWholeMessages [] = Unit {0}
AreWholeMessages (m ∷ messages) = IsWholeMessage m × AreWholeMessages messages

-- with the zero byte that closes it
abbrev pub closed_message : Message → List ℕ
closed_message (Whole bytes) = bytes ++ 0 ∷ []
closed_message TooLong = []

-- a stream is these messages, and then the beginning of one more
pub record IsCutIntoMessages (bytes : List ℕ) (messages : List Message) (rest : List ℕ)
    : Type 0 where
  pub whole : bytes ≡ flat_map closed_message messages ++ rest
  pub each : AreWholeMessages messages
  pub last : List ℕ
  pub no_end : HasNoEnd rest last
  pub short : length rest < 8192

-- behind its messages a stream has 8,192 bytes without an end
pub record IsOverlongStream (bytes : List ℕ) (messages : List Message) : Type 0 where
  pub before : List Message
  pub front : List ℕ
  pub behind : List ℕ
  pub last : List ℕ
  pub are : messages ≡ before ++ TooLong ∷ []
  pub whole : bytes ≡ flat_map closed_message before ++ (front ++ behind)
  pub each : AreWholeMessages before
  pub no_end : HasNoEnd front last
  pub long : length front ≡ 8192
