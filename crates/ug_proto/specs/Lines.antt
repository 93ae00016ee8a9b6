-- The lines of a stream. A newline, 10, ends a line and isn't part of it; 65,536
-- bytes without one end the stream.
use Rattle.std.specs.Prelude.{◌≡◌, ℕ, ◌<◌, List, [], ◌∷◌, ◌++◌, nat_eq, nat_lt, if◌then◌else◌, length, flat_map}
use Rattle.ug_types.specs.Elements.{Has}

-- what has come behind the last newline: the beginning of a line, or what is taken no more
pub data Begun : Type 0 where
  Partial : (bytes : List ℕ) → Begun
  Overlong : Begun
  Out_of_memory : Begun

-- the whole lines that were not handed out yet, and what has begun
pub record Frames : Type 0 where
  pub lines : List (List ℕ)
  pub begun : Begun

-- a line that begins with these bytes goes on by one that is no newline
abbrev pub longer : List ℕ → ℕ → Begun
longer line b = if nat_lt (length line) 65535 then Partial (line ++ b ∷ []) else Overlong

-- what has begun after one more byte
abbrev pub begun_then : Begun → ℕ → Begun
begun_then (Partial line) b = if nat_eq b 10 then Partial [] else longer line b
begun_then Overlong b = Overlong
begun_then Out_of_memory b = Out_of_memory

-- the line that a byte ends, if it ends one
abbrev pub line_then : Begun → ℕ → List (List ℕ)
line_then (Partial line) b = if nat_eq b 10 then line ∷ [] else []
line_then Overlong b = []
line_then Out_of_memory b = []

abbrev pub begun_after : Begun → List ℕ → Begun
begun_after begun [] = begun
begun_after begun (b ∷ bytes) = begun_after (begun_then begun b) bytes

-- the lines that are ended among the bytes, the first of which goes on from what has begun
abbrev pub lines_ended_in : Begun → List ℕ → List (List ℕ)
lines_ended_in begun [] = []
lines_ended_in begun (b ∷ bytes) = line_then begun b ++ lines_ended_in (begun_then begun b) bytes

-- the lines of a stream
abbrev pub stream_lines : List ℕ → List (List ℕ)
stream_lines bytes = lines_ended_in (Partial []) bytes

-- the beginning of a line within its limit
pub record IsBeginning (bytes : List ℕ) : Type 0 where
  pub one_line : ¬ Has bytes 10
  pub short : length bytes < 65536

abbrev pub AreShortLines : List (List ℕ) → Type 0
AreShortLines [] = Unit {0}
AreShortLines (line ∷ lines) = IsBeginning line × AreShortLines lines

abbrev pub with_newline : List ℕ → List ℕ
with_newline line = line ++ 10 ∷ []

-- the stream is these lines, each with its newline, and then the beginning of a line
pub record IsCutInto (bytes : List ℕ) (lines : List (List ℕ)) (rest : List ℕ) : Type 0 where
  pub whole : bytes ≡ flat_map with_newline lines ++ rest
  pub each : AreShortLines lines
  pub partial : IsBeginning rest

-- behind these lines the stream has 65,536 bytes without a newline
pub record IsOverlong (bytes : List ℕ) (lines : List (List ℕ)) : Type 0 where
  pub front : List ℕ
  pub behind : List ℕ
  pub whole : bytes ≡ flat_map with_newline lines ++ (front ++ behind)
  pub each : AreShortLines lines
  pub one_line : ¬ Has front 10
  pub long : length front ≡ 65536
