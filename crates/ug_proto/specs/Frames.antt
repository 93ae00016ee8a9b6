-- What a framer's calls leave.
use Rattle.std.specs.Prelude.{◌≡◌, ℕ, List, [], ◌∷◌, ◌++◌, Option, Some, None, Result, Ok, Err}
use Rattle.ug_proto.specs.Lines.{Begun, Partial, Overlong, Out_of_memory, Frames, lines_ended_in, begun_after}
use Rattle.ug_proto.specs.declared.framer.FrameFault.{FrameFault}
use Rattle.ug_proto.specs.declared.framer.FrameFault.TheVariants as fault

-- a line has begun, or memory ran out before
abbrev pub IsGoing : Begun → Type 0
IsGoing (Partial line) = Unit {0}
IsGoing Overlong = ⊥
IsGoing Out_of_memory = ⊥

abbrev pub CanRunOut : Begun → Type 0
CanRunOut (Partial line) = Unit {0}
CanRunOut Overlong = ⊥
CanRunOut Out_of_memory = Unit {0}

-- the lines of a piece stand behind those before it
abbrev pub with_piece : Frames → List ℕ → Frames
with_piece old piece =
    record {
      lines = old.lines ++ lines_ended_in old.begun piece;
      begun = begun_after old.begun piece;
    }

-- a front of a piece was taken, and then memory ran out
pub record FeedsPart (old : Frames) (piece : List ℕ) (new : Frames) : Type 0 where
  pub front : List ℕ
  pub rest : List ℕ
  pub whole : piece ≡ front ++ rest
  pub lines : new.lines ≡ old.lines ++ lines_ended_in old.begun front
  pub can : CanRunOut (begun_after old.begun front)
  pub begun : new.begun ≡ Out_of_memory

abbrev pub FeedsPiece : Frames → List ℕ → Result (Unit {0}) FrameFault → Frames → Type 0
FeedsPiece old piece (Ok done) new = (new ≡ with_piece old piece) × IsGoing new.begun
FeedsPiece old piece (Err fault.TooLong) new = (new ≡ with_piece old piece) × (new.begun ≡ Overlong)
FeedsPiece old piece (Err fault.Memory) new = FeedsPart old piece new

-- the first of the lines is handed out, and there is none exactly where none is left
abbrev pub HandsOut : Frames → Option (List ℕ) → Frames → Type 0
HandsOut old (Some line) new = (old.lines ≡ line ∷ new.lines) × (new.begun ≡ old.begun)
HandsOut old None new = (old.lines ≡ []) × (new ≡ old)
