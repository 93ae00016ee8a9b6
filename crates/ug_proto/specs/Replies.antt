-- Replies as they are written.
use Rattle.std.specs.Prelude.{ℕ, ◌<◌, ◌^◌, List, [], ◌∷◌, ◌++◌, length, codes, decimal}
use Rattle.ug_types.specs.Elements.{Has}
use Rattle.ug_types.specs.Refusals.{refusal_words, IsRefusal}
use Rattle.ug_proto.specs.declared.reply.Reply.{Reply}
use Rattle.ug_proto.specs.declared.reply.Reply.TheVariants.{Lines, Refused}

-- a newline ends each line
abbrev pub ended_lines : List (List ℕ) → List ℕ
ended_lines [] = []
ended_lines (line ∷ lines) = line ++ (10 ∷ ended_lines lines)

unfoldable pub reply_text : Reply → List ℕ
reply_text (Lines lines) = codes "ok " ++ (decimal (length lines) ++ (10 ∷ ended_lines lines))
reply_text (Refused refusal) = refusal_words refusal ++ 10 ∷ []

-- each is a line: it has no newline
abbrev pub AreWholeLines : List (List ℕ) → Type 0
AreWholeLines [] = Unit {0}
AreWholeLines (line ∷ lines) = (¬ Has line 10) × AreWholeLines lines

-- the values that a reply can have
abbrev pub IsReply : Reply → Type 0
IsReply (Lines lines) = AreWholeLines lines × (length lines < 2 ^ 64)
IsReply (Refused refusal) = IsRefusal refusal
