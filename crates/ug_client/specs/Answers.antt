-- What the bytes of a link answer: notices are skipped, and behind them stands a reply.
use Rattle.std.specs.Prelude.{◌≡◌, ℕ, ◌≤◌, ◌⊎◌, List, length, drop, [], ◌∷◌, ◌++◌, codes, Option, Some, None, Result, Ok, Err}
use Rattle.ug_types.specs.Elements.{Has}
use Rattle.ug_types.specs.Refusals.{refusal_words}
use Rattle.ug_audit.specs.Lines.{entry_line}
use Rattle.ug_audit.specs.Printed.{IsEntry}
use Rattle.ug_audit.specs.declared.entry.Entry.{Entry}
use Rattle.ug_audit.specs.declared.entry.Entry.TheVariants as entry
use Rattle.ug_proto.specs.declared.reply.Reply.{Reply}
use Rattle.ug_proto.specs.declared.reply.Reply.TheVariants.{Lines, Refused}
use Rattle.ug_proto.specs.declared.reply.ReplyFault.{ReplyFault}
use Rattle.ug_proto.specs.declared.reply.ReplyFault.TheVariants.{BadReply, Memory}
use Rattle.ug_proto.specs.Replies.{ended_lines, reply_text, IsReply}

-- the entries that clients are told, where a name has at most 31 bytes
abbrev pub IsNoticed : Entry → Type 0
IsNoticed (entry.Judged number name held verdict why) = length name ≤ 31
IsNoticed (entry.Wrote number name what outcome) = length name ≤ 31
IsNoticed (entry.Gone number name) = length name ≤ 31
IsNoticed (entry.Unsettled name why) = length name ≤ 31
IsNoticed (entry.UnsettledAll why) = Unit {0}
IsNoticed (entry.Parameter set) = Unit {0}
IsNoticed other = ⊥

pub record IsNoticedLine (text : List ℕ) : Type 0 where
  pub it : Entry
  pub noticed : IsNoticed it
  pub can : IsEntry it
  pub is : text ≡ entry_line it

-- `! ` and the line of an entry that clients are told
pub record IsNotice (line : List ℕ) : Type 0 where
  pub words : List ℕ
  pub is : line ≡ codes "! " ++ words
  pub noticed : IsNoticedLine words

abbrev pub AreNotices : List (List ℕ) → Type 0
AreNotices [] = Unit {0}
AreNotices (line ∷ lines) = IsNotice line × AreNotices lines

-- the bytes are notices, that reply, and what stands behind it
pub record Replied (bytes : List ℕ) (reply : Reply) (behind : List ℕ) : Type 0 where
  pub notices : List (List ℕ)
  pub each : AreNotices notices
  pub can : IsReply reply
  pub whole : bytes ≡ ended_lines notices ++ (reply_text reply ++ behind)

-- no reply stands whole among the bytes
abbrev pub IsUnanswered : List ℕ → Type 0
IsUnanswered bytes = (reply : Reply) (behind : List ℕ) → ¬ Replied bytes reply behind

-- a reply may still come
pub record MayBeReplied (bytes : List ℕ) : Type 0 where
  pub more : List ℕ
  pub reply : Reply
  pub can : Replied (bytes ++ more) reply []

-- the bytes begin a line that begins with `! `, and don't end it
pub record IsNoticeBegun (bytes : List ℕ) : Type 0 where
  pub one_line : ¬ Has bytes 10
  pub more : List ℕ
  pub words : List ℕ
  pub marked : bytes ++ more ≡ codes "! " ++ words

-- so do the bytes behind notices
pub record EndsInNoticeBegun (bytes : List ℕ) : Type 0 where
  pub notices : List (List ℕ)
  pub each : AreNotices notices
  pub rest : List ℕ
  pub whole : bytes ≡ ended_lines notices ++ rest
  pub begun : IsNoticeBegun rest

-- no reply stands there yet, and one may still come; of a line that begins with `! ` only its end
-- tells whether it is a notice
pub record IsAwaiting (bytes : List ℕ) : Type 0 where
  pub none : IsUnanswered bytes
  pub opened : MayBeReplied bytes ⊎ EndsInNoticeBegun bytes

-- however the bytes go on, no reply stands there
abbrev pub IsNoAnswer : List ℕ → Type 0
IsNoAnswer bytes = (more : List ℕ) → IsUnanswered (bytes ++ more)

-- what the bytes come to so far; only want of memory may be told of any
abbrev pub AnswersReply : List ℕ → Result (Option (Reply × ℕ)) ReplyFault → Type 0
AnswersReply bytes (Ok (Some answer)) =
    (answer.1 ≤ length bytes) × Replied bytes answer.0 (drop answer.1 bytes)
AnswersReply bytes (Ok None) = IsAwaiting bytes
AnswersReply bytes (Err BadReply) = IsNoAnswer bytes
AnswersReply bytes (Err Memory) = Unit {0}

-- what is printed of a reply
abbrev pub printed : Reply → List ℕ
printed (Lines lines) = ended_lines lines
printed (Refused refusal) = refusal_words refusal ++ 10 ∷ []
