-- What bytes are read as, of which a reply may not be whole yet.
use Rattle.std.specs.Prelude.{◌≡◌, ℕ, ◌≤◌, List, length, take, Option, Some, None, Result, Ok, Err}
use Rattle.ug_proto.specs.declared.reply.Reply.{Reply}
use Rattle.ug_proto.specs.declared.reply.ReplyFault.{ReplyFault}
use Rattle.ug_proto.specs.declared.reply.ReplyFault.TheVariants.{BadReply, Memory}
use Rattle.ug_proto.specs.Replies.{reply_text, IsReply}
use Rattle.ug_proto.specs.Scanning.{IsTextBegun}

-- the first n bytes are the text of that reply
abbrev pub BeginsWithReply : List ℕ → Reply → ℕ → Type 0
BeginsWithReply bytes reply n =
    IsReply reply × (n ≤ length bytes) × (take n bytes ≡ reply_text reply)

-- the bytes are a proper prefix of a reply's text
abbrev pub IsReplyBegun : List ℕ → Type 0
IsReplyBegun bytes = IsTextBegun reply_text IsReply bytes

-- neither
abbrev pub IsNoReply : List ℕ → Type 0
IsNoReply bytes =
    (¬ IsReplyBegun bytes) × ((reply : Reply) (n : ℕ) → ¬ BeginsWithReply bytes reply n)

-- only want of memory may be told of any bytes
abbrev pub ReadsReply : List ℕ → Result (Option (Reply × ℕ)) ReplyFault → Type 0
ReadsReply bytes (Ok (Some read)) = BeginsWithReply bytes read.0 read.1
ReadsReply bytes (Ok None) = IsReplyBegun bytes
ReadsReply bytes (Err BadReply) = IsNoReply bytes
ReadsReply bytes (Err Memory) = Unit {0}
