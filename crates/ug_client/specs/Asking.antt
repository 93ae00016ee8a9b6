-- What a request and its reply leave on a link and on the output.
use Rattle.std.specs.Prelude.{◌≡◌, ℕ, List, [], ◌∷◌, ◌++◌, Option}
use Rattle.std.specs.Io.KnownBytes.{Appends, Consumes, Keeps}
use Rattle.ug_proto.specs.declared.request.Request.{Request}
use Rattle.ug_proto.specs.Texts.{request_text}
use Rattle.ug_proto.specs.declared.reply.Reply.{Reply}
use Rattle.ug_proto.specs.declared.reply.Reply.TheVariants.{Lines, Refused}
use Rattle.ug_client.specs.Answers.{Replied, printed}
use Rattle.ug_links.specs.declared.link_call.LinkCall.{LinkCall}
use Rattle.ug_client.specs.Awaiting.{TakesNoMore, GivesNoReply}
use Rattle.ug_client.specs.Calls.{CallsInVain, CallsToAsk, TellsCalls, calls_to_ask}
use Rattle.ug_client.specs.declared.send.Sent.{Sent}
use Rattle.ug_client.specs.declared.send.Sent.TheVariants as sent
use Rattle.ug_client.specs.declared.asked.Asked.{Asked}
use Rattle.ug_client.specs.declared.asked.Asked.TheVariants as asked

abbrev pub request_line : Request → List ℕ
request_line request = request_text request ++ 10 ∷ []

-- a front of the bytes was appended
pub record AppendsPart (before after : Option (List ℕ)) (bytes : List ℕ) : Type 0 where
  pub front : List ℕ
  pub rest : List ℕ
  pub whole : bytes ≡ front ++ rest
  pub appended : Appends before after front

abbrev pub SendsLine : Option (List ℕ) → Option (List ℕ) → List ℕ → Sent → Type 0
SendsLine before after line sent.Done = Appends before after line
SendsLine before after line sent.Failed = AppendsPart before after line
SendsLine before after line sent.Memory = Keeps before after

-- the calls of the sending, by how it ended
abbrev pub SendsCalls : List ℕ → List ℕ → Option (List LinkCall) → Option (List LinkCall) → Sent
    → Type 0
SendsCalls path line before after sent.Done = TellsCalls before (calls_to_ask path line []) after
SendsCalls path line before after sent.Failed = CallsInVain path line before after asked.LinkFailed
SendsCalls path line before after sent.Memory = CallsInVain path line before after asked.Memory

-- how a call ends whose reply was read and printed
abbrev pub end_by_reply : Reply → Asked
end_by_reply (Lines lines) = asked.Done
end_by_reply (Refused refusal) = asked.Refused

-- what was written of a reply
abbrev pub Writes : Option (List ℕ) → Option (List ℕ) → Reply → Asked → Type 0
Writes before after reply asked.Done =
    (end_by_reply reply ≡ asked.Done) × Appends before after (printed reply)
Writes before after reply asked.Refused =
    (end_by_reply reply ≡ asked.Refused) × Appends before after (printed reply)
Writes before after reply asked.NoReply = ⊥
Writes before after reply asked.LinkFailed = ⊥
Writes before after reply asked.WriteFault = AppendsPart before after (printed reply)
Writes before after reply asked.Memory = Keeps before after

-- the bytes that were taken hold this reply, and so much of it was written
pub record Printed (taken : List ℕ) (before after : Option (List ℕ)) (result : Asked) : Type 0 where
  pub reply : Reply
  pub behind : List ℕ
  pub replied : Replied taken reply behind
  pub written : Writes before after reply result

-- what was sent, by how the call ended
abbrev pub SentBy : Option (List ℕ) → Option (List ℕ) → List ℕ → Asked → Type 0
SentBy before after line asked.Done = Appends before after line
SentBy before after line asked.Refused = Appends before after line
SentBy before after line asked.NoReply = Appends before after line
SentBy before after line asked.LinkFailed = AppendsPart before after line
SentBy before after line asked.WriteFault = Appends before after line
SentBy before after line asked.Memory = AppendsPart before after line

-- what was read and written, by how the call ended
abbrev pub ToldBy : List ℕ → Option (List ℕ) → Option (List ℕ) → Option (List ℕ) → Asked → Type 0
ToldBy taken left before after asked.Done = Printed taken before after asked.Done
ToldBy taken left before after asked.Refused = Printed taken before after asked.Refused
ToldBy taken left before after asked.NoReply = GivesNoReply taken left × Keeps before after
ToldBy taken left before after asked.LinkFailed = Keeps before after
ToldBy taken left before after asked.WriteFault = Printed taken before after asked.WriteFault
ToldBy taken left before after asked.Memory = Keeps before after

-- the whole call, of a request's line at the socket of that path
pub record AsksDaemon (path line : List ℕ) (calls0 calls : Option (List LinkCall))
    (sent0 sent left0 left held0 held : Option (List ℕ)) (result : Asked) : Type 0 where
  pub taken : List ℕ
  pub made : CallsToAsk path line calls0 calls taken result
  pub source : Consumes left0 left taken
  pub enough : TakesNoMore taken
  pub requested : SentBy sent0 sent line result
  pub told : ToldBy taken left held0 held result
