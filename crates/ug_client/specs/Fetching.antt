-- A reply that is fetched, and what is then written of it.
use Rattle.std.specs.Prelude.{◌≡◌, ℕ, List, Option}
use Rattle.std.specs.Io.KnownBytes.{Appends, Consumes, Keeps}
use Rattle.ug_links.specs.declared.link_call.LinkCall.{LinkCall}
use Rattle.ug_proto.specs.declared.reply.Reply.{Reply}
use Rattle.ug_client.specs.Answers.{Replied}
use Rattle.ug_client.specs.Asking.{AppendsPart, SentBy, end_by_reply}
use Rattle.ug_client.specs.Awaiting.{GivesNoReply, TakesNoMore}
use Rattle.ug_client.specs.Calls.{CallsToAsk}
use Rattle.ug_client.specs.declared.asked.Asked.{Asked}
use Rattle.ug_client.specs.declared.asked.Asked.TheVariants as asked
use Rattle.ug_client.specs.declared.fetch.Fetched.{Fetched}
use Rattle.ug_client.specs.declared.fetch.Fetched.TheVariants as fetched

-- how a call ends that only fetches
abbrev pub end_of_fetch : Fetched → Asked
end_of_fetch (fetched.Replied reply) = asked.Done
end_of_fetch fetched.NoReply = asked.NoReply
end_of_fetch fetched.LinkFailed = asked.LinkFailed
end_of_fetch fetched.Memory = asked.Memory

-- what the bytes that were taken came to
abbrev pub HoldsFetched : List ℕ → Option (List ℕ) → Fetched → Type 0
HoldsFetched taken left (fetched.Replied reply) = (behind : List ℕ) × Replied taken reply behind
HoldsFetched taken left fetched.NoReply = GivesNoReply taken left
HoldsFetched taken left fetched.LinkFailed = Unit {0}
HoldsFetched taken left fetched.Memory = Unit {0}

-- a request's line at the socket of that path, and what came of it
pub record FetchesReply (path line : List ℕ) (calls0 calls : Option (List LinkCall))
    (sent0 sent left0 left : Option (List ℕ)) (came : Fetched) : Type 0 where
  pub taken : List ℕ
  pub made : CallsToAsk path line calls0 calls taken (end_of_fetch came)
  pub source : Consumes left0 left taken
  pub enough : TakesNoMore taken
  pub requested : SentBy sent0 sent line (end_of_fetch came)
  pub holds : HoldsFetched taken left came

-- what was written where that text is to be written of a reply, by how the call ended
abbrev pub WritesText : Option (List ℕ) → Option (List ℕ) → Reply → List ℕ → Asked → Type 0
WritesText before after reply text asked.Done =
    (end_by_reply reply ≡ asked.Done) × Appends before after text
WritesText before after reply text asked.Refused =
    (end_by_reply reply ≡ asked.Refused) × Appends before after text
WritesText before after reply text asked.NoReply = ⊥
WritesText before after reply text asked.LinkFailed = ⊥
WritesText before after reply text asked.WriteFault = AppendsPart before after text
WritesText before after reply text asked.Memory = Keeps before after

-- the same of what was fetched: nothing is written where there is no reply
abbrev pub WritesFetched : (Reply → List ℕ) → Option (List ℕ) → Option (List ℕ) → Fetched → Asked
    → Type 0
WritesFetched text before after (fetched.Replied reply) result =
    WritesText before after reply (text reply) result
WritesFetched text before after fetched.NoReply result =
    (result ≡ asked.NoReply) × Keeps before after
WritesFetched text before after fetched.LinkFailed result =
    (result ≡ asked.LinkFailed) × Keeps before after
WritesFetched text before after fetched.Memory result =
    (result ≡ asked.Memory) × Keeps before after

-- a whole call of a request, of whose reply that text is written
pub record AsksShowing (text : Reply → List ℕ) (path line : List ℕ)
    (calls0 calls : Option (List LinkCall)) (sent0 sent left0 left held0 held : Option (List ℕ))
    (result : Asked) : Type 0 where
  pub came : Fetched
  pub fetches : FetchesReply path line calls0 calls sent0 sent left0 left came
  pub written : WritesFetched text held0 held came result
