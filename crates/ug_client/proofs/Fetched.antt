-- How a fetching ends, and what is written of what was fetched.
use Rattle.std.proofs.Common.{ℕ, inr, List, [], drop, Option, None}
use Rattle.std.proofs.KnownBytes.{Appends-kept, Keeps-refl}
use Rattle.std.specs.Io.KnownBytes.{Appends, Keeps}
use Rattle.ug_proto.specs.declared.reply.Reply.{Reply}
use Rattle.ug_links.specs.declared.link_call.LinkCall.{LinkCall}
use Rattle.ug_client.specs.Asking.{AsksDaemon}
use Rattle.ug_client.specs.Awaiting.{Awaits}
use Rattle.ug_client.specs.Calls.{TellsCalls, calls_to_ask}
use Rattle.ug_client.specs.Fetching.{FetchesReply}
use Rattle.ug_client.specs.declared.receive.Awaited.{Awaited}
use Rattle.ug_client.specs.declared.receive.Awaited.TheVariants as awaited
use Rattle.ug_client.specs.declared.asked.Asked.TheVariants as asked
use Rattle.ug_client.specs.declared.fetch.Fetched.TheVariants as fetched
use Rattle.ug_client.proofs.Calls.{asks_behind}
use Rattle.ug_client.proofs.Ending.{asks_failed, asks_memory, asks_none, kept_consumes}

-- a fetching without a reply ends as a request does
module _ (path line : List ℕ) (calls0 calls : Option (List LinkCall)) (sent0 sent left0 left held : Option (List ℕ)) where
  pub fetch_failed : AsksDaemon path line calls0 calls sent0 sent left0 left held held asked.LinkFailed → FetchesReply path line calls0 calls sent0 sent left0 left fetched.LinkFailed
  fetch_failed a = record { taken = a.taken; made = a.made; source = a.source; enough = a.enough; requested = a.requested; holds = tt }

  pub fetch_short : AsksDaemon path line calls0 calls sent0 sent left0 left held held asked.Memory → FetchesReply path line calls0 calls sent0 sent left0 left fetched.Memory
  fetch_short a = record { taken = a.taken; made = a.made; source = a.source; enough = a.enough; requested = a.requested; holds = tt }

  pub fetch_none : AsksDaemon path line calls0 calls sent0 sent left0 left held held asked.NoReply → FetchesReply path line calls0 calls sent0 sent left0 left fetched.NoReply
  fetch_none a = record { taken = a.taken; made = a.made; source = a.source; enough = a.enough; requested = a.requested; holds = a.told.0 }

module _ (path line : List ℕ) (calls0 calls1 calls : Option (List LinkCall)) (dialled : TellsCalls calls0 (calls_to_ask path line []) calls1) (sent0 sent1 sent left0 left1 left : Option (List ℕ)) (request : Appends sent0 sent1 line) (kept : Keeps sent1 sent) (before : Keeps left0 left1) where
  pub fetches_replied : (bytes : List ℕ) (reply : Reply) (place : ℕ) → Awaits calls1 calls left1 left bytes (awaited.Replied reply place) → FetchesReply path line calls0 calls sent0 sent left0 left (fetched.Replied reply)
  fetches_replied bytes reply place a = record {
    taken = a.taken;
    made = inr (asks_behind path line calls0 calls1 calls a.taken dialled a.receives);
    source = kept_consumes left0 left1 left a.taken before a.source;
    enough = a.enough;
    requested = Appends-kept sent0 sent1 sent line request kept;
    holds = (drop place a.taken, a.told.2);
  }

  pub fetches_failed : (bytes : List ℕ) (result : Awaited) → Awaits calls1 calls left1 left bytes result → FetchesReply path line calls0 calls sent0 sent left0 left fetched.LinkFailed
  fetches_failed bytes result a = fetch_failed path line calls0 calls sent0 sent left0 left None (asks_failed path line calls0 calls1 calls dialled sent0 sent1 sent left0 left1 left request kept before None None bytes result a (Keeps-refl None))

  pub fetches_short : (bytes : List ℕ) (result : Awaited) → Awaits calls1 calls left1 left bytes result → FetchesReply path line calls0 calls sent0 sent left0 left fetched.Memory
  fetches_short bytes result a = fetch_short path line calls0 calls sent0 sent left0 left None (asks_memory path line calls0 calls1 calls dialled sent0 sent1 sent left0 left1 left request kept before None None bytes result a (Keeps-refl None))

  pub fetches_none : (bytes : List ℕ) → Awaits calls1 calls left1 left bytes awaited.NoReply → FetchesReply path line calls0 calls sent0 sent left0 left fetched.NoReply
  fetches_none bytes a = fetch_none path line calls0 calls sent0 sent left0 left None (asks_none path line calls0 calls1 calls dialled sent0 sent1 sent left0 left1 left request kept before None None bytes a (Keeps-refl None))
