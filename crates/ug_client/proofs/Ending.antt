-- How a request ends.
use Rattle.std.proofs.Common.{arith, ℕ, inl, inr, List, [], drop, Option, Some, None, refl, sym, ◌∙◌}
use Rattle.std.proofs.lemmas.List.{append-nil}
use Rattle.std.proofs.KnownBytes.{Appends-kept, Appends-nil, Consumes-nil, Keeps-refl}
use Rattle.std.specs.Io.KnownBytes.{Appends, Consumes, Keeps}
use Rattle.ug_proto.specs.declared.reply.Reply.{Reply}
use Rattle.ug_links.specs.declared.link_call.LinkCall.{LinkCall}
use Rattle.ug_client.specs.Answers.{IsAwaiting}
use Rattle.ug_client.specs.Calls.{CallsInVain, TellsCalls, calls_to_ask}
use Rattle.ug_client.proofs.Calls.{asks_behind}
use Rattle.ug_client.specs.Awaiting.{Awaits, TakesNoMore}
use Rattle.ug_client.specs.Asking.{AppendsPart, Writes, SentBy, ToldBy, AsksDaemon}
use Rattle.ug_client.specs.declared.receive.Awaited.{Awaited}
use Rattle.ug_client.specs.declared.receive.Awaited.TheVariants as awaited
use Rattle.ug_client.specs.declared.asked.Asked.{Asked}
use Rattle.ug_client.specs.declared.asked.Asked.TheVariants as asked
use Rattle.ug_client.proofs.Front.{mark_begun}
use Rattle.ug_client.proofs.Skipping.{begun_awaits}

pub empty_awaits : IsAwaiting []
empty_awaits = begun_awaits [] (mark_begun [] refl refl (λ k. k))

pub kept_consumes : (a b c : Option (List ℕ)) (bytes : List ℕ) → Keeps a b → Consumes b c bytes → Consumes a c bytes
kept_consumes None b c bytes h k = tt
kept_consumes (Some x) None c bytes h k = absurd h
kept_consumes (Some x) (Some y) None bytes h k = absurd k
kept_consumes (Some x) (Some y) (Some z) bytes h k = sym h ∙ k

-- a front of the bytes, where it may be all of them
pub whole_part : (a b : Option (List ℕ)) (bytes : List ℕ) → Appends a b bytes → AppendsPart a b bytes
whole_part a b bytes h = record { front = bytes; rest = []; whole = sym (append-nil bytes); appended = h }

module _ (path line : List ℕ) (calls0 calls1 calls : Option (List LinkCall)) (dialled : TellsCalls calls0 (calls_to_ask path line []) calls1) (sent0 sent1 sent left0 left1 left : Option (List ℕ)) (request : Appends sent0 sent1 line) (kept : Keeps sent1 sent) (before : Keeps left0 left1) where
  line_sent : Appends sent0 sent line
  line_sent = Appends-kept sent0 sent1 sent line request kept

  pub asks_replied : (held0 held : Option (List ℕ)) (bytes : List ℕ) (reply : Reply) (place : ℕ) (result : Asked) → Awaits calls1 calls left1 left bytes (awaited.Replied reply place) → Writes held0 held reply result → AsksDaemon path line calls0 calls sent0 sent left0 left held0 held result
  asks_replied held0 held bytes reply place result a w = record { taken = a.taken; made = inr (asks_behind path line calls0 calls1 calls a.taken dialled a.receives); source = kept_consumes left0 left1 left a.taken before a.source; enough = a.enough; requested = requested result w; told = told result w }
    where
      requested : (result : Asked) → Writes held0 held reply result → SentBy sent0 sent line result
      requested asked.Done w = line_sent
      requested asked.Refused w = line_sent
      requested asked.NoReply w = line_sent
      requested asked.LinkFailed w = absurd w
      requested asked.WriteFault w = line_sent
      requested asked.Memory w = whole_part sent0 sent line line_sent

      told : (result : Asked) → Writes held0 held reply result → ToldBy a.taken left held0 held result
      told asked.Done w = record { reply = reply; behind = drop place a.taken; replied = a.told.2; written = w }
      told asked.Refused w = record { reply = reply; behind = drop place a.taken; replied = a.told.2; written = w }
      told asked.NoReply w = absurd w
      told asked.LinkFailed w = absurd w
      told asked.WriteFault w = record { reply = reply; behind = drop place a.taken; replied = a.told.2; written = w }
      told asked.Memory w = w

  pub asks_failed : (held0 held : Option (List ℕ)) (bytes : List ℕ) (result : Awaited) → Awaits calls1 calls left1 left bytes result → Keeps held0 held → AsksDaemon path line calls0 calls sent0 sent left0 left held0 held asked.LinkFailed
  asks_failed held0 held bytes result a w = record { taken = a.taken; made = inr (asks_behind path line calls0 calls1 calls a.taken dialled a.receives); source = kept_consumes left0 left1 left a.taken before a.source; enough = a.enough; requested = whole_part sent0 sent line line_sent; told = w }

  pub asks_memory : (held0 held : Option (List ℕ)) (bytes : List ℕ) (result : Awaited) → Awaits calls1 calls left1 left bytes result → Keeps held0 held → AsksDaemon path line calls0 calls sent0 sent left0 left held0 held asked.Memory
  asks_memory held0 held bytes result a w = record { taken = a.taken; made = inr (asks_behind path line calls0 calls1 calls a.taken dialled a.receives); source = kept_consumes left0 left1 left a.taken before a.source; enough = a.enough; requested = whole_part sent0 sent line line_sent; told = w }

  pub asks_none : (held0 held : Option (List ℕ)) (bytes : List ℕ) → Awaits calls1 calls left1 left bytes awaited.NoReply → Keeps held0 held → AsksDaemon path line calls0 calls sent0 sent left0 left held0 held asked.NoReply
  asks_none held0 held bytes a w = record { taken = a.taken; made = inr (asks_behind path line calls0 calls1 calls a.taken dialled a.receives); source = kept_consumes left0 left1 left a.taken before a.source; enough = a.enough; requested = line_sent; told = (a.told, w) }

-- before anything was taken
nothing_taken : TakesNoMore []
nothing_taken = record { short = omega arith; earlier = []; last = []; whole = refl; piece = omega arith; awaiting = empty_awaits }

nothing_consumed : (a b : Option (List ℕ)) → Keeps a b → Consumes a b []
nothing_consumed a b h = kept_consumes a b b [] h (Consumes-nil b)

pub unsent_failed : (path line : List ℕ) (calls0 calls : Option (List LinkCall)) (sent0 sent left0 left held : Option (List ℕ)) → CallsInVain path line calls0 calls asked.LinkFailed → AppendsPart sent0 sent line → Keeps left0 left → AsksDaemon path line calls0 calls sent0 sent left0 left held held asked.LinkFailed
unsent_failed path line calls0 calls sent0 sent left0 left held m s l = record { taken = []; made = inl (refl, m); source = nothing_consumed left0 left l; enough = nothing_taken; requested = s; told = Keeps-refl held }

pub unsent_memory : (path line : List ℕ) (calls0 calls : Option (List LinkCall)) (sent0 sent left0 left held : Option (List ℕ)) → CallsInVain path line calls0 calls asked.Memory → Keeps sent0 sent → Keeps left0 left → AsksDaemon path line calls0 calls sent0 sent left0 left held held asked.Memory
unsent_memory path line calls0 calls sent0 sent left0 left held m s l = record {
  taken = [];
  made = inl (refl, m);
  source = nothing_consumed left0 left l;
  enough = nothing_taken;
  requested = record { front = []; rest = line; whole = refl; appended = Appends-kept sent0 sent0 sent [] (Appends-nil sent0) s };
  told = Keeps-refl held;
}
