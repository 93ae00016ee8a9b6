-- How a request for notices ends.
use Rattle.std.proofs.Common.{refl, sym, inl, inr, ◌≡◌, ℕ, ◌≤◌, List, [], ◌∷◌, ◌++◌, map, drop, Option, ap, subst, ◌∙◌, append_assoc, arith}
use Rattle.std.proofs.KnownBytes.{Appends-kept, Consumes-trans, Keeps-trans}
use Rattle.std.specs.Io.KnownBytes.{Appends, Keeps}
use Rattle.ug_types.specs.Ends.{Rose}
use Rattle.ug_proto.specs.declared.reply.Reply.{Reply}
use Rattle.ug_proto.specs.Replies.{ended_lines, reply_text}
use Rattle.ug_links.specs.declared.link.Dialled.TheVariants.{Ready}
use Rattle.ug_types.specs.declared.sink.Put.TheVariants.{Done}
use Rattle.ug_links.specs.declared.link_call.LinkCall.{LinkCall}
use Rattle.ug_links.specs.declared.link_call.LinkCall.TheVariants as call
use Rattle.ug_client.specs.Answers.{IsAwaiting, Replied}
use Rattle.ug_client.specs.Calls.{AreWanted, Receives, TellsCalls, calls_to_ask}
use Rattle.ug_client.proofs.Calls.{map_both, tells_both}
use Rattle.ug_client.specs.Awaiting.{Awaits}
use Rattle.ug_client.specs.Asking.{Writes, SentBy, AsksDaemon}
use Rattle.ug_client.specs.Watching.{WantsNotices, WatchEnds, WatchesOn, Watches}
use Rattle.ug_client.specs.declared.receive.Awaited.TheVariants as awaited
use Rattle.ug_client.specs.declared.asked.Asked.{Asked}
use Rattle.ug_client.specs.declared.asked.Asked.TheVariants as asked
use Rattle.ug_client.proofs.Ending.{kept_consumes, whole_part}

-- what ends before an Ok reply
pub ends_before : (path line : List ℕ) (most : ℕ) (calls0 calls : Option (List LinkCall)) (sent0 sent left0 left held0 held : Option (List ℕ)) (result : Asked) → ¬ (result ≡ asked.Done) → AsksDaemon path line calls0 calls sent0 sent left0 left held0 held result → Watches path line most calls0 calls sent0 sent left0 left held0 held result
ends_before path line most calls0 calls sent0 sent left0 left held0 held result n a = record { taken = a.taken; source = a.source; requested = a.requested; told = inl (record { made = a.made; undone = n; enough = a.enough; told = a.told }) }

-- more behind a reply
pub replied_more : (bytes : List ℕ) (reply : Reply) (behind more : List ℕ) → Replied bytes reply behind → Replied (bytes ++ more) reply (behind ++ more)
replied_more bytes reply behind more r = record {
  notices = r.notices;
  each = r.each;
  can = r.can;
  whole = ap (λ (b : List ℕ). b ++ more) r.whole ∙ (append_assoc (ended_lines r.notices) (reply_text reply ++ behind) more ∙ ap (λ (b : List ℕ). ended_lines r.notices ++ b) (append_assoc (reply_text reply) behind more));
}

sent_by : (sent0 sent : Option (List ℕ)) (line : List ℕ) (result : Asked) → Appends sent0 sent line → SentBy sent0 sent line result
sent_by sent0 sent line asked.Done h = h
sent_by sent0 sent line asked.Refused h = h
sent_by sent0 sent line asked.NoReply h = h
sent_by sent0 sent line asked.LinkFailed h = whole_part sent0 sent line h
sent_by sent0 sent line asked.WriteFault h = h
sent_by sent0 sent line asked.Memory h = whole_part sent0 sent line h

module _ (path line : List ℕ) (most : ℕ) (calls0 calls1 calls2 calls : Option (List LinkCall)) (dialled : TellsCalls calls0 (calls_to_ask path line []) calls1) (sent0 sent1 sent2 sent left0 left1 left2 left : Option (List ℕ)) (request : Appends sent0 sent1 line) (kept1 : Keeps sent1 sent2) (kept2 : Keeps sent2 sent) (before : Keeps left0 left1) where
  all_told : (taken more : List ℕ) (r : Receives IsAwaiting 65536 [] calls1 calls2 taken) (behind : List ℕ) (s : Receives (WantsNotices most) 4096 behind calls2 calls more) → TellsCalls calls0 (calls_to_ask path line (r.receipts ++ s.receipts)) calls
  all_told taken more r behind s =
      let front = tells_both calls0 calls1 calls2 (calls_to_ask path line []) (map call.Receive r.receipts) dialled r.tells in
      let all = tells_both calls0 calls2 calls (calls_to_ask path line r.receipts) (map call.Receive s.receipts) front s.tells in
      subst (λ (cs : List LinkCall). TellsCalls calls0 (call.Dial path Ready ∷ call.Send line Done ∷ cs) calls) (sym (map_both call.Receive r.receipts s.receipts)) all

  -- what ends behind it
  pub ends_behind : (held0 held1 held : Option (List ℕ)) (bytes : List ℕ) (reply : Reply) (place : ℕ) (result : Asked) → Awaits calls1 calls2 left1 left2 bytes (awaited.Replied reply place) → Writes held0 held1 reply asked.Done
      → WatchesOn (drop place bytes) calls2 calls left2 left most held1 held result → Watches path line most calls0 calls sent0 sent left0 left held0 held result
  ends_behind held0 held1 held bytes reply place result a w o = record {
    taken = a.taken ++ o.taken;
    source = kept_consumes left0 left1 left (a.taken ++ o.taken) before (Consumes-trans left1 left2 left a.taken o.taken a.source o.source);
    requested = sent_by sent0 sent line result (Appends-kept sent0 sent1 sent line request (Keeps-trans sent1 sent2 sent kept1 kept2));
    told = inr (
        record {
          front = a.taken;
          further = o.taken;
          whole = refl;
          enough = a.enough;
          reply = reply;
          ok = w.0;
          behind = drop place a.taken;
          replied = a.told.2;
          made = record {
            receipts = a.receives.receipts;
            gave = a.receives.gave;
            wanted = a.receives.wanted;
            more = o.receives.receipts;
            gave_more = o.receives.gave;
            wanted_more = subst (λ (b : List ℕ). AreWanted (WantsNotices most) 4096 (drop place b) o.receives.receipts) a.told.0 o.receives.wanted;
            tells = all_told a.taken o.taken a.receives (drop place bytes) o.receives;
          };
          held1 = held1;
          written = w.1;
          told = subst (λ (b : List ℕ). WatchEnds (drop place b ++ o.taken) left most held1 held result) a.told.0 o.told;
        }
        );
  }

-- a count that rose behind one that didn't fall
pub rose_after : (a b c : ℕ) → a ≤ b → b ≤ c → Rose b c → Rose a c
rose_after a b c h k r = λ p. grind (arith, r)
