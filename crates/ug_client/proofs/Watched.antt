-- Notices that were shown of a stream, piece by piece.
use Rattle.std.proofs.Common.{◌≡◌, ℕ, ◌+◌, ◌-◌, ◌*◌, ◌<◌, ◌≤◌, inl, inr, false, List, [], ◌∷◌, ◌++◌, length, Option, refl, sym, ap, subst, ◌∙◌, append_assoc, length-append, arith}
use Rattle.std.proofs.lemmas.List.{append-nil}
use Rattle.std.proofs.lemmas.Bool.{false≢true}
use Rattle.std.specs.Prelude.{Result, Ok, Err, if◌then◌else◌}
use Rattle.std.specs.Result.{is_ok, is_err}
use Rattle.std.proofs.KnownBytes.{Appends-trans, Consumes-kept, Consumes-trans, Consumes-nil}
use Rattle.std.specs.Io.KnownBytes.{Appends, Consumes, IsAtEnd, Keeps}
use Rattle.ug_proto.specs.Replies.{ended_lines}
use Rattle.ug_links.specs.LinkCalls.{TellsCall}
use Rattle.ug_links.specs.declared.link_call.Receipt.TheVariants as receipt
use Rattle.ug_links.specs.declared.link_call.LinkCall.{LinkCall}
use Rattle.ug_links.specs.declared.link_call.LinkCall.TheVariants as call
use Rattle.ug_proto.specs.Lines.{IsBeginning}
use Rattle.ug_client.specs.Calls.{GoesOnReceiving}
use Rattle.ug_client.specs.Watching.{AreShort, ShowsNotices, ShowsPart, EndsShowing, WantsNotices, WatchEnds, WatchesOn, IsWatching}
use Rattle.ug_client.proofs.Calls.{no_piece, none_yet, one_piece}
use Rattle.ug_client.proofs.Shown.{shows_none}
use Rattle.ug_client.specs.declared.asked.Asked.{Asked}
use Rattle.ug_client.specs.declared.asked.Asked.TheVariants as asked

ended_both : (a b : List (List ℕ)) → ended_lines (a ++ b) ≡ ended_lines a ++ ended_lines b
ended_both [] b = refl
ended_both (l ∷ a) b = ap (λ (t : List ℕ). l ++ 10 ∷ t) (ended_both a b) ∙ sym (append_assoc l (10 ∷ ended_lines a) (ended_lines b))

short_both : (a b : List (List ℕ)) → AreShort a → AreShort b → AreShort (a ++ b)
short_both [] b h k = k
short_both (l ∷ a) b h k = (h.0, short_both a b h.1 k)

short_bytes : (a : List (List ℕ)) → AreShort a → length (ended_lines a) ≤ length a * 65536
short_bytes [] h = omega arith
short_bytes (l ∷ a) h = omega (arith, h.0.short, short_bytes a h.1, length-append l (10 ∷ ended_lines a))

split_both : (a b : List (List ℕ)) (stream bytes piece rest : List ℕ) → stream ≡ ended_lines a ++ bytes → bytes ++ piece ≡ ended_lines b ++ rest → stream ++ piece ≡ ended_lines (a ++ b) ++ rest
split_both a b stream bytes piece rest e f =
    ap (λ (t : List ℕ). t ++ piece) e ∙ (append_assoc (ended_lines a) bytes piece ∙ (ap (λ (t : List ℕ). ended_lines a ++ t) f ∙ (sym (append_assoc (ended_lines a) (ended_lines b) rest) ∙ ap (λ (t : List ℕ). t ++ rest) (sym (ended_both a b)))))

module _ (stream : List ℕ) (room0 : ℕ) (held0 : Option (List ℕ)) (bytes : List ℕ) (room1 : ℕ) (held1 : Option (List ℕ)) (s : ShowsNotices stream room0 held0 bytes room1 held1) (piece : List ℕ) where
  pub shows_then : (rest : List ℕ) (room : ℕ) (held : Option (List ℕ)) → ShowsNotices (bytes ++ piece) room1 held1 rest room held → ShowsNotices (stream ++ piece) room0 held0 rest room held
  shows_then rest room held t = record {
    shown = s.shown ++ t.shown;
    each = short_both s.shown t.shown s.each t.each;
    split = split_both s.shown t.shown stream bytes piece rest s.split t.split;
    count = omega (arith, s.count, t.count, length-append s.shown t.shown);
    written = subst (λ (b : List ℕ). Appends held0 held b) (sym (ended_both s.shown t.shown)) (Appends-trans held0 held1 held (ended_lines s.shown) (ended_lines t.shown) s.written t.written);
  }

  part_then : (held : Option (List ℕ)) → ShowsPart (bytes ++ piece) room1 held1 held → ShowsPart (stream ++ piece) room0 held0 held
  part_then held t = record {
    shown = s.shown ++ t.shown;
    each = short_both s.shown t.shown s.each t.each;
    behind = t.behind;
    split = split_both s.shown t.shown stream bytes piece t.behind s.split t.split;
    few = omega (arith, s.count, t.few, length-append s.shown t.shown);
    part = record {
      front = ended_lines s.shown ++ t.part.front;
      rest = t.part.rest;
      whole = ended_both s.shown t.shown ∙ (ap (λ (b : List ℕ). ended_lines s.shown ++ b) t.part.whole ∙ sym (append_assoc (ended_lines s.shown) t.part.front t.part.rest));
      appended = Appends-trans held0 held1 held (ended_lines s.shown) t.part.front s.written t.part.appended;
    };
  }

  pub ends_then : (left held : Option (List ℕ)) (ended : Asked) → EndsShowing (bytes ++ piece) room1 held1 held ended → WatchEnds (stream ++ piece) left room0 held0 held ended
  ends_then left held asked.Done t = record { rest = t.rest; room = t.room; shows = shows_then t.rest t.room held t.told.0; why = inl t.told.1 }
  ends_then left held asked.Refused t = absurd t.told
  ends_then left held asked.NoReply t = record { rest = t.rest; room = t.room; shows = shows_then t.rest t.room held t.told.0; more = t.told.2; other = t.told.1 }
  ends_then left held asked.LinkFailed t = absurd t.told
  ends_then left held asked.WriteFault t = part_then held t.told
  ends_then left held asked.Memory t = record { rest = t.rest; room = t.room; shows = shows_then t.rest t.room held t.told }

-- a piece makes lines or a longer beginning
pub smaller : (bytes piece : List ℕ) (room1 : ℕ) (held1 : Option (List ℕ)) (rest : List ℕ) (room : ℕ) (held : Option (List ℕ)) → ShowsNotices (bytes ++ piece) room1 held1 rest room held → 0 < length piece → 0 < room → length rest < 65536 → length bytes < 65536
    → room * 65537 - length rest < room1 * 65537 - length bytes
smaller bytes piece room1 held1 rest room held s p r l m =
    let whole : length bytes + length piece ≡ length (ended_lines s.shown) + length rest = sym (length-append bytes piece) ∙ (ap (λ (b : List ℕ). length b) s.split ∙ length-append (ended_lines s.shown) rest) in
    omega (arith, whole, s.count, short_bytes s.shown s.each, p, r, l, m)

-- a call's start
pub first_ends : (start : List ℕ) (calls0 : Option (List LinkCall)) (left0 : Option (List ℕ)) (most : ℕ) (held0 held : Option (List ℕ)) (ended : Asked) → EndsShowing start most held0 held ended → WatchesOn start calls0 calls0 left0 left0 most held0 held ended
first_ends start calls0 left0 most held0 held ended t = record {
  taken = [];
  receives = (none_yet (WantsNotices most) 4096 start calls0).receives;
  source = Consumes-nil left0;
  told = ends_then start most held0 start most held0 (shows_none start most held0) [] left0 held ended (subst (λ (b : List ℕ). EndsShowing b most held0 held ended) (sym (append-nil start)) t);
}

pub first_watching : (start : List ℕ) (calls0 : Option (List LinkCall)) (left0 : Option (List ℕ)) (most : ℕ) (held0 : Option (List ℕ)) (bytes : List ℕ) (room : ℕ) (held : Option (List ℕ)) → ShowsNotices start most held0 bytes room held → IsWatching start calls0 calls0 left0 left0 most held0 bytes room held
first_watching start calls0 left0 most held0 bytes room held s = record { taken = []; receives = none_yet (WantsNotices most) 4096 start calls0; source = Consumes-nil left0; shows = subst (λ (b : List ℕ). ShowsNotices b most held0 bytes room held) (sym (append-nil start)) s }

-- more is wanted behind what was shown
pub wants_more : (stream : List ℕ) (most : ℕ) (held0 : Option (List ℕ)) (bytes : List ℕ) (room : ℕ) (held : Option (List ℕ)) → ShowsNotices stream most held0 bytes room held → IsBeginning bytes → 0 < room → WantsNotices most stream
wants_more stream most held0 bytes room held s b r = record { shown = s.shown; each = s.each; rest = bytes; split = s.split; begun = b; few = omega (arith, s.count, r) }

-- one piece more
module _ (start : List ℕ) (calls0 calls1 calls : Option (List LinkCall)) (left0 left1 left : Option (List ℕ)) (most : ℕ) (held0 : Option (List ℕ)) (bytes : List ℕ) (room1 : ℕ) (held1 : Option (List ℕ)) (w : IsWatching start calls0 calls1 left0 left1 most held0 bytes room1 held1) (begun : IsBeginning bytes) (more : 0 < room1) (piece : List ℕ) (within : length piece ≤ 4096) (tells : TellsCall calls1 (call.Receive (receipt.Bytes piece)) calls) (source : Consumes left1 left piece) where
  received : GoesOnReceiving (WantsNotices most) 4096 start calls0 calls (w.taken ++ piece)
  received = one_piece (WantsNotices most) 4096 start calls0 calls1 calls w.taken piece w.receives (wants_more (start ++ w.taken) most held0 bytes room1 held1 w.shows begun more) within tells

  both : Consumes left0 left (w.taken ++ piece)
  both = Consumes-trans left0 left1 left w.taken piece w.source source

  pub piece_ends : (held : Option (List ℕ)) (ended : Asked) → EndsShowing (bytes ++ piece) room1 held1 held ended → WatchesOn start calls0 calls left0 left most held0 held ended
  piece_ends held ended t = record {
    taken = w.taken ++ piece;
    receives = received.receives;
    source = both;
    told = subst (λ (b : List ℕ). WatchEnds b left most held0 held ended) (append_assoc start w.taken piece) (ends_then (start ++ w.taken) most held0 bytes room1 held1 w.shows piece left held ended t);
  }

  pub piece_watching : (rest : List ℕ) (room : ℕ) (held : Option (List ℕ)) → ShowsNotices (bytes ++ piece) room1 held1 rest room held → IsWatching start calls0 calls left0 left most held0 rest room held
  piece_watching rest room held t = record {
    taken = w.taken ++ piece;
    receives = received;
    source = both;
    shows = subst (λ (b : List ℕ). ShowsNotices b most held0 rest room held) (append_assoc start w.taken piece) (shows_then (start ++ w.taken) most held0 bytes room1 held1 w.shows piece rest room held t);
  }

  pub piece_lost : WatchesOn start calls0 calls left0 left most held0 held1 asked.Memory
  piece_lost = piece_ends held1 asked.Memory (record { rest = bytes ++ piece; room = room1; told = shows_none (bytes ++ piece) room1 held1 })

-- no piece more
module _ (start : List ℕ) (calls0 calls1 calls : Option (List LinkCall)) (left0 left1 left : Option (List ℕ)) (most : ℕ) (held0 : Option (List ℕ)) (bytes : List ℕ) (room1 : ℕ) (held1 : Option (List ℕ)) (w : IsWatching start calls0 calls1 left0 left1 most held0 bytes room1 held1) (begun : IsBeginning bytes) (more : 0 < room1) (kept : Keeps left1 left) where
  wanted : WantsNotices most (start ++ w.taken)
  wanted = wants_more (start ++ w.taken) most held0 bytes room1 held1 w.shows begun more

  pub watched_to_end : TellsCall calls1 (call.Receive receipt.End) calls → IsAtEnd left → WatchesOn start calls0 calls left0 left most held0 held1 asked.Done
  watched_to_end tells end = record {
    taken = w.taken;
    receives = no_piece (WantsNotices most) 4096 start calls0 calls1 calls w.taken receipt.End refl w.receives wanted tt tells;
    source = Consumes-kept left0 left1 left w.taken w.source kept;
    told = record { rest = bytes; room = room1; shows = w.shows; why = inr (end, begun) };
  }

  pub watched_to_failure : TellsCall calls1 (call.Receive receipt.Failed) calls → WatchesOn start calls0 calls left0 left most held0 held1 asked.LinkFailed
  watched_to_failure tells = record {
    taken = w.taken;
    receives = no_piece (WantsNotices most) 4096 start calls0 calls1 calls w.taken receipt.Failed refl w.receives wanted tt tells;
    source = Consumes-kept left0 left1 left w.taken w.source kept;
    told = record { rest = bytes; room = room1; shows = w.shows };
  }

-- a vector that took the bytes
pub grown : {A E : Type 0} (r : Result A E) (new old piece : List ℕ) → new ≡ (if is_ok r then old ++ piece else old) → false ≡ is_err r → new ≡ old ++ piece
grown (Ok x) new old piece e k = e
grown (Err x) new old piece e k = absurd (false≢true k)
