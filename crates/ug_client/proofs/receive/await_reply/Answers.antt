use Rattle.std.proofs.Common.{List, ℕ, ◌≡◌, ◌+◌, ◌-◌, ◌≤◌, ◌∙◌, min, false, refl, [], ◌++◌, length, drop, take, Option, Result, None, Ok, is_err, is_ok, if◌then◌else◌, sym, ap, subst, arith, length-append, length-take}
use Rattle.std.proofs.lemmas.List.{append-nil, take-append-le}
use Rattle.std.proofs.Math.Seq.{take-append_seam}
use Rattle.std.proofs.KnownBytes.{Consumes-nil, Consumes-trans, Consumes-kept, Keeps-refl, Keeps-trans}
use Rattle.std.specs.Io.KnownBytes.{Consumes}
use Rattle.ug_types.specs.Limits.{text_limit}
use Rattle.ug_proto.specs.declared.reply.Reply.{Reply}
use Rattle.ug_client.specs.Answers.{AnswersReply, IsAwaiting}
use Rattle.ug_links.specs.declared.link_call.Receipt.TheVariants as receipt
use Rattle.ug_client.specs.Awaiting.{Ended, Full}
use Rattle.ug_client.specs.Calls.{GoesOnReceiving}
use Rattle.ug_client.specs.ReadSoFar.{IsReadSoFar}
use Rattle.ug_client.proofs.Calls.{no_piece, none_yet, one_piece}
use Rattle.ug_client.proofs.Ending.{empty_awaits}
use Rattle.ug_client.proofs.Missing.{nothing_read}
use Rattle.ug_client.proofs.Received.{came_never, came_replied, ends_awaiting, received_on, taken_on}
use Rattle.ug_client.proofs.Watched.{grown}
use Rattle.ug_client.proofs.WatchCalls.{rose_after}
use Rattle.ug_client.specs.declared.receive.Awaited.TheVariants as awaited
use Rattle.ug_client.proofs.receive.await_reply.Goals as goal

within_piece : (n room from : ℕ) (into first : List ℕ) → room ≡ min 65536 (67108864 - from) → n ≤ length (take room first) → length (take n into) ≤ 65536
within_piece n room from into first e h = omega (arith, length-take n into, length-take room first)

short_piece : (n room from len : ℕ) (kept into first : List ℕ) → len ≤ text_limit → len ≡ length kept → from ≡ len → room ≡ min 65536 (67108864 - from) → n ≤ length (take room first) → length kept + length (take n into) ≤ text_limit
short_piece n room from len kept into first s d f e h = omega (arith, length-take n into, length-take room first)

long_enough : (kept piece : List ℕ) → length kept + length piece ≤ text_limit → length (kept ++ piece) ≤ text_limit
long_enough kept piece h = omega (arith, length-append kept piece)

grown_by : {A E : Type 0} (r : Result A E) (new old into rest room : List ℕ) (n : ℕ) → new ≡ (if is_ok r then old ++ take n (into ++ rest) else old) → false ≡ is_err r → length into ≡ length room → n ≤ length room → new ≡ old ++ take n into
grown_by r new old into rest room n e k a h = grown r new old (take n (into ++ rest)) e k ∙ ap (λ (b : List ℕ). old ++ b) (take-append-le n into rest (omega (arith, a)))

grown_short : (len : ℕ) (now kept piece : List ℕ) → len ≡ length now → now ≡ kept ++ piece → length kept + length piece ≤ text_limit → len ≤ text_limit
grown_short len now kept piece d e h = omega (arith, d, ap (λ (b : List ℕ). length b) e, length-append kept piece)

full : (room from len : ℕ) (kept : List ℕ) → len ≤ text_limit → len ≡ length kept → from ≡ len → room ≡ min 65536 (67108864 - from) → room ≡ 0 → length kept ≡ text_limit
full room from len kept s d f e z = omega arith

read_within : (from len : ℕ) (now bytes kept piece : List ℕ) → from ≡ len → len ≡ length kept → bytes ≡ now → now ≡ kept ++ piece → from ≤ length bytes
read_within from len now bytes kept piece f l d e = omega (arith, ap (λ (b : List ℕ). length b) (d ∙ e), length-append kept piece)

begun_short : (len : ℕ) (kept : List ℕ) → len ≤ text_limit → len ≡ length kept → length kept ≤ text_limit
begun_short len kept h e = omega arith

no_bytes : length {A = ℕ} [] ≤ 65536
no_bytes = omega arith

not_above : (a b c : ℕ) → a ≤ b → b ≤ c → a ≤ c
not_above a b c h k = omega arith

none_unfailed : ¬ (awaited.NoReply ≡ awaited.LinkFailed)
none_unfailed e = cc

memory_unfailed : ¬ (awaited.Memory ≡ awaited.LinkFailed)
memory_unfailed e = cc

replied_unfailed : (reply : Reply) (place : ℕ) → ¬ (awaited.Replied reply place ≡ awaited.LinkFailed)
replied_unfailed reply place e = cc

pub pieces-init : goal.pieces-init
pieces-init g c =
    let left = g.L.Link.left c.args.link.now in
    let told = g.L.Link.told c.args.link.now in
    record {
      receiving = subst (λ (b : List ℕ). GoesOnReceiving IsAwaiting 65536 [] told told b) (sym c.requires) (none_yet IsAwaiting 65536 [] told);
      source = subst (λ (b : List ℕ). Consumes left left b) (sym c.requires) (Consumes-nil left);
      sent = Keeps-refl (g.L.Link.sent c.args.link.now);
      awaiting = subst IsAwaiting (sym c.requires) empty_awaits;
      so_far = subst (λ (b : List ℕ). IsReadSoFar b (record { at = 0; missing = 0 })) (sym c.requires) (nothing_read (record { at = 0; missing = 0 }) refl refl);
      short = omega (arith, ap (λ (b : List ℕ). length b) c.requires);
      counted = omega arith;
    }

pub returns-then-is_err-clause-awaits : goal.returns-then-is_err-clause-awaits
returns-then-is_err-clause-awaits g c =
    let piece = take c.in-Bytes.n c.receive.new.into in
    record {
      taken = c.pieces.kept.items ++ piece;
      receives = (one_piece IsAwaiting 65536 [] (g.L.Link.told c.args.link.now) (g.L.Link.told c.pieces.link) (g.L.Link.told c.receive.new.self) c.pieces.kept.items piece c.pieces.invariant.receiving c.pieces.invariant.awaiting (within_piece c.in-Bytes.n c.min-room.result c.len-from.result c.receive.new.into c.pieces.piece c.min-room.ensures c.in-Bytes.ensures.size.1) c.in-Bytes.ensures.told).receives;
      source = Consumes-trans (g.L.Link.left c.args.link.now) (g.L.Link.left c.pieces.link) (g.L.Link.left c.receive.new.self) c.pieces.kept.items piece c.pieces.invariant.source c.in-Bytes.ensures.bytes;
      enough = record {
        short = long_enough c.pieces.kept.items piece (short_piece c.in-Bytes.n c.min-room.result c.len-from.result c.pieces.kept.len c.pieces.kept.items c.receive.new.into c.pieces.piece c.pieces.invariant.short c.pieces.kept.ok.0 c.len-from.ensures c.min-room.ensures c.in-Bytes.ensures.size.1);
        earlier = c.pieces.kept.items;
        last = piece;
        whole = λ i. c.pieces.kept.items ++ piece;
        piece = within_piece c.in-Bytes.n c.min-room.result c.len-from.result c.receive.new.into c.pieces.piece c.min-room.ensures c.in-Bytes.ensures.size.1;
        awaiting = c.pieces.invariant.awaiting;
      };
      told = tt;
    }

pub returns-in-End-clause-awaits : goal.returns-in-End-clause-awaits
returns-in-End-clause-awaits g c = record {
  taken = c.pieces.kept.items;
  receives = no_piece IsAwaiting 65536 [] (g.L.Link.told c.args.link.now) (g.L.Link.told c.pieces.link) (g.L.Link.told c.receive.new.self) c.pieces.kept.items receipt.End refl c.pieces.invariant.receiving c.pieces.invariant.awaiting tt c.in-End.ensures.told;
  source = Consumes-kept (g.L.Link.left c.args.link.now) (g.L.Link.left c.pieces.link) (g.L.Link.left c.receive.new.self) c.pieces.kept.items c.pieces.invariant.source c.in-End.ensures.bytes.0;
  enough = record {
    short = begun_short c.pieces.kept.len c.pieces.kept.items c.pieces.invariant.short c.pieces.kept.ok.0;
    earlier = c.pieces.kept.items;
    last = [];
    whole = sym (append-nil c.pieces.kept.items);
    piece = no_bytes;
    awaiting = c.pieces.invariant.awaiting;
  };
  told = Ended c.in-End.ensures.bytes.1 c.pieces.invariant.awaiting.none;
}

pub returns-in-Failed-clause-awaits : goal.returns-in-Failed-clause-awaits
returns-in-Failed-clause-awaits g c = record {
  taken = c.pieces.kept.items;
  receives = no_piece IsAwaiting 65536 [] (g.L.Link.told c.args.link.now) (g.L.Link.told c.pieces.link) (g.L.Link.told c.receive.new.self) c.pieces.kept.items receipt.Failed refl c.pieces.invariant.receiving c.pieces.invariant.awaiting tt c.in-Failed.ensures.told;
  source = Consumes-kept (g.L.Link.left c.args.link.now) (g.L.Link.left c.pieces.link) (g.L.Link.left c.receive.new.self) c.pieces.kept.items c.pieces.invariant.source c.in-Failed.ensures.bytes;
  enough = record {
    short = begun_short c.pieces.kept.len c.pieces.kept.items c.pieces.invariant.short c.pieces.kept.ok.0;
    earlier = c.pieces.kept.items;
    last = [];
    whole = sym (append-nil c.pieces.kept.items);
    piece = no_bytes;
    awaiting = c.pieces.invariant.awaiting;
  };
  told = tt;
}

pub returns-in-Ok-Some-clause-awaits : goal.returns-in-Ok-Some-clause-awaits
returns-in-Ok-Some-clause-awaits g c =
    let i = c.pieces.invariant in
    let piece = take c.in-Bytes.n c.receive.new.into in
    let short : length c.pieces.kept.items + length piece ≤ text_limit = short_piece c.in-Bytes.n c.min-room.result c.len-from.result c.pieces.kept.len c.pieces.kept.items c.receive.new.into c.pieces.piece c.pieces.invariant.short c.pieces.kept.ok.0 c.len-from.ensures c.min-room.ensures c.in-Bytes.ensures.size.1 in
    let within : length piece ≤ 65536 = within_piece c.in-Bytes.n c.min-room.result c.len-from.result c.receive.new.into c.pieces.piece c.min-room.ensures c.in-Bytes.ensures.size.1 in
    let e : c.extend_from_slice.new.self.items ≡ c.pieces.kept.items ++ piece =
    grown_by c.extend_from_slice.result c.extend_from_slice.new.self.items c.pieces.kept.items c.receive.new.into (drop c.min-room.result c.pieces.piece) (take c.min-room.result c.pieces.piece) c.in-Bytes.n c.extend_from_slice.ensures.items c.if-is_err.ensures.value c.receive.auto.into c.in-Bytes.ensures.size.1 in
    ends_awaiting (g.L.Link.told c.args.link.now) (g.L.Link.told c.pieces.link) (g.L.Link.told c.receive.new.self) (g.L.Link.left c.args.link.now) (g.L.Link.left c.pieces.link) (g.L.Link.left c.receive.new.self)
    c.pieces.kept.items i.receiving i.source i.awaiting piece short within c.in-Bytes.ensures.told c.in-Bytes.ensures.bytes
    c.extend_from_slice.new.self.items (awaited.Replied c.in-Ok-Some.reply c.in-Ok-Some.place)
    (came_replied (c.pieces.kept.items ++ piece) c.extend_from_slice.new.self.items c.deref.result.now (g.L.Link.left c.receive.new.self) c.in-Ok-Some.field-0 c.in-Ok-Some.reply c.in-Ok-Some.place e c.deref.ensures.value c.in-Ok-Some.field-0-is c.in-Ok-Some.ensures.answers)

pub read_on-requires-clause-within : goal.read_on-requires-clause-within
read_on-requires-clause-within g c =
    let piece = take c.in-Bytes.n c.receive.new.into in
    let e : c.extend_from_slice.new.self.items ≡ c.pieces.kept.items ++ piece =
    grown_by c.extend_from_slice.result c.extend_from_slice.new.self.items c.pieces.kept.items c.receive.new.into (drop c.min-room.result c.pieces.piece) (take c.min-room.result c.pieces.piece) c.in-Bytes.n c.extend_from_slice.ensures.items c.if-is_err.ensures.value c.receive.auto.into c.in-Bytes.ensures.size.1 in
    read_within c.len-from.result c.pieces.kept.len c.extend_from_slice.new.self.items c.deref.result.now c.pieces.kept.items piece c.len-from.ensures c.pieces.kept.ok.0 c.deref.ensures.value e

pub read_on-requires-clause-so_far : goal.read_on-requires-clause-so_far
read_on-requires-clause-so_far g c =
    let piece = take c.in-Bytes.n c.receive.new.into in
    let e : c.extend_from_slice.new.self.items ≡ c.pieces.kept.items ++ piece =
    grown_by c.extend_from_slice.result c.extend_from_slice.new.self.items c.pieces.kept.items c.receive.new.into (drop c.min-room.result c.pieces.piece) (take c.min-room.result c.pieces.piece) c.in-Bytes.n c.extend_from_slice.ensures.items c.if-is_err.ensures.value c.receive.auto.into c.in-Bytes.ensures.size.1 in
    let from : c.len-from.result ≡ length c.pieces.kept.items = c.len-from.ensures ∙ c.pieces.kept.ok.0 in
    let front : take c.len-from.result c.deref.result.now ≡ c.pieces.kept.items = ap (λ (n : ℕ). take n c.deref.result.now) from ∙ (ap (take (length c.pieces.kept.items)) (c.deref.ensures.value ∙ e) ∙ take-append_seam c.pieces.kept.items piece) in
    subst (λ (b : List ℕ). IsReadSoFar b c.pieces.so_far) (sym front) c.pieces.invariant.so_far

pub pieces-preserved : goal.pieces-preserved
pieces-preserved g c =
    let i = c.pieces.invariant in
    let piece = take c.in-Bytes.n c.receive.new.into in
    let short : length c.pieces.kept.items + length piece ≤ text_limit = short_piece c.in-Bytes.n c.min-room.result c.len-from.result c.pieces.kept.len c.pieces.kept.items c.receive.new.into c.pieces.piece c.pieces.invariant.short c.pieces.kept.ok.0 c.len-from.ensures c.min-room.ensures c.in-Bytes.ensures.size.1 in
    let within : length piece ≤ 65536 = within_piece c.in-Bytes.n c.min-room.result c.len-from.result c.receive.new.into c.pieces.piece c.min-room.ensures c.in-Bytes.ensures.size.1 in
    let e : c.extend_from_slice.new.self.items ≡ c.pieces.kept.items ++ piece =
    grown_by c.extend_from_slice.result c.extend_from_slice.new.self.items c.pieces.kept.items c.receive.new.into (drop c.min-room.result c.pieces.piece) (take c.min-room.result c.pieces.piece) c.in-Bytes.n c.extend_from_slice.ensures.items c.if-is_err.ensures.value c.receive.auto.into c.in-Bytes.ensures.size.1 in
    let told0 = g.L.Link.told c.args.link.now in
    let left0 = g.L.Link.left c.args.link.now in
    let answered : AnswersReply c.deref.result.now (Ok None) = subst (λ (o : Option (Reply × ℕ)). AnswersReply c.deref.result.now (Ok o)) c.in-Ok-None.field-0-is c.in-Ok-None.ensures.answers in
    record {
      receiving = subst (λ (b : List ℕ). GoesOnReceiving IsAwaiting 65536 [] told0 (g.L.Link.told c.receive.new.self) b) (sym e) (received_on (g.L.Link.told c.args.link.now) (g.L.Link.told c.pieces.link) (g.L.Link.told c.receive.new.self) (g.L.Link.left c.args.link.now) (g.L.Link.left c.pieces.link) (g.L.Link.left c.receive.new.self) c.pieces.kept.items i.receiving i.source i.awaiting piece short within c.in-Bytes.ensures.told c.in-Bytes.ensures.bytes);
      source = subst (λ (b : List ℕ). Consumes left0 (g.L.Link.left c.receive.new.self) b) (sym e) (taken_on (g.L.Link.told c.args.link.now) (g.L.Link.told c.pieces.link) (g.L.Link.told c.receive.new.self) (g.L.Link.left c.args.link.now) (g.L.Link.left c.pieces.link) (g.L.Link.left c.receive.new.self) c.pieces.kept.items i.receiving i.source i.awaiting piece short within c.in-Bytes.ensures.told c.in-Bytes.ensures.bytes);
      sent = Keeps-trans (g.L.Link.sent c.args.link.now) (g.L.Link.sent c.pieces.link) (g.L.Link.sent c.receive.new.self) i.sent c.in-Bytes.ensures.sent;
      awaiting = subst IsAwaiting c.deref.ensures.value answered;
      so_far = subst (λ (b : List ℕ). IsReadSoFar b c.read_on.new.so_far) c.deref.ensures.value (c.in-Ok-None.ensures.so_far (ap (λ (o : Option (Reply × ℕ)). Ok o) c.in-Ok-None.field-0-is));
      short = grown_short c.extend_from_slice.new.self.len c.extend_from_slice.new.self.items c.pieces.kept.items piece c.extend_from_slice.new.self.ok.0 e short;
      counted = not_above (g.L.Link.faults c.args.link.now) (g.L.Link.faults c.pieces.link) (g.L.Link.faults c.receive.new.self) i.counted c.receive.ensures.counted.0;
    }

pub returns-in-Err-BadReply-clause-awaits : goal.returns-in-Err-BadReply-clause-awaits
returns-in-Err-BadReply-clause-awaits g c =
    let i = c.pieces.invariant in
    let piece = take c.in-Bytes.n c.receive.new.into in
    let short : length c.pieces.kept.items + length piece ≤ text_limit = short_piece c.in-Bytes.n c.min-room.result c.len-from.result c.pieces.kept.len c.pieces.kept.items c.receive.new.into c.pieces.piece c.pieces.invariant.short c.pieces.kept.ok.0 c.len-from.ensures c.min-room.ensures c.in-Bytes.ensures.size.1 in
    let within : length piece ≤ 65536 = within_piece c.in-Bytes.n c.min-room.result c.len-from.result c.receive.new.into c.pieces.piece c.min-room.ensures c.in-Bytes.ensures.size.1 in
    let e : c.extend_from_slice.new.self.items ≡ c.pieces.kept.items ++ piece =
    grown_by c.extend_from_slice.result c.extend_from_slice.new.self.items c.pieces.kept.items c.receive.new.into (drop c.min-room.result c.pieces.piece) (take c.min-room.result c.pieces.piece) c.in-Bytes.n c.extend_from_slice.ensures.items c.if-is_err.ensures.value c.receive.auto.into c.in-Bytes.ensures.size.1 in
    ends_awaiting (g.L.Link.told c.args.link.now) (g.L.Link.told c.pieces.link) (g.L.Link.told c.receive.new.self) (g.L.Link.left c.args.link.now) (g.L.Link.left c.pieces.link) (g.L.Link.left c.receive.new.self)
    c.pieces.kept.items i.receiving i.source i.awaiting piece short within c.in-Bytes.ensures.told c.in-Bytes.ensures.bytes
    c.extend_from_slice.new.self.items awaited.NoReply
    (came_never (c.pieces.kept.items ++ piece) c.extend_from_slice.new.self.items c.deref.result.now (g.L.Link.left c.receive.new.self) c.in-Err-BadReply.field-0 e c.deref.ensures.value c.in-Err-BadReply.field-0-is c.in-Err-BadReply.ensures.answers)

pub returns-in-Err-Memory-clause-awaits : goal.returns-in-Err-Memory-clause-awaits
returns-in-Err-Memory-clause-awaits g c =
    let i = c.pieces.invariant in
    let piece = take c.in-Bytes.n c.receive.new.into in
    let short : length c.pieces.kept.items + length piece ≤ text_limit = short_piece c.in-Bytes.n c.min-room.result c.len-from.result c.pieces.kept.len c.pieces.kept.items c.receive.new.into c.pieces.piece c.pieces.invariant.short c.pieces.kept.ok.0 c.len-from.ensures c.min-room.ensures c.in-Bytes.ensures.size.1 in
    let within : length piece ≤ 65536 = within_piece c.in-Bytes.n c.min-room.result c.len-from.result c.receive.new.into c.pieces.piece c.min-room.ensures c.in-Bytes.ensures.size.1 in
    ends_awaiting (g.L.Link.told c.args.link.now) (g.L.Link.told c.pieces.link) (g.L.Link.told c.receive.new.self) (g.L.Link.left c.args.link.now) (g.L.Link.left c.pieces.link) (g.L.Link.left c.receive.new.self)
    c.pieces.kept.items i.receiving i.source i.awaiting piece short within c.in-Bytes.ensures.told c.in-Bytes.ensures.bytes
    c.extend_from_slice.new.self.items awaited.Memory tt

pub returns-then-room-eq0-clause-awaits : goal.returns-then-room-eq0-clause-awaits
returns-then-room-eq0-clause-awaits g c =
    let i = c.pieces.invariant in
    record {
      taken = c.pieces.kept.items;
      receives = i.receiving.receives;
      source = i.source;
      enough = record { short = begun_short c.pieces.kept.len c.pieces.kept.items i.short c.pieces.kept.ok.0; earlier = c.pieces.kept.items; last = []; whole = sym (append-nil c.pieces.kept.items); piece = no_bytes; awaiting = i.awaiting };
      told = Full (full c.min-room.result c.len-from.result c.pieces.kept.len c.pieces.kept.items i.short c.pieces.kept.ok.0 c.len-from.ensures c.min-room.ensures c.if-room-eq0.true) i.awaiting.none;
    }

pub returns-in-Failed-clause-cause : goal.returns-in-Failed-clause-cause
returns-in-Failed-clause-cause g c = λ e. rose_after (g.L.Link.faults c.args.link.now) (g.L.Link.faults c.pieces.link) (g.L.Link.faults c.receive.new.self) c.pieces.invariant.counted c.receive.ensures.counted.0 (c.in-Failed.ensures.cause refl)

pub returns-then-is_err-clause-sent : goal.returns-then-is_err-clause-sent
returns-then-is_err-clause-sent g c = Keeps-trans (g.L.Link.sent c.args.link.now) (g.L.Link.sent c.pieces.link) (g.L.Link.sent c.receive.new.self) c.pieces.invariant.sent c.receive.ensures.sent

pub returns-then-is_err-clause-counted : goal.returns-then-is_err-clause-counted
returns-then-is_err-clause-counted g c = not_above (g.L.Link.faults c.args.link.now) (g.L.Link.faults c.pieces.link) (g.L.Link.faults c.receive.new.self) c.pieces.invariant.counted c.receive.ensures.counted.0

pub returns-in-Ok-Some-clause-sent : goal.returns-in-Ok-Some-clause-sent
returns-in-Ok-Some-clause-sent g c = Keeps-trans (g.L.Link.sent c.args.link.now) (g.L.Link.sent c.pieces.link) (g.L.Link.sent c.receive.new.self) c.pieces.invariant.sent c.receive.ensures.sent

pub returns-in-Ok-Some-clause-counted : goal.returns-in-Ok-Some-clause-counted
returns-in-Ok-Some-clause-counted g c = not_above (g.L.Link.faults c.args.link.now) (g.L.Link.faults c.pieces.link) (g.L.Link.faults c.receive.new.self) c.pieces.invariant.counted c.receive.ensures.counted.0

pub returns-in-Err-BadReply-clause-sent : goal.returns-in-Err-BadReply-clause-sent
returns-in-Err-BadReply-clause-sent g c = Keeps-trans (g.L.Link.sent c.args.link.now) (g.L.Link.sent c.pieces.link) (g.L.Link.sent c.receive.new.self) c.pieces.invariant.sent c.receive.ensures.sent

pub returns-in-Err-BadReply-clause-counted : goal.returns-in-Err-BadReply-clause-counted
returns-in-Err-BadReply-clause-counted g c = not_above (g.L.Link.faults c.args.link.now) (g.L.Link.faults c.pieces.link) (g.L.Link.faults c.receive.new.self) c.pieces.invariant.counted c.receive.ensures.counted.0

pub returns-in-Err-Memory-clause-sent : goal.returns-in-Err-Memory-clause-sent
returns-in-Err-Memory-clause-sent g c = Keeps-trans (g.L.Link.sent c.args.link.now) (g.L.Link.sent c.pieces.link) (g.L.Link.sent c.receive.new.self) c.pieces.invariant.sent c.receive.ensures.sent

pub returns-in-Err-Memory-clause-counted : goal.returns-in-Err-Memory-clause-counted
returns-in-Err-Memory-clause-counted g c = not_above (g.L.Link.faults c.args.link.now) (g.L.Link.faults c.pieces.link) (g.L.Link.faults c.receive.new.self) c.pieces.invariant.counted c.receive.ensures.counted.0

pub returns-in-End-clause-sent : goal.returns-in-End-clause-sent
returns-in-End-clause-sent g c = Keeps-trans (g.L.Link.sent c.args.link.now) (g.L.Link.sent c.pieces.link) (g.L.Link.sent c.receive.new.self) c.pieces.invariant.sent c.receive.ensures.sent

pub returns-in-End-clause-counted : goal.returns-in-End-clause-counted
returns-in-End-clause-counted g c = not_above (g.L.Link.faults c.args.link.now) (g.L.Link.faults c.pieces.link) (g.L.Link.faults c.receive.new.self) c.pieces.invariant.counted c.receive.ensures.counted.0

pub returns-in-Failed-clause-sent : goal.returns-in-Failed-clause-sent
returns-in-Failed-clause-sent g c = Keeps-trans (g.L.Link.sent c.args.link.now) (g.L.Link.sent c.pieces.link) (g.L.Link.sent c.receive.new.self) c.pieces.invariant.sent c.receive.ensures.sent

pub returns-in-Failed-clause-counted : goal.returns-in-Failed-clause-counted
returns-in-Failed-clause-counted g c = not_above (g.L.Link.faults c.args.link.now) (g.L.Link.faults c.pieces.link) (g.L.Link.faults c.receive.new.self) c.pieces.invariant.counted c.receive.ensures.counted.0

pub returns-then-room-eq0-clause-cause : goal.returns-then-room-eq0-clause-cause
returns-then-room-eq0-clause-cause g c = λ e. absurd (none_unfailed e)

pub returns-then-is_err-clause-cause : goal.returns-then-is_err-clause-cause
returns-then-is_err-clause-cause g c = λ e. absurd (memory_unfailed e)

pub returns-in-Ok-Some-clause-cause : goal.returns-in-Ok-Some-clause-cause
returns-in-Ok-Some-clause-cause g c = λ e. absurd (replied_unfailed c.in-Ok-Some.reply c.in-Ok-Some.place e)

pub returns-in-Err-BadReply-clause-cause : goal.returns-in-Err-BadReply-clause-cause
returns-in-Err-BadReply-clause-cause g c = λ e. absurd (none_unfailed e)

pub returns-in-Err-Memory-clause-cause : goal.returns-in-Err-Memory-clause-cause
returns-in-Err-Memory-clause-cause g c = λ e. absurd (memory_unfailed e)

pub returns-in-End-clause-cause : goal.returns-in-End-clause-cause
returns-in-End-clause-cause g c = λ e. absurd (none_unfailed e)
