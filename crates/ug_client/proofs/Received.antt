-- What was taken where an awaiting ends, or goes on.
use Rattle.std.proofs.Common.{◌≡◌, ℕ, ◌+◌, ◌≤◌, List, [], ◌++◌, length, drop, Option, Some, Ok, Err, refl, subst, ◌∙◌, length-append, arith}
use Rattle.std.proofs.KnownBytes.{Consumes-trans}
use Rattle.std.specs.Io.KnownBytes.{Consumes}
use Rattle.ug_types.specs.Limits.{text_limit}
use Rattle.ug_links.specs.LinkCalls.{TellsCall}
use Rattle.ug_links.specs.declared.link_call.Receipt.TheVariants as receipt
use Rattle.ug_links.specs.declared.link_call.LinkCall.{LinkCall}
use Rattle.ug_links.specs.declared.link_call.LinkCall.TheVariants as call
use Rattle.ug_proto.specs.declared.reply.Reply.{Reply}
use Rattle.ug_proto.specs.declared.reply.ReplyFault.{ReplyFault}
use Rattle.ug_proto.specs.declared.reply.ReplyFault.TheVariants.{BadReply}
use Rattle.ug_client.specs.Answers.{AnswersReply, IsAwaiting, IsNoAnswer, Replied}
use Rattle.ug_client.specs.Awaiting.{Awaits, CameTo, Never}
use Rattle.ug_client.specs.Calls.{GoesOnReceiving}
use Rattle.ug_client.specs.declared.receive.Awaited.{Awaited}
use Rattle.ug_client.specs.declared.receive.Awaited.TheVariants as awaited
use Rattle.ug_client.proofs.Calls.{one_piece}

module _ (calls0 calls1 calls : Option (List LinkCall)) (left0 left1 left : Option (List ℕ)) (kept : List ℕ) (receiving : GoesOnReceiving IsAwaiting 65536 [] calls0 calls1 kept) (source : Consumes left0 left1 kept) (awaiting : IsAwaiting kept) (piece : List ℕ) (short : length kept + length piece ≤ text_limit) (within : length piece ≤ 65536) (tells : TellsCall calls1 (call.Receive (receipt.Bytes piece)) calls) (came : Consumes left1 left piece) where
  pub received_on : GoesOnReceiving IsAwaiting 65536 [] calls0 calls (kept ++ piece)
  received_on = one_piece IsAwaiting 65536 [] calls0 calls1 calls kept piece receiving awaiting within tells

  pub taken_on : Consumes left0 left (kept ++ piece)
  taken_on = Consumes-trans left0 left1 left kept piece source came

  pub ends_awaiting : (now : List ℕ) (result : Awaited) → CameTo (kept ++ piece) left now result → Awaits calls0 calls left0 left now result
  ends_awaiting now result t = record {
    taken = kept ++ piece;
    receives = received_on.receives;
    source = taken_on;
    enough = record {
      short = omega (arith, short, length-append kept piece);
      earlier = kept;
      last = piece;
      whole = refl;
      piece = within;
      awaiting = awaiting;
    };
    told = t;
  }

-- what is read of the bytes is read of those that were taken
pub came_replied : (taken now bytes : List ℕ) (left : Option (List ℕ)) (field : Option (Reply × ℕ)) (reply : Reply) (place : ℕ) → now ≡ taken → bytes ≡ now → field ≡ Some (reply, place) → AnswersReply bytes (Ok field) → CameTo taken left now (awaited.Replied reply place)
came_replied taken now bytes left field reply place e d f a =
    let answered : AnswersReply bytes (Ok (Some (reply, place))) = subst (λ (o : Option (Reply × ℕ)). AnswersReply bytes (Ok o)) f a in
    let held : (place ≤ length taken) × Replied taken reply (drop place taken) = subst (λ (b : List ℕ). (place ≤ length b) × Replied b reply (drop place b)) (d ∙ e) answered in
    (e, held.0, held.1)

pub came_never : (taken now bytes : List ℕ) (left : Option (List ℕ)) (fault : ReplyFault) → now ≡ taken → bytes ≡ now → fault ≡ BadReply → AnswersReply bytes (Err fault) → CameTo taken left now awaited.NoReply
came_never taken now bytes left fault e d f a =
    let never : IsNoAnswer bytes = subst (λ (o : ReplyFault). AnswersReply bytes (Err o)) f a in
    Never (subst IsNoAnswer (d ∙ e) never)
