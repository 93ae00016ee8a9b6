-- Calls that are told, one after another.
use Rattle.std.proofs.Common.{◌≡◌, ℕ, ◌≤◌, List, [], ◌∷◌, ◌++◌, map, length, Option, Some, None, refl, sym, ap, subst, ◌∙◌, append_assoc}
use Rattle.std.proofs.lemmas.List.{append-nil}
use Rattle.ug_types.specs.Told.{GrowsBy}
use Rattle.ug_links.specs.LinkCalls.{TellsCall}
use Rattle.ug_links.specs.declared.link_call.Receipt.{Receipt}
use Rattle.ug_links.specs.declared.link_call.Receipt.TheVariants as receipt
use Rattle.ug_links.specs.declared.link_call.LinkCall.{LinkCall}
use Rattle.ug_links.specs.declared.link_call.LinkCall.TheVariants as call
use Rattle.ug_client.specs.Answers.{IsAwaiting}
use Rattle.ug_client.specs.Calls.{GaveBytes, AreWanted, CallsForReply, GoesOnReceiving, Receives, TellsCalls, bytes_in, calls_to_ask}

pub tells_nothing : (told : Option (List LinkCall)) → TellsCalls told [] told
tells_nothing None = tt
tells_nothing (Some all) = (all, refl, sym (append-nil all))

-- one call alone
pub told_one : (a b : Option (List LinkCall)) (one : LinkCall) → TellsCall a one b → TellsCalls a (one ∷ []) b
told_one a None one h = tt
told_one a (Some after) one h = h

-- what was told before, with one call behind others
pub tells_one : (a b c : Option (List LinkCall)) (calls : List LinkCall) (one : LinkCall) → TellsCalls a calls b → TellsCall b one c → TellsCalls a (calls ++ one ∷ []) c
tells_one a b None calls one h k = tt
tells_one a b (Some after) calls one h k =
    let g : GrowsBy a calls k.0 = subst (λ (t : Option (List LinkCall)). TellsCalls a calls t) k.1 h in
    (g.0, g.1, k.2 ∙ (ap (λ (l : List LinkCall). l ++ one ∷ []) g.2 ∙ append_assoc g.0 calls (one ∷ [])))

pub tells_both : (a b c : Option (List LinkCall)) (calls more : List LinkCall) → TellsCalls a calls b → TellsCalls b more c → TellsCalls a (calls ++ more) c
tells_both a b None calls more h k = tt
tells_both a b (Some after) calls more h k =
    let g : GrowsBy a calls k.0 = subst (λ (t : Option (List LinkCall)). TellsCalls a calls t) k.1 h in
    (g.0, g.1, k.2 ∙ (ap (λ (l : List LinkCall). l ++ more) g.2 ∙ append_assoc g.0 calls more))

pub map_both : {A B : Type 0} (f : A → B) (xs ys : List A) → map f (xs ++ ys) ≡ map f xs ++ map f ys
map_both f [] ys = refl
map_both {A} {B} f (x ∷ xs) ys = ap (λ (l : List B). f x ∷ l) (map_both f xs ys)

pub bytes_both : (rs qs : List Receipt) → bytes_in (rs ++ qs) ≡ bytes_in rs ++ bytes_in qs
bytes_both [] qs = refl
bytes_both (receipt.Bytes piece ∷ rs) qs = ap (λ (b : List ℕ). piece ++ b) (bytes_both rs qs) ∙ sym (append_assoc piece (bytes_in rs) (bytes_in qs))
bytes_both (receipt.End ∷ rs) qs = bytes_both rs qs
bytes_both (receipt.Failed ∷ rs) qs = bytes_both rs qs

-- a piece within the room, or no piece
abbrev pub FitsIn : ℕ → Receipt → Type 0
FitsIn most (receipt.Bytes piece) = length piece ≤ most
FitsIn most receipt.End = Unit {0}
FitsIn most receipt.Failed = Unit {0}

module _ (Wants : List ℕ → Type 0) (most : ℕ) where
  one_wanted : (so_far : List ℕ) (one : Receipt) → Wants so_far → FitsIn most one → AreWanted Wants most so_far (one ∷ [])
  one_wanted so_far (receipt.Bytes piece) w f = (w, f, tt)
  one_wanted so_far receipt.End w f = (w, refl)
  one_wanted so_far receipt.Failed w f = (w, refl)

  more_wanted : (so_far : List ℕ) (rs : List Receipt) (one : Receipt) → GaveBytes rs → AreWanted Wants most so_far rs → Wants (so_far ++ bytes_in rs) → FitsIn most one → AreWanted Wants most so_far (rs ++ one ∷ [])
  more_wanted so_far [] one b h w f = one_wanted so_far one (subst Wants (append-nil so_far) w) f
  more_wanted so_far (receipt.Bytes piece ∷ rs) one b h w f = (h.0, h.1, more_wanted (so_far ++ piece) rs one b h.2 (subst Wants (sym (append_assoc so_far piece (bytes_in rs))) w) f)
  more_wanted so_far (receipt.End ∷ rs) one b h w f = absurd b
  more_wanted so_far (receipt.Failed ∷ rs) one b h w f = absurd b

  one_more_bytes : (rs : List Receipt) (piece : List ℕ) → GaveBytes rs → GaveBytes (rs ++ receipt.Bytes piece ∷ [])
  one_more_bytes [] piece b = tt
  one_more_bytes (receipt.Bytes p ∷ rs) piece b = one_more_bytes rs piece b
  one_more_bytes (receipt.End ∷ rs) piece b = absurd b
  one_more_bytes (receipt.Failed ∷ rs) piece b = absurd b

  pub none_yet : (so_far : List ℕ) (told : Option (List LinkCall)) → GoesOnReceiving Wants most so_far told told []
  none_yet so_far told = record { receives = record { receipts = []; gave = refl; wanted = tt; tells = tells_nothing told }; bytes = tt }

  pub one_receive : (so_far : List ℕ) (a b c : Option (List LinkCall)) (taken : List ℕ) (one : Receipt) → GoesOnReceiving Wants most so_far a b taken → Wants (so_far ++ taken) → FitsIn most one → TellsCall b (call.Receive one) c → Receives Wants most so_far a c (taken ++ bytes_in (one ∷ []))
  one_receive so_far a b c taken one g w f k =
      let r = g.receives in
      record {
        receipts = r.receipts ++ one ∷ [];
        gave = ap (λ (t : List ℕ). t ++ bytes_in (one ∷ [])) r.gave ∙ sym (bytes_both r.receipts (one ∷ []));
        wanted = more_wanted so_far r.receipts one g.bytes r.wanted (subst (λ (t : List ℕ). Wants (so_far ++ t)) r.gave w) f;
        tells = subst (λ (cs : List LinkCall). TellsCalls a cs c) (sym (map_both call.Receive r.receipts (one ∷ []))) (tells_one a b c (map call.Receive r.receipts) (call.Receive one) r.tells k);
      }

  pub one_piece : (so_far : List ℕ) (a b c : Option (List LinkCall)) (taken piece : List ℕ) → GoesOnReceiving Wants most so_far a b taken → Wants (so_far ++ taken) → length piece ≤ most → TellsCall b (call.Receive (receipt.Bytes piece)) c → GoesOnReceiving Wants most so_far a c (taken ++ piece)
  unfolding one_receive
  one_piece so_far a b c taken piece g w f k =
      let r = one_receive so_far a b c taken (receipt.Bytes piece) g w f k in
      record {
        receives = record { receipts = r.receipts; gave = ap (λ (p : List ℕ). taken ++ p) (sym (append-nil piece)) ∙ r.gave; wanted = r.wanted; tells = r.tells };
        bytes = one_more_bytes g.receives.receipts piece g.bytes;
      }

  -- a receive that gave nothing
  pub no_piece : (so_far : List ℕ) (a b c : Option (List LinkCall)) (taken : List ℕ) (one : Receipt) → bytes_in (one ∷ []) ≡ [] → GoesOnReceiving Wants most so_far a b taken → Wants (so_far ++ taken) → FitsIn most one → TellsCall b (call.Receive one) c → Receives Wants most so_far a c taken
  no_piece so_far a b c taken one e g w f k =
      subst (λ (t : List ℕ). Receives Wants most so_far a c t) (ap (λ (t : List ℕ). taken ++ t) e ∙ append-nil taken) (one_receive so_far a b c taken one g w f k)

-- receives behind the request's line
pub asks_behind : (path line : List ℕ) (a b c : Option (List LinkCall)) (taken : List ℕ) → TellsCalls a (calls_to_ask path line []) b → Receives IsAwaiting 65536 [] b c taken → CallsForReply path line a c taken
asks_behind path line a b c taken h r = record {
  receipts = r.receipts;
  gave = r.gave;
  wanted = r.wanted;
  tells = tells_both a b c (calls_to_ask path line []) (map call.Receive r.receipts) h r.tells;
}
