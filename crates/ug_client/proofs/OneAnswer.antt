-- What all bytes of a link hold.
use Rattle.std.proofs.Common.{◌≡◌, ℕ, zero, suc, ◌-◌, ◌≤◌, ◌⊎◌, inl, inr, List, [], ◌∷◌, ◌++◌, length, take, Some, refl, sym, ap, subst, ◌∙◌, append_assoc, arith}
use Rattle.std.proofs.lemmas.List.{append-nil, take_all}
use Rattle.ug_types.specs.Limits.{text_limit}
use Rattle.ug_proto.specs.declared.reply.Reply.{Reply}
use Rattle.ug_proto.specs.Replies.{ended_lines, reply_text, IsReply}
use Rattle.ug_proto.proofs.OneReply.{one_reply}
use Rattle.ug_client.specs.Answers.{AreNotices, Replied, IsUnanswered}
use Rattle.ug_client.specs.Awaiting.{GivesNoReply, Ended, Full, Never}
use Rattle.ug_client.specs.WholeBytes.{HoldsReply, GivesNone}
use Rattle.ug_client.proofs.Skipping.{behind_notice, reply_or_notice}
use Rattle.ug_client.proofs.WatchCalls.{replied_more}

-- a front that is within the limit, and what follows within it
front_taken : (n : ℕ) (a b : List ℕ) → length a ≤ n → take n (a ++ b) ≡ a ++ take (n - length a) b
front_taken n [] b l = ap (λ (k : ℕ). take k b) (let z : n ≡ n - 0 = omega arith in z)
front_taken zero (c ∷ a) b l = absurd (omega (arith, l))
front_taken (suc n) (c ∷ a) b l = ap (λ (t : List ℕ). c ∷ t) (front_taken n a b (omega (arith, l)) ∙ ap (λ (k : ℕ). a ++ take k b) (let z : n - length a ≡ suc n - suc (length a) = omega arith in z))

pub gives : (taken more behind : List ℕ) (reply : Reply) → length taken ≤ text_limit → Replied taken reply behind → HoldsReply (taken ++ more) reply
gives taken more behind reply l r =
    let rest = take (text_limit - length taken) more in
    record { behind = behind ++ rest; replied = subst (λ (b : List ℕ). Replied b reply (behind ++ rest)) (sym (front_taken text_limit taken more l)) (replied_more taken reply behind rest r) }

pub gives_none : (taken more : List ℕ) → length taken ≤ text_limit → GivesNoReply taken (Some more) → GivesNone (taken ++ more)
gives_none taken more l (Ended e n) =
    let same : take text_limit (taken ++ more) ≡ taken = ap (λ (b : List ℕ). take text_limit (taken ++ b)) e ∙ (ap (λ (b : List ℕ). take text_limit b) (append-nil taken) ∙ take_all text_limit taken l) in
    subst IsUnanswered (sym same) n
gives_none taken more l (Full e n) =
    let rest : take (text_limit - length taken) more ≡ [] = ap (λ (k : ℕ). take k more) (let z : text_limit - length taken ≡ 0 = omega (arith, e) in z) in
    let same : take text_limit (taken ++ more) ≡ taken = front_taken text_limit taken more l ∙ (ap (λ (b : List ℕ). taken ++ b) rest ∙ append-nil taken) in
    subst IsUnanswered (sym same) n
gives_none taken more l (Never n) = subst IsUnanswered (sym (front_taken text_limit taken more l)) (n (take (text_limit - length taken) more))

-- of two texts that go on to one, one begins with the other
longer_front : (a b x y : List ℕ) → a ++ x ≡ b ++ y → ((more : List ℕ) × (a ++ more ≡ b)) ⊎ ((more : List ℕ) × (b ++ more ≡ a))
longer_front [] b x y e = inl (b, refl)
longer_front (c ∷ a) [] x y e = inr (c ∷ a, refl)
longer_front (c ∷ a) (d ∷ b) x y e =
    let first : c ≡ d = cc in
    let rest : a ++ x ≡ b ++ y = cc in
    elim (longer_front a b x y rest) as (λ _. ((more : List ℕ) × ((c ∷ a) ++ more ≡ d ∷ b)) ⊎ ((more : List ℕ) × ((d ∷ b) ++ more ≡ c ∷ a))) [
      | inl h ↦ inl (h.0, λ i. first i ∷ h.1 i)
      | inr h ↦ inr (h.0, λ i. sym first i ∷ h.1 i)
    ]

one_in_front : (a b : Reply) (x y : List ℕ) → IsReply a → IsReply b → reply_text a ++ x ≡ reply_text b ++ y → a ≡ b
one_in_front a b x y h k e = elim (longer_front (reply_text a) (reply_text b) x y e) as (λ _. a ≡ b) [
  | inl m ↦ (one_reply a b m.0 h k m.1).0
  | inr m ↦ sym (one_reply b a m.0 k h m.1).0
]

-- behind the same notices
one_behind : (ls : List (List ℕ)) (bytes : List ℕ) (a b : Reply) (x y : List ℕ) → AreNotices ls → IsReply a → bytes ≡ ended_lines ls ++ (reply_text a ++ x) → Replied bytes b y → a ≡ b
one_behind [] bytes a b x y each can w r = alone r.notices r.each r.whole
  where
    alone : (ms : List (List ℕ)) → AreNotices ms → bytes ≡ ended_lines ms ++ (reply_text b ++ y) → a ≡ b
    alone [] each e = one_in_front a b x y can r.can (sym w ∙ e)
    alone (m ∷ ms) each e = absurd (reply_or_notice m (10 ∷ (ended_lines ms ++ (reply_text b ++ y))) a x each.0 (sym (e ∙ append_assoc m (10 ∷ ended_lines ms) (reply_text b ++ y)) ∙ w))
one_behind (l ∷ ls) bytes a b x y each can w r =
    let whole : bytes ≡ l ++ 10 ∷ (ended_lines ls ++ (reply_text a ++ x)) = w ∙ append_assoc l (10 ∷ ended_lines ls) (reply_text a ++ x) in
    one_behind ls (ended_lines ls ++ (reply_text a ++ x)) a b x y each.1 can refl (behind_notice l (ended_lines ls ++ (reply_text a ++ x)) b y each.0 (subst (λ (t : List ℕ). Replied t b y) whole r))

pub one_answer : (all : List ℕ) (a b : Reply) → HoldsReply all a → HoldsReply all b → a ≡ b
one_answer all a b g h = one_behind g.replied.notices (take text_limit all) a b g.behind h.behind g.replied.each g.replied.can g.replied.whole h.replied
