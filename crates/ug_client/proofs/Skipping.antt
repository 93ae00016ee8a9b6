-- Replies behind notices.
use Rattle.std.proofs.Common.{◌≡◌, ◌≢◌, ℕ, ◌+◌, ◌<◌, ◌≤◌, ◌⊎◌, inl, inr, List, [], ◌∷◌, ◌++◌, length, take, drop, get_or, refl, sym, ap, subst, ◌∙◌, append_assoc, length-append, length-drop, arith}
use Rattle.std.specs.Prelude.{codes, Option, Some, None, Result, Ok, Err}
use Rattle.std.proofs.lemmas.List.{append-nil, take-append-drop}
use Rattle.std.proofs.Math.Seq.{take-append_seam, drop-drop}
use Rattle.ug_types.specs.Elements.{Has}
use Rattle.ug_types.proofs.Elements.{has_right}
use Rattle.ug_proto.specs.declared.reply.Reply.{Reply}
use Rattle.ug_proto.specs.declared.reply.Reply.TheVariants.{Lines, Refused}
use Rattle.ug_proto.specs.declared.reply.ReplyFault.{ReplyFault}
use Rattle.ug_proto.specs.declared.reply.ReplyFault.TheVariants.{BadReply, Memory}
use Rattle.ug_proto.specs.Replies.{ended_lines, reply_text, IsReply}
use Rattle.ug_proto.specs.ReplyReading.{BeginsWithReply, IsReplyBegun, IsNoReply, ReadsReply}
use Rattle.ug_proto.proofs.OneReply.{one_reply, refused_first}
use Rattle.ug_proto.proofs.Scans.{cut}
use Rattle.ug_client.specs.Answers.{IsNotice, IsNoticeBegun, AreNotices, EndsInNoticeBegun, MayBeReplied, Replied, IsAwaiting, IsNoAnswer, AnswersReply}
use Rattle.ug_client.proofs.Front.{notice_on_line}
use Rattle.ug_client.specs.Notices.{IsNoticeThen, BeginsOtherwise, IsBehindNotices}

lines_first : (lines : List (List ℕ)) (more : List ℕ) → get_or (reply_text (Lines lines) ++ more) 0 0 ≡ 111
unfolding reply_text
lines_first lines more = refl

-- no reply begins as a notice does, and none is empty
reply_first : (reply : Reply) (more : List ℕ) → 110 < get_or (reply_text reply ++ more) 0 0
reply_first (Lines lines) more = omega (arith, lines_first lines more)
reply_first (Refused refusal) more = omega (arith, refused_first refusal more)

notice_first : (line more : List ℕ) → IsNotice line → get_or (line ++ more) 0 0 ≡ 33
notice_first line more n = ap (λ (l : List ℕ). get_or (l ++ more) 0 0) n.is

no_reply_first : (bytes behind : List ℕ) (reply : Reply) → get_or bytes 0 0 ≤ 33 → ¬ (bytes ≡ reply_text reply ++ behind)
no_reply_first bytes behind reply l e = omega (arith, l, ap (λ (b : List ℕ). get_or b 0 0) e, reply_first reply behind)

-- one notice more
pub one_notice : (line rest : List ℕ) (reply : Reply) (behind : List ℕ) → IsNotice line → Replied rest reply behind → Replied (line ++ 10 ∷ rest) reply behind
one_notice line rest reply behind n r = record {
  notices = line ∷ r.notices;
  each = (n, r.each);
  can = r.can;
  whole = ap (λ (l : List ℕ). line ++ 10 ∷ l) r.whole ∙ sym (append_assoc line (10 ∷ ended_lines r.notices) (reply_text reply ++ behind));
}

-- where a notice stands, no reply does
pub reply_or_notice : (line more : List ℕ) (reply : Reply) (behind : List ℕ) → IsNotice line → ¬ (line ++ more ≡ reply_text reply ++ behind)
reply_or_notice line more reply behind n = no_reply_first (line ++ more) behind reply (omega (arith, notice_first line more n))

-- one notice less
behind_one : (line rest : List ℕ) (reply : Reply) (behind : List ℕ) (notices : List (List ℕ)) → IsNotice line → AreNotices notices → IsReply reply
    → line ++ 10 ∷ rest ≡ ended_lines notices ++ (reply_text reply ++ behind) → Replied rest reply behind
behind_one line rest reply behind [] n each can w = absurd (no_reply_first (line ++ 10 ∷ rest) behind reply (omega (arith, notice_first line (10 ∷ rest) n)) w)
behind_one line rest reply behind (l ∷ ls) n each can w =
    let c = cut 10 line l rest (ended_lines ls ++ (reply_text reply ++ behind)) (notice_on_line line n) (notice_on_line l each.0) (w ∙ append_assoc l (10 ∷ ended_lines ls) (reply_text reply ++ behind)) in
    record { notices = ls; each = each.1; can = can; whole = c.1 }

pub behind_notice : (line rest : List ℕ) (reply : Reply) (behind : List ℕ) → IsNotice line → Replied (line ++ 10 ∷ rest) reply behind → Replied rest reply behind
behind_notice line rest reply behind n r = behind_one line rest reply behind r.notices n r.each r.can r.whole

-- what is read behind notices is read with them
one_awaits : (line rest : List ℕ) → IsNotice line → IsAwaiting rest → IsAwaiting (line ++ 10 ∷ rest)
one_awaits line rest n a = record {
  none = λ reply behind r. a.none reply behind (behind_notice line rest reply behind n r);
  opened = elim a.opened as (λ _. MayBeReplied (line ++ 10 ∷ rest) ⊎ EndsInNoticeBegun (line ++ 10 ∷ rest)) [
    | inl m ↦ inl (record { more = m.more; reply = m.reply; can = subst (λ (l : List ℕ). Replied l m.reply []) (sym (append_assoc line (10 ∷ rest) m.more)) (one_notice line (rest ++ m.more) m.reply [] n m.can) })
    | inr m ↦ inr (record { notices = line ∷ m.notices; each = (n, m.each); rest = m.rest; whole = ap (λ (l : List ℕ). line ++ 10 ∷ l) m.whole ∙ sym (append_assoc line (10 ∷ ended_lines m.notices) m.rest); begun = m.begun })
  ];
}

one_never : (line rest : List ℕ) → IsNotice line → IsNoAnswer rest → IsNoAnswer (line ++ 10 ∷ rest)
one_never line rest n a more reply behind r = a more reply behind
    (behind_notice line (rest ++ more) reply behind n (subst (λ (l : List ℕ). Replied l reply behind) (append_assoc line (10 ∷ rest) more) r))

joins : (line : List ℕ) (ls : List (List ℕ)) (rest : List ℕ) → ended_lines (line ∷ ls) ++ rest ≡ line ++ 10 ∷ (ended_lines ls ++ rest)
joins line ls rest = append_assoc line (10 ∷ ended_lines ls) rest

pub notices_reply : (ls : List (List ℕ)) (rest : List ℕ) (reply : Reply) (behind : List ℕ) → AreNotices ls → Replied rest reply behind → Replied (ended_lines ls ++ rest) reply behind
notices_reply [] rest reply behind each r = r
notices_reply (l ∷ ls) rest reply behind each r = subst (λ (b : List ℕ). Replied b reply behind) (sym (joins l ls rest)) (one_notice l (ended_lines ls ++ rest) reply behind each.0 (notices_reply ls rest reply behind each.1 r))

pub notices_await : (ls : List (List ℕ)) (rest : List ℕ) → AreNotices ls → IsAwaiting rest → IsAwaiting (ended_lines ls ++ rest)
notices_await [] rest each a = a
notices_await (l ∷ ls) rest each a = subst IsAwaiting (sym (joins l ls rest)) (one_awaits l (ended_lines ls ++ rest) each.0 (notices_await ls rest each.1 a))

pub notices_never : (ls : List (List ℕ)) (rest : List ℕ) → AreNotices ls → IsNoAnswer rest → IsNoAnswer (ended_lines ls ++ rest)
notices_never [] rest each a = a
notices_never (l ∷ ls) rest each a = subst IsNoAnswer (sym (joins l ls rest)) (one_never l (ended_lines ls ++ rest) each.0 (notices_never ls rest each.1 a))

-- a line that isn't ended and may become a notice
begun_first : (bytes more words : List ℕ) → bytes ++ more ≡ codes "! " ++ words → get_or bytes 0 0 ≤ 33
begun_first [] more words n = omega arith
begun_first (b ∷ bytes) more words n = omega (arith, ap (λ (l : List ℕ). get_or l 0 0) n)

begun_unanswered : (bytes more words : List ℕ) (reply : Reply) (behind : List ℕ) (notices : List (List ℕ)) → ¬ Has bytes 10 → bytes ++ more ≡ codes "! " ++ words → bytes ≡ ended_lines notices ++ (reply_text reply ++ behind) → ⊥
begun_unanswered bytes more words reply behind [] h n w = no_reply_first bytes behind reply (begun_first bytes more words n) w
begun_unanswered bytes more words reply behind (l ∷ ls) h n w = h (subst (λ (b : List ℕ). Has b 10) (sym (w ∙ joins l ls (reply_text reply ++ behind))) (has_right l (10 ∷ (ended_lines ls ++ (reply_text reply ++ behind))) 10 (inl refl)))

pub begun_awaits : (bytes : List ℕ) → IsNoticeBegun bytes → IsAwaiting bytes
begun_awaits bytes b = record {
  none = λ reply behind r. begun_unanswered bytes b.more b.words reply behind r.notices b.one_line b.marked r.whole;
  opened = inr (record { notices = []; each = tt; rest = bytes; whole = refl; begun = b });
}

-- where no notice stands in front
other_notices : (bytes more tail : List ℕ) (notices : List (List ℕ)) → BeginsOtherwise bytes → AreNotices notices → bytes ++ more ≡ ended_lines notices ++ tail → bytes ++ more ≡ tail
other_notices bytes more tail [] o each w = w
other_notices bytes more tail (l ∷ ls) o each w = absurd (o l more (ended_lines ls ++ tail) each.0 (w ∙ joins l ls tail))

pub reply_there : (bytes : List ℕ) (reply : Reply) (n : ℕ) → BeginsWithReply bytes reply n → Replied bytes reply (drop n bytes)
reply_there bytes reply n b = record {
  notices = [];
  each = tt;
  can = b.0;
  whole = sym (take-append-drop n bytes) ∙ ap (λ (l : List ℕ). l ++ drop n bytes) b.2;
}

some_more : (a b : List ℕ) → a ++ b ≡ [] → b ≡ []
some_more [] b e = e
some_more (c ∷ a) b e = let none : ⊥ = cc in absurd none

pub reply_awaits : (bytes : List ℕ) → BeginsOtherwise bytes → IsReplyBegun bytes → IsAwaiting bytes
reply_awaits bytes o b = record {
  none = λ reply behind r.
      let w : bytes ++ [] ≡ reply_text reply ++ behind = other_notices bytes [] (reply_text reply ++ behind) r.notices o r.each (append-nil bytes ∙ r.whole) in
      let whole : reply_text reply ++ (behind ++ b.more) ≡ reply_text b.it = sym (append_assoc (reply_text reply) behind b.more) ∙ ap (λ (l : List ℕ). l ++ b.more) (sym w ∙ append-nil bytes) ∙ b.whole in
      b.some (some_more behind b.more (one_reply reply b.it (behind ++ b.more) r.can b.can whole).1);
  opened = inl (record { more = b.more; reply = b.it; can = record { notices = []; each = tt; can = b.can; whole = b.whole ∙ sym (append-nil (reply_text b.it)) } });
}

-- one text ends within the other, or behind it
by_length : (a b x y : List ℕ) → a ++ x ≡ b ++ y → ((more : List ℕ) × (a ≡ b ++ more)) ⊎ ((more : List ℕ) × (more ≢ []) × (a ++ more ≡ b))
by_length a [] x y e = inl (a, refl)
by_length [] (d ∷ b) x y e = inr (d ∷ b, (λ q. (let none : ⊥ = cc in none)), refl)
by_length (c ∷ a) (d ∷ b) x y e =
    let first : c ≡ d = cc in
    let rest : a ++ x ≡ b ++ y = cc in
    elim (by_length a b x y rest) as (λ _. ((more : List ℕ) × (c ∷ a ≡ (d ∷ b) ++ more)) ⊎ ((more : List ℕ) × (more ≢ []) × ((c ∷ a) ++ more ≡ d ∷ b))) [
      | inl h ↦ inl (h.0, λ i. first i ∷ h.1 i)
      | inr h ↦ inr (h.0, h.1, λ i. first i ∷ h.2 i)
    ]

pub reply_never : (bytes : List ℕ) → BeginsOtherwise bytes → IsNoReply bytes → IsNoAnswer bytes
reply_never bytes o n more reply behind r =
    let w : bytes ++ more ≡ reply_text reply ++ behind = other_notices bytes more (reply_text reply ++ behind) r.notices o r.each r.whole in
    elim (by_length bytes (reply_text reply) more behind w) as (λ _. ⊥) [
      | inl h ↦ n.1 reply (length (reply_text reply)) (r.can, omega (arith, ap (λ (l : List ℕ). length l) h.1, length-append (reply_text reply) h.0), ap (λ (l : List ℕ). take (length (reply_text reply)) l) h.1 ∙ take-append_seam (reply_text reply) h.0)
      | inr h ↦ n.0 (record { it = reply; can = r.can; more = h.0; some = h.1; whole = h.2 })
    ]

-- the same with the place told from an earlier byte on
abbrev pub moved : ℕ → Result (Option (Reply × ℕ)) ReplyFault → Result (Option (Reply × ℕ)) ReplyFault
moved at (Ok (Some answer)) = Ok (Some (answer.0, at + answer.1))
moved at (Ok None) = Ok None
moved at (Err fault) = Err fault

-- what is read of a text without notices in front, behind notices
pub behind_notices : (bytes : List ℕ) (at : ℕ) → at ≤ length bytes → IsBehindNotices bytes (drop at bytes) → (read : Result (Option (Reply × ℕ)) ReplyFault) → AnswersReply (drop at bytes) read → AnswersReply bytes (moved at read)
behind_notices bytes at l s (Ok (Some answer)) a = (
  omega (arith, a.0, length-drop at bytes),
  subst (λ (b : List ℕ). Replied bytes answer.0 b) (drop-drop answer.1 at bytes) (subst (λ (b : List ℕ). Replied b answer.0 (drop answer.1 (drop at bytes))) (sym s.whole) (notices_reply s.notices (drop at bytes) answer.0 (drop answer.1 (drop at bytes)) s.each a.1)),
)
behind_notices bytes at l s (Ok None) a = subst IsAwaiting (sym s.whole) (notices_await s.notices (drop at bytes) s.each a)
behind_notices bytes at l s (Err BadReply) a = subst IsNoAnswer (sym s.whole) (notices_never s.notices (drop at bytes) s.each a)
behind_notices bytes at l s (Err Memory) a = tt

pub read_other : (bytes : List ℕ) → BeginsOtherwise bytes → (read : Result (Option (Reply × ℕ)) ReplyFault) → ReadsReply bytes read → AnswersReply bytes read
read_other bytes o (Ok (Some answer)) r = (r.1, reply_there bytes answer.0 answer.1 r)
read_other bytes o (Ok None) r = reply_awaits bytes o r
read_other bytes o (Err BadReply) r = reply_never bytes o r
read_other bytes o (Err Memory) r = tt

-- notices so far
pub none_skipped : (bytes : List ℕ) → IsBehindNotices bytes bytes
none_skipped bytes = record { notices = []; each = tt; whole = refl }

put_last : (ls : List (List ℕ)) (line rest : List ℕ) → ended_lines (ls ++ line ∷ []) ++ rest ≡ ended_lines ls ++ (line ++ 10 ∷ rest)
put_last [] line rest = append_assoc line (10 ∷ []) rest
put_last (l ∷ ls) line rest = append_assoc l (10 ∷ ended_lines (ls ++ line ∷ [])) rest ∙ ap (λ (t : List ℕ). l ++ 10 ∷ t) (put_last ls line rest) ∙ sym (append_assoc l (10 ∷ ended_lines ls) (line ++ 10 ∷ rest))

each_last : (ls : List (List ℕ)) (line : List ℕ) → AreNotices ls → IsNotice line → AreNotices (ls ++ line ∷ [])
each_last [] line each n = (n, tt)
each_last (l ∷ ls) line each n = (each.0, each_last ls line each.1 n)

pub one_skipped : (bytes : List ℕ) (at n : ℕ) → IsBehindNotices bytes (drop at bytes) → IsNoticeThen (drop at bytes) (drop n (drop at bytes)) → IsBehindNotices bytes (drop (at + n) bytes)
one_skipped bytes at n s t = record {
  notices = s.notices ++ t.line ∷ [];
  each = each_last s.notices t.line s.each t.notice;
  whole = s.whole ∙ ap (λ (l : List ℕ). ended_lines s.notices ++ l) (t.whole ∙ ap (λ (l : List ℕ). t.line ++ 10 ∷ l) (drop-drop n at bytes)) ∙ sym (put_last s.notices t.line (drop (at + n) bytes));
}
