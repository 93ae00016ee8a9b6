-- No reply's text begins with that of another.
use Rattle.std.proofs.Common.{◌≡◌, ℕ, List, [], ◌∷◌, ◌++◌, length, drop, get_or, refl, sym, ap, ◌∙◌, append_assoc, arith}
use Rattle.std.specs.Prelude.{decimal}
use Rattle.std.proofs.lemmas.Fmt.{decimal_injective}
use Rattle.ug_types.proofs.RefusalRead.{one_refusal, refusal_on_line}
use Rattle.ug_types.proofs.SpacedWords.{line_no_newline}
use Rattle.ug_types.specs.Refusals.{refusal_words}
use Rattle.ug_types.specs.declared.refusal.Refusal.{Refusal}
use Rattle.ug_proto.specs.declared.reply.Reply.{Reply}
use Rattle.ug_proto.specs.declared.reply.Reply.TheVariants.{Lines, Refused}
use Rattle.ug_proto.specs.Replies.{ended_lines, reply_text, AreWholeLines, IsReply}
use Rattle.ug_proto.proofs.Scans.{cut, number_has_no}
use Rattle.ug_proto.proofs.RefusalNumbers.{line_parts}

one_list : (ls ms : List (List ℕ)) (more : List ℕ) → AreWholeLines ls → AreWholeLines ms → length ls ≡ length ms → ended_lines ls ++ more ≡ ended_lines ms → (ls ≡ ms) × (more ≡ [])
one_list [] [] more h k l e = (refl, e)
one_list [] (b ∷ ms) more h k l e = absurd (omega (arith, l))
one_list (a ∷ ls) [] more h k l e = absurd (omega (arith, l))
one_list (a ∷ ls) (b ∷ ms) more h k l e =
    let c = cut 10 a b (ended_lines ls ++ more) (ended_lines ms) h.0 k.0 (sym (append_assoc a (10 ∷ ended_lines ls) more) ∙ e) in
    let r = one_list ls ms more h.1 k.1 (omega (arith, l)) c.1 in
    (λ i. c.0 i ∷ r.0 i, r.1)

same_lines : (ls ms : List (List ℕ)) (more : List ℕ) → IsReply (Lines ls) → IsReply (Lines ms) → reply_text (Lines ls) ++ more ≡ reply_text (Lines ms) → (ls ≡ ms) × (more ≡ [])
unfolding reply_text
same_lines ls ms more h k e =
    let behind : decimal (length ls) ++ (10 ∷ (ended_lines ls ++ more)) ≡ decimal (length ms) ++ (10 ∷ ended_lines ms) = sym (append_assoc (decimal (length ls)) (10 ∷ ended_lines ls) more) ∙ ap (drop 3) e in
    let c = cut 10 (decimal (length ls)) (decimal (length ms)) (ended_lines ls ++ more) (ended_lines ms) (number_has_no 10 (length ls) (omega arith) h.1) (number_has_no 10 (length ms) (omega arith) k.1) behind in
    one_list ls ms more h.0 k.0 (decimal_injective (length ls) (length ms) h.1 k.1 c.0) c.1

same_refusal : (a b : Refusal) (more : List ℕ) → IsReply (Refused a) → IsReply (Refused b) → reply_text (Refused a) ++ more ≡ reply_text (Refused b) → (a ≡ b) × (more ≡ [])
unfolding reply_text
same_refusal a b more h k e =
    let c = cut 10 (refusal_words a) (refusal_words b) more [] (line_no_newline (refusal_words a) (refusal_on_line a h)) (line_no_newline (refusal_words b) (refusal_on_line b k)) (sym (append_assoc (refusal_words a) (10 ∷ []) more) ∙ e) in
    (one_refusal a b h k c.0, c.1)

lines_first : (lines : List (List ℕ)) (more : List ℕ) → get_or (reply_text (Lines lines) ++ more) 0 0 ≡ 111
unfolding reply_text
lines_first lines more = refl

pub refused_first : (r : Refusal) (more : List ℕ) → get_or (reply_text (Refused r) ++ more) 0 0 ≡ 114
unfolding reply_text
refused_first r more = ap (λ (l : List ℕ). get_or (l ++ more) 0 0) (line_parts r)

refused_alone : (r : Refusal) → get_or (reply_text (Refused r)) 0 0 ≡ 114
unfolding reply_text
refused_alone r = ap (λ (l : List ℕ). get_or l 0 0) (line_parts r)

lines_alone : (lines : List (List ℕ)) → get_or (reply_text (Lines lines)) 0 0 ≡ 111
unfolding reply_text
lines_alone lines = refl

pub one_reply : (a b : Reply) (more : List ℕ) → IsReply a → IsReply b → reply_text a ++ more ≡ reply_text b → (a ≡ b) × (more ≡ [])
one_reply (Lines ls) (Lines ms) more h k e = let r = same_lines ls ms more h k e in (ap Lines r.0, r.1)
one_reply (Refused a) (Refused b) more h k e = let r = same_refusal a b more h k e in (ap Refused r.0, r.1)
one_reply (Lines ls) (Refused b) more h k e = absurd (omega (arith, lines_first ls more, ap (λ (l : List ℕ). get_or l 0 0) e, refused_alone b))
one_reply (Refused a) (Lines ms) more h k e = absurd (omega (arith, refused_first a more, ap (λ (l : List ℕ). get_or l 0 0) e, lines_alone ms))
