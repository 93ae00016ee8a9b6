-- The lines of replies, one behind another.
use Rattle.std.proofs.Common.{◌≡◌, ◌≢◌, ℕ, zero, suc, ◌+◌, ◌-◌, ◌<◌, ◌^◌, ◌⊎◌, inl, inr, List, [], ◌∷◌, ◌++◌, length, length-append, length-take, drop, get_or, take, refl, sym, ap, ◌∙◌, append_assoc, arith, Option, Some, None, Result, Ok, Err}
use Rattle.std.specs.Prelude.{decimal, codes}
use Rattle.std.proofs.lemmas.List.{append-nil, take-append-drop}
use Rattle.ug_types.specs.Elements.{Has}
use Rattle.ug_types.specs.declared.refusal.Refusal.{Refusal}
use Rattle.ug_proto.specs.declared.reply.Reply.{Reply}
use Rattle.ug_proto.specs.declared.reply.Reply.TheVariants.{Lines, Refused}
use Rattle.ug_proto.specs.declared.reply.ReplyFault.{ReplyFault}
use Rattle.ug_proto.specs.declared.reply.ReplyFault.TheVariants as fault
use Rattle.ug_proto.specs.declared.scan.Stop.{Stop}
use Rattle.ug_proto.specs.declared.scan.Stop.TheVariants as stop
use Rattle.ug_proto.specs.AnswerParts.{IsUnended, AreCountedLines, answer_text, IsAnswer}
use Rattle.ug_proto.specs.RefusalParts.{number_then, IsNumberIn, refusal_line}
use Rattle.ug_proto.specs.Replies.{ended_lines, reply_text, AreWholeLines, IsReply}
use Rattle.ug_types.specs.Refusals.{IsRefusal}
use Rattle.ug_proto.specs.ReplyReading.{BeginsWithReply, IsReplyBegun, IsNoReply, ReadsReply}
use Rattle.ug_proto.specs.Scanning.{IsTextBegun, NeverBecomes, IsTextThen, IsStop}
use Rattle.ug_proto.proofs.OneReply.{one_reply, refused_first}
use Rattle.ug_proto.proofs.RefusalScans.{one_number}
use Rattle.ug_proto.proofs.Scans.{begins_with, goes_on}

-- lines without bytes
abbrev empty_lines : ℕ → List (List ℕ)
empty_lines zero = []
empty_lines (suc n) = [] ∷ empty_lines n

empty_whole : (n : ℕ) → AreWholeLines (empty_lines n)
empty_whole zero = tt
empty_whole (suc n) = ((λ h. h), empty_whole n)

empty_length : (n : ℕ) → length (empty_lines n) ≡ n
empty_length zero = refl
empty_length (suc n) = ap suc (empty_length n)

ended_both : (a b : List (List ℕ)) → ended_lines (a ++ b) ≡ ended_lines a ++ ended_lines b
ended_both [] b = refl
ended_both (line ∷ a) b = ap (λ (l : List ℕ). line ++ 10 ∷ l) (ended_both a b) ∙ sym (append_assoc line (10 ∷ ended_lines a) (ended_lines b))

whole_both : (a b : List (List ℕ)) → AreWholeLines a → AreWholeLines b → AreWholeLines (a ++ b)
whole_both [] b h k = k
whole_both (line ∷ a) b h k = (h.0, whole_both a b h.1 k)

-- one line more
pub line_more : (bytes rest line behind : List ℕ) (lines : List (List ℕ)) → bytes ≡ ended_lines lines ++ rest → rest ≡ line ++ 10 ∷ behind → bytes ≡ ended_lines (lines ++ line ∷ []) ++ behind
line_more bytes rest line behind lines e f =
    e ∙ ap (λ (l : List ℕ). ended_lines lines ++ l) (f ∙ sym (append_assoc line (10 ∷ []) behind)) ∙ sym (append_assoc (ended_lines lines) (line ++ 10 ∷ []) behind)
    ∙ ap (λ (l : List ℕ). l ++ behind) (sym (ended_both lines (line ∷ [])))

pub whole_more : (lines : List (List ℕ)) (line : List ℕ) → AreWholeLines lines → ¬ Has line 10 → AreWholeLines (lines ++ line ∷ [])
whole_more lines line h k = whole_both lines (line ∷ []) h (k, tt)

pub count_more : (lines : List (List ℕ)) (line : List ℕ) (n : ℕ) → length lines ≡ n → length (lines ++ line ∷ []) ≡ n + 1
count_more lines line n h = omega (arith, length-append lines (line ∷ []), h)

-- lines of which the next isn't ended
pub lines_stop : (count i : ℕ) (bytes rest : List ℕ) (lines : List (List ℕ)) (s : Stop) → i < count → AreWholeLines lines → length lines ≡ i → bytes ≡ ended_lines lines ++ rest → IsUnended rest s → IsStop ended_lines (AreCountedLines count) bytes s
lines_stop count i bytes rest lines stop.Short l h k e u =
    let later = empty_lines (count - (i + 1)) in record {
      it = lines ++ rest ∷ later;
      can = (whole_both lines (rest ∷ later) h (u, empty_whole (count - (i + 1))), omega (arith, length-append lines (rest ∷ later), empty_length (count - (i + 1)), k, l));
      more = 10 ∷ ended_lines later;
      some = λ q. (let none : ⊥ = cc in none);
      whole = ap (λ (t : List ℕ). t ++ 10 ∷ ended_lines later) e ∙ append_assoc (ended_lines lines) rest (10 ∷ ended_lines later) ∙ sym (ended_both lines (rest ∷ later));
    }
lines_stop count i bytes rest lines stop.Bad l h k e u = absurd u
lines_stop count i bytes rest lines stop.Memory l h k e u = tt

answer_parts : (lines : List (List ℕ)) → answer_text lines ≡ number_then 10 (length lines) ++ ended_lines lines
answer_parts lines = sym (append_assoc (decimal (length lines)) (10 ∷ []) (ended_lines lines))

pub count_stops : (bytes : List ℕ) (s : Stop) → IsStop (number_then 10) (IsNumberIn 0 18446744073709551615) bytes s → IsStop answer_text IsAnswer bytes s
count_stops bytes s h =
    begins_with answer_text IsAnswer (number_then 10) (IsNumberIn 0 18446744073709551615) bytes s
    (λ lines c. (length lines, (omega arith, omega (arith, c.1)), ended_lines lines, answer_parts lines))
    (λ n k. (
      empty_lines n,
      (empty_whole n, omega (arith, empty_length n, k.1)),
      ended_lines (empty_lines n),
      answer_parts (empty_lines n) ∙ ap (λ (m : ℕ). number_then 10 m ++ ended_lines (empty_lines n)) (empty_length n),
    )) h

pub answer_stops : (n : ℕ) (bytes behind : List ℕ) (s : Stop) → n < 2 ^ 64 → bytes ≡ number_then 10 n ++ behind → IsStop ended_lines (AreCountedLines n) behind s → IsStop answer_text IsAnswer bytes s
answer_stops n bytes behind s l w h =
    goes_on answer_text IsAnswer ended_lines (AreCountedLines n) bytes (number_then 10 n) behind s w
    (λ lines more rest c e.
    let same : n ≡ length lines = one_number 10 18446744073709551615 (omega arith) (omega arith) n (length lines) more (ended_lines lines ++ rest) (omega arith, omega (arith, l)) (omega arith, omega (arith, c.1))
    (e ∙ ap (λ (t : List ℕ). t ++ rest) (answer_parts lines) ∙ append_assoc (number_then 10 (length lines)) (ended_lines lines) rest) in
    (lines, (c.0, sym same), answer_parts lines ∙ ap (λ (m : ℕ). number_then 10 m ++ ended_lines lines) (sym same)))
    (λ lines c. (lines, (c.0, omega (arith, c.1, l)), answer_parts lines ∙ ap (λ (m : ℕ). number_then 10 m ++ ended_lines lines) c.1)) h

pub answer_taken : (n : ℕ) (bytes behind rest : List ℕ) (lines : List (List ℕ)) → n < 2 ^ 64 → bytes ≡ number_then 10 n ++ behind → IsTextThen ended_lines (AreCountedLines n) behind lines rest → IsTextThen answer_text IsAnswer bytes lines rest
answer_taken n bytes behind rest lines l w h = (
  (h.0.0, omega (arith, h.0.1, l)),
  w ∙ ap (λ (m : ℕ). number_then 10 m ++ behind) (sym h.0.1) ∙ ap (λ (t : List ℕ). number_then 10 (length lines) ++ t) h.1 ∙ sym (append_assoc (number_then 10 (length lines)) (ended_lines lines) rest)
      ∙ ap (λ (t : List ℕ). t ++ rest) (sym (answer_parts lines)),
)

lines_text : (lines : List (List ℕ)) → reply_text (Lines lines) ≡ codes "ok " ++ answer_text lines
unfolding reply_text
lines_text lines = refl

refused_text : (r : Refusal) → reply_text (Refused r) ≡ refusal_line r
unfolding reply_text
refused_text r = refl

-- behind `ok `
pub ok_stops : (bytes behind : List ℕ) (s : Stop) → bytes ≡ codes "ok " ++ behind → IsStop answer_text IsAnswer behind s → IsStop reply_text IsReply bytes s
ok_stops bytes behind s w h = goes_on reply_text IsReply answer_text IsAnswer bytes (codes "ok ") behind s w only (λ lines c. (Lines lines, c, lines_text lines)) h
  where
    only : (r : Reply) (more rest : List ℕ) → IsReply r → codes "ok " ++ more ≡ reply_text r ++ rest → (lines : List (List ℕ)) × IsAnswer lines × (reply_text r ≡ codes "ok " ++ answer_text lines)
    only (Lines lines) more rest c e = (lines, c, lines_text lines)
    only (Refused r) more rest c e = absurd (omega (arith, refused_first r rest, ap (λ (l : List ℕ). get_or l 0 0) e))

pub ok_begun : (bytes : List ℕ) → IsTextBegun {X = Unit {0}} (λ _. codes "ok ") (λ _. Unit {0}) bytes → IsTextBegun reply_text IsReply bytes
ok_begun bytes h = begins_with_lines (begun h)
  where
    begun : IsTextBegun {X = Unit {0}} (λ _. codes "ok ") (λ _. Unit {0}) bytes → (more : List ℕ) × (more ≢ []) × (bytes ++ more ≡ codes "ok ")
    begun h = (h.more, h.some, h.whole)

    longer : (a b : List ℕ) → a ≢ [] → a ++ b ≢ []
    longer [] b n e = n refl
    longer (c ∷ a) b n e = let none : ⊥ = cc in none

    begins_with_lines : (more : List ℕ) × (more ≢ []) × (bytes ++ more ≡ codes "ok ") → IsTextBegun reply_text IsReply bytes
    begins_with_lines m = record {
      it = Lines [];
      can = (tt, omega arith);
      more = m.0 ++ answer_text [];
      some = longer m.0 (answer_text []) m.1;
      whole = sym (append_assoc bytes m.0 (answer_text [])) ∙ ap (λ (l : List ℕ). l ++ answer_text []) m.2 ∙ sym (lines_text []);
    }

pub ok_taken : (bytes behind rest : List ℕ) (lines : List (List ℕ)) → bytes ≡ codes "ok " ++ behind → IsTextThen answer_text IsAnswer behind lines rest → IsTextThen reply_text IsReply bytes (Lines lines) rest
ok_taken bytes behind rest lines w h = (h.0, w ∙ ap (λ (l : List ℕ). codes "ok " ++ l) h.1 ∙ sym (append_assoc (codes "ok ") (answer_text lines) rest) ∙ ap (λ (l : List ℕ). l ++ rest) (sym (lines_text lines)))

-- where no `ok ` can stand
pub refused_stops : (bytes : List ℕ) (s : Stop) → NeverBecomes {X = Unit {0}} (λ _. codes "ok ") (λ _. Unit {0}) bytes → IsStop refusal_line IsRefusal bytes s → IsStop reply_text IsReply bytes s
refused_stops bytes stop.Short n h = record { it = Refused h.it; can = h.can; more = h.more; some = h.some; whole = h.whole ∙ sym (refused_text h.it) }
refused_stops bytes stop.Bad n h = never
  where
    never : (r : Reply) (more rest : List ℕ) → IsReply r → bytes ++ more ≡ reply_text r ++ rest → ⊥
    never (Lines lines) more rest c e = n tt more (answer_text lines ++ rest) tt (e ∙ ap (λ (l : List ℕ). l ++ rest) (lines_text lines) ∙ append_assoc (codes "ok ") (answer_text lines) rest)
    never (Refused r) more rest c e = h r more rest c (e ∙ ap (λ (l : List ℕ). l ++ rest) (refused_text r))
refused_stops bytes stop.Memory n h = tt

pub refused_taken : (bytes rest : List ℕ) (r : Refusal) → IsTextThen refusal_line IsRefusal bytes r rest → IsTextThen reply_text IsReply bytes (Refused r) rest
refused_taken bytes rest r h = (h.0, h.1 ∙ ap (λ (l : List ℕ). l ++ rest) (sym (refused_text r)))

-- what the reading tells
pub no_reply : (bytes : List ℕ) → NeverBecomes reply_text IsReply bytes → IsNoReply bytes
no_reply bytes h = (
  (λ b. h b.it b.more [] b.can (b.whole ∙ sym (append-nil (reply_text b.it)))),
  λ r n b. h r [] (drop n bytes) b.0 (append-nil bytes ∙ sym (take-append-drop n bytes) ∙ ap (λ (l : List ℕ). l ++ drop n bytes) b.2),
)

-- of two texts that go on to one, one begins with the other
longer_front : (a b x y : List ℕ) → a ++ x ≡ b ++ y → ((more : List ℕ) × (a ++ more ≡ b)) ⊎ ((more : List ℕ) × (b ++ more ≡ a))
longer_front [] b x y e = inl (b, refl)
longer_front (c ∷ a) [] x y e = inr (c ∷ a, refl)
longer_front (c ∷ a) (d ∷ b) x y e =
    let first : c ≡ d = cc in
    let rest : a ++ x ≡ b ++ y = cc in
    elim (longer_front a b x y rest) as (λ _. ((more : List ℕ) × ((c ∷ a) ++ more ≡ d ∷ b)) ⊎ ((more : List ℕ) × ((d ∷ b) ++ more ≡ c ∷ a))) [
      | inl h ↦ inl (h.0, λ i. first i ∷ h.1 i)
      | inr h ↦ inr (h.0, λ i. sym first i ∷ h.1 i)
    ]

one_in_front : (a b : Reply) (x y : List ℕ) → IsReply a → IsReply b → reply_text a ++ x ≡ reply_text b ++ y → a ≡ b
one_in_front a b x y h k e = elim (longer_front (reply_text a) (reply_text b) x y e) as (λ _. a ≡ b) [
  | inl m ↦ (one_reply a b m.0 h k m.1).0
  | inr m ↦ sym (one_reply b a m.0 k h m.1).0
]

-- a text is read in one way
same_place : (bytes : List ℕ) (a b : Reply) (m n : ℕ) → BeginsWithReply bytes a m → BeginsWithReply bytes b n → (a ≡ b) × (m ≡ n)
same_place bytes a b m n h k =
    let front = sym (ap (λ (l : List ℕ). l ++ drop m bytes) h.2) ∙ take-append-drop m bytes in
    let other = sym (ap (λ (l : List ℕ). l ++ drop n bytes) k.2) ∙ take-append-drop n bytes in
    let same : a ≡ b = one_in_front a b (drop m bytes) (drop n bytes) h.0 k.0 (front ∙ sym other) in
    let sizes : length (take m bytes) ≡ length (take n bytes) = ap length h.2 ∙ ap (λ (r : Reply). length (reply_text r)) same ∙ sym (ap length k.2) in
    (same, omega (arith, sizes, length-take m bytes, length-take n bytes, h.1, k.1))

not_both : (bytes : List ℕ) (r : Reply) (n : ℕ) → BeginsWithReply bytes r n → IsReplyBegun bytes → ⊥
not_both bytes r n h b =
    let whole : reply_text r ++ (drop n bytes ++ b.more) ≡ reply_text b.it =
    sym (append_assoc (reply_text r) (drop n bytes) b.more) ∙ ap (λ (l : List ℕ). l ++ b.more) (sym (ap (λ (l : List ℕ). l ++ drop n bytes) h.2) ∙ take-append-drop n bytes) ∙ b.whole in
    let none : drop n bytes ++ b.more ≡ [] = (one_reply r b.it (drop n bytes ++ b.more) h.0 b.can whole).1 in
    b.some (behind (drop n bytes) b.more none)
  where
    behind : (x y : List ℕ) → x ++ y ≡ [] → y ≡ []
    behind [] y e = e
    behind (c ∷ x) y e = let none : ⊥ = cc in absurd none

abbrev Read : Type 0
Read = Result (Option (Reply × ℕ)) ReplyFault

told : (r s : Reply) (m n : ℕ) → r ≡ s → m ≡ n → ◌≡◌ {A = Read} (Ok (Some (r, m))) (Ok (Some (s, n)))
told r s m n e f = λ i. Ok (Some (e i, f i))

pub read_in_one_way : (bytes : List ℕ) (a b : Read) → ReadsReply bytes a → ReadsReply bytes b → a ≢ Err fault.Memory → b ≢ Err fault.Memory → a ≡ b
read_in_one_way bytes (Ok (Some r)) (Ok (Some s)) h k x y = let e = same_place bytes r.0 s.0 r.1 s.1 h k in told r.0 s.0 r.1 s.1 e.0 e.1
read_in_one_way bytes (Ok (Some r)) (Ok None) h k x y = absurd (not_both bytes r.0 r.1 h k)
read_in_one_way bytes (Ok (Some r)) (Err fault.BadReply) h k x y = absurd (k.1 r.0 r.1 h)
read_in_one_way bytes (Ok None) (Ok (Some s)) h k x y = absurd (not_both bytes s.0 s.1 k h)
read_in_one_way bytes (Ok None) (Ok None) h k x y = refl
read_in_one_way bytes (Ok None) (Err fault.BadReply) h k x y = absurd (k.0 h)
read_in_one_way bytes (Err fault.BadReply) (Ok (Some s)) h k x y = absurd (h.1 s.0 s.1 k)
read_in_one_way bytes (Err fault.BadReply) (Ok None) h k x y = absurd (h.0 k)
read_in_one_way bytes (Err fault.BadReply) (Err fault.BadReply) h k x y = refl
read_in_one_way bytes (Err fault.Memory) b h k x y = absurd (x refl)
read_in_one_way bytes a (Err fault.Memory) h k x y = absurd (y refl)
