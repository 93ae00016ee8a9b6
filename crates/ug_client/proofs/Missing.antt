-- How many lines a reply is missing that has begun.
use Rattle.std.proofs.Common.{◌≡◌, ◌≢◌, ℕ, zero, suc, ◌+◌, ◌-◌, ◌<◌, ◌≤◌, ◌^◌, Bool, true, false, cond, nat_eq, inl, inr, List, [], ◌∷◌, ◌++◌, length, take, drop, get_or, Some, refl, sym, ap, subst, ◌∙◌, append_assoc, length-append, arith}
use Rattle.std.specs.Prelude.{codes, decimal}
use Rattle.std.specs.Cmp.Lexicographic.{pointwise}
use Rattle.std.proofs.lemmas.Bool.{false≢true}
use Rattle.std.proofs.lemmas.Bool.Decides.{nat_tests}
use Rattle.std.proofs.lemmas.List.{append-nil, drop-append-le, take-append-drop}
use Rattle.std.proofs.lemmas.List.Sums.{sum_by-append, sum_by-cons}
use Rattle.ug_types.specs.Elements.{Has}
use Rattle.ug_types.proofs.Elements.{has_cases}
use Rattle.ug_lines.specs.Numbers.{number_in}
use Rattle.ug_lines.proofs.Numerals.{number_found}
use Rattle.ug_proto.specs.declared.reply.Reply.TheVariants.{Lines}
use Rattle.ug_proto.specs.Replies.{AreWholeLines, ended_lines, reply_text}
use Rattle.ug_proto.specs.ReplyReading.{IsReplyBegun}
use Rattle.ug_proto.proofs.Scans.{word_then}
use Rattle.ug_client.specs.Answers.{IsAwaiting, IsNotice}
use Rattle.ug_client.specs.Notices.{BeginsOtherwise, IsBehindNotices}
use Rattle.ug_client.specs.ReadSoFar.{AwaitsLines, IsReadSoFar, newlines}
use Rattle.ug_client.specs.declared.so_far.SoFar.{SoFar}
use Rattle.ug_client.proofs.Skipping.{begun_awaits, none_skipped, notices_await, reply_awaits}

newlines-cons : (b : ℕ) (bytes : List ℕ) → newlines (b ∷ bytes) ≡ cond (nat_eq b 10) 1 0 + newlines bytes
newlines-cons b bytes = sum_by-cons (λ x. cond (nat_eq x 10) 1 0) b bytes

newlines-append : (a b : List ℕ) → newlines (a ++ b) ≡ newlines a + newlines b
newlines-append a b = sum_by-append (λ x. cond (nat_eq x 10) 1 0) a b

is_newline : (b : ℕ) → nat_eq b 10 ≡ true → b ≡ 10
is_newline b e = grind (arith, nat_tests)

newline_is : (b : ℕ) → b ≡ 10 → nat_eq b 10 ≡ true
newline_is b e = grind (arith, nat_tests)

isnt_newline : (b : ℕ) → nat_eq b 10 ≡ false → b ≡ 10 → ⊥
isnt_newline b e f = false≢true (sym e ∙ newline_is b f)

-- ---- so many lines, of which the bytes are the beginning

record Begins (n : ℕ) (bytes : List ℕ) : Type 0 where
  lines : List (List ℕ)
  more : List ℕ
  each : AreWholeLines lines
  count : length lines ≡ n
  some : more ≢ []
  whole : bytes ++ more ≡ ended_lines lines

abbrev blanks : ℕ → List (List ℕ)
blanks zero = []
blanks (suc n) = [] ∷ blanks n

blanks_whole : (n : ℕ) → AreWholeLines (blanks n)
blanks_whole zero = tt
blanks_whole (suc n) = ((λ h. h), blanks_whole n)

blanks_count : (n : ℕ) → length (blanks n) ≡ n
blanks_count zero = refl
blanks_count (suc n) = ap suc (blanks_count n)

begins_none : (n : ℕ) → Begins (suc n) []
begins_none n = record {
  lines = blanks (suc n);
  more = 10 ∷ ended_lines (blanks n);
  each = blanks_whole (suc n);
  count = blanks_count (suc n);
  some = λ e. (let none : ⊥ = cc in none);
  whole = refl;
}

begins_newline : (n b : ℕ) (bytes : List ℕ) → b ≡ 10 → Begins n bytes → Begins (suc n) (b ∷ bytes)
begins_newline n b bytes e h = record {
  lines = [] ∷ h.lines;
  more = h.more;
  each = ((λ k. k), h.each);
  count = ap suc h.count;
  some = h.some;
  whole = λ i. e i ∷ h.whole i;
}

no_newline : (b : ℕ) (line : List ℕ) → nat_eq b 10 ≡ false → ¬ Has line 10 → ¬ Has (b ∷ line) 10
no_newline b line e n (inl f) = isnt_newline b e f
no_newline b line e n (inr h) = n h

begins_byte : (n b : ℕ) (bytes : List ℕ) (lines : List (List ℕ)) (more : List ℕ) → nat_eq b 10 ≡ false → AreWholeLines lines → length lines ≡ suc n → more ≢ [] → bytes ++ more ≡ ended_lines lines → Begins (suc n) (b ∷ bytes)
begins_byte n b bytes [] more e each count some whole = absurd (omega (arith, count))
begins_byte n b bytes (line ∷ lines) more e each count some whole = record {
  lines = (b ∷ line) ∷ lines;
  more = more;
  each = (no_newline b line e each.0, each.1);
  count = count;
  some = some;
  whole = ap (λ (l : List ℕ). b ∷ l) whole;
}

fewer_behind : (n b : ℕ) (bytes : List ℕ) → nat_eq b 10 ≡ true → newlines (b ∷ bytes) < suc n → newlines bytes < n
fewer_behind n b bytes e h =
    let one : newlines (b ∷ bytes) ≡ 1 + newlines bytes = newlines-cons b bytes ∙ ap (λ (t : Bool). cond t 1 0 + newlines bytes) e in
    omega (arith, h, one)

same_behind : (n b : ℕ) (bytes : List ℕ) → nat_eq b 10 ≡ false → newlines (b ∷ bytes) < n → newlines bytes < n
same_behind n b bytes e h =
    let one : newlines (b ∷ bytes) ≡ 0 + newlines bytes = newlines-cons b bytes ∙ ap (λ (t : Bool). cond t 1 0 + newlines bytes) e in
    omega (arith, h, one)

begins : (bytes : List ℕ) (n : ℕ) → newlines bytes < n → Begins n bytes
begins bytes zero h = absurd (omega (arith, h))
begins [] (suc n) h = begins_none n
begins (b ∷ bytes) (suc n) h =
    let T : Bool → Type 0 = λ t. nat_eq b 10 ≡ t → Begins (suc n) (b ∷ bytes) in
    let by : (t : Bool) → T t = λ t. elim t as T [
      | true ↦ λ e. begins_newline n b bytes (is_newline b e) (begins bytes n (fewer_behind n b bytes e h))
      | false ↦ λ e. (let k = begins bytes (suc n) (same_behind (suc n) b bytes e h) in begins_byte n b bytes k.lines k.more e k.each k.count k.some k.whole)
    ] in
    by (nat_eq b 10) refl

-- ---- a reply whose first line stands

ok_begun : (n : ℕ) (body : List ℕ) → n < 2 ^ 64 → newlines body < n → IsReplyBegun (codes "ok " ++ (decimal n ++ 10 ∷ body))
unfolding reply_text
ok_begun n body lt h =
    let k = begins body n h in
    record {
      it = Lines k.lines;
      can = (k.each, subst (λ (m : ℕ). m < 2 ^ 64) (sym k.count) lt);
      more = k.more;
      some = k.some;
      whole = ap (λ (l : List ℕ). codes "ok " ++ l) (append_assoc (decimal n) (10 ∷ body) k.more ∙ (ap (λ (l : List ℕ). decimal n ++ 10 ∷ l) k.whole ∙ ap (λ (m : ℕ). decimal m ++ 10 ∷ ended_lines k.lines) (sym k.count)));
    }

notice_first : (line more : List ℕ) → IsNotice line → get_or (line ++ more) 0 0 ≡ 33
notice_first line more n = ap (λ (l : List ℕ). get_or (l ++ more) 0 0) n.is

ok_otherwise : (body : List ℕ) → BeginsOtherwise (codes "ok " ++ body)
ok_otherwise body line more rest n e = omega (arith, notice_first line (10 ∷ rest) n, ap (λ (l : List ℕ). get_or l 0 0) e)

pub behind_missing : (line behind : List ℕ) (count m : ℕ) → pointwise nat_eq (codes "ok ") (take 3 line) ≡ true → number_in (drop 3 line) ≡ Some count → m ≡ count - newlines behind → AwaitsLines (line ++ 10 ∷ behind) m
behind_missing line behind count m starts number is more few =
    let found = number_found (drop 3 line) count number in
    let body : List ℕ = behind ++ more in
    let fewer : newlines body < count = omega (arith, few, is, newlines-append behind more) in
    let first : line ≡ codes "ok " ++ decimal count = word_then line (codes "ok ") starts ∙ ap (λ (l : List ℕ). codes "ok " ++ l) found.0 in
    let whole : (line ++ 10 ∷ behind) ++ more ≡ codes "ok " ++ (decimal count ++ 10 ∷ body) = append_assoc line (10 ∷ behind) more ∙ ap (λ (l : List ℕ). l ++ 10 ∷ body) first in
    subst IsAwaiting (sym whole) (reply_awaits (codes "ok " ++ (decimal count ++ 10 ∷ body)) (ok_otherwise (decimal count ++ 10 ∷ body)) (ok_begun count body found.1 fewer))

pub none_missing : (bytes : List ℕ) → AwaitsLines bytes 0
none_missing bytes more few = absurd (omega (arith, few))

-- ---- a line that has begun with `! `

none_ends : (bytes : List ℕ) → newlines bytes < 1 → ¬ Has bytes 10
none_ends [] few h = h
none_ends (b ∷ bytes) few (inl e) =
    let one : newlines (b ∷ bytes) ≡ 1 + newlines bytes = newlines-cons b bytes ∙ ap (λ (t : Bool). cond t 1 0 + newlines bytes) (newline_is b e) in
    omega (arith, few, one)
none_ends (b ∷ bytes) few (inr h) = none_ends bytes (let one = newlines-cons b bytes in omega (arith, few, one)) h

pub marked_missing : (bytes : List ℕ) → pointwise nat_eq (codes "! ") (take 2 bytes) ≡ true → ¬ Has bytes 10 → AwaitsLines bytes 1
marked_missing bytes starts none more few = begun_awaits (bytes ++ more) (record {
  one_line = λ h. elim (has_cases bytes more 10 h) [ inl k ↦ none k | inr k ↦ none_ends more few k ];
  more = [];
  words = drop 2 bytes ++ more;
  marked = append-nil (bytes ++ more) ∙ ap (λ (l : List ℕ). l ++ more) (word_then bytes (codes "! ") starts);
})

-- ---- more bytes

pub notices_on : (a b : List ℕ) (at : ℕ) → at ≤ length a → IsBehindNotices a (drop at a) → IsBehindNotices (a ++ b) (drop at (a ++ b))
notices_on a b at within h = record {
  notices = h.notices;
  each = h.each;
  whole = ap (λ (l : List ℕ). l ++ b) h.whole ∙ (append_assoc (ended_lines h.notices) (drop at a) b ∙ ap (λ (l : List ℕ). ended_lines h.notices ++ l) (sym (drop-append-le at a b within)));
}

pub nothing_read : (r : SoFar) → r.at ≡ 0 → r.missing ≡ 0 → IsReadSoFar [] r
nothing_read r at missing = record {
  within = omega (arith, at);
  notices = subst (λ (n : ℕ). IsBehindNotices [] (drop n [])) (sym at) (none_skipped []);
  missing = subst (λ (n : ℕ). AwaitsLines [] n) (sym missing) (none_missing []);
}

-- the notices that stood whole stand there still
pub same_notices : (text : List ℕ) (from at : ℕ) → at ≤ length (take from text) → IsBehindNotices (take from text) (drop at (take from text)) → IsBehindNotices text (drop at text)
same_notices text from at within h =
    subst (λ (t : List ℕ). IsBehindNotices t (drop at t)) (take-append-drop from text) (notices_on (take from text) (drop from text) at within h)

pub same_within : (text : List ℕ) (from at : ℕ) → at ≤ length (take from text) → at ≤ length text
same_within text from at within =
    let whole : length (take from text ++ drop from text) ≡ length text = ap (λ (l : List ℕ). length l) (take-append-drop from text) in
    omega (arith, within, whole, length-append (take from text) (drop from text))

-- too few lines ended
pub still_awaits : (text : List ℕ) (from missing : ℕ) → AwaitsLines (take from text) missing → newlines (drop from text) < missing → IsAwaiting text
still_awaits text from missing h few = subst IsAwaiting (take-append-drop from text) (h (drop from text) few)

pub fewer_missing : (text : List ℕ) (from missing : ℕ) → AwaitsLines (take from text) missing → newlines (drop from text) < missing → AwaitsLines text (missing - newlines (drop from text))
fewer_missing text from missing h few more later =
    let both : newlines (drop from text ++ more) < missing = omega (arith, later, few, newlines-append (drop from text) more) in
    subst IsAwaiting (sym (append_assoc (take from text) (drop from text) more) ∙ ap (λ (l : List ℕ). l ++ more) (take-append-drop from text)) (h (drop from text ++ more) both)

-- behind notices the same lines are missing
pub missing_behind_notices : (text : List ℕ) (at n : ℕ) → IsBehindNotices text (drop at text) → AwaitsLines (drop at text) n → AwaitsLines text n
missing_behind_notices text at n s h more few =
    subst IsAwaiting (sym (ap (λ (l : List ℕ). l ++ more) s.whole ∙ append_assoc (ended_lines s.notices) (drop at text) more)) (notices_await s.notices (drop at text ++ more) s.each (h more few))
