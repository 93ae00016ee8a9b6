-- What stands in front of bytes.
use Rattle.std.proofs.Common.{◌≡◌, ℕ, ◌+◌, ◌<◌, inl, inr, List, [], ◌∷◌, ◌++◌, length, take, drop, get_or, nat_eq, true, false, sym, ap, subst, ◌∙◌, arith, append_assoc}
use Rattle.std.specs.Prelude.{codes}
use Rattle.std.specs.Cmp.Lexicographic.{pointwise}
use Rattle.std.proofs.lemmas.List.{append-nil}
use Rattle.ug_types.specs.Elements.{Has}
use Rattle.ug_types.proofs.Elements.{has_cases}
use Rattle.ug_types.proofs.Known.{to_end}
use Rattle.ug_audit.proofs.EntryRead.{entry_on_line}
use Rattle.ug_proto.proofs.Scans.{cut, end_here, word_begun, word_never, word_then}
use Rattle.ug_client.specs.Answers.{IsNotice, IsNoticeBegun, IsNoticedLine}
use Rattle.ug_client.specs.Notices.{BeginsOtherwise}

-- the newline behind the first line
pub newline_at : (xs : List ℕ) (i : ℕ) → i < length xs → get_or xs i 0 ≡ 10 → xs ≡ take i xs ++ 10 ∷ drop (i + 1) xs
newline_at xs i l h = end_here xs i 10 l h ∙ ap (λ (t : List ℕ). take i xs ++ 10 ∷ t) (to_end (i + 1) xs)

mark_has_no : ¬ Has (codes "! ") 10
mark_has_no (inl e) = omega (arith, e)
mark_has_no (inr (inl e)) = omega (arith, e)
mark_has_no (inr (inr e)) = e

-- a notice is one line
pub notice_on_line : (line : List ℕ) → IsNotice line → ¬ Has line 10
notice_on_line line n h =
    elim (has_cases (codes "! ") n.words 10 (subst (λ (l : List ℕ). Has l 10) n.is h)) [
      | inl k ↦ mark_has_no k
      | inr k ↦ entry_on_line n.noticed.it n.noticed.can (subst (λ (l : List ℕ). Has l 10) n.noticed.is k)
    ]

-- a line that is no notice, and its newline
pub line_otherwise : (bytes line rest : List ℕ) → bytes ≡ line ++ 10 ∷ rest → ¬ Has line 10 → ¬ IsNotice line → BeginsOtherwise bytes
line_otherwise bytes line rest w h none other more behind n e =
    let joined : line ++ 10 ∷ (rest ++ more) ≡ other ++ 10 ∷ behind = sym (append_assoc line (10 ∷ rest) more) ∙ ap (λ (b : List ℕ). b ++ more) (sym w) ∙ e in
    none (subst IsNotice (sym (cut 10 line other (rest ++ more) behind h (notice_on_line other n) joined).0) n)

pub mark_never : (bytes : List ℕ) → pointwise nat_eq (codes "! ") (take 2 bytes) ≡ false → pointwise nat_eq bytes (take (length bytes) (codes "! ")) ≡ false → BeginsOtherwise bytes
mark_never bytes f h line more rest n e =
    word_never bytes (codes "! ") f h tt more (n.words ++ 10 ∷ rest) tt (e ∙ (ap (λ (l : List ℕ). l ++ 10 ∷ rest) n.is ∙ append_assoc (codes "! ") n.words (10 ∷ rest)))

pub mark_stands : (bytes : List ℕ) → pointwise nat_eq (codes "! ") (take 2 bytes) ≡ true → ¬ Has bytes 10 → IsNoticeBegun bytes
mark_stands bytes h one_line = record { one_line = one_line; more = []; words = drop 2 bytes; marked = append-nil bytes ∙ word_then bytes (codes "! ") h }

pub mark_begun : (bytes : List ℕ) → pointwise nat_eq (codes "! ") (take 2 bytes) ≡ false → pointwise nat_eq bytes (take (length bytes) (codes "! ")) ≡ true → ¬ Has bytes 10 → IsNoticeBegun bytes
mark_begun bytes f h one_line =
    let b = word_begun bytes (codes "! ") f h in
    record { one_line = one_line; more = b.more; words = []; marked = b.whole ∙ sym (append-nil (codes "! ")) }

-- a text behind `! `
pub marked_notice : (line : List ℕ) → pointwise nat_eq (codes "! ") (take 2 line) ≡ true → IsNoticedLine (drop 2 line) → IsNotice line
marked_notice line h n = record { words = drop 2 line; is = word_then line (codes "! ") h; noticed = n }

pub notice_marked : (line : List ℕ) → IsNotice line → pointwise nat_eq (codes "! ") (take 2 line) ≡ true
notice_marked line n = ap (λ (l : List ℕ). pointwise nat_eq (codes "! ") (take 2 l)) n.is

pub notice_behind : (line : List ℕ) → IsNotice line → IsNoticedLine (drop 2 line)
notice_behind line n = subst (λ (l : List ℕ). IsNoticedLine (drop 2 l)) (sym n.is) n.noticed
