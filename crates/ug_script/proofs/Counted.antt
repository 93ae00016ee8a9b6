-- Lines that are counted one text after another.
use Rattle.std.proofs.Common.{◌≡◌, ℕ, ◌+◌, nat_eq, List, [], ◌∷◌, ◌++◌, filter, length, sym, ap, ◌∙◌, append-nil, arith}
use Rattle.std.specs.List.{starts_with}
use Rattle.std.specs.Prelude.{codes}
use Rattle.std.proofs.lemmas.List.{length-append}
use Rattle.std.proofs.lemmas.List.Elements.{filter-append}
use Rattle.ug_lines.specs.Lines.{last_line, lines_of, rest_from, whole_from}
use Rattle.ug_lines.proofs.Lines.{lines_from-append}
use Rattle.ug_script.specs.declared.totals.Totals.{Totals}
use Rattle.ug_script.specs.Summing.{count, bounded_count, no_totals, totals_of, with_lines}
use Rattle.ug_script.proofs.WholeLines.{IsWhole}

-- the lines of whole lines and a text behind them
pub lines_behind : (a b : List ℕ) → IsWhole a → lines_of (a ++ b) ≡ lines_of a ++ lines_of b
lines_behind a b e =
    lines_from-append [] a b
    ∙ ap (λ (line : List ℕ). whole_from [] a ++ (whole_from line b ++ last_line (rest_from line b))) e
    ∙ ap (λ (lines : List (List ℕ)). lines ++ lines_of b) (sym (append-nil (whole_from [] a)) ∙ ap (λ (line : List ℕ). whole_from [] a ++ last_line line) (sym e))

count_both : (front : List ℕ) (xs ys : List (List ℕ)) → count front (xs ++ ys) ≡ count front xs + count front ys
count_both front xs ys = ap length (filter-append (λ line. starts_with nat_eq line front) xs ys) ∙ length-append (filter (λ line. starts_with nat_eq line front) xs) (filter (λ line. starts_with nat_eq line front) ys)

kept_both : (n a b both : ℕ) → both ≡ a + b → bounded_count (bounded_count (n + a) + b) ≡ bounded_count (n + both)
kept_both n a b both e = omega (arith, e)

abbrev pub numbers : ℕ → ℕ → ℕ → ℕ → Totals
numbers a b c d = record { events = a; judged = b; writes = c; unsettled = d }

pub four : {a b c d e f g h : ℕ} → a ≡ b → c ≡ d → e ≡ f → g ≡ h → numbers a c e g ≡ numbers b d f h
four {a} {b} {c} {d} {e} {f} {g} {h} p q r s =
    ap (λ (x : ℕ). numbers x c e g) p ∙ ap (λ (x : ℕ). numbers b x e g) q ∙ ap (λ (x : ℕ). numbers b d x g) r ∙ ap (λ (x : ℕ). numbers b d f x) s

pub with_both : (xs ys : List (List ℕ)) (t : Totals) → with_lines ys (with_lines xs t) ≡ with_lines (xs ++ ys) t
with_both xs ys t =
    let events = kept_both t.events (count (codes "event ") xs) (count (codes "event ") ys) (count (codes "event ") (xs ++ ys)) (count_both (codes "event ") xs ys) in
    let judged = kept_both t.judged (count (codes "judged ") xs) (count (codes "judged ") ys) (count (codes "judged ") (xs ++ ys)) (count_both (codes "judged ") xs ys) in
    let writes = kept_both t.writes (count (codes "wrote ") xs) (count (codes "wrote ") ys) (count (codes "wrote ") (xs ++ ys)) (count_both (codes "wrote ") xs ys) in
    let unsettled = kept_both t.unsettled (count (codes "unsettled ") xs) (count (codes "unsettled ") ys) (count (codes "unsettled ") (xs ++ ys)) (count_both (codes "unsettled ") xs ys) in
    four events judged writes unsettled

-- the numbers of a journal that grows by a text
pub totals_behind : (a b : List ℕ) → IsWhole a → with_lines (lines_of b) (totals_of a) ≡ totals_of (a ++ b)
totals_behind a b e = with_both (lines_of a) (lines_of b) no_totals ∙ ap (λ (lines : List (List ℕ)). with_lines lines no_totals) (sym (lines_behind a b e))

pub one_more : (line : List ℕ) (lines : List (List ℕ)) (t : Totals) → with_lines lines (with_lines (line ∷ []) t) ≡ with_lines (line ∷ lines) t
one_more line lines t = with_both (line ∷ []) lines t
