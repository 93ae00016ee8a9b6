-- Rows hold no newline.
use Rattle.std.proofs.Common.{◌≡◌, ℕ, ◌<◌, ◌≤◌, ◌^◌, List, [], ◌∷◌, ◌++◌, codes, sym, subst, arith}
use Rattle.std.specs.Prelude.{decimal}
use Rattle.std.specs.List.{AllByRecursion}
use Rattle.ug_words.proofs.Decimals.{IsDigit, decimal_written}
use Rattle.ug_lines.specs.Splitting.{IsLine, AreLines}
use Rattle.ug_policy.specs.declared.entry.Mark.{Mark}
use Rattle.ug_policy.specs.declared.entry.Mark.TheVariants as mark
use Rattle.ug_ruleset.specs.Rows.{numbered_row}
use Rattle.ug_ruleset.specs.RuleRows.{mark_text}

pub line_append : (a b : List ℕ) → IsLine a → IsLine b → IsLine (a ++ b)
line_append [] b h k = k
line_append (x ∷ a) b h k = (h.0, line_append a b h.1 k)

pub lines_more : (rows : List (List ℕ)) (row : List ℕ) → AreLines rows → IsLine row → AreLines (rows ++ row ∷ [])
lines_more [] row h k = (k, tt)
lines_more (r ∷ rows) row h k = (h.0, lines_more rows row h.1 k)

digits_line : (ds : List ℕ) → AllByRecursion IsDigit ds → IsLine ds
digits_line [] h = tt
digits_line (d ∷ ds) h = (λ e. let low : 48 ≤ d = h.0.0 in omega arith, digits_line ds h.1)

pub decimal_line : (number : ℕ) → number < 2 ^ 64 → IsLine (decimal number)
decimal_line number h = digits_line (decimal number) (decimal_written number h).digits

byte : (m : ℕ) → 31 < m → m ≡ 10 → ⊥
byte m h e = omega arith

pub row_line : (number : ℕ) (text : List ℕ) → number < 2 ^ 64 → IsLine text → IsLine (numbered_row number text)
unfolding numbered_row
row_line number text h k =
    line_append (decimal number) (codes ": " ++ text) (decimal_line number h)
    (byte 58 (omega arith), (byte 32 (omega arith), k))

mark_line : (m : Mark) → IsLine (mark_text m)
mark_line mark.Folder = (
  byte 32 (omega arith),
  (byte 35 (omega arith), (byte 32 (omega arith), (byte 102 (omega arith), (byte 111 (omega arith), (byte 108 (omega arith), (byte 100 (omega arith), (byte 101 (omega arith), (byte 114 (omega arith), tt)))))))),
)
mark_line mark.File = tt
mark_line mark.Temporary = (
  byte 32 (omega arith),
  (
    byte 35 (omega arith),
    (
      byte 32 (omega arith),
      (
        byte 116 (omega arith),
        (
          byte 101 (omega arith),
          (
            byte 109 (omega arith),
            (byte 112 (omega arith), (byte 111 (omega arith), (byte 114 (omega arith), (byte 97 (omega arith), (byte 114 (omega arith), (byte 121 (omega arith), tt)))))),
          ),
        ),
      ),
    ),
  ),
)

pub marked_line : (row text : List ℕ) (m : Mark) → row ≡ text ++ mark_text m → IsLine text → IsLine row
marked_line row text m e h = subst IsLine (sym e) (line_append text (mark_text m) h (mark_line m))
