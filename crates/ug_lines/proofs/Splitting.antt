-- The lines of bytes are the only ones that they split into.
use Rattle.std.proofs.Common.{◌≡◌, ◌≢◌, ℕ, zero, suc, ◌+◌, ◌-◌, ◌<◌, ◌≤◌, List, [], ◌∷◌, ◌++◌, length, take, get_or, Bool, true, false, nat_eq, refl, sym, ap, subst, ◌∙◌, append_assoc, arith}
use Rattle.std.proofs.lemmas.Bool.Decides.{nat_tests}
use Rattle.std.proofs.lemmas.List.{append-nil, take_more, take_all}
use Rattle.ug_lines.specs.Lines.{whole_from, rest_from, lines_from}
use Rattle.ug_lines.specs.Splitting.{IsLine, AreLines, lines_joined, Splits}
use Rattle.ug_lines.proofs.Lines.{whole_from-end, rest_from-end, whole_from-byte, rest_from-byte, whole_from-nil, rest_from-nil}

pub line-more : (line : List ℕ) (b : ℕ) → IsLine line → b ≢ 10 → IsLine (line ++ b ∷ [])
line-more [] b h k = (k, tt)
line-more (c ∷ line) b h k = (h.0, line-more line b h.1 k)

is_newline : (b : ℕ) → nat_eq b 10 ≡ true → b ≡ 10
is_newline b e = grind (arith, nat_tests)

not_newline : (b : ℕ) → nat_eq b 10 ≡ false → b ≢ 10
not_newline b e = λ k. grind (arith, nat_tests)

tested : (b : ℕ) → b ≢ 10 → nat_eq b 10 ≡ false
tested b k = grind (arith, nat_tests)

-- behind a line that has begun
record Begun (line bytes : List ℕ) : Type 0 where
  whole : line ++ bytes ≡ lines_joined (whole_from line bytes) (rest_from line bytes)
  each : AreLines (whole_from line bytes)
  open_line : IsLine (rest_from line bytes)

begun : (line bytes : List ℕ) → IsLine line → Begun line bytes
begun line [] h = record {
  whole = rw (whole_from-nil line, rest_from-nil line) (append-nil line);
  each = rw (whole_from-nil line) tt;
  open_line = rw (rest_from-nil line) h;
}
begun line (b ∷ bytes) h =
    let T : Bool → Type 0 = λ v. nat_eq b 10 ≡ v → Begun line (b ∷ bytes) in
    let f : (v : Bool) → T v = λ v. elim v as T [
      | true ↦ λ e. let r = begun [] bytes tt in record {
        whole = rw (whole_from-end line b bytes e, rest_from-end line b bytes e) (ap (λ (c : ℕ). line ++ (c ∷ bytes)) (is_newline b e) ∙ ap (λ (bs : List ℕ). line ++ (10 ∷ bs)) r.whole);
        each = rw (whole_from-end line b bytes e) (h, r.each);
        open_line = rw (rest_from-end line b bytes e) r.open_line;
      }
      | false ↦ λ e. let r = begun (line ++ b ∷ []) bytes (line-more line b h (not_newline b e)) in record {
        whole = rw (whole_from-byte line b bytes e, rest_from-byte line b bytes e) (sym (append_assoc line (b ∷ []) bytes) ∙ r.whole);
        each = rw (whole_from-byte line b bytes e) r.each;
        open_line = rw (rest_from-byte line b bytes e) r.open_line;
      }
    ] in
    f (nat_eq b 10) refl

pub splits : (bytes : List ℕ) → Splits bytes (whole_from [] bytes) (rest_from [] bytes)
splits bytes = let r = begun [] bytes tt in record { whole = r.whole; each = r.each; open_line = r.open_line }

-- bytes without a newline go onto the line
pub whole_from-line : (line l more : List ℕ) → IsLine l → whole_from line (l ++ more) ≡ whole_from (line ++ l) more
whole_from-line line [] more h = ap (λ (x : List ℕ). whole_from x more) (sym (append-nil line))
whole_from-line line (b ∷ l) more h =
    whole_from-byte line b (l ++ more) (tested b h.0) ∙ (whole_from-line (line ++ b ∷ []) l more h.1 ∙ ap (λ (x : List ℕ). whole_from x more) (append_assoc line (b ∷ []) l))

pub rest_from-line : (line l more : List ℕ) → IsLine l → rest_from line (l ++ more) ≡ rest_from (line ++ l) more
rest_from-line line [] more h = ap (λ (x : List ℕ). rest_from x more) (sym (append-nil line))
rest_from-line line (b ∷ l) more h =
    rest_from-byte line b (l ++ more) (tested b h.0) ∙ (rest_from-line (line ++ b ∷ []) l more h.1 ∙ ap (λ (x : List ℕ). rest_from x more) (append_assoc line (b ∷ []) l))

-- bytes without a newline end no line
pub whole_from-run : (line run : List ℕ) → IsLine run → whole_from line run ≡ []
whole_from-run line run h = ap (λ (x : List ℕ). whole_from line x) (sym (append-nil run)) ∙ (whole_from-line line run [] h ∙ whole_from-nil (line ++ run))

pub rest_from-run : (line run : List ℕ) → IsLine run → rest_from line run ≡ line ++ run
rest_from-run line run h = ap (λ (x : List ℕ). rest_from line x) (sym (append-nil run)) ∙ (rest_from-line line run [] h ∙ rest_from-nil (line ++ run))

pub lines_from-run : (line run more : List ℕ) → IsLine run → lines_from line (run ++ more) ≡ lines_from (line ++ run) more
lines_from-run line run more h = rw (whole_from-line line run more h, rest_from-line line run more h) refl

-- the front of a line
pub line-front : (n : ℕ) (line : List ℕ) → IsLine line → IsLine (take n line)
line-front zero line h = tt
line-front (suc n) [] h = tt
line-front (suc n) (b ∷ line) h = (h.0, line-front n line h.1)

pub line-take_more : (bytes : List ℕ) (i : ℕ) → i < length bytes → IsLine (take i bytes) → get_or bytes i 0 ≢ 10 → IsLine (take (i + 1) bytes)
line-take_more bytes i lt h k = subst (λ (xs : List ℕ). IsLine xs) (sym (take_more bytes i 0 lt)) (line-more (take i bytes) (get_or bytes i 0) h k)

pub line-take_all : (bytes : List ℕ) (i n : ℕ) → length bytes ≤ i → IsLine (take i bytes) → IsLine (take n bytes)
line-take_all bytes i n le h = line-front n bytes (subst (λ (xs : List ℕ). IsLine xs) (take_all i bytes le) h)

-- bytes of which only the last may be a newline
last_taken : (part : List ℕ) → 0 < length part → part ≡ take (length part - 1) part ++ get_or part (length part - 1) 0 ∷ []
last_taken part some =
    sym (take_all (length part - 1 + 1) part (omega arith)) ∙ take_more part (length part - 1) 0 (omega arith)

pub part-line : (part : List ℕ) → 0 < length part → IsLine (take (length part - 1) part) → get_or part (length part - 1) 0 ≢ 10 → IsLine part
part-line part some h k = subst (λ (xs : List ℕ). IsLine xs) (sym (last_taken part some)) (line-more (take (length part - 1) part) (get_or part (length part - 1) 0) h k)

pub part-ended : (part : List ℕ) → 0 < length part → get_or part (length part - 1) 0 ≡ 10 → part ≡ take (length part - 1) part ++ 10 ∷ []
part-ended part some e = last_taken part some ∙ ap (λ (b : ℕ). take (length part - 1) part ++ b ∷ []) e

whole_joined : (lines : List (List ℕ)) (rest : List ℕ) → AreLines lines → IsLine rest → whole_from [] (lines_joined lines rest) ≡ lines
whole_joined [] rest h k =
    ap (λ (x : List ℕ). whole_from [] x) (sym (append-nil rest)) ∙ (whole_from-line [] rest [] k ∙ whole_from-nil rest)
whole_joined (line ∷ lines) rest h k =
    whole_from-line [] line (10 ∷ lines_joined lines rest) h.0 ∙ (whole_from-end line 10 (lines_joined lines rest) refl ∙ ap (λ (ls : List (List ℕ)). line ∷ ls) (whole_joined lines rest h.1 k))

rest_joined : (lines : List (List ℕ)) (rest : List ℕ) → AreLines lines → IsLine rest → rest_from [] (lines_joined lines rest) ≡ rest
rest_joined [] rest h k =
    ap (λ (x : List ℕ). rest_from [] x) (sym (append-nil rest)) ∙ (rest_from-line [] rest [] k ∙ rest_from-nil rest)
rest_joined (line ∷ lines) rest h k =
    rest_from-line [] line (10 ∷ lines_joined lines rest) h.0 ∙ (rest_from-end line 10 (lines_joined lines rest) refl ∙ rest_joined lines rest h.1 k)

pub splits-only : (bytes : List ℕ) (lines : List (List ℕ)) (rest : List ℕ) → Splits bytes lines rest → (lines ≡ whole_from [] bytes) × (rest ≡ rest_from [] bytes)
splits-only bytes lines rest s = (
  sym (ap (λ (bs : List ℕ). whole_from [] bs) s.whole ∙ whole_joined lines rest s.each s.open_line),
  sym (ap (λ (bs : List ℕ). rest_from [] bs) s.whole ∙ rest_joined lines rest s.each s.open_line),
)
