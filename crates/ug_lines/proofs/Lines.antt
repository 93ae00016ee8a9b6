-- The lines of bytes that come in pieces.
use Rattle.std.proofs.Common.{◌≡◌, ℕ, ◌+◌, ◌<◌, ◌≤◌, List, [], ◌∷◌, ◌++◌, length, Bool, true, false, if◌then◌else◌, nat_eq, refl, ap, append_assoc, arith, length-append}
use Rattle.ug_lines.specs.Lines.{whole_from, rest_from, last_line, lines_from}

-- a newline ends the line
pub whole_from-end : (line : List ℕ) (b : ℕ) (bytes : List ℕ) → nat_eq b 10 ≡ true → whole_from line (b ∷ bytes) ≡ line ∷ whole_from [] bytes
unfolding whole_from
whole_from-end line b bytes e = rw e

pub rest_from-end : (line : List ℕ) (b : ℕ) (bytes : List ℕ) → nat_eq b 10 ≡ true → rest_from line (b ∷ bytes) ≡ rest_from [] bytes
unfolding rest_from
rest_from-end line b bytes e = rw e

-- another byte goes onto it
pub whole_from-byte : (line : List ℕ) (b : ℕ) (bytes : List ℕ) → nat_eq b 10 ≡ false → whole_from line (b ∷ bytes) ≡ whole_from (line ++ b ∷ []) bytes
unfolding whole_from
whole_from-byte line b bytes e = rw e

pub rest_from-byte : (line : List ℕ) (b : ℕ) (bytes : List ℕ) → nat_eq b 10 ≡ false → rest_from line (b ∷ bytes) ≡ rest_from (line ++ b ∷ []) bytes
unfolding rest_from
rest_from-byte line b bytes e = rw e

pub whole_from-nil : (line : List ℕ) → whole_from line [] ≡ []
unfolding whole_from
whole_from-nil line = refl

pub rest_from-nil : (line : List ℕ) → rest_from line [] ≡ line
unfolding rest_from
rest_from-nil line = refl

-- the next piece goes on from the rest of the first
pub whole_from-append : (line a b : List ℕ) → whole_from line (a ++ b) ≡ whole_from line a ++ whole_from (rest_from line a) b
unfolding whole_from rest_from
whole_from-append line [] b = refl
whole_from-append line (c ∷ a) b =
    elim (nat_eq c 10) as (λ v. (if v then line ∷ whole_from [] (a ++ b) else whole_from (line ++ c ∷ []) (a ++ b))
    ≡ (if v then line ∷ whole_from [] a else whole_from (line ++ c ∷ []) a) ++ whole_from (if v then rest_from [] a else rest_from (line ++ c ∷ []) a) b)
    [ true ↦ ap (λ (ls : List (List ℕ)). line ∷ ls) (whole_from-append [] a b) | false ↦ whole_from-append (line ++ c ∷ []) a b ]

pub rest_from-append : (line a b : List ℕ) → rest_from line (a ++ b) ≡ rest_from (rest_from line a) b
unfolding rest_from
rest_from-append line [] b = refl
rest_from-append line (c ∷ a) b =
    elim (nat_eq c 10) as (λ v. (if v then rest_from [] (a ++ b) else rest_from (line ++ c ∷ []) (a ++ b))
    ≡ rest_from (if v then rest_from [] a else rest_from (line ++ c ∷ []) a) b)
    [ true ↦ rest_from-append [] a b | false ↦ rest_from-append (line ++ c ∷ []) a b ]

pub lines_from-append : (line a b : List ℕ) → lines_from line (a ++ b) ≡ whole_from line a ++ lines_from (rest_from line a) b
lines_from-append line a b =
    rw (whole_from-append line a b, rest_from-append line a b) (append_assoc (whole_from line a) (whole_from (rest_from line a) b) (last_line (rest_from (rest_from line a) b)))

-- the first line has at least the bytes of a line that has begun
pub record Begins (line bytes : List ℕ) : Type 0 where
  pub first : List ℕ
  pub others : List (List ℕ)
  pub lines : lines_from line bytes ≡ first ∷ others
  pub long : length line ≤ length first

last-begins : (line : List ℕ) → 0 < length line → Begins line []
unfolding whole_from rest_from
last-begins [] h = absurd (omega (arith, h))
last-begins (b ∷ line) h = record { first = b ∷ line; others = []; lines = refl; long = omega arith }

pub begins : (line bytes : List ℕ) → 0 < length line + length bytes → Begins line bytes
begins line [] h = last-begins line (omega (arith, h))
begins line (b ∷ bytes) h =
    let T : Bool → Type 0 = λ v. nat_eq b 10 ≡ v → Begins line (b ∷ bytes) in
    let f : (v : Bool) → T v = λ v. elim v as T [
      | true ↦ λ e. record { first = line; others = lines_from [] bytes; lines = rw (whole_from-end line b bytes e, rest_from-end line b bytes e) refl; long = omega arith }
      | false ↦ λ e. let r = begins (line ++ b ∷ []) bytes (omega (arith, length-append line (b ∷ []))) in
          record { first = r.first; others = r.others; lines = rw (whole_from-byte line b bytes e, rest_from-byte line b bytes e) r.lines; long = omega (arith, r.long, length-append line (b ∷ [])) }
    ] in
    f (nat_eq b 10) refl
