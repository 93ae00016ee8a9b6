-- Words and values about the first equals sign.
use Rattle.std.proofs.Common.{◌≡◌, ℕ, ◌+◌, ◌≤◌, ◌⊎◌, inl, inr, Bool, true, false, nat_eq, nat_lt, List, [], ◌∷◌, ◌++◌, length, take, drop, Some, None, refl, sym, ap, subst, ◌∙◌, append_assoc, arith, length-append}
use Rattle.std.proofs.lemmas.Bool.Decides.{nat_tests}
use Rattle.std.proofs.Math.Seq.{take-append_seam}
use Rattle.std.proofs.lemmas.List.{drop_at}
use Rattle.std.specs.List.{position, position_or_len}
use Rattle.ug_types.specs.Elements.{Has}
use Rattle.ug_types.proofs.Elements.{has_cases, has_left}
use Rattle.ug_lines.specs.Blanks.{without_front, without_end}
use Rattle.ug_lines.specs.Equations.{AreBlanks, IsEquation}
use Rattle.ug_lines.proofs.Trimming.{Front, front, End, end, front-blanks, front-bare, end-blanks, end-bare}

-- no equals sign is among blanks
no_sign_blank : (bytes : List ℕ) → AreBlanks bytes → ¬ Has bytes 61
no_sign_blank [] h has = has
no_sign_blank (b ∷ bytes) (inl e, h) (inl k) = let none : ⊥ = omega (arith, e, k) in none
no_sign_blank (b ∷ bytes) (inr e, h) (inl k) = let none : ⊥ = omega (arith, e, k) in none
no_sign_blank (b ∷ bytes) h (inr k) = no_sign_blank bytes h.1 k

no_sign_both : (xs ys : List ℕ) → ¬ Has xs 61 → ¬ Has ys 61 → ¬ Has (xs ++ ys) 61
no_sign_both xs ys h k has = elim (has_cases xs ys 61 has) [ inl a ↦ h a | inr b ↦ k b ]

tested : (b : ℕ) → ¬ (b ≡ 61) → nat_eq 61 b ≡ false
tested b h = grind (arith, nat_tests)

-- the number of bytes before the first sign
sign_len : (xs rest : List ℕ) → ¬ Has xs 61 → position_or_len (nat_eq 61) (xs ++ 61 ∷ rest) ≡ length xs
sign_len [] rest h = refl
sign_len (b ∷ xs) rest h = rw (tested b (λ e. h (inl e))) (ap (λ (n : ℕ). 1 + n) (sign_len xs rest (λ k. h (inr k))) ∙ omega arith)

pub sign_found : (xs rest : List ℕ) → ¬ Has xs 61 → position (nat_eq 61) (xs ++ 61 ∷ rest) ≡ Some (length xs)
sign_found xs rest h =
    let l = sign_len xs rest h in
    let t : nat_lt (position_or_len (nat_eq 61) (xs ++ 61 ∷ rest)) (length (xs ++ 61 ∷ rest)) ≡ true = grind (arith, nat_tests, l, length-append xs (61 ∷ rest)) in
    rw t (ap Some l)

no_sign_len : (xs : List ℕ) → ¬ Has xs 61 → position_or_len (nat_eq 61) xs ≡ length xs
no_sign_len [] h = refl
no_sign_len (b ∷ xs) h = rw (tested b (λ e. h (inl e))) (ap (λ (n : ℕ). 1 + n) (no_sign_len xs (λ k. h (inr k))) ∙ omega arith)

pub sign_missing : (xs : List ℕ) → ¬ Has xs 61 → position (nat_eq 61) xs ≡ None
sign_missing xs h =
    let l = no_sign_len xs h in
    let t : nat_lt (position_or_len (nat_eq 61) xs) (length xs) ≡ false = grind (arith, nat_tests, l) in
    rw t refl

-- each text has a first sign, or none
pub record Sign (xs : List ℕ) : Type 0 where
  pub word : List ℕ
  pub rest : List ℕ
  pub is : xs ≡ word ++ 61 ∷ rest
  pub no_sign : ¬ Has word 61

pub sign : (xs : List ℕ) → Sign xs ⊎ (¬ Has xs 61)
sign [] = inr (λ h. h)
sign (b ∷ xs) = by (nat_eq 61 b) refl (sign xs)
  where
    by : (v : Bool) → nat_eq 61 b ≡ v → Sign xs ⊎ (¬ Has xs 61) → Sign (b ∷ xs) ⊎ (¬ Has (b ∷ xs) 61)
    by true e s =
        let same : b ≡ 61 = grind (arith, nat_tests) in
        inl (record { word = []; rest = xs; is = ap (λ (c : ℕ). c ∷ xs) same; no_sign = λ h. h })
    by false e (inl s) = inl (record {
      word = b ∷ s.word;
      rest = s.rest;
      is = ap (λ (l : List ℕ). b ∷ l) s.is;
      no_sign = λ h. elim h [ inl k ↦ (let none : ⊥ = grind (arith, nat_tests) in none) | inr k ↦ s.no_sign k ];
    })
    by false e (inr n) = inr (λ h. elim h [ inl k ↦ (let none : ⊥ = grind (arith, nat_tests) in none) | inr k ↦ n k ])

-- what is read of an equation
pub record Parts (text word value : List ℕ) : Type 0 where
  pub at : ℕ
  pub found : position (nat_eq 61) text ≡ Some at
  pub word_is : without_end (take at text) ≡ word
  pub value_is : without_front (drop (at + 1) text) ≡ value

pub parts : (text word value : List ℕ) → IsEquation text word value → Parts text word value
parts text word value e =
    let front_part : List ℕ = word ++ e.before in
    let rest : List ℕ = e.behind ++ value in
    let is : text ≡ front_part ++ 61 ∷ rest = e.is ∙ sym (append_assoc word e.before (61 ∷ rest)) in
    let apart : ¬ Has front_part 61 = no_sign_both word e.before e.no_sign (no_sign_blank e.before e.before_blank) in
    let taken : take (length front_part) text ≡ front_part = ap (take (length front_part)) is ∙ take-append_seam front_part (61 ∷ rest) in
    let dropped : drop (length front_part + 1) text ≡ rest = ap (drop (length front_part + 1)) (is ∙ sym (append_assoc front_part (61 ∷ []) rest)) ∙ drop_at (front_part ++ 61 ∷ []) rest (length front_part + 1) (length-append front_part (61 ∷ [])) in
    record {
      at = length front_part;
      found = ap (position (nat_eq 61)) is ∙ sign_found front_part rest apart;
      word_is = ap without_end taken ∙ end-blanks word e.before e.before_blank ∙ end-bare word e.ends;
      value_is = ap without_front dropped ∙ front-blanks e.behind value e.behind_blank ∙ front-bare value e.begins;
    }

-- the parts about a sign are an equation
pub equation : (text : List ℕ) → (s : Sign text) → IsEquation text (without_end s.word) (without_front s.rest)
equation text s =
    let w : End s.word = end s.word in
    let v : Front s.rest = front s.rest in
    record {
      before = w.behind;
      behind = v.before;
      is = s.is ∙ ap (λ (l : List ℕ). l ++ 61 ∷ s.rest) w.is ∙ append_assoc (without_end s.word) w.behind (61 ∷ s.rest) ∙ ap (λ (l : List ℕ). without_end s.word ++ (w.behind ++ 61 ∷ l)) v.is;
      before_blank = w.blanks;
      behind_blank = v.blanks;
      no_sign = λ h. s.no_sign (subst (λ (l : List ℕ). Has l 61) (sym w.is) (has_left (without_end s.word) w.behind 61 h));
      ends = w.ends;
      begins = v.begins;
    }

-- the place of its value
pub value_place : (text word value : List ℕ) → IsEquation text word value → length value ≤ length text
value_place text word value e = omega (arith, ap length e.is, length-append word (e.before ++ 61 ∷ (e.behind ++ value)), length-append e.before (61 ∷ (e.behind ++ value)), length-append e.behind value)
