-- What stands before the first space of a text, and behind it.
use Rattle.std.proofs.Common.{◌≡◌, ℕ, ◌+◌, ◌⊎◌, inl, inr, Bool, true, false, ◌||◌, nat_eq, nat_lt, List, [], ◌∷◌, ◌++◌, length, take, drop, Option, Some, None, refl, sym, ap, ◌∙◌, append_assoc, arith, eq-eqb, length-append}
use Rattle.std.specs.Prelude.{option_and_then, option_map}
use Rattle.std.specs.List.{list_any, position, position_or_len}
use Rattle.std.proofs.lemmas.Bool.Decides.{nat_tests}
use Rattle.std.proofs.lemmas.List.{drop_at}
use Rattle.std.proofs.lemmas.Option.{none-some, same_Some}
use Rattle.std.proofs.Math.Seq.{take-append_seam}
use Rattle.ug_types.specs.Elements.{Has}
use Rattle.ug_steps.specs.Words.{cut_by_dot, cut_by_space, cut_at_place}

tested : (c b : ℕ) → ¬ (b ≡ c) → nat_eq c b ≡ false
tested c b h = grind (arith, nat_tests)

byte_len : (c : ℕ) (xs rest : List ℕ) → ¬ Has xs c → position_or_len (nat_eq c) (xs ++ c ∷ rest) ≡ length xs
byte_len c [] rest h = rw (eq-eqb c c refl) refl
byte_len c (b ∷ xs) rest h = rw (tested c b (λ e. h (inl e))) (ap (λ (n : ℕ). 1 + n) (byte_len c xs rest (λ k. h (inr k))) ∙ omega arith)

byte_found : (c : ℕ) (xs rest : List ℕ) → ¬ Has xs c → position (nat_eq c) (xs ++ c ∷ rest) ≡ Some (length xs)
byte_found c xs rest h =
    let l = byte_len c xs rest h in
    let t : nat_lt (position_or_len (nat_eq c) (xs ++ c ∷ rest)) (length (xs ++ c ∷ rest)) ≡ true = grind (arith, nat_tests, l, length-append xs (c ∷ rest)) in
    rw t (ap Some l)

no_byte_len : (c : ℕ) (xs : List ℕ) → ¬ Has xs c → position_or_len (nat_eq c) xs ≡ length xs
no_byte_len c [] h = refl
no_byte_len c (b ∷ xs) h = rw (tested c b (λ e. h (inl e))) (ap (λ (n : ℕ). 1 + n) (no_byte_len c xs (λ k. h (inr k))) ∙ omega arith)

byte_missing : (c : ℕ) (xs : List ℕ) → ¬ Has xs c → position (nat_eq c) xs ≡ None
byte_missing c xs h =
    let l = no_byte_len c xs h in
    let t : nat_lt (position_or_len (nat_eq c) xs) (length xs) ≡ false = grind (arith, nat_tests, l) in
    rw t refl

pub space_found : (xs rest : List ℕ) → ¬ Has xs 32 → position (nat_eq 32) (xs ++ 32 ∷ rest) ≡ Some (length xs)
space_found xs rest h = byte_found 32 xs rest h

pub space_missing : (xs : List ℕ) → ¬ Has xs 32 → position (nat_eq 32) xs ≡ None
space_missing xs h = byte_missing 32 xs h

-- what stands before the first such byte, and behind it
record Parted (c : ℕ) (xs : List ℕ) : Type 0 where
  word : List ℕ
  rest : List ℕ
  is : xs ≡ word ++ c ∷ rest
  apart : ¬ Has word c

parted : (c : ℕ) (xs : List ℕ) → Parted c xs ⊎ (¬ Has xs c)
parted c [] = inr (λ h. h)
parted c (b ∷ xs) = by (nat_eq c b) refl (parted c xs)
  where
    by : (v : Bool) → nat_eq c b ≡ v → Parted c xs ⊎ (¬ Has xs c) → Parted c (b ∷ xs) ⊎ (¬ Has (b ∷ xs) c)
    by true e s =
        let same : b ≡ c = grind (arith, nat_tests) in
        inl (record { word = []; rest = xs; is = ap (λ (a : ℕ). a ∷ xs) same; apart = λ h. h })
    by false e (inl s) = inl (record {
      word = b ∷ s.word;
      rest = s.rest;
      is = ap (λ (l : List ℕ). b ∷ l) s.is;
      apart = λ h. elim h [ inl k ↦ (let none : ⊥ = grind (arith, nat_tests) in none) | inr k ↦ s.apart k ];
    })
    by false e (inr n) = inr (λ h. elim h [ inl k ↦ (let none : ⊥ = grind (arith, nat_tests) in none) | inr k ↦ n k ])

pub record Space (xs : List ℕ) : Type 0 where
  pub word : List ℕ
  pub rest : List ℕ
  pub is : xs ≡ word ++ 32 ∷ rest
  pub no_space : ¬ Has word 32

pub space : (xs : List ℕ) → Space xs ⊎ (¬ Has xs 32)
space xs = elim (parted 32 xs) [
  | inl p ↦ inl (record { word = p.word; rest = p.rest; is = p.is; no_space = p.apart })
  | inr none ↦ inr none
]

taken_before : (c : ℕ) (word rest : List ℕ) → take (length word) (word ++ c ∷ rest) ≡ word
taken_before c word rest = take-append_seam word (c ∷ rest)

left_behind : (c : ℕ) (word rest : List ℕ) → drop (length word + 1) (word ++ c ∷ rest) ≡ rest
left_behind c word rest = ap (drop (length word + 1)) (sym (append_assoc word (c ∷ []) rest)) ∙ drop_at (word ++ c ∷ []) rest (length word + 1) (length-append word (c ∷ []))

cut_there : {X : Type 0} (c : ℕ) (reads : List ℕ → List ℕ → X) (alone : X) (word rest : List ℕ) → cut_at_place reads alone (Some (length word)) (word ++ c ∷ rest) ≡ reads word rest
cut_there {X} c reads alone word rest =
    ap (λ (w : List ℕ). reads w (drop (length word + 1) (word ++ c ∷ rest))) (taken_before c word rest)
    ∙ ap (λ (r : List ℕ). reads word r) (left_behind c word rest)

-- the word and the rest
pub cut_found : {X : Type 0} (reads : List ℕ → List ℕ → X) (alone : X) (word rest : List ℕ) → ¬ Has word 32 → cut_by_space reads alone (word ++ 32 ∷ rest) ≡ reads word rest
cut_found {X} reads alone word rest apart =
    ap (λ (o : Option ℕ). cut_at_place reads alone o (word ++ 32 ∷ rest)) (space_found word rest apart) ∙ cut_there 32 reads alone word rest

pub cut_alone : {X : Type 0} (reads : List ℕ → List ℕ → X) (alone : X) (text : List ℕ) → ¬ Has text 32 → cut_by_space reads alone text ≡ alone
cut_alone {X} reads alone text h = ap (λ (o : Option ℕ). cut_at_place reads alone o text) (space_missing text h)

pub record IsCut {X : Type 0} (reads : List ℕ → List ℕ → Option X) (text : List ℕ) (x : X) : Type 0 where
  pub word : List ℕ
  pub rest : List ℕ
  pub is : text ≡ word ++ 32 ∷ rest
  pub apart : ¬ Has word 32
  pub gives : reads word rest ≡ Some x

pub cut_so : {X : Type 0} (reads : List ℕ → List ℕ → Option X) (text : List ℕ) (x : X) → cut_by_space reads None text ≡ Some x → IsCut reads text x
cut_so {X} reads text x h = elim (space text) [
  | inl s ↦ record {
    word = s.word;
    rest = s.rest;
    is = s.is;
    apart = s.no_space;
    gives = sym (cut_found reads None s.word s.rest s.no_space) ∙ sym (ap (cut_by_space reads None) s.is) ∙ h;
  }
  | inr none ↦ absurd (none-some x (sym (cut_alone reads None text none) ∙ h))
]

pub so_cut : {X : Type 0} (reads : List ℕ → List ℕ → Option X) (text word rest : List ℕ) (x : X) → text ≡ word ++ 32 ∷ rest → ¬ Has word 32 → reads word rest ≡ Some x → cut_by_space reads None text ≡ Some x
so_cut {X} reads text word rest x is apart gives = ap (cut_by_space reads None) is ∙ cut_found reads None word rest apart ∙ gives

-- ---- at a dot

pub record IsDotted {X : Type 0} (reads : List ℕ → List ℕ → Option X) (text : List ℕ) (x : X) : Type 0 where
  pub word : List ℕ
  pub rest : List ℕ
  pub is : text ≡ word ++ 46 ∷ rest
  pub gives : reads word rest ≡ Some x

dot_found : {X : Type 0} (reads : List ℕ → List ℕ → X) (alone : X) (word rest : List ℕ) → ¬ Has word 46 → cut_by_dot reads alone (word ++ 46 ∷ rest) ≡ reads word rest
dot_found {X} reads alone word rest apart =
    ap (λ (o : Option ℕ). cut_at_place reads alone o (word ++ 46 ∷ rest)) (byte_found 46 word rest apart) ∙ cut_there 46 reads alone word rest

pub dot_so : {X : Type 0} (reads : List ℕ → List ℕ → Option X) (text : List ℕ) (x : X) → cut_by_dot reads None text ≡ Some x → IsDotted reads text x
dot_so {X} reads text x h = elim (parted 46 text) [
  | inl s ↦ record {
    word = s.word;
    rest = s.rest;
    is = s.is;
    gives = sym (dot_found reads None s.word s.rest s.apart) ∙ sym (ap (cut_by_dot reads None) s.is) ∙ h;
  }
  | inr none ↦ absurd (none-some x (sym (ap (λ (o : Option ℕ). cut_at_place reads None o text) (byte_missing 46 text none)) ∙ h))
]

pub so_dot : {X : Type 0} (reads : List ℕ → List ℕ → Option X) (text word rest : List ℕ) (x : X) → text ≡ word ++ 46 ∷ rest → ¬ Has word 46 → reads word rest ≡ Some x → cut_by_dot reads None text ≡ Some x
so_dot {X} reads text word rest x is apart gives = ap (cut_by_dot reads None) is ∙ dot_found reads None word rest apart ∙ gives

-- ---- values that there may be

pub mapped : {X Y : Type 0} (f : X → Y) (o : Option X) (y : Y) → option_map f o ≡ Some y → (x : X) × (o ≡ Some x) × (f x ≡ y)
mapped f None y h = absurd (none-some y h)
mapped f (Some x) y h = (x, refl, same_Some (f x) y h)

pub bound : {X Y : Type 0} (f : X → Option Y) (o : Option X) (y : Y) → option_and_then f o ≡ Some y → (x : X) × (o ≡ Some x) × (f x ≡ Some y)
bound f None y h = absurd (none-some y h)
bound f (Some x) y h = (x, refl, h)

-- ---- words without a space

pub apart_by : (word : List ℕ) → list_any (nat_eq 32) word ≡ false → ¬ Has word 32
apart_by [] h k = k
apart_by (b ∷ word) h k = by (nat_eq 32 b) refl (apart_by word) h k
  where
    by : (v : Bool) → nat_eq 32 b ≡ v → (list_any (nat_eq 32) word ≡ false → ¬ Has word 32) → list_any (nat_eq 32) (b ∷ word) ≡ false → Has (b ∷ word) 32 → ⊥
    by true e again m n = let no : ⊥ = grind (arith, nat_tests) in no
    by false e again m (inl n) = let no : ⊥ = grind (arith, nat_tests) in no
    by false e again m (inr n) = again (sym (ap (λ (v : Bool). v || list_any (nat_eq 32) word) e) ∙ m) n
