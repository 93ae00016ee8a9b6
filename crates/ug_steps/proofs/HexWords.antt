-- Hexadecimal digits are read as the bytes that they are.
use Rattle.std.proofs.Common.{◌≡◌, ◌≢◌, ℕ, ◌+◌, ◌*◌, ◌%◌, inl, inr, List, [], ◌∷◌, length, Option, Some, None, Result, Ok, Err, refl, sym, ap, subst, ◌∙◌, arith}
use Rattle.std.proofs.lemmas.Option.{none-some, same_Some}
use Rattle.hex.specs.Hex.{hex_digit_value, digit_or_error, value_at, ◌>>=◌, pair_value, decode_pairs, decode_of, decode_sized}
use Rattle.hex.specs.declared.error.FromHexError.{FromHexError}
use Rattle.hex.proofs.HexLemmas.{decode_of-even, decode_of-ok, decode_sized-ok, decode_sized-twice}
use Rattle.ug_types.specs.Elements.{Has}
use Rattle.ug_steps.specs.LineGrammar.{AreHexOf}
use Rattle.ug_steps.specs.Words.{bytes_of, some_bytes, seed_in, seed_of}

bound_ok : {A B : Type 0} (r : Result A FromHexError) (next : A → Result B FromHexError) (b : B) → (r >>= next) ≡ Ok b → (a : A) × (r ≡ Ok a) × (next a ≡ Ok b)
bound_ok (Ok a) next b h = (a, refl, h)
bound_ok (Err e) next b h = let none : ⊥ = cc in absurd none

digit_cut : (c i v : ℕ) (o : Option ℕ) → digit_or_error c i o ≡ Ok v → o ≡ Some v
digit_cut c i v None h = let none : ⊥ = cc in absurd none
digit_cut c i v (Some w) h = let e : Some w ≡ Some v = cc in e

record IsPair (first second v : ℕ) : Type 0 where
  high : ℕ
  low : ℕ
  says_high : hex_digit_value first ≡ Some high
  says_low : hex_digit_value second ≡ Some low
  is : v ≡ high * 16 + low

pair_cut : (first second i v : ℕ) → pair_value first second i ≡ Ok v → IsPair first second v
pair_cut first second i v h =
    let s = bound_ok (value_at first i) (λ h. value_at second (i + 1) >>= (λ l. Ok (h * 16 + l))) v h in
    let t = bound_ok (value_at second (i + 1)) (λ l. Ok (s.0 * 16 + l)) v s.2 in
    let e : s.0 * 16 + t.0 ≡ v = let e : s.0 * 16 + t.0 ≡ v = cc in e in
    record {
      high = s.0;
      low = t.0;
      says_high = digit_cut first i s.0 (hex_digit_value first) s.1;
      says_low = digit_cut second (i + 1) t.0 (hex_digit_value second) t.1;
      is = sym e;
    }

pair_reads : (first second i v : ℕ) → IsPair first second v → pair_value first second i ≡ Ok v
pair_reads first second i v t = rw t.says_high (rw t.says_low (ap Ok (sym t.is)))

pairs_so : (i : ℕ) (digits bytes : List ℕ) → decode_pairs i digits ≡ Ok bytes → AreHexOf bytes digits
unfolding decode_pairs
pairs_so i [] bytes h = let e : [] ≡ bytes = cc in subst (λ (bs : List ℕ). AreHexOf bs []) e refl
pairs_so i (a ∷ []) bytes h = let none : ⊥ = cc in absurd none
pairs_so i (a ∷ b ∷ rest) bytes h =
    let p = bound_ok (pair_value a b i) (λ byte. decode_pairs (i + 2) rest >>= (λ bs. Ok (byte ∷ bs))) bytes h in
    let q = bound_ok (decode_pairs (i + 2) rest) (λ bs. Ok (p.0 ∷ bs)) bytes p.2 in
    let t = pair_cut a b i p.0 p.1 in
    let e : p.0 ∷ q.0 ≡ bytes = cc in
    subst (λ (bs : List ℕ). AreHexOf bs (a ∷ b ∷ rest)) e (a, b, t.high, t.low, rest, refl, t.says_high, t.says_low, t.is, pairs_so (i + 2) rest q.0 q.1)

so_pairs : (i : ℕ) (bytes digits : List ℕ) → AreHexOf bytes digits → decode_pairs i digits ≡ Ok bytes
unfolding decode_pairs
so_pairs i [] digits h = rw h refl
so_pairs i (byte ∷ bytes) digits (first, second, high, low, rest, is, says_high, says_low, byte_is, more) =
    let p : pair_value first second i ≡ Ok byte = pair_reads first second i byte (record { high = high; low = low; says_high = says_high; says_low = says_low; is = byte_is }) in
    ap (decode_pairs i) is
    ∙ ap (λ (r : Result ℕ FromHexError). r >>= (λ b. decode_pairs (i + 2) rest >>= (λ bs. Ok (b ∷ bs)))) p
    ∙ ap (λ (r : Result (List ℕ) FromHexError). r >>= (λ bs. Ok (byte ∷ bs))) (so_pairs (i + 2) bytes rest more)

pub hex_twice : (bytes digits : List ℕ) → AreHexOf bytes digits → length digits ≡ 2 * length bytes
hex_twice [] digits h = ap length h
hex_twice (byte ∷ bytes) digits (first, second, high, low, rest, is, says_high, says_low, byte_is, more) =
    let l = hex_twice bytes rest more in let m = ap length is in omega (arith, l, m)

no_digit : (c v : ℕ) → hex_digit_value c ≡ Some v → ¬ (c ≡ 32)
no_digit c v h e = none-some v (sym (ap hex_digit_value e) ∙ h)

pub hex_apart : (bytes digits : List ℕ) → AreHexOf bytes digits → ¬ Has digits 32
hex_apart [] digits h k = subst (λ (ds : List ℕ). Has ds 32) h k
hex_apart (byte ∷ bytes) digits (first, second, high, low, rest, is, says_high, says_low, byte_is, more) k =
    elim (subst (λ (ds : List ℕ). Has ds 32) is k) [
      | inl e ↦ no_digit first high says_high e
      | inr later ↦ elim later [ inl e ↦ no_digit second low says_low e | inr m ↦ hex_apart bytes rest more m ]
    ]

even_so : (digits bytes : List ℕ) → AreHexOf bytes digits → length digits % 2 ≡ 0
even_so digits bytes h = let l = hex_twice bytes digits h in omega (arith, l)

decoded_so : (digits bytes : List ℕ) → decode_of digits ≡ Ok bytes → AreHexOf bytes digits
decoded_so digits bytes h = pairs_so 0 digits bytes (sym (decode_of-even digits (decode_of-ok digits bytes h).0) ∙ h)

so_decoded : (digits bytes : List ℕ) → AreHexOf bytes digits → decode_of digits ≡ Ok bytes
so_decoded digits bytes h = decode_of-even digits (even_so digits bytes h) ∙ so_pairs 0 bytes digits h

-- ---- at least one byte

filled_so : (r : Result (List ℕ) FromHexError) (bytes : List ℕ) → some_bytes r ≡ Some bytes → (r ≡ Ok bytes) × (bytes ≢ [])
filled_so (Ok []) bytes h = absurd (none-some bytes h)
filled_so (Ok (b ∷ bs)) bytes h =
    let e : b ∷ bs ≡ bytes = same_Some (b ∷ bs) bytes h in
    (ap Ok e, λ k. let none : ⊥ = cc in none)
filled_so (Err e) bytes h = absurd (none-some bytes h)

so_filled : (bytes : List ℕ) → bytes ≢ [] → some_bytes (Ok bytes) ≡ Some bytes
so_filled [] h = absurd (h refl)
so_filled (b ∷ bytes) h = refl

pub bytes_so : (digits bytes : List ℕ) → bytes_of digits ≡ Some bytes → AreHexOf bytes digits × (bytes ≢ [])
unfolding bytes_of
bytes_so digits bytes h = let f = filled_so (decode_of digits) bytes h in (decoded_so digits bytes f.0, f.1)

pub so_bytes : (digits bytes : List ℕ) → AreHexOf bytes digits → bytes ≢ [] → bytes_of digits ≡ Some bytes
unfolding bytes_of
so_bytes digits bytes h some = ap some_bytes (so_decoded digits bytes h) ∙ so_filled bytes some

-- ---- a seed

seed_in_so : (r : Result (List ℕ) FromHexError) (seed : List ℕ) → seed_in r ≡ Some seed → r ≡ Ok seed
seed_in_so (Ok bytes) seed h = ap Ok (same_Some bytes seed h)
seed_in_so (Err e) seed h = absurd (none-some seed h)

pub seed_so : (digits seed : List ℕ) → seed_of digits ≡ Some seed → AreHexOf seed digits × (length seed ≡ 32)
seed_so digits seed h =
    let r = seed_in_so (decode_sized digits 32) seed h in
    let l : length digits ≡ 2 * 32 = decode_sized-ok digits 32 seed r in
    let d = decoded_so digits seed (sym (decode_sized-twice digits 32 l) ∙ r) in
    let m = hex_twice seed digits d in
    (d, omega (arith, l, m))

pub so_seed : (digits seed : List ℕ) → AreHexOf seed digits → length seed ≡ 32 → seed_of digits ≡ Some seed
so_seed digits seed h long =
    let m = hex_twice seed digits h in
    let l : length digits ≡ 2 * 32 = omega (arith, long, m) in
    ap seed_in (decode_sized-twice digits 32 l ∙ so_decoded digits seed h)
