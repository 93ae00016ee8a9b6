-- Strings read by what they spell, and cut.
use Rattle.std.proofs.Common.{◌≡◌, ℕ, zero, suc, ◌+◌, ◌*◌, ◌≤◌, ◌⊎◌, inl, inr, Bool, true, false, nat_eq, List, [], ◌∷◌, ◌++◌, length, length-append, drop, Option, None, Some, Result, Ok, Err, refl, sym, ap, subst, ◌∙◌, arith, append_assoc, add-zero}
use Rattle.std.specs.Prelude.{◌≢◌}
use Rattle.std.proofs.Math.Seq.{drop-append_seam}
use Rattle.ug_words.specs.declared.pieces.Inner.TheVariants.{Stray, Byte}
use Rattle.ug_words.specs.declared.pieces.Quoted.{Quoted}
use Rattle.ug_words.specs.Lexing.{Fault, BadEscape, OpenString, digit_of, hex_escape, escape_of, inner_of, pair_of, quoted_from, spelled}
use Rattle.ug_words.specs.Grammar.{BeginsEscape, Plain, Digits, IsLineEnd, Spells, Empty, Itself, Escaped, Coded}
use Rattle.ug_words.proofs.Steps.{grown, string_step}

escape_plain : (b : ℕ) (rest : List ℕ) → (b ≡ 34) ⊎ (b ≡ 92) → escape_of (b ∷ rest) ≡ Byte b 1
escape_plain b rest (inl e) = rw e refl
escape_plain b rest (inr e) = rw e refl

digits_read : (high low h l : ℕ) (rest : List ℕ) → digit_of high ≡ Some h → digit_of low ≡ Some l → hex_escape (high ∷ low ∷ rest) ≡ Byte (h * 16 + l) 3
digits_read high low h l rest d e = ap (λ (o : Option ℕ). pair_of o (digit_of low)) d ∙ ap (pair_of (Some h)) e

itself_read : (b : ℕ) (rest : List ℕ) → b ≢ 34 → b ≢ 92 → b ≢ 10 → inner_of (b ∷ rest) ≡ Byte b 0
itself_read b rest quote slash newline = grind arith

spelled-grown : (value more : ℕ) (text : List ℕ) (n : ℕ) (rest : Result Quoted Fault) → spelled value more (grown text n rest) ≡ grown (value ∷ text) (1 + more + n) rest
spelled-grown value more text n (Ok quoted) =
    let e : 1 + more + (n + quoted.more) ≡ 1 + more + n + quoted.more = omega arith in
    λ i. Ok (record { text = value ∷ (text ++ quoted.text); more = e i })
spelled-grown value more text n (Err fault) = refl

grown-nil : (rest : Result Quoted Fault) → grown [] 0 rest ≡ rest
grown-nil (Ok quoted) = let e : 0 + quoted.more ≡ quoted.more = omega arith in λ i. Ok (record { text = quoted.text; more = e i })
grown-nil (Err fault) = refl

-- one unit of a string is read
unit_read : (opening at value more : ℕ) (unit rest : List ℕ) → length unit ≡ 1 + more → inner_of (unit ++ rest) ≡ Byte value more → quoted_from opening at 0 (unit ++ rest) ≡ spelled value more (quoted_from opening (at + length unit) 0 rest)
unit_read opening at value more unit rest long e =
    let back : drop (1 + more) (unit ++ rest) ≡ rest = ap (λ (k : ℕ). drop k (unit ++ rest)) (sym long) ∙ drop-append_seam unit rest in
    let sum : at + 1 + more ≡ at + length unit = omega arith in
    string_step opening at (Byte value more) (unit ++ rest) (omega (arith, long, length-append unit rest)) e (omega (arith, long, length-append unit rest))
    ∙ ap (λ (d : List ℕ). spelled value more (quoted_from opening (at + 1 + more) 0 d)) back
    ∙ ap (λ (p : ℕ). spelled value more (quoted_from opening p 0 rest)) sum

unit_then : (opening at value more : ℕ) (unit inside text tail : List ℕ) (n : ℕ) → n ≡ length unit + length inside → length unit ≡ 1 + more → inner_of (unit ++ (inside ++ tail)) ≡ Byte value more → quoted_from opening (at + length unit) 0 (inside ++ tail) ≡ grown text (length inside) (quoted_from opening (at + length unit + length inside) 0 tail) → quoted_from opening at 0 (unit ++ (inside ++ tail)) ≡ grown (value ∷ text) n (quoted_from opening (at + n) 0 tail)
unit_then opening at value more unit inside text tail n sum long e then =
    let a : 1 + more + length inside ≡ n = omega arith in
    let b : at + length unit + length inside ≡ at + n = omega arith in
    unit_read opening at value more unit (inside ++ tail) long e
    ∙ ap (spelled value more) then
    ∙ spelled-grown value more text (length inside) (quoted_from opening (at + length unit + length inside) 0 tail)
    ∙ ap (λ (k : ℕ). grown (value ∷ text) k (quoted_from opening (at + length unit + length inside) 0 tail)) a
    ∙ ap (λ (p : ℕ). grown (value ∷ text) n (quoted_from opening p 0 tail)) b

-- what bytes spell is read
pub spelled_read : (opening at : ℕ) (inside text tail : List ℕ) → Spells inside text → quoted_from opening at 0 (inside ++ tail) ≡ grown text (length inside) (quoted_from opening (at + length inside) 0 tail)
spelled_read opening at inside text tail Empty = sym (grown-nil (quoted_from opening (at + 0) 0 tail) ∙ ap (λ (p : ℕ). quoted_from opening p 0 tail) (add-zero at))
spelled_read opening at inside text tail (Itself b more text' quote slash newline s) =
    unit_then opening at b 0 (b ∷ []) more text' tail (suc (length more)) (omega arith) (omega arith) (itself_read b (more ++ tail) quote slash newline) (spelled_read opening (at + 1) more text' tail s)
spelled_read opening at inside text tail (Escaped b more text' e s) =
    unit_then opening at b 1 (92 ∷ b ∷ []) more text' tail (suc (suc (length more))) (omega arith) (omega arith) (escape_plain b (more ++ tail) e) (spelled_read opening (at + 2) more text' tail s)
spelled_read opening at inside text tail (Coded high low h l more text' d e s) =
    unit_then opening at (h * 16 + l) 3 (92 ∷ 120 ∷ high ∷ low ∷ []) more text' tail (suc (suc (suc (suc (length more))))) (omega arith) (omega arith) (digits_read high low h l (more ++ tail) d e) (spelled_read opening (at + 4) more text' tail s)

pub closed_read : (opening at : ℕ) (tail : List ℕ) → quoted_from opening at 0 (34 ∷ tail) ≡ Ok (record { text = []; more = 1 })
unfolding quoted_from
closed_read opening at tail = refl

pub ended_read : (opening at : ℕ) (tail : List ℕ) → IsLineEnd tail → quoted_from opening at 0 tail ≡ Err (OpenString opening)
unfolding quoted_from
ended_read opening at tail (inl e) = rw e refl
ended_read opening at tail (inr e) = rw e.1 refl

stray_read : (opening at : ℕ) (tail : List ℕ) → escape_of tail ≡ Stray → quoted_from opening at 0 (92 ∷ tail) ≡ Err (BadEscape at)
unfolding quoted_from
stray_read opening at tail e = rw e refl

-- two digits, or none
pair_cases : (a b : Option ℕ) → ((x : ℕ) × (y : ℕ) × (a ≡ Some x) × (b ≡ Some y)) ⊎ (pair_of a b ≡ Stray)
pair_cases (Some x) (Some y) = inl (x, y, refl, refl)
pair_cases (Some x) None = inr refl
pair_cases None b = inr refl

digits_cases : (bytes : List ℕ) → BeginsEscape (120 ∷ bytes) ⊎ (hex_escape bytes ≡ Stray)
digits_cases [] = inr refl
digits_cases (high ∷ []) = inr refl
digits_cases (high ∷ low ∷ bytes) = elim (pair_cases (digit_of high) (digit_of low)) [
  | inl p ↦ inl (Digits high low p.0 p.1 bytes p.2 p.3)
  | inr e ↦ inr e
]

escape_cases : (bytes : List ℕ) → BeginsEscape bytes ⊎ (escape_of bytes ≡ Stray)
escape_cases [] = inr refl
escape_cases (c ∷ bytes) =
    let P : Type 0 = BeginsEscape (c ∷ bytes) ⊎ (escape_of (c ∷ bytes) ≡ Stray) in
    let A : Bool → Type 0 = λ v. nat_eq c 34 ≡ v → P in
    let B : Bool → Type 0 = λ v. nat_eq c 92 ≡ v → nat_eq c 34 ≡ false → P in
    let C : Bool → Type 0 = λ v. nat_eq c 120 ≡ v → nat_eq c 34 ≡ false → nat_eq c 92 ≡ false → P in
    let coded : c ≡ 120 → P = λ e. subst (λ (x : ℕ). BeginsEscape (x ∷ bytes) ⊎ (escape_of (x ∷ bytes) ≡ Stray)) (sym e) (digits_cases bytes) in
    let h : (v : Bool) → C v = λ v. elim v as C [ true ↦ λ e q s. coded (grind arith) | false ↦ λ e q s. inr (grind arith) ] in
    let g : (v : Bool) → B v = λ v. elim v as B [ true ↦ λ e q. inl (Plain c bytes (inr (grind arith))) | false ↦ λ e q. h (nat_eq c 120) refl q e ] in
    let f : (v : Bool) → A v = λ v. elim v as A [ true ↦ λ e. inl (Plain c bytes (inl (grind arith))) | false ↦ λ e. g (nat_eq c 92) refl e ] in
    f (nat_eq c 34) refl

begun : (bytes : List ℕ) → BeginsEscape bytes → escape_of bytes ≡ Stray → ⊥
begun bytes (Plain b rest e) n = let p = escape_plain b rest e in cc
begun bytes (Digits high low h l rest d e) n = let p = digits_read high low h l rest d e in cc

pub misspelled_read : (opening at : ℕ) (tail : List ℕ) → (BeginsEscape tail → ⊥) → quoted_from opening at 0 (92 ∷ tail) ≡ Err (BadEscape at)
misspelled_read opening at tail n = elim (escape_cases tail) [ inl b ↦ absurd (n b) | inr e ↦ stray_read opening at tail e ]

-- what stands behind an opening quote
pub record Closed (xs : List ℕ) : Type 0 where
  pub inside : List ℕ
  pub text : List ℕ
  pub tail : List ℕ
  pub all : xs ≡ inside ++ 34 ∷ tail
  pub spells : Spells inside text

pub record Ended (xs : List ℕ) : Type 0 where
  pub inside : List ℕ
  pub text : List ℕ
  pub tail : List ℕ
  pub all : xs ≡ inside ++ tail
  pub spells : Spells inside text
  pub ends : IsLineEnd tail

pub record Misspelt (xs : List ℕ) : Type 0 where
  pub inside : List ℕ
  pub text : List ℕ
  pub tail : List ℕ
  pub all : xs ≡ inside ++ 92 ∷ tail
  pub spells : Spells inside text
  pub none : BeginsEscape tail → ⊥

abbrev pub StringCut : List ℕ → Type 0
StringCut xs = Closed xs ⊎ (Ended xs ⊎ Misspelt xs)

moved : (unit xs inside tail : List ℕ) → xs ≡ inside ++ tail → unit ++ xs ≡ (unit ++ inside) ++ tail
moved unit xs inside tail e = ap (λ (l : List ℕ). unit ++ l) e ∙ sym (append_assoc unit inside tail)

longer : (unit xs : List ℕ) (value : ℕ) → ((inside text : List ℕ) → Spells inside text → Spells (unit ++ inside) (value ∷ text)) → StringCut xs → StringCut (unit ++ xs)
longer unit xs value f (inl c) = inl (record {
  inside = unit ++ c.inside;
  text = value ∷ c.text;
  tail = c.tail;
  all = moved unit xs c.inside (34 ∷ c.tail) c.all;
  spells = f c.inside c.text c.spells;
})
longer unit xs value f (inr (inl c)) = inr (inl (record {
  inside = unit ++ c.inside;
  text = value ∷ c.text;
  tail = c.tail;
  all = moved unit xs c.inside c.tail c.all;
  spells = f c.inside c.text c.spells;
  ends = c.ends;
}))
longer unit xs value f (inr (inr c)) = inr (inr (record {
  inside = unit ++ c.inside;
  text = value ∷ c.text;
  tail = c.tail;
  all = moved unit xs c.inside (92 ∷ c.tail) c.all;
  spells = f c.inside c.text c.spells;
  none = c.none;
}))

cut_escape : (bytes : List ℕ) → ((rest : List ℕ) → length rest ≤ length bytes → StringCut rest) → BeginsEscape bytes → StringCut (92 ∷ bytes)
cut_escape bytes cut (Plain b rest e) = longer (92 ∷ b ∷ []) rest b (λ inside text s. Escaped b inside text e s) (cut rest (omega arith))
cut_escape bytes cut (Digits high low h l rest d e) = longer (92 ∷ 120 ∷ high ∷ low ∷ []) rest (h * 16 + l) (λ inside text s. Coded high low h l inside text d e s) (cut rest (omega arith))

cut_slash : (bytes : List ℕ) → ((rest : List ℕ) → length rest ≤ length bytes → StringCut rest) → StringCut (92 ∷ bytes)
cut_slash bytes cut = elim (escape_cases bytes) [
  | inl b ↦ cut_escape bytes cut b
  | inr e ↦ inr (inr (record { inside = []; text = []; tail = bytes; all = refl; spells = Empty; none = λ b. begun bytes b e }))
]

cut_one : (b : ℕ) (bytes : List ℕ) → ((rest : List ℕ) → length rest ≤ length bytes → StringCut rest) → StringCut (b ∷ bytes)
cut_one b bytes cut =
    let A : Bool → Type 0 = λ v. nat_eq b 34 ≡ v → StringCut (b ∷ bytes) in
    let B : Bool → Type 0 = λ v. nat_eq b 92 ≡ v → b ≢ 34 → StringCut (b ∷ bytes) in
    let C : Bool → Type 0 = λ v. nat_eq b 10 ≡ v → b ≢ 34 → b ≢ 92 → StringCut (b ∷ bytes) in
    let closed : b ≡ 34 → StringCut (b ∷ bytes) = λ e. inl (record { inside = []; text = []; tail = bytes; all = ap (λ (x : ℕ). x ∷ bytes) e; spells = Empty }) in
    let ended : b ≡ 10 → StringCut (b ∷ bytes) = λ e. inr (inl (record { inside = []; text = []; tail = b ∷ bytes; all = refl; spells = Empty; ends = inr (bytes, ap (λ (x : ℕ). x ∷ bytes) e) })) in
    let slash : b ≡ 92 → StringCut (b ∷ bytes) = λ e. subst (λ (x : ℕ). StringCut (x ∷ bytes)) (sym e) (cut_slash bytes cut) in
    let h : (v : Bool) → C v = λ v. elim v as C [
      | true ↦ λ e q s. ended (grind arith)
      | false ↦ λ e q s. longer (b ∷ []) bytes b (λ inside text t. Itself b inside text q s (λ n. grind arith) t) (cut bytes (omega arith))
    ] in
    let g : (v : Bool) → B v = λ v. elim v as B [ true ↦ λ e q. slash (grind arith) | false ↦ λ e q. h (nat_eq b 10) refl q (λ n. grind arith) ] in
    let f : (v : Bool) → A v = λ v. elim v as A [ true ↦ λ e. closed (grind arith) | false ↦ λ e. g (nat_eq b 92) refl (λ n. grind arith) ] in
    f (nat_eq b 34) refl

pub cut_string : (n : ℕ) (xs : List ℕ) → length xs ≤ n → StringCut xs
cut_string n [] h = inr (inl (record { inside = []; text = []; tail = []; all = refl; spells = Empty; ends = inl refl }))
cut_string zero (b ∷ bytes) h = absurd (omega (arith, h))
cut_string (suc n) (b ∷ bytes) h = cut_one b bytes (λ rest l. cut_string n rest (omega (arith, h, l)))
