-- Printed strings spell their texts.
use Rattle.std.proofs.Common.{◌≡◌, ℕ, ◌+◌, ◌*◌, ◌/◌, ◌%◌, ◌<◌, ◌⊎◌, inl, inr, Bool, true, false, ◌&&◌, ◌||◌, nat_eq, nat_le, List, [], ◌∷◌, ◌++◌, flat_map, refl, subst, ap, arith, if◌then◌else◌}
use Rattle.std.specs.Char.{digit_char}
use Rattle.std.specs.List.{AllByRecursion}
use Rattle.std.proofs.lemmas.List.Elements.{recursion_from_All}
use Rattle.ug_words.specs.declared.token.TokenKind.TheVariants as kind
use Rattle.ug_words.specs.Grammar.{Spells, Empty, Itself, Escaped, Coded}
use Rattle.ug_words.specs.Keywords.{operator_of}
use Rattle.ug_rule.specs.Tokens.{string_by}
use Rattle.ug_rule.specs.Values.{string_in}
use Rattle.ug_print.specs.Bytes.{AreBytes}
use Rattle.ug_lines.specs.Digits.{hex_two}
use Rattle.ug_print.specs.Items.{byte_text, string_text}
use Rattle.ug_print.proofs.Hexadecimal.{digit_lexed}
use Rattle.ug_print.proofs.Pieces.{one_string}
use Rattle.ug_print.proofs.ValuesAgain.{ItemPiece}

marked : (b : ℕ) → (nat_eq b 34 || nat_eq b 92) ≡ true → (b ≡ 34) ⊎ (b ≡ 92)
marked b h =
    let G : Bool → Type 0 = λ v. nat_eq b 34 ≡ v → (b ≡ 34) ⊎ (b ≡ 92) in
    let g : (v : Bool) → G v = λ v. elim v as G [ true ↦ λ e. inl (grind arith) | false ↦ λ e. inr (grind arith) ] in
    g (nat_eq b 34) refl

byte_spelled : (b : ℕ) (inside text : List ℕ) → b < 256 → Spells inside text → Spells (byte_text b ++ inside) (b ∷ text)
byte_spelled b inside text h s =
    let G : Bool → Bool → Type 0 = λ u v. (nat_eq b 34 || nat_eq b 92) ≡ u → (nat_le 32 b && nat_le b 126) ≡ v → Spells ((if u then 92 ∷ b ∷ [] else if v then b ∷ [] else 92 ∷ 120 ∷ hex_two b) ++ inside) (b ∷ text) in
    let sum : b / 16 * 16 + b % 16 ≡ b = omega arith in
    let coded : Spells (92 ∷ 120 ∷ digit_char (b / 16) ∷ digit_char (b % 16) ∷ inside) (b ∷ text) =
    subst (λ (n : ℕ). Spells (92 ∷ 120 ∷ digit_char (b / 16) ∷ digit_char (b % 16) ∷ inside) (n ∷ text)) sum
    (Coded (digit_char (b / 16)) (digit_char (b % 16)) (b / 16) (b % 16) inside text (digit_lexed (b / 16) (omega (arith, h))) (digit_lexed (b % 16) (omega arith)) s) in
    let plain : (v : Bool) → G false v = λ v. elim v as (λ v. G false v) [
      | true ↦ λ d e. Itself b inside text (λ q. grind arith) (λ q. grind arith) (λ q. grind arith) s
      | false ↦ λ d e. coded
    ] in
    let all : (u v : Bool) → G u v = λ u. elim u as (λ u. (v : Bool) → G u v) [
      | true ↦ λ v d e. Escaped b inside text (marked b d) s
      | false ↦ plain
    ] in
    all (nat_eq b 34 || nat_eq b 92) (nat_le 32 b && nat_le b 126) refl refl

spelled : (text : List ℕ) → AllByRecursion (λ b. b < 256) text → Spells (flat_map byte_text text) text
spelled [] h = Empty
spelled (b ∷ text) h = byte_spelled b (flat_map byte_text text) text h.0 (spelled text h.1)

pub string_piece : (text : List ℕ) → AreBytes text → ItemPiece string_in (string_text text) text
unfolding operator_of
string_piece text h = record {
  piece = record { kind = kind.Str text; word = [] };
  cut = one_string (flat_map byte_text text) text (spelled text (recursion_from_All (λ b. b < 256) text h));
  no_open = refl;
  no_close = refl;
  no_operator = refl;
  says = λ line token p. ap string_by p.kind;
}
