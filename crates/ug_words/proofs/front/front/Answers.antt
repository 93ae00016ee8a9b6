use Rattle.std.proofs.Common.{◌≡◌, ℕ, ◌+◌, ◌<◌, true, false, nat_eq, if◌then◌else◌, List, length, drop, Option, Ok, slice_index, sym, ap, ◌∙◌, arith}
use Rattle.std.specs.List.{prefix_len}
use Rattle.std.proofs.lemmas.Bool.{cond-true, cond-false, eq-eqb, ne_eqb}
use Rattle.ug_words.specs.declared.pieces.Front.TheVariants.{Blank, Comment, Piece}
use Rattle.ug_words.specs.declared.token.TokenKind.{TokenKind}
use Rattle.ug_words.specs.declared.token.TokenKind.TheVariants.{Word}
use Rattle.ug_words.specs.Lexing.{front_of, is_blank, is_word_byte, mark_at, mark_token, quoted_from, string_of}
use Rattle.ug_words.proofs.Steps.{handed_over, opened, rest_is, rest_length}
use Rattle.ug_words.proofs.front.front.Goals as goal

module _ (line : List ℕ) (at : ℕ) (h : at < length line) where
  blank : is_blank (slice_index line at) ≡ true → front_of at (drop at line) ≡ Ok Blank
  unfolding front_of
  blank e = ap (front_of at) (opened line at h) ∙ cond-true (is_blank (slice_index line at)) _ _ e

  comment : is_blank (slice_index line at) ≡ false → slice_index line at ≡ 35 → front_of at (drop at line) ≡ Ok Comment
  unfolding front_of
  comment e f =
      ap (front_of at) (opened line at h) ∙ cond-false (is_blank (slice_index line at)) _ _ e
      ∙ cond-true (nat_eq (slice_index line at) 35) _ _ (eq-eqb (slice_index line at) 35 f)

  string : is_blank (slice_index line at) ≡ false → (slice_index line at ≡ 35 → ⊥) → slice_index line at ≡ 34 → front_of at (drop at line) ≡ string_of (quoted_from at (at + 1) 0 (drop (at + 1) line))
  unfolding front_of
  string e f g =
      ap (front_of at) (opened line at h) ∙ cond-false (is_blank (slice_index line at)) _ _ e
      ∙ cond-false (nat_eq (slice_index line at) 35) _ _ (ne_eqb (slice_index line at) 35 f)
      ∙ cond-true (nat_eq (slice_index line at) 34) _ _ (eq-eqb (slice_index line at) 34 g)

  rest : is_blank (slice_index line at) ≡ false → (slice_index line at ≡ 35 → ⊥) → (slice_index line at ≡ 34 → ⊥) → front_of at (drop at line) ≡ if is_word_byte (slice_index line at) then Ok (Piece Word (prefix_len is_word_byte (drop (at + 1) line))) else mark_at at (mark_token (slice_index line at))
  unfolding front_of
  rest e f g =
      ap (front_of at) (opened line at h) ∙ cond-false (is_blank (slice_index line at)) _ _ e
      ∙ cond-false (nat_eq (slice_index line at) 35) _ _ (ne_eqb (slice_index line at) 35 f)
      ∙ cond-false (nat_eq (slice_index line at) 34) _ _ (ne_eqb (slice_index line at) 34 g)

  marked : is_blank (slice_index line at) ≡ false → (slice_index line at ≡ 35 → ⊥) → (slice_index line at ≡ 34 → ⊥) → is_word_byte (slice_index line at) ≡ false → (mark : Option TokenKind) → mark_token (slice_index line at) ≡ mark → front_of at (drop at line) ≡ mark_at at mark
  marked e f g w mark m = rest e f g ∙ cond-false (is_word_byte (slice_index line at)) _ _ w ∙ ap (mark_at at) m

pub returns-then-separates-clause-read : goal.returns-then-separates-clause-read
returns-then-separates-clause-read c =
    blank c.args.line.now c.args.at c.requires (sym c.separates.ensures ∙ c.if-separates.true)

pub returns-then-byte-eq35-clause-read : goal.returns-then-byte-eq35-clause-read
returns-then-byte-eq35-clause-read c =
    comment c.args.line.now c.args.at c.requires (sym c.separates.ensures ∙ c.if-separates.false) c.if-byte-eq35.true

pub returns-in_err-quoted-clause-read : goal.returns-in_err-quoted-clause-read
returns-in_err-quoted-clause-read c =
    handed_over c.from_residual.result c.in_err-quoted.field-0.0 (quoted_from c.args.at (c.args.at + 1) 0 (drop (c.args.at + 1) c.args.line.now)) (front_of c.args.at (drop c.args.at c.args.line.now)) c.from_residual.ensures.1
    (λ fault e. string c.args.line.now c.args.at c.requires (sym c.separates.ensures ∙ c.if-separates.false) c.if-byte-eq35.false c.if-byte-eq34.true ∙ ap string_of e)
    c.in_err-quoted.ensures.read

pub returns-then-byte-eq34-clause-read : goal.returns-then-byte-eq34-clause-read
returns-then-byte-eq34-clause-read c =
    string c.args.line.now c.args.at c.requires (sym c.separates.ensures ∙ c.if-separates.false) c.if-byte-eq35.false c.if-byte-eq34.true
    ∙ ap string_of c.in_ok-quoted.ensures.read

pub returns-then-stands_in_word-clause-read : goal.returns-then-stands_in_word-clause-read
returns-then-stands_in_word-clause-read c =
    rest c.args.line.now c.args.at c.requires (sym c.separates.ensures ∙ c.if-separates.false) c.if-byte-eq35.false c.if-byte-eq34.false
    ∙ cond-true (is_word_byte (slice_index c.args.line.now c.args.at)) _ _ (sym c.stands_in_word.ensures ∙ c.if-stands_in_word.true)
    ∙ ap (λ (l : List ℕ). Ok (Piece Word (prefix_len is_word_byte l))) (sym (rest_is (c.args.at + 1) c.args.line.now))
    ∙ ap (λ (n : ℕ). Ok (Piece Word n)) (sym c.word_length.ensures.is)

pub returns-then-stands_in_word-clause-fits : goal.returns-then-stands_in_word-clause-fits
returns-then-stands_in_word-clause-fits c = omega (arith, c.requires, c.word_length.ensures.fits, rest_length (c.args.at + 1) c.args.line.now)

pub returns-in-Some-clause-read : goal.returns-in-Some-clause-read
returns-in-Some-clause-read c =
    marked c.args.line.now c.args.at c.requires (sym c.separates.ensures ∙ c.if-separates.false) c.if-byte-eq35.false c.if-byte-eq34.false (sym c.stands_in_word.ensures ∙ c.if-stands_in_word.false) _ (sym c.in-Some.ensures)

pub returns-in-None-clause-read : goal.returns-in-None-clause-read
returns-in-None-clause-read c =
    marked c.args.line.now c.args.at c.requires (sym c.separates.ensures ∙ c.if-separates.false) c.if-byte-eq35.false c.if-byte-eq34.false (sym c.stands_in_word.ensures ∙ c.if-stands_in_word.false) _ (sym c.in-None.ensures)
