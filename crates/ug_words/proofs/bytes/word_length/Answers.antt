use Rattle.std.proofs.Common.{◌≡◌, ℕ, ◌+◌, ◌<◌, true, List, length, drop, slice_index, sym, ap, ◌∙◌, arith, add-zero}
use Rattle.std.specs.List.{prefix_len}
use Rattle.std.proofs.lemmas.List.Sums.{prefix_len-drop_all, prefix_len-drop_no, prefix_len-drop_yes}
use Rattle.ug_words.specs.Lexing.{is_word_byte}
use Rattle.ug_words.proofs.bytes.word_length.Goals as goal

module _ (bytes : List ℕ) (count : ℕ) (read : count + prefix_len is_word_byte (drop count bytes) ≡ prefix_len is_word_byte bytes) where
  ended : prefix_len is_word_byte (drop count bytes) ≡ 0 → count ≡ prefix_len is_word_byte bytes
  ended e = sym (add-zero count) ∙ ap (λ (k : ℕ). count + k) (sym e) ∙ read

  goes_on : count < length bytes → is_word_byte (slice_index bytes count) ≡ true → count + 1 + prefix_len is_word_byte (drop (count + 1) bytes) ≡ prefix_len is_word_byte bytes
  goes_on h e = omega (arith, read, prefix_len-drop_yes is_word_byte bytes count 0 h e)

pub returns-then-not-stands_in_word-clause-is : goal.returns-then-not-stands_in_word-clause-is
returns-then-not-stands_in_word-clause-is c =
    ended c.args.bytes.now c.loop-count.count c.loop-count.invariant.read (prefix_len-drop_no is_word_byte c.args.bytes.now c.loop-count.count 0 c.loop-count-test.true (sym c.stands_in_word.ensures ∙ c.if-not-stands_in_word.true))

pub loop-count-preserved : goal.loop-count-preserved
loop-count-preserved c = record {
  within = omega (arith, c.loop-count-test.true);
  read = goes_on c.args.bytes.now c.loop-count.count c.loop-count.invariant.read c.loop-count-test.true (sym c.stands_in_word.ensures ∙ c.if-not-stands_in_word.false);
}

pub returns-clause-is : goal.returns-clause-is
returns-clause-is c = ended c.args.bytes.now c.loop-count.count c.loop-count.invariant.read (prefix_len-drop_all is_word_byte c.args.bytes.now c.loop-count.count c.loop-count-test.false)
