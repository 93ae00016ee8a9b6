-- How long the lines of requests are.
use Rattle.std.proofs.Common.{◌≡◌, ℕ, ◌+◌, ◌≤◌, List, ◌++◌, ◌∷◌, length, refl, arith, length-append}
use Rattle.std.specs.Prelude.{codes, decimal, nat_le, Bool, true, false}
use Rattle.std.proofs.lemmas.Bool.{le-leb}
use Rattle.ug_types.specs.declared.rule.After.{After}
use Rattle.ug_types.specs.declared.verdict.Target.{Target}
use Rattle.ug_types.specs.declared.verdict.Target.TheVariants as target
use Rattle.ug_proto.specs.Texts.{after_word, device_word, kind_word, permanence_words}

pub set_length : (name value : List ℕ) → length (codes "set-parameter " ++ (name ++ 32 ∷ value)) ≡ 15 + (length name + length value)
set_length name value = omega (arith, length-append name (32 ∷ value))

kind_length : (permanent : Bool) → length (kind_word permanent) ≡ 9
kind_length true = refl
kind_length false = refl

pub append_length : (after : After) (permanent : Bool) (rule : List ℕ) → length (codes "append-rule " ++ (after_word after ++ 32 ∷ (kind_word permanent ++ 32 ∷ rule))) ≡ (23 + length (after_word after)) + length rule
append_length after permanent rule =
    omega (arith, length-append (after_word after) (32 ∷ (kind_word permanent ++ 32 ∷ rule)), length-append (kind_word permanent) (32 ∷ rule), kind_length permanent)

word_length : (to : Target) → length (device_word to) ≤ 13
word_length target.Allow = omega (arith)
word_length target.Block = omega (arith)
word_length target.Reject = omega (arith)

permanence_length : (permanent : Bool) → length (permanence_words permanent) ≤ 10
permanence_length true = omega (arith)
permanence_length false = omega (arith)

pub device_fits : (to : Target) (n : ℕ) (permanent : Bool) → length (decimal n) ≤ 40 → nat_le (length (device_word to ++ 32 ∷ (decimal n ++ permanence_words permanent))) 65535 ≡ true
device_fits to n permanent h =
    le-leb _ 65535 (omega (arith, h, length-append (device_word to) (32 ∷ (decimal n ++ permanence_words permanent)), length-append (decimal n) (permanence_words permanent), word_length to, permanence_length permanent))

pub removal_fits : (n : ℕ) → length (decimal n) ≤ 40 → nat_le (length (codes "remove-rule " ++ decimal n)) 65535 ≡ true
removal_fits n h = le-leb _ 65535 (omega (arith, h))
