-- Decimal numbers, digit by digit.
use Rattle.std.proofs.Common.{◌≡◌, ℕ, ◌+◌, ◌<◌, List, [], ◌∷◌, length, take, drop, get_or, Option, None, Some, refl, sym, ap, ◌∙◌}
use Rattle.std.proofs.lemmas.List.{take-append-drop}
use Rattle.std.proofs.lemmas.List.Sums.{fold_more, fold-append}
use Rattle.std.specs.List.{fold}
use Rattle.ug_words.specs.Words.{with_decimal_digit, digits_of}

pub fold-none : (xs : List ℕ) → fold with_decimal_digit None xs ≡ None
fold-none [] = refl
fold-none (x ∷ xs) = fold-none xs

pub digits-stop : (xs : List ℕ) (i n : ℕ) → i < length xs → digits_of (take i xs) ≡ Some n → None ≡ with_decimal_digit (Some n) (get_or xs i 0) → None ≡ digits_of xs
digits-stop xs i n h e k =
    let p : digits_of (take (i + 1) xs) ≡ None = fold_more with_decimal_digit (Some 0) xs i 0 h ∙ (ap (λ (o : Option ℕ). with_decimal_digit o (get_or xs i 0)) e ∙ sym k) in
    sym (ap (λ (l : List ℕ). digits_of l) (sym (take-append-drop (i + 1) xs)) ∙ (fold-append with_decimal_digit (Some 0) (take (i + 1) xs) (drop (i + 1) xs) ∙ (ap (λ (o : Option ℕ). fold with_decimal_digit o (drop (i + 1) xs)) p ∙ fold-none (drop (i + 1) xs))))
