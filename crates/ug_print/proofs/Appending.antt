-- Words that are put one behind another.
use Rattle.std.proofs.Common.{◌≡◌, ℕ, ◌+◌, ◌<◌, List, ◌++◌, ap, ◌∙◌, append_assoc, get_or, length, sym, take}
use Rattle.std.specs.Prelude.{flat_map}
use Rattle.std.proofs.lemmas.List.{flat_map_more, take_more}

pub then : {X : Type 0} (start front more before after : List X) → before ≡ start ++ front → after ≡ before ++ more → after ≡ start ++ (front ++ more)
then start front more before after e f = f ∙ ap (λ l. l ++ more) e ∙ append_assoc start front more

-- a loop over items has written one more of them
pub one_more : {X : Type 0} (f : X → List ℕ) (start before after : List ℕ) (xs : List X) (i : ℕ) (d : X) → i < length xs
    → before ≡ start ++ flat_map f (take i xs) → after ≡ before ++ f (get_or xs i d) → after ≡ start ++ flat_map f (take (i + 1) xs)
one_more {X} f start before after xs i d h e g =
    let x : X = get_or xs i d in
    g ∙ ap (λ (l : List ℕ). l ++ f x) e ∙ flat_map_more f start (take i xs) x ∙ ap (λ (l : List X). start ++ flat_map f l) (sym (take_more xs i d h))
