-- A text that is cut at its first space, and one that has none.
use Rattle.std.proofs.Common.{◌≡◌, ℕ, ◌+◌, ◌-◌, List, Option, Some, None, length, take, drop, nat_eq, ap, sym, ◌∙◌, take_all, length-drop, arith}
use Rattle.std.specs.Prelude.{position}
use Rattle.ug_steps.specs.Words.{cut_at_place, cut_by_space}

pub uncut : {X : Type 0} (reads : List ℕ → List ℕ → X) (alone : X) (text : List ℕ) → position (nat_eq 32) text ≡ None → cut_by_space reads alone text ≡ alone
uncut reads alone text e = ap (λ (v : Option ℕ). cut_at_place reads alone v text) e

pub cut : {X : Type 0} (reads : List ℕ → List ℕ → X) (alone : X) (text : List ℕ) (at : ℕ) → position (nat_eq 32) text ≡ Some at → cut_by_space reads alone text ≡ reads (take at text) (take (length text - (at + 1)) (drop (at + 1) text))
cut reads alone text at e =
    let rest : take (length text - (at + 1)) (drop (at + 1) text) ≡ drop (at + 1) text = take_all (length text - (at + 1)) (drop (at + 1) text) (omega (arith, length-drop (at + 1) text)) in
    ap (λ (v : Option ℕ). cut_at_place reads alone v text) e ∙ ap (λ (line : List ℕ). reads (take at text) line) (sym rest)
