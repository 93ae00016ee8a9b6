-- A text is cut at the first mark.
use Rattle.std.proofs.Common.{◌≡◌, ◌∙◌, ℕ, ◌+◌, ◌<◌, ◌≤◌, Bool, true, false, nat_eq, List, [], ◌∷◌, ◌++◌, length, take, drop, get_or, Option, Some, None, refl, sym, ap, arith, ◌-◌, length-drop}
use Rattle.std.specs.Prelude.{if◌then◌else◌}
use Rattle.std.proofs.lemmas.Bool.Decides.{nat_tests}
use Rattle.std.proofs.lemmas.List.{at_drop_more, append-nil, at_drop_all, take_all, take_more}
use Rattle.ug_rows.specs.Cuts.{cut_at_mark, onto_front}

-- the same behind more bytes
abbrev pub onto_fronts : List ℕ → Option (List ℕ × List ℕ) → Option (List ℕ × List ℕ)
onto_fronts [] cut = cut
onto_fronts (b ∷ bytes) cut = onto_front b (onto_fronts bytes cut)

onto_last : (bytes : List ℕ) (b : ℕ) (cut : Option (List ℕ × List ℕ)) → onto_fronts (bytes ++ b ∷ []) cut ≡ onto_fronts bytes (onto_front b cut)
onto_last [] b cut = refl
onto_last (x ∷ bytes) b cut = ap (onto_front x) (onto_last bytes b cut)

onto_none : (bytes : List ℕ) → onto_fronts bytes None ≡ None
onto_none [] = refl
onto_none (b ∷ bytes) = ap (onto_front b) (onto_none bytes)

onto_some : (bytes : List ℕ) (first rest : List ℕ) → onto_fronts bytes (Some (first, rest)) ≡ Some (bytes ++ first, rest)
onto_some [] first rest = refl
onto_some (b ∷ bytes) first rest = ap (onto_front b) (onto_some bytes first rest)

step : (mark b : ℕ) (rest : List ℕ) (v : Bool) → nat_eq b mark ≡ v → cut_at_mark mark (b ∷ rest) ≡ (if v then Some ([], rest) else onto_front b (cut_at_mark mark rest))
step mark b rest v e = ap (λ (v : Bool). if v then Some ([], rest) else onto_front b (cut_at_mark mark rest)) e

is_same : (a b : ℕ) → a ≡ b → nat_eq a b ≡ true
is_same a b e = grind (arith, nat_tests)

is_other : (a b : ℕ) → ¬ (a ≡ b) → nat_eq a b ≡ false
is_other a b e = grind (arith, nat_tests)

pub passed : (mark : ℕ) (text : List ℕ) (i d : ℕ) → i < length text → ¬ (get_or text i d ≡ mark)
    → cut_at_mark mark text ≡ onto_fronts (take i text) (cut_at_mark mark (drop i text)) → cut_at_mark mark text ≡ onto_fronts (take (i + 1) text) (cut_at_mark mark (drop (i + 1) text))
passed mark text i d lt other h =
    h
    ∙ ap (onto_fronts (take i text)) (at_drop_more (cut_at_mark mark) text i d lt ∙ step mark (get_or text i d) (drop (i + 1) text) false (is_other (get_or text i d) mark other))
    ∙ sym (onto_last (take i text) (get_or text i d) (cut_at_mark mark (drop (i + 1) text)))
    ∙ ap (λ (front : List ℕ). onto_fronts front (cut_at_mark mark (drop (i + 1) text))) (sym (take_more text i d lt))

found : (mark : ℕ) (text : List ℕ) (i d : ℕ) → i < length text → get_or text i d ≡ mark
    → cut_at_mark mark text ≡ onto_fronts (take i text) (cut_at_mark mark (drop i text)) → cut_at_mark mark text ≡ Some (take i text ++ [], drop (i + 1) text)
found mark text i d lt this h =
    h
    ∙ ap (onto_fronts (take i text)) (at_drop_more (cut_at_mark mark) text i d lt ∙ step mark (get_or text i d) (drop (i + 1) text) true (is_same (get_or text i d) mark this))
    ∙ onto_some (take i text) [] (drop (i + 1) text)

pub not_found : (mark : ℕ) (text : List ℕ) (i : ℕ) → length text ≤ i → cut_at_mark mark text ≡ onto_fronts (take i text) (cut_at_mark mark (drop i text)) → cut_at_mark mark text ≡ None
not_found mark text i past h = h ∙ ap (onto_fronts (take i text)) (at_drop_all (cut_at_mark mark) text i past) ∙ onto_none (take i text)

pub found_here : (mark : ℕ) (text : List ℕ) (i d : ℕ) → i < length text → get_or text i d ≡ mark
    → cut_at_mark mark text ≡ onto_fronts (take i text) (cut_at_mark mark (drop i text)) → cut_at_mark mark text ≡ Some (take i text, take (length text - (i + 1)) (drop (i + 1) text))
found_here mark text i d lt this h =
    found mark text i d lt this h
    ∙ ap (λ (first : List ℕ). Some (first, drop (i + 1) text)) (append-nil (take i text))
    ∙ ap (λ (rest : List ℕ). Some (take i text, rest)) (sym (take_all (length text - (i + 1)) (drop (i + 1) text) (omega (arith, length-drop (i + 1) text))))
