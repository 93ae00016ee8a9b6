-- A name that is put behind others.
use Rattle.std.proofs.Common.{◌≡◌, ◌++◌, ◌<◌, ℕ, nat_eq, Bool, true, false, ◌||◌, List, [], ◌∷◌, length, inl, inr, refl, sym, subst, ◌∙◌, true≢false, arith, length-append}
use Rattle.std.specs.List.{list_any}
use Rattle.std.specs.Cmp.Lexicographic.{pointwise, bytes_decides}
use Rattle.ug_types.specs.Elements.{Has}
use Rattle.ug_types.proofs.Elements.{distinct_append}
use Rattle.ug_host.specs.Names.{AreFewNames}

or_false : (a b : Bool) → a || b ≡ false → (a ≡ false) × (b ≡ false)
or_false true b e = absurd (true≢false e)
or_false false b e = (refl, e)

-- a name that none of them is
none_has : (names : List (List ℕ)) (name : List ℕ) → list_any (λ n. pointwise nat_eq n name) names ≡ false → Has names name → ⊥
none_has [] name e has = has
none_has (n ∷ ns) name e (inl is) = true≢false (sym ((bytes_decides n name).1 is) ∙ (or_false (pointwise nat_eq n name) (list_any (λ m. pointwise nat_eq m name) ns) e).0)
none_has (n ∷ ns) name e (inr has) = none_has ns name (or_false (pointwise nat_eq n name) (list_any (λ m. pointwise nat_eq m name) ns) e).1 has

pub names_added : (names after : List (List ℕ)) (name : List ℕ) → after ≡ names ++ name ∷ [] → length names < 2147483647 → list_any (λ n. pointwise nat_eq n name) names ≡ false → AreFewNames names → AreFewNames after
names_added names after name is few none are =
    let apart : Has names name → ⊥ = none_has names name none in
    subst AreFewNames (sym is) (
      omega (arith, length-append names (name ∷ []), few),
      distinct_append names (name ∷ []) are.1 (λ has. has, tt) (λ x h one. elim one [ inl same ↦ apart (subst (λ (v : List ℕ). Has names v) (sym same) h) | inr has ↦ has ]),
    )
