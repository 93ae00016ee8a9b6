-- What is found, by the places of rules.
use Rattle.std.proofs.Common.{◌≡◌, ℕ, zero, suc, ◌<◌, List, [], ◌∷◌, ◌++◌, Bool, true, false, cond, length, get_or, Option, Some, None, arith, refl, sym, ◌∙◌, subst, inl, inr, append_assoc}
use Rattle.std.specs.Prelude.{slice_get, position}
use Rattle.std.specs.Option.{option_to_list}
use Rattle.std.proofs.lemmas.List.Quantifiers.{position-Some}
use Rattle.std.proofs.lemmas.Option.{same_Some}
use Rattle.ug_types.specs.Elements.{Has}
use Rattle.ug_types.proofs.Elements.{has_cases}
use Rattle.ug_types.specs.declared.rule.Rule.{Rule}
use Rattle.ug_lint.specs.declared.finding.Finding.{Finding}
use Rattle.ug_lint.specs.declared.finding.Finding.TheVariants.{Never}
use Rattle.ug_lint.specs.Certain.{never_hold}
use Rattle.ug_lint.specs.Findings.{covered_by, covers_rule, finding_of, findings, findings_behind, IsCovered, IsFinding, IsNever}

-- ---- places of lists

pub get_last : {X : Type 0} (front back : List X) (x : X) → slice_get (front ++ x ∷ back) (length front) ≡ Some x
get_last [] back x = refl
get_last (y ∷ front) back x = get_last front back x

-- a place of the front
pub get_front : {X : Type 0} (front back : List X) (i : ℕ) (d : X) → i < length front → slice_get (front ++ back) i ≡ Some (get_or front i d)
get_front [] back i d lt = absurd (omega arith)
get_front (y ∷ front) back zero d lt = refl
get_front (y ∷ front) back (suc i) d lt = get_front front back i d (omega arith)

pub has_place : {X : Type 0} (xs : List X) (i : ℕ) (d : X) → i < length xs → Has xs (get_or xs i d)
has_place [] i d lt = absurd (omega arith)
has_place (x ∷ xs) zero d lt = inl refl
has_place (x ∷ xs) (suc i) d lt = inr (has_place xs i d (omega arith))

-- ---- what is found of one rule

abbrev Tells : List Rule → Option Finding → Type 0
Tells rules None = Unit {0}
Tells rules (Some f) = IsFinding rules f

tells_never : (before back : List Rule) (rule : Rule) → never_hold rule.conds ≡ true → IsNever (before ++ rule ∷ back) (length before)
tells_never before back rule h = (rule, get_last before back rule, h)

tells_covered_by : (before back : List Rule) (rule : Rule) (i : ℕ) → never_hold rule.conds ≡ false → position (covers_rule rule) before ≡ Some i → IsCovered (before ++ rule ∷ back) (length before) i
tells_covered_by before back rule i can p =
    let s = position-Some (covers_rule rule) before i rule p in
    record {
      rule = rule;
      earlier = get_or before i rule;
      there = get_last before back rule;
      first_there = get_front before (rule ∷ back) i rule s.0;
      before = s.0;
      can_hold = can;
      covers = s.1;
      least = λ k other lt there.
          let within : k < length before = omega (arith, s.0) in
          let same : get_or before k rule ≡ other = same_Some (get_or before k rule) other (sym (get_front before (rule ∷ back) k rule within) ∙ there) in
          subst (λ (r : Rule). covers_rule rule r ≡ false) same (s.2 k lt);
    }

tells_by : (before back : List Rule) (rule : Rule) (o : Option ℕ) → never_hold rule.conds ≡ false → position (covers_rule rule) before ≡ o → Tells (before ++ rule ∷ back) (covered_by (length before) o)
tells_by before back rule None can p = tt
tells_by before back rule (Some i) can p = tells_covered_by before back rule i can p

tells_cond : (before back : List Rule) (rule : Rule) (b : Bool) → never_hold rule.conds ≡ b → Tells (before ++ rule ∷ back) (cond b (Some (Never (length before))) (covered_by (length before) (position (covers_rule rule) before)))
tells_cond before back rule true h = tells_never before back rule h
tells_cond before back rule false h = tells_by before back rule (position (covers_rule rule) before) h refl

pub tells : (before back : List Rule) (rule : Rule) → Tells (before ++ rule ∷ back) (finding_of before rule)
tells before back rule = tells_cond before back rule (never_hold rule.conds) refl

told : (rules : List Rule) (o : Option Finding) (f : Finding) → Tells rules o → Has (option_to_list o) f → IsFinding rules f
told rules None f t h = absurd h
told rules (Some g) f t (inl e) = subst (λ (v : Finding). IsFinding rules v) e t
told rules (Some g) f t (inr n) = absurd n

-- ---- what is found of all

found_behind : (before rules : List Rule) (f : Finding) → Has (findings_behind before rules) f → IsFinding (before ++ rules) f
found_behind before [] f h = absurd h
found_behind before (rule ∷ rules) f h = elim (has_cases (option_to_list (finding_of before rule)) (findings_behind (before ++ rule ∷ []) rules) f h) [
  | inl a ↦ told (before ++ rule ∷ rules) (finding_of before rule) f (tells before rules rule) a
  | inr b ↦ subst (λ (v : List Rule). IsFinding v f) (append_assoc before (rule ∷ []) rules) (found_behind (before ++ rule ∷ []) rules f b)
]

pub is_finding : (rules : List Rule) (f : Finding) → Has (findings rules) f → IsFinding rules f
is_finding rules f h = found_behind [] rules f h
