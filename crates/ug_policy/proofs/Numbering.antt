-- Changes keep ids distinct and below the next one.
use Rattle.std.proofs.Common.{◌≡◌, ℕ, zero, suc, ◌<◌, ◌≤◌, ◌+◌, ◌∷◌, [], List, length, Bool, true, false, not, cond, arith, refl, sym, ap, ◌∙◌, subst, inl, inr, ◌⊎◌}
use Rattle.std.specs.List.{filter, insert}
use Rattle.std.proofs.lemmas.List.{length-map}
use Rattle.std.proofs.lemmas.List.Edits.{length-insert}
use Rattle.std.proofs.lemmas.List.Sums.{length-filter, count_by-le-length}
use Rattle.ug_types.specs.Elements.{Has, AllDistinct}
use Rattle.ug_types.specs.declared.verdict.Target.{Target}
use Rattle.ug_policy.specs.declared.entry.RuleEntry.{RuleEntry}
use Rattle.ug_policy.specs.Marks.{FolderFirst}
use Rattle.ug_policy.specs.Rules.{ids, marks, IsNumbered}
use Rattle.ug_policy.specs.Edits.{has_id, removed, aimed, retargeted}
use Rattle.ug_policy.proofs.Order.{marks_retargeted, order_removed}
use Rattle.ug_types.proofs.Elements.{insert_has}

ids_insert : (es : List RuleEntry) (i : ℕ) (y : RuleEntry) → ids (insert es i y) ≡ insert (ids es) i y.id
ids_insert [] zero y = refl
ids_insert [] (suc i) y = refl
ids_insert (e ∷ es) zero y = refl
ids_insert (e ∷ es) (suc i) y = ap (λ v. e.id ∷ v) (ids_insert es i y)

distinct_insert : (xs : List ℕ) (i y : ℕ) → AllDistinct xs → (Has xs y → ⊥) → AllDistinct (insert xs i y)
distinct_insert [] zero y d n = (n, d)
distinct_insert [] (suc i) y d n = (n, d)
distinct_insert (x ∷ xs) zero y d n = (n, d)
distinct_insert (x ∷ xs) (suc i) y d n = (λ m. elim (insert_has xs i y x m) [ inl same ↦ n (inl (sym same)) | inr h ↦ d.0 h ], distinct_insert xs i y d.1 (λ h. n (inr h)))

-- the numbering stays one
pub numbered_insert : (es : List RuleEntry) (next i : ℕ) (y : RuleEntry) → IsNumbered es next → y.id ≡ next → i ≤ length es → length es < 65536 → FolderFirst (marks (insert es i y)) → IsNumbered (insert es i y) (next + 1)
numbered_insert es next i y n same within few order =
    let fresh : Has (ids es) y.id → ⊥ = λ m. let low : y.id < next = n.below y.id m in omega arith in
    record {
      distinct = subst (λ v. AllDistinct v) (sym (ids_insert es i y)) (distinct_insert (ids es) i y.id n.distinct fresh);
      below = λ id m. elim (insert_has (ids es) i y.id id (subst (λ v. Has v id) (ids_insert es i y) m)) [
        | inl e ↦ omega arith
        | inr h ↦ let low : id < next = n.below id h in omega arith
      ];
      few = omega (arith, length-insert es i y within);
      order = order;
    }

ids_filter_has : (p : RuleEntry → Bool) (es : List RuleEntry) (id : ℕ) → Has (ids (filter p es)) id → Has (ids es) id
ids_filter_has p [] id h = absurd h
ids_filter_has p (e ∷ es) id h =
    let T : Bool → Type 0 = λ b. Has (ids (cond b (e ∷ filter p es) (filter p es))) id → (e.id ≡ id) ⊎ Has (ids es) id in
    let f : (b : Bool) → T b = λ b. elim b as T [
      | true ↦ λ k. elim k [ inl s ↦ inl s | inr m ↦ inr (ids_filter_has p es id m) ]
      | false ↦ λ k. inr (ids_filter_has p es id k)
    ] in
    f (p e) h

distinct_filter : (p : RuleEntry → Bool) (es : List RuleEntry) → AllDistinct (ids es) → AllDistinct (ids (filter p es))
distinct_filter p [] d = tt
distinct_filter p (e ∷ es) d =
    elim (p e) as (λ (b : Bool). AllDistinct (ids (cond b (e ∷ filter p es) (filter p es)))) [
      | true ↦ (λ m. d.0 (ids_filter_has p es e.id m), distinct_filter p es d.1)
      | false ↦ distinct_filter p es d.1
    ]

pub numbered_removed : (id next : ℕ) (es : List RuleEntry) → IsNumbered es next → IsNumbered (removed id es) next
numbered_removed id next es n = record {
  distinct = distinct_filter (λ e. not (has_id id e)) es n.distinct;
  below = λ k m. n.below k (ids_filter_has (λ e. not (has_id id e)) es k m);
  few = let p : RuleEntry → Bool = λ e. not (has_id id e) in omega (arith, n.few, length-filter p es, count_by-le-length p es);
  order = order_removed id es n.order;
}

-- the same ids and marks, and as many rules
pub numbered_same : (es fs : List RuleEntry) (next : ℕ) → ids fs ≡ ids es → marks fs ≡ marks es → length fs ≡ length es → IsNumbered es next → IsNumbered fs next
numbered_same es fs next same alike long n = record {
  distinct = subst (λ v. AllDistinct v) (sym same) n.distinct;
  below = λ id m. n.below id (subst (λ v. Has v id) same m);
  few = omega (arith, n.few);
  order = subst FolderFirst (sym alike) n.order;
}

ids_retargeted : (id : ℕ) (target : Target) (es : List RuleEntry) → ids (retargeted id target es) ≡ ids es
ids_retargeted id target [] = refl
ids_retargeted id target (e ∷ es) =
    let same : (b : Bool) → (cond b (aimed target e) e).id ≡ e.id = λ b. elim b as (λ (c : Bool). (cond c (aimed target e) e).id ≡ e.id) [ true ↦ refl | false ↦ refl ] in
    ap (λ v. v ∷ ids (retargeted id target es)) (same (has_id id e)) ∙ ap (λ v. e.id ∷ v) (ids_retargeted id target es)

pub numbered_retargeted : (id : ℕ) (target : Target) (es : List RuleEntry) (next : ℕ) → IsNumbered es next → IsNumbered (retargeted id target es) next
numbered_retargeted id target es next n = numbered_same es (retargeted id target es) next (ids_retargeted id target es) (marks_retargeted id target es) (length-map es (λ e. cond (has_id id e) (aimed target e) e)) n
