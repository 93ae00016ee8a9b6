-- Changes of a list whose ids are distinct.
use Rattle.std.proofs.Common.{◌≡◌, ℕ, zero, suc, ◌∷◌, ◌++◌, [], List, length, set, true, not, refl, sym, ap, ◌∙◌, subst, inl, inr}
use Rattle.std.specs.List.{flat_map, insert, remove}
use Rattle.std.proofs.lemmas.Bool.{cond-true, cond-false, eqb-true, eqb-false, eq-eqb, ne_eqb}
use Rattle.ug_types.specs.Elements.{Has, AllDistinct}
use Rattle.ug_types.specs.declared.verdict.Target.{Target}
use Rattle.ug_policy.specs.declared.entry.RuleEntry.{RuleEntry}
use Rattle.ug_policy.specs.Rules.{ids}
use Rattle.ug_policy.specs.Edits.{has_id, followed, removed, aimed, retargeted}
use Rattle.ug_policy.proofs.FirstPlaces.{FirstAt, NonePasses}

pub lacks : (id : ℕ) (es : List RuleEntry) → NonePasses (has_id id) es → Has (ids es) id → ⊥
lacks id [] h m = absurd m
lacks id (e ∷ es) h (inl same) = eqb-false e.id id h.0 same
lacks id (e ∷ es) h (inr m) = lacks id es h.1 m

pub lacking : (id : ℕ) (es : List RuleEntry) → (Has (ids es) id → ⊥) → NonePasses (has_id id) es
lacking id [] h = tt
lacking id (e ∷ es) h = (ne_eqb e.id id (λ same. h (inl same)), lacking id es (λ m. h (inr m)))

pub has_first : (id : ℕ) (es : List RuleEntry) (i : ℕ) (e : RuleEntry) → FirstAt (has_id id) es i e → Has (ids es) id
has_first id [] i e h = absurd h
has_first id (f ∷ es) zero e h = inl (eqb-true f.id id h.1)
has_first id (f ∷ es) (suc i) e h = inr (has_first id es i e h.1)

-- no other rule has the id of the first
lacking_rest : (id : ℕ) (e : RuleEntry) (es : List RuleEntry) → AllDistinct (ids (e ∷ es)) → has_id id e ≡ true → NonePasses (has_id id) es
lacking_rest id e es d t = lacking id es (λ m. d.0 (subst (λ v. Has (ids es) v) (sym (eqb-true e.id id t)) m))

pub removed_none : (id : ℕ) (es : List RuleEntry) → NonePasses (has_id id) es → removed id es ≡ es
removed_none id [] h = refl
removed_none id (e ∷ es) h = cond-true (not (has_id id e)) (e ∷ removed id es) (removed id es) (ap not h.0) ∙ ap (λ v. e ∷ v) (removed_none id es h.1)

pub removed_first : (id : ℕ) (es : List RuleEntry) (i : ℕ) (e : RuleEntry) → AllDistinct (ids es) → FirstAt (has_id id) es i e → removed id es ≡ remove es i
removed_first id [] i e d h = absurd h
removed_first id (f ∷ es) zero e d h = cond-false (not (has_id id f)) (f ∷ removed id es) (removed id es) (ap not h.1) ∙ removed_none id es (lacking_rest id f es d h.1)
removed_first id (f ∷ es) (suc i) e d h = cond-true (not (has_id id f)) (f ∷ removed id es) (removed id es) (ap not h.0) ∙ ap (λ v. f ∷ v) (removed_first id es i e d.1 h.1)

pub retargeted_none : (id : ℕ) (target : Target) (es : List RuleEntry) → NonePasses (has_id id) es → retargeted id target es ≡ es
retargeted_none id target [] h = refl
retargeted_none id target (e ∷ es) h = ap (λ v. v ∷ retargeted id target es) (cond-false (has_id id e) (aimed target e) e h.0) ∙ ap (λ v. e ∷ v) (retargeted_none id target es h.1)

pub retargeted_first : (id : ℕ) (target : Target) (es : List RuleEntry) (i : ℕ) (e : RuleEntry) → AllDistinct (ids es) → FirstAt (has_id id) es i e → retargeted id target es ≡ set es i (aimed target e)
retargeted_first id target [] i e d h = absurd h
retargeted_first id target (f ∷ es) zero e d h =
    ap (λ v. v ∷ retargeted id target es) (cond-true (has_id id f) (aimed target f) f h.1)
    ∙ (ap (λ v. aimed target f ∷ v) (retargeted_none id target es (lacking_rest id f es d h.1))
    ∙ ap (λ v. aimed target v ∷ es) h.0)
retargeted_first id target (f ∷ es) (suc i) e d h = ap (λ v. v ∷ retargeted id target es) (cond-false (has_id id f) (aimed target f) f h.0) ∙ ap (λ v. f ∷ v) (retargeted_first id target es i e d.1 h.1)

pub followed_none : (id : ℕ) (added : RuleEntry) (es : List RuleEntry) → NonePasses (has_id id) es → flat_map (followed id added) es ≡ es
followed_none id added [] h = refl
followed_none id added (e ∷ es) h = ap (λ v. v ++ flat_map (followed id added) es) (cond-false (has_id id e) (e ∷ added ∷ []) (e ∷ []) h.0) ∙ ap (λ v. e ∷ v) (followed_none id added es h.1)

pub followed_first : (id : ℕ) (added : RuleEntry) (es : List RuleEntry) (i : ℕ) (e : RuleEntry) → AllDistinct (ids es) → FirstAt (has_id id) es i e → flat_map (followed id added) es ≡ insert es (suc i) added
followed_first id added [] i e d h = absurd h
followed_first id added (f ∷ es) zero e d h = ap (λ v. v ++ flat_map (followed id added) es) (cond-true (has_id id f) (f ∷ added ∷ []) (f ∷ []) h.1) ∙ ap (λ v. f ∷ added ∷ v) (followed_none id added es (lacking_rest id f es d h.1))
followed_first id added (f ∷ es) (suc i) e d h = ap (λ v. v ++ flat_map (followed id added) es) (cond-false (has_id id f) (f ∷ added ∷ []) (f ∷ []) h.0) ∙ ap (λ v. f ∷ v) (followed_first id added es i e d.1 h.1)

-- a change at a rule that stands between others
passed : (front back : List RuleEntry) (e : RuleEntry) → AllDistinct (ids (front ++ e ∷ back)) → FirstAt (has_id e.id) (front ++ e ∷ back) (length front) e
passed [] back e d = (refl, eq-eqb e.id e.id refl)
passed (f ∷ front) back e d = (ne_eqb f.id e.id (λ same. d.0 (subst (λ v. Has (ids (front ++ e ∷ back)) v) (sym same) (has_first e.id (front ++ e ∷ back) (length front) e (passed front back e d.1)))), passed front back e d.1)

pub inserted_between : (front back : List RuleEntry) (e added : RuleEntry) → AllDistinct (ids (front ++ e ∷ back)) → flat_map (followed e.id added) (front ++ e ∷ back) ≡ front ++ e ∷ added ∷ back
inserted_between front back e added d = followed_first e.id added (front ++ e ∷ back) (length front) e d (passed front back e d) ∙ put front where
  put : (front : List RuleEntry) → insert (front ++ e ∷ back) (suc (length front)) added ≡ front ++ e ∷ added ∷ back
  put [] = refl
  put (f ∷ front) = ap (λ v. f ∷ v) (put front)

pub removed_between : (front back : List RuleEntry) (e : RuleEntry) → AllDistinct (ids (front ++ e ∷ back)) → removed e.id (front ++ e ∷ back) ≡ front ++ back
removed_between front back e d = removed_first e.id (front ++ e ∷ back) (length front) e d (passed front back e d) ∙ taken front where
  taken : (front : List RuleEntry) → remove (front ++ e ∷ back) (length front) ≡ front ++ back
  taken [] = refl
  taken (f ∷ front) = ap (λ v. f ∷ v) (taken front)

pub retargeted_between : (front back : List RuleEntry) (e : RuleEntry) (target : Target) → AllDistinct (ids (front ++ e ∷ back)) → retargeted e.id target (front ++ e ∷ back) ≡ front ++ aimed target e ∷ back
retargeted_between front back e target d = retargeted_first e.id target (front ++ e ∷ back) (length front) e d (passed front back e d) ∙ set_there front where
  set_there : (front : List RuleEntry) → set (front ++ e ∷ back) (length front) (aimed target e) ≡ front ++ aimed target e ∷ back
  set_there [] = refl
  set_there (f ∷ front) = ap (λ v. f ∷ v) (set_there front)

pub standing : (es : List RuleEntry) (id : ℕ) → Has (ids es) id → (front : List RuleEntry) × (e : RuleEntry) × (back : List RuleEntry) × (es ≡ front ++ e ∷ back) × (e.id ≡ id)
standing [] id h = absurd h
standing (e ∷ es) id (inl same) = ([], e, es, refl, same)
standing (e ∷ es) id (inr h) = let k = standing es id h in (e ∷ k.0, k.1, k.2, ap (λ v. e ∷ v) k.3, k.4)
