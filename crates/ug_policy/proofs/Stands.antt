-- What histories stand for, through the changes of a list.
use Rattle.std.proofs.Common.{◌≡◌, ℕ, ◌<◌, ◌≤◌, ◌+◌, ◌∷◌, ◌++◌, [], List, map, take, Bool, true, false, cond, Option, Some, None, arith, refl, sym, ap, ◌∙◌, subst, inl, inr, ◌⊎◌, append_assoc}
use Rattle.std.specs.List.{filter, insert}
use Rattle.std.specs.Option.{option_map}
use Rattle.std.specs.Prelude.{nat_le, slice_get}
use Rattle.ug_types.specs.Elements.{Has, AllDistinct}
use Rattle.ug_types.specs.declared.record.DeviceRecord.{DeviceRecord}
use Rattle.ug_types.specs.declared.rule.Rule as types
use Rattle.ug_types.specs.declared.verdict.Moment.{Moment}
use Rattle.ug_types.specs.declared.verdict.Target.{Target}
use Rattle.ug_cond.specs.Judgements.{Judgement, WasEvaluated, WasApplied, IsGreatest, IsHistory}
use Rattle.ug_policy.specs.declared.entry.Mark.{Mark}
use Rattle.ug_policy.specs.declared.entry.RuleEntry.{RuleEntry}
use Rattle.ug_policy.specs.Rules.{ids, IsNumbered}
use Rattle.ug_policy.specs.Edits.{has_id, new_entry, removed, aimed, retargeted}
use Rattle.ug_policy.specs.Deciding.{Found, judgement_found, noted_first, reached, rules_judged, seen}
use Rattle.ug_policy.specs.Kept.{StandsFor}
use Rattle.ug_policy.specs.Matching.{matched, greatest}
use Rattle.ug_types.proofs.Elements.{has_left, has_right, has_cases, insert_has, filter_has, has_filter, map_has}
use Rattle.ug_policy.proofs.Members.{has_ids, ids_apart, ids_right, same_entry}

-- a rule whose id is new has no past
pub stands_insert : (es : List RuleEntry) (next i : ℕ) (rule : types.Rule) (mark : Mark) (js : List Judgement) → StandsFor es next js → StandsFor (insert es i (new_entry next rule mark)) (next + 1) js
stands_insert es next i rule mark js s = record {
  evaluated = λ j id m h. let low : id < next = s.evaluated j id m h in omega arith;
  applied = λ j id m h. let low : id < next = s.applied j id m h in omega arith;
  histories = λ e m. elim (insert_has es i (new_entry next rule mark) e m) [
    | inl same ↦ subst (λ (v : RuleEntry). IsHistory js v.id v.history) same (
      (λ t w. let low : next < next = s.evaluated w.0 next w.1 w.2 in absurd (omega arith)),
      (λ t w. let low : next < next = s.applied w.0 next w.1 w.2 in absurd (omega arith)),
    )
    | inr h ↦ s.histories e h
  ];
}

pub stands_removed : (id : ℕ) (es : List RuleEntry) (next : ℕ) (js : List Judgement) → StandsFor es next js → StandsFor (removed id es) next js
stands_removed id es next js s = record {
  evaluated = s.evaluated;
  applied = s.applied;
  histories = λ e m. s.histories e (filter_has _ es e m).0;
}

retargeted_has : (id : ℕ) (target : Target) (es : List RuleEntry) (e : RuleEntry) → Has (retargeted id target es) e → (f : RuleEntry) × Has es f × (f.id ≡ e.id) × (f.history ≡ e.history)
retargeted_has id target [] e h = absurd h
retargeted_has id target (f ∷ es) e (inl same) =
    let T : Bool → Type 0 = λ b. cond b (aimed target f) f ≡ e → (f.id ≡ e.id) × (f.history ≡ e.history) in
    let g : (b : Bool) → T b = λ b. elim b as T [
      | true ↦ λ k. (ap (λ (v : RuleEntry). v.id) k, ap (λ (v : RuleEntry). v.history) k)
      | false ↦ λ k. (ap (λ (v : RuleEntry). v.id) k, ap (λ (v : RuleEntry). v.history) k)
    ] in
    let k = g (has_id id f) same in
    (f, inl refl, k.0, k.1)
retargeted_has id target (f ∷ es) e (inr m) = let k = retargeted_has id target es e m in (k.0, inr k.1, k.2, k.3)

pub stands_retargeted : (id : ℕ) (target : Target) (es : List RuleEntry) (next : ℕ) (js : List Judgement) → StandsFor es next js → StandsFor (retargeted id target es) next js
stands_retargeted id target es next js s = record {
  evaluated = s.evaluated;
  applied = s.applied;
  histories = λ e m.
      let k = retargeted_has id target es e m in
      let here : IsHistory js k.0.id k.0.history = s.histories k.0 k.1 in
      subst (λ v. IsHistory js v e.history) k.2 (subst (λ v. IsHistory js k.0.id v) k.3 here);
}

-- two kinds of moments that are the same have one greatest
same_greatest : (Was Now : Moment → Type 0) (kept : Option Moment) → ((m : Moment) → Was m → Now m) → ((m : Moment) → Now m → Was m) → IsGreatest Was kept → IsGreatest Now kept
same_greatest Was Now None to from g = λ m w. g m (from m w)
same_greatest Was Now (Some kept) to from g = (to kept g.0, λ m w. g.1 m (from m w))

-- the greatest, with one moment more
more_greatest : (Was Now : Moment → Type 0) (kept : Option Moment) (new : Moment) → ((m : Moment) → Was m → Now m) → ((m : Moment) → Now m → Was m ⊎ (new ≡ m)) → Now new → IsGreatest Was kept → IsGreatest Now (Some (greatest kept new))
more_greatest Was Now None new to from is g = (is, λ m w. elim (from m w) [ inl a ↦ absurd (g m a) | inr same ↦ let one : new.0 ≡ m.0 = ap (λ (v : Moment). v.0) same in omega arith ])
more_greatest Was Now (Some kept) new to from is g =
    let T : Bool → Type 0 = λ b. nat_le kept.0 new.0 ≡ b → Now (cond b new kept) × ((m : Moment) → Now m → m.0 ≤ (cond b new kept).0) in
    let f : (b : Bool) → T b = λ b. elim b as T [
      | true ↦ λ e.
          let le : kept.0 ≤ new.0 = grind arith in
          (is, λ m w. elim (from m w) [ inl a ↦ (let k : m.0 ≤ kept.0 = g.1 m a in omega arith) | inr same ↦ (let one : new.0 ≡ m.0 = ap (λ (v : Moment). v.0) same in omega arith) ])
      | false ↦ λ e.
          let lt : new.0 < kept.0 = grind arith in
          (to kept g.0, λ m w. elim (from m w) [ inl a ↦ g.1 m a | inr same ↦ (let one : new.0 ≡ m.0 = ap (λ (v : Moment). v.0) same in omega arith) ])
    ] in
    f (nat_le kept.0 new.0) refl

-- a judgement before the last, or the last
last_cases : (js : List Judgement) (last j : Judgement) → Has (js ++ last ∷ []) j → Has js j ⊎ (last ≡ j)
last_cases js last j m = elim (has_cases js (last ∷ []) j m) [ inl a ↦ inl a | inr b ↦ elim b [ inl e ↦ inr e | inr none ↦ absurd none ] ]

still_evaluated : (js : List Judgement) (last : Judgement) (id : ℕ) (m : Moment) → WasEvaluated js id m → WasEvaluated (js ++ last ∷ []) id m
still_evaluated js last id m w = (w.0, has_left js (last ∷ []) w.0 w.1, w.2, w.3)

still_applied : (js : List Judgement) (last : Judgement) (id : ℕ) (m : Moment) → WasApplied js id m → WasApplied (js ++ last ∷ []) id m
still_applied js last id m w = (w.0, has_left js (last ∷ []) w.0 w.1, w.2, w.3)

-- the greatest moments, with a judgement that has a part of the rule or that hasn't
evaluated_more : (js : List Judgement) (last : Judgement) (id : ℕ) (kept : Option Moment) → Has last.evaluated id → IsGreatest (WasEvaluated js id) kept → IsGreatest (WasEvaluated (js ++ last ∷ []) id) (Some (greatest kept last.moment))
evaluated_more js last id kept here g = more_greatest (WasEvaluated js id) (WasEvaluated (js ++ last ∷ []) id) kept last.moment (still_evaluated js last id)
    (λ m w. elim (last_cases js last w.0 w.1) [
      | inl a ↦ inl (w.0, a, w.2, w.3)
      | inr same ↦ inr (ap (λ (v : Judgement). v.moment) same ∙ w.3)
    ])
    (last, has_right js (last ∷ []) last (inl refl), here, refl) g

evaluated_same : (js : List Judgement) (last : Judgement) (id : ℕ) (kept : Option Moment) → (Has last.evaluated id → ⊥) → IsGreatest (WasEvaluated js id) kept → IsGreatest (WasEvaluated (js ++ last ∷ []) id) kept
evaluated_same js last id kept apart g = same_greatest (WasEvaluated js id) (WasEvaluated (js ++ last ∷ []) id) kept (still_evaluated js last id)
    (λ m w. elim (last_cases js last w.0 w.1) [
      | inl a ↦ (w.0, a, w.2, w.3)
      | inr same ↦ absurd (apart (subst (λ (v : Judgement). Has v.evaluated id) (sym same) w.2))
    ]) g

applied_more : (js : List Judgement) (last : Judgement) (id : ℕ) (kept : Option Moment) → last.applied ≡ Some id → IsGreatest (WasApplied js id) kept → IsGreatest (WasApplied (js ++ last ∷ []) id) (Some (greatest kept last.moment))
applied_more js last id kept here g = more_greatest (WasApplied js id) (WasApplied (js ++ last ∷ []) id) kept last.moment (still_applied js last id)
    (λ m w. elim (last_cases js last w.0 w.1) [
      | inl a ↦ inl (w.0, a, w.2, w.3)
      | inr same ↦ inr (ap (λ (v : Judgement). v.moment) same ∙ w.3)
    ])
    (last, has_right js (last ∷ []) last (inl refl), here, refl) g

applied_same : (js : List Judgement) (last : Judgement) (id : ℕ) (kept : Option Moment) → (last.applied ≡ Some id → ⊥) → IsGreatest (WasApplied js id) kept → IsGreatest (WasApplied (js ++ last ∷ []) id) kept
applied_same js last id kept apart g = same_greatest (WasApplied js id) (WasApplied (js ++ last ∷ []) id) kept (still_applied js last id)
    (λ m w. elim (last_cases js last w.0 w.1) [
      | inl a ↦ (w.0, a, w.2, w.3)
      | inr same ↦ absurd (apart (subst (λ (v : Judgement). v.applied ≡ Some id) (sym same) w.2))
    ]) g

-- the rules that were reached, the first of the rest among them
reached_has : (f : Found) (e : RuleEntry) → Has (reached f) e → Has (f.before ++ f.rest) e
reached_has f e h = elim (has_cases f.before (take 1 f.rest) e h) [
  | inl a ↦ has_left f.before f.rest e a
  | inr b ↦ has_right f.before f.rest e (one f.rest b)
] where
  one : (rest : List RuleEntry) → Has (take 1 rest) e → Has rest e
  one [] b = absurd b
  one (d ∷ rest) (inl same) = inl same
  one (d ∷ rest) (inr none) = absurd none

-- a rule that was evaluated was reached and matched
was_reached : (dev : DeviceRecord) (moment : Moment) (f : Found) (id : ℕ) → Has (judgement_found dev moment f).evaluated id → (e : RuleEntry) × Has (reached f) e × (matched dev e ≡ true) × (e.id ≡ id)
was_reached dev moment f id h =
    let k = map_has (λ (e : RuleEntry). e.id) (filter (matched dev) (reached f)) id h in
    let p = filter_has (matched dev) (reached f) k.0 k.1 in
    (k.0, p.0, p.1, k.2)

is_evaluated : (dev : DeviceRecord) (moment : Moment) (f : Found) (e : RuleEntry) → Has (reached f) e → matched dev e ≡ true → Has (judgement_found dev moment f).evaluated e.id
is_evaluated dev moment f e h t = has_ids (filter (matched dev) (reached f)) e (has_filter (matched dev) (reached f) e h t)

seen_history : (dev : DeviceRecord) (moment : Moment) (js : List Judgement) (f : Found) (e : RuleEntry) → AllDistinct (ids (f.before ++ f.rest)) → Has f.before e → IsHistory js e.id e.history → IsHistory (js ++ judgement_found dev moment f ∷ []) (seen dev moment e).id (seen dev moment e).history
seen_history dev moment js f e d m h =
    let last : Judgement = judgement_found dev moment f in
    let applied : IsGreatest (WasApplied (js ++ last ∷ []) e.id) e.history.applied = applied_same js last e.id e.history.applied (not_first f.before f.rest d m) h.1 in
    let T : Bool → Type 0 = λ b. matched dev e ≡ b → IsHistory (js ++ last ∷ []) (cond b (record e { history = record e.history { evaluated = Some (greatest e.history.evaluated moment) } }) e).id (cond b (record e { history = record e.history { evaluated = Some (greatest e.history.evaluated moment) } }) e).history in
    let g : (b : Bool) → T b = λ b. elim b as T [
      | true ↦ λ t. (evaluated_more js last e.id e.history.evaluated (is_evaluated dev moment f e (has_left f.before (take 1 f.rest) e m) t) h.0, applied)
      | false ↦ λ t. (
        evaluated_same js last e.id e.history.evaluated (λ w.
            let k = was_reached dev moment f e.id w in
            let same : k.0 ≡ e = same_entry (f.before ++ f.rest) k.0 e d (reached_has f k.0 k.1) (has_left f.before f.rest e m) k.3 in
            let two : true ≡ false = sym k.2 ∙ (ap (matched dev) same ∙ t) in
            let none : ⊥ = cc in none) h.0,
        applied,
      )
    ] in
    g (matched dev e) refl where
      not_first : (before rest : List RuleEntry) → AllDistinct (ids (before ++ rest)) → Has before e → option_map (λ (v : RuleEntry). v.id) (slice_get rest 0) ≡ Some e.id → ⊥
      not_first before [] d m same = let none : ⊥ = cc in none
      not_first before (g ∷ rest) d m same = ids_apart before (g ∷ rest) e g d m (inl refl) (let one : g.id ≡ e.id = cc in sym one)

abbrev pub FirstMatches : DeviceRecord → List RuleEntry → Type 0
FirstMatches dev [] = Unit {0}
FirstMatches dev (e ∷ rest) = matched dev e ≡ true

rest_history : (dev : DeviceRecord) (moment : Moment) (js : List Judgement) (before rest : List RuleEntry) (e : RuleEntry) → AllDistinct (ids (before ++ rest)) → FirstMatches dev rest → ((g : RuleEntry) → Has (before ++ rest) g → IsHistory js g.id g.history) → Has (noted_first moment rest) e → IsHistory (js ++ judgement_found dev moment (record { before = before; rest = rest }) ∷ []) e.id e.history
rest_history dev moment js before [] e d t h m = absurd m
rest_history dev moment js before (g ∷ rest) e d t h (inl same) =
    let last : Judgement = judgement_found dev moment (record { before = before; rest = g ∷ rest }) in
    let old = h g (has_right before (g ∷ rest) g (inl refl)) in
    subst (λ (v : RuleEntry). IsHistory (js ++ last ∷ []) v.id v.history) same (
      evaluated_more js last g.id g.history.evaluated (is_evaluated dev moment (record { before = before; rest = g ∷ rest }) g (has_right before (g ∷ []) g (inl refl)) t) old.0,
      applied_more js last g.id g.history.applied refl old.1,
    )
rest_history dev moment js before (g ∷ rest) e d t h (inr m) =
    let last : Judgement = judgement_found dev moment (record { before = before; rest = g ∷ rest }) in
    let old = h e (has_right before (g ∷ rest) e (inr m)) in
    let split : AllDistinct (ids ((before ++ g ∷ []) ++ rest)) = subst (λ (v : List RuleEntry). AllDistinct (ids v)) (sym (append_assoc before (g ∷ []) rest)) d in (
      evaluated_same js last e.id e.history.evaluated (λ w. let k = was_reached dev moment (record { before = before; rest = g ∷ rest }) e.id w in ids_apart (before ++ g ∷ []) rest k.0 e split k.1 m k.3) old.0,
      applied_same js last e.id e.history.applied (λ a. ids_apart (before ++ g ∷ []) rest g e split (has_right before (g ∷ []) g (inl refl)) m (let one : g.id ≡ e.id = cc in one)) old.1,
    )

first_applied : (es : List RuleEntry) (id : ℕ) → option_map (λ (e : RuleEntry). e.id) (slice_get es 0) ≡ Some id → Has (ids es) id
first_applied [] id h = let none : ⊥ = cc in absurd none
first_applied (e ∷ es) id h = let one : e.id ≡ id = cc in inl one

pub stands_found : (dev : DeviceRecord) (moment : Moment) (next : ℕ) (js : List Judgement) (f : Found) → IsNumbered (f.before ++ f.rest) next → FirstMatches dev f.rest → StandsFor (f.before ++ f.rest) next js → StandsFor (rules_judged dev moment f) next (js ++ judgement_found dev moment f ∷ [])
stands_found dev moment next js f n t s =
    let last : Judgement = judgement_found dev moment f in
    record {
      evaluated = λ j id m h. elim (last_cases js last j m) [
        | inl b ↦ s.evaluated j id b h
        | inr same ↦
            let k = was_reached dev moment f id (subst (λ (v : Judgement). Has v.evaluated id) (sym same) h) in
            n.below id (subst (λ v. Has (ids (f.before ++ f.rest)) v) k.3 (has_ids (f.before ++ f.rest) k.0 (reached_has f k.0 k.1)))
      ];
      applied = λ j id m h. elim (last_cases js last j m) [
        | inl b ↦ s.applied j id b h
        | inr same ↦
            let one = first_applied f.rest id (subst (λ (v : Judgement). v.applied ≡ Some id) (sym same) h) in
            n.below id (ids_right f.before f.rest id one)
      ];
      histories = λ e m. elim (has_cases (map (seen dev moment) f.before) (noted_first moment f.rest) e m) [
        | inl a ↦
            let k = map_has (seen dev moment) f.before e a in
            subst (λ (v : RuleEntry). IsHistory (js ++ last ∷ []) v.id v.history) k.2 (seen_history dev moment js f k.0 n.distinct k.1 (s.histories k.0 (has_left f.before f.rest k.0 k.1)))
        | inr b ↦ rest_history dev moment js f.before f.rest e n.distinct t s.histories b
      ];
    }
