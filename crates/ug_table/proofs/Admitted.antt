-- What a name's binding and its verdict lead to.
use Rattle.std.proofs.Common.{◌≡◌, ℕ, ◌+◌, Bool, true, is_none, List, [], ◌∷◌, ◌++◌, Option, ap, ◌∙◌, subst, refl}
use Rattle.ug_audit.specs.declared.entry.Entry.TheVariants as entry
use Rattle.ug_kernel.proofs.Runs.{runs_then}
use Rattle.ug_kernel.specs.Tree.{Room}
use Rattle.ug_table.specs.Bring.{treating}
use Rattle.ug_table.specs.Parent.{binding_by}
use Rattle.ug_table.specs.Settle.{known_in, stopped_by, to_keep, unsettled}
use Rattle.ug_table.proofs.Common.{Answer, Answers, Binding, Bound, Call, Cause, Entry, Fault, Judged, Known, Laters, Runs, Settled, Standing, State, Target, Terms, after_bind, binding_for, entering, if_place, judged_entry, kept_standings, parent_of, parent_standing, standing_for, unsettled_by}

pub behind_binding : {S J : Type 0} (gives : S → (call : Call) → Answer call → S → Type 0) (answer : Answers J) (later : Laters J) (name : List ℕ) (terms : Terms) (w : State J) (parent : Option Standing) (s u t : S) (b : Binding) (r : Settled × State J) → parent ≡ parent_standing name w.standings → Runs gives s (binding_by name parent) b u → Runs gives u (after_bind answer later name terms w b) r t → Runs gives s (entering answer later name terms w) r t
unfolding entering
behind_binding gives answer later name terms w parent s u t b r e h k = runs_then gives s (binding_for name w.standings) (after_bind answer later name terms w) b u r t (subst (λ (o : Option Standing). Runs gives s (binding_by name o) b u) e h) k

pub told_fault : {S J : Type 0} (gives : S → (call : Call) → Answer call → S → Type 0) (w : State J) (name : List ℕ) (why : Fault) (s : S) (how : Settled) (es : List Entry) → how ≡ stopped_by why → es ≡ w.entries ++ entry.Unsettled name why ∷ [] → Runs gives s (unsettled w name why) (how, record w { entries = es }) s
told_fault gives w name why s how es e f = ((λ i. (e i, record w { entries = f i })), refl)

-- a verdict, noted and kept behind its writes
pub judged_so : {S J : Type 0} (gives : S → (call : Call) → Answer call → S → Type 0) (answer : Answers J) (later : Laters J) (name : List ℕ) (terms : Terms) (w : State J) (b : Bound) (judged : Judged) (hash : List ℕ) (s t : S) (p : Settled × Bool × List Entry) (given : Target × Cause) (known : Known) (es fs : List Entry) (rs : List Standing) (judge : J) → given ≡ answer w.judge judged (is_none (parent_of name)) terms.present b.on w.standings → known ≡ known_in w b.held.0 given → es ≡ w.entries ++ judged_entry w name b.held.0 given ∷ [] → Runs gives s (treating terms.hub name known b.on es) p t → rs ≡ kept_standings w.standings (record (standing_for w name b.held.0 judged hash given) { defaulted = p.1 }) p.0 → judge ≡ later w.judge judged (is_none (parent_of name)) terms.present b.on w.standings → fs ≡ p.2 ++ unsettled_by name p.0 → Runs gives s (Room (if_place answer later name terms w b judged hash)) (p.0, record w { standings = rs; next = w.next + 1; judge = judge; entries = fs }) t
judged_so {S} {J} gives answer later name terms w b judged hash s t p given known es fs rs judge a k e h l m f =
    let now = answer w.judge judged (is_none (parent_of name)) terms.present b.on w.standings in
    let after = later w.judge judged (is_none (parent_of name)) terms.present b.on w.standings in
    let held = b.held.0 in
    let noted = subst (λ (v : Known). Runs gives s (treating terms.hub name v b.on es) p t) k h in
    let run = subst (λ (v : List Entry). Runs gives s (treating terms.hub name (known_in w held given) b.on v) p t) e noted in
    let same = subst (λ (v : Target × Cause). Runs gives s (treating terms.hub name (known_in w held v) b.on (w.entries ++ judged_entry w name held v ∷ [])) p t) a run in
    let kept = l ∙ ap (λ (v : Target × Cause). kept_standings w.standings (record (standing_for w name held judged hash v) { defaulted = p.1 }) p.0) a in
    let made : State J = record w { standings = rs; next = w.next + 1; judge = judge; entries = fs } in (
      true,
      runs_then gives s (treating terms.hub name (known_in w held now) b.on (w.entries ++ judged_entry w name held now ∷ [])) (to_keep (record w { next = w.next + 1; judge = after }) (standing_for w name held judged hash now)) p t (p.0, made) t same
          ((λ i. (p.0, record w { standings = kept i; next = w.next + 1; judge = m i; entries = f i })), refl),
    )
