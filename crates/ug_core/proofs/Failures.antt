-- From the failures that an order and the last stage tell to those of an event.
use Rattle.std.proofs.Common.{◌≡◌, ℕ, true, List, [], ◌∷◌, ◌++◌, Option, Some, None, refl, sym, ◌∙◌, ap, subst, append-nil, append_assoc, arith}
use Rattle.ug_types.specs.Elements.{AllDistinct}
use Rattle.ug_kernel.specs.Calls.{Call, Names, Answer}
use Rattle.ug_kernel.specs.declared.calls.FailedCall.{FailedCall}
use Rattle.ug_kernel.specs.Along.{Made, made_with, Along, failure, failures, AreNumbered, Rises}
use Rattle.ug_kernel.proofs.Rises.{Counting, along_numbered, along_rises}
use Rattle.ug_audit.specs.declared.entry.Entry.{Entry}
use Rattle.ug_audit.specs.declared.entry.Entry.TheVariants as entry
use Rattle.ug_table.specs.State.{State}
use Rattle.ug_table.specs.Parts.{failures_told, unsettled_names}
use Rattle.ug_table.proofs.Faults.{Thinner, parts_thin, sweep_thin, thin_more, thin_refl, thin_rises}
use Rattle.ug_table.proofs.NameEntries.{told_more}
use Rattle.ug_table.proofs.Once.{names_more}
use Rattle.ug_core.specs.Event.{DaemonState}
use Rattle.ug_core.specs.Policy.{Judging}
use Rattle.ug_core.specs.Laws.{GoesAsAnswer, PartsOfDue, TellsSweep, TellsEvent}
use Rattle.ug_types.specs.declared.event.Event.{Event}
use Rattle.ug_core.specs.declared.storing.Stored.{Stored}

along_then : {S : Type 0} (gives : S → (call : Call) → Answer call → S → Type 0) (ms ns : List Made) (s u t : S) → Along gives s ms u → Along gives u ns t → Along gives s (ms ++ ns) t
along_then {S} gives [] ns s u t a b = subst (λ (x : S). Along gives x ns t) a b
along_then gives (m ∷ ms) ns s u t a b = (a.0, a.1, along_then gives ms ns a.0 u t a.2 b)

failures_append : (ms ns : List Made) → failures (ms ++ ns) ≡ failures ms ++ failures ns
failures_append [] ns = refl
failures_append (m ∷ ms) ns = ap (λ (x : List FailedCall). failure m.call m.answer ++ x) (failures_append ms ns) ∙ sym (append_assoc (failure m.call m.answer) (failures ms) (failures ns))

-- some of the last stage's aren't told
thin_behind : (order ms ks : List Made) → Thinner (failures ms) (failures ks) → Thinner (failures (order ++ ms)) (failures (order ++ ks))
thin_behind order ms ks t =
    subst (λ (x : List FailedCall). Thinner x (failures (order ++ ks))) (sym (failures_append order ms))
    (subst (λ (x : List FailedCall). Thinner (failures order ++ failures ms) x) (sym (failures_append order ks)) (thin_more (thin_refl (failures order)) t))

-- those that aren't told are left out of all that failed
parts_of_thin : {S : Type 0} (gives : S → (call : Call) → Answer call → S → Type 0) (calls faults : S → ℕ) (due : Option (List (List ℕ))) (s : S) (w : State Judging) (t : S) (v : State Judging) (made telling : List Made) (rest : List Entry) → PartsOfDue gives calls faults due s w t v made telling rest → Thinner (failures made) (failures telling)
parts_of_thin gives calls faults None s w t v made telling rest p =
    subst (λ (x : List Made). Thinner (failures x) (failures telling)) (sym p.1)
    (subst (λ (x : List Made). Thinner (failures (made_with Names p.0.listed ∷ p.0.later)) (failures x)) (sym p.2) (sweep_thin p.0))
parts_of_thin gives calls faults (Some names) s w t v made telling rest p =
    subst (λ (x : List Made). Thinner (failures x) (failures telling)) (sym p.1)
    (subst (λ (x : List Made). Thinner (failures p.0.made) (failures x)) (sym p.2)
    (parts_thin w.hub true names w.standings v.standings p.0.made p.0.ending p.0.rest p.0.parts))

pub event_tells : {S : Type 0} (gives : S → (call : Call) → Answer call → S → Type 0) (calls faults : S → ℕ) → Counting gives calls faults → (event : Event) (s : S) (d : DaemonState) (became : Stored) (m : S) (a : DaemonState) (t : S) (e : DaemonState) (order : List Made) → calls s ≡ 0 → Along gives s order m → GoesAsAnswer gives calls faults event s d became order m a → failures_told a.sweep.entries ≡ failures order → TellsSweep gives calls faults m a t e → TellsEvent gives calls faults event s d became m a t e
event_tells gives calls faults counting event s d became m a t e order none along answers quiet law =
    let v : State Judging = law.swept in
    let h = law.goes in
    let whole : failures_told e.sweep.entries ≡ failures (order ++ h.telling) =
    ap (λ (x : State Judging). failures_told x.entries) law.entries
    ∙ ap (λ (x : List Entry). failures_told (x ++ entry.End a.event ∷ [])) h.entries
    ∙ told_more (a.sweep.entries ++ h.rest) (entry.End a.event ∷ [])
    ∙ append-nil (failures_told (a.sweep.entries ++ h.rest))
    ∙ told_more a.sweep.entries h.rest
    ∙ ap (λ (x : List FailedCall). x ++ failures_told h.rest) quiet
    ∙ ap (λ (x : List FailedCall). failures order ++ x) law.exact
    ∙ sym (failures_append order h.telling) in
    let fewer : Thinner (failures (order ++ h.made)) (failures (order ++ h.telling)) = thin_behind order h.made h.telling (parts_of_thin gives calls faults a.due m a.sweep t v h.made h.telling h.rest h.parts) in
    let all = along_then gives order h.made s m t along h.along in
    record {
      order = order;
      along = along;
      answers = answers;
      swept = v;
      goes = h;
      entries = law.entries;
      exact = whole;
      numbered = subst (λ (n : ℕ). AreNumbered n (order ++ h.made)) none (along_numbered gives calls faults counting (order ++ h.made) s t all);
      rises = subst (λ (x : List FailedCall). Rises 0 (faults s) x) (sym whole) (thin_rises 0 (faults s) fewer (subst (λ (n : ℕ). Rises n (faults s) (failures (order ++ h.made))) none (along_rises gives calls faults counting (order ++ h.made) s t (omega (arith, none)) all)));
    }

-- what is noted before the last stage, and the last entry, name nothing
pub event_names : (number : ℕ) (before rest whole : List Entry) → unsettled_names before ≡ [] → whole ≡ (before ++ rest) ++ entry.End number ∷ [] → AllDistinct (unsettled_names rest) → AllDistinct (unsettled_names whole)
event_names number before rest whole nameless last h =
    subst (λ (v : List (List ℕ)). AllDistinct v)
    (sym (ap (λ (x : List Entry). unsettled_names x) last ∙ names_more (before ++ rest) (entry.End number ∷ []) ∙ append-nil (unsettled_names (before ++ rest)) ∙ names_more before rest ∙ ap (λ (x : List (List ℕ)). x ++ unsettled_names rest) nameless))
    h
