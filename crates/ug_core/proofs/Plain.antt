-- The last stage keeps the rules as they were given, and what is written to the defaults, whatever is answered.
use Rattle.std.proofs.Common.{◌≡◌, ℕ, ◌+◌, Bool, true, false, is_none, List, [], ◌∷◌, ◌++◌, Option, Some, None, refl, sym, ◌∙◌, subst}
use Rattle.ug_types.specs.Names.{parent_of}
use Rattle.ug_types.specs.Sweep.{in_sweep_order}
use Rattle.ug_types.specs.declared.record.Judged.{Judged}
use Rattle.ug_kernel.specs.declared.calls.FailedCall.{FailedCall}
use Rattle.ug_kernel.specs.declared.calls.Listing.{Listing}
use Rattle.ug_kernel.specs.declared.calls.Listing.TheVariants as listing
use Rattle.ug_kernel.specs.declared.calls.Probe.{Probe}
use Rattle.ug_kernel.specs.declared.calls.Probe.TheVariants as probe
use Rattle.ug_kernel.specs.Calls.{Call, Answer}
use Rattle.ug_kernel.specs.Tree.{Prog, Return, Ask, Room, Runs, then}
use Rattle.ug_kernel.specs.Along.{failure_of}
use Rattle.ug_kernel.specs.declared.identity.Bound.{Bound}
use Rattle.ug_kernel.specs.declared.identity.Binding.{Binding}
use Rattle.ug_kernel.specs.declared.identity.Binding.TheVariants as bound
use Rattle.ug_audit.specs.declared.entry.Entry.TheVariants as entry
use Rattle.ug_audit.specs.declared.entry.Fault.{Fault}
use Rattle.ug_audit.specs.declared.entry.Fault.TheVariants as fault
use Rattle.ug_table.specs.Allowed.{allowed_records}
use Rattle.ug_table.specs.Bring.{treating}
use Rattle.ug_table.specs.Parent.{binding_for, judged_bound, bound_hash}
use Rattle.ug_table.specs.Settle.{to_keep, known_in, judged_entry, standing_for, to_judge, if_place, if_record, admitting, after_bind, entering, to_mark, dropped, after_known, from_standing, settling}
use Rattle.ug_table.specs.Standings.{standing_of}
use Rattle.ug_table.specs.State.{State, Terms, kept_of, terms_for}
use Rattle.ug_table.specs.Sweep.{settling_all, resettling_all, closing_unlisted, parted, marked_listed, unlisted, if_room, after_list, names_of, resumed, sweeping}
use Rattle.ug_table.specs.declared.standing.Known.{Known}
use Rattle.ug_table.specs.declared.standing.Settled.{Settled}
use Rattle.ug_ruleset.specs.RuleFile.{as_given}
use Rattle.ug_core.specs.Event.{DaemonState, ended, handling, settling_due}
use Rattle.ug_core.specs.Policy.{Judging, policy_answer, policy_later}
use Rattle.ug_core.proofs.Verdicts.{rules_stay}

-- each end of a tree is so
abbrev EndsSo : {R : Type 0} → (R → Type 0) → Prog R → Type 0
EndsSo p (Return value) = p value
EndsSo p (Ask call next) = (a : Answer call) → EndsSo p (next a)
EndsSo p (Room next) = (b : Bool) → EndsSo p (next b)

ends_run : {S R : Type 0} (gives : S → (call : Call) → Answer call → S → Type 0) (p : R → Type 0) (t : Prog R) (s : S) (r : R) (u : S) → EndsSo p t → Runs gives s t r u → p r
ends_run gives p (Return value) s r u e h = subst (λ (x : _). p x) (sym h.0) e
ends_run gives p (Ask call next) s r u e h = ends_run gives p (next h.0) h.1 r u (e h.0) h.3
ends_run gives p (Room next) s r u e h = ends_run gives p (next h.0) s r u (e h.0) h.1

ends_then : {A B : Type 0} (p : A → Type 0) (q : B → Type 0) (t : Prog A) (f : A → Prog B) → EndsSo p t → ((a : A) → p a → EndsSo q (f a)) → EndsSo q (then t f)
ends_then p q (Return value) f e g = g value e
ends_then p q (Ask call next) f e g = λ a. ends_then p q (next a) f (e a) g
ends_then p q (Room next) f e g = λ b. ends_then p q (next b) f (e b) g

ends_after : {A B : Type 0} (q : B → Type 0) (t : Prog A) (f : A → Prog B) → ((a : A) → EndsSo q (f a)) → EndsSo q (then t f)
ends_after q (Return value) f g = g value
ends_after q (Ask call next) f g = λ a. ends_after q (next a) f g
ends_after q (Room next) f g = λ b. ends_after q (next b) f g

-- the judge has the same rules, but for their histories
abbrev pub SameRules : Judging → State Judging → Type 0
SameRules j w = as_given w.judge.rules ≡ as_given j.rules

-- and the state has them, and what is written to the defaults
abbrev Stays : State Judging → State Judging → Type 0
Stays j w = SameRules j.judge w × (w.hub ≡ j.hub)

abbrev SameAfter : State Judging → Settled × State Judging → Type 0
SameAfter j p = Stays j p.1

judge_so : (j : State Judging) (name : List ℕ) (terms : Terms) (w : State Judging) (b : Bound) (judged : Judged) (hash : List ℕ) → Stays j w → EndsSo (SameAfter j) (to_judge policy_answer policy_later name terms w b judged hash)
judge_so j name terms w b judged hash h =
    let given = policy_answer w.judge judged (is_none (parent_of name)) terms.present b.on w.standings in
    let later : Judging = policy_later w.judge judged (is_none (parent_of name)) terms.present b.on w.standings in
    let same : as_given later.rules ≡ as_given j.judge.rules = rules_stay w.judge (allowed_records w.standings) judged (is_none (parent_of name)) terms.present ∙ h.0 in
    ends_after (SameAfter j) (treating terms.hub name (known_in w b.held.0 given) b.on (w.entries ++ judged_entry w name b.held.0 given ∷ []))
    (to_keep (record w { next = w.next + 1; judge = later }) (standing_for w name b.held.0 judged hash given))
    (λ p. (same, h.1))

place_so : (j : State Judging) (name : List ℕ) (terms : Terms) (w : State Judging) (b : Bound) (judged : Judged) (hash : List ℕ) (place : Bool) → Stays j w → EndsSo (SameAfter j) (if_place policy_answer policy_later name terms w b judged hash place)
place_so j name terms w b judged hash true h = judge_so j name terms w b judged hash h
place_so j name terms w b judged hash false h = λ closed. h

record_so : (j : State Judging) (name : List ℕ) (terms : Terms) (w : State Judging) (b : Bound) (room : Bool) → Stays j w → EndsSo (SameAfter j) (if_record policy_answer policy_later name terms w b room)
record_so j name terms w b true h = λ place. place_so j name terms w b (judged_bound name w.standings b) (bound_hash b) place h
record_so j name terms w b false h = λ closed. h

bind_so : (j : State Judging) (name : List ℕ) (terms : Terms) (w : State Judging) (found : Binding) → Stays j w → EndsSo (SameAfter j) (after_bind policy_answer policy_later name terms w found)
unfolding admitting
bind_so j name terms w (bound.Bound b) h = λ room. record_so j name terms w b room h
bind_so j name terms w bound.Absent h = h
bind_so j name terms w bound.Vanished h = h
bind_so j name terms w (bound.Failed failed) h = h
bind_so j name terms w bound.Memory h = h

enter_so : (j : State Judging) (name : List ℕ) (terms : Terms) (w : State Judging) → Stays j w → EndsSo (SameAfter j) (entering policy_answer policy_later name terms w)
unfolding entering
enter_so j name terms w h = ends_after (SameAfter j) (binding_for name w.standings) (after_bind policy_answer policy_later name terms w) (λ found. bind_so j name terms w found h)

known_so : (j : State Judging) (name : List ℕ) (terms : Terms) (w : State Judging) (known : Known) (a : Probe) (failed : FailedCall) → Stays j w → EndsSo (SameAfter j) (after_known policy_answer policy_later name terms w known a failed)
known_so j name terms w known (probe.Alive on) failed h = ends_after (SameAfter j) (treating terms.hub name known on w.entries) (to_mark w name) (λ p. h)
known_so j name terms w known probe.Gone failed h = λ closed. enter_so j name terms (dropped w name known.number) h
known_so j name terms w known probe.Failed failed h = h

standing_so : (j : State Judging) (name : List ℕ) (terms : Terms) (w : State Judging) (found : Option Known) → Stays j w → EndsSo (SameAfter j) (from_standing policy_answer policy_later name terms w found)
standing_so j name terms w (Some known) h = λ t. known_so j name terms w known t.answer (failure_of t) h
standing_so j name terms w None h = enter_so j name terms w h

settle_so : (j : State Judging) (name : List ℕ) (terms : Terms) (w : State Judging) → Stays j w → EndsSo (SameAfter j) (settling policy_answer policy_later name terms w)
unfolding settling
settle_so j name terms w h = standing_so j name terms w (standing_of name w.standings) h

all_so : (j : State Judging) (names : List (List ℕ)) (terms : Terms) (w : State Judging) → Stays j w → EndsSo (Stays j) (settling_all policy_answer policy_later names terms w)
all_so j [] terms w h = h
all_so j (name ∷ names) terms w h =
    ends_then (SameAfter j) (Stays j) (settling policy_answer policy_later name terms w) (λ p. settling_all policy_answer policy_later names terms p.1)
    (settle_so j name terms w h)
    (λ p k. all_so j names terms p.1 k)

unlisted_so : (j : State Judging) (why : Fault) (w : State Judging) → Stays j w → EndsSo (Stays j) (unlisted why w)
unlisted_so j why w h = ends_after (Stays j) (resettling_all w.hub (names_of w.standings) (kept_of w.standings (w.entries ++ entry.UnsettledAll why ∷ []))) (resumed w) (λ k. h)

room_so : (j : State Judging) (names : List (List ℕ)) (w : State Judging) (room : Bool) → Stays j w → EndsSo (Stays j) (if_room policy_answer policy_later names w room)
room_so j names w true h =
    ends_after (Stays j) (closing_unlisted names w.standings) (λ closed. settling_all policy_answer policy_later names (terms_for w) (marked_listed (parted names w)))
    (λ closed. all_so j names (terms_for w) (marked_listed (parted names w)) h)
room_so j names w false h = unlisted_so j fault.Memory w h

list_so : (j : State Judging) (w : State Judging) (a : Listing) (failed : FailedCall) → Stays j w → EndsSo (Stays j) (after_list policy_answer policy_later w a failed)
list_so j w (listing.Names names) failed h = λ room. room_so j (in_sweep_order names) w room h
list_so j w listing.Failed failed h = unlisted_so j (fault.Call failed) w h
list_so j w listing.Memory failed h = unlisted_so j fault.Memory w h

sweep_so : (w : State Judging) → EndsSo (Stays w) (sweeping policy_answer policy_later w)
unfolding sweeping
sweep_so w = λ t. list_so w w t.answer (failure_of t) (refl, refl)

due_so : (due : Option (List (List ℕ))) (w : State Judging) → EndsSo (Stays w) (settling_due due w)
due_so None w = sweep_so w
due_so (Some names) w = all_so w names (terms_for w) w (refl, refl)

pub due_keeps_hub : {S : Type 0} (gives : S → (call : Call) → Answer call → S → Type 0) (due : Option (List (List ℕ))) (s : S) (w v : State Judging) (t : S) → Runs gives s (settling_due due w) v t → v.hub ≡ w.hub
due_keeps_hub gives due s w v t h = (ends_run gives (Stays w) (settling_due due w) s v t (due_so due w) h).1

handle_so : (d : DaemonState) → EndsSo (λ (e : DaemonState). SameRules d.sweep.judge e.sweep) (handling d)
unfolding handling
handle_so d = ends_then (Stays d.sweep) (λ (e : DaemonState). SameRules d.sweep.judge e.sweep) (settling_due d.due d.sweep) (ended d) (due_so d.due d.sweep) (λ v h. h.0)

pub event_keeps_rules : {S : Type 0} (gives : S → (call : Call) → Answer call → S → Type 0) (s : S) (d e : DaemonState) (t : S) → Runs gives s (handling d) e t → SameRules d.sweep.judge e.sweep
event_keeps_rules gives s d e t h = ends_run gives (λ (x : DaemonState). SameRules d.sweep.judge x.sweep) (handling d) s e t (handle_so d) h

pending_so : (d : DaemonState) → EndsSo (λ (e : DaemonState). e.pending ≡ d.pending) (handling d)
unfolding handling
pending_so d = ends_after (λ (e : DaemonState). e.pending ≡ d.pending) (settling_due d.due d.sweep) (ended d) (λ v. refl)

pub event_keeps_pending : {S : Type 0} (gives : S → (call : Call) → Answer call → S → Type 0) (s : S) (d e : DaemonState) (t : S) → Runs gives s (handling d) e t → e.pending ≡ d.pending
event_keeps_pending gives s d e t h = ends_run gives (λ (x : DaemonState). x.pending ≡ d.pending) (handling d) s e t (pending_so d) h
