-- From the law of the last stage to that of an event.
use Rattle.std.proofs.Common.{◌≡◌, ℕ, ◌+◌, List, [], ◌∷◌, ◌++◌, Option, Some, None, refl, subst}
use Rattle.ug_kernel.specs.Along.{made_with}
use Rattle.ug_kernel.specs.Calls.{Call, Names, Answer}
use Rattle.ug_kernel.specs.Kernel.{Kernel}
use Rattle.ug_kernel.specs.Tree.{Runs}
use Rattle.ug_kernel.proofs.Runs.{runs_then}
use Rattle.ug_audit.specs.declared.entry.Entry.{Entry}
use Rattle.ug_audit.specs.declared.entry.Entry.TheVariants as entry
use Rattle.ug_table.specs.Laws.{AreInOrder}
use Rattle.ug_table.specs.Parts.{NamesOnce, TellsFaults}
use Rattle.ug_table.specs.Several.{GoesInNames, SettlesNames}
use Rattle.ug_table.specs.State.{State, terms_for}
use Rattle.ug_core.specs.Due.{SettlesDueIn, TellsDue}
use Rattle.ug_core.specs.Policy.{Judging, policy_answer, policy_later}
use Rattle.ug_core.specs.Event.{DaemonState, ended, handling, settling_due}
use Rattle.ug_core.specs.Laws.{Handled, SettlesDue}
use Rattle.ug_core.specs.Values.{LogsValues}

pub handled : (d : DaemonState) (k l : Kernel) (v : State Judging) (es : List Entry) (e : DaemonState) → es ≡ d.sweep.entries → SettlesDue d.due k (record d.sweep { entries = es }) l v → LogsValues k l → e.sweep ≡ record v { entries = v.entries ++ entry.End d.event ∷ [] } → e.sweep.hub ≡ d.sweep.hub → e.access ≡ d.access → e.pending ≡ d.pending → e.stream ≡ d.stream → e.due ≡ None → e.event ≡ d.event + 1 → e.reply ≡ d.reply → e.watch ≡ d.watch → Handled k d l e
handled d k l v es e first law values last hub access pending stream due number reply watch = record {
  swept = v;
  law = subst (λ (x : List Entry). SettlesDue d.due k (record d.sweep { entries = x }) l v) first law;
  values = values;
  entries = last;
  hub = hub;
  access = access;
  pending = pending;
  stream = stream;
  due = due;
  event = number;
  reply = reply;
  watch = watch;
}

pub handles_run : {S : Type 0} (gives : S → (call : Call) → Answer call → S → Type 0) (s : S) (d e : DaemonState) (v : State Judging) (es : List Entry) (t : S) → es ≡ d.sweep.entries → Runs gives s (settling_due d.due (record d.sweep { entries = es })) v t → e ≡ record d { sweep = record v { entries = v.entries ++ entry.End d.event ∷ [] }; due = None; event = d.event + 1 } → Runs gives s (handling d) e t
unfolding handling
handles_run gives s d e v es t first run is =
    runs_then gives s (settling_due d.due d.sweep) (ended d) v t e t
    (subst (λ (x : List Entry). Runs gives s (settling_due d.due (record d.sweep { entries = x })) v t) first run)
    (is, refl)

-- from the laws of the table to that of the last stage

pub sweep_tells : {S : Type 0} (gives : S → (call : Call) → Answer call → S → Type 0) (calls faults : S → ℕ) (s : S) (w : State Judging) (t : S) (v : State Judging) → TellsFaults gives calls faults s w t v → TellsDue gives calls faults None s w t v
sweep_tells gives calls faults s w t v h = record {
  goes = record {
    made = made_with Names h.goes.listed ∷ h.goes.later;
    along = h.goes.along;
    telling = made_with Names h.goes.listed ∷ (h.goes.shut ++ h.goes.ending);
    rest = h.goes.head ++ h.goes.rest;
    entries = h.goes.entries;
    parts = (h.goes, refl, refl, refl);
  };
  exact = h.exact;
  numbered = h.numbered;
  rises = h.rises;
}

pub names_tell : {S : Type 0} (gives : S → (call : Call) → Answer call → S → Type 0) (calls faults : S → ℕ) (names : List (List ℕ)) (s : S) (w : State Judging) (t : S) (v : State Judging) → GoesInNames gives calls faults (terms_for w) names s w t v → TellsDue gives calls faults (Some names) s w t v
names_tell gives calls faults names s w t v h = record {
  goes = record {
    made = h.made;
    along = h.along;
    telling = h.ending;
    rest = h.rest;
    entries = h.entries;
    parts = (h, refl, refl, refl);
  };
  exact = h.exact;
  numbered = h.numbered;
  rises = h.rises;
}

pub names_settle : {S : Type 0} (gives : S → (call : Call) → Answer call → S → Type 0) (calls faults : S → ℕ) (told : S → Option Kernel) (names : List (List ℕ)) (s : S) (w : State Judging) (t : S) (v : State Judging) → AreInOrder names → GoesInNames gives calls faults (terms_for w) names s w t v → SettlesNames told policy_answer policy_later (terms_for w) names s w t v → SettlesDueIn told (Some names) s w t v
names_settle gives calls faults told names s w t v order h law = λ l e.
    let x = law order l e in (x.0, x.1, λ sound stand. (x.2 sound stand, h.listed))

pub names_once : {S : Type 0} (gives : S → (call : Call) → Answer call → S → Type 0) (calls faults : S → ℕ) (told : S → Option Kernel) (names : List (List ℕ)) (s : S) (w : State Judging) (t : S) (v : State Judging) → AreInOrder names → GoesInNames gives calls faults (terms_for w) names s w t v → SettlesNames told policy_answer policy_later (terms_for w) names s w t v → NamesOnce told s w t v
names_once gives calls faults told names s w t v order h law = λ l e.
    let x = law order l e in (x.0, x.1, λ sound stand. (h.rest, h.entries, h.once))
