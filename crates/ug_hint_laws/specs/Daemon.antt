-- The law for the daemon: for its policy, by the conditions of its rules, and for the whole last
-- stage of an event.
use Rattle.std.specs.Prelude.{◌≡◌, ℕ, ◌+◌, false, List, [], ◌∷◌, ◌++◌, Some, None}
use Rattle.ug_types.specs.Elements.{Has}
use Rattle.ug_kernel.specs.Kernel.{Kernel}
use Rattle.ug_audit.specs.declared.entry.Entry.TheVariants as entry
use Rattle.ug_policy.specs.Asking.{conditions_ask}
use Rattle.ug_policy.specs.declared.entry.RuleEntry.{RuleEntry}
use Rattle.ug_table.specs.State.{State}
use Rattle.ug_core.specs.Event.{DaemonState, handling}
use Rattle.ug_core.specs.Policy.{Judging, policy_answer, policy_later}
use Rattle.ug_hint_laws.specs.Compared.{RunsStill, AreEnoughWith, BothEndAlike, EndsAlike}

-- no rule has an `allowed-matches` condition
abbrev pub AskForNone : List RuleEntry → Type 0
AskForNone rules = (e : RuleEntry) → Has rules e → conditions_ask e.rule.conds ≡ false

-- no rule of the policy has one, or else gone devices left their names to live ones
abbrev pub AreEnoughByRules : List (List ℕ) → Kernel → State Judging → Type 0
AreEnoughByRules names k w = AreEnoughWith (AskForNone w.judge.rules) names k w

abbrev pub ComparesByRules : List (List ℕ) → Kernel → State Judging → Type 0
ComparesByRules names k w =
    AreEnoughByRules names k w → BothEndAlike policy_answer policy_later names k w

-- the state that a last stage leaves behind what it settled
abbrev pub ended_with : DaemonState → State Judging → DaemonState
ended_with d w = record d {
  sweep = record w { entries = w.entries ++ entry.End d.event ∷ [] };
  due = None;
  event = d.event + 1;
}

-- Two last stages end alike: so does what they settle, and nothing else differs.
pub record StagesEndAlike (d : DaemonState) (l : Kernel) (e : DaemonState) (m : Kernel)
    (f : DaemonState) : Type 0 where
  pub swept : State Judging
  pub told : State Judging
  pub alike : EndsAlike d.sweep l swept m told
  pub hub : told.hub ≡ swept.hub
  pub after_sweep : e ≡ ended_with d swept
  pub after_names : f ≡ ended_with d told

-- where no names are due, or these
abbrev pub ComparesStages : List (List ℕ) → Kernel → DaemonState → Type 0
ComparesStages names k d =
    AreEnoughByRules names k d.sweep
    → (l : Kernel) (e : DaemonState) (m : Kernel) (f : DaemonState)
    → RunsStill k (handling (record d { due = None })) e l
    → RunsStill k (handling (record d { due = Some names })) f m → StagesEndAlike d l e m f
