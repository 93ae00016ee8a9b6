-- The law for the policy, and for the last stage of an event.
use Rattle.std.proofs.Common.{◌≡◌, ℕ, List, Option, Some, None, sym, ◌∙◌, subst, inl, inr}
use Rattle.ug_kernel.specs.Kernel.{Kernel, IsKernel}
use Rattle.ug_kernel.specs.Tree.{calls}
use Rattle.ug_table.specs.State.{State}
use Rattle.ug_core.specs.Event.{DaemonState, ended, handling, settling_due}
use Rattle.ug_core.specs.Policy.{Judging, policy_answer, policy_later}
use Rattle.ug_core.proofs.Plain.{due_keeps_hub}
use Rattle.ug_hint_laws.specs.Compared.{AreEnough, RunsStill}
use Rattle.ug_hint_laws.specs.Daemon.{AreEnoughByRules, ComparesByRules, ComparesStages, ended_with}
use Rattle.ug_hint_laws.proofs.Comparison.{compares}
use Rattle.ug_hint_laws.proofs.Rules.{looks_at_none}
use Rattle.ug_hint_laws.proofs.Still.{Cut, still_cut, still_runs}

enough_by_rules : (names : List (List ℕ)) (k : Kernel) (w : State Judging) → AreEnoughByRules names k w → AreEnough policy_answer policy_later names k w
enough_by_rules names k w enough = record {
  order = enough.order;
  sound = enough.sound;
  stand = enough.stand;
  listed = enough.listed;
  elsewhere = enough.elsewhere;
  gone = enough.gone;
  unseen = elim enough.unseen [ inl none ↦ inl (looks_at_none w.judge none) | inr borne ↦ inr borne ];
}

pub compares_by_rules : (names : List (List ℕ)) (k : Kernel) (w : State Judging) → ComparesByRules names k w
compares_by_rules names k w enough = compares policy_answer policy_later names k w (enough_by_rules names k w enough)

-- a stage is what it settles, and then its end

record Staged (due : Option (List (List ℕ))) (d : DaemonState) (k : Kernel) (e : DaemonState) (l : Kernel) : Type 0 where
  v : State Judging
  runs : RunsStill k (settling_due due d.sweep) v l
  hub : v.hub ≡ d.sweep.hub
  is : e ≡ ended_with d v

staged : (due : Option (List (List ℕ))) (d : DaemonState) (k : Kernel) (e : DaemonState) (l : Kernel) → IsKernel k → RunsStill k (handling (record d { due = due })) e l → Staged due d k e l
unfolding handling
staged due d k e l sound h =
    let c : Cut k (settling_due due d.sweep) (ended (record d { due = due })) e l = still_cut (settling_due due d.sweep) (ended (record d { due = due })) k e l h in
    let runs : RunsStill k (settling_due due d.sweep) c.a l = subst (λ (x : Kernel). RunsStill k (settling_due due d.sweep) c.a x) (sym c.last.1) c.first in
    record {
      v = c.a;
      runs = runs;
      hub = due_keeps_hub calls due k d.sweep c.a l (still_runs (settling_due due d.sweep) k c.a l sound runs);
      is = c.last.0;
    }

pub compares_stages : (names : List (List ℕ)) (k : Kernel) (d : DaemonState) → ComparesStages names k d
compares_stages names k d enough l e m f g h =
    let one = staged None d k e l enough.sound g in
    let other = staged (Some names) d k f m enough.sound h in
    record {
      swept = one.v;
      told = other.v;
      alike = compares_by_rules names k d.sweep enough l one.v m other.v one.runs other.runs;
      hub = other.hub ∙ sym one.hub;
      after_sweep = one.is;
      after_names = other.is;
    }
