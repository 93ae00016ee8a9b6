-- A reply of lines, and a rule that is read, for which memory is taken.
use Rattle.std.proofs.Common.{◌≡◌, ℕ, Bool, List, Result, Ok, Err, true, false, ◌⊎◌, inl, inr, refl, sym, ap, subst, ◌∙◌}
use Rattle.std.specs.Prelude.{IfOk, OnErr}
use Rattle.ug_types.specs.declared.refusal.Refusal.TheVariants as refusal
use Rattle.ug_kernel.specs.Calls.{Call, Answer}
use Rattle.ug_kernel.specs.Tree.{Room, Runs}
use Rattle.ug_policy.specs.declared.entry.RuleEntry.{RuleEntry}
use Rattle.ug_core.specs.Answering.{CanDo, CanMake, by_rule, if_rule_read, only, refusing, telling}
use Rattle.ug_core.specs.Event.{DaemonState}
use Rattle.ug_core.specs.Policy.{Judging}
use Rattle.ug_rule.specs.Rules.{rule_read}
use Rattle.ug_types.specs.declared.rule.After.{After}
use Rattle.ug_core.specs.declared.choosing.Choice.{Choice}
use Rattle.ug_core.specs.declared.choosing.Deed.TheVariants as deed

pub told_runs : {S E : Type 0} (gives : S → (call : Call) → Answer call → S → Type 0) (s : S) (rows : Result (List (List ℕ)) E) (all : List (List ℕ)) (chosen : Choice) → IfOk rows (λ lines. lines ≡ all) → ((lines : List (List ℕ)) → rows ≡ Ok lines → chosen ≡ only (deed.Tell lines)) → OnErr rows (chosen ≡ refusing (refusal.Memory false)) → Runs gives s (telling all) chosen s
told_runs gives s (Ok lines) all chosen is ok err = (true, (ok lines refl ∙ ap (λ (ls : List (List ℕ)). only (deed.Tell ls)) is, refl))
told_runs gives s (Err e) all chosen is ok err = (false, (err, refl))

pub told_do : {E : Type 0} (d : DaemonState) (rows : Result (List (List ℕ)) E) (chosen : Choice) → ((lines : List (List ℕ)) → rows ≡ Ok lines → chosen ≡ only (deed.Tell lines)) → OnErr rows (chosen ≡ refusing (refusal.Memory false)) → CanDo d chosen.deed
told_do d (Ok lines) chosen ok err = subst (λ (v : Choice). CanDo d v.deed) (sym (ok lines refl)) tt
told_do d (Err e) chosen ok err = subst (λ (v : Choice). CanDo d v.deed) (sym err) tt

pub told_make : {E : Type 0} (rules : List RuleEntry) (rows : Result (List (List ℕ)) E) (chosen : Choice) → ((lines : List (List ℕ)) → rows ≡ Ok lines → chosen ≡ only (deed.Tell lines)) → OnErr rows (chosen ≡ refusing (refusal.Memory false)) → CanMake rules chosen.change
told_make rules (Ok lines) chosen ok err = subst (λ (v : Choice). CanMake rules v.change) (sym (ok lines refl)) tt
told_make rules (Err e) chosen ok err = subst (λ (v : Choice). CanMake rules v.change) (sym err) tt

pub read_runs : {S : Type 0} (gives : S → (call : Call) → Answer call → S → Type 0) (s : S) (p : Judging) (place : After) (permanent : Bool) (text : List ℕ) (chosen : Choice) → (chosen ≡ by_rule p place permanent (rule_read text)) ⊎ (chosen ≡ refusing (refusal.Memory false)) → Runs gives s (Room (if_rule_read p place permanent text)) chosen s
read_runs gives s p place permanent text chosen (inl is) = (true, (is, refl))
read_runs gives s p place permanent text chosen (inr is) = (false, (is, refl))
