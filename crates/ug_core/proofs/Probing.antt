-- An order on a device that was probed.
use Rattle.std.proofs.Common.{◌≡◌, ℕ, Bool, true, false, List, Option, Some, None, inl, inr, refl, sym, subst}
use Rattle.std.specs.Prelude.{IsSomeAnd}
use Rattle.ug_types.specs.declared.record.Judged.{Judged}
use Rattle.ug_types.specs.declared.record.Judged.TheVariants as judged
use Rattle.ug_types.specs.declared.verdict.Target.{Target}
use Rattle.ug_kernel.specs.Calls.{Call, Answer}
use Rattle.ug_kernel.specs.Tree.{Runs}
use Rattle.ug_table.specs.Standings.{numbered}
use Rattle.ug_table.specs.declared.standing.Standing.{Standing}
use Rattle.ug_core.specs.Answering.{IsChosenForGood, by_record}
use Rattle.ug_core.specs.Policy.{Judging}
use Rattle.ug_core.specs.declared.choosing.Choice.{Choice}

-- the standing of that number, whose device's record is known
pub stands_so : (number : ℕ) (ss : List Standing) (j : Judged) → IsSomeAnd (numbered number ss) (λ s. s.judged ≡ j) → (x : Standing) × (numbered number ss ≡ Some x) × (x.judged ≡ j)
stands_so number ss j h = by_option (numbered number ss) refl h
  where
    by_option : (o : Option Standing) → numbered number ss ≡ o → IsSomeAnd o (λ s. s.judged ≡ j) → (x : Standing) × (numbered number ss ≡ Some x) × (x.judged ≡ j)
    by_option (Some x) is k = (x, is, k)
    by_option None is k = absurd k

-- a verdict that is to be permanent goes as its tree does
pub chosen_runs : {S : Type 0} (gives : S → (call : Call) → Answer call → S → Type 0) (s : S) (p : Judging) (number : ℕ) (verdict : Target) (on : Bool) (c : Choice) (j own : Judged) → own ≡ j → IsChosenForGood p number verdict on j c → Runs gives s (by_record p number verdict on own) c s
chosen_runs gives s p number verdict on c j own same h = subst (λ (v : Judged). Runs gives s (by_record p number verdict on v) c s) (sym same) (by_case j h)
  where
    by_case : (v : Judged) → IsChosenForGood p number verdict on v c → Runs gives s (by_record p number verdict on v) c s
    by_case (judged.Good device) (inl is) = (true, (is, refl))
    by_case (judged.Good device) (inr is) = (false, (is, refl))
    by_case (judged.Malformed kind place) is = (is, refl)
