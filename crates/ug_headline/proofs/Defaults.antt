-- The defaults of root hubs get what the setting says.
use Rattle.std.proofs.Common.{◌≡◌, ℕ, List, [], ◌∷◌, Option, Some, None, subst, inl, inr}
use Rattle.ug_types.specs.Elements.{Has}
use Rattle.ug_types.proofs.Elements.{has_cases}
use Rattle.ug_types.specs.declared.verdict.Target.{Target}
use Rattle.ug_kernel.specs.Kernel.{Kernel}
use Rattle.ug_kernel.specs.declared.control.Write.{Write}
use Rattle.ug_kernel.specs.declared.control.Write.TheVariants as write
use Rattle.ug_kernel.specs.declared.device.Effect.{Effect}
use Rattle.ug_audit.specs.declared.entry.Entry.{Entry}
use Rattle.ug_table.specs.Bring.{CallsFor, default_write}
use Rattle.ug_core.specs.Chain.{Explains, Had_effect, Had_none, Happened, No_write, Nothing_told}
use Rattle.ug_core.specs.Policy.{Judging}
use Rattle.ug_core.specs.Rulings.{PolicyStep}
use Rattle.ug_core.proofs.Chained.{is_run}
use Rattle.ug_headline.specs.Defaults.{DefaultsAreSetting}

-- what is to be written is the setting
setting : (hub : Option Write) (what : Write) → default_write hub ≡ Some what → hub ≡ Some what
setting (Some write.DefaultOff) what h = h
setting (Some write.DefaultOn) what h = h
setting (Some write.On) what h = let none : ⊥ = cc in absurd none
setting (Some write.Off) what h = let none : ⊥ = cc in absurd none
setting (Some write.Remove) what h = let none : ⊥ = cc in absurd none
setting None what h = let none : ⊥ = cc in absurd none

abbrev Fits : Option Write → Write → Type 0
Fits hub write.DefaultOff = hub ≡ Some write.DefaultOff
Fits hub write.DefaultOn = hub ≡ Some write.DefaultOn
Fits hub what = Unit {0}

fits : (hub : Option Write) (name : List ℕ) (verdict : Target) (what : Write) → CallsFor hub name verdict what → Fits hub what
fits hub name verdict write.On h = tt
fits hub name verdict write.Off h = tt
fits hub name verdict write.Remove h = tt
fits hub name verdict write.DefaultOff h = setting hub write.DefaultOff h.1
fits hub name verdict write.DefaultOn h = setting hub write.DefaultOn h.1

each_fits : (hub : Option Write) (policy : Judging) (hs : List Happened) (steps : List PolicyStep) (k : Kernel) (es : List Entry) (log : List Effect) → Explains hub policy hs steps k es log → (x : Effect) → Has log x → Fits hub x.write
each_fits hub policy hs steps k _ _ Nothing_told x h = absurd h
each_fits hub policy hs steps k _ _ (No_write es more log none w) x h = each_fits hub policy hs steps k es log w x h
each_fits hub policy hs steps k _ _ (Had_none es log number name what outcome may w) x h = each_fits hub policy hs steps k es log w x h
each_fits hub policy hs steps k _ _ (Had_effect es log d outcome effect may is w) x h = elim (has_cases log (effect ∷ []) x h) [
  | inl a ↦ each_fits hub policy hs steps k es log w x a
  | inr b ↦ elim b [
    | inl same ↦ subst (λ (y : Effect). Fits hub y.write) same (fits hub d.name d.verdict effect.write is.wanted)
    | inr none ↦ absurd none
  ]
]

pub defaults_are : DefaultsAreSetting
defaults_are start hub number first o a hs k p e started c =
    let run = is_run start hub number first o a hs k p e started c in
    record {
      added = run.explained.added;
      log = run.explained.log;
      off = λ i h. each_fits hub start hs run.steps k _ run.explained.added run.explained.each (record { device = i; write = write.DefaultOff }) h;
      on = λ i h. each_fits hub start hs run.steps k _ run.explained.added run.explained.each (record { device = i; write = write.DefaultOn }) h;
    }
