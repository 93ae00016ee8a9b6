-- What follows for a daemon that nothing tells to allow anything.
use Rattle.std.specs.Prelude.{◌≡◌, ℕ, false, List}
use Rattle.ug_types.specs.Elements.{Has}
use Rattle.ug_types.specs.declared.verdict.Target.TheVariants as target
use Rattle.ug_kernel.specs.Kernel.{Kernel}
use Rattle.ug_kernel.specs.declared.control.Write.TheVariants as write
use Rattle.ug_conf.specs.declared.settings.Present.TheVariants as present
use Rattle.ug_policy.specs.declared.entry.RuleEntry.{RuleEntry}
use Rattle.ug_core.specs.Policy.{Judging}
use Rattle.ug_headline.specs.Headline.{IsToldAndWarranted, Seen}

-- devices that are present are blocked, and so are those that no rule matches; and no rule allows
pub record AllowsNothing (start : Judging) : Type 0 where
  pub devices : start.classes.present_device ≡ present.Block
  pub controllers : start.classes.present_controller ≡ present.Block
  pub implicit : start.classes.implicit ≡ target.Block
  pub rules : (e : RuleEntry) → Has start.rules e → e.rule.target ≡ target.Allow → ⊥

-- where nothing allows, and no order is granted, nothing that the run wrote authorises a device
abbrev pub NothingAuthorised : Type 0
NothingAuthorised =
    (start : Judging) (first : Kernel) (run : List Seen) (k : Kernel)
    → AllowsNothing start → ((event : Seen) → Has run event → event.granted ≡ false)
    → (w : IsToldAndWarranted start first run k)
    → (i : ℕ) → Has w.added (record { device = i; write = write.On }) → ⊥
