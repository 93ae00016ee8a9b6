-- The defaults of the standings that are marked so stay where nothing is written, and where a verdict is ordered.
use Rattle.std.proofs.Common.{◌≡◌, ℕ, List, Option, Some, slice_get, sym, ◌∙◌, ap, subst}
use Rattle.ug_kernel.specs.declared.control.Control.TheVariants.{Authorized}
use Rattle.ug_kernel.specs.declared.control.Write.{Write}
use Rattle.ug_types.specs.declared.verdict.Target.{Target}
use Rattle.ug_types.specs.Principals.{Named}
use Rattle.ug_types.proofs.Elements.{map_has}
use Rattle.ug_kernel.specs.declared.device.Device.{Device}
use Rattle.ug_kernel.specs.Kernel.{Kernel, default_in}
use Rattle.ug_kernel.specs.Defaults.{default_at, set_by}
use Rattle.ug_kernel.specs.Quiet.{Quiet}
use Rattle.ug_table.specs.Laws.{Stand, AreDefaulted}
use Rattle.ug_table.specs.Orders.{ordered_standing, with_order}
use Rattle.ug_table.specs.declared.standing.Standing.{Standing}
use Rattle.ug_core.proofs.Known.{same_device}

kept_default : (k l : Kernel) (i : ℕ) (d : Device) → Quiet k l → slice_get k.devices i ≡ Some d → default_at i l ≡ default_at i k
kept_default k l i d quiet at =
    let x = quiet.devices i d at in
    ap (λ (o : Option Device). default_in o) x.1 ∙ x.2.default ∙ sym (ap (λ (o : Option Device). default_in o) at)

pub quiet_defaulted : (hub : Option Write) (k l : Kernel) (ss : List Standing) (next : ℕ) → Quiet k l → Stand k ss next → AreDefaulted hub k ss → AreDefaulted hub l ss
quiet_defaulted hub k l ss next quiet stand old s has marked i file what due =
    let x = stand.devices s has in
    let there : slice_get l.held s.held.0 ≡ Some (record { device = x.0; control = Authorized }) = quiet.held s.held.0 (record { device = x.0; control = Authorized }) x.1.file in
    subst (λ (n : ℕ). default_at n l ≡ set_by what) (same_device l s.held.0 x.0 i there file) (kept_default k l x.0 x.1.d quiet x.1.device ∙ old s has marked x.0 x.1.file what due)

pub ordered_defaulted : (hub : Option Write) (k : Kernel) (number : ℕ) (verdict : Target) (who : Named) (ss : List Standing) → AreDefaulted hub k ss → AreDefaulted hub k (with_order number verdict who ss)
ordered_defaulted hub k number verdict who ss old s has marked i file what due =
    let m = map_has (ordered_standing number verdict who) ss s has in
    old m.0 m.1 (ap (λ (v : Standing). v.defaulted) m.2 ∙ marked) i (subst (λ (v : Standing). slice_get k.held v.held.0 ≡ Some (record { device = i; control = Authorized })) (sym m.2) file) what due
