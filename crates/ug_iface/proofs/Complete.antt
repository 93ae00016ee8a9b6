-- Where nothing failed, all are off.
use Rattle.std.proofs.Common.{◌≡◌, ℕ, ◌-◌, ◌^◌, ◌<◌, true, List, [], ◌∷◌, Option, slice_get, inl, inr, refl, sym, ◌∙◌, ap, subst, arith}
use Rattle.ug_types.specs.Elements.{Has}
use Rattle.ug_types.proofs.Elements.{cancel}
use Rattle.ug_kernel.specs.Kernel.{Live}
use Rattle.ug_kernel.proofs.Grow.{some_same}
use Rattle.ug_iface.specs.declared.interface.Interface.{Interface}
use Rattle.ug_iface.specs.declared.name.IfaceName.{IfaceName}
use Rattle.ug_iface.specs.declared.settle.IfaceEntry.{IfaceEntry}
use Rattle.ug_iface.specs.declared.settle.IfaceEntry.TheVariants as entry
use Rattle.ug_iface.specs.declared.settle.Passed.{Passed}
use Rattle.ug_iface.specs.declared.settle.Passed.TheVariants as passed
use Rattle.ug_iface.specs.Bus.{Bus}
use Rattle.ug_iface.specs.Called.{LivedIface}
use Rattle.ug_iface.specs.Named.{is_named_off}
use Rattle.ug_iface.specs.Settle.{Aim}
use Rattle.ug_iface.specs.Counting.{CountsRise, EndRises, CountsFaults}
use Rattle.ug_iface.specs.Laws.{IsOff, PassSays, IsPass, IsComplete}
use Rattle.ug_iface.proofs.Counts.{rises_le}

-- a failure that is told has raised the count
told_rises : (low high : ℕ) (es : List IfaceEntry) (number : ℕ) (name : IfaceName) (count : ℕ) → low < 2 ^ 64 - 1 → CountsRise low es high → Has es (entry.Fault number name count) → low < high
told_rises low high [] number name count small r h = absurd h
told_rises low high (entry.Intent n m ∷ es) number name count small r (inl e) = let none : ⊥ = cc in absurd none
told_rises low high (entry.Intent n m ∷ es) number name count small r (inr h) = told_rises low high es number name count small r h
told_rises low high (entry.Wrote n m o ∷ es) number name count small r (inl e) = let none : ⊥ = cc in absurd none
told_rises low high (entry.Wrote n m o ∷ es) number name count small r (inr h) = told_rises low high es number name count small r h
told_rises low high (entry.Fault n m first ∷ es) number name count small r h = let up = r.0.1 small in let rest = rises_le first high es r.1 in omega (arith, up, rest)
told_rises low high (entry.Memory n m ∷ es) number name count small r (inl e) = let none : ⊥ = cc in absurd none
told_rises low high (entry.Memory n m ∷ es) number name count small r (inr h) = told_rises low high es number name count small r h

is_off : (aim : Aim) (i : ℕ) (b c : Bus) (low high : ℕ) (end : Passed) (added : List IfaceEntry) → high ≡ low → low < 2 ^ 64 - 1 → (end ≡ passed.Memory → ⊥) → ((name : IfaceName) → Has added (entry.Memory aim.number name) → ⊥)
    → CountsRise low added high → EndRises low end high → PassSays aim i b c end added → (name : IfaceName) (k : ℕ) (y : Interface) → name.device ≡ aim.device.via_port → LivedIface b c name k y → y.device ≡ i → is_named_off aim.rules aim.device y.triple ≡ true → IsOff c k
is_off aim i b c low high passed.Done added same small room full r er says name k y own lived dev named =
    elim (says.off refl name own k y lived named) [
      | inl o ↦ o
      | inr t ↦ elim t [
        | inl f ↦ let up = told_rises low high added aim.number name f.0 small r f.1 in absurd (let none : ⊥ = omega (arith, up, same) in none)
        | inr m ↦ absurd (full name m)
      ]
    ]
is_off aim i b c low high passed.Gone added same small room full r er says name k y own lived dev named =
    let a = says.grows.interfaces k y lived.entry.at in
    let z = lived.exit in
    let it : a.0 ≡ z.0 = some_same (slice_get c.interfaces k) a.0 z.0 a.1 z.1.at in
    let of_i : z.0.device ≡ i = ap (λ (x : Interface). x.device) (sym it) ∙ a.2.stays.device ∙ dev in
    absurd (says.gone refl z.1.d (subst (λ (q : ℕ). Live c.kernel.devices q z.1.d) of_i z.1.device))
is_off aim i b c low high (passed.Fault count) added same small room full r er says name k y own lived dev named =
    let up = er.0.1 small in absurd (let none : ⊥ = omega (arith, up, er.1, same) in none)
is_off aim i b c low high passed.Memory added same small room full r er says name k y own lived dev named = absurd (room refl)

pub is_complete : {S : Type 0} (bus : S → Option Bus) (faults : S → ℕ) (s t : S) (aim : Aim) (es out : List IfaceEntry) (end : Passed) → CountsFaults (faults s) (faults t) es end out → IsPass bus s aim es end out t → IsComplete bus faults s aim es end out t
is_complete bus faults s t aim es out end counts pass same small room full c told =
    let p = pass c told in (
      p.0,
      p.1,
      λ sound i held name k y own lived dev named.
          let q = p.2 sound i held in
          let one : counts.0 ≡ q.0 = cancel es counts.0 q.0 (sym counts.1 ∙ q.1) in
          let rises : CountsRise (faults s) q.0 (faults t) = subst (λ (l : List IfaceEntry). CountsRise (faults s) l (faults t)) one counts.2 in
          is_off aim i p.0 c (faults s) (faults t) end q.0 same small room (λ n h. full q.0 n q.1 h) rises counts.3 q.2 name k y own lived dev named,
    )
