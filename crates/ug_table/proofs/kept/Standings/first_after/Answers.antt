use Rattle.std.proofs.Common.{◌≡◌, sym, subst, refl, arith}
use Rattle.ug_types.specs.Elements.{Has}
use Rattle.ug_table.specs.Slots.{Store}
use native.Mathlib.Decide.{dec_lt}
use Prim.{yes, no}
use Rattle.ug_table.proofs.MapChanges.{unnumbered}
use Rattle.ug_table.proofs.Agreement.{numbered_has}
use Rattle.ug_table.proofs.kept.Standings.first_after.Goals as goal

pub loop-at-init : goal.loop-at-init
loop-at-init c = (omega arith, λ s a lt. lt)

pub returns-in-Some-numbered : goal.returns-in-Some-numbered
returns-in-Some-numbered c =
    let k = numbered_has c.in-Some.at c.args.self.now.items c.in-Some-numbered.s.now (sym c.in-Some-numbered.ensures) in
    let passed = c.loop-at.invariant in
    let some = c.in-Some.ensures.some in
    let from = passed.0 in
    let above = some.0 in (
      k.0,
      omega (arith, from, above, k.1),
      λ s a lt.
          let b = subst (λ (v : Store). Has v.items s) (sym c.self.view_is) a in
          let le = some.1 s.number (passed.1 s b lt) (search (arith, c.self.invariant.0.numbers s b)) in
          omega (arith, le, k.1),
    )

pub loop-at-preserved : goal.loop-at-preserved
loop-at-preserved c =
    let passed = c.loop-at.invariant in
    let some = c.in-Some.ensures.some in
    let from = passed.0 in
    let above = some.0 in (
      omega (arith, from, above),
      λ s b lt.
          let le = some.1 s.number (passed.1 s b lt) (search (arith, c.self.invariant.0.numbers s b)) in
          let ne : s.number ≡ c.in-Some.at → ⊥ = unnumbered c.in-Some.at c.args.self.now.items s (sym c.in_default-numbered.ensures) (subst (λ (v : Store). Has v.items s) c.self.view_is b) in
          omega (arith, le, ne),
    )

pub returns : goal.returns
returns c s a =
    let passed = c.loop-at.invariant in
    let b = subst (λ (v : Store). Has v.items s) (sym c.self.view_is) a in
    elim (dec_lt c.args.number s.number) [
      | yes lt ↦ (let none = c.in_default.ensures.none refl s.number (passed.1 s b lt) in let some = c.self.invariant.0.numbers s b in let no : ⊥ = cc in absurd no)
      | no ge ↦ omega (arith, ge)
    ]
