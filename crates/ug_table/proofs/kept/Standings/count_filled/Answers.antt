use Rattle.std.proofs.Common.{◌≡◌, ◌+◌, List, [], ◌∷◌, Some, None, arith, length, ap, ◌∙◌}
use Rattle.ug_table.specs.Slots.{Slot, Store, empty_of, filled, named_by}
use Rattle.ug_table.proofs.kept.Standings.count_filled.Goals as goal

filled_or_empty : (es : List Slot) → length es ≡ length (filled es) + length (empty_of es)
filled_or_empty [] = omega arith
filled_or_empty ((k, None) ∷ es) = let rest = filled_or_empty es in omega (arith, rest)
filled_or_empty ((k, Some x) ∷ es) = let rest = filled_or_empty es in omega (arith, rest)

pub overflow_sub-result : goal.overflow_sub-result
overflow_sub-result c =
    let all = filled_or_empty c.self.inside.by_name.entries in
    let held = ap length (c.self.invariant.0.empty ∙ ap named_by c.in-Some.is) in
    omega (arith, all, held, c.len.ensures.len)

pub returns-in-Some : goal.returns-in-Some
returns-in-Some c =
    let all = filled_or_empty c.self.inside.by_name.entries in
    let held = ap length (c.self.invariant.0.empty ∙ ap named_by c.in-Some.is) in
    let same = ap (λ (k : Store). length k.items) c.self.view_is in
    omega (arith, all, held, same, c.len.ensures.len)

pub returns-in-None : goal.returns-in-None
returns-in-None c =
    let all = filled_or_empty c.self.inside.by_name.entries in
    let held = ap length (c.self.invariant.0.empty ∙ ap named_by c.in-None.is) in
    let same = ap (λ (k : Store). length k.items) c.self.view_is in
    omega (arith, all, held, same, c.len-in-None.ensures.len)
