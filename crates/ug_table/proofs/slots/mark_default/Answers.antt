use Rattle.std.proofs.Common.{◌≡◌, ◌∙◌, ap, sym, subst, Option, Some, List, ℕ, true}
use Rattle.std.specs.BTreeMap.{BTreeMap, is_at}
use Rattle.std.specs.Map.{set_value}
use Rattle.std.proofs.lemmas.Map.Steps.{set_value_same}
use Rattle.ug_types.specs.Names.{sweep_cmp}
use Rattle.ug_table.specs.Standings.{with_default}
use Rattle.ug_table.specs.Slots.{filled, empty_of, AllNamed}
use Rattle.ug_table.proofs.Entries.{flat, named_slot, map_slot, map_absent, bear_set, bears_found, empty_set, default_other, default_own}
use Rattle.ug_table.specs.declared.standing.Standing.{Standing}
use Rattle.ug_table.proofs.slots.mark_default.Goals as goal

pub returns-in_default-clause-items : goal.returns-in_default-clause-items
returns-in_default-clause-items c =
    ap (λ (m : BTreeMap (List ℕ) (Option Standing)). filled m.entries) c.get_mut.follows.holds-at-none
    ∙ sym (map_absent (with_default c.args.name.now) c.args.name.now (filled c.args.slots.now.entries) (default_other c.args.name.now)
    (named_slot c.args.name.now c.args.slots.now.entries c.requires.ordered c.requires.bear ∙ sym (ap flat c.in_default.ensures.value)))

pub returns-in_default-slot-clause-items : goal.returns-in_default-slot-clause-items
returns-in_default-slot-clause-items c =
    let w = c.in-Some.slot.now in
    ap filled ((c.get_mut.follows.holds w).0 ∙ set_value_same (is_at (sweep_cmp c.args.name.now)) c.args.slots.now.entries w (sym c.in-Some.ensures.value))
    ∙ sym (map_absent (with_default c.args.name.now) c.args.name.now (filled c.args.slots.now.entries) (default_other c.args.name.now)
    (named_slot c.args.name.now c.args.slots.now.entries c.requires.ordered c.requires.bear ∙ sym (ap flat c.in-Some.ensures.value) ∙ c.in_default-slot.is))

pub returns-in_default-slot-clause-bear : goal.returns-in_default-slot-clause-bear
returns-in_default-slot-clause-bear c =
    let w = c.in-Some.slot.now in
    subst AllNamed (sym ((c.get_mut.follows.holds w).0 ∙ set_value_same (is_at (sweep_cmp c.args.name.now)) c.args.slots.now.entries w (sym c.in-Some.ensures.value))) c.requires.bear

pub returns-clause-items : goal.returns-clause-items
returns-clause-items c =
    let s = c.in-Some-slot.s in
    let es = c.args.slots.now.entries in
    let found = sym c.in-Some.ensures.value ∙ ap (λ (o : Option Standing). Some o) c.in-Some-slot.is in
    let own = default_own c.args.name.now s (bears_found c.args.name.now es (Some s) c.requires.bear found) in
    let made : Standing = record s { defaulted = true } in
    let same : made ≡ with_default c.args.name.now s = sym own in
    ap filled (c.get_mut.follows.holds (Some made)).0
    ∙ ap (λ (x : Standing). filled (set_value (is_at (sweep_cmp c.args.name.now)) es (Some x))) same
    ∙ map_slot (with_default c.args.name.now) c.args.name.now s es (default_other c.args.name.now) c.requires.ordered c.requires.bear found

pub returns-clause-bear : goal.returns-clause-bear
returns-clause-bear c =
    let s = c.in-Some-slot.s in
    let es = c.args.slots.now.entries in
    let found = sym c.in-Some.ensures.value ∙ ap (λ (o : Option Standing). Some o) c.in-Some-slot.is in
    let made : Standing = record s { defaulted = true } in
    subst AllNamed (sym (c.get_mut.follows.holds (Some made)).0) (bear_set c.args.name.now es (Some made) c.requires.bear (bears_found c.args.name.now es (Some s) c.requires.bear found))

pub returns-in_default-clause-empty : goal.returns-in_default-clause-empty
returns-in_default-clause-empty c = ap (λ (m : BTreeMap (List ℕ) (Option Standing)). empty_of m.entries) c.get_mut.follows.holds-at-none

pub returns-in_default-slot-clause-empty : goal.returns-in_default-slot-clause-empty
returns-in_default-slot-clause-empty c =
    let w = c.in-Some.slot.now in
    ap empty_of ((c.get_mut.follows.holds w).0 ∙ set_value_same (is_at (sweep_cmp c.args.name.now)) c.args.slots.now.entries w (sym c.in-Some.ensures.value))

pub returns-clause-empty : goal.returns-clause-empty
returns-clause-empty c =
    let s = c.in-Some-slot.s in
    let es = c.args.slots.now.entries in
    let found = sym c.in-Some.ensures.value ∙ ap (λ (o : Option Standing). Some o) c.in-Some-slot.is in
    let made : Standing = record s { defaulted = true } in
    ap empty_of (c.get_mut.follows.holds (Some made)).0 ∙ empty_set c.args.name.now s made es found
