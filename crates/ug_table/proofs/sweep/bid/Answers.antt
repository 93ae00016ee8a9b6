-- One standing more.
use Rattle.std.proofs.Common.{◌≡◌, ℕ, ◌∙◌, ◌++◌, ◌∷◌, [], List, Option, length, ap, sym, cond, refl, arith, append_assoc, Bool, true, false}
use Rattle.ug_audit.specs.declared.entry.Entry.{Entry}
use Rattle.ug_audit.specs.declared.entry.Entry.TheVariants as entry
use Rattle.ug_audit.specs.Journal.{noted_in}
use Rattle.ug_audit.proofs.Noting.{goes_on}
use Rattle.ug_table.specs.Standings.{farewells, lists}
use Rattle.ug_table.specs.Slots.{Slot, filled, before}
use Rattle.ug_table.specs.declared.standing.Standing.{Standing}
use Rattle.ug_table.proofs.sweep.bid.Goals as goal

one_first : (names : List (List ℕ)) (s : Standing) (ss : List Standing) → farewells names (s ∷ []) ++ farewells names ss ≡ farewells names (s ∷ ss)
one_first names s ss = by (lists names s.name)
  where
    by : (b : Bool) → cond b [] (entry.Gone s.number s.name ∷ []) ++ farewells names ss ≡ cond b (farewells names ss) (entry.Gone s.number s.name ∷ farewells names ss)
    by true = refl
    by false = refl

pub loop-name-preserved-in-Some-slot : goal.loop-name-preserved-in-Some-slot
loop-name-preserved-in-Some-slot g c =
    let s = c.in-Some-slot.s in
    let names = c.args.names.now in
    let rest : List Slot = c.next.new.self in
    let step : filled c.loop-name._name-iterator ≡ s ∷ filled rest = ap filled c.in-Some.ensures.steps ∙ ap (λ (o : Option Standing). before o (filled rest)) c.in-Some-slot.is in
    let long = ap length step in
    let invariant = c.loop-name.invariant in
    let left = invariant.left in
    let spare = invariant.spare in
    let one = c.bid_one.ensures.journal in
    record {
      entries = ap (λ (es : List Entry). es ++ farewells names (filled rest)) c.bid_one.ensures.entries
          ∙ append_assoc (noted_in c.loop-name.out).entries (farewells names (s ∷ [])) (farewells names (filled rest))
          ∙ ap (λ (es : List Entry). (noted_in c.loop-name.out).entries ++ es) (one_first names s (filled rest) ∙ ap (farewells names) (sym step))
          ∙ invariant.entries;
      left = omega (arith, long, left, one.2);
      same = goes_on _ _ _ _ invariant.same one.0;
      room = one.1 ∙ invariant.room;
      spare = omega (arith, long, spare, one.2);
    }
