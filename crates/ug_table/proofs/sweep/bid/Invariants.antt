use Rattle.std.proofs.Common.{◌≡◌, ◌+◌, ◌≤◌, ◌++◌, length}
use Rattle.ug_audit.specs.Journal.{SameEntries, noted_in}
use Rattle.ug_table.specs.Slots.{filled}
use Rattle.ug_table.specs.Standings.{farewells}
use Rattle.ug_table.proofs.sweep.bid.Given as goal

abbrev pub invariant-loop-name : goal.invariant-loop-name
invariant-loop-name g l = record {
  entries : (noted_in l.out).entries ++ farewells l.names (filled l._name-iterator) ≡ (noted_in l.fn.out).entries ++ farewells l.names (filled l.slots.entries);
  left : length (filled l._name-iterator) ≤ (noted_in l.out).spare;
  same : SameEntries (λ b. goal.Auditor-dyn g (b.vtable, b.value)) l.fn.out l.out;
  room : (noted_in l.out).room ≡ (noted_in l.fn.out).room;
  spare : (noted_in l.fn.out).spare + length (filled l._name-iterator) ≤ (noted_in l.out).spare + length (filled l.slots.entries);
}
