use Rattle.std.proofs.Common.{◌≡◌, ◌+◌, ◌++◌, length, vec_len, vec_capacity}
use Rattle.ug_table.specs.Slots.{filled}
use Rattle.ug_table.specs.Sweep.{names_of}
use Rattle.ug_table.proofs.sweep.names_into.Given as goal

abbrev pub invariant-loop-name : goal.invariant-loop-name
invariant-loop-name l = record {
  names : l.names.items ++ names_of (filled l._name-iterator) ≡ names_of (filled l.slots.entries);
  len : vec_len l.names + length (filled l._name-iterator) ≡ length (filled l.slots.entries);
  capacity : vec_capacity l.names ≡ vec_capacity l.fn.names;
}
