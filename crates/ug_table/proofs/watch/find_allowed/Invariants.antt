use Rattle.std.proofs.Common.{◌≡◌}
use Rattle.std.specs.List.{list_any}
use Rattle.ug_table.specs.Allowed.{matches_allowed}
use Rattle.ug_table.specs.Slots.{filled}
use Rattle.ug_table.proofs.watch.find_allowed.Given as goal

-- what is left has the answer
abbrev pub invariant-loop-name : goal.invariant-loop-name
invariant-loop-name l =
    list_any (matches_allowed l.query) (filled l._name-iterator)
    ≡ list_any (matches_allowed l.query) (filled l.slots.entries)
