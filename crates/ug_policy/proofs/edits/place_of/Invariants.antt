use Rattle.std.proofs.Common.{◌≡◌, ◌+◌, drop}
use Rattle.std.specs.List.{position_or_len}
use Rattle.ug_policy.specs.Edits.{has_id}
use Rattle.ug_policy.proofs.edits.place_of.Given as goal

abbrev pub invariant-loop-place : goal.invariant-loop-place
invariant-loop-place l = l.place + position_or_len (has_id l.id) (drop l.place l.entries) ≡ position_or_len (has_id l.id) l.entries
