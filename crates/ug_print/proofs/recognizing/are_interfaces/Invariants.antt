use Rattle.std.proofs.Common.{◌≡◌, drop}
use Rattle.std.specs.List.{list_all, zip}
use Rattle.ug_print.specs.Made.{is_interface}
use Rattle.ug_print.proofs.recognizing.are_interfaces.Given as goal

abbrev pub invariant-loop-place : goal.invariant-loop-place
invariant-loop-place l = list_all (λ pair. is_interface pair.0 pair.1) (zip (drop l.place l.items) (drop l.place l.triples)) ≡ list_all (λ pair. is_interface pair.0 pair.1) (zip l.items l.triples)
