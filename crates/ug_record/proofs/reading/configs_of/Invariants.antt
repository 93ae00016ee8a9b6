use Rattle.std.proofs.Common.{length, ◌-◌, ◌≡◌, [], drop}
use Rattle.ug_record.specs.Reading.{configs_from}
use Rattle.ug_record.proofs.reading.configs_of.Given as goal

-- what is still to be read ends the whole reading
abbrev pub invariant-loop-at : goal.invariant-loop-at
invariant-loop-at l = configs_from l.configs.items l.at 0 (drop l.at l.bytes) ≡ configs_from [] 18 0 (drop 18 l.bytes)

abbrev pub decreases-loop-at : goal.decreases-loop-at
decreases-loop-at l = length l.bytes - l.at
