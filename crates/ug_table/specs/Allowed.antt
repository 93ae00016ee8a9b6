-- The devices that are allowed.
use Rattle.std.specs.Prelude.{Bool, true, false, List, [], ◌∷◌, ◌++◌}
use Rattle.std.specs.List.{list_any}
use Rattle.ug_types.specs.declared.rule.Query.{Query}
use Rattle.ug_match.specs.Queries.{query_matches}
use Rattle.ug_types.specs.declared.record.DeviceRecord.{DeviceRecord}
use Rattle.ug_types.specs.declared.record.Judged.{Judged}
use Rattle.ug_types.specs.declared.record.Judged.TheVariants as judged
use Rattle.ug_types.specs.declared.verdict.Target.{Target}
use Rattle.ug_types.specs.declared.verdict.Target.TheVariants as target
use Rattle.ug_table.specs.declared.standing.Standing.{Standing}

-- the record of a device that is settled with the verdict to allow it; a malformed one has none
abbrev pub allowed_of : Bool → Target → Judged → List DeviceRecord
allowed_of true target.Allow (judged.Good device) = device ∷ []
allowed_of true target.Allow (judged.Malformed kind place) = []
allowed_of true target.Block given = []
allowed_of true target.Reject given = []
allowed_of false verdict given = []

-- the records of those devices, in the order of the standings
abbrev pub allowed_records : List Standing → List DeviceRecord
allowed_records [] = []
allowed_records (s ∷ ss) = allowed_of s.settled s.verdict s.judged ++ allowed_records ss

-- whether the query matches the device of a standing, which is settled and allowed
abbrev pub matches_allowed : Query → Standing → Bool
matches_allowed query s =
    list_any (query_matches query) (allowed_of s.settled s.verdict s.judged)
