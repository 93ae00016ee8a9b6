use Rattle.std.proofs.Common.{add-one, ◌∙◌, sym}
use Rattle.ug_policy.specs.Edits.{has_id}
use Rattle.ug_policy.proofs.FirstPlaces.{first_some, none_passes}
use Rattle.ug_policy.proofs.Changes.{followed_first, lacks}
use Rattle.ug_policy.proofs.edits.place_behind.Goals as goal

pub returns-clause-place : goal.returns-clause-place
returns-clause-place c = λ added.
    let id = c.args.id in
    let es = c.args.entries.now in
    let place = c.in-Some.place in
    let first = first_some (has_id id) es place (sym c.place_of.ensures ∙ c.in-Some.is) in
    rw add-one (followed_first id added es place first.0 c.requires.distinct first.1)

pub unreachable-requires : goal.unreachable-requires
unreachable-requires c = lacks c.args.id c.args.entries.now (none_passes (has_id c.args.id) c.args.entries.now (sym c.place_of.ensures ∙ c.in-None.is)) c.requires.there
