use Rattle.std.proofs.Common.{◌∙◌, sym}
use Rattle.ug_policy.specs.Edits.{has_id}
use Rattle.ug_policy.proofs.FirstPlaces.{first_at, first_some, none_passes}
use Rattle.ug_policy.proofs.Changes.{retargeted_first, retargeted_none, has_first, lacks}
use Rattle.ug_policy.proofs.edits.set_rule_target.Goals as goal

pub returns-in-Some-clause-entries : goal.returns-in-Some-clause-entries
returns-in-Some-clause-entries c =
    let id = c.args.id in
    let es = c.args.entries.now in
    sym (retargeted_first id c.args.target es c.in-Some.place _ c.requires (first_at (has_id id) es c.in-Some.place c.index-entries-place.result (sym c.place_of.ensures ∙ c.in-Some.is)))

pub returns-in-Some-clause-ok : goal.returns-in-Some-clause-ok
returns-in-Some-clause-ok c =
    let id = c.args.id in
    let es = c.args.entries.now in
    let first = first_some (has_id id) es c.in-Some.place (sym c.place_of.ensures ∙ c.in-Some.is) in
    has_first id es c.in-Some.place first.0 first.1

pub returns-in-None-clause-entries : goal.returns-in-None-clause-entries
returns-in-None-clause-entries c =
    let es = c.args.entries.now in
    sym (retargeted_none c.args.id c.args.target es (none_passes (has_id c.args.id) es (sym c.place_of.ensures ∙ c.in-None.is)))

pub returns-in-None-clause-err : goal.returns-in-None-clause-err
returns-in-None-clause-err c =
    let es = c.args.entries.now in
    lacks c.args.id es (none_passes (has_id c.args.id) es (sym c.place_of.ensures ∙ c.in-None.is))
