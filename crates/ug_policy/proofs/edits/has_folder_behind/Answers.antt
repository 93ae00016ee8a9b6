use Rattle.std.proofs.Common.{◌≡◌, ◌+◌, ◌-◌, List, length, length-drop, take, drop, ap, ◌∙◌, sym, arith}
use Rattle.std.proofs.lemmas.List.{take_all}
use Rattle.ug_policy.specs.Marks.{has_folder}
use Rattle.ug_policy.specs.Rules.{marks}
use Rattle.ug_policy.specs.declared.entry.RuleEntry.{RuleEntry}
use Rattle.ug_policy.specs.Edits.{has_id}
use Rattle.ug_policy.proofs.Order.{any_folder, behind_place}
use Rattle.ug_policy.proofs.FirstPlaces.{first_any, first_some, none_any, none_passes}
use Rattle.ug_policy.proofs.edits.has_folder_behind.Goals as goal

pub returns-in-Some-clause-behind : goal.returns-in-Some-clause-behind
returns-in-Some-clause-behind c =
    let first = first_some (has_id c.args.id) c.args.entries.now c.in-Some.place (sym c.place_of.ensures ∙ c.in-Some.is) in
    let es = c.args.entries.now in
    let rest : take (length es - (c.in-Some.place + 1)) (drop (c.in-Some.place + 1) es) ≡ drop (c.in-Some.place + 1) es = take_all (length es - (c.in-Some.place + 1)) (drop (c.in-Some.place + 1) es) (omega (arith, length-drop (c.in-Some.place + 1) es)) in
    c.has_folder.ensures ∙ any_folder (take (length es - (c.in-Some.place + 1)) (drop (c.in-Some.place + 1) es)) ∙ ap (λ (v : List RuleEntry). has_folder (marks v)) rest ∙ behind_place c.args.id es c.in-Some.place first.0 first.1

pub returns-in-Some-clause-there : goal.returns-in-Some-clause-there
returns-in-Some-clause-there c = λ some.
    let first = first_some (has_id c.args.id) c.args.entries.now c.in-Some.place (sym c.place_of.ensures ∙ c.in-Some.is) in
    first_any (has_id c.args.id) c.args.entries.now c.in-Some.place first.0 first.1

pub returns-in-None-clause-none : goal.returns-in-None-clause-none
returns-in-None-clause-none c = λ none. none_any (has_id c.args.id) c.args.entries.now (none_passes (has_id c.args.id) c.args.entries.now (sym c.place_of.ensures ∙ c.in-None.is))
