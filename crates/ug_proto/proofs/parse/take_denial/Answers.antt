use Rattle.std.proofs.Common.{List, ℕ, ◌++◌, ap, sym, ◌∙◌, append_assoc}
use Rattle.std.specs.Prelude.{codes}
use Rattle.std.proofs.lemmas.Result.{err_from_is_err_and}
use Rattle.ug_types.specs.declared.access.Section.TheVariants.{Devices}
use Rattle.ug_types.specs.declared.access.Privilege.TheVariants.{Modify}
use Rattle.ug_proto.specs.RefusalParts.{Anything, denied_pair, section_then, privilege_then}
use Rattle.ug_proto.proofs.RefusalScans.{front_stops, behind_stops, denied_section, denied_privilege}
use Rattle.ug_proto.proofs.parse.take_denial.Goals as goal

pub returns-in_err-rest-clause-err : goal.returns-in_err-rest-clause-err
returns-in_err-rest-clause-err c =
    let p = err_from_is_err_and c.from_residual.result c.from_residual.ensures.1 in
    rw (p.1, p.2) (front_stops (codes "denied ") denied_pair Anything c.args.text.now c.in_err-rest.field-0.0 (Devices, Modify) tt c.in_err-rest.ensures.err)

pub returns-in_err-section-clause-err : goal.returns-in_err-section-clause-err
returns-in_err-section-clause-err c =
    let p = err_from_is_err_and c.from_residual-in_err-section.result c.from_residual-in_err-section.ensures.1 in
    rw (p.1, p.2) (behind_stops (codes "denied ") denied_pair Anything c.args.text.now c.in_ok-rest.rest.now c.in_err-section.field-0.0 c.in_ok-rest.ensures.ok (denied_section c.in_ok-rest.rest.now c.in_err-section.field-0.0 c.in_err-section.ensures.err))

pub returns-in_err-privilege-clause-err : goal.returns-in_err-privilege-clause-err
returns-in_err-privilege-clause-err c =
    let p = err_from_is_err_and c.from_residual-in_err-privilege.result c.from_residual-in_err-privilege.ensures.1 in
    rw (p.1, p.2) (behind_stops (codes "denied ") denied_pair Anything c.args.text.now c.in_ok-rest.rest.now c.in_err-privilege.field-0.0 c.in_ok-rest.ensures.ok (denied_privilege c.in_ok-rest.rest.now c.in_ok-section.rest.now c.in_err-privilege.field-0.0 c.in_ok-section.section c.in_ok-section.ensures.ok.1 c.in_err-privilege.ensures.err))

pub returns-clause-ok : goal.returns-clause-ok
returns-clause-ok c =
    let section : List ℕ = section_then c.in_ok-section.section in
    let privilege : List ℕ = privilege_then c.in_ok-privilege.privilege in
    let rest = c.in_ok-privilege.rest.now in
    let pair = c.in_ok-section.ensures.ok.1 ∙ ap (λ (l : List ℕ). section ++ l) c.in_ok-privilege.ensures.ok.1 ∙ sym (append_assoc section privilege rest) in
    (tt, c.in_ok-rest.ensures.ok ∙ ap (λ (l : List ℕ). codes "denied " ++ l) pair ∙ sym (append_assoc (codes "denied ") (section ++ privilege) rest))
