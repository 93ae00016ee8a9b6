use Rattle.std.proofs.Common.{◌≤◌, List, length, sym, ◌∙◌, ap, subst, arith}
use Rattle.ug_types.specs.Elements.{AllDistinct}
use Rattle.ug_iface.specs.declared.name.IfaceName.{IfaceName}
use Rattle.ug_iface.specs.Calls.{AllOf}
use Rattle.ug_sysfs.specs.Interfaces.{iface_names}
use Rattle.ug_sysfs.specs.Listing.{all_of, distinct_of, length_iface_names}
use Rattle.ug_sysfs.proofs.Apart.{apart_differ}
use Rattle.ug_sysfs.proofs.Lives.{if_ok}
use Rattle.ug_sysfs.proofs.interfaces.Interfaces.names.Goals as goal

pub returns-clause-few : goal.returns-clause-few
returns-clause-few c =
    let i = c.args.device in
    let name = c.args.name.now in
    let xs = c.self.inside.all.items in
    let few : length (iface_names i name xs) ≤ 1024 = omega (arith, length_iface_names i name xs, c.self.invariant.few i) in
    if_ok c.names_of.result _ _ (λ names e. subst (λ (ns : List IfaceName). length ns ≤ 1024) (sym (e ∙ ap (iface_names i name) c.as_slice.ensures.value)) few) c.names_of.ensures

pub returns-clause-named : goal.returns-clause-named
returns-clause-named c =
    if_ok c.names_of.result _ _ (λ names e. subst (AllOf c.args.name.now) (sym e) (all_of c.args.device c.args.name.now c.as_slice.result.now)) c.names_of.ensures

pub returns-clause-distinct : goal.returns-clause-distinct
returns-clause-distinct c =
    let i = c.args.device in
    let name = c.args.name.now in
    let xs = c.self.inside.all.items in
    if_ok c.names_of.result _ _ (λ names e. subst AllDistinct (sym (e ∙ ap (iface_names i name) c.as_slice.ensures.value)) (distinct_of i name xs (apart_differ i xs c.self.invariant.apart))) c.names_of.ensures
