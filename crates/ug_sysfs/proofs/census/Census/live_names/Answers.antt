use Rattle.std.proofs.Common.{ℕ, List, sym, ◌∙◌, ap, subst}
use Rattle.ug_types.specs.Elements.{AllDistinct}
use Rattle.ug_sysfs.specs.Devices.{IsDistinct}
use Rattle.ug_sysfs.specs.Find.{distinct_names}
use Rattle.ug_sysfs.specs.Listed.{Listed}
use Rattle.ug_sysfs.specs.World.{live_names}
use Rattle.ug_sysfs.specs.Living.{live_places, names_at_places}
use Rattle.ug_sysfs.proofs.Lives.{names_of_live, if_ok}
use Rattle.ug_sysfs.proofs.census.Census.live_names.Goals as goal

pub returns-clause-names : goal.returns-clause-names
returns-clause-names c =
    let v = c.self.invariant in
    if_ok c.names_at.result _ _ (λ names e. e ∙ ap (λ (is : List ℕ). names_at_places is c.devices.result.now) (c.deref.ensures.value ∙ v.listed) ∙ ap (names_at_places (live_places 0 v.was)) c.devices.ensures.devices ∙ names_of_live v.was c.self.inside.roster.devices v.wanes ∙ ap (λ (x : Listed). live_names x.devices) c.self.view_is) c.names_at.ensures

pub returns-clause-distinct : goal.returns-clause-distinct
returns-clause-distinct c =
    let apart : IsDistinct c.args.self.now.devices = subst (λ (x : Listed). IsDistinct x.devices) c.self.view_is c.devices.ensures.distinct in
    if_ok c.names_at.result _ _ (λ names e. subst AllDistinct (sym e) (distinct_names c.args.self.now.devices apart)) (returns-clause-names c)
