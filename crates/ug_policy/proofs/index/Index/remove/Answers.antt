use Rattle.std.proofs.Common.{◌≡◌, ◌<◌, List, length, get_or, remove, arith, ap, ◌∙◌}
use Rattle.ug_policy.specs.declared.reach.Reach.{Reach}
use Rattle.ug_policy.specs.Candidates.{Indexed}
use Rattle.ug_policy.specs.Places.{reaches_to}
use Rattle.ug_policy.specs.Reaches.{reach_of}
use Rattle.ug_policy.proofs.Kept.{index_taken, kept_there}
use Rattle.ug_policy.proofs.Standing.{remove_map}
use Rattle.ug_policy.proofs.index.Index.remove.Goals as goal

pub take_out_each-requires-clause-there : goal.take_out_each-requires-clause-there
take_out_each-requires-clause-there c =
    let seen : c.self.inside.reaches.items ≡ c.args.self.now.reaches = ap (λ (v : Indexed). v.reaches) c.self.view_is in
    let within : c.args.at < length c.self.inside.reaches.items = omega (arith, c.requires.place, ap (λ (v : List Reach). length v) seen) in
    λ r d lt passes. kept_there (reaches_to r) (get_or c.self.inside.lists r d) c.self.inside.reaches.items c.self.inside.spare c.args.at c.remove-reach.result (c.self.invariant.kept r d lt) within c.remove-reach.ensures.value passes

pub invariant_of-self : goal.invariant_of-self
invariant_of-self c =
    let seen : c.self.inside.reaches.items ≡ c.args.self.now.reaches = ap (λ (v : Indexed). v.reaches) c.self.view_is in
    let within : c.args.at < length c.self.inside.reaches.items = omega (arith, c.requires.place, ap (λ (v : List Reach). length v) seen) in
    let e = c.remove-reach.ensures in
    index_taken c.self.inside.lists c.take_out_each.new.lists c.self.inside.reaches c.remove-reach.new.self c.self.inside.spare c.args.at c.remove-reach.result c.self.invariant c.take_out_each.ensures.each c.take_out_each.ensures.len e.value e.items e.len e.capacity within

pub returns-clause-stands : goal.returns-clause-stands
returns-clause-stands c = λ queries s.
    let seen : c.self.inside.reaches.items ≡ c.args.self.now.reaches = ap (λ (v : Indexed). v.reaches) c.self.view_is in
    c.remove-reach.ensures.items
    ∙ ap (λ (v : List Reach). remove v c.args.at) (seen ∙ s)
    ∙ remove_map reach_of queries c.args.at
