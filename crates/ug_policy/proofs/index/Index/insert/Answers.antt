use Rattle.std.proofs.Common.{◌≡◌, List, length, get_or, insert, map, arith, ap, ◌∙◌}
use Rattle.ug_policy.specs.declared.reach.Reach.{Reach}
use Rattle.ug_policy.specs.Candidates.{Indexed}
use Rattle.ug_policy.specs.Places.{reaches_to}
use Rattle.ug_policy.specs.Reaches.{reach_of}
use Rattle.ug_policy.proofs.Kept.{has_room, index_put}
use Rattle.ug_policy.proofs.Standing.{insert_map}
use Rattle.ug_policy.proofs.index.Index.insert.Goals as goal

pub put_in_each-requires : goal.put_in_each-requires
put_in_each-requires c =
    let seen : c.self.inside.reaches.items ≡ c.args.self.now.reaches = ap (λ (v : Indexed). v.reaches) c.self.view_is in
    let spare : c.self.inside.spare ≡ c.args.self.now.spare = ap (λ (v : Indexed). v.spare) c.self.view_is in
    λ r d lt. has_room (reaches_to r) (get_or c.self.inside.lists r d) c.self.inside.reaches.items c.self.inside.spare (c.self.invariant.kept r d lt) (omega (arith, c.requires.few, ap (λ (v : List Reach). length v) seen)) (omega (arith, c.requires.spare, spare))

pub invariant_of-self : goal.invariant_of-self
invariant_of-self c =
    let seen : c.self.inside.reaches.items ≡ c.args.self.now.reaches = ap (λ (v : Indexed). v.reaches) c.self.view_is in
    let spare : c.self.inside.spare ≡ c.args.self.now.spare = ap (λ (v : Indexed). v.spare) c.self.view_is in
    let long = ap (λ (v : List Reach). length v) seen in
    let e = c.put_reach.ensures in
    index_put c.self.inside.lists c.put_in_each.new.lists c.self.inside.reaches c.put_reach.new.reaches c.self.inside.spare c.args.at c.reach_of-reach.result c.self.invariant c.put_in_each.ensures.each c.put_in_each.ensures.len e.items e.len e.capacity (omega (arith, c.requires.place, long)) (omega (arith, c.requires.few, long)) (omega (arith, c.requires.spare, spare))

pub returns-clause-stands : goal.returns-clause-stands
returns-clause-stands c = λ queries s.
    let seen : c.self.inside.reaches.items ≡ c.args.self.now.reaches = ap (λ (v : Indexed). v.reaches) c.self.view_is in
    c.put_reach.ensures.items
    ∙ ap (λ (v : List Reach). insert v c.args.at c.reach_of-reach.result) (seen ∙ s)
    ∙ ap (λ (x : Reach). insert (map reach_of queries) c.args.at x) c.reach_of-reach.ensures
    ∙ insert_map reach_of queries c.args.at c.args.query.now
