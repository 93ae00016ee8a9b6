use Rattle.std.proofs.Common.{List, ℕ, take}
use Rattle.ug_types.proofs.Parents.{named_before_dot, IsBusText, bus_before_dash, found_dot, found_dash, found_none}
use Rattle.ug_types.proofs.name.NodeName.parent.Goals as goal

pub holding-requires-clause-named : goal.holding-requires-clause-named
holding-requires-clause-named c = named_before_dot (take c.self.inside.len c.self.inside.bytes) c.self.invariant.1 (take c.in-Some.dot (take c.self.inside.len c.self.inside.bytes)) c.in-Some.ensures.front

pub returns-in-Some : goal.returns-in-Some
returns-in-Some c = found_dot (take c.self.inside.len c.self.inside.bytes) c.args.self.now (take c.in-Some.dot (take c.self.inside.len c.self.inside.bytes)) c.holding.result c.self.view_is c.in-Some.ensures.front c.holding.ensures

pub root_hub-requires-clause-named : goal.root_hub-requires-clause-named
root_hub-requires-clause-named c =
    let text : List ℕ = take c.self.inside.len c.self.inside.bytes in
    let bus : IsBusText (take c.in-Some-first_dash.dash text) = bus_before_dash text c.self.invariant.1 (take c.in-Some-first_dash.dash text) c.in_default.ensures.front c.in-Some-first_dash.ensures.front in
    bus.named

pub root_hub-requires-clause-short : goal.root_hub-requires-clause-short
root_hub-requires-clause-short c =
    let text : List ℕ = take c.self.inside.len c.self.inside.bytes in
    let bus : IsBusText (take c.in-Some-first_dash.dash text) = bus_before_dash text c.self.invariant.1 (take c.in-Some-first_dash.dash text) c.in_default.ensures.front c.in-Some-first_dash.ensures.front in
    bus.short

pub returns-in-Some-first_dash : goal.returns-in-Some-first_dash
returns-in-Some-first_dash c = found_dash (take c.self.inside.len c.self.inside.bytes) c.args.self.now (take c.in-Some-first_dash.dash (take c.self.inside.len c.self.inside.bytes)) c.root_hub.result c.self.view_is c.in_default.ensures.front c.in-Some-first_dash.ensures.front c.root_hub.ensures

pub returns-in-None : goal.returns-in-None
returns-in-None c = found_none (take c.self.inside.len c.self.inside.bytes) c.args.self.now c.self.view_is c.in_default.ensures.front c.in-None.ensures.front
