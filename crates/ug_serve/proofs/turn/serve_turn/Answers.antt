use Rattle.std.proofs.Common.{[], true, false, inl, inr, refl, sym, ◌∙◌, take}
use Rattle.ug_links.proofs.Told.{path_made}
use Rattle.ug_serve.proofs.Ordering.{events_as}
use Rattle.ug_serve.proofs.turn.serve_turn.Goals as goal

pub returns-then-not-has_room-clause-turn : goal.returns-then-not-has_room-clause-turn
returns-then-not-has_room-clause-turn g c = inl (record { room = sym c.has_room.ensures ∙ c.if-not-has_room.true; same = refl })

pub returns-in-Failed-clause-turn : goal.returns-in-Failed-clause-turn
returns-in-Failed-clause-turn g c = record { room = sym c.has_room.ensures ∙ c.if-not-has_room.false; waited = c.in-Failed.ensures.gives; same = refl }

pub returns-then-not-serve_events-clause-turn : goal.returns-then-not-serve_events-clause-turn
returns-then-not-serve_events-clause-turn g c =
    let came = path_made g.N.Links.gives _ _ _ _ c.turn-came.ensures.talks in
    let events = c.serve_events.ensures in
    inr (
      record { tokens = take c.in-Got.count c.wait.new.into; moment = c.now-moment.result; comes = came.0; events = events.0; sends = []; whole = false },
      record {
        room = sym c.has_room.ensures ∙ c.if-not-has_room.false;
        waited = c.in-Got.ensures.gives;
        moment = c.now-moment.ensures;
        came = c.turn-came.new.self;
        counts = c.turn-came.result;
        came_links = c.turn-came.new.links;
        comes = came.1;
        comes_made = came.2;
        served = c.serve_events.new.server;
        events = events_as g.Y.Sysfs g.D.RuleDisk _ _ _ _ false _ c.if-not-serve_events.true events.1;
        sends = (refl, refl, refl);
      },
      refl,
    )

pub returns-clause-turn : goal.returns-clause-turn
returns-clause-turn g c =
    let came = path_made g.N.Links.gives _ _ _ _ c.turn-came.ensures.talks in
    let sent = path_made g.N.Links.gives _ _ _ _ c.flush-sent.ensures.talks in
    let events = c.serve_events.ensures in (
      record { tokens = take c.in-Got.count c.wait.new.into; moment = c.now-moment.result; comes = came.0; events = events.0; sends = sent.0; whole = true },
      record {
        room = sym c.has_room.ensures ∙ c.if-not-has_room.false;
        waited = c.in-Got.ensures.gives;
        moment = c.now-moment.ensures;
        came = c.turn-came.new.self;
        counts = c.turn-came.result;
        came_links = c.turn-came.new.links;
        comes = came.1;
        comes_made = came.2;
        served = c.serve_events.new.server;
        events = events_as g.Y.Sysfs g.D.RuleDisk _ _ _ _ true _ c.if-not-serve_events.false events.1;
        sends = (c.flush-sent.result, sent.1, sent.2);
      },
      refl,
    )
