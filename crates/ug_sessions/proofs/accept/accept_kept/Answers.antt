use Rattle.std.proofs.Common.{List, subst, sym, arith}
use Rattle.std.proofs.lemmas.List.{with_items_is}
use Rattle.ug_links.specs.Talk.{Talks}
use Rattle.ug_sessions.specs.declared.session.Listener.{Listener}
use Rattle.ug_sessions.specs.Accepting.{accepting_all}
use Rattle.ug_sessions.proofs.accept.accept_kept.Goals as goal

pub returns : goal.returns
returns g c =
    let was = λ (l : List Listener). Talks g.N.Links.gives c.args.links.now (accepting_all c.args.ready.now l (c.args.sessions.now.items, c.args.turn.now)) (c.accept_all.new.listeners, (c.accept_all.new.sessions.items, c.accept_all.new.turn)) c.accept_all.new.links in
    let is = λ (l : List Listener). Talks g.N.Links.gives c.args.links.now (accepting_all c.args.ready.now c.args.listeners.now.items (c.args.sessions.now.items, c.args.turn.now)) (l, (c.accept_all.new.sessions.items, c.accept_all.new.turn)) c.accept_all.new.links in
    subst is (sym (with_items_is c.args.listeners.now c.accept_all.new.listeners (omega arith))) (subst was c.deref_mut.ensures.value c.accept_all.ensures)
