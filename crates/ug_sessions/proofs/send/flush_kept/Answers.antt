use Rattle.std.proofs.Common.{List, subst, sym, arith}
use Rattle.std.proofs.lemmas.List.{with_items_is}
use Rattle.ug_links.specs.Talk.{Talks}
use Rattle.ug_sessions.specs.declared.session.Session.{Session}
use Rattle.ug_sessions.specs.Sending.{flushing_all}
use Rattle.ug_sessions.proofs.send.flush_kept.Goals as goal

pub returns : goal.returns
returns g c =
    let was = λ (l : List Session). Talks g.N.Links.gives c.args.links.now (flushing_all l c.args.turn.now) (c.flush_all.new.sessions, c.flush_all.new.turn) c.flush_all.new.links in
    let is = λ (l : List Session). Talks g.N.Links.gives c.args.links.now (flushing_all c.args.sessions.now.items c.args.turn.now) (l, c.flush_all.new.turn) c.flush_all.new.links in
    subst is (sym (with_items_is c.args.sessions.now c.flush_all.new.sessions (omega arith))) (subst was c.deref_mut.ensures.value c.flush_all.ensures)
