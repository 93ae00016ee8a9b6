use Rattle.std.proofs.Common.{refl}
use Rattle.std.proofs.KnownBytes.{Keeps-refl}
use Rattle.ug_client.specs.declared.asked.Asked.TheVariants as asked
use Rattle.ug_client.specs.declared.fetch.Fetched.TheVariants as fetched
use Rattle.ug_client.proofs.WatchCalls.{rose_after}
use Rattle.ug_client.proofs.ordering.order_matching.Goals as goal

pub returns-in-Replied-clause-orders : goal.returns-in-Replied-clause-orders
returns-in-Replied-clause-orders g c = record {
  came = fetched.Replied c.in-Replied.reply;
  between = (record { calls = g.L.Link.told c.fetch_reply.new.link; sent = g.L.Link.sent c.fetch_reply.new.link; left = g.L.Link.left c.fetch_reply.new.link; held = g.K.Sink.held c.args.out.now });
  fetches = c.in-Replied.ensures.fetches;
  unwritten = refl;
  told = c.order_listed.ensures.orders;
}

pub returns-in-Replied-clause-link : goal.returns-in-Replied-clause-link
returns-in-Replied-clause-link g c = λ e. rose_after (g.L.Link.faults c.args.link.now) (g.L.Link.faults c.fetch_reply.new.link) (g.L.Link.faults c.order_listed.new.link) c.fetch_reply.ensures.counted c.order_listed.ensures.links (c.order_listed.ensures.link e)

pub returns-in-NoReply-clause-orders : goal.returns-in-NoReply-clause-orders
returns-in-NoReply-clause-orders g c = record {
  came = fetched.NoReply;
  between = (record { calls = g.L.Link.told c.fetch_reply.new.link; sent = g.L.Link.sent c.fetch_reply.new.link; left = g.L.Link.left c.fetch_reply.new.link; held = g.K.Sink.held c.args.out.now });
  fetches = c.in-NoReply.ensures.fetches;
  unwritten = refl;
  told = (asked.NoReply, refl, (refl, Keeps-refl (g.K.Sink.held c.args.out.now)), refl);
}

pub returns-in-LinkFailed-clause-orders : goal.returns-in-LinkFailed-clause-orders
returns-in-LinkFailed-clause-orders g c = record {
  came = fetched.LinkFailed;
  between = (record { calls = g.L.Link.told c.fetch_reply.new.link; sent = g.L.Link.sent c.fetch_reply.new.link; left = g.L.Link.left c.fetch_reply.new.link; held = g.K.Sink.held c.args.out.now });
  fetches = c.in-LinkFailed.ensures.fetches;
  unwritten = refl;
  told = (asked.LinkFailed, refl, (refl, Keeps-refl (g.K.Sink.held c.args.out.now)), refl);
}

pub returns-in-Memory-clause-orders : goal.returns-in-Memory-clause-orders
returns-in-Memory-clause-orders g c = record {
  came = fetched.Memory;
  between = (record { calls = g.L.Link.told c.fetch_reply.new.link; sent = g.L.Link.sent c.fetch_reply.new.link; left = g.L.Link.left c.fetch_reply.new.link; held = g.K.Sink.held c.args.out.now });
  fetches = c.in-Memory.ensures.fetches;
  unwritten = refl;
  told = (asked.Memory, refl, (refl, Keeps-refl (g.K.Sink.held c.args.out.now)), refl);
}
