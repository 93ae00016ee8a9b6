use Rattle.std.proofs.Common.{refl}
use Rattle.std.proofs.KnownBytes.{Keeps-refl}
use Rattle.ug_client.specs.declared.fetch.Fetched.TheVariants as fetched
use Rattle.ug_client.proofs.WatchCalls.{rose_after}
use Rattle.ug_client.proofs.following.ask_twice.Goals as goal

pub returns-in-Replied-clause-asks : goal.returns-in-Replied-clause-asks
returns-in-Replied-clause-asks g c = record {
  came = fetched.Replied c.in-Replied.reply;
  between = (record { calls = g.L.Link.told c.fetch_reply.new.link; sent = g.L.Link.sent c.fetch_reply.new.link; left = g.L.Link.left c.fetch_reply.new.link; held = g.K.Sink.held c.args.out.now });
  fetches = c.in-Replied.ensures.fetches;
  unwritten = refl;
  told = c.ask_behind.ensures.asks;
}

pub returns-in-Replied-clause-link : goal.returns-in-Replied-clause-link
returns-in-Replied-clause-link g c = λ e. rose_after (g.L.Link.faults c.args.link.now) (g.L.Link.faults c.fetch_reply.new.link) (g.L.Link.faults c.ask_behind.new.link) c.fetch_reply.ensures.counted c.ask_behind.ensures.links (c.ask_behind.ensures.link e)

pub returns-in-NoReply-clause-asks : goal.returns-in-NoReply-clause-asks
returns-in-NoReply-clause-asks g c = record {
  came = fetched.NoReply;
  between = (record { calls = g.L.Link.told c.fetch_reply.new.link; sent = g.L.Link.sent c.fetch_reply.new.link; left = g.L.Link.left c.fetch_reply.new.link; held = g.K.Sink.held c.args.out.now });
  fetches = c.in-NoReply.ensures.fetches;
  unwritten = refl;
  told = ((refl, Keeps-refl (g.K.Sink.held c.args.out.now)), refl);
}

pub returns-in-LinkFailed-clause-asks : goal.returns-in-LinkFailed-clause-asks
returns-in-LinkFailed-clause-asks g c = record {
  came = fetched.LinkFailed;
  between = (record { calls = g.L.Link.told c.fetch_reply.new.link; sent = g.L.Link.sent c.fetch_reply.new.link; left = g.L.Link.left c.fetch_reply.new.link; held = g.K.Sink.held c.args.out.now });
  fetches = c.in-LinkFailed.ensures.fetches;
  unwritten = refl;
  told = ((refl, Keeps-refl (g.K.Sink.held c.args.out.now)), refl);
}

pub returns-in-Memory-clause-asks : goal.returns-in-Memory-clause-asks
returns-in-Memory-clause-asks g c = record {
  came = fetched.Memory;
  between = (record { calls = g.L.Link.told c.fetch_reply.new.link; sent = g.L.Link.sent c.fetch_reply.new.link; left = g.L.Link.left c.fetch_reply.new.link; held = g.K.Sink.held c.args.out.now });
  fetches = c.in-Memory.ensures.fetches;
  unwritten = refl;
  told = ((refl, Keeps-refl (g.K.Sink.held c.args.out.now)), refl);
}
