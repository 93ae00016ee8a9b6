use Rattle.std.proofs.Common.{None}
use Rattle.ug_client.specs.Asking.{request_line}
use Rattle.ug_client.proofs.Ending.{unsent_failed, unsent_memory}
use Rattle.ug_client.proofs.Fetched.{fetch_failed, fetch_short, fetches_failed, fetches_none, fetches_replied, fetches_short}
use Rattle.ug_client.proofs.fetch.fetch_reply.Goals as goal

pub returns-in-Failed-clause-fetches : goal.returns-in-Failed-clause-fetches
returns-in-Failed-clause-fetches g c = fetch_failed c.args.path.now (request_line c.args.request.now) (g.L.Link.told c.args.link.now) (g.L.Link.told c.send_request.new.link) (g.L.Link.sent c.args.link.now) (g.L.Link.sent c.send_request.new.link) (g.L.Link.left c.args.link.now) (g.L.Link.left c.send_request.new.link) None
    (unsent_failed c.args.path.now (request_line c.args.request.now) (g.L.Link.told c.args.link.now) (g.L.Link.told c.send_request.new.link) (g.L.Link.sent c.args.link.now) (g.L.Link.sent c.send_request.new.link) (g.L.Link.left c.args.link.now) (g.L.Link.left c.send_request.new.link) None c.in-Failed.ensures.made c.in-Failed.ensures.sent c.send_request.ensures.left)

pub returns-in-Memory-clause-fetches : goal.returns-in-Memory-clause-fetches
returns-in-Memory-clause-fetches g c = fetch_short c.args.path.now (request_line c.args.request.now) (g.L.Link.told c.args.link.now) (g.L.Link.told c.send_request.new.link) (g.L.Link.sent c.args.link.now) (g.L.Link.sent c.send_request.new.link) (g.L.Link.left c.args.link.now) (g.L.Link.left c.send_request.new.link) None
    (unsent_memory c.args.path.now (request_line c.args.request.now) (g.L.Link.told c.args.link.now) (g.L.Link.told c.send_request.new.link) (g.L.Link.sent c.args.link.now) (g.L.Link.sent c.send_request.new.link) (g.L.Link.left c.args.link.now) (g.L.Link.left c.send_request.new.link) None c.in-Memory.ensures.made c.in-Memory.ensures.sent c.send_request.ensures.left)

pub returns-in-Replied-clause-fetches : goal.returns-in-Replied-clause-fetches
returns-in-Replied-clause-fetches g c = fetches_replied c.args.path.now (request_line c.args.request.now) (g.L.Link.told c.args.link.now) (g.L.Link.told c.send_request.new.link) (g.L.Link.told c.await_reply.new.link) c.in-Done.ensures.made (g.L.Link.sent c.args.link.now) (g.L.Link.sent c.send_request.new.link) (g.L.Link.sent c.await_reply.new.link) (g.L.Link.left c.args.link.now) (g.L.Link.left c.send_request.new.link) (g.L.Link.left c.await_reply.new.link)
    c.in-Done.ensures.sent c.await_reply.ensures.sent c.send_request.ensures.left c.await_reply.new.kept.items c.in-Replied.reply c.in-Replied._place c.in-Replied.ensures.awaits

pub returns-in-NoReply-clause-fetches : goal.returns-in-NoReply-clause-fetches
returns-in-NoReply-clause-fetches g c = fetches_none c.args.path.now (request_line c.args.request.now) (g.L.Link.told c.args.link.now) (g.L.Link.told c.send_request.new.link) (g.L.Link.told c.await_reply.new.link) c.in-Done.ensures.made (g.L.Link.sent c.args.link.now) (g.L.Link.sent c.send_request.new.link) (g.L.Link.sent c.await_reply.new.link) (g.L.Link.left c.args.link.now) (g.L.Link.left c.send_request.new.link) (g.L.Link.left c.await_reply.new.link)
    c.in-Done.ensures.sent c.await_reply.ensures.sent c.send_request.ensures.left c.await_reply.new.kept.items c.in-NoReply.ensures.awaits

pub returns-in-LinkFailed-clause-fetches : goal.returns-in-LinkFailed-clause-fetches
returns-in-LinkFailed-clause-fetches g c = fetches_failed c.args.path.now (request_line c.args.request.now) (g.L.Link.told c.args.link.now) (g.L.Link.told c.send_request.new.link) (g.L.Link.told c.await_reply.new.link) c.in-Done.ensures.made (g.L.Link.sent c.args.link.now) (g.L.Link.sent c.send_request.new.link) (g.L.Link.sent c.await_reply.new.link) (g.L.Link.left c.args.link.now) (g.L.Link.left c.send_request.new.link) (g.L.Link.left c.await_reply.new.link)
    c.in-Done.ensures.sent c.await_reply.ensures.sent c.send_request.ensures.left c.await_reply.new.kept.items c.await_reply.result c.await_reply.ensures.awaits

pub returns-clause-fetches : goal.returns-clause-fetches
returns-clause-fetches g c = fetches_short c.args.path.now (request_line c.args.request.now) (g.L.Link.told c.args.link.now) (g.L.Link.told c.send_request.new.link) (g.L.Link.told c.await_reply.new.link) c.in-Done.ensures.made (g.L.Link.sent c.args.link.now) (g.L.Link.sent c.send_request.new.link) (g.L.Link.sent c.await_reply.new.link) (g.L.Link.left c.args.link.now) (g.L.Link.left c.send_request.new.link) (g.L.Link.left c.await_reply.new.link)
    c.in-Done.ensures.sent c.await_reply.ensures.sent c.send_request.ensures.left c.await_reply.new.kept.items c.await_reply.result c.await_reply.ensures.awaits
