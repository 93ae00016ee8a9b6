use Rattle.std.proofs.Common.{refl, subst}
use Rattle.std.proofs.KnownBytes.{Keeps-refl}
use Rattle.ug_client.specs.Asking.{request_line, Writes}
use Rattle.ug_client.specs.declared.asked.Asked.{Asked}
use Rattle.ug_client.proofs.Ending.{asks_replied, asks_failed, asks_memory, asks_none, unsent_failed, unsent_memory}
use Rattle.ug_client.proofs.WatchCalls.{rose_after}
use Rattle.ug_client.proofs.call.ask.Goals as goal

pub returns-in-Replied-clause-asks : goal.returns-in-Replied-clause-asks
returns-in-Replied-clause-asks g c = asks_replied c.args.path.now (request_line c.args.request.now) (g.L.Link.told c.args.link.now) (g.L.Link.told c.send_request.new.link) (g.L.Link.told c.await_reply.new.link) c.in-Done.ensures.made (g.L.Link.sent c.args.link.now) (g.L.Link.sent c.send_request.new.link) (g.L.Link.sent c.await_reply.new.link) (g.L.Link.left c.args.link.now) (g.L.Link.left c.send_request.new.link) (g.L.Link.left c.await_reply.new.link)
    c.in-Done.ensures.sent c.await_reply.ensures.sent c.send_request.ensures.left (g.K.Sink.held c.args.out.now) (g.K.Sink.held c.write_answer.new.out) c.await_reply.new.kept.items c.in-Replied.reply c.in-Replied._place c.write_answer.result c.in-Replied.ensures.awaits c.write_answer.ensures.written

pub returns-in-LinkFailed-clause-asks : goal.returns-in-LinkFailed-clause-asks
returns-in-LinkFailed-clause-asks g c = asks_failed c.args.path.now (request_line c.args.request.now) (g.L.Link.told c.args.link.now) (g.L.Link.told c.send_request.new.link) (g.L.Link.told c.await_reply.new.link) c.in-Done.ensures.made (g.L.Link.sent c.args.link.now) (g.L.Link.sent c.send_request.new.link) (g.L.Link.sent c.await_reply.new.link) (g.L.Link.left c.args.link.now) (g.L.Link.left c.send_request.new.link) (g.L.Link.left c.await_reply.new.link)
    c.in-Done.ensures.sent c.await_reply.ensures.sent c.send_request.ensures.left (g.K.Sink.held c.args.out.now) (g.K.Sink.held c.args.out.now) c.await_reply.new.kept.items c.await_reply.result c.await_reply.ensures.awaits (Keeps-refl (g.K.Sink.held c.args.out.now))

pub returns-clause-asks : goal.returns-clause-asks
returns-clause-asks g c = asks_memory c.args.path.now (request_line c.args.request.now) (g.L.Link.told c.args.link.now) (g.L.Link.told c.send_request.new.link) (g.L.Link.told c.await_reply.new.link) c.in-Done.ensures.made (g.L.Link.sent c.args.link.now) (g.L.Link.sent c.send_request.new.link) (g.L.Link.sent c.await_reply.new.link) (g.L.Link.left c.args.link.now) (g.L.Link.left c.send_request.new.link) (g.L.Link.left c.await_reply.new.link)
    c.in-Done.ensures.sent c.await_reply.ensures.sent c.send_request.ensures.left (g.K.Sink.held c.args.out.now) (g.K.Sink.held c.args.out.now) c.await_reply.new.kept.items c.await_reply.result c.await_reply.ensures.awaits (Keeps-refl (g.K.Sink.held c.args.out.now))

pub returns-in-Failed-clause-asks : goal.returns-in-Failed-clause-asks
returns-in-Failed-clause-asks g c = unsent_failed c.args.path.now (request_line c.args.request.now) (g.L.Link.told c.args.link.now) (g.L.Link.told c.send_request.new.link) (g.L.Link.sent c.args.link.now) (g.L.Link.sent c.send_request.new.link) (g.L.Link.left c.args.link.now) (g.L.Link.left c.send_request.new.link) (g.K.Sink.held c.args.out.now) c.in-Failed.ensures.made c.in-Failed.ensures.sent c.send_request.ensures.left

pub returns-in-Memory-clause-asks : goal.returns-in-Memory-clause-asks
returns-in-Memory-clause-asks g c = unsent_memory c.args.path.now (request_line c.args.request.now) (g.L.Link.told c.args.link.now) (g.L.Link.told c.send_request.new.link) (g.L.Link.sent c.args.link.now) (g.L.Link.sent c.send_request.new.link) (g.L.Link.left c.args.link.now) (g.L.Link.left c.send_request.new.link) (g.K.Sink.held c.args.out.now) c.in-Memory.ensures.made c.in-Memory.ensures.sent c.send_request.ensures.left

pub returns-in-NoReply-clause-asks : goal.returns-in-NoReply-clause-asks
returns-in-NoReply-clause-asks g c = asks_none c.args.path.now (request_line c.args.request.now) (g.L.Link.told c.args.link.now) (g.L.Link.told c.send_request.new.link) (g.L.Link.told c.await_reply.new.link) c.in-Done.ensures.made (g.L.Link.sent c.args.link.now) (g.L.Link.sent c.send_request.new.link) (g.L.Link.sent c.await_reply.new.link) (g.L.Link.left c.args.link.now) (g.L.Link.left c.send_request.new.link) (g.L.Link.left c.await_reply.new.link)
    c.in-Done.ensures.sent c.await_reply.ensures.sent c.send_request.ensures.left (g.K.Sink.held c.args.out.now) (g.K.Sink.held c.args.out.now) c.await_reply.new.kept.items c.in-NoReply.ensures.awaits (Keeps-refl (g.K.Sink.held c.args.out.now))

pub returns-in-Replied-clause-link : goal.returns-in-Replied-clause-link
returns-in-Replied-clause-link g c = λ e. absurd (subst (λ (r : Asked). Writes (g.K.Sink.held c.args.out.now) (g.K.Sink.held c.write_answer.new.out) c.in-Replied.reply r) e c.write_answer.ensures.written)

pub returns-in-Replied-clause-sink : goal.returns-in-Replied-clause-sink
returns-in-Replied-clause-sink g c = c.write_answer.ensures.cause

pub returns-in-LinkFailed-clause-link : goal.returns-in-LinkFailed-clause-link
returns-in-LinkFailed-clause-link g c = λ e. rose_after (g.L.Link.faults c.args.link.now) (g.L.Link.faults c.send_request.new.link) (g.L.Link.faults c.await_reply.new.link) c.send_request.ensures.counted c.await_reply.ensures.counted (c.in-LinkFailed.ensures.cause refl)
