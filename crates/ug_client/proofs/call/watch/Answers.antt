use Rattle.std.proofs.Common.{◌≡◌, ℕ, ◌≤◌, List, arith, drop, refl, subst}
use Rattle.std.proofs.KnownBytes.{Keeps-refl}
use Rattle.ug_types.proofs.Known.{to_end}
use Rattle.ug_proto.specs.declared.request.Request.TheVariants as request
use Rattle.ug_client.specs.Asking.{request_line, Writes}
use Rattle.ug_client.specs.Watching.{WatchesOn}
use Rattle.ug_client.specs.declared.asked.Asked.{Asked}
use Rattle.ug_client.specs.declared.asked.Asked.TheVariants as asked
use Rattle.ug_client.proofs.Ending.{asks_replied, asks_failed, asks_memory, asks_none, unsent_failed, unsent_memory}
use Rattle.ug_client.proofs.WatchCalls.{ends_before, ends_behind, rose_after}
use Rattle.ug_client.proofs.call.watch.Goals as goal

failed_undone : ¬ (asked.LinkFailed ≡ asked.Done)
failed_undone e = cc

none_undone : ¬ (asked.NoReply ≡ asked.Done)
none_undone e = cc

memory_undone : ¬ (asked.Memory ≡ asked.Done)
memory_undone e = cc

failed_no_sink : ¬ (asked.LinkFailed ≡ asked.WriteFault)
failed_no_sink e = cc

memory_no_link : ¬ (asked.Memory ≡ asked.LinkFailed)
memory_no_link e = cc

memory_no_sink : ¬ (asked.Memory ≡ asked.WriteFault)
memory_no_sink e = cc

none_no_link : ¬ (asked.NoReply ≡ asked.LinkFailed)
none_no_link e = cc

none_no_sink : ¬ (asked.NoReply ≡ asked.WriteFault)
none_no_sink e = cc

not_above : (a b c : ℕ) → a ≤ b → b ≤ c → a ≤ c
not_above a b c h k = omega arith

pub returns-in-Done-write_answer-clause-watches : goal.returns-in-Done-write_answer-clause-watches
returns-in-Done-write_answer-clause-watches g c =
    let path = c.args.path.now in
    let line = request_line request.Watch in
    let calls0 = g.L.Link.told c.args.link.now in
    let calls1 = g.L.Link.told c.send_request.new.link in
    let sent0 = g.L.Link.sent c.args.link.now in
    let sent1 = g.L.Link.sent c.send_request.new.link in
    let left0 = g.L.Link.left c.args.link.now in
    let left1 = g.L.Link.left c.send_request.new.link in
    let left2 = g.L.Link.left c.await_reply.new.link in
    let left = g.L.Link.left c.watch_behind.new.link in
    let held0 = g.K.Sink.held c.args.out.now in
    let held1 = g.K.Sink.held c.write_answer.new.out in
    let held = g.K.Sink.held c.watch_behind.new.out in
    let place = c.in-Replied.place in
    let on : WatchesOn (drop place c.deref.result.now) (g.L.Link.told c.await_reply.new.link) (g.L.Link.told c.watch_behind.new.link) left2 left c.args.most held1 held c.watch_behind.result = subst (λ (b : List ℕ). WatchesOn b (g.L.Link.told c.await_reply.new.link) (g.L.Link.told c.watch_behind.new.link) left2 left c.args.most held1 held c.watch_behind.result) (to_end place c.deref.result.now) c.watch_behind.ensures.watches in
    ends_behind path line c.args.most calls0 calls1 (g.L.Link.told c.await_reply.new.link) (g.L.Link.told c.watch_behind.new.link) c.in-Done.ensures.made sent0 sent1 (g.L.Link.sent c.await_reply.new.link) (g.L.Link.sent c.watch_behind.new.link) left0 left1 left2 left
    c.in-Done.ensures.sent c.await_reply.ensures.sent c.watch_behind.ensures.sent c.send_request.ensures.left
    held0 held1 held c.await_reply.new.kept.items c.in-Replied.reply place c.watch_behind.result c.in-Replied.ensures.awaits c.in-Done-write_answer.ensures.written
    (subst (λ (b : List ℕ). WatchesOn (drop place b) (g.L.Link.told c.await_reply.new.link) (g.L.Link.told c.watch_behind.new.link) left2 left c.args.most held1 held c.watch_behind.result) c.deref.ensures.value on)

pub returns-in-Done-write_answer-clause-sink : goal.returns-in-Done-write_answer-clause-sink
returns-in-Done-write_answer-clause-sink g c = λ e. rose_after (g.K.Sink.faults c.args.out.now) (g.K.Sink.faults c.write_answer.new.out) (g.K.Sink.faults c.watch_behind.new.out) c.write_answer.ensures.counted c.watch_behind.ensures.sinks (c.watch_behind.ensures.sink e)

pub returns-in-Replied : goal.returns-in-Replied
returns-in-Replied g c =
    let path = c.args.path.now in
    let line = request_line request.Watch in
    let calls0 = g.L.Link.told c.args.link.now in
    let calls1 = g.L.Link.told c.send_request.new.link in
    let sent0 = g.L.Link.sent c.args.link.now in
    let left0 = g.L.Link.left c.args.link.now in
    let sent = g.L.Link.sent c.await_reply.new.link in
    let left = g.L.Link.left c.await_reply.new.link in
    let held0 = g.K.Sink.held c.args.out.now in
    let held = g.K.Sink.held c.write_answer.new.out in
    record {
      watches = ends_before path line c.args.most calls0 (g.L.Link.told c.await_reply.new.link) sent0 sent left0 left held0 held c.write_answer.result c.in_default.not-Done
          (asks_replied path line calls0 calls1 (g.L.Link.told c.await_reply.new.link) c.in-Done.ensures.made sent0 (g.L.Link.sent c.send_request.new.link) sent left0 (g.L.Link.left c.send_request.new.link) left c.in-Done.ensures.sent c.await_reply.ensures.sent c.send_request.ensures.left
          held0 held c.await_reply.new.kept.items c.in-Replied.reply c.in-Replied.place c.write_answer.result c.in-Replied.ensures.awaits c.write_answer.ensures.written);
      link = λ e. absurd (subst (λ (r : Asked). Writes held0 held c.in-Replied.reply r) e c.write_answer.ensures.written);
      sink = c.write_answer.ensures.cause;
      counted = c.write_answer.ensures.counted;
    }

pub returns-in-NoReply-clause-watches : goal.returns-in-NoReply-clause-watches
returns-in-NoReply-clause-watches g c =
    let path = c.args.path.now in
    let line = request_line request.Watch in
    let calls0 = g.L.Link.told c.args.link.now in
    let calls1 = g.L.Link.told c.send_request.new.link in
    let sent0 = g.L.Link.sent c.args.link.now in
    let left0 = g.L.Link.left c.args.link.now in
    let sent = g.L.Link.sent c.await_reply.new.link in
    let left = g.L.Link.left c.await_reply.new.link in
    let held = g.K.Sink.held c.args.out.now in
    ends_before path line c.args.most calls0 (g.L.Link.told c.await_reply.new.link) sent0 sent left0 left held held asked.NoReply none_undone
    (asks_none path line calls0 calls1 (g.L.Link.told c.await_reply.new.link) c.in-Done.ensures.made sent0 (g.L.Link.sent c.send_request.new.link) sent left0 (g.L.Link.left c.send_request.new.link) left c.in-Done.ensures.sent c.await_reply.ensures.sent c.send_request.ensures.left
    held held c.await_reply.new.kept.items c.in-NoReply.ensures.awaits (Keeps-refl held))

pub returns-in-LinkFailed-clause-watches : goal.returns-in-LinkFailed-clause-watches
returns-in-LinkFailed-clause-watches g c =
    let path = c.args.path.now in
    let line = request_line request.Watch in
    let calls0 = g.L.Link.told c.args.link.now in
    let calls1 = g.L.Link.told c.send_request.new.link in
    let sent0 = g.L.Link.sent c.args.link.now in
    let left0 = g.L.Link.left c.args.link.now in
    let sent = g.L.Link.sent c.await_reply.new.link in
    let left = g.L.Link.left c.await_reply.new.link in
    let held = g.K.Sink.held c.args.out.now in
    ends_before path line c.args.most calls0 (g.L.Link.told c.await_reply.new.link) sent0 sent left0 left held held asked.LinkFailed failed_undone
    (asks_failed path line calls0 calls1 (g.L.Link.told c.await_reply.new.link) c.in-Done.ensures.made sent0 (g.L.Link.sent c.send_request.new.link) sent left0 (g.L.Link.left c.send_request.new.link) left c.in-Done.ensures.sent c.await_reply.ensures.sent c.send_request.ensures.left
    held held c.await_reply.new.kept.items c.await_reply.result c.await_reply.ensures.awaits (Keeps-refl held))

pub returns-clause-watches : goal.returns-clause-watches
returns-clause-watches g c =
    let path = c.args.path.now in
    let line = request_line request.Watch in
    let calls0 = g.L.Link.told c.args.link.now in
    let calls1 = g.L.Link.told c.send_request.new.link in
    let sent0 = g.L.Link.sent c.args.link.now in
    let left0 = g.L.Link.left c.args.link.now in
    let sent = g.L.Link.sent c.await_reply.new.link in
    let left = g.L.Link.left c.await_reply.new.link in
    let held = g.K.Sink.held c.args.out.now in
    ends_before path line c.args.most calls0 (g.L.Link.told c.await_reply.new.link) sent0 sent left0 left held held asked.Memory memory_undone
    (asks_memory path line calls0 calls1 (g.L.Link.told c.await_reply.new.link) c.in-Done.ensures.made sent0 (g.L.Link.sent c.send_request.new.link) sent left0 (g.L.Link.left c.send_request.new.link) left c.in-Done.ensures.sent c.await_reply.ensures.sent c.send_request.ensures.left
    held held c.await_reply.new.kept.items c.await_reply.result c.await_reply.ensures.awaits (Keeps-refl held))

pub returns-in-Failed-clause-watches : goal.returns-in-Failed-clause-watches
returns-in-Failed-clause-watches g c =
    let path = c.args.path.now in
    let line = request_line request.Watch in
    let calls0 = g.L.Link.told c.args.link.now in
    let calls1 = g.L.Link.told c.send_request.new.link in
    let sent0 = g.L.Link.sent c.args.link.now in
    let left0 = g.L.Link.left c.args.link.now in
    let sent = g.L.Link.sent c.send_request.new.link in
    let left = g.L.Link.left c.send_request.new.link in
    let held = g.K.Sink.held c.args.out.now in
    ends_before path line c.args.most calls0 calls1 sent0 sent left0 left held held asked.LinkFailed failed_undone (unsent_failed path line calls0 calls1 sent0 sent left0 left held c.in-Failed.ensures.made c.in-Failed.ensures.sent c.send_request.ensures.left)

pub returns-in-Memory-clause-watches : goal.returns-in-Memory-clause-watches
returns-in-Memory-clause-watches g c =
    let path = c.args.path.now in
    let line = request_line request.Watch in
    let calls0 = g.L.Link.told c.args.link.now in
    let calls1 = g.L.Link.told c.send_request.new.link in
    let sent0 = g.L.Link.sent c.args.link.now in
    let left0 = g.L.Link.left c.args.link.now in
    let sent = g.L.Link.sent c.send_request.new.link in
    let left = g.L.Link.left c.send_request.new.link in
    let held = g.K.Sink.held c.args.out.now in
    ends_before path line c.args.most calls0 calls1 sent0 sent left0 left held held asked.Memory memory_undone (unsent_memory path line calls0 calls1 sent0 sent left0 left held c.in-Memory.ensures.made c.in-Memory.ensures.sent c.send_request.ensures.left)

pub returns-in-Done-write_answer-clause-link : goal.returns-in-Done-write_answer-clause-link
returns-in-Done-write_answer-clause-link g c = λ e. rose_after (g.L.Link.faults c.args.link.now) (g.L.Link.faults c.await_reply.new.link) (g.L.Link.faults c.watch_behind.new.link)
    (not_above (g.L.Link.faults c.args.link.now) (g.L.Link.faults c.send_request.new.link) (g.L.Link.faults c.await_reply.new.link) c.send_request.ensures.counted c.await_reply.ensures.counted)
    c.watch_behind.ensures.links (c.watch_behind.ensures.link e)

pub returns-in-Done-write_answer-clause-counted : goal.returns-in-Done-write_answer-clause-counted
returns-in-Done-write_answer-clause-counted g c = not_above (g.K.Sink.faults c.args.out.now) (g.K.Sink.faults c.write_answer.new.out) (g.K.Sink.faults c.watch_behind.new.out) c.write_answer.ensures.counted c.watch_behind.ensures.sinks

pub returns-in-LinkFailed-clause-link : goal.returns-in-LinkFailed-clause-link
returns-in-LinkFailed-clause-link g c = λ e. rose_after (g.L.Link.faults c.args.link.now) (g.L.Link.faults c.send_request.new.link) (g.L.Link.faults c.await_reply.new.link) c.send_request.ensures.counted c.await_reply.ensures.counted (c.in-LinkFailed.ensures.cause refl)

pub returns-in-Failed-clause-sink : goal.returns-in-Failed-clause-sink
returns-in-Failed-clause-sink g c = λ e. absurd (failed_no_sink e)

pub returns-in-Memory-clause-link : goal.returns-in-Memory-clause-link
returns-in-Memory-clause-link g c = λ e. absurd (memory_no_link e)

pub returns-in-Memory-clause-sink : goal.returns-in-Memory-clause-sink
returns-in-Memory-clause-sink g c = λ e. absurd (memory_no_sink e)

pub returns-in-NoReply-clause-link : goal.returns-in-NoReply-clause-link
returns-in-NoReply-clause-link g c = λ e. absurd (none_no_link e)

pub returns-in-NoReply-clause-sink : goal.returns-in-NoReply-clause-sink
returns-in-NoReply-clause-sink g c = λ e. absurd (none_no_sink e)

pub returns-in-LinkFailed-clause-sink : goal.returns-in-LinkFailed-clause-sink
returns-in-LinkFailed-clause-sink g c = λ e. absurd (failed_no_sink e)

pub returns-clause-link : goal.returns-clause-link
returns-clause-link g c = λ e. absurd (memory_no_link e)

pub returns-clause-sink : goal.returns-clause-sink
returns-clause-sink g c = λ e. absurd (memory_no_sink e)
