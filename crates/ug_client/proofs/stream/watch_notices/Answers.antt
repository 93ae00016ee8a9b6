use Rattle.std.proofs.Common.{◌≡◌, ℕ, ◌≤◌, List, Some, take, ap, arith, refl, subst, length-take}
use Rattle.std.proofs.KnownBytes.{Keeps-refl, Keeps-trans}
use Rattle.ug_client.specs.Watching.{EndsShowing, ShowsNotices}
use Rattle.ug_client.proofs.Watched.{first_ends, first_watching, piece_ends, piece_watching, piece_lost, smaller, grown, watched_to_end, watched_to_failure}
use Rattle.ug_client.specs.declared.asked.Asked.{Asked}
use Rattle.ug_client.specs.declared.asked.Asked.TheVariants as asked
use Rattle.ug_client.proofs.WatchCalls.{rose_after}
use Rattle.ug_client.proofs.stream.watch_notices.Goals as goal

not_above : (a b c : ℕ) → a ≤ b → b ≤ c → a ≤ c
not_above a b c h k = omega arith

memory_no_link : ¬ (asked.Memory ≡ asked.LinkFailed)
memory_no_link e = cc

memory_no_sink : ¬ (asked.Memory ≡ asked.WriteFault)
memory_no_sink e = cc

done_no_link : ¬ (asked.Done ≡ asked.LinkFailed)
done_no_link e = cc

done_no_sink : ¬ (asked.Done ≡ asked.WriteFault)
done_no_sink e = cc

failed_no_sink : ¬ (asked.LinkFailed ≡ asked.WriteFault)
failed_no_sink e = cc

pub returns-in-Some-clause-watches : goal.returns-in-Some-clause-watches
returns-in-Some-clause-watches g c = first_ends c.args.kept.now.items (g.L.Link.told c.args.link.now) (g.L.Link.left c.args.link.now) c.args.most (g.K.Sink.held c.args.out.now) (g.K.Sink.held c.show_kept.new.out) c.in-Some.ended c.in-Some.ensures.shows

pub pieces-init : goal.pieces-init
pieces-init g c =
    let s = c.in-None.ensures in
    record {
      watching = first_watching c.args.kept.now.items (g.L.Link.told c.args.link.now) (g.L.Link.left c.args.link.now) c.args.most (g.K.Sink.held c.args.out.now) c.show_kept.new.kept.items c.show_kept.new.room (g.K.Sink.held c.show_kept.new.out) s.shows.0;
      begun = s.shows.1;
      room = s.shows.2;
      sent = Keeps-refl (g.L.Link.sent c.args.link.now);
      link = omega arith;
      sink = s.counted;
    }

pub returns-then-is_err-clause-watches : goal.returns-then-is_err-clause-watches
returns-then-is_err-clause-watches g c = piece_lost c.args.kept.now.items (g.L.Link.told c.args.link.now) (g.L.Link.told c.pieces.link) (g.L.Link.told c.receive.new.self) (g.L.Link.left c.args.link.now) (g.L.Link.left c.pieces.link) (g.L.Link.left c.receive.new.self) c.args.most (g.K.Sink.held c.args.out.now) c.pieces.kept.items c.pieces.room (g.K.Sink.held c.pieces.out) c.pieces.invariant.watching c.pieces.invariant.begun c.pieces.invariant.room
    (take c.in-Bytes.n c.receive.new.into) (omega (arith, length-take c.in-Bytes.n c.receive.new.into, c.in-Bytes.ensures.size, length-take {A = ℕ})) c.in-Bytes.ensures.told c.in-Bytes.ensures.bytes

pub returns-in-Some-show_kept-clause-watches : goal.returns-in-Some-show_kept-clause-watches
returns-in-Some-show_kept-clause-watches g c =
    let piece = take c.in-Bytes.n c.receive.new.into in
    let e = grown c.extend_from_slice.result c.extend_from_slice.new.self.items c.pieces.kept.items piece c.extend_from_slice.ensures.items c.if-is_err.ensures.value in
    piece_ends c.args.kept.now.items (g.L.Link.told c.args.link.now) (g.L.Link.told c.pieces.link) (g.L.Link.told c.receive.new.self) (g.L.Link.left c.args.link.now) (g.L.Link.left c.pieces.link) (g.L.Link.left c.receive.new.self) c.args.most (g.K.Sink.held c.args.out.now) c.pieces.kept.items c.pieces.room (g.K.Sink.held c.pieces.out) c.pieces.invariant.watching c.pieces.invariant.begun c.pieces.invariant.room
    piece (omega (arith, length-take c.in-Bytes.n c.receive.new.into, c.in-Bytes.ensures.size, length-take {A = ℕ})) c.in-Bytes.ensures.told c.in-Bytes.ensures.bytes (g.K.Sink.held c.show_kept-in-Bytes.new.out) c.in-Some-show_kept.ended
    (subst (λ (b : List ℕ). EndsShowing b c.pieces.room (g.K.Sink.held c.pieces.out) (g.K.Sink.held c.show_kept-in-Bytes.new.out) c.in-Some-show_kept.ended) e c.in-Some-show_kept.ensures.shows)

pub pieces-preserved : goal.pieces-preserved
pieces-preserved g c =
    let piece = take c.in-Bytes.n c.receive.new.into in
    let e = grown c.extend_from_slice.result c.extend_from_slice.new.self.items c.pieces.kept.items piece c.extend_from_slice.ensures.items c.if-is_err.ensures.value in
    let s = c.in-None-show_kept.ensures in
    let k = c.show_kept-in-Bytes.new in
    record {
      watching = piece_watching c.args.kept.now.items (g.L.Link.told c.args.link.now) (g.L.Link.told c.pieces.link) (g.L.Link.told c.receive.new.self) (g.L.Link.left c.args.link.now) (g.L.Link.left c.pieces.link) (g.L.Link.left c.receive.new.self) c.args.most (g.K.Sink.held c.args.out.now) c.pieces.kept.items c.pieces.room (g.K.Sink.held c.pieces.out) c.pieces.invariant.watching c.pieces.invariant.begun c.pieces.invariant.room
          piece (omega (arith, length-take c.in-Bytes.n c.receive.new.into, c.in-Bytes.ensures.size, length-take {A = ℕ})) c.in-Bytes.ensures.told c.in-Bytes.ensures.bytes k.kept.items k.room (g.K.Sink.held k.out)
          (subst (λ (b : List ℕ). ShowsNotices b c.pieces.room (g.K.Sink.held c.pieces.out) k.kept.items k.room (g.K.Sink.held k.out)) e s.shows.0);
      begun = s.shows.1;
      room = s.shows.2;
      sent = Keeps-trans (g.L.Link.sent c.args.link.now) (g.L.Link.sent c.pieces.link) (g.L.Link.sent c.receive.new.self) c.pieces.invariant.sent c.in-Bytes.ensures.sent;
      link = not_above (g.L.Link.faults c.args.link.now) (g.L.Link.faults c.pieces.link) (g.L.Link.faults c.receive.new.self) c.pieces.invariant.link c.receive.ensures.counted.0;
      sink = not_above (g.K.Sink.faults c.args.out.now) (g.K.Sink.faults c.pieces.out) (g.K.Sink.faults k.out) c.pieces.invariant.sink s.counted;
    }

pub returns-in-End-clause-watches : goal.returns-in-End-clause-watches
returns-in-End-clause-watches g c = watched_to_end c.args.kept.now.items (g.L.Link.told c.args.link.now) (g.L.Link.told c.pieces.link) (g.L.Link.told c.receive.new.self) (g.L.Link.left c.args.link.now) (g.L.Link.left c.pieces.link) (g.L.Link.left c.receive.new.self) c.args.most (g.K.Sink.held c.args.out.now) c.pieces.kept.items c.pieces.room (g.K.Sink.held c.pieces.out) c.pieces.invariant.watching c.pieces.invariant.begun c.pieces.invariant.room c.in-End.ensures.bytes.0 c.in-End.ensures.told c.in-End.ensures.bytes.1

pub returns-in-Failed-clause-watches : goal.returns-in-Failed-clause-watches
returns-in-Failed-clause-watches g c = watched_to_failure c.args.kept.now.items (g.L.Link.told c.args.link.now) (g.L.Link.told c.pieces.link) (g.L.Link.told c.receive.new.self) (g.L.Link.left c.args.link.now) (g.L.Link.left c.pieces.link) (g.L.Link.left c.receive.new.self) c.args.most (g.K.Sink.held c.args.out.now) c.pieces.kept.items c.pieces.room (g.K.Sink.held c.pieces.out) c.pieces.invariant.watching c.pieces.invariant.begun c.pieces.invariant.room c.in-Failed.ensures.bytes c.in-Failed.ensures.told

pub pieces-smaller : goal.pieces-smaller
pieces-smaller g c =
    let piece = take c.in-Bytes.n c.receive.new.into in
    let e = grown c.extend_from_slice.result c.extend_from_slice.new.self.items c.pieces.kept.items piece c.extend_from_slice.ensures.items c.if-is_err.ensures.value in
    let s = c.in-None-show_kept.ensures in
    let k = c.show_kept-in-Bytes.new in
    let d = smaller c.pieces.kept.items piece c.pieces.room (g.K.Sink.held c.pieces.out) k.kept.items k.room (g.K.Sink.held k.out)
    (subst (λ (b : List ℕ). ShowsNotices b c.pieces.room (g.K.Sink.held c.pieces.out) k.kept.items k.room (g.K.Sink.held k.out)) e s.shows.0)
    (omega (arith, length-take c.in-Bytes.n c.receive.new.into, c.in-Bytes.ensures.size)) s.shows.2 s.shows.1.short c.pieces.invariant.begun.short in
    omega (arith, d)

pub returns-in-Some-clause-link : goal.returns-in-Some-clause-link
returns-in-Some-clause-link g c = λ e. absurd (c.in-Some.ensures.no_link (ap (λ (a : Asked). Some a) e))

pub returns-in-Some-clause-sink : goal.returns-in-Some-clause-sink
returns-in-Some-clause-sink g c = λ e. c.in-Some.ensures.cause (ap (λ (a : Asked). Some a) e)

pub returns-in-Some-show_kept-clause-link : goal.returns-in-Some-show_kept-clause-link
returns-in-Some-show_kept-clause-link g c = λ e. absurd (c.in-Some-show_kept.ensures.no_link (ap (λ (a : Asked). Some a) e))

pub returns-in-Some-show_kept-clause-sink : goal.returns-in-Some-show_kept-clause-sink
returns-in-Some-show_kept-clause-sink g c = λ e. rose_after (g.K.Sink.faults c.args.out.now) (g.K.Sink.faults c.pieces.out) (g.K.Sink.faults c.show_kept-in-Bytes.new.out) c.pieces.invariant.sink c.in-Some-show_kept.ensures.counted (c.in-Some-show_kept.ensures.cause (ap (λ (a : Asked). Some a) e))

pub returns-in-Failed-clause-link : goal.returns-in-Failed-clause-link
returns-in-Failed-clause-link g c = λ e. rose_after (g.L.Link.faults c.args.link.now) (g.L.Link.faults c.pieces.link) (g.L.Link.faults c.receive.new.self) c.pieces.invariant.link c.receive.ensures.counted.0 (c.in-Failed.ensures.cause refl)

pub returns-then-is_err-clause-sent : goal.returns-then-is_err-clause-sent
returns-then-is_err-clause-sent g c = Keeps-trans (g.L.Link.sent c.args.link.now) (g.L.Link.sent c.pieces.link) (g.L.Link.sent c.receive.new.self) c.pieces.invariant.sent c.receive.ensures.sent

pub returns-then-is_err-clause-links : goal.returns-then-is_err-clause-links
returns-then-is_err-clause-links g c = not_above (g.L.Link.faults c.args.link.now) (g.L.Link.faults c.pieces.link) (g.L.Link.faults c.receive.new.self) c.pieces.invariant.link c.receive.ensures.counted.0

pub returns-in-Some-show_kept-clause-sent : goal.returns-in-Some-show_kept-clause-sent
returns-in-Some-show_kept-clause-sent g c = Keeps-trans (g.L.Link.sent c.args.link.now) (g.L.Link.sent c.pieces.link) (g.L.Link.sent c.receive.new.self) c.pieces.invariant.sent c.receive.ensures.sent

pub returns-in-Some-show_kept-clause-links : goal.returns-in-Some-show_kept-clause-links
returns-in-Some-show_kept-clause-links g c = not_above (g.L.Link.faults c.args.link.now) (g.L.Link.faults c.pieces.link) (g.L.Link.faults c.receive.new.self) c.pieces.invariant.link c.receive.ensures.counted.0

pub returns-in-End-clause-sent : goal.returns-in-End-clause-sent
returns-in-End-clause-sent g c = Keeps-trans (g.L.Link.sent c.args.link.now) (g.L.Link.sent c.pieces.link) (g.L.Link.sent c.receive.new.self) c.pieces.invariant.sent c.receive.ensures.sent

pub returns-in-End-clause-links : goal.returns-in-End-clause-links
returns-in-End-clause-links g c = not_above (g.L.Link.faults c.args.link.now) (g.L.Link.faults c.pieces.link) (g.L.Link.faults c.receive.new.self) c.pieces.invariant.link c.receive.ensures.counted.0

pub returns-in-Failed-clause-sent : goal.returns-in-Failed-clause-sent
returns-in-Failed-clause-sent g c = Keeps-trans (g.L.Link.sent c.args.link.now) (g.L.Link.sent c.pieces.link) (g.L.Link.sent c.receive.new.self) c.pieces.invariant.sent c.receive.ensures.sent

pub returns-in-Failed-clause-links : goal.returns-in-Failed-clause-links
returns-in-Failed-clause-links g c = not_above (g.L.Link.faults c.args.link.now) (g.L.Link.faults c.pieces.link) (g.L.Link.faults c.receive.new.self) c.pieces.invariant.link c.receive.ensures.counted.0

pub returns-in-Some-clause-sent : goal.returns-in-Some-clause-sent
returns-in-Some-clause-sent g c = Keeps-refl (g.L.Link.sent c.args.link.now)

pub returns-in-Some-show_kept-clause-sinks : goal.returns-in-Some-show_kept-clause-sinks
returns-in-Some-show_kept-clause-sinks g c = not_above (g.K.Sink.faults c.args.out.now) (g.K.Sink.faults c.pieces.out) (g.K.Sink.faults c.show_kept-in-Bytes.new.out) c.pieces.invariant.sink c.in-Some-show_kept.ensures.counted

pub returns-then-is_err-clause-link : goal.returns-then-is_err-clause-link
returns-then-is_err-clause-link g c = λ e. absurd (memory_no_link e)

pub returns-then-is_err-clause-sink : goal.returns-then-is_err-clause-sink
returns-then-is_err-clause-sink g c = λ e. absurd (memory_no_sink e)

pub returns-in-End-clause-link : goal.returns-in-End-clause-link
returns-in-End-clause-link g c = λ e. absurd (done_no_link e)

pub returns-in-End-clause-sink : goal.returns-in-End-clause-sink
returns-in-End-clause-sink g c = λ e. absurd (done_no_sink e)

pub returns-in-Failed-clause-sink : goal.returns-in-Failed-clause-sink
returns-in-Failed-clause-sink g c = λ e. absurd (failed_no_sink e)
