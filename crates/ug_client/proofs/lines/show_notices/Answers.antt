use Rattle.std.proofs.Common.{◌≡◌, ℕ, ◌≤◌, ◌+◌, ◌-◌, List, length, take, drop, refl, subst, arith, length-drop}
use Rattle.ug_types.proofs.Known.{to_end}
use Rattle.ug_types.specs.Ends.{Puts}
use Rattle.ug_types.specs.declared.sink.Put.TheVariants as put
use Rattle.ug_proto.specs.Lines.{IsBeginning}
use Rattle.ug_client.specs.Watching.{IsShortThen, IsNoNotice}
use Rattle.ug_client.proofs.Shown.{shows_none, shows_one, shows_part}
use Rattle.ug_client.proofs.WatchCalls.{rose_after}
use Rattle.ug_client.proofs.lines.show_notices.Goals as goal

same_size : (at n : ℕ) → at + n - at ≡ n
same_size at n = omega arith

pub notices-init : goal.notices-init
notices-init g c = record { within = omega arith; shows = shows_none c.args.text.now c.args.most (g.K.Sink.held c.args.out.now); counted = omega arith }

pub notices-preserved : goal.notices-preserved
notices-preserved g c =
    let e = to_end c.notices.at c.args.text.now in
    let l : c.in-Notice.n ≤ length (drop c.notices.at c.args.text.now) = subst (λ (b : List ℕ). c.in-Notice.n ≤ length b) e c.in-Notice.ensures.0 in
    let p : Puts (g.K.Sink.held c.notices.out) (g.K.Sink.held c.put.new.self) (take c.in-Notice.n (drop c.notices.at c.args.text.now)) put.Done = subst (λ (k : ℕ). Puts (g.K.Sink.held c.notices.out) (g.K.Sink.held c.put.new.self) (take k (drop c.notices.at c.args.text.now)) put.Done) (same_size c.notices.at c.in-Notice.n) c.in-Done.ensures.bytes in
    record {
      within = omega (arith, l, length-drop c.notices.at c.args.text.now, c.notices.invariant.within);
      shows = shows_one c.args.text.now c.args.most (g.K.Sink.held c.args.out.now) c.notices.at c.in-Notice.n c.notices.room (g.K.Sink.held c.notices.out) (g.K.Sink.held c.put.new.self) c.notices.invariant.shows (omega arith) l (subst (λ (b : List ℕ). IsShortThen b (drop c.in-Notice.n b)) e c.in-Notice.ensures.1) p;
      counted = omega (arith, c.notices.invariant.counted, c.put.ensures.counted);
    }

pub returns-in-Failed-clause-shows : goal.returns-in-Failed-clause-shows
returns-in-Failed-clause-shows g c =
    let e = to_end c.notices.at c.args.text.now in
    let l : c.in-Notice.n ≤ length (drop c.notices.at c.args.text.now) = subst (λ (b : List ℕ). c.in-Notice.n ≤ length b) e c.in-Notice.ensures.0 in
    let p : Puts (g.K.Sink.held c.notices.out) (g.K.Sink.held c.put.new.self) (take c.in-Notice.n (drop c.notices.at c.args.text.now)) put.Failed = subst (λ (k : ℕ). Puts (g.K.Sink.held c.notices.out) (g.K.Sink.held c.put.new.self) (take k (drop c.notices.at c.args.text.now)) put.Failed) (same_size c.notices.at c.in-Notice.n) c.in-Failed.ensures.bytes in
    shows_part c.args.text.now c.args.most (g.K.Sink.held c.args.out.now) c.notices.at c.in-Notice.n c.notices.room (g.K.Sink.held c.notices.out) (g.K.Sink.held c.put.new.self) c.notices.invariant.shows (omega arith) l (subst (λ (b : List ℕ). IsShortThen b (drop c.in-Notice.n b)) e c.in-Notice.ensures.1) p

pub returns-in-Other-clause-shows : goal.returns-in-Other-clause-shows
returns-in-Other-clause-shows g c = (c.notices.invariant.shows, subst IsNoNotice (to_end c.notices.at c.args.text.now) c.in-Other.ensures, omega arith)

pub returns-in-Begun-clause-shows : goal.returns-in-Begun-clause-shows
returns-in-Begun-clause-shows g c = (c.notices.invariant.shows, subst IsBeginning (to_end c.notices.at c.args.text.now) c.in-Begun.ensures, omega arith)

pub returns-in-Failed-clause-cause : goal.returns-in-Failed-clause-cause
returns-in-Failed-clause-cause g c = λ e. rose_after (g.K.Sink.faults c.args.out.now) (g.K.Sink.faults c.notices.out) (g.K.Sink.faults c.put.new.self) c.notices.invariant.counted c.put.ensures.counted.0 (c.in-Failed.ensures.cause refl)
