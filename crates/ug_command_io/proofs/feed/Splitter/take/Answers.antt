use Rattle.std.proofs.Common.{arith, ◌-◌, ℕ, List, [], ◌∷◌, length, take, subst, sym}
use Rattle.ug_command_io.specs.Runs.{Feeds}
use Rattle.ug_lines.proofs.Splitting.{part-line, part-ended}
use Rattle.ug_command_io.proofs.Feeding.{fed-run, Feeds-then, Feeds-more}
use Rattle.ug_command_io.proofs.Refusing.{Refusing, refusing-more, refusing-run, refusing-then}
use Rattle.ug_command_io.proofs.Taking.{Taking, taking-run, taking-then}
use Rattle.ug_command_io.specs.declared.machine.Ran.TheVariants.{Done}
use Rattle.ug_command_io.proofs.feed.Splitter.take.Goals as goal

pub returns-then-part-end-ne10-clause-fed : goal.returns-then-part-end-ne10-clause-fed
returns-then-part-end-ne10-clause-fed g c =
    fed-run g.M.Machine.step_of c.args.self.now.line.items c.extend.new.self.line.items c.args.self.now.lines c.extend.new.self.lines (g.M.Machine.state c.args.machine.now, c.args.world.now) (g.K.Sink.held c.args.out.now) c.args.part.now c.extend.result
    (part-line c.args.part.now c.requires.some c.requires.front c.if-part-end-ne10.true) c.extend.ensures.lines c.extend.ensures.extended

pub returns-then-part-end-ne10-clause-why : goal.returns-then-part-end-ne10-clause-why
returns-then-part-end-ne10-clause-why g c =
    refusing-run g.M.Machine.step_of g.M.Machine.because c.args.self.now.line.items c.extend.new.self.line.items c.args.self.now.lines (g.M.Machine.state c.args.machine.now, c.args.world.now) c.args.part.now c.extend.result
    (part-line c.args.part.now c.requires.some c.requires.front c.if-part-end-ne10.true) c.extend.ensures.extended

pub returns-in-Done-clause-fed : goal.returns-in-Done-clause-fed
returns-in-Done-clause-fed g c =
    let run : List ℕ = take (length c.args.part.now - 1) c.args.part.now in
    subst (λ (bytes : List ℕ). Feeds g.M.Machine.step_of c.args.self.now.line.items c.args.self.now.lines (g.M.Machine.state c.args.machine.now, c.args.world.now) (g.K.Sink.held c.args.out.now) bytes
    c.end_line.result c.end_line.new.self.line.items c.end_line.new.self.lines (g.M.Machine.state c.end_line.new.machine, c.end_line.new.world) (g.K.Sink.held c.end_line.new.out)) (sym (part-ended c.args.part.now c.requires.some c.if-part-end-ne10.false))
    (Feeds-then g.M.Machine.step_of c.args.self.now.line.items c.args.self.now.lines (g.M.Machine.state c.args.machine.now, c.args.world.now) (g.K.Sink.held c.args.out.now) run
    c.extend-2.new.self.line.items c.extend-2.new.self.lines (g.M.Machine.state c.args.machine.now, c.args.world.now) (g.K.Sink.held c.args.out.now) (10 ∷ [])
    c.end_line.result c.end_line.new.self.line.items c.end_line.new.self.lines (g.M.Machine.state c.end_line.new.machine, c.end_line.new.world) (g.K.Sink.held c.end_line.new.out)
    (fed-run g.M.Machine.step_of c.args.self.now.line.items c.extend-2.new.self.line.items c.args.self.now.lines c.extend-2.new.self.lines (g.M.Machine.state c.args.machine.now, c.args.world.now) (g.K.Sink.held c.args.out.now) run Done c.requires.front c.in-Done.ensures.lines c.in-Done.ensures.extended)
    c.end_line.ensures.fed)

pub returns-in-Done-clause-why : goal.returns-in-Done-clause-why
returns-in-Done-clause-why g c =
    let run : List ℕ = take (length c.args.part.now - 1) c.args.part.now in
    subst (λ (bytes : List ℕ). Refusing g.M.Machine.step_of g.M.Machine.because c.args.self.now.line.items c.args.self.now.lines (g.M.Machine.state c.args.machine.now, c.args.world.now) bytes c.end_line.result)
    (sym (part-ended c.args.part.now c.requires.some c.if-part-end-ne10.false))
    (refusing-then g.M.Machine.step_of g.M.Machine.because c.args.self.now.line.items c.args.self.now.lines (g.M.Machine.state c.args.machine.now, c.args.world.now) (g.K.Sink.held c.args.out.now) run
    c.extend-2.new.self.line.items c.extend-2.new.self.lines (g.M.Machine.state c.args.machine.now, c.args.world.now) (g.K.Sink.held c.args.out.now) (10 ∷ []) c.end_line.result
    (fed-run g.M.Machine.step_of c.args.self.now.line.items c.extend-2.new.self.line.items c.args.self.now.lines c.extend-2.new.self.lines (g.M.Machine.state c.args.machine.now, c.args.world.now) (g.K.Sink.held c.args.out.now) run Done c.requires.front c.in-Done.ensures.lines c.in-Done.ensures.extended)
    c.end_line.ensures.why)

pub returns-then-part-end-ne10-clause-taken : goal.returns-then-part-end-ne10-clause-taken
returns-then-part-end-ne10-clause-taken g c = λ e.
    taking-run g.M.Machine.step_of g.M.Machine.holds c.args.self.now.line.items c.args.self.now.lines (g.M.Machine.state c.args.machine.now, c.args.world.now) c.args.part.now (part-line c.args.part.now c.requires.some c.requires.front c.if-part-end-ne10.true)

pub returns-in-Done-clause-taken : goal.returns-in-Done-clause-taken
returns-in-Done-clause-taken g c = λ e.
    let run : List ℕ = take (length c.args.part.now - 1) c.args.part.now in
    subst (λ (bytes : List ℕ). Taking g.M.Machine.step_of g.M.Machine.holds c.args.self.now.line.items c.args.self.now.lines (g.M.Machine.state c.args.machine.now, c.args.world.now) bytes)
    (sym (part-ended c.args.part.now c.requires.some c.if-part-end-ne10.false))
    (taking-then g.M.Machine.step_of g.M.Machine.holds c.args.self.now.line.items c.args.self.now.lines (g.M.Machine.state c.args.machine.now, c.args.world.now) (g.K.Sink.held c.args.out.now) run
    c.extend-2.new.self.line.items c.extend-2.new.self.lines (g.M.Machine.state c.args.machine.now, c.args.world.now) (g.K.Sink.held c.args.out.now) (10 ∷ [])
    (fed-run g.M.Machine.step_of c.args.self.now.line.items c.extend-2.new.self.line.items c.args.self.now.lines c.extend-2.new.self.lines (g.M.Machine.state c.args.machine.now, c.args.world.now) (g.K.Sink.held c.args.out.now) run Done c.requires.front c.in-Done.ensures.lines c.in-Done.ensures.extended)
    (taking-run g.M.Machine.step_of g.M.Machine.holds c.args.self.now.line.items c.args.self.now.lines (g.M.Machine.state c.args.machine.now, c.args.world.now) run c.requires.front)
    (c.end_line.ensures.taken e))

pub returns-in_default : goal.returns-in_default
returns-in_default g c =
    let run : List ℕ = take (length c.args.part.now - 1) c.args.part.now in
    record {
      fed = subst (λ (bytes : List ℕ). Feeds g.M.Machine.step_of c.args.self.now.line.items c.args.self.now.lines (g.M.Machine.state c.args.machine.now, c.args.world.now) (g.K.Sink.held c.args.out.now) bytes
          c.extend-2.result c.extend-2.new.self.line.items c.extend-2.new.self.lines (g.M.Machine.state c.args.machine.now, c.args.world.now) (g.K.Sink.held c.args.out.now)) (sym (part-ended c.args.part.now c.requires.some c.if-part-end-ne10.false))
          (Feeds-more g.M.Machine.step_of c.args.self.now.line.items c.args.self.now.lines (g.M.Machine.state c.args.machine.now, c.args.world.now) (g.K.Sink.held c.args.out.now) run (10 ∷ [])
          c.extend-2.result c.extend-2.new.self.line.items c.extend-2.new.self.lines (g.M.Machine.state c.args.machine.now, c.args.world.now) (g.K.Sink.held c.args.out.now) c.in_default.not-Done
          (fed-run g.M.Machine.step_of c.args.self.now.line.items c.extend-2.new.self.line.items c.args.self.now.lines c.extend-2.new.self.lines (g.M.Machine.state c.args.machine.now, c.args.world.now) (g.K.Sink.held c.args.out.now) run c.extend-2.result c.requires.front c.extend-2.ensures.lines c.extend-2.ensures.extended));
      why = subst (λ (bytes : List ℕ). Refusing g.M.Machine.step_of g.M.Machine.because c.args.self.now.line.items c.args.self.now.lines (g.M.Machine.state c.args.machine.now, c.args.world.now) bytes c.extend-2.result)
          (sym (part-ended c.args.part.now c.requires.some c.if-part-end-ne10.false))
          (refusing-more g.M.Machine.step_of g.M.Machine.because c.args.self.now.line.items c.args.self.now.lines (g.M.Machine.state c.args.machine.now, c.args.world.now) run (10 ∷ []) c.extend-2.result
          (refusing-run g.M.Machine.step_of g.M.Machine.because c.args.self.now.line.items c.extend-2.new.self.line.items c.args.self.now.lines (g.M.Machine.state c.args.machine.now, c.args.world.now) run c.extend-2.result c.requires.front c.extend-2.ensures.extended));
      taken = λ e. absurd (c.in_default.not-Done e);
      kept = λ e. absurd (c.in_default.not-Done e);
      further = λ e. absurd (c.in_default.not-Done e);
      counted = omega arith;
      cause = λ e. absurd (c.extend-2.ensures.no_sink e);
    }
