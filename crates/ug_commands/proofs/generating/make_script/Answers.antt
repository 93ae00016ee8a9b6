use Rattle.std.proofs.Common.{◌≡◌, ℕ, ◌+◌, ◌-◌, ◌++◌, refl, sym, ap, subst, ◌∙◌, arith}
use Rattle.ug_types.specs.Ends.{Puts}
use Rattle.ug_types.specs.declared.sink.Put.TheVariants.{Done, Failed}
use Rattle.ug_commands.specs.GeneratedScripts.{generated_events, generated_script, line_before, number_behind, opening_lines, sweep_line}
use Rattle.ug_commands.proofs.Events.{event_cut, event_put, next_number}
use Rattle.ug_commands.proofs.Puts.{Leads, cut-first, leads-end, leads-first}
use Rattle.ug_commands.proofs.generating.make_script.Goals as goal

pub returns-in-Failed-clause-put : goal.returns-in-Failed-clause-put
returns-in-Failed-clause-put g c = cut-first (g.K.Sink.held c.args.out.now) (g.K.Sink.held c.put_opening.new.out) opening_lines (generated_events c.args.start 0 c.args.events) opening_lines refl c.in-Failed.ensures.put

pub loop-event-init : goal.loop-event-init
loop-event-init g c =
    let all : c.args.events ≡ c.args.events - 0 = omega arith in
    record {
      number = refl;
      below = c.ranges.start.fits;
      leads = subst (λ (n : ℕ). Leads (g.K.Sink.held c.args.out.now) (g.K.Sink.held c.put_opening.new.out) (generated_events c.args.start 0 n) (generated_script c.args.events c.args.start)) all
          (leads-first (g.K.Sink.held c.args.out.now) (g.K.Sink.held c.put_opening.new.out) opening_lines (generated_events c.args.start 0 c.args.events) opening_lines refl c.in_default.ensures.put);
      counted = c.put_opening.ensures.counted;
    }

pub returns-in-Failed-put_event-clause-put : goal.returns-in-Failed-put_event-clause-put
returns-in-Failed-put_event-clause-put g c =
    event_cut (g.K.Sink.held c.args.out.now) (g.K.Sink.held c.loop-event.out) (g.K.Sink.held c.put_event.new.out) (generated_script c.args.events c.args.start) c.args.start c.loop-event.event c.args.events c.loop-event.number
    c.loop-event-test.true c.loop-event.invariant.number c.loop-event.invariant.leads
    (subst (λ (k : ℕ). Puts (g.K.Sink.held c.loop-event.out) (g.K.Sink.held c.put_event.new.out) (line_before k ++ sweep_line (c.loop-event.event + 1)) Failed) c.number_behind-number.ensures.is c.in-Failed-put_event.ensures.put)

pub loop-event-preserved : goal.loop-event-preserved
loop-event-preserved g c = record {
  number = c.number_behind-number.ensures.is ∙ ap number_behind c.loop-event.invariant.number ∙ sym (next_number c.args.start c.loop-event.event);
  below = c.number_behind-number.ensures.below;
  leads = event_put (g.K.Sink.held c.args.out.now) (g.K.Sink.held c.loop-event.out) (g.K.Sink.held c.put_event.new.out) (generated_script c.args.events c.args.start) c.args.start c.loop-event.event c.args.events c.loop-event.number
      c.loop-event-test.true c.loop-event.invariant.number c.loop-event.invariant.leads
      (subst (λ (k : ℕ). Puts (g.K.Sink.held c.loop-event.out) (g.K.Sink.held c.put_event.new.out) (line_before k ++ sweep_line (c.loop-event.event + 1)) Done) c.number_behind-number.ensures.is c.in_default-put_event.ensures.put);
  counted = omega (arith, c.loop-event.invariant.counted, c.put_event.ensures.counted);
}

pub returns-clause-put : goal.returns-clause-put
returns-clause-put g c =
    let none : c.args.events - c.loop-event.event ≡ 0 = omega (arith, c.loop-event-test.false) in
    leads-end (g.K.Sink.held c.args.out.now) (g.K.Sink.held c.loop-event.out) (generated_events c.args.start c.loop-event.event (c.args.events - c.loop-event.event)) (generated_script c.args.events c.args.start)
    (ap (generated_events c.args.start c.loop-event.event) none) c.loop-event.invariant.leads
