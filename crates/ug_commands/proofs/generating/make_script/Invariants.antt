use Rattle.std.proofs.Common.{◌≡◌, ◌≤◌, ◌<◌, ◌^◌, ◌-◌}
use Rattle.ug_commands.specs.GeneratedScripts.{generated_events, generated_script, number_at}
use Rattle.ug_commands.proofs.Puts.{Leads}
use Rattle.ug_commands.proofs.generating.make_script.Given as goal

abbrev pub invariant-loop-event : goal.invariant-loop-event
invariant-loop-event g l = record {
  number : l.number ≡ number_at l.fn.start l.event;
  below : l.number < 2 ^ 32;
  leads : Leads (g.K.Sink.held l.fn.out) (g.K.Sink.held l.out) (generated_events l.fn.start l.event (l.fn.events - l.event)) (generated_script l.fn.events l.fn.start);
  counted : g.K.Sink.faults l.fn.out ≤ g.K.Sink.faults l.out;
}
