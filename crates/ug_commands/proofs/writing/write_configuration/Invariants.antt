use Rattle.std.proofs.Common.{◌≤◌, drop, flat_map}
use Rattle.ug_commands.specs.ListingLines.{configuration_text, interface_line}
use Rattle.ug_commands.proofs.Puts.{Leads}
use Rattle.ug_commands.proofs.writing.write_configuration.Given as goal

abbrev pub invariant-loop-interface : goal.invariant-loop-interface
invariant-loop-interface g l = record {
  leads : Leads (g.K.Sink.held l.fn.out) (g.K.Sink.held l.out) (flat_map interface_line (drop l.interface-index l.interface-items)) (configuration_text l.fn.config);
  counted : g.K.Sink.faults l.fn.out ≤ g.K.Sink.faults l.out;
}
