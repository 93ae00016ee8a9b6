use Rattle.std.proofs.Common.{◌≤◌, drop, flat_map}
use Rattle.ug_commands.specs.ListingLines.{configuration_text, listing_text}
use Rattle.ug_commands.proofs.Puts.{Leads}
use Rattle.ug_commands.proofs.writing.write_listing.Given as goal

abbrev pub invariant-loop-config : goal.invariant-loop-config
invariant-loop-config g l = record {
  leads : Leads (g.K.Sink.held l.fn.out) (g.K.Sink.held l.out) (flat_map configuration_text (drop l.config-index l.config-items)) (listing_text l.fn.descr);
  counted : g.K.Sink.faults l.fn.out ≤ g.K.Sink.faults l.out;
}
