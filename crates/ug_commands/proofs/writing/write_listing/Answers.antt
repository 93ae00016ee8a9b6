use Rattle.std.proofs.Common.{ap, subst, sym, ◌∙◌, arith, List, flat_map}
use Rattle.ug_record.specs.declared.descriptors.Config.{Config}
use Rattle.ug_commands.specs.ListingLines.{configuration_text, device_line, listing_text}
use Rattle.ug_commands.proofs.Puts.{Leads, leads-first, cut-first, leads-more, cut-more, leads-none}
use Rattle.ug_commands.proofs.writing.write_listing.Goals as goal

pub returns-in-Failed-clause-put : goal.returns-in-Failed-clause-put
returns-in-Failed-clause-put g c = cut-first (g.K.Sink.held c.args.out.now) (g.K.Sink.held c.put.new.self) (device_line c.args.descr.now) (flat_map configuration_text c.args.descr.now.configs) c.bytes.result.now
    (c.bytes.ensures ∙ c.line_of_device.ensures) c.in-Failed.ensures.bytes

pub loop-config-init : goal.loop-config-init
loop-config-init g c = record {
  leads = subst (λ (items : List Config). Leads (g.K.Sink.held c.args.out.now) (g.K.Sink.held c.put.new.self) (flat_map configuration_text items) (listing_text c.args.descr.now)) (sym c.as_slice-config-items.ensures)
      (leads-first (g.K.Sink.held c.args.out.now) (g.K.Sink.held c.put.new.self) (device_line c.args.descr.now) (flat_map configuration_text c.args.descr.now.configs) c.bytes.result.now
      (c.bytes.ensures ∙ c.line_of_device.ensures) c.in_default.ensures.bytes);
  counted = omega (arith, c.put.ensures.counted);
}

pub returns-in-Failed-write_configuration-clause-put : goal.returns-in-Failed-write_configuration-clause-put
returns-in-Failed-write_configuration-clause-put g c = cut-more configuration_text c.as_slice-config-items.result.now (g.K.Sink.held c.args.out.now) (g.K.Sink.held c.loop-config.out) (listing_text c.args.descr.now) c.loop-config.config-index
    (g.K.Sink.held c.write_configuration.new.out) c.config-item.result (configuration_text c.config-item.result) c.loop-config-test.true c.loop-config.invariant.leads (ap (λ (config : Config). configuration_text config) c.config-item.is) c.in-Failed-write_configuration.ensures.put

pub loop-config-preserved : goal.loop-config-preserved
loop-config-preserved g c = record {
  leads = leads-more configuration_text c.as_slice-config-items.result.now (g.K.Sink.held c.args.out.now) (g.K.Sink.held c.loop-config.out) (listing_text c.args.descr.now) c.loop-config.config-index
      (g.K.Sink.held c.write_configuration.new.out) c.config-item.result (configuration_text c.config-item.result) c.loop-config-test.true c.loop-config.invariant.leads (ap (λ (config : Config). configuration_text config) c.config-item.is) c.in_default-write_configuration.ensures.put;
  counted = omega (arith, c.write_configuration.ensures.counted);
}

pub returns-clause-put : goal.returns-clause-put
returns-clause-put g c = leads-none configuration_text c.as_slice-config-items.result.now (g.K.Sink.held c.args.out.now) (g.K.Sink.held c.loop-config.out) (listing_text c.args.descr.now) c.loop-config.config-index c.loop-config-test.false c.loop-config.invariant.leads
