use Rattle.std.proofs.Common.{subst, sym, ◌∙◌, arith, List, flat_map}
use Rattle.ug_record.specs.declared.descriptors.IfaceDescr.{IfaceDescr}
use Rattle.ug_commands.specs.ListingLines.{configuration_text, configuration_line, interface_line}
use Rattle.ug_commands.proofs.Puts.{Leads, leads-first, cut-first, leads-more, cut-more, leads-none}
use Rattle.ug_commands.proofs.writing.write_configuration.Goals as goal

pub returns-in-Failed-clause-put : goal.returns-in-Failed-clause-put
returns-in-Failed-clause-put g c = cut-first (g.K.Sink.held c.args.out.now) (g.K.Sink.held c.put.new.self) (configuration_line c.args.config.now) (flat_map interface_line c.args.config.now.items) c.bytes.result.now
    (c.bytes.ensures ∙ c.line_of_configuration.ensures) c.in-Failed.ensures.bytes

pub loop-interface-init : goal.loop-interface-init
loop-interface-init g c = record {
  leads = subst (λ (items : List IfaceDescr). Leads (g.K.Sink.held c.args.out.now) (g.K.Sink.held c.put.new.self) (flat_map interface_line items) (configuration_text c.args.config.now)) (sym c.as_slice-interface-items.ensures)
      (leads-first (g.K.Sink.held c.args.out.now) (g.K.Sink.held c.put.new.self) (configuration_line c.args.config.now) (flat_map interface_line c.args.config.now.items) c.bytes.result.now
      (c.bytes.ensures ∙ c.line_of_configuration.ensures) c.in_default.ensures.bytes);
  counted = omega (arith, c.put.ensures.counted);
}

pub returns-in-Failed-put-clause-put : goal.returns-in-Failed-put-clause-put
returns-in-Failed-put-clause-put g c = cut-more interface_line c.as_slice-interface-items.result.now (g.K.Sink.held c.args.out.now) (g.K.Sink.held c.loop-interface.out) (configuration_text c.args.config.now) c.loop-interface.interface-index
    (g.K.Sink.held c.put-in-loop-interface.new.self) _ c.bytes-in-loop-interface.result.now c.loop-interface-test.true c.loop-interface.invariant.leads
    (c.bytes-in-loop-interface.ensures ∙ c.line_of_interface.ensures) c.in-Failed-put.ensures.bytes

pub loop-interface-preserved : goal.loop-interface-preserved
loop-interface-preserved g c = record {
  leads = leads-more interface_line c.as_slice-interface-items.result.now (g.K.Sink.held c.args.out.now) (g.K.Sink.held c.loop-interface.out) (configuration_text c.args.config.now) c.loop-interface.interface-index
      (g.K.Sink.held c.put-in-loop-interface.new.self) _ c.bytes-in-loop-interface.result.now c.loop-interface-test.true c.loop-interface.invariant.leads
      (c.bytes-in-loop-interface.ensures ∙ c.line_of_interface.ensures) c.in_default-put.ensures.bytes;
  counted = omega (arith, c.put-in-loop-interface.ensures.counted);
}

pub returns-clause-put : goal.returns-clause-put
returns-clause-put g c = leads-none interface_line c.as_slice-interface-items.result.now (g.K.Sink.held c.args.out.now) (g.K.Sink.held c.loop-interface.out) (configuration_text c.args.config.now) c.loop-interface.interface-index c.loop-interface-test.false c.loop-interface.invariant.leads
