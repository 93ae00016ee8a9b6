use Rattle.std.proofs.Common.{◌∙◌}
use Rattle.ug_rows.proofs.Names.{port_read}
use Rattle.ug_rows.proofs.devices.told_port.Goals as goal

pub returns : goal.returns
returns c = c.ok.ensures.value ∙ port_read c.args.text.now c.parse.result c.parse.ensures.ok c.parse.ensures.same
