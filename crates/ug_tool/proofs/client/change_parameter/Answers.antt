use Rattle.ug_proto.specs.declared.request.Request.TheVariants as request
use Rattle.ug_client.specs.Asking.{request_line}
use Rattle.ug_client.specs.Following.{change_line}
use Rattle.ug_tool.proofs.Memory.{both_unsent}
use Rattle.ug_tool.proofs.client.change_parameter.Goals as goal

pub returns-in-Err-clause-changes : goal.returns-in-Err-clause-changes
returns-in-Err-clause-changes g c = both_unsent (change_line c.args.value.now) c.args.path.now (request_line (request.GetParameter c.args.name.now)) (request_line (request.SetParameter c.args.name.now c.args.value.now)) (g.L.Link.told c.args.link.now) (g.L.Link.sent c.args.link.now) (g.L.Link.left c.args.link.now) (g.K.Sink.held c.args.out.now) (g.K.Sink.held c.end-in-Err.new.out) (g.L.Link.faults c.args.link.now) c.end-in-Err.result c.end-in-Err.ensures.ends
