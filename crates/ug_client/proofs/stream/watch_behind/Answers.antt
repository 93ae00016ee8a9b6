use Rattle.ug_client.specs.declared.asked.Asked.TheVariants as asked
use Rattle.ug_client.proofs.Shown.{shows_none}
use Rattle.ug_client.proofs.Watched.{first_ends}
use Rattle.ug_client.proofs.stream.watch_behind.Goals as goal

pub returns-in-Err-clause-watches : goal.returns-in-Err-clause-watches
returns-in-Err-clause-watches g c = first_ends c.args.bytes.now (g.L.Link.told c.args.link.now) (g.L.Link.left c.args.link.now) c.args.most (g.K.Sink.held c.args.out.now) (g.K.Sink.held c.args.out.now) asked.Memory
    (record { rest = c.args.bytes.now; room = c.args.most; told = shows_none c.args.bytes.now c.args.most (g.K.Sink.held c.args.out.now) })
