use Rattle.ug_iface.proofs.Passing.{walked_pass, ended_pass}
use Rattle.ug_iface.proofs.settle.pass.Goals as goal

pub returns-in-Walks : goal.returns-in-Walks
returns-in-Walks g c = record {
  runs = walked_pass g.Y.Ifaces.serves _ _ c.args.fs.now c.begin.new.files c.walk.new.files c.begin.result c.in-Walks.names c.sort-names.result.items c.as_slice.result.now c.args.out.now.items c.begin.new.out.items c.walk.new.out.items c.walk.result c.begin.ensures.runs c.in-Walks.is c.sort-names.ensures.permutation c.sort-names.ensures.sorted c.as_slice.ensures.value c.begin.ensures.items c.walk.ensures.runs;
}

pub returns-in-Ends : goal.returns-in-Ends
returns-in-Ends g c = record {
  runs = ended_pass g.Y.Ifaces.serves _ _ c.args.fs.now c.begin.new.files c.begin.result c.args.out.now.items c.begin.new.out.items c.in-Ends.passed c.begin.ensures.runs c.in-Ends.is c.begin.ensures.items;
}
