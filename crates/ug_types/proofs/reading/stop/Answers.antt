use Rattle.std.proofs.Common.{sym, ◌∙◌, arith}
use Rattle.ug_types.proofs.Spelled.{stopped, ended, ended_early, read_more}
use Rattle.ug_types.proofs.reading.stop.Goals as goal

pub returns-in-None : goal.returns-in-None
returns-in-None c = stopped c.args.text.now c.loop-i.i c.loop-i.state (omega arith) c.loop-i.invariant (sym c.after.ensures ∙ c.in-None.is)

pub loop-i-preserved : goal.loop-i-preserved
loop-i-preserved c = read_more c.args.text.now c.loop-i.i c.loop-i.state _ (omega arith) c.loop-i.invariant (sym c.after.ensures ∙ c.in-Some.is)

pub returns-then-ends_name : goal.returns-then-ends_name
returns-then-ends_name c = ended c.args.text.now c.loop-i.i c.loop-i.state (omega arith) c.loop-i.invariant (sym c.ends_name.ensures ∙ c.if-ends_name.true)

pub returns-else-ends_name : goal.returns-else-ends_name
returns-else-ends_name c = ended_early c.args.text.now c.loop-i.i c.loop-i.state (omega arith) c.loop-i.invariant (sym c.ends_name.ensures ∙ c.if-ends_name.false)
