use Rattle.ug_steps.proofs.NamesRead.{name-read, name-refused}
use Rattle.ug_steps.proofs.words.name.Goals as goal

pub returns-in-Ok : goal.returns-in-Ok
returns-in-Ok c = name-read c.args.text.now c.in-Ok.name c.parse.result c.parse.ensures.ok c.parse.ensures.same c.in-Ok.is

pub returns-in-Err : goal.returns-in-Err
returns-in-Err c = name-refused c.args.text.now c.in-Err.field-0 c.parse.result c.parse.ensures.ok c.in-Err.is
