use Rattle.ug_script.proofs.MoveLines.{at_once, ifaces}
use Rattle.ug_script.proofs.laws.moves_law.Goals as goal

pub returns-clause-at_once : goal.returns-clause-at_once
returns-clause-at_once c = at_once

pub returns-clause-interfaces : goal.returns-clause-interfaces
returns-clause-interfaces c = ifaces
