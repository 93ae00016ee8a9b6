use Rattle.ug_store.proofs.Standing.{covers_ends, leaves_inside, stays_possible}
use Rattle.ug_store.proofs.laws.moment_law.Goals as goal

pub returns-clause-ends : goal.returns-clause-ends
returns-clause-ends c = covers_ends

pub returns-clause-stays : goal.returns-clause-stays
returns-clause-stays c = stays_possible

pub returns-clause-inside : goal.returns-clause-inside
returns-clause-inside c = leaves_inside
