use Rattle.ug_types.proofs.ParameterWords.{inserted_law, parameter_law, value_law}
use Rattle.ug_types.proofs.laws.parameters_law.Goals as goal

pub returns-clause-name : goal.returns-clause-name
returns-clause-name c = parameter_law

pub returns-clause-value : goal.returns-clause-value
returns-clause-value c = value_law

pub returns-clause-inserted : goal.returns-clause-inserted
returns-clause-inserted c = inserted_law
