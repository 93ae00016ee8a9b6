use Rattle.ug_types.specs.declared.rule.Op.TheVariants as operator
use Rattle.ug_words.proofs.KeywordTables.{operator_is}
use Rattle.ug_words.proofs.laws.operator_words_law.Goals as goal

pub returns-clause-all_of : goal.returns-clause-all_of
returns-clause-all_of c = operator_is operator.AllOf

pub returns-clause-one_of : goal.returns-clause-one_of
returns-clause-one_of c = operator_is operator.OneOf

pub returns-clause-none_of : goal.returns-clause-none_of
returns-clause-none_of c = operator_is operator.NoneOf

pub returns-clause-equals : goal.returns-clause-equals
returns-clause-equals c = operator_is operator.Equals

pub returns-clause-equals_ordered : goal.returns-clause-equals_ordered
returns-clause-equals_ordered c = operator_is operator.EqualsOrdered
