use Rattle.ug_steps.proofs.Moments.{moment_text}
use Rattle.ug_steps.proofs.NamesRead.{name_text}
use Rattle.ug_steps.proofs.laws.words_law.Goals as goal

pub returns-clause-names : goal.returns-clause-names
returns-clause-names c = name_text

pub returns-clause-moments : goal.returns-clause-moments
returns-clause-moments c = moment_text
