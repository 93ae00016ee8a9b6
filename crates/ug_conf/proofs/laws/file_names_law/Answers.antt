use Rattle.std.proofs.Common.{refl}
use Rattle.ug_conf.specs.FolderFiles.{is_rule_file_name}
use Rattle.ug_conf.proofs.FileNames.{counted, counts}
use Rattle.ug_conf.proofs.laws.file_names_law.Goals as goal

pub returns-clause-counts : goal.returns-clause-counts
returns-clause-counts c name = (counted name, counts name)

pub returns-clause-plain : goal.returns-clause-plain
unfolding is_rule_file_name
returns-clause-plain c = refl

pub returns-clause-hidden : goal.returns-clause-hidden
unfolding is_rule_file_name
returns-clause-hidden c = refl

pub returns-clause-backup : goal.returns-clause-backup
unfolding is_rule_file_name
returns-clause-backup c = refl

pub returns-clause-old : goal.returns-clause-old
unfolding is_rule_file_name
returns-clause-old c = refl

pub returns-clause-spaced : goal.returns-clause-spaced
unfolding is_rule_file_name
returns-clause-spaced c = refl
