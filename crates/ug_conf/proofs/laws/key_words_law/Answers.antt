use Rattle.std.proofs.Common.{refl}
use Rattle.ug_conf.specs.Keys.{key_of, unused_key_of}
use Rattle.ug_conf.specs.Settings.{defaults}
use Rattle.ug_conf.specs.Values.{default_of, flag_of, present_of}
use Rattle.ug_lines.specs.LineReading.{lines_read}
use Rattle.ug_lines.specs.Lines.{rest_from, whole_from}
use Rattle.ug_types.specs.Parameters.{inserted_of}
use Rattle.ug_types.specs.Targets.{target_of}
use Rattle.ug_conf.proofs.laws.key_words_law.Goals as goal

pub returns-clause-rule_file : goal.returns-clause-rule_file
unfolding defaults key_of unused_key_of lines_read whole_from rest_from default_of flag_of present_of inserted_of target_of
returns-clause-rule_file c = refl

pub returns-clause-rule_folder : goal.returns-clause-rule_folder
unfolding defaults key_of unused_key_of lines_read whole_from rest_from default_of flag_of present_of inserted_of target_of
returns-clause-rule_folder c = refl

pub returns-clause-implicit : goal.returns-clause-implicit
unfolding defaults key_of unused_key_of lines_read whole_from rest_from default_of flag_of present_of inserted_of target_of
returns-clause-implicit c = refl

pub returns-clause-present_device : goal.returns-clause-present_device
unfolding defaults key_of unused_key_of lines_read whole_from rest_from default_of flag_of present_of inserted_of target_of
returns-clause-present_device c = refl

pub returns-clause-present_controller : goal.returns-clause-present_controller
unfolding defaults key_of unused_key_of lines_read whole_from rest_from default_of flag_of present_of inserted_of target_of
returns-clause-present_controller c = refl

pub returns-clause-inserted : goal.returns-clause-inserted
unfolding defaults key_of unused_key_of lines_read whole_from rest_from default_of flag_of present_of inserted_of target_of
returns-clause-inserted c = refl

pub returns-clause-default : goal.returns-clause-default
unfolding defaults key_of unused_key_of lines_read whole_from rest_from default_of flag_of present_of inserted_of target_of
returns-clause-default c = refl

pub returns-clause-users : goal.returns-clause-users
unfolding defaults key_of unused_key_of lines_read whole_from rest_from default_of flag_of present_of inserted_of target_of
returns-clause-users c = refl

pub returns-clause-groups : goal.returns-clause-groups
unfolding defaults key_of unused_key_of lines_read whole_from rest_from default_of flag_of present_of inserted_of target_of
returns-clause-groups c = refl

pub returns-clause-access_folder : goal.returns-clause-access_folder
unfolding defaults key_of unused_key_of lines_read whole_from rest_from default_of flag_of present_of inserted_of target_of
returns-clause-access_folder c = refl

pub returns-clause-with_port : goal.returns-clause-with_port
unfolding defaults key_of unused_key_of lines_read whole_from rest_from default_of flag_of present_of inserted_of target_of
returns-clause-with_port c = refl

pub returns-clause-restore : goal.returns-clause-restore
unfolding defaults key_of unused_key_of lines_read whole_from rest_from default_of flag_of present_of inserted_of target_of
returns-clause-restore c = refl

pub returns-clause-backend : goal.returns-clause-backend
unfolding defaults key_of unused_key_of lines_read whole_from rest_from default_of flag_of present_of inserted_of target_of
returns-clause-backend c = refl

pub returns-clause-audit : goal.returns-clause-audit
unfolding defaults key_of unused_key_of lines_read whole_from rest_from default_of flag_of present_of inserted_of target_of
returns-clause-audit c = refl

pub returns-clause-audit_file : goal.returns-clause-audit_file
unfolding defaults key_of unused_key_of lines_read whole_from rest_from default_of flag_of present_of inserted_of target_of
returns-clause-audit_file c = refl

pub returns-clause-hide : goal.returns-clause-hide
unfolding defaults key_of unused_key_of lines_read whole_from rest_from default_of flag_of present_of inserted_of target_of
returns-clause-hide c = refl
