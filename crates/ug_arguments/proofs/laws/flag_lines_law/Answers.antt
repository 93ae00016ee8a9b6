use Rattle.std.proofs.Common.{refl}
use Rattle.std.specs.Fmt.{digits}
use Rattle.clap.proofs.OnLiterals.{clap_on_literals}
use Rattle.ug_lines.specs.Numbers.{number_in}
use Rattle.ug_proto.specs.Texts.{request_text}
use Rattle.ug_types.specs.Access.{privilege_word}
use Rattle.ug_arguments.specs.CommandWords.{asking_word_in, rule_word_in, word_in}
use Rattle.ug_arguments.specs.Commands.{command_in, default_most, default_settings, default_socket, meaning, settings_path}
use Rattle.ug_arguments.specs.SimpleCommands.{app_of_word, rows_in}
use Rattle.ug_arguments.proofs.laws.flag_lines_law.Goals as goal

pub returns-clause-label : goal.returns-clause-label
unfolding digits clap_on_literals number_in request_text privilege_word asking_word_in rule_word_in word_in command_in default_most default_settings default_socket meaning settings_path app_of_word rows_in
returns-clause-label c = refl

pub returns-clause-label_long : goal.returns-clause-label_long
unfolding digits clap_on_literals number_in request_text privilege_word asking_word_in rule_word_in word_in command_in default_most default_settings default_socket meaning settings_path app_of_word rows_in
returns-clause-label_long c = refl

pub returns-clause-devices : goal.returns-clause-devices
unfolding digits clap_on_literals number_in request_text privilege_word asking_word_in rule_word_in word_in command_in default_most default_settings default_socket meaning settings_path app_of_word rows_in
returns-clause-devices c = refl

pub returns-clause-devices_long : goal.returns-clause-devices_long
unfolding digits clap_on_literals number_in request_text privilege_word asking_word_in rule_word_in word_in command_in default_most default_settings default_socket meaning settings_path app_of_word rows_in
returns-clause-devices_long c = refl

pub returns-clause-both : goal.returns-clause-both
unfolding digits clap_on_literals number_in request_text privilege_word asking_word_in rule_word_in word_in command_in default_most default_settings default_socket meaning settings_path app_of_word rows_in
returns-clause-both c = refl

pub returns-clause-verbose : goal.returns-clause-verbose
unfolding digits clap_on_literals number_in request_text privilege_word asking_word_in rule_word_in word_in command_in default_most default_settings default_socket meaning settings_path app_of_word rows_in
returns-clause-verbose c = refl

pub returns-clause-verbose_long : goal.returns-clause-verbose_long
unfolding digits clap_on_literals number_in request_text privilege_word asking_word_in rule_word_in word_in command_in default_most default_settings default_socket meaning settings_path app_of_word rows_in
returns-clause-verbose_long c = refl

pub returns-clause-wait : goal.returns-clause-wait
unfolding digits clap_on_literals number_in request_text privilege_word asking_word_in rule_word_in word_in command_in default_most default_settings default_socket meaning settings_path app_of_word rows_in
returns-clause-wait c = refl

pub returns-clause-wait_long : goal.returns-clause-wait_long
unfolding digits clap_on_literals number_in request_text privilege_word asking_word_in rule_word_in word_in command_in default_most default_settings default_socket meaning settings_path app_of_word rows_in
returns-clause-wait_long c = refl

pub returns-clause-once : goal.returns-clause-once
unfolding digits clap_on_literals number_in request_text privilege_word asking_word_in rule_word_in word_in command_in default_most default_settings default_socket meaning settings_path app_of_word rows_in
returns-clause-once c = refl

pub returns-clause-once_long : goal.returns-clause-once_long
unfolding digits clap_on_literals number_in request_text privilege_word asking_word_in rule_word_in word_in command_in default_most default_settings default_socket meaning settings_path app_of_word rows_in
returns-clause-once_long c = refl

pub returns-clause-once_alone : goal.returns-clause-once_alone
unfolding digits clap_on_literals number_in request_text privilege_word asking_word_in rule_word_in word_in command_in default_most default_settings default_socket meaning settings_path app_of_word rows_in
returns-clause-once_alone c = refl
