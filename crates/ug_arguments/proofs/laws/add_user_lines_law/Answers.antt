use Rattle.std.proofs.Common.{refl}
use Rattle.std.specs.Fmt.{digits}
use Rattle.clap.proofs.OnLiterals.{clap_on_literals}
use Rattle.ug_lines.specs.Numbers.{number_in}
use Rattle.ug_proto.specs.Texts.{request_text}
use Rattle.ug_types.specs.Access.{privilege_word}
use Rattle.ug_arguments.specs.CommandWords.{asking_word_in, rule_word_in, word_in}
use Rattle.ug_arguments.specs.Commands.{command_in, default_most, default_settings, default_socket, meaning, settings_path}
use Rattle.ug_arguments.specs.SimpleCommands.{app_of_word, rows_in}
use Rattle.ug_arguments.proofs.laws.add_user_lines_law.Goals as goal

pub returns-clause-add_user : goal.returns-clause-add_user
unfolding digits clap_on_literals number_in request_text privilege_word asking_word_in rule_word_in word_in command_in default_most default_settings default_socket meaning settings_path app_of_word rows_in
returns-clause-add_user c = refl

pub returns-clause-devices : goal.returns-clause-devices
unfolding digits clap_on_literals number_in request_text privilege_word asking_word_in rule_word_in word_in command_in default_most default_settings default_socket meaning settings_path app_of_word rows_in
returns-clause-devices c = refl

pub returns-clause-policy : goal.returns-clause-policy
unfolding digits clap_on_literals number_in request_text privilege_word asking_word_in rule_word_in word_in command_in default_most default_settings default_socket meaning settings_path app_of_word rows_in
returns-clause-policy c = refl

pub returns-clause-exceptions : goal.returns-clause-exceptions
unfolding digits clap_on_literals number_in request_text privilege_word asking_word_in rule_word_in word_in command_in default_most default_settings default_socket meaning settings_path app_of_word rows_in
returns-clause-exceptions c = refl

pub returns-clause-parameters : goal.returns-clause-parameters
unfolding digits clap_on_literals number_in request_text privilege_word asking_word_in rule_word_in word_in command_in default_most default_settings default_socket meaning settings_path app_of_word rows_in
returns-clause-parameters c = refl
