use Rattle.std.proofs.Common.{refl}
use Rattle.std.specs.Fmt.{digits}
use Rattle.clap.proofs.OnLiterals.{clap_on_literals}
use Rattle.ug_lines.specs.Numbers.{number_in}
use Rattle.ug_proto.specs.Texts.{request_text}
use Rattle.ug_types.specs.Access.{privilege_word}
use Rattle.ug_arguments.specs.CommandWords.{asking_word_in, rule_word_in, word_in}
use Rattle.ug_arguments.specs.Commands.{command_in, default_most, default_settings, default_socket, meaning, settings_path}
use Rattle.ug_arguments.specs.SimpleCommands.{app_of_word, rows_in}
use Rattle.ug_arguments.proofs.laws.asking_lines_law.Goals as goal

pub returns-clause-get_parameter : goal.returns-clause-get_parameter
unfolding digits clap_on_literals number_in request_text privilege_word asking_word_in rule_word_in word_in command_in default_most default_settings default_socket meaning settings_path app_of_word rows_in
returns-clause-get_parameter c = refl

pub returns-clause-set_parameter : goal.returns-clause-set_parameter
unfolding digits clap_on_literals number_in request_text privilege_word asking_word_in rule_word_in word_in command_in default_most default_settings default_socket meaning settings_path app_of_word rows_in
returns-clause-set_parameter c = refl

pub returns-clause-list_devices : goal.returns-clause-list_devices
unfolding digits clap_on_literals number_in request_text privilege_word asking_word_in rule_word_in word_in command_in default_most default_settings default_socket meaning settings_path app_of_word rows_in
returns-clause-list_devices c = refl

pub returns-clause-allow_device : goal.returns-clause-allow_device
unfolding digits clap_on_literals number_in request_text privilege_word asking_word_in rule_word_in word_in command_in default_most default_settings default_socket meaning settings_path app_of_word rows_in
returns-clause-allow_device c = refl

pub returns-clause-block_device : goal.returns-clause-block_device
unfolding digits clap_on_literals number_in request_text privilege_word asking_word_in rule_word_in word_in command_in default_most default_settings default_socket meaning settings_path app_of_word rows_in
returns-clause-block_device c = refl

pub returns-clause-reject_device : goal.returns-clause-reject_device
unfolding digits clap_on_literals number_in request_text privilege_word asking_word_in rule_word_in word_in command_in default_most default_settings default_socket meaning settings_path app_of_word rows_in
returns-clause-reject_device c = refl

pub returns-clause-permanent : goal.returns-clause-permanent
unfolding digits clap_on_literals number_in request_text privilege_word asking_word_in rule_word_in word_in command_in default_most default_settings default_socket meaning settings_path app_of_word rows_in
returns-clause-permanent c = refl

pub returns-clause-list_rules : goal.returns-clause-list_rules
unfolding digits clap_on_literals number_in request_text privilege_word asking_word_in rule_word_in word_in command_in default_most default_settings default_socket meaning settings_path app_of_word rows_in
returns-clause-list_rules c = refl

pub returns-clause-append_rule : goal.returns-clause-append_rule
unfolding digits clap_on_literals number_in request_text privilege_word asking_word_in rule_word_in word_in command_in default_most default_settings default_socket meaning settings_path app_of_word rows_in
returns-clause-append_rule c = refl

pub returns-clause-temporary : goal.returns-clause-temporary
unfolding digits clap_on_literals number_in request_text privilege_word asking_word_in rule_word_in word_in command_in default_most default_settings default_socket meaning settings_path app_of_word rows_in
returns-clause-temporary c = refl

pub returns-clause-behind : goal.returns-clause-behind
unfolding digits clap_on_literals number_in request_text privilege_word asking_word_in rule_word_in word_in command_in default_most default_settings default_socket meaning settings_path app_of_word rows_in
returns-clause-behind c = refl

pub returns-clause-front : goal.returns-clause-front
unfolding digits clap_on_literals number_in request_text privilege_word asking_word_in rule_word_in word_in command_in default_most default_settings default_socket meaning settings_path app_of_word rows_in
returns-clause-front c = refl

pub returns-clause-remove_rule : goal.returns-clause-remove_rule
unfolding digits clap_on_literals number_in request_text privilege_word asking_word_in rule_word_in word_in command_in default_most default_settings default_socket meaning settings_path app_of_word rows_in
returns-clause-remove_rule c = refl

pub returns-clause-socket : goal.returns-clause-socket
unfolding digits clap_on_literals number_in request_text privilege_word asking_word_in rule_word_in word_in command_in default_most default_settings default_socket meaning settings_path app_of_word rows_in
returns-clause-socket c = refl

pub returns-clause-watch : goal.returns-clause-watch
unfolding digits clap_on_literals number_in request_text privilege_word asking_word_in rule_word_in word_in command_in default_most default_settings default_socket meaning settings_path app_of_word rows_in
returns-clause-watch c = refl

pub returns-clause-most : goal.returns-clause-most
unfolding digits clap_on_literals number_in request_text privilege_word asking_word_in rule_word_in word_in command_in default_most default_settings default_socket meaning settings_path app_of_word rows_in
returns-clause-most c = refl
