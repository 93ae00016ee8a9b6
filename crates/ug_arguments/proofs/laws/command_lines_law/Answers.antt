use Rattle.std.proofs.Common.{refl}
use Rattle.std.specs.Fmt.{digits}
use Rattle.clap.proofs.OnLiterals.{clap_on_literals}
use Rattle.ug_lines.specs.Numbers.{number_in}
use Rattle.ug_proto.specs.Texts.{request_text}
use Rattle.ug_types.specs.Access.{privilege_word}
use Rattle.ug_arguments.specs.CommandWords.{asking_word_in, rule_word_in, word_in}
use Rattle.ug_arguments.specs.Commands.{command_in, default_most, default_settings, default_socket, meaning, settings_path}
use Rattle.ug_arguments.specs.SimpleCommands.{app_of_word, rows_in}
use Rattle.ug_arguments.proofs.laws.command_lines_law.Goals as goal

pub returns-clause-replay : goal.returns-clause-replay
unfolding digits clap_on_literals number_in request_text privilege_word asking_word_in rule_word_in word_in command_in default_most default_settings default_socket meaning settings_path app_of_word rows_in
returns-clause-replay c = refl

pub returns-clause-summary : goal.returns-clause-summary
unfolding digits clap_on_literals number_in request_text privilege_word asking_word_in rule_word_in word_in command_in default_most default_settings default_socket meaning settings_path app_of_word rows_in
returns-clause-summary c = refl

pub returns-clause-make_script : goal.returns-clause-make_script
unfolding digits clap_on_literals number_in request_text privilege_word asking_word_in rule_word_in word_in command_in default_most default_settings default_socket meaning settings_path app_of_word rows_in
returns-clause-make_script c = refl

pub returns-clause-read_descriptor : goal.returns-clause-read_descriptor
unfolding digits clap_on_literals number_in request_text privilege_word asking_word_in rule_word_in word_in command_in default_most default_settings default_socket meaning settings_path app_of_word rows_in
returns-clause-read_descriptor c = refl

pub returns-clause-check_rules : goal.returns-clause-check_rules
unfolding digits clap_on_literals number_in request_text privilege_word asking_word_in rule_word_in word_in command_in default_most default_settings default_socket meaning settings_path app_of_word rows_in
returns-clause-check_rules c = refl

pub returns-clause-lint_rules : goal.returns-clause-lint_rules
unfolding digits clap_on_literals number_in request_text privilege_word asking_word_in rule_word_in word_in command_in default_most default_settings default_socket meaning settings_path app_of_word rows_in
returns-clause-lint_rules c = refl

pub returns-clause-prune : goal.returns-clause-prune
unfolding digits clap_on_literals number_in request_text privilege_word asking_word_in rule_word_in word_in command_in default_most default_settings default_socket meaning settings_path app_of_word rows_in
returns-clause-prune c = refl

pub returns-clause-generate_policy : goal.returns-clause-generate_policy
unfolding digits clap_on_literals number_in request_text privilege_word asking_word_in rule_word_in word_in command_in default_most default_settings default_socket meaning settings_path app_of_word rows_in
returns-clause-generate_policy c = refl
