use Rattle.std.proofs.Common.{refl}
use Rattle.std.specs.Fmt.{digits}
use Rattle.clap.proofs.OnLiterals.{clap_on_literals}
use Rattle.ug_lines.specs.Numbers.{number_in}
use Rattle.ug_proto.specs.Texts.{request_text}
use Rattle.ug_types.specs.Access.{privilege_word}
use Rattle.ug_arguments.specs.CommandWords.{asking_word_in, rule_word_in, word_in}
use Rattle.ug_arguments.specs.Commands.{command_in, default_most, default_settings, default_socket, meaning, settings_path}
use Rattle.ug_arguments.specs.SimpleCommands.{app_of_word, rows_in}
use Rattle.ug_arguments.proofs.laws.long_options_law.Goals as goal

pub returns-clause-permanent : goal.returns-clause-permanent
unfolding digits clap_on_literals number_in request_text privilege_word asking_word_in rule_word_in word_in command_in default_most default_settings default_socket meaning settings_path app_of_word rows_in
returns-clause-permanent c = refl

pub returns-clause-temporary : goal.returns-clause-temporary
unfolding digits clap_on_literals number_in request_text privilege_word asking_word_in rule_word_in word_in command_in default_most default_settings default_socket meaning settings_path app_of_word rows_in
returns-clause-temporary c = refl

pub returns-clause-after : goal.returns-clause-after
unfolding digits clap_on_literals number_in request_text privilege_word asking_word_in rule_word_in word_in command_in default_most default_settings default_socket meaning settings_path app_of_word rows_in
returns-clause-after c = refl

pub returns-clause-most : goal.returns-clause-most
unfolding digits clap_on_literals number_in request_text privilege_word asking_word_in rule_word_in word_in command_in default_most default_settings default_socket meaning settings_path app_of_word rows_in
returns-clause-most c = refl
