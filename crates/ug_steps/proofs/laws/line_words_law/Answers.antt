use Rattle.std.proofs.Common.{refl}
use Rattle.std.specs.Fmt.{digits}
use Rattle.hex.specs.Hex.{decode_pairs}
use Rattle.ug_lines.specs.Numbers.{number_in}
use Rattle.ug_words.specs.Lexing.{front_of, quoted_from, tokens_from, tokens_of}
use Rattle.ug_steps.specs.Grammar.{is_effect, is_fail, mishap_word, step_by_word, step_of_line}
use Rattle.ug_words.specs.Words.{interface_of, star, two_of, two_stars}
use Rattle.ug_steps.specs.IfaceLines.{byte_word, iface_name_of, new_iface_of, triple_word}
use Rattle.ug_steps.specs.LineWords.{line_word_of, plan_word_of, setup_word_of}
use Rattle.ug_steps.specs.Plugs.{plugged_device, start_of}
use Rattle.ug_steps.specs.Words.{bytes_of, moment_word, name_of, offset_of}
use Rattle.ug_steps.proofs.laws.line_words_law.Goals as goal

pub returns-clause-comment : goal.returns-clause-comment
unfolding digits decode_pairs number_in front_of quoted_from tokens_from tokens_of is_effect is_fail mishap_word step_by_word step_of_line line_word_of plan_word_of setup_word_of plugged_device start_of bytes_of moment_word name_of offset_of
returns-clause-comment c = refl

pub returns-clause-restart : goal.returns-clause-restart
unfolding digits decode_pairs number_in front_of quoted_from tokens_from tokens_of is_effect is_fail mishap_word step_by_word step_of_line line_word_of plan_word_of setup_word_of plugged_device start_of bytes_of moment_word name_of offset_of
returns-clause-restart c = refl

pub returns-clause-plug : goal.returns-clause-plug
unfolding digits decode_pairs number_in front_of quoted_from tokens_from tokens_of is_effect is_fail mishap_word step_by_word step_of_line line_word_of plan_word_of setup_word_of plugged_device start_of bytes_of moment_word name_of offset_of
returns-clause-plug c = refl

pub returns-clause-plug_off : goal.returns-clause-plug_off
unfolding digits decode_pairs number_in front_of quoted_from tokens_from tokens_of is_effect is_fail mishap_word step_by_word step_of_line line_word_of plan_word_of setup_word_of plugged_device start_of bytes_of moment_word name_of offset_of
returns-clause-plug_off c = refl

pub returns-clause-unplug : goal.returns-clause-unplug
unfolding digits decode_pairs number_in front_of quoted_from tokens_from tokens_of is_effect is_fail mishap_word step_by_word step_of_line line_word_of plan_word_of setup_word_of plugged_device start_of bytes_of moment_word name_of offset_of
returns-clause-unplug c = refl

pub returns-clause-before : goal.returns-clause-before
unfolding digits decode_pairs number_in front_of quoted_from tokens_from tokens_of is_effect is_fail mishap_word step_by_word step_of_line line_word_of plan_word_of setup_word_of plugged_device start_of bytes_of moment_word name_of offset_of
returns-clause-before c = refl

pub returns-clause-after : goal.returns-clause-after
unfolding digits decode_pairs number_in front_of quoted_from tokens_from tokens_of is_effect is_fail mishap_word step_by_word step_of_line line_word_of plan_word_of setup_word_of plugged_device start_of bytes_of moment_word name_of offset_of
returns-clause-after c = refl

pub returns-clause-fail : goal.returns-clause-fail
unfolding digits decode_pairs number_in front_of quoted_from tokens_from tokens_of is_effect is_fail mishap_word step_by_word step_of_line line_word_of plan_word_of setup_word_of plugged_device start_of bytes_of moment_word name_of offset_of
returns-clause-fail c = refl

pub returns-clause-fail_effect : goal.returns-clause-fail_effect
unfolding digits decode_pairs number_in front_of quoted_from tokens_from tokens_of is_effect is_fail mishap_word step_by_word step_of_line line_word_of plan_word_of setup_word_of plugged_device start_of bytes_of moment_word name_of offset_of
returns-clause-fail_effect c = refl

pub returns-clause-disk_fail : goal.returns-clause-disk_fail
unfolding digits decode_pairs number_in front_of quoted_from tokens_from tokens_of is_effect is_fail mishap_word step_by_word step_of_line line_word_of plan_word_of setup_word_of plugged_device start_of bytes_of moment_word name_of offset_of
returns-clause-disk_fail c = refl

pub returns-clause-disk_fail_effect : goal.returns-clause-disk_fail_effect
unfolding digits decode_pairs number_in front_of quoted_from tokens_from tokens_of is_effect is_fail mishap_word step_by_word step_of_line line_word_of plan_word_of setup_word_of plugged_device start_of bytes_of moment_word name_of offset_of
returns-clause-disk_fail_effect c = refl

pub returns-clause-stop_old : goal.returns-clause-stop_old
unfolding digits decode_pairs number_in front_of quoted_from tokens_from tokens_of is_effect is_fail mishap_word step_by_word step_of_line line_word_of plan_word_of setup_word_of plugged_device start_of bytes_of moment_word name_of offset_of
returns-clause-stop_old c = refl

pub returns-clause-stop_new : goal.returns-clause-stop_new
unfolding digits decode_pairs number_in front_of quoted_from tokens_from tokens_of is_effect is_fail mishap_word step_by_word step_of_line line_word_of plan_word_of setup_word_of plugged_device start_of bytes_of moment_word name_of offset_of
returns-clause-stop_new c = refl

pub returns-clause-sweep : goal.returns-clause-sweep
unfolding digits decode_pairs number_in front_of quoted_from tokens_from tokens_of is_effect is_fail mishap_word step_by_word step_of_line line_word_of plan_word_of setup_word_of plugged_device start_of bytes_of moment_word name_of offset_of
returns-clause-sweep c = refl

pub returns-clause-order : goal.returns-clause-order
unfolding digits decode_pairs number_in front_of quoted_from tokens_from tokens_of is_effect is_fail mishap_word step_by_word step_of_line line_word_of plan_word_of setup_word_of plugged_device start_of bytes_of moment_word name_of offset_of
returns-clause-order c = refl

pub returns-clause-hint : goal.returns-clause-hint
unfolding digits decode_pairs number_in front_of quoted_from tokens_from tokens_of is_effect is_fail mishap_word step_by_word step_of_line line_word_of plan_word_of setup_word_of plugged_device start_of bytes_of moment_word name_of offset_of
returns-clause-hint c = refl

pub returns-clause-conf : goal.returns-clause-conf
unfolding digits decode_pairs number_in front_of quoted_from tokens_from tokens_of is_effect is_fail mishap_word step_by_word step_of_line line_word_of plan_word_of setup_word_of plugged_device start_of bytes_of moment_word name_of offset_of
returns-clause-conf c = refl

pub returns-clause-ahead : goal.returns-clause-ahead
unfolding digits decode_pairs number_in front_of quoted_from tokens_from tokens_of is_effect is_fail mishap_word step_by_word step_of_line line_word_of plan_word_of setup_word_of plugged_device start_of bytes_of moment_word name_of offset_of
returns-clause-ahead c = refl

pub returns-clause-behind : goal.returns-clause-behind
unfolding digits decode_pairs number_in front_of quoted_from tokens_from tokens_of is_effect is_fail mishap_word step_by_word step_of_line line_word_of plan_word_of setup_word_of plugged_device start_of bytes_of moment_word name_of offset_of
returns-clause-behind c = refl

pub returns-clause-iface : goal.returns-clause-iface
unfolding digits decode_pairs number_in front_of quoted_from tokens_from tokens_of is_effect is_fail mishap_word step_by_word step_of_line line_word_of plan_word_of setup_word_of plugged_device start_of bytes_of moment_word name_of offset_of byte_word iface_name_of new_iface_of triple_word interface_of two_of star two_stars
returns-clause-iface c = refl

pub returns-clause-uniface : goal.returns-clause-uniface
unfolding digits decode_pairs number_in front_of quoted_from tokens_from tokens_of is_effect is_fail mishap_word step_by_word step_of_line line_word_of plan_word_of setup_word_of plugged_device start_of bytes_of moment_word name_of offset_of byte_word iface_name_of new_iface_of triple_word interface_of two_of star two_stars
returns-clause-uniface c = refl

pub returns-clause-uniface_before : goal.returns-clause-uniface_before
unfolding digits decode_pairs number_in front_of quoted_from tokens_from tokens_of is_effect is_fail mishap_word step_by_word step_of_line line_word_of plan_word_of setup_word_of plugged_device start_of bytes_of moment_word name_of offset_of byte_word iface_name_of new_iface_of triple_word interface_of two_of star two_stars
returns-clause-uniface_before c = refl
