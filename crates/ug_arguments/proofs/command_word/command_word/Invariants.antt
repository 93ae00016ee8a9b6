use Rattle.std.proofs.Common.{◌≡◌, drop}
use Rattle.std.specs.List.{find}
use Rattle.ug_arguments.specs.Arguments.{spells_command}
use Rattle.ug_arguments.specs.CommandWords.{word_in}
use Rattle.ug_arguments.proofs.command_word.command_word.Given as goal

abbrev pub invariant-loop-word : goal.invariant-loop-word
invariant-loop-word l = find (spells_command l.fn.text) (drop l.word-index l.words) ≡ word_in l.fn.text
