use Rattle.std.proofs.Common.{◌≤◌, ◌∙◌, length, sym, ap, arith}
use Rattle.std.specs.List.{find}
use Rattle.ug_arguments.specs.Arguments.{spells_command}
use Rattle.ug_arguments.proofs.ChosenWords.{among_all, chosen, none_chosen, passed_over}
use Rattle.ug_arguments.proofs.command_word.command_word.Goals as goal

pub loop-word-init : goal.loop-word-init
loop-word-init c = ap (find (spells_command c.args.text.now)) c.all-words.ensures ∙ among_all c.args.text.now

pub loop-word-preserved : goal.loop-word-preserved
loop-word-preserved c =
    passed_over c.args.text.now c.all-words.result.now c.loop-word.word-index _ c.loop-word-test.true (sym c.spells_command.ensures ∙ c.if-spells_command.false) c.loop-word.invariant

pub returns-then-spells_command : goal.returns-then-spells_command
returns-then-spells_command c =
    chosen c.args.text.now c.all-words.result.now c.loop-word.word-index _ c.loop-word-test.true (sym c.spells_command.ensures ∙ c.if-spells_command.true) c.loop-word.invariant

pub returns : goal.returns
returns c =
    let past : length c.all-words.result.now ≤ c.loop-word.word-index = omega arith in
    none_chosen c.args.text.now c.all-words.result.now c.loop-word.word-index past c.loop-word.invariant
