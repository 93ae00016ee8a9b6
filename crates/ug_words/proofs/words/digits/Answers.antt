use Rattle.std.proofs.Common.{sym, ◌∙◌}
use Rattle.ug_words.proofs.Digits.{digits-stop}
use Rattle.ug_words.proofs.words.digits.Goals as goal

pub returns-in-None : goal.returns-in-None
returns-in-None c = digits-stop c.args.digits.now c.loop-byte.byte-index c.loop-byte.number c.loop-byte-test.true c.loop-byte.invariant (sym c.in-None.is ∙ c.digit_onto.ensures)
