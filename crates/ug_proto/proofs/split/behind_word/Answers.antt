use Rattle.std.proofs.Common.{◌∙◌, ℕ, drop, ap}
use Rattle.ug_types.proofs.Known.{to_end}
use Rattle.ug_proto.proofs.Words.{dropped_word}
use Rattle.ug_proto.proofs.split.behind_word.Goals as goal

pub returns-clause-is : goal.returns-clause-is
returns-clause-is c = to_end c.word_length.result c.args.text.now ∙ ap (λ (n : ℕ). drop n c.args.text.now) c.word_length.ensures.is ∙ dropped_word c.args.text.now
