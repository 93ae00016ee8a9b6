use Rattle.ug_words.proofs.Meaning.{in_order}
use Rattle.ug_words.proofs.laws.spans_in_order.Goals as goal

pub returns : goal.returns
returns c = record { order = in_order }
