use Rattle.std.proofs.Common.{◌∙◌}
use Rattle.ug_match.specs.Covers.{covers_text}
use Rattle.ug_match.proofs.Texts.{holds_behind}
use Rattle.ug_match.proofs.query.text_holds.Goals as goal

pub returns-in-Some : goal.returns-in-Some
returns-in-Some c = rw c.in-Some.is (c.holds.ensures ∙ holds_behind covers_text c.in-Some.values.op c.in-Some.values.items c.args.text)
