use Rattle.std.proofs.Common.{sym, ◌∙◌}
use Rattle.ug_client.proofs.Front.{mark_begun, mark_never, mark_stands}
use Rattle.ug_client.proofs.notice.front_of_begun.Goals as goal

pub returns-then-starts_with : goal.returns-then-starts_with
returns-then-starts_with c = mark_stands c.args.text.now (sym c.starts_with.ensures.value ∙ c.if-starts_with.true) c.requires

pub returns-then-starts_with-2 : goal.returns-then-starts_with-2
returns-then-starts_with-2 c = mark_begun c.args.text.now (sym c.starts_with.ensures.value ∙ c.if-starts_with.false) (sym c.starts_with-2.ensures.value ∙ c.if-starts_with-2.true) c.requires

pub returns : goal.returns
returns c = mark_never c.args.text.now (sym c.starts_with.ensures.value ∙ c.if-starts_with.false) (sym c.starts_with-2.ensures.value ∙ c.if-starts_with-2.false)
