use Rattle.std.proofs.Common.{sym, ◌∙◌}
use Rattle.ug_client.proofs.Missing.{marked_missing}
use Rattle.ug_client.proofs.so_far.missing_lines.Goals as goal

pub returns-then-starts_with : goal.returns-then-starts_with
returns-then-starts_with c = marked_missing c.args.text.now (sym c.starts_with.ensures.value ∙ c.if-starts_with.true) c.in-None.ensures.none
