use Rattle.std.proofs.Common.{◌≡◌, sym, subst, arith}
use Rattle.std.specs.Prelude.{decimal}
use Rattle.ug_lines.specs.Splitting.{IsLine}
use Rattle.ug_ruleset.proofs.RowLines.{decimal_line}
use Rattle.ug_core.proofs.choosing.id_line.Goals as goal

pub returns-clause-whole : goal.returns-clause-whole
returns-clause-whole c =
    let is : c.as_bytes.result.now ≡ decimal c.args.id = cc in
    c.one_line.ensures.whole (subst IsLine (sym is) (decimal_line c.args.id (omega arith)))
