use Rattle.std.proofs.Common.{rules}
use Rattle.ug_types.specs.declared.rule.Rule.{Rule}
use Rattle.ug_print.specs.Bytes.{RuleOfBytes}
use Rattle.ug_print.specs.Words.{rule_text}
use Rattle.ug_print.proofs.Printed.{answer_bytes, answer_reads}
use Rattle.ug_print.proofs.printing.print_rule.Goals as goal

pub returns-clause-reads : goal.returns-clause-reads
unfolding rule_text
returns-clause-reads c =
    let rule : Rule = c.args.rule.now in
    let bytes : RuleOfBytes rule = record { query = c.in_ok-put_query.ensures.bytes; conds = c.in_ok-put_conds.ensures.bytes } in
    answer_reads rule c.join.result (search rules) bytes

pub returns-clause-bytes : goal.returns-clause-bytes
returns-clause-bytes c =
    let bytes : RuleOfBytes c.args.rule.now = record { query = c.in_ok-put_query.ensures.bytes; conds = c.in_ok-put_conds.ensures.bytes } in
    answer_bytes c.args.rule.now c.join.result bytes
