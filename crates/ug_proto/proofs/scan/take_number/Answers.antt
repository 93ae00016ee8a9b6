use Rattle.std.proofs.Common.{sym, ◌∙◌, arith}
use Rattle.ug_proto.proofs.Scans.{no_bytes, some_bytes_by, nothing_begun, number_begun, no_number_then, no_number_begun}
use Rattle.ug_proto.proofs.scan.take_number.Goals as goal

pub returns-then-is_empty-clause-err : goal.returns-then-is_empty-clause-err
returns-then-is_empty-clause-err c = nothing_begun c.args.least c.args.most c.args.end c.args.text.now c.requires.most (no_bytes c.args.text.now (sym c.is_empty.ensures ∙ c.if-is_empty.true))

pub returns-in-None-bounded_number-clause-err : goal.returns-in-None-bounded_number-clause-err
returns-in-None-bounded_number-clause-err c =
    no_number_then c.args.least c.args.most c.args.end c.args.text.now c.in-Some.word.now c.in-Some.rest.now c.requires.digits (omega arith) c.in-Some.ensures.some.0 c.in-Some.ensures.some.1 c.in-None-bounded_number.ensures.none

pub returns-in-Some-bounded_number-2-clause-err : goal.returns-in-Some-bounded_number-2-clause-err
returns-in-Some-bounded_number-2-clause-err c =
    number_begun c.args.least c.args.most c.args.end c.in-Some-bounded_number-2.field-0 c.args.text.now c.in-Some-bounded_number-2.ensures.some.0 c.in-Some-bounded_number-2.ensures.some.1

pub returns-in-None-bounded_number-2-clause-err : goal.returns-in-None-bounded_number-2-clause-err
returns-in-None-bounded_number-2-clause-err c =
    no_number_begun c.args.least c.args.most c.args.end c.args.text.now c.requires.least (omega arith) c.in-None.ensures.none (some_bytes_by c.args.text.now (sym c.is_empty.ensures ∙ c.if-is_empty.false)) c.in-None-bounded_number-2.ensures.none
