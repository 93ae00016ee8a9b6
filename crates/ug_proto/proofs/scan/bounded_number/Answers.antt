use Rattle.std.proofs.Common.{sym, ◌∙◌, arith}
use Rattle.ug_lines.proofs.Numerals.{number_found}
use Rattle.ug_proto.proofs.Scans.{other_number, not_number}
use Rattle.ug_proto.proofs.scan.bounded_number.Goals as goal

pub returns-then-number-least-clause-none : goal.returns-then-number-least-clause-none
returns-then-number-least-clause-none c = other_number c.args.least c.args.most c.args.word.now c.in-Some.number (omega arith) (sym c.parse_decimal.ensures ∙ c.in-Some.is) (λ h. omega (arith, h.0, c.if-number-least.true))

pub returns-then-number-most-clause-none : goal.returns-then-number-most-clause-none
returns-then-number-most-clause-none c = other_number c.args.least c.args.most c.args.word.now c.in-Some.number (omega arith) (sym c.parse_decimal.ensures ∙ c.in-Some.is) (λ h. omega (arith, h.1, c.if-number-most.true))

pub returns-else-number-most-clause-some : goal.returns-else-number-most-clause-some
returns-else-number-most-clause-some c = ((c.if-number-least.false, c.if-number-most.false), (number_found c.args.word.now c.in-Some.number (sym c.parse_decimal.ensures ∙ c.in-Some.is)).0)

pub returns-in-None-clause-none : goal.returns-in-None-clause-none
returns-in-None-clause-none c = not_number c.args.least c.args.most c.args.word.now (omega arith) (sym c.parse_decimal.ensures ∙ c.in-None.is)
