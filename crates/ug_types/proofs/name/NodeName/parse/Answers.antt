use Rattle.std.proofs.Common.{length, sym, ap}
use Rattle.std.proofs.lemmas.Bool.{eqb-false, eqb-true}
use Rattle.ug_types.proofs.Parsed.{exact_place, read_place, long_place, empty_place, empty_name}
use Rattle.ug_types.proofs.name.NodeName.parse.Goals as goal

pub returns-then-is_empty-clause-ok : goal.returns-then-is_empty-clause-ok
returns-then-is_empty-clause-ok c = empty_name c.args.text.now (eqb-true (length c.args.text.now) 0 (sym c.if-is_empty.ensures))

pub returns-then-is_empty-clause-bad_form : goal.returns-then-is_empty-clause-bad_form
returns-then-is_empty-clause-bad_form c = empty_place c.args.text.now (eqb-true (length c.args.text.now) 0 (sym c.if-is_empty.ensures))

pub returns-in-Some-clause-bad_form : goal.returns-in-Some-clause-bad_form
returns-in-Some-clause-bad_form c = exact_place c.args.text.now c.in-Some.place (λ e. eqb-false (length c.args.text.now) 0 (sym c.if-is_empty.ensures) (ap length e)) c.in-Some.ensures

pub returns-then-text-gt31-clause-bad_form : goal.returns-then-text-gt31-clause-bad_form
returns-then-text-gt31-clause-bad_form c = long_place c.args.text.now c.in_default.ensures

pub returns-clause-bad_form : goal.returns-clause-bad_form
returns-clause-bad_form c = read_place c.args.text.now c.holding.result c.in_default.ensures
