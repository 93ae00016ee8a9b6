use Rattle.std.proofs.Common.{◌↔◌, IsTrue, None, ap, subst, sym}
use Rattle.ug_types.specs.declared.rule.Query.{Query}
use Rattle.ug_types.specs.declared.rule.Rule.{Rule}
use Rattle.ug_rule.specs.Grammar.{WellFormed}
use Rattle.ug_match.specs.Queries.{query_matches}
use Rattle.ug_print.specs.Alike.{IsAlike}
use Rattle.ug_print.specs.Bytes.{RuleOfBytes}
use Rattle.ug_print.specs.Generated.{generated_of}
use Rattle.ug_print.proofs.Alike.{alike, itself}
use Rattle.ug_print.proofs.GeneratedFits.{generated_bytes, generated_well}
use Rattle.ug_print.proofs.generating.generated_rule.Goals as goal

pub returns-in-Ok-clause-well_formed : goal.returns-in-Ok-clause-well_formed
unfolding generated_of
returns-in-Ok-clause-well_formed c =
    let rule : Query → Rule = λ query. record { target = c.args.target; query = query; conds = None } in
    subst WellFormed (ap rule (sym c.in-Ok.ensures.query)) (generated_well c.args.device.now c.args.target c.args.with_port c.in-Ok.ensures.range)

pub returns-in-Ok-clause-bytes : goal.returns-in-Ok-clause-bytes
unfolding generated_of
returns-in-Ok-clause-bytes c =
    let rule : Query → Rule = λ query. record { target = c.args.target; query = query; conds = None } in
    subst RuleOfBytes (ap rule (sym c.in-Ok.ensures.query)) (generated_bytes c.args.device.now c.args.target c.args.with_port c.in-Ok.ensures.range)

pub returns-in-Ok-clause-own : goal.returns-in-Ok-clause-own
returns-in-Ok-clause-own c = subst (λ (q : Query). IsTrue (query_matches q c.args.device.now)) (sym c.in-Ok.ensures.query) (itself c.args.device.now c.args.with_port)

pub returns-in-Ok-clause-alike : goal.returns-in-Ok-clause-alike
returns-in-Ok-clause-alike c = λ other. subst (λ (q : Query). IsTrue (query_matches q other) ↔ IsAlike c.args.with_port c.args.device.now other) (sym c.in-Ok.ensures.query) (alike c.args.device.now other c.args.with_port)
