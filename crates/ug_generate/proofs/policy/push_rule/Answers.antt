use Rattle.std.proofs.Common.{sym, subst}
use Rattle.std.specs.Prelude.{All}
use Rattle.std.proofs.lemmas.List.Elements.{All-push}
use Rattle.ug_rule.specs.Grammar.{WellFormed}
use Rattle.ug_print.specs.Bytes.{RuleOfBytes}
use Rattle.ug_generate.proofs.policy.push_rule.Goals as goal

pub returns-in_ok-push-in-Good-clause-well_formed : goal.returns-in_ok-push-in-Good-clause-well_formed
returns-in_ok-push-in-Good-clause-well_formed c = λ all.
    subst (All WellFormed) (sym c.in_ok-push-in-Good.ensures.ok) (All-push WellFormed c.args.rules.now c.in_ok-rule-in-Good.rule all c.in_ok-rule-in-Good.ensures.well_formed)

pub returns-in_ok-push-in-Good-clause-bytes : goal.returns-in_ok-push-in-Good-clause-bytes
returns-in_ok-push-in-Good-clause-bytes c = λ all.
    subst (All RuleOfBytes) (sym c.in_ok-push-in-Good.ensures.ok) (All-push RuleOfBytes c.args.rules.now c.in_ok-rule-in-Good.rule all c.in_ok-rule-in-Good.ensures.bytes)
