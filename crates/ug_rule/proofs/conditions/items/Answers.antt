use Rattle.std.proofs.Common.{List, Result, arith, sym, subst, ap, ◌∙◌, length}
use Rattle.ug_words.specs.declared.token.Token.{Token}
use Rattle.ug_types.specs.declared.rule.Cond.{Cond}
use Rattle.ug_rule.specs.declared.fault.Fault.{Fault}
use Rattle.ug_rule.specs.Conditions.{conds_from}
use Rattle.ug_rule.specs.Tokens.{Reads}
use Rattle.ug_rule.proofs.CondSets.{goes_on, stops, ends, closes_here}
use Rattle.ug_rule.proofs.conditions.items.Goals as goal

pub returns-then-closes-clause-is : goal.returns-then-closes-clause-is
returns-then-closes-clause-is c =
    subst (λ (r : Result (List Cond × List Token) Fault). Reads c.filled.result c.next.new.self r)
    (closes_here c.loop-token.invariant.here.0 c.args.line.now c.args.ending c.loop-token.items c.loop-token.tokens c.in-Some.token c.next.new.self _ c.in-Some.ensures.some c.loop-token.invariant.here.1 (sym c.closes.ensures ∙ c.if-closes.true) c.loop-token.invariant.here.2)
    (c.filled.ensures c.next.new.self)

pub loop-token-preserved : goal.loop-token-preserved
loop-token-preserved c =
    let more = goes_on c.loop-token.invariant.here.0 c.args.line.now c.args.ending c.loop-token.items c.loop-token.tokens c.in-Some.token c.next.new.self c.in-Ok.item c.condition_from.new.tokens _ c.in-Some.ensures.some c.loop-token.invariant.here.1 (sym c.closes.ensures ∙ c.if-closes.false) c.in-Ok.ensures.is c.condition_from.ensures.shorter c.loop-token.invariant.here.2 in
    record {
      here = (more.0, more.1, ap (λ (l : List Cond). conds_from more.0 c.args.line.now c.args.ending l c.condition_from.new.tokens) c.in_ok-push-in-Ok.ensures.ok ∙ more.2);
      shorter = omega (arith, c.condition_from.ensures.shorter, ap length c.in-Some.ensures.some, c.loop-token.invariant.shorter);
    }

pub returns-in-Err-clause-is : goal.returns-in-Err-clause-is
returns-in-Err-clause-is c = stops c.loop-token.invariant.here.0 c.args.line.now c.args.ending c.loop-token.items c.loop-token.tokens c.in-Some.token c.next.new.self c.in-Err.stop c.condition_from.new.tokens _ c.in-Some.ensures.some c.loop-token.invariant.here.1 (sym c.closes.ensures ∙ c.if-closes.false) c.in-Err.ensures.is c.loop-token.invariant.here.2

pub returns-clause-is : goal.returns-clause-is
returns-clause-is c = rw c.missing.ensures (ends c.loop-token.invariant.here.0 c.args.line.now c.args.ending c.loop-token.items c.loop-token.tokens _ c.in_default.ensures.none.0 c.loop-token.invariant.here.2)
