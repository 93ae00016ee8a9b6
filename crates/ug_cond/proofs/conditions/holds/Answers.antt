use Rattle.std.proofs.Common.{◌≡◌, List, ◌∷◌, ap, ◌∙◌, sym, ◌&&◌, ◌||◌, drop, ◌+◌, arith}
use Rattle.std.specs.List.{list_all, list_any}
use Rattle.std.proofs.lemmas.List.{at_drop_more, at_drop_all}
use Rattle.ug_types.specs.declared.rule.Cond.{Cond}
use Rattle.ug_cond.specs.Conditions.{condition_holds, conditions_hold}
use Rattle.ug_cond.specs.Words.{behind, random_count, words_of}
use Rattle.ug_cond.proofs.Truths.{conditions_decide}
use Rattle.ug_cond.proofs.Walks.{drawn, after_one, all_more, some_more, behind_more, walked_value}
use Rattle.ug_cond.proofs.conditions.holds.Goals as goal

pub loop-cond-init : goal.loop-cond-init
loop-cond-init g c =
    let one = condition_holds c.args.history.now c.args.ctx.now (g.A.Allowed.records c.args.allowed.now) in
    let stream = g.R.Rng.stream c.args.rng.now in
    record {
      all = ap (λ (cs : List Cond). list_all one (drawn cs stream)) c.as_slice-cond-items.ensures;
      some = ap (λ (cs : List Cond). list_any one (drawn cs stream)) c.as_slice-cond-items.ensures;
      words = ap (λ (cs : List Cond). behind (random_count cs) stream) c.as_slice-cond-items.ensures;
    }

pub loop-cond-preserved : goal.loop-cond-preserved
loop-cond-preserved g c =
    let history = c.args.history.now in
    let ctx = c.args.ctx.now in
    let records = g.A.Allowed.records c.args.allowed.now in
    let one = condition_holds history ctx records in
    let conds = c.as_slice-cond-items.result.now in
    let i = c.loop-cond.cond-index in
    let held = c.cond-item.result in
    let rest = drop (i + 1) conds in
    let stream = g.R.Rng.stream c.loop-cond.rng in
    let next = g.R.Rng.stream c.condition_holds-holds.new.rng in
    let left : drop i conds ≡ held ∷ rest = at_drop_more (λ (cs : List Cond). cs) conds i held c.loop-cond-test.true ∙ ap (λ (d : Cond). d ∷ rest) (sym c.cond-item.is) in
    let words : next ≡ after_one held.kind stream = c.condition_holds-holds.ensures.words in
    let here = c.condition_holds-holds.ensures.value in
    record {
      all =
          all_more history ctx records held rest stream next c.loop-cond.all c.condition_holds-holds.result here words
          ∙ ap (λ (cs : List Cond). c.loop-cond.all && list_all one (drawn cs stream)) (sym left)
          ∙ c.loop-cond.invariant.all;
      some =
          some_more history ctx records held rest stream next c.loop-cond.some c.condition_holds-holds.result here words
          ∙ ap (λ (cs : List Cond). c.loop-cond.some || list_any one (drawn cs stream)) (sym left)
          ∙ c.loop-cond.invariant.some;
      words =
          behind_more held rest stream next words
          ∙ ap (λ (cs : List Cond). behind (random_count cs) stream) (sym left)
          ∙ c.loop-cond.invariant.words;
    }

pub returns-clause-value : goal.returns-clause-value
returns-clause-value g c = walked_value c.args.history.now c.args.ctx.now (g.A.Allowed.records c.args.allowed.now) c.args.conds.now c.as_slice-cond-items.result.now c.loop-cond.cond-index (g.R.Rng.stream c.loop-cond.rng) (g.R.Rng.stream c.args.rng.now) c.loop-cond.all c.loop-cond.some c.by_operator.result (omega arith) c.loop-cond.invariant.all c.loop-cond.invariant.some c.by_operator.ensures

pub returns-clause-judgements : goal.returns-clause-judgements
returns-clause-judgements g c = λ judgements id h.
    let history = c.args.history.now in
    let ctx = c.args.ctx.now in
    let records = g.A.Allowed.records c.args.allowed.now in
    let conds = c.args.conds.now in
    let start = g.R.Rng.stream c.args.rng.now in
    let words = words_of (random_count conds.items) start in
    let value : c.by_operator.result ≡ conditions_hold history ctx records conds words =
    walked_value history ctx records conds c.as_slice-cond-items.result.now c.loop-cond.cond-index (g.R.Rng.stream c.loop-cond.rng) start c.loop-cond.all c.loop-cond.some c.by_operator.result (omega arith) c.loop-cond.invariant.all c.loop-cond.invariant.some c.by_operator.ensures in
    let decided = conditions_decide judgements id history ctx records conds words h in
    (λ t. decided.0 (sym value ∙ t), λ p. value ∙ decided.1 p)

pub returns-clause-words : goal.returns-clause-words
returns-clause-words g c =
    sym (at_drop_all (λ (cs : List Cond). behind (random_count cs) (g.R.Rng.stream c.loop-cond.rng)) c.as_slice-cond-items.result.now c.loop-cond.cond-index (omega arith))
    ∙ c.loop-cond.invariant.words
