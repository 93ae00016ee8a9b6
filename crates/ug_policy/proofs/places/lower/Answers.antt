use Rattle.std.proofs.Common.{◌≡◌, ℕ, suc, pred, ◌-◌, ◌<◌, ◌≤◌, ◌++◌, get_or, map, take, drop, arith, sym, ap, ◌∙◌}
use Rattle.ug_policy.proofs.Shifts.{one_more, read_before, stepped, stop_before, stop_first, pred_is}
use Rattle.ug_policy.proofs.places.lower.Goals as goal

pub loop-before-preserved : goal.loop-before-preserved
loop-before-preserved c =
    let n = c.loop-before.before in
    let k : ℕ = n - 1 in
    let some : 0 < n = c.loop-before-test.true in
    let same : n ≡ suc k = omega arith in
    let ps = c.args.places.now in
    let i = c.loop-before.invariant in
    let at_end : c.args.at ≤ get_or c.loop-before.places k 0 = c.if-places-before.true in
    record {
      within = omega (arith, i.within);
      places = stepped pred ps c.loop-before.places n k _ same i.within i.places (pred_is (get_or c.loop-before.places k 0));
      behind = one_more c.args.at ps n k (get_or c.loop-before.places k 0) same i.within (read_before pred ps c.loop-before.places n k same i.within i.places) at_end i.behind;
    }

pub returns-else-places-before-clause-before : goal.returns-else-places-before-clause-before
returns-else-places-before-clause-before c =
    let n = c.loop-before.before in
    let k : ℕ = n - 1 in
    let some : 0 < n = c.loop-before-test.true in
    let same : n ≡ suc k = omega arith in
    let ps = c.args.places.now in
    let i = c.loop-before.invariant in
    sym (stop_before c.args.at ps n k (get_or c.loop-before.places k 0) same i.within (read_before pred ps c.loop-before.places n k same i.within i.places) c.if-places-before.false i.behind)

pub returns-else-places-before-clause-places : goal.returns-else-places-before-clause-places
returns-else-places-before-clause-places c =
    let n = c.loop-before.before in
    let k : ℕ = n - 1 in
    let some : 0 < n = c.loop-before-test.true in
    let same : n ≡ suc k = omega arith in
    let ps = c.args.places.now in
    let i = c.loop-before.invariant in
    let stops = stop_before c.args.at ps n k (get_or c.loop-before.places k 0) same i.within (read_before pred ps c.loop-before.places n k same i.within i.places) c.if-places-before.false i.behind in
    i.places ∙ ap (λ (m : ℕ). take m ps ++ map pred (drop m ps)) (sym stops)

pub returns-after-loop-before-clause-before : goal.returns-after-loop-before-clause-before
returns-after-loop-before-clause-before c = sym (stop_first c.args.at c.args.places.now c.loop-before.before (omega (arith, c.loop-before-test.false)) c.loop-before.invariant.behind)

pub returns-after-loop-before-clause-places : goal.returns-after-loop-before-clause-places
returns-after-loop-before-clause-places c =
    let ps = c.args.places.now in
    c.loop-before.invariant.places ∙ ap (λ (m : ℕ). take m ps ++ map pred (drop m ps)) (sym (stop_first c.args.at ps c.loop-before.before (omega (arith, c.loop-before-test.false)) c.loop-before.invariant.behind))
