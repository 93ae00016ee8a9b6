use Rattle.std.proofs.Common.{◌≡◌, ◌&&◌, ◌||◌, drop}
use Rattle.std.specs.List.{list_all, list_any}
use Rattle.ug_cond.specs.Conditions.{condition_holds}
use Rattle.ug_cond.specs.Words.{behind, random_count}
use Rattle.ug_cond.proofs.Walks.{drawn}
use Rattle.ug_cond.proofs.conditions.holds.Given as goal

-- the conditions so far and those that are left are all
abbrev pub invariant-loop-cond : goal.invariant-loop-cond
invariant-loop-cond g l =
    let one = condition_holds l.fn.history l.fn.ctx (g.A.Allowed.records l.fn.allowed) in
    let left = drop l.cond-index l.cond-items in
    let stream = g.R.Rng.stream l.rng in
    let start = g.R.Rng.stream l.fn.rng in
    record {
      all : (l.all && list_all one (drawn left stream)) ≡ list_all one (drawn l.fn.conds.items start);
      some : (l.some || list_any one (drawn left stream)) ≡ list_any one (drawn l.fn.conds.items start);
      words : behind (random_count left) stream ≡ behind (random_count l.fn.conds.items) start;
    }
