use Rattle.std.proofs.Common.{◌≤◌, take, drop, length}
use Rattle.ug_policy.proofs.Walking.{IsWalked, WalksFrom, walked}
use Rattle.ug_policy.proofs.judging.judge_by.Given as goal

-- none of the rules so far has decided, and the places that are left go on from here
abbrev pub invariant-loop-i : goal.invariant-loop-i
invariant-loop-i g l =
    let records = g.A.Allowed.records l.fn.allowed in
    let from = walked 0 (take l.i l.fn.places) in
    record {
      within : from ≤ length l.fn.entries;
      walks : WalksFrom l.fn.dev l.fn.entries from (drop l.i l.fn.places);
      at : IsWalked l.fn.dev l.fn.ctx records l.fn.entries l.entries (g.R.Rng.stream l.fn.rng) (g.R.Rng.stream l.rng) from;
    }
