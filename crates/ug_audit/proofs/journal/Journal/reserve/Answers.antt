-- At most 64 members aren't dropped.
use Rattle.std.proofs.Common.{◌≡◌, ℕ, ◌+◌, ◌-◌, ◌≤◌, Result, Ok, Err, arith}
use Rattle.std.specs.Prelude.{OnOk}
use Rattle.ug_audit.proofs.Noting.{live_few}
use Rattle.ug_audit.proofs.journal.Journal.reserve.Goals as goal

less : {T E : Type 0} (r : Result T E) (n places spare l : ℕ) → l ≤ 64 → places ≡ n + 64 → OnOk r (places ≤ spare) → OnOk r (n ≤ spare - l)
less (Ok x) n places spare l few e h = omega (arith, few, e, h)
less (Err e) n places spare l few same h = tt

pub returns-in-Some-clause-ok : goal.returns-in-Some-clause-ok
returns-in-Some-clause-ok g c =
    let panel = c.args.self.now.panel.now in
    let few = live_few panel.auditors.items panel.dropped in
    less c.reserve.result _ _ _ _ (omega (arith, few, panel.few)) c.in-Some.ensures.1 c.reserve.ensures.ok
