use Rattle.std.proofs.Common.{ℕ, ◌-◌, sym, ◌∙◌, ap}
use Rattle.ug_script.specs.Replay as replay
use Rattle.ug_script.proofs.FirstStop.{first_stop_at}
use Rattle.ug_script.proofs.events.first_stop.Goals as goal

pub loop-call-preserved : goal.loop-call-preserved
loop-call-preserved c =
    ap (λ (first : ℕ). replay.first_stop c.args.plan.now first (c.loop-call.call - 1)) c.stop_or-first.ensures
    ∙ sym (first_stop_at c.args.plan.now c.loop-call.first c.loop-call.call c.loop-call-test.true)
    ∙ c.loop-call.invariant
