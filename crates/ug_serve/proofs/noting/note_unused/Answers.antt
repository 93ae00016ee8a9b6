use Rattle.std.proofs.Common.{ℕ}
use Rattle.ug_audit.specs.declared.start_entry.StartEntry.TheVariants as entry
use Rattle.ug_serve.proofs.Noted.{next_noted}
use Rattle.ug_serve.proofs.noting.note_unused.Goals as goal

pub loop-line-preserved : goal.loop-line-preserved
loop-line-preserved g c =
    next_noted (λ (line : ℕ). entry.UnusedKey line) c.args.lines.now c.loop-line.line-index 0 _ _ _ c.loop-line-test.true c.loop-line.invariant c.note_start.ensures
