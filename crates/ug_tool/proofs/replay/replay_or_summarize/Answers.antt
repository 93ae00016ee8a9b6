use Rattle.std.proofs.Common.{◌≡◌, ◌≤◌, false, refl, subst, arith}
use Rattle.ug_kernel.specs.Kernel.{IsKernel}
use Rattle.ug_iface.specs.Bus.{IsSoundBus}
use Rattle.ug_sysfs.specs.Serving.{bus_in}
use Rattle.ug_lines.specs.Lines.{lines_of}
use Rattle.ug_sysfs.specs.IfaceMoves.{bus_new_sound}
use Rattle.ug_sysfs.specs.Sound.{new_sound}
use Rattle.ug_sysfs.specs.World.{World}
use Rattle.ug_script.specs.Against.{RefusesScript}
use Rattle.ug_script.specs.CarriedOn.{CarriesThrough}
use Rattle.ug_script.specs.Laws.{coming_in}
use Rattle.ug_tool.proofs.replay.replay_or_summarize.Goals as goal

pub returns-in-true-clause-summarized : goal.returns-in-true-clause-summarized
returns-in-true-clause-summarized g c = λ is all base a b. rw c.requires at (c.summarize.ensures.answers all base a b)

pub returns-in-true-clause-why : goal.returns-in-true-clause-why
returns-in-true-clause-why g c = λ all is.
    subst (λ (w : World). w.ran_out ≡ false → IsSoundBus (bus_in w) → w.faults ≡ 0 → coming_in w ≤ 1048576 → c.summarize.result ≡ 2 → RefusesScript w (lines_of all)) c.requires (c.summarize.ensures.why all is) refl bus_new_sound refl (omega arith)

pub returns-in-true-clause-carries : goal.returns-in-true-clause-carries
returns-in-true-clause-carries g c = λ all base is held e.
    subst (λ (w : World). w.ran_out ≡ false → IsKernel w.kernel → c.summarize.result ≡ 0 → CarriesThrough w (lines_of all)) c.requires (c.summarize.ensures.carries all base is held) refl new_sound e
