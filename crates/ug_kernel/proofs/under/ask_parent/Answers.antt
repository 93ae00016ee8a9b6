use Rattle.std.proofs.Common.{refl, ◌≡◌, Bool, ℕ, List, Result}
use Rattle.ug_types.specs.declared.record.Attrs.{Attrs}
use Rattle.ug_kernel.specs.declared.calls.Probe.{Probe}
use Rattle.ug_kernel.specs.Calls.{Call, Answer}
use Rattle.ug_kernel.specs.Tree.{Runs}
use Rattle.ug_kernel.proofs.Runs.{runs_then}
use Rattle.ug_kernel.specs.Files.{reading_parent}
use Rattle.ug_kernel.specs.Bind.{after_asking, after_parent}
use Rattle.ug_kernel.specs.declared.files.OwnFiles.{OwnFiles}
use Rattle.ug_kernel.specs.declared.files.Stop.{Stop}
use Rattle.ug_kernel.specs.declared.identity.Binding.{Binding}
use Rattle.ug_kernel.proofs.under.ask_parent.Goals as goal

-- the parent's files are read where it isn't found alive
runs_unasked : {S : Type 0} (gives : S → (call : Call) → Answer call → S → Type 0) (s : S) (held : ℕ) (own : OwnFiles) (above : List ℕ) (p : Probe) (theirs : Result Attrs Stop) (m : S) (r : Binding) (t : S) → ((on : Bool) → p ≡ Probe.Alive on → ⊥) → Runs gives s (reading_parent above held) theirs m → Runs gives m (after_parent held own theirs) r t → Runs gives s (after_asking held own above p) r t
runs_unasked gives s held own above (Probe.Alive on) theirs m r t unalive a b = absurd (unalive on refl)
runs_unasked gives s held own above Probe.Gone theirs m r t unalive a b = runs_then _ _ _ _ _ _ _ _ a b
runs_unasked gives s held own above Probe.Failed theirs m r t unalive a b = runs_then _ _ _ _ _ _ _ _ a b

pub returns-in-Ok : goal.returns-in-Ok
returns-in-Ok g c = (_, _, c.reprobe.ensures, runs_unasked _ _ _ _ _ _ _ _ _ _ c.in_default.not-Alive c.in-Ok.ensures c.end_binding-in-Ok.ensures)

pub returns-in-Err : goal.returns-in-Err
returns-in-Err g c = (_, _, c.reprobe.ensures, runs_unasked _ _ _ _ _ _ _ _ _ _ c.in_default.not-Alive c.in-Err.ensures (c.into.ensures, refl))
