use Rattle.std.proofs.Common.{refl, ap}
use Rattle.ug_kernel.specs.Bind.{binding_under}
use Rattle.ug_kernel.proofs.Runs.{runs_then}
use Rattle.ug_kernel.specs.declared.identity.Binding.TheVariants as binding
use Rattle.ug_kernel.proofs.under.bind_beside.Goals as goal

pub returns-in-Absent : goal.returns-in-Absent
unfolding binding_under
returns-in-Absent g c = (_, _, c.in-Absent.ensures, (refl, refl))

pub returns-in-Failed : goal.returns-in-Failed
unfolding binding_under
returns-in-Failed g c = (_, _, c.in-Failed.ensures, (ap binding.Failed c.failed_call.ensures, refl))

pub returns-in-Memory : goal.returns-in-Memory
unfolding binding_under
returns-in-Memory g c = (_, _, c.in-Memory.ensures, (refl, refl))

pub returns-in-Ok : goal.returns-in-Ok
unfolding binding_under
returns-in-Ok g c = (_, _, c.in-Token.ensures, runs_then _ _ _ _ _ _ _ _ c.in-Ok.ensures c.ask_parent.ensures)

pub returns-in-Err : goal.returns-in-Err
unfolding binding_under
returns-in-Err g c = (_, _, c.in-Token.ensures, runs_then _ _ _ _ _ _ _ _ c.in-Err.ensures (c.into.ensures, refl))
