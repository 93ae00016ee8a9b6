-- The writes that are made once at most for a standing: those to another file than `authorized`.
-- The standing is marked with what was done.
use Rattle.std.specs.Prelude.{Bool, false}
use Rattle.ug_kernel.specs.declared.control.Control.{Control}
use Rattle.ug_kernel.specs.declared.control.Control.TheVariants.{Authorized, Remove, Default}
use Rattle.ug_table.specs.declared.standing.Standing.{Standing}
pub use Rattle.ug_kernel.specs.Calls.{control_of}

-- a file that is written once at most for a standing
abbrev pub IsOnce : Control → Type 0
IsOnce Authorized = ⊥
IsOnce Remove = Unit {0}
IsOnce Default = Unit {0}

-- whether the standing is marked as one for which that file was written
abbrev pub is_done : Control → Standing → Bool
is_done Authorized s = false
is_done Remove s = s.removed
is_done Default s = s.defaulted
