-- What is written where rules are not linted.
use Rattle.std.proofs.Common.{ℕ, ◌≤◌, List, length, Bool, Option, inl, inr, refl}
use Rattle.std.specs.Io.KnownBytes.{IsAtEnd}
use Rattle.ug_types.specs.Limits.{text_limit}
use Rattle.ug_command_io.specs.WholeInputs.{Written}
use Rattle.ug_commands.specs.Linting.{IsLintFault, IsOutput, TellsLintFault, lint_end, lint_fault_line}
use Rattle.ug_commands.specs.declared.few_rules.LintFault.{LintFault}
use Rattle.ug_commands.specs.declared.few_rules.LintFault.TheVariants as fault

pub refused : (prune : Bool) (bytes : List ℕ) (left : Option (List ℕ)) (f : LintFault) → length bytes ≤ text_limit → IsAtEnd left → IsLintFault f bytes → Written text_limit (IsOutput prune) TellsLintFault bytes left (lint_end f) (lint_fault_line f)
refused prune bytes left (fault.Bad f) short end read = (end, (short, inl (f, read, refl)))
refused prune bytes left fault.TooMany short end many = (end, (short, inr (many.0, many.1, many.2, refl)))
refused prune bytes left fault.Memory short end _ = (tt, refl)
