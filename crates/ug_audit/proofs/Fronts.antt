-- What a failed call took of a line.
use Rattle.std.proofs.Common.{◌≡◌, ℕ, List, [], ◌∷◌, ◌++◌, Some, refl, sym, ◌∙◌}
use Rattle.std.proofs.lemmas.List.{append-nil}
use Rattle.ug_audit.specs.Auditors.{TakesEntryLine}
use Rattle.ug_audit.specs.declared.auditor.Noted.TheVariants.{Failed}

pub nothing_taken : (old new line : List ℕ) → new ≡ old → TakesEntryLine (Some old) (Some new) line Failed
nothing_taken old new line e = ([], line ++ 10 ∷ [], refl, e ∙ sym (append-nil old))

pub line_taken : (old new line : List ℕ) → new ≡ old ++ line → TakesEntryLine (Some old) (Some new) line Failed
line_taken old new line e = (line, 10 ∷ [], refl, e)
