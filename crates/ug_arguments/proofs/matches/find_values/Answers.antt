use Rattle.std.proofs.Common.{inl, inr, map, Bor, List, ℕ, ◌∙◌}
use Rattle.clap.specs.Words.{app_of}
use Rattle.ug_arguments.proofs.Found.{rows_taken, rows_refused}
use Rattle.ug_arguments.proofs.matches.find_values.Goals as goal

pub returns-in-Ok-clause-ok : goal.returns-in-Ok-clause-ok
returns-in-Ok-clause-ok c =
    rows_taken (app_of c.args.command) (map (λ (word : Bor (List ℕ)). word.now) c.args.words.now) c.in-Ok.matches c.requires (c.in-Ok.ensures.kinds c.requires) c.in-Ok.ensures.matches

pub returns-clause-err : goal.returns-clause-err
returns-clause-err c = elim (c.in-Err.ensures.kinds c.requires) [
  | inl h ↦ absurd (c.in_default.not-OutOfMemory (c.kind.ensures ∙ h))
  | inr h ↦ rows_refused (app_of c.args.command) (map (λ (word : Bor (List ℕ)). word.now) c.args.words.now) _ h
]
