-- What stands before the first space, and behind it.
use Rattle.std.proofs.Common.{◌≡◌, ℕ, ◌+◌, ◌-◌, List, Option, Some, None, length, take, drop, nat_eq, ap, sym, ◌∙◌, subst}
use Rattle.std.specs.Prelude.{position}
use Rattle.ug_types.specs.Principals.{Named, principal_of}
use Rattle.ug_steps.specs.Grammar.{grant_of, granting}
use Rattle.ug_steps.specs.Words.{Parses}
use Rattle.ug_steps.specs.declared.step.SetupLine.{SetupLine}
use Rattle.ug_steps.proofs.SpaceCuts.{cut, uncut}
use Rattle.ug_steps.proofs.setup_lines.read_access.Goals as goal

granted : (text : List ℕ) (at : ℕ) (who : Option Named) → position (nat_eq 32) text ≡ Some at → who ≡ principal_of (take at text) → grant_of text ≡ granting who (take (length text - (at + 1)) (drop (at + 1) text))
granted text at who e f = cut (λ (name line : List ℕ). granting (principal_of name) line) None text at e ∙ ap (λ (v : Option Named). granting v (take (length text - (at + 1)) (drop (at + 1) text))) (sym f)

pub returns-in-None : goal.returns-in-None
returns-in-None c = uncut (λ (name line : List ℕ). granting (principal_of name) line) None c.args.text.now (sym c.space.ensures ∙ c.in-None.is)

pub returns-in-None-parse : goal.returns-in-None-parse
returns-in-None-parse c = granted c.args.text.now c.in-Some.at None (sym c.space.ensures ∙ c.in-Some.is) (sym c.in-None-parse.is ∙ c.parse.ensures)

pub returns-in-Some-parse : goal.returns-in-Some-parse
returns-in-Some-parse c = subst (λ (v : Option SetupLine). Parses v c.read_grant_line.result) (sym (granted c.args.text.now c.in-Some.at (Some c.in-Some-parse.who) (sym c.space.ensures ∙ c.in-Some.is) (sym c.in-Some-parse.is ∙ c.parse.ensures))) c.read_grant_line.ensures
