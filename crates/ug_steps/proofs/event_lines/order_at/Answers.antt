-- What stands before the first space, and behind it.
use Rattle.std.proofs.Common.{◌≡◌, ℕ, ◌+◌, ◌-◌, List, Option, Some, None, length, take, drop, nat_eq, ap, sym, ◌∙◌}
use Rattle.std.specs.Prelude.{option_map, position}
use Rattle.ug_types.specs.Principals.{Named, principal_of}
use Rattle.ug_types.specs.declared.event.Event.TheVariants.{Order}
use Rattle.ug_steps.specs.Grammar.{order_at}
use Rattle.ug_steps.proofs.SpaceCuts.{cut, uncut}
use Rattle.ug_steps.proofs.event_lines.order_at.Goals as goal

ordered : (moment : ℕ) (text : List ℕ) (at : ℕ) (who : Option Named) → position (nat_eq 32) text ≡ Some at → who ≡ principal_of (take at text) → order_at moment text ≡ option_map (λ p. Order (record { 0 = moment }) p (take (length text - (at + 1)) (drop (at + 1) text))) who
ordered moment text at who e f = cut (λ (name request : List ℕ). option_map (λ p. Order (record { 0 = moment }) p request) (principal_of name)) None text at e ∙ ap (λ (v : Option Named). option_map (λ p. Order (record { 0 = moment }) p (take (length text - (at + 1)) (drop (at + 1) text))) v) (sym f)

pub returns-in-None : goal.returns-in-None
returns-in-None c = uncut (λ (name request : List ℕ). option_map (λ p. Order (record { 0 = c.args.moment }) p request) (principal_of name)) None c.args.text.now (sym c.space.ensures ∙ c.in-None.is)

pub returns-in-None-parse : goal.returns-in-None-parse
returns-in-None-parse c = ordered c.args.moment c.args.text.now c.in-Some.at None (sym c.space.ensures ∙ c.in-Some.is) (sym c.in-None-parse.is ∙ c.parse.ensures)

pub returns-in-Ok : goal.returns-in-Ok
returns-in-Ok c =
    ordered c.args.moment c.args.text.now c.in-Some.at (Some c.in-Some-parse.who) (sym c.space.ensures ∙ c.in-Some.is) (sym c.in-Some-parse.is ∙ c.parse.ensures)
    ∙ ap (λ (request : List ℕ). Some (Order (record { 0 = c.args.moment }) c.in-Some-parse.who request)) (sym c.in-Ok.ensures)
