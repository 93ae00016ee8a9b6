-- What stands before the first space, and behind it.
use Rattle.std.proofs.Common.{◌≡◌, ℕ, ◌+◌, ◌-◌, List, Option, Some, None, length, take, drop, nat_eq, ap, sym, ◌∙◌, subst}
use Rattle.std.specs.Prelude.{option_and_then, position}
use Rattle.ug_types.specs.declared.event.Event.{Event}
use Rattle.ug_steps.specs.Grammar.{order_at, order_of}
use Rattle.ug_steps.specs.Words.{Parses, moment_word}
use Rattle.ug_steps.proofs.SpaceCuts.{cut, uncut}
use Rattle.ug_steps.proofs.event_lines.order.Goals as goal

timed : (text : List ℕ) (at : ℕ) (moment : Option ℕ) → position (nat_eq 32) text ≡ Some at → moment ≡ moment_word (take at text) → order_of text ≡ option_and_then (λ n. order_at n (take (length text - (at + 1)) (drop (at + 1) text))) moment
timed text at moment e f = cut (λ (word rest : List ℕ). option_and_then (λ n. order_at n rest) (moment_word word)) None text at e ∙ ap (λ (v : Option ℕ). option_and_then (λ n. order_at n (take (length text - (at + 1)) (drop (at + 1) text))) v) (sym f)

pub returns-in-None : goal.returns-in-None
returns-in-None c = uncut (λ (word rest : List ℕ). option_and_then (λ n. order_at n rest) (moment_word word)) None c.args.text.now (sym c.space.ensures ∙ c.in-None.is)

pub returns-in-None-moment : goal.returns-in-None-moment
returns-in-None-moment c = timed c.args.text.now c.in-Some.at None (sym c.space.ensures ∙ c.in-Some.is) (sym c.in-None-moment.is ∙ c.moment.ensures)

pub returns-in-Some-moment : goal.returns-in-Some-moment
returns-in-Some-moment c = subst (λ (v : Option Event). Parses v c.order_at.result) (sym (timed c.args.text.now c.in-Some.at (Some c.in-Some-moment.moment) (sym c.space.ensures ∙ c.in-Some.is) (sym c.in-Some-moment.is ∙ c.moment.ensures))) c.order_at.ensures
