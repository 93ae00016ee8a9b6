use Rattle.std.proofs.Common.{sym, ◌∙◌, refl}
use Rattle.std.proofs.lemmas.Option.{none-some}
use Rattle.ug_uevent.proofs.parse.hint_of.Goals as goal
use Rattle.ug_uevent.proofs.parse.hint_of.Goals.{then-found, else-found}

pub returns : goal.returns
returns c = elim c.if-found.branch [
  | then-found w ↦ record {
    does = c.action_of.ensures;
    named = λ n. (λ e. (w.if-found.true, (w.name_in-name.ensures n).0 (sym w.name-is ∙ e)), λ k. w.name-is ∙ (w.name_in-name.ensures n).1 k.1);
    numbered = refl;
  }
  | else-found w ↦ record {
    does = c.action_of.ensures;
    named = λ n. (λ e. absurd (none-some n (sym w.name-is ∙ e)), λ k. (let f = w.if-found.false in let t = k.0 in let none : ⊥ = cc in absurd none));
    numbered = refl;
  }
]
