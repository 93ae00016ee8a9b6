-- The member of that number is the one that is asked.
use Rattle.std.proofs.Common.{◌≡◌, ℕ, List, Some, slice_get, get_or, ap, ◌∙◌}
use Rattle.std.proofs.lemmas.Option.{get_or_from_slice_get}
use Rattle.ug_audit.proofs.panel.Panel.text.Goals as goal

asked : {A : Type 0} (xs ys : List A) (i : ℕ) (a b : A) → xs ≡ ys → a ≡ get_or xs i a → slice_get ys i ≡ Some b → a ≡ b
asked xs ys i a b same at e = at ∙ ap (λ l. get_or l i a) same ∙ get_or_from_slice_get ys i b a e

pub returns-in-Some : goal.returns-in-Some
returns-in-Some g c = λ b e.
    let same = asked c.deref.result.now c.args.self.now.auditors.items c.args.i c.in-Some.auditor.now b c.deref.ensures.value c.in-Some.ensures.lookup.1 e in
    rw (← same) c.text_of.ensures
