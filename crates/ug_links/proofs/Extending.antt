-- What is told, and then more.
use Rattle.std.proofs.Common.{◌≡◌, List, [], ◌∷◌, ◌++◌, Option, Some, sym, ap, ◌∙◌, subst, append_assoc}
use Rattle.std.proofs.lemmas.List.{append-nil}
use Rattle.ug_links.specs.declared.step.LinkStep.{LinkStep}
use Rattle.ug_links.specs.Talk.{TellsSteps, AreSteps}

steps_more : (before a b : List LinkStep) → AreSteps before a → AreSteps (before ++ a) b → AreSteps before (a ++ b)
steps_more before [] b h k = subst (λ (l : List LinkStep). AreSteps l b) (append-nil before) k
steps_more before (step ∷ a) b h k = (h.0, steps_more (before ++ step ∷ []) a b h.1 (subst (λ (l : List LinkStep). AreSteps l b) (sym (append_assoc before (step ∷ []) a)) k))

same_some : (x y : List LinkStep) → Some x ≡ Some y → x ≡ y
same_some x y e = cc

pub extends_nil : (told : Option (List LinkStep)) (after : List LinkStep) → told ≡ Some after → TellsSteps told [] after
extends_nil told after e = (after, e, sym (append-nil after), tt)

pub extends_more : (told mid : Option (List LinkStep)) (a b between after : List LinkStep) → mid ≡ Some between → TellsSteps told a between → TellsSteps mid b after → TellsSteps told (a ++ b) after
extends_more told mid a b between after e h k =
    let same : k.0 ≡ between = same_some k.0 between (sym k.1 ∙ e) in
    let here : k.0 ≡ h.0 ++ a = same ∙ h.2 in
    (h.0, h.1, k.2 ∙ ap (λ (l : List LinkStep). l ++ b) here ∙ append_assoc h.0 a b, steps_more h.0 a b h.3 (subst (λ (l : List LinkStep). AreSteps l b) here k.3))
