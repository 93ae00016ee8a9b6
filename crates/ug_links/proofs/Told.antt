-- What links tell of a run.
use Rattle.std.proofs.Common.{◌≡◌, List, [], ◌∷◌, ◌++◌, Option, Some, refl, sym, ap, ◌∙◌, subst, append_assoc}
use Rattle.std.proofs.lemmas.List.{append-nil}
use Rattle.ug_links.specs.declared.step.LinkStep.{LinkStep}
use Rattle.ug_links.specs.declared.step.LinkStep.TheVariants.{Listened, AcceptedAt, ReadFrom, WroteTo, Closed}
use Rattle.ug_links.specs.Steps.{TellsStep}
use Rattle.ug_links.specs.Talk.{Talk, Return, Listen, Accept, Read, Write, Close, Room, Talks, Path, Makes, TellsSteps, AreSteps}

-- a run of a tree is a way through it, call by call
pub path_made : {S R : Type 0} (gives : S → LinkStep → S → Type 0) (s : S) (tree : Talk R) (r : R) (t : S) → Talks gives s tree r t → (steps : List LinkStep) × Path tree steps r × Makes gives s steps t
path_made gives s (Return value) r t h = ([], (h.0, refl), h.1)
path_made gives s (Listen principal next) r t h = let p = path_made gives h.1 (next h.0) r t h.3 in (Listened principal h.0 ∷ p.0, (h.0, p.0, refl, p.1), (h.1, h.2, p.2))
path_made gives s (Accept listener next) r t h = let p = path_made gives h.1 (next h.0) r t h.3 in (AcceptedAt listener h.0 ∷ p.0, (h.0, p.0, refl, p.1), (h.1, h.2, p.2))
path_made gives s (Read id room next) r t h = let p = path_made gives h.1 (next h.0) r t h.3 in (ReadFrom id room h.0 ∷ p.0, (h.0, p.0, refl, p.1), (h.1, h.2, p.2))
path_made gives s (Write id bytes next) r t h = let p = path_made gives h.1 (next h.0) r t h.3 in (WroteTo id bytes h.0 ∷ p.0, (h.0, p.0, refl, p.1), (h.1, h.2, p.2))
path_made gives s (Close id next) r t h = let p = path_made gives h.0 next r t h.2 in (Closed id ∷ p.0, (p.0, refl, p.1), (h.0, h.1, p.2))
path_made gives s (Room next) r t h = let p = path_made gives s (next h.0) r t h.1 in (p.0, (h.0, p.1), p.2)

module _ {S : Type 0} (gives : S → LinkStep → S → Type 0) (told : S → Option (List LinkStep)) (tells : (s : S) (step : LinkStep) (t : S) (after : List LinkStep) → gives s step t → told t ≡ Some after → TellsStep (told s) step after) where
  -- a step, and then more
  onto : (s u : S) (step : LinkStep) (steps after : List LinkStep) → gives s step u → TellsSteps (told u) steps after → TellsSteps (told s) (step ∷ steps) after
  onto s u step steps after g e =
      let a = tells s step u e.0 g e.1 in
      let P : List LinkStep → Type 0 = λ l. AreSteps l steps in
      (a.0, a.1, e.2 ∙ ap (λ (l : List LinkStep). l ++ steps) a.2 ∙ append_assoc a.0 (step ∷ []) steps, (a.3, subst P a.2 e.3))

  pub made_told : (s : S) (steps : List LinkStep) (t : S) (after : List LinkStep) → Makes gives s steps t → told t ≡ Some after → TellsSteps (told s) steps after
  made_told s [] t after h k = (after, ap told (sym h) ∙ k, sym (append-nil after), tt)
  made_told s (step ∷ steps) t after h k = onto s h.0 step steps after h.1 (made_told h.0 steps t after h.2 k)

  pub told_path : (R : Type 0) (s : S) (tree : Talk R) (r : R) (t : S) (after : List LinkStep) → Talks gives s tree r t → told t ≡ Some after → (steps : List LinkStep) × Path tree steps r × TellsSteps (told s) steps after
  told_path R s tree r t after h k = let p = path_made gives s tree r t h in (p.0, p.1, made_told s p.0 t after p.2 k)
