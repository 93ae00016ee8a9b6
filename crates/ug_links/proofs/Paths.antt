-- Ways through one tree after another.
use Rattle.std.proofs.Common.{◌≡◌, List, [], ◌∷◌, ◌++◌, refl, ap, ◌∙◌}
use Rattle.ug_links.specs.declared.step.LinkStep.{LinkStep}
use Rattle.ug_links.specs.declared.step.LinkStep.TheVariants.{Listened, AcceptedAt, ReadFrom, WroteTo, Closed}
use Rattle.ug_links.specs.Talk.{Talk, Return, Listen, Accept, Read, Write, Close, Room, Path, and_then}

-- a way through the first tree, and then one through the tree that its result picks
pub record Halves {R Q : Type 0} (p : Talk R) (f : R → Talk Q) (steps : List LinkStep) (r : Q) : Type 0 where
  pub value : R
  pub front : List LinkStep
  pub rest : List LinkStep
  pub whole : steps ≡ front ++ rest
  pub first : Path p front value
  pub second : Path (f value) rest r

pub path_split : {R Q : Type 0} (p : Talk R) (f : R → Talk Q) (steps : List LinkStep) (r : Q) → Path (and_then p f) steps r → Halves p f steps r
path_split (Return value) f steps r h = record { value = value; front = []; rest = steps; whole = refl; first = (refl, refl); second = h }
path_split (Listen principal next) f steps r h =
    let k = path_split (next h.0) f h.1 r h.3 in
    record { value = k.value; front = Listened principal h.0 ∷ k.front; rest = k.rest; whole = h.2 ∙ ap (λ (l : List LinkStep). Listened principal h.0 ∷ l) k.whole; first = (h.0, k.front, refl, k.first); second = k.second }
path_split (Accept listener next) f steps r h =
    let k = path_split (next h.0) f h.1 r h.3 in
    record { value = k.value; front = AcceptedAt listener h.0 ∷ k.front; rest = k.rest; whole = h.2 ∙ ap (λ (l : List LinkStep). AcceptedAt listener h.0 ∷ l) k.whole; first = (h.0, k.front, refl, k.first); second = k.second }
path_split (Read id room next) f steps r h =
    let k = path_split (next h.0) f h.1 r h.3 in
    record { value = k.value; front = ReadFrom id room h.0 ∷ k.front; rest = k.rest; whole = h.2 ∙ ap (λ (l : List LinkStep). ReadFrom id room h.0 ∷ l) k.whole; first = (h.0, k.front, refl, k.first); second = k.second }
path_split (Write id bytes next) f steps r h =
    let k = path_split (next h.0) f h.1 r h.3 in
    record { value = k.value; front = WroteTo id bytes h.0 ∷ k.front; rest = k.rest; whole = h.2 ∙ ap (λ (l : List LinkStep). WroteTo id bytes h.0 ∷ l) k.whole; first = (h.0, k.front, refl, k.first); second = k.second }
path_split (Close id next) f steps r h =
    let k = path_split next f h.0 r h.2 in
    record { value = k.value; front = Closed id ∷ k.front; rest = k.rest; whole = h.1 ∙ ap (λ (l : List LinkStep). Closed id ∷ l) k.whole; first = (k.front, refl, k.first); second = k.second }
path_split (Room next) f steps r h =
    let k = path_split (next h.0) f steps r h.1 in
    record { value = k.value; front = k.front; rest = k.rest; whole = k.whole; first = (h.0, k.first); second = k.second }
