-- What bytes say of the texts of a kind of things.
use Rattle.std.specs.Prelude.{◌≡◌, ◌≢◌, List, [], ◌++◌, ℕ}
use Rattle.ug_proto.specs.declared.scan.Stop.{Stop}
use Rattle.ug_proto.specs.declared.scan.Stop.TheVariants as stop

-- the bytes begin the text of a thing, and more of it is to come
pub record IsTextBegun {X : Type 0} (text_of : X → List ℕ) (Can : X → Type 0)
    (bytes : List ℕ) : Type 0 where
  pub it : X
  pub can : Can it
  pub more : List ℕ
  pub some : more ≢ []
  pub whole : bytes ++ more ≡ text_of it

-- however the bytes go on, they don't begin with such a text
abbrev pub NeverBecomes : {X : Type 0} → (X → List ℕ) → (X → Type 0) → List ℕ → Type 0
NeverBecomes {X} text_of Can bytes =
    (it : X) (more rest : List ℕ) → Can it → bytes ++ more ≡ text_of it ++ rest → ⊥

-- the text of that thing stands in front of that rest
abbrev pub IsTextThen : {X : Type 0} → (X → List ℕ) → (X → Type 0) → List ℕ → X → List ℕ → Type 0
IsTextThen text_of Can bytes it rest = Can it × (bytes ≡ text_of it ++ rest)

-- why no text stands in front
abbrev pub IsStop : {X : Type 0} → (X → List ℕ) → (X → Type 0) → List ℕ → Stop → Type 0
IsStop text_of Can bytes stop.Short = IsTextBegun text_of Can bytes
IsStop text_of Can bytes stop.Bad = NeverBecomes text_of Can bytes
IsStop text_of Can bytes stop.Memory = Unit {0}

-- why neither of two texts stands in front
abbrev pub neither : Stop → Stop → Stop
neither first stop.Bad = first
neither first stop.Short = stop.Short
neither first stop.Memory = stop.Memory
