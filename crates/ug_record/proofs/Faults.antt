-- The first fault at a descriptor, by the tests and as a relation.
use Rattle.std.proofs.Common.{◌≡◌, ℕ, ◌<◌, ◌≤◌, Bool, true, List, [], ◌∷◌, length, slice_index, Option, None, Some, refl, arith, ap, ◌∙◌}
use Rattle.ug_record.specs.declared.descriptors.Descr.{Descr}
use Rattle.ug_record.specs.declared.descriptors.Config.{Config}
use Rattle.ug_record.specs.Reading.{kind_at}
use Rattle.ug_record.specs.Grammar.{FaultyDescriptor}
use Rattle.ug_record.proofs.Steps.{some_config}

pub no_fault : (configured : Bool) (rest : List ℕ) → 2 ≤ slice_index rest 0 → slice_index rest 0 ≤ length rest → (slice_index rest 1 ≡ 2 → 9 ≤ slice_index rest 0) → (slice_index rest 1 ≡ 4 → 9 ≤ slice_index rest 0) → (slice_index rest 1 ≡ 4 → configured ≡ true) → kind_at configured rest ≡ None
no_fault configured rest a b c d e = grind arith

empty : (configs : List Config) → length configs ≡ 0 → configs ≡ []
empty [] e = refl
empty (c ∷ configs) e = absurd (omega (arith, e))

pub is_faulty : (before : Descr) (rest : List ℕ) (kind : ℕ) → kind_at (some_config before.configs) rest ≡ Some kind → FaultyDescriptor before rest kind
is_faulty before rest kind e = let z : length before.configs ≡ 0 → before.configs ≡ [] = empty before.configs in grind arith

pub is_least : (before : Descr) (rest : List ℕ) (kind lesser : ℕ) → kind_at (some_config before.configs) rest ≡ Some kind → lesser < kind → FaultyDescriptor before rest lesser → ⊥
is_least before rest kind lesser e h f = let z : before.configs ≡ [] → length before.configs ≡ 0 = ap length in grind arith

not_none : (before : Descr) (rest : List ℕ) (kind : ℕ) → kind_at (some_config before.configs) rest ≡ None → FaultyDescriptor before rest kind → ⊥
not_none before rest kind e f = let z : before.configs ≡ [] → length before.configs ≡ 0 = ap length in grind arith

pub faulty_first : (before : Descr) (rest : List ℕ) (kind : ℕ) → FaultyDescriptor before rest kind → ((lesser : ℕ) → lesser < kind → FaultyDescriptor before rest lesser → ⊥) → kind_at (some_config before.configs) rest ≡ Some kind
faulty_first before rest kind f least =
    let G : Option ℕ → Type 0 = λ o. kind_at (some_config before.configs) rest ≡ o → kind_at (some_config before.configs) rest ≡ Some kind in
    let g : (o : Option ℕ) → G o = λ o. elim o as G [
      | None ↦ λ e. absurd (not_none before rest kind e f)
      | Some found ↦ λ e.
          let above : found < kind → ⊥ = λ h. least found h (is_faulty before rest found e) in
          let below : kind < found → ⊥ = λ h. is_least before rest found kind e h f in
          let same : found ≡ kind = grind arith in
          e ∙ ap (λ (k : ℕ). Some k) same
    ] in
    g (kind_at (some_config before.configs) rest) refl
