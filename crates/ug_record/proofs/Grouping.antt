-- Pieces added one by one to the configurations, and grouped by configuration.
use Rattle.std.proofs.Common.{◌≡◌, ℕ, suc, ◌||◌, List, [], ◌∷◌, ◌++◌, length, length-append, refl, sym, ap, ◌∙◌, arith, append_assoc}
use Rattle.std.proofs.lemmas.List.{append-nil}
use Rattle.ug_record.specs.declared.descriptors.Config.{Config}
use Rattle.ug_record.specs.declared.descriptors.IfaceDescr.{IfaceDescr}
use Rattle.ug_record.specs.Reading.{config_of, interface_fields, with_interface, with_descriptor}
use Rattle.ug_record.specs.Grammar.{configs_of, interfaces_of}
use Rattle.ug_record.proofs.Order.{is_config}
use Rattle.ug_record.proofs.Steps.{some_config}

abbrev pub add_all : List Config → List (List ℕ) → List Config
add_all configs [] = configs
add_all configs (piece ∷ pieces) = add_all (with_descriptor configs piece) pieces

abbrev with_more : Config → List IfaceDescr → Config
with_more c more = record c { items = c.items ++ more }

-- the last configuration has more interfaces
abbrev extended : List Config → List IfaceDescr → List Config
extended [] more = []
extended (c ∷ []) more = with_more c more ∷ []
extended (c ∷ d ∷ configs) more = c ∷ extended (d ∷ configs) more

with_more-nil : (c : Config) → with_more c [] ≡ c
with_more-nil c = λ i. record { value = c.value; count = c.count; items = append-nil c.items i }

with_more-more : (c : Config) (one : IfaceDescr) (more : List IfaceDescr) → with_more (with_more c (one ∷ [])) more ≡ with_more c (one ∷ more)
with_more-more c one more = λ i. record { value = c.value; count = c.count; items = append_assoc c.items (one ∷ []) more i }

extended-nil : (configs : List Config) → extended configs [] ≡ configs
extended-nil [] = refl
extended-nil (c ∷ []) = ap (λ (x : Config). x ∷ []) (with_more-nil c)
extended-nil (c ∷ d ∷ configs) = ap (λ (l : List Config). c ∷ l) (extended-nil (d ∷ configs))

extended-one : (configs : List Config) (one : IfaceDescr) (more : List IfaceDescr) → extended (with_interface configs one) more ≡ extended configs (one ∷ more)
extended-one [] one more = refl
extended-one (c ∷ []) one more = ap (λ (x : Config). x ∷ []) (with_more-more c one more)
extended-one (c ∷ d ∷ []) one more = ap (λ (l : List Config). c ∷ l) (extended-one (d ∷ []) one more)
extended-one (c ∷ d ∷ e ∷ configs) one more = ap (λ (l : List Config). c ∷ l) (extended-one (d ∷ e ∷ configs) one more)

extended-new : (configs : List Config) (piece : List ℕ) (more : List IfaceDescr) → extended (configs ++ config_of piece [] ∷ []) more ≡ configs ++ config_of piece more ∷ []
extended-new [] piece more = refl
extended-new (c ∷ []) piece more = refl
extended-new (c ∷ d ∷ configs) piece more = ap (λ (l : List Config). c ∷ l) (extended-new (d ∷ configs) piece more)

grouped_from : (configs : List Config) (pieces : List (List ℕ)) → add_all configs pieces ≡ extended configs (interfaces_of pieces) ++ configs_of pieces
grouped_from configs [] = sym (append-nil (extended configs []) ∙ extended-nil configs)
grouped_from configs (piece ∷ pieces) =
    let h = grouped_from (with_descriptor configs piece) pieces in
    let one = extended-one configs (interface_fields piece) (interfaces_of pieces) in
    let new = extended-new configs piece (interfaces_of pieces) in
    let nil = extended-nil configs in
    let shift = append_assoc configs (config_of piece (interfaces_of pieces) ∷ []) (configs_of pieces) in
    grind arith

pub grouped : (pieces : List (List ℕ)) → add_all [] pieces ≡ configs_of pieces
grouped pieces = grouped_from [] pieces

pub some_interface : (configs : List Config) (one : IfaceDescr) → length (with_interface configs one) ≡ length configs
some_interface [] one = refl
some_interface (c ∷ []) one = refl
some_interface (c ∷ d ∷ configs) one = ap (λ (n : ℕ). suc n) (some_interface (d ∷ configs) one)

-- a configuration stands where one stood, or where the piece is one
pub some_piece : (configs : List Config) (piece : List ℕ) → some_config (with_descriptor configs piece) ≡ (some_config configs || is_config piece)
some_piece configs piece = let e = some_interface configs (interface_fields piece) in grind (arith, length-append)
