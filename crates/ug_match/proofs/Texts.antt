-- A text behind a reference.
use Rattle.std.proofs.Common.{◌≡◌, ℕ, List, [], ◌∷◌, Bool, Bor, refl}
use Rattle.ug_types.specs.declared.rule.Op.{Op}
use Rattle.ug_types.specs.declared.rule.Op.TheVariants.{AllOf, OneOf, NoneOf, Equals, EqualsOrdered}
use Rattle.ug_match.specs.Operators.{holds, in_order}

abbrev pub behind : {X : Type 0} → (X → List ℕ → Bool) → X → Bor (List ℕ) → Bool
behind covers rule text = covers rule text.now

in_order_behind : {X : Type 0} (covers : X → List ℕ → Bool) (rules : List X) (text : Bor (List ℕ)) → in_order (behind covers) rules (text ∷ []) ≡ in_order covers rules (text.now ∷ [])
in_order_behind covers [] text = refl
in_order_behind covers (rule ∷ []) text = refl
in_order_behind covers (rule ∷ other ∷ rules) text = refl

pub holds_behind : {X : Type 0} (covers : X → List ℕ → Bool) (op : Op) (rules : List X) (text : Bor (List ℕ)) → holds (behind covers) op rules (text ∷ []) ≡ holds covers op rules (text.now ∷ [])
holds_behind covers AllOf rules text = refl
holds_behind covers OneOf rules text = refl
holds_behind covers NoneOf rules text = refl
holds_behind covers Equals rules text = refl
holds_behind covers EqualsOrdered rules text = in_order_behind covers rules text
