-- The words that a rule is made of: usbguard-rules.conf(5).
use Rattle.std.specs.Prelude.{◌≡◌, ◌↔◌, ℕ, Bool, nat_eq, if◌then◌else◌, List, codes, Option, Some, None}
use Rattle.std.specs.Cmp.Lexicographic.{pointwise}
use Rattle.ug_types.specs.declared.rule.Op.{Op}
use Rattle.ug_types.specs.declared.rule.Op.TheVariants.{AllOf, OneOf, NoneOf, Equals, EqualsOrdered}
use Rattle.ug_words.specs.declared.keywords.Attr.{Attr}
use Rattle.ug_words.specs.declared.keywords.Attr.TheVariants as attr
use Rattle.ug_words.specs.declared.keywords.CondName.{CondName}
use Rattle.ug_words.specs.declared.keywords.CondName.TheVariants as condition

-- a word is read as that exactly where it is this one
abbrev pub IsSpelled : {X : Type 0} → (List ℕ → Option X) → X → List ℕ → Type 0
IsSpelled reads x word = (text : List ℕ) → (reads text ≡ Some x) ↔ (text ≡ word)

unfoldable pub operator_of : List ℕ → Option Op
operator_of word =
    if pointwise nat_eq word (codes "all-of") then Some AllOf else
    if pointwise nat_eq word (codes "one-of") then Some OneOf else
    if pointwise nat_eq word (codes "none-of") then Some NoneOf else
    if pointwise nat_eq word (codes "equals") then Some Equals else
    if pointwise nat_eq word (codes "equals-ordered") then Some EqualsOrdered else None

unfoldable pub attribute_of : List ℕ → Option Attr
attribute_of word =
    if pointwise nat_eq word (codes "id") then Some attr.Id else
    if pointwise nat_eq word (codes "serial") then Some attr.Serial else
    if pointwise nat_eq word (codes "name") then Some attr.Name else
    if pointwise nat_eq word (codes "hash") then Some attr.Hash else
    if pointwise nat_eq word (codes "parent-hash") then Some attr.ParentHash else
    if pointwise nat_eq word (codes "via-port") then Some attr.ViaPort else
    if pointwise nat_eq word (codes "with-interface") then Some attr.Interface else
    if pointwise nat_eq word (codes "with-connect-type") then Some attr.Connect else
    if pointwise nat_eq word (codes "label") then Some attr.Label else None

unfoldable pub condition_of : List ℕ → Option CondName
condition_of word =
    if pointwise nat_eq word (codes "localtime") then Some condition.LocalTime else
    if pointwise nat_eq word (codes "allowed-matches") then Some condition.AllowedMatches else
    if pointwise nat_eq word (codes "rule-applied") then Some condition.RuleApplied else
    if pointwise nat_eq word (codes "rule-evaluated") then Some condition.RuleEvaluated else
    if pointwise nat_eq word (codes "random") then Some condition.Random else
    if pointwise nat_eq word (codes "true") then Some condition.True else
    if pointwise nat_eq word (codes "false") then Some condition.False else None

unfoldable pub is_if : List ℕ → Bool
is_if word = pointwise nat_eq word (codes "if")
