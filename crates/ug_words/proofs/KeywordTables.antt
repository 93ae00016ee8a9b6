-- Words are keywords exactly as these are written.
use Rattle.std.proofs.Common.{◌≡◌, ℕ, Bool, true, false, cond, nat_eq, List, Option, Some, refl, sym, ap, ◌∙◌}
use Rattle.std.specs.Prelude.{codes, ◌↔◌}
use Rattle.std.specs.Cmp.Lexicographic.{pointwise, same_text}
use Rattle.std.proofs.lemmas.Option.{none-some, same_Some}
use Rattle.ug_types.specs.declared.rule.Op.{Op}
use Rattle.ug_types.specs.declared.rule.Op.TheVariants as operator
use Rattle.ug_words.specs.declared.keywords.Attr.{Attr}
use Rattle.ug_words.specs.declared.keywords.Attr.TheVariants as attr
use Rattle.ug_words.specs.declared.keywords.CondName.{CondName}
use Rattle.ug_words.specs.declared.keywords.CondName.TheVariants as condition
use Rattle.ug_words.specs.Keywords.{operator_of, attribute_of, condition_of, is_if}

-- one row of a table
named : {X : Type 0} (spell : X → List ℕ) (word text : List ℕ) (here it : X) (rest : Option X) → text ≡ spell here → (rest ≡ Some it → word ≡ spell it) → cond (pointwise nat_eq word text) (Some here) rest ≡ Some it → word ≡ spell it
named {X} spell word text here it rest t f h = by (pointwise nat_eq word text) refl h
  where
    by : (v : Bool) → pointwise nat_eq word text ≡ v → cond v (Some here) rest ≡ Some it → word ≡ spell it
    by true e k = same_text word text (sym e) ∙ t ∙ ap spell (same_Some here it k)
    by false e k = f k

both_ways : {X : Type 0} (reads : List ℕ → Option X) (spell : X → List ℕ) → ((word : List ℕ) (it : X) → reads word ≡ Some it → word ≡ spell it) → ((it : X) → reads (spell it) ≡ Some it) → (it : X) (word : List ℕ) → (reads word ≡ Some it) ↔ (word ≡ spell it)
both_ways reads spell written read it word = (written word it, λ e. ap reads e ∙ read it)

-- ---- operators

abbrev pub operator_word : Op → List ℕ
operator_word operator.AllOf = codes "all-of"
operator_word operator.OneOf = codes "one-of"
operator_word operator.NoneOf = codes "none-of"
operator_word operator.Equals = codes "equals"
operator_word operator.EqualsOrdered = codes "equals-ordered"

operator_written : (word : List ℕ) (it : Op) → operator_of word ≡ Some it → word ≡ operator_word it
unfolding operator_of
operator_written word it h = named operator_word word (codes "all-of") operator.AllOf it _ refl (λ h. named operator_word word (codes "one-of") operator.OneOf it _ refl (λ h. named operator_word word (codes "none-of") operator.NoneOf it _ refl (λ h. named operator_word word (codes "equals") operator.Equals it _ refl (λ h. named operator_word word (codes "equals-ordered") operator.EqualsOrdered it _ refl (λ h. absurd (none-some it h)) h) h) h) h) h

operator_read : (it : Op) → operator_of (operator_word it) ≡ Some it
unfolding operator_of
operator_read operator.AllOf = refl
operator_read operator.OneOf = refl
operator_read operator.NoneOf = refl
operator_read operator.Equals = refl
operator_read operator.EqualsOrdered = refl

pub operator_is : (it : Op) (word : List ℕ) → (operator_of word ≡ Some it) ↔ (word ≡ operator_word it)
operator_is = both_ways operator_of operator_word operator_written operator_read

-- ---- attributes

abbrev pub attribute_word : Attr → List ℕ
attribute_word attr.Id = codes "id"
attribute_word attr.Serial = codes "serial"
attribute_word attr.Name = codes "name"
attribute_word attr.Hash = codes "hash"
attribute_word attr.ParentHash = codes "parent-hash"
attribute_word attr.ViaPort = codes "via-port"
attribute_word attr.Interface = codes "with-interface"
attribute_word attr.Connect = codes "with-connect-type"
attribute_word attr.Label = codes "label"

attribute_written : (word : List ℕ) (it : Attr) → attribute_of word ≡ Some it → word ≡ attribute_word it
unfolding attribute_of
attribute_written word it h = named attribute_word word (codes "id") attr.Id it _ refl (λ h. named attribute_word word (codes "serial") attr.Serial it _ refl (λ h. named attribute_word word (codes "name") attr.Name it _ refl (λ h. named attribute_word word (codes "hash") attr.Hash it _ refl (λ h. named attribute_word word (codes "parent-hash") attr.ParentHash it _ refl (λ h. named attribute_word word (codes "via-port") attr.ViaPort it _ refl (λ h. named attribute_word word (codes "with-interface") attr.Interface it _ refl (λ h. named attribute_word word (codes "with-connect-type") attr.Connect it _ refl (λ h. named attribute_word word (codes "label") attr.Label it _ refl (λ h. absurd (none-some it h)) h) h) h) h) h) h) h) h) h

attribute_read : (it : Attr) → attribute_of (attribute_word it) ≡ Some it
unfolding attribute_of
attribute_read attr.Id = refl
attribute_read attr.Serial = refl
attribute_read attr.Name = refl
attribute_read attr.Hash = refl
attribute_read attr.ParentHash = refl
attribute_read attr.ViaPort = refl
attribute_read attr.Interface = refl
attribute_read attr.Connect = refl
attribute_read attr.Label = refl

pub attribute_is : (it : Attr) (word : List ℕ) → (attribute_of word ≡ Some it) ↔ (word ≡ attribute_word it)
attribute_is = both_ways attribute_of attribute_word attribute_written attribute_read

-- ---- conditions

abbrev pub condition_word : CondName → List ℕ
condition_word condition.LocalTime = codes "localtime"
condition_word condition.AllowedMatches = codes "allowed-matches"
condition_word condition.RuleApplied = codes "rule-applied"
condition_word condition.RuleEvaluated = codes "rule-evaluated"
condition_word condition.Random = codes "random"
condition_word condition.True = codes "true"
condition_word condition.False = codes "false"

condition_written : (word : List ℕ) (it : CondName) → condition_of word ≡ Some it → word ≡ condition_word it
unfolding condition_of
condition_written word it h = named condition_word word (codes "localtime") condition.LocalTime it _ refl (λ h. named condition_word word (codes "allowed-matches") condition.AllowedMatches it _ refl (λ h. named condition_word word (codes "rule-applied") condition.RuleApplied it _ refl (λ h. named condition_word word (codes "rule-evaluated") condition.RuleEvaluated it _ refl (λ h. named condition_word word (codes "random") condition.Random it _ refl (λ h. named condition_word word (codes "true") condition.True it _ refl (λ h. named condition_word word (codes "false") condition.False it _ refl (λ h. absurd (none-some it h)) h) h) h) h) h) h) h

condition_read : (it : CondName) → condition_of (condition_word it) ≡ Some it
unfolding condition_of
condition_read condition.LocalTime = refl
condition_read condition.AllowedMatches = refl
condition_read condition.RuleApplied = refl
condition_read condition.RuleEvaluated = refl
condition_read condition.Random = refl
condition_read condition.True = refl
condition_read condition.False = refl

pub condition_is : (it : CondName) (word : List ℕ) → (condition_of word ≡ Some it) ↔ (word ≡ condition_word it)
condition_is = both_ways condition_of condition_word condition_written condition_read

pub if_is : (word : List ℕ) → (is_if word ≡ true) ↔ (word ≡ codes "if")
unfolding is_if
if_is word = (λ h. same_text word (codes "if") (sym h), λ e. ap (λ w. pointwise nat_eq w (codes "if")) e)
