-- The words of a rule in their order: usbguard-rules.conf(5).
use Rattle.std.specs.Prelude.{ℕ, Bool, false, nat_eq, if◌then◌else◌, List, [], ◌∷◌, ◌++◌, length, map, Option, None, Some, codes, flat_map}
use Rattle.ug_types.specs.declared.rule.Cond.{Cond}
use Rattle.ug_types.specs.declared.rule.CondKind.{CondKind}
use Rattle.ug_types.specs.declared.rule.CondKind.TheVariants as kind
use Rattle.ug_types.specs.declared.rule.Conds.{Conds}
use Rattle.ug_types.specs.declared.rule.Op.{Op}
use Rattle.ug_types.specs.declared.rule.Op.TheVariants.{AllOf, OneOf, NoneOf, Equals, EqualsOrdered}
use Rattle.ug_types.specs.declared.rule.Query.{Query}
use Rattle.ug_types.specs.declared.rule.Rule.{Rule}
use Rattle.ug_types.specs.declared.rule.Values.{Values}
use Rattle.ug_types.specs.Targets.{target_word}
use Rattle.ug_print.specs.Items.{id_text, interface_text, past_text, probability_text, string_text, time_text}

abbrev pub spaced : List ℕ → List ℕ
spaced word = 32 ∷ word

-- the words with one space between each and the next
abbrev pub joined : List (List ℕ) → List ℕ
joined [] = []
joined (word ∷ words) = word ++ flat_map spaced words

-- no operator is written for equals
abbrev pub operator_words : Op → List (List ℕ)
operator_words AllOf = codes "all-of" ∷ []
operator_words OneOf = codes "one-of" ∷ []
operator_words NoneOf = codes "none-of" ∷ []
operator_words Equals = []
operator_words EqualsOrdered = codes "equals-ordered" ∷ []

-- one item of equals stands without braces
abbrev pub is_alone : Op → ℕ → Bool
is_alone Equals n = nat_eq n 1
is_alone AllOf n = false
is_alone OneOf n = false
is_alone NoneOf n = false
is_alone EqualsOrdered n = false

abbrev pub opening : Op → ℕ → List (List ℕ)
opening op n = if is_alone op n then [] else operator_words op ++ codes "{" ∷ []

abbrev pub closing_brace : Op → ℕ → List (List ℕ)
closing_brace op n = if is_alone op n then [] else codes "}" ∷ []

abbrev pub set_words : Op → List (List ℕ) → List (List ℕ)
set_words op items = opening op (length items) ++ items ++ closing_brace op (length items)

-- an attribute that is given: its name and its values
abbrev pub attribute_words : {X : Type 0} → List ℕ → (X → List ℕ) → Option (Values X)
    → List (List ℕ)
attribute_words name item None = []
attribute_words name item (Some values) = name ∷ set_words values.op (map item values.items)

abbrev pub label_words : Option (List ℕ) → List (List ℕ)
label_words None = []
label_words (Some text) = codes "label" ∷ string_text text ∷ []

unfoldable pub query_words : Query → List (List ℕ)
query_words query =
    attribute_words (codes "id") id_text query.id
    ++ attribute_words (codes "serial") string_text query.serial
    ++ attribute_words (codes "name") string_text query.name
    ++ attribute_words (codes "hash") string_text query.hash
    ++ attribute_words (codes "parent-hash") string_text query.parent_hash
    ++ attribute_words (codes "via-port") string_text query.via_port
    ++ attribute_words (codes "with-interface") interface_text query.interface
    ++ attribute_words (codes "with-connect-type") string_text query.connect
    ++ label_words query.label

unfoldable pub kind_text : CondKind → List ℕ
kind_text (kind.LocalTime begin end) =
    codes "localtime(" ++ time_text begin ++ 45 ∷ (time_text end ++ 41 ∷ [])
kind_text (kind.AllowedMatches query) =
    codes "allowed-matches(" ++ joined (query_words query) ++ 41 ∷ []
kind_text (kind.RuleApplied past) = codes "rule-applied" ++ past_text past
kind_text (kind.RuleEvaluated past) = codes "rule-evaluated" ++ past_text past
kind_text (kind.Random n) = codes "random(" ++ probability_text n ++ 41 ∷ []
kind_text kind.True = codes "true"
kind_text kind.False = codes "false"

abbrev pub cond_text : Cond → List ℕ
cond_text cond = (if cond.negated then codes "!" else []) ++ kind_text cond.kind

abbrev pub conds_words : Option Conds → List (List ℕ)
conds_words None = []
conds_words (Some conds) = codes "if" ∷ set_words conds.op (map cond_text conds.items)

abbrev pub rule_words : Rule → List (List ℕ)
rule_words rule = target_word rule.target ∷ (query_words rule.query ++ conds_words rule.conds)

-- the canonical text of a rule
unfoldable pub rule_text : Rule → List ℕ
rule_text rule = joined (rule_words rule)
