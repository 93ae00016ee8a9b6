-- Values and rules as cuts of their tokens: usbguard-rules.conf(5).
use Rattle.std.specs.Prelude.{◌≡◌, ℕ, ◌<◌, ◌⊎◌, true, false, List, [], ◌∷◌, ◌++◌, length, Option, Some, None}
use Rattle.ug_words.specs.declared.token.Token.{Token}
use Rattle.ug_words.specs.Grammar.{Good}
use Rattle.ug_types.specs.declared.rule.Cond.{Cond}
use Rattle.ug_types.specs.declared.rule.CondKind.{CondKind}
use Rattle.ug_types.specs.declared.rule.CondKind.TheVariants as condition
use Rattle.ug_types.specs.declared.rule.Conds.{Conds}
use Rattle.ug_types.specs.declared.rule.Id.{Id}
use Rattle.ug_types.specs.declared.rule.Iface.{Iface}
use Rattle.ug_types.specs.declared.rule.Op.{Op}
use Rattle.ug_types.specs.declared.rule.Op.TheVariants.{Equals}
use Rattle.ug_types.specs.declared.rule.Query.{Query}
use Rattle.ug_types.specs.declared.rule.Rule.{Rule}
use Rattle.ug_types.specs.declared.rule.Values.{Values}
use Rattle.ug_words.specs.declared.keywords.Attr.{Attr}
use Rattle.ug_words.specs.declared.keywords.Attr.TheVariants as attr
use Rattle.ug_words.specs.declared.keywords.CondName.{CondName}
use Rattle.ug_words.specs.declared.keywords.CondName.TheVariants as name
use Rattle.ug_words.specs.declared.words.DaySpan.{DaySpan}
use Rattle.ug_rule.specs.Conditions.{chance_or_half, conditions_joined}
use Rattle.ug_words.specs.Keywords.{operator_of, attribute_of, condition_of, is_if}
use Rattle.ug_types.specs.Targets.{target_of}
use Rattle.ug_rule.specs.Queries.{no_query, is_attribute_given, is_empty_query, has_colon, id_query}
use Rattle.ug_rule.specs.Tokens.{word_of, first_word, is_open, is_close, is_paren_open, is_paren_close, is_bang, starts_with_paren, string_by}
use Rattle.ug_rule.specs.Values.{id_in, interface_in, string_in, valued}
use Rattle.ug_words.specs.Words.{id_of, span_of, past_of, chance_of}

-- each token is the item at its place
abbrev pub AreItems : {X : Type 0} → (Token → Option X) → List Token → List X → Type 0
AreItems reads [] [] = Unit {0}
AreItems reads [] (item ∷ items) = ⊥
AreItems reads (token ∷ tokens) [] = ⊥
AreItems reads (token ∷ tokens) (item ∷ items) =
    (is_close token.kind ≡ false) × (reads token ≡ Some item) × AreItems reads tokens items

-- at least one item, and a closing brace
pub record IsSet {X : Type 0} (reads : Token → Option X) (items : List X)
    (tokens rest : List Token) : Type 0 where
  pub inner : List Token
  pub brace : Token
  pub cut : tokens ≡ inner ++ brace ∷ rest
  pub closes : is_close brace.kind ≡ true
  pub says : AreItems reads inner items
  pub some : 0 < length items

-- one item alone
pub record IsSingle {X : Type 0} (line : List ℕ) (reads : Token → Option X) (values : Values X)
    (tokens rest : List Token) : Type 0 where
  pub token : Token
  pub item : X
  pub cut : tokens ≡ token ∷ rest
  pub plain : is_open token.kind ≡ false
  pub word : operator_of (word_of line token) ≡ None
  pub says : reads token ≡ Some item
  pub is : values ≡ valued Equals (item ∷ [])

-- items in braces, without an operator
pub record IsPlainSet {X : Type 0} (reads : Token → Option X) (values : Values X)
    (tokens rest : List Token) : Type 0 where
  pub brace : Token
  pub items : List X
  pub more : List Token
  pub cut : tokens ≡ brace ∷ more
  pub opens : is_open brace.kind ≡ true
  pub set : IsSet reads items more rest
  pub is : values ≡ valued Equals items

-- an operator, and items in braces
pub record IsOperatorSet {X : Type 0} (line : List ℕ) (reads : Token → Option X) (values : Values X)
    (tokens rest : List Token) : Type 0 where
  pub word : Token
  pub brace : Token
  pub op : Op
  pub items : List X
  pub more : List Token
  pub cut : tokens ≡ word ∷ brace ∷ more
  pub plain : is_open word.kind ≡ false
  pub names : operator_of (word_of line word) ≡ Some op
  pub opens : is_open brace.kind ≡ true
  pub set : IsSet reads items more rest
  pub is : values ≡ valued op items

-- a value, and the tokens behind it
abbrev pub IsValue : {X : Type 0} → List ℕ → (Token → Option X) → Values X → List Token → List Token
    → Type 0
IsValue line reads values tokens rest =
    IsSingle line reads values tokens rest
    ⊎ (IsPlainSet reads values tokens rest ⊎ IsOperatorSet line reads values tokens rest)

-- ---- attributes

-- a string alone
pub record IsText (text : List ℕ) (tokens rest : List Token) : Type 0 where
  pub token : Token
  pub cut : tokens ≡ token ∷ rest
  pub says : string_by token.kind ≡ Some text

-- what the value of an attribute adds to a query
abbrev pub Tells : List ℕ → Attr → Query → Query → List Token → List Token → Type 0
Tells line attr.Id query next tokens rest =
    (values : Values Id) × IsValue line (id_in line) values tokens rest
    × (next ≡ record query { id = Some values })
Tells line attr.Serial query next tokens rest =
    (values : Values (List ℕ)) × IsValue line (string_in line) values tokens rest
    × (next ≡ record query { serial = Some values })
Tells line attr.Name query next tokens rest =
    (values : Values (List ℕ)) × IsValue line (string_in line) values tokens rest
    × (next ≡ record query { name = Some values })
Tells line attr.Hash query next tokens rest =
    (values : Values (List ℕ)) × IsValue line (string_in line) values tokens rest
    × (next ≡ record query { hash = Some values })
Tells line attr.ParentHash query next tokens rest =
    (values : Values (List ℕ)) × IsValue line (string_in line) values tokens rest
    × (next ≡ record query { parent_hash = Some values })
Tells line attr.ViaPort query next tokens rest =
    (values : Values (List ℕ)) × IsValue line (string_in line) values tokens rest
    × (next ≡ record query { via_port = Some values })
Tells line attr.Interface query next tokens rest =
    (values : Values Iface) × IsValue line (interface_in line) values tokens rest
    × (next ≡ record query { interface = Some values })
Tells line attr.Connect query next tokens rest =
    (values : Values (List ℕ)) × IsValue line (string_in line) values tokens rest
    × (next ≡ record query { connect = Some values })
Tells line attr.Label query next tokens rest =
    (text : List ℕ) × IsText text tokens rest × (next ≡ record query { label = Some text })

-- an attribute that the query lacks: its name, and its value
pub record IsAttribute (line : List ℕ) (attr : Attr) (query next : Query)
    (tokens rest : List Token) : Type 0 where
  pub name : Token
  pub more : List Token
  pub cut : tokens ≡ name ∷ more
  pub names : attribute_of (word_of line name) ≡ Some attr
  pub once : is_attribute_given attr query ≡ false
  pub tells : Tells line attr query next more rest

-- these attributes, each for the first time
abbrev pub AreAttributes : List ℕ → List Attr → Query → Query → List Token → List Token → Type 0
AreAttributes line [] query all tokens rest = (all ≡ query) × (tokens ≡ rest)
AreAttributes line (attr ∷ attrs) query all tokens rest =
    (next : Query) × (left : List Token) × IsAttribute line attr query next tokens left
    × AreAttributes line attrs next all left rest

-- attributes in some order, and no attribute behind them
pub record AllAttributes (line : List ℕ) (query all : Query)
    (tokens rest : List Token) : Type 0 where
  pub attrs : List Attr
  pub are : AreAttributes line attrs query all tokens rest
  pub last : attribute_of (first_word line rest) ≡ None

-- ---- queries

-- an id alone in front
pub record IsBareId (line : List ℕ) (query : Query) (tokens rest : List Token) : Type 0 where
  pub token : Token
  pub id : Id
  pub cut : tokens ≡ token ∷ rest
  pub colon : has_colon (word_of line token) ≡ true
  pub says : id_of (word_of line token) ≡ Some id
  pub is : query ≡ id_query (valued Equals (id ∷ []))

-- a bare id or none: a first word with a colon is an id
abbrev pub BeginsQuery : List ℕ → Query → List Token → List Token → Type 0
BeginsQuery line query tokens rest =
    IsBareId line query tokens rest
    ⊎ ((has_colon (first_word line tokens) ≡ false) × (query ≡ no_query) × (tokens ≡ rest))

-- a bare id or none, and attributes in any order, up to the rest
pub record IsQueryTo (line : List ℕ) (query : Query) (tokens rest : List Token) : Type 0 where
  pub first : Query
  pub more : List Token
  pub attrs : List Attr
  pub begins : BeginsQuery line first tokens more
  pub are : AreAttributes line attrs first query more rest

-- a query with an attribute, and nothing behind it
abbrev pub IsQuery : List ℕ → Query → List Token → Type 0
IsQuery line query tokens = IsQueryTo line query tokens [] × (is_empty_query query ≡ false)

-- ---- conditions

-- a word in parentheses
pub record IsArgument {X : Type 0} (line : List ℕ) (reads : List ℕ → Option X) (x : X)
    (tokens rest : List Token) : Type 0 where
  pub opening : Token
  pub word : Token
  pub closing : Token
  pub cut : tokens ≡ opening ∷ word ∷ closing ∷ rest
  pub opens : is_paren_open opening.kind ≡ true
  pub says : reads (word_of line word) ≡ Some x
  pub closes : is_paren_close closing.kind ≡ true

-- a word in parentheses, or no parentheses
abbrev pub MayHaveArgument : {X : Type 0} → List ℕ → (List ℕ → Option X) → Option X → List Token
    → List Token → Type 0
MayHaveArgument line reads None tokens rest = (starts_with_paren tokens ≡ false) × (tokens ≡ rest)
MayHaveArgument line reads (Some x) tokens rest = IsArgument line reads x tokens rest

-- a query in parentheses, with an attribute
pub record HasQuery (line : List ℕ) (query : Query) (tokens rest : List Token) : Type 0 where
  pub opening : Token
  pub closing : Token
  pub more : List Token
  pub cut : tokens ≡ opening ∷ more
  pub opens : is_paren_open opening.kind ≡ true
  pub is : IsQueryTo line query more (closing ∷ rest)
  pub some : is_empty_query query ≡ false
  pub closes : is_paren_close closing.kind ≡ true

-- what stands behind a condition's name
abbrev pub Argues : List ℕ → CondName → CondKind → List Token → List Token → Type 0
Argues line name.LocalTime kind tokens rest =
    (span : DaySpan) × IsArgument line span_of span tokens rest
    × (kind ≡ condition.LocalTime span.begin span.end)
Argues line name.AllowedMatches kind tokens rest =
    (query : Query) × HasQuery line query tokens rest × (kind ≡ condition.AllowedMatches query)
Argues line name.RuleApplied kind tokens rest =
    (past : Option ℕ) × MayHaveArgument line past_of past tokens rest
    × (kind ≡ condition.RuleApplied past)
Argues line name.RuleEvaluated kind tokens rest =
    (past : Option ℕ) × MayHaveArgument line past_of past tokens rest
    × (kind ≡ condition.RuleEvaluated past)
Argues line name.Random kind tokens rest =
    (chance : Option ℕ) × MayHaveArgument line chance_of chance tokens rest
    × (kind ≡ condition.Random (chance_or_half chance))
Argues line name.True kind tokens rest = (kind ≡ condition.True) × (tokens ≡ rest)
Argues line name.False kind tokens rest = (kind ≡ condition.False) × (tokens ≡ rest)

-- a condition's name, and its argument
pub record IsNamedCondition (line : List ℕ) (kind : CondKind)
    (tokens rest : List Token) : Type 0 where
  pub word : Token
  pub name : CondName
  pub more : List Token
  pub cut : tokens ≡ word ∷ more
  pub names : condition_of (word_of line word) ≡ Some name
  pub argues : Argues line name kind more rest

-- a condition without `!`
pub record IsPlain (line : List ℕ) (cond : Cond) (tokens rest : List Token) : Type 0 where
  pub kind : CondKind
  pub named : IsNamedCondition line kind tokens rest
  pub is : cond ≡ record { negated = false; kind = kind }

-- a condition behind `!`
pub record IsNegated (line : List ℕ) (cond : Cond) (tokens rest : List Token) : Type 0 where
  pub bang : Token
  pub more : List Token
  pub kind : CondKind
  pub cut : tokens ≡ bang ∷ more
  pub negates : is_bang bang.kind ≡ true
  pub named : IsNamedCondition line kind more rest
  pub is : cond ≡ record { negated = true; kind = kind }

abbrev pub IsCondition : List ℕ → Cond → List Token → List Token → Type 0
IsCondition line cond tokens rest = IsPlain line cond tokens rest ⊎ IsNegated line cond tokens rest

-- these conditions, up to the rest
abbrev pub AreConditions : List ℕ → List Cond → List Token → List Token → Type 0
AreConditions line [] tokens rest = tokens ≡ rest
AreConditions line (cond ∷ conds) tokens rest =
    (left : List Token) × IsCondition line cond tokens left × AreConditions line conds left rest

-- at least one condition, and a closing brace
pub record IsCondSet (line : List ℕ) (conds : List Cond) (tokens rest : List Token) : Type 0 where
  pub brace : Token
  pub are : AreConditions line conds tokens (brace ∷ rest)
  pub closes : is_close brace.kind ≡ true
  pub some : 0 < length conds

-- one condition alone
pub record IsOneCondition (line : List ℕ) (conds : Conds) (tokens rest : List Token) : Type 0 where
  pub cond : Cond
  pub one : IsCondition line cond tokens rest
  pub is : conds ≡ conditions_joined Equals (cond ∷ [])

-- conditions in braces, without an operator
pub record IsPlainConds (line : List ℕ) (conds : Conds) (tokens rest : List Token) : Type 0 where
  pub brace : Token
  pub items : List Cond
  pub more : List Token
  pub cut : tokens ≡ brace ∷ more
  pub opens : is_open brace.kind ≡ true
  pub set : IsCondSet line items more rest
  pub is : conds ≡ conditions_joined Equals items

-- an operator, and conditions in braces
pub record IsOperatorConds (line : List ℕ) (conds : Conds) (tokens rest : List Token) : Type 0 where
  pub word : Token
  pub brace : Token
  pub op : Op
  pub items : List Cond
  pub more : List Token
  pub cut : tokens ≡ word ∷ brace ∷ more
  pub names : operator_of (word_of line word) ≡ Some op
  pub opens : is_open brace.kind ≡ true
  pub set : IsCondSet line items more rest
  pub is : conds ≡ conditions_joined op items

-- conditions, and the tokens behind them
abbrev pub IsConditions : List ℕ → Conds → List Token → List Token → Type 0
IsConditions line conds tokens rest =
    IsOneCondition line conds tokens rest
    ⊎ (IsPlainConds line conds tokens rest ⊎ IsOperatorConds line conds tokens rest)

-- ---- rules

-- `if` and conditions
pub record IsIf (line : List ℕ) (conds : Conds) (tokens rest : List Token) : Type 0 where
  pub word : Token
  pub more : List Token
  pub cut : tokens ≡ word ∷ more
  pub names : is_if (word_of line word) ≡ true
  pub are : IsConditions line conds more rest

-- a part of a rule: an attribute with its value, or `if` with its conditions
pub data RulePart : Type 0 where
  Attribute : Attr → RulePart
  If : RulePart

-- parts that make one query and its conditions of another, to the last token: each
-- attribute and `if` for the first time
abbrev pub AreParts : List ℕ → List RulePart → Query → Option Conds → Query → Option Conds
    → List Token
    → Type 0
AreParts line [] query conds all found tokens = (all ≡ query) × (found ≡ conds) × (tokens ≡ [])
AreParts line (Attribute attr ∷ parts) query conds all found tokens =
    (next : Query) × (left : List Token) × IsAttribute line attr query next tokens left
    × AreParts line parts next conds all found left
AreParts line (If ∷ parts) query conds all found tokens =
    (next : Conds) × (left : List Token) × IsIf line next tokens left × (conds ≡ None)
    × AreParts line parts query (Some next) all found left

-- a target, a bare id or none, and parts in any order
pub record IsRule (line : List ℕ) (rule : Rule) (tokens : List Token) : Type 0 where
  pub target : Token
  pub body : List Token
  pub first : Query
  pub behind : List Token
  pub parts : List RulePart
  pub cut : tokens ≡ target ∷ body
  pub names : target_of (word_of line target) ≡ Some rule.target
  pub begins : BeginsQuery line first body behind
  pub are : AreParts line parts first None rule.query rule.conds behind

-- ---- lines

-- the tokens of the line are this rule
pub record Says (line : List ℕ) (rule : Rule) : Type 0 where
  pub tokens : List Token
  pub cut : Good line tokens
  pub is : IsRule line rule tokens

-- the tokens of the line are this query
pub record Asks (line : List ℕ) (query : Query) : Type 0 where
  pub tokens : List Token
  pub cut : Good line tokens
  pub is : IsQuery line query tokens

-- some line is the rule
pub record WellFormed (rule : Rule) : Type 0 where
  pub line : List ℕ
  pub says : Says line rule
