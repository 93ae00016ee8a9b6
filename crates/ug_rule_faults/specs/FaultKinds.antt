-- What is wrong where tokens can't go on, by what those before ask for: usbguard-rules.conf(5).
use Rattle.std.specs.Prelude.{ℕ, Bool, true, false, ◌&&◌, if◌then◌else◌, List, [], ◌∷◌, Option, Some, None, is_some}
use Rattle.ug_words.specs.declared.token.Token.{Token}
use Rattle.ug_words.specs.declared.token.TokenKind.{TokenKind}
use Rattle.ug_words.specs.declared.token.TokenKind.TheVariants.{Word, Str, Open, Close, ParenOpen, ParenClose, Bang}
use Rattle.ug_rule.specs.declared.fault.FaultKind.{FaultKind}
use Rattle.ug_rule.specs.declared.fault.FaultKind.TheVariants.{NoTarget, UnknownWord, Repeated, BadValue, EmptySet, OpenSet, BadCondition, ConditionInQuery, TrailingToken}
use Rattle.ug_words.specs.declared.keywords.CondName.{CondName}
use Rattle.ug_words.specs.declared.keywords.CondName.TheVariants as name
use Rattle.ug_words.specs.Keywords.{operator_of, attribute_of, condition_of, is_if}
use Rattle.ug_rule.specs.Queries.{has_colon}
use Rattle.ug_rule.specs.Tokens.{word_of, is_word, is_close, is_paren_close}

-- a bracket that is open: a brace round items or conditions, a parenthesis round a query or another
-- argument
pub data Bracket : Type 0 where
  OfItems : Bracket
  OfConditions : Bracket
  OfQuery : Bracket
  OfArgument : Bracket

-- what the last token leaves to be said
pub data Asked : Type 0 where
  -- it is the target or an opening parenthesis, and an id may come without its word
  First : Asked
  -- it ends a part, an item or a condition, or is a word that needs no argument
  Part : Asked
  -- it is an attribute's name, or an operator behind it
  Value : Asked
  -- it is `if`, an operator behind it, `!` or `localtime`
  Condition : Asked
  -- it is `allowed-matches`
  Query : Asked
  -- it is an opening brace
  FirstItem : Asked

-- the brackets that are open, the innermost first
pub record Context : Type 0 where
  pub asked : Asked
  pub brackets : List Bracket

-- ---- what tokens ask for

abbrev pub asked_by_name : Option CondName → Asked
asked_by_name None = Part
asked_by_name (Some name.LocalTime) = Condition
asked_by_name (Some name.AllowedMatches) = Query
asked_by_name (Some name.RuleApplied) = Part
asked_by_name (Some name.RuleEvaluated) = Part
asked_by_name (Some name.Random) = Part
asked_by_name (Some name.True) = Part
asked_by_name (Some name.False) = Part

-- an operator asks for what was asked for before it
abbrev pub asked_by : List ℕ → Asked → Asked
asked_by word asked =
    if is_some (operator_of word) then asked
    else if is_some (attribute_of word) then Value
    else if is_if word then Condition
    else asked_by_name (condition_of word)

abbrev pub brace_for : Asked → Bracket
brace_for Value = OfItems
brace_for First = OfConditions
brace_for Part = OfConditions
brace_for Condition = OfConditions
brace_for Query = OfConditions
brace_for FirstItem = OfConditions

abbrev pub parenthesis_for : Asked → Bracket
parenthesis_for Query = OfQuery
parenthesis_for First = OfArgument
parenthesis_for Part = OfArgument
parenthesis_for Value = OfArgument
parenthesis_for Condition = OfArgument
parenthesis_for FirstItem = OfArgument

abbrev pub without_first : List Bracket → List Bracket
without_first [] = []
without_first (bracket ∷ brackets) = brackets

abbrev pub context_with : Asked → List Bracket → Context
context_with asked brackets = record { asked = asked; brackets = brackets }

abbrev pub context_behind : List ℕ → TokenKind → Context → Context
context_behind word Word context = context_with (asked_by word context.asked) context.brackets
context_behind word (Str text) context = context_with Part context.brackets
context_behind word Open context =
    context_with FirstItem (brace_for context.asked ∷ context.brackets)
context_behind word Close context = context_with Part (without_first context.brackets)
context_behind word ParenOpen context =
    context_with First (parenthesis_for context.asked ∷ context.brackets)
context_behind word ParenClose context = context_with Part (without_first context.brackets)
context_behind word Bang context = context_with Condition context.brackets

-- behind all of the tokens
abbrev pub context_of : List ℕ → Context → List Token → Context
context_of line context [] = context
context_of line context (token ∷ tokens) =
    context_of line (context_behind (word_of line token) token.kind context) tokens

-- behind a target, or at the front of a query
abbrev pub at_first : Context
at_first = context_with First []

-- ---- a token that can't stand

abbrev pub asks_first_item : Asked → Bool
asks_first_item First = false
asks_first_item Part = false
asks_first_item Value = false
asks_first_item Condition = false
asks_first_item Query = false
asks_first_item FirstItem = true

-- where a part must begin
abbrev pub kind_at_part : FaultKind → Bool → Bool → List ℕ → TokenKind → FaultKind
kind_at_part of_if first in_query word kind =
    if first && has_colon word then BadValue
    else if is_some (attribute_of word) then Repeated
    else if is_if word then of_if
    else if in_query && is_paren_close kind then BadCondition
    else if is_word kind then UnknownWord
    else TrailingToken

-- in a set, which a brace can't close while it is empty
abbrev pub kind_in_set : FaultKind → Bool → TokenKind → FaultKind
kind_in_set otherwise empty kind = if empty && is_close kind then EmptySet else otherwise

abbrev pub kind_asked : FaultKind → Bool → Asked → List ℕ → TokenKind → FaultKind
kind_asked of_if in_query First word kind = kind_at_part of_if true in_query word kind
kind_asked of_if in_query Part word kind = kind_at_part of_if false in_query word kind
kind_asked of_if in_query Value word kind = BadValue
kind_asked of_if in_query Condition word kind = BadCondition
kind_asked of_if in_query Query word kind = BadCondition
kind_asked of_if in_query FirstItem word kind = TrailingToken

-- by the innermost bracket, and what the last token leaves to be said
abbrev pub kind_within : FaultKind → List Bracket → Asked → List ℕ → TokenKind → FaultKind
kind_within of_if [] asked word kind = kind_asked of_if false asked word kind
kind_within of_if (OfItems ∷ brackets) asked word kind =
    kind_in_set BadValue (asks_first_item asked) kind
kind_within of_if (OfConditions ∷ brackets) asked word kind =
    kind_in_set BadCondition (asks_first_item asked) kind
kind_within of_if (OfQuery ∷ brackets) asked word kind =
    kind_asked ConditionInQuery true asked word kind
kind_within of_if (OfArgument ∷ brackets) asked word kind = BadCondition

abbrev pub kind_in : FaultKind → Context → List ℕ → Token → FaultKind
kind_in of_if context line token =
    kind_within of_if context.brackets context.asked (word_of line token) token.kind

-- in a rule: its first token is the target, and `if` behind other conditions is a repetition
abbrev pub rule_stray_kind : List ℕ → List Token → Token → FaultKind
rule_stray_kind line [] token = NoTarget
rule_stray_kind line (target ∷ before) token =
    kind_in Repeated (context_of line at_first before) line token

-- in a query alone
abbrev pub query_stray_kind : List ℕ → List Token → Token → FaultKind
query_stray_kind line before token =
    kind_in ConditionInQuery (context_of line at_first before) line token

-- ---- a line that ends too early

abbrev pub has_brace : List Bracket → Bool
has_brace [] = false
has_brace (OfItems ∷ brackets) = true
has_brace (OfConditions ∷ brackets) = true
has_brace (OfQuery ∷ brackets) = has_brace brackets
has_brace (OfArgument ∷ brackets) = has_brace brackets

-- where all brackets are closed: a query that ends where a part may begin lacks its first attribute
abbrev pub lacking : Asked → FaultKind
lacking First = BadValue
lacking Part = BadValue
lacking Value = BadValue
lacking Condition = BadCondition
lacking Query = BadCondition
lacking FirstItem = BadCondition

-- within parentheses
abbrev pub lacking_within : Asked → FaultKind
lacking_within First = BadCondition
lacking_within Part = BadCondition
lacking_within Value = BadValue
lacking_within Condition = BadCondition
lacking_within Query = BadCondition
lacking_within FirstItem = BadCondition

abbrev pub lacking_in : List Bracket → Asked → FaultKind
lacking_in [] asked = lacking asked
lacking_in (OfItems ∷ brackets) asked = OpenSet
lacking_in (OfConditions ∷ brackets) asked = OpenSet
lacking_in (OfQuery ∷ brackets) asked = lacking_within asked
lacking_in (OfArgument ∷ brackets) asked = BadCondition

-- an open brace is at fault, whatever is open within it
abbrev pub kind_at_end : Context → FaultKind
kind_at_end context =
    if has_brace context.brackets then OpenSet else lacking_in context.brackets context.asked

abbrev pub rule_early_kind : List ℕ → List Token → FaultKind
rule_early_kind line [] = NoTarget
rule_early_kind line (target ∷ tokens) = kind_at_end (context_of line at_first tokens)

abbrev pub query_early_kind : List ℕ → List Token → FaultKind
query_early_kind line tokens = kind_at_end (context_of line at_first tokens)
