-- The reading of a rule or a query, token by token: what a token makes of a state.
use Rattle.std.proofs.Common.{ℕ, Bool, true, false, List, [], ◌∷◌, length, Option, Some, None, Result, Ok, Err, is_some, if◌then◌else◌}
use Rattle.ug_words.specs.declared.token.Token.{Token}
use Rattle.ug_words.specs.declared.token.TokenKind.{TokenKind}
use Rattle.ug_types.specs.declared.rule.Op.{Op}
use Rattle.ug_types.specs.declared.rule.Query.{Query}
use Rattle.ug_types.specs.declared.verdict.Target.{Target}
use Rattle.ug_rule.specs.declared.fault.Ending.{Ending}
use Rattle.ug_rule.specs.declared.fault.Fault.{Fault}
use Rattle.ug_rule.specs.declared.fault.FaultKind.{FaultKind}
use Rattle.ug_rule.specs.declared.fault.FaultKind.TheVariants.{NoTarget, UnknownWord, Repeated, BadValue, EmptySet, OpenSet, BadCondition, ConditionInQuery, TrailingToken}
use Rattle.ug_words.specs.declared.keywords.Attr.{Attr}
use Rattle.ug_words.specs.declared.keywords.Attr.TheVariants as attr
use Rattle.ug_words.specs.declared.keywords.CondName.{CondName}
use Rattle.ug_words.specs.declared.keywords.CondName.TheVariants as name
use Rattle.ug_rule.specs.Faults.{fault_at, missing, outermost}
use Rattle.ug_words.specs.Keywords.{operator_of, attribute_of, condition_of, is_if}
use Rattle.ug_types.specs.Targets.{target_of}
use Rattle.ug_rule.specs.Queries.{has_colon}
use Rattle.ug_rule.specs.Tokens.{word_of, is_word, is_open, is_close, is_paren_open, is_paren_close, is_bang, string_by}
use Rattle.ug_words.specs.Words.{id_of, interface_of, span_of, past_of, chance_of}

-- ---- which attributes were given

pub record Given : Type 0 where
  pub id : Bool
  pub serial : Bool
  pub name : Bool
  pub hash : Bool
  pub parent_hash : Bool
  pub via_port : Bool
  pub interface : Bool
  pub connect : Bool
  pub label : Bool

abbrev pub given_in : Query → Given
given_in query = record {
  id = is_some query.id;
  serial = is_some query.serial;
  name = is_some query.name;
  hash = is_some query.hash;
  parent_hash = is_some query.parent_hash;
  via_port = is_some query.via_port;
  interface = is_some query.interface;
  connect = is_some query.connect;
  label = is_some query.label;
}

abbrev pub nothing : Given
nothing = record { id = false; serial = false; name = false; hash = false; parent_hash = false; via_port = false; interface = false; connect = false; label = false }

abbrev pub has : Attr → Given → Bool
has attr.Id given = given.id
has attr.Serial given = given.serial
has attr.Name given = given.name
has attr.Hash given = given.hash
has attr.ParentHash given = given.parent_hash
has attr.ViaPort given = given.via_port
has attr.Interface given = given.interface
has attr.Connect given = given.connect
has attr.Label given = given.label

abbrev pub put : Attr → Given → Given
put attr.Id given = record given { id = true }
put attr.Serial given = record given { serial = true }
put attr.Name given = record given { name = true }
put attr.Hash given = record given { hash = true }
put attr.ParentHash given = record given { parent_hash = true }
put attr.ViaPort given = record given { via_port = true }
put attr.Interface given = record given { interface = true }
put attr.Connect given = record given { connect = true }
put attr.Label given = record given { label = true }

unfoldable pub is_nothing : Given → Bool
is_nothing given =
    if given.id then false else
    if given.serial then false else
    if given.name then false else
    if given.hash then false else
    if given.parent_hash then false else
    if given.via_port then false else
    if given.interface then false else
    if given.connect then false else
    if given.label then false else true

-- ---- states

-- what an item of a value is
pub data Shape : Type 0 where
  Ids : Shape
  Interfaces : Shape
  Strings : Shape

abbrev pub fits : Shape → List ℕ → TokenKind → Bool
fits Ids word kind = is_some (id_of word)
fits Interfaces word kind = is_some (interface_of word)
fits Strings word kind = is_some (string_by kind)

-- what a word in parentheses is
pub data Argument : Type 0 where
  Time : Argument
  Past : Argument
  Chance : Argument

abbrev pub says : Argument → List ℕ → Bool
says Time word = is_some (span_of word)
says Past word = is_some (past_of word)
says Chance word = is_some (chance_of word)

-- where attributes stand
pub data Where : Type 0 where
  BeforeIf : Where
  BehindIf : Where
  InQuery : Where
  Alone : Where

-- what must come next, and the state behind it
pub data State : Type 0 where
  End : State
  Start : State
  -- a bare id, or a part
  Front : Where → State → State
  Parts : Given → Where → State → State
  Value : Shape → State → State
  Brace : Shape → State → State
  -- items of a set, which may have some already and whose brace stands at a place
  Items : Shape → Bool → ℕ → State → State
  Text : State → State
  AfterIf : State → State
  CondBrace : State → State
  CondItems : Bool → ℕ → State → State
  Negated : State → State
  Opening : Argument → State → State
  Inner : Argument → State → State
  Closing : State → State
  -- an argument in parentheses, or none
  May : Argument → State → State
  Matches : State → State

abbrev pub Step : Type 0
Step = Result State FaultKind

-- the value of an attribute comes next
abbrev pub behind_name : Attr → State → State
behind_name attr.Id next = Value Ids next
behind_name attr.Serial next = Value Strings next
behind_name attr.Name next = Value Strings next
behind_name attr.Hash next = Value Strings next
behind_name attr.ParentHash next = Value Strings next
behind_name attr.ViaPort next = Value Strings next
behind_name attr.Interface next = Value Interfaces next
behind_name attr.Connect next = Value Strings next
behind_name attr.Label next = Text next

abbrev pub stray_kind : FaultKind → List ℕ → TokenKind → FaultKind
stray_kind of_if word kind = if is_if word then of_if else if is_word kind then UnknownWord else TrailingToken

-- no attribute comes next
abbrev pub other_part : Where → Given → List ℕ → TokenKind → State → Step
other_part BeforeIf given word kind next = if is_if word then Ok (AfterIf (Parts given BehindIf next)) else Err (stray_kind Repeated word kind)
other_part BehindIf given word kind next = Err (stray_kind Repeated word kind)
other_part InQuery given word kind next =
    if is_paren_close kind then if is_nothing given then Err BadCondition else Ok next
    else Err (stray_kind ConditionInQuery word kind)
other_part Alone given word kind next = Err (stray_kind ConditionInQuery word kind)

abbrev pub part : Option Attr → Where → Given → List ℕ → TokenKind → State → Step
part (Some attr) place given word kind next = if has attr given then Err Repeated else Ok (behind_name attr (Parts (put attr given) place next))
part None place given word kind next = other_part place given word kind next

abbrev pub value : Option Op → Shape → List ℕ → TokenKind → State → Step
value (Some op) shape word kind next = Ok (Brace shape next)
value None shape word kind next = if fits shape word kind then Ok next else Err BadValue

-- the argument of a condition comes next, if it has one
abbrev pub behind_condition : CondName → State → State
behind_condition name.LocalTime next = Opening Time next
behind_condition name.AllowedMatches next = Matches next
behind_condition name.RuleApplied next = May Past next
behind_condition name.RuleEvaluated next = May Past next
behind_condition name.Random next = May Chance next
behind_condition name.True next = next
behind_condition name.False next = next

abbrev pub named : Option CondName → State → Step
named None next = Err BadCondition
named (Some name) next = Ok (behind_condition name next)

abbrev pub condition : List ℕ → TokenKind → State → Step
condition word kind next = if is_bang kind then Ok (Negated next) else named (condition_of word) next

abbrev pub conditions : Option Op → List ℕ → TokenKind → State → Step
conditions (Some op) word kind next = Ok (CondBrace next)
conditions None word kind next = condition word kind next

abbrev pub targeted : Option Target → Step
targeted None = Err NoTarget
targeted (Some target) = Ok (Front BeforeIf End)

-- what a token makes of a state, or what is wrong with it
abbrev pub step : State → List ℕ → TokenKind → ℕ → Step
step End word kind start = Err TrailingToken
step Start word kind start = targeted (target_of word)
step (Front place next) word kind start =
    if has_colon word then if is_some (id_of word) then Ok (Parts (put attr.Id nothing) place next) else Err BadValue
    else part (attribute_of word) place nothing word kind next
step (Parts given place next) word kind start = part (attribute_of word) place given word kind next
step (Value shape next) word kind start = if is_open kind then Ok (Items shape false start next) else value (operator_of word) shape word kind next
step (Brace shape next) word kind start = if is_open kind then Ok (Items shape false start next) else Err BadValue
step (Items shape some at next) word kind start =
    if is_close kind then if some then Ok next else Err EmptySet
    else if fits shape word kind then Ok (Items shape true at next) else Err BadValue
step (Text next) word kind start = if fits Strings word kind then Ok next else Err BadValue
step (AfterIf next) word kind start = if is_open kind then Ok (CondItems false start next) else conditions (operator_of word) word kind next
step (CondBrace next) word kind start = if is_open kind then Ok (CondItems false start next) else Err BadCondition
step (CondItems some at next) word kind start =
    if is_close kind then if some then Ok next else Err EmptySet
    else condition word kind (CondItems true at next)
step (Negated next) word kind start = named (condition_of word) next
step (Opening argument next) word kind start = if is_paren_open kind then Ok (Inner argument next) else Err BadCondition
step (Inner argument next) word kind start = if says argument word then Ok (Closing next) else Err BadCondition
step (Closing next) word kind start = if is_paren_close kind then Ok next else Err BadCondition
step (May argument next) word kind start = if is_paren_open kind then Ok (Inner argument next) else step next word kind start
step (Matches next) word kind start = if is_paren_open kind then Ok (Front InQuery next) else Err BadCondition

-- ---- the end of a line

-- the braces that are open, the innermost first
abbrev pub braces : State → List ℕ
braces End = []
braces Start = []
braces (Front place next) = braces next
braces (Parts given place next) = braces next
braces (Value shape next) = braces next
braces (Brace shape next) = braces next
braces (Items shape some at next) = at ∷ braces next
braces (Text next) = braces next
braces (AfterIf next) = braces next
braces (CondBrace next) = braces next
braces (CondItems some at next) = at ∷ braces next
braces (Negated next) = braces next
braces (Opening argument next) = braces next
braces (Inner argument next) = braces next
braces (Closing next) = braces next
braces (May argument next) = braces next
braces (Matches next) = braces next

abbrev pub bottom : List ℕ → Option ℕ
bottom [] = None
bottom (place ∷ places) = outermost place (bottom places)

abbrev pub ending_in : List ℕ → State → Ending
ending_in line state = record { brace = bottom (braces state); length = length line }

abbrev pub parts_end : Where → Given → Ending → Option Fault
parts_end BeforeIf given ending = None
parts_end BehindIf given ending = None
parts_end InQuery given ending = Some (missing BadCondition ending)
parts_end Alone given ending = if is_nothing given then Some (missing BadValue ending) else None

-- what is missing, if the line may not end here
abbrev pub finish : List ℕ → State → Option Fault
finish line End = None
finish line Start = Some (missing NoTarget (ending_in line Start))
finish line (Front place next) = parts_end place nothing (ending_in line next)
finish line (Parts given place next) = parts_end place given (ending_in line next)
finish line (Value shape next) = Some (missing BadValue (ending_in line next))
finish line (Brace shape next) = Some (missing BadValue (ending_in line next))
finish line (Items shape some at next) = Some (missing OpenSet (ending_in line (Items shape some at next)))
finish line (Text next) = Some (missing BadValue (ending_in line next))
finish line (AfterIf next) = Some (missing BadCondition (ending_in line next))
finish line (CondBrace next) = Some (missing BadCondition (ending_in line next))
finish line (CondItems some at next) = Some (missing OpenSet (ending_in line (CondItems some at next)))
finish line (Negated next) = Some (missing BadCondition (ending_in line next))
finish line (Opening argument next) = Some (missing BadCondition (ending_in line next))
finish line (Inner argument next) = Some (missing BadCondition (ending_in line next))
finish line (Closing next) = Some (missing BadCondition (ending_in line next))
finish line (May argument next) = finish line next
finish line (Matches next) = Some (missing BadCondition (ending_in line next))

-- ---- runs

abbrev pub onward : Step → ℕ → (State → Option Fault) → Option Fault
onward (Ok state) start more = more state
onward (Err kind) start more = Some (fault_at kind start)

-- the first fault of tokens from a state on
abbrev pub run : List ℕ → State → List Token → Option Fault
run line state [] = finish line state
run line state (token ∷ tokens) = onward (step state (word_of line token) token.kind token.start) token.start (λ next. run line next tokens)
