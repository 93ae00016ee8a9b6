-- The conditions behind `if`.
use Rattle.std.specs.Prelude.{ℕ, zero, suc, Bool, true, false, if◌then◌else◌, List, [], ◌∷◌, ◌++◌, length, Option, Some, None, Result, Ok, Err}
use Rattle.ug_words.specs.declared.token.Token.{Token}
use Rattle.ug_types.specs.declared.rule.Cond.{Cond}
use Rattle.ug_types.specs.declared.rule.CondKind.{CondKind}
use Rattle.ug_types.specs.declared.rule.CondKind.TheVariants as kind
use Rattle.ug_types.specs.declared.rule.Conds.{Conds}
use Rattle.ug_types.specs.declared.rule.Op.{Op}
use Rattle.ug_types.specs.declared.rule.Op.TheVariants.{Equals}
use Rattle.ug_types.specs.declared.rule.Query.{Query}
use Rattle.ug_rule.specs.declared.fault.Ending.{Ending}
use Rattle.ug_rule.specs.declared.fault.Fault.{Fault}
use Rattle.ug_rule.specs.declared.fault.FaultKind.TheVariants.{OpenSet, BadCondition, ConditionInQuery}
use Rattle.ug_words.specs.declared.keywords.CondName.{CondName}
use Rattle.ug_words.specs.declared.keywords.CondName.TheVariants as name
use Rattle.ug_words.specs.declared.words.DaySpan.{DaySpan}
use Rattle.ug_rule.specs.Faults.{fault_at, missing, within, on_ok, required}
use Rattle.ug_words.specs.Keywords.{operator_of, condition_of}
use Rattle.ug_rule.specs.Queries.{is_empty_query, query_of, stray}
use Rattle.ug_rule.specs.Tokens.{word_of, is_open, is_close, is_paren_open, is_paren_close, is_bang, starts_with_paren, behind_first}
use Rattle.ug_rule.specs.Values.{some_items, brace_of}
use Rattle.ug_words.specs.Words.{span_of, past_of, chance_of}

-- ---- arguments in parentheses

-- the token that must come next
abbrev pub next_of : Ending → List Token → Result (Token × List Token) Fault
next_of ending [] = Err (missing BadCondition ending)
next_of ending (token ∷ rest) = Ok (token, rest)

abbrev pub opened : Ending → List Token → Result (Unit {0} × List Token) Fault
opened ending [] = Err (missing BadCondition ending)
opened ending (token ∷ rest) =
    if is_paren_open token.kind then Ok (tt, rest) else Err (fault_at BadCondition token.start)

abbrev pub closed : Ending → List Token → Result (Unit {0} × List Token) Fault
closed ending [] = Err (missing BadCondition ending)
closed ending (token ∷ rest) =
    if is_paren_close token.kind then Ok (tt, rest) else Err (fault_at BadCondition token.start)

-- the value of a word, and the closing parenthesis
unfoldable pub argument_of : {X : Type 0} → (List ℕ → Option X) → List ℕ → Ending → List Token
    → Result (X × List Token) Fault
argument_of reads line ending tokens =
    on_ok (next_of ending tokens) (λ p.
    on_ok (required (reads (word_of line p.0)) BadCondition p.0.start) (λ x.
    on_ok (closed ending p.1) (λ q. Ok (x, q.1))))

-- an argument in parentheses, or none
unfoldable pub perhaps_of : {X : Type 0} → (List ℕ → Option X) → List ℕ → Ending → List Token
    → Result (Option X × List Token) Fault
perhaps_of reads line ending tokens =
    if starts_with_paren tokens
    then on_ok (argument_of reads line ending (behind_first tokens)) (λ p. Ok (Some p.0, p.1))
    else Ok (None, tokens)

abbrev pub in_span : DaySpan × List Token → Result (CondKind × List Token) Fault
in_span p = Ok (kind.LocalTime p.0.begin p.0.end, p.1)

unfoldable pub localtime_of : List ℕ → Ending → List Token → Result (CondKind × List Token) Fault
localtime_of line ending tokens =
    on_ok (opened ending tokens) (λ p. on_ok (argument_of span_of line ending p.1) in_span)

-- a query ends at its closing parenthesis, and isn't empty
abbrev pub matches_closed : List ℕ → Ending → Query → List Token
    → Result (CondKind × List Token) Fault
matches_closed line ending query [] = Err (missing BadCondition ending)
matches_closed line ending query (token ∷ rest) =
    if is_paren_close token.kind then if is_empty_query query
    then Err (fault_at BadCondition token.start) else Ok (kind.AllowedMatches query, rest)
    else Err (stray ConditionInQuery line token)

unfoldable pub matches_of : List ℕ → Ending → List Token → Result (CondKind × List Token) Fault
matches_of line ending tokens =
    on_ok (opened ending tokens) (λ p.
    on_ok (query_of line ending p.1) (λ q. matches_closed line ending q.0 q.1))

-- without a probability it is a half
abbrev pub chance_or_half : Option ℕ → ℕ
chance_or_half None = 500000000
chance_or_half (Some chance) = chance

-- ---- one condition

unfoldable pub kind_of : CondName → List ℕ → Ending → List Token
    → Result (CondKind × List Token) Fault
kind_of name.LocalTime line ending tokens = localtime_of line ending tokens
kind_of name.AllowedMatches line ending tokens = matches_of line ending tokens
kind_of name.RuleApplied line ending tokens =
    on_ok (perhaps_of past_of line ending tokens) (λ p. Ok (kind.RuleApplied p.0, p.1))
kind_of name.RuleEvaluated line ending tokens =
    on_ok (perhaps_of past_of line ending tokens) (λ p. Ok (kind.RuleEvaluated p.0, p.1))
kind_of name.Random line ending tokens =
    on_ok (perhaps_of chance_of line ending tokens) (λ p.
    Ok (kind.Random (chance_or_half p.0), p.1))
kind_of name.True line ending tokens = Ok (kind.True, tokens)
kind_of name.False line ending tokens = Ok (kind.False, tokens)

-- a condition whose name the token is
unfoldable pub named_condition : List ℕ → Ending → Bool → Token → List Token
    → Result (Cond × List Token) Fault
named_condition line ending negated token rest =
    on_ok (required (condition_of (word_of line token)) BadCondition token.start) (λ name.
    on_ok (kind_of name line ending rest) (λ p. Ok (record { negated = negated; kind = p.0 }, p.1)))

-- a condition that the token begins, negated or not
unfoldable pub condition_from : List ℕ → Ending → Token → List Token
    → Result (Cond × List Token) Fault
condition_from line ending token rest =
    if is_bang token.kind
    then on_ok (next_of ending rest) (λ p. named_condition line ending true p.0 p.1)
    else named_condition line ending false token rest

-- ---- sets

abbrev pub conds_behind : List ℕ → Ending → List Cond → Token → List Token
    → (List Cond → List Token → Result (List Cond × List Token) Fault)
    → Result (List Cond × List Token) Fault
conds_behind line ending conds token rest more =
    if is_close token.kind then some_items conds token.start rest
    else on_ok (condition_from line ending token rest) (λ p. more (conds ++ p.0 ∷ []) p.1)

-- up to so many conditions to the closing brace, behind those before them
unfoldable pub conds_from : ℕ → List ℕ → Ending → List Cond → List Token
    → Result (List Cond × List Token) Fault
conds_from n line ending conds [] = Err (missing OpenSet ending)
conds_from zero line ending conds (token ∷ rest) = Err (missing OpenSet ending)
conds_from (suc n) line ending conds (token ∷ rest) =
    conds_behind line ending conds token rest (λ more left. conds_from n line ending more left)

abbrev pub conditions_joined : Op → List Cond → Conds
conditions_joined op conds = record { op = op; items = conds }

-- a set whose opening brace was read. Each condition has a token, so there are no more than tokens
unfoldable pub cond_set_of : List ℕ → Ending → Op → List Token → Result (Conds × List Token) Fault
cond_set_of line ending op tokens =
    on_ok (conds_from (length tokens) line ending [] tokens) (λ p.
    Ok (conditions_joined op p.0, p.1))

abbrev pub set_behind : List ℕ → Ending → Op → List Token → Result (Conds × List Token) Fault
set_behind line ending op tokens =
    on_ok (brace_of BadCondition ending tokens) (λ p. cond_set_of line (within p.0 ending) op p.1)

abbrev pub single_of : List ℕ → Ending → Token → List Token → Result (Conds × List Token) Fault
single_of line ending token rest =
    on_ok (condition_from line ending token rest) (λ p.
    Ok (conditions_joined Equals (p.0 ∷ []), p.1))

abbrev pub conditions_behind : List ℕ → Ending → Option Op → Token → List Token
    → Result (Conds × List Token) Fault
conditions_behind line ending (Some op) token rest = set_behind line ending op rest
conditions_behind line ending None token rest = single_of line ending token rest

-- one condition, or a set of them in braces behind an operator or none
unfoldable pub conditions_of : List ℕ → Ending → List Token → Result (Conds × List Token) Fault
conditions_of line ending [] = Err (missing BadCondition ending)
conditions_of line ending (token ∷ rest) =
    if is_open token.kind then cond_set_of line (within token.start ending) Equals rest
    else conditions_behind line ending (operator_of (word_of line token)) token rest
