-- Rules and queries of whole lines, and the rules of a text: usbguard-rules.conf(5).
use Rattle.std.specs.Prelude.{ℕ, if◌then◌else◌, List, [], ◌∷◌, length, Option, Some, None, Result, Ok, Err}
use Rattle.ug_words.specs.declared.token.Token.{Token}
use Rattle.ug_types.specs.declared.rule.Conds.{Conds}
use Rattle.ug_types.specs.declared.rule.Query.{Query}
use Rattle.ug_types.specs.declared.rule.Rule.{Rule}
use Rattle.ug_types.specs.declared.verdict.Target.{Target}
use Rattle.ug_rule.specs.declared.fault.Ending.{Ending}
use Rattle.ug_rule.specs.declared.fault.Fault.{Fault}
use Rattle.ug_rule.specs.declared.fault.FaultKind.TheVariants.{NoTarget, Repeated}
use Rattle.ug_rule.specs.Conditions.{conditions_of}
use Rattle.ug_rule.specs.Faults.{fault_at, on_ok, required}
use Rattle.ug_words.specs.Keywords.{is_if}
use Rattle.ug_types.specs.Targets.{target_of}
use Rattle.ug_rule.specs.Queries.{attributes_of, query_of, query_ends, stray}
use Rattle.ug_rule.specs.Tokens.{word_of, first_word, behind_first, tokens_read}

-- no brace is open at the line's end
abbrev pub end_of : List ℕ → Ending
end_of line = record { brace = None; length = length line }

-- ---- one rule

abbrev pub some_conds : Conds × List Token → Result (Option Conds × List Token) Fault
some_conds p = Ok (Some p.0, p.1)

-- `if` and its conditions, or none
unfoldable pub conds_of : List ℕ → Ending → List Token → Result (Option Conds × List Token) Fault
conds_of line ending tokens =
    if is_if (first_word line tokens)
    then on_ok (conditions_of line ending (behind_first tokens)) some_conds
    else Ok (None, tokens)

-- nothing stands behind the parts of a rule
abbrev pub rule_ends : List ℕ → Rule → List Token → Result Rule Fault
rule_ends line rule [] = Ok rule
rule_ends line rule (token ∷ rest) = Err (stray Repeated line token)

abbrev pub rule_with : Target → Query → Option Conds → Rule
rule_with target query conds = record { target = target; query = query; conds = conds }

-- attributes, and nothing behind them
abbrev pub last_attributes : List ℕ → Ending → Target → Query → Option Conds → List Token
    → Result Rule Fault
last_attributes line ending target query conds tokens =
    on_ok (attributes_of line ending query tokens) (λ r.
    rule_ends line (rule_with target r.0 conds) r.1)

-- conditions or none, attributes, and nothing behind them
abbrev pub later_parts : List ℕ → Ending → Target → Query → List Token → Result Rule Fault
later_parts line ending target query tokens =
    on_ok (conds_of line ending tokens) (λ q. last_attributes line ending target query q.0 q.1)

-- attributes, conditions, attributes: an `if` stands at most once
unfoldable pub parts_of : List ℕ → Target → List Token → Result Rule Fault
parts_of line target tokens =
    on_ok (query_of line (end_of line) tokens) (λ p.
    later_parts line (end_of line) target p.0 p.1)

-- the rule that tokens are
unfoldable pub rule_of : List ℕ → List Token → Result Rule Fault
rule_of line [] = Err (fault_at NoTarget (length line))
rule_of line (token ∷ rest) =
    on_ok (required (target_of (word_of line token)) NoTarget token.start) (λ target.
    parts_of line target rest)

-- the rule of a line, or its first fault
abbrev pub rule_read : List ℕ → Result Rule Fault
rule_read line = on_ok (tokens_read line) (rule_of line)

-- ---- one query

unfoldable pub whole_query : List ℕ → List Token → Result Query Fault
whole_query line tokens =
    on_ok (query_of line (end_of line) tokens) (λ p. query_ends line (end_of line) p.0 p.1)

-- the query of a line, or its first fault
abbrev pub query_read : List ℕ → Result Query Fault
query_read line = on_ok (tokens_read line) (whole_query line)
