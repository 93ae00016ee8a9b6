-- A rule and a query take the machine through their tokens.
use Rattle.std.proofs.Common.{◌≡◌, ℕ, Bool, true, false, List, [], ◌∷◌, Option, Some, None, Result, Ok, Err, refl, sym, ap, ◌∙◌, if◌then◌else◌}
use Rattle.ug_words.specs.declared.token.Token.{Token}
use Rattle.ug_types.specs.declared.rule.Conds.{Conds}
use Rattle.ug_types.specs.declared.rule.Query.{Query}
use Rattle.ug_types.specs.declared.verdict.Target.{Target}
use Rattle.ug_rule.specs.declared.fault.Fault.{Fault}
use Rattle.ug_rule.specs.declared.fault.FaultKind.TheVariants.{UnknownWord, Repeated, ConditionInQuery, TrailingToken}
use Rattle.ug_rule.specs.Conditions.{conditions_of}
use Rattle.ug_rule.specs.Faults.{fault_at, on_ok}
use Rattle.ug_rule.specs.Grammar.{AllAttributes}
use Rattle.ug_words.specs.Keywords.{attribute_of, is_if}
use Rattle.ug_types.specs.Targets.{target_of}
use Rattle.ug_rule.specs.Queries.{is_empty_query, attributes_of, query_of, query_ends}
use Rattle.ug_rule.specs.Rules.{end_of, some_conds, conds_of, rule_ends, rule_with, parts_of, rule_of, whole_query}
use Rattle.ug_rule.specs.Tokens.{word_of, is_word, first_word}
use Rattle.ug_rule.proofs.AttributeCuts.{attributes_cut, attributes_read}
use Rattle.ug_rule_faults.proofs.Machine.{given_in, is_nothing, BeforeIf, BehindIf, Alone, End, Start, Front, Parts, run}
use Rattle.ug_rule_faults.proofs.MachineAttributes.{same_blank, stray_is, attributes_run, query_run}
use Rattle.ug_rule_faults.proofs.MachineConditions.{conditions_run}
use Rattle.ug_rule_faults.proofs.MachineValues.{resume}
use Rattle.ug_rule.proofs.QueryCuts.{query_cut}

-- the fault of a reading to the line's end
abbrev pub outcome : {X : Type 0} → Result X Fault → Option Fault
outcome (Ok x) = None
outcome (Err fault) = Some fault

-- no attribute stands behind attributes
no_more : (line : List ℕ) (query all : Query) (tokens rest : List Token) → attributes_of line (end_of line) query tokens ≡ Ok (all, rest) → attribute_of (first_word line rest) ≡ None
no_more line query all tokens rest e = let a : AllAttributes line query all tokens rest = attributes_cut line (end_of line) query all tokens rest e in a.last

end_run : (line : List ℕ) (target : Target) (query : Query) (conds : Option Conds) (tokens : List Token) → attribute_of (first_word line tokens) ≡ None → run line (Parts (given_in query) BehindIf End) tokens ≡ outcome (rule_ends line (rule_with target query conds) tokens)
end_run line target query conds [] e = refl
end_run line target query conds (token ∷ tokens) e = rw e (ap Some (stray_is Repeated line token))

-- attributes behind `if`
last_run : (line : List ℕ) (target : Target) (query : Query) (conds : Option Conds) (tokens : List Token) → run line (Parts (given_in query) BehindIf End) tokens ≡ outcome (on_ok (attributes_of line (end_of line) query tokens) (λ r. rule_ends line (rule_with target r.0 conds) r.1))
last_run line target query conds tokens = attributes_run line query BehindIf End tokens ∙ by (attributes_of line (end_of line) query tokens) refl
  where
    by : (r : Result (Query × List Token) Fault) → attributes_of line (end_of line) query tokens ≡ r
        → resume r (λ all rest. run line (Parts (given_in all) BehindIf End) rest) ≡ outcome (on_ok r (λ r. rule_ends line (rule_with target r.0 conds) r.1))
    by (Ok p) e = end_run line target p.0 conds p.1 (no_more line query p.0 tokens p.1 e)
    by (Err fault) e = refl

-- `if`, conditions and attributes
if_run : (line : List ℕ) (target : Target) (query : Query) (word : Token) (tokens : List Token) → attribute_of (word_of line word) ≡ None → is_if (word_of line word) ≡ true
    → run line (Parts (given_in query) BeforeIf End) (word ∷ tokens) ≡ outcome (on_ok (conds_of line (end_of line) (word ∷ tokens)) (λ q. on_ok (attributes_of line (end_of line) query q.1) (λ r. rule_ends line (rule_with target r.0 q.0) r.1)))
unfolding conds_of
if_run line target query word tokens e i = rw e (rw i (conditions_run line (Parts (given_in query) BehindIf End) tokens ∙ by (conditions_of line (end_of line) tokens)))
  where
    by : (r : Result (Conds × List Token) Fault)
        → resume r (λ c rest. run line (Parts (given_in query) BehindIf End) rest) ≡ outcome (on_ok (on_ok r some_conds) (λ q. on_ok (attributes_of line (end_of line) query q.1) (λ r. rule_ends line (rule_with target r.0 q.0) r.1)))
    by (Ok p) = last_run line target query (Some p.0) p.1
    by (Err fault) = refl

-- no `if`
none_run : (line : List ℕ) (target : Target) (query : Query) (tokens : List Token) → attribute_of (first_word line tokens) ≡ None → is_if (first_word line tokens) ≡ false
    → run line (Parts (given_in query) BeforeIf End) tokens ≡ outcome (on_ok (conds_of line (end_of line) tokens) (λ q. on_ok (attributes_of line (end_of line) query q.1) (λ r. rule_ends line (rule_with target r.0 q.0) r.1)))
unfolding conds_of
none_run line target query tokens e i =
    let a : AllAttributes line query query tokens tokens = record { attrs = []; are = (refl, refl); last = e } in
    let r : attributes_of line (end_of line) query tokens ≡ Ok (query, tokens) = attributes_read line (end_of line) query query tokens tokens a in
    rw i (rw r (by tokens e i))
  where
    by : (tokens : List Token) → attribute_of (first_word line tokens) ≡ None → is_if (first_word line tokens) ≡ false → run line (Parts (given_in query) BeforeIf End) tokens ≡ outcome (rule_ends line (rule_with target query None) tokens)
    by [] e i = refl
    by (token ∷ tokens) e i = rw e (rw i (ap Some (ap (λ b. fault_at (if b then Repeated else if is_word token.kind then UnknownWord else TrailingToken) token.start) (sym i) ∙ stray_is Repeated line token)))

behind_run : (line : List ℕ) (target : Target) (query : Query) (tokens : List Token) → attribute_of (first_word line tokens) ≡ None
    → run line (Parts (given_in query) BeforeIf End) tokens ≡ outcome (on_ok (conds_of line (end_of line) tokens) (λ q. on_ok (attributes_of line (end_of line) query q.1) (λ r. rule_ends line (rule_with target r.0 q.0) r.1)))
unfolding is_if
behind_run line target query [] e = none_run line target query [] e refl
behind_run line target query (token ∷ tokens) e = by (is_if (word_of line token)) refl
  where
    by : (b : Bool) → is_if (word_of line token) ≡ b → run line (Parts (given_in query) BeforeIf End) (token ∷ tokens) ≡ outcome (on_ok (conds_of line (end_of line) (token ∷ tokens)) (λ q. on_ok (attributes_of line (end_of line) query q.1) (λ r. rule_ends line (rule_with target r.0 q.0) r.1)))
    by true i = if_run line target query token tokens e i
    by false i = none_run line target query (token ∷ tokens) e i

parts_run : (line : List ℕ) (target : Target) (tokens : List Token) → run line (Front BeforeIf End) tokens ≡ outcome (parts_of line target tokens)
unfolding parts_of
parts_run line target tokens = query_run line BeforeIf End tokens ∙ by (query_of line (end_of line) tokens) refl
  where
    by : (r : Result (Query × List Token) Fault) → query_of line (end_of line) tokens ≡ r
        → resume r (λ q rest. run line (Parts (given_in q) BeforeIf End) rest)
        ≡ outcome (on_ok r (λ p. on_ok (conds_of line (end_of line) p.1) (λ q. on_ok (attributes_of line (end_of line) p.0 q.1) (λ r. rule_ends line (rule_with target r.0 q.0) r.1))))
    by (Ok p) e = behind_run line target p.0 p.1 (query_cut line (end_of line) p.0 tokens p.1 e).1
    by (Err fault) e = refl

pub rule_run : (line : List ℕ) (tokens : List Token) → run line Start tokens ≡ outcome (rule_of line tokens)
unfolding rule_of
rule_run line [] = refl
rule_run line (token ∷ tokens) = by (target_of (word_of line token)) refl
  where
    by : (o : Option Target) → target_of (word_of line token) ≡ o → run line Start (token ∷ tokens) ≡ outcome (rule_of line (token ∷ tokens))
    by None e = rw e refl
    by (Some target) e = rw e (parts_run line target tokens)

alone_run : (line : List ℕ) (query : Query) (tokens : List Token) → attribute_of (first_word line tokens) ≡ None → run line (Parts (given_in query) Alone End) tokens ≡ outcome (query_ends line (end_of line) query tokens)
alone_run line query [] e = by (is_empty_query query) refl
  where
    by : (b : Bool) → is_empty_query query ≡ b → run line (Parts (given_in query) Alone End) [] ≡ outcome (query_ends line (end_of line) query [])
    by true q = let n : is_nothing (given_in query) ≡ true = same_blank query ∙ q in rw n (rw q refl)
    by false q = let n : is_nothing (given_in query) ≡ false = same_blank query ∙ q in rw n (rw q refl)
alone_run line query (token ∷ tokens) e = rw e (ap Some (stray_is ConditionInQuery line token))

pub whole_run : (line : List ℕ) (tokens : List Token) → run line (Front Alone End) tokens ≡ outcome (whole_query line tokens)
unfolding whole_query
whole_run line tokens = query_run line Alone End tokens ∙ by (query_of line (end_of line) tokens) refl
  where
    by : (r : Result (Query × List Token) Fault) → query_of line (end_of line) tokens ≡ r
        → resume r (λ q rest. run line (Parts (given_in q) Alone End) rest) ≡ outcome (on_ok r (λ p. query_ends line (end_of line) p.0 p.1))
    by (Ok p) e = alone_run line p.0 p.1 (query_cut line (end_of line) p.0 tokens p.1 e).1
    by (Err fault) e = refl
