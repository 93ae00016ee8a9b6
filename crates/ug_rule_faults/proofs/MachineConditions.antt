-- Conditions take the machine through their tokens.
use Rattle.std.proofs.Common.{◌≡◌, ℕ, zero, suc, ◌≤◌, Bool, true, false, List, [], ◌∷◌, ◌++◌, length, Option, Some, None, Result, Ok, Err, is_some, refl, sym, ap, ◌∙◌, arith}
use Rattle.ug_words.specs.declared.token.Token.{Token}
use Rattle.ug_types.specs.declared.rule.Cond.{Cond}
use Rattle.ug_types.specs.declared.rule.CondKind.TheVariants as kind
use Rattle.ug_types.specs.declared.rule.Op.{Op}
use Rattle.ug_types.specs.declared.rule.Op.TheVariants.{Equals}
use Rattle.ug_types.specs.declared.rule.Query.{Query}
use Rattle.ug_rule.specs.declared.fault.Fault.{Fault}
use Rattle.ug_rule.specs.declared.fault.FaultKind.TheVariants.{ConditionInQuery}
use Rattle.ug_words.specs.declared.keywords.CondName.{CondName}
use Rattle.ug_words.specs.declared.keywords.CondName.TheVariants as name
use Rattle.ug_rule.specs.Conditions.{argument_of, perhaps_of, localtime_of, matches_closed, matches_of, chance_or_half, kind_of, named_condition, condition_from, conds_from, conditions_joined, cond_set_of, set_behind, conditions_of}
use Rattle.ug_rule.specs.Faults.{within, on_ok}
use Rattle.ug_words.specs.Keywords.{operator_of, attribute_of, condition_of}
use Rattle.ug_rule.specs.Queries.{is_empty_query, query_of}
use Rattle.ug_rule.specs.Tokens.{word_of, first_word, is_open, is_close, is_paren_open, is_paren_close, is_bang}
use Rattle.ug_words.specs.Words.{span_of, past_of, chance_of}
use Rattle.ug_rule.proofs.ConditionCuts.{of_kind, Reads, condition_cut, condition_reads}
use Rattle.ug_rule_faults.proofs.Machine.{given_in, is_nothing, Argument, Time, Past, Chance, says, InQuery, State, Front, Parts, AfterIf, CondBrace, CondItems, Opening, Inner, May, Matches, behind_condition, named, condition, ending_in, onward, run}
use Rattle.ug_rule_faults.proofs.MachineAttributes.{same_blank, stray_is, query_run}
use Rattle.ug_rule_faults.proofs.MachineValues.{resume, resume_on, any, any_more}
use Rattle.ug_rule.proofs.QueryCuts.{query_cut}

-- ---- arguments

abbrev Asks : {X : Type 0} → (List ℕ → Option X) → Argument → Type 0
Asks reads argument = (word : List ℕ) → says argument word ≡ is_some (reads word)

argument_run : {X : Type 0} (reads : List ℕ → Option X) (argument : Argument) (line : List ℕ) (next : State) (tokens : List Token) → Asks reads argument → run line (Inner argument next) tokens ≡ resume (argument_of reads line (ending_in line next) tokens) (λ x rest. run line next rest)
unfolding argument_of
argument_run reads argument line next [] asks = refl
argument_run {X} reads argument line next (token ∷ tokens) asks = by (reads (word_of line token)) refl
  where
    T : List Token → Type 0
    T tokens = run line (Inner argument next) (token ∷ tokens) ≡ resume (argument_of reads line (ending_in line next) (token ∷ tokens)) (λ x rest. run line next rest)

    last : (x : X) → reads (word_of line token) ≡ Some x → says argument (word_of line token) ≡ true → (tokens : List Token) → T tokens
    last x e s [] = rw s (rw e refl)
    last x e s (closing ∷ tokens) =
        let B : Bool → Type 0 = λ b. is_paren_close closing.kind ≡ b → T (closing ∷ tokens) in
        let f : (b : Bool) → B b = λ b. elim b as B [
          | true ↦ λ c. rw s (rw e (rw c refl))
          | false ↦ λ c. rw s (rw e (rw c refl))
        ] in
        f (is_paren_close closing.kind) refl

    by : (o : Option X) → reads (word_of line token) ≡ o → T tokens
    by None e = let s : says argument (word_of line token) ≡ false = asks (word_of line token) ∙ ap is_some e in rw s (rw e refl)
    by (Some x) e = last x e (asks (word_of line token) ∙ ap is_some e) tokens

perhaps_run : {X : Type 0} (reads : List ℕ → Option X) (argument : Argument) (line : List ℕ) (next : State) (tokens : List Token) → Asks reads argument → run line (May argument next) tokens ≡ resume (perhaps_of reads line (ending_in line next) tokens) (λ x rest. run line next rest)
unfolding perhaps_of
perhaps_run reads argument line next [] asks = refl
perhaps_run reads argument line next (token ∷ tokens) asks = by (is_paren_open token.kind) refl
  where
    by : (b : Bool) → is_paren_open token.kind ≡ b → run line (May argument next) (token ∷ tokens) ≡ resume (perhaps_of reads line (ending_in line next) (token ∷ tokens)) (λ x rest. run line next rest)
    by true o = rw o (argument_run reads argument line next tokens asks ∙ sym (resume_on (argument_of reads line (ending_in line next) tokens) (λ x. Some x) (λ x rest. run line next rest)))
    by false o = rw o refl

localtime_run : (line : List ℕ) (next : State) (tokens : List Token) → run line (Opening Time next) tokens ≡ resume (localtime_of line (ending_in line next) tokens) (λ k rest. run line next rest)
unfolding localtime_of
localtime_run line next [] = refl
localtime_run line next (token ∷ tokens) = by (is_paren_open token.kind) refl
  where
    by : (b : Bool) → is_paren_open token.kind ≡ b → run line (Opening Time next) (token ∷ tokens) ≡ resume (localtime_of line (ending_in line next) (token ∷ tokens)) (λ k rest. run line next rest)
    by true o = rw o (argument_run span_of Time line next tokens (λ w. refl) ∙ sym (resume_on (argument_of span_of line (ending_in line next) tokens) (λ s. kind.LocalTime s.begin s.end) (λ k rest. run line next rest)))
    by false o = rw o refl

-- ---- queries in parentheses

closed_run : (line : List ℕ) (query : Query) (next : State) (tokens : List Token) → attribute_of (first_word line tokens) ≡ None → run line (Parts (given_in query) InQuery next) tokens ≡ resume (matches_closed line (ending_in line next) query tokens) (λ k rest. run line next rest)
closed_run line query next [] e = refl
closed_run line query next (token ∷ tokens) e = by (is_paren_close token.kind) (is_empty_query query) refl refl
  where
    by : (b c : Bool) → is_paren_close token.kind ≡ b → is_empty_query query ≡ c → run line (Parts (given_in query) InQuery next) (token ∷ tokens) ≡ resume (matches_closed line (ending_in line next) query (token ∷ tokens)) (λ k rest. run line next rest)
    by true true p q = let n : is_nothing (given_in query) ≡ true = same_blank query ∙ q in rw e (rw p (rw n (rw q refl)))
    by true false p q = let n : is_nothing (given_in query) ≡ false = same_blank query ∙ q in rw e (rw p (rw n (rw q refl)))
    by false c p q = rw e (rw p (ap Some (stray_is ConditionInQuery line token)))

query_closed : (line : List ℕ) (next : State) (tokens : List Token) → run line (Front InQuery next) tokens ≡ resume (on_ok (query_of line (ending_in line next) tokens) (λ q. matches_closed line (ending_in line next) q.0 q.1)) (λ k rest. run line next rest)
query_closed line next tokens = query_run line InQuery next tokens ∙ by (query_of line (ending_in line next) tokens) refl
  where
    by : (r : Result (Query × List Token) Fault) → query_of line (ending_in line next) tokens ≡ r
        → resume r (λ q rest. run line (Parts (given_in q) InQuery next) rest) ≡ resume (on_ok r (λ q. matches_closed line (ending_in line next) q.0 q.1)) (λ k rest. run line next rest)
    by (Ok p) e = closed_run line p.0 next p.1 (query_cut line (ending_in line next) p.0 tokens p.1 e).1
    by (Err fault) e = refl

matches_run : (line : List ℕ) (next : State) (tokens : List Token) → run line (Matches next) tokens ≡ resume (matches_of line (ending_in line next) tokens) (λ k rest. run line next rest)
unfolding matches_of
matches_run line next [] = refl
matches_run line next (token ∷ tokens) = by (is_paren_open token.kind) refl
  where
    by : (b : Bool) → is_paren_open token.kind ≡ b → run line (Matches next) (token ∷ tokens) ≡ resume (matches_of line (ending_in line next) (token ∷ tokens)) (λ k rest. run line next rest)
    by true o = rw o (query_closed line next tokens)
    by false o = rw o refl

-- ---- one condition

kind_run : (name : CondName) (line : List ℕ) (next : State) (tokens : List Token) → run line (behind_condition name next) tokens ≡ resume (kind_of name line (ending_in line next) tokens) (λ k rest. run line next rest)
unfolding kind_of
kind_run name.LocalTime line next tokens = localtime_run line next tokens
kind_run name.AllowedMatches line next tokens = matches_run line next tokens
kind_run name.RuleApplied line next tokens = perhaps_run past_of Past line next tokens (λ w. refl) ∙ sym (resume_on (perhaps_of past_of line (ending_in line next) tokens) (λ x. kind.RuleApplied x) (λ k rest. run line next rest))
kind_run name.RuleEvaluated line next tokens = perhaps_run past_of Past line next tokens (λ w. refl) ∙ sym (resume_on (perhaps_of past_of line (ending_in line next) tokens) (λ x. kind.RuleEvaluated x) (λ k rest. run line next rest))
kind_run name.Random line next tokens = perhaps_run chance_of Chance line next tokens (λ w. refl) ∙ sym (resume_on (perhaps_of chance_of line (ending_in line next) tokens) (λ x. kind.Random (chance_or_half x)) (λ k rest. run line next rest))
kind_run name.True line next tokens = refl
kind_run name.False line next tokens = refl

named_run : (line : List ℕ) (negated : Bool) (next : State) (token : Token) (tokens : List Token) → onward (named (condition_of (word_of line token)) next) token.start (λ s. run line s tokens) ≡ resume (named_condition line (ending_in line next) negated token tokens) (λ c rest. run line next rest)
unfolding named_condition
named_run line negated next token tokens = by (condition_of (word_of line token)) refl
  where
    by : (o : Option CondName) → condition_of (word_of line token) ≡ o → onward (named (condition_of (word_of line token)) next) token.start (λ s. run line s tokens) ≡ resume (named_condition line (ending_in line next) negated token tokens) (λ c rest. run line next rest)
    by None e = rw e refl
    by (Some name) e = rw e (kind_run name line next tokens ∙ sym (resume_on (kind_of name line (ending_in line next) tokens) (λ k. of_kind negated k) (λ c rest. run line next rest)))

condition_run : (line : List ℕ) (next : State) (token : Token) (tokens : List Token) → onward (condition (word_of line token) token.kind next) token.start (λ s. run line s tokens) ≡ resume (condition_from line (ending_in line next) token tokens) (λ c rest. run line next rest)
unfolding condition_from
condition_run line next token tokens = by (is_bang token.kind) refl
  where
    T : List Token → Type 0
    T tokens = onward (condition (word_of line token) token.kind next) token.start (λ s. run line s tokens) ≡ resume (condition_from line (ending_in line next) token tokens) (λ c rest. run line next rest)

    negated : is_bang token.kind ≡ true → (tokens : List Token) → T tokens
    negated b [] = rw b refl
    negated b (word ∷ tokens) = rw b (named_run line true next word tokens)

    by : (b : Bool) → is_bang token.kind ≡ b → T tokens
    by true b = negated b tokens
    by false b = rw b (named_run line false next token tokens)

-- ---- sets

abbrev CondsRun : ℕ → List ℕ → ℕ → State → List Token → Type 0
CondsRun n line at next tokens = (conds : List Cond) → run line (CondItems (any conds) at next) tokens ≡ resume (conds_from n line (within at (ending_in line next)) conds tokens) (λ l rest. run line next rest)

close_run : (n : ℕ) (line : List ℕ) (at : ℕ) (next : State) (token : Token) (tokens : List Token) → is_close token.kind ≡ true → CondsRun (suc n) line at next (token ∷ tokens)
unfolding conds_from
close_run n line at next token tokens c [] = rw c refl
close_run n line at next token tokens c (cond ∷ conds) = rw c refl

item_run : (n : ℕ) (line : List ℕ) (at : ℕ) (next : State) (token : Token) (tokens : List Token) → is_close token.kind ≡ false
    → ((rest : List Token) → length rest ≤ length tokens → CondsRun n line at next rest)
    → CondsRun (suc n) line at next (token ∷ tokens)
unfolding conds_from
item_run n line at next token tokens c again conds = rw c (condition_run line (CondItems true at next) token tokens ∙ by (condition_from line (within at (ending_in line next)) token tokens) refl)
  where
    less : (cond : Cond) (rest : List Token) → Reads line (within at (ending_in line next)) cond (token ∷ tokens) rest → length rest ≤ length tokens
    less cond rest r = omega (arith, r.less, ap length r.cut)

    by : (r : Result (Cond × List Token) Fault) → condition_from line (within at (ending_in line next)) token tokens ≡ r
        → resume r (λ c rest. run line (CondItems true at next) rest) ≡ resume (on_ok r (λ p. conds_from n line (within at (ending_in line next)) (conds ++ p.0 ∷ []) p.1)) (λ l rest. run line next rest)
    by (Ok p) e =
        ap (λ b. run line (CondItems b at next) p.1) (sym (any_more conds p.0))
        ∙ again p.1 (less p.0 p.1 (condition_reads line (within at (ending_in line next)) p.0 (token ∷ tokens) p.1 (condition_cut line (within at (ending_in line next)) p.0 token tokens p.1 e))) (conds ++ p.0 ∷ [])
    by (Err fault) e = refl

conds_run : (n : ℕ) (line : List ℕ) (at : ℕ) (next : State) (tokens : List Token) → length tokens ≤ n → CondsRun n line at next tokens
unfolding conds_from
conds_run zero line at next [] l conds = refl
conds_run (suc n) line at next [] l conds = refl
conds_run zero line at next (token ∷ tokens) l conds = absurd (omega (arith, l))
conds_run (suc n) line at next (token ∷ tokens) l conds =
    let B : Bool → Type 0 = λ b. is_close token.kind ≡ b → CondsRun (suc n) line at next (token ∷ tokens) in
    let f : (b : Bool) → B b = λ b. elim b as B [
      | true ↦ λ c. close_run n line at next token tokens c
      | false ↦ λ c. item_run n line at next token tokens c (λ rest h. conds_run n line at next rest (omega (arith, l, h)))
    ] in
    f (is_close token.kind) refl conds

set_run : (line : List ℕ) (op : Op) (at : ℕ) (next : State) (tokens : List Token) → run line (CondItems false at next) tokens ≡ resume (cond_set_of line (within at (ending_in line next)) op tokens) (λ c rest. run line next rest)
unfolding cond_set_of
set_run line op at next tokens =
    conds_run (length tokens) line at next tokens (omega arith) []
    ∙ sym (resume_on (conds_from (length tokens) line (within at (ending_in line next)) [] tokens) (λ l. conditions_joined op l) (λ c rest. run line next rest))

brace_run : (line : List ℕ) (op : Op) (next : State) (tokens : List Token) → run line (CondBrace next) tokens ≡ resume (set_behind line (ending_in line next) op tokens) (λ c rest. run line next rest)
brace_run line op next [] = refl
brace_run line op next (token ∷ tokens) = by (is_open token.kind) refl
  where
    by : (b : Bool) → is_open token.kind ≡ b → run line (CondBrace next) (token ∷ tokens) ≡ resume (set_behind line (ending_in line next) op (token ∷ tokens)) (λ c rest. run line next rest)
    by true o = rw o (set_run line op token.start next tokens)
    by false o = rw o refl

pub conditions_run : (line : List ℕ) (next : State) (tokens : List Token) → run line (AfterIf next) tokens ≡ resume (conditions_of line (ending_in line next) tokens) (λ c rest. run line next rest)
unfolding conditions_of
conditions_run line next [] = refl
conditions_run line next (token ∷ tokens) = by (is_open token.kind) refl
  where
    T : Type 0
    T = run line (AfterIf next) (token ∷ tokens) ≡ resume (conditions_of line (ending_in line next) (token ∷ tokens)) (λ c rest. run line next rest)

    by_operator : is_open token.kind ≡ false → (p : Option Op) → operator_of (word_of line token) ≡ p → T
    by_operator o None w = rw o (rw w (condition_run line next token tokens ∙ sym (resume_on (condition_from line (ending_in line next) token tokens) (λ c. conditions_joined Equals (c ∷ [])) (λ c rest. run line next rest))))
    by_operator o (Some op) w = rw o (rw w (brace_run line op next tokens))

    by : (b : Bool) → is_open token.kind ≡ b → T
    by true o = rw o (set_run line Equals token.start next tokens)
    by false o = by_operator o (operator_of (word_of line token)) refl
