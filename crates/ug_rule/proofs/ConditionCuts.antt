-- Conditions are read as the grammar cuts them.
use Rattle.std.proofs.Common.{◌≡◌, ℕ, ◌≤◌, inl, inr, Bool, true, false, List, [], ◌∷◌, length, Option, Some, None, Result, Ok, Err, refl, sym, ap, subst, ◌∙◌, arith, if◌then◌else◌}
use Rattle.ug_words.specs.declared.token.Token.{Token}
use Rattle.ug_types.specs.declared.rule.Cond.{Cond}
use Rattle.ug_types.specs.declared.rule.CondKind.{CondKind}
use Rattle.ug_types.specs.declared.rule.CondKind.TheVariants as condition
use Rattle.ug_types.specs.declared.rule.Query.{Query}
use Rattle.ug_rule.specs.declared.fault.Ending.{Ending}
use Rattle.ug_rule.specs.declared.fault.Fault.{Fault}
use Rattle.ug_rule.specs.declared.fault.FaultKind.TheVariants.{BadCondition, ConditionInQuery}
use Rattle.ug_words.specs.declared.keywords.CondName.{CondName}
use Rattle.ug_words.specs.declared.keywords.CondName.TheVariants as name
use Rattle.ug_rule.specs.Conditions.{next_of, opened, closed, argument_of, perhaps_of, in_span, localtime_of, matches_closed, matches_of, chance_or_half, kind_of, named_condition, condition_from}
use Rattle.ug_rule.specs.Faults.{fault_at, on_ok, required}
use Rattle.ug_rule.specs.Grammar.{IsArgument, MayHaveArgument, HasQuery, Argues, IsNamedCondition, IsCondition, IsQueryTo}
use Rattle.ug_words.specs.Keywords.{operator_of, condition_of}
use Rattle.ug_rule.specs.Queries.{is_empty_query, query_of, stray}
use Rattle.ug_rule.specs.Tokens.{word_of, is_open, is_close, is_paren_open, is_paren_close, is_bang}
use Rattle.ug_words.specs.Words.{span_of, past_of, chance_of}
use Rattle.ug_rule.proofs.Cases.{by_step, same_ok, by_found}
use Rattle.ug_words.proofs.Tests.{by_test}
use Rattle.ug_rule.proofs.Marks.{condition_word, condition_no_operator, bang_mark, bang_no_operator, close_no_attribute}
use Rattle.ug_rule.proofs.QueryCuts.{query_cut, query_reads, query_shorter}

-- ---- arguments

abbrev Open : Type 0
Open = Unit {0} × List Token

opened_cut : (ending : Ending) (tokens : List Token) (p : Open) → opened ending tokens ≡ Ok p → (opening : Token) × (tokens ≡ opening ∷ p.1) × (is_paren_open opening.kind ≡ true)
opened_cut ending [] p h = let none : ⊥ = cc in absurd none
opened_cut ending (opening ∷ tokens) p h = elim (by_test (is_paren_open opening.kind) (Ok (tt, tokens)) (Err (fault_at BadCondition opening.start)) (Ok p) h) [
  | inl q ↦ (opening, ap (λ p. opening ∷ p.1) (same_ok (tt, tokens) p q.1), q.0)
  | inr q ↦ let none : ⊥ = cc in absurd none
]

closed_cut : (ending : Ending) (tokens : List Token) (p : Open) → closed ending tokens ≡ Ok p → (closing : Token) × (tokens ≡ closing ∷ p.1) × (is_paren_close closing.kind ≡ true)
closed_cut ending [] p h = let none : ⊥ = cc in absurd none
closed_cut ending (closing ∷ tokens) p h = elim (by_test (is_paren_close closing.kind) (Ok (tt, tokens)) (Err (fault_at BadCondition closing.start)) (Ok p) h) [
  | inl q ↦ (closing, ap (λ p. closing ∷ p.1) (same_ok (tt, tokens) p q.1), q.0)
  | inr q ↦ let none : ⊥ = cc in absurd none
]

argument_cut : {X : Type 0} (line : List ℕ) (reads : List ℕ → Option X) (ending : Ending) (x : X) (opening : Token) (tokens rest : List Token) → is_paren_open opening.kind ≡ true → argument_of reads line ending tokens ≡ Ok (x, rest) → IsArgument line reads x (opening ∷ tokens) rest
unfolding argument_of
argument_cut line reads ending x opening [] rest o h = let none : ⊥ = cc in absurd none
argument_cut line reads ending x opening (word ∷ tokens) rest o h =
    let s = by_step (required (reads (word_of line word)) BadCondition word.start) (λ x. on_ok (closed ending tokens) (λ q. Ok (x, q.1))) (x, rest) h in
    let t = by_step (closed ending tokens) (λ q. Ok (s.0, q.1)) (x, rest) s.2 in
    let c = closed_cut ending tokens t.0 t.1 in
    let e : (s.0, t.0.1) ≡ (x, rest) = same_ok (s.0, t.0.1) (x, rest) t.2 in
    record {
      opening = opening;
      word = word;
      closing = c.0;
      cut = ap (λ l. opening ∷ word ∷ l) c.1 ∙ ap (λ p. opening ∷ word ∷ c.0 ∷ p.1) e;
      opens = o;
      says = by_found (reads (word_of line word)) BadCondition word.start s.0 s.1 ∙ ap (λ p. Some p.0) e;
      closes = c.2;
    }

perhaps_cut : {X : Type 0} (line : List ℕ) (reads : List ℕ → Option X) (ending : Ending) (x : Option X) (tokens rest : List Token) → perhaps_of reads line ending tokens ≡ Ok (x, rest) → MayHaveArgument line reads x tokens rest
unfolding perhaps_of
perhaps_cut line reads ending x [] rest h = subst (λ p. MayHaveArgument line reads p.0 [] p.1) (same_ok (None, []) (x, rest) h) (refl, refl)
perhaps_cut line reads ending x (token ∷ tokens) rest h = elim (by_test (is_paren_open token.kind) (on_ok (argument_of reads line ending tokens) (λ p. Ok (Some p.0, p.1))) (Ok (None, token ∷ tokens)) (Ok (x, rest)) h) [
  | inl p ↦
      let s = by_step (argument_of reads line ending tokens) (λ p. Ok (Some p.0, p.1)) (x, rest) p.1 in
      subst (λ q. MayHaveArgument line reads q.0 (token ∷ tokens) q.1) (same_ok (Some s.0.0, s.0.1) (x, rest) s.2) (argument_cut line reads ending s.0.0 token tokens s.0.1 p.0 s.1)
  | inr p ↦ subst (λ q. MayHaveArgument line reads q.0 (token ∷ tokens) q.1) (same_ok (None, token ∷ tokens) (x, rest) p.1) (p.0, refl)
]

perhaps_reads : {X : Type 0} (line : List ℕ) (reads : List ℕ → Option X) (ending : Ending) (x : Option X) (tokens rest : List Token) → MayHaveArgument line reads x tokens rest → perhaps_of reads line ending tokens ≡ Ok (x, rest)
unfolding perhaps_of argument_of
perhaps_reads line reads ending None tokens rest a = rw a.0 (ap (λ l. Ok (None, l)) a.1)
perhaps_reads line reads ending (Some x) tokens rest a = rw a.cut (rw a.opens (rw a.says (rw a.closes refl)))

localtime_cut : (line : List ℕ) (ending : Ending) (kind : CondKind) (tokens rest : List Token) → localtime_of line ending tokens ≡ Ok (kind, rest) → Argues line name.LocalTime kind tokens rest
unfolding localtime_of
localtime_cut line ending kind tokens rest h =
    let s = by_step (opened ending tokens) (λ p. on_ok (argument_of span_of line ending p.1) in_span) (kind, rest) h in
    let o = opened_cut ending tokens s.0 s.1 in
    let t = by_step (argument_of span_of line ending s.0.1) in_span (kind, rest) s.2 in
    let a : IsArgument line span_of t.0.0 (o.0 ∷ s.0.1) t.0.1 = argument_cut line span_of ending t.0.0 o.0 s.0.1 t.0.1 o.2 t.1 in
    let e : (condition.LocalTime t.0.0.begin t.0.0.end, t.0.1) ≡ (kind, rest) = same_ok (condition.LocalTime t.0.0.begin t.0.0.end, t.0.1) (kind, rest) t.2 in
    (t.0.0, subst (λ l. IsArgument line span_of t.0.0 l rest) (sym o.1) (subst (λ l. IsArgument line span_of t.0.0 (o.0 ∷ s.0.1) l) (ap (λ p. p.1) e) a), sym (ap (λ p. p.0) e))

localtime_reads : (line : List ℕ) (ending : Ending) (kind : CondKind) (tokens rest : List Token) → Argues line name.LocalTime kind tokens rest → localtime_of line ending tokens ≡ Ok (kind, rest)
unfolding localtime_of argument_of
localtime_reads line ending kind tokens rest a = rw a.1.cut (rw a.1.opens (rw a.1.says (rw a.1.closes (ap (λ k. Ok (k, rest)) (sym a.2)))))

-- ---- queries in parentheses

matches_closed_cut : (line : List ℕ) (ending : Ending) (query : Query) (kind : CondKind) (tokens rest : List Token) → matches_closed line ending query tokens ≡ Ok (kind, rest) → (closing : Token) × (tokens ≡ closing ∷ rest) × (is_paren_close closing.kind ≡ true) × (is_empty_query query ≡ false) × (kind ≡ condition.AllowedMatches query)
matches_closed_cut line ending query kind [] rest h = let none : ⊥ = cc in absurd none
matches_closed_cut line ending query kind (closing ∷ tokens) rest h = elim (by_test (is_paren_close closing.kind) (if is_empty_query query then Err (fault_at BadCondition closing.start) else Ok (condition.AllowedMatches query, tokens)) (Err (stray ConditionInQuery line closing)) (Ok (kind, rest)) h) [
  | inl p ↦ elim (by_test (is_empty_query query) (Err (fault_at BadCondition closing.start)) (Ok (condition.AllowedMatches query, tokens)) (Ok (kind, rest)) p.1) [
    | inl q ↦ let none : ⊥ = cc in absurd none
    | inr q ↦
        let e : (condition.AllowedMatches query, tokens) ≡ (kind, rest) = same_ok (condition.AllowedMatches query, tokens) (kind, rest) q.1 in
        (closing, ap (λ p. closing ∷ p.1) e, p.0, q.0, sym (ap (λ p. p.0) e))
  ]
  | inr p ↦ let none : ⊥ = cc in absurd none
]

matches_cut : (line : List ℕ) (ending : Ending) (kind : CondKind) (tokens rest : List Token) → matches_of line ending tokens ≡ Ok (kind, rest) → Argues line name.AllowedMatches kind tokens rest
unfolding matches_of
matches_cut line ending kind tokens rest h =
    let s = by_step (opened ending tokens) (λ p. on_ok (query_of line ending p.1) (λ q. matches_closed line ending q.0 q.1)) (kind, rest) h in
    let o = opened_cut ending tokens s.0 s.1 in
    let t = by_step (query_of line ending s.0.1) (λ q. matches_closed line ending q.0 q.1) (kind, rest) s.2 in
    let q = query_cut line ending t.0.0 s.0.1 t.0.1 t.1 in
    let c = matches_closed_cut line ending t.0.0 kind t.0.1 rest t.2 in
    let is : IsQueryTo line t.0.0 s.0.1 (c.0 ∷ rest) = subst (λ l. IsQueryTo line t.0.0 s.0.1 l) c.1 q.0 in
    (t.0.0, record { opening = o.0; closing = c.0; more = s.0.1; cut = o.1; opens = o.2; is = is; some = c.3; closes = c.2 }, c.4)

matches_reads : (line : List ℕ) (ending : Ending) (kind : CondKind) (tokens rest : List Token) → Argues line name.AllowedMatches kind tokens rest → matches_of line ending tokens ≡ Ok (kind, rest)
unfolding matches_of
matches_reads line ending kind tokens rest a =
    let q : HasQuery line a.0 tokens rest = a.1 in
    rw q.cut (rw q.opens (
    ap (λ r. on_ok r (λ q. matches_closed line ending q.0 q.1)) (query_reads line ending a.0 q.more (q.closing ∷ rest) q.is (close_no_attribute line q.closing q.closes))
    ∙ rw q.closes (rw q.some (ap (λ k. Ok (k, rest)) (sym a.2)))))

-- ---- conditions

past_cut : (line : List ℕ) (ending : Ending) (make : Option ℕ → CondKind) (reads : List ℕ → Option ℕ) (kind : CondKind) (tokens rest : List Token) → on_ok {Y = CondKind × List Token} (perhaps_of reads line ending tokens) (λ p. Ok (make p.0, p.1)) ≡ Ok (kind, rest) → (x : Option ℕ) × MayHaveArgument line reads x tokens rest × (kind ≡ make x)
past_cut line ending make reads kind tokens rest h =
    let s = by_step (perhaps_of reads line ending tokens) (λ p. Ok (make p.0, p.1)) (kind, rest) h in
    let e : (make s.0.0, s.0.1) ≡ (kind, rest) = same_ok (make s.0.0, s.0.1) (kind, rest) s.2 in
    (s.0.0, subst (λ l. MayHaveArgument line reads s.0.0 tokens l) (ap (λ p. p.1) e) (perhaps_cut line reads ending s.0.0 tokens s.0.1 s.1), sym (ap (λ p. p.0) e))

past_reads : (line : List ℕ) (ending : Ending) (make : Option ℕ → CondKind) (reads : List ℕ → Option ℕ) (kind : CondKind) (tokens rest : List Token) (x : Option ℕ) → MayHaveArgument line reads x tokens rest → kind ≡ make x → on_ok {Y = CondKind × List Token} (perhaps_of reads line ending tokens) (λ p. Ok (make p.0, p.1)) ≡ Ok (kind, rest)
past_reads line ending make reads kind tokens rest x a e =
    ap (λ r. on_ok {Y = CondKind × List Token} r (λ p. Ok (make p.0, p.1))) (perhaps_reads line reads ending x tokens rest a) ∙ ap (λ k. Ok (k, rest)) (sym e)

same_both : (a b : CondKind) (tokens rest : List Token) → ◌≡◌ {A = Result (CondKind × List Token) Fault} (Ok (a, tokens)) (Ok (b, rest)) → (b ≡ a) × (tokens ≡ rest)
same_both a b tokens rest h =
    let e : (a, tokens) ≡ (b, rest) = same_ok (a, tokens) (b, rest) h in
    (sym (ap (λ p. p.0) e), ap (λ p. p.1) e)

kind_cut : (name : CondName) (line : List ℕ) (ending : Ending) (kind : CondKind) (tokens rest : List Token) → kind_of name line ending tokens ≡ Ok (kind, rest) → Argues line name kind tokens rest
unfolding kind_of
kind_cut name.LocalTime line ending kind tokens rest h = localtime_cut line ending kind tokens rest h
kind_cut name.AllowedMatches line ending kind tokens rest h = matches_cut line ending kind tokens rest h
kind_cut name.RuleApplied line ending kind tokens rest h = past_cut line ending (λ x. condition.RuleApplied x) past_of kind tokens rest h
kind_cut name.RuleEvaluated line ending kind tokens rest h = past_cut line ending (λ x. condition.RuleEvaluated x) past_of kind tokens rest h
kind_cut name.Random line ending kind tokens rest h = past_cut line ending (λ x. condition.Random (chance_or_half x)) chance_of kind tokens rest h
kind_cut name.True line ending kind tokens rest h = same_both condition.True kind tokens rest h
kind_cut name.False line ending kind tokens rest h = same_both condition.False kind tokens rest h

kind_reads : (name : CondName) (line : List ℕ) (ending : Ending) (kind : CondKind) (tokens rest : List Token) → Argues line name kind tokens rest → kind_of name line ending tokens ≡ Ok (kind, rest)
unfolding kind_of
kind_reads name.LocalTime line ending kind tokens rest a = localtime_reads line ending kind tokens rest a
kind_reads name.AllowedMatches line ending kind tokens rest a = matches_reads line ending kind tokens rest a
kind_reads name.RuleApplied line ending kind tokens rest a = past_reads line ending (λ x. condition.RuleApplied x) past_of kind tokens rest a.0 a.1 a.2
kind_reads name.RuleEvaluated line ending kind tokens rest a = past_reads line ending (λ x. condition.RuleEvaluated x) past_of kind tokens rest a.0 a.1 a.2
kind_reads name.Random line ending kind tokens rest a = past_reads line ending (λ x. condition.Random (chance_or_half x)) chance_of kind tokens rest a.0 a.1 a.2
kind_reads name.True line ending kind tokens rest a = ap (λ k. Ok (k, tokens)) (sym a.0) ∙ ap (λ l. Ok (kind, l)) a.1
kind_reads name.False line ending kind tokens rest a = ap (λ k. Ok (k, tokens)) (sym a.0) ∙ ap (λ l. Ok (kind, l)) a.1

abbrev pub of_kind : Bool → CondKind → Cond
of_kind negated kind = record { negated = negated; kind = kind }

named_cut : (line : List ℕ) (ending : Ending) (negated : Bool) (cond : Cond) (token : Token) (tokens rest : List Token) → named_condition line ending negated token tokens ≡ Ok (cond, rest) → (kind : CondKind) × IsNamedCondition line kind (token ∷ tokens) rest × (cond ≡ of_kind negated kind)
unfolding named_condition
named_cut line ending negated cond token tokens rest h =
    let s = by_step (required (condition_of (word_of line token)) BadCondition token.start) (λ name. on_ok (kind_of name line ending tokens) (λ p. Ok (of_kind negated p.0, p.1))) (cond, rest) h in
    let t = by_step (kind_of s.0 line ending tokens) (λ p. Ok (of_kind negated p.0, p.1)) (cond, rest) s.2 in
    let e : (of_kind negated t.0.0, t.0.1) ≡ (cond, rest) = same_ok (of_kind negated t.0.0, t.0.1) (cond, rest) t.2 in
    let a : Argues line s.0 t.0.0 tokens rest = subst (λ l. Argues line s.0 t.0.0 tokens l) (ap (λ p. p.1) e) (kind_cut s.0 line ending t.0.0 tokens t.0.1 t.1) in (
      t.0.0,
      record { word = token; name = s.0; more = tokens; cut = refl; names = by_found (condition_of (word_of line token)) BadCondition token.start s.0 s.1; argues = a },
      sym (ap (λ p. p.0) e),
    )

named_reads : (line : List ℕ) (ending : Ending) (negated : Bool) (cond : Cond) (kind : CondKind) (name : CondName) (word : Token) (tokens rest : List Token) → condition_of (word_of line word) ≡ Some name → Argues line name kind tokens rest → cond ≡ of_kind negated kind → named_condition line ending negated word tokens ≡ Ok (cond, rest)
unfolding named_condition
named_reads line ending negated cond kind name word tokens rest n a e =
    rw n (ap (λ r. on_ok r (λ p. Ok (of_kind negated p.0, p.1))) (kind_reads name line ending kind tokens rest a) ∙ ap (λ c. Ok (c, rest)) (sym e))

pub condition_cut : (line : List ℕ) (ending : Ending) (cond : Cond) (token : Token) (tokens rest : List Token) → condition_from line ending token tokens ≡ Ok (cond, rest) → IsCondition line cond (token ∷ tokens) rest
unfolding condition_from
condition_cut line ending cond token tokens rest h = elim (by_test (is_bang token.kind) (on_ok (next_of ending tokens) (λ p. named_condition line ending true p.0 p.1)) (named_condition line ending false token tokens) (Ok (cond, rest)) h) [
  | inl p ↦ negated tokens p.0 p.1
  | inr p ↦
      let n = named_cut line ending false cond token tokens rest p.1 in
      inl (record { kind = n.0; named = n.1; is = n.2 })
]
  where
    negated : (tokens : List Token) → is_bang token.kind ≡ true → on_ok (next_of ending tokens) (λ p. named_condition line ending true p.0 p.1) ≡ Ok (cond, rest) → IsCondition line cond (token ∷ tokens) rest
    negated [] b k = let none : ⊥ = cc in absurd none
    negated (word ∷ tokens) b k =
        let n = named_cut line ending true cond word tokens rest k in
        inr (record { bang = token; more = word ∷ tokens; kind = n.0; cut = refl; negates = b; named = n.1; is = n.2 })

-- ---- a condition takes a token, and its first is neither a brace nor an operator

perhaps_shorter : {X : Type 0} (line : List ℕ) (reads : List ℕ → Option X) (x : Option X) (tokens rest : List Token) → MayHaveArgument line reads x tokens rest → length rest ≤ length tokens
perhaps_shorter line reads None tokens rest a = omega (arith, ap length a.1)
perhaps_shorter line reads (Some x) tokens rest a = omega (arith, ap length a.cut)

argues_shorter : (line : List ℕ) (name : CondName) (kind : CondKind) (tokens rest : List Token) → Argues line name kind tokens rest → length rest ≤ length tokens
argues_shorter line name.LocalTime kind tokens rest a = omega (arith, ap length a.1.cut)
argues_shorter line name.AllowedMatches kind tokens rest a = omega (arith, ap length a.1.cut, query_shorter line a.0 a.1.more (a.1.closing ∷ rest) a.1.is)
argues_shorter line name.RuleApplied kind tokens rest a = perhaps_shorter line past_of a.0 tokens rest a.1
argues_shorter line name.RuleEvaluated kind tokens rest a = perhaps_shorter line past_of a.0 tokens rest a.1
argues_shorter line name.Random kind tokens rest a = perhaps_shorter line chance_of a.0 tokens rest a.1
argues_shorter line name.True kind tokens rest a = omega (arith, ap length a.1)
argues_shorter line name.False kind tokens rest a = omega (arith, ap length a.1)

pub record Reads (line : List ℕ) (ending : Ending) (cond : Cond) (tokens rest : List Token) : Type 0 where
  pub token : Token
  pub more : List Token
  pub cut : tokens ≡ token ∷ more
  pub reads : condition_from line ending token more ≡ Ok (cond, rest)
  pub no_open : is_open token.kind ≡ false
  pub no_close : is_close token.kind ≡ false
  pub no_operator : operator_of (word_of line token) ≡ None
  pub less : length rest ≤ length more

pub condition_reads : (line : List ℕ) (ending : Ending) (cond : Cond) (tokens rest : List Token) → IsCondition line cond tokens rest → Reads line ending cond tokens rest
unfolding condition_from
condition_reads line ending cond tokens rest (inl c) =
    let n : IsNamedCondition line c.kind tokens rest = c.named in
    let plain : is_bang n.word.kind ≡ false = rw (condition_word line n.word n.name n.names) refl in
    record {
      token = n.word;
      more = n.more;
      cut = n.cut;
      reads = rw plain (named_reads line ending false cond c.kind n.name n.word n.more rest n.names n.argues c.is);
      no_open = rw (condition_word line n.word n.name n.names) refl;
      no_close = rw (condition_word line n.word n.name n.names) refl;
      no_operator = condition_no_operator (word_of line n.word) n.name n.names;
      less = argues_shorter line n.name c.kind n.more rest n.argues;
    }
condition_reads line ending cond tokens rest (inr c) =
    let n : IsNamedCondition line c.kind c.more rest = c.named in
    record {
      token = c.bang;
      more = c.more;
      cut = c.cut;
      reads = rw c.negates (rw n.cut (named_reads line ending true cond c.kind n.name n.word n.more rest n.names n.argues c.is));
      no_open = rw (bang_mark c.bang c.negates) refl;
      no_close = rw (bang_mark c.bang c.negates) refl;
      no_operator = bang_no_operator line c.bang c.negates;
      less = omega (arith, ap length n.cut, argues_shorter line n.name c.kind n.more rest n.argues);
    }
