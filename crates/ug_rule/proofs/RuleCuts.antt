-- Rules are read as the grammar cuts them.
use Rattle.std.proofs.Common.{◌≡◌, ℕ, ◌⊎◌, inl, inr, false, List, [], ◌∷◌, Option, Some, None, Ok, Err, refl, sym, ap, subst, ◌∙◌}
use Rattle.ug_words.specs.declared.token.Token.{Token}
use Rattle.ug_words.specs.Lexing.{Lexed, tokens_of}
use Rattle.ug_words.specs.Lexing as lexing
use Rattle.ug_words.proofs.Meaning.{read_good, good_read}
use Rattle.ug_types.specs.declared.rule.Conds.{Conds}
use Rattle.ug_types.specs.declared.rule.Query.{Query}
use Rattle.ug_types.specs.declared.rule.Rule.{Rule}
use Rattle.ug_types.specs.declared.verdict.Target.{Target}
use Rattle.ug_rule.specs.declared.fault.Ending.{Ending}
use Rattle.ug_rule.specs.declared.fault.FaultKind.TheVariants.{NoTarget, BadValue}
use Rattle.ug_words.specs.declared.keywords.Attr.{Attr}
use Rattle.ug_rule.specs.Conditions.{conditions_of}
use Rattle.ug_rule.specs.Faults.{missing, on_ok, required}
use Rattle.ug_rule.specs.Grammar.{AreAttributes, AllAttributes, IsConditions, IsQuery, IsQueryTo, IsIf, RulePart, Attribute, If, AreParts, IsRule, Says, Asks, WellFormed}
use Rattle.ug_words.specs.Keywords.{attribute_of, is_if}
use Rattle.ug_types.specs.Targets.{target_of}
use Rattle.ug_rule.specs.Queries.{attributes_of, query_of, query_ends, is_empty_query}
use Rattle.ug_rule.specs.Rules.{end_of, some_conds, conds_of, rule_ends, rule_with, parts_of, rule_of, rule_read, whole_query, query_read}
use Rattle.ug_rule.specs.Tokens.{word_of, first_word, read_by, tokens_read}
use Rattle.ug_rule.proofs.AttributeCuts.{attributes_cut, attributes_read, no_word}
use Rattle.ug_rule.proofs.Cases.{by_step, same_ok, by_found}
use Rattle.ug_words.proofs.Tests.{by_test}
use Rattle.ug_rule.proofs.CondSetCuts.{conditions_cut, conditions_read}
use Rattle.ug_rule.proofs.Marks.{if_no_attribute}
use Rattle.ug_rule.proofs.QueryCuts.{query_cut, query_reads}

-- ---- queries

ends_cut : (line : List ℕ) (ending : Ending) (query all : Query) (tokens : List Token) → query_ends line ending query tokens ≡ Ok all → (tokens ≡ []) × (query ≡ all) × (is_empty_query query ≡ false)
ends_cut line ending query all (token ∷ tokens) h = let none : ⊥ = cc in absurd none
ends_cut line ending query all [] h = elim (by_test (is_empty_query query) (Err (missing BadValue ending)) (Ok query) (Ok all) h) [
  | inl p ↦ let none : ⊥ = cc in absurd none
  | inr p ↦ (refl, same_ok query all p.1, p.0)
]

pub whole_cut : (line : List ℕ) (query : Query) (tokens : List Token) → whole_query line tokens ≡ Ok query → IsQuery line query tokens
unfolding whole_query
whole_cut line query tokens h =
    let s = by_step (query_of line (end_of line) tokens) (λ p. query_ends line (end_of line) p.0 p.1) query h in
    let q = query_cut line (end_of line) s.0.0 tokens s.0.1 s.1 in
    let e = ends_cut line (end_of line) s.0.0 query s.0.1 s.2 in
    (subst (λ q. IsQueryTo line q tokens []) e.1 (subst (λ l. IsQueryTo line s.0.0 tokens l) e.0 q.0), subst (λ q. is_empty_query q ≡ false) e.1 e.2)

pub whole_reads : (line : List ℕ) (query : Query) (tokens : List Token) → IsQuery line query tokens → whole_query line tokens ≡ Ok query
unfolding whole_query
whole_reads line query tokens q =
    ap (λ r. on_ok r (λ p. query_ends line (end_of line) p.0 p.1)) (query_reads line (end_of line) query tokens [] q.0 (no_word line))
    ∙ rw q.1 refl

-- ---- conditions of a rule

if_cut : (line : List ℕ) (ending : Ending) (found : Option Conds) (tokens rest : List Token) → conds_of line ending tokens ≡ Ok (found, rest) → ((conds : Conds) × IsIf line conds tokens rest × (found ≡ Some conds)) ⊎ ((found ≡ None) × (tokens ≡ rest))
unfolding conds_of is_if
if_cut line ending found [] rest h =
    let e : (None, []) ≡ (found, rest) = same_ok (None, []) (found, rest) h in
    inr (sym (ap (λ p. p.0) e), ap (λ p. p.1) e)
if_cut line ending found (word ∷ tokens) rest h = elim (by_test (is_if (word_of line word)) (on_ok (conditions_of line ending tokens) some_conds) (Ok (None, word ∷ tokens)) (Ok (found, rest)) h) [
  | inl p ↦
      let s = by_step (conditions_of line ending tokens) some_conds (found, rest) p.1 in
      let e : (Some s.0.0, s.0.1) ≡ (found, rest) = same_ok (Some s.0.0, s.0.1) (found, rest) s.2 in
      let c : IsConditions line s.0.0 tokens rest = subst (λ l. IsConditions line s.0.0 tokens l) (ap (λ p. p.1) e) (conditions_cut line ending s.0.0 tokens s.0.1 s.1) in
      inl (s.0.0, record { word = word; more = tokens; cut = refl; names = p.0; are = c }, sym (ap (λ p. p.0) e))
  | inr p ↦
      let e : (None, word ∷ tokens) ≡ (found, rest) = same_ok (None, word ∷ tokens) (found, rest) p.1 in
      inr (sym (ap (λ p. p.0) e), ap (λ p. p.1) e)
]

if_reads : (line : List ℕ) (ending : Ending) (conds : Conds) (tokens rest : List Token) → IsIf line conds tokens rest → conds_of line ending tokens ≡ Ok (Some conds, rest)
unfolding conds_of
if_reads line ending conds tokens rest i = rw i.cut (rw i.names (ap (λ r. on_ok r some_conds) (conditions_read line ending conds i.more rest i.are)))

none_reads : (line : List ℕ) (ending : Ending) → conds_of line ending [] ≡ Ok (None, [])
unfolding conds_of is_if
none_reads line ending = refl

-- ---- parts in any order

abbrev SomeParts : List ℕ → Query → Option Conds → Query → Option Conds → List Token → Type 0
SomeParts line query conds all found tokens = (parts : List RulePart) × AreParts line parts query conds all found tokens

attributes_first : (line : List ℕ) (attrs : List Attr) (query next all : Query) (conds found : Option Conds) (tokens left : List Token) → AreAttributes line attrs query next tokens left → SomeParts line next conds all found left → SomeParts line query conds all found tokens
attributes_first line [] query next all conds found tokens left a p =
    subst (λ q. SomeParts line q conds all found tokens) a.0 (subst (λ l. SomeParts line next conds all found l) (sym a.1) p)
attributes_first line (attr ∷ attrs) query next all conds found tokens left a p =
    let r : SomeParts line a.0 conds all found a.1 = attributes_first line attrs a.0 next all conds found a.1 left a.3 p in
    (Attribute attr ∷ r.0, (a.0, a.1, a.2, r.1))

-- conditions or none, and attributes to the last token
behind_cut : (line : List ℕ) (ending : Ending) (query all : Query) (found : Option Conds) (tokens rest : List Token) → conds_of line ending tokens ≡ Ok (found, rest) → attributes_of line ending query rest ≡ Ok (all, []) → SomeParts line query None all found tokens
behind_cut line ending query all found tokens rest h k =
    let a : AllAttributes line query all rest [] = attributes_cut line ending query all rest [] k in
    let last : (conds : Option Conds) → SomeParts line query conds all conds rest = λ conds. attributes_first line a.attrs query all all conds conds rest [] a.are ([], (refl, refl, refl)) in
    elim (if_cut line ending found tokens rest h) [
      | inl i ↦
          let r : SomeParts line query (Some i.0) all (Some i.0) rest = last (Some i.0) in
          subst (λ f. SomeParts line query None all f tokens) (sym i.2) (If ∷ r.0, (i.0, rest, i.1, refl, r.1))
      | inr n ↦ subst (λ f. SomeParts line query None all f tokens) (sym n.0) (subst (λ l. SomeParts line query None all None l) (sym n.1) (last None))
    ]

-- no second `if`
only_attributes : (line : List ℕ) (parts : List RulePart) (query all : Query) (conds : Conds) (found : Option Conds) (tokens : List Token) → AreParts line parts query (Some conds) all found tokens → (attrs : List Attr) × AreAttributes line attrs query all tokens [] × (found ≡ Some conds)
only_attributes line [] query all conds found tokens a = ([], (a.0, a.2), a.1)
only_attributes line (Attribute attr ∷ parts) query all conds found tokens a =
    let r = only_attributes line parts a.0 all conds found a.1 a.3 in
    (attr ∷ r.0, (a.0, a.1, a.2, r.1), r.2)
only_attributes line (If ∷ parts) query all conds found tokens a = let none : ⊥ = cc in absurd none

-- the parts as they are read
record Read (line : List ℕ) (ending : Ending) (query all : Query) (found : Option Conds) (tokens : List Token) : Type 0 where
  attrs : List Attr
  middle : Query
  left : List Token
  rest : List Token
  are : AreAttributes line attrs query middle tokens left
  stops : attribute_of (first_word line left) ≡ None
  conds : conds_of line ending left ≡ Ok (found, rest)
  more : attributes_of line ending middle rest ≡ Ok (all, [])

none_left : (line : List ℕ) (ending : Ending) (query all : Query) (found : Option Conds) (tokens : List Token) → all ≡ query → found ≡ None → tokens ≡ [] → Read line ending query all found tokens
none_left line ending query all found tokens q f t = record {
  attrs = [];
  middle = all;
  left = [];
  rest = [];
  are = (q, t);
  stops = no_word line;
  conds = none_reads line ending ∙ ap (λ f. Ok (f, [])) (sym f);
  more = attributes_read line ending all all [] [] (record { attrs = []; are = (refl, refl); last = no_word line });
}

if_left : (line : List ℕ) (ending : Ending) (query all : Query) (conds : Conds) (found : Option Conds) (parts : List RulePart) (tokens rest : List Token) → IsIf line conds tokens rest → AreParts line parts query (Some conds) all found rest → Read line ending query all found tokens
if_left line ending query all conds found parts tokens rest i p =
    let a = only_attributes line parts query all conds found rest p in
    record {
      attrs = [];
      middle = query;
      left = tokens;
      rest = rest;
      are = (refl, refl);
      stops = ap (λ l. attribute_of (first_word line l)) i.cut ∙ if_no_attribute (word_of line i.word) i.names;
      conds = if_reads line ending conds tokens rest i ∙ ap (λ f. Ok (f, rest)) (sym a.2);
      more = attributes_read line ending query all rest [] (record { attrs = a.0; are = a.1; last = no_word line });
    }

parts_read : (line : List ℕ) (ending : Ending) (parts : List RulePart) (query all : Query) (found : Option Conds) (tokens : List Token) → AreParts line parts query None all found tokens → Read line ending query all found tokens
parts_read line ending [] query all found tokens a = none_left line ending query all found tokens a.0 a.1 a.2
parts_read line ending (Attribute attr ∷ parts) query all found tokens a =
    let r : Read line ending a.0 all found a.1 = parts_read line ending parts a.0 all found a.1 a.3 in
    record {
      attrs = attr ∷ r.attrs;
      middle = r.middle;
      left = r.left;
      rest = r.rest;
      are = (a.0, a.1, a.2, r.are);
      stops = r.stops;
      conds = r.conds;
      more = r.more;
    }
parts_read line ending (If ∷ parts) query all found tokens a = if_left line ending query all a.0 found parts tokens a.1 a.2 a.4

-- ---- rules

ends_here : (line : List ℕ) (rule all : Rule) (tokens : List Token) → rule_ends line rule tokens ≡ Ok all → (tokens ≡ []) × (rule ≡ all)
ends_here line rule all [] h = (refl, same_ok rule all h)
ends_here line rule all (token ∷ tokens) h = let none : ⊥ = cc in absurd none

parts_cut : (line : List ℕ) (target : Target) (rule : Rule) (token : Token) (tokens : List Token) → target_of (word_of line token) ≡ Some target → parts_of line target tokens ≡ Ok rule → IsRule line rule (token ∷ tokens)
unfolding parts_of
parts_cut line target rule token tokens t h =
    let ending : Ending = end_of line in
    let s = by_step (query_of line ending tokens) (λ p. on_ok (conds_of line ending p.1) (λ q. on_ok (attributes_of line ending p.0 q.1) (λ r. rule_ends line (rule_with target r.0 q.0) r.1))) rule h in
    let c = by_step (conds_of line ending s.0.1) (λ q. on_ok (attributes_of line ending s.0.0 q.1) (λ r. rule_ends line (rule_with target r.0 q.0) r.1)) rule s.2 in
    let a = by_step (attributes_of line ending s.0.0 c.0.1) (λ r. rule_ends line (rule_with target r.0 c.0.0) r.1) rule c.2 in
    let e = ends_here line (rule_with target a.0.0 c.0.0) rule a.0.1 a.2 in
    let q = query_cut line ending s.0.0 tokens s.0.1 s.1 in
    let more : SomeParts line s.0.0 None a.0.0 c.0.0 s.0.1 = behind_cut line ending s.0.0 a.0.0 c.0.0 s.0.1 c.0.1 c.1 (a.1 ∙ ap (λ l. Ok (a.0.0, l)) e.0) in
    let parts : SomeParts line q.0.first None a.0.0 c.0.0 q.0.more = attributes_first line q.0.attrs q.0.first s.0.0 a.0.0 None c.0.0 q.0.more s.0.1 q.0.are more in
    subst (λ r. IsRule line r (token ∷ tokens)) e.1 (record {
      target = token;
      body = tokens;
      first = q.0.first;
      behind = q.0.more;
      parts = parts.0;
      cut = refl;
      names = t;
      begins = q.0.begins;
      are = parts.1;
    })

pub rule_cut : (line : List ℕ) (rule : Rule) (tokens : List Token) → rule_of line tokens ≡ Ok rule → IsRule line rule tokens
unfolding rule_of
rule_cut line rule [] h = let none : ⊥ = cc in absurd none
rule_cut line rule (token ∷ tokens) h =
    let s = by_step (required (target_of (word_of line token)) NoTarget token.start) (λ target. parts_of line target tokens) rule h in
    parts_cut line s.0 rule token tokens (by_found (target_of (word_of line token)) NoTarget token.start s.0 s.1) s.2

pub rule_reads : (line : List ℕ) (rule : Rule) (tokens : List Token) → IsRule line rule tokens → rule_of line tokens ≡ Ok rule
unfolding rule_of parts_of
rule_reads line rule tokens i =
    let ending : Ending = end_of line in
    let r : Read line ending i.first rule.query rule.conds i.behind = parts_read line ending i.parts i.first rule.query rule.conds i.behind i.are in
    let q : IsQueryTo line r.middle i.body r.left = record { first = i.first; more = i.behind; attrs = r.attrs; begins = i.begins; are = r.are } in
    rw i.cut (rw i.names (rw (query_reads line ending r.middle i.body r.left q r.stops) (rw r.conds (rw r.more refl))))

-- ---- lines

lexed : (read : Lexed) (tokens : List Token) → read_by read ≡ Ok tokens → read ≡ Ok tokens
lexed (Ok found) tokens h = ap Ok (same_ok found tokens h)
lexed (Err (lexing.BadEscape place)) tokens h = let none : ⊥ = cc in absurd none
lexed (Err (lexing.OpenString place)) tokens h = let none : ⊥ = cc in absurd none
lexed (Err (lexing.BadByte place)) tokens h = let none : ⊥ = cc in absurd none

pub line_says : (line : List ℕ) (rule : Rule) → rule_read line ≡ Ok rule → Says line rule
line_says line rule h =
    let s = by_step (tokens_read line) (rule_of line) rule h in
    record { tokens = s.0; cut = read_good line s.0 (lexed (tokens_of line) s.0 s.1); is = rule_cut line rule s.0 s.2 }

pub says_line : (line : List ℕ) (rule : Rule) → Says line rule → rule_read line ≡ Ok rule
says_line line rule s = ap (λ r. on_ok (read_by r) (rule_of line)) (good_read line s.tokens s.cut) ∙ rule_reads line rule s.tokens s.is

pub line_asks : (line : List ℕ) (query : Query) → query_read line ≡ Ok query → Asks line query
line_asks line query h =
    let s = by_step (tokens_read line) (whole_query line) query h in
    record { tokens = s.0; cut = read_good line s.0 (lexed (tokens_of line) s.0 s.1); is = whole_cut line query s.0 s.2 }

pub asks_line : (line : List ℕ) (query : Query) → Asks line query → query_read line ≡ Ok query
asks_line line query s = ap (λ r. on_ok (read_by r) (whole_query line)) (good_read line s.tokens s.cut) ∙ whole_reads line query s.tokens s.is

pub well_formed : (rule : Rule) → WellFormed rule → (line : List ℕ) × (rule_read line ≡ Ok rule)
well_formed rule w = (w.line, says_line w.line rule w.says)

pub read_well : (rule : Rule) → (line : List ℕ) × (rule_read line ≡ Ok rule) → WellFormed rule
read_well rule r = record { line = r.0; says = line_says r.0 rule r.1 }
