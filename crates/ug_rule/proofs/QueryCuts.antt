-- Queries are read as the grammar cuts them.
use Rattle.std.proofs.Common.{◌≡◌, ℕ, ◌≤◌, inl, inr, true, List, [], ◌∷◌, length, None, Ok, refl, sym, ap, ◌∙◌, arith}
use Rattle.ug_words.specs.declared.token.Token.{Token}
use Rattle.ug_types.specs.declared.rule.Op.TheVariants.{Equals}
use Rattle.ug_types.specs.declared.rule.Query.{Query}
use Rattle.ug_rule.specs.declared.fault.Ending.{Ending}
use Rattle.ug_rule.specs.declared.fault.FaultKind.TheVariants.{BadValue}
use Rattle.ug_words.specs.declared.keywords.Attr.{Attr}
use Rattle.ug_rule.specs.Faults.{on_ok}
use Rattle.ug_rule.specs.Grammar.{AreAttributes, AllAttributes, BeginsQuery, IsQueryTo}
use Rattle.ug_words.specs.Keywords.{attribute_of}
use Rattle.ug_rule.specs.Queries.{no_query, has_colon, id_query, attributes_of, bare_at, bare_of, query_of}
use Rattle.ug_rule.specs.Tokens.{word_of, first_word}
use Rattle.ug_rule.specs.Values.{id_in, item_of, valued, single_of}
use Rattle.ug_rule.proofs.AttributeCuts.{attributes_cut, attributes_read, tells_shorter}
use Rattle.ug_rule.proofs.Cases.{by_step, same_ok, by_found}
use Rattle.ug_words.proofs.Tests.{by_test}

-- ---- the id in front

bare_at_cut : (line : List ℕ) (query : Query) (token : Token) (tokens rest : List Token) → has_colon (word_of line token) ≡ true → bare_at line (token ∷ tokens) ≡ Ok (query, rest) → BeginsQuery line query (token ∷ tokens) rest
bare_at_cut line query token tokens rest c h =
    let s = by_step (single_of (id_in line) token tokens) (λ p. Ok (id_query p.0, p.1)) (query, rest) h in
    let t = by_step (item_of (id_in line) token) (λ item. Ok (valued Equals (item ∷ []), tokens)) s.0 s.1 in
    let values : (valued Equals (t.0 ∷ []), tokens) ≡ s.0 = same_ok (valued Equals (t.0 ∷ []), tokens) s.0 t.2 in
    let e : (id_query s.0.0, s.0.1) ≡ (query, rest) = same_ok (id_query s.0.0, s.0.1) (query, rest) s.2 in
    inl (record {
      token = token;
      id = t.0;
      cut = ap (λ p. token ∷ p.1) values ∙ ap (λ p. token ∷ p.1) e;
      colon = c;
      says = by_found (id_in line token) BadValue token.start t.0 t.1;
      is = sym (ap (λ p. p.0) e) ∙ ap (λ p. id_query p.0) (sym values);
    })

pub bare_cut : (line : List ℕ) (query : Query) (tokens rest : List Token) → bare_of line tokens ≡ Ok (query, rest) → BeginsQuery line query tokens rest
unfolding bare_of
bare_cut line query [] rest h =
    let e : (no_query, []) ≡ (query, rest) = same_ok (no_query, []) (query, rest) h in
    inr (refl, sym (ap (λ p. p.0) e), ap (λ p. p.1) e)
bare_cut line query (token ∷ tokens) rest h = elim (by_test (has_colon (word_of line token)) (bare_at line (token ∷ tokens)) (Ok (no_query, token ∷ tokens)) (Ok (query, rest)) h) [
  | inl p ↦ bare_at_cut line query token tokens rest p.0 p.1
  | inr p ↦
      let e : (no_query, token ∷ tokens) ≡ (query, rest) = same_ok (no_query, token ∷ tokens) (query, rest) p.1 in
      inr (p.0, sym (ap (λ p. p.0) e), ap (λ p. p.1) e)
]

pub bare_reads : (line : List ℕ) (query : Query) (tokens rest : List Token) → BeginsQuery line query tokens rest → bare_of line tokens ≡ Ok (query, rest)
unfolding bare_of
bare_reads line query tokens rest (inl b) = rw b.cut (rw b.colon (rw b.says (ap (λ q. Ok (q, rest)) (sym b.is))))
bare_reads line query tokens rest (inr b) = rw b.0 (ap (λ q. Ok (q, tokens)) (sym b.1) ∙ ap (λ l. Ok (query, l)) b.2)

-- ---- queries

pub query_cut : (line : List ℕ) (ending : Ending) (query : Query) (tokens rest : List Token) → query_of line ending tokens ≡ Ok (query, rest) → IsQueryTo line query tokens rest × (attribute_of (first_word line rest) ≡ None)
unfolding query_of
query_cut line ending query tokens rest h =
    let s = by_step (bare_of line tokens) (λ p. attributes_of line ending p.0 p.1) (query, rest) h in
    let a : AllAttributes line s.0.0 query s.0.1 rest = attributes_cut line ending s.0.0 query s.0.1 rest s.2 in
    (record { first = s.0.0; more = s.0.1; attrs = a.attrs; begins = bare_cut line s.0.0 tokens s.0.1 s.1; are = a.are }, a.last)

pub query_reads : (line : List ℕ) (ending : Ending) (query : Query) (tokens rest : List Token) → IsQueryTo line query tokens rest → attribute_of (first_word line rest) ≡ None → query_of line ending tokens ≡ Ok (query, rest)
unfolding query_of
query_reads line ending query tokens rest q e =
    ap (λ r. on_ok r (λ p. attributes_of line ending p.0 p.1)) (bare_reads line q.first tokens q.more q.begins)
    ∙ attributes_read line ending q.first query q.more rest (record { attrs = q.attrs; are = q.are; last = e })

-- ---- a query takes no token away from those behind it

attributes_shorter : (line : List ℕ) (attrs : List Attr) (query all : Query) (tokens rest : List Token) → AreAttributes line attrs query all tokens rest → length rest ≤ length tokens
attributes_shorter line [] query all tokens rest a = omega (arith, ap length a.1)
attributes_shorter line (attr ∷ attrs) query all tokens rest a =
    omega (arith, ap length a.2.cut, tells_shorter line attr query a.0 a.2.more a.1 a.2.tells, attributes_shorter line attrs a.0 all a.1 rest a.3)

begins_shorter : (line : List ℕ) (query : Query) (tokens rest : List Token) → BeginsQuery line query tokens rest → length rest ≤ length tokens
begins_shorter line query tokens rest (inl b) = omega (arith, ap length b.cut)
begins_shorter line query tokens rest (inr b) = omega (arith, ap length b.2)

pub query_shorter : (line : List ℕ) (query : Query) (tokens rest : List Token) → IsQueryTo line query tokens rest → length rest ≤ length tokens
query_shorter line query tokens rest q = omega (arith, begins_shorter line q.first tokens q.more q.begins, attributes_shorter line q.attrs q.first query q.more rest q.are)
