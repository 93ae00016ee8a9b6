-- Attributes are read as the grammar cuts them.
use Rattle.std.proofs.Common.{◌≡◌, ℕ, zero, suc, ◌<◌, ◌≤◌, inl, inr, false, List, [], ◌∷◌, length, length-append, Option, Some, None, Ok, Err, refl, sym, ap, subst, ◌∙◌, arith}
use Rattle.ug_words.specs.declared.token.Token.{Token}
use Rattle.ug_types.specs.declared.rule.Query.{Query}
use Rattle.ug_types.specs.declared.rule.Values.{Values}
use Rattle.ug_rule.specs.declared.fault.Ending.{Ending}
use Rattle.ug_rule.specs.declared.fault.FaultKind.TheVariants.{BadValue, Repeated}
use Rattle.ug_words.specs.declared.keywords.Attr.{Attr}
use Rattle.ug_words.specs.declared.keywords.Attr.TheVariants as attr
use Rattle.ug_rule.specs.declared.queries.Named.{Named}
use Rattle.ug_rule.specs.Faults.{fault_at, on_ok}
use Rattle.ug_rule.specs.Grammar.{IsSet, IsValue, IsText, Tells, IsAttribute, AreAttributes, AllAttributes}
use Rattle.ug_words.specs.Keywords.{attribute_of}
use Rattle.ug_rule.specs.Queries.{is_attribute_given, with_attribute, attribute_once, name_by, attribute_name_of, attributes_from, attributes_of}
use Rattle.ug_rule.specs.Tokens.{word_of, first_word}
use Rattle.ug_rule.specs.Values.{id_in, interface_in, string_in, item_of, value_of, text_of}
use Rattle.ug_rule.proofs.Attributes.{named_first, ends}
use Rattle.ug_rule.proofs.Cases.{by_step, same_ok, by_found}
use Rattle.ug_words.proofs.Tests.{by_test}
use Rattle.ug_rule.proofs.ValueCuts.{value_cut, value_reads}

-- ---- one attribute

told : {X : Type 0} (line : List ℕ) (reads : Token → Option X) (ending : Ending) (put : Values X → Query) (next : Query) (tokens rest : List Token) → on_ok {Y = Query × List Token} (value_of line reads ending tokens) (λ p. Ok (put p.0, p.1)) ≡ Ok (next, rest) → (values : Values X) × IsValue line reads values tokens rest × (next ≡ put values)
told line reads ending put next tokens rest h =
    let s = by_step (value_of line reads ending tokens) (λ p. Ok (put p.0, p.1)) (next, rest) h in
    let e = same_ok (put s.0.0, s.0.1) (next, rest) s.2 in
    (s.0.0, subst (λ l. IsValue line reads s.0.0 tokens l) (ap (λ p. p.1) e) (value_cut line reads ending s.0.0 tokens s.0.1 s.1), sym (ap (λ p. p.0) e))

tells : {X : Type 0} (line : List ℕ) (reads : Token → Option X) (ending : Ending) (put : Values X → Query) (next : Query) (tokens rest : List Token) (values : Values X) → IsValue line reads values tokens rest → next ≡ put values → on_ok {Y = Query × List Token} (value_of line reads ending tokens) (λ p. Ok (put p.0, p.1)) ≡ Ok (next, rest)
tells line reads ending put next tokens rest values v e =
    ap (λ r. on_ok r (λ p. Ok (put p.0, p.1))) (value_reads line reads ending values tokens rest v) ∙ ap (λ q. Ok (q, rest)) (sym e)

text_told : (line : List ℕ) (ending : Ending) (text : List ℕ) (tokens rest : List Token) → text_of line ending tokens ≡ Ok (text, rest) → IsText text tokens rest
unfolding text_of
text_told line ending text [] rest h = let none : ⊥ = cc in absurd none
text_told line ending text (token ∷ tokens) rest h =
    let s = by_step (item_of (string_in line) token) (λ text. Ok (text, tokens)) (text, rest) h in
    let e = same_ok (s.0, tokens) (text, rest) s.2 in
    record { token = token; cut = ap (λ p. token ∷ p.1) e; says = by_found (string_in line token) BadValue token.start s.0 s.1 ∙ ap (λ p. Some p.0) e }

text_tells : (line : List ℕ) (ending : Ending) (text : List ℕ) (tokens rest : List Token) → IsText text tokens rest → text_of line ending tokens ≡ Ok (text, rest)
unfolding text_of
text_tells line ending text tokens rest t = rw t.cut (rw t.says refl)

pub attribute_told : (line : List ℕ) (ending : Ending) (attr : Attr) (query next : Query) (tokens rest : List Token) → with_attribute line ending attr query tokens ≡ Ok (next, rest) → Tells line attr query next tokens rest
unfolding with_attribute
attribute_told line ending attr.Id query next tokens rest h = told line (id_in line) ending (λ v. record query { id = Some v }) next tokens rest h
attribute_told line ending attr.Serial query next tokens rest h = told line (string_in line) ending (λ v. record query { serial = Some v }) next tokens rest h
attribute_told line ending attr.Name query next tokens rest h = told line (string_in line) ending (λ v. record query { name = Some v }) next tokens rest h
attribute_told line ending attr.Hash query next tokens rest h = told line (string_in line) ending (λ v. record query { hash = Some v }) next tokens rest h
attribute_told line ending attr.ParentHash query next tokens rest h = told line (string_in line) ending (λ v. record query { parent_hash = Some v }) next tokens rest h
attribute_told line ending attr.ViaPort query next tokens rest h = told line (string_in line) ending (λ v. record query { via_port = Some v }) next tokens rest h
attribute_told line ending attr.Interface query next tokens rest h = told line (interface_in line) ending (λ v. record query { interface = Some v }) next tokens rest h
attribute_told line ending attr.Connect query next tokens rest h = told line (string_in line) ending (λ v. record query { connect = Some v }) next tokens rest h
attribute_told line ending attr.Label query next tokens rest h =
    let s = by_step (text_of line ending tokens) (λ p. Ok (record query { label = Some p.0 }, p.1)) (next, rest) h in
    let e = same_ok (record query { label = Some s.0.0 }, s.0.1) (next, rest) s.2 in
    (s.0.0, subst (λ l. IsText s.0.0 tokens l) (ap (λ p. p.1) e) (text_told line ending s.0.0 tokens s.0.1 s.1), sym (ap (λ p. p.0) e))

attribute_tells : (line : List ℕ) (ending : Ending) (attr : Attr) (query next : Query) (tokens rest : List Token) → Tells line attr query next tokens rest → with_attribute line ending attr query tokens ≡ Ok (next, rest)
unfolding with_attribute
attribute_tells line ending attr.Id query next tokens rest t = tells line (id_in line) ending (λ v. record query { id = Some v }) next tokens rest t.0 t.1 t.2
attribute_tells line ending attr.Serial query next tokens rest t = tells line (string_in line) ending (λ v. record query { serial = Some v }) next tokens rest t.0 t.1 t.2
attribute_tells line ending attr.Name query next tokens rest t = tells line (string_in line) ending (λ v. record query { name = Some v }) next tokens rest t.0 t.1 t.2
attribute_tells line ending attr.Hash query next tokens rest t = tells line (string_in line) ending (λ v. record query { hash = Some v }) next tokens rest t.0 t.1 t.2
attribute_tells line ending attr.ParentHash query next tokens rest t = tells line (string_in line) ending (λ v. record query { parent_hash = Some v }) next tokens rest t.0 t.1 t.2
attribute_tells line ending attr.ViaPort query next tokens rest t = tells line (string_in line) ending (λ v. record query { via_port = Some v }) next tokens rest t.0 t.1 t.2
attribute_tells line ending attr.Interface query next tokens rest t = tells line (interface_in line) ending (λ v. record query { interface = Some v }) next tokens rest t.0 t.1 t.2
attribute_tells line ending attr.Connect query next tokens rest t = tells line (string_in line) ending (λ v. record query { connect = Some v }) next tokens rest t.0 t.1 t.2
attribute_tells line ending attr.Label query next tokens rest t =
    ap (λ r. on_ok r (λ p. Ok (record query { label = Some p.0 }, p.1))) (text_tells line ending t.0 tokens rest t.1) ∙ ap (λ q. Ok (q, rest)) (sym t.2)

-- ---- a value takes a token

set_shorter : {X : Type 0} (reads : Token → Option X) (items : List X) (tokens rest : List Token) → IsSet reads items tokens rest → length rest < length tokens
set_shorter reads items tokens rest s = omega (arith, ap length s.cut, length-append s.inner (s.brace ∷ rest))

pub value_shorter : {X : Type 0} (line : List ℕ) (reads : Token → Option X) (values : Values X) (tokens rest : List Token) → IsValue line reads values tokens rest → length rest < length tokens
value_shorter line reads values tokens rest (inl s) = omega (arith, ap length s.cut)
value_shorter line reads values tokens rest (inr (inl s)) = omega (arith, ap length s.cut, set_shorter reads s.items s.more rest s.set)
value_shorter line reads values tokens rest (inr (inr s)) = omega (arith, ap length s.cut, set_shorter reads s.items s.more rest s.set)

pub tells_shorter : (line : List ℕ) (attr : Attr) (query next : Query) (tokens rest : List Token) → Tells line attr query next tokens rest → length rest < length tokens
tells_shorter line attr.Id query next tokens rest t = value_shorter line (id_in line) t.0 tokens rest t.1
tells_shorter line attr.Serial query next tokens rest t = value_shorter line (string_in line) t.0 tokens rest t.1
tells_shorter line attr.Name query next tokens rest t = value_shorter line (string_in line) t.0 tokens rest t.1
tells_shorter line attr.Hash query next tokens rest t = value_shorter line (string_in line) t.0 tokens rest t.1
tells_shorter line attr.ParentHash query next tokens rest t = value_shorter line (string_in line) t.0 tokens rest t.1
tells_shorter line attr.ViaPort query next tokens rest t = value_shorter line (string_in line) t.0 tokens rest t.1
tells_shorter line attr.Interface query next tokens rest t = value_shorter line (interface_in line) t.0 tokens rest t.1
tells_shorter line attr.Connect query next tokens rest t = value_shorter line (string_in line) t.0 tokens rest t.1
tells_shorter line attr.Label query next tokens rest t = omega (arith, ap length t.1.cut)

-- ---- attributes

named_by_first : (line : List ℕ) (token : Token) (tokens : List Token) (attr : Attr) → attribute_of (word_of line token) ≡ Some attr → attribute_name_of line (token ∷ tokens) ≡ (Some (record { attr = attr; place = token.start }), tokens)
named_by_first line token tokens attr e = ap (λ o. name_by o token tokens) e

none_named : (line : List ℕ) (tokens : List Token) → attribute_of (first_word line tokens) ≡ None → attribute_name_of line tokens ≡ (None, tokens)
none_named line [] e = refl
none_named line (token ∷ tokens) e = ap (λ o. name_by o token tokens) e

pub no_word : (line : List ℕ) → attribute_of (first_word line []) ≡ None
unfolding attribute_of
no_word line = refl

abbrev AllTold : ℕ → List ℕ → Ending → Type 0
AllTold n line ending = (query all : Query) (tokens rest : List Token) → length tokens ≤ n → attributes_from n line ending query tokens ≡ Ok (all, rest) → AllAttributes line query all tokens rest

last_told : (n : ℕ) (line : List ℕ) (ending : Ending) (query all : Query) (tokens rest : List Token) → length tokens ≤ n → attribute_of (first_word line tokens) ≡ None → attributes_from n line ending query tokens ≡ Ok (all, rest) → AllAttributes line query all tokens rest
last_told n line ending query all tokens rest h e q =
    let s = same_ok (all, rest) (query, tokens) (ends n line ending query tokens tokens (Ok (all, rest)) (none_named line tokens e) h q) in
    let r : tokens ≡ rest = sym (ap (λ p. p.1) s) in
    record { attrs = []; are = (ap (λ p. p.0) s, r); last = ap (λ l. attribute_of (first_word line l)) (sym r) ∙ e }

one_told : (n : ℕ) (line : List ℕ) (ending : Ending) (query next all : Query) (attr : Attr) (token : Token) (tokens left rest : List Token) → AllTold n line ending → length tokens ≤ n → attribute_of (word_of line token) ≡ Some attr → is_attribute_given attr query ≡ false → with_attribute line ending attr query tokens ≡ Ok (next, left) → attributes_from n line ending next left ≡ Ok (all, rest) → AllAttributes line query all (token ∷ tokens) rest
one_told n line ending query next all attr token tokens left rest again h e f w q =
    let t : Tells line attr query next tokens left = attribute_told line ending attr query next tokens left w in
    let a : AllAttributes line next all left rest = again next all left rest (omega (arith, h, tells_shorter line attr query next tokens left t)) q in
    record {
      attrs = attr ∷ a.attrs;
      are = (next, left, record { name = token; more = tokens; cut = refl; names = e; once = f; tells = t }, a.are);
      last = a.last;
    }

some_told : (n : ℕ) (line : List ℕ) (ending : Ending) (query all : Query) (attr : Attr) (token : Token) (tokens rest : List Token) → AllTold n line ending → length tokens ≤ n → attribute_of (word_of line token) ≡ Some attr → attributes_from (suc n) line ending query (token ∷ tokens) ≡ Ok (all, rest) → AllAttributes line query all (token ∷ tokens) rest
some_told n line ending query all attr token tokens rest again h e q =
    let named : Named = record { attr = attr; place = token.start } in
    let s = by_step (attribute_once line ending named query tokens) (λ p. attributes_from n line ending p.0 p.1) (all, rest) (sym (named_first n line ending query (token ∷ tokens) tokens named (named_by_first line token tokens attr e)) ∙ q) in
    elim (by_test (is_attribute_given attr query) (Err (fault_at Repeated token.start)) (with_attribute line ending attr query tokens) (Ok s.0) s.1) [
      | inl p ↦ let none : ⊥ = cc in absurd none
      | inr p ↦ one_told n line ending query s.0.0 all attr token tokens s.0.1 rest again h e p.0 p.1 s.2
    ]

all_told : (n : ℕ) (line : List ℕ) (ending : Ending) → AllTold n line ending
all_told n line ending query all [] rest h q = last_told n line ending query all [] rest h (no_word line) q
all_told zero line ending query all (token ∷ tokens) rest h q = absurd (omega (arith, h))
all_told (suc n) line ending query all (token ∷ tokens) rest h q =
    let G : Option Attr → Type 0 = λ o. attribute_of (word_of line token) ≡ o → AllAttributes line query all (token ∷ tokens) rest in
    let g : (o : Option Attr) → G o = λ o. elim o as G [
      | None ↦ λ e. last_told (suc n) line ending query all (token ∷ tokens) rest h e q
      | Some attr ↦ λ e. some_told n line ending query all attr token tokens rest (all_told n line ending) (omega (arith, h)) e q
    ] in
    g (attribute_of (word_of line token)) refl

pub attributes_cut : (line : List ℕ) (ending : Ending) (query all : Query) (tokens rest : List Token) → attributes_of line ending query tokens ≡ Ok (all, rest) → AllAttributes line query all tokens rest
attributes_cut line ending query all tokens rest h = all_told (length tokens) line ending query all tokens rest (omega arith) h

all_read : (n : ℕ) (line : List ℕ) (ending : Ending) (attrs : List Attr) (query all : Query) (tokens rest : List Token) → length tokens ≤ n → AreAttributes line attrs query all tokens rest → attribute_of (first_word line rest) ≡ None → attributes_from n line ending query tokens ≡ Ok (all, rest)
all_read n line ending [] query all tokens rest h a e =
    let f : attribute_of (first_word line tokens) ≡ None = ap (λ l. attribute_of (first_word line l)) a.1 ∙ e in
    ends n line ending query tokens tokens (attributes_from n line ending query tokens) (none_named line tokens f) h refl
    ∙ ap (λ q. Ok (q, tokens)) (sym a.0) ∙ ap (λ l. Ok (all, l)) a.1
all_read zero line ending (attr ∷ attrs) query all tokens rest h a e = absurd (omega (arith, h, ap length a.2.cut))
all_read (suc n) line ending (attr ∷ attrs) query all tokens rest h a e =
    let one : IsAttribute line attr query a.0 tokens a.1 = a.2 in
    let named : Named = record { attr = attr; place = one.name.start } in
    let first : attribute_name_of line tokens ≡ (Some named, one.more) = ap (attribute_name_of line) one.cut ∙ named_by_first line one.name one.more attr one.names in
    let given : attribute_once line ending named query one.more ≡ Ok (a.0, a.1) = rw one.once (attribute_tells line ending attr query a.0 one.more a.1 one.tells) in
    let less : length a.1 ≤ n = omega (arith, h, ap length one.cut, tells_shorter line attr query a.0 one.more a.1 one.tells) in
    named_first n line ending query tokens one.more named first
    ∙ ap (λ r. on_ok r (λ p. attributes_from n line ending p.0 p.1)) given
    ∙ all_read n line ending attrs a.0 all a.1 rest less a.3 e

pub attributes_read : (line : List ℕ) (ending : Ending) (query all : Query) (tokens rest : List Token) → AllAttributes line query all tokens rest → attributes_of line ending query tokens ≡ Ok (all, rest)
attributes_read line ending query all tokens rest a = all_read (length tokens) line ending a.attrs query all tokens rest (omega arith) a.are a.last
