-- A value is read as the grammar cuts it.
use Rattle.std.proofs.Common.{◌≡◌, ℕ, ◌<◌, inl, inr, true, false, List, [], ◌∷◌, ◌++◌, length, Option, Some, None, Ok, Err, refl, sym, ap, subst, ◌∙◌, append_assoc, arith}
use Rattle.std.proofs.lemmas.List.{append-nil}
use Rattle.ug_words.specs.declared.token.Token.{Token}
use Rattle.ug_types.specs.declared.rule.Op.{Op}
use Rattle.ug_types.specs.declared.rule.Op.TheVariants.{Equals}
use Rattle.ug_types.specs.declared.rule.Values.{Values}
use Rattle.ug_rule.specs.declared.fault.Ending.{Ending}
use Rattle.ug_rule.specs.declared.fault.FaultKind.TheVariants.{BadValue}
use Rattle.ug_rule.specs.Faults.{fault_at, on_ok, within}
use Rattle.ug_rule.specs.Grammar.{AreItems, IsSet, IsSingle, IsOperatorSet, IsValue}
use Rattle.ug_words.specs.Keywords.{operator_of}
use Rattle.ug_rule.specs.Tokens.{word_of, is_open, is_close}
use Rattle.ug_rule.specs.Values.{item_of, some_items, items_of, valued, set_of, brace_of, behind_operator, single_of, value_behind, value_of}
use Rattle.ug_rule.proofs.Cases.{by_step, same_ok, by_found}
use Rattle.ug_words.proofs.Tests.{by_test}

-- ---- sets

-- items behind those before them, up to a closing brace
record Ends {X : Type 0} (reads : Token → Option X) (before all : List X) (tokens rest : List Token) : Type 0 where
  items : List X
  inner : List Token
  brace : Token
  cut : tokens ≡ inner ++ brace ∷ rest
  closes : is_close brace.kind ≡ true
  says : AreItems reads inner items
  is : all ≡ before ++ items
  some : 0 < length all

filled_ends : {X : Type 0} (reads : Token → Option X) (before all : List X) (brace : Token) (tokens rest : List Token) → is_close brace.kind ≡ true → some_items before brace.start tokens ≡ Ok (all, rest) → Ends reads before all (brace ∷ tokens) rest
filled_ends reads [] all brace tokens rest c h = let none : ⊥ = cc in absurd none
filled_ends reads (item ∷ before) all brace tokens rest c h =
    let e = same_ok (item ∷ before, tokens) (all, rest) h in
    let a : item ∷ before ≡ all = ap (λ p. p.0) e in
    record {
      items = [];
      inner = [];
      brace = brace;
      cut = ap (λ p. brace ∷ p.1) e;
      closes = c;
      says = tt;
      is = sym a ∙ sym (append-nil (item ∷ before));
      some = omega (arith, ap length a);
    }

longer : {X : Type 0} (reads : Token → Option X) (before all : List X) (item : X) (token : Token) (tokens rest : List Token) → is_close token.kind ≡ false → reads token ≡ Some item → Ends reads (before ++ item ∷ []) all tokens rest → Ends reads before all (token ∷ tokens) rest
longer reads before all item token tokens rest c r e = record {
  items = item ∷ e.items;
  inner = token ∷ e.inner;
  brace = e.brace;
  cut = ap (λ l. token ∷ l) e.cut;
  closes = e.closes;
  says = (c, r, e.says);
  is = e.is ∙ append_assoc before (item ∷ []) e.items;
  some = e.some;
}

items_end : {X : Type 0} (reads : Token → Option X) (ending : Ending) (before all : List X) (tokens rest : List Token) → items_of reads ending before tokens ≡ Ok (all, rest) → Ends reads before all tokens rest
unfolding items_of
items_end reads ending before all [] rest h = let none : ⊥ = cc in absurd none
items_end reads ending before all (token ∷ tokens) rest h = elim (by_test (is_close token.kind) (some_items before token.start tokens) (on_ok (item_of reads token) (λ item. items_of reads ending (before ++ item ∷ []) tokens)) (Ok (all, rest)) h) [
  | inl p ↦ filled_ends reads before all token tokens rest p.0 p.1
  | inr p ↦
      let s = by_step (item_of reads token) (λ item. items_of reads ending (before ++ item ∷ []) tokens) (all, rest) p.1 in
      longer reads before all s.0 token tokens rest p.0 (by_found (reads token) BadValue token.start s.0 s.1) (items_end reads ending (before ++ s.0 ∷ []) all tokens rest s.2)
]

pub filled_some : {X : Type 0} (all : List X) (place : ℕ) (rest : List Token) → 0 < length all → some_items all place rest ≡ Ok (all, rest)
filled_some [] place rest h = absurd (omega arith)
filled_some (item ∷ items) place rest h = refl

set_read : {X : Type 0} (reads : Token → Option X) (ending : Ending) (before items : List X) (inner : List Token) (brace : Token) (rest : List Token) → AreItems reads inner items → is_close brace.kind ≡ true → 0 < length (before ++ items) → items_of reads ending before (inner ++ brace ∷ rest) ≡ Ok (before ++ items, rest)
unfolding items_of
set_read reads ending before [] [] brace rest a c h =
    let all : before ++ [] ≡ before = append-nil before in
    rw c (filled_some before brace.start rest (omega (arith, h, ap length all)) ∙ ap (λ l. Ok (l, rest)) (sym all))
set_read reads ending before (item ∷ items) [] brace rest a c h = absurd a
set_read reads ending before [] (token ∷ inner) brace rest a c h = absurd a
set_read reads ending before (item ∷ items) (token ∷ inner) brace rest a c h =
    let all : (before ++ item ∷ []) ++ items ≡ before ++ item ∷ items = append_assoc before (item ∷ []) items in
    let more : 0 < length ((before ++ item ∷ []) ++ items) = omega (arith, h, ap length all) in
    rw a.0 (rw a.1 (set_read reads ending (before ++ item ∷ []) items inner brace rest a.2 c more ∙ ap (λ l. Ok (l, rest)) all))

-- ---- values

set_cut : {X : Type 0} (reads : Token → Option X) (ending : Ending) (op : Op) (values : Values X) (tokens rest : List Token) → set_of reads ending op tokens ≡ Ok (values, rest) → (items : List X) × IsSet reads items tokens rest × (values ≡ valued op items)
set_cut reads ending op values tokens rest h =
    let s = by_step (items_of reads ending [] tokens) (λ p. Ok (valued op p.0, p.1)) (values, rest) h in
    let e = same_ok (valued op s.0.0, s.0.1) (values, rest) s.2 in
    let d : Ends reads [] s.0.0 tokens s.0.1 = items_end reads ending [] s.0.0 tokens s.0.1 s.1 in
    let r : s.0.1 ≡ rest = ap (λ p. p.1) e in (
      s.0.0,
      record {
        inner = d.inner;
        brace = d.brace;
        cut = d.cut ∙ ap (λ l. d.inner ++ d.brace ∷ l) r;
        closes = d.closes;
        says = subst (AreItems reads d.inner) (sym d.is) d.says;
        some = d.some;
      },
      sym (ap (λ p. p.0) e),
    )

set_reads : {X : Type 0} (reads : Token → Option X) (ending : Ending) (op : Op) (values : Values X) (items : List X) (tokens rest : List Token) → IsSet reads items tokens rest → values ≡ valued op items → set_of reads ending op tokens ≡ Ok (values, rest)
set_reads reads ending op values items tokens rest s e =
    ap (set_of reads ending op) s.cut
    ∙ ap (λ r. on_ok r (λ p. Ok (valued op p.0, p.1))) (set_read reads ending [] items s.inner s.brace rest s.says s.closes s.some)
    ∙ ap (λ v. Ok (v, rest)) (sym e)

single_cut : {X : Type 0} (line : List ℕ) (reads : Token → Option X) (values : Values X) (token : Token) (tokens rest : List Token) → is_open token.kind ≡ false → operator_of (word_of line token) ≡ None → single_of reads token tokens ≡ Ok (values, rest) → IsSingle line reads values (token ∷ tokens) rest
single_cut line reads values token tokens rest p w h =
    let s = by_step (item_of reads token) (λ item. Ok (valued Equals (item ∷ []), tokens)) (values, rest) h in
    let e = same_ok (valued Equals (s.0 ∷ []), tokens) (values, rest) s.2 in
    record {
      token = token;
      item = s.0;
      cut = ap (λ p. token ∷ p.1) e;
      plain = p;
      word = w;
      says = by_found (reads token) BadValue token.start s.0 s.1;
      is = sym (ap (λ p. p.0) e);
    }

operator_cut : {X : Type 0} (line : List ℕ) (reads : Token → Option X) (ending : Ending) (op : Op) (values : Values X) (token : Token) (tokens rest : List Token) → is_open token.kind ≡ false → operator_of (word_of line token) ≡ Some op → behind_operator reads ending op tokens ≡ Ok (values, rest) → IsOperatorSet line reads values (token ∷ tokens) rest
operator_cut line reads ending op values token [] rest p w h = let none : ⊥ = cc in absurd none
operator_cut line reads ending op values token (brace ∷ tokens) rest p w h =
    let s = by_step (brace_of BadValue ending (brace ∷ tokens)) (λ p. set_of reads (within p.0 ending) op p.1) (values, rest) h in
    elim (by_test (is_open brace.kind) (Ok (brace.start, tokens)) (Err (fault_at BadValue brace.start)) (Ok s.0) s.1) [
      | inl q ↦
          let e = same_ok (brace.start, tokens) s.0 q.1 in
          let c = set_cut reads (within s.0.0 ending) op values tokens rest (ap (λ l. set_of reads (within s.0.0 ending) op l) (ap (λ p. p.1) e) ∙ s.2) in
          record { word = token; brace = brace; op = op; items = c.0; more = tokens; cut = refl; plain = p; names = w; opens = q.0; set = c.1; is = c.2 }
      | inr q ↦ let none : ⊥ = cc in absurd none
    ]

pub value_cut : {X : Type 0} (line : List ℕ) (reads : Token → Option X) (ending : Ending) (values : Values X) (tokens rest : List Token) → value_of line reads ending tokens ≡ Ok (values, rest) → IsValue line reads values tokens rest
unfolding value_of
value_cut line reads ending values [] rest h = let none : ⊥ = cc in absurd none
value_cut {X} line reads ending values (token ∷ tokens) rest h = elim (by_test (is_open token.kind) (set_of reads (within token.start ending) Equals tokens) (value_behind reads ending (operator_of (word_of line token)) token tokens) (Ok (values, rest)) h) [
  | inl p ↦
      let c = set_cut reads (within token.start ending) Equals values tokens rest p.1 in
      inr (inl (record { brace = token; items = c.0; more = tokens; cut = refl; opens = p.0; set = c.1; is = c.2 }))
  | inr p ↦ by (operator_of (word_of line token)) refl p.0 p.1
]
  where
    by : (o : Option Op) → operator_of (word_of line token) ≡ o → is_open token.kind ≡ false → value_behind reads ending o token tokens ≡ Ok (values, rest) → IsValue line reads values (token ∷ tokens) rest
    by None w p k = inl (single_cut line reads values token tokens rest p w k)
    by (Some op) w p k = inr (inr (operator_cut line reads ending op values token tokens rest p w k))

pub value_reads : {X : Type 0} (line : List ℕ) (reads : Token → Option X) (ending : Ending) (values : Values X) (tokens rest : List Token) → IsValue line reads values tokens rest → value_of line reads ending tokens ≡ Ok (values, rest)
unfolding value_of
value_reads line reads ending values tokens rest (inl s) = rw s.cut (rw s.plain (rw s.word (rw s.says (ap (λ v. Ok (v, rest)) (sym s.is)))))
value_reads line reads ending values tokens rest (inr (inl s)) = rw s.cut (rw s.opens (set_reads reads (within s.brace.start ending) Equals values s.items s.more rest s.set s.is))
value_reads line reads ending values tokens rest (inr (inr s)) = rw s.cut (rw s.plain (rw s.names (rw s.opens (set_reads reads (within s.brace.start ending) s.op values s.items s.more rest s.set s.is))))
