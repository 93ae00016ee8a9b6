-- Sets of conditions are read as the grammar cuts them.
use Rattle.std.proofs.Common.{◌≡◌, ℕ, zero, suc, ◌<◌, ◌≤◌, inl, inr, true, false, List, [], ◌∷◌, ◌++◌, length, Option, Some, None, Ok, Err, refl, sym, ap, subst, ◌∙◌, append_assoc, arith}
use Rattle.std.proofs.lemmas.List.{append-nil}
use Rattle.ug_words.specs.declared.token.Token.{Token}
use Rattle.ug_types.specs.declared.rule.Cond.{Cond}
use Rattle.ug_types.specs.declared.rule.Conds.{Conds}
use Rattle.ug_types.specs.declared.rule.Op.{Op}
use Rattle.ug_types.specs.declared.rule.Op.TheVariants.{Equals}
use Rattle.ug_rule.specs.declared.fault.Ending.{Ending}
use Rattle.ug_rule.specs.declared.fault.FaultKind.TheVariants.{BadCondition}
use Rattle.ug_rule.specs.Conditions.{condition_from, conds_from, conditions_joined, cond_set_of, set_behind, single_of, conditions_behind, conditions_of}
use Rattle.ug_rule.specs.Faults.{fault_at, within, on_ok}
use Rattle.ug_rule.specs.Grammar.{IsCondition, AreConditions, IsCondSet, IsOneCondition, IsOperatorConds, IsConditions}
use Rattle.ug_words.specs.Keywords.{operator_of}
use Rattle.ug_rule.specs.Tokens.{word_of, is_open, is_close}
use Rattle.ug_rule.specs.Values.{some_items, brace_of}
use Rattle.ug_rule.proofs.Cases.{by_step, same_ok}
use Rattle.ug_words.proofs.Tests.{by_test}
use Rattle.ug_rule.proofs.CondSets.{behind}
use Rattle.ug_rule.proofs.ConditionCuts.{Reads, condition_cut, condition_reads}
use Rattle.ug_rule.proofs.Marks.{operator_word}
use Rattle.ug_rule.proofs.ValueCuts.{filled_some}

-- ---- sets

-- conditions behind those before them, up to a closing brace
record Ends (line : List ℕ) (before all : List Cond) (tokens rest : List Token) : Type 0 where
  conds : List Cond
  brace : Token
  are : AreConditions line conds tokens (brace ∷ rest)
  closes : is_close brace.kind ≡ true
  is : all ≡ before ++ conds
  some : 0 < length all

filled_ends : (line : List ℕ) (before all : List Cond) (brace : Token) (tokens rest : List Token) → is_close brace.kind ≡ true → some_items before brace.start tokens ≡ Ok (all, rest) → Ends line before all (brace ∷ tokens) rest
filled_ends line [] all brace tokens rest c h = let none : ⊥ = cc in absurd none
filled_ends line (cond ∷ before) all brace tokens rest c h =
    let e = same_ok (cond ∷ before, tokens) (all, rest) h in
    let a : cond ∷ before ≡ all = ap (λ p. p.0) e in
    record {
      conds = [];
      brace = brace;
      are = ap (λ p. brace ∷ p.1) e;
      closes = c;
      is = sym a ∙ sym (append-nil (cond ∷ before));
      some = omega (arith, ap length a);
    }

longer : (line : List ℕ) (before all : List Cond) (cond : Cond) (tokens left rest : List Token) → IsCondition line cond tokens left → Ends line (before ++ cond ∷ []) all left rest → Ends line before all tokens rest
longer line before all cond tokens left rest c e = record {
  conds = cond ∷ e.conds;
  brace = e.brace;
  are = (left, c, e.are);
  closes = e.closes;
  is = e.is ∙ append_assoc before (cond ∷ []) e.conds;
  some = e.some;
}

conds_end : (n : ℕ) (line : List ℕ) (ending : Ending) (before all : List Cond) (tokens rest : List Token) → conds_from n line ending before tokens ≡ Ok (all, rest) → Ends line before all tokens rest
unfolding conds_from
conds_end zero line ending before all [] rest h = let none : ⊥ = cc in absurd none
conds_end zero line ending before all (token ∷ tokens) rest h = let none : ⊥ = cc in absurd none
conds_end (suc n) line ending before all [] rest h = let none : ⊥ = cc in absurd none
conds_end (suc n) line ending before all (token ∷ tokens) rest h = elim (by_test (is_close token.kind) (some_items before token.start tokens) (on_ok (condition_from line ending token tokens) (λ p. conds_from n line ending (before ++ p.0 ∷ []) p.1)) (Ok (all, rest)) h) [
  | inl p ↦ filled_ends line before all token tokens rest p.0 p.1
  | inr p ↦
      let s = by_step (condition_from line ending token tokens) (λ p. conds_from n line ending (before ++ p.0 ∷ []) p.1) (all, rest) p.1 in
      longer line before all s.0.0 (token ∷ tokens) s.0.1 rest (condition_cut line ending s.0.0 token tokens s.0.1 s.1) (conds_end n line ending (before ++ s.0.0 ∷ []) all s.0.1 rest s.2)
]

conds_read : (n : ℕ) (line : List ℕ) (ending : Ending) (before conds : List Cond) (brace : Token) (tokens rest : List Token) → length tokens ≤ n → AreConditions line conds tokens (brace ∷ rest) → is_close brace.kind ≡ true → 0 < length (before ++ conds) → conds_from n line ending before tokens ≡ Ok (before ++ conds, rest)
conds_read zero line ending before [] brace tokens rest l a c h = absurd (omega (arith, l, ap length a))
conds_read (suc n) line ending before [] brace tokens rest l a c h =
    let all : before ++ [] ≡ before = append-nil before in
    behind n line ending before tokens brace rest a
    ∙ rw c (filled_some before brace.start rest (omega (arith, h, ap length all)) ∙ ap (λ l. Ok (l, rest)) (sym all))
conds_read zero line ending before (cond ∷ conds) brace tokens rest l a c h =
    let r : Reads line ending cond tokens a.0 = condition_reads line ending cond tokens a.0 a.1 in
    absurd (omega (arith, l, ap length r.cut))
conds_read (suc n) line ending before (cond ∷ conds) brace tokens rest l a c h =
    let r : Reads line ending cond tokens a.0 = condition_reads line ending cond tokens a.0 a.1 in
    let all : (before ++ cond ∷ []) ++ conds ≡ before ++ cond ∷ conds = append_assoc before (cond ∷ []) conds in
    let more : 0 < length ((before ++ cond ∷ []) ++ conds) = omega (arith, h, ap length all) in
    let less : length a.0 ≤ n = omega (arith, l, ap length r.cut, r.less) in
    behind n line ending before tokens r.token r.more r.cut
    ∙ rw r.no_close (rw r.reads (conds_read n line ending (before ++ cond ∷ []) conds brace a.0 rest less a.2 c more ∙ ap (λ l. Ok (l, rest)) all))

set_cut : (line : List ℕ) (ending : Ending) (op : Op) (conds : Conds) (tokens rest : List Token) → cond_set_of line ending op tokens ≡ Ok (conds, rest) → (items : List Cond) × IsCondSet line items tokens rest × (conds ≡ conditions_joined op items)
unfolding cond_set_of
set_cut line ending op conds tokens rest h =
    let s = by_step (conds_from (length tokens) line ending [] tokens) (λ p. Ok (conditions_joined op p.0, p.1)) (conds, rest) h in
    let e : (conditions_joined op s.0.0, s.0.1) ≡ (conds, rest) = same_ok (conditions_joined op s.0.0, s.0.1) (conds, rest) s.2 in
    let d : Ends line [] s.0.0 tokens s.0.1 = conds_end (length tokens) line ending [] s.0.0 tokens s.0.1 s.1 in
    let a : AreConditions line d.conds tokens (d.brace ∷ rest) = subst (λ l. AreConditions line d.conds tokens (d.brace ∷ l)) (ap (λ p. p.1) e) d.are in (
      s.0.0,
      record { brace = d.brace; are = subst (λ l. AreConditions line l tokens (d.brace ∷ rest)) (sym d.is) a; closes = d.closes; some = d.some },
      sym (ap (λ p. p.0) e),
    )

set_reads : (line : List ℕ) (ending : Ending) (op : Op) (conds : Conds) (items : List Cond) (tokens rest : List Token) → IsCondSet line items tokens rest → conds ≡ conditions_joined op items → cond_set_of line ending op tokens ≡ Ok (conds, rest)
unfolding cond_set_of
set_reads line ending op conds items tokens rest s e =
    ap (λ r. on_ok r (λ p. Ok (conditions_joined op p.0, p.1))) (conds_read (length tokens) line ending [] items s.brace tokens rest (omega arith) s.are s.closes s.some)
    ∙ ap (λ c. Ok (c, rest)) (sym e)

-- ---- one condition or a set

single_cut : (line : List ℕ) (ending : Ending) (conds : Conds) (token : Token) (tokens rest : List Token) → single_of line ending token tokens ≡ Ok (conds, rest) → IsOneCondition line conds (token ∷ tokens) rest
single_cut line ending conds token tokens rest h =
    let s = by_step (condition_from line ending token tokens) (λ p. Ok (conditions_joined Equals (p.0 ∷ []), p.1)) (conds, rest) h in
    let e : (conditions_joined Equals (s.0.0 ∷ []), s.0.1) ≡ (conds, rest) = same_ok (conditions_joined Equals (s.0.0 ∷ []), s.0.1) (conds, rest) s.2 in
    record {
      cond = s.0.0;
      one = subst (λ l. IsCondition line s.0.0 (token ∷ tokens) l) (ap (λ p. p.1) e) (condition_cut line ending s.0.0 token tokens s.0.1 s.1);
      is = sym (ap (λ p. p.0) e);
    }

operator_cut : (line : List ℕ) (ending : Ending) (op : Op) (conds : Conds) (token : Token) (tokens rest : List Token) → operator_of (word_of line token) ≡ Some op → set_behind line ending op tokens ≡ Ok (conds, rest) → IsOperatorConds line conds (token ∷ tokens) rest
operator_cut line ending op conds token [] rest w h = let none : ⊥ = cc in absurd none
operator_cut line ending op conds token (brace ∷ tokens) rest w h =
    let s = by_step (brace_of BadCondition ending (brace ∷ tokens)) (λ p. cond_set_of line (within p.0 ending) op p.1) (conds, rest) h in
    elim (by_test (is_open brace.kind) (Ok (brace.start, tokens)) (Err (fault_at BadCondition brace.start)) (Ok s.0) s.1) [
      | inl q ↦
          let e = same_ok (brace.start, tokens) s.0 q.1 in
          let c = set_cut line (within s.0.0 ending) op conds tokens rest (ap (λ l. cond_set_of line (within s.0.0 ending) op l) (ap (λ p. p.1) e) ∙ s.2) in
          record { word = token; brace = brace; op = op; items = c.0; more = tokens; cut = refl; names = w; opens = q.0; set = c.1; is = c.2 }
      | inr q ↦ let none : ⊥ = cc in absurd none
    ]

pub conditions_cut : (line : List ℕ) (ending : Ending) (conds : Conds) (tokens rest : List Token) → conditions_of line ending tokens ≡ Ok (conds, rest) → IsConditions line conds tokens rest
unfolding conditions_of
conditions_cut line ending conds [] rest h = let none : ⊥ = cc in absurd none
conditions_cut line ending conds (token ∷ tokens) rest h = elim (by_test (is_open token.kind) (cond_set_of line (within token.start ending) Equals tokens) (conditions_behind line ending (operator_of (word_of line token)) token tokens) (Ok (conds, rest)) h) [
  | inl p ↦
      let c = set_cut line (within token.start ending) Equals conds tokens rest p.1 in
      inr (inl (record { brace = token; items = c.0; more = tokens; cut = refl; opens = p.0; set = c.1; is = c.2 }))
  | inr p ↦ by (operator_of (word_of line token)) refl p.1
]
  where
    by : (o : Option Op) → operator_of (word_of line token) ≡ o → conditions_behind line ending o token tokens ≡ Ok (conds, rest) → IsConditions line conds (token ∷ tokens) rest
    by None w k = inl (single_cut line ending conds token tokens rest k)
    by (Some op) w k = inr (inr (operator_cut line ending op conds token tokens rest w k))

pub conditions_read : (line : List ℕ) (ending : Ending) (conds : Conds) (tokens rest : List Token) → IsConditions line conds tokens rest → conditions_of line ending tokens ≡ Ok (conds, rest)
unfolding conditions_of
conditions_read line ending conds tokens rest (inl s) =
    let r : Reads line ending s.cond tokens rest = condition_reads line ending s.cond tokens rest s.one in
    rw r.cut (rw r.no_open (rw r.no_operator (rw r.reads (ap (λ c. Ok (c, rest)) (sym s.is)))))
conditions_read line ending conds tokens rest (inr (inl s)) = rw s.cut (rw s.opens (set_reads line (within s.brace.start ending) Equals conds s.items s.more rest s.set s.is))
conditions_read line ending conds tokens rest (inr (inr s)) =
    let plain : is_open s.word.kind ≡ false = rw (operator_word line s.word s.op s.names) refl in
    rw s.cut (rw plain (rw s.names (rw s.opens (set_reads line (within s.brace.start ending) s.op conds s.items s.more rest s.set s.is))))
