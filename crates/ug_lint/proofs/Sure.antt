-- Conditions of which it is certain that they hold or that they don't.
use Rattle.std.proofs.Common.{◌≡◌, ℕ, zero, suc, ◌<◌, ◌^◌, ◌+◌, List, [], ◌∷◌, Bool, true, false, not, ◌&&◌, ◌||◌, cond, drop, Option, Some, None, arith, refl, sym, ap, subst, inl, inr, ◌⊎◌}
use Rattle.std.specs.List.{list_all, list_any}
use Rattle.std.specs.Prelude.{slice_index}
use Rattle.std.proofs.lemmas.Bool.Decides.{Decides-eqb}
use Rattle.rand_core.specs.Stream.{Stream, next_u64}
use Rattle.ug_types.specs.declared.record.DeviceRecord.{DeviceRecord}
use Rattle.ug_types.specs.declared.rule.Cond.{Cond}
use Rattle.ug_types.specs.declared.rule.CondKind.{CondKind}
use Rattle.ug_types.specs.declared.rule.CondKind.TheVariants as kind
use Rattle.ug_types.specs.declared.rule.Conds.{Conds}
use Rattle.ug_types.specs.declared.rule.Op.{Op}
use Rattle.ug_types.specs.declared.rule.Op.TheVariants.{AllOf, OneOf, NoneOf, Equals, EqualsOrdered}
use Rattle.ug_cond.specs.declared.context.Context.{Context}
use Rattle.ug_cond.specs.declared.history.History.{History}
use Rattle.ug_cond.specs.Conditions.{by_operator, condition_holds, is_drawn, is_so}
use Rattle.ug_cond.specs.Words.{behind, is_random, with_words, words_of}
use Rattle.ug_policy.specs.declared.entry.RuleEntry.{RuleEntry}
use Rattle.ug_policy.specs.Deciding.{conditions_take, rule_conditions_hold, rule_holds}
use Rattle.ug_policy.proofs.Finding.{behind_add}
use Rattle.ug_lint.specs.Certain.{always_by, always_hold, is_false, is_hopeless, is_sure, is_true, never_by, never_hold}
use Rattle.ug_lint.specs.NeverDecides.{HasWords}

-- ---- words

-- each word of the list has 64 bits
abbrev AreSmall : List ℕ → Type 0
AreSmall words = (k : ℕ) → slice_index words k < 2 ^ 64

small_next : (words : List ℕ) (b : Bool) → AreSmall words → AreSmall (cond b (drop 1 words) words)
small_next words false small = small
small_next [] true small = small
small_next (w ∷ words) true small = λ k. small (suc k)

words_small : (n : ℕ) (stream : Stream) → HasWords stream → AreSmall (words_of n stream)
words_small zero stream h k = omega arith
words_small (suc n) stream h zero = h 0
words_small (suc n) stream h (suc k) = words_small n (next_u64 stream).1 (λ m. h (suc m)) k

pub words_behind : (n : ℕ) (stream : Stream) → HasWords stream → HasWords (behind n stream)
words_behind n stream h m = subst (λ (s : Stream). (next_u64 s).0 < 2 ^ 64) (behind_add n m stream) (h (n + m))

-- ---- one condition

never : {P : Type 0} → false ≡ true → P
never h = let none : ⊥ = cc in absurd none

drawn_always : (billionths word : ℕ) → word < 2 ^ 64 → billionths ≡ 1000000000 → is_drawn billionths word ≡ true
drawn_always billionths word small e = grind arith

drawn_never : (billionths word : ℕ) → billionths ≡ 0 → is_drawn billionths word ≡ false
drawn_never billionths word e = grind arith

true_so : (history : History) (ctx : Context) (records : List DeviceRecord) (word : ℕ) (k : CondKind) → word < 2 ^ 64 → is_true k ≡ true → is_so history ctx records word k ≡ true
true_so history ctx records word (kind.LocalTime begin end) small h = never h
true_so history ctx records word (kind.AllowedMatches query) small h = never h
true_so history ctx records word (kind.RuleApplied past) small h = never h
true_so history ctx records word (kind.RuleEvaluated past) small h = never h
true_so history ctx records word (kind.Random billionths) small h = drawn_always billionths word small ((Decides-eqb billionths 1000000000).0 h)
true_so history ctx records word kind.True small h = refl
true_so history ctx records word kind.False small h = never h

false_so : (history : History) (ctx : Context) (records : List DeviceRecord) (word : ℕ) (k : CondKind) → is_false k ≡ true → is_so history ctx records word k ≡ false
false_so history ctx records word (kind.LocalTime begin end) h = never h
false_so history ctx records word (kind.AllowedMatches query) h = never h
false_so history ctx records word (kind.RuleApplied past) h = never h
false_so history ctx records word (kind.RuleEvaluated past) h = never h
false_so history ctx records word (kind.Random billionths) h = drawn_never billionths word ((Decides-eqb billionths 0).0 h)
false_so history ctx records word kind.True h = never h
false_so history ctx records word kind.False h = refl

sure_by : (negated t f so : Bool) → (t ≡ true → so ≡ true) → (f ≡ true → so ≡ false) → cond negated f t ≡ true → cond negated (not so) so ≡ true
sure_by true t f so a b h = ap (λ (v : Bool). not v) (b h)
sure_by false t f so a b h = a h

hopeless_by : (negated t f so : Bool) → (t ≡ true → so ≡ true) → (f ≡ true → so ≡ false) → cond negated t f ≡ true → cond negated (not so) so ≡ false
hopeless_by true t f so a b h = ap (λ (v : Bool). not v) (a h)
hopeless_by false t f so a b h = b h

sure_holds : (history : History) (ctx : Context) (records : List DeviceRecord) (c : Cond) (word : ℕ) → word < 2 ^ 64 → is_sure c ≡ true → condition_holds history ctx records (c, word) ≡ true
sure_holds history ctx records c word small h = sure_by c.negated (is_true c.kind) (is_false c.kind) (is_so history ctx records word c.kind) (true_so history ctx records word c.kind small) (false_so history ctx records word c.kind) h

hopeless_fails : (history : History) (ctx : Context) (records : List DeviceRecord) (c : Cond) (word : ℕ) → word < 2 ^ 64 → is_hopeless c ≡ true → condition_holds history ctx records (c, word) ≡ false
hopeless_fails history ctx records c word small h = hopeless_by c.negated (is_true c.kind) (is_false c.kind) (is_so history ctx records word c.kind) (true_so history ctx records word c.kind small) (false_so history ctx records word c.kind) h

-- ---- a set of conditions

both_true : (a b : Bool) → (a && b) ≡ true → (a ≡ true) × (b ≡ true)
both_true true b h = (refl, h)
both_true false b h = never h

one_true : (a b : Bool) → (a || b) ≡ true → (a ≡ true) ⊎ (b ≡ true)
one_true true b h = inl refl
one_true false b h = inr h

and_true : (a b : Bool) → a ≡ true → b ≡ true → (a && b) ≡ true
and_true true b e h = h
and_true false b e h = e

and_first : (a b : Bool) → a ≡ false → (a && b) ≡ false
and_first true b e = never (sym e)
and_first false b e = refl

and_later : (a b : Bool) → b ≡ false → (a && b) ≡ false
and_later true b e = e
and_later false b e = refl

or_first : (a b : Bool) → a ≡ true → (a || b) ≡ true
or_first true b e = refl
or_first false b e = never e

or_later : (a b : Bool) → b ≡ true → (a || b) ≡ true
or_later true b e = refl
or_later false b e = e

or_none : (a b : Bool) → a ≡ false → b ≡ false → (a || b) ≡ false
or_none true b e h = never (sym e)
or_none false b e h = h

-- what a condition says by its word, and what the others say by the next
abbrev left_words : Cond → List ℕ → List ℕ
left_words c words = cond (is_random c.kind) (drop 1 words) words

each_sure_holds : (history : History) (ctx : Context) (records : List DeviceRecord) (cs : List Cond) (words : List ℕ) → AreSmall words → list_all is_sure cs ≡ true → list_all (condition_holds history ctx records) (with_words cs words) ≡ true
each_sure_holds history ctx records [] words small h = refl
each_sure_holds history ctx records (c ∷ cs) words small h =
    let parts = both_true (is_sure c) (list_all is_sure cs) h in
    let next = left_words c words in
    and_true (condition_holds history ctx records (c, slice_index words 0)) (list_all (condition_holds history ctx records) (with_words cs next))
    (sure_holds history ctx records c (slice_index words 0) (small 0) parts.0)
    (each_sure_holds history ctx records cs next (small_next words (is_random c.kind) small) parts.1)

some_sure_holds : (history : History) (ctx : Context) (records : List DeviceRecord) (cs : List Cond) (words : List ℕ) → AreSmall words → list_any is_sure cs ≡ true → list_any (condition_holds history ctx records) (with_words cs words) ≡ true
some_sure_holds history ctx records [] words small h = never h
some_sure_holds history ctx records (c ∷ cs) words small h =
    let next = left_words c words in
    let here = condition_holds history ctx records (c, slice_index words 0) in
    let rest = list_any (condition_holds history ctx records) (with_words cs next) in
    elim (one_true (is_sure c) (list_any is_sure cs) h) [
      | inl a ↦ or_first here rest (sure_holds history ctx records c (slice_index words 0) (small 0) a)
      | inr b ↦ or_later here rest (some_sure_holds history ctx records cs next (small_next words (is_random c.kind) small) b)
    ]

each_hopeless_fails : (history : History) (ctx : Context) (records : List DeviceRecord) (cs : List Cond) (words : List ℕ) → AreSmall words → list_all is_hopeless cs ≡ true → list_any (condition_holds history ctx records) (with_words cs words) ≡ false
each_hopeless_fails history ctx records [] words small h = refl
each_hopeless_fails history ctx records (c ∷ cs) words small h =
    let parts = both_true (is_hopeless c) (list_all is_hopeless cs) h in
    let next = left_words c words in
    or_none (condition_holds history ctx records (c, slice_index words 0)) (list_any (condition_holds history ctx records) (with_words cs next))
    (hopeless_fails history ctx records c (slice_index words 0) (small 0) parts.0)
    (each_hopeless_fails history ctx records cs next (small_next words (is_random c.kind) small) parts.1)

some_hopeless_fails : (history : History) (ctx : Context) (records : List DeviceRecord) (cs : List Cond) (words : List ℕ) → AreSmall words → list_any is_hopeless cs ≡ true → list_all (condition_holds history ctx records) (with_words cs words) ≡ false
some_hopeless_fails history ctx records [] words small h = never h
some_hopeless_fails history ctx records (c ∷ cs) words small h =
    let next = left_words c words in
    let here = condition_holds history ctx records (c, slice_index words 0) in
    let rest = list_all (condition_holds history ctx records) (with_words cs next) in
    elim (one_true (is_hopeless c) (list_any is_hopeless cs) h) [
      | inl a ↦ and_first here rest (hopeless_fails history ctx records c (slice_index words 0) (small 0) a)
      | inr b ↦ and_later here rest (some_hopeless_fails history ctx records cs next (small_next words (is_random c.kind) small) b)
    ]

-- ---- the conditions of a rule

always_by_op : (history : History) (ctx : Context) (records : List DeviceRecord) (op : Op) (cs : List Cond) (words : List ℕ) → AreSmall words → always_by op cs ≡ true → by_operator op (list_all (condition_holds history ctx records) (with_words cs words)) (list_any (condition_holds history ctx records) (with_words cs words)) ≡ true
always_by_op history ctx records AllOf cs words small h = each_sure_holds history ctx records cs words small h
always_by_op history ctx records OneOf cs words small h = some_sure_holds history ctx records cs words small h
always_by_op history ctx records NoneOf cs words small h = ap (λ (v : Bool). not v) (each_hopeless_fails history ctx records cs words small h)
always_by_op history ctx records Equals cs words small h = each_sure_holds history ctx records cs words small h
always_by_op history ctx records EqualsOrdered cs words small h = each_sure_holds history ctx records cs words small h

never_by_op : (history : History) (ctx : Context) (records : List DeviceRecord) (op : Op) (cs : List Cond) (words : List ℕ) → AreSmall words → never_by op cs ≡ true → by_operator op (list_all (condition_holds history ctx records) (with_words cs words)) (list_any (condition_holds history ctx records) (with_words cs words)) ≡ false
never_by_op history ctx records AllOf cs words small h = some_hopeless_fails history ctx records cs words small h
never_by_op history ctx records OneOf cs words small h = each_hopeless_fails history ctx records cs words small h
never_by_op history ctx records NoneOf cs words small h = ap (λ (v : Bool). not v) (some_sure_holds history ctx records cs words small h)
never_by_op history ctx records Equals cs words small h = some_hopeless_fails history ctx records cs words small h
never_by_op history ctx records EqualsOrdered cs words small h = some_hopeless_fails history ctx records cs words small h

always_so : (history : History) (ctx : Context) (records : List DeviceRecord) (conds : Option Conds) (words : List ℕ) → AreSmall words → always_hold conds ≡ true → rule_conditions_hold history ctx records conds words ≡ true
always_so history ctx records None words small h = refl
always_so history ctx records (Some conds) words small h = always_by_op history ctx records conds.op conds.items words small h

never_so : (history : History) (ctx : Context) (records : List DeviceRecord) (conds : Option Conds) (words : List ℕ) → AreSmall words → never_hold conds ≡ true → rule_conditions_hold history ctx records conds words ≡ false
never_so history ctx records None words small h = never h
never_so history ctx records (Some conds) words small h = never_by_op history ctx records conds.op conds.items words small h

pub always_holds : (ctx : Context) (records : List DeviceRecord) (e : RuleEntry) (stream : Stream) → HasWords stream → always_hold e.rule.conds ≡ true → rule_holds ctx records e stream ≡ true
always_holds ctx records e stream h a = always_so e.history ctx records e.rule.conds (words_of (conditions_take e.rule.conds) stream) (words_small (conditions_take e.rule.conds) stream h) a

pub never_holds : (ctx : Context) (records : List DeviceRecord) (e : RuleEntry) (stream : Stream) → HasWords stream → never_hold e.rule.conds ≡ true → rule_holds ctx records e stream ≡ false
never_holds ctx records e stream h n = never_so e.history ctx records e.rule.conds (words_of (conditions_take e.rule.conds) stream) (words_small (conditions_take e.rule.conds) stream h) n
