-- What is wrong in a state of the machine is what its context says.
use Rattle.std.proofs.Common.{◌≡◌, ℕ, Bool, true, false, ◌&&◌, List, [], ◌∷◌, length, Option, Some, None, Ok, Err, is_some, refl, sym, ap, subst, ◌∙◌, if◌then◌else◌}
use Rattle.ug_words.specs.declared.token.Token.{Token}
use Rattle.ug_words.specs.declared.token.TokenKind.{TokenKind}
use Rattle.ug_types.specs.declared.rule.Op.{Op}
use Rattle.ug_types.specs.declared.verdict.Target.{Target}
use Rattle.ug_rule.specs.declared.fault.Fault.{Fault}
use Rattle.ug_rule.specs.declared.fault.FaultKind.{FaultKind}
use Rattle.ug_rule.specs.declared.fault.FaultKind.TheVariants.{NoTarget, Repeated, BadValue, EmptySet, OpenSet, BadCondition, ConditionInQuery}
use Rattle.ug_words.specs.declared.keywords.Attr.{Attr}
use Rattle.ug_words.specs.declared.keywords.CondName.{CondName}
use Rattle.ug_rule_faults.specs.FaultKinds as asked
use Rattle.ug_rule_faults.specs.FaultKinds.{Bracket, OfItems, OfConditions, OfQuery, OfArgument, Asked, Context, context_with, context_of, at_first, kind_at_part, kind_in_set, kind_asked, kind_within, rule_stray_kind, query_stray_kind, has_brace, lacking, lacking_within, lacking_in, kind_at_end, rule_early_kind, query_early_kind}
use Rattle.ug_rule.specs.Faults.{missing, missing_by, outermost}
use Rattle.ug_words.specs.Keywords.{operator_of, attribute_of, condition_of, is_if}
use Rattle.ug_types.specs.Targets.{target_of}
use Rattle.ug_rule.specs.Queries.{has_colon}
use Rattle.ug_rule.specs.Tokens.{word_by, word_of, is_open, is_close, is_paren_open, is_paren_close, is_bang}
use Rattle.ug_words.specs.Words.{id_of}
use Rattle.ug_rule_faults.proofs.Contexts.{asked_in, bracket_at, opens, Outer, IsNext, IsParts, Follows, reach_follows}
use Rattle.ug_rule_faults.proofs.Machine.{Given, nothing, is_nothing, has, Shape, fits, Strings, says, Where, BeforeIf, BehindIf, InQuery, Alone, State, End, Start, Front, Parts, Value, Brace, Items, Text, AfterIf, CondBrace, CondItems, Negated, Opening, Inner, Closing, May, Matches, Step, stray_kind, other_part, part, value, named, condition, conditions, targeted, step, braces, bottom, ending_in, parts_end, finish}
use Rattle.ug_rule_faults.proofs.MachineRuns.{to_next, reach}
use Rattle.ug_rule.proofs.Marks.{closing_paren}

-- ---- tokens that can't stand

abbrev Refuses : Step → FaultKind → Type 0
Refuses r is = (kind : FaultKind) → r ≡ Err kind → kind ≡ is

refuses_ok : (state : State) (is : FaultKind) → Refuses (Ok state) is
refuses_ok state is kind h = let none : ⊥ = cc in absurd none

refuses_err : (kind is : FaultKind) → kind ≡ is → Refuses (Err kind) is
refuses_err kind is e found h = let s : kind ≡ found = cc in sym s ∙ e

refuses_if : (b : Bool) (p q : Step) (is : FaultKind) → (b ≡ true → Refuses p is) → (b ≡ false → Refuses q is) → Refuses (if b then p else q) is
refuses_if true p q is f g = f refl
refuses_if false p q is f g = g refl

-- a closing parenthesis is no word
close_word : (line : List ℕ) (kind : TokenKind) (start end : ℕ) → is_paren_close kind ≡ true → is_if (word_by line kind start end) ≡ false
unfolding is_if
close_word line kind start end h = ap (λ k. is_if (word_by line k start end)) (closing_paren kind h)

-- the parts of a query in parentheses, or of a line
abbrev inside : Where → Bool
inside BeforeIf = false
inside BehindIf = false
inside InQuery = true
inside Alone = false

abbrev if_kind : Where → FaultKind
if_kind BeforeIf = Repeated
if_kind BehindIf = Repeated
if_kind InQuery = ConditionInQuery
if_kind Alone = ConditionInQuery

stray_here : (of_if : FaultKind) (first in_query : Bool) (word : List ℕ) (kind : TokenKind) → (first && has_colon word) ≡ false → attribute_of word ≡ None → (in_query && is_paren_close kind) ≡ false → stray_kind of_if word kind ≡ kind_at_part of_if first in_query word kind
stray_here of_if first in_query word kind c a p = by (is_if word) refl
  where
    by : (b : Bool) → is_if word ≡ b → stray_kind of_if word kind ≡ kind_at_part of_if first in_query word kind
    by true i = rw c (rw a (rw i refl))
    by false i = rw c (rw a (rw i (rw p refl)))

query_close : (first : Bool) (word : List ℕ) (kind : TokenKind) → (first && has_colon word) ≡ false → attribute_of word ≡ None → is_if word ≡ false → is_paren_close kind ≡ true → BadCondition ≡ kind_at_part ConditionInQuery first true word kind
query_close first word kind c a i p = rw c (rw a (rw i (rw p refl)))

other_refuses : (line : List ℕ) (place : Where) (given : Given) (first : Bool) (kind : TokenKind) (start end : ℕ) (next : State) → (first && has_colon (word_by line kind start end)) ≡ false → attribute_of (word_by line kind start end) ≡ None
    → Refuses (other_part place given (word_by line kind start end) kind next) (kind_at_part (if_kind place) first (inside place) (word_by line kind start end) kind)
other_refuses line BeforeIf given first kind start end next c a =
    refuses_if (is_if (word_by line kind start end)) _ _ _ (λ i. refuses_ok _ _) (λ i. refuses_err _ _ (stray_here Repeated first false (word_by line kind start end) kind c a refl))
other_refuses line BehindIf given first kind start end next c a = refuses_err _ _ (stray_here Repeated first false (word_by line kind start end) kind c a refl)
other_refuses line InQuery given first kind start end next c a =
    refuses_if (is_paren_close kind) _ _ _
    (λ p. refuses_if (is_nothing given) _ _ _ (λ n. refuses_err _ _ (query_close first (word_by line kind start end) kind c a (close_word line kind start end p) p)) (λ n. refuses_ok _ _))
    (λ p. refuses_err _ _ (stray_here ConditionInQuery first true (word_by line kind start end) kind c a p))
other_refuses line Alone given first kind start end next c a = refuses_err _ _ (stray_here ConditionInQuery first false (word_by line kind start end) kind c a refl)

repeated_here : (of_if : FaultKind) (first in_query : Bool) (word : List ℕ) (kind : TokenKind) (attr : Attr) → (first && has_colon word) ≡ false → attribute_of word ≡ Some attr → Repeated ≡ kind_at_part of_if first in_query word kind
repeated_here of_if first in_query word kind attr c a = rw c (rw a refl)

part_refuses : (line : List ℕ) (o : Option Attr) (place : Where) (given : Given) (first : Bool) (kind : TokenKind) (start end : ℕ) (next : State) → (first && has_colon (word_by line kind start end)) ≡ false → attribute_of (word_by line kind start end) ≡ o
    → Refuses (part o place given (word_by line kind start end) kind next) (kind_at_part (if_kind place) first (inside place) (word_by line kind start end) kind)
part_refuses line None place given first kind start end next c e = other_refuses line place given first kind start end next c e
part_refuses line (Some attr) place given first kind start end next c e =
    refuses_if (has attr given) _ _ _ (λ h. refuses_err _ _ (repeated_here (if_kind place) first (inside place) (word_by line kind start end) kind attr c e)) (λ h. refuses_ok _ _)

-- where a part must begin
asked_at : (of_if : FaultKind) (place : Where) (next : State) (a : Asked) (word : List ℕ) (kind : TokenKind) → Outer of_if place next (IsNext of_if next) → kind_asked (if_kind place) (inside place) a word kind ≡ kind_within of_if (bracket_at place (opens next)) a word kind
asked_at of_if BeforeIf next a word kind u = ap (λ f. kind_asked f false a word kind) (sym u.1) ∙ ap (λ s. kind_within of_if (opens s) a word kind) (sym u.0)
asked_at of_if BehindIf next a word kind u = ap (λ f. kind_asked f false a word kind) (sym u.1) ∙ ap (λ s. kind_within of_if (opens s) a word kind) (sym u.0)
asked_at of_if InQuery next a word kind u = refl
asked_at of_if Alone next a word kind u = ap (λ f. kind_asked f false a word kind) (sym u.1) ∙ ap (λ s. kind_within of_if (opens s) a word kind) (sym u.0)

-- where a value must come
value_at : (of_if : FaultKind) (place : Where) (next : State) (word : List ℕ) (kind : TokenKind) → Outer of_if place next (IsNext of_if next) → BadValue ≡ kind_within of_if (bracket_at place (opens next)) asked.Value word kind
value_at of_if place next word kind u = by place u
  where
    by : (place : Where) → Outer of_if place next (IsNext of_if next) → BadValue ≡ kind_within of_if (bracket_at place (opens next)) asked.Value word kind
    by BeforeIf u = asked_at of_if BeforeIf next asked.Value word kind u
    by BehindIf u = asked_at of_if BehindIf next asked.Value word kind u
    by InQuery u = refl
    by Alone u = asked_at of_if Alone next asked.Value word kind u

value_here : (of_if : FaultKind) (next : State) (word : List ℕ) (kind : TokenKind) → IsParts of_if next → BadValue ≡ kind_within of_if (opens next) asked.Value word kind
value_here of_if next word kind p = value_at of_if p.place p.next word kind p.outer ∙ ap (λ s. kind_within of_if (opens s) asked.Value word kind) (sym p.is)

-- where a condition or its argument must come
data Pending : Asked → Type 0 where
  OfCondition : Pending asked.Condition
  OfQueryIn : Pending asked.Query

pending_at : (of_if : FaultKind) (place : Where) (next : State) (a : Asked) (word : List ℕ) (kind : TokenKind) → Pending a → Outer of_if place next (IsNext of_if next) → BadCondition ≡ kind_within of_if (bracket_at place (opens next)) a word kind
pending_at of_if BeforeIf next a word kind OfCondition u = asked_at of_if BeforeIf next asked.Condition word kind u
pending_at of_if BeforeIf next a word kind OfQueryIn u = asked_at of_if BeforeIf next asked.Query word kind u
pending_at of_if BehindIf next a word kind OfCondition u = asked_at of_if BehindIf next asked.Condition word kind u
pending_at of_if BehindIf next a word kind OfQueryIn u = asked_at of_if BehindIf next asked.Query word kind u
pending_at of_if InQuery next a word kind OfCondition u = refl
pending_at of_if InQuery next a word kind OfQueryIn u = refl
pending_at of_if Alone next a word kind OfCondition u = asked_at of_if Alone next asked.Condition word kind u
pending_at of_if Alone next a word kind OfQueryIn u = asked_at of_if Alone next asked.Query word kind u

pending_in_set : (of_if : FaultKind) (rest : List Bracket) (a : Asked) (word : List ℕ) (kind : TokenKind) → Pending a → BadCondition ≡ kind_within of_if (OfConditions ∷ rest) a word kind
pending_in_set of_if rest a word kind OfCondition = refl
pending_in_set of_if rest a word kind OfQueryIn = refl

condition_here : (of_if : FaultKind) (next : State) (a : Asked) (word : List ℕ) (kind : TokenKind) → Pending a → IsNext of_if next → BadCondition ≡ kind_within of_if (opens next) a word kind
condition_here of_if End a word kind p n = absurd n
condition_here of_if Start a word kind p n = absurd n
condition_here of_if (Front place next) a word kind p n = absurd n
condition_here of_if (Parts given place next) a word kind p n = pending_at of_if place next a word kind p n
condition_here of_if (Value shape next) a word kind p n = absurd n
condition_here of_if (Brace shape next) a word kind p n = absurd n
condition_here of_if (Items shape some at next) a word kind p n = absurd n
condition_here of_if (Text next) a word kind p n = absurd n
condition_here of_if (AfterIf next) a word kind p n = absurd n
condition_here of_if (CondBrace next) a word kind p n = absurd n
condition_here of_if (CondItems some at next) a word kind p n = pending_in_set of_if (opens next) a word kind p
condition_here of_if (Negated next) a word kind p n = absurd n
condition_here of_if (Opening argument next) a word kind p n = absurd n
condition_here of_if (Inner argument next) a word kind p n = absurd n
condition_here of_if (Closing next) a word kind p n = absurd n
condition_here of_if (May argument next) a word kind p n = absurd n
condition_here of_if (Matches next) a word kind p n = absurd n

-- within a set, a token that closes it closes it empty
set_otherwise : (otherwise : FaultKind) (a : Asked) (kind : TokenKind) → is_close kind ≡ false → otherwise ≡ kind_in_set otherwise (asked.asks_first_item a) kind
set_otherwise otherwise asked.First kind c = refl
set_otherwise otherwise asked.Part kind c = refl
set_otherwise otherwise asked.Value kind c = refl
set_otherwise otherwise asked.Condition kind c = refl
set_otherwise otherwise asked.Query kind c = refl
set_otherwise otherwise asked.FirstItem kind c = rw c refl

set_empty : (otherwise : FaultKind) (kind : TokenKind) → is_close kind ≡ true → EmptySet ≡ kind_in_set otherwise true kind
set_empty otherwise kind c = rw c refl

named_refuses : (o : Option CondName) (next : State) → Refuses (named o next) BadCondition
named_refuses None next = refuses_err _ _ refl
named_refuses (Some name) next = refuses_ok _ _

condition_refuses : (word : List ℕ) (kind : TokenKind) (next : State) → Refuses (condition word kind next) BadCondition
condition_refuses word kind next = refuses_if (is_bang kind) _ _ _ (λ b. refuses_ok _ _) (λ b. named_refuses (condition_of word) next)

conditions_refuse : (o : Option Op) (word : List ℕ) (kind : TokenKind) (next : State) → Refuses (conditions o word kind next) BadCondition
conditions_refuse None word kind next = condition_refuses word kind next
conditions_refuse (Some op) word kind next = refuses_ok _ _

value_refuses : (o : Option Op) (shape : Shape) (word : List ℕ) (kind : TokenKind) (next : State) → Refuses (value o shape word kind next) BadValue
value_refuses None shape word kind next = refuses_if (fits shape word kind) _ _ _ (λ f. refuses_ok _ _) (λ f. refuses_err _ _ refl)
value_refuses (Some op) shape word kind next = refuses_ok _ _

instead : (r : Step) (is other : FaultKind) → is ≡ other → Refuses r is → Refuses r other
instead r is other e f kind h = f kind h ∙ e

abbrev Told : FaultKind → List ℕ → State → TokenKind → ℕ → ℕ → Asked → Type 0
Told of_if line state kind start end a = Refuses (step state (word_by line kind start end) kind start) (kind_within of_if (opens state) a (word_by line kind start end) kind)

front_told : (of_if : FaultKind) (line : List ℕ) (place : Where) (next : State) (kind : TokenKind) (start end : ℕ) → Outer of_if place next (IsNext of_if next) → Told of_if line (Front place next) kind start end asked.First
front_told of_if line place next kind start end u =
    instead _ (kind_at_part (if_kind place) true (inside place) (word_by line kind start end) kind) _ (asked_at of_if place next asked.First (word_by line kind start end) kind u)
    (refuses_if (has_colon (word_by line kind start end)) _ _ _
    (λ c. refuses_if (is_some (id_of (word_by line kind start end))) _ _ _ (λ i. refuses_ok _ _) (λ i. refuses_err _ _ (colon c)))
    (λ c. part_refuses line (attribute_of (word_by line kind start end)) place nothing true kind start end next c refl))
  where
    colon : has_colon (word_by line kind start end) ≡ true → BadValue ≡ kind_at_part (if_kind place) true (inside place) (word_by line kind start end) kind
    colon c = rw c refl

parts_told : (of_if : FaultKind) (line : List ℕ) (given : Given) (place : Where) (next : State) (kind : TokenKind) (start end : ℕ) → Outer of_if place next (IsNext of_if next) → Told of_if line (Parts given place next) kind start end asked.Part
parts_told of_if line given place next kind start end u =
    instead _ (kind_at_part (if_kind place) false (inside place) (word_by line kind start end) kind) _ (asked_at of_if place next asked.Part (word_by line kind start end) kind u)
    (part_refuses line (attribute_of (word_by line kind start end)) place given false kind start end next refl refl)

items_told : (of_if : FaultKind) (line : List ℕ) (shape : Shape) (some : Bool) (at : ℕ) (next : State) (kind : TokenKind) (start end : ℕ) → Told of_if line (Items shape some at next) kind start end (asked_in some)
items_told of_if line shape true at next kind start end =
    refuses_if (is_close kind) _ _ _ (λ c. refuses_ok _ _) (λ c. refuses_if (fits shape (word_by line kind start end) kind) _ _ _ (λ f. refuses_ok _ _) (λ f. refuses_err _ _ (set_otherwise BadValue asked.Part kind c)))
items_told of_if line shape false at next kind start end =
    refuses_if (is_close kind) _ _ _ (λ c. refuses_err _ _ (set_empty BadValue kind c)) (λ c. refuses_if (fits shape (word_by line kind start end) kind) _ _ _ (λ f. refuses_ok _ _) (λ f. refuses_err _ _ (set_otherwise BadValue asked.FirstItem kind c)))

conds_told : (of_if : FaultKind) (line : List ℕ) (some : Bool) (at : ℕ) (next : State) (kind : TokenKind) (start end : ℕ) → Told of_if line (CondItems some at next) kind start end (asked_in some)
conds_told of_if line true at next kind start end =
    refuses_if (is_close kind) _ _ _ (λ c. refuses_ok _ _) (λ c. instead _ BadCondition _ (set_otherwise BadCondition asked.Part kind c) (condition_refuses (word_by line kind start end) kind (CondItems true at next)))
conds_told of_if line false at next kind start end =
    refuses_if (is_close kind) _ _ _ (λ c. refuses_err _ _ (set_empty BadCondition kind c)) (λ c. instead _ BadCondition _ (set_otherwise BadCondition asked.FirstItem kind c) (condition_refuses (word_by line kind start end) kind (CondItems true at next)))

-- behind a condition that may have an argument
next_told : (of_if : FaultKind) (line : List ℕ) (next : State) (kind : TokenKind) (start end : ℕ) → IsNext of_if next → Told of_if line next kind start end asked.Part
next_told of_if line End kind start end n = absurd n
next_told of_if line Start kind start end n = absurd n
next_told of_if line (Front place next) kind start end n = absurd n
next_told of_if line (Parts given place next) kind start end n = parts_told of_if line given place next kind start end n
next_told of_if line (Value shape next) kind start end n = absurd n
next_told of_if line (Brace shape next) kind start end n = absurd n
next_told of_if line (Items shape some at next) kind start end n = absurd n
next_told of_if line (Text next) kind start end n = absurd n
next_told of_if line (AfterIf next) kind start end n = absurd n
next_told of_if line (CondBrace next) kind start end n = absurd n
next_told of_if line (CondItems true at next) kind start end n = conds_told of_if line true at next kind start end
next_told of_if line (CondItems false at next) kind start end n = absurd n
next_told of_if line (Negated next) kind start end n = absurd n
next_told of_if line (Opening argument next) kind start end n = absurd n
next_told of_if line (Inner argument next) kind start end n = absurd n
next_told of_if line (Closing next) kind start end n = absurd n
next_told of_if line (May argument next) kind start end n = absurd n
next_told of_if line (Matches next) kind start end n = absurd n

at_asked : (of_if : FaultKind) (line : List ℕ) (state : State) (kind : TokenKind) (start end : ℕ) (a b : Asked) → a ≡ b → Told of_if line state kind start end b → Told of_if line state kind start end a
at_asked of_if line state kind start end a b e t = subst (Told of_if line state kind start end) (sym e) t

state_told : (of_if : FaultKind) (line : List ℕ) (state : State) (kind : TokenKind) (start end : ℕ) (c : Context) → Follows of_if state c → Told of_if line state kind start end c.asked
state_told of_if line End kind start end c f = absurd f.sound
state_told of_if line Start kind start end c f = absurd f.sound
state_told of_if line (Front place next) kind start end c f = at_asked of_if line (Front place next) kind start end c.asked asked.First f.asks (front_told of_if line place next kind start end f.sound)
state_told of_if line (Parts given place next) kind start end c f = at_asked of_if line (Parts given place next) kind start end c.asked asked.Part f.asks (parts_told of_if line given place next kind start end f.sound)
state_told of_if line (Value shape next) kind start end c f =
    at_asked of_if line (Value shape next) kind start end c.asked asked.Value f.asks
    (instead _ BadValue _ (value_here of_if next (word_by line kind start end) kind f.sound)
    (refuses_if (is_open kind) _ _ _ (λ b. refuses_ok _ _) (λ b. value_refuses (operator_of (word_by line kind start end)) shape (word_by line kind start end) kind next)))
state_told of_if line (Brace shape next) kind start end c f =
    at_asked of_if line (Brace shape next) kind start end c.asked asked.Value f.asks
    (instead _ BadValue _ (value_here of_if next (word_by line kind start end) kind f.sound) (refuses_if (is_open kind) _ _ _ (λ b. refuses_ok _ _) (λ b. refuses_err _ _ refl)))
state_told of_if line (Items shape some at next) kind start end c f = at_asked of_if line (Items shape some at next) kind start end c.asked (asked_in some) f.asks (items_told of_if line shape some at next kind start end)
state_told of_if line (Text next) kind start end c f =
    at_asked of_if line (Text next) kind start end c.asked asked.Value f.asks
    (instead _ BadValue _ (value_here of_if next (word_by line kind start end) kind f.sound) (refuses_if (fits Strings (word_by line kind start end) kind) _ _ _ (λ b. refuses_ok _ _) (λ b. refuses_err _ _ refl)))
state_told of_if line (AfterIf next) kind start end c f =
    at_asked of_if line (AfterIf next) kind start end c.asked asked.Condition f.asks
    (instead _ BadCondition _ (condition_here of_if next asked.Condition (word_by line kind start end) kind OfCondition f.sound)
    (refuses_if (is_open kind) _ _ _ (λ b. refuses_ok _ _) (λ b. conditions_refuse (operator_of (word_by line kind start end)) (word_by line kind start end) kind next)))
state_told of_if line (CondBrace next) kind start end c f =
    at_asked of_if line (CondBrace next) kind start end c.asked asked.Condition f.asks
    (instead _ BadCondition _ (condition_here of_if next asked.Condition (word_by line kind start end) kind OfCondition f.sound) (refuses_if (is_open kind) _ _ _ (λ b. refuses_ok _ _) (λ b. refuses_err _ _ refl)))
state_told of_if line (CondItems some at next) kind start end c f = at_asked of_if line (CondItems some at next) kind start end c.asked (asked_in some) f.asks (conds_told of_if line some at next kind start end)
state_told of_if line (Negated next) kind start end c f =
    at_asked of_if line (Negated next) kind start end c.asked asked.Condition f.asks
    (instead _ BadCondition _ (condition_here of_if next asked.Condition (word_by line kind start end) kind OfCondition f.sound) (named_refuses (condition_of (word_by line kind start end)) next))
state_told of_if line (Opening argument next) kind start end c f =
    at_asked of_if line (Opening argument next) kind start end c.asked asked.Condition f.asks
    (instead _ BadCondition _ (condition_here of_if next asked.Condition (word_by line kind start end) kind OfCondition f.sound) (refuses_if (is_paren_open kind) _ _ _ (λ b. refuses_ok _ _) (λ b. refuses_err _ _ refl)))
state_told of_if line (Inner argument next) kind start end c f = refuses_if (says argument (word_by line kind start end)) _ _ _ (λ s. refuses_ok _ _) (λ s. refuses_err _ _ refl)
state_told of_if line (Closing next) kind start end c f = refuses_if (is_paren_close kind) _ _ _ (λ s. refuses_ok _ _) (λ s. refuses_err _ _ refl)
state_told of_if line (May argument next) kind start end c f =
    at_asked of_if line (May argument next) kind start end c.asked asked.Part f.asks
    (refuses_if (is_paren_open kind) _ _ _ (λ p. refuses_ok _ _) (λ p. next_told of_if line next kind start end f.sound))
state_told of_if line (Matches next) kind start end c f =
    at_asked of_if line (Matches next) kind start end c.asked asked.Query f.asks
    (instead _ BadCondition _ (condition_here of_if next asked.Query (word_by line kind start end) kind OfQueryIn f.sound) (refuses_if (is_paren_open kind) _ _ _ (λ p. refuses_ok _ _) (λ p. refuses_err _ _ refl)))

told : (of_if : FaultKind) (line : List ℕ) (state : State) (token : Token) (kind : FaultKind) (c : Context) → Follows of_if state c → step state (word_of line token) token.kind token.start ≡ Err kind → kind ≡ kind_within of_if c.brackets c.asked (word_of line token) token.kind
told of_if line state token kind c f h =
    state_told of_if line state token.kind token.start token.end c f kind h
    ∙ ap (λ l. kind_within of_if l c.asked (word_of line token) token.kind) (sym f.brackets)

-- ---- lines that end too early

outer_some : (place : ℕ) (o : Option ℕ) → true ≡ is_some (outermost place o)
outer_some place None = refl
outer_some place (Some brace) = refl

same_at : (place : Where) (brackets : List Bracket) → has_brace (bracket_at place brackets) ≡ has_brace brackets
same_at BeforeIf brackets = refl
same_at BehindIf brackets = refl
same_at InQuery brackets = refl
same_at Alone brackets = refl

same_braces : (state : State) → has_brace (opens state) ≡ is_some (bottom (braces state))
same_braces End = refl
same_braces Start = refl
same_braces (Front place next) = same_at place (opens next) ∙ same_braces next
same_braces (Parts given place next) = same_at place (opens next) ∙ same_braces next
same_braces (Value shape next) = same_braces next
same_braces (Brace shape next) = same_braces next
same_braces (Items shape some at next) = outer_some at (bottom (braces next))
same_braces (Text next) = same_braces next
same_braces (AfterIf next) = same_braces next
same_braces (CondBrace next) = same_braces next
same_braces (CondItems some at next) = outer_some at (bottom (braces next))
same_braces (Negated next) = same_braces next
same_braces (Opening argument next) = same_braces next
same_braces (Inner argument next) = same_braces next
same_braces (Closing next) = same_braces next
same_braces (May argument next) = same_braces next
same_braces (Matches next) = same_braces next

missing_kind : (kind : FaultKind) (o : Option ℕ) (end : ℕ) → (missing_by kind o end).kind ≡ (if is_some o then OpenSet else kind)
missing_kind kind None end = refl
missing_kind kind (Some brace) end = refl

abbrev Lacking : List ℕ → Option Fault → List Bracket → Asked → Type 0
Lacking line lacks brackets a = (fault : Fault) → lacks ≡ Some fault → fault.kind ≡ kind_at_end (context_with a brackets)

nothing_lacks : (line : List ℕ) (brackets : List Bracket) (a : Asked) → Lacking line None brackets a
nothing_lacks line brackets a fault h = let none : ⊥ = cc in absurd none

something_lacks : (line : List ℕ) (kind : FaultKind) (state : State) (brackets : List Bracket) (a : Asked) → has_brace brackets ≡ is_some (bottom (braces state)) → (has_brace brackets ≡ false → kind ≡ lacking_in brackets a) → Lacking line (Some (missing kind (ending_in line state))) brackets a
something_lacks line kind state brackets a e f fault h =
    let same : missing kind (ending_in line state) ≡ fault = cc in
    ap (λ f. f.kind) (sym same) ∙ (missing_kind kind (bottom (braces state)) (length line) ∙ by (has_brace brackets) refl)
  where
    by : (b : Bool) → has_brace brackets ≡ b → (if is_some (bottom (braces state)) then OpenSet else kind) ≡ kind_at_end (context_with a brackets)
    by true k = let s : is_some (bottom (braces state)) ≡ true = sym e ∙ k in rw s (rw k refl)
    by false k = let s : is_some (bottom (braces state)) ≡ false = sym e ∙ k in rw s (rw k (f k))

-- the parts of a line or a query end
parts_lacks : (of_if : FaultKind) (line : List ℕ) (place : Where) (given : Given) (next : State) (a : Asked) → BadValue ≡ lacking a → BadCondition ≡ lacking_within a → Outer of_if place next (IsNext of_if next) → Lacking line (parts_end place given (ending_in line next)) (bracket_at place (opens next)) a
parts_lacks of_if line BeforeIf given next a v w u = nothing_lacks line (opens next) a
parts_lacks of_if line BehindIf given next a v w u = nothing_lacks line (opens next) a
parts_lacks of_if line InQuery given next a v w u = something_lacks line BadCondition next (OfQuery ∷ opens next) a (same_braces next) (λ h. w)
parts_lacks of_if line Alone given next a v w u = by (is_nothing given)
  where
    lacks : Lacking line (Some (missing BadValue (ending_in line next))) (opens next) a
    lacks = something_lacks line BadValue next (opens next) a (same_braces next) (λ h. v ∙ ap (λ s. lacking_in (opens s) a) (sym u.0))

    by : (b : Bool) → Lacking line (if b then Some (missing BadValue (ending_in line next)) else None) (opens next) a
    by true = lacks
    by false = nothing_lacks line (opens next) a

-- a value is lacking
value_by : (of_if : FaultKind) (place : Where) (next : State) → Outer of_if place next (IsNext of_if next) → BadValue ≡ lacking_in (bracket_at place (opens next)) asked.Value
value_by of_if BeforeIf next u = ap (λ s. lacking_in (opens s) asked.Value) (sym u.0)
value_by of_if BehindIf next u = ap (λ s. lacking_in (opens s) asked.Value) (sym u.0)
value_by of_if InQuery next u = refl
value_by of_if Alone next u = ap (λ s. lacking_in (opens s) asked.Value) (sym u.0)

value_lacks : (of_if : FaultKind) (line : List ℕ) (next : State) → IsParts of_if next → Lacking line (Some (missing BadValue (ending_in line next))) (opens next) asked.Value
value_lacks of_if line next p = something_lacks line BadValue next (opens next) asked.Value (same_braces next) (λ h. value_by of_if p.place p.next p.outer ∙ ap (λ s. lacking_in (opens s) asked.Value) (sym p.is))

-- a condition or its argument is lacking
pending_lacks : (a : Asked) → Pending a → (BadCondition ≡ lacking a) × (BadCondition ≡ lacking_within a)
pending_lacks a OfCondition = (refl, refl)
pending_lacks a OfQueryIn = (refl, refl)

pending_by : (of_if : FaultKind) (place : Where) (next : State) (a : Asked) → Pending a → Outer of_if place next (IsNext of_if next) → BadCondition ≡ lacking_in (bracket_at place (opens next)) a
pending_by of_if BeforeIf next a p u = (pending_lacks a p).0 ∙ ap (λ s. lacking_in (opens s) a) (sym u.0)
pending_by of_if BehindIf next a p u = (pending_lacks a p).0 ∙ ap (λ s. lacking_in (opens s) a) (sym u.0)
pending_by of_if InQuery next a p u = (pending_lacks a p).1
pending_by of_if Alone next a p u = (pending_lacks a p).0 ∙ ap (λ s. lacking_in (opens s) a) (sym u.0)

condition_by : (of_if : FaultKind) (next : State) (a : Asked) → Pending a → IsNext of_if next → has_brace (opens next) ≡ false → BadCondition ≡ lacking_in (opens next) a
condition_by of_if End a p n h = absurd n
condition_by of_if Start a p n h = absurd n
condition_by of_if (Front place next) a p n h = absurd n
condition_by of_if (Parts given place next) a p n h = pending_by of_if place next a p n
condition_by of_if (Value shape next) a p n h = absurd n
condition_by of_if (Brace shape next) a p n h = absurd n
condition_by of_if (Items shape some at next) a p n h = absurd n
condition_by of_if (Text next) a p n h = absurd n
condition_by of_if (AfterIf next) a p n h = absurd n
condition_by of_if (CondBrace next) a p n h = absurd n
condition_by of_if (CondItems some at next) a p n h = let none : ⊥ = cc in absurd none
condition_by of_if (Negated next) a p n h = absurd n
condition_by of_if (Opening argument next) a p n h = absurd n
condition_by of_if (Inner argument next) a p n h = absurd n
condition_by of_if (Closing next) a p n h = absurd n
condition_by of_if (May argument next) a p n h = absurd n
condition_by of_if (Matches next) a p n h = absurd n

condition_lacks : (of_if : FaultKind) (line : List ℕ) (next : State) (a : Asked) → Pending a → IsNext of_if next → Lacking line (Some (missing BadCondition (ending_in line next))) (opens next) a
condition_lacks of_if line next a p n = something_lacks line BadCondition next (opens next) a (same_braces next) (condition_by of_if next a p n)

set_lacks : (line : List ℕ) (state : State) (bracket : Bracket) (rest : List Bracket) (a : Asked) → has_brace (bracket ∷ rest) ≡ is_some (bottom (braces state)) → OpenSet ≡ lacking_in (bracket ∷ rest) a → Lacking line (Some (missing OpenSet (ending_in line state))) (bracket ∷ rest) a
set_lacks line state bracket rest a e l = something_lacks line OpenSet state (bracket ∷ rest) a e (λ h. l)

argument_lacks : (line : List ℕ) (next : State) (a : Asked) → Lacking line (Some (missing BadCondition (ending_in line next))) (OfArgument ∷ opens next) a
argument_lacks line next a = something_lacks line BadCondition next (OfArgument ∷ opens next) a (same_braces next) (λ h. refl)

next_lacks : (of_if : FaultKind) (line : List ℕ) (next : State) → IsNext of_if next → Lacking line (finish line next) (opens next) asked.Part
next_lacks of_if line End n = absurd n
next_lacks of_if line Start n = absurd n
next_lacks of_if line (Front place next) n = absurd n
next_lacks of_if line (Parts given place next) n = parts_lacks of_if line place given next asked.Part refl refl n
next_lacks of_if line (Value shape next) n = absurd n
next_lacks of_if line (Brace shape next) n = absurd n
next_lacks of_if line (Items shape some at next) n = absurd n
next_lacks of_if line (Text next) n = absurd n
next_lacks of_if line (AfterIf next) n = absurd n
next_lacks of_if line (CondBrace next) n = absurd n
next_lacks of_if line (CondItems some at next) n = set_lacks line (CondItems some at next) OfConditions (opens next) asked.Part (same_braces (CondItems some at next)) refl
next_lacks of_if line (Negated next) n = absurd n
next_lacks of_if line (Opening argument next) n = absurd n
next_lacks of_if line (Inner argument next) n = absurd n
next_lacks of_if line (Closing next) n = absurd n
next_lacks of_if line (May argument next) n = absurd n
next_lacks of_if line (Matches next) n = absurd n

as_asked : (line : List ℕ) (state : State) (a b : Asked) → a ≡ b → Lacking line (finish line state) (opens state) b → Lacking line (finish line state) (opens state) a
as_asked line state a b e l = subst (Lacking line (finish line state) (opens state)) (sym e) l

state_lacks : (of_if : FaultKind) (line : List ℕ) (state : State) (c : Context) → Follows of_if state c → Lacking line (finish line state) (opens state) c.asked
state_lacks of_if line End c f = absurd f.sound
state_lacks of_if line Start c f = absurd f.sound
state_lacks of_if line (Front place next) c f = as_asked line (Front place next) c.asked asked.First f.asks (parts_lacks of_if line place nothing next asked.First refl refl f.sound)
state_lacks of_if line (Parts given place next) c f = as_asked line (Parts given place next) c.asked asked.Part f.asks (parts_lacks of_if line place given next asked.Part refl refl f.sound)
state_lacks of_if line (Value shape next) c f = as_asked line (Value shape next) c.asked asked.Value f.asks (value_lacks of_if line next f.sound)
state_lacks of_if line (Brace shape next) c f = as_asked line (Brace shape next) c.asked asked.Value f.asks (value_lacks of_if line next f.sound)
state_lacks of_if line (Items shape some at next) c f = set_lacks line (Items shape some at next) OfItems (opens next) c.asked (same_braces (Items shape some at next)) refl
state_lacks of_if line (Text next) c f = as_asked line (Text next) c.asked asked.Value f.asks (value_lacks of_if line next f.sound)
state_lacks of_if line (AfterIf next) c f = as_asked line (AfterIf next) c.asked asked.Condition f.asks (condition_lacks of_if line next asked.Condition OfCondition f.sound)
state_lacks of_if line (CondBrace next) c f = as_asked line (CondBrace next) c.asked asked.Condition f.asks (condition_lacks of_if line next asked.Condition OfCondition f.sound)
state_lacks of_if line (CondItems some at next) c f = set_lacks line (CondItems some at next) OfConditions (opens next) c.asked (same_braces (CondItems some at next)) refl
state_lacks of_if line (Negated next) c f = as_asked line (Negated next) c.asked asked.Condition f.asks (condition_lacks of_if line next asked.Condition OfCondition f.sound)
state_lacks of_if line (Opening argument next) c f = as_asked line (Opening argument next) c.asked asked.Condition f.asks (condition_lacks of_if line next asked.Condition OfCondition f.sound)
state_lacks of_if line (Inner argument next) c f = argument_lacks line next c.asked
state_lacks of_if line (Closing next) c f = argument_lacks line next c.asked
state_lacks of_if line (May argument next) c f = as_asked line (May argument next) c.asked asked.Part f.asks (next_lacks of_if line next f.sound)
state_lacks of_if line (Matches next) c f = as_asked line (Matches next) c.asked asked.Query f.asks (condition_lacks of_if line next asked.Query OfQueryIn f.sound)

lacks : (of_if : FaultKind) (line : List ℕ) (state : State) (fault : Fault) (c : Context) → Follows of_if state c → finish line state ≡ Some fault → fault.kind ≡ kind_at_end c
lacks of_if line state fault c f h = state_lacks of_if line state c f fault h ∙ ap (λ l. kind_at_end (context_with c.asked l)) (sym f.brackets)

-- ---- whole lines

rule_follows : Follows Repeated (Front BeforeIf End) at_first
rule_follows = record { sound = (refl, refl); brackets = refl; asks = refl }

query_follows : Follows ConditionInQuery (Front Alone End) at_first
query_follows = record { sound = (refl, refl); brackets = refl; asks = refl }

-- behind the target
behind_target : (o : Option Target) (line : List ℕ) (tokens : List Token) (state : State) → to_next (targeted o) (λ next. reach line next tokens) ≡ Some state → reach line (Front BeforeIf End) tokens ≡ Some state
behind_target None line tokens state h = let none : ⊥ = cc in absurd none
behind_target (Some target) line tokens state h = h

no_target : (o : Option Target) → Refuses (targeted o) NoTarget
no_target None = refuses_err _ _ refl
no_target (Some target) = refuses_ok _ _

pub rule_strays : (line : List ℕ) (before : List Token) (token : Token) (state : State) (kind : FaultKind) → reach line Start before ≡ Some state → step state (word_of line token) token.kind token.start ≡ Err kind → kind ≡ rule_stray_kind line before token
rule_strays line [] token state kind h e =
    let s : Start ≡ state = cc in
    no_target (target_of (word_of line token)) kind (ap (λ s. step s (word_of line token) token.kind token.start) s ∙ e)
rule_strays line (target ∷ before) token state kind h e =
    told Repeated line state token kind (context_of line at_first before) (reach_follows Repeated line before (Front BeforeIf End) state at_first rule_follows (behind_target (target_of (word_of line target)) line before state h)) e

pub query_strays : (line : List ℕ) (before : List Token) (token : Token) (state : State) (kind : FaultKind) → reach line (Front Alone End) before ≡ Some state → step state (word_of line token) token.kind token.start ≡ Err kind → kind ≡ query_stray_kind line before token
query_strays line before token state kind h e = told ConditionInQuery line state token kind (context_of line at_first before) (reach_follows ConditionInQuery line before (Front Alone End) state at_first query_follows h) e

pub rule_ends_early : (line : List ℕ) (tokens : List Token) (state : State) (fault : Fault) → reach line Start tokens ≡ Some state → finish line state ≡ Some fault → fault.kind ≡ rule_early_kind line tokens
rule_ends_early line [] state fault h e =
    let s : Start ≡ state = cc in
    let f : finish line Start ≡ Some fault = ap (finish line) s ∙ e in
    let same : missing NoTarget (ending_in line Start) ≡ fault = cc in
    ap (λ f. f.kind) (sym same)
rule_ends_early line (target ∷ tokens) state fault h e =
    lacks Repeated line state fault (context_of line at_first tokens) (reach_follows Repeated line tokens (Front BeforeIf End) state at_first rule_follows (behind_target (target_of (word_of line target)) line tokens state h)) e

pub query_ends_early : (line : List ℕ) (tokens : List Token) (state : State) (fault : Fault) → reach line (Front Alone End) tokens ≡ Some state → finish line state ≡ Some fault → fault.kind ≡ query_early_kind line tokens
query_ends_early line tokens state fault h e = lacks ConditionInQuery line state fault (context_of line at_first tokens) (reach_follows ConditionInQuery line tokens (Front Alone End) state at_first query_follows h) e
