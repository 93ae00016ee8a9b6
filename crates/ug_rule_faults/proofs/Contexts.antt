-- What a state of the machine waits for is what its tokens ask for.
use Rattle.std.proofs.Common.{◌≡◌, ℕ, Bool, true, false, List, [], ◌∷◌, Option, Some, None, Ok, Err, is_some, refl, sym, ap, subst, ◌∙◌}
use Rattle.ug_words.specs.declared.token.Token.{Token}
use Rattle.ug_words.specs.declared.token.TokenKind.{TokenKind}
use Rattle.ug_words.specs.declared.token.TokenKind.TheVariants as kind
use Rattle.ug_types.specs.declared.rule.Op.{Op}
use Rattle.ug_rule.specs.declared.fault.FaultKind.{FaultKind}
use Rattle.ug_rule.specs.declared.fault.FaultKind.TheVariants.{Repeated, ConditionInQuery}
use Rattle.ug_words.specs.declared.keywords.Attr.{Attr}
use Rattle.ug_words.specs.declared.keywords.Attr.TheVariants as attr
use Rattle.ug_words.specs.declared.keywords.CondName.{CondName}
use Rattle.ug_words.specs.declared.keywords.CondName.TheVariants as name
use Rattle.ug_rule_faults.specs.FaultKinds as asked
use Rattle.ug_rule_faults.specs.FaultKinds.{Bracket, OfItems, OfConditions, OfQuery, OfArgument, Asked, Context, asked_by, asked_by_name, brace_for, parenthesis_for, without_first, context_with, context_behind, context_of}
use Rattle.ug_words.specs.Keywords.{operator_of, attribute_of, condition_of, is_if}
use Rattle.ug_rule.specs.Queries.{has_colon}
use Rattle.ug_rule.specs.Tokens.{word_by, word_of, is_open, is_close, is_paren_open, is_paren_close, is_bang}
use Rattle.ug_words.specs.Words.{id_of, interface_of, span_of, time_of, minute_of, past_of, decimal_of, chance_of, two_stars, zero_point}
use Rattle.ug_rule_faults.proofs.KeywordsApart.{asked_operator, asked_attribute, asked_if, asked_condition, asked_id, asked_interface}
use Rattle.ug_rule_faults.proofs.Machine.{Given, nothing, is_nothing, has, put, Shape, Ids, Interfaces, Strings, fits, Argument, Time, Past, Chance, says, Where, BeforeIf, BehindIf, InQuery, Alone, State, End, Start, Front, Parts, Value, Brace, Items, Text, AfterIf, CondBrace, CondItems, Negated, Opening, Inner, Closing, May, Matches, Step, behind_name, behind_condition, other_part, part, value, named, condition, conditions, step}
use Rattle.ug_rule_faults.proofs.MachineRuns.{to_next, reach, After, after_ok, after_err, after_if}
use Rattle.ug_rule.proofs.Marks.{only_word, opening_brace, closing_brace, opening_paren, closing_paren, bang_kind}

-- ---- states

abbrev pub bracket_at : Where → List Bracket → List Bracket
bracket_at BeforeIf brackets = brackets
bracket_at BehindIf brackets = brackets
bracket_at InQuery brackets = OfQuery ∷ brackets
bracket_at Alone brackets = brackets

-- the brackets that are open in a state
abbrev pub opens : State → List Bracket
opens End = []
opens Start = []
opens (Front place next) = bracket_at place (opens next)
opens (Parts given place next) = bracket_at place (opens next)
opens (Value shape next) = opens next
opens (Brace shape next) = opens next
opens (Items shape some at next) = OfItems ∷ opens next
opens (Text next) = opens next
opens (AfterIf next) = opens next
opens (CondBrace next) = opens next
opens (CondItems some at next) = OfConditions ∷ opens next
opens (Negated next) = opens next
opens (Opening argument next) = opens next
opens (Inner argument next) = OfArgument ∷ opens next
opens (Closing next) = OfArgument ∷ opens next
opens (May argument next) = opens next
opens (Matches next) = opens next

abbrev pub asked_in : Bool → Asked
asked_in true = asked.Part
asked_in false = asked.FirstItem

-- what the last token left to be said
abbrev pub Asks : State → Asked → Type 0
Asks End a = ⊥
Asks Start a = ⊥
Asks (Front place next) a = a ≡ asked.First
Asks (Parts given place next) a = a ≡ asked.Part
Asks (Value shape next) a = a ≡ asked.Value
Asks (Brace shape next) a = a ≡ asked.Value
Asks (Items shape some at next) a = a ≡ asked_in some
Asks (Text next) a = a ≡ asked.Value
Asks (AfterIf next) a = a ≡ asked.Condition
Asks (CondBrace next) a = a ≡ asked.Condition
Asks (CondItems some at next) a = a ≡ asked_in some
Asks (Negated next) a = a ≡ asked.Condition
Asks (Opening argument next) a = a ≡ asked.Condition
Asks (Inner argument next) a = Unit {0}
Asks (Closing next) a = Unit {0}
Asks (May argument next) a = a ≡ asked.Part
Asks (Matches next) a = a ≡ asked.Query

-- a query in parentheses goes on within a condition, and nothing stands behind the parts of a line
abbrev pub Outer : FaultKind → Where → State → Type 0 → Type 0
Outer of_if BeforeIf next inner = (next ≡ End) × (of_if ≡ Repeated)
Outer of_if BehindIf next inner = (next ≡ End) × (of_if ≡ Repeated)
Outer of_if InQuery next inner = inner
Outer of_if Alone next inner = (next ≡ End) × (of_if ≡ ConditionInQuery)

-- what may stand behind a condition
abbrev pub IsNext : FaultKind → State → Type 0
IsNext of_if End = ⊥
IsNext of_if Start = ⊥
IsNext of_if (Front place next) = ⊥
IsNext of_if (Parts given place next) = Outer of_if place next (IsNext of_if next)
IsNext of_if (Value shape next) = ⊥
IsNext of_if (Brace shape next) = ⊥
IsNext of_if (Items shape some at next) = ⊥
IsNext of_if (Text next) = ⊥
IsNext of_if (AfterIf next) = ⊥
IsNext of_if (CondBrace next) = ⊥
IsNext of_if (CondItems true at next) = IsNext of_if next
IsNext of_if (CondItems false at next) = ⊥
IsNext of_if (Negated next) = ⊥
IsNext of_if (Opening argument next) = ⊥
IsNext of_if (Inner argument next) = ⊥
IsNext of_if (Closing next) = ⊥
IsNext of_if (May argument next) = ⊥
IsNext of_if (Matches next) = ⊥

-- what may stand behind a value
pub record IsParts (of_if : FaultKind) (state : State) : Type 0 where
  pub given : Given
  pub place : Where
  pub next : State
  pub is : state ≡ Parts given place next
  pub outer : Outer of_if place next (IsNext of_if next)

pub parts_next : (of_if : FaultKind) (state : State) → IsParts of_if state → IsNext of_if state
parts_next of_if state p = subst (IsNext of_if) (sym p.is) p.outer

-- states that tokens lead to
abbrev pub Sound : FaultKind → State → Type 0
Sound of_if End = ⊥
Sound of_if Start = ⊥
Sound of_if (Front place next) = Outer of_if place next (IsNext of_if next)
Sound of_if (Parts given place next) = Outer of_if place next (IsNext of_if next)
Sound of_if (Value shape next) = IsParts of_if next
Sound of_if (Brace shape next) = IsParts of_if next
Sound of_if (Items shape some at next) = IsParts of_if next
Sound of_if (Text next) = IsParts of_if next
Sound of_if (AfterIf next) = IsNext of_if next
Sound of_if (CondBrace next) = IsNext of_if next
Sound of_if (CondItems some at next) = IsNext of_if next
Sound of_if (Negated next) = IsNext of_if next
Sound of_if (Opening argument next) = IsNext of_if next
Sound of_if (Inner argument next) = IsNext of_if next
Sound of_if (Closing next) = IsNext of_if next
Sound of_if (May argument next) = IsNext of_if next
Sound of_if (Matches next) = IsNext of_if next

pub record Follows (of_if : FaultKind) (state : State) (context : Context) : Type 0 where
  pub sound : Sound of_if state
  pub brackets : context.brackets ≡ opens state
  pub asks : Asks state context.asked

-- a value or a condition has ended
ended : (of_if : FaultKind) (next : State) (brackets : List Bracket) → IsNext of_if next → brackets ≡ opens next → Follows of_if next (context_with asked.Part brackets)
ended of_if End brackets n o = absurd n
ended of_if Start brackets n o = absurd n
ended of_if (Front place next) brackets n o = absurd n
ended of_if (Parts given place next) brackets n o = record { sound = n; brackets = o; asks = refl }
ended of_if (Value shape next) brackets n o = absurd n
ended of_if (Brace shape next) brackets n o = absurd n
ended of_if (Items shape some at next) brackets n o = absurd n
ended of_if (Text next) brackets n o = absurd n
ended of_if (AfterIf next) brackets n o = absurd n
ended of_if (CondBrace next) brackets n o = absurd n
ended of_if (CondItems true at next) brackets n o = record { sound = n; brackets = o; asks = refl }
ended of_if (CondItems false at next) brackets n o = absurd n
ended of_if (Negated next) brackets n o = absurd n
ended of_if (Opening argument next) brackets n o = absurd n
ended of_if (Inner argument next) brackets n o = absurd n
ended of_if (Closing next) brackets n o = absurd n
ended of_if (May argument next) brackets n o = absurd n
ended of_if (Matches next) brackets n o = absurd n

-- ---- contexts behind a token

behind_open : (word : List ℕ) (kind : TokenKind) (c : Context) → is_open kind ≡ true → context_behind word kind c ≡ context_with asked.FirstItem (brace_for c.asked ∷ c.brackets)
behind_open word kind c h = ap (λ k. context_behind word k c) (opening_brace kind h)

behind_close : (word : List ℕ) (kind : TokenKind) (c : Context) → is_close kind ≡ true → context_behind word kind c ≡ context_with asked.Part (without_first c.brackets)
behind_close word kind c h = ap (λ k. context_behind word k c) (closing_brace kind h)

behind_paren_open : (word : List ℕ) (kind : TokenKind) (c : Context) → is_paren_open kind ≡ true → context_behind word kind c ≡ context_with asked.First (parenthesis_for c.asked ∷ c.brackets)
behind_paren_open word kind c h = ap (λ k. context_behind word k c) (opening_paren kind h)

behind_paren_close : (word : List ℕ) (kind : TokenKind) (c : Context) → is_paren_close kind ≡ true → context_behind word kind c ≡ context_with asked.Part (without_first c.brackets)
behind_paren_close word kind c h = ap (λ k. context_behind word k c) (closing_paren kind h)

behind_bang : (word : List ℕ) (kind : TokenKind) (c : Context) → is_bang kind ≡ true → context_behind word kind c ≡ context_with asked.Condition c.brackets
behind_bang word kind c h = ap (λ k. context_behind word k c) (bang_kind kind h)

behind_word : (test : List ℕ → Bool) → test [] ≡ false → (line : List ℕ) (kind : TokenKind) (start end : ℕ) (c : Context) → test (word_by line kind start end) ≡ true → context_behind (word_by line kind start end) kind c ≡ context_with (asked_by (word_by line kind start end) c.asked) c.brackets
behind_word test n line kind start end c h = ap (λ k. context_behind (word_by line kind start end) k c) (only_word test n line kind start end h)

behind_string : (line : List ℕ) (kind : TokenKind) (start end : ℕ) (c : Context) → fits Strings (word_by line kind start end) kind ≡ true → context_behind (word_by line kind start end) kind c ≡ context_with asked.Part c.brackets
behind_string line kind.Word start end c h = let none : ⊥ = cc in absurd none
behind_string line (kind.Str text) start end c h = refl
behind_string line kind.Open start end c h = let none : ⊥ = cc in absurd none
behind_string line kind.Close start end c h = let none : ⊥ = cc in absurd none
behind_string line kind.ParenOpen start end c h = let none : ⊥ = cc in absurd none
behind_string line kind.ParenClose start end c h = let none : ⊥ = cc in absurd none
behind_string line kind.Bang start end c h = let none : ⊥ = cc in absurd none

behind_item : (shape : Shape) (line : List ℕ) (kind : TokenKind) (start end : ℕ) (c : Context) → fits shape (word_by line kind start end) kind ≡ true → context_behind (word_by line kind start end) kind c ≡ context_with asked.Part c.brackets
unfolding id_of interface_of two_stars
behind_item Ids line kind start end c h = behind_word (λ w. is_some (id_of w)) refl line kind start end c h ∙ ap (λ a. context_with a c.brackets) (asked_id (word_by line kind start end) c.asked h)
behind_item Interfaces line kind start end c h = behind_word (λ w. is_some (interface_of w)) refl line kind start end c h ∙ ap (λ a. context_with a c.brackets) (asked_interface (word_by line kind start end) c.asked h)
behind_item Strings line kind start end c h = behind_string line kind start end c h

behind_operator : (line : List ℕ) (kind : TokenKind) (start end : ℕ) (c : Context) (op : Op) → operator_of (word_by line kind start end) ≡ Some op → context_behind (word_by line kind start end) kind c ≡ context_with c.asked c.brackets
unfolding operator_of
behind_operator line kind start end c op h = behind_word (λ w. is_some (operator_of w)) refl line kind start end c (ap is_some h) ∙ ap (λ a. context_with a c.brackets) (asked_operator (word_by line kind start end) c.asked op h)

behind_attribute : (line : List ℕ) (kind : TokenKind) (start end : ℕ) (c : Context) (attr : Attr) → attribute_of (word_by line kind start end) ≡ Some attr → context_behind (word_by line kind start end) kind c ≡ context_with asked.Value c.brackets
unfolding attribute_of
behind_attribute line kind start end c attr h = behind_word (λ w. is_some (attribute_of w)) refl line kind start end c (ap is_some h) ∙ ap (λ a. context_with a c.brackets) (asked_attribute (word_by line kind start end) c.asked attr h)

behind_if : (line : List ℕ) (kind : TokenKind) (start end : ℕ) (c : Context) → is_if (word_by line kind start end) ≡ true → context_behind (word_by line kind start end) kind c ≡ context_with asked.Condition c.brackets
unfolding is_if
behind_if line kind start end c h = behind_word is_if refl line kind start end c h ∙ ap (λ a. context_with a c.brackets) (asked_if (word_by line kind start end) c.asked h)

behind_named : (line : List ℕ) (kind : TokenKind) (start end : ℕ) (c : Context) (name : CondName) → condition_of (word_by line kind start end) ≡ Some name → context_behind (word_by line kind start end) kind c ≡ context_with (asked_by_name (Some name)) c.brackets
unfolding condition_of
behind_named line kind start end c name h = behind_word (λ w. is_some (condition_of w)) refl line kind start end c (ap is_some h) ∙ ap (λ a. context_with a c.brackets) (asked_condition (word_by line kind start end) c.asked name h)

behind_argument : (argument : Argument) (line : List ℕ) (kind : TokenKind) (start end : ℕ) (c : Context) → says argument (word_by line kind start end) ≡ true → context_behind (word_by line kind start end) kind c ≡ context_with (asked_by (word_by line kind start end) c.asked) c.brackets
unfolding span_of time_of minute_of past_of decimal_of chance_of zero_point
behind_argument Time line kind start end c h = behind_word (λ w. is_some (span_of w)) refl line kind start end c h
behind_argument Past line kind start end c h = behind_word (λ w. is_some (past_of w)) refl line kind start end c h
behind_argument Chance line kind start end c h = behind_word (λ w. is_some (chance_of w)) refl line kind start end c h

-- ---- a step

abbrev Leads : FaultKind → Step → Context → Type 0
Leads of_if r context = After (λ state. Follows of_if state context) r

leads_ok : (of_if : FaultKind) (state : State) (context is : Context) → context ≡ is → Follows of_if state is → Leads of_if (Ok state) context
leads_ok of_if state context is e f = after_ok _ state (subst (Follows of_if state) (sym e) f)

value_follows : (of_if : FaultKind) (attr : Attr) (next : State) (brackets : List Bracket) → IsParts of_if next → brackets ≡ opens next → Follows of_if (behind_name attr next) (context_with asked.Value brackets)
value_follows of_if attr.Id next brackets p o = record { sound = p; brackets = o; asks = refl }
value_follows of_if attr.Serial next brackets p o = record { sound = p; brackets = o; asks = refl }
value_follows of_if attr.Name next brackets p o = record { sound = p; brackets = o; asks = refl }
value_follows of_if attr.Hash next brackets p o = record { sound = p; brackets = o; asks = refl }
value_follows of_if attr.ParentHash next brackets p o = record { sound = p; brackets = o; asks = refl }
value_follows of_if attr.ViaPort next brackets p o = record { sound = p; brackets = o; asks = refl }
value_follows of_if attr.Interface next brackets p o = record { sound = p; brackets = o; asks = refl }
value_follows of_if attr.Connect next brackets p o = record { sound = p; brackets = o; asks = refl }
value_follows of_if attr.Label next brackets p o = record { sound = p; brackets = o; asks = refl }

condition_follows : (of_if : FaultKind) (name : CondName) (next : State) (brackets : List Bracket) → IsNext of_if next → brackets ≡ opens next → Follows of_if (behind_condition name next) (context_with (asked_by_name (Some name)) brackets)
condition_follows of_if name.LocalTime next brackets n o = record { sound = n; brackets = o; asks = refl }
condition_follows of_if name.AllowedMatches next brackets n o = record { sound = n; brackets = o; asks = refl }
condition_follows of_if name.RuleApplied next brackets n o = record { sound = n; brackets = o; asks = refl }
condition_follows of_if name.RuleEvaluated next brackets n o = record { sound = n; brackets = o; asks = refl }
condition_follows of_if name.Random next brackets n o = record { sound = n; brackets = o; asks = refl }
condition_follows of_if name.True next brackets n o = ended of_if next brackets n o
condition_follows of_if name.False next brackets n o = ended of_if next brackets n o

-- a token at the front of a part
other_leads : (of_if : FaultKind) (line : List ℕ) (place : Where) (given : Given) (kind : TokenKind) (start end : ℕ) (next : State) (c : Context) → Outer of_if place next (IsNext of_if next) → c.brackets ≡ bracket_at place (opens next)
    → Leads of_if (other_part place given (word_by line kind start end) kind next) (context_behind (word_by line kind start end) kind c)
other_leads of_if line BeforeIf given kind start end next c u o =
    after_if _ (is_if (word_by line kind start end)) _ _
    (λ i. leads_ok of_if (AfterIf (Parts given BehindIf next)) _ _ (behind_if line kind start end c i) (record { sound = u; brackets = o; asks = refl }))
    (λ i. after_err _ _)
other_leads of_if line BehindIf given kind start end next c u o = after_err _ _
other_leads of_if line InQuery given kind start end next c u o =
    after_if _ (is_paren_close kind) _ _
    (λ p. after_if _ (is_nothing given) _ _ (λ n. after_err _ _)
    (λ n. leads_ok of_if next _ _ (behind_paren_close (word_by line kind start end) kind c p) (ended of_if next (without_first c.brackets) u (ap without_first o))))
    (λ p. after_err _ _)
other_leads of_if line Alone given kind start end next c u o = after_err _ _

part_leads : (of_if : FaultKind) (line : List ℕ) (o : Option Attr) (place : Where) (given : Given) (kind : TokenKind) (start end : ℕ) (next : State) (c : Context) → attribute_of (word_by line kind start end) ≡ o → Outer of_if place next (IsNext of_if next) → c.brackets ≡ bracket_at place (opens next)
    → Leads of_if (part o place given (word_by line kind start end) kind next) (context_behind (word_by line kind start end) kind c)
part_leads of_if line None place given kind start end next c e u o = other_leads of_if line place given kind start end next c u o
part_leads of_if line (Some attr) place given kind start end next c e u o =
    after_if _ (has attr given) _ _ (λ h. after_err _ _)
    (λ h. leads_ok of_if (behind_name attr (Parts (put attr given) place next)) _ _ (behind_attribute line kind start end c attr e)
    (value_follows of_if attr (Parts (put attr given) place next) c.brackets (record { given = put attr given; place = place; next = next; is = refl; outer = u }) o))

named_leads : (of_if : FaultKind) (line : List ℕ) (o : Option CondName) (kind : TokenKind) (start end : ℕ) (next : State) (c : Context) → condition_of (word_by line kind start end) ≡ o → IsNext of_if next → c.brackets ≡ opens next
    → Leads of_if (named o next) (context_behind (word_by line kind start end) kind c)
named_leads of_if line None kind start end next c e n o = after_err _ _
named_leads of_if line (Some name) kind start end next c e n o = leads_ok of_if (behind_condition name next) _ _ (behind_named line kind start end c name e) (condition_follows of_if name next c.brackets n o)

condition_leads : (of_if : FaultKind) (line : List ℕ) (kind : TokenKind) (start end : ℕ) (next : State) (c : Context) → IsNext of_if next → c.brackets ≡ opens next
    → Leads of_if (condition (word_by line kind start end) kind next) (context_behind (word_by line kind start end) kind c)
condition_leads of_if line kind start end next c n o =
    after_if _ (is_bang kind) _ _
    (λ b. leads_ok of_if (Negated next) _ _ (behind_bang (word_by line kind start end) kind c b) (record { sound = n; brackets = o; asks = refl }))
    (λ b. named_leads of_if line (condition_of (word_by line kind start end)) kind start end next c refl n o)

conditions_lead : (of_if : FaultKind) (line : List ℕ) (p : Option Op) (kind : TokenKind) (start end : ℕ) (next : State) (c : Context) → operator_of (word_by line kind start end) ≡ p → IsNext of_if next → c.brackets ≡ opens next → c.asked ≡ asked.Condition
    → Leads of_if (conditions p (word_by line kind start end) kind next) (context_behind (word_by line kind start end) kind c)
conditions_lead of_if line None kind start end next c e n o a = condition_leads of_if line kind start end next c n o
conditions_lead of_if line (Some op) kind start end next c e n o a = leads_ok of_if (CondBrace next) _ _ (behind_operator line kind start end c op e) (record { sound = n; brackets = o; asks = a })

value_leads : (of_if : FaultKind) (line : List ℕ) (p : Option Op) (shape : Shape) (kind : TokenKind) (start end : ℕ) (next : State) (c : Context) → operator_of (word_by line kind start end) ≡ p → IsParts of_if next → c.brackets ≡ opens next → c.asked ≡ asked.Value
    → Leads of_if (value p shape (word_by line kind start end) kind next) (context_behind (word_by line kind start end) kind c)
value_leads of_if line None shape kind start end next c e n o a =
    after_if _ (fits shape (word_by line kind start end) kind) _ _
    (λ f. leads_ok of_if next _ _ (behind_item shape line kind start end c f) (ended of_if next c.brackets (parts_next of_if next n) o))
    (λ f. after_err _ _)
value_leads of_if line (Some op) shape kind start end next c e n o a = leads_ok of_if (Brace shape next) _ _ (behind_operator line kind start end c op e) (record { sound = n; brackets = o; asks = a })

items_lead : (of_if : FaultKind) (word : List ℕ) (shape : Shape) (kind : TokenKind) (start : ℕ) (next : State) (c : Context) → is_open kind ≡ true → IsParts of_if next → c.brackets ≡ opens next → c.asked ≡ asked.Value
    → Leads of_if (Ok (Items shape false start next)) (context_behind word kind c)
items_lead of_if word shape kind start next c b n o a =
    leads_ok of_if (Items shape false start next) _ _ (behind_open word kind c b) (record { sound = n; brackets = ap (λ a. brace_for a ∷ c.brackets) a ∙ ap (λ l. OfItems ∷ l) o; asks = refl })

conds_lead : (of_if : FaultKind) (word : List ℕ) (kind : TokenKind) (start : ℕ) (next : State) (c : Context) → is_open kind ≡ true → IsNext of_if next → c.brackets ≡ opens next → c.asked ≡ asked.Condition
    → Leads of_if (Ok (CondItems false start next)) (context_behind word kind c)
conds_lead of_if word kind start next c b n o a =
    leads_ok of_if (CondItems false start next) _ _ (behind_open word kind c b) (record { sound = n; brackets = ap (λ a. brace_for a ∷ c.brackets) a ∙ ap (λ l. OfConditions ∷ l) o; asks = refl })

inner_leads : (of_if : FaultKind) (word : List ℕ) (argument : Argument) (kind : TokenKind) (next : State) (c : Context) → is_paren_open kind ≡ true → IsNext of_if next → c.brackets ≡ opens next → parenthesis_for c.asked ≡ OfArgument
    → Leads of_if (Ok (Inner argument next)) (context_behind word kind c)
inner_leads of_if word argument kind next c p n o a =
    leads_ok of_if (Inner argument next) _ _ (behind_paren_open word kind c p) (record { sound = n; brackets = ap (λ b. b ∷ c.brackets) a ∙ ap (λ l. OfArgument ∷ l) o; asks = tt })

step_leads : (of_if : FaultKind) (line : List ℕ) (state : State) (kind : TokenKind) (start end : ℕ) (c : Context) → Follows of_if state c → Leads of_if (step state (word_by line kind start end) kind start) (context_behind (word_by line kind start end) kind c)
step_leads of_if line End kind start end c f = absurd f.sound
step_leads of_if line Start kind start end c f = absurd f.sound
step_leads of_if line (Front place next) kind start end c f =
    after_if _ (has_colon (word_by line kind start end)) _ _
    (λ h. after_if _ (is_some (id_of (word_by line kind start end))) _ _
    (λ i. leads_ok of_if (Parts (put attr.Id nothing) place next) _ _ (behind_item Ids line kind start end c i) (record { sound = f.sound; brackets = f.brackets; asks = refl }))
    (λ i. after_err _ _))
    (λ h. part_leads of_if line (attribute_of (word_by line kind start end)) place nothing kind start end next c refl f.sound f.brackets)
step_leads of_if line (Parts given place next) kind start end c f = part_leads of_if line (attribute_of (word_by line kind start end)) place given kind start end next c refl f.sound f.brackets
step_leads of_if line (Value shape next) kind start end c f =
    after_if _ (is_open kind) _ _ (λ b. items_lead of_if (word_by line kind start end) shape kind start next c b f.sound f.brackets f.asks)
    (λ b. value_leads of_if line (operator_of (word_by line kind start end)) shape kind start end next c refl f.sound f.brackets f.asks)
step_leads of_if line (Brace shape next) kind start end c f =
    after_if _ (is_open kind) _ _ (λ b. items_lead of_if (word_by line kind start end) shape kind start next c b f.sound f.brackets f.asks) (λ b. after_err _ _)
step_leads of_if line (Items shape some at next) kind start end c f =
    after_if _ (is_close kind) _ _
    (λ b. after_if _ some _ _ (λ s. leads_ok of_if next _ _ (behind_close (word_by line kind start end) kind c b) (ended of_if next (without_first c.brackets) (parts_next of_if next f.sound) (ap without_first f.brackets))) (λ s. after_err _ _))
    (λ b. after_if _ (fits shape (word_by line kind start end) kind) _ _ (λ i. leads_ok of_if (Items shape true at next) _ _ (behind_item shape line kind start end c i) (record { sound = f.sound; brackets = f.brackets; asks = refl })) (λ i. after_err _ _))
step_leads of_if line (Text next) kind start end c f =
    after_if _ (fits Strings (word_by line kind start end) kind) _ _
    (λ i. leads_ok of_if next _ _ (behind_item Strings line kind start end c i) (ended of_if next c.brackets (parts_next of_if next f.sound) f.brackets)) (λ i. after_err _ _)
step_leads of_if line (AfterIf next) kind start end c f =
    after_if _ (is_open kind) _ _ (λ b. conds_lead of_if (word_by line kind start end) kind start next c b f.sound f.brackets f.asks)
    (λ b. conditions_lead of_if line (operator_of (word_by line kind start end)) kind start end next c refl f.sound f.brackets f.asks)
step_leads of_if line (CondBrace next) kind start end c f =
    after_if _ (is_open kind) _ _ (λ b. conds_lead of_if (word_by line kind start end) kind start next c b f.sound f.brackets f.asks) (λ b. after_err _ _)
step_leads of_if line (CondItems some at next) kind start end c f =
    after_if _ (is_close kind) _ _
    (λ b. after_if _ some _ _ (λ s. leads_ok of_if next _ _ (behind_close (word_by line kind start end) kind c b) (ended of_if next (without_first c.brackets) f.sound (ap without_first f.brackets))) (λ s. after_err _ _))
    (λ b. condition_leads of_if line kind start end (CondItems true at next) c f.sound f.brackets)
step_leads of_if line (Negated next) kind start end c f = named_leads of_if line (condition_of (word_by line kind start end)) kind start end next c refl f.sound f.brackets
step_leads of_if line (Opening argument next) kind start end c f =
    after_if _ (is_paren_open kind) _ _ (λ p. inner_leads of_if (word_by line kind start end) argument kind next c p f.sound f.brackets (ap parenthesis_for f.asks)) (λ p. after_err _ _)
step_leads of_if line (Inner argument next) kind start end c f =
    after_if _ (says argument (word_by line kind start end)) _ _
    (λ s. leads_ok of_if (Closing next) _ _ (behind_argument argument line kind start end c s) (record { sound = f.sound; brackets = f.brackets; asks = tt })) (λ s. after_err _ _)
step_leads of_if line (Closing next) kind start end c f =
    after_if _ (is_paren_close kind) _ _
    (λ p. leads_ok of_if next _ _ (behind_paren_close (word_by line kind start end) kind c p) (ended of_if next (without_first c.brackets) f.sound (ap without_first f.brackets))) (λ p. after_err _ _)
step_leads of_if line (May argument next) kind start end c f =
    after_if _ (is_paren_open kind) _ _ (λ p. inner_leads of_if (word_by line kind start end) argument kind next c p f.sound f.brackets (ap parenthesis_for f.asks))
    (λ p. step_leads of_if line next kind start end c (subst (Follows of_if next) (ap (λ a. context_with a c.brackets) (sym f.asks)) (ended of_if next c.brackets f.sound f.brackets)))
step_leads of_if line (Matches next) kind start end c f =
    after_if _ (is_paren_open kind) _ _
    (λ p. leads_ok of_if (Front InQuery next) _ _ (behind_paren_open (word_by line kind start end) kind c p)
    (record { sound = f.sound; brackets = ap (λ a. parenthesis_for a ∷ c.brackets) f.asks ∙ ap (λ l. OfQuery ∷ l) f.brackets; asks = refl }))
    (λ p. after_err _ _)

pub reach_follows : (of_if : FaultKind) (line : List ℕ) (tokens : List Token) (from state : State) (c : Context) → Follows of_if from c → reach line from tokens ≡ Some state → Follows of_if state (context_of line c tokens)
reach_follows of_if line [] from state c f h = let e : from ≡ state = cc in subst (λ s. Follows of_if s c) e f
reach_follows of_if line (token ∷ tokens) from state c f h =
    let next : Context = context_behind (word_of line token) token.kind c in
    let T : Step → Type 0 = λ r. step from (word_of line token) token.kind token.start ≡ r → to_next r (λ next. reach line next tokens) ≡ Some state → Follows of_if state (context_of line next tokens) in
    let g : (r : Step) → T r = λ r. elim r as T [
      | Ok s ↦ λ e k. reach_follows of_if line tokens s state next (step_leads of_if line from token.kind token.start token.end c f s e) k
      | Err kind ↦ λ e k. let none : ⊥ = cc in absurd none
    ] in
    g (step from (word_of line token) token.kind token.start) refl h
