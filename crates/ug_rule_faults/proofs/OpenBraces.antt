-- The braces that are open in a state are those that its tokens leave open.
use Rattle.std.proofs.Common.{◌≡◌, ℕ, inl, inr, Bool, true, false, List, [], ◌∷◌, length, Option, Some, None, Ok, Err, is_some, refl, sym, ap, ◌∙◌}
use Rattle.ug_words.specs.declared.token.Token.{Token}
use Rattle.ug_words.specs.declared.token.TokenKind.{TokenKind}
use Rattle.ug_words.specs.declared.token.TokenKind.TheVariants.{Word, Str, Open, Close, ParenOpen, ParenClose, Bang}
use Rattle.ug_types.specs.declared.rule.Op.{Op}
use Rattle.ug_types.specs.declared.verdict.Target.{Target}
use Rattle.ug_rule.specs.declared.fault.Fault.{Fault}
use Rattle.ug_rule.specs.declared.fault.FaultKind.{FaultKind}
use Rattle.ug_words.specs.declared.keywords.Attr.{Attr}
use Rattle.ug_words.specs.declared.keywords.Attr.TheVariants as attr
use Rattle.ug_words.specs.declared.keywords.CondName.{CondName}
use Rattle.ug_words.specs.declared.keywords.CondName.TheVariants as name
use Rattle.ug_rule.specs.declared.fault.FaultKind.TheVariants.{BadValue}
use Rattle.ug_rule.specs.Faults.{missing, missing_by, outermost}
use Rattle.ug_rule_faults.specs.FirstFault.{braces_behind, open_braces, place_at_end}
use Rattle.ug_words.specs.Keywords.{operator_of, attribute_of, condition_of, is_if}
use Rattle.ug_types.specs.Targets.{target_of}
use Rattle.ug_rule.specs.Queries.{has_colon}
use Rattle.ug_rule.specs.Tokens.{word_by, word_of, is_open, is_close, is_paren_open, is_paren_close, is_bang}
use Rattle.ug_words.specs.Words.{id_of, interface_of, span_of, time_of, minute_of, past_of, decimal_of, chance_of, two_stars, zero_point}
use Rattle.ug_words.proofs.Tests.{by_test}
use Rattle.ug_rule_faults.proofs.Machine.{Given, nothing, is_nothing, has, put, Shape, Ids, Interfaces, Strings, fits, Argument, Time, Past, Chance, says, Where, BeforeIf, BehindIf, InQuery, Alone, State, End, Start, Front, Parts, Value, Brace, Items, Text, AfterIf, CondBrace, CondItems, Negated, Opening, Inner, Closing, May, Matches, Step, behind_name, behind_condition, other_part, part, value, named, condition, conditions, targeted, step, braces, bottom, ending_in, parts_end, finish}
use Rattle.ug_rule_faults.proofs.MachineRuns.{to_next, reach, After, after_ok, after_err, after_if}
use Rattle.ug_rule.proofs.Marks.{only_word, opening_brace, closing_brace, opening_paren, closing_paren, bang_kind}

-- ---- at the end of a line

inner_passed : (place outer : ℕ) (o : Option ℕ) → outermost place (outermost outer o) ≡ outermost outer o
inner_passed place outer None = refl
inner_passed place outer (Some brace) = refl

missing_place : (kind : FaultKind) (end : ℕ) (places : List ℕ) → (missing_by kind (bottom places) end).place ≡ place_at_end end places
missing_place kind end [] = refl
missing_place kind end (place ∷ []) = refl
missing_place kind end (place ∷ outer ∷ places) = ap (λ o. (missing_by kind o end).place) (inner_passed place outer (bottom places)) ∙ missing_place kind end (outer ∷ places)

lacks_place : (kind : FaultKind) (line : List ℕ) (places : List ℕ) (fault : Fault) → Some (missing kind (record { brace = bottom places; length = length line })) ≡ Some fault → fault.place ≡ place_at_end (length line) places
lacks_place kind line places fault h =
    let e : missing kind (record { brace = bottom places; length = length line }) ≡ fault = cc in
    ap (λ f. f.place) (sym e) ∙ missing_place kind (length line) places

parts_place : (line : List ℕ) (place : Where) (given : Given) (next : State) (fault : Fault) → parts_end place given (ending_in line next) ≡ Some fault → fault.place ≡ place_at_end (length line) (braces next)
parts_place line BeforeIf given next fault h = let none : ⊥ = cc in absurd none
parts_place line BehindIf given next fault h = let none : ⊥ = cc in absurd none
parts_place line InQuery given next fault h = lacks_place _ line (braces next) fault h
parts_place line Alone given next fault h = elim (by_test (is_nothing given) (Some (missing BadValue (ending_in line next))) None (Some fault) h) [
  | inl p ↦ lacks_place BadValue line (braces next) fault p.1
  | inr p ↦ let none : ⊥ = cc in absurd none
]

pub finish_place : (line : List ℕ) (state : State) (fault : Fault) → finish line state ≡ Some fault → fault.place ≡ place_at_end (length line) (braces state)
finish_place line End fault h = let none : ⊥ = cc in absurd none
finish_place line Start fault h = lacks_place _ line [] fault h
finish_place line (Front place next) fault h = parts_place line place nothing next fault h
finish_place line (Parts given place next) fault h = parts_place line place given next fault h
finish_place line (Value shape next) fault h = lacks_place _ line (braces next) fault h
finish_place line (Brace shape next) fault h = lacks_place _ line (braces next) fault h
finish_place line (Items shape some at next) fault h = lacks_place _ line (at ∷ braces next) fault h
finish_place line (Text next) fault h = lacks_place _ line (braces next) fault h
finish_place line (AfterIf next) fault h = lacks_place _ line (braces next) fault h
finish_place line (CondBrace next) fault h = lacks_place _ line (braces next) fault h
finish_place line (CondItems some at next) fault h = lacks_place _ line (at ∷ braces next) fault h
finish_place line (Negated next) fault h = lacks_place _ line (braces next) fault h
finish_place line (Opening argument next) fault h = lacks_place _ line (braces next) fault h
finish_place line (Inner argument next) fault h = lacks_place _ line (braces next) fault h
finish_place line (Closing next) fault h = lacks_place _ line (braces next) fault h
finish_place line (May argument next) fault h = finish_place line next fault h
finish_place line (Matches next) fault h = lacks_place _ line (braces next) fault h

-- ---- tokens that are no brace

abbrev IsPlain : TokenKind → ℕ → List ℕ → Type 0
IsPlain kind start places = braces_behind kind start places ≡ places

plain_word : (test : List ℕ → Bool) → test [] ≡ false → (line : List ℕ) (kind : TokenKind) (start end : ℕ) (places : List ℕ) → test (word_by line kind start end) ≡ true → IsPlain kind start places
plain_word test n line kind start end places h = ap (λ k. braces_behind k start places) (only_word test n line kind start end h)

plain_fits : (shape : Shape) (line : List ℕ) (kind : TokenKind) (start end : ℕ) (places : List ℕ) → fits shape (word_by line kind start end) kind ≡ true → IsPlain kind start places
unfolding id_of interface_of two_stars
plain_fits Ids line kind start end places h = plain_word (λ w. is_some (id_of w)) refl line kind start end places h
plain_fits Interfaces line kind start end places h = plain_word (λ w. is_some (interface_of w)) refl line kind start end places h
plain_fits Strings line Word start end places h = refl
plain_fits Strings line (Str text) start end places h = refl
plain_fits Strings line Open start end places h = let none : ⊥ = cc in absurd none
plain_fits Strings line Close start end places h = let none : ⊥ = cc in absurd none
plain_fits Strings line ParenOpen start end places h = refl
plain_fits Strings line ParenClose start end places h = refl
plain_fits Strings line Bang start end places h = refl

plain_says : (argument : Argument) (line : List ℕ) (kind : TokenKind) (start end : ℕ) (places : List ℕ) → says argument (word_by line kind start end) ≡ true → IsPlain kind start places
unfolding span_of time_of minute_of past_of decimal_of chance_of zero_point
plain_says Time line kind start end places h = plain_word (λ w. is_some (span_of w)) refl line kind start end places h
plain_says Past line kind start end places h = plain_word (λ w. is_some (past_of w)) refl line kind start end places h
plain_says Chance line kind start end places h = plain_word (λ w. is_some (chance_of w)) refl line kind start end places h

plain_if : (line : List ℕ) (kind : TokenKind) (start end : ℕ) (places : List ℕ) → is_if (word_by line kind start end) ≡ true → IsPlain kind start places
unfolding is_if
plain_if line kind start end places h = plain_word is_if refl line kind start end places h

plain_attribute : (line : List ℕ) (kind : TokenKind) (start end : ℕ) (places : List ℕ) (attr : Attr) → attribute_of (word_by line kind start end) ≡ Some attr → IsPlain kind start places
unfolding attribute_of
plain_attribute line kind start end places attr h = plain_word (λ w. is_some (attribute_of w)) refl line kind start end places (ap is_some h)

plain_condition : (line : List ℕ) (kind : TokenKind) (start end : ℕ) (places : List ℕ) (name : CondName) → condition_of (word_by line kind start end) ≡ Some name → IsPlain kind start places
unfolding condition_of
plain_condition line kind start end places name h = plain_word (λ w. is_some (condition_of w)) refl line kind start end places (ap is_some h)

plain_operator : (line : List ℕ) (kind : TokenKind) (start end : ℕ) (places : List ℕ) (op : Op) → operator_of (word_by line kind start end) ≡ Some op → IsPlain kind start places
unfolding operator_of
plain_operator line kind start end places op h = plain_word (λ w. is_some (operator_of w)) refl line kind start end places (ap is_some h)

plain_target : (line : List ℕ) (kind : TokenKind) (start end : ℕ) (places : List ℕ) (target : Target) → target_of (word_by line kind start end) ≡ Some target → IsPlain kind start places
unfolding target_of
plain_target line kind start end places target h = plain_word (λ w. is_some (target_of w)) refl line kind start end places (ap is_some h)

plain_paren_open : (kind : TokenKind) (start : ℕ) (places : List ℕ) → is_paren_open kind ≡ true → IsPlain kind start places
plain_paren_open kind start places h = ap (λ k. braces_behind k start places) (opening_paren kind h)

plain_paren_close : (kind : TokenKind) (start : ℕ) (places : List ℕ) → is_paren_close kind ≡ true → IsPlain kind start places
plain_paren_close kind start places h = ap (λ k. braces_behind k start places) (closing_paren kind h)

plain_bang : (kind : TokenKind) (start : ℕ) (places : List ℕ) → is_bang kind ≡ true → IsPlain kind start places
plain_bang kind start places h = ap (λ k. braces_behind k start places) (bang_kind kind h)

opens : (kind : TokenKind) (start : ℕ) (places : List ℕ) → is_open kind ≡ true → braces_behind kind start places ≡ start ∷ places
opens kind start places h = ap (λ k. braces_behind k start places) (opening_brace kind h)

closes : (kind : TokenKind) (start place : ℕ) (places : List ℕ) → is_close kind ≡ true → braces_behind kind start (place ∷ places) ≡ places
closes kind start place places h = ap (λ k. braces_behind k start (place ∷ places)) (closing_brace kind h)

-- ---- a step

abbrev Leaves : Step → List ℕ → Type 0
Leaves r places = After (λ state. braces state ≡ places) r

leaves_ok : (state : State) (places : List ℕ) → places ≡ braces state → Leaves (Ok state) places
leaves_ok state places e = after_ok _ state (sym e)

same_behind_name : (attr : Attr) (next : State) → braces (behind_name attr next) ≡ braces next
same_behind_name attr.Id next = refl
same_behind_name attr.Serial next = refl
same_behind_name attr.Name next = refl
same_behind_name attr.Hash next = refl
same_behind_name attr.ParentHash next = refl
same_behind_name attr.ViaPort next = refl
same_behind_name attr.Interface next = refl
same_behind_name attr.Connect next = refl
same_behind_name attr.Label next = refl

same_behind_condition : (name : CondName) (next : State) → braces (behind_condition name next) ≡ braces next
same_behind_condition name.LocalTime next = refl
same_behind_condition name.AllowedMatches next = refl
same_behind_condition name.RuleApplied next = refl
same_behind_condition name.RuleEvaluated next = refl
same_behind_condition name.Random next = refl
same_behind_condition name.True next = refl
same_behind_condition name.False next = refl

other_leaves : (line : List ℕ) (place : Where) (given : Given) (kind : TokenKind) (start end : ℕ) (next : State) → Leaves (other_part place given (word_by line kind start end) kind next) (braces_behind kind start (braces next))
other_leaves line BeforeIf given kind start end next =
    after_if _ (is_if (word_by line kind start end)) _ _ (λ i. leaves_ok (AfterIf (Parts given BehindIf next)) _ (plain_if line kind start end (braces next) i)) (λ i. after_err _ _)
other_leaves line BehindIf given kind start end next = after_err _ _
other_leaves line InQuery given kind start end next =
    after_if _ (is_paren_close kind) _ _ (λ p. after_if _ (is_nothing given) _ _ (λ n. after_err _ _) (λ n. leaves_ok next _ (plain_paren_close kind start (braces next) p))) (λ p. after_err _ _)
other_leaves line Alone given kind start end next = after_err _ _

part_leaves : (line : List ℕ) (o : Option Attr) (place : Where) (given : Given) (kind : TokenKind) (start end : ℕ) (next : State) → attribute_of (word_by line kind start end) ≡ o → Leaves (part o place given (word_by line kind start end) kind next) (braces_behind kind start (braces next))
part_leaves line None place given kind start end next e = other_leaves line place given kind start end next
part_leaves line (Some attr) place given kind start end next e =
    after_if _ (has attr given) _ _ (λ h. after_err _ _)
    (λ h. leaves_ok (behind_name attr (Parts (put attr given) place next)) _ (plain_attribute line kind start end (braces next) attr e ∙ sym (same_behind_name attr (Parts (put attr given) place next))))

named_leaves : (line : List ℕ) (o : Option CondName) (kind : TokenKind) (start end : ℕ) (next : State) → condition_of (word_by line kind start end) ≡ o → Leaves (named o next) (braces_behind kind start (braces next))
named_leaves line None kind start end next e = after_err _ _
named_leaves line (Some name) kind start end next e = leaves_ok (behind_condition name next) _ (plain_condition line kind start end (braces next) name e ∙ sym (same_behind_condition name next))

condition_leaves : (line : List ℕ) (kind : TokenKind) (start end : ℕ) (next : State) → Leaves (condition (word_by line kind start end) kind next) (braces_behind kind start (braces next))
condition_leaves line kind start end next =
    after_if _ (is_bang kind) _ _ (λ b. leaves_ok (Negated next) _ (plain_bang kind start (braces next) b)) (λ b. named_leaves line (condition_of (word_by line kind start end)) kind start end next refl)

conditions_leave : (line : List ℕ) (o : Option Op) (kind : TokenKind) (start end : ℕ) (next : State) → operator_of (word_by line kind start end) ≡ o → Leaves (conditions o (word_by line kind start end) kind next) (braces_behind kind start (braces next))
conditions_leave line None kind start end next e = condition_leaves line kind start end next
conditions_leave line (Some op) kind start end next e = leaves_ok (CondBrace next) _ (plain_operator line kind start end (braces next) op e)

value_leaves : (line : List ℕ) (o : Option Op) (shape : Shape) (kind : TokenKind) (start end : ℕ) (next : State) → operator_of (word_by line kind start end) ≡ o → Leaves (value o shape (word_by line kind start end) kind next) (braces_behind kind start (braces next))
value_leaves line None shape kind start end next e =
    after_if _ (fits shape (word_by line kind start end) kind) _ _ (λ f. leaves_ok next _ (plain_fits shape line kind start end (braces next) f)) (λ f. after_err _ _)
value_leaves line (Some op) shape kind start end next e = leaves_ok (Brace shape next) _ (plain_operator line kind start end (braces next) op e)

targeted_leaves : (line : List ℕ) (o : Option Target) (kind : TokenKind) (start end : ℕ) → target_of (word_by line kind start end) ≡ o → Leaves (targeted o) (braces_behind kind start [])
targeted_leaves line None kind start end e = after_err _ _
targeted_leaves line (Some target) kind start end e = leaves_ok (Front BeforeIf End) _ (plain_target line kind start end [] target e)

step_leaves : (line : List ℕ) (state : State) (kind : TokenKind) (start end : ℕ) → Leaves (step state (word_by line kind start end) kind start) (braces_behind kind start (braces state))
step_leaves line End kind start end = after_err _ _
step_leaves line Start kind start end = targeted_leaves line (target_of (word_by line kind start end)) kind start end refl
step_leaves line (Front place next) kind start end =
    after_if _ (has_colon (word_by line kind start end)) _ _
    (λ c. after_if _ (is_some (id_of (word_by line kind start end))) _ _ (λ i. leaves_ok (Parts (put attr.Id nothing) place next) _ (plain_fits Ids line kind start end (braces next) i)) (λ i. after_err _ _))
    (λ c. part_leaves line (attribute_of (word_by line kind start end)) place nothing kind start end next refl)
step_leaves line (Parts given place next) kind start end = part_leaves line (attribute_of (word_by line kind start end)) place given kind start end next refl
step_leaves line (Value shape next) kind start end =
    after_if _ (is_open kind) _ _ (λ o. leaves_ok (Items shape false start next) _ (opens kind start (braces next) o)) (λ o. value_leaves line (operator_of (word_by line kind start end)) shape kind start end next refl)
step_leaves line (Brace shape next) kind start end = after_if _ (is_open kind) _ _ (λ o. leaves_ok (Items shape false start next) _ (opens kind start (braces next) o)) (λ o. after_err _ _)
step_leaves line (Items shape some at next) kind start end =
    after_if _ (is_close kind) _ _ (λ c. after_if _ some _ _ (λ s. leaves_ok next _ (closes kind start at (braces next) c)) (λ s. after_err _ _))
    (λ c. after_if _ (fits shape (word_by line kind start end) kind) _ _ (λ f. leaves_ok (Items shape true at next) _ (plain_fits shape line kind start end (at ∷ braces next) f)) (λ f. after_err _ _))
step_leaves line (Text next) kind start end = after_if _ (fits Strings (word_by line kind start end) kind) _ _ (λ f. leaves_ok next _ (plain_fits Strings line kind start end (braces next) f)) (λ f. after_err _ _)
step_leaves line (AfterIf next) kind start end =
    after_if _ (is_open kind) _ _ (λ o. leaves_ok (CondItems false start next) _ (opens kind start (braces next) o)) (λ o. conditions_leave line (operator_of (word_by line kind start end)) kind start end next refl)
step_leaves line (CondBrace next) kind start end = after_if _ (is_open kind) _ _ (λ o. leaves_ok (CondItems false start next) _ (opens kind start (braces next) o)) (λ o. after_err _ _)
step_leaves line (CondItems some at next) kind start end =
    after_if _ (is_close kind) _ _ (λ c. after_if _ some _ _ (λ s. leaves_ok next _ (closes kind start at (braces next) c)) (λ s. after_err _ _))
    (λ c. condition_leaves line kind start end (CondItems true at next))
step_leaves line (Negated next) kind start end = named_leaves line (condition_of (word_by line kind start end)) kind start end next refl
step_leaves line (Opening argument next) kind start end = after_if _ (is_paren_open kind) _ _ (λ p. leaves_ok (Inner argument next) _ (plain_paren_open kind start (braces next) p)) (λ p. after_err _ _)
step_leaves line (Inner argument next) kind start end = after_if _ (says argument (word_by line kind start end)) _ _ (λ s. leaves_ok (Closing next) _ (plain_says argument line kind start end (braces next) s)) (λ s. after_err _ _)
step_leaves line (Closing next) kind start end = after_if _ (is_paren_close kind) _ _ (λ p. leaves_ok next _ (plain_paren_close kind start (braces next) p)) (λ p. after_err _ _)
step_leaves line (May argument next) kind start end =
    after_if _ (is_paren_open kind) _ _ (λ p. leaves_ok (Inner argument next) _ (plain_paren_open kind start (braces next) p)) (λ p. step_leaves line next kind start end)
step_leaves line (Matches next) kind start end = after_if _ (is_paren_open kind) _ _ (λ p. leaves_ok (Front InQuery next) _ (plain_paren_open kind start (braces next) p)) (λ p. after_err _ _)

pub reach_braces : (line : List ℕ) (tokens : List Token) (from state : State) → reach line from tokens ≡ Some state → braces state ≡ open_braces (braces from) tokens
reach_braces line [] from state h = let e : from ≡ state = cc in ap braces (sym e)
reach_braces line (token ∷ tokens) from state h =
    let T : Step → Type 0 = λ r. step from (word_of line token) token.kind token.start ≡ r → to_next r (λ next. reach line next tokens) ≡ Some state → braces state ≡ open_braces (braces from) (token ∷ tokens) in
    let f : (r : Step) → T r = λ r. elim r as T [
      | Ok next ↦ λ e k. reach_braces line tokens next state k ∙ ap (λ p. open_braces p tokens) (step_leaves line from token.kind token.start token.end next e)
      | Err kind ↦ λ e k. let none : ⊥ = cc in absurd none
    ] in
    f (step from (word_of line token) token.kind token.start) refl h
