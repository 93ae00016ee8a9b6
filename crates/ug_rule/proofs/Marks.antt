-- Which tokens and words begin what.
use Rattle.std.proofs.Common.{◌≡◌, ℕ, inl, inr, true, List, codes, Option, Some, None, refl, sym, subst, if◌then◌else◌, nat_eq, Bool, false, [], ap, is_some}
use Rattle.std.specs.Cmp.Lexicographic.{pointwise, same_text}
use Rattle.ug_words.specs.declared.token.Token.{Token}
use Rattle.ug_words.specs.declared.token.TokenKind.{TokenKind}
use Rattle.ug_words.specs.declared.token.TokenKind.TheVariants.{Word, Str, Open, Close, ParenOpen, ParenClose, Bang}
use Rattle.ug_types.specs.declared.rule.Op.{Op}
use Rattle.ug_words.specs.declared.keywords.CondName.{CondName}
use Rattle.ug_words.specs.Keywords.{operator_of, attribute_of, condition_of, is_if}
use Rattle.ug_rule.specs.Tokens.{word_by, word_of, is_open, is_close, is_paren_open, is_paren_close, is_bang}
use Rattle.ug_words.proofs.Tests.{by_test}

-- a test that no bytes pass is passed by words alone
pub only_word : (test : List ℕ → Bool) → test [] ≡ false → (line : List ℕ) (kind : TokenKind) (start end : ℕ) → test (word_by line kind start end) ≡ true → kind ≡ Word
only_word test n line Word start end h = refl
only_word test n line (Str text) start end h = let none : ⊥ = cc in absurd none
only_word test n line Open start end h = let none : ⊥ = cc in absurd none
only_word test n line Close start end h = let none : ⊥ = cc in absurd none
only_word test n line ParenOpen start end h = let none : ⊥ = cc in absurd none
only_word test n line ParenClose start end h = let none : ⊥ = cc in absurd none
only_word test n line Bang start end h = let none : ⊥ = cc in absurd none

pub condition_word : (line : List ℕ) (token : Token) (name : CondName) → condition_of (word_of line token) ≡ Some name → token.kind ≡ Word
unfolding condition_of
condition_word line token name h = only_word (λ w. is_some (condition_of w)) refl line token.kind token.start token.end (ap is_some h)

pub operator_word : (line : List ℕ) (token : Token) (op : Op) → operator_of (word_of line token) ≡ Some op → token.kind ≡ Word
unfolding operator_of
operator_word line token op h = only_word (λ w. is_some (operator_of w)) refl line token.kind token.start token.end (ap is_some h)

pub opening_brace : (kind : TokenKind) → is_open kind ≡ true → kind ≡ Open
opening_brace Word h = let none : ⊥ = cc in absurd none
opening_brace (Str text) h = let none : ⊥ = cc in absurd none
opening_brace Open h = refl
opening_brace Close h = let none : ⊥ = cc in absurd none
opening_brace ParenOpen h = let none : ⊥ = cc in absurd none
opening_brace ParenClose h = let none : ⊥ = cc in absurd none
opening_brace Bang h = let none : ⊥ = cc in absurd none

pub closing_brace : (kind : TokenKind) → is_close kind ≡ true → kind ≡ Close
closing_brace Word h = let none : ⊥ = cc in absurd none
closing_brace (Str text) h = let none : ⊥ = cc in absurd none
closing_brace Open h = let none : ⊥ = cc in absurd none
closing_brace Close h = refl
closing_brace ParenOpen h = let none : ⊥ = cc in absurd none
closing_brace ParenClose h = let none : ⊥ = cc in absurd none
closing_brace Bang h = let none : ⊥ = cc in absurd none

pub opening_paren : (kind : TokenKind) → is_paren_open kind ≡ true → kind ≡ ParenOpen
opening_paren Word h = let none : ⊥ = cc in absurd none
opening_paren (Str text) h = let none : ⊥ = cc in absurd none
opening_paren Open h = let none : ⊥ = cc in absurd none
opening_paren Close h = let none : ⊥ = cc in absurd none
opening_paren ParenOpen h = refl
opening_paren ParenClose h = let none : ⊥ = cc in absurd none
opening_paren Bang h = let none : ⊥ = cc in absurd none

pub closing_paren : (kind : TokenKind) → is_paren_close kind ≡ true → kind ≡ ParenClose
closing_paren Word h = let none : ⊥ = cc in absurd none
closing_paren (Str text) h = let none : ⊥ = cc in absurd none
closing_paren Open h = let none : ⊥ = cc in absurd none
closing_paren Close h = let none : ⊥ = cc in absurd none
closing_paren ParenOpen h = let none : ⊥ = cc in absurd none
closing_paren ParenClose h = refl
closing_paren Bang h = let none : ⊥ = cc in absurd none

pub bang_kind : (kind : TokenKind) → is_bang kind ≡ true → kind ≡ Bang
bang_kind Word h = let none : ⊥ = cc in absurd none
bang_kind (Str text) h = let none : ⊥ = cc in absurd none
bang_kind Open h = let none : ⊥ = cc in absurd none
bang_kind Close h = let none : ⊥ = cc in absurd none
bang_kind ParenOpen h = let none : ⊥ = cc in absurd none
bang_kind ParenClose h = let none : ⊥ = cc in absurd none
bang_kind Bang h = refl

pub bang_mark : (token : Token) → is_bang token.kind ≡ true → token.kind ≡ Bang
bang_mark token h = bang_kind token.kind h

-- no operator
pub bang_no_operator : (line : List ℕ) (token : Token) → is_bang token.kind ≡ true → operator_of (word_of line token) ≡ None
unfolding operator_of
bang_no_operator line token h = rw (bang_mark token h) refl

-- a closing parenthesis is no attribute
pub close_no_attribute : (line : List ℕ) (token : Token) → is_paren_close token.kind ≡ true → attribute_of (word_of line token) ≡ None
unfolding attribute_of
close_no_attribute line token h = rw (closing_paren token.kind h) refl

-- what holds of each keyword in a chain of tests holds of a word that the chain knows
pub chain : {X : Type 0} (Holds : List ℕ → Type 0) (word text : List ℕ) (here : X) (rest : Option X) (x : X) → (if pointwise nat_eq word text then Some here else rest) ≡ Some x → Holds text → (rest ≡ Some x → Holds word) → Holds word
chain Holds word text here rest x h t f = elim (by_test (pointwise nat_eq word text) (Some here) rest (Some x) h) [
  | inl p ↦ subst Holds (sym (same_text word text (sym p.0))) t
  | inr p ↦ f p.1
]

-- a condition's name is no operator
pub condition_no_operator : (word : List ℕ) (name : CondName) → condition_of word ≡ Some name → operator_of word ≡ None
unfolding condition_of operator_of
condition_no_operator word name h =
    let H : List ℕ → Type 0 = λ w. operator_of w ≡ None in
    chain H word (codes "localtime") _ _ name h refl (λ h.
    chain H word (codes "allowed-matches") _ _ name h refl (λ h.
    chain H word (codes "rule-applied") _ _ name h refl (λ h.
    chain H word (codes "rule-evaluated") _ _ name h refl (λ h.
    chain H word (codes "random") _ _ name h refl (λ h.
    chain H word (codes "true") _ _ name h refl (λ h.
    chain H word (codes "false") _ _ name h refl (λ h. let none : ⊥ = cc in absurd none)))))))

-- `if` is no attribute
pub if_no_attribute : (word : List ℕ) → is_if word ≡ true → attribute_of word ≡ None
unfolding is_if attribute_of
if_no_attribute word h = subst (λ w. attribute_of w ≡ None) (sym (same_text word (codes "if") (sym h))) refl
