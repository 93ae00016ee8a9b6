-- A value takes the machine through its tokens.
use Rattle.std.proofs.Common.{◌≡◌, ℕ, Bool, true, false, List, [], ◌∷◌, ◌++◌, Option, Some, None, Result, Ok, Err, is_some, refl, sym, ap, ◌∙◌}
use Rattle.ug_words.specs.declared.token.Token.{Token}
use Rattle.ug_types.specs.declared.rule.Op.{Op}
use Rattle.ug_types.specs.declared.rule.Op.TheVariants.{Equals}
use Rattle.ug_rule.specs.declared.fault.Fault.{Fault}
use Rattle.ug_rule.specs.Faults.{within, on_ok}
use Rattle.ug_words.specs.Keywords.{operator_of}
use Rattle.ug_rule.specs.Tokens.{word_of, is_open, is_close}
use Rattle.ug_rule.specs.Values.{string_in, items_of, valued, set_of, behind_operator, value_of, text_of}
use Rattle.ug_rule_faults.proofs.Machine.{Shape, fits, State, Value, Brace, Items, Text, ending_in, run}

-- what is read leads to a further run
abbrev pub resume : {X : Type 0} → Result (X × List Token) Fault → (X → List Token → Option Fault) → Option Fault
resume (Ok p) more = more p.0 p.1
resume (Err fault) more = Some fault

pub resume_on : {X Y : Type 0} (r : Result (X × List Token) Fault) (make : X → Y) (more : Y → List Token → Option Fault) → resume {X = Y} (on_ok r (λ p. Ok (make p.0, p.1))) more ≡ resume r (λ x rest. more (make x) rest)
resume_on (Ok p) make more = refl
resume_on (Err fault) make more = refl

abbrev pub any : {X : Type 0} → List X → Bool
any [] = false
any (x ∷ xs) = true

pub any_more : {X : Type 0} (xs : List X) (x : X) → any (xs ++ x ∷ []) ≡ true
any_more [] x = refl
any_more (y ∷ xs) x = refl

-- the state's test is what reads an item
abbrev pub Tests : {X : Type 0} → List ℕ → (Token → Option X) → Shape → Type 0
Tests line reads shape = (token : Token) → fits shape (word_of line token) token.kind ≡ is_some (reads token)

abbrev ItemsRun : {X : Type 0} → List ℕ → (Token → Option X) → Shape → ℕ → State → List Token → Type 0
ItemsRun {X} line reads shape at next tokens = (items : List X) → run line (Items shape (any items) at next) tokens ≡ resume (items_of reads (within at (ending_in line next)) items tokens) (λ l rest. run line next rest)

close_run : {X : Type 0} (line : List ℕ) (reads : Token → Option X) (shape : Shape) (at : ℕ) (next : State) (token : Token) (tokens : List Token) → is_close token.kind ≡ true → ItemsRun line reads shape at next (token ∷ tokens)
unfolding items_of
close_run line reads shape at next token tokens c [] = rw c refl
close_run line reads shape at next token tokens c (item ∷ items) = rw c refl

item_run : {X : Type 0} (line : List ℕ) (reads : Token → Option X) (shape : Shape) (at : ℕ) (next : State) (token : Token) (tokens : List Token) → Tests line reads shape → is_close token.kind ≡ false → ItemsRun line reads shape at next tokens → ItemsRun line reads shape at next (token ∷ tokens)
unfolding items_of
item_run {X} line reads shape at next token tokens tests c again items = by (reads token) refl
  where
    by : (o : Option X) → reads token ≡ o → run line (Items shape (any items) at next) (token ∷ tokens) ≡ resume (items_of reads (within at (ending_in line next)) items (token ∷ tokens)) (λ l rest. run line next rest)
    by None e = let f : fits shape (word_of line token) token.kind ≡ false = tests token ∙ ap is_some e in rw c (rw f (rw e refl))
    by (Some item) e =
        let f : fits shape (word_of line token) token.kind ≡ true = tests token ∙ ap is_some e in
        rw c (rw f (rw e (ap (λ b. run line (Items shape b at next) tokens) (sym (any_more items item)) ∙ again (items ++ item ∷ []))))

items_run : {X : Type 0} (line : List ℕ) (reads : Token → Option X) (shape : Shape) (at : ℕ) (next : State) (tokens : List Token) → Tests line reads shape → ItemsRun line reads shape at next tokens
unfolding items_of
items_run line reads shape at next [] tests items = refl
items_run {X} line reads shape at next (token ∷ tokens) tests items =
    let T : Bool → Type 0 = λ b. is_close token.kind ≡ b → run line (Items shape (any items) at next) (token ∷ tokens) ≡ resume (items_of reads (within at (ending_in line next)) items (token ∷ tokens)) (λ l rest. run line next rest) in
    let f : (b : Bool) → T b = λ b. elim b as T [
      | true ↦ λ c. close_run line reads shape at next token tokens c items
      | false ↦ λ c. item_run line reads shape at next token tokens tests c (items_run line reads shape at next tokens tests) items
    ] in
    f (is_close token.kind) refl

set_run : {X : Type 0} (line : List ℕ) (reads : Token → Option X) (shape : Shape) (op : Op) (at : ℕ) (next : State) (tokens : List Token) → Tests line reads shape → run line (Items shape false at next) tokens ≡ resume (set_of reads (within at (ending_in line next)) op tokens) (λ v rest. run line next rest)
set_run line reads shape op at next tokens tests =
    items_run line reads shape at next tokens tests [] ∙ sym (resume_on (items_of reads (within at (ending_in line next)) [] tokens) (λ l. valued op l) (λ v rest. run line next rest))

brace_run : {X : Type 0} (line : List ℕ) (reads : Token → Option X) (shape : Shape) (op : Op) (next : State) (tokens : List Token) → Tests line reads shape → run line (Brace shape next) tokens ≡ resume (behind_operator reads (ending_in line next) op tokens) (λ v rest. run line next rest)
brace_run line reads shape op next [] tests = refl
brace_run line reads shape op next (token ∷ tokens) tests = by (is_open token.kind) refl
  where
    by : (b : Bool) → is_open token.kind ≡ b → run line (Brace shape next) (token ∷ tokens) ≡ resume (behind_operator reads (ending_in line next) op (token ∷ tokens)) (λ v rest. run line next rest)
    by true o = rw o (set_run line reads shape op token.start next tokens tests)
    by false o = rw o refl

pub value_run : {X : Type 0} (line : List ℕ) (reads : Token → Option X) (shape : Shape) (next : State) (tokens : List Token) → Tests line reads shape → run line (Value shape next) tokens ≡ resume (value_of line reads (ending_in line next) tokens) (λ v rest. run line next rest)
unfolding value_of
value_run line reads shape next [] tests = refl
value_run {X} line reads shape next (token ∷ tokens) tests = by (is_open token.kind) refl
  where
    T : Type 0
    T = run line (Value shape next) (token ∷ tokens) ≡ resume (value_of line reads (ending_in line next) (token ∷ tokens)) (λ v rest. run line next rest)

    alone : is_open token.kind ≡ false → operator_of (word_of line token) ≡ None → (o : Option X) → reads token ≡ o → T
    alone o w None e = let f : fits shape (word_of line token) token.kind ≡ false = tests token ∙ ap is_some e in rw o (rw w (rw f (rw e refl)))
    alone o w (Some item) e = let f : fits shape (word_of line token) token.kind ≡ true = tests token ∙ ap is_some e in rw o (rw w (rw f (rw e refl)))

    by_operator : is_open token.kind ≡ false → (p : Option Op) → operator_of (word_of line token) ≡ p → T
    by_operator o None w = alone o w (reads token) refl
    by_operator o (Some op) w = rw o (rw w (brace_run line reads shape op next tokens tests))

    by : (b : Bool) → is_open token.kind ≡ b → T
    by true o = rw o (set_run line reads shape Equals token.start next tokens tests)
    by false o = by_operator o (operator_of (word_of line token)) refl

pub text_run : (line : List ℕ) (next : State) (tokens : List Token) → run line (Text next) tokens ≡ resume (text_of line (ending_in line next) tokens) (λ v rest. run line next rest)
unfolding text_of
text_run line next [] = refl
text_run line next (token ∷ tokens) = by (string_in line token) refl
  where
    by : (o : Option (List ℕ)) → string_in line token ≡ o → run line (Text next) (token ∷ tokens) ≡ resume (text_of line (ending_in line next) (token ∷ tokens)) (λ v rest. run line next rest)
    by None e = rw e refl
    by (Some text) e = rw e refl
