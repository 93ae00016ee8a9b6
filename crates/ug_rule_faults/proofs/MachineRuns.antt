-- Runs of the machine, token by token, and on lines with the same words.
use Rattle.std.proofs.Common.{◌≡◌, ℕ, inl, inr, ◌⊎◌, ◌+◌, ◌-◌, ◌<◌, ◌≤◌, List, [], ◌∷◌, ◌++◌, take, drop, Option, Some, None, Ok, Err, refl, sym, ap, ◌∙◌, arith, Bool, true, false, subst, if◌then◌else◌}
use Rattle.std.proofs.Math.Seq.{take-take}
use Rattle.std.proofs.lemmas.List.{drop-take}
use Rattle.std.specs.List.{AllByRecursion}
use Rattle.ug_words.specs.Grammar.{InOrder}
use Rattle.ug_words.specs.declared.token.Token.{Token}
use Rattle.ug_words.specs.declared.token.TokenKind.{TokenKind}
use Rattle.ug_words.specs.declared.token.TokenKind.TheVariants.{Word, Str, Open, Close, ParenOpen, ParenClose, Bang}
use Rattle.ug_rule.specs.declared.fault.Fault.{Fault}
use Rattle.ug_rule.specs.declared.fault.FaultKind.{FaultKind}
use Rattle.ug_rule.specs.Faults.{fault_at}
use Rattle.ug_rule_faults.specs.FirstFault.{end_behind}
use Rattle.ug_rule.specs.Tokens.{word_by, word_of}
use Rattle.ug_rule_faults.proofs.Machine.{State, Step, step, finish, onward, run}

-- ---- the state behind some tokens

abbrev pub to_next : Step → (State → Option State) → Option State
to_next (Ok state) more = more state
to_next (Err kind) more = None

abbrev pub reach : List ℕ → State → List Token → Option State
reach line state [] = Some state
reach line state (token ∷ tokens) = to_next (step state (word_of line token) token.kind token.start) (λ next. reach line next tokens)

pub run_behind : (line : List ℕ) (before rest : List Token) (from state : State) → reach line from before ≡ Some state → run line from (before ++ rest) ≡ run line state rest
run_behind line [] rest from state h = let e : from ≡ state = cc in ap (λ s. run line s rest) e
run_behind line (token ∷ before) rest from state h =
    let T : Step → Type 0 = λ r. to_next r (λ next. reach line next before) ≡ Some state → onward r token.start (λ next. run line next (before ++ rest)) ≡ run line state rest in
    let f : (r : Step) → T r = λ r. elim r as T [
      | Ok next ↦ λ k. run_behind line before rest next state k
      | Err kind ↦ λ k. let none : ⊥ = cc in absurd none
    ] in
    f (step from (word_of line token) token.kind token.start) h

-- a token at which a run stops
pub record Stops (line : List ℕ) (from : State) (tokens : List Token) (fault : Fault) : Type 0 where
  pub before : List Token
  pub token : Token
  pub behind : List Token
  pub state : State
  pub kind : FaultKind
  pub cut : tokens ≡ before ++ token ∷ behind
  pub reached : reach line from before ≡ Some state
  pub stuck : step state (word_of line token) token.kind token.start ≡ Err kind
  pub is : fault ≡ fault_at kind token.start

-- a run that lacks something at its end
pub record Lacks (line : List ℕ) (from : State) (tokens : List Token) (fault : Fault) : Type 0 where
  pub state : State
  pub reached : reach line from tokens ≡ Some state
  pub lacks : finish line state ≡ Some fault

abbrev pub Ends : List ℕ → State → List Token → Fault → Type 0
Ends line from tokens fault = Stops line from tokens fault ⊎ Lacks line from tokens fault

longer : (line : List ℕ) (from next : State) (token : Token) (tokens : List Token) (fault : Fault) → step from (word_of line token) token.kind token.start ≡ Ok next → Ends line next tokens fault → Ends line from (token ∷ tokens) fault
longer line from next token tokens fault e (inl s) = inl (record {
  before = token ∷ s.before;
  token = s.token;
  behind = s.behind;
  state = s.state;
  kind = s.kind;
  cut = ap (λ l. token ∷ l) s.cut;
  reached = ap (λ r. to_next r (λ next. reach line next s.before)) e ∙ s.reached;
  stuck = s.stuck;
  is = s.is;
})
longer line from next token tokens fault e (inr l) = inr (record {
  state = l.state;
  reached = ap (λ r. to_next r (λ next. reach line next tokens)) e ∙ l.reached;
  lacks = l.lacks;
})

pub run_ends : (line : List ℕ) (from : State) (tokens : List Token) (fault : Fault) → run line from tokens ≡ Some fault → Ends line from tokens fault
run_ends line from [] fault h = inr (record { state = from; reached = refl; lacks = h })
run_ends line from (token ∷ tokens) fault h =
    let T : Step → Type 0 = λ r. step from (word_of line token) token.kind token.start ≡ r → onward r token.start (λ next. run line next tokens) ≡ Some fault → Ends line from (token ∷ tokens) fault in
    let f : (r : Step) → T r = λ r. elim r as T [
      | Ok next ↦ λ e k. longer line from next token tokens fault e (run_ends line next tokens fault k)
      | Err kind ↦ λ e k.
          let same : fault_at kind token.start ≡ fault = cc in
          inl (record { before = []; token = token; behind = tokens; state = from; kind = kind; cut = refl; reached = refl; stuck = e; is = sym same })
    ] in
    f (step from (word_of line token) token.kind token.start) refl h

-- what holds of the state to which a step leads
abbrev pub After : (State → Type 0) → Step → Type 0
After P r = (next : State) → r ≡ Ok next → P next

pub after_ok : (P : State → Type 0) (state : State) → P state → After P (Ok state)
after_ok P state p next h = let s : state ≡ next = cc in subst P s p

pub after_err : (P : State → Type 0) (kind : FaultKind) → After P (Err kind)
after_err P kind next h = let none : ⊥ = cc in absurd none

pub after_if : (P : State → Type 0) (b : Bool) (p q : Step) → (b ≡ true → After P p) → (b ≡ false → After P q) → After P (if b then p else q)
after_if P true p q f g = f refl
after_if P false p q f g = g refl

-- ---- lines with the same words

abbrev pub SameWords : List ℕ → List ℕ → List Token → Type 0
SameWords line other tokens = AllByRecursion (λ token. word_of line token ≡ word_of other token) tokens

pub same_reach : (line other : List ℕ) (tokens : List Token) (from : State) → SameWords line other tokens → reach line from tokens ≡ reach other from tokens
same_reach line other [] from s = refl
same_reach line other (token ∷ tokens) from s =
    ap (λ w. to_next (step from w token.kind token.start) (λ next. reach line next tokens)) s.0
    ∙ by (step from (word_of other token) token.kind token.start) (λ next. same_reach line other tokens next s.1)
  where
    by : (r : Step) → ((next : State) → reach line next tokens ≡ reach other next tokens) → to_next r (λ next. reach line next tokens) ≡ to_next r (λ next. reach other next tokens)
    by (Ok next) again = again next
    by (Err kind) again = refl

same_part : (line other : List ℕ) (start end most : ℕ) → start < end → end ≤ most → take most line ≡ take most other → take (end - start) (drop start line) ≡ take (end - start) (drop start other)
same_part line other start end most h l e =
    let whole : start + (end - start) ≡ end = omega arith in
    let cut : (bytes : List ℕ) → take (end - start) (drop start bytes) ≡ drop start (take end (take most bytes)) = λ bytes.
    sym (drop-take start (end - start) bytes) ∙ ap (λ k. drop start (take k bytes)) whole ∙ ap (drop start) (sym (take-take end most bytes l)) in
    cut line ∙ ap (λ bytes. drop start (take end bytes)) e ∙ sym (cut other)

same_word : (line other : List ℕ) (kind : TokenKind) (start end most : ℕ) → start < end → end ≤ most → take most line ≡ take most other → word_by line kind start end ≡ word_by other kind start end
same_word line other Word start end most h l e = same_part line other start end most h l e
same_word line other (Str text) start end most h l e = refl
same_word line other Open start end most h l e = refl
same_word line other Close start end most h l e = refl
same_word line other ParenOpen start end most h l e = refl
same_word line other ParenClose start end most h l e = refl
same_word line other Bang start end most h l e = refl

order_grows : (from to : ℕ) (tokens : List Token) → InOrder from to tokens → from ≤ to
order_grows from to [] o = o
order_grows from to (token ∷ tokens) o = omega (arith, o.0, o.1, order_grows token.end to tokens o.2)

pub order_front : (from to : ℕ) (before behind : List Token) → InOrder from to (before ++ behind) → InOrder from (end_behind from before) before
order_front from to [] behind o = omega arith
order_front from to (token ∷ before) behind o = (o.0, o.1, order_front token.end to before behind o.2)

pub same_words : (line other : List ℕ) (from to : ℕ) (tokens : List Token) → InOrder from to tokens → take to line ≡ take to other → SameWords line other tokens
same_words line other from to [] o e = tt
same_words line other from to (token ∷ tokens) o e =
    (same_word line other token.kind token.start token.end to o.1 (order_grows token.end to tokens o.2) e, same_words line other token.end to tokens o.2 e)
