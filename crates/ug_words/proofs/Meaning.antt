-- What is read is what the cut into blanks, tokens and a comment says.
use Rattle.std.proofs.Common.{◌≡◌, ℕ, ◌+◌, ◌<◌, ◌≤◌, ◌⊎◌, inl, inr, List, [], ◌∷◌, ◌++◌, length, length-append, Option, None, Some, Result, Ok, Err, refl, sym, ap, subst, ◌∙◌, arith}
use Rattle.std.specs.Prelude.{IfOk, IfErr}
use Rattle.std.proofs.lemmas.List.{append-nil}
use Rattle.ug_words.specs.declared.fault.LexFault.{LexFault}
use Rattle.ug_words.specs.declared.fault.LexFault.TheVariants as lex
use Rattle.ug_words.specs.declared.token.Token.{Token}
use Rattle.ug_words.specs.declared.token.TokenKind.{TokenKind}
use Rattle.ug_words.specs.Lexing.{AnswersTokens, Fault, BadEscape, OpenString, BadByte, Lexed, tokens_from, tokens_of}
use Rattle.ug_words.specs.Grammar.{AllStand, Bad, Faulty, Good, IfLexical, InOrder, LinePart, StandsInLine, Blank, Mark, Word, String, parts_text, tokens_placed, token_at, width}
use Rattle.ug_words.proofs.Cutting.{all_read, comment_read, cut_line, faulty_read}
use Rattle.ug_words.proofs.Steps.{behind}

read_is : (line : List ℕ) → tokens_of line ≡ tokens_from 0 0 line
unfolding tokens_of
read_is line = refl

parts_read : (line : List ℕ) (parts : List LinePart) (rest : List ℕ) → line ≡ parts_text parts rest → AllStand parts rest → tokens_of line ≡ behind (tokens_placed 0 parts) (tokens_from (width parts) 0 rest)
parts_read line parts rest all stand =
    let none : 0 + width parts ≡ width parts = omega arith in
    read_is line
    ∙ ap (tokens_from 0 0) all
    ∙ all_read 0 parts rest stand
    ∙ ap (λ (p : ℕ). behind (tokens_placed 0 parts) (tokens_from p 0 rest)) none

pub good_read : (line : List ℕ) (tokens : List Token) → Good line tokens → tokens_of line ≡ Ok tokens
good_read line tokens g =
    parts_read line g.parts g.rest g.all g.stand
    ∙ ap (behind (tokens_placed 0 g.parts)) (comment_read (width g.parts) g.rest g.ends)
    ∙ ap (λ (l : List Token). Ok l) (append-nil (tokens_placed 0 g.parts) ∙ sym g.says)

pub bad_read : (line : List ℕ) (fault : Fault) → Bad line fault → tokens_of line ≡ Err fault
bad_read line fault b =
    parts_read line b.parts b.rest b.all b.stand
    ∙ ap (behind (tokens_placed 0 b.parts)) (faulty_read (width b.parts) b.rest fault b.faulty)

-- what the line means
pub some_meaning : (line : List ℕ) → ((tokens : List Token) × Good line tokens) ⊎ ((fault : Fault) × Bad line fault)
some_meaning line = elim (cut_line (length line) 0 line (omega arith)) [
  | inl w ↦ inl (tokens_placed 0 w.parts, record { parts = w.parts; rest = w.rest; all = w.all; stand = w.stand; ends = w.ends; says = refl })
  | inr s ↦
      let none : 0 + width s.parts ≡ width s.parts = omega arith in
      inr (s.fault, record { parts = s.parts; rest = s.rest; all = s.all; stand = s.stand; faulty = subst (λ (p : ℕ). Faulty p s.rest s.fault) none s.faulty })
]

pub read_good : (line : List ℕ) (tokens : List Token) → tokens_of line ≡ Ok tokens → Good line tokens
read_good line tokens e = elim (some_meaning line) [
  | inl m ↦ let r = good_read line m.0 m.1 in let same : m.0 ≡ tokens = cc in subst (Good line) same m.1
  | inr m ↦ let r = bad_read line m.0 m.1 in let none : ⊥ = cc in absurd none
]

pub read_bad : (line : List ℕ) (fault : Fault) → tokens_of line ≡ Err fault → Bad line fault
read_bad line fault e = elim (some_meaning line) [
  | inl m ↦ let r = good_read line m.0 m.1 in let none : ⊥ = cc in absurd none
  | inr m ↦ let r = bad_read line m.0 m.1 in let same : m.0 ≡ fault = cc in subst (Bad line) same m.1
]

pub same_list : (line : List ℕ) (a b : List Token) → Good line a → Good line b → a ≡ b
same_list line a b g h = let e = good_read line a g in let f = good_read line b h in cc

pub same_fault : (line : List ℕ) (a b : Fault) → Bad line a → Bad line b → a ≡ b
same_fault line a b g h = let e = bad_read line a g in let f = bad_read line b h in cc

pub not_both : (line : List ℕ) (tokens : List Token) (fault : Fault) → Good line tokens → Bad line fault → ⊥
not_both line tokens fault g h = let e = good_read line tokens g in let f = bad_read line fault h in cc

-- what an answer says, where it is what was read
pub answer_good : (line : List ℕ) (result : Result (List Token) LexFault) → AnswersTokens result (tokens_of line) → IfOk result (λ tokens. Good line tokens)
answer_good line (Ok tokens) a = read_good line tokens a
answer_good line (Err e) a = tt

pub answer_bad : (line : List ℕ) (result : Result (List Token) LexFault) → AnswersTokens result (tokens_of line) → IfErr result (λ e. IfLexical e (Bad line))
answer_bad line (Ok tokens) a = tt
answer_bad line (Err (lex.BadEscape place)) a = read_bad line (BadEscape place) a
answer_bad line (Err (lex.OpenString place)) a = read_bad line (OpenString place) a
answer_bad line (Err (lex.BadByte place)) a = read_bad line (BadByte place) a
answer_bad line (Err lex.Memory) a = tt

pub answer_only_good : (line : List ℕ) (result : Result (List Token) LexFault) → AnswersTokens result (tokens_of line) → (tokens : List Token) → Good line tokens → AnswersTokens result (Ok tokens)
answer_only_good line result a tokens g = subst (λ (read : Lexed). AnswersTokens result read) (good_read line tokens g) a

pub answer_only_bad : (line : List ℕ) (result : Result (List Token) LexFault) → AnswersTokens result (tokens_of line) → (fault : Fault) → Bad line fault → AnswersTokens result (Err fault)
answer_only_bad line result a fault b = subst (λ (read : Lexed). AnswersTokens result read) (bad_read line fault b) a

-- the spans of what stands in a line
some_bytes : (bytes : List ℕ) (kind : Option TokenKind) (rest : List ℕ) → StandsInLine bytes kind rest → 0 < length bytes
some_bytes bytes kind rest (Blank b r h) = omega arith
some_bytes bytes kind rest (Mark b mark r h) = omega arith
some_bytes bytes kind rest (Word b run r each stop) = omega arith
some_bytes bytes kind rest (String inside text r s) = omega arith

earlier : (from at to : ℕ) (tokens : List Token) → from ≤ at → InOrder at to tokens → InOrder from to tokens
earlier from at to [] h o = omega (arith, h, o)
earlier from at to (token ∷ tokens) h o = (omega (arith, h, o.0), o.1, o.2)

with_span : (at to : ℕ) (bytes : List ℕ) (kind : Option TokenKind) (tokens : List Token) → 0 < length bytes → InOrder (at + length bytes) to tokens → InOrder at to (token_at at bytes kind ++ tokens)
with_span at to bytes None tokens h o = earlier at (at + length bytes) to tokens (omega arith) o
with_span at to bytes (Some kind) tokens h o = (omega arith, omega (arith, h), o)

spans : (at to : ℕ) (parts : List LinePart) (rest : List ℕ) → AllStand parts rest → at + length (parts_text parts rest) ≤ to → InOrder at to (tokens_placed at parts)
spans at to [] rest stand h = omega (arith, h)
spans at to (part ∷ parts) rest stand h =
    let l = length-append part.bytes (parts_text parts rest) in
    with_span at to part.bytes part.kind (tokens_placed (at + length part.bytes) parts) (some_bytes part.bytes part.kind (parts_text parts rest) stand.0)
    (spans (at + length part.bytes) to parts rest stand.1 (omega (arith, h, l)))

pub in_order : (line : List ℕ) (tokens : List Token) → tokens_of line ≡ Ok tokens → InOrder 0 (length line) tokens
in_order line tokens e =
    let g : Good line tokens = read_good line tokens e in
    subst (InOrder 0 (length line)) (sym g.says) (spans 0 (length line) g.parts g.rest g.stand (omega (arith, ap length g.all)))
