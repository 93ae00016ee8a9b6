-- A line of a text is blank or a comment, or a rule.
use Rattle.std.proofs.Common.{◌≡◌, ℕ, List, [], ◌∷◌, Option, Some, None, Result, Ok, Err, refl, sym, ap, ◌∙◌}
use Rattle.ug_words.proofs.Meaning.{good_read, read_good}
use Rattle.ug_words.specs.Grammar.{Good}
use Rattle.ug_words.specs.Lexing as lexing
use Rattle.ug_words.specs.Lexing.{Lexed, tokens_of}
use Rattle.ug_words.specs.declared.token.Token.{Token}
use Rattle.ug_types.specs.declared.rule.Rule.{Rule}
use Rattle.ug_rule.specs.declared.fault.Fault.{Fault}
use Rattle.ug_rule.specs.Faults.{on_ok}
use Rattle.ug_rule.specs.Files.{rule_in, line_read}
use Rattle.ug_rule.specs.Grammar.{Says}
use Rattle.ug_rule.specs.Rules.{rule_of}
use Rattle.ug_rule.specs.Texts.{lexical_fault}
use Rattle.ug_rule.specs.Tokens.{read_by}
use Rattle.ug_rule.proofs.RuleCuts.{rule_reads, line_says}

abbrev LineRead : Type 0
LineRead = Result (Option Rule) Fault

-- a fault of the tokens themselves
pub lexical_found : {X : Type 0} (fault : lexing.Fault) (next : List Token → Result X Fault) → on_ok (read_by (Err fault)) next ≡ Err (lexical_fault fault)
lexical_found (lexing.BadEscape place) next = refl
lexical_found (lexing.OpenString place) next = refl
lexical_found (lexing.BadByte place) next = refl

-- ---- blank lines and comments

no_rule_left : (r : Result Rule Fault) → on_ok {Y = Option Rule} r (λ rule. Ok (Some rule)) ≡ Ok None → ⊥
no_rule_left (Ok rule) h = let e : Some rule ≡ None = cc in let none : ⊥ = cc in none
no_rule_left (Err fault) h = let none : ⊥ = cc in none

pub blank_line : (line : List ℕ) → line_read line ≡ Ok None → Good line []
blank_line line h = by (tokens_of line) refl h
  where
    lexical : (bad : lexing.Fault) → on_ok {Y = Option Rule} (read_by (Err bad)) (rule_in line) ≡ Ok None → ⊥
    lexical bad h = let e : ◌≡◌ {A = LineRead} (Err (lexical_fault bad)) (Ok None) = sym (lexical_found bad (rule_in line)) ∙ h in let none : ⊥ = cc in none

    by : (read : Lexed) → tokens_of line ≡ read → on_ok (read_by read) (rule_in line) ≡ Ok None → Good line []
    by (Ok []) e h = read_good line [] e
    by (Ok (token ∷ tokens)) e h = absurd (no_rule_left (rule_of line (token ∷ tokens)) h)
    by (Err bad) e h = absurd (lexical bad h)

pub line_blank : (line : List ℕ) → Good line [] → line_read line ≡ Ok None
line_blank line g = ap (λ t. on_ok (read_by t) (rule_in line)) (good_read line [] g)

-- ---- rules

one_rule_left : (r : Result Rule Fault) (rule : Rule) → on_ok {Y = Option Rule} r (λ rule. Ok (Some rule)) ≡ Ok (Some rule) → r ≡ Ok rule
one_rule_left (Ok found) rule h = let e : found ≡ rule = cc in ap (λ r. Ok r) e
one_rule_left (Err fault) rule h = let none : ⊥ = cc in absurd none

pub line_rule : (line : List ℕ) (rule : Rule) → line_read line ≡ Ok (Some rule) → Says line rule
line_rule line rule h = line_says line rule (by (tokens_of line) h)
  where
    lexical : (bad : lexing.Fault) → on_ok {Y = Option Rule} (read_by (Err bad)) (rule_in line) ≡ Ok (Some rule) → ⊥
    lexical bad h = let e : ◌≡◌ {A = LineRead} (Err (lexical_fault bad)) (Ok (Some rule)) = sym (lexical_found bad (rule_in line)) ∙ h in let none : ⊥ = cc in none

    by : (read : Lexed) → on_ok (read_by read) (rule_in line) ≡ Ok (Some rule) → on_ok (read_by read) (rule_of line) ≡ Ok rule
    by (Ok []) h = let e : None ≡ Some rule = cc in let none : ⊥ = cc in absurd none
    by (Ok (token ∷ tokens)) h = one_rule_left (rule_of line (token ∷ tokens)) rule h
    by (Err bad) h = absurd (lexical bad h)

pub rule_line : (line : List ℕ) (rule : Rule) → Says line rule → line_read line ≡ Ok (Some rule)
rule_line line rule s =
    ap (λ t. on_ok (read_by t) (rule_in line)) (good_read line s.tokens s.cut)
    ∙ (ap (rule_in line) s.is.cut ∙ ap (λ r. on_ok r (λ rule. Ok (Some rule))) (ap (rule_of line) (sym s.is.cut) ∙ rule_reads line rule s.tokens s.is))
