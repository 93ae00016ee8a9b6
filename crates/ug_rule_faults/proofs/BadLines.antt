-- A line of a text that is neither blank nor a rule has a first fault.
use Rattle.std.proofs.Common.{◌≡◌, ℕ, List, [], ◌∷◌, Option, Some, None, Result, Ok, Err, refl, sym, ap, ◌∙◌}
use Rattle.ug_words.proofs.Meaning.{read_good}
use Rattle.ug_words.specs.Lexing as lexing
use Rattle.ug_words.specs.Lexing.{Lexed, tokens_of}
use Rattle.ug_types.specs.declared.rule.Rule.{Rule}
use Rattle.ug_rule.specs.declared.fault.Fault.{Fault}
use Rattle.ug_rule.specs.Faults.{on_ok}
use Rattle.ug_rule.specs.Files.{rule_in, line_read}
use Rattle.ug_rule.specs.Rules.{rule_of}
use Rattle.ug_rule.specs.Texts.{lexical_fault}
use Rattle.ug_rule.specs.Tokens.{read_by}
use Rattle.ug_rule.proofs.TextLines.{lexical_found, line_blank}
use Rattle.ug_rule_faults.specs.FaultKinds.{rule_stray_kind, rule_early_kind}
use Rattle.ug_rule_faults.specs.FirstFault.{AreRule, IsBadLine}
use Rattle.ug_rule_faults.proofs.FirstFaults.{fault_found, fault_told, rule_reading, rule_kinds}
use Rattle.ug_rule_faults.proofs.Machine.{Start}

abbrev LineRead : Type 0
LineRead = Result (Option Rule) Fault

fault_left : (r : Result Rule Fault) (fault : Fault) → on_ok {Y = Option Rule} r (λ rule. Ok (Some rule)) ≡ Err fault → r ≡ Err fault
fault_left (Ok rule) fault h = let none : ⊥ = cc in absurd none
fault_left (Err found) fault h = let e : found ≡ fault = cc in ap (λ f. Err f) e

no_rule : (line : List ℕ) (fault : Fault) (read : Lexed) → on_ok (read_by read) (rule_in line) ≡ Err fault → on_ok (read_by read) (rule_of line) ≡ Err fault
no_rule line fault (Ok []) h = let none : ⊥ = cc in absurd none
no_rule line fault (Ok (token ∷ tokens)) h = fault_left (rule_of line (token ∷ tokens)) fault h
no_rule line fault (Err bad) h =
    let same : ◌≡◌ {A = LineRead} (Err (lexical_fault bad)) (Err fault) = sym (lexical_found bad (rule_in line)) ∙ h in
    let s : lexical_fault bad ≡ fault = cc in
    lexical_found bad (rule_of line) ∙ ap (λ f. Err f) s

pub bad_line : (line : List ℕ) (fault : Fault) → line_read line ≡ Err fault → IsBadLine line fault
bad_line line fault h = (
  λ g. let e : ◌≡◌ {A = LineRead} (Ok None) (Err fault) = sym (line_blank line g) ∙ h in let none : ⊥ = cc in none,
  fault_found AreRule rule_of rule_stray_kind rule_early_kind Start rule_reading rule_kinds line fault (no_rule line fault (tokens_of line) h),
)

pub line_bad : (line : List ℕ) (fault : Fault) → IsBadLine line fault → line_read line ≡ Err fault
line_bad line fault b = by (tokens_of line) refl (fault_told AreRule rule_of rule_stray_kind rule_early_kind Start rule_reading rule_kinds line fault b.1)
  where
    lexical : (bad : lexing.Fault) → on_ok {Y = Rule} (read_by (Err bad)) (rule_of line) ≡ Err fault → on_ok (read_by (Err bad)) (rule_in line) ≡ Err fault
    lexical bad h =
        let same : ◌≡◌ {A = Result Rule Fault} (Err (lexical_fault bad)) (Err fault) = sym (lexical_found bad (rule_of line)) ∙ h in
        let s : lexical_fault bad ≡ fault = cc in
        lexical_found bad (rule_in line) ∙ ap (λ f. Err f) s

    by : (read : Lexed) → tokens_of line ≡ read → on_ok (read_by read) (rule_of line) ≡ Err fault → on_ok (read_by read) (rule_in line) ≡ Err fault
    by (Ok []) e h = absurd (b.0 (read_good line [] e))
    by (Ok (token ∷ tokens)) e h = ap (λ r. on_ok r (λ rule. Ok (Some rule))) h
    by (Err bad) e h = lexical bad h
