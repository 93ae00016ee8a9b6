-- Rules that are counted and not kept.
use Rattle.std.proofs.Common.{◌≡◌, ℕ, ◌+◌, List, [], ◌∷◌, length, length-append, Option, Some, None, Result, Ok, Err, refl, sym, ap, ◌∙◌}
use Rattle.ug_types.specs.TextFaults.{IsTextFault}
use Rattle.ug_types.specs.declared.rule.Rule.{Rule}
use Rattle.ug_types.specs.declared.text_fault.FileFault.{FileFault}
use Rattle.ug_types.specs.declared.text_fault.FileFault.TheVariants.{Bad, Memory}
use Rattle.ug_types.specs.declared.text_fault.TextFault.{TextFault}
use Rattle.ug_lines.specs.LineReading.{then_on, lines_read, text_read, LeadsTo}
use Rattle.ug_lines.specs.Lines.{lines_of}
use Rattle.ug_rule.specs.declared.fault.Fault.{Fault}
use Rattle.ug_rule.specs.Files.{line_read, added, adding_line, rules_counted, counting_line, file_read, IsCount}

abbrev Rules : Type 0
Rules = Result (List Rule) TextFault

abbrev lengths : Rules → Result ℕ TextFault
lengths (Ok rules) = Ok (length rules)
lengths (Err fault) = Err fault

one_counted : (number : ℕ) (rules : List Rule) (read : Result (Option Rule) Fault) → rules_counted number (length rules) read ≡ lengths (added number rules read)
one_counted number rules (Ok None) = refl
one_counted number rules (Ok (Some rule)) = ap (λ (n : ℕ). Ok n) (sym (length-append rules (rule ∷ [])))
one_counted number rules (Err fault) = refl

all_counted : (lines : List (List ℕ)) (number : ℕ) (rules : List Rule) → lines_read counting_line number (length rules) lines ≡ lengths (lines_read adding_line number rules lines)
unfolding lines_read
all_counted [] number rules = refl
all_counted (line ∷ lines) number rules =
    ap (λ (r : Result ℕ TextFault). then_on r (λ next. lines_read counting_line (number + 1) next lines)) (one_counted number rules (line_read line))
    ∙ by (added number rules (line_read line)) (λ more. all_counted lines (number + 1) more)
  where
    by : (r : Rules) → ((more : List Rule) → lines_read counting_line (number + 1) (length more) lines ≡ lengths (lines_read adding_line (number + 1) more lines))
        → then_on (lengths r) (λ next. lines_read counting_line (number + 1) next lines) ≡ lengths (then_on r (λ more. lines_read adding_line (number + 1) more lines))
    by (Ok more) f = f more
    by (Err fault) f = refl

so_many : (read : Rules) (count : ℕ) → lengths read ≡ Ok count → IsCount count read
so_many (Ok rules) count h = let e : length rules ≡ count = cc in (rules, refl, sym e)
so_many (Err fault) count h = let none : ⊥ = cc in absurd none

same_fault : (read : Rules) (fault : TextFault) → lengths read ≡ Err fault → read ≡ Err fault
same_fault (Ok rules) fault h = let none : ⊥ = cc in absurd none
same_fault (Err found) fault h = let e : found ≡ fault = cc in ap (λ (f : TextFault). Err f) e

pub count_read : (text : List ℕ) (count : ℕ) → text_read counting_line 0 text ≡ Ok count → IsCount count (file_read text)
count_read text count h = so_many (file_read text) count (sym (all_counted (lines_of text) 1 []) ∙ h)

pub fault_read : (text : List ℕ) (fault : FileFault) (last : ℕ) → LeadsTo (text_read counting_line 0 text) (Err fault) last → IsTextFault fault (file_read text)
fault_read text Memory last h = tt
fault_read text (Bad fault) last h = same_fault (file_read text) fault (sym (all_counted (lines_of text) 1 []) ∙ h)
