-- The rules of a file read again from their canonical texts, which the file has room for.
use Rattle.std.proofs.Common.{◌≡◌, ◌≤◌, ℕ, ◌+◌, List, [], ◌∷◌, length, Option, Some, Result, Ok, Err, refl, sym, ap, subst, ◌∙◌}
use Rattle.std.specs.Prelude.{All}
use Rattle.std.specs.List.{AllByRecursion}
use Rattle.std.proofs.lemmas.List.Elements.{All-from_recursion, recursion_from_All}
use Rattle.ug_types.specs.Limits.{text_limit}
use Rattle.ug_types.specs.declared.rule.Rule.{Rule}
use Rattle.ug_policy.specs.declared.entry.Mark.TheVariants as mark
use Rattle.ug_policy.specs.declared.entry.RuleEntry.{RuleEntry}
use Rattle.ug_policy.specs.Rules.{Rules, most_rules, rules_in}
use Rattle.ug_rule.specs.Files.{file_read, line_read}
use Rattle.ug_rule.specs.TextLines.{fault_numbered, rule_on_line}
use Rattle.ug_rule.specs.declared.fault.Fault.{Fault}
use Rattle.ug_rule.specs.Grammar.{WellFormed}
use Rattle.ug_rule.specs.Texts.{AreRules, NoLines, Blank, OneMore}
use Rattle.ug_rule.proofs.RuleCuts.{says_line}
use Rattle.ug_rule.proofs.TextLines.{line_rule}
use Rattle.ug_rule.proofs.Texts.{rules-read}
use Rattle.ug_print.specs.Bytes.{RuleOfBytes}
use Rattle.ug_print.specs.RuleTexts.{rules_text_of}
use Rattle.ug_print.specs.Words.{rule_text}
use Rattle.ug_print.proofs.Printed.{printed}
use Rattle.ug_print.proofs.RuleTexts.{text_read}
use Rattle.ug_ruleset.specs.RuleFile.{CanSave, IsSaveable, ReadsBack, permanent_rules}
use Rattle.ug_core.specs.Starting.{HoldsJust, entries_from, marked_rules, start_rules}

are_well : (lines : List (List ℕ)) (rules : List Rule) → AreRules lines rules → AllByRecursion WellFormed rules
are_well _ _ NoLines = tt
are_well _ _ (Blank line lines rules blank rest) = are_well lines rules rest
are_well _ _ (OneMore line rule lines rules says rest) = (record { line = line; says = says }, are_well lines rules rest)

-- the rule of a line
pub line_well : (number : ℕ) (line : List ℕ) (rule : Rule) → rule_on_line number line ≡ Ok (Some rule) → WellFormed rule
line_well number line rule h = record { line = line; says = line_rule line rule (good (line_read line) h) }
  where
    good : (r : Result (Option Rule) Fault) → fault_numbered number r ≡ Ok (Some rule) → r ≡ Ok (Some rule)
    good (Ok found) k = let e : found ≡ Some rule = cc in ap (λ (o : Option Rule). Ok o) e
    good (Err fault) k = let none : ⊥ = cc in absurd none

all_back : (rules : List Rule) → AllByRecursion WellFormed rules → AllByRecursion RuleOfBytes rules → AllByRecursion ReadsBack rules
all_back [] w b = tt
all_back (rule ∷ rules) w b = (says_line (rule_text rule) rule (printed rule w.0 b.0), all_back rules w.1 b.1)

file_reads_back : (text : List ℕ) (rules : List Rule) → file_read text ≡ Ok rules → All RuleOfBytes rules → All ReadsBack rules
file_reads_back text rules e b =
    All-from_recursion ReadsBack rules (all_back rules (are_well _ rules (rules-read _ rules e)) (recursion_from_All RuleOfBytes rules b))

-- ---- behind those of the folder

back_file : (id : ℕ) (rules : List Rule) → AllByRecursion ReadsBack rules → AllByRecursion ReadsBack (rules_in (entries_from id (marked_rules mark.File rules)))
back_file id [] h = tt
back_file id (rule ∷ rules) h = (h.0, back_file (id + 1) rules h.1)

back_start : (id : ℕ) (folder rules : List Rule) → AllByRecursion ReadsBack folder → AllByRecursion ReadsBack rules → AllByRecursion ReadsBack (rules_in (entries_from id (start_rules folder rules)))
back_start id [] rules h k = back_file id rules k
back_start id (rule ∷ folder) rules h k = (h.0, back_start (id + 1) folder rules h.1 k)

pub list_reads_back : (text : List ℕ) (folder rules : List Rule) (list : Rules) → All ReadsBack folder → file_read text ≡ Ok rules → All RuleOfBytes rules → HoldsJust (start_rules folder rules) list → All ReadsBack (rules_in list.entries)
list_reads_back text folder rules list back e b h =
    subst (λ (es : List RuleEntry). All ReadsBack (rules_in es)) (sym h.entries)
    (All-from_recursion ReadsBack (rules_in (entries_from 1 (start_rules folder rules))) (back_start 1 folder rules (recursion_from_All ReadsBack folder back) (recursion_from_All ReadsBack rules (file_reads_back text rules e b))))

all_permanent : (id : ℕ) (rules : List Rule) → permanent_rules (entries_from id (marked_rules mark.File rules)) ≡ rules
all_permanent id [] = refl
all_permanent id (rule ∷ rules) = ap (λ (rs : List Rule). rule ∷ rs) (all_permanent (id + 1) rules)

-- just these are permanent
pub start_permanent : (id : ℕ) (folder rules : List Rule) → permanent_rules (entries_from id (start_rules folder rules)) ≡ rules
start_permanent id [] rules = all_permanent id rules
start_permanent id (rule ∷ folder) rules = start_permanent (id + 1) folder rules

pub list_saves : (text : List ℕ) (folder rules : List Rule) (list : Rules) → file_read text ≡ Ok rules → All RuleOfBytes rules → length (rules_text_of rules) ≤ text_limit → length rules ≤ most_rules → HoldsJust (start_rules folder rules) list → IsSaveable list.entries
list_saves text folder rules list e b fits few h =
    let well = All-from_recursion WellFormed rules (are_well _ rules (rules-read _ rules e)) in
    let saves : CanSave rules = record { reads = text_read rules well b; fits = fits; few = few } in
    subst CanSave (sym (ap (λ (es : List RuleEntry). permanent_rules es) h.entries ∙ start_permanent 1 folder rules)) saves
