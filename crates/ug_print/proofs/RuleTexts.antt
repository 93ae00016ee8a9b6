-- The text of a rule file reads as its rules.
use Rattle.std.proofs.Common.{◌≡◌, ℕ, ◌+◌, ◌<◌, ◌≤◌, List, [], ◌∷◌, ◌++◌, get_or, length, length-append, map, take, Ok, sym, ap, subst, ◌∙◌, append_assoc, arith}
use Rattle.std.specs.Prelude.{All}
use Rattle.std.specs.List.{AllByRecursion}
use Rattle.std.proofs.lemmas.List.{flat_map_more, take_all, take_more}
use Rattle.std.proofs.lemmas.List.Elements.{recursion_from_All}
use Rattle.std.proofs.lemmas.List.Folds.{length-flat_map-take}
use Rattle.ug_types.specs.declared.rule.Rule.{Rule}
use Rattle.ug_lines.specs.LineReading.{lines_read}
use Rattle.ug_rule.specs.Files.{adding_line, file_read}
use Rattle.ug_rule.specs.Grammar.{WellFormed}
use Rattle.ug_lines.specs.Splitting.{AreLinesOf, Nothing, Closed}
use Rattle.ug_rule.specs.Texts.{AreRules, NoLines, OneMore}
use Rattle.ug_lines.proofs.TextLines.{split_only}
use Rattle.ug_rule.proofs.Texts.{read-rules}
use Rattle.ug_print.specs.Bytes.{RuleOfBytes}
use Rattle.ug_print.specs.RuleTexts.{rule_line, rules_text_of}
use Rattle.ug_print.specs.Words.{rule_text}
use Rattle.ug_print.proofs.Printed.{printed, on_line}

-- each rule is well formed, with bytes for its texts
record Fit (rule : Rule) : Type 0 where
  well : WellFormed rule
  bytes : RuleOfBytes rule

all_fit : (rules : List Rule) → AllByRecursion WellFormed rules → AllByRecursion RuleOfBytes rules → AllByRecursion Fit rules
all_fit [] w b = tt
all_fit (rule ∷ rules) w b = (record { well = w.0; bytes = b.0 }, all_fit rules w.1 b.1)

split : (rules : List Rule) → AllByRecursion Fit rules → AreLinesOf (rules_text_of rules) (map rule_text rules)
split [] f = Nothing
split (rule ∷ rules) f =
    subst (λ (text : List ℕ). AreLinesOf text (rule_text rule ∷ map rule_text rules)) (sym (append_assoc (rule_text rule) (10 ∷ []) (rules_text_of rules)))
    (Closed (rule_text rule) (rules_text_of rules) (map rule_text rules) (on_line rule f.0.well f.0.bytes) (split rules f.1))

are_rules : (rules : List Rule) → AllByRecursion Fit rules → AreRules (map rule_text rules) rules
are_rules [] f = NoLines
are_rules (rule ∷ rules) f = OneMore (rule_text rule) rule (map rule_text rules) rules (printed rule f.0.well f.0.bytes) (are_rules rules f.1)

fit : (rules : List Rule) → All WellFormed rules → All RuleOfBytes rules → AllByRecursion Fit rules
fit rules w b = all_fit rules (recursion_from_All WellFormed rules w) (recursion_from_All RuleOfBytes rules b)

pub text_lines : (rules : List Rule) → All WellFormed rules → All RuleOfBytes rules → AreLinesOf (rules_text_of rules) (map rule_text rules)
text_lines rules w b = split rules (fit rules w b)

pub text_read : (rules : List Rule) → All WellFormed rules → All RuleOfBytes rules → file_read (rules_text_of rules) ≡ Ok rules
text_read rules w b =
    ap (λ (lines : List (List ℕ)). lines_read adding_line 1 [] lines) (split_only (rules_text_of rules) (map rule_text rules) (text_lines rules w b))
    ∙ read-rules (map rule_text rules) rules (are_rules rules (fit rules w b))

-- ---- one rule behind another

pub line_more : (rules : List Rule) (i : ℕ) (rule : Rule) → i < length rules → rule ≡ get_or rules i rule → rules_text_of (take i rules) ++ rule_line rule ≡ rules_text_of (take (i + 1) rules)
line_more rules i rule lt is =
    flat_map_more rule_line [] (take i rules) rule
    ∙ ap (λ (r : Rule). rules_text_of (take i rules ++ r ∷ [])) is
    ∙ ap rules_text_of (sym (take_more rules i rule lt))

pub line_long : (rules : List Rule) (i most : ℕ) (rule : Rule) (text : List ℕ) → i < length rules → rule ≡ get_or rules i rule → text ≡ rules_text_of (take i rules) → most < length (text ++ rule_line rule) → most < length (rules_text_of rules)
line_long rules i most rule text lt is e h =
    omega (arith, length-flat_map-take rule_line rules i rule lt, ap length e, length-append text (rule_line rule), ap (λ (r : Rule). length (rule_line r)) is)

pub all_read : (rules : List Rule) (n : ℕ) (text : List ℕ) → length rules ≤ n → text ≡ rules_text_of (take n rules) → All RuleOfBytes (take n rules) → All WellFormed rules → file_read text ≡ Ok rules
all_read rules n text long e b w =
    let whole : take n rules ≡ rules = take_all n rules long in
    ap file_read (e ∙ ap rules_text_of whole) ∙ text_read rules w (subst (All RuleOfBytes) whole b)
