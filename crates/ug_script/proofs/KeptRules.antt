-- One rule more.
use Rattle.std.proofs.Common.{◌≡◌, ℕ, ◌+◌, ◌<◌, List, [], ◌∷◌, ◌++◌, length, length-append, Ok, Result, sym, ap, subst, ◌∙◌, arith}
use Rattle.std.specs.Prelude.{All}
use Rattle.std.proofs.lemmas.List.{flat_map_more}
use Rattle.std.proofs.lemmas.List.Elements.{All-nil, All-push}
use Rattle.ug_types.specs.declared.rule.Rule.{Rule}
use Rattle.ug_types.specs.declared.text_fault.TextFault.{TextFault}
use Rattle.ug_rule.specs.Files.{file_read}
use Rattle.ug_rule.specs.Grammar.{WellFormed}
use Rattle.ug_print.specs.Bytes.{RuleOfBytes}
use Rattle.ug_print.specs.RuleTexts.{rule_line, rules_text_of}
use Rattle.ug_print.proofs.RuleTexts.{text_read}
use Rattle.ug_script.specs.RuleLines.{IsRuleText, rules_kept, rules_or_none}

pub none_kept : rules_kept [] ≡ []
none_kept = ap (λ (read : Result (List Rule) TextFault). rules_or_none read) (text_read [] (All-nil WellFormed) (All-nil RuleOfBytes))

pub no_text : IsRuleText [] 0
no_text = record {
  is = ap rules_text_of (sym none_kept);
  well_formed = subst (All WellFormed) (sym none_kept) (All-nil WellFormed);
  bytes = subst (All RuleOfBytes) (sym none_kept) (All-nil RuleOfBytes);
  few = omega (arith, ap length none_kept);
  number = ap length (sym none_kept);
}

more_text : (rules : List Rule) (rule : Rule) → rules_text_of rules ++ rule_line rule ≡ rules_text_of (rules ++ rule ∷ [])
more_text rules rule = flat_map_more rule_line [] rules rule

reads_more : (text : List ℕ) (count : ℕ) (rule : Rule) → IsRuleText text count → WellFormed rule → RuleOfBytes rule → file_read (text ++ rule_line rule) ≡ Ok (rules_kept text ++ rule ∷ [])
reads_more text count rule h well bytes =
    let rules : List Rule = rules_kept text in
    let same : text ++ rule_line rule ≡ rules_text_of (rules ++ rule ∷ []) = ap (λ (t : List ℕ). t ++ rule_line rule) h.is ∙ more_text rules rule in
    ap file_read same ∙ text_read (rules ++ rule ∷ []) (All-push WellFormed rules rule h.well_formed well) (All-push RuleOfBytes rules rule h.bytes bytes)

pub kept_more : (text : List ℕ) (count : ℕ) (rule : Rule) → IsRuleText text count → WellFormed rule → RuleOfBytes rule → rules_kept (text ++ rule_line rule) ≡ rules_kept text ++ rule ∷ []
kept_more text count rule h well bytes = ap (λ (read : Result (List Rule) TextFault). rules_or_none read) (reads_more text count rule h well bytes)

pub text_more : (text : List ℕ) (count : ℕ) (rule : Rule) → IsRuleText text count → WellFormed rule → RuleOfBytes rule → length (rules_kept text) < 65536 → IsRuleText (text ++ rule_line rule) (count + 1)
text_more text count rule h well bytes lt =
    let rules : List Rule = rules_kept text in
    let kept : rules_kept (text ++ rule_line rule) ≡ rules ++ rule ∷ [] = kept_more text count rule h well bytes in
    let one : length (rules_kept (text ++ rule_line rule)) ≡ length rules + 1 = ap length kept ∙ length-append rules (rule ∷ []) in
    let number : count ≡ length rules = h.number in
    record {
      is = ap (λ (t : List ℕ). t ++ rule_line rule) h.is ∙ more_text rules rule ∙ ap rules_text_of (sym kept);
      well_formed = subst (All WellFormed) (sym kept) (All-push WellFormed rules rule h.well_formed well);
      bytes = subst (All RuleOfBytes) (sym kept) (All-push RuleOfBytes rules rule h.bytes bytes);
      few = omega (arith, one, lt);
      number = omega (arith, one, number);
    }

pub text_reads : (text : List ℕ) (count : ℕ) → IsRuleText text count → file_read (rules_text_of (rules_kept text)) ≡ Ok (rules_kept text)
text_reads text count h = text_read (rules_kept text) h.well_formed h.bytes
