-- The text of a rule reads as the rule.
use Rattle.std.proofs.Common.{◌≡◌, ℕ, List, Result, Ok, Err, sym, ap, ◌∙◌}
use Rattle.std.specs.Prelude.{IfOk, OnOk}
use Rattle.ug_types.specs.declared.no_memory.NoMemory.{NoMemory}
use Rattle.ug_types.specs.declared.rule.Rule.{Rule}
use Rattle.ug_types.specs.declared.verdict.Target.{Target}
use Rattle.ug_rule.specs.Grammar.{Says, WellFormed}
use Rattle.ug_rule.specs.Rules.{rule_read}
use Rattle.ug_lines.specs.Splitting.{IsLine}
use Rattle.ug_rule.proofs.Cases.{one_outcome}
use Rattle.ug_rule.proofs.RuleCuts.{says_line}
use Rattle.ug_print.specs.Bytes.{RuleOfBytes}
use Rattle.ug_print.specs.Words.{rule_text}
use Rattle.ug_print.proofs.Fits.{rule_fits}
use Rattle.ug_print.proofs.RuleAgain.{RuleFits, rule_again, rule_on_line}

pub printed : (rule : Rule) → WellFormed rule → RuleOfBytes rule → Says (rule_text rule) rule
printed rule w b = rule_again rule (rule_fits rule w b)

-- the same of an answer that has the text
pub answer_reads : (rule : Rule) (result : Result (List ℕ) NoMemory) → IfOk result (λ text. text ≡ rule_text rule) → RuleOfBytes rule → WellFormed rule → IfOk result (λ text. rule_read text ≡ Ok rule)
answer_reads rule (Ok text) e b w = ap rule_read e ∙ says_line (rule_text rule) rule (printed rule w b)
answer_reads rule (Err no_memory) e b w = tt

pub answer_bytes : (rule : Rule) (result : Result (List ℕ) NoMemory) → RuleOfBytes rule → OnOk result (RuleOfBytes rule)
answer_bytes rule (Ok text) b = b
answer_bytes rule (Err no_memory) b = tt

-- rules with one text are one
pub apart : (a b : Rule) → WellFormed a → RuleOfBytes a → WellFormed b → RuleOfBytes b → rule_text a ≡ rule_text b → a ≡ b
apart a b w k v l e =
    one_outcome (rule_read (rule_text b)) a b (ap rule_read (sym e) ∙ says_line (rule_text a) a (printed a w k)) (says_line (rule_text b) b (printed b v l))

-- the text of a rule has no newline
pub on_line : (rule : Rule) → WellFormed rule → RuleOfBytes rule → IsLine (rule_text rule)
on_line rule w b = rule_on_line rule (rule_fits rule w b)

-- ---- another target

pub bytes_retargeted : (rule : Rule) (target : Target) → RuleOfBytes rule → RuleOfBytes (record rule { target = target })
bytes_retargeted rule target b = record { query = b.query; conds = b.conds }

pub retargeted : (rule : Rule) (target : Target) → WellFormed rule → RuleOfBytes rule → WellFormed (record rule { target = target })
retargeted rule target w b =
    let f : RuleFits rule = rule_fits rule w b in
    let aimed : Rule = record rule { target = target } in
    record { line = rule_text aimed; says = rule_again aimed (record { query = f.query; conds = f.conds }) }
