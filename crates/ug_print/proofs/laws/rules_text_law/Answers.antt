use Rattle.ug_print.proofs.RuleTexts.{text_lines, text_read}
use Rattle.ug_print.proofs.laws.rules_text_law.Goals as goal

pub returns : goal.returns
returns c = record { lines = text_lines; reads = text_read }
