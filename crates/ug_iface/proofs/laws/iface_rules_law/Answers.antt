use Rattle.ug_iface.proofs.Lines.{line_cut, line_reads, no_off_cut, no_off_reads, fault_cut, fault_reads}
use Rattle.ug_iface.proofs.laws.iface_rules_law.Goals as goal

pub returns-clause-rules : goal.returns-clause-rules
returns-clause-rules c = λ line rule. (line_cut line rule, line_reads line rule)

pub returns-clause-no_off : goal.returns-clause-no_off
returns-clause-no_off c = λ line place. (no_off_cut line place, no_off_reads line place)

pub returns-clause-others : goal.returns-clause-others
returns-clause-others c = λ line fault. (fault_cut line fault, fault_reads line fault)
