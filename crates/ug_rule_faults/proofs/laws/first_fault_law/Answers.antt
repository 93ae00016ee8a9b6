use Rattle.ug_rule_faults.specs.FaultKinds.{rule_stray_kind, query_stray_kind, rule_early_kind, query_early_kind}
use Rattle.ug_rule_faults.specs.FirstFault.{AreRule, AreQuery}
use Rattle.ug_rule.specs.Rules.{rule_of, whole_query}
use Rattle.ug_rule_faults.proofs.FirstFaults.{fault_found, fault_told, rule_reading, rule_kinds, query_reading, query_kinds}
use Rattle.ug_rule_faults.proofs.Machine.{Alone, End, Start, Front}
use Rattle.ug_rule_faults.proofs.laws.first_fault_law.Goals as goal

pub returns-clause-rules : goal.returns-clause-rules
returns-clause-rules c = λ line fault. (fault_found AreRule rule_of rule_stray_kind rule_early_kind Start rule_reading rule_kinds line fault, fault_told AreRule rule_of rule_stray_kind rule_early_kind Start rule_reading rule_kinds line fault)

pub returns-clause-queries : goal.returns-clause-queries
returns-clause-queries c = λ line fault. (fault_found AreQuery whole_query query_stray_kind query_early_kind (Front Alone End) query_reading query_kinds line fault, fault_told AreQuery whole_query query_stray_kind query_early_kind (Front Alone End) query_reading query_kinds line fault)
