use Rattle.ug_generate.proofs.Policies.{admitted, made, same_record, only_policy}
use Rattle.ug_generate.proofs.laws.policy_law.Goals as goal

pub returns-clause-one : goal.returns-clause-one
returns-clause-one c = only_policy

pub returns-clause-admits : goal.returns-clause-admits
returns-clause-admits c = admitted

pub returns-clause-just : goal.returns-clause-just
returns-clause-just c = made

pub returns-clause-record : goal.returns-clause-record
returns-clause-record c = same_record
