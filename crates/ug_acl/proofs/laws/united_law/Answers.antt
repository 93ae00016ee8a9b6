use Rattle.ug_acl.proofs.Unions.{reads, just}
use Rattle.ug_acl.proofs.laws.united_law.Goals as goal

pub returns-clause-reads : goal.returns-clause-reads
returns-clause-reads c = reads

pub returns-clause-just : goal.returns-clause-just
returns-clause-just c = λ bytes granted asked section privilege e. just section privilege granted asked bytes e
