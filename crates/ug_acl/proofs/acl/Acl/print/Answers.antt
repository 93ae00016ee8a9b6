use Rattle.std.proofs.Common.{Ok, ap, ◌∙◌}
use Rattle.ug_acl.specs.Kept.{kept_in}
use Rattle.ug_acl.specs.Texts.{access_read}
use Rattle.ug_acl.specs.Words.{has_privilege}
use Rattle.ug_acl.proofs.Printing.{reads_back}
use Rattle.ug_acl.proofs.acl.Acl.print.Goals as goal

pub returns-clause-reads_back : goal.returns-clause-reads_back
returns-clause-reads_back c =
    ap access_read (c.from_vec.ensures ∙ c.in_ok-text.ensures) ∙ reads_back (λ pair. has_privilege (kept_in c.kept-kept.result pair.0) pair.1) ∙ ap Ok c.kept-kept.ensures
