use Rattle.ug_client.proofs.following.print_both.Goals as goal

pub returns-in-Change : goal.returns-in-Change
returns-in-Change c = rw c.in-Change.is (rw c.bytes.ensures at (c.print_change.ensures c.args.second.now))
