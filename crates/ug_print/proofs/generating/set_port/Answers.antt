use Rattle.ug_print.proofs.TextBytes.{are_bytes}
use Rattle.ug_print.proofs.generating.set_port.Goals as goal

pub returns-then-with_port-clause-bytes : goal.returns-then-with_port-clause-bytes
returns-then-with_port-clause-bytes c = are_bytes c.args.port.now c.type_inv.port

pub returns-clause-bytes : goal.returns-clause-bytes
returns-clause-bytes c = are_bytes c.args.port.now c.type_inv.port
