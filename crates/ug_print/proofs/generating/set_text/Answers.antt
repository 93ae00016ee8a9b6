use Rattle.ug_print.proofs.TextBytes.{are_bytes}
use Rattle.ug_print.proofs.generating.set_text.Goals as goal

pub returns-in_err-item-clause-bytes : goal.returns-in_err-item-clause-bytes
returns-in_err-item-clause-bytes c = are_bytes c.args.text.now c.type_inv.text

pub returns-in_err-push-clause-bytes : goal.returns-in_err-push-clause-bytes
returns-in_err-push-clause-bytes c = are_bytes c.args.text.now c.type_inv.text

pub returns-clause-bytes : goal.returns-clause-bytes
returns-clause-bytes c = are_bytes c.args.text.now c.type_inv.text
