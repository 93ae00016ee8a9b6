use Rattle.ug_print.proofs.TextBytes.{are_bytes}
use Rattle.ug_print.proofs.items.print_string.Goals as goal

pub returns-in_err-push-clause-bytes : goal.returns-in_err-push-clause-bytes
returns-in_err-push-clause-bytes c = are_bytes c.args.text.now c.type_inv.text

pub returns-in_err-put_text-clause-bytes : goal.returns-in_err-put_text-clause-bytes
returns-in_err-put_text-clause-bytes c = are_bytes c.args.text.now c.type_inv.text

pub returns-in_err-push-2-clause-bytes : goal.returns-in_err-push-2-clause-bytes
returns-in_err-push-2-clause-bytes c = are_bytes c.args.text.now c.type_inv.text

pub returns-clause-bytes : goal.returns-clause-bytes
returns-clause-bytes c = are_bytes c.args.text.now c.type_inv.text
