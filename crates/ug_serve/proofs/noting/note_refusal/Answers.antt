use Rattle.ug_serve.proofs.Noted.{one_noted}
use Rattle.ug_serve.proofs.noting.note_refusal.Goals as goal

pub returns-in-Refused : goal.returns-in-Refused
returns-in-Refused g c = rw c.in-Refused.is (one_noted _ _ _ c.note_start.ensures)
