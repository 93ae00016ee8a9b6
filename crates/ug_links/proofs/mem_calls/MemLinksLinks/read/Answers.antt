use Rattle.std.proofs.Common.{length}
use Rattle.ug_links.proofs.Numbering.{keeps_numbers}
use Rattle.ug_links.specs.Steps.{reading_given}
use Rattle.ug_links.specs.declared.step.LinkStep.TheVariants.{ReadFrom}
use Rattle.ug_links.proofs.mem_calls.MemLinksLinks.read.Goals as goal

pub invariant_of-self-then-matches : goal.invariant_of-self-then-matches
invariant_of-self-then-matches c = record { numbered = λ going. keeps_numbers c.args.self.now.scripts c.args.self.now.calls (ReadFrom c.args.id (length c.args.into.now) (reading_given c.read-answer.result c.read-answer.new.into)) c.read-answer.new.self c.keep_read.new.calls (c.read-answer.ensures.answer, c.read-answer.ensures.after) (c.args.self.now.numbered going) c.in-Ok.ensures }

pub invariant_of-self-else-matches : goal.invariant_of-self-else-matches
invariant_of-self-else-matches c = record { numbered = λ going. keeps_numbers c.args.self.now.scripts c.args.self.now.calls (ReadFrom c.args.id (length c.args.into.now) (reading_given c.read-answer.result c.read-answer.new.into)) c.read-answer.new.self c.keep_read.new.calls (c.read-answer.ensures.answer, c.read-answer.ensures.after) (c.args.self.now.numbered going) c.in-Ok.ensures }
