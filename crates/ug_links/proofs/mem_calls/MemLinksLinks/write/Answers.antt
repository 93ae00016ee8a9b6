use Rattle.ug_links.proofs.Numbering.{keeps_numbers}
use Rattle.ug_links.specs.declared.step.LinkStep.TheVariants.{WroteTo}
use Rattle.ug_links.proofs.mem_calls.MemLinksLinks.write.Goals as goal

pub invariant_of-self-then-matches : goal.invariant_of-self-then-matches
invariant_of-self-then-matches c = record { numbered = λ going. keeps_numbers c.args.self.now.scripts c.args.self.now.calls (WroteTo c.args.id c.args.bytes.now c.write-answer.result) c.write-answer.new.self c.keep_write.new.calls (c.write-answer.ensures.answer, c.write-answer.ensures.after) (c.args.self.now.numbered going) c.in-Ok.ensures }

pub invariant_of-self-else-matches : goal.invariant_of-self-else-matches
invariant_of-self-else-matches c = record { numbered = λ going. keeps_numbers c.args.self.now.scripts c.args.self.now.calls (WroteTo c.args.id c.args.bytes.now c.write-answer.result) c.write-answer.new.self c.keep_write.new.calls (c.write-answer.ensures.answer, c.write-answer.ensures.after) (c.args.self.now.numbered going) c.in-Ok.ensures }
