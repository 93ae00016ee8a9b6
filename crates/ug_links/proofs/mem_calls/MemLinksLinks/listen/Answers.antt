use Rattle.ug_links.proofs.Numbering.{keeps_numbers}
use Rattle.ug_links.specs.declared.step.LinkStep.TheVariants.{Listened}
use Rattle.ug_links.proofs.mem_calls.MemLinksLinks.listen.Goals as goal

pub invariant_of-self-then-matches : goal.invariant_of-self-then-matches
invariant_of-self-then-matches c = record { numbered = λ going. keeps_numbers c.args.self.now.scripts c.args.self.now.calls (Listened c.args.principal.now c.listen-answer.result) c.listen-answer.new.self c.push.new.self (c.listen-answer.ensures.answer, c.listen-answer.ensures.after) (c.args.self.now.numbered going) c.in-Ok.ensures.ok }

pub invariant_of-self-else-matches : goal.invariant_of-self-else-matches
invariant_of-self-else-matches c = record { numbered = λ going. keeps_numbers c.args.self.now.scripts c.args.self.now.calls (Listened c.args.principal.now c.listen-answer.result) c.listen-answer.new.self c.push.new.self (c.listen-answer.ensures.answer, c.listen-answer.ensures.after) (c.args.self.now.numbered going) c.in-Ok.ensures.ok }
