use Rattle.ug_links.proofs.Numbering.{keeps_numbers}
use Rattle.ug_links.specs.declared.step.LinkStep.TheVariants.{AcceptedAt}
use Rattle.ug_links.proofs.mem_calls.MemLinksLinks.accept.Goals as goal

pub invariant_of-self-then-matches : goal.invariant_of-self-then-matches
invariant_of-self-then-matches c = record { numbered = λ going. keeps_numbers c.args.self.now.scripts c.args.self.now.calls (AcceptedAt c.args.listener c.in-Ok.answer) c.accept.new.self c.push.new.self (c.in-Ok.ensures.answer, c.in-Ok.ensures.after) (c.args.self.now.numbered going) c.in-Ok-push.ensures.ok }

pub invariant_of-self-else-matches : goal.invariant_of-self-else-matches
invariant_of-self-else-matches c = record { numbered = λ going. keeps_numbers c.args.self.now.scripts c.args.self.now.calls (AcceptedAt c.args.listener c.in-Ok.answer) c.accept.new.self c.push.new.self (c.in-Ok.ensures.answer, c.in-Ok.ensures.after) (c.args.self.now.numbered going) c.in-Ok-push.ensures.ok }
