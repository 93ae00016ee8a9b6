use Rattle.std.proofs.Common.{refl}
use Rattle.ug_links.proofs.Numbering.{keeps_numbers}
use Rattle.ug_links.specs.declared.step.LinkStep.TheVariants.{Closed}
use Rattle.ug_links.proofs.mem_calls.MemLinksLinks.close.Goals as goal

pub invariant_of-self : goal.invariant_of-self
invariant_of-self c = record { numbered = λ going. keeps_numbers c.args.self.now.scripts c.args.self.now.calls (Closed c.args.id) c.args.self.now.scripts c.push.new.self refl (c.args.self.now.numbered going) c.in-Ok.ensures.ok }
