-- Links in memory tell their calls.
use Rattle.std.proofs.Common.{◌≡◌, Bool, true, false, List, Some, sym, ap, ◌∙◌}
use Rattle.ug_links.specs.declared.step.LinkStep.{LinkStep}
use Rattle.ug_links.specs.declared.mem_links.MemLinks.{MemLinks}
use Rattle.ug_links.specs.MemCalls.{MemGives, GivesBy, told_unless}
use Rattle.ug_links.specs.Steps.{TellsStep}

tells_by : (b : Bool) (s : MemLinks) (step : LinkStep) (t : MemLinks) (after : List LinkStep)
    → GivesBy b s step t → told_unless b t.calls ≡ Some after
    → TellsStep (told_unless s.ran_out s.calls) step after
tells_by true s step t after g e = let none : ⊥ = cc in absurd none
tells_by false s step t after g e =
    let same : t.calls ≡ after = cc in
    (s.calls, ap (λ (b : Bool). told_unless b s.calls) g.going, sym same ∙ g.calls, g.may)

pub mem_tells : (s : MemLinks) (step : LinkStep) (t : MemLinks) (after : List LinkStep)
    → MemGives s step t → told_unless t.ran_out t.calls ≡ Some after
    → TellsStep (told_unless s.ran_out s.calls) step after
mem_tells s step t after g e = tells_by t.ran_out s step t after g.by e
