-- Each rule that a script's line asks for is the rule of some line, and each piece of uevents fits an event.
use Rattle.std.proofs.Common.{◌≡◌, ℕ, List, Some}
use Rattle.ug_types.specs.Events.{FitsEvent}
use Rattle.ug_types.specs.declared.event.Event.{Event}
use Rattle.ug_types.specs.declared.event.Event.TheVariants.{Sweep, Order, Hint}
use Rattle.ug_steps.specs.declared.step.SetupLine.{SetupLine}
use Rattle.ug_steps.specs.declared.step.SetupLine.TheVariants as setup
use Rattle.ug_steps.specs.declared.step.Step.{Step}
use Rattle.ug_steps.specs.declared.step.Step.TheVariants as step
use Rattle.ug_steps.specs.Grammar.{AsksForRule, AsksForRules, step_of_line}
use Rattle.ug_steps.specs.LineGrammar.{AsksFor, IsEventLine, IsSetupLine}
use Rattle.ug_steps.proofs.LineReads.{line_so}

rule_asks : (line : List ℕ) (asked : SetupLine) → IsSetupLine line asked → AsksForRule asked
rule_asks line (setup.Rule rule) (text, is, says) = record { line = text; says = says }
rule_asks line (setup.Folder f) (text, is, it) = it.holds
rule_asks line (setup.Conf text) h = tt
rule_asks line (setup.Access a) h = tt
rule_asks line (setup.Seed seed) h = tt
rule_asks line (setup.Zone offset) h = tt
rule_asks line (setup.IfaceRule rule) h = tt

event_asks : (line : List ℕ) (event : Event) → IsEventLine line event → FitsEvent event
event_asks line (Sweep moment) h = tt
event_asks line (Order moment who request) h = tt
event_asks line (Hint moment piece) h = h.short

asks : (line : List ℕ) (asked : Step) → AsksFor line asked → AsksForRules asked
asks line step.Skip h = tt
asks line (step.Setup asked) h = rule_asks line asked h
asks line (step.Move action) h = tt
asks line (step.Schedule plan) h = tt
asks line (step.Event event) h = event_asks line event h
asks line step.Restart h = tt

pub line_asks : (line : List ℕ) (asked : Step) → step_of_line line ≡ Some asked → AsksForRules asked
line_asks line asked e = asks line asked (line_so line asked e)
