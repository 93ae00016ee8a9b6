use Rattle.std.proofs.Common.{◌≡◌, Bool, List, ◌++◌, length, Option, None, Some, slice_get, refl, sym, ap, ◌∙◌, append-nil}
use Rattle.std.proofs.lemmas.Bool.{ltb-true}
use Rattle.std.proofs.lemmas.Option.{slice_get_past, slice_get_read}
use Rattle.std.proofs.lemmas.Result.{on_ok_weaker}
use Rattle.ug_types.specs.declared.record.Judged.{Judged}
use Rattle.ug_types.specs.declared.rule.Rule.{Rule}
use Rattle.ug_kernel.specs.declared.device.Device.{Device}
use Rattle.ug_generate.specs.Policies.{rules_at, rules_for}
use Rattle.ug_generate.proofs.policy.push_rule_at.Goals as goal

pub returns-in-None-clause-rules : goal.returns-in-None-clause-rules
returns-in-None-clause-rules c =
    let rules : List Rule = c.args.rules.now in
    let ds : List Device = c.args.devices.now in
    let none : slice_get ds c.args.place ≡ None = slice_get_past ds c.args.place c.in-None.ensures.lookup.3 in
    sym (ap (λ (v : Option Device). rules ++ rules_at ds c.args.with_port v) none ∙ append-nil rules)

pub returns-in_ok-judged-in-Some-clause-rules : goal.returns-in_ok-judged-in-Some-clause-rules
returns-in_ok-judged-in-Some-clause-rules c =
    let rules : List Rule = c.args.rules.now in
    let ds : List Device = c.args.devices.now in
    let port : Bool = c.args.with_port in
    let device : Device = c.in-Some.device.now in
    let judged : Judged = c.in_ok-judged-in-Some.judged in
    let there : slice_get ds c.args.place ≡ Some device = slice_get_read ds (length ds) c.args.place device refl (ltb-true c.args.place (length ds) (sym c.in-Some.ensures.lookup.0)) c.in-Some.ensures.lookup.1 in
    let same : rules_for port judged ≡ rules_at ds port (slice_get ds c.args.place) = ap (rules_for port) c.in_ok-judged-in-Some.ensures ∙ sym (ap (rules_at ds port) there) in
    on_ok_weaker c.push_rule-pushed.result (λ (e : c.push_rule-pushed.new.rules ≡ rules ++ rules_for port judged). e ∙ ap (λ (l : List Rule). rules ++ l) same) c.push_rule-pushed.ensures.rules

pub returns-in_ok-judged-in-Some-clause-well_formed : goal.returns-in_ok-judged-in-Some-clause-well_formed
returns-in_ok-judged-in-Some-clause-well_formed c = c.push_rule-pushed.ensures.well_formed

pub returns-in_ok-judged-in-Some-clause-bytes : goal.returns-in_ok-judged-in-Some-clause-bytes
returns-in_ok-judged-in-Some-clause-bytes c = c.push_rule-pushed.ensures.bytes
