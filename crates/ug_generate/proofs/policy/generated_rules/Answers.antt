use Rattle.std.proofs.Common.{◌≡◌, ℕ, Bool, List, [], ◌++◌, get_or, take, slice_get, sym, ap, subst, ◌∙◌}
use Rattle.std.specs.List.{flat_map}
use Rattle.std.proofs.lemmas.List.{flat_map_more, take_all, take_more}
use Rattle.ug_types.specs.declared.rule.Rule.{Rule}
use Rattle.ug_kernel.specs.declared.device.Device.{Device}
use Rattle.ug_print.proofs.RuleTexts.{text_read}
use Rattle.ug_generate.specs.Policies.{rules_at, AreLiveInOrder}
use Rattle.ug_generate.proofs.Policies.{one_policy}
use Rattle.ug_generate.proofs.policy.generated_rules.Goals as goal

pub returns-clause-policy : goal.returns-clause-policy
returns-clause-policy c =
    let ds : List Device = c.args.devices.now in
    let port : Bool = c.args.with_port in
    let items : List (List ℕ × ℕ) = c.as_slice-entry-items.result.now in
    let all : take c.loop-entry.entry-index items ≡ items = take_all c.loop-entry.entry-index items c.loop-entry-test.false in
    record {
      places = items;
      order = subst (AreLiveInOrder ds) (sym c.as_slice-entry-items.ensures.value) c.in_ok-places.ensures;
      rules = c.loop-entry.invariant.rules ∙ ap (λ (ps : List (List ℕ × ℕ)). flat_map (λ (p : List ℕ × ℕ). rules_at ds port (slice_get ds p.1)) ps) all;
    }

pub returns-clause-rules : goal.returns-clause-rules
returns-clause-rules c = one_policy c.args.devices.now c.args.with_port c.loop-entry.rules (returns-clause-policy c)

pub returns-clause-reads : goal.returns-clause-reads
returns-clause-reads c = text_read c.loop-entry.rules c.loop-entry.invariant.well_formed c.loop-entry.invariant.bytes

pub loop-entry-preserved : goal.loop-entry-preserved
loop-entry-preserved c =
    let ds : List Device = c.args.devices.now in
    let made : List ℕ × ℕ → List Rule = λ p. rules_at ds c.args.with_port (slice_get ds p.1) in
    let items : List (List ℕ × ℕ) = c.as_slice-entry-items.result.now in
    let i : ℕ = c.loop-entry.entry-index in
    let entry : List ℕ × ℕ = c.entry-item.result in
    let here : List ℕ × ℕ = get_or items i entry in
    record {
      rules = c.in_ok-push_rule_at.ensures.rules ∙ ap (λ (p : List ℕ × ℕ). c.loop-entry.rules ++ made p) c.entry-item.is
          ∙ ap (λ (rules : List Rule). rules ++ made here) c.loop-entry.invariant.rules
          ∙ flat_map_more made [] (take i items) here ∙ ap (flat_map made) (sym (take_more items i entry c.loop-entry-test.true));
      well_formed = c.in_ok-push_rule_at.ensures.well_formed c.loop-entry.invariant.well_formed;
      bytes = c.in_ok-push_rule_at.ensures.bytes c.loop-entry.invariant.bytes;
    }
