use Rattle.std.proofs.Common.{◌≤◌, ℕ, Bool, nat_le, length, sym, ◌∙◌, ap, subst}
use Rattle.std.specs.Prelude.{decimal}
use Rattle.ug_proto.specs.Texts.{request_text}
use Rattle.ug_proto.specs.declared.request.Request.{Request}
use Rattle.ug_arguments.specs.Commands.{request_limit}
use Rattle.ug_arguments.proofs.RequestLengths.{device_fits, removal_fits}
use Rattle.ug_arguments.proofs.sending.is_sendable.Goals as goal

is_within : Request → Bool
is_within request = nat_le (length (request_text request)) request_limit

pub returns-in-Device : goal.returns-in-Device
unfolding is_within request_text
returns-in-Device c =
    let few : length (decimal c.in-Device.number) ≤ 40 = subst (λ (n : ℕ). n ≤ 40) c.digits.ensures.length c.digits.ensures.short in
    c.are_few.ensures ∙ sym (ap is_within c.in-Device.is ∙ device_fits c.in-Device.target c.in-Device.number c.in-Device.permanent few)

pub returns-in-RemoveRule : goal.returns-in-RemoveRule
unfolding is_within request_text
returns-in-RemoveRule c =
    let few : length (decimal c.in-RemoveRule.id) ≤ 40 = subst (λ (n : ℕ). n ≤ 40) c.digits-in-RemoveRule.ensures.length c.digits-in-RemoveRule.ensures.short in
    c.are_few-in-RemoveRule.ensures ∙ sym (ap is_within c.in-RemoveRule.is ∙ removal_fits c.in-RemoveRule.id few)
