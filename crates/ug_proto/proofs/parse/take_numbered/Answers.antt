use Rattle.std.proofs.Common.{refl}
use Rattle.std.specs.Prelude.{codes}
use Rattle.std.proofs.lemmas.Result.{IfErr-weaker, IfOk-weaker, err_from_is_err_and}
use Rattle.ug_types.specs.declared.refusal.Refusal.TheVariants as refusal
use Rattle.ug_proto.specs.RefusalParts.{refusal_rest}
use Rattle.ug_proto.proofs.NamedTaken.{any_taken}
use Rattle.ug_proto.proofs.RefusalNumbers.{at_number, bad_request, denied, bad_rule, no_device, no_rule, bad_parameter, bad_value}
use Rattle.ug_proto.proofs.parse.take_numbered.Goals as goal

pub returns-in-1-clause-ok : goal.returns-in-1-clause-ok
unfolding refusal_rest
returns-in-1-clause-ok c = IfOk-weaker c.take_named.result _ _ (λ p h. any_taken c.args.number 1 (codes "bad-request ") (refusal.BadRequest 0) p.0 c.args.text.now p.1.now c.in-1.is (λ x k. (k, refl)) (λ x. refl) h) c.take_named.ensures.ok

pub returns-in-1-clause-err : goal.returns-in-1-clause-err
returns-in-1-clause-err c = IfErr-weaker c.take_named.result _ _ (λ s h. at_number c.args.number 1 c.args.text.now s c.in-1.is (bad_request c.args.text.now s h)) c.take_named.ensures.err

pub returns-in_err-section-in-2-clause-err : goal.returns-in_err-section-in-2-clause-err
returns-in_err-section-in-2-clause-err c =
    let p = err_from_is_err_and c.from_residual.result c.from_residual.ensures.1 in
    rw (p.1, p.2) (at_number c.args.number 2 c.args.text.now c.in_err-section-in-2.field-0.0 c.in-2.is (denied c.args.text.now c.in_err-section-in-2.field-0.0 c.in_err-section-in-2.ensures.err))

pub returns-in_err-kind-in-3-clause-err : goal.returns-in_err-kind-in-3-clause-err
returns-in_err-kind-in-3-clause-err c =
    let p = err_from_is_err_and c.from_residual-in_err-kind-in-3.result c.from_residual-in_err-kind-in-3.ensures.1 in
    rw (p.1, p.2) (at_number c.args.number 3 c.args.text.now c.in_err-kind-in-3.field-0.0 c.in-3.is (bad_rule c.args.text.now c.in_err-kind-in-3.field-0.0 c.in_err-kind-in-3.ensures.err))

pub returns-in-4-clause-ok : goal.returns-in-4-clause-ok
unfolding refusal_rest
returns-in-4-clause-ok c = IfOk-weaker c.take_named-in-4.result _ _ (λ p h. any_taken c.args.number 4 (codes "no-device ") (refusal.NoDevice 0) p.0 c.args.text.now p.1.now c.in-4.is (λ x k. (k, refl)) (λ x. refl) h) c.take_named-in-4.ensures.ok

pub returns-in-4-clause-err : goal.returns-in-4-clause-err
returns-in-4-clause-err c = IfErr-weaker c.take_named-in-4.result _ _ (λ s h. at_number c.args.number 4 c.args.text.now s c.in-4.is (no_device c.args.text.now s h)) c.take_named-in-4.ensures.err

pub returns-in-5-clause-ok : goal.returns-in-5-clause-ok
unfolding refusal_rest
returns-in-5-clause-ok c = IfOk-weaker c.take_named-in-5.result _ _ (λ p h. any_taken c.args.number 5 (codes "no-rule ") (refusal.NoRule 0) p.0 c.args.text.now p.1.now c.in-5.is (λ x k. (k, refl)) (λ x. refl) h) c.take_named-in-5.ensures.ok

pub returns-in-5-clause-err : goal.returns-in-5-clause-err
returns-in-5-clause-err c = IfErr-weaker c.take_named-in-5.result _ _ (λ s h. at_number c.args.number 5 c.args.text.now s c.in-5.is (no_rule c.args.text.now s h)) c.take_named-in-5.ensures.err

pub returns-in_err-rest-in-6-clause-err : goal.returns-in_err-rest-in-6-clause-err
returns-in_err-rest-in-6-clause-err c =
    let p = err_from_is_err_and c.from_residual-in_err-rest-in-6.result c.from_residual-in_err-rest-in-6.ensures.1 in
    rw (p.1, p.2) (at_number c.args.number 6 c.args.text.now c.in_err-rest-in-6.field-0.0 c.in-6.is (bad_parameter c.args.text.now c.in_err-rest-in-6.field-0.0 c.in_err-rest-in-6.ensures.err))

pub returns-in_err-rest-in-7-clause-err : goal.returns-in_err-rest-in-7-clause-err
returns-in_err-rest-in-7-clause-err c =
    let p = err_from_is_err_and c.from_residual-in_err-rest-in-7.result c.from_residual-in_err-rest-in-7.ensures.1 in
    rw (p.1, p.2) (at_number c.args.number 7 c.args.text.now c.in_err-rest-in-7.field-0.0 c.in-7.is (bad_value c.args.text.now c.in_err-rest-in-7.field-0.0 c.in_err-rest-in-7.ensures.err))
