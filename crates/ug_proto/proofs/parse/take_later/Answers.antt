use Rattle.std.proofs.Common.{false, ap, refl}
use Rattle.std.specs.Prelude.{codes}
use Rattle.std.proofs.lemmas.Result.{IfErr-weaker, IfOk-weaker, err_from_is_err_and}
use Rattle.ug_types.specs.declared.refusal.Refusal.TheVariants as refusal
use Rattle.ug_proto.specs.RefusalParts.{named_number, refusal_rest}
use Rattle.ug_proto.proofs.NamedTaken.{any_taken, number_taken}
use Rattle.ug_proto.proofs.RefusalNumbers.{stands, at_number, malformed_device, rules_full, store_fault, device_fault, memory, probe_fault, folder_rule}
use Rattle.ug_proto.proofs.parse.take_later.Goals as goal

pub returns-in-8-clause-ok : goal.returns-in-8-clause-ok
unfolding refusal_rest
returns-in-8-clause-ok c = IfOk-weaker c.take_named.result _ _ (λ p h. any_taken c.args.number 8 (codes "malformed-device ") (refusal.MalformedDevice 0) p.0 c.args.text.now p.1.now c.in-8.is (λ x k. (k, refl)) (λ x. refl) h) c.take_named.ensures.ok

pub returns-in-8-clause-err : goal.returns-in-8-clause-err
returns-in-8-clause-err c = IfErr-weaker c.take_named.result _ _ (λ s h. at_number c.args.number 8 c.args.text.now s c.in-8.is (malformed_device c.args.text.now s h)) c.take_named.ensures.err

pub returns-in_err-rest-in-9-clause-err : goal.returns-in_err-rest-in-9-clause-err
returns-in_err-rest-in-9-clause-err c =
    let p = err_from_is_err_and c.from_residual.result c.from_residual.ensures.1 in
    rw (p.1, p.2) (at_number c.args.number 9 c.args.text.now c.in_err-rest-in-9.field-0.0 c.in-9.is (rules_full c.args.text.now c.in_err-rest-in-9.field-0.0 c.in_err-rest-in-9.ensures.err))

pub returns-in-10-clause-ok : goal.returns-in-10-clause-ok
unfolding refusal_rest
returns-in-10-clause-ok c = IfOk-weaker c.take_named-in-10.result _ _ (λ p h. any_taken c.args.number 10 (codes "store-fault ") (refusal.StoreFault 0) p.0 c.args.text.now p.1.now c.in-10.is (λ x k. (k, refl)) (λ x. refl) h) c.take_named-in-10.ensures.ok

pub returns-in-10-clause-err : goal.returns-in-10-clause-err
returns-in-10-clause-err c = IfErr-weaker c.take_named-in-10.result _ _ (λ s h. at_number c.args.number 10 c.args.text.now s c.in-10.is (store_fault c.args.text.now s h)) c.take_named-in-10.ensures.err

pub returns-in_err-call-in-11-clause-err : goal.returns-in_err-call-in-11-clause-err
returns-in_err-call-in-11-clause-err c =
    let p = err_from_is_err_and c.from_residual-in_err-call-in-11.result c.from_residual-in_err-call-in-11.ensures.1 in
    rw (p.1, p.2) (at_number c.args.number 11 c.args.text.now c.in_err-call-in-11.field-0.0 c.in-11.is (device_fault c.args.text.now c.in_err-call-in-11.field-0.0 c.in_err-call-in-11.ensures.err))

pub returns-in-12-clause-ok : goal.returns-in-12-clause-ok
unfolding refusal_rest
returns-in-12-clause-ok c = IfOk-weaker c.take_named-in-12.result _ _ (λ p h. number_taken c.args.number 12 1 (codes "memory ") (refusal.Memory false) p.0 c.args.text.now p.1.now c.in-12.is (λ x k. (tt, refl)) (λ x k. ap (named_number (codes "memory ")) (stands x k)) h) c.take_named-in-12.ensures.ok

pub returns-in-12-clause-err : goal.returns-in-12-clause-err
returns-in-12-clause-err c = IfErr-weaker c.take_named-in-12.result _ _ (λ s h. at_number c.args.number 12 c.args.text.now s c.in-12.is (memory c.args.text.now s h)) c.take_named-in-12.ensures.err

pub returns-in-13-clause-ok : goal.returns-in-13-clause-ok
unfolding refusal_rest
returns-in-13-clause-ok c = IfOk-weaker c.take_named-in-13.result _ _ (λ p h. any_taken c.args.number 13 (codes "probe-fault ") (refusal.ProbeFault 0) p.0 c.args.text.now p.1.now c.in-13.is (λ x k. (k, refl)) (λ x. refl) h) c.take_named-in-13.ensures.ok

pub returns-in-13-clause-err : goal.returns-in-13-clause-err
returns-in-13-clause-err c = IfErr-weaker c.take_named-in-13.result _ _ (λ s h. at_number c.args.number 13 c.args.text.now s c.in-13.is (probe_fault c.args.text.now s h)) c.take_named-in-13.ensures.err

pub returns-in-14-clause-ok : goal.returns-in-14-clause-ok
unfolding refusal_rest
returns-in-14-clause-ok c = IfOk-weaker c.take_named-in-14.result _ _ (λ p h. any_taken c.args.number 14 (codes "folder-rule ") (refusal.FolderRule 0) p.0 c.args.text.now p.1.now c.in-14.is (λ x k. (k, refl)) (λ x. refl) h) c.take_named-in-14.ensures.ok

pub returns-in-14-clause-err : goal.returns-in-14-clause-err
returns-in-14-clause-err c = IfErr-weaker c.take_named-in-14.result _ _ (λ s h. at_number c.args.number 14 c.args.text.now s c.in-14.is (folder_rule c.args.text.now s h)) c.take_named-in-14.ensures.err
