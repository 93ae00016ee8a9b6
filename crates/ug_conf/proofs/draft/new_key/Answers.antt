use Rattle.std.proofs.Common.{◌≡◌, Bool, cond, Ok, Err, sym, ap, subst, ◌∙◌}
use Rattle.ug_conf.specs.declared.fault.FaultKind.TheVariants.{Repeated}
use Rattle.ug_conf.specs.declared.keys.Key.{Key}
use Rattle.ug_conf.specs.Draft.{unless_seen, key_read}
use Rattle.ug_types.specs.TextFaults.{IsLineRead, fault_of_kind}
use Rattle.ug_conf.specs.Faults.{SettingLineFault}
use Rattle.ug_conf.proofs.SeenKeys.{seen_before}
use Rattle.ug_conf.proofs.draft.new_key.Goals as goal

pub returns-then-contains : goal.returns-then-contains
returns-then-contains c =
    let repeated : key_read c.args.seen.now c.args.word.now ≡ Err (fault_of_kind Repeated 0) =
    ap (unless_seen c.args.seen.now) (sym c.known_key.ensures ∙ c.in-Some.is)
    ∙ ap (λ (v : Bool). cond v (Err (fault_of_kind Repeated 0)) (Ok c.in-Some.key)) (sym (seen_before c.args.seen.now c.in-Some.key) ∙ sym c.contains.ensures.value ∙ c.if-contains.true) in
    let A : SettingLineFault → Type 0 = λ fault. IsLineRead {X = Key} (Err fault) (key_read c.args.seen.now c.args.word.now) in
    subst A (sym c.at.ensures) repeated

pub returns-else-contains : goal.returns-else-contains
returns-else-contains c =
    ap (unless_seen c.args.seen.now) (sym c.known_key.ensures ∙ c.in-Some.is)
    ∙ ap (λ (v : Bool). cond v (Err (fault_of_kind Repeated 0)) (Ok c.in-Some.key)) (sym (seen_before c.args.seen.now c.in-Some.key) ∙ sym c.contains.ensures.value ∙ c.if-contains.false)
