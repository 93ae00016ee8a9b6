use Rattle.std.proofs.Common.{◌⊎◌, ◌≡◌, inl, inr, length, sym, ◌∙◌}
use Rattle.ug_uevent.proofs.Loops.{no_header, hint_told, fault_told}
use Rattle.ug_uevent.proofs.parse.read_message.Goals as goal

pub returns-then-length-eq0 : goal.returns-then-length-eq0
returns-then-length-eq0 c =
    let either : (c.length_before-length.result ≡ 0) ⊎ (c.length_before-length.result ≡ length c.next_string.result.0.now) =
    elim c.then-length-eq0.either [ inl a ↦ inl a | inr b ↦ inr b.1 ] in
    no_header c.args.message.now c.next_string.result.0.now c.length_before-length.result c.fault_at.result c.next_string.ensures.first c.length_before-length.ensures.is either c.fault_at.ensures

pub returns-in-Ok : goal.returns-in-Ok
returns-in-Ok c =
    hint_told c.args.message.now c.next_string.result.0.now c.next_string.result.1.now c.length_before-length.result c.next_string.ensures.first c.next_string.ensures.rest c.length_before-length.ensures.is
    c.if-length-eq0.false c.if-length-header.false c.in-Ok.found c.hint_of.result (sym c.read_strings.ensures ∙ c.in-Ok.is) c.hint_of.ensures

pub returns-in-Err : goal.returns-in-Err
returns-in-Err c =
    fault_told c.args.message.now c.next_string.result.0.now c.next_string.result.1.now c.length_before-length.result c.next_string.ensures.first c.next_string.ensures.rest c.length_before-length.ensures.is
    c.if-length-eq0.false c.if-length-header.false c.in-Err.fault (sym c.read_strings.ensures ∙ c.in-Err.is)
