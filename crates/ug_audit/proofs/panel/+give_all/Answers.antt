-- The first auditor is given the line, and then those behind it.
use Rattle.std.proofs.Common.{◌+◌, ◌≤◌, ◌∙◌, suc, length, ap, pow_pos, refl, sym}
use Rattle.arrayvec.specs.ArrayVec.{array_vec_len}
use Rattle.ug_audit.proofs.GivingAll.{due_else, due_none, due_then, each_more, each_none, few_more, first_fits, live_else, live_then, marked, marks_more, room_else, room_then, set_more, set_none, shorter, small_more, sum_fits, twice_fits}
use Rattle.ug_audit.specs.Panels.{live_of}
use Rattle.ug_audit.proofs.panel.+give_all.Goals as goal
use Rattle.ug_audit.proofs.panel.+give_all.Goals.{then-failed, else-failed}

pub returns-clause-each : goal.returns-clause-each
returns-clause-each g t c = each_more _ _ _ _ _ _ _ _ _ _ c.give-failed.new.auditor _ c.give-failed.new.dropped c.in-Some.ensures.cases.0 c.in-Some-split_first_mut.ensures.cases.0 c.give-failed.ensures.taken c.give_all-later.ensures.each

pub returns-clause-set : goal.returns-clause-set
returns-clause-set g t c = set_more _ _ _ _ _ _ _ _ _ c.give-failed.new.auditor _ c.give-failed.new.dropped _ _ c.in-Some.ensures.cases.0 c.in-Some-split_first_mut.ensures.cases.0 c.give-failed.ensures.told c.give_all-later.ensures.set

pub returns-clause-due : goal.returns-clause-due
returns-clause-due g t c = elim c.if-failed.branch [
  | then-failed w ↦ due_then _ _ _ _ _ _ _ _ _ _ c.give-failed.new.auditor _ c.give-failed.new.dropped _ _ _ c.in-Some.ensures.cases.0 c.in-Some-split_first_mut.ensures.cases.0 (sym c.give-failed.ensures.told ∙ w.if-failed.true) (ap (λ d. d.items) w.due-is ∙ w.push.ensures.items) c.give_all-later.ensures.due
  | else-failed w ↦ due_else _ _ _ _ _ _ _ _ _ _ c.give-failed.new.auditor _ c.give-failed.new.dropped _ _ _ c.in-Some.ensures.cases.0 c.in-Some-split_first_mut.ensures.cases.0 (sym c.give-failed.ensures.told ∙ w.if-failed.false) (ap (λ d. d.items) w.due-is) c.give_all-later.ensures.due
]

pub returns-clause-live : goal.returns-clause-live
returns-clause-live g t c = elim c.if-failed.branch [
  | then-failed w ↦ live_then _ _ _ _ _ _ _ _ _ _ _ _ c.in-Some.ensures.cases.0 c.in-Some-split_first_mut.ensures.cases.0 (sym c.give-failed.ensures.told ∙ w.if-failed.true) c.give-failed.ensures.live (ap (λ d. array_vec_len d) w.due-is ∙ w.push.ensures.len) c.give_all-later.ensures.live
  | else-failed w ↦ live_else _ _ _ _ _ _ _ _ _ _ _ _ c.in-Some.ensures.cases.0 c.in-Some-split_first_mut.ensures.cases.0 (sym c.give-failed.ensures.told ∙ w.if-failed.false) c.give-failed.ensures.live (ap (λ d. array_vec_len d) w.due-is) c.give_all-later.ensures.live
]

pub returns-in_default-clause-each : goal.returns-in_default-clause-each
returns-in_default-clause-each g t c = each_none _ _ _ _ _ c.in_default.ensures.cases

pub returns-in_default-clause-set : goal.returns-in_default-clause-set
returns-in_default-clause-set g t c = set_none _ _ _ _ c.in_default.ensures.cases

pub returns-in_default-clause-due : goal.returns-in_default-clause-due
returns-in_default-clause-due g t c = due_none _ _ _ _ _ _ c.in_default.ensures.cases

pub returns-in_default-clause-live : goal.returns-in_default-clause-live
returns-in_default-clause-live g t c = refl

pub returns-in_default-clause-auditors : goal.returns-in_default-clause-auditors
returns-in_default-clause-auditors g t c = refl

pub returns-in_default-clause-dropped : goal.returns-in_default-clause-dropped
returns-in_default-clause-dropped g t c = refl

pub returns-in_default-split_first_mut-clause-each : goal.returns-in_default-split_first_mut-clause-each
returns-in_default-split_first_mut-clause-each g t c = absurd (marked _ _ _ _ c.in-Some.ensures.cases.0 c.requires.marks c.in_default-split_first_mut.ensures.cases)

pub returns-in_default-split_first_mut-clause-set : goal.returns-in_default-split_first_mut-clause-set
returns-in_default-split_first_mut-clause-set g t c = absurd (marked _ _ _ _ c.in-Some.ensures.cases.0 c.requires.marks c.in_default-split_first_mut.ensures.cases)

pub returns-in_default-split_first_mut-clause-due : goal.returns-in_default-split_first_mut-clause-due
returns-in_default-split_first_mut-clause-due g t c = absurd (marked _ _ _ _ c.in-Some.ensures.cases.0 c.requires.marks c.in_default-split_first_mut.ensures.cases)

pub returns-in_default-split_first_mut-clause-live : goal.returns-in_default-split_first_mut-clause-live
returns-in_default-split_first_mut-clause-live g t c = absurd (marked _ _ _ _ c.in-Some.ensures.cases.0 c.requires.marks c.in_default-split_first_mut.ensures.cases)

pub returns-in_default-split_first_mut-clause-small : goal.returns-in_default-split_first_mut-clause-small
returns-in_default-split_first_mut-clause-small g t c = absurd (marked _ _ _ _ c.in-Some.ensures.cases.0 c.requires.marks c.in_default-split_first_mut.ensures.cases)

pub returns-in_default-split_first_mut-clause-auditors : goal.returns-in_default-split_first_mut-clause-auditors
returns-in_default-split_first_mut-clause-auditors g t c = absurd (marked _ _ _ _ c.in-Some.ensures.cases.0 c.requires.marks c.in_default-split_first_mut.ensures.cases)

pub returns-in_default-split_first_mut-clause-dropped : goal.returns-in_default-split_first_mut-clause-dropped
returns-in_default-split_first_mut-clause-dropped g t c = absurd (marked _ _ _ _ c.in-Some.ensures.cases.0 c.requires.marks c.in_default-split_first_mut.ensures.cases)

pub returns-clause-auditors : goal.returns-clause-auditors
returns-clause-auditors g t c = ap suc c.give_all-later.ensures.auditors ∙ sym (ap length c.in-Some.ensures.cases.0)

pub returns-clause-dropped : goal.returns-clause-dropped
returns-clause-dropped g t c = ap suc c.give_all-later.ensures.dropped ∙ sym (ap length c.in-Some-split_first_mut.ensures.cases.0)

pub give_all-later-requires : goal.give_all-later-requires
give_all-later-requires g t c =
    let room : array_vec_len c.if-failed.due + live_of c.in-Some.auditors.now c.in-Some-split_first_mut.dropped.now ≤ 64 = elim c.if-failed.branch [
      | then-failed w ↦ room_then _ _ _ _ _ _ _ _ _ c.in-Some.ensures.cases.0 c.in-Some-split_first_mut.ensures.cases.0 (sym c.give-failed.ensures.told ∙ w.if-failed.true) c.give-failed.ensures.live (ap (λ d. array_vec_len d) w.due-is ∙ w.push.ensures.len) c.requires.room
      | else-failed w ↦ room_else _ _ _ _ _ _ _ _ c.in-Some.ensures.cases.0 c.in-Some-split_first_mut.ensures.cases.0 (ap (λ d. array_vec_len d) w.due-is) c.requires.room
    ] in
    (shorter _ _ _ c.in-Some.ensures.cases.0 _ c.decreases, (few_more _ _ _ c.in-Some.ensures.cases.0 _ c.requires.few, (marks_more _ _ _ c.in-Some.ensures.cases.0 _ _ _ c.in-Some-split_first_mut.ensures.cases.0 c.requires.marks, room)))

pub returns-clause-small : goal.returns-clause-small
returns-clause-small g t c = small_more _ _ _ _ _ c.in-Some.ensures.cases.0 c.give_all-later.ensures.small

pub overflow_add-first : goal.overflow_add-first
overflow_add-first g t c = record { fits = first_fits _ _ _ c.in-Some.ensures.cases.0 _ c.requires.few }

pub overflow_mul-result : goal.overflow_mul-result
overflow_mul-result g t c = record { fits = twice_fits _ _ _ c.in-Some.ensures.cases.0 _ _ c.requires.few c.give_all-later.ensures.small }

pub overflow_add-result : goal.overflow_add-result
overflow_add-result g t c = record { fits = sum_fits _ _ _ c.in-Some.ensures.cases.0 _ _ _ c.requires.few c.give_all-later.ensures.small }

pub returns-in_default-clause-small : goal.returns-in_default-clause-small
returns-in_default-clause-small g t c = pow_pos _
