use Rattle.std.proofs.Common.{◌≡◌, false, ◌&&◌, refl, ap, arith}
use Rattle.ug_iface.specs.Named.{is_named_off}
use Rattle.ug_iface.specs.Settle.{aim_in}
use Rattle.ug_iface.proofs.Walks.{both_true, found_so, left_on, not_first, not_second, switched_off, there_with}
use Rattle.ug_iface.proofs.settle.settle.Goals as goal
use Rattle.ug_iface.proofs.settle.settle.Goals.{else-on-via-then-on+else-is_named_off, else-on-via-else-on}

pub returns-then-is_named_off-clause-runs : goal.returns-then-is_named_off-clause-runs
returns-then-is_named_off-clause-runs g c =
    let on = both_true c.in-Here.on (is_named_off c.args.task.now.rules.now c.args.task.now.device.now c.in-Here.triple) c.is_named_off.result c.if-on.true c.is_named_off.ensures c.if-is_named_off.true in
    found_so g.Y.Ifaces.serves (aim_in c.args.task.now) c.args.name.now c.args.out.now.items _ _ c.args.files.now c.look_at.new.files _ _ c.look_at.ensures.runs c.in-Here.is
    (switched_off g.Y.Ifaces.serves (aim_in c.args.task.now) c.args.name.now c.args.out.now.items _ c.in-Here.file c.in-Here.triple c.in-Here.on c.look_at.new.files _ on c.switch_off.ensures.runs)

pub returns-else-on-clause-runs : goal.returns-else-on-clause-runs
returns-else-on-clause-runs g c =
    let named = is_named_off c.args.task.now.rules.now c.args.task.now.device.now c.in-Here.triple in
    let off : c.in-Here.on && named ≡ false = elim c.else-on.branch [
      | else-on-via-then-on+else-is_named_off w ↦ not_second c.in-Here.on named w.is_named_off.result w.is_named_off.ensures w.if-is_named_off.false
      | else-on-via-else-on w ↦ not_first c.in-Here.on named w.if-on.false
    ] in
    found_so g.Y.Ifaces.serves (aim_in c.args.task.now) c.args.name.now c.args.out.now.items _ _ c.args.files.now c.look_at.new.files _ _ c.look_at.ensures.runs c.in-Here.is
    (left_on g.Y.Ifaces.serves (aim_in c.args.task.now) c.args.name.now c.args.out.now.items c.in-Here.file c.in-Here.triple c.in-Here.on c.look_at.new.files _ off c.close_iface.ensures)

pub returns-in-Absent-clause-runs : goal.returns-in-Absent-clause-runs
returns-in-Absent-clause-runs g c = found_so g.Y.Ifaces.serves (aim_in c.args.task.now) c.args.name.now c.args.out.now.items _ _ c.args.files.now c.look_at.new.files _ _ c.look_at.ensures.runs c.in-Absent.is (refl, refl)

pub returns-in-Gone-clause-runs : goal.returns-in-Gone-clause-runs
returns-in-Gone-clause-runs g c = found_so g.Y.Ifaces.serves (aim_in c.args.task.now) c.args.name.now c.args.out.now.items _ _ c.args.files.now c.look_at.new.files _ _ c.look_at.ensures.runs c.in-Gone.is (refl, refl)

pub returns-in-Failed-clause-runs : goal.returns-in-Failed-clause-runs
returns-in-Failed-clause-runs g c = found_so g.Y.Ifaces.serves (aim_in c.args.task.now) c.args.name.now c.args.out.now.items _ _ c.args.files.now c.look_at.new.files _ _ c.look_at.ensures.runs c.in-Failed.is (ap there_with c.push_reserved.ensures.items, refl)

pub returns-in-Memory-clause-runs : goal.returns-in-Memory-clause-runs
returns-in-Memory-clause-runs g c = found_so g.Y.Ifaces.serves (aim_in c.args.task.now) c.args.name.now c.args.out.now.items _ _ c.args.files.now c.look_at.new.files _ _ c.look_at.ensures.runs c.in-Memory.is (ap there_with c.push_reserved-in-Memory.ensures.items, refl)

pub returns-then-is_named_off-clause-len : goal.returns-then-is_named_off-clause-len
returns-then-is_named_off-clause-len g c = c.switch_off.ensures.len

pub returns-then-is_named_off-clause-capacity : goal.returns-then-is_named_off-clause-capacity
returns-then-is_named_off-clause-capacity g c = c.switch_off.ensures.capacity

pub returns-else-on-clause-len : goal.returns-else-on-clause-len
returns-else-on-clause-len g c = omega arith

pub returns-in-Absent-clause-len : goal.returns-in-Absent-clause-len
returns-in-Absent-clause-len g c = omega arith

pub returns-in-Gone-clause-len : goal.returns-in-Gone-clause-len
returns-in-Gone-clause-len g c = omega arith

pub returns-in-Failed-clause-len : goal.returns-in-Failed-clause-len
returns-in-Failed-clause-len g c = omega (arith, c.push_reserved.ensures.len)

pub returns-in-Memory-clause-len : goal.returns-in-Memory-clause-len
returns-in-Memory-clause-len g c = omega (arith, c.push_reserved-in-Memory.ensures.len)
