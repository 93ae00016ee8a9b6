-- The slice has the panel's auditors.
use Rattle.std.proofs.Common.{length, sym, ap, ◌∙◌, arith}
use Rattle.std.proofs.lemmas.List.{with_items_is}
use Rattle.ug_audit.proofs.panel.Panel.give_line.Goals as goal

pub returns : goal.returns
returns g c =
    let told = c.give_all.ensures in
    let slice = c.as_mut_slice.ensures.value in
    let same = with_items_is c.args.self.now.auditors c.give_all.new.auditors (omega (arith, told.auditors, c.as_mut_slice.ensures.len)) in
    record {
      each = rw (slice, sym same) at told.each;
      set = rw (slice, sym same) at told.set;
      due = rw (slice, sym same) at told.due;
      live = rw (slice, sym same) at told.live;
      len = ap length same ∙ told.auditors ∙ ap length slice;
    }
