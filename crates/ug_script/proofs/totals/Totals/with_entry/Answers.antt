use Rattle.std.proofs.Common.{ℕ, Bool, cond, ap, ◌+◌, ◌∙◌}
use Rattle.ug_script.specs.Summing.{bounded_count}
use Rattle.ug_script.proofs.EntryCounts.{kinds_counted}
use Rattle.ug_script.proofs.totals.Totals.with_entry.Goals as goal

pub returns : goal.returns
returns c =
    let more = λ (n : ℕ) (b : Bool). bounded_count (n + cond b 1 0) in
    let t = c.args.self in
    kinds_counted c.args.entry.now t _
    (c.counted_if.ensures ∙ ap (more t.events) c.begins_event.ensures)
    (c.counted_if-2.ensures ∙ ap (more t.judged) c.sets_verdict.ensures)
    (c.counted_if-3.ensures ∙ ap (more t.writes) c.tells_write.ensures)
    (c.counted_if-4.ensures ∙ ap (more t.unsettled) c.tells_unsettled.ensures)
