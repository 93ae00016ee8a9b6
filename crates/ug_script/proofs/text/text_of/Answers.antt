use Rattle.std.proofs.Common.{ℕ, List, [], ◌++◌, get_or, take, sym, ap, ◌∙◌}
use Rattle.std.specs.List.{flat_map}
use Rattle.std.proofs.lemmas.List.{flat_map_more, take_all, take_more}
use Rattle.ug_audit.specs.declared.entry.Entry.{Entry}
use Rattle.ug_script.specs.Replay.{terminated}
use Rattle.ug_script.proofs.text.text_of.Goals as goal

pub loop-entry-preserved : goal.loop-entry-preserved
loop-entry-preserved c =
    c.in_ok-push_line.ensures ∙ ap (λ (e : Entry). c.loop-entry.text.items ++ terminated e) c.entry-item.is
    ∙ ap (λ (text : List ℕ). text ++ terminated (get_or c.args.entries.now c.loop-entry.entry-index c.entry-item.result)) c.loop-entry.invariant
    ∙ flat_map_more terminated [] (take c.loop-entry.entry-index c.args.entries.now) (get_or c.args.entries.now c.loop-entry.entry-index c.entry-item.result)
    ∙ ap (flat_map terminated) (sym (take_more c.args.entries.now c.loop-entry.entry-index c.entry-item.result c.loop-entry-test.true))

pub returns : goal.returns
returns c = c.loop-entry.invariant ∙ ap (flat_map terminated) (take_all c.loop-entry.entry-index c.args.entries.now c.loop-entry-test.false)
