use Rattle.std.proofs.Common.{ℕ, List, ◌++◌, get_or, take, sym, ap, ◌∙◌}
use Rattle.std.specs.List.{flat_map}
use Rattle.std.proofs.lemmas.List.{flat_map_more, take_all, take_more}
use Rattle.ug_iface.specs.declared.settle.IfaceEntry.{IfaceEntry}
use Rattle.ug_script.specs.PassLines.{iface_line}
use Rattle.ug_script.proofs.pass_lines.push_entries.Goals as goal

pub loop-entry-preserved : goal.loop-entry-preserved
loop-entry-preserved c =
    c.in_ok-extend_from_slice.ensures.items
    ∙ ap (λ (line : List ℕ). c.loop-entry.text.items ++ line) (c.bytes.ensures ∙ c.iface_line.ensures ∙ ap iface_line c.entry-item.is)
    ∙ ap (λ (text : List ℕ). text ++ iface_line (get_or c.args.entries.now c.loop-entry.entry-index c.entry-item.result)) c.loop-entry.invariant
    ∙ flat_map_more iface_line c.args.text.now.items (take c.loop-entry.entry-index c.args.entries.now) (get_or c.args.entries.now c.loop-entry.entry-index c.entry-item.result)
    ∙ ap (λ (es : List IfaceEntry). c.args.text.now.items ++ flat_map iface_line es) (sym (take_more c.args.entries.now c.loop-entry.entry-index c.entry-item.result c.loop-entry-test.true))

pub returns : goal.returns
returns c = c.loop-entry.invariant ∙ ap (λ (es : List IfaceEntry). c.args.text.now.items ++ flat_map iface_line es) (take_all c.loop-entry.entry-index c.args.entries.now c.loop-entry-test.false)
