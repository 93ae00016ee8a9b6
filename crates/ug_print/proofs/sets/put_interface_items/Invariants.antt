use Rattle.std.proofs.Common.{◌≡◌, ◌++◌, map, take}
use Rattle.ug_print.specs.Items.{interface_text}
use Rattle.ug_print.proofs.sets.put_interface_items.Given as goal

abbrev pub invariant-loop-interface : goal.invariant-loop-interface
invariant-loop-interface l = l.words ≡ l.fn.words ++ map interface_text (take l.interface-index l.interfaces)
