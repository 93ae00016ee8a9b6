-- The lines of a pass over the interfaces of devices.
use Rattle.std.specs.Prelude.{ℕ, List, [], ◌++◌, codes, decimal, flat_map}
use Rattle.ug_audit.specs.Lines.{wrote_word}
use Rattle.ug_iface.specs.declared.name.IfaceName.{IfaceName}
use Rattle.ug_iface.specs.declared.settle.IfaceEntry.{IfaceEntry}
use Rattle.ug_iface.specs.declared.settle.IfaceEntry.TheVariants as entry
use Rattle.ug_iface.specs.declared.settle.Passed.{Passed}
use Rattle.ug_iface.specs.declared.settle.Passed.TheVariants as passed

-- `NAME:C.I`
abbrev pub iface_text : IfaceName → List ℕ
iface_text name =
    name.device ++ (codes ":" ++ (decimal name.config ++ (codes "." ++ decimal name.number)))

-- what is told of an interface
unfoldable pub iface_line : IfaceEntry → List ℕ
iface_line (entry.Intent number name) =
    codes "iface-intent " ++ (decimal number ++ (codes " " ++ (iface_text name ++ codes " off\n")))
iface_line (entry.Wrote number name out) =
    codes "iface-wrote "
    ++ (decimal number
    ++ (codes " " ++ (iface_text name ++ (codes " off " ++ (wrote_word out ++ codes "\n")))))
iface_line (entry.Fault number name count) =
    codes "iface-unsettled "
    ++ (iface_text name ++ (codes " fault " ++ (decimal count ++ codes "\n")))
iface_line (entry.Memory number name) =
    codes "iface-unsettled " ++ (iface_text name ++ codes " memory\n")

-- how the pass over a device ended, where that is told
unfoldable pub ending_text : List ℕ → Passed → List ℕ
ending_text device passed.Done = []
ending_text device passed.Gone = []
ending_text device (passed.Fault count) =
    codes "iface-unsettled " ++ (device ++ (codes " fault " ++ (decimal count ++ codes "\n")))
ending_text device passed.Memory = codes "iface-unsettled " ++ (device ++ codes " memory\n")

-- what is written of one device
abbrev pub told_text : List ℕ → List IfaceEntry → Passed → List ℕ
told_text device entries end = flat_map iface_line entries ++ ending_text device end

unfoldable pub pass_begins : ℕ → List ℕ
pass_begins event = codes "pass " ++ (decimal event ++ codes "\n")

unfoldable pub pass_ends : ℕ → List ℕ
pass_ends event = codes "pass-end " ++ (decimal event ++ codes "\n")
