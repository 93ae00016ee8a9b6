-- The counts of failures that are told.
use Rattle.std.specs.Prelude.{ℕ, ◌≤◌, List, [], ◌∷◌, ◌++◌, ◌≡◌}
use Rattle.ug_kernel.specs.Along.{IsAbove}
use Rattle.ug_iface.specs.declared.settle.IfaceEntry.{IfaceEntry}
use Rattle.ug_iface.specs.declared.settle.IfaceEntry.TheVariants as entry
use Rattle.ug_iface.specs.declared.settle.Passed.{Passed}
use Rattle.ug_iface.specs.declared.settle.Passed.TheVariants as passed

-- the counts of the failures that entries tell are above the first number, rise, and end at most at
-- the last
abbrev pub CountsRise : ℕ → List IfaceEntry → ℕ → Type 0
CountsRise low [] high = low ≤ high
CountsRise low (entry.Intent number name ∷ es) high = CountsRise low es high
CountsRise low (entry.Wrote number name out ∷ es) high = CountsRise low es high
CountsRise low (entry.Fault number name count ∷ es) high =
    IsAbove low count × CountsRise count es high
CountsRise low (entry.Memory number name ∷ es) high = CountsRise low es high

-- and so is the count that the pass itself tells
abbrev pub EndRises : ℕ → Passed → ℕ → Type 0
EndRises low passed.Done high = low ≤ high
EndRises low passed.Gone high = low ≤ high
EndRises low (passed.Fault count) high = IsAbove low count × (count ≤ high)
EndRises low passed.Memory high = low ≤ high

-- of a pass, from the count before it to the count behind it
abbrev pub CountsFaults : ℕ → ℕ → List IfaceEntry → Passed → List IfaceEntry → Type 0
CountsFaults low high es end out =
    (added : List IfaceEntry) × (out ≡ es ++ added) × CountsRise low added high
    × EndRises low end high
