-- The last word on each call that is to fail.
use Rattle.std.specs.Prelude.{◌≡◌, ℕ, None}
use Rattle.std.specs.Ordering.{nat_cmp}
use Rattle.std.specs.BTreeMap.{get}
use Rattle.ug_sysfs.specs.declared.failures.Failures.TheInside.{Inside}
use Rattle.ug_sysfs.specs.World.{fate}

-- the map answers as a walk over what was told
abbrev pub HasLastWords : Inside → Type 0
HasLastWords f = (call : ℕ) → get nat_cmp f.last call ≡ fate call None f.told.items
