-- How many names a listing has, and that no two are the same.
use Rattle.std.specs.Prelude.{◌≤◌, length}
use Rattle.ug_types.specs.Elements.{AllDistinct}
use Rattle.ug_kernel.specs.declared.calls.Listing.{Listing}
use Rattle.ug_kernel.specs.declared.calls.Listing.TheVariants as listing

-- no more names than devices may be live
abbrev pub HasFew : Listing → Type 0
HasFew (listing.Names names) = length names ≤ 65536
HasFew listing.Failed = Unit {0}
HasFew listing.Memory = Unit {0}

-- no name stands twice
abbrev pub AreDistinct : Listing → Type 0
AreDistinct (listing.Names names) = AllDistinct names
AreDistinct listing.Failed = Unit {0}
AreDistinct listing.Memory = Unit {0}
