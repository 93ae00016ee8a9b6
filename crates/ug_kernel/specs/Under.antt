-- What a binding says whose name's parent is held: the parent's files are read only where that file
-- wasn't found alive.
use Rattle.std.specs.Prelude.{◌≡◌, ℕ, List, Option, Some, None, slice_get}
use Rattle.ug_types.specs.Names.{parent_of}
use Rattle.ug_types.specs.declared.record.Attrs.{Attrs}
use Rattle.ug_kernel.specs.declared.control.Control.TheVariants.{Authorized}
use Rattle.ug_kernel.specs.Kernel.{Kernel, IsKernel}
use Rattle.ug_kernel.specs.Bound.{IsParentRead, IsBindingBy}
use Rattle.ug_kernel.specs.Removal.{IsAuthorizedFile}
use Rattle.ug_kernel.specs.declared.identity.Binding.{Binding}

-- Of the parent of that identity: where there are no attributes, the file that is held is its
-- `authorized`; else these are its files.
abbrev pub IsParentKept : ℕ → Kernel → Option ℕ → Option Attrs → Type 0
IsParentKept kept l p None =
    (j : ℕ) × (p ≡ Some j)
    × (slice_get l.held kept ≡ Some (record { device = j; control = Authorized }))
IsParentKept kept l p (Some attrs) = IsParentRead l p (Some attrs)

-- where a kernel is told at the end, one was told at the start; and where that was sound, and the
-- file that is held was the `authorized` of a device of the name's parent's name, this was a
-- binding
abbrev pub BindsUnder : {S : Type 0} → (S → Option Kernel) → S → List ℕ → ℕ → Binding → S → Type 0
BindsUnder told s name kept answer t =
    (l : Kernel) → told t ≡ Some l
    → (k : Kernel) × (told s ≡ Some k)
    × (IsKernel k → (parent : List ℕ) (j : ℕ) → parent_of name ≡ Some parent
    → IsAuthorizedFile k parent kept j → IsBindingBy (IsParentKept kept) name k l answer)
