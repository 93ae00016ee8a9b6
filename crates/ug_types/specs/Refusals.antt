-- The words of a refusal: usbguard's own wire text, behind the reply's first word.
use Rattle.std.specs.Prelude.{ℕ, ◌<◌, ◌^◌, true, false, List, ◌∷◌, ◌++◌, codes, decimal}
use Rattle.ug_types.specs.Access.{section_word, privilege_word}
use Rattle.ug_types.specs.declared.refusal.Refusal.{Refusal}
use Rattle.ug_types.specs.declared.refusal.Refusal.TheVariants as refusal

unfoldable pub refusal_words : Refusal → List ℕ
refusal_words (refusal.BadRequest place) = codes "refused 1 bad-request " ++ decimal place
refusal_words (refusal.Denied section privilege) =
    codes "refused 2 denied " ++ (section_word section ++ 32 ∷ privilege_word privilege)
refusal_words (refusal.BadRule kind place) =
    codes "refused 3 bad-rule " ++ (decimal kind ++ 32 ∷ decimal place)
refusal_words (refusal.NoDevice number) = codes "refused 4 no-device " ++ decimal number
refusal_words (refusal.NoRule id) = codes "refused 5 no-rule " ++ decimal id
refusal_words refusal.BadParameter = codes "refused 6 bad-parameter"
refusal_words refusal.BadValue = codes "refused 7 bad-value"
refusal_words (refusal.MalformedDevice number) =
    codes "refused 8 malformed-device " ++ decimal number
refusal_words refusal.RulesFull = codes "refused 9 rules-full"
refusal_words (refusal.StoreFault count) = codes "refused 10 store-fault " ++ decimal count
refusal_words (refusal.DeviceFault call count) =
    codes "refused 11 device-fault " ++ (decimal call ++ 32 ∷ decimal count)
refusal_words (refusal.Memory false) = codes "refused 12 memory 0"
refusal_words (refusal.Memory true) = codes "refused 12 memory 1"
refusal_words (refusal.ProbeFault count) = codes "refused 13 probe-fault " ++ decimal count
refusal_words (refusal.FolderRule id) = codes "refused 14 folder-rule " ++ decimal id

-- the numbers that a refusal can have
abbrev pub IsRefusal : Refusal → Type 0
IsRefusal (refusal.BadRequest place) = place < 2 ^ 64
IsRefusal (refusal.Denied section privilege) = Unit {0}
IsRefusal (refusal.BadRule kind place) = (kind < 256) × (place < 2 ^ 64)
IsRefusal (refusal.NoDevice number) = number < 2 ^ 64
IsRefusal (refusal.NoRule id) = id < 2 ^ 64
IsRefusal refusal.BadParameter = Unit {0}
IsRefusal refusal.BadValue = Unit {0}
IsRefusal (refusal.MalformedDevice number) = number < 2 ^ 64
IsRefusal refusal.RulesFull = Unit {0}
IsRefusal (refusal.StoreFault count) = count < 2 ^ 64
IsRefusal (refusal.DeviceFault call count) = (call < 2 ^ 64) × (count < 2 ^ 64)
IsRefusal (refusal.Memory stands) = Unit {0}
IsRefusal (refusal.ProbeFault count) = count < 2 ^ 64
IsRefusal (refusal.FolderRule id) = id < 2 ^ 64
