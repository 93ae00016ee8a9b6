-- What a crash may leave, by the calls that a disk in memory has seen.
use Rattle.std.specs.Prelude.{Bool, false, cond, ◌||◌, List, [], ◌∷◌}
use Rattle.ug_store.specs.Disk.{Images, Texts, while_swapping}
use Rattle.ug_store.specs.declared.mem_disk.Passed.{Passed}
use Rattle.ug_store.specs.declared.mem_disk.Passed.TheVariants as passed

-- within the call
abbrev pub left_within : Passed → Images → Images
left_within passed.Quiet left = left
left_within (passed.Swap fresh synced done) left = while_swapping synced left fresh

-- after the call
abbrev pub left_after : Passed → Images → Images
left_after passed.Quiet left = left
left_after (passed.Swap fresh synced done) left =
    cond done (Texts (fresh ∷ [])) (while_swapping synced left fresh)

-- a swap that was done: what a crash leaves after it doesn't depend on what it left before
abbrev pub settles : Passed → Bool
settles passed.Quiet = false
settles (passed.Swap fresh synced done) = done

abbrev pub any_settles : List Passed → Bool
any_settles [] = false
any_settles (p ∷ ps) = settles p || any_settles ps

-- after all of them
abbrev pub left_now : Images → List Passed → Images
left_now left [] = left
left_now left (p ∷ ps) = left_now (left_after p left) ps

-- within each of them
abbrev pub left_so_far : Images → List Passed → List Images
left_so_far left [] = []
left_so_far left (p ∷ ps) = left_within p left ∷ left_so_far (left_after p left) ps
