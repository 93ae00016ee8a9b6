-- The words for targets: usbguard-rules.conf(5), target.
use Rattle.std.specs.Prelude.{ℕ, nat_eq, if◌then◌else◌, List, codes, Option, Some, None}
use Rattle.std.specs.Cmp.Lexicographic.{pointwise}
use Rattle.ug_types.specs.declared.verdict.Target.{Target}
use Rattle.ug_types.specs.declared.verdict.Target.TheVariants.{Allow, Block, Reject}

abbrev pub target_word : Target → List ℕ
target_word Allow = codes "allow"
target_word Block = codes "block"
target_word Reject = codes "reject"

-- the target that a word is
unfoldable pub target_of : List ℕ → Option Target
target_of word =
    if pointwise nat_eq word (codes "allow") then Some Allow else
    if pointwise nat_eq word (codes "block") then Some Block else
    if pointwise nat_eq word (codes "reject") then Some Reject else None
