-- A section in which something is held has a line.
use Rattle.std.proofs.Common.{◌≡◌, ◌≢◌, ℕ, List, [], ◌∷◌, ◌++◌, length, refl}
use Rattle.ug_types.specs.Access.{section_word}
use Rattle.ug_types.specs.declared.access.Section.{Section}
use Rattle.ug_acl.specs.Printed.{grant_line}

pub some_line : (section : Section) (words : List ℕ) → length words ≢ 0 → section_word section ++ (61 ∷ words ++ 10 ∷ []) ≡ grant_line section words
some_line section [] h = absurd (h refl)
some_line section (b ∷ words) h = refl
