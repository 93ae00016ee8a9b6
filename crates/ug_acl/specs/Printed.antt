-- Grants as a text.
use Rattle.std.specs.Prelude.{ℕ, Bool, true, false, List, [], ◌∷◌, ◌++◌, codes}
use Rattle.ug_types.specs.Access.{section_word}
use Rattle.ug_types.specs.declared.access.Section.{Section}
use Rattle.ug_types.specs.declared.access.Section.TheVariants.{Devices, Policy, Exceptions, Parameters}
use Rattle.ug_types.specs.declared.access.Privilege.TheVariants.{Modify, Listen}
use Rattle.ug_types.specs.declared.access.Privilege.TheVariants as privilege
use Rattle.ug_acl.specs.Pairs.{Pair, holds_privilege}

-- the words of the privileges that are held, in their order: whether `modify`, `list` and `listen`
-- are
abbrev pub words_held : Bool → Bool → Bool → List ℕ
words_held false false false = []
words_held false false true = codes "listen"
words_held false true false = codes "list"
words_held false true true = codes "list,listen"
words_held true false false = codes "modify"
words_held true false true = codes "modify,listen"
words_held true true false = codes "modify,list"
words_held true true true = codes "modify,list,listen"

abbrev pub held_in : List Pair → Section → List ℕ
held_in pairs section =
    words_held (holds_privilege pairs section Modify) (holds_privilege pairs section privilege.List)
    (holds_privilege pairs section Listen)

-- no line where nothing is held
abbrev pub grant_line : Section → List ℕ → List ℕ
grant_line section [] = []
grant_line section (b ∷ words) = section_word section ++ (61 ∷ (b ∷ words) ++ 10 ∷ [])

-- a line for each section in which something is held
unfoldable pub grants_text : List Pair → List ℕ
grants_text pairs =
    grant_line Devices (held_in pairs Devices) ++ (grant_line Policy (held_in pairs Policy)
    ++ (grant_line Exceptions (held_in pairs Exceptions)
    ++ grant_line Parameters (held_in pairs Parameters)))
