-- What the words behind a section give.
use Rattle.std.specs.Prelude.{ℕ, Bool, false, ◌&&◌, ◌||◌, nat_eq, IsTrue, List, codes}
use Rattle.std.specs.Cmp.Lexicographic.{pointwise}
use Rattle.std.specs.List.{list_any}
use Rattle.ug_types.specs.Access.{privilege_word}
use Rattle.ug_types.specs.declared.access.Section.{Section}
use Rattle.ug_types.specs.declared.access.Privilege.{Privilege}
use Rattle.ug_types.specs.declared.access.Privilege.TheVariants.{Modify, Listen}
use Rattle.ug_types.specs.declared.access.Privilege.TheVariants as privilege
use Rattle.ug_acl.specs.declared.privileges.Privileges.{Privileges}
use Rattle.ug_acl.specs.Pairs.{all_pairs, holds_privilege}

-- a word gives the privilege that it names, and `ALL` gives each that the section has
abbrev pub gives : Section → Privilege → List ℕ → Bool
gives section privilege word =
    holds_privilege all_pairs section privilege
    && (pointwise nat_eq word (codes "ALL") || pointwise nat_eq word (privilege_word privilege))

abbrev pub given_by_word : Section → List ℕ → Privileges
given_by_word section word =
    record {
      modify = gives section Modify word;
      list = gives section privilege.List word;
      listen = gives section Listen word;
    }

-- what some of the words give
abbrev pub given_by_words : Section → List (List ℕ) → Privileges
given_by_words section words = record {
  modify = list_any (gives section Modify) words;
  list = list_any (gives section privilege.List) words;
  listen = list_any (gives section Listen) words;
}

abbrev pub no_privileges : Privileges
no_privileges = record { modify = false; list = false; listen = false }

abbrev pub union : Privileges → Privileges → Privileges
union a b =
    record { modify = a.modify || b.modify; list = a.list || b.list; listen = a.listen || b.listen }

abbrev pub is_any : Privileges → Bool
is_any held = held.modify || held.list || held.listen

abbrev pub has_privilege : Privileges → Privilege → Bool
has_privilege held Modify = held.modify
has_privilege held privilege.List = held.list
has_privilege held Listen = held.listen

-- a word that gives some privilege of the section
abbrev pub IsPrivilegeOf : Section → List ℕ → Type 0
IsPrivilegeOf section word = (privilege : Privilege) × IsTrue (gives section privilege word)
