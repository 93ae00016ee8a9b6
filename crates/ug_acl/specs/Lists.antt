-- Lists of privileges: usbguard(1), add-user.
use Rattle.std.specs.Prelude.{◌≡◌, ℕ, Bool, false, ◌||◌, if◌then◌else◌, List, Option, Some, None}
use Rattle.std.specs.List.{list_all, list_any}
use Rattle.ug_types.specs.declared.access.Section.{Section}
use Rattle.ug_types.specs.declared.access.Privilege.{Privilege}
use Rattle.ug_types.specs.declared.access.Privilege.TheVariants.{Modify, Listen}
use Rattle.ug_types.specs.declared.access.Privilege.TheVariants as privilege
use Rattle.ug_acl.specs.Grammar.{AreCommaParts, ArePrivileges}
use Rattle.ug_acl.specs.Lines.{comma_parts, trimmed}
use Rattle.ug_acl.specs.Words.{gives}
use Rattle.ug_acl.specs.declared.lists.Listed.{Listed}

abbrev pub nothing_listed : Listed
nothing_listed = record { modify = false; list = false; listen = false }

abbrev pub lists_privilege : Listed → Privilege → Bool
lists_privilege listed Modify = listed.modify
lists_privilege listed privilege.List = listed.list
lists_privilege listed Listen = listed.listen

-- what some of the words give, as in an access file
abbrev pub words_give : Section → List (List ℕ) → Listed
words_give section words = record {
  modify = list_any (gives section Modify) words;
  list = list_any (gives section privilege.List) words;
  listen = list_any (gives section Listen) words;
}

-- the text is privileges of the section, or `ALL`, with commas between and blanks about each, and
-- these are given
pub record IsList (section : Section) (text : List ℕ) (listed : Listed) : Type 0 where
  pub parts : List (List ℕ)
  pub words : List (List ℕ)
  pub are_parts : AreCommaParts text parts
  pub are_privileges : ArePrivileges section parts words
  pub gives : listed ≡ words_give section words

-- whether a part gives a privilege, with blanks about it
abbrev pub part_gives : Section → Privilege → List ℕ → Bool
part_gives section privilege part = gives section privilege (trimmed part)

abbrev pub part_gives_some : Section → List ℕ → Bool
part_gives_some section part =
    part_gives section Modify part || part_gives section privilege.List part
    || part_gives section Listen part

abbrev pub given_by_parts : Section → List (List ℕ) → Listed
given_by_parts section parts = record {
  modify = list_any (part_gives section Modify) parts;
  list = list_any (part_gives section privilege.List) parts;
  listen = list_any (part_gives section Listen) parts;
}

-- what a list gives, where each of its parts gives something
abbrev pub list_read : Section → List ℕ → Option Listed
list_read section text =
    if list_all (part_gives_some section) (comma_parts text)
    then Some (given_by_parts section (comma_parts text)) else None
