-- Access files as relations: what they give, and their first bad line.
use Rattle.std.specs.Prelude.{◌≡◌, ◌≢◌, ℕ, ◌+◌, List, [], ◌∷◌, ◌++◌, length}
use Rattle.std.specs.List.{join_with_byte}
use Rattle.ug_lines.specs.Equations.{AreBlanks, BeginsBare, IsTextOf, IsSkipped, IsEquation}
use Rattle.ug_lines.specs.Lines.{lines_of}
use Rattle.ug_lines.specs.Entries.{AreEntries, IsFirstBad, IsSkippedLine}
use Rattle.ug_types.specs.Access.{section_word}
use Rattle.ug_types.specs.Elements.{Has, AllDistinct}
use Rattle.ug_types.specs.declared.access.Section.{Section}
use Rattle.ug_types.specs.declared.text_fault.TextFault.{TextFault}
use Rattle.ug_acl.specs.declared.draft.Given.{Given}
use Rattle.ug_acl.specs.declared.fault.FaultKind.{FaultKind}
use Rattle.ug_acl.specs.declared.fault.FaultKind.TheVariants.{NoEquals, UnknownSection, BadPrivilege, Repeated, BadName}
use Rattle.ug_acl.specs.declared.privileges.Privileges.{Privileges}
use Rattle.ug_acl.specs.Faults.{number_of_kind}
use Rattle.ug_acl.specs.Lines.{sections_of}
use Rattle.ug_acl.specs.Pairs.{Pair}
use Rattle.ug_acl.specs.Texts.{pairs_given}
use Rattle.ug_acl.specs.Words.{given_by_words, IsPrivilegeOf}

abbrev pub NoCommas : List (List ℕ) → Type 0
NoCommas [] = Unit {0}
NoCommas (part ∷ parts) = (¬ Has part 44) × NoCommas parts

-- parts with commas between
pub record AreCommaParts (text : List ℕ) (parts : List (List ℕ)) : Type 0 where
  pub is : text ≡ join_with_byte 44 parts
  pub some : parts ≢ []
  pub apart : NoCommas parts

-- each part is a word with blanks about it, and the word is a privilege of the section
abbrev pub ArePrivileges : Section → List (List ℕ) → List (List ℕ) → Type 0
ArePrivileges section [] words = words ≡ []
ArePrivileges section (part ∷ parts) words =
    (word : List ℕ) × (more : List (List ℕ)) × (words ≡ word ∷ more) × IsTextOf part word
    × IsPrivilegeOf section word × ArePrivileges section parts more

-- a line `Section=privilege,privilege` and what it gives
pub record IsGrant (line : List ℕ) (section : Section) (privileges : Privileges) : Type 0 where
  pub text : List ℕ
  pub value : List ℕ
  pub parts : List (List ℕ)
  pub words : List (List ℕ)
  pub text_of : IsTextOf line text
  pub shown : ¬ IsSkipped text
  pub equation : IsEquation text (section_word section) value
  pub are_parts : AreCommaParts value parts
  pub are_privileges : ArePrivileges section parts words
  pub gives : privileges ≡ given_by_words section words

-- how many bytes parts take with a comma behind each
abbrev pub width_of : List (List ℕ) → ℕ
width_of [] = 0
width_of (part ∷ parts) = length part + 1 + width_of parts

-- the parts before are privileges of the section, and this one is not; the place is where it
-- begins, behind its blanks
pub record IsBadList (section : Section) (value : List ℕ) (place : ℕ) : Type 0 where
  pub good : List (List ℕ)
  pub words : List (List ℕ)
  pub bad : List ℕ
  pub behind : List (List ℕ)
  pub word : List ℕ
  pub blanks : List ℕ
  pub rest : List ℕ
  pub are_parts : AreCommaParts value (good ++ bad ∷ behind)
  pub are_privileges : ArePrivileges section good words
  pub text_of : IsTextOf bad word
  pub no_privilege : ¬ IsPrivilegeOf section word
  pub front : bad ≡ blanks ++ rest
  pub front_blank : AreBlanks blanks
  pub begins : BeginsBare rest
  pub place_is : place ≡ width_of good + length blanks

-- what is wrong with a text behind lines that have some sections, and where
abbrev pub IsBadGrant : List Section → List ℕ → FaultKind → ℕ → Type 0
IsBadGrant seen text NoEquals place = (place ≡ 0) × (¬ Has text 61)
IsBadGrant seen text UnknownSection place =
    (place ≡ 0) × (word : List ℕ) × (value : List ℕ) × IsEquation text word value
    × ((section : Section) → ¬ (word ≡ section_word section))
IsBadGrant seen text Repeated place =
    (place ≡ 0) × (section : Section) × (value : List ℕ)
    × IsEquation text (section_word section) value × Has seen section
IsBadGrant seen text BadPrivilege place =
    (section : Section) × (value : List ℕ) × (at : ℕ) × IsEquation text (section_word section) value
    × (¬ Has seen section) × IsBadList section value at
    × (length text + at ≡ place + length value)
IsBadGrant seen text BadName place = ⊥

abbrev pub IsBadGrantLine : List Section → List ℕ → FaultKind → ℕ → Type 0
IsBadGrantLine seen line kind place =
    (text : List ℕ) × IsTextOf line text × (¬ IsSkipped text) × IsBadGrant seen text kind place

-- what a line is behind lines that have some sections: skipped, a grant in another section, or bad
pub data IsAccessTextLine (seen : List Section) (line : List ℕ) : Type 0 where
  Skipped : IsSkippedLine line → IsAccessTextLine seen line
  Grants : (section : Section) (privileges : Privileges) → IsGrant line section privileges
      → ¬ Has seen section → IsAccessTextLine seen line
  Wrong : (kind : FaultKind) (place : ℕ) → IsBadGrantLine seen line kind place
      → IsAccessTextLine seen line

-- what a line gives
abbrev pub GivesGrant : ℕ → List ℕ → Given → Type 0
GivesGrant number line given = IsGrant line given.section given.privileges

-- a text gives these: each line another section, and all that some line gives
pub record GivesAccess (text : List ℕ) (pairs : List Pair) : Type 0 where
  pub given : List Given
  pub lines : AreEntries GivesGrant 1 (lines_of text) given
  pub once : AllDistinct (sections_of given)
  pub is : pairs ≡ pairs_given given

-- the lines before are good and have each another section, and this one is bad
abbrev pub IsFirstBadGrant : List ℕ → TextFault → Type 0
IsFirstBadGrant text fault =
    IsFirstBad GivesGrant (λ given. given.section) IsBadGrantLine number_of_kind text fault
