-- What a line of an access file gives, behind other lines.
use Rattle.std.specs.Prelude.{◌≡◌, ℕ, ◌+◌, ◌-◌, Bool, nat_eq, if◌then◌else◌, List, [], ◌∷◌, ◌++◌, length, map, Option, Some, None, Result, Ok, Err}
use Rattle.std.specs.List.{list_any, slice_split}
use Rattle.ug_types.specs.Access.{section_of}
use Rattle.ug_types.specs.declared.access.Section.{Section}
use Rattle.ug_lines.specs.Cuts.{EquationCut, Skip, NoSign, Sides, cut_of}
use Rattle.ug_lines.specs.Blanks.{without_front, without_end}
use Rattle.ug_acl.specs.declared.draft.Given.{Given}
use Rattle.ug_acl.specs.declared.fault.FaultKind.TheVariants.{NoEquals, UnknownSection, BadPrivilege, Repeated}
use Rattle.ug_types.specs.declared.text_fault.LineFault.TheVariants.{Bad, Memory}
use Rattle.ug_acl.specs.declared.privileges.Privileges.{Privileges}
use Rattle.ug_types.specs.TextFaults.{fault_of_kind}
use Rattle.ug_lines.specs.LineReading.{then_on}
use Rattle.ug_acl.specs.Faults.{GrantFault, GrantLineFault}
use Rattle.ug_acl.specs.Pairs.{same_section}
use Rattle.ug_acl.specs.Words.{given_by_word, union, no_privileges, is_any}

-- without the blanks about it
abbrev pub trimmed : List ℕ → List ℕ
trimmed text = without_end (without_front text)

-- what stands between the commas
abbrev pub comma_parts : List ℕ → List (List ℕ)
comma_parts text = slice_split (λ b. nat_eq b 44) text

-- where a part begins, behind its blanks
abbrev pub begins_at : ℕ → List ℕ → ℕ
begins_at place part = place + (length part - length (without_front part))

-- what a part gives that stands at a place
abbrev pub part_read : Section → ℕ → List ℕ → Result Privileges GrantFault
part_read section place part =
    if is_any (given_by_word section (trimmed part)) then Ok (given_by_word section (trimmed part))
    else Err (fault_of_kind BadPrivilege (begins_at place part))

-- what the parts give, the first of which stands at a place, or the first that is no privilege of
-- the section
unfoldable pub parts_read : Section → ℕ → List (List ℕ) → Result Privileges GrantFault
parts_read section place [] = Ok no_privileges
parts_read section place (part ∷ parts) =
    then_on (part_read section place part)
    (λ first.
    then_on (parts_read section (place + length part + 1) parts) (λ more. Ok (union first more)))

abbrev pub sections_of : List Given → List Section
sections_of given = map (λ g. g.section) given

abbrev pub has_section : List Given → Section → Bool
has_section given section = list_any (λ g. same_section g.section section) given

abbrev pub unless_given : List Given → Option Section → Result Section GrantFault
unless_given given None = Err (fault_of_kind UnknownSection 0)
unless_given given (Some section) =
    if has_section given section then Err (fault_of_kind Repeated 0) else Ok section

-- the section that a word is, unless an earlier line has it
abbrev pub section_read : List Given → List ℕ → Result Section GrantFault
section_read given word = unless_given given (section_of word)

abbrev pub given_to : Section → Privileges → Given
given_to section privileges = record { section = section; privileges = privileges }

-- a word, and a list at a place
abbrev pub grant_read : List Given → List ℕ → List ℕ → ℕ → Result (List Given) GrantFault
grant_read given word text place =
    then_on (section_read given word)
    (λ section.
    then_on (parts_read section place (comma_parts text))
    (λ privileges. Ok (given ++ given_to section privileges ∷ [])))

-- what a line's cut gives
abbrev pub cut_given : List Given → EquationCut → Result (List Given) GrantFault
cut_given given Skip = Ok given
cut_given given NoSign = Err (fault_of_kind NoEquals 0)
cut_given given (Sides word value place) = grant_read given word value place

-- what was given before with what the line gives, or what is wrong with the line
abbrev pub line_given : List Given → List ℕ → Result (List Given) GrantFault
line_given given line = cut_given given (cut_of line)

-- a call's answer, and what it leaves; a refusal changes nothing
abbrev pub LeavesGrants : Result (Unit {0}) GrantLineFault → List Given → List Given
    → Result (List Given) GrantFault → Type 0
LeavesGrants (Ok done) before after read = read ≡ Ok after
LeavesGrants (Err (Bad fault)) before after read = (read ≡ Err fault) × (after ≡ before)
LeavesGrants (Err Memory) before after read = after ≡ before
