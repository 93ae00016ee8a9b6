-- What an access file gives, line by line.
use Rattle.std.specs.Prelude.{ℕ, Bool, ◌&&◌, List, [], Result, Ok, Err}
use Rattle.std.specs.List.{filter, list_any}
use Rattle.ug_lines.specs.LineReading.{on_line, text_read}
use Rattle.ug_types.specs.declared.access.Section.{Section}
use Rattle.ug_types.specs.declared.access.Privilege.{Privilege}
use Rattle.ug_types.specs.declared.text_fault.TextFault.{TextFault}
use Rattle.ug_acl.specs.declared.draft.Given.{Given}
use Rattle.ug_acl.specs.Faults.{number_of_kind}
use Rattle.ug_acl.specs.Lines.{line_given}
use Rattle.ug_acl.specs.Pairs.{Pair, all_pairs, same_section}
use Rattle.ug_acl.specs.Words.{has_privilege}

-- whether some line gives a privilege
abbrev pub grants_privilege : List Given → Section → Privilege → Bool
grants_privilege given section privilege =
    list_any (λ g. same_section g.section section && has_privilege g.privileges privilege) given

-- what lines give, in the order of all that there are
abbrev pub pairs_given : List Given → List Pair
pairs_given given = filter (λ pair. grants_privilege given pair.0 pair.1) all_pairs

-- what was given before with what the line of that number gives
abbrev pub granting_line : ℕ → List Given → List ℕ → Result (List Given) TextFault
granting_line number given line = on_line number_of_kind number (line_given given line)

abbrev pub as_pairs : Result (List Given) TextFault → Result (List Pair) TextFault
as_pairs (Ok given) = Ok (pairs_given given)
as_pairs (Err fault) = Err fault

-- the grants of a text, or its first bad line
abbrev pub access_read : List ℕ → Result (List Pair) TextFault
access_read text = as_pairs (text_read granting_line [] text)
