-- What is written for an access text, to which privileges are added.
use Rattle.std.specs.Prelude.{◌≡◌, ℕ, List, [], ◌∷◌, ◌++◌, codes, decimal, Option, Ok, Err}
use Rattle.ug_types.specs.Limits.{text_limit}
use Rattle.ug_types.specs.declared.text_fault.TextFault.{TextFault}
use Rattle.ug_acl.specs.Pairs.{Pair}
use Rattle.ug_acl.specs.Printed.{grants_text}
use Rattle.ug_acl.specs.Texts.{access_read}
use Rattle.ug_command_io.specs.Statuses.{status_of}
use Rattle.ug_command_io.specs.WholeInputs as whole
use Rattle.ug_command_io.specs.declared.results.Ended.{Ended}
use Rattle.ug_acl.specs.Asking.{pairs_asked, united}
use Rattle.ug_acl.specs.declared.asked.Asked.{Asked}

-- the number of the first bad line, what is wrong with it, and where in the line that stands
unfoldable pub bad_access_line : TextFault → List ℕ
bad_access_line fault =
    codes "bad access line " ++ decimal fault.line ++ codes " kind " ++ decimal fault.kind
    ++ codes " place " ++ decimal fault.place ++ 10 ∷ []

-- each line of the text is good, and this is the text of what it grants with what is asked for
abbrev pub IsUnited : Asked → List ℕ → List ℕ → Type 0
IsUnited asked bytes text =
    (granted : List Pair) × (access_read bytes ≡ Ok granted)
    × (text ≡ grants_text (united granted (pairs_asked asked)))

-- a line of the text is bad, and the first such line is told
abbrev pub TellsBadAccess : List ℕ → List ℕ → Type 0
TellsBadAccess bytes text =
    (fault : TextFault) × (access_read bytes ≡ Err fault) × (text ≡ bad_access_line fault)

abbrev pub TellsAdding : Asked → List ℕ → Option (List ℕ) → Option (List ℕ) → Option (List ℕ)
    → Ended
    → Type 0
TellsAdding asked bytes left held0 held result =
    whole.TellsWhole text_limit (IsUnited asked) TellsBadAccess bytes left held0 held result

-- the whole call
abbrev pub CompletesAdding : Asked → Option (List ℕ) → Option (List ℕ) → Option (List ℕ)
    → Option (List ℕ)
    → Ended → Type 0
CompletesAdding asked left0 left held0 held result =
    whole.CompletesWhole text_limit (IsUnited asked) TellsBadAccess left0 left held0 held result

-- what a status says: all are the bytes of the source and base those of the sink before the call
abbrev pub AnswersAdding : Asked → List ℕ → List ℕ → Option (List ℕ) → Option (List ℕ) → ℕ → Type 0
AnswersAdding asked all base left held status =
    whole.AnswersWhole status_of text_limit
    (IsUnited asked) TellsBadAccess all base left held status
