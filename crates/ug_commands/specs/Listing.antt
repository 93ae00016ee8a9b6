-- What is written for an input that should hold descriptors.
use Rattle.std.specs.Prelude.{ℕ, ◌≡◌, List, Option}
use Rattle.ug_types.specs.Limits.{text_limit}
use Rattle.ug_command_io.specs.Statuses.{status_of}
use Rattle.ug_command_io.specs.declared.results.Ended.{Ended}
use Rattle.ug_record.specs.declared.descriptors.Descr.{Descr}
use Rattle.ug_record.specs.Grammar as grammar
use Rattle.ug_command_io.specs.WholeInputs as whole
use Rattle.ug_commands.specs.ListingLines.{listing_text, malformed_line}

-- the bytes are well formed, and this is what they say
abbrev pub TellsDescriptors : List ℕ → List ℕ → Type 0
TellsDescriptors bytes text =
    (descr : Descr) × grammar.IsWellFormed bytes descr × (text ≡ listing_text descr)

-- the bytes are malformed, and this tells where
abbrev pub TellsMalformed : List ℕ → List ℕ → Type 0
TellsMalformed bytes text =
    (kind : ℕ) × (place : ℕ) × grammar.IsMalformed bytes kind place
    × (text ≡ malformed_line kind place)

abbrev pub TellsListing : List ℕ → Option (List ℕ) → Option (List ℕ) → Option (List ℕ) → Ended
    → Type 0
TellsListing bytes left held0 held result =
    whole.TellsWhole text_limit TellsDescriptors TellsMalformed bytes left held0 held result

-- the whole call
abbrev pub CompletesListing : Option (List ℕ) → Option (List ℕ) → Option (List ℕ) → Option (List ℕ)
    → Ended
    → Type 0
CompletesListing left0 left held0 held result =
    whole.CompletesWhole text_limit TellsDescriptors TellsMalformed left0 left held0 held result

-- what a status says: all are the bytes of the source and base those of the sink before the call
abbrev pub AnswersListing : List ℕ → List ℕ → Option (List ℕ) → Option (List ℕ) → ℕ → Type 0
AnswersListing all base left held status =
    whole.AnswersWhole status_of text_limit TellsDescriptors TellsMalformed all base left held
    status
