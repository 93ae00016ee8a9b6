-- How much of a file was read.
use Rattle.std.specs.Prelude.{ℕ, ◌≤◌, length, Option, Some, None}
use Rattle.ug_types.specs.Limits.{text_limit}
use Rattle.ug_files.specs.declared.file.Content.{Content}
use Rattle.ug_files.specs.declared.file.Content.TheVariants as content

-- no more bytes than the limit
abbrev pub FitsContent : ℕ → Content → Type 0
FitsContent limit (content.Whole text) = length text ≤ limit
FitsContent limit content.TooLong = Unit {0}

abbrev pub FitsIfThere : Option Content → Type 0
FitsIfThere None = Unit {0}
FitsIfThere (Some content) = FitsContent text_limit content
