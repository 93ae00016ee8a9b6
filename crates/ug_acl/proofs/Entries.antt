-- Lines that grant something, as entries under their sections.
use Rattle.std.proofs.Common.{◌≡◌, ℕ, List, [], ◌∷◌, ◌++◌, fold, sym, ◌∙◌, append_assoc}
use Rattle.std.proofs.lemmas.List.{append-nil, map-append}
use Rattle.ug_types.specs.declared.access.Section.{Section}
use Rattle.ug_lines.proofs.EntriesRead as lines
use Rattle.ug_acl.specs.declared.draft.Given.{Given}
use Rattle.ug_acl.specs.Grammar.{GivesGrant, IsBadGrantLine, IsAccessTextLine, Skipped, Grants, Wrong}
use Rattle.ug_acl.specs.Lines.{sections_of, given_to, line_given}
use Rattle.ug_acl.proofs.LineCases.{skipped_read, grant_read, bad_read, line_case}

-- what was given with what a line gives
abbrev pub with_grant : List Given → Given → List Given
with_grant given g = given ++ g ∷ []

cases : (number : ℕ) (seen : List Section) (line : List ℕ) → lines.LineCase GivesGrant (λ g. g.section) IsBadGrantLine number seen line
cases number seen line = by (line_case seen line)
  where
    by : IsAccessTextLine seen line → lines.LineCase GivesGrant (λ g. g.section) IsBadGrantLine number seen line
    by (Skipped h) = lines.Skipped h
    by (Grants section privileges g n) = lines.HasEntry (given_to section privileges) g n
    by (Wrong kind place h) = lines.Bad kind place h

pub reads : lines.Reads GivesGrant (λ g. g.section) IsBadGrantLine sections_of with_grant (λ number given line. line_given given line)
reads = record {
  skipped = λ number given line h. skipped_read given line h;
  entry = λ number given line g h n. grant_read given line g.section g.privileges h n;
  bad = λ number given line kind place h. bad_read given line kind place h;
  keys = λ given g. map-append (λ (g : Given). g.section) given (g ∷ []);
  cases = cases;
}

-- what lines give, one behind the other
pub all_given : (more given : List Given) → fold with_grant given more ≡ given ++ more
all_given [] given = sym (append-nil given)
all_given (g ∷ more) given = all_given more (given ++ g ∷ []) ∙ append_assoc given (g ∷ []) more
