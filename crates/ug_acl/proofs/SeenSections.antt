-- The test whether a section was given before.
use Rattle.std.proofs.Common.{◌≡◌, ◌⊎◌, inl, inr, Bool, true, false, List, [], ◌∷◌, refl, sym, ap, ◌∙◌}
use Rattle.std.specs.Prelude.{◌||◌}
use Rattle.std.proofs.lemmas.Bool.{false≢true}
use Rattle.ug_types.specs.Elements.{Has}
use Rattle.ug_types.specs.declared.access.Section.{Section}
use Rattle.ug_types.specs.declared.access.Section.TheVariants.{Devices, Policy, Exceptions, Parameters}
use Rattle.ug_acl.specs.declared.draft.Given.{Given}
use Rattle.ug_acl.specs.Lines.{has_section, sections_of}
use Rattle.ug_acl.specs.Pairs.{same_section}

pub section_same : (a b : Section) → same_section a b ≡ true → a ≡ b
section_same Devices Devices e = refl
section_same Policy Policy e = refl
section_same Exceptions Exceptions e = refl
section_same Parameters Parameters e = refl
section_same a b e = absurd (false≢true e)

pub section_itself : (a : Section) → same_section a a ≡ true
section_itself Devices = refl
section_itself Policy = refl
section_itself Exceptions = refl
section_itself Parameters = refl

pub section_seen : (given : List Given) (section : Section) → has_section given section ≡ true → Has (sections_of given) section
section_seen [] section e = absurd (false≢true e)
section_seen (g ∷ given) section e = by (same_section g.section section) refl (λ h. section_seen given section h) e
  where
    by : (v : Bool) → same_section g.section section ≡ v → (has_section given section ≡ true → Has (sections_of given) section) → v || has_section given section ≡ true → Has (sections_of (g ∷ given)) section
    by true f r h = inl (section_same g.section section f)
    by false f r h = inr (r h)

pub seen_section : (given : List Given) (section : Section) → Has (sections_of given) section → has_section given section ≡ true
seen_section [] section h = absurd h
seen_section (g ∷ given) section (inl e) = ap (λ (v : Bool). v || has_section given section) (ap (same_section g.section) (sym e) ∙ section_itself g.section)
seen_section (g ∷ given) section (inr h) = by (same_section g.section section) (seen_section given section h)
  where
    by : (v : Bool) → has_section given section ≡ true → v || has_section given section ≡ true
    by true e = refl
    by false e = e

-- a section is in a list, or isn't
pub is_seen : (seen : List Section) (section : Section) → Has seen section ⊎ (¬ Has seen section)
is_seen [] section = inr (λ h. h)
is_seen (s ∷ seen) section = by (same_section s section) refl (is_seen seen section)
  where
    by : (v : Bool) → same_section s section ≡ v → Has seen section ⊎ (¬ Has seen section) → Has (s ∷ seen) section ⊎ (¬ Has (s ∷ seen) section)
    by true e r = inl (inl (section_same s section e))
    by false e (inl h) = inl (inr h)
    by false e (inr n) = inr (λ h. elim h [ inl k ↦ false≢true (sym e ∙ (ap (same_section s) (sym k) ∙ section_itself s)) | inr k ↦ n k ])
