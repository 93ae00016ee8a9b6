-- Words are sections and targets exactly as these are written.
use Rattle.std.proofs.Common.{◌≡◌, ℕ, Bool, true, false, cond, nat_eq, List, Option, Some, refl, sym, ap, ◌∙◌}
use Rattle.std.specs.Prelude.{codes, ◌↔◌}
use Rattle.std.specs.Cmp.Lexicographic.{pointwise, same_text}
use Rattle.std.proofs.lemmas.Option.{none-some, same_Some}
use Rattle.ug_types.specs.declared.access.Section.{Section}
use Rattle.ug_types.specs.declared.access.Section.TheVariants.{Devices, Policy, Exceptions, Parameters}
use Rattle.ug_types.specs.declared.verdict.Target.{Target}
use Rattle.ug_types.specs.declared.verdict.Target.TheVariants.{Allow, Block, Reject}
use Rattle.ug_types.specs.Targets.{target_word, target_of}
use Rattle.ug_types.specs.Access.{section_word, section_of}

-- one row of a table
pub row : {X : Type 0} (spell : X → List ℕ) (word text : List ℕ) (here it : X) (rest : Option X) → text ≡ spell here → (rest ≡ Some it → word ≡ spell it) → cond (pointwise nat_eq word text) (Some here) rest ≡ Some it → word ≡ spell it
row {X} spell word text here it rest t f h = by (pointwise nat_eq word text) refl h
  where
    by : (v : Bool) → pointwise nat_eq word text ≡ v → cond v (Some here) rest ≡ Some it → word ≡ spell it
    by true e k = same_text word text (sym e) ∙ t ∙ ap spell (same_Some here it k)
    by false e k = f k

pub section_written : (word : List ℕ) (it : Section) → section_of word ≡ Some it → word ≡ section_word it
unfolding section_of section_word
section_written word it h = row section_word word (codes "Devices") Devices it _ refl (λ h. row section_word word (codes "Policy") Policy it _ refl (λ h. row section_word word (codes "Exceptions") Exceptions it _ refl (λ h. row section_word word (codes "Parameters") Parameters it _ refl (λ h. absurd (none-some it h)) h) h) h) h

pub section_read : (it : Section) → section_of (section_word it) ≡ Some it
unfolding section_of section_word
section_read Devices = refl
section_read Policy = refl
section_read Exceptions = refl
section_read Parameters = refl

pub target_written : (word : List ℕ) (it : Target) → target_of word ≡ Some it → word ≡ target_word it
unfolding target_of
target_written word it h = row target_word word (codes "allow") Allow it _ refl (λ h. row target_word word (codes "block") Block it _ refl (λ h. row target_word word (codes "reject") Reject it _ refl (λ h. absurd (none-some it h)) h) h) h

pub target_read : (it : Target) → target_of (target_word it) ≡ Some it
unfolding target_of
target_read Allow = refl
target_read Block = refl
target_read Reject = refl

pub target_law : (target : Target) (word : List ℕ) → (target_of word ≡ Some target) ↔ (word ≡ target_word target)
target_law target word = (target_written word target, λ e. ap target_of e ∙ target_read target)
