-- Records by what the descriptors mean.
use Rattle.std.proofs.Common.{◌≡◌, ℕ, Bool, true, false, List, [], ◌∷◌, ◌++◌, Option, Some, None, Result, Ok, Err, refl, ap, ◌∙◌, arith, nat_eq, if◌then◌else◌}
use Rattle.ug_types.specs.declared.record.Attrs.{Attrs}
use Rattle.ug_types.specs.declared.record.Judged.TheVariants as judged
use Rattle.ug_record.specs.declared.descriptors.Descr.{Descr}
use Rattle.ug_record.specs.Reading.{PlacedFault, decoded}
use Rattle.ug_record.specs.Grammar.{IsWellFormed, IsMalformed}
use Rattle.ug_record.proofs.Meaning.{good_read, bad_read}
use Rattle.ug_record.specs.Records.{without_newline, judged_of, judged_under, judged_by, parent_hash_of, child_hash_of, hash_or_empty, hash_under, record_with}

pub newline_goes : (text : List ℕ) → without_newline (text ++ 10 ∷ []) ≡ text
newline_goes [] = refl
newline_goes (b ∷ []) = refl
newline_goes (b ∷ c ∷ text) = ap (λ (l : List ℕ). b ∷ l) (newline_goes (c ∷ text))

pub other_stays : (file : List ℕ) → ((text : List ℕ) → file ≡ text ++ 10 ∷ [] → ⊥) → without_newline file ≡ file
other_stays [] h = refl
other_stays (b ∷ []) h =
    let G : Bool → Type 0 = λ t. nat_eq b 10 ≡ t → without_newline (b ∷ []) ≡ b ∷ [] in
    let g : (t : Bool) → G t = λ t. elim t as G [
      | true ↦ λ e. let same : b ≡ 10 = grind arith in absurd (h [] (ap (λ (n : ℕ). n ∷ []) same))
      | false ↦ λ e. ap (λ (t : Bool). if t then [] else b ∷ []) e
    ] in
    g (nat_eq b 10) refl
other_stays (b ∷ c ∷ file) h = ap (λ (l : List ℕ). b ∷ l) (other_stays (c ∷ file) (λ text e. h (b ∷ text) (ap (λ (l : List ℕ). b ∷ l) e)))

-- past the test for a file that was too long
past : (name : List ℕ) (attrs : Attrs) (hash : List ℕ) → attrs.too_long ≡ false → judged_under name attrs hash ≡ judged_by name attrs hash (decoded attrs.descriptors)
past name attrs hash e = ap (λ (t : Bool). if t then judged.Malformed 8 0 else judged_by name attrs hash (decoded attrs.descriptors)) e

pub judged_long : (name : List ℕ) (attrs : Attrs) (parent : Option Attrs) → attrs.too_long ≡ true → judged_of name attrs parent ≡ judged.Malformed 8 0
unfolding judged_of
judged_long name attrs parent e = ap (λ (t : Bool). if t then judged.Malformed 8 0 else judged_by name attrs (parent_hash_of parent) (decoded attrs.descriptors)) e

pub judged_good : (name : List ℕ) (attrs : Attrs) (parent : Option Attrs) (descr : Descr) → attrs.too_long ≡ false → IsWellFormed attrs.descriptors descr → judged_of name attrs parent ≡ judged.Good (record_with name attrs (parent_hash_of parent) descr)
unfolding judged_of
judged_good name attrs parent descr e g = past name attrs (parent_hash_of parent) e ∙ ap (judged_by name attrs (parent_hash_of parent)) (good_read attrs.descriptors descr g)

pub judged_bad : (name : List ℕ) (attrs : Attrs) (parent : Option Attrs) (kind place : ℕ) → attrs.too_long ≡ false → IsMalformed attrs.descriptors kind place → judged_of name attrs parent ≡ judged.Malformed kind place
unfolding judged_of
judged_bad name attrs parent kind place e b = past name attrs (parent_hash_of parent) e ∙ ap (judged_by name attrs (parent_hash_of parent)) (bad_read attrs.descriptors kind place b)

pub hash_good : (attrs : Attrs) (descr : Descr) → IsWellFormed attrs.descriptors descr → child_hash_of attrs false ≡ hash_under attrs descr
hash_good attrs descr g = ap (hash_or_empty attrs) (good_read attrs.descriptors descr g)

pub hash_bad : (attrs : Attrs) (kind place : ℕ) → IsMalformed attrs.descriptors kind place → child_hash_of attrs false ≡ []
hash_bad attrs kind place b = ap (hash_or_empty attrs) (bad_read attrs.descriptors kind place b)

-- the connect type doesn't count
same_hash : (own parent : Attrs) → own.descriptors ≡ parent.descriptors → own.product ≡ parent.product → own.serial ≡ parent.serial → (r : Result Descr PlacedFault) → hash_or_empty own r ≡ hash_or_empty parent r
same_hash own parent d p s (Ok descr) = cc (d, p, s)
same_hash own parent d p s (Err fault) = refl

same_child_hash : (own parent : Attrs) → own.descriptors ≡ parent.descriptors → own.product ≡ parent.product → own.serial ≡ parent.serial → (long : Bool) → child_hash_of own long ≡ child_hash_of parent long
same_child_hash own parent d p s true = refl
same_child_hash own parent d p s false = same_hash own parent d p s (decoded own.descriptors) ∙ ap (λ (ds : List ℕ). hash_or_empty parent (decoded ds)) d

pub judged_without : (name : List ℕ) (attrs : Attrs) → judged_under name attrs [] ≡ judged_of name attrs None
unfolding judged_of parent_hash_of
judged_without name attrs = refl

pub judged_with_parent : (name : List ℕ) (attrs own parent : Attrs) → own.descriptors ≡ parent.descriptors → own.product ≡ parent.product → own.serial ≡ parent.serial → judged_under name attrs (child_hash_of own parent.too_long) ≡ judged_of name attrs (Some parent)
unfolding judged_of parent_hash_of
judged_with_parent name attrs own parent d p s = ap (judged_under name attrs) (same_child_hash own parent d p s parent.too_long)
