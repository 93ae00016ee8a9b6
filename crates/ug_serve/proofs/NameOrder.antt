-- Names that differ and are in byte order ascend, and so do the files that are read by them.
use Rattle.std.proofs.Common.{◌≡◌, ℕ, suc, ◌+◌, ◌<◌, Bool, true, false, cond, List, [], ◌∷◌, ◌++◌, length, slice_index_or, nat_eq, Result, Ok, Err, refl, sym, ap, ◌∙◌, subst, arith, add-one, append_assoc, append-nil, inl, inr, true≢false}
use Rattle.std.specs.Prelude.{All, IfOk}
use Rattle.std.specs.Cmp.Lexicographic.{slice_cmp, pointwise, bytes_decides}
use Rattle.std.specs.List.{AllByRecursion, IsDistinct, filter}
use Rattle.std.specs.List.Sorted.{IsPermutation, IsSorted}
use Rattle.std.specs.Ordering.{is_lt, nat_cmp, ordering_reverse}
use Rattle.std.specs.declared.cmp.Ordering.{Ordering}
use Rattle.std.specs.declared.cmp.Ordering.TheVariants.{Less, Equal, Greater}
use Rattle.std.proofs.lemmas.Bool.{both_ways}
use Rattle.std.proofs.lemmas.Cmp.{nat_list_cmp_total}
use Rattle.std.proofs.lemmas.List.{map-append}
use Rattle.std.proofs.lemmas.List.Elements.{All-cons, All-nil}
use Rattle.std.proofs.lemmas.Map.Keys.{IsDistinct-IsPermutation}
use Rattle.std.proofs.lemmas.Map.Lookups.{exact_bytes}
use Rattle.ug_types.specs.Elements.{Has, AllDistinct}
use Rattle.ug_types.proofs.Elements.{filter_has}
use Rattle.ug_conf.specs.Files.{FileStep}
use Rattle.ug_conf.specs.FolderFiles.{is_rule_file_name}
use Rattle.ug_conf.specs.declared.folder_file.FolderFile.{FolderFile}
use Rattle.ug_core.specs.Starting.{AreAscending}
use Rattle.ug_serve.specs.Access.{AreInByteOrder, ReadsBehind}
use Rattle.ug_serve.specs.Folders.{AddsText, ReadsFiles, ReadsRuleFile, folder_file}
use Rattle.ug_serve.specs.Opening.{file_names}
use Rattle.ug_serve.specs.declared.not_started.NotStarted.{NotStarted}

-- ---- names stay distinct

abbrev same : List ℕ → List ℕ → Bool
same a b = pointwise nat_eq a b

flips : (a b : List ℕ) → same a b ≡ same b a
flips a b = by (same a b) (same b a) refl refl
  where
    by : (v w : Bool) → same a b ≡ v → same b a ≡ w → v ≡ w
    by true true e f = refl
    by false false e f = refl
    by true false e f = absurd (both_ways (same b a) f ((bytes_decides b a).1 (sym ((bytes_decides a b).0 e))))
    by false true e f = absurd (both_ways (same a b) e ((bytes_decides a b).1 (sym ((bytes_decides b a).0 f))))

apart : (x : List ℕ) (ys : List (List ℕ)) → (Has ys x → ⊥) → AllByRecursion (λ y. same x y ≡ false) ys
apart x [] n = tt
apart x (y ∷ ys) n = (by (same x y) refl, apart x ys (λ h. n (inr h)))
  where
    by : (v : Bool) → same x y ≡ v → same x y ≡ false
    by true e = absurd (n (inl (sym ((bytes_decides x y).0 e))))
    by false e = e

not_there : (x : List ℕ) (ys : List (List ℕ)) → AllByRecursion (λ y. same x y ≡ false) ys → Has ys x → ⊥
not_there x [] a h = h
not_there x (y ∷ ys) a (inl e) = both_ways (same x y) a.0 ((bytes_decides x y).1 (sym e))
not_there x (y ∷ ys) a (inr h) = not_there x ys a.1 h

differ : (xs : List (List ℕ)) → AllDistinct xs → IsDistinct same xs
unfolding IsDistinct
differ [] d = tt
differ (x ∷ xs) d = (apart x xs d.0, differ xs d.1)

distinct : (xs : List (List ℕ)) → IsDistinct same xs → AllDistinct xs
unfolding IsDistinct
distinct [] d = tt
distinct (x ∷ xs) d = (not_there x xs d.0, distinct xs d.1)

still_distinct : (xs ys : List (List ℕ)) → IsPermutation xs ys → AllDistinct xs → AllDistinct ys
still_distinct xs ys p d = distinct ys (IsDistinct-IsPermutation same flips xs ys p (differ xs d))

counting_distinct : (p : List ℕ → Bool) (xs : List (List ℕ)) → AllDistinct xs → AllDistinct (filter p xs)
counting_distinct p [] d = tt
counting_distinct p (x ∷ xs) d =
    let rest = counting_distinct p xs d.1 in
    let none : Has (filter p xs) x → ⊥ = λ h. d.0 (filter_has p xs x h).0 in
    elim (p x) as (λ (b : Bool). AllDistinct (cond b (x ∷ filter p xs) (filter p xs))) [ true ↦ (none, rest) | false ↦ rest ]

-- ---- they ascend

abbrev name_cmp : List ℕ → List ℕ → Ordering
name_cmp a b = slice_cmp nat_cmp a b

-- each stands before the later ones
abbrev NamesAscend : List (List ℕ) → Type 0
NamesAscend [] = Unit {0}
NamesAscend (x ∷ xs) = ((z : List ℕ) → Has xs z → name_cmp x z ≡ Less) × NamesAscend xs

before_by : (a b : List ℕ) (r : Ordering) → name_cmp a b ≡ r → is_lt (name_cmp b a) ≡ false → (a ≡ b → ⊥) → name_cmp a b ≡ Less
before_by a b Less e s ne = e
before_by a b Equal e s ne = absurd (ne (exact_bytes a b e))
before_by a b Greater e s ne = absurd (true≢false (sym (ap is_lt (nat_list_cmp_total.antisymm b a ∙ ap ordering_reverse e)) ∙ s))

sorted_rest : (y : List ℕ) (ys : List (List ℕ)) → IsSorted name_cmp (y ∷ ys) → IsSorted name_cmp ys
sorted_rest y ys s = λ k d low h.
    let e : suc k + 1 ≡ suc (k + 1) = add-one (suc k) ∙ ap suc (sym (add-one k)) in
    let within : suc k + 1 < length (y ∷ ys) = omega (arith, h) in
    let P : ℕ → ℕ → Type 0 = λ i j. is_lt (name_cmp (slice_index_or (y ∷ ys) i d) (slice_index_or (y ∷ ys) j d)) ≡ false in
    subst (λ (i : ℕ). P i (suc k)) e (s (suc k) d (omega arith) within)

first_before : (x : List ℕ) (ys : List (List ℕ)) → IsSorted name_cmp (x ∷ ys) → AllDistinct (x ∷ ys) → (z : List ℕ) → Has ys z → name_cmp x z ≡ Less
first_before x [] s d z h = absurd h
first_before x (y ∷ ys) s d z h =
    let step : name_cmp x y ≡ Less = before_by x y (name_cmp x y) refl (s 0 x (omega arith) (omega arith)) (λ e. d.0 (inl (sym e))) in
    elim h [
      | inl is ↦ subst (λ (v : List ℕ). name_cmp x v ≡ Less) is step
      | inr has ↦ nat_list_cmp_total.trans x y z step (first_before y ys (sorted_rest x (y ∷ ys) s) d.1 z has)
    ]

names_ascend : (xs : List (List ℕ)) → IsSorted name_cmp xs → AllDistinct xs → NamesAscend xs
names_ascend [] s d = tt
names_ascend (x ∷ xs) s d = (first_before x xs s d, names_ascend xs (sorted_rest x xs s) d.1)

all_behind : (x : List ℕ) (files : List FolderFile) → ((z : List ℕ) → Has (file_names files) z → name_cmp x z ≡ Less) → All (λ (later : FolderFile). slice_cmp nat_cmp x later.name ≡ Less) files
all_behind x [] h = All-nil (λ (later : FolderFile). slice_cmp nat_cmp x later.name ≡ Less)
all_behind x (f ∷ files) h =
    All-cons (λ (later : FolderFile). slice_cmp nat_cmp x later.name ≡ Less) f files (h f.name (inl refl)) (all_behind x files (λ z k. h z (inr k)))

files_ascend : (files : List FolderFile) → NamesAscend (file_names files) → AreAscending files
files_ascend [] h = tt
files_ascend (f ∷ files) h = (all_behind f.name files h.0, files_ascend files h.1)

-- ---- the files that are read have the names in their order

one_more : (files : List FolderFile) (name : List ℕ) (text : Result (List ℕ) NotStarted) (more : List FolderFile) → AddsText files name text (Ok more) → file_names more ≡ file_names files ++ name ∷ []
one_more files name (Ok text) more h = ap file_names h.1 ∙ map-append (λ (f : FolderFile). f.name) files (folder_file name text ∷ [])
one_more files name (Err cause) more h = let no : ⊥ = cc in absurd no

module _ {F : Type 0} (gives : F → FileStep → F → Type 0) (folder : List ℕ) where
  names_read : (names : List (List ℕ)) (files : List FolderFile) (s : F) (all : List FolderFile) (t : F) → ReadsFiles gives folder names files s (Ok all) t → file_names all ≡ file_names files ++ names
  names_read [] files s all t h = let is : all ≡ files = cc in ap file_names is ∙ sym (append-nil (file_names files))
  names_read (name ∷ names) files s all t h = by h.0 h.1 (λ more v later. names_read names more v all t later) h.2 h.3
    where
      by : (one : Result (List FolderFile) NotStarted) (u : F) → ((more : List FolderFile) (v : F) → ReadsFiles gives folder names more v (Ok all) t → file_names all ≡ file_names more ++ names) → ReadsRuleFile gives folder name files s one u → ReadsBehind (λ more v. ReadsFiles gives folder names more v (Ok all) t) one (Ok all) u t → file_names all ≡ file_names files ++ name ∷ names
      by (Ok more) u next k later =
          next more u later ∙ ap (λ (ns : List (List ℕ)). ns ++ names) (one_more files name k.text more k.added) ∙ append_assoc (file_names files) (name ∷ []) names
      by (Err cause) u next k later = let no : ⊥ = cc in absurd no

  pub read_ascending : (names sorted : List (List ℕ)) (s : F) (result : Result (List FolderFile) NotStarted) (t : F) → AllDistinct names → AreInByteOrder (filter is_rule_file_name names) sorted → ReadsFiles gives folder sorted [] s result t → IfOk result AreAscending
  read_ascending names sorted s (Ok all) t d o h =
      let apart = still_distinct (filter is_rule_file_name names) sorted o.all (counting_distinct is_rule_file_name names d) in
      files_ascend all (subst NamesAscend (sym (names_read sorted [] s all t h)) (names_ascend sorted o.in_order apart))
  read_ascending names sorted s (Err cause) t d o h = tt
