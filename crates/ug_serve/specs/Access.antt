-- Who may do what, by the access files and the settings.
use Rattle.std.specs.Prelude.{◌≡◌, ℕ, cond, nat_eq, List, [], ◌∷◌, ◌++◌, map, Option, Some, None, Result, Ok, Err, if◌then◌else◌}
use Rattle.std.specs.List.{count_by, ends_with, list_any}
use Rattle.std.specs.List.Sorted.{IsPermutation, IsSorted}
use Rattle.std.specs.Cmp.Lexicographic.{slice_cmp}
use Rattle.std.specs.Ordering.{nat_cmp}
use Rattle.ug_types.specs.Principals.{Named, principal_of, principal_text, same_principal}
use Rattle.ug_acl.specs.Acls.{Addition, addition}
use Rattle.ug_acl.specs.Pairs.{Pair, all_pairs}
use Rattle.ug_acl.specs.Texts.{access_read}
use Rattle.ug_conf.specs.Files.{FileStep, Read_at, Listed_at}
use Rattle.ug_conf.specs.declared.files.FileRead.{FileRead}
use Rattle.ug_conf.specs.declared.files.FileRead.TheVariants as file
use Rattle.ug_conf.specs.declared.files.FolderRead.{FolderRead}
use Rattle.ug_conf.specs.declared.files.FolderRead.TheVariants as found
use Rattle.ug_audit.specs.declared.start_entry.ConfigPart.TheVariants as part
use Rattle.ug_serve.specs.Causes.{refused_whole}
use Rattle.ug_serve.specs.declared.access.Access.{Access}
use Rattle.ug_serve.specs.declared.not_started.NotStarted.{NotStarted}
use Rattle.ug_serve.specs.declared.not_started.NotStarted.TheVariants as why

-- the path of a folder's file: a `/` stands between the two, unless the folder's path ends with one
abbrev pub path_in : List ℕ → List ℕ → List ℕ
path_in folder name =
    if ends_with nat_eq folder (47 ∷ []) then folder ++ name else folder ++ 47 ∷ name

-- in byte order of their texts
abbrev pub IsInByteOrder : {A : Type 0} → (A → List ℕ) → List A → Type 0
IsInByteOrder text xs = IsSorted (λ x y. slice_cmp nat_cmp (text x) (text y)) xs

-- Those names, in byte order. There is one such list.
pub record AreInByteOrder (names sorted : List (List ℕ)) : Type 0 where
  pub all : IsPermutation names sorted
  pub in_order : IsInByteOrder (λ name. name) sorted

-- how often a user or group stands among these
abbrev pub times : Named → List Named → ℕ
times who principals = count_by (λ p. same_principal p who) principals

-- each of those once, and no other
abbrev pub AreOnce : List Named → List Named → Type 0
AreOnce added principals =
    (who : Named) → times who principals ≡ cond (list_any (λ p. same_principal p who) added) 1 0

-- each of those once, and no other, in byte order
pub record AreListed (added principals : List Named) : Type 0 where
  pub once : AreOnce added principals
  pub in_order : IsInByteOrder principal_text principals

-- with that one, unless it is among them
abbrev pub with_new : Named → List Named → List Named
with_new who principals =
    if list_any (λ p. same_principal p who) principals then principals else principals ++ who ∷ []

-- what the text of an access file grants, or its first bad line
abbrev pub GrantsOf : List ℕ → Result (List Pair) NotStarted → Type 0
GrantsOf text (Ok pairs) = access_read text ≡ Ok pairs
GrantsOf text (Err (why.Refused what bad)) = (what ≡ part.Access) × (access_read text ≡ Err bad)
GrantsOf text (Err why.FilesFailed) = ⊥
GrantsOf text (Err why.DiskFailed) = ⊥
GrantsOf text (Err why.Memory) = Unit {0}

-- an absent file is empty, and one that is too long isn't taken
abbrev pub GrantsIn : FileRead → Result (List Pair) NotStarted → Type 0
GrantsIn (file.Bytes text) result = GrantsOf text result
GrantsIn file.Absent result = GrantsOf [] result
GrantsIn file.TooLong result = result ≡ Err (refused_whole part.Access)
GrantsIn file.Failed result = result ≡ Err why.FilesFailed
GrantsIn file.Memory result = result ≡ Err why.Memory

-- the file's name is no user's or group's
abbrev pub refused_name : NotStarted
refused_name = why.Refused part.Access (record { line = 0; kind = 5; place = 0 })

-- what follows a reading, unless that wasn't done
abbrev pub ReadsBehind : {A F : Type 0} → (A → F → Type 0) → Result A NotStarted
    → Result A NotStarted → F → F → Type 0
ReadsBehind rest (Ok value) result u t = rest value u
ReadsBehind rest (Err cause) result u t = (result ≡ Err cause) × (t ≡ u)

module _ {F : Type 0} (gives : F → FileStep → F → Type 0) (folder : List ℕ) where
  -- the file of that name is read once; without memory for its path it isn't
  pub data ReadsGrants (name : List ℕ) (s : F) : Result (List Pair) NotStarted → F → Type 0 where
    No_path : ReadsGrants name s (Err why.Memory) s
    Reads : (answer : FileRead) (result : Result (List Pair) NotStarted) (t : F)
        → gives s (Read_at (path_in folder name) answer) t → GrantsIn answer result
        → ReadsGrants name s result t

  -- it is added for that user or group, where memory suffices
  abbrev pub AddsGrants : Named → Result (List Pair) NotStarted → List Addition
      → Result (List Addition) NotStarted → Type 0
  AddsGrants who (Ok pairs) acl (Ok more) = more ≡ acl ++ addition who pairs ∷ []
  AddsGrants who (Ok pairs) acl (Err cause) = cause ≡ why.Memory
  AddsGrants who (Err cause) acl result = result ≡ Err cause

  -- the file's name is its user's or group's, who gets what it grants
  abbrev pub ReadsNamed : Option Named → List ℕ → List Addition → F
      → Result (List Addition) NotStarted → F → Type 0
  ReadsNamed None name acl s result t = (result ≡ Err refused_name) × (t ≡ s)
  ReadsNamed (Some who) name acl s result t =
      (grants : Result (List Pair) NotStarted) × ReadsGrants name s grants t
      × AddsGrants who grants acl result

  -- one after another, until one isn't taken
  abbrev pub ReadsNames : List (List ℕ) → List Addition → F → Result (List Addition) NotStarted → F
      → Type 0
  ReadsNames [] acl s result t = (result ≡ Ok acl) × (t ≡ s)
  ReadsNames (name ∷ names) acl s result t =
      (one : Result (List Addition) NotStarted) × (u : F)
      × ReadsNamed (principal_of name) name acl s one u
      × ReadsBehind (λ more v. ReadsNames names more v result t) one result u t

  -- in byte order of the names
  pub record ReadsInOrder (names : List (List ℕ)) (s : F)
      (result : Result (List Addition) NotStarted) (t : F) : Type 0 where
    pub sorted : List (List ℕ)
    pub order : AreInByteOrder names sorted
    pub reads : ReadsNames sorted [] s result t

  -- an absent folder is empty
  abbrev pub ReadsListed : FolderRead → F → Result (List Addition) NotStarted → F → Type 0
  ReadsListed (found.Names names) s result t = ReadsInOrder names s result t
  ReadsListed found.Absent s result t = (result ≡ Ok []) × (t ≡ s)
  ReadsListed found.Failed s result t = (result ≡ Err why.FilesFailed) × (t ≡ s)
  ReadsListed found.Memory s result t = (result ≡ Err why.Memory) × (t ≡ s)

  -- the folder is listed once, and each of its files is read once, in byte order of the names
  pub record ReadsFolder (s : F) (result : Result (List Addition) NotStarted) (t : F) : Type 0 where
    pub answer : FolderRead
    pub listed : F
    pub lists : gives s (Listed_at folder answer) listed
    pub reads : ReadsListed answer listed result t

-- those that something was added for
abbrev pub added_for : List Addition → List Named
added_for acl = map (λ a. a.who) acl

-- the users and groups of the settings may do everything
abbrev pub user_additions : List Named → List Addition
user_additions users = map (λ who. addition who all_pairs) users

-- Behind what the files grant the users and groups of the settings are added, and all that
-- something was added for are listed. Only want of memory refuses it.
abbrev pub AddsUsers : List Named → Result (List Addition) NotStarted → Result Access NotStarted
    → Type 0
AddsUsers users (Ok acl) (Ok access) =
    (access.acl ≡ acl ++ user_additions users) × AreListed (added_for access.acl) access.principals
AddsUsers users (Ok acl) (Err cause) = cause ≡ why.Memory
AddsUsers users (Err cause) result = result ≡ Err cause

-- who may do what, by the files of that folder and by the settings' users and groups
pub record OpensTo {F : Type 0} (gives : F → FileStep → F → Type 0) (users : List Named)
    (folder : List ℕ) (s : F) (result : Result Access NotStarted) (t : F) : Type 0 where
  pub granted : Result (List Addition) NotStarted
  pub reads : ReadsFolder gives folder s granted t
  pub adds : AddsUsers users granted result
