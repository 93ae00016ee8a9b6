-- What the files tell of the folder of rules.
use Rattle.std.proofs.Common.{◌≡◌, ℕ, ◌+◌, ◌<◌, ◌≤◌, List, [], ◌∷◌, ◌++◌, length, map, Option, Some, Result, Ok, Err, sym, ◌∙◌, ap, subst, arith, append_assoc, append-nil}
use Rattle.std.specs.List.{filter}
use Rattle.std.specs.List.Sorted.{IsPermutation}
use Rattle.std.proofs.lemmas.List.Sorted.{IsPermutation-refl, IsPermutation-map, sum_by-IsPermutation}
use Rattle.std.proofs.lemmas.List.Sums.{sum_by-append, sum_by_push}
use Rattle.ug_types.specs.Limits.{text_limit}
use Rattle.ug_conf.specs.Files.{FileStep, Read_at, Listed_at, Tree, text_at, names_at, SaysFiles, SaysText, SaysNames}
use Rattle.ug_conf.specs.FolderFiles.{folder_length, is_rule_file_name}
use Rattle.ug_conf.specs.declared.files.FileRead.{FileRead}
use Rattle.ug_conf.specs.declared.files.FileRead.TheVariants as file
use Rattle.ug_conf.specs.declared.files.FolderRead.{FolderRead}
use Rattle.ug_conf.specs.declared.files.FolderRead.TheVariants as found
use Rattle.ug_conf.specs.declared.folder_file.FolderFile.{FolderFile}
use Rattle.ug_serve.specs.Access.{ReadsBehind, path_in}
use Rattle.ug_serve.specs.Folders.{AddsFile, AddsText, ReadsFiles, ReadsFound, ReadsRuleFile, ReadsRules, ReadsText, Read_once, Without_path, folder_file, text_given}
use Rattle.ug_serve.specs.Refusals.{file_in, files_listed, or_empty, rule_files}
use Rattle.ug_serve.specs.declared.not_started.NotStarted.{NotStarted}
use Rattle.ug_serve.specs.declared.not_started.NotStarted.TheVariants as why

-- the text that is told, or that it is too long
abbrev TextTold : List ℕ → Result (List ℕ) NotStarted → Type 0
TextTold text (Ok given) = given ≡ text
TextTold text (Err (why.Refused what bad)) = text_limit < length text
TextTold text (Err why.FilesFailed) = Unit {0}
TextTold text (Err why.DiskFailed) = Unit {0}
TextTold text (Err why.Memory) = Unit {0}

-- just these files, or they are too long together
abbrev pub FilesTold : List FolderFile → Result (List FolderFile) NotStarted → Type 0
FilesTold whole (Ok files) = (files ≡ whole) × (folder_length whole ≤ text_limit)
FilesTold whole (Err (why.Refused what bad)) = text_limit < folder_length whole
FilesTold whole (Err why.FilesFailed) = Unit {0}
FilesTold whole (Err why.DiskFailed) = Unit {0}
FilesTold whole (Err why.Memory) = Unit {0}

-- the same in some order
abbrev pub RulesTold : List FolderFile → Result (List FolderFile) NotStarted → Type 0
RulesTold whole (Ok files) = IsPermutation whole files × (folder_length whole ≤ text_limit)
RulesTold whole (Err (why.Refused what bad)) = text_limit < folder_length whole
RulesTold whole (Err why.FilesFailed) = Unit {0}
RulesTold whole (Err why.DiskFailed) = Unit {0}
RulesTold whole (Err why.Memory) = Unit {0}

given_told : (text : Option (List ℕ)) (answer : FileRead) → SaysText text answer → TextTold (or_empty text) (text_given answer)
given_told text (file.Bytes bytes) says = sym (ap or_empty says.0)
given_told text file.Absent says = sym (ap or_empty says)
given_told text file.TooLong says = subst (λ (t : List ℕ). text_limit < length t) (sym (ap or_empty says.1)) says.2
given_told text file.Failed says = tt
given_told text file.Memory says = tt

-- one file behind those before
added_told : (files : List FolderFile) (name told : List ℕ) (text : Result (List ℕ) NotStarted) (r : Result (List FolderFile) NotStarted) → TextTold told text → AddsText files name text r → FilesTold (files ++ folder_file name told ∷ []) r
added_told files name told (Ok text) r t h = subst (λ (x : List ℕ). FilesTold (files ++ folder_file name x ∷ []) r) t (by r h)
  where
    by : (r : Result (List FolderFile) NotStarted) → AddsFile files name text r → FilesTold (files ++ folder_file name text ∷ []) r
    by (Ok more) k = (k.1, let e : folder_length (files ++ folder_file name text ∷ []) ≡ folder_length files + length text = sum_by_push (λ f. length f.text) files (folder_file name text) in omega (arith, e, k.0))
    by (Err (why.Refused what bad)) k = let e : folder_length (files ++ folder_file name text ∷ []) ≡ folder_length files + length text = sum_by_push (λ f. length f.text) files (folder_file name text) in omega (arith, e, k.0)
    by (Err why.FilesFailed) k = tt
    by (Err why.DiskFailed) k = tt
    by (Err why.Memory) k = tt
added_told files name told (Err cause) r t h = subst (λ (x : Result (List FolderFile) NotStarted). FilesTold (files ++ folder_file name told ∷ []) x) (sym h) (by cause t)
  where
    by : (cause : NotStarted) → TextTold told (Err cause) → FilesTold (files ++ folder_file name told ∷ []) (Err cause)
    by (why.Refused what bad) k = let e : folder_length (files ++ folder_file name told ∷ []) ≡ folder_length files + length told = sum_by_push (λ f. length f.text) files (folder_file name told) in omega (arith, e, k)
    by why.FilesFailed k = tt
    by why.DiskFailed k = tt
    by why.Memory k = tt

short_by : (files : List FolderFile) (name : List ℕ) (text : Result (List ℕ) NotStarted) (more : List FolderFile) → AddsText files name text (Ok more) → folder_length more ≤ text_limit
short_by files name (Ok text) more h =
    let e : folder_length (files ++ folder_file name text ∷ []) ≡ folder_length files + length text = sum_by_push (λ f. length f.text) files (folder_file name text) in
    subst (λ (fs : List FolderFile). folder_length fs ≤ text_limit) (sym h.1) (omega (arith, e, h.0))
short_by files name (Err cause) more h = let none : ⊥ = cc in absurd none

-- what is too long stays so
longer : (files more : List FolderFile) (cause : NotStarted) → FilesTold files (Err cause) → FilesTold (files ++ more) (Err cause)
longer files more (why.Refused what bad) h = let e : folder_length (files ++ more) ≡ folder_length files + folder_length more = sum_by-append (λ f. length f.text) files more in omega (arith, e, h)
longer files more why.FilesFailed h = tt
longer files more why.DiskFailed h = tt
longer files more why.Memory h = tt

in_some_order : (whole sorted : List FolderFile) (r : Result (List FolderFile) NotStarted) → IsPermutation whole sorted → FilesTold sorted r → RulesTold whole r
in_some_order whole sorted (Ok files) p h =
    let e : folder_length sorted ≡ folder_length whole = sum_by-IsPermutation (λ f. length f.text) whole sorted p in
    (subst (λ (fs : List FolderFile). IsPermutation whole fs) (sym h.0) p, subst (λ (n : ℕ). n ≤ text_limit) e h.1)
in_some_order whole sorted (Err (why.Refused what bad)) p h =
    let e : folder_length sorted ≡ folder_length whole = sum_by-IsPermutation (λ f. length f.text) whole sorted p in
    subst (λ (n : ℕ). text_limit < n) e h
in_some_order whole sorted (Err why.FilesFailed) p h = tt
in_some_order whole sorted (Err why.DiskFailed) p h = tt
in_some_order whole sorted (Err why.Memory) p h = tt

none_told : (r : Result (List FolderFile) NotStarted) → r ≡ Ok [] → RulesTold [] r
none_told r e = subst (λ (x : Result (List FolderFile) NotStarted). RulesTold [] x) (sym e) (IsPermutation-refl [], omega arith)

module _ {F : Type 0} (reads : F → FileStep → F → Type 0) (files_told : F → Option Tree)
    (files_tell : (s : F) (step : FileStep) (t : F) (tree : Tree) → reads s step t → files_told t ≡ Some tree → (files_told s ≡ Some tree) × SaysFiles tree step) where
  text_told : (folder name : List ℕ) (s : F) (r : Result (List ℕ) NotStarted) (t : F) (tree : Tree) → ReadsText reads folder name s r t → files_told t ≡ Some tree
      → (files_told s ≡ Some tree) × TextTold (or_empty (text_at tree (path_in folder name))) r
  text_told folder name s _ _ tree Without_path is = (is, tt)
  text_told folder name s _ _ tree (Read_once answer t given) is =
      let back = files_tell s (Read_at (path_in folder name) answer) t tree given is in
      (back.0, given_told (text_at tree (path_in folder name)) answer back.1)

  all_told : (folder : List ℕ) (names : List (List ℕ)) (files : List FolderFile) (s : F) (r : Result (List FolderFile) NotStarted) (t : F) (tree : Tree) → folder_length files ≤ text_limit → ReadsFiles reads folder names files s r t → files_told t ≡ Some tree
      → (files_told s ≡ Some tree) × FilesTold (files ++ map (file_in tree folder) names) r
  all_told folder [] files s r t tree fits h is =
      (ap files_told (sym h.1) ∙ is, subst (λ (x : Result (List FolderFile) NotStarted). FilesTold (files ++ []) x) (sym h.0) (sym (append-nil files), subst (λ (fs : List FolderFile). folder_length fs ≤ text_limit) (sym (append-nil files)) fits))
  all_told folder (name ∷ names) files s r t tree fits h is = behind h.0 h.1 (λ more u short later. all_told folder names more u r t tree short later is) h.2 h.3
    where
      one : FolderFile
      one = file_in tree folder name

      rest : List FolderFile
      rest = map (file_in tree folder) names

      joined : (files ++ one ∷ []) ++ rest ≡ files ++ one ∷ rest
      joined = append_assoc files (one ∷ []) rest

      first : (u : F) (x : Result (List FolderFile) NotStarted) → ReadsRuleFile reads folder name files s x u → files_told u ≡ Some tree → (files_told s ≡ Some tree) × FilesTold (files ++ one ∷ []) x
      first u x k at =
          let text = text_told folder name s k.text u tree k.read at in
          (text.0, added_told files name (or_empty (text_at tree (path_in folder name))) k.text x text.1 k.added)

      behind : (x : Result (List FolderFile) NotStarted) (u : F) → ((more : List FolderFile) (v : F) → folder_length more ≤ text_limit → ReadsFiles reads folder names more v r t → (files_told v ≡ Some tree) × FilesTold (more ++ rest) r) → ReadsRuleFile reads folder name files s x u → ReadsBehind (λ more v. ReadsFiles reads folder names more v r t) x r u t → (files_told s ≡ Some tree) × FilesTold (files ++ one ∷ rest) r
      behind (Ok more) u next k later =
          let short : folder_length more ≤ text_limit = short_by files name k.text more k.added in
          let after = next more u short later in
          let now = first u (Ok more) k after.0 in
          (now.0, subst (λ (fs : List FolderFile). FilesTold fs r) (ap (λ (fs : List FolderFile). fs ++ rest) now.1.0 ∙ joined) after.1)
      behind (Err cause) u next k later =
          let now = first u (Err cause) k (ap files_told (sym later.1) ∙ is) in
          (now.0, subst (λ (x : Result (List FolderFile) NotStarted). FilesTold (files ++ one ∷ rest) x) (sym later.0) (subst (λ (fs : List FolderFile). FilesTold fs (Err cause)) joined (longer (files ++ one ∷ []) rest cause now.1)))

  found_told : (folder : List ℕ) (answer : FolderRead) (s : F) (r : Result (List FolderFile) NotStarted) (t : F) (tree : Tree) → ReadsFound reads folder answer s r t → files_told t ≡ Some tree
      → (files_told s ≡ Some tree) × ((names : Option (List (List ℕ))) → SaysNames names answer → RulesTold (files_listed tree folder names) r)
  found_told folder (found.Names all) s r t tree h is =
      let k = all_told folder h.sorted [] s r t tree (omega arith) h.reads is in
      let same : IsPermutation (map (file_in tree folder) (filter is_rule_file_name all)) (map (file_in tree folder) h.sorted) = IsPermutation-map (file_in tree folder) (filter is_rule_file_name all) h.sorted h.order.all in
      (k.0, λ names says. subst (λ (x : Option (List (List ℕ))). RulesTold (files_listed tree folder x) r) (sym says) (in_some_order (map (file_in tree folder) (filter is_rule_file_name all)) (map (file_in tree folder) h.sorted) r same k.1))
  found_told folder found.Absent s r t tree h is =
      (ap files_told (sym h.1) ∙ is, λ names says. subst (λ (x : Option (List (List ℕ))). RulesTold (files_listed tree folder x) r) (sym says) (none_told r h.0))
  found_told folder found.Failed s r t tree h is =
      (ap files_told (sym h.1) ∙ is, λ names says. subst (λ (x : Result (List FolderFile) NotStarted). RulesTold (files_listed tree folder names) x) (sym h.0) tt)
  found_told folder found.Memory s r t tree h is =
      (ap files_told (sym h.1) ∙ is, λ names says. subst (λ (x : Result (List FolderFile) NotStarted). RulesTold (files_listed tree folder names) x) (sym h.0) tt)

  -- what is read of the folder at a path
  pub rules_told : (path : List ℕ) (s : F) (r : Result (List FolderFile) NotStarted) (t : F) (tree : Tree) → ReadsRules reads path s r t → files_told t ≡ Some tree → (files_told s ≡ Some tree) × RulesTold (rule_files tree path) r
  rules_told [] s r t tree h is = (ap files_told (sym h.1) ∙ is, none_told r h.0)
  rules_told (b ∷ path) s r t tree h is =
      let read = found_told (b ∷ path) h.answer h.listed r t tree h.reads is in
      let back = files_tell s (Listed_at (b ∷ path) h.answer) h.listed tree h.lists read.0 in
      (back.0, read.1 (names_at tree (b ∷ path)) back.1)
