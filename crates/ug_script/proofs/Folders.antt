-- The files of `folder` lines, a line at a time.
use Rattle.std.proofs.Common.{◌≡◌, ℕ, zero, suc, ◌+◌, ◌<◌, ◌≤◌, Bool, true, false, if◌then◌else◌, nat_eq, List, [], ◌∷◌, ◌++◌, get_or, set, length, Result, Ok, Err, OnOk, OnErr, refl, sym, ap, subst, ◌∙◌, append_assoc, append-nil, length-append, arith}
use Rattle.std.specs.Prelude.{All}
use Rattle.std.specs.Cmp.Lexicographic.{pointwise, same_text, slice_cmp}
use Rattle.std.specs.FinMap.{nat_cmp-IsAntisymmetric, slice_cmp-IsAntisymmetric}
use Rattle.std.specs.List.{AllWithin, HoldsAt, insert}
use Rattle.std.specs.List.Sorted.{IsBinarySearchResult, IsNonDecreasingBy, IsSearchInRange}
use Rattle.std.specs.Ordering.{is_lt, nat_cmp, ordering_index, ordering_reverse}
use Rattle.std.specs.declared.cmp.Ordering.{Ordering}
use Rattle.std.specs.declared.cmp.Ordering.TheVariants.{Less, Equal, Greater}
use Rattle.std.proofs.lemmas.Cmp.{nat_list_cmp_total}
use Rattle.std.proofs.lemmas.Grind.{flat_map-append}
use Rattle.std.proofs.lemmas.List.Elements.{All-nil, All-cons, All-head, All-tail}
use Rattle.std.proofs.lemmas.List.Sums.{sum_by-append, sum_by-cons}
use Rattle.std.proofs.lemmas.List.Sorted.{searchable_from_sorted}
use Rattle.ug_types.specs.Elements.{Has}
use Rattle.ug_types.specs.declared.rule.Rule.{Rule}
use Rattle.ug_types.specs.declared.text_fault.TextFault.{TextFault}
use Rattle.ug_conf.specs.FolderFiles.{folder_length}
use Rattle.ug_conf.specs.declared.folder_file.FolderFile.{FolderFile}
use Rattle.ug_lines.specs.LineReading.{lines_read}
use Rattle.ug_lines.specs.Splitting.{AreLinesOf, Nothing, Closed}
use Rattle.ug_lines.proofs.TextLines.{split_only}
use Rattle.ug_rule.specs.Files.{adding_line, file_read}
use Rattle.ug_rule.specs.Grammar.{Says}
use Rattle.ug_rule.specs.Texts.{AreRules, NoLines, OneMore}
use Rattle.ug_rule.proofs.Texts.{read-rules}
use Rattle.ug_core.specs.Starting.{AreAscending}
use Rattle.ug_script.specs.declared.folder_lines.FileText.{FileText}
use Rattle.ug_steps.specs.declared.step.FolderLine.{FolderLine}
use Rattle.ug_steps.specs.Grammar.{HoldsRule}
use Rattle.ug_script.specs.FolderLines.{AreFilesOf, AreRuleLines, HasLines, HoldsRules, IsPlaceOf, LineBefore, NoLine, ended_line, file_of, files_of, line_at, lines_length, lines_under, one_line_file, rules_in_folder, text_under, with_line_in}
use Rattle.ug_script.specs.RuleLines.{rules_kept, rules_or_none}
use Rattle.ug_steps.proofs.AccessLines.{is_line}

-- ---- the order of names

abbrev compare : List ℕ → List ℕ → Ordering
compare a b = slice_cmp nat_cmp a b

less_flipped : (a b : List ℕ) → compare a b ≡ Less → compare b a ≡ Greater
less_flipped a b h = nat_list_cmp_total.antisymm b a ∙ ap ordering_reverse h

greater_flipped : (a b : List ℕ) → compare a b ≡ Greater → compare b a ≡ Less
greater_flipped a b h = nat_list_cmp_total.antisymm b a ∙ ap ordering_reverse h

equal_flipped : (a b : List ℕ) → compare a b ≡ Equal → compare b a ≡ Equal
equal_flipped a b h = nat_list_cmp_total.antisymm b a ∙ ap ordering_reverse h

equal_same : (a b : List ℕ) → compare a b ≡ Equal → a ≡ b
equal_same a b h = slice_cmp-IsAntisymmetric nat_cmp-IsAntisymmetric a b h

not_itself : (a : List ℕ) → compare a a ≡ Less → ⊥
not_itself a h = let k : compare a a ≡ Greater = less_flipped a a h in let none : ⊥ = cc in none

-- ---- the search

ascending_at : (texts : List FileText) (i j : ℕ) (d : FileText) → AreAscending (files_of texts) → i < j → j < length texts → compare (get_or texts i d).name (get_or texts j d).name ≡ Less
ascending_at [] i j d h lt within = absurd (omega arith)
ascending_at (t ∷ ts) i zero d h lt within = absurd (omega arith)
ascending_at (t ∷ ts) zero (suc j) d h lt within = above ts j d h.0 (omega arith)
  where
    above : (ts : List FileText) (j : ℕ) (d : FileText) → All (λ later. compare t.name later.name ≡ Less) (files_of ts) → j < length ts → compare t.name (get_or ts j d).name ≡ Less
    above [] j d h within = absurd (omega arith)
    above (u ∷ us) zero d h within = All-head (λ later. compare t.name later.name ≡ Less) (file_of u) (files_of us) h
    above (u ∷ us) (suc j) d h within = above us j d (All-tail (λ later. compare t.name later.name ≡ Less) (file_of u) (files_of us) h) (omega arith)
ascending_at (t ∷ ts) (suc i) (suc j) d h lt within = ascending_at ts i j d h.1 (omega arith) (omega arith)

rise : (texts : List FileText) (name : List ℕ) → AreAscending (files_of texts) → IsNonDecreasingBy (λ (f : FileText). ordering_index (compare f.name name)) texts
rise texts name h = searchable_from_sorted nat_list_cmp_total (λ (f : FileText). f.name) texts name
    (λ k d low high. ap is_lt (less_flipped (get_or texts k d).name (get_or texts (k + 1) d).name (ascending_at texts k (k + 1) d h (omega arith) high)))

pub place_found : (texts : List FileText) (name : List ℕ) (r : Result ℕ ℕ) → AreAscending (files_of texts) → IsSearchInRange r (length texts) → IsBinarySearchResult (λ (f : FileText). compare f.name name) texts r → IsPlaceOf name texts r
place_found texts name (Ok at) h within found = (
  within,
  λ k d low below. less_flipped (get_or texts k d).name name (subst (λ (n : List ℕ). compare (get_or texts k d).name n ≡ Less) (equal_same (get_or texts at d).name name (found d)) (ascending_at texts k at d h below within)),
  λ d. equal_flipped (get_or texts at d).name name (found d),
)
place_found texts name (Err at) h within parted = (
  within,
  λ k d low below. less_flipped (get_or texts k d).name name ((parted (rise texts name h)).0 k d low below),
  λ inside d. greater_flipped (get_or texts at d).name name ((parted (rise texts name h)).1 at d (omega arith) inside),
)

-- ---- a line at its place

pub unchanged : (texts : List FileText) (at : ℕ) (x new : FileText) → at < length texts → x ≡ get_or texts at x → file_of new ≡ file_of x → files_of (set texts at new) ≡ files_of texts
unchanged [] at x new within was is = absurd (omega arith)
unchanged (t ∷ ts) zero x new within was is = ap (λ (f : FolderFile). f ∷ files_of ts) (is ∙ ap file_of was)
unchanged (t ∷ ts) (suc at) x new within was is = ap (λ (fs : List FolderFile). file_of t ∷ fs) (unchanged ts at x new (omega arith) was is)

pub ok_then : {X E : Type 0} (r : Result X E) (A B : Type 0) → (A → B) → OnOk r A → OnOk r B
ok_then (Ok x) A B f a = f a
ok_then (Err e) A B f a = tt

pub err_then : {X E : Type 0} (r : Result X E) (A B : Type 0) → (A → B) → OnErr r A → OnErr r B
err_then (Ok x) A B f a = tt
err_then (Err e) A B f a = f a

module _ (line : FolderLine) where
  abbrev Passed : List FileText → ℕ → Type 0
  Passed texts at = AllWithin (λ f. compare line.name f.name ≡ Greater) texts 0 at

  passed_first : (t : FileText) (ts : List FileText) (at : ℕ) → Passed (t ∷ ts) (suc at) → compare line.name t.name ≡ Greater
  passed_first t ts at h = h 0 t (omega arith) (omega arith)

  passed_rest : (t : FileText) (ts : List FileText) (at : ℕ) → Passed (t ∷ ts) (suc at) → Passed ts at
  passed_rest t ts at h k d low below = h (suc k) d (omega arith) (omega arith)

  pub inserted : (texts : List FileText) (at : ℕ) (new : FileText) → file_of new ≡ one_line_file line → at ≤ length texts → Passed texts at → (at < length texts → HoldsAt (λ f. compare line.name f.name ≡ Less) texts at) → files_of (insert texts at new) ≡ with_line_in line (files_of texts)
  inserted [] zero new is within h here = ap (λ (f : FolderFile). f ∷ []) is
  inserted [] (suc at) new is within h here = absurd (omega arith)
  inserted (t ∷ ts) zero new is within h here =
      ap (λ (f : FolderFile). f ∷ file_of t ∷ files_of ts) is
      ∙ sym (ap (λ (o : Ordering). line_at o line (file_of t) (files_of ts) (with_line_in line (files_of ts))) (here (omega arith) t))
  inserted (t ∷ ts) (suc at) new is within h here =
      ap (λ (fs : List FolderFile). file_of t ∷ fs) (inserted ts at new is (omega arith) (passed_rest t ts at h) (λ lt d. here (omega arith) d))
      ∙ sym (ap (λ (o : Ordering). line_at o line (file_of t) (files_of ts) (with_line_in line (files_of ts))) (passed_first t ts at h))

  pub appended : (texts : List FileText) (at : ℕ) (x new : FileText) → at < length texts → Passed texts at → HoldsAt (λ f. compare line.name f.name ≡ Equal) texts at → x ≡ get_or texts at x → file_of new ≡ record (file_of x) { text = x.text.items ++ ended_line line } → files_of (set texts at new) ≡ with_line_in line (files_of texts)
  appended [] at x new within h here was is = absurd (omega arith)
  appended (t ∷ ts) zero x new within h here was is =
      ap (λ (f : FolderFile). f ∷ files_of ts) (is ∙ ap (λ (f : FileText). record (file_of f) { text = f.text.items ++ ended_line line }) was)
      ∙ sym (ap (λ (o : Ordering). line_at o line (file_of t) (files_of ts) (with_line_in line (files_of ts))) (here t))
  appended (t ∷ ts) (suc at) x new within h here was is =
      ap (λ (fs : List FolderFile). file_of t ∷ fs) (appended ts at x new (omega arith) (passed_rest t ts at h) here was is)
      ∙ sym (ap (λ (o : Ordering). line_at o line (file_of t) (files_of ts) (with_line_in line (files_of ts))) (passed_first t ts at h))

  -- ---- what each file keeps

  pub all_with : (P : FolderFile → Type 0) (files : List FolderFile) → All P files → P (one_line_file line) → ((f : FolderFile) → P f → P (record f { text = f.text ++ ended_line line })) → All P (with_line_in line files)
  all_with P [] h new more = All-cons P (one_line_file line) [] new (All-nil P)
  all_with P (f ∷ fs) h new more = by (compare line.name f.name) (all_with P fs (All-tail P f fs h) new more)
    where
      by : (o : Ordering) → All P (with_line_in line fs) → All P (line_at o line f fs (with_line_in line fs))
      by Less rest = All-cons P (one_line_file line) (f ∷ fs) new h
      by Equal rest = All-cons P (record f { text = f.text ++ ended_line line }) fs (more f (All-head P f fs h)) (All-tail P f fs h)
      by Greater rest = All-cons P f (with_line_in line fs) (All-head P f fs h) rest

  all_later : (name other : List ℕ) (files : List FolderFile) → compare name other ≡ Less → All (λ later. compare other later.name ≡ Less) files → All (λ later. compare name later.name ≡ Less) files
  all_later name other files lt h = λ k d within. nat_list_cmp_total.trans name other (get_or files k d).name lt (h k d within)

  pub ascending_with : (files : List FolderFile) → AreAscending files → AreAscending (with_line_in line files)
  ascending_with [] h = (All-nil (λ (later : FolderFile). compare line.name later.name ≡ Less), tt)
  ascending_with (f ∷ fs) h = by (compare line.name f.name) refl (ascending_with fs h.1)
    where
      by : (o : Ordering) → compare line.name f.name ≡ o → AreAscending (with_line_in line fs) → AreAscending (line_at o line f fs (with_line_in line fs))
      by Less e rest = (All-cons (λ (later : FolderFile). compare line.name later.name ≡ Less) f fs e (all_later line.name f.name fs e h.0), h)
      by Equal e rest = h
      by Greater e rest = (all_with (λ later. compare f.name later.name ≡ Less) fs h.0 (greater_flipped line.name f.name e) (λ g k. k), rest)

  -- ---- the texts under a name

  abbrev part : List ℕ → FolderFile → List ℕ
  part name file = if pointwise nat_eq file.name name then file.text else []

  none_under : (name : List ℕ) (files : List FolderFile) → All (λ later. compare name later.name ≡ Less) files → text_under name files ≡ []
  none_under name [] h = refl
  none_under name (f ∷ fs) h = by (pointwise nat_eq f.name name) refl ∙ none_under name fs (All-tail (λ later. compare name later.name ≡ Less) f fs h)
    where
      by : (b : Bool) → pointwise nat_eq f.name name ≡ b → (if b then f.text else []) ++ text_under name fs ≡ text_under name fs
      by true e =
          let less : compare name f.name ≡ Less = All-head (λ later. compare name later.name ≡ Less) f fs h in
          absurd (not_itself name (subst (λ (n : List ℕ). compare name n ≡ Less) (same_text f.name name (sym e)) less))
      by false e = refl

  -- what a line adds under a name
  abbrev adds : List ℕ → List ℕ
  adds name = if pointwise nat_eq line.name name then ended_line line else []

  under_first : (name rest : List ℕ) → (pointwise nat_eq line.name name ≡ true → rest ≡ []) → adds name ++ rest ≡ rest ++ (adds name ++ [])
  under_first name rest none = by (pointwise nat_eq line.name name) refl
    where
      by : (b : Bool) → pointwise nat_eq line.name name ≡ b → (if b then ended_line line else []) ++ rest ≡ rest ++ ((if b then ended_line line else []) ++ [])
      by true e = ap (λ (r : List ℕ). ended_line line ++ r) (none e) ∙ sym (ap (λ (r : List ℕ). r ++ (ended_line line ++ [])) (none e))
      by false e = sym (append-nil rest)

  pub text_with : (name : List ℕ) (files : List FolderFile) → AreAscending files → text_under name (with_line_in line files) ≡ text_under name files ++ lines_under name (line ∷ [])
  text_with name [] h = refl
  text_with name (f ∷ fs) h = by (compare line.name f.name) refl (text_with name fs h.1)
    where
      same_name : pointwise nat_eq line.name name ≡ true → name ≡ line.name
      same_name e = sym (same_text line.name name (sym e))

      at_end : compare line.name f.name ≡ Equal → (b : Bool) → pointwise nat_eq f.name name ≡ b → (if b then f.text ++ ended_line line else []) ++ text_under name fs ≡ ((if b then f.text else []) ++ text_under name fs) ++ (adds name ++ [])
      at_end e true named =
          let own : line.name ≡ name = equal_same line.name f.name e ∙ same_text f.name name (sym named) in
          let none : text_under name fs ≡ [] = none_under name fs (subst (λ (n : List ℕ). All (λ later. compare n later.name ≡ Less) fs) (same_text f.name name (sym named)) h.0) in
          let more : pointwise nat_eq line.name name ≡ true = ap (λ (n : List ℕ). pointwise nat_eq n name) (equal_same line.name f.name e) ∙ named in
          ap (λ (r : List ℕ). (f.text ++ ended_line line) ++ r) none
          ∙ append-nil (f.text ++ ended_line line)
          ∙ sym (ap (λ (r : List ℕ). (f.text ++ r) ++ (adds name ++ [])) none
          ∙ ap (λ (r : List ℕ). r ++ (adds name ++ [])) (append-nil f.text)
          ∙ ap (λ (b : Bool). f.text ++ ((if b then ended_line line else []) ++ [])) more
          ∙ ap (λ (r : List ℕ). f.text ++ r) (append-nil (ended_line line)))
      at_end e false named =
          let more : pointwise nat_eq line.name name ≡ false = ap (λ (n : List ℕ). pointwise nat_eq n name) (equal_same line.name f.name e) ∙ named in
          sym (ap (λ (b : Bool). text_under name fs ++ ((if b then ended_line line else []) ++ [])) more ∙ append-nil (text_under name fs))

      by : (o : Ordering) → compare line.name f.name ≡ o → text_under name (with_line_in line fs) ≡ text_under name fs ++ lines_under name (line ∷ []) → text_under name (line_at o line f fs (with_line_in line fs)) ≡ text_under name (f ∷ fs) ++ lines_under name (line ∷ [])
      by Less e rest = under_first name (text_under name (f ∷ fs)) (λ own. none_under name (f ∷ fs) (subst (λ (n : List ℕ). All (λ later. compare n later.name ≡ Less) (f ∷ fs)) (sym (same_name own)) (All-cons (λ (later : FolderFile). compare line.name later.name ≡ Less) f fs e (all_later line.name f.name fs e h.0))))
      by Equal e rest = at_end e (pointwise nat_eq f.name name) refl
      by Greater e rest = ap (λ (r : List ℕ). part name f ++ r) rest ∙ sym (append_assoc (part name f) (text_under name fs) (lines_under name (line ∷ [])))

  more_lines : (name : List ℕ) (lines : List FolderLine) → lines_under name (lines ++ line ∷ []) ≡ lines_under name lines ++ lines_under name (line ∷ [])
  more_lines name lines = flat_map-append (λ (l : FolderLine). if pointwise nat_eq l.name name then ended_line l else []) lines (line ∷ [])

  longer : (a : List ℕ) → 0 < length (a ++ ended_line line)
  longer a =
      let all : length (a ++ ended_line line) ≡ length a + length (ended_line line) = length-append a (ended_line line) in
      let own : length (ended_line line) ≡ length line.text + 1 = length-append line.text (10 ∷ []) in
      omega (arith, all, own)

  pub files_more : (lines : List FolderLine) (files : List FolderFile) → AreFilesOf lines files → AreFilesOf (lines ++ line ∷ []) (with_line_in line files)
  files_more lines files h = record {
    in_order = ascending_with files h.in_order;
    texts = λ name. text_with name files h.in_order ∙ ap (λ (t : List ℕ). t ++ lines_under name (line ∷ [])) (h.texts name) ∙ sym (more_lines name lines);
    some = all_with (λ file. 0 < length file.text) files h.some (longer []) (λ f k. longer f.text);
  }

-- ---- the rules of the lines

-- lines that are a text, and that hold rules
record Cut (text : List ℕ) (rules : List Rule) : Type 0 where
  lines : List (List ℕ)
  split : AreLinesOf text lines
  good : AreRules lines rules

cut : (text : List ℕ) (rules : List Rule) → AreRuleLines text rules → Cut text rules
cut text rules NoLine = record { lines = []; split = Nothing; good = NoLines }
cut text rules (LineBefore line more rule rest single says behind) =
    let c = cut more rest behind in
    record {
      lines = line ∷ c.lines;
      split = Closed line more c.lines (is_line line single) c.split;
      good = OneMore line rule c.lines rest says c.good;
    }

text_is_read : (text : List ℕ) (rules : List Rule) → AreRuleLines text rules → file_read text ≡ Ok rules
text_is_read text rules h =
    let c = cut text rules h in
    ap (λ (lines : List (List ℕ)). lines_read adding_line 1 [] lines) (split_only text c.lines c.split) ∙ read-rules c.lines rules c.good

rules_are : (text : List ℕ) (rules : List Rule) → AreRuleLines text rules → rules_kept text ≡ rules
rules_are text rules h = ap (λ (read : Result (List Rule) TextFault). rules_or_none read) (text_is_read text rules h)

pub holds_read : (file : FolderFile) → HoldsRules file → file_read file.text ≡ Ok (rules_kept file.text)
holds_read file h = text_is_read file.text h.0 h.1 ∙ ap (λ (rules : List Rule). Ok rules) (sym (rules_are file.text h.0 h.1))

line_behind : (line text : List ℕ) (rule : Rule) (rules : List Rule) → ¬ Has line 10 → Says line rule → AreRuleLines text rules → AreRuleLines (text ++ (line ++ 10 ∷ [])) (rules ++ rule ∷ [])
line_behind line text rule rules single says NoLine = LineBefore line [] rule [] single says NoLine
line_behind line text rule rules single says (LineBefore first more one rest alone it behind) =
    subst (λ (t : List ℕ). AreRuleLines t (one ∷ (rest ++ rule ∷ []))) (sym (append_assoc first (10 ∷ more) (line ++ 10 ∷ [])))
    (LineBefore first (more ++ (line ++ 10 ∷ [])) one (rest ++ rule ∷ []) alone it (line_behind line more rule rest single says behind))

module _ (line : FolderLine) (rule : HoldsRule line.text) where
  holds_first : HoldsRules (one_line_file line)
  holds_first = (rule.rule ∷ [], LineBefore line.text [] rule.rule [] rule.single rule.says NoLine)

  holds_more : (f : FolderFile) → HoldsRules f → HoldsRules (record f { text = f.text ++ ended_line line })
  holds_more f h = (h.0 ++ rule.rule ∷ [], line_behind line.text f.text rule.rule h.0 rule.single rule.says h.1)

  one_kept : length (rules_kept (ended_line line)) ≡ 1
  unfolding holds_first
  one_kept = ap (λ (l : List Rule). length l) (rules_are (ended_line line) (rule.rule ∷ []) holds_first.1)

  one_more_kept : (f : FolderFile) → HoldsRules f → length (rules_kept (f.text ++ ended_line line)) ≡ length (rules_kept f.text) + 1
  unfolding holds_more
  one_more_kept f h =
      let old : length (rules_kept f.text) ≡ length h.0 = ap (λ (l : List Rule). length l) (rules_are f.text h.0 h.1) in
      let new : length (rules_kept (f.text ++ ended_line line)) ≡ length (h.0 ++ rule.rule ∷ []) = ap (λ (l : List Rule). length l) (rules_are (f.text ++ ended_line line) (h.0 ++ rule.rule ∷ []) (holds_more f h).1) in
      let more : length (h.0 ++ rule.rule ∷ []) ≡ length h.0 + 1 = length-append h.0 (rule.rule ∷ []) in
      omega (arith, old, new, more)

  pub number_with : (files : List FolderFile) → All HoldsRules files → length (rules_in_folder (with_line_in line files)) ≡ length (rules_in_folder files) + 1
  number_with [] h =
      let one : length (rules_kept (ended_line line) ++ []) ≡ length (rules_kept (ended_line line)) + 0 = length-append (rules_kept (ended_line line)) [] in
      omega (arith, one, one_kept)
  number_with (f ∷ fs) h = by (compare line.name f.name) (number_with fs (All-tail HoldsRules f fs h))
    where
      rest : List Rule
      rest = rules_in_folder fs

      before : length (rules_in_folder (f ∷ fs)) ≡ length (rules_kept f.text) + length (rules_in_folder fs)
      before = length-append (rules_kept f.text) (rules_in_folder fs)

      by : (o : Ordering) → length (rules_in_folder (with_line_in line fs)) ≡ length (rules_in_folder fs) + 1 → length (rules_in_folder (line_at o line f fs (with_line_in line fs))) ≡ length (rules_in_folder (f ∷ fs)) + 1
      by Less again =
          let all : length (rules_in_folder (one_line_file line ∷ f ∷ fs)) ≡ length (rules_kept (ended_line line)) + length (rules_in_folder (f ∷ fs)) = length-append (rules_kept (ended_line line)) (rules_in_folder (f ∷ fs)) in
          omega (arith, all, one_kept)
      by Equal again =
          let all : length (rules_in_folder (record f { text = f.text ++ ended_line line } ∷ fs)) ≡ length (rules_kept (f.text ++ ended_line line)) + length (rules_in_folder fs) = length-append (rules_kept (f.text ++ ended_line line)) (rules_in_folder fs) in
          omega (arith, all, before, one_more_kept f (All-head HoldsRules f fs h))
      by Greater again =
          let all : length (rules_in_folder (f ∷ with_line_in line fs)) ≡ length (rules_kept f.text) + length (rules_in_folder (with_line_in line fs)) = length-append (rules_kept f.text) (rules_in_folder (with_line_in line fs)) in
          omega (arith, all, before, again)

  pub lines_more : (files : List FolderFile) (count : ℕ) → HasLines files count → count < 65536 → HasLines (with_line_in line files) (count + 1)
  lines_more files count h room =
      let number : length (rules_in_folder files) ≡ count = h.number in
      let more : length (rules_in_folder (with_line_in line files)) ≡ length (rules_in_folder files) + 1 = number_with files h.each in
      record {
        ascending = ascending_with line files h.ascending;
        each = all_with line HoldsRules files h.each holds_first holds_more;
        number = omega (arith, number, more);
        few = omega (arith, room);
      }

-- ---- how long the texts are in all

abbrev text_length : FolderFile → ℕ
text_length file = length file.text

abbrev line_length : FolderLine → ℕ
line_length line = length line.text + 1

pub length_with : (line : FolderLine) (files : List FolderFile) → folder_length (with_line_in line files) ≡ folder_length files + lines_length (line ∷ [])
length_with line [] =
    let own : length (ended_line line) ≡ length line.text + 1 = length-append line.text (10 ∷ []) in
    let one : folder_length (one_line_file line ∷ []) ≡ length (ended_line line) + folder_length [] = sum_by-cons text_length (one_line_file line) [] in
    let more : lines_length (line ∷ []) ≡ (length line.text + 1) + lines_length [] = sum_by-cons line_length line [] in
    let none : folder_length [] ≡ 0 = refl in
    let nothing : lines_length [] ≡ 0 = refl in
    omega (arith, own, one, more, none, nothing)
length_with line (f ∷ fs) = by (compare line.name f.name) (length_with line fs)
  where
    own : length (ended_line line) ≡ length line.text + 1
    own = length-append line.text (10 ∷ [])

    more : lines_length (line ∷ []) ≡ (length line.text + 1) + lines_length []
    more = sum_by-cons line_length line []

    nothing : lines_length [] ≡ 0
    nothing = refl

    before : folder_length (f ∷ fs) ≡ length f.text + folder_length fs
    before = sum_by-cons text_length f fs

    by : (o : Ordering) → folder_length (with_line_in line fs) ≡ folder_length fs + lines_length (line ∷ []) → folder_length (line_at o line f fs (with_line_in line fs)) ≡ folder_length (f ∷ fs) + lines_length (line ∷ [])
    by Less again =
        let one : folder_length (one_line_file line ∷ f ∷ fs) ≡ length (ended_line line) + folder_length (f ∷ fs) = sum_by-cons text_length (one_line_file line) (f ∷ fs) in
        omega (arith, own, more, nothing, one)
    by Equal again =
        let file : FolderFile = record f { text = f.text ++ ended_line line } in
        let one : folder_length (record f { text = f.text ++ ended_line line } ∷ fs) ≡ length (f.text ++ ended_line line) + folder_length fs = sum_by-cons text_length file fs in
        let all : length (f.text ++ ended_line line) ≡ length f.text + length (ended_line line) = length-append f.text (ended_line line) in
        omega (arith, own, more, nothing, before, one, all)
    by Greater again =
        let one : folder_length (f ∷ with_line_in line fs) ≡ length f.text + folder_length (with_line_in line fs) = sum_by-cons text_length f (with_line_in line fs) in
        omega (arith, before, one, again)

pub lines_append : (a b : List FolderLine) → lines_length (a ++ b) ≡ lines_length a + lines_length b
lines_append a b = sum_by-append line_length a b

pub no_lines : HasLines [] 0
no_lines = record { ascending = tt; each = All-nil HoldsRules; number = refl; few = omega arith }

pub no_files : AreFilesOf [] []
no_files = record { in_order = tt; texts = λ name. refl; some = All-nil (λ (file : FolderFile). 0 < length file.text) }
