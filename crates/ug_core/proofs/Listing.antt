-- A text's rules are read right into a list, behind those of the folder.
use Rattle.std.proofs.Common.{◌≡◌, ◌≤◌, ◌<◌, ℕ, zero, suc, ◌+◌, add-one, Bool, true, false, ◌||◌, if◌then◌else◌, nat_le, nat_lt, List, [], ◌∷◌, ◌++◌, length, length-append, append_assoc, append-nil, take, drop, get_or, Option, Some, None, Result, Ok, Err, inl, refl, sym, subst, ap, ◌∙◌, arith}
use Rattle.std.specs.Prelude.{All, IfSome, OnErr, OnOk}
use Rattle.std.specs.List.{AllByRecursion, list_any}
use Rattle.std.proofs.Math.Seq.{drop-cons}
use Rattle.std.proofs.lemmas.Bool.Decides.{nat_tests}
use Rattle.std.proofs.lemmas.List.{length-map, length-take-le, map-append, take-append-drop, take_more}
use Rattle.std.proofs.lemmas.List.Elements.{All-from_recursion, recursion_from_All}
use Rattle.ug_types.specs.Limits.{text_limit}
use Rattle.ug_types.specs.declared.rule.Rule.{Rule}
use Rattle.ug_types.specs.declared.verdict.Target.TheVariants as target
use Rattle.ug_types.specs.declared.text_fault.FileFault.{FileFault}
use Rattle.ug_types.specs.declared.text_fault.FileFault.TheVariants as file
use Rattle.ug_types.specs.declared.text_fault.TextFault.{TextFault}
use Rattle.ug_conf.specs.FolderFiles.{folder_length}
use Rattle.ug_conf.specs.declared.folder_file.FolderFile.{FolderFile}
use Rattle.ug_lines.specs.Lines.{lines_of}
use Rattle.ug_lines.specs.LineReading.{LeadsTo, lines_read, text_read, then_on}
use Rattle.ug_rule.specs.declared.fault.Fault.{Fault}
use Rattle.ug_rule.specs.Files.{added, adding_line, file_read, line_read}
use Rattle.ug_rule.specs.TextLines.{fault_numbered}
use Rattle.ug_policy.specs.declared.entry.Mark.{Mark}
use Rattle.ug_policy.specs.declared.entry.Mark.TheVariants as mark
use Rattle.ug_policy.specs.declared.entry.RuleEntry.{RuleEntry}
use Rattle.ug_policy.specs.Edits.{new_entry}
use Rattle.ug_policy.specs.Kept.{StandsFor}
use Rattle.ug_policy.specs.Marks.{is_permanent}
use Rattle.ug_policy.specs.Rules.{Rules, marks, most_rules, rules_in}
use Rattle.ug_print.specs.Bytes.{RuleOfBytes}
use Rattle.ug_print.specs.RuleTexts.{rules_text_of}
use Rattle.ug_print.specs.declared.rule_texts.RulesTextFault.{RulesTextFault}
use Rattle.ug_print.specs.declared.rule_texts.RulesTextFault.TheVariants as printed
use Rattle.ug_ruleset.specs.RuleFile.{IsSaveable, ReadsBack, permanent_rules, permanent_text}
use Rattle.ug_core.proofs.Numbering.{holds_more, start_length}
use Rattle.ug_core.proofs.Readable.{list_reads_back, list_saves, start_permanent}
use Rattle.ug_core.specs.Starting.{AreOfFolder, BadFile, HasRulesOf, HasTooMany, HoldsJust, IsFolderListed, IsListOf, AreAllListed, ListsFolder, ListsText, Marked, StartsWith, TakesFolder, fault_in_folder, fault_of_file, fault_of_printing, file_before, folder_read, listed, listing_line, marked_rules, marked_in, marked_of, one_listed, rules_before, rules_of_folder, start_rules}
use Rattle.ug_core.specs.declared.start_fault.StartFault.{StartFault}
use Rattle.ug_core.specs.declared.start_fault.StartFault.TheVariants as fault

-- ---- one rule more

marked_more : (base : List Marked) (whose : Mark) (all : List Rule) (rule : Rule) → (base ++ marked_rules whose all) ++ record { mark = whose; rule = rule } ∷ [] ≡ base ++ marked_rules whose (all ++ rule ∷ [])
marked_more base whose all rule =
    append_assoc base (marked_rules whose all) (record { mark = whose; rule = rule } ∷ [])
    ∙ ap (λ (v : List Marked). base ++ v) (sym (map-append (λ (r : Rule). record { mark = whose; rule = r }) all (rule ∷ [])))

one_more : (m : Marked) (rules : Option (List Marked)) (all : List Marked) → AreAllListed rules all → AreAllListed (one_listed m rules) (all ++ m ∷ [])
one_more m None all h =
    let more : length (all ++ m ∷ []) ≡ length all + 1 = length-append all (m ∷ []) in
    omega (arith, h, more)
one_more m (Some rules) all h = by (nat_lt (length rules) most_rules) refl
  where
    by : (b : Bool) → nat_lt (length rules) most_rules ≡ b → AreAllListed (if b then Some (rules ++ m ∷ []) else None) (all ++ m ∷ [])
    by true e =
        let few : length rules < 65536 = grind (arith, nat_tests, e) in
        let same : length rules ≡ length all = ap (λ (l : List Marked). length l) h.0 in
        let more : length (all ++ m ∷ []) ≡ length all + 1 = length-append all (m ∷ []) in
        (ap (λ (l : List Marked). l ++ m ∷ []) h.0, omega (arith, few, same, more))
    by false e =
        let many : 65536 ≤ length rules = grind (arith, nat_tests, e) in
        let same : length rules ≡ length all = ap (λ (l : List Marked). length l) h.0 in
        let more : length (all ++ m ∷ []) ≡ length all + 1 = length-append all (m ∷ []) in
        omega (arith, many, same, more)

module _ (base : List Marked) (whose : Mark) where
  -- the list's reading goes with the text's, behind the rules that were there
  abbrev Goes : Result (Option (List Marked)) TextFault → Result (List Rule) TextFault → Type 0
  Goes (Ok rules) (Ok all) = AreAllListed rules (base ++ marked_rules whose all)
  Goes (Err bad) (Err fault) = bad ≡ fault
  Goes (Ok rules) (Err fault) = ⊥
  Goes (Err bad) (Ok all) = ⊥

  line_goes : (number : ℕ) (rules : Option (List Marked)) (all : List Rule) → AreAllListed rules (base ++ marked_rules whose all) → (read : Result (Option Rule) Fault) → Goes (listed whose rules (fault_numbered number read)) (added number all read)
  line_goes number rules all h (Ok (Some rule)) =
      subst (AreAllListed (one_listed (record { mark = whose; rule = rule }) rules)) (marked_more base whose all rule) (one_more (record { mark = whose; rule = rule }) rules (base ++ marked_rules whose all) h)
  line_goes number rules all h (Ok None) = h
  line_goes number rules all h (Err fault) = refl

  lines_go : (lines : List (List ℕ)) (number : ℕ) (rules : Option (List Marked)) (all : List Rule) → AreAllListed rules (base ++ marked_rules whose all) → Goes (lines_read (listing_line whose) number rules lines) (lines_read adding_line number all lines)
  unfolding lines_read
  lines_go [] number rules all h = h
  lines_go (line ∷ lines) number rules all h = by (listing_line whose number rules line) (adding_line number all line) (line_goes number rules all h (line_read line)) (λ l m k. lines_go lines (number + 1) l m k)
    where
      by : (a : Result (Option (List Marked)) TextFault) (b : Result (List Rule) TextFault) → Goes a b
          → ((l : Option (List Marked)) (m : List Rule) → AreAllListed l (base ++ marked_rules whose m) → Goes (lines_read (listing_line whose) (number + 1) l lines) (lines_read adding_line (number + 1) m lines))
          → Goes (then_on a (λ next. lines_read (listing_line whose) (number + 1) next lines)) (then_on b (λ next. lines_read adding_line (number + 1) next lines))
      by (Ok l) (Ok m) k more = more l m k
      by (Err bad) (Err fault) k more = k
      by (Ok l) (Err fault) k more = absurd k
      by (Err bad) (Ok m) k more = absurd k

  text_goes : (text : List ℕ) (rules : Option (List Marked)) → AreAllListed rules base → Goes (text_read (listing_line whose) rules text) (file_read text)
  text_goes text rules h = lines_go (lines_of text) 1 rules [] (subst (AreAllListed rules) (sym (append-nil base)) h)

  found_so : (read : Result (List Rule) TextFault) (rules : Option (List Marked)) → Goes (Ok rules) read → (all : List Rule) × (read ≡ Ok all) × AreAllListed rules (base ++ marked_rules whose all)
  found_so (Ok all) rules k = (all, refl, k)
  found_so (Err fault) rules k = absurd k

  fault_so : (read : Result (List Rule) TextFault) (bad : TextFault) → Goes (Err bad) read → read ≡ Err bad
  fault_so (Ok all) bad k = absurd k
  fault_so (Err fault) bad k = ap (λ (f : TextFault). Err f) (sym k)

-- what is read is all rules of the text, or the text's first bad line

found : (base : List Marked) (whose : Mark) (text : List ℕ) (start rules : Option (List Marked)) → AreAllListed start base → text_read (listing_line whose) start text ≡ Ok rules → (all : List Rule) × (file_read text ≡ Ok all) × AreAllListed rules (base ++ marked_rules whose all)
found base whose text start rules at h = found_so base whose (file_read text) rules (subst (λ (r : Result (Option (List Marked)) TextFault). Goes base whose r (file_read text)) h (text_goes base whose text start at))

first_fault : (base : List Marked) (whose : Mark) (text : List ℕ) (start : Option (List Marked)) (bad : TextFault) → AreAllListed start base → text_read (listing_line whose) start text ≡ Err bad → file_read text ≡ Err bad
first_fault base whose text start bad at h = fault_so base whose (file_read text) bad (subst (λ (r : Result (Option (List Marked)) TextFault). Goes base whose r (file_read text)) h (text_goes base whose text start at))

-- ---- the list

same_marked : (es : List RuleEntry) (m : Marked) (id : ℕ) → marked_in (es ++ new_entry id m.rule m.mark ∷ []) ≡ marked_in es ++ m ∷ []
same_marked es m id = map-append (λ (e : RuleEntry). record { mark = e.mark; rule = e.rule }) es (new_entry id m.rule m.mark ∷ [])

holds_one_more : (m : Marked) (list new : Rules) → HoldsJust (marked_in list.entries) list → new.entries ≡ list.entries ++ new_entry list.next m.rule m.mark ∷ [] → new.next ≡ list.next + 1 → (StandsFor list.entries list.next [] → StandsFor new.entries new.next []) → HoldsJust (marked_in new.entries) new
holds_one_more m list new h entries next history =
    let is : marked_in new.entries ≡ marked_in list.entries ++ m ∷ [] = ap (λ (es : List RuleEntry). marked_in es) entries ∙ same_marked list.entries m list.next in
    subst (λ (rs : List Marked). HoldsJust rs new) (sym is) (holds_more (marked_in list.entries) m list new h entries next history)

-- the same of an answer, after which a refusal has changed nothing
pub holds_once_tried : {X E : Type 0} (m : Marked) (list new : Rules) (result : Result X E) → HoldsJust (marked_in list.entries) list
    → OnOk result (new.entries ≡ list.entries ++ new_entry list.next m.rule m.mark ∷ []) → OnOk result (new.next ≡ list.next + 1) → (StandsFor list.entries list.next [] → StandsFor new.entries new.next []) → OnErr result (new ≡ list)
    → HoldsJust (marked_in new.entries) new
holds_once_tried m list new (Ok done) h entries next history err = holds_one_more m list new h entries next history
holds_once_tried m list new (Err refused) h entries next history err = subst (λ (l : Rules). HoldsJust (marked_in l.entries) l) (sym err) h

pub few_listed : (m : Marked) (rules : List Marked) → length rules < 65536 → one_listed m (Some rules) ≡ Some (rules ++ m ∷ [])
few_listed m rules few = let e : nat_lt (length rules) most_rules ≡ true = grind arith in ap (λ (b : Bool). if b then Some (rules ++ m ∷ []) else None) e

pub many_listed : (m : Marked) (rules : List Marked) → 65536 ≤ length rules → one_listed m (Some rules) ≡ None
many_listed m rules many = let e : nat_lt (length rules) most_rules ≡ false = grind arith in ap (λ (b : Bool). if b then Some (rules ++ m ∷ []) else None) e

-- ---- the list of the folder

pub folder_none : (list : Rules) → list.entries ≡ [] → list.next ≡ 1 → StandsFor list.entries list.next [] → (marked_in list.entries ≡ []) × HoldsJust (marked_in list.entries) list × AreOfFolder list.entries
folder_none list entries next history =
    let none : marked_in list.entries ≡ [] = ap (λ (es : List RuleEntry). marked_in es) entries in
    let holds : HoldsJust [] list = record { entries = entries; next = omega (arith, next); history = history } in
    let own : AreOfFolder [] = record { own = refl; few = omega arith; back = All-from_recursion ReadsBack [] tt } in
    (none, subst (λ (rs : List Marked). HoldsJust rs list) (sym none) holds, subst AreOfFolder (sym entries) own)

-- none of them is permanent
pub none_permanent : (es : List RuleEntry) → marked_in es ≡ marked_rules mark.Folder (rules_in es) → list_any is_permanent (marks es) ≡ false
none_permanent [] h = refl
none_permanent (e ∷ es) h =
    let first : e.mark ≡ mark.Folder = ap (λ (ms : List Marked). (get_or ms 0 (record { mark = mark.Folder; rule = e.rule })).mark) h in
    let rest : marked_in es ≡ marked_rules mark.Folder (rules_in es) = ap (λ (ms : List Marked). drop 1 ms) h in
    ap (λ (m : Mark). is_permanent m || list_any is_permanent (marks es)) first ∙ none_permanent es rest

back_more : (es : List RuleEntry) (e : RuleEntry) → AllByRecursion ReadsBack (rules_in es) → ReadsBack e.rule → AllByRecursion ReadsBack (rules_in (es ++ e ∷ []))
back_more [] e h k = (k, tt)
back_more (f ∷ es) e h k = (h.0, back_more es e h.1 k)

own_more : (es : List RuleEntry) (id : ℕ) (rule : Rule) → AreOfFolder es → length es < most_rules → ReadsBack rule → AreOfFolder (es ++ new_entry id rule mark.Folder ∷ [])
own_more es id rule h room k = record {
  few = let more : length (es ++ new_entry id rule mark.Folder ∷ []) ≡ length es + 1 = length-append es (new_entry id rule mark.Folder ∷ []) in omega (arith, room, more);
  own = same_marked es (record { mark = mark.Folder; rule = rule }) id
      ∙ ap (λ (ms : List Marked). ms ++ record { mark = mark.Folder; rule = rule } ∷ []) h.own
      ∙ sym (map-append (λ (r : Rule). record { mark = mark.Folder; rule = r }) (rules_in es) (rule ∷ []))
      ∙ ap (λ (rs : List Rule). marked_rules mark.Folder rs) (sym (map-append (λ (e : RuleEntry). e.rule) es (new_entry id rule mark.Folder ∷ [])));
  back = All-from_recursion ReadsBack (rules_in (es ++ new_entry id rule mark.Folder ∷ [])) (back_more es (new_entry id rule mark.Folder) (recursion_from_All ReadsBack (rules_in es) h.back) k);
}

pub own_once_tried : {X E : Type 0} (rule : Rule) (list new : Rules) (result : Result X E) → AreOfFolder list.entries → length list.entries < most_rules → ReadsBack rule → OnOk result (new.entries ≡ list.entries ++ new_entry list.next rule mark.Folder ∷ []) → OnErr result (new ≡ list) → AreOfFolder new.entries
own_once_tried rule list new (Ok done) h room back entries err = subst AreOfFolder (sym entries) (own_more list.entries list.next rule h room back)
own_once_tried rule list new (Err refused) h room back entries err = subst (λ (l : Rules). AreOfFolder l.entries) (sym err) h

-- ---- the folder, file by file

-- one file more
folder_more : (files : List FolderFile) (f : FolderFile) (place : ℕ) (rules new : List Rule) → folder_read place files ≡ Ok rules → file_read f.text ≡ Ok new → folder_read place (files ++ f ∷ []) ≡ Ok (rules ++ new)
folder_more [] f place rules new h reads =
    let none : [] ≡ rules = cc in
    ap (λ (r : Result (List Rule) TextFault). file_before place r (Ok [])) reads
    ∙ ap (λ (rs : List Rule). Ok rs) (append-nil new)
    ∙ ap (λ (rs : List Rule). Ok (rs ++ new)) none
folder_more (g ∷ files) f place rules new h reads = by (file_read g.text) (folder_read (place + 1) files) h (λ b k. folder_more files f (place + 1) b new k reads)
  where
    by : (r : Result (List Rule) TextFault) (q : Result (List Rule) BadFile) → file_before place r q ≡ Ok rules
        → ((b : List Rule) → q ≡ Ok b → folder_read (place + 1) (files ++ f ∷ []) ≡ Ok (b ++ new))
        → file_before place r (folder_read (place + 1) (files ++ f ∷ [])) ≡ Ok (rules ++ new)
    by (Ok a) (Ok b) k rest =
        let is : a ++ b ≡ rules = cc in
        ap (λ (q : Result (List Rule) BadFile). rules_before a q) (rest b refl)
        ∙ ap (λ (rs : List Rule). Ok rs) (sym (append_assoc a b new) ∙ ap (λ (v : List Rule). v ++ new) is)
    by (Ok a) (Err bad) k rest = let none : ⊥ = cc in absurd none
    by (Err bad) q k rest = let none : ⊥ = cc in absurd none

-- one that is bad
folder_bad : (files more : List FolderFile) (f : FolderFile) (place : ℕ) (rules : List Rule) (bad : TextFault) → folder_read place files ≡ Ok rules → file_read f.text ≡ Err bad → folder_read place (files ++ f ∷ more) ≡ Err (record { file = place + length files; fault = bad })
folder_bad [] more f place rules bad h reads =
    let same : place ≡ place + 0 = omega arith in
    ap (λ (r : Result (List Rule) TextFault). file_before place r (folder_read (place + 1) more)) reads
    ∙ ap (λ (n : ℕ). Err (record { file = n; fault = bad })) same
folder_bad (g ∷ files) more f place rules bad h reads = by (file_read g.text) (folder_read (place + 1) files) h (λ b k. folder_bad files more f (place + 1) b bad k reads)
  where
    by : (r : Result (List Rule) TextFault) (q : Result (List Rule) BadFile) → file_before place r q ≡ Ok rules
        → ((b : List Rule) → q ≡ Ok b → folder_read (place + 1) (files ++ f ∷ more) ≡ Err (record { file = (place + 1) + length files; fault = bad }))
        → file_before place r (folder_read (place + 1) (files ++ f ∷ more)) ≡ Err (record { file = place + suc (length files); fault = bad })
    by (Ok a) (Ok b) k rest =
        let same : (place + 1) + length files ≡ place + suc (length files) = omega arith in
        ap (λ (q : Result (List Rule) BadFile). rules_before a q) (rest b refl)
        ∙ ap (λ (n : ℕ). Err (record { file = n; fault = bad })) same
    by (Ok a) (Err other) k rest = let none : ⊥ = cc in absurd none
    by (Err other) q k rest = let none : ⊥ = cc in absurd none

pub files_more : (files : List FolderFile) (i : ℕ) (f : FolderFile) (listed next : Option (List Marked)) → i < length files → f ≡ get_or files i f → ListsFolder (take i files) listed → text_read (listing_line mark.Folder) listed f.text ≡ Ok next → ListsFolder (take (i + 1) files) next
files_more files i f listed next within at h read =
    let all = found (marked_rules mark.Folder h.rules) mark.Folder f.text listed next h.all read in
    let one : take (i + 1) files ≡ take i files ++ f ∷ [] = take_more files i f within ∙ ap (λ (x : FolderFile). take i files ++ x ∷ []) (sym at) in
    record {
      rules = h.rules ++ all.0;
      reads = ap (folder_read 0) one ∙ folder_more (take i files) f 0 h.rules all.0 h.reads all.1;
      all = subst (AreAllListed next) (sym (map-append (λ (r : Rule). record { mark = mark.Folder; rule = r }) h.rules all.0)) all.2;
    }

pub files_bad : (files : List FolderFile) (i : ℕ) (f : FolderFile) (listed last : Option (List Marked)) (fault : FileFault) → i < length files → f ≡ get_or files i f → ListsFolder (take i files) listed → LeadsTo (text_read (listing_line mark.Folder) listed f.text) (Err fault) last → IsFolderListed files (Err (fault_in_folder i fault))
files_bad files i f start last (file.Bad bad) within at h read =
    let reads : file_read f.text ≡ Err bad = first_fault (marked_rules mark.Folder h.rules) mark.Folder f.text start bad h.all read in
    let long : 0 + length (take i files) ≡ i = omega (arith, length-take-le i files (omega (arith, within))) in
    let rest : drop i files ≡ f ∷ drop (i + 1) files = rw (add-one, drop-cons files i f) (ap (λ (x : FolderFile). x ∷ drop (suc i) files) (sym at)) in
    let split : files ≡ take i files ++ f ∷ drop (i + 1) files = sym (take-append-drop i files) ∙ ap (λ (v : List FolderFile). take i files ++ v) rest in
    ap (folder_read 0) split
    ∙ folder_bad (take i files) (drop (i + 1) files) f 0 h.rules bad h.reads reads
    ∙ ap (λ (n : ℕ). Err (record { file = n; fault = bad })) long
files_bad files i f start last file.Memory within at h read = tt

-- ---- what is told of the folder

pub refuses_long : (files : List FolderFile) → nat_le (folder_length files) text_limit ≡ false → TakesFolder files (Err fault.FolderTooLong)
refuses_long files long = inl (ap (λ (b : Bool). if b then rules_of_folder (folder_read 0 files) else Err fault.FolderTooLong) long)

-- ---- what is told of a text

pub good_list : (folder : List Rule) (text : List ℕ) (start : Option (List Marked)) (rules : List Marked) (list : Rules) → AreAllListed start (marked_rules mark.Folder folder) → text_read (listing_line mark.File) start text ≡ Ok (Some rules) → HoldsJust rules list → ListsText folder text list
good_list folder text start rules list at read holds =
    let all = found (marked_rules mark.Folder folder) mark.File text start (Some rules) at read in
    record { rules = all.0; reads = all.1; few = omega (arith, all.2.1, start_length folder all.0); holds = subst (λ (rs : List Marked). HoldsJust rs list) all.2.0 holds }

pub many_rules : (folder : List Rule) (text : List ℕ) (start : Option (List Marked)) → AreAllListed start (marked_rules mark.Folder folder) → text_read (listing_line mark.File) start text ≡ Ok None → HasTooMany folder text
many_rules folder text start at read =
    let all = found (marked_rules mark.Folder folder) mark.File text start None at read in
    record { rules = all.0; reads = all.1; many = omega (arith, all.2, start_length folder all.0) }

pub bad_text : (folder : List Rule) (text : List ℕ) (start : Option (List Marked)) (fault : FileFault) (last : Option (List Marked)) → AreAllListed start (marked_rules mark.Folder folder) → LeadsTo (text_read (listing_line mark.File) start text) (Err fault) last → IsListOf folder text (Err (fault_of_file fault))
bad_text folder text start (file.Bad bad) last at h = first_fault (marked_rules mark.Folder folder) mark.File text start bad at h
bad_text folder text start file.Memory last at h = tt

-- ---- its canonical text

just_its_rules : (folder rules : List Rule) (list : Rules) → HoldsJust (start_rules folder rules) list → permanent_rules list.entries ≡ rules
just_its_rules folder rules list h = ap (λ (es : List RuleEntry). permanent_rules es) h.entries ∙ start_permanent 1 folder rules

module _ (folder : List Rule) (text : List ℕ) (list : Rules) (canonical : List ℕ) (h : ListsText folder text list) (is : canonical ≡ permanent_text list.entries) (fits : length canonical ≤ text_limit) (bytes : All RuleOfBytes (permanent_rules list.entries)) where
  same : permanent_rules list.entries ≡ h.rules
  same = just_its_rules folder h.rules list h.holds

  room : length (rules_text_of h.rules) ≤ text_limit
  room = subst (λ (rs : List Rule). length (rules_text_of rs) ≤ text_limit) same (subst (λ (t : List ℕ). length t ≤ text_limit) is fits)

  pub text_starts : HasRulesOf folder text list
  text_starts = record { rules = h.rules; reads = h.reads; few = h.few; fits = room; holds = h.holds }

  pub text_back : All ReadsBack folder → All ReadsBack (rules_in list.entries)
  text_back back = list_reads_back text folder h.rules list back h.reads (subst (All RuleOfBytes) same bytes) h.holds

  pub text_saves : IsSaveable list.entries
  text_saves = list_saves text folder h.rules list h.reads (subst (All RuleOfBytes) same bytes) room (let few : length folder + length h.rules ≤ most_rules = h.few in omega (arith, few)) h.holds

pub no_text : (folder : List Rule) (text : List ℕ) (list : Rules) (fault : RulesTextFault) → ListsText folder text list → (fault ≡ printed.TooLong → text_limit < length (permanent_text list.entries)) → StartsWith folder text (Err (fault_of_printing fault))
no_text folder text list printed.TooLong h long =
    record { rules = h.rules; reads = h.reads; few = h.few; long = subst (λ (rs : List Rule). text_limit < length (rules_text_of rs)) (just_its_rules folder h.rules list h.holds) (long refl) }
no_text folder text list printed.Memory h long = tt

-- a text whose list was refused
pub no_list : (folder : List Rule) (text : List ℕ) (e : StartFault) → IsListOf folder text (Err e) → StartsWith folder text (Err e)
no_list folder text (fault.BadRules bad) h = h
no_list folder text fault.TooMany h = h
no_list folder text fault.Memory h = tt
no_list folder text fault.TooLong h = absurd h
no_list folder text (fault.Disk count) h = absurd h
no_list folder text (fault.BadFolder place bad) h = absurd h
no_list folder text fault.FolderTooLong h = absurd h

-- the folder's rules are those of its list
own_listed : (list : Rules) → AreOfFolder list.entries → AreAllListed (marked_of (Some list)) (marked_rules mark.Folder (rules_in list.entries))
own_listed list h =
    let long : length (marked_rules mark.Folder (rules_in list.entries)) ≡ length list.entries = length-map (rules_in list.entries) (λ (r : Rule). record { mark = mark.Folder; rule = r }) ∙ length-map list.entries (λ (e : RuleEntry). e.rule) in
    let few : length list.entries ≤ most_rules = h.few in
    (h.own, omega (arith, few, long))

a_rule : Rule
a_rule = record {
  target = target.Allow;
  query = record { id = None; serial = None; name = None; hash = None; parent_hash = None; via_port = None; interface = None; connect = None; label = None };
  conds = None;
}

-- there are as many rules as one likes
so_many : (n : ℕ) → (rules : List Rule) × (length rules ≡ n)
so_many zero = ([], refl)
so_many (suc n) = let less = so_many n in (a_rule ∷ less.0, ap suc less.1)

-- rules of a folder behind which a text's are listed, each of which reads again
pub record ReadBehind (text : List ℕ) (list : Rules) : Type 0 where
  pub folder : List Rule
  pub lists : ListsText folder text list
  pub back : All ReadsBack folder

-- there is a list only where there is one of the folder
pub behind_folder : (o : Option Rules) (text : List ℕ) (list : Rules) → IfSome o (λ l. AreOfFolder l.entries) → ((rules : List Rule) → AreAllListed (marked_of o) (marked_rules mark.Folder rules) → ListsText rules text list) → ReadBehind text list
behind_folder (Some l) text list own lists = record { folder = rules_in l.entries; lists = lists (rules_in l.entries) (own_listed l own); back = own.back }
behind_folder None text list own lists =
    let many = so_many 65537 in
    let long : length (marked_rules mark.Folder many.0) ≡ length many.0 = length-map many.0 (λ (r : Rule). record { mark = mark.Folder; rule = r }) in
    let count : length many.0 ≡ 65537 = many.1 in
    let found : ListsText many.0 text list = lists many.0 (omega (arith, long, count)) in
    let few : length many.0 + length found.rules ≤ most_rules = found.few in
    absurd (omega (arith, count, few))
