-- An access line is read as its grammar says.
use Rattle.std.proofs.Common.{◌≡◌, ℕ, ◌⊎◌, inl, inr, ◌↔◌, Bool, true, false, not, ◌&&◌, ◌||◌, if◌then◌else◌, nat_eq, nat_lt, List, [], ◌∷◌, ◌++◌, Option, Some, None, Result, Ok, Err, refl, sym, ap, subst, ◌∙◌, append-nil, arith}
use Rattle.std.specs.Prelude.{find}
use Rattle.std.proofs.lemmas.Bool.{and_parts, both_ways}
use Rattle.std.proofs.lemmas.Bool.Decides.{nat_tests}
use Rattle.std.specs.List.{list_any}
use Rattle.ug_types.specs.Elements.{Has}
use Rattle.ug_types.specs.Principals.{Named, is_name, is_name_byte, principal_named, principal_of, principal_text}
use Rattle.ug_types.specs.declared.text_fault.TextFault.{TextFault}
use Rattle.ug_types.proofs.NameWords.{principal_graphic}
use Rattle.ug_types.proofs.SpacedWords.{is_graphic}
use Rattle.ug_lines.specs.Equations.{AreBlanks, BeginsBare, IsTextOf, IsSkipped}
use Rattle.ug_lines.specs.Lines.{lines_of}
use Rattle.ug_lines.specs.Splitting.{IsLine, Open}
use Rattle.ug_lines.proofs.TextLines.{split_only}
use Rattle.ug_lines.specs.Entries.{AreEntries, IsSkippedLine}
use Rattle.ug_acl.specs.declared.draft.Given.{Given}
use Rattle.ug_acl.specs.Grammar.{GivesAccess, GivesGrant}
use Rattle.ug_acl.specs.Lines.{given_to}
use Rattle.ug_acl.specs.Pairs.{Pair}
use Rattle.ug_acl.specs.Texts.{access_read, pairs_given}
use Rattle.ug_acl.proofs.Saying.{says}
use Rattle.ug_steps.specs.declared.step.AccessLine.{AccessLine}
use Rattle.ug_steps.specs.declared.step.SetupLine.TheVariants.{Access}
use Rattle.ug_steps.specs.Grammar.{in_access, granting, grant_of, IsAccess}
use Rattle.ug_steps.specs.Words.{begins_entry, is_entry, is_one_line}
use Rattle.ug_steps.proofs.LineCuts.{cut_alone, cut_found, space}

-- ---- the first space

cut_at : (text word line : List ℕ) → text ≡ word ++ 32 ∷ line → ¬ Has word 32 → grant_of text ≡ granting (principal_of word) line
cut_at text word line is apart = ap grant_of is ∙ cut_found (λ (w l : List ℕ). granting (principal_of w) l) None word line apart

no_cut : (text : List ℕ) → ¬ Has text 32 → grant_of text ≡ None
no_cut text h = cut_alone (λ (w l : List ℕ). granting (principal_of w) l) None text h

-- ---- principals

named_so : (group : Bool) (name : List ℕ) (who : Named) → principal_named group name ≡ Some who → (who ≡ record { group = group; name = name }) × (is_name name ≡ true)
named_so group name who h = by (is_name name) refl h
  where
    by : (v : Bool) → is_name name ≡ v → (if v then Some (record { group = group; name = name }) else None) ≡ Some who → (who ≡ record { group = group; name = name }) × (is_name name ≡ true)
    by true e k = (let same : who ≡ record { group = group; name = name } = cc in same, e)
    by false e k = let none : ⊥ = cc in absurd none

pub principal_so : (word : List ℕ) (who : Named) → principal_of word ≡ Some who → (word ≡ principal_text who) × (is_name who.name ≡ true)
principal_so [] who h = let none : ⊥ = cc in absurd none
principal_so (b ∷ word) who h = by (nat_eq b 58) refl h
  where
    by : (v : Bool) → nat_eq b 58 ≡ v → (if v then principal_named true word else principal_named false (b ∷ word)) ≡ Some who → (b ∷ word ≡ principal_text who) × (is_name who.name ≡ true)
    by true e k =
        let s = named_so true word who k in
        let same : b ≡ 58 = grind (arith, nat_tests) in
        (ap (λ (c : ℕ). c ∷ word) same ∙ ap principal_text (sym s.0), ap (λ (p : Named). is_name p.name) s.0 ∙ s.1)
    by false e k = let s = named_so false (b ∷ word) who k in (ap principal_text (sym s.0), ap (λ (p : Named). is_name p.name) s.0 ∙ s.1)

no_colon : (b : ℕ) (name : List ℕ) → is_name (b ∷ name) ≡ true → nat_eq b 58 ≡ false
no_colon b name h = first (and_parts (is_name_byte b) _ (and_parts _ _ h).1).0
  where
    first : is_name_byte b ≡ true → nat_eq b 58 ≡ false
    first k = grind (arith, nat_tests)

pub so_principal : (who : Named) → is_name who.name ≡ true → principal_of (principal_text who) ≡ Some who
so_principal who h = by who.group who.name h
  where
    by : (group : Bool) (name : List ℕ) → is_name name ≡ true → principal_of (if group then 58 ∷ name else name) ≡ Some (record { group = group; name = name })
    by true name k = rw k refl
    by false [] k = let none : ⊥ = cc in absurd none
    by false (b ∷ name) k = rw (no_colon b name k) (rw k refl)

pub graphic_apart : (word : List ℕ) → is_graphic word ≡ true → ¬ Has word 32
graphic_apart [] h k = k
graphic_apart (b ∷ word) h (inl m) = let s = and_parts (nat_lt 32 b) (is_graphic word) h in let none : ⊥ = grind (arith, nat_tests, s.0) in none
graphic_apart (b ∷ word) h (inr m) = graphic_apart word (and_parts (nat_lt 32 b) (is_graphic word) h).1 m

-- ---- one line

pub one_line : (line : List ℕ) → is_one_line line ≡ true → ¬ Has line 10
one_line [] h k = k
one_line (b ∷ line) h k = by (nat_eq b 10) refl (one_line line) h k
  where
    by : (v : Bool) → nat_eq b 10 ≡ v → (is_one_line line ≡ true → ¬ Has line 10) → not (v || list_any (λ c. nat_eq c 10) line) ≡ true → Has (b ∷ line) 10 → ⊥
    by true e again m n = let none : ⊥ = cc in none
    by false e again m (inl n) = let none : ⊥ = grind (arith, nat_tests) in none
    by false e again m (inr n) = again m n

pub line_one : (line : List ℕ) → ¬ Has line 10 → is_one_line line ≡ true
line_one [] h = refl
line_one (b ∷ line) h =
    let no : nat_eq b 10 ≡ false = other b (λ e. h (inl e)) in
    rw no (line_one line (λ k. h (inr k)))
  where
    other : (c : ℕ) → ¬ (c ≡ 10) → nat_eq c 10 ≡ false
    other c n = grind (arith, nat_tests)

pub is_line : (line : List ℕ) → ¬ Has line 10 → IsLine line
is_line [] h = tt
is_line (b ∷ line) h = (λ e. h (inl e), is_line line (λ k. h (inr k)))

whole : (line : List ℕ) → ¬ Has line 10 → is_entry line ≡ true → lines_of line ≡ line ∷ []
whole [] h e = let none : ⊥ = cc in absurd none
whole (b ∷ line) h e = split_only (b ∷ line) ((b ∷ line) ∷ []) (Open b line (is_line (b ∷ line) h))

-- ---- neither blank nor a comment

abbrev bare : ℕ → Bool
bare b = not (nat_eq b 32 || nat_eq b 9)

abbrev shown : List ℕ → Bool
shown [] = false
shown (b ∷ text) = not (nat_eq b 35)

find_behind : (blanks rest : List ℕ) → AreBlanks blanks → find bare (blanks ++ rest) ≡ find bare rest
find_behind [] rest h = refl
find_behind (b ∷ blanks) rest (inl e, h) = let no : bare b ≡ false = ap bare e in rw no (find_behind blanks rest h)
find_behind (b ∷ blanks) rest (inr e, h) = let no : bare b ≡ false = ap bare e in rw no (find_behind blanks rest h)

begins_bare : (b : ℕ) → ¬ ((b ≡ 32) ⊎ (b ≡ 9)) → bare b ≡ true
begins_bare b h =
    let first : nat_eq b 32 ≡ false = other b 32 (λ e. h (inl e)) in
    let second : nat_eq b 9 ≡ false = other b 9 (λ e. h (inr e)) in
    rw first (rw second refl)
  where
    other : (c n : ℕ) → ¬ (c ≡ n) → nat_eq c n ≡ false
    other c n k = grind (arith, nat_tests)

shown_entry : (text behind : List ℕ) → BeginsBare text → AreBlanks behind → begins_entry (find bare (text ++ behind)) ≡ shown text
shown_entry [] behind h k = ap begins_entry (ap (find bare) (sym (append-nil behind)) ∙ find_behind behind [] k)
shown_entry (b ∷ text) behind h k = rw (begins_bare b h) refl

entry_shown : (line text : List ℕ) → IsTextOf line text → is_entry line ≡ shown text
entry_shown line text h =
    ap is_entry h.is ∙ ap begins_entry (find_behind h.before (text ++ h.behind) h.before_blank)
    ∙ shown_entry text h.behind h.begins h.behind_blank

not_shown : (text : List ℕ) → IsSkipped text → shown text ≡ false
not_shown [] h = refl
not_shown (b ∷ text) h = ap (λ (c : ℕ). not (nat_eq c 35)) h

is_shown : (text : List ℕ) → ¬ IsSkipped text → shown text ≡ true
is_shown [] h = absurd (h tt)
is_shown (b ∷ text) h = other b h
  where
    other : (c : ℕ) → ¬ (c ≡ 35) → not (nat_eq c 35) ≡ true
    other c k = grind (arith, nat_tests)

no_entry : (line : List ℕ) → IsSkippedLine line → is_entry line ≡ true → ⊥
no_entry line s e = both_ways (is_entry line) (entry_shown line s.0 s.1 ∙ not_shown s.0 s.2) e

-- ---- what it grants

grants_one : (line word : List ℕ) (who : Named) (pairs : List Pair) → (word ≡ principal_text who) → is_name who.name ≡ true → ¬ Has line 10 → is_entry line ≡ true → GivesAccess line pairs → IsAccess (word ++ 32 ∷ line) (record { who = who; grants = pairs })
grants_one line word who pairs written named single entry h = by (subst (λ (ls : List (List ℕ)). AreEntries GivesGrant 1 ls h.given) (whole line single entry) h.lines)
  where
    by : AreEntries GivesGrant 1 (line ∷ []) h.given → IsAccess (word ++ 32 ∷ line) (record { who = who; grants = pairs })
    by (inl s) = absurd (no_entry line s.0 entry)
    by (inr g) = record {
      line = line;
      is = ap (λ (w : List ℕ). w ++ 32 ∷ line) written;
      named = named;
      single = single;
      section = g.0.section;
      privileges = g.0.privileges;
      grant = g.3;
      gives = h.is ∙ ap pairs_given (g.2 ∙ ap (λ (others : List Given). g.0 ∷ others) g.4);
    }

read_so : (text : List ℕ) (a : AccessLine) → grant_of text ≡ Some (Access a) → IsAccess text a
read_so text a h = elim (space text) [
  | inl s ↦ subst (λ (t : List ℕ). IsAccess t a) (sym s.is) (by_who s.word s.rest (principal_of s.word) refl (sym (cut_at text s.word s.rest s.is s.no_space) ∙ h))
  | inr none ↦ (let never : None ≡ Some (Access a) = sym (no_cut text none) ∙ h in let no : ⊥ = cc in absurd no)
]
  where
    by_read : (word line : List ℕ) (who : Named) (r : Result (List Pair) TextFault) → principal_of word ≡ Some who → ¬ Has line 10 → is_entry line ≡ true → access_read line ≡ r → in_access who r ≡ Some (Access a) → IsAccess (word ++ 32 ∷ line) a
    by_read word line who (Ok pairs) p single entry e k =
        let w = principal_so word who p in
        let same : record { who = who; grants = pairs } ≡ a = cc in
        subst (λ (l : AccessLine). IsAccess (word ++ 32 ∷ line) l) same (grants_one line word who pairs w.0 w.1 single entry ((says line pairs).0 e))
    by_read word line who (Err fault) p single entry e k = let no : ⊥ = cc in absurd no

    by_tests : (word line : List ℕ) (who : Named) (one entry : Bool) → principal_of word ≡ Some who → is_one_line line ≡ one → is_entry line ≡ entry → (if one && entry then in_access who (access_read line) else None) ≡ Some (Access a) → IsAccess (word ++ 32 ∷ line) a
    by_tests word line who true true p s e k = by_read word line who (access_read line) p (one_line line s) e refl k
    by_tests word line who true false p s e k = let no : ⊥ = cc in absurd no
    by_tests word line who false entry p s e k = let no : ⊥ = cc in absurd no

    by_who : (word line : List ℕ) (who : Option Named) → principal_of word ≡ who → granting (principal_of word) line ≡ Some (Access a) → IsAccess (word ++ 32 ∷ line) a
    by_who word line None p k = let none : granting None line ≡ Some (Access a) = subst (λ (o : Option Named). granting o line ≡ Some (Access a)) p k in let no : ⊥ = cc in absurd no
    by_who word line (Some who) p k = by_tests word line who (is_one_line line) (is_entry line) p refl refl (subst (λ (o : Option Named). granting o line ≡ Some (Access a)) p k)

so_read : (text : List ℕ) (a : AccessLine) → IsAccess text a → grant_of text ≡ Some (Access a)
so_read text a h =
    let entry : is_entry h.line ≡ true = entry_shown h.line h.grant.text h.grant.text_of ∙ is_shown h.grant.text h.grant.shown in
    let one : lines_of h.line ≡ h.line ∷ [] = whole h.line h.single entry in
    let given : Given = given_to h.section h.privileges in
    let gives : GivesAccess h.line a.grants = record {
      given = given ∷ [];
      lines = subst (λ (ls : List (List ℕ)). AreEntries GivesGrant 1 ls (given ∷ [])) (sym one) (inr (given, [], refl, h.grant, refl));
      once = (λ k. k, tt);
      is = h.gives;
    } in
    cut_at text (principal_text a.who) h.line h.is (graphic_apart (principal_text a.who) (principal_graphic a.who h.named))
    ∙ ap (λ (o : Option Named). granting o h.line) (so_principal a.who h.named)
    ∙ ap (λ (v : Bool). if v && is_entry h.line then in_access a.who (access_read h.line) else None) (line_one h.line h.single)
    ∙ ap (λ (v : Bool). if v then in_access a.who (access_read h.line) else None) entry
    ∙ ap (in_access a.who) ((says h.line a.grants).1 gives)

pub access_text : (text : List ℕ) (a : AccessLine) → (grant_of text ≡ Some (Access a)) ↔ IsAccess text a
access_text text a = (read_so text a, so_read text a)
