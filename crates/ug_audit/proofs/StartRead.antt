-- An entry of the start is read back from its line.
use Rattle.std.proofs.Common.{◌≡◌, ℕ, true, nat_lt, List, [], ◌∷◌, take, drop, refl, sym, ap, ◌∙◌, arith}
use Rattle.std.specs.Prelude.{codes, decimal, if◌then◌else◌}
use Rattle.std.specs.List.{list_all}
use Rattle.std.proofs.lemmas.Bool.{and_parts, false≢true}
use Rattle.std.proofs.lemmas.Bool.Decides.{nat_tests}
use Rattle.ug_types.specs.Elements.{Has}
use Rattle.ug_types.specs.Principals.{is_name_byte}
use Rattle.ug_types.proofs.SpacedWords.{is_graphic, is_line, split_words, line_no_newline, number_graphic}
use Rattle.ug_types.proofs.RefusalRead.{number_back}
use Rattle.ug_audit.specs.declared.entry.Entry.{Entry}
use Rattle.ug_audit.specs.declared.start_entry.ConfigPart.{ConfigPart}
use Rattle.ug_audit.specs.declared.start_entry.ConfigPart.TheVariants as part
use Rattle.ug_audit.specs.declared.start_entry.StartEntry.{StartEntry}
use Rattle.ug_audit.specs.declared.start_entry.StartEntry.TheVariants as start
use Rattle.ug_audit.specs.Lines.{and_words, entry_line}
use Rattle.ug_audit.specs.Printed.{IsEntry}
use Rattle.ug_audit.specs.StartLines.{part_text, start_line, IsConfigPart, IsStartEntry}
use Rattle.ug_audit.proofs.EntryRead.{tells_start, entry_not_start}
use Rattle.ug_audit.proofs.LineWords.{AllGraphic, same_word, nth, nth_number, byte_number, told_of_words, is_one_line}

-- ---- the entry of a line's words

abbrev part_read : List ℕ → ConfigPart
part_read word =
    if same_word word (codes "settings") then part.Settings else
    if same_word word (codes "folder") then part.Folder else
    if same_word (take 7 word) (codes "folder/") then part.FolderFile (drop 7 word) else
    if same_word word (codes "rules") then part.Rules else part.Access

abbrev start_read : List (List ℕ) → StartEntry
start_read words =
    if same_word (nth words 0) (codes "note") then start.UnusedKey (nth_number words 2) else
    start.Refused (part_read (nth words 1)) (nth_number words 2) (nth_number words 3) (nth_number words 4)

-- ---- each word is read back

graphic_byte : (b : ℕ) → is_name_byte b ≡ true → nat_lt 32 b ≡ true
graphic_byte b h = grind (arith, nat_tests)

graphic_name : (name : List ℕ) → list_all is_name_byte name ≡ true → is_graphic name ≡ true
graphic_name [] h = refl
graphic_name (b ∷ name) h = let s = and_parts (is_name_byte b) (list_all is_name_byte name) h in rw (graphic_byte b s.0) (graphic_name name s.1)

part_back : (p : ConfigPart) → IsConfigPart p → (is_graphic (part_text p) ≡ true) × (part_read (part_text p) ≡ p)
unfolding part_text
part_back part.Settings h = (refl, refl)
part_back part.Folder h = (refl, refl)
part_back (part.FolderFile name) h = (graphic_name name h, refl)
part_back part.Rules h = (refl, refl)
part_back part.Access h = (refl, refl)

-- ---- each line

abbrev IsReadAs : List ℕ → StartEntry → Type 0
IsReadAs line e = (start_read (split_words line) ≡ e) × (is_line line ≡ true) × (tells_start (split_words line) ≡ true)

read_as : (word : List ℕ) (words : List (List ℕ)) (e : StartEntry) → (is_graphic word ≡ true) × (tells_start (word ∷ words) ≡ true) → AllGraphic words → start_read (word ∷ words) ≡ e → IsReadAs (and_words word words) e
read_as word words e g h r =
    (told_of_words start_read word words g.0 h ∙ r, is_one_line word words g.0 h, told_of_words tells_start word words g.0 h ∙ g.1)

start_back : (e : StartEntry) → IsStartEntry e → IsReadAs (start_line e) e
unfolding start_line
start_back (start.UnusedKey line) h =
    read_as (codes "note") (codes "unused-key" ∷ decimal line ∷ []) (start.UnusedKey line) (refl, refl) (refl, (number_graphic line h, tt)) (ap start.UnusedKey (number_back line h))
start_back (start.Refused what line kind place) h =
    let k = byte_number kind h.2 in
    let back = part_back what h.0 in
    read_as (codes "start-refused") (part_text what ∷ decimal line ∷ decimal kind ∷ decimal place ∷ []) (start.Refused what line kind place) (refl, refl) (back.0, (number_graphic line h.1, (number_graphic kind k, (number_graphic place h.3, tt))))
    (λ i. start.Refused (back.1 i) (number_back line h.1 i) (number_back kind k i) (number_back place h.3 i))

pub one_start : (a b : StartEntry) → IsStartEntry a → IsStartEntry b → start_line a ≡ start_line b → a ≡ b
one_start a b h k e = sym (start_back a h).0 ∙ ap (λ (line : List ℕ). start_read (split_words line)) e ∙ (start_back b k).0

pub start_on_line : (a : StartEntry) → IsStartEntry a → ¬ Has (start_line a) 10
start_on_line a h = line_no_newline (start_line a) (start_back a h).1

pub start_apart : (a : StartEntry) (e : Entry) → IsStartEntry a → IsEntry e → ¬ (start_line a ≡ entry_line e)
start_apart a e h k same =
    false≢true (sym (entry_not_start e k) ∙ ap (λ (line : List ℕ). tells_start (split_words line)) (sym same) ∙ (start_back a h).2)
