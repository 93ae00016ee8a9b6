-- What the members took of entries that were noted.
use Rattle.std.specs.Prelude.{◌≡◌, ℕ, ◌≤◌, Bool, true, false, List, [], ◌∷◌, ◌++◌}
use Rattle.std.specs.Io.KnownBytes.{Appends}
use Rattle.ug_types.specs.Ends.{Rose}
use Rattle.ug_audit.specs.declared.entry.Entry.{Entry}
use Rattle.ug_audit.specs.Lines.{entry_line}
use Rattle.ug_audit.specs.Panels.{Member}

-- the entries' lines, a newline behind each
abbrev pub entries_text : List Entry → List ℕ
entries_text [] = []
entries_text (e ∷ es) = (entry_line e ++ 10 ∷ []) ++ entries_text es

-- by whether it was dropped before, and is so after: a member that isn't dropped took the text; one
-- that is dropped now took a front of it, and a call of it failed; to one that was dropped nothing
-- is done
abbrev pub TookAs : Bool → Bool → List ℕ → Member → Member → Type 0
TookAs true true text m n = n ≡ m
TookAs true false text m n = ⊥
TookAs false false text m n = Appends m.text n.text text × (m.faults ≤ n.faults)
TookAs false true text m n =
    (front : List ℕ) × (rest : List ℕ) × (text ≡ front ++ rest) × Appends m.text n.text front
    × (m.faults ≤ n.faults) × Rose m.faults n.faults

abbrev pub TookAll : List ℕ → List Member → List Member → Type 0
TookAll text [] [] = Unit {0}
TookAll text [] (n ∷ ns) = ⊥
TookAll text (m ∷ ms) [] = ⊥
TookAll text (m ∷ ms) (n ∷ ns) = TookAs m.dropped n.dropped text m n × TookAll text ms ns
