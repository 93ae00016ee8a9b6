-- Entries of the start that are noted one after another.
use Rattle.std.proofs.Common.{◌≡◌, ℕ, ◌+◌, ◌<◌, List, [], ◌∷◌, ◌++◌, map, take, get_or, length, refl, sym, ◌∙◌, ap, subst, add-one}
use Rattle.std.proofs.Math.Seq.{take-suc}
use Rattle.std.proofs.lemmas.List.{map-append}
use Rattle.ug_audit.specs.declared.start_entry.StartEntry.{StartEntry}
use Rattle.ug_audit.specs.Noting.{NotesLine, NotesStart}
use Rattle.ug_audit.specs.Panels.{Member}
use Rattle.ug_audit.specs.StartLines.{start_line}

pub one_noted : (e : StartEntry) (ms ns : List Member) → NotesLine (start_line e) ms ns → NotesStart (e ∷ []) ms ns
one_noted e ms ns h = (ns, h, refl)

pub both_noted : (es fs : List StartEntry) (ms ns os : List Member) → NotesStart es ms ns → NotesStart fs ns os → NotesStart (es ++ fs) ms os
both_noted [] fs ms ns os h k = subst (λ (l : List Member). NotesStart fs l os) h k
both_noted (e ∷ es) fs ms ns os h k = (h.0, h.1, both_noted es fs h.0 ns os h.2 k)

pub next_noted : {A : Type 0} (make : A → StartEntry) (xs : List A) (i : ℕ) (d : A) (ms ns os : List Member) → i < length xs → NotesStart (map make (take i xs)) ms ns → NotesLine (start_line (make (get_or xs i d))) ns os → NotesStart (map make (take (i + 1) xs)) ms os
next_noted {A} make xs i d ms ns os below h k =
    let grown : map make (take (i + 1) xs) ≡ map make (take i xs) ++ make (get_or xs i d) ∷ [] = ap (λ (j : ℕ). map make (take j xs)) (add-one i) ∙ (ap (λ (ys : List A). map make ys) (take-suc xs i d below) ∙ map-append make (take i xs) (get_or xs i d ∷ [])) in
    subst (λ (es : List StartEntry). NotesStart es ms os) (sym grown) (both_noted (map make (take i xs)) (make (get_or xs i d) ∷ []) ms ns os h (one_noted (make (get_or xs i d)) ns os k))
