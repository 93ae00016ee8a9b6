-- Entries that are noted one after another.
use Rattle.std.proofs.Common.{◌≡◌, ℕ, ◌+◌, ◌≤◌, Bool, true, false, List, [], ◌∷◌, ◌++◌, length, refl, sym, ap, ◌∙◌, subst, append_assoc, arith}
use Rattle.std.specs.Prelude.{Option, if◌then◌else◌}
use Rattle.std.proofs.lemmas.List.{append-nil}
use Rattle.ug_audit.specs.declared.entry.Entry.{Entry}
use Rattle.ug_audit.specs.declared.journal.Journal.{Journal}
use Rattle.ug_audit.specs.Journal.{AuditorTold, members, SameEntries}
use Rattle.ug_audit.specs.Lines.{entry_line}
use Rattle.ug_audit.specs.Noting.{tells_drop, without_drops, IsNextNoted, due_behind, NotesEach}
use Rattle.ug_audit.specs.Panels.{Member, TakesAs, NotesAll, is_newly, one_live, live, live_of, newly_dropped, members_of}

pub notes_on : (due : List ℕ) (es more : List Entry) (before between after : List Member) (mid later : List ℕ) → NotesEach due es before mid between → NotesEach mid more between later after → NotesEach due (es ++ more) before later after
notes_on due [] more before between after mid later h k =
    let A : List ℕ → Type 0 = λ d. NotesEach d more before later after in
    let B : List Member → Type 0 = λ ms. NotesEach mid more ms later after in
    subst A h.0 (subst B h.1 k)
notes_on due (e ∷ es) more before between after mid later h k =
    (h.0, h.1, h.2, notes_on (due_behind due (newly_dropped 0 before h.0)) es more h.0 between after mid later h.3 k)

pub note_one : (due : List ℕ) (e : Entry) (before after : List Member) → IsNextNoted due e → NotesAll (entry_line e) before after → NotesEach due (e ∷ []) before (due_behind due (newly_dropped 0 before after)) after
note_one due e before after next noted = (after, next, noted, (refl, refl))

pub goes_on : {X : Type 0} {F : X → Type 0} (told : AuditorTold X F) (a b c : Journal X F) → SameEntries told a b → SameEntries told b c → SameEntries told a c
goes_on told a b c h k = record {
  panel = k.panel ∙ h.panel;
  entries = k.entries ∙ h.entries;
  added = h.added ++ k.added;
  all = k.all ∙ ap (λ (es : List Entry). es ++ k.added) h.all ∙ append_assoc a.entries.now.entries h.added k.added;
  noted = notes_on [] h.added k.added (members told a.panel.now) (members told b.panel.now) (members told c.panel.now) [] [] h.noted k.noted;
}

pub stays : {X : Type 0} {F : X → Type 0} (told : AuditorTold X F) (a : Journal X F) → SameEntries told a a
stays told a = record { panel = refl; entries = refl; added = []; all = sym (append-nil a.entries.now.entries); noted = (refl, refl) }

pub drops_append : (es more : List Entry) → without_drops (es ++ more) ≡ without_drops es ++ without_drops more
drops_append [] more = refl
drops_append (e ∷ es) more =
    elim (tells_drop e) as (λ b. (if b then without_drops (es ++ more) else e ∷ without_drops (es ++ more)) ≡ (if b then without_drops es else e ∷ without_drops es) ++ without_drops more) [
      | true ↦ drops_append es more
      | false ↦ ap (λ (l : List Entry). e ∷ l) (drops_append es more)
    ]

-- ---- how many aren't dropped

pub live_members : {A : Type 0} (text : A → Option (List ℕ)) (faults : A → ℕ) (auditors : List A) (marks : List Bool) → live (members_of text faults auditors marks) ≡ live_of auditors marks
live_members text faults [] marks = refl
live_members text faults (a ∷ auditors) [] = refl
live_members text faults (a ∷ auditors) (mark ∷ marks) = ap (λ (n : ℕ). one_live mark + n) (live_members text faults auditors marks)

pub live_few : {A : Type 0} (auditors : List A) (marks : List Bool) → live_of auditors marks ≤ length auditors
live_few [] marks = omega arith
live_few (a ∷ auditors) [] = omega arith
live_few (a ∷ auditors) (true ∷ marks) = omega (arith, live_few auditors marks)
live_few (a ∷ auditors) (false ∷ marks) = omega (arith, live_few auditors marks)

one_falls : (was is : Bool) (line : List ℕ) (m n : Member) (first : ℕ) (rest : List ℕ) (l k : ℕ) → TakesAs was is line m n → k + length rest ≡ l → one_live is + k + length (if is_newly was is then first ∷ rest else rest) ≡ one_live was + l
one_falls true true line m n first rest l k h e = omega (arith, e)
one_falls true false line m n first rest l k h e = absurd h
one_falls false false line m n first rest l k h e = omega (arith, e)
one_falls false true line m n first rest l k h e = omega (arith, e)

pub live_falls : (first : ℕ) (line : List ℕ) (before after : List Member) → NotesAll line before after → live after + length (newly_dropped first before after) ≡ live before
live_falls first line [] [] h = refl
live_falls first line [] (n ∷ ns) h = absurd h
live_falls first line (m ∷ ms) [] h = absurd h
live_falls first line (m ∷ ms) (n ∷ ns) h =
    one_falls m.dropped n.dropped line m n first (newly_dropped (first + 1) ms ns) (live ms) (live ns) h.0 (live_falls (first + 1) line ms ns h.1)
