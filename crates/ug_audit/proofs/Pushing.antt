-- An entry that is pushed, and the `dropped` entries behind it.
use Rattle.std.proofs.Common.{◌≡◌, ℕ, Bool, false, List, [], ◌∷◌, ◌++◌, if◌then◌else◌, refl, sym, ap, ◌∙◌, subst, append_assoc}
use Rattle.std.proofs.lemmas.List.{append-nil}
use Rattle.ug_audit.specs.declared.entry.Entry.{Entry}
use Rattle.ug_audit.specs.declared.entry.Entry.TheVariants as entry
use Rattle.ug_audit.specs.declared.journal.Journal.{Journal}
use Rattle.ug_audit.specs.Journal.{AuditorTold, members}
use Rattle.ug_audit.specs.Lines.{entry_line}
use Rattle.ug_audit.specs.Noting.{tells_drop, without_drops, NotesEach}
use Rattle.ug_audit.specs.Panels.{NotesAll, newly_dropped}
use Rattle.ug_audit.proofs.Noting.{notes_on, note_one, drops_append}

pub record IsPushed {X : Type 0} {F : X → Type 0} (told : AuditorTold X F) (e : Entry) (before : Journal X F) (due : List ℕ) (after : Journal X F) : Type 0 where
  pub added : List Entry
  pub all : after.entries.now.entries ≡ before.entries.now.entries ++ added
  pub alone : without_drops added ≡ e ∷ []
  pub noted : NotesEach [] added (members told before.panel.now) due (members told after.panel.now)

without_one : (e : Entry) → tells_drop e ≡ false → without_drops (e ∷ []) ≡ e ∷ []
without_one e h = subst (λ (b : Bool). (if b then [] else e ∷ []) ≡ e ∷ []) (sym h) refl

pub first_pushed : {X : Type 0} {F : X → Type 0} (told : AuditorTold X F) (e : Entry) (none due : List ℕ) (a b : Journal X F) → tells_drop e ≡ false → none ≡ [] → b.entries.now.entries ≡ a.entries.now.entries ++ e ∷ [] → NotesAll (entry_line e) (members told a.panel.now) (members told b.panel.now) → due ≡ none ++ newly_dropped 0 (members told a.panel.now) (members told b.panel.now) → IsPushed told e a due b
first_pushed told e none due a b k z all h d = record {
  added = e ∷ [];
  all = all;
  alone = without_one e k;
  noted = subst (λ (l : List ℕ). NotesEach [] (e ∷ []) (members told a.panel.now) l (members told b.panel.now)) (sym (d ∙ ap (λ (l : List ℕ). l ++ newly_dropped 0 (members told a.panel.now) (members told b.panel.now)) z)) (note_one [] e (members told a.panel.now) (members told b.panel.now) k h);
}

pub next_pushed : {X : Type 0} {F : X → Type 0} (told : AuditorTold X F) (e : Entry) (i : ℕ) (before due rest : List ℕ) (a b c : Journal X F) → IsPushed told e a before b → before ≡ i ∷ rest → c.entries.now.entries ≡ b.entries.now.entries ++ entry.Dropped i ∷ [] → NotesAll (entry_line (entry.Dropped i)) (members told b.panel.now) (members told c.panel.now) → due ≡ rest ++ newly_dropped 0 (members told b.panel.now) (members told c.panel.now) → IsPushed told e a due c
next_pushed told e i before due rest a b c p is all h d = record {
  added = p.added ++ entry.Dropped i ∷ [];
  all = all ∙ ap (λ (es : List Entry). es ++ entry.Dropped i ∷ []) p.all ∙ append_assoc a.entries.now.entries p.added (entry.Dropped i ∷ []);
  alone = drops_append p.added (entry.Dropped i ∷ []) ∙ append-nil (without_drops p.added) ∙ p.alone;
  noted =
      let from = subst (λ (l : List ℕ). NotesEach [] p.added (members told a.panel.now) l (members told b.panel.now)) is p.noted in
      let one = subst (λ (l : List ℕ). NotesEach (i ∷ rest) (entry.Dropped i ∷ []) (members told b.panel.now) l (members told c.panel.now)) (sym d) (note_one (i ∷ rest) (entry.Dropped i) (members told b.panel.now) (members told c.panel.now) refl h) in
      notes_on [] p.added (entry.Dropped i ∷ []) (members told a.panel.now) (members told b.panel.now) (members told c.panel.now) (i ∷ rest) due from one;
}

pub pushed_one : {X : Type 0} {F : X → Type 0} (told : AuditorTold X F) (e : Entry) (due : List ℕ) (a b : Journal X F) → IsPushed told e a due b → without_drops b.entries.now.entries ≡ without_drops a.entries.now.entries ++ e ∷ []
pushed_one told e due a b p =
    ap without_drops p.all ∙ drops_append a.entries.now.entries p.added ∙ ap (λ (es : List Entry). without_drops a.entries.now.entries ++ es) p.alone
