-- A line that is noted, and the `dropped` entries behind it.
use Rattle.std.proofs.Common.{◌≡◌, ℕ, List, [], ◌∷◌, ◌++◌, refl, sym, ap, ◌∙◌, subst, arith}
use Rattle.std.proofs.lemmas.List.{append-nil}
use Rattle.ug_audit.specs.declared.entry.Entry.{Entry}
use Rattle.ug_audit.specs.declared.entry.Entry.TheVariants as entry
use Rattle.ug_audit.specs.Lines.{entry_line}
use Rattle.ug_audit.specs.Noting.{without_drops, NotesEach, NotesLine}
use Rattle.ug_audit.specs.Panels.{Member, NotesAll, live, newly_dropped}
use Rattle.ug_audit.specs.Texts.{entries_text, TookAll}
use Rattle.ug_audit.proofs.Noting.{notes_on, note_one, drops_append, live_falls}
use Rattle.ug_audit.proofs.Texts.{took_all_both, took_all_line, took_each, all_entries, empty}

-- the line is noted, and so are the first `dropped` entries behind it; those of the members that are due are still to come
pub record IsGiven (line : List ℕ) (before : List Member) (due : List ℕ) (after : List Member) : Type 0 where
  pub failing : List Member
  pub noted : NotesAll line before failing
  pub drops : List Entry
  pub alone : without_drops drops ≡ []
  pub behind : NotesEach (newly_dropped 0 before failing) drops failing due after

pub first_given : (line text : List ℕ) (before : List Member) (none due : List ℕ) (after : List Member) → text ≡ line → none ≡ [] → NotesAll text before after → due ≡ none ++ newly_dropped 0 before after → IsGiven line before due after
first_given line text before none due after e z h d = record {
  failing = after;
  noted = subst (λ (l : List ℕ). NotesAll l before after) e h;
  drops = [];
  alone = refl;
  behind = (d ∙ ap (λ (l : List ℕ). l ++ newly_dropped 0 before after) z, refl);
}

pub next_given : (line text : List ℕ) (before : List Member) (i : ℕ) (was rest due : List ℕ) (mid after : List Member) → IsGiven line before was mid → was ≡ i ∷ rest → text ≡ entry_line (entry.Dropped i) → NotesAll text mid after → due ≡ rest ++ newly_dropped 0 mid after → IsGiven line before due after
next_given line text before i was rest due mid after g is e h d =
    let start = newly_dropped 0 before g.failing in
    let from = subst (λ (l : List ℕ). NotesEach start g.drops g.failing l mid) is g.behind in
    let one = subst (λ (l : List ℕ). NotesEach (i ∷ rest) (entry.Dropped i ∷ []) mid l after) (sym d) (note_one (i ∷ rest) (entry.Dropped i) mid after refl (subst (λ (l : List ℕ). NotesAll l mid after) e h)) in
    record {
      failing = g.failing;
      noted = g.noted;
      drops = g.drops ++ entry.Dropped i ∷ [];
      alone = drops_append g.drops (entry.Dropped i ∷ []) ∙ append-nil (without_drops g.drops) ∙ g.alone;
      behind = notes_on start g.drops (entry.Dropped i ∷ []) g.failing mid after (i ∷ rest) due from one;
    }

pub all_given : (line : List ℕ) (before : List Member) (due : List ℕ) (after : List Member) → IsGiven line before due after → due ≡ [] → NotesLine line before after
all_given line before due after g none = record {
  failing = g.failing;
  noted = g.noted;
  drops = g.drops;
  alone = g.alone;
  behind = subst (λ (l : List ℕ). NotesEach (newly_dropped 0 before g.failing) g.drops g.failing l after) none g.behind;
}

pub took_noted : (line : List ℕ) (before after : List Member) (h : NotesLine line before after) → TookAll ((line ++ 10 ∷ []) ++ entries_text h.drops) before after
took_noted line before after h =
    took_all_both (line ++ 10 ∷ []) (entries_text h.drops) before h.failing after (took_all_line line before h.failing h.noted) (took_each (newly_dropped 0 before h.failing) h.drops h.failing [] after h.behind)

pub none_left : (line : List ℕ) (before after : List Member) (h : NotesLine line before after) → live before ≡ 0 → h.drops ≡ []
none_left line before after h none =
    let falls = live_falls 0 line before h.failing h.noted in
    let left : live h.failing ≡ 0 = omega (arith, falls, none) in
    let newly : newly_dropped 0 before h.failing ≡ [] = empty (newly_dropped 0 before h.failing) (omega (arith, falls, none)) in
    let behind = subst (λ (due : List ℕ). NotesEach due h.drops h.failing [] after) newly h.behind in
    sym (all_entries h.drops h.failing [] after left behind) ∙ h.alone
