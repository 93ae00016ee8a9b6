-- Places in a run: which event one is in, and which events come no later.
use Rattle.std.proofs.Common.{◌≡◌, Bool, false, cond, List, [], ◌∷◌, ◌++◌, inl, inr, refl, sym, ◌∙◌, ap, append_assoc, append-nil}
use Rattle.ug_types.proofs.Elements.{cancel}
use Rattle.ug_audit.specs.declared.entry.Entry.{Entry}
use Rattle.ug_core.specs.declared.changes.Change.{Change}
use Rattle.ug_core.specs.Chain.{Happened, changes_asked, decided, journal, ready_of, told_before, told_if, told_in, told_of, was_done}
use Rattle.ug_core.specs.InForce.{Decision, decisions_in, is_ordered, decided_entry, unordered}
use Rattle.ug_core.specs.Rulings.{Decided, Told, Was_changed}
use Rattle.ug_core.proofs.InForce.{decisions_append, unordered_append}
use Rattle.ug_core.proofs.SoFar.{journal_append}
use Rattle.ug_core.proofs.Splits.{never_in, where_cut}
use Rattle.ug_headline.proofs.Stories.{map_append}

-- a place in the journal is in one of the events

pub record IsIn (hs : List Happened) (es : List Entry) : Type 0 where
  pub earlier : List Happened
  pub event : Happened
  pub later : List Happened
  pub in_run : hs ≡ earlier ++ event ∷ later
  pub more : List Entry
  pub rest : List Entry
  pub cut : es ≡ journal earlier ++ more
  pub in_event : event.after.sweep.entries ≡ more ++ rest

pub is_in : (hs : List Happened) (es : List Entry) (x : Entry) (back : List Entry) → journal hs ≡ es ++ x ∷ back → IsIn hs es
is_in [] [] x back e = let none : ⊥ = cc in absurd none
is_in [] (y ∷ es) x back e = let none : ⊥ = cc in absurd none
is_in (h ∷ hs) es x back e = elim (where_cut h.after.sweep.entries (journal hs) es x back e) [
  | inl c ↦ record { earlier = []; event = h; later = hs; in_run = refl; more = es; rest = x ∷ c.rest; cut = refl; in_event = c.here }
  | inr c ↦
      let k = is_in hs c.more x back c.there in
      record {
        earlier = h ∷ k.earlier;
        event = k.event;
        later = k.later;
        in_run = ap (λ (l : List Happened). h ∷ l) k.in_run;
        more = k.more;
        rest = k.rest;
        cut = c.beyond ∙ ap (λ (l : List Entry). h.after.sweep.entries ++ l) k.cut ∙ sym (append_assoc h.after.sweep.entries (journal k.earlier) k.more);
        in_event = k.in_event;
      }
]

-- the part of a run up to an event, with it, has that event
pub record GoesOn (front earlier : List Happened) (event : Happened) : Type 0 where
  pub later : List Happened
  pub in_front : front ≡ earlier ++ event ∷ later

beyond_itself : {X : Type 0} (xs ys : List X) (y : X) (more : List X) → xs ≡ xs ++ (ys ++ y ∷ more) → ⊥
beyond_itself {X} xs ys y more e = never_in ys y more (sym (cancel xs (ys ++ y ∷ more) [] (sym e ∙ sym (append-nil xs))))

-- what is told before a place is in an event no later than the place's
pub told_within : (hs earlier : List Happened) (event : Happened) (later : List Happened) (front : List Entry) (d : Decision) (since : List Entry) (es : List Entry) (at : IsIn hs es) → hs ≡ earlier ++ event ∷ later → es ≡ (journal earlier ++ front) ++ decided_entry d ∷ since → GoesOn (at.earlier ++ at.event ∷ []) earlier event
told_within hs earlier event later front d since es at in_run told =
    elim (where_cut (at.earlier ++ at.event ∷ []) at.later earlier event later (append_assoc at.earlier (at.event ∷ []) at.later ∙ sym at.in_run ∙ in_run)) [
      | inl c ↦ record { later = c.rest; in_front = c.here }
      | inr c ↦
          let x : List Entry = at.event.after.sweep.entries in
          let there : journal earlier ≡ journal at.earlier ++ (x ++ journal c.more) =
          ap (λ (l : List Happened). journal l) (c.beyond ∙ append_assoc at.earlier (at.event ∷ []) c.more) ∙ journal_append at.earlier (at.event ∷ c.more) in
          let rest : List Entry = (at.rest ++ journal c.more) ++ (front ++ decided_entry d ∷ since) in
          let whole : journal at.earlier ++ at.more ≡ journal at.earlier ++ (at.more ++ rest) =
          sym at.cut ∙ told ∙ append_assoc (journal earlier) front (decided_entry d ∷ since)
          ∙ ap (λ (l : List Entry). l ++ (front ++ decided_entry d ∷ since)) (there ∙ ap (λ (l : List Entry). journal at.earlier ++ (l ++ journal c.more)) at.in_event)
          ∙ append_assoc (journal at.earlier) ((at.more ++ at.rest) ++ journal c.more) (front ++ decided_entry d ∷ since)
          ∙ ap (λ (l : List Entry). journal at.earlier ++ (l ++ (front ++ decided_entry d ∷ since))) (append_assoc at.more at.rest (journal c.more))
          ∙ ap (λ (l : List Entry). journal at.earlier ++ l) (append_assoc at.more (at.rest ++ journal c.more) (front ++ decided_entry d ∷ since)) in
          let own : at.more ≡ at.more ++ rest = cancel (journal at.earlier) at.more (at.more ++ rest) whole in
          absurd (beyond_itself at.more ((at.rest ++ journal c.more) ++ front) (decided_entry d) since (own ∙ ap (λ (l : List Entry). at.more ++ l) (sym (append_assoc (at.rest ++ journal c.more) front (decided_entry d ∷ since)))))
    ]

-- ---- what the events tell of the policy

pub tells_append : (gs hs : List Happened) → told_of (gs ++ hs) ≡ told_of gs ++ told_of hs
tells_append [] hs = refl
tells_append (g ∷ gs) hs = ap (λ (l : List Told). told_in g ++ l) (tells_append gs hs) ∙ sym (append_assoc (told_in g) (told_of gs) (told_of hs))

-- a decision that its event tells, behind what was told before
pub record ToldThere (hs : List Happened) (before : List Told) (d : Decision) : Type 0 where
  pub after : List Told
  pub at : told_of hs ≡ before ++ Decided d ∷ after

pub told_there : (earlier : List Happened) (h : Happened) (later : List Happened) (front : List Entry) (d : Decision) (back : List Entry) → h.after.sweep.entries ≡ h.answered.sweep.entries ++ (front ++ decided_entry d ∷ back) → is_ordered d.cause ≡ false → ToldThere (earlier ++ h ∷ later) (told_before earlier h front) d
told_there earlier h later front d back entries plain =
    let asked : List Told = told_if (was_done h.after.reply) (changes_asked (ready_of h) h.event) in
    let fs : List Entry = h.answered.sweep.entries ++ front in
    let ds : List Told = decided (unordered (decisions_in fs)) in
    let ls : List Told = decided (unordered (decisions_in back)) in
    let cut : decisions_in h.after.sweep.entries ≡ decisions_in fs ++ d ∷ decisions_in back =
    ap (λ (l : List Entry). decisions_in l) (entries ∙ sym (append_assoc h.answered.sweep.entries front (decided_entry d ∷ back))) ∙ decisions_append fs (decided_entry d ∷ back) in
    let one : unordered (d ∷ decisions_in back) ≡ d ∷ unordered (decisions_in back) = ap (λ (b : Bool). cond b (unordered (decisions_in back)) (d ∷ unordered (decisions_in back))) plain in
    let inner : decided (unordered (decisions_in h.after.sweep.entries)) ≡ ds ++ Decided d ∷ ls =
    ap (λ (l : List Decision). decided (unordered l)) cut
    ∙ ap (λ (l : List Decision). decided l) (unordered_append (decisions_in fs) (d ∷ decisions_in back) ∙ ap (λ (l : List Decision). unordered (decisions_in fs) ++ l) one)
    ∙ map_append Decided (unordered (decisions_in fs)) (d ∷ unordered (decisions_in back)) in
    record {
      after = ls ++ told_of later;
      at = tells_append earlier (h ∷ later)
          ∙ ap (λ (l : List Told). told_of earlier ++ ((asked ++ l) ++ told_of later)) inner
          ∙ ap (λ (l : List Told). told_of earlier ++ (l ++ told_of later)) (sym (append_assoc asked ds (Decided d ∷ ls)))
          ∙ ap (λ (l : List Told). told_of earlier ++ l) (append_assoc (asked ++ ds) (Decided d ∷ ls) (told_of later))
          ∙ sym (append_assoc (told_of earlier) (asked ++ ds) (Decided d ∷ (ls ++ told_of later)));
    }

-- a change that is told before a decision is told by an event no later than the decision's
pub changed_within : (hs front rest earlier : List Happened) (event : Happened) (later : List Happened) (change : Change) (more : List Told) (before : List Told) (d : Decision) → hs ≡ front ++ rest → hs ≡ earlier ++ event ∷ later → ToldThere front before d → before ≡ told_of earlier ++ Was_changed change ∷ more → GoesOn front earlier event
changed_within hs front rest earlier event later change more before d cut in_run there told =
    elim (where_cut front rest earlier event later (sym cut ∙ in_run)) [
      | inl c ↦ record { later = c.rest; in_front = c.here }
      | inr c ↦
          let more_told : List Told = told_of c.more in
          let whole : told_of earlier ≡ told_of earlier ++ ([] ++ Was_changed change ∷ (more ++ (Decided d ∷ (there.after ++ more_told)))) =
          ap (λ (l : List Happened). told_of l) c.beyond ∙ tells_append front c.more ∙ ap (λ (l : List Told). l ++ more_told) (there.at ∙ ap (λ (l : List Told). l ++ Decided d ∷ there.after) told)
          ∙ append_assoc (told_of earlier ++ Was_changed change ∷ more) (Decided d ∷ there.after) more_told
          ∙ append_assoc (told_of earlier) (Was_changed change ∷ more) (Decided d ∷ (there.after ++ more_told)) in
          absurd (beyond_itself (told_of earlier) [] (Was_changed change) (more ++ (Decided d ∷ (there.after ++ more_told))) whole)
    ]
