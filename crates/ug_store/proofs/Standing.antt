-- Which texts may stand after any list of savings and readings.
use Rattle.std.proofs.Common.{◌≡◌, ℕ, Bool, true, false, List, [], ◌∷◌, ◌++◌, inl, inr, ◌⊎◌, refl, sym, ◌∙◌, ap, subst, append_assoc}
use Rattle.std.proofs.lemmas.List.{append-nil}
use Rattle.ug_types.proofs.Elements.{has_cases, has_left, has_right}
use Rattle.ug_store.specs.DiskCalls.{Load, Write_new, Sync_new, Swap}
use Rattle.ug_store.specs.Disk.{Disk, Images, Texts, Anything, IsImage, or_text, while_swapping, DiskCalled}
use Rattle.ug_store.specs.Store.{DiskProg, Ended, AskDisk, DiskRoom, RunsDisk, SavedAs}
use Rattle.ug_store.specs.History.{StoreStep, Saves_text, Reads_text, StoreSteps, IsDoneSaving, NoneDone, CameToDisk, MayStand, HoldsOnly, StandsAfter, StandsWithin, ReadsStanding, CoversEnds, LeavesInside, StaysPossible}
use Rattle.ug_store.proofs.Saving.{disk_calls, write_keeps, sync_keeps}
use Rattle.ug_store.specs.declared.disk.DiskAnswer.{DiskAnswer}
use Rattle.ug_store.specs.declared.disk.DiskAnswer.TheVariants as answer
use Rattle.ug_types.specs.declared.saved.Saved.{Saved}
use Rattle.ug_types.specs.declared.saved.Saved.TheVariants as saved

none_more : (steps : List StoreStep) (step : StoreStep) → NoneDone steps → (IsDoneSaving step → ⊥) → NoneDone (steps ++ step ∷ [])
none_more steps step none isnt s has done = elim (has_cases steps (step ∷ []) s has) [
  | inl a ↦ none s a done
  | inr b ↦ elim b [ inl e ↦ isnt (subst (λ (v : StoreStep). IsDoneSaving v) (sym e) done) | inr never ↦ absurd never ]
]

-- a text stands on where the next step isn't a save that was done
stands_on : (first : List ℕ) (steps : List StoreStep) (step : StoreStep) (c : List ℕ) → (IsDoneSaving step → ⊥) → MayStand first steps c → MayStand first (steps ++ step ∷ []) c
stands_on first steps step c isnt (inl h) = inl (record {
  before = h.before;
  answer = h.answer;
  after = h.after ++ step ∷ [];
  at = ap (λ (l : List StoreStep). l ++ step ∷ []) h.at ∙ simp append_assoc;
  came = h.came;
  none = none_more h.after step h.none isnt;
})
stands_on first steps step c isnt (inr h) = inr (h.0, none_more steps step h.1 isnt)

stands_new : (first : List ℕ) (steps : List StoreStep) (c : List ℕ) (r : Saved) → CameToDisk r → MayStand first (steps ++ Saves_text c r ∷ []) c
stands_new first steps c r came = inl (record { before = steps; answer = r; after = []; at = refl; came = came; none = λ s has done. absurd has })

-- the rule file and each text that a crash leaves may stand
record Stand (first : List ℕ) (steps : List StoreStep) (m : Disk) : Type 0 where
  file : MayStand first steps m.text
  crash : (c : List ℕ) → IsImage m.left c → MayStand first steps c

at_first : (first : List ℕ) (m : Disk) → HoldsOnly first m → Stand first [] m
at_first first m h = record {
  file = inr (h.0, λ s has done. absurd has);
  crash = λ c is. inr (only c (subst (λ (v : Images). IsImage v c) h.1 is), λ s has done. absurd has);
}
  where
    only : (c : List ℕ) → IsImage (Texts (first ∷ [])) c → c ≡ first
    only c (inl e) = sym e
    only c (inr never) = absurd never

on_file : (first : List ℕ) (steps : List StoreStep) (step : StoreStep) (m n : Disk) → (IsDoneSaving step → ⊥) → n.text ≡ m.text → n.left ≡ m.left → Stand first steps m → Stand first (steps ++ step ∷ []) n
on_file first steps step m n isnt text left h = record {
  file = subst (λ (c : List ℕ). MayStand first (steps ++ step ∷ []) c) (sym text) (stands_on first steps step m.text isnt h.file);
  crash = λ c is. stands_on first steps step c isnt (h.crash c (subst (λ (v : Images). IsImage v c) left is));
}

after_save : (first : List ℕ) (steps : List StoreStep) (text : List ℕ) (r : Saved) (m n : Disk) → SavedAs r text m n → Stand first steps m → Stand first (steps ++ Saves_text text r ∷ []) n
after_save first steps text saved.Done m n now h = record {
  file = subst (λ (c : List ℕ). MayStand first (steps ++ Saves_text text saved.Done ∷ []) c) (sym now.0) (stands_new first steps text saved.Done tt);
  crash = λ c is. only c (subst (λ (v : Images). IsImage v c) now.1 is);
}
  where
    only : (c : List ℕ) → IsImage (Texts (text ∷ [])) c → MayStand first (steps ++ Saves_text text saved.Done ∷ []) c
    only c (inl e) = subst (λ (v : List ℕ). MayStand first (steps ++ Saves_text text saved.Done ∷ []) v) e (stands_new first steps text saved.Done tt)
    only c (inr never) = absurd never
after_save first steps text (saved.Failed count) m n now h = record {
  file = either n.text (elim now.0 [ inl e ↦ inl (subst (λ (c : List ℕ). MayStand first steps c) (sym e) h.file) | inr e ↦ inr e ]);
  crash = λ c is. either c (elim (now.1 c is) [ inl old ↦ inl (h.crash c old) | inr e ↦ inr e ]);
}
  where
    either : (c : List ℕ) → MayStand first steps c ⊎ (c ≡ text) → MayStand first (steps ++ Saves_text text (saved.Failed count) ∷ []) c
    either c (inl old) = stands_on first steps (Saves_text text (saved.Failed count)) c (λ never. never) old
    either c (inr e) = subst (λ (v : List ℕ). MayStand first (steps ++ Saves_text text (saved.Failed count) ∷ []) v) (sym e) (stands_new first steps text (saved.Failed count) tt)
after_save first steps text saved.Memory m n now h = on_file first steps (Saves_text text saved.Memory) m n (λ never. never) now.text now.left h

go_on : (first : List ℕ) (so_far steps : List StoreStep) (m n : Disk) → Stand first so_far m → StoreSteps m steps n → Stand first (so_far ++ steps) n
go_on first so_far [] m n h run = subst (λ (d : Disk). Stand first (so_far ++ []) d) (sym run) (subst (λ (l : List StoreStep). Stand first l m) (sym (append-nil so_far)) h)
go_on first so_far (Saves_text text r ∷ steps) m n h run =
    let more : Stand first ((so_far ++ Saves_text text r ∷ []) ++ steps) n = go_on first (so_far ++ Saves_text text r ∷ []) steps run.0 n (after_save first so_far text r m run.0 run.1.now h) run.2 in
    rw append_assoc at more
go_on first so_far (Reads_text r ∷ steps) m n h run =
    let next : Stand first (so_far ++ Reads_text r ∷ []) run.0 = on_file first so_far (Reads_text r) m run.0 (λ never. never) run.1.still.text run.1.still.left h in
    let more : Stand first ((so_far ++ Reads_text r ∷ []) ++ steps) n = go_on first (so_far ++ Reads_text r ∷ []) steps run.0 n next run.2 in
    rw append_assoc at more

stand_after : (first : List ℕ) (m : Disk) (steps : List StoreStep) (n : Disk) → HoldsOnly first m → StoreSteps m steps n → Stand first steps n
stand_after first m steps n holds run = go_on first [] steps m n (at_first first m holds) run

pub stands_after : StandsAfter
stands_after first m steps n holds run = let h = stand_after first m steps n holds run in (h.file, h.crash)

pub stands_within : StandsWithin
stands_within first m steps u holds run text r n save images has c is =
    elim (save.each images has c is) [ inl old ↦ inl ((stand_after first m steps u holds run).crash c old) | inr e ↦ inr e ]

pub reads_standing : ReadsStanding
reads_standing first m steps u holds run text n h =
    subst (λ (c : List ℕ). MayStand first steps c) (sym h.file.0) (stand_after first m steps u holds run).file

or_old : (left : Images) (fresh c : List ℕ) → IsImage left c → IsImage (or_text left fresh) c
or_old (Texts texts) fresh c is = has_left texts (fresh ∷ []) c is
or_old Anything fresh c is = tt

or_new : (left : Images) (fresh : List ℕ) → IsImage (or_text left fresh) fresh
or_new (Texts texts) fresh = has_right texts (fresh ∷ []) fresh (inl refl)
or_new Anything fresh = tt

swap_old : (b : Bool) (left : Images) (fresh c : List ℕ) → IsImage left c → IsImage (while_swapping b left fresh) c
swap_old true left fresh c is = or_old left fresh c is
swap_old false left fresh c is = tt

swap_new : (b : Bool) (left : Images) (fresh : List ℕ) → IsImage (while_swapping b left fresh) fresh
swap_new true left fresh = or_new left fresh
swap_new false left fresh = tt

one_text : (b : Bool) (left : Images) (fresh c : List ℕ) → IsImage (Texts (fresh ∷ [])) c → IsImage (while_swapping b left fresh) c
one_text b left fresh c (inl e) = subst (λ (v : List ℕ). IsImage (while_swapping b left fresh) v) e (swap_new b left fresh)
one_text b left fresh c (inr never) = absurd never

swap_ends : (a : DiskAnswer) (count : ℕ) (m n : Disk) → DiskCalled Swap (record { answer = a; count = count }) m n → (c : List ℕ) → IsImage n.left c → IsImage (while_swapping m.synced m.left m.fresh) c
swap_ends answer.Done count m n h c is = one_text m.synced m.left m.fresh c (subst (λ (v : Images). IsImage v c) h.effect.1 is)
swap_ends answer.Failed count m n h c is = subst (λ (v : Images). IsImage v c) h.effect.1 is
swap_ends answer.Memory count m n h c is = absurd h.effect

pub covers_ends : CoversEnds
covers_ends Load told m n h c (inl is) = is
covers_ends Load told m n h c (inr is) = subst (λ (v : Images). IsImage v c) h.effect.1.left is
covers_ends (Write_new text) told m n h c (inl is) = is
covers_ends (Write_new text) told m n h c (inr is) = subst (λ (v : Images). IsImage v c) (write_keeps told.answer text m n h.effect).1 is
covers_ends Sync_new told m n h c (inl is) = is
covers_ends Sync_new told m n h c (inr is) = subst (λ (v : Images). IsImage v c) (sync_keeps told.answer m n h.effect).1 is
covers_ends Swap told m n h c (inl is) = swap_old m.synced m.left m.fresh c is
covers_ends Swap told m n h c (inr is) = swap_ends told.answer told.count m n h c is

kept_possible : (m n : Disk) → n.text ≡ m.text → n.left ≡ m.left → IsImage m.left m.text → IsImage n.left n.text
kept_possible m n text left is = subst (λ (v : Images). IsImage v n.text) (sym left) (subst (λ (c : List ℕ). IsImage m.left c) (sym text) is)

swap_possible : (a : DiskAnswer) (count : ℕ) (m n : Disk) → DiskCalled Swap (record { answer = a; count = count }) m n → IsImage m.left m.text → IsImage n.left n.text
swap_possible answer.Done count m n h is = subst (λ (v : Images). IsImage v n.text) (sym h.effect.1) (inl (sym h.effect.0))
swap_possible answer.Failed count m n h is = subst (λ (v : Images). IsImage v n.text) (sym h.effect.1) (elim h.effect.0 [
  | inl e ↦ subst (λ (c : List ℕ). IsImage (while_swapping m.synced m.left m.fresh) c) (sym e) (swap_old m.synced m.left m.fresh m.text is)
  | inr e ↦ subst (λ (c : List ℕ). IsImage (while_swapping m.synced m.left m.fresh) c) (sym e) (swap_new m.synced m.left m.fresh)
])
swap_possible answer.Memory count m n h is = absurd h.effect

pub stays_possible : StaysPossible
stays_possible Load told m n h is = kept_possible m n h.effect.1.text h.effect.1.left is
stays_possible (Write_new text) told m n h is = let k = write_keeps told.answer text m n h.effect in kept_possible m n k.0 k.1 is
stays_possible Sync_new told m n h is = let k = sync_keeps told.answer m n h.effect in kept_possible m n k.0 k.1 is
stays_possible Swap told m n h is = swap_possible told.answer told.count m n h is

-- so it is over any calls
pub possible_runs : {R : Type 0} (p : DiskProg R) (m : Disk) (r : R) (n : Disk) → RunsDisk disk_calls m p r n → IsImage m.left m.text → IsImage n.left n.text
possible_runs (Ended value) m r n h is = subst (λ (x : Disk). IsImage x.left x.text) (sym h.1) is
possible_runs (AskDisk call next) m r n h is = possible_runs (next h.0) h.1 r n h.3 (stays_possible call h.0 m h.1 h.2 is)
possible_runs (DiskRoom next) m r n h is = possible_runs (next h.0) m r n h.1 is

-- what a call leaves it may leave within
pub leaves_inside : LeavesInside
leaves_inside call told m n h is = covers_ends call told m n h n.text (inr (stays_possible call told m n h is))
