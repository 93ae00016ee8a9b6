-- What a crash may leave at any moment of a save or of a reading.
use Rattle.std.proofs.Common.{◌≡◌, ℕ, ◌≤◌, true, List, [], ◌∷◌, ◌++◌, length, Option, Some, Result, Ok, Err, inl, inr, ◌⊎◌, refl, sym, ◌∙◌, ap, subst, append_assoc, arith}
use Rattle.ug_types.specs.Elements.{Has}
use Rattle.ug_types.specs.Limits.{text_limit}
use Rattle.ug_types.proofs.Elements.{has_cases}
use Rattle.ug_store.specs.DiskCalls.{DiskCall, Load, Write_new, Sync_new, Swap, DiskTold}
use Rattle.ug_store.specs.Disk.{Disk, Images, Texts, Anything, or_text, while_swapping, IsAsItWas, WroteNew, SyncedNew, Swapped, DiskCalled, FollowsOnDisk}
use Rattle.ug_store.specs.Store.{DiskProg, Ended, AskDisk, DiskRoom, RunsDisk, after_swap, after_sync_new, after_write_new, saving, after_load, recovering, IsOldOr, SavedAs, HasSaved, RecoversFrom, HasRecovered}
use Rattle.ug_store.specs.declared.disk.DiskAnswer.{DiskAnswer}
use Rattle.ug_store.specs.declared.disk.DiskAnswer.TheVariants as answer
use Rattle.ug_store.specs.declared.disk.Loaded.{Loaded}
use Rattle.ug_store.specs.declared.disk.Loaded.TheVariants as loaded
use Rattle.ug_types.specs.declared.saved.Saved.{Saved}
use Rattle.ug_types.specs.declared.saved.Saved.TheVariants as saved
use Rattle.ug_store.specs.declared.store.RecoverFault.{RecoverFault}
use Rattle.ug_store.specs.declared.store.RecoverFault.TheVariants as fault

-- the calls of a disk that is told
abbrev pub disk_calls : Disk → (call : DiskCall) → DiskTold call → Disk → Type 0
disk_calls m call a n = DiskCalled call a m n

-- a run of the tree is a run of the disk, where that is told at the end
pub told_disk : {S R : Type 0} (keeps : S → (call : DiskCall) → DiskTold call → S → Type 0) (told : S → Option Disk) (did : (s : S) (call : DiskCall) (a : DiskTold call) (t : S) (n : Disk) → keeps s call a t → told t ≡ Some n → FollowsOnDisk call a (told s) n) (p : DiskProg R) (s : S) (r : R) (t : S) (n : Disk) → RunsDisk keeps s p r t → told t ≡ Some n → (m : Disk) × (told s ≡ Some m) × RunsDisk disk_calls m p r n
told_disk keeps told did (Ended value) s r t n h e = (n, subst (λ (v : _). told v ≡ Some n) h.1 e, (h.0, refl))
told_disk keeps told did (AskDisk call next) s r t n h e =
    let m = told_disk keeps told did (next h.0) h.1 r t n h.3 e in
    let d = did s call h.0 h.1 m.0 h.2 m.1 in
    (d.disk, d.was_told, (h.0, m.0, d.called, m.2))
told_disk keeps told did (DiskRoom next) s r t n h e =
    let m = told_disk keeps told did (next h.0) s r t n h.1 e in
    (m.0, m.1, (h.0, m.2))

or_text_is : (left : Images) (text : List ℕ) → IsOldOr left text (or_text left text)
or_text_is (Texts texts) text c h = elim (has_cases texts (text ∷ []) c h) [
  | inl a ↦ inl a
  | inr b ↦ elim b [ inl e ↦ inr (sym e) | inr none ↦ absurd none ]
]
or_text_is Anything text c h = inl tt

same_is : (left : Images) (text : List ℕ) → IsOldOr left text left
same_is left text c h = inl h

each_one : (text : List ℕ) (left : Images) (images : Images) → Has (left ∷ []) images → IsOldOr left text images
each_one text left images (inl e) = subst (λ (v : Images). IsOldOr left text v) e (same_is left text)
each_one text left images (inr none) = absurd none

each_two : (text : List ℕ) (left : Images) (images : Images) → Has (left ∷ left ∷ []) images → IsOldOr left text images
each_two text left images (inl e) = subst (λ (v : Images). IsOldOr left text v) e (same_is left text)
each_two text left images (inr h) = each_one text left images h

each_three : (text : List ℕ) (left : Images) (images : Images) → Has (left ∷ left ∷ or_text left text ∷ []) images → IsOldOr left text images
each_three text left images (inl e) = subst (λ (v : Images). IsOldOr left text v) e (same_is left text)
each_three text left images (inr (inl e)) = subst (λ (v : Images). IsOldOr left text v) e (same_is left text)
each_three text left images (inr (inr (inl e))) = subst (λ (v : Images). IsOldOr left text v) e (or_text_is left text)
each_three text left images (inr (inr (inr none))) = absurd none

-- a call that isn't a swap leaves the rule file, and what a crash leaves of it
abbrev pub Keeps : Disk → Disk → Type 0
Keeps m n = (n.text ≡ m.text) × (n.left ≡ m.left)

pub write_keeps : (a : DiskAnswer) (text : List ℕ) (m n : Disk) → WroteNew a text m n → Keeps m n
write_keeps answer.Done text m n h = (h.text, h.left)
write_keeps answer.Failed text m n (inl h) = (h.text, h.left)
write_keeps answer.Failed text m n (inr h) = (h.1.text, h.1.left)
write_keeps answer.Memory text m n h = (h.text, h.left)

pub sync_keeps : (a : DiskAnswer) (m n : Disk) → SyncedNew a m n → Keeps m n
sync_keeps answer.Done m n h = (h.text, h.left)
sync_keeps answer.Failed m n (inl h) = (h.text, h.left)
sync_keeps answer.Failed m n (inr h) = (h.text, h.left)
sync_keeps answer.Memory m n h = absurd h

as_run : (text : List ℕ) (m : Disk) (r q : Saved) (x n : Disk) → (r ≡ q) × (x ≡ n) → HasSaved text m q n → HasSaved text m r x
as_run text m r q x n run h =
    subst (λ (v : Saved). HasSaved text m v x) (sym run.0) (subst (λ (y : Disk). HasSaved text m q y) (sym run.1) h)

kept_failed : (text : List ℕ) (m n : Disk) (count : ℕ) → Keeps m n → SavedAs (saved.Failed count) text m n
kept_failed text m n count keeps = (inl keeps.0, subst (λ (v : Images). IsOldOr m.left text v) (sym keeps.1) (same_is m.left text))

-- the end of a swap
swap_end : (text : List ℕ) (m n : Disk) (r : Saved) (a : DiskAnswer) (count : ℕ) (x : Disk)
    → n.past ≡ m.past ++ (m.left ∷ m.left ∷ or_text m.left text ∷ [])
    → (v : Disk) → v.text ≡ m.text → v.fresh ≡ text → while_swapping v.synced v.left v.fresh ≡ or_text m.left text
    → Swapped a v n → RunsDisk disk_calls n (after_swap a count) r x → HasSaved text m r x
swap_end text m n r answer.Done count x past v same fresh within did run =
    as_run text m r saved.Done x n run (record {
      since = m.left ∷ m.left ∷ or_text m.left text ∷ [];
      past = past;
      each = each_three text m.left;
      wanting = λ e. let none : ⊥ = cc in absurd none;
      now = (did.0 ∙ fresh, did.1 ∙ ap (λ (f : List ℕ). Texts (f ∷ [])) fresh);
    })
swap_end text m n r answer.Failed count x past v same fresh within did run =
    let which : (n.text ≡ m.text) ⊎ (n.text ≡ text) = elim did.0 [ inl e ↦ inl (e ∙ same) | inr e ↦ inr (e ∙ fresh) ] in
    as_run text m r (saved.Failed count) x n run (record {
      since = m.left ∷ m.left ∷ or_text m.left text ∷ [];
      past = past;
      each = each_three text m.left;
      wanting = λ e. let none : ⊥ = cc in absurd none;
      now = (which, subst (λ (i : Images). IsOldOr m.left text i) (sym (did.1 ∙ within)) (or_text_is m.left text));
    })
swap_end text m n r answer.Memory count x past v same fresh within did run = absurd did

swap_saved : (text : List ℕ) (m v n : Disk) (r : Saved) (a : DiskAnswer) (count : ℕ)
    → Keeps m v → v.past ≡ m.past ++ (m.left ∷ m.left ∷ []) → v.fresh ≡ text → v.synced ≡ true
    → DiskCalled Swap (record { answer = a; count = count }) v n → (x : Disk) → RunsDisk disk_calls n (after_swap a count) r x → HasSaved text m r x
swap_saved text m v n r a count keeps pv fresh synced called x run =
    let within : while_swapping v.synced v.left v.fresh ≡ or_text m.left text = ap (λ b. while_swapping b v.left v.fresh) synced ∙ ap (λ l. or_text l v.fresh) keeps.1 ∙ ap (λ f. or_text m.left f) fresh in
    let past : n.past ≡ m.past ++ (m.left ∷ m.left ∷ or_text m.left text ∷ []) =
    called.past ∙ ap (λ (p : List Images). p ++ while_swapping v.synced v.left v.fresh ∷ []) pv
    ∙ ap (λ (w : Images). (m.past ++ (m.left ∷ m.left ∷ [])) ++ w ∷ []) within ∙ simp append_assoc in
    swap_end text m n r a count x past v keeps.0 fresh within called.effect run

sync_saved : (text : List ℕ) (m u v : Disk) (r : Saved) (a : DiskAnswer) (count : ℕ)
    → Keeps m u → u.past ≡ m.past ++ m.left ∷ [] → u.fresh ≡ text
    → DiskCalled Sync_new (record { answer = a; count = count }) u v → (x : Disk) → RunsDisk disk_calls v (after_sync_new a count) r x → HasSaved text m r x
sync_saved text m u v r a count keeps pu fresh called x run = pick a called run
  where
    past_of : v.past ≡ u.past ++ u.left ∷ [] → v.past ≡ m.past ++ (m.left ∷ m.left ∷ [])
    past_of e = e ∙ ap (λ (p : List Images). p ++ u.left ∷ []) pu ∙ ap (λ (l : Images). (m.past ++ m.left ∷ []) ++ l ∷ []) keeps.1 ∙ simp append_assoc

    both : Keeps u v → Keeps m v
    both k = (k.0 ∙ keeps.0, k.1 ∙ keeps.1)

    pick : (b : DiskAnswer) → DiskCalled Sync_new (record { answer = b; count = count }) u v → RunsDisk disk_calls v (after_sync_new b count) r x → HasSaved text m r x
    pick answer.Done h k = swap_saved text m v k.1 r k.0.answer k.0.count (both (sync_keeps answer.Done u v h.effect)) (past_of h.past) (h.effect.fresh ∙ fresh) h.effect.synced k.2 x k.3
    pick answer.Failed h k = as_run text m r (saved.Failed count) x v k (record {
      since = m.left ∷ m.left ∷ [];
      past = past_of h.past;
      each = each_two text m.left;
      wanting = λ e. let none : ⊥ = cc in absurd none;
      now = kept_failed text m v count (both (sync_keeps answer.Failed u v h.effect));
    })
    pick answer.Memory h k = absurd h.effect

first_saved : (text : List ℕ) (m u : Disk) (r : Saved) (a : DiskAnswer) (count : ℕ) → DiskCalled (Write_new text) (record { answer = a; count = count }) m u → (x : Disk) → RunsDisk disk_calls u (after_write_new a count) r x → HasSaved text m r x
first_saved text m u r answer.Done count called x run =
    sync_saved text m u run.1 r run.0.answer run.0.count (write_keeps answer.Done text m u called.effect) called.past called.effect.fresh run.2 x run.3
first_saved text m u r answer.Failed count called x run = as_run text m r (saved.Failed count) x u run (record {
  since = m.left ∷ [];
  past = called.past;
  each = each_one text m.left;
  wanting = λ e. let none : ⊥ = cc in absurd none;
  now = kept_failed text m u count (write_keeps answer.Failed text m u called.effect);
})
first_saved text m u r answer.Memory count called x run = as_run text m r saved.Memory x u run (record {
  since = m.left ∷ [];
  past = called.past;
  each = each_one text m.left;
  wanting = λ e images has. elim has [ inl same ↦ sym same | inr none ↦ absurd none ];
  now = called.effect;
})

-- the saving of a text over a disk
pub saves : (text : List ℕ) (m x : Disk) (r : Saved) → RunsDisk disk_calls m (saving text) r x → HasSaved text m r x
unfolding saving
saves text m x r run = first_saved text m run.1 r run.0.answer run.0.count run.2 x run.3

has_read : (m n : Disk) (r q : Result (List ℕ) RecoverFault) (x : Disk) → (r ≡ q) × (x ≡ n) → RecoversFrom q m.text → IsAsItWas m n → n.past ≡ m.past ++ m.left ∷ [] → HasRecovered m r x
has_read m n r q x run file still past =
    subst (λ (v : Result (List ℕ) RecoverFault). HasRecovered m v x) (sym run.0) (subst (λ (y : Disk). HasRecovered m q y) (sym run.1) (record { file = file; still = still; past = past }))

first_read : (m n : Disk) (r : Result (List ℕ) RecoverFault) (a : Loaded) (count : ℕ) → DiskCalled Load (record { answer = a; count = count }) m n → (x : Disk) → RunsDisk disk_calls n (after_load a count) r x → HasRecovered m r x
first_read m n r (loaded.Bytes text) count called x run = has_read m n r (Ok text) x run called.effect.0 called.effect.1 called.past
first_read m n r loaded.Absent count called x run =
    let short : length m.text ≤ text_limit = subst (λ (t : List ℕ). length t ≤ text_limit) (sym called.effect.0) (omega arith) in
    has_read m n r (Ok []) x run (sym called.effect.0, short) called.effect.1 called.past
first_read m n r loaded.TooLong count called x run = has_read m n r (Err fault.TooLong) x run called.effect.0 called.effect.1 called.past
first_read m n r loaded.Failed count called x run = has_read m n r (Err (fault.Failed count)) x run tt called.effect.1 called.past
first_read m n r loaded.Memory count called x run = has_read m n r (Err fault.Memory) x run tt called.effect.1 called.past

-- the reading of the rule file over a disk
pub recovers : (m x : Disk) (r : Result (List ℕ) RecoverFault) → RunsDisk disk_calls m recovering r x → HasRecovered m r x
unfolding recovering
recovers m x r run = first_read m run.1 r run.0.answer run.0.count run.2 x run.3
