-- How a change is saved: the runs of the disk, by the text that the policy has for it.
use Rattle.std.proofs.Common.{◌≡◌, ℕ, List, Bool, true, false, Some, None, nat_le, length, refl, sym, subst}
use Rattle.std.proofs.lemmas.Bool.{le-leb}
use Rattle.ug_types.specs.Limits.{text_limit}
use Rattle.ug_types.specs.declared.saved.Saved.{Saved}
use Rattle.ug_ruleset.specs.RuleFile.{permanent_text}
use Rattle.ug_store.specs.DiskCalls.{DiskCall, DiskTold}
use Rattle.ug_store.specs.Store.{DiskRoom, Ended, RunsDisk, saving}
use Rattle.ug_store.proofs.DiskRuns.{runs_then_disk}
use Rattle.ug_core.specs.Changes.{ChangeSaves, changed_by, is_saved, text_if_saved, text_to_save}
use Rattle.ug_core.specs.Policy.{Judging}
use Rattle.ug_core.specs.Storing.{after_saving, if_fits, if_kept, if_saved}
use Rattle.ug_core.specs.declared.changes.Change.{Change}
use Rattle.ug_core.specs.declared.changes.Change.TheVariants.{Rules, Set}
use Rattle.ug_core.specs.declared.storing.Stored.{Stored}
use Rattle.ug_core.specs.declared.storing.Stored.TheVariants as stored

none_when : (b : Bool) (change : Change) (p : Judging) → None ≡ text_if_saved b change p → b ≡ false
none_when true change p h = let none : ⊥ = cc in absurd none
none_when false change p h = refl

some_when : (b : Bool) (change : Change) (p : Judging) (text : List ℕ) → Some text ≡ text_if_saved b change p → (b ≡ true) × (text ≡ permanent_text (changed_by change p).rules)
some_when true change p text h = (refl, cc)
some_when false change p text h = let none : ⊥ = cc in absurd none

fits_when : (change : Change) (p : Judging) → is_saved change p.rules ≡ true → ChangeSaves change p → nat_le (length (permanent_text (changed_by change p).rules)) text_limit ≡ true
fits_when (Rules edit) p is saves = le-leb (length (permanent_text (changed_by (Rules edit) p).rules)) text_limit saves.fits
fits_when (Set set) p is saves = let none : ⊥ = cc in absurd none

-- memory is refused
pub kept_memory : {S : Type 0} (keeps : S → (call : DiskCall) → DiskTold call → S → Type 0) (s : S) (p : Judging) (change : Change) → RunsDisk keeps s (DiskRoom (if_kept p change)) stored.Memory s
kept_memory keeps s p change = (false, (refl, refl))

-- the rule file stays
pub kept_none : {S : Type 0} (keeps : S → (call : DiskCall) → DiskTold call → S → Type 0) (s : S) (p : Judging) (change : Change) → None ≡ text_to_save change p → RunsDisk keeps s (DiskRoom (if_kept p change)) stored.NotNeeded s
kept_none keeps s p change h =
    (true, subst (λ (b : Bool). RunsDisk keeps s (if_saved p change b) stored.NotNeeded s) (sym (none_when (is_saved change p.rules) change p h)) (refl, refl))

-- the text is saved
pub kept_saved : {S : Type 0} (keeps : S → (call : DiskCall) → DiskTold call → S → Type 0) (s t : S) (p : Judging) (change : Change) (text : List ℕ) (saved : Saved) (became : Stored) → Some text ≡ text_to_save change p → ChangeSaves change p → became ≡ after_saving saved → RunsDisk keeps s (saving text) saved t → RunsDisk keeps s (DiskRoom (if_kept p change)) became t
kept_saved {S} keeps s t p change text saved became h saves is ran =
    let k = some_when (is_saved change p.rules) change p text h in
    let whole : List ℕ = permanent_text (changed_by change p).rules in
    let runs : RunsDisk keeps s (saving whole) saved t = subst (λ (v : List ℕ). RunsDisk keeps s (saving v) saved t) k.1 ran in
    let fits : RunsDisk keeps s (if_fits whole true) became t = runs_then_disk keeps s (saving whole) (λ v. Ended (after_saving v)) saved t became t runs (is, refl) in
    let room : RunsDisk keeps s (if_fits whole (nat_le (length whole) text_limit)) became t = subst (λ (b : Bool). RunsDisk keeps s (if_fits whole b) became t) (sym (fits_when change p k.0 saves)) fits in
    (true, subst (λ (b : Bool). RunsDisk keeps s (if_saved p change b) became t) (sym k.0) room)
