-- With which rules the rule file of a script stands behind its events.
use Rattle.std.proofs.Common.{◌≡◌, ℕ, Bool, true, false, List, [], ◌∷◌, ◌++◌, Option, Some, None, Ok, Err, ◌⊎◌, inl, inr, refl, sym, ◌∙◌, ap, subst, append_assoc}
use Rattle.std.proofs.lemmas.Option.{same_Some}
use Rattle.ug_types.specs.Elements.{Has}
use Rattle.ug_types.proofs.Elements.{has_cases}
use Rattle.ug_types.specs.declared.refusal.Refusal.TheVariants as refusal
use Rattle.ug_types.specs.declared.rule.Rule.{Rule}
use Rattle.ug_types.specs.declared.saved.Saved.{Saved}
use Rattle.ug_types.specs.declared.saved.Saved.TheVariants as saved
use Rattle.ug_rule.proofs.Cases.{one_outcome}
use Rattle.ug_rule.specs.Files.{file_read}
use Rattle.ug_sysfs.specs.World.{World, Gives, event_begun}
use Rattle.ug_audit.specs.declared.entry.Entry.TheVariants as entry
use Rattle.ug_script.specs.Play.{play}
use Rattle.ug_script.proofs.Plays.{play_runs}
use Rattle.ug_policy.specs.declared.entry.RuleEntry.{RuleEntry}
use Rattle.ug_ruleset.specs.RuleFile.{IsRuleFile, IsSaveable, permanent_rules, permanent_text}
use Rattle.ug_ruleset.proofs.Readable.{saved_file}
use Rattle.ug_store.specs.Disk.{Disk, Images, IsImage, Texts}
use Rattle.ug_store.specs.DiskCalls.{DiskCall, DiskTold, Load, Write_new, Sync_new, Swap}
use Rattle.ug_store.specs.MemLaw.{mem_did}
use Rattle.ug_store.specs.PlayDisk.{play_disk}
use Rattle.ug_store.specs.Scripted.{DiskWorld, MemKeeps, answering_on, disk_answer, disk_told, failed_reply, fate_at, refused_on, reply_by, with_number, world_after}
use Rattle.ug_store.specs.Store.{Ended, AskDisk, DiskProg, DiskRoom}
use Rattle.ug_store.proofs.PlayedDisk.{play_runs_disk}
use Rattle.ug_core.specs.Answering.{acting, asking, deed_after}
use Rattle.ug_core.specs.Chain.{Happened}
use Rattle.ug_core.specs.Changes.{changed_by, is_saved, text_if_saved}
use Rattle.ug_core.specs.Durable.{IsKept, KeepsFile, KeepsRules, as_list, change_in, text_of_change, texts_of, unsure_behind, unsure_with}
use Rattle.ug_core.specs.Event.{DaemonState, handling, ready, trying}
use Rattle.ug_core.specs.Policy.{Judging}
use Rattle.ug_core.specs.Stops.{AllReadable, IsReadable, NoneSaved}
use Rattle.ug_core.specs.Storing.{WritesRules, stored_with, storing}
use Rattle.ug_core.specs.declared.changes.Change.{Change}
use Rattle.ug_core.specs.declared.changes.Change.TheVariants.{Rules as Edits, Set}
use Rattle.ug_types.specs.declared.event.Event.{Event}
use Rattle.ug_types.specs.declared.event.Event.TheVariants.{Sweep, Order, Hint}
use Rattle.ug_core.specs.declared.storing.Stored.{Stored}
use Rattle.ug_core.specs.declared.storing.Stored.TheVariants as stored
use Rattle.ug_core.proofs.Kept.{kept_event}
use Rattle.ug_core.proofs.Plain.{SameRules, event_keeps_rules}
use Rattle.ug_script.specs.Journal.{CarriesOn}
use Rattle.ug_script.specs.Replay.{OrderPlayed, order_played_by, answered_from, event_from, halted, swept_behind, tried_by}
use Rattle.ug_script.proofs.Lawful.{event_adds, event_disk, order_runs, start_of}

-- ---- what a stop may leave changes no answer and no text

abbrev with_left : DiskWorld → Images → List Images → DiskWorld
with_left o left past = record o { disk = record o.disk { left = left; past = past } }

abbrev IsButForLeft : DiskWorld → DiskWorld → Type 0
IsButForLeft o p = (left : Images) × (past : List Images) × (p ≡ with_left o left past)

abbrev answer_if : Bool → (call : DiskCall) → DiskWorld → DiskTold call × DiskWorld
answer_if true call w = answering_on call (failed_reply call) (refused_on call w)
answer_if false call w = answering_on call (reply_by call (fate_at call (with_number call w)) w.disk) (world_after call (with_number call w))

-- two results alike, but for what a stop may leave
abbrev SameResult : {R : Type 0} → R × DiskWorld → R × DiskWorld → Type 0
SameResult x y = (y.0 ≡ x.0) × IsButForLeft x.1 y.1

answer_alike : (b : Bool) (call : DiskCall) (o : DiskWorld) (left : Images) (past : List Images) → SameResult (answer_if b call o) (answer_if b call (with_left o left past))
answer_alike true Load o left past = (refl, (left, past, refl))
answer_alike true (Write_new text) o left past = (refl, (left, past, refl))
answer_alike true Sync_new o left past = (refl, (left, past, refl))
answer_alike true Swap o left past = (refl, (left, past, refl))
answer_alike false Load o left past = let n = (answer_if false Load (with_left o left past)).1.disk in (refl, (n.left, n.past, refl))
answer_alike false (Write_new text) o left past = let n = (answer_if false (Write_new text) (with_left o left past)).1.disk in (refl, (n.left, n.past, refl))
answer_alike false Sync_new o left past = let n = (answer_if false Sync_new (with_left o left past)).1.disk in (refl, (n.left, n.past, refl))
answer_alike false Swap o left past = let n = (answer_if false Swap (with_left o left past)).1.disk in (refl, (n.left, n.past, refl))

answer_is : (call : DiskCall) (o : DiskWorld) → disk_answer o call ≡ answer_if o.ran_out call o
answer_is call o = by_out o.ran_out
  where
    by_out : (b : Bool) → disk_answer (record o { ran_out = b }) call ≡ answer_if b call (record o { ran_out = b })
    by_out true = refl
    by_out false = refl

call_alike : (call : DiskCall) (o : DiskWorld) (left : Images) (past : List Images) → SameResult (disk_answer o call) (disk_answer (with_left o left past) call)
call_alike call o left past =
    subst (λ (x : DiskTold call × DiskWorld). SameResult x (disk_answer (with_left o left past) call)) (sym (answer_is call o))
    (subst (λ (y : DiskTold call × DiskWorld). SameResult (answer_if o.ran_out call o) y) (sym (answer_is call (with_left o left past))) (answer_alike o.ran_out call o left past))

played_alike : {R : Type 0} (tree : DiskProg R) (o : DiskWorld) (left : Images) (past : List Images) → SameResult (play_disk tree o) (play_disk tree (with_left o left past))
played_alike (Ended value) o left past = (refl, (left, past, refl))
played_alike {R} (AskDisk call next) o left past =
    let x = disk_answer o call in
    let k = call_alike call o left past in
    let rest : SameResult (play_disk (next x.0) x.1) (play_disk (next x.0) (with_left x.1 k.1.0 k.1.1)) = played_alike (next x.0) x.1 k.1.0 k.1.1 in
    subst (λ (w : DiskWorld). SameResult (play_disk (next x.0) x.1) (play_disk (next (disk_answer (with_left o left past) call).0) w)) (sym k.1.2)
    (subst (λ (a : DiskTold call). SameResult (play_disk (next x.0) x.1) (play_disk (next a) (with_left x.1 k.1.0 k.1.1))) (sym k.0) rest)
played_alike (DiskRoom next) o left past = played_alike (next true) o left past

-- an order, but for its disk
record SameOrder (a b : OrderPlayed) : Type 0 where
  became : b.became ≡ a.became
  daemon : b.daemon ≡ a.daemon
  world : b.world ≡ a.world
  disk : IsButForLeft a.disk b.disk

order_alike : (event : Event) (d : DaemonState) (w : World) (o : DiskWorld) (left : Images) (past : List Images) → SameOrder (order_played_by event d w o) (order_played_by event d w (with_left o left past))
order_alike (Sweep moment) d w o left past = record { became = refl; daemon = refl; world = refl; disk = (left, past, refl) }
order_alike (Hint moment piece) d w o left past = record { became = refl; daemon = refl; world = refl; disk = (left, past, refl) }
order_alike (Order moment who line) d w o left past =
    let c = play (asking d who line) w in
    let k = played_alike (storing d c.0.change) o left past in
    let done = λ (b : Stored). play (acting who (stored_with b c.0.change d) (deed_after b c.0.deed)) c.1 in
    record {
      became = k.0;
      daemon = ap (λ (b : Stored). (done b).0) k.0;
      world = ap (λ (b : Stored). (done b).1) k.0;
      disk = k.1;
    }

-- a whole event
record SameEvent (event : Event) (d : DaemonState) (w : World) (o p : DiskWorld) : Type 0 where
  tried : (tried_by d p).0 ≡ (tried_by d o).0
  became : (answered_from event d w p).became ≡ (answered_from event d w o).became
  daemon : (event_from event d w p).daemon ≡ (event_from event d w o).daemon
  disk : IsButForLeft (event_from event d w o).disk (event_from event d w p).disk

-- where the machine has stopped doesn't depend on what that leaves
swept_alike : (a b : OrderPlayed) → SameOrder a b → (swept_behind b).daemon ≡ (swept_behind a).daemon
swept_alike a b h =
    ap (λ (o : DiskWorld). (play (handling b.daemon) (halted o b.world)).0) h.disk.2
    ∙ ap (λ (w : World). (play (handling b.daemon) (halted a.disk w)).0) h.world
    ∙ ap (λ (d : DaemonState). (play (handling d) (halted a.disk a.world)).0) h.daemon

event_alike : (event : Event) (d : DaemonState) (w : World) (o : DiskWorld) (left : Images) (past : List Images) → SameEvent event d w o (with_left o left past)
event_alike event d w o left past =
    let p : DiskWorld = with_left o left past in
    let x = tried_by d o in
    let y = tried_by d p in
    let k : SameResult x y = played_alike (trying d) o left past in
    let begins : OrderPlayed = order_played_by event (ready event x.0 d) (halted x.1 (event_begun w)) (with_left x.1 k.1.0 k.1.1) in
    let same : answered_from event d w p ≡ begins =
    ap (λ (t : Option Saved). order_played_by event (ready event t d) (halted y.1 (event_begun w)) y.1) k.0
    ∙ ap (λ (q : DiskWorld). order_played_by event (ready event x.0 d) (halted q (event_begun w)) q) k.1.2 in
    let order : SameOrder (answered_from event d w o) (answered_from event d w p) = subst (λ (b : OrderPlayed). SameOrder (answered_from event d w o) b) (sym same) (order_alike event (ready event x.0 d) (halted x.1 (event_begun w)) x.1 k.1.0 k.1.1) in
    record {
      tried = k.0;
      became = order.became;
      daemon = swept_alike (answered_from event d w o) (answered_from event d w p) order;
      disk = order.disk;
    }

-- ---- the text behind an event

-- It is that of the permanent rules; or that before it, or the one that the order was to save, where these aren't sure.
pub record TextLeft (event : Event) (tried : Option Saved) (became : Stored) (d : DaemonState) (before : List ℕ) (e : DaemonState) (after : List ℕ) : Type 0 where
  pub left : (after ≡ permanent_text e.sweep.judge.rules) ⊎ Has (unsure_behind became (texts_of event d) (unsure_with tried (before ∷ []))) after
  pub same : ((became ≡ stored.Done) → ⊥) → permanent_text e.sweep.judge.rules ≡ permanent_text d.sweep.judge.rules
  pub failed : (count : ℕ) → became ≡ stored.Failed count → Has e.sweep.entries (entry.Reply (Err (refusal.StoreFault count)))

text_left : (event : Event) (tried : Option Saved) (became : Stored) (d : DaemonState) (m : Disk) (e : DaemonState) (n : Disk) → m.left ≡ Texts (m.text ∷ []) → KeepsRules (texts_of event d) tried became d (m.text ∷ []) m e n → TextLeft event tried became d m.text e n.text
text_left event tried became d m e n only k = record {
  left = k.left n.text (k.possible (subst (λ (i : Images). IsImage i m.text) (sym only) (inl refl)));
  same = k.same;
  failed = k.failed;
}

pub event_file : (event : Event) (d : DaemonState) (w : World) (o : DiskWorld) → KeepsFile disk_told event (tried_by d o).0 (answered_from event d w o).became o d (event_from event d w o).disk (event_from event d w o).daemon
event_file event d w o =
    let tried = (tried_by d o).0 in
    let q : DiskWorld = (tried_by d o).1 in
    let a = answered_from event d w o in
    let p = event_from event d w o in
    let m : World = halted a.disk a.world in
    let swept : SameRules a.daemon.sweep.judge p.daemon.sweep = event_keeps_rules Gives m a.daemon p.daemon p.world (play_runs (handling a.daemon) m) in
    let adds = event_adds event d w o in
    kept_event Gives MemKeeps disk_told mem_did event (start_of d w o) o d tried q a.became a.world a.disk a.daemon p.daemon adds.0 (play_runs_disk (trying d) o) (order_runs event (ready event tried d) (start_of d w o) q) adds.1 swept

-- a disk that hasn't run out is told
told_disk_now : (o : DiskWorld) → o.ran_out ≡ false → disk_told o ≡ Some o.disk
told_disk_now o none = rw none refl

pub event_text : (event : Event) (d : DaemonState) (w : World) (o : DiskWorld) → o.ran_out ≡ false → TextLeft event (tried_by d o).0 (answered_from event d w o).became d o.disk.text (event_from event d w o).daemon (event_from event d w o).disk.disk.text
event_text event d w o ran =
    let text : List ℕ = o.disk.text in
    -- from the same disk, of which a stop leaves its text alone
    let p : DiskWorld = with_left o (Texts (text ∷ [])) o.disk.past in
    let alike : SameEvent event d w o p = event_alike event d w o (Texts (text ∷ [])) o.disk.past in
    let n : Disk = (event_from event d w p).disk.disk in
    let x = event_file event d w p n (told_disk_now (event_from event d w p).disk (event_disk event d w p ran)) in
    let same : p.disk ≡ x.0 = same_Some p.disk x.0 (sym (told_disk_now p ran) ∙ x.1) in
    let kept : IsKept d.sweep.judge.rules (text ∷ []) x.0.left = λ c i. inr (subst (λ (m : Disk). IsImage m.left c) (sym same) i) in
    let k : KeepsRules (texts_of event d) (tried_by d p).0 (answered_from event d w p).became d (text ∷ []) p.disk (event_from event d w p).daemon n = subst (λ (m : Disk). KeepsRules (texts_of event d) (tried_by d p).0 (answered_from event d w p).became d (text ∷ []) m (event_from event d w p).daemon n) (sym same) (x.2 (text ∷ []) kept) in
    let left : TextLeft event (tried_by d p).0 (answered_from event d w p).became d text (event_from event d w p).daemon n.text = text_left event (tried_by d p).0 (answered_from event d w p).became d p.disk (event_from event d w p).daemon n refl k in
    subst (λ (t : Option Saved). TextLeft event t (answered_from event d w o).became d text (event_from event d w o).daemon (event_from event d w o).disk.disk.text) alike.tried
    (subst (λ (b : Stored). TextLeft event (tried_by d p).0 b d text (event_from event d w o).daemon (event_from event d w o).disk.disk.text) alike.became
    (subst (λ (e : DaemonState). TextLeft event (tried_by d p).0 (answered_from event d w p).became d text e (event_from event d w o).disk.disk.text) alike.daemon
    (subst (λ (c : List ℕ). TextLeft event (tried_by d p).0 (answered_from event d w p).became d text (event_from event d w p).daemon c) (ap (λ (q : DiskWorld). q.disk.text) alike.disk.2) left)))

-- ---- the rules behind an event

-- the text is a rule file, with rules that carry the run on
pub record StandsBehind (hs : List Happened) (e : DaemonState) (text : List ℕ) : Type 0 where
  pub rules : List Rule
  pub file : IsRuleFile rules text
  pub carries : CarriesOn rules hs e

-- where these are in force, and their text is the rule file's
pub in_force_stands : (hs : List Happened) (e : DaemonState) (text : List ℕ) (rules : List Rule) → IsRuleFile rules text → rules ≡ permanent_rules e.sweep.judge.rules → StandsBehind hs e text
in_force_stands hs e text rules file is = record { rules = rules; file = file; carries = inl is }

-- a text has one list of rules
pub stands_so : (hs : List Happened) (e : DaemonState) (text : List ℕ) (rules : List Rule) → file_read text ≡ Ok rules → StandsBehind hs e text → CarriesOn rules hs e
stands_so hs e text rules reads h = subst (λ (rs : List Rule). CarriesOn rs hs e) (one_outcome (file_read text) h.rules rules h.file.reads reads) h.carries

same_permanent : (es fs : List RuleEntry) → IsSaveable es → IsSaveable fs → permanent_text es ≡ permanent_text fs → permanent_rules es ≡ permanent_rules fs
same_permanent es fs a b e = one_outcome (file_read (permanent_text fs)) (permanent_rules es) (permanent_rules fs) (ap (λ (t : List ℕ). file_read t) (sym e) ∙ a.reads) b.reads

-- what an order failed to save is a rule file, with the rules after just this order
asked_file : (o : Option Change) (p : Judging) (count : ℕ) → WritesRules (stored.Failed count) o p → (c : List ℕ) → Has (text_of_change o p) c → (change : Change) × (o ≡ Some change) × IsRuleFile (permanent_rules (changed_by change p).rules) c
asked_file None p count writes c has = absurd has
asked_file (Some (Edits edit)) p count writes c has = (Edits edit, refl, by_saved (is_saved (Edits edit) p.rules) has)
  where
    by_saved : (b : Bool) → Has (as_list (text_if_saved b (Edits edit) p)) c → IsRuleFile (permanent_rules (changed_by (Edits edit) p).rules) c
    by_saved true (inl is) = subst (λ (t : List ℕ). IsRuleFile (permanent_rules (changed_by (Edits edit) p).rules) t) is (saved_file (permanent_rules (changed_by (Edits edit) p).rules) (writes refl))
    by_saved true (inr none) = absurd none
    by_saved false none = absurd none
asked_file (Some (Set set)) p count writes c has = absurd has

texts_asked : (event : Event) (d : DaemonState) → texts_of event d ≡ text_of_change (change_in event d) d.sweep.judge
texts_asked (Sweep moment) d = refl
texts_asked (Hint moment piece) d = refl
texts_asked (Order moment who line) d = refl

-- a pending save that was done leaves nothing unsure
tried_undone : (tried : Option Saved) (before c : List ℕ) → Has (unsure_with tried (before ∷ [])) c → (before ≡ c) × ((tried ≡ Some saved.Done) → ⊥)
tried_undone None before c (inl is) = (is, λ e. let none : ⊥ = cc in none)
tried_undone None before c (inr none) = absurd none
tried_undone (Some saved.Done) before c h = absurd h
tried_undone (Some (saved.Failed count)) before c (inl is) = (is, λ e. let none : ⊥ = cc in none)
tried_undone (Some (saved.Failed count)) before c (inr none) = absurd none
tried_undone (Some saved.Memory) before c (inl is) = (is, λ e. let none : ⊥ = cc in none)
tried_undone (Some saved.Memory) before c (inr none) = absurd none

-- it is the text before it, and no save was done, or what its order failed to save
abbrev IsUnsure : Stored → Option Saved → List (List ℕ) → List ℕ → List ℕ → Type 0
IsUnsure became tried texts before c = ((before ≡ c) × ((tried ≡ Some saved.Done) → ⊥) × ((became ≡ stored.Done) → ⊥)) ⊎ ((count : ℕ) × (became ≡ stored.Failed count) × Has texts c)

unsure_so : (became : Stored) (tried : Option Saved) (texts : List (List ℕ)) (before c : List ℕ) → Has (unsure_behind became texts (unsure_with tried (before ∷ []))) c → IsUnsure became tried texts before c
unsure_so stored.NotNeeded tried texts before c h = let k = tried_undone tried before c h in inl (k.0, k.1, λ e. let none : ⊥ = cc in none)
unsure_so stored.Done tried texts before c h = absurd h
unsure_so (stored.Failed count) tried texts before c h = elim (has_cases texts (unsure_with tried (before ∷ [])) c h) [
  | inl a ↦ inr (count, refl, a)
  | inr b ↦ let k = tried_undone tried before c b in inl (k.0, k.1, λ e. let none : ⊥ = cc in none)
]
unsure_so stored.TooLong tried texts before c h = let k = tried_undone tried before c h in inl (k.0, k.1, λ e. let none : ⊥ = cc in none)
unsure_so stored.Memory tried texts before c h = let k = tried_undone tried before c h in inl (k.0, k.1, λ e. let none : ⊥ = cc in none)

unsaved_more : (hs : List Happened) (h : Happened) → NoneSaved hs → ((h.tried ≡ Some saved.Done) → ⊥) → ((h.became ≡ stored.Done) → ⊥) → NoneSaved (hs ++ h ∷ [])
unsaved_more [] h none a b = (a, b, tt)
unsaved_more (g ∷ hs) h none a b = (none.0, none.1, unsaved_more hs h none.2 a b)

module _ (hs : List Happened) (h : Happened) (reads : IsReadable h) where
  same_rules : permanent_text h.after.sweep.judge.rules ≡ permanent_text h.before.sweep.judge.rules → permanent_rules h.after.sweep.judge.rules ≡ permanent_rules h.before.sweep.judge.rules
  same_rules e = same_permanent h.after.sweep.judge.rules h.before.sweep.judge.rules reads.after reads.before e

  -- where no save was done, what carried the run on still does
  still_carries : (rules : List Rule) → permanent_rules h.after.sweep.judge.rules ≡ permanent_rules h.before.sweep.judge.rules → ((h.tried ≡ Some saved.Done) → ⊥) → ((h.became ≡ stored.Done) → ⊥) → CarriesOn rules hs h.before → CarriesOn rules (hs ++ h ∷ []) h.after
  still_carries rules same untried unsaved (inl is) = inl (is ∙ sym same)
  still_carries rules same untried unsaved (inr u) = inr (record {
    earlier = u.earlier;
    event = u.event;
    later = u.later ++ h ∷ [];
    in_run = ap (λ (x : List Happened). x ++ h ∷ []) u.in_run ∙ append_assoc u.earlier (u.event ∷ u.later) (h ∷ []);
    change = u.change;
    asks = u.asks;
    count = u.count;
    failed = u.failed;
    told = u.told;
    none = unsaved_more u.later h u.none untried unsaved;
    base = u.base ∙ sym same;
    is = u.is;
  })

  pub event_stands : (before after : List ℕ) → TextLeft h.event h.tried h.became h.before before h.after after → StandsBehind hs h.before before → StandsBehind (hs ++ h ∷ []) h.after after
  event_stands before after t s = elim t.left [
    | inl is ↦ in_force_stands (hs ++ h ∷ []) h.after after (permanent_rules h.after.sweep.judge.rules) (subst (λ (c : List ℕ). IsRuleFile (permanent_rules h.after.sweep.judge.rules) c) (sym is) (saved_file (permanent_rules h.after.sweep.judge.rules) reads.after)) refl
    | inr unsure ↦ elim (unsure_so h.became h.tried (texts_of h.event h.before) before after unsure) [
      | inl old ↦ record {
        rules = s.rules;
        file = subst (λ (c : List ℕ). IsRuleFile s.rules c) old.0 s.file;
        carries = still_carries s.rules (same_rules (t.same old.2)) old.1 old.2 s.carries;
      }
      | inr new ↦
          let writes : WritesRules (stored.Failed new.0) (change_in h.event h.before) h.before.sweep.judge = subst (λ (b : Stored). WritesRules b (change_in h.event h.before) h.before.sweep.judge) new.1 reads.written in
          let x = asked_file (change_in h.event h.before) h.before.sweep.judge new.0 writes after (subst (λ (ts : List (List ℕ)). Has ts after) (texts_asked h.event h.before) new.2) in
          let unsaved : (h.became ≡ stored.Done) → ⊥ = λ e. let bad : stored.Failed new.0 ≡ stored.Done = sym new.1 ∙ e in let none : ⊥ = cc in none in
          record {
            rules = permanent_rules (changed_by x.0 h.before.sweep.judge).rules;
            file = x.2;
            carries = inr (record {
              earlier = hs;
              event = h;
              later = [];
              in_run = refl;
              change = x.0;
              asks = x.1;
              count = new.0;
              failed = new.1;
              told = t.failed new.0 new.1;
              none = tt;
              base = sym (same_rules (t.same unsaved));
              is = refl;
            });
          }
    ]
  ]

-- ---- the events of a run

pub readable_front : (hs : List Happened) (h : Happened) → AllReadable (hs ++ h ∷ []) → AllReadable hs × IsReadable h
readable_front [] h r = (tt, r.0)
readable_front (g ∷ hs) h r = let k = readable_front hs h r.1 in ((r.0, k.0), k.1)
