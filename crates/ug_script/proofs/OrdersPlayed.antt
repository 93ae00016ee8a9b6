-- What a script fixes of a pending save, of an order, and of its save.
use Rattle.std.proofs.Common.{◌≡◌, ℕ, ◌+◌, ◌≤◌, nat_le, arith, length, Bool, true, false, ◌||◌, List, [], ◌++◌, map, Result, Option, Some, None, refl, sym, ◌∙◌, ap, subst, append_assoc, append-nil}
use Rattle.ug_types.specs.Limits.{text_limit}
use Rattle.ug_types.specs.Principals.{Named}
use Rattle.ug_types.specs.declared.saved.Saved.{Saved}
use Rattle.ug_types.specs.declared.saved.Saved.TheVariants as saved
use Rattle.ug_sysfs.specs.World.{World}
use Rattle.ug_audit.specs.declared.entry.Entry.{Entry}
use Rattle.ug_script.specs.Play.{NameNobody, play, tells_memory}
use Rattle.ug_script.proofs.Plays.{Fixed, play_way, refused}
use Rattle.ug_script.proofs.Sweeps.{nobody_more}
use Rattle.ug_script.proofs.Wants.{memory_more}
use Rattle.ug_ruleset.specs.RuleFile.{permanent_text}
use Rattle.ug_uevent.specs.Faults.{SaidFault}
use Rattle.ug_uevent.specs.Streams.{Stream, stream_with_piece}
use Rattle.ug_uevent.specs.declared.hint.Hint as uevent
use Rattle.ug_store.specs.PlayDisk.{play_disk}
use Rattle.ug_store.specs.Scripted.{IsUnplanned, DiskWorld}
use Rattle.ug_store.specs.Store.{Ended, saving, then_disk}
use Rattle.ug_store.proofs.PlayedDisk.{play_saving_done, play_saving_faults, play_saving_sure, play_stays_told, play_then_disk}
use Rattle.ug_core.specs.Answering.{acting, asking, deed_after}
use Rattle.ug_core.specs.Changes.{changed_by, is_saved}
use Rattle.ug_core.specs.Due.{AreDueInOrder, standings_due}
use Rattle.ug_core.specs.Event.{DaemonState, if_pending, trying}
use Rattle.ug_types.specs.Events.{FitsEvent, longest_piece}
use Rattle.ug_core.specs.Hinting.{refusals}
use Rattle.ug_core.specs.Storing.{after_saving, if_fits, if_saved, stored_with, storing}
use Rattle.ug_core.specs.declared.changes.Change.{Change}
use Rattle.ug_core.specs.declared.choosing.Choice.{Choice}
use Rattle.ug_core.specs.declared.choosing.Deed.{Deed}
use Rattle.ug_types.specs.declared.event.Event.{Event}
use Rattle.ug_types.specs.declared.event.Event.TheVariants.{Sweep, Order, Hint}
use Rattle.ug_core.specs.declared.storing.Stored.{Stored}
use Rattle.ug_core.specs.declared.storing.Stored.TheVariants as stored
use Rattle.ug_script.specs.Hints.{hint_played, message_said}
use Rattle.ug_script.specs.Replay.{order_played_by, tried_by}
use Rattle.ug_script.proofs.HintsRead.{played_few, played_order, refusals_nobody, refusals_sure}
use Rattle.ug_script.proofs.Answers.{ActsSo, Asks, CanAct, StoredSo, acting_ways, asking_ways, asks_can, asks_short, is_short_deed, stored_can, stored_short, stored_so}

-- ---- a pending save

-- it doesn't want memory, nothing is tried where none is pending, and there is one fault more at most
pub record TryingSo (pending : Bool) (o : DiskWorld) (x : Option Saved × DiskWorld) : Type 0 where
  pub sure : x.0 ≡ Some saved.Memory → ⊥
  pub calm : pending ≡ false → x.0 ≡ None
  pub faults : x.1.faults ≤ o.faults + 1

pub trying_so : (d : DaemonState) (o : DiskWorld) → o.ran_out ≡ false → TryingSo d.pending o (tried_by d o)
unfolding trying
trying_so d o told = by_pending d.pending
  where
    text : List ℕ
    text = permanent_text d.sweep.judge.rules

    same_saved : (q : Saved) → Some q ≡ Some saved.Memory → q ≡ saved.Memory
    same_saved q e = cc

    by_pending : (b : Bool) → TryingSo b o (play_disk (if_pending d.sweep.judge.rules b) o)
    by_pending false = record { sure = λ e. (let none : ⊥ = cc in none); calm = λ e. refl; faults = omega arith }
    by_pending true = subst (λ (x : Option Saved × DiskWorld). TryingSo true o x) (sym (play_then_disk (saving text) (λ (q : Saved). Ended (Some q)) o)) (record {
      sure = λ e. play_saving_sure text o told (same_saved (play_disk (saving text) o).0 e);
      calm = λ e. (let none : ⊥ = cc in absurd none);
      faults = play_saving_faults text o told;
    })

-- ---- the save of an order's change

-- it doesn't want memory, it doesn't fail where nothing is planned, and there is one fault more at most
pub record StoringSo (o : DiskWorld) (x : Stored × DiskWorld) : Type 0 where
  pub sure : x.0 ≡ stored.Memory → ⊥
  pub calm : IsUnplanned o → (count : ℕ) → x.0 ≡ stored.Failed count → ⊥
  pub faults : x.1.faults ≤ o.faults + 1

without_save : (o : DiskWorld) (became : Stored) → (became ≡ stored.Memory → ⊥) → ((count : ℕ) → became ≡ stored.Failed count → ⊥) → StoringSo o (became, o)
without_save o became sure calm = record { sure = sure; calm = λ none count e. calm count e; faults = omega arith }

saved_memory : (q : Saved) → after_saving q ≡ stored.Memory → q ≡ saved.Memory
saved_memory saved.Done e = let none : ⊥ = cc in absurd none
saved_memory (saved.Failed count) e = let none : ⊥ = cc in absurd none
saved_memory saved.Memory e = refl

done_unfailed : (q : Saved) (count : ℕ) → q ≡ saved.Done → after_saving q ≡ stored.Failed count → ⊥
done_unfailed saved.Done count e f = let none : ⊥ = cc in none
done_unfailed (saved.Failed n) count e f = let none : ⊥ = cc in none
done_unfailed saved.Memory count e f = let none : ⊥ = cc in none

save_so : (text : List ℕ) (o : DiskWorld) → o.ran_out ≡ false → StoringSo o (play_disk (then_disk (saving text) (λ (q : Saved). Ended (after_saving q))) o)
save_so text o told = subst (λ (x : Stored × DiskWorld). StoringSo o x) (sym (play_then_disk (saving text) (λ (q : Saved). Ended (after_saving q)) o)) (record {
  sure = λ e. play_saving_sure text o told (saved_memory (play_disk (saving text) o).0 e);
  calm = λ none count e. done_unfailed (play_disk (saving text) o).0 count (play_saving_done text o told none) e;
  faults = play_saving_faults text o told;
})

pub storing_so : (d : DaemonState) (change : Option Change) (o : DiskWorld) → o.ran_out ≡ false → StoringSo o (play_disk (storing d change) o)
unfolding storing
storing_so d None o told = without_save o stored.NotNeeded (λ e. (let none : ⊥ = cc in none)) (λ count e. (let none : ⊥ = cc in none))
storing_so d (Some change) o told = by_saved (is_saved change d.sweep.judge.rules)
  where
    text : List ℕ
    text = permanent_text (changed_by change d.sweep.judge).rules

    by_fits : (b : Bool) → StoringSo o (play_disk (if_fits text b) o)
    by_fits true = save_so text o told
    by_fits false = without_save o stored.TooLong (λ e. (let none : ⊥ = cc in none)) (λ count e. (let none : ⊥ = cc in none))

    by_saved : (b : Bool) → StoringSo o (play_disk (if_saved d.sweep.judge change b) o)
    by_saved true = by_fits (nat_le (length text) text_limit)
    by_saved false = without_save o stored.NotNeeded (λ e. (let none : ⊥ = cc in none)) (λ count e. (let none : ⊥ = cc in none))

-- ---- the order

-- Entries are added that name nobody and tell no want of memory. The numbers are as they were, but for the id of one rule at most.
pub record AnsweredSo (d a : DaemonState) : Type 0 where
  pub rest : List Entry
  pub entries : a.sweep.entries ≡ d.sweep.entries ++ rest
  pub wants : tells_memory rest ≡ false
  pub nobody : NameNobody rest
  pub event : a.event ≡ d.event
  pub next : a.sweep.next ≡ d.sweep.next
  pub ids : a.sweep.judge.next ≤ d.sweep.judge.next + 1

module _ (who : Named) (line : List ℕ) (d : DaemonState) (w : World) (o : DiskWorld) where
  abbrev Chosen : Choice
  Chosen = (play (asking d who line) w).0

  abbrev Behind : World
  Behind = (play (asking d who line) w).1

  abbrev Became : Stored
  Became = (play_disk (storing d Chosen.change) o).0

  abbrev Kept : DaemonState
  Kept = stored_with Became Chosen.change d

  abbrev Done : Deed
  Done = deed_after Became Chosen.deed

  asked : Fixed (Asks d.sweep.standings) w Chosen
  asked = play_way (Asks d.sweep.standings) (asking d who line) w (asking_ways d who line)

  silent : o.ran_out ≡ false → is_short_deed Done ≡ false
  silent told = stored_short Became Chosen.deed (storing_so d Chosen.change o told).sure (asks_short d.sweep.standings true asked.made Chosen asked.so ∙ asked.sure)

  can : CanAct Kept.sweep.standings Done
  can = subst (λ (ss : List _). CanAct ss Done) (sym (stored_so d Chosen.change Became).standings) (stored_can d.sweep.standings Became Chosen.deed (asks_can d.sweep.standings true asked.made Chosen asked.so))

  acted : Fixed (ActsSo Kept (is_short_deed Done)) Behind (play (acting who Kept Done) Behind).0
  acted = play_way (ActsSo Kept (is_short_deed Done)) (acting who Kept Done) Behind (acting_ways who Kept Done can)

  order_so : o.ran_out ≡ false → AnsweredSo d (play (acting who Kept Done) Behind).0
  order_so told =
      let x : StoredSo d Kept = stored_so d Chosen.change Became in
      let y = acted.so in
      let below = x.ids in
      let same = y.ids in
      record {
        rest = x.rest ++ y.rest;
        entries = y.entries ∙ ap (λ (es : List Entry). es ++ y.rest) x.entries ∙ append_assoc d.sweep.entries x.rest y.rest;
        wants = memory_more x.rest y.rest ∙ ap (λ (b : Bool). b || tells_memory y.rest) x.wants ∙ y.wants ∙ ap (λ (b : Bool). b || refused true acted.made) (silent told) ∙ acted.sure;
        nobody = nobody_more x.rest y.rest x.nobody y.nobody;
        event = y.event ∙ x.event;
        next = y.next ∙ x.next;
        ids = omega (arith, below, same);
      }

  order_due : (play (acting who Kept Done) Behind).0.due ≡ d.due
  order_due = acted.so.due ∙ (stored_so d Chosen.change Became).due

  order_stream : (play (acting who Kept Done) Behind).0.stream ≡ d.stream
  order_stream = acted.so.stream ∙ (stored_so d Chosen.change Became).stream

  order_saved : o.ran_out ≡ false → IsUnplanned o → d.pending ≡ false → (play (acting who Kept Done) Behind).0.pending ≡ false
  order_saved told none saved = acted.so.pending ∙ kept_saved Became Chosen.change ((storing_so d Chosen.change o told).calm none) saved
    where
      kept_saved : (became : Stored) (change : Option Change) → ((count : ℕ) → became ≡ stored.Failed count → ⊥) → d.pending ≡ false → (stored_with became change d).pending ≡ false
      kept_saved stored.NotNeeded None calm e = e
      kept_saved stored.NotNeeded (Some change) calm e = e
      kept_saved stored.Done None calm e = refl
      kept_saved stored.Done (Some change) calm e = refl
      kept_saved (stored.Failed count) change calm e = absurd (calm count refl)
      kept_saved stored.TooLong change calm e = e
      kept_saved stored.Memory change calm e = e

-- what is done behind the save can be done
pub order_can : (who : Named) (line : List ℕ) (d : DaemonState) (w : World) (o : DiskWorld) → o.ran_out ≡ false → CanAct (stored_with (play_disk (storing d (play (asking d who line) w).0.change) o).0 (play (asking d who line) w).0.change d).sweep.standings (deed_after (play_disk (storing d (play (asking d who line) w).0.change) o).0 (play (asking d who line) w).0.deed)
order_can who line d w o told = can who line d w o

hint_so : (piece : List ℕ) (d : DaemonState) → AnsweredSo d (hint_played piece d)
hint_so piece d =
    let answers : List (Result uevent.Hint SaidFault) = map message_said (stream_with_piece d.stream piece).messages in
    record {
      rest = refusals answers;
      entries = refl;
      wants = refusals_sure answers;
      nobody = refusals_nobody answers;
      event = refl;
      next = refl;
      ids = omega arith;
    }

pub answered_so : (event : Event) (d : DaemonState) (w : World) (o : DiskWorld) → o.ran_out ≡ false → AnsweredSo d (order_played_by event d w o).daemon
answered_so (Sweep moment) d w o told = record { rest = []; entries = sym (append-nil d.sweep.entries); wants = refl; nobody = refl; event = refl; next = refl; ids = omega arith }
answered_so (Hint moment piece) d w o told = hint_so piece d
answered_so (Order moment who line) d w o told = order_so who line d w o told

-- where names are due, they are in order
pub answered_order : (event : Event) (d : DaemonState) (w : World) (o : DiskWorld) → AreDueInOrder d.due → AreDueInOrder (order_played_by event d w o).daemon.due
answered_order (Sweep moment) d w o order = order
answered_order (Hint moment piece) d w o order = played_order piece d
answered_order (Order moment who line) d w o order = subst AreDueInOrder (sym (order_due who line d w o)) order

-- no message is left
pub answered_stream : (event : Event) (d : DaemonState) (w : World) (o : DiskWorld) → d.stream.messages ≡ [] → (order_played_by event d w o).daemon.stream.messages ≡ []
answered_stream (Sweep moment) d w o none = none
answered_stream (Hint moment piece) d w o none = refl
answered_stream (Order moment who line) d w o none = ap (λ (s : Stream). s.messages) (order_stream who line d w o) ∙ none

-- and there are few of the names
pub answered_few : (event : Event) (d : DaemonState) (w : World) (o : DiskWorld) → FitsEvent event → d.stream.messages ≡ [] → d.due ≡ None → standings_due (order_played_by event d w o).daemon.due ≤ longest_piece
answered_few (Sweep moment) d w o fits none settled = let no = ap standings_due settled in omega (arith, no)
answered_few (Hint moment piece) d w o fits none settled = played_few piece d fits none
answered_few (Order moment who line) d w o fits none settled = let no = ap standings_due (order_due who line d w o ∙ settled) in omega (arith, no)

-- where nothing is planned, no save is left pending
pub answered_saved : (event : Event) (d : DaemonState) (w : World) (o : DiskWorld) → o.ran_out ≡ false → IsUnplanned o → d.pending ≡ false → (order_played_by event d w o).daemon.pending ≡ false
answered_saved (Sweep moment) d w o told none saved = saved
answered_saved (Hint moment piece) d w o told none saved = saved
answered_saved (Order moment who line) d w o told none saved = order_saved who line d w o told none saved

-- ---- their worlds

pub answered_told : (event : Event) (d : DaemonState) (w : World) (o : DiskWorld) → o.ran_out ≡ false → (order_played_by event d w o).disk.ran_out ≡ false
answered_told (Sweep moment) d w o told = told
answered_told (Hint moment piece) d w o told = told
answered_told (Order moment who line) d w o told = play_stays_told (storing d (play (asking d who line) w).0.change) o told

pub answered_faults : (event : Event) (d : DaemonState) (w : World) (o : DiskWorld) → o.ran_out ≡ false → (order_played_by event d w o).disk.faults ≤ o.faults + 1
answered_faults (Sweep moment) d w o told = omega arith
answered_faults (Hint moment piece) d w o told = omega arith
answered_faults (Order moment who line) d w o told = (storing_so d (play (asking d who line) w).0.change o told).faults
