-- An event as the world and the disk fix it.
use Rattle.std.proofs.Common.{◌≡◌, ℕ, nat_le, length, Bool, true, false, ◌||◌, List, [], ◌∷◌, ◌++◌, Option, Some, None, Result, ◌⊎◌, ◌∙◌, ap, sym, subst, refl, inl, inr, append_assoc, append-nil, cond}
use Rattle.std.proofs.lemmas.Bool.{both_ways}
use Rattle.ug_types.specs.Limits.{text_limit}
use Rattle.ug_types.specs.Principals.{Named}
use Rattle.ug_types.specs.declared.rule.Rule as types
use Rattle.ug_types.specs.declared.saved.Saved.{Saved}
use Rattle.ug_types.specs.declared.saved.Saved.TheVariants as saved
use Rattle.ug_types.specs.declared.verdict.Moment.{Moment}
use Rattle.ug_table.specs.declared.standing.Standing.{Standing}
use Rattle.ug_sysfs.specs.World.{World, Gives, event_begun, over}
use Rattle.ug_kernel.specs.Tree.{Runs}
use Rattle.ug_audit.specs.declared.entry.Entry.{Entry}
use Rattle.ug_audit.specs.declared.entry.Entry.TheVariants as entry
use Rattle.ug_audit.specs.declared.entry.Fault.TheVariants as fault
use Rattle.ug_script.specs.Play.{play, tells_memory, IsPlayed}
use Rattle.ug_script.proofs.Plays.{TellsWant, played, refused, runs_out}
use Rattle.ug_script.proofs.Wants.{memory_more}
use Rattle.ug_kernel.proofs.Ways.{Went, ways_more, ways_run}
use Rattle.ug_ruleset.specs.RuleFile.{CanSave, permanent_text}
use Rattle.ug_store.specs.PlayDisk.{play_disk}
use Rattle.ug_store.specs.Scripted.{DiskWorld, MemKeeps, coming_up}
use Rattle.ug_store.specs.Store.{RunsDisk, saving}
use Rattle.ug_store.specs.declared.mishap.Planned.{Planned}
use Rattle.ug_store.proofs.PlayedDisk.{then_ends}
use Rattle.ug_store.proofs.Playing.{EndsByMemory, is_played, run_stays_out, saving_ends}
use Rattle.ug_core.specs.Answering.{acting, asking, deed_after}
use Rattle.ug_core.specs.Changes.{changed_by, is_saved}
use Rattle.ug_core.specs.Event.{DaemonState, handling, has_numbers, if_pending, ready, trying}
use Rattle.ug_core.specs.Hinting.{refusals}
use Rattle.ug_core.specs.Laws.{RunsAnswer, RunsOrder}
use Rattle.ug_core.specs.Stops.{IsReadable}
use Rattle.ug_core.specs.Storing.{after_saving, if_fits, if_saved, stored_with, storing}
use Rattle.ug_core.specs.declared.changes.Change.{Change}
use Rattle.ug_core.specs.declared.choosing.Choice.{Choice}
use Rattle.ug_core.specs.declared.choosing.Deed.{Deed}
use Rattle.ug_types.specs.declared.event.Event as daemon
use Rattle.ug_types.specs.declared.event.Event.TheVariants.{Sweep, Order, Hint}
use Rattle.ug_core.specs.declared.storing.Stored.{Stored}
use Rattle.ug_core.specs.declared.storing.Stored.TheVariants as stored
use Rattle.ug_command_io.specs.Runs.{Steps, Closes}
use Rattle.ug_command_io.specs.declared.machine.Ran.{Ran}
use Rattle.ug_command_io.specs.declared.machine.Ran.TheVariants.{Done, Bad, TooLong, SinkFailed, Memory}
use Rattle.ug_command_io.specs.Fold.{LineRefusal, LineOutcome, Writes, Refused}
use Rattle.ug_steps.specs.declared.step.Step.TheVariants.{Event}
use Rattle.ug_script.specs.Journal.{happened_from}
use Rattle.ug_script.specs.Hints.{hint_played}
use Rattle.ug_script.specs.LinesRead.{StepReads}
use Rattle.ug_script.specs.Setup.{SetupState, StartsOn, after_reading, rules_disk, rules_from, first_started}
use Rattle.ug_script.specs.Script.{Script, Phase, SettingUp, Unstarted, Started, daemon_by, disk_by, has_started, fits_file}
use Rattle.ug_script.specs.Replay.{IsEventPlayed, OrderPlayed, Played, order_played_by, answered_from, begun_again, begun_disk, came_of, finished, event_by, event_from, event_taken, halted, in_script, stop_in, stopped_of, stopped_text, swept_behind, swept_over, tells, tried_by, with_choice, with_played, with_store}
use Rattle.ug_script.proofs.Halts.{halted_told}
use Rattle.ug_script.proofs.HintsRead.{takes_played}
use Rattle.ug_script.proofs.Answers.{ActsSo, Asks, CanAct, SweepsSo, acting_ways, asking_ways, asks_can, asks_short, handling_ways, is_short_deed, short_asks, stored_can, stored_so}

-- ---- an event that was handled is as its script fixes it, unless it tells want of memory or a world has run out

-- the entries of another state are these and some more
abbrev GoesOn : DaemonState → DaemonState → Type 0
GoesOn d e = (rest : List Entry) × (e.sweep.entries ≡ d.sweep.entries ++ rest)

-- which then tell want of memory, where these did
tells_on : (d e : DaemonState) → GoesOn d e → tells d → tells e
tells_on d e more h = ap (λ (es : List Entry). tells_memory es) more.1 ∙ memory_more d.sweep.entries more.0 ∙ ap (λ (b : Bool). b || tells_memory more.0) h

or_last : (x y : Bool) → y ≡ true → (x || y) ≡ true
or_last true y h = refl
or_last false y h = h

-- where what was added does
tells_added : (d e : DaemonState) (rest : List Entry) → e.sweep.entries ≡ d.sweep.entries ++ rest → tells_memory rest ≡ true → tells e
tells_added d e rest is h = ap (λ (es : List Entry). tells_memory es) is ∙ memory_more d.sweep.entries rest ∙ or_last (tells_memory d.sweep.entries) (tells_memory rest) h

-- ---- the trees of the disk end where memory is wanting

trying_ends : (d : DaemonState) → EndsByMemory (λ (t : Option Saved). t ≡ Some saved.Memory) (trying d)
unfolding trying
trying_ends d = by_pending d.pending
  where
    by_pending : (b : Bool) → EndsByMemory (λ (t : Option Saved). t ≡ Some saved.Memory) (if_pending d.sweep.judge.rules b)
    by_pending true = ((Some saved.Memory, refl, refl), then_ends (λ (q : Saved). q ≡ saved.Memory) (λ (t : Option Saved). t ≡ Some saved.Memory) (saving (permanent_text d.sweep.judge.rules)) (λ (q : Saved). Some q) (λ q e. ap (λ (x : Saved). Some x) e) (saving_ends (permanent_text d.sweep.judge.rules)))
    by_pending false = tt

storing_ends : (d : DaemonState) (change : Option Change) → EndsByMemory (λ (b : Stored). b ≡ stored.Memory) (storing d change)
unfolding storing
storing_ends d None = tt
storing_ends d (Some change) = ((stored.Memory, refl, refl), by_saved (is_saved change d.sweep.judge.rules))
  where
    text : List ℕ
    text = permanent_text (changed_by change d.sweep.judge).rules

    by_fits : (b : Bool) → EndsByMemory (λ (x : Stored). x ≡ stored.Memory) (if_fits text b)
    by_fits true = then_ends (λ (q : Saved). q ≡ saved.Memory) (λ (x : Stored). x ≡ stored.Memory) (saving text) after_saving (λ q e. ap after_saving e) (saving_ends text)
    by_fits false = tt

    by_saved : (b : Bool) → EndsByMemory (λ (x : Stored). x ≡ stored.Memory) (if_saved d.sweep.judge change b)
    by_saved true = by_fits (nat_le (length text) text_limit)
    by_saved false = tt

-- nothing is saved for no change
none_stored : (d : DaemonState) (change : Option Change) (o : DiskWorld) (became : Stored) (p : DiskWorld) → change ≡ None → RunsDisk MemKeeps o (storing d change) became p → became ≡ stored.NotNeeded
unfolding storing
none_stored d None o became p e h = h.0
none_stored d (Some change) o became p e h = let none : ⊥ = cc in absurd none

-- ---- the order, or the piece

-- that a piece was dropped for want of memory
abbrev dropped : Entry
dropped = entry.UnsettledAll fault.Memory

-- it came to what is fixed, or that is told, or a world has run out
abbrev IsOrderPlayed : daemon.Event → DaemonState → World → DiskWorld → DaemonState → Stored → World → DiskWorld → Type 0
IsOrderPlayed event d w o a became m p = (record { daemon = a; became = became; world = m; disk = p } ≡ order_played_by event d w o) ⊎ (tells a ⊎ ((m.ran_out ≡ true) ⊎ (p.ran_out ≡ true)))

same_order : {a b : DaemonState} {m n : World} (became : Stored) (p : DiskWorld) → a ≡ b → m ≡ n → ◌≡◌ {A = OrderPlayed} (record { daemon = a; became = became; world = m; disk = p }) (record { daemon = b; became = became; world = n; disk = p })
same_order {b = b} {m = m} became p x y = ap (λ (v : DaemonState). record { daemon = v; became = became; world = m; disk = p }) x ∙ ap (λ (v : World). record { daemon = b; became = became; world = v; disk = p }) y

same_saved : {b c : Stored} {p q : DiskWorld} → b ≡ c → p ≡ q → ◌≡◌ {A = Stored × DiskWorld} (b, p) (c, q)
same_saved {c = c} {p = p} x y = ap (λ (v : Stored). (v, p)) x ∙ ap (λ (v : DiskWorld). (c, v)) y

same_chosen : {b c : Choice} {u v : World} → b ≡ c → u ≡ v → ◌≡◌ {A = Choice × World} (b, u) (c, v)
same_chosen {c = c} {u = u} x y = ap (λ (z : Choice). (z, u)) x ∙ ap (λ (z : World). (c, z)) y

module _ (who : Named) (line : List ℕ) (d : DaemonState) (s : World) (o : DiskWorld) (became : Stored) (m : World) (p : DiskWorld) (a : DaemonState) (moment : Moment) (h : RunsOrder Gives MemKeeps who line s o d became m p a) where
  asked : Went Gives (Asks d.sweep.standings) s h.choice h.behind
  asked = ways_run Gives (Asks d.sweep.standings) (asking d who line) s h.choice h.behind (asking_ways d who line) h.asks

  abbrev Kept : DaemonState
  Kept = stored_with became h.choice.change d

  abbrev Acted : Deed
  Acted = deed_after became h.choice.deed

  can : CanAct Kept.sweep.standings Acted
  can = subst (λ (ss : List Standing). CanAct ss Acted) (sym (stored_so d h.choice.change became).standings) (stored_can d.sweep.standings became h.choice.deed (asks_can d.sweep.standings asked.granted asked.made h.choice asked.so))

  acted : Went Gives (ActsSo Kept (is_short_deed Acted)) h.behind a m
  acted = ways_run Gives (ActsSo Kept (is_short_deed Acted)) (acting who Kept Acted) h.behind a m (acting_ways who Kept Acted can) h.acts

  order_goes_on : GoesOn d a
  order_goes_on =
      let x = stored_so d h.choice.change became in
      (x.rest ++ acted.so.rest, acted.so.entries ∙ ap (λ (es : List Entry). es ++ acted.so.rest) x.entries ∙ append_assoc d.sweep.entries x.rest acted.so.rest)

  -- what is done tells want of memory
  told_short : is_short_deed Acted ≡ true → tells a
  told_short short = tells_added Kept a acted.so.rest acted.so.entries (acted.so.wants ∙ ap (λ (b : Bool). b || refused acted.granted acted.made) short)

  abbrev It : Type 0
  It = IsOrderPlayed (Order moment who line) d s o a became m p

  short_choice : is_short_deed h.choice.deed ≡ true → It
  short_choice short =
      let none : h.choice.change ≡ None = short_asks d.sweep.standings asked.granted asked.made h.choice asked.so short in
      let is : became ≡ stored.NotNeeded = none_stored d h.choice.change o became p none h.stores in
      inr (inl (told_short (ap (λ (b : Stored). is_short_deed (deed_after b h.choice.deed)) is ∙ short)))

  acts_played : IsPlayed tells (acting who Kept Acted) h.behind a m
  acts_played = played tells (acting who Kept Acted) h.behind a m (ways_more (ActsSo Kept (is_short_deed Acted)) (TellsWant tells) (acting who Kept Acted) (λ ok ms e so f. tells_added Kept e so.rest so.entries (so.wants ∙ or_last (is_short_deed Acted) (refused ok ms) f)) (acting_ways who Kept Acted can)) h.acts

  all_played : h.choice ≡ (play (asking d who line) s).0 → h.behind ≡ (play (asking d who line) s).1 → became ≡ (play_disk (storing d h.choice.change) o).0 → p ≡ (play_disk (storing d h.choice.change) o).1 → a ≡ (play (acting who Kept Acted) h.behind).0 → m ≡ (play (acting who Kept Acted) h.behind).1 → It
  all_played i j k l x y =
      let done : ◌≡◌ {A = OrderPlayed} (record { daemon = a; became = became; world = m; disk = p }) (with_store who d (h.choice, h.behind) (became, p)) = same_order became p x y in
      let saved : ◌≡◌ {A = OrderPlayed} (with_store who d (h.choice, h.behind) (became, p)) (with_choice who d o (h.choice, h.behind)) = ap (λ (v : Stored × DiskWorld). with_store who d (h.choice, h.behind) v) (same_saved k l) in
      let chosen : ◌≡◌ {A = OrderPlayed} (with_choice who d o (h.choice, h.behind)) (order_played_by (Order moment who line) d s o) = ap (λ (v : Choice × World). with_choice who d o v) (same_chosen i j) in
      inl (done ∙ saved ∙ chosen)

  by_acts : h.choice ≡ (play (asking d who line) s).0 → h.behind ≡ (play (asking d who line) s).1 → became ≡ (play_disk (storing d h.choice.change) o).0 → p ≡ (play_disk (storing d h.choice.change) o).1 → It
  by_acts i j k l = elim acts_played [
    | inl x ↦ all_played i j k l x.0 x.1
    | inr y ↦ elim y [
      | inl z ↦ inr (inl z)
      | inr z ↦ inr (inr (inl z))
    ]
  ]

  by_stores : h.choice ≡ (play (asking d who line) s).0 → h.behind ≡ (play (asking d who line) s).1 → It
  by_stores i j = elim (is_played (λ (b : Stored). b ≡ stored.Memory) (storing d h.choice.change) o became p (storing_ends d h.choice.change) h.stores) [
    | inl x ↦ by_acts i j x.0 x.1
    | inr y ↦ elim y [
      | inl z ↦ inr (inl (told_short (ap (λ (b : Stored). is_short_deed (deed_after b h.choice.deed)) z)))
      | inr z ↦ inr (inr (inr z))
    ]
  ]

  by_asks : It
  by_asks = elim (played (λ (x : Choice). is_short_deed x.deed ≡ true) (asking d who line) s h.choice h.behind (ways_more (Asks d.sweep.standings) (TellsWant (λ (x : Choice). is_short_deed x.deed ≡ true)) (asking d who line) (λ ok ms x so f. asks_short d.sweep.standings ok ms x so ∙ f) (asking_ways d who line)) h.asks) [
    | inl x ↦ by_stores x.0 x.1
    | inr y ↦ elim y [
      | inl z ↦ short_choice z
      | inr z ↦ inr (inr (inl (runs_out (acting who Kept Acted) h.behind a m h.acts z)))
    ]
  ]

order_played : (event : daemon.Event) (d : DaemonState) (s : World) (o : DiskWorld) (became : Stored) (m : World) (p : DiskWorld) (a : DaemonState) → RunsAnswer Gives MemKeeps event s o d became m p a → IsOrderPlayed event d s o a became m p
order_played (Sweep moment) d s o became m p a h = inl (
    same_order became p h.3 h.0
    ∙ ap (λ (v : DiskWorld). record { daemon = d; became = became; world = s; disk = v }) h.1
    ∙ ap (λ (v : Stored). record { daemon = d; became = v; world = s; disk = o }) h.2
    )
order_played (Hint moment piece) d s o became m p a h = elim h.3 [
  | inl takes ↦ inl (
      same_order became p (takes_played piece d a takes) h.0
      ∙ ap (λ (v : DiskWorld). record { daemon = hint_played piece d; became = became; world = s; disk = v }) h.1
      ∙ ap (λ (v : Stored). record { daemon = hint_played piece d; became = v; world = s; disk = o }) h.2
      )
  | inr drops ↦ inr (inl (tells_added d a (dropped ∷ []) (ap (λ (x : DaemonState). x.sweep.entries) drops) refl))
]
order_played (Order moment who line) d s o became m p a h = by_asks who line d s o became m p a moment h

answer_goes_on : (event : daemon.Event) (d : DaemonState) (s : World) (o : DiskWorld) (became : Stored) (m : World) (p : DiskWorld) (a : DaemonState) → RunsAnswer Gives MemKeeps event s o d became m p a → GoesOn d a
answer_goes_on (Sweep moment) d s o became m p a h = ([], ap (λ (x : DaemonState). x.sweep.entries) h.3 ∙ sym (append-nil d.sweep.entries))
answer_goes_on (Hint moment piece) d s o became m p a h = elim h.3 [
  | inl takes ↦ (refusals takes.answers, ap (λ (x : DaemonState). x.sweep.entries) takes.state)
  | inr drops ↦ (dropped ∷ [], ap (λ (x : DaemonState). x.sweep.entries) drops)
]
answer_goes_on (Order moment who line) d s o became m p a h = order_goes_on who line d s o became m p a moment h

-- a disk that has run out before the order stays so
answer_stays_out : (event : daemon.Event) (d : DaemonState) (s : World) (o : DiskWorld) (became : Stored) (m : World) (p : DiskWorld) (a : DaemonState) → RunsAnswer Gives MemKeeps event s o d became m p a → o.ran_out ≡ true → p.ran_out ≡ true
answer_stays_out (Sweep moment) d s o became m p a h out = ap (λ (v : DiskWorld). v.ran_out) h.1 ∙ out
answer_stays_out (Hint moment piece) d s o became m p a h out = ap (λ (v : DiskWorld). v.ran_out) h.1 ∙ out
answer_stays_out (Order moment who line) d s o became m p a h out = run_stays_out (storing d h.choice.change) o became p h.stores out

-- ---- the event

short_try : (event : daemon.Event) (d : DaemonState) (tried : Option Saved) → tried ≡ Some saved.Memory → tells (ready event tried d)
short_try (Sweep moment) d tried e = subst (λ (t : Option Saved). tells (ready (Sweep moment) t d)) (sym e) refl
short_try (Hint moment piece) d tried e = subst (λ (t : Option Saved). tells (ready (Hint moment piece) t d)) (sym e) refl
short_try (Order moment who line) d tried e = subst (λ (t : Option Saved). tells (ready (Order moment who line) t d)) (sym e) refl

same_played : {e f : DaemonState} {t u : World} (p : DiskWorld) → e ≡ f → t ≡ u → ◌≡◌ {A = Played} (record { daemon = e; world = t; disk = p }) (record { daemon = f; world = u; disk = p })
same_played {f = f} {t = t} p x y = ap (λ (v : DaemonState). record { daemon = v; world = t; disk = p }) x ∙ ap (λ (v : World). record { daemon = f; world = v; disk = p }) y

module _ (event : daemon.Event) (d : DaemonState) (s : World) (o : DiskWorld) (tried : Option Saved) (q : DiskWorld) (tries : RunsDisk MemKeeps o (trying d) tried q) (became : Stored) (m : World) (p : DiskWorld) (a : DaemonState) (h : RunsAnswer Gives MemKeeps event s q (ready event tried d) became m p a) (v : World) (resumed : v ≡ halted p m) (e : DaemonState) (t : World) (k : Runs Gives v (handling a) e t) where
  swept_on : GoesOn a e
  swept_on = let x = (ways_run Gives (SweepsSo a) (handling a) v e t (handling_ways a) k).so in (x.rest, x.entries)

  abbrev Fixed_so : World → Type 0
  Fixed_so w = IsEventPlayed event d w o e t p

  by_sweep : (w : World) → s ≡ halted q (event_begun w) → tried ≡ (tried_by d o).0 → q ≡ (tried_by d o).1 → record { daemon = a; became = became; world = m; disk = p } ≡ order_played_by event (ready event tried d) s q → Fixed_so w
  by_sweep w same i j answered = elim (played tells (handling a) v e t (ways_more (SweepsSo a) (TellsWant tells) (handling a) (λ ok ms x so f. tells_added a x so.rest so.entries (so.wants ∙ f)) (handling_ways a)) k) [
    | inl x ↦
        let swept : ◌≡◌ {A = Played} (record { daemon = e; world = t; disk = p }) (swept_behind (record { daemon = a; became = became; world = m; disk = p })) = same_played p x.0 x.1 ∙ ap (λ (u : World). swept_over p (play (handling a) u)) resumed in
        let order : ◌≡◌ {A = Played} (swept_behind (record { daemon = a; became = became; world = m; disk = p })) (swept_behind (order_played_by event (ready event tried d) s q)) = ap (λ (u : OrderPlayed). swept_behind u) answered in
        let begins : ◌≡◌ {A = Played} (swept_behind (order_played_by event (ready event tried d) s q)) (swept_behind (order_played_by event (ready event tried d) (halted q (event_begun w)) q)) = ap (λ (u : World). swept_behind (order_played_by event (ready event tried d) u q)) same in
        let tries : ◌≡◌ {A = Played} (swept_behind (order_played_by event (ready event tried d) (halted q (event_begun w)) q)) (event_from event d w o) = ap (λ (u : Option Saved × DiskWorld). swept_behind (order_played_by event (ready event u.0 d) (halted u.1 (event_begun w)) u.1)) (same_tried i j) in
        inl (swept ∙ order ∙ begins ∙ tries)
    | inr y ↦ elim y [
      | inl z ↦ inr (inl z)
      | inr z ↦ inr (inr (inl z))
    ]
  ]
    where
      same_tried : {x : Option Saved} {y : DiskWorld} {z : Option Saved × DiskWorld} → x ≡ z.0 → y ≡ z.1 → ◌≡◌ {A = Option Saved × DiskWorld} (x, y) z
      same_tried {y = y} {z = z} u v = ap (λ (n : Option Saved). (n, y)) u ∙ ap (λ (n : DiskWorld). (z.0, n)) v

  by_order : (w : World) → s ≡ halted q (event_begun w) → tried ≡ (tried_by d o).0 → q ≡ (tried_by d o).1 → Fixed_so w
  by_order w same i j = elim (order_played event (ready event tried d) s q became m p a h) [
    | inl x ↦ by_sweep w same i j x
    | inr y ↦ elim y [
      | inl z ↦ inr (inl (tells_on a e swept_on z))
      | inr z ↦ elim z [
        | inl out ↦ inr (inr (inl (runs_out (handling a) v e t k (ap (λ (u : World). u.ran_out) resumed ∙ halted_told p m ∙ out))))
        | inr out ↦ inr (inr (inr out))
      ]
    ]
  ]

  by_try : (w : World) → s ≡ halted q (event_begun w) → Fixed_so w
  by_try w same = elim (is_played (λ (x : Option Saved). x ≡ Some saved.Memory) (trying d) o tried q (trying_ends d) tries) [
    | inl x ↦ by_order w same x.0 x.1
    | inr y ↦ elim y [
      | inl z ↦ inr (inl (tells_on a e swept_on (tells_on (ready event tried d) a (answer_goes_on event (ready event tried d) s q became m p a h) (short_try event d tried z))))
      | inr z ↦ inr (inr (inr (answer_stays_out event (ready event tried d) s q became m p a h z)))
    ]
  ]

  -- where nothing tells want of memory, the save of its order became what is fixed
  became_so : (w : World) → s ≡ halted q (event_begun w) → tells_memory e.sweep.entries ≡ false → t.ran_out ≡ false → p.ran_out ≡ false → became ≡ (answered_from event d w o).became
  became_so w same quiet ran kept = elim (is_played (λ (x : Option Saved). x ≡ Some saved.Memory) (trying d) o tried q (trying_ends d) tries) [
    | inl x ↦ elim (order_played event (ready event tried d) s q became m p a h) [
      | inl y ↦
          ap (λ (u : OrderPlayed). u.became) y
          ∙ ap (λ (u : World). (order_played_by event (ready event tried d) u q).became) same
          ∙ ap (λ (u : Option Saved). (order_played_by event (ready event u d) (halted q (event_begun w)) q).became) x.0
          ∙ ap (λ (u : DiskWorld). (order_played_by event (ready event (tried_by d o).0 d) (halted u (event_begun w)) u).became) x.1
      | inr y ↦ elim y [
        | inl z ↦ absurd (both_ways (tells_memory e.sweep.entries) quiet (tells_on a e swept_on z))
        | inr z ↦ elim z [
          | inl out ↦ absurd (both_ways t.ran_out ran (runs_out (handling a) v e t k (ap (λ (u : World). u.ran_out) resumed ∙ halted_told p m ∙ out)))
          | inr out ↦ absurd (both_ways p.ran_out kept out)
        ]
      ]
    ]
    | inr y ↦ elim y [
      | inl z ↦ absurd (both_ways (tells_memory e.sweep.entries) quiet (tells_on a e swept_on (tells_on (ready event tried d) a (answer_goes_on event (ready event tried d) s q became m p a h) (short_try event d tried z))))
      | inr z ↦ absurd (both_ways p.ran_out kept (answer_stays_out event (ready event tried d) s q became m p a h z))
    ]
  ]

pub event_played : (event : daemon.Event) (d : DaemonState) (w s : World) (o : DiskWorld) (tried : Option Saved) (q : DiskWorld) → RunsDisk MemKeeps o (trying d) tried q → (became : Stored) (m : World) (p : DiskWorld) (a : DaemonState) → RunsAnswer Gives MemKeeps event s q (ready event tried d) became m p a → (v : World) → v ≡ halted p m → (e : DaemonState) (t : World) → Runs Gives v (handling a) e t → (start : World) → start ≡ event_begun w → s ≡ halted q start → IsEventPlayed event d w o e t p
event_played event d w s o tried q tries became m p a h v resumed e t k start begins same = by_try event d s o tried q tries became m p a h v resumed e t k w (same ∙ ap (λ (u : World). halted q u) begins)

pub event_became : (event : daemon.Event) (d : DaemonState) (w s : World) (o : DiskWorld) (tried : Option Saved) (q : DiskWorld) → RunsDisk MemKeeps o (trying d) tried q → (became : Stored) (m : World) (p : DiskWorld) (a : DaemonState) → RunsAnswer Gives MemKeeps event s q (ready event tried d) became m p a → (v : World) → v ≡ halted p m → (e : DaemonState) (t : World) → Runs Gives v (handling a) e t → (start : World) → start ≡ event_begun w → s ≡ halted q start
    → tells_memory e.sweep.entries ≡ false → t.ran_out ≡ false → p.ran_out ≡ false → became ≡ (answered_from event d w o).became
event_became event d w s o tried q tries became m p a h v resumed e t k start begins same = became_so event d s o tried q tries became m p a h v resumed e t k w (same ∙ ap (λ (u : World). halted q u) begins)

-- ---- its text

-- where there was no want of memory, it came to what is fixed
pub event_fixed : (event : daemon.Event) (d : DaemonState) (w : World) (o : DiskWorld) (e : DaemonState) (t : World) (p : DiskWorld) → IsEventPlayed event d w o e t p → tells_memory e.sweep.entries ≡ false → t.ran_out ≡ false → p.ran_out ≡ false → ◌≡◌ {A = Played} (record { daemon = e; world = t; disk = p }) (event_from event d w o)
event_fixed event d w o e t p played quiet ran kept = elim played [
  | inl q ↦ q
  | inr x ↦ elim x [
    | inl y ↦ absurd (both_ways (tells_memory e.sweep.entries) quiet y)
    | inr y ↦ elim y [
      | inl z ↦ absurd (both_ways t.ran_out ran z)
      | inr z ↦ absurd (both_ways p.ran_out kept z)
    ]
  ]
]

-- its text was written, or it was cut
pub text_steps : (text : List ℕ) (next new : Played) (before after : Option (List ℕ)) (r : Ran) → new ≡ next → Closes (Some text) before after r → Steps (Writes text next) new before after r
text_steps text next new before after Done same c = (same, c)
text_steps text next new before after Bad same c = c
text_steps text next new before after TooLong same c = c
text_steps text next new before after SinkFailed same c = (same, c)
text_steps text next new before after Memory same c = c

-- the call that wanted memory wrote nothing
pub memory_steps : {M : Type 0} (o : LineOutcome M) (new : M) (held : Option (List ℕ)) → Steps o new held held Memory
memory_steps (Writes text next) new None = tt
memory_steps (Writes text next) new (Some bytes) = refl
memory_steps (Refused fault next) new None = tt
memory_steps (Refused fault next) new (Some bytes) = refl

-- an event in which the machine stopped, and the daemon that is started behind it
pub stopped_steps : (setup : SetupState) (call : ℕ) (p : Played) (d : DaemonState) (w : World) (o : DiskWorld) (before after : Option (List ℕ)) (r : Ran) → w ≡ over p.world → StartsOn setup p.daemon.event (coming_up p.disk) d → o ≡ after_reading (coming_up p.disk) → Closes (Some (stopped_text call p.daemon.sweep.entries)) before after r → Steps (stopped_of setup call p (rules_from setup.folder.count p.disk.disk.text)) (record { daemon = d; world = w; disk = o }) before after r
stopped_steps setup call p d w o before after r ended starts read c =
    let next : Played = begun_again setup starts.rules p in
    let same : ◌≡◌ {A = Played} (record { daemon = d; world = w; disk = o }) next =
    ap (λ (x : DaemonState). record { daemon = x; world = w; disk = o }) starts.is
    ∙ ap (λ (x : World). record { daemon = next.daemon; world = x; disk = o }) ended
    ∙ ap (λ (x : DiskWorld). record { daemon = next.daemon; world = over p.world; disk = x }) read in
    subst (λ (x : Result (List types.Rule) LineRefusal). Steps (stopped_of setup call p x) (record { daemon = d; world = w; disk = o }) before after r) (sym starts.loaded) (text_steps (stopped_text call p.daemon.sweep.entries) next (record { daemon = d; world = w; disk = o }) before after r same c)

came_by : (setup : SetupState) (plan : List Planned) (p x : Played) (d : DaemonState) (w : World) (o : DiskWorld) (before after : Option (List ℕ)) (r : Ran) → p ≡ x → Steps (came_of setup plan p) (record { daemon = d; world = w; disk = o }) before after r → Steps (came_of setup plan x) (record { daemon = d; world = w; disk = o }) before after r
came_by setup plan p x d w o before after r same h = subst (λ (y : Played). Steps (came_of setup plan y) (record { daemon = d; world = w; disk = o }) before after r) same h

-- an event in which it stopped, or didn't
pub came_stopped : (setup : SetupState) (plan : List Planned) (p x : Played) (call : ℕ) (d : DaemonState) (w : World) (o : DiskWorld) (before after : Option (List ℕ)) (r : Ran) → p ≡ x → p.disk.stopped ≡ true → call ≡ stop_in plan p → w ≡ over p.world → Steps (stopped_of setup call p (rules_from setup.folder.count p.disk.disk.text)) (record { daemon = d; world = over p.world; disk = o }) before after r → Steps (came_of setup plan x) (record { daemon = d; world = w; disk = o }) before after r
came_stopped setup plan p x call d w o before after r same stopped at ended h =
    let there : Steps (stopped_of setup (stop_in plan p) p (rules_from setup.folder.count p.disk.disk.text)) (record { daemon = d; world = over p.world; disk = o }) before after r = subst (λ (n : ℕ). Steps (stopped_of setup n p (rules_from setup.folder.count p.disk.disk.text)) (record { daemon = d; world = over p.world; disk = o }) before after r) at h in
    let came : Steps (came_of setup plan p) (record { daemon = d; world = over p.world; disk = o }) before after r = subst (λ (b : Bool). Steps (cond b (stopped_of setup (stop_in plan p) p (rules_from setup.folder.count p.disk.disk.text)) (finished setup.ifaces p)) (record { daemon = d; world = over p.world; disk = o }) before after r) (sym stopped) there in
    came_by setup plan p x d w o before after r same (subst (λ (v : World). Steps (came_of setup plan p) (record { daemon = d; world = v; disk = o }) before after r) (sym ended) came)

pub came_ended : (setup : SetupState) (plan : List Planned) (p x : Played) (d : DaemonState) (w : World) (o : DiskWorld) (before after : Option (List ℕ)) (r : Ran) → p ≡ x → p.disk.stopped ≡ false → Steps (finished setup.ifaces p) (record { daemon = d; world = w; disk = o }) before after r → Steps (came_of setup plan x) (record { daemon = d; world = w; disk = o }) before after r
came_ended setup plan p x d w o before after r same stopped h =
    came_by setup plan p x d w o before after r same
    (subst (λ (b : Bool). Steps (cond b (stopped_of setup (stop_in plan p) p (rules_from setup.folder.count p.disk.disk.text)) (finished setup.ifaces p)) (record { daemon = d; world = w; disk = o }) before after r) (sym stopped) h)

abbrev place : Script → Played → Option Script × World
place s p = (Some (with_played s p), p.world)

in_script_steps : (s : Script) (o : LineOutcome Played) (p : Played) (before after : Option (List ℕ)) (r : Ran) → Steps o p before after r → Steps (in_script s o) (place s p) before after r
in_script_steps s (Writes text next) p before after Done h = (ap (place s) h.0, h.1)
in_script_steps s (Writes text next) p before after Bad h = h
in_script_steps s (Writes text next) p before after TooLong h = h
in_script_steps s (Writes text next) p before after SinkFailed h = (ap (place s) h.0, h.1)
in_script_steps s (Writes text next) p before after Memory h = h
in_script_steps s (Refused fault next) p before after Done h = h
in_script_steps s (Refused fault next) p before after Bad h = (h.0, ap (place s) h.1, h.2)
in_script_steps s (Refused fault next) p before after TooLong h = (h.0, ap (place s) h.1, h.2)
in_script_steps s (Refused fault next) p before after SinkFailed h = h
in_script_steps s (Refused fault next) p before after Memory h = h

-- a later event
pub later_steps : (event : daemon.Event) (setup : SetupState) (d : DaemonState) (o : DiskWorld) (plan left : List Planned) (w : World) (p : Played) (before after : Option (List ℕ)) (r : Ran) → left ≡ [] → Steps (event_by setup event plan d w o) p before after r → Steps (event_taken event (record { setup = setup; phase = Started d o; planned = plan }) w) (Some (record { setup = setup; phase = Started p.daemon p.disk; planned = left }), p.world) before after r
later_steps event setup d o plan left w p before after r none h = subst (λ (ps : List Planned). Steps (event_taken event (record { setup = setup; phase = Started d o; planned = plan }) w) (Some (record { setup = setup; phase = Started p.daemon p.disk; planned = ps }), p.world) before after r) (sym none) (in_script_steps (record { setup = setup; phase = Started d o; planned = plan }) (event_by setup event plan d w o) p before after r h)

-- the first event
first_by : (event : daemon.Event) (setup : SetupState) (phase : Phase) (plan : List Planned) (w : World) (p : Played) (before after : Option (List ℕ)) (r : Ran) → has_started phase ≡ false → fits_file setup ≡ true → Steps (event_by setup event plan (first_started setup) w (rules_disk setup)) p before after r → Steps (event_taken event (record { setup = setup; phase = phase; planned = plan }) w) (Some (record { setup = setup; phase = Started p.daemon p.disk; planned = [] }), p.world) before after r
first_by event setup SettingUp plan w p before after r new fits h = rw fits (in_script_steps (record { setup = setup; phase = SettingUp; planned = plan }) (event_by setup event plan (first_started setup) w (rules_disk setup)) p before after r h)
first_by event setup Unstarted plan w p before after r new fits h = rw fits (in_script_steps (record { setup = setup; phase = Unstarted; planned = plan }) (event_by setup event plan (first_started setup) w (rules_disk setup)) p before after r h)
first_by event setup (Started e disk) plan w p before after r new fits h = let none : ⊥ = cc in absurd none

pub first_steps : (event : daemon.Event) (setup : SetupState) (phase : Phase) (d : DaemonState) (disk : DiskWorld) (plan left : List Planned) (w : World) (p : Played) (before after : Option (List ℕ)) (r : Ran) → has_started phase ≡ false → fits_file setup ≡ true → d ≡ first_started setup → disk ≡ rules_disk setup → left ≡ [] → Steps (event_by setup event plan d w disk) p before after r → Steps (event_taken event (record { setup = setup; phase = phase; planned = plan }) w) (Some (record { setup = setup; phase = Started p.daemon p.disk; planned = left }), p.world) before after r
first_steps event setup phase d disk plan left w p before after r new fits is on none h = subst (λ (ps : List Planned). Steps (event_taken event (record { setup = setup; phase = phase; planned = plan }) w) (Some (record { setup = setup; phase = Started p.daemon p.disk; planned = ps }), p.world) before after r) (sym none) (first_by event setup phase plan w p before after r new fits (subst (λ (o : DiskWorld). Steps (event_by setup event plan (first_started setup) w o) p before after r) on (subst (λ (x : DaemonState). Steps (event_by setup event plan x w disk) p before after r) is h)))

-- the numbers that it has room for are those of the daemon that it starts
pub first_numbers : (setup : SetupState) (phase : Phase) (d : DaemonState) (o : DiskWorld) (w : World) → has_started phase ≡ false → d ≡ first_started setup → o ≡ rules_disk setup → has_numbers d w.faults o.faults ≡ false → has_numbers (daemon_by setup phase) w.faults (disk_by setup phase).faults ≡ false
first_numbers setup SettingUp d o w new is on h = subst (λ (x : DiskWorld). has_numbers (first_started setup) w.faults x.faults ≡ false) on (subst (λ (x : DaemonState). has_numbers x w.faults o.faults ≡ false) is h)
first_numbers setup Unstarted d o w new is on h = subst (λ (x : DiskWorld). has_numbers (first_started setup) w.faults x.faults ≡ false) on (subst (λ (x : DaemonState). has_numbers x w.faults o.faults ≡ false) is h)
first_numbers setup (Started e disk) d o w new is on h = let none : ⊥ = cc in absurd none

-- and so its rules can be read again
pub first_reads : (event : daemon.Event) (setup : SetupState) (phase : Phase) (d : DaemonState) (o : DiskWorld) (plan : List Planned) (w : World) → has_started phase ≡ false → d ≡ first_started setup → o ≡ rules_disk setup → CanSave setup.rules → IsReadable (happened_from event d w (begun_disk plan o)) → StepReads (Some (Event event)) (record { setup = setup; phase = phase; planned = plan }) w
first_reads event setup phase d o plan w new is on saves h = (λ n. saves, by_phase phase new)
  where
    this : IsReadable (happened_from event (first_started setup) w (begun_disk plan (rules_disk setup)))
    this = subst (λ (x : DiskWorld). IsReadable (happened_from event (first_started setup) w (begun_disk plan x))) on (subst (λ (x : DaemonState). IsReadable (happened_from event x w (begun_disk plan o))) is h)

    by_phase : (phase : Phase) → has_started phase ≡ false → IsReadable (happened_from event (daemon_by setup phase) w (begun_disk plan (disk_by setup phase)))
    by_phase SettingUp new = this
    by_phase Unstarted new = this
    by_phase (Started e disk) new = let none : ⊥ = cc in absurd none
