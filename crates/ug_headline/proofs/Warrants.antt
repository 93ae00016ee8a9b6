-- From the law of runs to the headline.
use Rattle.std.proofs.Common.{◌≡◌, ℕ, Bool, true, false, not, is_none, List, [], ◌∷◌, ◌++◌, map, Option, Some, Ok, refl, sym, ◌∙◌, ap, subst, inl, inr, ◌⊎◌, slice_get, append_assoc, append-nil}
use Rattle.rand_core.specs.Stream.{Stream}
use Rattle.ug_types.specs.Elements.{Has}
use Rattle.ug_types.specs.Names.{parent_of}
use Rattle.ug_types.specs.declared.event.Event.{Event}
use Rattle.ug_types.specs.declared.event.Event.TheVariants.{Order}
use Rattle.ug_types.specs.declared.record.DeviceRecord.{DeviceRecord}
use Rattle.ug_types.specs.declared.record.Judged.{Judged}
use Rattle.ug_types.specs.declared.record.Judged.TheVariants.{Good, Malformed}
use Rattle.ug_types.specs.declared.verdict.Cause.{Cause}
use Rattle.ug_types.specs.declared.verdict.Moment.{Moment}
use Rattle.ug_types.specs.declared.verdict.Target.{Target}
use Rattle.ug_types.specs.declared.verdict.Target.TheVariants as target
use Rattle.ug_types.proofs.Elements.{has_map, has_right, map_has}
use Rattle.ug_kernel.specs.declared.control.Control.TheVariants.{Authorized}
use Rattle.ug_kernel.specs.declared.control.Held.{Held}
use Rattle.ug_kernel.specs.declared.control.Write.{Write}
use Rattle.ug_kernel.specs.declared.control.Write.TheVariants as write
use Rattle.ug_kernel.specs.declared.device.Effect.{Effect}
use Rattle.ug_kernel.specs.Kernel.{Kernel}
use Rattle.ug_kernel.specs.Quiet.{Grows}
use Rattle.ug_kernel.proofs.Grow.{grows_trans, quiet_grows}
use Rattle.ug_kernel.proofs.Quiet.{moves_quiet, opened_quiet}
use Rattle.ug_audit.specs.declared.entry.Entry.{Entry}
use Rattle.ug_audit.specs.declared.entry.Entry.TheVariants as entry
use Rattle.ug_cond.specs.Judgements.{Judgement}
use Rattle.ug_cond.specs.Words.{behind}
use Rattle.ug_proto.specs.Privileges.{needs}
use Rattle.ug_proto.specs.Requests.{request_read}
use Rattle.ug_proto.specs.declared.request.Request.{Request}
use Rattle.ug_proto.specs.declared.request.Request.TheVariants as request
use Rattle.ug_store.specs.Disk.{Disk}
use Rattle.ug_table.specs.Allowed.{allowed_records}
use Rattle.ug_table.specs.Bring.{CallsFor, wants}
use Rattle.ug_table.specs.Laws.{IsDevice, IsProbed, wrote_entries}
use Rattle.ug_table.specs.declared.standing.Standing.{Standing}
use Rattle.ug_table.proofs.NamedStandings.{numbered_has}
use Rattle.ug_core.specs.declared.changes.Change.{Change}
use Rattle.ug_core.specs.Chain.{Explains, Had_effect, Had_none, Happened, IsExplained, IsPlaced, IsRun, No_write, Nothing_told, WasAsked, WasDecided, WasJudged, WasOrdered, changes_asked, journal, told_before, told_of}
use Rattle.ug_core.specs.Changes.{change_asked, changed_by}
use Rattle.ug_core.specs.Event.{DaemonState, moment_of}
use Rattle.ug_core.specs.InForce.{Decision, decision_of, decisions_in, is_ordered, decided_entry, last_decision}
use Rattle.ug_core.specs.Policy.{Judging, context_at, verdict_of}
use Rattle.ug_core.specs.Privileges.{is_granted}
use Rattle.ug_core.specs.Rulings.{CanTake, Changed, Decided, PolicyStep, Ruled, Ruling, Told, Was_changed, after_steps, at_moment, decision_by, judgements_for, ruling_answer, told_by, words_for}
use Rattle.ug_core.specs.Verdicts.{IsLater}
use Rattle.ug_core.proofs.Chained.{is_run}
use Rattle.ug_core.proofs.InForce.{last_has, or_else_none}
use Rattle.ug_core.proofs.Known.{decision_has}
use Rattle.ug_core.proofs.SoFar.{verdict_given}
use Rattle.ug_core.proofs.Verdicts.{steps_later, verdict_is}
use Rattle.ug_core.proofs.Splits.{has_at, place_of}
use Rattle.ug_headline.specs.Headline.{has_listed_all, Deed, IsWarranted, Judges, Line, Reason, Seen, TellsLog, Tells_effect, Tells_failed, Tells_none, Tells_other, Verdict, WasJudgedByRules, WasOrderedByOne, after_deeds}
use Rattle.ug_headline.specs.Seeing.{EachWriteIsWarranted, is_granted_in, is_granted_read, line_of, ordered_by, seen_of, verdict_in, verdict_read}
use Rattle.ug_headline.proofs.Devices.{judged_device, root_name}
use Rattle.ug_headline.proofs.Force.{none_since}
use Rattle.ug_headline.proofs.Growing.{GoesOn, IsIn, ToldThere, changed_within, is_in, told_there, told_within}
use Rattle.ug_headline.proofs.Reasons.{reason}
use Rattle.ug_headline.proofs.Stories.{applied_told, can_before, change_has, changes_alone, deed, deeds_seen, journal_seen, line_judged, listed_seen, map_append, of_standing, same_clock, same_stream, silent_lines, told_split}

-- a device that is allowed has a record
record HasRecord (now q : Judging) (words : ℕ) (judgements : List Judgement) (m : Moment) (beside : List DeviceRecord) (judged : Judged) (root was on : Bool) (why : Cause) : Type 0 where
  dev : DeviceRecord
  is : judged ≡ Good dev
  reason : Reason now judgements (context_at now.clock m) beside (behind words now.stream) dev root was on why

has_record : (now q : Judging) (words : ℕ) (judgements : List Judgement) → IsLater now words judgements q → (m : Moment) (beside : List DeviceRecord) (judged : Judged) (root was on : Bool) (why : Cause) → verdict_of (at_moment m q) beside judged root was on ≡ (target.Allow, why) → HasRecord now q words judgements m beside judged root was on why
has_record now q words judgements later m beside (Good dev) root was on why h = record { dev = dev; is = refl; reason = reason now q words judgements later m dev beside root was on why h }
has_record now q words judgements later m beside (Malformed kind place) root was on why h =
    let bad : target.Block ≡ target.Allow = ap (λ (p : Target × Cause). p.0) h in
    let none : ⊥ = cc in
    absurd none

-- an order that asks for a change is granted

order_granted : (access : _) (who : _) (asked : Request) (moment : Moment) (line : List ℕ) (event : Event) → event ≡ Order moment who line → request_read line ≡ Ok asked → is_granted access who (needs asked) ≡ true → is_granted_in access event ≡ true
order_granted access who asked moment line event is reads granted =
    ap (λ (e : Event). is_granted_in access e) is ∙ ap (λ (r : _). is_granted_read access who r) reads ∙ granted

change_seen : (start : Judging) (hs front : List Happened) (before : List PolicyStep) (change : Change) (w : WasAsked start hs before change) → GoesOn front w.earlier w.event → (e : Seen) × Has (map seen_of front) e × (e.change ≡ Some change) × (e.granted ≡ true)
change_seen start hs front before change w there =
    let h : Happened = w.event in
    let asks : changes_asked h.before h.event ≡ Some change =
    ap (λ (e : Event). changes_asked h.before e) w.is_order ∙ ap (λ (r : _). change_asked h.before.sweep.standings h.before.sweep.judge r) w.reads ∙ w.asks in
    (seen_of h, has_map seen_of front h (subst (λ (l : List Happened). Has l h) (sym there.in_front) (has_at w.earlier h there.later)), asks, order_granted h.before.access w.who w.asked w.moment w.line h.event w.is_order w.reads w.granted)

-- the events before one and behind it
seen_split : (hs earlier : List Happened) (h : Happened) (later : List Happened) → hs ≡ earlier ++ h ∷ later → map seen_of hs ≡ map seen_of earlier ++ seen_of h ∷ map seen_of later
seen_split hs earlier h later is = ap (λ (l : List Happened). map seen_of l) is ∙ map_append seen_of earlier (h ∷ later)

module _ (start : Judging) (hub : Option Write) (first : Kernel) (o : Option Disk) (hs : List Happened) (k : Kernel) (p : Option Disk) (e : DaemonState) (new : IsLater start 0 [] start) (run : IsRun start hub first o hs k p e) where
  -- a verdict by the rules

  amid_from : (from to : Kernel) (name : List ℕ) (held i : ℕ) (on : Bool) (x : IsProbed from to name held i on) → Grows from x.lived.probing
  amid_from from to name held i on x =
      let l = x.lived in
      grows_trans from x.first l.probing x.since
      (grows_trans x.first l.before l.probing (quiet_grows x.first l.before (moves_quiet x.first l.before l.start))
      (grows_trans l.before l.opening l.probing (quiet_grows l.before l.opening (opened_quiet name Authorized held l.before l.opening l.opened)) (quiet_grows l.opening l.probing l.reads)))

  amid_to : (from to : Kernel) (name : List ℕ) (held i : ℕ) (on : Bool) (x : IsProbed from to name held i on) → Grows x.lived.probing to
  amid_to from to name held i on x = grows_trans x.lived.probing x.last to (quiet_grows x.lived.probing x.last x.lived.end) x.until

  -- in a part of the run that has the event
  by_ruling : (front rest : List Happened) (before after : List PolicyStep) (r : Ruling) (at : run.steps ≡ before ++ Ruled r ∷ after) (x : IsPlaced start hs before k r) → hs ≡ front ++ rest → GoesOn front x.earlier x.event → (why : Cause) → ruling_answer (after_steps start before) r ≡ (target.Allow, why) → WasJudgedByRules start (map seen_of front) k r.number r.device r.name r.held why
  by_ruling front rest before after r at x cut there why said =
      let h : Happened = x.event in
      let q : Judging = after_steps start before in
      let d : Decision = decision_by q r in
      let beside : List DeviceRecord = allowed_records r.standings in
      let root : Bool = is_none (parent_of r.name) in
      let words : ℕ = words_for start before in
      let judgements : List Judgement = judgements_for start before in
      let deeds : List Deed = map deed (told_by start before) in
      let now : Judging = after_deeds deeds start in
      let later : IsLater now words judgements q =
      subst (λ (j : Judging). IsLater j words judgements q) (changes_alone start start before)
      (steps_later start before new (can_before start before (Ruled r ∷ after) (subst (λ (l : List PolicyStep). CanTake start l) at run.can))) in
      let own = has_record now q words judgements later r.moment beside r.judged root r.present r.on why said in
      let plain : is_ordered d.cause ≡ false = verdict_given (at_moment r.moment q) beside r.judged root r.present r.on in
      let told : ToldThere front (told_by start before) d =
      subst (λ (l : List Told). ToldThere front l d) (sym x.told)
      (subst (λ (l : List Happened). ToldThere l (told_before x.earlier h x.front) d) (sym there.in_front) (told_there x.earlier h there.later x.front d x.back x.in_event plain)) in
      let more : List Deed = map deed told.after in
      let known : Reason now judgements (context_at start.clock r.moment) beside (behind words start.stream) own.dev root r.present r.on why =
      subst (λ (s : Stream). Reason now judgements (context_at start.clock r.moment) beside (behind words s) own.dev root r.present r.on why) (same_stream deeds start)
      (subst (λ (c : ℕ → ℕ). Reason now judgements (context_at c r.moment) beside (behind words now.stream) own.dev root r.present r.on why) (same_clock deeds start) own.reason) in
      record {
        earlier = map seen_of x.earlier;
        event = seen_of h;
        later = map seen_of there.later;
        in_run = seen_split front x.earlier h there.later there.in_front;
        noted = (
          d.verdict,
          d.cause,
          has_map line_of h.after.sweep.entries (decided_entry d)
              (subst (λ (l : List Entry). Has l (decided_entry d)) (sym x.in_event)
              (has_right h.answered.sweep.entries (x.front ++ decided_entry d ∷ x.back) (decided_entry d) (has_at x.front (decided_entry d) x.back))),
        );
        dev = own.dev;
        device = judged_device k r.device r.name r.held own.dev (subst (λ (j : Judged). IsDevice k r.device r.name r.held j) own.is x.device);
        on = r.on;
        amid = (x.probed.lived.probing, amid_from h.kernel_answered h.kernel_after r.name r.held.0 r.device r.on x.probed, amid_to h.kernel_answered h.kernel_after r.name r.held.0 r.device r.on x.probed, x.probed.lived.alive);
        beside = beside;
        are_devices = λ y a.
            let z = of_standing r.standings y a in
            let d = x.stand.devices z.s z.has in
            (d.0, z.s.name, z.s.held, judged_device h.kernel_after d.0 z.s.name z.s.held y (subst (λ (j : Judged). IsDevice h.kernel_after d.0 z.s.name z.s.held j) z.judged d.1));
        before = deeds;
        after = more;
        in_order = deeds_seen front ∙ ap (λ (l : List Told). map deed l) told.at ∙ map_append deed (told_by start before) (Decided d ∷ told.after)
            ∙ ap (λ (v : Target × Cause). deeds ++ Judges r.number r.name r.held v.0 v.1 ∷ more) said;
        ordered = λ change a.
            let y = place_of before (Changed change) (change_has start before change a) in
            let whole : run.steps ≡ y.0 ++ Changed change ∷ (y.1 ++ Ruled r ∷ after) = at ∙ ap (λ (l : List PolicyStep). l ++ Ruled r ∷ after) y.2 ∙ append_assoc y.0 (Changed change ∷ y.1) (Ruled r ∷ after) in
            let w : WasAsked start hs y.0 change = run.changed y.0 change (y.1 ++ Ruled r ∷ after) whole in
            let more : List Told = told_by (changed_by change (after_steps start y.0)) y.1 in
            let tale : told_by start before ≡ told_of w.earlier ++ Was_changed change ∷ more = ap (λ (l : List PolicyStep). told_by start l) y.2 ∙ told_split start y.0 (Changed change ∷ y.1) ∙ ap (λ (l : List Told). l ++ Was_changed change ∷ more) w.told in
            change_seen start hs front y.0 change w (changed_within hs front rest w.earlier w.event w.later change more (told_by start before) d cut w.in_run told tale);
        judgements = judgements;
        applied = applied_told start before;
        words = words;
        reason = subst (λ (b : Bool). Reason now judgements (context_at start.clock (moment_of h.event)) beside (behind words start.stream) own.dev b (not (has_listed_all (map seen_of x.earlier))) r.on why) (root_name r.name)
            (subst (λ (b : Bool). Reason now judgements (context_at start.clock (moment_of h.event)) beside (behind words start.stream) own.dev root (not b) r.on why) (sym (listed_seen x.earlier))
            (subst (λ (b : Bool). Reason now judgements (context_at start.clock (moment_of h.event)) beside (behind words start.stream) own.dev root b r.on why) x.present
            (subst (λ (m : Moment). Reason now judgements (context_at start.clock m) beside (behind words start.stream) own.dev root r.present r.on why) x.moment known)));
      }

  -- a decision that the policy gave
  by_rules : (front rest : List Happened) (es : List Entry) (i : ℕ) (d : Decision) → d.verdict ≡ target.Allow → (w : WasJudged start hs run.steps k es i d) → hs ≡ front ++ rest → GoesOn front w.placed.earlier w.placed.event → WasJudgedByRules start (map seen_of front) k d.number i d.name d.held d.cause
  by_rules front rest es i d allows w cut there =
      let r : Ruling = w.ruling in
      let q : Judging = after_steps start w.before in
      let both : ruling_answer q r ≡ (d.verdict, d.cause) = verdict_is (at_moment r.moment q) (allowed_records r.standings) r.judged (is_none (parent_of r.name)) r.present r.on d.verdict d.cause w.given in
      let said : ruling_answer q r ≡ (target.Allow, d.cause) = both ∙ ap (λ (v : Target). (v, d.cause)) allows in
      let own : WasJudgedByRules start (map seen_of front) k r.number r.device r.name r.held d.cause = by_ruling front rest w.before w.after r w.at w.placed cut there d.cause said in
      subst (λ (n : ℕ). WasJudgedByRules start (map seen_of front) k n i d.name d.held d.cause) w.number
      (subst (λ (j : ℕ). WasJudgedByRules start (map seen_of front) k r.number j d.name d.held d.cause) w.device
      (subst (λ (n : List ℕ). WasJudgedByRules start (map seen_of front) k r.number r.device n d.held d.cause) w.name
      (subst (λ (f : Held). WasJudgedByRules start (map seen_of front) k r.number r.device r.name f d.cause) w.held own)))

-- a number that an order finds was told before as that of its file
by_order : (hs front : List Happened) (at : List Entry) (d : Decision) → d.verdict ≡ target.Allow → (w : WasOrdered hs at d) → GoesOn front w.earlier w.event → WasOrderedByOne (map seen_of front) d.number d.name d.held d.cause
by_order hs front at d allows w in_front =
    let s : Standing = w.standing in
    let has = numbered_has d.number w.event.before.sweep.standings s w.stands in
    let es : List Entry = journal w.earlier in
    let last : last_decision (decisions_in es) d.number ≡ Some (decision_of s) = sym (or_else_none (last_decision (decisions_in es) d.number)) ∙ w.force in
    let told : Has es (entry.Judged s.number s.name s.held s.verdict s.cause) = decision_has es (decision_of s) (last_has (decisions_in es) d.number (decision_of s) last).0 in
    let there : Has es (entry.Judged d.number d.name d.held s.verdict s.cause) =
    subst (λ (n : ℕ). Has es (entry.Judged n d.name d.held s.verdict s.cause)) has.1
    (subst (λ (n : List ℕ). Has es (entry.Judged s.number n d.held s.verdict s.cause)) w.name
    (subst (λ (f : Held). Has es (entry.Judged s.number s.name f s.verdict s.cause)) w.held told)) in
    let asked : request_read w.line ≡ Ok (request.Device d.number target.Allow w.permanent) = subst (λ (v : Target). request_read w.line ≡ Ok (request.Device d.number v w.permanent)) allows w.asked in
    record {
      earlier = map seen_of w.earlier;
      event = seen_of w.event;
      later = map seen_of in_front.later;
      in_run = seen_split front w.earlier w.event in_front.later in_front.in_front;
      asks = ap (λ (x : Event). verdict_in x) w.is_order ∙ ap (λ (r : _). verdict_read r) asked;
      granted = order_granted w.event.before.access w.who (request.Device d.number d.verdict w.permanent) w.moment w.line w.event.event w.is_order w.asked w.granted;
      who = (w.who, ap (λ (x : Event). ordered_by x) w.is_order, w.cause);
      given = (s.verdict, s.cause, subst (λ (l : List Line). Has l (Verdict d.number d.name d.held s.verdict s.cause)) (sym (journal_seen w.earlier)) (has_map line_of es (entry.Judged d.number d.name d.held s.verdict s.cause) there));
    }

-- what explains a write that authorises

wants_allow : (v : Target) → wants v ≡ true → v ≡ target.Allow
wants_allow target.Allow h = refl
wants_allow target.Block h = let none : ⊥ = cc in absurd none
wants_allow target.Reject h = let none : ⊥ = cc in absurd none

module _ (start : Judging) (hub : Option Write) (first : Kernel) (o : Option Disk) (hs : List Happened) (k : Kernel) (p : Option Disk) (e : DaemonState) (new : IsLater start 0 [] start) (run : IsRun start hub first o hs k p e) where
  abbrev steps : List PolicyStep
  steps = run.steps

  file_of : (es : List Entry) (i : ℕ) (d : Decision) → WasDecided start hs steps k es i d → slice_get k.held d.held.0 ≡ Some (record { device = i; control = Authorized })
  file_of es i d (inl w) =
      subst (λ (j : ℕ). slice_get k.held d.held.0 ≡ Some (record { device = j; control = Authorized })) w.device
      (subst (λ (f : Held). slice_get k.held f.0 ≡ Some (record { device = w.ruling.device; control = Authorized })) w.held w.placed.device.file)
  file_of es i d (inr w) = w.1

  -- the entries end within an event
  warrant : (es : List Entry) (d : Decision) (effect : Effect) (at : IsIn hs es) → IsExplained hub start hs steps k es d effect → effect.write ≡ write.On → IsWarranted start (map seen_of hs) k (map line_of es) d.number effect.device
  warrant es d effect at x on =
      let g : Happened = at.event in
      let hs' : List Happened = at.earlier ++ g ∷ [] in
      let allows : d.verdict ≡ target.Allow = wants_allow d.verdict (subst (λ (v : Write). CallsFor hub d.name d.verdict v) on x.wanted) in
      let file = file_of x.told.before effect.device d x.decided in
      let seen_to : map seen_of hs' ≡ map seen_of at.earlier ++ seen_of g ∷ [] = map_append seen_of at.earlier (g ∷ []) in
      let cut : hs ≡ hs' ++ at.later = at.in_run ∙ sym (append_assoc at.earlier (g ∷ []) at.later) in
      let It : List Seen → Type 0 = λ l. WasJudgedByRules start l k d.number effect.device d.name d.held d.cause ⊎ WasOrderedByOne l d.number d.name d.held d.cause in
      record {
        earlier = map seen_of at.earlier;
        event = seen_of g;
        later = map seen_of at.later;
        in_run = seen_split hs at.earlier g at.later at.in_run;
        within = (
          map line_of at.more,
          map line_of at.rest,
          ap (λ (l : List Entry). map line_of l) at.cut ∙ map_append line_of (journal at.earlier) at.more ∙ ap (λ (l : List Line). l ++ map line_of at.more) (sym (journal_seen at.earlier)),
          ap (λ (l : List Entry). map line_of l) at.in_event ∙ map_append line_of at.more at.rest,
        );
        name = d.name;
        held = d.held;
        why = d.cause;
        before = map line_of x.told.before;
        since = map line_of x.told.since;
        last = subst (λ (v : Target). map line_of es ≡ map line_of x.told.before ++ Verdict d.number d.name d.held v d.cause ∷ map line_of x.told.since) allows (ap (λ (l : List Entry). map line_of l) x.told.at ∙ map_append line_of x.told.before (decided_entry d ∷ x.told.since));
        none = λ n f v why h.
            let y = map_has line_of x.told.since (Verdict d.number n f v why) h in
            none_since x.told.since d.number x.told.none n f v why (subst (λ (z : Entry). Has x.told.since z) (line_judged y.0 d.number n f v why y.2) y.1);
        file = file;
        allowed = subst It seen_to (elim x.decided [
          | inl w ↦ inl (by_rules start hub first o hs k p e new run hs' at.later x.told.before effect.device d allows w cut (told_within hs w.placed.earlier w.placed.event w.placed.later (w.placed.event.answered.sweep.entries ++ w.placed.front) d x.told.since es at w.placed.in_run (x.told.at ∙ ap (λ (l : List Entry). l ++ decided_entry d ∷ x.told.since) w.here)))
          | inr w ↦ inr (by_order hs hs' x.told.before d allows w.0 (told_within hs w.0.earlier w.0.event w.0.later w.0.front d x.told.since es at w.0.in_run (x.told.at ∙ ap (λ (l : List Entry). l ++ decided_entry d ∷ x.told.since) w.0.here)))
        ]);
      }

  tells : (es : List Entry) (log : List Effect) (back : List Entry) → journal hs ≡ es ++ back → Explains hub start hs steps k es log → TellsLog start (map seen_of hs) k (map line_of es) log
  tells _ _ back at Nothing_told = Tells_none
  tells _ _ back at (No_write es more log none x) =
      subst (λ (l : List Line). TellsLog start (map seen_of hs) k l log) (sym (map_append line_of es more))
      (Tells_other (map line_of es) (map line_of more) log (silent_lines more none) (tells es log (more ++ back) (at ∙ append_assoc es more back) x))
  tells _ _ back at (Had_effect es log d outcome effect may is x) =
      let two : List Entry = wrote_entries d.number d.name effect.write outcome in
      let cut : journal hs ≡ es ++ (two ++ back) = at ∙ append_assoc es two back in
      let inside = is_in hs es (entry.Intent d.number d.name effect.write) (entry.Wrote d.number d.name effect.write outcome ∷ back) cut in
      subst (λ (l : List Line). TellsLog start (map seen_of hs) k l (log ++ effect ∷ [])) (sym (map_append line_of es two))
      (Tells_effect (map line_of es) log d.number d.name outcome effect may (warrant es d effect inside is) (tells es log (two ++ back) cut x))
  tells _ _ back at (Had_none es log number name what outcome may x) =
      let two : List Entry = wrote_entries number name what outcome in
      subst (λ (l : List Line). TellsLog start (map seen_of hs) k l log) (sym (map_append line_of es two))
      (Tells_failed (map line_of es) log number name what outcome may (tells es log (two ++ back) (at ∙ append_assoc es two back) x))

pub each_write : EachWriteIsWarranted
each_write start hub number first o a hs k p e started new c =
    let run = is_run start hub number first o a hs k p e started c in
    record {
      added = run.explained.added;
      log = run.explained.log;
      each = subst (λ (l : List Line). TellsLog start (map seen_of hs) k l run.explained.added) (sym (journal_seen hs))
          (tells start hub first o hs k p e new run (journal hs) run.explained.added [] (sym (append-nil (journal hs))) run.explained.each);
    }
