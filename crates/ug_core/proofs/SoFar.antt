-- What is kept along a run.
use Rattle.std.proofs.Common.{◌≡◌, ℕ, ◌<◌, Bool, true, false, not, ◌||◌, is_none, nat_eq, List, [], ◌∷◌, ◌++◌, Option, Some, None, ◌⊎◌, inl, inr, refl, sym, ◌∙◌, ap, subst, append_assoc, append-nil, arith}
use Rattle.std.specs.List.{list_any}
use Rattle.ug_types.specs.Elements.{Has, AllDistinct}
use Rattle.ug_types.specs.Principals.{Named}
use Rattle.ug_types.specs.Names.{parent_of}
use Rattle.ug_kernel.specs.declared.control.Write.{Write}
use Rattle.ug_types.specs.declared.record.DeviceRecord.{DeviceRecord}
use Rattle.ug_types.specs.declared.record.Judged.{Judged}
use Rattle.ug_types.specs.declared.record.Judged.TheVariants as judged
use Rattle.ug_types.specs.declared.verdict.Target.{Target}
use Rattle.ug_types.specs.declared.verdict.Cause.{Cause}
use Rattle.ug_types.specs.declared.verdict.Moment.{Moment}
use Rattle.ug_types.proofs.Elements.{distinct_one, has_left, has_map, has_right, has_cases, map_has}
use Rattle.ug_kernel.specs.declared.device.Effect.{Effect}
use Rattle.ug_kernel.specs.Kernel.{Kernel}
use Rattle.ug_kernel.specs.Quiet.{Grows, Quiet}
use Rattle.ug_kernel.proofs.Grow.{quiet_grows}
use Rattle.ug_audit.specs.declared.entry.Entry.{Entry}
use Rattle.ug_audit.specs.declared.entry.Entry.TheVariants as entry
use Rattle.ug_conf.specs.declared.settings.Present.{Present}
use Rattle.ug_conf.specs.declared.settings.Present.TheVariants as present
use Rattle.ug_policy.specs.Deciding.{Found, decider}
use Rattle.ug_policy.specs.Matching.{answer_by}
use Rattle.ug_policy.specs.declared.entry.RuleEntry.{RuleEntry}
use Rattle.ug_table.specs.Allowed.{allowed_records}
use Rattle.ug_table.specs.Orders.{with_verdict, ordered_standing, with_order, verdict_entry, just_ordered}
use Rattle.ug_table.specs.Standings.{numbered}
use Rattle.ug_table.specs.Parts.{writes_in}
use Rattle.ug_table.specs.State.{State, terms_of}
use Rattle.ug_table.specs.Laws.{IsDevice, Stand, AreDefaulted, IsTold, Tries, wrote_entries, numbers_of, Account, IsFair, IsUnlisted, IsListed}
use Rattle.ug_table.specs.declared.standing.Standing.{Standing}
use Rattle.ug_table.proofs.Devices.{device_stays, stand_stays}
use Rattle.ug_table.proofs.Ordered.{has_ordered, ordered_is, ordered_other, stand_ordered}
use Rattle.ug_table.proofs.Says.{account_says}
use Rattle.ug_table.proofs.NamedStandings.{numbered_has}
use Rattle.ug_core.specs.Changes.{CanChange, change_entry, changed_by}
use Rattle.ug_core.specs.declared.changes.Change.{Change}
use Rattle.ug_core.specs.declared.changes.Change.TheVariants.{Rules, Set}
use Rattle.ug_core.specs.Policy.{Judging, cause_for, choice_for, kept, by_choice, found_for, verdict_of, policy_answer, policy_later}
use Rattle.ug_core.specs.Event.{moment_of}
use Rattle.ug_core.specs.InForce.{Decision, decision_of, decided_entry, decisions_in, or_else, on_number, last_decision, last_judged, standing_decision, in_force, AgreeInForce, is_ordered, unordered, numbers_on, given_numbers, Follow}
use Rattle.ug_core.specs.Rulings.{CanTake, Changed, Decided, PolicyStep, Ruled, Ruling, Told, Was_changed, after_ruling, after_steps, at_moment, decision_by, told_by}
use Rattle.ug_core.specs.Values.{LogsValues}
use Rattle.ug_core.specs.Laws.{tried_in}
use Rattle.ug_core.specs.Chain.{Happened, ready_of, changes_asked, decided, journal, told_if, told_in, told_of, was_done, tells_unlisted, lists_all, has_listed, IsPlaced, WasAsked, WasOrdered}
use Rattle.ug_core.proofs.InForce.{one_judged, told_numbers, in_force_append, on_itself, on_another, unordered_append, unordered_all, decisions_append, decisions_more, has_decision, standing_found, fresh, numbers_append, follow_append, lift, lift_agree}
use Rattle.ug_core.proofs.Splits.{has_at, place_of, where_cut, where_last}
use Rattle.ug_core.proofs.Steps.{after_ruled, can_ruled, can_then, ruled, ruled_at, ruled_unchanged, steps_append, told_ruled, told_then}
use Rattle.ug_core.proofs.Walk.{after_rulings, decisions_by, Effected, IsAt, None_written, Others, Uneffected, WasWritten, Written, walk}
use Rattle.ug_core.proofs.Defaulted.{quiet_defaulted, ordered_defaulted}
use Rattle.ug_core.proofs.Known.{IsKnown, AreKnown, known_grow, known_still, known_new}
use Rattle.ug_ruleset.specs.declared.edit.Edit.TheVariants.{Insert, Remove, Retarget}

-- entries of events and of runs

pub journal_append : (gs hs : List Happened) → journal (gs ++ hs) ≡ journal gs ++ journal hs
journal_append [] hs = refl
journal_append (g ∷ gs) hs = ap (λ (es : List Entry). g.after.sweep.entries ++ es) (journal_append gs hs) ∙ sym (append_assoc g.after.sweep.entries (journal gs) (journal hs))

-- what was written in an event, behind what was written before it
pub written_lifted : (hub : Option Write) (pre : List Entry) (log : List Effect) (ss : List Standing) (k : Kernel) (es : List Entry) (added : List Effect) → AgreeInForce [] pre ss → Written hub [] k pre log → Written hub ss k es added → Written hub [] k (pre ++ es) (log ++ added)
written_lifted hub pre log ss k _ _ agree before None_written = subst (λ (x : List Entry). Written hub [] k x (log ++ [])) (sym (append-nil pre)) (subst (λ (x : List Effect). Written hub [] k pre x) (sym (append-nil log)) before)
written_lifted hub pre log ss k _ _ agree before (Others es more added none w) =
    subst (λ (x : List Entry). Written hub [] k x (log ++ added)) (append_assoc pre es more) (Others (pre ++ es) more (log ++ added) none (written_lifted hub pre log ss k es added agree before w))
written_lifted hub pre log ss k _ _ agree before (Effected es added decision outcome effect is may w) =
    let two : List Entry = wrote_entries decision.number decision.name effect.write outcome in
    let this : WasWritten hub [] (pre ++ es) k decision effect = record { judged = is.judged; force = lift pre ss es decision.number decision agree is.force; wanted = is.wanted; device = is.device } in
    let longer : Written hub [] k ((pre ++ es) ++ two) ((log ++ added) ++ effect ∷ []) = Effected (pre ++ es) (log ++ added) decision outcome effect this may (written_lifted hub pre log ss k es added agree before w) in
    subst (λ (x : List Entry). Written hub [] k x (log ++ (added ++ effect ∷ []))) (append_assoc pre es two) (subst (λ (x : List Effect). Written hub [] k ((pre ++ es) ++ two) x) (append_assoc log added (effect ∷ [])) longer)
written_lifted hub pre log ss k _ _ agree before (Uneffected es added number name what outcome may w) =
    subst (λ (x : List Entry). Written hub [] k x (log ++ added)) (append_assoc pre es (wrote_entries number name what outcome)) (Uneffected (pre ++ es) (log ++ added) number name what outcome may (written_lifted hub pre log ss k es added agree before w))

pub written_stays : (hub : Option Write) (before : List Standing) (k l : Kernel) (es : List Entry) (log : List Effect) → Grows k l → Written hub before k es log → Written hub before l es log
written_stays hub before k l _ _ g None_written = None_written
written_stays hub before k l _ _ g (Others es more log none w) = Others es more log none (written_stays hub before k l es log g w)
written_stays hub before k l _ _ g (Effected es log decision outcome effect is may w) =
    let this : WasWritten hub before es l decision effect = record { judged = is.judged; force = is.force; wanted = is.wanted; device = device_stays k l effect.device decision.name decision.held is.judged g is.device } in
    Effected es log decision outcome effect this may (written_stays hub before k l es log g w)
written_stays hub before k l _ _ g (Uneffected es log number name what outcome may w) = Uneffected es log number name what outcome may (written_stays hub before k l es log g w)

-- these effects were added to a log
pub record AllWritten (hub : Option Write) (es : List Entry) (first k : Kernel) : Type 0 where
  pub added : List Effect
  pub log : k.log ≡ first.log ++ added
  pub each : Written hub [] k es added

-- the standings that a sweep leaves have the verdicts in force
pub agree_left : (before : List Standing) (next0 next : ℕ) (rest : List Entry) (after : List Standing) (k : Kernel) → Stand k before next0 → Follow next0 (told_numbers rest) next → ((s : Standing) → Has after s → IsTold before rest s) → AgreeInForce before rest after
agree_left before next0 next rest after k stood follow told s h =
    let f = fresh (decisions_in rest) next0 next follow in
    elim (told s h) [
      | inl b ↦
          let lt : s.number < next0 = subst (λ (n : ℕ). n < next0) (sym b.2) (stood.numbers b.0 b.1) in
          let is : decision_of b.0 ≡ decision_of s = cc (b.2, b.3, b.4, b.6, b.7) in
          let found : standing_decision before s.number ≡ Some (decision_of b.0) = subst (λ (n : ℕ). standing_decision before n ≡ Some (decision_of b.0)) (sym b.2) (standing_found before b.0 stood.distinct b.1) in
          ap (λ (o : Option Decision). or_else o (standing_decision before s.number)) (f.old s.number lt) ∙ found ∙ ap (λ (d : Decision). Some d) is
      | inr t ↦ ap (λ (o : Option Decision). or_else o (standing_decision before s.number)) (f.told (decision_of s) (has_told rest s t)).1
    ]
  where
    has_told : (rest : List Entry) (s : Standing) → Has rest (entry.Judged s.number s.name s.held s.verdict s.cause) → Has (decisions_in rest) (decision_of s)
    has_told rest s t = has_decision rest s.number s.name s.held s.verdict s.cause t

-- whether a listing has succeeded

pub unlisted_has : (es : List Entry) → list_any tells_unlisted es ≡ true → IsUnlisted es
unlisted_has [] h = let none : ⊥ = cc in absurd none
unlisted_has (e ∷ es) h = by_entry e es h (unlisted_has es)
  where
    by_entry : (e : Entry) (es : List Entry) → (tells_unlisted e || list_any tells_unlisted es) ≡ true → (list_any tells_unlisted es ≡ true → IsUnlisted es) → IsUnlisted (e ∷ es)
    by_entry (entry.UnsettledAll why) es h rest = (why, inl refl)
    by_entry e es h rest = let k = rest h in (k.0, inr k.1)

pub has_unlisted : (es : List Entry) → IsUnlisted es → list_any tells_unlisted es ≡ true
has_unlisted [] h = absurd h.1
has_unlisted (e ∷ es) h = elim h.1 [
  | inl same ↦ ap (λ (x : Entry). tells_unlisted x || list_any tells_unlisted es) same
  | inr later ↦ ap (λ (b : Bool). tells_unlisted e || b) (has_unlisted es (h.0, later)) ∙ any_true (tells_unlisted e)
]
  where
    any_true : (b : Bool) → (b || true) ≡ true
    any_true true = refl
    any_true false = refl

pub listed_after : (es : List Entry) (before after : Bool) → IsListed es before after → after ≡ (not (list_any tells_unlisted es) || before)
listed_after es before after h = by_any (list_any tells_unlisted es) refl h
  where
    by_any : (b : Bool) → list_any tells_unlisted es ≡ b → IsListed es before after → after ≡ (not b || before)
    by_any true is (inl l) = absurd (l.0 (unlisted_has es is))
    by_any true is (inr u) = u.1
    by_any false is (inl l) = l.1
    by_any false is (inr u) = let same : true ≡ false = sym (has_unlisted es u.0) ∙ is in let none : ⊥ = cc in absurd none

pub any_append : (es fs : List Entry) → list_any tells_unlisted fs ≡ false → list_any tells_unlisted (es ++ fs) ≡ list_any tells_unlisted es
any_append [] fs none = none
any_append (e ∷ es) fs none = ap (λ (b : Bool). tells_unlisted e || b) (any_append es fs none)

pub listed_append : (hs : List Happened) (h : Happened) → has_listed (hs ++ h ∷ []) ≡ (lists_all h || has_listed hs)
listed_append [] h = refl
listed_append (g ∷ hs) h = ap (λ (b : Bool). lists_all g || b) (listed_append hs h) ∙ swapped (lists_all g) (lists_all h) (has_listed hs)
  where
    swapped : (a b c : Bool) → (a || (b || c)) ≡ (b || (a || c))
    swapped true true c = refl
    swapped true false c = refl
    swapped false b c = refl

-- rulings by two policies that differ in their context alone

abbrev pub Alike : Judging → Judging → Type 0
Alike p q = (m : Moment) → at_moment m p ≡ at_moment m q

pub alike_after : (p q : Judging) (rs : List Ruling) → Alike p q → Alike (after_rulings p rs) (after_rulings q rs)
alike_after p q [] h = h
alike_after p q (r ∷ rs) h = λ m. ap (λ (x : Judging). at_moment m (after_rulings (policy_later x r.judged (is_none (parent_of r.name)) r.present r.on r.standings) rs)) (h r.moment)

pub alike_decisions : (p q : Judging) (rs : List Ruling) → Alike p q → decisions_by p rs ≡ decisions_by q rs
alike_decisions p q [] h = refl
alike_decisions p q (r ∷ rs) h = ap (λ (x : Judging). made x) (h r.moment)
  where
    made : Judging → List Decision
    made x =
        let a : Target × Cause = policy_answer x r.judged (is_none (parent_of r.name)) r.present r.on r.standings in
        record { number = r.number; name = r.name; held = r.held; verdict = a.0; cause = a.1 } ∷ decisions_by (policy_later x r.judged (is_none (parent_of r.name)) r.present r.on r.standings) rs

-- the ruling of a decision
pub record IsRuled (policy : Judging) (steps : List PolicyStep) (d : Decision) : Type 0 where
  pub before : List PolicyStep
  pub ruling : Ruling
  pub after : List PolicyStep
  pub at : steps ≡ before ++ Ruled ruling ∷ after
  pub is : decision_by (after_steps policy before) ruling ≡ d

pub ruling_of : (policy : Judging) (steps : List PolicyStep) (d : Decision) → Has (told_by policy steps) (Decided d) → IsRuled policy steps d
ruling_of policy [] d h = absurd h
ruling_of policy (Ruled r ∷ steps) d (inl same) = record { before = []; ruling = r; after = steps; at = refl; is = (let one : decision_by policy r ≡ d = cc in one) }
ruling_of policy (Ruled r ∷ steps) d (inr h) =
    let k = ruling_of (after_ruling policy r) steps d h in
    record { before = Ruled r ∷ k.before; ruling = k.ruling; after = k.after; at = ap (λ (l : List PolicyStep). Ruled r ∷ l) k.at; is = k.is }
ruling_of policy (Changed change ∷ steps) d (inl same) = let none : ⊥ = cc in absurd none
ruling_of policy (Changed change ∷ steps) d (inr h) =
    let k = ruling_of (changed_by change policy) steps d h in
    record { before = Changed change ∷ k.before; ruling = k.ruling; after = k.after; at = ap (λ (l : List PolicyStep). Changed change ∷ l) k.at; is = k.is }

-- a decision that the events tell
pub told_has : (hs : List Happened) (d : Decision) → Has (unordered (decisions_in (journal hs))) d → Has (told_of hs) (Decided d)
told_has [] d h = absurd h
told_has (g ∷ hs) d h =
    let here : List Decision = unordered (decisions_in g.after.sweep.entries) in
    let later : List Decision = unordered (decisions_in (journal hs)) in
    let first : List Told = told_if (was_done g.after.reply) (changes_asked (ready_of g) g.event) in
    let both = subst (λ (ds : List Decision). Has ds d) (ap (λ (ds : List Decision). unordered ds) (decisions_append g.after.sweep.entries (journal hs)) ∙ unordered_append (decisions_in g.after.sweep.entries) (decisions_in (journal hs))) h in
    elim (has_cases here later d both) [
      | inl b ↦ has_left (first ++ decided here) (told_of hs) (Decided d) (has_right first (decided here) (Decided d) (has_map Decided here d b))
      | inr b ↦ has_right (first ++ decided here) (told_of hs) (Decided d) (told_has hs d b)
    ]

pub told_append : (hs : List Happened) (h : Happened) → told_of (hs ++ h ∷ []) ≡ told_of hs ++ told_in h
told_append [] h = append-nil (told_in h)
told_append (g ∷ hs) h = ap (λ (l : List Told). told_in g ++ l) (told_append hs h) ∙ sym (append_assoc (told_in g) (told_of hs) (told_in h))

-- what is kept along a run, with all that was told of the policy so far, and all entries
pub record SoFar (policy : Judging) (first k : Kernel) (hs : List Happened) (tl : List Told) (es : List Entry) (w : State Judging) : Type 0 where
  pub stand : Stand k w.standings w.next
  pub steps : List PolicyStep
  pub told : tl ≡ told_by policy steps
  pub can : CanTake policy steps
  pub judge : Alike w.judge (after_steps policy steps)
  pub placed : (before : List PolicyStep) (r : Ruling) (after : List PolicyStep) → steps ≡ before ++ Ruled r ∷ after → IsPlaced policy hs before k r
  pub changed : (before : List PolicyStep) (change : Change) (after : List PolicyStep) → steps ≡ before ++ Changed change ∷ after → WasAsked policy hs before change
  pub ordered : (front : List Entry) (d : Decision) (back : List Entry) → es ≡ front ++ decided_entry d ∷ back → is_ordered d.cause ≡ true → WasOrdered hs front d
  pub written : AllWritten w.hub es first k
  pub numbers : Follow 1 (given_numbers es) w.next
  pub agree : AgreeInForce [] es w.standings
  pub known : AreKnown (decisions_in es) k w.standings
  pub defaulted : AreDefaulted w.hub k w.standings

pub placed_stays : (policy : Judging) (hs more : List Happened) (before : List PolicyStep) (k l : Kernel) (r : Ruling) → Grows k l → IsPlaced policy hs before k r → IsPlaced policy (hs ++ more) before l r
placed_stays policy hs more before k l r g p = record {
  earlier = p.earlier;
  event = p.event;
  later = p.later ++ more;
  in_run = ap (λ (x : List Happened). x ++ more) p.in_run ∙ append_assoc p.earlier (p.event ∷ p.later) more;
  front = p.front;
  back = p.back;
  in_event = p.in_event;
  told = p.told;
  moment = p.moment;
  present = p.present;
  device = device_stays k l r.device r.name r.held r.judged g p.device;
  probed = p.probed;
  met = p.met;
  stand = p.stand;
  left = p.left;
  marked = p.marked;
}

pub asked_stays : (policy : Judging) (hs more : List Happened) (before : List PolicyStep) (change : Change) → WasAsked policy hs before change → WasAsked policy (hs ++ more) before change
asked_stays policy hs more before change a = record {
  earlier = a.earlier;
  event = a.event;
  later = a.later ++ more;
  in_run = ap (λ (x : List Happened). x ++ more) a.in_run ∙ append_assoc a.earlier (a.event ∷ a.later) more;
  told = a.told;
  moment = a.moment;
  who = a.who;
  line = a.line;
  is_order = a.is_order;
  asked = a.asked;
  reads = a.reads;
  asks = a.asks;
  granted = a.granted;
  done = a.done;
}

pub ordered_stays : (hs more : List Happened) (front : List Entry) (d : Decision) → WasOrdered hs front d → WasOrdered (hs ++ more) front d
ordered_stays hs more front d o = record {
  earlier = o.earlier;
  event = o.event;
  later = o.later ++ more;
  in_run = ap (λ (x : List Happened). x ++ more) o.in_run ∙ append_assoc o.earlier (o.event ∷ o.later) more;
  moment = o.moment;
  who = o.who;
  line = o.line;
  is_order = o.is_order;
  cause = o.cause;
  permanent = o.permanent;
  asked = o.asked;
  granted = o.granted;
  standing = o.standing;
  stands = o.stands;
  force = o.force;
  name = o.name;
  held = o.held;
  front = o.front;
  back = o.back;
  in_event = o.in_event;
  here = o.here;
}

-- nothing is written, while the run gets longer
pub still_so : (policy : Judging) (first k l : Kernel) (hs more : List Happened) (tl : List Told) (es : List Entry) (w : State Judging) → Quiet k l → SoFar policy first k hs tl es w → SoFar policy first l (hs ++ more) tl es w
still_so policy first k l hs more tl es w quiet so =
    let g = quiet_grows k l quiet in
    record {
      stand = stand_stays k l w.standings w.next g so.stand;
      steps = so.steps;
      told = so.told;
      can = so.can;
      judge = so.judge;
      placed = λ before r after at. placed_stays policy hs more before k l r g (so.placed before r after at);
      changed = λ before c after at. asked_stays policy hs more before c (so.changed before c after at);
      ordered = λ front d back at is. ordered_stays hs more front d (so.ordered front d back at is);
      written = record { added = so.written.added; log = quiet.log ∙ so.written.log; each = written_stays w.hub [] k l es so.written.added g so.written.each };
      numbers = so.numbers;
      agree = so.agree;
      known = known_grow (decisions_in es) k l w.standings g so.known;
      defaulted = quiet_defaulted w.hub k l w.standings w.next quiet so.stand so.defaulted;
    }

-- an order is told in the first of two lists of entries, where the second tells none
ordered_in : (hs : List Happened) (es fs front : List Entry) (d : Decision) (back : List Entry) → ((a : Decision) → Has (decisions_in fs) a → is_ordered a.cause ≡ false) → ((front : List Entry) (d : Decision) (back : List Entry) → es ≡ front ++ decided_entry d ∷ back → is_ordered d.cause ≡ true → WasOrdered hs front d) → es ++ fs ≡ front ++ decided_entry d ∷ back → is_ordered d.cause ≡ true → WasOrdered hs front d
ordered_in hs es fs front d back plain so at is = elim (where_cut es fs front (decided_entry d) back at) [
  | inl c ↦ so front d c.rest c.here is
  | inr p ↦
      let there : Has fs (decided_entry d) = subst (λ (l : List Entry). Has l (decided_entry d)) (sym p.there) (has_at p.more (decided_entry d) back) in
      let other : is_ordered d.cause ≡ false = plain d (has_decision fs d.number d.name d.held d.verdict d.cause there) in
      let none : ⊥ = cc in
      absurd none
]

-- entries that tell no decision, and a judge whose context alone is another
pub noted_so : (policy : Judging) (first k : Kernel) (hs : List Happened) (tl : List Told) (es fs : List Entry) (w v : State Judging) → decisions_in fs ≡ [] → writes_in fs ≡ [] → v.standings ≡ w.standings → v.next ≡ w.next → v.hub ≡ w.hub → Alike v.judge w.judge → SoFar policy first k hs tl es w → SoFar policy first k hs tl (es ++ fs) v
noted_so policy first k hs tl es fs w v none unwritten standings next hub judge so =
    let same : decisions_in (es ++ fs) ≡ decisions_in es = decisions_more es fs none in
    record {
      stand = subst (λ (n : ℕ). Stand k v.standings n) (sym next) (subst (λ (ss : List Standing). Stand k ss w.next) (sym standings) so.stand);
      steps = so.steps;
      told = so.told;
      can = so.can;
      judge = λ m. judge m ∙ so.judge m;
      placed = so.placed;
      changed = so.changed;
      ordered = λ front d back at is. ordered_in hs es fs front d back (λ a h. absurd (subst (λ (ds : List Decision). Has ds a) none h)) so.ordered at is;
      written = subst (λ (o : Option Write). AllWritten o (es ++ fs) first k) (sym hub) (record { added = so.written.added; log = so.written.log; each = Others es fs so.written.added unwritten so.written.each });
      numbers = subst (λ (n : ℕ). Follow 1 (given_numbers (es ++ fs)) n) (sym next) (subst (λ (ds : List Decision). Follow 1 (numbers_on (unordered ds)) w.next) (sym same) so.numbers);
      agree = λ s a. ap (λ (ds : List Decision). or_else (last_decision ds s.number) None) same ∙ so.agree s (subst (λ (ss : List Standing). Has ss s) standings a);
      known = subst (λ (ss : List Standing). AreKnown (decisions_in (es ++ fs)) k ss) (sym standings) (subst (λ (ds : List Decision). AreKnown ds k w.standings) (sym same) so.known);
      defaulted = subst (λ (o : Option Write). AreDefaulted o k v.standings) (sym hub) (subst (λ (ss : List Standing). AreDefaulted w.hub k ss) (sym standings) so.defaulted);
    }

-- rules or a setting are changed

pub entry_silent : (change : Change) (next : ℕ) → decisions_in (change_entry change next ∷ []) ≡ []
entry_silent (Rules (Insert after rule mark)) next = refl
entry_silent (Rules (Remove id)) next = refl
entry_silent (Rules (Retarget id rule)) next = refl
entry_silent (Set set) next = refl

entry_unwritten : (change : Change) (next : ℕ) → writes_in (change_entry change next ∷ []) ≡ []
entry_unwritten (Rules (Insert after rule mark)) next = refl
entry_unwritten (Rules (Remove id)) next = refl
entry_unwritten (Rules (Retarget id rule)) next = refl
entry_unwritten (Set set) next = refl

pub at_changed : (change : Change) (p : Judging) (m : Moment) → at_moment m (changed_by change p) ≡ changed_by change (at_moment m p)
at_changed (Rules edit) p m = refl
at_changed (Set set) p m = refl

pub changed_so : (policy : Judging) (first k : Kernel) (hs : List Happened) (tl : List Told) (es : List Entry) (w : State Judging) (change : Change) → CanChange change w.judge.rules → ((before : List PolicyStep) → told_by policy before ≡ tl → WasAsked policy hs before change) → SoFar policy first k hs tl es w
    → SoFar policy first k hs (tl ++ Was_changed change ∷ []) (es ++ change_entry change w.judge.next ∷ []) (record w { judge = changed_by change w.judge; entries = w.entries ++ change_entry change w.judge.next ∷ [] })
changed_so policy first k hs tl es w change can was so =
    let e : Entry = change_entry change w.judge.next in
    let noted = noted_so policy first k hs tl es (e ∷ []) w (record w { entries = w.entries ++ e ∷ [] }) (entry_silent change w.judge.next) (entry_unwritten change w.judge.next) refl refl refl (λ m. refl) so in
    let q : Judging = after_steps policy so.steps in
    let one : List PolicyStep = Changed change ∷ [] in
    let rules : w.judge.rules ≡ q.rules = ap (λ (j : Judging). j.rules) (so.judge (record { 0 = 0 })) in
    record {
      stand = noted.stand;
      steps = so.steps ++ one;
      told = ap (λ (l : List Told). l ++ Was_changed change ∷ []) so.told ∙ sym (told_then policy so.steps one);
      can = can_then policy so.steps one so.can (subst (λ (rs : List RuleEntry). CanChange change rs) rules can, tt);
      judge = λ m. at_changed change w.judge m ∙ ap (λ (j : Judging). changed_by change j) (so.judge m) ∙ sym (at_changed change q m) ∙ ap (λ (j : Judging). at_moment m j) (sym (steps_append policy so.steps one));
      placed = λ before r after at. elim (where_last so.steps (Changed change) before (Ruled r) after at) [
        | inl c ↦ so.placed before r c.rest c.here
        | inr b ↦ (let other : Changed change ≡ Ruled r = b.1 in let none : ⊥ = cc in absurd none)
      ];
      changed = λ before c after at. elim (where_last so.steps (Changed change) before (Changed c) after at) [
        | inl b ↦ so.changed before c b.rest b.here
        | inr b ↦
            let steps : so.steps ≡ before = b.0 in
            let both : Changed change ≡ Changed c = b.1 in
            let is : change ≡ c = cc in
            subst (λ (x : Change). WasAsked policy hs before x) is (was before (ap (λ (l : List PolicyStep). told_by policy l) (sym steps) ∙ sym so.told))
      ];
      ordered = noted.ordered;
      written = noted.written;
      numbers = noted.numbers;
      agree = noted.agree;
      known = noted.known;
      defaulted = noted.defaulted;
    }

-- a verdict that was ordered is set and told

pub record OneOrdered (number : ℕ) (verdict : Target) (who : Named) (ss : List Standing) (x s : Standing) : Type 0 where
  pub before : Standing
  pub has : Has ss before
  pub is : ((s.number ≡ number) × (s ≡ with_verdict verdict who x)) ⊎ ((s.number ≡ number → ⊥) × (s ≡ before))
  pub same_number : s.number ≡ before.number
  pub same_held : s.held ≡ before.held

pub one_ordered : (number : ℕ) (verdict : Target) (who : Named) (ss : List Standing) (x s : Standing) → AllDistinct (numbers_of ss) → numbered number ss ≡ Some x → Has (with_order number verdict who ss) s → OneOrdered number verdict who ss x s
one_ordered number verdict who ss x s distinct at a =
    let m = map_has (ordered_standing number verdict who) ss s a in
    by_number (nat_eq m.0.number number) m.0 refl m.1 m.2
  where
    by_number : (b : Bool) (y : Standing) → nat_eq y.number number ≡ b → Has ss y → ordered_standing number verdict who y ≡ s → OneOrdered number verdict who ss x s
    by_number true y is has same =
        let n : y.number ≡ number = grind (arith, is) in
        let was = numbered_has number ss x at in
        let one : y ≡ x = distinct_one (λ (v : Standing). v.number) ss y x distinct has was.0 (n ∙ sym was.1) in
        let now : s ≡ with_verdict verdict who x = sym same ∙ ordered_is number verdict who y n ∙ ap (λ (v : Standing). with_verdict verdict who v) one in
        record { before = y; has = has; is = inl (ap (λ (v : Standing). v.number) now ∙ was.1, now); same_number = ap (λ (v : Standing). v.number) now ∙ sym (ap (λ (v : Standing). v.number) one); same_held = ap (λ (v : Standing). v.held) now ∙ sym (ap (λ (v : Standing). v.held) one) }
    by_number false y is has same =
        let now : s ≡ y = sym same ∙ ordered_other number verdict who y is in
        record { before = y; has = has; is = inr (λ n. let other : y.number ≡ number = sym (ap (λ (v : Standing). v.number) now) ∙ n in grind (arith, is, other), now); same_number = ap (λ (v : Standing). v.number) now; same_held = ap (λ (v : Standing). v.held) now }

pub ordered_so : (policy : Judging) (first k : Kernel) (hs : List Happened) (tl : List Told) (es : List Entry) (w : State Judging) (number : ℕ) (verdict : Target) (who : Named) (x : Standing) → numbered number w.standings ≡ Some x → WasOrdered hs es (decision_of (with_verdict verdict who x)) → SoFar policy first k hs tl es w → SoFar policy first k hs tl (es ++ verdict_entry (with_verdict verdict who x) ∷ []) (just_ordered number verdict who x w)
ordered_so policy first k hs tl es w number verdict who x at was so =
    let y : Standing = with_verdict verdict who x in
    let c : Decision = decision_of y in
    let ds : List Decision = decisions_in es in
    let ss : List Standing = with_order number verdict who w.standings in
    let whole : decisions_in (es ++ verdict_entry y ∷ []) ≡ ds ++ c ∷ [] = decisions_append es (verdict_entry y ∷ []) in
    let same : unordered (decisions_in (es ++ verdict_entry y ∷ [])) ≡ unordered ds = ap (λ (l : List Decision). unordered l) whole ∙ unordered_append ds (c ∷ []) ∙ append-nil (unordered ds) in
    let numbered_x = numbered_has number w.standings x at in
    let device = so.stand.devices x numbered_x.0 in
    record {
      stand = stand_ordered k w.standings w.next number verdict who so.stand;
      steps = so.steps;
      told = so.told;
      can = so.can;
      judge = so.judge;
      placed = so.placed;
      changed = so.changed;
      ordered = λ front d back at is. elim (where_last es (verdict_entry y) front (decided_entry d) back at) [
        | inl b ↦ so.ordered front d b.rest b.here is
        | inr b ↦
            subst (λ (v : Decision). WasOrdered hs front v) (one_judged c d b.1) (subst (λ (l : List Entry). WasOrdered hs l c) b.0 was)
      ];
      written = record { added = so.written.added; log = so.written.log; each = Others es (verdict_entry y ∷ []) so.written.added refl so.written.each };
      numbers = subst (λ (l : List Decision). Follow 1 (numbers_on l) w.next) (sym same) so.numbers;
      agree = λ s a. in_force_append [] es (verdict_entry y ∷ []) s.number ∙ agree_one s (one_ordered number verdict who w.standings x s so.stand.distinct at a) numbered_x.1;
      defaulted = ordered_defaulted w.hub k number verdict who w.standings so.defaulted;
      known = λ d a. elim (has_cases ds (c ∷ []) d (subst (λ (l : List Decision). Has l d) whole a)) [
        | inl b ↦ known_ordered d (so.known d b)
        | inr b ↦ elim b [
          | inl e ↦ subst (λ (v : Decision). IsKnown ss k v) e (record { i = device.0; judged = x.judged; device = device.1; stands = inl (y, has_ordered number verdict who w.standings x at, refl, refl) })
          | inr none ↦ absurd none
        ]
      ];
    }
  where
    agree_one : (s : Standing) → OneOrdered number verdict who w.standings x s → x.number ≡ number → or_else (last_judged (verdict_entry (with_verdict verdict who x) ∷ []) s.number) (in_force [] es s.number) ≡ Some (decision_of s)
    agree_one s o n =
        let c : Decision = decision_of (with_verdict verdict who x) in
        elim o.is [
          | inl e ↦ ap (λ (v : Option Decision). or_else v (in_force [] es s.number)) (subst (λ (m : ℕ). on_number m c ≡ Some c) (n ∙ sym e.0) (on_itself c)) ∙ ap (λ (v : Standing). Some (decision_of v)) (sym e.1)
          | inr e ↦ ap (λ (v : Option Decision). or_else v (in_force [] es s.number)) (on_another s.number c (λ m. e.0 (sym m ∙ n))) ∙ (subst (λ (v : Standing). in_force [] es v.number ≡ Some (decision_of v)) (sym e.1) (so.agree o.before o.has))
        ]

    known_ordered : (d : Decision) → IsKnown w.standings k d → IsKnown (with_order number verdict who w.standings) k d
    known_ordered d h = record {
      i = h.i;
      judged = h.judged;
      device = h.device;
      stands = elim h.stands [
        | inl s ↦ inl (ordered_standing number verdict who s.0, has_map (ordered_standing number verdict who) w.standings s.0 s.1, s.2, s.3)
        | inr gone ↦ inr gone
      ];
    }

-- a policy orders nothing

pub kept_given : (on : Bool) → is_ordered (kept on).1 ≡ false
kept_given true = refl
kept_given false = refl

pub cause_given : (was : Bool) → is_ordered (cause_for was) ≡ false
cause_given true = refl
cause_given false = refl

pub rule_given : (implicit : Target) (found : Option RuleEntry) → is_ordered (answer_by implicit found).1 ≡ false
rule_given implicit None = refl
rule_given implicit (Some e) = refl

pub choice_given : (choice : Present) (was on : Bool) (implicit : Target) (found : Found) → is_ordered (by_choice choice was on implicit found).1 ≡ false
choice_given present.Allow was on implicit found = cause_given was
choice_given present.Block was on implicit found = cause_given was
choice_given present.Reject was on implicit found = cause_given was
choice_given present.Keep was on implicit found = kept_given on
choice_given present.Apply was on implicit found = rule_given implicit (decider found)

pub verdict_given : (p : Judging) (records : List DeviceRecord) (judged : Judged) (controller was on : Bool) → is_ordered (verdict_of p records judged controller was on).1 ≡ false
verdict_given p records (judged.Malformed kind place) controller was on = refl
verdict_given p records (judged.Good dev) controller was on = choice_given (choice_for p.classes controller was) was on p.classes.implicit (found_for p records dev)

-- the ruling of a decision of a sweep
pub record IsRulingOf (p : Judging) (rs : List Ruling) (d : Decision) : Type 0 where
  pub policy : Judging
  pub ruling : Ruling
  pub has : Has rs ruling
  pub is : decision_by policy ruling ≡ d

pub ruling_in : (p : Judging) (rs : List Ruling) (d : Decision) → Has (decisions_by p rs) d → IsRulingOf p rs d
ruling_in p rs d h =
    let x = ruling_of p (ruled rs) d (subst (λ (l : List Told). Has l (Decided d)) (sym (told_ruled p rs)) (has_map Decided (decisions_by p rs) d h)) in
    record { policy = after_steps p x.before; ruling = x.ruling; has = (let k = ruled_at rs x.before x.ruling x.after x.at in subst (λ (l : List Ruling). Has l x.ruling) (sym k.at) (has_at k.earlier x.ruling k.later)); is = x.is }

pub decision_given : (p : Judging) (rs : List Ruling) (d : Decision) → Has (decisions_by p rs) d → is_ordered d.cause ≡ false
decision_given p rs d h =
    let x = ruling_in p rs d h in
    let r : Ruling = x.ruling in
    ap (λ (v : Decision). is_ordered v.cause) (sym x.is) ∙ verdict_given (at_moment r.moment x.policy) (allowed_records r.standings) r.judged (is_none (parent_of r.name)) r.present r.on

-- the device of a decision of a sweep
pub device_of : (policy : Judging) (rs : List Ruling) (l : Kernel) (d : Decision) → ((r : Ruling) → Has rs r → IsDevice l r.device r.name r.held r.judged) → Has (decisions_by policy rs) d → (i : ℕ) × (judged : Judged) × IsDevice l i d.name d.held judged
device_of policy rs l d devices h =
    let x = ruling_in policy rs d h in
    let r : Ruling = x.ruling in
    (r.device, r.judged, subst (λ (y : Decision). IsDevice l r.device y.name y.held r.judged) x.is (devices r x.has))

-- the last stage of an event, or the writes of an order
pub fair_so : (tried : Tries) (policy : Judging) (first : Kernel) (hs : List Happened) (tl : List Told) (es : List Entry) (moment : Moment) (present : Bool) (k l : Kernel) (w v : State Judging) → at_moment moment w.judge ≡ w.judge → v.hub ≡ w.hub → (AreDefaulted w.hub k w.standings → AreDefaulted w.hub l v.standings) → (fair : IsFair policy_answer policy_later (terms_of present w.hub) tried k w l v) → ((before : List PolicyStep) (ds : List Decision) (r : Ruling) → told_by policy before ≡ tl ++ decided ds → ((d : Decision) → Has ds d → is_ordered d.cause ≡ false) → IsAt tried present moment k l w.standings fair.rest ds (decision_by (after_steps policy before) r) r → IsPlaced policy hs before l r) → SoFar policy first k hs tl es w → SoFar policy first l hs (tl ++ decided (unordered (decisions_in fair.rest))) (es ++ fair.rest) v
fair_so tried policy first hs tl es moment present k l w v at hub keeps fair placing so =
    let rest : List Entry = fair.rest in
    let ss : List Standing = w.standings in
    let account = subst (λ (j : Judging). Account policy_answer policy_later (terms_of present w.hub) tried k l ss k.log j w.next rest l.log v.judge v.next) (sym at) fair.account in
    let x = walk tried (terms_of present w.hub) moment k l ss k.log w.judge w.next so.stand.numbers so.stand.distinct rest l.log v.judge v.next account in
    let says = account_says policy_answer policy_later (terms_of present w.hub) tried k l ss k.log w.judge w.next rest l.log v.judge v.next so.stand.numbers fair.account in
    let plain : (d : Decision) → Has (decisions_in rest) d → is_ordered d.cause ≡ false = λ d a. decision_given w.judge x.rulings d (subst (λ (ds : List Decision). Has ds d) x.told a) in
    let inner : unordered (decisions_in rest) ≡ decisions_in rest = unordered_all (decisions_in rest) plain in
    let all : decisions_in (es ++ rest) ≡ decisions_in es ++ decisions_in rest = decisions_append es rest in
    let given : unordered (decisions_in (es ++ rest)) ≡ unordered (decisions_in es) ++ decisions_in rest = ap (λ (ds : List Decision). unordered ds) all ∙ unordered_append (decisions_in es) (decisions_in rest) ∙ ap (λ (ds : List Decision). unordered (decisions_in es) ++ ds) inner in
    let known : AreKnown (decisions_in es ++ decisions_in rest) l v.standings = λ c a. elim (has_cases (decisions_in es) (decisions_in rest) c a) [
      | inl b ↦ known_still (decisions_in es) k l ss v.standings w.next rest v.next fair.grows so.stand says fair.left so.known c b
      | inr b ↦ known_new k l ss v.standings w.next rest v.next so.stand says fair.left (λ e i. device_of w.judge x.rulings l e (λ r z. let at = place_of x.rulings r z in (x.placed at.0 r at.1 at.2).device) (subst (λ (ds : List Decision). Has ds e) x.told i)) c b
    ] in
    record {
      stand = fair.stand;
      steps = so.steps ++ ruled x.rulings;
      told = ap (λ (l : List Told). l ++ decided (unordered (decisions_in rest))) so.told
          ∙ ap (λ (ds : List Decision). told_by policy so.steps ++ decided ds) (inner ∙ x.told ∙ alike_decisions w.judge (after_steps policy so.steps) x.rulings so.judge)
          ∙ ap (λ (l : List Told). told_by policy so.steps ++ l) (sym (told_ruled (after_steps policy so.steps) x.rulings))
          ∙ sym (told_then policy so.steps (ruled x.rulings));
      can = can_then policy so.steps (ruled x.rulings) so.can (can_ruled (after_steps policy so.steps) x.rulings);
      judge = λ m. ap (λ (j : Judging). at_moment m j) x.judge_is ∙ alike_after w.judge (after_steps policy so.steps) x.rulings so.judge m ∙ ap (λ (j : Judging). at_moment m j) (sym (after_ruled (after_steps policy so.steps) x.rulings) ∙ sym (steps_append policy so.steps (ruled x.rulings)));
      placed = λ before r after at. elim (where_cut so.steps (ruled x.rulings) before (Ruled r) after at) [
        | inl b ↦ placed_same policy hs before k l r fair.grows (so.placed before r b.rest b.here)
        | inr b ↦
            let a = ruled_at x.rulings b.more r after b.there in
            let q : Judging = after_steps policy so.steps in
            let ds : List Decision = decisions_by w.judge a.earlier in
            let steps : before ≡ so.steps ++ ruled a.earlier = b.beyond ∙ ap (λ (l : List PolicyStep). so.steps ++ l) a.more_is in
            let told : told_by policy before ≡ tl ++ decided ds =
            ap (λ (l : List PolicyStep). told_by policy l) steps ∙ told_then policy so.steps (ruled a.earlier)
            ∙ ap (λ (l : List Told). l ++ told_by q (ruled a.earlier)) (sym so.told)
            ∙ ap (λ (l : List Told). tl ++ l) (told_ruled q a.earlier ∙ ap (λ (l : List Decision). decided l) (sym (alike_decisions w.judge q a.earlier so.judge))) in
            let same : after_steps policy before ≡ after_rulings q a.earlier = ap (λ (l : List PolicyStep). after_steps policy l) steps ∙ steps_append policy so.steps (ruled a.earlier) ∙ after_ruled q a.earlier in
            let one : decision_by (after_rulings w.judge a.earlier) r ≡ decision_by (after_steps policy before) r = decision_alike (after_rulings w.judge a.earlier) (after_steps policy before) r (alike_after w.judge q a.earlier so.judge r.moment ∙ ap (λ (j : Judging). at_moment r.moment j) (sym same)) in
            placing before ds r told (decision_given w.judge a.earlier) (subst (λ (d : Decision). IsAt tried present moment k l ss rest ds d r) one (x.placed a.earlier r a.later a.at))
      ];
      changed = λ before c after at. elim (where_cut so.steps (ruled x.rulings) before (Changed c) after at) [
        | inl b ↦ so.changed before c b.rest b.here
        | inr b ↦ absurd (ruled_unchanged x.rulings c (subst (λ (l : List PolicyStep). Has l (Changed c)) (sym b.there) (has_at b.more (Changed c) after)))
      ];
      ordered = λ front d back at is. ordered_in hs es rest front d back plain so.ordered at is;
      written = subst (λ (o : Option Write). AllWritten o (es ++ rest) first l) (sym hub) (record {
        added = so.written.added ++ x.added;
        log = x.log_is ∙ ap (λ (ws : List Effect). ws ++ x.added) so.written.log ∙ append_assoc first.log so.written.added x.added;
        each = written_lifted w.hub es so.written.added ss l rest x.added so.agree (written_stays w.hub [] k l es so.written.added fair.grows so.written.each) x.written;
      });
      numbers = subst (λ (ds : List Decision). Follow 1 (numbers_on ds) v.next) (sym given) (subst (λ (ns : List ℕ). Follow 1 ns v.next) (sym (numbers_append (unordered (decisions_in es)) (decisions_in rest))) (follow_append 1 (given_numbers es) (told_numbers rest) w.next v.next so.numbers x.numbers));
      agree = lift_agree es ss v.standings rest so.agree (agree_left ss w.next v.next rest v.standings k so.stand x.numbers fair.left.told);
      known = subst (λ (ds : List Decision). AreKnown ds l v.standings) (sym all) known;
      defaulted = subst (λ (o : Option Write). AreDefaulted o l v.standings) (sym hub) (keeps so.defaulted);
    }
  where
    placed_same : (policy : Judging) (hs : List Happened) (before : List PolicyStep) (k l : Kernel) (r : Ruling) → Grows k l → IsPlaced policy hs before k r → IsPlaced policy hs before l r
    placed_same policy hs before k l r g p = subst (λ (x : List Happened). IsPlaced policy x before l r) (append-nil hs) (placed_stays policy hs [] before k l r g p)

    decision_alike : (p q : Judging) (r : Ruling) → at_moment r.moment p ≡ at_moment r.moment q → decision_by p r ≡ decision_by q r
    decision_alike p q r same = ap (λ (x : Judging). record { number = r.number; name = r.name; held = r.held; verdict = (verdict_of x (allowed_records r.standings) r.judged (is_none (parent_of r.name)) r.present r.on).0; cause = (verdict_of x (allowed_records r.standings) r.judged (is_none (parent_of r.name)) r.present r.on).1 }) same

-- the place of a ruling of the last stage of an event
pub placed_new : (policy : Judging) (hs : List Happened) (h : Happened) (rest : List Entry) (before : List PolicyStep) (ds : List Decision) (r : Ruling) → LogsValues h.kernel h.kernel_answered → h.after.sweep.entries ≡ h.answered.sweep.entries ++ (rest ++ entry.End h.answered.event ∷ []) → h.answered.sweep.listed ≡ has_listed hs → unordered (decisions_in h.answered.sweep.entries) ≡ []
    → told_by policy before ≡ (told_of hs ++ told_if (was_done h.after.reply) (changes_asked (ready_of h) h.event)) ++ decided ds → ((d : Decision) → Has ds d → is_ordered d.cause ≡ false)
    → IsAt (tried_in h.answered.due) (not h.answered.sweep.listed) (moment_of h.event) h.kernel_answered h.kernel_after h.answered.sweep.standings rest ds (decision_by (after_steps policy before) r) r → IsPlaced policy (hs ++ h ∷ []) before h.kernel_after r
placed_new policy hs h rest before ds r values entries listed silent told plain p =
    let y : Entry = entry.End h.answered.event in
    let this : Entry = decided_entry (decision_by (after_steps policy before) r) in
    let asked : List Told = told_if (was_done h.after.reply) (changes_asked (ready_of h) h.event) in
    let front_plain : unordered (decisions_in p.front) ≡ decisions_in p.front = unordered_all (decisions_in p.front) (λ d a. plain d (subst (λ (l : List Decision). Has l d) p.told a)) in
    let amid : unordered (decisions_in (h.answered.sweep.entries ++ p.front)) ≡ ds =
    ap (λ (l : List Decision). unordered l) (decisions_append h.answered.sweep.entries p.front) ∙ unordered_append (decisions_in h.answered.sweep.entries) (decisions_in p.front)
    ∙ ap (λ (l : List Decision). l ++ unordered (decisions_in p.front)) silent ∙ front_plain ∙ p.told in
    record {
      earlier = hs;
      event = h;
      later = [];
      in_run = refl;
      front = p.front;
      back = p.back ++ y ∷ [];
      in_event = entries ∙ ap (λ (es : List Entry). h.answered.sweep.entries ++ (es ++ y ∷ [])) p.at ∙ ap (λ (es : List Entry). h.answered.sweep.entries ++ es) (append_assoc p.front (this ∷ p.back) (y ∷ []));
      told = told ∙ append_assoc (told_of hs) asked (decided ds) ∙ ap (λ (l : List Decision). told_of hs ++ (asked ++ decided l)) (sym amid);
      moment = p.moment_is;
      present = p.present_is ∙ ap (λ (b : Bool). not b) listed;
      device = p.device;
      probed = p.probed;
      met = λ d at. let x = values.value r.device d at in (values.more, values.log, sym (p.probed.met x.0 x.1) ∙ x.2);
      stand = p.stand;
      left = p.left;
      marked = p.marked;
    }
