-- A run as it is seen from outside, against the daemon's own account of it.
use Rattle.std.proofs.Common.{◌≡◌, ℕ, Bool, true, false, List, [], ◌∷◌, ◌++◌, map, ◌||◌, Option, Some, None, is_none, Result, Ok, refl, sym, ◌∙◌, ap, inl, inr, append_assoc}
use Rattle.ug_types.specs.Elements.{Has}
use Rattle.std.specs.Option.{option_map}
use Rattle.ug_types.specs.Names.{parent_of}
use Rattle.ug_types.specs.declared.event.Event.{Event}
use Rattle.ug_types.specs.declared.event.Event.TheVariants.{Sweep, Order, Hint}
use Rattle.ug_types.specs.declared.record.DeviceRecord.{DeviceRecord}
use Rattle.ug_types.specs.declared.record.Judged.{Judged}
use Rattle.ug_types.specs.declared.record.Judged.TheVariants.{Good, Malformed}
use Rattle.ug_types.specs.declared.saved.Saved.{Saved}
use Rattle.ug_types.specs.declared.verdict.Cause.{Cause}
use Rattle.ug_types.specs.declared.verdict.Cause.TheVariants as cause
use Rattle.ug_types.specs.declared.verdict.Target.{Target}
use Rattle.ug_types.specs.declared.verdict.Target.TheVariants as target
use Rattle.ug_types.proofs.Elements.{has_cases}
use Rattle.ug_kernel.specs.declared.control.Held.{Held}
use Rattle.ug_audit.specs.declared.entry.Entry.{Entry}
use Rattle.ug_audit.specs.declared.entry.Entry.TheVariants as entry
use Rattle.ug_cond.specs.declared.context.Context.{Context}
use Rattle.ug_cond.specs.Judgements.{Judgement}
use Rattle.ug_conf.specs.declared.settings.Present.{Present}
use Rattle.ug_conf.specs.declared.settings.Present.TheVariants as present
use Rattle.ug_policy.specs.Deciding.{decider}
use Rattle.ug_policy.specs.Matching.{answer_by}
use Rattle.ug_policy.specs.declared.entry.RuleEntry.{RuleEntry}
use Rattle.ug_proto.specs.declared.request.Request.{Request}
use Rattle.ug_proto.specs.declared.request.Request.TheVariants as request
use Rattle.ug_proto.specs.Requests.{request_read}
use Rattle.ug_table.specs.Allowed.{allowed_of, allowed_records}
use Rattle.ug_table.specs.Parts.{writes_in}
use Rattle.ug_table.specs.Standings.{numbered}
use Rattle.ug_table.specs.declared.standing.Standing.{Standing}
use Rattle.ug_core.specs.declared.changes.Change.{Change}
use Rattle.ug_core.specs.declared.changes.Change.TheVariants as kind_of
use Rattle.ug_core.specs.Chain.{Happened, changes_asked, decided, has_listed, journal, lists_all, ready_of, told_if, told_in, told_of, was_done}
use Rattle.ug_core.specs.Changes.{change_asked, changed_by, record_change, standing_change}
use Rattle.ug_core.specs.Event.{DaemonState, ready}
use Rattle.ug_core.specs.InForce.{Decision, decisions_in, unordered}
use Rattle.ug_core.specs.Policy.{Judging, by_choice, cause_for, choice_for, found_for, is_apply, judgements_if, judgements_of, verdict_of}
use Rattle.ug_core.specs.Rulings.{CanTake, Changed, Decided, PolicyStep, Ruled, Told, Was_changed, after_ruling, after_steps, at_moment, changed_alone, decision_by, judgements_for, told_by}
use Rattle.ug_headline.specs.Headline.{AreSilent, Changes, Deed, Judges, Line, Verdict, after_deeds, applied_by, applied_in, done_change, deeds_of, has_listed_all, lines_of_run, verdict_deed, verdict_deeds}
use Rattle.ug_headline.specs.Seeing.{line_of, seen_of}

-- what was told, as deeds
abbrev pub deed : Told → Deed
deed (Was_changed change) = Changes change
deed (Decided d) = Judges d.number d.name d.held d.verdict d.cause

pub map_append : {X Y : Type 0} (f : X → Y) (xs ys : List X) → map f (xs ++ ys) ≡ map f xs ++ map f ys
map_append f [] ys = refl
map_append {Y = Y} f (x ∷ xs) ys = ap (λ (l : List Y). f x ∷ l) (map_append f xs ys)

-- an order asks the same before its event and in it

same_record : (judged : Judged) (verdict : Target) (p : Judging) (c : Context) → record_change judged verdict (record p { ctx = c }) ≡ record_change judged verdict p
same_record (Good dev) verdict p c = refl
same_record (Malformed kind place) verdict p c = refl

same_standing : (o : Option Standing) (verdict : Target) (p : Judging) (c : Context) → standing_change o verdict (record p { ctx = c }) ≡ standing_change o verdict p
same_standing None verdict p c = refl
same_standing (Some s) verdict p c = same_record s.judged verdict p c

same_asked : (ss : List Standing) (p : Judging) (c : Context) (read : Result Request ℕ) → change_asked ss (record p { ctx = c }) read ≡ change_asked ss p read
same_asked ss p c (Ok (request.AppendRule place permanent text)) = refl
same_asked ss p c (Ok (request.RemoveRule id)) = refl
same_asked ss p c (Ok (request.SetParameter name value)) = refl
same_asked ss p c (Ok (request.Device number verdict true)) = same_standing (numbered number ss) verdict p c
same_asked ss p c (Ok (request.Device number verdict false)) = refl
same_asked ss p c read = refl

same_changes : (at : Event) (tried : Option Saved) (d : DaemonState) (event : Event) → changes_asked (ready at tried d) event ≡ changes_asked d event
same_changes at tried d (Sweep moment) = refl
same_changes at tried d (Hint moment piece) = refl
same_changes at tried d (Order moment who line) = same_asked d.sweep.standings d.sweep.judge _ (request_read line)

-- the account, part by part

pub journal_seen : (hs : List Happened) → lines_of_run (map seen_of hs) ≡ map line_of (journal hs)
journal_seen [] = refl
journal_seen (h ∷ hs) = ap (λ (es : List Line). map line_of h.after.sweep.entries ++ es) (journal_seen hs) ∙ sym (map_append line_of h.after.sweep.entries (journal hs))

pub listed_seen : (hs : List Happened) → has_listed_all (map seen_of hs) ≡ has_listed hs
listed_seen [] = refl
listed_seen (h ∷ hs) = ap (λ (b : Bool). lists_all h || b) (listed_seen hs)

deeds_if : (done : Bool) (o : Option Change) → map deed (told_if done o) ≡ done_change done o
deeds_if true (Some change) = refl
deeds_if true None = refl
deeds_if false o = refl

deeds_one : (number : ℕ) (name : List ℕ) (held : Held) (verdict : Target) (why : Cause) (ds : List Decision) (later : List Deed) → map deed (decided (unordered ds)) ≡ later
    → map deed (decided (unordered (record { number = number; name = name; held = held; verdict = verdict; cause = why } ∷ ds))) ≡ verdict_deed (Verdict number name held verdict why) ++ later
deeds_one number name held verdict (cause.Order who) ds later rest = rest
deeds_one number name held verdict why ds later rest = ap (λ (l : List Deed). Judges number name held verdict why ∷ l) rest

deeds_decided : (es : List Entry) → map deed (decided (unordered (decisions_in es))) ≡ verdict_deeds (map line_of es)
deeds_decided [] = refl
deeds_decided (entry.Judged number name held verdict why ∷ es) = deeds_one number name held verdict why (decisions_in es) (verdict_deeds (map line_of es)) (deeds_decided es)
deeds_decided (e ∷ es) = deeds_decided es

deeds_in : (h : Happened) → map deed (told_in h) ≡ done_change (was_done h.after.reply) (changes_asked h.before h.event) ++ verdict_deeds (map line_of h.after.sweep.entries)
deeds_in h =
    let here : List Told = told_if (was_done h.after.reply) (changes_asked (ready_of h) h.event) in
    let ds : List Decision = unordered (decisions_in h.after.sweep.entries) in
    map_append deed here (decided ds)
    ∙ ap (λ (l : List Deed). l ++ map deed (decided ds)) (deeds_if (was_done h.after.reply) (changes_asked (ready_of h) h.event) ∙ ap (λ (o : Option Change). done_change (was_done h.after.reply) o) (same_changes h.event h.tried h.before h.event))
    ∙ ap (λ (l : List Deed). done_change (was_done h.after.reply) (changes_asked h.before h.event) ++ l) (deeds_decided h.after.sweep.entries)

pub deeds_seen : (hs : List Happened) → deeds_of (map seen_of hs) ≡ map deed (told_of hs)
deeds_seen [] = refl
deeds_seen (h ∷ hs) =
    let here : List Deed = done_change (was_done h.after.reply) (changes_asked h.before h.event) in
    let next : List Deed = verdict_deeds (map line_of h.after.sweep.entries) in
    ap (λ (l : List Deed). here ++ (next ++ l)) (deeds_seen hs)
    ∙ sym (append_assoc here next (map deed (told_of hs)))
    ∙ ap (λ (l : List Deed). l ++ map deed (told_of hs)) (sym (deeds_in h))
    ∙ sym (map_append deed (told_in h) (told_of hs))

-- entries that tell no write

pub silent_lines : (es : List Entry) → writes_in es ≡ [] → AreSilent (map line_of es)
silent_lines [] h = tt
silent_lines (entry.Intent number name what ∷ es) h = let none : ⊥ = cc in absurd none
silent_lines (entry.Wrote number name what outcome ∷ es) h = let none : ⊥ = cc in absurd none
silent_lines (e ∷ es) h = silent_lines es h

-- a line that tells a verdict

pub line_judged : (e : Entry) (number : ℕ) (name : List ℕ) (held : Held) (verdict : Target) (why : Cause) → line_of e ≡ Verdict number name held verdict why → e ≡ entry.Judged number name held verdict why
line_judged (entry.Judged a b c d f) number name held verdict why h = cc
line_judged e number name held verdict why h = let none : ⊥ = cc in absurd none

-- what was told before one of the rulings

pub told_split : (p : Judging) (before more : List PolicyStep) → told_by p (before ++ more) ≡ told_by p before ++ told_by (after_steps p before) more
told_split p [] more = refl
told_split p (Ruled r ∷ before) more = ap (λ (l : List Told). Decided (decision_by p r) ∷ l) (told_split (after_ruling p r) before more)
told_split p (Changed change ∷ before) more = ap (λ (l : List Told). Was_changed change ∷ l) (told_split (changed_by change p) before more)

pub changes_alone : (p q : Judging) (steps : List PolicyStep) → changed_alone q steps ≡ after_deeds (map deed (told_by p steps)) q
changes_alone p q [] = refl
changes_alone p q (Ruled r ∷ steps) = changes_alone (after_ruling p r) q steps
changes_alone p q (Changed change ∷ steps) = changes_alone (changed_by change p) (changed_by change q) steps

pub same_clock : (deeds : List Deed) (p : Judging) → (after_deeds deeds p).clock ≡ p.clock
same_clock [] p = refl
same_clock (Judges number name held verdict why ∷ deeds) p = same_clock deeds p
same_clock (Changes change ∷ deeds) p = same_clock deeds (changed_by change p) ∙ by change
  where
    by : (c : Change) → (changed_by c p).clock ≡ p.clock
    by (kind_of.Rules edit) = refl
    by (kind_of.Set set) = refl

pub same_stream : (deeds : List Deed) (p : Judging) → (after_deeds deeds p).stream ≡ p.stream
same_stream [] p = refl
same_stream (Judges number name held verdict why ∷ deeds) p = same_stream deeds p
same_stream (Changes change ∷ deeds) p = same_stream deeds (changed_by change p) ∙ by change
  where
    by : (c : Change) → (changed_by c p).stream ≡ p.stream
    by (kind_of.Rules edit) = refl
    by (kind_of.Set set) = refl

pub can_before : (p : Judging) (before more : List PolicyStep) → CanTake p (before ++ more) → CanTake p before
can_before p [] more c = tt
can_before p (Ruled r ∷ before) more c = can_before (after_ruling p r) before more c
can_before p (Changed change ∷ before) more c = (c.0, can_before (changed_by change p) before more c.1)

-- a change is one of the steps
pub change_has : (p : Judging) (steps : List PolicyStep) (change : Change) → Has (map deed (told_by p steps)) (Changes change) → Has steps (Changed change)
change_has p [] change h = absurd h
change_has p (Ruled r ∷ steps) change (inl same) = let none : ⊥ = cc in absurd none
change_has p (Ruled r ∷ steps) change (inr h) = inr (change_has (after_ruling p r) steps change h)
change_has p (Changed x ∷ steps) change (inl same) = let one : x ≡ change = cc in inl (ap Changed one)
change_has p (Changed x ∷ steps) change (inr h) = inr (change_has (changed_by x p) steps change h)

-- the rules that decided

abbrev applied_of : List Judgement → List (Option ℕ)
applied_of js = map (λ (j : Judgement). j.applied) js

applied_one : (p : Judging) (records : List DeviceRecord) (judged : Judged) (root was on : Bool) → map (λ (j : Judgement). j.applied) (judgements_of p records judged root was) ≡ applied_by (verdict_of p records judged root was on).1
applied_one p records (Malformed kind place) root was on = refl
applied_one p records (Good dev) root was on = by (choice_for p.classes root was)
  where
    kept : (b : Bool) → [] ≡ applied_by (by_choice present.Keep was b p.classes.implicit (found_for p records dev)).1
    kept true = refl
    kept false = refl

    for_class : (b : Bool) → [] ≡ applied_by (cause_for b)
    for_class true = refl
    for_class false = refl

    asked : (o : Option RuleEntry) → option_map (λ (e : RuleEntry). e.id) o ∷ [] ≡ applied_by (answer_by p.classes.implicit o).1
    asked None = refl
    asked (Some e) = refl

    by : (choice : Present) → map (λ (j : Judgement). j.applied) (judgements_if (is_apply choice) (found_for p records dev) dev p.ctx.moment) ≡ applied_by (by_choice choice was on p.classes.implicit (found_for p records dev)).1
    by present.Allow = for_class was
    by present.Block = for_class was
    by present.Reject = for_class was
    by present.Keep = kept on
    by present.Apply = asked (decider (found_for p records dev))

pub applied_told : (p : Judging) (steps : List PolicyStep) → map (λ (j : Judgement). j.applied) (judgements_for p steps) ≡ applied_in (map deed (told_by p steps))
applied_told p [] = refl
applied_told p (Ruled r ∷ steps) =
    let q : Judging = at_moment r.moment p in
    let beside : List DeviceRecord = allowed_records r.standings in
    let root : Bool = is_none (parent_of r.name) in
    let rest : List Judgement = judgements_for (after_ruling p r) steps in
    map_append (λ (j : Judgement). j.applied) (judgements_of q beside r.judged root r.present) rest
    ∙ ap (λ (l : List (Option ℕ)). l ++ applied_of rest) (applied_one q beside r.judged root r.present r.on)
    ∙ ap (λ (l : List (Option ℕ)). applied_by (decision_by p r).cause ++ l) (applied_told (after_ruling p r) steps)
applied_told p (Changed change ∷ steps) = applied_told (changed_by change p) steps

-- the standing of a record beside
pub record IsOfStanding (ss : List Standing) (x : DeviceRecord) : Type 0 where
  pub s : Standing
  pub has : Has ss s
  pub judged : s.judged ≡ Good x

pub of_standing : (ss : List Standing) (x : DeviceRecord) → Has (allowed_records ss) x → IsOfStanding ss x
of_standing [] x h = absurd h
of_standing (s ∷ ss) x h = elim (has_cases (allowed_of s.settled s.verdict s.judged) (allowed_records ss) x h) [
  | inl a ↦ record { s = s; has = inl refl; judged = own s.settled s.verdict s.judged a }
  | inr b ↦ let k = of_standing ss x b in record { s = k.s; has = inr k.has; judged = k.judged }
]
  where
    own : (settled : Bool) (verdict : Target) (judged : Judged) → Has (allowed_of settled verdict judged) x → judged ≡ Good x
    own true target.Allow (Good y) (inl same) = ap Good same
    own true target.Allow (Good y) (inr none) = absurd none
    own true target.Allow (Malformed kind place) h = absurd h
    own true target.Block judged h = absurd h
    own true target.Reject judged h = absurd h
    own false verdict judged h = absurd h
