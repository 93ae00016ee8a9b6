-- From the laws of events to those of a run.
use Rattle.std.proofs.Common.{◌≡◌, ℕ, Bool, true, false, is_none, List, [], ◌∷◌, ◌++◌, Option, Some, slice_get, inl, inr, refl, sym, ◌∙◌, ap, subst, append_assoc, append-nil}
use Rattle.ug_types.specs.Elements.{Has}
use Rattle.ug_types.specs.Names.{parent_of}
use Rattle.ug_kernel.specs.declared.control.Held.{Held}
use Rattle.ug_kernel.specs.declared.control.Control.TheVariants.{Authorized}
use Rattle.ug_kernel.specs.declared.control.Write.{Write}
use Rattle.ug_kernel.specs.declared.device.Device.{Device}
use Rattle.ug_kernel.specs.declared.device.Effect.{Effect}
use Rattle.ug_kernel.specs.Kernel.{Kernel, Live, Moves}
use Rattle.ug_kernel.proofs.Births.{moves_then}
use Rattle.ug_kernel.proofs.Quiet.{moves_quiet}
use Rattle.ug_kernel.proofs.Stayed.{unmoving}
use Rattle.ug_audit.specs.declared.entry.Entry.{Entry}
use Rattle.ug_store.specs.Disk.{Disk}
use Rattle.ug_table.specs.Allowed.{allowed_records}
use Rattle.ug_table.specs.State.{State}
use Rattle.ug_table.specs.Laws.{Stand, AreDefaulted, wrote_entries, IsAsJudged}
use Rattle.ug_table.specs.declared.standing.Standing.{Standing}
use Rattle.ug_core.specs.Policy.{Judging}
use Rattle.ug_core.specs.Event.{DaemonState, IsStarted}
use Rattle.ug_core.specs.InForce.{Decision, IsLastTold, decision_of, decisions_in, decided_entry, last_decision, in_force, is_ordered}
use Rattle.ug_core.specs.Rulings.{Changed, Decided, Ruled, Ruling, Told, after_steps, at_moment, decision_by, ruling_answer}
use Rattle.ug_core.specs.Values.{LogsValues}
use Rattle.ug_core.proofs.Answered.{answered_values}
use Rattle.ug_core.proofs.Values.{quiet_values, values_then}
use Rattle.ug_core.specs.Chain.{Happened, IsEvent, ready_of, StaysOnDisk, Chain, IsKeptThroughout, journal, told_of, has_listed, WasDecided, IsExplained, Explains, Nothing_told, No_write, Had_effect, Had_none, AllExplained, IsJudgedOnce, IsRun}
use Rattle.ug_core.proofs.Verdicts.{is_verdict}
use Rattle.ug_core.proofs.InForce.{unordered_has, has_decision, last_told, or_else_none, same_place}
use Rattle.ug_core.proofs.Walk.{Effected, None_written, Others, Uneffected, Written}
use Rattle.ug_core.proofs.Kept.{stays_there, stays_then, kept_along}
use Rattle.ug_core.proofs.Known.{same_device, only_number}
use Rattle.ug_core.proofs.SoFar.{SoFar, journal_append, ruling_of, still_so, told_has}
use Rattle.ug_core.proofs.Splits.{has_at, never_in}
use Rattle.ug_core.proofs.OneMore.{one_more}

moved : (policy : Judging) (first k l : Kernel) (hs : List Happened) (w : State Judging) → Moves k l → SoFar policy first k hs (told_of hs) (journal hs) w → SoFar policy first l hs (told_of hs) (journal hs) w
moved policy first k l hs w m so = subst (λ (x : List Happened). SoFar policy first l x (told_of hs) (journal hs) w) (append-nil hs) (still_so policy first k l hs [] (told_of hs) (journal hs) w (moves_quiet k l m) so)

pub along : (policy : Judging) (first : Kernel) (done hs : List Happened) (k : Kernel) (o : Option Disk) (d : DaemonState) (l : Kernel) (p : Option Disk) (e : DaemonState) → Chain k o d hs l p e → d.sweep.listed ≡ has_listed done → SoFar policy first k done (told_of done) (journal done) d.sweep → SoFar policy first l (done ++ hs) (told_of (done ++ hs)) (journal (done ++ hs)) e.sweep × (e.sweep.listed ≡ has_listed (done ++ hs)) × (e.sweep.hub ≡ d.sweep.hub)
along policy first done [] k o d l p e c listed so =
    subst (λ (x : DaemonState). SoFar policy first l (done ++ []) (told_of (done ++ [])) (journal (done ++ [])) x.sweep × (x.sweep.listed ≡ has_listed (done ++ [])) × (x.sweep.hub ≡ d.sweep.hub)) (sym c.2)
    (subst (λ (x : List Happened). SoFar policy first l x (told_of x) (journal x) d.sweep × (d.sweep.listed ≡ has_listed x) × (d.sweep.hub ≡ d.sweep.hub)) (sym (append-nil done)) (moved policy first k l done d.sweep c.0 so, listed, refl))
along policy first done (h ∷ hs) k o d l p e c listed so =
    let start = subst (λ (x : DaemonState). SoFar policy first h.kernel done (told_of done) (journal done) x.sweep) (sym c.2) (moved policy first k h.kernel done d.sweep c.0 so) in
    let more = one_more policy first done h c.3.answers c.3.handled (ap (λ (x : DaemonState). x.sweep.listed) c.2 ∙ listed) start in
    let r = along policy first (done ++ h ∷ []) hs h.kernel_after h.disk_after h.after l p e c.4 more.1 more.0 in
    subst (λ (x : List Happened). SoFar policy first l x (told_of x) (journal x) e.sweep × (e.sweep.listed ≡ has_listed x) × (e.sweep.hub ≡ d.sweep.hub)) (append_assoc done (h ∷ []) hs) (r.0, r.1, r.2 ∙ more.2 ∙ ap (λ (x : DaemonState). x.sweep.hub) c.2)

pub started_so : (policy : Judging) (hub : Option Write) (number : ℕ) (k : Kernel) (d : DaemonState) → IsStarted policy hub number d → SoFar policy k k [] [] [] d.sweep
started_so policy hub number k d s =
    let none : (x : Standing) → Has d.sweep.standings x → ⊥ = λ x a. subst (λ (ss : List Standing). Has ss x) s.standings a in
    record {
      stand = subst (λ (ss : List Standing). Stand k ss d.sweep.next) (sym s.standings) (record { devices = λ x a. absurd a; hashes = λ x a. absurd a; numbers = λ x a. absurd a; names = tt; order = tt; distinct = tt; done = λ control x a. absurd a });
      steps = [];
      told = refl;
      can = tt;
      judge = λ m. ap (λ (j : Judging). at_moment m j) s.judge;
      placed = λ before r after at. absurd (never_in before (Ruled r) after at);
      changed = λ before c after at. absurd (never_in before (Changed c) after at);
      ordered = λ front c back at is. absurd (never_in front (decided_entry c) back at);
      written = record { added = []; log = sym (append-nil k.log); each = None_written };
      numbers = s.next;
      agree = λ x a. absurd (none x a);
      known = λ c a. absurd a;
      defaulted = λ x a marked i file what due. absurd (none x a);
    }

-- a decision that was told, where it was told, on the device of its held file
decided_on : (policy : Judging) (first k : Kernel) (hs : List Happened) (w : State Judging) (so : SoFar policy first k hs (told_of hs) (journal hs) w) (front : List Entry) (d : Decision) (back : List Entry) (i : ℕ) → journal hs ≡ front ++ decided_entry d ∷ back → slice_get k.held d.held.0 ≡ Some (record { device = i; control = Authorized }) → WasDecided policy hs so.steps k front i d
decided_on policy first k hs w so front d back i at file = by_cause (is_ordered d.cause) refl
  where
    by_cause : (b : Bool) → is_ordered d.cause ≡ b → WasDecided policy hs so.steps k front i d
    by_cause true is = inr (so.ordered front d back at is, file)
    by_cause false is =
        let there : Has (journal hs) (decided_entry d) = subst (λ (es : List Entry). Has es (decided_entry d)) (sym at) (has_at front (decided_entry d) back) in
        let h : Has (decisions_in (journal hs)) d = has_decision (journal hs) d.number d.name d.held d.verdict d.cause there in
        let x = ruling_of policy so.steps d (subst (λ (l : List Told). Has l (Decided d)) so.told (told_has hs d (unordered_has (decisions_in (journal hs)) d is h))) in
        let r : Ruling = x.ruling in
        let p = so.placed x.before r x.after x.at in
        let held : r.held ≡ d.held = ap (λ (y : Decision). y.held) x.is in
        let there : slice_get k.held r.held.0 ≡ Some (record { device = i; control = Authorized }) = subst (λ (y : Held). slice_get k.held y.0 ≡ Some (record { device = i; control = Authorized })) (sym held) file in
        let q : Judging = after_steps policy x.before in
        let one : Decision = decision_by q r in
        let said : ruling_answer q r ≡ (d.verdict, d.cause) = ap (λ (y : Decision). (y.verdict, y.cause)) x.is in
        let amid : List Entry = p.event.answered.sweep.entries in
        let own : journal hs ≡ (journal p.earlier ++ (amid ++ p.front)) ++ decided_entry one ∷ (p.back ++ journal p.later) =
        ap (λ (l : List Happened). journal l) p.in_run ∙ journal_append p.earlier (p.event ∷ p.later)
        ∙ ap (λ (es : List Entry). journal p.earlier ++ (es ++ journal p.later)) (p.in_event ∙ sym (append_assoc amid p.front (decided_entry one ∷ p.back)))
        ∙ ap (λ (es : List Entry). journal p.earlier ++ es) (append_assoc (amid ++ p.front) (decided_entry one ∷ p.back) (journal p.later))
        ∙ sym (append_assoc (journal p.earlier) (amid ++ p.front) (decided_entry one ∷ (p.back ++ journal p.later))) in
        inl (record {
          before = x.before;
          ruling = r;
          after = x.after;
          at = x.at;
          number = ap (λ (y : Decision). y.number) x.is;
          name = ap (λ (y : Decision). y.name) x.is;
          held = held;
          device = same_device k r.held.0 r.device i p.device.file there;
          placed = p;
          here = same_place 1 w.next (journal hs) front (journal p.earlier ++ (amid ++ p.front)) d one back (p.back ++ journal p.later) is (ap (λ (y : Decision). is_ordered y.cause) x.is ∙ is) (sym (ap (λ (y : Decision). y.number) x.is)) at own so.numbers;
          given = is_verdict (at_moment r.moment q) (allowed_records r.standings) r.judged (is_none (parent_of r.name)) r.present r.on d.verdict d.cause said;
        })

-- a verdict in force is the last that was told of its number
force_told : (es : List Entry) (d : Decision) → in_force [] es d.number ≡ Some d → IsLastTold es d
force_told es d force = last_told es d (sym (or_else_none (last_decision (decisions_in es) d.number)) ∙ force)

-- the entries are the front of the journal
explained : (policy : Judging) (first k : Kernel) (hs : List Happened) (v : State Judging) (so : SoFar policy first k hs (told_of hs) (journal hs) v) (es back : List Entry) (log : List Effect) → journal hs ≡ es ++ back → Written v.hub [] k es log → Explains v.hub policy hs so.steps k es log
explained policy first k hs v so _ back _ at None_written = Nothing_told
explained policy first k hs v so _ back _ at (Others es more log none w) = No_write es more log none (explained policy first k hs v so es (more ++ back) log (at ∙ append_assoc es more back) w)
explained policy first k hs v so _ back _ at (Effected es log decision outcome effect is may w) =
    let two : List Entry = wrote_entries decision.number decision.name effect.write outcome in
    let cut : journal hs ≡ es ++ (two ++ back) = at ∙ append_assoc es two back in
    let told : IsLastTold es decision = force_told es decision is.force in
    let whole : journal hs ≡ told.before ++ decided_entry decision ∷ (told.since ++ (two ++ back)) = cut ∙ ap (λ (l : List Entry). l ++ (two ++ back)) told.at ∙ append_assoc told.before (decided_entry decision ∷ told.since) (two ++ back) in
    let this : IsExplained v.hub policy hs so.steps k es decision effect = record { force = is.force; wanted = is.wanted; told = told; decided = decided_on policy first k hs v so told.before decision (told.since ++ (two ++ back)) effect.device whole is.device.file } in
    Had_effect es log decision outcome effect may this (explained policy first k hs v so es (two ++ back) log cut w)
explained policy first k hs v so _ back _ at (Uneffected es log number name what outcome may w) =
    let two : List Entry = wrote_entries number name what outcome in
    Had_none es log number name what outcome may (explained policy first k hs v so es (two ++ back) log (at ∙ append_assoc es two back) w)

judged_once : (policy : Judging) (first k : Kernel) (hs : List Happened) (w : State Judging) (so : SoFar policy first k hs (told_of hs) (journal hs) w) (i : ℕ) (d : Device) → Live k.devices i d → IsAsJudged w.hub k w.standings i → IsJudgedOnce w.hub policy hs so.steps k w.standings i
judged_once policy first k hs w so i d live a =
    let s : Standing = a.standing.s in
    let told : IsLastTold (journal hs) (decision_of s) = force_told (journal hs) (decision_of s) (so.agree s a.standing.has) in
    record {
      stands = a;
      told = told;
      decided = decided_on policy first k hs w so told.before (decision_of s) told.since i told.at a.standing.file;
      default = λ what root due. so.defaulted s a.standing.has (a.marked what root due) i a.standing.file what due;
      once = only_number (journal hs) k w.standings w.next i d s so.stand so.known live a.standing.has a.standing.file;
    }

-- values change by writes in the log alone, through events and between them
chain_values : (k : Kernel) (o : Option Disk) (d : DaemonState) (hs : List Happened) (l : Kernel) (p : Option Disk) (e : DaemonState) → Chain k o d hs l p e → LogsValues k l
chain_values k o d [] l p e c = quiet_values k l (moves_quiet k l c.0)
chain_values k o d (h ∷ hs) l p e c =
    let begun = values_then k h.kernel h.kernel_answered (quiet_values k h.kernel (moves_quiet k h.kernel c.0)) (answered_values h.event h.kernel (ready_of h) h.became h.kernel_answered h.answered c.3.answers) in
    values_then k h.kernel_answered l begun (values_then h.kernel_answered h.kernel_after l c.3.handled.values (chain_values h.kernel_after h.disk_after h.after hs l p e c.4))

pub run_of : (policy : Judging) (hub : Option Write) (first k : Kernel) (o : Option Disk) (hs : List Happened) (p : Option Disk) (e : DaemonState) → e.sweep.hub ≡ hub → e.sweep.listed ≡ has_listed hs → SoFar policy first k hs (told_of hs) (journal hs) e.sweep → LogsValues first k → IsKeptThroughout policy.rules o hs p e.sweep.judge.rules → IsRun policy hub first o hs k p e
run_of policy hub first k o hs p e setting listed so values file = record {
  steps = so.steps;
  told = so.told;
  can = so.can;
  placed = so.placed;
  changed = so.changed;
  ordered = so.ordered;
  explained = subst (λ (o : Option Write). AllExplained o policy hs so.steps first k) setting (record { added = so.written.added; log = so.written.log; each = explained policy first k hs e.sweep so (journal hs) [] so.written.added (sym (append-nil (journal hs))) so.written.each });
  values = values;
  numbers = so.numbers;
  agree = so.agree;
  setting = setting;
  defaulted = subst (λ (o : Option Write). AreDefaulted o k e.sweep.standings) setting so.defaulted;
  listed = listed;
  once = subst (λ (o : Option Write). (i : ℕ) (d : Device) → Live k.devices i d → IsAsJudged o k e.sweep.standings i → IsJudgedOnce o policy hs so.steps k e.sweep.standings i) setting (judged_once policy first k hs e.sweep so);
  file = file;
}

pub is_run : (policy : Judging) (hub : Option Write) (number : ℕ) (first : Kernel) (o : Option Disk) (d : DaemonState) (hs : List Happened) (k : Kernel) (p : Option Disk) (e : DaemonState) → IsStarted policy hub number d → Chain first o d hs k p e → IsRun policy hub first o hs k p e
is_run policy hub number first o d hs k p e s c =
    let so = along policy first [] hs first o d k p e c s.listed (started_so policy hub number first d s) in
    run_of policy hub first k o hs p e (so.2 ∙ s.hub) so.1 so.0 (chain_values first o d hs k p e c)
    (subst (λ (j : Judging). IsKeptThroughout j.rules o hs p e.sweep.judge.rules) s.judge (kept_along first o d hs k p e c))

-- a chain, and one event more
pub chain_more : (k : Kernel) (o : Option Disk) (d : DaemonState) (hs : List Happened) (l : Kernel) (p : Option Disk) (e : DaemonState) (h : Happened) → Chain k o d hs l p e → Moves l h.kernel → StaysOnDisk p h.disk → h.before ≡ e → IsEvent h → Chain k o d (hs ++ h ∷ []) h.kernel_after h.disk_after h.after
chain_more k o d [] l p e h c moves stays before law = (moves_then k l h.kernel c.0 moves, stays_then o p h.disk c.1 stays, before ∙ c.2, law, (unmoving h.kernel_after, stays_there h.disk_after, refl))
chain_more k o d (g ∷ hs) l p e h c moves stays before law = (c.0, c.1, c.2, c.3, chain_more g.kernel_after g.disk_after g.after hs l p e h c.4 moves stays before law)

-- and the kernel moves on, while the disk stays
pub chain_moves : (k : Kernel) (o : Option Disk) (d : DaemonState) (hs : List Happened) (l m : Kernel) (p q : Option Disk) (e : DaemonState) → Chain k o d hs l p e → Moves l m → StaysOnDisk p q → Chain k o d hs m q e
chain_moves k o d [] l m p q e c moves stays = (moves_then k l m c.0 moves, stays_then o p q c.1 stays, c.2)
chain_moves k o d (g ∷ hs) l m p q e c moves stays = (c.0, c.1, c.2, c.3, chain_moves g.kernel_after g.disk_after g.after hs l m p q e c.4 moves stays)
