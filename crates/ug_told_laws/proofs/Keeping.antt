-- Devices that a run was told of stand as judged, or stay named.
use Rattle.std.proofs.Common.{◌≡◌, ℕ, Bool, true, false, List, [], ◌∷◌, ◌++◌, Option, Some, None, inl, inr, refl, sym, ◌∙◌, ap, subst, append_assoc}
use Rattle.std.specs.Prelude.{slice_get, ◌⊎◌, ◌&&◌, not, is_none}
use Rattle.std.specs.List.{list_any}
use Rattle.std.proofs.lemmas.List.{append-nil}
use Rattle.ug_types.specs.Elements.{Has}
use Rattle.ug_types.proofs.Elements.{has_cases, has_left, has_right, last_is}
use Rattle.ug_kernel.specs.declared.control.Control.TheVariants.{Authorized}
use Rattle.ug_kernel.specs.declared.control.Write.{Write}
use Rattle.ug_kernel.specs.declared.device.Device.{Device}
use Rattle.ug_kernel.specs.declared.device.Effect.{Effect}
use Rattle.ug_kernel.specs.Kernel.{Kernel, Live, Moves}
use Rattle.ug_kernel.specs.Called.{Lived}
use Rattle.ug_kernel.specs.Quiet.{Quiet, Grows}
use Rattle.ug_kernel.proofs.Quiet.{moves_quiet}
use Rattle.ug_kernel.proofs.Grow.{quiet_grows}
use Rattle.ug_kernel.proofs.HeldFiles.{live_before}
use Rattle.ug_audit.specs.declared.entry.Entry.{Entry}
use Rattle.ug_audit.specs.declared.entry.Entry.TheVariants as entry
use Rattle.ug_store.specs.Disk.{Disk}
use Rattle.ug_table.specs.State.{State}
use Rattle.ug_table.specs.Laws.{IsNamed, IsUnlisted, IsAsJudged}
use Rattle.ug_table.specs.declared.standing.Standing.{Standing}
use Rattle.ug_table.proofs.NamedStandings.{either_listed}
use Rattle.ug_core.specs.Policy.{Judging}
use Rattle.ug_core.specs.Event.{DaemonState, IsStarted}
use Rattle.ug_core.specs.Laws.{AnswersEvent, Handled, SettlesDue}
use Rattle.ug_core.specs.Hinting.{MeetsPiece, names_due}
use Rattle.ug_audit.specs.declared.entry.Fault.TheVariants as fault
use Rattle.ug_types.specs.declared.verdict.Moment.{Moment}
use Rattle.ug_types.specs.declared.event.Event.{Event}
use Rattle.ug_types.specs.declared.event.Event.TheVariants as event
use Rattle.ug_core.specs.Chain.{Happened, Chain, IsEvent, has_listed, journal, lists_all, ready_of, tells_unlisted, told_of}
use Rattle.ug_core.proofs.Answered.{answered_values}
use Rattle.ug_core.proofs.Chained.{started_so}
use Rattle.ug_core.proofs.OneMore.{one_more}
use Rattle.ug_core.proofs.SoFar.{SoFar, still_so}
use Rattle.ug_told_laws.specs.Told.{AllLeaveOthers, Announces, AreAllAnnounced, IsAnnouncedIn, IsDueName, IsToldOf, KeepsTold, LeavesOthers, LooksAt, OwesAll, StandsBehindLast, StaysNamed, WasTold}

-- ---- between two events

quiet_judged : (hub : Option Write) (k l : Kernel) (ss : List Standing) (i : ℕ) → Quiet k l → IsAsJudged hub k ss i → IsAsJudged hub l ss i
quiet_judged hub k l ss i q a =
    let x = q.devices i a.d a.device in
    let logs : (w : Effect) → Has k.log w → Has l.log w = λ w h. subst (λ (es : List Effect). Has es w) (sym q.log) h in
    record {
      standing = record { s = a.standing.s; has = a.standing.has; file = q.held a.standing.s.held.0 (record { device = i; control = Authorized }) a.standing.file };
      d = x.0;
      device = x.1;
      value = x.2.on ∙ a.value;
      removal = λ r. logs _ (a.removal r);
      marked = a.marked;
      default = λ what root due. let w = a.default what root due in (w.0, w.1, logs (record { device = i; write = w.0 }) w.2);
    }

-- the kernel has each device that an event was told of
abbrev pub Knows : List Happened → Kernel → Type 0
Knows hs k = (i : ℕ) → WasTold hs i → (d : Device) × (slice_get k.devices i ≡ Some d)

quiet_keeps : (hub : Option Write) (hs : List Happened) (k l : Kernel) (ss : List Standing) → Quiet k l → Knows hs k → KeepsTold hub hs k ss → KeepsTold hub hs l ss
quiet_keeps hub hs k l ss q known keeps i d live told =
    let x = known i told in
    let b = live_before k l i x.0 d (quiet_grows k l q) x.1 live in
    elim (keeps i x.0 b.0 told) [
      | inl a ↦ inl (quiet_judged hub k l ss i q a)
      | inr n ↦ inr (subst (λ (v : List ℕ). StaysNamed hs v) (sym b.1.name) n)
    ]

quiet_knows : (hs : List Happened) (k l : Kernel) → Quiet k l → Knows hs k → Knows hs l
quiet_knows hs k l q known i told =
    let x = known i told in
    let y = q.devices i x.0 x.1 in
    (y.0, y.1)

-- ---- one event

none_all : (h : Happened) (names : List (List ℕ)) → h.answered.due ≡ Some names → lists_all h ≡ true → ⊥
none_all h names due all =
    let no : false ≡ true = sym (ap (λ (o : Option (List (List ℕ))). is_none o && not (list_any tells_unlisted h.after.sweep.entries)) due) ∙ all in
    let none : ⊥ = cc in none

-- what the event leaves of one that was named before, where it doesn't look at the name
still_named : (hs : List Happened) (h : Happened) (name : List ℕ) → (LooksAt h.answered.due name → ⊥) → StaysNamed hs name → StaysNamed (hs ++ h ∷ []) name
still_named hs h name none n = record {
  earlier = n.earlier;
  event = n.event;
  later = n.later ++ h ∷ [];
  in_run = ap (λ (v : List Happened). v ++ h ∷ []) n.in_run ∙ append_assoc n.earlier (n.event ∷ n.later) (h ∷ []);
  looks = n.looks;
  named = n.named;
  since = λ x has looks. elim (has_cases n.later (h ∷ []) x has) [
    | inl a ↦ n.since x a looks
    | inr (inl is) ↦ none (subst (λ (v : Happened). LooksAt v.answered.due name) (sym is) looks)
    | inr (inr bad) ↦ absurd bad
  ];
}

named_now : (hs : List Happened) (h : Happened) (name : List ℕ) → LooksAt h.answered.due name → IsNamed h.after.sweep.entries name ⊎ IsUnlisted h.after.sweep.entries → StaysNamed (hs ++ h ∷ []) name
named_now hs h name looks named = record {
  earlier = hs;
  event = h;
  later = [];
  in_run = refl;
  looks = looks;
  named = named;
  since = λ x has looks_later. has;
}

module _ (hub : Option Write) (hs : List Happened) (h : Happened) (e : IsEvent h) (at_hub : h.answered.sweep.hub ≡ hub) (others : LeavesOthers hub h) (keeps : KeepsTold hub hs h.kernel h.before.sweep.standings) (known : Knows hs h.kernel) where
  abbrev a : State Judging
  a = h.answered.sweep

  abbrev v : State Judging
  v = e.handled.swept

  standings : h.after.sweep.standings ≡ v.standings
  standings = ap (λ (w : State Judging). w.standings) e.handled.entries

  -- an entry of the last stage is one of the event
  later : (rest : List Entry) (x : Entry) → v.entries ≡ a.entries ++ rest → Has rest x → Has h.after.sweep.entries x
  later rest x is has =
      subst (λ (es : List Entry). Has es x) (sym (ap (λ (w : State Judging). w.entries) e.handled.entries))
      (has_left v.entries (entry.End h.answered.event ∷ []) x (subst (λ (es : List Entry). Has es x) (sym is) (has_right a.entries rest x has)))

  judged : (i : ℕ) → IsAsJudged a.hub h.kernel_after v.standings i → IsAsJudged hub h.kernel_after h.after.sweep.standings i
  judged i x = subst (λ (o : Option Write). IsAsJudged o h.kernel_after h.after.sweep.standings i) at_hub (subst (λ (ss : List Standing). IsAsJudged a.hub h.kernel_after ss i) (sym standings) x)

  abbrev Ends : ℕ → List ℕ → Type 0
  Ends i name = IsAsJudged hub h.kernel_after h.after.sweep.standings i ⊎ StaysNamed (hs ++ h ∷ []) name

  by_due : (due : Option (List (List ℕ))) → h.answered.due ≡ due → SettlesDue due h.kernel_answered a h.kernel_after v
      → (i : ℕ) (b d : Device) → Lived h.kernel_answered.devices h.kernel_after.devices i b → Live h.kernel_after.devices i d → d.name ≡ b.name
      → WasTold hs i ⊎ IsToldOf h b.name → Ends i b.name
  by_due None is s i b d lived live same told =
      let looks : LooksAt h.answered.due b.name = subst (λ (o : Option (List (List ℕ))). LooksAt o b.name) (sym is) tt in
      elim (s.settled i b lived) [
        | inl x ↦ inl (judged i x)
        | inr (inl n) ↦ inr (named_now hs h b.name looks (inl (n.0, later s.fair.rest (entry.Unsettled b.name n.0) s.fair.entries n.1)))
        | inr (inr u) ↦ inr (named_now hs h b.name looks (inr (u.0.0, later s.fair.rest (entry.UnsettledAll u.0.0) s.fair.entries u.0.1)))
      ]
  by_due (Some names) is s i b d lived live same told =
      elim (either_listed names b.name) [
        | inl has ↦ elim (s.0.settled i b lived has) [
          | inl x ↦ inl (judged i x)
          | inr n ↦ inr (named_now hs h b.name (subst (λ (o : Option (List (List ℕ))). LooksAt o b.name) (sym is) has) (inl (n.0, later s.0.fair.rest (entry.Unsettled b.name n.0) s.0.fair.entries n.1)))
        ]
        | inr ne ↦ elim told [
          | inr (inl all) ↦ absurd (none_all h names is all)
          | inr (inr due) ↦ absurd (ne (subst (λ (o : Option (List (List ℕ))). IsDueName o b.name) is due))
          | inl was ↦
              let o = others names is in
              let there : Live h.kernel.devices i b = subst (λ (k : Kernel). Live k.devices i b) o.0 lived.entry in
              elim (keeps i b there was) [
                | inl x ↦ inl (o.1 i b (record { entry = there; exit = lived.exit }) ne x)
                | inr n ↦ inr (still_named hs h b.name (λ looks. ne (subst (λ (p : Option (List (List ℕ))). LooksAt p b.name) is looks)) n)
              ]
        ]
      ]

  grows_due : (due : Option (List (List ℕ))) → SettlesDue due h.kernel_answered a h.kernel_after v → Grows h.kernel_answered h.kernel_after
  grows_due None s = s.fair.grows
  grows_due (Some names) s = s.0.fair.grows

  grows : Grows h.kernel_answered h.kernel_after
  grows = grows_due h.answered.due e.handled.law

  -- a device of which an event before was told is there
  met : (i : ℕ) → WasTold hs i → (d : Device) × (slice_get h.kernel_answered.devices i ≡ Some d)
  met i was =
      let x = known i was in
      let y = (answered_values h.event h.kernel (ready_of h) h.became h.kernel_answered h.answered e.answers).value i x.0 x.1 in
      (y.0, y.1)

  -- of this one, or of one before
  split : (i : ℕ) → WasTold (hs ++ h ∷ []) i → WasTold hs i ⊎ ((b : Device) × Lived h.kernel_answered.devices h.kernel_after.devices i b × IsToldOf h b.name)
  split i t = elim (last_is hs h t.event t.in_run) [
    | inl has ↦ inl (record { event = t.event; in_run = has; d = t.d; lived = t.lived; told = t.told })
    | inr is ↦ inr (
      t.d,
      subst (λ (x : Happened). Lived x.kernel_answered.devices x.kernel_after.devices i t.d) (sym is) t.lived,
      subst (λ (x : Happened). IsToldOf x t.d.name) (sym is) t.told,
    )
  ]

  pub one_keeps : KeepsTold hub (hs ++ h ∷ []) h.kernel_after h.after.sweep.standings
  one_keeps i d live told = elim (split i told) [
    | inl was ↦
        let y = met i was in
        let b = live_before h.kernel_answered h.kernel_after i y.0 d grows y.1 live in
        subst (λ (n : List ℕ). Ends i n) (sym b.1.name) (by_due h.answered.due refl e.handled.law i y.0 d (record { entry = b.0; exit = (d, live) }) live b.1.name (inl was))
    | inr t ↦
        let b = live_before h.kernel_answered h.kernel_after i t.0 d grows t.1.entry.at live in
        subst (λ (n : List ℕ). Ends i n) (sym b.1.name) (by_due h.answered.due refl e.handled.law i t.0 d t.1 live b.1.name (inr t.2))
  ]

  pub one_knows : Knows (hs ++ h ∷ []) h.kernel_after
  one_knows i told = elim (split i told) [
    | inl was ↦ let y = met i was in let z = grows.devices i y.0 y.1 in (z.0, z.1)
    | inr t ↦ let z = grows.devices i t.0 t.1.entry.at in (z.0, z.1)
  ]

-- ---- a run

moved : (policy : Judging) (first k l : Kernel) (hs : List Happened) (w : State Judging) → Moves k l → SoFar policy first k hs (told_of hs) (journal hs) w → SoFar policy first l hs (told_of hs) (journal hs) w
moved policy first k l hs w m so = subst (λ (x : List Happened). SoFar policy first l x (told_of hs) (journal hs) w) (append-nil hs) (still_so policy first k l hs [] (told_of hs) (journal hs) w (moves_quiet k l m) so)

along : (policy : Judging) (first : Kernel) (hub : Option Write) (done hs : List Happened) (k : Kernel) (o : Option Disk) (d : DaemonState) (l : Kernel) (p : Option Disk) (e : DaemonState) → Chain k o d hs l p e → AllLeaveOthers hub hs → d.sweep.hub ≡ hub → d.sweep.listed ≡ has_listed done → SoFar policy first k done (told_of done) (journal done) d.sweep → Knows done k → KeepsTold hub done k d.sweep.standings → KeepsTold hub (done ++ hs) l e.sweep.standings
along policy first hub done [] k o d l p e c others at_hub listed so known keeps =
    let q = moves_quiet k l c.0 in
    subst (λ (x : DaemonState). KeepsTold hub (done ++ []) l x.sweep.standings) (sym c.2)
    (subst (λ (x : List Happened). KeepsTold hub x l d.sweep.standings) (sym (append-nil done)) (quiet_keeps hub done k l d.sweep.standings q known keeps))
along policy first hub done (h ∷ hs) k o d l p e c others at_hub listed so known keeps =
    let q = moves_quiet k h.kernel c.0 in
    let ev = c.3 in
    let start = subst (λ (x : DaemonState). SoFar policy first h.kernel done (told_of done) (journal done) x.sweep) (sym c.2) (moved policy first k h.kernel done d.sweep c.0 so) in
    let more = one_more policy first done h ev.answers ev.handled (ap (λ (x : DaemonState). x.sweep.listed) c.2 ∙ listed) start in
    let hub_after : h.after.sweep.hub ≡ hub = more.2 ∙ ap (λ (x : DaemonState). x.sweep.hub) c.2 ∙ at_hub in
    let hub_answered : h.answered.sweep.hub ≡ hub = sym ev.handled.hub ∙ hub_after in
    let keeps_there = subst (λ (x : DaemonState). KeepsTold hub done h.kernel x.sweep.standings) (sym c.2) (quiet_keeps hub done k h.kernel d.sweep.standings q known keeps) in
    let known_there = quiet_knows done k h.kernel q known in
    let one = one_keeps hub done h ev hub_answered others.0 keeps_there known_there in
    let knows = one_knows hub done h ev hub_answered others.0 keeps_there known_there in
    subst (λ (x : List Happened). KeepsTold hub x l e.sweep.standings) (append_assoc done (h ∷ []) hs)
    (along policy first hub (done ++ h ∷ []) hs h.kernel_after h.disk_after h.after l p e c.4 others.1 hub_after more.1 more.0 knows one)

pub runs_keep : (policy : Judging) (hub : Option Write) (number : ℕ) (first : Kernel) (o : Option Disk) (d : DaemonState) (hs : List Happened) (k : Kernel) (p : Option Disk) (e : DaemonState) → IsStarted policy hub number d → Chain first o d hs k p e → AllLeaveOthers hub hs → KeepsTold hub hs k e.sweep.standings
runs_keep policy hub number first o d hs k p e s c others =
    along policy first hub [] hs first o d k p e c others s.hub s.listed (started_so policy hub number first d s) (λ i t. absurd t.in_run) (λ i x live t. absurd t.in_run)

grows_by : (due : Option (List (List ℕ))) (k : Kernel) (w : State Judging) (l : Kernel) (v : State Judging) → SettlesDue due k w l v → Grows k l
grows_by None k w l v s = s.fair.grows
grows_by (Some names) k w l v s = s.0.fair.grows

law_grows : (h : Happened) → Handled h.kernel_answered h.answered h.kernel_after h.after → Grows h.kernel_answered h.kernel_after
law_grows h x = grows_by h.answered.due h.kernel_answered h.answered.sweep h.kernel_after x.swept x.law

rest_by : (due : Option (List (List ℕ))) (k : Kernel) (w : State Judging) (l : Kernel) (v : State Judging) → SettlesDue due k w l v → (rest : List Entry) × (v.entries ≡ w.entries ++ rest)
rest_by None k w l v s = (s.fair.rest, s.fair.entries)
rest_by (Some names) k w l v s = (s.0.fair.rest, s.0.fair.entries)

-- an entry behind the answer is one of the event
first_entries : (h : Happened) → Handled h.kernel_answered h.answered h.kernel_after h.after → (x : Entry) → Has h.answered.sweep.entries x → Has h.after.sweep.entries x
first_entries h y x has =
    let r = rest_by h.answered.due h.kernel_answered h.answered.sweep h.kernel_after y.swept y.law in
    subst (λ (es : List Entry). Has es x) (sym (ap (λ (w : State Judging). w.entries) y.entries))
    (has_left y.swept.entries (entry.End h.answered.event ∷ []) x (subst (λ (es : List Entry). Has es x) (sym r.1) (has_left h.answered.sweep.entries r.0 x has)))

-- ---- behind each event of a run

-- what an event found, and what it left
record At (hub : Option Write) (before : List Happened) (h : Happened) : Type 0 where
  happened : IsEvent h
  listed : h.before.sweep.listed ≡ has_listed before
  keeps : KeepsTold hub (before ++ h ∷ []) h.kernel_after h.after.sweep.standings

along_at : (policy : Judging) (first : Kernel) (hub : Option Write) (done earlier : List Happened) (h : Happened) (hs : List Happened) (k : Kernel) (o : Option Disk) (d : DaemonState) (l : Kernel) (p : Option Disk) (e : DaemonState) → Chain k o d (earlier ++ h ∷ hs) l p e → AllLeaveOthers hub (earlier ++ h ∷ hs) → d.sweep.hub ≡ hub → d.sweep.listed ≡ has_listed done → SoFar policy first k done (told_of done) (journal done) d.sweep → Knows done k → KeepsTold hub done k d.sweep.standings → At hub (done ++ earlier) h
along_at policy first hub done [] h hs k o d l p e c others at_hub listed so known keeps =
    let q = moves_quiet k h.kernel c.0 in
    let ev = c.3 in
    let start = subst (λ (x : DaemonState). SoFar policy first h.kernel done (told_of done) (journal done) x.sweep) (sym c.2) (moved policy first k h.kernel done d.sweep c.0 so) in
    let listed_there = ap (λ (x : DaemonState). x.sweep.listed) c.2 ∙ listed in
    let more = one_more policy first done h ev.answers ev.handled listed_there start in
    let hub_after : h.after.sweep.hub ≡ hub = more.2 ∙ ap (λ (x : DaemonState). x.sweep.hub) c.2 ∙ at_hub in
    let keeps_there = subst (λ (x : DaemonState). KeepsTold hub done h.kernel x.sweep.standings) (sym c.2) (quiet_keeps hub done k h.kernel d.sweep.standings q known keeps) in
    let found : At hub done h = record {
      happened = ev;
      listed = listed_there;
      keeps = one_keeps hub done h ev (sym ev.handled.hub ∙ hub_after) others.0 keeps_there (quiet_knows done k h.kernel q known);
    } in
    subst (λ (x : List Happened). At hub x h) (sym (append-nil done)) found
along_at policy first hub done (g ∷ earlier) h hs k o d l p e c others at_hub listed so known keeps =
    let q = moves_quiet k g.kernel c.0 in
    let ev = c.3 in
    let start = subst (λ (x : DaemonState). SoFar policy first g.kernel done (told_of done) (journal done) x.sweep) (sym c.2) (moved policy first k g.kernel done d.sweep c.0 so) in
    let more = one_more policy first done g ev.answers ev.handled (ap (λ (x : DaemonState). x.sweep.listed) c.2 ∙ listed) start in
    let hub_after : g.after.sweep.hub ≡ hub = more.2 ∙ ap (λ (x : DaemonState). x.sweep.hub) c.2 ∙ at_hub in
    let hub_answered : g.answered.sweep.hub ≡ hub = sym ev.handled.hub ∙ hub_after in
    let keeps_there = subst (λ (x : DaemonState). KeepsTold hub done g.kernel x.sweep.standings) (sym c.2) (quiet_keeps hub done k g.kernel d.sweep.standings q known keeps) in
    let known_there = quiet_knows done k g.kernel q known in
    let one = one_keeps hub done g ev hub_answered others.0 keeps_there known_there in
    let knows = one_knows hub done g ev hub_answered others.0 keeps_there known_there in
    subst (λ (x : List Happened). At hub x h) (append_assoc done (g ∷ []) earlier)
    (along_at policy first hub (done ++ g ∷ []) earlier h hs g.kernel_after g.disk_after g.after l p e c.4 others.1 hub_after more.1 more.0 knows one)

-- a device that was told of or announced

module _ (hub : Option Write) (hs : List Happened) (h : Happened) (at : At hub hs h) (has : has_listed hs ≡ true) (i : ℕ) (b d : Device) (was : Live h.kernel.devices i b) (is : Live h.kernel_after.devices i d) where
  abbrev Ends_so : Type 0
  Ends_so = IsAsJudged hub h.kernel_after h.after.sweep.standings i ⊎ (StaysNamed (hs ++ h ∷ []) d.name ⊎ OwesAll (hs ++ h ∷ []))

  by_told : WasTold (hs ++ h ∷ []) i → Ends_so
  by_told t = elim (at.keeps i d is t) [ inl x ↦ inl x | inr n ↦ inr (inl n) ]

  by_piece : (piece : List ℕ) → h.kernel_answered ≡ h.kernel → MeetsPiece piece (ready_of h) h.answered → Announces h.before piece b.name → Ends_so
  by_piece piece still (inl t) ann =
      let due : h.answered.due ≡ Some (names_due h.before.sweep.listed t.names) = ap (λ (x : DaemonState). x.due) t.state in
      let named : h.answered.due ≡ Some t.names = due ∙ ap (λ (l : Bool). Some (names_due l t.names)) (at.listed ∙ has) in
      let hinted : Has t.names b.name = (t.hinted b.name).1 (ann t.answers t.each) in
      by_told (record {
        event = h;
        in_run = has_right hs (h ∷ []) h (inl refl);
        d = b;
        lived = record { entry = subst (λ (k : Kernel). Live k.devices i b) (sym still) was; exit = (d, is) };
        told = inr (subst (λ (o : Option (List (List ℕ))). IsDueName o b.name) (sym named) hinted);
      })
  by_piece piece still (inr e) ann =
      let x : Entry = entry.UnsettledAll fault.Memory in
      let noted : Has h.answered.sweep.entries x = subst (λ (v : DaemonState). Has v.sweep.entries x) (sym e) (has_right (ready_of h).sweep.entries (x ∷ []) x (inl refl)) in
      inr (inr (record {
        earlier = hs;
        event = h;
        later = [];
        in_run = refl;
        told = (fault.Memory, first_entries h at.happened.handled x noted);
        since = λ g none. absurd none;
      }))

  by_event : (ev : Event) → h.event ≡ ev → AnswersEvent ev h.kernel (ready_of h) h.became h.kernel_answered h.answered → (piece : List ℕ) (moment : Moment) → ev ≡ event.Hint moment piece → Announces h.before piece b.name → Ends_so
  by_event ev same a piece moment is_hint ann =
      let x = subst (λ (v : Event). AnswersEvent v h.kernel (ready_of h) h.became h.kernel_answered h.answered) is_hint a in
      by_piece piece x.0 x.2 ann

  by_cases : WasTold hs i ⊎ IsAnnouncedIn h b.name → Ends_so
  by_cases (inl t) = by_told (record { event = t.event; in_run = has_left hs (h ∷ []) t.event t.in_run; d = t.d; lived = t.lived; told = t.told })
  by_cases (inr (inl all)) =
      let y = (answered_values h.event h.kernel (ready_of h) h.became h.kernel_answered h.answered at.happened.answers).value i b was.at in
      let n = live_before h.kernel_answered h.kernel_after i y.0 d (law_grows h at.happened.handled) y.1 is in
      by_told (record { event = h; in_run = has_right hs (h ∷ []) h (inl refl); d = y.0; lived = record { entry = n.0; exit = (d, is) }; told = inl all })
  by_cases (inr (inr p)) = by_event h.event refl at.happened.answers p.1 p.0 p.2 p.3

pub stand_behind : (policy : Judging) (hub : Option Write) (number : ℕ) (first : Kernel) (o : Option Disk) (d : DaemonState) (hs : List Happened) (k : Kernel) (p : Option Disk) (e : DaemonState) → IsStarted policy hub number d → Chain first o d hs k p e → AllLeaveOthers hub hs → AreAllAnnounced hs → (earlier : List Happened) (h : Happened) (later : List Happened) → hs ≡ earlier ++ h ∷ later → has_listed earlier ≡ true → StandsBehindLast hub earlier h
stand_behind policy hub number first o d hs k p e s c others told earlier h later is listed i b x was now =
    let at = along_at policy first hub [] earlier h later first o d k p e (subst (λ (l : List Happened). Chain first o d l k p e) is c) (subst (λ (l : List Happened). AllLeaveOthers hub l) is others) s.hub s.listed (started_so policy hub number first d s) (λ j t. absurd t.in_run) (λ j y live t. absurd t.in_run) in
    by_cases hub earlier h at listed i b x was now (told earlier h later is listed i b was)
