-- One name's part of a sweep, from its shapes: one law on its calls, and one on its entries.
use Rattle.std.proofs.Common.{◌≡◌, ℕ, ◌≤◌, Bool, true, false, not, ◌||◌, List, [], ◌∷◌, ◌++◌, map, length, Option, Some, None, ◌⊎◌, inl, inr, refl, sym, ◌∙◌, ap, subst, append-nil, arith}
use Rattle.ug_table.proofs.Common.{Has, Held, Control, Default, Target, Authorized, Remove, IsOnce, has_cases, map_has, did_default, Write, FailedCall, Probe, Wrote, Open, Ask_alive, Put, Close, ToldAnswer, Made, made_with, failures, count_calls, Bound, Binding, RemoveHold, Entry, Fault, known_of, with_standing, standing_of, OpenFile, open_file, Behind, behind_more, IsWriteDue, PutMade, AtMostOneEach, call_told, failures_told, writes_in, TellsWrites, EndsUnsettled, IsBoundAnew, FoundNoRoom, LacksRoom, control_of, known_files, number_of, numbers_given, Part, Standing, Known, Settled, unsettled_by, tried_standings, has_right, wants, write_of, is_to_go, why_in, whys, why_of, AreAbout, EndsAtFailure, parent_standing, held_of, kept_file}
use Rattle.ug_kernel.proofs.BindShapes.{Holds_by, way_holds}
use Rattle.ug_table.proofs.Above.{is_above}
use Rattle.ug_table.proofs.Asked.{Passes, passes, treated_none, CallsBy, all_end, by_more, by_as, by_within, ending_is, for_calls, for_few, for_found}
use Rattle.ug_table.specs.Bring.{NeedsMemory, default_due}
use Rattle.ug_table.proofs.Shapes.{Written, Done, Went, Valued, Same, Set, Unheld, Gone_by, Short_by, OnceMade, Not_held, Put_on, Carried, By_value, And_removal, Brought, Left_open, Let_go, Treated, No_default, And_default, Cut_default, Gone_default, due_is, due_once, Opening, Fresh, Lost, Unbound_end, Absent_so, Vanished_so, Flat, Unprobed, Tried, Stopped, Unbound, No_place, Judged_so, told_at, opening_none, opening_kept, flat_rest, new_known}
use Rattle.ug_table.proofs.Standings.{known_as, did_stands, others_stand, stands_file, stands_number, without_own, tried_own}
use Rattle.ug_table.proofs.PartCalls.{has_want, failed_by, are_short, behind_after, CallsOf, calls_are, calls_more, calls_as, closed_first, binding_faults, binding_files, treating_most, both_most, treating_least, root_most, IsFound, hold_faults, hold_files, holds_calls, ready_due, default_found, hold_short}
use Rattle.ug_table.proofs.PartOrders.{flat_order}
use Rattle.ug_table.proofs.NameEntries.{EntriesOf, entries_are, entries_more, entries_to, ended_files, ended_number, AreValue, AreOnce, single_value, single_both}

-- Calls and entries of what is brought about for it, with P of the writes, and with Q where it ends for want of memory.
pub record Goes (P : List PutMade → Type 0) (Q : Type 0) (name : List ℕ) (known : Known)
    (files : List OpenFile)
    (b : Behind) (ms : List Made) (es : List Entry) (how : Settled) (after : List OpenFile) (n : ℕ)
    : Type 0 where
  pub ps : List PutMade
  pub calls : CallsOf name files b ms after (why_of how) ps n
  pub entries : EntriesOf name (Some known.number) es (ended_number how known.number) [] ps []
  pub single : P ps
  pub short : how ≡ Settled.Memory → Q

-- each kind of write once at most, and none to a default
abbrev pub AreVerdicts : List PutMade → Type 0
AreVerdicts ps = AtMostOneEach ps × ((p : PutMade) → Has ps p → control_of p.write ≡ Default → ⊥)

value_verdicts : (ps : List PutMade) → AreValue ps → (p : PutMade) → Has ps p → control_of p.write ≡ Default → ⊥
value_verdicts ps (inl none) p a e = subst (λ (v : List PutMade). Has v p) none a
value_verdicts ps (inr h) p a e = elim (subst (λ (v : List PutMade). Has v p) h.1 a) [
  | inl is ↦ h.2 (subst IsOnce (sym (ap (λ (v : PutMade). control_of v.write) is ∙ e)) tt)
  | inr none ↦ none
]

removal_verdicts : (ps : List PutMade) → AreOnce Write.Remove ps → (p : PutMade) → Has ps p → control_of p.write ≡ Default → ⊥
removal_verdicts ps (inl none) p a e = subst (λ (v : List PutMade). Has v p) none a
removal_verdicts ps (inr h) p a e = elim (subst (λ (v : List PutMade). Has v p) h.1 a) [
  | inl is ↦
      let f : control_of Write.Remove ≡ Default = sym (ap control_of h.2) ∙ ap (λ (v : PutMade). control_of v.write) is ∙ e in
      let none : ⊥ = cc in none
  | inr none ↦ none
]

single_once : (what : Write) (ps : List PutMade) → AreOnce what ps → AtMostOneEach ps
single_once what ps (inl e) = subst (λ (v : List PutMade). AtMostOneEach v) (sym e) tt
single_once what ps (inr h) = subst (λ (v : List PutMade). AtMostOneEach v) (sym h.1) (λ a. a, tt)

-- behind the write to a default
single_default : (what : Write) (ps qs : List PutMade) → control_of what ≡ Default → AreOnce what ps → AreVerdicts qs → AtMostOneEach (ps ++ qs)
single_default what ps qs file (inl none) v = subst (λ (x : List PutMade). AtMostOneEach (x ++ qs)) (sym none) v.0
single_default what ps qs file (inr h) v =
    let apart : Has (map (λ (p : PutMade). p.write) qs) h.0.write → ⊥ = λ a.
    let m = map_has (λ (p : PutMade). p.write) qs h.0.write a in
    v.1 m.0 m.1 (ap control_of (m.2 ∙ h.2) ∙ file) in
    subst (λ (x : List PutMade). AtMostOneEach (x ++ qs)) (sym h.1) (apart, v.0)

goes_are : {P : List PutMade → Type 0} {Q : Type 0} {name : List ℕ} {known : Known}
    {files after : List OpenFile} {b : Behind} {ms : List Made} {es : List Entry} {how : Settled}
    {n : ℕ} {ps : List PutMade} → CallsOf name files b ms after (why_of how) ps n
    → EntriesOf name (Some known.number) es (ended_number how known.number) [] ps []
    → P ps → (how ≡ Settled.Memory → Q) → Goes P Q name known files b ms es how after n
goes_are {ps = ps} c e p q = record { ps = ps; calls = c; entries = e; single = p; short = q }

written_entries : {name : List ℕ} {number : ℕ} {what : Write} {t : ToldAnswer Wrote} {es : List Entry}
    {how : Settled} → Written name number what t es how
    → EntriesOf name (Some number) es (ended_number how number) []
    (record { write = what; outcome = t.answer } ∷ []) []
written_entries {number = n} (Went failed) =
    entries_are (refl, (refl, (refl, refl))) refl (n, [], refl, refl) (tt, (tt, (tt, tt)))
    (refl, (refl, (refl, tt))) refl
written_entries {number = n} x =
    entries_are (refl, (refl, refl)) refl (n, [], refl, refl) (tt, (tt, tt)) (refl, (refl, tt)) refl

-- a write, and a closing behind it
written_faults : {name : List ℕ} {number : ℕ} {what : Write} {t : ToldAnswer Wrote} {es : List Entry}
    {how : Settled} (held : ℕ) → Written name number what t es how
    → (failures (made_with (Put held what) t ∷ []) ≡ failed_by (why_of how))
    × (false ≡ are_short (why_of how)) × (how ≡ Settled.Memory → ⊥)
written_faults held (Done failed) = (refl, refl, λ e. let none : ⊥ = cc in none)
written_faults held x = (refl, refl, λ e. let none : ⊥ = cc in none)

value_due : (verdict : Target) (on : Bool) (held : ℕ) (b : Behind) → IsFound b held on
    → (wants verdict ≡ on → ⊥) → IsWriteDue b held (write_of verdict)
value_due Target.Allow true held b f ne = absurd (ne refl)
value_due Target.Allow false held b f ne = f
value_due Target.Block false held b f ne = absurd (ne refl)
value_due Target.Reject false held b f ne = absurd (ne refl)
value_due x true held b f ne = f

value_file : (verdict : Target) (held : ℕ) (files : List OpenFile)
    → Has files (open_file held Authorized)
    → Has files (open_file held (control_of (write_of verdict)))
value_file Target.Allow held files h = h
value_file x held files h = h

-- a value may be written again
pub value_twice : (verdict : Target) → IsOnce (control_of (write_of verdict)) → ⊥
value_twice Target.Allow once = once
value_twice x once = once

valued_goes : {name : List ℕ} {known : Known} {on : Bool} {ms : List Made} {es : List Entry}
    {how : Settled} (b : Behind) → IsFound b known.held.0 on → Valued name known on ms es how
    → let own = open_file known.held.0 Authorized ∷ [] in
    Goes AreValue ⊥ name known own b ms es how own 1
valued_goes b f (Same e) =
    goes_are (calls_are tt tt tt refl refl refl refl (omega arith))
    (entries_are refl refl refl tt tt refl)
    (inl refl) (λ e. let none : ⊥ = cc in none)
valued_goes {known = known} {on = on} b f (Set t es how ne w) =
    let v = known.verdict in
    let held = known.held.0 in
    let due = value_due v on held b f ne in
    let faults = written_faults held w in
    let file = value_file v held (open_file held Authorized ∷ []) (inl refl) in
    goes_are (calls_are (file, tt) (inl refl, tt) (due, tt) refl faults.0 faults.1 refl
    (omega arith))
    (written_entries w) (inr
    (record { write = write_of v; outcome = t.answer }, refl, value_twice v)) faults.2

unheld_goes : {what : Write} {name : List ℕ} {known : Known} {held : ℕ} {ms : List Made} {r : RemoveHold}
    {es : List Entry} {how : Settled} {files : List OpenFile} {b : Behind}
    → Unheld name known.number r es how → Holds_by (control_of what) name held ms r
    → CallsOf name files b ms (hold_files (control_of what) r files) (hold_faults r) [] 2
    → Goes (AreOnce what) (FoundNoRoom (control_of what) name ms) name known files b ms es how files 3
unheld_goes Gone_by h c =
    goes_are (calls_as refl (omega arith) c)
    (entries_are (refl, refl) refl refl (tt, tt) (refl, tt) refl) (inl refl)
    (λ e. let none : ⊥ = cc in absurd none)
unheld_goes Short_by h c =
    goes_are (calls_as refl (omega arith) c) (entries_are refl refl refl tt tt refl) (inl refl)
    (λ e. hold_short h)
unheld_goes x h c =
    goes_are (calls_as refl (omega arith) c) (entries_are refl refl refl tt tt refl) (inl refl)
    (λ e. let none : ⊥ = cc in absurd none)

once_goes : {what : Write} {name : List ℕ} {known : Known} {ms : List Made} {es : List Entry} {how : Settled}
    (b : Behind) → IsOnce (control_of what) → OnceMade name known what ms es how
    → let own = open_file known.held.0 Authorized ∷ [] in
    Goes (AreOnce what) (FoundNoRoom (control_of what) name ms) name known own b ms es how own 3
once_goes {what} {name} {known} b once (Not_held ms r es how way u) =
    let by = way_holds (control_of what) name known.held.0 ms r way in
    let own : List OpenFile = open_file known.held.0 Authorized ∷ [] in
    unheld_goes u by (holds_calls own b (inl refl) by)
once_goes {what} {name} {known} b once (Put_on ms file t shut es how way w) =
    let by = way_holds (control_of what) name known.held.0 ms (RemoveHold.Ready file) way in
    let own : List OpenFile = open_file known.held.0 Authorized ∷ [] in
    let faults = written_faults file.0 w in
    goes_are
    (calls_more {m = 1} (holds_calls own b (inl refl) by)
    (calls_are (inl refl, ((control_of what, inl refl), tt)) (inl refl, (inr tt, tt))
    (ready_due what b once by, (tt, tt))
    (closed_first file.0 (control_of what) own) faults.0 faults.1 refl (omega arith)))
    (written_entries w) (inr (record { write = what; outcome = t.answer }, refl, refl))
    (λ e. absurd (faults.2 e))

-- both

abbrev pub ToGo : List ℕ → Known → List Made → Type 0
ToGo name known ms = (is_to_go known ≡ true) × FoundNoRoom Remove name ms

no_room_behind : (control : Control) (name : List ℕ) (ds ms : List Made) → FoundNoRoom control name ms → FoundNoRoom control name (ds ++ ms)
no_room_behind control name ds ms h = (h.0, has_right ds ms (made_with (Open name control) h.0) h.1, h.2)

carried_goes : {name : List ℕ} {known : Known} {on : Bool} {ms : List Made} {es : List Entry}
    {how : Settled} (b : Behind) → IsFound b known.held.0 on → Carried name known on ms es how
    → let own = open_file known.held.0 Authorized ∷ [] in
    Goes AreVerdicts (ToGo name known ms) name known own b ms es how own 4
carried_goes b f (By_value ms es how v k) =
    let h = valued_goes b f v in
    goes_are (calls_as refl (omega arith) h.calls) h.entries (single_value h.ps h.single, value_verdicts h.ps h.single)
    (λ e. absurd (h.short e))
carried_goes {name} b f (And_removal ms ns es fs how go v r) =
    let h = valued_goes b f v in
    let k = once_goes (behind_after b ms) tt r in
    goes_are (calls_more h.calls k.calls) (entries_more h.entries k.entries) (
      single_both Write.Remove tt h.ps k.ps h.single k.single,
      λ p a e. elim (has_cases h.ps k.ps p a) [
        | inl x ↦ value_verdicts h.ps h.single p x e
        | inr x ↦ removal_verdicts k.ps k.single p x e
      ],
    )
    (λ e. (go, no_room_behind Remove name ms ns (k.short e)))

still_open : (how : Settled) (held : ℕ) → (how ≡ Settled.Nobody → ⊥)
    → open_file held Authorized ∷ [] ≡ ended_files how held
still_open Settled.Nobody held n = absurd (n refl)
still_open how held n = refl

pub brought_goes : {name : List ℕ} {known : Known} {on : Bool} {ms : List Made} {es : List Entry}
    {how : Settled} (b : Behind) → IsFound b known.held.0 on → Brought name known on ms es how
    → let own = open_file known.held.0 Authorized ∷ [] in
    Goes AreVerdicts (ToGo name known ms) name known own b ms es how (ended_files how known.held.0) 4
brought_goes {known = known} b f (Left_open ms es how c n) =
    let h = carried_goes b f c in
    goes_are (calls_as (still_open how known.held.0 n) (omega arith) h.calls) h.entries h.single
    h.short
brought_goes {name} {known} b f (Let_go ms es shut c) =
    let h = carried_goes b f c in
    let own : List OpenFile = open_file known.held.0 Authorized ∷ [] in
    let last : List Made = made_with (Close known.held.0) shut ∷ [] in
    let end : CallsOf name own (behind_after b ms) last [] [] [] 0 =
    calls_are ((Authorized, inl refl), tt) (inl refl, tt) (tt, tt)
    (closed_first known.held.0 Authorized [])
    refl refl refl (omega arith) in
    let all = calls_more h.calls end in
    goes_are (subst (λ v. CallsOf name own b (ms ++ last) [] [] v 4) (append-nil h.ps) all)
    h.entries h.single
    (λ e. let none : ⊥ = cc in absurd none)

-- all writes of a sweep

-- memory was wanted for it, and an opening was short of it
abbrev pub Lacks : Option Write → List ℕ → Known → List Made → Type 0
Lacks hub name known ms =
    ToGo name known ms
    ⊎ ((what : Write) × (default_due hub name known ≡ Some what) × FoundNoRoom Default name ms)

pub lacks_needs : (hub : Option Write) (name : List ℕ) (known : Known) (ms : List Made) → Lacks hub name known ms → NeedsMemory hub name known
lacks_needs hub name known ms (inl h) = inl h.0
lacks_needs hub name known ms (inr h) = inr (h.0, h.1)

lacks_behind : (hub : Option Write) (name : List ℕ) (known : Known) (ds ms : List Made) → Lacks hub name known ms → Lacks hub name known (ds ++ ms)
lacks_behind hub name known ds ms (inl h) = inl (h.0, no_room_behind Remove name ds ms h.1)
lacks_behind hub name known ds ms (inr h) = inr (h.0, h.1, no_room_behind Default name ds ms h.2)

unheld_stops : {name : List ℕ} {number : ℕ} {r : RemoveHold} {es : List Entry} {how : Settled} → Unheld name number r es how → how ≡ Settled.Stands → ⊥
unheld_stops Gone_by e = let none : ⊥ = cc in none
unheld_stops x e = let none : ⊥ = cc in none

once_found : {what : Write} {name : List ℕ} {known : Known} {ds : List Made} {fs : List Entry} {how : Settled} {held : ℕ} {on : Bool} (b : Behind) → control_of what ≡ Default → OnceMade name known what ds fs how → how ≡ Settled.Stands → IsFound b held on → IsFound (behind_after b ds) held on
once_found b file (Not_held ms r es how way u) e f = absurd (unheld_stops u e)
once_found {what} {name} {known} b file (Put_on ms held t shut es how way w) e f = default_found what t shut b file (way_holds (control_of what) name known.held.0 ms (RemoveHold.Ready held) way) f

pub treated_goes : {hub : Option Write} {name : List ℕ} {known : Known} {on d : Bool} {ms : List Made} {es : List Entry} {how : Settled} (b : Behind) → IsFound b known.held.0 on → Treated hub name known on d ms es how → let own = open_file known.held.0 Authorized ∷ [] in Goes AtMostOneEach (Lacks hub name known ms) name known own b ms es how (ended_files how known.held.0) (treating_most name)
treated_goes {name = name} b f (No_default ms es how e x) =
    let h = brought_goes b f x in
    goes_are (calls_as refl (treating_least name) h.calls) h.entries h.single.0 (λ m. inl (h.short m))
treated_goes {hub} {name} {known} b f (And_default what ds ms fs es how e w x) =
    let due = due_is hub name known what e in
    let k = once_goes b (due_once due) w in
    let h = brought_goes (behind_after b ds) (once_found b due.file w refl f) x in
    let most = root_most name due.root in
    goes_are (calls_as refl (omega (arith, most)) (calls_more k.calls h.calls)) (entries_more k.entries h.entries) (single_default what k.ps h.ps due.file k.single h.single)
    (λ m. lacks_behind hub name known ds ms (inl (h.short m)))
treated_goes {hub} {name} {known} b f (Cut_default what ds fs how e w cut) =
    let due = due_is hub name known what e in
    let k = once_goes b (due_once due) w in
    let most = root_most name due.root in
    goes_are (calls_as (still_open how known.held.0 cut.1) (omega (arith, most)) k.calls) k.entries (single_once what k.ps k.single)
    (λ m. inr (what, e, subst (λ (c : Control). FoundNoRoom c name ds) due.file (k.short m)))
treated_goes {hub} {name} {known} b f (Gone_default what ds fs shut e w) =
    let due = due_is hub name known what e in
    let k = once_goes b (due_once due) w in
    let own : List OpenFile = open_file known.held.0 Authorized ∷ [] in
    let last : List Made = made_with (Close known.held.0) shut ∷ [] in
    let end : CallsOf name own (behind_after b ds) last [] [] [] 0 =
    calls_are ((Authorized, inl refl), tt) (inl refl, tt) (tt, tt)
    (closed_first known.held.0 Authorized [])
    refl refl refl (omega arith) in
    let most = root_most name due.root in
    let all : CallsOf name own b (ds ++ last) [] [] (k.ps ++ []) (treating_most name) =
    calls_as refl (omega (arith, most)) (calls_more k.calls end) in
    goes_are (subst (λ v. CallsOf name own b (ds ++ last) [] [] v (treating_most name)) (append-nil k.ps) all)
    k.entries (single_once what k.ps k.single) (λ m. let none : ⊥ = cc in absurd none)

-- the name is told behind them where it ended unsettled
told_entries : {name : List ℕ} {from : Option ℕ} {es : List Entry} {ps : List PutMade}
    {ns : List ℕ} (number : ℕ) (how : Settled)
    → EntriesOf name from es (ended_number how number) [] ps ns
    → EntriesOf name from (es ++ unsettled_by name how) (ended_number how number) (why_of how) ps ns
told_entries {name} {from} {es} {ps} {ns} number how h =
    let all = es ++ unsettled_by name how in
    let end = ended_number how number in
    subst (λ v. EntriesOf name from all end (why_of how) v ns) (append-nil ps)
    (subst (λ v. EntriesOf name from all end (why_of how) (ps ++ []) v) (append-nil ns)
    (entries_more h (by how)))
  where
    by : (x : Settled) → EntriesOf name (ended_number x number) (unsettled_by name x)
        (ended_number x number) (why_of x) [] []
    by Settled.Stands = entries_are refl refl refl tt tt refl
    by Settled.Nobody = entries_are refl refl refl tt tt refl
    by x = entries_are refl refl refl ((refl, refl), tt) (refl, tt) refl

-- a name

-- before a binding
record OpeningGoes (name : List ℕ) (o : Option Known) (b : Behind) (ms : List Made)
    (es : List Entry)
    : Type 0 where
  calls : CallsOf name (known_files o) b ms [] [] [] 1
  entries : EntriesOf name (number_of o) es None [] [] []
  anew : (ns : List Made) → IsBoundAnew o (ms ++ ns)

opening_goes : {name : List ℕ} {ss : List Standing} {ms : List Made} {es : List Entry}
    {rs : List Standing} (b : Behind) → Opening name ss ms es rs
    → OpeningGoes name (standing_of name ss) b ms es
opening_goes {name} b (Fresh e) =
    subst (λ o. OpeningGoes name o b [] []) (sym e)
    (record {
      calls = calls_are tt tt tt refl refl refl refl (omega arith);
      entries = entries_are refl refl refl tt tt refl;
      anew = λ ns. inl refl;
    })
opening_goes {name} b (Lost known failed shut e) =
    let t : ToldAnswer Probe = told_at Probe.Gone failed in
    let m : Made = made_with (Ask_alive known.held.0) t in
    let n : Made = made_with (Close known.held.0) shut in
    subst (λ o. OpeningGoes name o b (m ∷ n ∷ []) (Entry.Gone known.number name ∷ [])) (sym e)
    (record {
      calls = calls_are (inl refl, ((Authorized, inl refl), tt)) (inl refl, (inl refl, tt))
          (tt, (tt, tt))
          (closed_first known.held.0 Authorized []) refl refl refl (omega arith);
      entries = entries_are (refl, refl) refl refl (tt, tt) (refl, tt) refl;
      anew = λ ns. inr (m, n ∷ ns, refl, (known, t, refl, refl, refl));
    })

-- none of them asks the parent's file
opening_passes : {name : List ℕ} {ss : List Standing} {ms : List Made} {es : List Entry} {rs : List Standing} (kept : Option ℕ) → Opening name ss ms es rs → Passes name kept ms
opening_passes {name} kept (Fresh e) = passes name kept [] (λ held. refl)
opening_passes {name} kept (Lost known failed shut e) =
    passes name kept (made_with (Ask_alive known.held.0) (told_at Probe.Gone failed) ∷ made_with (Close known.held.0) shut ∷ []) (λ held. (refl, (refl, refl)))

unbound_goes : {name : List ℕ} {kept : Option ℕ} {r : Binding} {es : List Entry} {how : Settled} {b : Behind}
    {ms : List Made} → Unbound_end name r es how
    → CallsBy name kept [] b ms (binding_files r []) (binding_faults r) [] 10
    → CallsBy name kept [] b ms [] (why_of how) [] 10 × EntriesOf name None es None (why_of how) [] []
unbound_goes Absent_so c = (c, entries_are refl refl refl tt tt refl)
unbound_goes Vanished_so c = (c, entries_are refl refl refl tt tt refl)
unbound_goes x c = (c, entries_are refl refl refl ((refl, refl), tt) (refl, tt) refl)

-- the file and the number of the standing that is left

pub tried_so : (name : List ℕ) (ss : List Standing) (how : Settled) (known : Known)
    → standing_of name ss ≡ Some known
    → (ended_files how known.held.0 ≡ known_files (standing_of name (tried_standings ss name how)))
    × (ended_number how known.number ≡ number_of (standing_of name (tried_standings ss name how)))
tried_so name ss Settled.Nobody known e =
    (sym (ap known_files (without_own name ss)), sym (ap number_of (without_own name ss)))
tried_so name ss how known e =
    let own = tried_own name ss how known e (λ s. let none : ⊥ = cc in none) in (
      sym (stands_file _ known.number known.held own),
      sym
          (stands_number _ known.number known.held own),
    )

-- a default that was written leaves its file and its number
known_file : (d : Bool) (known : Known) (how : Settled) → ended_files how known.held.0 ≡ ended_files how (known_as d known).held.0
known_file true known how = refl
known_file false known how = refl

known_number : (d : Bool) (known : Known) (how : Settled) → ended_number how known.number ≡ ended_number how (known_as d known).number
known_number true known how = refl
known_number false known how = refl

abbrev start : Behind
start = record { last = None; earlier = None; found = None }

-- how many numbers were given out
abbrev pub given_count : Option (List Standing × Bound) → ℕ
given_count None = 0
given_count (Some judged) = 1

-- All that a part says of its calls and entries. Where room was refused, the calls don't tell how it ended.
record FlatGoes (hub : Option Write) (binds : Bool) (name : List ℕ) (kept : Option ℕ) (o p : Option Known) (ok : Bool) (ms : List Made)
    (es : List Entry) (how : Settled) (given : ℕ) : Type 0 where
  faults : List Fault
  ps : List PutMade
  ns : List ℕ
  calls : CallsBy name kept (known_files o) start ms (known_files p) faults ps 15
  entries : EntriesOf name (number_of o) es (number_of p) (why_of how) ps ns
  single : AtMostOneEach ps
  failed : failed_by faults ≡ failed_by (why_of how)
  short : (not ok || are_short faults) ≡ are_short (why_of how)
  memory : how ≡ Settled.Memory → ((binds ≡ true) × IsBoundAnew o ms) ⊎ LacksRoom hub name o ms
  count : length ns ≡ given

flat_are : {hub : Option Write} {binds : Bool} {name : List ℕ} {kept : Option ℕ} {o p : Option Known} {ok : Bool} {ms : List Made}
    {es : List Entry} {how : Settled} {given : ℕ} {faults : List Fault} {ps : List PutMade}
    {ns : List ℕ} → CallsBy name kept (known_files o) start ms (known_files p) faults ps 15
    → EntriesOf name (number_of o) es (number_of p) (why_of how) ps ns → AtMostOneEach ps
    → failed_by faults ≡ failed_by (why_of how)
    → (not ok || are_short faults) ≡ are_short (why_of how)
    → (how ≡ Settled.Memory → ((binds ≡ true) × IsBoundAnew o ms) ⊎ LacksRoom hub name o ms)
    → length ns ≡ given → FlatGoes hub binds name kept o p ok ms es how given
flat_are {faults = faults} {ps = ps} {ns = ns} c e a f s m n = record {
  faults = faults;
  ps = ps;
  ns = ns;
  calls = c;
  entries = e;
  single = a;
  failed = f;
  short = s;
  memory = m;
  count = n;
}

flat_goes : {hub : Option Write} {binds : Bool} {given : List Standing → Bound → Standing → Type 0} {name : List ℕ}
    {ss : List Standing} {ok : Bool} {ms : List Made} {rest : List Entry} {how : Settled}
    {rs : List Standing} {o : Option (List Standing × Bound)}
    → Flat hub binds given name ss ok ms rest how rs o
    → FlatGoes hub binds name (kept_file name ss) (standing_of name ss) (standing_of name rs) ok ms rest how (given_count o)
flat_goes {hub} {binds} {name = name} {ss = ss} {how = how} {rs = rs} (Unprobed known failed at) =
    let m : Made = made_with (Ask_alive known.held.0) (told_at Probe.Failed failed) in
    let own : List OpenFile = open_file known.held.0 Authorized ∷ [] in
    let e : Entry = Entry.Unsettled name (Fault.Call failed) in
    let so = tried_so name ss how known at in
    let one : CallsOf name own start (m ∷ []) own (Fault.Call failed ∷ []) [] 15 =
    calls_are (inl refl, tt) (inl refl, tt) (tt, tt) refl refl refl refl (omega arith) in
    subst (λ o. FlatGoes hub binds name (kept_file name ss) o (standing_of name rs) true (m ∷ []) (e ∷ []) how 0) (sym at)
    (flat_are (by_as so.0 (omega arith) (all_end (passes name (kept_file name ss) (m ∷ []) (λ held. (refl, refl))) one))
    (entries_to so.1 (entries_are refl refl refl ((refl, refl), tt) (refl, tt) refl))
    tt refl refl (λ e. let none : ⊥ = cc in absurd none) refl)
flat_goes {hub} {binds} {name = name} {ss = ss} {rs = rs} (Tried known on failed d ms es how at brought) =
    let t : ToldAnswer Probe = told_at (Probe.Alive on) failed in
    let m : Made = made_with (Ask_alive known.held.0) t in
    let own : List OpenFile = open_file known.held.0 Authorized ∷ [] in
    let so = tried_so name (did_default name d ss) how (known_as d known) (did_stands name d ss known at) in
    let h = treated_goes (behind_more start m) (t, refl, refl) brought in
    let most = both_most name in
    let one : CallsOf name own start (m ∷ []) own [] [] 1 =
    calls_are (inl refl, tt) (inl refl, tt) (tt, tt) refl refl refl refl (omega arith) in
    let all = es ++ unsettled_by name how in
    let pass = passes name (kept_file name ss) (m ∷ ms) (λ held. (refl, treated_none name held brought)) in
    subst (λ o. FlatGoes hub binds name (kept_file name ss) o (standing_of name rs) true (m ∷ ms) all how 0) (sym at)
    (flat_are (by_as (known_file d known how ∙ so.0) (omega (arith, most)) (all_end pass (calls_more one h.calls)))
    (entries_to (known_number d known how ∙ so.1) (told_entries known.number how h.entries))
    h.single refl refl
    (λ e. inr (known, refl, lacks_behind hub name known (m ∷ []) ms (h.short e))) refl)
flat_goes {name = name} {ss = ss} (Stopped ms es rs f opening) =
    let h = opening_goes start opening in
    let none = sym (opening_none opening) in
    flat_are (by_as (ap known_files none) (omega arith) (all_end (opening_passes (kept_file name ss) opening) h.calls))
    (entries_to (ap number_of none) h.entries)
    tt refl refl (λ e. let none : ⊥ = cc in absurd none) refl
flat_goes {hub} {binds} {name = name} {ss = ss} {rest = rest} (Unbound ms ns es fs rs r how t opening way end) =
    let h = opening_goes start opening in
    let none = sym (opening_none opening) in
    let o : Option Standing = parent_standing name rs in
    let x = unbound_goes end (for_calls name ns r o [] (behind_after start ms) (is_above name rs) way) in
    subst (λ k. FlatGoes hub binds name k (standing_of name ss) (standing_of name rs) true (ms ++ ns) rest how 0) (sym (opening_kept opening))
    (flat_are (by_as (ap known_files none) (omega arith) (by_more (all_end (opening_passes (held_of o) opening) h.calls) x.0))
    (entries_to (ap number_of none) (entries_more h.entries x.1))
    tt refl refl (λ e. inl (t, h.anew ns)) refl)
flat_goes {hub} {binds} {name = name} {ss = ss} {rest = rest} (No_place ms ns es rs v shut t opening way) =
    let h = opening_goes start opening in
    let none = sym (opening_none opening) in
    let o : Option Standing = parent_standing name rs in
    let x = for_calls name ns (Binding.Bound v) o [] (behind_after start ms) (is_above name rs) way in
    let last : List Made = made_with (Close v.held.0) shut ∷ [] in
    let own : List OpenFile = open_file v.held.0 Authorized ∷ [] in
    let end : CallsOf name own (behind_after (behind_after start ms) ns) last [] [] [] 0 =
    calls_are ((Authorized, inl refl), tt) (inl refl, tt) (tt, tt)
    (closed_first v.held.0 Authorized [])
    refl refl refl (omega arith) in
    let shuts = passes name (held_of o) last (λ held. (refl, refl)) in
    subst (λ k. FlatGoes hub binds name k (standing_of name ss) (standing_of name rs) false (ms ++ (ns ++ last)) rest Settled.Memory 0) (sym (opening_kept opening))
    (flat_are (by_as (ap known_files none) (omega arith) (by_more (all_end (opening_passes (held_of o) opening) h.calls) (by_more x (all_end shuts end))))
    (entries_to (ap number_of none)
    (entries_more h.entries (entries_are refl refl refl ((refl, refl), tt) (refl, tt) refl)))
    tt refl refl (λ e. inl (t, h.anew (ns ++ last))) refl)
flat_goes {hub} {binds} {name = name} {ss = ss} {rest = rest} {rs = us} (Judged_so ms ns os es fs rs v x d how t opening way given new brought) =
    let h = opening_goes start opening in
    let c : Behind = behind_after start ms in
    let o : Option Standing = parent_standing name rs in
    let above = is_above name rs in
    let f = for_found name ns v o c above way in
    let found = subst (λ (w : Held). IsFound (behind_after c ns) w.0 v.on) (sym new.held) f in
    let k = treated_goes (behind_after c ns) found brought in
    let held = ap (λ (w : Held). open_file w.0 Authorized ∷ []) (sym new.held) in
    let so = tried_so name (did_default name d (with_standing x rs)) how (known_as d (known_of x)) (did_stands name d (with_standing x rs) (known_of x) (new_known opening new)) in
    let e : List Entry = Entry.Judged x.number name x.held x.verdict x.cause ∷ [] in
    let given : EntriesOf name None e (Some x.number) [] [] (x.number ∷ []) =
    entries_are (refl, refl) refl refl (tt, tt) (refl, tt) refl in
    let bound = by_within held (for_few name ns v o above way) (for_calls name ns (Binding.Bound v) o [] c above way) in
    let most = both_most name in
    let writes = all_end (passes name (held_of o) os (λ held. treated_none name held brought)) k.calls in
    subst (λ kept. FlatGoes hub binds name kept (standing_of name ss) (standing_of name us) true (ms ++ (ns ++ os)) rest how 1) (sym (opening_kept opening))
    (flat_are (by_as (known_file d (known_of x) how ∙ so.0) (omega (arith, most)) (by_more (all_end (opening_passes (held_of o) opening) h.calls) (by_more bound writes)))
    (entries_to (known_number d (known_of x) how ∙ so.1)
    (entries_more h.entries (entries_more given (told_entries x.number how k.entries))))
    k.single refl refl (λ e. inl (t, h.anew (ns ++ os))) refl)

-- where nothing is bound, no number is given out
pub flat_none : {hub : Option Write} {binds : Bool} {given : List Standing → Bound → Standing → Type 0} {name : List ℕ}
    {ss : List Standing} {ok : Bool} {ms : List Made} {rest : List Entry} {how : Settled}
    {rs : List Standing} {o : Option (List Standing × Bound)} → binds ≡ false
    → Flat hub binds given name ss ok ms rest how rs o → given_count o ≡ 0
flat_none f (Judged_so ms ns os es fs rs b x d how t opening way given new brought) =
    let none : ⊥ = cc in absurd none
flat_none f x = refl

-- what entries tell of failed calls and of want of memory, by why

pub tells_why : (name : List ℕ) (es : List Entry) → EndsUnsettled name es
    → failures_told es ≡ failed_by (whys es)
tells_why name [] last = refl
tells_why name (Entry.Unsettled other why ∷ es) last =
    ap (λ (v : List FailedCall). call_told why ++ v) (tells_why name es last.1)
tells_why name (Entry.UnsettledAll why ∷ es) last = absurd last.0
tells_why name (Entry.Reply made_with ∷ es) last = absurd last.0
tells_why name (e ∷ es) last = tells_why name es last.1

-- why a name is told is among them
pub told_in : (name : List ℕ) (why : Fault) (es : List Entry) → Has es (Entry.Unsettled name why)
    → Has (whys es) why
told_in name why [] a = a
told_in name why (e ∷ es) (inl is) =
    subst (λ (v : Entry). Has (why_in v ++ whys es) why) (sym is) (inl refl)
told_in name why (e ∷ es) (inr a) = has_right (why_in e) (whys es) why (told_in name why es a)

-- so want of memory is told where it ended so
tells_memory : (es : List Entry) (name : List ℕ) (how : Settled) → whys es ≡ why_of how
    → Has es (Entry.Unsettled name Fault.Memory) → how ≡ Settled.Memory
tells_memory es name how e a = by how
    (subst (λ (v : List Fault). Has v Fault.Memory) e (told_in name Fault.Memory es a))
  where
    by : (x : Settled) → Has (why_of x) Fault.Memory → x ≡ Settled.Memory
    by Settled.Stands b = absurd b
    by Settled.Nobody b = absurd b
    by (Settled.Fault failed) (inl is) = let none : ⊥ = cc in absurd none
    by (Settled.Fault failed) (inr none) = absurd none
    by Settled.Memory b = refl

module _ {hub : Option Write} {binds : Bool} {given : List Standing → Bound → Standing → Type 0} {name : List ℕ}
    {ss : List Standing} {ok : Bool} {ms : List Made} {rest : List Entry} {how : Settled}
    {rs : List Standing} {o : Option (List Standing × Bound)}
    (f : Flat hub binds given name ss ok ms rest how rs o) where
  pub flat_whys : whys rest ≡ why_of how
  flat_whys = (flat_goes f).entries.why

  -- memory was refused just where it ended for want of some
  pub flat_short : (not ok || has_want ms) ≡ are_short (why_of how)
  flat_short = let h = flat_goes f in ap (λ (v : Bool). not ok || v) h.calls.short ∙ h.short

  pub flat_few : count_calls ms ≤ 15
  flat_few = (flat_goes f).calls.few

  -- a number is given out where a device is judged
  pub flat_given : length (numbers_given rest) ≡ given_count o
  flat_given = let h = flat_goes f in ap length h.entries.given ∙ h.count

  -- where nothing is bound, it ends for want of memory only if the standing's device is to be removed
  pub flat_room : binds ≡ false → how ≡ Settled.Memory
      → (known : Known) × (standing_of name ss ≡ Some known) × NeedsMemory hub name known
  flat_room unbound e = elim ((flat_goes f).memory e) [
    | inl x ↦ let bound = x.0 in absurd (let none : ⊥ = cc in none)
    | inr x ↦ (x.0, x.1, lacks_needs hub name x.0 ms x.2)
  ]

  pub flat_is_part : Part hub binds name ss rs ms rest
  flat_is_part =
      let h = flat_goes f in
      let c = h.calls in
      let e = h.entries in
      let same = ending_is c in
      record {
        about = subst (λ (v : List Made). AreAbout name (known_files (standing_of name ss)) v) (sym same) c.about;
        leaves = c.left;
        ends = subst (λ (v : List Made). EndsAtFailure [] v) (sym same) c.ends;
        told = tells_why name rest e.last ∙ ap failed_by e.why ∙ sym (ap failures same ∙ c.failed ∙ h.failed);
        last = e.last;
        memory = λ a. elim (h.memory (tells_memory rest name how e.why a)) [
          | inl x ↦ inl x.1
          | inr x ↦ inr x
        ];
        due = c.due;
        single = subst AtMostOneEach (sym c.puts) h.single;
        writes = subst (λ v. TellsWrites name v (writes_in rest)) (sym c.puts) e.writes;
        few = c.few;
        order = flat_order f;
        bears = e.bears;
        numbers = e.numbers;
        given = omega (arith, flat_given, elim o as (λ v. given_count v ≤ 1) [ None ↦ omega arith | Some x ↦ omega arith ]);
        others = λ other. others_stand name other ss rs (flat_rest f);
      }
