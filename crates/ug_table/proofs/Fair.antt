-- A part is fair, and so is a sweep.
use Rattle.std.proofs.Common.{◌≡◌, ℕ, Bool, true, false, not, List, [], ◌∷◌, ◌++◌, Some, slice_get, inl, inr, refl, sym, ◌∙◌, ap, subst, append_assoc, append-nil, ◌+◌, ◌<◌, is_none, Option, None, arith, cond, map, true≢false}
use Rattle.std.proofs.lemmas.Bool.{not-true, cond_both, cases_Bool}
use Rattle.ug_table.proofs.Common.{Has, IsOpenable, AllDistinct, Terms, terms_for, did_default, with_default, defaulted_known, default_due, default_write, Default, Target, Control, Authorized, Remove, Write, Wrote, Close, Ask_alive, Names, Device, Kernel, IsKernel, Live, IsGoneAt, says_listing, Grows, Quiet, calls, Runs, Entry, State, Answers, Laters, known_of, standing_of, without, with_standing, place_for, lists, farewells, Tries, IsDevice, HasDone, WasDone, control_of, is_done, Account, Start, none_before, IsProbed, Stand, numbers_of, Judge, IsOne, IsTold, HasStanding, IsFair, IsDoneMarked, swept_before, IsGone, Went as WentAway, gone_of, Standing, Settled, Made, made_with, Along, FailedCall, parent_of, Judged, Held, Cause, Bound, Binding, Known, in_sweep_order, unlisted_files, Fault, Probe, Listing, names_of, parted, marked_listed, sweeping, unsettled_by, standing_for, judged_entry, tried_standings, dropped, distinct_one, has_map, has_new, has_old, filter_has, has_filter, CallsFor, Way, way_runs, along_split, filter, some_same, called_grows, called_quiet, quiet_grows, grows_refl, HasHash, parent_standing, binding_for, judged_bound, bound_hash, map_has, distinct_filter}
use Rattle.ug_kernel.specs.declared.device.Effect.{Effect}
use Rattle.ug_table.proofs.NamedStandings.{found, listed_is}
use Rattle.ug_table.proofs.Standings.{did_stands, Owned, owned_refl, owned_quiet, owned_apart, file_same, file_later, IsFileOf, with_own, each_with, IsOpen, open_name}
use Rattle.ug_table.proofs.Devices.{stand_stays}
use Rattle.ug_table.proofs.Lived.{piece_apart, stand_files}
use Rattle.ug_table.proofs.Accounts.{none_of, NoneDone, AreMarked, keeps_itself, keep_one, keep_marks, account_stays}
use Rattle.ug_table.proofs.Steps.{did_same, default_marks, FairFrom, fair_trans, StepFrom, fair_by, fair_end, then_quiet, then_called, then_note, then_same, then_went, one_itself, without_less, tried_after, left_all, in_order, stand_by, stand_of, fair_refl, gone_device}
use Rattle.ug_table.proofs.Shapes.{OnceMade, Brought, Treated, No_default, And_default, Cut_default, Gone_default, due_is, told_at, Piece, Opening, Fresh, Lost, Unbound_end, Failed_so, Short_so, Flat, Unprobed, Tried, Stopped, Unbound, No_place, Judged_so, IsGiven, next_after, judge_after, opening_none, opening_absent}
use Rattle.ug_types.specs.declared.record.Attrs.{Attrs}
use Rattle.ug_kernel.specs.Bound.{attrs_of, is_core_long, IsBoundBy, SaysBy}
use Rattle.ug_record.specs.Records.{child_hash_of}
use Rattle.ug_table.proofs.Above.{ParentsBy, kept_at, for_law, bound_record}
use Rattle.ug_table.proofs.Marks.{order_new, keeps_filter, sweep_in_order, AreIn, dropped_in, AreTried, sweep_tried, AreSplit, AreFresh, split_in, parted_split, parted_fresh, part_split, part_fresh, flat_part, order_distinct}
use Rattle.ug_types.proofs.Sorting.{to_sweep_order}
use Rattle.ug_kernel.proofs.HeldFiles.{live_before}
use Rattle.ug_table.proofs.Chains.{closings_quiet, Chain, Over, First, Goes, Listed, Unlisted, sweeping_run}
use Rattle.ug_table.proofs.FairWrites.{more, joined, none_more, Ends, once_fair, brought_fair}

-- The settling of one name is fair.

-- the state in which a device was just judged
abbrev given_of : {J : Type 0} → Answers J → State J → List ℕ → Judged → Terms → Bool → Target × Cause
given_of answer w name judged terms on = answer w.judge judged (is_none (parent_of name)) terms.present on w.standings

abbrev new_standing : {J : Type 0} → Answers J → State J → List ℕ → ℕ → Judged → List ℕ → Terms → Bool → Standing
new_standing answer w name held judged hash terms on = standing_for w name held judged hash (given_of answer w name judged terms on)

abbrev just_judged : {J : Type 0} → Answers J → Laters J → State J → List ℕ → ℕ → Judged → List ℕ → Terms → Bool → State J
just_judged answer later w name held judged hash terms on = record w {
  standings = with_standing (new_standing answer w name held judged hash terms on) w.standings;
  next = w.next + 1;
  judge = later w.judge judged (is_none (parent_of name)) terms.present on w.standings;
  entries = w.entries ++ judged_entry w name held (given_of answer w name judged terms on) ∷ [];
}

-- it isn't marked with any file
abbrev IsUnmarked : Standing → Type 0
IsUnmarked s = (control : Control) → is_done control s ≡ false

new_unmarked : (s : Standing) → s.removed ≡ false → s.defaulted ≡ false → IsUnmarked s
new_unmarked s e f Authorized = refl
new_unmarked s e f Remove = e
new_unmarked s e f Default = f

stand_more : (k : Kernel) (ss : List Standing) (next i : ℕ) (s : Standing) → IsDevice k i s.name s.held s.judged → HasHash k s → s.number ≡ next → IsUnmarked s → (Has (names_of ss) s.name → ⊥) → Stand k ss next → Stand k (with_standing s ss) (next + 1)
stand_more k ss next i s d hash number fresh absent stand =
    stand_by k (with_standing s ss) (next + 1) (order_new next ss s number absent (in_order stand))
    (each_with (λ (v : Standing). (i : ℕ) × IsDevice k i v.name v.held v.judged) s ss (i, d) stand.devices)
    (each_with (λ (v : Standing). HasHash k v) s ss hash stand.hashes)
    (λ control. each_with (λ (v : Standing). is_done control v ≡ true → HasDone control k v.held) s ss (λ r. absurd (true≢false (sym r ∙ fresh control))) (stand.done control))

-- a new standing isn't marked
new_marks : (ss : List Standing) (next : ℕ) (s : Standing) (e : Entry) → s.number ≡ next → IsUnmarked s → AllDistinct (numbers_of ss) → ((x : Standing) → Has ss x → x.number < next) → NoneDone (e ∷ []) → AreMarked ss (e ∷ []) (with_standing s ss)
new_marks ss next s e number fresh distinct low none control once =
    let unmarked : WasDone control ss (e ∷ []) s.number → ⊥ = λ w. elim w [
      | inl b ↦
          omega (arith, low b.0 b.1, b.2, number)
      | inr b ↦ none_of (e ∷ []) none control once s.number b
    ] in
    each_with (λ (v : Standing). IsDoneMarked control ss (e ∷ []) v) s ss (inr (fresh control, unmarked)) (λ t a. keep_one control ss (e ∷ []) t (keeps_itself ss t a control) distinct (none_of (e ∷ []) none control once t.number))

-- a device of the name had no standing, where the name had none
none_stood : (k : Kernel) (ss : List Standing) (next i : ℕ) (name : List ℕ) (held : Held) (judged : Judged) → IsDevice k i name held judged → (Has (names_of ss) name → ⊥) → Stand k ss next → HasStanding k ss i → ⊥
none_stood k ss next i name held judged d absent stand h =
    let x = stand.devices h.s h.has in
    let own : IsOpen k h.s.name h.s.held.0 = record { i = x.0; d = x.1.d; file = x.1.file; device = x.1.device; named = x.1.named } in
    let named : h.s.name ≡ name = sym (open_name k h.s.name h.s.held.0 i d.d own d.device h.file) ∙ d.named in
    absent (subst (λ (v : List ℕ). Has (names_of ss) v) named (has_map (λ (v : Standing). v.name) ss h.s h.has))

-- one entry of a verdict
judged_same : (number n : ℕ) (name m : List ℕ) (held g : Held) (verdict u : Target) (cause d : Cause) → Has (Entry.Judged number name held verdict cause ∷ []) (Entry.Judged n m g u d) → (number ≡ n) × (name ≡ m) × (held ≡ g) × (verdict ≡ u) × (cause ≡ d)
judged_same number n name m held g verdict u cause d (inl e) = ((cc), (cc), (cc), (cc), (cc))
judged_same number n name m held g verdict u cause d (inr none) = absurd none

-- a device was bound, and is judged
judged_fair : {J : Type 0} (answer : Answers J) (later : Laters J) (terms : Terms) (n m : Kernel) (u : State J) (name : List ℕ) (held i : ℕ) (judged : Judged) (hash : List ℕ) (on : Bool) → IsKernel m → Quiet n m → IsDevice m i name (record { 0 = held }) judged → HasHash m (new_standing answer u name held judged hash terms on) → IsProbed n m name held i on → (Has (names_of u.standings) name → ⊥) → Stand n u.standings u.next → FairFrom answer later terms none_before n u m (just_judged answer later u name held judged hash terms on)
judged_fair answer later terms n m u name held i judged hash on sound q d seen probed absent stand =
    let given = given_of answer u name judged terms on in
    let s = new_standing answer u name held judged hash terms on in
    let e = judged_entry u name held given in
    let file : Held = record { 0 = held } in
    let now = just_judged answer later u name held judged hash terms on in
    let there = stand_stays n m u.standings u.next (quiet_grows n m q) stand in
    let account : Account answer later terms none_before n m u.standings m.log u.judge u.next (e ∷ []) m.log now.judge now.next = Judge [] m.log u.judge u.next i name file judged on u.standings d probed there (left_all u.standings stand.distinct) (λ s a. inr (refl, a)) Start in
    let fair : IsFair answer later terms none_before n u m now = record {
      sound = sound;
      grows = quiet_grows n m q;
      rest = e ∷ [];
      entries = refl;
      stand = stand_more m u.standings u.next i s d seen refl (new_unmarked s refl refl) absent there;
      account = subst (λ (v : List Effect). Account answer later terms none_before n m u.standings v u.judge u.next (e ∷ []) m.log now.judge now.next) q.log account;
      left = record {
        told = each_with (λ (v : Standing). IsTold u.standings (e ∷ []) v) s u.standings (inr (inl refl)) (λ t a. inl (one_itself u.standings t a));
        kept = λ t a. inl (one_itself now.standings t (has_old u.standings (place_for name u.standings) s t a));
        judged = λ number m held verdict cause a.
            let x = judged_same u.next number name m file held given.0 verdict given.1 cause a in
            inl (s, has_new u.standings (place_for name u.standings) s, x.0, x.1, x.2, x.3, x.4);
        ended = λ t other a g. elim g [ inl is ↦ let none : ⊥ = cc in none | inr none ↦ none ];
        done = new_marks u.standings u.next s e refl (new_unmarked s refl refl) stand.distinct stand.numbers (λ number m w once h. elim h [ inl is ↦ let none : ⊥ = cc in none | inr none ↦ none ]);
      };
      gone = tt;
      once = λ j a b x y. sym (judged_same u.next a name x.name file x.held given.0 x.verdict given.1 x.cause x.has).0 ∙ (judged_same u.next b name y.name file y.held given.0 y.verdict given.1 y.cause y.has).0;
      unjudged = λ j a h x.
          let same = (judged_same u.next a name x.name file x.held given.0 x.verdict given.1 x.cause x.has).2 in
          let is : i ≡ j = file_same m held i j d.file (subst (λ (v : Held). IsFileOf m v.0 j) (sym same) x.file) in
          none_stood m u.standings u.next i name file judged d absent there (subst (λ (v : ℕ). HasStanding m u.standings v) (sym is) h);
    } in
    record { stood = stand; fair = fair }

-- and the hash that its children see
bound_seen : {J : Type 0} {Parents : Kernel → Option ℕ → Option Attrs → Type 0} (answer : Answers J) (terms : Terms) (u : State J) (name : List ℕ) (k l : Kernel) (b : Bound) (judged : Judged) → IsBoundBy Parents name k l b → HasHash l (new_standing answer u name b.held.0 judged (bound_hash b) terms b.on)
bound_seen answer terms u name k l b judged x i d file device =
    let is : i ≡ x.i = file_same l b.held.0 i x.i file x.file in
    let same : d ≡ x.d = some_same (slice_get l.devices i) d x.d device (subst (λ (v : ℕ). slice_get l.devices v ≡ Some x.d) (sym is) x.device) in
    ap (λ (v : Attrs). child_hash_of v b.core_long) x.own
    ∙ ap (λ (v : Bool). child_hash_of (attrs_of x.d) v) x.core_long
    ∙ ap (λ (v : Device). child_hash_of (attrs_of v) (is_core_long v)) (sym same)

-- the value that was probed is the one that the device had where its name's devices kept theirs
met_by : {Parents : Kernel → Option ℕ → Option Attrs → Type 0} (name : List ℕ) (k n m : Kernel) (b : Bound) (x : IsBoundBy Parents name n m b) → Grows k n → Quiet n m → Owned name k n → (d : Device) → slice_get k.devices x.i ≡ Some d → d.on ≡ b.on
met_by name k n m b x g q own d at =
    let p = g.devices x.i d at in
    let r = q.devices x.i p.0 p.1 in
    let same : r.0 ≡ x.d = some_same (slice_get m.devices x.i) r.0 x.d r.1 x.device in
    let named : d.name ≡ name = sym p.2.name ∙ sym r.2.stays.name ∙ ap (λ (v : Device). v.name) same ∙ x.named in
    let now = own x.i d.on d at named (d, at, refl) in
    let here : now.0 ≡ p.0 = some_same (slice_get n.devices x.i) now.0 p.0 now.1 p.1 in
    sym now.2 ∙ ap (λ (v : Device). v.on) here ∙ sym r.2.on ∙ ap (λ (v : Device). v.on) same ∙ x.value

bound_fair : {J : Type 0} {answer : Answers J} {later : Laters J} {terms : Terms} {tried : Tries} {k n : Kernel} {w u : State J} (m : Kernel) (name : List ℕ) (b : Bound) → IsKernel m → Quiet n m → IsBoundBy (ParentsBy (parent_standing name u.standings)) name n m b → (Has (names_of u.standings) name → ⊥) → AreIn tried name w u → Owned name k n → FairFrom answer later terms tried k w n u → FairFrom answer later terms tried k w m (just_judged answer later u name b.held.0 (judged_bound name u.standings b) (bound_hash b) terms b.on)
unfolding judged_fair
bound_fair {J} {answer} {later} {terms} {tried} {k} {n} {w} {u} m name b sound q x absent so own h =
    let probed : IsProbed n m name b.held.0 x.i b.on = record { first = n; last = m; since = grows_refl n; lived = x.lived; until = grows_refl m; met = met_by name n n m b x (grows_refl n) q (owned_refl name n) } in
    let since : IsProbed k m name b.held.0 x.i b.on = record { first = n; last = m; since = h.fair.grows; lived = x.lived; until = grows_refl m; met = met_by name k n m b x h.fair.grows q own } in
    let judged = judged_bound name u.standings b in
    let there = stand_stays n m u.standings u.next (quiet_grows n m q) h.fair.stand in
    let device = bound_record name n m u.standings u.next b there x in
    let step = judged_fair answer later terms n m u name b.held.0 x.i judged (bound_hash b) b.on sound q device (bound_seen answer terms u name n m b judged x) probed absent h.fair.stand in
    let now = just_judged answer later u name b.held.0 judged (bound_hash b) terms b.on in
    let before = account_stays answer later terms tried k n m w.standings k.log w.judge w.next h.fair.rest n.log u.judge u.next (quiet_grows n m q) h.fair.account in
    let whole : Account answer later terms tried k m w.standings k.log w.judge w.next (h.fair.rest ++ judged_entry u name b.held.0 (given_of answer u name judged terms b.on) ∷ []) n.log now.judge now.next = Judge h.fair.rest n.log u.judge u.next x.i name b.held judged b.on u.standings device since there h.fair.left (so h.fair.rest h.fair.entries) before in
    fair_by h step (subst (λ (v : List Effect). Account answer later terms tried k m w.standings k.log w.judge w.next (h.fair.rest ++ judged_entry u name b.held.0 (given_of answer u name judged terms b.on) ∷ []) v now.judge now.next) (sym q.log) whole)

-- a known device is brought to its verdict
pub known_brought : {J : Type 0} {answer : Answers J} {later : Laters J} {terms : Terms} {tried : Tries} {k m : Kernel} {w u : State J} {ms : List Made} {es : List Entry} {how : Settled} (l : Kernel) (name : List ℕ) (known : Known) (on : Bool) → standing_of name u.standings ≡ Some known → FairFrom answer later terms tried k w m u → Brought name known on ms es how → Along calls m ms l → FairFrom answer later terms tried k w l (record u { standings = tried_standings u.standings name how; entries = u.entries ++ es })
known_brought {m = m} {u = u} {ms = ms} {es = es} {how = how} l name known on at h b along =
    let f = found name u.standings known at in
    let named : Brought f.s.name known on ms es how = subst (λ (v : List ℕ). Brought v known on ms es how) (sym f.named) b in
    let own : Brought f.s.name (known_of f.s) on ms es how = subst (λ (v : Known). Brought f.s.name v on ms es how) (sym f.known) named in
    brought_fair l f.s (tried_standings u.standings name) own f.has (λ how. tried_after m u.standings u.next name f.s how f.has f.named h.fair.stand) h along

-- the write to the default of a root hub that is due

default_calls : (hub : Option Write) (name : List ℕ) (verdict : Target) (what : Write) → control_of what ≡ Default → parent_of name ≡ None → default_write hub ≡ Some what → CallsFor hub name verdict what
default_calls hub name verdict Write.DefaultOff f r e = (r, e)
default_calls hub name verdict Write.DefaultOn f r e = (r, e)
default_calls hub name verdict x f r e = let none : ⊥ = cc in absurd none

-- the standings behind it
abbrev default_after : List Standing → List ℕ → Settled → List Standing
default_after ss name Settled.Stands = map (with_default name) ss
default_after ss name how = tried_standings ss name how

after_cut : (ss : List Standing) (name : List ℕ) (how : Settled) → (how ≡ Settled.Stands → ⊥) → default_after ss name how ≡ tried_standings ss name how
after_cut ss name Settled.Stands n = absurd (n refl)
after_cut ss name how n = refl

default_ends : (m : Kernel) (ss : List Standing) (next : ℕ) (name : List ℕ) (s : Standing) (what : Write) → control_of what ≡ Default → Has ss s → s.name ≡ name → Stand m ss next → Ends (control_of what) (Unit {0}) s ss (default_after ss name)
default_ends m ss next name s what file has named stand =
    let ends : Ends Default (Unit {0}) s ss (default_after ss name) = record {
      done = (did_same ss name, default_marks m ss next name s has named stand);
      gone = tried_after m ss next name s Settled.Nobody has named stand;
      fault = λ failed. tried_after m ss next name s (Settled.Fault failed) has named stand;
      short = tried_after m ss next name s Settled.Memory has named stand;
    } in
    subst (λ (c : Control). Ends c (Unit {0}) s ss (default_after ss name)) (sym file) ends

default_fair : {J : Type 0} {answer : Answers J} {later : Laters J} {terms : Terms} {tried : Tries} {k m : Kernel} {w u : State J} {ds : List Made} {fs : List Entry} {how : Settled} (l : Kernel) (name : List ℕ) (known : Known) (what : Write) → standing_of name u.standings ≡ Some known → default_due terms.hub name known ≡ Some what → FairFrom answer later terms tried k w m u → OnceMade name known what ds fs how → Along calls m ds l → FairFrom answer later terms tried k w l (more u (default_after u.standings name how) fs)
default_fair {terms = terms} {m = m} {u = u} {ds = ds} {fs = fs} {how = how} l name known what at e h o along =
    let f = found name u.standings known at in
    let s = f.s in
    let due = due_is terms.hub name known what e in
    let named : OnceMade s.name known what ds fs how = subst (λ (v : List ℕ). OnceMade v known what ds fs how) (sym f.named) o in
    let own : OnceMade s.name (known_of s) what ds fs how = subst (λ (v : Known). OnceMade s.name v what ds fs how) (sym f.known) named in
    let fresh : is_done (control_of what) s ≡ false = ap (λ (c : Control). is_done c s) due.file ∙ ap (λ (v : Known). v.defaulted) f.known ∙ due.fresh in
    let root : parent_of s.name ≡ None = ap parent_of f.named ∙ due.root in
    once_fair l s (Unit {0}) (default_after u.standings name) (subst (λ (c : Control). IsOpenable c s.name) (sym due.file) root) own (default_calls terms.hub s.name s.verdict what due.file root due.is) tt fresh f.has (default_ends m u.standings u.next name s what due.file f.has f.named h.fair.stand) h along

-- a known device has all its writes
known_treated : {J : Type 0} {answer : Answers J} {later : Laters J} {terms : Terms} {tried : Tries} {k m : Kernel} {w u : State J} {d : Bool} {ms : List Made} {es : List Entry} {how : Settled} (l : Kernel) (name : List ℕ) (known : Known) (on : Bool) → standing_of name u.standings ≡ Some known → FairFrom answer later terms tried k w m u → Treated terms.hub name known on d ms es how → Along calls m ms l → FairFrom answer later terms tried k w l (record u { standings = tried_standings (did_default name d u.standings) name how; entries = u.entries ++ es })
known_treated l name known on at h (No_default ms es how e b) along = known_brought l name known on at h b along
known_treated {m = m} {u = u} l name known on at h (And_default what ds ms fs es how e o b) along =
    let cut = along_split calls ds ms m l along in
    let first = default_fair cut.0 name known what at e h o cut.1 in
    let now = did_stands name true u.standings known at in
    joined u (tried_standings (map (with_default name) u.standings) name how) fs es (known_brought l name (defaulted_known known) on now first b cut.2)
known_treated {answer = answer} {later = later} {terms = terms} {tried = tried} {k = k} {w = w} {u = u} l name known on at h (Cut_default what ds fs how e o cut) along =
    subst (λ (v : List Standing). FairFrom answer later terms tried k w l (more u v fs)) (after_cut u.standings name how cut.0) (default_fair l name known what at e h o along)
known_treated {m = m} l name known on at h (Gone_default what ds fs shut e o) along =
    let cut = along_split calls ds (made_with (Close known.held.0) shut ∷ []) m l along in
    fair_end l _ refl cut.2.2 (then_called (Close known.held.0) shut cut.2.0 tt cut.2.1 (default_fair cut.0 name known what at e h o cut.1))

-- and the name is told where it ends unsettled
told_fair : {J : Type 0} {answer : Answers J} {later : Laters J} {terms : Terms} {tried : Tries} {k l : Kernel} {w : State J} (u : State J) (rs : List Standing) (es : List Entry) (name : List ℕ) (how : Settled) → FairFrom answer later terms tried k w l (record u { standings = rs; entries = u.entries ++ es }) → FairFrom answer later terms tried k w l (record u { standings = rs; entries = u.entries ++ (es ++ unsettled_by name how) })
told_fair {J} {answer} {later} {terms} {tried} {k} {l} {w} u rs es name how h = joined u rs es (unsettled_by name how) (by how)
  where
    v : State J
    v = record u { standings = rs; entries = u.entries ++ es }

    by : (x : Settled) → FairFrom answer later terms tried k w l (record v { entries = v.entries ++ unsettled_by name x })
    by Settled.Stands = none_more v h
    by Settled.Nobody = none_more v h
    by (Settled.Fault failed) = then_note (Entry.Unsettled name (Fault.Call failed)) tt h
    by Settled.Memory = then_note (Entry.Unsettled name Fault.Memory) tt h

known_settled : {J : Type 0} {answer : Answers J} {later : Laters J} {terms : Terms} {tried : Tries} {k m : Kernel} {w u : State J} {d : Bool} {ms : List Made} {es : List Entry} {how : Settled} (l : Kernel) (name : List ℕ) (known : Known) (on : Bool) → standing_of name u.standings ≡ Some known → FairFrom answer later terms tried k w m u → Treated terms.hub name known on d ms es how → Along calls m ms l → FairFrom answer later terms tried k w l (record u { standings = tried_standings (did_default name d u.standings) name how; entries = u.entries ++ (es ++ unsettled_by name how) })
known_settled {u = u} {d = d} {es = es} {how = how} l name known on at h b along = told_fair u (tried_standings (did_default name d u.standings) name how) es name how (known_treated l name known on at h b along)

-- a known device that is gone loses its standing
then_dropped : {J : Type 0} {answer : Answers J} {later : Laters J} {terms : Terms} {tried : Tries} {k m : Kernel} {w u : State J} (name : List ℕ) (known : Known) → standing_of name u.standings ≡ Some known → IsGoneAt known.held.0 m → FairFrom answer later terms tried k w m u → FairFrom answer later terms tried k w m (dropped u name known.number)
then_dropped {J} {answer} {later} {terms} {tried} {k} {m} {w} {u} name known at gone h =
    let f = found name u.standings known at in
    let held : f.s.held ≡ known.held = ap (λ (v : Known). v.held) f.known in
    let number : f.s.number ≡ known.number = ap (λ (v : Known). v.number) f.known in
    let went = then_went f.s (without name u.standings) f.has (without_less m u.standings u.next name f.s f.has f.named h.fair.stand) (subst (λ (v : Held). IsGoneAt v.0 m) (sym held) gone) h in
    let e : Entry.Gone f.s.number f.s.name ≡ Entry.Gone known.number name = cc (number, f.named) in
    subst (λ (v : Entry). FairFrom answer later terms tried k w m (record u { standings = without name u.standings; entries = u.entries ++ v ∷ [] })) e went

-- and one whose probe failed is marked
then_failed : {J : Type 0} {answer : Answers J} {later : Laters J} {terms : Terms} {tried : Tries} {k m : Kernel} {w u : State J} (name : List ℕ) (known : Known) (failed : FailedCall) → standing_of name u.standings ≡ Some known → FairFrom answer later terms tried k w m u → FairFrom answer later terms tried k w m (record u { standings = tried_standings u.standings name (Settled.Fault failed); entries = u.entries ++ Entry.Unsettled name (Fault.Call failed) ∷ [] })
then_failed {m = m} {u = u} name known failed at h =
    let f = found name u.standings known at in
    let after = tried_after m u.standings u.next name f.s (Settled.Fault failed) f.has f.named h.fair.stand in
    then_same (tried_standings u.standings name (Settled.Fault failed)) after.0 after.1 (then_note (Entry.Unsettled name (Fault.Call failed)) tt h)

-- before a binding, the name has no standing left
record OpensFair {J : Type 0} (answer : Answers J) (later : Laters J) (terms : Terms) (tried : Tries) (k : Kernel) (w : State J) (l : Kernel) (v : State J) (name : List ℕ) (binds : Bool) : Type 0 where
  fair : FairFrom answer later terms tried k w l v
  so : binds ≡ true → AreIn tried name w v × Owned name k l

opening_fair : {J : Type 0} {answer : Answers J} {later : Laters J} {terms : Terms} {tried : Tries} {binds : Bool} {k m : Kernel} {w u : State J} {name : List ℕ} {ms : List Made} {es : List Entry} {rs : List Standing} (l : Kernel) → Opening name u.standings ms es rs → (binds ≡ true → AreIn tried name w u × Owned name k m) → FairFrom answer later terms tried k w m u → Along calls m ms l → OpensFair answer later terms tried k w l (record u { standings = rs; entries = u.entries ++ es }) name binds
opening_fair {J} {answer} {later} {terms} {tried} {binds} {k} {m} {w} {u} {name} l (Fresh e) so h a =
    subst (λ (v : List Entry). OpensFair answer later terms tried k w l (record u { entries = v }) name binds) (sym (append-nil u.entries)) (record { fair = fair_end l u refl a h; so = λ b. subst (λ (v : Kernel). AreIn tried name w u × Owned name k v) (sym a) (so b) })
opening_fair {tried = tried} {k = k} {m = m} {w = w} {u = u} {name = name} l (Lost known failed shut e) so h a = record {
  fair = fair_end l _ refl a.2.2 (then_called (Close known.held.0) shut a.2.0 tt a.2.1 (then_dropped name known e a.1.says (then_called (Ask_alive known.held.0) (told_at Probe.Gone failed) a.0 tt a.1 h)));
  so = λ b.
      let q = called_quiet (Ask_alive known.held.0) (told_at Probe.Gone failed) m a.0 tt a.1 in
      let r = called_quiet (Close known.held.0) shut a.0 a.2.0 tt a.2.1 in
      let own = owned_quiet name k a.0 a.2.0 (owned_quiet name k m a.0 (so b).1 q) r in
      (dropped_in tried w u name known.number h.fair.rest h.fair.entries (so b).0, subst (λ (v : Kernel). Owned name k v) (sym a.2.2) own);
}

-- the state after a name's part
abbrev ended_as : {J : Type 0} → Laters J → Terms → List ℕ → State J → Option (List Standing × Bound) → List Standing → List Entry → State J
ended_as later terms name u o rs es = record u { standings = rs; next = next_after u o; judge = judge_after later terms name u o; entries = u.entries ++ es }

unbound_fair : {J : Type 0} {answer : Answers J} {later : Laters J} {terms : Terms} {tried : Tries} {k l : Kernel} {w : State J} {name : List ℕ} {r : Binding} {fs : List Entry} {how : Settled} (u : State J) (rs : List Standing) (es : List Entry) → Unbound_end name r fs how → FairFrom answer later terms tried k w l (record u { standings = rs; entries = u.entries ++ es }) → FairFrom answer later terms tried k w l (record u { standings = rs; entries = u.entries ++ (es ++ fs) })
unbound_fair {J} {answer} {later} {terms} {tried} {k} {l} {w} {name} {r} {fs} u rs es end h = joined u rs es fs (by end h)
  where
    v : State J
    v = record u { standings = rs; entries = u.entries ++ es }

    by : {r : Binding} {fs : List Entry} {how : Settled} → Unbound_end name r fs how → FairFrom answer later terms tried k w l v → FairFrom answer later terms tried k w l (record v { entries = v.entries ++ fs })
    by (Failed_so failed) h = then_note (Entry.Unsettled name (Fault.Call failed)) tt h
    by Short_so h = then_note (Entry.Unsettled name Fault.Memory) tt h
    by x h = none_more v h

-- a binding leads to what it says
binds_fair : {J : Type 0} {answer : Answers J} {later : Laters J} {terms : Terms} {tried : Tries} {k n : Kernel} {w u : State J} (m : Kernel) (name : List ℕ) (ns : List Made) (r : Binding) → Way (binding_for name u.standings) ns r → FairFrom answer later terms tried k w n u → Along calls n ns m → IsKernel m × Quiet n m × SaysBy (ParentsBy (parent_standing name u.standings)) name n m r × FairFrom answer later terms tried k w m u
binds_fair {n = n} {u = u} m name ns r way h a =
    let kept = kept_at n name u.standings (stand_files n u.standings u.next h.fair.stand) in
    let law = for_law name (parent_standing name u.standings) r n m h.fair.sound kept (way_runs calls (binding_for name u.standings) ns n r m way a) in
    (law.sound, law.quiet, law.says, then_quiet m law.sound law.quiet h)

flat_fair : {J : Type 0} {answer : Answers J} {later : Laters J} {terms : Terms} {tried : Tries} {binds : Bool} {given : List Standing → Bound → Standing → Type 0} {k m : Kernel} {w u : State J} {name : List ℕ} {ok : Bool} {ms : List Made} {rest : List Entry} {how : Settled} {rs : List Standing} {o : Option (List Standing × Bound)} (l : Kernel) → Flat terms.hub binds given name u.standings ok ms rest how rs o → ((ss : List Standing) (b : Bound) (x : Standing) → given ss b x → IsGiven answer terms name u ss b x) → (binds ≡ true → AreIn tried name w u × Owned name k m) → FairFrom answer later terms tried k w m u → Along calls m ms l → FairFrom answer later terms tried k w l (ended_as later terms name u o rs rest)
flat_fair {name = name} l (Unprobed known failed at) is so h a = fair_end l _ refl a.2 (then_failed name known failed at (then_called (Ask_alive known.held.0) (told_at Probe.Failed failed) a.0 tt a.1 h))
flat_fair {name = name} l (Tried known on failed d ms es how at b) is so h a = known_settled l name known on at (then_called (Ask_alive known.held.0) (told_at (Probe.Alive on) failed) a.0 tt a.1 h) b a.2
flat_fair l (Stopped ms es rs f opening) is so h a = (opening_fair l opening so h a).fair
flat_fair {m = m} {u = u} {name = name} l (Unbound ms ns es fs rs r how t opening way end) is so h a =
    let cut = along_split calls ms ns m l a in
    unbound_fair u rs es end (binds_fair l name ns r way (opening_fair cut.0 opening so h cut.1).fair cut.2).3
flat_fair {m = m} {u = u} {name = name} l (No_place ms ns es rs b shut t opening way) is so h a =
    let last : List Made = made_with (Close b.held.0) shut ∷ [] in
    let cut = along_split calls ms (ns ++ last) m l a in
    let far = along_split calls ns last cut.0 l cut.2 in
    let x = binds_fair far.0 name ns (Binding.Bound b) way (opening_fair cut.0 opening so h cut.1).fair far.1 in
    joined u rs es _ (fair_end l _ refl far.2.2 (then_note (Entry.Unsettled name Fault.Memory) tt (then_called (Close b.held.0) shut far.2.0 tt far.2.1 x.3)))
flat_fair {J} {answer} {later} {terms} {tried} {k = k} {m = m} {w = w} {u = u} {name = name} l (Judged_so ms ns os es fs rs b x d how t opening way given new brought) is so h a =
    let cut = along_split calls ms (ns ++ os) m l a in
    let far = along_split calls ns os cut.0 l cut.2 in
    let o = opening_fair cut.0 opening so h cut.1 in
    let v : State J = record u { standings = rs; entries = u.entries ++ es } in
    let n = far.0 in
    let y = binds_fair n name ns (Binding.Bound b) way o.fair far.1 in
    let judged : Judged = judged_bound name rs b in
    let first = bound_fair n name b y.0 y.1 y.2 (opening_absent opening) (o.so t).0 (o.so t).1 o.fair in
    let now = just_judged answer later v name b.held.0 judged (bound_hash b) terms b.on in
    let s = new_standing answer v name b.held.0 judged (bound_hash b) terms b.on in
    let e = judged_entry v name b.held.0 (given_of answer v name judged terms b.on) in
    let E : Standing → State J = λ z. ended_as later terms name u (Some (rs, b)) (tried_standings (did_default name d (with_standing z rs)) name how) (es ++ Entry.Judged z.number name z.held z.verdict z.cause ∷ (fs ++ unsettled_by name how)) in
    let T : Standing → Type 0 = λ z. Treated terms.hub name (known_of z) b.on d os fs how → FairFrom answer later terms tried k w l (E z) in
    let own : T s = λ br. subst (λ (q : List Entry). FairFrom answer later terms tried k w l (record now { standings = tried_standings (did_default name d (with_standing s rs)) name how; entries = q })) (append_assoc v.entries (e ∷ []) (fs ++ unsettled_by name how) ∙ append_assoc u.entries es (e ∷ (fs ++ unsettled_by name how)))
    (known_settled l name (known_of s) b.on (with_own name s rs refl (opening_none opening)) first br far.2) in
    (subst T (sym (is rs b x given)) own) brought

pub piece_fair : {J : Type 0} {answer : Answers J} {later : Laters J} {binds : Bool} {terms : Terms}
    {tried : Tries} {name : List ℕ} {how : Settled} {ok : Bool} {ms : List Made} {k m l : Kernel}
    {w u v : State J} → (binds ≡ true → AreIn tried name w u × Owned name k m)
    → FairFrom answer later terms tried k w m u
    → Piece answer later binds terms name u ok ms how v → Along calls m ms l
    → FairFrom answer later terms tried k w l v
piece_fair {J} {answer} {later} {terms = terms} {tried = tried} {name = name} {k = k} {l = l}
    {w = w}
    {u = u} {v = v} so h p a =
    let is : v ≡ ended_as later terms name u p.judged v.standings p.rest =
    λ i. record { standings = v.standings; next = p.next i; listed = p.listed i; hub = p.hub i; judge = p.judge i; entries = p.entries i } in
    subst (λ (x : State J). FairFrom answer later terms tried k w l x) (sym is)
    (flat_fair l p.flat (λ ss b z g. g) so h a)

-- The sweep is fair.

-- what is so of the names still to come, where they are bound
abbrev pub Awaits : {J : Type 0} → Tries → List (List ℕ) → State J → State J → Type 0
Awaits tried names w u =
    AllDistinct names × AreTried tried names × AreSplit tried names w u × AreFresh names w u

-- the devices of those names keep their values
abbrev pub AreOwned : List (List ℕ) → Kernel → Kernel → Type 0
AreOwned names k l = (name : List ℕ) → Has names name → Owned name k l

pub chain_fair : {J : Type 0} {answer : Answers J} {later : Laters J} {binds : Bool} {terms : Terms}
    {tried : Tries} {names : List (List ℕ)} {k m : Kernel} {w u v : State J} {ok : Bool}
    {ms : List Made} {es : List Entry} (l : Kernel)
    → (binds ≡ true → Awaits tried names w u × AreOwned names k m)
    → FairFrom answer later terms tried k w m u
    → Chain answer later binds terms names u ok ms es v → Along calls m ms l
    → FairFrom answer later terms tried k w l v
chain_fair {answer = answer} {later = later} {terms = terms} {tried = tried} {k = k} {w = w} l so h
    (Over x) a =
    subst (λ (n : Kernel). FairFrom answer later terms tried k w n x) (sym a) h
chain_fair {tried = tried} {k = k} {m = m} {w = w} l so h (First name names how u x v ok more ms ns es p c) a =
    let rest = h.fair.rest in
    let e = h.fair.entries in
    let cut = along_split calls ms ns m l a in
    let part = flat_part p.flat in
    let others = (piece_apart h.fair.sound (stand_files m u.standings u.next h.fair.stand) p cut.1).others in
    chain_fair l
    (λ b.
    let q = (so b).0 in
    let own : AreOwned names k cut.0 = λ n has. owned_apart n name k m cut.0 h.fair.grows (λ same. q.0.0 (subst (λ (v : List ℕ). Has names v) same has)) ((so b).1 n (inr has)) others in
    ((q.0.1, q.1.2, part_split tried w u name names rest p.rest x e p.entries q.1 q.2 (q.3 rest e name (inl refl)) part, part_fresh w u name names rest p.rest x e p.entries q.0 q.3 part), own))
    (piece_fair (λ b. let q = (so b).0 in (split_in tried name names w u q.1 q.2, (so b).1 name (inl refl))) h p cut.1) c cut.2

-- an entry for each standing that isn't listed

abbrev unlisted : List (List ℕ) → List Standing → List Standing
unlisted names ss = filter (λ (s : Standing). not (lists names s.name)) ss

abbrev farewell : Standing → Entry
farewell s = Entry.Gone s.number s.name

farewells_are : (names : List (List ℕ)) (ss : List Standing) → farewells names ss ≡ map farewell (unlisted names ss)
farewells_are names [] = refl
farewells_are names (s ∷ ss) =
    let rest = farewells_are names ss in
    elim (lists names s.name) as (λ (b : Bool). cond b (farewells names ss) (farewell s ∷ farewells names ss) ≡ map farewell (cond (not b) (s ∷ unlisted names ss) (unlisted names ss))) [ true ↦ rest | false ↦ ap (λ (v : List Entry). farewell s ∷ v) rest ]

farewell_has : (names : List (List ℕ)) (ss : List Standing) (e : Entry) → Has (farewells names ss) e → (t : Standing) × Has ss t × (lists names t.name ≡ false) × (farewell t ≡ e)
farewell_has names ss e a =
    let m = map_has farewell (unlisted names ss) e (subst (λ (v : List Entry). Has v e) (farewells_are names ss) a) in
    let f = filter_has (λ (s : Standing). not (lists names s.name)) ss m.0 m.1 in
    (m.0, f.0, not-true (lists names m.0.name) f.1, m.2)

has_farewell : (names : List (List ℕ)) (ss : List Standing) (t : Standing) → Has ss t → lists names t.name ≡ false → Has (farewells names ss) (farewell t)
has_farewell names ss t a f = subst (λ (v : List Entry). Has v (farewell t)) (sym (farewells_are names ss)) (has_map farewell (unlisted names ss) t (has_filter (λ (s : Standing). not (lists names s.name)) ss t a (ap not f)))

gone_numbers : (ss : List Standing) → gone_of (map farewell ss) ≡ numbers_of ss
gone_numbers [] = refl
gone_numbers (s ∷ ss) = ap (λ (v : List ℕ). s.number ∷ v) (gone_numbers ss)

farewell_distinct : (names : List (List ℕ)) (ss : List Standing) → AllDistinct (numbers_of ss) → AllDistinct (gone_of (farewells names ss))
farewell_distinct names ss d = subst AllDistinct (sym (ap gone_of (farewells_are names ss) ∙ gone_numbers (unlisted names ss))) (distinct_filter (λ (s : Standing). s.number) (λ (s : Standing). not (lists names s.name)) ss d)

-- the device of each standing that isn't listed is gone
abbrev AreGone : Kernel → List (List ℕ) → List Standing → Type 0
AreGone m names ss = (s : Standing) (i : ℕ) → Has ss s → IsDevice m i s.name s.held s.judged → lists names s.name ≡ false → IsGone m i

farewell_account : {J : Type 0} (answer : Answers J) (later : Laters J) (terms : Terms) (tried : Tries) (m : Kernel) (names : List (List ℕ)) (before : List Standing) (log : List Effect) (judge : J) (next : ℕ) (ss : List Standing) (es : List Entry) → Stand m before next → AreGone m names before → ((s : Standing) → Has ss s → Has before s) → Account answer later terms tried m m before log judge next es log judge next → Account answer later terms tried m m before log judge next (es ++ farewells names ss) log judge next
farewell_account answer later terms tried m names before log judge next [] es stand gone sub a = subst (λ (v : List Entry). Account answer later terms tried m m before log judge next v log judge next) (sym (append-nil es)) a
farewell_account {J} answer later terms tried m names before log judge next (s ∷ ss) es stand gone sub a =
    let e = Entry.Gone s.number s.name in
    let A : List Entry → Type 0 = λ v. Account answer later terms tried m m before log judge next v log judge next in
    let rec : (fs : List Entry) → A fs → A (fs ++ farewells names ss) = λ fs b. farewell_account answer later terms tried m names before log judge next ss fs stand gone (λ t h. sub t (inr h)) b in
    let has = sub s (inl refl) in
    let d = stand.devices s has in
    cond_both (lists names s.name) (farewells names ss) (e ∷ farewells names ss) (λ (l : List Entry). A (es ++ l)) (λ q. rec es a)
    (λ q. subst (λ (v : List Entry). A v) (append_assoc es (e ∷ []) (farewells names ss))
    (rec (es ++ e ∷ []) (WentAway es log judge next d.0 s.number s.name s.held s.judged s.verdict d.1
    (gone s d.0 has d.1 q) (inl (s, has, refl, refl, refl, refl)) a)))

parted_fair : {J : Type 0} (answer : Answers J) (later : Laters J) (terms : Terms) (tried : Tries) (m : Kernel) (u : State J) (names : List (List ℕ)) → IsKernel m → Stand m u.standings u.next → AreGone m names u.standings → StepFrom answer later terms tried m u m (parted names u)
parted_fair answer later terms tried m u names sound stand gone =
    let ss = u.standings in
    let listed : Standing → Bool = λ s. lists names s.name in
    let rs = filter listed ss in
    let there : (s : Standing) → Has rs s → IsOne ss s = λ s a. one_itself ss s (filter_has listed ss s a).0 in
    let none : (number : ℕ) (name : List ℕ) (held : Held) (verdict : Target) (cause : Cause) → Has (farewells names ss) (Entry.Judged number name held verdict cause) → ⊥ = λ number name held verdict cause a. let t = farewell_has names ss (Entry.Judged number name held verdict cause) a in let e = t.3 in let none : ⊥ = cc in none in
    let fair : IsFair answer later terms tried m u m (parted names u) = record {
      sound = sound;
      grows = grows_refl m;
      rest = farewells names ss;
      entries = refl;
      stand = stand_of m ss rs u.next there (keeps_filter listed ss) (λ control s a. stand.done control s (filter_has listed ss s a).0) stand;
      account = farewell_account answer later terms tried m names ss m.log u.judge u.next ss [] stand gone (λ s a. a) Start;
      left = record {
        told = λ s a. inl (there s a);
        kept = λ s a. elim (cases_Bool (lists names s.name)) [
          | inl q ↦ inl (one_itself rs s (has_filter listed ss s a q))
          | inr q ↦ inr (has_farewell names ss s a q)
        ];
        judged = λ number name held verdict cause a. absurd (none number name held verdict cause a);
        ended = λ s name a g.
            let t = farewell_has names ss (Entry.Gone s.number name) g in
            let e = t.3 in
            let number : t.0.number ≡ s.number = cc in
            let f = filter_has listed ss s a in
            let same : t.0 ≡ s = distinct_one (λ (v : Standing). v.number) ss t.0 s stand.distinct t.1 f.0 number in
            true≢false (sym f.1 ∙ sym (ap (λ (v : Standing). lists names v.name) same) ∙ t.2);
        done = keep_marks ss rs (farewells names ss) stand.distinct (λ s a. keeps_itself ss s (filter_has listed ss s a).0) (λ number name what once a. let t = farewell_has names ss (Entry.Wrote number name what Wrote.Done) a in let e = t.3 in let none : ⊥ = cc in none);
      };
      gone = farewell_distinct names ss stand.distinct;
      once = λ i a b p q. absurd (none a p.name p.held p.verdict p.cause p.has);
      unjudged = λ i a h p. none a p.name p.held p.verdict p.cause p.has;
    } in
    record { step = record { stood = stand; fair = fair }; none = none }

-- what isn't listed is gone

listing_gone : (k m : Kernel) (names : List (List ℕ)) (ss : List Standing) (next : ℕ) → Grows k m → says_listing (Listing.Names names) k m → Stand k ss next → AreGone m (in_sweep_order names) ss
listing_gone k m names ss next g says stand s i a d out =
    let dead : Live m.devices i d.d → ⊥ = λ live.
    let x = stand.devices s a in
    let is : x.0 ≡ i = file_same m s.held.0 x.0 i (file_later k m s.held.0 x.0 g x.1.file) d.file in
    let first = live_before k m i x.1.d d.d g (subst (λ (v : ℕ). slice_get k.devices v ≡ Some x.1.d) is x.1.device) live in
    let has : Has names s.name = subst (λ (v : List ℕ). Has names v) x.1.named (says.0 i x.1.d (record { entry = first.0; exit = (d.d, live) })) in
    true≢false (sym (listed_is (in_sweep_order names) s.name (to_sweep_order names s.name has)) ∙ out) in
    gone_device m i s.name s.held s.judged d dead

-- a listing succeeded
then_listed : {J : Type 0} {answer : Answers J} {later : Laters J} {terms : Terms} {tried : Tries} {k m : Kernel} {w u : State J} → FairFrom answer later terms tried k w m u → FairFrom answer later terms tried k w m (marked_listed u)
then_listed {J} {answer} {later} {terms} {tried} {k} {m} {w} {u} h =
    let x = h.fair in
    let fair : IsFair answer later terms tried k w m (marked_listed u) = record { sound = x.sound; grows = x.grows; rest = x.rest; entries = x.entries; stand = x.stand; account = x.account; left = x.left; gone = x.gone; once = x.once; unjudged = x.unjudged } in
    record { stood = h.stood; fair = fair }

goes_fair : {J : Type 0} {answer : Answers J} {later : Laters J} {k l : Kernel} {w v : State J}
    {ok : Bool} {ms : List Made} {es : List Entry} → IsKernel k → Stand k w.standings w.next
    → Goes answer later w ok ms es v → Along calls k ms l
    → FairFrom answer later (terms_for w) swept_before k w l v
goes_fair {answer = answer} {later = later} {k = k} {l = l} {w = w} sound stand
    (Listed found failed ok shut made es v closings chain) b =
    let names = in_sweep_order found in
    let a = told_at (Listing.Names found) failed in
    let m = b.0 in
    let cut = along_split calls shut made m l b.2 in
    let gone = listing_gone k m found w.standings w.next (called_grows Names a k m b.1) b.1.says
    stand in
    let q = closings_quiet (unlisted_files names w.standings) shut m cut.0 b.1.sound closings cut.1
    in
    let f = then_called Names a m tt b.1 (fair_refl answer later (terms_for w) swept_before k w sound stand)
    in
    let h = fair_trans f
    (parted_fair answer later (terms_for w) swept_before m w names f.fair.sound f.fair.stand gone) in
    let own : AreOwned names k cut.0 = λ n has. owned_quiet n k m cut.0 (owned_quiet n k k m (owned_refl n k) (called_quiet Names a k m tt b.1)) q.1 in
    chain_fair l (λ e. (
      (
        order_distinct found b.1.says.1,
        sweep_tried names (sweep_in_order found b.1.says.1),
        parted_split swept_before names w,
        parted_fresh names w,
      ),
      own,
    )) (then_quiet cut.0 q.0 q.1 (then_listed h))
    chain cut.2
goes_fair {answer = answer} {later = later} {k = k} {l = l} {w = w} sound stand
    (Unlisted list failed room why ok made es v by chain) b =
    chain_fair l (λ e. let none : ⊥ = cc in absurd none)
    (then_note (Entry.UnsettledAll why) tt
    (then_called Names (told_at list failed) b.0 tt b.1
    (fair_refl answer later (terms_for w) swept_before k w sound stand))) chain b.2

pub sweeping_fair : {J : Type 0} (answer : Answers J) (later : Laters J) (w : State J) (k l : Kernel) (v : State J) → IsKernel k → Stand k w.standings w.next → Runs calls k (sweeping answer later w) v l → IsFair answer later (terms_for w) swept_before k w l v
sweeping_fair answer later w k l v sound stand r =
    let x = sweeping_run calls answer later k w l v r in
    (goes_fair sound stand x.so.1 x.along).fair
