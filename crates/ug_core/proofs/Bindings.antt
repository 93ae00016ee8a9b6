-- From the shapes of the last stage to the calls by which it bound what it judged.
use Rattle.std.proofs.Common.{◌≡◌, ℕ, suc, ◌+◌, ◌≤◌, Bool, true, false, cond, is_none, length, List, [], ◌∷◌, ◌++◌, Option, Some, None, inl, inr, refl, sym, ◌∙◌, ap, subst, arith, append_assoc}
use Rattle.ug_types.specs.Elements.{Has}
use Rattle.ug_types.proofs.Elements.{has_cases}
use Rattle.ug_types.specs.Names.{parent_of}
use Rattle.ug_kernel.specs.declared.control.Control.TheVariants.{Authorized}
use Rattle.ug_types.specs.declared.record.Attrs.{Attrs}
use Rattle.ug_types.specs.declared.record.DeviceRecord.{DeviceRecord}
use Rattle.ug_types.specs.declared.record.Judged.{Judged}
use Rattle.ug_types.specs.declared.record.Judged.TheVariants as judged
use Rattle.ug_types.specs.declared.verdict.Cause.{Cause}
use Rattle.ug_kernel.specs.declared.control.Held.{Held}
use Rattle.ug_types.specs.declared.verdict.Target.{Target}
use Rattle.ug_conf.specs.declared.settings.Present.{Present}
use Rattle.ug_types.specs.Sweep.{in_sweep_order}
use Rattle.ug_kernel.specs.declared.calls.Listing.{Listing}
use Rattle.ug_kernel.specs.declared.calls.Opened.{Opened}
use Rattle.ug_kernel.specs.declared.calls.Probe.{Probe}
use Rattle.ug_kernel.specs.declared.sysfs.Sysfs
use Rattle.ug_kernel.specs.Along.{Made, made_with, Along}
use Rattle.ug_kernel.specs.Called.{Follows, does_open, says_probe}
use Rattle.ug_kernel.specs.Calls.{Call, Names, Open, Read, Ask_alive, Put, Close, Answer}
use Rattle.ug_kernel.specs.Kernel.{Kernel, IsKernel}
use Rattle.ug_kernel.specs.Tree.{Runs, calls}
use Rattle.ug_kernel.proofs.Quiet.{WritesNothing, moves_quiet, quiet_trans}
use Rattle.ug_kernel.proofs.Ways.{Unwritten, Way, Ways, along_quiet, along_split, ways_last, ways_more, ways_run}
use Rattle.ug_kernel.specs.Bind.{binding_of}
use Rattle.ug_kernel.specs.declared.files.OwnFiles.{OwnFiles}
use Rattle.ug_kernel.specs.declared.files.Stop.{Stop}
use Rattle.ug_kernel.specs.declared.identity.Binding.{Binding}
use Rattle.ug_kernel.specs.declared.identity.Bound.{Bound}
use Rattle.ug_kernel.proofs.BindShapes.{Binds_by, Bound_by, Cut, Reads, No_more, Then_read, reads_own, reads_parents, told, way_binds}
use Rattle.ug_kernel.proofs.UnderShapes.{Behind_by, Cut_behind, Found_alive, Probed_by, Read_behind, Under_alive, Under_by, Under_cut, Under_other}
use Rattle.ug_audit.specs.declared.entry.Entry.{Entry}
use Rattle.ug_policy.specs.declared.entry.RuleEntry.{RuleEntry}
use Rattle.ug_policy.specs.Deciding.{Found, decider}
use Rattle.ug_policy.specs.Matching.{answer_by}
use Rattle.ug_table.specs.Allowed.{allowed_records}
use Rattle.ug_table.specs.Parent.{binding_by, binding_for, judged_bound, parent_standing}
use Rattle.ug_table.specs.Parts.{numbers_given}
use Rattle.ug_table.specs.Standings.{farewells, lists}
use Rattle.ug_table.specs.State.{State, Terms, terms_for}
use Rattle.ug_table.specs.Sweep.{settling_all, sweeping}
use Rattle.ug_table.specs.declared.standing.Settled.{Settled}
use Rattle.ug_table.specs.declared.standing.Standing.{Standing}
use Rattle.ug_table.proofs.Above.{above_has, way_under}
use Rattle.ug_table.proofs.Chains.{Chain, Over, First, Goes, Listed, Unlisted, Comes, Linked, chain_entries, goes_entries, settling_chain, sweeping_by}
use Rattle.ug_table.proofs.OnePart.{flat_given, given_count}
use Rattle.ug_table.proofs.Shapes.{Flat, IsGiven, Judged_so, told_at}
use Rattle.ug_core.specs.Bindings.{AllOnlyAsk, BindsJudged, Binds, BoundAmong, OnlyAsks}
use Rattle.ug_core.specs.Event.{DaemonState, ended, handling, settling_due}
use Rattle.ug_core.proofs.Values.{along_values, called_values, values_then}
use Rattle.ug_core.specs.Policy.{Judging, by_choice, cause_for, choice_for, found_for, kept, policy_answer, policy_later, verdict_of}

-- the verdict that keeps what a device had is that of its value

found_keeps : (o : Option RuleEntry) (implicit : Target) → (answer_by implicit o).1 ≡ Cause.Keep → ⊥
found_keeps None implicit e = let none : ⊥ = cc in none
found_keeps (Some entry) implicit e = let none : ⊥ = cc in none

class_keeps : (was : Bool) → cause_for was ≡ Cause.Keep → ⊥
class_keeps true e = let none : ⊥ = cc in none
class_keeps false e = let none : ⊥ = cc in none

choice_keeps : (choice : Present) (was on : Bool) (implicit : Target) (found : Found) → (by_choice choice was on implicit found).1 ≡ Cause.Keep → (by_choice choice was on implicit found).0 ≡ (kept on).0
choice_keeps Present.Allow was on implicit found e = absurd (class_keeps was e)
choice_keeps Present.Block was on implicit found e = absurd (class_keeps was e)
choice_keeps Present.Reject was on implicit found e = absurd (class_keeps was e)
choice_keeps Present.Keep was on implicit found e = refl
choice_keeps Present.Apply was on implicit found e = absurd (found_keeps (decider found) implicit e)

verdict_keeps : (p : Judging) (records : List DeviceRecord) (dev : Judged) (controller was on : Bool) → (verdict_of p records dev controller was on).1 ≡ Cause.Keep → (verdict_of p records dev controller was on).0 ≡ (kept on).0
verdict_keeps p records (judged.Malformed kind place) controller was on e = let none : ⊥ = cc in absurd none
verdict_keeps p records (judged.Good dev) controller was on e = choice_keeps (choice_for p.classes controller was) was on p.classes.implicit (found_for p records dev) e

-- what a verdict was given on, among calls
record Got (ms : List Made) (name : List ℕ) (held : Held) (verdict : Target) (cause : Cause) : Type 0 where
  on : Bool
  calls : Binds name held on ms
  keeps : cause ≡ Cause.Keep → verdict ≡ (kept on).0

binds_more : {name : List ℕ} {held : Held} {on : Bool} {ms : List Made} (ns : List Made) → Binds name held on ms → Binds name held on (ms ++ ns)
binds_more {name} {held} {on} {ms} ns b =
    let start : Made = made_with (Open name Authorized) b.opening in
    let end : Made = made_with (Ask_alive held.0) b.probing in
    record {
      earlier = b.earlier;
      opening = b.opening;
      asked = b.asked;
      probing = b.probing;
      later = b.later ++ ns;
      cut = ap (λ (v : List Made). v ++ ns) b.cut ∙ append_assoc b.earlier (start ∷ (b.asked ++ end ∷ b.later)) ns ∙ ap (λ (v : List Made). b.earlier ++ start ∷ v) (append_assoc b.asked (end ∷ b.later) ns);
      token = b.token;
      only = b.only;
      found = b.found;
    }

binds_behind : {name : List ℕ} {held : Held} {on : Bool} {ns : List Made} (ms : List Made) → Binds name held on ns → Binds name held on (ms ++ ns)
binds_behind {name} {held} {on} {ns} ms b =
    let start : Made = made_with (Open name Authorized) b.opening in
    let end : Made = made_with (Ask_alive held.0) b.probing in
    record {
      earlier = ms ++ b.earlier;
      opening = b.opening;
      asked = b.asked;
      probing = b.probing;
      later = b.later;
      cut = ap (λ (v : List Made). ms ++ v) b.cut ∙ sym (append_assoc ms b.earlier (start ∷ (b.asked ++ end ∷ b.later)));
      token = b.token;
      only = b.only;
      found = b.found;
    }

got_more : {ms : List Made} {name : List ℕ} {held : Held} {verdict : Target} {cause : Cause} (ns : List Made) → Got ms name held verdict cause → Got (ms ++ ns) name held verdict cause
got_more ns g = record { on = g.on; calls = binds_more ns g.calls; keeps = g.keeps }

got_behind : {ns : List Made} {name : List ℕ} {held : Held} {verdict : Target} {cause : Cause} (ms : List Made) → Got ns name held verdict cause → Got (ms ++ ns) name held verdict cause
got_behind ms g = record { on = g.on; calls = binds_behind ms g.calls; keeps = g.keeps }

-- a binding

reads_ask : {name : List ℕ} {ms : List Made} → Reads name ms → AllOnlyAsk ms
reads_ask No_more = tt
reads_ask (Then_read of at t ms may came r) = (tt, reads_ask r)

stop_unbound : (why : Stop) (x : Bound) → Binding.Bound x ≡ binding_of why → ⊥
stop_unbound Stop.Vanished x e = let none : ⊥ = cc in none
stop_unbound y x e = let none : ⊥ = cc in none

binding_binds : {name : List ℕ} {ms : List Made} {x : Bound} → Binds_by name ms (Binding.Bound x) → Binds name x.held x.on ms
binding_binds {x = x} (Cut file call count ms of at t shut why r left a first may stops e) =
    absurd (stop_unbound why x e)
binding_binds (Bound_by call count number total ms x reads first are) = record {
  earlier = [];
  opening = told (Opened.Token x.held) call count;
  asked = ms;
  probing = told (Probe.Alive x.on) number total;
  later = [];
  cut = refl;
  token = refl;
  only = reads_ask reads;
  found = refl;
}

-- under the held file of the parent

-- the opening, calls that ask, and the probe that ends it
probed_binds : {name : List ℕ} {file : Held} {own : OwnFiles} {parent : Option Attrs} {ns : List Made} {x : Bound} (call count : ℕ) (asked : List Made) → AllOnlyAsk asked → Probed_by file own parent ns (Binding.Bound x) → Binds name x.held x.on (made_with (Open name Authorized) (told (Opened.Token file) call count) ∷ (asked ++ ns))
probed_binds {file = file} call count asked only (Found_alive on number total) = record {
  earlier = [];
  opening = told (Opened.Token file) call count;
  asked = asked;
  probing = told (Probe.Alive on) number total;
  later = [];
  cut = refl;
  token = refl;
  only = only;
  found = refl;
}

under_binds : {name parent : List ℕ} {kept : ℕ} {ms : List Made} {x : Bound} → Under_by name parent kept ms (Binding.Bound x) → Binds name x.held x.on ms
under_binds {x = x} (Under_cut file call count ms at t shut why r left own first stops e) = absurd (stop_unbound why x e)
under_binds {name} {parent} {kept} (Under_alive file call count d p s c on number total ns r own h) =
    probed_binds call count (reads_own name d p s c (made_with (Ask_alive kept) (told (Probe.Alive on) number total) ∷ [])) (tt, (tt, (tt, (tt, (tt, tt))))) h
under_binds {name} {parent} {kept} {x = x} (Under_other file call count d p s c t ns r isnt own h) = by h
  where
    by : {own : OwnFiles} {ns : List Made} → Behind_by name parent file own ns (Binding.Bound x) → Binds name x.held x.on (made_with (Open name Authorized) (told (Opened.Token file) call count) ∷ reads_own name d p s c (made_with (Ask_alive kept) t ∷ ns))
    by (Cut_behind ms at t shut why r left a first stops e) = absurd (stop_unbound why x e)
    by (Read_behind u v w ns r a first h) = probed_binds call count (reads_own name d p s c (made_with (Ask_alive kept) t ∷ reads_parents parent u v w)) (tt, (tt, (tt, (tt, (tt, (tt, (tt, (tt, tt)))))))) h

-- beside the standing of the parent, if there is one
beside_binds : (name : List ℕ) (ss : List Standing) (ms : List Made) (x : Bound) → Way (binding_for name ss) ms (Binding.Bound x) → Binds name x.held x.on ms
beside_binds name ss ms x way = by (parent_standing name ss) refl way
  where
    by : (o : Option Standing) → parent_standing name ss ≡ o → Way (binding_by name o) ms (Binding.Bound x) → Binds name x.held x.on ms
    by None e way = binding_binds (way_binds name ms (Binding.Bound x) way)
    by (Some s) e way = under_binds (way_under name s ms (Binding.Bound x) (above_has name ss s e).1 way)

-- entries that give out one number have one verdict

abbrev Tells : List Entry → ℕ → List ℕ → Held → Target → Cause → Type 0
Tells es number name held verdict cause = Has es (Entry.Judged number name held verdict cause)

tells_given : (es : List Entry) (number : ℕ) (name : List ℕ) (held : Held) (verdict : Target) (cause : Cause) → Tells es number name held verdict cause → 1 ≤ length (numbers_given es)
tells_given [] number name held verdict cause a = absurd a
tells_given (Entry.Judged n m h v c ∷ es) number name held verdict cause a = omega arith
tells_given (e ∷ es) number name held verdict cause (inl is) = let none : ⊥ = cc in absurd none
tells_given (e ∷ es) number name held verdict cause (inr a) = tells_given es number name held verdict cause a

only_one : (es gs : List Entry) (n : ℕ) (m : List ℕ) (h : Held) (v : Target) (c : Cause) (number : ℕ) (name : List ℕ) (held : Held) (verdict : Target) (cause : Cause) → length (numbers_given (es ++ Entry.Judged n m h v c ∷ gs)) ≡ 1 → Tells (es ++ Entry.Judged n m h v c ∷ gs) number name held verdict cause → Entry.Judged n m h v c ≡ Entry.Judged number name held verdict cause
only_one [] gs n m h v c number name held verdict cause one (inl is) = is
only_one [] gs n m h v c number name held verdict cause one (inr a) =
    let least = tells_given gs number name held verdict cause a in
    let sum : suc (length (numbers_given gs)) ≡ 1 = one in
    let none : ⊥ = omega (arith, least, sum) in absurd none
only_one (Entry.Judged x y z u w ∷ es) gs n m h v c number name held verdict cause one a =
    let more : Tells (es ++ Entry.Judged n m h v c ∷ gs) n m h v c = own es in
    let least = tells_given (es ++ Entry.Judged n m h v c ∷ gs) n m h v c more in
    let sum : suc (length (numbers_given (es ++ Entry.Judged n m h v c ∷ gs))) ≡ 1 = one in
    let none : ⊥ = omega (arith, least, sum) in absurd none
  where
    own : (xs : List Entry) → Tells (xs ++ Entry.Judged n m h v c ∷ gs) n m h v c
    own [] = inl refl
    own (x ∷ xs) = inr (own xs)
only_one (e ∷ es) gs n m h v c number name held verdict cause one (inl is) = let none : ⊥ = cc in absurd none
only_one (e ∷ es) gs n m h v c number name held verdict cause one (inr a) = only_one es gs n m h v c number name held verdict cause one a

-- a part

abbrev FlatBy : Bool → Terms → List ℕ → State Judging → Bool → List Made → List Entry → Settled → List Standing → Option (List Standing × Bound) → Type 0
FlatBy binds terms name w ok ms es how rs o = Flat terms.hub binds (IsGiven policy_answer terms name w) name w.standings ok ms es how rs o

-- what was judged was bound, where it gave out a number
part_got : {binds : Bool} (terms : Terms) (name : List ℕ) (w : State Judging) {ok : Bool} {ms : List Made} {es : List Entry} {how : Settled} {rs : List Standing} {o : Option (List Standing × Bound)} (number : ℕ) (other : List ℕ) (held : Held) (verdict : Target) (cause : Cause) → FlatBy binds terms name w ok ms es how rs o → length (numbers_given es) ≡ given_count o → Tells es number other held verdict cause → Got ms other held verdict cause
part_got terms name w number other held verdict cause (Judged_so ms ns os es fs rs b x d how t opening way given new brought) one a =
    let is : Entry.Judged x.number name x.held x.verdict x.cause ≡ Entry.Judged number other held verdict cause = only_one es _ x.number name x.held x.verdict x.cause number other held verdict cause one a in
    let named : name ≡ other = cc in
    let file : x.held ≡ held = cc in
    let judged : x.verdict ≡ verdict = cc in
    let why : x.cause ≡ cause = cc in
    let own : Binds name b.held b.on ns = beside_binds name rs ns b way in
    let whole : Binds name b.held b.on (ms ++ (ns ++ os)) = binds_behind ms (binds_more os own) in
    let placed : Binds other held b.on (ms ++ (ns ++ os)) = subst (λ (v : Held). Binds other v b.on (ms ++ (ns ++ os))) (sym new.held ∙ file) (subst (λ (v : List ℕ). Binds v b.held b.on (ms ++ (ns ++ os))) named whole) in
    record {
      on = b.on;
      calls = placed;
      keeps = λ k. sym judged ∙ ap (λ (s : Standing). s.verdict) given ∙ verdict_keeps w.judge (allowed_records rs) (judged_bound name rs b) (is_none (parent_of name)) terms.present b.on (sym (ap (λ (s : Standing). s.cause) given) ∙ why ∙ k);
    }
part_got terms name w {es = es} number other held verdict cause f one a =
    let least = tells_given es number other held verdict cause a in
    let none : ⊥ = omega (arith, least, one) in absurd none

flat_got : {binds : Bool} (terms : Terms) (name : List ℕ) (w : State Judging) {ok : Bool} {ms : List Made} {es : List Entry} {how : Settled} {rs : List Standing} {o : Option (List Standing × Bound)} (number : ℕ) (other : List ℕ) (held : Held) (verdict : Target) (cause : Cause) → FlatBy binds terms name w ok ms es how rs o → Tells es number other held verdict cause → Got ms other held verdict cause
flat_got terms name w number other held verdict cause f a = part_got terms name w number other held verdict cause f (flat_given f) a

-- the parts of a sweep
chain_got : {binds : Bool} {terms : Terms} {names : List (List ℕ)} {w v : State Judging} {ok : Bool} {ms : List Made} {es : List Entry} (number : ℕ) (other : List ℕ) (held : Held) (verdict : Target) (cause : Cause) → Chain policy_answer policy_later binds terms names w ok ms es v → Tells es number other held verdict cause → Got ms other held verdict cause
chain_got number other held verdict cause (Over w) a = absurd a
chain_got {terms = terms} number other held verdict cause (First name names how w x v ok more ms ns es p c) a = elim (has_cases p.rest es (Entry.Judged number other held verdict cause) a) [
  | inl h ↦ got_more ns (flat_got terms name w number other held verdict cause p.flat h)
  | inr h ↦ got_behind ms (chain_got number other held verdict cause c h)
]

farewells_none : (names : List (List ℕ)) (ss : List Standing) (number : ℕ) (other : List ℕ) (held : Held) (verdict : Target) (cause : Cause) → Tells (farewells names ss) number other held verdict cause → ⊥
farewells_none names [] number other held verdict cause = λ a. a
farewells_none names (s ∷ ss) number other held verdict cause =
    let rest = farewells_none names ss number other held verdict cause in
    elim (lists names s.name) as (λ (b : Bool). Tells (cond b (farewells names ss) (Entry.Gone s.number s.name ∷ farewells names ss)) number other held verdict cause → ⊥) [
      | true ↦ rest
      | false ↦ λ a. elim a [ inl is ↦ let none : ⊥ = cc in none | inr h ↦ rest h ]
    ]

goes_got : {w v : State Judging} {ok : Bool} {ms : List Made} {es : List Entry} (number : ℕ) (other : List ℕ) (held : Held) (verdict : Target) (cause : Cause) → Goes policy_answer policy_later w ok ms es v → Tells es number other held verdict cause → Got ms other held verdict cause
goes_got {w = w} number other held verdict cause (Listed found failed ok shut made es v closings c) a = elim (has_cases (farewells (in_sweep_order found) w.standings) es (Entry.Judged number other held verdict cause) a) [
  | inl h ↦ absurd (farewells_none (in_sweep_order found) w.standings number other held verdict cause h)
  | inr h ↦ got_behind (made_with Names (told_at (Listing.Names found) failed) ∷ shut) (chain_got number other held verdict cause c h)
]
goes_got number other held verdict cause (Unlisted list failed room why ok made es v by c) (inl is) = let none : ⊥ = cc in absurd none
goes_got number other held verdict cause (Unlisted list failed room why ok made es v by c) (inr h) = got_behind (made_with Names (told_at list failed) ∷ []) (chain_got number other held verdict cause c h)

-- what the last stage judged
record AllGot (w : State Judging) (ms : List Made) (v : State Judging) : Type 0 where
  rest : List Entry
  entries : v.entries ≡ w.entries ++ rest
  each : (number : ℕ) (name : List ℕ) (held : Held) (verdict : Target) (cause : Cause) → Tells rest number name held verdict cause → Got ms name held verdict cause

due_got : (due : Option (List (List ℕ))) (w : State Judging) → Ways (settling_due due w) (λ ok ms v. AllGot w ms v)
due_got None w =
    ways_more (Comes policy_answer policy_later w) (λ ok ms v. AllGot w ms v) (sweeping policy_answer policy_later w)
    (λ ok ms v c. record { rest = c.0; entries = goes_entries c.1; each = λ number name held verdict cause a. goes_got number name held verdict cause c.1 a })
    (sweeping_by policy_answer policy_later w)
due_got (Some names) w =
    ways_more (Linked policy_answer policy_later true (terms_for w) names w) (λ ok ms v. AllGot w ms v) (settling_all policy_answer policy_later names (terms_for w) w)
    (λ ok ms v c. record { rest = c.0; entries = chain_entries c.1; each = λ number name held verdict cause a. chain_got number name held verdict cause c.1 a })
    (settling_chain policy_answer policy_later names (terms_for w) w)

-- with the last entry
record SweepGot (d : DaemonState) (ms : List Made) (e : DaemonState) : Type 0 where
  rest : List Entry
  entries : e.sweep.entries ≡ d.sweep.entries ++ rest
  each : (number : ℕ) (name : List ℕ) (held : Held) (verdict : Target) (cause : Cause) → Tells rest number name held verdict cause → Got ms name held verdict cause

with_end : DaemonState → State Judging → DaemonState
with_end d v = record d { sweep = record v { entries = v.entries ++ Entry.End d.event ∷ [] }; due = None; event = d.event + 1 }

ends_got : (d : DaemonState) (ms : List Made) (v : State Judging) → AllGot d.sweep ms v → SweepGot d ms (with_end d v)
unfolding with_end
ends_got d ms v c = record {
  rest = c.rest ++ Entry.End d.event ∷ [];
  entries = ap (λ (x : List Entry). x ++ Entry.End d.event ∷ []) c.entries ∙ append_assoc d.sweep.entries c.rest (Entry.End d.event ∷ []);
  each = λ number name held verdict cause a. elim (has_cases c.rest (Entry.End d.event ∷ []) (Entry.Judged number name held verdict cause) a) [
    | inl h ↦ c.each number name held verdict cause h
    | inr (inl is) ↦ let none : ⊥ = cc in absurd none
    | inr (inr h) ↦ absurd h
  ];
}

handling_sweeps : (d : DaemonState) → Ways (handling d) (λ ok ms e. SweepGot d ms e)
unfolding handling with_end
handling_sweeps d = ways_last (λ ok ms v. AllGot d.sweep ms v) (λ ok ms e. SweepGot d ms e) (settling_due d.due d.sweep) (ended d) (with_end d) (λ v. refl) (due_got d.due d.sweep) (λ ok ms v c. ends_got d ms v c)

-- kernels along calls

asks_unwritten : (call : Call) → OnlyAsks call → WritesNothing call
asks_unwritten (Read name attr) a = tt
asks_unwritten (Ask_alive held) a = tt
asks_unwritten Names a = absurd a
asks_unwritten (Open name control) a = absurd a
asks_unwritten (Put held what) a = absurd a
asks_unwritten (Close held) a = absurd a

ask_unwritten : (ms : List Made) → AllOnlyAsk ms → Unwritten ms
ask_unwritten [] a = tt
ask_unwritten (m ∷ ms) a = (asks_unwritten m.call a.0, ask_unwritten ms a.1)

along_then : {S : Type 0} (gives : S → (call : Call) → Answer call → S → Type 0) (ms ns : List Made) (s u t : S) → Along gives s ms u → Along gives u ns t → Along gives s (ms ++ ns) t
along_then {S} gives [] ns s u t a b = subst (λ (x : S). Along gives x ns t) a b
along_then gives (m ∷ ms) ns s u t a b = (a.0, a.1, along_then gives ms ns a.0 u t a.2 b)

module _ {S : Type 0} (sysfs : Sysfs.Ghosts S) (did : (s : S) (call : Call) (answer : Answer call) (t : S) (l : Kernel) → sysfs.gives s call answer t → sysfs.told t ≡ Some l → Follows call answer (sysfs.told s) l) where
  open sysfs use {gives, told as kernel_told}

  told_along : (ms : List Made) (s t : S) (l : Kernel) → Along gives s ms t → kernel_told t ≡ Some l → (k : Kernel) × (kernel_told s ≡ Some k) × (IsKernel k → Along calls k ms l × IsKernel l)
  told_along [] s t l a e = (l, subst (λ (v : S). kernel_told v ≡ Some l) a e, λ sound. (refl, sound))
  told_along (m ∷ ms) s t l a e =
      let more = told_along ms a.0 t l a.2 e in
      let one = did s m.call m.answer a.0 more.0 a.1 more.1 in
      (one.kernel, one.was, λ sound. let c = one.called sound in let rest = more.2 c.sound in ((more.0, c, rest.0), rest.1))

  bound_among : {name : List ℕ} {held : Held} {on : Bool} {made : List Made} (b : Binds name held on made) (s t : S) → Along gives s made t → BoundAmong sysfs b s t
  bound_among {name} {held} {on} {made} b s t along =
      let start : Made = made_with (Open name Authorized) b.opening in
      let end : Made = made_with (Ask_alive held.0) b.probing in
      let whole = subst (λ (v : List Made). Along gives s v t) b.cut along in
      let x = along_split gives b.earlier (start ∷ (b.asked ++ end ∷ b.later)) s t whole in
      let y = along_split gives b.asked (end ∷ b.later) x.2.0 t x.2.2 in
      record {
        before = x.0;
        behind = x.2.0;
        reading = y.0;
        read = y.2.0;
        until = x.1;
        opens = x.2.1;
        asks = y.1;
        probes = y.2.1;
        since = y.2.2;
        lives = λ l e.
            let p = did y.0 (Ask_alive held.0) b.probing y.2.0 l y.2.1 e in
            let r = told_along b.asked x.2.0 y.0 p.kernel y.1 p.was in
            let o = did x.0 (Open name Authorized) b.opening x.2.0 r.0 x.2.1 r.1 in
            let f = told_along b.earlier s x.0 o.kernel x.1 o.was in (
              p.kernel,
              p.was,
              o.kernel,
              o.was,
              f.0,
              f.1,
              λ sound.
                  let front = f.2 sound in
                  let c = o.called front.1 in
                  let q = r.2 c.sound in
                  let d = p.called q.1 in (
                    record {
                      before = c.before;
                      opening = c.after;
                      start = c.moves_before;
                      opened = subst (λ (a : Opened). does_open name Authorized a c.before c.after) b.token c.effect;
                      quiet = quiet_trans c.after r.0 p.kernel (moves_quiet c.after r.0 c.moves_after) (along_quiet b.asked r.0 p.kernel (ask_unwritten b.asked b.only) q.0);
                      alive = subst (λ (a : Probe). says_probe held.0 a p.kernel l) b.found d.says;
                    },
                    values_then f.0 o.kernel p.kernel (along_values b.earlier f.0 o.kernel front.0) (values_then o.kernel r.0 p.kernel (called_values (Open name Authorized) b.opening o.kernel r.0 c) (along_values b.asked r.0 p.kernel q.0)),
                  ),
            );
      }

  pub binds_judged : (order : List Made) (s m : S) (d : DaemonState) (t : S) (e : DaemonState) → Along gives s order m → Runs gives m (handling d) e t → BindsJudged sysfs s d t e
  binds_judged order s m d t e along runs =
      let x = ways_run gives (λ ok ms e. SweepGot d ms e) (handling d) m e t (handling_sweeps d) runs in
      let whole = along_then gives order x.made s m t along x.along in
      record {
        made = order ++ x.made;
        along = whole;
        rest = x.so.rest;
        entries = x.so.entries;
        each = λ number name held verdict cause a.
            let g = got_behind order (x.so.each number name held verdict cause a) in
            record { on = g.on; calls = g.calls; states = bound_among g.calls s t whole; keeps = g.keeps };
      }
