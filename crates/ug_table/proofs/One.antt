-- What the settling of one name does, over the states of a run.
use Rattle.std.proofs.Common.{◌≡◌, ℕ, Bool, true, false, not, nat_eq, ◌&&◌, ◌||◌, List, [], ◌∷◌, ◌++◌, Option, Some, None, map, cond, inl, inr, refl, sym, ◌∙◌, ap, subst, arith, true≢false, ◌⊎◌, slice_get}
use Rattle.std.proofs.lemmas.Bool.{false_from_ne_true, or_right}
use Rattle.std.proofs.lemmas.Bool.Decides.{same_from_decides}
use Rattle.std.specs.Cmp.Lexicographic.{bytes_decides}
use Rattle.ug_table.proofs.Common.{kept_file, Has, AllDistinct, Call, Answer, Runs, calls, Made, Along, Bound, Entry, State, Kept, Answers, Laters, kept_of, with_kept, same_name, known_of, numbered, without, marked, removed_of, Control, Remove, Default, is_done, Terms, terms_of, Write, Known, standing_of, did_default, with_default, default_due, NeedsMemory, with_standing, numbers_of, Tries, none_before, Stand, IsGone, IsNamed, HasStanding, IsAsJudged, Standing, Settled, Device, Kernel, IsKernel, Follows, names_of, stands, tried_standings, settling, resettling, filter_has, map_has, has_map, distinct_one, cancel, is_reject, grows_refl, some_same, resettling_numbered, NeedsRoom, failed_of, whys, why_of, GoesAsPart, LivedAs, SettledOne, SettlesOne, IsOf, ResettledOne, ResettlesOne, told_run, StandInOrder}
use Rattle.ug_table.specs.Marks.{has_name, has_number, stood_done, LeavesMarks}
use Rattle.ug_table.proofs.Marks.{keeps_did, names_distinct, unnamed, flat_stands, flat_nobody}
use Rattle.ug_table.proofs.NamedStandings.{is_same, same_is, found, missing, numbered_has, or_none}
use Rattle.ug_table.proofs.Standings.{owned_refl, rest_map, known_as, default_as, default_own, default_other, did_stands, Test, own, rest_of, AreNamed, marked_rest, without_rest, of_name, without_with, each_with, IsFileOf, file_same, file_later, LiveAs, IsOpen, open_name, open_later, open_named}
use Rattle.ug_table.proofs.Shapes.{treated_done, Opening, Fresh, Lost, Flat, Unprobed, Tried, Stopped, Unbound, No_place, Judged_so, Piece, opening_absent, opening_rest}
use Rattle.ug_table.proofs.PartCalls.{failed_by}
use Rattle.ug_table.proofs.OnePart.{flat_room, tells_why, flat_whys, flat_is_part}
use Rattle.ug_table.proofs.Chains.{settling_run, numbered_run, resettling_run, run_numbered, no_verdict, no_later}
use Rattle.ug_kernel.proofs.Rises.{Counting, along_numbered, along_rises}
use Rattle.ug_table.proofs.Steps.{FairFrom, had_before, fair_refl}
use Rattle.ug_table.proofs.Lived.{IsDefaultedIf, as_due, as_number, as_removed, none_stands, lives_first, lives_last, stand_files, judged_at, piece_well}
use Rattle.ug_table.proofs.Fair.{piece_fair}
use Rattle.ug_table.proofs.Faults.{ending_rises}
use Rattle.ug_kernel.proofs.Defaults.{along_logs}
use Rattle.ug_table.proofs.Defaults.{fair_defaults}

-- How the settling of a name leaves the marks, whatever the kernel answers.

-- which numbers were marked with a file

none_stood : (control : Control) (number : ℕ) (ss : List Standing) → (Has (numbers_of ss) number → ⊥) → stood_done control number ss ≡ false
none_stood control number [] n = refl
none_stood control number (s ∷ ss) n =
    ap (λ (b : Bool). (b && is_done control s) || stood_done control number ss) (false_from_ne_true (nat_eq s.number number) (λ e. n (inl (let is : s.number ≡ number = grind (arith, e) in is))))
    ∙ none_stood control number ss (λ a. n (inr a))

pub stood_at : (control : Control) (ss : List Standing) (s : Standing) → AllDistinct (numbers_of ss) → Has ss s → stood_done control s.number ss ≡ is_done control s
stood_at control [] s d a = absurd a
stood_at control (t ∷ ss) s d (inl e) =
    let same : nat_eq t.number s.number ≡ true = let is = ap (λ (v : Standing). v.number) e in grind (arith, is) in
    let rest : stood_done control s.number ss ≡ false = none_stood control s.number ss (λ a. d.0 (subst (λ (v : ℕ). Has (numbers_of ss) v) (sym (ap (λ (v : Standing). v.number) e)) a)) in
    ap (λ (b : Bool). (b && is_done control t) || stood_done control s.number ss) same ∙ ap (λ (b : Bool). is_done control t || b) rest ∙ or_none (is_done control t) ∙ ap (is_done control) e
stood_at control (t ∷ ss) s d (inr a) =
    let other = false_from_ne_true (nat_eq t.number s.number) (λ e. let is : t.number ≡ s.number = grind (arith, e) in d.0 (subst (λ (v : ℕ). Has (numbers_of ss) v) (sym is) (has_map (λ (v : Standing). v.number) ss s a))) in
    ap (λ (b : Bool). (b && is_done control t) || stood_done control s.number ss) other ∙ stood_at control ss s d.1 a

-- those that are meant were marked as removed before as they are now
abbrev pub AreStood : Test → List Standing → List Standing → Type 0
AreStood test before ss = (s : Standing) → Has ss s → own test s ≡ true → stood_done Remove s.number before ≡ s.removed

-- standings that are tried again

-- a default that was written before is so now, and where it stands none is due
pub record KeepsDefaults (hub : Option Write) (test : Test) (before ss : List Standing) (how : Settled) : Type 0 where
  pub stays : (s : Standing) → Has ss s → own test s ≡ true → stood_done Default s.number before ≡ true → s.defaulted ≡ true
  pub done : (s : Standing) → Has ss s → own test s ≡ true → stands how ≡ true → IsDefaultedIf hub s

marked_leaves : (hub : Option Write) (test : Test) (name : List ℕ) (before ss : List Standing) (mark : Bool) (how : Settled) → mark ≡ stands how → AreNamed test name ss → rest_of test ss ≡ rest_of test before → AreStood test before ss → KeepsDefaults hub test before ss how → LeavesMarks hub (own test) before (map (marked name mark) ss) how
marked_leaves hub test name before ss mark how is named rest stood kept = record {
  others = marked_rest test name mark ss named ∙ rest;
  settled = λ s a o.
      let m = map_has (marked name mark) ss s a in
      let flag = own_named m.0 m.1 s m.2 o in
      sym (ap (λ (v : Standing). v.settled) m.2) ∙ ap (λ (t : Bool). cond t mark m.0.settled) flag ∙ is;
  removed = λ s a o.
      let m = map_has (marked name mark) ss s a in
      let flag = own_named m.0 m.1 s m.2 o in
      let to : removed_of name mark m.0 ≡ (stood_done Remove m.0.number before || (stands how && is_reject m.0.verdict)) =
      ap (λ (t : Bool). cond t (m.0.removed || (mark && is_reject m.0.verdict)) m.0.removed) flag
      ∙ ap (λ (t : Bool). t || (mark && is_reject m.0.verdict)) (sym (stood m.0 m.1 (named m.0 m.1 ∙ flag)))
      ∙ ap (λ (t : Bool). stood_done Remove m.0.number before || (t && is_reject m.0.verdict)) is in
      subst (λ (v : Standing). v.removed ≡ (stood_done Remove v.number before || (stands how && is_reject v.verdict))) m.2 to;
  defaulted = λ s a o.
      let m = map_has (marked name mark) ss s a in
      subst (λ (v : Standing). stood_done Default v.number before ≡ true → v.defaulted ≡ true) m.2 (kept.stays m.0 m.1 (named m.0 m.1 ∙ own_named m.0 m.1 s m.2 o));
  written = λ s a o h.
      let m = map_has (marked name mark) ss s a in
      subst (IsDefaultedIf hub) m.2 (kept.done m.0 m.1 (named m.0 m.1 ∙ own_named m.0 m.1 s m.2 o) h);
}
  where
    own_named : (b : Standing) → Has ss b → (s : Standing) → marked name mark b ≡ s → own test s ≡ true → same_name b.name name ≡ true
    own_named b a s e o = sym (named b a) ∙ ap (λ (v : Standing). own test v) e ∙ o

-- none is left of those that are meant
none_leaves : (hub : Option Write) (test : Test) (before after : List Standing) (how : Settled) → rest_of test after ≡ rest_of test before → ((s : Standing) → Has after s → own test s ≡ true → ⊥) → LeavesMarks hub (own test) before after how
none_leaves hub test before after how rest none = record {
  others = rest;
  settled = λ s a o. absurd (none s a o);
  removed = λ s a o. absurd (none s a o);
  defaulted = λ s a o. absurd (none s a o);
  written = λ s a o. absurd (none s a o);
}

without_leaves : (hub : Option Write) (test : Test) (name : List ℕ) (before ss : List Standing) (how : Settled) → AreNamed test name ss → rest_of test ss ≡ rest_of test before → LeavesMarks hub (own test) before (without name ss) how
without_leaves hub test name before ss how named rest =
    none_leaves hub test before (without name ss) how (without_rest test name ss named ∙ rest) (λ s a h.
    let f = filter_has (λ (v : Standing). not (same_name v.name name)) ss s a in
    true≢false (sym f.1 ∙ ap not (sym (named s f.0) ∙ h)))

pub tried_leaves : (hub : Option Write) (test : Test) (name : List ℕ) (before ss : List Standing) (how : Settled) → AreNamed test name ss → rest_of test ss ≡ rest_of test before → AreStood test before ss → KeepsDefaults hub test before ss how → LeavesMarks hub (own test) before (tried_standings ss name how) how
tried_leaves hub test name before ss Settled.Nobody named rest stood kept = without_leaves hub test name before ss Settled.Nobody named rest
tried_leaves hub test name before ss Settled.Stands named rest stood kept = marked_leaves hub test name before ss true Settled.Stands refl named rest stood kept
tried_leaves hub test name before ss how named rest stood kept = marked_leaves hub test name before ss false how refl named rest stood kept

-- one whose default may have been written, and that is tried again

did_named : (test : Test) (name : List ℕ) (d : Bool) (ss : List Standing) → AreNamed test name ss → AreNamed test name (did_default name d ss)
did_named test name true ss named s a = let m = map_has (with_default name) ss s a in subst (λ (v : Standing). own test v ≡ same_name v.name name) m.2 (named m.0 m.1)
did_named test name false ss named s a = named s a

did_rest : (test : Test) (name : List ℕ) (d : Bool) (ss : List Standing) → AreNamed test name ss → rest_of test (did_default name d ss) ≡ rest_of test ss
did_rest test name true ss named = rest_map test (with_default name) ss (λ s. refl) (λ s a e. default_other name s (λ f. true≢false (sym (is_same s.name name f) ∙ sym (named s a) ∙ e)))
did_rest test name false ss named = refl

-- its mark is that from before, or was set
did_mark : (name : List ℕ) (d : Bool) (ss : List Standing) (s : Standing) → Has (did_default name d ss) s → (b : Standing) × Has ss b × (b.number ≡ s.number) × (b.removed ≡ s.removed) × (b.defaulted ≡ true → s.defaulted ≡ true)
did_mark name true ss s a = let m = map_has (with_default name) ss s a in (m.0, m.1, ap (λ (v : Standing). v.number) m.2, ap (λ (v : Standing). v.removed) m.2, λ e. sym (ap (λ (v : Standing). v.defaulted) m.2) ∙ or_right (same_name m.0.name name) m.0.defaulted e)
did_mark name false ss s a = (s, a, refl, refl, λ e. e)

-- the one of the name is that which was found
did_due : (hub : Option Write) (next : ℕ) (name : List ℕ) (d : Bool) (ss : List Standing) (known : Known) (s : Standing) → StandInOrder next ss → standing_of name ss ≡ Some known → default_due hub name (known_as d known) ≡ None → Has (did_default name d ss) s → s.name ≡ name → IsDefaultedIf hub s
did_due hub next name d ss known s order at due a named =
    let ws = did_default name d ss in
    let f = found name ws (known_as d known) (did_stands name d ss known at) in
    let is : f.s ≡ s = distinct_one (λ (v : Standing). v.name) ws f.s s (names_distinct (names_of ws) (keeps_did name d ss next order).order) f.has a (f.named ∙ sym named) in
    subst (IsDefaultedIf hub) is (ap (λ (v : List ℕ). default_due hub v (known_of f.s)) f.named ∙ ap (λ (v : Known). default_due hub name v) f.known ∙ due)

stands_so : (how : Settled) → stands how ≡ true → how ≡ Settled.Stands
stands_so Settled.Stands h = refl
stands_so x h = let none : ⊥ = cc in absurd none

pub did_leaves : (hub : Option Write) (test : Test) (next : ℕ) (name : List ℕ) (d : Bool) (ss : List Standing) (known : Known) (how : Settled) → StandInOrder next ss → AreNamed test name ss → standing_of name ss ≡ Some known → (how ≡ Settled.Stands → default_due hub name (known_as d known) ≡ None) → LeavesMarks hub (own test) ss (tried_standings (did_default name d ss) name how) how
did_leaves hub test next name d ss known how order named at due =
    let ws = did_default name d ss in
    let stood : (control : Control) → (s : Standing) → (b : Standing) → Has ss b → b.number ≡ s.number → stood_done control s.number ss ≡ is_done control b = λ control s b a e. subst (λ (v : ℕ). stood_done control v ss ≡ is_done control b) e (stood_at control ss b order.distinct a) in
    tried_leaves hub test name ss ws how (did_named test name d ss named) (did_rest test name d ss named)
    (λ s a o. let m = did_mark name d ss s a in stood Remove s m.0 m.1 m.2 ∙ m.3)
    (record {
      stays = λ s a o e. let m = did_mark name d ss s a in m.4 (sym (stood Default s m.0 m.1 m.2) ∙ e);
      done = λ s a o h. did_due hub next name d ss known s order at (due (stands_so how h)) a (same_is s.name name (sym (did_named test name d ss named s a) ∙ o));
    })

-- a new one, where no other is of its name
did_is : (name : List ℕ) (d : Bool) (ws : List Standing) (x : Standing) → ((s : Standing) → Has ws s → same_name s.name name ≡ true → x ≡ s) → (s : Standing) → Has (did_default name d ws) s → same_name s.name name ≡ true → default_as d x ≡ s
did_is name true ws x only s a o =
    let m = map_has (with_default name) ws s a in
    let own = ap (λ (v : Standing). same_name v.name name) m.2 ∙ o in
    ap (λ (v : Standing). let y : Standing = record v { defaulted = true } in y) (only m.0 m.1 own) ∙ sym (default_own name m.0 (same_is m.0.name name own)) ∙ m.2
did_is name false ws x only s a o = only s a o

-- a name

own_missing : (name : List ℕ) (ss : List Standing) (s : Standing) → (Has (names_of ss) name → ⊥) → Has ss s → same_name s.name name ≡ true → ⊥
own_missing name ss s n a o = n (subst (λ (v : List ℕ). Has (names_of ss) v) (same_is s.name name o) (has_map (λ (v : Standing). v.name) ss s a))

-- none stands for it
opening_leaves : (hub : Option Write) {name : List ℕ} {ss : List Standing} {ms : List Made} {es : List Entry} {rs : List Standing} (how : Settled) → Opening name ss ms es rs → LeavesMarks hub (has_name name) ss rs how
opening_leaves hub {name = name} {ss = ss} {rs = rs} how opening =
    none_leaves hub (of_name name) ss rs how (opening_rest opening) (λ s a o. own_missing name rs s (opening_absent opening) a o)

next_stood : (control : Control) (next : ℕ) (ss : List Standing) → StandInOrder next ss → stood_done control next ss ≡ false
next_stood control next ss o = none_stood control next ss (λ a.
    let m = map_has (λ (v : Standing). v.number) ss next a in
    omega (arith, o.numbers m.0 m.1, m.2))

flat_leaves : {hub : Option Write} {binds : Bool} {given : List Standing → Bound → Standing → Type 0} {name : List ℕ} {ss : List Standing} {ok : Bool} {ms : List Made} {rest : List Entry} {how : Settled} {rs : List Standing} {o : Option (List Standing × Bound)} (next : ℕ) → StandInOrder next ss → ((rs : List Standing) (b : Bound) (x : Standing) → given rs b x → x.number ≡ next) → Flat hub binds given name ss ok ms rest how rs o → LeavesMarks hub (has_name name) ss rs how
flat_leaves {hub} {name = name} {ss = ss} next order numbered (Unprobed known failed at) = did_leaves hub (of_name name) next name false ss known (Settled.Fault failed) order (λ s a. refl) at (λ e. let none : ⊥ = cc in absurd none)
flat_leaves {hub} {name = name} {ss = ss} next order numbered (Tried known on failed d ms es how at b) = did_leaves hub (of_name name) next name d ss known how order (λ s a. refl) at (treated_done b)
flat_leaves {hub} next order numbered (Stopped ms es rs f opening) = opening_leaves hub Settled.Nobody opening
flat_leaves {hub} next order numbered (Unbound ms ns es fs rs r how t opening way end) = opening_leaves hub how opening
flat_leaves {hub} next order numbered (No_place ms ns es rs b shut t opening way) = opening_leaves hub Settled.Memory opening
flat_leaves {hub} {name = name} {ss = ss} next order numbered (Judged_so ms ns os es fs rs b x d how t opening way given new brought) =
    let ws = with_standing x rs in
    let all = did_default name d ws in
    let number : x.number ≡ next = numbered rs b x given in
    let only : (s : Standing) → Has ws s → same_name s.name name ≡ true → x ≡ s = each_with (λ (v : Standing). same_name v.name name ≡ true → x ≡ v) x rs (λ o. refl) (λ s a o. absurd (own_missing name rs s (opening_absent opening) a o)) in
    let is : (s : Standing) → Has all s → same_name s.name name ≡ true → default_as d x ≡ s = did_is name d ws x only in
    let at : (s : Standing) → Has all s → same_name s.name name ≡ true → s.number ≡ next = λ s a o. sym (ap (λ (v : Standing). v.number) (is s a o)) ∙ as_number d x ∙ number in
    tried_leaves hub (of_name name) name ss all how (λ s a. refl) (did_rest (of_name name) name d ws (λ s a. refl) ∙ without_with name x rs new.named ∙ opening_rest opening)
    (λ s a o. ap (λ (v : ℕ). stood_done Remove v ss) (at s a o) ∙ next_stood Remove next ss order ∙ sym new.stays ∙ sym (as_removed d x) ∙ ap (λ (v : Standing). v.removed) (is s a o))
    (record {
      stays = λ s a o e. absurd (true≢false (sym e ∙ ap (λ (v : ℕ). stood_done Default v ss) (at s a o) ∙ next_stood Default next ss order));
      done = λ s a o h. subst (IsDefaultedIf hub) (is s a o) (as_due hub d x name (known_of x) new.named refl (treated_done brought (stands_so how h)));
    })

pub run_leaves : {S J : Type 0} (gives : S → (call : Call) → Answer call → S → Type 0) (answer : Answers J) (later : Laters J) (name : List ℕ) (terms : Terms) (w : State J) (s : S) (p : Settled × State J) (t : S) → StandInOrder w.next w.standings → Runs gives s (settling answer later name terms w) p t → LeavesMarks terms.hub (has_name name) w.standings p.1.standings p.0
run_leaves gives answer later name terms w s p t order r = flat_leaves w.next order
    (λ rs b x e. ap (λ (v : Standing). v.number) e)
    (settling_run gives answer later name terms w s p t r).so.flat

-- a number

abbrev pub of_number : ℕ → Test
of_number number = λ name other. nat_eq other number

pub numbered_named : (next number : ℕ) (ss : List Standing) (x : Standing) → StandInOrder next ss → numbered number ss ≡ Some x → AreNamed (of_number number) x.name ss
numbered_named next number ss x order at s a =
    let h = numbered_has number ss x at in
    same_from_decides (nat_eq s.number number) (same_name s.name x.name) (
      λ e. (let n : s.number ≡ number = grind (arith, e) in ap (λ (v : Standing). v.name) (distinct_one (λ (v : Standing). v.number) ss s x order.distinct a h.0 (n ∙ sym h.1))),
      λ e. (let n : s.number ≡ number = ap (λ (v : Standing). v.number) (distinct_one (λ (v : Standing). v.name) ss s x (names_distinct (names_of ss) order.order) a h.0 e) ∙ h.1 in grind (arith, n)),
    ) (bytes_decides s.name x.name)

-- a standing that is settled again
pub record Again (hub : Option Write) (name : List ℕ) (ss rs : List Standing) (how : Settled) : Type 0 where
  pub known : Known
  pub at : standing_of name ss ≡ Some known
  pub d : Bool
  pub is : rs ≡ tried_standings (did_default name d ss) name how
  pub due : how ≡ Settled.Stands → default_due hub name (known_as d known) ≡ None

flat_tried : {hub : Option Write} {given : List Standing → Bound → Standing → Type 0} {binds : Bool} {name : List ℕ} {ss : List Standing} {ok : Bool} {ms : List Made} {rest : List Entry} {how : Settled} {rs : List Standing} {o : Option (List Standing × Bound)} → Flat hub binds given name ss ok ms rest how rs o → binds ≡ false → Has (names_of ss) name → Again hub name ss rs how
flat_tried (Unprobed known failed at) f a = record { known = known; at = at; d = false; is = refl; due = λ e. let none : ⊥ = cc in absurd none }
flat_tried (Tried known on failed d ms es how at b) f a = record { known = known; at = at; d = d; is = refl; due = treated_done b }
flat_tried {name = name} {ss = ss} (Stopped ms es rs f (Fresh e)) g a = absurd (missing name ss e a)
flat_tried (Stopped ms es rs f (Lost known failed shut e)) g a = record { known = known; at = e; d = false; is = refl; due = λ s. let none : ⊥ = cc in absurd none }
flat_tried (Unbound ms ns es fs rs r how t opening way end) f a = absurd (true≢false (sym t ∙ f))
flat_tried (No_place ms ns es rs b shut t opening way) f a = absurd (true≢false (sym t ∙ f))
flat_tried (Judged_so ms ns os es fs rs b x d how t opening way given new brought) f a = absurd (true≢false (sym t ∙ f))

pub numbered_leaves : {S : Type 0} (gives : S → (call : Call) → Answer call → S → Type 0) (hub : Option Write) (next number : ℕ) (k : Kept) (x : Standing) (s : S) (p : Settled × Kept) (t : S) → StandInOrder next k.standings → numbered number k.standings ≡ Some x → Runs gives s (resettling_numbered hub number k) p t → LeavesMarks hub (has_number number) k.standings p.1.standings p.0
numbered_leaves gives hub next number k x s p t order at r =
    let has = has_map (λ (v : Standing). v.name) k.standings x (numbered_has number k.standings x at).0 in
    let again = flat_tried (numbered_run gives hub number k x s p t at r).so.flat refl has in
    subst (λ (v : List Standing). LeavesMarks hub (has_number number) k.standings v p.0) (sym again.is) (did_leaves hub (of_number number) next x.name again.d k.standings again.known p.0 order (numbered_named next number k.standings x order at) again.at again.due)

-- want of memory
pub needs_room : {S : Type 0} (gives : S → (call : Call) → Answer call → S → Type 0) (hub : Option Write) (next number : ℕ) (k : Kept) (x : Standing) (s : S) (p : Settled × Kept) (t : S) → StandInOrder next k.standings → numbered number k.standings ≡ Some x → Runs gives s (resettling_numbered hub number k) p t → p.0 ≡ Settled.Memory → NeedsRoom hub number k.standings
needs_room gives hub next number k x s p t order at r e =
    let room = flat_room (numbered_run gives hub number k x s p t at r).so.flat refl e in
    let f = found x.name k.standings room.0 room.1 in
    let same : f.s ≡ x = distinct_one (λ (v : Standing). v.name) k.standings f.s x (names_distinct (names_of k.standings) order.order) f.has (numbered_has number k.standings x at).0 f.named in
    (x, at, subst (λ (v : Standing). NeedsMemory hub x.name (known_of v)) same (subst (λ (v : Known). NeedsMemory hub x.name v) (sym f.known) room.2))

-- what was added is one list
added : (es fs xs ys : List Entry) → fs ≡ es ++ xs → fs ≡ es ++ ys → ys ≡ xs
added es fs xs ys e f = cancel es ys xs (sym f ∙ e)

pub told_of : (how : Settled) → failed_by (why_of how) ≡ failed_of how
told_of Settled.Stands = refl
told_of how = refl

as_part : {S J : Type 0} (gives : S → (call : Call) → Answer call → S → Type 0)
    (calls faults : S → ℕ) (counted : Counting gives calls faults) {answer : Answers J}
    {later : Laters J} {binds : Bool} {terms : Terms} {name : List ℕ} {how : Settled} {ok : Bool}
    {ms : List Made} {s t : S} {w v : State J} → Piece answer later binds terms name w ok ms how v
    → Along gives s ms t
    → GoesAsPart terms.hub binds gives calls faults name s w.standings w.entries t v.standings v.entries how
as_part gives calls faults counted {name = name} {how = how} {ms = ms} {s = s} {t = t} {w = w} p a =
    let part = flat_is_part p.flat in
    let why : whys p.rest ≡ why_of how = flat_whys p.flat in
    record {
      made = ms;
      along = a;
      rest = p.rest;
      entries = p.entries;
      part = part;
      why = why;
      failed = sym part.told ∙ tells_why name p.rest part.last ∙ ap failed_by why ∙ told_of how;
      stands = flat_stands p.flat;
      nobody = flat_nobody p.flat;
      numbered = along_numbered gives calls faults counted ms s t a;
      rises = λ low. ending_rises name (kept_file name w.standings) ms (calls s) (faults s) (along_rises gives calls faults counted ms s t low a);
    }

pub settling_part : {S J : Type 0} (gives : S → (call : Call) → Answer call → S → Type 0) (calls faults : S → ℕ) (counted : Counting gives calls faults) (answer : Answers J) (later : Laters J) (name : List ℕ) (terms : Terms) (w : State J) (s : S) (p : Settled × State J) (t : S) → Runs gives s (settling answer later name terms w) p t → GoesAsPart terms.hub true gives calls faults name s w.standings w.entries t p.1.standings p.1.entries p.0
settling_part gives calls faults counted answer later name terms w s p t h =
    let x = settling_run gives answer later name terms w s p t h in
    as_part gives calls faults counted x.so x.along

settling_one : {J : Type 0} (answer : Answers J) (later : Laters J) (name : List ℕ) (terms : Terms) (w : State J) (k l : Kernel) (p : Settled × State J) → IsKernel k → Stand k w.standings w.next → Runs calls k (settling answer later name terms w) p l → SettledOne answer later terms name k w l p.1 p.0
settling_one {J} answer later name terms w k l p sound stand r =
    let x = settling_run calls answer later name terms w k p l r in
    let piece = x.so in
    let along = x.along in
    let a = piece_fair (λ e. ((λ rest f s a. inr (refl, a)), owned_refl name k))
    (fair_refl answer later terms none_before k w sound stand) piece x.along in
    let last : (i : ℕ) → LivedAs k l name i → LiveAs l i name = λ i x. subst (λ (v : List ℕ). LiveAs l i v) x.2 (lives_last k l i x.0 a.fair.grows x.1) in
    let ended : (i : ℕ) → LivedAs k l name i → IsAsJudged terms.hub l p.1.standings i ⊎ IsNamed a.fair.rest name = λ i x.
    let first = subst (λ (v : List ℕ). LiveAs k i v) x.2 (lives_first k l i x.0 x.1) in
    elim (piece_well i sound (stand_files k w.standings w.next stand) first (last i x) piece along) [
      | inl (inl g) ↦ inl (judged_at terms.hub l p.1.standings p.1.next i a.fair.stand g)
      | inr n ↦ inr (subst (λ (v : List Entry). IsNamed v name) (added w.entries p.1.entries a.fair.rest piece.rest a.fair.entries piece.entries) n)
      | inl (inr e) ↦ let same = e.0 in absurd (let none : ⊥ = cc in none)
    ] in
    record {
      fair = a.fair;
      defaults = fair_defaults a.fair stand (along_logs x.made k l along);
      ended = ended;
      nobody = λ e i x. elim (ended i x) [
        | inl j ↦ none_stands l p.1.standings i name (stand_files l p.1.standings p.1.next a.fair.stand) (last i x)
            (flat_nobody piece.flat e) j.standing
        | inr n ↦ unnamed a.fair.rest name (subst (λ (v : List Entry). whys v ≡ []) (added w.entries p.1.entries a.fair.rest piece.rest a.fair.entries piece.entries) (flat_whys piece.flat ∙ ap why_of e)) n
      ];
    }

pub told_settles : {S J : Type 0} (gives : S → (call : Call) → Answer call → S → Type 0) (told : S → Option Kernel) (did : (s : S) (call : Call) (answer : Answer call) (t : S) (l : Kernel) → gives s call answer t → told t ≡ Some l → Follows call answer (told s) l) (answer : Answers J) (later : Laters J) (name : List ℕ) (terms : Terms) (s : S) (w : State J) (t : S) (p : Settled × State J) → Runs gives s (settling answer later name terms w) p t → SettlesOne told answer later terms name s w t p.1 p.0
told_settles gives told did answer later name terms s w t p r = λ l e.
    let m = told_run gives told did (settling answer later name terms w) s p t l r e in
    (m.kernel, m.was, λ sound stand. settling_one answer later name terms w m.kernel l p sound stand (m.run sound).0)

-- the standing of a number

pub numbered_part : {S : Type 0} (gives : S → (call : Call) → Answer call → S → Type 0) (calls faults : S → ℕ) (counted : Counting gives calls faults) (hub : Option Write) (number : ℕ) (k : Kept) (x : Standing) (s : S) (p : Settled × Kept) (t : S) → numbered number k.standings ≡ Some x → Runs gives s (resettling_numbered hub number k) p t → GoesAsPart hub false gives calls faults x.name s k.standings k.entries t p.1.standings p.1.entries p.0
numbered_part gives calls faults counted hub number k x s p t e r =
    let y = numbered_run gives hub number k x s p t e r in
    as_part gives calls faults counted y.so y.along

-- two open files of one device are of one name
one_name : (k : Kernel) (a b : List ℕ) (held other i : ℕ) → IsOpen k a held → IsOpen k b other → IsFileOf k held i → IsFileOf k other i → a ≡ b
one_name k a b held other i x y f g =
    let at : y.i ≡ i = file_same k other y.i i y.file g in
    sym (open_name k a held y.i y.d x y.device (subst (λ j. IsFileOf k held j) (sym at) f)) ∙ y.named

-- a live device isn't gone
dead : (l : Kernel) (i : ℕ) (name : List ℕ) → IsGone l i → LiveAs l i name → ⊥
dead l i name gone live =
    let same : gone.0 ≡ live.d = some_same (slice_get l.devices i) gone.0 live.d gone.1 live.live.at in
    true≢false (sym gone.2 ∙ ap (λ (v : Device). v.gone) same ∙ live.live.here)

-- the device of a standing from before has one, or is gone
stands_or_gone : {J : Type 0} {answer : Answers J} {later : Laters J} {terms : Terms} {tried : Tries} {k l : Kernel} {w v : State J} (x : Standing) → Has w.standings x → FairFrom answer later terms tried k w l v → (i : ℕ) → IsOf k x i → HasStanding l v.standings i ⊎ IsGone l i
stands_or_gone {k = k} {l = l} x has a i file = had_before a l i x.number x.name x.held x.verdict (grows_refl l) (inl (x, has, refl, refl, refl, refl)) (file_later k l x.held.0 i a.fair.grows file)

-- and is gone where none of its name is left
pub left_gone : {J : Type 0} {answer : Answers J} {later : Laters J} {terms : Terms} {tried : Tries} {k l : Kernel} {w v : State J} (x : Standing) → Has w.standings x → FairFrom answer later terms tried k w l v → (Has (names_of v.standings) x.name → ⊥) → (i : ℕ) → IsOf k x i → IsGone l i
left_gone {k = k} {l = l} {w = w} {v = v} x has a none i file =
    let g = a.fair.grows in
    elim (stands_or_gone x has a i file) [
      | inl s ↦
          let same : s.s.name ≡ x.name = one_name l s.s.name x.name s.s.held.0 x.held.0 i (stand_files l v.standings v.next a.fair.stand s.s s.has) (open_later k l x.name x.held.0 g (stand_files k w.standings w.next a.stood x has)) s.file (file_later k l x.held.0 i g file) in
          absurd (none (subst (λ (n : List ℕ). Has (names_of v.standings) n) same (has_map (λ (v : Standing). v.name) v.standings s.s s.has)))
      | inr gone ↦ gone
    ]

resettling_one : (hub : Option Write) (w : State (Unit {0})) (k l : Kernel) (p : Settled × Kept) (x : Standing) → IsKernel k → Stand k w.standings w.next → Has w.standings x → Runs calls k (resettling hub x.name (kept_of w.standings w.entries)) p l → ResettledOne hub x k w l (with_kept w p.1) p.0
resettling_one hub w k l p x sound stand has r =
    let kept = kept_of w.standings w.entries in
    let fair : (answer : Answers (Unit {0})) (later : Laters (Unit {0})) (present : Bool)
    (tried : Tries) → FairFrom answer later (terms_of present hub) tried k w l (with_kept w p.1) = λ answer
    later present tried. let y = resettling_run calls answer later x.name (terms_of present hub) w kept k p l r
    in piece_fair (λ e. let none : ⊥ = cc in absurd none)
    (fair_refl answer later (terms_of present hub) tried k w sound stand) y.so y.along in
    let y = resettling_run calls no_verdict no_later x.name (terms_of false hub) w kept k p l r in
    let piece = y.so in
    let a = fair no_verdict no_later false none_before in
    let g = a.fair.grows in
    let files = stand_files k w.standings w.next stand in
    record {
      fair = λ answer later present tried. (fair answer later present tried).fair;
      defaults = fair_defaults a.fair stand (along_logs y.made k l y.along);
      ended = λ i d file lives.
          let named : x.name ≡ d.name = open_named k x.name d.name x.held.0 i (files x has) file (lives_first k l i d lives) in
          let first = subst (λ (v : List ℕ). LiveAs k i v) (sym named) (lives_first k l i d lives) in
          let last = subst (λ (v : List ℕ). LiveAs l i v) (sym named) (lives_last k l i d g lives) in
          elim (piece_well i sound files first last piece y.along) [
            | inl (inl good) ↦ inl (judged_at hub l p.1.standings w.next i a.fair.stand good)
            | inr n ↦ inr (piece.rest, piece.entries, n)
            | inl (inr none) ↦ elim (stands_or_gone x has a i file) [
              | inl s ↦ absurd (none.1 s)
              | inr gone ↦ absurd (dead l i x.name gone last)
            ]
          ];
      nobody = λ e. left_gone x has a (flat_nobody piece.flat e);
    }

pub told_resettles : {S : Type 0} (gives : S → (call : Call) → Answer call → S → Type 0) (told : S → Option Kernel) (did : (s : S) (call : Call) (answer : Answer call) (t : S) (l : Kernel) → gives s call answer t → told t ≡ Some l → Follows call answer (told s) l) (hub : Option Write) (number : ℕ) (s : S) (w : State (Unit {0})) (t : S) (p : Settled × Kept) → Runs gives s (resettling_numbered hub number (kept_of w.standings w.entries)) p t → ResettlesOne hub told number s w t (with_kept w p.1) p.0
told_resettles gives told did hub number s w t p r = λ l e.
    let kept = kept_of w.standings w.entries in
    let m = told_run gives told did (resettling_numbered hub number kept) s p t l r e in
    (m.kernel, m.was, λ sound stand x is. resettling_one hub w m.kernel l p x sound stand (numbered_has number w.standings x is).0 (run_numbered calls hub number kept x m.kernel p l is (m.run sound).0))
