-- One name's part, flat: each way through the trees of a settling and a resettling has one of these shapes.
use Rattle.ug_kernel.specs.Tree.{Return}
use Rattle.std.proofs.Common.{cond, ◌≡◌, ℕ, ◌+◌, Bool, true, false, ◌&&◌, not, is_none, List, [], ◌∷◌, ◌++◌, Option, Some, None, refl, sym, ◌∙◌, ap, subst, append_assoc, append-nil}
use Rattle.ug_table.proofs.Common.{Control, IsOpenable, parent_of, Judged, Held, Target, Cause, Probe, Write, Wrote, Ask_alive, Put, Close, Closing, ToldAnswer, Made, made_with, failure_of, Bound, Binding, RemoveHold, Entry, State, Kept, with_kept, Answers, Laters, Has, known_of, standing_of, did_default, defaulted_known, default_due, default_write, IsOnce, Default, Terms, treating, after_default, by_default, same_name, without, with_standing, Standing, Known, Settled, FailedCall, Fault, names_of, unsettled_by, kept_standings, to_keep, no_room, standing_for, known_in, judged_entry, if_place, if_record, admitting, after_bind, entering, tried_standings, to_mark, after_known, from_standing, settling, to_keep_mark, after_again, again, resettling, filter_has, wants, write_of, after_write, to_value, valuing, after_hold, once, control_of, is_to_go, if_to_go, after_value, writing, close_gone, bringing, Ways, Sure, Way, ways_more, behind_sure, sure_last, parent_standing, held_of, binding_for, judged_bound, bound_hash, kept_file}
use Rattle.ug_kernel.specs.Removal.{holding}
use Rattle.ug_kernel.proofs.BindShapes.{sure_hold}
use Rattle.ug_table.proofs.Above.{sure_for, is_above}
use Rattle.ug_table.proofs.NamedStandings.{missing}
use Rattle.ug_table.proofs.Standings.{known_as, did_without, did_with, without_none, without_own, without_with, with_own, kept_tried, tried_without}
pub use Rattle.ug_table.proofs.NamedStandings.{told_at}

-- the shapes

-- what came of a write, its entries, and how it ended
pub data Written (name : List ℕ) (number : ℕ) (what : Write) : ToldAnswer Wrote → List Entry → Settled → Type 0 where
  Done : (failed : FailedCall) → Written name number what (told_at Wrote.Done failed) (Entry.Intent number name what ∷ Entry.Wrote number name what Wrote.Done ∷ []) Settled.Stands
  Went : (failed : FailedCall) → Written name number what (told_at Wrote.Gone failed) (Entry.Intent number name what ∷ Entry.Wrote number name what Wrote.Gone ∷ Entry.Gone number name ∷ []) Settled.Nobody
  Broke : (failed : FailedCall) → Written name number what (told_at Wrote.Failed failed) (Entry.Intent number name what ∷ Entry.Wrote number name what Wrote.Failed ∷ []) (Settled.Fault failed)

-- the value is as wanted, or is written
pub data Valued (name : List ℕ) (known : Known) (on : Bool) : List Made → List Entry → Settled → Type 0 where
  Same : wants known.verdict ≡ on → Valued name known on [] [] Settled.Stands
  Set : (t : ToldAnswer Wrote) (es : List Entry) (how : Settled) → (wants known.verdict ≡ on → ⊥) → Written name known.number (write_of known.verdict) t es how → Valued name known on (made_with (Put known.held.0 (write_of known.verdict)) t ∷ []) es how

-- the second file isn't held
pub data Unheld (name : List ℕ) (number : ℕ) : RemoveHold → List Entry → Settled → Type 0 where
  Gone_by : Unheld name number RemoveHold.Gone (Entry.Gone number name ∷ []) Settled.Nobody
  Failed_by : (failed : FailedCall) → Unheld name number (RemoveHold.Failed failed) [] (Settled.Fault failed)
  Short_by : Unheld name number RemoveHold.Memory [] Settled.Memory

-- a write that is made once
pub data OnceMade (name : List ℕ) (known : Known) (what : Write) : List Made → List Entry → Settled → Type 0 where
  Not_held : (ms : List Made) (answer : RemoveHold) (es : List Entry) (how : Settled) → Way (holding (control_of what) name known.held.0) ms answer → Unheld name known.number answer es how → OnceMade name known what ms es how
  Put_on : (ms : List Made) (file : Held) (t : ToldAnswer Wrote) (shut : Closing) (es : List Entry) (how : Settled) → Way (holding (control_of what) name known.held.0) ms (RemoveHold.Ready file) → Written name known.number what t es how → OnceMade name known what (ms ++ made_with (Put file.0 what) t ∷ made_with (Close file.0) shut ∷ []) es how

-- the value, and then the removal
pub data Carried (name : List ℕ) (known : Known) (on : Bool) : List Made → List Entry → Settled → Type 0 where
  By_value : (ms : List Made) (es : List Entry) (how : Settled) → Valued name known on ms es how → (how ≡ Settled.Stands → is_to_go known ≡ false) → Carried name known on ms es how
  And_removal : (ms ns : List Made) (es fs : List Entry) (how : Settled) → is_to_go known ≡ true → Valued name known on ms es Settled.Stands → OnceMade name known Write.Remove ns fs how → Carried name known on (ms ++ ns) (es ++ fs) how

-- and the held file is closed where the device is gone
pub data Brought (name : List ℕ) (known : Known) (on : Bool) : List Made → List Entry → Settled → Type 0 where
  Left_open : (ms : List Made) (es : List Entry) (how : Settled) → Carried name known on ms es how → (how ≡ Settled.Nobody → ⊥) → Brought name known on ms es how
  Let_go : (ms : List Made) (es : List Entry) (shut : Closing) → Carried name known on ms es Settled.Nobody → Brought name known on (ms ++ made_with (Close known.held.0) shut ∷ []) es Settled.Nobody

-- neither that it stands nor that there is nobody
abbrev pub IsCut : Settled → Type 0
IsCut how = (how ≡ Settled.Stands → ⊥) × (how ≡ Settled.Nobody → ⊥)

-- all writes of a sweep: behind the write to the default, where that is still to be made, what is brought; and whether that write was done
pub data Treated (hub : Option Write) (name : List ℕ) (known : Known) (on : Bool) : Bool → List Made → List Entry → Settled → Type 0 where
  No_default : (ms : List Made) (es : List Entry) (how : Settled) → default_due hub name known ≡ None → Brought name known on ms es how → Treated hub name known on false ms es how
  And_default : (what : Write) (ds ms : List Made) (fs es : List Entry) (how : Settled) → default_due hub name known ≡ Some what → OnceMade name known what ds fs Settled.Stands → Brought name (defaulted_known known) on ms es how → Treated hub name known on true (ds ++ ms) (fs ++ es) how
  Cut_default : (what : Write) (ds : List Made) (fs : List Entry) (how : Settled) → default_due hub name known ≡ Some what → OnceMade name known what ds fs how → IsCut how → Treated hub name known on false ds fs how
  Gone_default : (what : Write) (ds : List Made) (fs : List Entry) (shut : Closing) → default_due hub name known ≡ Some what → OnceMade name known what ds fs Settled.Nobody → Treated hub name known on false (ds ++ made_with (Close known.held.0) shut ∷ []) fs Settled.Nobody

-- what is due

pub default_file : (hub : Option Write) (what : Write) → default_write hub ≡ Some what → control_of what ≡ Default
default_file None what e = let none : ⊥ = cc in absurd none
default_file (Some Write.DefaultOff) what e = let same : what ≡ Write.DefaultOff = cc in ap control_of same
default_file (Some Write.DefaultOn) what e = let same : what ≡ Write.DefaultOn = cc in ap control_of same
default_file (Some x) what e = let none : ⊥ = cc in absurd none

-- the name is a root hub's, and its standing isn't marked
pub record IsDue (hub : Option Write) (name : List ℕ) (known : Known) (what : Write) : Type 0 where
  pub root : parent_of name ≡ None
  pub fresh : known.defaulted ≡ false
  pub is : default_write hub ≡ Some what
  pub file : control_of what ≡ Default

pub due_is : (hub : Option Write) (name : List ℕ) (known : Known) (what : Write) → default_due hub name known ≡ Some what → IsDue hub name known what
due_is hub name known what e = by (parent_of name) refl known.defaulted refl e
  where
    by : (o : Option (List ℕ)) → parent_of name ≡ o → (b : Bool) → known.defaulted ≡ b → cond (is_none o && not b) (default_write hub) None ≡ Some what → IsDue hub name known what
    by None r false f h = record { root = r; fresh = f; is = h; file = default_file hub what h }
    by None r true f h = let none : ⊥ = cc in absurd none
    by (Some p) r b f h = let none : ⊥ = cc in absurd none

-- so its file can be opened
pub due_open : {hub : Option Write} {name : List ℕ} {known : Known} {what : Write} → IsDue hub name known what → IsOpenable (control_of what) name
due_open {name = name} due = subst (λ (c : Control). IsOpenable c name) (sym due.file) due.root

-- and is one that is written once
pub due_once : {hub : Option Write} {name : List ℕ} {known : Known} {what : Write} → IsDue hub name known what → IsOnce (control_of what)
due_once due = subst IsOnce (sym due.file) tt

-- where it was written, none is due
pub none_due : (hub : Option Write) (name : List ℕ) (known : Known) → default_due hub name (defaulted_known known) ≡ None
none_due hub name known = by (is_none (parent_of name))
  where
    by : (b : Bool) → cond (b && false) (default_write hub) None ≡ None
    by true = refl
    by false = refl

pub treated_done : {hub : Option Write} {name : List ℕ} {known : Known} {on d : Bool} {ms : List Made} {es : List Entry} {how : Settled} → Treated hub name known on d ms es how → how ≡ Settled.Stands → default_due hub name (known_as d known) ≡ None
treated_done (No_default ms es how e b) s = e
treated_done {hub} {name} {known} (And_default what ds ms fs es how e w b) s = none_due hub name known
treated_done (Cut_default what ds fs how e w cut) s = absurd (cut.0 s)
treated_done (Gone_default what ds fs shut e w) s = let none : ⊥ = cc in absurd none

-- the name has no standing, or its device is found gone
pub data Opening (name : List ℕ) (ss : List Standing) : List Made → List Entry → List Standing → Type 0 where
  Fresh : standing_of name ss ≡ None → Opening name ss [] [] ss
  Lost : (known : Known) (failed : FailedCall) (shut : Closing) → standing_of name ss ≡ Some known → Opening name ss (made_with (Ask_alive known.held.0) (told_at Probe.Gone failed) ∷ made_with (Close known.held.0) shut ∷ []) (Entry.Gone known.number name ∷ []) (without name ss)

-- so none of the name is left, and no other is new
pub opening_none : {name : List ℕ} {ss : List Standing} {ms : List Made} {es : List Entry} {rs : List Standing} → Opening name ss ms es rs → standing_of name rs ≡ None
opening_none (Fresh e) = e
opening_none {name} {ss} (Lost known failed shut e) = without_own name ss

pub opening_absent : {name : List ℕ} {ss : List Standing} {ms : List Made} {es : List Entry} {rs : List Standing} → Opening name ss ms es rs → Has (names_of rs) name → ⊥
opening_absent {name} {rs = rs} opening = missing name rs (opening_none opening)

-- its parent's standing is among what is left
pub opening_kept : {name : List ℕ} {ss : List Standing} {ms : List Made} {es : List Entry} {rs : List Standing} → Opening name ss ms es rs → kept_file name ss ≡ held_of (parent_standing name rs)
opening_kept {name} {ss} (Fresh e) = ap (λ (v : List Standing). held_of (parent_standing name v)) (without_none name ss (missing name ss e))
opening_kept (Lost known failed shut e) = refl

pub opening_less : {name : List ℕ} {ss : List Standing} {ms : List Made} {es : List Entry} {rs : List Standing} → Opening name ss ms es rs → (s : Standing) → Has rs s → Has ss s
opening_less (Fresh e) s a = a
opening_less {name} {ss} (Lost known failed shut e) s a = (filter_has (λ (v : Standing). not (same_name v.name name)) ss s a).0

-- no device was bound
pub data Unbound_end (name : List ℕ) : Binding → List Entry → Settled → Type 0 where
  Absent_so : Unbound_end name Binding.Absent [] Settled.Nobody
  Vanished_so : Unbound_end name Binding.Vanished [] Settled.Nobody
  Failed_so : (failed : FailedCall) → Unbound_end name (Binding.Failed failed) (Entry.Unsettled name (Fault.Call failed) ∷ []) (Settled.Fault failed)
  Short_so : Unbound_end name Binding.Memory (Entry.Unsettled name Fault.Memory ∷ []) Settled.Memory

-- a new standing
pub record IsNew (name : List ℕ) (b : Bound) (s : Standing) : Type 0 where
  pub named : s.name ≡ name
  pub held : s.held ≡ b.held
  pub fresh : s.settled ≡ false
  pub stays : s.removed ≡ false
  pub undone : s.defaulted ≡ false

-- it is the name's
pub new_known : {name : List ℕ} {ss : List Standing} {ms : List Made} {es : List Entry} {rs : List Standing} {b : Bound} {x : Standing} → Opening name ss ms es rs → IsNew name b x → standing_of name (with_standing x rs) ≡ Some (known_of x)
new_known {name} {rs = rs} {x = x} opening new = with_own name x rs new.named (opening_none opening)

-- A name's part: whether room was granted, the calls, the entries, how it ended, the standings then, and the device that was judged
-- beside which standings, if one was. Only a settling binds; `given` is what is known of a new standing.
pub data Flat (hub : Option Write) (binds : Bool) (given : List Standing → Bound → Standing → Type 0) (name : List ℕ) (ss : List Standing) : Bool → List Made → List Entry → Settled → List Standing → Option (List Standing × Bound) → Type 0 where
  Unprobed : (known : Known) (failed : FailedCall) → standing_of name ss ≡ Some known → Flat hub binds given name ss true (made_with (Ask_alive known.held.0) (told_at Probe.Failed failed) ∷ []) (Entry.Unsettled name (Fault.Call failed) ∷ []) (Settled.Fault failed) (tried_standings ss name (Settled.Fault failed)) None
  Tried : (known : Known) (on : Bool) (failed : FailedCall) (d : Bool) (ms : List Made) (es : List Entry) (how : Settled) → standing_of name ss ≡ Some known → Treated hub name known on d ms es how → Flat hub binds given name ss true (made_with (Ask_alive known.held.0) (told_at (Probe.Alive on) failed) ∷ ms) (es ++ unsettled_by name how) how (tried_standings (did_default name d ss) name how) None
  Stopped : (ms : List Made) (es : List Entry) (rs : List Standing) → binds ≡ false → Opening name ss ms es rs → Flat hub binds given name ss true ms es Settled.Nobody rs None
  Unbound : (ms ns : List Made) (es fs : List Entry) (rs : List Standing) (r : Binding) (how : Settled) → binds ≡ true → Opening name ss ms es rs → Way (binding_for name rs) ns r → Unbound_end name r fs how → Flat hub binds given name ss true (ms ++ ns) (es ++ fs) how rs None
  No_place : (ms ns : List Made) (es : List Entry) (rs : List Standing) (b : Bound) (shut : Closing) → binds ≡ true → Opening name ss ms es rs → Way (binding_for name rs) ns (Binding.Bound b) → Flat hub binds given name ss false (ms ++ (ns ++ made_with (Close b.held.0) shut ∷ [])) (es ++ Entry.Unsettled name Fault.Memory ∷ []) Settled.Memory rs None
  Judged_so : (ms ns os : List Made) (es fs : List Entry) (rs : List Standing) (b : Bound) (x : Standing) (d : Bool) (how : Settled) → binds ≡ true → Opening name ss ms es rs → Way (binding_for name rs) ns (Binding.Bound b) → given rs b x → IsNew name b x → Treated hub name (known_of x) b.on d os fs how → Flat hub binds given name ss true (ms ++ (ns ++ os)) (es ++ Entry.Judged x.number name x.held x.verdict x.cause ∷ (fs ++ unsettled_by name how)) how (tried_standings (did_default name d (with_standing x rs)) name how) (Some (rs, b))

-- the standings of other names stay

pub opening_rest : {name : List ℕ} {ss : List Standing} {ms : List Made} {es : List Entry} {rs : List Standing} → Opening name ss ms es rs → without name rs ≡ without name ss
opening_rest (Fresh e) = refl
opening_rest {name} {ss} (Lost known failed shut e) = tried_without name ss Settled.Nobody

pub flat_rest : {hub : Option Write} {binds : Bool} {given : List Standing → Bound → Standing → Type 0} {name : List ℕ} {ss : List Standing} {ok : Bool} {ms : List Made} {rest : List Entry} {how : Settled} {rs : List Standing} {o : Option (List Standing × Bound)} → Flat hub binds given name ss ok ms rest how rs o → without name rs ≡ without name ss
flat_rest {name = name} {ss = ss} (Unprobed known failed at) = tried_without name ss (Settled.Fault failed)
flat_rest {name = name} {ss = ss} (Tried known on failed d ms es how at b) = tried_without name (did_default name d ss) how ∙ did_without name d ss
flat_rest (Stopped ms es rs f opening) = opening_rest opening
flat_rest (Unbound ms ns es fs rs r how t opening way end) = opening_rest opening
flat_rest (No_place ms ns es rs b shut t opening way) = opening_rest opening
flat_rest {name = name} (Judged_so ms ns os es fs rs b x d how t opening way given new brought) =
    tried_without name (did_default name d (with_standing x rs)) how ∙ did_without name d (with_standing x rs) ∙ without_with name x rs new.named ∙ opening_rest opening

-- the walk

-- these entries were added, and the calls, they and the answer are so
abbrev pub Adds : List Entry → (List Made → List Entry → Settled → Type 0) → List Made → Settled × List Entry → Type 0
Adds entries Q ms p = (es : List Entry) × (p.1 ≡ entries ++ es) × Q ms es p.0

behind : (a : List Entry) (e : Entry) (b : List Entry) → (a ++ e ∷ []) ++ b ≡ a ++ e ∷ b
behind a e b = append_assoc a (e ∷ []) b

written : (name : List ℕ) (number : ℕ) (what : Write) (entries : List Entry) (outcome : Wrote) (failed : FailedCall) (P : Bool → List Made → Settled × List Entry → Type 0) → ((es fs : List Entry) (how : Settled) → fs ≡ entries ++ es → Written name number what (told_at outcome failed) es how → P true [] (how, fs)) → Ways (after_write name number what (entries ++ Entry.Intent number name what ∷ []) outcome failed) P
written name number what entries Wrote.Done failed P k = k _ _ _ (behind entries (Entry.Intent number name what) (Entry.Wrote number name what Wrote.Done ∷ [])) (Done failed)
written name number what entries Wrote.Gone failed P k = k _ _ _ (behind (entries ++ Entry.Intent number name what ∷ []) (Entry.Wrote number name what Wrote.Gone) (Entry.Gone number name ∷ []) ∙ behind entries (Entry.Intent number name what) _) (Went failed)
written name number what entries Wrote.Failed failed P k = k _ _ _ (behind entries (Entry.Intent number name what) (Entry.Wrote number name what Wrote.Failed ∷ [])) (Broke failed)

valued : (name : List ℕ) (known : Known) (on : Bool) (entries : List Entry) → Ways (valuing name known on entries) (Sure (Adds entries (Valued name known on)))
unfolding valuing
valued name known on entries = by (wants known.verdict) on refl refl
  where
    set : (b : Bool) → (wants known.verdict ≡ b → ⊥) → b ≡ on → (t : ToldAnswer Wrote) → Ways (after_write name known.number (write_of known.verdict) (entries ++ Entry.Intent known.number name (write_of known.verdict) ∷ []) t.answer (failure_of t)) (Sure (λ ms p. Adds entries (Valued name known on) (made_with (Put known.held.0 (write_of known.verdict)) t ∷ ms) p))
    set b ne e t = written name known.number (write_of known.verdict) entries t.answer (failure_of t) (Sure (λ ms p. Adds entries (Valued name known on) (made_with (Put known.held.0 (write_of known.verdict)) t ∷ ms) p)) (λ es fs how is w. (refl, (es, is, Set t es how (λ s. ne (s ∙ sym e)) w)))

    by : (a b : Bool) → wants known.verdict ≡ a → b ≡ on → Ways (to_value name known entries a b) (Sure (Adds entries (Valued name known on)))
    by true true e f = (refl, ([], sym (append-nil entries), Same (e ∙ f)))
    by false false e f = (refl, ([], sym (append-nil entries), Same (e ∙ f)))
    by true false e f = set false (λ s. let none : ⊥ = cc in none) f
    by false true e f = set true (λ s. let none : ⊥ = cc in none) f

made_once : (name : List ℕ) (known : Known) (what : Write) (entries : List Entry) → Ways (once name known what entries) (Sure (Adds entries (OnceMade name known what)))
unfolding once
made_once name known what entries = behind_sure (Way (holding (control_of what) name known.held.0)) (Sure (Adds entries (OnceMade name known what))) (holding (control_of what) name known.held.0) (after_hold name known what entries) (sure_hold (control_of what) name known.held.0) (λ ms a way. by ms a way)
  where
    at_end : (ms : List Made) (p : Settled × List Entry) → Adds entries (OnceMade name known what) ms p → Sure (λ ns q. Adds entries (OnceMade name known what) (ms ++ ns) q) true [] p
    at_end ms p h = (refl, subst (λ v. Adds entries (OnceMade name known what) v p) (sym (append-nil ms)) h)

    by : (ms : List Made) (a : RemoveHold) → Way (holding (control_of what) name known.held.0) ms a → Ways (after_hold name known what entries a) (Sure (λ ns p. Adds entries (OnceMade name known what) (ms ++ ns) p))
    by ms (RemoveHold.Ready file) way = λ t shut. written name known.number what entries t.answer (failure_of t) (Sure (λ ns p. Adds entries (OnceMade name known what) (ms ++ made_with (Put file.0 what) t ∷ made_with (Close file.0) shut ∷ ns) p)) (λ es fs how is w. (refl, (es, is, Put_on ms file t shut es how way w)))
    by ms RemoveHold.Gone way = at_end ms _ (_, refl, Not_held ms RemoveHold.Gone _ _ way Gone_by)
    by ms (RemoveHold.Failed failed) way = at_end ms _ ([], sym (append-nil entries), Not_held ms (RemoveHold.Failed failed) _ _ way (Failed_by failed))
    by ms RemoveHold.Memory way = at_end ms _ ([], sym (append-nil entries), Not_held ms RemoveHold.Memory _ _ way Short_by)

carried : (name : List ℕ) (known : Known) (on : Bool) (entries : List Entry) → Ways (writing name known on entries) (Sure (Adds entries (Carried name known on)))
unfolding writing
carried name known on entries = behind_sure (Adds entries (Valued name known on)) (Sure Q) (valuing name known on entries) (λ (q : Settled × List Entry). after_value name known q.1 q.0) (valued name known on entries) (λ ms q h. by ms q.0 q.1 h.0 h.1 h.2)
  where
    Q : List Made → Settled × List Entry → Type 0
    Q = Adds entries (Carried name known on)

    stops : (ms : List Made) (how : Settled) (es fs : List Entry) → fs ≡ entries ++ es → Valued name known on ms es how → (how ≡ Settled.Stands → is_to_go known ≡ false) → Sure (λ ns p. Adds entries (Carried name known on) (ms ++ ns) p) true [] (how, fs)
    stops ms how es fs e v k = (refl, subst (λ w. Adds entries (Carried name known on) w (how, fs)) (sym (append-nil ms)) (es, e, By_value ms es how v k))

    goes : (ms : List Made) (es fs : List Entry) (b : Bool) → is_to_go known ≡ b → fs ≡ entries ++ es → Valued name known on ms es Settled.Stands → Ways (if_to_go name known fs b) (Sure (λ ns p. Adds entries (Carried name known on) (ms ++ ns) p))
    goes ms es fs true t e v = ways_more (Sure (Adds fs (OnceMade name known Write.Remove))) (Sure (λ ns p. Adds entries (Carried name known on) (ms ++ ns) p)) (once name known Write.Remove fs) (λ ok ns p k. let h = k.1 in (k.0, (es ++ h.0, h.1 ∙ ap (λ w. w ++ h.0) e ∙ append_assoc entries es h.0, And_removal ms ns es h.0 p.0 t v h.2))) (made_once name known Write.Remove fs)
    goes ms es fs false t e v = stops ms Settled.Stands es fs e v (λ s. t)

    by : (ms : List Made) (how : Settled) (fs es : List Entry) → fs ≡ entries ++ es → Valued name known on ms es how → Ways (after_value name known fs how) (Sure (λ ns p. Adds entries (Carried name known on) (ms ++ ns) p))
    by ms Settled.Stands fs es e v = goes ms es fs (is_to_go known) refl e v
    by ms how fs es e v = stops ms how es fs e v (λ s. let none : ⊥ = cc in absurd none)

pub brought : (name : List ℕ) (known : Known) (on : Bool) (entries : List Entry) → Ways (bringing name known on entries) (Sure (Adds entries (Brought name known on)))
unfolding bringing
brought name known on entries = behind_sure (Adds entries (Carried name known on)) (Sure (Adds entries (Brought name known on))) (writing name known on entries) (λ (q : Settled × List Entry). close_gone known.held.0 q.1 q.0) (carried name known on entries) (λ ms q h. by ms q.0 q.1 h.0 h.1 h.2)
  where
    stays : (ms : List Made) (how : Settled) (fs es : List Entry) → fs ≡ entries ++ es → Carried name known on ms es how → (how ≡ Settled.Nobody → ⊥) → Sure (λ ns p. Adds entries (Brought name known on) (ms ++ ns) p) true [] (how, fs)
    stays ms how fs es e c n = (refl, subst (λ w. Adds entries (Brought name known on) w (how, fs)) (sym (append-nil ms)) (es, e, Left_open ms es how c n))

    by : (ms : List Made) (how : Settled) (fs es : List Entry) → fs ≡ entries ++ es → Carried name known on ms es how → Ways (close_gone known.held.0 fs how) (Sure (λ ns p. Adds entries (Brought name known on) (ms ++ ns) p))
    by ms Settled.Nobody fs es e c = λ shut. (refl, (es, e, Let_go ms es shut c))
    by ms how fs es e c = stays ms how fs es e c (λ s. let none : ⊥ = cc in none)

-- these entries were added, and the calls, they and the answer are so
abbrev pub AddsDone : List Entry → (Bool → List Made → List Entry → Settled → Type 0) → List Made → Settled × Bool × List Entry → Type 0
AddsDone entries Q ms p = (es : List Entry) × (p.2 ≡ entries ++ es) × Q p.1 ms es p.0

pub treated : (hub : Option Write) (name : List ℕ) (known : Known) (on : Bool) (entries : List Entry) → Ways (treating hub name known on entries) (Sure (AddsDone entries (Treated hub name known on)))
unfolding treating
treated hub name known on entries = by (default_due hub name known) refl
  where
    R : List Made → Settled × Bool × List Entry → Type 0
    R = AddsDone entries (Treated hub name known on)

    cut : (what : Write) → default_due hub name known ≡ Some what → (ds : List Made) (how : Settled) (fs es : List Entry) → fs ≡ entries ++ es → OnceMade name known what ds es how → IsCut how → Sure (λ ms p. R (ds ++ ms) p) true [] (how, false, fs)
    cut what e ds how fs es f w c = (refl, subst (λ v. R v (how, false, fs)) (sym (append-nil ds)) (es, f, Cut_default what ds es how e w c))

    after : (what : Write) → default_due hub name known ≡ Some what → (ds : List Made) (how : Settled) (fs es : List Entry) → fs ≡ entries ++ es → OnceMade name known what ds es how → Ways (after_default name known on fs how) (Sure (λ ms p. R (ds ++ ms) p))
    after what e ds Settled.Stands fs es f w =
        sure_last (Adds fs (Brought name (defaulted_known known) on)) (Sure (λ ms p. R (ds ++ ms) p)) (bringing name (defaulted_known known) on fs) (λ (p : Settled × List Entry). Return (p.0, true, p.1)) (λ (p : Settled × List Entry). (p.0, true, p.1)) (λ q. refl) (brought name (defaulted_known known) on fs)
        (λ ms q h. (refl, (es ++ h.0, h.1 ∙ ap (λ (v : List Entry). v ++ h.0) f ∙ append_assoc entries es h.0, And_default what ds ms es h.0 q.0 e w h.2)))
    after what e ds Settled.Nobody fs es f w = λ shut. (refl, (es, f, Gone_default what ds es shut e w))
    after what e ds (Settled.Fault failed) fs es f w = cut what e ds (Settled.Fault failed) fs es f w ((λ s. let none : ⊥ = cc in none), (λ s. let none : ⊥ = cc in none))
    after what e ds Settled.Memory fs es f w = cut what e ds Settled.Memory fs es f w ((λ s. let none : ⊥ = cc in none), (λ s. let none : ⊥ = cc in none))

    by : (o : Option Write) → default_due hub name known ≡ o → Ways (by_default name known on entries o) (Sure R)
    by None e =
        sure_last (Adds entries (Brought name known on)) (Sure R) (bringing name known on entries) (λ (p : Settled × List Entry). Return (p.0, false, p.1)) (λ (p : Settled × List Entry). (p.0, false, p.1)) (λ q. refl) (brought name known on entries)
        (λ ms q h. (refl, (h.0, h.1, No_default ms h.0 q.0 e h.2)))
    by (Some what) e = behind_sure (Adds entries (OnceMade name known what)) (Sure R) (once name known what entries) (λ (p : Settled × List Entry). after_default name known on p.1 p.0) (made_once name known what entries) (λ ds q h. after what e ds q.0 q.1 h.0 h.1 h.2)

-- where the name is told as unsettled behind them
adds_told : (entries fs es : List Entry) (name : List ℕ) (how : Settled) → fs ≡ entries ++ es → fs ++ unsettled_by name how ≡ entries ++ (es ++ unsettled_by name how)
adds_told entries fs es name how e = ap (λ (v : List Entry). v ++ unsettled_by name how) e ∙ append_assoc entries es (unsettled_by name how)

-- a settling

-- the new standing is the judge's
abbrev pub IsGiven : {J : Type 0} → Answers J → Terms → List ℕ → State J → List Standing → Bound → Standing → Type 0
IsGiven answer terms name w rs b x =
    let judged : Judged = judged_bound name rs b in
    x ≡ standing_for w name b.held.0 judged (bound_hash b) (answer w.judge judged (is_none (parent_of name)) terms.present b.on rs)

abbrev pub next_after : {J : Type 0} → State J → Option (List Standing × Bound) → ℕ
next_after w None = w.next
next_after w (Some x) = w.next + 1

abbrev pub judge_after : {J : Type 0} → Laters J → Terms → List ℕ → State J → Option (List Standing × Bound) → J
judge_after later terms name w None = w.judge
judge_after later terms name w (Some x) = later w.judge (judged_bound name x.0 x.1) (is_none (parent_of name)) terms.present x.1.on x.0

-- A run of one name's part from one state to another: whether room was granted, its calls, and how it ended.
pub record Piece {J : Type 0} (answer : Answers J) (later : Laters J) (binds : Bool) (terms : Terms) (name : List ℕ) (w : State J) (granted : Bool) (made : List Made) (how : Settled) (v : State J) : Type 0 where
  pub rest : List Entry
  pub judged : Option (List Standing × Bound)
  pub flat : Flat terms.hub binds (IsGiven answer terms name w) name w.standings granted made rest how v.standings judged
  pub entries : v.entries ≡ w.entries ++ rest
  pub listed : v.listed ≡ w.listed
  pub hub : v.hub ≡ w.hub
  pub next : v.next ≡ next_after w judged
  pub judge : v.judge ≡ judge_after later terms name w judged

abbrev pub Settles : {J : Type 0} → Answers J → Laters J → List ℕ → Terms → State J → Bool → List Made → Settled × State J → Type 0
Settles answer later name terms w granted made p = Piece answer later true terms name w granted made p.0 p.1

entered : {J : Type 0} (answer : Answers J) (later : Laters J) (name : List ℕ) (terms : Terms) (w : State J) (ms : List Made) (es fs : List Entry) (rs : List Standing) → fs ≡ w.entries ++ es → Opening name w.standings ms es rs → Ways (entering answer later name terms (record w { standings = rs; entries = fs })) (λ ok ns p. Settles answer later name terms w ok (ms ++ ns) p)
unfolding entering admitting
entered {J} answer later name terms w ms es fs rs same opening = behind_sure (Way (binding_for name rs)) (λ ok ns p. Settles answer later name terms w ok (ms ++ ns) p) (binding_for name rs) (after_bind answer later name terms u) (sure_for name (parent_standing name rs) (is_above name rs)) (λ ns r way. by ns r way)
  where
    u : State J
    u = record w { standings = rs; entries = fs }

    more : (gs xs : List Entry) → gs ≡ fs ++ xs → gs ≡ w.entries ++ (es ++ xs)
    more gs xs e = e ∙ ap (λ v. v ++ xs) same ∙ append_assoc w.entries es xs

    unbound : (ns : List Made) (r : Binding) (xs gs : List Entry) (how : Settled) → gs ≡ fs ++ xs → Way (binding_for name rs) ns r → Unbound_end name r xs how → Settles answer later name terms w true (ms ++ (ns ++ [])) (how, record u { entries = gs })
    unbound ns r xs gs how e way end = subst (λ v. Settles answer later name terms w true (ms ++ v) (how, record u { entries = gs })) (sym (append-nil ns)) (record { rest = es ++ xs; judged = None; flat = Unbound ms ns es xs rs r how refl opening way end; entries = more gs xs e; listed = refl; hub = refl; next = refl; judge = refl })

    no_place : (ns : List Made) (b : Bound) → Way (binding_for name rs) ns (Binding.Bound b) → Ways (no_room u name b.held.0) (λ ok os p. Settles answer later name terms w false (ms ++ (ns ++ os)) p)
    no_place ns b way = λ shut. record { rest = es ++ Entry.Unsettled name Fault.Memory ∷ []; judged = None; flat = No_place ms ns es rs b shut refl opening way; entries = more _ _ refl; listed = refl; hub = refl; next = refl; judge = refl }

    judged : (ns : List Made) (b : Bound) → Way (binding_for name rs) ns (Binding.Bound b) → Ways (if_place answer later name terms u b (judged_bound name rs b) (bound_hash b) true) (λ ok os p. Settles answer later name terms w ok (ms ++ (ns ++ os)) p)
    judged ns b way =
        let dev : Judged = judged_bound name rs b in
        let given : Target × Cause = answer w.judge dev (is_none (parent_of name)) terms.present b.on rs in
        let x : Standing = standing_for w name b.held.0 dev (bound_hash b) given in
        let e : Entry = judged_entry w name b.held.0 given in
        let after : J = later w.judge dev (is_none (parent_of name)) terms.present b.on rs in
        sure_last (AddsDone (fs ++ e ∷ []) (Treated terms.hub name (known_of x) b.on)) (λ ok os p. Settles answer later name terms w ok (ms ++ (ns ++ os)) p) (treating terms.hub name (known_in u b.held.0 given) b.on (fs ++ e ∷ [])) (to_keep (record u { next = w.next + 1; judge = after }) x) (λ (q : Settled × Bool × List Entry). (q.0, record u { standings = kept_standings rs (record x { defaulted = q.1 }) q.0; next = w.next + 1; judge = after; entries = q.2 ++ unsettled_by name q.0 })) (λ q. refl) (treated terms.hub name (known_of x) b.on (fs ++ e ∷ []))
        (λ os q h. record {
          rest = es ++ e ∷ (h.0 ++ unsettled_by name q.0);
          judged = Some (rs, b);
          flat = subst (λ v. Flat terms.hub true (IsGiven answer terms name w) name w.standings true (ms ++ (ns ++ os)) (es ++ e ∷ (h.0 ++ unsettled_by name q.0)) q.0 v (Some (rs, b))) (sym (kept_tried rs (record x { defaulted = q.1 }) q.0 refl (opening_none opening) ∙ ap (λ (v : List Standing). tried_standings v name q.0) (did_with q.1 x rs refl (opening_none opening)))) (Judged_so ms ns os es h.0 rs b x q.1 q.0 refl opening way refl (record { named = refl; held = refl; fresh = refl; stays = refl; undone = refl }) h.2);
          entries = more _ (e ∷ (h.0 ++ unsettled_by name q.0)) (adds_told (fs ++ e ∷ []) q.2 h.0 name q.0 h.1 ∙ behind fs e (h.0 ++ unsettled_by name q.0));
          listed = refl;
          hub = refl;
          next = refl;
          judge = refl;
        })

    place : (ns : List Made) (b : Bound) → Way (binding_for name rs) ns (Binding.Bound b) → (room : Bool) → Ways (if_place answer later name terms u b (judged_bound name rs b) (bound_hash b) room) (λ ok os p. Settles answer later name terms w (room && ok) (ms ++ (ns ++ os)) p)
    place ns b way true = judged ns b way
    place ns b way false = no_place ns b way

    room : (ns : List Made) (b : Bound) → Way (binding_for name rs) ns (Binding.Bound b) → (room : Bool) → Ways (if_record answer later name terms u b room) (λ ok os p. Settles answer later name terms w (room && ok) (ms ++ (ns ++ os)) p)
    room ns b way true = λ c. place ns b way c
    room ns b way false = no_place ns b way

    by : (ns : List Made) (r : Binding) → Way (binding_for name rs) ns r → Ways (after_bind answer later name terms u r) (λ ok os p. Settles answer later name terms w ok (ms ++ (ns ++ os)) p)
    by ns (Binding.Bound b) way = λ c. room ns b way c
    by ns Binding.Absent way = unbound ns Binding.Absent [] fs Settled.Nobody (sym (append-nil fs)) way Absent_so
    by ns Binding.Vanished way = unbound ns Binding.Vanished [] fs Settled.Nobody (sym (append-nil fs)) way Vanished_so
    by ns (Binding.Failed failed) way = unbound ns (Binding.Failed failed) _ _ (Settled.Fault failed) refl way (Failed_so failed)
    by ns Binding.Memory way = unbound ns Binding.Memory _ _ Settled.Memory refl way Short_so

pub settles : {J : Type 0} (answer : Answers J) (later : Laters J) (name : List ℕ) (terms : Terms) (w : State J) → Ways (settling answer later name terms w) (Settles answer later name terms w)
unfolding settling
settles {J} answer later name terms w = from (standing_of name w.standings) refl
  where
    known_by : (known : Known) → standing_of name w.standings ≡ Some known → (r : Probe) (failed : FailedCall) → Ways (after_known answer later name terms w known r failed) (λ ok ms p. Settles answer later name terms w ok (made_with (Ask_alive known.held.0) (told_at r failed) ∷ ms) p)
    known_by known e (Probe.Alive on) failed =
        sure_last (AddsDone w.entries (Treated terms.hub name known on)) (λ ok ms p. Settles answer later name terms w ok (made_with (Ask_alive known.held.0) (told_at (Probe.Alive on) failed) ∷ ms) p) (treating terms.hub name known on w.entries) (to_mark w name) (λ (q : Settled × Bool × List Entry). (q.0, record w { standings = tried_standings (did_default name q.1 w.standings) name q.0; entries = q.2 ++ unsettled_by name q.0 })) (λ q. refl) (treated terms.hub name known on w.entries)
        (λ ms q h. record { rest = h.0 ++ unsettled_by name q.0; judged = None; flat = Tried known on failed q.1 ms h.0 q.0 e h.2; entries = adds_told w.entries q.2 h.0 name q.0 h.1; listed = refl; hub = refl; next = refl; judge = refl })
    known_by known e Probe.Gone failed = λ shut. entered answer later name terms w (made_with (Ask_alive known.held.0) (told_at Probe.Gone failed) ∷ made_with (Close known.held.0) shut ∷ []) (Entry.Gone known.number name ∷ []) (w.entries ++ Entry.Gone known.number name ∷ []) (without name w.standings) refl (Lost known failed shut e)
    known_by known e Probe.Failed failed = record { rest = _; judged = None; flat = Unprobed known failed e; entries = refl; listed = refl; hub = refl; next = refl; judge = refl }

    from : (o : Option Known) → standing_of name w.standings ≡ o → Ways (from_standing answer later name terms w o) (Settles answer later name terms w)
    from (Some known) e = λ t. known_by known e t.answer (failure_of t)
    from None e = entered answer later name terms w [] [] w.entries w.standings (sym (append-nil w.entries)) (Fresh e)

-- a resettling

-- whatever the judge is, as nothing is bound
abbrev pub Resettles : {J : Type 0} → Answers J → Laters J → List ℕ → Terms → State J → Kept → Bool → List Made → Settled × Kept → Type 0
Resettles answer later name terms w k granted made p = Piece answer later false terms name (with_kept w k) granted made p.0 (with_kept w p.1)

pub resettles : {J : Type 0} (answer : Answers J) (later : Laters J) (name : List ℕ) (terms : Terms) (w : State J) (k : Kept) → Ways (resettling terms.hub name k) (Resettles answer later name terms w k)
unfolding resettling
resettles {J} answer later name terms w k = from (standing_of name k.standings) refl
  where
    R : Bool → List Made → Settled × Kept → Type 0
    R = Resettles answer later name terms w k

    known_by : (known : Known) → standing_of name k.standings ≡ Some known → (r : Probe) (failed : FailedCall) → Ways (after_again terms.hub name k known r failed) (λ ok ms p. R ok (made_with (Ask_alive known.held.0) (told_at r failed) ∷ ms) p)
    known_by known e (Probe.Alive on) failed =
        sure_last (AddsDone k.entries (Treated terms.hub name known on)) (λ ok ms p. R ok (made_with (Ask_alive known.held.0) (told_at (Probe.Alive on) failed) ∷ ms) p) (treating terms.hub name known on k.entries) (to_keep_mark k name) (λ (q : Settled × Bool × List Entry). (q.0, record { standings = tried_standings (did_default name q.1 k.standings) name q.0; entries = q.2 ++ unsettled_by name q.0 })) (λ q. refl) (treated terms.hub name known on k.entries)
        (λ ms q h. record { rest = h.0 ++ unsettled_by name q.0; judged = None; flat = Tried known on failed q.1 ms h.0 q.0 e h.2; entries = adds_told k.entries q.2 h.0 name q.0 h.1; listed = refl; hub = refl; next = refl; judge = refl })
    known_by known e Probe.Gone failed = λ shut. record { rest = _; judged = None; flat = Stopped _ _ _ refl (Lost known failed shut e); entries = refl; listed = refl; hub = refl; next = refl; judge = refl }
    known_by known e Probe.Failed failed = record { rest = _; judged = None; flat = Unprobed known failed e; entries = refl; listed = refl; hub = refl; next = refl; judge = refl }

    from : (o : Option Known) → standing_of name k.standings ≡ o → Ways (again terms.hub name k o) R
    from (Some known) e = λ t. known_by known e t.answer (failure_of t)
    from None e = record { rest = []; judged = None; flat = Stopped [] [] k.standings refl (Fresh e); entries = sym (append-nil k.entries); listed = refl; hub = refl; next = refl; judge = refl }
