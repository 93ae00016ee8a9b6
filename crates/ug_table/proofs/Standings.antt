-- Standings, and the devices of their held files.
use Rattle.std.proofs.Common.{◌≡◌, ℕ, Option, sym, Bool, true, false, not, ◌∙◌, ◌||◌, List, [], ◌∷◌, Some, None, map, cond, inl, inr, refl, ap, subst, true≢false, slice_get, ◌&&◌, ◌++◌, take, drop}
use Rattle.std.proofs.lemmas.Bool.{cond_both, cond-false, both_ways, not-true, not-false, false_from_ne_true}
use Rattle.ug_table.proofs.Common.{Has, same_name, known_of, standing_of, without, marked, lists, did_default, with_default, default_due, defaulted_known, IsOnce, control_of, place_for, with_standing, settled_standing, Standing, Known, Target, Device, Control, Authorized, Write, Wrote, ToldAnswer, Put, Kernel, Live, IsKernel, Lived, value_after, written_to, does_put, IsWritten, IsGoneAt, IsAlive, Called, Quiet, Grows, FailedCall, Settled, Held, open_file, known_files, number_of, names_of, kept_standings, tried_standings, filter_has, map_has, has_map, has_filter, insert_has, is_reject, wants, write_of, filter, insert, some_same, moves_quiet}
use Rattle.ug_kernel.specs.declared.device.HeldFile.{HeldFile}
use Rattle.ug_kernel.proofs.HeldFiles.{live_before}
use Rattle.std.specs.Prelude.{if◌then◌else◌}
use Rattle.std.proofs.lemmas.List.{take-append-drop}
use Rattle.ug_table.proofs.NamedStandings.{told_at, same_is, is_same, missing, or_none, reject_removed}

-- What calls do to the devices' values.

-- the held file is that device's `authorized`
abbrev pub IsFileOf : Kernel → ℕ → ℕ → Type 0
IsFileOf k held i = slice_get k.held held ≡ Some (record { device = i; control = Authorized })

pub file_same : (k : Kernel) (held i j : ℕ) → IsFileOf k held i → IsFileOf k held j → i ≡ j
file_same k held i j a b = ap (λ (v : HeldFile). v.device) (some_same (slice_get k.held held) (record { device = i; control = Authorized }) (record { device = j; control = Authorized }) a b)

pub file_later : (k l : Kernel) (held i : ℕ) → Grows k l → IsFileOf k held i → IsFileOf l held i
file_later k l held i g h = g.held held (record { device = i; control = Authorized }) h

-- the device of that identity is live and has that name
pub record LiveAs (k : Kernel) (i : ℕ) (name : List ℕ) : Type 0 where
  pub d : Device
  pub live : Live k.devices i d
  pub named : d.name ≡ name

pub lives_between : (k m l : Kernel) (i : ℕ) (name : List ℕ) → Grows k m → Grows m l → LiveAs k i name → LiveAs l i name → LiveAs m i name
lives_between k m l i name g j first last =
    let x = g.devices i first.d first.live.at in
    let b = live_before m l i x.0 last.d j x.1 last.live in
    record { d = x.0; live = b.0; named = x.2.name ∙ first.named }

pub lived : (k l : Kernel) (i : ℕ) (name : List ℕ) (first : LiveAs k i name) → LiveAs l i name → Lived k.devices l.devices i first.d
lived k l i name first last = record { entry = first.live; exit = (last.d, last.live) }

pub live_same : (k : Kernel) (i j : ℕ) (name : List ℕ) → IsKernel k → LiveAs k i name → LiveAs k j name → i ≡ j
live_same k i j name s a b = s.devices.names i j a.d b.d a.live b.live (a.named ∙ sym b.named)

-- the held file of a live device isn't gone
pub gone_no : (k : Kernel) (held i : ℕ) (name : List ℕ) → IsGoneAt held k → IsFileOf k held i → LiveAs k i name → ⊥
gone_no k held i name gone file live = gone i live.d (record { file = record { device = i; control = Authorized }; at = file; is = refl; device = live.live.at }) live.live

-- the device's value
abbrev pub Value : Kernel → ℕ → Bool → Type 0
Value k i on = (d : Device) × (slice_get k.devices i ≡ Some d) × (d.on ≡ on)

pub quiet_value : (k l : Kernel) (i : ℕ) (on : Bool) → Quiet k l → Value k i on → Value l i on
quiet_value k l i on q v = let a = q.devices i v.0 v.1 in (a.0, a.1, a.2.on ∙ v.2)

-- the held file is that device's, of that control
abbrev pub IsHeldAs : Kernel → ℕ → ℕ → Control → Type 0
IsHeldAs k held i control = slice_get k.held held ≡ Some (record { device = i; control = control })

written_device : (held i : ℕ) (control : Control) (write : Write) (k l : Kernel) (w : IsWritten held write k l) → IsHeldAs k held i control → w.i ≡ i
written_device held i control write k l w file =
    let same : w.holds.file ≡ record { device = i; control = control } = some_same (slice_get k.held held) w.holds.file (record { device = i; control = control }) w.holds.at file in
    sym w.holds.is ∙ ap (λ (v : HeldFile). v.device) same

written_other : (held i : ℕ) (write : Write) (on : Bool) (k l : Kernel) (w : IsWritten held write k l) → (w.i ≡ i → ⊥) → Value k i on → Value l i on
written_other held i write on k l w ne v = (v.0, w.others i (λ e. ne (sym e)) ∙ v.1, v.2)

does_put_other : (held i : ℕ) (write : Write) (answer : Wrote) (on : Bool) (k l : Kernel) → ((w : IsWritten held write k l) → w.i ≡ i → ⊥) → does_put held write answer k l → Value k i on → Value l i on
does_put_other held i write Wrote.Done on k l ne w v = written_other held i write on k l w (ne w) v
does_put_other held i write Wrote.Gone on k l ne e v = subst (λ x. Value x i on) (sym e) v
does_put_other held i write Wrote.Failed on k l ne (inl e) v = subst (λ x. Value x i on) (sym e) v
does_put_other held i write Wrote.Failed on k l ne (inr w) v = written_other held i write on k l w (ne w) v

-- a write to another device
put_other : (held i j : ℕ) (control : Control) (write : Write) (answer : ToldAnswer Wrote) (on : Bool) (k l : Kernel) → IsHeldAs k held j control → (j ≡ i → ⊥) → Called (Put held write) answer k l → Value k i on → Value l i on
put_other held i j control write answer on k l file ne c v =
    let before = moves_quiet k c.before c.moves_before in
    let at = before.held held (record { device = j; control = control }) file in
    quiet_value c.after l i on (moves_quiet c.after l c.moves_after)
    (does_put_other held i write answer.answer on c.before c.after (λ w e. ne (sym (written_device held j control write c.before c.after w at) ∙ e)) c.effect (quiet_value k c.before i on before v))

verdict_value : (verdict : Target) (was : Bool) → value_after (write_of verdict) was ≡ wants verdict
verdict_value Target.Allow was = refl
verdict_value x was = refl

-- a write that is done leaves what the verdict wants
pub done_value : (held i : ℕ) (verdict : Target) (failed : FailedCall) (k l : Kernel) → IsFileOf k held i → Called (Put held (write_of verdict)) (told_at Wrote.Done failed) k l → Value l i (wants verdict)
done_value held i verdict failed k l file c =
    let w : IsWritten held (write_of verdict) c.before c.after = c.effect in
    let at = (moves_quiet k c.before c.moves_before).held held (record { device = i; control = Authorized }) file in
    let is = written_device held i Authorized (write_of verdict) c.before c.after w at in
    let d : Device = written_to (write_of verdict) w.d in
    let now : slice_get c.after.devices i ≡ Some d = subst (λ x. slice_get c.after.devices x ≡ Some d) is w.now in
    quiet_value c.after l i (wants verdict) (moves_quiet c.after l c.moves_after) (d, now, verdict_value verdict w.d.on)

-- a write to a file that is written once leaves the value
once_value : (what : Write) (was : Bool) → IsOnce (control_of what) → value_after what was ≡ was
once_value Write.On was once = absurd once
once_value Write.Off was once = absurd once
once_value x was once = refl

pub once_leaves : (what : Write) (file i : ℕ) (on : Bool) (failed : FailedCall) (k l : Kernel) → IsOnce (control_of what) → IsHeldAs k file i (control_of what) → Called (Put file what) (told_at Wrote.Done failed) k l → Value k i on → Value l i on
once_leaves what file i on failed k l once of c v =
    let w : IsWritten file what c.before c.after = c.effect in
    let moved = moves_quiet k c.before c.moves_before in
    let is = written_device file i (control_of what) what c.before c.after w (moved.held file (record { device = i; control = control_of what }) of) in
    let was = quiet_value k c.before i on moved v in
    let same : w.d ≡ was.0 = some_same (slice_get c.before.devices i) w.d was.0 (subst (λ x. slice_get c.before.devices x ≡ Some w.d) is w.live.at) was.1 in
    let d : Device = written_to what w.d in
    let now : slice_get c.after.devices i ≡ Some d = subst (λ x. slice_get c.after.devices x ≡ Some d) is w.now in
    quiet_value c.after l i on (moves_quiet c.after l c.moves_after) (d, now, once_value what w.d.on once ∙ ap (λ (x : Device). x.on) same ∙ was.2)

-- devices of other names keep their values
abbrev pub Others : List ℕ → Kernel → Kernel → Type 0
Others name k l = (i : ℕ) (on : Bool) (d : Device) → slice_get k.devices i ≡ Some d → (d.name ≡ name → ⊥) → Value k i on → Value l i on

pub others_refl : (name : List ℕ) (k : Kernel) → Others name k k
others_refl name k i on d e ne v = v

pub others_trans : (name : List ℕ) (k m l : Kernel) → Grows k m → Others name k m → Others name m l → Others name k l
others_trans name k m l g a b i on d e ne v =
    let x = g.devices i d e in
    b i on x.0 x.1 (λ same. ne (sym x.2.name ∙ same)) (a i on d e ne v)

pub others_quiet : (name : List ℕ) (k l : Kernel) → Quiet k l → Others name k l
others_quiet name k l q i on d e ne v = quiet_value k l i on q v

-- and those of this name do
abbrev pub Owned : List ℕ → Kernel → Kernel → Type 0
Owned name k l = (i : ℕ) (on : Bool) (d : Device) → slice_get k.devices i ≡ Some d → d.name ≡ name → Value k i on → Value l i on

pub owned_refl : (name : List ℕ) (k : Kernel) → Owned name k k
owned_refl name k i on d e is v = v

pub owned_quiet : (name : List ℕ) (k m l : Kernel) → Owned name k m → Quiet m l → Owned name k l
owned_quiet name k m l own q i on d e is v = quiet_value m l i on q (own i on d e is v)

-- behind what leaves the devices of all other names as they are
pub owned_apart : (name other : List ℕ) (k m l : Kernel) → Grows k m → (name ≡ other → ⊥) → Owned name k m → Others other m l → Owned name k l
owned_apart name other k m l g ne own others i on d e is v =
    let x = g.devices i d e in
    others i on x.0 x.1 (λ same. ne (sym is ∙ sym x.2.name ∙ same)) (own i on d e is v)

-- the held file is of a device of that name
pub record IsOpen (k : Kernel) (name : List ℕ) (held : ℕ) : Type 0 where
  pub i : ℕ
  pub d : Device
  pub file : IsFileOf k held i
  pub device : slice_get k.devices i ≡ Some d
  pub named : d.name ≡ name

pub open_later : (k l : Kernel) (name : List ℕ) (held : ℕ) → Grows k l → IsOpen k name held → IsOpen l name held
open_later k l name held g o =
    let x = g.devices o.i o.d o.device in
    record { i = o.i; d = x.0; file = file_later k l held o.i g o.file; device = x.1; named = x.2.name ∙ o.named }

-- its device bears the name
pub open_name : (k : Kernel) (name : List ℕ) (held i : ℕ) (d : Device) (o : IsOpen k name held) → slice_get k.devices i ≡ Some d → IsFileOf k held i → d.name ≡ name
open_name k name held i d o at file =
    let is : o.i ≡ i = file_same k held o.i i o.file file in
    ap (λ (x : Device). x.name) (some_same (slice_get k.devices i) d o.d at (subst (λ (j : ℕ). slice_get k.devices j ≡ Some o.d) is o.device)) ∙ o.named

-- where it is that live device's, the names are one
pub open_named : (k : Kernel) (name other : List ℕ) (held i : ℕ) → IsOpen k name held → IsFileOf k held i → LiveAs k i other → name ≡ other
open_named k name other held i o file live = sym (open_name k name held i live.d o live.live.at file) ∙ live.named

-- a write through a file of a device of that name
pub others_put : (name : List ℕ) (held file : ℕ) (control : Control) (write : Write) (answer : ToldAnswer Wrote) (k l : Kernel) (o : IsOpen k name held) → IsHeldAs k file o.i control → Called (Put file write) answer k l → Others name k l
others_put name held file control write answer k l o of c i on d e ne v =
    let other : o.i ≡ i → ⊥ = λ is. ne (open_name k name held i d o e (subst (λ j. IsFileOf k held j) is o.file)) in
    put_other file i o.i control write answer on k l of other c v

-- what is alive behind the file of a device is that device
pub alive_open : (k : Kernel) (name : List ℕ) (held : ℕ) (on : Bool) → IsOpen k name held → IsAlive held on k → (i : ℕ) × IsFileOf k held i × LiveAs k i name × Value k i on
alive_open k name held on o alive =
    let same : alive.holds.file ≡ record { device = o.i; control = Authorized } = some_same (slice_get k.held held) alive.holds.file (record { device = o.i; control = Authorized }) alive.holds.at o.file in
    let is : alive.i ≡ o.i = sym alive.holds.is ∙ ap (λ (v : HeldFile). v.device) same in
    let live : Live k.devices o.i alive.d = subst (λ v. Live k.devices v alive.d) is alive.live in
    let named : alive.d.name ≡ name = ap (λ (v : Device). v.name) (some_same (slice_get k.devices o.i) alive.d o.d live.at o.device) ∙ o.named in
    (o.i, o.file, record { d = alive.d; live = live; named = named }, (alive.d, live.at, alive.value))

-- What settling a name leaves of the standings.

pub other_test : (a b : List ℕ) → (a ≡ b → ⊥) → same_name a b ≡ false
other_test a b ne = false_from_ne_true (same_name a b) (λ e. ne (same_is a b e))

-- each standing's held file is of a device of its name

abbrev pub Files : Kernel → List Standing → Type 0
Files k ss = (s : Standing) → Has ss s → IsOpen k s.name s.held.0

pub files_later : (k l : Kernel) (ss : List Standing) → Grows k l → Files k ss → Files l ss
files_later k l ss g f s a = open_later k l s.name s.held.0 g (f s a)

-- a new standing

-- what holds of it, and of each that was there, holds of each
pub each_with : (P : Standing → Type 0) (x : Standing) (ss : List Standing) → P x
    → ((s : Standing) → Has ss s → P s) → (s : Standing) → Has (with_standing x ss) s → P s
each_with P x ss own rest s a = elim (insert_has ss (place_for x.name ss) x s a) [
  | inl e ↦ subst P e own
  | inr b ↦ rest s b
]

pub with_files : (k : Kernel) (ss : List Standing) (x : Standing) → Files k ss → IsOpen k x.name x.held.0 → Files k (with_standing x ss)
with_files k ss x f o = each_with (λ (s : Standing). IsOpen k s.name s.held.0) x ss o f

-- a rejected one is marked as removed
abbrev pub IsRemovedIf : Standing → Type 0
IsRemovedIf s = is_reject s.verdict ≡ true → s.removed ≡ true

-- a standing that is tried again

pub marked_other : (name : List ℕ) (b : Bool) (s : Standing) → (s.name ≡ name → ⊥) → marked name b s ≡ s
marked_other name b s ne = ap (λ (t : Bool). let v : Standing = record s { settled = if t then b else s.settled; removed = if t then s.removed || (b && is_reject s.verdict) else s.removed } in v) (other_test s.name name ne)

-- each was there
abbrev pub Was : List Standing → Standing → Type 0
Was ss s = (t : Standing) × Has ss t × (t.name ≡ s.name) × (t.held ≡ s.held)

marked_was : (ss : List Standing) (name : List ℕ) (b : Bool) (s : Standing) → Has (map (marked name b) ss) s → Was ss s
marked_was ss name b s h = let m = map_has (marked name b) ss s h in (m.0, m.1, ap (λ (v : Standing). v.name) m.2, ap (λ (v : Standing). v.held) m.2)

pub tried_was : (ss : List Standing) (name : List ℕ) (how : Settled) (s : Standing) → Has (tried_standings ss name how) s → Was ss s
tried_was ss name Settled.Nobody s h = (s, (filter_has (λ (v : Standing). not (same_name v.name name)) ss s h).0, refl, refl)
tried_was ss name Settled.Stands s h = marked_was ss name true s h
tried_was ss name how s h = marked_was ss name false s h

pub tried_files : (k : Kernel) (ss : List Standing) (name : List ℕ) (how : Settled) → Files k ss → Files k (tried_standings ss name how)
tried_files k ss name how f s a =
    let t = tried_was ss name how s a in
    subst (λ v. IsOpen k v s.held.0) t.2 (subst (λ v. IsOpen k t.0.name v.0) t.3 (f t.0 t.1))

pub tried_new : (ss : List Standing) (name : List ℕ) (how : Settled) (s : Standing) → how ≡ Settled.Stands → s.name ≡ name → Has ss s → (t : Standing) × Has (tried_standings ss name how) t × (t.held ≡ s.held) × (t.verdict ≡ s.verdict) × IsRemovedIf t × ((hub : Option Write) → default_due hub s.name (known_of s) ≡ None → default_due hub t.name (known_of t) ≡ None)
tried_new ss name how s e named h = subst (λ (v : Settled). (t : Standing) × Has (tried_standings ss name v) t × (t.held ≡ s.held) × (t.verdict ≡ s.verdict) × IsRemovedIf t × ((hub : Option Write) → default_due hub s.name (known_of s) ≡ None → default_due hub t.name (known_of t) ≡ None)) (sym e) (marked name true s, has_map (marked name true) ss s h, refl, refl, λ r. reject_removed name s (is_same s.name name named) r, λ hub h. h)

-- the default of its device was written

pub default_other : (name : List ℕ) (s : Standing) → (s.name ≡ name → ⊥) → with_default name s ≡ s
default_other name s ne = ap (λ (b : Bool). let v : Standing = record s { defaulted = b || s.defaulted } in v) (other_test s.name name ne)

pub default_own : (name : List ℕ) (s : Standing) → s.name ≡ name → with_default name s ≡ record s { defaulted = true }
default_own name s e = ap (λ (b : Bool). let v : Standing = record s { defaulted = b || s.defaulted } in v) (is_same s.name name e)

pub did_was : (ss : List Standing) (name : List ℕ) (d : Bool) (s : Standing) → Has (did_default name d ss) s → Was ss s
did_was ss name true s h = let m = map_has (with_default name) ss s h in (m.0, m.1, ap (λ (v : Standing). v.name) m.2, ap (λ (v : Standing). v.held) m.2)
did_was ss name false s h = (s, h, refl, refl)

pub did_files : (k : Kernel) (ss : List Standing) (name : List ℕ) (d : Bool) → Files k ss → Files k (did_default name d ss)
did_files k ss name d f s a =
    let t = did_was ss name d s a in
    subst (λ v. IsOpen k v s.held.0) t.2 (subst (λ v. IsOpen k t.0.name v.0) t.3 (f t.0 t.1))

-- the standing of the name, marked where that was so
abbrev pub default_as : Bool → Standing → Standing
default_as true s = record s { defaulted = true }
default_as false s = s

pub did_has : (name : List ℕ) (d : Bool) (ss : List Standing) (s : Standing) → s.name ≡ name → Has ss s → Has (did_default name d ss) (default_as d s)
did_has name true ss s e a = subst (λ (v : Standing). Has (map (with_default name) ss) v) (default_own name s e) (has_map (with_default name) ss s a)
did_has name false ss s e a = a

-- The standing of a name once another name was settled, and once it was itself.

-- a standing of that number and that held file
abbrev pub StandsAs : ℕ → Held → Option Known → Type 0
StandsAs number held o = (k : Known) × (o ≡ Some k) × (k.number ≡ number) × (k.held ≡ held)

pub stands_file : (o : Option Known) (number : ℕ) (held : Held) → StandsAs number held o → known_files o ≡ open_file held.0 Authorized ∷ []
stands_file o number held h = ap known_files h.1 ∙ ap (λ (v : Held). open_file v.0 Authorized ∷ []) h.3

pub stands_number : (o : Option Known) (number : ℕ) (held : Held) → StandsAs number held o → number_of o ≡ Some number
stands_number o number held h = ap number_of h.1 ∙ ap (λ (v : ℕ). Some v) h.2

-- one that is tried again

marked_own : (name : List ℕ) (mark : Bool) (ss : List Standing) (known : Known) → standing_of name ss ≡ Some known → StandsAs known.number known.held (standing_of name (map (marked name mark) ss))
marked_own name mark [] known e = let none : ⊥ = cc in absurd none
marked_own name mark (s ∷ ss) known e =
    let own : known_of s ≡ known → StandsAs known.number known.held (Some (known_of (marked name mark s))) = λ same. (known_of (marked name mark s), refl, ap (λ (v : Known). v.number) same, ap (λ (v : Known). v.held) same) in
    elim (same_name s.name name) as (λ (b : Bool). cond b (Some (known_of s)) (standing_of name ss) ≡ Some known → StandsAs known.number known.held (cond b (Some (known_of (marked name mark s))) (standing_of name (map (marked name mark) ss)))) [ true ↦ (λ f. own (cc)) | false ↦ marked_own name mark ss known ] e

pub without_own : (name : List ℕ) (ss : List Standing) → standing_of name (without name ss) ≡ None
without_own name [] = refl
without_own name (s ∷ ss) = cond_both (not (same_name s.name name)) (s ∷ without name ss) (without name ss)
    (λ (l : List Standing). standing_of name l ≡ None)
    (λ e. cond-false (same_name s.name name) (Some (known_of s)) (standing_of name (without name ss)) (not-true (same_name s.name name) e) ∙ without_own name ss)
    (λ e. without_own name ss)

pub tried_own : (name : List ℕ) (ss : List Standing) (how : Settled) (known : Known) → standing_of name ss ≡ Some known → (how ≡ Settled.Nobody → ⊥) → StandsAs known.number known.held (standing_of name (tried_standings ss name how))
tried_own name ss Settled.Nobody known e n = absurd (n refl)
tried_own name ss Settled.Stands known e n = marked_own name true ss known e
tried_own name ss how known e n = marked_own name false ss known e

-- one whose default was written
default_stands : (name : List ℕ) (ss : List Standing) (known : Known) → standing_of name ss ≡ Some known → standing_of name (map (with_default name) ss) ≡ Some (defaulted_known known)
default_stands name [] known e = let none : ⊥ = cc in absurd none
default_stands name (s ∷ ss) known e =
    elim (same_name s.name name) as (λ (b : Bool). cond b (Some (known_of s)) (standing_of name ss) ≡ Some known → cond b (Some (known_of (record s { defaulted = b || s.defaulted }))) (standing_of name (map (with_default name) ss)) ≡ Some (defaulted_known known)) [ true ↦ (λ f. let same : known_of s ≡ known = cc in ap (λ (v : Known). Some (defaulted_known v)) same) | false ↦ default_stands name ss known ] e

abbrev pub known_as : Bool → Known → Known
known_as true known = defaulted_known known
known_as false known = known

pub did_stands : (name : List ℕ) (d : Bool) (ss : List Standing) (known : Known) → standing_of name ss ≡ Some known → standing_of name (did_default name d ss) ≡ Some (known_as d known)
did_stands name true ss known e = default_stands name ss known e
did_stands name false ss known e = e

-- and others are passed over
default_without : (name : List ℕ) (ss : List Standing) → without name (map (with_default name) ss) ≡ without name ss
default_without name [] = refl
default_without name (s ∷ ss) = elim (same_name s.name name) as (λ (b : Bool). cond (not b) (record s { defaulted = b || s.defaulted } ∷ without name (map (with_default name) ss)) (without name (map (with_default name) ss)) ≡ cond (not b) (s ∷ without name ss) (without name ss)) [
  | true ↦ default_without name ss
  | false ↦ ap (λ (v : List Standing). s ∷ v) (default_without name ss)
]

pub did_without : (name : List ℕ) (d : Bool) (ss : List Standing) → without name (did_default name d ss) ≡ without name ss
did_without name true ss = default_without name ss
did_without name false ss = refl

-- a new one

between_own : (name : List ℕ) (x : Standing) (ts ds : List Standing) → same_name x.name name ≡ true → standing_of name (ts ++ ds) ≡ None → standing_of name (ts ++ x ∷ ds) ≡ Some (known_of x)
between_own name x [] ds e n = ap (λ (v : Bool). cond v (Some (known_of x)) (standing_of name ds)) e
between_own name x (t ∷ ts) ds e n = cond_both (same_name t.name name) (Some (known_of t)) (standing_of name (ts ++ ds))
    (λ (o : Option Known). o ≡ None → standing_of name (t ∷ ts ++ x ∷ ds) ≡ Some (known_of x))
    (λ f g. let none : ⊥ = cc in absurd none)
    (λ f g. cond-false (same_name t.name name) (Some (known_of t)) (standing_of name (ts ++ x ∷ ds)) f ∙ between_own name x ts ds e g) n

pub with_own : (name : List ℕ) (x : Standing) (ss : List Standing) → x.name ≡ name → standing_of name ss ≡ None → standing_of name (with_standing x ss) ≡ Some (known_of x)
with_own name x ss e n =
    let p : ℕ = place_for x.name ss in
    between_own name x (take p ss) (drop p ss) (is_same x.name name e) (ap (λ (v : List Standing). standing_of name v) (take-append-drop p ss) ∙ n)

-- a standing of another name is passed over
passed : (other : List ℕ) (s : Standing) (ss : List Standing) → same_name s.name other ≡ false → standing_of other (s ∷ ss) ≡ standing_of other ss
passed other s ss e = ap (λ (v : Bool). cond v (Some (known_of s)) (standing_of other ss)) e

pub not_named : (name other : List ℕ) (s : Standing) → s.name ≡ name → (other ≡ name → ⊥) → same_name s.name other ≡ false
not_named name other s e n = other_test s.name other (λ f. n (sym f ∙ e))

pub without_stand : (name other : List ℕ) (ss : List Standing) → (other ≡ name → ⊥) → standing_of other (without name ss) ≡ standing_of other ss
without_stand name other [] n = refl
without_stand name other (s ∷ ss) n = cond_both (not (same_name s.name name)) (s ∷ without name ss) (without name ss)
    (λ (l : List Standing). standing_of other l ≡ standing_of other (s ∷ ss))
    (λ e. ap (λ (v : Option Known). cond (same_name s.name other) (Some (known_of s)) v) (without_stand name other ss n))
    (λ e. without_stand name other ss n ∙ sym (passed other s ss (not_named name other s (same_is s.name name (not-false (same_name s.name name) e)) n)))

-- the standings of the names that are listed
pub listed_stand : (names : List (List ℕ)) (name : List ℕ) (ss : List Standing) → lists names name ≡ true → standing_of name (filter (λ s. lists names s.name) ss) ≡ standing_of name ss
listed_stand names name [] has = refl
listed_stand names name (s ∷ ss) has = cond_both (lists names s.name) (s ∷ filter (λ s. lists names s.name) ss) (filter (λ s. lists names s.name) ss)
    (λ (l : List Standing). standing_of name l ≡ standing_of name (s ∷ ss))
    (λ e. ap (λ (v : Option Known). cond (same_name s.name name) (Some (known_of s)) v) (listed_stand names name ss has))
    (λ e. listed_stand names name ss has ∙ sym (passed name s ss (other_test s.name name (λ f. both_ways (lists names s.name) e (ap (λ (v : List ℕ). lists names v) f ∙ has)))))

-- A new standing that is kept was added, and then tried.

marked_none : (name : List ℕ) (b : Bool) (ss : List Standing) → (Has (names_of ss) name → ⊥)
    → map (marked name b) ss ≡ ss
marked_none name b [] n = refl
marked_none name b (s ∷ ss) n =
    ap (λ (v : Standing). v ∷ map (marked name b) ss) (marked_other name b s (λ e. n (inl e)))
    ∙ ap (λ (v : List Standing). s ∷ v) (marked_none name b ss (λ a. n (inr a)))

marked_between : (name : List ℕ) (b : Bool) (x : Standing) (ts ds : List Standing)
    → (Has (names_of (ts ++ ds)) name → ⊥)
    → map (marked name b) (ts ++ x ∷ ds) ≡ ts ++ marked name b x ∷ ds
marked_between name b x [] ds n =
    ap (λ (v : List Standing). marked name b x ∷ v) (marked_none name b ds n)
marked_between name b x (t ∷ ts) ds n =
    let own = marked_other name b t (λ e. n (inl e)) in
    ap (λ (v : Standing). v ∷ map (marked name b) (ts ++ x ∷ ds)) own
    ∙ ap (λ (v : List Standing). t ∷ v) (marked_between name b x ts ds (λ a. n (inr a)))

default_none : (name : List ℕ) (ss : List Standing) → (Has (names_of ss) name → ⊥) → map (with_default name) ss ≡ ss
default_none name [] n = refl
default_none name (s ∷ ss) n =
    ap (λ (v : Standing). v ∷ map (with_default name) ss) (default_other name s (λ e. n (inl e)))
    ∙ ap (λ (v : List Standing). s ∷ v) (default_none name ss (λ a. n (inr a)))

default_between : (name : List ℕ) (x : Standing) (ts ds : List Standing) → (Has (names_of (ts ++ ds)) name → ⊥) → map (with_default name) (ts ++ x ∷ ds) ≡ ts ++ with_default name x ∷ ds
default_between name x [] ds n = ap (λ (v : List Standing). with_default name x ∷ v) (default_none name ds n)
default_between name x (t ∷ ts) ds n =
    let own = default_other name t (λ e. n (inl e)) in
    ap (λ (v : Standing). v ∷ map (with_default name) (ts ++ x ∷ ds)) own
    ∙ ap (λ (v : List Standing). t ∷ v) (default_between name x ts ds (λ a. n (inr a)))

-- a new standing that is marked so
pub did_with : (d : Bool) (x : Standing) (ss : List Standing) → x.defaulted ≡ false → standing_of x.name ss ≡ None → with_standing (record x { defaulted = d }) ss ≡ did_default x.name d (with_standing x ss)
did_with true x ss fresh none =
    let p : ℕ = place_for x.name ss in
    let absent = subst (λ (v : List Standing). Has (names_of v) x.name → ⊥) (sym (take-append-drop p ss)) (missing x.name ss none) in
    ap (λ (v : Standing). insert ss p v) (sym (default_own x.name x refl)) ∙ sym (default_between x.name x (take p ss) (drop p ss) absent)
did_with false x ss fresh none = ap (λ (b : Bool). let y : Standing = record x { defaulted = b } in with_standing y ss) (sym fresh)

pub without_none : (name : List ℕ) (ss : List Standing) → (Has (names_of ss) name → ⊥)
    → without name ss ≡ ss
without_none name [] n = refl
without_none name (s ∷ ss) n =
    ap (λ (v : Bool). cond (not v) (s ∷ without name ss) (without name ss))
    (other_test s.name name (λ e. n (inl e)))
    ∙ ap (λ (v : List Standing). s ∷ v) (without_none name ss (λ a. n (inr a)))

without_between : (name : List ℕ) (x : Standing) (ts ds : List Standing) → x.name ≡ name
    → without name (ts ++ x ∷ ds) ≡ without name (ts ++ ds)
without_between name x [] ds e =
    ap (λ (v : Bool). cond (not v) (x ∷ without name ds) (without name ds)) (is_same x.name name e)
without_between name x (t ∷ ts) ds e =
    ap (λ (v : List Standing). cond (not (same_name t.name name)) (t ∷ v) v)
    (without_between name x ts ds e)

pub without_with : (name : List ℕ) (x : Standing) (ss : List Standing) → x.name ≡ name
    → without name (with_standing x ss) ≡ without name ss
without_with name x ss e =
    let p : ℕ = place_for x.name ss in
    without_between name x (take p ss) (drop p ss) e ∙ ap (without name) (take-append-drop p ss)

-- The standings that aren't meant, as one settles a name, or the standing of a number.

-- those that are meant, by name and number
abbrev pub Test : Type 0
Test = List ℕ → ℕ → Bool

abbrev pub own : Test → Standing → Bool
own test s = test s.name s.number

abbrev pub rest_of : Test → List Standing → List Standing
rest_of test ss = filter (λ (s : Standing). not (own test s)) ss

-- among these standings, they are those of that name
abbrev pub AreNamed : Test → List ℕ → List Standing → Type 0
AreNamed test name ss = (s : Standing) → Has ss s → own test s ≡ same_name s.name name

-- what is done to each of those alone that are meant
pub rest_map : (test : Test) (f : Standing → Standing) (ss : List Standing) → ((s : Standing) → own test (f s) ≡ own test s) → ((s : Standing) → Has ss s → own test s ≡ false → f s ≡ s) → rest_of test (map f ss) ≡ rest_of test ss
rest_map test f [] keeps other = refl
rest_map test f (s ∷ ss) keeps other = ap (λ (v : Bool). cond (not v) (f s ∷ rest_of test (map f ss)) (rest_of test (map f ss))) (keeps s) ∙ by (own test s) refl (rest_map test f ss keeps (λ t a. other t (inr a)))
  where
    by : (b : Bool) → own test s ≡ b → rest_of test (map f ss) ≡ rest_of test ss → cond (not b) (f s ∷ rest_of test (map f ss)) (rest_of test (map f ss)) ≡ cond (not b) (s ∷ rest_of test ss) (rest_of test ss)
    by true e h = h
    by false e h = λ i. (other s (inl refl) e) i ∷ h i

pub marked_rest : (test : Test) (name : List ℕ) (mark : Bool) (ss : List Standing) → AreNamed test name ss → rest_of test (map (marked name mark) ss) ≡ rest_of test ss
marked_rest test name mark ss named = rest_map test (marked name mark) ss (λ s. refl) (λ s a e. marked_other name mark s (λ f. true≢false (sym (is_same s.name name f) ∙ sym (named s a) ∙ e)))

pub without_rest : (test : Test) (name : List ℕ) (ss : List Standing) → AreNamed test name ss → rest_of test (without name ss) ≡ rest_of test ss
without_rest test name [] named = refl
without_rest test name (s ∷ ss) named = subst (λ (c : Bool). rest_of test (cond (not c) (s ∷ without name ss) (without name ss)) ≡ rest_of test (s ∷ ss)) (named s (inl refl)) (by (own test s) refl (without_rest test name ss (λ t a. named t (inr a))))
  where
    by : (b : Bool) → own test s ≡ b → rest_of test (without name ss) ≡ rest_of test ss → rest_of test (cond (not b) (s ∷ without name ss) (without name ss)) ≡ cond (not b) (s ∷ rest_of test ss) (rest_of test ss)
    by true e h = h
    by false e h = ap (λ (v : Bool). cond (not v) (s ∷ rest_of test (without name ss)) (rest_of test (without name ss))) e ∙ ap (λ (v : List Standing). s ∷ v) h

pub tried_rest : (test : Test) (name : List ℕ) (ss : List Standing) (how : Settled) → AreNamed test name ss → rest_of test (tried_standings ss name how) ≡ rest_of test ss
tried_rest test name ss Settled.Nobody named = without_rest test name ss named
tried_rest test name ss Settled.Stands named = marked_rest test name true ss named
tried_rest test name ss how named = marked_rest test name false ss named

abbrev pub of_name : List ℕ → Test
of_name name = λ other number. same_name other name

pub tried_without : (name : List ℕ) (ss : List Standing) (how : Settled) → without name (tried_standings ss name how) ≡ without name ss
tried_without name ss how = tried_rest (of_name name) name ss how (λ s a. refl)

-- where those of other names are the same, one of them is there, and is found
pub others_have : (name : List ℕ) (ss rs : List Standing) (s : Standing) → without name ss ≡ without name rs → Has ss s → (s.name ≡ name → ⊥) → Has rs s
others_have name ss rs s e a ne =
    let other : Standing → Bool = λ v. not (same_name v.name name) in
    (filter_has other rs s (subst (λ (v : List Standing). Has v s) e (has_filter other ss s a (ap not (other_test s.name name ne))))).0

pub others_stand : (name other : List ℕ) (ss rs : List Standing) → without name rs ≡ without name ss → (other ≡ name → ⊥) → standing_of other rs ≡ standing_of other ss
others_stand name other ss rs e n = sym (without_stand name other rs n) ∙ ap (standing_of other) e ∙ without_stand name other ss n

pub kept_tried : (ss : List Standing) (x : Standing) (how : Settled) → x.settled ≡ false
    → standing_of x.name ss ≡ None
    → kept_standings ss x how ≡ tried_standings (with_standing x ss) x.name how
kept_tried ss x how fresh none = by how
  where
    into : (b : Bool) (y : Standing) → marked x.name b x ≡ y
        → insert ss (place_for x.name ss) y ≡ map (marked x.name b) (with_standing x ss)
    into b y e =
        let p : ℕ = place_for x.name ss in
        let absent = subst (λ (v : List Standing). Has (names_of v) x.name → ⊥)
        (sym (take-append-drop p ss)) (missing x.name ss none) in
        ap (λ (v : Standing). insert ss p v) (sym e)
        ∙ sym (marked_between x.name b x (take p ss) (drop p ss) absent)

    own : (b : Bool) → marked x.name b x
        ≡ record x { settled = b; removed = x.removed || (b && is_reject x.verdict) }
    own b = ap (λ (t : Bool). let v : Standing = record x { settled = if t then b else x.settled; removed = if t then x.removed || (b && is_reject x.verdict) else x.removed } in v)
        (is_same x.name x.name refl)

    stays : marked x.name false x ≡ x
    stays = own false ∙ (λ i. record x { settled = (sym fresh) i; removed = (or_none x.removed) i })

    by : (how : Settled) → kept_standings ss x how ≡ tried_standings (with_standing x ss) x.name how
    by Settled.Nobody =
        sym (without_with x.name x ss refl ∙ without_none x.name ss (missing x.name ss none))
    by Settled.Stands = into true (settled_standing x) (own true)
    by how = into false x stays
