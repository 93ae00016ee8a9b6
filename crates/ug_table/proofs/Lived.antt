-- What settling names leaves of devices: each one that lived through is as judged, or is told.
use Rattle.std.proofs.Common.{◌≡◌, ℕ, Bool, List, [], ◌∷◌, ◌++◌, Option, Some, refl, sym, ◌∙◌, ap, subst, append_assoc, slice_get, false, ◌⊎◌, inl, inr, true, None, true≢false, cond, is_none, not, ◌&&◌}
use Rattle.ug_table.proofs.Common.{Terms, did_default, defaulted_known, known_of, default_due, default_write, Default, Has, parent_of, Ask_alive, Put, Close, Closing, ToldAnswer, Names, Authorized, Remove, Kernel, IsKernel, IsOpenable, Quiet, Grows, Made, made_with, Along, Runs, calls, RemoveHold, Bound, Binding, Entry, State, Answers, Laters, standing_of, without, with_standing, place_for, same_name, lists, farewells, Standing, Known, Settled, Held, Target, Wrote, IsOnce, control_of, Device, Control, IsGoneAt, Called, Lived, IsNamed, HasStanding, Stand, IsAsJudged, IsSettled, FailedCall, in_sweep_order, Fault, unlisted_files, Probe, Write, Listing, names_of, sweeping, unsettled_by, tried_standings, has_right, has_left, has_new, cancel, filter_has, has_map, write_of, wants, is_reject, Way, way_runs, along_split, along_sound, along_grows, quiet_grows, called_grows, some_same, grows_refl, grows_trans, parent_standing, binding_for, called_quiet, quiet_refl, quiet_trans}
use Rattle.ug_table.proofs.Shapes.{Piece, Valued, Same, Set, OnceMade, Not_held, Put_on, Carried, By_value, And_removal, Brought, Left_open, Let_go, Treated, No_default, And_default, Cut_default, Gone_default, due_is, due_open, due_once, treated_done, Opening, Fresh, Lost, Flat, Unprobed, Tried, Stopped, Unbound, No_place, Judged_so, told_at, Written, Done, Went, Broke, Unheld, Gone_by, Failed_by, Short_by, Unbound_end, Failed_so, Short_so, opening_absent, opening_less, flat_rest}
use Rattle.ug_kernel.specs.Removal.{holding, HoldSays}
use Rattle.ug_kernel.proofs.Laws.{holding_law}
use Rattle.ug_kernel.specs.Bound.{SaysBy}
use Rattle.ug_types.specs.declared.record.Attrs.{Attrs}
use Rattle.ug_table.proofs.Above.{ParentsBy, kept_at, for_law}
use Rattle.ug_table.proofs.NamedStandings.{found, same_is, is_same, missing}
use Rattle.ug_table.proofs.Standings.{Others, others_refl, others_trans, others_quiet, others_put, IsOpen, open_name, open_later, IsFileOf, file_later, LiveAs, lives_between, lived, live_same, gone_no, Value, quiet_value, done_value, alive_open, IsHeldAs, once_leaves, file_same, open_named, Files, files_later, with_files, others_have, tried_files, tried_new, IsRemovedIf, Was, tried_was, did_was, did_files, did_has, default_as, known_as}
use Rattle.ug_kernel.proofs.HeldFiles.{live_before}
use Rattle.ug_table.proofs.Marks.{known_has}
use Rattle.ug_types.proofs.Sorting.{to_sweep_order}
use Rattle.ug_table.proofs.Chains.{closings_quiet, Chain, Over, First, Goes, Listed, Unlisted, goes_entries, sweeping_run}

-- Settling a name leaves the other names' devices and standings as they are.

-- the writes

valued_apart : {name : List ℕ} {known : Known} {on : Bool} {ms : List Made} {es : List Entry} {how : Settled} (k l : Kernel) → Valued name known on ms es how → IsOpen k name known.held.0 → Along calls k ms l → Others name k l
valued_apart {name} k l (Same e) o a = subst (λ v. Others name k v) (sym a) (others_refl name k)
valued_apart {name} {known} k l (Set t es how e w) o a = subst (λ v. Others name k v) (sym a.2) (others_put name known.held.0 known.held.0 Authorized (write_of known.verdict) t k a.0 o o.file a.1)

-- a write that is made once

-- a second file of the device of an open file
pub hold_open : (control : Control) (name : List ℕ) (held : ℕ) (answer : RemoveHold) (k l : Kernel) → IsKernel k → IsOpenable control name → (o : IsOpen k name held) → Runs calls k (holding control name held) answer l → Quiet k l × ((now : IsOpen l name held) × HoldSays control held now.i l answer)
hold_open control name held answer k l sound can o r =
    let law = holding_law control name held o.i answer k l sound can (record { d = o.d; file = o.file; device = o.device; named = o.named }) r in
    let x = (quiet_grows k l law.quiet).devices o.i o.d o.device in
    let now : IsOpen l name held = record { i = o.i; d = x.0; file = law.quiet.held held (record { device = o.i; control = Authorized }) o.file; device = x.1; named = x.2.name ∙ o.named } in
    (law.quiet, (now, law.says))

once_apart : {what : Write} {name : List ℕ} {known : Known} {ms : List Made} {es : List Entry} {how : Settled} (k l : Kernel) → IsOpenable (control_of what) name → OnceMade name known what ms es how → IsKernel k → IsOpen k name known.held.0 → Along calls k ms l → Others name k l
once_apart {what} {name} {known} k l can (Not_held ms r es how way u) sound o a = others_quiet name k l (hold_open (control_of what) name known.held.0 r k l sound can o (way_runs calls (holding (control_of what) name known.held.0) ms k r l way a)).0
once_apart {what} {name} {known} k l can (Put_on ms file t shut es how way w) sound o a =
    let cut = along_split calls ms (made_with (Put file.0 what) t ∷ made_with (Close file.0) shut ∷ []) k l a in
    let m = cut.0 in
    let n = cut.2.0 in
    let put = cut.2.1 in
    let x = hold_open (control_of what) name known.held.0 (RemoveHold.Ready file) k m sound can o (way_runs calls (holding (control_of what) name known.held.0) ms k (RemoveHold.Ready file) m way cut.1) in
    let rest = others_trans name m n l (called_grows (Put file.0 what) t m n put) (others_put name known.held.0 file.0 (control_of what) what t m n x.1.0 x.1.1 put) (subst (λ v. Others name n v) (sym cut.2.2.2) (others_quiet name n cut.2.2.0 (called_quiet (Close file.0) shut n cut.2.2.0 tt cut.2.2.1))) in
    others_trans name k m l (quiet_grows k m x.0) (others_quiet name k m x.0) rest

carried_apart : {name : List ℕ} {known : Known} {on : Bool} {ms : List Made} {es : List Entry} {how : Settled} (k l : Kernel) → Carried name known on ms es how → IsKernel k → IsOpen k name known.held.0 → Along calls k ms l → Others name k l
carried_apart k l (By_value ms es how v f) sound o a = valued_apart k l v o a
carried_apart {name} {known} k l (And_removal ms ns es fs how go v r) sound o a =
    let cut = along_split calls ms ns k l a in
    let m = cut.0 in
    let g = along_grows ms k m cut.1 in
    others_trans name k m l g (valued_apart k m v o cut.1) (once_apart m l tt r (along_sound ms k m sound cut.1) (open_later k m name known.held.0 g o) cut.2)

brought_apart : {name : List ℕ} {known : Known} {on : Bool} {ms : List Made} {es : List Entry} {how : Settled} (k l : Kernel) → Brought name known on ms es how → IsKernel k → IsOpen k name known.held.0 → Along calls k ms l → Others name k l
brought_apart k l (Left_open ms es how c n) sound o a = carried_apart k l c sound o a
brought_apart {name} {known} k l (Let_go ms es shut c) sound o a =
    let cut = along_split calls ms (made_with (Close known.held.0) shut ∷ []) k l a in
    let m = cut.0 in
    let q = subst (λ v. Quiet m v) (sym cut.2.2) (called_quiet (Close known.held.0) shut m cut.2.0 tt cut.2.1) in
    others_trans name k m l (along_grows ms k m cut.1) (carried_apart k m c sound o cut.1) (others_quiet name m l q)

-- all writes of a sweep
treated_apart : {hub : Option Write} {name : List ℕ} {known : Known} {on d : Bool} {ms : List Made} {es : List Entry} {how : Settled} (k l : Kernel) → Treated hub name known on d ms es how → IsKernel k → IsOpen k name known.held.0 → Along calls k ms l → Others name k l
treated_apart k l (No_default ms es how e b) sound o a = brought_apart k l b sound o a
treated_apart {hub} {name} {known} k l (And_default what ds ms fs es how e w b) sound o a =
    let cut = along_split calls ds ms k l a in
    let m = cut.0 in
    let g = along_grows ds k m cut.1 in
    others_trans name k m l g (once_apart k m (due_open (due_is hub name known what e)) w sound o cut.1) (brought_apart m l b (along_sound ds k m sound cut.1) (open_later k m name known.held.0 g o) cut.2)
treated_apart {hub} {name} {known} k l (Cut_default what ds fs how e w c) sound o a = once_apart k l (due_open (due_is hub name known what e)) w sound o a
treated_apart {hub} {name} {known} k l (Gone_default what ds fs shut e w) sound o a =
    let cut = along_split calls ds (made_with (Close known.held.0) shut ∷ []) k l a in
    let m = cut.0 in
    let q = subst (λ v. Quiet m v) (sym cut.2.2) (called_quiet (Close known.held.0) shut m cut.2.0 tt cut.2.1) in
    others_trans name k m l (along_grows ds k m cut.1) (once_apart k m (due_open (due_is hub name known what e)) w sound o cut.1) (others_quiet name m l q)

-- a name

pub record Apart (name : List ℕ) (k : Kernel) (ss : List Standing) (l : Kernel) (rs : List Standing) : Type 0 where
  pub others : Others name k l
  pub rest : (s : Standing) → Has ss s → (s.name ≡ name → ⊥) → Has rs s
  pub files : Files l rs

-- the held file of a standing that is found
pub open_found : (name : List ℕ) (ss : List Standing) (known : Known) (k : Kernel) → standing_of name ss ≡ Some known → Files k ss → IsOpen k name known.held.0
open_found name ss known k e f =
    let at = found name ss known e in
    subst (λ (v : Known). IsOpen k name v.held.0) at.known (subst (λ v. IsOpen k v at.s.held.0) at.named (f at.s at.has))

-- the calls before a binding
pub record Opened_quiet (k l : Kernel) (rs : List Standing) : Type 0 where
  pub quiet : Quiet k l
  pub sound : IsKernel l
  pub files : Files l rs

opening_quiet : {name : List ℕ} {ss : List Standing} {ms : List Made} {es : List Entry} {rs : List Standing} (k l : Kernel) → Opening name ss ms es rs → IsKernel k → Files k ss → Along calls k ms l → Opened_quiet k l rs
opening_quiet {name} {ss} k l (Fresh e) sound f a = subst (λ v. Opened_quiet k v ss) (sym a) (record { quiet = quiet_refl k; sound = sound; files = f })
opening_quiet {name} {ss} k l (Lost known failed shut e) sound f a =
    let m = a.0 in
    let n = a.2.0 in
    let q = quiet_trans k m n (called_quiet (Ask_alive known.held.0) (told_at Probe.Gone failed) k m tt a.1) (called_quiet (Close known.held.0) shut m n tt a.2.1) in
    subst (λ v. Opened_quiet k v (without name ss)) (sym a.2.2) (record { quiet = q; sound = a.2.1.sound; files = tried_files n ss name Settled.Nobody (files_later k n ss (quiet_grows k n q) f) })

-- and with it
pub opening_bind : {name : List ℕ} {ss : List Standing} {ms : List Made} {es : List Entry} {rs : List Standing} (k l : Kernel) (ns : List Made) (r : Binding) → Opening name ss ms es rs → Way (binding_for name rs) ns r → IsKernel k → Files k ss → Along calls k (ms ++ ns) l → Opened_quiet k l rs × ((m : Kernel) × Along calls k ms m × (Quiet m l × SaysBy (ParentsBy (parent_standing name rs)) name m l r))
opening_bind {name} {ms = ms} {rs = rs} k l ns r opening way sound f a =
    let cut = along_split calls ms ns k l a in
    let o = opening_quiet k cut.0 opening sound f cut.1 in
    let law = for_law name (parent_standing name rs) r cut.0 l o.sound (kept_at cut.0 name rs o.files) (way_runs calls (binding_for name rs) ns cut.0 r l way cut.2) in
    (record { quiet = quiet_trans k cut.0 l o.quiet law.quiet; sound = law.sound; files = files_later cut.0 l rs (quiet_grows cut.0 l law.quiet) o.files }, (cut.0, cut.1, (law.quiet, law.says)))

flat_apart : {hub : Option Write} {binds : Bool} {given : List Standing → Bound → Standing → Type 0} {name : List ℕ} {ss : List Standing} {ok : Bool} {ms : List Made} {rest : List Entry} {how : Settled} {rs : List Standing} {o : Option (List Standing × Bound)} (k l : Kernel) → IsKernel k → Files k ss → Flat hub binds given name ss ok ms rest how rs o → Along calls k ms l → Others name k l × Files l rs
flat_apart {name = name} {ss = ss} k l sound f (Unprobed known failed at) a =
    let how = Settled.Fault failed in
    let q = subst (λ v. Quiet k v) (sym a.2) (called_quiet (Ask_alive known.held.0) (told_at Probe.Failed failed) k a.0 tt a.1) in
    (others_quiet name k l q, tried_files l ss name how (files_later k l ss (quiet_grows k l q) f))
flat_apart {name = name} {ss = ss} k l sound f (Tried known on failed d ms es how at b) a =
    let q = called_quiet (Ask_alive known.held.0) (told_at (Probe.Alive on) failed) k a.0 tt a.1 in
    let g = quiet_grows k a.0 q in
    let o = open_later k a.0 name known.held.0 g (open_found name ss known k at f) in
    (others_trans name k a.0 l g (others_quiet name k a.0 q) (treated_apart a.0 l b a.1.sound o a.2), tried_files l (did_default name d ss) name how (did_files l ss name d (files_later a.0 l ss (along_grows ms a.0 l a.2) (files_later k a.0 ss g f))))
flat_apart {name = name} k l sound f (Stopped ms es rs b opening) a =
    let o = opening_quiet k l opening sound f a in
    (others_quiet name k l o.quiet, o.files)
flat_apart {name = name} k l sound f (Unbound ms ns es fs rs r how t opening way end) a =
    let o = (opening_bind k l ns r opening way sound f a).0 in
    (others_quiet name k l o.quiet, o.files)
flat_apart {name = name} k l sound f (No_place ms ns es rs b shut t opening way) a =
    let last : List Made = made_with (Close b.held.0) shut ∷ [] in
    let cut = along_split calls (ms ++ ns) last k l (subst (λ v. Along calls k v l) (sym (append_assoc ms ns last)) a) in
    let o = (opening_bind k cut.0 ns (Binding.Bound b) opening way sound f cut.1).0 in
    let q = subst (λ v. Quiet cut.0 v) (sym cut.2.2) (called_quiet (Close b.held.0) shut cut.0 cut.2.0 tt cut.2.1) in
    (others_quiet name k l (quiet_trans k cut.0 l o.quiet q), files_later cut.0 l rs (quiet_grows cut.0 l q) o.files)
flat_apart {name = name} k l sound f (Judged_so ms ns os es fs rs b x d how t opening way given new brought) a =
    let cut = along_split calls (ms ++ ns) os k l (subst (λ v. Along calls k v l) (sym (append_assoc ms ns os)) a) in
    let m = cut.0 in
    let h = opening_bind k m ns (Binding.Bound b) opening way sound f cut.1 in
    let o = h.0 in
    let says = h.1.2.1 in
    let opened_now : IsOpen m name x.held.0 = subst (λ v. IsOpen m name v.0) (sym new.held) (record { i = says.i; d = says.d; file = says.file; device = says.device; named = says.named }) in
    let g = along_grows os m l cut.2 in (
      others_trans name k m l (quiet_grows k m o.quiet) (others_quiet name k m o.quiet) (treated_apart m l brought o.sound opened_now cut.2),
      tried_files l (did_default name d (with_standing x rs)) name how (did_files l (with_standing x rs) name d (with_files l rs x (files_later m l rs g o.files) (subst (λ v. IsOpen l v x.held.0) (sym new.named) (open_later m l name x.held.0 g opened_now)))),
    )

pub piece_apart : {J : Type 0} {answer : Answers J} {later : Laters J} {binds : Bool} {terms : Terms}
    {name : List ℕ} {how : Settled} {ok : Bool} {ms : List Made} {k l : Kernel} {w v : State J}
    → IsKernel k → Files k w.standings → Piece answer later binds terms name w ok ms how v
    → Along calls k ms l → Apart name k w.standings l v.standings
piece_apart {name = name} {k = k} {l = l} {w = w} {v = v} sound f p a =
    let x = flat_apart k l sound f p.flat a in
    record { others = x.0; rest = λ s. others_have name w.standings v.standings s (sym (flat_rest p.flat)); files = x.1 }

-- Settling a name brings its live device to its verdict, or tells the name.

-- no write to the default of the standing's device is due
abbrev pub IsDefaultedIf : Option Write → Standing → Type 0
IsDefaultedIf hub s = default_due hub s.name (known_of s) ≡ None

-- the device has a standing and the value that its verdict wants; where it is rejected it is marked as removed; and no write to its
-- default is due
pub record StandsSo (hub : Option Write) (k : Kernel) (ss : List Standing) (i : ℕ) : Type 0 where
  pub standing : HasStanding k ss i
  pub d : Device
  pub device : slice_get k.devices i ≡ Some d
  pub value : d.on ≡ wants standing.s.verdict
  pub removed : IsRemovedIf standing.s
  pub default : IsDefaultedIf hub standing.s

-- a standing whose device has the value that its verdict wants
pub as_judged : (hub : Option Write) (l : Kernel) (ss : List Standing) (i : ℕ) (held : Held) (verdict : Target) (s : Standing) → Has ss s → s.held ≡ held → s.verdict ≡ verdict → IsFileOf l held.0 i → Value l i (wants verdict) → IsRemovedIf s → IsDefaultedIf hub s → StandsSo hub l ss i
as_judged hub l ss i held verdict s a e f file v removed default = record {
  standing = record { s = s; has = a; file = subst (λ (x : Held). IsFileOf l x.0 i) (sym e) file };
  d = v.0;
  device = v.1;
  value = v.2 ∙ ap wants (sym f);
  removed = removed;
  default = default;
}

-- the writes

-- what is live later wasn't gone
dead_no : (held i : ℕ) (control : Control) (k l : Kernel) (name : List ℕ) (d : Device) → IsHeldAs k held i control → IsGoneAt held k → Grows k l → slice_get k.devices i ≡ Some d → LiveAs l i name → ⊥
dead_no held i control k l name d of gone g at live = gone i d (record { file = record { device = i; control = control }; at = of; is = refl; device = at }) (live_before k l i d live.d g at live.live).0

-- the held file of a device that is live later
open_of : (k l : Kernel) (i held : ℕ) (on : Bool) (name : List ℕ) → Grows k l → LiveAs l i name → IsFileOf k held i → Value k i on → IsOpen k name held
open_of k l i held on name g live file v =
    let x = g.devices i v.0 v.1 in
    let same : x.0 ≡ live.d = some_same (slice_get l.devices i) x.0 live.d x.1 live.live.at in
    record { i = i; d = v.0; file = file; device = v.1; named = sym x.2.name ∙ ap (λ (d : Device). d.name) same ∙ live.named }

-- it stands with that value, or the name is told
abbrev pub Ends : Kernel → Settled → ℕ → List ℕ → Bool → Type 0
Ends l how i name on = ((how ≡ Settled.Stands) × Value l i on) ⊎ IsNamed (unsettled_by name how) name

-- where the file's device is live at the end
valued_own : {name : List ℕ} {known : Known} {on : Bool} {ms : List Made} {es : List Entry} {how : Settled} (i : ℕ) (k l : Kernel) → Valued name known on ms es how → LiveAs l i name → IsFileOf k known.held.0 i → Value k i on → Along calls k ms l → Ends l how i name (wants known.verdict)
valued_own {on = on} i k l (Same e) live file v a = inl (refl, subst (λ b. Value l i b) (sym e) (subst (λ x. Value x i on) (sym a) v))
valued_own {known = known} i k l (Set t es how e (Done failed)) live file v a = inl (refl, subst (λ x. Value x i (wants known.verdict)) (sym a.2) (done_value known.held.0 i known.verdict failed k a.0 file a.1))
valued_own {name} {known} i k l (Set t es how e (Went failed)) live file v a =
    let g = called_grows (Put known.held.0 (write_of known.verdict)) (told_at Wrote.Gone failed) k a.0 a.1 in
    absurd (gone_no a.0 known.held.0 i name a.1.says (file_later k a.0 known.held.0 i g file) (subst (λ x. LiveAs x i name) a.2 live))
valued_own i k l (Set t es how e (Broke failed)) live file v a = inr (Fault.Call failed, inl refl)

unheld_own : (control : Control) {name : List ℕ} {number : ℕ} {r : RemoveHold} {es : List Entry} {how : Settled} (held i : ℕ) (on : Bool) (k l : Kernel) → Unheld name number r es how → LiveAs l i name → IsFileOf k held i → Value k i on → Grows k l → HoldSays control held i k r → Ends l how i name on
unheld_own control {name} held i on k l Gone_by live file v g says = absurd (dead_no held i Authorized k l name v.0 file says g v.1 live)
unheld_own control held i on k l (Failed_by failed) live file v g says = inr (Fault.Call failed, inl refl)
unheld_own control held i on k l Short_by live file v g says = inr (Fault.Memory, inl refl)

put_own : {what : Write} {name : List ℕ} {number : ℕ} {t : ToldAnswer Wrote} {es : List Entry} {how : Settled} (i file : ℕ) (on : Bool) (shut : Closing) (k x l : Kernel) → IsOnce (control_of what) → Written name number what t es how → LiveAs l i name → IsHeldAs k file i (control_of what) → Value k i on → Called (Put file what) t k x → Called (Close file) shut x l → Ends l how i name on
put_own {what} i file on shut k x l once (Done failed) live of v c d = inl (refl, quiet_value x l i on (called_quiet (Close file) shut x l tt d) (once_leaves what file i on failed k x once of c v))
put_own {what} {name} i file on shut k x l once (Went failed) live of v c d =
    let g = called_grows (Put file what) (told_at Wrote.Gone failed) k x c in
    let e = g.devices i v.0 v.1 in
    absurd (dead_no file i (control_of what) x l name e.0 (g.held file (record { device = i; control = control_of what }) of) c.says (called_grows (Close file) shut x l d) e.1 live)
put_own i file on shut k x l once (Broke failed) live of v c d = inr (Fault.Call failed, inl refl)

-- the second file is the device's
hold_own : (control : Control) (name : List ℕ) (held i : ℕ) (on : Bool) (r : RemoveHold) (ms : List Made) (k m l : Kernel) → Way (holding control name held) ms r → IsKernel k → IsOpenable control name → LiveAs l i name → IsFileOf k held i → Value k i on → Along calls k ms m → Grows m l → IsFileOf m held i × (Value m i on × HoldSays control held i m r)
hold_own control name held i on r ms k m l way sound can live file v a g =
    let x = hold_open control name held r k m sound can (open_of k l i held on name (grows_trans k m l (along_grows ms k m a) g) live file v) (way_runs calls (holding control name held) ms k r m way a) in
    let later = file_later k m held i (quiet_grows k m x.0) file in
    let is : x.1.0.i ≡ i = file_same m held x.1.0.i i x.1.0.file later in
    (later, (quiet_value k m i on x.0 v, subst (λ (j : ℕ). HoldSays control held j m r) is x.1.1))

once_own : {what : Write} {name : List ℕ} {known : Known} {ms : List Made} {es : List Entry} {how : Settled} (i : ℕ) (on : Bool) (k l : Kernel) → IsOnce (control_of what) → IsOpenable (control_of what) name → OnceMade name known what ms es how → IsKernel k → LiveAs l i name → IsFileOf k known.held.0 i → Value k i on → Along calls k ms l → Ends l how i name on
once_own {what} {name} {known} i on k l once can (Not_held ms r es how way u) sound live file v a =
    let x = hold_own (control_of what) name known.held.0 i on r ms k l l way sound can live file v a (grows_refl l) in
    unheld_own (control_of what) known.held.0 i on l l u live x.0 x.1.0 (grows_refl l) x.1.1
once_own {what} {name} {known} i on k l once can (Put_on ms file t shut es how way w) sound live own v a =
    let cut = along_split calls ms (made_with (Put file.0 what) t ∷ made_with (Close file.0) shut ∷ []) k l a in
    let m = cut.0 in
    let x = hold_own (control_of what) name known.held.0 i on (RemoveHold.Ready file) ms k m l way sound can live own v cut.1 (along_grows (made_with (Put file.0 what) t ∷ made_with (Close file.0) shut ∷ []) m l cut.2) in
    put_own i file.0 on shut m cut.2.0 l once w live x.1.1 x.1.0 cut.2.1 (subst (λ y. Called (Close file.0) shut cut.2.0 y) (sym cut.2.2.2) cut.2.2.1)

-- a device that is live at the end was so before
live_mid : (k m l : Kernel) (i held : ℕ) (on : Bool) (name : List ℕ) → Grows k m → Grows m l → LiveAs l i name → IsFileOf k held i → Value k i on → LiveAs m i name
live_mid k m l i held on name g j live file at =
    let o = open_of k l i held on name (grows_trans k m l g j) live file at in
    let x = g.devices i at.0 at.1 in
    record { d = x.0; live = (live_before m l i x.0 live.d j x.1 live.live).0; named = x.2.name ∙ open_name k name held i at.0 o at.1 file }

carried_own : {name : List ℕ} {known : Known} {on : Bool} {ms : List Made} {es : List Entry} {how : Settled} (i : ℕ) (k l : Kernel) → Carried name known on ms es how → IsKernel k → LiveAs l i name → IsFileOf k known.held.0 i → Value k i on → Along calls k ms l → Ends l how i name (wants known.verdict)
carried_own i k l (By_value ms es how v f) sound live file at a = valued_own i k l v live file at a
carried_own {name} {known} {on} i k l (And_removal ms ns es fs how go v r) sound live file at a =
    let cut = along_split calls ms ns k l a in
    let m = cut.0 in
    let g = along_grows ms k m cut.1 in
    let j = along_grows ns m l cut.2 in
    elim (valued_own i k m v (live_mid k m l i known.held.0 on name g j live file at) file at cut.1) [
      | inl h ↦ once_own i (wants known.verdict) m l tt tt r (along_sound ms k m sound cut.1) live (file_later k m known.held.0 i g file) h.1 cut.2
      | inr none ↦ absurd none.1
    ]

pub brought_own : {name : List ℕ} {known : Known} {on : Bool} {ms : List Made} {es : List Entry} {how : Settled} (i : ℕ) (k l : Kernel) → Brought name known on ms es how → IsKernel k → LiveAs l i name → IsFileOf k known.held.0 i → Value k i on → Along calls k ms l → Ends l how i name (wants known.verdict)
brought_own i k l (Left_open ms es how c n) sound live file at a = carried_own i k l c sound live file at a
brought_own {name} {known} {on} i k l (Let_go ms es shut c) sound live file at a =
    let last : List Made = made_with (Close known.held.0) shut ∷ [] in
    let cut = along_split calls ms last k l a in
    let m = cut.0 in
    let mid = live_mid k m l i known.held.0 on name (along_grows ms k m cut.1) (along_grows last m l cut.2) live file at in
    elim (carried_own i k m c sound mid file at cut.1) [
      | inl h ↦ let e = h.0 in absurd (let none : ⊥ = cc in none)
      | inr n ↦ inr n
    ]

pub treated_own : {hub : Option Write} {name : List ℕ} {known : Known} {on d : Bool} {ms : List Made} {es : List Entry} {how : Settled} (i : ℕ) (k l : Kernel) → Treated hub name known on d ms es how → IsKernel k → LiveAs l i name → IsFileOf k known.held.0 i → Value k i on → Along calls k ms l → Ends l how i name (wants known.verdict)
treated_own i k l (No_default ms es how e b) sound live file at a = brought_own i k l b sound live file at a
treated_own {hub} {name} {known} {on} i k l (And_default what ds ms fs es how e w b) sound live file at a =
    let cut = along_split calls ds ms k l a in
    let m = cut.0 in
    let g = along_grows ds k m cut.1 in
    let mid = live_mid k m l i known.held.0 on name g (along_grows ms m l cut.2) live file at in
    elim (once_own i on k m (due_once (due_is hub name known what e)) (due_open (due_is hub name known what e)) w sound mid file at cut.1) [
      | inl h ↦ brought_own i m l b (along_sound ds k m sound cut.1) live (file_later k m known.held.0 i g file) h.1 cut.2
      | inr none ↦ absurd none.1
    ]
treated_own {hub} {name} {known} {on} i k l (Cut_default what ds fs how e w c) sound live file at a =
    elim (once_own i on k l (due_once (due_is hub name known what e)) (due_open (due_is hub name known what e)) w sound live file at a) [
      | inl h ↦ absurd (c.0 h.0)
      | inr n ↦ inr n
    ]
treated_own {hub} {name} {known} {on} i k l (Gone_default what ds fs shut e w) sound live file at a =
    let last : List Made = made_with (Close known.held.0) shut ∷ [] in
    let cut = along_split calls ds last k l a in
    let m = cut.0 in
    let mid = live_mid k m l i known.held.0 on name (along_grows ds k m cut.1) (along_grows last m l cut.2) live file at in
    elim (once_own i on k m (due_once (due_is hub name known what e)) (due_open (due_is hub name known what e)) w sound mid file at cut.1) [
      | inl h ↦ let e = h.0 in absurd (let none : ⊥ = cc in none)
      | inr n ↦ inr n
    ]

-- a standing that is marked where its default was written
pub as_due : (hub : Option Write) (d : Bool) (s : Standing) (name : List ℕ) (known : Known) → s.name ≡ name → known_of s ≡ known → default_due hub name (known_as d known) ≡ None → IsDefaultedIf hub (default_as d s)
as_due hub true s name known n e h = ap (λ (v : List ℕ). default_due hub v (defaulted_known (known_of s))) n ∙ ap (λ (v : Known). default_due hub name (defaulted_known v)) e ∙ h
as_due hub false s name known n e h = ap (λ (v : List ℕ). default_due hub v (known_of s)) n ∙ ap (λ (v : Known). default_due hub name v) e ∙ h

as_held : (d : Bool) (s : Standing) → (default_as d s).held ≡ s.held
as_held true s = refl
as_held false s = refl

as_verdict : (d : Bool) (s : Standing) → (default_as d s).verdict ≡ s.verdict
as_verdict true s = refl
as_verdict false s = refl

pub as_number : (d : Bool) (s : Standing) → (default_as d s).number ≡ s.number
as_number true s = refl
as_number false s = refl

pub as_removed : (d : Bool) (s : Standing) → (default_as d s).removed ≡ s.removed
as_removed true s = refl
as_removed false s = refl

as_name : (d : Bool) (s : Standing) → (default_as d s).name ≡ s.name
as_name true s = refl
as_name false s = refl

-- a name

-- the probe of a known name's held file speaks of its live device
probed_own : (name : List ℕ) (held i : ℕ) (on : Bool) (failed : FailedCall) (k m : Kernel) → IsKernel k → IsOpen k name held → LiveAs k i name → Called (Ask_alive held) (told_at (Probe.Alive on) failed) k m → IsFileOf m held i × Value m i on
probed_own name held i on failed k m sound o first c =
    let x = alive_open k name held on o c.says in
    let is = live_same k x.0 i name sound x.2 first in
    let q = called_quiet (Ask_alive held) (told_at (Probe.Alive on) failed) k m tt c in
    (file_later k m held i (quiet_grows k m q) (subst (λ j. IsFileOf k held j) is x.1), quiet_value k m i on q (subst (λ j. Value k j on) is x.3))

-- it stands so, or the name is told; or no binding was tried, and no standing of the name is left
abbrev pub Ended : Option Write → Bool → Kernel → List Standing → List Entry → ℕ → List ℕ → Type 0
Ended hub binds l rs rest i name = (StandsSo hub l rs i ⊎ IsNamed rest name) ⊎ ((binds ≡ false) × (Has (names_of rs) name → ⊥))

unbound_own : (Parents : Kernel → Option ℕ → Option Attrs → Type 0) {name : List ℕ} {r : Binding} {es : List Entry} {how : Settled} (k m : Kernel) (i : ℕ) → Unbound_end name r es how → SaysBy Parents name k m r → LiveAs k i name → LiveAs m i name → IsNamed es name
unbound_own Parents k m i (Failed_so failed) says first mid = (Fault.Call failed, inl refl)
unbound_own Parents k m i Short_so says first mid = (Fault.Memory, inl refl)
unbound_own Parents {name} k m i x says first mid = absurd
    (says i first.d (lived k m i name first mid) first.named)

-- behind the entries of an opening
named_later : (es fs : List Entry) (name : List ℕ) → IsNamed fs name → IsNamed (es ++ fs) name
named_later es fs name n = (n.0, has_right es fs (Entry.Unsettled name n.0) n.1)

flat_own : {hub : Option Write} {binds : Bool} {given : List Standing → Bound → Standing → Type 0} {name : List ℕ} {ss : List Standing} {ok : Bool} {ms : List Made} {rest : List Entry} {how : Settled} {rs : List Standing} {o : Option (List Standing × Bound)} (i : ℕ) (k l : Kernel) → IsKernel k → Files k ss → LiveAs k i name → LiveAs l i name → Flat hub binds given name ss ok ms rest how rs o → Along calls k ms l → Ended hub binds l rs rest i name
flat_own i k l sound f first live (Unprobed known failed at) a = inl (inr (Fault.Call failed, inl refl))
flat_own {hub} {name = name} {ss = ss} i k l sound f first live (Tried known on failed d ms es how at b) a =
    let s = found name ss known at in
    let x = probed_own name known.held.0 i on failed k a.0 sound (open_found name ss known k at f) first a.1 in
    inl (elim (treated_own i a.0 l b a.1.sound live x.0 x.1 a.2) [
      | inl h ↦
          let z = default_as d s.s in
          let t = tried_new (did_default name d ss) name how z h.0 (as_name d s.s ∙ s.named) (did_has name d ss s.s s.named s.has) in
          let due = as_due hub d s.s name known s.named s.known (treated_done b h.0) in
          inl (as_judged hub l (tried_standings (did_default name d ss) name how) i known.held known.verdict t.0 t.1 (t.2 ∙ as_held d s.s ∙ ap (λ (v : Known). v.held) s.known) (t.3 ∙ as_verdict d s.s ∙ ap (λ (v : Known). v.verdict) s.known) (file_later a.0 l known.held.0 i (along_grows ms a.0 l a.2) x.0) h.1 t.4 (t.5 hub due))
      | inr n ↦ inr (named_later es (unsettled_by name how) name n)
    ])
flat_own i k l sound f first live (Stopped ms es rs b opening) a = inr (b, opening_absent opening)
flat_own {name = name} i k l sound f first live (Unbound ms ns es fs rs r how t opening way end) a =
    let h = opening_bind k l ns r opening way sound f a in
    let cut = along_split calls ms ns k l a in
    let mid = lives_between k cut.0 l i name (along_grows ms k cut.0 cut.1) (along_grows ns cut.0 l cut.2) first live in
    let start = lives_between k h.1.0 l i name (along_grows ms k h.1.0 h.1.1) (quiet_grows h.1.0 l h.1.2.0) first live in
    inl (inr (named_later es fs name (unbound_own (ParentsBy (parent_standing name rs)) h.1.0 l i end h.1.2.1 start live)))
flat_own {name = name} i k l sound f first live (No_place ms ns es rs b shut t opening way) a = inl (inr (named_later es (Entry.Unsettled name Fault.Memory ∷ []) name (Fault.Memory, inl refl)))
flat_own {hub} {name = name} i k l sound f first live (Judged_so ms ns os es fs rs b x d how t opening way given new brought) a =
    let cut = along_split calls (ms ++ ns) os k l (subst (λ v. Along calls k v l) (sym (append_assoc ms ns os)) a) in
    let m = cut.0 in
    let h = opening_bind k m ns (Binding.Bound b) opening way sound f cut.1 in
    let n = h.1.0 in
    let says = h.1.2.1 in
    let g = along_grows os m l cut.2 in
    let mid = lives_between k m l i name (quiet_grows k m h.0.quiet) g first live in
    let start = lives_between k n m i name (along_grows ms k n h.1.1) (quiet_grows n m h.1.2.0) first mid in
    let is : says.i ≡ i = sym (says.only i start.d (lived n m i name start mid) start.named) in
    let file : IsFileOf m x.held.0 i = subst (λ (v : Held). IsFileOf m v.0 i) (sym new.held) (subst (λ j. IsFileOf m b.held.0 j) is says.file) in
    inl (elim (treated_own i m l brought h.0.sound live file (subst (λ j. Value m j b.on) is (says.d, says.device, says.value)) cut.2) [
      | inl y ↦
          let z = default_as d x in
          let ws = did_default name d (with_standing x rs) in
          let u = tried_new ws name how z y.0 (as_name d x ∙ new.named) (did_has name d (with_standing x rs) x new.named (has_new rs (place_for x.name rs) x)) in
          let due = as_due hub d x name (known_of x) new.named refl (treated_done brought y.0) in
          inl (as_judged hub l (tried_standings ws name how) i x.held x.verdict u.0 u.1 (u.2 ∙ as_held d x) (u.3 ∙ as_verdict d x) (file_later m l x.held.0 i g file) y.1 u.4 (u.5 hub due))
      | inr y ↦ let z = named_later fs (unsettled_by name how) name y in inr (named_later es (Entry.Judged x.number name x.held x.verdict x.cause ∷ (fs ++ unsettled_by name how)) name (z.0, inr z.1))
    ])

-- Each device that lived through a sweep is as judged, or its name is told, or it has no standing and the failed listing is told.

-- it stands so, or nothing is bound and it has no standing
abbrev pub Well : Option Write → Bool → Kernel → List Standing → ℕ → Type 0
Well hub binds l ss i = StandsSo hub l ss i ⊎ ((binds ≡ false) × (HasStanding l ss i → ⊥))

-- no standing of its name, no standing
pub none_stands : (k : Kernel) (ss : List Standing) (i : ℕ) (name : List ℕ) → Files k ss → LiveAs k i name → (Has (names_of ss) name → ⊥) → HasStanding k ss i → ⊥
none_stands k ss i name f live none h = none (subst (λ v. Has (names_of ss) v) (open_named k h.s.name name h.s.held.0 i (f h.s h.has) h.file live) (has_map (λ (v : Standing). v.name) ss h.s h.has))

-- a standing that was there had the same device
stood : (k l : Kernel) (ss rs : List Standing) (i : ℕ) → Files k ss → Grows k l → ((s : Standing) → Has rs s → Was ss s) → HasStanding l rs i → HasStanding k ss i
stood k l ss rs i f g was h =
    let t = was h.s h.has in
    let o = f t.0 t.1 in
    let later = subst (λ v. IsFileOf l v.0 o.i) t.3 (file_later k l t.0.held.0 o.i g o.file) in
    let is : o.i ≡ i = file_same l h.s.held.0 o.i i later h.file in
    record { s = t.0; has = t.1; file = subst (λ j. IsFileOf k t.0.held.0 j) is o.file }

pub piece_well : {J : Type 0} {answer : Answers J} {later : Laters J} {binds : Bool} {terms : Terms}
    {name : List ℕ} {how : Settled} {ok : Bool} {ms : List Made} {k l : Kernel} {w v : State J}
    (i : ℕ) → IsKernel k → Files k w.standings → LiveAs k i name → LiveAs l i name
    → (p : Piece answer later binds terms name w ok ms how v) → Along calls k ms l
    → Well terms.hub binds l v.standings i ⊎ IsNamed p.rest name
piece_well {name = name} {l = l} {v = v} i sound f first live p a =
    elim (flat_own i _ l sound f first live p.flat a) [
      | inl (inl s) ↦ inl (inl s)
      | inl (inr n) ↦ inr n
      | inr h ↦ inl (inr (h.0, none_stands l v.standings i name (piece_apart sound f p a).files live h.1))
    ]

-- each standing was there before

did_tried_was : (ss : List Standing) (name : List ℕ) (d : Bool) (how : Settled) (s : Standing) → Has (tried_standings (did_default name d ss) name how) s → Was ss s
did_tried_was ss name d how s a =
    let t = tried_was (did_default name d ss) name how s a in
    let u = did_was ss name d t.0 t.1 in
    (u.0, u.1, u.2 ∙ t.2, u.3 ∙ t.3)

flat_was : {hub : Option Write} {binds : Bool} {given : List Standing → Bound → Standing → Type 0} {name : List ℕ} {ss : List Standing} {ok : Bool} {ms : List Made} {rest : List Entry} {how : Settled} {rs : List Standing} {o : Option (List Standing × Bound)} → binds ≡ false → Flat hub binds given name ss ok ms rest how rs o → (s : Standing) → Has rs s → Was ss s
flat_was {name = name} {ss = ss} f (Unprobed known failed at) s a = tried_was ss name (Settled.Fault failed) s a
flat_was {name = name} {ss = ss} f (Tried known on failed d ms es how at b) s a = did_tried_was ss name d how s a
flat_was f (Stopped ms es rs g opening) s a = (s, opening_less opening s a, refl, refl)
flat_was f (Unbound ms ns es fs rs r how t opening way end) s a = let none : ⊥ = cc in absurd none
flat_was f (No_place ms ns es rs b shut t opening way) s a = let none : ⊥ = cc in absurd none
flat_was f (Judged_so ms ns os es fs rs b x d how t opening way given new brought) s a = let none : ⊥ = cc in absurd none

-- another name leaves it so

well_apart : (hub : Option Write) (binds : Bool) (other name : List ℕ) (i : ℕ) (k : Kernel) (ss : List Standing) (l : Kernel) (rs : List Standing) → (other ≡ name → ⊥) → Files k ss → LiveAs k i name → Grows k l → Apart other k ss l rs → (binds ≡ false → HasStanding l rs i → HasStanding k ss i) → Well hub binds k ss i → Well hub binds l rs i
well_apart hub binds other name i k ss l rs ne f live g apart back (inl e) =
    let s = e.standing.s in
    let named = open_named k s.name name s.held.0 i (f s e.standing.has) e.standing.file live in
    let value = apart.others i (wants s.verdict) live.d live.live.at (λ x. ne (sym x ∙ live.named)) (e.d, e.device, e.value) in
    inl (as_judged hub l rs i s.held s.verdict s (apart.rest s e.standing.has (λ x. ne (sym x ∙ named))) refl refl (file_later k l s.held.0 i g e.standing.file) value e.removed e.default)
well_apart hub binds other name i k ss l rs ne f live g apart back (inr h) = inr (h.0, λ a. h.1 (back h.0 a))

-- one name of a list: it is the device's, or another's
step : (P Q : Type 0) (n name : List ℕ) (names : List (List ℕ)) (b : Bool) → same_name n name ≡ b → (n ≡ name → Q) → ((n ≡ name → ⊥) → P → Q) → Has (n ∷ names) name ⊎ P → Has names name ⊎ Q
step P Q n name names true e own other c = inr (own (same_is n name e))
step P Q n name names false e own other (inl (inl is)) = let same = is_same n name is in absurd (let none : ⊥ = cc in none)
step P Q n name names false e own other (inl (inr h)) = inl h
step P Q n name names false e own other (inr p) = inr (other (λ is. let same = is_same n name is in let none : ⊥ = cc in none) p)

-- the names

pub chain_well : {J : Type 0} {answer : Answers J} {later : Laters J} {binds : Bool} {terms : Terms}
    {names : List (List ℕ)} {k l : Kernel} {w v : State J} {ok : Bool} {ms : List Made}
    {added : List Entry} (name : List ℕ) (i : ℕ) → IsKernel k → Files k w.standings
    → LiveAs k i name → LiveAs l i name → Has names name ⊎ Well terms.hub binds k w.standings i
    → Chain answer later binds terms names w ok ms added v → Along calls k ms l
    → Well terms.hub binds l v.standings i ⊎ IsNamed added name
chain_well name i sound f first live (inl c) (Over w) b = absurd c
chain_well {binds = binds} {terms = terms} name i sound f first live (inr c) (Over w) b =
    inl (subst (λ (m : Kernel). Well terms.hub binds m w.standings i) (sym b) c)
chain_well {binds = binds} {terms = terms} {k = k} {l = l} {v = v} name i sound f first live c
    (First n names how w x _ ok more ms ns added p rest) b =
    let cut = along_split calls ms ns k l b in
    let u = cut.0 in
    let g = along_grows ms k u cut.1 in
    let mid = lives_between k u l i name g (along_grows ns u l cut.2) first live in
    let apart = piece_apart sound f p cut.1 in
    let after : List ℕ → Type 0 = λ y. Well terms.hub binds u x.standings i ⊎ IsNamed p.rest y in
    let own : n ≡ name → after name = λ e.
    subst (λ (y : List ℕ). LiveAs k i y → LiveAs u i y → after y) e
    (λ y z. piece_well i sound f y z p cut.1) first mid in
    let on : Has names name ⊎ Well terms.hub binds u x.standings i
    → Well terms.hub binds l v.standings i ⊎ IsNamed (p.rest ++ added) name = λ d.
    elim (chain_well name i (along_sound ms k u sound cut.1) apart.files mid live d rest cut.2) [
      | inl y ↦ inl y
      | inr y ↦ inr (named_later p.rest added name y)
    ] in
    elim (step (Well terms.hub binds k w.standings i) (after name) n name names (same_name n name) refl own
    (λ ne h. inl (well_apart terms.hub binds n name i k w.standings u x.standings ne f first g apart
    (λ e. stood k u w.standings x.standings i f g (flat_was e p.flat)) h)) c) [
      | inl h ↦ on (inl h)
      | inr (inl h) ↦ on (inr h)
      | inr (inr t) ↦ inr (t.0, has_left p.rest added (Entry.Unsettled name t.0) t.1)
    ]

-- what is said of a device at the end of a sweep
abbrev EndsSo : Option Write → Kernel → List Standing → List Entry → ℕ → List ℕ → Type 0
EndsSo hub l ss rest i name = StandsSo hub l ss i ⊎
    (IsNamed rest name ⊎ (((why : Fault) × Has rest (Entry.UnsettledAll why)) ×
    (HasStanding l ss i → ⊥)))

begins : (hub : Option Write) (name : List ℕ) (i : ℕ) (k : Kernel) (ss : List Standing) (known : Option Known) → standing_of name ss ≡ known → Files k ss → LiveAs k i name → Has (names_of ss) name ⊎ Well hub false k ss i
begins hub name i k ss None e f live = inr (inr (refl, none_stands k ss i name f live (missing name ss e)))
begins hub name i k ss (Some known) e f live = inl (known_has name ss known e)

-- the whole sweep

goes_ended : {J : Type 0} {answer : Answers J} {later : Laters J} {k l : Kernel} {w v : State J}
    {ok : Bool} {ms : List Made} {es : List Entry} (i : ℕ) (name : List ℕ) → Files k w.standings
    → LiveAs k i name → LiveAs l i name → Goes answer later w ok ms es v → Along calls k ms l
    → EndsSo w.hub l v.standings es i name
goes_ended {k = k} {l = l} {w = w} i name f first live
    (Listed found failed ok shut made es _ closings chain) b =
    let names = in_sweep_order found in
    let m = b.0 in
    let cut = along_split calls shut made m l b.2 in
    let u = cut.0 in
    let q = closings_quiet (unlisted_files names w.standings) shut m u b.1.sound closings cut.1 in
    let h = called_grows Names (told_at (Listing.Names found) failed) k m b.1 in
    let j = quiet_grows m u q.1 in
    let late = lives_between k u l i name (grows_trans k m u h j) (along_grows made u l cut.2) first
    live in
    let has : Has names name = to_sweep_order found name
    (subst (λ (n : List ℕ). Has found n) first.named
    (b.1.says.0 i first.d (lived k m i name first (lives_between k m u i name h j first late)))) in
    let files = files_later k u w.standings (grows_trans k m u h j) f in
    elim (chain_well name i q.0
    (λ s a. files s (filter_has (λ (v : Standing). lists names v.name) w.standings s a).0) late live
    (inl has) chain cut.2) [
      | inl (inl so) ↦ inl so
      | inl (inr g) ↦ absurd (true≢false g.0)
      | inr n ↦ inr (inl (named_later (farewells names w.standings) es name n))
    ]
goes_ended {k = k} {l = l} {w = w} i name f first live
    (Unlisted list failed room why ok made added _ by chain) b =
    let m = b.0 in
    let h = called_grows Names (told_at list failed) k m b.1 in
    let files = files_later k m w.standings h f in
    let mid = lives_between k m l i name h (along_grows made m l b.2) first live in
    elim (chain_well name i b.1.sound files mid live
    (begins w.hub name i m w.standings (standing_of name w.standings) refl files mid) chain b.2) [
      | inl (inl so) ↦ inl so
      | inl (inr g) ↦ inr (inr ((why, inl refl), g.1))
      | inr n ↦ inr (inl (n.0, inr n.1))
    ]

pub lives_first : (k l : Kernel) (i : ℕ) (d : Device) → Lived k.devices l.devices i d → LiveAs k i d.name
lives_first k l i d lives = record { d = d; live = lives.entry; named = refl }

pub lives_last : (k l : Kernel) (i : ℕ) (d : Device) → Grows k l → Lived k.devices l.devices i d → LiveAs l i d.name
lives_last k l i d g lives =
    let x = g.devices i d lives.entry.at in
    let same : x.0 ≡ lives.exit.0 = some_same (slice_get l.devices i) x.0 lives.exit.0 x.1 lives.exit.1.at in
    record { d = lives.exit.0; live = lives.exit.1; named = ap (λ (v : Device). v.name) (sym same) ∙ x.2.name }

pub stand_files : (k : Kernel) (ss : List Standing) (next : ℕ) → Stand k ss next → Files k ss
stand_files k ss next h s a = let x = h.devices s a in record { i = x.0; d = x.1.d; file = x.1.file; device = x.1.device; named = x.1.named }

-- what is marked as removed was removed

removes : (what : Write) → control_of what ≡ Remove → what ≡ Write.Remove
removes Write.Remove e = refl
removes x e = let none : ⊥ = cc in absurd none

-- what isn't due was written
due_none : (p : Option (List ℕ)) (b : Bool) (o : Option Write) (what : Write) → cond (is_none p && not b) o None ≡ None → p ≡ None → o ≡ Some what → b ≡ true
due_none None true o what h r e = refl
due_none None false o what h r e = let none : ⊥ = cc in absurd none
due_none (Some p) b o what h r e = let none : ⊥ = cc in absurd none

pub judged_at : (hub : Option Write) (l : Kernel) (ss : List Standing) (next i : ℕ) → Stand l ss next → StandsSo hub l ss i → IsAsJudged hub l ss i
judged_at hub l ss next i stand h = record {
  standing = h.standing;
  d = h.d;
  device = h.device;
  value = h.value;
  removal = λ e.
      let w = stand.done Remove h.standing.s h.standing.has (h.removed (ap is_reject e)) i h.standing.file in
      subst (λ (v : Write). Has l.log (record { device = i; write = v })) (removes w.0 w.1) w.2;
  marked = λ what root e. due_none (parent_of h.standing.s.name) h.standing.s.defaulted (default_write hub) what h.default root e;
  default = λ what root e.
      let s = h.standing.s in
      stand.done Default s h.standing.has (due_none (parent_of s.name) s.defaulted (default_write hub) what h.default root e) i h.standing.file;
}

-- whatever the entries that were added
pub sweeping_settled : {J : Type 0} (answer : Answers J) (later : Laters J) (w : State J) (k l : Kernel) (v : State J) (rest : List Entry) → Stand k w.standings w.next → Stand l v.standings v.next → Runs calls k (sweeping answer later w) v l → v.entries ≡ w.entries ++ rest → IsSettled w.hub k l v.standings rest
sweeping_settled answer later w k l v rest stand end r e i d lives =
    let x = sweeping_run calls answer later k w l v r in
    let last = lives_last k l i d (along_grows x.made k l x.along) lives in
    let files = stand_files k w.standings w.next stand in
    let same = cancel w.entries x.so.0 rest (sym (goes_entries x.so.1) ∙ e) in
    elim (subst (λ es. EndsSo w.hub l v.standings es i d.name) same
    (goes_ended i d.name files (lives_first k l i d lives) last x.so.1 x.along)) [
      | inl h ↦ inl (judged_at w.hub l v.standings v.next i end h)
      | inr h ↦ inr h
    ]
