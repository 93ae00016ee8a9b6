-- The order of the calls in a part, from its shapes.
use Rattle.std.proofs.Common.{◌≡◌, ℕ, Bool, true, false, List, [], ◌∷◌, ◌++◌, Option, Some, None, inl, inr, refl, sym, subst, append_assoc, append-nil}
use Rattle.ug_table.proofs.Common.{Authorized, Ask_alive, Bound, Binding, Close, Control, Entry, FailedCall, Fault, Held, Known, Made, Open, Probe, Put, Read, RemoveHold, Settled, Standing, Target, ToldAnswer, Write, Wrote, made_with, default_due, has_right, is_to_go, known_of, standing_of, unsettled_by, wants, write_of, parent_of, parent_standing, held_of, kept_file, binding_by, binding_of, Way}
use Rattle.ug_kernel.specs.declared.control.Attr.{Attr}
use Rattle.ug_kernel.specs.Calls.{Closing}
use Rattle.ug_kernel.specs.declared.calls.Opened.{Opened}
use Rattle.ug_kernel.specs.declared.calls.ReadOut.{ReadOut}
use Rattle.ug_kernel.proofs.BindShapes.{told, Holds_by, Not_there, Not_opened, No_memory, Held_on, Died, Unasked, way_binds, way_holds}
use Rattle.ug_table.specs.Done.{control_of}
use Rattle.ug_types.specs.declared.record.Attrs.{Attrs}
use Rattle.ug_kernel.specs.CallOrder.{Act, To_open, To_probe, To_write, To_close, act_of, leads_on, OnlyCloses, GoBy, GoByProbe, bind_acts, own_acts, parent_acts}
use Rattle.ug_kernel.specs.declared.files.OwnFiles.{OwnFiles}
use Rattle.ug_kernel.specs.declared.files.Stop.{Stop}
use Rattle.ug_kernel.proofs.CallOrders.{Behind_bound, binds_order, reads_go, stops_end}
use Rattle.ug_kernel.proofs.UnderShapes.{Under_by, Under_cut, Under_alive, Under_other, Probed_by, Found_alive, Found_gone, Found_none, Behind_by, Cut_behind, Read_behind, IsntAlive}
use Rattle.ug_table.proofs.Above.{OfParent, is_above, way_under}
use Rattle.ug_table.specs.PartOrder.{once_acts, default_acts, value_acts, removal_acts, verdict_acts, write_acts, told_known, GoByVerdict, GoBehindParent, GoByParent, GoByFiles, GoAsNew, GoWhereBound, GoInOrder}
use Rattle.ug_table.proofs.Shapes.{Written, Done, Valued, Same, Set, Unheld, Gone_by, Failed_by, Short_by, OnceMade, Not_held, Put_on, Carried, By_value, And_removal, Brought, Left_open, Let_go, Treated, No_default, And_default, Cut_default, Gone_default, Opening, Fresh, Lost, opening_kept, Unbound_end, Absent_so, Flat, Unprobed, Tried, Stopped, Unbound, No_place, Judged_so, told_at}

-- all of these acts were made, and each led on
abbrev pub AllLed : List Act → List Made → Type 0
AllLed [] ms = ms ≡ []
AllLed (act ∷ acts) [] = ⊥
AllLed (act ∷ acts) (m ∷ ms) = (act_of m.call ≡ act) × (leads_on m.call m.answer ≡ true) × AllLed acts ms

-- one of them was the last
abbrev pub CutShort : List Act → List Made → Type 0
CutShort acts ms = GoBy acts (λ rest. ⊥) ms

-- all led on where it stands, and else one was the last
abbrev pub Led : List Act → Settled → List Made → Type 0
Led acts Settled.Stands ms = AllLed acts ms
Led acts how ms = CutShort acts ms

closes_more : (ms ns : List Made) → OnlyCloses ms → OnlyCloses ns → OnlyCloses (ms ++ ns)
closes_more [] ns a b = b
closes_more (m ∷ ms) ns a b = (a.0, closes_more ms ns a.1 b)

led_then : (rest : List Made → Type 0) (acts : List Act) (ms ns : List Made) → AllLed acts ms → rest ns
    → GoBy acts rest (ms ++ ns)
led_then rest [] ms ns h r = subst (λ (v : List Made). rest (v ++ ns)) (sym h) r
led_then rest (act ∷ acts) [] ns h r = absurd h
led_then rest (act ∷ acts) (m ∷ ms) ns h r = (h.0, inl (h.1, led_then rest acts ms ns h.2 r))

cut_then : (rest : List Made → Type 0) (acts : List Act) (ms ns : List Made) → CutShort acts ms
    → OnlyCloses ns → GoBy acts rest (ms ++ ns)
cut_then rest [] ms ns h c = absurd h
cut_then rest (act ∷ acts) [] ns h c = absurd h
cut_then rest (act ∷ acts) (m ∷ ms) ns h c = (
  h.0,
  elim h.1 [
    | inl on ↦ inl (on.0, cut_then rest acts ms ns on.1 c)
    | inr off ↦ inr (off.0, closes_more ms ns off.1 c)
  ],
)

go_join : (rest : List Made → Type 0) (acts others : List Act) (ms : List Made)
    → GoBy acts (GoBy others rest) ms → GoBy (acts ++ others) rest ms
go_join rest [] others ms h = h
go_join rest (act ∷ acts) others [] h = absurd h
go_join rest (act ∷ acts) others (m ∷ ms) h = (
  h.0,
  elim h.1 [ inl on ↦ inl (on.0, go_join rest acts others ms on.1) | inr off ↦ inr off ],
)

led_more : (acts others : List Act) (ms ns : List Made) → AllLed acts ms → AllLed others ns
    → AllLed (acts ++ others) (ms ++ ns)
led_more [] others ms ns a b = subst (λ (v : List Made). AllLed others (v ++ ns)) (sym a) b
led_more (act ∷ acts) others [] ns a b = absurd a
led_more (act ∷ acts) others (m ∷ ms) ns a b = (a.0, a.1, led_more acts others ms ns a.2 b)

-- others behind acts that led on
led_join : (acts others : List Act) (ms ns : List Made) (how : Settled) → AllLed acts ms
    → Led others how ns → Led (acts ++ others) how (ms ++ ns)
led_join acts others ms ns Settled.Stands a b = led_more acts others ms ns a b
led_join acts others ms ns how a b =
    go_join (λ rest. ⊥) acts others (ms ++ ns) (led_then (GoBy others (λ rest. ⊥)) acts ms ns a b)

-- others, of which none was made
led_alone : (acts others : List Act) (ms : List Made) (how : Settled) → Led acts how ms
    → (how ≡ Settled.Stands → AllLed others []) → Led (acts ++ others) how ms
led_alone acts others ms Settled.Stands a b =
    subst (λ (v : List Made). AllLed (acts ++ others) v) (append-nil ms) (led_more acts others ms [] a (b refl))
led_alone acts others ms how a b =
    go_join (λ rest. ⊥) acts others ms
    (subst (λ (v : List Made). GoBy acts (GoBy others (λ rest. ⊥)) v) (append-nil ms) (cut_then (GoBy others (λ rest. ⊥)) acts ms [] a tt))

-- closings behind them
led_ends : (acts : List Act) (ms ns : List Made) (how : Settled) → Led acts how ms → OnlyCloses ns
    → GoBy acts OnlyCloses (ms ++ ns)
led_ends acts ms ns Settled.Stands a c = led_then OnlyCloses acts ms ns a c
led_ends acts ms ns how a c = cut_then OnlyCloses acts ms ns a c

-- and whatever would go behind them, where one was the last
led_stops : (rest : List Made → Type 0) (acts : List Act) (ms ns : List Made) (how : Settled)
    → (how ≡ Settled.Stands → ⊥) → Led acts how ms → OnlyCloses ns → GoBy acts rest (ms ++ ns)
led_stops rest acts ms ns Settled.Stands n a c = absurd (n refl)
led_stops rest acts ms ns how n a c = cut_then rest acts ms ns a c

-- the writes

same_value : (wanted on : Bool) → wanted ≡ on → AllLed (value_acts wanted on) []
same_value true true e = refl
same_value false false e = refl
same_value true false e = let none : ⊥ = cc in absurd none
same_value false true e = let none : ⊥ = cc in absurd none

other_value : (verdict : Target) (on : Bool) → (wants verdict ≡ on → ⊥)
    → value_acts (wants verdict) on ≡ To_write (write_of verdict) ∷ []
other_value Target.Allow true ne = absurd (ne refl)
other_value Target.Allow false ne = refl
other_value Target.Block true ne = refl
other_value Target.Block false ne = absurd (ne refl)
other_value Target.Reject true ne = refl
other_value Target.Reject false ne = absurd (ne refl)

written_led : {name : List ℕ} {number : ℕ} {what : Write} {t : ToldAnswer Wrote} {es : List Entry}
    {how : Settled} (held : ℕ) → Written name number what t es how
    → Led (To_write what ∷ []) how (made_with (Put held what) t ∷ [])
written_led held (Done failed) = (refl, refl, refl)
written_led held x = (refl, inr (refl, tt))

valued_led : {name : List ℕ} {known : Known} {on : Bool} {ms : List Made} {es : List Entry}
    {how : Settled} → Valued name known on ms es how
    → Led (value_acts (wants known.verdict) on) how ms
valued_led {known = known} {on = on} (Same e) = same_value (wants known.verdict) on e
valued_led {known = known} {on = on} {ms = ms} (Set t es how ne w) =
    subst (λ (v : List Act). Led v how ms) (sym (other_value known.verdict on ne)) (written_led known.held.0 w)

held_led : {control : Control} {name : List ℕ} {held : ℕ} {ms : List Made} {file : Held}
    → Holds_by control name held ms (RemoveHold.Ready file)
    → AllLed (To_open name control ∷ To_probe ∷ []) ms
held_led (Held_on file on call count number total) = (refl, refl, (refl, refl, refl))

unheld_led : {control : Control} {name : List ℕ} {number held : ℕ} {r : RemoveHold} {es : List Entry}
    {how : Settled} {ms : List Made} (more : List Act) → Unheld name number r es how
    → Holds_by control name held ms r → Led (To_open name control ∷ To_probe ∷ more) how ms
unheld_led more Gone_by (Not_there call count) = (refl, inr (refl, tt))
unheld_led more Gone_by (Died file call count number total shut) =
    (refl, inl (refl, (refl, inr (refl, (refl, tt)))))
unheld_led more (Failed_by failed) (Not_opened call count) = (refl, inr (refl, tt))
unheld_led more (Failed_by failed) (Unasked file call count number total shut) =
    (refl, inl (refl, (refl, inr (refl, (refl, tt)))))
unheld_led more Short_by (No_memory call count) = (refl, inr (refl, tt))

once_led : {what : Write} {name : List ℕ} {known : Known} {ms : List Made} {es : List Entry}
    {how : Settled} → OnceMade name known what ms es how → Led (once_acts name what) how ms
once_led {what} {name} {known} (Not_held ms r es how way u) =
    unheld_led (To_write what ∷ To_close ∷ []) u (way_holds (control_of what) name known.held.0 ms r way)
once_led {what} {name} {known} (Put_on ms file t shut es how way w) =
    let held = held_led (way_holds (control_of what) name known.held.0 ms (RemoveHold.Ready file) way) in
    led_join (To_open name (control_of what) ∷ To_probe ∷ []) (To_write what ∷ To_close ∷ []) ms
    (made_with (Put file.0 what) t ∷ made_with (Close file.0) shut ∷ []) how held (put_led w)
  where
    put_led : {number : ℕ} {us : ToldAnswer Wrote} {fs : List Entry} {so : Settled} → Written name number what us fs so
        → Led (To_write what ∷ To_close ∷ []) so (made_with (Put file.0 what) us ∷ made_with (Close file.0) shut ∷ [])
    put_led (Done failed) = (refl, refl, (refl, refl, refl))
    put_led x = (refl, inr (refl, (refl, tt)))

carried_led : {name : List ℕ} {known : Known} {on : Bool} {ms : List Made} {es : List Entry}
    {how : Settled} → Carried name known on ms es how → Led (verdict_acts name known on) how ms
carried_led {name} {known} {on} (By_value ms es how v k) =
    led_alone (value_acts (wants known.verdict) on) (removal_acts name (is_to_go known)) ms how (valued_led v)
    (λ e. subst (λ (b : Bool). AllLed (removal_acts name b) []) (sym (k e)) refl)
carried_led {name} {known} {on} (And_removal ms ns es fs how go v r) =
    led_join (value_acts (wants known.verdict) on) (removal_acts name (is_to_go known)) ms ns how (valued_led v)
    (subst (λ (b : Bool). Led (removal_acts name b) how ns) (sym go) (once_led r))

pub brought_order : {name : List ℕ} {known : Known} {on : Bool} {ms : List Made} {es : List Entry}
    {how : Settled} → Brought name known on ms es how → GoBy (verdict_acts name known on) OnlyCloses ms
brought_order {name} {known} {on} (Left_open ms es how c n) =
    let acts = verdict_acts name known on in
    subst (λ (v : List Made). GoBy acts OnlyCloses v) (append-nil ms) (led_ends acts ms [] how (carried_led c) tt)
brought_order {name} {known} {on} (Let_go ms es shut c) =
    led_ends (verdict_acts name known on) ms (made_with (Close known.held.0) shut ∷ []) Settled.Nobody (carried_led c) (refl, tt)

treated_order : {hub : Option Write} {name : List ℕ} {known : Known} {on d : Bool} {ms : List Made}
    {es : List Entry} {how : Settled} → Treated hub name known on d ms es how
    → GoBy (write_acts hub name known on) OnlyCloses ms
treated_order {hub} {name} {known} {on} x = by x
  where
    Goes : Option Write → List Made → Type 0
    Goes due ms = GoBy (default_acts name due ++ verdict_acts name known on) OnlyCloses ms

    cut : (what : Write) (ds ns : List Made) (how : Settled) → default_due hub name known ≡ Some what
        → (how ≡ Settled.Stands → ⊥) → Led (once_acts name what) how ds → OnlyCloses ns
        → Goes (default_due hub name known) (ds ++ ns)
    cut what ds ns how e n l c =
        subst (λ (o : Option Write). Goes o (ds ++ ns)) (sym e)
        (go_join OnlyCloses (once_acts name what) (verdict_acts name known on) (ds ++ ns)
        (led_stops (GoBy (verdict_acts name known on) OnlyCloses) (once_acts name what) ds ns how n l c))

    by : {d : Bool} {ms : List Made} {es : List Entry} {how : Settled} → Treated hub name known on d ms es how
        → Goes (default_due hub name known) ms
    by (No_default ms es how e b) = subst (λ (o : Option Write). Goes o ms) (sym e) (brought_order b)
    by (And_default what ds ms fs es how e w b) =
        subst (λ (o : Option Write). Goes o (ds ++ ms)) (sym e)
        (go_join OnlyCloses (once_acts name what) (verdict_acts name known on) (ds ++ ms)
        (led_then (GoBy (verdict_acts name known on) OnlyCloses) (once_acts name what) ds ms (once_led w) (brought_order b)))
    by (Cut_default what ds fs how e w n) =
        subst (λ (v : List Made). Goes (default_due hub name known) v) (append-nil ds)
        (cut what ds [] how e n.0 (once_led w) tt)
    by (Gone_default what ds fs shut e w) =
        cut what ds (made_with (Close known.held.0) shut ∷ []) Settled.Nobody e (λ s. let none : ⊥ = cc in none) (once_led w) (refl, tt)

unbound_behind : {name : List ℕ} {r : Binding} {es : List Entry} {how : Settled} (alive : Bool → List Made → Type 0)
    → Unbound_end name r es how → Behind_bound alive r []
unbound_behind alive Absent_so = tt
unbound_behind alive x = tt

-- a binding beside the standing of the parent

stop_closes : (alive : Bool → List Made → Type 0) (why : Stop) (ns : List Made) → Behind_bound alive (binding_of why) ns → OnlyCloses ns
stop_closes alive Stop.Vanished ns c = c
stop_closes alive (Stop.Fault failed) ns c = c
stop_closes alive Stop.Memory ns c = c

last_goes : {file : Held} {own : OwnFiles} {parent : Option Attrs} {ns : List Made} {r : Binding} (alive : Bool → List Made → Type 0)
    (os : List Made) → Probed_by file own parent ns r → Behind_bound alive r os → GoByProbe alive OnlyCloses (ns ++ os)
last_goes alive os (Found_alive on number total) c = c
last_goes alive os (Found_gone number total shut) c = (refl, c)
last_goes alive os (Found_none number total shut) c = (refl, c)

behind_goes : {name parent : List ℕ} {file : Held} {own : OwnFiles} {ns : List Made} {r : Binding} (alive : Bool → List Made → Type 0)
    (os : List Made) → Behind_by name parent file own ns r → Behind_bound alive r os
    → GoBy (parent_acts (Some parent)) (GoByProbe alive OnlyCloses) (ns ++ os)
behind_goes {name} {parent} {file} alive os (Cut_behind ms at t shut why r left a first stops e) c =
    let rest : List Made → Type 0 = GoByProbe alive OnlyCloses in
    let last : List Made = made_with (Read parent at) t ∷ made_with (Close file.0) shut ∷ [] in
    let closes = stop_closes alive why os (subst (λ (v : Binding). Behind_bound alive v os) e c) in
    subst (λ (v : List Made). GoBy (parent_acts (Some parent)) rest v) (sym (append_assoc ms last os))
    (reads_go rest (last ++ os) first (refl, inr (stops_end stops, (refl, closes))))
behind_goes alive os (Read_behind x y z ns r a first h) c = reads_go (GoByProbe alive OnlyCloses) (ns ++ os) first (last_goes alive os h c)

-- the parent's files are read where its held file wasn't found alive
isnt_goes : (name : List ℕ) (rest : List Made → Type 0) (p : Probe) (ns : List Made) → IsntAlive p → GoBy (parent_acts (parent_of name)) rest ns → GoBehindParent name rest p ns
isnt_goes name rest (Probe.Alive on) ns isnt h = absurd isnt
isnt_goes name rest Probe.Gone ns isnt h = h
isnt_goes name rest Probe.Failed ns isnt h = h

under_goes : {name parent : List ℕ} {kept : ℕ} {ms : List Made} {r : Binding} (alive : Bool → List Made → Type 0)
    (os : List Made) → parent_of name ≡ Some parent → Under_by name parent kept ms r → Behind_bound alive r os
    → GoBy (own_acts name []) (GoByParent name kept (GoByProbe alive OnlyCloses)) (ms ++ os)
under_goes {name} {parent} {kept} alive os above (Under_cut file call count ms at t shut why r left a first stops e) c =
    let rest : List Made → Type 0 = GoByParent name kept (GoByProbe alive OnlyCloses) in
    let front : Made = made_with (Open name Authorized) (told (Opened.Token file) call count) in
    let last : List Made = made_with (Read name at) t ∷ made_with (Close file.0) shut ∷ [] in
    let closes = stop_closes alive why os (subst (λ (v : Binding). Behind_bound alive v os) e c) in
    subst (λ (v : List Made). GoBy (own_acts name []) rest (front ∷ v)) (sym (append_assoc ms last os))
    (refl, inl (refl, reads_go rest (last ++ os) first (refl, inr (stops_end stops, (refl, closes)))))
under_goes {name} {parent} {kept} alive os above (Under_alive file call count d p s q on number total ns r own h) c =
    let rest : List Made → Type 0 = GoByParent name kept (GoByProbe alive OnlyCloses) in
    (refl, inl (refl, reads_go rest (made_with (Ask_alive kept) (told (Probe.Alive on) number total) ∷ (ns ++ os)) own.1 (refl, last_goes alive os h c)))
under_goes {name} {parent} {kept} alive os above (Under_other file call count d p s q t ns r isnt own h) c =
    let probed : List Made → Type 0 = GoByProbe alive OnlyCloses in
    let reads = subst (λ (o : Option (List ℕ)). GoBy (parent_acts o) probed (ns ++ os)) (sym above) (behind_goes alive os h c) in
    (refl, inl (refl, reads_go (GoByParent name kept probed) (made_with (Ask_alive kept) t ∷ (ns ++ os)) own.1 (refl, isnt_goes name probed t.answer (ns ++ os) isnt reads)))
under_goes alive os above x c = (refl, inr (refl, c))

for_order : (name : List ℕ) (ms : List Made) (r : Binding) (o : Option Standing) (alive : Bool → List Made → Type 0)
    (os : List Made) → OfParent name o → Way (binding_by name o) ms r → Behind_bound alive r os
    → GoByFiles name (held_of o) (GoByProbe alive OnlyCloses) (ms ++ os)
for_order name ms r None alive os above way c = binds_order alive os (way_binds name ms r way) c
for_order name ms r (Some s) alive os above way c = under_goes alive os above (way_under name s ms r above way) c

-- a part

opening_order : {name : List ℕ} {ss rs : List Standing} {ms : List Made} {es : List Entry} (binds : Bool)
    (hub : Option Write) (kept : Option ℕ) (entries : List Entry) (ns : List Made) → Opening name ss ms es rs
    → GoWhereBound binds hub name kept entries ns
    → GoInOrder binds hub name kept (standing_of name ss) entries (ms ++ ns)
opening_order {name} binds hub kept entries ns (Fresh e) h =
    subst (λ (o : Option Known). GoInOrder binds hub name kept o entries ns) (sym e) h
opening_order {name} binds hub kept entries ns (Lost known failed shut e) h =
    let ms : List Made = made_with (Ask_alive known.held.0) (told_at Probe.Gone failed) ∷ made_with (Close known.held.0) shut ∷ ns in
    subst (λ (o : Option Known). GoInOrder binds hub name kept o entries ms) (sym e) (refl, inl (refl, h))

-- and where the name is bound, beside the standing of its parent
new_order : {name : List ℕ} {ss rs : List Standing} {ms : List Made} {es : List Entry} {binds : Bool}
    (hub : Option Write) (entries : List Entry) (ns : List Made) → binds ≡ true → Opening name ss ms es rs
    → GoAsNew hub name (held_of (parent_standing name rs)) entries ns
    → GoInOrder binds hub name (kept_file name ss) (standing_of name ss) entries (ms ++ ns)
new_order {name} {ss} {rs} {ms} {binds = binds} hub entries ns t opening h =
    subst (λ (k : Option ℕ). GoInOrder binds hub name k (standing_of name ss) entries (ms ++ ns)) (sym (opening_kept opening))
    (opening_order binds hub (held_of (parent_standing name rs)) entries ns opening
    (subst (λ (b : Bool). GoWhereBound b hub name (held_of (parent_standing name rs)) entries ns) (sym t) h))

-- it tells no verdict
opening_told : {name : List ℕ} {ss rs : List Standing} {ms : List Made} {es : List Entry}
    → Opening name ss ms es rs → (fs : List Entry) → told_known (es ++ fs) ≡ told_known fs
opening_told (Fresh e) fs = refl
opening_told (Lost known failed shut e) fs = refl

pub flat_order : {hub : Option Write} {binds : Bool} {given : List Standing → Bound → Standing → Type 0}
    {name : List ℕ} {ss : List Standing} {ok : Bool} {ms : List Made} {rest : List Entry}
    {how : Settled} {rs : List Standing} {o : Option (List Standing × Bound)}
    → Flat hub binds given name ss ok ms rest how rs o
    → GoInOrder binds hub name (kept_file name ss) (standing_of name ss) rest ms
flat_order {hub} {binds} {name = name} {ss = ss} {ms = ms} {rest = rest} (Unprobed known failed at) =
    subst (λ (v : Option Known). GoInOrder binds hub name (kept_file name ss) v rest ms) (sym at) tt
flat_order {hub} {binds} {name = name} {ss = ss} {ms = ms} {rest = rest} (Tried known on failed d os es how at treated) =
    subst (λ (v : Option Known). GoInOrder binds hub name (kept_file name ss) v rest ms) (sym at) (treated_order treated)
flat_order {hub} {binds} {name = name} {ss = ss} (Stopped ms es rs f opening) =
    subst (λ (v : List Made). GoInOrder binds hub name (kept_file name ss) (standing_of name ss) es v) (append-nil ms)
    (opening_order binds hub (kept_file name ss) es [] opening (subst (λ (b : Bool). GoWhereBound b hub name (kept_file name ss) es []) (sym f) refl))
flat_order {hub} {binds} {name = name} {rest = rest} (Unbound ms ns es fs rs r how t opening way end) =
    let alive : Bool → List Made → Type 0 = GoByVerdict hub name rest (told_known rest) in
    let goes = for_order name ns r (parent_standing name rs) alive [] (is_above name rs) way (unbound_behind alive end) in
    let new = subst (λ (v : List Made). GoAsNew hub name (held_of (parent_standing name rs)) rest v) (append-nil ns) goes in
    new_order hub rest ns t opening new
flat_order {hub} {binds} {name = name} {rest = rest} (No_place ms ns es rs b shut t opening way) =
    let short : Entry = Entry.Unsettled name Fault.Memory in
    let last : List Made = made_with (Close b.held.0) shut ∷ [] in
    let alive : Bool → List Made → Type 0 = GoByVerdict hub name rest (told_known rest) in
    let so = subst (λ (v : Option Known). GoByVerdict hub name rest v b.on last) (sym (opening_told opening (short ∷ []))) (has_right es (short ∷ []) short (inl refl), (refl, tt)) in
    new_order hub rest (ns ++ last) t opening (for_order name ns (Binding.Bound b) (parent_standing name rs) alive last (is_above name rs) way so)
flat_order {hub} {binds} {name = name} {rest = rest} (Judged_so ms ns os es fs rs b x d how t opening way given new treated) =
    let fresh : Known = record { number = x.number; held = x.held; verdict = x.verdict; removed = false; defaulted = false } in
    let same : known_of x ≡ fresh = cc (new.stays, new.undone) in
    let alive : Bool → List Made → Type 0 = GoByVerdict hub name rest (told_known rest) in
    let writes = subst (λ (v : Known). GoBy (write_acts hub name v b.on) OnlyCloses os) same (treated_order treated) in
    let so = subst (λ (v : Option Known). GoByVerdict hub name rest v b.on os) (sym (opening_told opening (Entry.Judged x.number name x.held x.verdict x.cause ∷ (fs ++ unsettled_by name how)))) writes in
    new_order hub rest (ns ++ os) t opening (for_order name ns (Binding.Bound b) (parent_standing name rs) alive os (is_above name rs) way so)

-- Calls that the order refuses, whatever else is true of them.

-- a serial read before the product
serial_first : (name : List ℕ) (held : Held) (bytes : List ℕ) (a b c d : ℕ) (t : ToldAnswer ReadOut) (ms : List Made)
    (rest : List Made → Type 0)
    → let opened = made_with (Open name Authorized) (told (Opened.Token held) a b) in
    let descriptors = made_with (Read name Attr.Descriptors) (told (ReadOut.Bytes bytes) c d) in
    GoBy (bind_acts name) rest (opened ∷ descriptors ∷ made_with (Read name Attr.Serial) t ∷ ms) → ⊥
serial_first name held bytes a b c d t ms rest h = elim h.1 [
  | inl on ↦ elim on.1.1 [
    | inl more ↦ let same = more.1.0 in let none : ⊥ = cc in none
    | inr off ↦ let end = off.0 in let none : ⊥ = cc in none
  ]
  | inr off ↦ let end = off.0 in let none : ⊥ = cc in none
]

-- a file of a known device read before its probe
known_read : (binds : Bool) (hub : Option Write) (name of : List ℕ) (kept : Option ℕ) (known : Known) (entries : List Entry)
    (at : Attr) (t : ToldAnswer ReadOut) (ms : List Made)
    → GoInOrder binds hub name kept (Some known) entries (made_with (Read of at) t ∷ ms) → ⊥
known_read binds hub name of kept known entries at t ms h = h

-- a second probe before an order switches a device on
probed_again : (name : List ℕ) (known : Known) (held : ℕ) (t : ToldAnswer Probe) (ms : List Made)
    → wants known.verdict ≡ true
    → GoBy (verdict_acts name known false) OnlyCloses (made_with (Ask_alive held) t ∷ ms) → ⊥
probed_again name known held t ms e h =
    let again : Made = made_with (Ask_alive held) t in
    let removal : List Act = removal_acts name (is_to_go known) in
    let acts : GoBy (To_write Write.On ∷ removal) OnlyCloses (again ∷ ms) =
    subst (λ (b : Bool). GoBy (value_acts b false ++ removal) OnlyCloses (again ∷ ms)) e h in
    let same = acts.0 in
    let none : ⊥ = cc in none

-- a call behind a device that is gone, where the listing didn't succeed
bound_unlisted : (hub : Option Write) (name : List ℕ) (kept : Option ℕ) (known : Known) (entries : List Entry) (failed : FailedCall)
    (shut : Closing) (m : Made) (ms : List Made)
    → let gone = made_with (Ask_alive known.held.0) (told_at Probe.Gone failed) in
    GoInOrder false hub name kept (Some known) entries (gone ∷ made_with (Close known.held.0) shut ∷ m ∷ ms) → ⊥
bound_unlisted hub name kept known entries failed shut m ms h = elim h.1 [
  | inl on ↦ let end = on.1 in let none : ⊥ = cc in none
  | inr off ↦ let end = off.0 in let none : ⊥ = cc in none
]
