-- The calls of a name's part of which each ends it where it fails: all but the probe of its parent's held file.
use Rattle.std.proofs.Common.{◌≡◌, ℕ, ◌+◌, ◌≤◌, Bool, true, false, cond, ◌||◌, ◌&&◌, is_none, length, List, [], ◌∷◌, ◌++◌, Option, Some, None, inl, inr, refl, sym, ◌∙◌, ap, subst, append_assoc, append-nil, arith}
use Rattle.std.specs.Prelude.{nat_eq}
use Rattle.ug_kernel.specs.declared.calls.ReadOut.{ReadOut}
use Rattle.ug_kernel.specs.declared.calls.Opened.{Opened}
use Rattle.ug_kernel.specs.declared.control.Attr.{Attr}
use Rattle.ug_types.specs.declared.record.Attrs.{Attrs}
use Rattle.ug_kernel.specs.declared.files.OwnFiles.{OwnFiles}
use Rattle.ug_kernel.proofs.BindShapes.{told, Reads, No_more, Then_read, Holds_by, Held_on, Died, Unasked, ReadsFirst, None_read, One_read, own_first, reads_own, count_more, way_binds, way_holds}
use Rattle.ug_kernel.proofs.Laws.{binds_unwritten}
use Rattle.ug_kernel.proofs.UnderShapes.{Under_by, Under_cut, Under_alive, Under_other, Probed_by, Found_alive, Found_gone, Found_none, Behind_by, Cut_behind, Read_behind, binds_behind}
use Rattle.ug_table.specs.Parts.{IsDue}
use Rattle.ug_table.proofs.Above.{OfParent, way_under}
use Rattle.ug_table.proofs.Common.{WritesNothing, parent_of, Held, Control, Authorized, Open, Read, Ask_alive, Put, Close, Probe, ToldAnswer, Call, Closing, Made, made_with, failures, count_calls, failures_more, Bound, Binding, RemoveHold, Fault, FailedCall, Entry, Write, Known, Standing, Settled, OpenFile, open_file, files_after, AreAbout, EndsAtFailure, Behind, behind_more, AreDue, PutMade, puts_of, binding_by, held_of, Way, Unwritten, reads_last, probes, without_asking, ending_calls, control_of}
use Rattle.ug_table.proofs.PartCalls.{has_want, want_more, failed_by, are_short, puts_more, files_join, behind_after, about_more, ends_more, due_more, CallsOf, calls_are, calls_as, closed_first, binding_faults, binding_files, open_calls, stop_calls, stop_files, stop_unbound, binds_calls, binding_most, IsFound, bound_few, bound_found}
use Rattle.ug_table.proofs.Shapes.{Valued, Same, Set, OnceMade, Not_held, Put_on, Carried, By_value, And_removal, Brought, Left_open, Let_go, Treated, No_default, And_default, Cut_default, Gone_default}
use Rattle.ug_table.proofs.NamedStandings.{is_same}

-- calls in which no such probe stands

and_none : (b : Bool) → (b && false) ≡ false
and_none true = refl
and_none false = refl

-- where the call before them was the last reading or wasn't; and the last of them isn't one
abbrev pub NoneAsked : List ℕ → ℕ → Bool → List Made → Type 0
NoneAsked name kept read [] = read ≡ false
NoneAsked name kept read (m ∷ ms) = ((read && probes kept m.call) ≡ false) × NoneAsked name kept (reads_last name m.call) ms

none_stays : (name : List ℕ) (kept : ℕ) (read : Bool) (ms ns : List Made) → NoneAsked name kept read ms → without_asking name kept read (ms ++ ns) ≡ ms ++ without_asking name kept false ns
none_stays name kept read [] ns h = ap (λ (b : Bool). without_asking name kept b ns) h
none_stays name kept read (m ∷ ms) ns h =
    ap (λ (b : Bool). cond b (without_asking name kept false (ms ++ ns)) (m ∷ without_asking name kept (reads_last name m.call) (ms ++ ns))) h.0
    ∙ ap (λ (v : List Made). m ∷ v) (none_stays name kept (reads_last name m.call) ms ns h.1)

none_more : (name : List ℕ) (kept : ℕ) (read : Bool) (ms ns : List Made) → NoneAsked name kept read ms → NoneAsked name kept false ns → NoneAsked name kept read (ms ++ ns)
none_more name kept read [] ns a b = subst (λ (v : Bool). NoneAsked name kept v ns) (sym a) b
none_more name kept read (m ∷ ms) ns a b = (a.0, none_more name kept (reads_last name m.call) ms ns a.1 b)

-- they stay, whatever goes behind them
abbrev pub Passes : List ℕ → Option ℕ → List Made → Type 0
Passes name kept ms = (ns : List Made) → ending_calls name kept (ms ++ ns) ≡ ms ++ ending_calls name kept ns

pub passes : (name : List ℕ) (kept : Option ℕ) (ms : List Made) → ((held : ℕ) → NoneAsked name held false ms) → Passes name kept ms
passes name None ms h ns = refl
passes name (Some held) ms h ns = none_stays name held false ms ns (h held)

-- of the writes

valued_none : {name : List ℕ} {known : Known} {on : Bool} {ms : List Made} {es : List Entry} {how : Settled} (of : List ℕ) (kept : ℕ) → Valued name known on ms es how → NoneAsked of kept false ms
valued_none of kept (Same e) = refl
valued_none of kept (Set t es how ne w) = (refl, refl)

holds_none : {control : Control} {name : List ℕ} {held : ℕ} {ms : List Made} {r : RemoveHold} (of : List ℕ) (kept : ℕ) → Holds_by control name held ms r → NoneAsked of kept false ms
holds_none of kept (Held_on file on call count number total) = (refl, (refl, refl))
holds_none of kept (Died file call count number total shut) = (refl, (refl, (refl, refl)))
holds_none of kept (Unasked file call count number total shut) = (refl, (refl, (refl, refl)))
holds_none of kept x = (refl, refl)

once_none : {what : Write} {name : List ℕ} {known : Known} {ms : List Made} {es : List Entry} {how : Settled} (of : List ℕ) (kept : ℕ) → OnceMade name known what ms es how → NoneAsked of kept false ms
once_none {what} {name} {known} of kept (Not_held ms r es how way u) = holds_none of kept (way_holds (control_of what) name known.held.0 ms r way)
once_none {what} {name} {known} of kept (Put_on ms file t shut es how way w) =
    none_more of kept false ms (made_with (Put file.0 what) t ∷ made_with (Close file.0) shut ∷ []) (holds_none of kept (way_holds (control_of what) name known.held.0 ms (RemoveHold.Ready file) way)) (refl, (refl, refl))

brought_none : {name : List ℕ} {known : Known} {on : Bool} {ms : List Made} {es : List Entry} {how : Settled} (of : List ℕ) (kept : ℕ) → Brought name known on ms es how → NoneAsked of kept false ms
brought_none {name} {known} {on} of kept b = by b
  where
    carried : {ms : List Made} {es : List Entry} {how : Settled} → Carried name known on ms es how → NoneAsked of kept false ms
    carried (By_value ms es how v k) = valued_none of kept v
    carried (And_removal ms ns es fs how go v r) = none_more of kept false ms ns (valued_none of kept v) (once_none of kept r)

    by : {ms : List Made} {es : List Entry} {how : Settled} → Brought name known on ms es how → NoneAsked of kept false ms
    by (Left_open ms es how c n) = carried c
    by (Let_go ms es shut c) = none_more of kept false ms (made_with (Close known.held.0) shut ∷ []) (carried c) (refl, refl)

pub treated_none : {hub : Option Write} {name : List ℕ} {known : Known} {on d : Bool} {ms : List Made} {es : List Entry} {how : Settled} (of : List ℕ) (kept : ℕ) → Treated hub name known on d ms es how → NoneAsked of kept false ms
treated_none of kept (No_default ms es how e b) = brought_none of kept b
treated_none of kept (And_default what ds ms fs es how e w b) = none_more of kept false ds ms (once_none of kept w) (brought_none of kept b)
treated_none of kept (Cut_default what ds fs how e w cut) = once_none of kept w
treated_none {name = name} {known = known} of kept (Gone_default what ds fs shut e w) = none_more of kept false ds (made_with (Close known.held.0) shut ∷ []) (once_none of kept w) (refl, refl)

-- Calls of a part, as `CallsOf` has them: those that end it are about the name, and the faults are theirs.
pub record CallsBy (name : List ℕ) (kept : Option ℕ) (files : List OpenFile) (b : Behind) (ms : List Made)
    (after : List OpenFile) (faults : List Fault) (ps : List PutMade) (n : ℕ) : Type 0 where
  pub ending : List Made
  pub is : (ns : List Made) → ending_calls name kept (ms ++ ns) ≡ ending ++ ending_calls name kept ns
  pub about : AreAbout name files ending
  pub ends : EndsAtFailure [] ending
  pub still : files_after files ending ≡ after
  pub failed : failures ending ≡ failed_by faults
  pub due : AreDue b ms
  pub left : files_after files ms ≡ after
  pub short : has_want ms ≡ are_short faults
  pub puts : puts_of ms ≡ ps
  pub few : count_calls ms ≤ n

pub all_end : {name : List ℕ} {kept : Option ℕ} {files after : List OpenFile} {b : Behind} {ms : List Made}
    {faults : List Fault} {ps : List PutMade} {n : ℕ} → Passes name kept ms → CallsOf name files b ms after faults ps n
    → CallsBy name kept files b ms after faults ps n
all_end {ms = ms} pass h = record {
  ending = ms;
  is = pass;
  about = h.about;
  ends = h.ends;
  still = h.left;
  failed = h.failed;
  due = h.due;
  left = h.left;
  short = h.short;
  puts = h.puts;
  few = h.few;
}

pub by_more : {name : List ℕ} {kept : Option ℕ} {files mid after : List OpenFile} {b : Behind} {ms ns : List Made}
    {faults : List Fault} {ps qs : List PutMade} {n m : ℕ} → CallsBy name kept files b ms mid [] ps n
    → CallsBy name kept mid (behind_after b ms) ns after faults qs m
    → CallsBy name kept files b (ms ++ ns) after faults (ps ++ qs) (n + m)
by_more {name} {kept} {files} {b = b} {ms = ms} {ns = ns} {ps = ps} h k =
    let about = subst (λ (v : List OpenFile). AreAbout name v k.ending) (sym h.still) k.about in
    let ends = subst (λ (v : List FailedCall). EndsAtFailure v k.ending) (sym h.failed) k.ends in
    record {
      ending = h.ending ++ k.ending;
      is = λ os. ap (λ (v : List Made). ending_calls name kept v) (append_assoc ms ns os) ∙ h.is (ns ++ os)
          ∙ ap (λ (v : List Made). h.ending ++ v) (k.is os) ∙ sym (append_assoc h.ending k.ending (ending_calls name kept os));
      about = about_more name files h.ending k.ending h.about about;
      ends = ends_more [] h.ending k.ending h.ends ends;
      still = files_join files h.ending k.ending ∙ ap (λ (v : List OpenFile). files_after v k.ending) h.still ∙ k.still;
      failed = failures_more h.ending k.ending ∙ ap (λ (v : List FailedCall). v ++ failures k.ending) h.failed ∙ k.failed;
      due = due_more b ms ns h.due k.due;
      left = files_join files ms ns ∙ ap (λ (v : List OpenFile). files_after v ns) h.left ∙ k.left;
      short = want_more ms ns ∙ ap (λ (v : Bool). v || has_want ns) h.short ∙ k.short;
      puts = puts_more ms ns ∙ ap (λ (v : List PutMade). v ++ puts_of ns) h.puts ∙ ap (λ (v : List PutMade). ps ++ v) k.puts;
      few = omega (arith, h.few, k.few, count_more ms ns);
    }

pub by_within : {name : List ℕ} {kept : Option ℕ} {files after other : List OpenFile} {b : Behind} {ms : List Made}
    {faults : List Fault} {ps : List PutMade} {n m : ℕ} → after ≡ other → count_calls ms ≤ m
    → CallsBy name kept files b ms after faults ps n → CallsBy name kept files b ms other faults ps m
by_within e few h = record {
  ending = h.ending;
  is = h.is;
  about = h.about;
  ends = h.ends;
  still = h.still ∙ e;
  failed = h.failed;
  due = h.due;
  left = h.left ∙ e;
  short = h.short;
  puts = h.puts;
  few = few;
}

pub by_as : {name : List ℕ} {kept : Option ℕ} {files after other : List OpenFile} {b : Behind} {ms : List Made}
    {faults : List Fault} {ps : List PutMade} {n m : ℕ} → after ≡ other → n ≤ m
    → CallsBy name kept files b ms after faults ps n → CallsBy name kept files b ms other faults ps m
by_as e le h = by_within e (omega (arith, h.few, le)) h

-- those that end the part
pub ending_is : {name : List ℕ} {kept : Option ℕ} {files after : List OpenFile} {b : Behind} {ms : List Made}
    {faults : List Fault} {ps : List PutMade} {n : ℕ} → (h : CallsBy name kept files b ms after faults ps n)
    → ending_calls name kept ms ≡ h.ending
ending_is {name} {kept} {ms = ms} h =
    ap (λ (v : List Made). ending_calls name kept v) (sym (append-nil ms)) ∙ h.is [] ∙ by kept
  where
    by : (o : Option ℕ) → h.ending ++ ending_calls name o [] ≡ h.ending
    by None = append-nil h.ending
    by (Some held) = append-nil h.ending

-- a binding by the parent's held file

reads_none : {name : List ℕ} {ms : List Made} (of : List ℕ) (kept : ℕ) (read : Bool) (ns : List Made) → Reads name ms → ((last : Bool) → NoneAsked of kept last ns) → NoneAsked of kept read (ms ++ ns)
reads_none of kept read ns No_more k = k read
reads_none of kept read ns (Then_read on at t ms may came r) k = (and_none read, reads_none of kept (reads_last of (Read on at)) ns r k)

-- a reading that stops, and the closing
stops_none : (name of : List ℕ) (at : Attr) (t : ToldAnswer ReadOut) (file kept : ℕ) (shut : Closing) (last : Bool) → NoneAsked name kept last (made_with (Read of at) t ∷ made_with (Close file) shut ∷ [])
stops_none name of at t file kept shut last = (and_none last, (and_none (reads_last name (Read of at)), refl))

probed_none : {file : Held} {own : OwnFiles} {parent : Option Attrs} {ns : List Made} {r : Binding} (name : List ℕ) (kept : ℕ) → Probed_by file own parent ns r → NoneAsked name kept false ns
probed_none name kept (Found_alive on number total) = (refl, refl)
probed_none name kept (Found_gone number total shut) = (refl, (refl, refl))
probed_none name kept (Found_none number total shut) = (refl, (refl, refl))

behind_none : {name parent : List ℕ} {file : Held} {own : OwnFiles} {ns : List Made} {r : Binding} (of : List ℕ) (kept : ℕ) → Behind_by name parent file own ns r → NoneAsked of kept false ns
behind_none {name} {parent} {file} of kept (Cut_behind ms at t shut why r left a first stops e) = reads_none of kept false _ a (λ last. stops_none of parent at t file.0 kept shut last)
behind_none of kept (Read_behind x y z ns r a first h) = (refl, (refl, (refl, probed_none of kept h)))

-- where the probe stands, it alone is left out
asked_out : (name : List ℕ) (kept : ℕ) (file : Held) (call count : ℕ) (d p s c : ToldAnswer ReadOut) (t : ToldAnswer Probe) (ns : List Made) → NoneAsked name kept false ns → (os : List Made)
    → let front = made_with (Open name Authorized) (told (Opened.Token file) call count) in
    ending_calls name (Some kept) ((front ∷ reads_own name d p s c (made_with (Ask_alive kept) t ∷ ns)) ++ os)
    ≡ (front ∷ reads_own name d p s c ns) ++ ending_calls name (Some kept) os
asked_out name kept file call count d p s c t ns none os =
    let front : Made = made_with (Open name Authorized) (told (Opened.Token file) call count) in
    let m : Made = made_with (Ask_alive kept) t in
    let number : nat_eq kept kept ≡ true = grind arith in
    let is : (reads_last name (Read name Attr.Connect) && probes kept (Ask_alive kept)) ≡ true = ap (λ (b : Bool). b && nat_eq kept kept) (is_same name name refl) ∙ number in
    let rest = without_asking name kept false (ns ++ os) in
    ap (λ (b : Bool). front ∷ reads_own name d p s c (cond b rest (m ∷ rest))) is
    ∙ ap (λ (v : List Made). front ∷ reads_own name d p s c v) (none_stays name kept false ns os none)

probed_calls : {file : Held} {own : OwnFiles} {parent : Option Attrs} {ns : List Made} {r : Binding} {name : List ℕ} (files : List OpenFile) (c : Behind) → Probed_by file own parent ns r → CallsOf name (open_file file.0 Authorized ∷ files) c ns (binding_files r files) (binding_faults r) [] 1
probed_calls files c (Found_alive on number total) = calls_are (inl refl, tt) (inl refl, tt) (tt, tt) refl refl refl refl (omega arith)
probed_calls {file} files c (Found_gone number total shut) =
    calls_are (inl refl, ((Authorized, inl refl), tt)) (inl refl, (inr tt, tt)) (tt, (tt, tt)) (closed_first file.0 Authorized files) refl refl refl (omega arith)
probed_calls {file} files c (Found_none number total shut) =
    calls_are (inl refl, ((Authorized, inl refl), tt)) (inl refl, (inr tt, tt)) (tt, (tt, tt)) (closed_first file.0 Authorized files) refl refl refl (omega arith)

-- what isn't a write is due
quiet_due : (c : Call) (behind : Behind) → WritesNothing c → IsDue behind c
quiet_due (Put held what) behind w = absurd w
quiet_due x behind w = tt

unwritten_due : (b : Behind) (ms : List Made) → Unwritten ms → AreDue b ms
unwritten_due b [] w = tt
unwritten_due b (m ∷ ms) w = (quiet_due m.call b w.0, unwritten_due (behind_more b m) ms w.1)

-- the calls without the probe are those of a binding
with_probe : {name : List ℕ} {kept : ℕ} {files after : List OpenFile} {faults : List Fault} {n : ℕ} (b : Behind) (file : Held) (call count : ℕ) (d p s c : ToldAnswer ReadOut) (t : ToldAnswer Probe) (ns : List Made)
    → let front = made_with (Open name Authorized) (told (Opened.Token file) call count) in
    NoneAsked name kept false ns → ((x : Behind) → AreDue x ns) → CallsOf name files b (front ∷ reads_own name d p s c ns) after faults [] n
    → CallsBy name (Some kept) files b (front ∷ reads_own name d p s c (made_with (Ask_alive kept) t ∷ ns)) after faults [] (n + 1)
with_probe {name} {kept} b file call count d p s c t ns none due h = record {
  ending = made_with (Open name Authorized) (told (Opened.Token file) call count) ∷ reads_own name d p s c ns;
  is = asked_out name kept file call count d p s c t ns none;
  about = h.about;
  ends = h.ends;
  still = h.left;
  failed = h.failed;
  due = (tt, (tt, (tt, (tt, (tt, (tt, due _))))));
  left = h.left;
  short = h.short;
  puts = h.puts;
  few = omega (arith, h.few);
}

first_count : {files left : List (List ℕ × Attr)} {ms : List Made} → ReadsFirst files ms left → count_calls ms + length left ≡ length files
first_count (None_read files) = omega arith
first_count (One_read of at t ms files left came a) = omega (arith, first_count a)

own_few : {name : List ℕ} {left : List (List ℕ × Attr)} {ms : List Made} → ReadsFirst (own_first name []) ms left → count_calls ms ≤ 7
own_few first = omega (arith, first_count first)

under_calls : {name parent : List ℕ} {kept : ℕ} {ms : List Made} {r : Binding} (files : List OpenFile) (b : Behind) → parent_of name ≡ Some parent → Under_by name parent kept ms r
    → CallsBy name (Some kept) files b ms (binding_files r files) (binding_faults r) [] 10
under_calls {name} {parent} {kept} {ms} files b above (Under_cut file call count ns at t shut why r left a first stops e) =
    let last : List Made = made_with (Read name at) t ∷ made_with (Close file.0) shut ∷ [] in
    let all = open_calls files b file call count a (own_few first) (λ c. stop_calls files c name file.0 shut (inl refl) stops) in
    let none : NoneAsked name kept false ms = (refl, reads_none name kept false last a (λ x. stops_none name name at t file.0 kept shut x)) in
    by_as refl (omega arith) (all_end (λ os. none_stays name kept false ms os none)
    (subst (λ (v : Binding). CallsOf name files b ms (binding_files v files) (binding_faults v) [] 9) (sym e) (calls_as (stop_files why files) (omega arith) all)))
under_calls {name} {parent} {kept} files b above (Under_alive file call count d p q c on number total ns r own h) =
    by_as refl (omega arith)
    (with_probe b file call count d p q c (told (Probe.Alive on) number total) ns (probed_none name kept h) (λ x. (probed_calls {name = name} files x h).due)
    (open_calls files b file call count own.0 (omega arith) (λ x. probed_calls files x h)))
under_calls {name} {parent} {kept} files b above (Under_other file call count d p q c t ns r isnt own h) =
    let by = binds_behind call count d p q c above own h in
    by_as refl (omega arith)
    (with_probe b file call count d p q c t ns (behind_none name kept h) (λ x. unwritten_due x ns (binds_unwritten by).1.1.1.1.1) (binds_calls files b by))
under_calls {name} {parent} {kept} {ms} files b above x =
    all_end (λ os. none_stays name kept false ms os (refl, refl)) (calls_are (refl, tt) (inl refl, tt) (tt, tt) refl refl refl refl (omega arith))

pub for_calls : (name : List ℕ) (ns : List Made) (r : Binding) (o : Option Standing) (files : List OpenFile) (b : Behind) → OfParent name o → Way (binding_by name o) ns r
    → CallsBy name (held_of o) files b ns (binding_files r files) (binding_faults r) [] 10
for_calls name ns r None files b above way = by_as refl (omega arith) (all_end (λ os. refl) (binds_calls files b (way_binds name ns r way)))
for_calls name ns r (Some s) files b above way = under_calls files b above (way_under name s ns r above way)

child_most : (name parent : List ℕ) → parent_of name ≡ Some parent → 10 ≤ binding_most name
child_most name parent e = subst (λ (o : Option (List ℕ)). 10 ≤ cond (is_none o) 6 10) (sym e) (omega arith)

pub for_few : (name : List ℕ) (ns : List Made) (x : Bound) (o : Option Standing) → OfParent name o → Way (binding_by name o) ns (Binding.Bound x) → count_calls ns ≤ binding_most name
for_few name ns x None above way = bound_few (way_binds name ns (Binding.Bound x) way)
for_few name ns x (Some s) above way =
    let h = for_calls name ns (Binding.Bound x) (Some s) [] (record { last = None; earlier = None; found = None }) above way in
    omega (arith, h.few, child_most name s.name above)

-- the device was found alive last

under_found : {name parent : List ℕ} {kept : ℕ} {ms : List Made} {x : Bound} (b : Behind) → Under_by name parent kept ms (Binding.Bound x) → IsFound (behind_after b ms) x.held.0 x.on
under_found {x = x} b (Under_cut file call count ms at t shut why r left a first stops e) = absurd (stop_unbound why x e)
under_found b (Under_alive file call count d p s c on number total ns r own (Found_alive is n total_then)) = (told (Probe.Alive is) n total_then, refl, refl)
under_found {x = x} b (Under_other file call count d p s c t ns r isnt own (Cut_behind ms at u shut why q left a first stops e)) = absurd (stop_unbound why x e)
under_found b (Under_other file call count d p s c t ns r isnt own (Read_behind u v w os q a first (Found_alive is n total))) = (told (Probe.Alive is) n total, refl, refl)

pub for_found : (name : List ℕ) (ns : List Made) (x : Bound) (o : Option Standing) (b : Behind) → OfParent name o → Way (binding_by name o) ns (Binding.Bound x) → IsFound (behind_after b ns) x.held.0 x.on
for_found name ns x None b above way = bound_found b (way_binds name ns (Binding.Bound x) way)
for_found name ns x (Some s) b above way = under_found b (way_under name s ns (Binding.Bound x) above way)
