-- The calls of one name's part of a sweep, and those of a binding and of the opening of a second file.
use Rattle.std.proofs.Common.{◌≡◌, ℕ, ◌+◌, ◌≤◌, Bool, true, false, cond, ◌||◌, is_none, List, [], ◌∷◌, ◌++◌, Option, Some, None, inl, inr, refl, sym, ◌∙◌, ap, subst, append_assoc, append-nil, arith}
use Rattle.std.specs.Prelude.{if◌then◌else◌, nat_eq}
use Rattle.std.proofs.lemmas.List.Folds.{list_any-append}
use Rattle.ug_table.proofs.Common.{parent_of, Has, Held, Control, Authorized, IsOnce, IsOnceDue, control_of, Default, Put, Wrote, opens_default, FailedCall, Listing, Probe, Call, Names, Open, Read, Ask_alive, Close, Closing, ToldAnswer, Answer, failed_read, Made, made_with, failure, failures, count_calls, Bound, Binding, RemoveHold, Fault, FoundNoRoom, OpenFile, open_file, close_file, files_left, files_after, AreAbout, EndsAtFailure, Behind, behind_more, IsWriteDue, AreDue, PutMade, put_of, puts_of, call_told, Write, failures_more, list_any, binding_of}
use Rattle.ug_kernel.specs.declared.control.Attr.{Attr}
use Rattle.ug_types.specs.declared.record.Attrs.{Attrs}
use Rattle.ug_kernel.specs.declared.calls.Opened.{Opened}
use Rattle.ug_kernel.specs.declared.calls.ReadOut.{ReadOut}
use Rattle.ug_kernel.specs.declared.files.OwnFiles.{OwnFiles}
use Rattle.ug_kernel.specs.declared.files.Stop.{Stop}
use Rattle.ug_kernel.proofs.BindShapes.{told, IsReadable, Came, Reads, No_more, Then_read, Stops, No_descriptors, Binds_by, Cut, Probed_gone, Probe_failed, Bound_by, Files, Alone, Below, Holds_by, No_memory, Held_on, Died, Unasked, count_more, first_few}

-- answers that are want of memory

abbrev pub short_listing : Listing → Bool
short_listing Listing.Memory = true
short_listing answer = false

abbrev pub short_open : Opened → Bool
short_open Opened.Memory = true
short_open answer = false

abbrev pub short_read : ReadOut → Bool
short_read ReadOut.Memory = true
short_read answer = false

abbrev pub is_want : (call : Call) → Answer call → Bool
is_want Names a = short_listing a.answer
is_want (Open name control) a = short_open a.answer
is_want (Read name at) a = short_read a.answer
is_want call a = false

-- one of the calls was answered so
abbrev pub has_want : List Made → Bool
has_want ms = list_any (λ (m : Made). is_want m.call m.answer) ms

pub want_more : (ms ns : List Made) → has_want (ms ++ ns) ≡ (has_want ms || has_want ns)
want_more ms ns = list_any-append (λ (m : Made). is_want m.call m.answer) ms ns

-- the failed calls among faults, and whether one is want of memory

abbrev pub failed_by : List Fault → List FailedCall
failed_by [] = []
failed_by (f ∷ fs) = call_told f ++ failed_by fs

abbrev is_short : Fault → Bool
is_short (Fault.Call failed) = false
is_short Fault.Memory = true

abbrev pub are_short : List Fault → Bool
are_short fs = list_any is_short fs

-- of lists joined

pub puts_more : (ms ns : List Made) → puts_of (ms ++ ns) ≡ puts_of ms ++ puts_of ns
puts_more [] ns = refl
puts_more (m ∷ ms) ns =
    ap (λ (v : List PutMade). put_of m.call m.answer ++ v) (puts_more ms ns)
    ∙ sym (append_assoc (put_of m.call m.answer) (puts_of ms) (puts_of ns))

pub files_join : (files : List OpenFile) (ms ns : List Made)
    → files_after files (ms ++ ns) ≡ files_after (files_after files ms) ns
files_join files [] ns = refl
files_join files (m ∷ ms) ns = files_join (files_left m.call m.answer files) ms ns

abbrev pub behind_after : Behind → List Made → Behind
behind_after b [] = b
behind_after b (m ∷ ms) = behind_after (behind_more b m) ms

behind_join : (b : Behind) (ms ns : List Made)
    → behind_after b (ms ++ ns) ≡ behind_after (behind_after b ms) ns
behind_join b [] ns = refl
behind_join b (m ∷ ms) ns = behind_join (behind_more b m) ms ns

pub about_more : (name : List ℕ) (files : List OpenFile) (ms ns : List Made) → AreAbout name files ms
    → AreAbout name (files_after files ms) ns → AreAbout name files (ms ++ ns)
about_more name files [] ns a b = b
about_more name files (m ∷ ms) ns a b =
    (a.0, about_more name (files_left m.call m.answer files) ms ns a.1 b)

pub ends_more : (before : List FailedCall) (ms ns : List Made) → EndsAtFailure before ms
    → EndsAtFailure (before ++ failures ms) ns → EndsAtFailure before (ms ++ ns)
ends_more before [] ns a b = subst (λ v. EndsAtFailure v ns) (append-nil before) b
ends_more before (m ∷ ms) ns a b =
    let f = failure m.call m.answer in
    let later = subst (λ v. EndsAtFailure v ns) (sym (append_assoc before f (failures ms))) b in
    (a.0, ends_more (before ++ f) ms ns a.1 later)

pub due_more : (b : Behind) (ms ns : List Made) → AreDue b ms → AreDue (behind_after b ms) ns
    → AreDue b (ms ++ ns)
due_more b [] ns a c = c
due_more b (m ∷ ms) ns a c = (a.0, due_more (behind_more b m) ms ns a.1 c)

-- calls

-- Calls of a part of the name, where these files are open and those calls stand before them: the files that are open then, the faults
-- among them, the writes, and how many there are at most.
pub record CallsOf (name : List ℕ) (files : List OpenFile) (b : Behind) (ms : List Made)
    (after : List OpenFile) (faults : List Fault) (ps : List PutMade) (n : ℕ) : Type 0 where
  pub about : AreAbout name files ms
  pub ends : EndsAtFailure [] ms
  pub due : AreDue b ms
  pub left : files_after files ms ≡ after
  pub failed : failures ms ≡ failed_by faults
  pub short : has_want ms ≡ are_short faults
  pub puts : puts_of ms ≡ ps
  pub few : count_calls ms ≤ n

pub calls_are : {name : List ℕ} {files after : List OpenFile} {b : Behind} {ms : List Made}
    {faults : List Fault} {ps : List PutMade} {n : ℕ} → AreAbout name files ms → EndsAtFailure [] ms
    → AreDue b ms → files_after files ms ≡ after → failures ms ≡ failed_by faults
    → has_want ms ≡ are_short faults → puts_of ms ≡ ps → count_calls ms ≤ n
    → CallsOf name files b ms after faults ps n
calls_are a e d l f s p n =
    record { about = a; ends = e; due = d; left = l; failed = f; short = s; puts = p; few = n }

pub calls_more : {name : List ℕ} {files mid after : List OpenFile} {b : Behind} {ms ns : List Made}
    {faults : List Fault} {ps qs : List PutMade} {n m : ℕ} → CallsOf name files b ms mid [] ps n
    → CallsOf name mid (behind_after b ms) ns after faults qs m
    → CallsOf name files b (ms ++ ns) after faults (ps ++ qs) (n + m)
calls_more {name} {files} {b = b} {ms = ms} {ns = ns} {ps = ps} h k =
    let about = subst (λ v. AreAbout name v ns) (sym h.left) k.about in
    let ends = subst (λ v. EndsAtFailure v ns) (sym h.failed) k.ends in
    record {
      about = about_more name files ms ns h.about about;
      ends = ends_more [] ms ns h.ends ends;
      due = due_more b ms ns h.due k.due;
      left = files_join files ms ns ∙ ap (λ v. files_after v ns) h.left ∙ k.left;
      failed = failures_more ms ns ∙ ap (λ v. v ++ failures ns) h.failed ∙ k.failed;
      short = want_more ms ns ∙ ap (λ v. v || has_want ns) h.short ∙ k.short;
      puts = puts_more ms ns ∙ ap (λ v. v ++ puts_of ns) h.puts ∙ ap (λ v. ps ++ v) k.puts;
      few = omega (arith, h.few, k.few, count_more ms ns);
    }

pub calls_within : {name : List ℕ} {files after other : List OpenFile} {b : Behind} {ms : List Made}
    {faults : List Fault} {ps : List PutMade} {n m : ℕ} → after ≡ other → count_calls ms ≤ m
    → CallsOf name files b ms after faults ps n → CallsOf name files b ms other faults ps m
calls_within e few h = calls_are h.about h.ends h.due (h.left ∙ e) h.failed h.short h.puts few

pub calls_as : {name : List ℕ} {files after other : List OpenFile} {b : Behind} {ms : List Made}
    {faults : List Fault} {ps : List PutMade} {n m : ℕ} → after ≡ other → n ≤ m
    → CallsOf name files b ms after faults ps n → CallsOf name files b ms other faults ps m
calls_as e le h = calls_within e (omega (arith, h.few, le)) h

-- what was opened last is closed
pub closed_first : (held : ℕ) (control : Control) (files : List OpenFile)
    → close_file held (open_file held control ∷ files) ≡ files
closed_first held control files =
    let same : nat_eq held held ≡ true = grind arith in
    ap (λ (b : Bool). cond b files (open_file held control ∷ close_file held files)) same

-- a binding

came_well : (r : ReadOut) (at : Attr) → Came r at → (failed_read r ≡ false) × (short_read r ≡ false)
came_well ReadOut.Failed at c = absurd c
came_well ReadOut.Memory at c = absurd c
came_well x at c = (refl, refl)

reads_calls : {name : List ℕ} {ms : List Made} (files : List OpenFile) (b : Behind) → Reads name ms
    → CallsOf name files b ms files [] [] (count_calls ms)
reads_calls files b No_more = calls_are tt tt tt refl refl refl refl (omega arith)
reads_calls {name} files b (Then_read of at t ms may came r) =
    let m : Made = made_with (Read of at) t in
    let well = came_well t.answer at came in
    let f : FailedCall = record { call = t.number; count = t.count } in
    let failed : failures (m ∷ []) ≡ [] = ap (λ (v : Bool). (if v then f ∷ [] else []) ++ []) well.0
    in
    let short : has_want (m ∷ []) ≡ false = ap (λ (v : Bool). v || false) well.1 in
    let one : CallsOf name files b (m ∷ []) files [] [] 1 =
    calls_are (may, tt) (inl refl, tt) (tt, tt) refl failed short refl (omega arith) in
    calls_more one (reads_calls files (behind_more b m) r)

abbrev pub binding_faults : Binding → List Fault
binding_faults (Binding.Failed failed) = Fault.Call failed ∷ []
binding_faults Binding.Memory = Fault.Memory ∷ []
binding_faults r = []

-- a binding holds the file of the device that it bound
abbrev pub binding_files : Binding → List OpenFile → List OpenFile
binding_files (Binding.Bound b) files = open_file b.held.0 Authorized ∷ files
binding_files r files = files

-- an opening, readings, and an end
pub open_calls : {name : List ℕ} {ms ns : List Made} {after : List OpenFile} {faults : List Fault}
    (files : List OpenFile) (b : Behind) (file : Held) (call count : ℕ) → Reads name ms
    → count_calls ms ≤ 7
    → ((c : Behind) → CallsOf name (open_file file.0 Authorized ∷ files) c ns after faults [] 1)
    → let start = made_with (Open name Authorized) (told (Opened.Token file) call count) in
    CallsOf name files b (start ∷ (ms ++ ns)) after faults [] 9
open_calls {name} {ms} files b file call count r few k =
    let start : Made = made_with (Open name Authorized) (told (Opened.Token file) call count) in
    let own : List OpenFile = open_file file.0 Authorized ∷ files in
    let c : Behind = behind_more b start in
    let one : CallsOf name files b (start ∷ []) own [] [] 1 =
    calls_are (refl, tt) (inl refl, tt) (tt, tt) refl refl refl refl (omega arith) in
    calls_as refl (omega (arith, few))
    (calls_more one (calls_more (reads_calls own c r) (k (behind_after c ms))))

pub stop_calls : {name : List ℕ} {at : Attr} {t : ToldAnswer ReadOut} {why : Stop} (files : List OpenFile)
    (c : Behind) (of : List ℕ) (file : ℕ) (shut : Closing) → IsReadable name of → Stops at t why
    → CallsOf name (open_file file Authorized ∷ files) c
    (made_with (Read of at) t ∷ made_with (Close file) shut ∷ []) files
    (binding_faults (binding_of why)) [] 1
stop_calls files c of file shut may (No_descriptors call count) =
    calls_are (may, ((Authorized, inl refl), tt)) (inl refl, (inr tt, tt)) (tt, (tt, tt))
    (closed_first file Authorized files) refl refl refl (omega arith)
stop_calls files c of file shut may x =
    calls_are (may, ((Authorized, inl refl), tt)) (inl refl, (inr tt, tt)) (tt, (tt, tt))
    (closed_first file Authorized files) refl refl refl (omega arith)

pub stop_files : (why : Stop) (files : List OpenFile) → files ≡ binding_files (binding_of why) files
stop_files Stop.Vanished files = refl
stop_files x files = refl

pub binds_calls : {name : List ℕ} {ms : List Made} {r : Binding} (files : List OpenFile)
    (b : Behind) → Binds_by name ms r
    → CallsOf name files b ms (binding_files r files) (binding_faults r) [] 9
binds_calls {name} {ms} files b (Cut file call count ns of at t shut why r left a first may stops e) =
    let all = open_calls files b file call count a (first_few first)
    (λ c. stop_calls files c of file.0 shut may stops) in
    subst (λ v. CallsOf name files b ms (binding_files v files) (binding_faults v) [] 9) (sym e)
    (calls_as (stop_files why files) (omega arith) all)
binds_calls files b (Probed_gone file call count number total ms shut a first) =
    open_calls files b file call count a (first_few first)
    (λ c. calls_are (inl refl, ((Authorized, inl refl), tt)) (inl refl, (inr tt, tt)) (tt, (tt, tt))
    (closed_first file.0 Authorized files) refl refl refl (omega arith))
binds_calls files b (Probe_failed file call count number total ms shut a first) =
    open_calls files b file call count a (first_few first)
    (λ c. calls_are (inl refl, ((Authorized, inl refl), tt)) (inl refl, (inr tt, tt)) (tt, (tt, tt))
    (closed_first file.0 Authorized files) refl refl refl (omega arith))
binds_calls files b (Bound_by call count number total ms x a first are) =
    open_calls files b x.held call count a (first_few first)
    (λ c. calls_are (inl refl, tt) (inl refl, tt) (tt, tt) refl refl refl refl (omega arith))
binds_calls files b x = calls_are (refl, tt) (inl refl, tt) (tt, tt) refl refl refl refl
    (omega arith)

-- the most calls that bind a device of that name, and that write to it: a root hub has no parent whose held file is probed and whose
-- files are read, and it alone a default
abbrev pub binding_most : List ℕ → ℕ
binding_most name = cond (is_none (parent_of name)) 6 10

abbrev pub treating_most : List ℕ → ℕ
treating_most name = cond (is_none (parent_of name)) 7 4

pub both_most : (name : List ℕ) → binding_most name + treating_most name ≤ 14
both_most name = by (is_none (parent_of name))
  where
    by : (root : Bool) → cond root 6 10 + cond root 7 4 ≤ 14
    by true = omega arith
    by false = omega arith

pub treating_least : (name : List ℕ) → 4 ≤ treating_most name
treating_least name = by (is_none (parent_of name))
  where
    by : (root : Bool) → 4 ≤ cond root 7 4
    by true = omega arith
    by false = omega arith

pub root_most : (name : List ℕ) → parent_of name ≡ None → treating_most name ≡ 7
root_most name root = ap (λ (o : Option (List ℕ)). cond (is_none o) 7 4) root

files_few : {name : List ℕ} {ms : List Made} {own : OwnFiles} {parent : Option Attrs}
    → Files name ms own parent → count_calls ms + 2 ≤ binding_most name
files_few (Alone d p s c e) =
    subst (λ (o : Option (List ℕ)). 6 ≤ cond (is_none o) 6 10) (sym e) (omega arith)
files_few (Below of d p s c x y z e) =
    subst (λ (o : Option (List ℕ)). 9 ≤ cond (is_none o) 6 10) (sym e) (omega arith)

-- the device of that open file was found alive last
abbrev pub IsFound : Behind → ℕ → Bool → Type 0
IsFound b held on = (t : ToldAnswer Probe) × (b.found ≡ Some (made_with (Ask_alive held) t)) ×
    (t.answer ≡ Probe.Alive on)

pub stop_unbound : (why : Stop) (x : Bound) → Binding.Bound x ≡ binding_of why → ⊥
stop_unbound Stop.Vanished x e = let none : ⊥ = cc in none
stop_unbound y x e = let none : ⊥ = cc in none

-- readings open no default
reads_open : {name : List ℕ} {ms : List Made} (b : Behind) → Reads name ms → opens_default b.last ≡ false → opens_default (behind_after b ms).last ≡ false
reads_open b No_more e = e
reads_open b (Then_read of at t ms may came r) e = reads_open (behind_more b (made_with (Read of at) t)) r refl

pub bound_few : {name : List ℕ} {ms : List Made} {x : Bound}
    → Binds_by name ms (Binding.Bound x) → count_calls ms ≤ binding_most name
bound_few {x = x} (Cut file call count ms of at t shut why r left a first may stops e) =
    absurd (stop_unbound why x e)
bound_few (Bound_by call count number total ms x a first are) =
    let end : Made = made_with (Ask_alive x.held.0) (told (Probe.Alive x.on) number total) in
    let most = files_few are in
    let sum = count_more ms (end ∷ []) in
    omega (arith, most, sum)

pub bound_found : {name : List ℕ} {ms : List Made} {x : Bound} (b : Behind)
    → Binds_by name ms (Binding.Bound x) → IsFound (behind_after b ms) x.held.0 x.on
bound_found {x = x} b (Cut file call count ms of at t shut why r left a first may stops e) =
    absurd (stop_unbound why x e)
bound_found {name} b (Bound_by call count number total ms x a first are) =
    let start : Made = made_with (Open name Authorized) (told (Opened.Token x.held) call count) in
    let end : Made = made_with (Ask_alive x.held.0) (told (Probe.Alive x.on) number total) in
    let c = behind_more b start in
    let last = ap (λ (v : Behind). v.found) (behind_join c ms (end ∷ [])) in
    let none = ap (λ (v : Bool). cond v (behind_after c ms).found (Some end)) (reads_open c a refl) in
    (told (Probe.Alive x.on) number total, last ∙ none, refl)

-- the opening of a second file

abbrev pub hold_faults : RemoveHold → List Fault
hold_faults (RemoveHold.Failed failed) = Fault.Call failed ∷ []
hold_faults RemoveHold.Memory = Fault.Memory ∷ []
hold_faults r = []

-- it is held where it is ready
abbrev pub hold_files : Control → RemoveHold → List OpenFile → List OpenFile
hold_files control (RemoveHold.Ready file) files = open_file file.0 control ∷ files
hold_files control r files = files

pub holds_calls : {control : Control} {name : List ℕ} {held : ℕ} {ms : List Made} {r : RemoveHold}
    (files : List OpenFile) (b : Behind) → Has files (open_file held Authorized)
    → Holds_by control name held ms r → CallsOf name files b ms (hold_files control r files) (hold_faults r) [] 2
holds_calls files b has (Held_on file on call count number total) =
    calls_are (refl, (inr has, tt)) (inl refl, (inl refl, tt)) (tt, (tt, tt)) refl refl refl refl
    (omega arith)
holds_calls {control} files b has (Died file call count number total shut) =
    calls_are (refl, (inr has, ((control, inl refl), tt))) (inl refl, (inl refl, (inr tt, tt)))
    (tt, (tt, (tt, tt)))
    (closed_first file.0 control files) refl refl refl (omega arith)
holds_calls {control} files b has (Unasked file call count number total shut) =
    calls_are (refl, (inr has, ((control, inl refl), tt))) (inl refl, (inl refl, (inr tt, tt)))
    (tt, (tt, (tt, tt)))
    (closed_first file.0 control files) refl refl refl (omega arith)
holds_calls files b has x =
    calls_are (refl, tt) (inl refl, tt) (tt, tt) refl refl refl refl (omega arith)

ready_once : {control : Control} {name : List ℕ} {held : ℕ} {ms : List Made} {file : Held} (b : Behind)
    → Holds_by control name held ms (RemoveHold.Ready file) → IsOnceDue control (behind_after b ms) file.0
ready_once {control} {name} {held} b (Held_on file on call count number total) = (
  (on, (held, told (Probe.Alive on) number total, refl, refl)),
  (name, told (Opened.Token file) call count, file, refl, refl, refl),
)

once_due : (what : Write) (b : Behind) (file : ℕ) → IsOnce (control_of what) → IsOnceDue (control_of what) b file → IsWriteDue b file what
once_due Write.On b file once h = absurd once
once_due Write.Off b file once h = absurd once
once_due x b file once h = h

pub ready_due : (what : Write) {name : List ℕ} {held : ℕ} {ms : List Made} {file : Held} (b : Behind)
    → IsOnce (control_of what) → Holds_by (control_of what) name held ms (RemoveHold.Ready file) → IsWriteDue (behind_after b ms) file.0 what
ready_due what {ms = ms} {file = file} b once h = once_due what (behind_after b ms) file.0 once (ready_once b h)

-- the probe of a value still counts behind a default that was written
held_found : {name : List ℕ} {held : ℕ} {ms : List Made} {file : Held} {h : ℕ} {on : Bool} (b : Behind) → Holds_by Default name held ms (RemoveHold.Ready file) → IsFound b h on → IsFound (behind_after b ms) h on
held_found b (Held_on file on call count number total) f = f

put_found : (what : Write) (file h : ℕ) (on : Bool) (t : ToldAnswer Wrote) (shut : Closing) (b : Behind) → control_of what ≡ Default → IsFound b h on → IsFound (behind_after b (made_with (Put file what) t ∷ made_with (Close file) shut ∷ [])) h on
put_found Write.DefaultOff file h on t shut b e f = f
put_found Write.DefaultOn file h on t shut b e f = f
put_found x file h on t shut b e f = let none : ⊥ = cc in absurd none

pub default_found : {name : List ℕ} {held : ℕ} {ms : List Made} {file : Held} {h : ℕ} {on : Bool} (what : Write) (t : ToldAnswer Wrote) (shut : Closing) (b : Behind) → control_of what ≡ Default → Holds_by (control_of what) name held ms (RemoveHold.Ready file) → IsFound b h on → IsFound (behind_after b (ms ++ made_with (Put file.0 what) t ∷ made_with (Close file.0) shut ∷ [])) h on
default_found {name} {held} {ms} {file} {h} {on} what t shut b e by f =
    let ns : List Made = made_with (Put file.0 what) t ∷ made_with (Close file.0) shut ∷ [] in
    let mid : IsFound (behind_after b ms) h on = held_found b (subst (λ (c : Control). Holds_by c name held ms (RemoveHold.Ready file)) e by) f in
    subst (λ (v : Behind). IsFound v h on) (sym (behind_join b ms ns)) (put_found what file.0 h on t shut (behind_after b ms) e mid)

pub hold_short : {control : Control} {name : List ℕ} {held : ℕ} {ms : List Made} → Holds_by control name held ms RemoveHold.Memory
    → FoundNoRoom control name ms
hold_short (No_memory call count) = (told Opened.Memory call count, inl refl, refl)
