-- A binding, flat: each way through its tree has one of these shapes; and so has each that opens a second file of a held device.
use Rattle.std.proofs.Common.{length, ◌≡◌, ℕ, ◌+◌, ◌≤◌, Bool, true, ◌&&◌, List, [], ◌∷◌, ◌++◌, Option, Some, None, Result, Ok, Err, ◌⊎◌, inl, inr, refl, sym, subst, append-nil, arith}
use Rattle.ug_types.specs.Names.{parent_of}
use Rattle.ug_types.specs.declared.record.Attrs.{Attrs}
use Rattle.ug_kernel.specs.declared.control.Held.{Held}
use Rattle.ug_kernel.specs.declared.control.Attr.{Attr}
use Rattle.ug_kernel.specs.declared.control.Control.{Control}
use Rattle.ug_kernel.specs.declared.control.Control.TheVariants.{Authorized}
use Rattle.ug_kernel.specs.declared.calls.ReadOut.{ReadOut}
use Rattle.ug_kernel.specs.declared.calls.Opened.{Opened}
use Rattle.ug_kernel.specs.declared.calls.Probe.{Probe}
use Rattle.ug_kernel.specs.Calls.{Open, Read, Ask_alive, Close, Closing, ToldAnswer}
use Rattle.ug_kernel.specs.Tree.{Prog, then}
use Rattle.ug_kernel.specs.Along.{Made, made_with, count_calls}
use Rattle.ug_kernel.specs.Files.{after_read, reading, own_of, after_connect, after_serial, after_product, after_descriptors, reading_own, parent_of_files, after_parent_serial, after_parent_product, after_parent_descriptors, reading_parent}
use Rattle.ug_kernel.specs.Bind.{binding_of, after_probe, asking_alive, after_parent, to_parent, after_own, after_open, binding}
use Rattle.ug_kernel.specs.Bound.{file_bytes, is_too_long}
use Rattle.ug_kernel.specs.Removal.{after_hold_probe, after_hold_open, holding}
use Rattle.ug_kernel.specs.declared.files.File.{File}
use Rattle.ug_kernel.specs.declared.files.OwnFiles.{OwnFiles}
use Rattle.ug_kernel.specs.declared.files.Stop.{Stop}
use Rattle.ug_kernel.specs.declared.identity.Bound.{Bound}
use Rattle.ug_kernel.specs.declared.identity.Binding.{Binding}
use Rattle.ug_kernel.specs.declared.removal.RemoveHold.{RemoveHold}
use Rattle.ug_kernel.proofs.Ways.{Ways, Sure, Way, ways_more, ways_then, ways_of, sure_ways}

abbrev pub told : {X : Type 0} → X → ℕ → ℕ → ToldAnswer X
told answer number count = record { answer = answer; number = number; count = count }

-- files of the name or of its parent
abbrev pub IsReadable : List ℕ → List ℕ → Type 0
IsReadable name of = (of ≡ name) ⊎ (parent_of name ≡ Some of)

-- a reading of that file came to something: a device without descriptors has vanished
abbrev pub Came : ReadOut → Attr → Type 0
Came (ReadOut.Bytes bytes) at = Unit {0}
Came ReadOut.Absent Attr.Descriptors = ⊥
Came ReadOut.Absent at = Unit {0}
Came ReadOut.TooLong at = Unit {0}
Came ReadOut.Failed at = ⊥
Came ReadOut.Memory at = ⊥

-- readings that came to something
pub data Reads (name : List ℕ) : List Made → Type 0 where
  No_more : Reads name []
  Then_read : (of : List ℕ) (at : Attr) (t : ToldAnswer ReadOut) (ms : List Made) → IsReadable name of → Came t.answer at → Reads name ms → Reads name (made_with (Read of at) t ∷ ms)

-- the files that are read, in order: a device's own, before others, and its parent's
abbrev pub own_first : List ℕ → List (List ℕ × Attr) → List (List ℕ × Attr)
own_first name files = (name, Attr.Descriptors) ∷ (name, Attr.Product) ∷ (name, Attr.Serial) ∷ (name, Attr.Connect) ∷ files

abbrev pub parent_files : Option (List ℕ) → List (List ℕ × Attr)
parent_files None = []
parent_files (Some parent) = (parent, Attr.Descriptors) ∷ (parent, Attr.Product) ∷ (parent, Attr.Serial) ∷ []

abbrev pub files_of : List ℕ → List (List ℕ × Attr)
files_of name = own_first name (parent_files (parent_of name))

-- the first of these files were read, in order, and came to something; those are left
pub data ReadsFirst : List (List ℕ × Attr) → List Made → List (List ℕ × Attr) → Type 0 where
  None_read : (files : List (List ℕ × Attr)) → ReadsFirst files [] files
  One_read : (of : List ℕ) (at : Attr) (t : ToldAnswer ReadOut) (ms : List Made) (files left : List (List ℕ × Attr)) → Came t.answer at → ReadsFirst files ms left → ReadsFirst ((of, at) ∷ files) (made_with (Read of at) t ∷ ms) left

-- one that stops
pub data Stops : Attr → ToldAnswer ReadOut → Stop → Type 0 where
  No_descriptors : (call count : ℕ) → Stops Attr.Descriptors (told ReadOut.Absent call count) Stop.Vanished
  Read_failed : (at : Attr) (call count : ℕ) → Stops at (told ReadOut.Failed call count) (Stop.Fault (record { call = call; count = count }))
  Read_short : (at : Attr) (call count : ℕ) → Stops at (told ReadOut.Memory call count) Stop.Memory

abbrev pub file_from : ReadOut → File
file_from answer = record { bytes = file_bytes answer; too_long = is_too_long answer }

abbrev pub own_from : ReadOut → ReadOut → ReadOut → ReadOut → OwnFiles
own_from d p s c = own_of (file_from d) (file_from p) (file_from s) (file_from c)

abbrev pub parents_from : ReadOut → ReadOut → ReadOut → Attrs
parents_from d p s = parent_of_files (file_from d) (file_from p) (file_from s)

-- the readings of a device's own files, before others, and those of its parent's
abbrev pub reads_own : List ℕ → ToldAnswer ReadOut → ToldAnswer ReadOut → ToldAnswer ReadOut → ToldAnswer ReadOut → List Made → List Made
reads_own name d p s c ms = made_with (Read name Attr.Descriptors) d ∷ made_with (Read name Attr.Product) p ∷ made_with (Read name Attr.Serial) s ∷ made_with (Read name Attr.Connect) c ∷ ms

abbrev pub reads_parents : List ℕ → ToldAnswer ReadOut → ToldAnswer ReadOut → ToldAnswer ReadOut → List Made
reads_parents parent d p s = made_with (Read parent Attr.Descriptors) d ∷ made_with (Read parent Attr.Product) p ∷ made_with (Read parent Attr.Serial) s ∷ []

-- what was read is the attributes, and the parent's where the name has a parent's
pub data Files (name : List ℕ) : List Made → OwnFiles → Option Attrs → Type 0 where
  Alone : (d p s c : ToldAnswer ReadOut) → parent_of name ≡ None → Files name (reads_own name d p s c []) (own_from d.answer p.answer s.answer c.answer) None
  Below : (parent : List ℕ) (d p s c x y z : ToldAnswer ReadOut) → parent_of name ≡ Some parent → Files name (reads_own name d p s c (reads_parents parent x y z)) (own_from d.answer p.answer s.answer c.answer) (Some (parents_from x.answer y.answer z.answer))

-- what a bound device tells of its own files
abbrev pub own_files : Bound → OwnFiles
own_files b = record { attrs = b.attrs; core_long = b.core_long }

-- the calls of a binding
pub data Binds_by (name : List ℕ) : List Made → Binding → Type 0 where
  No_such : (call count : ℕ) → Binds_by name (made_with (Open name Authorized) (told Opened.Absent call count) ∷ []) Binding.Absent
  Open_failed : (call count : ℕ) → Binds_by name (made_with (Open name Authorized) (told Opened.Failed call count) ∷ []) (Binding.Failed (record { call = call; count = count }))
  Open_short : (call count : ℕ) → Binds_by name (made_with (Open name Authorized) (told Opened.Memory call count) ∷ []) Binding.Memory
  Cut : (file : Held) (call count : ℕ) (ms : List Made) (of : List ℕ) (at : Attr) (t : ToldAnswer ReadOut) (shut : Closing) (why : Stop) (r : Binding) (left : List (List ℕ × Attr)) → Reads name ms → ReadsFirst (files_of name) ms ((of, at) ∷ left) → IsReadable name of → Stops at t why → r ≡ binding_of why → Binds_by name (made_with (Open name Authorized) (told (Opened.Token file) call count) ∷ (ms ++ made_with (Read of at) t ∷ made_with (Close file.0) shut ∷ [])) r
  Probed_gone : (file : Held) (call count number total : ℕ) (ms : List Made) (shut : Closing) → Reads name ms → ReadsFirst (files_of name) ms [] → Binds_by name (made_with (Open name Authorized) (told (Opened.Token file) call count) ∷ (ms ++ made_with (Ask_alive file.0) (told Probe.Gone number total) ∷ made_with (Close file.0) shut ∷ [])) Binding.Vanished
  Probe_failed : (file : Held) (call count number total : ℕ) (ms : List Made) (shut : Closing) → Reads name ms → ReadsFirst (files_of name) ms [] → Binds_by name (made_with (Open name Authorized) (told (Opened.Token file) call count) ∷ (ms ++ made_with (Ask_alive file.0) (told Probe.Failed number total) ∷ made_with (Close file.0) shut ∷ [])) (Binding.Failed (record { call = number; count = total }))
  Bound_by : (call count number total : ℕ) (ms : List Made) (b : Bound) → Reads name ms → ReadsFirst (files_of name) ms [] → Files name ms (own_files b) b.parent → Binds_by name (made_with (Open name Authorized) (told (Opened.Token b.held) call count) ∷ (ms ++ made_with (Ask_alive b.held.0) (told (Probe.Alive b.on) number total) ∷ [])) (Binding.Bound b)

-- and those that open a second file
pub data Holds_by (control : Control) (name : List ℕ) (held : ℕ) : List Made → RemoveHold → Type 0 where
  Not_there : (call count : ℕ) → Holds_by control name held (made_with (Open name control) (told Opened.Absent call count) ∷ []) RemoveHold.Gone
  Not_opened : (call count : ℕ) → Holds_by control name held (made_with (Open name control) (told Opened.Failed call count) ∷ []) (RemoveHold.Failed (record { call = call; count = count }))
  No_memory : (call count : ℕ) → Holds_by control name held (made_with (Open name control) (told Opened.Memory call count) ∷ []) RemoveHold.Memory
  Held_on : (file : Held) (on : Bool) (call count number total : ℕ) → Holds_by control name held (made_with (Open name control) (told (Opened.Token file) call count) ∷ made_with (Ask_alive held) (told (Probe.Alive on) number total) ∷ []) (RemoveHold.Ready file)
  Died : (file : Held) (call count number total : ℕ) (shut : Closing) → Holds_by control name held (made_with (Open name control) (told (Opened.Token file) call count) ∷ made_with (Ask_alive held) (told Probe.Gone number total) ∷ made_with (Close file.0) shut ∷ []) RemoveHold.Gone
  Unasked : (file : Held) (call count number total : ℕ) (shut : Closing) → Holds_by control name held (made_with (Open name control) (told (Opened.Token file) call count) ∷ made_with (Ask_alive held) (told Probe.Failed number total) ∷ made_with (Close file.0) shut ∷ []) (RemoveHold.Failed (record { call = number; count = total }))

pub first_more : {fs gs left : List (List ℕ × Attr)} {ms ns : List Made} → ReadsFirst fs ms gs → ReadsFirst gs ns left → ReadsFirst fs (ms ++ ns) left
first_more (None_read files) b = b
first_more (One_read of at t ms files left came a) b = One_read of at t _ files _ came (first_more a b)

-- they are seven at most
first_count : {files left : List (List ℕ × Attr)} {ms : List Made} → ReadsFirst files ms left → count_calls ms + length left ≡ length files
first_count (None_read files) = omega arith
first_count (One_read of at t ms files left came a) = omega (arith, first_count a)

pub first_few : {name : List ℕ} {left : List (List ℕ × Attr)} {ms : List Made} → ReadsFirst (files_of name) ms left → count_calls ms ≤ 7
first_few {name} a = by (parent_of name) _ _ (first_count a)
  where
    by : (parent : Option (List ℕ)) (n m : ℕ) → n + m ≡ length (own_first name (parent_files parent)) → n ≤ 7
    by None n m e = omega (arith, e)
    by (Some p) n m e = omega (arith, e)

-- the walk

pub count_more : (ms ns : List Made) → count_calls (ms ++ ns) ≡ count_calls ms + count_calls ns
count_more [] ns = omega arith
count_more (m ∷ ms) ns = let e = count_more ms ns in omega (arith, e)

pub reads_more : {name : List ℕ} {ms ns : List Made} → Reads name ms → Reads name ns → Reads name (ms ++ ns)
reads_more No_more b = b
reads_more (Then_read of at t ms may came a) b = Then_read of at t _ may came (reads_more a b)

-- what follows a file that was read, and one that stops
abbrev pub Goes_on : {X : Type 0} → List ℕ → Attr → (Result File Stop → Prog X) → (Bool → List Made → X → Type 0) → Type 0
Goes_on of at f P = (t : ToldAnswer ReadOut) → Came t.answer at → Ways (f (Ok (file_from t.answer))) (λ ok ms r. P ok (made_with (Read of at) t ∷ ms) r)

abbrev pub Breaks_off : {X : Type 0} → List ℕ → Attr → ℕ → (Result File Stop → Prog X) → (Bool → List Made → X → Type 0) → Type 0
Breaks_off of at held f P = (t : ToldAnswer ReadOut) (why : Stop) (shut : Closing) → Stops at t why → Ways (f (Err why)) (λ ok ms r. P ok (made_with (Read of at) t ∷ made_with (Close held) shut ∷ ms) r)

read_by : {X : Type 0} (of : List ℕ) (at : Attr) (held : ℕ) (f : Result File Stop → Prog X) (P : Bool → List Made → X → Type 0) → Goes_on of at f P → Breaks_off of at held f P → (r : ReadOut) (call count : ℕ) → Ways (then (after_read at held r (record { call = call; count = count })) f) (λ ok ms x. P ok (made_with (Read of at) (told r call count) ∷ ms) x)
read_by of at held f P goes stops (ReadOut.Bytes bytes) call count = goes (told (ReadOut.Bytes bytes) call count) tt
read_by of Attr.Descriptors held f P goes stops ReadOut.Absent call count = λ shut. stops (told ReadOut.Absent call count) Stop.Vanished shut (No_descriptors call count)
read_by of at held f P goes stops ReadOut.TooLong call count = goes (told ReadOut.TooLong call count) tt
read_by of at held f P goes stops ReadOut.Failed call count = λ shut. stops (told ReadOut.Failed call count) (Stop.Fault (record { call = call; count = count })) shut (Read_failed at call count)
read_by of at held f P goes stops ReadOut.Memory call count = λ shut. stops (told ReadOut.Memory call count) Stop.Memory shut (Read_short at call count)
read_by of x held f P goes stops ReadOut.Absent call count = goes (told ReadOut.Absent call count) tt

then_read : {X : Type 0} (of : List ℕ) (at : Attr) (held : ℕ) (f : Result File Stop → Prog X) (P : Bool → List Made → X → Type 0) → Goes_on of at f P → Breaks_off of at held f P → Ways (then (reading of at held) f) P
unfolding reading
then_read of at held f P goes stops = λ t. read_by of at held f P goes stops t.answer t.number t.count

-- the first of these files were read, and the reading of the next one stops
abbrev pub Cuts : {X : Type 0} → List (List ℕ × Attr) → List ℕ → List ℕ → ℕ → (Bool → List Made → Result X Stop → Type 0) → Type 0
Cuts files name of held P = (ms : List Made) (at : Attr) (t : ToldAnswer ReadOut) (why : Stop) (shut : Closing) (left : List (List ℕ × Attr)) → Reads name ms → ReadsFirst files ms ((of, at) ∷ left) → Stops at t why → P true (ms ++ made_with (Read of at) t ∷ made_with (Close held) shut ∷ []) (Err why)

pub own_read : (name : List ℕ) (held : ℕ) (files : List (List ℕ × Attr)) (P : Bool → List Made → Result OwnFiles Stop → Type 0) → ((d p s c : ToldAnswer ReadOut) → Reads name (reads_own name d p s c []) → ReadsFirst (own_first name files) (reads_own name d p s c []) files → P true (reads_own name d p s c []) (Ok (own_from d.answer p.answer s.answer c.answer))) → Cuts (own_first name files) name name held P → Ways (reading_own name held) P
unfolding reading_own
own_read name held files P all cut =
    let is : IsReadable name name = inl refl in
    then_read name Attr.Descriptors held (after_descriptors name held) P (λ d hd.
    then_read name Attr.Product held (after_product name held (file_from d.answer)) (λ ok ms r. P ok (made_with (Read name Attr.Descriptors) d ∷ ms) r) (λ p hp.
    then_read name Attr.Serial held (after_serial name held (file_from d.answer) (file_from p.answer)) (λ ok ms r. P ok (made_with (Read name Attr.Descriptors) d ∷ made_with (Read name Attr.Product) p ∷ ms) r) (λ s hs.
    then_read name Attr.Connect held (after_connect (file_from d.answer) (file_from p.answer) (file_from s.answer)) (λ ok ms r. P ok (made_with (Read name Attr.Descriptors) d ∷ made_with (Read name Attr.Product) p ∷ made_with (Read name Attr.Serial) s ∷ ms) r)
    (λ c hc. all d p s c (Then_read name Attr.Descriptors d _ is hd (Then_read name Attr.Product p _ is hp (Then_read name Attr.Serial s _ is hs (Then_read name Attr.Connect c _ is hc No_more))))
    (One_read name Attr.Descriptors d _ _ _ hd (One_read name Attr.Product p _ _ _ hp (One_read name Attr.Serial s _ _ _ hs (One_read name Attr.Connect c _ _ _ hc (None_read files))))))
    (λ t why shut e. cut _ Attr.Connect t why shut files (Then_read name Attr.Descriptors d _ is hd (Then_read name Attr.Product p _ is hp (Then_read name Attr.Serial s _ is hs No_more)))
    (One_read name Attr.Descriptors d _ _ _ hd (One_read name Attr.Product p _ _ _ hp (One_read name Attr.Serial s _ _ _ hs (None_read _)))) e))
    (λ t why shut e. cut _ Attr.Serial t why shut _ (Then_read name Attr.Descriptors d _ is hd (Then_read name Attr.Product p _ is hp No_more)) (One_read name Attr.Descriptors d _ _ _ hd (One_read name Attr.Product p _ _ _ hp (None_read _))) e))
    (λ t why shut e. cut _ Attr.Product t why shut _ (Then_read name Attr.Descriptors d _ is hd No_more) (One_read name Attr.Descriptors d _ _ _ hd (None_read _)) e))
    (λ t why shut e. cut _ Attr.Descriptors t why shut _ No_more (None_read _) e)

pub parent_read : (name parent : List ℕ) (held : ℕ) → IsReadable name parent → (P : Bool → List Made → Result Attrs Stop → Type 0) → ((d p s : ToldAnswer ReadOut) → Reads name (reads_parents parent d p s) → ReadsFirst (parent_files (Some parent)) (reads_parents parent d p s) [] → P true (reads_parents parent d p s) (Ok (parents_from d.answer p.answer s.answer))) → Cuts (parent_files (Some parent)) name parent held P → Ways (reading_parent parent held) P
unfolding reading_parent
parent_read name parent held is P all cut =
    then_read parent Attr.Descriptors held (after_parent_descriptors parent held) P (λ d hd.
    then_read parent Attr.Product held (after_parent_product parent held (file_from d.answer)) (λ ok ms r. P ok (made_with (Read parent Attr.Descriptors) d ∷ ms) r) (λ p hp.
    then_read parent Attr.Serial held (after_parent_serial (file_from d.answer) (file_from p.answer)) (λ ok ms r. P ok (made_with (Read parent Attr.Descriptors) d ∷ made_with (Read parent Attr.Product) p ∷ ms) r)
    (λ s hs. all d p s (Then_read parent Attr.Descriptors d _ is hd (Then_read parent Attr.Product p _ is hp (Then_read parent Attr.Serial s _ is hs No_more)))
    (One_read parent Attr.Descriptors d _ _ _ hd (One_read parent Attr.Product p _ _ _ hp (One_read parent Attr.Serial s _ _ _ hs (None_read [])))))
    (λ t why shut e. cut _ Attr.Serial t why shut _ (Then_read parent Attr.Descriptors d _ is hd (Then_read parent Attr.Product p _ is hp No_more)) (One_read parent Attr.Descriptors d _ _ _ hd (One_read parent Attr.Product p _ _ _ hp (None_read _))) e))
    (λ t why shut e. cut _ Attr.Product t why shut _ (Then_read parent Attr.Descriptors d _ is hd No_more) (One_read parent Attr.Descriptors d _ _ _ hd (None_read _)) e))
    (λ t why shut e. cut _ Attr.Descriptors t why shut _ No_more (None_read _) e)

pub binds_by : (name : List ℕ) → Ways (binding name (parent_of name)) (Sure (Binds_by name))
unfolding binding
binds_by name = λ t. opened_by t.answer t.number t.count
  where
    -- of the calls behind the opening
    After : Held → ℕ → ℕ → List Made → Binding → Type 0
    After file call count ms r = Binds_by name (made_with (Open name Authorized) (told (Opened.Token file) call count) ∷ ms) r

    probed : (file : Held) (call count : ℕ) (own : OwnFiles) (parent : Option Attrs) (ms : List Made) → Reads name ms → ReadsFirst (files_of name) ms [] → Files name ms own parent → Ways (asking_alive file.0 own parent) (Sure (λ ns r. After file call count (ms ++ ns) r))
    probed file call count own parent ms a first are = λ t. by t.answer t.number t.count
      where
        by : (r : Probe) (number total : ℕ) → Ways (after_probe file.0 own parent r (record { call = number; count = total })) (Sure (λ ns x. After file call count (ms ++ made_with (Ask_alive file.0) (told r number total) ∷ ns) x))
        by (Probe.Alive on) number total = (refl, Bound_by call count number total ms (record { held = record { 0 = file.0 }; attrs = own.attrs; core_long = own.core_long; parent = parent; on = on }) a first are)
        by Probe.Gone number total = λ shut. (refl, Probed_gone file call count number total ms shut a first)
        by Probe.Failed number total = λ shut. (refl, Probe_failed file call count number total ms shut a first)

    cut : (file : Held) (call count : ℕ) (ms : List Made) (of : List ℕ) (at : Attr) (t : ToldAnswer ReadOut) (why : Stop) (shut : Closing) (left : List (List ℕ × Attr)) → Reads name ms → ReadsFirst (files_of name) ms ((of, at) ∷ left) → IsReadable name of → Stops at t why → Sure (After file call count) true ((ms ++ made_with (Read of at) t ∷ made_with (Close file.0) shut ∷ []) ++ []) (binding_of why)
    cut file call count ms of at t why shut left a first may stops =
        (refl, subst (λ v. After file call count v (binding_of why)) (sym (append-nil (ms ++ made_with (Read of at) t ∷ made_with (Close file.0) shut ∷ []))) (Cut file call count ms of at t shut why (binding_of why) left a first may stops refl))

    below : (file : Held) (call count : ℕ) (d p s c : ToldAnswer ReadOut) → Reads name (reads_own name d p s c []) → (parent : Option (List ℕ)) → parent_of name ≡ parent → ReadsFirst (files_of name) (reads_own name d p s c []) (parent_files parent) → Ways (to_parent file.0 (own_from d.answer p.answer s.answer c.answer) parent) (Sure (λ ns r. After file call count (reads_own name d p s c ns) r))
    below file call count d p s c a None e f = probed file call count (own_from d.answer p.answer s.answer c.answer) None (reads_own name d p s c []) a f (Alone d p s c e)
    below file call count d p s c a (Some parent) e f =
        ways_then (Sure (λ ns r. After file call count (reads_own name d p s c ns) r)) (reading_parent parent file.0) (after_parent file.0 (own_from d.answer p.answer s.answer c.answer))
        (parent_read name parent file.0 (inr e) (λ ok ms q. Ways (after_parent file.0 (own_from d.answer p.answer s.answer c.answer) q) (λ more ns r. Sure (λ os x. After file call count (reads_own name d p s c os) x) (ok && more) (ms ++ ns) r))
        (λ x y z b g. probed file call count (own_from d.answer p.answer s.answer c.answer) (Some (parents_from x.answer y.answer z.answer)) (reads_own name d p s c (reads_parents parent x y z)) (reads_more a b) (first_more f g) (Below parent d p s c x y z e))
        (λ ms at t why shut left b g stops. cut file call count (reads_own name d p s c ms) parent at t why shut left (reads_more a b) (first_more f g) (inr e) stops))

    opened_by : (r : Opened) (call count : ℕ) → Ways (after_open name (parent_of name) r (record { call = call; count = count })) (Sure (λ ms x. Binds_by name (made_with (Open name Authorized) (told r call count) ∷ ms) x))
    opened_by (Opened.Token file) call count =
        ways_then (Sure (After file call count)) (reading_own name file.0) (after_own file.0 (parent_of name))
        (own_read name file.0 (parent_files (parent_of name)) (λ ok ms q. Ways (after_own file.0 (parent_of name) q) (λ more ns r. Sure (After file call count) (ok && more) (ms ++ ns) r))
        (λ d p s c a f. below file call count d p s c a (parent_of name) refl f)
        (λ ms at t why shut left a f stops. cut file call count ms name at t why shut left a f (inl refl) stops))
    opened_by Opened.Absent call count = (refl, No_such call count)
    opened_by Opened.Failed call count = (refl, Open_failed call count)
    opened_by Opened.Memory call count = (refl, Open_short call count)

pub holds_by : (control : Control) (name : List ℕ) (held : ℕ) → Ways (holding control name held) (Sure (Holds_by control name held))
unfolding holding
holds_by control name held = λ t. by t.answer t.number t.count
  where
    probed : (file : Held) (call count : ℕ) (r : Probe) (number total : ℕ) → Ways (after_hold_probe file r (record { call = number; count = total })) (Sure (λ ms x. Holds_by control name held (made_with (Open name control) (told (Opened.Token file) call count) ∷ made_with (Ask_alive held) (told r number total) ∷ ms) x))
    probed file call count (Probe.Alive on) number total = (refl, Held_on file on call count number total)
    probed file call count Probe.Gone number total = λ shut. (refl, Died file call count number total shut)
    probed file call count Probe.Failed number total = λ shut. (refl, Unasked file call count number total shut)

    by : (r : Opened) (call count : ℕ) → Ways (after_hold_open held r (record { call = call; count = count })) (Sure (λ ms x. Holds_by control name held (made_with (Open name control) (told r call count) ∷ ms) x))
    by (Opened.Token file) call count = λ t. probed file call count t.answer t.number t.count
    by Opened.Absent call count = (refl, Not_there call count)
    by Opened.Failed call count = (refl, Not_opened call count)
    by Opened.Memory call count = (refl, No_memory call count)

-- what a way that a lower law speaks of is like

pub way_binds : (name : List ℕ) (ms : List Made) (r : Binding) → Way (binding name (parent_of name)) ms r → Binds_by name ms r
way_binds name ms r way = ways_of (Binds_by name) (binding name (parent_of name)) ms r (ways_more (Sure (Binds_by name)) (λ ok ns x. Binds_by name ns x) (binding name (parent_of name)) (λ ok ns x h. h.1) (binds_by name)) way

pub way_holds : (control : Control) (name : List ℕ) (held : ℕ) (ms : List Made) (r : RemoveHold) → Way (holding control name held) ms r → Holds_by control name held ms r
way_holds control name held ms r way = ways_of (Holds_by control name held) (holding control name held) ms r (ways_more (Sure (Holds_by control name held)) (λ ok ns x. Holds_by control name held ns x) (holding control name held) (λ ok ns x h. h.1) (holds_by control name held)) way

pub sure_binding : (name : List ℕ) → Ways (binding name (parent_of name)) (Sure (Way (binding name (parent_of name))))
sure_binding name = sure_ways (Binds_by name) (binding name (parent_of name)) (binds_by name)

pub sure_hold : (control : Control) (name : List ℕ) (held : ℕ) → Ways (holding control name held) (Sure (Way (holding control name held)))
sure_hold control name held = sure_ways (Holds_by control name held) (holding control name held) (holds_by control name held)
