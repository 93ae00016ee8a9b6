-- The calls that read a device's files, in order.
use Rattle.std.specs.Prelude.{ℕ, Bool, true, false, ◌||◌, List, [], Result, Ok, Err}
use Rattle.ug_types.specs.declared.record.Attrs.{Attrs}
use Rattle.ug_kernel.specs.declared.control.Attr.{Attr}
use Rattle.ug_kernel.specs.declared.control.Attr.TheVariants as attr
use Rattle.ug_kernel.specs.declared.calls.ReadOut.{ReadOut}
use Rattle.ug_kernel.specs.declared.calls.ReadOut.TheVariants as out
use Rattle.ug_kernel.specs.declared.calls.FailedCall.{FailedCall}
use Rattle.ug_kernel.specs.Calls.{Read, Close}
use Rattle.ug_kernel.specs.Along.{failure_of}
use Rattle.ug_kernel.specs.Tree.{Prog, Return, Ask, then}
use Rattle.ug_kernel.specs.declared.files.File.{File}
use Rattle.ug_kernel.specs.declared.files.OwnFiles.{OwnFiles}
use Rattle.ug_kernel.specs.declared.files.Stop.{Stop}
use Rattle.ug_kernel.specs.declared.files.Stop.TheVariants as stop

-- the held file is closed, and that is all
abbrev pub giving_up : ℕ → Stop → Prog (Result File Stop)
giving_up held why = Ask (Close held) (λ closed. Return (Err why))

abbrev pub file_is : List ℕ → Bool → Prog (Result File Stop)
file_is bytes too_long = Return (Ok (record { bytes = bytes; too_long = too_long }))

-- an absent file is empty, but no device lacks its descriptors
abbrev pub if_absent : Attr → ℕ → Prog (Result File Stop)
if_absent attr.Descriptors held = giving_up held stop.Vanished
if_absent attr.Product held = file_is [] false
if_absent attr.Serial held = file_is [] false
if_absent attr.Connect held = file_is [] false

abbrev pub after_read : Attr → ℕ → ReadOut → FailedCall → Prog (Result File Stop)
after_read attr held (out.Bytes bytes) failed = file_is bytes false
after_read attr held out.Absent failed = if_absent attr held
after_read attr held out.TooLong failed = file_is [] true
after_read attr held out.Failed failed = giving_up held (stop.Fault failed)
after_read attr held out.Memory failed = giving_up held stop.Memory

-- one file
unfoldable pub reading : List ℕ → Attr → ℕ → Prog (Result File Stop)
reading name attr held = Ask (Read name attr) (λ t. after_read attr held t.answer (failure_of t))

abbrev pub own_of : File → File → File → File → OwnFiles
own_of d p s c =
    record {
      attrs = record {
        descriptors = d.bytes;
        product = p.bytes;
        serial = s.bytes;
        connect = c.bytes;
        too_long = d.too_long || p.too_long || s.too_long || c.too_long;
      };
      core_long = d.too_long || p.too_long || s.too_long;
    }

abbrev pub after_connect : File → File → File → Result File Stop → Prog (Result OwnFiles Stop)
after_connect d p s (Ok c) = Return (Ok (own_of d p s c))
after_connect d p s (Err why) = Return (Err why)

abbrev pub after_serial : List ℕ → ℕ → File → File → Result File Stop → Prog (Result OwnFiles Stop)
after_serial name held d p (Ok s) = then (reading name attr.Connect held) (after_connect d p s)
after_serial name held d p (Err why) = Return (Err why)

abbrev pub after_product : List ℕ → ℕ → File → Result File Stop → Prog (Result OwnFiles Stop)
after_product name held d (Ok p) = then (reading name attr.Serial held) (after_serial name held d p)
after_product name held d (Err why) = Return (Err why)

abbrev pub after_descriptors : List ℕ → ℕ → Result File Stop → Prog (Result OwnFiles Stop)
after_descriptors name held (Ok d) =
    then (reading name attr.Product held) (after_product name held d)
after_descriptors name held (Err why) = Return (Err why)

-- descriptors, product, serial, connect
unfoldable pub reading_own : List ℕ → ℕ → Prog (Result OwnFiles Stop)
reading_own name held = then (reading name attr.Descriptors held) (after_descriptors name held)

abbrev pub parent_of_files : File → File → File → Attrs
parent_of_files d p s =
    record {
      descriptors = d.bytes;
      product = p.bytes;
      serial = s.bytes;
      connect = [];
      too_long = d.too_long || p.too_long || s.too_long;
    }

abbrev pub after_parent_serial : File → File → Result File Stop → Prog (Result Attrs Stop)
after_parent_serial d p (Ok s) = Return (Ok (parent_of_files d p s))
after_parent_serial d p (Err why) = Return (Err why)

abbrev pub after_parent_product : List ℕ → ℕ → File → Result File Stop → Prog (Result Attrs Stop)
after_parent_product name held d (Ok p) =
    then (reading name attr.Serial held) (after_parent_serial d p)
after_parent_product name held d (Err why) = Return (Err why)

abbrev pub after_parent_descriptors : List ℕ → ℕ → Result File Stop → Prog (Result Attrs Stop)
after_parent_descriptors name held (Ok d) =
    then (reading name attr.Product held) (after_parent_product name held d)
after_parent_descriptors name held (Err why) = Return (Err why)

-- the parent's descriptors, product and serial
unfoldable pub reading_parent : List ℕ → ℕ → Prog (Result Attrs Stop)
reading_parent name held =
    then (reading name attr.Descriptors held) (after_parent_descriptors name held)
