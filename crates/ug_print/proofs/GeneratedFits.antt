-- The rule of a device is well formed.
use Rattle.std.proofs.Common.{ℕ, ◌<◌, Bool, true, false, List, [], ◌∷◌, map, None, Some, arith, if◌then◌else◌}
use Rattle.std.specs.Prelude.{IfSome}
use Rattle.std.specs.List.{AllByRecursion}
use Rattle.std.proofs.lemmas.List.Elements.{All-from_recursion, recursion_from_All}
use Rattle.ug_types.specs.declared.record.DeviceRecord.{DeviceRecord}
use Rattle.ug_types.specs.declared.record.Triple.{Triple}
use Rattle.ug_types.specs.declared.verdict.Target.{Target}
use Rattle.ug_rule.specs.Grammar.{WellFormed}
use Rattle.ug_rule.specs.Values.{id_in, interface_in, string_in}
use Rattle.ug_words.specs.WordGrammar.{Exact, OfProtocol, id_with}
use Rattle.ug_words.proofs.WordCuts.{id_reads, interface_reads}
use Rattle.ug_print.specs.Bytes.{AreBytes, QueryOfBytes, RuleOfBytes, TextsOfBytes}
use Rattle.ug_print.specs.Generated.{equals, generated_of, interface_of_triple, interfaces_value, device_query}
use Rattle.ug_print.specs.Items.{id_text, interface_text, string_text}
use Rattle.ug_print.specs.Ranges.{RecordInRange, TripleInRange}
use Rattle.ug_print.specs.Words.{rule_text}
use Rattle.ug_words.proofs.Hexadecimal.{four_again, two_again}
use Rattle.ug_print.proofs.IdWords.{id_piece, interface_piece}
use Rattle.ug_print.proofs.QueryAgain.{QueryFits, ValuesFit}
use Rattle.ug_print.proofs.RuleAgain.{rule_again}
use Rattle.ug_print.proofs.Strings.{string_piece}
use Rattle.ug_print.proofs.ValuesAgain.{AllPieces, ItemPiece}

id_fits : (vendor product : ℕ) → vendor < 65536 → product < 65536 → IfSome (equals (id_with (Some vendor) (Some product) ∷ [])) (ValuesFit id_in id_text)
id_fits v p h k =
    let id = id_with (Some v) (Some p) in
    record { some = omega arith; each = (id_piece (id_text id) id (id_reads id (id_text id) (Exact v p _ _ (four_again v h) (four_again p k))), tt) }

text_fits : (text : List ℕ) → AreBytes text → IfSome (equals (text ∷ [])) (ValuesFit string_in string_text)
text_fits text b = record { some = omega arith; each = (string_piece text b, tt) }

port_fits : (with_port : Bool) (port : List ℕ) → AreBytes port → IfSome (if with_port then equals (port ∷ []) else None) (ValuesFit string_in string_text)
port_fits true port b = text_fits port b
port_fits false port b = tt

triple_fits : (triple : Triple) → TripleInRange triple → ItemPiece interface_in (interface_text (interface_of_triple triple)) (interface_of_triple triple)
triple_fits t r =
    let i = interface_of_triple t in
    interface_piece (interface_text i) i (interface_reads i (interface_text i) (OfProtocol t.class t.subclass t.protocol _ _ _ (two_again t.class r.class) (two_again t.subclass r.subclass) (two_again t.protocol r.protocol)))

all_fit : (triples : List Triple) → AllByRecursion TripleInRange triples → AllPieces interface_in interface_text (map interface_of_triple triples)
all_fit [] r = tt
all_fit (t ∷ triples) r = (triple_fits t r.0, all_fit triples r.1)

interfaces_fit : (triples : List Triple) → AllByRecursion TripleInRange triples → IfSome (interfaces_value triples) (ValuesFit interface_in interface_text)
interfaces_fit [] r = tt
interfaces_fit (t ∷ triples) r = record { some = omega arith; each = all_fit (t ∷ triples) r }

query_fits : (device : DeviceRecord) (with_port : Bool) → RecordInRange device → QueryFits (device_query device with_port)
unfolding device_query
query_fits device with_port r = record {
  id = id_fits device.vendor device.product r.vendor r.product;
  serial = text_fits device.serial r.serial;
  name = text_fits device.name r.name;
  hash = text_fits device.hash r.hash;
  parent_hash = text_fits device.parent_hash r.parent_hash;
  via_port = port_fits with_port device.via_port r.via_port;
  interface = interfaces_fit device.interfaces (recursion_from_All TripleInRange device.interfaces r.interfaces);
  connect = text_fits device.connect r.connect;
  label = tt;
}

pub generated_well : (device : DeviceRecord) (target : Target) (with_port : Bool) → RecordInRange device → WellFormed (generated_of device target with_port)
unfolding generated_of
generated_well device target with_port r =
    let rule = generated_of device target with_port in
    record { line = rule_text rule; says = rule_again rule (record { query = query_fits device with_port r; conds = tt }) }

-- ---- its texts are bytes

one_of_bytes : (text : List ℕ) → AreBytes text → TextsOfBytes (equals (text ∷ []))
one_of_bytes text b = All-from_recursion AreBytes (text ∷ []) (b, tt)

port_of_bytes : (with_port : Bool) (port : List ℕ) → AreBytes port → TextsOfBytes (if with_port then equals (port ∷ []) else None)
port_of_bytes true port b = one_of_bytes port b
port_of_bytes false port b = tt

query_of_bytes : (device : DeviceRecord) (with_port : Bool) → RecordInRange device → QueryOfBytes (device_query device with_port)
unfolding device_query
query_of_bytes device with_port r = record {
  serial = one_of_bytes device.serial r.serial;
  name = one_of_bytes device.name r.name;
  hash = one_of_bytes device.hash r.hash;
  parent_hash = one_of_bytes device.parent_hash r.parent_hash;
  via_port = port_of_bytes with_port device.via_port r.via_port;
  connect = one_of_bytes device.connect r.connect;
  label = tt;
}

pub generated_bytes : (device : DeviceRecord) (target : Target) (with_port : Bool) → RecordInRange device → RuleOfBytes (generated_of device target with_port)
unfolding generated_of
generated_bytes device target with_port r = record { query = query_of_bytes device with_port r; conds = tt }
