use Rattle.std.proofs.Common.{subst}
use Rattle.std.specs.Prelude.{All}
use Rattle.ug_print.specs.Bytes.{AreBytes}
use Rattle.ug_print.specs.Ranges.{TripleInRange}
use Rattle.ug_print.proofs.generating.set_attributes.Goals as goal

pub returns-clause-range : goal.returns-clause-range
returns-clause-range c = record {
  vendor = c.in_ok-set_id.ensures.vendor;
  product = c.in_ok-set_id.ensures.product;
  serial = subst AreBytes c.bytes.ensures c.in_ok-set_text.ensures.bytes;
  name = subst AreBytes c.bytes-2.ensures c.in_ok-set_text-2.ensures.bytes;
  hash = c.in_ok-set_text-3.ensures.bytes;
  parent_hash = subst AreBytes c.bytes-3.ensures c.in_ok-set_text-4.ensures.bytes;
  via_port = subst AreBytes c.bytes-4.ensures c.in_ok-set_port.ensures.bytes;
  interfaces = subst (All TripleInRange) c.as_slice.ensures c.in_ok-set_interfaces.ensures.range;
  connect = subst AreBytes c.bytes-5.ensures c.in_ok-set_text-5.ensures.bytes;
}
