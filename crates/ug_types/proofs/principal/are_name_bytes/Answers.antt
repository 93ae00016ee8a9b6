use Rattle.ug_types.specs.Principals.{is_name_byte}
use Rattle.ug_types.proofs.Tested.{all_failed, all_more, all_ended}
use Rattle.ug_types.proofs.principal.are_name_bytes.Goals as goal

pub returns-then-not-is_name_byte : goal.returns-then-not-is_name_byte
returns-then-not-is_name_byte c = all_failed is_name_byte c.args.text.now c.loop-byte.byte-index 0 c.is_name_byte.result c.loop-byte-test.true c.is_name_byte.ensures c.if-not-is_name_byte.true c.loop-byte.invariant

pub loop-byte-preserved : goal.loop-byte-preserved
loop-byte-preserved c = all_more is_name_byte c.args.text.now c.loop-byte.byte-index 0 c.is_name_byte.result c.loop-byte-test.true c.is_name_byte.ensures c.if-not-is_name_byte.false c.loop-byte.invariant

pub returns : goal.returns
returns c = all_ended is_name_byte c.args.text.now c.loop-byte.byte-index c.loop-byte-test.false c.loop-byte.invariant
