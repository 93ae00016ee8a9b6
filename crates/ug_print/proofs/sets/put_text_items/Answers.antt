use Rattle.std.proofs.Common.{ℕ, List, subst, arith}
use Rattle.std.proofs.lemmas.Grind.{common_steps}
use Rattle.std.proofs.lemmas.List.Elements.{All-more}
use Rattle.ug_print.specs.Bytes.{AreBytes}
use Rattle.ug_print.proofs.sets.put_text_items.Goals as goal

pub loop-text-preserved : goal.loop-text-preserved
loop-text-preserved c =
    let item : List ℕ = c.text-item.result in
    let bytes : AreBytes item = subst AreBytes c.bytes.ensures c.in_ok-print_string.ensures.bytes in
    record {
      words = grind (arith, common_steps);
      bytes = All-more AreBytes c.args.texts.now c.loop-text.text-index item c.loop-text-test.true c.loop-text.invariant.bytes (subst AreBytes c.text-item.is bytes);
    }
