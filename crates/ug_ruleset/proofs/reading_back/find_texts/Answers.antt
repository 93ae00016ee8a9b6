use Rattle.std.proofs.Common.{subst}
use Rattle.std.proofs.lemmas.List.Elements.{All-more}
use Rattle.ug_print.specs.Bytes.{AreBytes}
use Rattle.ug_ruleset.proofs.reading_back.find_texts.Goals as goal

pub loop-text-preserved : goal.loop-text-preserved
loop-text-preserved c =
    let bytes : AreBytes c.text-item.result = subst AreBytes c.bytes.ensures c.find_bytes.ensures in
    All-more AreBytes c.args.texts.now c.loop-text.text-index c.text-item.result c.loop-text-test.true c.loop-text.invariant (subst AreBytes c.text-item.is bytes)
