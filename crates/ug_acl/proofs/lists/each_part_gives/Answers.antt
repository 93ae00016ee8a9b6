use Rattle.std.proofs.Common.{rules, tests}
use Rattle.std.proofs.lemmas.Iterator.Search.{all_from_yields_List}
use Rattle.std.proofs.lemmas.Iterator.Splits.{YieldsList-from_slice_split}
use Rattle.ug_acl.specs.Lists.{part_gives_some}
use Rattle.ug_acl.proofs.lists.each_part_gives.Goals as goal

pub returns : goal.returns
returns c = all_from_yields_List (part_gives_some c.args.section) c.all.new.self _ c.all.result c.all.ensures.ran
    (YieldsList-from_slice_split _ _ c.args.word.now c.split.ensures.rest c.split.ensures.done c.split.ensures.closure (λ x r q k. search (rules, tests))) (λ x b q k. search (rules, tests))
