use Rattle.std.proofs.Common.{rules, tests}
use Rattle.std.proofs.lemmas.Iterator.Search.{any_from_yields_List}
use Rattle.std.proofs.lemmas.Iterator.Splits.{YieldsList-from_slice_split}
use Rattle.ug_acl.specs.Lists.{part_gives}
use Rattle.ug_acl.proofs.lists.some_part_gives.Goals as goal

pub returns : goal.returns
returns c = any_from_yields_List (part_gives c.args.section c.args.privilege) c.any.new.self _ c.any.result c.any.ensures.ran
    (YieldsList-from_slice_split _ _ c.args.word.now c.split.ensures.rest c.split.ensures.done c.split.ensures.closure (λ x r q k. search (rules, tests))) (λ x b q k. search (rules, tests))
