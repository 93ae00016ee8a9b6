use Rattle.std.proofs.Common.{take}
use Rattle.ug_types.specs.Elements.{Has}
use Rattle.ug_proto.specs.RefusalParts.{spelled_then}
use Rattle.ug_proto.specs.Scanning.{IsStop}
use Rattle.ug_proto.proofs.spelled.take_spelled.Given as goal

-- why no word of those so far stands in front
abbrev pub invariant-loop-it : goal.invariant-loop-it
invariant-loop-it g l = IsStop (spelled_then g.T.OneWord.word_of l.fn.end) (Has (take l.it-index l.all)) l.fn.text l.stop
