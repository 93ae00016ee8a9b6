use Rattle.std.proofs.Common.{◌≡◌, drop, nat_eq}
use Rattle.std.specs.Cmp.Lexicographic.{pointwise}
use Rattle.std.specs.List.{find}
use Rattle.ug_conf.proofs.spelled.spelled.Given as goal

-- it is none of those so far
abbrev pub invariant-loop-it : goal.invariant-loop-it
invariant-loop-it g l = find (λ it. pointwise nat_eq l.fn.word (g.T.OneWord.word_of it)) (drop l.it-index l.all) ≡ find (λ it. pointwise nat_eq l.fn.word (g.T.OneWord.word_of it)) g.T.OneWord.all_of
