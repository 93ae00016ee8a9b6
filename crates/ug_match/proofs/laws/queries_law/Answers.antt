use Rattle.std.proofs.Common.{refl}
use Rattle.ug_match.specs.Queries.{query_matches}
use Rattle.ug_match.proofs.laws.queries_law.Goals as goal

pub returns : goal.returns
unfolding query_matches
returns c = record {
  label = λ query device label. refl;
  empty = λ label device. refl;
}
