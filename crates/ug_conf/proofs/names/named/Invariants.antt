use Rattle.std.proofs.Common.{◌≡◌, length}
use Rattle.ug_conf.specs.Names.{words_between, all_named}
use Rattle.ug_conf.proofs.Words.{behind, IsBare}
use Rattle.ug_conf.proofs.names.named.Given as goal

abbrev pub invariant-loop-rest : goal.invariant-loop-rest
invariant-loop-rest l = record {
  here : behind l.names (all_named l.group (words_between l.rest)) ≡ all_named l.group (words_between l.fn.text);
  bare : IsBare l.rest;
}

abbrev pub decreases-loop-rest : goal.decreases-loop-rest
decreases-loop-rest l = length l.rest
