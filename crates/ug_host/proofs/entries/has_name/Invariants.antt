use Rattle.std.proofs.Common.{◌≡◌, nat_eq, drop}
use Rattle.std.specs.List.{list_any}
use Rattle.ug_conf.specs.Files.{pointwise}
use Rattle.ug_host.proofs.entries.has_name.Given as goal

abbrev pub invariant-loop-known : goal.invariant-loop-known
invariant-loop-known l = list_any (λ n. pointwise nat_eq n l.name) (drop l.known-index l.names) ≡ list_any (λ n. pointwise nat_eq n l.name) l.names
