use Rattle.std.proofs.Common.{rules, ◌≡◌, ◌<◌, nat_eq, false, length, arith, ap}
use Rattle.std.specs.List.{list_any}
use Rattle.ug_conf.specs.Files.{pointwise}
use Rattle.ug_host.proofs.Added.{names_added}
use Rattle.ug_host.proofs.entries.add_name.Goals as goal

pub returns : goal.returns
returns c =
    let few : length c.args.names.now < 2147483647 = omega (arith, ap length c.as_slice-known.ensures, c.if-known-ge-MOST.false) in
    let none : list_any (λ n. pointwise nat_eq n c.args.name) c.args.names.now ≡ false = search rules in
    names_added c.args.names.now c.push.new.self c.args.name c.in_ok-push.ensures.ok few none c.requires
