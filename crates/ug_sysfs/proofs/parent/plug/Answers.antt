use Rattle.std.proofs.Common.{◌≡◌, sym, ap, ◌∙◌, arith}
use Rattle.ug_kernel.proofs.Sounds.{live_count_push}
use Rattle.ug_kernel.specs.Kernel.{live_count}
use Rattle.ug_sysfs.specs.Devices.{born, born_as, plugged}
use Rattle.ug_sysfs.proofs.parent.plug.Goals as goal

pub returns-in-Some : goal.returns-in-Some
returns-in-Some c =
    let d = c.args.device in
    let ds = c.args.census.now.devices in
    let is : plugged d ds ≡ born d c.in-Some.parent ds = c.in-Some.ensures.0 in
    let more = live_count_push ds (born_as d c.in-Some.parent ds) in
    record {
      devices = c.bear_under.ensures.devices ∙ sym is;
      room = omega arith;
      few = omega (arith, more, c.in-Some.ensures.2, ap live_count c.bear_under.ensures.devices);
    }
