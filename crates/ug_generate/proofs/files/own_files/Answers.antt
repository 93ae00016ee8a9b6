use Rattle.std.proofs.Common.{◌≡◌}
use Rattle.std.specs.Prelude.{◌||◌}
use Rattle.ug_kernel.specs.Bound.{parent_attrs_of}
use Rattle.ug_generate.proofs.files.own_files.Goals as goal

pub returns : goal.returns
returns c =
    let own : c.in_ok-attrs.attrs ≡ parent_attrs_of c.args.device.now = c.in_ok-attrs.ensures in
    let connect = c.in-Ok.ensures in
    λ i. record {
      descriptors = (own i).descriptors;
      product = (own i).product;
      serial = (own i).serial;
      connect = connect.bytes i;
      too_long = (own i).too_long || connect.too_long i;
    }
