use Rattle.std.proofs.Common.{List, ℕ, ap, ◌∙◌}
use Rattle.std.specs.Prelude.{◌||◌}
use Rattle.ug_kernel.specs.Called.{within_limit}
use Rattle.ug_kernel.specs.Bound.{file_bytes, is_too_long}
use Rattle.ug_generate.proofs.files.files_for_child.Goals as goal

pub returns : goal.returns
returns c =
    let product = c.in-Ok.ensures in
    let serial = c.in-Ok-read_text.ensures in
    let long = c.in_ok-descriptors.ensures.too_long ∙ ap (λ (bytes : List ℕ). is_too_long (within_limit 131072 bytes)) c.bytes.ensures in
    let bytes = c.in_ok-descriptors.ensures.bytes ∙ ap (λ (bytes : List ℕ). file_bytes (within_limit 131072 bytes)) c.bytes.ensures in
    λ i. record {
      descriptors = bytes i;
      product = product.bytes i;
      serial = serial.bytes i;
      connect = c.new.ensures i;
      too_long = long i || product.too_long i || serial.too_long i;
    }
