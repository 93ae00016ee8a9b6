use Rattle.std.proofs.Common.{refl, sym, ◌∙◌, ◌≡◌, Bool, ◌||◌, List, ℕ, [], Result, Ok}
use Rattle.ug_types.specs.declared.record.Attrs.{Attrs}
use Rattle.ug_kernel.specs.declared.files.Stop.{Stop}
use Rattle.ug_kernel.specs.declared.files.File.{File}
use Rattle.ug_kernel.specs.Files.{reading_parent, parent_of_files}
use Rattle.ug_kernel.proofs.Joins.{either_first, either_second}
use Rattle.ug_kernel.proofs.Runs.{runs_then}
use Rattle.ug_kernel.proofs.files.read_parent.Goals.{then-descriptors, else-descriptors, then-product, else-product}
use Rattle.ug_kernel.proofs.files.read_parent.Goals as goal

parents : (d p s : File) (connect : List ℕ) (long : Bool) → connect ≡ [] → long ≡ (d.too_long || p.too_long || s.too_long) → ◌≡◌ {A = Result Attrs Stop} (Ok (record { descriptors = d.bytes; product = p.bytes; serial = s.bytes; connect = connect; too_long = long })) (Ok (parent_of_files d p s))
parents d p s connect long e f = rw (e, f)

pub returns-in-Err : goal.returns-in-Err
unfolding reading_parent
returns-in-Err g c = runs_then _ _ _ _ _ _ _ _ c.in-Err.ensures (refl, refl)

pub returns-in-Err-read_file : goal.returns-in-Err-read_file
unfolding reading_parent
returns-in-Err-read_file g c = runs_then _ _ _ _ _ _ _ _ c.in-Ok.ensures (runs_then _ _ _ _ _ _ _ _ c.in-Err-read_file.ensures (refl, refl))

pub returns-in-Err-read_file-2 : goal.returns-in-Err-read_file-2
unfolding reading_parent
returns-in-Err-read_file-2 g c = runs_then _ _ _ _ _ _ _ _ c.in-Ok.ensures (runs_then _ _ _ _ _ _ _ _ c.in-Ok-read_file.ensures (runs_then _ _ _ _ _ _ _ _ c.in-Err-read_file-2.ensures (refl, refl)))

pub returns : goal.returns
unfolding reading_parent
returns g c =
    let first : c.if-descriptors.value ≡ (c.in-Ok.descriptors.too_long || c.in-Ok-read_file.product.too_long) = elim c.if-descriptors.branch as (λ x. c.if-descriptors.value ≡ (c.in-Ok.descriptors.too_long || c.in-Ok-read_file.product.too_long)) [ then-descriptors w ↦ either_first _ _ _ w.if-descriptors.true w.value-is | else-descriptors w ↦ either_second _ _ _ w.if-descriptors.false w.value-is ] in
    let long : c.if-product.result ≡ (c.in-Ok.descriptors.too_long || c.in-Ok-read_file.product.too_long || c.in-Ok-read_file-2.serial.too_long) = elim c.if-product.branch as (λ x. c.if-product.result ≡ (c.in-Ok.descriptors.too_long || c.in-Ok-read_file.product.too_long || c.in-Ok-read_file-2.serial.too_long)) [ then-product w ↦ either_first _ _ _ (sym first ∙ w.if-product.true) (w.result-is ∙ first) | else-product w ↦ either_second _ _ _ (sym first ∙ w.if-product.false) w.result-is ] in
    runs_then _ _ _ _ _ _ _ _ c.in-Ok.ensures (runs_then _ _ _ _ _ _ _ _ c.in-Ok-read_file.ensures (runs_then _ _ _ _ _ _ _ _ c.in-Ok-read_file-2.ensures (parents c.in-Ok.descriptors c.in-Ok-read_file.product c.in-Ok-read_file-2.serial _ _ c.new.ensures long, refl)))
