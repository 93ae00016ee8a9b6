use Rattle.std.proofs.Common.{refl, sym, ◌∙◌, ◌≡◌, Bool, ◌||◌, Result, Ok}
use Rattle.ug_kernel.specs.declared.files.Stop.{Stop}
use Rattle.ug_kernel.specs.declared.files.File.{File}
use Rattle.ug_kernel.specs.declared.files.OwnFiles.{OwnFiles}
use Rattle.ug_kernel.specs.Files.{reading_own, own_of}
use Rattle.ug_kernel.proofs.Joins.{either_first, either_second}
use Rattle.ug_kernel.proofs.Runs.{runs_then}
use Rattle.ug_kernel.proofs.files.read_own.Goals.{then-descriptors, else-descriptors, then-product, else-product, then-core_long, else-core_long}
use Rattle.ug_kernel.proofs.files.read_own.Goals as goal

owned : (d p s c : File) (core long : Bool) → core ≡ (d.too_long || p.too_long || s.too_long) → long ≡ (d.too_long || p.too_long || s.too_long || c.too_long) → ◌≡◌ {A = Result OwnFiles Stop} (Ok (record { attrs = record { descriptors = d.bytes; product = p.bytes; serial = s.bytes; connect = c.bytes; too_long = long }; core_long = core })) (Ok (own_of d p s c))
owned d p s c core long e f = rw (e, f)

pub returns-in-Err : goal.returns-in-Err
unfolding reading_own
returns-in-Err g c = runs_then _ _ _ _ _ _ _ _ c.in-Err.ensures (refl, refl)

pub returns-in-Err-read_file : goal.returns-in-Err-read_file
unfolding reading_own
returns-in-Err-read_file g c = runs_then _ _ _ _ _ _ _ _ c.in-Ok.ensures (runs_then _ _ _ _ _ _ _ _ c.in-Err-read_file.ensures (refl, refl))

pub returns-in-Err-read_file-2 : goal.returns-in-Err-read_file-2
unfolding reading_own
returns-in-Err-read_file-2 g c = runs_then _ _ _ _ _ _ _ _ c.in-Ok.ensures (runs_then _ _ _ _ _ _ _ _ c.in-Ok-read_file.ensures (runs_then _ _ _ _ _ _ _ _ c.in-Err-read_file-2.ensures (refl, refl)))

pub returns-in-Err-read_file-3 : goal.returns-in-Err-read_file-3
unfolding reading_own
returns-in-Err-read_file-3 g c = runs_then _ _ _ _ _ _ _ _ c.in-Ok.ensures (runs_then _ _ _ _ _ _ _ _ c.in-Ok-read_file.ensures (runs_then _ _ _ _ _ _ _ _ c.in-Ok-read_file-2.ensures (runs_then _ _ _ _ _ _ _ _ c.in-Err-read_file-3.ensures (refl, refl))))

pub returns : goal.returns
unfolding reading_own
returns g c =
    let first : c.if-descriptors.value ≡ (c.in-Ok.descriptors.too_long || c.in-Ok-read_file.product.too_long) = elim c.if-descriptors.branch as (λ x. c.if-descriptors.value ≡ (c.in-Ok.descriptors.too_long || c.in-Ok-read_file.product.too_long)) [ then-descriptors w ↦ either_first _ _ _ w.if-descriptors.true w.value-is | else-descriptors w ↦ either_second _ _ _ w.if-descriptors.false w.value-is ] in
    let core : c.if-product.core_long ≡ (c.in-Ok.descriptors.too_long || c.in-Ok-read_file.product.too_long || c.in-Ok-read_file-2.serial.too_long) = elim c.if-product.branch as (λ x. c.if-product.core_long ≡ (c.in-Ok.descriptors.too_long || c.in-Ok-read_file.product.too_long || c.in-Ok-read_file-2.serial.too_long)) [ then-product w ↦ either_first _ _ _ (sym first ∙ w.if-product.true) (w.core_long-is ∙ first) | else-product w ↦ either_second _ _ _ (sym first ∙ w.if-product.false) w.core_long-is ] in
    let long : c.if-core_long.result ≡ (c.in-Ok.descriptors.too_long || c.in-Ok-read_file.product.too_long || c.in-Ok-read_file-2.serial.too_long || c.in-Ok-read_file-3.connect.too_long) = elim c.if-core_long.branch as (λ x. c.if-core_long.result ≡ (c.in-Ok.descriptors.too_long || c.in-Ok-read_file.product.too_long || c.in-Ok-read_file-2.serial.too_long || c.in-Ok-read_file-3.connect.too_long)) [ then-core_long w ↦ either_first _ _ _ (sym core ∙ w.if-core_long.true) (w.result-is ∙ core) | else-core_long w ↦ either_second _ _ _ (sym core ∙ w.if-core_long.false) w.result-is ] in
    runs_then _ _ _ _ _ _ _ _ c.in-Ok.ensures (runs_then _ _ _ _ _ _ _ _ c.in-Ok-read_file.ensures (runs_then _ _ _ _ _ _ _ _ c.in-Ok-read_file-2.ensures (runs_then _ _ _ _ _ _ _ _ c.in-Ok-read_file-3.ensures (owned c.in-Ok.descriptors c.in-Ok-read_file.product c.in-Ok-read_file-2.serial c.in-Ok-read_file-3.connect _ _ core long, refl))))
