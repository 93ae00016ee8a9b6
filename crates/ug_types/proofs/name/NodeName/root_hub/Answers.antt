use Rattle.std.proofs.Common.{◌≡◌, ℕ, ◌+◌, ◌-◌, ◌≤◌, List, ◌++◌, length, take, codes, sym, ◌∙◌, ap, subst, arith, length-append}
use Rattle.std.proofs.lemmas.Slice.{take-put_mid}
use Rattle.std.proofs.Math.Seq.{take-append_seam}
use Rattle.ug_types.specs.NodeNames.{IsNodeName}
use Rattle.ug_types.proofs.name.NodeName.root_hub.Goals as goal
use borrow.Rule.Slice.PartMut.{put_mid}

abbrev put_together : List ℕ → List ℕ → List ℕ → List ℕ → List ℕ
put_together zeros usb text bus = take (3 + length bus) (put_mid 3 (3 + length bus - 3) (usb ++ zeros) text)

joined : (zeros usb text bus : List ℕ) → usb ≡ codes "usb" → text ≡ bus → put_together zeros usb text bus ≡ codes "usb" ++ bus
joined zeros usb text bus e f =
    let front : take 3 (usb ++ zeros) ≡ usb = ap (λ (k : ℕ). take k (usb ++ zeros)) (sym (ap length e)) ∙ take-append_seam usb zeros in
    take-put_mid 3 (3 + length bus - 3) (usb ++ zeros) text (3 + length bus) (omega (arith, ap length f)) (omega (arith, ap length e, length-append usb zeros))
    ∙ ap (λ (x : List ℕ). x ++ text) (front ∙ e)
    ∙ ap (λ (x : List ℕ). codes "usb" ++ x) f

joined_short : (zeros usb text bus : List ℕ) → usb ≡ codes "usb" → text ≡ bus → length bus ≤ 28 → length (put_together zeros usb text bus) ≤ 31
joined_short zeros usb text bus e f short = subst (λ (x : List ℕ). length x ≤ 31) (sym (joined zeros usb text bus e f)) (omega (arith, length-append (codes "usb") bus))

pub holding-requires-clause-named : goal.holding-requires-clause-named
holding-requires-clause-named c = subst IsNodeName (sym (joined _ c.copy_from_slice.new.self c.copy_from_slice-2.new.self c.args.bus.now c.copy_from_slice.ensures.after c.copy_from_slice-2.ensures.after)) c.requires.named

pub holding-requires-clause-short : goal.holding-requires-clause-short
holding-requires-clause-short c = joined_short _ c.copy_from_slice.new.self c.copy_from_slice-2.new.self c.args.bus.now c.copy_from_slice.ensures.after c.copy_from_slice-2.ensures.after c.requires.short

pub returns : goal.returns
returns c = c.holding.ensures ∙ joined _ c.copy_from_slice.new.self c.copy_from_slice-2.new.self c.args.bus.now c.copy_from_slice.ensures.after c.copy_from_slice-2.ensures.after
