use Rattle.std.proofs.Common.{◌≡◌, ◌+◌, ◌-◌, ◌<◌, ◌++◌, [], Ok, length, sym, ap, ◌∙◌, arith}
use Rattle.std.proofs.lemmas.List.{append-nil}
use Rattle.ug_words.specs.declared.pieces.Inner.TheVariants.{Quote, Newline, Stray, Byte}
use Rattle.ug_words.proofs.Steps.{grown, rest_at, rest_length, string_end, string_more, string_turn}
use Rattle.ug_words.proofs.string.string.Goals as goal

pub returns-in-Quote-clause-read : goal.returns-in-Quote-clause-read
returns-in-Quote-clause-read c =
    let t = string_turn c.args.line.now c.args.opening c.loop-at.at c.loop-at.text Quote _ c.loop-at-test.true c.loop-at.invariant.read c.in-Quote.ensures.is c.in-Quote.ensures.fits in
    let text : c.loop-at.text ++ [] ≡ c.from_vec.result = append-nil c.loop-at.text ∙ sym c.into_vec.ensures ∙ sym c.from_vec.ensures in
    let more : c.loop-at.at - (c.args.opening + 1) + 1 ≡ c.loop-at.at - c.args.opening = omega arith in
    t ∙ (λ i. Ok (record { text = text i; more = more i }))

pub returns-in-Newline-clause-read : goal.returns-in-Newline-clause-read
returns-in-Newline-clause-read c =
    string_turn c.args.line.now c.args.opening c.loop-at.at c.loop-at.text Newline _ c.loop-at-test.true c.loop-at.invariant.read c.in-Newline.ensures.is c.in-Newline.ensures.fits

pub returns-in-Stray-clause-read : goal.returns-in-Stray-clause-read
returns-in-Stray-clause-read c =
    string_turn c.args.line.now c.args.opening c.loop-at.at c.loop-at.text Stray _ c.loop-at-test.true c.loop-at.invariant.read c.in-Stray.ensures.is c.in-Stray.ensures.fits

pub loop-at-preserved : goal.loop-at-preserved
loop-at-preserved c =
    let t = string_turn c.args.line.now c.args.opening c.loop-at.at c.loop-at.text (Byte c.in-Byte.value c.in-Byte.more) _ c.loop-at-test.true c.loop-at.invariant.read c.in-Byte.ensures.is c.in-Byte.ensures.fits in
    let long = rest_length c.loop-at.at c.args.line.now in
    let m : c.in-Byte.more < length (rest_at c.loop-at.at c.args.line.now) = c.in-Byte.ensures.fits (omega (arith, long, c.loop-at-test.true)) in
    let next = string_more c.args.line.now c.args.opening c.loop-at.at c.loop-at.text c.in-Byte.value c.in-Byte.more _ c.loop-at.invariant.above t in
    record {
      above = omega arith;
      within = omega (arith, m, long);
      read = rw c.in_ok-push-in-Byte.ensures.ok next;
    }

pub returns-clause-read : goal.returns-clause-read
returns-clause-read c =
    sym c.loop-at.invariant.read ∙ ap (grown c.loop-at.text (c.loop-at.at - (c.args.opening + 1))) (string_end c.args.opening c.loop-at.at c.args.line.now c.loop-at-test.false)
