use Rattle.std.proofs.Common.{◌≡◌, ◌<◌, ◌+◌, ◌++◌, ℕ, Err, List, Some, slice_get, length, take, sym, ap, subst, ◌∙◌, arith}
use Rattle.std.specs.Prelude.{All, flat_map, option_copied}
use Rattle.std.proofs.lemmas.List.{take_all}
use Rattle.ug_types.specs.Limits.{text_limit}
use Rattle.ug_policy.specs.declared.entry.RuleEntry.{RuleEntry}
use Rattle.ug_print.specs.Bytes.{RuleOfBytes}
use Rattle.ug_print.specs.declared.rule_texts.RulesTextFault.{RulesTextFault}
use Rattle.ug_print.specs.declared.rule_texts.RulesTextFault.TheVariants as fault
use Rattle.ug_ruleset.specs.RuleEdits.{in_front, in_place}
use Rattle.ug_ruleset.proofs.FileTexts.{bytes_more, bytes_whole, long_at, text_more}
use Rattle.ug_ruleset.proofs.file_text.file_text.Goals as goal

pub returns-in-Err-clause-too_long : goal.returns-in-Err-clause-too_long
returns-in-Err-clause-too_long c = λ e.
    let edit = option_copied c.args.edit in
    let es : List RuleEntry = c.args.list.now.entries in
    let there : slice_get es c.loop-place.place ≡ Some c.in-Some.entry.now = sym c.entry.ensures.value ∙ ap option_copied c.in-Some.is in
    let same : c.in-Err.fault ≡ fault.TooLong = cc in
    let long = c.in-Err.ensures.too_long (ap (λ (f : RulesTextFault). Err f) same) in
    long_at edit es (c.loop-place.place + 1) (subst (λ (t : List ℕ). text_limit < length t) (text_more edit es c.loop-place.place c.in-Some.entry.now c.loop-place.text there c.loop-place.invariant.text) long)

pub loop-place-preserved : goal.loop-place-preserved
loop-place-preserved c =
    let edit = option_copied c.args.edit in
    let es : List RuleEntry = c.args.list.now.entries in
    let e : RuleEntry = c.in-Some.entry.now in
    let there : slice_get es c.loop-place.place ≡ Some e = sym c.entry.ensures.value ∙ ap option_copied c.in-Some.is in
    record {
      text = c.in-Ok.ensures.text ∙ text_more edit es c.loop-place.place e c.loop-place.text there c.loop-place.invariant.text;
      bytes = bytes_more edit es c.loop-place.place e there c.loop-place.invariant.bytes c.in-Ok.ensures.bytes;
    }

pub returns-clause-bytes : goal.returns-clause-bytes
returns-clause-bytes c =
    let edit = option_copied c.args.edit in
    let es : List RuleEntry = c.args.list.now.entries in
    let whole : take c.loop-place.place es ≡ es = take_all c.loop-place.place es (omega (arith, c.loop-place-test.false, c.len-place-end.ensures.value)) in
    bytes_whole edit es (subst (λ (v : List RuleEntry). All RuleOfBytes (in_front edit ++ flat_map (in_place edit) v)) whole c.loop-place.invariant.bytes) c.in_ok-put_at_end.ensures.bytes
