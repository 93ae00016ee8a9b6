use Rattle.std.proofs.Common.{◌∙◌, ap, subst, arith}
use Rattle.std.proofs.lemmas.Result.{on_ok_weaker}
use Rattle.ug_print.specs.Bytes.{AreBytes}
use Rattle.ug_print.specs.Items.{string_text}
use Rattle.ug_print.proofs.MalformedLines.{malformed_on_line, words_put}
use Rattle.ug_print.proofs.device_lines.put_malformed.Goals as goal

pub returns-clause-text : goal.returns-clause-text
returns-clause-text c =
    on_ok_weaker c.push.result
    (words_put c.args.verdict c.args.kind c.args.place c.args.name.now _ _ _ _ _ _ c.push.new.self _
    c.requires c.in_ok-put_target.ensures c.in_ok-put_word.ensures c.in_ok-put_decimal.ensures c.in_ok-put_decimal-2.ensures c.in_ok-put_word-2.ensures
    (c.in_ok-print_string.ensures.text ∙ ap string_text c.bytes.ensures))
    c.push.ensures.ok

pub returns-clause-one_line : goal.returns-clause-one_line
returns-clause-one_line c =
    let bytes : AreBytes c.args.name.now = subst AreBytes c.bytes.ensures c.in_ok-print_string.ensures.bytes in
    let line = malformed_on_line c.args.verdict c.args.kind c.args.place c.args.name.now (omega arith) (omega arith) bytes in
    on_ok_weaker c.push.result (λ put. line) c.push.ensures.ok
