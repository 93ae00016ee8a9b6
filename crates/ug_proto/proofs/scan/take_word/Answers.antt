use Rattle.std.proofs.Common.{List, ℕ, ◌++◌, length, ap, sym, ◌∙◌}
use Rattle.ug_types.proofs.Known.{to_end}
use Rattle.ug_proto.proofs.Scans.{word_then, word_begun, word_never}
use Rattle.ug_proto.proofs.scan.take_word.Goals as goal

pub returns-then-starts_with-clause-ok : goal.returns-then-starts_with-clause-ok
returns-then-starts_with-clause-ok c =
    word_then c.args.text.now c.args.word.now (sym c.starts_with.ensures.value ∙ c.if-starts_with.true) ∙ ap (λ (l : List ℕ). c.args.word.now ++ l) (sym (to_end (length c.args.word.now) c.args.text.now))

pub returns-then-starts_with-2-clause-err : goal.returns-then-starts_with-2-clause-err
returns-then-starts_with-2-clause-err c = word_begun c.args.text.now c.args.word.now (sym c.starts_with.ensures.value ∙ c.if-starts_with.false) (sym c.starts_with-2.ensures.value ∙ c.if-starts_with-2.true)

pub returns-clause-err : goal.returns-clause-err
returns-clause-err c = word_never c.args.text.now c.args.word.now (sym c.starts_with.ensures.value ∙ c.if-starts_with.false) (sym c.starts_with-2.ensures.value ∙ c.if-starts_with-2.false)
