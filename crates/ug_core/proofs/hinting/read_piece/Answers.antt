use Rattle.std.proofs.Common.{◌∙◌, ◌++◌, [], List, ap, arith, length, subst}
use Rattle.ug_audit.specs.declared.entry.Entry.{Entry}
use Rattle.ug_audit.proofs.Noting.{goes_on}
use Rattle.ug_uevent.specs.Streams.{Stream}
use Rattle.ug_core.specs.Hinting.{AnswerEach, refusals}
use Rattle.ug_core.proofs.Pieces.{few_messages}
use Rattle.ug_core.proofs.hinting.read_piece.Goals as goal

pub overflow_mul-count : goal.overflow_mul-count
overflow_mul-count g c =
    omega (arith, few_messages c.args.hints.now c.args.piece.now c.requires.handed_out, c.messages_with-count.ensures, c.requires.piece)

pub returns-clause-stream : goal.returns-clause-stream
returns-clause-stream g c = c.read_messages.ensures.stream ∙ ap (λ (s : Stream). record { messages = []; begun = s.begun }) c.in_ok-feed.ensures

pub returns-clause-reads : goal.returns-clause-reads
returns-clause-reads g c =
    let r = c.read_messages.ensures.reads in
    record {
      answers = r.answers;
      each = subst (λ (s : Stream). AnswerEach s.messages r.answers) c.in_ok-feed.ensures r.each;
      noted = r.noted ∙ ap (λ (es : List Entry). es ++ refusals r.answers) c.in_ok-reserve.ensures.entries;
      hinted = r.hinted;
    }

pub returns-clause-fits : goal.returns-clause-fits
returns-clause-fits g c =
    let most = few_messages c.args.hints.now c.args.piece.now c.requires.handed_out in
    let fed = ap (λ (s : Stream). length s.messages) c.in_ok-feed.ensures in
    let few = c.read_messages.ensures.few in
    let count = c.messages_with-count.ensures in (
      omega (arith, most, fed, c.requires.piece, few),
      omega (arith, fed, c.read_messages.ensures.journal.2, count, few, c.in_ok-places.ensures, c.in_ok-reserve.ensures.ok),
      omega (arith, fed, c.read_messages.ensures.journal.1, count, few, c.in_ok-places.ensures, c.in_ok-reserve.ensures.enough),
    )

pub returns-clause-same : goal.returns-clause-same
returns-clause-same g c = goes_on _ _ _ _ c.in_ok-reserve.ensures.same c.read_messages.ensures.journal.0
