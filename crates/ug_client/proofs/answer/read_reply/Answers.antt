use Rattle.std.proofs.Common.{ℕ, List, drop, subst, Ok, Err, Some, None, Option}
use Rattle.ug_types.proofs.Known.{to_end}
use Rattle.ug_proto.specs.declared.reply.Reply.{Reply}
use Rattle.ug_proto.specs.ReplyReading.{ReadsReply}
use Rattle.ug_client.proofs.Skipping.{read_other, behind_notices}
use Rattle.ug_client.proofs.answer.read_reply.Goals as goal

pub returns-in-Ok-Some : goal.returns-in-Ok-Some
returns-in-Ok-Some c =
    let rest = drop c.args.at c.args.text.now in
    let read : ReadsReply rest (Ok c.in-Ok-Some.field-0) = subst (λ (b : List ℕ). ReadsReply b (Ok c.in-Ok-Some.field-0)) (to_end c.args.at c.args.text.now) c.in-Ok-Some.ensures in
    let some : ReadsReply rest (Ok (Some (c.in-Ok-Some.reply, c.in-Ok-Some.n))) = subst (λ (f : Option (Reply × ℕ)). ReadsReply rest (Ok f)) c.in-Ok-Some.field-0-is read in
    behind_notices c.args.text.now c.args.at c.requires.within c.requires.notices (Ok (Some (c.in-Ok-Some.reply, c.in-Ok-Some.n))) (read_other rest c.requires.other (Ok (Some (c.in-Ok-Some.reply, c.in-Ok-Some.n))) some)

pub returns-in-Ok-None : goal.returns-in-Ok-None
returns-in-Ok-None c =
    let rest = drop c.args.at c.args.text.now in
    let read : ReadsReply rest (Ok c.in-Ok-None.field-0) = subst (λ (b : List ℕ). ReadsReply b (Ok c.in-Ok-None.field-0)) (to_end c.args.at c.args.text.now) c.in-Ok-None.ensures in
    let none : ReadsReply rest (Ok None) = subst (λ (f : Option (Reply × ℕ)). ReadsReply rest (Ok f)) c.in-Ok-None.field-0-is read in
    behind_notices c.args.text.now c.args.at c.requires.within c.requires.notices (Ok None) (read_other rest c.requires.other (Ok None) none)

pub returns-in-Err : goal.returns-in-Err
returns-in-Err c =
    let rest = drop c.args.at c.args.text.now in
    let read : ReadsReply rest (Err c.in-Err.fault) = subst (λ (b : List ℕ). ReadsReply b (Err c.in-Err.fault)) (to_end c.args.at c.args.text.now) c.in-Err.ensures in
    behind_notices c.args.text.now c.args.at c.requires.within c.requires.notices (Err c.in-Err.fault) (read_other rest c.requires.other (Err c.in-Err.fault) read)
