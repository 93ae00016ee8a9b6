use Rattle.std.proofs.Common.{subst}
use Rattle.ug_proto.specs.declared.scan.Stop.{Stop}
use Rattle.ug_proto.specs.Replies.{reply_text, IsReply}
use Rattle.ug_proto.specs.Scanning.{IsStop}
use Rattle.ug_proto.proofs.AnswerScans.{no_reply}
use Rattle.ug_proto.proofs.parse.parse_reply.Goals as goal

pub returns-in-Err-Bad : goal.returns-in-Err-Bad
returns-in-Err-Bad c = no_reply c.args.text.now (subst (λ (s : Stop). IsStop reply_text IsReply c.args.text.now s) c.in-Err-Bad.field-0-is c.in-Err-Bad.ensures.err)
