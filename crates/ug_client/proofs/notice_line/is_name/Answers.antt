use Rattle.std.proofs.Common.{◌∙◌}
use Rattle.ug_client.proofs.NoticeWords.{name_test}
use Rattle.ug_client.proofs.notice_line.is_name.Goals as goal

pub returns : goal.returns
returns c = c.is_ok.ensures.value ∙ name_test c.args.word.now c.parse.result c.parse.ensures.ok c.parse.ensures.same
