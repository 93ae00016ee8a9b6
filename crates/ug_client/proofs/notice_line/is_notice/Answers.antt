use Rattle.std.proofs.Common.{sym, ◌∙◌, subst}
use Rattle.std.proofs.lemmas.Bool.{false≢true}
use Rattle.ug_types.proofs.Known.{to_end}
use Rattle.ug_client.specs.Answers.{IsNoticedLine}
use Rattle.ug_client.proofs.NoticeLines.{noticed_law}
use Rattle.ug_client.proofs.Front.{marked_notice, notice_behind, notice_marked}
use Rattle.ug_client.proofs.notice_line.is_notice.Goals as goal

pub returns-then-starts_with : goal.returns-then-starts_with
returns-then-starts_with c =
    let line = c.args.line.now in
    let noticed = noticed_law _ c.is_entry.result c.is_entry.ensures in (
      λ k. marked_notice line (sym c.starts_with.ensures.value ∙ c.if-starts_with.true) (subst IsNoticedLine (to_end 2 line) (noticed.0 k)),
      λ n. noticed.1 (subst IsNoticedLine (sym (to_end 2 line)) (notice_behind line n)),
    )

pub returns : goal.returns
returns c = (
  λ k. absurd (false≢true k),
  λ n. absurd (false≢true (sym c.if-starts_with.false ∙ c.starts_with.ensures.value ∙ notice_marked c.args.line.now n)),
)
