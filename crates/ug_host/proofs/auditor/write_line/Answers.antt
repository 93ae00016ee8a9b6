use Rattle.ug_host.proofs.Written.{line_ended, line_cut, end_cut}
use Rattle.ug_host.proofs.auditor.write_line.Goals as goal

pub returns-in-Done-end_line : goal.returns-in-Done-end_line
returns-in-Done-end_line g c =
    line_ended (g.W.Write.contents c.args.writer.now) (g.W.Write.contents c.put_all.new.writer) (g.W.Write.contents c.end_line.new.writer) c.args.line.now c.in-Done.ensures c.in-Done-end_line.ensures

pub returns-in-Failed-end_line : goal.returns-in-Failed-end_line
returns-in-Failed-end_line g c =
    end_cut (g.W.Write.contents c.args.writer.now) (g.W.Write.contents c.put_all.new.writer) (g.W.Write.contents c.end_line.new.writer) c.args.line.now c.in-Done.ensures c.in-Failed-end_line.ensures

pub returns-in-Failed : goal.returns-in-Failed
returns-in-Failed g c =
    line_cut (g.W.Write.contents c.args.writer.now) (g.W.Write.contents c.put_all.new.writer) c.args.line.now c.in-Failed.ensures
