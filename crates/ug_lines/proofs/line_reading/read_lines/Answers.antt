use Rattle.std.proofs.Common.{◌≡◌, length, arith}
use Rattle.std.proofs.lemmas.Bool.Decides.{nat_tests}
use Rattle.ug_lines.proofs.LineReading.{goes_on, stops, ends}
use Rattle.ug_lines.proofs.line_reading.read_lines.Goals as goal

pub returns-in-Err : goal.returns-in-Err
returns-in-Err g c = stops g.R.LineReader.reads c.loop-rest.number (g.R.LineReader.state c.loop-rest.reader) (g.R.LineReader.state c.read_line.new.self) (g.R.LineReader.state c.read_line.new.self)
    c.loop-rest.rest.now c.next_line.result.0.now c.next_line.result.1.now _ c.in-Err.fault c.next_line.ensures.lines c.in-Err.ensures.read c.loop-rest.invariant.here

pub loop-rest-preserved : goal.loop-rest-preserved
loop-rest-preserved g c = record {
  here = goes_on g.R.LineReader.reads c.loop-rest.number (g.R.LineReader.state c.loop-rest.reader) (g.R.LineReader.state c.read_line.new.self) c.loop-rest.rest.now c.next_line.result.0.now c.next_line.result.1.now _ c.next_line.ensures.lines c.in-Ok.ensures.read c.loop-rest.invariant.here;
  kept = c.in-Ok.ensures.kept;
  number = omega (arith, c.next_line.ensures.shorter, c.loop-rest.invariant.number);
}

pub returns : goal.returns
returns g c =
    let none : length c.loop-rest.rest.now ≡ 0 = grind (arith, nat_tests, c.is_empty.ensures, c.loop-rest-test.false) in
    ends g.R.LineReader.reads c.loop-rest.number (g.R.LineReader.state c.loop-rest.reader) c.loop-rest.rest.now _ none c.loop-rest.invariant.here
