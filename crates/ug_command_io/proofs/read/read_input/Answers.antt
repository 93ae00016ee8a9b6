use Rattle.std.proofs.Common.{arith, ◌≡◌, ◌++◌, take, length, length-append, refl, sym}
use Rattle.std.proofs.lemmas.List.{length-take-le}
use Rattle.std.proofs.KnownBytes.{Consumes-trans, Consumes-kept}
use Rattle.ug_command_io.proofs.Faults.{rose-after}
use Rattle.ug_command_io.proofs.read.read_input.Goals as goal

pub returns-then-n-most-clause-read : goal.returns-then-n-most-clause-read
returns-then-n-most-clause-read g c = record {
  taken = c.pieces.bytes.items ++ take c.in-Bytes.n c.take.new.into;
  source = Consumes-trans (g.S.Source.left c.args.input.now) (g.S.Source.left c.pieces.input) (g.S.Source.left c.take.new.self) c.pieces.bytes.items (take c.in-Bytes.n c.take.new.into) c.pieces.invariant.source c.in-Bytes.ensures.bytes;
  told =
      let t : length (take c.in-Bytes.n c.take.new.into) ≡ c.in-Bytes.n = length-take-le c.in-Bytes.n c.take.new.into (omega (arith, c.in-Bytes.ensures.size)) in
      omega (arith, t, length-append c.pieces.bytes.items (take c.in-Bytes.n c.take.new.into));
}

pub returns-then-is_err-clause-read : goal.returns-then-is_err-clause-read
returns-then-is_err-clause-read g c = record {
  taken = c.pieces.bytes.items ++ take c.in-Bytes.n c.take.new.into;
  source = Consumes-trans (g.S.Source.left c.args.input.now) (g.S.Source.left c.pieces.input) (g.S.Source.left c.take.new.self) c.pieces.bytes.items (take c.in-Bytes.n c.take.new.into) c.pieces.invariant.source c.in-Bytes.ensures.bytes;
  told = tt;
}

pub slice_bounds-piece-end : goal.slice_bounds-piece-end
slice_bounds-piece-end g c = omega (arith, c.in-Bytes.ensures.size)

pub slice_bounds-extend_from_slice-end : goal.slice_bounds-extend_from_slice-end
slice_bounds-extend_from_slice-end g c = sym (length-take-le c.in-Bytes.n c.take.new.into (omega (arith, c.in-Bytes.ensures.size)))

pub returns-in-End-clause-read : goal.returns-in-End-clause-read
returns-in-End-clause-read g c = record {
  taken = c.pieces.bytes.items;
  source = Consumes-kept (g.S.Source.left c.args.input.now) (g.S.Source.left c.pieces.input) (g.S.Source.left c.take.new.self) c.pieces.bytes.items c.pieces.invariant.source c.in-End.ensures.bytes.0;
  told = (c.from_vec.ensures, c.in-End.ensures.bytes.1, omega arith);
}

pub returns-in-Failed-clause-read : goal.returns-in-Failed-clause-read
returns-in-Failed-clause-read g c = record {
  taken = c.pieces.bytes.items;
  source = Consumes-kept (g.S.Source.left c.args.input.now) (g.S.Source.left c.pieces.input) (g.S.Source.left c.take.new.self) c.pieces.bytes.items c.pieces.invariant.source c.in-Failed.ensures.bytes;
  told = omega arith;
}

pub returns-in-Failed-clause-cause : goal.returns-in-Failed-clause-cause
returns-in-Failed-clause-cause g c = λ e. rose-after (g.S.Source.faults c.args.input.now) (g.S.Source.faults c.pieces.input) (g.S.Source.faults c.take.new.self) c.pieces.invariant.counted c.in-Failed.ensures.counted.0 (c.in-Failed.ensures.cause refl)
