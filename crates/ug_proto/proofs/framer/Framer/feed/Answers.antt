use Rattle.std.proofs.Common.{ℕ, List, [], ◌∷◌, Option, ◌≡◌, take, get_or, Some, ap, ◌∙◌, sym, subst}
use Rattle.ug_proto.specs.declared.framer.FrameFault.{FrameFault}
use Rattle.std.proofs.lemmas.List.{take_more}
use Rattle.ug_proto.specs.Frames.{with_piece}
use Rattle.ug_proto.specs.Lines.{Frames}
use Rattle.ug_proto.specs.Begun.{begun_of}
use Rattle.ug_proto.proofs.Pieces.{takes_more, fault_ends, fault_again}
use Rattle.ug_proto.proofs.framer.Framer.feed.Goals as goal

pub returns-in-Some : goal.returns-in-Some
returns-in-Some c =
    let view : Option FrameFault → Frames = λ f. record { lines = c.self.inside.lines.items; begun = begun_of c.self.inside.line.items f } in
    let e : view (Some c.in-Some.fault) ≡ c.args.self.now = ap view (sym c.in-Some.is) ∙ c.self.view_is in
    fault_again c.in-Some.fault c.self.inside.line.items c.self.inside.lines.items c.args.self.now c.args.piece.now e

pub returns-in-Err : goal.returns-in-Err
returns-in-Err c = fault_ends c.in-Err.fault c.args.self.now c.loop-byte.self c.take.new.self c.args.piece.now c.loop-byte.byte-index c.loop-byte-test.true c.loop-byte.invariant.taken c.in-Err.ensures

pub loop-byte-preserved : goal.loop-byte-preserved
loop-byte-preserved c =
    let P : List ℕ → Type 0 = λ t. c.take.new.self ≡ with_piece c.args.self.now t in
    record {
      taken = subst P (sym (take_more c.args.piece.now c.loop-byte.byte-index 0 c.loop-byte-test.true)) (takes_more c.args.self.now (take c.loop-byte.byte-index c.args.piece.now) c.loop-byte.self (get_or c.args.piece.now c.loop-byte.byte-index 0 ∷ []) c.take.new.self c.loop-byte.invariant.taken c.in-Ok.ensures.0);
      going = c.in-Ok.ensures.1;
    }
