use Rattle.std.proofs.Common.{◌≡◌, ◌+◌, ◌<◌, Ok, Err, List, length, drop, sym, ap, ◌∙◌, arith}
use Rattle.std.proofs.lemmas.List.{append-nil}
use Rattle.ug_words.specs.declared.pieces.Front.TheVariants.{Blank, Comment, Piece}
use Rattle.ug_words.specs.declared.token.Token.{Token}
use Rattle.ug_words.specs.Lexing.{front_of, tokens_from}
use Rattle.ug_words.proofs.Steps.{behind, handed_over, line_end, line_more, line_turn}
use Rattle.ug_words.proofs.reading.read.Goals as goal

pub returns-in_err-front : goal.returns-in_err-front
returns-in_err-front c =
    handed_over c.from_residual-in_err-front.result c.in_err-front.field-0.0 (front_of c.loop-at.at (drop c.loop-at.at c.args.line.now)) (tokens_from 0 0 c.args.line.now) c.from_residual-in_err-front.ensures.1
    (λ fault e. line_turn c.args.line.now c.loop-at.at c.loop-at.tokens (Err fault) (tokens_from 0 0 c.args.line.now) c.loop-at-test.true c.loop-at.invariant.read e (omega (arith, c.loop-at-test.true)))
    c.in_err-front.ensures.read

pub loop-at-preserved-in-Blank : goal.loop-at-preserved-in-Blank
loop-at-preserved-in-Blank c =
    let e : front_of c.loop-at.at (drop c.loop-at.at c.args.line.now) ≡ Ok Blank = rw c.in-Blank.is at c.in_ok-front.ensures.read in
    record {
      within = omega (arith, c.loop-at-test.true);
      read = sym (line_turn c.args.line.now c.loop-at.at c.loop-at.tokens (Ok Blank) (tokens_from 0 0 c.args.line.now) c.loop-at-test.true c.loop-at.invariant.read e (omega (arith, c.loop-at-test.true)));
    }

pub returns-in-Comment : goal.returns-in-Comment
returns-in-Comment c =
    let e : front_of c.loop-at.at (drop c.loop-at.at c.args.line.now) ≡ Ok Comment = rw c.in-Comment.is at c.in_ok-front.ensures.read in
    line_turn c.args.line.now c.loop-at.at c.loop-at.tokens (Ok Comment) (tokens_from 0 0 c.args.line.now) c.loop-at-test.true c.loop-at.invariant.read e (omega (arith, c.loop-at-test.true))
    ∙ ap (λ (l : List Token). Ok l) (append-nil c.loop-at.tokens)

pub loop-at-preserved : goal.loop-at-preserved
loop-at-preserved c =
    let e : front_of c.loop-at.at (drop c.loop-at.at c.args.line.now) ≡ Ok (Piece c.in-Piece.kind c.in-Piece.more) = rw c.in-Piece.is at c.in_ok-front.ensures.read in
    let m : c.loop-at.at + c.in-Piece.more < length c.args.line.now = rw c.in-Piece.is at c.in_ok-front.ensures.fits in
    record {
      within = omega (arith, m);
      read = rw c.in_ok-push-in-Piece.ensures.ok (line_more c.args.line.now c.loop-at.at c.loop-at.tokens c.in-Piece.kind c.in-Piece.more (tokens_from 0 0 c.args.line.now) c.loop-at-test.true c.loop-at.invariant.read e m);
    }

pub returns : goal.returns
returns c =
    sym c.loop-at.invariant.read ∙ ap (behind c.loop-at.tokens) (line_end c.loop-at.at c.args.line.now c.loop-at-test.false) ∙ ap (λ (l : List Token). Ok l) (append-nil c.loop-at.tokens)
