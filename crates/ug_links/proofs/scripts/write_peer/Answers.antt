use Rattle.std.proofs.Common.{◌∙◌, length, arith}
use Rattle.ug_links.proofs.Places.{changed_past, changed_in, write_past, write_in}
use Rattle.ug_links.specs.Peers.{write_after}
use Rattle.ug_links.proofs.scripts.write_peer.Goals as goal

pub returns-then-i-peers-clause-answer : goal.returns-then-i-peers-clause-answer
returns-then-i-peers-clause-answer c = write_past (length c.args.bytes.now) c.args.id.0 c.args.peers.now (omega (arith, c.if-i-peers.true))

pub returns-then-i-peers-clause-after : goal.returns-then-i-peers-clause-after
returns-then-i-peers-clause-after c = changed_past write_after c.args.id.0 c.args.peers.now (omega (arith, c.if-i-peers.true))

pub returns-clause-answer : goal.returns-clause-answer
returns-clause-answer c =
    c.write.ensures.answer ∙ write_in (length c.args.bytes.now) c.args.id.0 c.args.peers.now c.index-peers-i.result (omega (arith, c.if-i-peers.false))

pub returns-clause-after : goal.returns-clause-after
returns-clause-after c =
    changed_in write_after c.args.id.0 c.args.peers.now c.index-peers-i.result c.write.new.self (omega (arith, c.if-i-peers.false)) c.write.ensures.after
