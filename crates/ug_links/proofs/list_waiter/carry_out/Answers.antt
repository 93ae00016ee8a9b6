use Rattle.std.proofs.Common.{rules, take, ap, ◌∙◌}
use Rattle.ug_links.specs.Waits.{Tokens}
use Rattle.ug_links.proofs.Copied.{copied_front}
use Rattle.ug_links.proofs.list_waiter.carry_out.Goals as goal

pub returns-in-Some-Gives-clause-waited : goal.returns-in-Some-Gives-clause-waited
returns-in-Some-Gives-clause-waited c =
    let front = copied_front c.as_slice-tokens.result.now c.args.into.now c.copy_from_slice.new.self c.min-n.result 256 c.requires c.min-n.ensures c.copy_from_slice.ensures.after in
    ap Tokens front ∙ (ap (λ tokens. Tokens (take 256 tokens)) c.as_slice-tokens.ensures ∙ search rules)
