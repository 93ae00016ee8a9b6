use Rattle.std.proofs.Common.{List, ℕ, ◌≡◌, ◌<◌, ◌-◌, ap, drop, subst, sym, ◌∙◌, arith}
use Rattle.ug_types.proofs.Known.{to_end}
use Rattle.ug_client.specs.ReadSoFar.{AwaitsLines, newlines}
use Rattle.ug_client.proofs.Missing.{fewer_missing, missing_behind_notices, same_notices, same_within, still_awaits}
use Rattle.ug_client.proofs.so_far.read_on.Goals as goal

pub returns-then-ended-so_far-clause-so_far : goal.returns-then-ended-so_far-clause-so_far
returns-then-ended-so_far-clause-so_far c =
    let text = c.args.text.now in
    let count : c.count_newlines-ended.result ≡ newlines (drop c.args.from text) = c.count_newlines-ended.ensures ∙ ap newlines (to_end c.args.from text) in
    let few : newlines (drop c.args.from text) < c.args.so_far.now.missing = omega (arith, c.if-ended-so_far.true, count) in
    λ e. record {
      within = same_within text c.args.from c.args.so_far.now.at c.requires.so_far.within;
      notices = same_notices text c.args.from c.args.so_far.now.at c.requires.so_far.within c.requires.so_far.notices;
      missing = subst (λ (n : ℕ). AwaitsLines text (c.args.so_far.now.missing - n)) (sym count) (fewer_missing text c.args.from c.args.so_far.now.missing c.requires.so_far.missing few);
    }

pub returns-then-ended-so_far-clause-answers : goal.returns-then-ended-so_far-clause-answers
returns-then-ended-so_far-clause-answers c =
    let text = c.args.text.now in
    let count : c.count_newlines-ended.result ≡ newlines (drop c.args.from text) = c.count_newlines-ended.ensures ∙ ap newlines (to_end c.args.from text) in
    still_awaits text c.args.from c.args.so_far.now.missing c.requires.so_far.missing (omega (arith, c.if-ended-so_far.true, count))

pub read_behind-requires-clause-notices : goal.read_behind-requires-clause-notices
read_behind-requires-clause-notices c = same_notices c.args.text.now c.args.from c.args.so_far.now.at c.requires.so_far.within c.requires.so_far.notices

pub returns-in-Ok-None-clause-so_far : goal.returns-in-Ok-None-clause-so_far
returns-in-Ok-None-clause-so_far c = λ e. record {
  within = c.read_behind.ensures.within;
  notices = c.read_behind.ensures.notices;
  missing = missing_behind_notices c.args.text.now c.read_behind.new.at c.missing_lines-so_far.result c.read_behind.ensures.notices
      (subst (λ (b : List ℕ). AwaitsLines b c.missing_lines-so_far.result) (to_end c.read_behind.new.at c.args.text.now) c.missing_lines-so_far.ensures);
}
