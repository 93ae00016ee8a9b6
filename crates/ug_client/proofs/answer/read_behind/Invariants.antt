use Rattle.std.proofs.Common.{◌≤◌, ◌-◌, length, drop}
use Rattle.ug_client.specs.Notices.{IsBehindNotices}
use Rattle.ug_client.proofs.answer.read_behind.Given as goal

abbrev pub invariant-notices : goal.invariant-notices
invariant-notices l = record {
  within : l.at ≤ length l.text;
  skipped : IsBehindNotices l.text (drop l.at l.text);
}

abbrev pub decreases-notices : goal.decreases-notices
decreases-notices l = length l.text - l.at
