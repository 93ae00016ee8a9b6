use Rattle.std.proofs.Common.{◌≤◌, length, rules, not}
use Rattle.std.proofs.lemmas.List.Sorted.{IsPartitionPoint-from_clause}
use Rattle.ug_sysfs.specs.declared.script.Scheduled.{Scheduled}
use Rattle.ug_sysfs.specs.Queue.{comes_later}
use Rattle.ug_sysfs.proofs.Points.{first_found, parted}
use Rattle.ug_sysfs.proofs.queue.first_later.Goals as goal

pub returns-clause-place : goal.returns-clause-place
returns-clause-place c =
    let ms = c.args.moves.now.items in
    let m = c.args.action.now in
    let le : c.partition_point.result ≤ length ms = search rules in
    first_found m ms c.partition_point.result le
    (IsPartitionPoint-from_clause (λ (x : Scheduled). not (comes_later x m)) ms c.partition_point.result c.partition_point.ensures.partitioned (parted m ms c.requires) (λ a r f' k. search rules))
