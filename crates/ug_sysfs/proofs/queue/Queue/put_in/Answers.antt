use Rattle.ug_sysfs.proofs.Points.{put_either}
use Rattle.ug_sysfs.proofs.queue.Queue.put_in.Goals as goal

pub invariant_of-self : goal.invariant_of-self
invariant_of-self c = put_either _ c.insert.result c.args.action c.self.inside.moves.items _ _ c.self.invariant c.place_for-at.ensures.bound c.place_for-at.ensures.place c.insert.ensures.items c.insert.ensures.unchanged
