use Rattle.ug_types.proofs.Parents.{parent_root, parent_on_hub, parent_on_device, parent_named, top_root_hub, depth_top, depth_above, parent_first}
use Rattle.ug_types.proofs.laws.parents_law.Goals as goal

pub returns : goal.returns
returns c = record {
  root_hub = parent_root;
  on_root_hub = parent_on_hub;
  on_device = λ front port d. parent_on_device front port;
  only_root_hub = top_root_hub;
  named = parent_named;
  depth_top = depth_top;
  depth_above = depth_above;
  first = parent_first;
}
