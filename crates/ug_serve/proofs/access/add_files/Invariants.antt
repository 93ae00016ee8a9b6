use Rattle.std.proofs.Common.{◌≡◌, ◌≤◌, drop}
use Rattle.ug_serve.specs.Access.{ReadsNames, added_for}
use Rattle.ug_serve.proofs.access.add_files.Given as goal

-- a run of what is left ends a run of the whole
abbrev pub invariant-loop-name : goal.invariant-loop-name
invariant-loop-name g l = record {
  runs : (r : _) (t : _) → ReadsNames g.F.ConfFiles.gives l.folder (drop l.name-index l.names) l.added.acl l.files r t → ReadsNames g.F.ConfFiles.gives l.folder l.names l.fn.added.acl l.fn.files r t;
  kept : l.added.principals.items ≡ added_for l.added.acl;
  counted : g.F.ConfFiles.faults l.fn.files ≤ g.F.ConfFiles.faults l.files;
}
