use Rattle.std.proofs.Common.{take}
use Rattle.ug_audit.specs.Journal.{members}
use Rattle.ug_audit.specs.Noting.{NotesStart}
use Rattle.ug_serve.specs.Opening.{unused_entries}
use Rattle.ug_serve.proofs.noting.note_unused.Given as goal

abbrev pub invariant-loop-line : goal.invariant-loop-line
invariant-loop-line g l =
    NotesStart (unused_entries (take l.line-index l.lines)) (members (λ b. goal.Auditor-dyn g (b.vtable, b.value)) l.fn.panel) (members (λ b. goal.Auditor-dyn g (b.vtable, b.value)) l.panel)
