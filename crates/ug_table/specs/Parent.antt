-- A name whose parent has a standing: it is bound by the parent's held file, and judged under the
-- hash that is kept of the parent where its files weren't read.
use Rattle.std.specs.Prelude.{ℕ, List, Option, Some, None}
use Rattle.ug_types.specs.Names.{parent_of}
use Rattle.ug_types.specs.declared.record.Attrs.{Attrs}
use Rattle.ug_types.specs.declared.record.Judged.{Judged}
use Rattle.ug_kernel.specs.Tree.{Prog}
use Rattle.ug_record.specs.Records.{child_hash_of, judged_of, judged_under}
use Rattle.ug_kernel.specs.Bind.{binding, binding_under}
use Rattle.ug_kernel.specs.declared.identity.Bound.{Bound}
use Rattle.ug_kernel.specs.declared.identity.Binding.{Binding}
use Rattle.ug_table.specs.Standings.{named}
use Rattle.ug_table.specs.declared.standing.Standing.{Standing}

abbrev pub standing_above : Option (List ℕ) → List Standing → Option Standing
standing_above None ss = None
standing_above (Some parent) ss = named parent ss

-- the standing of a name's parent
abbrev pub parent_standing : List ℕ → List Standing → Option Standing
parent_standing name ss = standing_above (parent_of name) ss

abbrev pub held_of : Option Standing → Option ℕ
held_of None = None
held_of (Some s) = Some s.held.0

-- the calls that bind a name with that standing of its parent, or with none
abbrev pub binding_by : List ℕ → Option Standing → Prog Binding
binding_by name None = binding name (parent_of name)
binding_by name (Some s) = binding_under name s.name s.held.0

-- and beside these standings
abbrev pub binding_for : List ℕ → List Standing → Prog Binding
binding_for name ss = binding_by name (parent_standing name ss)

-- the record from a device's own files, beside the standing of its parent and the files that were
-- read of that: under the kept hash just where there is a standing, and no file was read
abbrev pub judged_beside : List ℕ → Attrs → Option Standing → Option Attrs → Judged
judged_beside name attrs None read = judged_of name attrs read
judged_beside name attrs (Some s) (Some parent) = judged_of name attrs (Some parent)
judged_beside name attrs (Some s) None = judged_under name attrs s.hash

-- of a bound device, beside these standings
abbrev pub judged_bound : List ℕ → List Standing → Bound → Judged
judged_bound name ss b = judged_beside name b.attrs (parent_standing name ss) b.parent

-- the hash that its children will see
abbrev pub bound_hash : Bound → List ℕ
bound_hash b = child_hash_of b.attrs b.core_long
