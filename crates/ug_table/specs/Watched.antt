-- A query whose answer is at hand.
use Rattle.std.specs.Prelude.{◌≡◌, false, List, Option, Some, None, if◌then◌else◌}
use Rattle.ug_types.specs.Elements.{Has}
use Rattle.ug_table.specs.Allowed.{matches_allowed}
use Rattle.ug_table.specs.declared.standing.Standing.{Standing}
use Rattle.ug_table.specs.declared.watch.Watch.{Watch}

-- where it found nobody, it matches none of the standings
abbrev pub AnswersFor : Option Watch → List Standing → Type 0
AnswersFor None ss = Unit {0}
AnswersFor (Some w) ss =
    w.found ≡ None → (s : Standing) → Has ss s → matches_allowed w.query s ≡ false

-- once it was held against a standing
abbrev pub looked_at : Standing → Option Watch → Option Watch
looked_at s None = None
looked_at s (Some w) =
    Some (record w { found = if matches_allowed w.query s then Some s.name else w.found })

abbrev pub if_looked : Option Standing → Option Watch → Option Watch
if_looked None watch = watch
if_looked (Some s) watch = looked_at s watch
