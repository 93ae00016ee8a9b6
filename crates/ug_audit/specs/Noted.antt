-- What is noted of an event.
use Rattle.std.specs.Prelude.{ℕ, List}
use Rattle.ug_audit.specs.declared.entry.Entry.{Entry}

-- the entries so far, how many more there is room for, and the room in all
pub record Noted : Type 0 where
  pub entries : List Entry
  pub spare : ℕ
  pub room : ℕ
