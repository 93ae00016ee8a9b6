-- Rules in their order.
use Rattle.std.specs.Prelude.{ℕ, ◌<◌, ◌≤◌, List, map, length}
use Rattle.ug_types.specs.Elements.{Has, AllDistinct}
use Rattle.ug_types.specs.declared.rule.Query.{Query}
use Rattle.ug_types.specs.declared.rule.Rule.{Rule}
use Rattle.ug_policy.specs.Candidates as places
use Rattle.ug_policy.specs.Marks.{FolderFirst}
use Rattle.ug_policy.specs.declared.entry.Mark.{Mark}
use Rattle.ug_policy.specs.declared.entry.RuleEntry.{RuleEntry}

-- the rules in order, the id of the next one, and the number of those for which there is room
pub record Rules : Type 0 where
  pub entries : List RuleEntry
  pub next : ℕ
  pub spare : ℕ

abbrev pub ids : List RuleEntry → List ℕ
ids entries = map (λ e. e.id) entries

abbrev pub marks : List RuleEntry → List Mark
marks entries = map (λ e. e.mark) entries

-- the rules of a list, in order
abbrev pub rules_in : List RuleEntry → List Rule
rules_in entries = map (λ e. e.rule) entries

abbrev pub queries : List RuleEntry → List Query
queries entries = map (λ e. e.rule.query) entries

-- how many rules a list has at most
abbrev pub most_rules : ℕ
most_rules = 65536

-- no two rules have one id, each id was given before the next one, there are no more than a list
-- has, and the folder's stand before
-- those of the rule file
pub record IsNumbered (entries : List RuleEntry) (next : ℕ) : Type 0 where
  pub distinct : AllDistinct (ids entries)
  pub below : (id : ℕ) → Has (ids entries) id → id < next
  pub few : length entries ≤ most_rules
  pub order : FolderFirst (marks entries)

-- and the index stands for their queries
pub record IsIndexed (entries : List RuleEntry) (next : ℕ) (index : places.Indexed) : Type 0 where
  pub numbered : IsNumbered entries next
  pub stands : places.StandsForQueries index (queries entries)
