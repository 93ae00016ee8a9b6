-- Whether conditions hold, by what is kept of a rule's past.
use Rattle.std.specs.Prelude.{ℕ, ◌+◌, ◌*◌, ◌^◌, List, Bool, true, false, not, ◌&&◌, ◌||◌, nat_le, nat_lt, if◌then◌else◌, Option, Some, None}
use Rattle.std.specs.List.{list_all, list_any}
use Rattle.ug_types.specs.declared.record.DeviceRecord.{DeviceRecord}
use Rattle.ug_types.specs.declared.rule.Cond.{Cond}
use Rattle.ug_types.specs.declared.rule.CondKind.{CondKind}
use Rattle.ug_types.specs.declared.rule.CondKind.TheVariants as kind
use Rattle.ug_types.specs.declared.rule.Conds.{Conds}
use Rattle.ug_types.specs.declared.rule.Op.{Op}
use Rattle.ug_types.specs.declared.rule.Op.TheVariants.{AllOf, OneOf, NoneOf, Equals, EqualsOrdered}
use Rattle.ug_types.specs.declared.rule.Query.{Query}
use Rattle.ug_types.specs.declared.verdict.Moment.{Moment}
use Rattle.ug_match.specs.Queries.{query_matches}
use Rattle.ug_cond.specs.declared.context.Context.{Context}
use Rattle.ug_cond.specs.declared.history.History.{History}
use Rattle.ug_cond.specs.Words.{with_words}

-- a span of the day; an end before the begin is on the next day
abbrev pub is_in_time : ℕ → ℕ → ℕ → Bool
is_in_time begin end second =
    if nat_le begin end then nat_le begin second && nat_le second end
    else nat_le begin second || nat_le second end

abbrev pub matches_some_record : Query → List DeviceRecord → Bool
matches_some_record query records = list_any (λ r. query_matches query r) records

-- a moment is that many seconds ago, or fewer; where no number is given, each moment will do
abbrev pub is_recent : Option ℕ → Moment → Moment → Bool
is_recent None now moment = true
is_recent (Some past) now moment = nat_le now.0 (moment.0 + past)

-- the greatest moment is such a one, if there is one
abbrev pub was_recent : Option ℕ → Moment → Option Moment → Bool
was_recent past now None = false
was_recent past now (Some kept) = is_recent past now kept

-- of all words, that many billionths are below
abbrev pub is_drawn : ℕ → ℕ → Bool
is_drawn billionths word = nat_lt (word * 1000000000) (billionths * 2 ^ 64)

-- a condition without its negation; the word is for a random one
abbrev pub is_so : History → Context → List DeviceRecord → ℕ → CondKind → Bool
is_so history ctx records word (kind.LocalTime begin end) = is_in_time begin end ctx.second
is_so history ctx records word (kind.AllowedMatches query) = matches_some_record query records
is_so history ctx records word (kind.RuleApplied past) = was_recent past ctx.moment history.applied
is_so history ctx records word (kind.RuleEvaluated past) =
    was_recent past ctx.moment history.evaluated
is_so history ctx records word (kind.Random billionths) = is_drawn billionths word
is_so history ctx records word kind.True = true
is_so history ctx records word kind.False = false

abbrev pub condition_holds : History → Context → List DeviceRecord → Cond × ℕ → Bool
condition_holds history ctx records c =
    if c.0.negated then not (is_so history ctx records c.1 c.0.kind)
    else is_so history ctx records c.1 c.0.kind

-- what the operator makes of whether all hold and whether some do
abbrev pub by_operator : Op → Bool → Bool → Bool
by_operator AllOf all some = all
by_operator OneOf all some = some
by_operator NoneOf all some = not some
by_operator Equals all some = all
by_operator EqualsOrdered all some = all

-- by their operator
abbrev pub conditions_hold : History → Context → List DeviceRecord → Conds → List ℕ → Bool
conditions_hold history ctx records conds words =
    by_operator conds.op
    (list_all (condition_holds history ctx records) (with_words conds.items words))
    (list_any (condition_holds history ctx records) (with_words conds.items words))
