-- Conditions of which it is certain, whatever is judged and when, that they hold or that they
-- don't.
use Rattle.std.specs.Prelude.{List, Bool, true, false, nat_eq, if◌then◌else◌, Option, Some, None}
use Rattle.std.specs.List.{list_all, list_any}
use Rattle.ug_types.specs.declared.rule.Cond.{Cond}
use Rattle.ug_types.specs.declared.rule.CondKind.{CondKind}
use Rattle.ug_types.specs.declared.rule.CondKind.TheVariants as kind
use Rattle.ug_types.specs.declared.rule.Conds.{Conds}
use Rattle.ug_types.specs.declared.rule.Op.{Op}
use Rattle.ug_types.specs.declared.rule.Op.TheVariants.{AllOf, OneOf, NoneOf, Equals, EqualsOrdered}

-- `true`, and a random choice with probability 1
abbrev pub is_true : CondKind → Bool
is_true (kind.LocalTime begin end) = false
is_true (kind.AllowedMatches query) = false
is_true (kind.RuleApplied past) = false
is_true (kind.RuleEvaluated past) = false
is_true (kind.Random billionths) = nat_eq billionths 1000000000
is_true kind.True = true
is_true kind.False = false

-- `false`, and a random choice with probability 0
abbrev pub is_false : CondKind → Bool
is_false (kind.LocalTime begin end) = false
is_false (kind.AllowedMatches query) = false
is_false (kind.RuleApplied past) = false
is_false (kind.RuleEvaluated past) = false
is_false (kind.Random billionths) = nat_eq billionths 0
is_false kind.True = false
is_false kind.False = true

-- it always holds
abbrev pub is_sure : Cond → Bool
is_sure cond = if cond.negated then is_false cond.kind else is_true cond.kind

-- it never holds
abbrev pub is_hopeless : Cond → Bool
is_hopeless cond = if cond.negated then is_true cond.kind else is_false cond.kind

abbrev pub always_by : Op → List Cond → Bool
always_by AllOf conds = list_all is_sure conds
always_by OneOf conds = list_any is_sure conds
always_by NoneOf conds = list_all is_hopeless conds
always_by Equals conds = list_all is_sure conds
always_by EqualsOrdered conds = list_all is_sure conds

abbrev pub never_by : Op → List Cond → Bool
never_by AllOf conds = list_any is_hopeless conds
never_by OneOf conds = list_all is_hopeless conds
never_by NoneOf conds = list_any is_sure conds
never_by Equals conds = list_any is_hopeless conds
never_by EqualsOrdered conds = list_any is_hopeless conds

-- the conditions of a rule, by their operator; a rule without conditions always holds
abbrev pub always_hold : Option Conds → Bool
always_hold None = true
always_hold (Some conds) = always_by conds.op conds.items

abbrev pub never_hold : Option Conds → Bool
never_hold None = false
never_hold (Some conds) = never_by conds.op conds.items
