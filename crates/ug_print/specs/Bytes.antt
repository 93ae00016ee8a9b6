-- Rules whose texts are bytes, as those in memory are.
use Rattle.std.specs.Prelude.{ℕ, ◌<◌, List, Option, All, IfSome}
use Rattle.ug_types.specs.declared.rule.Cond.{Cond}
use Rattle.ug_types.specs.declared.rule.CondKind.{CondKind}
use Rattle.ug_types.specs.declared.rule.CondKind.TheVariants as kind
use Rattle.ug_types.specs.declared.rule.Conds.{Conds}
use Rattle.ug_types.specs.declared.rule.Query.{Query}
use Rattle.ug_types.specs.declared.rule.Rule.{Rule}
use Rattle.ug_types.specs.declared.rule.Values.{Values}

abbrev pub AreBytes : List ℕ → Type 0
AreBytes text = All (λ b. b < 256) text

-- each text that is given
abbrev pub TextsOfBytes : Option (Values (List ℕ)) → Type 0
TextsOfBytes values = IfSome values (λ values. All AreBytes values.items)

pub record QueryOfBytes (query : Query) : Type 0 where
  pub serial : TextsOfBytes query.serial
  pub name : TextsOfBytes query.name
  pub hash : TextsOfBytes query.hash
  pub parent_hash : TextsOfBytes query.parent_hash
  pub via_port : TextsOfBytes query.via_port
  pub connect : TextsOfBytes query.connect
  pub label : IfSome query.label AreBytes

abbrev pub KindOfBytes : CondKind → Type 0
KindOfBytes (kind.LocalTime begin end) = Unit {0}
KindOfBytes (kind.AllowedMatches query) = QueryOfBytes query
KindOfBytes (kind.RuleApplied past) = Unit {0}
KindOfBytes (kind.RuleEvaluated past) = Unit {0}
KindOfBytes (kind.Random n) = Unit {0}
KindOfBytes kind.True = Unit {0}
KindOfBytes kind.False = Unit {0}

abbrev pub CondOfBytes : Cond → Type 0
CondOfBytes cond = KindOfBytes cond.kind

abbrev pub CondsOfBytes : Option Conds → Type 0
CondsOfBytes conds = IfSome conds (λ conds. All CondOfBytes conds.items)

-- each text of the rule, those of its conditions too
pub record RuleOfBytes (rule : Rule) : Type 0 where
  pub query : QueryOfBytes rule.query
  pub conds : CondsOfBytes rule.conds
