-- A rule that some line reads as has no empty set of values.
use Rattle.std.proofs.Common.{ℕ, suc, ◌<◌, List, [], ◌∷◌, length, Option, Some, None, arith, sym, subst, inl, inr}
use Rattle.std.proofs.Common.{All}
use Rattle.ug_words.specs.declared.token.Token.{Token}
use Rattle.ug_types.specs.Elements.{Has}
use Rattle.ug_types.specs.declared.rule.Conds.{Conds}
use Rattle.ug_types.specs.declared.rule.Query.{Query}
use Rattle.ug_types.specs.declared.rule.Rule.{Rule}
use Rattle.ug_types.specs.declared.rule.Values.{Values}
use Rattle.ug_words.specs.declared.keywords.Attr.{Attr}
use Rattle.ug_words.specs.declared.keywords.Attr.TheVariants as attr
use Rattle.ug_rule.specs.Grammar.{AreParts, Attribute, BeginsQuery, If, IsValue, RulePart, Tells, WellFormed}
use Rattle.ug_rule.specs.Queries.{no_query}
use Rattle.ug_rule.specs.Values.{id_in, string_in}
use Rattle.ug_lint.specs.Filled.{HasItem, IsFilled}
use Rattle.ug_lint.proofs.Deciders.{AreFilled}

long_filled : {X : Type 0} (items : List X) → 0 < length items → HasItem items
long_filled [] lt = absurd (omega arith)
long_filled (item ∷ items) lt = tt

value_filled : {X : Type 0} (line : List ℕ) (reads : Token → Option X) (values : Values X) (tokens rest : List Token) → IsValue line reads values tokens rest → HasItem values.items
value_filled {X} line reads values tokens rest (inl s) = subst (λ (v : Values X). HasItem v.items) (sym s.is) tt
value_filled {X} line reads values tokens rest (inr (inl s)) = subst (λ (v : Values X). HasItem v.items) (sym s.is) (long_filled s.items s.set.some)
value_filled {X} line reads values tokens rest (inr (inr s)) = subst (λ (v : Values X). HasItem v.items) (sym s.is) (long_filled s.items s.set.some)

blank_filled : IsFilled no_query
blank_filled = record { id = tt; serial = tt; name = tt; hash = tt; parent_hash = tt; via_port = tt; connect = tt }

told_filled : (line : List ℕ) (a : Attr) (query next : Query) (tokens rest : List Token) → Tells line a query next tokens rest → IsFilled query → IsFilled next
told_filled line attr.Id query next tokens rest v f = subst IsFilled (sym v.2) (record { id = value_filled line (id_in line) v.0 tokens rest v.1; serial = f.serial; name = f.name; hash = f.hash; parent_hash = f.parent_hash; via_port = f.via_port; connect = f.connect })
told_filled line attr.Serial query next tokens rest v f = subst IsFilled (sym v.2) (record { id = f.id; serial = value_filled line (string_in line) v.0 tokens rest v.1; name = f.name; hash = f.hash; parent_hash = f.parent_hash; via_port = f.via_port; connect = f.connect })
told_filled line attr.Name query next tokens rest v f = subst IsFilled (sym v.2) (record { id = f.id; serial = f.serial; name = value_filled line (string_in line) v.0 tokens rest v.1; hash = f.hash; parent_hash = f.parent_hash; via_port = f.via_port; connect = f.connect })
told_filled line attr.Hash query next tokens rest v f = subst IsFilled (sym v.2) (record { id = f.id; serial = f.serial; name = f.name; hash = value_filled line (string_in line) v.0 tokens rest v.1; parent_hash = f.parent_hash; via_port = f.via_port; connect = f.connect })
told_filled line attr.ParentHash query next tokens rest v f = subst IsFilled (sym v.2) (record { id = f.id; serial = f.serial; name = f.name; hash = f.hash; parent_hash = value_filled line (string_in line) v.0 tokens rest v.1; via_port = f.via_port; connect = f.connect })
told_filled line attr.ViaPort query next tokens rest v f = subst IsFilled (sym v.2) (record { id = f.id; serial = f.serial; name = f.name; hash = f.hash; parent_hash = f.parent_hash; via_port = value_filled line (string_in line) v.0 tokens rest v.1; connect = f.connect })
told_filled line attr.Connect query next tokens rest v f = subst IsFilled (sym v.2) (record { id = f.id; serial = f.serial; name = f.name; hash = f.hash; parent_hash = f.parent_hash; via_port = f.via_port; connect = value_filled line (string_in line) v.0 tokens rest v.1 })
told_filled line attr.Interface query next tokens rest v f = subst IsFilled (sym v.2) (record { id = f.id; serial = f.serial; name = f.name; hash = f.hash; parent_hash = f.parent_hash; via_port = f.via_port; connect = f.connect })
told_filled line attr.Label query next tokens rest v f = subst IsFilled (sym v.2) (record { id = f.id; serial = f.serial; name = f.name; hash = f.hash; parent_hash = f.parent_hash; via_port = f.via_port; connect = f.connect })

parts_filled : (line : List ℕ) (parts : List RulePart) (query : Query) (conds : Option Conds) (all : Query) (found : Option Conds) (tokens : List Token) → AreParts line parts query conds all found tokens → IsFilled query → IsFilled all
parts_filled line [] query conds all found tokens p f = subst IsFilled (sym p.0) f
parts_filled line (Attribute a ∷ parts) query conds all found tokens p f =
    parts_filled line parts p.0 conds all found p.1 p.3 (told_filled line a query p.0 p.2.more p.1 p.2.tells f)
parts_filled line (If ∷ parts) query conds all found tokens p f = parts_filled line parts query (Some p.0) all found p.1 p.4 f

begun_filled : (line : List ℕ) (query : Query) (tokens rest : List Token) → BeginsQuery line query tokens rest → IsFilled query
begun_filled line query tokens rest (inl s) = subst IsFilled (sym s.is) (record { id = tt; serial = tt; name = tt; hash = tt; parent_hash = tt; via_port = tt; connect = tt })
begun_filled line query tokens rest (inr s) = subst IsFilled (sym s.1) blank_filled

pub rule_filled : (rule : Rule) → WellFormed rule → IsFilled rule.query
rule_filled rule w =
    let is = w.says.is in
    parts_filled w.line is.parts is.first None rule.query rule.conds is.behind is.are (begun_filled w.line is.first is.body is.behind is.begins)

all_has : (rules : List Rule) (rule : Rule) → All WellFormed rules → Has rules rule → WellFormed rule
all_has [] rule all h = absurd h
all_has (r ∷ rules) rule all (inl e) = subst WellFormed e (all 0 r (omega arith))
all_has (r ∷ rules) rule all (inr h) = all_has rules rule (λ k d lt. all (suc k) d (omega arith)) h

pub are_filled : (rules : List Rule) → All WellFormed rules → AreFilled rules
are_filled rules all rule h = rule_filled rule (all_has rules rule all h)
