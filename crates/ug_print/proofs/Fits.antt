-- What is printed of a rule that was read is read again.
use Rattle.std.proofs.Common.{◌≡◌, ℕ, ◌<◌, inl, inr, false, List, [], ◌∷◌, ◌++◌, codes, length, Option, None, Some, sym, subst, arith}
use Rattle.std.specs.Prelude.{IfSome, decimal}
use Rattle.std.specs.List.{AllByRecursion}
use Rattle.std.proofs.lemmas.List.Elements.{recursion_from_All}
use Rattle.ug_words.specs.declared.token.Token.{Token}
use Rattle.ug_types.specs.declared.rule.Cond.{Cond}
use Rattle.ug_types.specs.declared.rule.CondKind.{CondKind}
use Rattle.ug_types.specs.declared.rule.CondKind.TheVariants as condition
use Rattle.ug_types.specs.declared.rule.Conds.{Conds}
use Rattle.ug_types.specs.declared.rule.Query.{Query}
use Rattle.ug_types.specs.declared.rule.Rule.{Rule}
use Rattle.ug_types.specs.declared.rule.Values.{Values}
use Rattle.ug_words.specs.declared.keywords.Attr.{Attr}
use Rattle.ug_words.specs.declared.keywords.Attr.TheVariants as attr
use Rattle.ug_words.specs.declared.keywords.CondName.{CondName}
use Rattle.ug_words.specs.declared.keywords.CondName.TheVariants as name
use Rattle.ug_rule.specs.Conditions.{chance_or_half}
use Rattle.ug_rule.specs.Grammar.{AreItems, IsSet, IsValue, Tells, AreAttributes, BeginsQuery, IsQueryTo, MayHaveArgument, Argues, IsCondition, AreConditions, IsConditions, RulePart, Attribute, If, AreParts, IsRule, WellFormed}
use Rattle.ug_rule.specs.Queries.{is_empty_query, no_query}
use Rattle.ug_rule.specs.Tokens.{word_of}
use Rattle.ug_rule.specs.Values.{id_in, interface_in, string_in}
use Rattle.ug_words.specs.Words.{span_of, past_of, chance_of}
use Rattle.ug_print.specs.Bytes.{AreBytes, CondOfBytes, CondsOfBytes, KindOfBytes, QueryOfBytes, RuleOfBytes, TextsOfBytes}
use Rattle.ug_print.specs.Items.{id_text, interface_text, probability_text, string_text, time_text}
use Rattle.ug_print.proofs.Chances.{chance_word, half}
use Rattle.ug_print.proofs.ConditionsAgain.{CondFits, KindFits, WordFor}
use Rattle.ug_print.proofs.IdWords.{id_piece, interface_piece}
use Rattle.ug_print.proofs.QueryAgain.{QueryFits, ValuesFit}
use Rattle.ug_print.proofs.RuleAgain.{CondsFit, RuleFits}
use Rattle.ug_print.proofs.Strings.{string_piece}
use Rattle.ug_print.proofs.Times.{span_word, past_word}
use Rattle.ug_print.proofs.ValuesAgain.{AllPieces, ItemPiece}

-- ---- values

items_each : {X : Type 0} (reads : Token → Option X) (P : X → Type 0) → ((token : Token) (x : X) → reads token ≡ Some x → P x) → (tokens : List Token) (items : List X) → AreItems reads tokens items → AllByRecursion P items
items_each reads P f [] [] a = tt
items_each reads P f [] (item ∷ items) a = absurd a
items_each reads P f (token ∷ tokens) [] a = absurd a
items_each reads P f (token ∷ tokens) (item ∷ items) a = (f token item a.1, items_each reads P f tokens items a.2)

record Filled {X : Type 0} (P : X → Type 0) (values : Values X) : Type 0 where
  some : 0 < length values.items
  each : AllByRecursion P values.items

set_filled : {X : Type 0} (reads : Token → Option X) (P : X → Type 0) → ((token : Token) (x : X) → reads token ≡ Some x → P x) → (items : List X) (tokens rest : List Token) → IsSet reads items tokens rest → AllByRecursion P items
set_filled reads P f items tokens rest s = items_each reads P f s.inner items s.says

value_filled : {X : Type 0} (line : List ℕ) (reads : Token → Option X) (P : X → Type 0) → ((token : Token) (x : X) → reads token ≡ Some x → P x) → (values : Values X) (tokens rest : List Token) → IsValue line reads values tokens rest → Filled P values
value_filled line reads P f values tokens rest (inl s) =
    subst (Filled P) (sym s.is) (record { some = omega arith; each = (f s.token s.item s.says, tt) })
value_filled line reads P f values tokens rest (inr (inl s)) =
    subst (Filled P) (sym s.is) (record { some = s.set.some; each = set_filled reads P f s.items s.more rest s.set })
value_filled line reads P f values tokens rest (inr (inr s)) =
    subst (Filled P) (sym s.is) (record { some = s.set.some; each = set_filled reads P f s.items s.more rest s.set })

ids_fit : (line : List ℕ) (values : Values _) (tokens rest : List Token) → IsValue line (id_in line) values tokens rest → ValuesFit id_in id_text values
ids_fit line values tokens rest v =
    let f = value_filled line (id_in line) (λ x. ItemPiece id_in (id_text x) x) (λ token x h. id_piece (word_of line token) x h) values tokens rest v in
    record { some = f.some; each = f.each }

interfaces_fit : (line : List ℕ) (values : Values _) (tokens rest : List Token) → IsValue line (interface_in line) values tokens rest → ValuesFit interface_in interface_text values
interfaces_fit line values tokens rest v =
    let f = value_filled line (interface_in line) (λ x. ItemPiece interface_in (interface_text x) x) (λ token x h. interface_piece (word_of line token) x h) values tokens rest v in
    record { some = f.some; each = f.each }

abbrev HasItems : Values (List ℕ) → Type 0
HasItems values = 0 < length values.items

texts_some : (line : List ℕ) (values : Values (List ℕ)) (tokens rest : List Token) → IsValue line (string_in line) values tokens rest → HasItems values
texts_some line values tokens rest v = let f = value_filled line (string_in line) (λ x. Unit {0}) (λ token x h. tt) values tokens rest v in f.some

-- ---- queries

-- a query that was read
record QueryRead (query : Query) : Type 0 where
  id : IfSome query.id (ValuesFit id_in id_text)
  serial : IfSome query.serial HasItems
  name : IfSome query.name HasItems
  hash : IfSome query.hash HasItems
  parent_hash : IfSome query.parent_hash HasItems
  via_port : IfSome query.via_port HasItems
  interface : IfSome query.interface (ValuesFit interface_in interface_text)
  connect : IfSome query.connect HasItems

none_read : QueryRead no_query
none_read = record { id = tt; serial = tt; name = tt; hash = tt; parent_hash = tt; via_port = tt; interface = tt; connect = tt }

tells_read : (line : List ℕ) (attr : Attr) (query next : Query) (tokens rest : List Token) → QueryRead query → Tells line attr query next tokens rest → QueryRead next
tells_read line attr.Id query next tokens rest q t = subst QueryRead (sym t.2) (record { id = ids_fit line t.0 tokens rest t.1; serial = q.serial; name = q.name; hash = q.hash; parent_hash = q.parent_hash; via_port = q.via_port; interface = q.interface; connect = q.connect })
tells_read line attr.Serial query next tokens rest q t = subst QueryRead (sym t.2) (record { id = q.id; serial = texts_some line t.0 tokens rest t.1; name = q.name; hash = q.hash; parent_hash = q.parent_hash; via_port = q.via_port; interface = q.interface; connect = q.connect })
tells_read line attr.Name query next tokens rest q t = subst QueryRead (sym t.2) (record { id = q.id; serial = q.serial; name = texts_some line t.0 tokens rest t.1; hash = q.hash; parent_hash = q.parent_hash; via_port = q.via_port; interface = q.interface; connect = q.connect })
tells_read line attr.Hash query next tokens rest q t = subst QueryRead (sym t.2) (record { id = q.id; serial = q.serial; name = q.name; hash = texts_some line t.0 tokens rest t.1; parent_hash = q.parent_hash; via_port = q.via_port; interface = q.interface; connect = q.connect })
tells_read line attr.ParentHash query next tokens rest q t = subst QueryRead (sym t.2) (record { id = q.id; serial = q.serial; name = q.name; hash = q.hash; parent_hash = texts_some line t.0 tokens rest t.1; via_port = q.via_port; interface = q.interface; connect = q.connect })
tells_read line attr.ViaPort query next tokens rest q t = subst QueryRead (sym t.2) (record { id = q.id; serial = q.serial; name = q.name; hash = q.hash; parent_hash = q.parent_hash; via_port = texts_some line t.0 tokens rest t.1; interface = q.interface; connect = q.connect })
tells_read line attr.Interface query next tokens rest q t = subst QueryRead (sym t.2) (record { id = q.id; serial = q.serial; name = q.name; hash = q.hash; parent_hash = q.parent_hash; via_port = q.via_port; interface = interfaces_fit line t.0 tokens rest t.1; connect = q.connect })
tells_read line attr.Connect query next tokens rest q t = subst QueryRead (sym t.2) (record { id = q.id; serial = q.serial; name = q.name; hash = q.hash; parent_hash = q.parent_hash; via_port = q.via_port; interface = q.interface; connect = texts_some line t.0 tokens rest t.1 })
tells_read line attr.Label query next tokens rest q t = subst QueryRead (sym t.2) (record { id = q.id; serial = q.serial; name = q.name; hash = q.hash; parent_hash = q.parent_hash; via_port = q.via_port; interface = q.interface; connect = q.connect })

attributes_read : (line : List ℕ) (attrs : List Attr) (query all : Query) (tokens rest : List Token) → QueryRead query → AreAttributes line attrs query all tokens rest → QueryRead all
attributes_read line [] query all tokens rest q a = subst QueryRead (sym a.0) q
attributes_read line (attr ∷ attrs) query all tokens rest q a = attributes_read line attrs a.0 all a.1 rest (tells_read line attr query a.0 a.2.more a.1 q a.2.tells) a.3

begins_read : (line : List ℕ) (query : Query) (tokens rest : List Token) → BeginsQuery line query tokens rest → QueryRead query
begins_read line query tokens rest (inl b) =
    subst QueryRead (sym b.is) (record { id = record { some = omega arith; each = (id_piece (word_of line b.token) b.id b.says, tt) }; serial = tt; name = tt; hash = tt; parent_hash = tt; via_port = tt; interface = tt; connect = tt })
begins_read line query tokens rest (inr b) = subst QueryRead (sym b.1) none_read

query_read : (line : List ℕ) (query : Query) (tokens rest : List Token) → IsQueryTo line query tokens rest → QueryRead query
query_read line query tokens rest q = attributes_read line q.attrs q.first query q.more rest (begins_read line q.first tokens q.more q.begins) q.are

-- ---- conditions

abbrev PastFits : Option ℕ → Type 0
PastFits past = IfSome past (λ seconds. WordFor past_of (decimal seconds) seconds)

-- a condition that was read
abbrev KindRead : CondKind → Type 0
KindRead (condition.LocalTime begin end) = WordFor span_of (time_text begin ++ 45 ∷ time_text end) (record { begin = begin; end = end })
KindRead (condition.AllowedMatches query) = QueryRead query × (is_empty_query query ≡ false)
KindRead (condition.RuleApplied past) = PastFits past
KindRead (condition.RuleEvaluated past) = PastFits past
KindRead (condition.Random n) = WordFor chance_of (probability_text n) n
KindRead condition.True = Unit {0}
KindRead condition.False = Unit {0}

past_fits : (line : List ℕ) (past : Option ℕ) (tokens rest : List Token) → MayHaveArgument line past_of past tokens rest → PastFits past
past_fits line None tokens rest m = tt
past_fits line (Some s) tokens rest m = past_word (word_of line m.word) s m.says

chance_fits : (line : List ℕ) (chance : Option ℕ) (tokens rest : List Token) → MayHaveArgument line chance_of chance tokens rest → WordFor chance_of (probability_text (chance_or_half chance)) (chance_or_half chance)
chance_fits line None tokens rest m = chance_word (codes "0.5") 500000000 half
chance_fits line (Some n) tokens rest m = chance_word (word_of line m.word) n m.says

argues_read : (line : List ℕ) (word : CondName) (kind : CondKind) (tokens rest : List Token) → Argues line word kind tokens rest → KindRead kind
argues_read line name.LocalTime kind tokens rest a = subst KindRead (sym a.2) (span_word (word_of line a.1.word) a.0 a.1.says)
argues_read line name.AllowedMatches kind tokens rest a = subst KindRead (sym a.2) (query_read line a.0 a.1.more (a.1.closing ∷ rest) a.1.is, a.1.some)
argues_read line name.RuleApplied kind tokens rest a = subst KindRead (sym a.2) (past_fits line a.0 tokens rest a.1)
argues_read line name.RuleEvaluated kind tokens rest a = subst KindRead (sym a.2) (past_fits line a.0 tokens rest a.1)
argues_read line name.Random kind tokens rest a = subst KindRead (sym a.2) (chance_fits line a.0 tokens rest a.1)
argues_read line name.True kind tokens rest a = subst KindRead (sym a.0) tt
argues_read line name.False kind tokens rest a = subst KindRead (sym a.0) tt

abbrev CondRead : Cond → Type 0
CondRead cond = KindRead cond.kind

condition_read : (line : List ℕ) (cond : Cond) (tokens rest : List Token) → IsCondition line cond tokens rest → CondRead cond
condition_read line cond tokens rest (inl p) = subst CondRead (sym p.is) (argues_read line p.named.name p.kind p.named.more rest p.named.argues)
condition_read line cond tokens rest (inr p) = subst CondRead (sym p.is) (argues_read line p.named.name p.kind p.named.more rest p.named.argues)

conds_read : (line : List ℕ) (conds : List Cond) (tokens rest : List Token) → AreConditions line conds tokens rest → AllByRecursion CondRead conds
conds_read line [] tokens rest a = tt
conds_read line (cond ∷ conds) tokens rest a = (condition_read line cond tokens a.0 a.1, conds_read line conds a.0 rest a.2)

record CondsRead (conds : Conds) : Type 0 where
  some : 0 < length conds.items
  each : AllByRecursion CondRead conds.items

conditions_read : (line : List ℕ) (conds : Conds) (tokens rest : List Token) → IsConditions line conds tokens rest → CondsRead conds
conditions_read line conds tokens rest (inl c) = subst CondsRead (sym c.is) (record { some = omega arith; each = (condition_read line c.cond tokens rest c.one, tt) })
conditions_read line conds tokens rest (inr (inl c)) = subst CondsRead (sym c.is) (record { some = c.set.some; each = conds_read line c.items c.more (c.set.brace ∷ rest) c.set.are })
conditions_read line conds tokens rest (inr (inr c)) = subst CondsRead (sym c.is) (record { some = c.set.some; each = conds_read line c.items c.more (c.set.brace ∷ rest) c.set.are })

-- ---- rules

record RuleRead (query : Query) (conds : Option Conds) : Type 0 where
  query_read : QueryRead query
  conds_read : IfSome conds CondsRead

parts_read : (line : List ℕ) (parts : List RulePart) (query all : Query) (conds found : Option Conds) (tokens : List Token) → QueryRead query → IfSome conds CondsRead → AreParts line parts query conds all found tokens → RuleRead all found
parts_read line [] query all conds found tokens q c a = record { query_read = subst QueryRead (sym a.0) q; conds_read = subst (λ (o : Option Conds). IfSome o CondsRead) (sym a.1) c }
parts_read line (Attribute attr ∷ parts) query all conds found tokens q c a = parts_read line parts a.0 all conds found a.1 (tells_read line attr query a.0 a.2.more a.1 q a.2.tells) c a.3
parts_read line (If ∷ parts) query all conds found tokens q c a = parts_read line parts query all (Some a.0) found a.1 q (conditions_read line a.0 a.2.more a.1 a.2.are) a.4

rule_read : (line : List ℕ) (rule : Rule) (tokens : List Token) → IsRule line rule tokens → RuleRead rule.query rule.conds
rule_read line rule tokens r = parts_read line r.parts r.first rule.query None rule.conds r.behind (begins_read line r.first r.body r.behind r.begins) tt r.are

-- ---- with bytes for its texts

string_pieces : (texts : List (List ℕ)) → AllByRecursion AreBytes texts → AllPieces string_in string_text texts
string_pieces [] b = tt
string_pieces (text ∷ texts) b = (string_piece text b.0, string_pieces texts b.1)

texts_fit : (values : Option (Values (List ℕ))) → IfSome values HasItems → TextsOfBytes values → IfSome values (ValuesFit string_in string_text)
texts_fit None h b = tt
texts_fit (Some values) h b = record { some = h; each = string_pieces values.items (recursion_from_All AreBytes values.items b) }

label_fits : (label : Option (List ℕ)) → IfSome label AreBytes → IfSome label (λ text. ItemPiece string_in (string_text text) text)
label_fits None b = tt
label_fits (Some text) b = string_piece text b

query_fits : (query : Query) → QueryRead query → QueryOfBytes query → QueryFits query
query_fits query q b = record {
  id = q.id;
  serial = texts_fit query.serial q.serial b.serial;
  name = texts_fit query.name q.name b.name;
  hash = texts_fit query.hash q.hash b.hash;
  parent_hash = texts_fit query.parent_hash q.parent_hash b.parent_hash;
  via_port = texts_fit query.via_port q.via_port b.via_port;
  interface = q.interface;
  connect = texts_fit query.connect q.connect b.connect;
  label = label_fits query.label b.label;
}

kind_fits : (kind : CondKind) → KindRead kind → KindOfBytes kind → KindFits kind
kind_fits (condition.LocalTime begin end) k b = k
kind_fits (condition.AllowedMatches query) k b = (query_fits query k.0 b, k.1)
kind_fits (condition.RuleApplied past) k b = k
kind_fits (condition.RuleEvaluated past) k b = k
kind_fits (condition.Random n) k b = k
kind_fits condition.True k b = tt
kind_fits condition.False k b = tt

conds_fit : (conds : List Cond) → AllByRecursion CondRead conds → AllByRecursion CondOfBytes conds → AllByRecursion CondFits conds
conds_fit [] c b = tt
conds_fit (cond ∷ conds) c b = (kind_fits cond.kind c.0 b.0, conds_fit conds c.1 b.1)

if_fits : (conds : Option Conds) → IfSome conds CondsRead → CondsOfBytes conds → IfSome conds CondsFit
if_fits None c b = tt
if_fits (Some conds) c b = record { some = c.some; each = conds_fit conds.items c.each (recursion_from_All CondOfBytes conds.items b) }

pub rule_fits : (rule : Rule) → WellFormed rule → RuleOfBytes rule → RuleFits rule
rule_fits rule w b =
    let r : RuleRead rule.query rule.conds = rule_read w.line rule w.says.tokens w.says.is in
    record { query = query_fits rule.query r.query_read b.query; conds = if_fits rule.conds r.conds_read b.conds }
