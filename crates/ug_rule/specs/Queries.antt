-- The attributes of a rule, in any order and each at most once.
use Rattle.std.specs.Prelude.{ℕ, zero, suc, Bool, true, false, nat_eq, if◌then◌else◌, List, [], ◌∷◌, length, Option, Some, None, is_some, Result, Ok, Err}
use Rattle.std.specs.List.{list_any}
use Rattle.ug_words.specs.declared.token.Token.{Token}
use Rattle.ug_types.specs.declared.rule.Id.{Id}
use Rattle.ug_types.specs.declared.rule.Query.{Query}
use Rattle.ug_types.specs.declared.rule.Values.{Values}
use Rattle.ug_rule.specs.declared.fault.Ending.{Ending}
use Rattle.ug_rule.specs.declared.fault.Fault.{Fault}
use Rattle.ug_rule.specs.declared.fault.FaultKind.{FaultKind}
use Rattle.ug_rule.specs.declared.fault.FaultKind.TheVariants.{UnknownWord, Repeated, BadValue, ConditionInQuery, TrailingToken}
use Rattle.ug_words.specs.declared.keywords.Attr.{Attr}
use Rattle.ug_words.specs.declared.keywords.Attr.TheVariants as attr
use Rattle.ug_rule.specs.declared.queries.Named.{Named}
use Rattle.ug_rule.specs.Faults.{fault_at, missing, on_ok}
use Rattle.ug_words.specs.Keywords.{attribute_of, is_if}
use Rattle.ug_rule.specs.Tokens.{word_of, is_word, first_word}
use Rattle.ug_rule.specs.Values.{id_in, interface_in, string_in, single_of, value_of, text_of}

abbrev pub no_query : Query
no_query =
    record {
      id = None;
      serial = None;
      name = None;
      hash = None;
      parent_hash = None;
      via_port = None;
      interface = None;
      connect = None;
      label = None;
    }

abbrev pub is_attribute_given : Attr → Query → Bool
is_attribute_given attr.Id query = is_some query.id
is_attribute_given attr.Serial query = is_some query.serial
is_attribute_given attr.Name query = is_some query.name
is_attribute_given attr.Hash query = is_some query.hash
is_attribute_given attr.ParentHash query = is_some query.parent_hash
is_attribute_given attr.ViaPort query = is_some query.via_port
is_attribute_given attr.Interface query = is_some query.interface
is_attribute_given attr.Connect query = is_some query.connect
is_attribute_given attr.Label query = is_some query.label

-- no attribute is given
unfoldable pub is_empty_query : Query → Bool
is_empty_query query =
    if is_some query.id then false else
    if is_some query.serial then false else
    if is_some query.name then false else
    if is_some query.hash then false else
    if is_some query.parent_hash then false else
    if is_some query.via_port then false else
    if is_some query.interface then false else
    if is_some query.connect then false else
    if is_some query.label then false else true

-- the query with one attribute more
unfoldable pub with_attribute : List ℕ → Ending → Attr → Query → List Token
    → Result (Query × List Token) Fault
with_attribute line ending attr.Id query tokens =
    on_ok (value_of line (id_in line) ending tokens) (λ p. Ok (record query { id = Some p.0 }, p.1))
with_attribute line ending attr.Serial query tokens =
    on_ok (value_of line (string_in line) ending tokens) (λ p.
    Ok (record query { serial = Some p.0 }, p.1))
with_attribute line ending attr.Name query tokens =
    on_ok (value_of line (string_in line) ending tokens) (λ p.
    Ok (record query { name = Some p.0 }, p.1))
with_attribute line ending attr.Hash query tokens =
    on_ok (value_of line (string_in line) ending tokens) (λ p.
    Ok (record query { hash = Some p.0 }, p.1))
with_attribute line ending attr.ParentHash query tokens =
    on_ok (value_of line (string_in line) ending tokens) (λ p.
    Ok (record query { parent_hash = Some p.0 }, p.1))
with_attribute line ending attr.ViaPort query tokens =
    on_ok (value_of line (string_in line) ending tokens) (λ p.
    Ok (record query { via_port = Some p.0 }, p.1))
with_attribute line ending attr.Interface query tokens =
    on_ok (value_of line (interface_in line) ending tokens) (λ p.
    Ok (record query { interface = Some p.0 }, p.1))
with_attribute line ending attr.Connect query tokens =
    on_ok (value_of line (string_in line) ending tokens) (λ p.
    Ok (record query { connect = Some p.0 }, p.1))
with_attribute line ending attr.Label query tokens =
    on_ok (text_of line ending tokens) (λ p. Ok (record query { label = Some p.0 }, p.1))

-- an attribute whose name was read stands for the first time
abbrev pub attribute_once : List ℕ → Ending → Named → Query → List Token
    → Result (Query × List Token) Fault
attribute_once line ending named query tokens =
    if is_attribute_given named.attr query then Err (fault_at Repeated named.place)
    else with_attribute line ending named.attr query tokens

-- the name of an attribute at the front, and what is left
abbrev pub name_by : Option Attr → Token → List Token → Option Named × List Token
name_by None token rest = (None, token ∷ rest)
name_by (Some attr) token rest = (Some (record { attr = attr; place = token.start }), rest)

abbrev pub attribute_name_of : List ℕ → List Token → Option Named × List Token
attribute_name_of line [] = (None, [])
attribute_name_of line (token ∷ rest) = name_by (attribute_of (word_of line token)) token rest

abbrev pub more_behind : Option Named → (Named → Result (Query × List Token) Fault) → Query
    → List Token → Result (Query × List Token) Fault
more_behind None more query tokens = Ok (query, tokens)
more_behind (Some named) more query tokens = more named

-- up to so many attributes more, as far as they go
unfoldable pub attributes_from : ℕ → List ℕ → Ending → Query → List Token
    → Result (Query × List Token) Fault
attributes_from zero line ending query tokens = Ok (query, tokens)
attributes_from (suc n) line ending query tokens =
    more_behind (attribute_name_of line tokens).0
    (λ named. on_ok (attribute_once line ending named query (attribute_name_of line tokens).1) (λ p.
    attributes_from n line ending p.0 p.1))
    query (attribute_name_of line tokens).1

-- the attributes that come next. Each has a token, so there are no more than tokens
abbrev pub attributes_of : List ℕ → Ending → Query → List Token → Result (Query × List Token) Fault
attributes_of line ending query tokens = attributes_from (length tokens) line ending query tokens

-- ---- queries

abbrev pub has_colon : List ℕ → Bool
has_colon word = list_any (nat_eq 58) word

abbrev pub id_query : Values Id → Query
id_query id = record no_query { id = Some id }

abbrev pub bare_at : List ℕ → List Token → Result (Query × List Token) Fault
bare_at line [] = Ok (no_query, [])
bare_at line (token ∷ rest) =
    on_ok (single_of (id_in line) token rest) (λ p. Ok (id_query p.0, p.1))

-- a first word with a colon is an id
unfoldable pub bare_of : List ℕ → List Token → Result (Query × List Token) Fault
bare_of line tokens =
    if has_colon (first_word line tokens) then bare_at line tokens else Ok (no_query, tokens)

-- a bare id or none, and attributes
unfoldable pub query_of : List ℕ → Ending → List Token → Result (Query × List Token) Fault
query_of line ending tokens = on_ok (bare_of line tokens) (λ p. attributes_of line ending p.0 p.1)

-- what a token is that stands where a part must begin and begins no attribute
unfoldable pub stray : FaultKind → List ℕ → Token → Fault
stray of_if line token =
    if is_if (word_of line token) then fault_at of_if token.start
    else if is_word token.kind then fault_at UnknownWord token.start
    else fault_at TrailingToken token.start

abbrev pub query_ends : List ℕ → Ending → Query → List Token → Result Query Fault
query_ends line ending query [] =
    if is_empty_query query then Err (missing BadValue ending) else Ok query
query_ends line ending query (token ∷ rest) = Err (stray ConditionInQuery line token)
