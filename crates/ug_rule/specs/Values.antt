-- The value of an attribute: one item, or a set of items in braces behind an operator or none.
use Rattle.std.specs.Prelude.{ℕ, if◌then◌else◌, List, [], ◌∷◌, ◌++◌, Option, Some, None, Result, Ok, Err}
use Rattle.ug_words.specs.declared.token.Token.{Token}
use Rattle.ug_types.specs.declared.rule.Id.{Id}
use Rattle.ug_types.specs.declared.rule.Iface.{Iface}
use Rattle.ug_types.specs.declared.rule.Op.{Op}
use Rattle.ug_types.specs.declared.rule.Op.TheVariants.{Equals}
use Rattle.ug_types.specs.declared.rule.Values.{Values}
use Rattle.ug_rule.specs.declared.fault.Ending.{Ending}
use Rattle.ug_rule.specs.declared.fault.Fault.{Fault}
use Rattle.ug_rule.specs.declared.fault.FaultKind.{FaultKind}
use Rattle.ug_rule.specs.declared.fault.FaultKind.TheVariants.{BadValue, EmptySet, OpenSet}
use Rattle.ug_rule.specs.Faults.{fault_at, missing, within, on_ok, required}
use Rattle.ug_words.specs.Keywords.{operator_of}
use Rattle.ug_rule.specs.Tokens.{word_of, is_open, is_close, string_by}
use Rattle.ug_words.specs.Words.{id_of, interface_of}

-- ---- items

abbrev pub id_in : List ℕ → Token → Option Id
id_in line token = id_of (word_of line token)

abbrev pub interface_in : List ℕ → Token → Option Iface
interface_in line token = interface_of (word_of line token)

abbrev pub string_in : List ℕ → Token → Option (List ℕ)
string_in line token = string_by token.kind

-- the item that a token is
abbrev pub item_of : {X : Type 0} → (Token → Option X) → Token → Result X Fault
item_of reads token = required (reads token) BadValue token.start

-- ---- sets

-- a set has an item
abbrev pub some_items : {X : Type 0} → List X → ℕ → List Token → Result (List X × List Token) Fault
some_items [] place rest = Err (fault_at EmptySet place)
some_items (item ∷ items) place rest = Ok (item ∷ items, rest)

-- the items up to the closing brace, behind those before them
unfoldable pub items_of : {X : Type 0} → (Token → Option X) → Ending → List X → List Token
    → Result (List X × List Token) Fault
items_of reads ending items [] = Err (missing OpenSet ending)
items_of reads ending items (token ∷ rest) =
    if is_close token.kind then some_items items token.start rest
    else on_ok (item_of reads token) (λ item. items_of reads ending (items ++ item ∷ []) rest)

abbrev pub valued : {X : Type 0} → Op → List X → Values X
valued op items = record { op = op; items = items }

-- a set whose opening brace was read
abbrev pub set_of : {X : Type 0} → (Token → Option X) → Ending → Op → List Token
    → Result (Values X × List Token) Fault
set_of reads ending op tokens =
    on_ok (items_of reads ending [] tokens) (λ p. Ok (valued op p.0, p.1))

-- where an opening brace stands, which must come next
abbrev pub brace_of : FaultKind → Ending → List Token → Result (ℕ × List Token) Fault
brace_of kind ending [] = Err (missing kind ending)
brace_of kind ending (token ∷ rest) =
    if is_open token.kind then Ok (token.start, rest) else Err (fault_at kind token.start)

-- ---- values

abbrev pub behind_operator : {X : Type 0} → (Token → Option X) → Ending → Op → List Token
    → Result (Values X × List Token) Fault
behind_operator reads ending op tokens =
    on_ok (brace_of BadValue ending tokens) (λ p. set_of reads (within p.0 ending) op p.1)

abbrev pub single_of : {X : Type 0} → (Token → Option X) → Token → List Token
    → Result (Values X × List Token) Fault
single_of reads token rest =
    on_ok (item_of reads token) (λ item. Ok (valued Equals (item ∷ []), rest))

abbrev pub value_behind : {X : Type 0} → (Token → Option X) → Ending → Option Op → Token
    → List Token → Result (Values X × List Token) Fault
value_behind reads ending None token rest = single_of reads token rest
value_behind reads ending (Some op) token rest = behind_operator reads ending op rest

unfoldable pub value_of : {X : Type 0} → List ℕ → (Token → Option X) → Ending → List Token
    → Result (Values X × List Token) Fault
value_of line reads ending [] = Err (missing BadValue ending)
value_of line reads ending (token ∷ rest) =
    if is_open token.kind then set_of reads (within token.start ending) Equals rest
    else value_behind reads ending (operator_of (word_of line token)) token rest

-- a string alone, and no set
unfoldable pub text_of : List ℕ → Ending → List Token → Result (List ℕ × List Token) Fault
text_of line ending [] = Err (missing BadValue ending)
text_of line ending (token ∷ rest) =
    on_ok (item_of (string_in line) token) (λ text. Ok (text, rest))
