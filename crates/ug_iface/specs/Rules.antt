-- Lines that switch off interfaces: what a line says, and its first fault.
use Rattle.std.specs.Prelude.{◌≡◌, ℕ, Bool, if◌then◌else◌, nat_eq, codes, List, [], ◌∷◌, ◌++◌, length, drop, replicate, Some, None, Result, Ok, Err}
use Rattle.std.specs.Cmp.Lexicographic.{pointwise}
use Rattle.ug_words.specs.declared.token.Token.{Token}
use Rattle.ug_words.specs.Grammar.{Good, Bad}
use Rattle.ug_words.specs.Lexing as lexing
use Rattle.ug_types.specs.declared.rule.Iface.{Iface}
use Rattle.ug_types.specs.declared.rule.Op.TheVariants.{Equals}
use Rattle.ug_rule.specs.declared.fault.Fault.{Fault}
use Rattle.ug_rule.specs.declared.fault.FaultKind.TheVariants.{BadValue}
use Rattle.ug_rule.specs.declared.fault.RuleFault.{RuleFault}
use Rattle.ug_rule.specs.declared.fault.RuleFault.TheVariants as answered
use Rattle.ug_rule.specs.Faults.{kind_number, fault_at, on_ok}
use Rattle.ug_rule.specs.Grammar.{Asks}
use Rattle.ug_rule.specs.Queries.{id_query}
use Rattle.ug_rule.specs.Rules.{query_read}
use Rattle.ug_rule.specs.Texts.{lexical_fault}
use Rattle.ug_rule.specs.Tokens.{word_of, tokens_read}
use Rattle.ug_rule.specs.Values.{interface_in, item_of, valued}
use Rattle.ug_iface.specs.declared.rules.IfaceRule.{IfaceRule}

-- what is wrong with a line: it doesn't begin with `off`, or what a rule's text can have
pub data LineFault : Type 0 where
  NoOff : (place : ℕ) → LineFault
  InRule : (fault : Fault) → LineFault

abbrev pub lifted : {X : Type 0} → Result X Fault → Result X LineFault
lifted (Ok x) = Ok x
lifted (Err fault) = Err (InRule fault)

abbrev pub is_off_word : List ℕ → Bool
is_off_word word = pointwise nat_eq word (codes "off")

-- the line with spaces in place of its bytes before a place, so that those behind keep their places
abbrev pub blanked : ℕ → List ℕ → List ℕ
blanked start line = replicate start 32 ++ drop start line

-- the query that stands behind a place
abbrev pub query_behind : List ℕ → ℕ → Iface → Result IfaceRule LineFault
query_behind line start iface =
    on_ok (lifted (query_read (blanked start line))) (λ query.
    Ok (record { iface = iface; query = query }))

-- what stands behind `off`: an interface type, and a query
abbrev pub behind_off : List ℕ → List Token → Result IfaceRule LineFault
behind_off line [] = Err (InRule (fault_at BadValue (length line)))
behind_off line (token ∷ rest) =
    on_ok (lifted (item_of (interface_in line) token)) (query_behind line token.end)

abbrev pub iface_rule_of : List ℕ → List Token → Result IfaceRule LineFault
iface_rule_of line [] = Err (NoOff (length line))
iface_rule_of line (token ∷ rest) =
    if is_off_word (word_of line token) then behind_off line rest else Err (NoOff token.start)

-- the rule of a line, or its first fault
abbrev pub iface_rule_read : List ℕ → Result IfaceRule LineFault
iface_rule_read line = on_ok (lifted (tokens_read line)) (iface_rule_of line)

-- an answer is what was read, with the number of the fault's kind, unless memory was refused
abbrev pub GivesLine : {X : Type 0} → Result X RuleFault → Result X LineFault → Type 0
GivesLine (Ok x) read = read ≡ Ok x
GivesLine (Err (answered.Bad kind place)) (Ok x) = ⊥
GivesLine (Err (answered.Bad kind place)) (Err (NoOff at)) = (kind ≡ 13) × (place ≡ at)
GivesLine (Err (answered.Bad kind place)) (Err (InRule fault)) =
    (kind ≡ kind_number fault.kind) × (place ≡ fault.place)
GivesLine (Err answered.Memory) read = Unit {0}

-- ---- what a line says

-- `off`, an interface type, and behind it a query of at least one attribute
pub record IsIfaceRule (line : List ℕ) (rule : IfaceRule) : Type 0 where
  pub first : Token
  pub second : Token
  pub rest : List Token
  pub cut : Good line (first ∷ second ∷ rest)
  pub off : word_of line first ≡ codes "off"
  pub iface : interface_in line second ≡ Some rule.iface
  pub query : Asks (blanked second.end line) rule.query

-- the line has tokens, and doesn't begin with `off`, which is told at its first token or at its end
pub data HasNoOff (line : List ℕ) : ℕ → Type 0 where
  Blank : Good line [] → HasNoOff line (length line)
  Other : (first : Token) (rest : List Token) → Good line (first ∷ rest)
      → (word_of line first ≡ codes "off" → ⊥) → HasNoOff line first.start

-- the line has a lexical fault, or begins with `off` and has this first fault
pub data HasRuleFault (line : List ℕ) : Fault → Type 0 where
  Lexical : (fault : lexing.Fault) → Bad line fault → HasRuleFault line (lexical_fault fault)
  -- nothing stands behind `off`
  Ends : (first : Token) → Good line (first ∷ []) → word_of line first ≡ codes "off"
      → HasRuleFault line (fault_at BadValue (length line))
  -- another token than an interface type does
  Value : (first second : Token) (rest : List Token) → Good line (first ∷ second ∷ rest)
      → word_of line first ≡ codes "off" → interface_in line second ≡ None
      → HasRuleFault line (fault_at BadValue second.start)
  -- what stands behind the type is no query
  Query : (first second : Token) (rest : List Token) (iface : Iface) (fault : Fault)
      → Good line (first ∷ second ∷ rest) → word_of line first ≡ codes "off"
      → interface_in line second ≡ Some iface → query_read (blanked second.end line) ≡ Err fault
      → HasRuleFault line fault

-- ---- an example

-- interfaces of human interface devices, of all devices of one vendor
abbrev pub keyboards_off : IfaceRule
keyboards_off = record {
  iface = record { class = 3; subclass = None; protocol = None };
  query = id_query (valued Equals (record { vendor = Some 4176; product = None } ∷ []));
}
