-- The first fault of a line from the left, by what its tokens can go on to: usbguard-rules.conf(5).
use Rattle.std.specs.Prelude.{◌≡◌, ℕ, ◌+◌, List, [], ◌∷◌, ◌++◌, length, take}
use Rattle.ug_words.specs.Grammar.{Good, Bad}
use Rattle.ug_words.specs.Lexing as lexing
use Rattle.ug_words.specs.declared.token.Token.{Token}
use Rattle.ug_words.specs.declared.token.TokenKind.{TokenKind}
use Rattle.ug_words.specs.declared.token.TokenKind.TheVariants.{Word, Str, Open, Close, ParenOpen, ParenClose, Bang}
use Rattle.ug_types.specs.declared.rule.Query.{Query}
use Rattle.ug_types.specs.declared.rule.Rule.{Rule}
use Rattle.ug_rule.specs.declared.fault.Fault.{Fault}
use Rattle.ug_rule.specs.declared.fault.FaultKind.{FaultKind}
use Rattle.ug_rule_faults.specs.FaultKinds.{rule_stray_kind, rule_early_kind}
use Rattle.ug_rule.specs.Faults.{fault_at}
use Rattle.ug_rule.specs.Grammar.{IsQuery, IsRule}
use Rattle.ug_rule.specs.Files.{fault_on}
use Rattle.ug_rule.specs.Texts.{AreRules, IsBlankLine, lexical_fault}
use Rattle.ug_types.specs.declared.text_fault.TextFault.{TextFault}

-- the tokens are a rule
abbrev pub AreRule : List ℕ → List Token → Type 0
AreRule line tokens = (rule : Rule) × IsRule line rule tokens

-- the tokens are a query
abbrev pub AreQuery : List ℕ → List Token → Type 0
AreQuery line tokens = (query : Query) × IsQuery line query tokens

-- where the last of the tokens ends, which stand behind a place
abbrev pub end_behind : ℕ → List Token → ℕ
end_behind at [] = at
end_behind at (token ∷ tokens) = end_behind token.end tokens

-- some line begins with these tokens, with the same bytes up to the last of them, and is as wanted
pub record BeginsSome (Are : List ℕ → List Token → Type 0) (line : List ℕ)
    (tokens : List Token) : Type 0 where
  pub other : List ℕ
  pub more : List Token
  pub same : take (end_behind 0 tokens) other ≡ take (end_behind 0 tokens) line
  pub cut : Good other (tokens ++ more)
  pub are : Are other (tokens ++ more)

-- a token that can't stand: those before it go on to some line that is as wanted, and with it they
-- go on to none
pub record IsStray (Are : List ℕ → List Token → Type 0)
    (kind_of : List ℕ → List Token → Token → FaultKind) (line : List ℕ) (tokens : List Token)
    (fault : Fault) : Type 0 where
  pub before : List Token
  pub token : Token
  pub behind : List Token
  pub cut : tokens ≡ before ++ token ∷ behind
  pub good : BeginsSome Are line before
  pub bad : BeginsSome Are line (before ++ token ∷ []) → ⊥
  pub is : fault ≡ fault_at (kind_of line before token) token.start

-- ---- the end of a line

abbrev pub braces_behind : TokenKind → ℕ → List ℕ → List ℕ
braces_behind Word start places = places
braces_behind (Str text) start places = places
braces_behind Open start places = start ∷ places
braces_behind Close start [] = []
braces_behind Close start (place ∷ places) = places
braces_behind ParenOpen start places = places
braces_behind ParenClose start places = places
braces_behind Bang start places = places

-- the places of the braces that are open behind the tokens, the innermost first
abbrev pub open_braces : List ℕ → List Token → List ℕ
open_braces places [] = places
open_braces places (token ∷ tokens) =
    open_braces (braces_behind token.kind token.start places) tokens

-- the outermost brace that is open, or else the line's end
abbrev pub place_at_end : ℕ → List ℕ → ℕ
place_at_end end [] = end
place_at_end end (place ∷ []) = place
place_at_end end (place ∷ outer ∷ places) = place_at_end end (outer ∷ places)

-- a line that ends too early: its tokens go on to some line that is as wanted, and are not so
-- themselves
pub record EndsEarly (Are : List ℕ → List Token → Type 0)
    (kind_of : List ℕ → List Token → FaultKind) (line : List ℕ) (tokens : List Token)
    (fault : Fault) : Type 0 where
  pub good : BeginsSome Are line tokens
  pub bad : Are line tokens → ⊥
  pub is : fault
      ≡ fault_at (kind_of line tokens) (place_at_end (length line) (open_braces [] tokens))

-- ---- faults

-- the line has this first fault
pub data FirstFault (Are : List ℕ → List Token → Type 0)
    (stray_kind : List ℕ → List Token → Token → FaultKind)
    (early_kind : List ℕ → List Token → FaultKind) (line : List ℕ) : Fault → Type 0 where
  -- faults of the tokens themselves come first
  Lexical : (fault : lexing.Fault) → Bad line fault
      → FirstFault Are stray_kind early_kind line (lexical_fault fault)
  Stray : (tokens : List Token) (fault : Fault) → Good line tokens
      → IsStray Are stray_kind line tokens fault → FirstFault Are stray_kind early_kind line fault
  Early : (tokens : List Token) (fault : Fault) → Good line tokens
      → EndsEarly Are early_kind line tokens fault → FirstFault Are stray_kind early_kind line fault

-- ---- lines of a text

-- the line is neither blank nor a comment, and no rule
abbrev pub IsBadLine : List ℕ → Fault → Type 0
IsBadLine line fault =
    (IsBlankLine line → ⊥) × FirstFault AreRule rule_stray_kind rule_early_kind line fault

-- the lines before are good, this one is not, and its number, counted from 1, and its own fault are
-- told
pub record IsFirstBadRule (lines : List (List ℕ)) (fault : TextFault) : Type 0 where
  pub before : List (List ℕ)
  pub line : List ℕ
  pub behind : List (List ℕ)
  pub rules : List Rule
  pub found : Fault
  pub split : lines ≡ before ++ line ∷ behind
  pub good : AreRules before rules
  pub bad : IsBadLine line found
  pub told : fault ≡ fault_on (length before + 1) found
