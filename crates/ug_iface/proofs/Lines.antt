-- Lines that switch off interfaces, read and cut.
use Rattle.std.proofs.Common.{◌≡◌, ℕ, Bool, true, false, cond, codes, List, [], ◌∷◌, length, Option, Some, None, Result, Ok, Err, refl, sym, ◌∙◌, ap, subst, true≢false}
use Rattle.std.proofs.lemmas.Bool.{cond-true, cond-false}
use Rattle.std.specs.Cmp.Lexicographic.{bytes_decides}
use Rattle.ug_words.proofs.Meaning.{good_read, read_good, bad_read, read_bad}
use Rattle.ug_words.specs.Grammar.{Good}
use Rattle.ug_words.specs.Lexing as lexing
use Rattle.ug_words.specs.Lexing.{Lexed, tokens_of}
use Rattle.ug_words.specs.declared.token.Token.{Token}
use Rattle.ug_types.specs.declared.rule.Iface.{Iface}
use Rattle.ug_types.specs.declared.rule.Query.{Query}
use Rattle.ug_rule.specs.declared.fault.Fault.{Fault}
use Rattle.ug_rule.specs.declared.fault.FaultKind.TheVariants.{BadValue}
use Rattle.ug_rule.specs.Faults.{fault_at, on_ok, required}
use Rattle.ug_rule.specs.Rules.{query_read}
use Rattle.ug_rule.specs.Texts.{lexical_fault}
use Rattle.ug_rule.specs.Tokens.{word_of, read_by}
use Rattle.ug_rule.specs.Values.{interface_in}
use Rattle.ug_rule.proofs.RuleCuts.{asks_line, line_asks}
use Rattle.ug_iface.specs.declared.rules.IfaceRule.{IfaceRule}
use Rattle.ug_iface.specs.Rules.{LineFault, NoOff, InRule, lifted, is_off_word, blanked, behind_off, iface_rule_of, iface_rule_read, IsIfaceRule, HasNoOff, Blank, Other, HasRuleFault, Lexical, Ends, Value, Query as Behind}

abbrev Read : Type 0
Read = Result IfaceRule LineFault

abbrev with_query : Iface → Result Query Fault → Read
with_query iface r = on_ok (lifted r) (λ query. Ok (record { iface = iface; query = query }))

abbrev with_iface : List ℕ → Token → Option Iface → Read
with_iface line second o = on_ok (lifted (required o BadValue second.start)) (λ iface. with_query iface (query_read (blanked second.end line)))

abbrev with_tokens : List ℕ → Lexed → Read
with_tokens line read = on_ok (lifted (read_by read)) (iface_rule_of line)

-- ---- answers that differ

no_rule : {T : Type 0} (fault : LineFault) (rule : IfaceRule) → ◌≡◌ {A = Read} (Err fault) (Ok rule) → T
no_rule fault rule h = let none : ⊥ = cc in absurd none

no_fault : {T : Type 0} (rule : IfaceRule) (fault : LineFault) → ◌≡◌ {A = Read} (Ok rule) (Err fault) → T
no_fault rule fault h = let none : ⊥ = cc in absurd none

other_kind : {T : Type 0} (fault : Fault) (place : ℕ) → ◌≡◌ {A = Read} (Err (InRule fault)) (Err (NoOff place)) → T
other_kind fault place h = let e : InRule fault ≡ NoOff place = cc in let none : ⊥ = cc in absurd none

same_place : (a b : ℕ) → ◌≡◌ {A = Read} (Err (NoOff a)) (Err (NoOff b)) → a ≡ b
same_place a b h = let e : NoOff a ≡ NoOff b = cc in cc

same_fault : (a b : Fault) → ◌≡◌ {A = Read} (Err (InRule a)) (Err (InRule b)) → a ≡ b
same_fault a b h = let e : InRule a ≡ InRule b = cc in cc

not_off : (word : List ℕ) (v : Bool) → is_off_word word ≡ v → (word ≡ codes "off" → ⊥) → v ≡ false
not_off word true e n = absurd (n ((bytes_decides word (codes "off")).0 e))
not_off word false e n = refl

module _ (line : List ℕ) where
  begins_off : (first : Token) → is_off_word (word_of line first) ≡ true → word_of line first ≡ codes "off"
  begins_off first e = (bytes_decides (word_of line first) (codes "off")).0 e

  -- ---- what was read is so

  query_cut : (first second : Token) (rest : List Token) (iface : Iface) (rule : IfaceRule) (r : Result Query Fault) → Good line (first ∷ second ∷ rest) → word_of line first ≡ codes "off" → interface_in line second ≡ Some iface
      → query_read (blanked second.end line) ≡ r → with_query iface r ≡ Ok rule → IsIfaceRule line rule
  query_cut first second rest iface rule (Ok query) cut off i q h =
      let same : record { iface = iface; query = query } ≡ rule = cc in
      subst (λ (v : IfaceRule). IsIfaceRule line v) same (record { first = first; second = second; rest = rest; cut = cut; off = off; iface = i; query = line_asks (blanked second.end line) query q })
  query_cut first second rest iface rule (Err fault) cut off i q h = no_rule (InRule fault) rule h

  iface_cut : (first second : Token) (rest : List Token) (rule : IfaceRule) (o : Option Iface) → Good line (first ∷ second ∷ rest) → word_of line first ≡ codes "off" → interface_in line second ≡ o
      → with_iface line second o ≡ Ok rule → IsIfaceRule line rule
  iface_cut first second rest rule None cut off i h = no_rule _ rule h
  iface_cut first second rest rule (Some iface) cut off i h = query_cut first second rest iface rule (query_read (blanked second.end line)) cut off i refl h

  off_cut : (first : Token) (rest : List Token) (rule : IfaceRule) (v : Bool) → Good line (first ∷ rest) → is_off_word (word_of line first) ≡ v → cond v (behind_off line rest) (Err (NoOff first.start)) ≡ Ok rule → IsIfaceRule line rule
  off_cut first rest rule false cut e h = no_rule _ rule h
  off_cut first [] rule true cut e h = no_rule _ rule h
  off_cut first (second ∷ rest) rule true cut e h = iface_cut first second rest rule (interface_in line second) cut (begins_off first e) refl h

  tokens_cut : (rule : IfaceRule) (read : Lexed) → tokens_of line ≡ read → with_tokens line read ≡ Ok rule → IsIfaceRule line rule
  tokens_cut rule (Ok []) e h = no_rule _ rule h
  tokens_cut rule (Ok (first ∷ rest)) e h = off_cut first rest rule (is_off_word (word_of line first)) (read_good line (first ∷ rest) e) refl h
  tokens_cut rule (Err (lexing.BadEscape place)) e h = no_rule _ rule h
  tokens_cut rule (Err (lexing.OpenString place)) e h = no_rule _ rule h
  tokens_cut rule (Err (lexing.BadByte place)) e h = no_rule _ rule h

  pub line_cut : (rule : IfaceRule) → iface_rule_read line ≡ Ok rule → IsIfaceRule line rule
  line_cut rule h = tokens_cut rule (tokens_of line) refl h

  -- ---- and what is so is read

  -- the line begins with `off`
  off_reads : (first : Token) (rest : List Token) → Good line (first ∷ rest) → word_of line first ≡ codes "off" → iface_rule_read line ≡ behind_off line rest
  off_reads first rest cut off =
      ap (λ (v : Lexed). with_tokens line v) (good_read line (first ∷ rest) cut)
      ∙ cond-true (is_off_word (word_of line first)) (behind_off line rest) (Err (NoOff first.start)) ((bytes_decides (word_of line first) (codes "off")).1 off)

  -- and an interface type stands behind it, or doesn't
  value_reads : (first second : Token) (rest : List Token) (o : Option Iface) → Good line (first ∷ second ∷ rest) → word_of line first ≡ codes "off" → interface_in line second ≡ o → iface_rule_read line ≡ with_iface line second o
  value_reads first second rest o cut off i = off_reads first (second ∷ rest) cut off ∙ ap (λ (v : Option Iface). with_iface line second v) i

  pub line_reads : (rule : IfaceRule) → IsIfaceRule line rule → iface_rule_read line ≡ Ok rule
  line_reads rule r =
      value_reads r.first r.second r.rest (Some rule.iface) r.cut r.off r.iface
      ∙ ap (λ (v : Result Query Fault). with_query rule.iface v) (asks_line (blanked r.second.end line) rule.query r.query)

  -- ---- no `off`

  not_query : {T : Type 0} (iface : Iface) (r : Result Query Fault) (place : ℕ) → with_query iface r ≡ Err (NoOff place) → T
  not_query iface (Ok query) place h = no_fault _ (NoOff place) h
  not_query iface (Err fault) place h = other_kind fault place h

  not_iface : {T : Type 0} (second : Token) (o : Option Iface) (place : ℕ) → with_iface line second o ≡ Err (NoOff place) → T
  not_iface second None place h = other_kind _ place h
  not_iface second (Some iface) place h = not_query iface (query_read (blanked second.end line)) place h

  not_behind : {T : Type 0} (rest : List Token) (place : ℕ) → behind_off line rest ≡ Err (NoOff place) → T
  not_behind [] place h = other_kind _ place h
  not_behind (second ∷ rest) place h = not_iface second (interface_in line second) place h

  first_off : (first : Token) (rest : List Token) (place : ℕ) (v : Bool) → Good line (first ∷ rest) → is_off_word (word_of line first) ≡ v → cond v (behind_off line rest) (Err (NoOff first.start)) ≡ Err (NoOff place) → HasNoOff line place
  first_off first rest place true cut e h = not_behind rest place h
  first_off first rest place false cut e h =
      let apart : word_of line first ≡ codes "off" → ⊥ = λ s. true≢false (sym ((bytes_decides (word_of line first) (codes "off")).1 s) ∙ e) in
      subst (λ (p : ℕ). HasNoOff line p) (same_place first.start place h) (Other first rest cut apart)

  tokens_off : (place : ℕ) (read : Lexed) → tokens_of line ≡ read → with_tokens line read ≡ Err (NoOff place) → HasNoOff line place
  tokens_off place (Ok []) e h = subst (λ (p : ℕ). HasNoOff line p) (same_place (length line) place h) (Blank (read_good line [] e))
  tokens_off place (Ok (first ∷ rest)) e h = first_off first rest place (is_off_word (word_of line first)) (read_good line (first ∷ rest) e) refl h
  tokens_off place (Err (lexing.BadEscape at)) e h = other_kind _ place h
  tokens_off place (Err (lexing.OpenString at)) e h = other_kind _ place h
  tokens_off place (Err (lexing.BadByte at)) e h = other_kind _ place h

  pub no_off_cut : (place : ℕ) → iface_rule_read line ≡ Err (NoOff place) → HasNoOff line place
  no_off_cut place h = tokens_off place (tokens_of line) refl h

  pub no_off_reads : (place : ℕ) → HasNoOff line place → iface_rule_read line ≡ Err (NoOff place)
  no_off_reads place (Blank cut) = ap (λ (v : Lexed). with_tokens line v) (good_read line [] cut)
  no_off_reads place (Other first rest cut n) =
      ap (λ (v : Lexed). with_tokens line v) (good_read line (first ∷ rest) cut)
      ∙ cond-false (is_off_word (word_of line first)) (behind_off line rest) (Err (NoOff first.start)) (not_off (word_of line first) (is_off_word (word_of line first)) refl n)

  -- ---- other faults

  fault_is : (a b : Fault) → ◌≡◌ {A = Read} (Err (InRule a)) (Err (InRule b)) → HasRuleFault line a → HasRuleFault line b
  fault_is a b h f = subst (λ (v : Fault). HasRuleFault line v) (same_fault a b h) f

  query_fault : (first second : Token) (rest : List Token) (iface : Iface) (fault : Fault) (r : Result Query Fault) → Good line (first ∷ second ∷ rest) → word_of line first ≡ codes "off" → interface_in line second ≡ Some iface
      → query_read (blanked second.end line) ≡ r → with_query iface r ≡ Err (InRule fault) → HasRuleFault line fault
  query_fault first second rest iface fault (Ok query) cut off i q h = no_fault _ (InRule fault) h
  query_fault first second rest iface fault (Err found) cut off i q h = fault_is found fault h (Behind first second rest iface found cut off i q)

  iface_fault : (first second : Token) (rest : List Token) (fault : Fault) (o : Option Iface) → Good line (first ∷ second ∷ rest) → word_of line first ≡ codes "off" → interface_in line second ≡ o
      → with_iface line second o ≡ Err (InRule fault) → HasRuleFault line fault
  iface_fault first second rest fault None cut off i h = fault_is (fault_at BadValue second.start) fault h (Value first second rest cut off i)
  iface_fault first second rest fault (Some iface) cut off i h = query_fault first second rest iface fault (query_read (blanked second.end line)) cut off i refl h

  off_fault : (first : Token) (rest : List Token) (fault : Fault) (v : Bool) → Good line (first ∷ rest) → is_off_word (word_of line first) ≡ v → cond v (behind_off line rest) (Err (NoOff first.start)) ≡ Err (InRule fault) → HasRuleFault line fault
  off_fault first rest fault false cut e h = other_kind fault first.start (sym h)
  off_fault first [] fault true cut e h = fault_is (fault_at BadValue (length line)) fault h (Ends first cut (begins_off first e))
  off_fault first (second ∷ rest) fault true cut e h = iface_fault first second rest fault (interface_in line second) cut (begins_off first e) refl h

  tokens_fault : (fault : Fault) (read : Lexed) → tokens_of line ≡ read → with_tokens line read ≡ Err (InRule fault) → HasRuleFault line fault
  tokens_fault fault (Ok []) e h = other_kind fault (length line) (sym h)
  tokens_fault fault (Ok (first ∷ rest)) e h = off_fault first rest fault (is_off_word (word_of line first)) (read_good line (first ∷ rest) e) refl h
  tokens_fault fault (Err (lexing.BadEscape at)) e h = fault_is _ fault h (Lexical (lexing.BadEscape at) (read_bad line (lexing.BadEscape at) e))
  tokens_fault fault (Err (lexing.OpenString at)) e h = fault_is _ fault h (Lexical (lexing.OpenString at) (read_bad line (lexing.OpenString at) e))
  tokens_fault fault (Err (lexing.BadByte at)) e h = fault_is _ fault h (Lexical (lexing.BadByte at) (read_bad line (lexing.BadByte at) e))

  pub fault_cut : (fault : Fault) → iface_rule_read line ≡ Err (InRule fault) → HasRuleFault line fault
  fault_cut fault h = tokens_fault fault (tokens_of line) refl h

  lexical_reads : (found : lexing.Fault) → with_tokens line (Err found) ≡ Err (InRule (lexical_fault found))
  lexical_reads (lexing.BadEscape at) = refl
  lexical_reads (lexing.OpenString at) = refl
  lexical_reads (lexing.BadByte at) = refl

  pub fault_reads : (fault : Fault) → HasRuleFault line fault → iface_rule_read line ≡ Err (InRule fault)
  fault_reads fault (Lexical found bad) = ap (λ (v : Lexed). with_tokens line v) (bad_read line found bad) ∙ lexical_reads found
  fault_reads fault (Ends first cut off) = off_reads first [] cut off
  fault_reads fault (Value first second rest cut off i) = value_reads first second rest None cut off i
  fault_reads fault (Behind first second rest iface found cut off i q) =
      value_reads first second rest (Some iface) cut off i ∙ ap (λ (v : Result Query Fault). with_query iface v) q
