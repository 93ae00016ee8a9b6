-- A text is read as its lines are, from the first on.
use Rattle.std.proofs.Common.{◌≡◌, ℕ, suc, ◌+◌, List, [], ◌∷◌, ◌++◌, length, Option, Some, None, Result, Ok, Err, refl, sym, ap, subst, ◌∙◌, append_assoc, arith}
use Rattle.std.proofs.lemmas.List.{append-nil}
use Rattle.ug_types.specs.declared.rule.Rule.{Rule}
use Rattle.ug_rule.specs.declared.fault.Fault.{Fault}
use Rattle.ug_lines.specs.LineReading.{lines_read, then_on}
use Rattle.ug_rule.specs.Files.{line_read, added, adding_line}
use Rattle.ug_rule.proofs.TextLines.{blank_line, line_blank, line_rule, rule_line}
use Rattle.ug_rule.specs.Texts.{AreRules, NoLines, Blank, OneMore}

pub one_more : (a b : ℕ) → a + 1 + b ≡ a + suc b
one_more a b = omega arith

-- what a line that reads so leads to
pub next : (number : ℕ) (rules : List Rule) (line : List ℕ) (lines : List (List ℕ)) (read : Result (Option Rule) Fault) → line_read line ≡ read
    → lines_read adding_line number rules (line ∷ lines) ≡ then_on (added number rules read) (λ more. lines_read adding_line (number + 1) more lines)
unfolding lines_read
next number rules line lines read e = ap (λ (r : Result (Option Rule) Fault). then_on (added number rules r) (λ more. lines_read adding_line (number + 1) more lines)) e

-- good lines lead to what stands behind them
pub past : (number : ℕ) (old : List Rule) (lines behind : List (List ℕ)) (rules : List Rule) → AreRules lines rules → lines_read adding_line number old (lines ++ behind) ≡ lines_read adding_line (number + length lines) (old ++ rules) behind
past number old lines behind rules NoLines =
    let n : number ≡ number + 0 = omega arith in
    ap (λ (l : List Rule). lines_read adding_line number l behind) (sym (append-nil old)) ∙ ap (λ (k : ℕ). lines_read adding_line k (old ++ []) behind) n
past number old lines behind rules (Blank line more same e r) =
    next number old line (more ++ behind) (Ok None) (line_blank line e) ∙ past (number + 1) old more behind rules r ∙ ap (λ (k : ℕ). lines_read adding_line k (old ++ rules) behind) (one_more number (length more))
past number old lines behind rules (OneMore line rule more rest e r) =
    next number old line (more ++ behind) (Ok (Some rule)) (rule_line line rule e) ∙ past (number + 1) (old ++ rule ∷ []) more behind rest r
    ∙ ap (λ (k : ℕ). lines_read adding_line k ((old ++ rule ∷ []) ++ rest) behind) (one_more number (length more))
    ∙ ap (λ (l : List Rule). lines_read adding_line (number + suc (length more)) l behind) (append_assoc old (rule ∷ []) rest)

-- rules that are read behind others
record Good (old : List Rule) (lines : List (List ℕ)) (all : List Rule) : Type 0 where
  rules : List Rule
  good : AreRules lines rules
  is : all ≡ old ++ rules

pub end : (number : ℕ) (old : List Rule) → lines_read adding_line number old [] ≡ Ok old
unfolding lines_read
end number old = refl

good-from : (number : ℕ) (old : List Rule) (lines : List (List ℕ)) (all : List Rule) → lines_read adding_line number old lines ≡ Ok all → Good old lines all
good-from number old [] all e =
    let q : Ok old ≡ Ok all = sym (end number old) ∙ e in
    let p : all ≡ old = cc in
    record { rules = []; good = NoLines; is = p ∙ sym (append-nil old) }
good-from number old (line ∷ lines) all e = by (line_read line) refl (λ (o : List Rule) (h : lines_read adding_line (number + 1) o lines ≡ Ok all). good-from (number + 1) o lines all h)
  where
    by : (v : Result (Option Rule) Fault) → line_read line ≡ v → ((o : List Rule) → lines_read adding_line (number + 1) o lines ≡ Ok all → Good o lines all) → Good old (line ∷ lines) all
    by (Ok None) q f = let g = f old (sym (next number old line lines (Ok None) q) ∙ e) in
        record { rules = g.rules; good = Blank line lines g.rules (blank_line line q) g.good; is = g.is }
    by (Ok (Some rule)) q f = let g = f (old ++ rule ∷ []) (sym (next number old line lines (Ok (Some rule)) q) ∙ e) in
        record { rules = rule ∷ g.rules; good = OneMore line rule lines g.rules (line_rule line rule q) g.good; is = g.is ∙ append_assoc old (rule ∷ []) g.rules }
    by (Err found) q f = let w = sym (next number old line lines (Err found) q) ∙ e in absurd (cc)

pub rules-read : (lines : List (List ℕ)) (rules : List Rule) → lines_read adding_line 1 [] lines ≡ Ok rules → AreRules lines rules
rules-read lines rules e = let g = good-from 1 [] lines rules e in subst (λ (l : List Rule). AreRules lines l) (sym g.is) g.good

pub read-rules : (lines : List (List ℕ)) (rules : List Rule) → AreRules lines rules → lines_read adding_line 1 [] lines ≡ Ok rules
read-rules lines rules r = ap (λ (l : List (List ℕ)). lines_read adding_line 1 [] l) (sym (append-nil lines)) ∙ past 1 [] lines [] rules r ∙ end (1 + length lines) rules
