-- A text of which a line is bad has the fault of its first bad line.
use Rattle.std.proofs.Common.{◌≡◌, ℕ, ◌+◌, List, [], ◌∷◌, ◌++◌, length, Option, Some, None, Result, Ok, Err, refl, sym, ap, ◌∙◌, arith}
use Rattle.ug_types.specs.declared.rule.Rule.{Rule}
use Rattle.ug_types.specs.declared.text_fault.TextFault.{TextFault}
use Rattle.ug_lines.specs.LineReading.{lines_read}
use Rattle.ug_rule.specs.declared.fault.Fault.{Fault}
use Rattle.ug_rule.specs.Files.{line_read, adding_line, fault_on}
use Rattle.ug_rule.specs.Texts.{AreRules, NoLines, Blank, OneMore}
use Rattle.ug_rule.proofs.TextLines.{blank_line, line_rule}
use Rattle.ug_rule.proofs.Texts.{end, next, one_more, past}
use Rattle.ug_rule_faults.specs.FirstFault.{IsBadLine, IsFirstBadRule}
use Rattle.ug_rule_faults.proofs.BadLines.{bad_line, line_bad}

-- the first bad line of lines that are numbered from a number on
record BadFrom (number : ℕ) (lines : List (List ℕ)) (fault : TextFault) : Type 0 where
  before : List (List ℕ)
  line : List ℕ
  behind : List (List ℕ)
  rules : List Rule
  found : Fault
  split : lines ≡ before ++ line ∷ behind
  good : AreRules before rules
  bad : IsBadLine line found
  told : fault ≡ fault_on (number + length before) found

bad-from : (number : ℕ) (old : List Rule) (lines : List (List ℕ)) (fault : TextFault) → lines_read adding_line number old lines ≡ Err fault → BadFrom number lines fault
bad-from number old [] fault e = let w = sym (end number old) ∙ e in absurd (cc)
bad-from number old (line ∷ lines) fault e = by (line_read line) refl (λ (o : List Rule) (h : lines_read adding_line (number + 1) o lines ≡ Err fault). bad-from (number + 1) o lines fault h)
  where
    by : (v : Result (Option Rule) Fault) → line_read line ≡ v → ((o : List Rule) → lines_read adding_line (number + 1) o lines ≡ Err fault → BadFrom (number + 1) lines fault) → BadFrom number (line ∷ lines) fault
    by (Ok None) q f = let g = f old (sym (next number old line lines (Ok None) q) ∙ e) in record {
      before = line ∷ g.before;
      line = g.line;
      behind = g.behind;
      rules = g.rules;
      found = g.found;
      split = ap (λ (ls : List (List ℕ)). line ∷ ls) g.split;
      good = Blank line g.before g.rules (blank_line line q) g.good;
      bad = g.bad;
      told = g.told ∙ ap (λ (k : ℕ). fault_on k g.found) (one_more number (length g.before));
    }
    by (Ok (Some rule)) q f = let g = f (old ++ rule ∷ []) (sym (next number old line lines (Ok (Some rule)) q) ∙ e) in record {
      before = line ∷ g.before;
      line = g.line;
      behind = g.behind;
      rules = rule ∷ g.rules;
      found = g.found;
      split = ap (λ (ls : List (List ℕ)). line ∷ ls) g.split;
      good = OneMore line rule g.before g.rules (line_rule line rule q) g.good;
      bad = g.bad;
      told = g.told ∙ ap (λ (k : ℕ). fault_on k g.found) (one_more number (length g.before));
    }
    by (Err found) q f =
        let w : Err (fault_on number found) ≡ Err fault = sym (next number old line lines (Err found) q) ∙ e in
        let p : fault ≡ fault_on number found = cc in
        let n : number ≡ number + 0 = omega arith in record {
          before = [];
          line = line;
          behind = lines;
          rules = [];
          found = found;
          split = refl;
          good = NoLines;
          bad = bad_line line found q;
          told = p ∙ ap (λ (k : ℕ). fault_on k found) n;
        }

pub fault-read : (lines : List (List ℕ)) (fault : TextFault) → lines_read adding_line 1 [] lines ≡ Err fault → IsFirstBadRule lines fault
fault-read lines fault e = let g = bad-from 1 [] lines fault e in record {
  before = g.before;
  line = g.line;
  behind = g.behind;
  rules = g.rules;
  found = g.found;
  split = g.split;
  good = g.good;
  bad = g.bad;
  told = let n : 1 + length g.before ≡ length g.before + 1 = omega arith in g.told ∙ ap (λ (k : ℕ). fault_on k g.found) n;
}

pub read-fault : (lines : List (List ℕ)) (fault : TextFault) → IsFirstBadRule lines fault → lines_read adding_line 1 [] lines ≡ Err fault
read-fault lines fault b =
    let n : 1 + length b.before ≡ length b.before + 1 = omega arith in
    ap (λ (l : List (List ℕ)). lines_read adding_line 1 [] l) b.split ∙ past 1 [] b.before (b.line ∷ b.behind) b.rules b.good
    ∙ next (1 + length b.before) b.rules b.line b.behind (Err b.found) (line_bad b.line b.found b.bad)
    ∙ ap (λ (k : ℕ). Err (fault_on k b.found)) n ∙ ap (λ (t : TextFault). Err t) (sym b.told)
