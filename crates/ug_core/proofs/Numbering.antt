-- The ids of rules that are put one behind another.
use Rattle.std.proofs.Common.{◌≡◌, ℕ, ◌+◌, List, [], ◌∷◌, ◌++◌, length, ap, sym, ◌∙◌, arith, length-append}
use Rattle.std.proofs.lemmas.List.{length-map}
use Rattle.ug_types.specs.declared.rule.Rule.{Rule}
use Rattle.ug_policy.specs.declared.entry.Mark.TheVariants as mark
use Rattle.ug_policy.specs.declared.entry.RuleEntry.{RuleEntry}
use Rattle.ug_policy.specs.Edits.{new_entry}
use Rattle.ug_policy.specs.Kept.{StandsFor}
use Rattle.ug_policy.specs.Rules.{Rules}
use Rattle.ug_core.specs.Starting.{HoldsJust, Marked, entries_from, marked_rules, start_rules}

entries_more : (id : ℕ) (rules : List Marked) (m : Marked) → entries_from id (rules ++ m ∷ []) ≡ entries_from id rules ++ new_entry (id + length rules) m.rule m.mark ∷ []
entries_more id [] m = let none : id ≡ id + 0 = omega arith in ap (λ (n : ℕ). new_entry n m.rule m.mark ∷ []) none
entries_more id (r ∷ rules) m =
    let next : (id + 1) + length rules ≡ id + length (r ∷ rules) = omega arith in
    ap (λ (es : List RuleEntry). new_entry id r.rule r.mark ∷ es) (entries_more (id + 1) rules m) ∙ ap (λ (n : ℕ). new_entry id r.rule r.mark ∷ (entries_from (id + 1) rules ++ new_entry n m.rule m.mark ∷ [])) next

pub entries_length : (id : ℕ) (rules : List Marked) → length (entries_from id rules) ≡ length rules
entries_length id [] = omega arith
entries_length id (r ∷ rules) = omega (arith, entries_length (id + 1) rules)

-- the folder's and the file's
pub start_length : (folder rules : List Rule) → length (start_rules folder rules) ≡ length folder + length rules
start_length folder rules =
    let of_folder : length (marked_rules mark.Folder folder) ≡ length folder = length-map folder (λ rule. record { mark = mark.Folder; rule = rule }) in
    let of_file : length (marked_rules mark.File rules) ≡ length rules = length-map rules (λ rule. record { mark = mark.File; rule = rule }) in
    length-append (marked_rules mark.Folder folder) (marked_rules mark.File rules) ∙ ap (λ n. n + length (marked_rules mark.File rules)) of_folder ∙ ap (λ n. length folder + n) of_file

-- one rule more, behind the others
pub holds_more : (rules : List Marked) (m : Marked) (list new : Rules) → HoldsJust rules list → new.entries ≡ list.entries ++ new_entry list.next m.rule m.mark ∷ [] → new.next ≡ list.next + 1 → (StandsFor list.entries list.next [] → StandsFor new.entries new.next []) → HoldsJust (rules ++ m ∷ []) new
holds_more rules m list new h entries next history =
    let id : list.next ≡ 1 + length rules = omega (arith, h.next) in
    let count : length (rules ++ m ∷ []) ≡ length rules + 1 = length-append rules (m ∷ []) in
    record {
      entries = entries ∙ ap (λ (es : List RuleEntry). es ++ new_entry list.next m.rule m.mark ∷ []) h.entries ∙ ap (λ (n : ℕ). entries_from 1 rules ++ new_entry n m.rule m.mark ∷ []) id ∙ sym (entries_more 1 rules m);
      next = omega (arith, next, h.next, count);
      history = history h.history;
    }
