-- One rule more, behind those before it.
use Rattle.std.proofs.Common.{◌≡◌, ℕ, ◌<◌, ◌+◌, List, [], ◌∷◌, ◌++◌, Bool, true, false, length, get_or, take, drop, reverse, sym, ap, ◌∙◌, append_assoc}
use Rattle.std.specs.Option.{option_to_list}
use Rattle.std.proofs.lemmas.List.{at_drop_more, take_more, append-nil, reverse-append}
use Rattle.ug_types.specs.declared.rule.Rule.{Rule}
use Rattle.ug_lint.specs.declared.finding.Finding.{Finding}
use Rattle.ug_lint.specs.Findings.{finding_of, findings_behind}
use Rattle.ug_lint.specs.Remaining.{is_covered, remaining, remaining_behind, kept_unless}

pub found_more : (rules : List Rule) (found : List Finding) (i : ℕ) (d : Rule) → i < length rules
    → found ++ findings_behind (take i rules) (drop i rules) ≡ (found ++ option_to_list (finding_of (take i rules) (get_or rules i d))) ++ findings_behind (take (i + 1) rules) (drop (i + 1) rules)
found_more rules found i d lt =
    let rule = get_or rules i d in
    let front = take i rules in
    let back = drop (i + 1) rules in
    let here = option_to_list (finding_of front rule) in
    at_drop_more (λ (left : List Rule). found ++ findings_behind front left) rules i d lt
    ∙ ap (λ (v : List Rule). found ++ (here ++ findings_behind v back)) (sym (take_more rules i d lt))
    ∙ sym (append_assoc found here (findings_behind (take (i + 1) rules) back))

-- ---- the last rule

last_behind : (before rules : List Rule) (rule : Rule)
    → remaining_behind (λ r. r) before (rules ++ rule ∷ []) ≡ remaining_behind (λ r. r) before rules ++ kept_unless (is_covered (before ++ rules) rule) rule
last_behind before [] rule =
    append-nil (kept_unless (is_covered before rule) rule)
    ∙ ap (λ (v : List Rule). kept_unless (is_covered v rule) rule) (sym (append-nil before))
last_behind before (first ∷ rules) rule =
    let here = kept_unless (is_covered before first) first in
    let next = before ++ first ∷ [] in
    ap (λ (v : List Rule). here ++ v) (last_behind next rules rule)
    ∙ sym (append_assoc here (remaining_behind (λ r. r) next rules) (kept_unless (is_covered (next ++ rules) rule) rule))
    ∙ ap (λ (v : List Rule). (here ++ remaining_behind (λ r. r) next rules) ++ kept_unless (is_covered v rule) rule) (append_assoc before (first ∷ []) rules)

reverse_unless : (kept : List Rule) (b : Bool) (rule : Rule) → reverse (kept ++ kept_unless b rule) ≡ kept_unless b rule ++ reverse kept
reverse_unless kept true rule = ap (λ (v : List Rule). reverse v) (append-nil kept)
reverse_unless kept false rule = reverse-append kept (rule ∷ [])

pub left_more : (rules before kept : List Rule) (rule : Rule) → rules ≡ before ++ rule ∷ []
    → remaining rules ++ reverse kept ≡ remaining before ++ reverse (kept ++ kept_unless (is_covered before rule) rule)
left_more rules before kept rule e =
    let here = kept_unless (is_covered before rule) rule in
    ap (λ (v : List Rule). remaining v ++ reverse kept) e
    ∙ ap (λ (v : List Rule). v ++ reverse kept) (last_behind [] before rule)
    ∙ append_assoc (remaining before) here (reverse kept)
    ∙ ap (λ (v : List Rule). remaining before ++ v) (sym (reverse_unless kept (is_covered before rule) rule))
