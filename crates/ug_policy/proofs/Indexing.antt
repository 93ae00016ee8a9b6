-- The queries of rules, through the changes of a list.
use Rattle.std.proofs.Common.{◌≡◌, ℕ, ◌∷◌, ◌++◌, [], List, map, Bool, true, false, cond, refl, ap, ◌∙◌}
use Rattle.std.specs.Prelude.{Some}
use Rattle.ug_types.specs.declared.record.DeviceRecord.{DeviceRecord}
use Rattle.ug_types.specs.declared.rule.Query.{Query}
use Rattle.ug_types.specs.declared.verdict.Moment.{Moment}
use Rattle.ug_types.specs.declared.verdict.Target.{Target}
use Rattle.ug_policy.specs.declared.entry.RuleEntry.{RuleEntry}
use Rattle.ug_policy.specs.Deciding.{Found, noted_first, rules_judged, seen}
use Rattle.ug_policy.specs.Edits.{aimed, has_id, retargeted}
use Rattle.ug_policy.specs.Matching.{greatest, matched}
use Rattle.ug_policy.specs.Rules.{queries}

pub queries_retargeted : (id : ℕ) (target : Target) (es : List RuleEntry) → queries (retargeted id target es) ≡ queries es
queries_retargeted id target [] = refl
queries_retargeted id target (e ∷ es) =
    let same : (b : Bool) → (cond b (aimed target e) e).rule.query ≡ e.rule.query = λ b. elim b as (λ (c : Bool). (cond c (aimed target e) e).rule.query ≡ e.rule.query) [ true ↦ refl | false ↦ refl ] in
    ap (λ (q : Query). q ∷ queries (retargeted id target es)) (same (has_id id e)) ∙ ap (λ (v : List Query). e.rule.query ∷ v) (queries_retargeted id target es)

query_seen : (dev : DeviceRecord) (moment : Moment) (e : RuleEntry) → (seen dev moment e).rule.query ≡ e.rule.query
query_seen dev moment e = elim (matched dev e) as (λ (b : Bool). (cond b (record e { history = record e.history { evaluated = Some (greatest e.history.evaluated moment) } }) e).rule.query ≡ e.rule.query) [ true ↦ refl | false ↦ refl ]

queries_parts : (dev : DeviceRecord) (moment : Moment) (before rest : List RuleEntry) → queries (map (seen dev moment) before ++ noted_first moment rest) ≡ queries (before ++ rest)
queries_parts dev moment [] [] = refl
queries_parts dev moment [] (e ∷ rest) = refl
queries_parts dev moment (e ∷ before) rest = ap (λ (q : Query). q ∷ queries (map (seen dev moment) before ++ noted_first moment rest)) (query_seen dev moment e) ∙ ap (λ (v : List Query). e.rule.query ∷ v) (queries_parts dev moment before rest)

pub queries_judged : (dev : DeviceRecord) (moment : Moment) (f : Found) → queries (rules_judged dev moment f) ≡ queries (f.before ++ f.rest)
queries_judged dev moment f = queries_parts dev moment f.before f.rest
