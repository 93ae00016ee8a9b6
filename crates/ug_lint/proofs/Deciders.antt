-- A rule that is found is never the one that decides.
use Rattle.std.proofs.Common.{◌≡◌, ℕ, zero, suc, List, [], ◌∷◌, true, false, take, IsTrue, Some, refl, sym, ap, ◌∙◌, subst, inl, inr}
use Rattle.std.specs.Prelude.{slice_get}
use Rattle.std.proofs.lemmas.Bool.Decides.{Decides-and}
use Rattle.std.proofs.lemmas.Option.{same_Some, none-some}
use Rattle.rand_core.specs.Stream.{Stream}
use Rattle.ug_types.specs.Elements.{Has}
use Rattle.ug_types.specs.declared.record.DeviceRecord.{DeviceRecord}
use Rattle.ug_types.specs.declared.rule.Rule.{Rule}
use Rattle.ug_match.proofs.Membership.{itself}
use Rattle.ug_cond.specs.declared.context.Context.{Context}
use Rattle.ug_cond.specs.Words.{behind}
use Rattle.ug_policy.specs.declared.entry.RuleEntry.{RuleEntry}
use Rattle.ug_policy.specs.Deciding.{decides, rule_holds, words_taken}
use Rattle.ug_policy.specs.Matching.{matched}
use Rattle.ug_lint.specs.declared.finding.Finding.{Finding}
use Rattle.ug_lint.specs.declared.finding.Finding.TheVariants.{Covered, Never}
use Rattle.ug_lint.specs.Certain.{always_hold, never_hold}
use Rattle.ug_lint.specs.Implied.{query_implied}
use Rattle.ug_lint.specs.Filled.{IsFilled}
use Rattle.ug_lint.specs.Findings.{covers_rule, found_place, findings, IsCovered, IsFinding, IsNever}
use Rattle.ug_policy.specs.Rules.{rules_in}
use Rattle.ug_lint.specs.NeverDecides.{NeverDecides}
use Rattle.ug_lint.proofs.Found.{is_finding}
use Rattle.ug_lint.proofs.Matches.{query_less}
use Rattle.ug_lint.proofs.Sure.{always_holds, never_holds, words_behind}

-- ---- rules and their entries

pub rule_at : (entries : List RuleEntry) (i : ℕ) (e : RuleEntry) → slice_get entries i ≡ Some e → slice_get (rules_in entries) i ≡ Some e.rule
rule_at [] i e h = absurd (none-some e h)
rule_at (f ∷ entries) zero e h = ap (λ (v : RuleEntry). Some v.rule) (same_Some f e h)
rule_at (f ∷ entries) (suc i) e h = rule_at entries i e h

pub entry_at : (entries : List RuleEntry) (i : ℕ) (rule : Rule) → slice_get (rules_in entries) i ≡ Some rule → (e : RuleEntry) × (slice_get entries i ≡ Some e) × (e.rule ≡ rule)
entry_at [] i rule h = absurd (none-some rule h)
entry_at (f ∷ entries) zero rule h = (f, refl, same_Some f.rule rule h)
entry_at (f ∷ entries) (suc i) rule h = entry_at entries i rule h

-- ---- one rule

-- every rule's sets have values
abbrev pub AreFilled : List Rule → Type 0
AreFilled rules = (rule : Rule) → Has rules rule → IsFilled rule.query

has_get : (rules : List Rule) (i : ℕ) (rule : Rule) → slice_get rules i ≡ Some rule → Has rules rule
has_get [] i rule h = absurd (none-some rule h)
has_get (r ∷ rules) zero rule h = inl (same_Some r rule h)
has_get (r ∷ rules) (suc i) rule h = inr (has_get rules i rule h)

-- what a rule's cover says
pub cover_parts : (rule earlier : Rule) → IsTrue (covers_rule rule earlier) → IsTrue (query_implied earlier.query rule.query) × IsTrue (always_hold earlier.conds)
cover_parts rule earlier h = (Decides-and (query_implied earlier.query rule.query) (always_hold earlier.conds) (itself (query_implied earlier.query rule.query)) (itself (always_hold earlier.conds))).0 h

pub decides_parts : (dev : DeviceRecord) (ctx : Context) (records : List DeviceRecord) (e : RuleEntry) (stream : Stream) → IsTrue (decides dev ctx records e stream) → IsTrue (matched dev e) × IsTrue (rule_holds ctx records e stream)
decides_parts dev ctx records e stream h = (Decides-and (matched dev e) (rule_holds ctx records e stream) (itself (matched dev e)) (itself (rule_holds ctx records e stream))).0 h

pub decides_both : (dev : DeviceRecord) (ctx : Context) (records : List DeviceRecord) (e : RuleEntry) (stream : Stream) → IsTrue (matched dev e) → IsTrue (rule_holds ctx records e stream) → IsTrue (decides dev ctx records e stream)
decides_both dev ctx records e stream a b = (Decides-and (matched dev e) (rule_holds ctx records e stream) (itself (matched dev e)) (itself (rule_holds ctx records e stream))).1 (a, b)

-- ---- the theorem

never_found : (rules : List Rule) (place : ℕ) → IsNever rules place → NeverDecides rules place
never_found rules place n dev ctx records entries stream e same words d =
    let there : slice_get rules place ≡ Some e.rule = subst (λ (v : List Rule). slice_get v place ≡ Some e.rule) same (rule_at entries place e d.there) in
    let is : n.0 ≡ e.rule = same_Some n.0 e.rule (sym n.1 ∙ there) in
    let hopeless : never_hold e.rule.conds ≡ true = subst (λ (r : Rule). never_hold r.conds ≡ true) is n.2 in
    let left : Stream = behind (words_taken dev (take place entries)) stream in
    let fails : rule_holds ctx records e left ≡ false = never_holds ctx records e left (words_behind (words_taken dev (take place entries)) stream words) hopeless in
    let holds : rule_holds ctx records e left ≡ true = (decides_parts dev ctx records e left d.deciding).1 in
    let none : false ≡ true = sym fails ∙ holds in
    cc

covered_found : (rules : List Rule) (place by : ℕ) → AreFilled rules → IsCovered rules place by → NeverDecides rules place
covered_found rules place by filled n dev ctx records entries stream e same words d =
    let there : slice_get rules place ≡ Some e.rule = subst (λ (v : List Rule). slice_get v place ≡ Some e.rule) same (rule_at entries place e d.there) in
    let is : n.rule ≡ e.rule = same_Some n.rule e.rule (sym n.there ∙ there) in
    let first = entry_at entries by n.earlier (subst (λ (v : List Rule). slice_get v by ≡ Some n.earlier) (sym same) n.first_there) in
    let f : RuleEntry = first.0 in
    let covers : IsTrue (covers_rule e.rule f.rule) =
    subst (λ (r : Rule). IsTrue (covers_rule r f.rule)) is (subst (λ (r : Rule). IsTrue (covers_rule n.rule r)) (sym first.2) n.covers) in
    let parts = cover_parts e.rule f.rule covers in
    let full : IsFilled f.rule.query = subst (λ (r : Rule). IsFilled r.query) (sym first.2) (filled n.earlier (has_get rules by n.earlier n.first_there)) in
    let matches : IsTrue (matched dev e) = (decides_parts dev ctx records e (behind (words_taken dev (take place entries)) stream) d.deciding).0 in
    let left : Stream = behind (words_taken dev (take by entries)) stream in
    d.first by f n.before first.1 (decides_both dev ctx records f left (query_less f.rule.query e.rule.query dev full parts.0 matches)
    (always_holds ctx records f left (words_behind (words_taken dev (take by entries)) stream words) parts.1))

found_never : (rules : List Rule) (f : Finding) → AreFilled rules → IsFinding rules f → NeverDecides rules (found_place f)
found_never rules (Covered place by) filled h = covered_found rules place by filled h
found_never rules (Never place) filled h = never_found rules place h

pub never_decides : (rules : List Rule) (f : Finding) → AreFilled rules → Has (findings rules) f → NeverDecides rules (found_place f)
never_decides rules f filled h = found_never rules f filled (is_finding rules f h)
