use Rattle.std.proofs.Common.{◌≡◌, ◌<◌, ◌≤◌, ◌+◌, ◌∙◌, ℕ, List, insert, length, sym, ap, subst, refl, arith}
use Rattle.ug_policy.specs.Candidates as places
use Rattle.ug_policy.proofs.Standing.{insert_map}
use Rattle.ug_types.specs.declared.rule.Query.{Query}
use Rattle.ug_policy.specs.declared.entry.RuleEntry.{RuleEntry}
use Rattle.ug_policy.specs.Marks.{FolderFirst}
use Rattle.ug_policy.specs.Rules.{Rules, IsNumbered, marks, most_rules, queries}
use Rattle.ug_policy.specs.Edits.{IsThere, KeepsMarkOrder, inserted, new_entry}
use Rattle.ug_policy.specs.Kept.{StandsFor}
use Rattle.ug_policy.proofs.Numbering.{numbered_insert}
use Rattle.ug_policy.proofs.Order.{order_inserted}
use Rattle.ug_policy.proofs.Stands.{stands_insert}
use Rattle.ug_policy.proofs.list.RuleList.insert.Goals as goal

pub invariant_of-self : goal.invariant_of-self
invariant_of-self c =
    let es = c.self.inside.entries.items in
    let next = c.self.inside.next_id in
    let place = c.place_after-place.result in
    let entry = new_entry next c.args.rule c.args.mark in
    let long : length c.as_slice.result.now ≡ length es = ap (λ (v : List RuleEntry). length v) c.as_slice.ensures.value in
    let within : place ≤ length es = omega (arith, c.place_after-place.ensures.within) in
    let put : queries c.put_rule.new.entries.items ≡ insert (queries es) place c.args.rule.query = ap (λ (v : List RuleEntry). queries v) c.put_rule.ensures.entries ∙ sym (insert_map (λ (e : RuleEntry). e.rule.query) es place entry) in
    let as_seen : es ≡ c.args.self.now.entries = ap (λ (v : Rules). v.entries) c.self.view_is in
    let few : length es < most_rules = subst (λ (v : List RuleEntry). length v < most_rules) (sym as_seen) c.requires.few in
    let there : IsThere c.args.after es = subst (IsThere c.args.after) (sym as_seen) c.requires.there in
    let keeps : KeepsMarkOrder c.args.after c.args.mark es = subst (KeepsMarkOrder c.args.after c.args.mark) (sym as_seen) c.requires.order in
    let put_at : inserted c.args.after entry es ≡ insert es place entry = ap (inserted c.args.after entry) (sym c.as_slice.ensures.value) ∙ c.place_after-place.ensures.place entry refl ∙ ap (λ (v : List RuleEntry). insert v place entry) c.as_slice.ensures.value in
    let order : FolderFirst (marks (insert es place entry)) = subst (λ (v : List RuleEntry). FolderFirst (marks v)) put_at (order_inserted c.args.after entry es c.args.mark refl c.self.invariant.numbered.distinct there keeps c.self.invariant.numbered.order) in
    record {
      numbered = subst (λ (v : List RuleEntry). IsNumbered v (next + 1)) (sym c.put_rule.ensures.entries) (numbered_insert es next place entry c.self.invariant.numbered refl within few order);
      stands = subst (λ (v : List Query). places.StandsForQueries c.insert.new.self v) (sym put) (c.insert.ensures.stands (queries es) c.self.invariant.stands);
    }

pub returns-clause-history : goal.returns-clause-history
returns-clause-history c = λ js s.
    let es = c.self.inside.entries.items in
    let next = c.self.inside.next_id in
    let as_seen : es ≡ c.args.self.now.entries = ap (λ (v : Rules). v.entries) c.self.view_is in
    let next_seen : next ≡ c.args.self.now.next = ap (λ (v : Rules). v.next) c.self.view_is in
    let before : StandsFor es next js = subst (λ (v : List RuleEntry). StandsFor v next js) (sym as_seen) (subst (λ (n : ℕ). StandsFor c.args.self.now.entries n js) (sym next_seen) s) in
    subst (λ (v : List RuleEntry). StandsFor v (next + 1) js) (sym c.put_rule.ensures.entries) (stands_insert es next c.place_after-place.result c.args.rule c.args.mark js before)
