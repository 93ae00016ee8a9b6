use Rattle.std.proofs.Common.{◌≡◌, ◌∙◌, ℕ, List, remove, sym, ap, subst}
use Rattle.ug_policy.specs.Candidates as places
use Rattle.ug_policy.proofs.Standing.{remove_map}
use Rattle.ug_types.specs.declared.rule.Query.{Query}
use Rattle.ug_policy.specs.declared.entry.RuleEntry.{RuleEntry}
use Rattle.ug_policy.specs.Rules.{Rules, IsNumbered, queries}
use Rattle.ug_policy.specs.Kept.{StandsFor}
use Rattle.ug_policy.proofs.Numbering.{numbered_removed}
use Rattle.ug_policy.proofs.Stands.{stands_removed}
use Rattle.ug_policy.proofs.list.RuleList.remove.Goals as goal

pub invariant_of-self : goal.invariant_of-self
invariant_of-self c =
    let es = c.self.inside.entries.items in
    let next = c.self.inside.next_id in
    let taken : queries c.remove_rule.new.entries.items ≡ remove (queries es) c.in-Ok.place = ap (λ (v : List RuleEntry). queries v) c.in-Ok.ensures.place ∙ sym (remove_map (λ (e : RuleEntry). e.rule.query) es c.in-Ok.place) in
    record {
      numbered = subst (λ (v : List RuleEntry). IsNumbered v next) (sym c.remove_rule.ensures.entries) (numbered_removed c.args.id next es c.self.invariant.numbered);
      stands = subst (λ (v : List Query). places.StandsForQueries c.remove.new.self v) (sym taken) (c.remove.ensures.stands (queries es) c.self.invariant.stands);
    }

pub returns-in-Ok-clause-history : goal.returns-in-Ok-clause-history
returns-in-Ok-clause-history c = λ js s.
    let es = c.self.inside.entries.items in
    let next = c.self.inside.next_id in
    let as_seen : es ≡ c.args.self.now.entries = ap (λ (v : Rules). v.entries) c.self.view_is in
    let next_seen : next ≡ c.args.self.now.next = ap (λ (v : Rules). v.next) c.self.view_is in
    let before : StandsFor es next js = subst (λ (v : List RuleEntry). StandsFor v next js) (sym as_seen) (subst (λ (n : ℕ). StandsFor c.args.self.now.entries n js) (sym next_seen) s) in
    subst (λ (v : List RuleEntry). StandsFor v next js) (sym c.remove_rule.ensures.entries) (stands_removed c.args.id es next js before)
