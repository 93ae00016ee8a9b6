use Rattle.std.proofs.Common.{◌≡◌, ◌∙◌, ◌++◌, ℕ, List, length, take, drop, sym, ap, subst}
use Rattle.std.proofs.lemmas.List.{take_at}
use Rattle.std.proofs.lemmas.Result.{on_err_weaker}
use Rattle.ug_policy.specs.Candidates as places
use Rattle.ug_types.specs.declared.rule.Query.{Query}
use Rattle.ug_policy.specs.declared.entry.RuleEntry.{RuleEntry}
use Rattle.ug_policy.specs.Rules.{Rules, IsNumbered, queries}
use Rattle.ug_policy.specs.Kept.{StandsFor}
use Rattle.ug_policy.specs.Edits.{retargeted}
use Rattle.ug_policy.proofs.Numbering.{numbered_retargeted}
use Rattle.ug_policy.proofs.Indexing.{queries_retargeted}
use Rattle.ug_policy.proofs.Lists.{same_rules}
use Rattle.ug_policy.proofs.Stands.{stands_retargeted}
use Rattle.ug_policy.proofs.list.RuleList.set_target.Goals as goal

pub invariant_of-self : goal.invariant_of-self
invariant_of-self c =
    let es = c.self.inside.entries.items in
    let ys = c.set_rule_target.new.entries in
    let now : take c.self.inside.entries.len (ys ++ drop (length ys) es) ≡ retargeted c.args.id c.args.target es =
    take_at ys (drop (length ys) es) c.self.inside.entries.len (c.set_rule_target.ensures.len ∙ c.deref_mut.ensures.len)
    ∙ (c.set_rule_target.ensures.entries ∙ ap (retargeted c.args.id c.args.target) c.deref_mut.ensures.value) in
    let same : queries (take c.self.inside.entries.len (ys ++ drop (length ys) es)) ≡ queries es = ap (λ (v : List RuleEntry). queries v) now ∙ queries_retargeted c.args.id c.args.target es in
    record {
      numbered = subst (λ (v : List RuleEntry). IsNumbered v c.self.inside.next_id) (sym now) (numbered_retargeted c.args.id c.args.target es c.self.inside.next_id c.self.invariant.numbered);
      stands = subst (λ (v : List Query). places.StandsForQueries c.self.inside.index v) (sym same) c.self.invariant.stands;
    }

pub returns-clause-err : goal.returns-clause-err
returns-clause-err c =
    let v = c.self.inside.entries in
    let es = v.items in
    let ys = c.set_rule_target.new.entries in
    let shown : take v.len (ys ++ drop (length ys) es) ≡ ys = take_at ys (drop (length ys) es) v.len (c.set_rule_target.ensures.len ∙ c.deref_mut.ensures.len) in
    on_err_weaker c.set_rule_target.result
    (λ same. same_rules _ _ (shown ∙ (same ∙ (c.deref_mut.ensures.value ∙ ap (λ (w : Rules). w.entries) c.self.view_is))) (ap (λ (w : Rules). w.next) c.self.view_is) (ap (λ (w : Rules). w.spare) c.self.view_is))
    c.set_rule_target.ensures.same

pub returns-clause-history : goal.returns-clause-history
returns-clause-history c = λ js s.
    let es = c.self.inside.entries.items in
    let ys = c.set_rule_target.new.entries in
    let next = c.self.inside.next_id in
    let as_seen : es ≡ c.args.self.now.entries = ap (λ (v : Rules). v.entries) c.self.view_is in
    let next_seen : next ≡ c.args.self.now.next = ap (λ (v : Rules). v.next) c.self.view_is in
    let now : take c.self.inside.entries.len (ys ++ drop (length ys) es) ≡ retargeted c.args.id c.args.target es =
    take_at ys (drop (length ys) es) c.self.inside.entries.len (c.set_rule_target.ensures.len ∙ c.deref_mut.ensures.len)
    ∙ (c.set_rule_target.ensures.entries ∙ ap (retargeted c.args.id c.args.target) c.deref_mut.ensures.value) in
    let before : StandsFor es next js = subst (λ (v : List RuleEntry). StandsFor v next js) (sym as_seen) (subst (λ (n : ℕ). StandsFor c.args.self.now.entries n js) (sym next_seen) s) in
    subst (λ (v : List RuleEntry). StandsFor v next js) (sym now) (stands_retargeted c.args.id c.args.target es next js before)
