use Rattle.std.proofs.Common.{◌≡◌, IfOk, true, subst, List, ℕ}
use Rattle.ug_kernel.specs.Tree.{Room}
use Rattle.ug_audit.specs.Journal.{noted_in}
use Rattle.ug_table.specs.Parent.{judged_bound, bound_hash}
use Rattle.ug_table.specs.Settle.{if_place}
use Rattle.ug_table.specs.State.{State, state_of, terms_of}
use Rattle.ug_table.proofs.Common.{Judged, Runs, admitting}
use Rattle.ug_table.proofs.table.Table.admit.Goals as goal

pub returns-clause-runs : goal.returns-clause-runs
unfolding admitting
returns-clause-runs g c =
    let h = c.judge_bound-settled in
    let w : State _ = state_of c.args.hub_default c.args.self.now (g.A.Judge.meaning c.args.judge.now) (noted_in c.args.out.now).entries in
    let P : Judged → List ℕ → Type 0 = λ j hash. Runs g.Y.Sysfs.gives c.args.sysfs.now (Room (if_place g.A.Judge.answer g.A.Judge.later c.args.name.now (terms_of c.args.present c.args.hub_default) w c.args.bound j hash)) (h.result, state_of c.args.hub_default h.new.self (g.A.Judge.meaning h.new.judge) (noted_in h.new.out).entries) h.new.sysfs in
    let bound = c.args.bound in
    let judged : c.in-Ok.facts.0 ≡ judged_bound c.args.name.now c.args.self.now.standings bound = subst (λ made. IfOk made (λ facts. facts.0 ≡ judged_bound c.args.name.now c.args.self.now.standings bound)) c.in-Ok.is c.requires.judged in
    let hash : c.in-Ok.facts.1 ≡ bound_hash bound = subst (λ made. IfOk made (λ facts. facts.1 ≡ bound_hash bound)) c.in-Ok.is c.requires.hash in
    (true, subst (λ (j : Judged). P j (bound_hash bound)) judged (subst (λ (bytes : List ℕ). P c.in-Ok.facts.0 bytes) hash h.ensures.runs))
