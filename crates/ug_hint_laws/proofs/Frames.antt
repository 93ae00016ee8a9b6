-- What the part of a name leaves as it was, over a kernel that stands still.
use Rattle.std.proofs.Common.{◌≡◌, ℕ, Bool, List, [], ◌∷◌, Option, Some, None, refl, sym, subst}
use Rattle.std.specs.List.{filter}
use Rattle.ug_types.proofs.Elements.{filter_has, distinct_filter}
use Rattle.ug_kernel.specs.Calls.{Call, Answer}
use Rattle.ug_kernel.specs.Kernel.{Kernel, IsKernel}
use Rattle.ug_kernel.specs.Called.{Called, Follows}
use Rattle.ug_kernel.specs.Quiet.{Grows}
use Rattle.ug_kernel.specs.Tree.{Runs, Return, calls}
use Rattle.ug_kernel.proofs.Grow.{some_same}
use Rattle.ug_kernel.proofs.Runs.{runs_then}
use Rattle.ug_kernel.proofs.Ways.{along_grows}
use Rattle.ug_table.specs.Laws.{Stand, AreInOrder}
use Rattle.ug_table.specs.Several.{SettlesNames}
use Rattle.ug_table.specs.Settle.{settling}
use Rattle.ug_table.specs.Standings.{without}
use Rattle.ug_table.specs.State.{State, Answers, Laters, Terms}
use Rattle.ug_table.specs.Sweep.{settling_all}
use Rattle.ug_table.specs.declared.standing.Standing.{Standing}
use Rattle.ug_table.specs.declared.standing.Settled.{Settled}
use Rattle.ug_table.proofs.Chains.{settling_run}
use Rattle.ug_table.proofs.Lived.{piece_apart, stand_files}
use Rattle.ug_table.proofs.Marks.{order_filter}
use Rattle.ug_table.proofs.Several.{told_names}
use Rattle.ug_kernel.specs.declared.identity.Bound.{Bound}
use Rattle.ug_table.proofs.Shapes.{flat_rest, judge_after}
use Rattle.ug_table.proofs.Standings.{Others}
use Rattle.ug_hint_laws.specs.Compared.{RunsStill, TurnsInto, Unchanged, Behind_one}
use Rattle.ug_hint_laws.proofs.Kin.{Kin, still_kin}
use Rattle.ug_hint_laws.proofs.Still.{still_runs, still_sound}

pub record Frame (name : List ℕ) (k : Kernel) (ss : List Standing) (l : Kernel) (rs : List Standing) (next : ℕ) : Type 0 where
  pub sound : IsKernel l
  pub stand : Stand l rs next
  pub others : Others name k l
  pub rest : without name rs ≡ without name ss
  pub grows : Grows k l
  pub kin : Kin k l

follows : (s : Kernel) (call : Call) (answer : Answer call) (t l : Kernel) → calls s call answer t → Some t ≡ Some l → Follows call answer (Some s) l
follows s call answer t l c e =
    let same : t ≡ l = some_same (Some t) t l refl e in
    record { kernel = s; was = refl; called = λ sound. subst (λ (v : Kernel). Called call answer s v) same c }

stand_after : {J : Type 0} (answer : Answers J) (later : Laters J) (name : List ℕ) (terms : Terms) (k : Kernel) (w : State J) (p : Settled × State J) (l : Kernel) → IsKernel k → Stand k w.standings w.next → Runs calls k (settling answer later name terms w) p l → Stand l p.1.standings p.1.next
stand_after {J} answer later name terms k w p l sound stand r =
    let one : List (List ℕ) = name ∷ [] in
    let order : AreInOrder one = ((λ other a. absurd a), tt) in
    let whole : Runs calls k (settling_all answer later one terms w) p.1 l =
    runs_then calls k (settling answer later name terms w) (λ (q : Settled × State J). Return q.1) p l p.1 l r (refl, refl) in
    let law : SettlesNames (λ (v : Kernel). Some v) answer later terms one k w l p.1 = told_names calls (λ (v : Kernel). Some v) follows answer later terms one k w l p.1 whole in
    let at = law order l refl in
    let same : at.0 ≡ k = some_same (Some k) at.0 k at.1 refl in
    (at.2 (subst IsKernel (sym same) sound) (subst (λ (v : Kernel). Stand v w.standings w.next) (sym same) stand)).fair.stand

pub part_frame : {J : Type 0} (answer : Answers J) (later : Laters J) (name : List ℕ) (terms : Terms) (k : Kernel) (w : State J) (p : Settled × State J) (l : Kernel) → IsKernel k → Stand k w.standings w.next → RunsStill k (settling answer later name terms w) p l → Frame name k w.standings l p.1.standings p.1.next
part_frame answer later name terms k w p l sound stand r =
    let run = still_runs (settling answer later name terms w) k p l sound r in
    let x = settling_run calls answer later name terms w k p l run in
    let apart = piece_apart sound (stand_files k w.standings w.next stand) x.so x.along in
    record {
      sound = still_sound (settling answer later name terms w) k p l sound r;
      stand = stand_after answer later name terms k w p l sound stand run;
      others = apart.others;
      rest = flat_rest x.so.flat;
      grows = along_grows x.made k l x.along;
      kin = still_kin (settling answer later name terms w) k p l r;
    }

-- what the judge is behind it
pub turns_then : {J : Type 0} {later : Laters J} {a b c : J} → TurnsInto later a b → TurnsInto later b c → TurnsInto later a c
turns_then x Unchanged = x
turns_then x (Behind_one other dev root present on ss y) = Behind_one other dev root present on ss (turns_then x y)

pub part_turns : {J : Type 0} (answer : Answers J) (later : Laters J) (name : List ℕ) (terms : Terms) (k : Kernel) (w : State J) (p : Settled × State J) (l : Kernel) → IsKernel k → RunsStill k (settling answer later name terms w) p l → TurnsInto later w.judge p.1.judge
part_turns {J} answer later name terms k w p l sound r =
    let x = settling_run calls answer later name terms w k p l (still_runs (settling answer later name terms w) k p l sound r) in
    subst (TurnsInto later w.judge) (sym x.so.judge) (by x.so.judged)
  where
    by : (o : Option (List Standing × Bound)) → TurnsInto later w.judge (judge_after later terms name w o)
    by None = Unchanged
    by (Some y) = Behind_one w.judge _ _ _ _ _ Unchanged

-- fewer standings
pub stand_filter : (k : Kernel) (test : Standing → Bool) (ss : List Standing) (next : ℕ) → Stand k ss next → Stand k (filter test ss) next
stand_filter k test ss next s = record {
  devices = λ x a. s.devices x (filter_has test ss x a).0;
  hashes = λ x a. s.hashes x (filter_has test ss x a).0;
  numbers = λ x a. s.numbers x (filter_has test ss x a).0;
  names = distinct_filter (λ (x : Standing). x.name) test ss s.names;
  order = order_filter test ss s.order;
  distinct = distinct_filter (λ (x : Standing). x.number) test ss s.distinct;
  done = λ control x a. s.done control x (filter_has test ss x a).0;
}
