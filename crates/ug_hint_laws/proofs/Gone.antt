-- A name that no live device bears: its part leaves the kernel as it was, and drops the standing, if there is one.
use Rattle.std.proofs.Common.{◌≡◌, ℕ, Bool, cond, List, [], ◌∷◌, ◌++◌, map, Option, Some, None, refl, sym, ◌∙◌, ap, subst, inl, inr, append-nil}
use Rattle.std.specs.List.{filter}
use Rattle.ug_types.specs.Elements.{Has, AllDistinct}
use Rattle.ug_types.specs.Names.{parent_of}
use Rattle.ug_types.proofs.Elements.{has_map}
use Rattle.ug_kernel.specs.declared.control.Control.TheVariants.{Authorized}
use Rattle.ug_kernel.specs.declared.calls.Opened.{Opened}
use Rattle.ug_kernel.specs.declared.calls.Probe.{Probe}
use Rattle.ug_kernel.specs.declared.calls.FailedCall.{FailedCall}
use Rattle.ug_kernel.specs.Along.{failure_of}
use Rattle.ug_kernel.specs.Calls.{Open, failed_open, is_probe_failed}
use Rattle.ug_kernel.specs.Called.{does_open, says_probe}
use Rattle.ug_kernel.specs.Kernel.{Kernel}
use Rattle.ug_kernel.specs.Tree.{Prog, Ask, then}
use Rattle.ug_kernel.specs.Bind.{binding, binding_under, after_open, after_open_under}
use Rattle.ug_kernel.specs.declared.identity.Binding.{Binding}
use Rattle.ug_audit.specs.declared.entry.Entry.{Entry}
use Rattle.ug_table.specs.Laws.{Stand}
use Rattle.ug_table.specs.Parent.{parent_standing, binding_by}
use Rattle.ug_table.specs.Settle.{settling, from_standing, after_known, entering, after_bind, dropped}
use Rattle.ug_table.specs.Standings.{standing_of, without, same_name}
use Rattle.ug_table.specs.State.{State, Answers, Laters, Terms}
use Rattle.ug_table.specs.Sweep.{names_of}
use Rattle.ug_table.specs.declared.standing.Known.{Known}
use Rattle.ug_table.specs.declared.standing.Standing.{Standing}
use Rattle.ug_table.specs.declared.standing.Settled.{Settled}
use Rattle.ug_table.proofs.Lived.{stand_files, open_found}
use Rattle.ug_table.proofs.NamedStandings.{found, missing, is_same}
use Rattle.ug_table.proofs.Standings.{without_none, other_test, alive_open}
use Rattle.ug_hint_laws.specs.Compared.{RunsStill}
use Rattle.ug_hint_laws.proofs.Alike.{Lives}
use Rattle.ug_hint_laws.proofs.Kin.{lives_at}

-- the `gone` entries of the standings that a test picks
abbrev pub departures : (Standing → Bool) → List Standing → List Entry
departures test ss = map (λ s. Entry.Gone s.number s.name) (filter test ss)

-- the standings of that name alone

abbrev pub has_that : List ℕ → Standing → Bool
has_that name s = same_name s.name name

none_own : (name : List ℕ) (ss : List Standing) → (Has (names_of ss) name → ⊥) → filter (has_that name) ss ≡ []
none_own name [] n = refl
none_own name (s ∷ ss) n =
    ap (λ (b : Bool). cond b (s ∷ filter (has_that name) ss) (filter (has_that name) ss)) (other_test s.name name (λ e. n (inl e)))
    ∙ none_own name ss (λ a. n (inr a))

own_only : (name : List ℕ) (ss : List Standing) (s : Standing) → AllDistinct (names_of ss) → Has ss s → s.name ≡ name → filter (has_that name) ss ≡ s ∷ []
own_only name [] s d a e = absurd a
own_only name (x ∷ ss) s d (inl is) e =
    let named : x.name ≡ name = ap (λ (v : Standing). v.name) is ∙ e in
    ap (λ (b : Bool). cond b (x ∷ filter (has_that name) ss) (filter (has_that name) ss)) (is_same x.name name named)
    ∙ ap (λ (v : List Standing). x ∷ v) (none_own name ss (λ h. d.0 (subst (Has (names_of ss)) (sym named) h)))
    ∙ ap (λ (v : Standing). v ∷ []) is
own_only name (x ∷ ss) s d (inr a) e =
    ap (λ (b : Bool). cond b (x ∷ filter (has_that name) ss) (filter (has_that name) ss)) (other_test x.name name (λ f. d.0 (subst (Has (names_of ss)) (e ∙ sym f) (has_map (λ (v : Standing). v.name) ss s a))))
    ∙ own_only name ss s d.1 a e

-- what the part leaves
pub record Drops {J : Type 0} (name : List ℕ) (k : Kernel) (w : State J) (l : Kernel) (v : State J) : Type 0 where
  pub kernel : l ≡ k
  pub standings : v.standings ≡ without name w.standings
  pub next : v.next ≡ w.next
  pub listed : v.listed ≡ w.listed
  pub judge : v.judge ≡ w.judge
  pub hub : v.hub ≡ w.hub
  pub entries : v.entries ≡ w.entries ++ departures (has_that name) w.standings

-- nothing is opened by the name

record Absent {B : Type 0} (k : Kernel) (f : Opened → FailedCall → Prog Binding) (g : Binding → Prog B) (p : B) (l : Kernel) : Type 0 where
  failed : FailedCall
  m : Kernel
  same : m ≡ k
  rest : RunsStill m (then (f Opened.Absent failed) g) p l

opens_none : {B : Type 0} (name : List ℕ) (f : Opened → FailedCall → Prog Binding) (g : Binding → Prog B) (k : Kernel) (p : B) (l : Kernel) → (Lives k name → ⊥) → RunsStill k (Ask (Open name Authorized) (λ t. then (f t.answer (failure_of t)) g)) p l → Absent k f g p l
opens_none {B} name f g k p l dead h = by h.0.answer (failure_of h.0) h.1 h.2.does h.2.calm h.2.granted h.3
  where
    by : (r : Opened) (x : FailedCall) (m : Kernel) → does_open name Authorized r k m → cond (failed_open r) (x ∷ []) [] ≡ [] → (r ≡ Opened.Memory → ⊥) → RunsStill m (then (f r x) g) p l → Absent k f g p l
    by (Opened.Token held) x m o calm granted rest = absurd (dead (record { i = o.i; d = o.d; live = o.live; named = o.named }))
    by Opened.Absent x m e calm granted rest = record { failed = x; m = m; same = e; rest = rest }
    by Opened.Failed x m e calm granted rest = let none : ⊥ = cc in absurd none
    by Opened.Memory x m e calm granted rest = absurd (granted refl)

record Entered {J : Type 0} (k : Kernel) (u : State J) (l : Kernel) (v : State J) : Type 0 where
  kernel : l ≡ k
  state : v ≡ u

enters_none : {J : Type 0} (answer : Answers J) (later : Laters J) (name : List ℕ) (terms : Terms) (u : State J) (k : Kernel) (p : Settled × State J) (l : Kernel) → (Lives k name → ⊥) → RunsStill k (entering answer later name terms u) p l → Entered k u l p.1
unfolding entering binding binding_under
enters_none {J} answer later name terms u k p l dead h = by (parent_standing name u.standings) h
  where
    g : Binding → Prog (Settled × State J)
    g = after_bind answer later name terms u

    end : (m : Kernel) → m ≡ k → (p ≡ (Settled.Nobody, u)) × (l ≡ m) → Entered k u l p.1
    end m e r = record { kernel = r.1 ∙ e; state = ap (λ (q : Settled × State J). q.1) r.0 }

    by : (o : Option Standing) → RunsStill k (then (binding_by name o) g) p l → Entered k u l p.1
    by None r = let x = opens_none name (after_open name (parent_of name)) g k p l dead r in end x.m x.same x.rest
    by (Some s) r = let x = opens_none name (after_open_under name s.name s.held.0) g k p l dead r in end x.m x.same x.rest

-- the part

pub part_gone : {J : Type 0} (answer : Answers J) (later : Laters J) (name : List ℕ) (terms : Terms) (k : Kernel) (w : State J) (p : Settled × State J) (l : Kernel) → Stand k w.standings w.next → (Lives k name → ⊥) → RunsStill k (settling answer later name terms w) p l → Drops name k w l p.1
unfolding settling
part_gone {J} answer later name terms k w p l stand dead run = from (standing_of name w.standings) refl run
  where
    fresh : standing_of name w.standings ≡ None → Entered k w l p.1 → Drops name k w l p.1
    fresh e x =
        let none = missing name w.standings e in
        let gone : departures (has_that name) w.standings ≡ [] = ap (λ (ss : List Standing). map (λ (s : Standing). Entry.Gone s.number s.name) ss) (none_own name w.standings none) in
        record {
          kernel = x.kernel;
          standings = ap (λ (v : State J). v.standings) x.state ∙ sym (without_none name w.standings none);
          next = ap (λ (v : State J). v.next) x.state;
          listed = ap (λ (v : State J). v.listed) x.state;
          judge = ap (λ (v : State J). v.judge) x.state;
          hub = ap (λ (v : State J). v.hub) x.state;
          entries = ap (λ (v : State J). v.entries) x.state ∙ sym (append-nil w.entries) ∙ ap (λ (es : List Entry). w.entries ++ es) (sym gone);
        }

    lost : (known : Known) → standing_of name w.standings ≡ Some known → (m : Kernel) → m ≡ k → Entered m (dropped w name known.number) l p.1 → Drops name k w l p.1
    lost known e m same x =
        let at = found name w.standings known e in
        let own : departures (has_that name) w.standings ≡ Entry.Gone at.s.number at.s.name ∷ [] = ap (λ (ss : List Standing). map (λ (s : Standing). Entry.Gone s.number s.name) ss) (own_only name w.standings at.s stand.names at.has at.named) in
        let gone : departures (has_that name) w.standings ≡ Entry.Gone known.number name ∷ [] = own ∙ ap (λ (n : ℕ). Entry.Gone n at.s.name ∷ []) (ap (λ (v : Known). v.number) at.known) ∙ ap (λ (n : List ℕ). Entry.Gone known.number n ∷ []) at.named in
        record {
          kernel = x.kernel ∙ same;
          standings = ap (λ (v : State J). v.standings) x.state;
          next = ap (λ (v : State J). v.next) x.state;
          listed = ap (λ (v : State J). v.listed) x.state;
          judge = ap (λ (v : State J). v.judge) x.state;
          hub = ap (λ (v : State J). v.hub) x.state;
          entries = ap (λ (v : State J). v.entries) x.state ∙ ap (λ (es : List Entry). w.entries ++ es) (sym gone);
        }

    by : (known : Known) → standing_of name w.standings ≡ Some known → (r : Probe) (failed : FailedCall) (m : Kernel) → m ≡ k → says_probe known.held.0 r k m → cond (is_probe_failed r) (failed ∷ []) [] ≡ [] → RunsStill m (after_known answer later name terms w known r failed) p l → Drops name k w l p.1
    by known e (Probe.Alive on) failed m same says calm h =
        let live = alive_open k name known.held.0 on (open_found name w.standings known k e (stand_files k w.standings w.next stand)) says in
        absurd (dead (lives_at k live.0 name live.2))
    by known e Probe.Gone failed m same says calm h =
        let there : h.1 ≡ k = h.2.does ∙ same in
        lost known e h.1 there (enters_none answer later name terms (dropped w name known.number) h.1 p l (λ x. dead (subst (λ (v : Kernel). Lives v name) there x)) h.3)
    by known e Probe.Failed failed m same says calm h = let none : ⊥ = cc in absurd none

    from : (o : Option Known) → standing_of name w.standings ≡ o → RunsStill k (from_standing answer later name terms w o) p l → Drops name k w l p.1
    from None e h = fresh e (enters_none answer later name terms w k p l dead h)
    from (Some known) e h = by known e h.0.answer (failure_of h.0) h.1 h.2.does h.2.says h.2.calm h.3
