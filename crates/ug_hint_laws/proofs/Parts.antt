-- The part of a live name does alike from states that have the same standings of live names.
use Rattle.std.proofs.Common.{◌≡◌, ℕ, ◌+◌, Bool, true, is_none, List, [], ◌∷◌, ◌++◌, Option, Some, None, ◌⊎◌, inl, inr, refl, sym, ◌∙◌, ap, subst}
use Rattle.ug_types.specs.Names.{parent_of}
use Rattle.ug_types.specs.declared.record.Judged.{Judged}
use Rattle.ug_types.specs.declared.verdict.Target.{Target}
use Rattle.ug_types.specs.declared.verdict.Cause.{Cause}
use Rattle.ug_kernel.specs.Tree.{Return, then}
use Rattle.ug_kernel.specs.declared.identity.Bound.{Bound}
use Rattle.ug_kernel.specs.declared.identity.Binding.{Binding}
use Rattle.ug_audit.specs.declared.entry.Entry.{Entry}
use Rattle.ug_audit.specs.declared.entry.Fault.{Fault}
use Rattle.ug_table.specs.Bring.{treating}
use Rattle.ug_table.specs.Laws.{AreInOrder}
use Rattle.ug_table.specs.Parent.{parent_standing, standing_above, binding_by, judged_beside, judged_bound, bound_hash}
use Rattle.ug_table.specs.Settle.{settling, from_standing, after_known, entering, after_bind, admitting, if_record, if_place, to_judge, judging, known_in, judged_entry, standing_for, to_keep, to_mark, dropped, tried_standings, kept_standings, unsettled_by, unsettled, stopped_by}
use Rattle.ug_table.specs.Standings.{standing_of, did_default, without}
use Rattle.ug_table.specs.State.{State, Answers, Laters, Terms, noted}
use Rattle.ug_table.specs.Sweep.{names_of}
use Rattle.ug_table.specs.declared.standing.Standing.{Standing}
use Rattle.ug_table.specs.declared.standing.Known.{Known}
use Rattle.ug_table.specs.declared.standing.Settled.{Settled}
use Rattle.ug_table.proofs.Above.{above_has}
use Rattle.ug_table.proofs.Marks.{order_filter}
use Rattle.ug_hint_laws.specs.Compared.{LooksAtNone, Unchanged}
use Rattle.ug_hint_laws.proofs.Alike.{Alike, Ends, Rooms, alike_then}
use Rattle.ug_hint_laws.proofs.Asking.{Beside, beside_more, asks_probe, asks_close}
use Rattle.ug_hint_laws.proofs.Bindings.{one_then, one_binding_by}
use Rattle.ug_hint_laws.proofs.Writes.{Treated_alike, treating_alike}
use Rattle.ug_hint_laws.proofs.Filters.{of_live, live_stand, live_named, live_tried, live_kept, live_without}

-- the standings of live names are the same, and so is the rest; the same entries were added to both
pub record Twin (alive : List ℕ → Bool) {J : Type 0} (a b : List Entry) (w v : State J) : Type 0 where
  pub standings : of_live alive w.standings ≡ of_live alive v.standings
  pub next : w.next ≡ v.next
  pub listed : w.listed ≡ v.listed
  pub judge : w.judge ≡ v.judge
  pub hub : w.hub ≡ v.hub
  pub entries : Beside a b w.entries v.entries

pub record Part_alike (alive : List ℕ → Bool) {J : Type 0} (a b : List Entry) (p q : Settled × State J) : Type 0 where
  pub how : p.0 ≡ q.0
  pub state : Twin alive a b p.1 q.1

-- the judge can't tell these standings apart
abbrev pub Sees : {J : Type 0} → Answers J → Laters J → J → List Standing → List Standing → Type 0
Sees answer later judge ss rs = LooksAtNone answer later judge ⊎ (ss ≡ rs)

module _ (alive : List ℕ → Bool) {J : Type 0} (answer : Answers J) (later : Laters J) (name : List ℕ) (terms : Terms) (a b : List Entry) where
  abbrev P : List ℕ → Type 0
  P n = alive n ≡ true

  abbrev R : Settled × State J → Settled × State J → Type 0
  R = Part_alike alive a b

  -- two states
  record Pair (w v : State J) : Type 0 where
    twin : Twin alive a b w v
    sees : Sees answer later w.judge w.standings v.standings
    order : AreInOrder (names_of w.standings)
    other : AreInOrder (names_of v.standings)

  record Given : Type 0 where
    own : alive name ≡ true
    above : (n : List ℕ) → parent_of name ≡ Some n → alive n ≡ true

  same_verdict : (w v : State J) → Pair w v → (dev : Judged) (root present on : Bool) → answer w.judge dev root present on w.standings ≡ answer v.judge dev root present on v.standings
  same_verdict w v p dev root present on =
      let one : answer w.judge dev root present on w.standings ≡ answer w.judge dev root present on v.standings = elim p.sees [
        | inl none ↦ (none w.judge Unchanged dev root present on w.standings v.standings).0
        | inr e ↦ ap (answer w.judge dev root present on) e
      ] in
      one ∙ ap (λ (j : J). answer j dev root present on v.standings) p.twin.judge

  same_later : (w v : State J) → Pair w v → (dev : Judged) (root present on : Bool) → later w.judge dev root present on w.standings ≡ later v.judge dev root present on v.standings
  same_later w v p dev root present on =
      let one : later w.judge dev root present on w.standings ≡ later w.judge dev root present on v.standings = elim p.sees [
        | inl none ↦ (none w.judge Unchanged dev root present on w.standings v.standings).1
        | inr e ↦ ap (later w.judge dev root present on) e
      ] in
      one ∙ ap (λ (j : J). later j dev root present on v.standings) p.twin.judge

  same_parent : (ss rs : List Standing) → Given → of_live alive ss ≡ of_live alive rs → parent_standing name ss ≡ parent_standing name rs
  same_parent ss rs g e = by (parent_of name) refl
    where
      by : (o : Option (List ℕ)) → parent_of name ≡ o → standing_above o ss ≡ standing_above o rs
      by None f = refl
      by (Some n) f = sym (live_named alive n ss (g.above n f)) ∙ ap (λ (v : List Standing). standing_above (Some n) v) e ∙ live_named alive n rs (g.above n f)

  marks : (w v : State J) → Twin alive a b w v → (p q : Settled × Bool × List Entry) → Treated_alike a b p q → Alike P R (to_mark w name p) (to_mark v name q)
  marks w v t p q x =
      let told : Beside a b (p.2 ++ unsettled_by name p.0) (q.2 ++ unsettled_by name q.0) =
      subst (λ (how : Settled). Beside a b (p.2 ++ unsettled_by name p.0) (q.2 ++ unsettled_by name how)) x.how (beside_more a b p.2 q.2 (unsettled_by name p.0) x.entries) in
      let same : of_live alive (tried_standings (did_default name p.1 w.standings) name p.0) ≡ of_live alive (tried_standings (did_default name q.1 v.standings) name q.0) =
      live_tried alive name p.1 p.0 w.standings
      ∙ ap (λ (ss : List Standing). tried_standings (did_default name p.1 ss) name p.0) t.standings
      ∙ ap (λ (d : Bool). tried_standings (did_default name d (of_live alive v.standings)) name p.0) x.done
      ∙ ap (λ (how : Settled). tried_standings (did_default name q.1 (of_live alive v.standings)) name how) x.how
      ∙ sym (live_tried alive name q.1 q.0 v.standings) in
      Ends (p.0, record w { standings = tried_standings (did_default name p.1 w.standings) name p.0; entries = p.2 ++ unsettled_by name p.0 }) (q.0, record v { standings = tried_standings (did_default name q.1 v.standings) name q.0; entries = q.2 ++ unsettled_by name q.0 })
      (record { how = x.how; state = record { standings = same; next = t.next; listed = t.listed; judge = t.judge; hub = t.hub; entries = told } })

  keeps : (w v : State J) → Twin alive a b w v → AreInOrder (names_of w.standings) → AreInOrder (names_of v.standings) → (s : Standing) → s.name ≡ name → Given → (p q : Settled × Bool × List Entry) → Treated_alike a b p q → Alike P R (to_keep w s p) (to_keep v s q)
  keeps w v t order other s is g p q x =
      let own : (d : Bool) → alive (let y : Standing = record s { defaulted = d } in y.name) ≡ true = λ d. ap alive is ∙ g.own in
      let one : Standing = record s { defaulted = p.1 } in
      let two : Standing = record s { defaulted = q.1 } in
      let told : Beside a b (p.2 ++ unsettled_by s.name p.0) (q.2 ++ unsettled_by s.name q.0) =
      subst (λ (how : Settled). Beside a b (p.2 ++ unsettled_by s.name p.0) (q.2 ++ unsettled_by s.name how)) x.how (beside_more a b p.2 q.2 (unsettled_by s.name p.0) x.entries) in
      let same : of_live alive (kept_standings w.standings one p.0) ≡ of_live alive (kept_standings v.standings two q.0) =
      live_kept alive one p.0 w.standings (own p.1) order
      ∙ ap (λ (ss : List Standing). kept_standings ss one p.0) t.standings
      ∙ ap (λ (d : Bool). kept_standings (of_live alive v.standings) (record s { defaulted = d }) p.0) x.done
      ∙ ap (λ (how : Settled). kept_standings (of_live alive v.standings) two how) x.how
      ∙ sym (live_kept alive two q.0 v.standings (own q.1) other) in
      Ends (p.0, record w { standings = kept_standings w.standings one p.0; entries = p.2 ++ unsettled_by s.name p.0 }) (q.0, record v { standings = kept_standings v.standings two q.0; entries = q.2 ++ unsettled_by s.name q.0 })
      (record { how = x.how; state = record { standings = same; next = t.next; listed = t.listed; judge = t.judge; hub = t.hub; entries = told } })

  -- the same verdict, and what the judge is after it
  judges : (w v : State J) → Pair w v → Given → (held : ℕ) (dev : Judged) (hash : List ℕ) (on : Bool) (given : Target × Cause) (x y : J) → x ≡ y → Alike P R (judging terms.hub x w name held dev hash on given) (judging terms.hub y v name held dev hash on given)
  judges w v p g held dev hash on given x y same =
      let u : State J = record w { next = w.next + 1; judge = x } in
      let t : State J = record v { next = v.next + 1; judge = y } in
      let twin : Twin alive a b u t = record { standings = p.twin.standings; next = ap (λ (n : ℕ). n + 1) p.twin.next; listed = p.twin.listed; judge = same; hub = p.twin.hub; entries = p.twin.entries } in
      let e : Entry = judged_entry w name held given in
      let s : Standing = standing_for w name held dev hash given in
      let whole : Alike P R (judging terms.hub x w name held dev hash on given)
      (then (treating terms.hub name (known_in w held given) on (v.entries ++ e ∷ [])) (to_keep t s)) =
      alike_then (Treated_alike a b) R
      (treating terms.hub name (known_in w held given) on (w.entries ++ e ∷ []))
      (treating terms.hub name (known_in w held given) on (v.entries ++ e ∷ []))
      (to_keep u s) (to_keep t s)
      (treating_alike P a b terms.hub name (known_in w held given) on (w.entries ++ e ∷ []) (v.entries ++ e ∷ []) (beside_more a b w.entries v.entries (e ∷ []) p.twin.entries))
      (λ m n z. keeps u t twin p.order p.other s refl g m n z) in
      subst (λ (n : ℕ). Alike P R (judging terms.hub x w name held dev hash on given)
      (then (treating terms.hub name (known_in (record v { next = n }) held given) on (v.entries ++ judged_entry (record v { next = n }) name held given ∷ []))
      (to_keep t (standing_for (record v { next = n }) name held dev hash given)))) p.twin.next whole

  admits : (w v : State J) → Pair w v → Given → (o : Bound) → Alike P R (admitting answer later name terms w o) (admitting answer later name terms v o)
  unfolding admitting
  admits w v p g o = Rooms (if_record answer later name terms w o) (if_record answer later name terms v o)
      (Rooms (if_place answer later name terms w o (judged_bound name w.standings o) (bound_hash o)) (if_place answer later name terms v o (judged_bound name v.standings o) (bound_hash o)) placed)
    where
      dev : Judged
      dev = judged_bound name w.standings o

      same_dev : dev ≡ judged_bound name v.standings o
      same_dev = ap (λ (s : Option Standing). judged_beside name o.attrs s o.parent) (same_parent w.standings v.standings g p.twin.standings)

      root : Bool
      root = is_none (parent_of name)

      with_dev : Alike P R (to_judge answer later name terms w o dev (bound_hash o)) (to_judge answer later name terms v o dev (bound_hash o))
      with_dev = subst (λ (given : Target × Cause). Alike P R (to_judge answer later name terms w o dev (bound_hash o)) (judging terms.hub (later v.judge dev root terms.present o.on v.standings) v name o.held.0 dev (bound_hash o) o.on given))
          (same_verdict w v p dev root terms.present o.on)
          (judges w v p g o.held.0 dev (bound_hash o) o.on (answer w.judge dev root terms.present o.on w.standings) (later w.judge dev root terms.present o.on w.standings) (later v.judge dev root terms.present o.on v.standings) (same_later w v p dev root terms.present o.on))

      placed : Alike P R (to_judge answer later name terms w o dev (bound_hash o)) (to_judge answer later name terms v o (judged_bound name v.standings o) (bound_hash o))
      placed = subst (λ (d : Judged). Alike P R (to_judge answer later name terms w o dev (bound_hash o)) (to_judge answer later name terms v o d (bound_hash o))) same_dev with_dev

  ends : (how : Settled) (w v : State J) → Twin alive a b w v → Alike P R (Return (how, w)) (Return (how, v))
  ends how w v t = Ends (how, w) (how, v) (record { how = refl; state = t })

  tells : (why : Fault) (w v : State J) → Twin alive a b w v → Alike P R (unsettled w name why) (unsettled v name why)
  tells why w v t =
      let e : List Entry = Entry.Unsettled name why ∷ [] in
      ends (stopped_by why) (noted w (Entry.Unsettled name why)) (noted v (Entry.Unsettled name why))
      (record { standings = t.standings; next = t.next; listed = t.listed; judge = t.judge; hub = t.hub; entries = beside_more a b w.entries v.entries e t.entries })

  binds : (w v : State J) → Pair w v → Given → (r : Binding) → Alike P R (after_bind answer later name terms w r) (after_bind answer later name terms v r)
  binds w v p g (Binding.Bound o) = admits w v p g o
  binds w v p g Binding.Absent = ends Settled.Nobody w v p.twin
  binds w v p g Binding.Vanished = ends Settled.Nobody w v p.twin
  binds w v p g (Binding.Failed failed) = tells (Fault.Call failed) w v p.twin
  binds w v p g Binding.Memory = tells Fault.Memory w v p.twin

  enters : (w v : State J) → Pair w v → Given → Alike P R (entering answer later name terms w) (entering answer later name terms v)
  unfolding entering
  enters w v p g =
      let o : Option Standing = parent_standing name w.standings in
      let kept : (s : Standing) → o ≡ Some s → alive s.name ≡ true = λ s e. g.above s.name (above_has name w.standings s e).1 in
      subst (λ (other : Option Standing). Alike P R (entering answer later name terms w) (then (binding_by name other) (after_bind answer later name terms v)))
      (same_parent w.standings v.standings g p.twin.standings)
      (one_then P R (binding_by name o) (after_bind answer later name terms w) (after_bind answer later name terms v) (one_binding_by P name o g.own g.above kept) (binds w v p g))

  drops : (w v : State J) → Pair w v → (number : ℕ) → Pair (dropped w name number) (dropped v name number)
  drops w v p number = record {
    twin = record {
      standings = live_without alive name w.standings ∙ ap (without name) p.twin.standings ∙ sym (live_without alive name v.standings);
      next = p.twin.next;
      listed = p.twin.listed;
      judge = p.twin.judge;
      hub = p.twin.hub;
      entries = beside_more a b w.entries v.entries (Entry.Gone number name ∷ []) p.twin.entries;
    };
    sees = elim p.sees [ inl none ↦ inl none | inr e ↦ inr (ap (without name) e) ];
    order = order_filter _ w.standings p.order;
    other = order_filter _ v.standings p.other;
  }

  known : (w v : State J) → Pair w v → Given → (o : Option Known) → Alike P R (from_standing answer later name terms w o) (from_standing answer later name terms v o)
  known w v p g (Some k) = asks_probe P R k.held.0 (after_known answer later name terms w k) (after_known answer later name terms v k)
      (λ on x y. alike_then (Treated_alike a b) R (treating terms.hub name k on w.entries) (treating terms.hub name k on v.entries) (to_mark w name) (to_mark v name) (treating_alike P a b terms.hub name k on w.entries v.entries p.twin.entries) (λ m n z. marks w v p.twin m n z))
      (λ x y. asks_close P R k.held.0 (entering answer later name terms (dropped w name k.number)) (entering answer later name terms (dropped v name k.number)) (enters (dropped w name k.number) (dropped v name k.number) (drops w v p k.number) g))
  known w v p g None = enters w v p g

  pub settling_alike : (w v : State J) → Twin alive a b w v → Sees answer later w.judge w.standings v.standings → AreInOrder (names_of w.standings) → AreInOrder (names_of v.standings) → alive name ≡ true → ((n : List ℕ) → parent_of name ≡ Some n → alive n ≡ true)
      → Alike (λ n. alive n ≡ true) (Part_alike alive a b) (settling answer later name terms w) (settling answer later name terms v)
  unfolding settling
  settling_alike w v t sees order other own above =
      let same : standing_of name w.standings ≡ standing_of name v.standings = sym (live_stand alive name w.standings own) ∙ ap (standing_of name) t.standings ∙ live_stand alive name v.standings own in
      subst (λ (o : Option Known). Alike P R (settling answer later name terms w) (from_standing answer later name terms v o)) same
      (known w v (record { twin = t; sees = sees; order = order; other = other }) (record { own = own; above = above }) (standing_of name w.standings))
