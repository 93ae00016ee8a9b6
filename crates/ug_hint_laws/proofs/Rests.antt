-- A live name that has nothing due: its part leaves all as it was.
use Rattle.std.proofs.Common.{◌≡◌, ℕ, Bool, true, false, not, ◌&&◌, ◌||◌, is_none, cond, List, [], ◌∷◌, ◌++◌, map, Option, Some, None, refl, sym, ◌∙◌, ap, subst, inl, inr, append-nil, true≢false}
use Rattle.std.specs.List.{slice_get}
use Rattle.ug_types.specs.Elements.{Has}
use Rattle.ug_types.specs.Names.{parent_of}
use Rattle.ug_types.proofs.Elements.{distinct_one}
use Rattle.ug_kernel.specs.declared.control.Control.{Control}
use Rattle.ug_kernel.specs.declared.control.Write.{Write}
use Rattle.ug_kernel.specs.declared.device.Device.{Device}
use Rattle.ug_kernel.specs.declared.device.HeldFile.{HeldFile}
use Rattle.ug_kernel.specs.declared.calls.Probe.{Probe}
use Rattle.ug_kernel.specs.declared.calls.FailedCall.{FailedCall}
use Rattle.ug_kernel.specs.Along.{failure_of}
use Rattle.ug_kernel.specs.Calls.{is_probe_failed}
use Rattle.ug_kernel.specs.Called.{IsAlive, IsGoneAt, says_probe}
use Rattle.ug_kernel.specs.Kernel.{Kernel}
use Rattle.ug_kernel.specs.Tree.{Prog, Return, then}
use Rattle.ug_kernel.proofs.Grow.{some_same}
use Rattle.ug_audit.specs.declared.entry.Entry.{Entry}
use Rattle.ug_table.specs.Bring.{wants, is_reject, default_write, default_due, by_default, treating, bringing, writing, valuing, to_value, is_to_go, if_to_go, after_value, close_gone}
use Rattle.ug_table.specs.Laws.{Stand}
use Rattle.ug_table.specs.Settle.{settling, from_standing, after_known, to_mark}
use Rattle.ug_table.specs.Standings.{standing_of, known_of, marked, mark_of, removed_of, same_name}
use Rattle.ug_table.specs.State.{State, Answers, Laters, Terms}
use Rattle.ug_table.specs.declared.standing.Known.{Known}
use Rattle.ug_table.specs.declared.standing.Standing.{Standing}
use Rattle.ug_table.specs.declared.standing.Settled.{Settled}
use Rattle.ug_table.proofs.NamedStandings.{stands_one, is_same, same_is}
use Rattle.ug_table.proofs.Standings.{LiveAs, Value, IsFileOf, file_later, gone_no, marked_other, others_have}
use Rattle.ug_hint_laws.specs.Compared.{RunsStill}
use Rattle.ug_hint_laws.proofs.Frames.{Frame}

-- a live device of the name is as its standing says, and has nothing due
pub record Rests (hub : Option Write) (k : Kernel) (ss : List Standing) (name : List ℕ) : Type 0 where
  pub i : ℕ
  pub live : LiveAs k i name
  pub s : Standing
  pub has : Has ss s
  pub titled : s.name ≡ name
  pub file : IsFileOf k s.held.0 i
  pub settled : s.settled ≡ true
  pub value : live.d.on ≡ wants s.verdict
  pub removed : is_reject s.verdict ≡ true → s.removed ≡ true
  pub defaulted : (what : Write) → parent_of name ≡ None → default_write hub ≡ Some what → s.defaulted ≡ true

-- it stays so behind the part of another name
pub rests_later : (hub : Option Write) (other name : List ℕ) (k : Kernel) (ss : List Standing) (l : Kernel) (rs : List Standing) (next : ℕ) → (name ≡ other → ⊥) → Frame other k ss l rs next → Rests hub k ss name → Rests hub l rs name
rests_later hub other name k ss l rs next ne f r =
    let live = f.kin.forth r.i name r.live in
    let v : Value l r.i (wants r.s.verdict) = f.others r.i (wants r.s.verdict) r.live.d r.live.live.at (λ e. ne (sym r.live.named ∙ e)) (r.live.d, r.live.live.at, r.value) in
    record {
      i = r.i;
      live = live;
      s = r.s;
      has = others_have other ss rs r.s (sym f.rest) r.has (λ e. ne (sym r.titled ∙ e));
      titled = r.titled;
      file = file_later k l r.s.held.0 r.i f.grows r.file;
      settled = r.settled;
      value = ap (λ (d : Device). d.on) (some_same (slice_get l.devices r.i) live.d v.0 live.live.at v.1) ∙ v.2;
      removed = r.removed;
      defaulted = r.defaulted;
    }

-- there is nothing to write

pub none_to_write : (hub : Option Write) (name : List ℕ) (s : Standing) → ((what : Write) → parent_of name ≡ None → default_write hub ≡ Some what → s.defaulted ≡ true) → default_due hub name (known_of s) ≡ None
none_to_write hub name s h = by (parent_of name) refl (default_write hub) refl
  where
    by : (o : Option (List ℕ)) → parent_of name ≡ o → (w : Option Write) → default_write hub ≡ w → cond (is_none o && not s.defaulted) w None ≡ None
    by (Some p) e w f = refl
    by None e None f = flat None (not s.defaulted)
      where
        flat : (w : Option Write) (b : Bool) → cond b w w ≡ w
        flat w true = refl
        flat w false = refl
    by None e (Some what) f = ap (λ (b : Bool). cond (not b) (Some what) None) (h what e f)

none_to_go : (s : Standing) → (is_reject s.verdict ≡ true → s.removed ≡ true) → is_to_go (known_of s) ≡ false
none_to_go s h = by (is_reject s.verdict) refl
  where
    by : (b : Bool) → is_reject s.verdict ≡ b → (b && not s.removed) ≡ false
    by true e = ap not (h e)
    by false e = refl

treats_none : (hub : Option Write) (name : List ℕ) (s : Standing) (on : Bool) (es : List Entry) → default_due hub name (known_of s) ≡ None → is_to_go (known_of s) ≡ false → on ≡ wants s.verdict → treating hub name (known_of s) on es ≡ Return (Settled.Stands, false, es)
unfolding treating bringing writing valuing
treats_none hub name s on es due go is =
    let k : Known = known_of s in
    let value : (b : Bool) → to_value name k es b b ≡ Return (Settled.Stands, es) = λ b. elim b as (λ (v : Bool). to_value name k es v v ≡ Return (Settled.Stands, es)) [ true ↦ refl | false ↦ refl ] in
    let one : valuing name k on es ≡ Return (Settled.Stands, es) = ap (λ (b : Bool). to_value name k es (wants s.verdict) b) is ∙ value (wants s.verdict) in
    let two : writing name k on es ≡ Return (Settled.Stands, es) = ap (λ (p : Prog (Settled × List Entry)). then p (λ q. after_value name k q.1 q.0)) one ∙ ap (λ (b : Bool). if_to_go name k es b) go in
    let three : bringing name k on es ≡ Return (Settled.Stands, es) = ap (λ (p : Prog (Settled × List Entry)). then p (λ q. close_gone k.held.0 q.1 q.0)) two in
    ap (λ (o : Option Write). by_default name k on es o) due ∙ ap (λ (p : Prog (Settled × List Entry)). then p (λ q. Return (q.0, false, q.1))) three

-- nor to mark

same_map : (f : Standing → Standing) (ss : List Standing) → ((s : Standing) → Has ss s → f s ≡ s) → map f ss ≡ ss
same_map f [] h = refl
same_map f (s ∷ ss) h = ap (λ (x : Standing). x ∷ map f ss) (h s (inl refl)) ∙ ap (λ (v : List Standing). s ∷ v) (same_map f ss (λ t a. h t (inr a)))

stays_marked : (name : List ℕ) (s : Standing) → s.settled ≡ true → (is_reject s.verdict ≡ true → s.removed ≡ true) → marked name true s ≡ s
stays_marked name s settled removed =
    let mark : mark_of name true s ≡ s.settled = one (same_name s.name name) in
    let gone : removed_of name true s ≡ s.removed = two (same_name s.name name) in
    ap (λ (b : Bool). let v : Standing = record s { settled = b; removed = removed_of name true s } in v) mark
    ∙ ap (λ (b : Bool). let v : Standing = record s { settled = s.settled; removed = b } in v) gone
  where
    one : (b : Bool) → cond b true s.settled ≡ s.settled
    one true = sym settled
    one false = refl

    by : (b c : Bool) → (c ≡ true → b ≡ true) → (b || (true && c)) ≡ b
    by true c h = refl
    by false true h = sym (h refl)
    by false false h = refl

    two : (b : Bool) → cond b (s.removed || (true && is_reject s.verdict)) s.removed ≡ s.removed
    two true = by s.removed (is_reject s.verdict) removed
    two false = refl

-- the part

pub record Untouched {J : Type 0} (k : Kernel) (w : State J) (l : Kernel) (v : State J) : Type 0 where
  pub kernel : l ≡ k
  pub state : v ≡ w

pub part_rests : {J : Type 0} (answer : Answers J) (later : Laters J) (name : List ℕ) (terms : Terms) (k : Kernel) (w : State J) (p : Settled × State J) (l : Kernel) → Stand k w.standings w.next → Rests terms.hub k w.standings name → RunsStill k (settling answer later name terms w) p l → Untouched k w l p.1
unfolding settling
part_rests {J} answer later name terms k w p l stand r run =
    let is : standing_of name w.standings ≡ Some (known_of r.s) = stands_one name w.standings r.s stand.names r.has r.titled in
    let known : RunsStill k (from_standing answer later name terms w (Some (known_of r.s))) p l = subst (λ (o : Option Known). RunsStill k (from_standing answer later name terms w o) p l) is run in
    by known.0.answer (failure_of known.0) known.1 known.2.does known.2.says known.2.calm known.3
  where
    marks : map (marked name true) w.standings ≡ w.standings
    marks = same_map (marked name true) w.standings (λ t a. which t a (same_name t.name name) refl)
      where
        which : (t : Standing) → Has w.standings t → (b : Bool) → same_name t.name name ≡ b → marked name true t ≡ t
        which t a true e =
            let one : r.s ≡ t = distinct_one (λ (x : Standing). x.name) w.standings r.s t stand.names r.has a (r.titled ∙ sym (same_is t.name name e)) in
            subst (λ (x : Standing). marked name true x ≡ x) one (stays_marked name r.s r.settled r.removed)
        which t a false e = marked_other name true t (λ f. true≢false (sym (is_same t.name name f) ∙ e))

    whole : record w { standings = map (marked name true) w.standings; entries = w.entries ++ [] } ≡ w
    whole = ap (λ (ss : List Standing). let v : State J = record w { standings = ss; entries = w.entries ++ [] } in v) marks ∙ ap (λ (es : List Entry). let v : State J = record w { entries = es } in v) (append-nil w.entries)

    alive : (on : Bool) (m : Kernel) → m ≡ k → IsAlive r.s.held.0 on k → RunsStill m (then (treating terms.hub name (known_of r.s) on w.entries) (to_mark w name)) p l → Untouched k w l p.1
    alive on m e a h =
        let file : a.holds.file ≡ record { device = r.i; control = Control.Authorized } = some_same (slice_get k.held r.s.held.0) a.holds.file (record { device = r.i; control = Control.Authorized }) a.holds.at r.file in
        let at : a.i ≡ r.i = sym a.holds.is ∙ ap (λ (v : HeldFile). v.device) file in
        let d : a.d ≡ r.live.d = some_same (slice_get k.devices r.i) a.d r.live.d (subst (λ (j : ℕ). slice_get k.devices j ≡ Some a.d) at a.live.at) r.live.live.at in
        let value : on ≡ wants r.s.verdict = sym a.value ∙ ap (λ (v : Device). v.on) d ∙ r.value in
        let none = treats_none terms.hub name r.s on w.entries (none_to_write terms.hub name r.s r.defaulted) (none_to_go r.s r.removed) value in
        let last : RunsStill m (to_mark w name (Settled.Stands, false, w.entries)) p l = subst (λ (q : Prog (Settled × Bool × List Entry)). RunsStill m (then q (to_mark w name)) p l) none h in
        record { kernel = last.1 ∙ e; state = ap (λ (q : Settled × State J). q.1) last.0 ∙ whole }

    by : (answered : Probe) (failed : FailedCall) (m : Kernel) → m ≡ k → says_probe r.s.held.0 answered k m → cond (is_probe_failed answered) (failed ∷ []) [] ≡ [] → RunsStill m (after_known answer later name terms w (known_of r.s) answered failed) p l → Untouched k w l p.1
    by (Probe.Alive on) failed m e says calm h = alive on m e says h
    by Probe.Gone failed m e says calm h = absurd (gone_no k r.s.held.0 r.i name (subst (IsGoneAt r.s.held.0) e says) r.file r.live)
    by Probe.Failed failed m e says calm h = let none : ⊥ = cc in absurd none
