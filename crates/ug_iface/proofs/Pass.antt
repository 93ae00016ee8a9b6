-- What a pass tells.
use Rattle.std.proofs.Common.{◌≡◌, ℕ, zero, suc, ◌<◌, Bool, true, false, List, [], ◌∷◌, ◌++◌, length, Option, Some, inl, inr, ◌⊎◌, refl, sym, ◌∙◌, ap, subst, arith}
use Rattle.std.proofs.lemmas.List.{append-nil}
use Rattle.std.proofs.lemmas.List.Sorted.{Contains-permutation, IsPermutation-sym}
use Rattle.std.specs.List.{Contains}
use Rattle.std.specs.List.Sorted.{IsPermutation}
use Rattle.std.specs.declared.cmp.Ordering.{Ordering}
use Rattle.ug_types.specs.Elements.{Has, AllDistinct}
use Rattle.ug_types.specs.declared.record.Triple.{Triple}
use Rattle.ug_kernel.proofs.Grow.{quiet_grows}
use Rattle.ug_kernel.proofs.HeldFiles.{live_before}
use Rattle.ug_iface.specs.declared.name.IfaceName.{IfaceName}
use Rattle.ug_iface.specs.declared.calls.IfaceListing.{IfaceListing}
use Rattle.ug_iface.specs.declared.calls.IfaceListing.TheVariants as listing
use Rattle.ug_iface.specs.declared.settle.Begun.TheVariants.{Walks, Ends}
use Rattle.ug_iface.specs.declared.settle.IfaceEntry.{IfaceEntry}
use Rattle.ug_iface.specs.declared.settle.Passed.{Passed}
use Rattle.ug_iface.specs.declared.settle.Passed.TheVariants as passed
use Rattle.ug_iface.specs.Bus.{Bus, IsSoundBus}
use Rattle.ug_iface.specs.Calls.{IfaceCall, IfaceAnswer, Names_of, AllOf}
use Rattle.ug_iface.specs.Called.{AreIfacesListed, IfaceCalled, IfaceFollows}
use Rattle.ug_iface.specs.Grows.{Still}
use Rattle.ug_iface.specs.Named.{is_named_off}
use Rattle.ug_iface.specs.Settle.{Aim, after_listing, beginning, walking, RunsPass, Ended, Walked}
use Rattle.ug_iface.specs.Tree.{RunsIfaces, bus_calls}
use Rattle.ug_iface.specs.Laws.{IsHeldOf, IsGoneDevice, Over, DidNothing, PassSays, IsPass}
use Rattle.ug_iface.proofs.Distinct.{still_distinct}
use Rattle.ug_iface.proofs.Grow.{still_grows, grows_trans, called_still}
use Rattle.ug_iface.proofs.Lived.{iface_cut}
use Rattle.ug_iface.proofs.Told.{told_run}
use Rattle.ug_iface.proofs.Whole.{own_on, walked}

has_contains : {X : Type 0} (xs : List X) (x : X) → Has xs x → Contains xs x
has_contains [] x h = absurd h
has_contains (y ∷ ys) x (inl e) = (0, omega arith, e)
has_contains (y ∷ ys) x (inr h) = let c = has_contains ys x h in (suc c.0, omega (arith, c.1), c.2)

contains_has : {X : Type 0} (xs : List X) (x : X) (k : ℕ) → k < length xs → Rattle.std.specs.List.slice_index_or xs k x ≡ x → Has xs x
contains_has [] x k lt e = absurd (let none : ⊥ = omega (arith, lt) in none)
contains_has (y ∷ ys) x zero lt e = inl e
contains_has (y ∷ ys) x (suc k) lt e = inr (contains_has ys x k (omega (arith, lt)) e)

-- sorting loses no name and adds none
permuted : {X : Type 0} (xs ys : List X) → IsPermutation xs ys → (x : X) → Has xs x → Has ys x
permuted xs ys p x h = let c = Contains-permutation xs ys x p (has_contains xs x h) in contains_has ys x c.0 c.1 c.2

-- ---- the listing

module _ (device : List ℕ) (held i : ℕ) (b : Bus) (own : IsHeldOf b.kernel device held i) where
  -- the pass ends with the listing
  pub record EndsSo (c : Bus) (end : Passed) : Type 0 where
    pub sound : IsSoundBus c
    pub still : Still b c
    pub not_done : end ≡ passed.Done → ⊥
    pub gone : end ≡ passed.Gone → IsGoneDevice i c

  -- or has names to walk over
  pub record WalksSo (c : Bus) (names : List IfaceName) : Type 0 where
    pub sound : IsSoundBus c
    pub still : Still b c
    pub listed : AreIfacesListed device names b c
    pub named : AllOf device names
    pub distinct : AllDistinct names

  none_of : {T : Type 0} → ⊥ → T
  none_of h = absurd h

  ends_as : (u c : Bus) (end answer : Passed) → EndsSo u answer → (Ends end ≡ Ends answer) × (c ≡ u) → EndsSo c end
  ends_as u c end answer s h =
      let e : answer ≡ end = cc in
      subst (λ (v : Bus). EndsSo v end) (sym h.1) (subst (λ (v : Passed). EndsSo u v) e s)

  ended : (answer : IfaceListing) (number count : ℕ) (u c : Bus) (end : Passed) → IfaceCalled (Names_of device) (record { answer = answer; number = number; count = count }) b u → RunsIfaces bus_calls u (after_listing answer count) (Ends end) c → EndsSo c end
  ended (listing.Names names) number count u c end call h = by h.0 h.1
    where
      still_so : Still b u
      still_so = called_still (Names_of device) (record { answer = listing.Names names; number = number; count = count }) b u tt call

      by : (room : Bool) → RunsIfaces bus_calls u (Rattle.ug_iface.specs.Settle.if_entry_room (listing.Names names) names room) (Ends end) c → EndsSo c end
      by true k = let e : Ends end ≡ Walks names = k.0 in let none : ⊥ = cc in absurd none
      by false k = ends_as u c end passed.Memory (record { sound = call.sound; still = still_so; not_done = λ e. let none : ⊥ = cc in none; gone = λ e. let none : ⊥ = cc in absurd none }) k
  ended listing.Absent number count u c end call h =
      let s = called_still (Names_of device) (record { answer = listing.Absent; number = number; count = count }) b u tt call in
      let gone : IsGoneDevice i u = λ e live.
      let p = live_before b.kernel u.kernel i own.d e (quiet_grows b.kernel u.kernel s.kernel) own.at live in
      call.says i own.d (record { entry = p.0; exit = (e, live) }) own.named in
      ends_as u c end passed.Gone (record { sound = call.sound; still = s; not_done = λ e. let none : ⊥ = cc in none; gone = λ e. gone }) h
  ended listing.Failed number count u c end call h =
      ends_as u c end (passed.Fault count) (record { sound = call.sound; still = called_still (Names_of device) (record { answer = listing.Failed; number = number; count = count }) b u tt call; not_done = λ e. let none : ⊥ = cc in none; gone = λ e. let none : ⊥ = cc in absurd none }) h
  ended listing.Memory number count u c end call h =
      ends_as u c end passed.Memory (record { sound = call.sound; still = called_still (Names_of device) (record { answer = listing.Memory; number = number; count = count }) b u tt call; not_done = λ e. let none : ⊥ = cc in none; gone = λ e. let none : ⊥ = cc in absurd none }) h

  not_walks : {T : Type 0} (names : List IfaceName) (end : Passed) → Walks names ≡ Ends end → T
  not_walks names end e = let none : ⊥ = cc in absurd none

  walks : (answer : IfaceListing) (number count : ℕ) (u c : Bus) (names : List IfaceName) → IfaceCalled (Names_of device) (record { answer = answer; number = number; count = count }) b u → RunsIfaces bus_calls u (after_listing answer count) (Walks names) c → WalksSo c names
  walks (listing.Names all) number count u c names call h = by h.0 h.1
    where
      so : WalksSo u all
      so = record { sound = call.sound; still = called_still (Names_of device) (record { answer = listing.Names all; number = number; count = count }) b u tt call; listed = call.says.0; named = call.says.1; distinct = call.says.2 }

      by : (room : Bool) → RunsIfaces bus_calls u (Rattle.ug_iface.specs.Settle.if_entry_room (listing.Names all) all room) (Walks names) c → WalksSo c names
      by true k =
          let e : all ≡ names = let w : Walks names ≡ Walks all = k.0 in cc in
          subst (λ (v : Bus). WalksSo v names) (sym k.1) (subst (λ (v : List IfaceName). WalksSo u v) e so)
      by false k = not_walks names passed.Memory k.0
  walks listing.Absent number count u c names call h = not_walks names passed.Gone h.0
  walks listing.Failed number count u c names call h = not_walks names (passed.Fault count) h.0
  walks listing.Memory number count u c names call h = not_walks names passed.Memory h.0

-- ---- the pass

nothing_of : (end : Passed) (b c : Bus) → Still b c → DidNothing end [] b c
nothing_of passed.Done b c s = tt
nothing_of passed.Gone b c s = tt
nothing_of (passed.Fault count) b c s = (refl, s)
nothing_of passed.Memory b c s = (refl, s)

pub record IfaceSays (aim : Aim) (i : ℕ) (b c : Bus) (es : List IfaceEntry) (end : Passed) (out : List IfaceEntry) : Type 0 where
  pub added : List IfaceEntry
  pub is : out ≡ es ++ added
  pub says : PassSays aim i b c end added

ended_says : (aim : Aim) (i : ℕ) (b c : Bus) (es : List IfaceEntry) (end : Passed) → IsHeldOf b.kernel aim.device.via_port aim.held i → RunsIfaces bus_calls b (beginning aim.device.via_port) (Ends end) c → IfaceSays aim i b c es end es
ended_says aim i b c es end own h =
    let e = ended aim.device.via_port aim.held i b own h.0.answer h.0.number h.0.count h.1 c end h.2 h.3 in
    record {
      added = [];
      is = sym (append-nil es);
      says = record {
        sound = e.sound;
        grows = still_grows b c e.still;
        more = [];
        log = e.still.log ∙ sym (append-nil b.log);
        names = [];
        named = λ n m. absurd m;
        distinct = tt;
        told = Over [];
        off = λ d. absurd (e.not_done d);
        gone = e.gone;
        nothing = nothing_of end b c e.still;
      };
    }

nothing_walked : (end : Passed) (es : List IfaceEntry) (b c : Bus) → (end ≡ passed.Done) ⊎ (end ≡ passed.Gone) → DidNothing end es b c
nothing_walked end es b c (inl e) = subst (λ (v : Passed). DidNothing v es b c) (sym e) tt
nothing_walked end es b c (inr e) = subst (λ (v : Passed). DidNothing v es b c) (sym e) tt

walked_says : (aim : Aim) (i : ℕ) (b u c : Bus) (es : List IfaceEntry) (names order : List IfaceName) (end : Passed) (out : List IfaceEntry) → IsHeldOf b.kernel aim.device.via_port aim.held i
    → RunsIfaces bus_calls b (beginning aim.device.via_port) (Walks names) u → IsPermutation names order → RunsIfaces bus_calls u (walking aim order es) (end, out) c → IfaceSays aim i b c es end out
walked_says aim i b u c es names order end out own h p run =
    let w = walks aim.device.via_port aim.held i b own h.0.answer h.0.number h.0.count h.1 u names h.2 h.3 in
    let all : AllOf aim.device.via_port order = λ n m. w.named n (permuted order names (IsPermutation-sym names order p) n m) in
    let g = still_grows b u w.still in
    let k = walked aim i aim.device.via_port order u c es (end, out) w.sound all (own_on aim.device.via_port aim.held i b u g own) run in
    record {
      added = k.added;
      is = k.is;
      says = record {
        sound = k.law.sound;
        grows = grows_trans b u c g k.law.grows;
        more = k.law.more;
        log = k.law.log ∙ ap (λ (l : List ℕ). l ++ k.law.more) w.still.log;
        names = order;
        named = all;
        distinct = still_distinct names order p w.distinct;
        told = k.law.told;
        off = λ done name of j y lived n.
            let cut = iface_cut b u c name j y w.sound g k.law.grows lived in
            let z = cut.1 in
            k.law.off done name (permuted names order p name (w.listed name j y of cut.0)) j z.0 z.1 (ap (λ (t : Triple). is_named_off aim.rules aim.device t) z.2.triple ∙ n);
        gone = k.law.gone;
        nothing = nothing_walked end k.added b c k.law.ends;
      };
    }

pub is_pass : {S : Type 0} (serves : S → (call : IfaceCall) → IfaceAnswer call → S → Type 0) (bus : S → Option Bus) (did : (s : S) (call : IfaceCall) (answer : IfaceAnswer call) (t : S) (c : Bus) → serves s call answer t → bus t ≡ Some c → IfaceFollows call answer (bus s) c)
    (cmp : IfaceName → IfaceName → Ordering) (aim : Aim) (s t : S) (es out : List IfaceEntry) (end : Passed) → RunsPass serves cmp aim s es end out t → IsPass bus s aim es end out t
is_pass serves bus did cmp aim s t es out end (Ended last v run) c e =
    let m = told_run serves bus did (beginning aim.device.via_port) s (Ends last) v c run e in
    (m.bus, m.was, λ k i own. let x = ended_says aim i m.bus c es last own (m.run k).0 in (x.added, x.is, x.says))
is_pass serves bus did cmp aim s t es out end (Walked names order u last more v run p sorted rest) c e =
    let n = told_run serves bus did (walking aim order es) u (last, more) v c rest e in
    let m = told_run serves bus did (beginning aim.device.via_port) s (Walks names) u n.bus run n.was in (
      m.bus,
      m.was,
      λ k i own.
          let first = m.run k in
          let x = walked_says aim i m.bus n.bus c es names order last more own first.0 p (n.run first.1).0 in
          (x.added, x.is, x.says),
    )
