-- The settling of given names ends as a sweep does.
use Rattle.std.proofs.Common.{◌≡◌, ℕ, zero, suc, Bool, true, false, not, ◌&&◌, ◌||◌, cond, List, [], ◌∷◌, ◌++◌, ◌⊎◌, inl, inr, refl, sym, ◌∙◌, ap, subst, append_assoc, true≢false}
use Rattle.std.proofs.lemmas.Option.{none-some, same_Some}
use Rattle.std.proofs.lemmas.List.Sorted.{IsPermutation-trans, IsPermutation-append_right, IsPermutation-append_left, IsPermutation-sym}
use Rattle.std.specs.List.{flat_map}
use Rattle.std.specs.List.Sorted.{IsPermutation}
use Rattle.ug_types.specs.Elements.{Has, AllDistinct}
use Rattle.ug_types.specs.Names.{parent_of}
use Rattle.ug_types.specs.Sweep.{in_sweep_order}
use Rattle.ug_types.proofs.Elements.{filter_has, has_filter}
use Rattle.ug_types.proofs.Sorting.{to_sweep_order}
use Rattle.ug_kernel.specs.declared.device.Device.{Device}
use Rattle.ug_kernel.specs.declared.calls.Listing.{Listing}
use Rattle.ug_kernel.specs.declared.calls.FailedCall.{FailedCall}
use Rattle.ug_kernel.specs.Along.{failure_of}
use Rattle.ug_kernel.specs.Calls.{Close, failed_listing}
use Rattle.ug_kernel.specs.Called.{says_listing}
use Rattle.ug_kernel.specs.Kernel.{Kernel, Live}
use Rattle.ug_kernel.specs.Tree.{Prog, Ask}
use Rattle.ug_audit.specs.declared.entry.Entry.{Entry}
use Rattle.ug_table.specs.Standings.{lists, same_name, farewells}
use Rattle.ug_table.specs.State.{State, Answers, Laters, terms_for}
use Rattle.ug_table.specs.Sweep.{settling_all, sweeping, after_list, if_room, closing_unlisted, marked_listed, parted}
use Rattle.ug_table.specs.declared.standing.Standing.{Standing}
use Rattle.ug_table.proofs.Lived.{stand_files}
use Rattle.ug_table.proofs.Marks.{sweep_in_order}
use Rattle.ug_table.proofs.NamedStandings.{same_is, is_same, listed_is, lists_has}
use Rattle.ug_table.proofs.Standings.{open_named}
use Rattle.ug_hint_laws.specs.Compared.{RunsStill, IsOfGone, HasNothingDue, AreEnough, EndsAlike, ComparesWithSweep, departure_in, other_than_departure}
use Rattle.ug_hint_laws.proofs.Alike.{Lives}
use Rattle.ug_hint_laws.proofs.Departures.{is_dead, flat_append, told_gone, told_other, split_dead, farewells_are, absorbed}
use Rattle.ug_hint_laws.proofs.Frames.{stand_filter}
use Rattle.ug_hint_laws.proofs.Gone.{departures}
use Rattle.ug_hint_laws.proofs.Kin.{live_as}
use Rattle.ug_hint_laws.proofs.Rests.{Rests}
use Rattle.ug_hint_laws.proofs.Still.{Cut, still_cut}
use Rattle.ug_hint_laws.proofs.Walk.{Ready, Ended, walk, either_way}

-- whether a live device has the name

is_that : List ℕ → Device → Bool
is_that name d = not d.gone && same_name d.name name

has_live : List Device → List ℕ → Bool
has_live [] name = false
has_live (d ∷ ds) name = is_that name d || has_live ds name

record At (ds : List Device) (name : List ℕ) : Type 0 where
  i : ℕ
  d : Device
  live : Live ds i d
  named : d.name ≡ name

that_is : (name : List ℕ) (d : Device) → is_that name d ≡ true → (d.gone ≡ false) × (d.name ≡ name)
unfolding is_that
that_is name d e = by d.gone refl e
  where
    by : (b : Bool) → d.gone ≡ b → (not b && same_name d.name name) ≡ true → (d.gone ≡ false) × (d.name ≡ name)
    by true f g = absurd (true≢false (sym g))
    by false f g = (f, same_is d.name name g)

is_that_one : (name : List ℕ) (d : Device) → d.gone ≡ false → d.name ≡ name → is_that name d ≡ true
unfolding is_that
is_that_one name d e f = ap (λ (b : Bool). not b && same_name d.name name) e ∙ is_same d.name name f

has_at : (ds : List Device) (name : List ℕ) → has_live ds name ≡ true → At ds name
unfolding has_live
has_at [] name e = absurd (true≢false (sym e))
has_at (d ∷ ds) name e = by (has_at ds name) (is_that name d) refl e
  where
    by : (has_live ds name ≡ true → At ds name) → (b : Bool) → is_that name d ≡ b → (b || has_live ds name) ≡ true → At (d ∷ ds) name
    by rest true f g = let t = that_is name d f in record { i = 0; d = d; live = record { at = refl; here = t.0 }; named = t.1 }
    by rest false f g = let a = rest g in record { i = suc a.i; d = a.d; live = record { at = a.live.at; here = a.live.here }; named = a.named }

at_has : (ds : List Device) (name : List ℕ) (i : ℕ) (d : Device) → Live ds i d → d.name ≡ name → has_live ds name ≡ true
unfolding has_live
at_has [] name i d live e = absurd (none-some d live.at)
at_has (x ∷ ds) name zero d live e =
    let is : x ≡ d = same_Some x d live.at in
    ap (λ (b : Bool). b || has_live ds name) (is_that_one name x (ap (λ (v : Device). v.gone) is ∙ live.here) (ap (λ (v : Device). v.name) is ∙ e))
at_has (x ∷ ds) name (suc i) d live e = by (is_that name x) (at_has ds name i d (record { at = live.at; here = live.here }) e)
  where
    by : (b : Bool) → has_live ds name ≡ true → (b || has_live ds name) ≡ true
    by true f = refl
    by false f = f

-- closing leaves the kernel
closing_still : (names : List (List ℕ)) (ss : List Standing) (k : Kernel) (r : Unit {0}) (l : Kernel) → RunsStill k (closing_unlisted names ss) r l → l ≡ k
closing_still names [] k r l h = h.1
closing_still names (s ∷ ss) k r l h = by (closing_unlisted names ss) (closing_still names ss) (lists names s.name) h
  where
    by : (p : Prog (Unit {0})) → ((m : Kernel) (q : Unit {0}) (n : Kernel) → RunsStill m p q n → n ≡ m) → (b : Bool) → RunsStill k (cond b p (Ask (Close s.held.0) (λ closed. p))) r l → l ≡ k
    by p rest true g = rest k r l g
    by p rest false g = rest g.1 r l g.3 ∙ g.2.does

module _ {J : Type 0} (answer : Answers J) (later : Laters J) (names : List (List ℕ)) (k : Kernel) (w : State J) (enough : AreEnough answer later names k w) where
  abbrev alive : List ℕ → Bool
  alive n = has_live k.devices n

  lives : (n : List ℕ) → alive n ≡ true → Lives k n
  lives n e = let a = has_at k.devices n e in record { i = a.i; d = a.d; live = a.live; named = a.named }

  dead : (n : List ℕ) → alive n ≡ false → Lives k n → ⊥
  dead n e h = true≢false (sym (at_has k.devices n h.i h.d h.live h.named) ∙ e)

  -- a standing of a name that no live device bears
  of_gone : (s : Standing) → Has w.standings s → alive s.name ≡ false → IsOfGone k s
  of_gone s a e =
      let x = enough.stand.devices s a in
      let gone : x.1.d.gone ≡ true = elim (either_way x.1.d.gone) [
        | inl f ↦ f
        | inr f ↦ absurd (dead s.name e (record { i = x.0; d = x.1.d; live = record { at = x.1.device; here = f }; named = x.1.named }))
      ] in
      (x.0, x.1.file, (x.1.d, x.1.device, gone))

  module _ (found : List (List ℕ)) (all : (n : List ℕ) → alive n ≡ true → Has found n) (distinct : AllDistinct found) where
    abbrev begun : State J
    begun = marked_listed (parted (in_sweep_order found) w)

    listed_all : (n : List ℕ) → alive n ≡ true → Has (in_sweep_order found) n
    listed_all n e = to_sweep_order found n (all n e)

    all_of : (s : Standing) → Has begun.standings s → Has w.standings s
    all_of s a = (filter_has (λ (t : Standing). lists (in_sweep_order found) t.name) w.standings s a).0

    rests : (n : List ℕ) → alive n ≡ true → Has (in_sweep_order found) n → (Has names n → ⊥) → Rests w.hub k begun.standings n
    rests n e a absent =
        let h = lives n e in
        let due : HasNothingDue k w h.i h.d = enough.elsewhere h.i h.d h.live (λ b. absent (subst (Has names) h.named b)) in
        let s : Standing = due.standing.s in
        let is : s.name ≡ n = open_named k s.name n s.held.0 h.i (stand_files k w.standings w.next enough.stand s due.standing.has) due.standing.file (live_as k n h) in
        record {
          i = h.i;
          live = record { d = h.d; live = h.live; named = h.named };
          s = s;
          has = has_filter (λ (t : Standing). lists (in_sweep_order found) t.name) w.standings s due.standing.has (ap (lists (in_sweep_order found)) is ∙ listed_is (in_sweep_order found) n a);
          titled = is;
          file = due.standing.file;
          settled = due.settled;
          value = due.value;
          removed = due.removed;
          defaulted = λ what root d. due.defaulted what (ap parent_of h.named ∙ root) d;
        }

    sees_all : (s : Standing) → Has w.standings s → ((t : Standing) → Has w.standings t → IsOfGone k t → (j : ℕ) × (d : Device) × Live k.devices j d × (d.name ≡ t.name)) → alive s.name ≡ true
    sees_all s a borne = elim (either_way (alive s.name)) [
      | inl e ↦ e
      | inr e ↦ let b = borne s a (of_gone s a e) in absurd (dead s.name e (record { i = b.0; d = b.1; live = b.2; named = b.3 }))
    ]

    ready : Ready alive answer later (terms_for w) (in_sweep_order found) names k begun w
    ready = record {
      sound = enough.sound;
      lives = lives;
      dead = dead;
      stand = stand_filter k (λ (t : Standing). lists (in_sweep_order found) t.name) w.standings w.next enough.stand;
      stood = enough.stand;
      order = sweep_in_order found distinct;
      other = enough.order;
      same = absorbed (λ s. alive s.name) (λ s. lists (in_sweep_order found) s.name) (λ s e. listed_is (in_sweep_order found) s.name (listed_all s.name e)) w.standings;
      next = refl;
      listed = sym enough.listed;
      judge = refl;
      hub = refl;
      left = λ s a e. lists_has (in_sweep_order found) s.name (filter_has (λ (t : Standing). lists (in_sweep_order found) t.name) w.standings s a).1;
      remains = λ s a e. enough.gone s a (of_gone s a e);
      sees = elim enough.unseen [ inl none ↦ inl none | inr borne ↦ inr (λ s a. sees_all s (all_of s a) borne, λ s a. sees_all s a borne) ];
      all = λ n e a. listed_all n e;
      elsewhere = rests;
    }

    ended : (l : Kernel) (v : State J) (m : Kernel) (u : State J) → Ended alive answer later (terms_for w) begun w l v m u → EndsAlike w l v m u
    ended l v m u e =
        let order : List (List ℕ) = in_sweep_order found in
        let bye : List Entry = farewells order w.standings in
        let away : Standing → Bool = λ s. not (lists order s.name) in
        let is : bye ≡ departures away w.standings = farewells_are order w.standings in
        let bye_gone : flat_map departure_in bye ≡ departures away w.standings = ap (flat_map departure_in) is ∙ told_gone away w.standings in
        let bye_other : flat_map other_than_departure bye ≡ [] = ap (flat_map other_than_departure) is ∙ told_other away w.standings in
        let rest : List Entry = departures (is_dead alive) begun.standings in
        let whole : List Entry = departures (is_dead alive) w.standings in
        let own : List Entry = departures away w.standings in
        let split : IsPermutation whole (own ++ rest) = split_dead alive away (λ s. lists order s.name) (λ s. twice (lists order s.name)) (λ s f. unlisted s (either_way (alive s.name)) f) w.standings in
        let one : IsPermutation (flat_map departure_in e.fs) ((own ++ rest) ++ e.common) = IsPermutation-trans (flat_map departure_in e.fs) (whole ++ e.common) ((own ++ rest) ++ e.common) e.went (IsPermutation-append_left e.common whole (own ++ rest) split) in
        let two : IsPermutation (flat_map departure_in e.fs) (own ++ (rest ++ e.common)) = subst (IsPermutation (flat_map departure_in e.fs)) (append_assoc own rest e.common) one in
        let three : IsPermutation (own ++ (rest ++ e.common)) (own ++ flat_map departure_in e.es) = IsPermutation-append_right own (rest ++ e.common) (flat_map departure_in e.es) (IsPermutation-sym (flat_map departure_in e.es) (rest ++ e.common) e.gone) in
        let four : own ++ flat_map departure_in e.es ≡ flat_map departure_in (bye ++ e.es) = ap (λ (v : List Entry). v ++ flat_map departure_in e.es) (sym bye_gone) ∙ sym (flat_append departure_in bye e.es) in
        record {
          standings = e.standings;
          next = e.next;
          judge = e.judge;
          listed = e.listed;
          kernel = e.kernel;
          swept = bye ++ e.es;
          told = e.fs;
          after_sweep = e.swept ∙ append_assoc w.entries bye e.es;
          after_names = e.told;
          others = e.others ∙ ap (λ (v : List Entry). v ++ flat_map other_than_departure e.es) (sym bye_other) ∙ sym (flat_append other_than_departure bye e.es);
          gone = subst (IsPermutation (flat_map departure_in e.fs)) four (IsPermutation-trans (flat_map departure_in e.fs) (own ++ (rest ++ e.common)) (own ++ flat_map departure_in e.es) two three);
        }
      where
        twice : (b : Bool) → b ≡ not (not b)
        twice true = refl
        twice false = refl

        unlisted : (s : Standing) → (alive s.name ≡ true) ⊎ (alive s.name ≡ false) → not (lists (in_sweep_order found) s.name) ≡ true → alive s.name ≡ false
        unlisted s (inl f) g = absurd (true≢false (sym g ∙ ap not (listed_is (in_sweep_order found) s.name (listed_all s.name f))))
        unlisted s (inr f) g = f

    compared : (l : Kernel) (v : State J) (m : Kernel) (u : State J) (n : Kernel) → n ≡ k → RunsStill n (if_room answer later (in_sweep_order found) w true) v l → RunsStill k (settling_all answer later names (terms_for w) w) u m → EndsAlike w l v m u
    compared l v m u n e g h =
        let order : List (List ℕ) = in_sweep_order found in
        let c : Cut n (closing_unlisted order w.standings) (λ closed. settling_all answer later order (terms_for w) begun) v l =
        still_cut (closing_unlisted order w.standings) (λ (closed : Unit {0}). settling_all answer later order (terms_for w) begun) n v l g in
        let same : c.m ≡ k = closing_still order w.standings n c.a c.m c.first ∙ e in
        let last : RunsStill k (settling_all answer later order (terms_for w) begun) v l = subst (λ (x : Kernel). RunsStill x (settling_all answer later order (terms_for w) begun) v l) same c.last in
        ended l v m u (walk alive answer later (terms_for w) order names k begun w ready l v m u last h)

  from_list : (told : Listing) (failed : FailedCall) (n : Kernel) → n ≡ k → says_listing told k n → cond (failed_listing told) (failed ∷ []) [] ≡ [] → (told ≡ Listing.Memory → ⊥) → (l : Kernel) (v : State J) (m : Kernel) (u : State J)
      → RunsStill n (after_list answer later w told failed) v l → RunsStill k (settling_all answer later names (terms_for w) w) u m → EndsAlike w l v m u
  from_list (Listing.Names found) failed n e says calm granted l v m u g h =
      let all : (t : List ℕ) → alive t ≡ true → Has found t = λ t f.
      let x = lives t f in
      let live : Live n.devices x.i x.d = subst (λ (y : Kernel). Live y.devices x.i x.d) (sym e) x.live in
      subst (Has found) x.named (says.0 x.i x.d (record { entry = x.live; exit = (x.d, live) })) in
      compared found all says.1 l v m u n e g h
  from_list Listing.Failed failed n e says calm granted l v m u g h = let none : ⊥ = cc in absurd none
  from_list Listing.Memory failed n e says calm granted l v m u g h = absurd (granted refl)

pub compares : {J : Type 0} (answer : Answers J) (later : Laters J) (names : List (List ℕ)) (k : Kernel) (w : State J) → ComparesWithSweep answer later names k w
unfolding sweeping
compares answer later names k w enough l v m u g h =
    from_list answer later names k w enough g.0.answer (failure_of g.0) g.1 g.2.does g.2.says g.2.calm g.2.granted l v m u g.3 h
