-- The names of a sweep beside given ones, in their order: what both runs come to.
use Rattle.std.proofs.Common.{◌≡◌, ℕ, Bool, true, false, not, List, [], ◌∷◌, ◌++◌, Option, Some, None, ◌⊎◌, inl, inr, refl, sym, ◌∙◌, ap, subst, append_assoc, append-nil, true≢false}
use Rattle.std.proofs.lemmas.Option.{none-some, same_Some}
use Rattle.std.proofs.lemmas.List.Sorted.{IsPermutation-trans, IsPermutation-append_right, IsPermutation-append_left, IsPermutation-append_comm, IsPermutation-refl, IsPermutation-sym}
use Rattle.std.specs.List.{flat_map}
use Rattle.std.specs.List.Sorted.{IsPermutation}
use Rattle.ug_types.specs.Elements.{Has}
use Rattle.ug_types.specs.Names.{parent_of}
use Rattle.ug_types.proofs.Elements.{filter_has, has_filter}
use Rattle.ug_kernel.specs.Kernel.{Kernel, IsKernel}
use Rattle.ug_audit.specs.declared.entry.Entry.{Entry}
use Rattle.ug_table.specs.Laws.{Stand, AreInOrder, swept_before}
use Rattle.ug_table.specs.Settle.{settling}
use Rattle.ug_table.specs.Standings.{without, same_name}
use Rattle.ug_table.specs.State.{State, Answers, Laters, Terms}
use Rattle.ug_table.specs.Sweep.{settling_all}
use Rattle.ug_table.specs.declared.standing.Standing.{Standing}
use Rattle.ug_table.specs.declared.standing.Settled.{Settled}
use Rattle.ug_table.proofs.NamedStandings.{same_is, is_same}
use Rattle.ug_table.proofs.Standings.{other_test, others_have}
use Rattle.ug_table.proofs.Marks.{names_distinct, not_first}
use Rattle.ug_hint_laws.specs.Compared.{RunsStill, LooksAtNone, TurnsInto, departure_in, other_than_departure}
use Rattle.ug_hint_laws.proofs.Alike.{Lives}
use Rattle.ug_hint_laws.proofs.Asking.{Beside}
use Rattle.ug_hint_laws.proofs.Departures.{is_dead, flat_append, told_gone, told_other, split_dead, dead_stay, live_beside, all_live, none_dead}
use Rattle.ug_hint_laws.proofs.Filters.{of_live, before_trans}
use Rattle.ug_hint_laws.proofs.Frames.{Frame, part_frame, part_turns, turns_then, stand_filter}
use Rattle.ug_hint_laws.proofs.Gone.{departures, has_that, Drops, part_gone}
use Rattle.ug_hint_laws.proofs.Kin.{kin_lives, kin_lived, Both, alike_runs}
use Rattle.ug_hint_laws.proofs.Parts.{Twin, Part_alike, Sees, settling_alike}
use Rattle.ug_hint_laws.proofs.Rests.{Rests, rests_later, part_rests}
use Rattle.ug_hint_laws.proofs.Still.{Cut, still_cut}

pub either_way : (b : Bool) → (b ≡ true) ⊎ (b ≡ false)
either_way true = inl refl
either_way false = inr refl

module _ (alive : List ℕ → Bool) {J : Type 0} (answer : Answers J) (later : Laters J) (terms : Terms) where
  abbrev pub AllLive : List Standing → Type 0
  AllLive ss = (s : Standing) → Has ss s → alive s.name ≡ true

  -- a sweep's state and the other, before these names of each
  pub record Ready (names given : List (List ℕ)) (k : Kernel) (x u : State J) : Type 0 where
    pub sound : IsKernel k
    pub lives : (n : List ℕ) → alive n ≡ true → Lives k n
    pub dead : (n : List ℕ) → alive n ≡ false → Lives k n → ⊥
    pub stand : Stand k x.standings x.next
    pub stood : Stand k u.standings u.next
    pub order : AreInOrder names
    pub other : AreInOrder given
    pub same : of_live alive x.standings ≡ of_live alive u.standings
    pub next : x.next ≡ u.next
    pub listed : x.listed ≡ u.listed
    pub judge : x.judge ≡ u.judge
    pub hub : x.hub ≡ u.hub
    pub left : (s : Standing) → Has x.standings s → alive s.name ≡ false → Has names s.name
    pub remains : (s : Standing) → Has u.standings s → alive s.name ≡ false → Has given s.name
    pub sees : LooksAtNone answer later x.judge ⊎ (AllLive x.standings × AllLive u.standings)
    pub all : (n : List ℕ) → alive n ≡ true → Has given n → Has names n
    pub elsewhere : (n : List ℕ) → alive n ≡ true → Has names n → (Has given n → ⊥) → Rests terms.hub k x.standings n

  -- what they come to
  pub record Ended (x u : State J) (l : Kernel) (y : State J) (m : Kernel) (v : State J) : Type 0 where
    pub kernel : m ≡ l
    pub standings : v.standings ≡ y.standings
    pub next : v.next ≡ y.next
    pub listed : v.listed ≡ y.listed
    pub judge : v.judge ≡ y.judge
    pub es : List Entry
    pub fs : List Entry
    pub common : List Entry
    pub swept : y.entries ≡ x.entries ++ es
    pub told : v.entries ≡ u.entries ++ fs
    pub others : flat_map other_than_departure fs ≡ flat_map other_than_departure es
    pub gone : IsPermutation (flat_map departure_in es) (departures (is_dead alive) x.standings ++ common)
    pub went : IsPermutation (flat_map departure_in fs) (departures (is_dead alive) u.standings ++ common)

  abbrev pub Walks : List (List ℕ) → List (List ℕ) → Type 0
  Walks names given = (k : Kernel) (x u : State J) → Ready names given k x u → (l : Kernel) (y : State J) (m : Kernel) (v : State J)
      → RunsStill k (settling_all answer later names terms x) y l → RunsStill k (settling_all answer later given terms u) v m → Ended x u l y m v

  -- no name is left

  over : Walks [] []
  over k x u r l y m v g h =
      let first : AllLive x.standings = λ s a. elim (either_way (alive s.name)) [ inl e ↦ e | inr e ↦ absurd (r.left s a e) ] in
      let last : AllLive u.standings = λ s a. elim (either_way (alive s.name)) [ inl e ↦ e | inr e ↦ absurd (r.remains s a e) ] in
      record {
        kernel = h.1 ∙ sym g.1;
        standings = ap (λ (w : State J). w.standings) h.0 ∙ sym (all_live alive u.standings last) ∙ sym r.same ∙ all_live alive x.standings first ∙ ap (λ (w : State J). w.standings) (sym g.0);
        next = ap (λ (w : State J). w.next) h.0 ∙ sym r.next ∙ ap (λ (w : State J). w.next) (sym g.0);
        listed = ap (λ (w : State J). w.listed) h.0 ∙ sym r.listed ∙ ap (λ (w : State J). w.listed) (sym g.0);
        judge = ap (λ (w : State J). w.judge) h.0 ∙ sym r.judge ∙ ap (λ (w : State J). w.judge) (sym g.0);
        es = [];
        fs = [];
        common = [];
        swept = ap (λ (w : State J). w.entries) g.0 ∙ sym (append-nil x.entries);
        told = ap (λ (w : State J). w.entries) h.0 ∙ sym (append-nil u.entries);
        others = refl;
        gone = subst (λ (d : List Entry). IsPermutation [] (d ++ [])) (sym (none_dead alive x.standings first)) (IsPermutation-refl []);
        went = subst (λ (d : List Entry). IsPermutation [] (d ++ [])) (sym (none_dead alive u.standings last)) (IsPermutation-refl []);
      }

  -- the entries of a name's part

  more_of : (f : Entry → List Entry) (es fs : List Entry) → flat_map f (es ++ fs) ≡ flat_map f es ++ flat_map f fs
  more_of f es fs = flat_append f es fs

  gone_more : (name : List ℕ) (ss rs : List Standing) (es common : List Entry) → alive name ≡ false → rs ≡ without name ss → IsPermutation (flat_map departure_in es) (departures (is_dead alive) rs ++ common)
      → IsPermutation (flat_map departure_in (departures (has_that name) ss ++ es)) (departures (is_dead alive) ss ++ common)
  gone_more name ss rs es common none e p =
      let own : List Entry = departures (has_that name) ss in
      let rest : List Entry = departures (is_dead alive) (without name ss) in
      let whole : List Entry = departures (is_dead alive) ss in
      let one : flat_map departure_in (own ++ es) ≡ own ++ flat_map departure_in es = more_of departure_in own es ∙ ap (λ (v : List Entry). v ++ flat_map departure_in es) (told_gone (has_that name) ss) in
      let moved : IsPermutation (flat_map departure_in es) (rest ++ common) = subst (λ (v : List Standing). IsPermutation (flat_map departure_in es) (departures (is_dead alive) v ++ common)) e p in
      let two : IsPermutation (own ++ flat_map departure_in es) ((own ++ rest) ++ common) =
      subst (λ (v : List Entry). IsPermutation (own ++ flat_map departure_in es) v) (sym (append_assoc own rest common)) (IsPermutation-append_right own (flat_map departure_in es) (rest ++ common) moved) in
      let split : IsPermutation whole (own ++ rest) = split_dead alive (has_that name) (λ s. not (same_name s.name name)) (λ s. refl) (λ s f. ap alive (same_is s.name name f) ∙ none) ss in
      let three : IsPermutation ((own ++ rest) ++ common) (whole ++ common) = IsPermutation-append_left common (own ++ rest) whole (IsPermutation-sym whole (own ++ rest) split) in
      subst (λ (v : List Entry). IsPermutation v (whole ++ common)) (sym one) (IsPermutation-trans (own ++ flat_map departure_in es) ((own ++ rest) ++ common) (whole ++ common) two three)

  other_more : (name : List ℕ) (ss : List Standing) (es : List Entry) → flat_map other_than_departure (departures (has_that name) ss ++ es) ≡ flat_map other_than_departure es
  other_more name ss es = more_of other_than_departure (departures (has_that name) ss) es ∙ ap (λ (v : List Entry). v ++ flat_map other_than_departure es) (told_other (has_that name) ss)

  -- a live name of the sweep alone, which has nothing due
  step_rests : (n : List ℕ) (names given : List (List ℕ)) → alive n ≡ true → (Has given n → ⊥) → Walks names given → Walks (n ∷ names) given
  step_rests n names given own absent ih k x u r l y m v g h =
      let c : Cut k (settling answer later n terms x) (λ p. settling_all answer later names terms p.1) y l = still_cut (settling answer later n terms x) (λ (p : Settled × State J). settling_all answer later names terms p.1) k y l g in
      let same = part_rests answer later n terms k x c.a c.m r.stand (r.elsewhere n own (inl refl) absent) c.first in
      let last : RunsStill k (settling_all answer later names terms x) y l =
      subst (λ (w : State J). RunsStill k (settling_all answer later names terms w) y l) same.state (subst (λ (z : Kernel). RunsStill z (settling_all answer later names terms c.a.1) y l) same.kernel c.last) in
      let ready : Ready names given k x u = record {
        sound = r.sound;
        lives = r.lives;
        dead = r.dead;
        stand = r.stand;
        stood = r.stood;
        order = r.order.1;
        other = r.other;
        same = r.same;
        next = r.next;
        listed = r.listed;
        judge = r.judge;
        hub = r.hub;
        left = λ s a e. elim (r.left s a e) [ inl is ↦ absurd (true≢false (sym own ∙ ap alive is ∙ e)) | inr b ↦ b ];
        remains = r.remains;
        sees = r.sees;
        all = λ t e a. elim (r.all t e a) [ inl is ↦ absurd (absent (subst (Has given) (sym is) a)) | inr b ↦ b ];
        elsewhere = λ t e a no. r.elsewhere t e (inr a) no;
      } in
      ih k x u ready l y m v last h

  -- a name of the sweep that no live device bears
  gone_ended : (n : List ℕ) (k j : Kernel) (x z u : State J) → alive n ≡ false → Drops n k x j z → (l : Kernel) (y : State J) (m : Kernel) (v : State J) → Ended z u l y m v → Ended x u l y m v
  gone_ended n k j x z u none d l y m v end = record {
    kernel = end.kernel;
    standings = end.standings;
    next = end.next;
    listed = end.listed;
    judge = end.judge;
    es = departures (has_that n) x.standings ++ end.es;
    fs = end.fs;
    common = end.common;
    swept = end.swept ∙ ap (λ (es : List Entry). es ++ end.es) d.entries ∙ append_assoc x.entries (departures (has_that n) x.standings) end.es;
    told = end.told;
    others = end.others ∙ sym (other_more n x.standings end.es);
    gone = gone_more n x.standings z.standings end.es end.common none d.standings end.gone;
    went = end.went;
  }

  behind_gone : (n : List ℕ) (names given : List (List ℕ)) → alive n ≡ false → Walks names given → (k : Kernel) (x u : State J) → Ready (n ∷ names) given k x u → (j : Kernel) (z : State J) → Drops n k x j z
      → (l : Kernel) (y : State J) (m : Kernel) (v : State J) → RunsStill k (settling_all answer later names terms z) y l → RunsStill k (settling_all answer later given terms u) v m → Ended x u l y m v
  behind_gone n names given none ih k x u r j z d l y m v last h =
      let back : (s : Standing) → Has z.standings s → Has x.standings s × (not (same_name s.name n) ≡ true) = λ s a. filter_has (λ (t : Standing). not (same_name t.name n)) x.standings s (subst (λ (ss : List Standing). Has ss s) d.standings a) in
      let ready : Ready names given k z u = record {
        sound = r.sound;
        lives = r.lives;
        dead = r.dead;
        stand = subst (λ (ss : List Standing). Stand k ss z.next) (sym d.standings) (subst (Stand k (without n x.standings)) (sym d.next) (stand_filter k (λ (t : Standing). not (same_name t.name n)) x.standings x.next r.stand));
        stood = r.stood;
        order = r.order.1;
        other = r.other;
        same = ap (of_live alive) d.standings ∙ live_beside alive n x.standings none ∙ r.same;
        next = d.next ∙ r.next;
        listed = d.listed ∙ r.listed;
        judge = d.judge ∙ r.judge;
        hub = d.hub ∙ r.hub;
        left = λ s a e. let b = back s a in elim (r.left s b.0 e) [ inl is ↦ absurd (true≢false (sym b.1 ∙ ap not (is_same s.name n (sym is)))) | inr q ↦ q ];
        remains = r.remains;
        sees = elim r.sees [ inl q ↦ inl (subst (LooksAtNone answer later) (sym d.judge) q) | inr q ↦ inr (λ s a. q.0 s (back s a).0, q.1) ];
        all = λ t e a. elim (r.all t e a) [ inl is ↦ absurd (true≢false (sym e ∙ ap alive (sym is) ∙ none)) | inr b ↦ b ];
        elsewhere = λ t e a no.
            let q = r.elsewhere t e (inr a) no in
            let differs : same_name q.s.name n ≡ false = other_test q.s.name n (λ f. true≢false (sym e ∙ ap alive (sym q.titled ∙ f) ∙ none)) in
            record {
              i = q.i;
              live = q.live;
              s = q.s;
              has = subst (λ (ss : List Standing). Has ss q.s) (sym d.standings) (has_filter (λ (t : Standing). not (same_name t.name n)) x.standings q.s q.has (ap not differs));
              titled = q.titled;
              file = q.file;
              settled = q.settled;
              value = q.value;
              removed = q.removed;
              defaulted = q.defaulted;
            };
      } in
      gone_ended n k j x z u none d l y m v (ih k z u ready l y m v last h)

  step_gone : (n : List ℕ) (names given : List (List ℕ)) → alive n ≡ false → Walks names given → Walks (n ∷ names) given
  step_gone n names given none ih k x u r l y m v g h =
      let c : Cut k (settling answer later n terms x) (λ p. settling_all answer later names terms p.1) y l = still_cut (settling answer later n terms x) (λ (p : Settled × State J). settling_all answer later names terms p.1) k y l g in
      let d : Drops n k x c.m c.a.1 = part_gone answer later n terms k x c.a c.m r.stand (r.dead n none) c.first in
      behind_gone n names given none ih k x u r c.m c.a.1 d l y m v (subst (λ (w : Kernel). RunsStill w (settling_all answer later names terms c.a.1) y l) d.kernel c.last) h

  -- and a given one
  went_ended : (n : List ℕ) (k j : Kernel) (x z u : State J) → alive n ≡ false → Drops n k u j z → (l : Kernel) (y : State J) (m : Kernel) (v : State J) → Ended x z l y m v → Ended x u l y m v
  went_ended n k j x z u none d l y m v end = record {
    kernel = end.kernel;
    standings = end.standings;
    next = end.next;
    listed = end.listed;
    judge = end.judge;
    es = end.es;
    fs = departures (has_that n) u.standings ++ end.fs;
    common = end.common;
    swept = end.swept;
    told = end.told ∙ ap (λ (es : List Entry). es ++ end.fs) d.entries ∙ append_assoc u.entries (departures (has_that n) u.standings) end.fs;
    others = other_more n u.standings end.fs ∙ end.others;
    gone = end.gone;
    went = gone_more n u.standings z.standings end.fs end.common none d.standings end.went;
  }

  behind_went : (n : List ℕ) (names given : List (List ℕ)) → alive n ≡ false → Walks names given → (k : Kernel) (x u : State J) → Ready names (n ∷ given) k x u → (j : Kernel) (z : State J) → Drops n k u j z
      → (l : Kernel) (y : State J) (m : Kernel) (v : State J) → RunsStill k (settling_all answer later names terms x) y l → RunsStill k (settling_all answer later given terms z) v m → Ended x u l y m v
  behind_went n names given none ih k x u r j z d l y m v g last =
      let back : (s : Standing) → Has z.standings s → Has u.standings s × (not (same_name s.name n) ≡ true) = λ s a. filter_has (λ (t : Standing). not (same_name t.name n)) u.standings s (subst (λ (ss : List Standing). Has ss s) d.standings a) in
      let ready : Ready names given k x z = record {
        sound = r.sound;
        lives = r.lives;
        dead = r.dead;
        stand = r.stand;
        stood = subst (λ (ss : List Standing). Stand k ss z.next) (sym d.standings) (subst (Stand k (without n u.standings)) (sym d.next) (stand_filter k (λ (t : Standing). not (same_name t.name n)) u.standings u.next r.stood));
        order = r.order;
        other = r.other.1;
        same = r.same ∙ sym (live_beside alive n u.standings none) ∙ ap (of_live alive) (sym d.standings);
        next = r.next ∙ sym d.next;
        listed = r.listed ∙ sym d.listed;
        judge = r.judge ∙ sym d.judge;
        hub = r.hub ∙ sym d.hub;
        left = r.left;
        remains = λ s a e. let b = back s a in elim (r.remains s b.0 e) [ inl is ↦ absurd (true≢false (sym b.1 ∙ ap not (is_same s.name n (sym is)))) | inr q ↦ q ];
        sees = elim r.sees [ inl q ↦ inl q | inr q ↦ inr (q.0, λ s a. q.1 s (back s a).0) ];
        all = λ t e a. r.all t e (inr a);
        elsewhere = λ t e a no. r.elsewhere t e a (λ b. elim b [ inl is ↦ true≢false (sym e ∙ ap alive (sym is) ∙ none) | inr q ↦ no q ]);
      } in
      went_ended n k j x z u none d l y m v (ih k x z ready l y m v g last)

  step_went : (n : List ℕ) (names given : List (List ℕ)) → alive n ≡ false → Walks names given → Walks names (n ∷ given)
  step_went n names given none ih k x u r l y m v g h =
      let c : Cut k (settling answer later n terms u) (λ p. settling_all answer later given terms p.1) v m = still_cut (settling answer later n terms u) (λ (p : Settled × State J). settling_all answer later given terms p.1) k v m h in
      let d : Drops n k u c.m c.a.1 = part_gone answer later n terms k u c.a c.m r.stood (r.dead n none) c.first in
      behind_went n names given none ih k x u r c.m c.a.1 d l y m v g (subst (λ (w : Kernel). RunsStill w (settling_all answer later given terms c.a.1) v m) d.kernel c.last)

  -- the parent of a live name is live
  above_lives : (n : List ℕ) (k : Kernel) → IsKernel k → ((t : List ℕ) → alive t ≡ false → Lives k t → ⊥) → Lives k n → (t : List ℕ) → parent_of n ≡ Some t → alive t ≡ true
  above_lives n k sound dead h t e = by h.d.parent refl
    where
      named : parent_of h.d.name ≡ Some t
      named = ap parent_of h.named ∙ e

      by : (o : Option ℕ) → h.d.parent ≡ o → alive t ≡ true
      by None f = absurd (none-some t (sym (sound.devices.roots h.i h.d h.live.at f) ∙ named))
      by (Some p) f =
          let up = sound.devices.parents h.i p h.d h.live f in
          let is : up.0.name ≡ t = same_Some up.0.name t (sym (sound.devices.named h.i p h.d up.0 h.live.at f up.1.at) ∙ named) in
          elim (either_way (alive t)) [ inl g ↦ g | inr g ↦ absurd (dead t g (record { i = p; d = up.0; live = up.1; named = is })) ]

  both_more : (xs es common ds rs : List Entry) → rs ≡ ds → IsPermutation (flat_map departure_in es) (rs ++ common) → IsPermutation (flat_map departure_in (xs ++ es)) (ds ++ (flat_map departure_in xs ++ common))
  both_more xs es common ds rs e p =
      let a : List Entry = flat_map departure_in xs in
      let moved : IsPermutation (flat_map departure_in es) (ds ++ common) = subst (λ (v : List Entry). IsPermutation (flat_map departure_in es) (v ++ common)) e p in
      let one : IsPermutation (a ++ flat_map departure_in es) ((a ++ ds) ++ common) = subst (IsPermutation (a ++ flat_map departure_in es)) (sym (append_assoc a ds common)) (IsPermutation-append_right a (flat_map departure_in es) (ds ++ common) moved) in
      let two : IsPermutation ((a ++ ds) ++ common) ((ds ++ a) ++ common) = IsPermutation-append_left common (a ++ ds) (ds ++ a) (IsPermutation-append_comm a ds) in
      let three : IsPermutation (a ++ flat_map departure_in es) (ds ++ (a ++ common)) = subst (IsPermutation (a ++ flat_map departure_in es)) (append_assoc ds a common) (IsPermutation-trans (a ++ flat_map departure_in es) ((a ++ ds) ++ common) ((ds ++ a) ++ common) one two) in
      subst (λ (v : List Entry). IsPermutation v (ds ++ (a ++ common))) (sym (more_of departure_in xs es)) three

  -- a live name that is given
  both_ended : (n : List ℕ) (x z u t : State J) → alive n ≡ true → without n z.standings ≡ without n x.standings → without n t.standings ≡ without n u.standings → (beside : Beside x.entries u.entries z.entries t.entries) → (l : Kernel) (y : State J) (m : Kernel) (v : State J) → Ended z t l y m v → Ended x u l y m v
  both_ended n x z u t own one other beside l y m v end = record {
    kernel = end.kernel;
    standings = end.standings;
    next = end.next;
    listed = end.listed;
    judge = end.judge;
    es = beside.es ++ end.es;
    fs = beside.es ++ end.fs;
    common = flat_map departure_in beside.es ++ end.common;
    swept = end.swept ∙ ap (λ (es : List Entry). es ++ end.es) beside.one ∙ append_assoc x.entries beside.es end.es;
    told = end.told ∙ ap (λ (es : List Entry). es ++ end.fs) beside.other ∙ append_assoc u.entries beside.es end.fs;
    others = more_of other_than_departure beside.es end.fs ∙ ap (λ (es : List Entry). flat_map other_than_departure beside.es ++ es) end.others ∙ sym (more_of other_than_departure beside.es end.es);
    gone = both_more beside.es end.es end.common (departures (is_dead alive) x.standings) (departures (is_dead alive) z.standings) (dead_stay alive n x.standings z.standings own one) end.gone;
    went = both_more beside.es end.fs end.common (departures (is_dead alive) u.standings) (departures (is_dead alive) t.standings) (dead_stay alive n u.standings t.standings own other) end.went;
  }

  behind_both : (n : List ℕ) (names given : List (List ℕ)) → alive n ≡ true → Walks names given → (k : Kernel) (x u : State J) → Ready (n ∷ names) (n ∷ given) k x u
      → (j : Kernel) (z : State J) (i : Kernel) (t : State J) → Frame n k x.standings j z.standings z.next → Frame n k u.standings i t.standings t.next → Twin alive x.entries u.entries z t → TurnsInto later x.judge z.judge → i ≡ j
      → (l : Kernel) (y : State J) (m : Kernel) (v : State J) → RunsStill j (settling_all answer later names terms z) y l → RunsStill j (settling_all answer later given terms t) v m → Ended x u l y m v
  behind_both n names given own ih k x u r j z i t f b after on same l y m v first last =
      let apart : (s : List ℕ) → alive s ≡ false → s ≡ n → ⊥ = λ s e is. true≢false (sym own ∙ ap alive (sym is) ∙ e) in
      let was : (s : Standing) → Has z.standings s → alive s.name ≡ false → Has x.standings s = λ s a e. others_have n z.standings x.standings s f.rest a (apart s.name e) in
      let had : (s : Standing) → Has t.standings s → alive s.name ≡ false → Has u.standings s = λ s a e. others_have n t.standings u.standings s b.rest a (apart s.name e) in
      let ready : Ready names given j z t = record {
        sound = f.sound;
        lives = λ s e. kin_lives k j s f.kin (r.lives s e);
        dead = λ s e q. r.dead s e (kin_lived k j s f.kin q);
        stand = f.stand;
        stood = subst (λ (w : Kernel). Stand w t.standings t.next) same b.stand;
        order = r.order.1;
        other = r.other.1;
        same = after.standings;
        next = after.next;
        listed = after.listed;
        judge = after.judge;
        hub = after.hub;
        left = λ s a e. elim (r.left s (was s a e) e) [ inl is ↦ absurd (apart s.name e (sym is)) | inr q ↦ q ];
        remains = λ s a e. elim (r.remains s (had s a e) e) [ inl is ↦ absurd (apart s.name e (sym is)) | inr q ↦ q ];
        sees = elim r.sees [
          | inl q ↦ inl (λ other now. q other (turns_then on now))
          | inr q ↦ inr (
            λ s a. elim (either_way (alive s.name)) [ inl e ↦ e | inr e ↦ absurd (true≢false (sym (q.0 s (was s a e)) ∙ e)) ],
            λ s a. elim (either_way (alive s.name)) [ inl e ↦ e | inr e ↦ absurd (true≢false (sym (q.1 s (had s a e)) ∙ e)) ],
          )
        ];
        all = λ s e a. elim (r.all s e (inr a)) [ inl is ↦ absurd ((names_distinct (n ∷ given) r.other).0 (subst (Has given) (sym is) a)) | inr q ↦ q ];
        elsewhere = λ s e a no.
            let ne : s ≡ n → ⊥ = λ is. (names_distinct (n ∷ names) r.order).0 (subst (Has names) is a) in
            rests_later terms.hub n s k x.standings j z.standings z.next ne f (r.elsewhere s e (inr a) (λ q. elim q [ inl is ↦ ne (sym is) | inr w ↦ no w ]));
      } in
      both_ended n x z u t own f.rest b.rest after.entries l y m v (ih j z t ready l y m v first last)

  step_both : (n : List ℕ) (names given : List (List ℕ)) → alive n ≡ true → Walks names given → Walks (n ∷ names) (n ∷ given)
  step_both n names given own ih k x u r l y m v g h =
      let c : Cut k (settling answer later n terms x) (λ p. settling_all answer later names terms p.1) y l = still_cut (settling answer later n terms x) (λ (p : Settled × State J). settling_all answer later names terms p.1) k y l g in
      let d : Cut k (settling answer later n terms u) (λ p. settling_all answer later given terms p.1) v m = still_cut (settling answer later n terms u) (λ (p : Settled × State J). settling_all answer later given terms p.1) k v m h in
      let twin : Twin alive x.entries u.entries x u = record {
        standings = r.same;
        next = r.next;
        listed = r.listed;
        judge = r.judge;
        hub = r.hub;
        entries = record { es = []; one = sym (append-nil x.entries); other = sym (append-nil u.entries) };
      } in
      let sees : Sees answer later x.judge x.standings u.standings = elim r.sees [ inl q ↦ inl q | inr q ↦ inr (sym (all_live alive x.standings q.0) ∙ r.same ∙ all_live alive u.standings q.1) ] in
      let both : Both (Part_alike alive x.entries u.entries) c.a c.m d.a d.m =
      alike_runs (Part_alike alive x.entries u.entries)
      (settling_alike alive answer later n terms x.entries u.entries x u twin sees r.stand.order r.stood.order own (above_lives n k r.sound r.dead (r.lives n own)))
      k r.sound r.lives c.a c.m d.a d.m c.first d.first in
      behind_both n names given own ih k x u r c.m c.a.1 d.m d.a.1
      (part_frame answer later n terms k x c.a c.m r.sound r.stand c.first) (part_frame answer later n terms k u d.a d.m r.sound r.stood d.first)
      both.ends.state (part_turns answer later n terms k x c.a c.m r.sound c.first) both.kernel l y m v c.last (subst (λ (w : Kernel). RunsStill w (settling_all answer later given terms d.a.1) v m) both.kernel d.last)

  -- all of them

  -- where no name of the sweep is left
  lasts : (given : List (List ℕ)) → Walks [] given
  lasts [] = over
  lasts (n ∷ given) = λ k x u r l y m v g h. elim (either_way (alive n)) [
    | inl own ↦ absurd (r.all n own (inl refl))
    | inr none ↦ step_went n [] given none (lasts given) k x u r l y m v g h
  ]

  not_itself : (n : List ℕ) → swept_before n n ≡ false
  not_itself n = not_first n [] n ((λ other a. absurd a), tt) (inl refl)

  -- a name that isn't the first of given ones comes before it, or is none of them
  not_given : (n g : List ℕ) (names given : List (List ℕ)) → AreInOrder (n ∷ names) → AreInOrder (g ∷ given) → Has names g → same_name n g ≡ false → Has (g ∷ given) n → ⊥
  not_given n g names given o q a e (inl is) = true≢false (sym (is_same n g (sym is)) ∙ e)
  not_given n g names given o q a e (inr b) = true≢false (sym (before_trans n g n (o.0 g a) (q.0 n b)) ∙ not_itself n)

  pick : (n : List ℕ) (names : List (List ℕ)) (g : List ℕ) (given : List (List ℕ)) → ((gs : List (List ℕ)) → Walks names gs) → Walks (n ∷ names) given → Walks (n ∷ names) (g ∷ given)
  pick n names g given ih inner k x u r l y m v p h = elim (either_way (alive n)) [
    | inr none ↦ step_gone n names (g ∷ given) none (ih (g ∷ given)) k x u r l y m v p h
    | inl own ↦ elim (either_way (alive g)) [
      | inr none ↦ step_went g (n ∷ names) given none inner k x u r l y m v p h
      | inl live ↦ elim (either_way (same_name n g)) [
        | inl e ↦ here own (same_is n g e)
        | inr e ↦ step_rests n names (g ∷ given) own (not_given n g names given r.order r.other (later_on live e) e) (ih (g ∷ given)) k x u r l y m v p h
      ]
    ]
  ]
    where
      here : alive n ≡ true → n ≡ g → Ended x u l y m v
      here own is = step_both n names given own (ih given) k x u (subst (λ (t : List ℕ). Ready (n ∷ names) (t ∷ given) k x u) (sym is) r) l y m v p (subst (λ (t : List ℕ). RunsStill k (settling_all answer later (t ∷ given) terms u) v m) (sym is) h)

      later_on : alive g ≡ true → same_name n g ≡ false → Has names g
      later_on live e = elim (r.all g live (inl refl)) [ inl is ↦ absurd (true≢false (sym (is_same n g is) ∙ e)) | inr a ↦ a ]

  along_given : (n : List ℕ) (names : List (List ℕ)) → ((gs : List (List ℕ)) → Walks names gs) → (given : List (List ℕ)) → Walks (n ∷ names) given
  along_given n names ih [] = λ k x u r l y m v g h. elim (either_way (alive n)) [
    | inl own ↦ step_rests n names [] own (λ a. a) (ih []) k x u r l y m v g h
    | inr none ↦ step_gone n names [] none (ih []) k x u r l y m v g h
  ]
  along_given n names ih (g ∷ given) = pick n names g given ih (along_given n names ih given)

  pub walk : (names given : List (List ℕ)) → Walks names given
  walk [] given = lasts given
  walk (n ∷ names) given = along_given n names (walk names) given
