-- The names that a sweep tells, none twice; and that no device is told for want of memory that had a standing, lived through it, and
-- wasn't still to be removed.
use Rattle.std.proofs.Common.{◌≡◌, ℕ, Bool, List, [], ◌∷◌, ◌++◌, Option, Some, ◌⊎◌, inl, inr, refl, sym, ◌∙◌, ap, subst, append_assoc}
use Rattle.ug_table.proofs.Common.{Has, AllDistinct, Call, Answer, Names, Ask_alive, Kernel, Follows, says_probe, Runs, calls, Made, made_with, Along, Entry, State, Answers, Laters, farewells, standing_of, name_in, unsettled_names, EndsUnsettled, NamesOnce, Part, Standing, in_sweep_order, Grows, Probe, Fault, Stand, IsSpared, Known, Listing, names_of, sweeping, has_cases, cancel, has_right, NeedsMemory, known_of, Terms, Write, along_split, along_grows, some_same, called_grows, grows_trans, told_run}
use Rattle.ug_table.proofs.Marks.{order_distinct, ends_only, named_only, farewell_none}
use Rattle.ug_table.proofs.Says.{none_named}
use Rattle.ug_table.proofs.Chains.{Chain, Over, First, Goes, Listed, Unlisted, goes_entries, sweeping_run}
use Rattle.ug_table.proofs.OnePart.{flat_is_part, lacks_needs}
use Rattle.ug_table.proofs.Shapes.{told_at}
use Rattle.ug_table.proofs.NamedStandings.{farewells_by, stands_one, listed_is}
use Rattle.ug_table.proofs.Standings.{IsFileOf, file_later, LiveAs, lives_between, gone_no, open_named, listed_stand}
use Rattle.ug_table.proofs.Lived.{lives_first, lives_last, stand_files}

pub names_more : (es fs : List Entry) → unsettled_names (es ++ fs) ≡ unsettled_names es ++ unsettled_names fs
names_more [] fs = refl
names_more (e ∷ es) fs = ap (λ (v : List (List ℕ)). name_in e ++ v) (names_more es fs) ∙ sym (append_assoc (name_in e) (unsettled_names es) (unsettled_names fs))

-- the names that a part tells
part_name : (name : List ℕ) (es : List Entry) → EndsUnsettled name es → (unsettled_names es ≡ []) ⊎ (unsettled_names es ≡ name ∷ [])
part_name name [] h = inl refl
part_name name (Entry.Unsettled other why ∷ es) h = inr (ap (λ (v : List ℕ). v ∷ unsettled_names es) h.0.0 ∙ ap (λ (v : List Entry). name ∷ unsettled_names v) h.0.1)
part_name name (Entry.UnsettledAll why ∷ es) h = absurd h.0
part_name name (e ∷ es) h = part_name name es h.1

chain_names : {J : Type 0} {answer : Answers J} {later : Laters J} {binds : Bool} {terms : Terms}
    {names : List (List ℕ)} {w v : State J} {ok : Bool} {ms : List Made} {es : List Entry}
    (name : List ℕ) → Chain answer later binds terms names w ok ms es v
    → Has (unsettled_names es) name → Has names name
chain_names name (Over w) a = a
chain_names name (First n names how w x v ok more ms ns es p c) a =
    let b = subst (λ (y : List (List ℕ)). Has y name) (names_more p.rest es) a in
    elim (has_cases (unsettled_names p.rest) (unsettled_names es) name b) [
      | inl y ↦ elim (part_name n p.rest (flat_is_part p.flat).last) [
        | inl e ↦ absurd (subst (λ (z : List (List ℕ)). Has z name) e y)
        | inr e ↦ elim (subst (λ (z : List (List ℕ)). Has z name) e y) [
          | inl same ↦ inl same
          | inr none ↦ absurd none
        ]
      ]
      | inr y ↦ inr (chain_names name c y)
    ]

-- none is told twice
pub chain_once : {J : Type 0} {answer : Answers J} {later : Laters J} {binds : Bool} {terms : Terms}
    {names : List (List ℕ)} {w v : State J} {ok : Bool} {ms : List Made} {es : List Entry}
    → AllDistinct names → Chain answer later binds terms names w ok ms es v
    → AllDistinct (unsettled_names es)
chain_once d (Over w) = tt
chain_once d (First name names how w x v ok more ms ns es p c) =
    let later = unsettled_names es in
    let whole : AllDistinct (unsettled_names p.rest ++ later) =
    elim (part_name name p.rest (flat_is_part p.flat).last) [
      | inl e ↦ subst (λ (z : List (List ℕ)). AllDistinct (z ++ later)) (sym e) (chain_once d.1 c)
      | inr e ↦ subst (λ (z : List (List ℕ)). AllDistinct (z ++ later)) (sym e)
          (λ a. d.0 (chain_names name c a), chain_once d.1 c)
    ] in
    subst AllDistinct (sym (names_more p.rest es)) whole

goes_once : {J : Type 0} {answer : Answers J} {later : Laters J} {w v : State J} {ok : Bool}
    {ms : List Made} {es : List Entry} (k l : Kernel) → AllDistinct (names_of w.standings)
    → Goes answer later w ok ms es v → Along calls k ms l → AllDistinct (unsettled_names es)
goes_once {w = w} k l d (Listed found failed ok shut made es v closings c) a =
    let names = in_sweep_order found in
    let none = farewells_by (λ x. unsettled_names x ≡ []) refl (λ number name x h. h) names w.standings in
    let same = names_more (farewells names w.standings) es
    ∙ ap (λ (x : List (List ℕ)). x ++ unsettled_names es) none in
    subst AllDistinct (sym same) (chain_once (order_distinct found a.1.says.1) c)
goes_once k l d (Unlisted list failed room why ok made es v by c) a = chain_once d c

pub told_once : {S J : Type 0} (gives : S → (call : Call) → Answer call → S → Type 0) (told : S → Option Kernel) (did : (s : S) (call : Call) (answer : Answer call) (t : S) (l : Kernel) → gives s call answer t → told t ≡ Some l → Follows call answer (told s) l) (answer : Answers J) (later : Laters J) (s : S) (w : State J) (t : S) (v : State J) → Runs gives s (sweeping answer later w) v t → NamesOnce told s w t v
told_once gives told did answer later s w t v r = λ l e.
    let m = told_run gives told did (sweeping answer later w) s v t l r e in (
      m.kernel,
      m.was,
      λ sound stand.
          let x = sweeping_run calls answer later m.kernel w l v (m.run sound).0 in
          (x.so.0, goes_entries x.so.1, goes_once m.kernel l stand.names x.so.1 x.along),
    )

-- the name stands so, and its device lives from one kernel to the other
pub record Lives (name : List ℕ) (known : Known) (i : ℕ) (ss : List Standing) (k l : Kernel) : Type 0 where
  pub at : standing_of name ss ≡ Some known
  pub file : IsFileOf k known.held.0 i
  pub first : LiveAs k i name
  pub last : LiveAs l i name

-- and still does from a kernel between them
lives_on : {name : List ℕ} {known : Known} {i : ℕ} {ss rs : List Standing} {k l : Kernel}
    (u : Kernel) → standing_of name rs ≡ standing_of name ss → Grows k u → Grows u l
    → Lives name known i ss k l → Lives name known i rs u l
lives_on {name} {known} {i} {k = k} {l = l} u same g h x = record {
  at = same ∙ x.at;
  file = file_later k u known.held.0 i g x.file;
  first = lives_between k u l i name g h x.first x.last;
  last = x.last;
}

-- a part that tells the name for want of memory
part_spared : {binds : Bool} (hub : Option Write) (name : List ℕ) (known : Known) (i : ℕ) (k l : Kernel) (ss rs : List Standing) (ms : List Made) (es : List Entry) → Part hub binds name ss rs ms es → Lives name known i ss k l → Along calls k ms l → Has es (Entry.Unsettled name Fault.Memory) → NeedsMemory hub name known
part_spared hub name known i k l ss rs ms es part lives a told = elim (part.memory told) [
  | inl anew ↦ absurd (elim anew [
    | inl none ↦ let at = lives.at in let none : ⊥ = cc in none
    | inr gone ↦
        let other = gone.3.0 in
        let t = gone.3.1 in
        let same : other ≡ known = some_same (standing_of name ss) other known gone.3.2 lives.at in
        let step : Along calls k (made_with (Ask_alive other.held.0) t ∷ gone.1) l = subst (λ (m : Made). Along calls k (m ∷ gone.1) l) gone.3.3 (subst (λ (v : List Made). Along calls k v l) gone.2 a) in
        let u = step.0 in
        let g = called_grows (Ask_alive other.held.0) t k u step.1 in
        gone_no u other.held.0 i name (subst (λ (p : Probe). says_probe other.held.0 p k u) gone.3.4 step.1.says)
        (subst (λ (v : Known). IsFileOf u v.held.0 i) (sym same) (file_later k u known.held.0 i g lives.file))
        (lives_between k u l i name g (along_grows gone.1 u l step.2) lives.first lives.last)
  ])
  | inr lacks ↦ subst (λ (v : Known). NeedsMemory hub name v) (some_same (standing_of name ss) lacks.0 known lacks.1 lives.at) (lacks_needs hub name lacks.0 ms lacks.2)
]

name_told : (es : List Entry) (name : List ℕ) (why : Fault) → Has es (Entry.Unsettled name why) → Has (unsettled_names es) name
name_told [] name why a = absurd a
name_told (e ∷ es) name why (inl is) = subst (λ (v : Entry). Has (name_in v ++ unsettled_names es) name) (sym is) (inl refl)
name_told (e ∷ es) name why (inr a) = has_right (name_in e) (unsettled_names es) name (name_told es name why a)

-- the chain

pub chain_spared : {J : Type 0} {answer : Answers J} {later : Laters J} {binds : Bool} {terms : Terms}
    {names : List (List ℕ)} {w v : State J} {ok : Bool} {ms : List Made} {es : List Entry}
    {name : List ℕ} {known : Known} {i : ℕ} {k l : Kernel} → AllDistinct names
    → Chain answer later binds terms names w ok ms es v → Lives name known i w.standings k l
    → Along calls k ms l → Has es (Entry.Unsettled name Fault.Memory) → NeedsMemory terms.hub name known
chain_spared d (Over w) lives a told = absurd told
chain_spared {binds = binds} {terms = terms} {name = name} {known = known} {i = i} {k = k} {l = l} d
    (First n names how w x v ok more ms ns es p c) lives a told =
    let cut = along_split calls ms ns k l a in
    let u = cut.0 in
    let g = along_grows ms k u cut.1 in
    let h = along_grows ns u l cut.2 in
    let part = flat_is_part p.flat in
    elim (has_cases p.rest es (Entry.Unsettled name Fault.Memory) told) [
      | inl y ↦
          let is : name ≡ n = named_only n name p.rest (ends_only n p.rest part.last) (Fault.Memory, y) in
          let own = subst (λ (z : List ℕ). Part terms.hub binds z w.standings x.standings ms p.rest) (sym is) part
          in
          let mid = lives_between k u l i name g h lives.first lives.last in
          part_spared terms.hub name known i k u w.standings x.standings ms p.rest own
          (record { at = lives.at; file = lives.file; first = lives.first; last = mid }) cut.1 y
      | inr y ↦
          let there = chain_names name c (name_told es name Fault.Memory y) in
          let ne : name ≡ n → ⊥ = λ e. d.0 (subst (λ (z : List ℕ). Has names z) e there) in
          chain_spared d.1 c (lives_on u (part.others name ne) g h lives) cut.2 y
    ]

-- the whole sweep

goes_spared : {J : Type 0} {answer : Answers J} {later : Laters J} {w v : State J} {ok : Bool}
    {ms : List Made} {es : List Entry} {name : List ℕ} {known : Known} {i : ℕ} {k l : Kernel}
    → AllDistinct (names_of w.standings) → Goes answer later w ok ms es v
    → Lives name known i w.standings k l → Along calls k ms l
    → Has es (Entry.Unsettled name Fault.Memory) → NeedsMemory w.hub name known
goes_spared {w = w} {name = name} {k = k} {l = l} d
    (Listed found failed ok shut made es v closings c) lives a told =
    let names = in_sweep_order found in
    let bye = farewells names w.standings in
    let m = a.0 in
    let cut = along_split calls shut made m l a.2 in
    let u = cut.0 in
    let t = told_at (Listing.Names found) failed in
    let g = grows_trans k m u (called_grows Names t k m a.1) (along_grows shut m u cut.1) in
    elim (has_cases bye es (Entry.Unsettled name Fault.Memory) told) [
      | inl b ↦ absurd (none_named bye name (farewell_none names w.standings) (Fault.Memory, b))
      | inr b ↦
          let has = chain_names name c (name_told es name Fault.Memory b) in
          let same = listed_stand names name w.standings (listed_is names name has) in
          let later = lives_on u same g (along_grows made u l cut.2) lives in
          chain_spared (order_distinct found a.1.says.1) c later cut.2 b
    ]
goes_spared d (Unlisted list failed room why ok made es v by c) lives a (inl e) =
    let none : ⊥ = cc in absurd none
goes_spared {k = k} {l = l} d (Unlisted list failed room why ok made es v by c) lives a (inr told) =
    let g = called_grows Names (told_at list failed) k a.0 a.1 in
    chain_spared d c (lives_on a.0 refl g (along_grows made a.0 l a.2) lives) a.2 told

-- whatever the entries that were added
pub sweeping_spared : {J : Type 0} (answer : Answers J) (later : Laters J) (w : State J)
    (k l : Kernel) (v : State J) (rest : List Entry) → Stand k w.standings w.next
    → Runs calls k (sweeping answer later w) v l → v.entries ≡ w.entries ++ rest
    → IsSpared w.hub k l w.standings rest
sweeping_spared answer later w k l v rest stand r e i d lives stood told =
    let x = sweeping_run calls answer later k w l v r in
    let first = lives_first k l i d lives in
    let s = stood.s in
    let file = stand_files k w.standings w.next stand s stood.has in
    let named = open_named k s.name d.name s.held.0 i file stood.file first in
    let same = cancel w.entries rest x.so.0 (sym e ∙ goes_entries x.so.1) in
    subst (λ (v : List ℕ). NeedsMemory w.hub v (known_of s)) (sym named) (goes_spared stand.names x.so.1
    (record {
      at = stands_one d.name w.standings s stand.names stood.has named;
      file = stood.file;
      first = first;
      last = lives_last k l i d (along_grows x.made k l x.along) lives;
    })
    x.along (subst (λ (es : List Entry). Has es (Entry.Unsettled d.name Fault.Memory)) same told))
