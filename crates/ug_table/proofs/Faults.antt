-- A run of a sweep goes along its parts, and tells each failed call.
use Rattle.std.proofs.Common.{◌≡◌, ℕ, ◌+◌, ◌-◌, ◌^◌, ◌<◌, ◌≤◌, ◌&&◌, Option, length, Some, None, arith, Bool, true, false, List, [], ◌∷◌, ◌++◌, inl, inr, refl, sym, ◌∙◌, ap, subst}
use Rattle.std.proofs.lemmas.List.{length-append}
use Rattle.ug_types.proofs.Sorting.{length-sweep_order}
use Rattle.std.proofs.lemmas.Bool.{cond_both}
use Rattle.ug_kernel.specs.Along.{IsAbove}
use Rattle.ug_table.proofs.Common.{Write, reads_last, probes, without_asking, ending_calls, kept_file, Terms, in_sweep_order, FailedCall, Listing, Call, Names, Answer, Runs, Made, made_with, Along, failure, failures, Rises, Entry, Fault, State, Answers, Laters, lists, farewells, call_told, failures_told, numbers_given, InParts, unlisted_files, AfterListing, GoesInParts, TellsFaults, Standing, names_of, sweeping, failures_more, filter}
use Rattle.ug_kernel.proofs.Rises.{Counting, along_numbered, along_rises}
use Rattle.ug_table.proofs.Shapes.{told_at, next_after}
use Rattle.ug_table.proofs.NameEntries.{told_more, given_more}
use Rattle.ug_table.proofs.OnePart.{given_count, flat_given, flat_none, flat_is_part}
use Rattle.ug_table.proofs.NamedStandings.{farewells_by}
use Rattle.ug_table.proofs.Chains.{closings_calm, Chain, Over, First, Without, List_failed, No_room, Goes, Listed, Unlisted, goes_entries, sweeping_run}

-- the calls of a chain's parts whose failure ends them
abbrev pub chain_ending : {J : Type 0} {answer : Answers J} {later : Laters J} {binds : Bool} {terms : Terms}
    {names : List (List ℕ)} {w v : State J} {ok : Bool} {ms : List Made} {es : List Entry}
    → Chain answer later binds terms names w ok ms es v → List Made
chain_ending (Over w) = []
chain_ending (First name names how w x v ok more ms ns es p c) =
    ending_calls name (kept_file name w.standings) ms ++ chain_ending c

pub chain_parts : {J : Type 0} {answer : Answers J} {later : Laters J} {binds : Bool} {terms : Terms}
    {names : List (List ℕ)} {w v : State J} {ok : Bool} {ms : List Made} {es : List Entry}
    → (c : Chain answer later binds terms names w ok ms es v)
    → InParts terms.hub binds names w.standings v.standings ms (chain_ending c) es
chain_parts (Over w) = (refl, refl, refl, refl)
chain_parts (First name names how w x v ok more ms ns es p c) =
    (x.standings, ms, ns, chain_ending c, p.rest, es, refl, refl, refl, flat_is_part p.flat, chain_parts c)

-- their failures are those of all calls, with some left out

pub data Thinner : List FailedCall → List FailedCall → Type 0 where
  None_left : Thinner [] []
  Same_first : (f : FailedCall) (fs gs : List FailedCall) → Thinner fs gs → Thinner (f ∷ fs) (f ∷ gs)
  Less_first : (f : FailedCall) (fs gs : List FailedCall) → Thinner fs gs → Thinner (f ∷ fs) gs

pub thin_more : {fs gs hs is : List FailedCall} → Thinner fs gs → Thinner hs is → Thinner (fs ++ hs) (gs ++ is)
thin_more None_left t = t
thin_more (Same_first f fs gs s) t = Same_first f _ _ (thin_more s t)
thin_more (Less_first f fs gs s) t = Less_first f _ _ (thin_more s t)

pub thin_refl : (fs : List FailedCall) → Thinner fs fs
thin_refl [] = None_left
thin_refl (f ∷ fs) = Same_first f fs fs (thin_refl fs)

thin_none : (fs : List FailedCall) → Thinner fs []
thin_none [] = None_left
thin_none (f ∷ fs) = Less_first f fs [] (thin_none fs)

asking_thin : (name : List ℕ) (kept : ℕ) (read : Bool) (ms : List Made)
    → Thinner (failures ms) (failures (without_asking name kept read ms))
asking_thin name kept read [] = None_left
asking_thin name kept read (m ∷ ms) =
    let f = failure m.call m.answer in
    cond_both (read && probes kept m.call) (without_asking name kept false ms)
    (m ∷ without_asking name kept (reads_last name m.call) ms) (λ (v : List Made). Thinner (f ++ failures ms) (failures v))
    (λ e. thin_more (thin_none f) (asking_thin name kept false ms))
    (λ e. thin_more (thin_refl f) (asking_thin name kept (reads_last name m.call) ms))

pub ending_thin : (name : List ℕ) (kept : Option ℕ) (ms : List Made)
    → Thinner (failures ms) (failures (ending_calls name kept ms))
ending_thin name None ms = thin_refl (failures ms)
ending_thin name (Some held) ms = asking_thin name held false ms

pub parts_thin : (hub : Option Write) (binds : Bool) (names : List (List ℕ)) (before after : List Standing)
    (calls ending : List Made) (entries : List Entry) → InParts hub binds names before after calls ending entries
    → Thinner (failures calls) (failures ending)
parts_thin hub binds [] before after calls ending entries h =
    subst (λ (v : List Made). Thinner (failures v) (failures ending)) (sym h.1)
    (subst (λ (v : List Made). Thinner [] (failures v)) (sym h.2) None_left)
parts_thin hub binds (name ∷ names) before after calls ending entries h =
    let own : List Made = ending_calls name (kept_file name before) h.1 in
    subst (λ (v : List FailedCall). Thinner v (failures ending)) (sym (ap failures h.6 ∙ failures_more h.1 h.2))
    (subst (λ (v : List FailedCall). Thinner (failures h.1 ++ failures h.2) v) (sym (ap failures h.7 ∙ failures_more own h.3))
    (thin_more (ending_thin name (kept_file name before) h.1) (parts_thin hub binds names h.0 after h.2 h.3 h.5 h.10)))

-- and so are those of a sweep
pub sweep_thin : {S J : Type 0} {gives : S → (call : Call) → Answer call → S → Type 0} {s t : S} {w v : State J}
    → (g : GoesInParts gives s w t v)
    → Thinner (failures (made_with Names g.listed ∷ g.later)) (failures (made_with Names g.listed ∷ (g.shut ++ g.ending)))
sweep_thin {w = w} {v = v} g =
    let parts = parts_thin w.hub g.binds g.names g.left v.standings g.made g.ending g.rest g.parts in
    thin_more (thin_refl (failure Names g.listed))
    (subst (λ (y : List FailedCall). Thinner y (failures (g.shut ++ g.ending))) (sym (ap failures g.cut ∙ failures_more g.shut g.made))
    (subst (λ (y : List FailedCall). Thinner (failures g.shut ++ failures g.made) y) (sym (failures_more g.shut g.ending))
    (thin_more (thin_refl (failures g.shut)) parts)))

-- so they rise too

above_lower : (c d x : ℕ) → c ≤ d → IsAbove d x → IsAbove c x
above_lower c d x p h =
    let e : d ≤ x = h.0 in
    let r : d < 2 ^ 64 - 1 → d < x = h.1 in
    (omega (arith, e, p), λ low. grind (arith, r, e, p, low))

from_lower : (c d f g : ℕ) (fs : List FailedCall) → c ≤ d → f ≤ g → Rises d g fs → Rises c f fs
from_lower c d f g [] p q h = tt
from_lower c d f g (x ∷ fs) p q h = (above_lower c d x.call p h.0, above_lower f g x.count q h.1, h.2)

pub thin_rises : {fs gs : List FailedCall} (c d : ℕ) → Thinner fs gs → Rises c d fs → Rises c d gs
thin_rises c d None_left h = tt
thin_rises c d (Same_first f fs gs t) h = (h.0, h.1, thin_rises f.call f.count t h.2)
thin_rises c d (Less_first f fs gs t) h = thin_rises c d t (from_lower c f.call d f.count fs h.0.0 h.1.0 h.2)

pub ending_rises : (name : List ℕ) (kept : Option ℕ) (ms : List Made) (c d : ℕ) → Rises c d (failures ms)
    → Rises c d (failures (ending_calls name kept ms))
ending_rises name kept ms c d h = thin_rises c d (ending_thin name kept ms) h

unlisted_begins : {list : Listing} {failed : FailedCall} {room : Bool} {why : Fault}
    (ss : List Standing) → Without list failed room why
    → AfterListing list failed ss (Entry.UnsettledAll why ∷ []) ss (names_of ss) [] false
unlisted_begins ss (No_room found failed) = inr (refl, refl, refl, refl, refl)
unlisted_begins ss x = (refl, refl, refl, refl, refl)

-- the numbers that are given out

given_length : (es fs : List Entry)
    → length (numbers_given (es ++ fs)) ≡ length (numbers_given es) + length (numbers_given fs)
given_length es fs =
    ap length (given_more es fs) ∙ length-append (numbers_given es) (numbers_given fs)

pub chain_next : {J : Type 0} {answer : Answers J} {later : Laters J} {binds : Bool} {terms : Terms}
    {names : List (List ℕ)} {w v : State J} {ok : Bool} {ms : List Made} {es : List Entry}
    → Chain answer later binds terms names w ok ms es v
    → v.next ≡ w.next + length (numbers_given es)
chain_next (Over w) = omega arith
chain_next (First name names how w x v ok more ms ns es p c) =
    let next : next_after w p.judged ≡ w.next + given_count p.judged =
    elim p.judged as (λ o. next_after w o ≡ w.next + given_count o) [ None ↦ omega arith | Some o ↦ refl ] in
    omega (arith, chain_next c, p.next, next, flat_given p.flat, given_length p.rest es)

-- one a name at most, and none where nothing is bound
pub chain_given : {J : Type 0} {answer : Answers J} {later : Laters J} {terms : Terms}
    {names : List (List ℕ)} {w v : State J} {ok : Bool} {ms : List Made} {es : List Entry}
    → Chain answer later true terms names w ok ms es v → length (numbers_given es) ≤ length names
chain_given (Over w) = omega arith
chain_given (First name names how w x v ok more ms ns es p c) =
    omega (arith, chain_given c, (flat_is_part p.flat).given, given_length p.rest es)

pub chain_none : {J : Type 0} {answer : Answers J} {later : Laters J} {terms : Terms}
    {names : List (List ℕ)} {w v : State J} {ok : Bool} {ms : List Made} {es : List Entry}
    → Chain answer later false terms names w ok ms es v → length (numbers_given es) ≡ 0
chain_none (Over w) = refl
chain_none (First name names how w x v ok more ms ns es p c) =
    omega (arith, chain_none c, flat_given p.flat, flat_none refl p.flat, given_length p.rest es)

-- the parts of a sweep
pub in_parts : {S J : Type 0} {gives : S → (call : Call) → Answer call → S → Type 0}
    {answer : Answers J} {later : Laters J} {s t : S} {w v : State J} {ok : Bool} {ms : List Made}
    {es : List Entry} → Along gives s ms t → Goes answer later w ok ms es v
    → GoesInParts gives s w t v
in_parts {w = w} a (Listed found failed ok shut made es v closings c) =
    let names = in_sweep_order found in
    record {
      listed = told_at (Listing.Names found) failed;
      later = shut ++ made;
      along = a;
      head = farewells names w.standings;
      rest = es;
      entries = goes_entries (Listed found failed ok shut made es v closings c);
      left = filter (λ (x : Standing). lists names x.name) w.standings;
      names = names;
      shut = shut;
      made = made;
      ending = chain_ending c;
      cut = refl;
      binds = true;
      begins = inl (refl, refl, refl, refl, closings);
      parts = chain_parts c;
      next = chain_next c;
      given = omega (arith, chain_given c, length-sweep_order found);
    }
in_parts {w = w} a (Unlisted list failed room why ok made es v by c) =
    record {
      listed = told_at list failed;
      later = made;
      along = a;
      head = Entry.UnsettledAll why ∷ [];
      rest = es;
      entries = goes_entries (Unlisted list failed room why ok made es v by c);
      left = w.standings;
      names = names_of w.standings;
      shut = [];
      made = made;
      ending = chain_ending c;
      cut = refl;
      binds = false;
      begins = unlisted_begins w.standings by;
      parts = chain_parts c;
      next = chain_next c;
      given = omega (arith, chain_none c);
    }

-- each failed call is told in its part
pub chain_tells : {J : Type 0} {answer : Answers J} {later : Laters J} {binds : Bool} {terms : Terms}
    {names : List (List ℕ)} {w v : State J} {ok : Bool} {ms : List Made} {es : List Entry}
    → (c : Chain answer later binds terms names w ok ms es v) → failures_told es ≡ failures (chain_ending c)
chain_tells (Over w) = refl
chain_tells (First name names how w x v ok more ms ns es p c) =
    told_more p.rest es
    ∙ ap (λ (y : List FailedCall). y ++ failures_told es) (flat_is_part p.flat).told
    ∙ ap (λ (y : List FailedCall). failures (ending_calls name (kept_file name w.standings) ms) ++ y) (chain_tells c)
    ∙ sym (failures_more (ending_calls name (kept_file name w.standings) ms) (chain_ending c))

why_told : {list : Listing} {failed : FailedCall} {room : Bool} {why : Fault}
    → Without list failed room why → call_told why ≡ failure Names (told_at list failed)
why_told (List_failed failed) = refl
why_told x = refl

abbrev pub goes_ending : {J : Type 0} {answer : Answers J} {later : Laters J} {w v : State J} {ok : Bool}
    {ms : List Made} {es : List Entry} → Goes answer later w ok ms es v → List Made
goes_ending (Listed found failed ok shut made es v closings c) =
    made_with Names (told_at (Listing.Names found) failed) ∷ (shut ++ chain_ending c)
goes_ending (Unlisted list failed room why ok made es v by c) = made_with Names (told_at list failed) ∷ chain_ending c

pub goes_tells : {J : Type 0} {answer : Answers J} {later : Laters J} {w v : State J} {ok : Bool}
    {ms : List Made} {es : List Entry} → (g : Goes answer later w ok ms es v)
    → failures_told es ≡ failures (goes_ending g)
goes_tells {w = w} (Listed found failed ok shut made es v closings c) =
    let names = in_sweep_order found in
    told_more (farewells names w.standings) es
    ∙ ap (λ (y : List FailedCall). y ++ failures_told es) (farewells_by (λ fs. failures_told fs ≡ []) refl
    (λ number name fs h. h) names w.standings)
    ∙ chain_tells c
    ∙ sym (failures_more shut (chain_ending c)
    ∙ ap (λ (y : List FailedCall). y ++ failures (chain_ending c))
    (closings_calm (unlisted_files names w.standings) shut closings))
goes_tells (Unlisted list failed room why ok made es v by c) =
    ap (λ (y : List FailedCall). call_told why ++ y) (chain_tells c)
    ∙ ap (λ (y : List FailedCall). y ++ failures (chain_ending c)) (why_told by)

-- and a sweep tells no other
pub sweeping_tells : {S J : Type 0} (gives : S → (call : Call) → Answer call → S → Type 0)
    (calls faults : S → ℕ) (counted : Counting gives calls faults) (answer : Answers J)
    (later : Laters J) (s : S) (w : State J) (t : S) (v : State J)
    → Runs gives s (sweeping answer later w) v t → TellsFaults gives calls faults s w t v
unfolding in_parts
sweeping_tells {S} {J} gives calls faults counted answer later s w t v h =
    let x = sweeping_run gives answer later s w t v h in
    let exact = exact_in x.along x.so.1 in
    let g = in_parts x.along x.so.1 in
    let ms : List Made = made_with Names g.listed ∷ g.later in
    record {
      goes = g;
      exact = exact;
      numbered = along_numbered gives calls faults counted ms s t g.along;
      rises = λ low. subst (λ (y : List FailedCall). Rises (calls s) (faults s) y) (sym exact)
          (thin_rises (calls s) (faults s) (sweep_thin g)
          (along_rises gives calls faults counted ms s t low g.along));
    }
  where
    exact_in : {ok : Bool} {ms : List Made} {es : List Entry} (a : Along gives s ms t)
        → (g : Goes answer later w ok ms es v) → let p = in_parts {gives = gives} a g in
        failures_told (p.head ++ p.rest) ≡ failures (made_with Names p.listed ∷ (p.shut ++ p.ending))
    exact_in a (Listed found failed ok shut made es v closings c) =
        goes_tells (Listed found failed ok shut made es v closings c)
    exact_in a (Unlisted list failed room why ok made es v by c) =
        goes_tells (Unlisted list failed room why ok made es v by c)
