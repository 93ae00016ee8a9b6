-- What a sweep tells of failed calls and of want of memory: it tells each, and no other.
use Rattle.std.proofs.Common.{◌≡◌, ℕ, Bool, true, false, not, ◌&&◌, ◌||◌, List, [], ◌∷◌, ◌++◌, refl, sym, ◌∙◌, ap, subst}
use Rattle.std.specs.List.{list_any}
use Rattle.std.proofs.lemmas.Bool.{or_left, or_parts, or_right}
use Rattle.std.proofs.lemmas.List.Folds.{list_any-append}
use Rattle.ug_table.proofs.Common.{Terms, in_sweep_order, Held, Names, Made, failure, failures, failures_more, ending_calls, kept_file, FailedCall, Entry, State, Answers, Laters, farewells, AreClosings, unlisted_files, failure_in, failures_told, Fault}
use Rattle.ug_kernel.specs.Tree.{Prog, Return, Runs, then}
use Rattle.ug_kernel.proofs.Ways.{Ways, ways_more, ways_last}
use Rattle.ug_sysfs.specs.World.{IsUnfailing, World, Gives}
use Rattle.ug_table.specs.Sweep.{settling_all, sweeping}
use Rattle.ug_table.proofs.NamedStandings.{farewells_by}
use Rattle.ug_table.proofs.Shapes.{told_at}
use Rattle.ug_table.proofs.Chains.{Chain, Over, First, List_failed, List_short, No_room, Goes, Linked, Listed, Unlisted, Comes, settling_chain, sweeping_by, chain_entries, goes_entries}
use Rattle.ug_table.proofs.Faults.{Thinner, None_left, chain_ending, chain_tells, ending_thin, goes_ending, goes_tells, thin_more, thin_refl}
use Rattle.ug_script.specs.Play.{play, entry_tells_memory, tells_memory, TellsMemory, IsPlayed, names_somebody, NameNobody}
use Rattle.ug_table.proofs.PartCalls.{has_want, want_more}
use Rattle.ug_script.proofs.Plays.{refused, play_way, TellsWant, played}
use Rattle.ug_script.proofs.Wants.{memory_more, flat_want}

-- entries that are added tell want of memory just where memory was refused, and no failed call where
-- none failed
pub record Sums (es : List Entry) (ok : Bool) (ms : List Made) (fs : List Entry) : Type 0 where
  pub rest : List Entry
  pub entries : fs ≡ es ++ rest
  pub wants : tells_memory rest ≡ refused ok ms
  pub faults : failures ms ≡ [] → failures_told rest ≡ []

pub refused_more : (a b x y : Bool) → ((not a || x) || (not b || y)) ≡ (not (a && b) || (x || y))
refused_more true true x y = refl
refused_more true false x y = or_right x true refl
refused_more false b x y = refl

-- a chain

chain_wants : {J : Type 0} {answer : Answers J} {later : Laters J} {binds : Bool} {terms : Terms}
    {names : List (List ℕ)} {w v : State J} {ok : Bool} {ms : List Made} {es : List Entry}
    → Chain answer later binds terms names w ok ms es v → tells_memory es ≡ refused ok ms
chain_wants (Over w) = refl
chain_wants (First name names how w x v ok more ms ns es p c) =
    memory_more p.rest es
    ∙ ap (λ (b : Bool). b || tells_memory es) (flat_want p.flat)
    ∙ ap (λ (b : Bool). refused ok ms || b) (chain_wants c)
    ∙ refused_more ok more (has_want ms) (has_want ns)
    ∙ sym (ap (λ (b : Bool). not (ok && more) || b) (want_more ms ns))

-- closings and `gone` tell nothing

closings_sure : (files : List Held) (ms : List Made) → AreClosings files ms → has_want ms ≡ false
closings_sure [] ms h = ap has_want h
closings_sure (file ∷ files) ms h = ap has_want h.2 ∙ closings_sure files h.1 h.3

-- a sweep
goes_wants : {J : Type 0} {answer : Answers J} {later : Laters J} {w v : State J} {ok : Bool}
    {ms : List Made} {es : List Entry} → Goes answer later w ok ms es v
    → tells_memory es ≡ refused ok ms
goes_wants {w = w} (Listed found failed ok shut made es v closings c) =
    let names = in_sweep_order found in
    let sure = closings_sure (unlisted_files names w.standings) shut closings in
    memory_more (farewells names w.standings) es
    ∙ ap (λ (b : Bool). b || tells_memory es) (farewells_by (λ fs. tells_memory fs ≡ false) refl
    (λ number name fs h. h) names w.standings)
    ∙ chain_wants c
    ∙ sym (ap (λ (b : Bool). not ok || b)
    (want_more shut made ∙ ap (λ (b : Bool). b || has_want made) sure))
goes_wants (Unlisted list failed room why ok made es v (List_failed last) c) = chain_wants c
goes_wants (Unlisted list failed room why ok made es v (List_short last) c) = sym
    (or_right (not ok) true refl)
goes_wants (Unlisted list failed room why ok made es v (No_room found last) c) = refl

thin_calm : (fs gs : List FailedCall) → Thinner fs gs → fs ≡ [] → gs ≡ []
thin_calm fs gs t e = by (subst (λ (v : List FailedCall). Thinner v gs) e t)
  where
    by : {hs : List FailedCall} → Thinner [] hs → hs ≡ []
    by None_left = refl

-- some are left out of the failed calls that are told
chain_thin : {J : Type 0} {answer : Answers J} {later : Laters J} {binds : Bool} {terms : Terms}
    {names : List (List ℕ)} {w v : State J} {ok : Bool} {ms : List Made} {es : List Entry}
    → (c : Chain answer later binds terms names w ok ms es v)
    → Thinner (failures ms) (failures (chain_ending c))
chain_thin (Over w) = None_left
chain_thin (First name names how w x v ok more ms ns es p c) =
    let own : List Made = ending_calls name (kept_file name w.standings) ms in
    subst (λ (fs : List FailedCall). Thinner fs (failures (own ++ chain_ending c)))
    (sym (failures_more ms ns))
    (subst (λ (fs : List FailedCall). Thinner (failures ms ++ failures ns) fs)
    (sym (failures_more own (chain_ending c)))
    (thin_more (ending_thin name (kept_file name w.standings) ms) (chain_thin c)))

goes_thin : {J : Type 0} {answer : Answers J} {later : Laters J} {w v : State J} {ok : Bool}
    {ms : List Made} {es : List Entry} → (g : Goes answer later w ok ms es v)
    → Thinner (failures ms) (failures (goes_ending g))
goes_thin (Listed found failed ok shut made es v closings c) =
    subst (λ (fs : List FailedCall). Thinner fs (failures (shut ++ chain_ending c)))
    (sym (failures_more shut made))
    (subst (λ (fs : List FailedCall). Thinner (failures shut ++ failures made) fs)
    (sym (failures_more shut (chain_ending c)))
    (thin_more (thin_refl (failures shut)) (chain_thin c)))
goes_thin (Unlisted list failed room why ok made es v by c) =
    thin_more (thin_refl (failure Names (told_at list failed))) (chain_thin c)

goes_calm : {J : Type 0} {answer : Answers J} {later : Laters J} {w v : State J} {ok : Bool}
    {ms : List Made} {es : List Entry} → Goes answer later w ok ms es v → failures ms ≡ []
    → failures_told es ≡ []
goes_calm {ms = ms} g e = goes_tells g ∙ thin_calm (failures ms) (failures (goes_ending g)) (goes_thin g) e

pub sweeping_sums : {J : Type 0} (answer : Answers J) (later : Laters J) (w : State J)
    → Ways (sweeping answer later w) (λ ok ms v. Sums w.entries ok ms v.entries)
sweeping_sums answer later w =
    ways_more (Comes answer later w) (λ ok ms v. Sums w.entries ok ms v.entries)
    (sweeping answer later w)
    (λ ok ms v x. record {
      rest = x.0;
      entries = goes_entries x.1;
      wants = goes_wants x.1;
      faults = goes_calm x.1;
    })
    (sweeping_by answer later w)

-- the settling of given names

chain_calm : {J : Type 0} {answer : Answers J} {later : Laters J} {binds : Bool} {terms : Terms}
    {names : List (List ℕ)} {w v : State J} {ok : Bool} {ms : List Made} {es : List Entry}
    → Chain answer later binds terms names w ok ms es v → failures ms ≡ [] → failures_told es ≡ []
chain_calm {ms = ms} c e =
    chain_tells c ∙ thin_calm (failures ms) (failures (chain_ending c)) (chain_thin c) e

pub settling_sums : {J : Type 0} (answer : Answers J) (later : Laters J) (names : List (List ℕ))
    (terms : Terms) (w : State J)
    → Ways (settling_all answer later names terms w) (λ ok ms v. Sums w.entries ok ms v.entries)
settling_sums answer later names terms w =
    ways_more (Linked answer later true terms names w) (λ ok ms v. Sums w.entries ok ms v.entries)
    (settling_all answer later names terms w)
    (λ ok ms v x. record {
      rest = x.0;
      entries = chain_entries x.1;
      wants = chain_wants x.1;
      faults = chain_calm x.1;
    })
    (settling_chain answer later names terms w)

-- what a script fixes of it

pub sweeping_played : {J : Type 0} (answer : Answers J) (later : Laters J) (w : State J) (s : World) (v : State J) (t : World) → Runs Gives s (sweeping answer later w) v t → IsPlayed (λ (x : State J). TellsMemory w.entries x.entries) (sweeping answer later w) s v t
sweeping_played {J} answer later w s v t h =
    let T : State J → Type 0 = λ x. TellsMemory w.entries x.entries in
    played T (sweeping answer later w) s v t (ways_more (λ ok ms x. Sums w.entries ok ms x.entries) (TellsWant T) (sweeping answer later w) (λ ok ms x b e. (b.rest, b.entries, b.wants ∙ e)) (sweeping_sums answer later w)) h

-- a sweep, and then some entries: one of them all tells want of memory
pub event_played : {J D : Type 0} (answer : Answers J) (later : Laters J) (w : State J) (f : State J → Prog D) (g : State J → D) (of : D → List Entry) (end : List Entry) (s : World) (r : D) (t : World) → ((v : State J) → f v ≡ Return (g v)) → ((v : State J) → of (g v) ≡ v.entries ++ end) → Runs Gives s (then (sweeping answer later w) f) r t → IsPlayed (λ (x : D). tells_memory (of x) ≡ true) (then (sweeping answer later w) f) s r t
event_played {J} {D} answer later w f g of end s r t ends adds h =
    let T : D → Type 0 = λ x. tells_memory (of x) ≡ true in
    let tells : (ok : Bool) (ms : List Made) (v : State J) → Sums w.entries ok ms v.entries → TellsWant T ok ms (g v) = λ ok ms v b e.
    ap tells_memory (adds v) ∙ memory_more v.entries end ∙ or_left (tells_memory v.entries)
    (tells_memory end) (ap tells_memory b.entries ∙ memory_more w.entries b.rest ∙ ap
    (λ (x : Bool). tells_memory w.entries || x) (b.wants ∙ e) ∙ or_right
    (tells_memory w.entries) true refl) in
    played T (then (sweeping answer later w) f) s r t (ways_last (λ ok ms v. Sums w.entries ok ms v.entries) (TellsWant T) (sweeping answer later w) f g ends (sweeping_sums answer later w) tells) h

-- it tells no want of memory
pub sure_sweep : {J : Type 0} (answer : Answers J) (later : Laters J) (w : State J) (s : World) → tells_memory w.entries ≡ false → tells_memory (play (sweeping answer later w) s).0.entries ≡ false
sure_sweep {J} answer later w s n =
    let k = play_way (λ ok ms v. Sums w.entries ok ms v.entries) (sweeping answer later w) s (sweeping_sums answer later w) in
    ap tells_memory k.so.entries ∙ memory_more w.entries k.so.rest ∙ ap (λ (b : Bool). b || tells_memory k.so.rest) n ∙ k.so.wants ∙ k.sure

-- and where no call is to fail, it names nobody

pub nobody_more : (es fs : List Entry) → NameNobody es → NameNobody fs → NameNobody (es ++ fs)
nobody_more es fs a b = list_any-append names_somebody es fs ∙ ap (λ (v : Bool). v || list_any names_somebody fs) a ∙ b

pub nothing_behind : (xs ys : List FailedCall) → xs ++ ys ≡ [] → ys ≡ []
nothing_behind [] ys e = e
nothing_behind (x ∷ xs) ys e = let none : ⊥ = cc in absurd none

pub nobody_told : (es : List Entry) → tells_memory es ≡ false → failures_told es ≡ [] → NameNobody es
nobody_told [] m f = refl
nobody_told (Entry.Unsettled name (Fault.Call failed) ∷ es) m f = let none : ⊥ = cc in absurd none
nobody_told (Entry.Unsettled name Fault.Memory ∷ es) m f = let none : ⊥ = cc in absurd none
nobody_told (Entry.UnsettledAll (Fault.Call failed) ∷ es) m f = let none : ⊥ = cc in absurd none
nobody_told (Entry.UnsettledAll Fault.Memory ∷ es) m f = let none : ⊥ = cc in absurd none
nobody_told (e ∷ es) m f = nobody_told es (or_parts (entry_tells_memory e) (tells_memory es) m).1 (nothing_behind (failure_in e) (failures_told es) f)

pub quiet_sweep : {J : Type 0} (answer : Answers J) (later : Laters J) (w : State J) (s : World) → s.ran_out ≡ false → IsUnfailing s → NameNobody w.entries → NameNobody (play (sweeping answer later w) s).0.entries
quiet_sweep {J} answer later w s o e n =
    let k = play_way (λ ok ms v. Sums w.entries ok ms v.entries) (sweeping answer later w) s (sweeping_sums answer later w) in
    subst (λ (v : List Entry). NameNobody v) (sym k.so.entries) (nobody_more w.entries k.so.rest n (nobody_told k.so.rest (k.so.wants ∙ k.sure) (k.so.faults (k.calm o e))))
