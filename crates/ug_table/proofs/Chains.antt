-- A sweep, flat: the listing, the closings of what isn't listed, and a chain of parts, one for each name, each with its shape.
use Rattle.std.proofs.Common.{◌≡◌, ℕ, Bool, true, false, not, cond, map, List, [], ◌∷◌, refl, sym, ◌∙◌, ap, subst, ◌&&◌, ◌++◌, Option, Some, append_assoc, append-nil}
use Rattle.ug_table.proofs.Common.{Terms, terms_of, terms_for, Write, Held, Close, Call, Answer, Names, Kernel, IsKernel, Quiet, Ask, calls, Runs, Made, made_with, Along, failures, failure_of, lists, numbered, farewells, AreClosings, unlisted_files, Standing, in_sweep_order, FailedCall, Listing, Entry, Fault, State, Kept, kept_of, with_kept, noted, Answers, Laters, Settled, Target, Cause, closing_unlisted, settling_all, resettling_all, parted, names_of, resumed, unlisted, marked_listed, if_room, after_list, sweeping, settling, resettling, Ways, Sure, ways_more, along_sound, Unwritten, along_quiet, Ran, ways_next, ways_last, behind_sure, ways_run, filter, again_numbered, resettling_numbered}
use Rattle.ug_table.proofs.Shapes.{Piece, Settles, settles, Resettles, resettles, told_at}

-- The closing of the files of what isn't listed.

-- each file is closed, in order
pub closes : (names : List (List ℕ)) (ss : List Standing) → Ways (closing_unlisted names ss) (Sure (λ ms (r : Unit {0}). AreClosings (unlisted_files names ss) ms))
closes names [] = (refl, refl)
closes names (x ∷ ss) = by (lists names x.name) (closes names ss)
  where
    files : Bool → List Held
    files b = map (λ (y : Standing). y.held) (cond (not b) (x ∷ filter (λ (y : Standing). not (lists names y.name)) ss) (filter (λ (y : Standing). not (lists names y.name)) ss))

    by : (b : Bool) → Ways (closing_unlisted names ss) (Sure (λ ms (r : Unit {0}). AreClosings (unlisted_files names ss) ms)) → Ways (cond b (closing_unlisted names ss) (Ask (Close x.held.0) (λ closed. closing_unlisted names ss))) (Sure (λ ms (r : Unit {0}). AreClosings (files b) ms))
    by true more = more
    by false more = λ shut. ways_more (Sure (λ ms (r : Unit {0}). AreClosings (unlisted_files names ss) ms)) (Sure (λ ms (r : Unit {0}). AreClosings (files false) (made_with (Close x.held.0) shut ∷ ms))) (closing_unlisted names ss) (λ ok ms r h. (h.0, (shut, ms, refl, h.1))) more

pub closings_calm : (files : List Held) (ms : List Made) → AreClosings files ms → failures ms ≡ []
closings_calm [] ms h = ap failures h
closings_calm (file ∷ files) ms h = ap failures h.2 ∙ closings_calm files h.1 h.3

-- it writes nothing

closings_unwritten : (files : List Held) (ms : List Made) → AreClosings files ms → Unwritten ms
closings_unwritten [] ms h = subst (λ v. Unwritten v) (sym h) tt
closings_unwritten (file ∷ files) ms h = subst (λ v. Unwritten v) (sym h.2) (tt, closings_unwritten files h.1 h.3)

pub closings_quiet : (files : List Held) (ms : List Made) (k l : Kernel) → IsKernel k
    → AreClosings files ms → Along calls k ms l → IsKernel l × Quiet k l
closings_quiet files ms k l sound c a =
    (along_sound ms k l sound a, along_quiet ms k l (closings_unwritten files ms c) a)

-- one for each name, in this order
pub data Chain {J : Type 0} (answer : Answers J) (later : Laters J) (binds : Bool) (terms : Terms)
    : List (List ℕ) → State J → Bool → List Made → List Entry → State J → Type 0 where
  Over : (w : State J) → Chain answer later binds terms [] w true [] [] w
  First : (name : List ℕ) (names : List (List ℕ)) (how : Settled) (w x v : State J) (ok more : Bool)
      (ms ns : List Made) (es : List Entry)
      → (p : Piece answer later binds terms name w ok ms how x)
      → Chain answer later binds terms names x more ns es v
      → Chain answer later binds terms (name ∷ names) w (ok && more) (ms ++ ns) (p.rest ++ es) v

-- why names aren't bound: the listing failed, or memory was short for it, or for what is noted of it
pub data Without : Listing → FailedCall → Bool → Fault → Type 0 where
  List_failed : (failed : FailedCall) → Without Listing.Failed failed true (Fault.Call failed)
  List_short : (failed : FailedCall) → Without Listing.Memory failed true Fault.Memory
  No_room : (found : List (List ℕ)) (failed : FailedCall)
      → Without (Listing.Names found) failed false Fault.Memory

-- the listed names have parts, and else the names that stand
pub data Goes {J : Type 0} (answer : Answers J) (later : Laters J) (w : State J)
    : Bool → List Made → List Entry → State J → Type 0 where
  Listed : (found : List (List ℕ)) (failed : FailedCall) (ok : Bool) (shut made : List Made)
      (es : List Entry) (v : State J)
      → AreClosings (unlisted_files (in_sweep_order found) w.standings) shut
      → Chain answer later true (terms_for w) (in_sweep_order found)
      (marked_listed (parted (in_sweep_order found) w)) ok made es v
      → Goes answer later w ok
      (made_with Names (told_at (Listing.Names found) failed) ∷ (shut ++ made))
      (farewells (in_sweep_order found) w.standings ++ es) v
  Unlisted : (list : Listing) (failed : FailedCall) (room : Bool) (why : Fault) (ok : Bool)
      (made : List Made) (es : List Entry) (v : State J)
      → Without list failed room why
      → Chain answer later false (terms_for w) (names_of w.standings)
      (noted w (Entry.UnsettledAll why)) ok made es v
      → Goes answer later w (room && ok) (made_with Names (told_at list failed) ∷ made)
      (Entry.UnsettledAll why ∷ es) v

-- the walk

module _ {J : Type 0} (answer : Answers J) (later : Laters J) where
  -- whatever its entries
  abbrev pub Linked : Bool → Terms → List (List ℕ) → State J → Bool → List Made → State J → Type 0
  Linked binds terms names w ok ms v =
      (es : List Entry) × Chain answer later binds terms names w ok ms es v

  abbrev pub Comes : State J → Bool → List Made → State J → Type 0
  Comes w ok ms v = (es : List Entry) × Goes answer later w ok ms es v

  linked : (binds : Bool) (terms : Terms) (name : List ℕ) (names : List (List ℕ)) (w x v : State J)
      (ok more : Bool) (ms ns : List Made) (how : Settled)
      → Piece answer later binds terms name w ok ms how x → Linked binds terms names x more ns v
      → Linked binds terms (name ∷ names) w (ok && more) (ms ++ ns) v
  linked binds terms name names w x v ok more ms ns how p c =
      (p.rest ++ c.0, First name names how w x v ok more ms ns c.0 p c.1)

  pub settling_chain : (names : List (List ℕ)) (terms : Terms) (w : State J)
      → Ways (settling_all answer later names terms w) (Linked true terms names w)
  settling_chain [] terms w = ([], Over w)
  settling_chain (name ∷ names) terms w =
      let Q = Linked true terms (name ∷ names) w in
      ways_next (Settles answer later name terms w) Q (settling answer later name terms w)
      (λ (p : Settled × State J). settling_all answer later names terms p.1)
      (settles answer later name terms w)
      (λ ok ms p a. ways_more (Linked true terms names p.1)
      (λ more ns v. Q (ok && more) (ms ++ ns) v)
      (settling_all answer later names terms p.1)
      (λ more ns v c. linked true terms name names w p.1 v ok more ms ns p.0 a c)
      (settling_chain names terms p.1))

  resettling_chain : (names : List (List ℕ)) (terms : Terms) (w : State J) (k : Kept)
      → Ways (resettling_all terms.hub names k)
      (λ ok ms j. Linked false terms names (with_kept w k) ok ms (with_kept w j))
  resettling_chain [] terms w k = ([], Over (with_kept w k))
  resettling_chain (name ∷ names) terms w k =
      let all : List (List ℕ) = name ∷ names in
      let u : State J = with_kept w k in
      let L : List (List ℕ) → State J → Bool → List Made → Kept → Type 0 =
      λ ns x ok ms j. Linked false terms ns x ok ms (with_kept w j) in
      ways_next (Resettles answer later name terms w k) (L all u) (resettling terms.hub name k)
      (λ (p : Settled × Kept). resettling_all terms.hub names p.1) (resettles answer later name terms w k)
      (λ ok ms p a.
      let x : State J = with_kept w p.1 in
      ways_more (L names x) (λ more ns j. L all u (ok && more) (ms ++ ns) j)
      (resettling_all terms.hub names p.1)
      (λ more ns j c. linked false terms name names u x (with_kept w j) ok more ms ns p.0 a c)
      (resettling_chain names terms w p.1))

  pub sweeping_by : (w : State J) → Ways (sweeping answer later w) (Comes w)
  unfolding sweeping
  sweeping_by w = λ t. by t.answer (failure_of t)
    where
      -- behind that answer to the listing
      Behind : Listing → FailedCall → Bool → List Made → State J → Type 0
      Behind list failed ok ms v = Comes w ok (made_with Names (told_at list failed) ∷ ms) v

      without : (list : Listing) (failed : FailedCall) (room : Bool) (why : Fault)
          → Without list failed room why
          → Ways (unlisted why w) (λ ok ms v. Behind list failed (room && ok) ms v)
      without list failed room why by =
          let names = names_of w.standings in
          let k = kept_of w.standings (w.entries ++ Entry.UnsettledAll why ∷ []) in
          ways_last (λ ok ms j. Linked false (terms_for w) names (with_kept w k) ok ms
          (with_kept w j))
          (λ ok ms v. Behind list failed (room && ok) ms v) (resettling_all w.hub names k) (resumed w)
          (λ j. with_kept w j) (λ j. refl) (resettling_chain names (terms_for w) w k)
          (λ ok ms j c. let v : State J = with_kept w j in
          (Entry.UnsettledAll why ∷ c.0, Unlisted list failed room why ok ms c.0 v by c.1))

      with_room : (found : List (List ℕ)) (failed : FailedCall) (room : Bool)
          → Ways (if_room answer later (in_sweep_order found) w room)
          (λ ok ms v. Behind (Listing.Names found) failed (room && ok) ms v)
      with_room found failed true =
          let names = in_sweep_order found in
          let u : State J = marked_listed (parted names w) in
          let list = Listing.Names found in
          behind_sure (λ ms (r : Unit {0}). AreClosings (unlisted_files names w.standings) ms)
          (Behind list failed) (closing_unlisted names w.standings)
          (λ (r : Unit {0}). settling_all answer later names (terms_for w) u)
          (closes names w.standings)
          (λ shut r closings. ways_more (Linked true (terms_for w) names u)
          (λ ok ms v. Behind list failed ok (shut ++ ms) v)
          (settling_all answer later names (terms_for w) u)
          (λ ok ms v c. (
            farewells names w.standings ++ c.0,
            Listed found failed ok shut ms c.0
                v closings c.1,
          ))
          (settling_chain names (terms_for w) u))
      with_room found failed false =
          without (Listing.Names found) failed false Fault.Memory (No_room found failed)

      by : (list : Listing) (failed : FailedCall)
          → Ways (after_list answer later w list failed) (Behind list failed)
      by (Listing.Names found) failed = λ room. with_room found failed room
      by Listing.Failed failed =
          without Listing.Failed failed true (Fault.Call failed) (List_failed failed)
      by Listing.Memory failed =
          without Listing.Memory failed true Fault.Memory (List_short failed)

-- the entries that are added

pub chain_entries : {J : Type 0} {answer : Answers J} {later : Laters J} {binds : Bool} {terms : Terms}
    {names : List (List ℕ)} {w v : State J} {ok : Bool} {ms : List Made} {es : List Entry}
    → Chain answer later binds terms names w ok ms es v → v.entries ≡ w.entries ++ es
chain_entries (Over w) = sym (append-nil w.entries)
chain_entries (First name names how w x v ok more ms ns es p c) =
    chain_entries c ∙ ap (λ (y : List Entry). y ++ es) p.entries ∙ append_assoc w.entries p.rest es

pub goes_entries : {J : Type 0} {answer : Answers J} {later : Laters J} {w v : State J} {ok : Bool}
    {ms : List Made} {es : List Entry} → Goes answer later w ok ms es v
    → v.entries ≡ w.entries ++ es
goes_entries {w = w} (Listed found failed ok shut made es v closings c) =
    chain_entries c ∙ append_assoc w.entries (farewells (in_sweep_order found) w.standings) es
goes_entries {w = w} (Unlisted list failed room why ok made es v by c) =
    chain_entries c ∙ append_assoc w.entries (Entry.UnsettledAll why ∷ []) es

-- over the states of a run

module _ {S J : Type 0} (gives : S → (call : Call) → Answer call → S → Type 0) (answer : Answers J)
    (later : Laters J) where
  pub settling_run : (name : List ℕ) (terms : Terms) (w : State J) (s : S) (p : Settled × State J)
      (t : S) → Runs gives s (settling answer later name terms w) p t
      → Ran gives (Settles answer later name terms w) s p t
  settling_run name terms w s p t h =
      ways_run gives (Settles answer later name terms w) (settling answer later name terms w) s
      p t
      (settles answer later name terms w) h

  pub resettling_run : (name : List ℕ) (terms : Terms) (w : State J) (k : Kept) (s : S)
      (p : Settled × Kept) (t : S) → Runs gives s (resettling terms.hub name k) p t
      → Ran gives (Resettles answer later name terms w k) s p t
  resettling_run name terms w k s p t h =
      ways_run gives (Resettles answer later name terms w k) (resettling terms.hub name k) s p t
      (resettles answer later name terms w k) h

  pub sweeping_run : (s : S) (w : State J) (t : S) (v : State J)
      → Runs gives s (sweeping answer later w) v t → Ran gives (Comes answer later w) s v t
  sweeping_run s w t v h =
      ways_run gives (Comes answer later w) (sweeping answer later w) s v t
      (sweeping_by answer later w) h

-- the standing of a number is settled by its name
pub run_numbered : {S : Type 0} (gives : S → (call : Call) → Answer call → S → Type 0) (hub : Option Write) (number : ℕ)
    (k : Kept) (x : Standing) (s : S) (p : Settled × Kept) (t : S)
    → numbered number k.standings ≡ Some x → Runs gives s (resettling_numbered hub number k) p t
    → Runs gives s (resettling hub x.name k) p t
unfolding resettling_numbered
run_numbered gives hub number k x s p t e r =
    subst (λ (o : Option Standing). Runs gives s (again_numbered hub k o) p t) e r

-- whatever the judge is

pub no_verdict : Answers (Unit {0})
no_verdict judge dev controller present on ss = (Target.Block, Cause.Implicit)

pub no_later : Laters (Unit {0})
no_later judge dev controller present on ss = tt

abbrev pub unjudged : Option Write → Kept → State (Unit {0})
unjudged hub k = record {
  standings = k.standings;
  next = 0;
  listed = false;
  judge = tt;
  hub = hub;
  entries =
      k.entries;
}

pub numbered_run : {S : Type 0} (gives : S → (call : Call) → Answer call → S → Type 0) (hub : Option Write) (number : ℕ)
    (k : Kept) (x : Standing) (s : S) (p : Settled × Kept) (t : S)
    → numbered number k.standings ≡ Some x → Runs gives s (resettling_numbered hub number k) p t
    → Ran gives (Resettles no_verdict no_later x.name (terms_of false hub) (unjudged hub k) k) s p t
numbered_run gives hub number k x s p t e r =
    resettling_run gives no_verdict no_later x.name (terms_of false hub) (unjudged hub k) k s p t
    (run_numbered gives hub number k x s p t e r)
