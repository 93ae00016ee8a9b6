-- The settling of given names: the laws of a chain of parts, as a sweep has them behind its listing.
use Rattle.std.proofs.Common.{◌≡◌, ℕ, Bool, true, false, ◌&&◌, List, [], ◌∷◌, ◌++◌, Option, Some, inl, inr, refl, sym, ◌∙◌, ap, subst, append-nil, true≢false}
use Rattle.std.proofs.lemmas.Bool.{false_from_ne_true}
use Rattle.ug_table.proofs.Common.{Has, Call, Answer, Kernel, IsKernel, Follows, Runs, calls, failures, Rises, FailedCall, Fault, Entry, State, Answers, Laters, Terms, Standing, lists, failures_told, swept_before, AreInOrder, IsNamed, Stand, NeedsMemory, known_of, settling_all, cancel, along_grows, Ran, ways_run, told_run}
use Rattle.ug_table.specs.Several.{before_among, IsMarkedAmong, GoesInOrder, SettledNames, SettlesNames}
use Rattle.ug_kernel.proofs.Defaults.{along_logs}
use Rattle.ug_kernel.proofs.Rises.{Counting, along_numbered, along_rises}
use Rattle.ug_table.proofs.Chains.{Linked, settling_chain, chain_entries}
use Rattle.ug_table.proofs.Defaults.{fair_defaults}
use Rattle.ug_table.proofs.Fair.{Awaits, AreOwned, chain_fair}
use Rattle.ug_table.proofs.Faults.{chain_ending, chain_parts, chain_next, chain_given, chain_tells, parts_thin, thin_rises}
use Rattle.ug_table.proofs.Lived.{chain_well, lives_first, lives_last, stand_files, judged_at}
use Rattle.ug_table.proofs.Marks.{AreTried, AreSplit, AreFresh, not_first, names_distinct, NamesIn, Parts}
use Rattle.ug_table.proofs.Marks.{chain_parts as chain_marks}
use Rattle.ug_table.proofs.Once.{chain_once, chain_spared}
use Rattle.ug_table.proofs.Says.{each_has}
use Rattle.ug_table.proofs.NamedStandings.{listed_is, lists_has, either_listed, stands_one}
use Rattle.ug_table.proofs.Standings.{owned_refl, open_named}
use Rattle.ug_table.proofs.Steps.{fair_refl}

-- the names are tried in their order, and no other is

none_and : (b : Bool) → (b && false) ≡ false
none_and true = refl
none_and false = refl

both : (a b : Bool) → a ≡ true → b ≡ true → (a && b) ≡ true
both a b e f = ap (λ (v : Bool). v && b) e ∙ f

among_tried : (all names : List (List ℕ)) → ((n : List ℕ) → Has names n → Has all n) → AreInOrder names → AreTried (before_among all) names
among_tried all [] sub o = tt
among_tried all (name ∷ names) sub o = (
  λ n a. both (lists all name) (swept_before name n) (listed_is all name (sub name (inl refl))) (o.0 n a),
  λ n a. ap (λ (v : Bool). lists all n && v) (not_first name names n o a) ∙ none_and (lists all n),
  among_tried all names (λ n a. sub n (inr a)) o.1,
)

never_tried : (names : List (List ℕ)) (name : List ℕ) → (Has names name → ⊥) → (n : List ℕ) → before_among names name n ≡ false
never_tried names name ne n = ap (λ (v : Bool). v && swept_before name n) (false_from_ne_true (lists names name) (λ e. ne (lists_has names name e)))

among_split : {J : Type 0} (names : List (List ℕ)) (w : State J) → AreSplit (before_among names) names w w
among_split names w rest e s a = inr (
  elim (either_listed names s.name) [ inl h ↦ inl h | inr ne ↦ inr (never_tried names s.name ne) ],
  a,
)

none_added : (es rest : List Entry) → es ≡ es ++ rest → [] ≡ rest
none_added es rest e = cancel es [] rest (append-nil es ∙ e)

all_fresh : {J : Type 0} (names : List (List ℕ)) (w : State J) → AreFresh names w w
all_fresh names w rest e n a named = subst (λ (v : List Entry). Has v (Entry.Unsettled n named.0) → ⊥) (none_added w.entries rest e) (λ h. h) named.1

-- the run as a chain
names_run : {S J : Type 0} (gives : S → (call : Call) → Answer call → S → Type 0) (answer : Answers J) (later : Laters J) (terms : Terms) (names : List (List ℕ)) (w : State J) (s : S) (v : State J) (t : S)
    → Runs gives s (settling_all answer later names terms w) v t → Ran gives (Linked answer later true terms names w) s v t
names_run gives answer later terms names w s v t h =
    ways_run gives (Linked answer later true terms names w) (settling_all answer later names terms w) s v t (settling_chain answer later names terms w) h

-- whatever the kernel answers
marked_among : (names : List (List ℕ)) (before after : List Standing) (rest : List Entry) → Parts names before rest after → (x : Standing) → Has after x → IsMarkedAmong names before rest x
marked_among names before after rest p x a = elim (either_listed names x.name) [
  | inl h ↦ inl (h, p.mark x a h)
  | inr ne ↦ inr (ne, p.others x a ne)
]

pub names_part : {S J : Type 0} (gives : S → (call : Call) → Answer call → S → Type 0) (numbers faults : S → ℕ) (counted : Counting gives numbers faults) (answer : Answers J) (later : Laters J) (terms : Terms) (names : List (List ℕ)) (s : S) (w : State J) (t : S) (v : State J)
    → Runs gives s (settling_all answer later names terms w) v t → GoesInOrder gives numbers faults terms names s w t v
names_part gives numbers faults counted answer later terms names s w t v h order =
    let x = names_run gives answer later terms names w s v t h in
    let es : List Entry = x.so.0 in
    let chain = x.so.1 in
    let distinct = names_distinct names order in
    let marks = chain_marks distinct chain in
    let exact : failures_told es ≡ failures (chain_ending chain) = chain_tells chain in
    let parts = chain_parts chain in
    record {
      made = x.made;
      ending = chain_ending chain;
      along = x.along;
      rest = es;
      entries = chain_entries chain;
      parts = parts;
      exact = exact;
      numbered = along_numbered gives numbers faults counted x.made s t x.along;
      rises = λ low. subst (λ (y : List FailedCall). Rises (numbers s) (faults s) y) (sym exact)
          (thin_rises (numbers s) (faults s) (parts_thin terms.hub true names w.standings v.standings x.made (chain_ending chain) es parts)
          (along_rises gives numbers faults counted x.made s t low x.along));
      next = chain_next chain;
      given = chain_given chain;
      listed = marks.1;
      once = chain_once distinct chain;
      only = λ name n. each_has (NamesIn names) es (Entry.Unsettled name n.0) marks.0.only n.1;
      unlisted = λ n. each_has (NamesIn names) es (Entry.UnsettledAll n.0) marks.0.only n.1;
      marks = marked_among names w.standings v.standings es marks.0;
    }

-- over kernels
names_settled : {J : Type 0} (answer : Answers J) (later : Laters J) (terms : Terms) (names : List (List ℕ)) (w : State J) (k l : Kernel) (v : State J) → AreInOrder names → IsKernel k → Stand k w.standings w.next
    → Runs calls k (settling_all answer later names terms w) v l → SettledNames answer later terms names k w l v
names_settled answer later terms names w k l v order sound stand r =
    let x = names_run calls answer later terms names w k v l r in
    let es : List Entry = x.so.0 in
    let chain = x.so.1 in
    let distinct = names_distinct names order in
    let g = along_grows x.made k l x.along in
    let awaits : Awaits (before_among names) names w w = (distinct, among_tried names names (λ n a. a) order, among_split names w, all_fresh names w) in
    let own : AreOwned names k k = λ n has. owned_refl n k in
    let start = fair_refl answer later terms (before_among names) k w sound stand in
    let fair = (chain_fair l (λ e. (awaits, own)) start chain x.along).fair in
    let same : es ≡ fair.rest = cancel w.entries es fair.rest (sym (chain_entries chain) ∙ fair.entries) in
    let files = stand_files k w.standings w.next stand in
    record {
      fair = fair;
      settled = λ i d lives has. elim (chain_well d.name i sound files (lives_first k l i d lives) (lives_last k l i d g lives) (inl has) chain x.along) [
        | inl (inl so) ↦ inl (judged_at terms.hub l v.standings v.next i fair.stand so)
        | inl (inr none) ↦ absurd (true≢false none.0)
        | inr n ↦ inr (subst (λ (y : List Entry). IsNamed y d.name) same n)
      ];
      spared = λ i d lives stood told.
          let first = lives_first k l i d lives in
          let named = open_named k stood.s.name d.name stood.s.held.0 i (files stood.s stood.has) stood.file first in
          subst (λ (n : List ℕ). NeedsMemory terms.hub n (known_of stood.s)) (sym named)
          (chain_spared distinct chain
          (record {
            at = stands_one d.name w.standings stood.s stand.names stood.has named;
            file = stood.file;
            first = first;
            last = lives_last k l i d g lives;
          })
          x.along (subst (λ (y : List Entry). Has y (Entry.Unsettled d.name Fault.Memory)) (sym same) told));
      defaults = fair_defaults fair stand (along_logs x.made k l x.along);
    }

pub told_names : {S J : Type 0} (gives : S → (call : Call) → Answer call → S → Type 0) (told : S → Option Kernel) (did : (s : S) (call : Call) (answer : Answer call) (t : S) (l : Kernel) → gives s call answer t → told t ≡ Some l → Follows call answer (told s) l) (answer : Answers J) (later : Laters J) (terms : Terms) (names : List (List ℕ)) (s : S) (w : State J) (t : S) (v : State J)
    → Runs gives s (settling_all answer later names terms w) v t → SettlesNames told answer later terms names s w t v
told_names gives told did answer later terms names s w t v r order = λ l e.
    let m = told_run gives told did (settling_all answer later names terms w) s v t l r e in
    (m.kernel, m.was, λ sound stand. names_settled answer later terms names w m.kernel l v order sound stand (m.run sound).0)
