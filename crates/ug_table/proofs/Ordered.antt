-- What an order does, over the states of a run.
use Rattle.std.proofs.Common.{◌≡◌, ℕ, ◌≤◌, Bool, true, false, cond, nat_eq, List, [], ◌∷◌, ◌++◌, Option, Some, None, is_none, not, ◌&&◌, map, ◌⊎◌, inl, inr, refl, sym, ◌∙◌, ap, subst, append_assoc, arith}
use Rattle.ug_types.specs.Principals.{Named}
use Rattle.ug_kernel.specs.declared.device.Effect.{Effect}
use Rattle.ug_table.proofs.Common.{Has, Control, Authorized, Remove, Default, is_done, Terms, terms_of, Write, default_write, parent_of, open_file, Quiet, says_probe, none_before, Held, Target, Call, Answer, Ask_alive, ToldAnswer, Follows, Runs, calls, Made, Entry, State, Kept, Answers, Laters, kept_of, with_kept, known_of, known_files, standing_of, numbered, number_of, AreOfNumber, numbers_given, AtMostOneEach, TellsWrites, writes_in, HasDone, HasHash, wrote_entries, Account, Start, Note, Judge, Had, Had_not, Went, Tries, IsNamed, Stand, IsDevice, Standing, Settled, Probe, Kernel, IsKernel, Cause, names_of, unsettled_by, tried_standings, cancel, has_left, has_right, last_is, map_has, distinct_one, bringing, Ways, Sure, Ran, ways_run, sure_last, NeedsRoom, told_run, called_quiet, StandInOrder, KeepsOrder, AllBear}
use Rattle.ug_table.specs.Marks.{has_number, stood_done, LeavesMarks}
use Rattle.ug_table.specs.Orders.{to_probe, probing, ProbesOne, with_verdict, ordered_standing, with_order, verdict_entry, to_tried, to_order, ordering, behind_probe, GoesAsOrder, HasOrdered, IsStopped, just_ordered, OrderedOne, OrdersOne}
use Rattle.ug_kernel.specs.Along.{count_calls}
use Rattle.ug_kernel.proofs.Ways.{ways_more}
use Rattle.ug_table.specs.One.{whys, why_of}
use Rattle.ug_table.proofs.PartCalls.{has_want, are_short}
use Rattle.ug_table.proofs.PartOrders.{brought_order}
use Rattle.ug_kernel.proofs.Rises.{Counting, along_numbered, along_rises}
use Rattle.ug_kernel.proofs.Runs.{runs_then}
use Rattle.ug_table.proofs.Fair.{known_brought}
use Rattle.ug_kernel.proofs.Defaults.{along_logs}
use Rattle.ug_table.specs.Laws.{AreDefaulted}
use Rattle.ug_table.proofs.Defaults.{fair_defaults}
use Rattle.ug_table.proofs.Lived.{StandsSo, as_judged, brought_own, judged_at, lives_first, lives_last, stand_files}
use Rattle.ug_table.proofs.Marks.{keeps_map, known_has, names_distinct, tried_nobody}
use Rattle.ug_table.proofs.One.{AreStood, left_gone, numbered_named, of_number, stood_at, told_of, tried_leaves}
use Rattle.ug_table.proofs.NameEntries.{ended_files}
use Rattle.ug_table.proofs.OnePart.{AreVerdicts, Goes, ToGo, brought_goes, tried_so}
use Rattle.ug_table.proofs.Shapes.{Adds, Brought, brought, told_at}
use Rattle.ug_table.proofs.NamedStandings.{numbered_has, stands_one}
use Rattle.ug_table.proofs.Standings.{AreNamed, rest_map, IsFileOf, LiveAs, file_later, open_named, tried_new, tried_own}
use Rattle.ug_table.proofs.Steps.{FairFrom, fair_refl, in_order, stand_by, tried_one}

-- the probe

pub told_probes : {S : Type 0} (gives : S → (call : Call) → Answer call → S → Type 0) (told : S → Option Kernel) (did : (s : S) (call : Call) (answer : Answer call) (t : S) (l : Kernel) → gives s call answer t → told t ≡ Some l → Follows call answer (told s) l) (number : ℕ) (ss : List Standing) (s : S) (r : Probe) (t : S) → Runs gives s (probing number ss) r t → ProbesOne told number ss s t r
unfolding probing
told_probes gives told did number ss s r t h = λ l e.
    let m = told_run gives told did (probing number ss) s r t l h e in (
      m.kernel,
      m.was,
      λ sound x at.
          let run = m.run sound in
          let c = subst (λ (o : Option Standing). Runs calls m.kernel (to_probe o) r l) at run.0 in
          let quiet = called_quiet (Ask_alive x.held.0) c.0 m.kernel c.1 tt c.2 in
          record {
            sound = run.1;
            quiet = subst (λ (v : Kernel). Quiet m.kernel v) (sym c.3.1) quiet;
            says = subst (λ (v : Kernel). says_probe x.held.0 r m.kernel v) (sym c.3.1) (subst (λ (v : Probe). says_probe x.held.0 v m.kernel c.1) (sym c.3.0) c.2.says);
          },
    )

-- the standings with the verdict

pub ordered_is : (number : ℕ) (verdict : Target) (who : Named) (x : Standing) → x.number ≡ number → ordered_standing number verdict who x ≡ with_verdict verdict who x
ordered_is number verdict who x e =
    let same : nat_eq x.number number ≡ true = grind (arith, e) in
    ap (λ (t : Bool). let v : Standing = record x { verdict = cond t verdict x.verdict; cause = cond t (Cause.Order who) x.cause } in v) same

pub ordered_other : (number : ℕ) (verdict : Target) (who : Named) (x : Standing) → nat_eq x.number number ≡ false → ordered_standing number verdict who x ≡ x
ordered_other number verdict who x e = ap (λ (t : Bool). let v : Standing = record x { verdict = cond t verdict x.verdict; cause = cond t (Cause.Order who) x.cause } in v) e

pub keeps_ordered : (number : ℕ) (verdict : Target) (who : Named) (ss : List Standing) → KeepsOrder ss (with_order number verdict who ss)
keeps_ordered number verdict who ss = keeps_map (ordered_standing number verdict who) ss (λ s. refl) (λ s. refl)

numbered_ordered : (number : ℕ) (verdict : Target) (who : Named) (ss : List Standing) (x : Standing) → numbered number ss ≡ Some x → numbered number (with_order number verdict who ss) ≡ Some (ordered_standing number verdict who x)
numbered_ordered number verdict who [] x e = let none : ⊥ = cc in absurd none
numbered_ordered number verdict who (s ∷ ss) x e =
    let f = ordered_standing number verdict who in
    elim (nat_eq s.number number) as (λ (b : Bool). cond b (Some s) (numbered number ss) ≡ Some x → cond b (Some (f s)) (numbered number (map f ss)) ≡ Some (f x)) [
      | true ↦ λ h. (let same : s ≡ x = cc in ap (λ (v : Standing). Some (f v)) same)
      | false ↦ numbered_ordered number verdict who ss x
    ] e

pub numbered_now : (number : ℕ) (verdict : Target) (who : Named) (ss : List Standing) (x : Standing) → numbered number ss ≡ Some x → numbered number (with_order number verdict who ss) ≡ Some (with_verdict verdict who x)
numbered_now number verdict who ss x at =
    numbered_ordered number verdict who ss x at ∙ ap (λ (v : Standing). Some v) (ordered_is number verdict who x (numbered_has number ss x at).1)

-- the standing of that number is there, with the verdict
pub has_ordered : (number : ℕ) (verdict : Target) (who : Named) (ss : List Standing) (x : Standing) → numbered number ss ≡ Some x → Has (with_order number verdict who ss) (with_verdict verdict who x)
has_ordered number verdict who ss x at = (numbered_has number (with_order number verdict who ss) (with_verdict verdict who x) (numbered_now number verdict who ss x at)).0

-- its run: the calls, the entries, how it ended, and the standings then
record Obeys (y : Standing) (ss : List Standing) (on : Bool) (es : List Entry) (ms : List Made) (p : Settled × Kept) : Type 0 where
  rest : List Entry
  brought : Brought y.name (known_of y) on ms rest p.0
  entries : p.1.entries ≡ es ++ verdict_entry y ∷ rest
  standings : p.1.standings ≡ tried_standings ss y.name p.0

obeys : (number : ℕ) (verdict : Target) (who : Named) (on : Bool) (k : Kept) (x : Standing) → Ways (to_order number verdict who on k (Some x)) (Sure (Obeys (with_verdict verdict who x) (with_order number verdict who k.standings) on k.entries))
obeys number verdict who on k x =
    let y = with_verdict verdict who x in
    let ss = with_order number verdict who k.standings in
    sure_last (Adds (k.entries ++ verdict_entry y ∷ []) (Brought y.name (known_of y) on)) (Sure (Obeys y ss on k.entries)) (bringing y.name (known_of y) on (k.entries ++ verdict_entry y ∷ [])) (to_tried ss x.name) (λ (q : Settled × List Entry). (q.0, record { standings = tried_standings ss x.name q.0; entries = q.1 })) (λ q. refl) (brought y.name (known_of y) on (k.entries ++ verdict_entry y ∷ []))
    (λ ms q h. (refl, record { rest = h.0; brought = h.2; entries = h.1 ∙ append_assoc k.entries (verdict_entry y ∷ []) h.0; standings = refl }))

ordering_run : {S : Type 0} (gives : S → (call : Call) → Answer call → S → Type 0) (number : ℕ) (verdict : Target) (who : Named) (on : Bool) (k : Kept) (x : Standing) (s : S) (p : Settled × Kept) (t : S) → numbered number k.standings ≡ Some x → Runs gives s (ordering number verdict who on k) p t → Ran gives (Sure (Obeys (with_verdict verdict who x) (with_order number verdict who k.standings) on k.entries)) s p t
unfolding ordering
ordering_run gives number verdict who on k x s p t at r =
    ways_run gives (Sure (Obeys (with_verdict verdict who x) (with_order number verdict who k.standings) on k.entries)) (to_order number verdict who on k (Some x)) s p t (obeys number verdict who on k x) (subst (λ (o : Option Standing). Runs gives s (to_order number verdict who on k o) p t) at r)

-- On each way it asks for no room, and ends for want of memory just where a call found none. No number is given out.
pub record EndsOrder (x y : Standing) (k : Kept) (ok : Bool) (ms : List Made) (p : Settled × Kept) : Type 0 where
  pub sure : ok ≡ true
  pub want : has_want ms ≡ are_short (why_of p.0)
  pub few : count_calls ms ≤ 4
  pub rest : List Entry
  pub entries : p.1.entries ≡ k.entries ++ verdict_entry y ∷ rest
  pub bears : AllBear x.name rest
  pub quiet : whys rest ≡ []
  pub given : numbers_given rest ≡ []

pub ordering_ways : (number : ℕ) (verdict : Target) (who : Named) (on : Bool) (k : Kept) (x : Standing) → numbered number k.standings ≡ Some x → Ways (ordering number verdict who on k) (EndsOrder x (with_verdict verdict who x) k)
unfolding ordering
ordering_ways number verdict who on k x at =
    let y = with_verdict verdict who x in
    let found = told_at (Probe.Alive on) (record { call = 0; count = 0 }) in
    subst (λ (o : Option Standing). Ways (to_order number verdict who on k o) (EndsOrder x y k)) (sym at)
    (ways_more (Sure (Obeys y (with_order number verdict who k.standings) on k.entries)) (EndsOrder x y k) (to_order number verdict who on k (Some x)) (λ ok ms p h.
    let o = h.1 in
    let g = brought_goes (behind_probe y.held.0 found) (found, refl, refl) o.brought in
    record { sure = h.0; want = g.calls.short; few = g.calls.few; rest = o.rest; entries = o.entries; bears = g.entries.bears; quiet = g.entries.why; given = g.entries.given }) (obeys number verdict who on k x))

-- and from its parts
pub ordering_goes : {S : Type 0} (gives : S → (call : Call) → Answer call → S → Type 0) (number : ℕ) (verdict : Target) (who : Named) (on : Bool) (ss after : List Standing) (es fs : List Entry) (x : Standing) (s u : S) (how : Settled) → numbered number ss ≡ Some x → Runs gives s (bringing x.name (known_of (with_verdict verdict who x)) on (es ++ verdict_entry (with_verdict verdict who x) ∷ [])) (how, fs) u → after ≡ tried_standings (with_order number verdict who ss) x.name how → Runs gives s (ordering number verdict who on (kept_of ss es)) (how, kept_of after fs) u
unfolding ordering
ordering_goes gives number verdict who on ss after es fs x s u how at run e =
    let y = with_verdict verdict who x in
    let r : Settled × Kept = (how, kept_of after fs) in
    subst (λ (o : Option Standing). Runs gives s (to_order number verdict who on (kept_of ss es) o) r u) (sym at)
    (runs_then gives s (bringing y.name (known_of y) on (es ++ verdict_entry y ∷ [])) (to_tried (with_order number verdict who ss) x.name) (how, fs) u r u run
    (ap (λ (v : List Standing). let q : Settled × Kept = (how, kept_of v fs) in q) e, refl))

-- in the words of calls
pub order_part : {S : Type 0} (gives : S → (call : Call) → Answer call → S → Type 0) (calls faults : S → ℕ) → Counting gives calls faults → (next number : ℕ) (verdict : Target) (who : Named) (on : Bool) (k : Kept) (x : Standing) (s : S) (p : Settled × Kept) (t : S) → StandInOrder next k.standings → numbered number k.standings ≡ Some x → Runs gives s (ordering number verdict who on k) p t → GoesAsOrder gives calls faults (with_verdict verdict who x) on s k.entries t p.1.standings p.1.entries p.0
order_part gives calls faults counted next number verdict who on k x s p t order at r =
    let run = ordering_run gives number verdict who on k x s p t at r in
    let o = run.so.1 in
    let ms = run.made in
    let y = with_verdict verdict who x in
    let ss = with_order number verdict who k.standings in
    let kept = keeps_ordered number verdict who k.standings next order in
    let one = stands_one y.name ss y (names_distinct (names_of ss) kept.order) (has_ordered number verdict who k.standings x at) refl in
    let so = tried_so y.name ss p.0 (known_of y) one in
    let goes : (t : ToldAnswer Probe) → t.answer ≡ Probe.Alive on → Goes AreVerdicts (ToGo y.name (known_of y) ms) y.name (known_of y) (open_file y.held.0 Authorized ∷ []) (behind_probe y.held.0 t) ms o.rest p.0 (ended_files p.0 y.held.0) 4 = λ t e. brought_goes (behind_probe y.held.0 t) (t, refl, e) o.brought in
    let g = goes (told_at (Probe.Alive on) (record { call = 0; count = 0 })) refl in
    let now : standing_of y.name (tried_standings ss y.name p.0) ≡ standing_of y.name p.1.standings = ap (standing_of y.name) (sym o.standings) in
    record {
      made = ms;
      along = run.along;
      rest = o.rest;
      entries = o.entries;
      about = g.calls.about;
      leaves = g.calls.left ∙ so.0 ∙ ap known_files now;
      ends = g.calls.ends;
      due = λ t e. (goes t e).calls.due;
      single = subst AtMostOneEach (sym g.calls.puts) g.single.0;
      writes = subst (λ v. TellsWrites y.name v (writes_in o.rest)) (sym g.calls.puts) g.entries.writes;
      few = g.calls.few;
      order = brought_order o.brought;
      bears = g.entries.bears;
      numbers = subst (λ v. AreOfNumber (Some y.number) o.rest v) (so.1 ∙ ap number_of now) g.entries.numbers;
      given = g.entries.given;
      why = g.entries.why;
      failed = g.calls.failed ∙ told_of p.0;
      stays = λ n.
          let left = tried_own y.name ss p.0 (known_of y) one n in
          known_has y.name p.1.standings left.0 (sym now ∙ left.1);
      nobody = λ e. subst (λ (v : List Standing). Has (names_of v) y.name → ⊥) (sym o.standings) (tried_nobody ss y.name p.0 e);
      numbered = along_numbered gives calls faults counted ms s t run.along;
      rises = λ low. along_rises gives calls faults counted ms s t low run.along;
    }

-- where no default is written, none is due
none_for : (b : Bool) → cond b (default_write None) None ≡ None
none_for true = refl
none_for false = refl

pub order_marks : {S : Type 0} (gives : S → (call : Call) → Answer call → S → Type 0) (next number : ℕ) (verdict : Target) (who : Named) (on : Bool) (k : Kept) (x : Standing) (s : S) (p : Settled × Kept) (t : S) → StandInOrder next k.standings → numbered number k.standings ≡ Some x → Runs gives s (ordering number verdict who on k) p t → LeavesMarks None (has_number number) k.standings p.1.standings p.0
order_marks gives next number verdict who on k x s p t order at r =
    let o = (ordering_run gives number verdict who on k x s p t at r).so.1 in
    let y = with_verdict verdict who x in
    let ss = with_order number verdict who k.standings in
    let f = ordered_standing number verdict who in
    let named : AreNamed (of_number number) y.name ss = numbered_named next number ss y (keeps_ordered number verdict who k.standings next order) (numbered_now number verdict who k.standings x at) in
    let stood : AreStood (of_number number) k.standings ss = λ s a own.
    let m = map_has f k.standings s a in
    subst (λ (v : Standing). stood_done Remove v.number k.standings ≡ v.removed) m.2 (stood_at Remove k.standings m.0 order.distinct m.1) in
    subst (λ (v : List Standing). LeavesMarks None (has_number number) k.standings v p.0) (sym o.standings)
    (tried_leaves None (of_number number) y.name k.standings ss p.0 named (rest_map (of_number number) f k.standings (λ s. refl) (λ s a e. ordered_other number verdict who s e)) stood
    (record {
      stays = λ s a own e. let m = map_has f k.standings s a in subst (λ (v : Standing). stood_done Default v.number k.standings ≡ true → v.defaulted ≡ true) m.2 (λ h. sym (stood_at Default k.standings m.0 order.distinct m.1) ∙ h) e;
      done = λ s a own h. none_for (is_none (parent_of s.name) && not s.defaulted);
    }))

pub order_verdict : {S : Type 0} (gives : S → (call : Call) → Answer call → S → Type 0) (next number : ℕ) (verdict : Target) (who : Named) (on : Bool) (k : Kept) (s : S) (p : Settled × Kept) (t : S) → StandInOrder next k.standings → Runs gives s (ordering number verdict who on k) p t → HasOrdered number verdict who k.standings p.1.standings
order_verdict gives next number verdict who on k s p t order r = λ x at z a e.
    let o = (ordering_run gives number verdict who on k x s p t at r).so.1 in
    let y = with_verdict verdict who x in
    let ss = with_order number verdict who k.standings in
    let was = numbered_has number k.standings x at in
    let j = tried_one ss y.name p.0 z (subst (λ (v : List Standing). Has v z) o.standings a) in
    let m = map_has (ordered_standing number verdict who) k.standings j.0 j.1 in
    let one : m.0 ≡ x = distinct_one (λ (v : Standing). v.number) k.standings m.0 x order.distinct m.1 was.0 (ap (λ (v : Standing). v.number) m.2 ∙ sym j.2 ∙ e ∙ sym was.1) in
    let same : j.0 ≡ y = sym m.2 ∙ ap (ordered_standing number verdict who) one ∙ ordered_is number verdict who x was.1 in
    (j.3 ∙ ap (λ (v : Standing). v.name) same, j.4 ∙ ap (λ (v : Standing). v.held) same, j.5 ∙ ap (λ (v : Standing). v.judged) same, j.6 ∙ ap (λ (v : Standing). v.verdict) same, j.7 ∙ ap (λ (v : Standing). v.cause) same)

-- want of memory
pub order_short : {S : Type 0} (gives : S → (call : Call) → Answer call → S → Type 0) (number : ℕ) (verdict : Target) (who : Named) (on : Bool) (k : Kept) (x : Standing) (s : S) (p : Settled × Kept) (t : S) → numbered number k.standings ≡ Some x → Runs gives s (ordering number verdict who on k) p t → p.0 ≡ Settled.Memory → NeedsRoom None number (with_order number verdict who k.standings)
order_short gives number verdict who on k x s p t at r e =
    let run = ordering_run gives number verdict who on k x s p t at r in
    let y = with_verdict verdict who x in
    let t = told_at (Probe.Alive on) (record { call = 0; count = 0 }) in
    let g = brought_goes (behind_probe y.held.0 t) (t, refl, refl) run.so.1.brought in
    (y, numbered_now number verdict who k.standings x at, inl (g.short e).0)

-- in the words of devices

-- an order leaves the marks
ordered_done : (control : Control) (number : ℕ) (verdict : Target) (who : Named) (s : Standing) → is_done control (ordered_standing number verdict who s) ≡ is_done control s
ordered_done Authorized number verdict who s = refl
ordered_done Remove number verdict who s = refl
ordered_done Default number verdict who s = refl

pub stand_ordered : (k : Kernel) (ss : List Standing) (next number : ℕ) (verdict : Target) (who : Named) → Stand k ss next → Stand k (with_order number verdict who ss) next
stand_ordered k ss next number verdict who stand =
    let f = ordered_standing number verdict who in
    stand_by k (with_order number verdict who ss) next (keeps_ordered number verdict who ss next (in_order stand))
    (λ s a. let m = map_has f ss s a in subst (λ (v : Standing). (i : ℕ) × IsDevice k i v.name v.held v.judged) m.2 (stand.devices m.0 m.1))
    (λ s a. let m = map_has f ss s a in subst (λ (v : Standing). HasHash k v) m.2 (stand.hashes m.0 m.1))
    (λ control s a. let m = map_has f ss s a in subst (λ (v : Standing). is_done control v ≡ true → HasDone control k v.held) m.2 (λ r. stand.done control m.0 m.1 (sym (ordered_done control number verdict who m.0) ∙ r)))

-- no verdict is told, and no write but of that number
abbrev OnlyOf : ℕ → Entry → Type 0
OnlyOf number (Entry.Judged n name held verdict cause) = ⊥
OnlyOf number (Entry.Wrote n name what outcome) = n ≡ number
OnlyOf number e = Unit {0}

-- a number whose standing was told gone has no write any more
abbrev IsAt : ℕ → Option ℕ → Type 0
IsAt number now = (now ≡ None) ⊎ (now ≡ Some number)

only_of : (number : ℕ) (now : Option ℕ) (es : List Entry) (end : Option ℕ) → IsAt number now → AreOfNumber now es end → numbers_given es ≡ [] → (e : Entry) → Has es e → OnlyOf number e
only_of number now [] end at h g e a = absurd a
only_of number now (Entry.Judged n name held verdict cause ∷ es) end at h g e a = let none : ⊥ = cc in absurd none
only_of number now (Entry.Wrote n name what outcome ∷ es) end at h g e (inl is) =
    let same : n ≡ number = elim at [ inl x ↦ (let f = h.0 in let none : ⊥ = cc in absurd none) | inr x ↦ (let f = h.0 in cc) ] in
    subst (OnlyOf number) is same
only_of number now (Entry.Gone n name ∷ es) end at h g e (inr a) = only_of number None es end (inl refl) h.1 g e a
only_of number now (Entry.Intent n name what ∷ es) end at h g e (inr a) = only_of number now es end at h.1 g e a
only_of number now (Entry.Wrote n name what outcome ∷ es) end at h g e (inr a) = only_of number now es end at h.1 g e a
only_of number now (x ∷ es) end at h g e (inl is) = subst (OnlyOf number) is tt
only_of number now (x ∷ es) end at h g e (inr a) = only_of number now es end at h g e a

-- the effects of an account in which no other write is told
account_own : {J : Type 0} {answer : Answers J} {later : Laters J} {terms : Terms} {tried : Tries} {start k : Kernel} {before : List Standing} {log0 : List Effect} {judge0 : J} {next0 : ℕ} {es : List Entry} {log : List Effect} {judge : J} {next : ℕ} (number : ℕ) (file : Held) → ((s : Standing) → Has before s → s.number ≡ number → s.held ≡ file) → Account answer later terms tried start k before log0 judge0 next0 es log judge next → ((e : Entry) → Has es e → OnlyOf number e) → (f : Effect) → Has log f → Has log0 f ⊎ IsFileOf k file.0 f.device
account_own number file own Start only f a = inl a
account_own number file own (Note es log judge next e t h) only f a = account_own number file own h (λ x b. only x (has_left es (e ∷ []) x b)) f a
account_own number file own (Judge es log judge next i name held judged on ss d q st left marks h) only f a = account_own number file own h (λ x b. only x (has_left es _ x b)) f a
account_own {k = k} number file own (Had es log judge next i n name held judged verdict what outcome d had due first may h) only f a =
    let told = wrote_entries n name what outcome in
    let same : n ≡ number = only (Entry.Wrote n name what outcome) (has_right es told (Entry.Wrote n name what outcome) (inr (inl refl))) in
    elim (last_is log (record { device = i; write = what }) f a) [
      | inl b ↦ account_own number file own h (λ x c. only x (has_left es told x c)) f b
      | inr is ↦ elim had [
        | inl s ↦ inr (subst (λ (v : Effect). IsFileOf k file.0 v.device) is (subst (λ (v : Held). IsFileOf k v.0 i) (sym s.4 ∙ own s.0 s.1 (s.2 ∙ same)) d.file))
        | inr s ↦ absurd (only (Entry.Judged n name held verdict s.0) (has_left es told _ s.1))
      ]
    ]
account_own number file own (Had_not es log judge next i n name held judged verdict what outcome d had due first may h) only f a = account_own number file own h (λ x b. only x (has_left es _ x b)) f a
account_own number file own (Went es log judge next i n name held judged verdict d gone had h) only f a = account_own number file own h (λ x b. only x (has_left es _ x b)) f a

stopped : (how : Settled) (name : List ℕ) → IsNamed (unsettled_by name how) name → IsStopped how
stopped Settled.Stands name n = absurd n.1
stopped Settled.Nobody name n = absurd n.1
stopped how name n = tt

ordered_defaults : (hub : Option Write) (k : Kernel) (number : ℕ) (verdict : Target) (who : Named) (ss : List Standing) → AreDefaulted hub k ss → AreDefaulted hub k (with_order number verdict who ss)
ordered_defaults hub k number verdict who ss was s a marked i file what e =
    let m = map_has (ordered_standing number verdict who) ss s a in
    was m.0 m.1 (ap (λ (v : Standing). v.defaulted) m.2 ∙ marked) i (subst (λ (h : Held). IsFileOf k h.0 i) (sym (ap (λ (v : Standing). v.held) m.2)) file) what e

pub order_one : {J : Type 0} (number : ℕ) (verdict : Target) (who : Named) (on : Bool) (w : State J) (k l : Kernel) (p : Settled × Kept) (x : Standing) → IsKernel k → Stand k w.standings w.next → numbered number w.standings ≡ Some x → Runs calls k (ordering number verdict who on (kept_of w.standings w.entries)) p l → OrderedOne number verdict who on x k w l (with_kept w p.1) p.0
order_one {J} number verdict who on w k l p x sound stand at r =
    let run = ordering_run calls number verdict who on (kept_of w.standings w.entries) x k p l at r in
    let o = run.so.1 in
    let y = with_verdict verdict who x in
    let ss = with_order number verdict who w.standings in
    let u = just_ordered number verdict who x w in
    let stands = stand_ordered k w.standings w.next number verdict who stand in
    let mine = has_ordered number verdict who w.standings x at in
    let was = numbered_has number w.standings x at in
    let one = stands_one y.name ss y stands.names mine refl in
    let added : p.1.entries ≡ u.entries ++ o.rest = o.entries ∙ sym (append_assoc w.entries (verdict_entry y ∷ []) o.rest) in
    let is : p.1 ≡ kept_of (tried_standings ss y.name p.0) (u.entries ++ o.rest) = λ i. record { standings = o.standings i; entries = added i } in
    let fair : (answer : Answers J) (later : Laters J) (terms : Terms) (tried : Tries) → FairFrom answer later terms tried k u l (with_kept w p.1) = λ answer later terms tried.
    subst (λ (v : Kept). FairFrom answer later terms tried k u l (with_kept w v)) (sym is)
    (known_brought l y.name (known_of y) on one (fair_refl answer later terms tried k u sound stands) o.brought run.along) in
    let a = fair (λ judge dev controller present on ss. (x.verdict, x.cause)) (λ judge dev controller present on ss. judge) (terms_of false None) none_before in
    let g = a.fair.grows in
    let files = stand_files k w.standings w.next stand in
    let t = told_at (Probe.Alive on) (record { call = 0; count = 0 }) in
    let told = (brought_goes (behind_probe y.held.0 t) (t, refl, refl) o.brought).entries in
    let rest : o.rest ≡ a.fair.rest = cancel u.entries o.rest a.fair.rest (sym added ∙ a.fair.entries) in
    let only : (e : Entry) → Has a.fair.rest e → OnlyOf number e = subst (λ (v : List Entry). (e : Entry) → Has v e → OnlyOf number e) rest (λ e b. subst (λ (n : ℕ). OnlyOf n e) was.1 (only_of x.number (Some x.number) o.rest _ (inr refl) told.numbers told.given e b)) in
    let held : (s : Standing) → Has ss s → s.number ≡ number → s.held ≡ x.held = λ s b e. ap (λ (v : Standing). v.held) (distinct_one (λ (v : Standing). v.number) ss s y stands.distinct b mine (e ∙ sym was.1)) in
    record {
      fair = λ answer later terms tried. (fair answer later terms tried).fair;
      defaults = λ hub was. fair_defaults (fair (λ judge dev controller present on ss. (x.verdict, x.cause)) (λ judge dev controller present on ss. judge) (terms_of false hub) none_before).fair stands (along_logs run.made k l run.along) (ordered_defaults hub k number verdict who w.standings was);
      own = account_own number x.held held a.fair.account only;
      ended = λ i d file lives value.
          let first = lives_first k l i d lives in
          let named : x.name ≡ d.name = open_named k x.name d.name x.held.0 i (files x was.0) file first in
          let last = subst (λ (v : List ℕ). LiveAs l i v) (sym named) (lives_last k l i d g lives) in
          elim (brought_own i k l o.brought sound last file (d, lives.entry.at, value) run.along) [
            | inl h ↦
                let z = tried_new ss y.name p.0 y h.0 refl mine in
                let so = as_judged None l (tried_standings ss y.name p.0) i y.held y.verdict z.0 z.1 z.2 z.3 (file_later k l x.held.0 i g file) h.1 z.4 (z.5 None (none_for (is_none (parent_of y.name) && not y.defaulted))) in
                inl (judged_at None l p.1.standings w.next i a.fair.stand (subst (λ (v : List Standing). StandsSo None l v i) (sym o.standings) so))
            | inr n ↦ inr (stopped p.0 y.name n)
          ];
      nobody = λ e i file. left_gone y mine a (subst (λ (v : List Standing). Has (names_of v) y.name → ⊥) (sym o.standings) (tried_nobody ss y.name p.0 e)) i file;
    }

pub told_orders : {S J : Type 0} (gives : S → (call : Call) → Answer call → S → Type 0) (told : S → Option Kernel) (did : (s : S) (call : Call) (answer : Answer call) (t : S) (l : Kernel) → gives s call answer t → told t ≡ Some l → Follows call answer (told s) l) (number : ℕ) (verdict : Target) (who : Named) (on : Bool) (s : S) (w : State J) (t : S) (p : Settled × Kept) → Runs gives s (ordering number verdict who on (kept_of w.standings w.entries)) p t → OrdersOne told number verdict who on s w t (with_kept w p.1) p.0
told_orders gives told did number verdict who on s w t p r = λ l e.
    let m = told_run gives told did (ordering number verdict who on (kept_of w.standings w.entries)) s p t l r e in
    (m.kernel, m.was, λ sound stand x at. order_one number verdict who on w m.kernel l p x sound stand at (m.run sound).0)
