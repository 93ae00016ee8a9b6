-- The writes to one device are fair.
use Rattle.std.proofs.Common.{◌≡◌, ℕ, Bool, true, false, not, ◌&&◌, List, [], ◌∷◌, ◌++◌, ◌⊎◌, Some, slice_get, inl, inr, refl, sym, ◌∙◌, ap, subst, append_assoc, append-nil, Option, true≢false}
use Rattle.std.proofs.lemmas.Bool.{and_parts, and_cases, both_ways, not-true, not-false}
use Rattle.ug_table.proofs.Common.{Has, IsOpenable, AllDistinct, Terms, Target, Control, Authorized, Remove, Write, Wrote, Put, Close, ToldAnswer, Closing, Kernel, Moves, IsWritten, IsGoneAt, says_put, Called, Grows, calls, RemoveHold, Entry, State, Answers, Laters, known_of, Tries, IsDevice, MayHave, MayHaveNot, wrote_entries, HasDone, IsOnce, control_of, is_done, IsFirst, Account, Start, Had, Had_not, numbers_of, Standing, Settled, Made, made_with, Along, failure_of, FailedCall, has_right, distinct_one, write_of, is_reject, CallsFor, is_to_go, Way, way_runs, along_split, some_same, called_grows, quiet_grows}
use Rattle.ug_kernel.specs.declared.device.HeldFile.{HeldFile}
use Rattle.ug_kernel.specs.declared.device.Effect.{Effect}
use Rattle.ug_kernel.specs.Removal.{holding, HoldSays}
use Rattle.ug_kernel.proofs.Laws.{holding_law, gone_later}
use Rattle.ug_table.proofs.Standings.{IsHeldAs, file_same, file_later}
use Rattle.ug_table.proofs.OnePart.{value_twice}
use Rattle.ug_table.proofs.Devices.{device_stays, stand_stays}
use Rattle.ug_table.proofs.Accounts.{Marks, KeepMarks, NoneDone, keeps_itself, done_marks, done_more, marks_keep}
use Rattle.ug_table.proofs.Steps.{Same as Alike, FairFrom, fair_trans, After, same_refl, plain_fair, keep_fair, fair_end, then_quiet, then_called, then_same, then_went}
use Rattle.ug_table.proofs.Shapes.{Written, Done, Went, Broke, Valued, Same, Set, Unheld, Gone_by, Failed_by, Short_by, OnceMade, Not_held, Put_on, Carried, By_value, And_removal, Brought, Left_open, Let_go, told_at}

-- The writes to the device of a standing, with their entries, and what becomes of the standing.

-- the log after a write

one_more : (held i : ℕ) (control : Control) (what : Write) (k before after l : Kernel) → IsHeldAs k held i control → Moves k before → IsWritten held what before after → Moves after l → l.log ≡ k.log ++ record { device = i; write = what } ∷ []
one_more held i control what k before after l file b w a =
    let f : HeldFile = record { device = i; control = control } in
    let same : w.holds.file ≡ f = some_same (slice_get before.held held) w.holds.file f w.holds.at (subst (λ v. slice_get v held ≡ Some f) (sym b.held) file) in
    let is : w.i ≡ i = sym w.holds.is ∙ ap (λ (v : HeldFile). v.device) same in
    a.log ∙ w.log ∙ ap (λ (v : List Effect). v ++ record { device = w.i; write = what } ∷ []) b.log ∙ ap (λ (v : ℕ). let e : Effect = record { device = v; write = what } in k.log ++ e ∷ []) is

-- the log after a write through a file of that device
abbrev PutLogs : ℕ → Write → Wrote → Kernel → Kernel → Type 0
PutLogs i what outcome k l = (MayHave outcome × (l.log ≡ k.log ++ record { device = i; write = what } ∷ [])) ⊎ (MayHaveNot outcome × (l.log ≡ k.log))

put_logs : (held i : ℕ) (control : Control) (what : Write) (outcome : Wrote) (failed : FailedCall) (k l : Kernel) → IsHeldAs k held i control → Called (Put held what) (told_at outcome failed) k l → PutLogs i what outcome k l
put_logs held i control what Wrote.Done failed k l file c = inl (tt, one_more held i control what k c.before c.after l file c.moves_before c.effect c.moves_after)
put_logs held i control what Wrote.Gone failed k l file c = inr (tt, c.moves_after.log ∙ ap (λ (v : Kernel). v.log) c.effect ∙ c.moves_before.log)
put_logs held i control what Wrote.Failed failed k l file c = elim c.effect [
  | inl e ↦ inr (tt, c.moves_after.log ∙ ap (λ (v : Kernel). v.log) e ∙ c.moves_before.log)
  | inr w ↦ inl (tt, one_more held i control what k c.before c.after l file c.moves_before w c.moves_after)
]

-- these standings, and entries behind those that were there
abbrev pub more : {J : Type 0} → State J → List Standing → List Entry → State J
more w ss es = record w { standings = ss; entries = w.entries ++ es }

-- the device of a standing, with its place
abbrev StandsAs : {J : Type 0} → Kernel → State J → Standing → ℕ → Type 0
StandsAs m u s i = Has u.standings s × IsDevice m i s.name s.held s.judged

put_account : {J : Type 0} {answer : Answers J} {later : Laters J} {terms : Terms} {tried : Tries} (m l : Kernel) (u : State J) (s : Standing) (i held : ℕ) (control : Control) (what : Write) (outcome : Wrote) (failed : FailedCall) → StandsAs m u s i → IsHeldAs m held i control → CallsFor terms.hub s.name s.verdict what → IsFirst u.standings [] s.number what → Called (Put held what) (told_at outcome failed) m l → Account answer later terms tried m l u.standings m.log u.judge u.next (wrote_entries s.number s.name what outcome) l.log u.judge u.next
put_account {J} {answer} {later} {terms} {tried} m l u s i held control what outcome failed at file due first c =
    let g = called_grows (Put held what) (told_at outcome failed) m l c in
    let here = device_stays m l i s.name s.held s.judged g at.1 in
    let es = wrote_entries s.number s.name what outcome in
    elim (put_logs held i control what outcome failed m l file c) [
      | inl e ↦ subst (λ (v : List Effect). Account answer later terms tried m l u.standings m.log u.judge u.next es v u.judge u.next) (sym e.1) (Had [] m.log u.judge u.next i s.number s.name s.held s.judged s.verdict what outcome here (inl (s, at.0, refl, refl, refl, refl)) due first e.0 Start)
      | inr e ↦ subst (λ (v : List Effect). Account answer later terms tried m l u.standings m.log u.judge u.next es v u.judge u.next) (sym e.1) (Had_not [] m.log u.judge u.next i s.number s.name s.held s.judged s.verdict what outcome here (inl (s, at.0, refl, refl, refl, refl)) due first e.0 Start)
    ]

-- a write that leaves the marks
put_fair : {J : Type 0} {answer : Answers J} {later : Laters J} {terms : Terms} {tried : Tries} {k m : Kernel} {w u : State J} (l : Kernel) (s : Standing) (i held : ℕ) (control : Control) (what : Write) (outcome : Wrote) (failed : FailedCall) → StandsAs m u s i → IsHeldAs m held i control → CallsFor terms.hub s.name s.verdict what → IsFirst u.standings [] s.number what → NoneDone (wrote_entries s.number s.name what outcome) → Called (Put held what) (told_at outcome failed) m l → FairFrom answer later terms tried k w m u → FairFrom answer later terms tried k w l (more u u.standings (wrote_entries s.number s.name what outcome))
put_fair {J} {answer} {later} {terms} {tried} {k} {m} {w} {u} l s i held control what outcome failed at file due first none c h =
    let g = called_grows (Put held what) (told_at outcome failed) m l c in
    let es = wrote_entries s.number s.name what outcome in
    fair_trans h (keep_fair answer later terms tried m l u u.standings es c.sound g h.fair.stand (same_refl u.standings) (keeps_itself u.standings) none (tt, (tt, tt)) (put_account m l u s i held control what outcome failed at file due first c))

-- the standings after it, by how it was settled
abbrev Afters : List Standing → Standing → (Settled → List Standing) → Type 0
Afters ss s after = (how : Settled) → After s ss how (after how)

-- the value: where it stands the standings aren't marked yet

abbrev mid : {J : Type 0} → State J → (Settled → List Standing) → Settled → List Standing
mid w after Settled.Stands = w.standings
mid w after how = after how

value_called : (hub : Option Write) (name : List ℕ) (verdict : Target) → CallsFor hub name verdict (write_of verdict)
value_called hub name Target.Allow = refl
value_called hub name x = refl

value_first : (ss : List Standing) (es : List Entry) (number : ℕ) (verdict : Target) → IsFirst ss es number (write_of verdict)
value_first ss es number verdict = λ once w. value_twice verdict once

put_none_done : (s : Standing) (what : Write) (outcome : Wrote) → (IsOnce (control_of what) → outcome ≡ Wrote.Done → ⊥) → NoneDone (wrote_entries s.number s.name what outcome)
put_none_done s what outcome none number name w once (inl e) = let none : ⊥ = cc in none
put_none_done s what outcome none number name w once (inr (inl e)) = none (let a : w ≡ what = cc in subst (λ (v : Write). IsOnce (control_of v)) a once) (let b : outcome ≡ Wrote.Done = cc in b)
put_none_done s what outcome none number name w once (inr (inr x)) = x

-- entries behind others
pub joined : {J : Type 0} {answer : Answers J} {later : Laters J} {terms : Terms} {tried : Tries} {k l : Kernel} {w : State J} (u : State J) (ss : List Standing) (es fs : List Entry) → FairFrom answer later terms tried k w l (record u { standings = ss; entries = (u.entries ++ es) ++ fs }) → FairFrom answer later terms tried k w l (more u ss (es ++ fs))
joined {answer = answer} {later = later} {terms = terms} {tried = tried} {k = k} {l = l} {w = w} u ss es fs h = subst (λ (v : List Entry). FairFrom answer later terms tried k w l (record u { standings = ss; entries = v })) (append_assoc u.entries es fs) h

value_fair : {J : Type 0} {answer : Answers J} {later : Laters J} {terms : Terms} {tried : Tries} {k m : Kernel} {w : State J} {t : ToldAnswer Wrote} {es : List Entry} {how : Settled} (u : State J) (n : Kernel) (s : Standing) (after : Settled → List Standing) (what : Write) → Written s.name s.number what t es how → Has u.standings s → Afters u.standings s after → says_put s.held.0 t.answer n m → FairFrom answer later terms tried k w m (more u u.standings (wrote_entries s.number s.name what t.answer)) → FairFrom answer later terms tried k w m (more u (mid u after how) es)
value_fair u n s after what (Done failed) has a says h = h
value_fair u n s after what (Went failed) has a says h = joined u (after Settled.Nobody) (wrote_entries s.number s.name what Wrote.Gone) _ (then_went s (after Settled.Nobody) has (a Settled.Nobody) says h)
value_fair u n s after what (Broke failed) has a says h = let after_fault = a (Settled.Fault failed) in then_same (after (Settled.Fault failed)) after_fault.0 after_fault.1 h

pub none_more : {J : Type 0} {answer : Answers J} {later : Laters J} {terms : Terms} {tried : Tries} {k l : Kernel} {w : State J} (u : State J) → FairFrom answer later terms tried k w l u → FairFrom answer later terms tried k w l (more u u.standings [])
none_more {answer = answer} {later = later} {terms = terms} {tried = tried} {k = k} {l = l} {w = w} u h = subst (λ (v : List Entry). FairFrom answer later terms tried k w l (record u { entries = v })) (sym (append-nil u.entries)) h

valued_fair : {J : Type 0} {answer : Answers J} {later : Laters J} {terms : Terms} {tried : Tries} {k m : Kernel} {w u : State J} {on : Bool} {ms : List Made} {es : List Entry} {how : Settled} (l : Kernel) (s : Standing) (after : Settled → List Standing) → Valued s.name (known_of s) on ms es how → Has u.standings s → Afters u.standings s after → FairFrom answer later terms tried k w m u → Along calls m ms l → FairFrom answer later terms tried k w l (more u (mid u after how) es)
valued_fair {u = u} l s after (Same e) has a h r = fair_end l (more u u.standings []) refl r (none_more u h)
valued_fair {terms = terms} {m = m} {u = u} l s after (Set t es how e v) has a h r =
    let x = h.fair.stand.devices s has in
    let put = put_fair r.0 s x.0 s.held.0 Authorized (write_of s.verdict) t.answer (failure_of t) (has, x.1) x.1.file (value_called terms.hub s.name s.verdict) (value_first u.standings [] s.number s.verdict) (put_none_done s (write_of s.verdict) t.answer (λ once f. value_twice s.verdict once)) r.1 h in
    fair_end l (more u (mid u after how) es) refl r.2 (value_fair u m s after (write_of s.verdict) v has a r.1.says put)

-- a write that is made once

removed_if : (a b : Bool) → (a && not b) ≡ false → a ≡ true → b ≡ true
removed_if a b e r = elim (and_cases a (not b) e) [ inl f ↦ absurd (both_ways a f r) | inr f ↦ not-false b f ]

once_first : (ss : List Standing) (s : Standing) (what : Write) → AllDistinct (numbers_of ss) → Has ss s → is_done (control_of what) s ≡ false → IsFirst ss [] s.number what
once_first ss s what distinct has e once (inl b) =
    true≢false (sym b.3 ∙ ap (is_done (control_of what)) (distinct_one (λ (v : Standing). v.number) ss b.0 s distinct b.1 has b.2) ∙ e)
once_first ss s what distinct has e once (inr b) = b.3

-- the log has it
done_logged : (m l : Kernel) (s : Standing) (i file : ℕ) (what : Write) (failed : FailedCall) → IsDevice m i s.name s.held s.judged → IsHeldAs m file i (control_of what) → Called (Put file what) (told_at Wrote.Done failed) m l → HasDone (control_of what) l s.held
done_logged m l s i file what failed d of c j at =
    let g = called_grows (Put file what) (told_at Wrote.Done failed) m l c in
    let is : i ≡ j = file_same l s.held.0 i j (file_later m l s.held.0 i g d.file) at in
    let e : Effect = record { device = i; write = what } in
    let logged : Has l.log e = subst (λ (v : List Effect). Has v e) (sym (one_more file i (control_of what) what m c.before c.after l of c.moves_before c.effect c.moves_after)) (has_right m.log (e ∷ []) e (inl refl)) in
    (what, refl, subst (λ (v : ℕ). Has l.log (record { device = v; write = what })) is logged)

-- one that was done marks the standing
done_fair : {J : Type 0} {answer : Answers J} {later : Laters J} {terms : Terms} {tried : Tries} {k m : Kernel} {w u : State J} (l : Kernel) (s : Standing) (i file : ℕ) (what : Write) (P : Type 0) (failed : FailedCall) (rs : List Standing) → StandsAs m u s i → IsHeldAs m file i (control_of what) → CallsFor terms.hub s.name s.verdict what → P → is_done (control_of what) s ≡ false → Alike u.standings rs × Marks (control_of what) P s u.standings rs → Called (Put file what) (told_at Wrote.Done failed) m l → FairFrom answer later terms tried k w m u → FairFrom answer later terms tried k w l (more u rs (wrote_entries s.number s.name what Wrote.Done))
done_fair {J} {answer} {later} {terms} {tried} {k} {m} {w} {u} l s i file what P failed rs at of due p fresh a c h =
    let g = called_grows (Put file what) (told_at Wrote.Done failed) m l c in
    let stand = h.fair.stand in
    let es = wrote_entries s.number s.name what Wrote.Done in
    let first = once_first u.standings s what stand.distinct at.0 fresh in
    let account = put_account m l u s i file (control_of what) what Wrote.Done failed at of due first c in
    let done = done_more (control_of what) P l u.standings rs s (stand_stays m l u.standings u.next g stand).done (done_logged m l s i file what failed at.1 of c) a.1 in
    fair_trans h (plain_fair answer later terms tried m l u rs es c.sound g stand a.0 (done_marks what P u.standings rs s stand.distinct p a.1) done (tt, (tt, tt)) account)

-- where the device of a second file is gone, that of the `authorized` file is so
gone_through : (control : Control) (k l : Kernel) (s : Standing) (i file : ℕ) (d : IsDevice k i s.name s.held s.judged) → IsHeldAs k file i control → IsGoneAt file k → Grows k l → IsGoneAt s.held.0 l
gone_through control k l s i file d of gone g =
    gone_later k l s.name s.held.0 i g (record { d = d.d; file = d.file; device = d.device; named = d.named }) (λ e live. gone i e (record { file = record { device = i; control = control }; at = of; is = refl; device = live.at }) live)

-- the standings once it stands, where P holds, and where it ends otherwise
pub record Ends (file : Control) (P : Type 0) (s : Standing) (ss : List Standing) (after : Settled → List Standing) : Type 0 where
  pub done : Alike ss (after Settled.Stands) × Marks file P s ss (after Settled.Stands)
  pub gone : After s ss Settled.Nobody (after Settled.Nobody)
  pub fault : (failed : FailedCall) → Alike ss (after (Settled.Fault failed)) × KeepMarks ss (after (Settled.Fault failed))
  pub short : Alike ss (after Settled.Memory) × KeepMarks ss (after Settled.Memory)

put_on_fair : {J : Type 0} {answer : Answers J} {later : Laters J} {terms : Terms} {tried : Tries} {k m : Kernel} {w u : State J} {t : ToldAnswer Wrote} {es : List Entry} {how : Settled} (x y : Kernel) (s : Standing) (i file : ℕ) (what : Write) (P : Type 0) (after : Settled → List Standing) (shut : Closing) → Written s.name s.number what t es how → StandsAs m u s i → IsHeldAs m file i (control_of what) → CallsFor terms.hub s.name s.verdict what → P → is_done (control_of what) s ≡ false → Ends (control_of what) P s u.standings after → Called (Put file what) t m x → Called (Close file) shut x y → FairFrom answer later terms tried k w m u → FairFrom answer later terms tried k w y (more u (after how) es)
put_on_fair {u = u} x y s i file what P after shut (Done failed) at of due p fresh a c d h =
    then_called (Close file) shut y tt d (done_fair x s i file what P failed (after Settled.Stands) at of due p fresh a.done c h)
put_on_fair {m = m} {u = u} x y s i file what P after shut (Went failed) at of due p fresh a c d h =
    let first = once_first u.standings s what h.fair.stand.distinct at.0 fresh in
    let put = put_fair x s i file (control_of what) what Wrote.Gone failed at of due first (put_none_done s what Wrote.Gone (λ e f. let none : ⊥ = cc in none)) c h in
    let g = called_grows (Put file what) (told_at Wrote.Gone failed) m x c in
    let gone = gone_through (control_of what) x y s i file (device_stays m x i s.name s.held s.judged g at.1) (g.held file (record { device = i; control = control_of what }) of) c.says (called_grows (Close file) shut x y d) in
    joined u (after Settled.Nobody) (wrote_entries s.number s.name what Wrote.Gone) _ (then_went s (after Settled.Nobody) at.0 a.gone gone (then_called (Close file) shut y tt d put))
put_on_fair {m = m} {u = u} x y s i file what P after shut (Broke failed) at of due p fresh a c d h =
    let first = once_first u.standings s what h.fair.stand.distinct at.0 fresh in
    let put = put_fair x s i file (control_of what) what Wrote.Failed failed at of due first (put_none_done s what Wrote.Failed (λ e f. let none : ⊥ = cc in none)) c h in
    let mark = a.fault failed in
    then_same (after (Settled.Fault failed)) mark.0 mark.1 (then_called (Close file) shut y tt d put)

unheld_fair : {J : Type 0} {answer : Answers J} {later : Laters J} {terms : Terms} {tried : Tries} {k m : Kernel} {w u : State J} {r : RemoveHold} {es : List Entry} {how : Settled} (s : Standing) (i : ℕ) (file : Control) (P : Type 0) (after : Settled → List Standing) → Unheld s.name s.number r es how → Has u.standings s → HoldSays file s.held.0 i m r → Ends file P s u.standings after → FairFrom answer later terms tried k w m u → FairFrom answer later terms tried k w m (more u (after how) es)
unheld_fair s i file P after Gone_by has says a h = then_went s (after Settled.Nobody) has a.gone says h
unheld_fair {u = u} s i file P after (Failed_by failed) has says a h = let mark = a.fault failed in none_more (record u { standings = after (Settled.Fault failed) }) (then_same (after (Settled.Fault failed)) mark.0 mark.1 h)
unheld_fair {u = u} s i file P after Short_by has says a h = none_more (record u { standings = after Settled.Memory }) (then_same (after Settled.Memory) a.short.0 a.short.1 h)

-- a second file of the standing's device
held_fair : {J : Type 0} {answer : Answers J} {later : Laters J} {terms : Terms} {tried : Tries} {k m : Kernel} {w u : State J} (l : Kernel) (s : Standing) (control : Control) (ms : List Made) (r : RemoveHold) → IsOpenable control s.name → Has u.standings s → Way (holding control s.name s.held.0) ms r → Along calls m ms l → FairFrom answer later terms tried k w m u → (i : ℕ) × IsDevice l i s.name s.held s.judged × HoldSays control s.held.0 i l r × FairFrom answer later terms tried k w l u
held_fair {J} {answer} {later} {terms} {tried} {k} {m} {w} {u} l s control ms r can has way a h =
    let x = h.fair.stand.devices s has in
    let law = holding_law control s.name s.held.0 x.0 r m l h.fair.sound can (record { d = x.1.d; file = x.1.file; device = x.1.device; named = x.1.named }) (way_runs calls (holding control s.name s.held.0) ms m r l way a) in
    let later_h : FairFrom answer later terms tried k w l u = then_quiet l law.sound law.quiet h in
    (x.0, device_stays m l x.0 s.name s.held s.judged (quiet_grows m l law.quiet) x.1, law.says, later_h)

-- a write that is made once, where it is due and the standing isn't marked with its file
pub once_fair : {J : Type 0} {answer : Answers J} {later : Laters J} {terms : Terms} {tried : Tries} {k m : Kernel} {w u : State J} {what : Write} {ms : List Made} {es : List Entry} {how : Settled} (l : Kernel) (s : Standing) (P : Type 0) (after : Settled → List Standing) → IsOpenable (control_of what) s.name → OnceMade s.name (known_of s) what ms es how → CallsFor terms.hub s.name s.verdict what → P → is_done (control_of what) s ≡ false → Has u.standings s → Ends (control_of what) P s u.standings after → FairFrom answer later terms tried k w m u → Along calls m ms l → FairFrom answer later terms tried k w l (more u (after how) es)
once_fair {what = what} l s P after can (Not_held ms r es how way v) due p fresh has a h along =
    let x = held_fair l s (control_of what) ms r can has way along h in
    unheld_fair s x.0 (control_of what) P after v has x.2 a x.3
once_fair {m = m} {u = u} {what = what} l s P after can (Put_on ms file t shut es how way v) due p fresh has a h along =
    let cut = along_split calls ms (made_with (Put file.0 what) t ∷ made_with (Close file.0) shut ∷ []) m l along in
    let x = held_fair cut.0 s (control_of what) ms (RemoveHold.Ready file) can has way cut.1 h in
    fair_end l (more u (after how) es) refl cut.2.2.2
    (put_on_fair cut.2.0 cut.2.2.0 s x.0 file.0 what P after shut v (has, x.1) x.2 due p fresh a cut.2.1
    cut.2.2.1 x.3)

-- the removal
removal_ends : (ss : List Standing) (s : Standing) (after : Settled → List Standing) → Afters ss s after → Ends Remove (is_reject s.verdict ≡ true) s ss after
removal_ends ss s after a = record { done = a Settled.Stands; gone = a Settled.Nobody; fault = λ failed. a (Settled.Fault failed); short = a Settled.Memory }

-- both

only_value : {J : Type 0} {answer : Answers J} {later : Laters J} {terms : Terms} {tried : Tries} {k l : Kernel} {w : State J} (u : State J) (s : Standing) (after : Settled → List Standing) (how : Settled) (es : List Entry) → (how ≡ Settled.Stands → is_to_go (known_of s) ≡ false) → Has u.standings s → Afters u.standings s after → FairFrom answer later terms tried k w l (more u (mid u after how) es) → FairFrom answer later terms tried k w l (more u (after how) es)
only_value u s after Settled.Stands es f has a h = let stands = a Settled.Stands in then_same (after Settled.Stands) stands.0 (marks_keep Remove (is_reject s.verdict ≡ true) u.standings (after Settled.Stands) s has (removed_if (is_reject s.verdict) s.removed (f refl)) stands.1) h
only_value u s after how es f has a h = h

carried_fair : {J : Type 0} {answer : Answers J} {later : Laters J} {terms : Terms} {tried : Tries} {k m : Kernel} {w u : State J} {on : Bool} {ms : List Made} {es : List Entry} {how : Settled} (l : Kernel) (s : Standing) (after : Settled → List Standing) → Carried s.name (known_of s) on ms es how → Has u.standings s → ((how : Settled) → After s u.standings how (after how)) → FairFrom answer later terms tried k w m u → Along calls m ms l → FairFrom answer later terms tried k w l (record u { standings = after how; entries = u.entries ++ es })
carried_fair {u = u} l s after (By_value ms es how v f) has a h along = only_value u s after how es f has a (valued_fair l s after v has a h along)
carried_fair {m = m} {u = u} l s after (And_removal ms ns es fs how go v r) has a h along =
    let cut = along_split calls ms ns m l along in
    let parts = and_parts (is_reject s.verdict) (not s.removed) go in
    joined u (after how) es fs (once_fair l s (is_reject s.verdict ≡ true) after tt r parts.0 parts.0 (not-true s.removed parts.1) has (removal_ends u.standings s after a) (valued_fair cut.0 s after v has a h cut.1) cut.2)

pub brought_fair : {J : Type 0} {answer : Answers J} {later : Laters J} {terms : Terms} {tried : Tries} {k m : Kernel} {w u : State J} {on : Bool} {ms : List Made} {es : List Entry} {how : Settled} (l : Kernel) (s : Standing) (after : Settled → List Standing) → Brought s.name (known_of s) on ms es how → Has u.standings s → ((how : Settled) → After s u.standings how (after how)) → FairFrom answer later terms tried k w m u → Along calls m ms l → FairFrom answer later terms tried k w l (record u { standings = after how; entries = u.entries ++ es })
brought_fair l s after (Left_open ms es how c n) has a h along = carried_fair l s after c has a h along
brought_fair {m = m} l s after (Let_go ms es shut c) has a h along =
    let cut = along_split calls ms (made_with (Close s.held.0) shut ∷ []) m l along in
    fair_end l _ refl cut.2.2 (then_called (Close s.held.0) shut cut.2.0 tt cut.2.1 (carried_fair cut.0 s after c has a h cut.1))
