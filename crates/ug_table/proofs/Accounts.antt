-- Accounts of one part of a sweep after another, and what standings are marked with.
use Rattle.std.proofs.Common.{◌≡◌, ℕ, List, ◌++◌, inl, inr, sym, ◌∙◌, subst, true, ◌⊎◌, refl, ap}
use Rattle.ug_table.proofs.Common.{Terms, Has, AllDistinct, Held, Target, Kernel, Grows, Entry, Tries, HasVerdict, Account, Start, Note, Judge, Had, Had_not, Went, IsTold, HasDone, Stand, numbers_of, wrote_entries, IsDoneMarked, TellsDone, IsOnce, control_of, is_done, Control, WasDone, Standing, Answers, Laters, Write, Wrote, has_left, has_right, distinct_one}
use Rattle.ug_kernel.specs.declared.device.Effect.{Effect}
use Rattle.ug_table.proofs.Devices.{device_stays, gone_stays, probed_stays, stand_stays}
use Rattle.std.proofs.lemmas.Bool.{cases_Bool, both_ways}

-- Accounts of one part of a sweep after another.

pub account_stays : {J : Type 0} (answer : Answers J) (later : Laters J) (terms : Terms) (tried : Tries) (start k l : Kernel) (before : List Standing) (log0 : List Effect) (judge0 : J) (next0 : ℕ) (es : List Entry) (log : List Effect) (judge : J) (next : ℕ) → Grows k l → Account answer later terms tried start k before log0 judge0 next0 es log judge next → Account answer later terms tried start l before log0 judge0 next0 es log judge next
account_stays answer later terms tried start k l before log0 judge0 next0 es log judge next g Start = Start
account_stays answer later terms tried start k l before log0 judge0 next0 es log judge next g (Note fs m j n e t h) = Note fs m j n e t (account_stays answer later terms tried start k l before log0 judge0 next0 fs m j n g h)
account_stays answer later terms tried start k l before log0 judge0 next0 es log judge next g (Judge fs m j n i name held judged on ss d b stands left so h) = Judge fs m j n i name held judged on ss (device_stays k l i name held judged g d) (probed_stays start k l name held.0 i on g b) (stand_stays k l ss n g stands) left so (account_stays answer later terms tried start k l before log0 judge0 next0 fs m j n g h)
account_stays answer later terms tried start k l before log0 judge0 next0 es log judge next g (Had fs m j n i number name held judged verdict what outcome d v due first may h) = Had fs m j n i number name held judged verdict what outcome (device_stays k l i name held judged g d) v due first may (account_stays answer later terms tried start k l before log0 judge0 next0 fs m j n g h)
account_stays answer later terms tried start k l before log0 judge0 next0 es log judge next g (Had_not fs m j n i number name held judged verdict what outcome d v due first may h) = Had_not fs m j n i number name held judged verdict what outcome (device_stays k l i name held judged g d) v due first may (account_stays answer later terms tried start k l before log0 judge0 next0 fs m j n g h)
account_stays answer later terms tried start k l before log0 judge0 next0 es log judge next g (Went fs m j n i number name held judged verdict d o v h) = Went fs m j n i number name held judged verdict (device_stays k l i name held judged g d) (gone_stays k l i g o) v (account_stays answer later terms tried start k l before log0 judge0 next0 fs m j n g h)

-- each of these standings was there before, or was told
abbrev AreTold : List Standing → List Entry → List Standing → Type 0
AreTold before es ss = (s : Standing) → Has ss s → IsTold before es s

pub verdict_before : (before middle : List Standing) (es fs : List Entry) (number : ℕ) (name : List ℕ) (held : Held) (verdict : Target) → AreTold before es middle → HasVerdict middle fs number name held verdict → HasVerdict before (es ++ fs) number name held verdict
verdict_before before middle es fs number name held verdict told (inl h) = elim (told h.0 h.1) [
  | inl b ↦ inl (b.0, b.1, sym b.2 ∙ h.2, sym b.3 ∙ h.3, sym b.4 ∙ h.4, sym b.6 ∙ h.5)
  | inr t ↦
      let same : Entry.Judged h.0.number h.0.name h.0.held h.0.verdict h.0.cause ≡ Entry.Judged number name held verdict h.0.cause = cc (h.2, h.3, h.4, h.5) in
      inr (h.0.cause, has_left es fs (Entry.Judged number name held verdict h.0.cause) (subst (λ v. Has es v) same t))
]
verdict_before before middle es fs number name held verdict told (inr h) = inr (h.0, has_right es fs (Entry.Judged number name held verdict h.0) h.1)

pub told_before : (before middle : List Standing) (es fs : List Entry) (s : Standing) → AreTold before es middle → IsTold middle fs s → IsTold before (es ++ fs) s
told_before before middle es fs s told (inl h) = elim (told h.0 h.1) [
  | inl b ↦ inl (b.0, b.1, h.2 ∙ b.2, h.3 ∙ b.3, h.4 ∙ b.4, h.5 ∙ b.5, h.6 ∙ b.6, h.7 ∙ b.7, h.8 ∙ b.8)
  | inr t ↦
      let same : Entry.Judged h.0.number h.0.name h.0.held h.0.verdict h.0.cause ≡ Entry.Judged s.number s.name s.held s.verdict s.cause = cc (h.2, h.3, h.4, h.6, h.7) in
      inr (has_left es fs (Entry.Judged s.number s.name s.held s.verdict s.cause) (subst (λ v. Has es v) same t))
]
told_before before middle es fs s told (inr h) = inr (has_right es fs (Entry.Judged s.number s.name s.held s.verdict s.cause) h)

-- What standings are marked with, as entries are added. All of it is said of each file that is written once.

-- it was there with the same mark
abbrev pub KeepsFor : Control → List Standing → Standing → Type 0
KeepsFor control ss s = (b : Standing) × Has ss b × (b.number ≡ s.number) × (b.held ≡ s.held) × (is_done control b ≡ is_done control s)

-- and so with each mark
abbrev pub Keeps : List Standing → Standing → Type 0
Keeps ss s = (control : Control) → KeepsFor control ss s

abbrev pub KeepMarks : List Standing → List Standing → Type 0
KeepMarks ss rs = (s : Standing) → Has rs s → Keeps ss s

pub keeps_itself : (ss : List Standing) (s : Standing) → Has ss s → Keeps ss s
keeps_itself ss s a = λ control. (s, a, refl, refl, refl)

-- entries that tell of no write to such a file that was done
abbrev pub NoneDone : List Entry → Type 0
NoneDone es = (number : ℕ) (name : List ℕ) (what : Write) → IsOnce (control_of what) → Has es (Entry.Wrote number name what Wrote.Done) → ⊥

abbrev pub AreMarked : List Standing → List Entry → List Standing → Type 0
AreMarked ss es rs = (control : Control) → IsOnce control → (s : Standing) → Has rs s → IsDoneMarked control ss es s

abbrev pub AreDone : Kernel → List Standing → Type 0
AreDone k ss = (control : Control) → (s : Standing) → Has ss s → is_done control s ≡ true → HasDone control k s.held

pub keep_one : (control : Control) (ss : List Standing) (es : List Entry) (s : Standing) → KeepsFor control ss s → AllDistinct (numbers_of ss) → (TellsDone control es s.number → ⊥) → IsDoneMarked control ss es s
keep_one control ss es s b distinct none = elim (cases_Bool (is_done control b.0)) [
  | inl e ↦ inl (sym b.4 ∙ e, inl (b.0, b.1, b.2, e))
  | inr e ↦
      let unmarked : WasDone control ss es s.number → ⊥ = λ w. elim w [
        | inl c ↦
            let same : c.0 ≡ b.0 = distinct_one (λ (v : Standing). v.number) ss c.0 b.0 distinct c.1 b.1 (c.2 ∙ sym b.2) in
            both_ways (is_done control c.0) (ap (is_done control) same ∙ e) c.3
        | inr c ↦ none c
      ] in
      inr (sym b.4 ∙ e, unmarked)
]

-- none is told of that file
pub none_of : (es : List Entry) → NoneDone es → (control : Control) → IsOnce control → (number : ℕ) → TellsDone control es number → ⊥
none_of es none control once number h = none number h.0 h.1 (subst IsOnce (sym h.2) once) h.3

pub keep_marks : (ss rs : List Standing) (es : List Entry) → AllDistinct (numbers_of ss) → KeepMarks ss rs → NoneDone es → AreMarked ss es rs
keep_marks ss rs es distinct keep none control once s a = keep_one control ss es s (keep s a control) distinct (none_of es none control once s.number)

pub keep_done : (control : Control) (k : Kernel) (ss : List Standing) (s : Standing) → AreDone k ss → KeepsFor control ss s → is_done control s ≡ true → HasDone control k s.held
keep_done control k ss s stand b r = subst (λ (v : Held). HasDone control k v) b.3 (stand control b.0 b.1 (b.4 ∙ r))

pub keep_all_done : (m l : Kernel) (ss rs : List Standing) (next : ℕ) → Stand m ss next → Grows m l → KeepMarks ss rs → AreDone l rs
keep_all_done m l ss rs next stand g keep control s a r = keep_done control l ss s (stand_stays m l ss next g stand).done (keep s a control) r

-- the marks as a write to that file is done for a standing where P holds: its own has that mark, and the others stay
pub record Marks (file : Control) (P : Type 0) (x : Standing) (ss rs : List Standing) : Type 0 where
  pub each : (s : Standing) → Has rs s → (control : Control) → KeepsFor control ss s ⊎ ((control ≡ file) × (s.number ≡ x.number) × (s.held ≡ x.held) × (is_done file s ≡ true) × P)
  pub own : (s : Standing) → Has rs s → s.number ≡ x.number → P → is_done file s ≡ true

-- it had that mark, so each mark stays
pub marks_keep : (file : Control) (P : Type 0) (ss rs : List Standing) (x : Standing) → Has ss x → (P → is_done file x ≡ true) → Marks file P x ss rs → KeepMarks ss rs
marks_keep file P ss rs x has was m s a control = elim (m.each s a control) [
  | inl b ↦ b
  | inr b ↦ (x, has, sym b.1, sym b.2, subst (λ (c : Control). is_done c x ≡ is_done c s) (sym b.0) (was b.4 ∙ sym b.3))
]

-- what two entries of a write tell as done is that write
done_now : (number n : ℕ) (name m : List ℕ) (what w : Write) → Has (wrote_entries number name what Wrote.Done) (Entry.Wrote n m w Wrote.Done) → (n ≡ number) × (w ≡ what)
done_now number n name m what w (inl e) = let none : ⊥ = cc in absurd none
done_now number n name m what w (inr (inl e)) = ((cc), (cc))
done_now number n name m what w (inr (inr none)) = absurd none

-- it was done just now
pub done_marks : (what : Write) (P : Type 0) (ss rs : List Standing) (x : Standing) → AllDistinct (numbers_of ss) → P → Marks (control_of what) P x ss rs → AreMarked ss (wrote_entries x.number x.name what Wrote.Done) rs
done_marks what P ss rs x distinct p m control once s a = elim (cases_Bool (is_done control s)) [
  | inl e ↦ elim (m.each s a control) [
    | inl b ↦ inl (e, inl (b.0, b.1, b.2, b.4 ∙ e))
    | inr b ↦ inl (e, inr (x.name, what, sym b.0, inr (inl (ap (λ (v : ℕ). Entry.Wrote v x.name what Wrote.Done) (sym b.1)))))
  ]
  | inr e ↦
      let other : control ≡ control_of what → s.number ≡ x.number → ⊥ = λ c is. both_ways (is_done control s) e (ap (λ (v : Control). is_done v s) c ∙ m.own s a is p) in
      let kept : KeepsFor control ss s = elim (m.each s a control) [ inl b ↦ b | inr b ↦ absurd (other b.0 b.1) ] in
      keep_one control ss (wrote_entries x.number x.name what Wrote.Done) s kept distinct (λ h.
      let t = done_now x.number s.number x.name h.0 what h.1 h.3 in
      other (sym h.2 ∙ ap control_of t.1) t.0)
]

pub done_more : (file : Control) (P : Type 0) (k : Kernel) (ss rs : List Standing) (x : Standing) → AreDone k ss → HasDone file k x.held → Marks file P x ss rs → AreDone k rs
done_more file P k ss rs x stand log m control s a r = elim (m.each s a control) [
  | inl b ↦ keep_done control k ss s stand b r
  | inr b ↦ subst (λ (c : Control). HasDone c k s.held) (sym b.0) (subst (λ (v : Held). HasDone file k v) (sym b.2) log)
]
