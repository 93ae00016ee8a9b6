-- Fair steps, one after another.
use Rattle.std.proofs.Common.{◌||◌, ◌≡◌, ℕ, Bool, List, ◌++◌, inl, inr, sym, ◌∙◌, subst, true, false, ◌⊎◌, refl, ap, ◌<◌, ◌≤◌, append-nil, [], ◌∷◌, Some, slice_get, append_assoc, arith, not, map}
use Rattle.ug_table.proofs.Common.{Terms, Has, AllDistinct, Held, Target, Kernel, Live, IsKernel, Grows, Quiet, Entry, Tries, HasVerdict, Account, Start, Note, Judge, Had, Had_not, Went, Stand, HasHash, numbers_of, wrote_entries, IsDoneMarked, IsOnce, control_of, is_done, Control, Remove, IsDevice, IsGone, IsProbed, IsOne, Stands, HasStanding, IsJudged, gone_of, IsFair, AreLeft, WasDone, IsFirst, TellsNeither, Standing, Answers, Laters, State, noted, Judged, Cause, Device, Write, Wrote, Authorized, Call, Answer, IsGoneAt, Called, same_name, without, marked, removed_of, with_default, Default, Settled, names_of, tried_standings, has_left, has_right, distinct_one, has_cases, distinct_append, filter_has, has_filter, map_has, has_map, is_reject, some_same, quiet_grows, grows_trans, grows_refl, moves_quiet, WritesNothing, quiet_refl, called_quiet, StandInOrder, KeepsOrder}
use Rattle.ug_kernel.specs.declared.device.Effect.{Effect}
use Rattle.ug_table.proofs.Devices.{stand_stays}
use Rattle.std.proofs.lemmas.Bool.{cases_Bool, true_from_ne_false, true≢false}
use Rattle.ug_table.proofs.NamedStandings.{missing_without, same_is, is_same, still_done, settled_done, reject_removed}
use Rattle.ug_table.proofs.Standings.{IsFileOf, file_same, file_later}
use Rattle.ug_table.proofs.Says.{Says, gone_has, gone_append, account_says, one_held, AreLow, IsPlain, Plain, NoJudged, plain_unjudged, gone_unjudged, plain_note, plain_distinct, each_has, one_neither}
use Rattle.ug_table.proofs.Marks.{keeps_map, keeps_filter, keeps_marked, names_distinct}
use Rattle.ug_table.proofs.Accounts.{account_stays, verdict_before, told_before, KeepsFor, KeepMarks, keeps_itself, NoneDone, AreMarked, AreDone, keep_one, keep_marks, keep_done, keep_all_done, Marks}

-- One fair part of a sweep after another.

pub gone_as : (es : List Entry) (number n : ℕ) (name m : List ℕ) → number ≡ n → name ≡ m → Has es (Entry.Gone number name) → Has es (Entry.Gone n m)
gone_as es number n name m e f h = let same : Entry.Gone number name ≡ Entry.Gone n m = cc in subst (λ (v : Entry). Has es v) same h

kept_later : (ss rs : List Standing) (es fs : List Entry) (x : Standing) → ((t : Standing) → Has ss t → IsOne rs t ⊎ Has fs (Entry.Gone t.number t.name)) → IsOne ss x ⊎ Has es (Entry.Gone x.number x.name) → IsOne rs x ⊎ Has (es ++ fs) (Entry.Gone x.number x.name)
kept_later ss rs es fs x kept (inl t) = elim (kept t.0 t.1) [
  | inl s ↦ inl (s.0, s.1, t.2 ∙ s.2, t.3 ∙ s.3, t.4 ∙ s.4, t.5 ∙ s.5, t.6 ∙ s.6, t.7 ∙ s.7, t.8 ∙ s.8)
  | inr g ↦ inr (has_right es fs (Entry.Gone x.number x.name) (gone_as fs t.0.number x.number t.0.name x.name (sym t.2) (sym t.3) g))
]
kept_later ss rs es fs x kept (inr g) = inr (has_left es fs (Entry.Gone x.number x.name) g)

stands_by : (ss rs : List Standing) (es fs : List Entry) (number : ℕ) (name : List ℕ) (held : Held) (verdict : Target) (cause : Cause) → ((t : Standing) → Has ss t → IsOne rs t ⊎ Has fs (Entry.Gone t.number t.name)) → Stands ss number name held verdict cause ⊎ Has es (Entry.Gone number name) → Stands rs number name held verdict cause ⊎ Has (es ++ fs) (Entry.Gone number name)
stands_by ss rs es fs number name held verdict cause kept (inl t) = elim (kept t.0 t.1) [
  | inl s ↦ inl (s.0, s.1, sym s.2 ∙ t.2, sym s.3 ∙ t.3, sym s.4 ∙ t.4, sym s.6 ∙ t.5, sym s.7 ∙ t.6)
  | inr g ↦ inr (has_right es fs (Entry.Gone number name) (gone_as fs t.0.number number t.0.name name t.2 t.3 g))
]
stands_by ss rs es fs number name held verdict cause kept (inr g) = inr (has_left es fs (Entry.Gone number name) g)

-- a number of the second part that was marked or told with a file in the first is marked so between them
done_back : (control : Control) (once : IsOnce control) (before middle : List Standing) (es fs : List Entry) (bound number : ℕ) → AreLow before bound → ((n : ℕ) (name : List ℕ) (what : Write) (outcome : Wrote) → Has es (Entry.Wrote n name what outcome) → n < bound) → AreLeft before es middle → ((t : Standing) × Has middle t × (t.number ≡ number)) ⊎ (bound ≤ number) → WasDone control before (es ++ fs) number → WasDone control middle fs number
done_back control once before middle es fs bound number low told a (inl t) w =
    let done : WasDone control before es number → WasDone control middle fs number = λ x. elim (a.done control once t.0 t.1) [
      | inl y ↦ inl (t.0, t.1, t.2, y.0)
      | inr y ↦ absurd (y.1 (subst (λ (v : ℕ). WasDone control before es v) (sym t.2) x))
    ] in
    elim w [
      | inl b ↦ done (inl b)
      | inr b ↦ elim (has_cases es fs (Entry.Wrote number b.0 b.1 Wrote.Done) b.3) [ inl x ↦ done (inr (b.0, b.1, b.2, x)) | inr x ↦ inr (b.0, b.1, b.2, x) ]
    ]
done_back control once before middle es fs bound number low told a (inr new) w = elim w [
  | inl b ↦
      absurd (omega (arith, low b.0 b.1, b.2, new))
  | inr b ↦ elim (has_cases es fs (Entry.Wrote number b.0 b.1 Wrote.Done) b.3) [
    | inl x ↦
        absurd (omega (arith, told number b.0 b.1 Wrote.Done x, new))
    | inr x ↦ inr (b.0, b.1, b.2, x)
  ]
]

done_on : (control : Control) (once : IsOnce control) (before middle : List Standing) (es fs : List Entry) (number : ℕ) → AreLeft before es middle → WasDone control middle fs number → WasDone control before (es ++ fs) number
done_on control once before middle es fs number a (inl t) = elim (a.done control once t.0 t.1) [
  | inl y ↦ elim y.1 [
    | inl b ↦ inl (b.0, b.1, b.2 ∙ t.2, b.3)
    | inr b ↦ inr (b.0, b.1, b.2, has_left es fs (Entry.Wrote number b.0 b.1 Wrote.Done) (subst (λ (v : ℕ). Has es (Entry.Wrote v b.0 b.1 Wrote.Done)) t.2 b.3))
  ]
  | inr y ↦ let was : true ≡ false = sym t.3 ∙ y.0 in let none : ⊥ = cc in absurd none
]
done_on control once before middle es fs number a (inr b) = inr (b.0, b.1, b.2, has_right es fs (Entry.Wrote number b.0 b.1 Wrote.Done) b.3)

first_on : (before middle : List Standing) (es fs : List Entry) (bound number : ℕ) (what : Write) → AreLow before bound → ((n : ℕ) (name : List ℕ) (w : Write) (outcome : Wrote) → Has es (Entry.Wrote n name w outcome) → n < bound) → AreLeft before es middle → ((t : Standing) × Has middle t × (t.number ≡ number)) ⊎ (bound ≤ number) → IsFirst middle fs number what → IsFirst before (es ++ fs) number what
first_on before middle es fs bound number what low told a n f = λ once w. f once (done_back (control_of what) once before middle es fs bound number low told a n w)

marked_on : (control : Control) (once : IsOnce control) (before middle : List Standing) (es fs : List Entry) (bound : ℕ) (s : Standing) → AreLow before bound → ((n : ℕ) (name : List ℕ) (w : Write) (outcome : Wrote) → Has es (Entry.Wrote n name w outcome) → n < bound) → AreLeft before es middle → ((t : Standing) × Has middle t × (t.number ≡ s.number)) ⊎ (bound ≤ s.number) → IsDoneMarked control middle fs s → IsDoneMarked control before (es ++ fs) s
marked_on control once before middle es fs bound s low told a n (inl y) = inl (y.0, done_on control once before middle es fs s.number a y.1)
marked_on control once before middle es fs bound s low told a n (inr y) = inr (y.0, λ w. y.1 (done_back control once before middle es fs bound s.number low told a n w))

-- what is left by entries, and then by others whose verdicts have numbers above those that the first tell gone
left_trans : (before middle ss : List Standing) (es fs : List Entry) (bound : ℕ) → AreLow before bound → ((number : ℕ) (name : List ℕ) (what : Write) (outcome : Wrote) → Has es (Entry.Wrote number name what outcome) → number < bound) → ((number : ℕ) (name : List ℕ) → Has es (Entry.Gone number name) → number < bound) → ((number : ℕ) (name : List ℕ) (held : Held) (verdict : Target) (cause : Cause) → Has fs (Entry.Judged number name held verdict cause) → bound ≤ number) → AreLeft before es middle → AreLeft middle fs ss → AreLeft before (es ++ fs) ss
left_trans before middle ss es fs bound first wrote below after a b = record {
  told = λ s h. told_before before middle es fs s a.told (b.told s h);
  kept = λ x h. kept_later middle ss es fs x b.kept (a.kept x h);
  judged = λ number name held verdict cause h. elim (has_cases es fs (Entry.Judged number name held verdict cause) h) [
    | inl x ↦ stands_by middle ss es fs number name held verdict cause b.kept (a.judged number name held verdict cause x)
    | inr x ↦ elim (b.judged number name held verdict cause x) [
      | inl s ↦ inl s
      | inr g ↦ inr (has_right es fs (Entry.Gone number name) g)
    ]
  ];
  ended = λ s name h g. elim (has_cases es fs (Entry.Gone s.number name) g) [
    | inl x ↦ elim (b.told s h) [
      | inl t ↦ a.ended t.0 name t.1 (gone_as es s.number t.0.number name name t.2 refl x)
      | inr j ↦
          omega (arith, after s.number s.name s.held s.verdict s.cause j, below s.number name x)
    ]
    | inr x ↦ b.ended s name h x
  ];
  done = λ control once s h.
      let n : ((t : Standing) × Has middle t × (t.number ≡ s.number)) ⊎ (bound ≤ s.number) = elim (b.told s h) [ inl t ↦ inl (t.0, t.1, sym t.2) | inr j ↦ inr (after s.number s.name s.held s.verdict s.cause j) ] in
      marked_on control once before middle es fs bound s first wrote a n (b.done control once s h);
}

-- numbers below one are below a later one
low_later : (ss : List Standing) (next later : ℕ) → next ≤ later → AreLow ss next → AreLow ss later
low_later ss next later le low s a = let below = low s a in omega (arith, below, le)

had_number : {J : Type 0} (answer : Answers J) (later : Laters J) (terms : Terms) (tried : Tries) (mid k : Kernel) (middle : List Standing) (log1 : List Effect) (judge1 : J) (next1 : ℕ) (gs : List Entry) (log : List Effect) (judge : J) (next number : ℕ) (name : List ℕ) (held : Held) (verdict : Target) → AreLow middle next1 → Account answer later terms tried mid k middle log1 judge1 next1 gs log judge next → HasVerdict middle gs number name held verdict → ((t : Standing) × Has middle t × (t.number ≡ number)) ⊎ (next1 ≤ number)
had_number answer later terms tried mid k middle log1 judge1 next1 gs log judge next number name held verdict low a (inl h) = inl (h.0, h.1, h.2)
had_number answer later terms tried mid k middle log1 judge1 next1 gs log judge next number name held verdict low a (inr h) = inr ((account_says answer later terms tried mid k middle log1 judge1 next1 gs log judge next low a).judged number name held verdict h.0 h.1).after

none_left : (es fs : List Entry) → NoJudged (es ++ fs) → NoJudged es
none_left es fs none number name held verdict cause a = none number name held verdict cause (has_left es fs (Entry.Judged number name held verdict cause) a)

account_trans : {J : Type 0} (answer : Answers J) (later : Laters J) (terms : Terms) (tried : Tries) (start mid k : Kernel) (before middle : List Standing) (log0 log1 : List Effect) (judge0 judge1 : J) (next0 next1 : ℕ) (es : List Entry) (log : List Effect) (judge : J) (next : ℕ) (fs : List Entry) → Grows start mid → AreLow before next0 → AreLow middle next1 → AreLeft before es middle → Account answer later terms tried start k before log0 judge0 next0 es log1 judge1 next1 → Account answer later terms tried mid k middle log1 judge1 next1 fs log judge next → NoJudged fs → Account answer later terms tried start k before log0 judge0 next0 (es ++ fs) log judge next
account_trans answer later terms tried start mid k before middle log0 log1 judge0 judge1 next0 next1 es log judge next fs g low mlow left a Start none = subst (λ v. Account answer later terms tried start k before log0 judge0 next0 v log1 judge1 next1) (sym (append-nil es)) a
account_trans answer later terms tried start mid k before middle log0 log1 judge0 judge1 next0 next1 es log judge next fs g low mlow left a (Note gs m j n e t h) none =
    subst (λ v. Account answer later terms tried start k before log0 judge0 next0 v m j n) (append_assoc es gs (e ∷ []))
    (Note (es ++ gs) m j n e t (account_trans answer later terms tried start mid k before middle log0 log1 judge0 judge1 next0 next1 es m j n gs g low mlow left a h (none_left gs _ none)))
account_trans answer later terms tried start mid k before middle log0 log1 judge0 judge1 next0 next1 es log judge next fs g low mlow left a (Judge gs m j n i name held judged on ss d b stands there so h) none =
    absurd (none n name held _ _ (has_right gs (_ ∷ []) _ (inl refl)))
account_trans answer later terms tried start mid k before middle log0 log1 judge0 judge1 next0 next1 es log judge next fs g low mlow left a (Had gs m j n i number name held judged verdict what outcome d v due first may h) none =
    subst (λ x. Account answer later terms tried start k before log0 judge0 next0 x (m ++ record { device = i; write = what } ∷ []) j n) (append_assoc es gs (wrote_entries number name what outcome))
    (Had (es ++ gs) m j n i number name held judged verdict what outcome d (verdict_before before middle es gs number name held verdict left.told v) due
    (first_on before middle es gs next1 number what
    (low_later before next0 next1 (account_says answer later terms tried start k before log0 judge0 next0 es log1 judge1 next1 low a).rises low)
    (account_says answer later terms tried start k before log0 judge0 next0 es log1 judge1 next1 low a).wrote left
    (had_number answer later terms tried mid k middle log1 judge1 next1 gs m j n number name held verdict mlow h v) first)
    may (account_trans answer later terms tried start mid k before middle log0 log1 judge0 judge1 next0 next1 es m j n gs g low mlow left a h (none_left gs _ none)))
account_trans answer later terms tried start mid k before middle log0 log1 judge0 judge1 next0 next1 es log judge next fs g low mlow left a (Had_not gs m j n i number name held judged verdict what outcome d v due first may h) none =
    subst (λ x. Account answer later terms tried start k before log0 judge0 next0 x m j n) (append_assoc es gs (wrote_entries number name what outcome))
    (Had_not (es ++ gs) m j n i number name held judged verdict what outcome d (verdict_before before middle es gs number name held verdict left.told v) due
    (first_on before middle es gs next1 number what
    (low_later before next0 next1 (account_says answer later terms tried start k before log0 judge0 next0 es log1 judge1 next1 low a).rises low)
    (account_says answer later terms tried start k before log0 judge0 next0 es log1 judge1 next1 low a).wrote left
    (had_number answer later terms tried mid k middle log1 judge1 next1 gs m j n number name held verdict mlow h v) first)
    may (account_trans answer later terms tried start mid k before middle log0 log1 judge0 judge1 next0 next1 es m j n gs g low mlow left a h (none_left gs _ none)))
account_trans answer later terms tried start mid k before middle log0 log1 judge0 judge1 next0 next1 es log judge next fs g low mlow left a (Went gs m j n i number name held judged verdict d o v h) none =
    subst (λ x. Account answer later terms tried start k before log0 judge0 next0 x m j n) (append_assoc es gs (Entry.Gone number name ∷ []))
    (Went (es ++ gs) m j n i number name held judged verdict d o (verdict_before before middle es gs number name held verdict left.told v) (account_trans answer later terms tried start mid k before middle log0 log1 judge0 judge1 next0 next1 es m j n gs g low mlow left a h (none_left gs _ none)))

-- a fair part, with the standings that it began with
pub record FairFrom {J : Type 0} (answer : Answers J) (later : Laters J) (terms : Terms) (tried : Tries) (k : Kernel) (w : State J) (l : Kernel) (v : State J) : Type 0 where
  pub stood : Stand k w.standings w.next
  pub fair : IsFair answer later terms tried k w l v

says_of : {J : Type 0} {answer : Answers J} {later : Laters J} {terms : Terms} {tried : Tries} {k l : Kernel} {w v : State J} (a : FairFrom answer later terms tried k w l v) → Says k l w.standings w.next a.fair.rest v.next
says_of {J} {answer} {later} {terms} {tried} {k} {l} {w} {v} a = account_says answer later terms tried k l w.standings k.log w.judge w.next a.fair.rest l.log v.judge v.next a.stood.numbers a.fair.account

device_is : (m l : Kernel) (j i : ℕ) (name : List ℕ) (held : Held) (judged : Judged) → Grows m l → IsDevice m j name held judged → IsFileOf l held.0 i → j ≡ i
device_is m l j i name held judged g d f = file_same l held.0 j i (file_later m l held.0 j g d.file) f

-- what was judged in a part was live then
probed_lives : (m l : Kernel) (name : List ℕ) (held i : ℕ) (on : Bool) → IsProbed m l name held i on → IsGone m i → ⊥
probed_lives m l name held i on p gone =
    let before = p.lived.before in
    let g = grows_trans m p.first before p.since (quiet_grows p.first before (moves_quiet p.first before p.lived.start)) in
    let x = g.devices i gone.0 gone.1 in
    let at : slice_get before.devices i ≡ Some p.lived.opened.d = subst (λ (v : ℕ). slice_get before.devices v ≡ Some p.lived.opened.d) p.lived.is p.lived.opened.live.at in
    let same : x.0 ≡ p.lived.opened.d = some_same (slice_get before.devices i) x.0 p.lived.opened.d x.1 at in
    true≢false (sym (x.2.gone gone.2) ∙ ap (λ (v : Device). v.gone) same ∙ p.lived.opened.live.here)

judged_lives : {J : Type 0} {answer : Answers J} {later : Laters J} {terms : Terms} {tried : Tries} {m l : Kernel} {u v : State J} (b : FairFrom answer later terms tried m u l v) (i n : ℕ) → IsJudged l b.fair.rest n i → IsGone m i → ⊥
judged_lives {m = m} {l = l} b i n x gone =
    let j = (says_of b).judged n x.name x.held x.verdict x.cause x.has in
    let is : j.i ≡ i = file_same l x.held.0 j.i i j.device.file x.file in
    probed_lives m l x.name x.held.0 j.i j.on j.probed (subst (λ (y : ℕ). IsGone m y) (sym is) gone)

-- a verdict of the part, or from before it, stands after it, or its number is told gone
stands_or_gone : {J : Type 0} {answer : Answers J} {later : Laters J} {terms : Terms} {tried : Tries} {k m : Kernel} {w u : State J} (a : FairFrom answer later terms tried k w m u) (number : ℕ) (name : List ℕ) (held : Held) (verdict : Target) → HasVerdict w.standings a.fair.rest number name held verdict → ((s : Standing) × Has u.standings s × (s.held ≡ held)) ⊎ Has a.fair.rest (Entry.Gone number name)
stands_or_gone a number name held verdict (inl h) = elim (a.fair.left.kept h.0 h.1) [
  | inl t ↦ inl (t.0, t.1, sym t.4 ∙ h.4)
  | inr g ↦ inr (gone_as a.fair.rest h.0.number number h.0.name name h.2 h.3 g)
]
stands_or_gone a number name held verdict (inr h) = elim (a.fair.left.judged number name held verdict h.0 h.1) [
  | inl t ↦ inl (t.0, t.1, t.4)
  | inr g ↦ inr g
]

-- so its device has a standing, or is gone
pub had_before : {J : Type 0} {answer : Answers J} {later : Laters J} {terms : Terms} {tried : Tries} {k m : Kernel} {w u : State J} (a : FairFrom answer later terms tried k w m u) (l : Kernel) (i number : ℕ) (name : List ℕ) (held : Held) (verdict : Target) → Grows m l → HasVerdict w.standings a.fair.rest number name held verdict → IsFileOf l held.0 i → HasStanding l u.standings i ⊎ IsGone m i
had_before {k = k} {m = m} {w = w} {u = u} a l i number name held verdict g v file = elim (stands_or_gone a number name held verdict v) [
  | inl t ↦ inl (record { s = t.0; has = t.1; file = subst (λ (x : Held). IsFileOf l x.0 i) (sym t.2) file })
  | inr e ↦
      let says = says_of a in
      let x = says.gone number name e in
      let same : x.held ≡ held = one_held k m w.standings w.next a.fair.rest u.next number name name x.held held x.verdict verdict a.stood.numbers a.stood.distinct says x.had v in
      let is : x.i ≡ i = device_is m l x.i i name x.held x.judged g x.device (subst (λ (y : Held). IsFileOf l y.0 i) (sym same) file) in
      inr (subst (λ (y : ℕ). IsGone m y) is x.gone)
]

-- so it isn't judged later
judged_before : {J : Type 0} {answer : Answers J} {later : Laters J} {terms : Terms} {tried before_this : Tries} {k m l : Kernel} {w u v : State J} (a : FairFrom answer later terms tried k w m u) (b : FairFrom answer later terms before_this m u l v) (i number n : ℕ) (name : List ℕ) (held : Held) (verdict : Target) → HasVerdict w.standings a.fair.rest number name held verdict → IsFileOf l held.0 i → IsJudged l b.fair.rest n i → ⊥
judged_before {l = l} a b i number n name held verdict v file x = elim (had_before a l i number name held verdict b.fair.grows v file) [
  | inl s ↦ b.fair.unjudged i n s x
  | inr gone ↦ judged_lives b i n x gone
]

judged_split : (l : Kernel) (es fs : List Entry) (n i : ℕ) → IsJudged l (es ++ fs) n i → IsJudged l es n i ⊎ IsJudged l fs n i
judged_split l es fs n i x = elim (has_cases es fs (Entry.Judged n x.name x.held x.verdict x.cause) x.has) [
  | inl h ↦ inl (record { name = x.name; held = x.held; verdict = x.verdict; cause = x.cause; has = h; file = x.file })
  | inr h ↦ inr (record { name = x.name; held = x.held; verdict = x.verdict; cause = x.cause; has = h; file = x.file })
]

judged_back : {J : Type 0} {answer : Answers J} {later : Laters J} {terms : Terms} {tried : Tries} {k m : Kernel} {w u : State J} (a : FairFrom answer later terms tried k w m u) (l : Kernel) (n i : ℕ) → Grows m l → IsJudged l a.fair.rest n i → IsJudged m a.fair.rest n i
judged_back {m = m} a l n i g x =
    let j = (says_of a).judged n x.name x.held x.verdict x.cause x.has in
    let is : j.i ≡ i = device_is m l j.i i x.name x.held j.judged g j.device x.file in
    record { name = x.name; held = x.held; verdict = x.verdict; cause = x.cause; has = x.has; file = subst (λ (y : ℕ). IsFileOf m x.held.0 y) is j.device.file }

standing_back : (k m l : Kernel) (ss : List Standing) (next i : ℕ) → Stand k ss next → Grows k m → Grows m l → HasStanding l ss i → HasStanding m ss i
standing_back k m l ss next i stand g j h =
    let x = stand.devices h.s h.has in
    let is : x.0 ≡ i = device_is k l x.0 i h.s.name h.s.held h.s.judged (grows_trans k m l g j) x.1 h.file in
    record { s = h.s; has = h.has; file = subst (λ (y : ℕ). IsFileOf m h.s.held.0 y) is (file_later k m h.s.held.0 x.0 g x.1.file) }

once_by : {J : Type 0} {answer : Answers J} {later : Laters J} {terms : Terms} {tried before_this : Tries} {k m l : Kernel} {w u v : State J} (a : FairFrom answer later terms tried k w m u) (b : FairFrom answer later terms before_this m u l v) (i x y : ℕ) → IsJudged l a.fair.rest x i ⊎ IsJudged l b.fair.rest x i → IsJudged l a.fair.rest y i ⊎ IsJudged l b.fair.rest y i → x ≡ y
once_by {l = l} a b i x y (inl p) (inl q) = a.fair.once i x y (judged_back a l x i b.fair.grows p) (judged_back a l y i b.fair.grows q)
once_by a b i x y (inl p) (inr q) = absurd (judged_before a b i x y p.name p.held p.verdict (inr (p.cause, p.has)) p.file q)
once_by a b i x y (inr p) (inl q) = absurd (judged_before a b i y x q.name q.held q.verdict (inr (q.cause, q.has)) q.file p)
once_by a b i x y (inr p) (inr q) = b.fair.once i x y p q

unjudged_by : {J : Type 0} {answer : Answers J} {later : Laters J} {terms : Terms} {tried before_this : Tries} {k m l : Kernel} {w u v : State J} (a : FairFrom answer later terms tried k w m u) (b : FairFrom answer later terms before_this m u l v) (i n : ℕ) → HasStanding l w.standings i → IsJudged l a.fair.rest n i ⊎ IsJudged l b.fair.rest n i → ⊥
unjudged_by {k = k} {m = m} {l = l} {w = w} a b i n h (inl p) = a.fair.unjudged i n (standing_back k m l w.standings w.next i a.stood a.fair.grows b.fair.grows h) (judged_back a l n i b.fair.grows p)
unjudged_by a b i n h (inr p) = judged_before a b i h.s.number n h.s.name h.s.held h.s.verdict (inl (h.s, h.has, refl, refl, refl, refl)) h.file p

-- a number that was told gone has no verdict later, so it isn't told so again
gone_by : {J : Type 0} {answer : Answers J} {later : Laters J} {terms : Terms} {tried before_this : Tries} {k m l : Kernel} {w u v : State J} (a : FairFrom answer later terms tried k w m u) (b : FairFrom answer later terms before_this m u l v) (number : ℕ) → Has (gone_of a.fair.rest) number → Has (gone_of b.fair.rest) number → ⊥
gone_by a b number x y =
    let p = gone_has a.fair.rest number x in
    let q = gone_has b.fair.rest number y in
    elim ((says_of b).gone number q.0 q.1).had [
      | inl t ↦ a.fair.left.ended t.0 p.0 t.1 (gone_as a.fair.rest number t.0.number p.0 p.0 (sym t.2) refl p.1)
      | inr j ↦
          let w = (says_of b).gone number q.0 q.1 in
          let after = ((says_of b).judged number q.0 w.held w.verdict j.0 j.1).after in
          omega (arith, after, ((says_of a).gone number p.0 p.1).below)
    ]

-- a small step, in which nothing is judged
pub record StepFrom {J : Type 0} (answer : Answers J) (later : Laters J) (terms : Terms) (tried : Tries) (k : Kernel) (w : State J) (l : Kernel) (v : State J) : Type 0 where
  pub step : FairFrom answer later terms tried k w l v
  pub none : NoJudged step.fair.rest

-- one part after another, with its account
pub fair_by : {J : Type 0} {answer : Answers J} {later : Laters J} {terms : Terms} {tried before_this : Tries} {k m l : Kernel} {w u v : State J} (a : FairFrom answer later terms tried k w m u) (b : FairFrom answer later terms before_this m u l v) → Account answer later terms tried k l w.standings k.log w.judge w.next (a.fair.rest ++ b.fair.rest) l.log v.judge v.next → FairFrom answer later terms tried k w l v
fair_by {J} {answer} {later} {terms} {tried} {before_this} {k} {m} {l} {w} {u} {v} a b account =
    let es = a.fair.rest in
    let fs = b.fair.rest in
    let fair : IsFair answer later terms tried k w l v = record {
      sound = b.fair.sound;
      grows = grows_trans k m l a.fair.grows b.fair.grows;
      rest = es ++ fs;
      entries = b.fair.entries ∙ ap (λ (x : List Entry). x ++ fs) a.fair.entries ∙ append_assoc w.entries es fs;
      stand = b.fair.stand;
      account = account;
      left = left_trans w.standings u.standings v.standings es fs u.next (low_later w.standings w.next u.next (says_of a).rises a.stood.numbers) (says_of a).wrote (λ number name x. ((says_of a).gone number name x).below) (λ number name held verdict cause x. ((says_of b).judged number name held verdict cause x).after) a.fair.left b.fair.left;
      gone = subst (λ (x : List ℕ). AllDistinct x) (sym (gone_append es fs)) (distinct_append (gone_of es) (gone_of fs) a.fair.gone b.fair.gone (λ n x y. gone_by a b n x y));
      once = λ i x y p q. once_by a b i x y (judged_split l es fs x i p) (judged_split l es fs y i q);
      unjudged = λ i n h p. unjudged_by a b i n h (judged_split l es fs n i p);
    } in
    record { stood = a.stood; fair = fair }

pub fair_trans : {J : Type 0} {answer : Answers J} {later : Laters J} {terms : Terms} {tried : Tries} {k m l : Kernel} {w u v : State J} → FairFrom answer later terms tried k w m u → StepFrom answer later terms tried m u l v → FairFrom answer later terms tried k w l v
fair_trans {J} {answer} {later} {terms} {tried} {k} {m} {l} {w} {u} {v} a s =
    let b = s.step in
    let es = a.fair.rest in
    let fs = b.fair.rest in
    let account = account_stays answer later terms tried k m l w.standings k.log w.judge w.next es m.log u.judge u.next b.fair.grows a.fair.account in
    fair_by a b (account_trans answer later terms tried k m l w.standings u.standings k.log m.log w.judge u.judge w.next u.next es l.log v.judge v.next fs a.fair.grows a.stood.numbers b.stood.numbers a.fair.left account b.fair.account s.none)

-- Small fair steps: calls that write nothing, plain entries, marked standings, and one standing that ends.

-- the standings are the same, their marks aside
pub record Same (ss rs : List Standing) : Type 0 where
  pub there : (s : Standing) → Has rs s → IsOne ss s
  pub kept : (s : Standing) → Has ss s → IsOne rs s
  pub order : KeepsOrder ss rs

-- the same but for one, which ends
pub record Less (x : Standing) (ss rs : List Standing) : Type 0 where
  pub there : (s : Standing) → Has rs s → IsOne ss s
  pub marks : KeepMarks ss rs
  pub kept : (s : Standing) → Has ss s → IsOne rs s ⊎ ((s.number ≡ x.number) × (s.name ≡ x.name))
  pub apart : (s : Standing) → Has rs s → s.number ≡ x.number → ⊥
  pub order : KeepsOrder ss rs

pub one_itself : (ss : List Standing) (s : Standing) → Has ss s → IsOne ss s
one_itself ss s a = (s, a, refl, refl, refl, refl, refl, refl, refl)

-- without entries all are left
pub left_all : (ss : List Standing) → AllDistinct (numbers_of ss) → AreLeft ss [] ss
left_all ss distinct = record {
  told = λ s a. inl (one_itself ss s a);
  kept = λ s a. inl (one_itself ss s a);
  judged = λ number name held verdict cause a. absurd a;
  ended = λ s name a g. g;
  done = λ control once s a. keep_one control ss [] s (keeps_itself ss s a control) distinct (λ h. h.3);
}

pub same_refl : (ss : List Standing) → Same ss ss
same_refl ss = record { there = one_itself ss; kept = one_itself ss; order = λ next o. o }

one_device : (k : Kernel) (before : List Standing) (next : ℕ) (s : Standing) → Stand k before next → IsOne before s → (i : ℕ) × IsDevice k i s.name s.held s.judged
one_device k before next s stand b =
    let x = stand.devices b.0 b.1 in
    let named : IsDevice k x.0 s.name b.0.held b.0.judged = subst (λ (v : List ℕ). IsDevice k x.0 v b.0.held b.0.judged) (sym b.3) x.1 in
    let held : IsDevice k x.0 s.name s.held b.0.judged = subst (λ (v : Held). IsDevice k x.0 s.name v b.0.judged) (sym b.4) named in
    (x.0, subst (λ (v : Judged). IsDevice k x.0 s.name s.held v) (sym b.5) held)

one_hash : (k : Kernel) (before : List Standing) (next : ℕ) (s : Standing) → Stand k before next → IsOne before s → HasHash k s
one_hash k before next s stand b i d file device =
    b.8 ∙ stand.hashes b.0 b.1 i d (subst (λ (v : Held). IsFileOf k v.0 i) b.4 file) device

pub in_order : {k : Kernel} {ss : List Standing} {next : ℕ} → Stand k ss next → StandInOrder next ss
in_order stand = record { order = stand.order; distinct = stand.distinct; numbers = stand.numbers }

pub stand_by : (k : Kernel) (ss : List Standing) (next : ℕ) → StandInOrder next ss → ((s : Standing) → Has ss s → (i : ℕ) × IsDevice k i s.name s.held s.judged) → ((s : Standing) → Has ss s → HasHash k s) → AreDone k ss → Stand k ss next
stand_by k ss next o devices hashes done = record {
  devices = devices;
  hashes = hashes;
  numbers = o.numbers;
  names = names_distinct (names_of ss) o.order;
  order = o.order;
  distinct = o.distinct;
  done = done;
}

pub stand_of : (k : Kernel) (before ss : List Standing) (next : ℕ) → ((s : Standing) → Has ss s → IsOne before s) → KeepsOrder before ss → AreDone k ss → Stand k before next → Stand k ss next
stand_of k before ss next there keeps done stand =
    stand_by k ss next (keeps next (in_order stand)) (λ s h. one_device k before next s stand (there s h)) (λ s h. one_hash k before next s stand (there s h)) done

-- a step whose entries tell no verdict and no end
pub plain_fair : {J : Type 0} (answer : Answers J) (later : Laters J) (terms : Terms) (tried : Tries) (m l : Kernel) (u : State J) (rs : List Standing) (fs : List Entry) → IsKernel l → Grows m l → Stand m u.standings u.next → Same u.standings rs → AreMarked u.standings fs rs → AreDone l rs → Plain fs → Account answer later terms tried m l u.standings m.log u.judge u.next fs l.log u.judge u.next → StepFrom answer later terms tried m u l (record u { standings = rs; entries = u.entries ++ fs })
plain_fair answer later terms tried m l u rs fs sound g stand same marked done plain account =
    let fair : IsFair answer later terms tried m u l (record u { standings = rs; entries = u.entries ++ fs }) = record {
      sound = sound;
      grows = g;
      rest = fs;
      entries = refl;
      stand = stand_of l u.standings rs u.next same.there same.order done (stand_stays m l u.standings u.next g stand);
      account = account;
      left = record {
        told = λ s h. inl (same.there s h);
        kept = λ s h. inl (same.kept s h);
        judged = λ number name held verdict cause h. absurd (plain_unjudged fs plain number name held verdict cause h);
        ended = λ s name h a. each_has IsPlain fs (Entry.Gone s.number name) plain a;
        done = marked;
      };
      gone = plain_distinct fs plain;
      once = λ i a b p q. absurd (plain_unjudged fs plain a p.name p.held p.verdict p.cause p.has);
      unjudged = λ i a h p. plain_unjudged fs plain a p.name p.held p.verdict p.cause p.has;
    } in
    record { step = record { stood = stand; fair = fair }; none = plain_unjudged fs plain }

-- a step that leaves the marks
pub keep_fair : {J : Type 0} (answer : Answers J) (later : Laters J) (terms : Terms) (tried : Tries) (m l : Kernel) (u : State J) (rs : List Standing) (fs : List Entry) → IsKernel l → Grows m l → Stand m u.standings u.next → Same u.standings rs → KeepMarks u.standings rs → NoneDone fs → Plain fs → Account answer later terms tried m l u.standings m.log u.judge u.next fs l.log u.judge u.next → StepFrom answer later terms tried m u l (record u { standings = rs; entries = u.entries ++ fs })
keep_fair answer later terms tried m l u rs fs sound g stand same keep none plain account =
    plain_fair answer later terms tried m l u rs fs sound g stand same (keep_marks u.standings rs fs stand.distinct keep none) (keep_all_done m l u.standings rs u.next stand g keep) plain account

-- a step from a state at which what went before is fair
fair_quiet : {J : Type 0} (answer : Answers J) (later : Laters J) (terms : Terms) (tried : Tries) (k l : Kernel) (w : State J) → IsKernel l → Quiet k l → Stand k w.standings w.next → StepFrom answer later terms tried k w l w
fair_quiet answer later terms tried k l w sound q stand =
    let account : Account answer later terms tried k l w.standings k.log w.judge w.next [] l.log w.judge w.next = subst (λ v. Account answer later terms tried k l w.standings k.log w.judge w.next [] v w.judge w.next) (sym q.log) Start in
    let step = keep_fair answer later terms tried k l w w.standings [] sound (quiet_grows k l q) stand (same_refl w.standings) (keeps_itself w.standings) (λ number name what once h. h) tt account in
    subst (λ (x : List Entry). StepFrom answer later terms tried k w l (record w { entries = x })) (append-nil w.entries) step

pub fair_refl : {J : Type 0} (answer : Answers J) (later : Laters J) (terms : Terms) (tried : Tries) (k : Kernel) (w : State J) → IsKernel k → Stand k w.standings w.next → FairFrom answer later terms tried k w k w
fair_refl answer later terms tried k w sound stand = (fair_quiet answer later terms tried k k w sound (quiet_refl k) stand).step

pub then_quiet : {J : Type 0} {answer : Answers J} {later : Laters J} {terms : Terms} {tried : Tries} {k m : Kernel} {w u : State J} (l : Kernel) → IsKernel l → Quiet m l → FairFrom answer later terms tried k w m u → FairFrom answer later terms tried k w l u
then_quiet {J} {answer} {later} {terms} {tried} {k} {m} {w} {u} l sound q h = fair_trans h (fair_quiet answer later terms tried m l u sound q h.fair.stand)

pub then_called : {J : Type 0} {answer : Answers J} {later : Laters J} {terms : Terms} {tried : Tries} {k m : Kernel} {w u : State J} (call : Call) (a : Answer call) (l : Kernel) → WritesNothing call → Called call a m l → FairFrom answer later terms tried k w m u → FairFrom answer later terms tried k w l u
then_called {J} {answer} {later} {terms} {tried} {k} {m} {w} {u} call a l n c h = then_quiet l c.sound (called_quiet call a m l n c) h

-- the state and the kernel at a tree's end
pub fair_end : {J : Type 0} {answer : Answers J} {later : Laters J} {terms : Terms} {tried : Tries} {k m : Kernel} {w u : State J} (l : Kernel) (v : State J) → v ≡ u → l ≡ m → FairFrom answer later terms tried k w m u → FairFrom answer later terms tried k w l v
fair_end {J} {answer} {later} {terms} {tried} {k} {m} {w} {u} l v e f h = subst (λ x. FairFrom answer later terms tried k w x v) (sym f) (subst (λ x. FairFrom answer later terms tried k w m x) (sym e) h)

pub then_note : {J : Type 0} {answer : Answers J} {later : Laters J} {terms : Terms} {tried : Tries} {k l : Kernel} {w u : State J} (e : Entry) → TellsNeither e → FairFrom answer later terms tried k w l u → FairFrom answer later terms tried k w l (noted u e)
then_note {J} {answer} {later} {terms} {tried} {k} {l} {w} {u} e t h =
    fair_trans h (keep_fair answer later terms tried l l u u.standings (e ∷ []) h.fair.sound (grows_refl l) h.fair.stand (same_refl u.standings) (keeps_itself u.standings) (λ number name what once a. one_neither e (Entry.Wrote number name what Wrote.Done) t a) (plain_note e t, tt) (Note [] l.log u.judge u.next e t Start))

pub then_same : {J : Type 0} {answer : Answers J} {later : Laters J} {terms : Terms} {tried : Tries} {k l : Kernel} {w u : State J} (ss : List Standing) → Same u.standings ss → KeepMarks u.standings ss → FairFrom answer later terms tried k w l u → FairFrom answer later terms tried k w l (record u { standings = ss })
then_same {J} {answer} {later} {terms} {tried} {k} {l} {w} {u} ss same keep h =
    let step = keep_fair answer later terms tried l l u ss [] h.fair.sound (grows_refl l) h.fair.stand same keep (λ number name what once a. a) tt Start in
    fair_trans h (subst (λ (x : List Entry). StepFrom answer later terms tried l u l (record u { standings = ss; entries = x })) (append-nil u.entries) step)

-- a standing that ends

pub gone_device : (k : Kernel) (i : ℕ) (name : List ℕ) (held : Held) (judged : Judged) (x : IsDevice k i name held judged) → (Live k.devices i x.d → ⊥) → IsGone k i
gone_device k i name held judged x dead = (x.d, x.device, true_from_ne_false x.d.gone (λ e. dead (record { at = x.device; here = e })))

gone_held : (k : Kernel) (i : ℕ) (name : List ℕ) (held : Held) (judged : Judged) → IsDevice k i name held judged → IsGoneAt held.0 k → IsGone k i
gone_held k i name held judged x gone = gone_device k i name held judged x (λ live. gone i x.d (record { file = record { device = i; control = Authorized }; at = x.file; is = refl; device = x.device }) live)

went_fair : {J : Type 0} (answer : Answers J) (later : Laters J) (terms : Terms) (tried : Tries) (m : Kernel) (u : State J) (x : Standing) (rs : List Standing) → IsKernel m → Stand m u.standings u.next → Has u.standings x → Less x u.standings rs → IsGoneAt x.held.0 m → StepFrom answer later terms tried m u m (record u { standings = rs; entries = u.entries ++ Entry.Gone x.number x.name ∷ [] })
went_fair answer later terms tried m u x rs sound stand has less gone =
    let e = Entry.Gone x.number x.name in
    let d = stand.devices x has in
    let none = gone_unjudged x.number x.name in
    let fair : IsFair answer later terms tried m u m (record u { standings = rs; entries = u.entries ++ e ∷ [] }) = record {
      sound = sound;
      grows = grows_refl m;
      rest = e ∷ [];
      entries = refl;
      stand = stand_of m u.standings rs u.next less.there less.order (λ control s h. keep_done control m u.standings s stand.done (less.marks s h control)) stand;
      account = Went [] m.log u.judge u.next d.0 x.number x.name x.held x.judged x.verdict d.1 (gone_held m d.0 x.name x.held x.judged d.1 gone) (inl (x, has, refl, refl, refl, refl)) Start;
      left = record {
        told = λ s h. inl (less.there s h);
        kept = λ s h. elim (less.kept s h) [
          | inl a ↦ inl a
          | inr b ↦ inr (gone_as (e ∷ []) x.number s.number x.name s.name (sym b.0) (sym b.1) (inl refl))
        ];
        judged = λ number name held verdict cause h. absurd (none number name held verdict cause h);
        ended = λ s name h a. elim a [ inl is ↦ less.apart s h (let same : s.number ≡ x.number = cc in same) | inr n ↦ n ];
        done = keep_marks u.standings rs (e ∷ []) stand.distinct less.marks (λ number name what once h. elim h [ inl is ↦ let none : ⊥ = cc in none | inr n ↦ n ]);
      };
      gone = (λ n. n, tt);
      once = λ i a b p q. absurd (none a p.name p.held p.verdict p.cause p.has);
      unjudged = λ i a h p. none a p.name p.held p.verdict p.cause p.has;
    } in
    record { step = record { stood = stand; fair = fair }; none = none }

pub then_went : {J : Type 0} {answer : Answers J} {later : Laters J} {terms : Terms} {tried : Tries} {k m : Kernel} {w u : State J} (x : Standing) (rs : List Standing) → Has u.standings x → Less x u.standings rs → IsGoneAt x.held.0 m → FairFrom answer later terms tried k w m u → FairFrom answer later terms tried k w m (record u { standings = rs; entries = u.entries ++ Entry.Gone x.number x.name ∷ [] })
then_went {J} {answer} {later} {terms} {tried} {k} {m} {w} {u} x rs has less gone h = fair_trans h (went_fair answer later terms tried m u x rs h.fair.sound h.fair.stand has less gone)

-- what becomes of the standings as one of them is settled
abbrev pub After : Standing → List Standing → Settled → List Standing → Type 0
After x ss Settled.Nobody rs = Less x ss rs
After x ss Settled.Stands rs = Same ss rs × Marks Remove (is_reject x.verdict ≡ true) x ss rs
After x ss how rs = Same ss rs × KeepMarks ss rs

marked_one : (ss : List Standing) (name : List ℕ) (mark : Bool) (s : Standing) → Has (map (marked name mark) ss) s → IsOne ss s
marked_one ss name mark s a = let m = map_has (marked name mark) ss s a in (m.0, m.1, ap (λ (v : Standing). v.number) (sym m.2), ap (λ (v : Standing). v.name) (sym m.2), ap (λ (v : Standing). v.held) (sym m.2), ap (λ (v : Standing). v.judged) (sym m.2), ap (λ (v : Standing). v.verdict) (sym m.2), ap (λ (v : Standing). v.cause) (sym m.2), ap (λ (v : Standing). v.hash) (sym m.2))

pub tried_one : (ss : List Standing) (name : List ℕ) (how : Settled) (s : Standing) → Has (tried_standings ss name how) s → IsOne ss s
tried_one ss name Settled.Nobody s a = one_itself ss s (filter_has (λ (v : Standing). not (same_name v.name name)) ss s a).0
tried_one ss name Settled.Stands s a = marked_one ss name true s a
tried_one ss name how s a = marked_one ss name false s a

marked_same : (ss : List Standing) (name : List ℕ) (mark : Bool) → Same ss (map (marked name mark) ss)
marked_same ss name mark = record {
  there = marked_one ss name mark;
  kept = λ s a. (marked name mark s, has_map (marked name mark) ss s a, refl, refl, refl, refl, refl, refl, refl);
  order = keeps_marked name mark ss;
}

-- marked as unsettled
unsettled_marks : (ss : List Standing) (name : List ℕ) → KeepMarks ss (map (marked name false) ss)
unsettled_marks ss name s a control =
    let m = map_has (marked name false) ss s a in
    (m.0, m.1, ap (λ (v : Standing). v.number) m.2, ap (λ (v : Standing). v.held) m.2, sym (still_done control name m.0) ∙ ap (is_done control) m.2)

-- marked as one whose default was written

did_one : (ss : List Standing) (name : List ℕ) (s : Standing) → Has (map (with_default name) ss) s → IsOne ss s
did_one ss name s a = let m = map_has (with_default name) ss s a in (m.0, m.1, ap (λ (v : Standing). v.number) (sym m.2), ap (λ (v : Standing). v.name) (sym m.2), ap (λ (v : Standing). v.held) (sym m.2), ap (λ (v : Standing). v.judged) (sym m.2), ap (λ (v : Standing). v.verdict) (sym m.2), ap (λ (v : Standing). v.cause) (sym m.2), ap (λ (v : Standing). v.hash) (sym m.2))

pub did_same : (ss : List Standing) (name : List ℕ) → Same ss (map (with_default name) ss)
did_same ss name = record {
  there = did_one ss name;
  kept = λ s a. (with_default name s, has_map (with_default name) ss s a, refl, refl, refl, refl, refl, refl, refl);
  order = keeps_map (with_default name) ss (λ s. refl) (λ s. refl);
}

pub default_marks : (k : Kernel) (ss : List Standing) (next : ℕ) (name : List ℕ) (x : Standing) → Has ss x → x.name ≡ name → Stand k ss next → Marks Default (Unit {0}) x ss (map (with_default name) ss)
default_marks k ss next name x has named stand = record { each = each; own = own }
  where
    by_name : (b : Standing) → Has ss b → b.name ≡ name → b ≡ x
    by_name b a e = distinct_one (λ (v : Standing). v.name) ss b x stand.names a has (e ∙ sym named)

    flag : (b : Standing) → b.name ≡ name → is_done Default (with_default name b) ≡ true
    flag b e = ap (λ (t : Bool). t || b.defaulted) (is_same b.name name e)

    each : (s : Standing) → Has (map (with_default name) ss) s → (control : Control) → KeepsFor control ss s ⊎ ((control ≡ Default) × (s.number ≡ x.number) × (s.held ≡ x.held) × (is_done Default s ≡ true) × Unit {0})
    each s a Authorized = let m = map_has (with_default name) ss s a in inl (m.0, m.1, ap (λ (v : Standing). v.number) m.2, ap (λ (v : Standing). v.held) m.2, refl)
    each s a Remove = let m = map_has (with_default name) ss s a in inl (m.0, m.1, ap (λ (v : Standing). v.number) m.2, ap (λ (v : Standing). v.held) m.2, ap (λ (v : Standing). v.removed) m.2)
    each s a Default =
        let m = map_has (with_default name) ss s a in
        elim (cases_Bool (same_name m.0.name name)) [
          | inl e ↦
              let is = by_name m.0 m.1 (same_is m.0.name name e) in
              inr (refl, sym (ap (λ (v : Standing). v.number) m.2) ∙ ap (λ (v : Standing). v.number) is, sym (ap (λ (v : Standing). v.held) m.2) ∙ ap (λ (v : Standing). v.held) is, sym (ap (is_done Default) m.2) ∙ flag m.0 (same_is m.0.name name e), tt)
          | inr e ↦ inl (m.0, m.1, ap (λ (v : Standing). v.number) m.2, ap (λ (v : Standing). v.held) m.2, sym (ap (λ (t : Bool). t || m.0.defaulted) e) ∙ ap (is_done Default) m.2)
        ]

    own : (s : Standing) → Has (map (with_default name) ss) s → s.number ≡ x.number → Unit {0} → is_done Default s ≡ true
    own s a e p =
        let m = map_has (with_default name) ss s a in
        let is : m.0 ≡ x = distinct_one (λ (v : Standing). v.number) ss m.0 x stand.distinct m.1 has (ap (λ (v : Standing). v.number) m.2 ∙ e) in
        sym (ap (is_done Default) m.2) ∙ flag m.0 (ap (λ (v : Standing). v.name) is ∙ named)

-- marked as settled
settled_marks : (k : Kernel) (ss : List Standing) (next : ℕ) (name : List ℕ) (x : Standing) → Has ss x → x.name ≡ name → Stand k ss next → Marks Remove (is_reject x.verdict ≡ true) x ss (map (marked name true) ss)
settled_marks k ss next name x has named stand = record {
  each = λ s a control.
      let m = map_has (marked name true) ss s a in
      let number : m.0.number ≡ s.number = ap (λ (v : Standing). v.number) m.2 in
      let held : m.0.held ≡ s.held = ap (λ (v : Standing). v.held) m.2 in
      let is : m.0.name ≡ name → m.0 ≡ x = λ e. distinct_one (λ (v : Standing). v.name) ss m.0 x stand.names m.1 has (e ∙ sym named) in
      elim (settled_done control name m.0) [
        | inl e ↦ inl (m.0, m.1, number, held, sym e ∙ ap (is_done control) m.2)
        | inr e ↦ inr (e.0, sym number ∙ ap (λ (v : Standing). v.number) (is e.1), sym held ∙ ap (λ (v : Standing). v.held) (is e.1), sym (ap (is_done Remove) m.2) ∙ e.2, subst (λ (v : Standing). is_reject v.verdict ≡ true) (is e.1) e.3)
      ];
  own = λ s a e r.
      let m = map_has (marked name true) ss s a in
      let same : m.0 ≡ x = distinct_one (λ (v : Standing). v.number) ss m.0 x stand.distinct m.1 has (ap (λ (v : Standing). v.number) m.2 ∙ e) in
      let flag : removed_of name true m.0 ≡ s.removed = ap (λ (v : Standing). v.removed) m.2 in
      sym flag ∙ reject_removed name m.0 (is_same m.0.name name (ap (λ (v : Standing). v.name) same ∙ named)) (subst (λ (v : Standing). is_reject v.verdict ≡ true) (sym same) r);
}

pub without_less : (k : Kernel) (ss : List Standing) (next : ℕ) (name : List ℕ) (x : Standing) → Has ss x → x.name ≡ name → Stand k ss next → Less x ss (without name ss)
without_less k ss next name x has named stand = record {
  there = λ s a. one_itself ss s (filter_has (λ (v : Standing). not (same_name v.name name)) ss s a).0;
  marks = λ s a. keeps_itself ss s (filter_has (λ (v : Standing). not (same_name v.name name)) ss s a).0;
  kept = λ s a. elim (cases_Bool (same_name s.name name)) [
    | inr e ↦ inl (one_itself (without name ss) s (has_filter (λ (v : Standing). not (same_name v.name name)) ss s a (ap not e)))
    | inl e ↦ let same : s ≡ x = distinct_one (λ (v : Standing). v.name) ss s x stand.names a has (same_is s.name name e ∙ sym named) in inr (ap (λ (v : Standing). v.number) same, ap (λ (v : Standing). v.name) same)
  ];
  apart = λ s a e. let same : s ≡ x = distinct_one (λ (v : Standing). v.number) ss s x stand.distinct (filter_has (λ (v : Standing). not (same_name v.name name)) ss s a).0 has e in missing_without name ss (subst (λ (v : List ℕ). Has (names_of (without name ss)) v) (ap (λ (v : Standing). v.name) same ∙ named) (has_map (λ (v : Standing). v.name) (without name ss) s a));
  order = keeps_filter (λ (v : Standing). not (same_name v.name name)) ss;
}

pub tried_after : (k : Kernel) (ss : List Standing) (next : ℕ) (name : List ℕ) (x : Standing) (how : Settled) → Has ss x → x.name ≡ name → Stand k ss next → After x ss how (tried_standings ss name how)
tried_after k ss next name x Settled.Nobody has named stand = without_less k ss next name x has named stand
tried_after k ss next name x Settled.Stands has named stand = (marked_same ss name true, settled_marks k ss next name x has named stand)
tried_after k ss next name x how has named stand = (marked_same ss name false, unsettled_marks ss name)
