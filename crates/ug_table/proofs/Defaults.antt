-- Defaults that were written stand, as long as one and the same is written.
use Rattle.std.proofs.Common.{◌≡◌, ℕ, List, [], ◌∷◌, ◌++◌, Option, Some, inl, inr, refl, sym, ◌∙◌, ap, subst, append_assoc, append-nil}
use Rattle.std.proofs.lemmas.Bool.{both_ways}
use Rattle.std.proofs.lemmas.Option.{same_Some}
use Rattle.ug_kernel.specs.declared.device.Effect.{Effect}
use Rattle.ug_kernel.specs.Defaults.{default_at, default_by, Logs}
use Rattle.ug_kernel.proofs.Defaults.{AreMeant, default_stays, default_set}
use Rattle.ug_table.specs.Laws.{AreDefaulted}
use Rattle.ug_table.proofs.Common.{Has, AllDistinct, Terms, Write, Wrote, Default, Held, Target, Judged, Entry, Kernel, Tries, Answers, Laters, State, Standing, Account, Start, Note, Judge, Had, Had_not, Went, HasVerdict, IsDevice, IsFair, AreLeft, Stand, numbers_of, wrote_entries, TellsNeither, MayHaveNot, CallsFor, default_write, control_of, has_left, has_right, has_cases, last_is, distinct_one, cancel}
use Rattle.ug_table.proofs.Shapes.{default_file}
use Rattle.ug_table.proofs.Standings.{IsFileOf, file_same, file_later}

called_default : (hub : Option Write) (name : List ℕ) (verdict : Target) (what : Write) → CallsFor hub name verdict what → control_of what ≡ Default → default_write hub ≡ Some what
called_default hub name verdict Write.DefaultOff c e = c.1
called_default hub name verdict Write.DefaultOn c e = c.1
called_default hub name verdict x c e = let none : ⊥ = cc in absurd none

-- a write that was done and is told: its device, and its entry in the log
record IsLogged (k : Kernel) (before : List Standing) (es : List Entry) (more : List Effect) (number : ℕ) (name : List ℕ) (what : Write) : Type 0 where
  i : ℕ
  held : Held
  judged : Judged
  verdict : Target
  device : IsDevice k i name held judged
  had : HasVerdict before es number name held verdict
  logged : Has more (record { device = i; write = what })

-- what an account adds to the log
record Adds (hub : Option Write) (k : Kernel) (before : List Standing) (log0 : List Effect) (es : List Entry) (log : List Effect) : Type 0 where
  more : List Effect
  is : log ≡ log0 ++ more
  meant : (e : Effect) → Has more e → control_of e.write ≡ Default → default_write hub ≡ Some e.write
  done : (number : ℕ) (name : List ℕ) (what : Write) → Has es (Entry.Wrote number name what Wrote.Done) → IsLogged k before es more number name what

verdict_more : (before : List Standing) (es fs : List Entry) (number : ℕ) (name : List ℕ) (held : Held) (verdict : Target) → HasVerdict before es number name held verdict → HasVerdict before (es ++ fs) number name held verdict
verdict_more before es fs number name held verdict (inl h) = inl h
verdict_more before es fs number name held verdict (inr h) = inr (h.0, has_left es fs (Entry.Judged number name held verdict h.0) h.1)

logged_more : (k : Kernel) (before : List Standing) (es fs : List Entry) (more new : List Effect) (number : ℕ) (name : List ℕ) (what : Write) → IsLogged k before es more number name what → IsLogged k before (es ++ fs) (more ++ new) number name what
logged_more k before es fs more new number name what h = record { i = h.i; held = h.held; judged = h.judged; verdict = h.verdict; device = h.device; had = verdict_more before es fs number name h.held h.verdict h.had; logged = has_left more new (record { device = h.i; write = what }) h.logged }

-- entries that tell of no write that was done add nothing
adds_same : (hub : Option Write) (k : Kernel) (before : List Standing) (log0 : List Effect) (es fs : List Entry) (log : List Effect) → ((number : ℕ) (name : List ℕ) (what : Write) → Has fs (Entry.Wrote number name what Wrote.Done) → ⊥) → Adds hub k before log0 es log → Adds hub k before log0 (es ++ fs) log
adds_same hub k before log0 es fs log none a = record {
  more = a.more;
  is = a.is;
  meant = a.meant;
  done = λ number name what h. elim (has_cases es fs (Entry.Wrote number name what Wrote.Done) h) [
    | inl b ↦ subst (λ (v : List Effect). IsLogged k before (es ++ fs) v number name what) (append-nil a.more) (logged_more k before es fs a.more [] number name what (a.done number name what b))
    | inr b ↦ absurd (none number name what b)
  ];
}

neither_done : (e : Entry) → TellsNeither e → (number : ℕ) (name : List ℕ) (what : Write) → Has (e ∷ []) (Entry.Wrote number name what Wrote.Done) → ⊥
neither_done e t number name what (inl is) = subst TellsNeither is t
neither_done e t number name what (inr none) = none

-- the entries of one write
told_one : (number n : ℕ) (name m : List ℕ) (what w : Write) (outcome : Wrote) → Has (wrote_entries number name what outcome) (Entry.Wrote n m w Wrote.Done) → (number ≡ n) × (name ≡ m) × (what ≡ w) × (outcome ≡ Wrote.Done)
told_one number n name m what w outcome (inl e) = let none : ⊥ = cc in absurd none
told_one number n name m what w outcome (inr (inl e)) = ((cc), (cc), (cc), (cc))
told_one number n name m what w outcome (inr (inr none)) = absurd none

account_adds : {J : Type 0} {answer : Answers J} {later : Laters J} {terms : Terms} {tried : Tries} {start k : Kernel} {before : List Standing} {log0 : List Effect} {judge0 : J} {next0 : ℕ} {es : List Entry} {log : List Effect} {judge : J} {next : ℕ} → Account answer later terms tried start k before log0 judge0 next0 es log judge next → Adds terms.hub k before log0 es log
account_adds {log0 = log0} Start = record { more = []; is = sym (append-nil log0); meant = λ e a. absurd a; done = λ number name what a. absurd a }
account_adds {terms = terms} {k = k} {before = before} {log0 = log0} (Note es log judge next e t h) = adds_same terms.hub k before log0 es (e ∷ []) log (neither_done e t) (account_adds h)
account_adds {terms = terms} {k = k} {before = before} {log0 = log0} (Judge es log judge next i name held judged on ss d q st left marks h) = adds_same terms.hub k before log0 es _ log (λ number name what a. elim a [ inl is ↦ let none : ⊥ = cc in none | inr none ↦ none ]) (account_adds h)
account_adds {terms = terms} {k = k} {before = before} {log0 = log0} (Had es log judge next i number name held judged verdict what outcome d had due first may h) =
    let a = account_adds h in
    let new : Effect = record { device = i; write = what } in
    let told = wrote_entries number name what outcome in
    record {
      more = a.more ++ new ∷ [];
      is = ap (λ (v : List Effect). v ++ new ∷ []) a.is ∙ append_assoc log0 a.more (new ∷ []);
      meant = λ e b c. elim (last_is a.more new e b) [
        | inl x ↦ a.meant e x c
        | inr is ↦ subst (λ (v : Effect). default_write terms.hub ≡ Some v.write) is (called_default terms.hub name verdict what due (ap (λ (v : Effect). control_of v.write) is ∙ c))
      ];
      done = λ n m w b. elim (has_cases es told (Entry.Wrote n m w Wrote.Done) b) [
        | inl x ↦ logged_more k before es told a.more (new ∷ []) n m w (a.done n m w x)
        | inr x ↦
            let t = told_one number n name m what w outcome x in
            let own : IsLogged k before (es ++ told) (a.more ++ new ∷ []) number name what = record { i = i; held = held; judged = judged; verdict = verdict; device = d; had = verdict_more before es told number name held verdict had; logged = has_right a.more (new ∷ []) new (inl refl) } in
            subst (λ (v : Write). IsLogged k before (es ++ told) (a.more ++ new ∷ []) n m v) t.2 (subst (λ (v : List ℕ). IsLogged k before (es ++ told) (a.more ++ new ∷ []) n v what) t.1 (subst (λ (v : ℕ). IsLogged k before (es ++ told) (a.more ++ new ∷ []) v name what) t.0 own))
      ];
    }
account_adds {terms = terms} {k = k} {before = before} {log0 = log0} (Had_not es log judge next i number name held judged verdict what outcome d had due first may h) = adds_same terms.hub k before log0 es (wrote_entries number name what outcome) log (λ n m w a. subst MayHaveNot (told_one number n name m what w outcome a).3 may) (account_adds h)
account_adds {terms = terms} {k = k} {before = before} {log0 = log0} (Went es log judge next i number name held judged verdict d gone had h) = adds_same terms.hub k before log0 es _ log (λ n m w a. elim a [ inl is ↦ let none : ⊥ = cc in none | inr none ↦ none ]) (account_adds h)

-- a standing that is left has the held file of its number's

was_held : (before : List Standing) (rest : List Entry) (ss : List Standing) (s b : Standing) → AreLeft before rest ss → AllDistinct (numbers_of ss) → Has ss s → Has before b → b.number ≡ s.number → b.held ≡ s.held
was_held before rest ss s b left distinct a has e = elim (left.kept b has) [
  | inl x ↦
      let is : x.0 ≡ s = distinct_one (λ (v : Standing). v.number) ss x.0 s distinct x.1 a (sym x.2 ∙ e) in
      x.4 ∙ ap (λ (v : Standing). v.held) is
  | inr g ↦ absurd (left.ended s b.name a (subst (λ (v : ℕ). Has rest (Entry.Gone v b.name)) e g))
]

told_held : (before : List Standing) (rest : List Entry) (ss : List Standing) (s : Standing) (name : List ℕ) (held : Held) (verdict : Target) → AreLeft before rest ss → AllDistinct (numbers_of ss) → Has ss s → HasVerdict before rest s.number name held verdict → held ≡ s.held
told_held before rest ss s name held verdict left distinct a (inl h) = sym h.4 ∙ was_held before rest ss s h.0 left distinct a h.1 h.2
told_held before rest ss s name held verdict left distinct a (inr h) = elim (left.judged s.number name held verdict h.0 h.1) [
  | inl x ↦
      let is : x.0 ≡ s = distinct_one (λ (v : Standing). v.number) ss x.0 s distinct x.1 a x.2 in
      sym x.4 ∙ ap (λ (v : Standing). v.held) is
  | inr g ↦ absurd (left.ended s name a g)
]

pub fair_defaults : {J : Type 0} {answer : Answers J} {later : Laters J} {terms : Terms} {tried : Tries} {k l : Kernel} {w v : State J} → IsFair answer later terms tried k w l v → Stand k w.standings w.next → Logs k l → AreDefaulted terms.hub k w.standings → AreDefaulted terms.hub l v.standings
fair_defaults {terms = terms} {k = k} {l = l} {w = w} {v = v} f stand logs was s a marked i file what hub =
    let added = account_adds f.account in
    let same : logs.more ≡ added.more = sym (cancel k.log added.more logs.more (sym added.is ∙ logs.log)) in
    let at : default_at i l ≡ default_by i added.more (default_at i k) = logs.default i ∙ ap (λ (m : List Effect). default_by i m (default_at i k)) same in
    let meant : AreMeant what added.more = λ e b c. same_Some e.write what (sym (added.meant e b c) ∙ hub) in
    elim (f.left.done Default tt s a) [
      | inl y ↦ elim y.1 [
        | inl b ↦
            let held = was_held w.standings f.rest v.standings s b.0 f.left f.stand.distinct a b.1 b.2 in
            let x = stand.devices b.0 b.1 in
            let later : IsFileOf l s.held.0 x.0 = subst (λ (h : Held). IsFileOf l h.0 x.0) held (file_later k l b.0.held.0 x.0 f.grows x.1.file) in
            let is : x.0 ≡ i = file_same l s.held.0 x.0 i later file in
            let own : IsFileOf k b.0.held.0 i = subst (λ (j : ℕ). IsFileOf k b.0.held.0 j) is x.1.file in
            at ∙ default_stays what i added.more (default_at i k) meant (was b.0 b.1 b.3 i own what hub)
        | inr t ↦
            let d = added.done s.number t.0 t.1 t.3 in
            let held = told_held w.standings f.rest v.standings s t.0 d.held d.verdict f.left f.stand.distinct a d.had in
            let own : IsFileOf l s.held.0 d.i = subst (λ (h : Held). IsFileOf l h.0 d.i) held d.device.file in
            let is : d.i ≡ i = file_same l s.held.0 d.i i own file in
            let that : t.1 ≡ what = same_Some t.1 what (sym (added.meant (record { device = d.i; write = t.1 }) d.logged t.2) ∙ hub) in
            let logged : Has added.more (record { device = i; write = what }) = subst (λ (w : Write). Has added.more (record { device = i; write = w })) that (subst (λ (j : ℕ). Has added.more (record { device = j; write = t.1 })) is d.logged) in
            at ∙ default_set what i added.more (default_at i k) (default_file terms.hub what hub) meant logged
      ]
      | inr y ↦ absurd (both_ways s.defaulted y.0 marked)
    ]
