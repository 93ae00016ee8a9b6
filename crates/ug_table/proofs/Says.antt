-- What an account says of the numbers that it tells.
use Rattle.std.proofs.Common.{◌≡◌, ℕ, ◌+◌, ◌<◌, ◌≤◌, Bool, ◌⊎◌, List, [], ◌∷◌, ◌++◌, inl, inr, refl, sym, ◌∙◌, ap, subst, arith}
use Rattle.ug_table.proofs.Common.{Terms, Has, AllDistinct, Judged, Held, Target, Cause, Write, Wrote, Kernel, Entry, IsNamed, Tries, IsDevice, IsGone, IsProbed, TellsNeither, HasVerdict, wrote_entries, Account, Start, Note, Judge, Had, Had_not, Went, numbers_of, gone_of, Standing, Answers, Laters, has_left, only_left, last_is, distinct_one, has_cases}
use Rattle.ug_kernel.specs.declared.device.Effect.{Effect}

-- each entry is so
abbrev pub Each : (Entry → Type 0) → List Entry → Type 0
Each p [] = Unit {0}
Each p (e ∷ es) = p e × Each p es

pub each_has : (p : Entry → Type 0) (es : List Entry) (e : Entry) → Each p es → Has es e → p e
each_has p [] e h a = absurd a
each_has p (x ∷ es) e h (inl is) = subst (λ (v : Entry). p v) is h.0
each_has p (x ∷ es) e h (inr a) = each_has p es e h.1 a

pub each_append : (p : Entry → Type 0) (es fs : List Entry) → Each p es → Each p fs → Each p (es ++ fs)
each_append p [] fs h k = k
each_append p (e ∷ es) fs h k = (h.0, each_append p es fs h.1 k)

pub each_map : (p q : Entry → Type 0) (es : List Entry) → ((e : Entry) → p e → q e) → Each p es → Each q es
each_map p q [] f h = tt
each_map p q (e ∷ es) f h = (f e h.0, each_map p q es f h.1)

-- an entry that tells no verdict and no end of a standing
abbrev pub IsPlain : Entry → Type 0
IsPlain (Entry.Judged number name held verdict cause) = ⊥
IsPlain (Entry.Gone number name) = ⊥
IsPlain e = Unit {0}

abbrev pub Plain : List Entry → Type 0
Plain es = Each IsPlain es

-- no verdict is told
abbrev pub NoJudged : List Entry → Type 0
NoJudged es = (number : ℕ) (name : List ℕ) (held : Held) (verdict : Target) (cause : Cause) → Has es (Entry.Judged number name held verdict cause) → ⊥

pub plain_unjudged : (es : List Entry) → Plain es → NoJudged es
plain_unjudged es p number name held verdict cause a = each_has IsPlain es (Entry.Judged number name held verdict cause) p a

pub gone_unjudged : (n : ℕ) (m : List ℕ) → NoJudged (Entry.Gone n m ∷ [])
gone_unjudged n m number name held verdict cause (inl e) = let none : ⊥ = cc in none
gone_unjudged n m number name held verdict cause (inr none) = none

-- a number that is told gone has an entry
pub gone_has : (es : List Entry) (number : ℕ) → Has (gone_of es) number → (name : List ℕ) × Has es (Entry.Gone number name)
gone_has [] number a = absurd a
gone_has (Entry.Gone n name ∷ es) number (inl e) = (name, inl (ap (λ (v : ℕ). Entry.Gone v name) e))
gone_has (Entry.Gone n name ∷ es) number (inr a) = let h = gone_has es number a in (h.0, inr h.1)
gone_has (e ∷ es) number a = let h = gone_has es number a in (h.0, inr h.1)

pub gone_append : (es fs : List Entry) → gone_of (es ++ fs) ≡ gone_of es ++ gone_of fs
gone_append [] fs = refl
gone_append (Entry.Gone n name ∷ es) fs = ap (λ (v : List ℕ). n ∷ v) (gone_append es fs)
gone_append (e ∷ es) fs = gone_append es fs

-- plain entries tell none gone
pub plain_distinct : (es : List Entry) → Plain es → AllDistinct (gone_of es)
plain_distinct [] p = tt
plain_distinct (Entry.Gone number name ∷ es) p = absurd p.0
plain_distinct (e ∷ es) p = plain_distinct es p.1

pub one_neither : (e x : Entry) → TellsNeither e → Has (e ∷ []) x → TellsNeither x
one_neither e x t (inl is) = subst (λ (v : Entry). TellsNeither v) is t
one_neither e x t (inr none) = absurd none

pub plain_note : (e : Entry) → TellsNeither e → IsPlain e
plain_note (Entry.Judged number name held verdict cause) t = t
plain_note (Entry.Gone number name) t = t
plain_note e t = tt

-- a device was judged under a number that was new
pub record WasJudged (start k : Kernel) (next0 next number : ℕ) (name : List ℕ) (held : Held) : Type 0 where
  pub after : next0 ≤ number
  pub below : number < next
  pub i : ℕ
  pub judged : Judged
  pub on : Bool
  pub device : IsDevice k i name held judged
  pub probed : IsProbed start k name held.0 i on

-- a number's device is gone
pub record WentAway (k : Kernel) (before : List Standing) (es : List Entry) (next number : ℕ) (name : List ℕ) : Type 0 where
  pub below : number < next
  pub i : ℕ
  pub held : Held
  pub judged : Judged
  pub verdict : Target
  pub device : IsDevice k i name held judged
  pub gone : IsGone k i
  pub had : HasVerdict before es number name held verdict

pub record Says (start k : Kernel) (before : List Standing) (next0 : ℕ) (es : List Entry) (next : ℕ) : Type 0 where
  pub rises : next0 ≤ next
  pub judged : (number : ℕ) (name : List ℕ) (held : Held) (verdict : Target) (cause : Cause) → Has es (Entry.Judged number name held verdict cause) → WasJudged start k next0 next number name held
  pub gone : (number : ℕ) (name : List ℕ) → Has es (Entry.Gone number name) → WentAway k before es next number name
  pub one : (number : ℕ) (n m : List ℕ) (h g : Held) (v u : Target) (c d : Cause) → Has es (Entry.Judged number n h v c) → Has es (Entry.Judged number m g u d) → h ≡ g
  pub wrote : (number : ℕ) (name : List ℕ) (what : Write) (outcome : Wrote) → Has es (Entry.Wrote number name what outcome) → number < next

-- each number has one held file
abbrev OneHeld : List Entry → Type 0
OneHeld es = (number : ℕ) (n m : List ℕ) (h g : Held) (v u : Target) (c d : Cause) → Has es (Entry.Judged number n h v c) → Has es (Entry.Judged number m g u d) → h ≡ g

verdict_more : (before : List Standing) (es fs : List Entry) (number : ℕ) (name : List ℕ) (held : Held) (verdict : Target) → HasVerdict before es number name held verdict → HasVerdict before (es ++ fs) number name held verdict
verdict_more before es fs number name held verdict (inl h) = inl h
verdict_more before es fs number name held verdict (inr h) = inr (h.0, has_left es fs (Entry.Judged number name held verdict h.0) h.1)

module _ (start k : Kernel) (before : List Standing) (next0 : ℕ) where
  -- what is said of an entry
  abbrev SaysOf : List Entry → ℕ → Entry → Type 0
  SaysOf es next (Entry.Judged number name held verdict cause) = WasJudged start k next0 next number name held
  SaysOf es next (Entry.Gone number name) = WentAway k before es next number name
  SaysOf es next (Entry.Wrote number name what outcome) = number < next
  SaysOf es next e = Unit {0}

  said : (es : List Entry) (next : ℕ) (e : Entry) → Says start k before next0 es next → Has es e → SaysOf es next e
  said es next (Entry.Judged number name held verdict cause) h a = h.judged number name held verdict cause a
  said es next (Entry.Gone number name) h a = h.gone number name a
  said es next (Entry.Wrote number name what outcome) h a = h.wrote number name what outcome a
  said es next e h a = tt

  said_neither : (es : List Entry) (next : ℕ) (e : Entry) → TellsNeither e → SaysOf es next e
  said_neither es next (Entry.Judged number name held verdict cause) t = absurd t
  said_neither es next (Entry.Gone number name) t = absurd t
  said_neither es next (Entry.Wrote number name what outcome) t = absurd t
  said_neither es next e t = tt

  said_later : (es fs : List Entry) (next later : ℕ) (e : Entry) → next ≤ later → SaysOf es next e → SaysOf (es ++ fs) later e
  said_later es fs next later (Entry.Judged number name held verdict cause) le h = record { after = h.after; below = omega (arith, h.below, le); i = h.i; judged = h.judged; on = h.on; device = h.device; probed = h.probed }
  said_later es fs next later (Entry.Gone number name) le h = record {
    below = omega (arith, h.below, le);
    i = h.i;
    held = h.held;
    judged = h.judged;
    verdict = h.verdict;
    device = h.device;
    gone = h.gone;
    had = verdict_more before es fs number name h.held h.verdict h.had;
  }
  said_later es fs next later (Entry.Wrote number name what outcome) le h = omega (arith, h, le)
  said_later es fs next later e le h = tt

  says_more : (es fs : List Entry) (next later : ℕ) → next ≤ later → Each (SaysOf (es ++ fs) later) fs → OneHeld (es ++ fs) → Says start k before next0 es next → Says start k before next0 (es ++ fs) later
  says_more es fs next later le new one h =
      let each : (e : Entry) → Has (es ++ fs) e → SaysOf (es ++ fs) later e = λ e a. elim (has_cases es fs e a) [ inl x ↦ said_later es fs next later e le (said es next e h x) | inr x ↦ each_has (SaysOf (es ++ fs) later) fs e new x ] in
      record {
        rises = omega (arith, h.rises, le);
        judged = λ number name held verdict cause. each (Entry.Judged number name held verdict cause);
        gone = λ number name. each (Entry.Gone number name);
        one = one;
        wrote = λ number name what outcome. each (Entry.Wrote number name what outcome);
      }

  -- entries that tell no verdict
  says_rest : (es fs : List Entry) (next : ℕ) → NoJudged fs → Each (SaysOf (es ++ fs) next) fs → Says start k before next0 es next → Says start k before next0 (es ++ fs) next
  says_rest es fs next none new h =
      let left : (number : ℕ) (name : List ℕ) (held : Held) (verdict : Target) (cause : Cause) → Has (es ++ fs) (Entry.Judged number name held verdict cause) → Has es (Entry.Judged number name held verdict cause) = λ number name held verdict cause a. only_left es fs (Entry.Judged number name held verdict cause) (none number name held verdict cause) a in
      says_more es fs next next (omega arith) new (λ number n m x y v u c d a b. h.one number n m x y v u c d (left number n x v c a) (left number m y u d b)) h

  -- one that tells a verdict under the next number
  says_judged : (es : List Entry) (next : ℕ) (name : List ℕ) (held : Held) (verdict : Target) (cause : Cause) → WasJudged start k next0 (next + 1) next name held → Says start k before next0 es next → Says start k before next0 (es ++ Entry.Judged next name held verdict cause ∷ []) (next + 1)
  says_judged es next name held verdict cause new h =
      let e = Entry.Judged next name held verdict cause in
      says_more es (e ∷ []) next (next + 1) (omega arith) (new, tt) (λ number n m x y v u c d a b. one number n m x y v u c d (last_is es e (Entry.Judged number n x v c) a) (last_is es e (Entry.Judged number m y u d) b)) h
    where
      one : (number : ℕ) (n m : List ℕ) (x y : Held) (v u : Target) (c d : Cause) → Has es (Entry.Judged number n x v c) ⊎ (Entry.Judged next name held verdict cause ≡ Entry.Judged number n x v c) → Has es (Entry.Judged number m y u d) ⊎ (Entry.Judged next name held verdict cause ≡ Entry.Judged number m y u d) → x ≡ y
      one number n m x y v u c d (inl a) (inl b) = h.one number n m x y v u c d a b
      one number n m x y v u c d (inl a) (inr b) = let same : next ≡ number = cc in absurd (omega (arith, (h.judged number n x v c a).below, same))
      one number n m x y v u c d (inr a) (inl b) = let same : next ≡ number = cc in absurd (omega (arith, (h.judged number m y u d b).below, same))
      one number n m x y v u c d (inr a) (inr b) = cc

-- numbers from before are below the next
abbrev pub AreLow : List Standing → ℕ → Type 0
AreLow before next = (s : Standing) → Has before s → s.number < next

verdict_low : (start k : Kernel) (before : List Standing) (next0 : ℕ) (es : List Entry) (next number : ℕ) (name : List ℕ) (held : Held) (verdict : Target) → AreLow before next0 → Says start k before next0 es next → HasVerdict before es number name held verdict → number < next
verdict_low start k before next0 es next number name held verdict low h (inl a) =
    omega (arith, h.rises, low a.0 a.1, a.2)
verdict_low start k before next0 es next number name held verdict low h (inr a) = (h.judged number name held verdict a.0 a.1).below

pub account_says : {J : Type 0} (answer : Answers J) (later : Laters J) (terms : Terms) (tried : Tries) (start k : Kernel) (before : List Standing) (log0 : List Effect) (judge0 : J) (next0 : ℕ) (es : List Entry) (log : List Effect) (judge : J) (next : ℕ) → AreLow before next0 → Account answer later terms tried start k before log0 judge0 next0 es log judge next → Says start k before next0 es next
account_says answer later terms tried start k before log0 judge0 next0 es log judge next low Start = record {
  rises = omega arith;
  judged = λ number name held verdict cause a. absurd a;
  gone = λ number name a. absurd a;
  one = λ number n m x y v u c d a b. absurd a;
  wrote = λ number name what outcome a. absurd a;
}
account_says answer later terms tried start k before log0 judge0 next0 es log judge next low (Note fs m j n e t h) = says_rest start k before next0 fs (e ∷ []) n (plain_unjudged (e ∷ []) (plain_note e t, tt)) (said_neither start k before next0 (fs ++ e ∷ []) n e t, tt) (account_says answer later terms tried start k before log0 judge0 next0 fs m j n low h)
account_says answer later terms tried start k before log0 judge0 next0 es log judge next low (Judge fs m j n i name held judged on ss d b stands left so h) =
    let says = account_says answer later terms tried start k before log0 judge0 next0 fs m j n low h in
    says_judged start k before next0 fs n name held _ _ (record { after = says.rises; below = omega arith; i = i; judged = judged; on = on; device = d; probed = b }) says
account_says answer later terms tried start k before log0 judge0 next0 es log judge next low (Had fs m j n i number name held judged verdict what outcome d v due first may h) =
    let says = account_says answer later terms tried start k before log0 judge0 next0 fs m j n low h in
    let es = wrote_entries number name what outcome in
    says_rest start k before next0 fs es n (plain_unjudged es (tt, (tt, tt))) (tt, (verdict_low start k before next0 fs n number name held verdict low says v, tt)) says
account_says answer later terms tried start k before log0 judge0 next0 es log judge next low (Had_not fs m j n i number name held judged verdict what outcome d v due first may h) =
    let says = account_says answer later terms tried start k before log0 judge0 next0 fs m j n low h in
    let es = wrote_entries number name what outcome in
    says_rest start k before next0 fs es n (plain_unjudged es (tt, (tt, tt))) (tt, (verdict_low start k before next0 fs n number name held verdict low says v, tt)) says
account_says answer later terms tried start k before log0 judge0 next0 es log judge next low (Went fs m j n i number name held judged verdict d o v h) =
    let says = account_says answer later terms tried start k before log0 judge0 next0 fs m j n low h in
    let es = Entry.Gone number name ∷ [] in
    says_rest start k before next0 fs es n (gone_unjudged number name) (record { below = verdict_low start k before next0 fs n number name held verdict low says v; i = i; held = held; judged = judged; verdict = verdict; device = d; gone = o; had = verdict_more before fs es number name held verdict v }, tt) says

-- a number has one held file
pub one_held : (start k : Kernel) (before : List Standing) (next0 : ℕ) (es : List Entry) (next number : ℕ) (n m : List ℕ) (x y : Held) (v u : Target) → AreLow before next0 → AllDistinct (numbers_of before) → Says start k before next0 es next → HasVerdict before es number n x v → HasVerdict before es number m y u → x ≡ y
one_held start k before next0 es next number n m x y v u low distinct h (inl a) (inl b) =
    let same : a.0 ≡ b.0 = distinct_one (λ (s : Standing). s.number) before a.0 b.0 distinct a.1 b.1 (a.2 ∙ sym b.2) in
    sym a.4 ∙ subst (λ (s : Standing). a.0.held ≡ s.held) same refl ∙ b.4
one_held start k before next0 es next number n m x y v u low distinct h (inl a) (inr b) =
    absurd (omega (arith, low a.0 a.1, a.2, (h.judged number m y u b.0 b.1).after))
one_held start k before next0 es next number n m x y v u low distinct h (inr a) (inl b) =
    absurd (omega (arith, low b.0 b.1, b.2, (h.judged number n x v a.0 a.1).after))
one_held start k before next0 es next number n m x y v u low distinct h (inr a) (inr b) = h.one number n m x y v u a.0 b.0 a.1 b.1

-- it names none but this one as unsettled, and no listing
abbrev pub NamesOnly : List ℕ → Entry → Type 0
NamesOnly name (Entry.Unsettled n why) = n ≡ name
NamesOnly name (Entry.UnsettledAll why) = ⊥
NamesOnly name e = Unit {0}

-- it names none, and is no reply
abbrev pub NamesNone : Entry → Type 0
NamesNone (Entry.Unsettled n why) = ⊥
NamesNone (Entry.UnsettledAll why) = ⊥
NamesNone (Entry.Reply answered) = ⊥
NamesNone e = Unit {0}

pub none_named : (es : List Entry) (name : List ℕ) → Each NamesNone es → IsNamed es name → ⊥
none_named es name h a = each_has NamesNone es (Entry.Unsettled name a.0) h a.1
