-- Entries of one name: what they tell of its standings, its faults and its writes.
use Rattle.std.proofs.Common.{◌≡◌, ℕ, List, [], ◌∷◌, ◌++◌, Option, Some, None, ◌⊎◌, inl, inr, refl, sym, ◌∙◌, ap, subst, append_assoc, append-nil}
use Rattle.ug_table.proofs.Common.{Has, Authorized, IsOnce, Write, FailedCall, made_with, Entry, Fault, wrote_entries, OpenFile, open_file, PutMade, AtMostOneEach, failure_in, failures_told, write_in, writes_in, TellsWrites, EndsUnsettled, control_of, AllBear, AreOfNumber, numbers_given, Settled, why_in, whys}

-- entries

pub told_more : (es fs : List Entry) → failures_told (es ++ fs) ≡ failures_told es ++ failures_told fs
told_more [] fs = refl
told_more (e ∷ es) fs =
    ap (λ (v : List FailedCall). failure_in e ++ v) (told_more es fs)
    ∙ sym (append_assoc (failure_in e) (failures_told es) (failures_told fs))

writes_more : (es fs : List Entry) → writes_in (es ++ fs) ≡ writes_in es ++ writes_in fs
writes_more [] fs = refl
writes_more (e ∷ es) fs =
    ap (λ (v : List Entry). write_in e ++ v) (writes_more es fs)
    ∙ sym (append_assoc (write_in e) (writes_in es) (writes_in fs))

whys_more : (es fs : List Entry) → whys (es ++ fs) ≡ whys es ++ whys fs
whys_more [] fs = refl
whys_more (e ∷ es) fs =
    ap (λ (v : List Fault). why_in e ++ v) (whys_more es fs)
    ∙ sym (append_assoc (why_in e) (whys es) (whys fs))

-- Entries of the name: they begin and end with the numbers of its standings; the faults that they tell, the last of them; the writes;
-- and the numbers that they give out.
pub record EntriesOf (name : List ℕ) (from : Option ℕ) (es : List Entry) (to : Option ℕ)
    (faults : List Fault) (ps : List PutMade) (ns : List ℕ) : Type 0 where
  pub numbers : AreOfNumber from es to
  pub why : whys es ≡ faults
  pub writes : TellsWrites name ps (writes_in es)
  pub last : EndsUnsettled name es
  pub bears : AllBear name es
  pub given : numbers_given es ≡ ns

pub entries_are : {name : List ℕ} {from to : Option ℕ} {es : List Entry} {faults : List Fault}
    {ps : List PutMade} {ns : List ℕ} → AreOfNumber from es to → whys es ≡ faults
    → TellsWrites name ps (writes_in es) → EndsUnsettled name es → AllBear name es
    → numbers_given es ≡ ns → EntriesOf name from es to faults ps ns
entries_are n y w l b g = record
    { numbers = n; why = y; writes = w; last = l; bears = b; given = g }

numbers_more : (a b c : Option ℕ) (es fs : List Entry) → AreOfNumber a es b → AreOfNumber b fs c
    → AreOfNumber a (es ++ fs) c
numbers_more a b c [] fs h k = subst (λ (v : Option ℕ). AreOfNumber v fs c) h k
numbers_more a b c (Entry.Judged number n held verdict cause ∷ es) fs h k =
    (h.0, numbers_more (Some number) b c es fs h.1 k)
numbers_more a b c (Entry.Intent number n what ∷ es) fs h k = (h.0, numbers_more a b c es fs h.1 k)
numbers_more a b c (Entry.Wrote number n what outcome ∷ es) fs h k =
    (h.0, numbers_more a b c es fs h.1 k)
numbers_more a b c (Entry.Gone number n ∷ es) fs h k = (h.0, numbers_more None b c es fs h.1 k)
numbers_more a b c (e ∷ es) fs h k = numbers_more a b c es fs h k

bears_more : (name : List ℕ) (es fs : List Entry) → AllBear name es → AllBear name fs
    → AllBear name (es ++ fs)
bears_more name [] fs a b = b
bears_more name (e ∷ es) fs a b = (a.0, bears_more name es fs a.1 b)

last_more : (name : List ℕ) (es fs : List Entry) → whys es ≡ [] → EndsUnsettled name es
    → EndsUnsettled name fs → EndsUnsettled name (es ++ fs)
last_more name [] fs w a h = h
last_more name (Entry.Unsettled other why ∷ es) fs w a h = let none : ⊥ = cc in absurd none
last_more name (Entry.UnsettledAll why ∷ es) fs w a h = absurd a.0
last_more name (Entry.Reply made_with ∷ es) fs w a h = absurd a.0
last_more name (e ∷ es) fs w a h = (tt, last_more name es fs w a.1 h)

pub given_more : (es fs : List Entry)
    → numbers_given (es ++ fs) ≡ numbers_given es ++ numbers_given fs
given_more [] fs = refl
given_more (Entry.Judged number name held verdict cause ∷ es) fs =
    ap (λ (v : List ℕ). number ∷ v) (given_more es fs)
given_more (e ∷ es) fs = given_more es fs

writes_join : (name : List ℕ) (ps qs : List PutMade) (xs ys : List Entry) → TellsWrites name ps xs
    → TellsWrites name qs ys → TellsWrites name (ps ++ qs) (xs ++ ys)
writes_join name [] qs xs ys a b = subst (λ v. TellsWrites name qs (v ++ ys)) (sym a) b
writes_join name (p ∷ ps) qs xs ys a b = (
  a.0,
  a.1 ++ ys,
  ap (λ v. v ++ ys) a.2 ∙ append_assoc (wrote_entries a.0 name p.write p.outcome) a.1 ys,
  writes_join name ps qs a.1 ys a.3 b,
)

pub entries_more : {name : List ℕ} {from mid to : Option ℕ} {es fs : List Entry} {faults : List Fault}
    {ps qs : List PutMade} {ns os : List ℕ} → EntriesOf name from es mid [] ps ns
    → EntriesOf name mid fs to faults qs os
    → EntriesOf name from (es ++ fs) to faults (ps ++ qs) (ns ++ os)
entries_more {name} {from} {mid} {to} {es} {fs} {ps = ps} {qs = qs} {ns = ns} h k =
    let writes = writes_join name ps qs (writes_in es) (writes_in fs) h.writes k.writes in
    record {
      numbers = numbers_more from mid to es fs h.numbers k.numbers;
      why = whys_more es fs ∙ ap (λ v. v ++ whys fs) h.why ∙ k.why;
      writes = subst (λ v. TellsWrites name (ps ++ qs) v) (sym (writes_more es fs)) writes;
      last = last_more name es fs h.why h.last k.last;
      bears = bears_more name es fs h.bears k.bears;
      given = given_more es fs ∙ ap (λ v. v ++ numbers_given fs) h.given ∙ ap (λ v. ns ++ v)
          k.given;
    }

pub entries_to : {name : List ℕ} {from to other : Option ℕ} {es : List Entry} {faults : List Fault}
    {ps : List PutMade} {ns : List ℕ} → to ≡ other → EntriesOf name from es to faults ps ns
    → EntriesOf name from es other faults ps ns
entries_to {name} {from} {es = es} {faults = faults} {ps = ps} {ns = ns} e h =
    subst (λ v. EntriesOf name from es v faults ps ns) e h

-- a known device

-- the file and the number of a standing, which end where its device is gone

abbrev pub ended_files : Settled → ℕ → List OpenFile
ended_files Settled.Nobody held = []
ended_files how held = open_file held Authorized ∷ []

abbrev pub ended_number : Settled → ℕ → Option ℕ
ended_number Settled.Nobody number = None
ended_number how number = Some number

-- the value's writes: none, or one that isn't made once
abbrev pub AreValue : List PutMade → Type 0
AreValue ps = (ps ≡ []) ⊎ ((p : PutMade) × (ps ≡ p ∷ []) × (IsOnce (control_of p.write) → ⊥))

-- those of one that is: none, or that one
abbrev pub AreOnce : Write → List PutMade → Type 0
AreOnce what ps = (ps ≡ []) ⊎ ((p : PutMade) × (ps ≡ p ∷ []) × (p.write ≡ what))

pub single_value : (ps : List PutMade) → AreValue ps → AtMostOneEach ps
single_value ps (inl e) = subst (λ v. AtMostOneEach v) (sym e) tt
single_value ps (inr h) = subst (λ v. AtMostOneEach v) (sym h.1) (λ a. a, tt)

pub single_both : (what : Write) → IsOnce (control_of what) → (ps qs : List PutMade) → AreValue ps → AreOnce what qs → AtMostOneEach (ps ++ qs)
single_both what once ps qs h (inl e) =
    subst (λ v. AtMostOneEach (ps ++ v)) (sym e)
    (subst (λ v. AtMostOneEach v) (sym (append-nil ps)) (single_value ps h))
single_both what once ps qs (inl e) (inr k) =
    subst (λ v. AtMostOneEach (v ++ qs)) (sym e)
    (subst (λ v. AtMostOneEach v) (sym k.1) (λ a. a, tt))
single_both what once ps qs (inr h) (inr k) =
    let apart : Has (k.0.write ∷ []) h.0.write → ⊥ =
    λ a. elim a [ inl e ↦ h.2 (subst (λ (v : Write). IsOnce (control_of v)) (sym k.2 ∙ e) once) | inr n ↦ n ] in
    subst (λ v. AtMostOneEach (v ++ qs)) (sym h.1)
    (subst (λ v. AtMostOneEach (h.0 ∷ v)) (sym k.1) (apart, (λ a. a, tt)))
