-- Times, pasts and probabilities are read as their words are cut.
use Rattle.std.proofs.Common.{◌≡◌, ℕ, zero, suc, ◌+◌, ◌-◌, ◌*◌, ◌^◌, ◌<◌, ◌≤◌, inl, inr, Bool, true, false, ◌&&◌, ◌||◌, not, nat_eq, nat_le, nat_lt, List, [], ◌∷◌, ◌++◌, codes, length, map, take, drop, get_or, replicate, Option, Some, None, refl, sym, ap, subst, ◌∙◌, arith, if◌then◌else◌, length-append}
use Rattle.std.proofs.lemmas.List.{length-map, take-append-drop}
use Rattle.std.proofs.lemmas.List.Quantifiers.{position-Some}
use Rattle.std.proofs.Math.Seq.{drop-cons, drop-append-add, take-append_seam}
use Rattle.std.specs.Cmp.Lexicographic.{pointwise, same_text}
use Rattle.std.specs.List.{fold, AllByRecursion, position, position_or_len, starts_with}
use Rattle.std.proofs.lemmas.Bool.Decides.{nat_tests}
use Rattle.std.proofs.lemmas.List.Sums.{fold-append}
use Rattle.std.proofs.Math.Nat.{mul_assoc, pow-succ', one-le-pow, mul-le-mul_left, mul-le-mul_right}
use Rattle.std.proofs.lemmas.Nat.{pow-add}
use Rattle.ug_words.specs.declared.words.Clock.{Clock}
use Rattle.ug_words.specs.declared.words.Clock.TheVariants.{Minute, Second}
use Rattle.ug_words.specs.declared.words.DaySpan.{DaySpan}
use Rattle.ug_words.specs.WordGrammar.{IsDecimal, NoLeadingZero, IsPart, IsMinute, IsTime, span_with, IsSpan, One, Range, IsPast, Time, Seconds, IsChance, Never, Always, Fraction}
use Rattle.ug_words.specs.Words.{has_colon_at, with_decimal_digit, digits_of, decimal_of, number_up_to, part_of, minute_from, minute_of_hours, minute_of, time_at, second_from, second_of_minute, time_of, first_second, last_second, span_from, span_of_begin, span_at, span_by_dash, span_of, seconds_of_time, past_of, zero_point, billionths_of, chance_of}
use Rattle.ug_words.proofs.Tests.{by_test}
use Rattle.ug_words.proofs.Digits.{fold-none}
use Rattle.ug_words.proofs.WordCuts.{same_some, colon_cut}

-- ---- decimal numbers

abbrev onto : ℕ → ℕ → ℕ
onto m d = m * 10 + d

abbrev IsDigit : ℕ → Type 0
IsDigit d = d ≤ 9

record IsStep (m b k : ℕ) : Type 0 where
  digit : ℕ
  cut : b ≡ 48 + digit
  fits : digit ≤ 9
  is : k ≡ m * 10 + digit
  small : k ≤ 4294967295

step_cut : (m b k : ℕ) → with_decimal_digit (Some m) b ≡ Some k → IsStep m b k
step_cut m b k h = elim (by_test (nat_le 48 b && nat_le b 57 && nat_le (m * 10 + (b - 48)) 4294967295) (Some (m * 10 + (b - 48))) None (Some k) h) [
  | inl p ↦
      let e : m * 10 + (b - 48) ≡ k = same_some (m * 10 + (b - 48)) k p.1 in
      record { digit = b - 48; cut = grind (arith, nat_tests, p.0); fits = grind (arith, nat_tests, p.0); is = sym e; small = grind (arith, nat_tests, p.0, e) }
  | inr p ↦ let none : ⊥ = cc in absurd none
]

step_reads : (m d : ℕ) → d ≤ 9 → m * 10 + d ≤ 4294967295 → with_decimal_digit (Some m) (48 + d) ≡ Some (m * 10 + d)
step_reads m d h k =
    let same : 48 + d - 48 ≡ d = omega arith in
    let t : (nat_le 48 (48 + d) && nat_le (48 + d) 57 && nat_le (m * 10 + (48 + d - 48)) 4294967295) ≡ true = grind (arith, nat_tests) in
    ap (λ (b : Bool). if b then Some (m * 10 + (48 + d - 48)) else None) t ∙ ap (λ n. Some (m * 10 + n)) same

-- digits behind a number
record Behind (m n : ℕ) (text : List ℕ) : Type 0 where
  digits : List ℕ
  cut : text ≡ map (λ d. 48 + d) digits
  fit : AllByRecursion IsDigit digits
  is : n ≡ fold onto m digits

some_digit : (m k n b : ℕ) (text : List ℕ) → IsStep m b k → Behind k n text → Behind m n (b ∷ text)
some_digit m k n b text s r = record {
  digits = s.digit ∷ r.digits;
  cut = ap (λ l. b ∷ l) r.cut ∙ ap (λ d. d ∷ map (λ d. 48 + d) r.digits) s.cut;
  fit = (s.fits, r.fit);
  is = r.is ∙ ap (λ m. fold onto m r.digits) s.is;
}

no_digit : (m n b : ℕ) (text : List ℕ) → fold with_decimal_digit None text ≡ Some n → Behind m n (b ∷ text)
no_digit m n b text h =
    let s : None ≡ Some n = sym (fold-none text) ∙ h in
    let none : ⊥ = cc in
    absurd none

digits_behind : (m n : ℕ) (text : List ℕ) → fold with_decimal_digit (Some m) text ≡ Some n → Behind m n text
digits_behind m n [] h = record { digits = []; cut = refl; fit = tt; is = sym (same_some m n h) }
digits_behind m n (b ∷ text) h =
    let T : Option ℕ → Type 0 = λ o. with_decimal_digit (Some m) b ≡ o → fold with_decimal_digit o text ≡ Some n → Behind m n (b ∷ text) in
    let f : (o : Option ℕ) → T o = λ o. elim o as T [
      | None ↦ λ e q. no_digit m n b text q
      | Some k ↦ λ e q. some_digit m k n b text (step_cut m b k e) (digits_behind k n text q)
    ] in
    f (with_decimal_digit (Some m) b) refl h

decimal_cut : (n : ℕ) (text : List ℕ) → digits_of text ≡ Some n → IsDecimal n text
decimal_cut n text h =
    let b : Behind 0 n text = digits_behind 0 n text h in
    record { digits = b.digits; cut = b.cut; fit = b.fit; is = b.is }

-- more digits make no smaller number
fold_grows : (m : ℕ) (digits : List ℕ) → m ≤ fold onto m digits
fold_grows m [] = omega arith
fold_grows m (d ∷ digits) = let h : m * 10 + d ≤ fold onto (m * 10 + d) digits = fold_grows (m * 10 + d) digits in omega arith

digits_read : (m : ℕ) (digits : List ℕ) → AllByRecursion IsDigit digits → fold onto m digits ≤ 4294967295 → fold with_decimal_digit (Some m) (map (λ d. 48 + d) digits) ≡ Some (fold onto m digits)
digits_read m [] f h = refl
digits_read m (d ∷ digits) f h =
    let less : m * 10 + d ≤ fold onto (m * 10 + d) digits = fold_grows (m * 10 + d) digits in
    ap (λ o. fold with_decimal_digit o (map (λ d. 48 + d) digits)) (step_reads m d f.0 (omega arith)) ∙ digits_read (m * 10 + d) digits f.1 h

decimal_reads : (n : ℕ) (text : List ℕ) → IsDecimal n text → n ≤ 4294967295 → digits_of text ≡ Some n
decimal_reads n text d h =
    ap digits_of d.cut ∙ digits_read 0 d.digits d.fit (subst (λ n. n ≤ 4294967295) d.is h) ∙ ap Some (sym d.is)

-- ---- parts of a time

two_bytes : (text : List ℕ) → length text ≡ 2 → (a : ℕ) × (b : ℕ) × (text ≡ a ∷ b ∷ [])
two_bytes [] h = absurd (omega (arith, h))
two_bytes (a ∷ []) h = absurd (omega (arith, h))
two_bytes (a ∷ b ∷ []) h = (a, b, refl)
two_bytes (a ∷ b ∷ c ∷ text) h = absurd (omega (arith, h))

up_to_cut : (most n : ℕ) (o : Option ℕ) → number_up_to most o ≡ Some n → (o ≡ Some n) × (n ≤ most)
up_to_cut most n None h = let none : ⊥ = cc in absurd none
up_to_cut most n (Some m) h = elim (by_test (nat_le m most) (Some m) None (Some n) h) [
  | inl p ↦ let e : m ≡ n = same_some m n p.1 in (ap Some e, grind (arith, nat_tests, p.0, e))
  | inr p ↦ let none : ⊥ = cc in absurd none
]

part_cut : (most n : ℕ) (text : List ℕ) → part_of most text ≡ Some n → IsPart most n text
unfolding part_of
part_cut most n text h = elim (by_test (nat_eq (length text) 2) (number_up_to most (digits_of text)) None (Some n) h) [
  | inl p ↦
      let u = up_to_cut most n (digits_of text) p.1 in
      record { decimal = decimal_cut n text u.0; two = grind (arith, nat_tests, p.0); fits = u.1 }
  | inr p ↦ let none : ⊥ = cc in absurd none
]

two_digits : (n : ℕ) (digits : List ℕ) → length digits ≡ 2 → AllByRecursion IsDigit digits → n ≡ fold onto 0 digits → n ≤ 99
two_digits n [] l f e = absurd (omega (arith, l))
two_digits n (a ∷ []) l f e = absurd (omega (arith, l))
two_digits n (a ∷ b ∷ []) l f e = omega (arith, e, f.0, f.1.0)
two_digits n (a ∷ b ∷ c ∷ digits) l f e = absurd (omega (arith, l))

part_reads : (most n : ℕ) (text : List ℕ) → IsPart most n text → part_of most text ≡ Some n
unfolding part_of
part_reads most n text p =
    let d : IsDecimal n text = p.decimal in
    let two : nat_eq (length text) 2 ≡ true = grind (arith, nat_tests, p.two) in
    let fits : nat_le n most ≡ true = grind (arith, nat_tests, p.fits) in
    let long : length d.digits ≡ 2 = sym (length-map d.digits (λ d. 48 + d)) ∙ sym (ap length d.cut) ∙ p.two in
    let small : n ≤ 4294967295 = omega (arith, two_digits n d.digits long d.fit d.is) in
    ap (λ (b : Bool). if b then number_up_to most (digits_of text) else None) two
    ∙ (ap (λ o. number_up_to most o) (decimal_reads n text p.decimal small)
    ∙ ap (λ (b : Bool). if b then Some n else None) fits)

-- ---- times

minute_back_cut : (most n hours : ℕ) (front back : List ℕ) (o : Option ℕ) → IsPart most hours front → part_of 59 back ≡ o → minute_from hours o ≡ Some n → IsMinute most n (front ++ 58 ∷ back)
minute_back_cut most n hours front back None p e h = let none : ⊥ = cc in absurd none
minute_back_cut most n hours front back (Some minutes) p e h = record {
  front = front;
  back = back;
  hours = hours;
  minutes = minutes;
  cut = refl;
  says_hours = p;
  says_minutes = part_cut 59 minutes back e;
  is = sym (same_some (hours * 3600 + minutes * 60) n h);
}

minute_front_cut : (most n : ℕ) (front back : List ℕ) (o : Option ℕ) → part_of most front ≡ o → minute_of_hours o back ≡ Some n → IsMinute most n (front ++ 58 ∷ back)
minute_front_cut most n front back None e h = let none : ⊥ = cc in absurd none
minute_front_cut most n front back (Some hours) e h = minute_back_cut most n hours front back (part_of 59 back) (part_cut most hours front e) refl h

minute_cut : (most n : ℕ) (text : List ℕ) → minute_of most text ≡ Some n → IsMinute most n text
unfolding minute_of
minute_cut most n text h = elim (by_test (has_colon_at 2 text) (minute_of_hours (part_of most (take 2 text)) (drop 3 text)) None (Some n) h) [
  | inl p ↦ subst (IsMinute most n) (sym (colon_cut 2 text p.0)) (minute_front_cut most n (take 2 text) (drop 3 text) (part_of most (take 2 text)) refl p.1)
  | inr p ↦ let none : ⊥ = cc in absurd none
]

-- five bytes
record Five (most n : ℕ) (text : List ℕ) : Type 0 where
  a : ℕ
  b : ℕ
  c : ℕ
  d : ℕ
  cut : text ≡ a ∷ b ∷ 58 ∷ c ∷ d ∷ []
  reads : minute_of most text ≡ Some n

minute_reads : (most n : ℕ) (text : List ℕ) → IsMinute most n text → Five most n text
unfolding minute_of
minute_reads most n text m =
    let f = two_bytes m.front m.says_hours.two in
    let b = two_bytes m.back m.says_minutes.two in
    let cut : text ≡ f.0 ∷ f.1 ∷ 58 ∷ b.0 ∷ b.1 ∷ [] = m.cut ∙ (ap (λ l. l ++ 58 ∷ m.back) f.2 ∙ ap (λ l. f.0 ∷ f.1 ∷ 58 ∷ l) b.2) in
    let hours : part_of most (f.0 ∷ f.1 ∷ []) ≡ Some m.hours = ap (part_of most) (sym f.2) ∙ part_reads most m.hours m.front m.says_hours in
    let minutes : part_of 59 (b.0 ∷ b.1 ∷ []) ≡ Some m.minutes = ap (part_of 59) (sym b.2) ∙ part_reads 59 m.minutes m.back m.says_minutes in
    record {
      a = f.0;
      b = f.1;
      c = b.0;
      d = b.1;
      cut = cut;
      reads = ap (minute_of most) cut
          ∙ (ap (λ o. minute_of_hours o (b.0 ∷ b.1 ∷ [])) hours
          ∙ (ap (minute_from m.hours) minutes ∙ ap Some (sym m.is)));
    }

second_back_cut : (most minute : ℕ) (time : Clock) (front back : List ℕ) (o : Option ℕ) → IsMinute most minute front → part_of 59 back ≡ o → second_from minute o ≡ Some time → IsTime most time (front ++ 58 ∷ back)
second_back_cut most minute time front back None m e h = let none : ⊥ = cc in absurd none
second_back_cut most minute time front back (Some seconds) m e h =
    subst (λ t. IsTime most t (front ++ 58 ∷ back)) (same_some (Second (minute + seconds)) time h) (record {
      front = front;
      back = back;
      minute = minute;
      seconds = seconds;
      cut = refl;
      says_minute = m;
      says_seconds = part_cut 59 seconds back e;
      is = refl;
    })

second_front_cut : (most : ℕ) (time : Clock) (front back : List ℕ) (o : Option ℕ) → minute_of most front ≡ o → second_of_minute o back ≡ Some time → IsTime most time (front ++ 58 ∷ back)
second_front_cut most time front back None e h = let none : ⊥ = cc in absurd none
second_front_cut most time front back (Some minute) e h = second_back_cut most minute time front back (part_of 59 back) (minute_cut most minute front e) refl h

time_at_cut : (most : ℕ) (time : Clock) (text : List ℕ) (o : Option ℕ) → minute_of most text ≡ o → time_at o ≡ Some time → IsTime most time text
time_at_cut most time text None e h = let none : ⊥ = cc in absurd none
time_at_cut most time text (Some minute) e h = subst (λ t. IsTime most t text) (same_some (Minute minute) time h) (minute_cut most minute text e)

pub time_cut : (most : ℕ) (time : Clock) (text : List ℕ) → time_of most text ≡ Some time → IsTime most time text
unfolding time_of
time_cut most time text h = elim (by_test (has_colon_at 5 text) (second_of_minute (minute_of most (take 5 text)) (drop 6 text)) (time_at (minute_of most text)) (Some time) h) [
  | inl p ↦ subst (IsTime most time) (sym (colon_cut 5 text p.0)) (second_front_cut most time (take 5 text) (drop 6 text) (minute_of most (take 5 text)) refl p.1)
  | inr p ↦ time_at_cut most time text (minute_of most text) refl p.1
]

pub time_reads : (most : ℕ) (time : Clock) (text : List ℕ) → IsTime most time text → time_of most text ≡ Some time
unfolding time_of
time_reads most (Minute n) text m =
    let f : Five most n text = minute_reads most n text m in
    ap (time_of most) f.cut ∙ (ap (λ l. time_at (minute_of most l)) (sym f.cut) ∙ ap time_at f.reads)
time_reads most (Second n) text s =
    let f : Five most s.minute s.front = minute_reads most s.minute s.front s.says_minute in
    let b = two_bytes s.back s.says_seconds.two in
    let cut : text ≡ f.a ∷ f.b ∷ 58 ∷ f.c ∷ f.d ∷ 58 ∷ b.0 ∷ b.1 ∷ [] = s.cut ∙ (ap (λ l. l ++ 58 ∷ s.back) f.cut ∙ ap (λ l. f.a ∷ f.b ∷ 58 ∷ f.c ∷ f.d ∷ 58 ∷ l) b.2) in
    let minute : minute_of most (f.a ∷ f.b ∷ 58 ∷ f.c ∷ f.d ∷ []) ≡ Some s.minute = ap (minute_of most) (sym f.cut) ∙ f.reads in
    let seconds : part_of 59 (b.0 ∷ b.1 ∷ []) ≡ Some s.seconds = ap (part_of 59) (sym b.2) ∙ part_reads 59 s.seconds s.back s.says_seconds in
    ap (time_of most) cut
    ∙ (ap (λ o. second_of_minute o (b.0 ∷ b.1 ∷ [])) minute
    ∙ (ap (second_from s.minute) seconds ∙ ap (λ n. Some (Second n)) (sym s.is)))

-- ---- spans

-- bytes that are no dash, but above it
abbrev IsFree : List ℕ → Type 0
IsFree text = AllByRecursion (λ b. 45 < b) text

digits_free : (digits : List ℕ) → IsFree (map (λ d. 48 + d) digits)
digits_free [] = tt
digits_free (d ∷ digits) = (omega arith, digits_free digits)

part_free : (most n : ℕ) (text : List ℕ) → IsPart most n text → IsFree text
part_free most n text p = let d : IsDecimal n text = p.decimal in subst IsFree (sym d.cut) (digits_free d.digits)

both_free : (front back : List ℕ) → IsFree front → IsFree back → IsFree (front ++ 58 ∷ back)
both_free [] back f b = (omega arith, b)
both_free (c ∷ front) back f b = (f.0, both_free front back f.1 b)

minute_free : (most n : ℕ) (text : List ℕ) → IsMinute most n text → IsFree text
minute_free most n text m = subst IsFree (sym m.cut) (both_free m.front m.back (part_free most m.hours m.front m.says_hours) (part_free 59 m.minutes m.back m.says_minutes))

time_free : (most : ℕ) (time : Clock) (text : List ℕ) → IsTime most time text → IsFree text
time_free most (Minute n) text m = minute_free most n text m
time_free most (Second n) text s = subst IsFree (sym s.cut) (both_free s.front s.back (minute_free most s.minute s.front s.says_minute) (part_free 59 s.seconds s.back s.says_seconds))

free_length : (front : List ℕ) → IsFree front → position_or_len (nat_eq 45) front ≡ length front
free_length [] f = refl
free_length (b ∷ front) f =
    let no : not (nat_eq 45 b) ≡ true = grind (arith, nat_tests, f.0) in
    let e : 1 + position_or_len (nat_eq 45) front ≡ suc (length front) = omega (arith, free_length front f.1) in
    ap (λ (t : Bool). if t then 1 + position_or_len (nat_eq 45) front else 0) no ∙ e

dash_behind : (front back : List ℕ) → IsFree front → position_or_len (nat_eq 45) (front ++ 45 ∷ back) ≡ length front
dash_behind [] back f = refl
dash_behind (b ∷ front) back f =
    let no : not (nat_eq 45 b) ≡ true = grind (arith, nat_tests, f.0) in
    let e : 1 + position_or_len (nat_eq 45) (front ++ 45 ∷ back) ≡ suc (length front) = omega (arith, dash_behind front back f.1) in
    ap (λ (t : Bool). if t then 1 + position_or_len (nat_eq 45) (front ++ 45 ∷ back) else 0) no ∙ e

no_dash : (text : List ℕ) → IsFree text → position (nat_eq 45) text ≡ None
no_dash text f =
    let t : nat_lt (position_or_len (nat_eq 45) text) (length text) ≡ false = grind (arith, nat_tests, free_length text f) in
    ap (λ (b : Bool). if b then Some (position_or_len (nat_eq 45) text) else None) t

first_dash : (front back : List ℕ) → IsFree front → position (nat_eq 45) (front ++ 45 ∷ back) ≡ Some (length front)
first_dash front back f =
    let t : nat_lt (position_or_len (nat_eq 45) (front ++ 45 ∷ back)) (length (front ++ 45 ∷ back)) ≡ true = grind (arith, nat_tests, dash_behind front back f, length-append front (45 ∷ back)) in
    ap (λ (b : Bool). if b then Some (position_or_len (nat_eq 45) (front ++ 45 ∷ back)) else None) t ∙ ap Some (dash_behind front back f)

dash_cut : (n : ℕ) (text : List ℕ) → position (nat_eq 45) text ≡ Some n → text ≡ take n text ++ 45 ∷ drop (n + 1) text
dash_cut n text h =
    let p = position-Some (nat_eq 45) text n 0 h in
    let here : get_or text n 0 ≡ 45 = grind (arith, nat_tests, p.1) in
    let less : n < length text = p.0 in
    let one : suc n ≡ n + 1 = omega arith in
    sym (take-append-drop n text) ∙ ap (λ l. take n text ++ l) (drop-cons text n 0 less ∙ ap (λ b. b ∷ drop (suc n) text) here ∙ ap (λ k. 45 ∷ drop k text) one)

span_at_cut : (span : DaySpan) (text : List ℕ) (o : Option Clock) → time_of 23 text ≡ o → span_at o ≡ Some span → IsSpan span text
span_at_cut span text None e h = let none : ⊥ = cc in absurd none
span_at_cut span text (Some time) e h =
    subst (λ s. IsSpan s text) (same_some (span_with (first_second time) (last_second time)) span h) (One time text (time_cut 23 time text e))

range_end_cut : (span : DaySpan) (begin : Clock) (front back : List ℕ) (o : Option Clock) → IsTime 23 begin front → time_of 23 back ≡ o → span_from begin o ≡ Some span → IsSpan span (front ++ 45 ∷ back)
range_end_cut span begin front back None b e h = let none : ⊥ = cc in absurd none
range_end_cut span begin front back (Some end) b e h =
    subst (λ s. IsSpan s (front ++ 45 ∷ back)) (same_some (span_with (first_second begin) (first_second end)) span h) (Range begin end front back b (time_cut 23 end back e))

range_cut : (span : DaySpan) (front back : List ℕ) (o : Option Clock) → time_of 23 front ≡ o → span_of_begin o back ≡ Some span → IsSpan span (front ++ 45 ∷ back)
range_cut span front back None e h = let none : ⊥ = cc in absurd none
range_cut span front back (Some begin) e h = range_end_cut span begin front back (time_of 23 back) (time_cut 23 begin front e) refl h

dash_or_none : (span : DaySpan) (text : List ℕ) (o : Option ℕ) → position (nat_eq 45) text ≡ o → span_by_dash o text ≡ Some span → IsSpan span text
dash_or_none span text None e h = span_at_cut span text (time_of 23 text) refl h
dash_or_none span text (Some n) e h = subst (IsSpan span) (sym (dash_cut n text e)) (range_cut span (take n text) (drop (n + 1) text) (time_of 23 (take n text)) refl h)

pub span_cut : (span : DaySpan) (text : List ℕ) → span_of text ≡ Some span → IsSpan span text
unfolding span_of
span_cut span text h = dash_or_none span text (position (nat_eq 45) text) refl h

pub span_reads : (span : DaySpan) (text : List ℕ) → IsSpan span text → span_of text ≡ Some span
unfolding span_of
span_reads span text (One time word t) =
    ap (λ o. span_by_dash o text) (no_dash text (time_free 23 time text t)) ∙ ap span_at (time_reads 23 time text t)
span_reads span text (Range begin end front back b e) =
    let front_is : take (length front) (front ++ 45 ∷ back) ≡ front = take-append_seam front (45 ∷ back) in
    let back_is : drop (length front + 1) (front ++ 45 ∷ back) ≡ back = drop-append-add front (45 ∷ back) 1 in
    ap (λ o. span_by_dash o (front ++ 45 ∷ back)) (first_dash front back (time_free 23 begin front b))
    ∙ (ap (λ l. span_of_begin (time_of 23 l) (drop (length front + 1) (front ++ 45 ∷ back))) front_is
    ∙ (ap (λ l. span_of_begin (time_of 23 front) l) back_is
    ∙ (ap (λ o. span_of_begin o back) (time_reads 23 begin front b)
    ∙ ap (span_from begin) (time_reads 23 end back e))))

-- ---- pasts

past_time_cut : (n : ℕ) (text : List ℕ) (o : Option Clock) → time_of 99 text ≡ o → seconds_of_time o ≡ Some n → IsPast n text
past_time_cut n text None e h = let none : ⊥ = cc in absurd none
past_time_cut n text (Some time) e h = subst (λ n. IsPast n text) (same_some (first_second time) n h) (Time time text (time_cut 99 time text e))

digits_small : (m n : ℕ) (text : List ℕ) → m ≤ 4294967295 → fold with_decimal_digit (Some m) text ≡ Some n → n ≤ 4294967295
digits_small m n [] l h = omega (arith, same_some m n h)
digits_small m n (b ∷ text) l h =
    let T : Option ℕ → Type 0 = λ o. with_decimal_digit (Some m) b ≡ o → fold with_decimal_digit o text ≡ Some n → n ≤ 4294967295 in
    let f : (o : Option ℕ) → T o = λ o. elim o as T [
      | None ↦ λ e q. let s : None ≡ Some n = sym (fold-none text) ∙ q in let none : ⊥ = cc in absurd none
      | Some k ↦ λ e q. digits_small k n text (let s : IsStep m b k = step_cut m b k e in s.small) q
    ] in
    f (with_decimal_digit (Some m) b) refl h

first_plain : (n : ℕ) (text : List ℕ) → nat_eq (length text) 0 ≡ false → nat_eq (get_or text 0 0) 48 ≡ false → IsDecimal n text → NoLeadingZero text
first_plain n [] l z d = let none : ⊥ = cc in absurd none
first_plain n (b ∷ []) l z d = tt
first_plain n (b ∷ c ∷ bytes) l z d = by d.digits d.cut
  where
    by : (digits : List ℕ) → b ∷ c ∷ bytes ≡ map (λ d. 48 + d) digits → 48 < b
    by [] e = let none : ⊥ = cc in absurd none
    by (a ∷ digits) e = let h : b ≡ 48 + a = cc in grind (arith, nat_tests, h, z)

zero_cut : (text : List ℕ) → nat_eq (get_or text 0 0) 48 ≡ true → nat_eq (length text) 1 ≡ true → text ≡ 48 ∷ []
zero_cut [] z l = let none : ⊥ = cc in absurd none
zero_cut (b ∷ []) z l = let h : b ≡ 48 = grind (arith, nat_tests, z) in ap (λ b. b ∷ []) h
zero_cut (b ∷ c ∷ bytes) z l = absurd (grind (arith, nat_tests, l))

zero_alone : IsDecimal 0 (48 ∷ [])
zero_alone = record { digits = 0 ∷ []; cut = refl; fit = (omega arith, tt); is = refl }

number_cut : (n : ℕ) (text : List ℕ) → decimal_of text ≡ Some n → IsPast n text
unfolding decimal_of
number_cut n text h = elim (by_test (nat_eq (length text) 0) None (if nat_eq (get_or text 0 0) 48 then if nat_eq (length text) 1 then Some 0 else None else digits_of text) (Some n) h) [
  | inl p ↦ let none : ⊥ = cc in absurd none
  | inr p ↦ elim (by_test (nat_eq (get_or text 0 0) 48) (if nat_eq (length text) 1 then Some 0 else None) (digits_of text) (Some n) p.1) [
    | inl q ↦ elim (by_test (nat_eq (length text) 1) (Some 0) None (Some n) q.1) [
      | inl r ↦ subst (λ n. IsPast n text) (same_some 0 n r.1) (subst (IsPast 0) (sym (zero_cut text q.0 r.0)) (Seconds 0 (48 ∷ []) zero_alone tt (omega arith)))
      | inr r ↦ let none : ⊥ = cc in absurd none
    ]
    | inr q ↦
        let d : IsDecimal n text = decimal_cut n text q.1 in
        Seconds n text d (first_plain n text p.0 q.0 d) (digits_small 0 n text (omega arith) q.1)
  ]
]

pub past_cut : (n : ℕ) (text : List ℕ) → past_of text ≡ Some n → IsPast n text
unfolding past_of
past_cut n text h = elim (by_test (has_colon_at 2 text) (seconds_of_time (time_of 99 text)) (decimal_of text) (Some n) h) [
  | inl p ↦ past_time_cut n text (time_of 99 text) refl p.1
  | inr p ↦ number_cut n text p.1
]

time_colon : (most : ℕ) (time : Clock) (text : List ℕ) → IsTime most time text → has_colon_at 2 text ≡ true
time_colon most (Minute n) text m = let f : Five most n text = minute_reads most n text m in ap (has_colon_at 2) f.cut
time_colon most (Second n) text s =
    let f : Five most s.minute s.front = minute_reads most s.minute s.front s.says_minute in
    let b = two_bytes s.back s.says_seconds.two in
    ap (has_colon_at 2) s.cut ∙ (ap (λ l. has_colon_at 2 (l ++ 58 ∷ s.back)) f.cut ∙ ap (λ l. has_colon_at 2 (f.a ∷ f.b ∷ 58 ∷ f.c ∷ f.d ∷ 58 ∷ l)) b.2)

-- digits are no colon
no_colon : (n : ℕ) (text : List ℕ) → IsDecimal n text → has_colon_at 2 text ≡ false
no_colon n text d = ap (has_colon_at 2) d.cut ∙ by d.digits d.fit
  where
    by : (digits : List ℕ) → AllByRecursion IsDigit digits → has_colon_at 2 (map (λ d. 48 + d) digits) ≡ false
    by [] f = refl
    by (a ∷ []) f = refl
    by (a ∷ b ∷ []) f = refl
    by (a ∷ b ∷ c ∷ digits) f = grind (arith, nat_tests, f.1.1.0)

number_reads : (n : ℕ) (text : List ℕ) → NoLeadingZero text → digits_of text ≡ Some n → decimal_of text ≡ Some n
unfolding decimal_of
number_reads n [] z h = absurd z
number_reads n (b ∷ []) z h = by (nat_eq b 48) refl
  where
    by : (v : Bool) → nat_eq b 48 ≡ v → (if nat_eq b 48 then Some 0 else digits_of (b ∷ [])) ≡ Some n
    by true t =
        let e : b ≡ 48 = grind (arith, nat_tests, t) in
        ap (λ (v : Bool). if v then Some 0 else digits_of (b ∷ [])) t ∙ (ap (λ b. digits_of (b ∷ [])) (sym e) ∙ h)
    by false t = ap (λ (v : Bool). if v then Some 0 else digits_of (b ∷ [])) t ∙ h
number_reads n (b ∷ c ∷ bytes) z h =
    let some : nat_eq (length (b ∷ c ∷ bytes)) 0 ≡ false = grind (arith, nat_tests) in
    let t : nat_eq b 48 ≡ false = grind (arith, nat_tests, z) in
    rw some (rw t h)

pub past_reads : (n : ℕ) (text : List ℕ) → IsPast n text → past_of text ≡ Some n
unfolding past_of
past_reads n text (Time time word t) =
    ap (λ (b : Bool). if b then seconds_of_time (time_of 99 text) else decimal_of text) (time_colon 99 time text t) ∙ ap seconds_of_time (time_reads 99 time text t)
past_reads n text (Seconds m word d z h) =
    ap (λ (b : Bool). if b then seconds_of_time (time_of 99 text) else decimal_of text) (no_colon n text d) ∙ number_reads n text z (decimal_reads n text d h)

-- ---- probabilities

ten_times : (n k : ℕ) → (n * 10) * 10 ^ k ≡ n * 10 ^ suc k
ten_times n k = mul_assoc n 10 (10 ^ k) ∙ ap (λ m. n * m) (sym (pow-succ' 10 k))

zeros_cut : (n m k : ℕ) → fold with_decimal_digit (Some n) (replicate k 48) ≡ Some m → m ≡ n * 10 ^ k
zeros_cut n m zero h = omega (arith, same_some n m h)
zeros_cut n m (suc k) h =
    let T : Option ℕ → Type 0 = λ o. with_decimal_digit (Some n) 48 ≡ o → fold with_decimal_digit o (replicate k 48) ≡ Some m → m ≡ n * 10 ^ suc k in
    let f : (o : Option ℕ) → T o = λ o. elim o as T [
      | None ↦ λ e q. let s : None ≡ Some m = sym (fold-none (replicate k 48)) ∙ q in let none : ⊥ = cc in absurd none
      | Some p ↦ λ e q.
          let s : IsStep n 48 p = step_cut n 48 p e in
          let same : p ≡ n * 10 = omega (arith, s.cut, s.is) in
          zeros_cut p m k q ∙ ap (λ p. p * 10 ^ k) same ∙ ten_times n k
    ] in
    f (with_decimal_digit (Some n) 48) refl h

fraction_cut : (n : ℕ) (text : List ℕ) (o : Option ℕ) → digits_of text ≡ o → 0 < length text → length text ≤ 9 → fold with_decimal_digit o (replicate (9 - length text) 48) ≡ Some n → IsChance n (codes "0." ++ text)
fraction_cut n text None e s l h =
    let q : None ≡ Some n = sym (fold-none (replicate (9 - length text) 48)) ∙ h in
    let none : ⊥ = cc in
    absurd none
fraction_cut n text (Some m) e s l h = subst (λ n. IsChance n (codes "0." ++ text)) (sym (zeros_cut m n (9 - length text) h)) (Fraction m text (decimal_cut m text e) s l)

billionths_cut : (n : ℕ) (text : List ℕ) → billionths_of text ≡ Some n → IsChance n (codes "0." ++ text)
unfolding billionths_of
billionths_cut n text h = elim (by_test (nat_eq (length text) 0 || nat_lt 9 (length text)) None (digits_of (text ++ replicate (9 - length text) 48)) (Some n) h) [
  | inl p ↦ let none : ⊥ = cc in absurd none
  | inr p ↦ fraction_cut n text (digits_of text) refl (grind (arith, nat_tests, p.0)) (grind (arith, nat_tests, p.0)) (sym (fold-append with_decimal_digit (Some 0) text (replicate (9 - length text) 48)) ∙ p.1)
]

pub chance_cut : (n : ℕ) (text : List ℕ) → chance_of text ≡ Some n → IsChance n text
unfolding chance_of zero_point
chance_cut n text h = elim (by_test (pointwise nat_eq text (codes "0")) (Some 0) (if pointwise nat_eq text (codes "1") then Some 1000000000 else if starts_with nat_eq text zero_point then billionths_of (drop 2 text) else None) (Some n) h) [
  | inl p ↦ subst (λ n. IsChance n text) (same_some 0 n p.1) (subst (IsChance 0) (sym (same_text text (codes "0") (sym p.0))) Never)
  | inr p ↦ elim (by_test (pointwise nat_eq text (codes "1")) (Some 1000000000) (if starts_with nat_eq text zero_point then billionths_of (drop 2 text) else None) (Some n) p.1) [
    | inl q ↦ subst (λ n. IsChance n text) (same_some 1000000000 n q.1) (subst (IsChance 1000000000) (sym (same_text text (codes "1") (sym q.0))) Always)
    | inr q ↦ elim (by_test (starts_with nat_eq text zero_point) (billionths_of (drop 2 text)) None (Some n) q.1) [
      | inl r ↦
          let e : zero_point ≡ take 2 text = same_text zero_point (take 2 text) (sym r.0) in
          subst (IsChance n) (ap (λ l. l ++ drop 2 text) e ∙ take-append-drop 2 text) (billionths_cut n (drop 2 text) r.1)
      | inr r ↦ let none : ⊥ = cc in absurd none
    ]
  ]
]

fold_below : (m : ℕ) (digits : List ℕ) → AllByRecursion IsDigit digits → fold onto m digits + 1 ≤ (m + 1) * 10 ^ length digits
fold_below m [] f = omega arith
fold_below m (d ∷ digits) f =
    let rest : fold onto (m * 10 + d) digits + 1 ≤ (m * 10 + d + 1) * 10 ^ length digits = fold_below (m * 10 + d) digits f.1 in
    let more : (m * 10 + d + 1) * 10 ^ length digits ≤ ((m + 1) * 10) * 10 ^ length digits = mul-le-mul_right (10 ^ length digits) (omega (arith, f.0)) in
    omega (arith, rest, more, ten_times (m + 1) (length digits))

zeros_read : (n k : ℕ) → n * 10 ^ k ≤ 4294967295 → fold with_decimal_digit (Some n) (replicate k 48) ≡ Some (n * 10 ^ k)
zeros_read n zero h = ap Some (let e : n ≡ n * 10 ^ 0 = omega arith in e)
zeros_read n (suc k) h =
    let one : 1 ≤ 10 ^ k = one-le-pow k 10 (omega arith) in
    let same : n * 10 ^ suc k ≡ (n * 10 + 0) * 10 ^ k = let e : n * 10 + 0 ≡ n * 10 = omega arith in sym (ten_times n k) ∙ ap (λ m. m * 10 ^ k) (sym e) in
    let less : (n * 10 + 0) * 1 ≤ (n * 10 + 0) * 10 ^ k = mul-le-mul_left (n * 10 + 0) one in
    ap (λ o. fold with_decimal_digit o (replicate k 48)) (step_reads n 0 (omega arith) (omega (arith, less, same, h)))
    ∙ zeros_read (n * 10 + 0) k (omega (arith, same, h)) ∙ ap Some (sym same)

billionths_read : (n : ℕ) (text : List ℕ) → IsDecimal n text → 0 < length text → length text ≤ 9 → billionths_of text ≡ Some (n * 10 ^ (9 - length text))
unfolding billionths_of
billionths_read n text d s l =
    let t : (nat_eq (length text) 0 || nat_lt 9 (length text)) ≡ false = grind (arith, nat_tests) in
    let long : length text ≡ length d.digits = ap length d.cut ∙ length-map d.digits (λ d. 48 + d) in
    let below : n + 1 ≤ 1 * 10 ^ length text = omega (arith, fold_below 0 d.digits d.fit, d.is, ap (λ k. 10 ^ k) long) in
    let nine : length text + (9 - length text) ≡ 9 = omega arith in
    let all : 10 ^ 9 ≡ 10 ^ length text * 10 ^ (9 - length text) = ap (λ k. 10 ^ k) (sym nine) ∙ pow-add 10 (length text) (9 - length text) in
    let less : n * 10 ^ (9 - length text) ≤ 10 ^ length text * 10 ^ (9 - length text) = mul-le-mul_right (10 ^ (9 - length text)) (omega (arith, below)) in
    let one : 1 ≤ 10 ^ (9 - length text) = one-le-pow (9 - length text) 10 (omega arith) in
    let least : n * 1 ≤ n * 10 ^ (9 - length text) = mul-le-mul_left n one in
    let small : n * 10 ^ (9 - length text) ≤ 4294967295 = omega (arith, less, all) in
    ap (λ (b : Bool). if b then None else digits_of (text ++ replicate (9 - length text) 48)) t
    ∙ (fold-append with_decimal_digit (Some 0) text (replicate (9 - length text) 48)
    ∙ (ap (λ o. fold with_decimal_digit o (replicate (9 - length text) 48)) (decimal_reads n text d (omega (arith, least, small)))
    ∙ zeros_read n (9 - length text) small))

fraction_reads : (n : ℕ) (text : List ℕ) → 0 < length text → billionths_of text ≡ Some n → chance_of (codes "0." ++ text) ≡ Some n
unfolding chance_of zero_point
fraction_reads n [] s h = absurd (omega (arith, s))
fraction_reads n (b ∷ text) s h = h

pub chance_reads : (n : ℕ) (text : List ℕ) → IsChance n text → chance_of text ≡ Some n
unfolding chance_of zero_point
chance_reads n text Never = refl
chance_reads n text Always = refl
chance_reads n text (Fraction m digits d s l) = fraction_reads (m * 10 ^ (9 - length digits)) digits s (billionths_read m digits d s l)
