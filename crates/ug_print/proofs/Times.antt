-- Printed times are words that are read as these.
use Rattle.std.proofs.Common.{◌≡◌, ℕ, zero, suc, ◌+◌, ◌*◌, ◌/◌, ◌%◌, ◌^◌, ◌<◌, ◌≤◌, inl, inr, Bool, true, false, ◌&&◌, nat_eq, nat_le, nat_lt, not, cond, List, [], ◌∷◌, ◌++◌, length, length-append, take, drop, get_or, Option, None, Some, refl, sym, ap, subst, ◌∙◌, arith, if◌then◌else◌}
use Rattle.std.specs.Prelude.{decimal}
use Rattle.std.specs.List.{AllByRecursion, position, prefix_len}
use Rattle.std.proofs.Math.Bool.{and-false}
use Rattle.std.proofs.Math.Seq.{take-append_seam}
use Rattle.std.proofs.lemmas.Fmt.{decimal_digit, decimal_nonempty, decimal_step}
use Rattle.ug_words.specs.Grammar.{IsWordByte}
use Rattle.ug_words.specs.declared.words.Clock.{Clock}
use Rattle.ug_words.specs.declared.words.Clock.TheVariants.{Minute, Second}
use Rattle.ug_words.specs.declared.words.DaySpan.{DaySpan}
use Rattle.ug_words.specs.Words.{digits_of, first_second, has_colon_at, last_second, minute_from, minute_of, minute_of_hours, decimal_of, part_of, past_of, second_from, second_of_minute, seconds_of_time, span_at, span_by_dash, span_from, span_of, span_of_begin, time_at, time_of, number_up_to, with_decimal_digit}
use Rattle.ug_words.proofs.Tests.{by_test}
use Rattle.ug_print.specs.Items.{time_text, two_decimal_digits}
use Rattle.ug_print.proofs.ConditionsAgain.{WordFor}
use Rattle.ug_words.proofs.Decimals.{IsDigit, Written, all-append, decimal_read, decimal_written, digit_more, most_number, number_fits}
use Rattle.ug_print.proofs.Decimals.{digit_byte, digits_word, word_of_bytes}

-- ---- times that are read are of a day, or of a hundred hours

part_fits : (most : ℕ) (text : List ℕ) (n : ℕ) → part_of most text ≡ Some n → n ≤ most
unfolding part_of
part_fits most text n h = elim (by_test (nat_eq (length text) 2) (number_up_to most (digits_of text)) None (Some n) h) [
  | inl p ↦ by (digits_of text) p.1
  | inr p ↦ let none : ⊥ = cc in absurd none
]
  where
    by : (o : Option ℕ) → number_up_to most o ≡ Some n → n ≤ most
    by None h = let none : ⊥ = cc in absurd none
    by (Some m) h = elim (by_test (nat_le m most) (Some m) None (Some n) h) [
      | inl p ↦ let same : m ≡ n = cc in let test : nat_le m most ≡ true = p.0 in grind arith
      | inr p ↦ let none : ⊥ = cc in absurd none
    ]

minute_fits : (most : ℕ) (text : List ℕ) (n : ℕ) → minute_of most text ≡ Some n → n + 59 < (most + 1) * 3600
unfolding minute_of
minute_fits most text n h = elim (by_test (has_colon_at 2 text) (minute_of_hours (part_of most (take 2 text)) (drop 3 text)) None (Some n) h) [
  | inl p ↦ by (part_of most (take 2 text)) (drop 3 text) (λ hours e. part_fits most (take 2 text) hours e) p.1
  | inr p ↦ let none : ⊥ = cc in absurd none
]
  where
    with_minutes : (hours : ℕ) (o : Option ℕ) → ((m : ℕ) → o ≡ Some m → m ≤ 59) → minute_from hours o ≡ Some n → hours ≤ most → n + 59 < (most + 1) * 3600
    with_minutes hours None f h k = let none : ⊥ = cc in absurd none
    with_minutes hours (Some m) f h k = let e : hours * 3600 + m * 60 ≡ n = cc in let l : m ≤ 59 = f m refl in omega (arith, e, l, k)

    by : (o : Option ℕ) (rest : List ℕ) → ((hours : ℕ) → o ≡ Some hours → hours ≤ most) → minute_of_hours o rest ≡ Some n → n + 59 < (most + 1) * 3600
    by None rest f h = let none : ⊥ = cc in absurd none
    by (Some hours) rest f h = with_minutes hours (part_of 59 rest) (λ m e. part_fits 59 rest m e) h (f hours refl)

record ClockFits (most : ℕ) (clock : Clock) : Type 0 where
  first : first_second clock < (most + 1) * 3600
  last : last_second clock < (most + 1) * 3600

time_fits : (most : ℕ) (text : List ℕ) (clock : Clock) → time_of most text ≡ Some clock → ClockFits most clock
unfolding time_of
time_fits most text clock h = elim (by_test (has_colon_at 5 text) (second_of_minute (minute_of most (take 5 text)) (drop 6 text)) (time_at (minute_of most text)) (Some clock) h) [
  | inl p ↦ by_second (minute_of most (take 5 text)) (drop 6 text) (λ minute e. minute_fits most (take 5 text) minute e) p.1
  | inr p ↦ by_minute (minute_of most text) (λ minute e. minute_fits most text minute e) p.1
]
  where
    with_seconds : (minute : ℕ) (o : Option ℕ) → ((s : ℕ) → o ≡ Some s → s ≤ 59) → second_from minute o ≡ Some clock → minute + 59 < (most + 1) * 3600 → ClockFits most clock
    with_seconds minute None f h k = let none : ⊥ = cc in absurd none
    with_seconds minute (Some s) f h k =
        let e : Second (minute + s) ≡ clock = cc in
        let l : s ≤ 59 = f s refl in
        subst (ClockFits most) e (record { first = omega (arith, l, k); last = omega (arith, l, k) })

    by_second : (o : Option ℕ) (rest : List ℕ) → ((minute : ℕ) → o ≡ Some minute → minute + 59 < (most + 1) * 3600) → second_of_minute o rest ≡ Some clock → ClockFits most clock
    by_second None rest f h = let none : ⊥ = cc in absurd none
    by_second (Some minute) rest f h = with_seconds minute (part_of 59 rest) (λ s e. part_fits 59 rest s e) h (f minute refl)

    by_minute : (o : Option ℕ) → ((minute : ℕ) → o ≡ Some minute → minute + 59 < (most + 1) * 3600) → time_at o ≡ Some clock → ClockFits most clock
    by_minute None f h = let none : ⊥ = cc in absurd none
    by_minute (Some minute) f h =
        let e : Minute minute ≡ clock = cc in
        let k : minute + 59 < (most + 1) * 3600 = f minute refl in
        subst (ClockFits most) e (record { first = omega (arith, k); last = k })

record SpanFits (span : DaySpan) : Type 0 where
  begin : span.begin < 86400
  end : span.end < 86400

span_fits : (text : List ℕ) (span : DaySpan) → span_of text ≡ Some span → SpanFits span
unfolding span_of
span_fits text span h = by_dash (position (nat_eq 45) text) h
  where
    to_end : (begin : Clock) (o : Option Clock) → ((c : Clock) → o ≡ Some c → ClockFits 23 c) → span_from begin o ≡ Some span → ClockFits 23 begin → SpanFits span
    to_end begin None f h k = let none : ⊥ = cc in absurd none
    to_end begin (Some c) f h k =
        let e : record { begin = first_second begin; end = first_second c } ≡ span = cc in
        let l : ClockFits 23 c = f c refl in
        subst SpanFits e (record { begin = k.first; end = l.first })

    from_begin : (o : Option Clock) (rest : List ℕ) → ((c : Clock) → o ≡ Some c → ClockFits 23 c) → span_of_begin o rest ≡ Some span → SpanFits span
    from_begin None rest f h = let none : ⊥ = cc in absurd none
    from_begin (Some c) rest f h = to_end c (time_of 23 rest) (λ d e. time_fits 23 rest d e) h (f c refl)

    alone : (o : Option Clock) → ((c : Clock) → o ≡ Some c → ClockFits 23 c) → span_at o ≡ Some span → SpanFits span
    alone None f h = let none : ⊥ = cc in absurd none
    alone (Some c) f h =
        let e : record { begin = first_second c; end = last_second c } ≡ span = cc in
        let l : ClockFits 23 c = f c refl in
        subst SpanFits e (record { begin = l.first; end = l.last })

    by_dash : (o : Option ℕ) → span_by_dash o text ≡ Some span → SpanFits span
    by_dash None h = alone (time_of 23 text) (λ c e. time_fits 23 text c e) h
    by_dash (Some dash) h = from_begin (time_of 23 (take dash text)) (drop (dash + 1) text) (λ c e. time_fits 23 (take dash text) c e) h

past_fits : (text : List ℕ) (n : ℕ) → past_of text ≡ Some n → n ≤ most_number
unfolding past_of
past_fits text n h = elim (by_test (has_colon_at 2 text) (seconds_of_time (time_of 99 text)) (decimal_of text) (Some n) h) [
  | inl p ↦ by (time_of 99 text) (λ c e. time_fits 99 text c e) p.1
  | inr p ↦ number_fits text n p.1
]
  where
    by : (o : Option Clock) → ((c : Clock) → o ≡ Some c → ClockFits 99 c) → seconds_of_time o ≡ Some n → n ≤ most_number
    by None f h = let none : ⊥ = cc in absurd none
    by (Some c) f h = let e : first_second c ≡ n = cc in let l : ClockFits 99 c = f c refl in omega (arith, e, l.first)

-- ---- a past that is written

low_digits : (ds : List ℕ) (i : ℕ) → AllByRecursion IsDigit ds → get_or ds i 0 ≤ 57
low_digits [] i h = omega arith
low_digits (b ∷ ds) zero h = h.0.1
low_digits (b ∷ ds) (suc i) h = low_digits ds i h.1

no_colon : (n : ℕ) (ds : List ℕ) → AllByRecursion IsDigit ds → has_colon_at n ds ≡ false
no_colon n ds h =
    let b : get_or ds n 0 ≤ 57 = low_digits ds n h in
    let e : nat_eq (get_or ds n 0) 58 ≡ false = grind arith in
    ap (λ (v : Bool). nat_lt n (length ds) && v) e ∙ and-false (nat_lt n (length ds))

pub past_word : (text : List ℕ) (seconds : ℕ) → past_of text ≡ Some seconds → WordFor past_of (decimal seconds) seconds
unfolding past_of
past_word text seconds h =
    let fits : seconds ≤ most_number = past_fits text seconds h in
    let small : seconds < 2 ^ 64 = omega (arith, fits) in
    let w : Written seconds (decimal seconds) = decimal_written seconds small in
    record {
      word = word_of_bytes (decimal seconds) (decimal_nonempty seconds small) (digits_word (decimal seconds) w.digits);
      says = ap (λ (v : Bool). if v then seconds_of_time (time_of 99 (decimal seconds)) else decimal_of (decimal seconds)) (no_colon 2 (decimal seconds) w.digits) ∙ decimal_read seconds fits;
    }

-- ---- times that are written

-- two digits
abbrev pair : ℕ → List ℕ
pair n = (48 + n / 10) ∷ (48 + n % 10) ∷ []

pair_written : (n : ℕ) → n < 100 → two_decimal_digits n ≡ pair n
pair_written n h =
    let P : Bool → Type 0 = λ v. nat_lt n 10 ≡ v → (if v then 48 ∷ decimal n else decimal n) ≡ pair n in
    let f : (v : Bool) → P v = λ v. elim v as P [
      | true ↦ λ e.
          let l : n < 10 = grind arith in
          let a : 48 ≡ 48 + n / 10 = omega (arith, l) in
          let b : 48 + n ≡ 48 + n % 10 = omega (arith, l) in
          ap (λ (d : List ℕ). 48 ∷ d) (decimal_digit n l) ∙ (ap (λ (x : ℕ). x ∷ (48 + n) ∷ []) a ∙ ap (λ (x : ℕ). (48 + n / 10) ∷ x ∷ []) b)
      | false ↦ λ e.
          let l : 10 ≤ n = grind arith in
          decimal_step n l (omega (arith, h)) ∙ ap (λ (d : List ℕ). d ++ (48 + n % 10) ∷ []) (decimal_digit (n / 10) (omega (arith, h)))
    ] in
    f (nat_lt n 10) refl

pair_read : (most n : ℕ) → n ≤ most → n < 100 → part_of most (pair n) ≡ Some n
unfolding part_of
pair_read most n h k =
    let a : 0 * 10 + n / 10 ≡ n / 10 = omega arith in
    let b : n / 10 * 10 + n % 10 ≡ n = omega arith in
    let test : nat_le n most ≡ true = grind arith in
    ap (λ (o : Option ℕ). number_up_to most (with_decimal_digit o (48 + n % 10))) (digit_more 0 (n / 10) (omega (arith, k)) (omega (arith, k)) ∙ ap Some a)
    ∙ ap (number_up_to most) (digit_more (n / 10) (n % 10) (omega arith) (omega (arith, k)) ∙ ap Some b)
    ∙ ap (λ (v : Bool). if v then Some n else None) test

abbrev clock_text : ℕ → ℕ → ℕ → List ℕ
clock_text h m s = pair h ++ 58 ∷ (pair m ++ 58 ∷ pair s)

clock_read : (h m s : ℕ) → h ≤ 23 → m ≤ 59 → s ≤ 59 → time_of 23 (clock_text h m s) ≡ Some (Second (h * 3600 + m * 60 + s))
unfolding time_of minute_of
clock_read h m s a b c =
    ap (λ (o : Option ℕ). second_of_minute (minute_of_hours o (pair m)) (pair s)) (pair_read 23 h a (omega (arith, a)))
    ∙ (ap (λ (o : Option ℕ). second_of_minute (minute_from h o) (pair s)) (pair_read 59 m b (omega (arith, b)))
    ∙ ap (second_from (h * 3600 + m * 60)) (pair_read 59 s c (omega (arith, c))))

-- a byte of a time
abbrev IsTimeByte : ℕ → Type 0
IsTimeByte b = IsWordByte b × (nat_eq 45 b ≡ false)

time_digit : (n : ℕ) → n < 10 → IsTimeByte (48 + n)
time_digit n h = (digit_byte (48 + n) (omega arith, omega (arith, h)), grind arith)

pair_bytes : (n : ℕ) (rest : List ℕ) → n < 100 → AllByRecursion IsTimeByte rest → AllByRecursion IsTimeByte (pair n ++ rest)
pair_bytes n rest h r = (time_digit (n / 10) (omega (arith, h)), (time_digit (n % 10) (omega arith), r))

record TimeWritten (s : ℕ) (text : List ℕ) : Type 0 where
  bytes : AllByRecursion IsTimeByte text
  some : 0 < length text
  says : time_of 23 text ≡ Some (Second s)

time_written : (s : ℕ) → s < 86400 → TimeWritten s (time_text s)
time_written s l =
    let h : ℕ = s / 3600 in
    let m : ℕ = s / 60 % 60 in
    let t : ℕ = s % 60 in
    let a : h ≤ 23 = omega (arith, l) in
    let b : m ≤ 59 = omega arith in
    let c : t ≤ 59 = omega arith in
    let sum : h * 3600 + m * 60 + t ≡ s = omega arith in
    let text : time_text s ≡ clock_text h m t =
    ap (λ (p : List ℕ). p ++ 58 ∷ (two_decimal_digits m ++ 58 ∷ two_decimal_digits t)) (pair_written h (omega (arith, a)))
    ∙ (ap (λ (p : List ℕ). pair h ++ 58 ∷ (p ++ 58 ∷ two_decimal_digits t)) (pair_written m (omega (arith, b)))
    ∙ ap (λ (p : List ℕ). pair h ++ 58 ∷ (pair m ++ 58 ∷ p)) (pair_written t (omega (arith, c)))) in
    subst (TimeWritten s) (sym text) (record {
      bytes = pair_bytes h (58 ∷ (pair m ++ 58 ∷ pair t)) (omega (arith, a)) ((refl, refl), pair_bytes m (58 ∷ pair t) (omega (arith, b)) ((refl, refl), pair_bytes t [] (omega (arith, c)) tt));
      some = omega arith;
      says = clock_read h m t a b c ∙ ap (λ (n : ℕ). Some (Second n)) sum;
    })

-- ---- spans that are written

dash_place : (front rest : List ℕ) → AllByRecursion IsTimeByte front → prefix_len (λ b. not (nat_eq 45 b)) (front ++ 45 ∷ rest) ≡ length front
dash_place [] rest h = refl
dash_place (b ∷ front) rest h =
    let e : 1 + length front ≡ suc (length front) = omega arith in
    ap (λ (v : Bool). cond (not v) (1 + prefix_len (λ b. not (nat_eq 45 b)) (front ++ 45 ∷ rest)) 0) h.0.1
    ∙ ap (λ (n : ℕ). 1 + n) (dash_place front rest h.1) ∙ e

dashed : (front rest : List ℕ) → AllByRecursion IsTimeByte front → position (nat_eq 45) (front ++ 45 ∷ rest) ≡ Some (length front)
dashed front rest h =
    let n : ℕ = length (front ++ 45 ∷ rest) in
    let long : n ≡ length front + suc (length rest) = length-append front (45 ∷ rest) in
    let test : nat_lt (length front) n ≡ true = grind (arith, long) in
    ap (λ (p : ℕ). cond (nat_lt p n) (Some p) None) (dash_place front rest h) ∙ ap (λ (v : Bool). cond v (Some (length front)) None) test

behind_dash : (front rest : List ℕ) → drop (length front + 1) (front ++ 45 ∷ rest) ≡ rest
behind_dash front rest = let e : length front + 1 ≡ suc (length front) = omega arith in ap (λ (n : ℕ). drop n (front ++ 45 ∷ rest)) e ∙ by front
  where
    by : (front : List ℕ) → drop (suc (length front)) (front ++ 45 ∷ rest) ≡ rest
    by [] = refl
    by (b ∷ front) = by front

span_written : (begin end : ℕ) (front back : List ℕ) → TimeWritten begin front → TimeWritten end back → span_of (front ++ 45 ∷ back) ≡ Some (record { begin = begin; end = end })
unfolding span_of
span_written begin end front back a b =
    ap (λ (o : Option ℕ). span_by_dash o (front ++ 45 ∷ back)) (dashed front back a.bytes)
    ∙ (ap (λ (l : List ℕ). span_of_begin (time_of 23 l) (drop (length front + 1) (front ++ 45 ∷ back))) (take-append_seam front (45 ∷ back))
    ∙ (ap (λ (l : List ℕ). span_of_begin (time_of 23 front) l) (behind_dash front back)
    ∙ (ap (λ (o : Option Clock). span_of_begin o back) a.says
    ∙ ap (span_from (Second begin)) b.says)))

time_words : (text : List ℕ) → AllByRecursion IsTimeByte text → AllByRecursion IsWordByte text
time_words [] h = tt
time_words (b ∷ text) h = (h.0.0, time_words text h.1)

pub span_word : (text : List ℕ) (span : DaySpan) → span_of text ≡ Some span → WordFor span_of (time_text span.begin ++ 45 ∷ time_text span.end) span
span_word text span h =
    let f : SpanFits span = span_fits text span h in
    let a : TimeWritten span.begin (time_text span.begin) = time_written span.begin f.begin in
    let b : TimeWritten span.end (time_text span.end) = time_written span.end f.end in
    record {
      word = word_of_bytes (time_text span.begin ++ 45 ∷ time_text span.end) (omega (arith, length-append (time_text span.begin) (45 ∷ time_text span.end))) (all-append IsWordByte (time_text span.begin) (45 ∷ time_text span.end) (time_words (time_text span.begin) a.bytes) (refl, time_words (time_text span.end) b.bytes));
      says = span_written span.begin span.end (time_text span.begin) (time_text span.end) a b;
    }
