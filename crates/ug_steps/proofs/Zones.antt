-- Offsets are read from their hours and minutes.
use Rattle.std.proofs.Common.{◌≡◌, ℕ, ◌+◌, ◌-◌, ◌*◌, ◌≤◌, Bool, true, false, ◌&&◌, cond, nat_eq, nat_le, List, [], ◌∷◌, ◌++◌, length, Option, Some, None, refl, sym, ap, ◌∙◌, arith}
use Rattle.std.specs.Prelude.{ℤ, pos, neg_ℤ, codes}
use Rattle.std.proofs.lemmas.Bool.{and_parts, leb-true, le-leb}
use Rattle.std.proofs.lemmas.Bool.Decides.{nat_tests}
use Rattle.std.proofs.lemmas.Option.{none-some, same_Some}
use Rattle.ug_steps.specs.LineGrammar.{IsTwoDigits, IsZone, sign_word, with_sign}
use Rattle.ug_steps.specs.Words.{is_digit, offset_of, signed_by, two_digits, with_hours, with_minutes}

-- ---- two digits

pub two_so : (a b n : ℕ) → two_digits a b ≡ Some n → IsTwoDigits n (a ∷ b ∷ [])
two_so a b n h = by (is_digit a && is_digit b) refl h
  where
    by : (v : Bool) → (is_digit a && is_digit b) ≡ v → cond v (Some ((a - 48) * 10 + (b - 48))) None ≡ Some n → IsTwoDigits n (a ∷ b ∷ [])
    by true e k =
        let p = and_parts (is_digit a) (is_digit b) e in
        let q = and_parts (nat_le 48 a) (nat_le a 57) p.0 in
        let r = and_parts (nat_le 48 b) (nat_le b 57) p.1 in
        let low_a : 48 ≤ a = leb-true 48 a q.0 in
        let high_a : a ≤ 57 = leb-true a 57 q.1 in
        let low_b : 48 ≤ b = leb-true 48 b r.0 in
        let high_b : b ≤ 57 = leb-true b 57 r.1 in
        let first : a ≡ 48 + (a - 48) = omega (arith, low_a) in
        let second : b ≡ 48 + (b - 48) = omega (arith, low_b) in
        record {
          high = a - 48;
          low = b - 48;
          high_digit = omega (arith, high_a);
          low_digit = omega (arith, high_b);
          is = ap (λ (c : ℕ). c ∷ b ∷ []) first ∙ ap (λ (c : ℕ). (48 + (a - 48)) ∷ c ∷ []) second;
          says = sym (same_Some ((a - 48) * 10 + (b - 48)) n k);
        }
    by false e k = absurd (none-some n k)

digit_is : (d : ℕ) → d ≤ 9 → is_digit (48 + d) ≡ true
digit_is d h = rw (le-leb 48 (48 + d) (omega arith)) (le-leb (48 + d) 57 (omega (arith, h)))

so_two : (n : ℕ) (text : List ℕ) (t : IsTwoDigits n text) → two_digits (48 + t.high) (48 + t.low) ≡ Some n
so_two n text t =
    let number : (48 + t.high - 48) * 10 + (48 + t.low - 48) ≡ n = omega (arith, t.says) in
    ap (λ (v : Bool). cond (v && is_digit (48 + t.low)) (Some ((48 + t.high - 48) * 10 + (48 + t.low - 48))) None) (digit_is t.high t.high_digit)
    ∙ ap (λ (v : Bool). cond v (Some ((48 + t.high - 48) * 10 + (48 + t.low - 48))) None) (digit_is t.low t.low_digit)
    ∙ ap Some number

-- ---- signs

abbrev sign_byte : Bool → ℕ
sign_byte true = 43
sign_byte false = 45

signed_so : (sign seconds : ℕ) (offset : ℤ) → signed_by sign seconds ≡ Some offset → (ahead : Bool) × (sign ≡ sign_byte ahead) × (offset ≡ with_sign ahead seconds)
signed_so sign seconds offset h = by (nat_eq sign 43) (nat_eq sign 45) refl refl h
  where
    by : (u v : Bool) → nat_eq sign 43 ≡ u → nat_eq sign 45 ≡ v → cond u (Some (pos seconds)) (cond v (Some (neg_ℤ (pos seconds))) None) ≡ Some offset → (ahead : Bool) × (sign ≡ sign_byte ahead) × (offset ≡ with_sign ahead seconds)
    by true v e f k = (true, (let same : sign ≡ 43 = grind (arith, nat_tests) in same), sym (same_Some (pos seconds) offset k))
    by false true e f k = (false, (let same : sign ≡ 45 = grind (arith, nat_tests) in same), sym (same_Some (neg_ℤ (pos seconds)) offset k))
    by false false e f k = absurd (none-some offset k)

so_signed : (ahead : Bool) (seconds : ℕ) → signed_by (sign_byte ahead) seconds ≡ Some (with_sign ahead seconds)
so_signed true seconds = refl
so_signed false seconds = refl

-- ---- offsets

record IsOffset (text : List ℕ) (offset : ℤ) : Type 0 where
  ahead : Bool
  hours : ℕ
  minutes : ℕ
  hour_digits : List ℕ
  minute_digits : List ℕ
  is : text ≡ sign_byte ahead ∷ (hour_digits ++ 58 ∷ minute_digits)
  hours_are : IsTwoDigits hours hour_digits
  minutes_are : IsTwoDigits minutes minute_digits
  few_hours : hours ≤ 23
  few_minutes : minutes ≤ 59
  says : offset ≡ with_sign ahead (hours * 3600 + minutes * 60)

six_so : (sign a b colon c d : ℕ) (offset : ℤ) → colon ≡ 58 → with_hours sign (two_digits a b) (two_digits c d) ≡ Some offset → IsOffset (sign ∷ a ∷ b ∷ colon ∷ c ∷ d ∷ []) offset
six_so sign a b colon c d offset colon_is h = by (two_digits a b) (two_digits c d) refl refl h
  where
    by_tests : (hours minutes : ℕ) (v : Bool) → two_digits a b ≡ Some hours → two_digits c d ≡ Some minutes → (nat_le hours 23 && nat_le minutes 59) ≡ v → cond v (signed_by sign (hours * 3600 + minutes * 60)) None ≡ Some offset → IsOffset (sign ∷ a ∷ b ∷ colon ∷ c ∷ d ∷ []) offset
    by_tests hours minutes true e f t k =
        let p = and_parts (nat_le hours 23) (nat_le minutes 59) t in
        let s = signed_so sign (hours * 3600 + minutes * 60) offset k in
        record {
          ahead = s.0;
          hours = hours;
          minutes = minutes;
          hour_digits = a ∷ b ∷ [];
          minute_digits = c ∷ d ∷ [];
          is = ap (λ (x : ℕ). x ∷ a ∷ b ∷ colon ∷ c ∷ d ∷ []) s.1 ∙ ap (λ (x : ℕ). sign_byte s.0 ∷ a ∷ b ∷ x ∷ c ∷ d ∷ []) colon_is;
          hours_are = two_so a b hours e;
          minutes_are = two_so c d minutes f;
          few_hours = leb-true hours 23 p.0;
          few_minutes = leb-true minutes 59 p.1;
          says = s.2;
        }
    by_tests hours minutes false e f t k = absurd (none-some offset k)

    by : (o p : Option ℕ) → two_digits a b ≡ o → two_digits c d ≡ p → with_hours sign o p ≡ Some offset → IsOffset (sign ∷ a ∷ b ∷ colon ∷ c ∷ d ∷ []) offset
    by None p e f k = absurd (none-some offset k)
    by (Some hours) None e f k = absurd (none-some offset k)
    by (Some hours) (Some minutes) e f k = by_tests hours minutes (nat_le hours 23 && nat_le minutes 59) e f refl k

offset_so : (text : List ℕ) (offset : ℤ) → offset_of text ≡ Some offset → IsOffset text offset
unfolding offset_of
offset_so [] offset h = absurd (none-some offset h)
offset_so (s ∷ []) offset h = absurd (none-some offset h)
offset_so (s ∷ a ∷ []) offset h = absurd (none-some offset h)
offset_so (s ∷ a ∷ b ∷ []) offset h = absurd (none-some offset h)
offset_so (s ∷ a ∷ b ∷ x ∷ []) offset h = absurd (none-some offset h)
offset_so (s ∷ a ∷ b ∷ x ∷ c ∷ []) offset h = absurd (none-some offset h)
offset_so (s ∷ a ∷ b ∷ x ∷ c ∷ d ∷ []) offset h = by (nat_eq x 58) refl h
  where
    by : (v : Bool) → nat_eq x 58 ≡ v → cond v (with_hours s (two_digits a b) (two_digits c d)) None ≡ Some offset → IsOffset (s ∷ a ∷ b ∷ x ∷ c ∷ d ∷ []) offset
    by true e k = six_so s a b x c d offset (let same : x ≡ 58 = grind (arith, nat_tests) in same) k
    by false e k = absurd (none-some offset k)
offset_so (s ∷ a ∷ b ∷ x ∷ c ∷ d ∷ y ∷ text) offset h =
    let long : nat_eq (length (s ∷ a ∷ b ∷ x ∷ c ∷ d ∷ y ∷ text)) 6 ≡ false = grind (arith, nat_tests) in
    absurd (none-some offset (sym (ap (λ (v : Bool). cond (v && nat_eq x 58) (with_hours s (two_digits a b) (two_digits c d)) None) long) ∙ h))

so_offset : (text : List ℕ) (offset : ℤ) → IsOffset text offset → offset_of text ≡ Some offset
unfolding offset_of
so_offset text offset t =
    let h = t.hours_are in
    let m = t.minutes_are in
    let whole : text ≡ sign_byte t.ahead ∷ (48 + h.high) ∷ (48 + h.low) ∷ 58 ∷ (48 + m.high) ∷ (48 + m.low) ∷ [] = t.is ∙ ap (λ (l : List ℕ). sign_byte t.ahead ∷ (l ++ 58 ∷ t.minute_digits)) h.is ∙ ap (λ (l : List ℕ). sign_byte t.ahead ∷ (48 + h.high) ∷ (48 + h.low) ∷ 58 ∷ l) m.is in
    ap offset_of whole
    ∙ ap (λ (o : Option ℕ). with_hours (sign_byte t.ahead) o (two_digits (48 + m.high) (48 + m.low))) (so_two t.hours t.hour_digits h)
    ∙ ap (λ (o : Option ℕ). with_minutes (sign_byte t.ahead) t.hours o) (so_two t.minutes t.minute_digits m)
    ∙ ap (λ (v : Bool). cond (v && nat_le t.minutes 59) (signed_by (sign_byte t.ahead) (t.hours * 3600 + t.minutes * 60)) None) (le-leb t.hours 23 t.few_hours)
    ∙ ap (λ (v : Bool). cond v (signed_by (sign_byte t.ahead) (t.hours * 3600 + t.minutes * 60)) None) (le-leb t.minutes 59 t.few_minutes)
    ∙ so_signed t.ahead (t.hours * 3600 + t.minutes * 60) ∙ ap Some (sym t.says)

signed_line : (ahead : Bool) (rest : List ℕ) → sign_word ahead ++ rest ≡ codes "zone " ++ sign_byte ahead ∷ rest
signed_line true rest = refl
signed_line false rest = refl

pub zone_so : (text : List ℕ) (offset : ℤ) → offset_of text ≡ Some offset → IsZone (codes "zone " ++ text) offset
zone_so text offset h =
    let t = offset_so text offset h in
    record {
      ahead = t.ahead;
      hours = t.hours;
      minutes = t.minutes;
      hour_digits = t.hour_digits;
      minute_digits = t.minute_digits;
      is = ap (λ (l : List ℕ). codes "zone " ++ l) t.is ∙ sym (signed_line t.ahead (t.hour_digits ++ 58 ∷ t.minute_digits));
      hours_are = t.hours_are;
      minutes_are = t.minutes_are;
      few_hours = t.few_hours;
      few_minutes = t.few_minutes;
      says = t.says;
    }

pub so_zone : (line : List ℕ) (offset : ℤ) → IsZone line offset → (text : List ℕ) × (line ≡ codes "zone " ++ text) × (offset_of text ≡ Some offset)
so_zone line offset z =
    let text : List ℕ = sign_byte z.ahead ∷ (z.hour_digits ++ 58 ∷ z.minute_digits) in (
      text,
      z.is ∙ signed_line z.ahead (z.hour_digits ++ 58 ∷ z.minute_digits),
      so_offset text offset (record {
        ahead = z.ahead;
        hours = z.hours;
        minutes = z.minutes;
        hour_digits = z.hour_digits;
        minute_digits = z.minute_digits;
        is = refl;
        hours_are = z.hours_are;
        minutes_are = z.minutes_are;
        few_hours = z.few_hours;
        few_minutes = z.few_minutes;
        says = z.says;
      }),
    )
