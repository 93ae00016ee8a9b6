-- Parts of texts, one behind another.
use Rattle.std.proofs.Common.{◌≡◌, ◌≢◌, ℕ, zero, suc, ◌+◌, ◌-◌, ◌<◌, ◌≤◌, ◌^◌, ◌⊎◌, inl, inr, true, false, nat_eq, eq-eqb, drop-cons, List, [], ◌∷◌, ◌++◌, length, length-append, take, drop, get_or, refl, sym, ap, subst, ◌∙◌, append_assoc, arith}
use Rattle.std.specs.Prelude.{decimal, Some, None}
use Rattle.std.proofs.lemmas.Fmt.{digits_value-decimal, first_decimal, decimal-digits_value}
use Rattle.std.proofs.lemmas.Bool.{false≢true}
use Rattle.std.proofs.lemmas.Bool.Decides.{nat_tests}
use Rattle.std.proofs.lemmas.List.{append-nil, take_all, take_more, take-append-drop}
use Rattle.std.specs.Cmp.Lexicographic.{pointwise, same_text}
use Rattle.ug_types.proofs.Known.{to_end}
use Rattle.std.proofs.lemmas.Str.Parse.{numerals_by_value, tells_digits, digit_from_value, digits_value-take-le}
use Rattle.std.proofs.Math.Seq.{take-append_seam}
use Rattle.std.specs.Str.Parse.{AllDigits, digits_value}
use Rattle.ug_types.specs.Elements.{Has}
use Rattle.ug_proto.specs.declared.scan.Stop.{Stop}
use Rattle.ug_proto.specs.declared.scan.Stop.TheVariants as stop
use Rattle.ug_lines.specs.Numbers.{number_in}
use Rattle.std.proofs.lemmas.Option.{none-some, same_Some}
use Rattle.ug_proto.specs.RefusalParts.{number_then, IsNumberIn}
use Rattle.ug_proto.specs.Scanning.{IsTextBegun, NeverBecomes, IsStop}
use Rattle.ug_lines.proofs.Numerals.{text_itself, is_number}
use Rattle.ug_proto.proofs.Numerals.{decimal_digits, zero_text}

-- texts that go on behind their first such byte
pub cut : (e : ℕ) (a b x y : List ℕ) → ¬ Has a e → ¬ Has b e → a ++ e ∷ x ≡ b ++ e ∷ y → (a ≡ b) × (x ≡ y)
cut e [] [] x y h k q = let rest : x ≡ y = cc in (refl, rest)
cut e [] (c ∷ b) x y h k q = let first : c ≡ e = cc in absurd (k (inl first))
cut e (c ∷ a) [] x y h k q = let first : c ≡ e = cc in absurd (h (inl first))
cut e (c ∷ a) (d ∷ b) x y h k q =
    let first : c ≡ d = cc in
    let rest : a ++ e ∷ x ≡ b ++ e ∷ y = cc in
    let r = cut e a b x y (λ m. h (inr m)) (λ m. k (inr m)) rest in
    (λ i. first i ∷ r.0 i, r.1)

-- bytes without it stand before it
pub front_of : (e : ℕ) (a b x y : List ℕ) → ¬ Has a e → a ++ x ≡ b ++ e ∷ y → (more : List ℕ) × (a ++ more ≡ b)
front_of e [] b x y h q = (b, refl)
front_of e (c ∷ a) [] x y h q = let first : c ≡ e = cc in absurd (h (inl first))
front_of e (c ∷ a) (d ∷ b) x y h q =
    let first : c ≡ d = cc in
    let rest : a ++ x ≡ b ++ e ∷ y = cc in
    let r = front_of e a b x y (λ m. h (inr m)) rest in
    (r.0, λ i. first i ∷ r.1 i)

same_rest : (a x y : List ℕ) → a ++ x ≡ a ++ y → x ≡ y
same_rest [] x y e = e
same_rest (c ∷ a) x y e = let rest : a ++ x ≡ a ++ y = cc in same_rest a x y rest

-- a text of one kind begins with a text of another, and each of those begins one
pub begins_with : {X Y : Type 0} (text : X → List ℕ) (Can : X → Type 0) (part : Y → List ℕ) (Has_part : Y → Type 0) (bytes : List ℕ) (s : Stop)
    → ((x : X) → Can x → (y : Y) × Has_part y × (more : List ℕ) × (text x ≡ part y ++ more))
    → ((y : Y) → Has_part y → (x : X) × Can x × (more : List ℕ) × (text x ≡ part y ++ more))
    → IsStop part Has_part bytes s → IsStop text Can bytes s
begins_with {X} {Y} text Can part Has_part bytes stop.Short f g h =
    let r = g h.it h.can in record {
      it = r.0;
      can = r.1;
      more = h.more ++ r.2;
      some = longer h.more r.2 h.some;
      whole = sym (append_assoc bytes h.more r.2) ∙ ap (λ (l : List ℕ). l ++ r.2) h.whole ∙ sym r.3;
    }
  where
    longer : (a b : List ℕ) → a ≢ [] → a ++ b ≢ []
    longer [] b n e = n refl
    longer (c ∷ a) b n e = let none : ⊥ = cc in none
begins_with {X} {Y} text Can part Has_part bytes stop.Bad f g h = λ x more rest c e.
    let r = f x c in
    h r.0 more (r.2 ++ rest) r.1 (e ∙ ap (λ (l : List ℕ). l ++ rest) r.3 ∙ append_assoc (part r.0) r.2 rest)
begins_with {X} {Y} text Can part Has_part bytes stop.Memory f g h = tt

-- behind a front, a text of one kind goes on as a text of another
pub goes_on : {X Y : Type 0} (text : X → List ℕ) (Can : X → Type 0) (part : Y → List ℕ) (Has_part : Y → Type 0) (bytes front behind : List ℕ) (s : Stop) → bytes ≡ front ++ behind
    → ((x : X) (more rest : List ℕ) → Can x → front ++ more ≡ text x ++ rest → (y : Y) × Has_part y × (text x ≡ front ++ part y))
    → ((y : Y) → Has_part y → (x : X) × Can x × (text x ≡ front ++ part y))
    → IsStop part Has_part behind s → IsStop text Can bytes s
goes_on {X} {Y} text Can part Has_part bytes front behind stop.Short w f g h =
    let r = g h.it h.can in record {
      it = r.0;
      can = r.1;
      more = h.more;
      some = h.some;
      whole = ap (λ (l : List ℕ). l ++ h.more) w ∙ append_assoc front behind h.more ∙ ap (λ (l : List ℕ). front ++ l) h.whole ∙ sym r.2;
    }
goes_on {X} {Y} text Can part Has_part bytes front behind stop.Bad w f g h = λ x more rest c e.
    let whole : front ++ (behind ++ more) ≡ text x ++ rest = sym (append_assoc front behind more) ∙ ap (λ (l : List ℕ). l ++ more) (sym w) ∙ e in
    let r = f x (behind ++ more) rest c whole in
    h r.0 more rest r.1 (same_rest front (behind ++ more) (part r.0 ++ rest) (whole ∙ ap (λ (l : List ℕ). l ++ rest) r.2 ∙ append_assoc front (part r.0) rest))
goes_on {X} {Y} text Can part Has_part bytes front behind stop.Memory w f g h = tt

-- the front of digits is digits
front_digits : (a b : List ℕ) → AllDigits 10 (a ++ b) → AllDigits 10 a
front_digits [] b h = tt
front_digits (c ∷ a) b h = (h.0, front_digits a b h.1)

first_of_front : (a b : List ℕ) → a ≢ [] → get_or (a ++ b) 0 0 ≡ get_or a 0 0
first_of_front [] b n = absurd (n refl)
first_of_front (c ∷ a) b n = refl

some_bytes : (a : List ℕ) → a ≢ [] → 0 < length a
some_bytes [] n = absurd (n refl)
some_bytes (c ∷ a) n = omega arith

-- the front of a number's text is the text of a number
pub record IsFrontOf (a : List ℕ) (n : ℕ) : Type 0 where
  pub number : ℕ
  pub is : a ≡ decimal number
  pub below : number ≤ n
  pub above : 0 < n → 0 < number

front_number : (a b : List ℕ) (n : ℕ) → n < 2 ^ 64 → a ≢ [] → a ++ b ≡ decimal n → IsFrontOf a n
front_number a b zero l s e =
    let one : a ++ b ≡ 48 ∷ [] = e ∙ zero_text in
    let whole : length a + length b ≡ 1 = sym (length-append a b) ∙ ap length one in
    let none : length b ≡ 0 = (let k = some_bytes a s in omega (arith, whole, k)) in
    record { number = 0; is = sym (ap (λ (l : List ℕ). a ++ l) (nothing b none) ∙ append-nil a) ∙ e; below = omega arith; above = λ h. h }
  where
    nothing : (b : List ℕ) → length b ≡ 0 → b ≡ []
    nothing [] h = refl
    nothing (c ∷ b) h = absurd (omega (arith, h))
front_number a b (suc n) l s e =
    let digits : AllDigits 10 (a ++ b) = subst (AllDigits 10) (sym e) (decimal_digits (suc n) l) in
    let own = numerals_by_value (AllDigits 10) tells_digits in
    let first : 48 < get_or a 0 0 = subst (λ (c : ℕ). 48 < c) (sym (sym (first_of_front a b s) ∙ ap (λ (l : List ℕ). get_or l 0 0) e)) (first_decimal (suc n) (omega arith) l) in
    let front : digits_value 10 (take (length a) (a ++ b)) ≤ digits_value 10 (a ++ b) = digits_value-take-le 10 (a ++ b) (length a) (omega arith) in
    let value : digits_value 10 (a ++ b) ≡ suc n = ap (digits_value 10) e ∙ digits_value-decimal own (suc n) l in
    let same : digits_value 10 (take (length a) (a ++ b)) ≡ digits_value 10 a = ap (digits_value 10) (take-append_seam a b) in
    let below : digits_value 10 a ≤ suc n = omega (arith, front, value, same) in
    let is : decimal (digits_value 10 a) ≡ a = decimal-digits_value own a (front_digits a b digits) (some_bytes a s) (λ z. absurd (omega (arith, z, first))) (omega (arith, below, l)) in
    record { number = digits_value 10 a; is = sym is; below = below; above = λ h. above (digits_value 10 a) is }
  where
    above : (m : ℕ) → decimal m ≡ a → 0 < m
    above zero f =
        let zero_first : get_or a 0 0 ≡ 48 = ap (λ (l : List ℕ). get_or l 0 0) (sym f ∙ zero_text) in
        let first : 48 < get_or a 0 0 = subst (λ (c : ℕ). 48 < c) (sym (sym (first_of_front a b s) ∙ ap (λ (l : List ℕ). get_or l 0 0) e)) (first_decimal (suc n) (omega arith) l) in
        absurd (omega (arith, zero_first, first))
    above (suc m) f = omega arith

digits_have_no : (e : ℕ) → e < 48 → (ds : List ℕ) → AllDigits 10 ds → ¬ Has ds e
digits_have_no e l [] d h = h
digits_have_no e l (c ∷ ds) d (inl q) = let k = digit_from_value c d.0 in omega (arith, k, q, l)
digits_have_no e l (c ∷ ds) d (inr h) = digits_have_no e l ds d.1 h

pub number_has_no : (e n : ℕ) → e < 48 → n < 2 ^ 64 → ¬ Has (decimal n) e
number_has_no e n l h = digits_have_no e l (decimal n) (decimal_digits n h)

-- a word before the end, and it is no number
pub no_number_then : (least most e : ℕ) (bytes word rest : List ℕ) → e < 48 → most < 2 ^ 64 → bytes ≡ word ++ e ∷ rest → ¬ Has word e
    → ((n : ℕ) → IsNumberIn least most n → word ≡ decimal n → ⊥) → NeverBecomes (number_then e) (IsNumberIn least most) bytes
no_number_then least most e bytes word rest l m w h none n more behind can q =
    let at : word ++ e ∷ (rest ++ more) ≡ decimal n ++ e ∷ behind =
    sym (append_assoc word (e ∷ rest) more) ∙ ap (λ (l : List ℕ). l ++ more) (sym w) ∙ q ∙ append_assoc (decimal n) (e ∷ []) behind in
    none n can (cut e word (decimal n) (rest ++ more) behind h (number_has_no e n l (omega (arith, can.1, m))) at).0

-- no end yet, and no number begins so
pub no_number_begun : (least most e : ℕ) (bytes : List ℕ) → least ≤ 1 → most < 2 ^ 64 → ¬ Has bytes e → bytes ≢ []
    → ((n : ℕ) → IsNumberIn least most n → bytes ≡ decimal n → ⊥) → NeverBecomes (number_then e) (IsNumberIn least most) bytes
no_number_begun least most e bytes l m h s none n more behind can q =
    let at : bytes ++ more ≡ decimal n ++ e ∷ behind = q ∙ append_assoc (decimal n) (e ∷ []) behind in
    let f = front_of e bytes (decimal n) more behind h at in
    let r = front_number bytes f.0 n (omega (arith, can.1, m)) s f.1 in
    none r.number (low r.number r.above can.0, omega (arith, r.below, can.1)) r.is
  where
    low : (k : ℕ) → (0 < n → 0 < k) → least ≤ n → least ≤ k
    low zero p q = by n p q
      where
        by : (n : ℕ) → (0 < n → 0 < 0) → least ≤ n → least ≤ 0
        by zero p q = q
        by (suc n) p q = absurd (omega (arith, p (omega arith)))
    low (suc k) p q = omega (arith, l)

-- one of two texts that go on to one is in front of the other
in_front : (a b x y : List ℕ) → a ++ x ≡ b ++ y → (pointwise nat_eq a (take (length a) b) ≡ true) ⊎ (pointwise nat_eq b (take (length b) a) ≡ true)
in_front [] b x y e = inl refl
in_front (c ∷ a) [] x y e = inr refl
in_front (c ∷ a) (d ∷ b) x y e =
    let first : c ≡ d = cc in
    let rest : a ++ x ≡ b ++ y = cc in
    elim (in_front a b x y rest) as (λ _. (pointwise nat_eq (c ∷ a) (take (length (c ∷ a)) (d ∷ b)) ≡ true) ⊎ (pointwise nat_eq (d ∷ b) (take (length (d ∷ b)) (c ∷ a)) ≡ true)) [
      | inl h ↦ inl (rw (eq-eqb c d first) h)
      | inr h ↦ inr (rw (eq-eqb d c (sym first)) h)
    ]

-- a word in front of a text
pub word_then : (text word : List ℕ) → pointwise nat_eq word (take (length word) text) ≡ true → text ≡ word ++ drop (length word) text
word_then text word h = sym (take-append-drop (length word) text) ∙ ap (λ (l : List ℕ). l ++ drop (length word) text) (sym (same_text word (take (length word) text) (sym h)))

pub word_begun : (text word : List ℕ) → pointwise nat_eq word (take (length word) text) ≡ false → pointwise nat_eq text (take (length text) word) ≡ true → IsTextBegun {X = Unit {0}} (λ _. word) (λ _. Unit {0}) text
word_begun text word f h =
    let whole : word ≡ text ++ drop (length text) word = word_then word text h in
    record {
      it = tt;
      can = tt;
      more = drop (length text) word;
      some = λ e.
          let same : word ≡ text = whole ∙ ap (λ (l : List ℕ). text ++ l) e ∙ append-nil text in
          let one : pointwise nat_eq word (take (length word) text) ≡ true = subst (λ (w : List ℕ). pointwise nat_eq w (take (length w) text) ≡ true) (sym same) (ap (pointwise nat_eq text) (take_all (length text) text (omega arith)) ∙ text_itself text) in
          false≢true (sym f ∙ one);
      whole = sym whole;
    }

pub word_never : (text word : List ℕ) → pointwise nat_eq word (take (length word) text) ≡ false → pointwise nat_eq text (take (length text) word) ≡ false → NeverBecomes {X = Unit {0}} (λ _. word) (λ _. Unit {0}) text
word_never text word f g u more rest v e = elim (in_front text word more rest e) as (λ _. ⊥) [ inl h ↦ false≢true (sym g ∙ h) | inr h ↦ false≢true (sym f ∙ h) ]

-- bytes up to a place, where none of them is the end
pub none_before : (xs : List ℕ) (i e : ℕ) → i < length xs → ¬ Has (take i xs) e → ¬ (get_or xs i 0 ≡ e) → ¬ Has (take (i + 1) xs) e
none_before xs i e l h n = subst (λ (t : List ℕ). ¬ Has t e) (sym (take_more xs i 0 l)) (neither (take i xs) (get_or xs i 0) h n)
  where
    neither : (t : List ℕ) (x : ℕ) → ¬ Has t e → ¬ (x ≡ e) → ¬ Has (t ++ x ∷ []) e
    neither [] x h n (inl q) = n q
    neither [] x h n (inr q) = q
    neither (c ∷ t) x h n (inl q) = h (inl q)
    neither (c ∷ t) x h n (inr q) = neither t x (λ m. h (inr m)) n q

pub end_here : (xs : List ℕ) (i e : ℕ) → i < length xs → get_or xs i 0 ≡ e → xs ≡ take i xs ++ e ∷ take (length xs - (i + 1)) (drop (i + 1) xs)
end_here xs i e l h =
    let here : drop i xs ≡ get_or xs i 0 ∷ drop (suc i) xs = drop-cons xs i 0 l in
    let one : suc i ≡ i + 1 = omega arith in
    sym (take-append-drop i xs) ∙ ap (λ (t : List ℕ). take i xs ++ t) (here ∙ ap (λ (x : ℕ). x ∷ drop (suc i) xs) h ∙ ap (λ (n : ℕ). e ∷ drop n xs) one ∙ ap (λ (t : List ℕ). e ∷ t) (sym (to_end (i + 1) xs)))

-- a word that is one number is no other
pub other_number : (least most : ℕ) (word : List ℕ) (m : ℕ) → most < 2 ^ 64 → number_in word ≡ Some m → ¬ IsNumberIn least most m → (n : ℕ) → IsNumberIn least most n → word ≡ decimal n → ⊥
other_number least most word m l e h n can is =
    let same : m ≡ n = same_Some m n (sym e ∙ is_number word n (omega (arith, can.1, l)) is) in
    h (subst (IsNumberIn least most) (sym same) can)

pub not_number : (least most : ℕ) (word : List ℕ) → most < 2 ^ 64 → number_in word ≡ None → (n : ℕ) → IsNumberIn least most n → word ≡ decimal n → ⊥
not_number least most word l e n can is = none-some n (sym e ∙ is_number word n (omega (arith, can.1, l)) is)

-- digits whose end is to come
pub number_begun : (least most e n : ℕ) (bytes : List ℕ) → IsNumberIn least most n → bytes ≡ decimal n → IsTextBegun (number_then e) (IsNumberIn least most) bytes
number_begun least most e n bytes can is = record { it = n; can = can; more = e ∷ []; some = λ q. (let none : ⊥ = cc in none); whole = ap (λ (l : List ℕ). l ++ e ∷ []) is }

pub nothing_begun : (least most e : ℕ) (bytes : List ℕ) → least ≤ most → bytes ≡ [] → IsTextBegun (number_then e) (IsNumberIn least most) bytes
nothing_begun least most e bytes l is = record { it = most; can = (l, omega arith); more = number_then e most; some = some (decimal most); whole = ap (λ (t : List ℕ). t ++ number_then e most) is }
  where
    some : (ds : List ℕ) → ds ++ e ∷ [] ≢ []
    some [] q = let none : ⊥ = cc in none
    some (d ∷ ds) q = let none : ⊥ = cc in none

pub no_bytes : (bytes : List ℕ) → nat_eq (length bytes) 0 ≡ true → bytes ≡ []
no_bytes [] e = refl
no_bytes (b ∷ bytes) e = let none : ⊥ = positive (length bytes) e in absurd none
  where
    positive : (n : ℕ) → nat_eq (suc n) 0 ≡ true → ⊥
    positive n e = grind (arith, nat_tests)

pub some_bytes_by : (bytes : List ℕ) → nat_eq (length bytes) 0 ≡ false → bytes ≢ []
some_bytes_by [] e q = false≢true (sym e)
some_bytes_by (b ∷ bytes) e q = let none : ⊥ = cc in none
