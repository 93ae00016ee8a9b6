-- Refusals by their numbers.
use Rattle.std.proofs.Common.{◌≡◌, ℕ, zero, suc, ◌+◌, ◌/◌, ◌%◌, ◌<◌, ◌≤◌, ◌^◌, true, false, nat_eq, List, [], ◌∷◌, ◌++◌, refl, sym, ap, subst, ◌∙◌, append_assoc, arith}
use Rattle.std.specs.Prelude.{decimal, codes}
use Rattle.std.proofs.lemmas.Fmt.{decimal_digit, decimal_step}
use Rattle.ug_types.specs.Access.{section_word, privilege_word}
use Rattle.ug_types.specs.declared.access.Section.{Section}
use Rattle.ug_types.specs.declared.access.Section.TheVariants.{Devices}
use Rattle.ug_types.specs.declared.access.Privilege.{Privilege}
use Rattle.ug_types.specs.declared.access.Privilege.TheVariants.{Modify}
use Rattle.ug_types.specs.declared.refusal.Refusal.{Refusal}
use Rattle.ug_types.specs.declared.refusal.Refusal.TheVariants as refusal
use Rattle.ug_types.specs.Refusals.{refusal_words, IsRefusal}
use Rattle.ug_proto.specs.declared.scan.Stop.{Stop}
use Rattle.ug_proto.specs.RefusalParts.{number_then, IsNumberIn, named_number, named_numbers, IsPairIn, denial_text, Anything, stands_number, refusal_number, refusal_rest, refusal_line, HasRefusalNumber}
use Rattle.ug_proto.specs.Scanning.{IsTextThen, IsStop}
use Rattle.ug_proto.proofs.RefusalScans.{one_number}
use Rattle.ug_proto.proofs.Scans.{begins_with, goes_on}

-- what stops at a part stops at the rest of a refusal of that number
abbrev pub StopsAt : {X : Type 0} → (X → List ℕ) → (X → Type 0) → ℕ → Type 0
StopsAt part Has_part n = (bytes : List ℕ) (s : Stop) → IsStop part Has_part bytes s → IsStop refusal_rest (HasRefusalNumber n) bytes s

arm : {X : Type 0} (part : X → List ℕ) (Has_part : X → Type 0) (n : ℕ) (what : X → Refusal)
    → ((x : X) → Has_part x → HasRefusalNumber n (what x)) → ((x : X) → Has_part x → refusal_rest (what x) ≡ part x)
    → ((r : Refusal) → HasRefusalNumber n r → (x : X) × Has_part x × (what x ≡ r))
    → StopsAt part Has_part n
arm {X} part Has_part n what f g only bytes s h =
    goes_on refusal_rest (HasRefusalNumber n) part Has_part bytes [] bytes s refl
    (λ r more rest c e. let k = only r c in (k.0, k.1, ap refusal_rest (sym k.2) ∙ g k.0 k.1))
    (λ x k. (what x, f x k, g x k)) h

abbrev most : ℕ
most = 18446744073709551615

up_to : (n : ℕ) → n < 2 ^ 64 → IsNumberIn 0 most n
up_to n h = (omega arith, omega (arith, h))

below : (n : ℕ) → IsNumberIn 0 most n → n < 2 ^ 64
below n h = omega (arith, h.1)

-- refusals with one number
with_number : (name : List ℕ) (n : ℕ) (what : ℕ → Refusal) → ((x : ℕ) → x < 2 ^ 64 → HasRefusalNumber n (what x)) → ((x : ℕ) → refusal_rest (what x) ≡ named_number name x)
    → ((r : Refusal) → HasRefusalNumber n r → (x : ℕ) × (x < 2 ^ 64) × (what x ≡ r)) → StopsAt (named_number name) (IsNumberIn 0 most) n
with_number name n what f g only =
    arm (named_number name) (IsNumberIn 0 most) n what (λ x k. f x (below x k)) (λ x k. g x) (λ r h. let k = only r h in (k.0, up_to k.0 k.1, k.2))

-- refusals without numbers
alone : (word : List ℕ) (n : ℕ) (what : Refusal) → HasRefusalNumber n what → refusal_rest what ≡ word → ((r : Refusal) → HasRefusalNumber n r → what ≡ r)
    → StopsAt {X = Unit {0}} (λ _. word) (λ _. Unit {0}) n
alone word n what f g only = arm {X = Unit {0}} (λ _. word) (λ _. Unit {0}) n (λ _. what) (λ x k. f) (λ x k. g) (λ r h. (tt, tt, only r h))

pub bad_request : StopsAt (named_number (codes "bad-request ")) (IsNumberIn 0 most) 1
unfolding refusal_rest
bad_request = with_number (codes "bad-request ") 1 refusal.BadRequest (λ x k. (k, refl)) (λ x. refl) only
  where
    only : (r : Refusal) → HasRefusalNumber 1 r → (x : ℕ) × (x < 2 ^ 64) × (refusal.BadRequest x ≡ r)
    only (refusal.BadRequest x) h = (x, h.0, refl)
    only r h = absurd (omega (arith, h.1))

pub denied : StopsAt denial_text Anything 2
unfolding refusal_rest
denied = arm {X = Section × Privilege} denial_text Anything 2 (λ x. refusal.Denied x.0 x.1) (λ x k. (tt, refl)) (λ x k. refl) only
  where
    only : (r : Refusal) → HasRefusalNumber 2 r → (x : Section × Privilege) × Unit {0} × (refusal.Denied x.0 x.1 ≡ r)
    only (refusal.Denied section privilege) h = ((section, privilege), tt, refl)
    only r h = absurd (omega (arith, h.1))

pub bad_rule : StopsAt (named_numbers (codes "bad-rule ")) (IsPairIn 255) 3
unfolding refusal_rest
bad_rule = arm {X = ℕ × ℕ} (named_numbers (codes "bad-rule ")) (IsPairIn 255) 3 (λ x. refusal.BadRule x.0 x.1) (λ x k. ((omega (arith, k.0.1), below x.1 k.1), refl)) (λ x k. refl) only
  where
    only : (r : Refusal) → HasRefusalNumber 3 r → (x : ℕ × ℕ) × IsPairIn 255 x × (refusal.BadRule x.0 x.1 ≡ r)
    only (refusal.BadRule a b) h = ((a, b), ((omega arith, omega (arith, h.0.0)), up_to b h.0.1), refl)
    only r h = absurd (omega (arith, h.1))

pub no_device : StopsAt (named_number (codes "no-device ")) (IsNumberIn 0 most) 4
unfolding refusal_rest
no_device = with_number (codes "no-device ") 4 refusal.NoDevice (λ x k. (k, refl)) (λ x. refl) only
  where
    only : (r : Refusal) → HasRefusalNumber 4 r → (x : ℕ) × (x < 2 ^ 64) × (refusal.NoDevice x ≡ r)
    only (refusal.NoDevice x) h = (x, h.0, refl)
    only r h = absurd (omega (arith, h.1))

pub no_rule : StopsAt (named_number (codes "no-rule ")) (IsNumberIn 0 most) 5
unfolding refusal_rest
no_rule = with_number (codes "no-rule ") 5 refusal.NoRule (λ x k. (k, refl)) (λ x. refl) only
  where
    only : (r : Refusal) → HasRefusalNumber 5 r → (x : ℕ) × (x < 2 ^ 64) × (refusal.NoRule x ≡ r)
    only (refusal.NoRule x) h = (x, h.0, refl)
    only r h = absurd (omega (arith, h.1))

pub bad_parameter : StopsAt {X = Unit {0}} (λ _. codes "bad-parameter\n") (λ _. Unit {0}) 6
unfolding refusal_rest
bad_parameter = alone (codes "bad-parameter\n") 6 refusal.BadParameter (tt, refl) refl only
  where
    only : (r : Refusal) → HasRefusalNumber 6 r → refusal.BadParameter ≡ r
    only refusal.BadParameter h = refl
    only r h = absurd (omega (arith, h.1))

pub bad_value : StopsAt {X = Unit {0}} (λ _. codes "bad-value\n") (λ _. Unit {0}) 7
unfolding refusal_rest
bad_value = alone (codes "bad-value\n") 7 refusal.BadValue (tt, refl) refl only
  where
    only : (r : Refusal) → HasRefusalNumber 7 r → refusal.BadValue ≡ r
    only refusal.BadValue h = refl
    only r h = absurd (omega (arith, h.1))

pub malformed_device : StopsAt (named_number (codes "malformed-device ")) (IsNumberIn 0 most) 8
unfolding refusal_rest
malformed_device = with_number (codes "malformed-device ") 8 refusal.MalformedDevice (λ x k. (k, refl)) (λ x. refl) only
  where
    only : (r : Refusal) → HasRefusalNumber 8 r → (x : ℕ) × (x < 2 ^ 64) × (refusal.MalformedDevice x ≡ r)
    only (refusal.MalformedDevice x) h = (x, h.0, refl)
    only r h = absurd (omega (arith, h.1))

pub rules_full : StopsAt {X = Unit {0}} (λ _. codes "rules-full\n") (λ _. Unit {0}) 9
unfolding refusal_rest
rules_full = alone (codes "rules-full\n") 9 refusal.RulesFull (tt, refl) refl only
  where
    only : (r : Refusal) → HasRefusalNumber 9 r → refusal.RulesFull ≡ r
    only refusal.RulesFull h = refl
    only r h = absurd (omega (arith, h.1))

pub store_fault : StopsAt (named_number (codes "store-fault ")) (IsNumberIn 0 most) 10
unfolding refusal_rest
store_fault = with_number (codes "store-fault ") 10 refusal.StoreFault (λ x k. (k, refl)) (λ x. refl) only
  where
    only : (r : Refusal) → HasRefusalNumber 10 r → (x : ℕ) × (x < 2 ^ 64) × (refusal.StoreFault x ≡ r)
    only (refusal.StoreFault x) h = (x, h.0, refl)
    only r h = absurd (omega (arith, h.1))

pub device_fault : StopsAt (named_numbers (codes "device-fault ")) (IsPairIn most) 11
unfolding refusal_rest
device_fault = arm {X = ℕ × ℕ} (named_numbers (codes "device-fault ")) (IsPairIn most) 11 (λ x. refusal.DeviceFault x.0 x.1) (λ x k. ((below x.0 k.0, below x.1 k.1), refl)) (λ x k. refl) only
  where
    only : (r : Refusal) → HasRefusalNumber 11 r → (x : ℕ × ℕ) × IsPairIn most x × (refusal.DeviceFault x.0 x.1 ≡ r)
    only (refusal.DeviceFault a b) h = ((a, b), (up_to a h.0.0, up_to b h.0.1), refl)
    only r h = absurd (omega (arith, h.1))

pub stands : (n : ℕ) → IsNumberIn 0 1 n → stands_number (nat_eq n 1) ≡ n
stands zero h = refl
stands (suc zero) h = refl
stands (suc (suc n)) h = absurd (omega (arith, h.1))

pub memory : StopsAt (named_number (codes "memory ")) (IsNumberIn 0 1) 12
unfolding refusal_rest
memory = arm (named_number (codes "memory ")) (IsNumberIn 0 1) 12 (λ x. refusal.Memory (nat_eq x 1)) (λ x k. (tt, refl)) (λ x k. ap (named_number (codes "memory ")) (stands x k)) only
  where
    only : (r : Refusal) → HasRefusalNumber 12 r → (x : ℕ) × IsNumberIn 0 1 x × (refusal.Memory (nat_eq x 1) ≡ r)
    only (refusal.Memory false) h = (0, (omega arith, omega arith), refl)
    only (refusal.Memory true) h = (1, (omega arith, omega arith), refl)
    only r h = absurd (omega (arith, h.1))

pub probe_fault : StopsAt (named_number (codes "probe-fault ")) (IsNumberIn 0 most) 13
unfolding refusal_rest
probe_fault = with_number (codes "probe-fault ") 13 refusal.ProbeFault (λ x k. (k, refl)) (λ x. refl) only
  where
    only : (r : Refusal) → HasRefusalNumber 13 r → (x : ℕ) × (x < 2 ^ 64) × (refusal.ProbeFault x ≡ r)
    only (refusal.ProbeFault x) h = (x, h.0, refl)
    only r h = absurd (omega (arith, h.1))

pub folder_rule : StopsAt (named_number (codes "folder-rule ")) (IsNumberIn 0 most) 14
unfolding refusal_rest
folder_rule = with_number (codes "folder-rule ") 14 refusal.FolderRule (λ x k. (k, refl)) (λ x. refl) only
  where
    only : (r : Refusal) → HasRefusalNumber 14 r → (x : ℕ) × (x < 2 ^ 64) × (refusal.FolderRule x ≡ r)
    only (refusal.FolderRule x) h = (x, h.0, refl)
    only r h = absurd (omega (arith, h.1))

pub at_number : (n m : ℕ) (bytes : List ℕ) (s : Stop) → n ≡ m → IsStop refusal_rest (HasRefusalNumber m) bytes s → IsStop refusal_rest (HasRefusalNumber n) bytes s
at_number n m bytes s e h = subst (λ (k : ℕ). IsStop refusal_rest (HasRefusalNumber k) bytes s) (sym e) h

two_digits : (n : ℕ) → 10 ≤ n → n < 100 → decimal n ≡ (48 + n / 10) ∷ (48 + n % 10) ∷ []
two_digits n l h = decimal_step n l (omega (arith, h)) ∙ ap (λ (ds : List ℕ). ds ++ (48 + n % 10) ∷ []) (decimal_digit (n / 10) (omega (arith, h)))

-- behind `refused `
abbrev pub refusal_behind : Refusal → List ℕ
refusal_behind r = number_then 32 (refusal_number r) ++ refusal_rest r

numbered_text : (words : List ℕ) (n : ℕ) (digits rest : List ℕ) → decimal n ≡ digits → words ≡ codes "refused " ++ ((digits ++ 32 ∷ []) ++ rest) → words ≡ codes "refused " ++ (number_then 32 n ++ rest)
numbered_text words n digits rest d e = e ∙ ap (λ (l : List ℕ). codes "refused " ++ ((l ++ 32 ∷ []) ++ rest)) (sym d)

two : (front : List ℕ) (x y : ℕ) → (front ++ (decimal x ++ 32 ∷ decimal y)) ++ 10 ∷ [] ≡ front ++ (number_then 32 x ++ number_then 10 y)
two front x y = append_assoc front (decimal x ++ 32 ∷ decimal y) (10 ∷ []) ∙ ap (λ (l : List ℕ). front ++ l) (append_assoc (decimal x) (32 ∷ decimal y) (10 ∷ []) ∙ sym (append_assoc (decimal x) (32 ∷ []) (decimal y ++ 10 ∷ [])))

pub line_parts : (r : Refusal) → refusal_line r ≡ codes "refused " ++ refusal_behind r
unfolding refusal_words refusal_rest
line_parts (refusal.BadRequest x) = numbered_text _ 1 (codes "1") _ (decimal_digit 1 (omega arith)) (append_assoc (codes "refused 1 bad-request ") (decimal x) (10 ∷ []))
line_parts (refusal.Denied x y) = numbered_text _ 2 (codes "2") _ (decimal_digit 2 (omega arith)) (append_assoc (codes "refused 2 denied ") (section_word x ++ 32 ∷ privilege_word y) (10 ∷ []) ∙ ap (λ (l : List ℕ). codes "refused 2 denied " ++ l) (append_assoc (section_word x) (32 ∷ privilege_word y) (10 ∷ []) ∙ sym (append_assoc (section_word x) (32 ∷ []) (privilege_word y ++ 10 ∷ []))))
line_parts (refusal.BadRule x y) = numbered_text _ 3 (codes "3") _ (decimal_digit 3 (omega arith)) (two (codes "refused 3 bad-rule ") x y)
line_parts (refusal.NoDevice x) = numbered_text _ 4 (codes "4") _ (decimal_digit 4 (omega arith)) (append_assoc (codes "refused 4 no-device ") (decimal x) (10 ∷ []))
line_parts (refusal.NoRule x) = numbered_text _ 5 (codes "5") _ (decimal_digit 5 (omega arith)) (append_assoc (codes "refused 5 no-rule ") (decimal x) (10 ∷ []))
line_parts refusal.BadParameter = numbered_text _ 6 (codes "6") _ (decimal_digit 6 (omega arith)) (refl)
line_parts refusal.BadValue = numbered_text _ 7 (codes "7") _ (decimal_digit 7 (omega arith)) (refl)
line_parts (refusal.MalformedDevice x) = numbered_text _ 8 (codes "8") _ (decimal_digit 8 (omega arith)) (append_assoc (codes "refused 8 malformed-device ") (decimal x) (10 ∷ []))
line_parts refusal.RulesFull = numbered_text _ 9 (codes "9") _ (decimal_digit 9 (omega arith)) (refl)
line_parts (refusal.StoreFault x) = numbered_text _ 10 (codes "10") _ (two_digits 10 (omega arith) (omega arith)) (append_assoc (codes "refused 10 store-fault ") (decimal x) (10 ∷ []))
line_parts (refusal.DeviceFault x y) = numbered_text _ 11 (codes "11") _ (two_digits 11 (omega arith) (omega arith)) (two (codes "refused 11 device-fault ") x y)
line_parts (refusal.Memory false) = numbered_text _ 12 (codes "12") _ (two_digits 12 (omega arith) (omega arith)) (ap (λ (d : List ℕ). codes "refused 12 memory " ++ (d ++ 10 ∷ [])) (sym (decimal_digit 0 (omega arith))))
line_parts (refusal.Memory true) = numbered_text _ 12 (codes "12") _ (two_digits 12 (omega arith) (omega arith)) (ap (λ (d : List ℕ). codes "refused 12 memory " ++ (d ++ 10 ∷ [])) (sym (decimal_digit 1 (omega arith))))
line_parts (refusal.ProbeFault x) = numbered_text _ 13 (codes "13") _ (two_digits 13 (omega arith) (omega arith)) (append_assoc (codes "refused 13 probe-fault ") (decimal x) (10 ∷ []))
line_parts (refusal.FolderRule x) = numbered_text _ 14 (codes "14") _ (two_digits 14 (omega arith) (omega arith)) (append_assoc (codes "refused 14 folder-rule ") (decimal x) (10 ∷ []))

-- there is a refusal of each number
pub of_number : (n : ℕ) → IsNumberIn 1 14 n → (r : Refusal) × IsRefusal r × (refusal_number r ≡ n)
of_number zero h = absurd (omega (arith, h.0))
of_number (suc zero) h = (refusal.BadRequest 0, omega arith, omega arith)
of_number (suc (suc zero)) h = (refusal.Denied Devices Modify, tt, omega arith)
of_number (suc (suc (suc zero))) h = (refusal.BadRule 0 0, (omega arith, omega arith), omega arith)
of_number (suc (suc (suc (suc zero)))) h = (refusal.NoDevice 0, omega arith, omega arith)
of_number (suc (suc (suc (suc (suc zero))))) h = (refusal.NoRule 0, omega arith, omega arith)
of_number (suc (suc (suc (suc (suc (suc zero)))))) h = (refusal.BadParameter, tt, omega arith)
of_number (suc (suc (suc (suc (suc (suc (suc zero))))))) h = (refusal.BadValue, tt, omega arith)
of_number (suc (suc (suc (suc (suc (suc (suc (suc zero)))))))) h = (refusal.MalformedDevice 0, omega arith, omega arith)
of_number (suc (suc (suc (suc (suc (suc (suc (suc (suc zero))))))))) h = (refusal.RulesFull, tt, omega arith)
of_number (suc (suc (suc (suc (suc (suc (suc (suc (suc (suc zero)))))))))) h = (refusal.StoreFault 0, omega arith, omega arith)
of_number (suc (suc (suc (suc (suc (suc (suc (suc (suc (suc (suc zero))))))))))) h = (refusal.DeviceFault 0 0, (omega arith, omega arith), omega arith)
of_number (suc (suc (suc (suc (suc (suc (suc (suc (suc (suc (suc (suc zero)))))))))))) h = (refusal.Memory false, tt, omega arith)
of_number (suc (suc (suc (suc (suc (suc (suc (suc (suc (suc (suc (suc (suc zero))))))))))))) h = (refusal.ProbeFault 0, omega arith, omega arith)
of_number (suc (suc (suc (suc (suc (suc (suc (suc (suc (suc (suc (suc (suc (suc zero)))))))))))))) h = (refusal.FolderRule 0, omega arith, omega arith)
of_number (suc (suc (suc (suc (suc (suc (suc (suc (suc (suc (suc (suc (suc (suc (suc n))))))))))))))) h = absurd (omega (arith, h.1))

numbers : (r : Refusal) → IsNumberIn 1 14 (refusal_number r)
numbers (refusal.BadRequest x) = (omega arith, omega arith)
numbers (refusal.Denied x y) = (omega arith, omega arith)
numbers (refusal.BadRule x y) = (omega arith, omega arith)
numbers (refusal.NoDevice x) = (omega arith, omega arith)
numbers (refusal.NoRule x) = (omega arith, omega arith)
numbers refusal.BadParameter = (omega arith, omega arith)
numbers refusal.BadValue = (omega arith, omega arith)
numbers (refusal.MalformedDevice x) = (omega arith, omega arith)
numbers refusal.RulesFull = (omega arith, omega arith)
numbers (refusal.StoreFault x) = (omega arith, omega arith)
numbers (refusal.DeviceFault x y) = (omega arith, omega arith)
numbers (refusal.Memory x) = (omega arith, omega arith)
numbers (refusal.ProbeFault x) = (omega arith, omega arith)
numbers (refusal.FolderRule x) = (omega arith, omega arith)

pub number_stops : (bytes : List ℕ) (s : Stop) → IsStop (number_then 32) (IsNumberIn 1 14) bytes s → IsStop refusal_behind IsRefusal bytes s
number_stops bytes s h =
    begins_with refusal_behind IsRefusal (number_then 32) (IsNumberIn 1 14) bytes s
    (λ r c. (refusal_number r, numbers r, refusal_rest r, refl))
    (λ n k. let r = of_number n k in (r.0, r.1, refusal_rest r.0, ap (λ (m : ℕ). number_then 32 m ++ refusal_rest r.0) r.2)) h

pub rest_stops : (n : ℕ) (bytes behind : List ℕ) (s : Stop) → IsNumberIn 1 14 n → bytes ≡ number_then 32 n ++ behind → IsStop refusal_rest (HasRefusalNumber n) behind s → IsStop refusal_behind IsRefusal bytes s
rest_stops n bytes behind s k w h =
    goes_on refusal_behind IsRefusal refusal_rest (HasRefusalNumber n) bytes (number_then 32 n) behind s w
    (λ r more rest c e.
    let u = numbers r in
    let same : n ≡ refusal_number r = one_number 32 14 (omega arith) (omega arith) n (refusal_number r) more (refusal_rest r ++ rest) (omega arith, k.1) (omega arith, u.1) (e ∙ append_assoc (number_then 32 (refusal_number r)) (refusal_rest r) rest) in
    (r, (c, sym same), ap (λ (m : ℕ). number_then 32 m ++ refusal_rest r) (sym same)))
    (λ r c. (r, c.0, ap (λ (m : ℕ). number_then 32 m ++ refusal_rest r) c.1)) h

pub line_stops : (bytes behind : List ℕ) (s : Stop) → bytes ≡ codes "refused " ++ behind → IsStop refusal_behind IsRefusal behind s → IsStop refusal_line IsRefusal bytes s
line_stops bytes behind s w h =
    goes_on refusal_line IsRefusal refusal_behind IsRefusal bytes (codes "refused ") behind s w (λ r more rest c e. (r, c, line_parts r)) (λ r c. (r, c, line_parts r)) h

pub word_stops : (bytes : List ℕ) (s : Stop) → IsStop {X = Unit {0}} (λ _. codes "refused ") (λ _. Unit {0}) bytes s → IsStop refusal_line IsRefusal bytes s
word_stops bytes s h =
    begins_with refusal_line IsRefusal (λ _. codes "refused ") (λ _. Unit {0}) bytes s (λ r c. (tt, tt, refusal_behind r, line_parts r)) (λ u c. (refusal.BadParameter, tt, refusal_behind refusal.BadParameter, line_parts refusal.BadParameter)) h

pub line_taken : (bytes a b rest : List ℕ) (n : ℕ) (r : Refusal) → bytes ≡ codes "refused " ++ a → a ≡ number_then 32 n ++ b → IsTextThen refusal_rest (HasRefusalNumber n) b r rest → IsTextThen refusal_line IsRefusal bytes r rest
line_taken bytes a b rest n r e f h = (
  h.0.0,
  e ∙ ap (λ (l : List ℕ). codes "refused " ++ l) (f ∙ ap (λ (m : ℕ). number_then 32 m ++ b) (sym h.0.1) ∙ ap (λ (l : List ℕ). number_then 32 (refusal_number r) ++ l) h.1 ∙ sym (append_assoc (number_then 32 (refusal_number r)) (refusal_rest r) rest))
      ∙ sym (append_assoc (codes "refused ") (refusal_behind r) rest)
      ∙ ap (λ (l : List ℕ). l ++ rest) (sym (line_parts r)),
)
