-- What has been read is the beginning of a name, and each name is read to its end.
use Rattle.std.proofs.Common.{◌≡◌, ℕ, ◌+◌, ◌-◌, ◌*◌, ◌/◌, ◌%◌, ◌<◌, ◌≤◌, Bool, true, false, cond, List, [], ◌∷◌, ◌++◌, length, get_or, take, drop, Option, None, Some, nat_eq, nat_le, codes, refl, sym, ap, subst, ◌∙◌, arith, append_assoc, inl, inr, ◌⊎◌, ◌&&◌, true≢false}
use Rattle.std.specs.Fmt.{decimal}
use Rattle.std.specs.Option.{option_map}
use Rattle.std.proofs.lemmas.Bool.{cond-true, cond-false, and_parts, and_from, leb-true, le-leb, eqb-true, ne_eqb}
use Rattle.std.proofs.lemmas.Fmt.{decimal_digit, decimal_step, decimal_by_steps}
use Rattle.std.proofs.lemmas.List.{append-nil, take-append-drop, take_all, take_more}
use Rattle.std.proofs.lemmas.Option.{same_Some, none-some, cond_some}
use Rattle.ug_types.specs.declared.reading.Reading.{Reading}
use Rattle.ug_types.specs.declared.reading.Reading.TheVariants.{Start, U, Us, Usb, RootHub, Bus, Mark, Port}
use Rattle.ug_types.specs.NodeNames.{IsBus, IsPort, ArePorts, joined_by_dots, IsDeviceName, IsNodeName, IsPrefixOfName, StopsAt}
use Rattle.ug_types.specs.Reading.{after, ends_name, only_letter, first_digit, up_to, with_digit}

abbrev then_byte : Option Reading → ℕ → Option Reading
then_byte None b = None
then_byte (Some s) b = after s b

abbrev pub read : Option Reading → List ℕ → Option Reading
read s [] = s
read s (b ∷ bs) = read (then_byte s b) bs

read-append : (s : Option Reading) (xs ys : List ℕ) → read s (xs ++ ys) ≡ read (read s xs) ys
read-append s [] ys = refl
read-append s (x ∷ xs) ys = read-append (then_byte s x) xs ys

read-none : (xs : List ℕ) → read None xs ≡ None
read-none [] = refl
read-none (x ∷ xs) = read-none xs

-- ---- decimal numbers

decimal_more : (n d : ℕ) → 1 ≤ n → n ≤ 999 → d < 10 → decimal (n * 10 + d) ≡ decimal n ++ (48 + d) ∷ []
decimal_more n d low high small =
    let q : (n * 10 + d) / 10 ≡ n = omega arith in
    let r : (n * 10 + d) % 10 ≡ d = omega arith in
    decimal_step (n * 10 + d) (omega arith) (omega arith) ∙ ap (λ (k : ℕ). decimal k ++ (48 + (n * 10 + d) % 10) ∷ []) q ∙ ap (λ (k : ℕ). decimal n ++ (48 + k) ∷ []) r

first_digit_of : (d : ℕ) → 1 ≤ d → d < 10 → first_digit (48 + d) ≡ Some d
first_digit_of d low high =
    let t : (nat_le 49 (48 + d) && nat_le (48 + d) 57) ≡ true = and_from (nat_le 49 (48 + d)) (nat_le (48 + d) 57) (le-leb 49 (48 + d) (omega arith)) (le-leb (48 + d) 57 (omega arith)) in
    cond-true (nat_le 49 (48 + d) && nat_le (48 + d) 57) (Some (48 + d - 48)) None t ∙ ap Some (omega arith)

with_digit_of : (most n d : ℕ) → d < 10 → n * 10 + d ≤ most → with_digit most n (48 + d) ≡ Some (n * 10 + d)
with_digit_of most n d high fits =
    let t : (nat_le 48 (48 + d) && nat_le (48 + d) 57) ≡ true = and_from (nat_le 48 (48 + d)) (nat_le (48 + d) 57) (le-leb 48 (48 + d) (omega arith)) (le-leb (48 + d) 57 (omega arith)) in
    let e : 48 + d - 48 ≡ d = omega arith in
    cond-true (nat_le 48 (48 + d) && nat_le (48 + d) 57) (up_to most (n * 10 + (48 + d - 48))) None t
    ∙ ap (λ (k : ℕ). up_to most (n * 10 + k)) e
    ∙ cond-true (nat_le (n * 10 + d) most) (Some (n * 10 + d)) None (le-leb (n * 10 + d) most fits)

record IsFirstDigit (b n : ℕ) : Type 0 where
  low : 1 ≤ n
  high : n ≤ 9
  is : b ≡ 48 + n

record IsWithDigit (most n b m : ℕ) : Type 0 where
  fits : m ≤ most
  digit : ℕ
  small : digit < 10
  is : b ≡ 48 + digit
  number : m ≡ n * 10 + digit

cond_first : {A : Type 0} (b : Bool) (o : Option A) (y : A) → cond b o None ≡ Some y → (b ≡ true) × (o ≡ Some y)
cond_first true o y h = (refl, h)
cond_first false o y h = absurd (none-some y h)

cond_either : {A : Type 0} (b : Bool) (x : A) (o : Option A) (y : A) → cond b (Some x) o ≡ Some y → ((b ≡ true) × (x ≡ y)) ⊎ (o ≡ Some y)
cond_either true x o y h = inl (refl, same_Some x y h)
cond_either false x o y h = inr h

mapped : {A B : Type 0} (f : A → B) (o : Option A) (y : B) → option_map f o ≡ Some y → (x : A) × (o ≡ Some x) × (f x ≡ y)
mapped f None y h = absurd (none-some y h)
mapped f (Some x) y h = (x, refl, same_Some (f x) y h)

first_digit_is : (b n : ℕ) → first_digit b ≡ Some n → IsFirstDigit b n
first_digit_is b n h =
    let p : ((nat_le 49 b && nat_le b 57) ≡ true) × (b - 48 ≡ n) = cond_some (nat_le 49 b && nat_le b 57) (b - 48) n h in
    let q : (nat_le 49 b ≡ true) × (nat_le b 57 ≡ true) = and_parts (nat_le 49 b) (nat_le b 57) p.0 in
    let l : 49 ≤ b = leb-true 49 b q.0 in
    let r : b ≤ 57 = leb-true b 57 q.1 in
    record { low = omega (arith, p.1); high = omega (arith, p.1); is = omega (arith, p.1) }

with_digit_is : (most n b m : ℕ) → with_digit most n b ≡ Some m → IsWithDigit most n b m
with_digit_is most n b m h =
    let p : ((nat_le 48 b && nat_le b 57) ≡ true) × (up_to most (n * 10 + (b - 48)) ≡ Some m) = cond_first (nat_le 48 b && nat_le b 57) (up_to most (n * 10 + (b - 48))) m h in
    let q : (nat_le 48 b ≡ true) × (nat_le b 57 ≡ true) = and_parts (nat_le 48 b) (nat_le b 57) p.0 in
    let l : 48 ≤ b = leb-true 48 b q.0 in
    let r : b ≤ 57 = leb-true b 57 q.1 in
    let k : (nat_le (n * 10 + (b - 48)) most ≡ true) × (n * 10 + (b - 48) ≡ m) = cond_some (nat_le (n * 10 + (b - 48)) most) (n * 10 + (b - 48)) m p.1 in
    let f : n * 10 + (b - 48) ≤ most = leb-true (n * 10 + (b - 48)) most k.0 in
    record { fits = omega (arith, k.1); digit = b - 48; small = omega arith; is = omega arith; number = sym k.1 }

one_digit : (b n : ℕ) → IsFirstDigit b n → b ∷ [] ≡ decimal n
one_digit b n d = ap (λ (k : ℕ). k ∷ []) d.is ∙ sym (decimal_digit n (omega (arith, d.high)))

digit_behind : (most n b m : ℕ) → IsWithDigit most n b m → 1 ≤ n → n ≤ 999 → decimal n ++ b ∷ [] ≡ decimal m
digit_behind most n b m d low high = ap (λ (k : ℕ). decimal n ++ k ∷ []) d.is ∙ sym (decimal_more n d.digit low high d.small) ∙ ap decimal (sym d.number)

-- ---- what has been read

-- a bus number and a dash
record IsBehindBus (text : List ℕ) : Type 0 where
  bus : ℕ
  is_bus : IsBus bus
  is : text ≡ decimal bus ++ 45 ∷ []

-- a device and a dot
record IsBehindPort (text : List ℕ) : Type 0 where
  front : List ℕ
  device : IsDeviceName front
  is : text ≡ front ++ 46 ∷ []

-- what a port number makes a device of
abbrev IsStem : List ℕ → Type 0
IsStem text = IsBehindBus text ⊎ IsBehindPort text

-- a stem and the port number that stands last
record HasPort (n : ℕ) (text : List ℕ) : Type 0 where
  stem : List ℕ
  is_stem : IsStem stem
  is_port : IsPort n
  is : text ≡ stem ++ decimal n

abbrev Reached : Reading → List ℕ → Type 0
Reached Start t = t ≡ []
Reached U t = t ≡ 117 ∷ []
Reached Us t = t ≡ 117 ∷ 115 ∷ []
Reached Usb t = t ≡ 117 ∷ 115 ∷ 98 ∷ []
Reached (RootHub n) t = IsBus n × (t ≡ codes "usb" ++ decimal n)
Reached (Bus n) t = IsBus n × (t ≡ decimal n)
Reached Mark t = IsStem t
Reached (Port n) t = HasPort n t

ports_push : (ports : List ℕ) (n : ℕ) → ArePorts ports → IsPort n → ArePorts (ports ++ n ∷ [])
ports_push [] n h k = (k, tt)
ports_push (p ∷ ps) n h k = (h.0, ports_push ps n h.1 k)

pub joined_push : (p : ℕ) (ps : List ℕ) (n : ℕ) → joined_by_dots p (ps ++ n ∷ []) ≡ joined_by_dots p ps ++ 46 ∷ decimal n
joined_push p [] n = refl
joined_push p (q ∷ qs) n = ap (λ (t : List ℕ). decimal p ++ 46 ∷ t) (joined_push q qs n) ∙ sym (append_assoc (decimal p) (46 ∷ joined_by_dots q qs) (46 ∷ decimal n))

-- a port number behind a stem makes a device
stem_device : (stem : List ℕ) (n : ℕ) → IsStem stem → IsPort n → IsDeviceName (stem ++ decimal n)
stem_device stem n (inl b) k = record {
  bus = b.bus;
  port = n;
  ports = [];
  is_bus = b.is_bus;
  are_ports = (k, tt);
  is = ap (λ (t : List ℕ). t ++ decimal n) b.is ∙ append_assoc (decimal b.bus) (45 ∷ []) (decimal n);
}
stem_device stem n (inr p) k =
    let d : IsDeviceName p.front = p.device in
    let head : List ℕ = decimal d.bus ++ 45 ∷ joined_by_dots d.port d.ports in
    record {
      bus = d.bus;
      port = d.port;
      ports = d.ports ++ n ∷ [];
      is_bus = d.is_bus;
      are_ports = (d.are_ports.0, ports_push d.ports n d.are_ports.1 k);
      is = ap (λ (t : List ℕ). t ++ decimal n) (p.is ∙ ap (λ (t : List ℕ). t ++ 46 ∷ []) d.is)
          ∙ append_assoc head (46 ∷ []) (decimal n)
          ∙ append_assoc (decimal d.bus) (45 ∷ joined_by_dots d.port d.ports) (46 ∷ decimal n)
          ∙ ap (λ (t : List ℕ). decimal d.bus ++ 45 ∷ t) (sym (joined_push d.port d.ports n));
    }

device_along : (s t : List ℕ) → s ≡ t → IsDeviceName t → IsDeviceName s
device_along s t e d = record { bus = d.bus; port = d.port; ports = d.ports; is_bus = d.is_bus; are_ports = d.are_ports; is = e ∙ d.is }

port_device : (n : ℕ) (t : List ℕ) → HasPort n t → IsDeviceName t
port_device n t h = device_along t (h.stem ++ decimal n) h.is (stem_device h.stem n h.is_stem h.is_port)

push_on : (t u : List ℕ) (b : ℕ) → t ≡ u → t ++ b ∷ [] ≡ u ++ b ∷ []
push_on t u b e = ap (λ (x : List ℕ). x ++ b ∷ []) e

to_letter : (letter : ℕ) (next : Reading) (t u : List ℕ) (b : ℕ) (r : Reading) → t ≡ u → only_letter letter next b ≡ Some r → Reached next (u ++ letter ∷ []) → Reached r (t ++ b ∷ [])
to_letter letter next t u b r e h k =
    let p : (nat_eq b letter ≡ true) × (next ≡ r) = cond_some (nat_eq b letter) next r h in
    let f : u ++ letter ∷ [] ≡ t ++ b ∷ [] = sym (push_on t u b e ∙ ap (λ (c : ℕ). u ++ c ∷ []) (eqb-true b letter p.0)) in
    subst (λ (q : Reading). Reached q (t ++ b ∷ [])) p.1 (subst (Reached next) f k)

to_bus : (t : List ℕ) (b : ℕ) (r : Reading) → t ≡ [] → option_map Bus (first_digit b) ≡ Some r → Reached r (t ++ b ∷ [])
to_bus t b r e h =
    let m : (n : ℕ) × (first_digit b ≡ Some n) × (Bus n ≡ r) = mapped Bus (first_digit b) r h in
    let d : IsFirstDigit b m.0 = first_digit_is b m.0 m.1 in
    subst (λ (q : Reading). Reached q (t ++ b ∷ [])) m.2 ((d.low, omega (arith, d.high)), push_on t [] b e ∙ one_digit b m.0 d)

more_bus : (n : ℕ) (t : List ℕ) (b : ℕ) (r : Reading) → IsBus n → t ≡ decimal n → option_map Bus (with_digit 999 n b) ≡ Some r → Reached r (t ++ b ∷ [])
more_bus n t b r k e h =
    let m : (x : ℕ) × (with_digit 999 n b ≡ Some x) × (Bus x ≡ r) = mapped Bus (with_digit 999 n b) r h in
    let d : IsWithDigit 999 n b m.0 = with_digit_is 999 n b m.0 m.1 in
    subst (λ (q : Reading). Reached q (t ++ b ∷ [])) m.2 ((omega (arith, d.number, k.0), d.fits), push_on t (decimal n) b e ∙ digit_behind 999 n b m.0 d k.0 k.1)

to_dash : (n : ℕ) (t : List ℕ) (b : ℕ) → IsBus n → t ≡ decimal n → b ≡ 45 → IsStem (t ++ b ∷ [])
to_dash n t b k e f = inl (record { bus = n; is_bus = k; is = push_on t (decimal n) b e ∙ ap (λ (c : ℕ). decimal n ++ c ∷ []) f })

to_dot : (n : ℕ) (t : List ℕ) (b : ℕ) → HasPort n t → b ≡ 46 → IsStem (t ++ b ∷ [])
to_dot n t b k f = inr (record { front = t; device = port_device n t k; is = ap (λ (c : ℕ). t ++ c ∷ []) f })

more_port : (n : ℕ) (t : List ℕ) (b : ℕ) (r : Reading) → HasPort n t → option_map Port (with_digit 255 n b) ≡ Some r → Reached r (t ++ b ∷ [])
more_port n t b r k h =
    let m : (x : ℕ) × (with_digit 255 n b ≡ Some x) × (Port x ≡ r) = mapped Port (with_digit 255 n b) r h in
    let d : IsWithDigit 255 n b m.0 = with_digit_is 255 n b m.0 m.1 in
    let high : n ≤ 999 = omega (arith, k.is_port.1) in
    let next : HasPort m.0 (t ++ b ∷ []) = record {
      stem = k.stem;
      is_stem = k.is_stem;
      is_port = (omega (arith, d.number, k.is_port.0), d.fits);
      is = push_on t (k.stem ++ decimal n) b k.is ∙ append_assoc k.stem (decimal n) (b ∷ []) ∙ ap (λ (x : List ℕ). k.stem ++ x) (digit_behind 255 n b m.0 d k.is_port.0 high);
    } in
    subst (λ (q : Reading). Reached q (t ++ b ∷ [])) m.2 next

reached_after : (s : Reading) (t : List ℕ) (b : ℕ) (r : Reading) → Reached s t → after s b ≡ Some r → Reached r (t ++ b ∷ [])
reached_after Start t b r e h = elim (cond_either (nat_eq b 117) U (option_map Bus (first_digit b)) r h) [
  | inl p ↦ subst (λ (q : Reading). Reached q (t ++ b ∷ [])) p.1 (push_on t [] b e ∙ ap (λ (c : ℕ). c ∷ []) (eqb-true b 117 p.0))
  | inr p ↦ to_bus t b r e p
]
reached_after U t b r e h = to_letter 115 Us t (117 ∷ []) b r e h refl
reached_after Us t b r e h = to_letter 98 Usb t (117 ∷ 115 ∷ []) b r e h refl
reached_after Usb t b r e h =
    let m : (n : ℕ) × (first_digit b ≡ Some n) × (RootHub n ≡ r) = mapped RootHub (first_digit b) r h in
    let d : IsFirstDigit b m.0 = first_digit_is b m.0 m.1 in
    subst (λ (q : Reading). Reached q (t ++ b ∷ [])) m.2 ((d.low, omega (arith, d.high)), push_on t (codes "usb") b e ∙ ap (λ (x : List ℕ). codes "usb" ++ x) (one_digit b m.0 d))
reached_after (RootHub n) t b r e h =
    let m : (x : ℕ) × (with_digit 999 n b ≡ Some x) × (RootHub x ≡ r) = mapped RootHub (with_digit 999 n b) r h in
    let d : IsWithDigit 999 n b m.0 = with_digit_is 999 n b m.0 m.1 in
    let k : IsBus n = e.0 in
    subst (λ (q : Reading). Reached q (t ++ b ∷ [])) m.2 (
      (omega (arith, d.number, k.0), d.fits),
      push_on t (codes "usb" ++ decimal n) b e.1 ∙ append_assoc (codes "usb") (decimal n) (b ∷ []) ∙ ap (λ (x : List ℕ). codes "usb" ++ x) (digit_behind 999 n b m.0 d k.0 k.1),
    )
reached_after (Bus n) t b r e h = elim (cond_either (nat_eq b 45) Mark (option_map Bus (with_digit 999 n b)) r h) [
  | inl p ↦ subst (λ (q : Reading). Reached q (t ++ b ∷ [])) p.1 (to_dash n t b e.0 e.1 (eqb-true b 45 p.0))
  | inr p ↦ more_bus n t b r e.0 e.1 p
]
reached_after Mark t b r e h =
    let m : (n : ℕ) × (first_digit b ≡ Some n) × (Port n ≡ r) = mapped Port (first_digit b) r h in
    let d : IsFirstDigit b m.0 = first_digit_is b m.0 m.1 in
    let next : HasPort m.0 (t ++ b ∷ []) = record { stem = t; is_stem = e; is_port = (d.low, omega (arith, d.high)); is = ap (λ (x : List ℕ). t ++ x) (one_digit b m.0 d) } in
    subst (λ (q : Reading). Reached q (t ++ b ∷ [])) m.2 next
reached_after (Port n) t b r e h = elim (cond_either (nat_eq b 46) Mark (option_map Port (with_digit 255 n b)) r h) [
  | inl p ↦ subst (λ (q : Reading). Reached q (t ++ b ∷ [])) p.1 (to_dot n t b e (eqb-true b 46 p.0))
  | inr p ↦ more_port n t b r e p
]

-- a state in which reading goes on is there
begun : (o : Option Reading) (xs : List ℕ) (r : Reading) → read o xs ≡ Some r → (s : Reading) × (o ≡ Some s)
begun None xs r h = absurd (none-some r (sym (read-none xs) ∙ h))
begun (Some s) xs r h = (s, refl)

reached_read : (s : Reading) (t xs : List ℕ) (r : Reading) → Reached s t → read (Some s) xs ≡ Some r → Reached r (t ++ xs)
reached_read s t [] r e h = subst (Reached r) (sym (append-nil t)) (subst (λ (q : Reading). Reached q t) (same_Some s r h) e)
reached_read s t (x ∷ xs) r e h =
    let q : (q : Reading) × (after s x ≡ Some q) = begun (after s x) xs r h in
    let g : read (Some q.0) xs ≡ Some r = ap (λ (o : Option Reading). read o xs) (sym q.1) ∙ h in
    subst (Reached r) (append_assoc t (x ∷ []) xs) (reached_read q.0 (t ++ x ∷ []) xs r (reached_after s t x q.0 e q.1) g)

named_hub : (n : ℕ) (t : List ℕ) → IsBus n → t ≡ codes "usb" ++ decimal n → IsNodeName t
named_hub n t k e = inl (record { bus = n; is_bus = k; is = e })

first_hub : (t rest : List ℕ) → t ++ rest ≡ codes "usb" ++ decimal 1 → IsPrefixOfName t
first_hub t rest e = (rest, named_hub 1 (t ++ rest) (omega arith, omega arith) e)

whole : (t : List ℕ) → IsNodeName t → IsPrefixOfName t
whole t h = ([], subst IsNodeName (sym (append-nil t)) h)

-- some name goes on from what has been read
completed : (s : Reading) (t : List ℕ) → Reached s t → IsPrefixOfName t
completed Start t e = first_hub t (codes "usb" ++ decimal 1) (ap (λ (x : List ℕ). x ++ (codes "usb" ++ decimal 1)) e)
completed U t e = first_hub t (115 ∷ 98 ∷ decimal 1) (ap (λ (x : List ℕ). x ++ (115 ∷ 98 ∷ decimal 1)) e)
completed Us t e = first_hub t (98 ∷ decimal 1) (ap (λ (x : List ℕ). x ++ (98 ∷ decimal 1)) e)
completed Usb t e = first_hub t (decimal 1) (ap (λ (x : List ℕ). x ++ decimal 1) e)
completed (RootHub n) t e = whole t (named_hub n t e.0 e.1)
completed (Bus n) t e = (
  45 ∷ decimal 1,
  inr (record { bus = n; port = 1; ports = []; is_bus = e.0; are_ports = ((omega arith, omega arith), tt); is = ap (λ (x : List ℕ). x ++ (45 ∷ decimal 1)) e.1 }),
)
completed Mark t e = (decimal 1, inr (stem_device t 1 e (omega arith, omega arith)))
completed (Port n) t e = whole t (inr (port_device n t e))

finished : (s : Reading) (t : List ℕ) → Reached s t → ends_name s ≡ true → IsNodeName t
finished Start t e h = absurd (true≢false (sym h))
finished U t e h = absurd (true≢false (sym h))
finished Us t e h = absurd (true≢false (sym h))
finished Usb t e h = absurd (true≢false (sym h))
finished (RootHub n) t e h = named_hub n t e.0 e.1
finished (Bus n) t e h = absurd (true≢false (sym h))
finished Mark t e h = absurd (true≢false (sym h))
finished (Port n) t e h = inr (port_device n t e)

-- ---- each name is read

read_number : (from : Reading) (to : ℕ → Reading) (most : ℕ) → most ≤ 999
    → ((d : ℕ) → 1 ≤ d → d < 10 → after from (48 + d) ≡ Some (to d))
    → ((n d : ℕ) → d < 10 → n * 10 + d ≤ most → after (to n) (48 + d) ≡ Some (to (n * 10 + d)))
    → (n : ℕ) → 1 ≤ n → n ≤ most → read (Some from) (decimal n) ≡ Some (to n)
read_number from to most small first more n low high = decimal_by_steps P one next n (omega arith) low high
  where
    P : ℕ → List ℕ → Type 0
    P k ds = 1 ≤ k → k ≤ most → read (Some from) ds ≡ Some (to k)

    one : (k : ℕ) → k < 10 → P k ((48 + k) ∷ [])
    one k h = λ l g. first k l h

    next : (k : ℕ) (ds : List ℕ) → 10 ≤ k → P (k / 10) ds → P k (ds ++ (48 + k % 10) ∷ [])
    next k ds h before = λ l g.
        let whole : k / 10 * 10 + k % 10 ≡ k = omega arith in
        read-append (Some from) ds ((48 + k % 10) ∷ [])
        ∙ ap (λ (s : Option Reading). then_byte s (48 + k % 10)) (before (omega arith) (omega arith))
        ∙ more (k / 10) (k % 10) (omega arith) (omega arith)
        ∙ ap (λ (i : ℕ). Some (to i)) whole

read_hub_bus : (n : ℕ) → IsBus n → read (Some Usb) (decimal n) ≡ Some (RootHub n)
read_hub_bus n k = read_number Usb (λ i. RootHub i) 999 (omega arith)
    (λ d low high. ap (option_map RootHub) (first_digit_of d low high))
    (λ i d high fits. ap (option_map RootHub) (with_digit_of 999 i d high fits))
    n k.0 k.1

read_bus : (n : ℕ) → IsBus n → read (Some Start) (decimal n) ≡ Some (Bus n)
read_bus n k = read_number Start (λ i. Bus i) 999 (omega arith)
    (λ d low high. cond-false (nat_eq (48 + d) 117) (Some U) (option_map Bus (first_digit (48 + d))) (ne_eqb (48 + d) 117 (λ e. omega arith)) ∙ ap (option_map Bus) (first_digit_of d low high))
    (λ i d high fits. cond-false (nat_eq (48 + d) 45) (Some Mark) (option_map Bus (with_digit 999 i (48 + d))) (ne_eqb (48 + d) 45 (λ e. omega arith)) ∙ ap (option_map Bus) (with_digit_of 999 i d high fits))
    n k.0 k.1

read_port : (n : ℕ) → IsPort n → read (Some Mark) (decimal n) ≡ Some (Port n)
read_port n k = read_number Mark (λ i. Port i) 255 (omega arith)
    (λ d low high. ap (option_map Port) (first_digit_of d low high))
    (λ i d high fits. cond-false (nat_eq (48 + d) 46) (Some Mark) (option_map Port (with_digit 255 i (48 + d))) (ne_eqb (48 + d) 46 (λ e. omega arith)) ∙ ap (option_map Port) (with_digit_of 255 i d high fits))
    n k.0 k.1

read_joined : (p : ℕ) (ps : List ℕ) → ArePorts (p ∷ ps) → (l : ℕ) × (read (Some Mark) (joined_by_dots p ps) ≡ Some (Port l))
read_joined p [] h = (p, read_port p h.0)
read_joined p (q ∷ qs) h =
    let rest : (l : ℕ) × (read (Some Mark) (joined_by_dots q qs) ≡ Some (Port l)) = read_joined q qs h.1 in
    (rest.0, read-append (Some Mark) (decimal p) (46 ∷ joined_by_dots q qs) ∙ ap (λ (s : Option Reading). read s (46 ∷ joined_by_dots q qs)) (read_port p h.0) ∙ rest.1)

read_name : (t : List ℕ) → IsNodeName t → (s : Reading) × (read (Some Start) t ≡ Some s) × (ends_name s ≡ true)
read_name t (inl h) = (RootHub h.bus, ap (read (Some Start)) h.is ∙ read_hub_bus h.bus h.is_bus, refl)
read_name t (inr d) =
    let last : (l : ℕ) × (read (Some Mark) (joined_by_dots d.port d.ports) ≡ Some (Port l)) = read_joined d.port d.ports d.are_ports in
    let behind_bus : List ℕ = 45 ∷ joined_by_dots d.port d.ports in (
      Port last.0,
      ap (read (Some Start)) d.is ∙ read-append (Some Start) (decimal d.bus) behind_bus ∙ ap (λ (s : Option Reading). read s behind_bus) (read_bus d.bus d.is_bus) ∙ last.1,
      refl,
    )

-- ---- where the reading of a text stops

read_push : (s : Option Reading) (xs : List ℕ) (b : ℕ) → read s (xs ++ b ∷ []) ≡ then_byte (read s xs) b
read_push s xs b = read-append s xs (b ∷ [])

is_prefix : (t : List ℕ) (s : Reading) → read (Some Start) t ≡ Some s → IsPrefixOfName t
is_prefix t s h = completed s t (reached_read Start [] t s refl h)

is_name : (t : List ℕ) (s : Reading) → read (Some Start) t ≡ Some s → ends_name s ≡ true → IsNodeName t
is_name t s h k = finished s t (reached_read Start [] t s refl h) k

no_prefix : (t : List ℕ) → read (Some Start) t ≡ None → ¬ IsPrefixOfName t
no_prefix t h p =
    let k : (s : Reading) × (read (Some Start) (t ++ p.0) ≡ Some s) × (ends_name s ≡ true) = read_name (t ++ p.0) p.1 in
    none-some k.0 (sym (read-append (Some Start) t p.0 ∙ ap (λ (s : Option Reading). read s p.0) h ∙ read-none p.0) ∙ k.1)

no_name : (t : List ℕ) (s : Reading) → read (Some Start) t ≡ Some s → ends_name s ≡ false → ¬ IsNodeName t
no_name t s h k n =
    let m : (r : Reading) × (read (Some Start) t ≡ Some r) × (ends_name r ≡ true) = read_name t n in
    let e : m.0 ≡ s = same_Some m.0 s (sym m.1 ∙ h) in
    true≢false (sym m.2 ∙ ap ends_name e ∙ k)

pub read_more : (xs : List ℕ) (i : ℕ) (s : Reading) (o : Option Reading) → i < length xs → read (Some Start) (take i xs) ≡ Some s → after s (get_or xs i 0) ≡ o → read (Some Start) (take (i + 1) xs) ≡ o
read_more xs i s o h e f = ap (read (Some Start)) (take_more xs i 0 h) ∙ read_push (Some Start) (take i xs) (get_or xs i 0) ∙ ap (λ (q : Option Reading). then_byte q (get_or xs i 0)) e ∙ f

pub stopped : (xs : List ℕ) (i : ℕ) (s : Reading) → i < length xs → read (Some Start) (take i xs) ≡ Some s → after s (get_or xs i 0) ≡ None → (¬ IsNodeName xs) × StopsAt xs i
stopped xs i s h e f =
    let none : ¬ IsPrefixOfName (take (i + 1) xs) = no_prefix (take (i + 1) xs) (read_more xs i s None h e f) in
    let front : IsNodeName xs → IsPrefixOfName (take (i + 1) xs) = λ n. (drop (i + 1) xs, subst IsNodeName (sym (take-append-drop (i + 1) xs)) n) in
    (λ n. none (front n), (omega arith, is_prefix (take i xs) s e, λ _. none))

pub ended : (xs : List ℕ) (i : ℕ) (s : Reading) → length xs ≤ i → read (Some Start) (take i xs) ≡ Some s → ends_name s ≡ true → IsNodeName xs
ended xs i s h e k = is_name xs s (ap (read (Some Start)) (sym (take_all i xs h)) ∙ e) k

pub ended_early : (xs : List ℕ) (i : ℕ) (s : Reading) → length xs ≤ i → read (Some Start) (take i xs) ≡ Some s → ends_name s ≡ false → (¬ IsNodeName xs) × StopsAt xs (length xs)
ended_early xs i s h e k =
    let f : read (Some Start) xs ≡ Some s = ap (read (Some Start)) (sym (take_all i xs h)) ∙ e in
    let all : take (length xs) xs ≡ xs = take_all (length xs) xs (omega arith) in
    (no_name xs s f k, (omega arith, subst IsPrefixOfName (sym all) (is_prefix xs s f), λ l. absurd (omega arith)))
