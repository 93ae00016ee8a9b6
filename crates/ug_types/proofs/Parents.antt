-- Names and what stands before their marks.
use Rattle.std.proofs.Common.{◌≡◌, ℕ, ◌+◌, ◌<◌, ◌≤◌, ◌/◌, ◌%◌, Bool, true, false, cond, List, [], ◌∷◌, ◌++◌, length, get_or, take, drop, Option, None, Some, nat_eq, nat_lt, codes, refl, sym, ap, subst, ◌∙◌, arith, append_assoc, inl, inr, ◌⊎◌}
use Rattle.std.proofs.lemmas.Bool.{cond-false, ne_eqb, or_from, lt-ltb, cond-true}
use Rattle.std.proofs.lemmas.List.{take-append-drop, take_more, drop_more}
use Rattle.std.proofs.lemmas.Option.{none-some, same_Some}
use Rattle.std.proofs.lemmas.List.Sums.{sum_by-append}
use Rattle.std.proofs.lemmas.Fmt.{decimal_by_steps, length-decimal-le}
use Rattle.std.specs.Fmt.{decimal}
use Rattle.std.specs.declared.cmp.Ordering.TheVariants.{Less, Equal, Greater}
use Rattle.std.specs.declared.cmp.Ordering.{Ordering}
use Rattle.std.specs.Ordering.{nat_cmp, ordering_then}
use Rattle.std.specs.Cmp.Lexicographic.{slice_cmp}
use Rattle.std.specs.Option.{option_map, IfSome}
use Rattle.std.specs.List.{count_by}
use Rattle.ug_types.specs.NodeNames.{IsBus, IsPort, ArePorts, joined_by_dots, IsRootHub, IsDeviceName, IsNodeName}
use Rattle.ug_types.specs.Names.{is_mark, parent_of, depth_of, root_of, or_root, sweep_cmp, or_nothing, before_last_dot, with_first, before_dash}

-- the last dot stands before a text without one
dot_before : (xs ys : List ℕ) → before_last_dot ys ≡ None → before_last_dot (xs ++ 46 ∷ ys) ≡ Some xs
dot_before [] ys h = ap (or_nothing 46) h
dot_before (x ∷ xs) ys h = ap (or_nothing x) (dot_before xs ys h)

dot_added : (xs : List ℕ) (b : ℕ) → b ≡ 46 → before_last_dot (xs ++ b ∷ []) ≡ Some xs
dot_added xs b e = ap (λ (c : ℕ). before_last_dot (xs ++ c ∷ [])) e ∙ dot_before xs [] refl

no_dot_added : (xs : List ℕ) (b : ℕ) → ¬ (b ≡ 46) → before_last_dot (xs ++ b ∷ []) ≡ before_last_dot xs
no_dot_added [] b h = cond-false (nat_eq b 46) (Some []) None (ne_eqb b 46 h)
no_dot_added (x ∷ xs) b h = ap (or_nothing x) (no_dot_added xs b h)

cond_none : {A : Type 0} (t : Bool) (x : A) (o : Option A) → cond t (Some x) o ≡ None → (t ≡ false) × (o ≡ None)
cond_none true x o h = absurd (none-some x (sym h))
cond_none false x o h = (refl, h)

behind_none : (x : ℕ) (o : Option (List ℕ)) → with_first x o ≡ None → o ≡ None
behind_none x None h = refl
behind_none x (Some xs) h = absurd (none-some (x ∷ xs) (sym h))

no_dash_parts : (x : ℕ) (xs : List ℕ) → before_dash (x ∷ xs) ≡ None → (nat_eq x 45 ≡ false) × (before_dash xs ≡ None)
no_dash_parts x xs h =
    let p : (nat_eq x 45 ≡ false) × (with_first x (before_dash xs) ≡ None) = cond_none (nat_eq x 45) [] (with_first x (before_dash xs)) h in
    (p.0, behind_none x (before_dash xs) p.1)

-- the first dash stands behind a text without one
dash_behind : (xs ys : List ℕ) → before_dash xs ≡ None → before_dash (xs ++ 45 ∷ ys) ≡ Some xs
dash_behind [] ys h = refl
dash_behind (x ∷ xs) ys h =
    let p : (nat_eq x 45 ≡ false) × (before_dash xs ≡ None) = no_dash_parts x xs h in
    cond-false (nat_eq x 45) (Some []) (with_first x (before_dash (xs ++ 45 ∷ ys))) p.0 ∙ ap (with_first x) (dash_behind xs ys p.1)

no_dash_added : (xs : List ℕ) (b : ℕ) → before_dash xs ≡ None → ¬ (b ≡ 45) → before_dash (xs ++ b ∷ []) ≡ None
no_dash_added [] b h k = cond-false (nat_eq b 45) (Some []) None (ne_eqb b 45 k)
no_dash_added (x ∷ xs) b h k =
    let p : (nat_eq x 45 ≡ false) × (before_dash xs ≡ None) = no_dash_parts x xs h in
    cond-false (nat_eq x 45) (Some []) (with_first x (before_dash (xs ++ b ∷ []))) p.0 ∙ ap (with_first x) (no_dash_added xs b p.1 k)

-- the loops over a text

pub dash_found : (xs : List ℕ) (i : ℕ) → i < length xs → before_dash (take i xs) ≡ None → get_or xs i 0 ≡ 45 → Some (take i xs) ≡ before_dash xs
dash_found xs i h k e =
    let split : xs ≡ take i xs ++ 45 ∷ drop (i + 1) xs = sym (take-append-drop i xs) ∙ ap (λ (l : List ℕ). take i xs ++ l) (drop_more xs i 0 h ∙ ap (λ (b : ℕ). b ∷ drop (i + 1) xs) e) in
    sym (ap before_dash split ∙ dash_behind (take i xs) (drop (i + 1) xs) k)

pub no_dash_more : (xs : List ℕ) (i : ℕ) → i < length xs → before_dash (take i xs) ≡ None → ¬ (get_or xs i 0 ≡ 45) → before_dash (take (i + 1) xs) ≡ None
no_dash_more xs i h k n = ap before_dash (take_more xs i 0 h) ∙ no_dash_added (take i xs) (get_or xs i 0) k n

abbrev IsLastDot : List ℕ → ℕ → Option ℕ → Type 0
IsLastDot xs i last = (option_map (λ (dot : ℕ). take dot xs) last ≡ before_last_dot (take i xs)) × IfSome last (λ dot. dot ≤ length xs)

pub dot_more : (xs : List ℕ) (i : ℕ) (next : Option ℕ) → i < length xs → get_or xs i 0 ≡ 46 → next ≡ Some i → IsLastDot xs (i + 1) next
dot_more xs i next h e n =
    let at : Some (take i xs) ≡ before_last_dot (take (i + 1) xs) = sym (ap before_last_dot (take_more xs i 0 h) ∙ dot_added (take i xs) (get_or xs i 0) e) in
    let here : IsLastDot xs (i + 1) (Some i) = (at, omega arith) in
    subst (IsLastDot xs (i + 1)) (sym n) here

pub no_dot_more : (xs : List ℕ) (i : ℕ) (last next : Option ℕ) → i < length xs → ¬ (get_or xs i 0 ≡ 46) → IsLastDot xs i last → next ≡ last → IsLastDot xs (i + 1) next
no_dot_more xs i last next h k before n =
    let same : before_last_dot (take i xs) ≡ before_last_dot (take (i + 1) xs) = sym (ap before_last_dot (take_more xs i 0 h) ∙ no_dot_added (take i xs) (get_or xs i 0) k) in
    let here : IsLastDot xs (i + 1) last = (before.0 ∙ same, before.1) in
    subst (IsLastDot xs (i + 1)) (sym n) here

-- ---- the three forms of a name

no_dot_behind : (xs ys : List ℕ) → before_last_dot ys ≡ None → before_last_dot (xs ++ ys) ≡ before_last_dot xs
no_dot_behind [] ys h = h
no_dot_behind (x ∷ xs) ys h = ap (or_nothing x) (no_dot_behind xs ys h)

-- digits alone
record IsUnmarked (xs : List ℕ) : Type 0 where
  dot : before_last_dot xs ≡ None
  dash : before_dash xs ≡ None
  marks : count_by is_mark xs ≡ 0

marks-append : (xs ys : List ℕ) → count_by is_mark (xs ++ ys) ≡ count_by is_mark xs + count_by is_mark ys
marks-append xs ys = sum_by-append (λ b. cond (is_mark b) 1 0) xs ys

no_mark : (d : ℕ) → count_by is_mark ((48 + d) ∷ []) ≡ 0
no_mark d =
    let plain : is_mark (48 + d) ≡ false = or_from (nat_eq (48 + d) 45) (nat_eq (48 + d) 46) (ne_eqb (48 + d) 45 (λ e. omega arith)) (ne_eqb (48 + d) 46 (λ e. omega arith)) in
    ap (λ (t : Bool). 0 + cond t 1 0) plain

decimal_unmarked : (n : ℕ) → n ≤ 999 → IsUnmarked (decimal n)
decimal_unmarked n h = decimal_by_steps P one more n (omega arith)
  where
    P : ℕ → List ℕ → Type 0
    P k ds = IsUnmarked ds

    one : (k : ℕ) → k < 10 → P k ((48 + k) ∷ [])
    one k g = record {
      dot = no_dot_added [] (48 + k) (λ e. omega arith);
      dash = no_dash_added [] (48 + k) refl (λ e. omega arith);
      marks = no_mark k;
    }

    more : (k : ℕ) (ds : List ℕ) → 10 ≤ k → P (k / 10) ds → P k (ds ++ (48 + k % 10) ∷ [])
    more k ds g u = record {
      dot = no_dot_added ds (48 + k % 10) (λ e. omega arith) ∙ u.dot;
      dash = no_dash_added ds (48 + k % 10) u.dash (λ e. omega arith);
      marks = omega (arith, marks-append ds ((48 + k % 10) ∷ []), u.marks, no_mark (k % 10));
    }

record IsOnRootHub (t : List ℕ) : Type 0 where
  bus : ℕ
  port : ℕ
  is_bus : IsBus bus
  is_port : IsPort port
  is : t ≡ decimal bus ++ 45 ∷ decimal port

record IsOnDevice (t : List ℕ) : Type 0 where
  front : List ℕ
  port : ℕ
  device : IsDeviceName front
  is_port : IsPort port
  is : t ≡ front ++ 46 ∷ decimal port

record HasLastPort (p : ℕ) (ps : List ℕ) : Type 0 where
  ports : List ℕ
  last : ℕ
  are_ports : ArePorts (p ∷ ports)
  is_port : IsPort last
  is : joined_by_dots p ps ≡ joined_by_dots p ports ++ 46 ∷ decimal last

last_port : (p q : ℕ) (qs : List ℕ) → ArePorts (p ∷ q ∷ qs) → HasLastPort p (q ∷ qs)
last_port p q [] h = record { ports = []; last = q; are_ports = (h.0, tt); is_port = h.1.0; is = refl }
last_port p q (r ∷ rs) h =
    let l : HasLastPort q (r ∷ rs) = last_port q r rs h.1 in
    record {
      ports = q ∷ l.ports;
      last = l.last;
      are_ports = (h.0, l.are_ports);
      is_port = l.is_port;
      is = ap (λ (t : List ℕ). decimal p ++ 46 ∷ t) l.is ∙ sym (append_assoc (decimal p) (46 ∷ joined_by_dots q l.ports) (46 ∷ decimal l.last));
    }

device_by : (t : List ℕ) (bus p : ℕ) (ps : List ℕ) → IsBus bus → ArePorts (p ∷ ps) → t ≡ decimal bus ++ 45 ∷ joined_by_dots p ps → IsOnRootHub t ⊎ IsOnDevice t
device_by t bus p [] b h e = inl (record { bus = bus; port = p; is_bus = b; is_port = h.0; is = e })
device_by t bus p (q ∷ qs) b h e =
    let l : HasLastPort p (q ∷ qs) = last_port p q qs h in
    inr (record {
      front = decimal bus ++ 45 ∷ joined_by_dots p l.ports;
      port = l.last;
      device = record { bus = bus; port = p; ports = l.ports; is_bus = b; are_ports = l.are_ports; is = refl };
      is_port = l.is_port;
      is = e ∙ ap (λ (s : List ℕ). decimal bus ++ 45 ∷ s) l.is ∙ sym (append_assoc (decimal bus) (45 ∷ joined_by_dots p l.ports) (46 ∷ decimal l.last));
    })

device_form : (t : List ℕ) → IsDeviceName t → IsOnRootHub t ⊎ IsOnDevice t
device_form t d = device_by t d.bus d.port d.ports d.is_bus d.are_ports d.is

-- ---- their parents and depths

hub_unmarked : (bus : ℕ) → IsBus bus → IsUnmarked (codes "usb" ++ decimal bus)
hub_unmarked bus b =
    let u : IsUnmarked (decimal bus) = decimal_unmarked bus b.1 in
    record {
      dot = ap (λ (o : Option (List ℕ)). or_nothing 117 (or_nothing 115 (or_nothing 98 o))) u.dot;
      dash = ap (λ (o : Option (List ℕ)). with_first 117 (with_first 115 (with_first 98 o))) u.dash;
      marks = omega (arith, marks-append (codes "usb") (decimal bus), u.marks);
    }

port_unmarked : (port : ℕ) → IsPort port → IsUnmarked (decimal port)
port_unmarked port p = decimal_unmarked port (omega (arith, p.1))

no_dot_on_hub : (bus port : ℕ) → IsBus bus → IsPort port → before_last_dot (decimal bus ++ 45 ∷ decimal port) ≡ None
no_dot_on_hub bus port b p =
    let u : IsUnmarked (decimal bus) = decimal_unmarked bus b.1 in
    let v : IsUnmarked (decimal port) = port_unmarked port p in
    no_dot_behind (decimal bus) (45 ∷ decimal port) (ap (or_nothing 45) v.dot) ∙ u.dot

dash_on_hub : (bus port : ℕ) → IsBus bus → before_dash (decimal bus ++ 45 ∷ decimal port) ≡ Some (decimal bus)
dash_on_hub bus port b =
    let u : IsUnmarked (decimal bus) = decimal_unmarked bus b.1 in
    dash_behind (decimal bus) (decimal port) u.dash

dot_on_device : (front : List ℕ) (port : ℕ) → IsPort port → before_last_dot (front ++ 46 ∷ decimal port) ≡ Some front
dot_on_device front port p =
    let v : IsUnmarked (decimal port) = port_unmarked port p in
    dot_before front (decimal port) v.dot

pub parent_root : (bus : ℕ) → IsBus bus → parent_of (codes "usb" ++ decimal bus) ≡ None
unfolding parent_of
parent_root bus b =
    let u : IsUnmarked (codes "usb" ++ decimal bus) = hub_unmarked bus b in
    ap (λ (o : Option (List ℕ)). or_root o (codes "usb" ++ decimal bus)) u.dot ∙ ap root_of u.dash

pub parent_on_hub : (bus port : ℕ) → IsBus bus → IsPort port → parent_of (decimal bus ++ 45 ∷ decimal port) ≡ Some (codes "usb" ++ decimal bus)
unfolding parent_of
parent_on_hub bus port b p = ap (λ (o : Option (List ℕ)). or_root o (decimal bus ++ 45 ∷ decimal port)) (no_dot_on_hub bus port b p) ∙ ap root_of (dash_on_hub bus port b)

pub parent_on_device : (front : List ℕ) (port : ℕ) → IsPort port → parent_of (front ++ 46 ∷ decimal port) ≡ Some front
unfolding parent_of
parent_on_device front port p = ap (λ (o : Option (List ℕ)). or_root o (front ++ 46 ∷ decimal port)) (dot_on_device front port p)

depth_root : (bus : ℕ) → IsBus bus → depth_of (codes "usb" ++ decimal bus) ≡ 0
unfolding depth_of
depth_root bus b = let u : IsUnmarked (codes "usb" ++ decimal bus) = hub_unmarked bus b in u.marks

depth_on_hub : (bus port : ℕ) → IsBus bus → IsPort port → depth_of (decimal bus ++ 45 ∷ decimal port) ≡ 1
unfolding depth_of
depth_on_hub bus port b p =
    let u : IsUnmarked (decimal bus) = decimal_unmarked bus b.1 in
    let v : IsUnmarked (decimal port) = port_unmarked port p in
    omega (arith, marks-append (decimal bus) (45 ∷ decimal port), marks-append (45 ∷ []) (decimal port), u.marks, v.marks)

depth_on_device : (front : List ℕ) (port : ℕ) → IsPort port → depth_of (front ++ 46 ∷ decimal port) ≡ depth_of front + 1
unfolding depth_of
depth_on_device front port p =
    let v : IsUnmarked (decimal port) = port_unmarked port p in
    omega (arith, marks-append front (46 ∷ decimal port), marks-append (46 ∷ []) (decimal port), v.marks)

-- ---- a name and its parent

-- what is so at each of the three forms
by_form : (P : List ℕ → Type 0)
    → ((bus : ℕ) → IsBus bus → P (codes "usb" ++ decimal bus))
    → ((bus port : ℕ) → IsBus bus → IsPort port → P (decimal bus ++ 45 ∷ decimal port))
    → ((front : List ℕ) (port : ℕ) → IsDeviceName front → IsPort port → P (front ++ 46 ∷ decimal port))
    → (name : List ℕ) → IsNodeName name → P name
by_form P root hub device name (inl h) = subst P (sym h.is) (root h.bus h.is_bus)
by_form P root hub device name (inr d) = elim (device_form name d) [
  | inl h ↦ subst P (sym h.is) (hub h.bus h.port h.is_bus h.is_port)
  | inr h ↦ subst P (sym h.is) (device h.front h.port h.device h.is_port)
]

root_name : (bus : ℕ) → IsBus bus → IsNodeName (codes "usb" ++ decimal bus)
root_name bus b = inl (record { bus = bus; is_bus = b; is = refl })

record IsParent (name parent : List ℕ) : Type 0 where
  named : IsNodeName parent
  depth : depth_of name ≡ depth_of parent + 1

is_parent_by : (name real parent : List ℕ) → parent_of name ≡ Some real → parent_of name ≡ Some parent → IsParent name real → IsParent name parent
is_parent_by name real parent h k p = subst (IsParent name) (same_Some real parent (sym h ∙ k)) p

parent_is : (name : List ℕ) → IsNodeName name → (parent : List ℕ) → parent_of name ≡ Some parent → IsParent name parent
parent_is = by_form (λ name. (parent : List ℕ) → parent_of name ≡ Some parent → IsParent name parent)
    (λ bus b parent h. absurd (none-some parent (sym (parent_root bus b) ∙ h)))
    (λ bus port b p parent h. is_parent_by (decimal bus ++ 45 ∷ decimal port) (codes "usb" ++ decimal bus) parent (parent_on_hub bus port b p) h
    (record { named = root_name bus b; depth = omega (arith, depth_root bus b, depth_on_hub bus port b p) }))
    (λ front port d p parent h. is_parent_by (front ++ 46 ∷ decimal port) front parent (parent_on_device front port p) h
    (record { named = inr d; depth = depth_on_device front port p }))

pub parent_named : (name parent : List ℕ) → IsNodeName name → parent_of name ≡ Some parent → IsNodeName parent
parent_named name parent n h = let p : IsParent name parent = parent_is name n parent h in p.named

pub depth_above : (name parent : List ℕ) → IsNodeName name → parent_of name ≡ Some parent → depth_of name ≡ depth_of parent + 1
depth_above name parent n h = let p : IsParent name parent = parent_is name n parent h in p.depth

pub depth_top : (name : List ℕ) → IsNodeName name → parent_of name ≡ None → depth_of name ≡ 0
depth_top = by_form (λ name. parent_of name ≡ None → depth_of name ≡ 0)
    (λ bus b h. depth_root bus b)
    (λ bus port b p h. absurd (none-some (codes "usb" ++ decimal bus) (sym h ∙ parent_on_hub bus port b p)))
    (λ front port d p h. absurd (none-some front (sym h ∙ parent_on_device front port p)))

pub top_root_hub : (name : List ℕ) → IsNodeName name → parent_of name ≡ None → IsRootHub name
top_root_hub = by_form (λ name. parent_of name ≡ None → IsRootHub name)
    (λ bus b h. record { bus = bus; is_bus = b; is = refl })
    (λ bus port b p h. absurd (none-some (codes "usb" ++ decimal bus) (sym h ∙ parent_on_hub bus port b p)))
    (λ front port d p h. absurd (none-some front (sym h ∙ parent_on_device front port p)))

pub parent_first : (name parent : List ℕ) → IsNodeName name → parent_of name ≡ Some parent → sweep_cmp parent name ≡ Less
parent_first name parent n h =
    let less : depth_of parent < depth_of name = omega (arith, depth_above name parent n h) in
    let first : nat_cmp (depth_of parent) (depth_of name) ≡ Less = cond-true (nat_lt (depth_of parent) (depth_of name)) Less (cond (nat_eq (depth_of parent) (depth_of name)) Equal Greater) (lt-ltb (depth_of parent) (depth_of name) less) in
    ap (λ (r : Ordering). ordering_then r (slice_cmp nat_cmp parent name)) first

-- ---- the parts of a name that the search for its parent finds

pub named_before_dot : (name : List ℕ) → IsNodeName name → (front : List ℕ) → Some front ≡ before_last_dot name → IsNodeName front
named_before_dot = by_form (λ name. (front : List ℕ) → Some front ≡ before_last_dot name → IsNodeName front)
    (λ bus b front h. let u : IsUnmarked (codes "usb" ++ decimal bus) = hub_unmarked bus b in absurd (none-some front (sym u.dot ∙ sym h)))
    (λ bus port b p front h. absurd (none-some front (sym (no_dot_on_hub bus port b p) ∙ sym h)))
    (λ real port d p front h. subst IsNodeName (same_Some real front (sym (dot_on_device real port p) ∙ sym h)) (inr d))

pub record IsBusText (bus : List ℕ) : Type 0 where
  pub named : IsNodeName (codes "usb" ++ bus)
  pub short : length bus ≤ 28

bus_text : (bus : ℕ) → IsBus bus → IsBusText (decimal bus)
bus_text bus b = record { named = root_name bus b; short = omega (arith, length-decimal-le 3 bus (omega arith) (omega (arith, b.1)) (omega (arith, b.1))) }

pub bus_before_dash : (name : List ℕ) → IsNodeName name → (bus : List ℕ) → None ≡ before_last_dot name → Some bus ≡ before_dash name → IsBusText bus
bus_before_dash = by_form (λ name. (bus : List ℕ) → None ≡ before_last_dot name → Some bus ≡ before_dash name → IsBusText bus)
    (λ bus b text h k. let u : IsUnmarked (codes "usb" ++ decimal bus) = hub_unmarked bus b in absurd (none-some text (sym u.dash ∙ sym k)))
    (λ bus port b p text h k. subst IsBusText (same_Some (decimal bus) text (sym (dash_on_hub bus port b) ∙ sym k)) (bus_text bus b))
    (λ real port d p text h k. absurd (none-some real (h ∙ dot_on_device real port p)))

pub found_dot : (text now front answer : List ℕ) → text ≡ now → Some front ≡ before_last_dot text → answer ≡ front → Some answer ≡ parent_of now
unfolding parent_of
found_dot text now front answer e h a = ap Some a ∙ ap (λ (o : Option (List ℕ)). or_root o text) h ∙ ap (λ (t : List ℕ). or_root (before_last_dot t) t) e

pub found_dash : (text now bus answer : List ℕ) → text ≡ now → None ≡ before_last_dot text → Some bus ≡ before_dash text → answer ≡ codes "usb" ++ bus → Some answer ≡ parent_of now
unfolding parent_of
found_dash text now bus answer e h k a = ap Some a ∙ ap root_of k ∙ ap (λ (o : Option (List ℕ)). or_root o text) h ∙ ap (λ (t : List ℕ). or_root (before_last_dot t) t) e

pub found_none : (text now : List ℕ) → text ≡ now → None ≡ before_last_dot text → None ≡ before_dash text → None ≡ parent_of now
unfolding parent_of
found_none text now e h k = ap root_of k ∙ ap (λ (o : Option (List ℕ)). or_root o text) h ∙ ap (λ (t : List ℕ). or_root (before_last_dot t) t) e
