-- A query that is implied matches no less.
use Rattle.std.proofs.Common.{◌≡◌, ◌⊎◌, ℕ, List, [], ◌∷◌, Bool, false, ◌&&◌, length, nat_eq, IsTrue, Option, Some, None, refl, sym, ◌∙◌, ap, subst, inl, inr}
use Rattle.std.specs.Bool.{Decides}
use Rattle.std.specs.List.{zip}
use Rattle.std.specs.Cmp.Lexicographic.{bytes_decides}
use Rattle.std.proofs.lemmas.Bool.Decides.{Decides-and, Decides-eqb}
use Rattle.std.proofs.lemmas.Option.{same_Some, none-some}
use Rattle.ug_types.specs.Elements.{Has}
use Rattle.ug_types.specs.declared.record.DeviceRecord.{DeviceRecord}
use Rattle.ug_types.specs.declared.rule.Id.{Id}
use Rattle.ug_types.specs.declared.rule.Iface.{Iface}
use Rattle.ug_types.specs.declared.rule.Op.{Op}
use Rattle.ug_types.specs.declared.rule.Op.TheVariants.{AllOf, OneOf, NoneOf, Equals, EqualsOrdered}
use Rattle.ug_types.specs.declared.rule.Query.{Query}
use Rattle.ug_types.specs.declared.rule.Values.{Values}
use Rattle.ug_match.specs.declared.covers.DeviceId.{DeviceId}
use Rattle.ug_match.specs.Covers.{covers_id, covers_interface, covers_number, covers_text}
use Rattle.ug_match.specs.Operators.{holds, in_order, is_matched, IsMatched, MatchesSome}
use Rattle.ug_match.specs.Queries.{attribute, query_matches}
use Rattle.ug_match.proofs.Membership.{all_decides, any_decides, itself, all_of_decides, one_of_decides, none_of_decides, equals_decides, ordered_decides}
use Rattle.ug_lint.specs.Covers.{id_covers, interface_covers, number_covers}
use Rattle.ug_lint.specs.Implied.{covers_all, each_covered, each_covers_all, some_covers, set_implied, op_of_one, ordered_of_one, one_implied, many_implied, given_implied, query_implied}
use Rattle.ug_lint.specs.Filled.{HasItem, MayHaveItem, IsFilled}

-- ---- sets

-- a value that covers another matches whatever that one matches
abbrev pub NoLess : {X Y : Type 0} → (X → X → Bool) → (X → Y → Bool) → Type 0
NoLess {X} {Y} covers matches = (v w : X) (d : Y) → IsTrue (covers v w) → IsTrue (matches w d) → IsTrue (matches v d)

is_covered_by : {X : Type 0} (covers : X → X → Bool) (vs : List X) (w : X) → Decides (is_matched covers vs w) (IsMatched covers vs w)
is_covered_by covers vs w = any_decides (λ v. covers v w) (λ v. IsTrue (covers v w)) (λ v. itself (covers v w)) vs

pub each_covered_decides : {X : Type 0} (covers : X → X → Bool) (vs ws : List X) → Decides (each_covered covers vs ws) ((w : X) → Has ws w → IsMatched covers vs w)
each_covered_decides covers vs ws = all_decides (is_matched covers vs) (IsMatched covers vs) (is_covered_by covers vs) ws

pub covers_each_decides : {X : Type 0} (covers : X → X → Bool) (vs ws : List X) → Decides (each_covers_all covers vs ws) ((v : X) → Has vs v → (w : X) → Has ws w → IsTrue (covers v w))
covers_each_decides {X} covers vs ws = all_decides (covers_all covers ws) (λ v. (w : X) → Has ws w → IsTrue (covers v w)) (λ v. all_decides (λ w. covers v w) (λ w. IsTrue (covers v w)) (λ w. itself (covers v w)) ws) vs

-- the pairs of three lists of one length
first_in_order : {X Y : Type 0} (covers : X → X → Bool) (matches : X → Y → Bool) → NoLess covers matches
    → (vs ws : List X) (ds : List Y) → length vs ≡ length ws → length ws ≡ length ds
    → ((p : X × X) → Has (zip vs ws) p → IsTrue (covers p.0 p.1)) → ((p : X × Y) → Has (zip ws ds) p → IsTrue (matches p.0 p.1))
    → (p : X × Y) → Has (zip vs ds) p → IsTrue (matches p.0 p.1)
first_in_order covers matches less [] ws ds a b c m p h = absurd h
first_in_order covers matches less (v ∷ vs) [] ds a b c m p h = let none : ⊥ = cc in absurd none
first_in_order covers matches less (v ∷ vs) (w ∷ ws) [] a b c m p h = absurd h
first_in_order {X} {Y} covers matches less (v ∷ vs) (w ∷ ws) (d ∷ ds) a b c m p (inl e) =
    subst (λ (q : X × Y). IsTrue (matches q.0 q.1)) e (less v w d (c (v, w) (inl refl)) (m (w, d) (inl refl)))
first_in_order covers matches less (v ∷ vs) (w ∷ ws) (d ∷ ds) a b c m p (inr h) =
    let short : length vs ≡ length ws = cc in
    let long : length ws ≡ length ds = cc in
    first_in_order covers matches less vs ws ds short long (λ q t. c q (inr t)) (λ q t. m q (inr t)) p h

-- a value at each place of the second list has one at its place in the first
pair_of_left : {X Y : Type 0} (ws : List X) (ds : List Y) → length ws ≡ length ds → (w : X) → Has ws w → (d : Y) × Has (zip ws ds) (w, d) × Has ds d
pair_of_left [] ds e w h = absurd h
pair_of_left (x ∷ ws) [] e w h = let none : ⊥ = cc in absurd none
pair_of_left {X} {Y} (x ∷ ws) (d ∷ ds) e w (inl h) = (d, inl (ap (λ (v : X). (v, d)) h), inl refl)
pair_of_left (x ∷ ws) (d ∷ ds) e w (inr h) =
    let rest : length ws ≡ length ds = cc in
    let p = pair_of_left ws ds rest w h in
    (p.0, inr p.1, inr p.2)

pair_of_right : {X Y : Type 0} (ws : List X) (ds : List Y) → length ws ≡ length ds → (d : Y) → Has ds d → (w : X) × Has (zip ws ds) (w, d) × Has ws w
pair_of_right [] [] e d h = absurd h
pair_of_right [] (y ∷ ds) e d h = let none : ⊥ = cc in absurd none
pair_of_right (x ∷ ws) [] e d h = absurd h
pair_of_right {X} {Y} (x ∷ ws) (y ∷ ds) e d (inl h) = (x, inl (ap (λ (v : Y). (x, v)) h), inl refl)
pair_of_right (x ∷ ws) (y ∷ ds) e d (inr h) =
    let rest : length ws ≡ length ds = cc in
    let p = pair_of_right ws ds rest d h in
    (p.0, inr p.1, inr p.2)

-- each value matches one of the device's
abbrev Each : {X Y : Type 0} → (X → Y → Bool) → List X → List Y → Type 0
Each {X} {Y} matches ws ds = (w : X) → Has ws w → MatchesSome matches ds w

-- each of the device's values is matched
abbrev Matched : {X Y : Type 0} → (X → Y → Bool) → List X → List Y → Type 0
Matched {X} {Y} matches ws ds = (d : Y) → Has ds d → IsMatched matches ws d

-- values in order are each matched
ordered_each : {X Y : Type 0} (matches : X → Y → Bool) (ws : List X) (ds : List Y) → IsTrue (holds matches EqualsOrdered ws ds) → Each matches ws ds
ordered_each matches ws ds h w t =
    let o = (ordered_decides matches ws ds).0 h in
    let p = pair_of_left ws ds o.0 w t in
    (p.0, p.2, o.1 (w, p.0) p.1)

ordered_matched : {X Y : Type 0} (matches : X → Y → Bool) (ws : List X) (ds : List Y) → IsTrue (holds matches EqualsOrdered ws ds) → Matched matches ws ds
ordered_matched matches ws ds h d t =
    let o = (ordered_decides matches ws ds).0 h in
    let p = pair_of_right ws ds o.0 d t in
    (p.0, p.2, o.1 (p.0, d) p.1)

some_one : {X Y : Type 0} (covers : X → X → Bool) (matches : X → Y → Bool) → NoLess covers matches → (vs ws : List X) (ds : List Y) → IsTrue (some_covers covers vs ws) → Each matches ws ds → IsTrue (holds matches OneOf vs ds)
some_one covers matches less vs ws ds c each =
    let s = (one_of_decides covers vs ws).0 c in
    let t = s.2 in
    let m = each t.0 t.1 in
    (one_of_decides matches vs ds).1 (s.0, s.1, (m.0, m.1, less s.0 t.0 m.0 t.2 m.2))

each_all : {X Y : Type 0} (covers : X → X → Bool) (matches : X → Y → Bool) → NoLess covers matches → (vs ws : List X) (ds : List Y) → IsTrue (holds covers AllOf vs ws) → Each matches ws ds → Each matches vs ds
each_all covers matches less vs ws ds c each v h =
    let t = (all_of_decides covers vs ws).0 c v h in
    let m = each t.0 t.1 in
    (m.0, m.1, less v t.0 m.0 t.2 m.2)

all_matched : {X Y : Type 0} (covers : X → X → Bool) (matches : X → Y → Bool) → NoLess covers matches → (vs ws : List X) (ds : List Y) → IsTrue (each_covered covers vs ws) → Matched matches ws ds → Matched matches vs ds
all_matched covers matches less vs ws ds c matched d h =
    let m = matched d h in
    let t = (each_covered_decides covers vs ws).0 c m.0 m.1 in
    (t.0, t.1, less t.0 m.0 d t.2 m.2)

one_one : {X Y : Type 0} (covers : X → X → Bool) (matches : X → Y → Bool) → NoLess covers matches → (vs ws : List X) (ds : List Y) → IsTrue (each_covered covers vs ws) → IsTrue (holds matches OneOf ws ds) → IsTrue (holds matches OneOf vs ds)
one_one covers matches less vs ws ds c h =
    let m = (one_of_decides matches ws ds).0 h in
    let t = (each_covered_decides covers vs ws).0 c m.0 m.1 in
    (one_of_decides matches vs ds).1 (t.0, t.1, (m.2.0, m.2.1, less t.0 m.0 m.2.0 t.2 m.2.2))

one_all : {X Y : Type 0} (covers : X → X → Bool) (matches : X → Y → Bool) → NoLess covers matches → (vs ws : List X) (ds : List Y) → IsTrue (each_covers_all covers vs ws) → IsTrue (holds matches OneOf ws ds) → IsTrue (holds matches AllOf vs ds)
one_all covers matches less vs ws ds c h =
    let m = (one_of_decides matches ws ds).0 h in
    (all_of_decides matches vs ds).1 (λ v t. (m.2.0, m.2.1, less v m.0 m.2.0 ((covers_each_decides covers vs ws).0 c v t m.0 m.1) m.2.2))

none_none : {X Y : Type 0} (covers : X → X → Bool) (matches : X → Y → Bool) → NoLess covers matches → (vs ws : List X) (ds : List Y) → IsTrue (each_covered covers ws vs) → IsTrue (holds matches NoneOf ws ds) → IsTrue (holds matches NoneOf vs ds)
none_none covers matches less vs ws ds c h =
    (none_of_decides matches vs ds).1 (λ v t m.
    let w = (each_covered_decides covers ws vs).0 c v t in
    (none_of_decides matches ws ds).0 h w.0 w.1 (m.0, m.1, less w.0 v m.0 w.2 m.2))

equals_equals : {X Y : Type 0} (covers : X → X → Bool) (matches : X → Y → Bool) → NoLess covers matches → (vs ws : List X) (ds : List Y) → IsTrue (holds covers AllOf vs ws && each_covered covers vs ws) → Each matches ws ds → Matched matches ws ds → IsTrue (holds matches Equals vs ds)
equals_equals covers matches less vs ws ds c each matched =
    let both = (Decides-and (holds covers AllOf vs ws) (each_covered covers vs ws) (itself (holds covers AllOf vs ws)) (itself (each_covered covers vs ws))).0 c in
    (equals_decides matches vs ds).1 (each_all covers matches less vs ws ds both.0 each, all_matched covers matches less vs ws ds both.1 matched)

ordered_ordered : {X Y : Type 0} (covers : X → X → Bool) (matches : X → Y → Bool) → NoLess covers matches → (vs ws : List X) (ds : List Y) → IsTrue (in_order covers vs ws) → IsTrue (holds matches EqualsOrdered ws ds) → IsTrue (holds matches EqualsOrdered vs ds)
ordered_ordered covers matches less vs ws ds c h =
    let a = (ordered_decides covers vs ws).0 c in
    let b = (ordered_decides matches ws ds).0 h in
    (ordered_decides matches vs ds).1 (a.0 ∙ b.0, first_in_order covers matches less vs ws ds a.0 b.0 a.1 b.1)

never : {P : Type 0} → IsTrue false → P
never h = let none : ⊥ = cc in absurd none

-- the operators that match each value
equals_each : {X Y : Type 0} (matches : X → Y → Bool) (ws : List X) (ds : List Y) → IsTrue (holds matches Equals ws ds) → Each matches ws ds
equals_each matches ws ds h = ((equals_decides matches ws ds).0 h).0

equals_matched : {X Y : Type 0} (matches : X → Y → Bool) (ws : List X) (ds : List Y) → IsTrue (holds matches Equals ws ds) → Matched matches ws ds
equals_matched matches ws ds h = ((equals_decides matches ws ds).0 h).1

all_of_less : {X Y : Type 0} (covers : X → X → Bool) (matches : X → Y → Bool) → NoLess covers matches → (vs : List X) (op : Op) (ws : List X) (ds : List Y) → IsTrue (set_implied covers AllOf vs op ws) → IsTrue (holds matches op ws ds) → IsTrue (holds matches AllOf vs ds)
all_of_less covers matches less vs AllOf ws ds c h = (all_of_decides matches vs ds).1 (each_all covers matches less vs ws ds c ((all_of_decides matches ws ds).0 h))
all_of_less covers matches less vs OneOf ws ds c h = one_all covers matches less vs ws ds c h
all_of_less covers matches less vs NoneOf ws ds c h = never c
all_of_less covers matches less vs Equals ws ds c h = (all_of_decides matches vs ds).1 (each_all covers matches less vs ws ds c (equals_each matches ws ds h))
all_of_less covers matches less vs EqualsOrdered ws ds c h = (all_of_decides matches vs ds).1 (each_all covers matches less vs ws ds c (ordered_each matches ws ds h))

one_of_less : {X Y : Type 0} (covers : X → X → Bool) (matches : X → Y → Bool) → NoLess covers matches → (vs : List X) (op : Op) (ws : List X) (ds : List Y) → IsTrue (set_implied covers OneOf vs op ws) → IsTrue (holds matches op ws ds) → IsTrue (holds matches OneOf vs ds)
one_of_less covers matches less vs AllOf ws ds c h = some_one covers matches less vs ws ds c ((all_of_decides matches ws ds).0 h)
one_of_less covers matches less vs OneOf ws ds c h = one_one covers matches less vs ws ds c h
one_of_less covers matches less vs NoneOf ws ds c h = never c
one_of_less covers matches less vs Equals ws ds c h = some_one covers matches less vs ws ds c (equals_each matches ws ds h)
one_of_less covers matches less vs EqualsOrdered ws ds c h = some_one covers matches less vs ws ds c (ordered_each matches ws ds h)

none_of_less : {X Y : Type 0} (covers : X → X → Bool) (matches : X → Y → Bool) → NoLess covers matches → (vs : List X) (op : Op) (ws : List X) (ds : List Y) → IsTrue (set_implied covers NoneOf vs op ws) → IsTrue (holds matches op ws ds) → IsTrue (holds matches NoneOf vs ds)
none_of_less covers matches less vs AllOf ws ds c h = never c
none_of_less covers matches less vs OneOf ws ds c h = never c
none_of_less covers matches less vs NoneOf ws ds c h = none_none covers matches less vs ws ds c h
none_of_less covers matches less vs Equals ws ds c h = never c
none_of_less covers matches less vs EqualsOrdered ws ds c h = never c

equals_less : {X Y : Type 0} (covers : X → X → Bool) (matches : X → Y → Bool) → NoLess covers matches → (vs : List X) (op : Op) (ws : List X) (ds : List Y) → IsTrue (set_implied covers Equals vs op ws) → IsTrue (holds matches op ws ds) → IsTrue (holds matches Equals vs ds)
equals_less covers matches less vs AllOf ws ds c h = never c
equals_less covers matches less vs OneOf ws ds c h = never c
equals_less covers matches less vs NoneOf ws ds c h = never c
equals_less covers matches less vs Equals ws ds c h = equals_equals covers matches less vs ws ds c (equals_each matches ws ds h) (equals_matched matches ws ds h)
equals_less covers matches less vs EqualsOrdered ws ds c h = equals_equals covers matches less vs ws ds c (ordered_each matches ws ds h) (ordered_matched matches ws ds h)

ordered_less : {X Y : Type 0} (covers : X → X → Bool) (matches : X → Y → Bool) → NoLess covers matches → (vs : List X) (op : Op) (ws : List X) (ds : List Y) → IsTrue (set_implied covers EqualsOrdered vs op ws) → IsTrue (holds matches op ws ds) → IsTrue (holds matches EqualsOrdered vs ds)
ordered_less covers matches less vs AllOf ws ds c h = never c
ordered_less covers matches less vs OneOf ws ds c h = never c
ordered_less covers matches less vs NoneOf ws ds c h = never c
ordered_less covers matches less vs Equals ws ds c h = never c
ordered_less covers matches less vs EqualsOrdered ws ds c h = ordered_ordered covers matches less vs ws ds c h

pub set_less : {X Y : Type 0} (covers : X → X → Bool) (matches : X → Y → Bool) → NoLess covers matches → (b : Op) (vs : List X) (a : Op) (ws : List X) (ds : List Y) → IsTrue (set_implied covers b vs a ws) → IsTrue (holds matches a ws ds) → IsTrue (holds matches b vs ds)
set_less covers matches less AllOf vs a ws ds c h = all_of_less covers matches less vs a ws ds c h
set_less covers matches less OneOf vs a ws ds c h = one_of_less covers matches less vs a ws ds c h
set_less covers matches less NoneOf vs a ws ds c h = none_of_less covers matches less vs a ws ds c h
set_less covers matches less Equals vs a ws ds c h = equals_less covers matches less vs a ws ds c h
set_less covers matches less EqualsOrdered vs a ws ds c h = ordered_less covers matches less vs a ws ds c h

-- ---- an attribute of which a device has one value

-- as the operator says, and as it is counted
ordered_counted : {X Y : Type 0} (matches : X → Y → Bool) (ws : List X) (d : Y) → IsTrue (holds matches EqualsOrdered ws (d ∷ [])) → IsTrue (holds matches (ordered_of_one ws) ws (d ∷ []))
ordered_counted matches [] d h = h
ordered_counted matches (w ∷ []) d h = (all_of_decides matches (w ∷ []) (d ∷ [])).1 (ordered_each matches (w ∷ []) (d ∷ []) h)
ordered_counted matches (w ∷ other ∷ ws) d h = h

counted : {X Y : Type 0} (matches : X → Y → Bool) (op : Op) (ws : List X) (d : Y) → IsTrue (holds matches op ws (d ∷ [])) → IsTrue (holds matches (op_of_one op ws) ws (d ∷ []))
counted matches AllOf ws d h = h
counted matches OneOf ws d h = h
counted matches NoneOf ws d h = h
counted matches Equals ws d h = (all_of_decides matches ws (d ∷ [])).1 (equals_each matches ws (d ∷ []) h)
counted matches EqualsOrdered ws d h = ordered_counted matches ws d h

-- of one value: what matches some of these matches it
the_one : {X Y : Type 0} (matches : X → Y → Bool) (d : Y) (v : X) → MatchesSome matches (d ∷ []) v → IsTrue (matches v d)
the_one {X} {Y} matches d v (y, inl e, h) = subst (λ (k : Y). IsTrue (matches v k)) (sym e) h
the_one matches d v (y, inr n, h) = absurd n

one_pair : {X Y : Type 0} (matches : X → Y → Bool) (d : Y) (v : X) → IsTrue (matches v d) → (p : X × Y) → Has (zip (v ∷ []) (d ∷ [])) p → IsTrue (matches p.0 p.1)
one_pair {X} {Y} matches d v h p (inl e) = subst (λ (q : X × Y). IsTrue (matches q.0 q.1)) e h
one_pair matches d v h p (inr n) = absurd n

ordered_back : {X Y : Type 0} (matches : X → Y → Bool) (vs : List X) (d : Y) → IsTrue (holds matches (ordered_of_one vs) vs (d ∷ [])) → IsTrue (holds matches EqualsOrdered vs (d ∷ []))
ordered_back matches [] d h = h
ordered_back matches (v ∷ []) d h =
    (ordered_decides matches (v ∷ []) (d ∷ [])).1 (refl, one_pair matches d v (the_one matches d v ((all_of_decides matches (v ∷ []) (d ∷ [])).0 h v (inl refl))))
ordered_back matches (v ∷ other ∷ vs) d h = h

matched_first : {X Y : Type 0} (matches : X → Y → Bool) (v : X) (vs : List X) (d : Y) → Each matches (v ∷ vs) (d ∷ []) → Matched matches (v ∷ vs) (d ∷ [])
matched_first {X} {Y} matches v vs d each y (inl e) = (v, inl refl, subst (λ (k : Y). IsTrue (matches v k)) e (the_one matches d v (each v (inl refl))))
matched_first matches v vs d each y (inr n) = absurd n

equals_back : {X Y : Type 0} (matches : X → Y → Bool) (vs : List X) (d : Y) → HasItem vs → IsTrue (holds matches AllOf vs (d ∷ [])) → IsTrue (holds matches Equals vs (d ∷ []))
equals_back matches [] d some h = absurd some
equals_back matches (v ∷ vs) d some h =
    let each = (all_of_decides matches (v ∷ vs) (d ∷ [])).0 h in
    (equals_decides matches (v ∷ vs) (d ∷ [])).1 (each, matched_first matches v vs d each)

as_said : {X Y : Type 0} (matches : X → Y → Bool) (op : Op) (vs : List X) (d : Y) → HasItem vs → IsTrue (holds matches (op_of_one op vs) vs (d ∷ [])) → IsTrue (holds matches op vs (d ∷ []))
as_said matches AllOf vs d some h = h
as_said matches OneOf vs d some h = h
as_said matches NoneOf vs d some h = h
as_said matches Equals vs d some h = equals_back matches vs d some h
as_said matches EqualsOrdered vs d some h = ordered_back matches vs d h

-- ---- attributes

one_less : {X Y : Type 0} (covers : X → X → Bool) (matches : X → Y → Bool) → NoLess covers matches → (b a : Option (Values X)) (d : Y) → MayHaveItem b → IsTrue (given_implied (one_implied covers) b a) → IsTrue (attribute matches a (d ∷ [])) → IsTrue (attribute matches b (d ∷ []))
one_less covers matches less None a d some c h = refl
one_less covers matches less (Some b) None d some c h = never c
one_less covers matches less (Some b) (Some a) d some c h =
    as_said matches b.op b.items d some (set_less covers matches less (op_of_one b.op b.items) b.items (op_of_one a.op a.items) a.items (d ∷ []) c (counted matches a.op a.items d h))

many_less : {X Y : Type 0} (covers : X → X → Bool) (matches : X → Y → Bool) → NoLess covers matches → (b a : Option (Values X)) (ds : List Y) → IsTrue (given_implied (many_implied covers) b a) → IsTrue (attribute matches a ds) → IsTrue (attribute matches b ds)
many_less covers matches less None a ds c h = refl
many_less covers matches less (Some b) None ds c h = never c
many_less covers matches less (Some b) (Some a) ds c h = set_less covers matches less b.op b.items a.op a.items ds c h

-- ---- values

number_less : (v w : Option ℕ) (n : ℕ) → IsTrue (number_covers v w) → IsTrue (covers_number w n) → IsTrue (covers_number v n)
number_less None w n c h = refl
number_less (Some m) None n c h = never c
number_less (Some m) (Some k) n c h =
    let a : m ≡ k = (Decides-eqb m k).0 c in
    let b : k ≡ n = (Decides-eqb k n).0 h in
    (Decides-eqb m n).1 (a ∙ b)

both : (a b : Bool) → Decides (a && b) (IsTrue a × IsTrue b)
both a b = Decides-and a b (itself a) (itself b)

id_less : NoLess id_covers covers_id
id_less v w d c h =
    let cs = (both (number_covers v.vendor w.vendor) (number_covers v.product w.product)).0 c in
    let hs = (both (covers_number w.vendor d.vendor) (covers_number w.product d.product)).0 h in
    (both (covers_number v.vendor d.vendor) (covers_number v.product d.product)).1 (number_less v.vendor w.vendor d.vendor cs.0 hs.0, number_less v.product w.product d.product cs.1 hs.1)

interface_less : NoLess interface_covers covers_interface
interface_less v w d c h =
    let cs = (both (nat_eq v.class w.class && number_covers v.subclass w.subclass) (number_covers v.protocol w.protocol)).0 c in
    let ct = (both (nat_eq v.class w.class) (number_covers v.subclass w.subclass)).0 cs.0 in
    let hs = (both (nat_eq w.class d.class && covers_number w.subclass d.subclass) (covers_number w.protocol d.protocol)).0 h in
    let ht = (both (nat_eq w.class d.class) (covers_number w.subclass d.subclass)).0 hs.0 in
    let a : v.class ≡ w.class = (Decides-eqb v.class w.class).0 ct.0 in
    let b : w.class ≡ d.class = (Decides-eqb w.class d.class).0 ht.0 in
    let top = (both (nat_eq v.class d.class) (covers_number v.subclass d.subclass)).1 ((Decides-eqb v.class d.class).1 (a ∙ b), number_less v.subclass w.subclass d.subclass ct.1 ht.1) in
    (both (nat_eq v.class d.class && covers_number v.subclass d.subclass) (covers_number v.protocol d.protocol)).1 (top, number_less v.protocol w.protocol d.protocol cs.1 hs.1)

text_less : NoLess covers_text covers_text
text_less v w d c h =
    let a : v ≡ w = (bytes_decides v w).0 c in
    let b : w ≡ d = (bytes_decides w d).0 h in
    (bytes_decides v d).1 (a ∙ b)

-- ---- queries

cut : (a b : Bool) → IsTrue (a && b) → IsTrue a × IsTrue b
cut a b h = (both a b).0 h

join : (a b : Bool) → IsTrue a → IsTrue b → IsTrue (a && b)
join a b x y = (both a b).1 (x, y)

-- eight facts, and one of them all
eight_cut : (a b c d e f g h : Bool) → IsTrue (a && b && c && d && e && f && g && h) → IsTrue a × IsTrue b × IsTrue c × IsTrue d × IsTrue e × IsTrue f × IsTrue g × IsTrue h
eight_cut a b c d e f g h all =
    let k7 = cut (a && b && c && d && e && f && g) h all in
    let k6 = cut (a && b && c && d && e && f) g k7.0 in
    let k5 = cut (a && b && c && d && e) f k6.0 in
    let k4 = cut (a && b && c && d) e k5.0 in
    let k3 = cut (a && b && c) d k4.0 in
    let k2 = cut (a && b) c k3.0 in
    let k1 = cut a b k2.0 in
    (k1.0, k1.1, k2.1, k3.1, k4.1, k5.1, k6.1, k7.1)

eight_join : (a b c d e f g h : Bool) → IsTrue a → IsTrue b → IsTrue c → IsTrue d → IsTrue e → IsTrue f → IsTrue g → IsTrue h → IsTrue (a && b && c && d && e && f && g && h)
eight_join a b c d e f g h ja jb jc jd je jf jg jh =
    join (a && b && c && d && e && f && g) h (join (a && b && c && d && e && f) g (join (a && b && c && d && e) f (join (a && b && c && d) e (join (a && b && c) d (join (a && b) c (join a b ja jb) jc) jd) je) jf) jg) jh

text_given : (b a : Option (Values (List ℕ))) (d : List ℕ) → MayHaveItem b → IsTrue (given_implied (one_implied covers_text) b a) → IsTrue (attribute covers_text a (d ∷ [])) → IsTrue (attribute covers_text b (d ∷ []))
text_given b a d some c h = one_less covers_text covers_text text_less b a d some c h

pub query_less : (query other : Query) (device : DeviceRecord) → IsFilled query → IsTrue (query_implied query other) → IsTrue (query_matches other device) → IsTrue (query_matches query device)
unfolding query_implied query_matches
query_less query other device filled c h =
    let text : Option (Values (List ℕ)) → Option (Values (List ℕ)) → Bool = λ b a. given_implied (one_implied covers_text) b a in
    let holding : Option (Values (List ℕ)) → List ℕ → Bool = λ a d. attribute covers_text a (d ∷ []) in
    let id : List DeviceId = record { vendor = device.vendor; product = device.product } ∷ [] in
    let cs = eight_cut (given_implied (one_implied id_covers) query.id other.id) (text query.serial other.serial) (text query.name other.name) (text query.hash other.hash) (text query.parent_hash other.parent_hash) (text query.via_port other.via_port) (given_implied (many_implied interface_covers) query.interface other.interface) (text query.connect other.connect) c in
    let hs = eight_cut (attribute covers_id other.id id) (holding other.serial device.serial) (holding other.name device.name) (holding other.hash device.hash) (holding other.parent_hash device.parent_hash) (holding other.via_port device.via_port) (attribute covers_interface other.interface device.interfaces) (holding other.connect device.connect) h in
    eight_join (attribute covers_id query.id id) (holding query.serial device.serial) (holding query.name device.name) (holding query.hash device.hash) (holding query.parent_hash device.parent_hash) (holding query.via_port device.via_port) (attribute covers_interface query.interface device.interfaces) (holding query.connect device.connect)
    (one_less id_covers covers_id id_less query.id other.id (record { vendor = device.vendor; product = device.product }) filled.id cs.0 hs.0)
    (text_given query.serial other.serial device.serial filled.serial cs.1 hs.1)
    (text_given query.name other.name device.name filled.name cs.2 hs.2)
    (text_given query.hash other.hash device.hash filled.hash cs.3 hs.3)
    (text_given query.parent_hash other.parent_hash device.parent_hash filled.parent_hash cs.4 hs.4)
    (text_given query.via_port other.via_port device.via_port filled.via_port cs.5 hs.5)
    (many_less interface_covers covers_interface interface_less query.interface other.interface device.interfaces cs.6 hs.6)
    (text_given query.connect other.connect device.connect filled.connect cs.7 hs.7)

-- ---- what covers

pub number_same : (v : Option ℕ) → IsTrue (number_covers v v)
number_same None = refl
number_same (Some m) = (Decides-eqb m m).1 refl

pub id_same : (v : Id) → IsTrue (id_covers v v)
id_same v = join (number_covers v.vendor v.vendor) (number_covers v.product v.product) (number_same v.vendor) (number_same v.product)

pub interface_same : (v : Iface) → IsTrue (interface_covers v v)
interface_same v =
    join (nat_eq v.class v.class && number_covers v.subclass v.subclass) (number_covers v.protocol v.protocol)
    (join (nat_eq v.class v.class) (number_covers v.subclass v.subclass) ((Decides-eqb v.class v.class).1 refl) (number_same v.subclass)) (number_same v.protocol)

pub text_same : (v : List ℕ) → IsTrue (covers_text v v)
text_same v = (bytes_decides v v).1 refl

-- a number covers another
pub number_is : (v w : Option ℕ) → Decides (number_covers v w) ((v ≡ None) ⊎ ((n : ℕ) × (v ≡ Some n) × (w ≡ Some n)))
number_is None w = (λ h. inl refl, λ h. refl)
number_is (Some m) None = (λ h. never h, λ h. elim h [ inl e ↦ let none : ⊥ = cc in absurd none | inr p ↦ let e : None ≡ Some p.0 = p.2 in absurd (none-some p.0 e) ])
number_is (Some m) (Some n) = (
  λ h. let e : m ≡ n = (Decides-eqb m n).0 h in inr (m, refl, ap (λ (k : ℕ). Some k) (sym e)),
  λ h. elim h [
    | inl e ↦ let none : ⊥ = cc in absurd none
    | inr p ↦ (Decides-eqb m n).1 (same_Some m p.0 p.1 ∙ sym (same_Some n p.0 p.2))
  ],
)

-- ---- a set against itself

-- each value covers itself
abbrev pub CoversItself : {X : Type 0} → (X → X → Bool) → Type 0
CoversItself {X} covers = (v : X) → IsTrue (covers v v)

pub some_covers_decides : {X : Type 0} (covers : X → X → Bool) (vs ws : List X) → Decides (some_covers covers vs ws) ((v : X) × Has vs v × MatchesSome covers ws v)
some_covers_decides covers vs ws = one_of_decides covers vs ws

each_covers_itself : {X : Type 0} (covers : X → X → Bool) → CoversItself covers → (vs : List X) → IsTrue (holds covers AllOf vs vs)
each_covers_itself covers same vs = (all_of_decides covers vs vs).1 (λ v h. (v, h, same v))

each_covered_itself : {X : Type 0} (covers : X → X → Bool) → CoversItself covers → (vs : List X) → IsTrue (each_covered covers vs vs)
each_covered_itself covers same vs = (each_covered_decides covers vs vs).1 (λ v h. (v, h, same v))

zip_itself : {X : Type 0} (covers : X → X → Bool) → CoversItself covers → (vs : List X) (p : X × X) → Has (zip vs vs) p → IsTrue (covers p.0 p.1)
zip_itself covers same [] p h = absurd h
zip_itself {X} covers same (v ∷ vs) p (inl e) = subst (λ (q : X × X). IsTrue (covers q.0 q.1)) e (same v)
zip_itself covers same (v ∷ vs) p (inr h) = zip_itself covers same vs p h

pub set_itself : {X : Type 0} (covers : X → X → Bool) → CoversItself covers → (op : Op) (vs : List X) → IsTrue (set_implied covers op vs op vs)
set_itself covers same AllOf vs = each_covers_itself covers same vs
set_itself covers same OneOf vs = each_covered_itself covers same vs
set_itself covers same NoneOf vs = each_covered_itself covers same vs
set_itself covers same Equals vs = join (holds covers AllOf vs vs) (each_covered covers vs vs) (each_covers_itself covers same vs) (each_covered_itself covers same vs)
set_itself covers same EqualsOrdered vs = (ordered_decides covers vs vs).1 (refl, zip_itself covers same vs)
