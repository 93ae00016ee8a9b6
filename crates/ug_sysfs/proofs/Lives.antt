-- The list of the live places keeps up.
use Rattle.std.proofs.Common.{◌≡◌, ℕ, zero, suc, ◌+◌, ◌<◌, ◌≤◌, Bool, true, false, not, cond, if◌then◌else◌, List, [], ◌∷◌, ◌++◌, length, get_or, set, drop, Option, Some, None, Result, Ok, Err, refl, sym, ◌∙◌, ap, arith, append_assoc}
use Rattle.std.specs.List.{slice_get, filter}
use Rattle.std.specs.Result.{IfOk}
use Rattle.std.proofs.lemmas.Bool.{both_ways}
use Rattle.std.proofs.lemmas.List.{drop_more}
use Rattle.std.proofs.lemmas.Option.{none-some, same_Some}
use Rattle.ug_kernel.specs.declared.device.Device.{Device}
use Rattle.ug_kernel.specs.declared.control.Write.{Write}
use Rattle.ug_kernel.specs.Kernel.{BeginsWith, live_count}
use Rattle.ug_kernel.specs.Called.{written_to}
use Rattle.ug_sysfs.specs.World.{live_names, switched_to, switched}
use Rattle.ug_sysfs.specs.Living.{Wanes, is_live, is_live_at, live_name, live_places, name_at, names_at_places, with_name}

pub length_places : (n : ℕ) (ds : List Device) → length (live_places n ds) ≡ live_count ds
length_places n [] = refl
length_places n (d ∷ ds) = pick d.gone (length_places (n + 1) ds)
  where
    pick : (b : Bool) → length (live_places (n + 1) ds) ≡ live_count ds → length (cond b (live_places (n + 1) ds) (n ∷ live_places (n + 1) ds)) ≡ (if b then 0 else 1) + live_count ds
    pick true rest = omega (arith, rest)
    pick false rest = omega (arith, rest)

-- one device more, at the end
pub places_push : (n : ℕ) (ds : List Device) (d : Device) → d.gone ≡ false → live_places n (ds ++ d ∷ []) ≡ live_places n ds ++ (length ds + n) ∷ []
places_push n [] d g =
    let z : n ≡ 0 + n = omega arith in
    ap (λ (b : Bool). cond b [] (n ∷ [])) g ∙ ap (λ (k : ℕ). k ∷ []) z
places_push n (e ∷ ds) d g = pick e.gone (places_push (n + 1) ds d g)
  where
    more : length ds + (n + 1) ≡ suc (length ds) + n
    more = omega arith

    pick : (b : Bool) → live_places (n + 1) (ds ++ d ∷ []) ≡ live_places (n + 1) ds ++ (length ds + (n + 1)) ∷ [] → cond b (live_places (n + 1) (ds ++ d ∷ [])) (n ∷ live_places (n + 1) (ds ++ d ∷ [])) ≡ cond b (live_places (n + 1) ds) (n ∷ live_places (n + 1) ds) ++ (suc (length ds) + n) ∷ []
    pick true rest = rest ∙ ap (λ (k : ℕ). live_places (n + 1) ds ++ k ∷ []) more
    pick false rest = ap (λ (ks : List ℕ). n ∷ ks) (rest ∙ ap (λ (k : ℕ). live_places (n + 1) ds ++ k ∷ []) more)

-- ---- devices that stay in their places

pub wanes_same : (ds : List Device) → Wanes ds ds
wanes_same [] = tt
wanes_same (d ∷ ds) = (λ g. g, wanes_same ds)

pub wanes_then : (ds es fs : List Device) → Wanes ds es → Wanes es fs → Wanes ds fs
wanes_then [] [] [] v w = tt
wanes_then [] [] (f ∷ fs) v w = absurd w
wanes_then [] (e ∷ es) fs v w = absurd v
wanes_then (d ∷ ds) [] fs v w = absurd v
wanes_then (d ∷ ds) (e ∷ es) [] v w = absurd w
wanes_then (d ∷ ds) (e ∷ es) (f ∷ fs) v w = (λ g. w.0 (v.0 g), wanes_then ds es fs v.1 w.1)

pub wanes_push : (ds es : List Device) (d : Device) → Wanes ds es → Wanes (ds ++ d ∷ []) (es ++ d ∷ [])
wanes_push [] [] d w = (λ g. g, tt)
wanes_push [] (e ∷ es) d w = absurd w
wanes_push (x ∷ ds) [] d w = absurd w
wanes_push (x ∷ ds) (e ∷ es) d w = (w.0, wanes_push ds es d w.1)

pub wanes_length : (ds es : List Device) → Wanes ds es → length es ≡ length ds
wanes_length [] [] w = refl
wanes_length [] (e ∷ es) w = absurd w
wanes_length (d ∷ ds) [] w = absurd w
wanes_length (d ∷ ds) (e ∷ es) w = let rest = wanes_length ds es w.1 in omega (arith, rest)

pub wanes_begins : (ds es : List Device) → BeginsWith ds es → length es ≡ length ds → Wanes ds es
wanes_begins [] [] b n = tt
wanes_begins [] (e ∷ es) b n = absurd (omega (arith, n))
wanes_begins (d ∷ ds) [] b n = absurd b
wanes_begins (d ∷ ds) (e ∷ es) b n = (b.0.stays.gone, wanes_begins ds es b.1 (omega (arith, n)))

wanes_value : (ds : List Device) (i : ℕ) (d : Device) (write : Write) → slice_get ds i ≡ Some d → Wanes ds (set ds i (written_to write d))
wanes_value [] i d write h = absurd (none-some d h)
wanes_value (e ∷ ds) zero d write h = (λ g. ap (λ (x : Device). x.gone) (sym (same_Some e d h)) ∙ g, wanes_same ds)
wanes_value (e ∷ ds) (suc i) d write h = (λ g. g, wanes_value ds i d write h)

pub wanes_switched : (write : Write) (i : ℕ) (ds : List Device) → Wanes ds (switched write i ds)
wanes_switched write i ds = at (slice_get ds i) refl
  where
    at : (o : Option Device) → slice_get ds i ≡ o → Wanes ds (switched_to write i o ds)
    at None h = wanes_same ds
    at (Some d) h = wanes_value ds i d write h

count_wanes : (ds es : List Device) → Wanes ds es → live_count es ≤ live_count ds
count_wanes [] [] w = omega arith
count_wanes [] (e ∷ es) w = absurd w
count_wanes (d ∷ ds) [] w = absurd w
count_wanes (d ∷ ds) (e ∷ es) w = let rest = count_wanes ds es w.1 in pick d.gone e.gone refl refl rest
  where
    pick : (b c : Bool) → d.gone ≡ b → e.gone ≡ c → live_count es ≤ live_count ds → (if c then 0 else 1) + live_count es ≤ (if b then 0 else 1) + live_count ds
    pick true true g h rest = omega (arith, rest)
    pick true false g h rest = absurd (both_ways e.gone h (w.0 g))
    pick false true g h rest = omega (arith, rest)
    pick false false g h rest = omega (arith, rest)

-- ---- their places and names

kept_from : (n : ℕ) (test : ℕ → Bool) (ds es : List Device) → Wanes ds es → ((k : ℕ) → test (n + k) ≡ is_live (slice_get es k)) → filter test (live_places n ds) ≡ live_places n es
kept_from n test [] [] w h = refl
kept_from n test [] (e ∷ es) w h = absurd w
kept_from n test (d ∷ ds) [] w h = absurd w
kept_from n test (d ∷ ds) (e ∷ es) w h = pick (kept_from (n + 1) test ds es w.1 (λ k. let e : n + 1 + k ≡ n + suc k = omega arith in ap test e ∙ h (suc k))) d.gone refl e.gone refl
  where
    here : test n ≡ not e.gone
    here = let e : n ≡ n + 0 = omega arith in ap test e ∙ h zero

    pick : filter test (live_places (n + 1) ds) ≡ live_places (n + 1) es → (b : Bool) → d.gone ≡ b → (c : Bool) → e.gone ≡ c → filter test (cond b (live_places (n + 1) ds) (n ∷ live_places (n + 1) ds)) ≡ cond c (live_places (n + 1) es) (n ∷ live_places (n + 1) es)
    pick rest true p true q = rest
    pick rest true p false q = absurd (both_ways e.gone q (w.0 p))
    pick rest false p true q = ap (λ (b : Bool). cond b (n ∷ filter test (live_places (n + 1) ds)) (filter test (live_places (n + 1) ds))) (here ∙ ap not q) ∙ rest
    pick rest false p false q = ap (λ (b : Bool). cond b (n ∷ filter test (live_places (n + 1) ds)) (filter test (live_places (n + 1) ds))) (here ∙ ap not q) ∙ ap (λ (ks : List ℕ). n ∷ ks) rest

-- the live places that are left
pub places_left : (ds es : List Device) → Wanes ds es → filter (is_live_at es) (live_places 0 ds) ≡ live_places 0 es
places_left ds es w = kept_from 0 (is_live_at es) ds es w (λ k. let e : 0 + k ≡ k = omega arith in ap (is_live_at es) e)

pub fewer_places : (ds es : List Device) → Wanes ds es → length (live_places 0 es) ≤ length (live_places 0 ds)
fewer_places ds es w = omega (arith, count_wanes ds es w, length_places 0 ds, length_places 0 es)

-- the live names are those at the places of who was live
names_left : (n : ℕ) (all ds es : List Device) → Wanes ds es → ((k : ℕ) → slice_get all (n + k) ≡ slice_get es k) → names_at_places (live_places n ds) all ≡ live_names es
names_left n all [] [] w h = refl
names_left n all [] (e ∷ es) w h = absurd w
names_left n all (d ∷ ds) [] w h = absurd w
names_left n all (d ∷ ds) (e ∷ es) w h = pick (names_left (n + 1) all ds es w.1 (λ k. let q : n + 1 + k ≡ n + suc k = omega arith in ap (slice_get all) q ∙ h (suc k))) d.gone refl e.gone refl
  where
    here : name_at all n ≡ live_name (Some e)
    here = let q : n ≡ n + 0 = omega arith in ap (λ (i : ℕ). live_name (slice_get all i)) q ∙ ap live_name (h zero)

    rest_of : List (List ℕ)
    rest_of = names_at_places (live_places (n + 1) ds) all

    pick : rest_of ≡ live_names es → (b : Bool) → d.gone ≡ b → (c : Bool) → e.gone ≡ c → names_at_places (cond b (live_places (n + 1) ds) (n ∷ live_places (n + 1) ds)) all ≡ cond c (live_names es) (e.name ∷ live_names es)
    pick rest true p true q = rest
    pick rest true p false q = absurd (both_ways e.gone q (w.0 p))
    pick rest false p true q = ap (λ (o : Option (List ℕ)). with_name o rest_of) (here ∙ ap (λ (v : Bool). cond v None (Some e.name)) q) ∙ rest
    pick rest false p false q = ap (λ (o : Option (List ℕ)). with_name o rest_of) (here ∙ ap (λ (v : Bool). cond v None (Some e.name)) q) ∙ ap (λ (ns : List (List ℕ)). e.name ∷ ns) rest

pub names_of_live : (ds es : List Device) → Wanes ds es → names_at_places (live_places 0 ds) es ≡ live_names es
names_of_live ds es w = names_left 0 es ds es w (λ k. let e : 0 + k ≡ k = omega arith in ap (slice_get es) e)

-- one step of the listing
names_more : (ns : List (List ℕ)) (is : List ℕ) (ds : List Device) (k : ℕ) → k < length is → (o : Option (List ℕ)) → o ≡ name_at ds (get_or is k 0) → ns ++ names_at_places (drop k is) ds ≡ ns ++ with_name o (names_at_places (drop (k + 1) is) ds)
names_more ns is ds k lt o e = ap (λ (xs : List ℕ). ns ++ names_at_places xs ds) (drop_more is k 0 lt) ∙ ap (λ (x : Option (List ℕ)). ns ++ with_name x (names_at_places (drop (k + 1) is) ds)) (sym e)

pub one_name : (ns : List (List ℕ)) (is : List ℕ) (ds : List Device) (k : ℕ) (n : List ℕ) → k < length is → Some n ≡ name_at ds (get_or is k 0) → (ns ++ n ∷ []) ++ names_at_places (drop (k + 1) is) ds ≡ ns ++ names_at_places (drop k is) ds
one_name ns is ds k n lt e = rw append_assoc (sym (names_more ns is ds k lt (Some n) e))

pub no_name : (ns : List (List ℕ)) (is : List ℕ) (ds : List Device) (k : ℕ) → k < length is → None ≡ name_at ds (get_or is k 0) → ns ++ names_at_places (drop (k + 1) is) ds ≡ ns ++ names_at_places (drop k is) ds
no_name ns is ds k lt e = sym (names_more ns is ds k lt None e)

pub if_ok : {T E : Type 0} (r : Result T E) (P Q : T → Type 0) → ((x : T) → P x → Q x) → IfOk r P → IfOk r Q
if_ok (Ok x) P Q h p = h x p
if_ok (Err e) P Q h p = tt
