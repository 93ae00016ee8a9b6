-- Users and groups that are listed once each.
use Rattle.std.proofs.Common.{◌≡◌, ℕ, ◌+◌, ◌<◌, Bool, true, false, cond, List, [], ◌∷◌, ◌++◌, take, get_or, length, refl, sym, ◌∙◌, ap, subst, arith}
use Rattle.std.specs.Prelude.{◌||◌, ◌&&◌, nat_eq}
use Rattle.std.specs.Bool.{beq}
use Rattle.std.specs.List.{list_any}
use Rattle.std.specs.List.Sorted.{IsPermutation}
use Rattle.std.specs.Cmp.Lexicographic.{pointwise, same_text}
use Rattle.std.proofs.lemmas.Bool.{false≢true}
use Rattle.std.proofs.lemmas.List.{map-append}
use Rattle.std.proofs.lemmas.List.Folds.{list_any_more}
use Rattle.std.proofs.lemmas.List.Sorted.{sum_by-IsPermutation}
use Rattle.std.proofs.lemmas.List.Sums.{sum_by-cons, sum_by_push}
use Rattle.ug_types.specs.Principals.{Named, principal_text, same_principal}
use Rattle.ug_acl.specs.Acls.{Addition}
use Rattle.ug_serve.specs.Access.{AreListed, AreOnce, IsInByteOrder, added_for, times, user_additions, with_new}

both_true : (a b : Bool) → a && b ≡ true → (a ≡ true) × (b ≡ true)
both_true true b h = (refl, h)
both_true false b h = absurd (false≢true h)

group_same : (v u : Bool) → beq v u ≡ true → v ≡ u
group_same true true e = refl
group_same false false e = refl
group_same true false e = absurd (false≢true e)
group_same false true e = absurd (false≢true e)

named_same : (a b : Named) → same_principal a b ≡ true → a ≡ b
named_same a b h =
    let k = both_true (beq a.group b.group) (pointwise nat_eq a.name b.name) h in
    let g : a.group ≡ b.group = group_same a.group b.group k.0 in
    let n : a.name ≡ b.name = same_text a.name b.name (sym k.1) in
    λ i. record { group = g i; name = n i }

-- whether one of them is that one
abbrev among : Named → List Named → Bool
among who ps = list_any (λ p. same_principal p who) ps

times-cons : (who p : Named) (ps : List Named) → times who (p ∷ ps) ≡ cond (same_principal p who) 1 0 + times who ps
times-cons who p ps = sum_by-cons (λ q. cond (same_principal q who) 1 0) p ps

either_true : (b c : Bool) (n m : ℕ) → b || c ≡ true → (c ≡ true → m ≡ 0 → ⊥) → n ≡ cond b 1 0 + m → n ≡ 0 → ⊥
either_true true c n m h later is none = omega (arith, is, none)
either_true false c n m h later is none = later h (omega (arith, is, none))

either_false : (b c : Bool) (n m : ℕ) → b || c ≡ false → (c ≡ false → m ≡ 0) → n ≡ cond b 1 0 + m → n ≡ 0
either_false true c n m h later is = absurd (false≢true (sym h))
either_false false c n m h later is = let z = later h in omega (arith, is, z)

among_times : (who : Named) (ps : List Named) → among who ps ≡ true → times who ps ≡ 0 → ⊥
among_times who [] h none = absurd (false≢true h)
among_times who (p ∷ ps) h none = either_true (same_principal p who) (among who ps) (times who (p ∷ ps)) (times who ps) h (among_times who ps) (times-cons who p ps) none

none_times : (who : Named) (ps : List Named) → among who ps ≡ false → times who ps ≡ 0
none_times who [] h = refl
none_times who (p ∷ ps) h = either_false (same_principal p who) (among who ps) (times who (p ∷ ps)) (times who ps) h (none_times who ps) (times-cons who p ps)

is_counted : (b : Bool) (n : ℕ) → n ≡ cond b 1 0 → (n ≡ 0 → ⊥) → b ≡ true
is_counted true n is some = refl
is_counted false n is some = absurd (some is)

isnt_counted : (b : Bool) (n : ℕ) → n ≡ cond b 1 0 → n ≡ 0 → b ≡ false
isnt_counted true n is none = absurd (omega (arith, is, none))
isnt_counted false n is none = refl

-- one that is among them already
kept_one : (b c : Bool) (n : ℕ) → n ≡ cond b 1 0 → (c ≡ true → b ≡ true) → n ≡ cond (b || c) 1 0
kept_one true c n is so = is
kept_one false true n is so = absurd (false≢true (so refl))
kept_one false false n is so = is

-- one that is new
new_one : (b c : Bool) (n m : ℕ) → n ≡ cond b 1 0 → (c ≡ true → b ≡ false) → m ≡ n + cond c 1 0 → m ≡ cond (b || c) 1 0
new_one true true n m is so grown = absurd (false≢true (sym (so refl)))
new_one true false n m is so grown = omega (arith, is, grown)
new_one false true n m is so grown = omega (arith, is, grown)
new_one false false n m is so grown = omega (arith, is, grown)

once_with : (b : Bool) (x : Named) (front ps : List Named) → among x ps ≡ b → ((who : Named) → times who ps ≡ cond (among who front) 1 0) → (who : Named)
    → times who (cond b ps (ps ++ x ∷ [])) ≡ cond (among who front || same_principal x who) 1 0
once_with true x front ps here so who =
    let known : among x front ≡ true = is_counted (among x front) (times x ps) (so x) (among_times x ps here) in
    kept_one (among who front) (same_principal x who) (times who ps) (so who) (λ e. subst (λ (y : Named). among y front ≡ true) (named_same x who e) known)
once_with false x front ps here so who =
    let unknown : among x front ≡ false = isnt_counted (among x front) (times x ps) (so x) (none_times x ps here) in
    new_one (among who front) (same_principal x who) (times who ps) (times who (ps ++ x ∷ [])) (so who) (λ e. subst (λ (y : Named). among y front ≡ false) (named_same x who e) unknown) (sum_by_push (λ q. cond (same_principal q who) 1 0) ps x)

-- one more of those that are listed
pub once_next : (added ps : List Named) (i : ℕ) (d : Named) → i < length added → AreOnce (take i added) ps → AreOnce (take (i + 1) added) (with_new (get_or added i d) ps)
once_next added ps i d below so who =
    once_with (among (get_or added i d) ps) (get_or added i d) (take i added) ps refl so who
    ∙ ap (λ (b : Bool). cond b 1 0) (sym (list_any_more (λ p. same_principal p who) added i d below))

-- all of them, in byte order
pub listed_all : (added once sorted : List Named) → AreOnce added once → IsPermutation once sorted → IsInByteOrder principal_text sorted → AreListed added sorted
listed_all added once sorted so same order = record { once = λ who. sum_by-IsPermutation (λ p. cond (same_principal p who) 1 0) once sorted same ∙ so who; in_order = order }

users_added : (users : List Named) → added_for (user_additions users) ≡ users
users_added [] = refl
users_added (user ∷ users) = ap (λ (l : List Named). user ∷ l) (users_added users)

-- behind those of the files stand the users
pub listed_with : (before after : List Addition) (users added principals : List Named) → added ≡ added_for before ++ users → after ≡ before ++ user_additions users → AreListed added principals → AreListed (added_for after) principals
listed_with before after users added principals these grown listed =
    let is : added_for after ≡ added_for before ++ users = ap added_for grown ∙ (map-append (λ a. a.who) before (user_additions users) ∙ ap (λ (l : List Named). added_for before ++ l) (users_added users)) in
    subst (λ (l : List Named). AreListed l principals) (these ∙ sym is) listed
