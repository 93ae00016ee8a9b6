-- Talks of one tree after another.
use Rattle.std.proofs.Common.{◌≡◌, ℕ, ◌+◌, ◌-◌, ◌<◌, ◌≤◌, suc, cond, true, false, Bool, List, [], ◌∷◌, ◌++◌, length, get_or, take, drop, set, refl, sym, ◌∙◌, subst, arith}
use Rattle.std.proofs.lemmas.List.{drop_more, take_more_set, drop-set-lt}
use Rattle.std.proofs.lemmas.Grind.{drop_more_same}
use Rattle.ug_links.specs.declared.step.LinkStep.{LinkStep}
use Rattle.ug_links.specs.Talk.{Talk, Return, Listen, Accept, Read, Write, Close, Room, Talks, and_then, walk, upto}

pub runs_then : {S R Q : Type 0} (gives : S → LinkStep → S → Type 0) (s : S) (p : Talk R) (f : R → Talk Q) (a : R) (u : S) (r : Q) (t : S) → Talks gives s p a u → Talks gives u (f a) r t → Talks gives s (and_then p f) r t
runs_then gives s (Return value) f a u r t h k = subst (λ (v : _). Talks gives s (f v) r t) h.0 (subst (λ (v : _). Talks gives v (f a) r t) h.1 k)
runs_then gives s (Listen principal next) f a u r t h k = (h.0, h.1, h.2, runs_then gives h.1 (next h.0) f a u r t h.3 k)
runs_then gives s (Accept listener next) f a u r t h k = (h.0, h.1, h.2, runs_then gives h.1 (next h.0) f a u r t h.3 k)
runs_then gives s (Read id room next) f a u r t h k = (h.0, h.1, h.2, runs_then gives h.1 (next h.0) f a u r t h.3 k)
runs_then gives s (Write id bytes next) f a u r t h k = (h.0, h.1, h.2, runs_then gives h.1 (next h.0) f a u r t h.3 k)
runs_then gives s (Close id next) f a u r t h k = (h.0, h.1, runs_then gives h.0 next f a u r t h.2 k)
runs_then gives s (Room next) f a u r t h k = (h.0, runs_then gives s (next h.0) f a u r t h.1 k)

-- one element more: the step of a loop that changes the elements of a list in order. old is the list as it was, xs as it is now
pub walk_more : {S A X : Type 0} (gives : S → LinkStep → S → Type 0) (f : A → X → Talk (A × X)) (old xs : List A) (i : ℕ) (a : A) (x : X) (s : S) (b : A) (y : X) (u : S) → i < length xs → drop i xs ≡ drop i old → Talks gives s (f (get_or xs i a) x) (b, y) u
    → (r : List A × X) (t : S) → Talks gives u (walk f (take (i + 1) (set xs i b)) (drop (i + 1) old) y) r t → Talks gives s (walk f (take i xs) (drop i old) x) r t
walk_more {A = A} {X = X} gives f old xs i a x s b y u lt same h r t k =
    let front : take (i + 1) (set xs i b) ≡ take i xs ++ b ∷ [] = take_more_set xs i b lt in
    let behind : drop (i + 1) old ≡ drop (i + 1) xs = sym (drop_more_same xs old i same) in
    let here : drop i old ≡ get_or xs i a ∷ drop (i + 1) xs = sym same ∙ drop_more xs i a lt in
    let now : Talks gives u (walk f (take i xs ++ b ∷ []) (drop (i + 1) xs) y) r t = subst (λ (l : List A). Talks gives u (walk f (take i xs ++ b ∷ []) l y) r t) behind (subst (λ (l : List A). Talks gives u (walk f l (drop (i + 1) old) y) r t) front k) in
    subst (λ (l : List A). Talks gives s (walk f (take i xs) l x) r t) (sym here)
    (runs_then gives s (f (get_or xs i a) x) (λ (q : A × X). walk f (take i xs ++ q.0 ∷ []) (drop (i + 1) xs) q.1) (b, y) u r t h now)

pub rest_same : {A : Type 0} (old xs : List A) (i : ℕ) (b : A) → drop i xs ≡ drop i old → drop (i + 1) (set xs i b) ≡ drop (i + 1) old
rest_same old xs i b same = drop-set-lt (i + 1) xs i b (omega arith) ∙ drop_more_same xs old i same

module _ {S X : Type 0} (gives : S → LinkStep → S → Type 0) (f : X → Talk (Bool × X)) where
  once : (n : ℕ) (s : S) (x : X) (b : Bool) (y : X) (u : S) → Talks gives s (f x) (b, y) u → (r : X) (t : S) → Talks gives u (cond b (upto f n y) (Return y)) r t → Talks gives s (upto f (suc n) x) r t
  unfolding upto
  once n s x b y u h r t k = runs_then gives s (f x) (λ (q : Bool × X). cond q.0 (upto f n q.1) (Return q.1)) (b, y) u r t h k

  less : (n i : ℕ) → i < n → n - i ≡ suc (n - (i + 1))
  less n i lt = omega arith

  -- the step of a loop that goes up to n times
  pub upto_more : (n i : ℕ) (s : S) (x : X) (b : Bool) (y : X) (u : S) → i < n → Talks gives s (f x) (b, y) u → b ≡ true → (r : X) (t : S) → Talks gives u (upto f (n - (i + 1)) y) r t → Talks gives s (upto f (n - i) x) r t
  upto_more n i s x b y u lt h e r t k =
      subst (λ (m : ℕ). Talks gives s (upto f m x) r t) (sym (less n i lt))
      (once (n - (i + 1)) s x b y u h r t (subst (λ (w : Bool). Talks gives u (cond w (upto f (n - (i + 1)) y) (Return y)) r t) (sym e) k))

  -- its early end
  pub upto_ends : (n i : ℕ) (s : S) (x : X) (b : Bool) (y : X) (u : S) → i < n → Talks gives s (f x) (b, y) u → b ≡ false → Talks gives s (upto f (n - i) x) y u
  upto_ends n i s x b y u lt h e =
      subst (λ (m : ℕ). Talks gives s (upto f m x) y u) (sym (less n i lt))
      (once (n - (i + 1)) s x b y u h y u (subst (λ (w : Bool). Talks gives u (cond w (upto f (n - (i + 1)) y) (Return y)) y u) (sym e) (refl, refl)))

  none_left : (m : ℕ) (s : S) (x : X) → m ≡ 0 → Talks gives s (upto f m x) x s
  unfolding upto
  none_left m s x e = subst (λ (k : ℕ). Talks gives s (upto f k x) x s) (sym e) (refl, refl)

  -- its end
  pub upto_done : (n i : ℕ) (s : S) (x : X) → n ≤ i → Talks gives s (upto f (n - i) x) x s
  upto_done n i s x le = none_left (n - i) s x (omega arith)
