-- The ways through a tree: whether room was granted wherever it was asked for, the calls with their answers, and what each ends with.
use Rattle.std.proofs.Common.{◌≡◌, Bool, true, false, ◌&&◌, List, [], ◌∷◌, ◌++◌, refl, sym, ◌∙◌, ap, subst, append_assoc, append-nil}
use Rattle.ug_kernel.specs.Calls.{Call, Answer}
use Rattle.ug_kernel.specs.Kernel.{Kernel, IsKernel}
use Rattle.ug_kernel.specs.Quiet.{Quiet, Grows}
use Rattle.ug_kernel.proofs.Quiet.{WritesNothing, quiet_refl, quiet_trans, called_quiet}
use Rattle.ug_kernel.proofs.Grow.{grows_refl, grows_trans, called_grows}
use Rattle.ug_kernel.specs.Tree.{Prog, Return, Ask, Room, Runs, then, calls}
use Rattle.ug_kernel.specs.declared.calls.FailedCall.{FailedCall}
use Rattle.ug_kernel.specs.Along.{Made, made_with, Along, failure, failures}

-- each way has P of its room, its calls and its end
abbrev pub Ways : {R : Type 0} → Prog R → (Bool → List Made → R → Type 0) → Type 0
Ways (Return value) P = P true [] value
Ways (Ask call next) P = (a : Answer call) → Ways (next a) (λ ok ms r. P ok (made_with call a ∷ ms) r)
Ways (Room next) P = (b : Bool) → Ways (next b) (λ ok ms r. P (b && ok) ms r)

-- no room was refused on it, and it has P
abbrev pub Sure : {R : Type 0} → (List Made → R → Type 0) → Bool → List Made → R → Type 0
Sure P ok ms r = (ok ≡ true) × P ms r

-- these calls are one
abbrev pub Way : {R : Type 0} → Prog R → List Made → R → Type 0
Way (Return value) ms r = (ms ≡ []) × (r ≡ value)
Way (Ask call next) ms r = (a : Answer call) × (later : List Made) × (ms ≡ made_with call a ∷ later) × Way (next a) later r
Way (Room next) ms r = (b : Bool) × Way (next b) ms r

pub ways_more : {R : Type 0} (P Q : Bool → List Made → R → Type 0) (p : Prog R) → ((ok : Bool) (ms : List Made) (r : R) → P ok ms r → Q ok ms r) → Ways p P → Ways p Q
ways_more P Q (Return value) f w = f true [] value w
ways_more P Q (Ask call next) f w = λ a. ways_more (λ ok ms r. P ok (made_with call a ∷ ms) r) (λ ok ms r. Q ok (made_with call a ∷ ms) r) (next a) (λ ok ms r. f ok (made_with call a ∷ ms) r) (w a)
ways_more P Q (Room next) f w = λ b. ways_more (λ ok ms r. P (b && ok) ms r) (λ ok ms r. Q (b && ok) ms r) (next b) (λ ok ms r. f (b && ok) ms r) (w b)

-- one tree, and then what each of its ways leads to
pub ways_then : {A B : Type 0} (P : Bool → List Made → B → Type 0) (p : Prog A) (f : A → Prog B) → Ways p (λ ok ms a. Ways (f a) (λ more ns r. P (ok && more) (ms ++ ns) r)) → Ways (then p f) P
ways_then P (Return value) f w = w
ways_then P (Ask call next) f w = λ a. ways_then (λ ok ms r. P ok (made_with call a ∷ ms) r) (next a) f (w a)
ways_then P (Room next) f w = λ b. ways_then (λ ok ms r. P (b && ok) ms r) (next b) f
    (ways_more (λ ok ms a. Ways (f a) (λ more ns r. P ((b && ok) && more) (ms ++ ns) r)) (λ ok ms a. Ways (f a) (λ more ns r. P (b && (ok && more)) (ms ++ ns) r)) (next b)
    (λ ok ms a k. ways_more (λ more ns r. P ((b && ok) && more) (ms ++ ns) r) (λ more ns r. P (b && (ok && more)) (ms ++ ns) r) (f a) (λ more ns r x. back b ok more ms ns r x) k) (w b))
  where
    back : (b ok more : Bool) (ms ns : List Made) (r : _) → P ((b && ok) && more) (ms ++ ns) r → P (b && (ok && more)) (ms ++ ns) r
    back true ok more ms ns r x = x
    back false ok more ms ns r x = x

pub ways_next : {A B : Type 0} (P : Bool → List Made → A → Type 0) (Q : Bool → List Made → B → Type 0) (p : Prog A) (f : A → Prog B) → Ways p P → ((ok : Bool) (ms : List Made) (a : A) → P ok ms a → Ways (f a) (λ more ns r. Q (ok && more) (ms ++ ns) r)) → Ways (then p f) Q
ways_next P Q p f w k = ways_then Q p f (ways_more P (λ ok ms a. Ways (f a) (λ more ns r. Q (ok && more) (ms ++ ns) r)) p k w)

and_true : (b : Bool) → (b && true) ≡ b
and_true true = refl
and_true false = refl

-- one whose end is turned into another
pub ways_last : {A B : Type 0} (P : Bool → List Made → A → Type 0) (Q : Bool → List Made → B → Type 0) (p : Prog A) (f : A → Prog B) (g : A → B) → ((a : A) → f a ≡ Return (g a)) → Ways p P → ((ok : Bool) (ms : List Made) (a : A) → P ok ms a → Q ok ms (g a)) → Ways (then p f) Q
ways_last P Q p f g e w k = ways_next P Q p f w (λ ok ms a h. subst (λ v. Ways v (λ more ns r. Q (ok && more) (ms ++ ns) r)) (sym (e a)) (subst (λ b. Q b (ms ++ []) (g a)) (sym (and_true ok)) (subst (λ v. Q ok v (g a)) (sym (append-nil ms)) (k ok ms a h))))

-- behind one that asks for no room
pub behind_sure : {A B : Type 0} (P : List Made → A → Type 0) (Q : Bool → List Made → B → Type 0) (p : Prog A) (f : A → Prog B) → Ways p (Sure P) → ((ms : List Made) (a : A) → P ms a → Ways (f a) (λ ok ns r. Q ok (ms ++ ns) r)) → Ways (then p f) Q
behind_sure P Q p f w k = ways_next (Sure P) Q p f w (λ ok ms a h. subst (λ b. Ways (f a) (λ more ns r. Q (b && more) (ms ++ ns) r)) (sym h.0) (k ms a h.1))

-- and whose end is turned into another
pub sure_last : {A B : Type 0} (P : List Made → A → Type 0) (Q : Bool → List Made → B → Type 0) (p : Prog A) (f : A → Prog B) (g : A → B) → ((a : A) → f a ≡ Return (g a)) → Ways p (Sure P) → ((ms : List Made) (a : A) → P ms a → Q true ms (g a)) → Ways (then p f) Q
sure_last P Q p f g e w k = behind_sure P Q p f w (λ ms a h. subst (λ v. Ways v (λ ok ns r. Q ok (ms ++ ns) r)) (sym (e a)) (subst (λ v. Q true v (g a)) (sym (append-nil ms)) (k ms a h)))

-- each way is one
pub ways_all : {R : Type 0} (p : Prog R) → Ways p (λ ok ms r. Way p ms r)
ways_all (Return value) = (refl, refl)
ways_all (Ask call next) = λ a. ways_more (λ ok ms r. Way (next a) ms r) (λ ok ms r. Way (Ask call next) (made_with call a ∷ ms) r) (next a) (λ ok ms r h. (a, ms, refl, h)) (ways_all (next a))
ways_all (Room next) = λ b. ways_more (λ ok ms r. Way (next b) ms r) (λ ok ms r. Way (Room next) ms r) (next b) (λ ok ms r h. (b, h)) (ways_all (next b))

pub ways_of : {R : Type 0} (P : List Made → R → Type 0) (p : Prog R) (ms : List Made) (r : R) → Ways p (λ ok ns x. P ns x) → Way p ms r → P ms r
ways_of P (Return value) ms r w h = subst (λ v. P v r) (sym h.0) (subst (λ v. P [] v) (sym h.1) w)
ways_of P (Ask call next) ms r w h = subst (λ v. P v r) (sym h.2) (ways_of (λ ns x. P (made_with call h.0 ∷ ns) x) (next h.0) h.1 r (w h.0) h.3)
ways_of P (Room next) ms r w h = ways_of P (next h.0) ms r (w h.0) h.1

pub ways_both : {R : Type 0} (P Q : Bool → List Made → R → Type 0) (p : Prog R) → Ways p P → Ways p Q → Ways p (λ ok ms r. P ok ms r × Q ok ms r)
ways_both P Q (Return value) a b = (a, b)
ways_both P Q (Ask call next) a b = λ x. ways_both (λ ok ms r. P ok (made_with call x ∷ ms) r) (λ ok ms r. Q ok (made_with call x ∷ ms) r) (next x) (a x) (b x)
ways_both P Q (Room next) a b = λ x. ways_both (λ ok ms r. P (x && ok) ms r) (λ ok ms r. Q (x && ok) ms r) (next x) (a x) (b x)

-- of a tree that asks for no room, each way is one on which none was refused
pub sure_ways : {R : Type 0} (P : List Made → R → Type 0) (p : Prog R) → Ways p (Sure P) → Ways p (Sure (Way p))
sure_ways P p w = ways_more (λ ok ms r. Sure P ok ms r × Way p ms r) (Sure (Way p)) p (λ ok ms r h. (h.0.0, h.1)) (ways_both (Sure P) (λ ok ms r. Way p ms r) p w (ways_all p))

-- a run goes along one
pub record Went {S R : Type 0} (gives : S → (call : Call) → Answer call → S → Type 0) (P : Bool → List Made → R → Type 0) (s : S) (r : R) (t : S) : Type 0 where
  pub granted : Bool
  pub made : List Made
  pub along : Along gives s made t
  pub so : P granted made r

pub ways_run : {S R : Type 0} (gives : S → (call : Call) → Answer call → S → Type 0) (P : Bool → List Made → R → Type 0) (p : Prog R) (s : S) (r : R) (t : S) → Ways p P → Runs gives s p r t → Went gives P s r t
ways_run gives P (Return value) s r t w h = record { granted = true; made = []; along = h.1; so = subst (λ v. P true [] v) (sym h.0) w }
ways_run gives P (Ask call next) s r t w h =
    let k = ways_run gives (λ ok ms x. P ok (made_with call h.0 ∷ ms) x) (next h.0) h.1 r t (w h.0) h.3 in
    record { granted = k.granted; made = made_with call h.0 ∷ k.made; along = (h.1, h.2, k.along); so = k.so }
ways_run gives P (Room next) s r t w h =
    let k = ways_run gives (λ ok ms x. P (h.0 && ok) ms x) (next h.0) s r t (w h.0) h.1 in
    record { granted = h.0 && k.granted; made = k.made; along = k.along; so = k.so }

-- and whatever goes along a way is a run
pub way_runs : {S R : Type 0} (gives : S → (call : Call) → Answer call → S → Type 0) (p : Prog R) (ms : List Made) (s : S) (r : R) (t : S) → Way p ms r → Along gives s ms t → Runs gives s p r t
way_runs gives (Return value) ms s r t h a = (h.1, subst (λ v. Along gives s v t) h.0 a)
way_runs gives (Ask call next) ms s r t h a =
    let k = subst (λ v. Along gives s v t) h.2 a in
    (h.0, k.0, k.1, way_runs gives (next h.0) h.1 k.0 r t h.3 k.2)
way_runs gives (Room next) ms s r t h a = (h.0, way_runs gives (next h.0) ms s r t h.1 a)

-- calls in a row

pub failures_more : (ms ns : List Made) → failures (ms ++ ns) ≡ failures ms ++ failures ns
failures_more [] ns = refl
failures_more (m ∷ ms) ns = ap (λ (v : List FailedCall). failure m.call m.answer ++ v) (failures_more ms ns) ∙ sym (append_assoc (failure m.call m.answer) (failures ms) (failures ns))

pub along_split : {S : Type 0} (gives : S → (call : Call) → Answer call → S → Type 0) (ms ns : List Made) (s t : S) → Along gives s (ms ++ ns) t → (u : S) × Along gives s ms u × Along gives u ns t
along_split gives [] ns s t a = (s, refl, a)
along_split gives (m ∷ ms) ns s t a = let k = along_split gives ms ns a.0 t a.2 in (k.0, (a.0, a.1, k.1), k.2)

pub along_sound : (ms : List Made) (k l : Kernel) → IsKernel k → Along calls k ms l → IsKernel l
along_sound [] k l s a = subst (λ v. IsKernel v) (sym a) s
along_sound (m ∷ ms) k l s a = along_sound ms a.0 l a.1.sound a.2

pub along_grows : (ms : List Made) (k l : Kernel) → Along calls k ms l → Grows k l
along_grows [] k l a = subst (λ v. Grows k v) (sym a) (grows_refl k)
along_grows (m ∷ ms) k l a = grows_trans k a.0 l (called_grows m.call m.answer k a.0 a.1) (along_grows ms a.0 l a.2)

-- none of them is a write
abbrev pub Unwritten : List Made → Type 0
Unwritten [] = Unit {0}
Unwritten (m ∷ ms) = WritesNothing m.call × Unwritten ms

pub unwritten_more : (ms ns : List Made) → Unwritten ms → Unwritten ns → Unwritten (ms ++ ns)
unwritten_more [] ns a b = b
unwritten_more (m ∷ ms) ns a b = (a.0, unwritten_more ms ns a.1 b)

pub along_quiet : (ms : List Made) (k l : Kernel) → Unwritten ms → Along calls k ms l → Quiet k l
along_quiet [] k l w a = subst (λ v. Quiet k v) (sym a) (quiet_refl k)
along_quiet (m ∷ ms) k l w a = quiet_trans k a.0 l (called_quiet m.call m.answer k a.0 w.0 a.1) (along_quiet ms a.0 l w.1 a.2)
