-- The writes that bring a device to its verdict, one behind another.
use Rattle.std.proofs.Common.{◌≡◌, ◌&&◌, ℕ, Bool, true, false, List, Option, Some, None, sym, subst, refl, arith, ◌+◌}
use Rattle.ug_kernel.proofs.Runs.{runs_then}
use Rattle.ug_kernel.specs.Tree.{Return}
use Rattle.ug_audit.specs.declared.journal.Journal.{Journal}
use Rattle.ug_audit.specs.Journal.{Notes, AuditorTold}
use Rattle.ug_table.proofs.Common.{Call, Answer, Entry, Runs, Write, Known, Settled, after_default, after_value, bringing, by_default, close_gone, default_due, defaulted_known, if_to_go, is_to_go, once, stands, treating, valuing, writing}

pub behind_value : {S : Type 0} (gives : S → (call : Call) → Answer call → S → Type 0) (name : List ℕ) (known : Known) (on : Bool) (es : List Entry) (s u t : S) (p r : Settled × List Entry) → Runs gives s (valuing name known on es) p u → Runs gives u (after_value name known p.1 p.0) r t → Runs gives s (writing name known on es) r t
unfolding writing
behind_value gives name known on es s u t p r h k = runs_then gives s (valuing name known on es) (λ (q : Settled × List Entry). after_value name known q.1 q.0) p u r t h k

pub behind_writes : {S : Type 0} (gives : S → (call : Call) → Answer call → S → Type 0) (name : List ℕ) (known : Known) (on : Bool) (es : List Entry) (s u t : S) (p r : Settled × List Entry) → Runs gives s (writing name known on es) p u → Runs gives u (close_gone known.held.0 p.1 p.0) r t → Runs gives s (bringing name known on es) r t
unfolding bringing
behind_writes gives name known on es s u t p r h k = runs_then gives s (writing name known on es) (λ (q : Settled × List Entry). close_gone known.held.0 q.1 q.0) p u r t h k

pub behind_default : {S : Type 0} (gives : S → (call : Call) → Answer call → S → Type 0) (hub : Option Write) (name : List ℕ) (known : Known) (on : Bool) (es : List Entry) (what : Write) (s u t : S) (p : Settled × List Entry) (r : Settled × Bool × List Entry) → default_due hub name known ≡ Some what → Runs gives s (once name known what es) p u → Runs gives u (after_default name known on p.1 p.0) r t → Runs gives s (treating hub name known on es) r t
unfolding treating
behind_default gives hub name known on es what s u t p r e h k =
    subst (λ (o : Option Write). Runs gives s (by_default name known on es o) r t) (sym e)
    (runs_then gives s (once name known what es) (λ (q : Settled × List Entry). after_default name known on q.1 q.0) p u r t h k)

pub without_default : {S : Type 0} (gives : S → (call : Call) → Answer call → S → Type 0) (hub : Option Write) (name : List ℕ) (known : Known) (on : Bool) (es : List Entry) (s t : S) (p : Settled × List Entry) → default_due hub name known ≡ None → Runs gives s (bringing name known on es) p t → Runs gives s (treating hub name known on es) (p.0, false, p.1) t
unfolding treating
without_default gives hub name known on es s t p e h =
    subst (λ (o : Option Write). Runs gives s (by_default name known on es o) (p.0, false, p.1) t) (sym e)
    (runs_then gives s (bringing name known on es) (λ (q : Settled × List Entry). Return (q.0, false, q.1)) p t (p.0, false, p.1) t h (refl, refl))

pub stands_so : (how : Settled) → stands how ≡ true → how ≡ Settled.Stands
stands_so Settled.Stands e = refl
stands_so Settled.Nobody e = let none : ⊥ = cc in absurd none
stands_so (Settled.Fault failed) e = let none : ⊥ = cc in absurd none
stands_so Settled.Memory e = let none : ⊥ = cc in absurd none

-- the value stands where a device is removed behind it
pub stands_to_go : (known : Known) (how : Settled) → (stands how && is_to_go known) ≡ true → how ≡ Settled.Stands
stands_to_go known Settled.Stands e = refl
stands_to_go known Settled.Nobody e = let none : ⊥ = cc in absurd none
stands_to_go known (Settled.Fault failed) e = let none : ⊥ = cc in absurd none
stands_to_go known Settled.Memory e = let none : ⊥ = cc in absurd none

pub then_removed : {S : Type 0} (gives : S → (call : Call) → Answer call → S → Type 0) (name : List ℕ) (known : Known) (on : Bool) (es : List Entry) (s u t : S) (p r : Settled × List Entry) → Runs gives s (valuing name known on es) p u → (stands p.0 && is_to_go known) ≡ true → Runs gives u (once name known Write.Remove p.1) r t → Runs gives s (writing name known on es) r t
then_removed gives name known on es s u t p r h e k = behind_value gives name known on es s u t p r h (by p.0 e)
  where
    by : (how : Settled) → (stands how && is_to_go known) ≡ true → Runs gives u (after_value name known p.1 how) r t
    by Settled.Stands b = subst (λ (v : Bool). Runs gives u (if_to_go name known p.1 v) r t) (sym b) k
    by Settled.Nobody b = let none : ⊥ = cc in absurd none
    by (Settled.Fault failed) b = let none : ⊥ = cc in absurd none
    by Settled.Memory b = let none : ⊥ = cc in absurd none

pub value_alone : {S : Type 0} (gives : S → (call : Call) → Answer call → S → Type 0) (name : List ℕ) (known : Known) (on : Bool) (es : List Entry) (s u : S) (p : Settled × List Entry) → Runs gives s (valuing name known on es) p u → (stands p.0 && is_to_go known) ≡ false → Runs gives s (writing name known on es) p u
value_alone gives name known on es s u p h e = behind_value gives name known on es s u u p p h (by p.0 e)
  where
    by : (how : Settled) → (stands how && is_to_go known) ≡ false → Runs gives u (after_value name known p.1 how) (how, p.1) u
    by Settled.Stands b = subst (λ (v : Bool). Runs gives u (if_to_go name known p.1 v) (Settled.Stands, p.1) u) (sym b) (refl, refl)
    by Settled.Nobody b = (refl, refl)
    by (Settled.Fault failed) b = (refl, refl)
    by Settled.Memory b = (refl, refl)

pub none_to_close : {S : Type 0} (gives : S → (call : Call) → Answer call → S → Type 0) (held : ℕ) (s : S) (how : Settled) (es : List Entry) → (how ≡ Settled.Nobody → ⊥) → Runs gives s (close_gone held es how) (how, es) s
none_to_close gives held s Settled.Nobody es n = absurd (n refl)
none_to_close gives held s Settled.Stands es n = (refl, refl)
none_to_close gives held s (Settled.Fault failed) es n = (refl, refl)
none_to_close gives held s Settled.Memory es n = (refl, refl)

pub default_done : {S : Type 0} (gives : S → (call : Call) → Answer call → S → Type 0) (hub : Option Write) (name : List ℕ) (known : Known) (on : Bool) (es : List Entry) (what : Write) (s u t : S) (p r : Settled × List Entry) → default_due hub name known ≡ Some what → Runs gives s (once name known what es) p u → stands p.0 ≡ true → Runs gives u (bringing name (defaulted_known known) on p.1) r t → Runs gives s (treating hub name known on es) (r.0, true, r.1) t
default_done gives hub name known on es what s u t p r e h stood k = behind_default gives hub name known on es what s u t p (r.0, true, r.1) e h (by p.0 stood)
  where
    by : (how : Settled) → stands how ≡ true → Runs gives u (after_default name known on p.1 how) (r.0, true, r.1) t
    by Settled.Stands b = runs_then gives u (bringing name (defaulted_known known) on p.1) (λ (q : Settled × List Entry). Return (q.0, true, q.1)) r t (r.0, true, r.1) t k (refl, refl)
    by Settled.Nobody b = let none : ⊥ = cc in absurd none
    by (Settled.Fault failed) b = let none : ⊥ = cc in absurd none
    by Settled.Memory b = let none : ⊥ = cc in absurd none

pub default_cut : {S : Type 0} (gives : S → (call : Call) → Answer call → S → Type 0) (hub : Option Write) (name : List ℕ) (known : Known) (on : Bool) (es : List Entry) (what : Write) (s u t : S) (p : Settled × List Entry) → default_due hub name known ≡ Some what → Runs gives s (once name known what es) p u → stands p.0 ≡ false → Runs gives u (close_gone known.held.0 p.1 p.0) p t → Runs gives s (treating hub name known on es) (p.0, false, p.1) t
default_cut gives hub name known on es what s u t p e h stopped k = behind_default gives hub name known on es what s u t p (p.0, false, p.1) e h (by p.0 stopped k)
  where
    by : (how : Settled) → stands how ≡ false → Runs gives u (close_gone known.held.0 p.1 how) (how, p.1) t → Runs gives u (after_default name known on p.1 how) (how, false, p.1) t
    by Settled.Stands b c = let none : ⊥ = cc in absurd none
    by Settled.Nobody b c = (c.0, c.1, c.2, (refl, c.3.1))
    by (Settled.Fault failed) b c = (refl, c.1)
    by Settled.Memory b c = (refl, c.1)

-- what is noted leaves more places than so many
pub notes_more : {X : Type 0} {F : X → Type 0} (told : AuditorTold X F) (n more : ℕ) (a b : Journal X F) → Notes told n a b → Notes told (n + more) a b
notes_more told n more a b h = (h.0, h.1, omega (arith, h.2))
