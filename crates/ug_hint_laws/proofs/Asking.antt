-- Trees that ask alike, by the answers that a call may have where it doesn't fail and gets its memory.
use Rattle.std.proofs.Common.{◌≡◌, ℕ, Bool, if◌then◌else◌, List, [], ◌∷◌, ◌++◌, refl, ◌∙◌, ap, subst, append_assoc}
use Rattle.ug_kernel.specs.declared.control.Control.{Control}
use Rattle.ug_kernel.specs.declared.control.Held.{Held}
use Rattle.ug_kernel.specs.declared.control.Attr.{Attr}
use Rattle.ug_kernel.specs.declared.control.Write.{Write}
use Rattle.ug_kernel.specs.declared.calls.Opened.{Opened}
use Rattle.ug_kernel.specs.declared.calls.ReadOut.{ReadOut}
use Rattle.ug_kernel.specs.declared.calls.Probe.{Probe}
use Rattle.ug_kernel.specs.declared.calls.Wrote.{Wrote}
use Rattle.ug_kernel.specs.declared.calls.FailedCall.{FailedCall}
use Rattle.ug_kernel.specs.Along.{failure_of}
use Rattle.ug_kernel.specs.Calls.{Open, Read, Ask_alive, Put, Close, failed_open, failed_read, is_probe_failed, failed_put}
use Rattle.ug_kernel.specs.Tree.{Prog, Ask}
use Rattle.ug_audit.specs.declared.entry.Entry.{Entry}
use Rattle.ug_hint_laws.proofs.Alike.{Alike, Asks}

-- the same was added to both
pub record Beside (a b e f : List Entry) : Type 0 where
  pub es : List Entry
  pub one : e ≡ a ++ es
  pub other : f ≡ b ++ es

pub beside_more : (a b e f xs : List Entry) → Beside a b e f → Beside a b (e ++ xs) (f ++ xs)
beside_more a b e f xs x = record {
  es = x.es ++ xs;
  one = ap (λ (v : List Entry). v ++ xs) x.one ∙ append_assoc a x.es xs;
  other = ap (λ (v : List Entry). v ++ xs) x.other ∙ append_assoc b x.es xs;
}

module _ (P : List ℕ → Type 0) {A B : Type 0} (R : A → B → Type 0) where
  pub asks_probe : (held : ℕ) (f : Probe → FailedCall → Prog A) (g : Probe → FailedCall → Prog B)
      → ((on : Bool) (x y : FailedCall) → Alike P R (f (Probe.Alive on) x) (g (Probe.Alive on) y))
      → ((x y : FailedCall) → Alike P R (f Probe.Gone x) (g Probe.Gone y))
      → Alike P R (Ask (Ask_alive held) (λ t. f t.answer (failure_of t))) (Ask (Ask_alive held) (λ t. g t.answer (failure_of t)))
  asks_probe held f g alive gone = Asks (Ask_alive held) (λ t. f t.answer (failure_of t)) (λ t. g t.answer (failure_of t)) tt (λ a b same good fine. by a.answer b.answer (failure_of a) (failure_of b) same good.calm)
    where
      by : (r s : Probe) (x y : FailedCall) → r ≡ s → (if is_probe_failed r then x ∷ [] else []) ≡ [] → Alike P R (f r x) (g s y)
      by (Probe.Alive on) s x y e calm = subst (λ (v : Probe). Alike P R (f (Probe.Alive on) x) (g v y)) e (alive on x y)
      by Probe.Gone s x y e calm = subst (λ (v : Probe). Alike P R (f Probe.Gone x) (g v y)) e (gone x y)
      by Probe.Failed s x y e calm = let none : ⊥ = cc in absurd none

  pub asks_open : (name : List ℕ) (control : Control) (f : Opened → FailedCall → Prog A) (g : Opened → FailedCall → Prog B)
      → ((held : Held) (x y : FailedCall) → Alike P R (f (Opened.Token held) x) (g (Opened.Token held) y))
      → ((x y : FailedCall) → Alike P R (f Opened.Absent x) (g Opened.Absent y))
      → Alike P R (Ask (Open name control) (λ t. f t.answer (failure_of t))) (Ask (Open name control) (λ t. g t.answer (failure_of t)))
  asks_open name control f g token absent = Asks (Open name control) (λ t. f t.answer (failure_of t)) (λ t. g t.answer (failure_of t)) tt (λ a b same good fine. by a.answer b.answer (failure_of a) (failure_of b) same good.calm good.granted)
    where
      by : (r s : Opened) (x y : FailedCall) → r ≡ s → (if failed_open r then x ∷ [] else []) ≡ [] → (r ≡ Opened.Memory → ⊥) → Alike P R (f r x) (g s y)
      by (Opened.Token held) s x y e calm granted = subst (λ (v : Opened). Alike P R (f (Opened.Token held) x) (g v y)) e (token held x y)
      by Opened.Absent s x y e calm granted = subst (λ (v : Opened). Alike P R (f Opened.Absent x) (g v y)) e (absent x y)
      by Opened.Failed s x y e calm granted = let none : ⊥ = cc in absurd none
      by Opened.Memory s x y e calm granted = absurd (granted refl)

  pub asks_read : (name : List ℕ) (attr : Attr) → P name → (f : ReadOut → FailedCall → Prog A) (g : ReadOut → FailedCall → Prog B)
      → ((bytes : List ℕ) (x y : FailedCall) → Alike P R (f (ReadOut.Bytes bytes) x) (g (ReadOut.Bytes bytes) y))
      → ((x y : FailedCall) → Alike P R (f ReadOut.Absent x) (g ReadOut.Absent y))
      → ((x y : FailedCall) → Alike P R (f ReadOut.TooLong x) (g ReadOut.TooLong y))
      → Alike P R (Ask (Read name attr) (λ t. f t.answer (failure_of t))) (Ask (Read name attr) (λ t. g t.answer (failure_of t)))
  asks_read name attr lives f g bytes absent long = Asks (Read name attr) (λ t. f t.answer (failure_of t)) (λ t. g t.answer (failure_of t)) lives (λ a b same good fine. by a.answer b.answer (failure_of a) (failure_of b) same good.calm good.granted)
    where
      by : (r s : ReadOut) (x y : FailedCall) → r ≡ s → (if failed_read r then x ∷ [] else []) ≡ [] → (r ≡ ReadOut.Memory → ⊥) → Alike P R (f r x) (g s y)
      by (ReadOut.Bytes text) s x y e calm granted = subst (λ (v : ReadOut). Alike P R (f (ReadOut.Bytes text) x) (g v y)) e (bytes text x y)
      by ReadOut.Absent s x y e calm granted = subst (λ (v : ReadOut). Alike P R (f ReadOut.Absent x) (g v y)) e (absent x y)
      by ReadOut.TooLong s x y e calm granted = subst (λ (v : ReadOut). Alike P R (f ReadOut.TooLong x) (g v y)) e (long x y)
      by ReadOut.Failed s x y e calm granted = let none : ⊥ = cc in absurd none
      by ReadOut.Memory s x y e calm granted = absurd (granted refl)

  pub asks_put : (held : ℕ) (what : Write) (f : Wrote → FailedCall → Prog A) (g : Wrote → FailedCall → Prog B)
      → ((x y : FailedCall) → Alike P R (f Wrote.Done x) (g Wrote.Done y))
      → ((x y : FailedCall) → Alike P R (f Wrote.Gone x) (g Wrote.Gone y))
      → Alike P R (Ask (Put held what) (λ t. f t.answer (failure_of t))) (Ask (Put held what) (λ t. g t.answer (failure_of t)))
  asks_put held what f g done gone = Asks (Put held what) (λ t. f t.answer (failure_of t)) (λ t. g t.answer (failure_of t)) tt (λ a b same good fine. by a.answer b.answer (failure_of a) (failure_of b) same good.calm)
    where
      by : (r s : Wrote) (x y : FailedCall) → r ≡ s → (if failed_put r then x ∷ [] else []) ≡ [] → Alike P R (f r x) (g s y)
      by Wrote.Done s x y e calm = subst (λ (v : Wrote). Alike P R (f Wrote.Done x) (g v y)) e (done x y)
      by Wrote.Gone s x y e calm = subst (λ (v : Wrote). Alike P R (f Wrote.Gone x) (g v y)) e (gone x y)
      by Wrote.Failed s x y e calm = let none : ⊥ = cc in absurd none

  pub asks_close : (held : ℕ) (p : Prog A) (q : Prog B) → Alike P R p q → Alike P R (Ask (Close held) (λ shut. p)) (Ask (Close held) (λ shut. q))
  asks_close held p q x = Asks (Close held) (λ shut. p) (λ shut. q) tt (λ a b same good fine. x)
