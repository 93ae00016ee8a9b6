-- The numbers of calls and of failures rise along a run.
use Rattle.std.proofs.Common.{◌≡◌, ℕ, ◌-◌, ◌^◌, ◌<◌, ◌≤◌, Bool, true, false, cond, List, [], ◌∷◌, ◌++◌, refl, sym, subst, ◌∙◌, arith}
use Rattle.ug_kernel.specs.Calls.{Call, Names, Open, Read, Ask_alive, Put, Close, ToldAnswer, Answer, Counted, Counts, failed_listing, failed_open, failed_read, is_probe_failed, failed_put}
use Rattle.ug_kernel.specs.declared.calls.FailedCall.{FailedCall}
use Rattle.ug_kernel.specs.Along.{Made, Along, failure_if, failure, failures, number_after, IsNext, AreNumbered, IsAbove, Rises}

-- the rule of counting, of an outside's states
abbrev pub Counting : {S : Type 0} → (S → (call : Call) → Answer call → S → Type 0) → (S → ℕ) → (S → ℕ) → Type 0
Counting {S} gives calls faults = (s : S) (call : Call) (answer : Answer call) (t : S) → gives s call answer t → Counts call answer (calls s) (faults s) (calls t) (faults t)

is_next : (call : Call) (answer : Answer call) (c f d g : ℕ) → Counts call answer c f d g → IsNext c call answer × (number_after c call answer ≡ d)
is_next Names answer c f d g h = (h.number ∙ h.call, h.number)
is_next (Open name control) answer c f d g h = (h.number ∙ h.call, h.number)
is_next (Read name attr) answer c f d g h = (h.number ∙ h.call, h.number)
is_next (Ask_alive held) answer c f d g h = (h.number ∙ h.call, h.number)
is_next (Put held write) answer c f d g h = (h.number ∙ h.call, h.number)
is_next (Close held) answer c f d g h = (tt, sym h.0)

pub along_numbered : {S : Type 0} (gives : S → (call : Call) → Answer call → S → Type 0) (calls faults : S → ℕ) → Counting gives calls faults → (ms : List Made) (s t : S) → Along gives s ms t → AreNumbered (calls s) ms
along_numbered gives calls faults counted [] s t h = tt
along_numbered gives calls faults counted (m ∷ ms) s t h =
    let k = is_next m.call m.answer (calls s) (faults s) (calls h.0) (faults h.0) (counted s m.call m.answer h.0 h.1) in
    (k.0, subst (λ (v : ℕ). AreNumbered v ms) (sym k.1) (along_numbered gives calls faults counted ms h.0 t h.2))

above_lower : (c d x : ℕ) → c ≤ d → IsAbove d x → IsAbove c x
above_lower c d x p h =
    let e : d ≤ x = h.0 in
    let r : d < 2 ^ 64 - 1 → d < x = h.1 in
    (omega (arith, e, p), λ low. grind (arith, r, e, p, low))

-- they rise from lower numbers too
from_lower : (c d f g : ℕ) (fs : List FailedCall) → c ≤ d → f ≤ g → Rises d g fs → Rises c f fs
from_lower c d f g [] p q h = tt
from_lower c d f g (x ∷ fs) p q h = (above_lower c d x.call p h.0, above_lower f g x.count q h.1, h.2)

rises_by : (failed : Bool) (number count c f d g : ℕ) (fs : List FailedCall) → number ≡ d → count ≡ g → c < 2 ^ 64 → (c ≤ d) × (c < 2 ^ 64 - 1 → c < d) → f ≤ g → (failed ≡ true → f < 2 ^ 64 - 1 → f < g) → Rises d g fs → Rises c f (cond failed (record { call = number; count = count } ∷ []) [] ++ fs)
rises_by true number count c f d g fs n k low up falls rises h = (
  (omega (arith, n, up.0), λ l. omega (arith, n, up.1 l)),
  (omega (arith, k, falls), λ l. omega (arith, k, rises refl l)),
  subst (λ (v : ℕ). Rises v count fs) (sym n) (subst (λ (v : ℕ). Rises d v fs) (sym k) h),
)
rises_by false number count c f d g fs n k low up falls rises h = from_lower c d f g fs up.0 falls h

rises_counted : {X : Type 0} (failed : X → Bool) (told : ToldAnswer X) (c f d g : ℕ) (fs : List FailedCall) → c < 2 ^ 64 → Counted failed told c f d g → Rises d g fs → Rises c f (failure_if failed told ++ fs)
rises_counted failed told c f d g fs low h r = rises_by (failed told.answer) told.number told.count c f d g fs h.number h.count low (omega (arith, h.call), λ l. omega (arith, h.call)) h.never_falls h.rises r

rises_one : (call : Call) (answer : Answer call) (c f d g : ℕ) (fs : List FailedCall) → c < 2 ^ 64 → Counts call answer c f d g → Rises d g fs → Rises c f (failure call answer ++ fs)
rises_one Names answer c f d g fs low h r = rises_counted failed_listing answer c f d g fs low h r
rises_one (Open name control) answer c f d g fs low h r = rises_counted failed_open answer c f d g fs low h r
rises_one (Read name attr) answer c f d g fs low h r = rises_counted failed_read answer c f d g fs low h r
rises_one (Ask_alive held) answer c f d g fs low h r = rises_counted is_probe_failed answer c f d g fs low h r
rises_one (Put held write) answer c f d g fs low h r = rises_counted failed_put answer c f d g fs low h r
rises_one (Close held) answer c f d g fs low h r = subst (λ (v : ℕ). Rises v f fs) h.0 (subst (λ (v : ℕ). Rises d v fs) h.1 r)

stays_low : (call : Call) (answer : Answer call) (c f d g : ℕ) → c < 2 ^ 64 → Counts call answer c f d g → d < 2 ^ 64
stays_low Names answer c f d g low h = omega (arith, h.call)
stays_low (Open name control) answer c f d g low h = omega (arith, h.call)
stays_low (Read name attr) answer c f d g low h = omega (arith, h.call)
stays_low (Ask_alive held) answer c f d g low h = omega (arith, h.call)
stays_low (Put held write) answer c f d g low h = omega (arith, h.call)
stays_low (Close held) answer c f d g low h = omega (arith, h.0)

pub along_rises : {S : Type 0} (gives : S → (call : Call) → Answer call → S → Type 0) (calls faults : S → ℕ) → Counting gives calls faults → (ms : List Made) (s t : S) → calls s < 2 ^ 64 → Along gives s ms t → Rises (calls s) (faults s) (failures ms)
along_rises gives calls faults counted [] s t low h = tt
along_rises gives calls faults counted (m ∷ ms) s t low h =
    let k = counted s m.call m.answer h.0 h.1 in
    rises_one m.call m.answer (calls s) (faults s) (calls h.0) (faults h.0) (failures ms) low k
    (along_rises gives calls faults counted ms h.0 t (stays_low m.call m.answer (calls s) (faults s) (calls h.0) (faults h.0) low k) h.2)
