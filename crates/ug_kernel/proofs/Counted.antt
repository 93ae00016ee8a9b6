-- The numbers of calls and of faults over a run.
use Rattle.std.proofs.Common.{ℕ, ◌≤◌, List, [], ◌∷◌, ap, arith}
use Rattle.ug_kernel.specs.Calls.{Call, Names, Open, Read, Ask_alive, Put, Close, Answer, Counts}
use Rattle.ug_kernel.specs.Along.{Made, Along}
use Rattle.ug_kernel.proofs.Rises.{Counting}

-- how many calls there were, and how many failed
pub record Tally : Type 0 where
  pub calls : ℕ
  pub faults : ℕ

-- calls as a relation from one tally to the next
abbrev pub counts : Tally → (call : Call) → Answer call → Tally → Type 0
counts v call answer w = Counts call answer v.calls v.faults w.calls w.faults

abbrev pub tally : ℕ → ℕ → Tally
tally calls faults = record { calls = calls; faults = faults }

pub along_counted : {S : Type 0} (gives : S → (call : Call) → Answer call → S → Type 0) (calls faults : S → ℕ) → Counting gives calls faults → (ms : List Made) (s t : S) → Along gives s ms t → Along counts (tally (calls s) (faults s)) ms (tally (calls t) (faults t))
along_counted gives calls faults counted [] s t h = ap (λ (v : _). tally (calls v) (faults v)) h
along_counted gives calls faults counted (m ∷ ms) s t h = (tally (calls h.0) (faults h.0), counted s m.call m.answer h.0 h.1, along_counted gives calls faults counted ms h.0 t h.2)

pub counts_never_fall : (call : Call) (answer : Answer call) (v w : Tally) → counts v call answer w → v.faults ≤ w.faults
counts_never_fall Names answer v w h = h.never_falls
counts_never_fall (Open name control) answer v w h = h.never_falls
counts_never_fall (Read name attr) answer v w h = h.never_falls
counts_never_fall (Ask_alive held) answer v w h = h.never_falls
counts_never_fall (Put held write) answer v w h = h.never_falls
counts_never_fall (Close held) answer v w h = omega (arith, h.1)

pub along_never_falls : (ms : List Made) (v w : Tally) → Along counts v ms w → v.faults ≤ w.faults
along_never_falls [] v w a = omega (arith, ap (λ (x : Tally). x.faults) a)
along_never_falls (m ∷ ms) v w a =
    let first = counts_never_fall m.call m.answer v a.0 a.1 in
    let rest = along_never_falls ms a.0 w a.2 in
    omega (arith, first, rest)
