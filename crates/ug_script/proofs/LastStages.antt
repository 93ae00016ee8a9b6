-- What the last stage of an event leaves, whatever it settles.
use Rattle.std.proofs.Common.{◌≡◌, ◌⊎◌, inl, inr, ℕ, List, ◌++◌, Option, Some, None}
use Rattle.ug_kernel.specs.declared.device.Device.{Device}
use Rattle.ug_kernel.specs.Called.{Lived}
use Rattle.ug_kernel.specs.Kernel.{Kernel, IsKernel}
use Rattle.ug_kernel.specs.Quiet.{Grows}
use Rattle.ug_audit.specs.declared.entry.Entry.{Entry}
use Rattle.ug_table.specs.Laws.{IsAsJudged, IsNamed, IsUnlisted, Stand}
use Rattle.ug_table.specs.State.{State}
use Rattle.ug_core.specs.Laws.{SettlesDue}
use Rattle.ug_core.specs.Policy.{Judging}
use Rattle.ug_script.specs.Journal.{IsToSettle}

pub record LastStage (due : Option (List (List ℕ))) (k : Kernel) (w : State Judging) (l : Kernel) (v : State Judging) : Type 0 where
  pub sound : IsKernel l
  pub stand : Stand l v.standings v.next
  pub grows : Grows k l
  pub rest : List Entry
  pub entries : v.entries ≡ w.entries ++ rest
  pub settled : (i : ℕ) (d : Device) → Lived k.devices l.devices i d → IsToSettle due d.name → IsAsJudged w.hub l v.standings i ⊎ (IsNamed rest d.name ⊎ IsUnlisted rest)

pub last_stage : (due : Option (List (List ℕ))) (k : Kernel) (w : State Judging) (l : Kernel) (v : State Judging) → SettlesDue due k w l v → LastStage due k w l v
last_stage None k w l v h = record {
  sound = h.fair.sound;
  stand = h.fair.stand;
  grows = h.fair.grows;
  rest = h.fair.rest;
  entries = h.fair.entries;
  settled = λ i d lived is. elim (h.settled i d lived) [
    | inl x ↦ inl x
    | inr y ↦ inr (elim y [ inl n ↦ inl n | inr u ↦ inr u.0 ])
  ];
}
last_stage (Some names) k w l v (h, listed) = record {
  sound = h.fair.sound;
  stand = h.fair.stand;
  grows = h.fair.grows;
  rest = h.fair.rest;
  entries = h.fair.entries;
  settled = λ i d lived is. elim (h.settled i d lived is) [
    | inl x ↦ inl x
    | inr n ↦ inr (inl n)
  ];
}
