-- How devices start, as the kernel goes on.
use Rattle.std.proofs.Common.{◌≡◌, ℕ, ◌<◌, ◌≤◌, length, Option, Some, None, refl, sym, ◌∙◌, ap, subst, arith, inl, inr, ◌⊎◌}
use Rattle.std.specs.List.{slice_get}
use Rattle.ug_kernel.specs.declared.device.Device.{Device}
use Rattle.ug_kernel.specs.Kernel.{Kernel, Moved, Moves, StartsUnder, StartsUnset, default_in, is_off}
use Rattle.ug_kernel.proofs.Stayed.{back_at, begins_then}
use Rattle.ug_kernel.proofs.Defaults.{moves_default}

under_later : (k l : Kernel) (d e : Device) (o : Option ℕ) → Moves k l → Moved d e → StartsUnder k.devices d o → StartsUnder l.devices e o
under_later k l d e None b m h = m.stays.born_off ∙ h
under_later k l d e (Some r) b m h =
    let same : default_in (slice_get l.devices r) ≡ default_in (slice_get k.devices r) = moves_default k l b r (slice_get k.devices r) refl (slice_get l.devices r) refl in
    record { born_off = m.stays.born_off ∙ h.born_off ∙ ap is_off (sym same); on = λ v a. m.on ∙ h.on v (sym same ∙ a) }

pub starts_later : (k l : Kernel) (d e : Device) → Moves k l → Moved d e → StartsUnset k.devices d → StartsUnset l.devices e
starts_later k l d e b m h = (m.default ∙ h.0, subst (λ (o : Option ℕ). StartsUnder l.devices e o) (sym m.stays.controller) (under_later k l d e d.controller b m h.1))

-- some moves, and then others
pub moves_then : (k l m : Kernel) → Moves k l → Moves l m → Moves k m
moves_then k l m a b = record {
  devices = begins_then k.devices l.devices m.devices a.devices b.devices;
  born = λ i e at le. elim (old_or_new i (length l.devices)) [
    | inl lt ↦
        let x = back_at l.devices m.devices b.devices i e at lt in
        starts_later l m x.0 e b x.2 (a.born i x.0 x.1 le)
    | inr new ↦ b.born i e at new
  ];
  held = b.held ∙ a.held;
  log = b.log ∙ a.log;
}
  where
    old_or_new : (i n : ℕ) → (i < n) ⊎ (n ≤ i)
    old_or_new i n = grind arith
