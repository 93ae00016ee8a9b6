-- What a write tells.
use Rattle.std.proofs.Common.{◌≡◌, ℕ, false, List, [], ◌∷◌, ◌++◌, Some, slice_get, inl, inr, ◌⊎◌, refl, ◌∙◌, ap, subst}
use Rattle.ug_kernel.specs.declared.calls.Wrote.TheVariants as wrote
use Rattle.ug_kernel.proofs.Grow.{some_same}
use Rattle.ug_iface.specs.Bus.{Bus}
use Rattle.ug_iface.specs.Calls.{Put_off}
use Rattle.ug_iface.specs.Called.{IsSwitchedOff, IsIfaceGone, IfaceCalled}
use Rattle.ug_iface.specs.Grows.{Still, BusGrows}
use Rattle.ug_iface.specs.Laws.{IsOff}
use Rattle.ug_iface.proofs.Grow.{still_grows, still_trans, grows_trans, moves_still, off_grows}

-- the interface j was switched off
pub record WasOff (b c : Bus) (j : ℕ) : Type 0 where
  pub grows : BusGrows b c
  pub log : c.log ≡ b.log ++ j ∷ []
  pub off : IsOff c j

-- or nothing was done
abbrev pub MayBeOff : Bus → Bus → ℕ → Type 0
MayBeOff b c j = Still b c ⊎ WasOff b c j

pub off_on : (b c d : Bus) (j : ℕ) → WasOff b c j → Still c d → WasOff b d j
off_on b c d j w s =
    let a = s.interfaces j w.off.x w.off.at in
    record {
      grows = grows_trans b c d w.grows (still_grows c d s);
      log = s.log ∙ w.log;
      off = record { x = a.0; at = a.1; off = a.2.on ∙ w.off.off };
    }

wrote_off : (file j : ℕ) (b m n c : Bus) → Still b m → IsSwitchedOff file m n → Still n c → slice_get b.files file ≡ Some j → WasOff b c j
wrote_off file j b m n c s w r at =
    let is : w.i ≡ j = some_same (slice_get m.files file) w.i j w.holds.file (s.files file j at) in
    let here : WasOff b n w.i = record {
      grows = grows_trans b m n (still_grows b m s) (off_grows file m n w);
      log = w.log ∙ ap (λ (l : List ℕ). l ++ w.i ∷ []) s.log;
      off = record { x = record w.x { on = false }; at = w.now; off = refl };
    } in
    off_on b n c j (subst (λ (k : ℕ). WasOff b n k) is here) r

around : (b m n c : Bus) → Still b m → n ≡ m → Still n c → Still b c
around b m n c s e r = still_trans b m c s (subst (λ (v : Bus). Still v c) e r)

pub put_done : (file j : ℕ) (b c : Bus) (number count : ℕ) → IfaceCalled (Put_off file) (record { answer = wrote.Done; number = number; count = count }) b c → slice_get b.files file ≡ Some j → WasOff b c j
put_done file j b c number count h at = wrote_off file j b h.before h.after c (moves_still b h.before h.moves_before) h.effect (moves_still h.after c h.moves_after) at

pub put_gone : (file : ℕ) (b c : Bus) (number count : ℕ) → IfaceCalled (Put_off file) (record { answer = wrote.Gone; number = number; count = count }) b c → Still b c × IsIfaceGone file c
put_gone file b c number count h = (around b h.before h.after c (moves_still b h.before h.moves_before) h.effect (moves_still h.after c h.moves_after), h.says)

pub put_failed : (file j : ℕ) (b c : Bus) (number count : ℕ) → IfaceCalled (Put_off file) (record { answer = wrote.Failed; number = number; count = count }) b c → slice_get b.files file ≡ Some j → MayBeOff b c j
put_failed file j b c number count h at = by h.effect
  where
    by : (h.after ≡ h.before) ⊎ IsSwitchedOff file h.before h.after → MayBeOff b c j
    by (inl e) = inl (around b h.before h.after c (moves_still b h.before h.moves_before) e (moves_still h.after c h.moves_after))
    by (inr w) = inr (wrote_off file j b h.before h.after c (moves_still b h.before h.moves_before) w (moves_still h.after c h.moves_after) at)
