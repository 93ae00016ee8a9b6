use Rattle.std.proofs.Common.{◌≡◌, ℕ, ◌-◌, ◌≤◌, List, ◌++◌, length, take, drop, replicate, sym, ◌∙◌, ap, subst, arith, length-append, length-drop}
use Rattle.std.specs.Prelude.{IsTrue}
use Rattle.std.proofs.lemmas.List.{drop_at, drop-replicate}
use Rattle.std.proofs.Math.Seq.{take-append_seam}
use Rattle.ug_types.specs.Principals.{is_name}
use Rattle.ug_types.proofs.principal.Principal.holding.Goals as goal

zeros_behind : (t s : List ℕ) → IsTrue (is_name t) → length t ≤ 32 → s ≡ t → ((length t ≤ 32) × (length (s ++ drop (length t) (replicate 32 0)) ≡ 32) × (drop (length t) (s ++ drop (length t) (replicate 32 0)) ≡ replicate (32 - length t) 0)) × IsTrue (is_name (take (length t) (s ++ drop (length t) (replicate 32 0))))
zeros_behind t s name le e =
    let zeros : List ℕ = drop (length t) (replicate 32 0) in
    let front : take (length t) (s ++ zeros) ≡ t = ap (λ (x : List ℕ). take (length t) (x ++ zeros)) e ∙ take-append_seam t zeros in (
      (
        le,
        omega (arith, ap length e, length-append s zeros, length-drop {A = ℕ} (length t) (replicate 32 0)),
        drop_at s zeros (length t) (ap length e) ∙ drop-replicate (length t) 32 0,
      ),
      let P : List ℕ → Type 0 = λ x. IsTrue (is_name x) in subst P (sym front) name,
    )

pub invariant_of-result : goal.invariant_of-result
invariant_of-result c = zeros_behind c.args.name.now c.copy_from_slice.new.self c.requires.named c.requires.short c.copy_from_slice.ensures.after
