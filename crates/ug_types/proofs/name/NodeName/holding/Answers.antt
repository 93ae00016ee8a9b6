use Rattle.std.proofs.Common.{◌≡◌, ℕ, ◌-◌, ◌≤◌, List, ◌++◌, length, take, drop, replicate, sym, ◌∙◌, ap, subst, arith, length-append, length-drop}
use Rattle.std.proofs.lemmas.List.{drop_at, drop-replicate}
use Rattle.std.proofs.Math.Seq.{take-append_seam}
use Rattle.ug_types.specs.NodeNames.{IsNodeName}
use Rattle.ug_types.proofs.name.NodeName.holding.Goals as goal

zeros_behind : (t s : List ℕ) → IsNodeName t → length t ≤ 31 → s ≡ t → ((length t ≤ 31) × (length (s ++ drop (length t) (replicate 31 0)) ≡ 31) × (drop (length t) (s ++ drop (length t) (replicate 31 0)) ≡ replicate (31 - length t) 0)) × IsNodeName (take (length t) (s ++ drop (length t) (replicate 31 0)))
zeros_behind t s name le e =
    let zeros : List ℕ = drop (length t) (replicate 31 0) in
    let front : take (length t) (s ++ zeros) ≡ t = ap (λ (x : List ℕ). take (length t) (x ++ zeros)) e ∙ take-append_seam t zeros in (
      (
        le,
        omega (arith, ap length e, length-append s zeros, length-drop {A = ℕ} (length t) (replicate 31 0)),
        drop_at s zeros (length t) (ap length e) ∙ drop-replicate (length t) 31 0,
      ),
      subst IsNodeName (sym front) name,
    )

pub invariant_of-result : goal.invariant_of-result
invariant_of-result c = zeros_behind c.args.text.now c.copy_from_slice.new.self c.requires.named c.requires.short c.copy_from_slice.ensures.after
