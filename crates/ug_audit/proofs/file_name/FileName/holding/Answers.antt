use Rattle.std.proofs.Common.{◌≡◌, ℕ, ◌-◌, ◌≤◌, List, ◌++◌, length, take, drop, replicate, sym, ◌∙◌, ap, subst, arith, length-append, length-drop}
use Rattle.std.specs.Prelude.{IsTrue}
use Rattle.std.specs.List.{list_all}
use Rattle.std.proofs.lemmas.List.{drop_at, drop-replicate}
use Rattle.std.proofs.Math.Seq.{take-append_seam}
use Rattle.ug_types.specs.Principals.{is_name_byte}
use Rattle.ug_audit.proofs.file_name.FileName.holding.Goals as goal

copied : (t s : List ℕ) → IsTrue (list_all is_name_byte t) → length t ≤ 255 → s ≡ t → ((length t ≤ 255) × (length (s ++ drop (length t) (replicate 255 0)) ≡ 255) × (drop (length t) (s ++ drop (length t) (replicate 255 0)) ≡ replicate (255 - length t) 0)) × IsTrue (list_all is_name_byte (take (length t) (s ++ drop (length t) (replicate 255 0))))
copied t s plain le e =
    let zeros : List ℕ = drop (length t) (replicate 255 0) in
    let front : take (length t) (s ++ zeros) ≡ t = ap (λ (x : List ℕ). take (length t) (x ++ zeros)) e ∙ take-append_seam t zeros in (
      (
        le,
        omega (arith, ap length e, length-append s zeros, length-drop {A = ℕ} (length t) (replicate 255 0)),
        drop_at s zeros (length t) (ap length e) ∙ drop-replicate (length t) 255 0,
      ),
      let P : List ℕ → Type 0 = λ x. IsTrue (list_all is_name_byte x) in subst P (sym front) plain,
    )

pub invariant_of-result : goal.invariant_of-result
invariant_of-result c = copied c.args.name.now c.copy_from_slice.new.self c.requires.plain c.requires.short c.copy_from_slice.ensures.after
