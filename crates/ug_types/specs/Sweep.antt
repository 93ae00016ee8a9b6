-- Names in the order of a sweep.
use Rattle.std.specs.Prelude.{◌≡◌, List, [], ◌∷◌, ℕ, if◌then◌else◌, nat_eq}
use Rattle.std.proofs.Common.{ap, subst}
use Rattle.std.specs.declared.cmp.Ordering.TheVariants.{Equal}
use Rattle.std.specs.Cmp.{IsTotalOrder, Equal-is}
use Rattle.std.specs.Cmp.Lexicographic.{pointwise, slice_cmp, bytes_decides}
use Rattle.std.specs.Ordering.{is_gt, is_eq, nat_cmp}
use Rattle.std.proofs.lemmas.Bool.Decides.{same_from_decides, Decides-like}
use Rattle.std.proofs.lemmas.Cmp.{then_total, on_total, nat_cmp_total, nat_list_cmp_total, tied_itself}
use Rattle.std.proofs.lemmas.Map.Lookups.{exact_pairs, exact_unsigned, exact_bytes}
use Rattle.ug_types.specs.Names.{depth_of, sweep_cmp}

-- behind each name that comes before it
abbrev pub in_sweep_place : List ℕ → List (List ℕ) → List (List ℕ)
in_sweep_place name [] = name ∷ []
in_sweep_place name (first ∷ names) =
    if is_gt (sweep_cmp name first) then first ∷ in_sweep_place name names else name ∷ first ∷ names

abbrev pub in_sweep_order : List (List ℕ) → List (List ℕ)
in_sweep_order [] = []
in_sweep_order (name ∷ names) = in_sweep_place name (in_sweep_order names)

pub sweep_total : IsTotalOrder sweep_cmp
sweep_total = then_total (on_total depth_of nat_cmp_total) nat_list_cmp_total

-- names that compare alike are one
pub sweep_exact : (a b : List ℕ) → sweep_cmp a b ≡ Equal → a ≡ b
sweep_exact a b h =
    ap (λ (p : ℕ × List ℕ). p.1) (exact_pairs nat_cmp (slice_cmp nat_cmp) exact_unsigned exact_bytes
    (depth_of a, a) (depth_of b, b) h)

pub sweep_ties : (a b : List ℕ) → pointwise nat_eq a b ≡ is_eq (sweep_cmp a b)
sweep_ties a b =
    let same : a ≡ b → sweep_cmp a b ≡ Equal =
    λ e. subst (λ (c : List ℕ). sweep_cmp a c ≡ Equal) e (tied_itself sweep_total a) in
    same_from_decides (pointwise nat_eq a b) (is_eq (sweep_cmp a b)) (bytes_decides a b)
    (Decides-like (is_eq (sweep_cmp a b)) (sweep_exact a b) same (Equal-is (sweep_cmp a b)))
