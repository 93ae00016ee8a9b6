-- Known bytes over two steps.
use Rattle.std.proofs.Common.{◌≡◌, ℕ, ◌+◌, ◌-◌, ◌≤◌, ◌<◌, min, Bool, true, false, List, [], ◌++◌, length, take, drop, Option, None, Some, sym, ap, subst, ◌∙◌, append_assoc, arith, length-take, length-drop}
use Rattle.std.specs.Prelude.{◌==◌}
use Rattle.std.proofs.lemmas.Bool.{eqb-true, eqb-false}
use Rattle.std.proofs.lemmas.List.{append-nil, take-append-drop, take_all, nil_from_length}
use Rattle.std.proofs.Math.Seq.{take-add, take-append_seam, drop-drop}
use Rattle.ug_types.specs.Ends.{Puts}
use Rattle.ug_types.specs.declared.sink.Put.TheVariants.{Done, Failed}
use Rattle.ug_types.specs.declared.source.Taken.TheVariants as taken
use Rattle.std.specs.Io.KnownBytes.{Appends, Keeps}

pub Appends-then : (a b c : Option (List ℕ)) (xs ys : List ℕ) → Appends a b xs → Appends b c ys → Appends a c (xs ++ ys)
Appends-then None b c xs ys h k = tt
Appends-then (Some x) None c xs ys h k = absurd h
Appends-then (Some x) (Some y) None xs ys h k = absurd k
Appends-then (Some x) (Some y) (Some z) xs ys h k = k ∙ (ap (λ l. l ++ ys) h ∙ append_assoc x xs ys)

pub Keeps-then : (a b c : Option (List ℕ)) (xs : List ℕ) → Appends a b xs → Keeps b c → Appends a c xs
Keeps-then None b c xs h k = tt
Keeps-then (Some x) None c xs h k = absurd h
Keeps-then (Some x) (Some y) None xs h k = absurd k
Keeps-then (Some x) (Some y) (Some z) xs h k = k ∙ h

-- the next bytes are the front of what is left
pub front_of_rest : (n at : ℕ) (xs c d : List ℕ) → c ≡ take n (drop at xs) → n ≤ length (drop at xs) → drop at xs ≡ take n (c ++ d) ++ drop (at + n) xs
front_of_rest n at xs c d e h =
    let l : length c ≡ n = omega (arith, ap length e, length-take n (drop at xs)) in
    let t : take n (c ++ d) ≡ c = subst (λ (k : ℕ). take k (c ++ d) ≡ c) l (take-append_seam c d) in
    let p : take n (drop at xs) ++ drop n (drop at xs) ≡ drop at xs = take-append-drop n (drop at xs) in
    let q : drop n (drop at xs) ≡ drop (at + n) xs = drop-drop n at xs in
    cc

-- a range up to the end
pub to_end : (at : ℕ) (xs : List ℕ) → take (length xs - at) (drop at xs) ≡ drop at xs
to_end at xs = take_all (length xs - at) (drop at xs) (omega (arith, length-drop at xs))

-- a write that takes n more bytes, where at of them stand already
pub put_more : (a b c : Option (List ℕ)) (n at : ℕ) (xs rest : List ℕ) → Appends a b (take at xs) → Appends b c (take n rest) → rest ≡ drop at xs → Appends a c (take (at + n) xs)
put_more a b c n at xs rest h k e = subst (λ (t : List ℕ). Appends a c t) (ap (λ (r : List ℕ). take at xs ++ take n r) e ∙ sym (take-add at n xs)) (Appends-then a b c (take at xs) (take n rest) h k)

-- a write that failed after some bytes
pub put_failed : (a b c : Option (List ℕ)) (at : ℕ) (xs : List ℕ) → Appends a b (take at xs) → Keeps b c → Puts a c xs Failed
put_failed a b c at xs h k = (take at xs, drop at xs, sym (take-append-drop at xs), Keeps-then a b c (take at xs) h k)

-- a write that took nothing
pub put_nothing : (b c : Option (List ℕ)) (n : ℕ) (xs : List ℕ) → n ≡ 0 → Appends b c (take n xs) → Keeps b c
put_nothing None c n xs e h = tt
put_nothing (Some x) None n xs e h = absurd h
put_nothing (Some x) (Some y) n xs e h = h ∙ (ap (λ (k : ℕ). x ++ take k xs) e ∙ append-nil x)

-- done isn't failed
pub done_apart : Done ≡ Failed → ⊥
done_apart e = cc

-- neither an end nor bytes are a failure
pub end_apart : taken.End ≡ taken.Failed → ⊥
end_apart e = cc

pub bytes_apart : (n : ℕ) → taken.Bytes n ≡ taken.Failed → ⊥
bytes_apart n e = cc

-- bytes that were copied from a range up to the end
pub front_copied : (n at : ℕ) (xs ys c : List ℕ) → xs ≡ ys → c ≡ take n (take (length xs - at) (drop at xs)) → c ≡ take n (drop at ys)
front_copied n at xs ys c e h = h ∙ ap (λ (l : List ℕ). take n l) (to_end at xs ∙ ap (λ (l : List ℕ). drop at l) e)

pub front_within : (n room at : ℕ) (xs ys : List ℕ) → xs ≡ ys → n ≡ min (length (take (length xs - at) (drop at xs))) room → n ≤ length (drop at ys)
front_within n room at xs ys e h =
    let p : n ≤ length (take (length xs - at) (drop at xs)) = omega arith in
    subst (λ (l : List ℕ). n ≤ length l) (to_end at xs ∙ ap (λ (l : List ℕ). drop at l) e) p

pub nothing_left : (at : ℕ) (xs ys : List ℕ) (test : Bool) → xs ≡ ys → test ≡ (length (take (length xs - at) (drop at xs)) == 0) → test ≡ true → drop at ys ≡ []
nothing_left at xs ys test e h t =
    ap (λ (l : List ℕ). drop at l) (sym e) ∙ sym (to_end at xs) ∙ nil_from_length _ (eqb-true _ 0 (sym h ∙ t))

-- a front as long as the shorter of two
pub front_sizes : (n : ℕ) (xs ys : List ℕ) → n ≡ min (length xs) (length ys) → length (take n ys) ≡ length (take n xs)
front_sizes n xs ys e = omega (arith, length-take n xs, length-take n ys)

pub front_size : (n room : ℕ) (xs : List ℕ) → n ≡ min (length xs) room → n ≡ length (take n xs)
front_size n room xs e = omega (arith, length-take n xs)

pub front_some : (n room : ℕ) (xs : List ℕ) (test : Bool) → n ≡ min (length xs) room → test ≡ (length xs == 0) → test ≡ false → 0 < room → (0 < n) × (n ≤ room)
front_some n room xs test e h t k =
    let p : length xs ≡ 0 → ⊥ = eqb-false (length xs) 0 (sym h ∙ t) in
    (omega (arith, p), omega arith)

-- a place behind what came
pub ahead_within : (at n : ℕ) (xs : List ℕ) (room len : ℕ) → at ≤ len → length xs ≡ len → n ≡ min (length (take (length xs - at) (drop at xs))) room → at + n ≤ len
ahead_within at n xs room len h e k =
    let p : length (take (length xs - at) (drop at xs)) ≡ length xs - at = ap length (to_end at xs) ∙ length-drop at xs in
    omega arith

pub at_most : (n a room : ℕ) → n ≡ min a room → n ≤ room
at_most n a room e = omega arith

pub front_exact : (n a : ℕ) (ys : List ℕ) → n ≡ min a (length ys) → n ≡ length (take n ys)
front_exact n a ys e = omega (arith, length-take n ys)
