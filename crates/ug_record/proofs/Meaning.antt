-- What is read is what the cut into descriptors says.
use Rattle.std.proofs.Common.{◌≡◌, ℕ, zero, suc, ◌+◌, ◌<◌, ◌≤◌, ◌⊎◌, inl, inr, Bool, true, false, ◌&&◌, nat_eq, nat_lt, List, [], ◌∷◌, ◌++◌, length, length-append, length-drop, take, drop, slice_index, Some, Result, Ok, Err, refl, sym, ap, subst, ◌∙◌, arith, append_assoc}
use Rattle.std.specs.List.{AllByRecursion, concat}
use Rattle.std.proofs.lemmas.List.{append-nil, take-append-drop, length-take-le}
use Rattle.std.proofs.Math.Seq.{take-append_seam, drop-append_seam}
use Rattle.ug_record.specs.declared.descriptors.Config.{Config}
use Rattle.ug_record.specs.declared.descriptors.Descr.{Descr}
use Rattle.std.specs.Prelude.{IfOk, IfErr}
use Rattle.ug_record.specs.declared.fault.DescrFault.{DescrFault}
use Rattle.ug_record.specs.declared.fault.DescrFault.TheVariants.{Malformed, Memory}
use Rattle.ug_record.specs.Reading.{AnswersDescr, PlacedFault, decoded, descr_of, kind_at, configs_from, under}
use Rattle.ug_record.specs.Grammar.{IsMalformed, BadDescriptor, IsWellFormed, IfMalformed, IsDescriptor, IsDeviceDescriptor, configs_of}
use Rattle.ug_record.proofs.Cut.{Cut, Stopped, Whole, all_read, cut}
use Rattle.ug_record.proofs.Faults.{faulty_first, is_faulty, is_least}
use Rattle.ug_record.proofs.Grouping.{grouped}
use Rattle.ug_record.proofs.Order.{Ordered, in_order, ordered}
use Rattle.ug_record.proofs.Steps.{nothing_left, some_config, stop}

short : (bytes : List ℕ) → length bytes < 18 → decoded bytes ≡ Err (record { kind = 1; place = length bytes })
unfolding decoded
short bytes h = grind arith

other_front : (bytes : List ℕ) → 18 ≤ length bytes → ((slice_index bytes 0 ≡ 18) × (slice_index bytes 1 ≡ 1) → ⊥) → decoded bytes ≡ Err (record { kind = 2; place = 0 })
unfolding decoded
other_front bytes h n = grind arith

fronted : (bytes : List ℕ) → 18 ≤ length bytes → slice_index bytes 0 ≡ 18 → slice_index bytes 1 ≡ 1 → decoded bytes ≡ under bytes (configs_from [] 18 0 (drop 18 bytes))
unfolding decoded
fronted bytes h a b = grind arith

front_cases : (bytes : List ℕ) → (length bytes < 18) ⊎ (((18 ≤ length bytes) × ((slice_index bytes 0 ≡ 18) × (slice_index bytes 1 ≡ 1) → ⊥)) ⊎ ((18 ≤ length bytes) × (slice_index bytes 0 ≡ 18) × (slice_index bytes 1 ≡ 1)))
front_cases bytes =
    let P : Type 0 = (length bytes < 18) ⊎ (((18 ≤ length bytes) × ((slice_index bytes 0 ≡ 18) × (slice_index bytes 1 ≡ 1) → ⊥)) ⊎ ((18 ≤ length bytes) × (slice_index bytes 0 ≡ 18) × (slice_index bytes 1 ≡ 1))) in
    let A : Bool → Type 0 = λ b. nat_lt (length bytes) 18 ≡ b → P in
    let B : Bool → Type 0 = λ b. nat_eq (slice_index bytes 0) 18 && nat_eq (slice_index bytes 1) 1 ≡ b → 18 ≤ length bytes → P in
    let g : (b : Bool) → B b = λ b. elim b as B [
      | true ↦ λ e h. inr (inr (h, grind arith, grind arith))
      | false ↦ λ e h. inr (inl (h, λ (p, q). grind arith))
    ] in
    let f : (b : Bool) → A b = λ b. elim b as A [
      | true ↦ λ e. inl (grind arith)
      | false ↦ λ e. g (nat_eq (slice_index bytes 0) 18 && nat_eq (slice_index bytes 1) 1) refl (grind arith)
    ] in
    f (nat_lt (length bytes) 18) refl

-- the first bytes of a text that goes on
at_front : (device tail : List ℕ) (i : ℕ) → i < length device → slice_index (device ++ tail) i ≡ slice_index device i
at_front [] tail i h = absurd (omega (arith, h))
at_front (b ∷ device) tail zero h = refl
at_front (b ∷ device) tail (suc i) h = at_front device tail i (omega (arith, h))

descr_front : (device tail : List ℕ) (configs : List Config) → length device ≡ 18 → descr_of (device ++ tail) configs ≡ descr_of device configs
descr_front device tail configs h =
    let at : (i : ℕ) → i < 18 → slice_index (device ++ tail) i ≡ slice_index device i = λ i b. at_front device tail i (omega (arith, b, h)) in
    simp (at 4 (omega arith), at 5 (omega arith), at 6 (omega arith), at 8 (omega arith), at 9 (omega arith), at 10 (omega arith), at 11 (omega arith), at 17 (omega arith)) refl

-- a device descriptor and descriptors behind it are read
pieces_read : (device tail : List ℕ) (others : List (List ℕ)) → IsDeviceDescriptor device → AllByRecursion IsDescriptor others → Ordered false others → decoded (device ++ (concat others ++ tail)) ≡ under (device ++ (concat others ++ tail)) (configs_from (configs_of others) (18 + length (concat others)) 0 tail)
pieces_read device tail others d each order =
    let bytes : List ℕ = device ++ (concat others ++ tail) in
    let back : drop 18 bytes ≡ concat others ++ tail = ap (λ (k : ℕ). drop k bytes) (sym d.0) ∙ drop-append_seam device (concat others ++ tail) in
    let a : slice_index bytes 0 ≡ 18 = at_front device (concat others ++ tail) 0 (omega (arith, d.0)) ∙ d.1 in
    let b : slice_index bytes 1 ≡ 1 = at_front device (concat others ++ tail) 1 (omega (arith, d.0)) ∙ d.2 in
    let long : 18 ≤ length bytes = omega (arith, d.0, length-append device (concat others ++ tail)) in
    fronted bytes long a b
    ∙ ap (λ (l : List ℕ). under bytes (configs_from [] 18 0 l)) back
    ∙ ap (under bytes) (all_read [] 18 others tail each order)
    ∙ ap (λ (l : List Config). under bytes (configs_from l (18 + length (concat others)) 0 tail)) (grouped others)

pub good_read : (bytes : List ℕ) (descr : Descr) → IsWellFormed bytes descr → decoded bytes ≡ Ok descr
good_read bytes descr g =
    let all : List ℕ = g.device ++ (concat g.others ++ []) in
    let same : bytes ≡ all = g.joined ∙ ap (λ (l : List ℕ). g.device ++ l) (sym (append-nil (concat g.others))) in
    ap decoded same
    ∙ pieces_read g.device [] g.others g.is_device g.each (ordered g.others g.in_order)
    ∙ ap (under all) (nothing_left (configs_of g.others) (18 + length (concat g.others)))
    ∙ ap (λ (d : Descr). Ok d) (descr_front g.device (concat g.others ++ []) (configs_of g.others) g.is_device.0 ∙ sym g.says)

stopped_read : (device tail : List ℕ) (others : List (List ℕ)) (kind : ℕ) → IsDeviceDescriptor device → AllByRecursion IsDescriptor others → Ordered false others → 0 < length tail → kind_at (some_config (configs_of others)) tail ≡ Some kind → decoded (device ++ (concat others ++ tail)) ≡ Err (record { kind = kind; place = 18 + length (concat others) })
stopped_read device tail others kind d each order begins fault =
    pieces_read device tail others d each order
    ∙ ap (under (device ++ (concat others ++ tail))) (stop (configs_of others) (18 + length (concat others)) kind tail begins fault)

pub bad_read : (bytes : List ℕ) (kind place : ℕ) → IsMalformed bytes kind place → decoded bytes ≡ Err (record { kind = kind; place = place })
bad_read bytes kind place (inl s) = rw (s.0, s.1) (short bytes s.2)
bad_read bytes kind place (inr (inl o)) = rw (o.0, o.1) (other_front bytes o.2 o.3)
bad_read bytes kind place (inr (inr b)) =
    let g = b.good in
    let tail : List ℕ = drop place bytes in
    let same : bytes ≡ g.device ++ (concat g.others ++ tail) =
    sym (take-append-drop place bytes) ∙ ap (λ (l : List ℕ). l ++ tail) g.joined ∙ append_assoc g.device (concat g.others) tail in
    let at : 18 + length (concat g.others) ≡ place =
    omega (arith, g.is_device.0, length-append g.device (concat g.others), ap length g.joined, length-take-le place bytes (omega (arith, b.begins))) in
    let begins : 0 < length tail = omega (arith, b.begins, length-drop place bytes) in
    let configs : b.before.configs ≡ configs_of g.others = ap (λ (d : Descr). d.configs) g.says in
    let fault : kind_at (some_config (configs_of g.others)) tail ≡ Some kind =
    ap (λ (l : List Config). kind_at (some_config l) tail) (sym configs) ∙ faulty_first b.before tail kind b.faulty b.least in
    ap decoded same
    ∙ stopped_read g.device tail g.others kind g.is_device g.each (ordered g.others g.in_order) begins fault
    ∙ ap (λ (p : ℕ). Err (record { kind = kind; place = p })) at

-- what the bytes mean, and that it is read
abbrev Meaning : List ℕ → Type 0
Meaning bytes = ((descr : Descr) × IsWellFormed bytes descr × (decoded bytes ≡ Ok descr)) ⊎ ((fault : PlacedFault) × IsMalformed bytes fault.kind fault.place × (decoded bytes ≡ Err fault))

is_device : (bytes : List ℕ) → 18 ≤ length bytes → slice_index bytes 0 ≡ 18 → slice_index bytes 1 ≡ 1 → IsDeviceDescriptor (take 18 bytes)
is_device bytes h a b =
    let long : length (take 18 bytes) ≡ 18 = length-take-le 18 bytes h in
    let at : (i : ℕ) → i < 18 → slice_index (take 18 bytes) i ≡ slice_index bytes i =
    λ i l. sym (at_front (take 18 bytes) (drop 18 bytes) i (omega (arith, l, long))) ∙ ap (λ (t : List ℕ). slice_index t i) (take-append-drop 18 bytes) in
    (long, at 0 (omega arith) ∙ a, at 1 (omega arith) ∙ b)

whole_means : (bytes : List ℕ) → IsDeviceDescriptor (take 18 bytes) → Whole [] (drop 18 bytes) → Meaning bytes
whole_means bytes d w =
    let descr : Descr = descr_of (take 18 bytes) (configs_of w.pieces) in
    let g : IsWellFormed bytes descr = record {
      device = take 18 bytes;
      others = w.pieces;
      joined = sym (take-append-drop 18 bytes) ∙ ap (λ (l : List ℕ). take 18 bytes ++ l) w.joined;
      is_device = d;
      each = w.each;
      in_order = in_order w.pieces w.order;
      says = refl;
    } in
    inl (descr, g, good_read bytes descr g)

stopped_means : (bytes : List ℕ) → IsDeviceDescriptor (take 18 bytes) → Stopped [] (drop 18 bytes) → Meaning bytes
stopped_means bytes d s =
    let front : List ℕ = take 18 bytes ++ concat s.pieces in
    let place : ℕ = 18 + length (concat s.pieces) in
    let all : bytes ≡ front ++ s.tail =
    sym (take-append-drop 18 bytes) ∙ ap (λ (l : List ℕ). take 18 bytes ++ l) s.joined ∙ sym (append_assoc (take 18 bytes) (concat s.pieces) s.tail) in
    let at : length front ≡ place = omega (arith, d.0, length-append (take 18 bytes) (concat s.pieces)) in
    let taken : take place bytes ≡ front = ap (λ (n : ℕ). take n bytes) (sym at) ∙ ap (take (length front)) all ∙ take-append_seam front s.tail in
    let left : drop place bytes ≡ s.tail = ap (λ (n : ℕ). drop n bytes) (sym at) ∙ ap (drop (length front)) all ∙ drop-append_seam front s.tail in
    let before : Descr = descr_of (take 18 bytes) (configs_of s.pieces) in
    let fault : kind_at (some_config before.configs) (drop place bytes) ≡ Some s.kind =
    ap (kind_at (some_config before.configs)) left ∙ ap (λ (l : List Config). kind_at (some_config l) s.tail) (sym (grouped s.pieces)) ∙ s.fault in
    let b : BadDescriptor bytes s.kind place = record {
      before = before;
      good = record {
        device = take 18 bytes;
        others = s.pieces;
        joined = taken;
        is_device = d;
        each = s.each;
        in_order = in_order s.pieces s.order;
        says = refl;
      };
      begins = omega (arith, at, ap length all, length-append front s.tail, s.begins);
      faulty = is_faulty before (drop place bytes) s.kind fault;
      least = λ lesser l f. is_least before (drop place bytes) s.kind lesser fault l f;
    } in
    let f : PlacedFault = record { kind = s.kind; place = place } in
    inr (f, inr (inr b), bad_read bytes s.kind place (inr (inr b)))

pub meaning : (bytes : List ℕ) → Meaning bytes
meaning bytes =
    let S : Type 0 = length bytes < 18 in
    let O : Type 0 = (18 ≤ length bytes) × ((slice_index bytes 0 ≡ 18) × (slice_index bytes 1 ≡ 1) → ⊥) in
    let F : Type 0 = (18 ≤ length bytes) × (slice_index bytes 0 ≡ 18) × (slice_index bytes 1 ≡ 1) in
    let behind : IsDeviceDescriptor (take 18 bytes) → Cut [] (drop 18 bytes) → Meaning bytes = λ d c. elim c [ inl w ↦ whole_means bytes d w | inr s ↦ stopped_means bytes d s ] in
    elim (front_cases bytes) [
      | inl s ↦ let f : PlacedFault = record { kind = 1; place = length bytes } in inr (f, inl (refl, refl, s), short bytes s)
      | inr r ↦ elim r [
        | inl o ↦ let f : PlacedFault = record { kind = 2; place = 0 } in inr (f, inr (inl (refl, refl, o.0, o.1)), other_front bytes o.0 o.1)
        | inr d ↦ behind (is_device bytes d.0 d.1 d.2) (cut (length (drop 18 bytes)) [] (drop 18 bytes) (omega arith))
      ]
    ]

pub read_good : (bytes : List ℕ) (descr : Descr) → decoded bytes ≡ Ok descr → IsWellFormed bytes descr
read_good bytes descr e =
    elim (meaning bytes) [
      | inl m ↦ let same : m.0 ≡ descr = cc in subst (IsWellFormed bytes) same m.1
      | inr m ↦ let none : ⊥ = cc in absurd none
    ]

pub read_bad : (bytes : List ℕ) (kind place : ℕ) → decoded bytes ≡ Err (record { kind = kind; place = place }) → IsMalformed bytes kind place
read_bad bytes kind place e =
    elim (meaning bytes) [
      | inl m ↦ let none : ⊥ = cc in absurd none
      | inr m ↦
          let f : PlacedFault = record { kind = kind; place = place } in
          let same : m.0 ≡ f = cc in
          subst (λ (g : PlacedFault). IsMalformed bytes g.kind g.place) same m.1
    ]

-- what an answer says, where it is what was read
pub answer_good : (bytes : List ℕ) (result : Result Descr DescrFault) → AnswersDescr result (decoded bytes) → IfOk result (λ descr. IsWellFormed bytes descr)
answer_good bytes (Ok descr) a = read_good bytes descr a
answer_good bytes (Err e) a = tt

pub answer_bad : (bytes : List ℕ) (result : Result Descr DescrFault) → AnswersDescr result (decoded bytes) → IfErr result (λ e. IfMalformed e (IsMalformed bytes))
answer_bad bytes (Ok descr) a = tt
answer_bad bytes (Err (Malformed kind place)) a = read_bad bytes kind place a
answer_bad bytes (Err Memory) a = tt

pub answer_only_good : (bytes : List ℕ) (result : Result Descr DescrFault) → AnswersDescr result (decoded bytes) → (descr : Descr) → IsWellFormed bytes descr → AnswersDescr result (Ok descr)
answer_only_good bytes result a descr g = subst (λ (read : Result Descr PlacedFault). AnswersDescr result read) (good_read bytes descr g) a

pub answer_only_bad : (bytes : List ℕ) (result : Result Descr DescrFault) → AnswersDescr result (decoded bytes) → (kind place : ℕ) → IsMalformed bytes kind place → AnswersDescr result (Err (record { kind = kind; place = place }))
answer_only_bad bytes result a kind place b = subst (λ (read : Result Descr PlacedFault). AnswersDescr result read) (bad_read bytes kind place b) a

pub some_meaning : (bytes : List ℕ) → ((descr : Descr) × IsWellFormed bytes descr) ⊎ ((kind : ℕ) × (place : ℕ) × IsMalformed bytes kind place)
some_meaning bytes = elim (meaning bytes) [ inl m ↦ inl (m.0, m.1) | inr m ↦ inr (m.0.kind, m.0.place, m.1) ]

pub same_descr : (bytes : List ℕ) (a b : Descr) → IsWellFormed bytes a → IsWellFormed bytes b → a ≡ b
same_descr bytes a b g h = let e = good_read bytes a g in let f = good_read bytes b h in cc

pub same_fault : (bytes : List ℕ) (kind place other_kind other_place : ℕ) → IsMalformed bytes kind place → IsMalformed bytes other_kind other_place → (kind ≡ other_kind) × (place ≡ other_place)
same_fault bytes kind place other_kind other_place g h =
    let e = bad_read bytes kind place g in
    let f = bad_read bytes other_kind other_place h in
    let A : PlacedFault = record { kind = kind; place = place } in
    let B : PlacedFault = record { kind = other_kind; place = other_place } in
    let same : A ≡ B = cc in
    (ap (λ (x : PlacedFault). x.kind) same, ap (λ (x : PlacedFault). x.place) same)

pub not_both : (bytes : List ℕ) (descr : Descr) (kind place : ℕ) → IsWellFormed bytes descr → IsMalformed bytes kind place → ⊥
not_both bytes descr kind place g h = let e = good_read bytes descr g in let f = bad_read bytes kind place h in cc
