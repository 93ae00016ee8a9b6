-- One step of the reading.
use Rattle.std.proofs.Common.{◌≡◌, ℕ, zero, suc, ◌+◌, ◌-◌, ◌<◌, ◌≤◌, Bool, true, not, nat_eq, List, [], ◌∷◌, ◌++◌, length, take, drop, slice_index, slice_index_or, slice_set, Option, None, Some, Ok, Err, refl, sym, ap, ◌∙◌, arith, add-zero, length-drop}
use Rattle.std.proofs.lemmas.List.{take_all, drop_all, drop-drop}
use Rattle.ug_record.specs.declared.descriptors.Config.{Config}
use Rattle.ug_record.specs.declared.descriptors.IfaceDescr.{IfaceDescr}
use Rattle.ug_record.specs.Reading.{kind_at, configs_from, with_interface, with_descriptor, unless_fault}

-- what no fault at a descriptor says of it
pub record Sound (configured : Bool) (rest : List ℕ) : Type 0 where
  pub two : 2 ≤ slice_index rest 0
  pub within : slice_index rest 0 ≤ length rest
  pub configuration : slice_index rest 1 ≡ 2 → 9 ≤ slice_index rest 0
  pub interface : slice_index rest 1 ≡ 4 → 9 ≤ slice_index rest 0
  pub behind : slice_index rest 1 ≡ 4 → configured ≡ true

pub sound : (configured : Bool) (rest : List ℕ) → kind_at configured rest ≡ None → Sound configured rest
sound configured rest e = record {
  two = grind arith;
  within = grind arith;
  configuration = grind arith;
  interface = grind arith;
  behind = grind arith;
}

pub with_last : (configs : List Config) (at : ℕ) (c : Config) (items : List IfaceDescr) (i : IfaceDescr) → length configs ≡ at + 1 → c ≡ slice_index_or configs at c → items ≡ c.items ++ i ∷ [] → slice_set configs at (record { value = c.value; count = c.count; items = items }) ≡ with_interface configs i
with_last [] at c items i h e f = absurd (omega (arith, h))
with_last (x ∷ []) zero c items i h e f = cc
with_last (x ∷ []) (suc at) c items i h e f = absurd (omega (arith, h))
with_last (x ∷ y ∷ configs) zero c items i h e f = absurd (omega (arith, h))
with_last (x ∷ y ∷ configs) (suc at) c items i h e f = ap (λ (l : List Config). x ∷ l) (with_last (y ∷ configs) at c items i (omega (arith, h)) e f)

pub passed_over : (configs : List Config) (place k : ℕ) (xs : List ℕ) → k ≤ length xs → configs_from configs place k xs ≡ configs_from configs (place + k) 0 (drop k xs)
unfolding configs_from
passed_over configs place zero xs h = ap (λ (p : ℕ). configs_from configs p 0 xs) (sym (add-zero place))
passed_over configs place (suc k) [] h = absurd (omega (arith, h))
passed_over configs place (suc k) (b ∷ bytes) h =
    let e : place + 1 + k ≡ place + suc k = omega arith in
    passed_over configs (place + 1) k bytes (omega (arith, h)) ∙ ap (λ (p : ℕ). configs_from configs p 0 (drop k bytes)) e

abbrev pub some_config : List Config → Bool
some_config configs = not (nat_eq (length configs) 0)

pub next : (configs : List Config) (place : ℕ) (xs : List ℕ) → 0 < length xs → kind_at (some_config configs) xs ≡ None → configs_from configs place 0 xs ≡ configs_from (with_descriptor configs (take (slice_index xs 0) xs)) (place + slice_index xs 0) 0 (drop (slice_index xs 0) xs)
unfolding configs_from
next configs place [] h e = absurd (omega (arith, h))
next configs place (zero ∷ bytes) h e = absurd (omega (arith, (sound (some_config configs) (zero ∷ bytes) e).two))
next configs place (suc k ∷ bytes) h e =
    let all : List Config = with_descriptor configs (take (suc k) (suc k ∷ bytes)) in
    let long : k ≤ length bytes = omega (arith, (sound (some_config configs) (suc k ∷ bytes) e).within) in
    let same : place + 1 + k ≡ place + suc k = omega arith in
    let less : suc k - 1 ≡ k = omega arith in
    ap (λ (o : Option ℕ). unless_fault o place (configs_from all (place + 1) (suc k - 1) bytes)) e
    ∙ ap (λ (j : ℕ). configs_from all (place + 1) j bytes) less
    ∙ passed_over all (place + 1) k bytes long
    ∙ ap (λ (p : ℕ). configs_from all p 0 (drop k bytes)) same

pub stop : (configs : List Config) (place kind : ℕ) (xs : List ℕ) → 0 < length xs → kind_at (some_config configs) xs ≡ Some kind → configs_from configs place 0 xs ≡ Err (record { kind = kind; place = place })
unfolding configs_from
stop configs place kind [] h e = absurd (omega (arith, h))
stop configs place kind (b ∷ bytes) h e =
    ap (λ (o : Option ℕ). unless_fault o place (configs_from (with_descriptor configs (take b (b ∷ bytes))) (place + 1) (b - 1) bytes)) e

abbrev pub rest_at : ℕ → List ℕ → List ℕ
rest_at at bytes = take (length bytes - at) (drop at bytes)

pub rest_is : (at : ℕ) (bytes : List ℕ) → rest_at at bytes ≡ drop at bytes
rest_is at bytes = take_all (length bytes - at) (drop at bytes) (omega (arith, length-drop at bytes))

pub next_at : (configs : List Config) (at : ℕ) (bytes : List ℕ) → at < length bytes → kind_at (some_config configs) (rest_at at bytes) ≡ None → configs_from configs at 0 (drop at bytes) ≡ configs_from (with_descriptor configs (take (slice_index (rest_at at bytes) 0) (rest_at at bytes))) (at + slice_index (rest_at at bytes) 0) 0 (drop (at + slice_index (rest_at at bytes) 0) bytes)
next_at configs at bytes h e =
    let same : rest_at at bytes ≡ drop at bytes = rest_is at bytes in
    let f : kind_at (some_config configs) (drop at bytes) ≡ None = ap (kind_at (some_config configs)) (sym same) ∙ e in
    let n = next configs at (drop at bytes) (omega (arith, length-drop at bytes)) f in
    n
    ∙ ap (λ (d : List ℕ). configs_from (with_descriptor configs (take (slice_index (drop at bytes) 0) (drop at bytes))) (at + slice_index (drop at bytes) 0) 0 d) (drop-drop (slice_index (drop at bytes) 0) at bytes)
    ∙ ap (λ (r : List ℕ). configs_from (with_descriptor configs (take (slice_index r 0) r)) (at + slice_index r 0) 0 (drop (at + slice_index r 0) bytes)) (sym same)

pub stop_at : (configs : List Config) (at kind : ℕ) (bytes : List ℕ) → at < length bytes → kind_at (some_config configs) (rest_at at bytes) ≡ Some kind → configs_from configs at 0 (drop at bytes) ≡ Err (record { kind = kind; place = at })
stop_at configs at kind bytes h e =
    stop configs at kind (drop at bytes) (omega (arith, length-drop at bytes)) (ap (kind_at (some_config configs)) (sym (rest_is at bytes)) ∙ e)

pub nothing_left : (configs : List Config) (place : ℕ) → configs_from configs place 0 [] ≡ Ok configs
unfolding configs_from
nothing_left configs place = refl

pub end_at : (configs : List Config) (at : ℕ) (bytes : List ℕ) → length bytes ≤ at → configs_from configs at 0 (drop at bytes) ≡ Ok configs
end_at configs at bytes h = ap (configs_from configs at 0) (drop_all at bytes h) ∙ nothing_left configs at
