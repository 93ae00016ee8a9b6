use Rattle.std.proofs.Common.{◌≡◌, ◌==◌, ℕ, zero, suc, ◌+◌, ◌-◌, ◌<◌, ◌≤◌, Bool, true, not, List, length, take, get_or-take, slice_index, Some, None, sym, ap, subst, ◌∙◌, arith}
use Rattle.std.proofs.lemmas.Bool.{both_ways, not-true}
use Rattle.std.proofs.lemmas.List.{length-take-le}
use Rattle.ug_record.specs.Reading.{kind_at}
use Rattle.ug_record.proofs.Steps.{next_at, stop_at, end_at, some_config, rest_at, sound}
use Rattle.ug_record.proofs.reading.configs_of.Goals as goal

module _ (configured : Bool) (rest : List ℕ) (e : None ≡ kind_at configured rest) where
  whole : slice_index rest 0 ≡ length (take (slice_index rest 0) rest)
  whole = sym (length-take-le (slice_index rest 0) rest (sound configured rest (sym e)).within)

  two : 2 ≤ length (take (slice_index rest 0) rest)
  two = subst (λ (k : ℕ). 2 ≤ k) whole (sound configured rest (sym e)).two

  second : slice_index (take (slice_index rest 0) rest) 1 ≡ slice_index rest 1
  second = get_or-take (slice_index rest 0) rest 1 0 (sound configured rest (sym e)).two

  configuration : slice_index (take (slice_index rest 0) rest) 1 ≡ 2 → 9 ≤ length (take (slice_index rest 0) rest)
  configuration h = subst (λ (k : ℕ). 9 ≤ k) whole ((sound configured rest (sym e)).configuration (sym second ∙ h))

  interface : slice_index (take (slice_index rest 0) rest) 1 ≡ 4 → 9 ≤ length (take (slice_index rest 0) rest)
  interface h = subst (λ (k : ℕ). 9 ≤ k) whole ((sound configured rest (sym e)).interface (sym second ∙ h))

  behind : slice_index (take (slice_index rest 0) rest) 1 ≡ 4 → configured ≡ true
  behind h = (sound configured rest (sym e)).behind (sym second ∙ h)

some : (empty : Bool) (count : ℕ) → empty ≡ (count == 0) → not empty ≡ true → 0 < count
some empty zero e h = absurd (both_ways empty (not-true empty h) e)
some empty (suc count) e h = omega arith

smaller : (at n length : ℕ) → at < length → 2 ≤ n → length - (at + n) < length - at
smaller at n length h two = omega arith

pub returns-in-Some : goal.returns-in-Some
returns-in-Some c =
    let e : kind_at (some_config c.loop-at.configs.items) (rest_at c.loop-at.at c.args.bytes.now) ≡ Some c.in-Some.kind =
    ap (λ (count : ℕ). kind_at (not (count == 0)) (rest_at c.loop-at.at c.args.bytes.now)) (sym c.loop-at.configs.ok.0)
    ∙ ap (λ (empty : Bool). kind_at (not empty) (rest_at c.loop-at.at c.args.bytes.now)) (sym c.is_empty.ensures) ∙ sym c.in-Some.ensures in
    rw c.malformed.ensures (sym c.loop-at.invariant ∙ stop_at c.loop-at.configs.items c.loop-at.at c.in-Some.kind c.args.bytes.now c.loop-at-test.true e)

pub slice_bounds-add_piece-end : goal.slice_bounds-add_piece-end
slice_bounds-add_piece-end c = whole (not c.is_empty.result) (rest_at c.loop-at.at c.args.bytes.now) c.in_default.ensures

pub add_piece-requires-clause-two : goal.add_piece-requires-clause-two
add_piece-requires-clause-two c = two (not c.is_empty.result) (rest_at c.loop-at.at c.args.bytes.now) c.in_default.ensures

pub add_piece-requires-clause-configuration : goal.add_piece-requires-clause-configuration
add_piece-requires-clause-configuration c = configuration (not c.is_empty.result) (rest_at c.loop-at.at c.args.bytes.now) c.in_default.ensures

pub add_piece-requires-clause-interface : goal.add_piece-requires-clause-interface
add_piece-requires-clause-interface c = interface (not c.is_empty.result) (rest_at c.loop-at.at c.args.bytes.now) c.in_default.ensures

pub add_piece-requires-clause-configured : goal.add_piece-requires-clause-configured
add_piece-requires-clause-configured c = λ h. some c.is_empty.result _ c.is_empty.ensures (behind (not c.is_empty.result) (rest_at c.loop-at.at c.args.bytes.now) c.in_default.ensures h)

pub loop-at-smaller : goal.loop-at-smaller
loop-at-smaller c = smaller c.loop-at.at (slice_index (rest_at c.loop-at.at c.args.bytes.now) 0) (length c.args.bytes.now) c.loop-at-test.true (sound (not c.is_empty.result) (rest_at c.loop-at.at c.args.bytes.now) (sym c.in_default.ensures)).two

pub loop-at-preserved : goal.loop-at-preserved
loop-at-preserved c =
    let e : kind_at (some_config c.loop-at.configs.items) (rest_at c.loop-at.at c.args.bytes.now) ≡ None =
    ap (λ (count : ℕ). kind_at (not (count == 0)) (rest_at c.loop-at.at c.args.bytes.now)) (sym c.loop-at.configs.ok.0)
    ∙ ap (λ (empty : Bool). kind_at (not empty) (rest_at c.loop-at.at c.args.bytes.now)) (sym c.is_empty.ensures) ∙ sym c.in_default.ensures in
    let n = next_at c.loop-at.configs.items c.loop-at.at c.args.bytes.now c.loop-at-test.true e in
    rw c.in_default-add_piece.ensures (sym n ∙ c.loop-at.invariant)

pub returns : goal.returns
returns c = rw c.from_vec.ensures (sym c.loop-at.invariant ∙ end_at c.loop-at.configs.items c.loop-at.at c.args.bytes.now c.loop-at-test.false)
