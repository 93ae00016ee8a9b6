use Rattle.std.proofs.Common.{refl, sym, subst, ℕ, ◌≤◌}
use Rattle.ug_types.proofs.Known.{front_of_rest, front_copied, front_within, nothing_left, front_sizes, front_size, front_some, ahead_within, at_most, front_exact, end_apart, bytes_apart}
use Rattle.ug_types.proofs.Listed.{has_same, has_none}
use Rattle.ug_types.proofs.memory.MemSourceSource.take.Goals as goal

pub returns-then-is_listed-clause-fails : goal.returns-then-is_listed-clause-fails
returns-then-is_listed-clause-fails c = (λ _. has_same c.as_slice.ensures.value c.saturating_add-self.ensures (c.is_listed.ensures.0 c.if-is_listed.true), λ _. refl)

pub returns-then-is_empty-clause-bytes : goal.returns-then-is_empty-clause-bytes
returns-then-is_empty-clause-bytes c = (refl, nothing_left c.args.self.now.at c.deref.result.now _ c.is_empty.result c.deref.ensures.value c.is_empty.ensures c.if-is_empty.true)

pub returns-then-is_empty-clause-fails : goal.returns-then-is_empty-clause-fails
returns-then-is_empty-clause-fails c = (λ e. absurd (end_apart e), has_none c.as_slice.ensures.value c.saturating_add-self.ensures c.is_listed.ensures.1 c.if-is_listed.false)

pub slice_bounds-copy_from_slice-end-3 : goal.slice_bounds-copy_from_slice-end-3
slice_bounds-copy_from_slice-end-3 c = front_size c.min-n.result _ _ c.min-n.ensures

pub copy_from_slice-requires : goal.copy_from_slice-requires
copy_from_slice-requires c = front_sizes c.min-n.result _ _ c.min-n.ensures

pub returns-clause-size : goal.returns-clause-size
returns-clause-size c = front_some c.min-n.result _ _ c.is_empty.result c.min-n.ensures c.is_empty.ensures c.if-is_empty.false c.requires

pub returns-clause-bytes : goal.returns-clause-bytes
returns-clause-bytes c =
    front_of_rest c.min-n.result c.args.self.now.at c.args.self.now.bytes.items c.copy_from_slice.new.self _
    (front_copied _ _ _ _ _ c.deref.ensures.value c.copy_from_slice.ensures.after)
    (front_within _ _ _ _ _ c.deref.ensures.value c.min-n.ensures)

pub returns-clause-fails : goal.returns-clause-fails
returns-clause-fails c = (λ e. absurd (bytes_apart _ e), has_none c.as_slice.ensures.value c.saturating_add-self.ensures c.is_listed.ensures.1 c.if-is_listed.false)

pub invariant_of-self : goal.invariant_of-self
invariant_of-self c = record { within = c.args.self.now.within }

pub invariant_of-self-then-is_empty : goal.invariant_of-self-then-is_empty
invariant_of-self-then-is_empty c = record { within = c.args.self.now.within }

pub invariant_of-self-2 : goal.invariant_of-self-2
invariant_of-self-2 c = record { within = ahead_within c.args.self.now.at c.min-n.result c.deref.result.now _ _ c.args.self.now.within c.deref.ensures.len c.min-n.ensures }

pub slice_bounds-rest-count : goal.slice_bounds-rest-count
slice_bounds-rest-count c = subst (λ (n : ℕ). c.args.self.now.at ≤ n) (sym c.deref.ensures.len) c.args.self.now.within

pub slice_bounds-copy_from_slice-end : goal.slice_bounds-copy_from_slice-end
slice_bounds-copy_from_slice-end c = at_most c.min-n.result _ _ c.min-n.ensures

pub slice_bounds-copy_from_slice-end-2 : goal.slice_bounds-copy_from_slice-end-2
slice_bounds-copy_from_slice-end-2 c = front_exact c.min-n.result _ _ c.min-n.ensures

pub returns-clause-cause : goal.returns-clause-cause
returns-clause-cause c = λ e. absurd (bytes_apart _ e)

pub returns-then-is_empty-clause-cause : goal.returns-then-is_empty-clause-cause
returns-then-is_empty-clause-cause c = λ e. absurd (end_apart e)
