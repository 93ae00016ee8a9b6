use Rattle.std.proofs.Common.{[], refl, sym, ◌∙◌}
use Rattle.std.proofs.lemmas.Bool.{false≢true}
use Rattle.std.proofs.lemmas.List.{append-nil}
use Rattle.ug_types.proofs.Known.{done_apart}
use Rattle.ug_types.proofs.Listed.{has_same, has_none}
use Rattle.ug_types.proofs.memory.MemSinkSink.put.Goals as goal

pub returns-then-is_listed-clause-bytes : goal.returns-then-is_listed-clause-bytes
returns-then-is_listed-clause-bytes c = ([], _, refl, sym (append-nil _))

pub returns-then-is_listed-clause-fails : goal.returns-then-is_listed-clause-fails
returns-then-is_listed-clause-fails c = (λ _. refl, λ _ _. has_same c.as_slice.ensures.value c.saturating_add-self.ensures (c.is_listed.ensures.0 c.if-is_listed.true))

pub returns-in-Ok-clause-fails : goal.returns-in-Ok-clause-fails
returns-in-Ok-clause-fails c = (has_none c.as_slice.ensures.value c.saturating_add-self.ensures c.is_listed.ensures.1 c.if-is_listed.false, λ _ e. absurd (done_apart e))

pub returns-in-Err-clause-bytes : goal.returns-in-Err-clause-bytes
returns-in-Err-clause-bytes c = ([], _, refl, c.in-Err.ensures.items ∙ sym (append-nil _))

pub returns-in-Err-clause-fails : goal.returns-in-Err-clause-fails
returns-in-Err-clause-fails c = (λ _. refl, λ e. absurd (false≢true (sym e)))
