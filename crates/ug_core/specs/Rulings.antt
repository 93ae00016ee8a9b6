-- Verdicts one after another, each with what it was given by, and the policy between them, which
-- orders change.
use Rattle.std.specs.Prelude.{ℕ, ◌+◌, Bool, is_none, List, [], ◌∷◌, ◌++◌}
use Rattle.ug_types.specs.Names.{parent_of}
use Rattle.ug_types.specs.declared.record.Judged.{Judged}
use Rattle.ug_kernel.specs.declared.control.Held.{Held}
use Rattle.ug_types.specs.declared.verdict.Target.{Target}
use Rattle.ug_types.specs.declared.verdict.Cause.{Cause}
use Rattle.ug_types.specs.declared.verdict.Moment.{Moment}
use Rattle.ug_cond.specs.Judgements.{Judgement}
use Rattle.ug_table.specs.Allowed.{allowed_records}
use Rattle.ug_table.specs.declared.standing.Standing.{Standing}
use Rattle.ug_core.specs.Policy.{Judging, context_at, verdict_of, later_of, judgements_of, words_needed}
use Rattle.ug_core.specs.Changes.{CanChange, changed_by}
use Rattle.ug_core.specs.InForce.{Decision}
use Rattle.ug_core.specs.declared.changes.Change.{Change}

-- What a verdict was given by: the device, its record, whether it counted as present and the value
-- that its probe gave; the moment; and the standings that were left, each with its marks.
pub record Ruling : Type 0 where
  pub number : ℕ
  pub name : List ℕ
  pub held : Held
  pub device : ℕ
  pub judged : Judged
  pub present : Bool
  pub on : Bool
  pub moment : Moment
  pub standings : List Standing

-- the policy at a moment: the local second is that of its clock
abbrev pub at_moment : Moment → Judging → Judging
at_moment moment p = record p { ctx = context_at p.clock moment }

-- what the policy says at the ruling's moment, beside the records of the allowed devices of its
-- standings
abbrev pub ruling_answer : Judging → Ruling → Target × Cause
ruling_answer p r =
    verdict_of (at_moment r.moment p) (allowed_records r.standings) r.judged
    (is_none (parent_of r.name)) r.present r.on

-- and what becomes of it: histories have the moment, and words are taken
abbrev pub after_ruling : Judging → Ruling → Judging
after_ruling p r =
    later_of (at_moment r.moment p) (allowed_records r.standings) r.judged
    (is_none (parent_of r.name)) r.present

abbrev pub decision_by : Judging → Ruling → Decision
decision_by p r =
    record {
      number = r.number;
      name = r.name;
      held = r.held;
      verdict = (ruling_answer p r).0;
      cause =
          (ruling_answer p r).1;
    }

-- ---- rulings and changes, one after another

pub data PolicyStep : Type 0 where
  Ruled : Ruling → PolicyStep
  Changed : Change → PolicyStep

abbrev pub after_steps : Judging → List PolicyStep → Judging
after_steps p [] = p
after_steps p (Ruled r ∷ steps) = after_steps (after_ruling p r) steps
after_steps p (Changed change ∷ steps) = after_steps (changed_by change p) steps

-- what the steps are told as: a ruling by its decision, by the policy as the steps before it left
-- it
pub data Told : Type 0 where
  Decided : Decision → Told
  Was_changed : Change → Told

abbrev pub told_by : Judging → List PolicyStep → List Told
told_by p [] = []
told_by p (Ruled r ∷ steps) = Decided (decision_by p r) ∷ told_by (after_ruling p r) steps
told_by p (Changed change ∷ steps) = Was_changed change ∷ told_by (changed_by change p) steps

-- each change is one that the rules take that it finds
abbrev pub CanTake : Judging → List PolicyStep → Type 0
CanTake p [] = Unit {0}
CanTake p (Ruled r ∷ steps) = CanTake (after_ruling p r) steps
CanTake p (Changed change ∷ steps) = CanChange change p.rules × CanTake (changed_by change p) steps

-- what the changes alone leave of the policy
abbrev pub changed_alone : Judging → List PolicyStep → Judging
changed_alone p [] = p
changed_alone p (Ruled r ∷ steps) = changed_alone p steps
changed_alone p (Changed change ∷ steps) = changed_alone (changed_by change p) steps

-- the words that rulings took
abbrev pub words_for : Judging → List PolicyStep → ℕ
words_for p [] = 0
words_for p (Ruled r ∷ steps) =
    words_needed (at_moment r.moment p) (allowed_records r.standings) r.judged
    (is_none (parent_of r.name)) r.present
    + words_for (after_ruling p r) steps
words_for p (Changed change ∷ steps) = words_for (changed_by change p) steps

-- the judgements by rules among them
abbrev pub judgements_for : Judging → List PolicyStep → List Judgement
judgements_for p [] = []
judgements_for p (Ruled r ∷ steps) =
    judgements_of (at_moment r.moment p) (allowed_records r.standings) r.judged
    (is_none (parent_of r.name)) r.present
    ++ judgements_for (after_ruling p r) steps
judgements_for p (Changed change ∷ steps) = judgements_for (changed_by change p) steps
