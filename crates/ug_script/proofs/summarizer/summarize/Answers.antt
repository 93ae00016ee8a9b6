use Rattle.ug_script.specs.Summing.{summary_of}
use Rattle.ug_script.proofs.Against.{summary_refused}
use Rattle.ug_script.proofs.Journals.{stays_lawful}
use Rattle.ug_script.proofs.Summed.{summary_carries, summary_told}
use Rattle.ug_script.proofs.summarizer.summarize.Goals as goal

pub returns-clause-answers : goal.returns-clause-answers
returns-clause-answers g c = λ all base a b. (summary_of c.run-status.new.machine, rw c.new-summarizer.ensures at (c.run-status.ensures.answers all base a b))

pub returns-clause-told : goal.returns-clause-told
returns-clause-told g c = λ all base a b.
    summary_told c.args.kernel.now all base _ _ _ _ (rw c.new-summarizer.ensures at (c.run-status.ensures.answers all base a b))

pub returns-clause-why : goal.returns-clause-why
returns-clause-why g c = λ all is run sound none few e.
    let k = c.run-status.ensures.refused all is e in
    summary_refused c.args.kernel.now _ k.0 (stays_lawful c.args.kernel.now run sound.kernel) (none, sound, few) (rw c.new-summarizer.ensures at k.1)

pub returns-clause-carries : goal.returns-clause-carries
returns-clause-carries g c = λ all base a b run sound e.
    summary_carries c.args.kernel.now run sound _
    (rw c.new-summarizer.ensures at ((c.run-status.ensures.answers all base a b).done e).1)
    (rw c.new-summarizer.ensures at (c.run-status.ensures.taken all a e))
