use Rattle.std.proofs.Common.{sym, ◌∙◌}
use Rattle.ug_ruleset.proofs.Edited.{saves_stay}
use Rattle.ug_ruleset.proofs.kept_rules.KeptRules.text_if_saved.Goals as goal

pub returns-then-not-changes_file-clause-fits : goal.returns-then-not-changes_file-clause-fits
returns-then-not-changes_file-clause-fits c = (saves_stay c.args.edit.now c.args.self.now.next c.args.self.now.entries (sym c.changes_file.ensures ∙ c.if-not-changes_file.true) c.stay_saveable.ensures.saves).fits

pub returns-then-not-changes_file-clause-saves : goal.returns-then-not-changes_file-clause-saves
returns-then-not-changes_file-clause-saves c = λ can. saves_stay c.args.edit.now c.args.self.now.next c.args.self.now.entries (sym c.changes_file.ensures ∙ c.if-not-changes_file.true) c.stay_saveable.ensures.saves
