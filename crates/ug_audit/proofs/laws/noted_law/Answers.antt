-- Entries that were noted, by induction.
use Rattle.std.proofs.Common.{[]}
use Rattle.ug_audit.proofs.Noting.{notes_on}
use Rattle.ug_audit.proofs.Texts.{took_entries, all_entries}
use Rattle.ug_audit.proofs.laws.noted_law.Goals as goal

pub returns : goal.returns
returns c = record {
  texts = took_entries;
  alone = λ es before after none h. all_entries es before [] after none h;
  behind = λ es more before between after h k. notes_on [] es more before between after [] [] h k;
}
