-- The headline of turns, from that of runs.
use Rattle.std.proofs.Common.{◌≡◌, List, map, ap, ◌∙◌}
use Rattle.ug_audit.specs.declared.entry.Entry.{Entry}
use Rattle.ug_headline.specs.Seeing.{line_of, seen_of}
use Rattle.ug_headline.proofs.Stories.{journal_seen}
use Rattle.ug_headline.proofs.Warrants.{each_write}
use Rattle.ug_headline_top.specs.Turned.{TurnsAreWarranted}

pub turns_are : TurnsAreWarranted
turns_are start hub number turns first o d k p e started new r = record {
  run = map seen_of r.happened;
  journal = journal_seen r.happened ∙ ap (λ (es : List Entry). map line_of es) r.entries;
  warranted = each_write start hub number first o d r.happened k p e started new r.chain;
}
