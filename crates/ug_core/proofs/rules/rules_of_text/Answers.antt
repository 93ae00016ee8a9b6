use Rattle.ug_core.proofs.Listing.{behind_folder, text_back, text_saves, text_starts}
use Rattle.ug_core.proofs.rules.rules_of_text.Goals as goal

pub returns-in-Ok-clause-starts : goal.returns-in-Ok-clause-starts
returns-in-Ok-clause-starts c = λ rules at. text_starts rules _ _ _ (c.in_ok-list.ensures rules at) c.in-Ok.ensures.text c.in-Ok.ensures.fits c.in-Ok.ensures.bytes

pub returns-in-Ok-clause-readable : goal.returns-in-Ok-clause-readable
returns-in-Ok-clause-readable c =
    let read = behind_folder c.args.folder _ _ c.requires.own c.in_ok-list.ensures in
    text_back read.folder _ _ _ read.lists c.in-Ok.ensures.text c.in-Ok.ensures.fits c.in-Ok.ensures.bytes read.back

pub returns-in-Ok-clause-saves : goal.returns-in-Ok-clause-saves
returns-in-Ok-clause-saves c =
    let read = behind_folder c.args.folder _ _ c.requires.own c.in_ok-list.ensures in
    text_saves read.folder _ _ _ read.lists c.in-Ok.ensures.text c.in-Ok.ensures.fits c.in-Ok.ensures.bytes
