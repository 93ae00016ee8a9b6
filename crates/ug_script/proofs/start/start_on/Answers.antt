use Rattle.std.proofs.Common.{◌≡◌, true, ap, subst, ◌∙◌}
use Rattle.ug_core.specs.Event.{daemon_of}
use Rattle.ug_script.specs.FolderLines.{HasLines}
use Rattle.ug_script.specs.Script.{fits_folder, no_start_of}
use Rattle.ug_script.specs.Setup.{SetupState, StartsOn, after_reading}
use Rattle.ug_script.specs.declared.start.NoStart.TheVariants as no_start
use Rattle.ug_script.proofs.Filed.{start_still, starts_with_folder}
use Rattle.ug_script.proofs.Starts.{starts_on, start_refused}
use Rattle.ug_script.proofs.start.start_on.Goals as goal

started : (c : goal.In-Ok-start) → (fits_folder c.args.setup.now ≡ true) × (StartsOn c.args.setup.now c.args.first c.args.disk.now (daemon_of c.in-Ok-start.daemon) × (c.start.new.disk ≡ after_reading c.args.disk.now))
started c =
    let held : HasLines c.args.setup.now.folder.files c.args.setup.now.folder.count = subst (λ (s : SetupState). HasLines s.folder.files s.folder.count) c.setup.view_is c.in_ok-folder.ensures.lines in
    starts_on c.args.setup.now held _ _ c.args.disk.now (daemon_of c.in-Ok-start.daemon) c.start.new.disk
    c.in-Ok.ensures.classes c.zone_for-zone.ensures c.rng_for-rng.ensures (c.in-Ok-access_of.ensures, c.in-Ok.ensures.hub) _ (c.in_ok-folder.ensures.files ∙ ap (λ (s : SetupState). s.folder.files) c.setup.view_is) c.in-Ok-start.ensures.starts

pub returns-in-Ok-start-clause-started : goal.returns-in-Ok-start-clause-started
returns-in-Ok-start-clause-started c = (started c).1.0

pub returns-in-Ok-start-clause-fits : goal.returns-in-Ok-start-clause-fits
returns-in-Ok-start-clause-fits c = (started c).0

pub returns-in-Ok-start-clause-read : goal.returns-in-Ok-start-clause-read
returns-in-Ok-start-clause-read c = (started c).1.1

pub returns-in-Ok-start-clause-folder : goal.returns-in-Ok-start-clause-folder
returns-in-Ok-start-clause-folder c =
    let held : HasLines c.args.setup.now.folder.files c.args.setup.now.folder.count = subst (λ (s : SetupState). HasLines s.folder.files s.folder.count) c.setup.view_is c.in_ok-folder.ensures.lines in
    starts_with_folder c.args.setup.now held c.args.first c.args.disk.now (daemon_of c.in-Ok-start.daemon) (started c).1.0

pub returns-in-Err-clause-bad : goal.returns-in-Err-clause-bad
returns-in-Err-clause-bad c e =
    let held : HasLines c.args.setup.now.folder.files c.args.setup.now.folder.count = subst (λ (s : SetupState). HasLines s.folder.files s.folder.count) c.setup.view_is c.in_ok-folder.ensures.lines in
    let same : no_start_of c.in-Err.fault ≡ no_start.BadRules = cc in
    (start_refused c.args.setup.now held _ _ c.args.disk.now c.in-Err.fault c.start.new.disk _ (c.in_ok-folder.ensures.files ∙ ap (λ (s : SetupState). s.folder.files) c.setup.view_is) c.in-Err.ensures.starts).bad same

pub returns-in-Err-clause-too_long : goal.returns-in-Err-clause-too_long
returns-in-Err-clause-too_long c e =
    let held : HasLines c.args.setup.now.folder.files c.args.setup.now.folder.count = subst (λ (s : SetupState). HasLines s.folder.files s.folder.count) c.setup.view_is c.in_ok-folder.ensures.lines in
    let same : no_start_of c.in-Err.fault ≡ no_start.TooLong = cc in
    (start_refused c.args.setup.now held _ _ c.args.disk.now c.in-Err.fault c.start.new.disk _ (c.in_ok-folder.ensures.files ∙ ap (λ (s : SetupState). s.folder.files) c.setup.view_is) c.in-Err.ensures.starts).too_long same

pub returns-in-Ok-start-clause-still : goal.returns-in-Ok-start-clause-still
returns-in-Ok-start-clause-still c = start_still _ _ _ c.args.disk.now _ c.start.new.disk c.in-Ok-start.ensures.starts

pub returns-in-Err-clause-still : goal.returns-in-Err-clause-still
returns-in-Err-clause-still c = start_still _ _ _ c.args.disk.now _ c.start.new.disk c.in-Err.ensures.starts
