use Rattle.std.proofs.Common.{List, Option, Err, Ok, sym, inl, refl, subst}
use Rattle.ug_store.specs.Store.{seen_by}
use Rattle.ug_core.specs.Event.{daemon_of}
use Rattle.ug_kernel.specs.declared.control.Write.{Write}
use Rattle.ug_conf.specs.declared.folder_file.FolderFile.{FolderFile}
use Rattle.ug_core.specs.Settings.{classes_of, hub_default}
use Rattle.ug_core.specs.Starting.{Outset, StartsFrom, TakesFolder}
use Rattle.ug_core.specs.declared.classes.Classes.{Classes}
use Rattle.ug_core.proofs.Started.{refused_folder, starts_from, starts_later}
use Rattle.ug_core.proofs.daemon.Daemon.start.Goals as goal

pub returns-in-Err-clause-starts : goal.returns-in-Err-clause-starts
returns-in-Err-clause-starts g c =
    let outset : Outset = record { classes = classes_of c.args.settings; hub = hub_default c.args.settings.default; access = c.args.acl; clock = g.Z.Zone.clock c.args.zone; words = g.R.Rng.stream c.args.rng; first = c.args.first } in
    refused_folder g.D.RuleDisk.keeps g.D.RuleDisk.told g.D.RuleDisk.faults outset c.args.folder c.args.disk.now _ (subst (λ (files : List FolderFile). TakesFolder files (Err c.in-Err.fault)) c.as_slice.ensures c.in-Err.ensures.takes)

pub returns-in-Err-load_rules-clause-starts : goal.returns-in-Err-load_rules-clause-starts
returns-in-Err-load_rules-clause-starts g c =
    let takes = subst (λ (files : List FolderFile). TakesFolder files (Ok c.in-Ok.listed)) c.as_slice.ensures c.in-Ok.ensures.takes in
    record {
      folder = Ok takes.0;
      taken = inl (sym takes.1);
      starts = record { loaded = Err c.in-Err-load_rules.fault; loads = c.in-Err-load_rules.ensures.loads takes.0 takes.2; starts = refl };
    }

pub returns-in-Ok-load_rules-clause-starts : goal.returns-in-Ok-load_rules-clause-starts
returns-in-Ok-load_rules-clause-starts g c =
    let outset : Classes → Option Write → Outset = λ classes hub. record { classes = classes; hub = hub; access = c.args.acl; clock = g.Z.Zone.clock c.args.zone; words = g.R.Rng.stream c.args.rng; first = c.args.first } in
    let takes = subst (λ (files : List FolderFile). TakesFolder files (Ok c.in-Ok.listed)) c.as_slice.ensures c.in-Ok.ensures.takes in
    record {
      folder = Ok takes.0;
      taken = inl (sym takes.1);
      starts = record {
        loaded = Ok c.in-Ok-load_rules.loaded;
        loads = c.in-Ok-load_rules.ensures.loads takes.0 takes.2;
        starts = subst (λ (hub : Option Write). StartsFrom (outset (classes_of c.args.settings) hub) (Ok c.in-Ok-load_rules.loaded) (seen_by (λ d. daemon_of d) c.start.result)) c.hub_default.ensures (subst (λ (classes : Classes). StartsFrom (outset classes c.hub_default.result) (Ok c.in-Ok-load_rules.loaded) (seen_by (λ d. daemon_of d) c.start.result)) c.of.ensures (starts_from (λ d. daemon_of d) (outset c.of.result c.hub_default.result) c.in-Ok-load_rules.loaded c.start.result c.start.ensures.ok c.start.ensures.err));
      };
    }

pub returns-in-Ok-load_rules-clause-new : goal.returns-in-Ok-load_rules-clause-new
returns-in-Ok-load_rules-clause-new g c = starts_later (λ d. daemon_of d) g.D.RuleDisk.keeps g.D.RuleDisk.told g.D.RuleDisk.faults c.in-Ok.ensures.takes.0 c.args.disk.now _ c.in-Ok-load_rules.loaded c.load_rules.new.disk c.start.result (c.in-Ok-load_rules.ensures.loads c.in-Ok.ensures.takes.0 c.in-Ok.ensures.takes.2) c.start.ensures.ok
