-- The settings that verdicts go by, and what is written to the default of each root hub.
use Rattle.std.specs.Prelude.{Option, Some, None}
use Rattle.ug_kernel.specs.declared.control.Write.{Write}
use Rattle.ug_kernel.specs.declared.control.Write.TheVariants as write
use Rattle.ug_conf.specs.declared.settings.AuthDefault.{AuthDefault}
use Rattle.ug_conf.specs.declared.settings.AuthDefault.TheVariants as default
use Rattle.ug_conf.specs.declared.settings.Settings.{Settings}
use Rattle.ug_core.specs.declared.classes.Classes.{Classes}

abbrev pub classes_of : Settings → Classes
classes_of s =
    record {
      implicit = s.implicit;
      present_device = s.present_device;
      present_controller =
          s.present_controller;
      inserted = s.inserted;
      with_port = s.with_port;
    }

abbrev pub hub_default : AuthDefault → Option Write
hub_default default.Keep = None
hub_default default.None = Some write.DefaultOff
hub_default default.All = Some write.DefaultOn
hub_default default.Internal = None
