-- The settings that hold where no line says otherwise.
use Rattle.std.specs.Prelude.{[], codes, false}
use Rattle.ug_types.specs.declared.verdict.Target.TheVariants.{Block}
use Rattle.ug_conf.specs.declared.settings.Settings.{Settings}
use Rattle.ug_conf.specs.declared.settings.Present.TheVariants as present
use Rattle.ug_types.specs.declared.parameter.Inserted.TheVariants as inserted
use Rattle.ug_conf.specs.declared.settings.AuthDefault.TheVariants as auth_default

unfoldable pub defaults : Settings
defaults = record {
  rule_file = codes "/etc/usbguard/rules.conf";
  rule_folder = [];
  access_folder = codes "/etc/usbguard/IPCAccessControl.d/";
  implicit = Block;
  present_device = present.Apply;
  present_controller = present.Keep;
  inserted = inserted.Apply;
  default = auth_default.Keep;
  users = [];
  with_port = false;
  unused = [];
}
