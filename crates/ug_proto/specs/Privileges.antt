-- Which privileges requests need.
use Rattle.std.specs.Prelude.{List, [], ◌∷◌}
use Rattle.ug_types.specs.declared.access.Section.{Section}
use Rattle.ug_types.specs.declared.access.Section.TheVariants.{Devices, Policy, Exceptions, Parameters}
use Rattle.ug_types.specs.declared.access.Privilege.{Privilege}
use Rattle.ug_types.specs.declared.access.Privilege.TheVariants.{Modify, Listen}
use Rattle.ug_types.specs.declared.access.Privilege.TheVariants as privilege
use Rattle.ug_proto.specs.declared.request.Request.{Request}
use Rattle.ug_proto.specs.declared.request.Request.TheVariants as request

-- one of these is needed, and a refusal names the first
abbrev pub needs : Request → List (Section × Privilege)
needs (request.GetParameter name) = (Parameters, privilege.List) ∷ []
needs (request.SetParameter name value) = (Parameters, Modify) ∷ []
needs request.ListDevices = (Devices, privilege.List) ∷ []
needs (request.Device number target permanent) = (Devices, Modify) ∷ []
needs request.ListRules = (Policy, privilege.List) ∷ []
needs (request.AppendRule after permanent rule) = (Policy, Modify) ∷ []
needs (request.RemoveRule id) = (Policy, Modify) ∷ []
needs request.Watch = (Devices, Listen) ∷ (Exceptions, Listen) ∷ (Parameters, Listen) ∷ []
