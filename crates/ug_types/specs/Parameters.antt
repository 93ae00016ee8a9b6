-- The words of settings that can be changed while the daemon runs: usbguard-daemon.conf(5).
use Rattle.std.specs.Prelude.{ℕ, nat_eq, if◌then◌else◌, List, codes, Option, Some, None}
use Rattle.std.specs.Cmp.Lexicographic.{pointwise}
use Rattle.std.specs.Option.{option_map}
use Rattle.ug_types.specs.declared.parameter.Inserted.{Inserted}
use Rattle.ug_types.specs.declared.parameter.Inserted.TheVariants as inserted
use Rattle.ug_types.specs.declared.parameter.Parameter.{Parameter}
use Rattle.ug_types.specs.declared.parameter.Parameter.TheVariants as parameter
use Rattle.ug_types.specs.declared.parameter.ParameterName.{ParameterName}
use Rattle.ug_types.specs.declared.parameter.ParameterName.TheVariants as name
use Rattle.ug_types.specs.Targets.{target_of, target_word}

abbrev pub inserted_word : Inserted → List ℕ
inserted_word inserted.Block = codes "block"
inserted_word inserted.Reject = codes "reject"
inserted_word inserted.Apply = codes "apply-policy"

-- the policy that a word is
unfoldable pub inserted_of : List ℕ → Option Inserted
inserted_of word =
    if pointwise nat_eq word (codes "block") then Some inserted.Block else
    if pointwise nat_eq word (codes "reject") then Some inserted.Reject else
    if pointwise nat_eq word (codes "apply-policy") then Some inserted.Apply else None

abbrev pub parameter_name : ParameterName → List ℕ
parameter_name name.ImplicitPolicyTarget = codes "ImplicitPolicyTarget"
parameter_name name.InsertedDevicePolicy = codes "InsertedDevicePolicy"

-- the setting that a word names
unfoldable pub parameter_of : List ℕ → Option ParameterName
parameter_of word =
    if pointwise nat_eq word (codes "ImplicitPolicyTarget") then Some name.ImplicitPolicyTarget else
    if pointwise nat_eq word (codes "InsertedDevicePolicy") then Some name.InsertedDevicePolicy else
    None

abbrev pub parameter_set : Parameter → ParameterName
parameter_set (parameter.ImplicitPolicyTarget target) = name.ImplicitPolicyTarget
parameter_set (parameter.InsertedDevicePolicy policy) = name.InsertedDevicePolicy

-- how its value is written
abbrev pub value_word : Parameter → List ℕ
value_word (parameter.ImplicitPolicyTarget target) = target_word target
value_word (parameter.InsertedDevicePolicy policy) = inserted_word policy

-- the setting with the value that a word is
abbrev pub parameter_with : ParameterName → List ℕ → Option Parameter
parameter_with name.ImplicitPolicyTarget word =
    option_map parameter.ImplicitPolicyTarget (target_of word)
parameter_with name.InsertedDevicePolicy word =
    option_map parameter.InsertedDevicePolicy (inserted_of word)
