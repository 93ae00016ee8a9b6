-- Requests as they are written.
use Rattle.std.specs.Prelude.{◌≢◌, ℕ, ◌<◌, ◌^◌, Bool, true, false, List, [], ◌∷◌, ◌++◌, codes, decimal}
use Rattle.ug_types.specs.declared.rule.After.{After}
use Rattle.ug_types.specs.declared.rule.After.TheVariants as after
use Rattle.ug_types.specs.declared.verdict.Target.{Target}
use Rattle.ug_types.specs.declared.verdict.Target.TheVariants as target
use Rattle.ug_proto.specs.declared.request.Request.{Request}
use Rattle.ug_proto.specs.declared.request.Request.TheVariants as request
use Rattle.ug_proto.specs.Splitting.{IsPlainWord}

abbrev pub device_word : Target → List ℕ
device_word target.Allow = codes "allow-device"
device_word target.Block = codes "block-device"
device_word target.Reject = codes "reject-device"

abbrev pub permanence_words : Bool → List ℕ
permanence_words true = codes " permanent"
permanence_words false = []

abbrev pub kind_word : Bool → List ℕ
kind_word true = codes "permanent"
kind_word false = codes "temporary"

abbrev pub after_word : After → List ℕ
after_word after.End = codes "end"
after_word after.Front = codes "0"
after_word (after.Rule id) = decimal id

unfoldable pub request_text : Request → List ℕ
request_text (request.GetParameter name) = codes "get-parameter " ++ name
request_text (request.SetParameter name value) = codes "set-parameter " ++ (name ++ 32 ∷ value)
request_text request.ListDevices = codes "list-devices"
request_text (request.Device number target permanent) =
    device_word target ++ 32 ∷ (decimal number ++ permanence_words permanent)
request_text request.ListRules = codes "list-rules"
request_text (request.AppendRule after permanent rule) =
    codes "append-rule " ++ (after_word after ++ 32 ∷ (kind_word permanent ++ 32 ∷ rule))
request_text (request.RemoveRule id) = codes "remove-rule " ++ decimal id
request_text request.Watch = codes "watch"

-- front, end, or behind the rule of an id; a rule's id is not 0
abbrev pub IsAfter : After → Type 0
IsAfter after.End = Unit {0}
IsAfter after.Front = Unit {0}
IsAfter (after.Rule id) = (0 < id) × (id < 2 ^ 64)

-- the values that a request can have; a rule is any text that isn't empty
abbrev pub IsRequest : Request → Type 0
IsRequest (request.GetParameter name) = IsPlainWord name
IsRequest (request.SetParameter name value) = IsPlainWord name × IsPlainWord value
IsRequest request.ListDevices = Unit {0}
IsRequest (request.Device number target permanent) = number < 2 ^ 64
IsRequest request.ListRules = Unit {0}
IsRequest (request.AppendRule after permanent rule) = IsAfter after × (rule ≢ [])
IsRequest (request.RemoveRule id) = id < 2 ^ 64
IsRequest request.Watch = Unit {0}
