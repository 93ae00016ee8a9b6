-- What a line is read as, word by word.
use Rattle.std.specs.Prelude.{◌≡◌, ℕ, ◌-◌, Bool, true, false, nat_eq, if◌then◌else◌, List, [], ◌∷◌, length, Option, Some, None, Result, Ok, Err, codes}
use Rattle.std.specs.Cmp.Lexicographic.{pointwise}
use Rattle.ug_types.specs.declared.rule.After.{After}
use Rattle.ug_types.specs.declared.rule.After.TheVariants as after
use Rattle.ug_types.specs.declared.verdict.Target.{Target}
use Rattle.ug_types.specs.declared.verdict.Target.TheVariants as target
use Rattle.ug_proto.specs.declared.request.Request.{Request}
use Rattle.ug_proto.specs.declared.request.Request.TheVariants as request
use Rattle.ug_proto.specs.declared.request.RequestFault.{RequestFault}
use Rattle.ug_proto.specs.declared.request.RequestFault.TheVariants.{Bad, Memory}
use Rattle.ug_lines.specs.Numbers.{number_in}
use Rattle.ug_proto.specs.Splitting.{word_in_front, behind_word}

abbrev pub then_take : {X Y : Type 0} → Result X ℕ → (X → Result Y ℕ) → Result Y ℕ
then_take (Ok x) next = next x
then_take (Err place) next = Err place

abbrev pub or_wrong : {X : Type 0} → ℕ → Option X → Result X ℕ
or_wrong place None = Err place
or_wrong place (Some x) = Ok x

-- the next word of a line of that length; a word that is missing is told at the line's end
abbrev pub next_word : ℕ → List ℕ → Result (List ℕ) ℕ
next_word total [] = Err total
next_word total (b ∷ text) = Ok (word_in_front text)

-- what stands behind the next word
abbrev pub behind_next : List ℕ → List ℕ
behind_next [] = []
behind_next (b ∷ text) = behind_word text

-- where the next word begins
abbrev pub next_place : ℕ → List ℕ → ℕ
next_place total [] = total
next_place total (b ∷ text) = total - length text

abbrev pub unless_empty : List ℕ → Option (List ℕ)
unless_empty [] = None
unless_empty (b ∷ word) = Some (b ∷ word)

-- the next word, read as something
abbrev pub next_read : {X : Type 0} → ℕ → List ℕ → (List ℕ → Option X) → Result X ℕ
next_read total rest meaning =
    then_take (next_word total rest) (λ word. or_wrong (next_place total rest) (meaning word))

-- no word stands behind
abbrev pub nothing_behind : {X : Type 0} → ℕ → List ℕ → X → Result X ℕ
nothing_behind total [] x = Ok x
nothing_behind total (b ∷ text) x = Err (total - length text)

abbrev pub after_number : Option ℕ → Option After
after_number None = None
after_number (Some id) = if nat_eq id 0 then Some after.Front else Some (after.Rule id)

abbrev pub after_in : List ℕ → Option After
after_in word =
    if pointwise nat_eq word (codes "end") then Some after.End else after_number (number_in word)

-- whether a rule is permanent
abbrev pub rule_kind_in : List ℕ → Option Bool
rule_kind_in word =
    if pointwise nat_eq word (codes "permanent") then Some true else
    if pointwise nat_eq word (codes "temporary") then Some false else None

abbrev pub permanence_in : List ℕ → Option Bool
permanence_in word = if pointwise nat_eq word (codes "permanent") then Some true else None

abbrev pub get_read : ℕ → List ℕ → Result Request ℕ
get_read total rest =
    then_take (next_read total rest unless_empty) (λ name.
    nothing_behind total (behind_next rest) (request.GetParameter name))

abbrev pub set_read : ℕ → List ℕ → Result Request ℕ
set_read total rest =
    then_take (next_read total rest unless_empty) (λ name.
    then_take (next_read total (behind_next rest) unless_empty) (λ value.
    nothing_behind total (behind_next (behind_next rest)) (request.SetParameter name value)))

-- a third word says that it is permanent
abbrev pub permanence_read : ℕ → List ℕ → ℕ → Target → Result Request ℕ
permanence_read total [] number target = Ok (request.Device number target false)
permanence_read total (b ∷ text) number target =
    then_take (next_read total (b ∷ text) permanence_in) (λ permanent.
    nothing_behind total (behind_word text) (request.Device number target permanent))

abbrev pub device_read : Target → ℕ → List ℕ → Result Request ℕ
device_read target total rest =
    then_take (next_read total rest number_in) (λ number.
    permanence_read total (behind_next rest) number target)

-- the rest of the line is the rule
abbrev pub rule_at_end : ℕ → List ℕ → After → Bool → Result Request ℕ
rule_at_end total [] after permanent = Err total
rule_at_end total (b ∷ []) after permanent = Err total
rule_at_end total (b ∷ c ∷ rule) after permanent =
    Ok (request.AppendRule after permanent (c ∷ rule))

abbrev pub append_read : ℕ → List ℕ → Result Request ℕ
append_read total rest =
    then_take (next_read total rest after_in) (λ after.
    then_take (next_read total (behind_next rest) rule_kind_in) (λ permanent.
    rule_at_end total (behind_next (behind_next rest)) after permanent))

abbrev pub remove_read : ℕ → List ℕ → Result Request ℕ
remove_read total rest =
    then_take (next_read total rest number_in) (λ id.
    nothing_behind total (behind_next rest) (request.RemoveRule id))

-- the requests about rules, and `watch`
unfoldable pub rule_request_read : List ℕ → ℕ → List ℕ → Result Request ℕ
rule_request_read word total rest =
    if pointwise nat_eq word (codes "list-rules")
    then nothing_behind total rest request.ListRules else
    if pointwise nat_eq word (codes "append-rule") then append_read total rest else
    if pointwise nat_eq word (codes "remove-rule") then remove_read total rest else
    if pointwise nat_eq word (codes "watch") then nothing_behind total rest request.Watch else Err 0

-- a request by its first word, and what stands behind
unfoldable pub named_read : List ℕ → ℕ → List ℕ → Result Request ℕ
named_read word total rest =
    if pointwise nat_eq word (codes "get-parameter") then get_read total rest else
    if pointwise nat_eq word (codes "set-parameter") then set_read total rest else
    if pointwise nat_eq word (codes "list-devices")
    then nothing_behind total rest request.ListDevices else
    if pointwise nat_eq word (codes "allow-device") then device_read target.Allow total rest else
    if pointwise nat_eq word (codes "block-device") then device_read target.Block total rest else
    if pointwise nat_eq word (codes "reject-device") then device_read target.Reject total rest else
    rule_request_read word total rest

-- a line's request, or the place of its first word that doesn't fit
abbrev pub request_read : List ℕ → Result Request ℕ
request_read line = named_read (word_in_front line) (length line) (behind_word line)

-- a fault is the place that was read, unless memory was refused
abbrev pub IsWrongAt : {X : Type 0} → RequestFault → Result X ℕ → Type 0
IsWrongAt (Bad place) read = read ≡ Err place
IsWrongAt Memory read = Unit {0}
