-- What is wrong with a rule's text, and where.
use Rattle.std.specs.Prelude.{◌≡◌, ℕ, Option, Some, None, Result, Ok, Err}
use Rattle.ug_rule.specs.declared.fault.Ending.{Ending}
use Rattle.ug_rule.specs.declared.fault.Fault.{Fault}
use Rattle.ug_rule.specs.declared.fault.FaultKind.{FaultKind}
use Rattle.ug_rule.specs.declared.fault.FaultKind.TheVariants.{BadEscape, OpenString, BadByte, NoTarget, UnknownWord, Repeated, BadValue, EmptySet, OpenSet, BadCondition, ConditionInQuery, TrailingToken}
use Rattle.ug_rule.specs.declared.fault.RuleFault.{RuleFault}
use Rattle.ug_rule.specs.declared.fault.RuleFault.TheVariants as rule_fault
use Rattle.ug_rule.specs.declared.fault.Stop.{Stop}
use Rattle.ug_rule.specs.declared.fault.Stop.TheVariants.{Bad, Memory}

-- the number of a kind of fault
abbrev pub kind_number : FaultKind → ℕ
kind_number BadEscape = 1
kind_number OpenString = 2
kind_number BadByte = 3
kind_number NoTarget = 4
kind_number UnknownWord = 5
kind_number Repeated = 6
kind_number BadValue = 7
kind_number EmptySet = 8
kind_number OpenSet = 9
kind_number BadCondition = 10
kind_number ConditionInQuery = 11
kind_number TrailingToken = 12

abbrev pub fault_at : FaultKind → ℕ → Fault
fault_at kind place = record { kind = kind; place = place }

abbrev pub missing_by : FaultKind → Option ℕ → ℕ → Fault
missing_by kind None end = fault_at kind end
missing_by kind (Some brace) end = fault_at OpenSet brace

-- where the line ends too early: at the outermost brace that is open, or else at the line's end
abbrev pub missing : FaultKind → Ending → Fault
missing kind ending = missing_by kind ending.brace ending.length

abbrev pub outermost : ℕ → Option ℕ → Option ℕ
outermost place None = Some place
outermost place (Some brace) = Some brace

-- behind one more open brace
abbrev pub within : ℕ → Ending → Ending
within place ending = record { brace = outermost place ending.brace; length = ending.length }

-- what a good reading goes on with
abbrev pub on_ok : {X Y E : Type 0} → Result X E → (X → Result Y E) → Result Y E
on_ok (Ok x) next = next x
on_ok (Err fault) next = Err fault

-- what is there, or a fault
abbrev pub required : {X : Type 0} → Option X → FaultKind → ℕ → Result X Fault
required None kind place = Err (fault_at kind place)
required (Some x) kind place = Ok x

-- an answer is what was read, unless memory was refused
abbrev pub AnswersRead : {X : Type 0} → Result X Stop → Result X Fault → Type 0
AnswersRead (Ok x) read = read ≡ Ok x
AnswersRead (Err (Bad fault)) read = read ≡ Err fault
AnswersRead (Err Memory) read = Unit {0}

-- the same, with the number of the fault's kind
abbrev pub GivesNumbered : {X : Type 0} → Result X RuleFault → Result X Fault → Type 0
GivesNumbered (Ok x) read = read ≡ Ok x
GivesNumbered (Err (rule_fault.Bad kind place)) (Ok x) = ⊥
GivesNumbered (Err (rule_fault.Bad kind place)) (Err fault) =
    (kind ≡ kind_number fault.kind) × (place ≡ fault.place)
GivesNumbered (Err rule_fault.Memory) read = Unit {0}
