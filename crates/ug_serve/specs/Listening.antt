-- What is asked of the links before the first turn.
use Rattle.std.specs.Prelude.{ℕ, List, [], ◌∷◌, Result, Ok, Err}
use Rattle.ug_types.specs.Principals.{Named}
use Rattle.ug_links.specs.declared.links.Listening.{Listening}
use Rattle.ug_links.specs.declared.links.Listening.TheVariants as answer
use Rattle.ug_links.specs.Talk.{Talk, Return, Listen}
use Rattle.ug_serve.specs.declared.listening.NotListening.{NotListening}
use Rattle.ug_serve.specs.declared.listening.NotListening.TheVariants as why

abbrev pub listened : Listening → Result (Unit {0}) NotListening
listened (answer.Ready number) = Ok tt
listened answer.Failed = Err why.Failed
listened answer.Memory = Err why.Memory

abbrev pub unless_refused : Talk (Result (Unit {0}) NotListening) → Result (Unit {0}) NotListening
    → Talk (Result (Unit {0}) NotListening)
unless_refused next (Ok done) = next
unless_refused next (Err cause) = Return (Err cause)

-- a listener for each in order, until one can't be had
abbrev pub listening : List Named → Talk (Result (Unit {0}) NotListening)
listening [] = Return (Ok tt)
listening (who ∷ principals) = Listen who (λ a. unless_refused (listening principals) (listened a))

-- the exit status of a daemon that can't listen
abbrev pub listening_status : NotListening → ℕ
listening_status why.Failed = 11
listening_status why.Memory = 6
