-- What a call of links in memory gives and leaves.
use Rattle.std.specs.Prelude.{◌≡◌, ℕ, List, [], ◌∷◌, ◌++◌, Bool, true, false, cond, length, Option, Some, None}
use Rattle.ug_types.specs.Told.{one_more}
use Rattle.ug_links.specs.declared.links.Listening.TheVariants as listening
use Rattle.ug_links.specs.declared.links.Accepted.TheVariants as accepted
use Rattle.ug_links.specs.declared.links.LinkWrote.TheVariants as wrote
use Rattle.ug_links.specs.declared.step.Reading.TheVariants as given
use Rattle.ug_links.specs.declared.step.LinkStep.{LinkStep}
use Rattle.ug_links.specs.declared.step.LinkStep.TheVariants.{Listened, AcceptedAt, ReadFrom, WroteTo, Closed}
use Rattle.ug_links.specs.declared.mem_links.MemLinks.{MemLinks}
use Rattle.ug_links.specs.Planned.{Planned}
use Rattle.ug_links.specs.Scripts.{listen_answer, scripts_after_listen, accept_answer, scripts_after_accept, read_from_peer, scripts_after_read, written_to_peer, scripts_after_write}
use Rattle.ug_links.specs.Steps.{IsStep}

-- the answer of the call, and what is left, are those that the scripts fix
abbrev pub IsScripted : Planned → LinkStep → Planned → Type 0
IsScripted p (Listened principal answer) q =
    (answer ≡ listen_answer p) × (q ≡ scripts_after_listen p)
IsScripted p (AcceptedAt listener answer) q =
    (answer ≡ accept_answer p listener) × (q ≡ scripts_after_accept p listener)
IsScripted p (ReadFrom id room answer) q =
    (answer ≡ read_from_peer room id.0 p.peers) × (q ≡ scripts_after_read room id.0 p)
IsScripted p (WroteTo id bytes answer) q =
    (answer ≡ written_to_peer (length bytes) id.0 p.peers) × (q ≡ scripts_after_write id.0 p)
IsScripted p (Closed id) q = q ≡ p

-- the call failed, or is a closing
abbrev pub IsFailure : LinkStep → Type 0
IsFailure (Listened principal answer) = answer ≡ listening.Failed
IsFailure (AcceptedAt listener answer) = answer ≡ accepted.Failed
IsFailure (ReadFrom id room answer) = answer ≡ given.Failed
IsFailure (WroteTo id bytes answer) = answer ≡ wrote.Failed
IsFailure (Closed id) = Unit {0}

-- the count of failed calls after this one
abbrev pub faults_behind : LinkStep → ℕ → ℕ
faults_behind (Listened principal listening.Failed) n = one_more n
faults_behind (AcceptedAt listener accepted.Failed) n = one_more n
faults_behind (ReadFrom id room given.Failed) n = one_more n
faults_behind (WroteTo id bytes wrote.Failed) n = one_more n
faults_behind step n = n

-- the call stands behind those before it, with an answer that it may have there
pub record GivesScripted (s : MemLinks) (step : LinkStep) (t : MemLinks) : Type 0 where
  pub going : s.ran_out ≡ false
  pub calls : t.calls ≡ s.calls ++ step ∷ []
  pub may : IsStep s.calls step
  pub scripted : IsScripted s.scripts step t.scripts

abbrev pub GivesBy : Bool → MemLinks → LinkStep → MemLinks → Type 0
GivesBy true s step t = IsFailure step
GivesBy false s step t = GivesScripted s step t

-- memory has run out, and the call fails; or it goes by the scripts
pub record MemGives (s : MemLinks) (step : LinkStep) (t : MemLinks) : Type 0 where
  pub by : GivesBy t.ran_out s step t
  pub faults : t.faults ≡ faults_behind step s.faults

-- calls are told until memory runs out
abbrev pub told_unless : Bool → List LinkStep → Option (List LinkStep)
told_unless ran_out calls = cond ran_out None (Some calls)
