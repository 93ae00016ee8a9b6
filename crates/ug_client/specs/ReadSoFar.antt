-- How far bytes were read in which no reply stands whole yet.
use Rattle.std.specs.Prelude.{ℕ, ◌<◌, ◌≤◌, List, ◌++◌, length, drop, nat_eq, count_by}
use Rattle.ug_client.specs.Answers.{IsAwaiting}
use Rattle.ug_client.specs.Notices.{IsBehindNotices}
use Rattle.ug_client.specs.declared.so_far.SoFar.{SoFar}

-- how many lines end among the bytes
abbrev pub newlines : List ℕ → ℕ
newlines bytes = count_by (λ b. nat_eq b 10) bytes

-- a reply is still to come as long as fewer lines than that end among the bytes that come
abbrev pub AwaitsLines : List ℕ → ℕ → Type 0
AwaitsLines bytes n = (more : List ℕ) → newlines more < n → IsAwaiting (bytes ++ more)

-- notices stand in front of that place, and so many lines are missing at least
pub record IsReadSoFar (bytes : List ℕ) (r : SoFar) : Type 0 where
  pub within : r.at ≤ length bytes
  pub notices : IsBehindNotices bytes (drop r.at bytes)
  pub missing : AwaitsLines bytes r.missing
