-- Sockets as numbers.
use Rattle.std.specs.Prelude.{ℕ}
use Rattle.ug_links.specs.declared.waiter.Ready.{Ready}
use Rattle.ug_links.specs.declared.waiter.Ready.TheVariants as ready

-- a listener's number, or a session's
abbrev pub token_number : Ready → ℕ
token_number (ready.Listener number) = number
token_number (ready.Session id) = id.0
