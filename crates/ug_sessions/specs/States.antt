-- What a server stands for.
use Rattle.std.specs.Prelude.{ℕ, ◌+◌, List, [], ◌∷◌, true}
use Rattle.ug_types.specs.Principals.{Named}
use Rattle.ug_sessions.specs.declared.session.Listener.{Listener}
use Rattle.ug_sessions.specs.declared.session.Session.{Session}

-- whose listeners it has, the listeners once they are made, and the sessions in the
-- order in which they were accepted
pub record ServerState : Type 0 where
  pub principals : List Named
  pub listeners : List Listener
  pub sessions : List Session

-- a listener for each of them, numbered in order, none of which was tried
abbrev pub listeners_from : ℕ → List Named → List Listener
listeners_from n [] = []
listeners_from n (principal ∷ principals) =
    record { number = n; principal = principal; owed = true } ∷ listeners_from (n + 1) principals
