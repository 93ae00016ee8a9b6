-- What is found among the daemon's sockets.
use Rattle.std.proofs.Common.{◌≡◌, ℕ, true, Some, List, [], ◌∷◌, ◌++◌, get_or, map, ap, ◌∙◌}
use Rattle.std.specs.List.{position}
use Rattle.std.proofs.lemmas.List.{map-append}
use Rattle.std.proofs.lemmas.List.Quantifiers.{position-Some}
use Rattle.ug_types.specs.Principals.{Named}
use Rattle.ug_links.specs.declared.waiter.LinkId.{LinkId}
use Rattle.ug_sockets.specs.declared.listener.Listener.{Listener}
use Rattle.ug_sockets.specs.declared.peer.Peer.{Peer}
use Rattle.ug_sockets.specs.Sockets.{is_session_open}

pub open_at : (id : LinkId) (peers : List Peer) (i : ℕ) (d : Peer) → position (is_session_open id) peers ≡ Some i → is_session_open id (get_or peers i d) ≡ true
open_at id peers i d e = (position-Some (is_session_open id) peers i d e).1

-- a listener more, and its principal
pub one_more_principal : (before after : List Listener) (l : Listener) (p : Named) → after ≡ before ++ l ∷ [] → l.principal ≡ p → map (λ x. x.principal) after ≡ map (λ x. x.principal) before ++ p ∷ []
one_more_principal before after l p e is =
    ap (map (λ (x : Listener). x.principal)) e
    ∙ map-append (λ (x : Listener). x.principal) before (l ∷ [])
    ∙ ap (λ (q : Named). map (λ (x : Listener). x.principal) before ++ q ∷ []) is
