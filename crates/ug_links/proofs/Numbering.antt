-- Ids and numbers of listeners go on from those that were given.
use Rattle.std.proofs.Common.{◌≡◌, ℕ, zero, suc, ◌+◌, ◌≤◌, max, List, [], ◌∷◌, ◌++◌, length, Option, Some, None, refl, sym, ap, ◌∙◌, subst, arith}
use Rattle.std.proofs.lemmas.List.{length-append}
use Rattle.ug_types.specs.Principals.{Named}
use Rattle.ug_links.specs.declared.links.Listening.{Listening}
use Rattle.ug_links.specs.declared.links.Listening.TheVariants as listening
use Rattle.ug_links.specs.declared.links.Accepted.{Accepted}
use Rattle.ug_links.specs.declared.links.Accepted.TheVariants as accepted
use Rattle.ug_links.specs.declared.step.LinkStep.{LinkStep}
use Rattle.ug_links.specs.declared.step.LinkStep.TheVariants.{Listened, AcceptedAt, ReadFrom, WroteTo, Closed}
use Rattle.ug_links.specs.declared.peer.Peer.{Peer}
use Rattle.ug_links.specs.declared.scripts.Arrival.{Arrival}
use Rattle.ug_links.specs.declared.scripts.Arrival.TheVariants as arrival
use Rattle.ug_links.specs.MemCalls.{IsScripted}
use Rattle.ug_links.specs.Planned.{Planned}
use Rattle.ug_links.specs.Scripts.{changed_at, more_listening, listen_answer, arrival_at, arrival_answer, peer_come}
use Rattle.ug_links.specs.Steps.{id_end, ids_end, listener_in, listeners_in}

ids_more : (a : List LinkStep) (step : LinkStep) → ids_end (a ++ step ∷ []) ≡ max (ids_end a) (id_end step)
ids_more [] step = omega arith
ids_more (x ∷ a) step = let e = ids_more a step in omega (arith, e)

listeners_more : (a : List LinkStep) (step : LinkStep) → listeners_in (a ++ step ∷ []) ≡ listeners_in a + listener_in step
listeners_more [] step = omega arith
listeners_more (x ∷ a) step = let e = listeners_more a step in omega (arith, e)

changed_length : {A : Type 0} (f : A → A) (n : ℕ) (xs : List A) → length (changed_at f n xs) ≡ length xs
changed_length f n [] = refl
changed_length f zero (a ∷ rest) = refl
changed_length f (suc n) (a ∷ rest) = ap suc (changed_length f n rest)

-- so many sessions are there, so many listeners, and these calls
abbrev pub Numbered : ℕ → ℕ → List LinkStep → Type 0
Numbered peers listening calls = (ids_end calls ≤ peers) × (listening ≡ listeners_in calls)

numbered_more : (n m : ℕ) (k l : ℕ) (calls : List LinkStep) (step : LinkStep) → Numbered n k calls → max n (id_end step) ≤ m → l ≡ k + listener_in step → Numbered m l (calls ++ step ∷ [])
numbered_more n m k l calls step h le e =
    let ids = ids_more calls step in
    let listeners = listeners_more calls step in
    let a : ids_end calls ≤ n = h.0 in
    let b : k ≡ listeners_in calls = h.1 in
    (omega (arith, ids, a, le), omega (arith, listeners, b, e))

listened_numbers : (answer : Listening) (principal : Named) (n k : ℕ) (calls : List LinkStep) → Numbered n k calls → Numbered n (more_listening k answer) (calls ++ Listened principal answer ∷ [])
listened_numbers (listening.Ready number) principal n k calls h = numbered_more n n k (k + 1) calls (Listened principal (listening.Ready number)) h (omega arith) refl
listened_numbers listening.Failed principal n k calls h = numbered_more n n k k calls (Listened principal listening.Failed) h (omega arith) (omega arith)
listened_numbers listening.Memory principal n k calls h = numbered_more n n k k calls (Listened principal listening.Memory) h (omega arith) (omega arith)

accepted_numbers : (item : Option Arrival) (listener : ℕ) (peers : List Peer) (k : ℕ) (calls : List LinkStep) → Numbered (length peers) k calls → Numbered (length (peers ++ peer_come item)) k (calls ++ AcceptedAt listener (arrival_answer (length peers) item) ∷ [])
accepted_numbers None listener peers k calls h =
    let long = length-append peers (peer_come None) in
    numbered_more (length peers) (length (peers ++ peer_come None)) k k calls (AcceptedAt listener accepted.NotYet) h (omega (arith, long)) (omega arith)
accepted_numbers (Some (arrival.Comes peer)) listener peers k calls h =
    let long = length-append peers (peer ∷ []) in
    numbered_more (length peers) (length (peers ++ peer ∷ [])) k k calls (AcceptedAt listener (accepted.Session (record { 0 = length peers }))) h (omega (arith, long)) (omega arith)
accepted_numbers (Some arrival.Wait) listener peers k calls h =
    let long = length-append peers (peer_come (Some arrival.Wait)) in
    numbered_more (length peers) (length (peers ++ peer_come (Some arrival.Wait))) k k calls (AcceptedAt listener accepted.NotYet) h (omega (arith, long)) (omega arith)
accepted_numbers (Some arrival.Fail) listener peers k calls h =
    let long = length-append peers (peer_come (Some arrival.Fail)) in
    numbered_more (length peers) (length (peers ++ peer_come (Some arrival.Fail))) k k calls (AcceptedAt listener accepted.Failed) h (omega (arith, long)) (omega arith)

scripted_numbers : (p : Planned) (calls : List LinkStep) (step : LinkStep) (q : Planned) → IsScripted p step q → Numbered (length p.peers) p.listening calls → Numbered (length q.peers) q.listening (calls ++ step ∷ [])
scripted_numbers p calls (Listened principal answer) q h n =
    subst (λ (r : Planned). Numbered (length r.peers) r.listening (calls ++ Listened principal answer ∷ [])) (sym h.1)
    (subst (λ (a : Listening). Numbered (length p.peers) (more_listening p.listening (listen_answer p)) (calls ++ Listened principal a ∷ [])) (sym h.0)
    (listened_numbers (listen_answer p) principal (length p.peers) p.listening calls n))
scripted_numbers p calls (AcceptedAt listener answer) q h n =
    subst (λ (r : Planned). Numbered (length r.peers) r.listening (calls ++ AcceptedAt listener answer ∷ [])) (sym h.1)
    (subst (λ (a : Accepted). Numbered (length (p.peers ++ peer_come (arrival_at p.arrivals listener))) p.listening (calls ++ AcceptedAt listener a ∷ [])) (sym h.0)
    (accepted_numbers (arrival_at p.arrivals listener) listener p.peers p.listening calls n))
scripted_numbers p calls (ReadFrom id room answer) q h n =
    let same : length q.peers ≡ length p.peers = ap (λ (r : Planned). length r.peers) h.1 ∙ changed_length _ id.0 p.peers in
    numbered_more (length p.peers) (length q.peers) p.listening q.listening calls (ReadFrom id room answer) n (omega (arith, same)) (ap (λ (r : Planned). r.listening) h.1 ∙ omega arith)
scripted_numbers p calls (WroteTo id bytes answer) q h n =
    let same : length q.peers ≡ length p.peers = ap (λ (r : Planned). length r.peers) h.1 ∙ changed_length _ id.0 p.peers in
    numbered_more (length p.peers) (length q.peers) p.listening q.listening calls (WroteTo id bytes answer) n (omega (arith, same)) (ap (λ (r : Planned). r.listening) h.1 ∙ omega arith)
scripted_numbers p calls (Closed id) q h n =
    subst (λ (r : Planned). Numbered (length r.peers) r.listening (calls ++ Closed id ∷ [])) (sym h)
    (numbered_more (length p.peers) (length p.peers) p.listening p.listening calls (Closed id) n (omega arith) (omega arith))

pub keeps_numbers : (p : Planned) (calls : List LinkStep) (step : LinkStep) (q : Planned) (after : List LinkStep) → IsScripted p step q → Numbered (length p.peers) p.listening calls → after ≡ calls ++ step ∷ [] → Numbered (length q.peers) q.listening after
keeps_numbers p calls step q after h n e = subst (λ (l : List LinkStep). Numbered (length q.peers) q.listening l) (sym e) (scripted_numbers p calls step q h n)
