-- The element at a place of a list, and what the script there fixes.
use Rattle.std.proofs.Common.{◌≡◌, ℕ, zero, suc, ◌<◌, ◌≤◌, List, [], ◌∷◌, length, get_or, set, None, refl, ap, arith}
use Rattle.ug_links.specs.Peers.{first_item, read_answer, write_answer}
use Rattle.ug_links.specs.Scripts.{changed_at, arrival_at, read_from_peer, written_to_peer}
use Rattle.ug_links.specs.declared.links.LinkWrote.TheVariants as wrote
use Rattle.ug_links.specs.declared.step.Reading.TheVariants as given
use Rattle.ug_links.specs.declared.peer.Peer.{Peer}
use Rattle.ug_links.specs.declared.scripts.Arrival.{Arrival}

pub changed_past : {A : Type 0} (f : A → A) (n : ℕ) (xs : List A) → length xs ≤ n → xs ≡ changed_at f n xs
changed_past f n [] le = refl
changed_past f zero (a ∷ rest) le = let none : ⊥ = omega (arith, le) in absurd none
changed_past f (suc n) (a ∷ rest) le = let below : length rest ≤ n = omega (arith, le) in ap (λ (l : _). a ∷ l) (changed_past f n rest below)

pub changed_in : {A : Type 0} (f : A → A) (n : ℕ) (xs : List A) (d b : A) → n < length xs → b ≡ f (get_or xs n d) → set xs n b ≡ changed_at f n xs
changed_in f n [] d b lt e = let none : ⊥ = omega (arith, lt) in absurd none
changed_in f zero (a ∷ rest) d b lt e = ap (λ (x : _). x ∷ rest) e
changed_in f (suc n) (a ∷ rest) d b lt e = let below : n < length rest = omega (arith, lt) in ap (λ (l : _). a ∷ l) (changed_in f n rest d b below e)

pub arrival_past : (n : ℕ) (xs : List (List Arrival)) → length xs ≤ n → None ≡ arrival_at xs n
arrival_past n [] le = refl
arrival_past zero (a ∷ rest) le = let none : ⊥ = omega (arith, le) in absurd none
arrival_past (suc n) (a ∷ rest) le = arrival_past n rest (omega (arith, le))

pub arrival_in : (n : ℕ) (xs : List (List Arrival)) (d : List Arrival) → n < length xs → first_item (get_or xs n d) ≡ arrival_at xs n
arrival_in n [] d lt = let none : ⊥ = omega (arith, lt) in absurd none
arrival_in zero (a ∷ rest) d lt = refl
arrival_in (suc n) (a ∷ rest) d lt = arrival_in n rest d (omega (arith, lt))

pub read_past : (room n : ℕ) (xs : List Peer) → length xs ≤ n → given.End ≡ read_from_peer room n xs
read_past room n [] le = refl
read_past room zero (a ∷ rest) le = let none : ⊥ = omega (arith, le) in absurd none
read_past room (suc n) (a ∷ rest) le = read_past room n rest (omega (arith, le))

pub read_in : (room n : ℕ) (xs : List Peer) (d : Peer) → n < length xs → read_answer room (get_or xs n d) ≡ read_from_peer room n xs
read_in room n [] d lt = let none : ⊥ = omega (arith, lt) in absurd none
read_in room zero (a ∷ rest) d lt = refl
read_in room (suc n) (a ∷ rest) d lt = read_in room n rest d (omega (arith, lt))

pub write_past : (size n : ℕ) (xs : List Peer) → length xs ≤ n → wrote.Sent size ≡ written_to_peer size n xs
write_past size n [] le = refl
write_past size zero (a ∷ rest) le = let none : ⊥ = omega (arith, le) in absurd none
write_past size (suc n) (a ∷ rest) le = write_past size n rest (omega (arith, le))

pub write_in : (size n : ℕ) (xs : List Peer) (d : Peer) → n < length xs → write_answer size (get_or xs n d) ≡ written_to_peer size n xs
write_in size n [] d lt = let none : ⊥ = omega (arith, lt) in absurd none
write_in size zero (a ∷ rest) d lt = refl
write_in size (suc n) (a ∷ rest) d lt = write_in size n rest d (omega (arith, lt))
