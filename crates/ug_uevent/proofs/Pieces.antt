-- Pieces of a stream, one after another.
use Rattle.std.proofs.Common.{◌≡◌, ℕ, suc, ◌+◌, ◌-◌, ◌<◌, ◌≤◌, List, [], ◌∷◌, ◌++◌, length, take, drop, get_or, Bool, true, false, cond, nat_eq, nat_lt, refl, sym, ◌∙◌, ap, append_assoc, arith, length-take, drop-cons}
use Rattle.std.specs.Prelude.{◌&&◌}
use Rattle.std.proofs.lemmas.Bool.Decides.{nat_tests}
use Rattle.ug_types.proofs.Known.{to_end}
use Rattle.ug_uevent.specs.Streams.{BegunMessage, Partial, Overlong, Message, Whole, TooLong, Stream, nothing_begun, with_byte, byte_then, behind_messages, stream_of, whole_stream, stream_with_piece, waiting}

abbrev stream : List Message → BegunMessage → Stream
stream ms b = record { messages = ms; begun = b }

after_after : (ms ns : List Message) (s : Stream) → behind_messages ms (behind_messages ns s) ≡ behind_messages (ms ++ ns) s
after_after ms ns s = ap (λ (l : List Message). stream l s.begun) (sym (append_assoc ms ns s.messages))

pub stream_more : (begun : BegunMessage) (a b : List ℕ) → stream_of begun (a ++ b) ≡ stream_with_piece (stream_of begun a) b
stream_more begun [] b = refl
stream_more begun (x ∷ a) b =
    let here : Stream = byte_then begun x in
    let front : Stream = stream_of here.begun a in
    ap (behind_messages here.messages) (stream_more here.begun a b) ∙ after_after here.messages front.messages (stream_of front.begun b)

pub none_behind : (bytes : List ℕ) → stream_of Overlong bytes ≡ stream [] Overlong
none_behind [] = refl
none_behind (b ∷ bytes) = none_behind bytes

pub fed : (ended : Bool) (bytes piece : List ℕ) → ended ≡ false → whole_stream (bytes ++ piece) ≡ stream_with_piece (waiting ended bytes) piece
fed true bytes piece e = let none : ⊥ = cc in absurd none
fed false bytes piece e = stream_more nothing_begun bytes piece

pub fed_no_more : (ended : Bool) (bytes piece : List ℕ) → ended ≡ true → waiting ended bytes ≡ stream_with_piece (waiting ended bytes) piece
fed_no_more true bytes piece e = sym (none_behind piece)
fed_no_more false bytes piece e = let none : ⊥ = cc in absurd none

next : (bytes : List ℕ) (i : ℕ) → i < length bytes → drop i bytes ≡ get_or bytes i 0 ∷ drop (i + 1) bytes
next bytes i h = let one : suc i ≡ i + 1 = omega arith in drop-cons bytes i 0 h ∙ ap (λ (k : ℕ). get_or bytes i 0 ∷ drop k bytes) one

-- one more byte ends a message, or is one too many, or goes onto the message
abbrev by_end : List ℕ → ℕ → List ℕ → Bool → Stream
by_end m b rest v =
    let here : Stream = cond v (stream (Whole m ∷ []) nothing_begun) (with_byte m b) in
    behind_messages here.messages (stream_of here.begun rest)

abbrev by_room : List ℕ → ℕ → List ℕ → Bool → Stream
by_room m b rest v =
    let here : Stream = cond v (stream [] (Partial (m ++ b ∷ []) (nat_eq b 0))) (stream (TooLong ∷ []) Overlong) in
    behind_messages here.messages (stream_of here.begun rest)

pub message_ends : (m : List ℕ) (fresh : Bool) (b : ℕ) (rest : List ℕ) → (nat_eq b 0 && fresh) ≡ true
    → stream_of (Partial m fresh) (b ∷ rest) ≡ behind_messages (Whole m ∷ []) (whole_stream rest)
message_ends m fresh b rest e = ap (by_end m b rest) e

pub grows : (m : List ℕ) (fresh : Bool) (b : ℕ) (rest : List ℕ) → (nat_eq b 0 && fresh) ≡ false → length m < 8191
    → stream_of (Partial m fresh) (b ∷ rest) ≡ stream_of (Partial (m ++ b ∷ []) (nat_eq b 0)) rest
grows m fresh b rest e l =
    let t : nat_lt (length m) 8191 ≡ true = grind (arith, nat_tests) in
    ap (by_end m b rest) e ∙ ap (by_room m b rest) t

pub too_long : (m : List ℕ) (fresh : Bool) (b : ℕ) (rest : List ℕ) → (nat_eq b 0 && fresh) ≡ false → 8191 ≤ length m
    → stream_of (Partial m fresh) (b ∷ rest) ≡ stream (TooLong ∷ []) Overlong
too_long m fresh b rest e l =
    let t : nat_lt (length m) 8191 ≡ false = grind (arith, nat_tests) in
    ap (by_end m b rest) e ∙ ap (by_room m b rest) t ∙ ap (behind_messages (TooLong ∷ [])) (none_behind rest)

-- what is kept, and a piece behind it
pub feeds : (ended : Bool) (items lent joined piece : List ℕ) (at : ℕ) (s : Stream) → ended ≡ false → lent ≡ items → joined ≡ take (length lent - at) (drop at lent) ++ piece
    → waiting ended (drop at items) ≡ s → waiting ended joined ≡ stream_with_piece s piece
feeds true items lent joined piece at s e l j v = let none : ⊥ = cc in absurd none
feeds false items lent joined piece at s e l j v =
    let kept : take (length lent - at) (drop at lent) ≡ drop at items = to_end at lent ∙ ap (drop at) l in
    ap whole_stream (j ∙ ap (λ (t : List ℕ). t ++ piece) kept) ∙ stream_more nothing_begun (drop at items) piece ∙ ap (λ (t : Stream). stream_with_piece t piece) v

-- a byte at a place of the bytes
abbrev At : List ℕ → ℕ → Bool → Stream
At bytes i fresh = stream_of (Partial (take i bytes) fresh) (drop i bytes)

pub too_long_at : (bytes : List ℕ) (i : ℕ) (fresh : Bool) → i < length bytes → 8191 ≤ i → (nat_eq (get_or bytes i 0) 0 && fresh) ≡ false → At bytes i fresh ≡ whole_stream bytes
    → whole_stream bytes ≡ stream (TooLong ∷ []) Overlong
too_long_at bytes i fresh h l e q =
    let long : length (take i bytes) ≡ i = omega (arith, length-take i bytes) in
    sym q ∙ ap (stream_of (Partial (take i bytes) fresh)) (next bytes i h) ∙ too_long (take i bytes) fresh (get_or bytes i 0) (drop (i + 1) bytes) e (omega (arith, long))
