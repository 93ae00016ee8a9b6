-- How far a stream was read, byte by byte.
use Rattle.std.proofs.Common.{◌≡◌, ℕ, ◌+◌, ◌-◌, ◌<◌, Bool, true, false, List, [], ◌∷◌, ◌++◌, length, take, drop, get_or, sym, ap, subst, ◌∙◌, append_assoc}
use Rattle.std.proofs.lemmas.List.{append-nil, take_more}
use Rattle.ug_types.proofs.Known.{to_end}
use Rattle.ug_uevent.specs.Counts.{Began, CountsStream}
use Rattle.ug_uevent.specs.Streams.{Message, Stream, behind_messages, stream_of, whole_stream, stream_with_piece, waiting}
use Rattle.ug_uevent.specs.declared.count.Progress.{Progress}
use Rattle.ug_uevent.proofs.Pieces.{stream_more, none_behind}

-- a piece, and a byte behind it
pieces_more : (s : Stream) (a b : List ℕ) → stream_with_piece s (a ++ b) ≡ stream_with_piece (stream_with_piece s a) b
pieces_more s a b =
    let t : Stream = stream_of s.begun a in
    let more : Stream = stream_of t.begun b in
    ap (behind_messages s.messages) (stream_more s.begun a b)
    ∙ ap (λ (l : List Message). let r : Stream = record { messages = l; begun = more.begun } in r) (sym (append_assoc s.messages t.messages more.messages))

pub one_more : (p : Progress) (s : Stream) (bytes : List ℕ) (i : ℕ) → i < length bytes → CountsStream p (stream_with_piece (stream_with_piece s (take i bytes)) (get_or bytes i 0 ∷ [])) → CountsStream p (stream_with_piece s (take (i + 1) bytes))
one_more p s bytes i h c =
    subst (λ (l : List ℕ). CountsStream p (stream_with_piece s l)) (sym (take_more bytes i 0 h)) (subst (CountsStream p) (sym (pieces_more s (take i bytes) (get_or bytes i 0 ∷ []))) c)

pub none_yet : (p : Progress) (s : Stream) → CountsStream p s → CountsStream p (stream_with_piece s [])
none_yet p s c = subst (λ (l : List Message). (p.messages ≡ length l) × Began p s.begun) (sym (append-nil s.messages)) c

-- the whole stream
pub counted : (p kept : Progress) (ended : Bool) (items lent piece : List ℕ) (at : ℕ) (s : Stream) → ended ≡ false → lent ≡ items
    → CountsStream kept (whole_stream (take (length lent - at) (drop at lent))) → ((t : Stream) → CountsStream kept t → CountsStream p (stream_with_piece t piece)) → waiting ended (drop at items) ≡ s → p.messages ≡ length (stream_with_piece s piece).messages
counted p kept true items lent piece at s e l c f v = let none : ⊥ = cc in absurd none
counted p kept false items lent piece at s e l c f v =
    let rest : take (length lent - at) (drop at lent) ≡ drop at items = to_end at lent ∙ ap (drop at) l in
    let there : CountsStream kept s = subst (CountsStream kept) (ap whole_stream rest ∙ v) c in
    (f s there).0

pub none_counted : (ended : Bool) (bytes piece : List ℕ) (s : Stream) → ended ≡ true → waiting ended bytes ≡ s → 0 ≡ length (stream_with_piece s piece).messages
none_counted false bytes piece s e v = let none : ⊥ = cc in absurd none
none_counted true bytes piece s e v =
    subst (λ (t : Stream). 0 ≡ length (stream_with_piece t piece).messages) v (ap (λ (t : Stream). length t.messages) (sym (none_behind piece)))
