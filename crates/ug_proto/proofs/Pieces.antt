-- Pieces of a stream, one after another.
use Rattle.std.proofs.Common.{◌≡◌, ℕ, ◌+◌, ◌<◌, List, [], ◌∷◌, ◌++◌, length, take, drop, get_or, Some, Err, refl, sym, ◌∙◌, ap, subst, append_assoc}
use Rattle.std.proofs.lemmas.List.{append-nil, take_more, take-append-drop}
use Rattle.ug_proto.specs.declared.framer.FrameFault.{FrameFault}
use Rattle.ug_proto.specs.declared.framer.FrameFault.TheVariants as fault
use Rattle.ug_proto.specs.Begun.{begun_of}
use Rattle.ug_proto.specs.Lines.{Begun, Overlong, Frames, lines_ended_in, begun_after, line_then, begun_then}
use Rattle.ug_proto.specs.Frames.{with_piece, FeedsPart, CanRunOut, FeedsPiece}

abbrev frames : List (List ℕ) → Begun → Frames
frames ls b = record { lines = ls; begun = b }

framed : {ls ms : List (List ℕ)} {b c : Begun} → ls ≡ ms → b ≡ c → frames ls b ≡ frames ms c
framed {ls} {ms} {b} {c} h k = ap (λ (l : List (List ℕ)). frames l b) h ∙ ap (λ (m : Begun). frames ms m) k

pub lines_more : (begun : Begun) (a b : List ℕ) → lines_ended_in begun (a ++ b) ≡ lines_ended_in begun a ++ lines_ended_in (begun_after begun a) b
lines_more begun [] b = refl
lines_more begun (x ∷ a) b = ap (λ (t : List (List ℕ)). line_then begun x ++ t) (lines_more (begun_then begun x) a b) ∙ sym (append_assoc (line_then begun x) (lines_ended_in (begun_then begun x) a) (lines_ended_in (begun_after (begun_then begun x) a) b))

pub begun_more : (begun : Begun) (a b : List ℕ) → begun_after begun (a ++ b) ≡ begun_after (begun_after begun a) b
begun_more begun [] b = refl
begun_more begun (x ∷ a) b = begun_more (begun_then begun x) a b

-- a piece, and then another
pub takes_more : (old : Frames) (a : List ℕ) (mid : Frames) (b : List ℕ) (new : Frames) → mid ≡ with_piece old a → new ≡ with_piece mid b → new ≡ with_piece old (a ++ b)
takes_more old a mid b new h k =
    let ls : (old.lines ++ lines_ended_in old.begun a) ++ lines_ended_in (begun_after old.begun a) b ≡ old.lines ++ lines_ended_in old.begun (a ++ b) = append_assoc old.lines (lines_ended_in old.begun a) (lines_ended_in (begun_after old.begun a) b) ∙ ap (λ (t : List (List ℕ)). old.lines ++ t) (sym (lines_more old.begun a b)) in
    k ∙ ap (λ (m : Frames). with_piece m b) h ∙ framed ls (sym (begun_more old.begun a b))

pub no_lines : (bytes : List ℕ) → lines_ended_in Overlong bytes ≡ []
no_lines [] = refl
no_lines (b ∷ bytes) = no_lines bytes

pub stays_overlong : (bytes : List ℕ) → begun_after Overlong bytes ≡ Overlong
stays_overlong [] = refl
stays_overlong (b ∷ bytes) = stays_overlong bytes

-- behind what is too long nothing is with_piece
pub takes_no_more : (old : Frames) (a b : List ℕ) (new : Frames) → new ≡ with_piece old a → new.begun ≡ Overlong → new ≡ with_piece old (a ++ b)
takes_no_more old a b new h k =
    let at : begun_after old.begun a ≡ Overlong = sym (ap (λ (f : Frames). f.begun) h) ∙ k in
    h ∙ framed (ap (λ (t : List (List ℕ)). old.lines ++ t) (sym (lines_more old.begun a b ∙ ap (λ (m : Begun). lines_ended_in old.begun a ++ lines_ended_in m b) at ∙ ap (λ (t : List (List ℕ)). lines_ended_in old.begun a ++ t) (no_lines b) ∙ append-nil (lines_ended_in old.begun a))))
    (at ∙ sym (begun_more old.begun a b ∙ ap (λ (m : Begun). begun_after m b) at ∙ stays_overlong b))

pub runs_out_later : (old : Frames) (a : List ℕ) (mid : Frames) (b : List ℕ) (new : Frames) (c : List ℕ) → mid ≡ with_piece old a → FeedsPart mid b new → FeedsPart old (a ++ (b ++ c)) new
runs_out_later old a mid b new c h k =
    let first : with_piece mid k.front ≡ with_piece old (a ++ k.front) = takes_more old a mid k.front (with_piece mid k.front) h refl in
    record {
      front = a ++ k.front;
      rest = k.rest ++ c;
      whole = ap (λ (t : List ℕ). a ++ (t ++ c)) k.whole ∙ ap (λ (t : List ℕ). a ++ t) (append_assoc k.front k.rest c) ∙ sym (append_assoc a k.front (k.rest ++ c));
      lines = k.lines ∙ ap (λ (f : Frames). f.lines) first;
      can = subst CanRunOut (ap (λ (f : Frames). f.begun) first) k.can;
      begun = k.begun;
    }

-- a piece that ends in a fault
pub fault_ends : (f : FrameFault) (old mid new : Frames) (p : List ℕ) (i : ℕ) → i < length p → mid ≡ with_piece old (take i p) → FeedsPiece mid (get_or p i 0 ∷ []) (Err f) new → FeedsPiece old p (Err f) new
fault_ends fault.TooLong old mid new p i lt h k =
    let whole : take (i + 1) p ++ drop (i + 1) p ≡ p = take-append-drop (i + 1) p in
    let more : take (i + 1) p ≡ take i p ++ get_or p i 0 ∷ [] = take_more p i 0 lt in
    let P : List ℕ → Type 0 = λ t. new ≡ with_piece old t in
    (subst P whole (takes_no_more old (take (i + 1) p) (drop (i + 1) p) new (subst P (sym more) (takes_more old (take i p) mid (get_or p i 0 ∷ []) new h k.0)) k.1), k.1)
fault_ends fault.Memory old mid new p i lt h k =
    let whole : take i p ++ ((get_or p i 0 ∷ []) ++ drop (i + 1) p) ≡ p = sym (append_assoc (take i p) (get_or p i 0 ∷ []) (drop (i + 1) p)) ∙ ap (λ (t : List ℕ). t ++ drop (i + 1) p) (sym (take_more p i 0 lt)) ∙ take-append-drop (i + 1) p in
    let P : List ℕ → Type 0 = λ t. FeedsPart old t new in
    subst P whole (runs_out_later old (take i p) mid (get_or p i 0 ∷ []) new (drop (i + 1) p) h k)

-- a framer that has a fault answers it again
pub fault_again : (f : FrameFault) (line : List ℕ) (lines : List (List ℕ)) (s : Frames) (p : List ℕ) → frames lines (begun_of line (Some f)) ≡ s → FeedsPiece s p (Err f) s
fault_again fault.TooLong line lines s p e =
    let P : Frames → Type 0 = λ t. FeedsPiece t p (Err fault.TooLong) t in
    subst P e (framed (sym (ap (λ (t : List (List ℕ)). lines ++ t) (no_lines p) ∙ append-nil lines)) (sym (stays_overlong p)), refl)
fault_again fault.Memory line lines s p e =
    let P : Frames → Type 0 = λ t. FeedsPiece t p (Err fault.Memory) t in
    subst P e (record { front = []; rest = p; whole = refl; lines = sym (append-nil lines); can = tt; begun = refl })
