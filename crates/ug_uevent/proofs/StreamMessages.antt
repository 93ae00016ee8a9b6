-- The messages of a stream are the only ones that it splits into.
use Rattle.std.proofs.Common.{◌≡◌, ◌≢◌, inl, inr, ℕ, ◌<◌, List, [], ◌∷◌, ◌++◌, length, length-append, flat_map, Bool, true, false, nat_eq, refl, sym, ◌∙◌, ap, subst, append_assoc, arith}
use Rattle.std.specs.Prelude.{◌&&◌}
use Rattle.std.proofs.lemmas.List.{append-nil}
use Rattle.std.proofs.lemmas.Bool.{cases_order}
use Rattle.ug_types.specs.Elements.{Has}
use Rattle.ug_types.proofs.Elements.{has_cases}
use Rattle.ug_uevent.specs.Streams.{BegunMessage, Partial, Overlong, Message, Whole, TooLong, Stream, behind_messages, stream_of, whole_stream, AreTexts, with_zero, HasNoEnd, AreWholeMessages, closed_message, IsCutIntoMessages, IsOverlongStream}
use Rattle.ug_uevent.proofs.Cuts.{same_byte, other_byte}
use Rattle.ug_uevent.proofs.Pieces.{message_ends, grows, too_long}
use Rattle.ug_uevent.proofs.Scans.{is_nil, no_end, through, overruns}

-- what stands behind the messages
abbrev CutsAs : List ℕ → List Message → BegunMessage → Type 0
CutsAs bytes messages (Partial rest fresh) = IsCutIntoMessages bytes messages rest
CutsAs bytes messages Overlong = IsOverlongStream bytes messages

abbrev Cuts : List ℕ → Stream → Type 0
Cuts bytes s = CutsAs bytes s.messages s.begun

nothing : HasNoEnd [] []
nothing = record { strings = []; each = tt; last_open = λ h. h; is = refl }

closed_front : (m bytes rest : List ℕ) (ms : List Message) → bytes ≡ flat_map closed_message ms ++ rest → m ++ 0 ∷ bytes ≡ flat_map closed_message (Whole m ∷ ms) ++ rest
closed_front m bytes rest ms e =
    ap (λ (t : List ℕ). m ++ 0 ∷ t) e ∙ sym (append_assoc m (0 ∷ []) (flat_map closed_message ms ++ rest)) ∙ sym (append_assoc (m ++ 0 ∷ []) (flat_map closed_message ms) rest)

-- one more message in front
one_more : (m bytes : List ℕ) (ms : List Message) (begun : BegunMessage) → HasNoEnd m [] → length m < 8192 → CutsAs bytes ms begun → CutsAs (m ++ 0 ∷ bytes) (Whole m ∷ ms) begun
one_more m bytes ms (Partial rest fresh) h l c = record {
  whole = closed_front m bytes rest ms c.whole;
  each = ((h, l), c.each);
  last = c.last;
  no_end = c.no_end;
  short = c.short;
}
one_more m bytes ms Overlong h l c = record {
  before = Whole m ∷ c.before;
  front = c.front;
  behind = c.behind;
  last = c.last;
  are = ap (λ (t : List Message). Whole m ∷ t) c.are;
  whole = closed_front m bytes (c.front ++ c.behind) c.before c.whole;
  each = ((h, l), c.each);
  no_end = c.no_end;
  long = c.long;
}

-- a byte behind a message that goes on
texts_more : (strings : List (List ℕ)) (text : List ℕ) → AreTexts strings → text ≢ [] → ¬ Has text 0 → AreTexts (strings ++ text ∷ [])
texts_more [] text h f o = (f, o, tt)
texts_more (s ∷ strings) text h f o = (h.0, h.1, texts_more strings text h.2 f o)

joined_more : (strings : List (List ℕ)) (text : List ℕ) → flat_map with_zero (strings ++ text ∷ []) ≡ flat_map with_zero strings ++ with_zero text
joined_more [] text = append-nil (with_zero text)
joined_more (s ∷ strings) text = ap (λ (t : List ℕ). with_zero s ++ t) (joined_more strings text) ∙ sym (append_assoc (with_zero s) (flat_map with_zero strings) (with_zero text))

byte_more : (m last : List ℕ) (b : ℕ) → HasNoEnd m last → (b ≡ 0 → ⊥) → HasNoEnd (m ++ b ∷ []) (last ++ b ∷ [])
byte_more m last b h k = record {
  strings = h.strings;
  each = h.each;
  last_open = λ z. elim (has_cases last (b ∷ []) 0 z) [ inl a ↦ h.last_open a | inr c ↦ elim c [ inl e ↦ k e | inr none ↦ none ] ];
  is = ap (λ (t : List ℕ). t ++ b ∷ []) h.is ∙ append_assoc (flat_map with_zero h.strings) last (b ∷ []);
}

string_ends : (m : List ℕ) (c : ℕ) (last : List ℕ) → HasNoEnd m (c ∷ last) → HasNoEnd (m ++ 0 ∷ []) []
string_ends m c last h = record {
  strings = h.strings ++ (c ∷ last) ∷ [];
  each = texts_more h.strings (c ∷ last) h.each (λ e. let none : ⊥ = cc in none) h.last_open;
  last_open = λ z. z;
  is =
      ap (λ (t : List ℕ). t ++ 0 ∷ []) h.is ∙ append_assoc (flat_map with_zero h.strings) (c ∷ last) (0 ∷ [])
      ∙ sym (joined_more h.strings (c ∷ last)) ∙ sym (append-nil (flat_map with_zero (h.strings ++ (c ∷ last) ∷ [])));
}

nil_more : (last : List ℕ) (b : ℕ) → is_nil (last ++ b ∷ []) ≡ false
nil_more [] b = refl
nil_more (c ∷ last) b = refl

-- how the reading goes on behind a message that has begun
record Goes (m last : List ℕ) (b : ℕ) : Type 0 where
  next : List ℕ
  no_end : HasNoEnd (m ++ b ∷ []) next
  fresh : nat_eq b 0 ≡ is_nil next

over_now : (m last : List ℕ) (b : ℕ) (bytes : List ℕ) → length m ≡ 8191 → Goes m last b → IsOverlongStream (m ++ b ∷ bytes) (TooLong ∷ [])
over_now m last b bytes l g = record {
  before = [];
  front = m ++ b ∷ [];
  behind = bytes;
  last = g.next;
  are = refl;
  whole = sym (append_assoc m (b ∷ []) bytes);
  each = tt;
  no_end = g.no_end;
  long = omega (arith, length-append m (b ∷ []));
}

cuts : (bytes m last : List ℕ) → HasNoEnd m last → length m < 8192 → Cuts (m ++ bytes) (stream_of (Partial m (is_nil last)) bytes)
cuts [] m last h l = record { whole = append-nil m; each = tt; last = last; no_end = h; short = l }
cuts (b ∷ bytes) m last h l = by (nat_eq b 0) last refl h (cuts bytes)
  where
    Goal : List ℕ → Type 0
    Goal rest = Cuts (m ++ b ∷ bytes) (stream_of (Partial m (is_nil rest)) (b ∷ bytes))

    Later : Type 0
    Later = (m last : List ℕ) → HasNoEnd m last → length m < 8192 → Cuts (m ++ bytes) (stream_of (Partial m (is_nil last)) bytes)

    on : (rest : List ℕ) → (nat_eq b 0 && is_nil rest) ≡ false → Goes m rest b → Later → Goal rest
    on rest e g later = elim (cases_order (length m) 8191) [
      | inl s ↦ subst (Cuts (m ++ b ∷ bytes)) (sym (too_long m (is_nil rest) b bytes e (omega (arith, s)))) (over_now m rest b bytes s g)
      | inr o ↦ elim o [
        | inl s ↦
            let read = later (m ++ b ∷ []) g.next g.no_end (omega (arith, s, length-append m (b ∷ []))) in
            let same : stream_of (Partial (m ++ b ∷ []) (is_nil g.next)) bytes ≡ stream_of (Partial m (is_nil rest)) (b ∷ bytes) =
            ap (λ (v : Bool). stream_of (Partial (m ++ b ∷ []) v) bytes) (sym g.fresh) ∙ sym (grows m (is_nil rest) b bytes e s) in
            subst (Cuts (m ++ b ∷ bytes)) same (subst (λ (t : List ℕ). Cuts t (stream_of (Partial (m ++ b ∷ []) (is_nil g.next)) bytes)) (append_assoc m (b ∷ []) bytes) read)
        | inr s ↦ absurd (omega (arith, s, l))
      ]
    ]

    by : (v : Bool) (rest : List ℕ) → nat_eq b 0 ≡ v → HasNoEnd m rest → Later → Goal rest
    by true [] e k later =
        let read = one_more m bytes (whole_stream bytes).messages (whole_stream bytes).begun k l (later [] [] nothing (omega arith)) in
        let t : (nat_eq b 0 && true) ≡ true = ap (λ (v : Bool). v && true) e in
        let there : Cuts (m ++ b ∷ bytes) (behind_messages (Whole m ∷ []) (whole_stream bytes)) = subst (λ (c : ℕ). Cuts (m ++ c ∷ bytes) (behind_messages (Whole m ∷ []) (whole_stream bytes))) (sym (same_byte b 0 e)) read in
        subst (Cuts (m ++ b ∷ bytes)) (sym (message_ends m true b bytes t)) there
    by true (c ∷ rest) e k later =
        let t : (nat_eq b 0 && false) ≡ false = ap (λ (v : Bool). v && false) e in
        let ended : HasNoEnd (m ++ b ∷ []) [] = subst (λ (d : ℕ). HasNoEnd (m ++ d ∷ []) []) (sym (same_byte b 0 e)) (string_ends m c rest k) in
        on (c ∷ rest) t (record { next = []; no_end = ended; fresh = e }) later
    by false rest e k later =
        let t : (nat_eq b 0 && is_nil rest) ≡ false = ap (λ (v : Bool). v && is_nil rest) e in
        on rest t (record { next = rest ++ b ∷ []; no_end = byte_more m rest b k (other_byte b 0 e); fresh = e ∙ sym (nil_more rest b) }) later

read : (bytes : List ℕ) → Cuts bytes (whole_stream bytes)
read bytes = cuts bytes [] [] nothing (omega arith)

pub is_cut : (bytes rest : List ℕ) (fresh : Bool) → (whole_stream bytes).begun ≡ Partial rest fresh → IsCutIntoMessages bytes (whole_stream bytes).messages rest
is_cut bytes rest fresh e = subst (CutsAs bytes (whole_stream bytes).messages) e (read bytes)

pub is_overlong : (bytes : List ℕ) → (whole_stream bytes).begun ≡ Overlong → IsOverlongStream bytes (whole_stream bytes).messages
is_overlong bytes e = subst (CutsAs bytes (whole_stream bytes).messages) e (read bytes)

-- messages in front are read first
messages_read : (messages : List Message) (more : List ℕ) → AreWholeMessages messages → whole_stream (flat_map closed_message messages ++ more) ≡ behind_messages messages (whole_stream more)
messages_read [] more h = refl
messages_read (TooLong ∷ messages) more h = absurd h.0
messages_read (Whole m ∷ messages) more h =
    let rest : List ℕ = flat_map closed_message messages ++ more in
    let scanned = no_end m [] h.0.0 in
    ap whole_stream (append_assoc (m ++ 0 ∷ []) (flat_map closed_message messages) more ∙ append_assoc m (0 ∷ []) rest)
    ∙ through [] true true m (0 ∷ rest) scanned (omega (arith, h.0.1))
    ∙ message_ends m true 0 rest refl
    ∙ ap (behind_messages (Whole m ∷ [])) (messages_read messages more h.1)

abbrev stream : List Message → BegunMessage → Stream
stream ms b = record { messages = ms; begun = b }

pub cut_only : (bytes rest : List ℕ) (messages : List Message) → IsCutIntoMessages bytes messages rest
    → ((fresh : Bool) × ((whole_stream bytes).begun ≡ Partial rest fresh)) × (messages ≡ (whole_stream bytes).messages)
cut_only bytes rest messages c =
    let begun : whole_stream rest ≡ stream [] (Partial rest (is_nil c.last)) =
    ap whole_stream (sym (append-nil rest)) ∙ through [] true (is_nil c.last) rest [] (no_end rest c.last c.no_end) (omega (arith, c.short)) in
    let all : whole_stream bytes ≡ behind_messages messages (stream [] (Partial rest (is_nil c.last))) =
    ap whole_stream c.whole ∙ messages_read messages rest c.each ∙ ap (behind_messages messages) begun in
    ((is_nil c.last, ap (λ (s : Stream). s.begun) all), sym (ap (λ (s : Stream). s.messages) all ∙ append-nil messages))

pub overlong_only : (bytes : List ℕ) (messages : List Message) → IsOverlongStream bytes messages
    → ((whole_stream bytes).begun ≡ Overlong) × (messages ≡ (whole_stream bytes).messages)
overlong_only bytes messages o =
    let over : whole_stream (o.front ++ o.behind) ≡ stream (TooLong ∷ []) Overlong =
    overruns [] true (is_nil o.last) o.front o.behind (no_end o.front o.last o.no_end) (omega arith) (omega (arith, o.long)) in
    let all : whole_stream bytes ≡ behind_messages o.before (stream (TooLong ∷ []) Overlong) =
    ap whole_stream o.whole ∙ messages_read o.before (o.front ++ o.behind) o.each ∙ ap (behind_messages o.before) over in
    (ap (λ (s : Stream). s.begun) all, o.are ∙ sym (ap (λ (s : Stream). s.messages) all))
