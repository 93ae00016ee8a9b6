-- A message says one thing, or has one first fault.
use Rattle.std.proofs.Common.{◌≡◌, ◌⊎◌, inl, inr, ℕ, ◌+◌, List, [], ◌∷◌, ◌++◌, length, Option, Some, None, Result, Ok, Err, refl, sym, ap, subst, ◌∙◌, ◌↔◌}
use Rattle.std.proofs.lemmas.List.{append-nil}
use Rattle.ug_types.specs.TextFaults.{fault_of_kind}
use Rattle.ug_uevent.specs.Cuts.{length_before}
use Rattle.ug_uevent.specs.Faults.{SaidFault}
use Rattle.ug_uevent.specs.Grammar.{AreStrings, Nothing, IsHeader, IsPair, AreGood, IsFaulty, IsAction, SaysOfDevice, IsMessage, HasNoHeader, length_of, IsBadMessage, ReadsAs}
use Rattle.ug_uevent.specs.Reading.{strings_of, nothing, strings_read, Hints}
use Rattle.ug_uevent.specs.declared.fault.UeventKind.{UeventKind}
use Rattle.ug_uevent.specs.declared.fault.UeventKind.TheVariants as kind
use Rattle.ug_uevent.specs.declared.fields.Found.{Found}
use Rattle.ug_uevent.specs.declared.hint.Action.{Action}
use Rattle.ug_uevent.specs.declared.hint.Hint.{Hint}
use Rattle.ug_uevent.proofs.Found.{one_pair, Stands, nothing_stands}
use Rattle.ug_uevent.proofs.Settings.{action_read, action_only}
use Rattle.ug_uevent.proofs.Steps.{no_pair, AllTaken, all_taken, FirstFaulty, decide, faulty_refused, stop_read, end_read}
use Rattle.ug_uevent.proofs.Strings.{first_of, behind_first, split_first, are_strings, strings_only}

abbrev Read : Type 0
Read = Result Found SaidFault

abbrev fault : UeventKind → ℕ → Read
fault k place = Err (fault_of_kind k place)

-- what good strings lead to, and what a first fault does
good_read : (act path : List ℕ) (texts : List (List ℕ)) (place : ℕ) → AreGood act path [] texts → (next : Found) × Stands texts next × (strings_read act path nothing place texts ≡ Ok next)
good_read act path texts place g =
    let t : AllTaken act path [] nothing texts = all_taken act path texts [] nothing nothing_stands g in
    let e : strings_read act path nothing place texts ≡ Ok t.next =
    ap (strings_read act path nothing place) (sym (append-nil texts)) ∙ t.read place [] ∙ end_read act path t.next (place + length_of texts) in
    (t.next, t.stands, e)

bad_read : (act path : List ℕ) (before : List (List ℕ)) (text : List ℕ) (behind : List (List ℕ)) (k : UeventKind) (place : ℕ) → AreGood act path [] before → IsFaulty act path before text k
    → strings_read act path nothing place (before ++ text ∷ behind) ≡ fault k (place + length_of before)
bad_read act path before text behind k place g f =
    let t : AllTaken act path [] nothing before = all_taken act path before [] nothing nothing_stands g in
    t.read place (text ∷ behind) ∙ stop_read act path t.next k (place + length_of before) text behind (faulty_refused act path before t.next text k t.stands f)

-- one header
abbrev head : List (List ℕ) → List ℕ
head [] = []
head (text ∷ texts) = text

abbrev tail : List (List ℕ) → List (List ℕ)
tail [] = []
tail (text ∷ texts) = texts

one_split : (message : List ℕ) (a b : List (List ℕ)) → AreStrings message a → AreStrings message b → a ≡ b
one_split message a b s t = sym (strings_only message a s) ∙ strings_only message b t

-- one meaning
same_option : {X : Type 0} (a b : Option X) → ((x : X) → a ≡ Some x → b ≡ Some x) → ((x : X) → b ≡ Some x → a ≡ Some x) → a ≡ b
same_option None None f g = refl
same_option None (Some x) f g = g x refl
same_option (Some x) b f g = sym (f x refl)

one_hint : (act path : List ℕ) (texts : List (List ℕ)) (a b : Hint) → SaysOfDevice act path texts a → SaysOfDevice act path texts b → a ≡ b
one_hint act path texts a b s t =
    let does : a.action ≡ b.action = sym (action_only act a.action s.does) ∙ action_only act b.action t.does in
    let named : a.name ≡ b.name = same_option a.name b.name (λ n e. (t.named n).1 ((s.named n).0 e)) (λ n e. (s.named n).1 ((t.named n).0 e)) in
    let numbered : a.seq ≡ b.seq = same_option a.seq b.seq (λ n e. (t.numbered n).1 ((s.numbered n).0 e)) (λ n e. (s.numbered n).1 ((t.numbered n).0 e)) in
    λ i. record { action = does i; name = named i; seq = numbered i }

-- what a message's strings are read as, whatever is said of it
record Told (message : List ℕ) (answer : Result Hint SaidFault) (header : List ℕ) (others : List (List ℕ)) (act path : List ℕ) : Type 0 where
  strings : AreStrings message (header ∷ others)
  is_header : IsHeader header act path
  hint : (h : Hint) → answer ≡ Ok h → AreGood act path [] others × SaysOfDevice act path others h
  bad : (f : SaidFault) → answer ≡ Err f → strings_read act path nothing (length header + 1) others ≡ Err f

abbrev NoHeader : List ℕ → Result Hint SaidFault → Type 0
NoHeader message answer = HasNoHeader message × (answer ≡ Err (fault_of_kind kind.NoHeader 0))

abbrev IsTold : List ℕ → Result Hint SaidFault → Type 0
IsTold message answer = NoHeader message answer ⊎ ((header : List ℕ) × (others : List (List ℕ)) × (act : List ℕ) × (path : List ℕ) × Told message answer header others act path)

abbrev good : {X : Type 0} → X → Result X SaidFault
good x = Ok x

abbrev wrong : {X : Type 0} → SaidFault → Result X SaidFault
wrong f = Err f

same_ok : {X : Type 0} (x y : X) → good x ≡ good y → x ≡ y
same_ok x y e = cc

same_err : {X : Type 0} (f g : SaidFault) → wrong {X = X} f ≡ wrong g → f ≡ g
same_err f g e = cc

not_both : {X : Type 0} (x : X) (f : SaidFault) → good x ≡ wrong f → ⊥
not_both x f e = let none : ⊥ = cc in none

told : (message : List ℕ) (answer : Result Hint SaidFault) → ReadsAs message answer → IsTold message answer
told message (Ok hint) m = inr (
  m.header,
  m.others,
  m.act,
  m.path,
  record {
    strings = m.strings;
    is_header = m.is_header;
    hint = λ h e. (m.good, subst (SaysOfDevice m.act m.path m.others) (same_ok hint h e) m.says);
    bad = λ f e. absurd (not_both hint f e);
  },
)
told message (Err f) (inl n) = inl (n.2, λ i. Err (record { kind = n.0 i; place = n.1 i }))
told message (Err f) (inr b) = inr (
  b.header,
  b.before ++ b.text ∷ b.behind,
  b.act,
  b.path,
  record {
    strings = b.strings;
    is_header = b.is_header;
    hint = λ h e. absurd (not_both h f (sym e));
    bad = λ g e.
        let place : length b.header + 1 + length_of b.before ≡ f.place = sym b.stands in
        bad_read b.act b.path b.before b.text b.behind f.kind (length b.header + 1) b.good b.faulty ∙ ap (λ (p : ℕ). fault f.kind p) place ∙ ap (λ (z : SaidFault). Err z) (same_err f g e);
  },
)

no_and_header : (message header : List ℕ) (others : List (List ℕ)) (act path : List ℕ) → HasNoHeader message → AreStrings message (header ∷ others) → IsHeader header act path → ⊥
no_and_header message header others act path (inl n) s h = let e : [] ≡ header ∷ others = one_split message [] (header ∷ others) n s in let none : ⊥ = cc in none
no_and_header message header others act path (inr n) s h =
    let e : n.0 ∷ n.1 ≡ header ∷ others = one_split message (n.0 ∷ n.1) (header ∷ others) n.2 s in
    n.3 act path (subst (λ (t : List ℕ). IsHeader t act path) (sym (ap head e)) h)

-- two answers over one reading
agree : (message : List ℕ) (a b : Result Hint SaidFault) (header : List ℕ) (others : List (List ℕ)) (act path : List ℕ) → Told message a header others act path → Told message b header others act path → a ≡ b
agree message (Ok x) (Ok y) header others act path s t = ap (λ (h : Hint). Ok h) (one_hint act path others x y (s.hint x refl).1 (t.hint y refl).1)
agree message (Ok x) (Err f) header others act path s t =
    let g = good_read act path others (length header + 1) (s.hint x refl).0 in
    absurd (not_both g.0 f (sym g.2 ∙ t.bad f refl))
agree message (Err f) (Ok y) header others act path s t =
    let g = good_read act path others (length header + 1) (t.hint y refl).0 in
    absurd (not_both g.0 f (sym g.2 ∙ s.bad f refl))
agree message (Err f) (Err g) header others act path s t = ap (λ (z : SaidFault). Err z) (same_err f g (sym (s.bad f refl) ∙ t.bad g refl))

moved : (message : List ℕ) (a : Result Hint SaidFault) (header header' : List ℕ) (others others' : List (List ℕ)) (act act' path path' : List ℕ) → header ≡ header' → others ≡ others' → act ≡ act' → path ≡ path'
    → Told message a header others act path → Told message a header' others' act' path'
moved message a header header' others others' act act' path path' h o c p t =
    subst (λ (x : List ℕ). Told message a header' others' act' x) p
    (subst (λ (x : List ℕ). Told message a header' others' x path) c
    (subst (λ (x : List (List ℕ)). Told message a header' x act path) o
    (subst (λ (x : List ℕ). Told message a x others act path) h t)))

pub one_reading : (message : List ℕ) (a b : Result Hint SaidFault) → ReadsAs message a → ReadsAs message b → a ≡ b
one_reading message a b r q = by (told message a r) (told message b q)
  where
    by : IsTold message a → IsTold message b → a ≡ b
    by (inl n) (inl m) = n.1 ∙ sym m.1
    by (inl n) (inr (header, others, act, path, t)) = absurd (no_and_header message header others act path n.0 t.strings t.is_header)
    by (inr (header, others, act, path, t)) (inl n) = absurd (no_and_header message header others act path n.0 t.strings t.is_header)
    by (inr (header, others, act, path, t)) (inr (header', others', act', path', u)) =
        let e : header ∷ others ≡ header' ∷ others' = one_split message (header ∷ others) (header' ∷ others') t.strings u.strings in
        let h : header ≡ header' = ap head e in
        let same = one_pair 64 header' act path act' path' (subst (λ (x : List ℕ). IsPair 64 x act path) h t.is_header) u.is_header in
        agree message a b header' others' act' path' (moved message a header header' others others' act act' path path' h (ap tail e) same.0 same.1 t) u

-- what the reader answers
pub no_header_read : (message : List ℕ) → (length_before 64 (first_of message) ≡ 0) ⊎ (length_before 64 (first_of message) ≡ length (first_of message)) → HasNoHeader message
no_header_read [] h = inl Nothing
no_header_read (b ∷ bytes) h =
    let message : List ℕ = b ∷ bytes in
    inr (first_of message, strings_of (behind_first message), subst (AreStrings message) (split_first b bytes) (are_strings message), no_pair 64 (first_of message) h)

-- a message that has a header
pub with_header : (message : List ℕ) → (length_before 64 (first_of message) ≡ 0 → ⊥) → AreStrings message (first_of message ∷ strings_of (behind_first message))
with_header [] h = absurd (h refl)
with_header (b ∷ bytes) h = subst (AreStrings (b ∷ bytes)) (split_first b bytes) (are_strings (b ∷ bytes))

pub says_so : (act path : List ℕ) (texts : List (List ℕ)) (found : Found) (hint : Hint) → Stands texts found → Hints act path found hint → SaysOfDevice act path texts hint
says_so act path texts found hint st h = record {
  does = subst (λ (a : Action). IsAction act a) (sym h.does) (action_read act);
  named = λ n. (
    λ e. (let k = (h.named n).0 e in (st.usb_is.0 k.0, k.1)),
    λ k. (h.named n).1 (st.usb_is.1 k.0, k.1),
  );
  numbered = λ n. (λ e. (st.seq_is n).0 (sym h.numbered ∙ e), λ k. h.numbered ∙ (st.seq_is n).1 k);
}

pub message_read : (message act path : List ℕ) (found : Found) (hint : Hint) → (length_before 64 (first_of message) ≡ 0 → ⊥) → IsHeader (first_of message) act path
    → strings_read act path nothing (length (first_of message) + 1) (strings_of (behind_first message)) ≡ Ok found → Hints act path found hint → IsMessage message hint
message_read message act path found hint some header e h = by (decide act path (strings_of (behind_first message)) [] nothing nothing_stands)
  where
    texts : List (List ℕ)
    texts = strings_of (behind_first message)

    by : AreGood act path [] texts ⊎ FirstFaulty act path [] texts → IsMessage message hint
    by (inl g) =
        let r = good_read act path texts (length (first_of message) + 1) g in
        let same : r.0 ≡ found = same_ok r.0 found (sym r.2 ∙ e) in
        record {
          header = first_of message;
          others = texts;
          act = act;
          path = path;
          strings = with_header message some;
          is_header = header;
          good = g;
          says = says_so act path texts found hint (subst (Stands texts) same r.1) h;
        }
    by (inr f) =
        let r = bad_read act path f.front f.text f.behind f.k (length (first_of message) + 1) f.good f.faulty in
        absurd (not_both found (fault_of_kind f.k (length (first_of message) + 1 + length_of f.front)) (sym e ∙ ap (strings_read act path nothing (length (first_of message) + 1)) f.is ∙ r))

pub fault_read : (message act path : List ℕ) (wrong : SaidFault) → (length_before 64 (first_of message) ≡ 0 → ⊥) → IsHeader (first_of message) act path
    → strings_read act path nothing (length (first_of message) + 1) (strings_of (behind_first message)) ≡ Err wrong → IsBadMessage message wrong.kind wrong.place
fault_read message act path wrong some header e = by (decide act path (strings_of (behind_first message)) [] nothing nothing_stands)
  where
    texts : List (List ℕ)
    texts = strings_of (behind_first message)

    by : AreGood act path [] texts ⊎ FirstFaulty act path [] texts → IsBadMessage message wrong.kind wrong.place
    by (inl g) =
        let r = good_read act path texts (length (first_of message) + 1) g in
        absurd (not_both r.0 wrong (sym r.2 ∙ e))
    by (inr f) =
        let r = bad_read act path f.front f.text f.behind f.k (length (first_of message) + 1) f.good f.faulty in
        let there : fault_of_kind f.k (length (first_of message) + 1 + length_of f.front) ≡ wrong =
        same_err (fault_of_kind f.k (length (first_of message) + 1 + length_of f.front)) wrong (sym r ∙ sym (ap (strings_read act path nothing (length (first_of message) + 1)) f.is) ∙ e) in
        inr (record {
          header = first_of message;
          before = f.front;
          text = f.text;
          behind = f.behind;
          act = act;
          path = path;
          strings = subst (λ (t : List (List ℕ)). AreStrings message (first_of message ∷ t)) f.is (with_header message some);
          is_header = header;
          good = f.good;
          faulty = subst (IsFaulty act path f.front f.text) (ap (λ (z : SaidFault). z.kind) there) f.faulty;
          stands = sym (ap (λ (z : SaidFault). z.place) there);
        })

-- one answer is all that is true of a message
pub answers_good : (message : List ℕ) (answer : Result Hint SaidFault) → ReadsAs message answer → (hint : Hint) → (answer ≡ Ok hint) ↔ IsMessage message hint
answers_good message answer r hint = (λ e. subst (ReadsAs message) e r, λ m. one_reading message answer (Ok hint) r m)

pub answers_bad : (message : List ℕ) (answer : Result Hint SaidFault) → ReadsAs message answer → (k : UeventKind) (place : ℕ) → (answer ≡ Err (fault_of_kind k place)) ↔ IsBadMessage message k place
answers_bad message answer r k place = (λ e. subst (ReadsAs message) e r, λ b. one_reading message answer (Err (fault_of_kind k place)) r b)
