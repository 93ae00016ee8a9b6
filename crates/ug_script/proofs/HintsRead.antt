-- What a piece of recorded uevents comes to is fixed.
use Rattle.std.proofs.Common.{◌≡◌, ◌↔◌, ◌⊎◌, inl, inr, ℕ, ◌+◌, ◌≤◌, Bool, true, false, cond, nat_eq, nat_lt, ◌&&◌, ◌||◌, List, [], ◌∷◌, ◌++◌, map, length, take, drop, Option, Some, None, Result, Ok, Err, refl, sym, ap, subst, ◌∙◌, true≢false, arith, length-append}
use Rattle.std.specs.Prelude.{option_and_then}
use Rattle.std.proofs.lemmas.List.{length-map}
use Rattle.std.specs.Ordering.{is_lt, ordering_reverse}
use Rattle.std.specs.declared.cmp.Ordering.{Ordering}
use Rattle.std.specs.declared.cmp.Ordering.TheVariants.{Less, Equal, Greater}
use Rattle.std.proofs.lemmas.Cmp.{tied_itself}
use Rattle.std.proofs.lemmas.Bool.{or_parts}
use Rattle.std.proofs.lemmas.Option.{none-some}
use Rattle.ug_types.specs.Elements.{Has}
use Rattle.ug_types.specs.Names.{sweep_cmp}
use Rattle.ug_types.specs.Sweep.{sweep_exact, sweep_total}
use Rattle.ug_types.specs.TextFaults.{fault_of_kind}
use Rattle.ug_uevent.specs.Answers.{AnswersMessage}
use Rattle.ug_uevent.specs.Cuts.{IsLastCut, length_before}
use Rattle.ug_uevent.specs.Faults.{SaidFault}
use Rattle.ug_uevent.specs.Grammar.{IsHeader, IsNameIn, ReadsAs}
use Rattle.ug_uevent.specs.Reading.{nothing, strings_of, strings_read, Hints}
use Rattle.ug_uevent.specs.Streams.{BegunMessage, Partial, Overlong, Message, Stream, Whole, TooLong, byte_then, nothing_begun, stream_of, stream_with_piece}
use Rattle.ug_uevent.specs.declared.fault.UeventKind.TheVariants as kind
use Rattle.ug_uevent.specs.declared.fields.Found.{Found}
use Rattle.ug_uevent.specs.declared.hint.Hint.{Hint}
use Rattle.ug_uevent.proofs.Cuts.{other_byte, same_byte}
use Rattle.ug_uevent.proofs.Meaning.{fault_read, message_read, no_header_read, one_reading}
use Rattle.ug_uevent.proofs.Paths.{named, no_slash, unnamed}
use Rattle.ug_uevent.proofs.Steps.{pair_at}
use Rattle.ug_uevent.proofs.Strings.{first_of, behind_first}
use Rattle.ug_table.specs.Laws.{AreInOrder, swept_before}
use Rattle.ug_script.specs.Play.{NameNobody, tells_memory}
use Rattle.ug_core.specs.Due.{AreDueInOrder, standings_due}
use Rattle.ug_core.specs.Event.{DaemonState}
use Rattle.ug_types.specs.Events.{longest_piece}
use Rattle.ug_core.specs.Hinting.{AnswerEach, MeetsPiece, TakesPiece, hinted_names, listed_name, names_due, refusals}
use Rattle.ug_script.specs.Hints.{behind_here, hint_found, hint_played, if_found, header_said, last_part, message_said, name_of_path, placed_once, swept_once, with_answers}
use Rattle.ug_steps.specs.Words.{name_of}
use Rattle.ug_steps.proofs.NamesRead.{name-some, name_text}

-- ---- the name at the end of a path

LastPart : List ℕ → Option (List ℕ) → Type 0
LastPart path None = ¬ Has path 47
LastPart path (Some part) = (front : List ℕ) × (path ≡ front ++ 47 ∷ part) × (¬ Has part 47)

part_found : (path : List ℕ) → LastPart path (last_part path)
unfolding LastPart
part_found [] = λ h. h
part_found (b ∷ bytes) = by (last_part bytes) (part_found bytes)
  where
    by_byte : (v : Bool) → nat_eq b 47 ≡ v → (¬ Has bytes 47) → LastPart (b ∷ bytes) (cond v (Some bytes) None)
    by_byte true e none = ([], ap (λ (c : ℕ). c ∷ bytes) (same_byte b 47 e), none)
    by_byte false e none = λ h. elim h [ inl k ↦ other_byte b 47 e k | inr m ↦ none m ]

    by : (o : Option (List ℕ)) → LastPart bytes o → LastPart (b ∷ bytes) (behind_here b bytes o)
    by (Some part) (front, is, last) = (b ∷ front, ap (λ (t : List ℕ). b ∷ t) is, last)
    by None none = by_byte (nat_eq b 47) refl none

pub name_so : (path name : List ℕ) → (name_of_path path ≡ Some name) ↔ IsNameIn path name
unfolding LastPart
name_so path name = by (last_part path) (part_found path)
  where
    by_name : (part : List ℕ) (front : List ℕ) → (path ≡ front ++ 47 ∷ part) → (¬ Has part 47) → (o : Option (List ℕ)) → name_of part ≡ o → (o ≡ Some name) ↔ IsNameIn path name
    by_name part front is last (Some x) e =
        let h = (name_text part x).0 e in
        let cut : IsLastCut 47 path (length front) = record { front = front; back = part; is = is; long = refl; last = last } in
        named path part (length front) name x cut refl h.2 (h.0, h.1)
    by_name part front is last None e =
        let cut : IsLastCut 47 path (length front) = record { front = front; back = part; is = is; long = refl; last = last } in
        unnamed path part (length front) name cut refl (λ h. none-some part (sym e ∙ sym (name-some part h.0 h.1)))

    by : (o : Option (List ℕ)) → LastPart path o → (option_and_then (λ part. name_of part) o ≡ Some name) ↔ IsNameIn path name
    by None none = no_slash path name none
    by (Some part) (front, is, last) = by_name part front is last (name_of part) refl

-- ---- a message

found_so : (act path : List ℕ) (found : Found) → Hints act path found (hint_found act path found)
found_so act path found = by found.usb refl
  where
    by : (b : Bool) → found.usb ≡ b → Hints act path found (hint_found act path found)
    by true e = record {
      does = refl;
      named = λ n. (
        λ h. (e, (name_so path n).0 (sym (ap (λ (v : Bool). cond v (name_of_path path) None) e) ∙ h)),
        λ k. ap (λ (v : Bool). cond v (name_of_path path) None) e ∙ (name_so path n).1 k.1,
      );
      numbered = refl;
    }
    by false e = record {
      does = refl;
      named = λ n. (
        λ h. absurd (none-some n (sym (ap (λ (v : Bool). cond v (name_of_path path) None) e) ∙ h)),
        λ k. absurd (true≢false (sym k.0 ∙ e)),
      );
      numbered = refl;
    }

either : (n : ℕ) (header : List ℕ) → (nat_eq n 0 || nat_eq n (length header)) ≡ true → (n ≡ 0) ⊎ (n ≡ length header)
either n header h = by (nat_eq n 0) refl h
  where
    by : (v : Bool) → nat_eq n 0 ≡ v → (v || nat_eq n (length header)) ≡ true → (n ≡ 0) ⊎ (n ≡ length header)
    by true e k = inl (same_byte n 0 e)
    by false e k = inr (same_byte n (length header) k)

module _ (message : List ℕ) where
  abbrev Header : List ℕ
  Header = first_of message

  abbrev Cut : ℕ
  Cut = length_before 64 Header

  abbrev Act : List ℕ
  Act = take Cut Header

  abbrev Path : List ℕ
  Path = drop (Cut + 1) Header

  behind_so : (some : Cut ≡ 0 → ⊥) → IsHeader Header Act Path → (r : Result Found SaidFault) → strings_read Act Path nothing (length Header + 1) (strings_of (behind_first message)) ≡ r → ReadsAs message (if_found Act Path r)
  behind_so some header (Ok found) e = message_read message Act Path found (hint_found Act Path found) some header e (found_so Act Path found)
  behind_so some header (Err wrong) e = fault_read message Act Path wrong some header e

  whole_so : ReadsAs message (header_said Header (behind_first message) Cut)
  whole_so = by (nat_eq Cut 0 || nat_eq Cut (length Header)) refl
    where
      by : (v : Bool) → (nat_eq Cut 0 || nat_eq Cut (length Header)) ≡ v → ReadsAs message (cond v (Err (fault_of_kind kind.NoHeader 0)) (if_found Act Path (strings_read Act Path nothing (length Header + 1) (strings_of (behind_first message)))))
      by true e = inl (refl, refl, no_header_read message (either Cut Header e))
      by false e =
          let p = or_parts (nat_eq Cut 0) (nat_eq Cut (length Header)) e in
          let some : Cut ≡ 0 → ⊥ = other_byte Cut 0 p.0 in
          let sign : Cut ≡ length Header → ⊥ = other_byte Cut (length Header) p.1 in
          behind_so some (pair_at 64 Header some sign) (strings_read Act Path nothing (length Header + 1) (strings_of (behind_first message))) refl

said_so : (m : Message) → AnswersMessage m (message_said m)
unfolding message_said
said_so (Whole bytes) = whole_so bytes
said_so TooLong = refl

said_only : (m : Message) (a : Result Hint SaidFault) → AnswersMessage m a → a ≡ message_said m
said_only (Whole bytes) a h = one_reading bytes a (message_said (Whole bytes)) h (said_so (Whole bytes))
said_only TooLong a h = h ∙ sym (said_so TooLong)

each_so : (ms : List Message) → AnswerEach ms (map message_said ms)
each_so [] = refl
each_so (m ∷ ms) = (said_so m, each_so ms)

each_only : (ms : List Message) (answers : List (Result Hint SaidFault)) → AnswerEach ms answers → answers ≡ map message_said ms
each_only [] answers h = h
each_only (m ∷ ms) [] h = absurd h
each_only (m ∷ ms) (a ∷ answers) h = ap (λ (v : Result Hint SaidFault). v ∷ answers) (said_only m a h.0) ∙ ap (λ (v : List (Result Hint SaidFault)). message_said m ∷ v) (each_only ms answers h.1)

-- ---- names in order

less_is : (r : Ordering) → is_lt r ≡ true → r ≡ Less
less_is Less e = refl
less_is x e = absurd (true≢false (sym e))

further : (x y z : List ℕ) → swept_before x y ≡ true → swept_before y z ≡ true → swept_before x z ≡ true
further x y z a b = ap is_lt (sweep_total.trans x y z (less_is (sweep_cmp x y) a) (less_is (sweep_cmp y z) b))

not_itself : (x : List ℕ) → swept_before x x ≡ true → ⊥
not_itself x h = true≢false (sym h ∙ ap is_lt (tied_itself sweep_total x))

equal_is : (r : Ordering) → is_lt r ≡ false → is_lt (ordering_reverse r) ≡ false → r ≡ Equal
equal_is Less a b = absurd (true≢false a)
equal_is Equal a b = refl
equal_is Greater a b = absurd (true≢false b)

same_name : (x y : List ℕ) → swept_before x y ≡ false → swept_before y x ≡ false → x ≡ y
same_name x y a b = sweep_exact x y (equal_is (sweep_cmp x y) a (sym (ap is_lt (sweep_total.antisymm y x)) ∙ b))

-- the three places of a name beside the first
abbrev Beside : List ℕ → List ℕ → Type 0
Beside x y = (swept_before x y ≡ true) ⊎ (((swept_before x y ≡ false) × (swept_before y x ≡ true)) ⊎ ((swept_before x y ≡ false) × (swept_before y x ≡ false)))

beside : (x y : List ℕ) → Beside x y
beside x y = by (swept_before x y) (swept_before y x) refl refl
  where
    by : (a b : Bool) → swept_before x y ≡ a → swept_before y x ≡ b → Beside x y
    by true b e f = inl e
    by false true e f = inr (inl (e, f))
    by false false e f = inr (inr (e, f))

put_before : (x y : List ℕ) (ys : List (List ℕ)) → swept_before x y ≡ true → placed_once x (y ∷ ys) ≡ x ∷ y ∷ ys
put_before x y ys e = rw e refl

put_behind : (x y : List ℕ) (ys : List (List ℕ)) → swept_before x y ≡ false → swept_before y x ≡ true → placed_once x (y ∷ ys) ≡ y ∷ placed_once x ys
put_behind x y ys e f = rw (e, f) refl

put_there : (x y : List ℕ) (ys : List (List ℕ)) → swept_before x y ≡ false → swept_before y x ≡ false → placed_once x (y ∷ ys) ≡ y ∷ ys
put_there x y ys e f = rw (e, f) refl

placed_has : (x : List ℕ) (ys : List (List ℕ)) (n : List ℕ) → Has (placed_once x ys) n ↔ ((x ≡ n) ⊎ Has ys n)
placed_has x [] n = (λ h. h, λ h. h)
placed_has x (y ∷ ys) n = elim (beside x y) [
  | inl e ↦ subst (λ (l : List (List ℕ)). Has l n ↔ ((x ≡ n) ⊎ Has (y ∷ ys) n)) (sym (put_before x y ys e)) (λ h. h, λ h. h)
  | inr s ↦ elim s [
    | inl p ↦ subst (λ (l : List (List ℕ)). Has l n ↔ ((x ≡ n) ⊎ Has (y ∷ ys) n)) (sym (put_behind x y ys p.0 p.1)) (
      λ h. elim h [ inl a ↦ inr (inl a) | inr b ↦ elim ((placed_has x ys n).0 b) [ inl c ↦ inl c | inr d ↦ inr (inr d) ] ],
      λ h. elim h [ inl a ↦ inr ((placed_has x ys n).1 (inl a)) | inr b ↦ elim b [ inl c ↦ inl c | inr d ↦ inr ((placed_has x ys n).1 (inr d)) ] ],
    )
    | inr p ↦ subst (λ (l : List (List ℕ)). Has l n ↔ ((x ≡ n) ⊎ Has (y ∷ ys) n)) (sym (put_there x y ys p.0 p.1)) (
      λ h. inr h,
      λ h. elim h [ inl a ↦ inl (sym (same_name x y p.0 p.1) ∙ a) | inr b ↦ b ],
    )
  ]
]

placed_order : (x : List ℕ) (ys : List (List ℕ)) → AreInOrder ys → AreInOrder (placed_once x ys)
placed_order x [] o = (λ n h. absurd h, tt)
placed_order x (y ∷ ys) o = elim (beside x y) [
  | inl e ↦ subst AreInOrder (sym (put_before x y ys e)) (λ n h. elim h [ inl is ↦ subst (λ (v : List ℕ). swept_before x v ≡ true) is e | inr a ↦ further x y n e (o.0 n a) ], o)
  | inr s ↦ elim s [
    | inl p ↦ subst AreInOrder (sym (put_behind x y ys p.0 p.1)) (
      λ n h. elim ((placed_has x ys n).0 h) [ inl is ↦ subst (λ (v : List ℕ). swept_before y v ≡ true) is p.1 | inr a ↦ o.0 n a ],
      placed_order x ys o.1,
    )
    | inr p ↦ subst AreInOrder (sym (put_there x y ys p.0 p.1)) o
  ]
]

once_order : (names : List (List ℕ)) → AreInOrder (swept_once names)
unfolding swept_once
once_order [] = tt
once_order (name ∷ names) = placed_order name (swept_once names) (once_order names)

once_has : (names : List (List ℕ)) (n : List ℕ) → Has (swept_once names) n ↔ Has names n
unfolding swept_once
once_has [] n = (λ h. h, λ h. h)
once_has (name ∷ names) n = (
  λ h. elim ((placed_has name (swept_once names) n).0 h) [ inl a ↦ inl a | inr b ↦ inr ((once_has names n).0 b) ],
  λ h. (placed_has name (swept_once names) n).1 (elim h [ inl a ↦ inl a | inr b ↦ inr ((once_has names n).1 b) ]),
)

-- one order
one_order : (xs ys : List (List ℕ)) → AreInOrder xs → AreInOrder ys → ((n : List ℕ) → Has xs n → Has ys n) → ((n : List ℕ) → Has ys n → Has xs n) → xs ≡ ys
one_order [] [] o p f g = refl
one_order [] (y ∷ ys) o p f g = absurd (g y (inl refl))
one_order (x ∷ xs) [] o p f g = absurd (f x (inl refl))
one_order (x ∷ xs) (y ∷ ys) o p f g = ap (λ (v : List ℕ). v ∷ xs) first ∙ ap (λ (v : List (List ℕ)). y ∷ v) (one_order xs ys o.1 p.1 within back)
  where
    turned : swept_before x y ≡ true → swept_before y x ≡ true → ⊥
    turned a b = not_itself x (further x y x a b)

    first : x ≡ y
    first = elim (f x (inl refl)) [
      | inl e ↦ sym e
      | inr a ↦ elim (g y (inl refl)) [
        | inl e ↦ e
        | inr b ↦ absurd (turned (o.0 y b) (p.0 x a))
      ]
    ]

    within : (n : List ℕ) → Has xs n → Has ys n
    within n h = elim (f n (inr h)) [
      | inl e ↦ absurd (not_itself x (subst (λ (v : List ℕ). swept_before x v ≡ true) (sym e ∙ sym first) (o.0 n h)))
      | inr a ↦ a
    ]

    back : (n : List ℕ) → Has ys n → Has xs n
    back n h = elim (g n (inr h)) [
      | inl e ↦ absurd (not_itself y (subst (λ (v : List ℕ). swept_before y v ≡ true) (sym e ∙ first) (p.0 n h)))
      | inr a ↦ a
    ]

-- ---- the piece

pub played_takes : (piece : List ℕ) (d : DaemonState) → TakesPiece piece d (hint_played piece d)
played_takes piece d =
    let answers : List (Result Hint SaidFault) = map message_said (stream_with_piece d.stream piece).messages in
    record {
      answers = answers;
      each = each_so (stream_with_piece d.stream piece).messages;
      names = swept_once (hinted_names answers);
      order = once_order (hinted_names answers);
      hinted = once_has (hinted_names answers);
      state = refl;
    }

pub takes_played : (piece : List ℕ) (d e : DaemonState) → TakesPiece piece d e → e ≡ hint_played piece d
takes_played piece d e h =
    let same : h.answers ≡ map message_said (stream_with_piece d.stream piece).messages = each_only (stream_with_piece d.stream piece).messages h.answers h.each in
    let names : h.names ≡ swept_once (hinted_names h.answers) = one_order h.names (swept_once (hinted_names h.answers)) h.order (once_order (hinted_names h.answers)) (λ n a. (once_has (hinted_names h.answers) n).1 ((h.hinted n).0 a)) (λ n a. (h.hinted n).1 ((once_has (hinted_names h.answers) n).0 a)) in
    h.state
    ∙ ap (λ (ns : List (List ℕ)). record d {
      sweep = record d.sweep { entries = d.sweep.entries ++ refusals h.answers };
      stream = record { messages = []; begun = (stream_with_piece d.stream piece).begun };
      due = Some (names_due d.sweep.listed ns);
    }) names
    ∙ ap (λ (answers : List (Result Hint SaidFault)). record (with_answers answers d) { stream = record { messages = []; begun = (stream_with_piece d.stream piece).begun } }) same

pub played_order : (piece : List ℕ) (d : DaemonState) → AreDueInOrder (hint_played piece d).due
played_order piece d =
    let names : List (List ℕ) = swept_once (hinted_names (map message_said (stream_with_piece d.stream piece).messages)) in
    by d.sweep.listed names (once_order (hinted_names (map message_said (stream_with_piece d.stream piece).messages)))
  where
    by : (listed : Bool) (names : List (List ℕ)) → AreInOrder names → AreInOrder (names_due listed names)
    by true names o = o
    by false names o = tt

-- and there are no more than bytes

byte_few : (b : BegunMessage) (byte : ℕ) → length (byte_then b byte).messages ≤ 1
byte_few Overlong byte = omega arith
byte_few (Partial bytes fresh) byte = by (nat_eq byte 0 && fresh) (nat_lt (length bytes) 8191)
  where
    by : (whole low : Bool) → length (cond {A = Stream} whole (record { messages = Whole bytes ∷ []; begun = nothing_begun }) (cond {A = Stream} low (record { messages = []; begun = Partial (bytes ++ byte ∷ []) (nat_eq byte 0) }) (record { messages = TooLong ∷ []; begun = Overlong }))).messages ≤ 1
    by true low = omega arith
    by false true = omega arith
    by false false = omega arith

messages_few : (b : BegunMessage) (bytes : List ℕ) → length (stream_of b bytes).messages ≤ length bytes
messages_few b [] = omega arith
messages_few b (byte ∷ bytes) =
    let one = byte_few b byte in
    let rest = messages_few (byte_then b byte).begun bytes in
    omega (arith, one, rest, length-append (byte_then b byte).messages (stream_of (byte_then b byte).begun bytes).messages)

placed_few : (x : List ℕ) (ys : List (List ℕ)) → length (placed_once x ys) ≤ length ys + 1
placed_few x [] = omega arith
placed_few x (y ∷ ys) = elim (beside x y) [
  | inl e ↦ let same = ap length (put_before x y ys e) in omega (arith, same)
  | inr s ↦ elim s [
    | inl p ↦ let same = ap length (put_behind x y ys p.0 p.1) in let rest = placed_few x ys in omega (arith, same, rest)
    | inr p ↦ let same = ap length (put_there x y ys p.0 p.1) in omega (arith, same)
  ]
]

once_few : (names : List (List ℕ)) → length (swept_once names) ≤ length names
unfolding swept_once
once_few [] = omega arith
once_few (name ∷ names) = let one = placed_few name (swept_once names) in let rest = once_few names in omega (arith, one, rest)

hinted_few : (answers : List (Result Hint SaidFault)) → length (hinted_names answers) ≤ length answers
hinted_few [] = omega arith
hinted_few (Ok hint ∷ answers) = by hint.name (hinted_few answers)
  where
    by : (o : Option (List ℕ)) → length (hinted_names answers) ≤ length answers → length (listed_name o ++ hinted_names answers) ≤ length {A = Result Hint SaidFault} (Ok hint ∷ answers)
    by None rest = omega (arith, rest)
    by (Some name) rest = omega (arith, rest)
hinted_few (Err bad ∷ answers) = let rest = hinted_few answers in omega (arith, rest)

pub played_few : (piece : List ℕ) (d : DaemonState) → length piece ≤ longest_piece → d.stream.messages ≡ [] → standings_due (hint_played piece d).due ≤ longest_piece
played_few piece d fits none =
    let messages : List Message = (stream_with_piece d.stream piece).messages in
    let all : length messages ≡ length (stream_of d.stream.begun piece).messages = ap (λ (before : List Message). length (before ++ (stream_of d.stream.begun piece).messages)) none in
    let few = messages_few d.stream.begun piece in
    let said = length-map messages message_said in
    let hinted = hinted_few (map message_said messages) in
    let once = once_few (hinted_names (map message_said messages)) in
    let due = by d.sweep.listed (swept_once (hinted_names (map message_said messages))) in
    omega (arith, fits, all, few, said, hinted, once, due)
  where
    by : (listed : Bool) (names : List (List ℕ)) → length (names_due listed names) ≤ length names
    by true names = omega arith
    by false names = omega arith

-- refusals name nobody and tell no want of memory

pub refusals_sure : (answers : List (Result Hint SaidFault)) → tells_memory (refusals answers) ≡ false
refusals_sure [] = refl
refusals_sure (Ok hint ∷ answers) = refusals_sure answers
refusals_sure (Err bad ∷ answers) = refusals_sure answers

pub refusals_nobody : (answers : List (Result Hint SaidFault)) → NameNobody (refusals answers)
refusals_nobody [] = refl
refusals_nobody (Ok hint ∷ answers) = refusals_nobody answers
refusals_nobody (Err bad ∷ answers) = refusals_nobody answers

-- a piece is taken or dropped, and the policy and the standings stay

pub meets_judge : (piece : List ℕ) (d e : DaemonState) → MeetsPiece piece d e → e.sweep.judge ≡ d.sweep.judge
meets_judge piece d e (inl h) = ap (λ (x : DaemonState). x.sweep.judge) h.state
meets_judge piece d e (inr h) = ap (λ (x : DaemonState). x.sweep.judge) h
