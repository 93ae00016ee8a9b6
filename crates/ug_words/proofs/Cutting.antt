-- Lines read by their parts, and cut.
use Rattle.std.proofs.Common.{◌≡◌, ℕ, zero, suc, ◌+◌, ◌<◌, ◌≤◌, ◌⊎◌, inl, inr, Bool, true, false, nat_eq, List, [], ◌∷◌, ◌++◌, length, length-append, drop, Option, None, Some, Result, Ok, Err, refl, sym, ap, subst, ◌∙◌, arith, append_assoc, add-zero}
use Rattle.std.specs.Prelude.{◌≢◌}
use Rattle.std.proofs.lemmas.List.{append-nil}
use Rattle.std.proofs.Math.Seq.{drop-append_seam}
use Rattle.ug_words.specs.declared.pieces.Front.{Front}
use Rattle.ug_words.specs.declared.pieces.Front.TheVariants as front
use Rattle.ug_words.specs.declared.token.Token.{Token}
use Rattle.ug_words.specs.declared.token.TokenKind.{TokenKind}
use Rattle.ug_words.specs.declared.token.TokenKind.TheVariants as kinds
use Rattle.ug_words.specs.Lexing.{Fault, BadEscape, OpenString, BadByte, Lexed, before_rest, front_of, is_blank, is_word_byte, led_by, mark_token, passed_by, quoted_from, string_of, tokens_from}
use Rattle.ug_words.specs.Grammar.{AllStand, Faulty, Strange, Unclosed, Misspelled, IsComment, LinePart, Spells, StandsInLine, Blank, Mark, Word, String, parts_text, tokens_placed, token_at, width}
use Rattle.ug_words.proofs.Begun.{Run, blank_front, comment_front, mark_front, other_number, run_length, run_of, same_number, strange_front, string_front, word_front}
use Rattle.ug_words.proofs.Spelling.{closed_read, cut_string, ended_read, misspelled_read, spelled_read}
use Rattle.ug_words.proofs.Steps.{behind, grown, line_step}

-- what stands at the front is read
step_read : (at : ℕ) (bytes rest : List ℕ) (front : Result Front Fault) → length bytes ≡ 1 + passed_by front → front_of at (bytes ++ rest) ≡ front → tokens_from at 0 (bytes ++ rest) ≡ before_rest at front (tokens_from (at + length bytes) 0 rest)
step_read at bytes rest front long e =
    let back : drop (1 + passed_by front) (bytes ++ rest) ≡ rest = ap (λ (k : ℕ). drop k (bytes ++ rest)) (sym long) ∙ drop-append_seam bytes rest in
    let sum : at + 1 + passed_by front ≡ at + length bytes = omega arith in
    line_step at front (bytes ++ rest) (omega (arith, long, length-append bytes rest)) e (omega (arith, long, length-append bytes rest))
    ∙ ap (λ (d : List ℕ). before_rest at front (tokens_from (at + 1 + passed_by front) 0 d)) back
    ∙ ap (λ (p : ℕ). before_rest at front (tokens_from p 0 rest)) sum

behind-nil : (rest : Lexed) → behind [] rest ≡ rest
behind-nil (Ok tokens) = refl
behind-nil (Err fault) = refl

led_by-behind : (token : Token) (rest : Lexed) → led_by token rest ≡ behind (token ∷ []) rest
led_by-behind token (Ok tokens) = refl
led_by-behind token (Err fault) = refl

behind-behind : (a b : List Token) (rest : Lexed) → behind a (behind b rest) ≡ behind (a ++ b) rest
behind-behind a b (Ok tokens) = ap (λ (l : List Token). Ok l) (sym (append_assoc a b tokens))
behind-behind a b (Err fault) = refl

token_read : (at : ℕ) (bytes rest : List ℕ) (kind : TokenKind) (more : ℕ) → length bytes ≡ 1 + more → front_of at (bytes ++ rest) ≡ Ok (front.Piece kind more) → tokens_from at 0 (bytes ++ rest) ≡ behind (token_at at bytes (Some kind)) (tokens_from (at + length bytes) 0 rest)
token_read at bytes rest kind more long e =
    let next : Lexed = tokens_from (at + length bytes) 0 rest in
    let token : ℕ → Token = λ n. record { kind = kind; start = at; end = n } in
    let sum : at + 1 + more ≡ at + length bytes = omega arith in
    step_read at bytes rest (Ok (front.Piece kind more)) long e
    ∙ led_by-behind (token (at + 1 + more)) next
    ∙ ap (λ (n : ℕ). behind (token n ∷ []) next) sum

string_read : (at : ℕ) (inside text tail : List ℕ) → Spells inside text → front_of at (34 ∷ (inside ++ 34 ∷ tail)) ≡ Ok (front.Piece (kinds.Str text) (length inside + 1))
string_read at inside text tail s =
    string_front at (inside ++ 34 ∷ tail)
    ∙ ap string_of (spelled_read at (at + 1) inside text (34 ∷ tail) s ∙ ap (grown text (length inside)) (closed_read at (at + 1 + length inside) tail))
    ∙ ap (λ (t : List ℕ). Ok (front.Piece (kinds.Str t) (length inside + 1))) (append-nil text)

-- a blank or a token is read
part_read : (at : ℕ) (bytes : List ℕ) (kind : Option TokenKind) (rest : List ℕ) → StandsInLine bytes kind rest → tokens_from at 0 (bytes ++ rest) ≡ behind (token_at at bytes kind) (tokens_from (at + length bytes) 0 rest)
part_read at bytes kind rest (Blank b r h) =
    step_read at (b ∷ []) r (Ok front.Blank) (omega arith) (blank_front at b r h) ∙ sym (behind-nil (tokens_from (at + 1) 0 r))
part_read at bytes kind rest (Mark b mark r h) = token_read at (b ∷ []) r mark 0 (omega arith) (mark_front at b r mark h)
part_read at bytes kind rest (Word b run r each stop) =
    token_read at (b ∷ run) r kinds.Word (length run) (omega arith) (word_front at b (run ++ r) each.0 ∙ ap (λ (n : ℕ). Ok (front.Piece kinds.Word n)) (run_length run r each.1 stop))
part_read at bytes kind rest (String inside text r s) =
    let same : (34 ∷ (inside ++ 34 ∷ [])) ++ r ≡ 34 ∷ (inside ++ 34 ∷ r) = ap (λ (l : List ℕ). 34 ∷ l) (append_assoc inside (34 ∷ []) r) in
    token_read at (34 ∷ (inside ++ 34 ∷ [])) r (kinds.Str text) (length inside + 1) (omega (arith, length-append inside (34 ∷ []))) (ap (front_of at) same ∙ string_read at inside text r s)

-- all parts are read
pub all_read : (at : ℕ) (parts : List LinePart) (rest : List ℕ) → AllStand parts rest → tokens_from at 0 (parts_text parts rest) ≡ behind (tokens_placed at parts) (tokens_from (at + width parts) 0 rest)
all_read at [] rest stand = sym (behind-nil (tokens_from (at + 0) 0 rest) ∙ ap (λ (p : ℕ). tokens_from p 0 rest) (add-zero at))
all_read at (part ∷ parts) rest stand =
    let sum : at + length part.bytes + width parts ≡ at + (length part.bytes + width parts) = omega arith in
    let here : List Token = token_at at part.bytes part.kind in
    let more : List Token = tokens_placed (at + length part.bytes) parts in
    part_read at part.bytes part.kind (parts_text parts rest) stand.0
    ∙ ap (behind here) (all_read (at + length part.bytes) parts rest stand.1)
    ∙ behind-behind here more (tokens_from (at + length part.bytes + width parts) 0 rest)
    ∙ ap (λ (p : ℕ). behind (here ++ more) (tokens_from p 0 rest)) sum

pub comment_read : (at : ℕ) (rest : List ℕ) → IsComment rest → tokens_from at 0 rest ≡ Ok []
unfolding tokens_from
comment_read at rest (inl e) = rw e refl
comment_read at rest (inr e) =
    ap (tokens_from at 0) e.1 ∙ line_step at (Ok front.Comment) (35 ∷ e.0) (omega arith) (comment_front at e.0) (omega arith)

fault_read : (at : ℕ) (rest : List ℕ) (fault : Fault) → 0 < length rest → front_of at rest ≡ Err fault → tokens_from at 0 rest ≡ Err fault
fault_read at rest fault h e = line_step at (Err fault) rest h e (omega (arith, h))

string_fault : (at : ℕ) (inside text tail : List ℕ) (fault : Fault) → Spells inside text → quoted_from at (at + 1 + length inside) 0 tail ≡ Err fault → front_of at (34 ∷ (inside ++ tail)) ≡ Err fault
string_fault at inside text tail fault s e =
    string_front at (inside ++ tail) ∙ ap string_of (spelled_read at (at + 1) inside text tail s ∙ ap (grown text (length inside)) e)

pub faulty_read : (at : ℕ) (rest : List ℕ) (fault : Fault) → Faulty at rest fault → tokens_from at 0 rest ≡ Err fault
faulty_read at rest fault (Strange b tail blank word mark quote hash) = fault_read at (b ∷ tail) (BadByte at) (omega arith) (strange_front at b tail blank word mark quote hash)
faulty_read at rest fault (Unclosed inside text tail s e) =
    fault_read at (34 ∷ (inside ++ tail)) (OpenString at) (omega arith) (string_fault at inside text tail (OpenString at) s (ended_read at (at + 1 + length inside) tail e))
faulty_read at rest fault (Misspelled inside text tail s n) =
    fault_read at (34 ∷ (inside ++ 92 ∷ tail)) (BadEscape (at + 1 + length inside)) (omega arith) (string_fault at inside text (92 ∷ tail) (BadEscape (at + 1 + length inside)) s (misspelled_read at (at + 1 + length inside) tail n))

-- what stands at the front of a line's rest
record Next (xs : List ℕ) : Type 0 where
  bytes : List ℕ
  kind : Option TokenKind
  rest : List ℕ
  all : xs ≡ bytes ++ rest
  some : 0 < length bytes
  stands : StandsInLine bytes kind rest

abbrev NextOrFault : ℕ → List ℕ → Type 0
NextOrFault at xs = Next xs ⊎ ((fault : Fault) × Faulty at xs fault)

next_string : (at : ℕ) (bytes : List ℕ) → NextOrFault at (34 ∷ bytes)
next_string at bytes = elim (cut_string (length bytes) bytes (omega arith)) [
  | inl c ↦ inl (record {
    bytes = 34 ∷ (c.inside ++ 34 ∷ []);
    kind = Some (kinds.Str c.text);
    rest = c.tail;
    all = ap (λ (l : List ℕ). 34 ∷ l) (c.all ∙ sym (append_assoc c.inside (34 ∷ []) c.tail));
    some = omega arith;
    stands = String c.inside c.text c.tail c.spells;
  })
  | inr r ↦ elim r [
    | inl c ↦ inr (OpenString at, subst (λ (l : List ℕ). Faulty at (34 ∷ l) (OpenString at)) (sym c.all) (Unclosed c.inside c.text c.tail c.spells c.ends))
    | inr c ↦ inr (BadEscape (at + 1 + length c.inside), subst (λ (l : List ℕ). Faulty at (34 ∷ l) (BadEscape (at + 1 + length c.inside))) (sym c.all) (Misspelled c.inside c.text c.tail c.spells c.none))
  ]
]

next_word : (b : ℕ) (bytes : List ℕ) → is_word_byte b ≡ true → Next (b ∷ bytes)
next_word b bytes h =
    let r : Run bytes = run_of bytes in
    record {
      bytes = b ∷ r.run;
      kind = Some kinds.Word;
      rest = r.rest;
      all = ap (λ (l : List ℕ). b ∷ l) r.all;
      some = omega arith;
      stands = Word b r.run r.rest (h, r.each) r.stop;
    }

next_other : (at b : ℕ) (bytes : List ℕ) → is_blank b ≡ false → is_word_byte b ≡ false → b ≢ 34 → b ≢ 35 → NextOrFault at (b ∷ bytes)
next_other at b bytes blank word quote hash =
    let T : Option TokenKind → Type 0 = λ o. mark_token b ≡ o → NextOrFault at (b ∷ bytes) in
    let f : (o : Option TokenKind) → T o = λ o. elim o as T [
      | Some mark ↦ λ e. inl (record { bytes = b ∷ []; kind = Some mark; rest = bytes; all = refl; some = omega arith; stands = Mark b mark bytes e })
      | None ↦ λ e. inr (BadByte at, Strange b bytes blank word e quote hash)
    ] in
    f (mark_token b) refl

next_solid : (at b : ℕ) (bytes : List ℕ) → is_blank b ≡ false → b ≢ 35 → NextOrFault at (b ∷ bytes)
next_solid at b bytes blank hash =
    let A : Bool → Type 0 = λ v. nat_eq b 34 ≡ v → NextOrFault at (b ∷ bytes) in
    let B : Bool → Type 0 = λ v. is_word_byte b ≡ v → b ≢ 34 → NextOrFault at (b ∷ bytes) in
    let quoted : b ≡ 34 → NextOrFault at (b ∷ bytes) = λ e. subst (λ (x : ℕ). NextOrFault at (x ∷ bytes)) (sym e) (next_string at bytes) in
    let g : (v : Bool) → B v = λ v. elim v as B [ true ↦ λ e q. inl (next_word b bytes e) | false ↦ λ e q. next_other at b bytes blank e q hash ] in
    let f : (v : Bool) → A v = λ v. elim v as A [ true ↦ λ e. quoted (same_number b 34 e) | false ↦ λ e. g (is_word_byte b) refl (other_number b 34 e) ] in
    f (nat_eq b 34) refl

next : (at b : ℕ) (bytes : List ℕ) → NextOrFault at (b ∷ bytes) ⊎ IsComment (b ∷ bytes)
next at b bytes =
    let P : Type 0 = NextOrFault at (b ∷ bytes) ⊎ IsComment (b ∷ bytes) in
    let A : Bool → Type 0 = λ v. is_blank b ≡ v → P in
    let B : Bool → Type 0 = λ v. nat_eq b 35 ≡ v → is_blank b ≡ false → P in
    let comment : b ≡ 35 → P = λ e. inr (inr (bytes, ap (λ (x : ℕ). x ∷ bytes) e)) in
    let g : (v : Bool) → B v = λ v. elim v as B [ true ↦ λ e blank. comment (same_number b 35 e) | false ↦ λ e blank. inl (next_solid at b bytes blank (other_number b 35 e)) ] in
    let f : (v : Bool) → A v = λ v. elim v as A [
      | true ↦ λ e. inl (inl (record { bytes = b ∷ []; kind = None; rest = bytes; all = refl; some = omega arith; stands = Blank b bytes e }))
      | false ↦ λ e. g (nat_eq b 35) refl e
    ] in
    f (is_blank b) refl

-- what a cut of a line finds
pub record Whole (xs : List ℕ) : Type 0 where
  pub parts : List LinePart
  pub rest : List ℕ
  pub all : xs ≡ parts_text parts rest
  pub stand : AllStand parts rest
  pub ends : IsComment rest

pub record Stopped (at : ℕ) (xs : List ℕ) : Type 0 where
  pub parts : List LinePart
  pub rest : List ℕ
  pub fault : Fault
  pub all : xs ≡ parts_text parts rest
  pub stand : AllStand parts rest
  pub faulty : Faulty (at + width parts) rest fault

abbrev pub Cut : ℕ → List ℕ → Type 0
Cut at xs = Whole xs ⊎ Stopped at xs

with_next : (at : ℕ) (xs : List ℕ) (n : Next xs) → Cut (at + length n.bytes) n.rest → Cut at xs
with_next at xs n (inl w) =
    let part : LinePart = record { bytes = n.bytes; kind = n.kind } in
    inl (record {
      parts = part ∷ w.parts;
      rest = w.rest;
      all = n.all ∙ ap (λ (l : List ℕ). n.bytes ++ l) w.all;
      stand = (subst (StandsInLine n.bytes n.kind) w.all n.stands, w.stand);
      ends = w.ends;
    })
with_next at xs n (inr s) =
    let part : LinePart = record { bytes = n.bytes; kind = n.kind } in
    let sum : at + length n.bytes + width s.parts ≡ at + (length n.bytes + width s.parts) = omega arith in
    inr (record {
      parts = part ∷ s.parts;
      rest = s.rest;
      fault = s.fault;
      all = n.all ∙ ap (λ (l : List ℕ). n.bytes ++ l) s.all;
      stand = (subst (StandsInLine n.bytes n.kind) s.all n.stands, s.stand);
      faulty = subst (λ (p : ℕ). Faulty p s.rest s.fault) sum s.faulty;
    })

pub cut_line : (n at : ℕ) (xs : List ℕ) → length xs ≤ n → Cut at xs
cut_line n at [] h = inl (record { parts = []; rest = []; all = refl; stand = tt; ends = inl refl })
cut_line zero at (b ∷ bytes) h = absurd (omega (arith, h))
cut_line (suc n) at (b ∷ bytes) h =
    let xs : List ℕ = b ∷ bytes in
    elim (next at b bytes) [
      | inl found ↦ elim found [
        | inl part ↦ with_next at xs part (cut_line n (at + length part.bytes) part.rest (omega (arith, h, part.some, ap length part.all, length-append part.bytes part.rest)))
        | inr fault ↦ inr (record { parts = []; rest = xs; fault = fault.0; all = refl; stand = tt; faulty = subst (λ (p : ℕ). Faulty p xs fault.0) (sym (add-zero at)) fault.1 })
      ]
      | inr comment ↦ inl (record { parts = []; rest = xs; all = refl; stand = tt; ends = comment })
    ]
