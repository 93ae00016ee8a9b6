-- One step of the reading.
use Rattle.std.proofs.Common.{◌≡◌, ℕ, zero, suc, ◌+◌, ◌-◌, ◌<◌, ◌≤◌, List, [], ◌∷◌, ◌++◌, length, take, drop, slice_index, Result, Ok, Err, IsErrAnd, refl, sym, ap, subst, ◌∙◌, arith, add-zero, length-drop, append_assoc}
use Rattle.std.proofs.lemmas.List.{take_all, drop_all, drop-drop, drop_more}
use Rattle.ug_words.specs.declared.pieces.Front.{Front}
use Rattle.ug_words.specs.declared.pieces.Front.TheVariants.{Piece}
use Rattle.ug_words.specs.declared.pieces.Inner.{Inner}
use Rattle.ug_words.specs.declared.pieces.Quoted.{Quoted}
use Rattle.ug_words.specs.declared.fault.LexFault.{LexFault}
use Rattle.ug_words.specs.declared.fault.LexFault.TheVariants as lex
use Rattle.ug_words.specs.declared.token.Token.{Token}
use Rattle.ug_words.specs.declared.token.TokenKind.{TokenKind}
use Rattle.ug_words.specs.Lexing.{Fault, BadEscape, OpenString, BadByte, AnswersTokens, Lexed, before_rest, front_of, inner_of, led_by, more_of, passed_by, quoted_from, spelled, tokens_from, within_string}

abbrev pub rest_at : ℕ → List ℕ → List ℕ
rest_at at bytes = take (length bytes - at) (drop at bytes)

pub rest_is : (at : ℕ) (bytes : List ℕ) → rest_at at bytes ≡ drop at bytes
rest_is at bytes = take_all (length bytes - at) (drop at bytes) (omega (arith, length-drop at bytes))

pub rest_length : (at : ℕ) (line : List ℕ) → length (rest_at at line) ≡ length line - at
rest_length at line = ap length (rest_is at line) ∙ length-drop at line

one_more : (k b : ℕ) (bytes : List ℕ) → drop k bytes ≡ drop (1 + k) (b ∷ bytes)
one_more k b bytes = let e : suc k ≡ 1 + k = omega arith in ap (λ (n : ℕ). drop n (b ∷ bytes)) e

-- a fault is handed on
pub handed_on : {X Y : Type 0} (e : LexFault) (read : Result X Fault) (whole : Result Y Fault) → ((fault : Fault) → read ≡ Err fault → whole ≡ Err fault) → AnswersTokens {X = X} (Err e) read → AnswersTokens {X = Y} (Err e) whole
handed_on (lex.BadEscape place) read whole h a = h (BadEscape place) a
handed_on (lex.OpenString place) read whole h a = h (OpenString place) a
handed_on (lex.BadByte place) read whole h a = h (BadByte place) a
handed_on lex.Memory read whole h a = tt

pub handed_over : {X Y : Type 0} (answer : Result Y LexFault) (e : LexFault) (read : Result X Fault) (whole : Result Y Fault) → IsErrAnd answer (λ f. f ≡ e) → ((fault : Fault) → read ≡ Err fault → whole ≡ Err fault) → AnswersTokens {X = X} (Err e) read → AnswersTokens answer whole
handed_over (Ok value) e read whole same h a = absurd same
handed_over {Y = Y} (Err f) e read whole same h a = subst (λ (g : LexFault). AnswersTokens {X = Y} (Err g) whole) (sym same) (handed_on e read whole h a)

-- the byte that stands at a place
pub opened : (line : List ℕ) (at : ℕ) → at < length line → drop at line ≡ slice_index line at ∷ drop (at + 1) line
opened line at h = drop_more line at 0 h

-- bytes of a string are passed over
pub string_passed : (opening at k : ℕ) (xs : List ℕ) → k ≤ length xs → quoted_from opening at k xs ≡ quoted_from opening (at + k) 0 (drop k xs)
unfolding quoted_from
string_passed opening at zero xs h = ap (λ (p : ℕ). quoted_from opening p 0 xs) (sym (add-zero at))
string_passed opening at (suc k) [] h = absurd (omega (arith, h))
string_passed opening at (suc k) (b ∷ bytes) h =
    let e : at + 1 + k ≡ at + suc k = omega arith in
    string_passed opening (at + 1) k bytes (omega (arith, h)) ∙ ap (λ (p : ℕ). quoted_from opening p 0 (drop k bytes)) e

-- what stands at the front of a string's rest decides
pub string_step : (opening at : ℕ) (inner : Inner) (xs : List ℕ) → 0 < length xs → inner_of xs ≡ inner → more_of inner < length xs → quoted_from opening at 0 xs ≡ within_string opening at inner (quoted_from opening (at + 1 + more_of inner) 0 (drop (1 + more_of inner) xs))
unfolding quoted_from
string_step opening at inner [] h e m = absurd (omega (arith, h))
string_step opening at inner (b ∷ bytes) h e m =
    ap (λ (i : Inner). within_string opening at i (quoted_from opening (at + 1) (more_of i) bytes)) e
    ∙ ap (within_string opening at inner) (string_passed opening (at + 1) (more_of inner) bytes (omega (arith, m)) ∙ ap (λ (d : List ℕ). quoted_from opening (at + 1 + more_of inner) 0 d) (one_more (more_of inner) b bytes))

pub string_at : (opening at : ℕ) (inner : Inner) (line : List ℕ) → at < length line → inner_of (drop at line) ≡ inner → at + more_of inner < length line → quoted_from opening at 0 (drop at line) ≡ within_string opening at inner (quoted_from opening (at + (1 + more_of inner)) 0 (drop (at + (1 + more_of inner)) line))
string_at opening at inner line h e m =
    let sum : at + 1 + more_of inner ≡ at + (1 + more_of inner) = omega arith in
    string_step opening at inner (drop at line) (omega (arith, length-drop at line)) e (omega (arith, length-drop at line))
    ∙ ap (λ (d : List ℕ). within_string opening at inner (quoted_from opening (at + 1 + more_of inner) 0 d)) (drop-drop (1 + more_of inner) at line)
    ∙ ap (λ (p : ℕ). within_string opening at inner (quoted_from opening p 0 (drop (at + (1 + more_of inner)) line))) sum

pub string_end : (opening at : ℕ) (line : List ℕ) → length line ≤ at → quoted_from opening at 0 (drop at line) ≡ Err (OpenString opening)
unfolding quoted_from
string_end opening at line h = ap (quoted_from opening at 0) (drop_all at line h)

-- a string of which some was read
abbrev pub grown : List ℕ → ℕ → Result Quoted Fault → Result Quoted Fault
grown text more (Ok quoted) = Ok (record { text = text ++ quoted.text; more = more + quoted.more })
grown text more (Err fault) = Err fault

pub grown-spelled : (text : List ℕ) (before_rest value more : ℕ) (rest : Result Quoted Fault) → grown text before_rest (spelled value more rest) ≡ grown (text ++ value ∷ []) (before_rest + (1 + more)) rest
grown-spelled text before_rest value more (Ok quoted) =
    let sum : before_rest + (1 + more + quoted.more) ≡ before_rest + (1 + more) + quoted.more = omega arith in
    let all : text ++ value ∷ quoted.text ≡ (text ++ value ∷ []) ++ quoted.text = sym (append_assoc text (value ∷ []) quoted.text) in
    λ i. Ok (record { text = all i; more = sum i })
grown-spelled text before_rest value more (Err fault) = refl

-- the string, by what stands at the front of what is left of it
pub string_turn : (line : List ℕ) (opening at : ℕ) (text : List ℕ) (inner : Inner) (whole : Result Quoted Fault) → at < length line → grown text (at - (opening + 1)) (quoted_from opening at 0 (drop at line)) ≡ whole → inner ≡ inner_of (rest_at at line) → (0 < length (rest_at at line) → more_of inner < length (rest_at at line)) → whole ≡ grown text (at - (opening + 1)) (within_string opening at inner (quoted_from opening (at + (1 + more_of inner)) 0 (drop (at + (1 + more_of inner)) line)))
string_turn line opening at text inner whole h w i m =
    let same : rest_at at line ≡ drop at line = rest_is at line in
    let long : length (rest_at at line) ≡ length line - at = rest_length at line in
    sym w ∙ ap (grown text (at - (opening + 1))) (string_at opening at inner line h (ap inner_of (sym same) ∙ sym i) (omega (arith, long, m (omega (arith, long)))))

pub string_more : (line : List ℕ) (opening at : ℕ) (text : List ℕ) (value more : ℕ) (whole : Result Quoted Fault) → opening < at → whole ≡ grown text (at - (opening + 1)) (spelled value more (quoted_from opening (at + (1 + more)) 0 (drop (at + (1 + more)) line))) → grown (text ++ value ∷ []) (at + (1 + more) - (opening + 1)) (quoted_from opening (at + (1 + more)) 0 (drop (at + (1 + more)) line)) ≡ whole
string_more line opening at text value more whole h w =
    let rest : Result Quoted Fault = quoted_from opening (at + (1 + more)) 0 (drop (at + (1 + more)) line) in
    let sum : at - (opening + 1) + (1 + more) ≡ at + (1 + more) - (opening + 1) = omega arith in
    sym (w ∙ grown-spelled text (at - (opening + 1)) value more rest ∙ ap (λ (n : ℕ). grown (text ++ value ∷ []) n rest) sum)

-- bytes of a line are passed over
pub line_passed : (at k : ℕ) (xs : List ℕ) → k ≤ length xs → tokens_from at k xs ≡ tokens_from (at + k) 0 (drop k xs)
unfolding tokens_from
line_passed at zero xs h = ap (λ (p : ℕ). tokens_from p 0 xs) (sym (add-zero at))
line_passed at (suc k) [] h = absurd (omega (arith, h))
line_passed at (suc k) (b ∷ bytes) h =
    let e : at + 1 + k ≡ at + suc k = omega arith in
    line_passed (at + 1) k bytes (omega (arith, h)) ∙ ap (λ (p : ℕ). tokens_from p 0 (drop k bytes)) e

-- what stands at the front of a line's rest decides
pub line_step : (at : ℕ) (front : Result Front Fault) (xs : List ℕ) → 0 < length xs → front_of at xs ≡ front → passed_by front < length xs → tokens_from at 0 xs ≡ before_rest at front (tokens_from (at + 1 + passed_by front) 0 (drop (1 + passed_by front) xs))
unfolding tokens_from
line_step at front [] h e m = absurd (omega (arith, h))
line_step at front (b ∷ bytes) h e m =
    ap (λ (f : Result Front Fault). before_rest at f (tokens_from (at + 1) (passed_by f) bytes)) e
    ∙ ap (before_rest at front) (line_passed (at + 1) (passed_by front) bytes (omega (arith, m)) ∙ ap (λ (d : List ℕ). tokens_from (at + 1 + passed_by front) 0 d) (one_more (passed_by front) b bytes))

pub line_at : (at : ℕ) (front : Result Front Fault) (line : List ℕ) → at < length line → front_of at (drop at line) ≡ front → at + passed_by front < length line → tokens_from at 0 (drop at line) ≡ before_rest at front (tokens_from (at + (1 + passed_by front)) 0 (drop (at + (1 + passed_by front)) line))
line_at at front line h e m =
    let sum : at + 1 + passed_by front ≡ at + (1 + passed_by front) = omega arith in
    line_step at front (drop at line) (omega (arith, length-drop at line)) e (omega (arith, length-drop at line))
    ∙ ap (λ (d : List ℕ). before_rest at front (tokens_from (at + 1 + passed_by front) 0 d)) (drop-drop (1 + passed_by front) at line)
    ∙ ap (λ (p : ℕ). before_rest at front (tokens_from p 0 (drop (at + (1 + passed_by front)) line))) sum

pub line_end : (at : ℕ) (line : List ℕ) → length line ≤ at → tokens_from at 0 (drop at line) ≡ Ok []
unfolding tokens_from
line_end at line h = ap (tokens_from at 0) (drop_all at line h)

-- a line of which some tokens were read
abbrev pub behind : List Token → Lexed → Lexed
behind tokens (Ok rest) = Ok (tokens ++ rest)
behind tokens (Err fault) = Err fault

pub behind-led_by : (tokens : List Token) (token : Token) (rest : Lexed) → behind tokens (led_by token rest) ≡ behind (tokens ++ token ∷ []) rest
behind-led_by tokens token (Ok rest) = ap (λ (l : List Token). Ok l) (sym (append_assoc tokens (token ∷ []) rest))
behind-led_by tokens token (Err fault) = refl

-- the line, by what stands at the front of what is left of it
pub line_turn : (line : List ℕ) (at : ℕ) (tokens : List Token) (front : Result Front Fault) (whole : Lexed) → at < length line → behind tokens (tokens_from at 0 (drop at line)) ≡ whole → front_of at (drop at line) ≡ front → at + passed_by front < length line → whole ≡ behind tokens (before_rest at front (tokens_from (at + (1 + passed_by front)) 0 (drop (at + (1 + passed_by front)) line)))
line_turn line at tokens front whole h w e m = sym w ∙ ap (behind tokens) (line_at at front line h e m)

pub line_more : (line : List ℕ) (at : ℕ) (tokens : List Token) (kind : TokenKind) (more : ℕ) (whole : Lexed) → at < length line → behind tokens (tokens_from at 0 (drop at line)) ≡ whole → front_of at (drop at line) ≡ Ok (Piece kind more) → at + more < length line → behind (tokens ++ record { kind = kind; start = at; end = at + (1 + more) } ∷ []) (tokens_from (at + (1 + more)) 0 (drop (at + (1 + more)) line)) ≡ whole
line_more line at tokens kind more whole h w e m =
    let rest : Lexed = tokens_from (at + (1 + more)) 0 (drop (at + (1 + more)) line) in
    let sum : at + 1 + more ≡ at + (1 + more) = omega arith in
    let token : ℕ → Token = λ n. record { kind = kind; start = at; end = n } in
    sym (line_turn line at tokens (Ok (Piece kind more)) whole h w e m ∙ behind-led_by tokens (token (at + 1 + more)) rest ∙ ap (λ (n : ℕ). behind (tokens ++ token n ∷ []) rest) sum)
