-- The texts of a device's files are read as they are written.
use Rattle.std.proofs.Common.{◌≡◌, ℕ, suc, ◌+◌, ◌-◌, ◌<◌, ◌≤◌, inl, inr, Bool, true, false, ◌&&◌, cond, nat_eq, List, [], ◌∷◌, ◌++◌, length, take, drop, get_or, Option, Some, None, Ok, Err, refl, sym, ap, subst, ◌∙◌, append_assoc, append-nil, arith, length-append, length-drop, eq-eqb}
use Rattle.std.specs.Prelude.{codes}
use Rattle.std.proofs.lemmas.Bool.{and_parts, eqb-true}
use Rattle.std.proofs.lemmas.List.{drop_at, take-append-drop, take_all}
use Rattle.std.proofs.lemmas.Option.{none-some, same_Some}
use Rattle.std.proofs.Math.Seq.{drop-cons, drop-drop, get_or-append_seam, take-append_seam}
use Rattle.ug_types.specs.Elements.{Has}
use Rattle.ug_words.specs.declared.token.Token.{Token}
use Rattle.ug_words.specs.declared.token.TokenKind.{TokenKind}
use Rattle.ug_words.specs.declared.token.TokenKind.TheVariants as kind
use Rattle.ug_words.specs.Grammar.{AllStand, Blank, Good, InOrder, Mark, LinePart, Spells, StandsInLine, String, Word, goes_on, parts_text, tokens_placed, token_at}
use Rattle.ug_words.specs.Lexing.{Lexed, mark_token, tokens_of}
use Rattle.ug_words.proofs.Meaning.{good_read, in_order, read_good}
use Rattle.ug_steps.specs.declared.plugs.Files.{Files}
use Rattle.ug_steps.specs.LineGrammar.{AreFileWords, IsFileWord}
use Rattle.ug_steps.specs.Plugs.{file_by, plugged_file, files_by, files_in, plugged_files, fill, no_file, one_space, with_connect, with_product, with_serial}

-- ---- what a token is of

abbrev span : List ℕ → Token → List ℕ
span text token = take (token.end - token.start) (drop token.start text)

record StandsAt (text : List ℕ) (token : Token) : Type 0 where
  rest : List ℕ
  stands : StandsInLine (span text token) (Some token.kind) rest

all_stand : (text front : List ℕ) (at : ℕ) (parts : List LinePart) (rest : List ℕ) (token : Token) → length front ≡ at → text ≡ front ++ parts_text parts rest → AllStand parts rest → Has (tokens_placed at parts) token → StandsAt text token
all_stand text front at [] rest token l is stand h = absurd h
all_stand text front at (part ∷ parts) rest token l is stand h =
    by_kind part.kind stand.0 h (all_stand text (front ++ part.bytes) (at + length part.bytes) parts rest token (length-append front part.bytes ∙ ap (λ (n : ℕ). n + length part.bytes) l) (is ∙ sym (append_assoc front part.bytes (parts_text parts rest))) stand.1)
  where
    spanned : (k : TokenKind) → span text (record { kind = k; start = at; end = at + length part.bytes }) ≡ part.bytes
    spanned k =
        let n : at + length part.bytes - at ≡ length part.bytes = omega arith in
        ap (λ (m : ℕ). take m (drop at text)) n ∙ ap (λ (t : List ℕ). take (length part.bytes) (drop at t)) is
        ∙ ap (take (length part.bytes)) (drop_at front (part.bytes ++ parts_text parts rest) at l) ∙ take-append_seam part.bytes (parts_text parts rest)

    by_kind : (k : Option TokenKind) → StandsInLine part.bytes k (parts_text parts rest) → Has (token_at at part.bytes k ++ tokens_placed (at + length part.bytes) parts) token → (Has (tokens_placed (at + length part.bytes) parts) token → StandsAt text token) → StandsAt text token
    by_kind None s h behind = behind h
    by_kind (Some k) s (inl same) behind = subst (StandsAt text) same (record { rest = parts_text parts rest; stands = subst (λ (bs : List ℕ). StandsInLine bs (Some k) (parts_text parts rest)) (sym (spanned k)) s })
    by_kind (Some k) s (inr h) behind = behind h

stands_at : (text : List ℕ) (tokens : List Token) (token : Token) → Good text tokens → Has tokens token → StandsAt text token
stands_at text tokens token g h = all_stand text [] 0 g.parts g.rest token refl g.all g.stand (subst (λ (ts : List Token). Has ts token) g.says h)

other_row : (v : Bool) (here it : TokenKind) (rest : Option TokenKind) → (here ≡ it → ⊥) → (rest ≡ Some it → ⊥) → cond v (Some here) rest ≡ Some it → ⊥
other_row true here it rest h k e = h (same_Some here it e)
other_row false here it rest h k e = k e

no_mark : (b : ℕ) (text : List ℕ) → mark_token b ≡ Some (kind.Str text) → ⊥
no_mark b text h =
    other_row (nat_eq b 123) kind.Open (kind.Str text) _ (λ e. cc) (λ h.
    other_row (nat_eq b 125) kind.Close (kind.Str text) _ (λ e. cc) (λ h.
    other_row (nat_eq b 40) kind.ParenOpen (kind.Str text) _ (λ e. cc) (λ h.
    other_row (nat_eq b 41) kind.ParenClose (kind.Str text) _ (λ e. cc) (λ h.
    other_row (nat_eq b 33) kind.Bang (kind.Str text) _ (λ e. cc) (λ h. none-some (kind.Str text) h) h) h) h) h) h

record IsString (bytes text : List ℕ) : Type 0 where
  inside : List ℕ
  spells : Spells inside text
  is : bytes ≡ 34 ∷ (inside ++ 34 ∷ [])

string_so : (bytes : List ℕ) (k : Option TokenKind) (rest text : List ℕ) → StandsInLine bytes k rest → k ≡ Some (kind.Str text) → IsString bytes text
string_so bytes k rest text (Blank b r h) e = absurd (none-some (kind.Str text) e)
string_so bytes k rest text (Mark b mark r h) e = absurd (no_mark b text (h ∙ e))
string_so bytes k rest text (Word b run r each stop) e = let none : ⊥ = cc in absurd none
string_so bytes k rest text (String inside spelled r spells) e =
    let same : spelled ≡ text = cc in
    record { inside = inside; spells = subst (Spells inside) same spells; is = refl }

-- ---- from tokens to texts

dash_so : (text : List ℕ) (token : Token) (file : Option (List ℕ)) → token.start < length text → no_file text token ≡ Some file → IsFileWord file (span text token)
dash_so text token file low h = by (nat_eq (token.end - token.start) 1 && nat_eq (get_or text token.start 0) 45) refl h
  where
    by : (v : Bool) → (nat_eq (token.end - token.start) 1 && nat_eq (get_or text token.start 0) 45) ≡ v → cond v (Some None) None ≡ Some file → IsFileWord file (span text token)
    by true e k =
        let p = and_parts (nat_eq (token.end - token.start) 1) (nat_eq (get_or text token.start 0) 45) e in
        let one : token.end - token.start ≡ 1 = eqb-true (token.end - token.start) 1 p.0 in
        let dash : get_or text token.start 0 ≡ 45 = eqb-true (get_or text token.start 0) 45 p.1 in
        let is : span text token ≡ codes "-" = ap (λ (n : ℕ). take n (drop token.start text)) one ∙ ap (take 1) (drop-cons text token.start 0 low) ∙ ap (λ (b : ℕ). b ∷ []) dash in
        subst (λ (f : Option (List ℕ)). IsFileWord f (span text token)) (same_Some None file k) is
    by false e k = absurd (none-some file k)

file_so : (text : List ℕ) (token : Token) (file : Option (List ℕ)) → token.start < length text → StandsAt text token → plugged_file text token ≡ Some file → IsFileWord file (span text token)
file_so text token file low at h = by token.kind refl h
  where
    by : (k : TokenKind) → token.kind ≡ k → file_by text token k ≡ Some file → IsFileWord file (span text token)
    by kind.Word e h = dash_so text token file low h
    by (kind.Str spelled) e h =
        let s = string_so (span text token) (Some token.kind) at.rest spelled at.stands (ap Some e) in
        subst (λ (f : Option (List ℕ)). IsFileWord f (span text token)) (same_Some (Some (spelled ++ 10 ∷ [])) file h) (s.inside, spelled, s.spells, s.is, refl)
    by kind.Open e h = absurd (none-some file h)
    by kind.Close e h = absurd (none-some file h)
    by kind.ParenOpen e h = absurd (none-some file h)
    by kind.ParenClose e h = absurd (none-some file h)
    by kind.Bang e h = absurd (none-some file h)

piece : (text : List ℕ) (start end : ℕ) → start ≤ end → end < length text → get_or text end 0 ≡ 32 → drop start text ≡ take (end - start) (drop start text) ++ 32 ∷ drop (end + 1) text
piece text start end h low is =
    let n : start + (end - start) ≡ end = omega (arith, h) in
    let next : suc end ≡ end + 1 = omega arith in
    sym (take-append-drop (end - start) (drop start text))
    ∙ ap (λ (r : List ℕ). take (end - start) (drop start text) ++ r) (drop-drop (end - start) start text ∙ ap (λ (m : ℕ). drop m text) n ∙ drop-cons text end 0 low ∙ ap (λ (m : ℕ). get_or text end 0 ∷ drop m text) next ∙ ap (λ (b : ℕ). b ∷ drop (end + 1) text) is)

record IsFilled (text : List ℕ) (a b c : Token) : Type 0 where
  start : a.start ≡ 0
  first : b.start ≡ a.end + 1
  first_space : get_or text a.end 0 ≡ 32
  second : c.start ≡ b.end + 1
  second_space : get_or text b.end 0 ≡ 32
  end : c.end ≡ length text

filled_so : (text : List ℕ) (a b c : Token) → fill text a b c ≡ true → IsFilled text a b c
filled_so text a b c h =
    let p = and_parts (nat_eq a.start 0) (one_space text a b && (one_space text b c && nat_eq c.end (length text))) h in
    let q = and_parts (one_space text a b) (one_space text b c && nat_eq c.end (length text)) p.1 in
    let r = and_parts (one_space text b c) (nat_eq c.end (length text)) q.1 in
    let s = and_parts (nat_eq (b.start - a.end) 1) (nat_eq (get_or text a.end 0) 32) q.0 in
    let t = and_parts (nat_eq (c.start - b.end) 1) (nat_eq (get_or text b.end 0) 32) r.0 in
    let one : b.start - a.end ≡ 1 = eqb-true (b.start - a.end) 1 s.0 in
    let two : c.start - b.end ≡ 1 = eqb-true (c.start - b.end) 1 t.0 in
    record {
      start = eqb-true a.start 0 p.0;
      first = omega (arith, one);
      first_space = eqb-true (get_or text a.end 0) 32 s.1;
      second = omega (arith, two);
      second_space = eqb-true (get_or text b.end 0) 32 t.1;
      end = eqb-true c.end (length text) r.1;
    }

spans_so : (text : List ℕ) (a b c : Token) → IsFilled text a b c → InOrder 0 (length text) (a ∷ b ∷ c ∷ []) → text ≡ span text a ++ 32 ∷ (span text b ++ 32 ∷ span text c)
spans_so text a b c f o =
    let long_a : a.start ≤ a.end = omega (arith, o) in
    let low_a : a.end < length text = omega (arith, o, f.first) in
    let long_b : b.start ≤ b.end = omega (arith, o) in
    let low_b : b.end < length text = omega (arith, o, f.second) in
    let short : length (drop c.start text) ≤ c.end - c.start = omega (arith, length-drop c.start text, f.end) in
    let third : drop (b.end + 1) text ≡ span text c = ap (λ (n : ℕ). drop n text) (sym f.second) ∙ sym (take_all (c.end - c.start) (drop c.start text) short) in
    let second : drop (a.end + 1) text ≡ span text b ++ 32 ∷ span text c = ap (λ (n : ℕ). drop n text) (sym f.first) ∙ piece text b.start b.end long_b low_b f.second_space ∙ ap (λ (r : List ℕ). span text b ++ 32 ∷ r) third in
    let whole : text ≡ drop a.start text = ap (λ (n : ℕ). drop n text) (sym f.start) in
    whole ∙ piece text a.start a.end long_a low_a f.first_space ∙ ap (λ (r : List ℕ). span text a ++ 32 ∷ r) second

abbrev AreFiles : List ℕ → Files → Type 0
AreFiles text files = AreFileWords files.product files.serial files.connect text

three_so : (text : List ℕ) (a b c : Token) (files : Files) → IsFilled text a b c → tokens_of text ≡ Ok (a ∷ b ∷ c ∷ []) → with_product (plugged_file text a) (plugged_file text b) (plugged_file text c) ≡ Some files → AreFiles text files
three_so text a b c files f lexed h = by (plugged_file text a) (plugged_file text b) (plugged_file text c) refl refl refl h
  where
    g : Good text (a ∷ b ∷ c ∷ [])
    g = read_good text (a ∷ b ∷ c ∷ []) lexed

    o : InOrder 0 (length text) (a ∷ b ∷ c ∷ [])
    o = in_order text (a ∷ b ∷ c ∷ []) lexed

    by : (p s k : Option (Option (List ℕ))) → plugged_file text a ≡ p → plugged_file text b ≡ s → plugged_file text c ≡ k → with_product p s k ≡ Some files → AreFiles text files
    by None s k e1 e2 e3 h = absurd (none-some files h)
    by (Some p) None k e1 e2 e3 h = absurd (none-some files h)
    by (Some p) (Some s) None e1 e2 e3 h = absurd (none-some files h)
    by (Some p) (Some s) (Some k) e1 e2 e3 h = subst (AreFiles text) (same_Some (record { product = p; serial = s; connect = k }) files h) (record {
      first = span text a;
      second = span text b;
      third = span text c;
      is = spans_so text a b c f o;
      product_is = file_so text a p (omega (arith, o)) (stands_at text (a ∷ b ∷ c ∷ []) a g (inl refl)) e1;
      serial_is = file_so text b s (omega (arith, o)) (stands_at text (a ∷ b ∷ c ∷ []) b g (inr (inl refl))) e2;
      connect_is = file_so text c k (omega (arith, o)) (stands_at text (a ∷ b ∷ c ∷ []) c g (inr (inr (inl refl)))) e3;
    })

pub files_so : (text : List ℕ) (files : Files) → plugged_files text ≡ Some files → AreFiles text files
files_so text files h = by_lexed (tokens_of text) refl h
  where
    by_filled : (a b c : Token) (v : Bool) → tokens_of text ≡ Ok (a ∷ b ∷ c ∷ []) → fill text a b c ≡ v → cond v (with_product (plugged_file text a) (plugged_file text b) (plugged_file text c)) None ≡ Some files → AreFiles text files
    by_filled a b c true e f h = three_so text a b c files (filled_so text a b c f) e h
    by_filled a b c false e f h = absurd (none-some files h)

    by_tokens : (tokens : List Token) → tokens_of text ≡ Ok tokens → files_in text tokens ≡ Some files → AreFiles text files
    by_tokens [] e h = absurd (none-some files h)
    by_tokens (a ∷ []) e h = absurd (none-some files h)
    by_tokens (a ∷ b ∷ []) e h = absurd (none-some files h)
    by_tokens (a ∷ b ∷ c ∷ []) e h = by_filled a b c (fill text a b c) e refl h
    by_tokens (a ∷ b ∷ c ∷ d ∷ tokens) e h = absurd (none-some files h)

    by_lexed : (lexed : Lexed) → tokens_of text ≡ lexed → files_by text lexed ≡ Some files → AreFiles text files
    by_lexed (Ok tokens) e h = by_tokens tokens e h
    by_lexed (Err fault) e h = absurd (none-some files h)

-- ---- from texts to tokens

abbrev kind_of : (file : Option (List ℕ)) (word : List ℕ) → IsFileWord file word → TokenKind
kind_of None word h = kind.Word
kind_of (Some file) word h = kind.Str h.1

stands_so : (file : Option (List ℕ)) (word rest : List ℕ) (h : IsFileWord file word) → goes_on rest ≡ false → StandsInLine word (Some (kind_of file word h)) rest
stands_so None word rest h stop = subst (λ (w : List ℕ). StandsInLine w (Some kind.Word) rest) (sym h) (Word 45 [] rest (refl, tt) stop)
stands_so (Some file) word rest h stop = subst (λ (w : List ℕ). StandsInLine w (Some (kind.Str h.1)) rest) (sym h.3) (String h.0 h.1 rest h.2)

abbrev part_of : (file : Option (List ℕ)) (word : List ℕ) → IsFileWord file word → LinePart
part_of file word h = record { bytes = word; kind = Some (kind_of file word h) }

abbrev gap : LinePart
gap = record { bytes = 32 ∷ []; kind = None }

file_read : (text front word behind : List ℕ) (file : Option (List ℕ)) (h : IsFileWord file word) (token : Token) → text ≡ front ++ (word ++ behind) → token.kind ≡ kind_of file word h → token.start ≡ length front → token.end ≡ length front + length word → plugged_file text token ≡ Some file
file_read text front word behind None h token is k start end =
    let one : token.end - token.start ≡ 1 = omega (arith, start, end, ap length h) in
    let dash : get_or text token.start 0 ≡ 45 = ap (λ (n : ℕ). get_or text n 0) start ∙ ap (λ (t : List ℕ). get_or t (length front) 0) (is ∙ ap (λ (w : List ℕ). front ++ (w ++ behind)) h) ∙ get_or-append_seam front 45 behind 0 in
    ap (file_by text token) k ∙ rw (eq-eqb (token.end - token.start) 1 one) (rw (eq-eqb (get_or text token.start 0) 45 dash) refl)
file_read text front word behind (Some file) h token is k start end =
    ap (file_by text token) k ∙ ap (λ (f : List ℕ). Some (Some f)) (sym h.4)

pub so_files : (product serial connect : Option (List ℕ)) (text : List ℕ) → AreFileWords product serial connect text → plugged_files text ≡ Some (record { product = product; serial = serial; connect = connect })
so_files product serial connect text h =
    let k1 : TokenKind = kind_of product h.first h.product_is in
    let k2 : TokenKind = kind_of serial h.second h.serial_is in
    let k3 : TokenKind = kind_of connect h.third h.connect_is in
    let parts : List LinePart = part_of product h.first h.product_is ∷ gap ∷ part_of serial h.second h.serial_is ∷ gap ∷ part_of connect h.third h.connect_is ∷ [] in
    let l1 : ℕ = length h.first in
    let l2 : ℕ = length h.second in
    let l3 : ℕ = length h.third in
    let a : Token = record { kind = k1; start = 0; end = 0 + l1 } in
    let b : Token = record { kind = k2; start = 0 + l1 + 1; end = 0 + l1 + 1 + l2 } in
    let c : Token = record { kind = k3; start = 0 + l1 + 1 + l2 + 1; end = 0 + l1 + 1 + l2 + 1 + l3 } in
    let all : text ≡ parts_text parts [] = h.is ∙ ap (λ (t : List ℕ). h.first ++ 32 ∷ (h.second ++ 32 ∷ t)) (sym (append-nil h.third)) in
    let good : Good text (a ∷ b ∷ c ∷ []) = record {
      parts = parts;
      rest = [];
      all = all;
      stand = (stands_so product h.first _ h.product_is refl, (Blank 32 _ refl, (stands_so serial h.second _ h.serial_is refl, (Blank 32 _ refl, (stands_so connect h.third [] h.connect_is refl, tt)))));
      ends = inl refl;
      says = refl;
    } in
    let front2 : List ℕ = h.first ++ 32 ∷ [] in
    let front3 : List ℕ = h.first ++ 32 ∷ (h.second ++ 32 ∷ []) in
    let is2 : text ≡ front2 ++ (h.second ++ 32 ∷ h.third) = h.is ∙ sym (append_assoc h.first (32 ∷ []) (h.second ++ 32 ∷ h.third)) in
    let is3 : text ≡ front3 ++ (h.third ++ []) =
    h.is ∙ ap (λ (t : List ℕ). h.first ++ 32 ∷ t) (ap (λ (t : List ℕ). h.second ++ 32 ∷ t) (sym (append-nil h.third)) ∙ sym (append_assoc h.second (32 ∷ []) (h.third ++ []))) ∙ sym (append_assoc h.first (32 ∷ (h.second ++ 32 ∷ [])) (h.third ++ [])) in
    let long2 : length front2 ≡ l1 + 1 = length-append h.first (32 ∷ []) in
    let long3 : length front3 ≡ l1 + 1 + l2 + 1 = (let m = length-append h.first (32 ∷ (h.second ++ 32 ∷ [])) in let n = length-append h.second (32 ∷ []) in omega (arith, m, n)) in
    let long : length text ≡ l1 + 1 + l2 + 1 + l3 = (let m = ap length is3 in let n = length-append front3 (h.third ++ []) in let p = ap length (append-nil h.third) in omega (arith, m, n, p, long3)) in
    let same1 : 0 + l1 ≡ l1 = omega arith in
    let space1 : get_or text (0 + l1) 0 ≡ 32 = ap (λ (n : ℕ). get_or text n 0) same1 ∙ ap (λ (t : List ℕ). get_or t l1 0) h.is ∙ get_or-append_seam h.first 32 (h.second ++ 32 ∷ h.third) 0 in
    let space2 : get_or text (0 + l1 + 1 + l2) 0 ≡ 32 = spaced h.first h.second h.third text h.is in
    let f1 : plugged_file text a ≡ Some product = file_read text [] h.first (32 ∷ (h.second ++ 32 ∷ h.third)) product h.product_is a h.is refl refl refl in
    let f2 : plugged_file text b ≡ Some serial = file_read text front2 h.second (32 ∷ h.third) serial h.serial_is b is2 refl (omega (arith, long2)) (omega (arith, long2)) in
    let f3 : plugged_file text c ≡ Some connect = file_read text front3 h.third [] connect h.connect_is c is3 refl (omega (arith, long3)) (omega (arith, long3)) in
    let whole : 0 + l1 + 1 + l2 + 1 + l3 ≡ length text = omega (arith, long) in
    let fits : fill text a b c ≡ true = filled text a b c (record { start = refl; first = refl; first_space = space1; second = refl; second_space = space2; end = whole }) in
    ap (files_by text) (good_read text (a ∷ b ∷ c ∷ []) good)
    ∙ ap (λ (v : Bool). cond v (with_product (plugged_file text a) (plugged_file text b) (plugged_file text c)) None) fits
    ∙ ap (λ (o : Option (Option (List ℕ))). with_product o (plugged_file text b) (plugged_file text c)) f1
    ∙ ap (λ (o : Option (Option (List ℕ))). with_serial product o (plugged_file text c)) f2
    ∙ ap (λ (o : Option (Option (List ℕ))). with_connect product serial o) f3
  where
    spaced : (first second third text : List ℕ) → text ≡ first ++ 32 ∷ (second ++ 32 ∷ third) → get_or text (0 + length first + 1 + length second) 0 ≡ 32
    spaced first second third text is =
        let front : List ℕ = first ++ 32 ∷ second in
        let n : 0 + length first + 1 + length second ≡ length front = (let m = length-append first (32 ∷ second) in omega (arith, m)) in
        let split : text ≡ front ++ 32 ∷ third = is ∙ sym (append_assoc first (32 ∷ second) (32 ∷ third)) in
        ap (λ (m : ℕ). get_or text m 0) n ∙ ap (λ (t : List ℕ). get_or t (length front) 0) split ∙ get_or-append_seam front 32 third 0

    filled : (text : List ℕ) (a b c : Token) → IsFilled text a b c → fill text a b c ≡ true
    filled text a b c f =
        let one : b.start - a.end ≡ 1 = omega (arith, f.first) in
        let two : c.start - b.end ≡ 1 = omega (arith, f.second) in
        rw (eq-eqb a.start 0 f.start) (rw (eq-eqb (b.start - a.end) 1 one) (rw (eq-eqb (get_or text a.end 0) 32 f.first_space) (rw (eq-eqb (c.start - b.end) 1 two) (rw (eq-eqb (get_or text b.end 0) 32 f.second_space) (rw (eq-eqb c.end (length text) f.end) refl)))))
