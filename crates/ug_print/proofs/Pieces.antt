-- Texts as tokens that have no place yet, and the tokens of a line that they become.
use Rattle.std.proofs.Common.{◌≡◌, ℕ, ◌+◌, ◌-◌, inl, false, List, [], ◌∷◌, ◌++◌, length, length-append, take, Option, None, Some, refl, sym, ap, subst, ◌∙◌, arith, append_assoc, flat_map}
use Rattle.std.specs.List.{AllByRecursion}
use Rattle.std.proofs.lemmas.List.{append-nil}
use Rattle.std.proofs.Math.Seq.{drop-append_seam, take-append_seam}
use Rattle.ug_words.specs.declared.token.Token.{Token}
use Rattle.ug_words.specs.declared.token.TokenKind.{TokenKind}
use Rattle.ug_words.specs.declared.token.TokenKind.TheVariants as kind
use Rattle.ug_words.specs.Lexing.{mark_token}
use Rattle.ug_words.specs.Grammar.{AllStand, Good, IsWordByte, LinePart, Spells, StandsInLine, Blank, Mark, Word, String, goes_on, parts_text, tokens_placed, token_at}
use Rattle.ug_rule.specs.Tokens.{word_by, word_of}
use Rattle.ug_print.specs.Words.{spaced}
use Rattle.ug_print.specs.Words as words

-- a token's kind, and its bytes if it is a word
pub record Piece : Type 0 where
  pub kind : TokenKind
  pub word : List ℕ

abbrev pub bytes_by : TokenKind → List ℕ → List ℕ
bytes_by kind.Word bytes = bytes
bytes_by (kind.Str text) bytes = []
bytes_by kind.Open bytes = []
bytes_by kind.Close bytes = []
bytes_by kind.ParenOpen bytes = []
bytes_by kind.ParenClose bytes = []
bytes_by kind.Bang bytes = []

abbrev pub piece_at : List ℕ → Option TokenKind → List Piece
piece_at bytes None = []
piece_at bytes (Some kind) = record { kind = kind; word = bytes_by kind bytes } ∷ []

abbrev pub pieces_of : List LinePart → List Piece
pieces_of [] = []
pieces_of (part ∷ parts) = piece_at part.bytes part.kind ++ pieces_of parts

-- the token of a line is the piece
pub record IsPiece (line : List ℕ) (piece : Piece) (token : Token) : Type 0 where
  pub kind : token.kind ≡ piece.kind
  pub word : word_of line token ≡ piece.word

pub record Begins (line : List ℕ) (piece : Piece) (tokens : List Token) (Behind : List Token → Type 0) : Type 0 where
  pub token : Token
  pub rest : List Token
  pub cut : tokens ≡ token ∷ rest
  pub is : IsPiece line piece token
  pub behind : Behind rest

-- the tokens of a line are the pieces
abbrev pub ArePieces : List ℕ → List Piece → List Token → Type 0
ArePieces line [] tokens = tokens ≡ []
ArePieces line (piece ∷ pieces) tokens = Begins line piece tokens (ArePieces line pieces)

-- ---- where pieces stand

word_at : (kind : TokenKind) (before bytes rest : List ℕ) → word_by (before ++ (bytes ++ rest)) kind (length before) (length before + length bytes) ≡ bytes_by kind bytes
word_at kind.Word before bytes rest =
    let n : length before + length bytes - length before ≡ length bytes = omega arith in
    ap (λ (l : List ℕ). take (length before + length bytes - length before) l) (drop-append_seam before (bytes ++ rest))
    ∙ ap (λ (k : ℕ). take k (bytes ++ rest)) n
    ∙ take-append_seam bytes rest
word_at (kind.Str text) before bytes rest = refl
word_at kind.Open before bytes rest = refl
word_at kind.Close before bytes rest = refl
word_at kind.ParenOpen before bytes rest = refl
word_at kind.ParenClose before bytes rest = refl
word_at kind.Bang before bytes rest = refl

one_piece : (line before bytes rest : List ℕ) (kind : Option TokenKind) (pieces : List Piece) (tokens : List Token) → line ≡ before ++ (bytes ++ rest) → ArePieces line pieces tokens → ArePieces line (piece_at bytes kind ++ pieces) (token_at (length before) bytes kind ++ tokens)
one_piece line before bytes rest None pieces tokens e a = a
one_piece line before bytes rest (Some kind) pieces tokens e a = record {
  token = record { kind = kind; start = length before; end = length before + length bytes };
  rest = tokens;
  cut = refl;
  is = record { kind = refl; word = ap (λ (l : List ℕ). word_by l kind (length before) (length before + length bytes)) e ∙ word_at kind before bytes rest };
  behind = a;
}

pub all_pieces : (line before rest : List ℕ) (at : ℕ) (parts : List LinePart) → length before ≡ at → line ≡ before ++ parts_text parts rest → ArePieces line (pieces_of parts) (tokens_placed at parts)
all_pieces line before rest at [] l e = refl
all_pieces line before rest at (part ∷ parts) l e =
    let next : List ℕ = before ++ part.bytes in
    let long : length next ≡ at + length part.bytes = omega (arith, l, length-append before part.bytes) in
    let more : ArePieces line (pieces_of parts) (tokens_placed (at + length part.bytes) parts) = all_pieces line next rest (at + length part.bytes) parts long (e ∙ sym (append_assoc before part.bytes (parts_text parts rest))) in
    let one : ArePieces line (piece_at part.bytes part.kind ++ pieces_of parts) (token_at (length before) part.bytes part.kind ++ tokens_placed (at + length part.bytes) parts) = one_piece line before part.bytes (parts_text parts rest) part.kind (pieces_of parts) (tokens_placed (at + length part.bytes) parts) e more in
    subst (λ (n : ℕ). ArePieces line (piece_at part.bytes part.kind ++ pieces_of parts) (token_at n part.bytes part.kind ++ tokens_placed (at + length part.bytes) parts)) l one

-- ---- texts cut into pieces

-- a text that is these pieces, before anything that doesn't go on a word
pub record Cut (text : List ℕ) (pieces : List Piece) : Type 0 where
  pub parts : List LinePart
  pub all : (rest : List ℕ) → text ++ rest ≡ parts_text parts rest
  pub stand : (rest : List ℕ) → goes_on rest ≡ false → AllStand parts rest
  pub is : pieces ≡ pieces_of parts

abbrev pub blank_part : LinePart
blank_part = record { bytes = 32 ∷ []; kind = None }

-- the whole line
pub record Whole (line : List ℕ) (pieces : List Piece) : Type 0 where
  pub tokens : List Token
  pub good : Good line tokens
  pub are : ArePieces line pieces tokens

pub whole : (line : List ℕ) (pieces : List Piece) → Cut line pieces → Whole line pieces
whole line pieces c =
    let e : line ≡ parts_text c.parts [] = sym (append-nil line) ∙ c.all [] in
    record {
      tokens = tokens_placed 0 c.parts;
      good = record { parts = c.parts; rest = []; all = e; stand = c.stand [] refl; ends = inl refl; says = refl };
      are = subst (λ (p : List Piece). ArePieces line p (tokens_placed 0 c.parts)) (sym c.is) (all_pieces line [] [] 0 c.parts refl e);
    }

pub no_text : Cut [] []
no_text = record { parts = []; all = λ rest. refl; stand = λ rest h. tt; is = refl }

-- what stands before anything
pub single : (bytes : List ℕ) (kind : Option TokenKind) → ((rest : List ℕ) → goes_on rest ≡ false → StandsInLine bytes kind rest) → Cut bytes (piece_at bytes kind)
single bytes kind h = record {
  parts = record { bytes = bytes; kind = kind } ∷ [];
  all = λ rest. refl;
  stand = λ rest g. (h rest g, tt);
  is = sym (append-nil (piece_at bytes kind));
}

abbrev pub word_piece : List ℕ → Piece
word_piece word = record { kind = kind.Word; word = word }

abbrev pub IsWord : List ℕ → Type 0
IsWord [] = ⊥
IsWord (b ∷ run) = AllByRecursion IsWordByte (b ∷ run)

pub one_word : (word : List ℕ) → IsWord word → Cut word (word_piece word ∷ [])
one_word [] h = absurd h
one_word (b ∷ run) h = single (b ∷ run) (Some kind.Word) (λ rest g. Word b run rest h g)

pub one_string : (inside text : List ℕ) → Spells inside text → Cut (34 ∷ (inside ++ 34 ∷ [])) (record { kind = kind.Str text; word = [] } ∷ [])
one_string inside text s = single (34 ∷ (inside ++ 34 ∷ [])) (Some (kind.Str text)) (λ rest g. String inside text rest s)

pub one_mark : (b : ℕ) (mark : TokenKind) → mark_token b ≡ Some mark → Cut (b ∷ []) (record { kind = mark; word = bytes_by mark (b ∷ []) } ∷ [])
one_mark b mark h = single (b ∷ []) (Some mark) (λ rest g. Mark b mark rest h)

-- what doesn't go on a word, whatever stands behind it
abbrev pub StopsWord : List ℕ → Type 0
StopsWord text = (rest : List ℕ) → goes_on rest ≡ false → goes_on (text ++ rest) ≡ false

joined-append : (a b : List LinePart) (rest : List ℕ) → parts_text (a ++ b) rest ≡ parts_text a (parts_text b rest)
joined-append [] b rest = refl
joined-append (part ∷ a) b rest = ap (λ (l : List ℕ). part.bytes ++ l) (joined-append a b rest)

pieces-append : (a b : List LinePart) → pieces_of (a ++ b) ≡ pieces_of a ++ pieces_of b
pieces-append [] b = refl
pieces-append (part ∷ a) b = ap (λ (l : List Piece). piece_at part.bytes part.kind ++ l) (pieces-append a b) ∙ sym (append_assoc (piece_at part.bytes part.kind) (pieces_of a) (pieces_of b))

stand-append : (a b : List LinePart) (rest : List ℕ) → AllStand a (parts_text b rest) → AllStand b rest → AllStand (a ++ b) rest
stand-append [] b rest s t = t
stand-append (part ∷ a) b rest s t = (subst (λ (l : List ℕ). StandsInLine part.bytes part.kind l) (sym (joined-append a b rest)) s.0, stand-append a b rest s.1 t)

-- one text behind another that a word doesn't go on from
pub behind : (a b : List ℕ) (p q : List Piece) → Cut a p → Cut b q → StopsWord b → Cut (a ++ b) (p ++ q)
behind a b p q c d stops = record {
  parts = c.parts ++ d.parts;
  all = λ rest. append_assoc a b rest ∙ c.all (b ++ rest) ∙ ap (parts_text c.parts) (d.all rest) ∙ sym (joined-append c.parts d.parts rest);
  stand = λ rest g. stand-append c.parts d.parts rest (c.stand (parts_text d.parts rest) (ap goes_on (sym (d.all rest)) ∙ stops rest g)) (d.stand rest g);
  is = ap (λ (l : List Piece). l ++ q) c.is ∙ ap (λ (l : List Piece). pieces_of c.parts ++ l) d.is ∙ sym (pieces-append c.parts d.parts);
}

-- a mark before any text
pub mark_before : (b : ℕ) (mark : TokenKind) (text : List ℕ) (q : List Piece) → mark_token b ≡ Some mark → Cut text q → Cut (b ∷ text) (record { kind = mark; word = bytes_by mark (b ∷ []) } ∷ q)
mark_before b mark text q h d = record {
  parts = record { bytes = b ∷ []; kind = Some mark } ∷ d.parts;
  all = λ rest. ap (λ (l : List ℕ). b ∷ l) (d.all rest);
  stand = λ rest g. (Mark b mark (parts_text d.parts rest) h, d.stand rest g);
  is = ap (λ (l : List Piece). record { kind = mark; word = bytes_by mark (b ∷ []) } ∷ l) d.is;
}

blank_before : (text : List ℕ) (q : List Piece) → Cut text q → Cut (32 ∷ text) q
blank_before text q d = record {
  parts = blank_part ∷ d.parts;
  all = λ rest. ap (λ (l : List ℕ). 32 ∷ l) (d.all rest);
  stand = λ rest g. (Blank 32 (parts_text d.parts rest) refl, d.stand rest g);
  is = d.is;
}

-- ---- words

pub record CutFirst (word : List ℕ) (pieces : List Piece) (Behind : List Piece → Type 0) : Type 0 where
  pub front : List Piece
  pub back : List Piece
  pub word_cut : Cut word front
  pub behind_cut : Behind back
  pub is : pieces ≡ front ++ back

-- the words are these pieces, one word behind another
abbrev pub CutAll : List (List ℕ) → List Piece → Type 0
CutAll [] pieces = pieces ≡ []
CutAll (word ∷ words) pieces = CutFirst word pieces (CutAll words)

pub cut-append : (ws vs : List (List ℕ)) (p q : List Piece) → CutAll ws p → CutAll vs q → CutAll (ws ++ vs) (p ++ q)
cut-append [] vs p q c d = subst (λ (l : List Piece). CutAll vs (l ++ q)) (sym c) d
cut-append (w ∷ ws) vs p q c d = record {
  front = c.front;
  back = c.back ++ q;
  word_cut = c.word_cut;
  behind_cut = cut-append ws vs c.back q c.behind_cut d;
  is = ap (λ (l : List Piece). l ++ q) c.is ∙ append_assoc c.front c.back q;
}

pub cut_word : (word : List ℕ) (words : List (List ℕ)) (p q : List Piece) → Cut word p → CutAll words q → CutAll (word ∷ words) (p ++ q)
cut_word word words p q c d = record { front = p; back = q; word_cut = c; behind_cut = d; is = refl }

spaced_stop : (words : List (List ℕ)) → StopsWord (flat_map spaced words)
spaced_stop [] rest h = h
spaced_stop (w ∷ words) rest h = refl

spaced_cut : (words : List (List ℕ)) (pieces : List Piece) → CutAll words pieces → Cut (flat_map spaced words) pieces
spaced_cut [] pieces c = subst (Cut []) (sym c) no_text
spaced_cut (w ∷ words) pieces c =
    subst (Cut (spaced w ++ flat_map spaced words)) (sym c.is) (behind (spaced w) (flat_map spaced words) c.front c.back (blank_before w c.front c.word_cut) (spaced_cut words c.back c.behind_cut) (spaced_stop words))

-- words with one space between them
pub joined_cut : (ws : List (List ℕ)) (pieces : List Piece) → CutAll ws pieces → Cut (words.joined ws) pieces
joined_cut [] pieces c = subst (Cut []) (sym c) no_text
joined_cut (w ∷ ws) pieces c =
    subst (Cut (w ++ flat_map spaced ws)) (sym c.is) (behind w (flat_map spaced ws) c.front c.back c.word_cut (spaced_cut ws c.back c.behind_cut) (spaced_stop ws))
