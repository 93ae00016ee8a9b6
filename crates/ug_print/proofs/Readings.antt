-- What pieces are read as, and sets in braces.
use Rattle.std.proofs.Common.{◌≡◌, ℕ, Bool, true, false, ◌&&◌, List, [], ◌∷◌, ◌++◌, codes, Some, refl, ap, subst, ◌∙◌, append_assoc}
use Rattle.std.specs.List.{AllByRecursion, list_all}
use Rattle.ug_words.specs.declared.token.Token.{Token}
use Rattle.ug_words.specs.declared.token.TokenKind.TheVariants as kind
use Rattle.ug_words.specs.Lexing.{is_word_byte}
use Rattle.ug_words.specs.Grammar.{IsWordByte}
use Rattle.ug_types.specs.declared.rule.Op.{Op}
use Rattle.ug_words.specs.Keywords.{operator_of}
use Rattle.ug_rule.specs.Queries.{has_colon}
use Rattle.ug_rule.specs.Tokens.{word_of, first_word, is_open, is_paren_open, starts_with_paren}
use Rattle.ug_print.proofs.Pieces.{Piece, IsPiece, ArePieces, CutAll, IsWord, cut-append, cut_word, one_mark, one_word, word_piece}

-- ---- words of known bytes

all_bytes : (word : List ℕ) → list_all is_word_byte word ≡ true → AllByRecursion IsWordByte word
all_bytes [] h = tt
all_bytes (b ∷ word) h = (first (is_word_byte b) (list_all is_word_byte word) h, all_bytes word (second (is_word_byte b) (list_all is_word_byte word) h))
  where
    first : (p q : Bool) → (p && q) ≡ true → p ≡ true
    first true q h = refl
    first false q h = h

    second : (p q : Bool) → (p && q) ≡ true → q ≡ true
    second true q h = h
    second false q h = let none : ⊥ = cc in absurd none

abbrev pub is_known : List ℕ → Bool
is_known [] = false
is_known (b ∷ run) = list_all is_word_byte (b ∷ run)

pub known_word : (word : List ℕ) → is_known word ≡ true → IsWord word
known_word [] h = let none : ⊥ = cc in absurd none
known_word (b ∷ run) h = all_bytes (b ∷ run) h

-- ---- readings

abbrev first_piece : List Piece → List ℕ
first_piece [] = []
first_piece (piece ∷ pieces) = piece.word

abbrev is_argument : List Piece → Bool
is_argument [] = false
is_argument (piece ∷ pieces) = is_paren_open piece.kind

-- no id and no argument stands in front
pub record Leads (pieces : List Piece) : Type 0 where
  pub colon : has_colon (first_piece pieces) ≡ false
  pub paren : is_argument pieces ≡ false

pub word_leads : (line : List ℕ) (pieces : List Piece) (tokens : List Token) → Leads pieces → ArePieces line pieces tokens → has_colon (first_word line tokens) ≡ false
word_leads line [] tokens l a = ap (λ (t : List Token). has_colon (first_word line t)) a
word_leads line (piece ∷ pieces) tokens l a = ap (λ (t : List Token). has_colon (first_word line t)) a.cut ∙ ap has_colon a.is.word ∙ l.colon

pub paren_leads : (line : List ℕ) (pieces : List Piece) (tokens : List Token) → Leads pieces → ArePieces line pieces tokens → starts_with_paren tokens ≡ false
paren_leads line [] tokens l a = ap starts_with_paren a
paren_leads line (piece ∷ pieces) tokens l a = ap starts_with_paren a.cut ∙ ap is_paren_open a.is.kind ∙ l.paren

-- tokens up to those of more pieces
pub record Taken (line : List ℕ) (more : List Piece) (tokens : List Token) (R : List Token → List Token → Type 0) : Type 0 where
  pub rest : List Token
  pub is : R tokens rest
  pub behind : ArePieces line more rest

-- the words are read as a relation of tokens says, wherever they stand
pub record Reads (ws : List (List ℕ)) (R : List ℕ → List Token → List Token → Type 0) : Type 0 where
  pub pieces : List Piece
  pub cut : CutAll ws pieces
  pub reads : (line : List ℕ) (more : List Piece) (tokens : List Token) → Leads more → ArePieces line (pieces ++ more) tokens → Taken line more tokens (R line)

pub reads_as : (ws : List (List ℕ)) (R Q : List ℕ → List Token → List Token → Type 0) → ((line : List ℕ) (tokens rest : List Token) → R line tokens rest → Q line tokens rest) → Reads ws R → Reads ws Q
reads_as ws R Q f r = record {
  pieces = r.pieces;
  cut = r.cut;
  reads = λ line more tokens l a.
      let t : Taken line more tokens (R line) = r.reads line more tokens l a in
      record { rest = t.rest; is = f line tokens t.rest t.is; behind = t.behind };
}

-- ---- sets

abbrev open_piece : Piece
open_piece = record { kind = kind.Open; word = [] }

abbrev pub close_piece : Piece
close_piece = record { kind = kind.Close; word = [] }

-- the items of a set up to its closing brace
pub record SetReads (ws : List (List ℕ)) (S : List ℕ → List Token → List Token → Type 0) : Type 0 where
  pub pieces : List Piece
  pub cut : CutAll ws pieces
  pub reads : (line : List ℕ) (more : List Piece) (tokens : List Token) → ArePieces line (pieces ++ close_piece ∷ more) tokens → Taken line more tokens (S line)

pub record Opened (S : List Token → List Token → Type 0) (tokens rest : List Token) : Type 0 where
  pub brace : Token
  pub more : List Token
  pub cut : tokens ≡ brace ∷ more
  pub opens : is_open brace.kind ≡ true
  pub set : S more rest

pub record Operated (line : List ℕ) (op : Op) (S : List Token → List Token → Type 0) (tokens rest : List Token) : Type 0 where
  pub word : Token
  pub brace : Token
  pub more : List Token
  pub cut : tokens ≡ word ∷ brace ∷ more
  pub plain : is_open word.kind ≡ false
  pub names : operator_of (word_of line word) ≡ Some op
  pub opens : is_open brace.kind ≡ true
  pub set : S more rest

abbrev braced : List (List ℕ) → List (List ℕ)
braced ws = codes "{" ∷ (ws ++ codes "}" ∷ [])

braced_cut : (ws : List (List ℕ)) (pieces : List Piece) → CutAll ws pieces → CutAll (braced ws) (open_piece ∷ (pieces ++ close_piece ∷ []))
braced_cut ws pieces c =
    cut_word (codes "{") (ws ++ codes "}" ∷ []) (open_piece ∷ []) (pieces ++ close_piece ∷ []) (one_mark 123 kind.Open refl)
    (cut-append ws (codes "}" ∷ []) pieces (close_piece ∷ []) c (cut_word (codes "}") [] (close_piece ∷ []) [] (one_mark 125 kind.Close refl) refl))

set_opened : (ws : List (List ℕ)) (S : List ℕ → List Token → List Token → Type 0) (r : SetReads ws S) (line : List ℕ) (more : List Piece) (tokens : List Token) → ArePieces line ((open_piece ∷ (r.pieces ++ close_piece ∷ [])) ++ more) tokens → Taken line more tokens (Opened (S line))
set_opened ws S r line more tokens a =
    let t : Taken line more a.rest (S line) = r.reads line more a.rest (subst (λ (l : List Piece). ArePieces line l a.rest) (append_assoc r.pieces (close_piece ∷ []) more) a.behind) in
    record { rest = t.rest; is = record { brace = a.token; more = a.rest; cut = a.cut; opens = ap is_open a.is.kind; set = t.is }; behind = t.behind }

pub opened : (ws : List (List ℕ)) (S : List ℕ → List Token → List Token → Type 0) → SetReads ws S → Reads (braced ws) (λ line. Opened (S line))
opened ws S r = record {
  pieces = open_piece ∷ (r.pieces ++ close_piece ∷ []);
  cut = braced_cut ws r.pieces r.cut;
  reads = λ line more tokens l a. set_opened ws S r line more tokens a;
}

operator_opened : (line word : List ℕ) (op : Op) (more : List Piece) (tokens : List Token) (S : List Token → List Token → Type 0) (word_token : Token) (left : List Token) → tokens ≡ word_token ∷ left → IsPiece line (word_piece word) word_token → operator_of word ≡ Some op → Taken line more left (Opened S) → Taken line more tokens (Operated line op S)
operator_opened line word op more tokens S token left e i w t = record {
  rest = t.rest;
  is = record {
    word = token;
    brace = t.is.brace;
    more = t.is.more;
    cut = e ∙ ap (λ (l : List Token). token ∷ l) t.is.cut;
    plain = ap is_open i.kind;
    names = ap operator_of i.word ∙ w;
    opens = t.is.opens;
    set = t.is.set;
  };
  behind = t.behind;
}

pub operated : (ws : List (List ℕ)) (word : List ℕ) (op : Op) (S : List ℕ → List Token → List Token → Type 0) → IsWord word → operator_of word ≡ Some op → SetReads ws S → Reads (word ∷ braced ws) (λ line. Operated line op (S line))
operated ws word op S h w r = record {
  pieces = word_piece word ∷ open_piece ∷ (r.pieces ++ close_piece ∷ []);
  cut = cut_word word (braced ws) (word_piece word ∷ []) (open_piece ∷ (r.pieces ++ close_piece ∷ [])) (one_word word h) (braced_cut ws r.pieces r.cut);
  reads = λ line more tokens l a. operator_opened line word op more tokens (S line) a.token a.rest a.cut a.is w (set_opened ws S r line more a.rest a.behind);
}
