-- The printed values of an attribute are read as these values.
use Rattle.std.proofs.Common.{◌≡◌, ℕ, suc, ◌<◌, inl, inr, Bool, false, nat_eq, List, [], ◌∷◌, ◌++◌, codes, length, map, Option, None, Some, refl, sym, ap, subst, ◌∙◌, arith, append_assoc, if◌then◌else◌}
use Rattle.std.specs.List.{AllByRecursion}
use Rattle.ug_words.specs.declared.token.Token.{Token}
use Rattle.ug_types.specs.declared.rule.Op.{Op}
use Rattle.ug_types.specs.declared.rule.Op.TheVariants.{AllOf, OneOf, NoneOf, Equals, EqualsOrdered}
use Rattle.ug_rule.specs.Grammar.{AreItems, IsSet, IsValue}
use Rattle.ug_words.specs.Keywords.{operator_of}
use Rattle.ug_rule.specs.Tokens.{is_open, is_close}
use Rattle.ug_rule.specs.Values.{valued}
use Rattle.ug_print.specs.Words.{is_alone, operator_words, set_words}
use Rattle.ug_print.proofs.Pieces.{Piece, IsPiece, ArePieces, Cut, CutAll, cut_word}
use Rattle.ug_print.proofs.Readings.{Reads, SetReads, Opened, Operated, close_piece, known_word, opened, operated, reads_as}

-- ---- what is written for a set

set_braced : (op : Op) (ws : List (List ℕ)) → is_alone op (length ws) ≡ false → set_words op ws ≡ operator_words op ++ (codes "{" ∷ (ws ++ codes "}" ∷ []))
set_braced op ws h =
    ap (λ (v : Bool). (if v then [] else operator_words op ++ codes "{" ∷ []) ++ ws ++ (if v then [] else codes "}" ∷ [])) h
    ∙ (append_assoc (operator_words op ++ codes "{" ∷ []) ws (codes "}" ∷ [])
    ∙ append_assoc (operator_words op) (codes "{" ∷ []) (ws ++ codes "}" ∷ []))

-- a set in braces is read, whatever its items are
pub set_again : (op : Op) (ws : List (List ℕ)) (S R : List ℕ → List Token → List Token → Type 0) → is_alone op (length ws) ≡ false → SetReads ws S → ((line : List ℕ) (tokens rest : List Token) → Opened (S line) tokens rest → op ≡ Equals → R line tokens rest) → ((line : List ℕ) (tokens rest : List Token) → Operated line op (S line) tokens rest → R line tokens rest) → Reads (set_words op ws) R
unfolding operator_of
set_again AllOf ws S R a r plain operator = subst (λ l. Reads l R) (sym (set_braced AllOf ws a)) (reads_as _ (λ line. Operated line AllOf (S line)) R operator (operated ws (codes "all-of") AllOf S (known_word (codes "all-of") refl) refl r))
set_again OneOf ws S R a r plain operator = subst (λ l. Reads l R) (sym (set_braced OneOf ws a)) (reads_as _ (λ line. Operated line OneOf (S line)) R operator (operated ws (codes "one-of") OneOf S (known_word (codes "one-of") refl) refl r))
set_again NoneOf ws S R a r plain operator = subst (λ l. Reads l R) (sym (set_braced NoneOf ws a)) (reads_as _ (λ line. Operated line NoneOf (S line)) R operator (operated ws (codes "none-of") NoneOf S (known_word (codes "none-of") refl) refl r))
set_again EqualsOrdered ws S R a r plain operator = subst (λ l. Reads l R) (sym (set_braced EqualsOrdered ws a)) (reads_as _ (λ line. Operated line EqualsOrdered (S line)) R operator (operated ws (codes "equals-ordered") EqualsOrdered S (known_word (codes "equals-ordered") refl) refl r))
set_again Equals ws S R a r plain operator = subst (λ l. Reads l R) (sym (set_braced Equals ws a)) (reads_as _ (λ line. Opened (S line)) R (λ line tokens rest o. plain line tokens rest o refl) (opened ws S r))

-- ---- items

-- the text of an item is one piece, which reads as the item
pub record ItemPiece {X : Type 0} (reads : List ℕ → Token → Option X) (text : List ℕ) (x : X) : Type 0 where
  pub piece : Piece
  pub cut : Cut text (piece ∷ [])
  pub no_open : is_open piece.kind ≡ false
  pub no_close : is_close piece.kind ≡ false
  pub no_operator : operator_of piece.word ≡ None
  pub says : (line : List ℕ) (token : Token) → IsPiece line piece token → reads line token ≡ Some x

record ItemsTaken {X : Type 0} (line : List ℕ) (reads : Token → Option X) (items : List X) (more : List Piece) (tokens : List Token) : Type 0 where
  inner : List Token
  rest : List Token
  cut : tokens ≡ inner ++ rest
  says : AreItems reads inner items
  behind : ArePieces line more rest

record ItemsRead {X : Type 0} (reads : List ℕ → Token → Option X) (ws : List (List ℕ)) (items : List X) : Type 0 where
  pieces : List Piece
  cut : CutAll ws pieces
  takes : (line : List ℕ) (more : List Piece) (tokens : List Token) → ArePieces line (pieces ++ more) tokens → ItemsTaken line (reads line) items more tokens

abbrev pub AllPieces : {X : Type 0} → (List ℕ → Token → Option X) → (X → List ℕ) → List X → Type 0
AllPieces reads text items = AllByRecursion (λ x. ItemPiece reads (text x) x) items

items_again : {X : Type 0} (reads : List ℕ → Token → Option X) (text : X → List ℕ) (items : List X) → AllPieces reads text items → ItemsRead reads (map text items) items
items_again reads text [] h = record { pieces = []; cut = refl; takes = λ line more tokens a. record { inner = []; rest = tokens; cut = refl; says = tt; behind = a } }
items_again reads text (x ∷ items) h =
    let r : ItemsRead reads (map text items) items = items_again reads text items h.1 in
    record {
      pieces = h.0.piece ∷ r.pieces;
      cut = cut_word (text x) (map text items) (h.0.piece ∷ []) r.pieces h.0.cut r.cut;
      takes = λ line more tokens a.
          let t : ItemsTaken line (reads line) items more a.rest = r.takes line more a.rest a.behind in
          record {
            inner = a.token ∷ t.inner;
            rest = t.rest;
            cut = a.cut ∙ ap (λ (l : List Token). a.token ∷ l) t.cut;
            says = (ap is_close a.is.kind ∙ h.0.no_close, h.0.says line a.token a.is, t.says);
            behind = t.behind;
          };
    }

set_of_items : {X : Type 0} (reads : List ℕ → Token → Option X) (ws : List (List ℕ)) (items : List X) → 0 < length items → ItemsRead reads ws items → SetReads ws (λ line. IsSet (reads line) items)
set_of_items reads ws items some r = record {
  pieces = r.pieces;
  cut = r.cut;
  reads = λ line more tokens a.
      let t : ItemsTaken line (reads line) items (close_piece ∷ more) tokens = r.takes line (close_piece ∷ more) tokens a in
      record {
        rest = t.behind.rest;
        is = record {
          inner = t.inner;
          brace = t.behind.token;
          cut = t.cut ∙ ap (λ (l : List Token). t.inner ++ l) t.behind.cut;
          closes = ap is_close t.behind.is.kind;
          says = t.says;
          some = some;
        };
        behind = t.behind.behind;
      };
}

-- ---- values

one_again : {X : Type 0} (reads : List ℕ → Token → Option X) (text : List ℕ) (x : X) → ItemPiece reads text x → Reads (text ∷ []) (λ line. IsValue line (reads line) (valued Equals (x ∷ [])))
one_again reads text x h = record {
  pieces = h.piece ∷ [];
  cut = cut_word text [] (h.piece ∷ []) [] h.cut refl;
  reads = λ line more tokens l a. record {
    rest = a.rest;
    is = inl (record {
      token = a.token;
      item = x;
      cut = a.cut;
      plain = ap is_open a.is.kind ∙ h.no_open;
      word = ap operator_of a.is.word ∙ h.no_operator;
      says = h.says line a.token a.is;
      is = refl;
    });
    behind = a.behind;
  };
}

braced_again : {X : Type 0} (reads : List ℕ → Token → Option X) (text : X → List ℕ) (op : Op) (items : List X) → is_alone op (length (map text items)) ≡ false → 0 < length items → AllPieces reads text items → Reads (set_words op (map text items)) (λ line. IsValue line (reads line) (valued op items))
braced_again reads text op items a some h =
    set_again op (map text items) (λ line. IsSet (reads line) items) (λ line. IsValue line (reads line) (valued op items)) a (set_of_items reads (map text items) items some (items_again reads text items h))
    (λ line tokens rest o e. inr (inl (record { brace = o.brace; items = items; more = o.more; cut = o.cut; opens = o.opens; set = o.set; is = ap (λ (p : Op). valued p items) e })))
    (λ line tokens rest o. inr (inr (record { word = o.word; brace = o.brace; op = op; items = items; more = o.more; cut = o.cut; plain = o.plain; names = o.names; opens = o.opens; set = o.set; is = refl })))

pub several : (n : ℕ) → nat_eq (suc (suc n)) 1 ≡ false
several n = grind arith

pub value_again : {X : Type 0} (reads : List ℕ → Token → Option X) (text : X → List ℕ) (op : Op) (items : List X) → 0 < length items → AllPieces reads text items → Reads (set_words op (map text items)) (λ line. IsValue line (reads line) (valued op items))
value_again reads text op [] some h = absurd (omega (arith, some))
value_again reads text Equals (x ∷ []) some h = one_again reads (text x) x h.0
value_again reads text Equals (x ∷ y ∷ items) some h = braced_again reads text Equals (x ∷ y ∷ items) (several (length (map text items))) some h
value_again reads text AllOf (x ∷ items) some h = braced_again reads text AllOf (x ∷ items) refl some h
value_again reads text OneOf (x ∷ items) some h = braced_again reads text OneOf (x ∷ items) refl some h
value_again reads text NoneOf (x ∷ items) some h = braced_again reads text NoneOf (x ∷ items) refl some h
value_again reads text EqualsOrdered (x ∷ items) some h = braced_again reads text EqualsOrdered (x ∷ items) refl some h
