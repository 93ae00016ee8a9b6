-- The printed attributes of a query are read as these attributes.
use Rattle.std.proofs.Common.{◌≡◌, ℕ, ◌<◌, true, false, List, [], ◌∷◌, ◌++◌, codes, length, map, Option, None, Some, refl, sym, ap, subst, ◌∙◌, append_assoc}
use Rattle.std.specs.Prelude.{IfSome}
use Rattle.ug_words.specs.declared.token.Token.{Token}
use Rattle.ug_types.specs.declared.rule.Id.{Id}
use Rattle.ug_types.specs.declared.rule.Iface.{Iface}
use Rattle.ug_types.specs.declared.rule.Query.{Query}
use Rattle.ug_types.specs.declared.rule.Values.{Values}
use Rattle.ug_words.specs.declared.keywords.Attr.{Attr}
use Rattle.ug_words.specs.declared.keywords.Attr.TheVariants as attr
use Rattle.ug_rule.specs.Grammar.{AreAttributes, IsText, IsValue, Tells}
use Rattle.ug_words.specs.Keywords.{attribute_of}
use Rattle.ug_rule.specs.Queries.{has_colon, is_attribute_given, no_query}
use Rattle.ug_rule.specs.Values.{id_in, interface_in, string_in}
use Rattle.ug_print.specs.Items.{id_text, interface_text, string_text}
use Rattle.ug_print.specs.Words.{attribute_words, label_words, query_words, set_words}
use Rattle.ug_print.proofs.Pieces.{Piece, ArePieces, cut-append, cut_word, one_word, word_piece}
use Rattle.ug_print.proofs.Readings.{Leads, Taken, Reads, is_known, known_word, reads_as}
use Rattle.ug_print.proofs.ValuesAgain.{AllPieces, ItemPiece, value_again}

-- ---- attributes one behind another

abbrev pub Attributes : Query → Query → List ℕ → List Token → List Token → Type 0
Attributes query all line tokens rest = (attrs : List Attr) × AreAttributes line attrs query all tokens rest

-- words that are read as attributes, none of which begins with an id or an argument
pub record Told (ws : List (List ℕ)) (R : List ℕ → List Token → List Token → Type 0) : Type 0 where
  pub told : Reads ws R
  pub leads : (more : List Piece) → Leads more → Leads (told.pieces ++ more)

none_told : (query : Query) → Told [] (Attributes query query)
none_told query = record {
  told = record { pieces = []; cut = refl; reads = λ line more tokens l a. record { rest = tokens; is = ([], (refl, refl)); behind = a } };
  leads = λ more l. l;
}

are_then : (line : List ℕ) (attrs others : List Attr) (query next all : Query) (tokens left rest : List Token) → AreAttributes line attrs query next tokens left → AreAttributes line others next all left rest → AreAttributes line (attrs ++ others) query all tokens rest
are_then line [] others query next all tokens left rest a b = subst (λ (q : Query). AreAttributes line others q all tokens rest) a.0 (subst (λ (t : List Token). AreAttributes line others next all t rest) (sym a.1) b)
are_then line (attr ∷ attrs) others query next all tokens left rest a b = (a.0, a.1, a.2, are_then line attrs others a.0 next all a.1 left rest a.3 b)

told_then : (ws vs : List (List ℕ)) (query next all : Query) → Told ws (Attributes query next) → Told vs (Attributes next all) → Told (ws ++ vs) (Attributes query all)
told_then ws vs query next all a b = record {
  told = record {
    pieces = a.told.pieces ++ b.told.pieces;
    cut = cut-append ws vs a.told.pieces b.told.pieces a.told.cut b.told.cut;
    reads = λ line more tokens l p.
        let t : Taken line (b.told.pieces ++ more) tokens (Attributes query next line) = a.told.reads line (b.told.pieces ++ more) tokens (b.leads more l) (subst (λ (q : List Piece). ArePieces line q tokens) (append_assoc a.told.pieces b.told.pieces more) p) in
        let u : Taken line more t.rest (Attributes next all line) = b.told.reads line more t.rest l t.behind in
        record { rest = u.rest; is = (t.is.0 ++ u.is.0, are_then line t.is.0 u.is.0 query next all tokens t.rest u.rest t.is.1 u.is.1); behind = u.behind };
  };
  leads = λ more l. subst Leads (sym (append_assoc a.told.pieces b.told.pieces more)) (a.leads (b.told.pieces ++ more) (b.leads more l));
}

-- ---- one attribute

record IsName (name : List ℕ) (attr : Attr) : Type 0 where
  known : is_known name ≡ true
  names : attribute_of name ≡ Some attr
  plain : has_colon name ≡ false

one_told : (name : List ℕ) (ws : List (List ℕ)) (attr : Attr) (query next : Query) → IsName name attr → is_attribute_given attr query ≡ false → Reads ws (λ line. Tells line attr query next) → Told (name ∷ ws) (Attributes query next)
one_told name ws attr query next n once r = record {
  told = record {
    pieces = word_piece name ∷ r.pieces;
    cut = cut_word name ws (word_piece name ∷ []) r.pieces (one_word name (known_word name n.known)) r.cut;
    reads = λ line more tokens l a.
        let t : Taken line more a.rest (Tells line attr query next) = r.reads line more a.rest l a.behind in
        record {
          rest = t.rest;
          is = (attr ∷ [], (next, t.rest, record { name = a.token; more = a.rest; cut = a.cut; names = ap attribute_of a.is.word ∙ n.names; once = once; tells = t.is }, (refl, refl)));
          behind = t.behind;
        };
  };
  leads = λ more l. record { colon = n.plain; paren = refl };
}

-- values that are printed as they are read
pub record ValuesFit {X : Type 0} (reads : List ℕ → Token → Option X) (text : X → List ℕ) (values : Values X) : Type 0 where
  pub some : 0 < length values.items
  pub each : AllPieces reads text values.items

values_told : {X : Type 0} (reads : List ℕ → Token → Option X) (text : X → List ℕ) (name : List ℕ) (attr : Attr) (put : Option (Values X) → Query) (values : Option (Values X)) → IsName name attr → is_attribute_given attr (put None) ≡ false → IfSome values (ValuesFit reads text) → ((line : List ℕ) (values : Values X) (tokens rest : List Token) → IsValue line (reads line) values tokens rest → Tells line attr (put None) (put (Some values)) tokens rest) → Told (attribute_words name text values) (Attributes (put None) (put values))
values_told reads text name attr put None n once fit tells = none_told (put None)
values_told reads text name attr put (Some values) n once fit tells =
    one_told name (set_words values.op (map text values.items)) attr (put None) (put (Some values)) n once
    (reads_as (set_words values.op (map text values.items)) (λ line. IsValue line (reads line) values) (λ line. Tells line attr (put None) (put (Some values))) (λ line tokens rest v. tells line values tokens rest v)
    (value_again reads text values.op values.items fit.some fit.each))

text_again : (text : List ℕ) → ItemPiece string_in (string_text text) text → Reads (string_text text ∷ []) (λ line. IsText text)
text_again text i = record {
  pieces = i.piece ∷ [];
  cut = cut_word (string_text text) [] (i.piece ∷ []) [] i.cut refl;
  reads = λ line more tokens l a. record { rest = a.rest; is = record { token = a.token; cut = a.cut; says = i.says line a.token a.is }; behind = a.behind };
}

label_told : (put : Option (List ℕ) → Query) (label : Option (List ℕ)) → is_attribute_given attr.Label (put None) ≡ false → IfSome label (λ text. ItemPiece string_in (string_text text) text) → ((line text : List ℕ) (tokens rest : List Token) → IsText text tokens rest → Tells line attr.Label (put None) (put (Some text)) tokens rest) → Told (label_words label) (Attributes (put None) (put label))
unfolding attribute_of
label_told put None once fit tells = none_told (put None)
label_told put (Some text) once fit tells =
    one_told (codes "label") (string_text text ∷ []) attr.Label (put None) (put (Some text)) (record { known = refl; names = refl; plain = refl }) once
    (reads_as (string_text text ∷ []) (λ line. IsText text) (λ line. Tells line attr.Label (put None) (put (Some text))) (λ line tokens rest t. tells line text tokens rest t) (text_again text fit))

-- ---- a query

pub record QueryFits (query : Query) : Type 0 where
  pub id : IfSome query.id (ValuesFit id_in id_text)
  pub serial : IfSome query.serial (ValuesFit string_in string_text)
  pub name : IfSome query.name (ValuesFit string_in string_text)
  pub hash : IfSome query.hash (ValuesFit string_in string_text)
  pub parent_hash : IfSome query.parent_hash (ValuesFit string_in string_text)
  pub via_port : IfSome query.via_port (ValuesFit string_in string_text)
  pub interface : IfSome query.interface (ValuesFit interface_in interface_text)
  pub connect : IfSome query.connect (ValuesFit string_in string_text)
  pub label : IfSome query.label (λ text. ItemPiece string_in (string_text text) text)

abbrev Texts : Type 0
Texts = Option (Values (List ℕ))

abbrev query_with : Option (Values Id) → Texts → Texts → Texts → Texts → Texts → Option (Values Iface) → Texts → Option (List ℕ) → Query
query_with id serial name hash parent_hash via_port interface connect label = record { id = id; serial = serial; name = name; hash = hash; parent_hash = parent_hash; via_port = via_port; interface = interface; connect = connect; label = label }

pub query_again : (query : Query) → QueryFits query → Told (query_words query) (Attributes no_query query)
unfolding query_words attribute_of
query_again query f =
    let a0 = values_told id_in id_text (codes "id") attr.Id (λ o. query_with o None None None None None None None None) query.id (record { known = refl; names = refl; plain = refl }) refl f.id (λ line values tokens rest v. (values, v, refl)) in
    let a1 = values_told string_in string_text (codes "serial") attr.Serial (λ o. query_with query.id o None None None None None None None) query.serial (record { known = refl; names = refl; plain = refl }) refl f.serial (λ line values tokens rest v. (values, v, refl)) in
    let a2 = values_told string_in string_text (codes "name") attr.Name (λ o. query_with query.id query.serial o None None None None None None) query.name (record { known = refl; names = refl; plain = refl }) refl f.name (λ line values tokens rest v. (values, v, refl)) in
    let a3 = values_told string_in string_text (codes "hash") attr.Hash (λ o. query_with query.id query.serial query.name o None None None None None) query.hash (record { known = refl; names = refl; plain = refl }) refl f.hash (λ line values tokens rest v. (values, v, refl)) in
    let a4 = values_told string_in string_text (codes "parent-hash") attr.ParentHash (λ o. query_with query.id query.serial query.name query.hash o None None None None) query.parent_hash (record { known = refl; names = refl; plain = refl }) refl f.parent_hash (λ line values tokens rest v. (values, v, refl)) in
    let a5 = values_told string_in string_text (codes "via-port") attr.ViaPort (λ o. query_with query.id query.serial query.name query.hash query.parent_hash o None None None) query.via_port (record { known = refl; names = refl; plain = refl }) refl f.via_port (λ line values tokens rest v. (values, v, refl)) in
    let a6 = values_told interface_in interface_text (codes "with-interface") attr.Interface (λ o. query_with query.id query.serial query.name query.hash query.parent_hash query.via_port o None None) query.interface (record { known = refl; names = refl; plain = refl }) refl f.interface (λ line values tokens rest v. (values, v, refl)) in
    let a7 = values_told string_in string_text (codes "with-connect-type") attr.Connect (λ o. query_with query.id query.serial query.name query.hash query.parent_hash query.via_port query.interface o None) query.connect (record { known = refl; names = refl; plain = refl }) refl f.connect (λ line values tokens rest v. (values, v, refl)) in
    let a8 = label_told (λ o. query_with query.id query.serial query.name query.hash query.parent_hash query.via_port query.interface query.connect o) query.label refl f.label (λ line text tokens rest t. (text, t, refl)) in
    let b1 = told_then _ _ _ _ _ a0 a1 in
    let b2 = told_then _ _ _ _ _ b1 a2 in
    let b3 = told_then _ _ _ _ _ b2 a3 in
    let b4 = told_then _ _ _ _ _ b3 a4 in
    let b5 = told_then _ _ _ _ _ b4 a5 in
    let b6 = told_then _ _ _ _ _ b5 a6 in
    let b7 = told_then _ _ _ _ _ b6 a7 in
    told_then _ _ _ _ _ b7 a8
