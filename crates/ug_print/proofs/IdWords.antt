-- Printed ids and interfaces are words that are read as these.
use Rattle.std.proofs.Common.{◌≡◌, ℕ, ◌/◌, ◌%◌, ◌<◌, Bool, true, false, nat_eq, List, [], ◌∷◌, ◌++◌, codes, Option, None, Some, refl, sym, ap, ◌∙◌, arith, if◌then◌else◌}
use Rattle.std.specs.Cmp.Lexicographic.{pointwise, same_text}
use Rattle.std.specs.List.{AllByRecursion}
use Rattle.ug_words.specs.Grammar.{IsWordByte}
use Rattle.ug_types.specs.declared.rule.Id.{Id}
use Rattle.ug_types.specs.declared.rule.Iface.{Iface}
use Rattle.ug_words.specs.Keywords.{operator_of}
use Rattle.ug_rule.specs.Values.{id_in, interface_in}
use Rattle.ug_words.specs.WordGrammar.{IsId, Any, OfVendor, Exact, IsInterface, OfClass, OfSubclass, OfProtocol}
use Rattle.ug_words.specs.Words.{id_of, interface_of, two_stars}
use Rattle.ug_words.proofs.WordCuts.{id_cut, id_reads, interface_cut, interface_reads}
use Rattle.ug_lines.specs.Digits.{hex_two, hex_four}
use Rattle.ug_print.specs.Items.{id_text, interface_text}
use Rattle.ug_words.proofs.Hexadecimal.{four_again, four_below, two_again, two_below}
use Rattle.ug_print.proofs.Hexadecimal.{digit_word}
use Rattle.ug_print.proofs.Pieces.{IsWord, one_word, word_piece}
use Rattle.ug_print.proofs.ValuesAgain.{ItemPiece}

-- ---- no operator is an item

other_word : {X Y : Type 0} (reads : List ℕ → Option X) (word text : List ℕ) (x : X) (here : Y) (rest : Option Y) → reads word ≡ Some x → reads text ≡ None → rest ≡ None → (if pointwise nat_eq word text then Some here else rest) ≡ None
other_word {X} {Y} reads word text x here rest h t r =
    let G : Bool → Type 0 = λ v. pointwise nat_eq word text ≡ v → (if v then Some here else rest) ≡ None in
    let g : (v : Bool) → G v = λ v. elim v as G [
      | true ↦ λ e. let same : Some x ≡ None = sym h ∙ ap reads (same_text word text (sym e)) ∙ t in let none : ⊥ = cc in absurd none
      | false ↦ λ e. r
    ] in
    g (pointwise nat_eq word text) refl

no_operator : {X : Type 0} (reads : List ℕ → Option X) (word : List ℕ) (x : X) → reads (codes "all-of") ≡ None → reads (codes "one-of") ≡ None → reads (codes "none-of") ≡ None → reads (codes "equals") ≡ None → reads (codes "equals-ordered") ≡ None → reads word ≡ Some x → operator_of word ≡ None
unfolding operator_of
no_operator reads word x a b c d e h =
    other_word reads word (codes "all-of") x _ _ h a
    (other_word reads word (codes "one-of") x _ _ h b
    (other_word reads word (codes "none-of") x _ _ h c
    (other_word reads word (codes "equals") x _ _ h d
    (other_word reads word (codes "equals-ordered") x _ _ h e refl))))

id_no_operator : (word : List ℕ) (id : Id) → id_of word ≡ Some id → operator_of word ≡ None
unfolding id_of two_stars
id_no_operator word id h = no_operator id_of word id refl refl refl refl refl h

interface_no_operator : (word : List ℕ) (iface : Iface) → interface_of word ≡ Some iface → operator_of word ≡ None
unfolding interface_of
interface_no_operator word iface h = no_operator interface_of word iface refl refl refl refl refl h

-- ---- words

byte_word : (n : ℕ) (rest : List ℕ) → n < 256 → AllByRecursion IsWordByte rest → AllByRecursion IsWordByte (hex_two n ++ rest)
byte_word n rest h r = (digit_word (n / 16) (omega (arith, h)), (digit_word (n % 16) (omega arith), r))

number_word : (n : ℕ) (rest : List ℕ) → n < 65536 → AllByRecursion IsWordByte rest → AllByRecursion IsWordByte (hex_two (n / 256) ++ (hex_two (n % 256) ++ rest))
number_word n rest h r = byte_word (n / 256) (hex_two (n % 256) ++ rest) (omega (arith, h)) (byte_word (n % 256) rest (omega arith) r)

record IdAgain (id : Id) : Type 0 where
  is : IsId id (id_text id)
  word : IsWord (id_text id)

id_again : (id : Id) (word : List ℕ) → IsId id word → IdAgain id
id_again id word Any = record { is = Any; word = (refl, (refl, (refl, tt))) }
id_again id word (OfVendor v vendor f) =
    let h : v < 65536 = four_below v vendor f in
    record { is = OfVendor v _ (four_again v h); word = number_word v (58 ∷ 42 ∷ []) h (refl, (refl, tt)) }
id_again id word (Exact v p vendor product f g) =
    let h : v < 65536 = four_below v vendor f in
    let k : p < 65536 = four_below p product g in
    record { is = Exact v p _ _ (four_again v h) (four_again p k); word = number_word v (58 ∷ hex_four p) h (refl, number_word p [] k tt) }

pub id_piece : (word : List ℕ) (id : Id) → id_of word ≡ Some id → ItemPiece id_in (id_text id) id
id_piece word id h =
    let a : IdAgain id = id_again id word (id_cut id word h) in
    let says : id_of (id_text id) ≡ Some id = id_reads id (id_text id) a.is in
    record {
      piece = word_piece (id_text id);
      cut = one_word (id_text id) a.word;
      no_open = refl;
      no_close = refl;
      no_operator = id_no_operator (id_text id) id says;
      says = λ line token p. ap id_of p.word ∙ says;
    }

record InterfaceAgain (iface : Iface) : Type 0 where
  is : IsInterface iface (interface_text iface)
  word : IsWord (interface_text iface)

interface_again : (iface : Iface) (word : List ℕ) → IsInterface iface word → InterfaceAgain iface
interface_again iface word (OfClass c class t) =
    let h : c < 256 = two_below c class t in
    record { is = OfClass c _ (two_again c h); word = byte_word c (58 ∷ 42 ∷ 58 ∷ 42 ∷ []) h (refl, (refl, (refl, (refl, tt)))) }
interface_again iface word (OfSubclass c s class subclass t u) =
    let h : c < 256 = two_below c class t in
    let k : s < 256 = two_below s subclass u in
    record { is = OfSubclass c s _ _ (two_again c h) (two_again s k); word = byte_word c (58 ∷ (hex_two s ++ 58 ∷ 42 ∷ [])) h (refl, byte_word s (58 ∷ 42 ∷ []) k (refl, (refl, tt))) }
interface_again iface word (OfProtocol c s p class subclass protocol t u v) =
    let h : c < 256 = two_below c class t in
    let k : s < 256 = two_below s subclass u in
    let l : p < 256 = two_below p protocol v in
    record { is = OfProtocol c s p _ _ _ (two_again c h) (two_again s k) (two_again p l); word = byte_word c (58 ∷ (hex_two s ++ 58 ∷ hex_two p)) h (refl, byte_word s (58 ∷ hex_two p) k (refl, byte_word p [] l tt)) }

pub interface_piece : (word : List ℕ) (iface : Iface) → interface_of word ≡ Some iface → ItemPiece interface_in (interface_text iface) iface
interface_piece word iface h =
    let a : InterfaceAgain iface = interface_again iface word (interface_cut iface word h) in
    let says : interface_of (interface_text iface) ≡ Some iface = interface_reads iface (interface_text iface) a.is in
    record {
      piece = word_piece (interface_text iface);
      cut = one_word (interface_text iface) a.word;
      no_open = refl;
      no_close = refl;
      no_operator = interface_no_operator (interface_text iface) iface says;
      says = λ line token p. ap interface_of p.word ∙ says;
    }
