-- Lines of interfaces are read as their grammar says.
use Rattle.std.proofs.Common.{◌≡◌, ℕ, ◌<◌, ◌≤◌, inl, inr, Bool, true, false, cond, nat_le, List, [], ◌∷◌, ◌++◌, Option, Some, None, refl, sym, ap, subst, ◌∙◌, arith}
use Rattle.std.specs.Prelude.{codes, decimal, option_and_then, option_map}
use Rattle.std.specs.Str.Parse.{AllDigits}
use Rattle.std.proofs.lemmas.Bool.{leb-true, le-leb}
use Rattle.std.proofs.lemmas.Option.{none-some, same_Some}
use Rattle.std.proofs.lemmas.Str.Parse.{digit_from_value}
use Rattle.ug_types.specs.Elements.{Has}
use Rattle.ug_types.specs.declared.record.Triple.{Triple}
use Rattle.ug_types.specs.declared.rule.Iface.{Iface}
use Rattle.ug_types.proofs.NameWords.{node_graphic}
use Rattle.ug_lines.specs.Numbers.{number_in}
use Rattle.ug_lines.proofs.Numerals.{is_number, number_found}
use Rattle.ug_words.specs.WordGrammar.{IsInterface, IsTwo, OfClass, OfSubclass, OfProtocol}
use Rattle.ug_words.specs.Words.{interface_of}
use Rattle.ug_words.proofs.WordCuts.{interface_cut, interface_reads}
use Rattle.ug_proto.proofs.Numerals.{decimal_digits}
use Rattle.ug_iface.specs.declared.name.IfaceName.{IfaceName}
use Rattle.ug_sysfs.specs.declared.script.NewIface.{NewIface}
use Rattle.ug_steps.specs.IfaceLines.{byte_number, byte_word, iface_name_of, iface_named, iface_with, new_iface_of, iface_numbers_of, triple_word, unless_zero, whole_triple, with_numbers, with_subclass, with_triple}
use Rattle.ug_steps.specs.LineGrammar.{AreIfaceNumbers, IsIfaceLine, IsShortName, IsUnifaceLine, each_given, start_word}
use Rattle.ug_steps.specs.Plugs.{start_of}
use Rattle.ug_steps.specs.Words.{name_of}
use Rattle.ug_steps.proofs.AccessLines.{graphic_apart}
use Rattle.ug_steps.proofs.HexWords.{hex_apart}
use Rattle.ug_steps.proofs.LineCuts.{apart_by, bound, cut_so, dot_so, mapped, so_cut, so_dot}
use Rattle.ug_steps.proofs.LineTables.{start_read, start_written}
use Rattle.ug_steps.proofs.NamesRead.{name_text}

-- ---- words without a byte

apart_joined : (c : ℕ) (xs ys : List ℕ) → ¬ Has xs c → ¬ Has ys c → ¬ Has (xs ++ ys) c
apart_joined c [] ys f g h = g h
apart_joined c (b ∷ xs) ys f g (inl e) = f (inl e)
apart_joined c (b ∷ xs) ys f g (inr h) = apart_joined c xs ys (λ k. f (inr k)) g h

digits_apart : (c : ℕ) (ds : List ℕ) → c < 48 → AllDigits 10 ds → ¬ Has ds c
digits_apart c [] lt d h = h
digits_apart c (b ∷ ds) lt d (inl e) = let k = digit_from_value b d.0 in omega (arith, k, e, lt)
digits_apart c (b ∷ ds) lt d (inr h) = digits_apart c ds lt d.1 h

decimal_apart : (c n : ℕ) → c < 48 → n ≤ 255 → ¬ Has (decimal n) c
decimal_apart c n lt h = digits_apart c (decimal n) lt (decimal_digits n (omega (arith, h)))

two_apart : (n : ℕ) (text : List ℕ) → IsTwo n text → ¬ Has text 32
two_apart n text t = hex_apart (n ∷ []) text (t.first, t.second, t.high, t.low, [], t.cut, t.says_high, t.says_low, t.is, refl)

interface_apart : (iface : Iface) (word : List ℕ) → IsInterface iface word → ¬ Has word 32
interface_apart iface word (OfClass c class t) = apart_joined 32 class (codes ":*:*") (two_apart c class t) (apart_by (codes ":*:*") refl)
interface_apart iface word (OfSubclass c s class subclass t u) =
    apart_joined 32 class (codes ":" ++ (subclass ++ codes ":*")) (two_apart c class t)
    (apart_joined 32 (codes ":") (subclass ++ codes ":*") (apart_by (codes ":") refl) (apart_joined 32 subclass (codes ":*") (two_apart s subclass u) (apart_by (codes ":*") refl)))
interface_apart iface word (OfProtocol c s p class subclass protocol t u v) =
    apart_joined 32 class (codes ":" ++ (subclass ++ (codes ":" ++ protocol))) (two_apart c class t)
    (apart_joined 32 (codes ":") (subclass ++ (codes ":" ++ protocol)) (apart_by (codes ":") refl)
    (apart_joined 32 subclass (codes ":" ++ protocol) (two_apart s subclass u)
    (apart_joined 32 (codes ":") protocol (apart_by (codes ":") refl) (two_apart p protocol v))))

-- ---- configurations and numbers

byte_so : (text : List ℕ) (n : ℕ) → byte_word text ≡ Some n → (text ≡ decimal n) × (n ≤ 255)
unfolding byte_word
byte_so text n h = by (number_in text) refl h
  where
    tested : (m : ℕ) (v : Bool) → nat_le m 255 ≡ v → cond v (Some m) None ≡ Some n → (m ≡ n) × (n ≤ 255)
    tested m true e k = let same : m ≡ n = same_Some m n k in (same, subst (λ (x : ℕ). x ≤ 255) same (leb-true m 255 e))
    tested m false e k = absurd (none-some n k)

    by : (o : Option ℕ) → number_in text ≡ o → byte_number o ≡ Some n → (text ≡ decimal n) × (n ≤ 255)
    by None e k = absurd (none-some n k)
    by (Some m) e k = let t = tested m (nat_le m 255) refl k in ((number_found text m e).0 ∙ ap decimal t.0, t.1)

so_byte : (n : ℕ) → n ≤ 255 → byte_word (decimal n) ≡ Some n
unfolding byte_word
so_byte n h =
    ap byte_number (is_number (decimal n) n (omega (arith, h)) refl) ∙ ap (λ (v : Bool). cond v (Some n) None) (le-leb n 255 h)

some_so : (o : Option ℕ) (n : ℕ) → unless_zero o ≡ Some n → (o ≡ Some n) × (1 ≤ n)
some_so None n h = absurd (none-some n h)
some_so (Some m) n h = by (nat_le 1 m) refl h
  where
    by : (v : Bool) → nat_le 1 m ≡ v → cond v (Some m) None ≡ Some n → (Some m ≡ Some n) × (1 ≤ n)
    by true e k = (k, subst (λ (x : ℕ). 1 ≤ x) (same_Some m n k) (leb-true 1 m e))
    by false e k = absurd (none-some n k)

so_some : (n : ℕ) → 1 ≤ n → unless_zero (Some n) ≡ Some n
so_some n h = ap (λ (v : Bool). cond v (Some n) None) (le-leb 1 n h)

abbrev numbers_read : List ℕ → List ℕ → List ℕ → Option IfaceName
numbers_read device config number =
    option_and_then (λ c. option_map (iface_named device c) (byte_word number)) (unless_zero (byte_word config))

numbers_so : (device text : List ℕ) (name : IfaceName) → iface_numbers_of device text ≡ Some name → AreIfaceNumbers name text × (name.device ≡ device)
numbers_so device text name h =
    let d = dot_so (numbers_read device) text name h in
    let c = bound (λ c. option_map (iface_named device c) (byte_word d.rest)) (unless_zero (byte_word d.word)) name d.gives in
    let i = mapped (iface_named device c.0) (byte_word d.rest) name c.2 in
    let some = some_so (byte_word d.word) c.0 c.1 in
    let config = byte_so d.word c.0 some.0 in
    let number = byte_so d.rest i.0 i.1 in
    let whole : AreIfaceNumbers (iface_named device c.0 i.0) text = record {
      is = d.is ∙ ap (λ (w : List ℕ). w ++ 46 ∷ d.rest) config.0 ∙ ap (λ (r : List ℕ). decimal c.0 ++ 46 ∷ r) number.0;
      some = some.1;
      config_fits = config.1;
      number_fits = number.1;
    } in
    (subst (λ (n : IfaceName). AreIfaceNumbers n text) i.2 whole, ap (λ (n : IfaceName). n.device) (sym i.2))

so_numbers : (name : IfaceName) (text : List ℕ) → AreIfaceNumbers name text → iface_numbers_of name.device text ≡ Some name
so_numbers name text a =
    so_dot (numbers_read name.device) text (decimal name.config) (decimal name.number) name a.is (decimal_apart 46 name.config (omega arith) a.config_fits)
    (ap (λ (o : Option ℕ). option_and_then (λ c. option_map (iface_named name.device c) (byte_word (decimal name.number))) (unless_zero o)) (so_byte name.config a.config_fits)
    ∙ ap (option_and_then (λ c. option_map (iface_named name.device c) (byte_word (decimal name.number)))) (so_some name.config a.some)
    ∙ ap (option_map (iface_named name.device name.config)) (so_byte name.number a.number_fits))

numbers_apart : (name : IfaceName) (text : List ℕ) → AreIfaceNumbers name text → ¬ Has text 32
numbers_apart name text a =
    subst (λ (t : List ℕ). ¬ Has t 32) (sym a.is)
    (apart_joined 32 (decimal name.config) (46 ∷ decimal name.number) (decimal_apart 32 name.config (omega arith) a.config_fits)
    (apart_joined 32 (46 ∷ []) (decimal name.number) (apart_by (46 ∷ []) refl) (decimal_apart 32 name.number (omega arith) a.number_fits)))

-- ---- class, subclass and protocol

triple_so : (word : List ℕ) (t : Triple) → triple_word word ≡ Some t → IsInterface (each_given t) word
unfolding triple_word
triple_so word t h = by (interface_of word) refl h
  where
    given : (class : ℕ) (s p : Option ℕ) → with_subclass class s p ≡ Some t → Some (record { class = class; subclass = s; protocol = p }) ≡ Some (each_given t)
    given class None p k = absurd (none-some t k)
    given class (Some s) None k = absurd (none-some t k)
    given class (Some s) (Some p) k = ap (λ (u : Triple). Some (each_given u)) (same_Some (record { class = class; subclass = s; protocol = p }) t k)

    by : (o : Option Iface) → interface_of word ≡ o → whole_triple o ≡ Some t → IsInterface (each_given t) word
    by None e k = absurd (none-some t k)
    by (Some iface) e k = interface_cut (each_given t) word (e ∙ given iface.class iface.subclass iface.protocol k)

so_triple : (word : List ℕ) (t : Triple) → IsInterface (each_given t) word → triple_word word ≡ Some t
unfolding triple_word
so_triple word t h = ap whole_triple (interface_reads (each_given t) word h)

-- ---- names

short : (word device : List ℕ) → name_of word ≡ Some device → (word ≡ device) × IsShortName device
short word device h =
    let n = (name_text word device).0 h in
    (sym n.2, subst IsShortName (sym n.2) (n.0, n.1))

so_short : (device : List ℕ) → IsShortName device → name_of device ≡ Some device
so_short device h = (name_text device device).1 (h.0, h.1, refl)

-- ---- `uniface`

pub uniface_so : (text : List ℕ) (name : IfaceName) → iface_name_of text ≡ Some name → IsUnifaceLine (codes "uniface " ++ text) name
unfolding iface_name_of
uniface_so text name h =
    let c = cut_so (λ (w numbers : List ℕ). option_and_then (λ n. iface_numbers_of n numbers) (name_of w)) text name h in
    let n = bound (λ n. iface_numbers_of n c.rest) (name_of c.word) name c.gives in
    let named = short c.word n.0 n.1 in
    let numbered = numbers_so n.0 c.rest name n.2 in
    record {
      numbers = c.rest;
      is = ap (λ (t : List ℕ). codes "uniface " ++ t) (c.is ∙ ap (λ (w : List ℕ). w ++ 32 ∷ c.rest) (named.0 ∙ sym numbered.1));
      named = subst IsShortName (sym numbered.1) named.1;
      numbered = numbered.0;
    }

pub so_uniface : (line : List ℕ) (name : IfaceName) → IsUnifaceLine line name → (text : List ℕ) × (line ≡ codes "uniface " ++ text) × (iface_name_of text ≡ Some name)
unfolding iface_name_of
so_uniface line name u = (
  name.device ++ 32 ∷ u.numbers,
  u.is,
  so_cut (λ (w numbers : List ℕ). option_and_then (λ n. iface_numbers_of n numbers) (name_of w)) (name.device ++ 32 ∷ u.numbers) name.device u.numbers name refl (graphic_apart name.device (node_graphic name.device u.named.0))
      (ap (option_and_then (λ n. iface_numbers_of n u.numbers)) (so_short name.device u.named) ∙ so_numbers name u.numbers u.numbered),
)

-- ---- `iface`

abbrev triple_reads : IfaceName → List ℕ → List ℕ → Option NewIface
triple_reads name triple start = option_and_then (λ t. option_map (iface_with name t) (start_of start)) (triple_word triple)

abbrev numbers_then : List ℕ → List ℕ → List ℕ → Option NewIface
numbers_then device numbers rest = option_and_then (λ name. with_triple name rest) (iface_numbers_of device numbers)

abbrev name_then : List ℕ → List ℕ → Option NewIface
name_then name rest = option_and_then (λ n. with_numbers n rest) (name_of name)

record IsDescribed (name : IfaceName) (text : List ℕ) (new : NewIface) : Type 0 where
  triple : List ℕ
  is : text ≡ triple ++ 32 ∷ start_word new.on
  described : IsInterface (each_given new.triple) triple
  named : new.name ≡ name

described_so : (name : IfaceName) (text : List ℕ) (new : NewIface) → with_triple name text ≡ Some new → IsDescribed name text new
described_so name text new h =
    let c = cut_so (triple_reads name) text new h in
    let t = bound (λ t. option_map (iface_with name t) (start_of c.rest)) (triple_word c.word) new c.gives in
    let o = mapped (iface_with name t.0) (start_of c.rest) new t.2 in
    subst (IsDescribed name text) o.2 (record {
      triple = c.word;
      is = c.is ∙ ap (λ (r : List ℕ). c.word ++ 32 ∷ r) (start_written c.rest o.0 o.1);
      described = triple_so c.word t.0 t.1;
      named = refl;
    })

so_described : (new : NewIface) (triple : List ℕ) → IsInterface (each_given new.triple) triple → with_triple new.name (triple ++ 32 ∷ start_word new.on) ≡ Some new
so_described new triple h =
    so_cut (triple_reads new.name) (triple ++ 32 ∷ start_word new.on) triple (start_word new.on) new refl (interface_apart (each_given new.triple) triple h)
    (ap (option_and_then (λ t. option_map (iface_with new.name t) (start_of (start_word new.on)))) (so_triple triple new.triple h)
    ∙ ap (option_map (iface_with new.name new.triple)) (start_read new.on))

pub iface_so : (text : List ℕ) (new : NewIface) → new_iface_of text ≡ Some new → IsIfaceLine (codes "iface " ++ text) new
unfolding new_iface_of
iface_so text new h =
    let c = cut_so name_then text new h in
    let n = bound (λ n. with_numbers n c.rest) (name_of c.word) new c.gives in
    let named = short c.word n.0 n.1 in
    let d = cut_so (numbers_then n.0) c.rest new n.2 in
    let m = bound (λ name. with_triple name d.rest) (iface_numbers_of n.0 d.word) new d.gives in
    let numbered = numbers_so n.0 d.word m.0 m.1 in
    let t = described_so m.0 d.rest new m.2 in
    let device : new.name.device ≡ n.0 = ap (λ (i : IfaceName). i.device) t.named ∙ numbered.1 in
    record {
      numbers = d.word;
      triple = t.triple;
      is = ap (λ (l : List ℕ). codes "iface " ++ l)
          (c.is ∙ ap (λ (w : List ℕ). w ++ 32 ∷ c.rest) (named.0 ∙ sym device)
          ∙ ap (λ (r : List ℕ). new.name.device ++ 32 ∷ r) (d.is ∙ ap (λ (r : List ℕ). d.word ++ 32 ∷ r) t.is));
      named = subst IsShortName (sym device) named.1;
      numbered = subst (λ (i : IfaceName). AreIfaceNumbers i d.word) (sym t.named) numbered.0;
      described = t.described;
    }

pub so_iface : (line : List ℕ) (new : NewIface) → IsIfaceLine line new → (text : List ℕ) × (line ≡ codes "iface " ++ text) × (new_iface_of text ≡ Some new)
unfolding new_iface_of
so_iface line new i =
    let described : List ℕ = i.triple ++ 32 ∷ start_word new.on in
    let numbered : List ℕ = i.numbers ++ 32 ∷ described in
    let device : List ℕ = new.name.device in
    let of_numbers : with_numbers device numbered ≡ Some new =
    so_cut (numbers_then device) numbered i.numbers described new refl (numbers_apart new.name i.numbers i.numbered)
    (ap (option_and_then (λ name. with_triple name described)) (so_numbers new.name i.numbers i.numbered) ∙ so_described new i.triple i.described) in (
      device ++ 32 ∷ numbered,
      i.is,
      so_cut name_then (device ++ 32 ∷ numbered) device numbered new refl (graphic_apart device (node_graphic device i.named.0))
          (ap (option_and_then (λ n. with_numbers n numbered)) (so_short device i.named) ∙ of_numbers),
    )
