-- Ids and interfaces are read as their words are cut.
use Rattle.std.proofs.Common.{◌≡◌, ℕ, suc, ◌+◌, ◌*◌, ◌<◌, inl, inr, Bool, true, false, ◌&&◌, nat_eq, nat_lt, List, [], ◌∷◌, ◌++◌, codes, length, take, drop, get_or, Option, Some, None, Result, Ok, Err, refl, sym, ap, subst, ◌∙◌, arith, if◌then◌else◌}
use Rattle.std.specs.Cmp.Lexicographic.{pointwise, same_text, unequal}
use Rattle.std.proofs.lemmas.Bool.{ltb-true, eqb-true}
use Rattle.std.proofs.lemmas.List.{take-append-drop}
use Rattle.std.proofs.Math.Seq.{drop-cons}
use Rattle.hex.specs.Hex.{hex_digit_value, digit_or_error, value_at, ◌>>=◌, pair_value, decode_pairs, decode_sized}
use Rattle.hex.specs.declared.error.FromHexError.{FromHexError}
use Rattle.hex.proofs.HexLemmas.{decode_sized-ok}
use Rattle.hex.proofs.Pairs.{decode_sized-pairs}
use Rattle.ug_types.specs.declared.rule.Id.{Id}
use Rattle.ug_types.specs.declared.rule.Iface.{Iface}
use Rattle.ug_words.specs.WordGrammar.{IsTwo, IsFour, id_with, IsId, Any, OfVendor, Exact, interface_with, IsInterface, OfClass, OfSubclass, OfProtocol}
use Rattle.ug_words.specs.Words.{byte_in, pair_in, two_of, four_of, has_colon_at, star, two_stars, id_from, id_of_vendor, id_of, interface_from, interface_of_subclass, interface_of_class, interface_of}
use Rattle.ug_words.proofs.Tests.{by_test}

pub same_some : {X : Type 0} (x y : X) → Some x ≡ Some y → x ≡ y
same_some x y h = let e : x ≡ y = cc in e

-- ---- hexadecimal digits

by_bind : {A B : Type 0} (r : Result A FromHexError) (next : A → Result B FromHexError) (b : B) → (r >>= next) ≡ Ok b → (a : A) × (r ≡ Ok a) × (next a ≡ Ok b)
by_bind (Ok a) next b h = (a, refl, h)
by_bind (Err e) next b h = let none : ⊥ = cc in absurd none

digit_cut : (c i v : ℕ) (o : Option ℕ) → digit_or_error c i o ≡ Ok v → o ≡ Some v
digit_cut c i v None h = let none : ⊥ = cc in absurd none
digit_cut c i v (Some w) h = let e : Some w ≡ Some v = cc in e

pair_cut : (first second i v : ℕ) → pair_value first second i ≡ Ok v → IsTwo v (first ∷ second ∷ [])
pair_cut first second i v h =
    let s = by_bind (value_at first i) (λ h. value_at second (i + 1) >>= (λ l. Ok (h * 16 + l))) v h in
    let t = by_bind (value_at second (i + 1)) (λ l. Ok (s.0 * 16 + l)) v s.2 in
    let e : s.0 * 16 + t.0 ≡ v = let e : s.0 * 16 + t.0 ≡ v = cc in e in
    record {
      first = first;
      second = second;
      high = s.0;
      low = t.0;
      cut = refl;
      says_high = digit_cut first i s.0 (hex_digit_value first) s.1;
      says_low = digit_cut second (i + 1) t.0 (hex_digit_value second) t.1;
      is = sym e;
    }

pair_reads : (first second i v : ℕ) (t : IsTwo v (first ∷ second ∷ [])) → pair_value first second i ≡ Ok v
pair_reads first second i v t =
    let a : first ≡ t.first = ap (λ l. get_or l 0 0) t.cut in
    let b : second ≡ t.second = ap (λ l. get_or l 1 0) t.cut in
    rw a (rw b (rw t.says_high (rw t.says_low (ap Ok (sym t.is)))))

byte_cut : (r : Result (List ℕ) FromHexError) (n : ℕ) → byte_in r ≡ Some n → (bytes : List ℕ) × (r ≡ Ok bytes) × (get_or bytes 0 0 ≡ n)
byte_cut (Ok bytes) n h = (bytes, refl, let e : get_or bytes 0 0 ≡ n = cc in e)
byte_cut (Err e) n h = let none : ⊥ = cc in absurd none

pub two_cut : (n : ℕ) (text : List ℕ) → two_of text ≡ Some n → IsTwo n text
unfolding two_of decode_pairs
two_cut n text h =
    let b = byte_cut (decode_sized text 1) n h in
    by text b.0 (decode_sized-ok text 1 b.0 b.1) b.1 b.2
  where
    by : (text bytes : List ℕ) → length text ≡ 2 * 1 → decode_sized text 1 ≡ Ok bytes → get_or bytes 0 0 ≡ n → IsTwo n text
    by [] bytes l d e = absurd (omega (arith, l))
    by (first ∷ []) bytes l d e = absurd (omega (arith, l))
    by (first ∷ second ∷ third ∷ more) bytes l d e = absurd (omega (arith, l))
    by (first ∷ second ∷ []) bytes l d e =
        let s = by_bind (pair_value first second 0) (λ byte. decode_pairs 2 [] >>= (λ bytes. Ok (byte ∷ bytes))) bytes (sym (decode_sized-pairs (first ∷ second ∷ []) 1 refl refl) ∙ d) in
        let same : s.0 ∷ [] ≡ bytes = cc in
        pair_cut first second 0 n (s.1 ∙ ap Ok (ap (λ l. get_or l 0 0) same ∙ e))

pub two_reads : (n : ℕ) (text : List ℕ) → IsTwo n text → two_of text ≡ Some n
unfolding two_of decode_pairs
two_reads n text t =
    let i : IsTwo n (t.first ∷ t.second ∷ []) = subst (IsTwo n) t.cut t in
    let d : decode_sized (t.first ∷ t.second ∷ []) 1 ≡ Ok (n ∷ []) = decode_sized-pairs (t.first ∷ t.second ∷ []) 1 refl refl ∙ rw (pair_reads t.first t.second 0 n i) refl in
    ap two_of t.cut ∙ ap byte_in d

-- four digits, one by one
record Digits (n : ℕ) (text : List ℕ) : Type 0 where
  a : ℕ
  b : ℕ
  c : ℕ
  d : ℕ
  high : ℕ
  low : ℕ
  cut : text ≡ a ∷ b ∷ c ∷ d ∷ []
  says_high : IsTwo high (a ∷ b ∷ [])
  says_low : IsTwo low (c ∷ d ∷ [])
  is : n ≡ high * 256 + low

four_digits : (n : ℕ) (text : List ℕ) → IsFour n text → Digits n text
four_digits n text f = record {
  a = f.says_high.first;
  b = f.says_high.second;
  c = f.says_low.first;
  d = f.says_low.second;
  high = f.high;
  low = f.low;
  cut = f.cut ∙ ap (λ l. l ++ f.back) f.says_high.cut ∙ ap (λ l. f.says_high.first ∷ f.says_high.second ∷ l) f.says_low.cut;
  says_high = subst (IsTwo f.high) f.says_high.cut f.says_high;
  says_low = subst (IsTwo f.low) f.says_low.cut f.says_low;
  is = f.is;
}

bytes_cut : (r : Result (List ℕ) FromHexError) (n : ℕ) → pair_in r ≡ Some n → (bytes : List ℕ) × (r ≡ Ok bytes) × (get_or bytes 0 0 * 256 + get_or bytes 1 0 ≡ n)
bytes_cut (Ok bytes) n h = (bytes, refl, let e : get_or bytes 0 0 * 256 + get_or bytes 1 0 ≡ n = cc in e)
bytes_cut (Err e) n h = let none : ⊥ = cc in absurd none

pub four_cut : (n : ℕ) (text : List ℕ) → four_of text ≡ Some n → IsFour n text
unfolding four_of decode_pairs
four_cut n text h =
    let b = bytes_cut (decode_sized text 2) n h in
    by text b.0 (decode_sized-ok text 2 b.0 b.1) b.1 b.2
  where
    by : (text bytes : List ℕ) → length text ≡ 2 * 2 → decode_sized text 2 ≡ Ok bytes → get_or bytes 0 0 * 256 + get_or bytes 1 0 ≡ n → IsFour n text
    by [] bytes l d e = absurd (omega (arith, l))
    by (a ∷ []) bytes l d e = absurd (omega (arith, l))
    by (a ∷ b ∷ []) bytes l d e = absurd (omega (arith, l))
    by (a ∷ b ∷ c ∷ []) bytes l d e = absurd (omega (arith, l))
    by (a ∷ b ∷ c ∷ d ∷ more ∷ rest) bytes l k e = absurd (omega (arith, l))
    by (a ∷ b ∷ c ∷ d ∷ []) bytes l k e =
        let s = by_bind (pair_value a b 0) (λ byte. decode_pairs 2 (c ∷ d ∷ []) >>= (λ bytes. Ok (byte ∷ bytes))) bytes (sym (decode_sized-pairs (a ∷ b ∷ c ∷ d ∷ []) 2 refl refl) ∙ k) in
        let t = by_bind (decode_pairs 2 (c ∷ d ∷ [])) (λ bytes. Ok (s.0 ∷ bytes)) bytes s.2 in
        let u = by_bind (pair_value c d 2) (λ byte. decode_pairs 4 [] >>= (λ bytes. Ok (byte ∷ bytes))) t.0 t.1 in
        let back : u.0 ∷ [] ≡ t.0 = cc in
        let same : s.0 ∷ t.0 ≡ bytes = cc in
        let all : s.0 ∷ u.0 ∷ [] ≡ bytes = ap (λ l. s.0 ∷ l) back ∙ same in
        record {
          front = a ∷ b ∷ [];
          back = c ∷ d ∷ [];
          high = s.0;
          low = u.0;
          cut = refl;
          says_high = pair_cut a b 0 s.0 s.1;
          says_low = pair_cut c d 2 u.0 u.1;
          is = sym (ap (λ l. get_or l 0 0 * 256 + get_or l 1 0) all ∙ e);
        }

four_reads : (n : ℕ) (text : List ℕ) → Digits n text → four_of text ≡ Some n
unfolding four_of decode_pairs
four_reads n text f =
    let d : decode_sized (f.a ∷ f.b ∷ f.c ∷ f.d ∷ []) 2 ≡ Ok (f.high ∷ f.low ∷ []) =
    decode_sized-pairs (f.a ∷ f.b ∷ f.c ∷ f.d ∷ []) 2 refl refl
    ∙ rw (pair_reads f.a f.b 0 f.high f.says_high) (rw (pair_reads f.c f.d 2 f.low f.says_low) refl) in
    ap four_of f.cut ∙ ap pair_in d ∙ ap Some (sym f.is)

pub is_four_reads : (n : ℕ) (text : List ℕ) → IsFour n text → four_of text ≡ Some n
is_four_reads n text f = four_reads n text (four_digits n text f)

-- ---- ids

pub both : (a b : Bool) → (a && b) ≡ true → (a ≡ true) × (b ≡ true)
both true b h = (refl, h)
both false b h = let bad : ⊥ = cc in absurd bad

-- a word with a colon behind so many bytes
pub colon_cut : (n : ℕ) (word : List ℕ) → has_colon_at n word ≡ true → word ≡ take n word ++ 58 ∷ drop (suc n) word
colon_cut n word h =
    let t = both (nat_lt n (length word)) (nat_eq (get_or word n 0) 58) h in
    let less : n < length word = ltb-true n (length word) t.0 in
    let here : get_or word n 0 ≡ 58 = eqb-true (get_or word n 0) 58 t.1 in
    sym (take-append-drop n word) ∙ ap (λ l. take n word ++ l) (drop-cons word n 0 less ∙ ap (λ b. b ∷ drop (suc n) word) here)

product_cut : (id : Id) (o : Option ℕ) (v : ℕ) (vendor text : List ℕ) → four_of text ≡ o → four_of vendor ≡ Some v → id_from v o ≡ Some id → IsId id (vendor ++ 58 ∷ text)
product_cut id None v vendor text e k h = let none : ⊥ = cc in absurd none
product_cut id (Some p) v vendor text e k h =
    let same : id_with (Some v) (Some p) ≡ id = cc in
    subst (λ i. IsId i (vendor ++ 58 ∷ text)) same (Exact v p vendor text (four_cut v vendor k) (four_cut p text e))

vendor_cut : (id : Id) (o : Option ℕ) (vendor text : List ℕ) → four_of vendor ≡ o → id_of_vendor o text ≡ Some id → IsId id (vendor ++ 58 ∷ text)
unfolding star
vendor_cut id None vendor text e h = let none : ⊥ = cc in absurd none
vendor_cut id (Some v) vendor text e h = elim (by_test (pointwise nat_eq text star) (Some (id_with (Some v) None)) (id_from v (four_of text)) (Some id) h) [
  | inl p ↦
      let same : id_with (Some v) None ≡ id = same_some (id_with (Some v) None) id p.1 in
      let t : text ≡ star = same_text text star (sym p.0) in
      subst (λ i. IsId i (vendor ++ 58 ∷ text)) same (subst (λ l. IsId (id_with (Some v) None) (vendor ++ 58 ∷ l)) (sym t) (OfVendor v vendor (four_cut v vendor e)))
  | inr p ↦ product_cut id (four_of text) v vendor text refl e p.1
]

pub id_cut : (id : Id) (word : List ℕ) → id_of word ≡ Some id → IsId id word
unfolding id_of two_stars
id_cut id word h = elim (by_test (pointwise nat_eq word two_stars) (Some (id_with None None)) (if has_colon_at 4 word then id_of_vendor (four_of (take 4 word)) (drop 5 word) else None) (Some id) h) [
  | inl p ↦
      let same : id_with None None ≡ id = same_some (id_with None None) id p.1 in
      subst (λ i. IsId i word) same (subst (IsId (id_with None None)) (sym (same_text word two_stars (sym p.0))) Any)
  | inr p ↦ elim (by_test (has_colon_at 4 word) (id_of_vendor (four_of (take 4 word)) (drop 5 word)) None (Some id) p.1) [
    | inl q ↦ subst (IsId id) (sym (colon_cut 4 word q.0)) (vendor_cut id (four_of (take 4 word)) (take 4 word) (drop 5 word) refl q.1)
    | inr q ↦ let none : ⊥ = cc in absurd none
  ]
]

vendor_reads : (v a b c d : ℕ) → four_of (a ∷ b ∷ c ∷ d ∷ []) ≡ Some v → id_of (a ∷ b ∷ c ∷ d ∷ 58 ∷ 42 ∷ []) ≡ Some (id_with (Some v) None)
unfolding id_of star two_stars
vendor_reads v a b c d f =
    ap (λ (t : Bool). if t then Some (id_with None None) else id_of_vendor (four_of (a ∷ b ∷ c ∷ d ∷ [])) (42 ∷ [])) (unequal nat_eq (a ∷ b ∷ c ∷ d ∷ 58 ∷ 42 ∷ []) two_stars (omega arith))
    ∙ ap (λ o. id_of_vendor o (42 ∷ [])) f

exact_reads : (v p a b c d e f g h : ℕ) → four_of (a ∷ b ∷ c ∷ d ∷ []) ≡ Some v → four_of (e ∷ f ∷ g ∷ h ∷ []) ≡ Some p → id_of (a ∷ b ∷ c ∷ d ∷ 58 ∷ e ∷ f ∷ g ∷ h ∷ []) ≡ Some (id_with (Some v) (Some p))
unfolding id_of star two_stars
exact_reads v p a b c d e f g h k l =
    ap (λ (t : Bool). if t then Some (id_with None None) else id_of_vendor (four_of (a ∷ b ∷ c ∷ d ∷ [])) (e ∷ f ∷ g ∷ h ∷ [])) (unequal nat_eq (a ∷ b ∷ c ∷ d ∷ 58 ∷ e ∷ f ∷ g ∷ h ∷ []) two_stars (omega arith))
    ∙ (ap (λ o. id_of_vendor o (e ∷ f ∷ g ∷ h ∷ [])) k
    ∙ (ap (λ (t : Bool). if t then Some (id_with (Some v) None) else id_from v (four_of (e ∷ f ∷ g ∷ h ∷ []))) (unequal nat_eq (e ∷ f ∷ g ∷ h ∷ []) star (omega arith))
    ∙ ap (id_from v) l))

pub id_reads : (id : Id) (word : List ℕ) → IsId id word → id_of word ≡ Some id
unfolding id_of two_stars
id_reads id word Any = refl
id_reads id word (OfVendor v vendor f) =
    let d : Digits v vendor = four_digits v vendor f in
    ap (λ l. id_of (l ++ codes ":*")) d.cut ∙ vendor_reads v d.a d.b d.c d.d (ap four_of (sym d.cut) ∙ is_four_reads v vendor f)
id_reads id word (Exact v p vendor product f g) =
    let d : Digits v vendor = four_digits v vendor f in
    let e : Digits p product = four_digits p product g in
    ap (λ l. id_of (l ++ (codes ":" ++ product))) d.cut
    ∙ (ap (λ l. id_of (d.a ∷ d.b ∷ d.c ∷ d.d ∷ 58 ∷ l)) e.cut
    ∙ exact_reads v p d.a d.b d.c d.d e.a e.b e.c e.d (ap four_of (sym d.cut) ∙ is_four_reads v vendor f) (ap four_of (sym e.cut) ∙ is_four_reads p product g))

-- ---- interfaces

protocol_cut : (iface : Iface) (o : Option ℕ) (c s : ℕ) (class subclass text : List ℕ) → two_of text ≡ o → two_of class ≡ Some c → two_of subclass ≡ Some s → interface_from c s o ≡ Some iface → IsInterface iface (class ++ 58 ∷ (subclass ++ 58 ∷ text))
protocol_cut iface None c s class subclass text e k l h = let none : ⊥ = cc in absurd none
protocol_cut iface (Some p) c s class subclass text e k l h =
    let same : interface_with c (Some s) (Some p) ≡ iface = cc in
    subst (λ i. IsInterface i (class ++ 58 ∷ (subclass ++ 58 ∷ text))) same (OfProtocol c s p class subclass text (two_cut c class k) (two_cut s subclass l) (two_cut p text e))

subclass_cut : (iface : Iface) (o : Option ℕ) (c : ℕ) (class subclass text : List ℕ) → two_of subclass ≡ o → two_of class ≡ Some c → interface_of_subclass c o text ≡ Some iface → IsInterface iface (class ++ 58 ∷ (subclass ++ 58 ∷ text))
unfolding star
subclass_cut iface None c class subclass text e k h = let none : ⊥ = cc in absurd none
subclass_cut iface (Some s) c class subclass text e k h = elim (by_test (pointwise nat_eq text star) (Some (interface_with c (Some s) None)) (interface_from c s (two_of text)) (Some iface) h) [
  | inl p ↦
      let same : interface_with c (Some s) None ≡ iface = same_some (interface_with c (Some s) None) iface p.1 in
      let t : text ≡ star = same_text text star (sym p.0) in
      subst (λ i. IsInterface i (class ++ 58 ∷ (subclass ++ 58 ∷ text))) same
      (subst (λ l. IsInterface (interface_with c (Some s) None) (class ++ 58 ∷ (subclass ++ 58 ∷ l))) (sym t) (OfSubclass c s class subclass (two_cut c class k) (two_cut s subclass e)))
  | inr p ↦ protocol_cut iface (two_of text) c s class subclass text refl k e p.1
]

class_cut : (iface : Iface) (o : Option ℕ) (class text : List ℕ) → two_of class ≡ o → interface_of_class o text ≡ Some iface → IsInterface iface (class ++ 58 ∷ text)
unfolding two_stars
class_cut iface None class text e h = let none : ⊥ = cc in absurd none
class_cut iface (Some c) class text e h = elim (by_test (pointwise nat_eq text two_stars) (Some (interface_with c None None)) (if has_colon_at 2 text then interface_of_subclass c (two_of (take 2 text)) (drop 3 text) else None) (Some iface) h) [
  | inl p ↦
      let same : interface_with c None None ≡ iface = same_some (interface_with c None None) iface p.1 in
      let t : text ≡ two_stars = same_text text two_stars (sym p.0) in
      subst (λ i. IsInterface i (class ++ 58 ∷ text)) same (subst (λ l. IsInterface (interface_with c None None) (class ++ 58 ∷ l)) (sym t) (OfClass c class (two_cut c class e)))
  | inr p ↦ elim (by_test (has_colon_at 2 text) (interface_of_subclass c (two_of (take 2 text)) (drop 3 text)) None (Some iface) p.1) [
    | inl q ↦ subst (λ l. IsInterface iface (class ++ 58 ∷ l)) (sym (colon_cut 2 text q.0)) (subclass_cut iface (two_of (take 2 text)) c class (take 2 text) (drop 3 text) refl e q.1)
    | inr q ↦ let none : ⊥ = cc in absurd none
  ]
]

pub interface_cut : (iface : Iface) (word : List ℕ) → interface_of word ≡ Some iface → IsInterface iface word
unfolding interface_of
interface_cut iface word h = elim (by_test (has_colon_at 2 word) (interface_of_class (two_of (take 2 word)) (drop 3 word)) None (Some iface) h) [
  | inl q ↦ subst (IsInterface iface) (sym (colon_cut 2 word q.0)) (class_cut iface (two_of (take 2 word)) (take 2 word) (drop 3 word) refl q.1)
  | inr q ↦ let none : ⊥ = cc in absurd none
]

class_reads : (c a b : ℕ) → two_of (a ∷ b ∷ []) ≡ Some c → interface_of (a ∷ b ∷ codes ":*:*") ≡ Some (interface_with c None None)
unfolding interface_of two_stars
class_reads c a b e = ap (λ o. interface_of_class o (codes "*:*")) e

subclass_reads : (c s a b d e : ℕ) → two_of (a ∷ b ∷ []) ≡ Some c → two_of (d ∷ e ∷ []) ≡ Some s → interface_of (a ∷ b ∷ 58 ∷ d ∷ e ∷ 58 ∷ 42 ∷ []) ≡ Some (interface_with c (Some s) None)
unfolding interface_of star two_stars
subclass_reads c s a b d e k l =
    ap (λ o. interface_of_class o (d ∷ e ∷ 58 ∷ 42 ∷ [])) k
    ∙ (ap (λ (t : Bool). if t then Some (interface_with c None None) else interface_of_subclass c (two_of (d ∷ e ∷ [])) (42 ∷ [])) (unequal nat_eq (d ∷ e ∷ 58 ∷ 42 ∷ []) two_stars (omega arith))
    ∙ ap (λ o. interface_of_subclass c o (42 ∷ [])) l)

protocol_reads : (c s p a b d e f g : ℕ) → two_of (a ∷ b ∷ []) ≡ Some c → two_of (d ∷ e ∷ []) ≡ Some s → two_of (f ∷ g ∷ []) ≡ Some p → interface_of (a ∷ b ∷ 58 ∷ d ∷ e ∷ 58 ∷ f ∷ g ∷ []) ≡ Some (interface_with c (Some s) (Some p))
unfolding interface_of star two_stars
protocol_reads c s p a b d e f g k l m =
    ap (λ o. interface_of_class o (d ∷ e ∷ 58 ∷ f ∷ g ∷ [])) k
    ∙ (ap (λ (t : Bool). if t then Some (interface_with c None None) else interface_of_subclass c (two_of (d ∷ e ∷ [])) (f ∷ g ∷ [])) (unequal nat_eq (d ∷ e ∷ 58 ∷ f ∷ g ∷ []) two_stars (omega arith))
    ∙ (ap (λ o. interface_of_subclass c o (f ∷ g ∷ [])) l
    ∙ (ap (λ (t : Bool). if t then Some (interface_with c (Some s) None) else interface_from c s (two_of (f ∷ g ∷ []))) (unequal nat_eq (f ∷ g ∷ []) star (omega arith))
    ∙ ap (interface_from c s) m)))

pub interface_reads : (iface : Iface) (word : List ℕ) → IsInterface iface word → interface_of word ≡ Some iface
interface_reads iface word (OfClass c class t) =
    ap (λ l. interface_of (l ++ codes ":*:*")) t.cut ∙ class_reads c t.first t.second (ap two_of (sym t.cut) ∙ two_reads c class t)
interface_reads iface word (OfSubclass c s class subclass t u) =
    ap (λ l. interface_of (l ++ (codes ":" ++ (subclass ++ codes ":*")))) t.cut
    ∙ (ap (λ l. interface_of (t.first ∷ t.second ∷ 58 ∷ (l ++ codes ":*"))) u.cut
    ∙ subclass_reads c s t.first t.second u.first u.second (ap two_of (sym t.cut) ∙ two_reads c class t) (ap two_of (sym u.cut) ∙ two_reads s subclass u))
interface_reads iface word (OfProtocol c s p class subclass protocol t u v) =
    ap (λ l. interface_of (l ++ (codes ":" ++ (subclass ++ (codes ":" ++ protocol))))) t.cut
    ∙ (ap (λ l. interface_of (t.first ∷ t.second ∷ 58 ∷ (l ++ (codes ":" ++ protocol)))) u.cut
    ∙ (ap (λ l. interface_of (t.first ∷ t.second ∷ 58 ∷ u.first ∷ u.second ∷ 58 ∷ l)) v.cut
    ∙ protocol_reads c s p t.first t.second u.first u.second v.first v.second (ap two_of (sym t.cut) ∙ two_reads c class t) (ap two_of (sym u.cut) ∙ two_reads s subclass u) (ap two_of (sym v.cut) ∙ two_reads p protocol v)))
