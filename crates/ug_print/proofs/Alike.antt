-- Which devices the rule of a device matches.
use Rattle.std.proofs.Common.{◌≡◌, ◌↔◌, ℕ, Bool, true, false, ◌&&◌, ◌||◌, nat_eq, IsTrue, List, [], ◌∷◌, map, None, Some, refl, sym, ap, subst, ◌∙◌, if◌then◌else◌}
use Rattle.std.specs.Bool.{Decides}
use Rattle.std.specs.Cmp.Lexicographic.{bytes_decides}
use Rattle.std.proofs.lemmas.Bool.Decides.{Decides-and, Decides-at, Decides-eqb, Decides-like}
use Rattle.ug_types.proofs.Elements.{map_has, has_map}
use Rattle.ug_types.specs.Elements.{Has}
use Rattle.ug_types.specs.declared.record.DeviceRecord.{DeviceRecord}
use Rattle.ug_types.specs.declared.record.Triple.{Triple}
use Rattle.ug_types.specs.declared.rule.Iface.{Iface}
use Rattle.ug_types.specs.declared.rule.Op.TheVariants.{Equals}
use Rattle.ug_match.specs.Covers.{covers_id, covers_interface, covers_text}
use Rattle.ug_match.specs.Operators.{holds, IsMatched, MatchesSome}
use Rattle.ug_match.specs.Queries.{attribute, query_matches}
use Rattle.ug_match.proofs.Membership.{equals_decides}
use Rattle.ug_words.specs.WordGrammar.{id_with}
use Rattle.ug_print.specs.Alike.{HasInterfaces, IsAlike}
use Rattle.ug_print.specs.Generated.{equals, interface_of_triple, interfaces_value, device_query}

-- ---- one value

twice : (b : Bool) → (((b || false) && true) && ((b || false) && true)) ≡ b
twice true = refl
twice false = refl

one_decides : {X Y P : Type 0} (covers : X → Y → Bool) (x : X) (y : Y) → Decides (covers x y) P → Decides (holds covers Equals (x ∷ []) (y ∷ [])) P
one_decides covers x y d = Decides-at (holds covers Equals (x ∷ []) (y ∷ [])) (covers x y) (twice (covers x y)) d

text_decides : (ours theirs : List ℕ) → Decides (attribute covers_text (equals (ours ∷ [])) (theirs ∷ [])) (ours ≡ theirs)
text_decides ours theirs = one_decides covers_text ours theirs (bytes_decides ours theirs)

id_decides : (device other : DeviceRecord) → Decides (attribute covers_id (equals (id_with (Some device.vendor) (Some device.product) ∷ [])) (record { vendor = other.vendor; product = other.product } ∷ [])) ((device.vendor ≡ other.vendor) × (device.product ≡ other.product))
id_decides device other =
    one_decides covers_id (id_with (Some device.vendor) (Some device.product)) (record { vendor = other.vendor; product = other.product })
    (Decides-and (nat_eq device.vendor other.vendor) (nat_eq device.product other.product) (Decides-eqb device.vendor other.vendor) (Decides-eqb device.product other.product))

port_decides : (with_port : Bool) (ours theirs : List ℕ) → Decides (attribute covers_text (if with_port then equals (ours ∷ []) else None) (theirs ∷ [])) (IsTrue with_port → ours ≡ theirs)
port_decides true ours theirs = Decides-like {P = ours ≡ theirs} (holds covers_text Equals (ours ∷ []) (theirs ∷ [])) (λ e t. e) (λ f. f refl) (text_decides ours theirs)
port_decides false ours theirs = (λ h t. let none : ⊥ = cc in absurd none, λ f. refl)

-- ---- interfaces

same_triple : (a b : Triple) → ((a.class ≡ b.class) × (a.subclass ≡ b.subclass)) × (a.protocol ≡ b.protocol) → a ≡ b
same_triple a b h =
    let make : ℕ → ℕ → ℕ → Triple = λ class subclass protocol. record { class = class; subclass = subclass; protocol = protocol } in
    ap (λ (n : ℕ). make n a.subclass a.protocol) h.0.0 ∙ ap (λ (n : ℕ). make b.class n a.protocol) h.0.1 ∙ ap (λ (n : ℕ). make b.class b.subclass n) h.1

triple_decides : (a b : Triple) → Decides (covers_interface (interface_of_triple a) b) (a ≡ b)
triple_decides a b =
    Decides-like {P = ((a.class ≡ b.class) × (a.subclass ≡ b.subclass)) × (a.protocol ≡ b.protocol)} (covers_interface (interface_of_triple a) b) (same_triple a b)
    (λ e. ((ap (λ (t : Triple). t.class) e, ap (λ (t : Triple). t.subclass) e), ap (λ (t : Triple). t.protocol) e))
    (Decides-and (nat_eq a.class b.class && nat_eq a.subclass b.subclass) (nat_eq a.protocol b.protocol)
    (Decides-and (nat_eq a.class b.class) (nat_eq a.subclass b.subclass) (Decides-eqb a.class b.class) (Decides-eqb a.subclass b.subclass)) (Decides-eqb a.protocol b.protocol))

abbrev Matched : List Triple → List Triple → Type 0
Matched ours theirs = ((rule : Iface) → Has (map interface_of_triple ours) rule → MatchesSome covers_interface theirs rule) × ((value : Triple) → Has theirs value → IsMatched covers_interface (map interface_of_triple ours) value)

abbrev SameTriples : List Triple → List Triple → Type 0
SameTriples ours theirs = (t : Triple) → Has ours t ↔ Has theirs t

same_from : (ours theirs : List Triple) → Matched ours theirs → SameTriples ours theirs
same_from ours theirs m t = (
  λ h.
      let s : MatchesSome covers_interface theirs (interface_of_triple t) = m.0 (interface_of_triple t) (has_map interface_of_triple ours t h) in
      subst (Has theirs) (sym ((triple_decides t s.0).0 s.2)) s.1,
  λ h.
      let s : IsMatched covers_interface (map interface_of_triple ours) t = m.1 t h in
      let k = map_has interface_of_triple ours s.0 s.1 in
      let covered : IsTrue (covers_interface (interface_of_triple k.0) t) = subst (λ (i : Iface). IsTrue (covers_interface i t)) (sym k.2) s.2 in
      subst (Has ours) ((triple_decides k.0 t).0 covered) k.1,
)

same_to : (ours theirs : List Triple) → SameTriples ours theirs → Matched ours theirs
same_to ours theirs s = (
  λ rule h.
      let k = map_has interface_of_triple ours rule h in
      (k.0, (s k.0).0 k.1, subst (λ (i : Iface). IsTrue (covers_interface i k.0)) k.2 ((triple_decides k.0 k.0).1 refl)),
  λ value h. (interface_of_triple value, has_map interface_of_triple ours value ((s value).1 h), (triple_decides value value).1 refl),
)

interfaces_decide : (ours theirs : List Triple) → Decides (attribute covers_interface (interfaces_value ours) theirs) (HasInterfaces ours theirs)
interfaces_decide [] theirs = (λ h. tt, λ h. refl)
interfaces_decide (t ∷ ours) theirs =
    Decides-like {P = Matched (t ∷ ours) theirs} (holds covers_interface Equals (map interface_of_triple (t ∷ ours)) theirs)
    (same_from (t ∷ ours) theirs) (same_to (t ∷ ours) theirs) (equals_decides covers_interface (map interface_of_triple (t ∷ ours)) theirs)

-- ---- the query

pub alike : (device other : DeviceRecord) (with_port : Bool) → Decides (query_matches (device_query device with_port) other) (IsAlike with_port device other)
unfolding query_matches device_query
alike device other with_port =
    let d0 = id_decides device other in
    let d1 = Decides-and _ _ d0 (text_decides device.serial other.serial) in
    let d2 = Decides-and _ _ d1 (text_decides device.name other.name) in
    let d3 = Decides-and _ _ d2 (text_decides device.hash other.hash) in
    let d4 = Decides-and _ _ d3 (text_decides device.parent_hash other.parent_hash) in
    let d5 = Decides-and _ _ d4 (port_decides with_port device.via_port other.via_port) in
    let d6 = Decides-and _ _ d5 (interfaces_decide device.interfaces other.interfaces) in
    let d7 = Decides-and _ _ d6 (text_decides device.connect other.connect) in (
      λ h. let p = d7.0 h in record {
        vendor = p.0.0.0.0.0.0.0.0;
        product = p.0.0.0.0.0.0.0.1;
        serial = p.0.0.0.0.0.0.1;
        name = p.0.0.0.0.0.1;
        hash = p.0.0.0.0.1;
        parent_hash = p.0.0.0.1;
        via_port = p.0.0.1;
        interfaces = p.0.1;
        connect = p.1;
      },
      λ a. d7.1 ((((((((a.vendor, a.product), a.serial), a.name), a.hash), a.parent_hash), a.via_port), a.interfaces), a.connect),
    )

has_own : (triples : List Triple) → HasInterfaces triples triples
has_own [] = tt
has_own (t ∷ triples) = λ x. (λ h. h, λ h. h)

pub itself : (device : DeviceRecord) (with_port : Bool) → query_matches (device_query device with_port) device ≡ true
itself device with_port = (alike device device with_port).1 (record { vendor = refl; product = refl; serial = refl; name = refl; hash = refl; parent_hash = refl; via_port = λ t. refl; interfaces = has_own device.interfaces; connect = refl })
