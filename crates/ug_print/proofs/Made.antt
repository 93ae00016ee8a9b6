-- When a rule is the one that is made of a device.
use Rattle.std.proofs.Common.{◌≡◌, ◌↔◌, ℕ, suc, arith, Bool, true, false, ◌&&◌, is_none, nat_eq, IsTrue, List, [], ◌∷◌, length, map, Option, None, Some, refl, ap, ◌∙◌, if◌then◌else◌}
use Rattle.std.specs.Cmp.Lexicographic.{pointwise}
use Rattle.std.specs.List.{list_all, zip}
use Rattle.std.specs.Bool.{Decides}
use Rattle.std.specs.Cmp.Lexicographic.{bytes_decides}
use Rattle.std.proofs.lemmas.Bool.Decides.{Decides-and, Decides-eqb, Decides-like}
use Rattle.std.proofs.lemmas.Option.{same_Some}
use Rattle.ug_types.specs.declared.record.DeviceRecord.{DeviceRecord}
use Rattle.ug_types.specs.declared.record.Triple.{Triple}
use Rattle.ug_types.specs.declared.rule.Conds.{Conds}
use Rattle.ug_types.specs.declared.rule.Id.{Id}
use Rattle.ug_types.specs.declared.rule.Iface.{Iface}
use Rattle.ug_types.specs.declared.rule.Op.{Op}
use Rattle.ug_types.specs.declared.rule.Op.TheVariants.{AllOf, OneOf, NoneOf, Equals, EqualsOrdered}
use Rattle.ug_types.specs.declared.rule.Query.{Query}
use Rattle.ug_types.specs.declared.rule.Rule.{Rule}
use Rattle.ug_types.specs.declared.rule.Values.{Values}
use Rattle.ug_print.specs.Generated.{equals, generated_of, interface_of_triple, interfaces_value, device_query}
use Rattle.ug_print.specs.Made.{are_interfaces, is_equals, is_for_interfaces, is_interface, is_just_id, is_just_text, is_made_of, is_number, is_one_id, is_one_text, is_port, is_query_of}

op_is : (op : Op) → Decides (is_equals op) (op ≡ Equals)
op_is Equals = (λ h. refl, λ e. refl)
op_is AllOf = (λ h. let none : ⊥ = cc in absurd none, λ e. let none : ⊥ = cc in absurd none)
op_is OneOf = (λ h. let none : ⊥ = cc in absurd none, λ e. let none : ⊥ = cc in absurd none)
op_is NoneOf = (λ h. let none : ⊥ = cc in absurd none, λ e. let none : ⊥ = cc in absurd none)
op_is EqualsOrdered = (λ h. let none : ⊥ = cc in absurd none, λ e. let none : ⊥ = cc in absurd none)

none_is : {X : Type 0} (o : Option X) → Decides (is_none o) (o ≡ None)
none_is None = (λ h. refl, λ e. refl)
none_is (Some x) = (λ h. let none : ⊥ = cc in absurd none, λ e. let none : ⊥ = cc in absurd none)

-- a set of values with `equals`
set_is : {X : Type 0} (b : Bool) (values : Values X) (items : List X) → Decides b (values.items ≡ items) → Decides (is_equals values.op && b) (Some values ≡ equals items)
set_is {X} b values items d =
    let make : Op → List X → Option (Values X) = λ op xs. Some (record { op = op; items = xs }) in
    let whole : Values X = record { op = Equals; items = items } in
    Decides-like {P = (values.op ≡ Equals) × (values.items ≡ items)} (is_equals values.op && b)
    (λ p. ap (λ (op : Op). make op values.items) p.0 ∙ ap (λ (xs : List X). make Equals xs) p.1)
    (λ e. let same = same_Some values whole e in (ap (λ (v : Values X). v.op) same, ap (λ (v : Values X). v.items) same))
    (Decides-and (is_equals values.op) b (op_is values.op) d)

not_set : {X : Type 0} (items : List X) → Decides false (None ≡ equals items)
not_set items = (λ h. let none : ⊥ = cc in absurd none, λ e. let none : ⊥ = cc in absurd none)

just_text_is : (text : List ℕ) (items : List (List ℕ)) → Decides (is_just_text text items) (items ≡ text ∷ [])
just_text_is text [] = (λ h. let none : ⊥ = cc in absurd none, λ e. let none : ⊥ = cc in absurd none)
just_text_is text (item ∷ []) =
    Decides-like {P = item ≡ text} (pointwise nat_eq item text) (λ e. ap (λ (t : List ℕ). t ∷ []) e) (λ e. let one : item ≡ text = cc in one) (bytes_decides item text)
just_text_is text (first ∷ second ∷ items) = (λ h. let none : ⊥ = cc in absurd none, λ e. let none : ⊥ = cc in absurd none)

one_text_is : (text : List ℕ) (values : Option (Values (List ℕ))) → Decides (is_one_text text values) (values ≡ equals (text ∷ []))
one_text_is text (Some values) = set_is (is_just_text text values.items) values (text ∷ []) (just_text_is text values.items)
one_text_is text None = not_set (text ∷ [])

port_is : (with_port : Bool) (port : List ℕ) (values : Option (Values (List ℕ))) → Decides (is_port with_port port values) (values ≡ (if with_port then equals (port ∷ []) else None))
port_is true port values = one_text_is port values
port_is false port values = none_is values

number_is : (n : ℕ) (o : Option ℕ) → Decides (is_number n o) (o ≡ Some n)
number_is n (Some value) = Decides-like {P = value ≡ n} (nat_eq value n) (λ e. ap Some e) (λ e. same_Some value n e) (Decides-eqb value n)
number_is n None = (λ h. let none : ⊥ = cc in absurd none, λ e. let none : ⊥ = cc in absurd none)

just_id_is : (vendor product : ℕ) (items : List Id) → Decides (is_just_id vendor product items) (items ≡ record { vendor = Some vendor; product = Some product } ∷ [])
just_id_is vendor product [] = (λ h. let none : ⊥ = cc in absurd none, λ e. let none : ⊥ = cc in absurd none)
just_id_is vendor product (item ∷ []) =
    let make : Option ℕ → Option ℕ → List Id = λ v p. record { vendor = v; product = p } ∷ [] in
    let whole : Id = record { vendor = Some vendor; product = Some product } in
    Decides-like {P = (item.vendor ≡ Some vendor) × (item.product ≡ Some product)} (is_number vendor item.vendor && is_number product item.product)
    (λ p. ap (λ (v : Option ℕ). make v item.product) p.0 ∙ ap (λ (q : Option ℕ). make (Some vendor) q) p.1)
    (λ e. let one : item ≡ whole = cc in (ap (λ (i : Id). i.vendor) one, ap (λ (i : Id). i.product) one))
    (Decides-and (is_number vendor item.vendor) (is_number product item.product) (number_is vendor item.vendor) (number_is product item.product))
just_id_is vendor product (first ∷ second ∷ items) = (λ h. let none : ⊥ = cc in absurd none, λ e. let none : ⊥ = cc in absurd none)

one_id_is : (vendor product : ℕ) (values : Option (Values Id)) → Decides (is_one_id vendor product values) (values ≡ equals (record { vendor = Some vendor; product = Some product } ∷ []))
one_id_is vendor product (Some values) = set_is (is_just_id vendor product values.items) values (record { vendor = Some vendor; product = Some product } ∷ []) (just_id_is vendor product values.items)
one_id_is vendor product None = not_set (record { vendor = Some vendor; product = Some product } ∷ [])

interface_is : (item : Iface) (triple : Triple) → Decides (is_interface item triple) (item ≡ interface_of_triple triple)
interface_is item triple =
    let make : ℕ → Option ℕ → Option ℕ → Iface = λ class subclass protocol. record { class = class; subclass = subclass; protocol = protocol } in
    Decides-like {P = ((item.class ≡ triple.class) × (item.subclass ≡ Some triple.subclass)) × (item.protocol ≡ Some triple.protocol)} (is_interface item triple)
    (λ p. ap (λ (c : ℕ). make c item.subclass item.protocol) p.0.0 ∙ ap (λ (s : Option ℕ). make triple.class s item.protocol) p.0.1 ∙ ap (λ (q : Option ℕ). make triple.class (Some triple.subclass) q) p.1)
    (λ e. ((ap (λ (i : Iface). i.class) e, ap (λ (i : Iface). i.subclass) e), ap (λ (i : Iface). i.protocol) e))
    (Decides-and (nat_eq item.class triple.class && is_number triple.subclass item.subclass) (is_number triple.protocol item.protocol)
    (Decides-and (nat_eq item.class triple.class) (is_number triple.subclass item.subclass) (Decides-eqb item.class triple.class) (number_is triple.subclass item.subclass)) (number_is triple.protocol item.protocol))

made_length : (triples : List Triple) → length (map interface_of_triple triples) ≡ length triples
made_length [] = refl
made_length (t ∷ triples) = ap suc (made_length triples)

pairs_are : (items : List Iface) (triples : List Triple) → length items ≡ length triples → Decides (list_all (λ (pair : Iface × Triple). is_interface pair.0 pair.1) (zip items triples)) (items ≡ map interface_of_triple triples)
pairs_are [] [] same = (λ h. refl, λ e. refl)
pairs_are [] (t ∷ triples) same = let none : ⊥ = omega (arith, same) in absurd none
pairs_are (i ∷ items) [] same = let none : ⊥ = omega (arith, same) in absurd none
pairs_are (i ∷ items) (t ∷ triples) same =
    let rest : length items ≡ length triples = omega (arith, same) in
    Decides-like {P = (i ≡ interface_of_triple t) × (items ≡ map interface_of_triple triples)} (is_interface i t && list_all (λ (pair : Iface × Triple). is_interface pair.0 pair.1) (zip items triples))
    (λ p. ap (λ (x : Iface). x ∷ items) p.0 ∙ ap (λ (xs : List Iface). interface_of_triple t ∷ xs) p.1)
    (λ e. let first : i ≡ interface_of_triple t = cc in let others : items ≡ map interface_of_triple triples = cc in (first, others))
    (Decides-and (is_interface i t) (list_all (λ (pair : Iface × Triple). is_interface pair.0 pair.1) (zip items triples)) (interface_is i t) (pairs_are items triples rest))

interfaces_are : (items : List Iface) (triples : List Triple) → Decides (are_interfaces items triples) (items ≡ map interface_of_triple triples)
interfaces_are items triples = by_length (nat_eq (length items) (length triples)) refl
  where
    by_length : (b : Bool) → nat_eq (length items) (length triples) ≡ b → Decides (b && list_all (λ (pair : Iface × Triple). is_interface pair.0 pair.1) (zip items triples)) (items ≡ map interface_of_triple triples)
    by_length true is = pairs_are items triples ((Decides-eqb (length items) (length triples)).0 is)
    by_length false is = (
      λ h. let none : ⊥ = cc in absurd none,
      λ e.
          let same : nat_eq (length items) (length triples) ≡ true = (Decides-eqb (length items) (length triples)).1 (ap (λ (xs : List Iface). length xs) e ∙ made_length triples) in
          let none : ⊥ = cc in
          absurd none,
    )

for_interfaces_is : (triples : List Triple) (values : Option (Values Iface)) → Decides (is_for_interfaces triples values) (values ≡ interfaces_value triples)
for_interfaces_is [] values = none_is values
for_interfaces_is (t ∷ triples) (Some values) = set_is (are_interfaces values.items (t ∷ triples)) values (map interface_of_triple (t ∷ triples)) (interfaces_are values.items (t ∷ triples))
for_interfaces_is (t ∷ triples) None = not_set (map interface_of_triple (t ∷ triples))

query_is : (device : DeviceRecord) (with_port : Bool) (query : Query) → Decides (is_query_of device with_port query) (query ≡ device_query device with_port)
unfolding device_query
query_is device with_port q =
    let made : Query = device_query device with_port in
    let a = is_one_id device.vendor device.product q.id in
    let b = is_one_text device.serial q.serial in
    let c = is_one_text device.name q.name in
    let d = is_one_text device.hash q.hash in
    let e = is_one_text device.parent_hash q.parent_hash in
    let f = is_port with_port device.via_port q.via_port in
    let g = is_for_interfaces device.interfaces q.interface in
    let h = is_one_text device.connect q.connect in
    let i = is_none q.label in
    let all = Decides-and (((((((a && b) && c) && d) && e) && f) && g) && h) i
    (Decides-and ((((((a && b) && c) && d) && e) && f) && g) h
    (Decides-and (((((a && b) && c) && d) && e) && f) g
    (Decides-and ((((a && b) && c) && d) && e) f
    (Decides-and (((a && b) && c) && d) e
    (Decides-and ((a && b) && c) d
    (Decides-and (a && b) c
    (Decides-and a b (one_id_is device.vendor device.product q.id) (one_text_is device.serial q.serial))
    (one_text_is device.name q.name)) (one_text_is device.hash q.hash)) (one_text_is device.parent_hash q.parent_hash))
    (port_is with_port device.via_port q.via_port)) (for_interfaces_is device.interfaces q.interface)) (one_text_is device.connect q.connect)) (none_is q.label) in
    let make : Option (Values Id) → Option (Values (List ℕ)) → Option (Values (List ℕ)) → Option (Values (List ℕ)) → Option (Values (List ℕ)) → Option (Values (List ℕ)) → Option (Values Iface) → Option (Values (List ℕ)) → Option (List ℕ) → Query =
    λ id serial name hash parent_hash via_port interface connect label. record { id = id; serial = serial; name = name; hash = hash; parent_hash = parent_hash; via_port = via_port; interface = interface; connect = connect; label = label } in (
      λ t.
          let p = all.0 t in
          ap (λ x. make x q.serial q.name q.hash q.parent_hash q.via_port q.interface q.connect q.label) p.0.0.0.0.0.0.0.0
          ∙ ap (λ x. make made.id x q.name q.hash q.parent_hash q.via_port q.interface q.connect q.label) p.0.0.0.0.0.0.0.1
          ∙ ap (λ x. make made.id made.serial x q.hash q.parent_hash q.via_port q.interface q.connect q.label) p.0.0.0.0.0.0.1
          ∙ ap (λ x. make made.id made.serial made.name x q.parent_hash q.via_port q.interface q.connect q.label) p.0.0.0.0.0.1
          ∙ ap (λ x. make made.id made.serial made.name made.hash x q.via_port q.interface q.connect q.label) p.0.0.0.0.1
          ∙ ap (λ x. make made.id made.serial made.name made.hash made.parent_hash x q.interface q.connect q.label) p.0.0.0.1
          ∙ ap (λ x. make made.id made.serial made.name made.hash made.parent_hash made.via_port x q.connect q.label) p.0.0.1
          ∙ ap (λ x. make made.id made.serial made.name made.hash made.parent_hash made.via_port made.interface x q.label) p.0.1
          ∙ ap (λ x. make made.id made.serial made.name made.hash made.parent_hash made.via_port made.interface made.connect x) p.1,
      λ same.
          all.1 ((((((((ap (λ (x : Query). x.id) same, ap (λ (x : Query). x.serial) same), ap (λ (x : Query). x.name) same), ap (λ (x : Query). x.hash) same), ap (λ (x : Query). x.parent_hash) same), ap (λ (x : Query). x.via_port) same), ap (λ (x : Query). x.interface) same), ap (λ (x : Query). x.connect) same), ap (λ (x : Query). x.label) same),
    )

pub made_is : (device : DeviceRecord) (with_port : Bool) (rule : Rule) → IsTrue (is_made_of device with_port rule) ↔ (rule ≡ generated_of device rule.target with_port)
unfolding is_made_of generated_of
made_is device with_port rule =
    let make : Query → Option Conds → Rule = λ query conds. record { target = rule.target; query = query; conds = conds } in
    Decides-like {P = (rule.query ≡ device_query device with_port) × (rule.conds ≡ None)} (is_query_of device with_port rule.query && is_none rule.conds)
    (λ p. ap (λ (q : Query). make q rule.conds) p.0 ∙ ap (λ (c : Option Conds). make (device_query device with_port) c) p.1)
    (λ e. (ap (λ (r : Rule). r.query) e, ap (λ (r : Rule). r.conds) e))
    (Decides-and (is_query_of device with_port rule.query) (is_none rule.conds) (query_is device with_port rule.query) (none_is rule.conds))
