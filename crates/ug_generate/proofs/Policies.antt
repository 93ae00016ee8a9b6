-- What a first policy does.
use Rattle.std.proofs.Common.{◌≡◌, ℕ, Bool, true, false, List, [], ◌∷◌, Option, Some, None, slice_get, inl, inr, refl, sym, ap, ◌∙◌, subst}
use Rattle.std.specs.Prelude.{◌↔◌}
use Rattle.std.specs.List.{flat_map}
use Rattle.std.specs.Option.{option_map}
use Rattle.std.proofs.lemmas.Bool.{cond-true, cond-false}
use Rattle.ug_types.specs.Elements.{Has}
use Rattle.ug_types.specs.declared.record.Attrs.{Attrs}
use Rattle.ug_types.specs.declared.record.DeviceRecord.{DeviceRecord}
use Rattle.ug_types.specs.declared.record.Judged.{Judged}
use Rattle.ug_types.specs.declared.record.Judged.TheVariants.{Good, Malformed}
use Rattle.ug_types.specs.declared.rule.Rule.{Rule}
use Rattle.ug_types.specs.declared.verdict.Target.TheVariants.{Allow}
use Rattle.ug_kernel.specs.Kernel.{Kernel, Live}
use Rattle.ug_kernel.specs.declared.device.Device.{Device}
use Rattle.ug_kernel.specs.Bound.{attrs_of, parent_attrs_of, IsParentRead}
use Rattle.ug_record.specs.Records.{judged_of}
use Rattle.ug_match.specs.Queries.{query_matches}
use Rattle.ug_print.specs.Generated.{generated_of}
use Rattle.ug_print.proofs.Alike.{itself}
use Rattle.ug_generate.specs.Policies.{judged_in, rules_for, rules_at, first_match, parent_files, sorted_live_places, policy_rules, Admits, IsMadeOf, IsPolicy}
use Rattle.ug_generate.proofs.Members.{has_flat, flat_has}
use Rattle.ug_generate.proofs.LivePlaces.{has_place, place_is_live, one_order, places_in_order}

allows : (device : DeviceRecord) (with_port : Bool) → (generated_of device Allow with_port).target ≡ Allow
unfolding generated_of
allows device with_port = refl

own : (device : DeviceRecord) (with_port : Bool) → query_matches (generated_of device Allow with_port).query device ≡ true
unfolding generated_of
own device with_port = itself device with_port

-- ---- there is one such list of rules

pub one_policy : (ds : List Device) (with_port : Bool) (rules : List Rule) → IsPolicy ds with_port rules → rules ≡ policy_rules ds with_port
one_policy ds with_port rules p =
    p.rules ∙ ap (λ (places : List (List ℕ × ℕ)). flat_map (λ (q : List ℕ × ℕ). rules_at ds with_port (slice_get ds q.1)) places) (one_order ds p.places p.order)

pub is_policy : (ds : List Device) (with_port : Bool) → IsPolicy ds with_port (policy_rules ds with_port)
is_policy ds with_port = record { places = sorted_live_places ds; order = places_in_order ds; rules = refl }

pub only_policy : (ds : List Device) (with_port : Bool) (rules : List Rule) → (rules ≡ policy_rules ds with_port) ↔ IsPolicy ds with_port rules
only_policy ds with_port rules = (λ e. subst (IsPolicy ds with_port) (sym e) (is_policy ds with_port), one_policy ds with_port rules)

-- ---- where each rule comes from

of_judged : (ds : List Device) (with_port : Bool) (i : ℕ) (d : Device) (rule : Rule) (judged : Judged) → Live ds i d → judged_in ds d ≡ judged → Has (rules_for with_port judged) rule → IsMadeOf ds with_port rule
of_judged ds with_port i d rule (Good device) live e (inl same) = record { i = i; d = d; device = device; live = live; good = e; rule = sym same }
of_judged ds with_port i d rule (Good device) live e (inr h) = absurd h
of_judged ds with_port i d rule (Malformed kind place) live e h = absurd h

pub made : (ds : List Device) (with_port : Bool) (rules : List Rule) (rule : Rule) → IsPolicy ds with_port rules → Has rules rule → IsMadeOf ds with_port rule
made ds with_port rules rule p h =
    let k = flat_has (λ (q : List ℕ × ℕ). rules_at ds with_port (slice_get ds q.1)) p.places rule (subst (λ (rs : List Rule). Has rs rule) p.rules h) in
    let l = place_is_live ds p.places k.0 p.order k.1 in
    of_judged ds with_port k.0.1 l.0 rule (judged_in ds l.0) l.1 refl (subst (λ (v : Option Device). Has (rules_at ds with_port v) rule) l.1.at k.2)

allow_all : (ds : List Device) (with_port : Bool) (rules : List Rule) (rule : Rule) → IsPolicy ds with_port rules → Has rules rule → rule.target ≡ Allow
allow_all ds with_port rules rule p h =
    let m = made ds with_port rules rule p h in
    ap (λ (r : Rule). r.target) m.rule ∙ allows m.device with_port

-- ---- and the first that a device meets

later : (device : DeviceRecord) (r : Rule) (rules : List Rule) → query_matches r.query device ≡ false → Admits device rules → Admits device (r ∷ rules)
later device r rules e found = (found.0, cond-false (query_matches r.query device) (Some r) (first_match device rules) e ∙ found.1, found.2)

first_found : (device : DeviceRecord) (rules : List Rule) (rule : Rule) → ((r : Rule) → Has rules r → r.target ≡ Allow) → Has rules rule → query_matches rule.query device ≡ true → Admits device rules
first_found device [] rule all h m = absurd h
first_found device (r ∷ rules) rule all (inl same) m =
    (r, cond-true (query_matches r.query device) (Some r) (first_match device rules) (ap (λ (x : Rule). query_matches x.query device) same ∙ m), all r (inl refl))
first_found device (r ∷ rules) rule all (inr k) m = by (query_matches r.query device) refl (first_found device rules rule (λ x i. all x (inr i)) k m)
  where
    by : (b : Bool) → query_matches r.query device ≡ b → Admits device rules → Admits device (r ∷ rules)
    by true e found = (r, cond-true (query_matches r.query device) (Some r) (first_match device rules) e, all r (inl refl))
    by false e found = later device r rules e found

pub admitted : (ds : List Device) (with_port : Bool) (rules : List Rule) (i : ℕ) (d : Device) (device : DeviceRecord) → IsPolicy ds with_port rules → Live ds i d → judged_in ds d ≡ Good device → Admits device rules
admitted ds with_port rules i d device p live good =
    let rule : Rule = generated_of device Allow with_port in
    let here : Has (rules_at ds with_port (slice_get ds i)) rule =
    subst (λ (v : Option Device). Has (rules_at ds with_port v) rule) (sym live.at) (subst (λ (j : Judged). Has (rules_for with_port j) rule) (sym good) (inl refl)) in
    let there : Has rules rule =
    subst (λ (rs : List Rule). Has rs rule) (sym p.rules) (has_flat (λ (q : List ℕ × ℕ). rules_at ds with_port (slice_get ds q.1)) p.places (d.name, i) rule (has_place ds p.places i d p.order live) here) in
    first_found device rules rule (λ r h. allow_all ds with_port rules r p h) there (own device with_port)

-- ---- the record is the one that is judged

pub same_record : (k : Kernel) (d : Device) (parent : Option Attrs) → IsParentRead k d.parent parent → judged_in k.devices d ≡ judged_of d.name (attrs_of d) parent
same_record k d parent h = ap (λ (a : Option Attrs). judged_of d.name (attrs_of d) a) (files k d.parent parent h)
  where
    files : (k : Kernel) (above : Option ℕ) (parent : Option Attrs) → IsParentRead k above parent → parent_files k.devices above ≡ parent
    files k None parent h = sym h
    files k (Some place) parent h = ap (λ (v : Option Device). option_map parent_attrs_of v) h.1 ∙ sym h.2
