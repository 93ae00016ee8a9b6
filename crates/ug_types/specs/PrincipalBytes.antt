-- The bytes of a name, with zeros behind.
use Rattle.std.specs.Prelude.{◌≡◌, ℕ, ◌-◌, ◌≤◌, List, ◌++◌, length, take, drop, replicate, IsTrue}
use Rattle.std.proofs.Common.{sym, ◌∙◌, ap, arith}
use Rattle.std.proofs.lemmas.List.{length-take-le, take-append-drop}
use Rattle.ug_types.specs.declared.principal.Principal.TheInside.{Inside}
use Rattle.ug_types.specs.Principals.{Named, is_name}

abbrev pub named_of : Inside → Named
named_of n = record { group = n.group; name = take n.len n.bytes }

abbrev pub with_zeros : Named → Inside
with_zeros d =
    record {
      group = d.group;
      bytes = d.name ++ replicate (32 - length d.name) 0;
      len = length d.name;
    }

-- zeros behind the name
abbrev pub IsPaddedName : Inside → Type 0
IsPaddedName n =
    (n.len ≤ 32) × (length n.bytes ≡ 32) × (drop n.len n.bytes ≡ replicate (32 - n.len) 0)

abbrev pub HoldsPrincipal : Inside → Type 0
HoldsPrincipal n = IsPaddedName n × IsTrue (is_name (take n.len n.bytes))

pub padded_principal : (n : Inside) → IsPaddedName n → with_zeros (named_of n) ≡ n
padded_principal n h =
    let long : length (take n.len n.bytes) ≡ n.len =
    length-take-le n.len n.bytes (omega (arith, h.0, h.1)) in
    let same : take n.len n.bytes ++ replicate (32 - length (take n.len n.bytes)) 0 ≡ n.bytes =
    ap (λ (k : ℕ). take n.len n.bytes ++ replicate (32 - k) 0) long
    ∙ ap (λ (z : List ℕ). take n.len n.bytes ++ z) (sym h.2)
    ∙ take-append-drop n.len n.bytes in
    λ i. record { group = n.group; bytes = same i; len = long i }
