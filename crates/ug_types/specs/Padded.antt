use Rattle.std.specs.Prelude.{◌≡◌, ℕ, ◌-◌, ◌≤◌, List, ◌++◌, length, take, drop, replicate}
use Rattle.std.proofs.Common.{sym, ◌∙◌, ap, arith}
use Rattle.std.proofs.lemmas.List.{length-take-le, take-append-drop}
use Rattle.ug_types.specs.declared.name.NodeName.TheInside.{Inside}
use Rattle.ug_types.specs.NodeNames.{IsNodeName}

abbrev pub node_text : Inside → List ℕ
node_text n = take n.len n.bytes

abbrev pub padded : List ℕ → Inside
padded d = record { bytes = d ++ replicate (31 - length d) 0; len = length d }

-- zeros behind the text
abbrev pub IsPadded : Inside → Type 0
IsPadded n = (n.len ≤ 31) × (length n.bytes ≡ 31) × (drop n.len n.bytes ≡ replicate (31 - n.len) 0)

-- every name is one of the grammar
abbrev pub HoldsNodeName : Inside → Type 0
HoldsNodeName n = IsPadded n × IsNodeName (node_text n)

pub padded_text : (n : Inside) → IsPadded n → padded (node_text n) ≡ n
padded_text n h =
    let long : length (take n.len n.bytes) ≡ n.len =
    length-take-le n.len n.bytes (omega (arith, h.0, h.1)) in
    let same : take n.len n.bytes ++ replicate (31 - length (take n.len n.bytes)) 0 ≡ n.bytes =
    ap (λ (k : ℕ). take n.len n.bytes ++ replicate (31 - k) 0) long
    ∙ ap (λ (z : List ℕ). take n.len n.bytes ++ z) (sym h.2)
    ∙ take-append-drop n.len n.bytes in
    λ i. record { bytes = same i; len = long i }
