-- The bytes of a file name, with zeros behind.
use Rattle.std.specs.Prelude.{◌≡◌, ℕ, ◌-◌, ◌≤◌, List, ◌++◌, length, take, drop, replicate, IsTrue}
use Rattle.std.specs.List.{list_all}
use Rattle.std.proofs.Common.{sym, ◌∙◌, ap, arith}
use Rattle.std.proofs.lemmas.List.{length-take-le, take-append-drop}
use Rattle.ug_types.specs.Principals.{is_name_byte}
use Rattle.ug_audit.specs.declared.file_name.FileName.TheInside.{Inside}

abbrev pub file_name_text : Inside → List ℕ
file_name_text n = take n.len n.bytes

abbrev pub padded_name : List ℕ → Inside
padded_name d = record { bytes = d ++ replicate (255 - length d) 0; len = length d }

-- zeros behind the name
abbrev pub HasZeros : Inside → Type 0
HasZeros n =
    (n.len ≤ 255) × (length n.bytes ≡ 255) × (drop n.len n.bytes ≡ replicate (255 - n.len) 0)

abbrev pub IsFileName : Inside → Type 0
IsFileName n = HasZeros n × IsTrue (list_all is_name_byte (file_name_text n))

pub zeros_behind : (n : Inside) → HasZeros n → padded_name (file_name_text n) ≡ n
zeros_behind n h =
    let long : length (take n.len n.bytes) ≡ n.len =
    length-take-le n.len n.bytes (omega (arith, h.0, h.1)) in
    let same : take n.len n.bytes ++ replicate (255 - length (take n.len n.bytes)) 0 ≡ n.bytes =
    ap (λ (k : ℕ). take n.len n.bytes ++ replicate (255 - k) 0) long
    ∙ ap (λ (z : List ℕ). take n.len n.bytes ++ z) (sym h.2)
    ∙ take-append-drop n.len n.bytes in
    λ i. record { bytes = same i; len = long i }
