-- Users and groups.
use Rattle.std.specs.Prelude.{ℕ, Bool, true, false, ◌&&◌, ◌||◌, nat_eq, nat_le, if◌then◌else◌, List, [], ◌∷◌, length, Option, Some, None}
use Rattle.std.specs.Char.{is_ascii_alphanumeric}
use Rattle.std.specs.Cmp.Lexicographic.{pointwise}
use Rattle.std.specs.List.{list_all}
use Rattle.std.specs.Ordering.{eq_of_both, on}
use Rattle.std.specs.Bool.{beq}

pub record Named : Type 0 where
  pub group : Bool
  pub name : List ℕ

-- a letter, a digit, `_`, `-` or `.`
abbrev pub is_name_byte : ℕ → Bool
is_name_byte b = is_ascii_alphanumeric b || nat_eq b 95 || nat_eq b 45 || nat_eq b 46

-- from 1 to 32 of them
abbrev pub is_name : List ℕ → Bool
is_name text = nat_le 1 (length text) && nat_le (length text) 32 && list_all is_name_byte text

abbrev pub principal_named : Bool → List ℕ → Option Named
principal_named group name =
    if is_name name then Some (record { group = group; name = name }) else None

-- `:` stands before the name of a group
abbrev pub principal_of : List ℕ → Option Named
principal_of [] = None
principal_of (b ∷ bytes) =
    if nat_eq b 58 then principal_named true bytes else principal_named false (b ∷ bytes)

-- as it is written
abbrev pub principal_text : Named → List ℕ
principal_text p = if p.group then 58 ∷ p.name else p.name

-- of one kind, and by one name
abbrev pub same_principal : Named → Named → Bool
same_principal = eq_of_both (on (λ p. p.group) beq) (on (λ p. p.name) (pointwise nat_eq))
