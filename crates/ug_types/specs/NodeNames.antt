-- Which texts are names of device nodes: usb1 is a root hub, 1-2 and 1-2.3 are devices.
use Rattle.std.specs.Prelude.{◌≡◌, ℕ, ◌+◌, ◌<◌, ◌≤◌, List, [], ◌∷◌, ◌++◌, ◌⊎◌, length, take, codes, decimal}

abbrev pub IsBus : ℕ → Type 0
IsBus n = (1 ≤ n) × (n ≤ 999)

abbrev pub IsPort : ℕ → Type 0
IsPort n = (1 ≤ n) × (n ≤ 255)

abbrev pub ArePorts : List ℕ → Type 0
ArePorts [] = Unit {0}
ArePorts (port ∷ ports) = IsPort port × ArePorts ports

-- numbers joined by dots
abbrev pub joined_by_dots : ℕ → List ℕ → List ℕ
joined_by_dots port [] = decimal port
joined_by_dots port (next ∷ ports) = decimal port ++ 46 ∷ joined_by_dots next ports

-- `usb` and a bus number
pub record IsRootHub (text : List ℕ) : Type 0 where
  pub bus : ℕ
  pub is_bus : IsBus bus
  pub is : text ≡ codes "usb" ++ decimal bus

-- a bus number, a dash, and the port numbers from the root hub on, joined by dots
pub record IsDeviceName (text : List ℕ) : Type 0 where
  pub bus : ℕ
  pub port : ℕ
  pub ports : List ℕ
  pub is_bus : IsBus bus
  pub are_ports : ArePorts (port ∷ ports)
  pub is : text ≡ decimal bus ++ 45 ∷ joined_by_dots port ports

abbrev pub IsNodeName : List ℕ → Type 0
IsNodeName text = IsRootHub text ⊎ IsDeviceName text

-- some name begins with the text
abbrev pub IsPrefixOfName : List ℕ → Type 0
IsPrefixOfName text = (rest : List ℕ) × IsNodeName (text ++ rest)

-- at place the text stops being a prefix of a name, or ends too early
abbrev pub StopsAt : List ℕ → ℕ → Type 0
StopsAt text place =
    (place ≤ length text) × IsPrefixOfName (take place text)
    × (place < length text → ¬ IsPrefixOfName (take (place + 1) text))
