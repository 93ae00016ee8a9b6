-- The hash of a device.
use Rattle.std.specs.Prelude.{ℕ, List, ◌++◌}
use Rattle.ug_lines.specs.Digits.{hex_four}
use Rattle.sha2.specs.Sha256.{sha256}
use Rattle.base64.specs.Engines.{standard}
use Rattle.base64.specs.GeneralPurpose.{encode_of}

-- the parts, joined; vendor and product in four hexadecimal digits each
abbrev pub hashed_bytes : List ℕ → ℕ → ℕ → List ℕ → List ℕ → List ℕ
hashed_bytes name vendor product serial descriptors =
    name ++ hex_four vendor ++ hex_four product ++ serial ++ descriptors

unfoldable pub hash_of : List ℕ → ℕ → ℕ → List ℕ → List ℕ → List ℕ
hash_of name vendor product serial descriptors =
    encode_of standard (sha256 (hashed_bytes name vendor product serial descriptors))
