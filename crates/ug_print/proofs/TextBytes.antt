-- What a slice of bytes holds is bytes.
use Rattle.std.proofs.Common.{ℕ, ◌<◌, List, get_or, Fits, w8}
use Rattle.std.proofs.lemmas.List.Elements.{All-from_get_or}
use Rattle.ug_print.specs.Bytes.{AreBytes}

pub are_bytes : (text : List ℕ) → ((i : ℕ) → Fits w8 (get_or text i 0)) → AreBytes text
are_bytes text fits = All-from_get_or (λ b. b < 256) text 0 (λ i below. (fits i).fits)
