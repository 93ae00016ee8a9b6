-- Which names of files count.
use Rattle.std.proofs.Common.{◌≡◌, ℕ, Bool, true, false, ◌&&◌, nat_eq, nat_le, List, [], ◌∷◌, length, take, refl, codes, ◌-◌}
use Rattle.std.specs.List.{ends_with, list_all}
use Rattle.std.proofs.lemmas.Bool.{leb-true, le-leb}
use Rattle.std.proofs.lemmas.Bool.Decides.{Decides-eqb}
use Rattle.std.proofs.lemmas.Slice.Eq.{ends_is}
use Rattle.ug_types.specs.Principals.{is_name_byte}
use Rattle.ug_conf.specs.FolderFiles.{AreNameBytes, IsRuleFileName, is_rule_file_name}

both : (a b : Bool) → (a && b) ≡ true → (a ≡ true) × (b ≡ true)
both true b h = (refl, h)
both false b h = let none : ⊥ = cc in absurd none

each : (a b : Bool) → a ≡ true → b ≡ true → (a && b) ≡ true
each true b e h = h
each false b e h = let none : ⊥ = cc in absurd none

bytes_of : (name : List ℕ) → list_all is_name_byte name ≡ true → AreNameBytes name
bytes_of [] h = tt
bytes_of (b ∷ bytes) h = let p = both (is_name_byte b) (list_all is_name_byte bytes) h in (p.0, bytes_of bytes p.1)

all_of : (name : List ℕ) → AreNameBytes name → list_all is_name_byte name ≡ true
all_of [] h = refl
all_of (b ∷ bytes) h = each (is_name_byte b) (list_all is_name_byte bytes) h.0 (all_of bytes h.1)

abbrev ending : List ℕ
ending = codes ".conf"

pub counted : (name : List ℕ) → is_rule_file_name name ≡ true → IsRuleFileName name
unfolding is_rule_file_name
counted name h =
    let p = both (nat_le (length name) 255 && list_all is_name_byte name) (ends_with nat_eq name ending) h in
    let q = both (nat_le (length name) 255) (list_all is_name_byte name) p.0 in
    record {
      short = leb-true (length name) 255 q.0;
      plain = bytes_of name q.1;
      before = take (length name - length ending) name;
      ends = (ends_is Decides-eqb name ending (ends_with nat_eq name ending) refl).0 p.1;
    }

pub counts : (name : List ℕ) → IsRuleFileName name → is_rule_file_name name ≡ true
unfolding is_rule_file_name
counts name h =
    each (nat_le (length name) 255 && list_all is_name_byte name) (ends_with nat_eq name ending)
    (each (nat_le (length name) 255) (list_all is_name_byte name) (le-leb (length name) 255 h.short) (all_of name h.plain))
    ((ends_is Decides-eqb name ending (ends_with nat_eq name ending) refl).1 h.before h.ends)
