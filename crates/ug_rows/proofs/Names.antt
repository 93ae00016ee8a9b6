-- The name of a device is read just where it is one.
use Rattle.std.proofs.Common.{◌≡◌, ◌∙◌, ℕ, zero, suc, ◌+◌, ◌≤◌, Bool, true, false, List, length, take, get_or, Option, Some, None, refl, sym, ap, subst, arith}
use Rattle.std.specs.Prelude.{◌↔◌, nat_le, IfOk, Result, Ok, Err, if◌then◌else◌}
use Rattle.std.specs.Result.{result_ok}
use Rattle.std.proofs.lemmas.Bool.{and_from, and_parts, le-leb, leb-true}
use Rattle.std.proofs.lemmas.List.{take_all}
use Rattle.ug_types.specs.NodeNames.{IsNodeName}
use Rattle.ug_types.specs.Reading.{after, ends_name}
use Rattle.ug_types.specs.declared.name.NameFault.{NameFault}
use Rattle.ug_types.specs.declared.reading.Reading.{Reading}
use Rattle.ug_types.specs.declared.reading.Reading.TheVariants.{Start}
use Rattle.ug_types.proofs.Spelled.{ended, ended_early, read, read_more, stopped}
use Rattle.ug_rows.specs.Devices.{ends_port, is_port_name, told_port}

step_none : (xs : List ℕ) (i : ℕ) → i ≤ length xs → read (Some Start) (take i xs) ≡ None → ¬ IsNodeName xs
step_none xs zero l h = let none : ⊥ = cc in absurd none
step_none xs (suc i) l h = by (λ e. step_none xs i (omega (arith, l)) e) (read (Some Start) (take i xs)) refl
  where
    by : (read (Some Start) (take i xs) ≡ None → ¬ IsNodeName xs) → (s : Option Reading) → read (Some Start) (take i xs) ≡ s → ¬ IsNodeName xs
    by earlier None e = earlier e
    by earlier (Some s) e =
        let k : read (Some Start) (take (i + 1) xs) ≡ None = subst (λ (j : ℕ). read (Some Start) (take j xs) ≡ None) (let z : suc i ≡ i + 1 = omega arith in z) h in
        (stopped xs i s (omega (arith, l)) e (sym (read_more xs i s (after s (get_or xs i 0)) (omega (arith, l)) e refl) ∙ k)).0

all_taken : (xs : List ℕ) → take (length xs) xs ≡ xs
all_taken xs = take_all (length xs) xs (omega arith)

name_so : (xs : List ℕ) → ends_port (read (Some Start) xs) ≡ true → IsNodeName xs
name_so xs h = by (read (Some Start) xs) refl h
  where
    by : (s : Option Reading) → read (Some Start) xs ≡ s → ends_port s ≡ true → IsNodeName xs
    by None e k = let none : ⊥ = cc in absurd none
    by (Some s) e k = ended xs (length xs) s (omega arith) (ap (read (Some Start)) (all_taken xs) ∙ e) k

so_name : (xs : List ℕ) → IsNodeName xs → ends_port (read (Some Start) xs) ≡ true
so_name xs n = by (read (Some Start) xs) refl
  where
    ends : (s : Reading) (v : Bool) → read (Some Start) xs ≡ Some s → ends_name s ≡ v → v ≡ true
    ends s true e k = refl
    ends s false e k = absurd ((ended_early xs (length xs) s (omega arith) (ap (read (Some Start)) (all_taken xs) ∙ e) k).0 n)

    by : (s : Option Reading) → read (Some Start) xs ≡ s → ends_port s ≡ true
    by None e = absurd (step_none xs (length xs) (omega arith) (ap (read (Some Start)) (all_taken xs) ∙ e) n)
    by (Some s) e = ends s (ends_name s) e refl

port_so : (word : List ℕ) → is_port_name word ≡ true → IsNodeName word × (length word ≤ 31)
unfolding is_port_name
port_so word h =
    let s = and_parts (ends_port (read (Some Start) word)) (nat_le (length word) 31) h in
    (name_so word s.0, leb-true (length word) 31 s.1)

pub so_port : (word : List ℕ) → IsNodeName word → length word ≤ 31 → is_port_name word ≡ true
unfolding is_port_name
so_port word n l = and_from (ends_port (read (Some Start) word)) (nat_le (length word) 31) (so_name word n) (le-leb (length word) 31 l)

-- what was read is the name, if it is one
pub port_read : (word : List ℕ) (r : Result (List ℕ) NameFault) → ((r ≡ Ok word) ↔ (IsNodeName word × (length word ≤ 31))) → IfOk r (λ name. name ≡ word) → result_ok r ≡ told_port word
port_read word (Ok name) law same =
    let n = law.0 (ap Ok same) in
    ap Some same ∙ sym (ap (λ (v : Bool). if v then Some word else None) (so_port word n.0 n.1))
port_read word (Err why) law same = by (is_port_name word) refl
  where
    by : (v : Bool) → is_port_name word ≡ v → None ≡ (if v then Some word else None)
    by false e = refl
    by true e = let n = port_so word e in let k : Err why ≡ Ok word = law.1 n in let none : ⊥ = cc in absurd none
