-- The words of a notice are read back.
use Rattle.std.proofs.Common.{◌≡◌, ℕ, zero, suc, ◌+◌, ◌<◌, ◌≤◌, ◌^◌, inl, inr, Bool, true, false, nat_eq, nat_lt, List, [], ◌∷◌, ◌++◌, length, take, get_or, Option, Some, None, refl, sym, ap, subst, ◌∙◌, arith}
use Rattle.std.specs.Prelude.{codes, decimal, if◌then◌else◌, ◌&&◌, ◌↔◌, is_some, nat_le, IfOk, Result, Ok, Err}
use Rattle.std.specs.List.{list_all}
use Rattle.std.specs.Result.{is_ok}
use Rattle.std.specs.Cmp.Lexicographic.{pointwise, same_text}
use Rattle.std.proofs.lemmas.Bool.{and_from, and_parts, le-leb, leb-true, ne_eqb, or_cases}
use Rattle.std.proofs.lemmas.Bool.Decides.{nat_tests}
use Rattle.std.proofs.lemmas.List.{take_all}
use Rattle.std.proofs.lemmas.Option.{none-some, same_Some}
use Rattle.ug_types.specs.Elements.{Has}
use Rattle.ug_types.specs.NodeNames.{IsNodeName}
use Rattle.ug_types.specs.Principals.{Named, is_name, is_name_byte, principal_named, principal_of, principal_text}
use Rattle.ug_types.specs.Reading.{after, ends_name}
use Rattle.ug_types.specs.Targets.{target_of, target_word}
use Rattle.ug_kernel.specs.declared.control.Write.{Write}
use Rattle.ug_kernel.specs.declared.control.Write.TheVariants as write
use Rattle.ug_types.specs.declared.name.NameFault.{NameFault}
use Rattle.ug_types.specs.declared.reading.Reading.{Reading}
use Rattle.ug_types.specs.declared.reading.Reading.TheVariants.{Start}
use Rattle.ug_types.specs.declared.verdict.Target.{Target}
use Rattle.ug_types.specs.declared.verdict.Target.TheVariants as target
use Rattle.ug_types.proofs.AccessWords.{target_law}
use Rattle.ug_types.proofs.SpacedWords.{is_graphic}
use Rattle.ug_types.proofs.Spelled.{ended, ended_early, read, read_more, stopped}
use Rattle.ug_lines.specs.Numbers.{number_in}
use Rattle.ug_lines.proofs.Numerals.{is_number as number_read, number_found}
use Rattle.ug_kernel.specs.declared.calls.Wrote.{Wrote}
use Rattle.ug_kernel.specs.declared.calls.Wrote.TheVariants as wrote
use Rattle.ug_audit.specs.Lines.{write_word, wrote_word}
use Rattle.ug_client.specs.NoticeLines.{both_parts, cut_word, ends_read, is_below_256, is_byte, is_name_word, is_decimal, is_outcome, is_target, is_user, is_write, onto_cut}

-- ---- words

abbrev pub same : List ℕ → List ℕ → Bool
same a b = pointwise nat_eq a b

graphic_apart : (word : List ℕ) → is_graphic word ≡ true → ¬ Has word 32
graphic_apart [] h k = k
graphic_apart (b ∷ word) h (inl m) = let s = and_parts (nat_lt 32 b) (is_graphic word) h in let none : ⊥ = grind (arith, nat_tests, s.0) in none
graphic_apart (b ∷ word) h (inr m) = graphic_apart word (and_parts (nat_lt 32 b) (is_graphic word) h).1 m

pub cut_apart : (word rest : List ℕ) → ¬ Has word 32 → cut_word (word ++ 32 ∷ rest) ≡ Some (word, rest)
cut_apart [] rest h = refl
cut_apart (b ∷ word) rest h = rw (ne_eqb b 32 (λ e. h (inl e))) (ap (onto_cut b) (cut_apart word rest (λ k. h (inr k))))

pub cut_none : (word : List ℕ) → ¬ Has word 32 → cut_word word ≡ None
cut_none [] h = refl
cut_none (b ∷ word) h = rw (ne_eqb b 32 (λ e. h (inl e))) (ap (onto_cut b) (cut_none word (λ k. h (inr k))))

cut_here : (word rest : List ℕ) → is_graphic word ≡ true → cut_word (word ++ 32 ∷ rest) ≡ Some (word, rest)
cut_here word rest h = cut_apart word rest (graphic_apart word h)

-- the parts of a text that was cut
pub cut_whole : (text : List ℕ) (cut : List ℕ × List ℕ) → cut_word text ≡ Some cut → text ≡ cut.0 ++ 32 ∷ cut.1
cut_whole [] cut h = absurd (none-some cut h)
cut_whole (b ∷ text) cut h = by (λ c e. cut_whole text c e) (nat_eq b 32) refl h
  where
    onto : ((c : List ℕ × List ℕ) → cut_word text ≡ Some c → text ≡ c.0 ++ 32 ∷ c.1) → (inner : Option (List ℕ × List ℕ)) → cut_word text ≡ inner → onto_cut b inner ≡ Some cut → b ∷ text ≡ cut.0 ++ 32 ∷ cut.1
    onto whole None e k = absurd (none-some cut k)
    onto whole (Some c) e k = ap (λ (t : List ℕ). b ∷ t) (whole c e) ∙ ap (λ (q : List ℕ × List ℕ). q.0 ++ 32 ∷ q.1) (same_Some (b ∷ c.0, c.1) cut k)

    by : ((c : List ℕ × List ℕ) → cut_word text ≡ Some c → text ≡ c.0 ++ 32 ∷ c.1) → (v : Bool) → nat_eq b 32 ≡ v → (if v then Some ([], text) else onto_cut b (cut_word text)) ≡ Some cut → b ∷ text ≡ cut.0 ++ 32 ∷ cut.1
    by whole true e k =
        let space : b ≡ 32 = grind (arith, nat_tests) in
        ap (λ (c : ℕ). c ∷ text) space ∙ ap (λ (q : List ℕ × List ℕ). q.0 ++ 32 ∷ q.1) (same_Some ([], text) cut k)
    by whole false e k = onto whole (cut_word text) refl k

pub both_yes : (f g : List ℕ → Bool) (first rest : List ℕ) → is_graphic first ≡ true → f first ≡ true → g rest ≡ true → both_parts f g (cut_word (first ++ 32 ∷ rest)) ≡ true
both_yes f g first rest h y z = ap (both_parts f g) (cut_here first rest h) ∙ and_from (f first) (g rest) y z

pub record Parts (f g : List ℕ → Bool) (text : List ℕ) : Type 0 where
  pub first : List ℕ
  pub rest : List ℕ
  pub whole : text ≡ first ++ 32 ∷ rest
  pub is_first : f first ≡ true
  pub is_rest : g rest ≡ true

pub both_so : (f g : List ℕ → Bool) (text : List ℕ) → both_parts f g (cut_word text) ≡ true → Parts f g text
both_so f g text h = by (cut_word text) refl h
  where
    by : (cut : Option (List ℕ × List ℕ)) → cut_word text ≡ cut → both_parts f g cut ≡ true → Parts f g text
    by None e k = let none : ⊥ = cc in absurd none
    by (Some cut) e k =
        let s = and_parts (f cut.0) (g cut.1) k in
        record { first = cut.0; rest = cut.1; whole = cut_whole text cut e; is_first = s.0; is_rest = s.1 }

-- ---- names

step_none : (xs : List ℕ) (i : ℕ) → i ≤ length xs → read (Some Start) (take i xs) ≡ None → ¬ IsNodeName xs
step_none xs zero l h = let none : ⊥ = cc in absurd none
step_none xs (suc i) l h = by (λ e. step_none xs i (omega (arith, l)) e) (read (Some Start) (take i xs)) refl
  where
    by : (read (Some Start) (take i xs) ≡ None → ¬ IsNodeName xs) → (s : Option Reading) → read (Some Start) (take i xs) ≡ s → ¬ IsNodeName xs
    by earlier None e = earlier e
    by earlier (Some s) e =
        let k : read (Some Start) (take (i + 1) xs) ≡ None = subst (λ (j : ℕ). read (Some Start) (take j xs) ≡ None) (let z : suc i ≡ i + 1 = omega arith in z) h in
        (stopped xs i s (omega (arith, l)) e (sym (read_more xs i s (after s (get_or xs i 0)) (omega (arith, l)) e refl) ∙ k)).0

all_taken : (xs : List ℕ) → take (length xs) xs ≡ xs
all_taken xs = take_all (length xs) xs (omega arith)

name_so : (xs : List ℕ) → ends_read (read (Some Start) xs) ≡ true → IsNodeName xs
name_so xs h = by (read (Some Start) xs) refl h
  where
    by : (s : Option Reading) → read (Some Start) xs ≡ s → ends_read s ≡ true → IsNodeName xs
    by None e k = let none : ⊥ = cc in absurd none
    by (Some s) e k = ended xs (length xs) s (omega arith) (ap (read (Some Start)) (all_taken xs) ∙ e) k

so_name : (xs : List ℕ) → IsNodeName xs → ends_read (read (Some Start) xs) ≡ true
so_name xs n = by (read (Some Start) xs) refl
  where
    ends : (s : Reading) (v : Bool) → read (Some Start) xs ≡ Some s → ends_name s ≡ v → v ≡ true
    ends s true e k = refl
    ends s false e k = absurd ((ended_early xs (length xs) s (omega arith) (ap (read (Some Start)) (all_taken xs) ∙ e) k).0 n)

    by : (s : Option Reading) → read (Some Start) xs ≡ s → ends_read s ≡ true
    by None e = absurd (step_none xs (length xs) (omega arith) (ap (read (Some Start)) (all_taken xs) ∙ e) n)
    by (Some s) e = ends s (ends_name s) e refl

pub name_word_so : (word : List ℕ) → is_name_word word ≡ true → IsNodeName word × (length word ≤ 31)
unfolding is_name_word
name_word_so word h =
    let s = and_parts (ends_read (read (Some Start) word)) (nat_le (length word) 31) h in
    (name_so word s.0, leb-true (length word) 31 s.1)

pub so_name_word : (word : List ℕ) → IsNodeName word → length word ≤ 31 → is_name_word word ≡ true
unfolding is_name_word
so_name_word word n l = and_from (ends_read (read (Some Start) word)) (nat_le (length word) 31) (so_name word n) (le-leb (length word) 31 l)

-- a name that was read, or none
pub name_test : (word : List ℕ) (r : Result (List ℕ) NameFault) → ((r ≡ Ok word) ↔ (IsNodeName word × (length word ≤ 31))) → IfOk r (λ name. name ≡ word) → is_ok r ≡ is_name_word word
name_test word (Ok name) law same = let n = law.0 (ap Ok same) in sym (so_name_word word n.0 n.1)
name_test word (Err why) law same = by (is_name_word word) refl
  where
    by : (v : Bool) → is_name_word word ≡ v → false ≡ v
    by false e = refl
    by true e = let n = name_word_so word e in let k : Err why ≡ Ok word = law.1 n in let none : ⊥ = cc in absurd none

-- ---- the words of an entry

pub number_yes : (n : ℕ) → n < 2 ^ 64 → is_decimal (decimal n) ≡ true
number_yes n h = ap is_some (number_read (decimal n) n h refl)

pub number_so : (word : List ℕ) → is_decimal word ≡ true → (n : ℕ) × (n < 2 ^ 64) × (word ≡ decimal n)
number_so word h = by (number_in word) refl h
  where
    by : (o : Option ℕ) → number_in word ≡ o → is_some o ≡ true → (n : ℕ) × (n < 2 ^ 64) × (word ≡ decimal n)
    by None e k = let none : ⊥ = cc in absurd none
    by (Some n) e k = let f = number_found word n e in (n, f.1, f.0)

pub byte_number : (n : ℕ) → n < 256 → n < 2 ^ 64
byte_number n h = omega (arith, h)

byte_test : (n : ℕ) → n < 256 → nat_lt n 256 ≡ true
byte_test n h = grind (arith, nat_tests)

test_byte : (n : ℕ) → nat_lt n 256 ≡ true → n < 256
test_byte n h = grind (arith, nat_tests)

pub byte_yes : (n : ℕ) → n < 256 → is_byte (decimal n) ≡ true
byte_yes n h = ap is_below_256 (number_read (decimal n) n (byte_number n h) refl) ∙ byte_test n h

pub byte_so : (word : List ℕ) → is_byte word ≡ true → (n : ℕ) × (n < 256) × (word ≡ decimal n)
byte_so word h = by (number_in word) refl h
  where
    by : (o : Option ℕ) → number_in word ≡ o → is_below_256 o ≡ true → (n : ℕ) × (n < 256) × (word ≡ decimal n)
    by None e k = let none : ⊥ = cc in absurd none
    by (Some n) e k = (n, test_byte n k, (number_found word n e).0)

named_so : (group : Bool) (name : List ℕ) (who : Named) → principal_named group name ≡ Some who → (who ≡ record { group = group; name = name }) × (is_name name ≡ true)
named_so group name who h = by (is_name name) refl h
  where
    by : (v : Bool) → is_name name ≡ v → (if v then Some (record { group = group; name = name }) else None) ≡ Some who → (who ≡ record { group = group; name = name }) × (is_name name ≡ true)
    by true e k = (let same : who ≡ record { group = group; name = name } = cc in same, e)
    by false e k = let none : ⊥ = cc in absurd none

principal_so : (word : List ℕ) (who : Named) → principal_of word ≡ Some who → (word ≡ principal_text who) × (is_name who.name ≡ true)
principal_so [] who h = let none : ⊥ = cc in absurd none
principal_so (b ∷ word) who h = by (nat_eq b 58) refl h
  where
    by : (v : Bool) → nat_eq b 58 ≡ v → (if v then principal_named true word else principal_named false (b ∷ word)) ≡ Some who → (b ∷ word ≡ principal_text who) × (is_name who.name ≡ true)
    by true e k =
        let s = named_so true word who k in
        let same : b ≡ 58 = grind (arith, nat_tests) in
        (ap (λ (c : ℕ). c ∷ word) same ∙ ap principal_text (sym s.0), ap (λ (p : Named). is_name p.name) s.0 ∙ s.1)
    by false e k = let s = named_so false (b ∷ word) who k in (ap principal_text (sym s.0), ap (λ (p : Named). is_name p.name) s.0 ∙ s.1)

no_colon : (b : ℕ) (name : List ℕ) → is_name (b ∷ name) ≡ true → nat_eq b 58 ≡ false
no_colon b name h = first (and_parts (is_name_byte b) (list_all is_name_byte name) (and_parts (nat_le 1 (length (b ∷ name)) && nat_le (length (b ∷ name)) 32) (list_all is_name_byte (b ∷ name)) h).1).0
  where
    first : is_name_byte b ≡ true → nat_eq b 58 ≡ false
    first k = grind (arith, nat_tests)

principal_yes : (group : Bool) (name : List ℕ) → is_name name ≡ true → principal_named group name ≡ Some (record { group = group; name = name })
principal_yes group name h = ap (λ (v : Bool). if v then Some (record { group = group; name = name }) else None) h

pub so_principal : (who : Named) → is_name who.name ≡ true → principal_of (principal_text who) ≡ Some who
so_principal who h = by who.group who.name h
  where
    by : (group : Bool) (name : List ℕ) → is_name name ≡ true → principal_of (if group then 58 ∷ name else name) ≡ Some (record { group = group; name = name })
    by true name k = principal_yes true name k
    by false [] k = let none : ⊥ = cc in absurd none
    by false (b ∷ name) k = ap (λ (v : Bool). if v then principal_named true name else principal_named false (b ∷ name)) (no_colon b name k) ∙ principal_yes false (b ∷ name) k

pub user_so : (word : List ℕ) → is_user word ≡ true → (who : Named) × (is_name who.name ≡ true) × (word ≡ principal_text who)
user_so word h = by (principal_of word) refl h
  where
    by : (o : Option Named) → principal_of word ≡ o → is_some o ≡ true → (who : Named) × (is_name who.name ≡ true) × (word ≡ principal_text who)
    by None e k = let none : ⊥ = cc in absurd none
    by (Some who) e k = let s = principal_so word who e in (who, s.1, s.0)

pub target_so : (word : List ℕ) → is_target word ≡ true → (it : Target) × (word ≡ target_word it)
target_so word h = by (target_of word) refl h
  where
    by : (o : Option Target) → target_of word ≡ o → is_some o ≡ true → (it : Target) × (word ≡ target_word it)
    by None e k = let none : ⊥ = cc in absurd none
    by (Some it) e k = (it, (target_law it word).0 e)

pub target_yes : (it : Target) → (is_graphic (target_word it) ≡ true) × (is_target (target_word it) ≡ true)
target_yes it = (graphic it, ap is_some ((target_law it (target_word it)).1 refl))
  where
    graphic : (it : Target) → is_graphic (target_word it) ≡ true
    graphic target.Allow = refl
    graphic target.Block = refl
    graphic target.Reject = refl

pub write_yes : (it : Write) → (is_graphic (write_word it) ≡ true) × (is_write (write_word it) ≡ true)
unfolding write_word
write_yes write.On = (refl, refl)
write_yes write.Off = (refl, refl)
write_yes write.Remove = (refl, refl)
write_yes write.DefaultOff = (refl, refl)
write_yes write.DefaultOn = (refl, refl)

pub is_text : (word text : List ℕ) → same word text ≡ true → word ≡ text
is_text word text h = same_text word text (sym h)

pub write_so : (word : List ℕ) → is_write word ≡ true → (it : Write) × (word ≡ write_word it)
unfolding write_word
write_so word h = elim (or_cases _ (same word (codes "default-on")) h) as (λ _. (it : Write) × (word ≡ write_word it)) [
  | inr e ↦ (write.DefaultOn, is_text word (codes "default-on") e)
  | inl h ↦ elim (or_cases _ (same word (codes "default-off")) h) as (λ _. (it : Write) × (word ≡ write_word it)) [
    | inr e ↦ (write.DefaultOff, is_text word (codes "default-off") e)
    | inl h ↦ elim (or_cases _ (same word (codes "remove")) h) as (λ _. (it : Write) × (word ≡ write_word it)) [
      | inr e ↦ (write.Remove, is_text word (codes "remove") e)
      | inl h ↦ elim (or_cases (same word (codes "on")) (same word (codes "off")) h) as (λ _. (it : Write) × (word ≡ write_word it)) [
        | inr e ↦ (write.Off, is_text word (codes "off") e)
        | inl e ↦ (write.On, is_text word (codes "on") e)
      ]
    ]
  ]
]

pub outcome_yes : (it : Wrote) → is_outcome (wrote_word it) ≡ true
unfolding wrote_word
outcome_yes wrote.Done = refl
outcome_yes wrote.Gone = refl
outcome_yes wrote.Failed = refl

pub outcome_so : (word : List ℕ) → is_outcome word ≡ true → (it : Wrote) × (word ≡ wrote_word it)
unfolding wrote_word
outcome_so word h = elim (or_cases _ (same word (codes "failed")) h) as (λ _. (it : Wrote) × (word ≡ wrote_word it)) [
  | inr e ↦ (wrote.Failed, is_text word (codes "failed") e)
  | inl h ↦ elim (or_cases (same word (codes "done")) (same word (codes "gone")) h) as (λ _. (it : Wrote) × (word ≡ wrote_word it)) [
    | inr e ↦ (wrote.Gone, is_text word (codes "gone") e)
    | inl e ↦ (wrote.Done, is_text word (codes "done") e)
  ]
]
