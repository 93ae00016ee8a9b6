-- Words are what stands between blanks.
use Rattle.std.proofs.Common.{◌≡◌, ◌≢◌, ℕ, Bool, true, false, List, [], ◌∷◌, ◌++◌, map, Option, Some, None, refl, sym, ap, subst, ◌∙◌, if◌then◌else◌}
use Rattle.std.specs.Option.{option_map}
use Rattle.std.proofs.lemmas.Option.{none-some, same_Some}
use Rattle.ug_lines.specs.Blanks.{is_line_blank}
use Rattle.ug_conf.specs.Names.{words, cut, words_between, all_named}
use Rattle.ug_types.specs.Principals.{Named, is_name}
use Rattle.ug_conf.specs.Grammar.{NoBlanks, IsWord, BeginsBlank, AreSpaced, AreAll, AreNames}
use Rattle.ug_lines.specs.Equations.{IsBlank, AreBlanks}
use Rattle.ug_lines.proofs.Trimming.{blank, is_blank_so, not_blank, bare}

-- blanks before the first word
words-blanks : (before rest : List ℕ) → AreBlanks before → words_between (before ++ rest) ≡ words_between rest
words-blanks [] rest h = refl
words-blanks (b ∷ before) rest h = rw (blank b h.0) (words-blanks before rest h.1)

cut-rest : (rest : List ℕ) → BeginsBlank rest → ((cut rest).0 ≡ []) × ((cut rest).1 ≡ words_between rest)
cut-rest [] h = (refl, refl)
cut-rest (b ∷ rest) h = rw (blank b h) (refl, refl)

cut-word : (word rest : List ℕ) → NoBlanks word → BeginsBlank rest → ((cut (word ++ rest)).0 ≡ word) × ((cut (word ++ rest)).1 ≡ words_between rest)
cut-word [] rest h k = cut-rest rest k
cut-word (b ∷ word) rest h k =
    let c = cut-word word rest h.1 k in
    rw (not_blank b h.0) (ap (λ (l : List ℕ). b ∷ l) c.0, c.1)

words-word : (word rest : List ℕ) → IsWord word → BeginsBlank rest → words_between (word ++ rest) ≡ word ∷ words_between rest
words-word [] rest h k = absurd (h.0 refl)
words-word (b ∷ word) rest h k =
    let c = cut-word (b ∷ word) rest h.1 k in
    ap (λ (l : List ℕ). words l (cut (b ∷ (word ++ rest))).1) c.0 ∙ ap (λ (ws : List (List ℕ)). (b ∷ word) ∷ ws) c.1

blank_words : (text : List ℕ) → AreBlanks text → words_between text ≡ []
blank_words [] h = refl
blank_words (b ∷ text) h = rw (blank b h.0) (blank_words text h.1)

pub spaced_read : (found : List (List ℕ)) (text : List ℕ) → AreSpaced found text → words_between text ≡ found
spaced_read [] text h = blank_words text h
spaced_read (word ∷ found) text h =
    ap words_between h.2 ∙ words-blanks h.0 (word ++ h.1) h.3 ∙ words-word word h.1 h.4 h.5 ∙ ap (λ (ws : List (List ℕ)). word ∷ ws) (spaced_read found h.1 h.6)

-- a blank more in front
spaced-blank : (b : ℕ) (found : List (List ℕ)) (text : List ℕ) → IsBlank b → AreSpaced found text → AreSpaced found (b ∷ text)
spaced-blank b [] text h k = (h, k)
spaced-blank b (word ∷ found) text h k = (b ∷ k.0, k.1, ap (λ (l : List ℕ). b ∷ l) k.2, (h, k.3), k.4, k.5, k.6)

-- the first word, which may be empty, and the words behind it
abbrev Opened : List ℕ → List ℕ → List (List ℕ) → Type 0
Opened text word found = (rest : List ℕ) × (text ≡ word ++ rest) × NoBlanks word × BeginsBlank rest × AreSpaced found rest

closed : (text word : List ℕ) (found : List (List ℕ)) → Opened text word found → AreSpaced (words word found) text
closed text [] found h = subst (λ (l : List ℕ). AreSpaced found l) (sym h.1) h.4
closed text (b ∷ word) found h =
    let some : (b ∷ word) ≢ [] = λ e. (let none : ⊥ = cc in none) in
    ([], h.0, h.1, tt, (some, h.2), h.3, h.4)

opened : (text : List ℕ) → Opened text (cut text).0 (cut text).1
opened [] = ([], refl, tt, tt, tt)
opened (b ∷ text) = by (is_line_blank b) refl (opened text)
  where
    by : (v : Bool) → is_line_blank b ≡ v → Opened text (cut text).0 (cut text).1 → Opened (b ∷ text) (cut (b ∷ text)).0 (cut (b ∷ text)).1
    by true e h = rw e (b ∷ text, refl, tt, is_blank_so b e, spaced-blank b (words_between text) text (is_blank_so b e) (closed text (cut text).0 (cut text).1 h))
    by false e h = rw e (h.0, ap (λ (l : List ℕ). b ∷ l) h.1, (bare b e, h.2), h.3, h.4)

pub spaced : (text : List ℕ) → AreSpaced (words_between text) text
spaced text = closed text (cut text).0 (cut text).1 (opened text)

-- names are read as they stand
named_read : (group : Bool) (names : List Named) → AreAll group names → all_named group (map (λ n. n.name) names) ≡ Some names
named_read group [] h = refl
named_read group (n ∷ names) h =
    let same : record { group = group; name = n.name } ≡ n = λ i. record { group = (sym h.0) i; name = n.name } in
    rw h.1 (ap (option_map (λ (more : List Named). record { group = group; name = n.name } ∷ more)) (named_read group names h.2) ∙ ap (λ (m : Named). Some (m ∷ names)) same)

pub names_read : (group : Bool) (names : List Named) (text : List ℕ) → AreNames group names text → all_named group (words_between text) ≡ Some names
names_read group names text h = ap (all_named group) (spaced_read (map (λ n. n.name) names) text h.0) ∙ named_read group names h.1

abbrev Read : Bool → List (List ℕ) → List Named → Type 0
Read group found names = (map (λ n. n.name) names ≡ found) × AreAll group names

named_found : (group : Bool) (found : List (List ℕ)) (names : List Named) → all_named group found ≡ Some names → Read group found names
named_found group [] names h = subst (Read group []) (same_Some [] names h) (refl, tt)
named_found group (word ∷ found) names h = by (is_name word) (all_named group found) refl refl (λ more k. named_found group found more k) h
  where
    by : (v : Bool) (o : Option (List Named)) → is_name word ≡ v → all_named group found ≡ o → ((more : List Named) → all_named group found ≡ Some more → Read group found more)
        → (if v then option_map (λ others. record { group = group; name = word } ∷ others) o else None) ≡ Some names → Read group (word ∷ found) names
    by false o e k f h = absurd (none-some names h)
    by true None e k f h = absurd (none-some names h)
    by true (Some more) e k f h =
        let r = f more k in
        subst (Read group (word ∷ found)) (same_Some (record { group = group; name = word } ∷ more) names h) (ap (λ (ws : List (List ℕ)). word ∷ ws) r.0, (refl, e, r.1))

pub names_found : (group : Bool) (names : List Named) (text : List ℕ) → all_named group (words_between text) ≡ Some names → AreNames group names text
names_found group names text h =
    let r = named_found group (words_between text) names h in
    (subst (λ (ws : List (List ℕ)). AreSpaced ws text) (sym r.0) (spaced text), r.1)
