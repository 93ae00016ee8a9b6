-- Words and names from the left.
use Rattle.std.proofs.Common.{◌≡◌, ℕ, ◌-◌, ◌<◌, ◌≤◌, Bool, true, false, cond, List, [], ◌∷◌, ◌++◌, length, take, drop, Option, Some, None, refl, sym, ap, subst, ◌∙◌, arith, append_assoc, length-drop}
use Rattle.std.proofs.lemmas.List.{append-nil}
use Rattle.std.proofs.lemmas.Option.{cond_some, none-some}
use Rattle.std.specs.Option.{option_map}
use Rattle.ug_types.proofs.Known.{to_end}
use Rattle.ug_lines.specs.Blanks.{is_line_blank, without_front}
use Rattle.ug_conf.specs.Names.{first_blank, cut, words_between, all_named}
use Rattle.ug_types.specs.Principals.{Named, is_name, principal_named}

-- it doesn't begin with a blank
abbrev pub IsBare : List ℕ → Type 0
IsBare [] = Unit {0}
IsBare (b ∷ bytes) = is_line_blank b ≡ false

front_bare : (text : List ℕ) → IsBare (without_front text)
front_bare [] = tt
front_bare (b ∷ bytes) = by (is_line_blank b) refl (front_bare bytes)
  where
    by : (v : Bool) → is_line_blank b ≡ v → IsBare (without_front bytes) → IsBare (without_front (b ∷ bytes))
    by true e h = rw e h
    by false e h = rw e e

pub bare_text : (text bare : List ℕ) → bare ≡ without_front text → IsBare bare
bare_text text bare e = subst IsBare (sym e) (front_bare text)

words_of-without_front : (text : List ℕ) → words_between (without_front text) ≡ words_between text
words_of-without_front [] = refl
words_of-without_front (b ∷ bytes) = by (is_line_blank b) refl (words_of-without_front bytes)
  where
    by : (v : Bool) → is_line_blank b ≡ v → words_between (without_front bytes) ≡ words_between bytes → words_between (without_front (b ∷ bytes)) ≡ words_between (b ∷ bytes)
    by true e h = rw e h
    by false e h = rw e (rw e refl)

abbrev IsCut : List ℕ → Type 0
IsCut text = ((cut text).0 ≡ take (first_blank text) text) × ((cut text).1 ≡ words_between (drop (first_blank text) text))

cut_front : (text : List ℕ) → IsCut text
cut_front [] = (refl, refl)
cut_front (b ∷ bytes) = by (is_line_blank b) refl (cut_front bytes)
  where
    by : (v : Bool) → is_line_blank b ≡ v → IsCut bytes → IsCut (b ∷ bytes)
    by true e h = rw e (refl, rw e refl)
    by false e h = rw e (ap (λ (xs : List ℕ). b ∷ xs) h.0, h.1)

first_word : (text : List ℕ) → 0 < length text → IsBare text → words_between text ≡ take (first_blank text) text ∷ words_between (drop (first_blank text) text)
first_word [] h k = absurd (omega arith)
first_word (b ∷ bytes) h k =
    let c : IsCut bytes = cut_front bytes in
    rw k (ap (λ (xs : List ℕ). (b ∷ xs) ∷ (cut bytes).1) c.0 ∙ ap (λ (ws : List (List ℕ)). (b ∷ take (first_blank bytes) bytes) ∷ ws) c.1)

word_some : (text : List ℕ) → 0 < length text → IsBare text → 0 < first_blank text
word_some [] h k = absurd (omega arith)
word_some (b ∷ bytes) h k = rw k (omega arith)

-- behind names that were read
abbrev pub behind : List Named → Option (List Named) → Option (List Named)
behind names others = option_map (λ more. names ++ more) others

behind_one : (names : List Named) (name : Named) (others : Option (List Named)) → behind names (option_map (λ more. name ∷ more) others) ≡ behind (names ++ name ∷ []) others
behind_one names name None = refl
behind_one names name (Some more) = ap Some (sym (append_assoc names (name ∷ []) more))

name_next : (group : Bool) (names : List Named) (name : Named) (rest more : List ℕ) (read : Option (List Named)) → 0 < length rest → IsBare rest
    → principal_named group (take (first_blank rest) rest) ≡ Some name → more ≡ without_front (drop (first_blank rest) rest)
    → behind names (all_named group (words_between rest)) ≡ read → behind (names ++ name ∷ []) (all_named group (words_between more)) ≡ read
name_next group names name rest more read h k p m e =
    let word : List ℕ = take (first_blank rest) rest in
    let later : List ℕ = drop (first_blank rest) rest in
    let c = cond_some (is_name word) (record { group = group; name = word }) name p in
    let w : words_between more ≡ words_between later = ap words_between m ∙ words_of-without_front later in
    ap (λ (ws : List (List ℕ)). behind (names ++ name ∷ []) (all_named group ws)) w
    ∙ sym (behind_one names name (all_named group (words_between later)))
    ∙ ap (λ (n : Named). behind names (option_map (λ others. n ∷ others) (all_named group (words_between later)))) (sym c.1)
    ∙ ap (λ (v : Bool). behind names (cond v (option_map (λ others. record { group = group; name = word } ∷ others) (all_named group (words_between later))) None)) (sym c.0)
    ∙ ap (λ (ws : List (List ℕ)). behind names (all_named group ws)) (sym (first_word rest h k))
    ∙ e

pub name_more : (group : Bool) (names grown : List Named) (name : Named) (rest more : List ℕ) (n : ℕ) (read : Option (List Named)) → 0 < length rest → IsBare rest
    → n ≡ first_blank rest → principal_named group (take n rest) ≡ Some name → more ≡ without_front (take (length rest - n) (drop n rest)) → grown ≡ names ++ name ∷ []
    → behind names (all_named group (words_between rest)) ≡ read → behind grown (all_named group (words_between more)) ≡ read
name_more group names grown name rest more n read h k i p m g e =
    ap (λ (l : List Named). behind l (all_named group (words_between more))) g
    ∙ name_next group names name rest more read h k
    (ap (λ (j : ℕ). principal_named group (take j rest)) (sym i) ∙ p)
    (m ∙ ap without_front (to_end n rest) ∙ ap (λ (j : ℕ). without_front (drop j rest)) i)
    e

-- what is left gets shorter
pub name_shorter : (rest more : List ℕ) (n : ℕ) → 0 < length rest → IsBare rest → n ≡ first_blank rest → n ≤ length rest → length more ≤ length (take (length rest - n) (drop n rest)) → length more < length rest
name_shorter rest more n h k i w m =
    let some : 0 < first_blank rest = word_some rest h k in
    omega (arith, some, i, w, m, ap length (to_end n rest), length-drop n rest)

not_named : (v : Bool) (name : Named) (others : Option (List Named)) → cond v (Some name) None ≡ None → cond v others None ≡ None
not_named true name others e = absurd (none-some name (sym e))
not_named false name others e = refl

pub name_bad : (group : Bool) (names : List Named) (rest : List ℕ) (n : ℕ) (read : Option (List Named)) → 0 < length rest → IsBare rest
    → n ≡ first_blank rest → principal_named group (take n rest) ≡ None
    → behind names (all_named group (words_between rest)) ≡ read → read ≡ None
name_bad group names rest n read h k i p e =
    let word : List ℕ = take (first_blank rest) rest in
    let later : List ℕ = drop (first_blank rest) rest in
    sym e ∙ ap (λ (ws : List (List ℕ)). behind names (all_named group ws)) (first_word rest h k)
    ∙ ap (behind names) (not_named (is_name word) (record { group = group; name = word }) (option_map (λ others. record { group = group; name = word } ∷ others) (all_named group (words_between later))) (ap (λ (j : ℕ). principal_named group (take j rest)) (sym i) ∙ p))

pub names_end : (group : Bool) (names : List Named) (rest : List ℕ) (read : Option (List Named)) → length rest ≡ 0 → behind names (all_named group (words_between rest)) ≡ read → read ≡ Some names
names_end group names [] read h e = sym e ∙ ap Some (append-nil names)
names_end group names (b ∷ bytes) read h e = absurd (omega arith)

pub names_begin : (group : Bool) (names : List Named) (text rest : List ℕ) → names ≡ [] → rest ≡ without_front text → behind names (all_named group (words_between rest)) ≡ all_named group (words_between text)
names_begin group names text rest n e =
    ap (λ (ns : List Named). behind ns (all_named group (words_between rest))) n
    ∙ ap (λ (ws : List (List ℕ)). behind [] (all_named group ws)) (ap words_between e ∙ words_of-without_front text) ∙ none_behind (all_named group (words_between text))
  where
    none_behind : (others : Option (List Named)) → behind [] others ≡ others
    none_behind None = refl
    none_behind (Some more) = refl
