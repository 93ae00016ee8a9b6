-- The next line.
use Rattle.std.proofs.Common.{◌≡◌, ℕ, ◌+◌, ◌<◌, Bool, true, Some, List, ◌∷◌, ◌++◌, length, get_or, take, drop, set, sym, ap, ◌∙◌, subst, add-one}
use Rattle.std.proofs.lemmas.List.{drop_more, take-append-drop, set_split}
use Rattle.ug_sessions.specs.declared.session.Session.{Session}
use Rattle.ug_sessions.specs.Answering.{Each, RefusesIf, is_due, HandsOne, HandsFirst, Passes}

pub refused : (s u : Session) (b : Bool) → b ≡ true → b ≡ is_due s → RefusesIf true s (record u { refused = true }) → RefusesIf (is_due s) s (record u { refused = true })
refused s u b e k r = subst (λ (v : Bool). RefusesIf v s (record u { refused = true })) (sym e ∙ k) r

set_at : (xs : List Session) (i : ℕ) (b : Session) → i < length xs → set xs i b ≡ take i xs ++ (b ∷ drop (i + 1) xs)
set_at xs i b lt = rw add-one (set_split xs i b lt)

pub hands_first : (old xs : List Session) (i : ℕ) (d b : Session) (line : List ℕ) → i < length xs → drop i xs ≡ drop i old → Each Passes (take i old) (take i xs) → HandsOne (get_or xs i d) (Some line) b → HandsFirst old b.id b.principal line (set xs i b)
hands_first old xs i d b line lt same h k =
    let was : old ≡ take i old ++ (get_or xs i d ∷ drop (i + 1) xs) = sym (take-append-drop i old) ∙ ap (λ (l : List Session). take i old ++ l) (sym same ∙ drop_more xs i d lt) in
    let is : set xs i b ≡ take i xs ++ (b ∷ drop (i + 1) xs) = set_at xs i b lt in
    record {
      front = take i old;
      passed = take i xs;
      session = get_or xs i d;
      after = b;
      behind = drop (i + 1) xs;
      was = was;
      is = is;
      none = h;
      hands = k;
      its_id = ap (λ (s : Session). s.id) k.1;
      its_principal = ap (λ (s : Session). s.principal) k.1;
    }
