-- The name at the end of a path.
use Rattle.std.proofs.Common.{◌≡◌, inl, inr, ℕ, ◌+◌, ◌-◌, ◌<◌, ◌≤◌, List, [], ◌∷◌, ◌++◌, length, take, drop, get_or, Option, Some, None, refl, sym, ap, subst, ◌∙◌, arith, append_assoc, length-append, length-take, ◌↔◌}
use Rattle.std.proofs.lemmas.List.{drop_at, take_more}
use Rattle.std.proofs.lemmas.Option.{none-some, same_Some}
use Rattle.ug_types.specs.Elements.{Has}
use Rattle.ug_types.specs.NodeNames.{IsNodeName}
use Rattle.ug_types.proofs.Elements.{has_cases, has_right}
use Rattle.ug_types.proofs.Known.{to_end}
use Rattle.ug_uevent.specs.Cuts.{IsLastCut, IsLastPlace}
use Rattle.ug_uevent.specs.Grammar.{IsNameIn}

-- one more byte
pub last_here : (sign : ℕ) (text : List ℕ) (i : ℕ) → i < length text → get_or text i 0 ≡ sign → IsLastPlace sign (take (i + 1) text) (Some i)
last_here sign text i h e =
    let more : take (i + 1) text ≡ take i text ++ get_or text i 0 ∷ [] = take_more text i 0 h in
    let long : length (take i text) ≡ i = omega (arith, length-take i text) in
    subst (λ (t : List ℕ). IsLastPlace sign t (Some i)) (sym more) (
      omega (arith, length-append (take i text) (get_or text i 0 ∷ []), long),
      record { front = take i text; back = []; is = ap (λ (b : ℕ). take i text ++ b ∷ []) e; long = long; last = λ k. k },
    )

none_more : (sign : ℕ) (front : List ℕ) (b : ℕ) → (b ≡ sign → ⊥) → ¬ Has front sign → ¬ Has (front ++ b ∷ []) sign
none_more sign front b h n = λ k. elim (has_cases front (b ∷ []) sign k) [ inl a ↦ n a | inr c ↦ elim c [ inl e ↦ h e | inr none ↦ none ] ]

kept_more : (sign : ℕ) (front : List ℕ) (b : ℕ) (last : Option ℕ) → (b ≡ sign → ⊥) → IsLastPlace sign front last → IsLastPlace sign (front ++ b ∷ []) last
kept_more sign front b None h l = none_more sign front b h l
kept_more sign front b (Some at) h l = (
  omega (arith, l.0, length-append front (b ∷ [])),
  record {
    front = l.1.front;
    back = l.1.back ++ b ∷ [];
    is = ap (λ (t : List ℕ). t ++ b ∷ []) l.1.is ∙ append_assoc l.1.front (sign ∷ l.1.back) (b ∷ []);
    long = l.1.long;
    last = none_more sign l.1.back b h l.1.last;
  },
)

pub last_kept : (sign : ℕ) (text : List ℕ) (i : ℕ) (last : Option ℕ) → i < length text → (get_or text i 0 ≡ sign → ⊥) → IsLastPlace sign (take i text) last → IsLastPlace sign (take (i + 1) text) last
last_kept sign text i last h n l = subst (λ (t : List ℕ). IsLastPlace sign t last) (sym (take_more text i 0 h)) (kept_more sign (take i text) (get_or text i 0) last n l)

-- the part behind the last sign
abbrev rest : List ℕ → List ℕ
rest [] = []
rest (b ∷ bytes) = bytes

one_back : (sign : ℕ) (f g a b : List ℕ) → f ++ sign ∷ a ≡ g ++ sign ∷ b → ¬ Has a sign → ¬ Has b sign → a ≡ b
one_back sign [] [] a b e h k = ap rest e
one_back sign [] (c ∷ g) a b e h k = absurd (h (subst (λ (t : List ℕ). Has t sign) (sym (ap rest e)) (has_right g (sign ∷ b) sign (inl refl))))
one_back sign (c ∷ f) [] a b e h k = absurd (k (subst (λ (t : List ℕ). Has t sign) (ap rest e) (has_right f (sign ∷ a) sign (inl refl))))
one_back sign (c ∷ f) (d ∷ g) a b e h k = one_back sign f g a b (ap rest e) h k

behind : (path : List ℕ) (at : ℕ) → (c : IsLastCut 47 path at) → drop (at + 1) path ≡ c.back
behind path at c =
    ap (drop (at + 1)) (c.is ∙ sym (append_assoc c.front (47 ∷ []) c.back))
    ∙ drop_at (c.front ++ 47 ∷ []) c.back (at + 1) (length-append c.front (47 ∷ []) ∙ ap (λ (n : ℕ). n + 1) c.long)

pub text_behind : (path : List ℕ) (at : ℕ) → (c : IsLastCut 47 path at) → take (length path - (at + 1)) (drop (at + 1) path) ≡ c.back
text_behind path at c = to_end (at + 1) path ∙ behind path at c

pub name_is_back : (path : List ℕ) (at : ℕ) (name : List ℕ) → (c : IsLastCut 47 path at) → IsNameIn path name → name ≡ c.back
name_is_back path at name c n = one_back 47 n.front c.front name c.back (sym n.is ∙ c.is) n.last c.last

-- where the part is a name, and where it isn't
pub named : (path text : List ℕ) (at : ℕ) (name found : List ℕ) → (c : IsLastCut 47 path at) → text ≡ c.back → found ≡ text → IsNodeName text × (length text ≤ 31) → (Some found ≡ Some name) ↔ IsNameIn path name
named path text at name found c t e n = (
  λ s.
      let same : found ≡ name = same_Some found name s in
      let back : c.back ≡ name = sym t ∙ sym e ∙ same in
      let here : text ≡ name = sym e ∙ same in
      record {
        front = c.front;
        is = c.is ∙ ap (λ (b : List ℕ). c.front ++ 47 ∷ b) back;
        last = subst (λ (b : List ℕ). ¬ Has b 47) back c.last;
        named = subst IsNodeName here n.0;
        short = subst (λ (b : List ℕ). length b ≤ 31) here n.1;
      },
  λ s. ap Some (e ∙ t ∙ sym (name_is_back path at name c s)),
)

pub unnamed : (path text : List ℕ) (at : ℕ) (name : List ℕ) → (c : IsLastCut 47 path at) → text ≡ c.back → (IsNodeName text × (length text ≤ 31) → ⊥) → (None ≡ Some name) ↔ IsNameIn path name
unnamed path text at name c t n = (
  λ s. absurd (none-some name s),
  λ s. absurd (n (let e : name ≡ text = name_is_back path at name c s ∙ sym t in (subst IsNodeName e s.named, subst (λ (b : List ℕ). length b ≤ 31) e s.short))),
)

pub no_slash : (path name : List ℕ) → ¬ Has path 47 → (None ≡ Some name) ↔ IsNameIn path name
no_slash path name h = (
  λ s. absurd (none-some name s),
  λ s. absurd (h (subst (λ (t : List ℕ). Has t 47) (sym s.is) (has_right s.front (47 ∷ name) 47 (inl refl)))),
)
