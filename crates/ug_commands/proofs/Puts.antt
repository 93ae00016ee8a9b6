-- Texts that are put one after another.
use Rattle.std.proofs.Common.{◌≡◌, ℕ, ◌+◌, ◌<◌, ◌≤◌, List, [], ◌++◌, length, get_or, drop, flat_map, Option, sym, ap, subst, ◌∙◌, append_assoc}
use Rattle.std.proofs.lemmas.List.{at_drop_more, at_drop_all}
use Rattle.std.proofs.KnownBytes.{Appends-nil, Appends-trans}
use Rattle.std.specs.Io.KnownBytes.{Appends}
use Rattle.ug_types.specs.Ends.{Puts}
use Rattle.ug_types.specs.declared.sink.Put.{Put}
use Rattle.ug_types.specs.declared.sink.Put.TheVariants.{Done, Failed}

-- the front of a text was put; what puts the rest puts the whole
pub record Leads (before now : Option (List ℕ)) (rest whole : List ℕ) : Type 0 where
  pub on : (after : Option (List ℕ)) (put : Put) → Puts now after rest put → Puts before after whole put

puts-then : (h0 h1 h2 : Option (List ℕ)) (a b : List ℕ) (put : Put) → Appends h0 h1 a → Puts h1 h2 b put → Puts h0 h2 (a ++ b) put
puts-then h0 h1 h2 a b Done k p = Appends-trans h0 h1 h2 a b k p
puts-then h0 h1 h2 a b Failed k (front, rest, split, sink) =
    (a ++ front, rest, ap (λ (x : List ℕ). a ++ x) split ∙ sym (append_assoc a front rest), Appends-trans h0 h1 h2 a front k sink)

puts-front : (h0 h1 : Option (List ℕ)) (a b : List ℕ) → Puts h0 h1 a Failed → Puts h0 h1 (a ++ b) Failed
puts-front h0 h1 a b (front, rest, split, sink) =
    (front, rest ++ b, ap (λ (x : List ℕ). x ++ b) split ∙ append_assoc front rest b, sink)

-- the first text of some, whole or cut
pub leads-first : (h0 h1 : Option (List ℕ)) (a b line : List ℕ) → line ≡ a → Appends h0 h1 line → Leads h0 h1 b (a ++ b)
leads-first h0 h1 a b line e k = record { on = λ h put p. puts-then h0 h1 h a b put (subst (λ (x : List ℕ). Appends h0 h1 x) e k) p }

pub cut-first : (h0 h1 : Option (List ℕ)) (a b line : List ℕ) → line ≡ a → Puts h0 h1 line Failed → Puts h0 h1 (a ++ b) Failed
cut-first h0 h1 a b line e p = puts-front h0 h1 a b (subst (λ (x : List ℕ). Puts h0 h1 x Failed) e p)

-- the text in front, whole or cut
pub leads-text : (h0 h1 h2 : Option (List ℕ)) (a b whole : List ℕ) → Leads h0 h1 (a ++ b) whole → Appends h1 h2 a → Leads h0 h2 b whole
leads-text h0 h1 h2 a b whole l k = record { on = λ h put p. l.on h put (puts-then h1 h2 h a b put k p) }

pub cut-text : (h0 h1 h2 : Option (List ℕ)) (a b whole : List ℕ) → Leads h0 h1 (a ++ b) whole → Puts h1 h2 a Failed → Puts h0 h2 whole Failed
cut-text h0 h1 h2 a b whole l p = l.on h2 Failed (puts-front h1 h2 a b p)

-- none is left
pub leads-end : (h0 h1 : Option (List ℕ)) (rest whole : List ℕ) → rest ≡ [] → Leads h0 h1 rest whole → Appends h0 h1 whole
leads-end h0 h1 rest whole e l = l.on h1 Done (subst (λ (t : List ℕ). Appends h1 h1 t) (sym e) (Appends-nil h1))

module _ {X : Type 0} (f : X → List ℕ) (xs : List X) (h0 h1 : Option (List ℕ)) (whole : List ℕ) (i : ℕ) where
  -- one more text, whole or cut
  pub leads-more : (h2 : Option (List ℕ)) (x : X) (line : List ℕ) → i < length xs → Leads h0 h1 (flat_map f (drop i xs)) whole → line ≡ f (get_or xs i x) → Appends h1 h2 line → Leads h0 h2 (flat_map f (drop (i + 1) xs)) whole
  leads-more h2 x line lt l same k = record {
    on = λ h put p. l.on h put (subst (λ (t : List ℕ). Puts h1 h t put) (sym (at_drop_more (λ (ys : List X). flat_map f ys) xs i x lt))
        (puts-then h1 h2 h (f (get_or xs i x)) (flat_map f (drop (i + 1) xs)) put (subst (λ (t : List ℕ). Appends h1 h2 t) same k) p));
  }

  pub cut-more : (h2 : Option (List ℕ)) (x : X) (line : List ℕ) → i < length xs → Leads h0 h1 (flat_map f (drop i xs)) whole → line ≡ f (get_or xs i x) → Puts h1 h2 line Failed → Puts h0 h2 whole Failed
  cut-more h2 x line lt l same p = l.on h2 Failed (subst (λ (t : List ℕ). Puts h1 h2 t Failed) (sym (at_drop_more (λ (ys : List X). flat_map f ys) xs i x lt))
      (cut-first h1 h2 (f (get_or xs i x)) (flat_map f (drop (i + 1) xs)) line same p))

  -- none is left
  pub leads-none : length xs ≤ i → Leads h0 h1 (flat_map f (drop i xs)) whole → Appends h0 h1 whole
  leads-none le l = leads-end h0 h1 (flat_map f (drop i xs)) whole (at_drop_all (λ (ys : List X). flat_map f ys) xs i le) l
