-- No word is two keywords, and no keyword has a colon.
use Rattle.std.proofs.Common.{◌≡◌, ℕ, Bool, true, false, nat_eq, List, [], ◌∷◌, ◌++◌, codes, Option, Some, None, is_some, refl, sym, subst}
use Rattle.std.specs.Cmp.Lexicographic.{same_text}
use Rattle.ug_types.specs.declared.rule.Id.{Id}
use Rattle.ug_types.specs.declared.rule.Iface.{Iface}
use Rattle.ug_types.specs.declared.rule.Op.{Op}
use Rattle.ug_words.specs.declared.keywords.Attr.{Attr}
use Rattle.ug_words.specs.declared.keywords.CondName.{CondName}
use Rattle.ug_rule_faults.specs.FaultKinds.{Asked, Part, Value, Condition, asked_by_name, asked_by}
use Rattle.ug_words.specs.Keywords.{operator_of, attribute_of, condition_of, is_if}
use Rattle.ug_rule.specs.Queries.{has_colon}
use Rattle.ug_words.specs.WordGrammar.{IsId, Any, OfVendor, Exact, IsInterface, OfClass, OfSubclass, OfProtocol}
use Rattle.ug_words.specs.Words.{id_of, interface_of}
use Rattle.ug_rule.proofs.Marks.{chain, condition_no_operator, if_no_attribute}
use Rattle.ug_words.proofs.WordCuts.{id_cut, interface_cut}

-- ---- keywords

record NoOther (word : List ℕ) : Type 0 where
  operator : operator_of word ≡ None
  colon : has_colon word ≡ false

attribute_alone : (word : List ℕ) (attr : Attr) → attribute_of word ≡ Some attr → NoOther word
unfolding attribute_of operator_of
attribute_alone word attr h =
    chain NoOther word (codes "id") _ _ attr h (record { operator = refl; colon = refl }) (λ h.
    chain NoOther word (codes "serial") _ _ attr h (record { operator = refl; colon = refl }) (λ h.
    chain NoOther word (codes "name") _ _ attr h (record { operator = refl; colon = refl }) (λ h.
    chain NoOther word (codes "hash") _ _ attr h (record { operator = refl; colon = refl }) (λ h.
    chain NoOther word (codes "parent-hash") _ _ attr h (record { operator = refl; colon = refl }) (λ h.
    chain NoOther word (codes "via-port") _ _ attr h (record { operator = refl; colon = refl }) (λ h.
    chain NoOther word (codes "with-interface") _ _ attr h (record { operator = refl; colon = refl }) (λ h.
    chain NoOther word (codes "with-connect-type") _ _ attr h (record { operator = refl; colon = refl }) (λ h.
    chain NoOther word (codes "label") _ _ attr h (record { operator = refl; colon = refl }) (λ h. let none : ⊥ = cc in absurd none)))))))))

operator_colon : (word : List ℕ) (op : Op) → operator_of word ≡ Some op → has_colon word ≡ false
unfolding operator_of
operator_colon word op h =
    let H : List ℕ → Type 0 = λ w. has_colon w ≡ false in
    chain H word (codes "all-of") _ _ op h refl (λ h.
    chain H word (codes "one-of") _ _ op h refl (λ h.
    chain H word (codes "none-of") _ _ op h refl (λ h.
    chain H word (codes "equals") _ _ op h refl (λ h.
    chain H word (codes "equals-ordered") _ _ op h refl (λ h. let none : ⊥ = cc in absurd none)))))

record NoPart (word : List ℕ) : Type 0 where
  attribute : attribute_of word ≡ None
  no_if : is_if word ≡ false
  colon : has_colon word ≡ false

condition_alone : (word : List ℕ) (name : CondName) → condition_of word ≡ Some name → NoPart word
unfolding condition_of attribute_of is_if
condition_alone word name h =
    chain NoPart word (codes "localtime") _ _ name h (record { attribute = refl; no_if = refl; colon = refl }) (λ h.
    chain NoPart word (codes "allowed-matches") _ _ name h (record { attribute = refl; no_if = refl; colon = refl }) (λ h.
    chain NoPart word (codes "rule-applied") _ _ name h (record { attribute = refl; no_if = refl; colon = refl }) (λ h.
    chain NoPart word (codes "rule-evaluated") _ _ name h (record { attribute = refl; no_if = refl; colon = refl }) (λ h.
    chain NoPart word (codes "random") _ _ name h (record { attribute = refl; no_if = refl; colon = refl }) (λ h.
    chain NoPart word (codes "true") _ _ name h (record { attribute = refl; no_if = refl; colon = refl }) (λ h.
    chain NoPart word (codes "false") _ _ name h (record { attribute = refl; no_if = refl; colon = refl }) (λ h. let none : ⊥ = cc in absurd none)))))))

if_alone : (word : List ℕ) → is_if word ≡ true → NoOther word
unfolding is_if operator_of
if_alone word h = subst NoOther (sym (same_text word (codes "if") (sym h))) (record { operator = refl; colon = refl })

-- ---- what they ask for

pub asked_operator : (word : List ℕ) (asked : Asked) (op : Op) → operator_of word ≡ Some op → asked_by word asked ≡ asked
asked_operator word asked op h = rw h refl

pub asked_attribute : (word : List ℕ) (asked : Asked) (attr : Attr) → attribute_of word ≡ Some attr → asked_by word asked ≡ Value
asked_attribute word asked attr h = let n : NoOther word = attribute_alone word attr h in rw n.operator (rw h refl)

pub asked_if : (word : List ℕ) (asked : Asked) → is_if word ≡ true → asked_by word asked ≡ Condition
asked_if word asked h = let n : NoOther word = if_alone word h in rw n.operator (rw (if_no_attribute word h) (rw h refl))

pub asked_condition : (word : List ℕ) (asked : Asked) (name : CondName) → condition_of word ≡ Some name → asked_by word asked ≡ asked_by_name (Some name)
asked_condition word asked name h = let n : NoPart word = condition_alone word name h in rw (condition_no_operator word name h) (rw n.attribute (rw n.no_if (rw h refl)))

-- what is false of each value of an option is false
none_by : {X : Type 0} (o : Option X) → ((x : X) → o ≡ Some x → ⊥) → o ≡ None
none_by None f = refl
none_by (Some x) f = absurd (f x refl)

not_true : (b : Bool) → (b ≡ true → ⊥) → b ≡ false
not_true true f = absurd (f refl)
not_true false f = refl

pub asked_colon : (word : List ℕ) (asked : Asked) → has_colon word ≡ true → asked_by word asked ≡ Part
asked_colon word asked c =
    let no : has_colon word ≡ false → ⊥ = λ e. let none : ⊥ = cc in none in
    let o : operator_of word ≡ None = none_by (operator_of word) (λ op e. no (operator_colon word op e)) in
    let a : attribute_of word ≡ None = none_by (attribute_of word) (λ attr e. no (let n : NoOther word = attribute_alone word attr e in n.colon)) in
    let i : is_if word ≡ false = not_true (is_if word) (λ e. no (let n : NoOther word = if_alone word e in n.colon)) in
    let n : condition_of word ≡ None = none_by (condition_of word) (λ name e. no (let p : NoPart word = condition_alone word name e in p.colon)) in
    rw o (rw a (rw i (rw n refl)))

-- ---- items

colon_here : (xs ys : List ℕ) → has_colon (xs ++ 58 ∷ ys) ≡ true
colon_here [] ys = refl
colon_here (x ∷ xs) ys = by (nat_eq 58 x) refl (colon_here xs ys)
  where
    by : (b : Bool) → nat_eq 58 x ≡ b → has_colon (xs ++ 58 ∷ ys) ≡ true → has_colon (x ∷ (xs ++ 58 ∷ ys)) ≡ true
    by true e h = rw e refl
    by false e h = rw e h

id_colon : (id : Id) (word : List ℕ) → IsId id word → has_colon word ≡ true
id_colon id word Any = refl
id_colon id word (OfVendor v vendor f) = colon_here vendor (codes "*")
id_colon id word (Exact v p vendor product f g) = colon_here vendor product

interface_colon : (iface : Iface) (word : List ℕ) → IsInterface iface word → has_colon word ≡ true
interface_colon iface word (OfClass c class t) = colon_here class (codes "*:*")
interface_colon iface word (OfSubclass c s class subclass t u) = colon_here class (subclass ++ codes ":*")
interface_colon iface word (OfProtocol c s p class subclass protocol t u v) = colon_here class (subclass ++ (codes ":" ++ protocol))

some_of : {X : Type 0} (o : Option X) → is_some o ≡ true → (x : X) × (o ≡ Some x)
some_of None h = let none : ⊥ = cc in absurd none
some_of (Some x) h = (x, refl)

pub asked_id : (word : List ℕ) (asked : Asked) → is_some (id_of word) ≡ true → asked_by word asked ≡ Part
asked_id word asked h = let s = some_of (id_of word) h in asked_colon word asked (id_colon s.0 word (id_cut s.0 word s.1))

pub asked_interface : (word : List ℕ) (asked : Asked) → is_some (interface_of word) ≡ true → asked_by word asked ≡ Part
asked_interface word asked h = let s = some_of (interface_of word) h in asked_colon word asked (interface_colon s.0 word (interface_cut s.0 word s.1))
