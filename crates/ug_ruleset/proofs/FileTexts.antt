-- The text of a rule file, rule by rule.
use Rattle.std.proofs.Common.{◌≡◌, ◌<◌, ℕ, ◌+◌, List, [], ◌∷◌, ◌++◌, length, take, drop, slice_get, Option, Some, refl, sym, ◌∙◌, ap, subst, append_assoc, length-append, arith}
use Rattle.std.specs.Prelude.{All, OnOk, Result, Ok, Err, flat_map}
use Rattle.std.specs.List.{AllByRecursion}
use Rattle.std.proofs.lemmas.List.{flat_map_more, take-append-drop, take_more}
use Rattle.std.proofs.lemmas.List.Elements.{All-from_recursion, recursion_from_All}
use Rattle.std.proofs.lemmas.Option.{get_or_from_slice_get, slice_get_within}
use Rattle.ug_types.specs.Limits.{text_limit}
use Rattle.ug_types.specs.declared.rule.Rule.{Rule}
use Rattle.ug_policy.specs.declared.entry.RuleEntry.{RuleEntry}
use Rattle.ug_print.specs.Bytes.{RuleOfBytes}
use Rattle.ug_print.specs.RuleTexts.{rule_line, rules_text_of}
use Rattle.ug_ruleset.specs.RuleEdits.{at_end, in_front, in_place, rules_after}
use Rattle.ug_ruleset.specs.declared.edit.Edit.{Edit}

pub text_append : (rs ts : List Rule) → rules_text_of (rs ++ ts) ≡ rules_text_of rs ++ rules_text_of ts
text_append [] ts = refl
text_append (r ∷ rs) ts = ap (λ (t : List ℕ). rule_line r ++ t) (text_append rs ts) ∙ sym (append_assoc (rule_line r) (rules_text_of rs) (rules_text_of ts))

all_append : (rs ts : List Rule) → AllByRecursion RuleOfBytes rs → AllByRecursion RuleOfBytes ts → AllByRecursion RuleOfBytes (rs ++ ts)
all_append [] ts a b = b
all_append (r ∷ rs) ts a b = (a.0, all_append rs ts a.1 b)

pub bytes_append : (rs ts : List Rule) → All RuleOfBytes rs → All RuleOfBytes ts → All RuleOfBytes (rs ++ ts)
bytes_append rs ts a b = All-from_recursion RuleOfBytes (rs ++ ts) (all_append rs ts (recursion_from_All RuleOfBytes rs a) (recursion_from_All RuleOfBytes ts b))

pub bytes_then : {X E : Type 0} (r : Result X E) (rs ts all : List Rule) → all ≡ rs ++ ts → All RuleOfBytes rs → OnOk r (All RuleOfBytes ts) → OnOk r (All RuleOfBytes all)
bytes_then (Ok x) rs ts all is a b = subst (All RuleOfBytes) (sym is) (bytes_append rs ts a b)
bytes_then (Err e) rs ts all is a b = tt

-- the rules up to a place of the list
abbrev pub rules_up_to : Option Edit → List RuleEntry → ℕ → List Rule
rules_up_to edit es i = in_front edit ++ flat_map (in_place edit) (take i es)

-- one rule more
pub rules_more : (edit : Option Edit) (es : List RuleEntry) (i : ℕ) (e : RuleEntry) → slice_get es i ≡ Some e → rules_up_to edit es i ++ in_place edit e ≡ rules_up_to edit es (i + 1)
rules_more edit es i e h =
    let within : i < length es = slice_get_within es i e h in
    append_assoc (in_front edit) (flat_map (in_place edit) (take i es)) (in_place edit e)
    ∙ ap (λ (v : List Rule). in_front edit ++ v) (flat_map_more (in_place edit) [] (take i es) e
    ∙ ap (λ (x : RuleEntry). flat_map (in_place edit) (take i es ++ x ∷ [])) (sym (get_or_from_slice_get es i e e h))
    ∙ ap (λ (v : List RuleEntry). flat_map (in_place edit) v) (sym (take_more es i e within)))

pub text_more : (edit : Option Edit) (es : List RuleEntry) (i : ℕ) (e : RuleEntry) (text : List ℕ) → slice_get es i ≡ Some e → text ≡ rules_text_of (rules_up_to edit es i) → text ++ rules_text_of (in_place edit e) ≡ rules_text_of (rules_up_to edit es (i + 1))
text_more edit es i e text h is =
    ap (λ (t : List ℕ). t ++ rules_text_of (in_place edit e)) is
    ∙ sym (text_append (rules_up_to edit es i) (in_place edit e))
    ∙ ap (λ (rs : List Rule). rules_text_of rs) (rules_more edit es i e h)

pub bytes_more : (edit : Option Edit) (es : List RuleEntry) (i : ℕ) (e : RuleEntry) → slice_get es i ≡ Some e → All RuleOfBytes (rules_up_to edit es i) → All RuleOfBytes (in_place edit e) → All RuleOfBytes (rules_up_to edit es (i + 1))
bytes_more edit es i e h a b = subst (All RuleOfBytes) (rules_more edit es i e h) (bytes_append (rules_up_to edit es i) (in_place edit e) a b)

-- ---- a text that is too long before it is whole is too long

flat_append : {X : Type 0} (f : X → List Rule) (xs ys : List X) → flat_map f (xs ++ ys) ≡ flat_map f xs ++ flat_map f ys
flat_append f [] ys = refl
flat_append f (x ∷ xs) ys = ap (λ (v : List Rule). f x ++ v) (flat_append f xs ys) ∙ sym (append_assoc (f x) (flat_map f xs) (flat_map f ys))

take_drop : {X : Type 0} (i : ℕ) (xs : List X) → take i xs ++ drop i xs ≡ xs
take_drop i xs = take-append-drop i xs

rest_of : (edit : Option Edit) (es : List RuleEntry) (i : ℕ) → rules_after edit es ≡ rules_up_to edit es i ++ (flat_map (in_place edit) (drop i es) ++ at_end edit)
rest_of edit es i =
    ap (λ (v : List RuleEntry). in_front edit ++ (flat_map (in_place edit) v ++ at_end edit)) (sym (take_drop i es))
    ∙ ap (λ (v : List Rule). in_front edit ++ (v ++ at_end edit)) (flat_append (in_place edit) (take i es) (drop i es))
    ∙ ap (λ (v : List Rule). in_front edit ++ v) (append_assoc (flat_map (in_place edit) (take i es)) (flat_map (in_place edit) (drop i es)) (at_end edit))
    ∙ sym (append_assoc (in_front edit) (flat_map (in_place edit) (take i es)) (flat_map (in_place edit) (drop i es) ++ at_end edit))

longer : (rs ts all : List Rule) → all ≡ rs ++ ts → text_limit < length (rules_text_of rs) → text_limit < length (rules_text_of all)
longer rs ts all is h =
    let whole : length (rules_text_of all) ≡ length (rules_text_of rs) + length (rules_text_of ts) = ap (λ (v : List Rule). length (rules_text_of v)) is ∙ ap (λ (t : List ℕ). length t) (text_append rs ts) ∙ length-append (rules_text_of rs) (rules_text_of ts) in
    omega (arith, whole, h)

pub long_at : (edit : Option Edit) (es : List RuleEntry) (i : ℕ) → text_limit < length (rules_text_of (rules_up_to edit es i)) → text_limit < length (rules_text_of (rules_after edit es))
long_at edit es i h = longer (rules_up_to edit es i) (flat_map (in_place edit) (drop i es) ++ at_end edit) (rules_after edit es) (rest_of edit es i) h

-- the whole text
pub bytes_whole : (edit : Option Edit) (es : List RuleEntry) → All RuleOfBytes (in_front edit ++ flat_map (in_place edit) es) → All RuleOfBytes (at_end edit) → All RuleOfBytes (rules_after edit es)
bytes_whole edit es a b = subst (All RuleOfBytes) (append_assoc (in_front edit) (flat_map (in_place edit) es) (at_end edit)) (bytes_append (in_front edit ++ flat_map (in_place edit) es) (at_end edit) a b)
