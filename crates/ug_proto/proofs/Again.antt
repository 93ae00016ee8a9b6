-- The text of a request reads as the request.
use Rattle.std.proofs.Common.{◌≡◌, ◌≢◌, ℕ, ◌<◌, ◌^◌, inl, inr, Bool, true, false, cond, nat_eq, List, [], ◌∷◌, ◌++◌, Option, Some, Result, Ok, refl, sym, ap, subst, ◌∙◌, arith}
use Rattle.std.specs.Prelude.{codes, decimal}
use Rattle.std.proofs.lemmas.Bool.Decides.{nat_tests}
use Rattle.std.proofs.lemmas.List.{append-nil}
use Rattle.ug_types.specs.Elements.{Has}
use Rattle.ug_types.specs.declared.rule.After.{After}
use Rattle.ug_types.specs.declared.rule.After.TheVariants as after
use Rattle.ug_types.specs.declared.verdict.Target.{Target}
use Rattle.ug_types.specs.declared.verdict.Target.TheVariants as target
use Rattle.ug_proto.specs.declared.request.Request.{Request}
use Rattle.ug_proto.specs.declared.request.Request.TheVariants as request
use Rattle.ug_lines.specs.Numbers.{number_in}
use Rattle.ug_proto.specs.Requests.{then_take, or_wrong, behind_next, next_place, next_read, unless_empty, nothing_behind, after_number, after_in, rule_kind_in, get_read, set_read, permanence_read, device_read, rule_at_end, append_read, remove_read, rule_request_read, named_read, request_read}
use Rattle.ug_proto.specs.Splitting.{word_in_front, behind_word, IsPlainWord, IsRest}
use Rattle.ug_proto.specs.Texts.{permanence_words, kind_word, after_word, request_text, IsAfter, IsRequest}
use Rattle.ug_lines.proofs.Numerals.{is_number}
use Rattle.ug_proto.proofs.Numerals.{decimal_plain, decimal_no_end, zero_text}
use Rattle.ug_proto.proofs.Reading.{read_written}
use Rattle.ug_proto.proofs.Words.{first_plain, behind_plain}

abbrev Reading : Type 0
Reading = Result Request ℕ

pub next_again : {X : Type 0} (total : ℕ) (word more : List ℕ) (meaning : List ℕ → Option X) (x : X) → ¬ Has word 32 → IsRest more → meaning word ≡ Some x → next_read total (32 ∷ (word ++ more)) meaning ≡ Ok x
next_again {X} total word more meaning x n i h =
    ap (λ (w : List ℕ). or_wrong (next_place total (32 ∷ (word ++ more))) (meaning w)) (first_plain word more n i) ∙ ap (or_wrong (next_place total (32 ∷ (word ++ more)))) h

plain_again : (word : List ℕ) → word ≢ [] → unless_empty word ≡ Some word
plain_again [] h = absurd (h refl)
plain_again (b ∷ word) h = refl

get_again : (total : ℕ) (name : List ℕ) → IsPlainWord name → get_read total (32 ∷ (name ++ [])) ≡ Ok (request.GetParameter name)
get_again total name h =
    ap (λ (o : Result (List ℕ) ℕ). then_take o (λ n. nothing_behind total (behind_word (name ++ [])) (request.GetParameter n))) (next_again total name [] unless_empty name h.1 (inl refl) (plain_again name h.0))
    ∙ ap (λ (l : List ℕ). nothing_behind total l (request.GetParameter name)) (behind_plain name [] h.1 (inl refl))

set_again : (total : ℕ) (name value : List ℕ) → IsPlainWord name → IsPlainWord value → set_read total (32 ∷ (name ++ 32 ∷ (value ++ []))) ≡ Ok (request.SetParameter name value)
set_again total name value h k =
    let more : List ℕ = 32 ∷ (value ++ []) in
    let rest : IsRest more = inr (value ++ [], refl) in
    ap (λ (o : Result (List ℕ) ℕ). then_take o (λ n. then_take (next_read total (behind_word (name ++ more)) unless_empty) (λ v. nothing_behind total (behind_next (behind_word (name ++ more))) (request.SetParameter n v)))) (next_again total name more unless_empty name h.1 rest (plain_again name h.0))
    ∙ ap (λ (l : List ℕ). then_take (next_read total l unless_empty) (λ v. nothing_behind total (behind_next l) (request.SetParameter name v))) (behind_plain name more h.1 rest)
    ∙ ap (λ (o : Result (List ℕ) ℕ). then_take o (λ v. nothing_behind total (behind_word (value ++ [])) (request.SetParameter name v))) (next_again total value [] unless_empty value k.1 (inl refl) (plain_again value k.0))
    ∙ ap (λ (l : List ℕ). nothing_behind total l (request.SetParameter name value)) (behind_plain value [] k.1 (inl refl))

permanence_rest : (permanent : Bool) → IsRest (permanence_words permanent)
permanence_rest true = inr (codes "permanent", refl)
permanence_rest false = inl refl

permanence_again : (total number : ℕ) (t : Target) (permanent : Bool) → permanence_read total (permanence_words permanent) number t ≡ Ok (request.Device number t permanent)
permanence_again total number t true = refl
permanence_again total number t false = refl

device_again : (total number : ℕ) (t : Target) (permanent : Bool) → number < 2 ^ 64 → device_read t total (32 ∷ (decimal number ++ permanence_words permanent)) ≡ Ok (request.Device number t permanent)
device_again total number t permanent h =
    let more : List ℕ = permanence_words permanent in
    ap (λ (o : Result ℕ ℕ). then_take o (λ n. permanence_read total (behind_word (decimal number ++ more)) n t)) (next_again total (decimal number) more number_in number (decimal_plain number h) (permanence_rest permanent) (is_number (decimal number) number h refl))
    ∙ ap (λ (l : List ℕ). permanence_read total l number t) (behind_plain (decimal number) more (decimal_plain number h) (permanence_rest permanent))
    ∙ permanence_again total number t permanent

remove_again : (total id : ℕ) → id < 2 ^ 64 → remove_read total (32 ∷ (decimal id ++ [])) ≡ Ok (request.RemoveRule id)
remove_again total id h =
    ap (λ (o : Result ℕ ℕ). then_take o (λ n. nothing_behind total (behind_word (decimal id ++ [])) (request.RemoveRule n))) (next_again total (decimal id) [] number_in id (decimal_plain id h) (inl refl) (is_number (decimal id) id h refl))
    ∙ ap (λ (l : List ℕ). nothing_behind total l (request.RemoveRule id)) (behind_plain (decimal id) [] (decimal_plain id h) (inl refl))

not_zero : (n : ℕ) → 0 < n → nat_eq n 0 ≡ false
not_zero n h = grind (arith, nat_tests)

low : 0 < 2 ^ 64
low = omega arith

after_again : (a : After) → IsAfter a → after_in (after_word a) ≡ Some a
after_again after.End h = refl
after_again after.Front h = ap after_number (is_number (codes "0") 0 low (sym zero_text))
after_again (after.Rule id) h =
    ap (λ (v : Bool). cond v (Some after.End) (after_number (number_in (decimal id)))) (decimal_no_end id h.1)
    ∙ ap after_number (is_number (decimal id) id h.1 refl)
    ∙ ap (λ (v : Bool). cond v (Some after.Front) (Some (after.Rule id))) (not_zero id h.0)

after_plain : (a : After) → IsAfter a → ¬ Has (after_word a) 32
after_plain after.End h k = by k
  where
    by : Has (codes "end") 32 → ⊥
    by (inl e) = let none : ⊥ = omega (arith, e) in none
    by (inr (inl e)) = let none : ⊥ = omega (arith, e) in none
    by (inr (inr (inl e))) = let none : ⊥ = omega (arith, e) in none
    by (inr (inr (inr e))) = e
after_plain after.Front h k = decimal_plain 0 low (subst (λ (l : List ℕ). Has l 32) (sym zero_text) k)
after_plain (after.Rule id) h k = decimal_plain id h.1 k

kind_again : (permanent : Bool) → rule_kind_in (kind_word permanent) ≡ Some permanent
kind_again true = refl
kind_again false = refl

kind_first : (permanent : Bool) (rule : List ℕ) → word_in_front (kind_word permanent ++ 32 ∷ rule) ≡ kind_word permanent
kind_first true rule = refl
kind_first false rule = refl

kind_behind : (permanent : Bool) (rule : List ℕ) → behind_word (kind_word permanent ++ 32 ∷ rule) ≡ 32 ∷ rule
kind_behind true rule = refl
kind_behind false rule = refl

rule_again : (total : ℕ) (rule : List ℕ) (a : After) (permanent : Bool) → rule ≢ [] → rule_at_end total (32 ∷ rule) a permanent ≡ Ok (request.AppendRule a permanent rule)
rule_again total [] a permanent h = absurd (h refl)
rule_again total (c ∷ rule) a permanent h = refl

append_again : (total : ℕ) (a : After) (permanent : Bool) (rule : List ℕ) → IsAfter a → rule ≢ [] → append_read total (32 ∷ (after_word a ++ 32 ∷ (kind_word permanent ++ 32 ∷ rule))) ≡ Ok (request.AppendRule a permanent rule)
append_again total a permanent rule h k =
    let text : List ℕ = kind_word permanent ++ 32 ∷ rule in
    let more : List ℕ = 32 ∷ text in
    let rest : IsRest more = inr (text, refl) in
    ap (λ (o : Result After ℕ). then_take o (λ x. then_take (next_read total (behind_word (after_word a ++ more)) rule_kind_in) (λ p. rule_at_end total (behind_next (behind_word (after_word a ++ more))) x p))) (next_again total (after_word a) more after_in a (after_plain a h) rest (after_again a h))
    ∙ ap (λ (l : List ℕ). then_take (next_read total l rule_kind_in) (λ p. rule_at_end total (behind_next l) a p)) (behind_plain (after_word a) more (after_plain a h) rest)
    ∙ ap (λ (w : List ℕ). then_take (or_wrong (next_place total more) (rule_kind_in w)) (λ p. rule_at_end total (behind_word text) a p)) (kind_first permanent rule)
    ∙ ap (λ (o : Option Bool). then_take (or_wrong (next_place total more) o) (λ p. rule_at_end total (behind_word text) a p)) (kind_again permanent)
    ∙ ap (λ (l : List ℕ). rule_at_end total l a permanent) (kind_behind permanent rule)
    ∙ rule_again total rule a permanent k

pub read_again : (r : Request) → IsRequest r → request_read (request_text r) ≡ Ok r
unfolding request_text named_read rule_request_read
read_again (request.GetParameter name) h = ap (λ (l : List ℕ). request_read (codes "get-parameter " ++ l)) (sym (append-nil name)) ∙ get_again _ name h
read_again (request.SetParameter name value) h = ap (λ (l : List ℕ). request_read (codes "set-parameter " ++ (name ++ 32 ∷ l))) (sym (append-nil value)) ∙ set_again _ name value h.0 h.1
read_again request.ListDevices h = refl
read_again (request.Device number target.Allow permanent) h = device_again _ number target.Allow permanent h
read_again (request.Device number target.Block permanent) h = device_again _ number target.Block permanent h
read_again (request.Device number target.Reject permanent) h = device_again _ number target.Reject permanent h
read_again request.ListRules h = refl
read_again (request.AppendRule a permanent rule) h = append_again _ a permanent rule h.0 h.1
read_again (request.RemoveRule id) h = ap (λ (l : List ℕ). request_read (codes "remove-rule " ++ l)) (sym (append-nil (decimal id))) ∙ remove_again _ id h
read_again request.Watch h = refl

pub reads : (line : List ℕ) (r : Request) → (request_read line ≡ Ok r → (line ≡ request_text r) × IsRequest r) × ((line ≡ request_text r) × IsRequest r → request_read line ≡ Ok r)
reads line r = (read_written line r, λ h. ap request_read h.0 ∙ read_again r h.1)
