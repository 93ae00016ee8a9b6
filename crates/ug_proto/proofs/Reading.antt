-- What reads as a request is its text.
use Rattle.std.proofs.Common.{◌≡◌, ◌≢◌, ℕ, ◌<◌, ◌^◌, inl, inr, Bool, true, false, cond, nat_eq, List, [], ◌∷◌, ◌++◌, length, Option, Some, None, Result, Ok, Err, refl, sym, ap, subst, ◌∙◌, arith}
use Rattle.std.specs.Prelude.{codes, decimal}
use Rattle.std.specs.Cmp.Lexicographic.{pointwise, same_text}
use Rattle.std.proofs.lemmas.Bool.Decides.{nat_tests}
use Rattle.std.proofs.lemmas.List.{append-nil}
use Rattle.std.proofs.lemmas.Option.{none-some, same_Some}
use Rattle.ug_types.specs.Elements.{Has}
use Rattle.ug_types.specs.declared.rule.After.{After}
use Rattle.ug_types.specs.declared.rule.After.TheVariants as after
use Rattle.ug_types.specs.declared.verdict.Target.{Target}
use Rattle.ug_types.specs.declared.verdict.Target.TheVariants as target
use Rattle.ug_proto.specs.declared.request.Request.{Request}
use Rattle.ug_proto.specs.declared.request.Request.TheVariants as request
use Rattle.ug_lines.specs.Numbers.{number_in}
use Rattle.ug_proto.specs.Requests.{then_take, or_wrong, behind_next, next_place, next_read, unless_empty, nothing_behind, after_number, after_in, rule_kind_in, permanence_in, get_read, set_read, permanence_read, device_read, rule_at_end, append_read, remove_read, rule_request_read, named_read, request_read}
use Rattle.ug_proto.specs.Splitting.{word_in_front, behind_word, IsPlainWord, IsRest}
use Rattle.ug_proto.specs.Texts.{device_word, permanence_words, kind_word, after_word, request_text, IsAfter, IsRequest}
use Rattle.ug_lines.proofs.Numerals.{number_found}
use Rattle.ug_proto.proofs.Numerals.{zero_text}
use Rattle.ug_proto.proofs.Words.{whole, no_space, is_rest}

abbrev Reading : Type 0
Reading = Result Request ℕ

same_request : (r s : Request) → ◌≡◌ {A = Reading} (Ok r) (Ok s) → r ≡ s
same_request r s h = let e : r ≡ s = cc in e

not_ok : (place : ℕ) (r : Request) → ◌≡◌ {A = Reading} (Err place) (Ok r) → ⊥
not_ok place r h = let none : ⊥ = cc in none

taken_ok : {X : Type 0} (read : Result X ℕ) (next : X → Reading) (r : Request) → then_take read next ≡ Ok r → (x : X) × (read ≡ Ok x) × (next x ≡ Ok r)
taken_ok (Ok x) next r h = (x, refl, h)
taken_ok (Err place) next r h = absurd (not_ok place r h)

meant : {X : Type 0} (place : ℕ) (o : Option X) (x : X) → or_wrong place o ≡ Ok x → o ≡ Some x
meant {X} place None x h = let none : ⊥ = cc in absurd none
meant {X} place (Some y) x h = let e : y ≡ x = cc in ap Some e

-- the next word, and what stands behind
pub record Next {X : Type 0} (rest : List ℕ) (meaning : List ℕ → Option X) (x : X) : Type 0 where
  pub word : List ℕ
  pub is : rest ≡ 32 ∷ (word ++ behind_next rest)
  pub means : meaning word ≡ Some x
  pub plain : ¬ Has word 32
  pub behind : IsRest (behind_next rest)

next_found : {X : Type 0} (total : ℕ) (rest : List ℕ) (meaning : List ℕ → Option X) (x : X) → IsRest rest → next_read total rest meaning ≡ Ok x → Next rest meaning x
next_found {X} total [] meaning x i h = let none : ⊥ = cc in absurd none
next_found {X} total (b ∷ text) meaning x (inl e) h = let none : ⊥ = cc in absurd none
next_found {X} total (b ∷ text) meaning x (inr k) h =
    let space : b ≡ 32 = (let e : b ∷ text ≡ 32 ∷ k.0 = k.1 in cc) in record {
      word = word_in_front text;
      is = ap (λ (c : ℕ). c ∷ text) space ∙ ap (λ (l : List ℕ). 32 ∷ l) (whole text);
      means = meant (next_place total (b ∷ text)) (meaning (word_in_front text)) x h;
      plain = no_space text;
      behind = is_rest text;
    }

ended_found : (total : ℕ) (rest : List ℕ) (r s : Request) → nothing_behind total rest r ≡ Ok s → (rest ≡ []) × (r ≡ s)
ended_found total [] r s h = (refl, same_request r s h)
ended_found total (b ∷ text) r s h = absurd (not_ok _ s h)

word_found : (word name : List ℕ) → unless_empty word ≡ Some name → (word ≡ name) × (name ≢ [])
word_found [] name h = absurd (none-some name h)
word_found (b ∷ word) name h = let e : b ∷ word ≡ name = same_Some (b ∷ word) name h in (e, λ k. (let none : ⊥ = (let m : b ∷ word ≡ [] = e ∙ k in cc) in none))

plain_word : (rest name : List ℕ) → (n : Next rest unless_empty name) → (rest ≡ 32 ∷ (name ++ behind_next rest)) × IsPlainWord name
plain_word rest name n =
    let f = word_found n.word name n.means in
    (n.is ∙ ap (λ (l : List ℕ). 32 ∷ (l ++ behind_next rest)) f.0, (f.1, subst (λ (l : List ℕ). ¬ Has l 32) f.0 n.plain))

numbered : (rest : List ℕ) (n : ℕ) → Next rest number_in n → (rest ≡ 32 ∷ (decimal n ++ behind_next rest)) × (n < 2 ^ 64)
numbered rest n f = let k = number_found f.word n f.means in (f.is ∙ ap (λ (l : List ℕ). 32 ∷ (l ++ behind_next rest)) k.0, k.1)

-- what is read behind a word is what stands there in the text
abbrev Written : List ℕ → List ℕ → Request → Type 0
Written word rest r = (word ++ rest ≡ request_text r) × IsRequest r

get_written : (total : ℕ) (rest : List ℕ) (r : Request) → IsRest rest → get_read total rest ≡ Ok r → Written (codes "get-parameter") rest r
unfolding request_text
get_written total rest r i h =
    let t = taken_ok (next_read total rest unless_empty) (λ name. nothing_behind total (behind_next rest) (request.GetParameter name)) r h in
    let p = plain_word rest t.0 (next_found total rest unless_empty t.0 i t.1) in
    let e = ended_found total (behind_next rest) (request.GetParameter t.0) r t.2 in
    subst (Written (codes "get-parameter") rest) e.1 (
      ap (λ (l : List ℕ). codes "get-parameter" ++ l) (p.0 ∙ ap (λ (l : List ℕ). 32 ∷ (t.0 ++ l)) e.0 ∙ ap (λ (l : List ℕ). 32 ∷ l) (append-nil t.0)),
      p.1,
    )

set_written : (total : ℕ) (rest : List ℕ) (r : Request) → IsRest rest → set_read total rest ≡ Ok r → Written (codes "set-parameter") rest r
unfolding request_text
set_written total rest r i h =
    let t = taken_ok (next_read total rest unless_empty) (λ name. then_take (next_read total (behind_next rest) unless_empty) (λ value. nothing_behind total (behind_next (behind_next rest)) (request.SetParameter name value))) r h in
    let n = next_found total rest unless_empty t.0 i t.1 in
    let p = plain_word rest t.0 n in
    let u = taken_ok (next_read total (behind_next rest) unless_empty) (λ value. nothing_behind total (behind_next (behind_next rest)) (request.SetParameter t.0 value)) r t.2 in
    let q = plain_word (behind_next rest) u.0 (next_found total (behind_next rest) unless_empty u.0 n.behind u.1) in
    let e = ended_found total (behind_next (behind_next rest)) (request.SetParameter t.0 u.0) r u.2 in
    subst (Written (codes "set-parameter") rest) e.1 (
      ap (λ (l : List ℕ). codes "set-parameter" ++ l) (p.0 ∙ ap (λ (l : List ℕ). 32 ∷ (t.0 ++ l)) (q.0 ∙ ap (λ (l : List ℕ). 32 ∷ (u.0 ++ l)) e.0 ∙ ap (λ (l : List ℕ). 32 ∷ l) (append-nil u.0))),
      (p.1, q.1),
    )

permanent_found : (word : List ℕ) (permanent : Bool) → permanence_in word ≡ Some permanent → (word ≡ codes "permanent") × (true ≡ permanent)
permanent_found word permanent h = by (pointwise nat_eq word (codes "permanent")) refl h
  where
    by : (v : Bool) → pointwise nat_eq word (codes "permanent") ≡ v → cond v (Some true) None ≡ Some permanent → (word ≡ codes "permanent") × (true ≡ permanent)
    by true e k = (same_text word (codes "permanent") (sym e), same_Some true permanent k)
    by false e k = absurd (none-some permanent k)

permanence_written : (total : ℕ) (rest : List ℕ) (number : ℕ) (t : Target) (r : Request) → IsRest rest → permanence_read total rest number t ≡ Ok r
    → (permanent : Bool) × (rest ≡ permanence_words permanent) × (request.Device number t permanent ≡ r)
permanence_written total [] number t r i h = (false, refl, same_request (request.Device number t false) r h)
permanence_written total (b ∷ text) number t r i h =
    let u = taken_ok (next_read total (b ∷ text) permanence_in) (λ permanent. nothing_behind total (behind_word text) (request.Device number t permanent)) r h in
    let n = next_found total (b ∷ text) permanence_in u.0 i u.1 in
    let p = permanent_found n.word u.0 n.means in
    let e = ended_found total (behind_word text) (request.Device number t u.0) r u.2 in (
      true,
      n.is ∙ ap (λ (l : List ℕ). 32 ∷ (l ++ behind_word text)) p.0 ∙ ap (λ (l : List ℕ). codes " permanent" ++ l) e.0,
      ap (λ (v : Bool). request.Device number t v) p.1 ∙ e.1,
    )

device_written : (t : Target) (total : ℕ) (rest : List ℕ) (r : Request) → IsRest rest → device_read t total rest ≡ Ok r → Written (device_word t) rest r
unfolding request_text
device_written t total rest r i h =
    let u = taken_ok (next_read total rest number_in) (λ number. permanence_read total (behind_next rest) number t) r h in
    let n = next_found total rest number_in u.0 i u.1 in
    let k = numbered rest u.0 n in
    let p = permanence_written total (behind_next rest) u.0 t r n.behind u.2 in
    subst (Written (device_word t) rest) p.2 (
      ap (λ (l : List ℕ). device_word t ++ l) (k.0 ∙ ap (λ (l : List ℕ). 32 ∷ (decimal u.0 ++ l)) p.1),
      k.1,
    )

kind_found : (word : List ℕ) (permanent : Bool) → rule_kind_in word ≡ Some permanent → word ≡ kind_word permanent
kind_found word permanent h = by (pointwise nat_eq word (codes "permanent")) (pointwise nat_eq word (codes "temporary")) refl refl h
  where
    by : (v u : Bool) → pointwise nat_eq word (codes "permanent") ≡ v → pointwise nat_eq word (codes "temporary") ≡ u → cond v (Some true) (cond u (Some false) None) ≡ Some permanent → word ≡ kind_word permanent
    by true u e f k = same_text word (codes "permanent") (sym e) ∙ ap kind_word (same_Some true permanent k)
    by false true e f k = same_text word (codes "temporary") (sym f) ∙ ap kind_word (same_Some false permanent k)
    by false false e f k = absurd (none-some permanent k)

above : (n : ℕ) → nat_eq n 0 ≡ false → 0 < n
above n e = grind (arith, nat_tests)

zero_is : (n : ℕ) → nat_eq n 0 ≡ true → n ≡ 0
zero_is n e = grind (arith, nat_tests)

after_found : (word : List ℕ) (a : After) → after_in word ≡ Some a → (word ≡ after_word a) × IsAfter a
after_found word a h = by (pointwise nat_eq word (codes "end")) (number_in word) refl refl h
  where
    Found : After → Type 0
    Found a = (word ≡ after_word a) × IsAfter a

    id : (n : ℕ) → number_in word ≡ Some n → (v : Bool) → nat_eq n 0 ≡ v → cond v (Some after.Front) (Some (after.Rule n)) ≡ Some a → Found a
    id n f true e k = subst Found (same_Some after.Front a k) ((number_found word n f).0 ∙ (ap decimal (zero_is n e) ∙ zero_text), tt)
    id n f false e k = subst Found (same_Some (after.Rule n) a k) ((number_found word n f).0, (above n e, (number_found word n f).1))

    by : (v : Bool) (o : Option ℕ) → pointwise nat_eq word (codes "end") ≡ v → number_in word ≡ o → cond v (Some after.End) (after_number o) ≡ Some a → Found a
    by true o e f k = subst Found (same_Some after.End a k) (same_text word (codes "end") (sym e), tt)
    by false None e f k = absurd (none-some a k)
    by false (Some n) e f k = id n f (nat_eq n 0) refl k

rule_written : (total : ℕ) (rest : List ℕ) (a : After) (permanent : Bool) (r : Request) → IsRest rest → rule_at_end total rest a permanent ≡ Ok r
    → (rule : List ℕ) × (rest ≡ 32 ∷ rule) × (rule ≢ []) × (request.AppendRule a permanent rule ≡ r)
rule_written total [] a permanent r i h = absurd (not_ok total r h)
rule_written total (b ∷ []) a permanent r i h = absurd (not_ok total r h)
rule_written total (b ∷ c ∷ rule) a permanent r (inl e) h = let none : ⊥ = cc in absurd none
rule_written total (b ∷ c ∷ rule) a permanent r (inr k) h =
    let space : b ≡ 32 = (let e : b ∷ c ∷ rule ≡ 32 ∷ k.0 = k.1 in cc) in
    (c ∷ rule, ap (λ (x : ℕ). x ∷ c ∷ rule) space, (λ e. (let none : ⊥ = cc in none)), same_request (request.AppendRule a permanent (c ∷ rule)) r h)

append_written : (total : ℕ) (rest : List ℕ) (r : Request) → IsRest rest → append_read total rest ≡ Ok r → Written (codes "append-rule") rest r
unfolding request_text
append_written total rest r i h =
    let t = taken_ok (next_read total rest after_in) (λ a. then_take (next_read total (behind_next rest) rule_kind_in) (λ permanent. rule_at_end total (behind_next (behind_next rest)) a permanent)) r h in
    let n = next_found total rest after_in t.0 i t.1 in
    let p = after_found n.word t.0 n.means in
    let u = taken_ok (next_read total (behind_next rest) rule_kind_in) (λ permanent. rule_at_end total (behind_next (behind_next rest)) t.0 permanent) r t.2 in
    let m = next_found total (behind_next rest) rule_kind_in u.0 n.behind u.1 in
    let k = kind_found m.word u.0 m.means in
    let w = rule_written total (behind_next (behind_next rest)) t.0 u.0 r m.behind u.2 in
    subst (Written (codes "append-rule") rest) w.3 (
      ap (λ (l : List ℕ). codes "append-rule" ++ l) (n.is ∙ ap (λ (l : List ℕ). 32 ∷ (l ++ behind_next rest)) p.0
          ∙ ap (λ (l : List ℕ). 32 ∷ (after_word t.0 ++ l)) (m.is ∙ ap (λ (l : List ℕ). 32 ∷ (l ++ behind_next (behind_next rest))) k ∙ ap (λ (l : List ℕ). 32 ∷ (kind_word u.0 ++ l)) w.1)),
      (p.1, w.2),
    )

remove_written : (total : ℕ) (rest : List ℕ) (r : Request) → IsRest rest → remove_read total rest ≡ Ok r → Written (codes "remove-rule") rest r
unfolding request_text
remove_written total rest r i h =
    let t = taken_ok (next_read total rest number_in) (λ id. nothing_behind total (behind_next rest) (request.RemoveRule id)) r h in
    let k = numbered rest t.0 (next_found total rest number_in t.0 i t.1) in
    let e = ended_found total (behind_next rest) (request.RemoveRule t.0) r t.2 in
    subst (Written (codes "remove-rule") rest) e.1 (
      ap (λ (l : List ℕ). codes "remove-rule" ++ l) (k.0 ∙ ap (λ (l : List ℕ). 32 ∷ (decimal t.0 ++ l)) e.0 ∙ ap (λ (l : List ℕ). 32 ∷ l) (append-nil (decimal t.0))),
      k.1,
    )

alone_written : (word : List ℕ) (s : Request) (total : ℕ) (rest : List ℕ) (r : Request) → word ++ [] ≡ request_text s → IsRequest s → nothing_behind total rest s ≡ Ok r → Written word rest r
alone_written word s total rest r t w h =
    let e = ended_found total rest s r h in
    subst (Written word rest) e.1 (ap (λ (l : List ℕ). word ++ l) e.0 ∙ t, w)

-- one row of the table of first words
row : (word text : List ℕ) (rest : List ℕ) (r : Request) (here more : Reading) → (here ≡ Ok r → Written text rest r) → (more ≡ Ok r → Written word rest r) → cond (pointwise nat_eq word text) here more ≡ Ok r → Written word rest r
row word text rest r here more f g h = by (pointwise nat_eq word text) refl h
  where
    by : (v : Bool) → pointwise nat_eq word text ≡ v → cond v here more ≡ Ok r → Written word rest r
    by true e k = subst (λ (w : List ℕ). Written w rest r) (sym (same_text word text (sym e))) (f k)
    by false e k = g k

named_written : (word : List ℕ) (total : ℕ) (rest : List ℕ) (r : Request) → IsRest rest → named_read word total rest ≡ Ok r → Written word rest r
unfolding named_read rule_request_read request_text
named_written word total rest r i h =
    row word (codes "get-parameter") rest r _ _ (get_written total rest r i) (
    row word (codes "set-parameter") rest r _ _ (set_written total rest r i) (
    row word (codes "list-devices") rest r _ _ (alone_written (codes "list-devices") request.ListDevices total rest r refl tt) (
    row word (codes "allow-device") rest r _ _ (device_written target.Allow total rest r i) (
    row word (codes "block-device") rest r _ _ (device_written target.Block total rest r i) (
    row word (codes "reject-device") rest r _ _ (device_written target.Reject total rest r i) (
    row word (codes "list-rules") rest r _ _ (alone_written (codes "list-rules") request.ListRules total rest r refl tt) (
    row word (codes "append-rule") rest r _ _ (append_written total rest r i) (
    row word (codes "remove-rule") rest r _ _ (remove_written total rest r i) (
    row word (codes "watch") rest r _ _ (alone_written (codes "watch") request.Watch total rest r refl tt) (λ k. absurd (not_ok 0 r k))))))))))) h

pub read_written : (line : List ℕ) (r : Request) → request_read line ≡ Ok r → (line ≡ request_text r) × IsRequest r
read_written line r h =
    let n = named_written (word_in_front line) (length line) (behind_word line) r (is_rest line) h in
    (whole line ∙ n.0, n.1)
