-- A line that is no request is bad at the place that was read, and at no other.
use Rattle.std.proofs.Common.{◌≡◌, ℕ, ◌-◌, ◌<◌, ◌≤◌, inl, inr, Bool, true, false, cond, nat_eq, List, [], ◌∷◌, ◌++◌, length, Option, Some, None, Result, Ok, Err, refl, sym, ap, subst, ◌∙◌, append_assoc, arith}
use Rattle.std.specs.Prelude.{codes}
use Rattle.std.specs.Cmp.Lexicographic.{pointwise, same_text}
use Rattle.std.proofs.lemmas.List.{append-nil, length-append}
use Rattle.ug_types.specs.Elements.{Has}
use Rattle.ug_types.specs.declared.rule.After.{After}
use Rattle.ug_types.specs.declared.rule.After.TheVariants as after
use Rattle.ug_types.specs.declared.verdict.Target.{Target}
use Rattle.ug_types.specs.declared.verdict.Target.TheVariants as target
use Rattle.ug_proto.specs.declared.request.Request.{Request}
use Rattle.ug_proto.specs.declared.request.Request.TheVariants as request
use Rattle.ug_proto.specs.BadRequests.{BeginsRequest, FitsBefore, HasWrongWord, IsBadRequest}
use Rattle.ug_lines.specs.Numbers.{number_in}
use Rattle.ug_proto.specs.Requests.{then_take, or_wrong, behind_next, next_place, next_read, unless_empty, nothing_behind, after_in, rule_kind_in, permanence_in, get_read, set_read, permanence_read, device_read, rule_at_end, append_read, remove_read, rule_request_read, named_read, request_read}
use Rattle.ug_proto.specs.Splitting.{word_in_front, behind_word, IsRest}
use Rattle.ug_proto.specs.Texts.{request_text, IsRequest}
use Rattle.ug_proto.proofs.Again.{next_again, reads}
use Rattle.ug_lines.proofs.Numerals.{is_number}
use Rattle.ug_proto.proofs.Numerals.{zero_text}
use Rattle.ug_proto.proofs.Reading.{read_written}
use Rattle.ug_proto.proofs.Words.{whole, no_space, is_rest, first_plain, behind_plain}

abbrev Reader : Type 0
Reader = ℕ → List ℕ → Result Request ℕ

-- behind these words the line is read so
abbrev LeavesTo : List ℕ → Reader → Type 0
LeavesTo front read = (rest : List ℕ) → IsRest rest → request_read (front ++ rest) ≡ read (length (front ++ rest)) rest

-- then the line is bad at the place that is read
abbrev IsBadWith : List ℕ → List ℕ → Type 0
IsBadWith front rest = (place : ℕ) → request_read (front ++ rest) ≡ Err place → IsBadRequest (front ++ rest) place

record TellsPlaces (front : List ℕ) (read : Reader) : Type 0 where
  tells : LeavesTo front read → (rest : List ℕ) → IsRest rest → IsBadWith front rest

both : (line : List ℕ) (place : ℕ) (r : Request) → request_read line ≡ Err place → request_read line ≡ Ok r → ⊥
both line place r e f = let none : ⊥ = cc in none

same_err : (line : List ℕ) (p q : ℕ) → request_read line ≡ Err p → request_read line ≡ Err q → p ≡ q
same_err line p q e f = let same : p ≡ q = cc in same

by_rest : (P : List ℕ → Type 0) → P [] → ((text : List ℕ) → P (32 ∷ text)) → (rest : List ℕ) → IsRest rest → P rest
by_rest P n s rest (inl e) = subst P (sym e) n
by_rest P n s rest (inr h) = subst P (sym h.1) (s h.0)

begins_by : (front rest : List ℕ) (r : Request) → IsRest rest → request_read (front ++ rest) ≡ Ok r → BeginsRequest front
begins_by front rest r i h = let k = read_written (front ++ rest) r h in record { request = r; can = k.1; more = rest; rest = i; whole = sym k.0 }

missing : (line : List ℕ) (place : ℕ) → BeginsRequest line → request_read line ≡ Err (length line) → request_read line ≡ Err place → IsBadRequest line place
missing line place b e h = inr record {
  begins = b;
  none = λ r c w. both line place r h ((reads line r).1 (w, c));
  at = same_err line place (length line) h e;
}

wrong_word : (before text : List ℕ) → FitsBefore before → ((more : List ℕ) → IsRest more → (r : Request) → request_read (before ++ (word_in_front text ++ more)) ≡ Ok r → ⊥) → IsBadRequest (before ++ text) (length before)
wrong_word before text f never = inl record {
  before = before;
  word = word_in_front text;
  behind = behind_word text;
  whole = ap (λ (l : List ℕ). before ++ l) (whole text);
  fits = f;
  plain = no_space text;
  rest = is_rest text;
  wrong = λ b. never b.more b.rest b.request ((reads _ b.request).1 (sym (append_assoc before (word_in_front text) b.more) ∙ sym b.whole, b.can));
  at = refl;
}

-- what stands before a word, with the space between
behind_space : (front text : List ℕ) → length (front ++ 32 ∷ text) - length text ≡ length (front ++ 32 ∷ [])
behind_space front text = omega (arith, length-append front (32 ∷ text), length-append front (32 ∷ []))

-- one more word, if a meaning is found in it
next_tells : {X : Type 0} (front : List ℕ) (meaning : List ℕ → Option X) (next : X → Reader) → BeginsRequest front
    → ((text : List ℕ) → request_read (front ++ 32 ∷ text) ≡ then_take (next_read (length (front ++ 32 ∷ text)) (32 ∷ text) meaning) (λ x. next x (length (front ++ 32 ∷ text)) (behind_word text)))
    → ((word : List ℕ) (x : X) → TellsPlaces (front ++ 32 ∷ word) (next x))
    → (text : List ℕ) → IsBadWith front (32 ∷ text)
next_tells {X} front meaning next b leaves tells text place h = by (meaning word) refl
  where
    word : List ℕ
    word = word_in_front text

    space : List ℕ
    space = front ++ 32 ∷ []

    read : Option X → List ℕ → Result Request ℕ
    read o line = then_take (or_wrong (next_place (length (front ++ 32 ∷ line)) (32 ∷ line)) o) (λ x. next x (length (front ++ 32 ∷ line)) (behind_word line))

    by : (o : Option X) → meaning word ≡ o → IsBadRequest (front ++ 32 ∷ text) place
    by None e =
        let at : place ≡ length space = same_err (front ++ 32 ∷ text) place _ h (leaves text ∙ ap (λ (o : Option X). read o text) e) ∙ behind_space front text in
        let never : (more : List ℕ) → IsRest more → (r : Request) → request_read (space ++ (word ++ more)) ≡ Ok r → ⊥ = (λ more i r k.
        both (front ++ 32 ∷ (word ++ more)) _ r (leaves (word ++ more) ∙ ap (λ (o : Option X). read o (word ++ more)) (ap meaning (first_plain word more (no_space text) i) ∙ e))
        (ap request_read (sym (append_assoc front (32 ∷ []) (word ++ more))) ∙ k)) in
        subst (λ (l : List ℕ). IsBadRequest l place) (append_assoc front (32 ∷ []) text) (subst (IsBadRequest (space ++ text)) (sym at) (wrong_word space text (inr (front, refl, b)) never))
    by (Some x) e =
        let line : (front ++ 32 ∷ word) ++ behind_word text ≡ front ++ 32 ∷ text = append_assoc front (32 ∷ word) (behind_word text) ∙ ap (λ (l : List ℕ). front ++ 32 ∷ l) (sym (whole text)) in
        let l : LeavesTo (front ++ 32 ∷ word) (next x) = (λ rest i.
        let all : (front ++ 32 ∷ word) ++ rest ≡ front ++ 32 ∷ (word ++ rest) = append_assoc front (32 ∷ word) rest in
        ap request_read all ∙ leaves (word ++ rest)
        ∙ ap (λ (o : Result X ℕ). then_take o (λ x. next x (length (front ++ 32 ∷ (word ++ rest))) (behind_word (word ++ rest)))) (next_again _ word rest meaning x (no_space text) i e)
        ∙ ap (next x (length (front ++ 32 ∷ (word ++ rest)))) (behind_plain word rest (no_space text) i)
        ∙ ap (λ (l : List ℕ). next x (length l) rest) (sym all)) in
        subst (λ (l : List ℕ). IsBadRequest l place) line ((tells word x).tells l (behind_word text) (is_rest text) place (ap request_read line ∙ h))

-- a word is missing, or it stands there; an example shows that a request goes on
needs_word : {X : Type 0} (front : List ℕ) (meaning : List ℕ → Option X) (next : X → Reader) (example : List ℕ) (r : Request)
    → ((total : ℕ) → then_take (next_read total (32 ∷ example) meaning) (λ x. next x total (behind_word example)) ≡ Ok r)
    → ((word : List ℕ) (x : X) → TellsPlaces (front ++ 32 ∷ word) (next x))
    → TellsPlaces front (λ total rest. then_take (next_read total rest meaning) (λ x. next x total (behind_next rest)))
needs_word {X} front meaning next example r ok tells = record {
  tells = λ leaves.
      let begins : BeginsRequest front = begins_by front (32 ∷ example) r (inr (example, refl)) (leaves (32 ∷ example) (inr (example, refl)) ∙ ok _) in
      by_rest (IsBadWith front)
      (λ place h. missing (front ++ []) place (subst BeginsRequest (sym (append-nil front)) begins) (leaves [] (inl refl)) h)
      (next_tells front meaning next begins (λ text. leaves (32 ∷ text) (inr (text, refl))) tells);
}

ends : (front : List ℕ) (r : Request) → TellsPlaces front (λ total rest. nothing_behind total rest r)
ends front r = record {
  tells = λ leaves.
      by_rest (IsBadWith front)
      (λ place h. absurd (both (front ++ []) place r h (leaves [] (inl refl))))
      (next_tells {X = ⊥} front (λ _. None) (λ x. absurd x) (begins_by front [] r (inl refl) (leaves [] (inl refl))) (λ text. leaves (32 ∷ text) (inr (text, refl))) (λ word x. absurd x));
}

get_tells : TellsPlaces (codes "get-parameter") get_read
get_tells = needs_word (codes "get-parameter") unless_empty (λ name total rest. nothing_behind total rest (request.GetParameter name)) (codes "x") (request.GetParameter (codes "x")) (λ total. refl)
    (λ word name. ends (codes "get-parameter" ++ 32 ∷ word) (request.GetParameter name))

set_tells : TellsPlaces (codes "set-parameter") set_read
set_tells = needs_word (codes "set-parameter") unless_empty value (codes "x y") (request.SetParameter (codes "x") (codes "y")) (λ total. refl)
    (λ word name. needs_word (codes "set-parameter" ++ 32 ∷ word) unless_empty (end name) (codes "y") (request.SetParameter name (codes "y")) (λ total. refl)
    (λ second v. ends ((codes "set-parameter" ++ 32 ∷ word) ++ 32 ∷ second) (request.SetParameter name v)))
  where
    end : List ℕ → List ℕ → Reader
    end name v total rest = nothing_behind total rest (request.SetParameter name v)

    value : List ℕ → Reader
    value name total rest = then_take (next_read total rest unless_empty) (λ v. end name v total (behind_next rest))

permanence_tells : (front : List ℕ) (number : ℕ) (t : Target) → TellsPlaces front (λ total rest. permanence_read total rest number t)
permanence_tells front number t = record {
  tells = λ leaves.
      by_rest (IsBadWith front)
      (λ place h. absurd (both (front ++ []) place (request.Device number t false) h (leaves [] (inl refl))))
      (next_tells front permanence_in (λ permanent total rest. nothing_behind total rest (request.Device number t permanent)) (begins_by front [] (request.Device number t false) (inl refl) (leaves [] (inl refl)))
      (λ text. leaves (32 ∷ text) (inr (text, refl))) (λ word permanent. ends (front ++ 32 ∷ word) (request.Device number t permanent)));
}

zero_read : number_in (codes "0") ≡ Some 0
zero_read = is_number (codes "0") 0 (omega arith) (sym zero_text)

device_tells : (front : List ℕ) (t : Target) → TellsPlaces front (device_read t)
device_tells front t = needs_word front number_in (λ number total rest. permanence_read total rest number t) (codes "0") (request.Device 0 t false)
    (λ total. ap (λ (o : Option ℕ). then_take (or_wrong (next_place total (codes " 0")) o) (λ number. permanence_read total [] number t)) zero_read)
    (λ word number. permanence_tells (front ++ 32 ∷ word) number t)

remove_tells : TellsPlaces (codes "remove-rule") remove_read
remove_tells = needs_word (codes "remove-rule") number_in (λ id total rest. nothing_behind total rest (request.RemoveRule id)) (codes "0") (request.RemoveRule 0)
    (λ total. ap (λ (o : Option ℕ). then_take (or_wrong (next_place total (codes " 0")) o) (λ id. nothing_behind total [] (request.RemoveRule id))) zero_read)
    (λ word id. ends (codes "remove-rule" ++ 32 ∷ word) (request.RemoveRule id))

-- an empty rule is missing, whether the space before it stands or not
rule_tells : (front : List ℕ) (a : After) (permanent : Bool) → TellsPlaces front (λ total rest. rule_at_end total rest a permanent)
rule_tells front a permanent = record {
  tells = λ leaves.
      let spaces : List ℕ = 32 ∷ 32 ∷ [] in
      let empty : Request = request.AppendRule a permanent (32 ∷ []) in
      let two : request_read (front ++ spaces) ≡ Ok empty = leaves spaces (inr (32 ∷ [], refl)) in
      let one : request_read ((front ++ 32 ∷ []) ++ 32 ∷ []) ≡ Ok empty = ap request_read (append_assoc front (32 ∷ []) (32 ∷ [])) ∙ two in
      by_rest (IsBadWith front)
      (λ place h. missing (front ++ []) place (subst BeginsRequest (sym (append-nil front)) (begins_by front spaces empty (inr (32 ∷ [], refl)) two)) (leaves [] (inl refl)) h)
      (λ text. elim text as (λ (t : List ℕ). IsBadWith front (32 ∷ t)) [
        | [] ↦ λ place h. missing (front ++ 32 ∷ []) place (begins_by (front ++ 32 ∷ []) (32 ∷ []) empty (inr ([], refl)) one) (leaves (32 ∷ []) (inr ([], refl))) h
        | c ∷ rule ↦ λ place h. absurd (both (front ++ 32 ∷ c ∷ rule) place (request.AppendRule a permanent (c ∷ rule)) h (leaves (32 ∷ c ∷ rule) (inr (c ∷ rule, refl))))
      ]);
}

append_tells : TellsPlaces (codes "append-rule") append_read
append_tells = needs_word (codes "append-rule") after_in kind (codes "end permanent x") (request.AppendRule after.End true (codes "x")) (λ total. refl)
    (λ word a. needs_word (codes "append-rule" ++ 32 ∷ word) rule_kind_in (rule a) (codes "permanent x") (request.AppendRule a true (codes "x")) (λ total. refl)
    (λ second permanent. rule_tells ((codes "append-rule" ++ 32 ∷ word) ++ 32 ∷ second) a permanent))
  where
    rule : After → Bool → Reader
    rule a permanent total rest = rule_at_end total rest a permanent

    kind : After → Reader
    kind a total rest = then_take (next_read total rest rule_kind_in) (λ permanent. rule a permanent total (behind_next rest))

no_first : (word : List ℕ) → ¬ Has word 32 → TellsPlaces word (λ total rest. Err 0)
no_first word plain = record {
  tells = λ leaves rest i place h.
      let at : place ≡ 0 = same_err (word ++ rest) place 0 h (leaves rest i) in
      subst (IsBadRequest (word ++ rest)) (sym at) (wrong_word [] (word ++ rest) (inl refl) (λ more j r k.
      both (word ++ more) 0 r (leaves more j) (ap (λ (w : List ℕ). request_read (w ++ more)) (sym (first_plain word rest plain i)) ∙ k)));
}

-- one row of the table of first words
row : (word text : List ℕ) (here more : Reader) → TellsPlaces text here → TellsPlaces word more → TellsPlaces word (λ total rest. cond (pointwise nat_eq word text) (here total rest) (more total rest))
row word text here more f g = by (pointwise nat_eq word text) refl
  where
    by : (v : Bool) → pointwise nat_eq word text ≡ v → TellsPlaces word (λ total rest. cond v (here total rest) (more total rest))
    by true e = subst (λ (w : List ℕ). TellsPlaces w here) (sym (same_text word text (sym e))) f
    by false e = g

named_tells : (word : List ℕ) → ¬ Has word 32 → TellsPlaces word (named_read word)
unfolding named_read rule_request_read
named_tells word plain =
    row word (codes "get-parameter") _ _ get_tells (
    row word (codes "set-parameter") _ _ set_tells (
    row word (codes "list-devices") _ _ (ends (codes "list-devices") request.ListDevices) (
    row word (codes "allow-device") _ _ (device_tells (codes "allow-device") target.Allow) (
    row word (codes "block-device") _ _ (device_tells (codes "block-device") target.Block) (
    row word (codes "reject-device") _ _ (device_tells (codes "reject-device") target.Reject) (
    row word (codes "list-rules") _ _ (ends (codes "list-rules") request.ListRules) (
    row word (codes "append-rule") _ _ append_tells (
    row word (codes "remove-rule") _ _ remove_tells (
    row word (codes "watch") _ _ (ends (codes "watch") request.Watch) (no_first word plain))))))))))

place_read : (line : List ℕ) (place : ℕ) → request_read line ≡ Err place → IsBadRequest line place
place_read line place h =
    let leaves : LeavesTo (word_in_front line) (named_read (word_in_front line)) = (λ rest i.
    let n = first_plain (word_in_front line) rest (no_space line) i in
    ap (λ (w : List ℕ). named_read w (length (word_in_front line ++ rest)) (behind_word (word_in_front line ++ rest))) n
    ∙ ap (named_read (word_in_front line) (length (word_in_front line ++ rest))) (behind_plain (word_in_front line) rest (no_space line) i)) in
    subst (λ (l : List ℕ). IsBadRequest l place) (sym (whole line))
    ((named_tells (word_in_front line) (no_space line)).tells leaves (behind_word line) (is_rest line) place (ap request_read (sym (whole line)) ∙ h))

-- words in front of words that begin a request begin it too
begins_front : (words rest : List ℕ) → IsRest rest → BeginsRequest (words ++ rest) → BeginsRequest words
begins_front words rest i b = record {
  request = b.request;
  can = b.can;
  more = rest ++ b.more;
  rest = by i;
  whole = b.whole ∙ append_assoc words rest b.more;
}
  where
    by : IsRest rest → IsRest (rest ++ b.more)
    by (inl e) = subst (λ (l : List ℕ). IsRest (l ++ b.more)) (sym e) b.rest
    by (inr h) = inr (h.0 ++ b.more, ap (λ (l : List ℕ). l ++ b.more) h.1)

cut_word : (word behind words more : List ℕ) → ¬ Has word 32 → IsRest behind → word ++ behind ≡ words ++ 32 ∷ more → (rest : List ℕ) × IsRest rest × (words ≡ word ++ rest)
cut_word [] behind [] more n i e = ([], inl refl, refl)
cut_word [] behind (c ∷ words) more n (inl k) e = let none : ⊥ = cc in absurd none
cut_word [] behind (c ∷ words) more n (inr h) e =
    let space : c ≡ 32 = (let all : c ∷ (words ++ 32 ∷ more) ≡ 32 ∷ h.0 = sym e ∙ h.1 in cc) in
    (c ∷ words, inr (words, ap (λ (b : ℕ). b ∷ words) space), refl)
cut_word (b ∷ word) behind [] more n i e = let space : b ≡ 32 = cc in absurd (n (inl space))
cut_word (b ∷ word) behind (c ∷ words) more n i e =
    let first : c ≡ b = cc in
    let others : word ++ behind ≡ words ++ 32 ∷ more = cc in
    let k = cut_word word behind words more (λ m. n (inr m)) i others in
    (k.0, k.1, ap (λ (a : ℕ). a ∷ words) first ∙ ap (λ (l : List ℕ). b ∷ l) k.2)

cut_before : (before word behind words more : List ℕ) → ¬ Has word 32 → IsRest behind → before ++ (word ++ behind) ≡ words ++ 32 ∷ more → length before ≤ length words → (rest : List ℕ) × IsRest rest × (words ≡ (before ++ word) ++ rest)
cut_before [] word behind words more n i e h = cut_word word behind words more n i e
cut_before (b ∷ before) word behind [] more n i e h = absurd (omega (arith, h))
cut_before (b ∷ before) word behind (c ∷ words) more n i e h =
    let first : c ≡ b = cc in
    let others : before ++ (word ++ behind) ≡ words ++ 32 ∷ more = cc in
    let k = cut_before before word behind words more n i others (omega (arith, h)) in
    (k.0, k.1, ap (λ (a : ℕ). a ∷ words) first ∙ ap (λ (l : List ℕ). b ∷ l) k.2)

-- words that fit don't go on behind the first that doesn't
not_later : (line : List ℕ) (p q : ℕ) → HasWrongWord line p → HasWrongWord line q → p < q → ⊥
not_later line p q w v h = by v.fits
  where
    by : FitsBefore v.before → ⊥
    by (inl e) = omega (arith, h, v.at, ap length e)
    by (inr f) =
        let longer = length-append f.0 (32 ∷ []) in
        let first : length w.before ≤ length f.0 = omega (arith, h, w.at, v.at, ap length f.1, longer) in
        let line_is : w.before ++ (w.word ++ w.behind) ≡ f.0 ++ 32 ∷ (v.word ++ v.behind)
        = sym w.whole ∙ v.whole ∙ ap (λ (l : List ℕ). l ++ (v.word ++ v.behind)) f.1 ∙ append_assoc f.0 (32 ∷ []) (v.word ++ v.behind) in
        let k = cut_before w.before w.word w.behind f.0 (v.word ++ v.behind) w.plain w.rest line_is first in
        w.wrong (begins_front (w.before ++ w.word) k.0 k.1 (subst BeginsRequest k.2 f.2))

not_begun : (line : List ℕ) (p : ℕ) → HasWrongWord line p → ¬ BeginsRequest line
not_begun line p w b = w.wrong (begins_front (w.before ++ w.word) w.behind w.rest (subst BeginsRequest (w.whole ∙ sym (append_assoc w.before w.word w.behind)) b))

one_place : (line : List ℕ) (p q : ℕ) → IsBadRequest line p → IsBadRequest line q → p ≡ q
one_place line p q (inl w) (inl v) = by_order (not_later line p q w v) (not_later line q p v w)
  where
    by_order : (p < q → ⊥) → (q < p → ⊥) → p ≡ q
    by_order f g = omega (arith, f, g)
one_place line p q (inl w) (inr v) = absurd (not_begun line p w v.begins)
one_place line p q (inr w) (inl v) = absurd (not_begun line q v w.begins)
one_place line p q (inr w) (inr v) = w.at ∙ sym v.at

no_request : (line : List ℕ) (place : ℕ) (r : Request) → IsBadRequest line place → (line ≡ request_text r) × IsRequest r → ⊥
no_request line place r (inl w) h = not_begun line place w record { request = r; can = h.1; more = []; rest = inl refl; whole = sym h.0 ∙ sym (append-nil line) }
no_request line place r (inr w) h = w.none r h.1 h.0

place_only : (line : List ℕ) (place : ℕ) → IsBadRequest line place → request_read line ≡ Err place
place_only line place h = by (request_read line) refl
  where
    by : (read : Result Request ℕ) → request_read line ≡ read → request_read line ≡ Err place
    by (Ok r) e = absurd (no_request line place r h ((reads line r).0 e))
    by (Err p) e = subst (λ (q : ℕ). request_read line ≡ Err q) (one_place line p place (place_read line p e) h) e

pub bad_places : (line : List ℕ) (place : ℕ) → (request_read line ≡ Err place → IsBadRequest line place) × (IsBadRequest line place → request_read line ≡ Err place)
bad_places line place = (place_read line place, place_only line place)
