-- The words of a refusal are those of no other.
use Rattle.std.proofs.Common.{◌≡◌, ℕ, ◌<◌, ◌^◌, true, false, nat_eq, List, [], ◌∷◌, ◌++◌, get_or, Option, Some, refl, sym, ap, ◌∙◌, arith}
use Rattle.std.specs.Prelude.{codes, decimal, if◌then◌else◌}
use Rattle.std.specs.Cmp.Lexicographic.{pointwise}
use Rattle.std.specs.Str.Parse.{digits_value}
use Rattle.std.proofs.lemmas.Fmt.{digits_value-decimal}
use Rattle.std.proofs.lemmas.Str.Parse.{numerals_by_value, tells_digits}
use Rattle.ug_types.specs.Access.{section_word, privilege_word, section_of, privilege_of}
use Rattle.ug_types.specs.Refusals.{refusal_words, IsRefusal}
use Rattle.ug_types.specs.declared.access.Section.{Section}
use Rattle.ug_types.specs.declared.access.Section.TheVariants.{Devices, Policy, Exceptions, Parameters}
use Rattle.ug_types.specs.declared.access.Privilege.{Privilege}
use Rattle.ug_types.specs.declared.access.Privilege.TheVariants as privilege
use Rattle.ug_types.specs.declared.refusal.Refusal.{Refusal}
use Rattle.ug_types.specs.declared.refusal.Refusal.TheVariants as refusal
use Rattle.ug_types.proofs.SpacedWords.{is_line, split_words, split_one, split_then, number_graphic, graphic_line, both_lines}

-- the number that a word is
pub number_back : (n : ℕ) → n < 2 ^ 64 → digits_value 10 (decimal n) ≡ n
number_back n h = digits_value-decimal (numerals_by_value _ tells_digits) n h

abbrev denial_read : Option Section → Option Privilege → Refusal
denial_read (Some section) (Some p) = refusal.Denied section p
denial_read section p = refusal.BadValue

abbrev one_read : List ℕ → List ℕ → Refusal
one_read name word =
    if pointwise nat_eq name (codes "bad-request") then refusal.BadRequest (digits_value 10 word) else
    if pointwise nat_eq name (codes "no-device") then refusal.NoDevice (digits_value 10 word) else
    if pointwise nat_eq name (codes "no-rule") then refusal.NoRule (digits_value 10 word) else
    if pointwise nat_eq name (codes "malformed-device") then refusal.MalformedDevice (digits_value 10 word) else
    if pointwise nat_eq name (codes "store-fault") then refusal.StoreFault (digits_value 10 word) else
    if pointwise nat_eq name (codes "memory") then refusal.Memory (pointwise nat_eq word (codes "1")) else
    if pointwise nat_eq name (codes "folder-rule") then refusal.FolderRule (digits_value 10 word) else
    refusal.ProbeFault (digits_value 10 word)

abbrev two_read : List ℕ → List ℕ → List ℕ → Refusal
two_read name a b =
    if pointwise nat_eq name (codes "denied") then denial_read (section_of a) (privilege_of b) else
    if pointwise nat_eq name (codes "bad-rule") then refusal.BadRule (digits_value 10 a) (digits_value 10 b) else
    refusal.DeviceFault (digits_value 10 a) (digits_value 10 b)

abbrev none_read : List ℕ → Refusal
none_read name =
    if pointwise nat_eq name (codes "bad-parameter") then refusal.BadParameter else
    if pointwise nat_eq name (codes "bad-value") then refusal.BadValue else refusal.RulesFull

-- a refusal by the words behind its number
abbrev named_read : List (List ℕ) → Refusal
named_read [] = refusal.BadValue
named_read (name ∷ []) = none_read name
named_read (name ∷ a ∷ []) = one_read name a
named_read (name ∷ a ∷ b ∷ more) = two_read name a b

abbrev pub refusal_read : List (List ℕ) → Refusal
refusal_read [] = refusal.BadValue
refusal_read (first ∷ []) = refusal.BadValue
refusal_read (first ∷ number ∷ words) = named_read words

one_back : (name : List ℕ) (what : ℕ → Refusal) (n : ℕ) → n < 2 ^ 64 → ((word : List ℕ) → one_read name word ≡ what (digits_value 10 word)) → named_read (name ∷ split_words (decimal n)) ≡ what n
one_back name what n h f = ap (λ (ws : List (List ℕ)). named_read (name ∷ ws)) (split_one (decimal n) (number_graphic n h)) ∙ f (decimal n) ∙ ap what (number_back n h)

two_back : (name : List ℕ) (what : ℕ → ℕ → Refusal) (m n : ℕ) → m < 2 ^ 64 → n < 2 ^ 64 → ((a b : List ℕ) → two_read name a b ≡ what (digits_value 10 a) (digits_value 10 b)) → named_read (name ∷ split_words (decimal m ++ 32 ∷ decimal n)) ≡ what m n
two_back name what m n h k f =
    ap (λ (ws : List (List ℕ)). named_read (name ∷ ws)) (split_then (decimal m) (decimal n) (number_graphic m h))
    ∙ ap (λ (ws : List (List ℕ)). named_read (name ∷ decimal m ∷ ws)) (split_one (decimal n) (number_graphic n k))
    ∙ f (decimal m) (decimal n)
    ∙ ap (λ (v : ℕ). what v (digits_value 10 (decimal n))) (number_back m h)
    ∙ ap (what m) (number_back n k)

denial_back : (section : Section) (p : Privilege) → named_read (codes "denied" ∷ split_words (section_word section ++ 32 ∷ privilege_word p)) ≡ refusal.Denied section p
unfolding section_word privilege_word section_of privilege_of
denial_back Devices privilege.Modify = refl
denial_back Devices privilege.List = refl
denial_back Devices privilege.Listen = refl
denial_back Policy privilege.Modify = refl
denial_back Policy privilege.List = refl
denial_back Policy privilege.Listen = refl
denial_back Exceptions privilege.Modify = refl
denial_back Exceptions privilege.List = refl
denial_back Exceptions privilege.Listen = refl
denial_back Parameters privilege.Modify = refl
denial_back Parameters privilege.List = refl
denial_back Parameters privilege.Listen = refl

pub small_kind : (n : ℕ) → n < 256 → n < 2 ^ 64
small_kind n h = omega (arith, h)

-- what the words are read as
pub refusal_back : (r : Refusal) → IsRefusal r → refusal_read (split_words (refusal_words r)) ≡ r
unfolding refusal_words
refusal_back (refusal.BadRequest place) h = one_back (codes "bad-request") refusal.BadRequest place h (λ w. refl)
refusal_back (refusal.Denied section p) h = denial_back section p
refusal_back (refusal.BadRule kind place) h = two_back (codes "bad-rule") refusal.BadRule kind place (small_kind kind h.0) h.1 (λ a b. refl)
refusal_back (refusal.NoDevice number) h = one_back (codes "no-device") refusal.NoDevice number h (λ w. refl)
refusal_back (refusal.NoRule id) h = one_back (codes "no-rule") refusal.NoRule id h (λ w. refl)
refusal_back refusal.BadParameter h = refl
refusal_back refusal.BadValue h = refl
refusal_back (refusal.MalformedDevice number) h = one_back (codes "malformed-device") refusal.MalformedDevice number h (λ w. refl)
refusal_back refusal.RulesFull h = refl
refusal_back (refusal.StoreFault count) h = one_back (codes "store-fault") refusal.StoreFault count h (λ w. refl)
refusal_back (refusal.DeviceFault call count) h = two_back (codes "device-fault") refusal.DeviceFault call count h.0 h.1 (λ a b. refl)
refusal_back (refusal.Memory false) h = refl
refusal_back (refusal.Memory true) h = refl
refusal_back (refusal.ProbeFault count) h = one_back (codes "probe-fault") refusal.ProbeFault count h (λ w. refl)
refusal_back (refusal.FolderRule id) h = one_back (codes "folder-rule") refusal.FolderRule id h (λ w. refl)

-- the first of them
pub refusal_first : (r : Refusal) → get_or (split_words (refusal_words r)) 0 [] ≡ codes "refused"
unfolding refusal_words
refusal_first (refusal.BadRequest place) = refl
refusal_first (refusal.Denied section p) = refl
refusal_first (refusal.BadRule kind place) = refl
refusal_first (refusal.NoDevice number) = refl
refusal_first (refusal.NoRule id) = refl
refusal_first refusal.BadParameter = refl
refusal_first refusal.BadValue = refl
refusal_first (refusal.MalformedDevice number) = refl
refusal_first refusal.RulesFull = refl
refusal_first (refusal.StoreFault count) = refl
refusal_first (refusal.DeviceFault call count) = refl
refusal_first (refusal.Memory false) = refl
refusal_first (refusal.Memory true) = refl
refusal_first (refusal.ProbeFault count) = refl
refusal_first (refusal.FolderRule id) = refl

pub one_refusal : (a b : Refusal) → IsRefusal a → IsRefusal b → refusal_words a ≡ refusal_words b → a ≡ b
one_refusal a b h k e = sym (refusal_back a h) ∙ ap (λ (text : List ℕ). refusal_read (split_words text)) e ∙ refusal_back b k

number_line : (n : ℕ) → n < 2 ^ 64 → is_line (decimal n) ≡ true
number_line n h = graphic_line (decimal n) (number_graphic n h)

access_line : (section : Section) (p : Privilege) → is_line (section_word section ++ 32 ∷ privilege_word p) ≡ true
unfolding section_word privilege_word
access_line Devices privilege.Modify = refl
access_line Devices privilege.List = refl
access_line Devices privilege.Listen = refl
access_line Policy privilege.Modify = refl
access_line Policy privilege.List = refl
access_line Policy privilege.Listen = refl
access_line Exceptions privilege.Modify = refl
access_line Exceptions privilege.List = refl
access_line Exceptions privilege.Listen = refl
access_line Parameters privilege.Modify = refl
access_line Parameters privilege.List = refl
access_line Parameters privilege.Listen = refl

-- no control is among the words
pub refusal_on_line : (r : Refusal) → IsRefusal r → is_line (refusal_words r) ≡ true
unfolding refusal_words
refusal_on_line (refusal.BadRequest place) h = number_line place h
refusal_on_line (refusal.Denied section p) h = access_line section p
refusal_on_line (refusal.BadRule kind place) h = both_lines (decimal kind) (32 ∷ decimal place) (number_line kind (small_kind kind h.0)) (number_line place h.1)
refusal_on_line (refusal.NoDevice number) h = number_line number h
refusal_on_line (refusal.NoRule id) h = number_line id h
refusal_on_line refusal.BadParameter h = refl
refusal_on_line refusal.BadValue h = refl
refusal_on_line (refusal.MalformedDevice number) h = number_line number h
refusal_on_line refusal.RulesFull h = refl
refusal_on_line (refusal.StoreFault count) h = number_line count h
refusal_on_line (refusal.DeviceFault call count) h = both_lines (decimal call) (32 ∷ decimal count) (number_line call h.0) (number_line count h.1)
refusal_on_line (refusal.Memory false) h = refl
refusal_on_line (refusal.Memory true) h = refl
refusal_on_line (refusal.ProbeFault count) h = number_line count h
refusal_on_line (refusal.FolderRule id) h = number_line id h
