-- A printed text reads as what was printed.
use Rattle.std.proofs.Common.{◌≡◌, ◌≢◌, ◌⊎◌, inl, inr, ℕ, ◌+◌, Bool, true, false, cond, nat_eq, List, [], ◌∷◌, ◌++◌, refl, sym, ap, ◌∙◌, append_assoc, arith}
use Rattle.std.specs.Prelude.{Ok, Err, Result, Some, codes, ◌&&◌, ◌||◌}
use Rattle.std.specs.List.{filter, list_all}
use Rattle.std.proofs.Math.Bool.{or-false, and-true, and-false}
use Rattle.std.proofs.lemmas.Bool.{false≢true}
use Rattle.std.proofs.lemmas.Bool.Decides.{nat_tests}
use Rattle.std.proofs.lemmas.List.{append-nil}
use Rattle.std.proofs.lemmas.List.Folds.{list_any-append}
use Rattle.ug_types.specs.Access.{section_word, section_of, privilege_word}
use Rattle.ug_types.specs.declared.access.Section.{Section}
use Rattle.ug_types.specs.declared.access.Section.TheVariants.{Devices, Policy, Exceptions, Parameters}
use Rattle.ug_types.specs.declared.access.Privilege.{Privilege}
use Rattle.ug_types.specs.declared.access.Privilege.TheVariants.{Modify, Listen}
use Rattle.ug_types.specs.declared.access.Privilege.TheVariants as privilege
use Rattle.ug_lines.specs.Lines.{lines_of}
use Rattle.ug_lines.specs.Splitting.{IsLine}
use Rattle.ug_lines.proofs.FirstLine.{lines_from-end, nothing}
use Rattle.ug_lines.proofs.Splitting.{lines_from-run}
use Rattle.ug_acl.specs.declared.draft.Given.{Given}
use Rattle.ug_acl.specs.declared.fault.FaultKind.TheVariants.{Repeated}
use Rattle.ug_acl.specs.declared.privileges.Privileges.{Privileges}
use Rattle.ug_types.specs.TextFaults.{fault_of_kind}
use Rattle.ug_lines.specs.LineReading.{lines_read, on_line, then_on}
use Rattle.ug_acl.specs.Faults.{GrantFault, number_of_kind}
use Rattle.ug_acl.specs.Lines.{comma_parts, parts_read, given_to, has_section, unless_given, line_given}
use Rattle.ug_acl.specs.Pairs.{Pair, all_pairs, same_section, holds_privilege}
use Rattle.ug_acl.specs.Printed.{words_held, held_in, grant_line, grants_text}
use Rattle.ug_acl.specs.Texts.{grants_privilege, pairs_given, granting_line, as_pairs, access_read}
use Rattle.ug_acl.specs.Words.{has_privilege}
use Rattle.ug_acl.proofs.Members.{kept_held}

abbrev all_of : Bool → Bool → Bool → Privileges
all_of m l n = record { modify = m; list = l; listen = n }

-- with a section in which something is held
abbrev with_section : List Given → Section → Bool → Bool → Bool → List Given
with_section given section m l n = cond (m || l || n) (given ++ given_to section (all_of m l n) ∷ []) given

-- no newline stands in a line
no_newline : (line : List ℕ) → list_all (λ b. cond (nat_eq b 10) false true) line ≡ true → IsLine line
no_newline [] h = tt
no_newline (b ∷ line) h = by (nat_eq b 10) refl h (λ k. no_newline line k)
  where
    by : (v : Bool) → nat_eq b 10 ≡ v → cond v false true && list_all (λ c. cond (nat_eq c 10) false true) line ≡ true → (list_all (λ c. cond (nat_eq c 10) false true) line ≡ true → IsLine line) → IsLine (b ∷ line)
    by true e k f = absurd (false≢true k)
    by false e k f = (λ n. (let none : ⊥ = grind (arith, nat_tests) in none), f k)

-- the line of a section is read as what it gives, or there is none
abbrev Step : List Given → Section → List ℕ → List Given → Type 0
Step given section words after =
    ((words ≡ []) × (after ≡ given))
    ⊎ ((words ≢ []) × IsLine (section_word section ++ 61 ∷ words) × (line_given given (section_word section ++ 61 ∷ words) ≡ Ok after))

abbrev on_section : List Given → List ℕ → ℕ → Result Section GrantFault → Result (List Given) GrantFault
on_section given value place read = then_on read (λ section. then_on (parts_read section place (comma_parts value)) (λ privileges. Ok (given ++ given_to section privileges ∷ [])))

fresh : (given : List Given) (section : Section) → has_section given section ≡ false → unless_given given (Some section) ≡ Ok section
fresh given section h = ap (λ (v : Bool). cond v (Err (fault_of_kind Repeated 0)) (Ok section)) h

some_byte : (b : ℕ) (words : List ℕ) → (b ∷ words) ≢ []
some_byte b words = λ e. (let none : ⊥ = cc in none)

devices_step : (given : List Given) (m l n : Bool) → has_section given Devices ≡ false → Step given Devices (words_held m l n) (with_section given Devices m l n)
unfolding section_word section_of privilege_word parts_read
devices_step given false false false h = inl (refl, refl)
devices_step given false false true h = inr (some_byte _ _, no_newline (section_word Devices ++ 61 ∷ words_held false false true) refl, ap (on_section given (codes "listen") 8) (fresh given Devices h))
devices_step given false true false h = inr (some_byte _ _, no_newline (section_word Devices ++ 61 ∷ words_held false true false) refl, ap (on_section given (codes "list") 8) (fresh given Devices h))
devices_step given false true true h = inr (some_byte _ _, no_newline (section_word Devices ++ 61 ∷ words_held false true true) refl, ap (on_section given (codes "list,listen") 8) (fresh given Devices h))
devices_step given true false false h = inr (some_byte _ _, no_newline (section_word Devices ++ 61 ∷ words_held true false false) refl, ap (on_section given (codes "modify") 8) (fresh given Devices h))
devices_step given true false true h = inr (some_byte _ _, no_newline (section_word Devices ++ 61 ∷ words_held true false true) refl, ap (on_section given (codes "modify,listen") 8) (fresh given Devices h))
devices_step given true true false h = inr (some_byte _ _, no_newline (section_word Devices ++ 61 ∷ words_held true true false) refl, ap (on_section given (codes "modify,list") 8) (fresh given Devices h))
devices_step given true true true h = inr (some_byte _ _, no_newline (section_word Devices ++ 61 ∷ words_held true true true) refl, ap (on_section given (codes "modify,list,listen") 8) (fresh given Devices h))

policy_step : (given : List Given) (m l : Bool) → has_section given Policy ≡ false → Step given Policy (words_held m l false) (with_section given Policy m l false)
unfolding section_word section_of privilege_word parts_read
policy_step given false false h = inl (refl, refl)
policy_step given false true h = inr (some_byte _ _, no_newline (section_word Policy ++ 61 ∷ words_held false true false) refl, ap (on_section given (codes "list") 7) (fresh given Policy h))
policy_step given true false h = inr (some_byte _ _, no_newline (section_word Policy ++ 61 ∷ words_held true false false) refl, ap (on_section given (codes "modify") 7) (fresh given Policy h))
policy_step given true true h = inr (some_byte _ _, no_newline (section_word Policy ++ 61 ∷ words_held true true false) refl, ap (on_section given (codes "modify,list") 7) (fresh given Policy h))

exceptions_step : (given : List Given) (n : Bool) → has_section given Exceptions ≡ false → Step given Exceptions (words_held false false n) (with_section given Exceptions false false n)
unfolding section_word section_of privilege_word parts_read
exceptions_step given false h = inl (refl, refl)
exceptions_step given true h = inr (some_byte _ _, no_newline (section_word Exceptions ++ 61 ∷ words_held false false true) refl, ap (on_section given (codes "listen") 11) (fresh given Exceptions h))

parameters_step : (given : List Given) (m l n : Bool) → has_section given Parameters ≡ false → Step given Parameters (words_held m l n) (with_section given Parameters m l n)
unfolding section_word section_of privilege_word parts_read
parameters_step given false false false h = inl (refl, refl)
parameters_step given false false true h = inr (some_byte _ _, no_newline (section_word Parameters ++ 61 ∷ words_held false false true) refl, ap (on_section given (codes "listen") 11) (fresh given Parameters h))
parameters_step given false true false h = inr (some_byte _ _, no_newline (section_word Parameters ++ 61 ∷ words_held false true false) refl, ap (on_section given (codes "list") 11) (fresh given Parameters h))
parameters_step given false true true h = inr (some_byte _ _, no_newline (section_word Parameters ++ 61 ∷ words_held false true true) refl, ap (on_section given (codes "list,listen") 11) (fresh given Parameters h))
parameters_step given true false false h = inr (some_byte _ _, no_newline (section_word Parameters ++ 61 ∷ words_held true false false) refl, ap (on_section given (codes "modify") 11) (fresh given Parameters h))
parameters_step given true false true h = inr (some_byte _ _, no_newline (section_word Parameters ++ 61 ∷ words_held true false true) refl, ap (on_section given (codes "modify,listen") 11) (fresh given Parameters h))
parameters_step given true true false h = inr (some_byte _ _, no_newline (section_word Parameters ++ 61 ∷ words_held true true false) refl, ap (on_section given (codes "modify,list") 11) (fresh given Parameters h))
parameters_step given true true true h = inr (some_byte _ _, no_newline (section_word Parameters ++ 61 ∷ words_held true true true) refl, ap (on_section given (codes "modify,list,listen") 11) (fresh given Parameters h))

-- the first line of a text
first_line : (section : Section) (b : ℕ) (words rest : List ℕ) → IsLine (section_word section ++ 61 ∷ b ∷ words)
    → lines_of (grant_line section (b ∷ words) ++ rest) ≡ (section_word section ++ 61 ∷ b ∷ words) ∷ lines_of rest
first_line section b words rest h =
    let line : List ℕ = section_word section ++ 61 ∷ b ∷ words in
    let whole : grant_line section (b ∷ words) ++ rest ≡ line ++ 10 ∷ rest =
    append_assoc (section_word section) (61 ∷ b ∷ (words ++ 10 ∷ [])) rest
    ∙ ap (λ (l : List ℕ). section_word section ++ 61 ∷ b ∷ l) (append_assoc words (10 ∷ []) rest)
    ∙ sym (append_assoc (section_word section) (61 ∷ b ∷ words) (10 ∷ rest)) in
    ap lines_of whole ∙ lines_from-run [] line (10 ∷ rest) h ∙ lines_from-end line 10 rest refl

-- the text of a section is read, and the rest goes on from there
section_read : (number : ℕ) (given after : List Given) (section : Section) (words rest : List ℕ) → Step given section words after
    → (next : ℕ) × (lines_read granting_line number given (lines_of (grant_line section words ++ rest)) ≡ lines_read granting_line next after (lines_of rest))
unfolding lines_read
section_read number given after section [] rest (inl h) = (number, ap (λ (g : List Given). lines_read granting_line number g (lines_of rest)) (sym h.1))
section_read number given after section (b ∷ words) rest (inl h) = absurd (some_byte b words h.0)
section_read number given after section [] rest (inr h) = absurd (h.0 refl)
section_read number given after section (b ∷ words) rest (inr h) = (
  number + 1,
  ap (lines_read granting_line number given) (first_line section b words rest h.1)
      ∙ ap (λ (r : Result (List Given) GrantFault). then_on (on_line number_of_kind number r) (λ more. lines_read granting_line (number + 1) more (lines_of rest))) h.2,
)

-- another section is still fresh
still_fresh : (given : List Given) (section other : Section) (m l n : Bool) → has_section given section ≡ false → same_section other section ≡ false → has_section (with_section given other m l n) section ≡ false
still_fresh given section other m l n h o = by (m || l || n)
  where
    by : (v : Bool) → has_section (cond v (given ++ given_to other (all_of m l n) ∷ []) given) section ≡ false
    by true = list_any-append (λ (g : Given). same_section g.section section) given (given_to other (all_of m l n) ∷ []) ∙ rw h (rw o refl)
    by false = h

-- what is given with one section more
nothing_held : (p : Privilege) (v : Bool) → (v && has_privilege (all_of false false false) p) ≡ false
nothing_held Modify v = and-false v
nothing_held privilege.List v = and-false v
nothing_held Listen v = and-false v

given_more : (given : List Given) (other : Section) (m l n : Bool) (section : Section) (p : Privilege)
    → grants_privilege (with_section given other m l n) section p ≡ (grants_privilege given section p || (same_section other section && has_privilege (all_of m l n) p))
given_more given other m l n section p = by m l n
  where
    more : (held : Privileges) → grants_privilege (given ++ given_to other held ∷ []) section p ≡ (grants_privilege given section p || (same_section other section && has_privilege held p))
    more held =
        list_any-append (λ (g : Given). same_section g.section section && has_privilege g.privileges p) given (given_to other held ∷ [])
        ∙ ap (λ (v : Bool). grants_privilege given section p || v) (or-false (same_section other section && has_privilege held p))

    by : (m l n : Bool) → grants_privilege (with_section given other m l n) section p ≡ (grants_privilege given section p || (same_section other section && has_privilege (all_of m l n) p))
    by false false false = sym (ap (λ (v : Bool). grants_privilege given section p || v) (nothing_held p (same_section other section)) ∙ or-false (grants_privilege given section p))
    by false false true = more (all_of false false true)
    by false true l = more (all_of false true l)
    by true l n = more (all_of true l n)

abbrev all_given : (dm dl dn pm pl xn rm rl rn : Bool) → List Given
all_given dm dl dn pm pl xn rm rl rn =
    with_section (with_section (with_section (with_section [] Devices dm dl dn) Policy pm pl false) Exceptions false false xn) Parameters rm rl rn

given_in : (dm dl dn pm pl xn rm rl rn : Bool) (section : Section) (p : Privilege) → grants_privilege (all_given dm dl dn pm pl xn rm rl rn) section p
    ≡ ((((false || (same_section Devices section && has_privilege (all_of dm dl dn) p)) || (same_section Policy section && has_privilege (all_of pm pl false) p))
    || (same_section Exceptions section && has_privilege (all_of false false xn) p)) || (same_section Parameters section && has_privilege (all_of rm rl rn) p))
given_in dm dl dn pm pl xn rm rl rn section p =
    let one : List Given = with_section [] Devices dm dl dn in
    let two : List Given = with_section one Policy pm pl false in
    let three : List Given = with_section two Exceptions false false xn in
    let last : Bool = same_section Parameters section && has_privilege (all_of rm rl rn) p in
    let third : Bool = same_section Exceptions section && has_privilege (all_of false false xn) p in
    let second : Bool = same_section Policy section && has_privilege (all_of pm pl false) p in
    given_more three Parameters rm rl rn section p
    ∙ ap (λ (v : Bool). v || last) (given_more two Exceptions false false xn section p)
    ∙ ap (λ (v : Bool). (v || third) || last) (given_more one Policy pm pl false section p)
    ∙ ap (λ (v : Bool). ((v || second) || third) || last) (given_more [] Devices dm dl dn section p)

three_or : (v : Bool) → (((v || false) || false) || false) ≡ v
three_or true = refl
three_or false = refl

two_or : (v : Bool) → ((v || false) || false) ≡ v
two_or true = refl
two_or false = refl

-- tests that agree on each element
abbrev Agree : (Pair → Bool) → (Pair → Bool) → List Pair → Type 0
Agree p q [] = Unit {0}
Agree p q (x ∷ xs) = (p x ≡ q x) × Agree p q xs

filter_agree : (p q : Pair → Bool) (xs : List Pair) → Agree p q xs → filter p xs ≡ filter q xs
filter_agree p q [] h = refl
filter_agree p q (x ∷ xs) h = ap (λ (v : Bool). cond v (x ∷ filter p xs) (filter p xs)) h.0 ∙ ap (λ (l : List Pair). cond (q x) (x ∷ l) l) (filter_agree p q xs h.1)

pairs_again : (kept : Pair → Bool) (dm dl dn pm pl xn rm rl rn : Bool)
    → dm ≡ kept (Devices, Modify) → dl ≡ kept (Devices, privilege.List) → dn ≡ kept (Devices, Listen) → pm ≡ kept (Policy, Modify) → pl ≡ kept (Policy, privilege.List)
    → xn ≡ kept (Exceptions, Listen) → rm ≡ kept (Parameters, Modify) → rl ≡ kept (Parameters, privilege.List) → rn ≡ kept (Parameters, Listen)
    → pairs_given (all_given dm dl dn pm pl xn rm rl rn) ≡ filter kept all_pairs
pairs_again kept dm dl dn pm pl xn rm rl rn a b c d e f g h i =
    let given : (section : Section) (p : Privilege) → _ = given_in dm dl dn pm pl xn rm rl rn in
    filter_agree (λ pair. grants_privilege (all_given dm dl dn pm pl xn rm rl rn) pair.0 pair.1) kept all_pairs (
      given Devices Modify ∙ three_or dm ∙ a,
      (
        given Devices privilege.List ∙ three_or dl ∙ b,
        (
          given Devices Listen ∙ three_or dn ∙ c,
          (
            given Policy Modify ∙ two_or pm ∙ d,
            (
              given Policy privilege.List ∙ two_or pl ∙ e,
              (
                given Exceptions Listen ∙ or-false xn ∙ f,
                (
                  given Parameters Modify ∙ g,
                  (
                    given Parameters privilege.List ∙ h,
                    (given Parameters Listen ∙ i, tt),
                  ),
                ),
              ),
            ),
          ),
        ),
      ),
    )

abbrev text_of : (dm dl dn pm pl xn rm rl rn : Bool) → List ℕ
text_of dm dl dn pm pl xn rm rl rn =
    grant_line Devices (words_held dm dl dn) ++ (grant_line Policy (words_held pm pl false)
    ++ (grant_line Exceptions (words_held false false xn) ++ grant_line Parameters (words_held rm rl rn)))

all_read : (dm dl dn pm pl xn rm rl rn : Bool) → (next : ℕ) × (lines_read granting_line 1 [] (lines_of (text_of dm dl dn pm pl xn rm rl rn)) ≡ lines_read granting_line next (all_given dm dl dn pm pl xn rm rl rn) (lines_of []))
all_read dm dl dn pm pl xn rm rl rn =
    let one : List Given = with_section [] Devices dm dl dn in
    let two : List Given = with_section one Policy pm pl false in
    let three : List Given = with_section two Exceptions false false xn in
    let four : List Given = with_section three Parameters rm rl rn in
    let last : List ℕ = grant_line Parameters (words_held rm rl rn) in
    let third : List ℕ = grant_line Exceptions (words_held false false xn) ++ last in
    let second : List ℕ = grant_line Policy (words_held pm pl false) ++ third in
    let fresh-1 : (s : Section) → same_section Devices s ≡ false → has_section one s ≡ false = λ s o. still_fresh [] s Devices dm dl dn refl o in
    let fresh-2 : (s : Section) → same_section Devices s ≡ false → same_section Policy s ≡ false → has_section two s ≡ false = λ s o k. still_fresh one s Policy pm pl false (fresh-1 s o) k in
    let fresh-3 : has_section three Parameters ≡ false = still_fresh two Parameters Exceptions false false xn (fresh-2 Parameters refl refl) refl in
    let a = section_read 1 [] one Devices (words_held dm dl dn) second (devices_step [] dm dl dn refl) in
    let b = section_read a.0 one two Policy (words_held pm pl false) third (policy_step one pm pl (fresh-1 Policy refl)) in
    let c = section_read b.0 two three Exceptions (words_held false false xn) last (exceptions_step two xn (fresh-2 Exceptions refl refl)) in
    let d = section_read c.0 three four Parameters (words_held rm rl rn) [] (parameters_step three rm rl rn fresh-3) in
    (d.0, a.1 ∙ b.1 ∙ c.1 ∙ ap (λ (l : List ℕ). lines_read granting_line c.0 three (lines_of l)) (sym (append-nil last)) ∙ d.1)

text_read : (dm dl dn pm pl xn rm rl rn : Bool) → access_read (text_of dm dl dn pm pl xn rm rl rn) ≡ Ok (pairs_given (all_given dm dl dn pm pl xn rm rl rn))
unfolding lines_read
text_read dm dl dn pm pl xn rm rl rn =
    let r = all_read dm dl dn pm pl xn rm rl rn in
    ap as_pairs (r.1 ∙ ap (lines_read granting_line r.0 (all_given dm dl dn pm pl xn rm rl rn)) (nothing [] refl))

pub reads_back : (kept : Pair → Bool) → access_read (grants_text (filter kept all_pairs)) ≡ Ok (filter kept all_pairs)
unfolding grants_text
reads_back kept =
    let pairs : List Pair = filter kept all_pairs in
    let held : (section : Section) (p : Privilege) → holds_privilege pairs section p ≡ (kept (section, p) && holds_privilege all_pairs section p) = kept_held kept in
    let no_listen : holds_privilege pairs Policy Listen ≡ false = held Policy Listen ∙ and-false (kept (Policy, Listen)) in
    let no_modify : holds_privilege pairs Exceptions Modify ≡ false = held Exceptions Modify ∙ and-false (kept (Exceptions, Modify)) in
    let no_list : holds_privilege pairs Exceptions privilege.List ≡ false = held Exceptions privilege.List ∙ and-false (kept (Exceptions, privilege.List)) in
    let dm : Bool = holds_privilege pairs Devices Modify in
    let dl : Bool = holds_privilege pairs Devices privilege.List in
    let dn : Bool = holds_privilege pairs Devices Listen in
    let pm : Bool = holds_privilege pairs Policy Modify in
    let pl : Bool = holds_privilege pairs Policy privilege.List in
    let xn : Bool = holds_privilege pairs Exceptions Listen in
    let rm : Bool = holds_privilege pairs Parameters Modify in
    let rl : Bool = holds_privilege pairs Parameters privilege.List in
    let rn : Bool = holds_privilege pairs Parameters Listen in
    let is : grants_text pairs ≡ text_of dm dl dn pm pl xn rm rl rn =
    ap (λ (v : Bool). grant_line Devices (words_held dm dl dn) ++ (grant_line Policy (words_held pm pl v) ++ (grant_line Exceptions (held_in pairs Exceptions) ++ grant_line Parameters (words_held rm rl rn)))) no_listen
    ∙ ap (λ (v : Bool). grant_line Devices (words_held dm dl dn) ++ (grant_line Policy (words_held pm pl false) ++ (grant_line Exceptions (words_held v (holds_privilege pairs Exceptions privilege.List) xn) ++ grant_line Parameters (words_held rm rl rn)))) no_modify
    ∙ ap (λ (v : Bool). grant_line Devices (words_held dm dl dn) ++ (grant_line Policy (words_held pm pl false) ++ (grant_line Exceptions (words_held false v xn) ++ grant_line Parameters (words_held rm rl rn)))) no_list in
    ap access_read is ∙ text_read dm dl dn pm pl xn rm rl rn
    ∙ ap Ok (pairs_again kept dm dl dn pm pl xn rm rl rn
    (held Devices Modify ∙ and-true _) (held Devices privilege.List ∙ and-true _) (held Devices Listen ∙ and-true _)
    (held Policy Modify ∙ and-true _) (held Policy privilege.List ∙ and-true _) (held Exceptions Listen ∙ and-true _)
    (held Parameters Modify ∙ and-true _) (held Parameters privilege.List ∙ and-true _) (held Parameters Listen ∙ and-true _))
