-- What parts give, up to the first that is no privilege.
use Rattle.std.proofs.Common.{◌≡◌, ℕ, ◌+◌, ◌⊎◌, inl, inr, Bool, true, false, cond, List, [], ◌∷◌, ◌++◌, length, Result, Ok, Err, refl, sym, ap, ◌∙◌, arith, length-append}
use Rattle.std.specs.Prelude.{IsTrue, ◌||◌}
use Rattle.std.proofs.lemmas.Bool.{false≢true}
use Rattle.ug_types.specs.declared.access.Section.{Section}
use Rattle.ug_types.specs.declared.access.Privilege.{Privilege}
use Rattle.ug_types.specs.declared.access.Privilege.TheVariants.{Modify, Listen}
use Rattle.ug_types.specs.declared.access.Privilege.TheVariants as privilege
use Rattle.ug_lines.specs.Blanks.{without_front}
use Rattle.ug_lines.specs.Equations.{AreBlanks, BeginsBare, IsTextOf}
use Rattle.ug_lines.proofs.Trimming as trimming
use Rattle.ug_acl.specs.declared.fault.FaultKind.TheVariants.{BadPrivilege}
use Rattle.ug_acl.specs.declared.privileges.Privileges.{Privileges}
use Rattle.ug_types.specs.TextFaults.{fault_of_kind}
use Rattle.ug_lines.specs.LineReading.{then_on}
use Rattle.ug_acl.specs.Faults.{GrantFault}
use Rattle.ug_acl.specs.Grammar.{ArePrivileges, width_of}
use Rattle.ug_acl.specs.Lines.{trimmed, part_read, parts_read, begins_at}
use Rattle.ug_acl.specs.Words.{gives, given_by_word, given_by_words, union, is_any, IsPrivilegeOf}

abbrev Reading : Type 0
Reading = Result Privileges GrantFault

-- a word gives something exactly where it is a privilege of the section
any_of : (a b c : Bool) → (a || b || c ≡ true) → (a ≡ true) ⊎ ((b ≡ true) ⊎ (c ≡ true))
any_of true b c h = inl refl
any_of false true c h = inr (inl refl)
any_of false false c h = inr (inr h)

first_of_any : (a b c : Bool) → a ≡ true → a || b || c ≡ true
first_of_any a b c h = rw h refl

second_of_any : (a b c : Bool) → b ≡ true → a || b || c ≡ true
second_of_any true b c h = refl
second_of_any false b c h = rw h refl

third_of_any : (a b c : Bool) → c ≡ true → a || b || c ≡ true
third_of_any true b c h = refl
third_of_any false true c h = refl
third_of_any false false c h = h

is_privilege : (section : Section) (word : List ℕ) → is_any (given_by_word section word) ≡ true → IsPrivilegeOf section word
is_privilege section word h = elim (any_of (gives section Modify word) (gives section privilege.List word) (gives section Listen word) h) [
  | inl a ↦ (Modify, a)
  | inr b ↦ elim b [ inl c ↦ (privilege.List, c) | inr c ↦ (Listen, c) ]
]

pub gives_any : (section : Section) (word : List ℕ) → IsPrivilegeOf section word → is_any (given_by_word section word) ≡ true
gives_any section word h = by h.0 h.1
  where
    by : (p : Privilege) → IsTrue (gives section p word) → is_any (given_by_word section word) ≡ true
    by Modify e = first_of_any (gives section Modify word) (gives section privilege.List word) (gives section Listen word) e
    by privilege.List e = second_of_any (gives section Modify word) (gives section privilege.List word) (gives section Listen word) e
    by Listen e = third_of_any (gives section Modify word) (gives section privilege.List word) (gives section Listen word) e

pub gives_none : (section : Section) (word : List ℕ) → ¬ IsPrivilegeOf section word → is_any (given_by_word section word) ≡ false
gives_none section word h = by (is_any (given_by_word section word)) refl
  where
    by : (v : Bool) → is_any (given_by_word section word) ≡ v → is_any (given_by_word section word) ≡ false
    by true e = absurd (h (is_privilege section word e))
    by false e = e

abbrev decided : Section → ℕ → List ℕ → Bool → Reading
decided section place part v = cond v (Ok (given_by_word section (trimmed part))) (Err (fault_of_kind BadPrivilege (begins_at place part)))

good_part : (section : Section) (place : ℕ) (part word : List ℕ) → trimmed part ≡ word → IsPrivilegeOf section word → part_read section place part ≡ Ok (given_by_word section word)
good_part section place part word t h =
    ap (decided section place part) (ap (λ (w : List ℕ). is_any (given_by_word section w)) t ∙ gives_any section word h)
    ∙ ap (λ (w : List ℕ). Ok (given_by_word section w)) t

bad_part : (section : Section) (place : ℕ) (part word : List ℕ) → trimmed part ≡ word → ¬ IsPrivilegeOf section word → part_read section place part ≡ Err (fault_of_kind BadPrivilege (begins_at place part))
bad_part section place part word t h = ap (decided section place part) (ap (λ (w : List ℕ). is_any (given_by_word section w)) t ∙ gives_none section word h)

more_parts : (section : Section) (place : ℕ) (part word : List ℕ) (parts : List (List ℕ)) → trimmed part ≡ word → IsPrivilegeOf section word
    → parts_read section place (part ∷ parts) ≡ then_on (parts_read section (place + length part + 1) parts) (λ more. Ok (union (given_by_word section word) more))
unfolding parts_read
more_parts section place part word parts t h =
    ap (λ (r : Reading). then_on r (λ first. then_on (parts_read section (place + length part + 1) parts) (λ more. Ok (union first more)))) (good_part section place part word t h)

pub good_parts : (section : Section) (place : ℕ) (parts words : List (List ℕ)) → ArePrivileges section parts words → parts_read section place parts ≡ Ok (given_by_words section words)
unfolding parts_read
good_parts section place [] words h = ap (λ (ws : List (List ℕ)). Ok (given_by_words section ws)) (sym h)
good_parts section place (part ∷ parts) words h =
    more_parts section place part h.0 parts (trimming.text_read part h.0 h.3) h.4
    ∙ ap (λ (r : Reading). then_on r (λ more. Ok (union (given_by_word section h.0) more))) (good_parts section (place + length part + 1) parts h.1 h.5)
    ∙ ap (λ (ws : List (List ℕ)). Ok (given_by_words section ws)) (sym h.2)

-- where a part begins
begins : (place : ℕ) (part blanks rest : List ℕ) → part ≡ blanks ++ rest → AreBlanks blanks → BeginsBare rest → begins_at place part ≡ place + length blanks
begins place part blanks rest e b s =
    let bare : without_front part ≡ rest = ap without_front e ∙ trimming.front-blanks blanks rest b ∙ trimming.front-bare rest s in
    omega (arith, ap length bare, ap length e, length-append blanks rest)

pub bad_parts : (section : Section) (place : ℕ) (good words : List (List ℕ)) (bad : List ℕ) (behind : List (List ℕ)) (word blanks rest : List ℕ)
    → ArePrivileges section good words → IsTextOf bad word → ¬ IsPrivilegeOf section word → bad ≡ blanks ++ rest → AreBlanks blanks → BeginsBare rest
    → parts_read section place (good ++ bad ∷ behind) ≡ Err (fault_of_kind BadPrivilege (place + (width_of good + length blanks)))
unfolding parts_read
bad_parts section place [] words bad behind word blanks rest g t n e b s =
    let at : begins_at place bad ≡ place + (0 + length blanks) = omega (arith, begins place bad blanks rest e b s) in
    ap (λ (r : Reading). then_on r (λ first. then_on (parts_read section (place + length bad + 1) behind) (λ more. Ok (union first more)))) (bad_part section place bad word (trimming.text_read bad word t) n)
    ∙ ap (λ (p : ℕ). Err (fault_of_kind BadPrivilege p)) at
bad_parts section place (part ∷ good) words bad behind word blanks rest g t n e b s =
    let at : place + length part + 1 + (width_of good + length blanks) ≡ place + (width_of (part ∷ good) + length blanks) = omega arith in
    more_parts section place part g.0 (good ++ bad ∷ behind) (trimming.text_read part g.0 g.3) g.4
    ∙ ap (λ (r : Reading). then_on r (λ more. Ok (union (given_by_word section g.0) more))) (bad_parts section (place + length part + 1) good g.1 bad behind word blanks rest g.5 t n e b s)
    ∙ ap (λ (p : ℕ). Err (fault_of_kind BadPrivilege p)) at

-- some parts are privileges, and the next is none
pub record FirstBadPart (section : Section) (parts : List (List ℕ)) : Type 0 where
  pub good : List (List ℕ)
  pub words : List (List ℕ)
  pub bad : List ℕ
  pub behind : List (List ℕ)
  pub is : parts ≡ good ++ bad ∷ behind
  pub are_privileges : ArePrivileges section good words
  pub no_privilege : ¬ IsPrivilegeOf section (trimmed bad)

pub part_case : (section : Section) (parts : List (List ℕ)) → ((words : List (List ℕ)) × ArePrivileges section parts words) ⊎ FirstBadPart section parts
part_case section [] = inl ([], refl)
part_case section (part ∷ parts) = by (is_any (given_by_word section (trimmed part))) refl (part_case section parts)
  where
    by : (v : Bool) → is_any (given_by_word section (trimmed part)) ≡ v → ((words : List (List ℕ)) × ArePrivileges section parts words) ⊎ FirstBadPart section parts
        → ((words : List (List ℕ)) × ArePrivileges section (part ∷ parts) words) ⊎ FirstBadPart section (part ∷ parts)
    by true e (inl h) = inl (trimmed part ∷ h.0, (trimmed part, h.0, refl, trimming.text_of part, is_privilege section (trimmed part) e, h.1))
    by true e (inr b) = inr (record {
      good = part ∷ b.good;
      words = trimmed part ∷ b.words;
      bad = b.bad;
      behind = b.behind;
      is = ap (λ (l : List (List ℕ)). part ∷ l) b.is;
      are_privileges = (trimmed part, b.words, refl, trimming.text_of part, is_privilege section (trimmed part) e, b.are_privileges);
      no_privilege = b.no_privilege;
    })
    by false e h = inr (record {
      good = [];
      words = [];
      bad = part;
      behind = parts;
      is = refl;
      are_privileges = refl;
      no_privilege = λ k. false≢true (sym e ∙ gives_any section (trimmed part) k);
    })
