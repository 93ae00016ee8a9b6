-- What a change of one standing does to the maps that find them.
use Rattle.std.proofs.Common.{◌≡◌, ℕ, ◌<◌, ◌≤◌, Bool, true, false, not, cond, List, [], ◌∷◌, ◌++◌, map, length, Option, Some, None, refl, sym, ◌∙◌, ap, subst, inl, inr, ◌⊎◌, nat_eq, arith}
use Rattle.std.proofs.lemmas.Bool.{cond_both, cases_Bool, both_ways, false_from_ne_true}
use Rattle.std.specs.List.{filter, find, insert}
use Rattle.ug_types.specs.Elements.{Has, AllDistinct}
use Rattle.ug_types.proofs.Elements.{has_left, has_right, filter_has, has_filter, map_has, has_map, insert_has, has_new, has_old, distinct_one, last_is}
use Rattle.ug_table.specs.declared.standing.Standing.{Standing}
use Rattle.ug_table.specs.Standings.{same_name, named, numbered, without, marked}
use Rattle.ug_table.specs.Sweep.{names_of}
use Rattle.ug_table.specs.Slots.{Slot, filled, slot_of, AllNamed, IsRetry, noted}
use Rattle.ug_table.proofs.Entries.{Sorted, named_behind, same_refl, name_same, marked_own, marked_other}
use Rattle.std.specs.BTreeMap.{is_at}
use Rattle.std.specs.List.{IsDistinct, AllByRecursion, list_any}
use Rattle.std.proofs.lemmas.Bool.{or_cases}
use Rattle.std.proofs.lemmas.Cmp.{nat_eq_equiv}
use Rattle.std.proofs.lemmas.List.{length-map}
use Rattle.std.proofs.lemmas.Map.Keys.{IsDistinct-cons}
use Rattle.std.proofs.lemmas.Map.Made.{length-le_from_is_member}
use Rattle.std.specs.Map.{keys_of}
use Rattle.std.proofs.lemmas.Map.Keys.{sorted_head, sorted_tail}
use Rattle.ug_types.specs.Names.{sweep_cmp}

find_none : (p : Standing → Bool) (ss : List Standing) → ((s : Standing) → Has ss s → p s ≡ true → ⊥) → find p ss ≡ None
find_none p [] h = refl
find_none p (s ∷ ss) h = ap (λ (t : Bool). cond t (Some s) (find p ss)) (false_from_ne_true (p s) (h s (inl refl))) ∙ find_none p ss (λ x a. h x (inr a))

pub found_has : (p : Standing → Bool) (ss : List Standing) (x : Standing) → find p ss ≡ Some x → Has ss x × (p x ≡ true)
found_has p [] x h = let none : ⊥ = cc in absurd none
found_has p (s ∷ ss) x h = cond_both (p s) (Some s) (find p ss) (λ (o : Option Standing). o ≡ Some x → Has (s ∷ ss) x × (p x ≡ true))
    (λ t e. let is : s ≡ x = cc in (inl is, subst (λ (v : Standing). p v ≡ true) is t))
    (λ t e. let k = found_has p ss x e in (inr k.0, k.1)) h

none_has : (p : Standing → Bool) (ss : List Standing) (x : Standing) → find p ss ≡ None → Has ss x → p x ≡ true → ⊥
none_has p [] x h a t = a
none_has p (s ∷ ss) x h a t = cond_both (p s) (Some s) (find p ss) (λ (o : Option Standing). o ≡ None → ⊥)
    (λ e f. let none : ⊥ = cc in none)
    (λ e f. elim a [ inl is ↦ both_ways (p s) e (subst (λ (v : Standing). p v ≡ true) (sym is) t) | inr b ↦ none_has p ss x f b t ]) h

pub number_is : (n : ℕ) (s : Standing) → nat_eq s.number n ≡ true → s.number ≡ n
number_is n s e = grind (arith, e)

pub is_number : (n : ℕ) (s : Standing) → s.number ≡ n → nat_eq s.number n ≡ true
is_number n s e = grind (arith, e)

pub named_has : (name : List ℕ) (ss : List Standing) (x : Standing) → named name ss ≡ Some x → Has ss x × (x.name ≡ name)
named_has name ss x h = let k = found_has (λ (s : Standing). same_name s.name name) ss x h in (k.0, name_same x.name name k.1)

pub unnamed : (name : List ℕ) (ss : List Standing) (x : Standing) → named name ss ≡ None → Has ss x → x.name ≡ name → ⊥
unnamed name ss x h a e = none_has (λ (s : Standing). same_name s.name name) ss x h a (subst (λ (v : List ℕ). same_name v name ≡ true) (sym e) (same_refl name))

pub unnumbered : (n : ℕ) (ss : List Standing) (x : Standing) → numbered n ss ≡ None → Has ss x → x.number ≡ n → ⊥
unnumbered n ss x h a e = none_has (λ (s : Standing). nat_eq s.number n) ss x h a (is_number n x e)

pub numbered_none : (n : ℕ) (ss : List Standing) → ((s : Standing) → Has ss s → s.number ≡ n → ⊥) → numbered n ss ≡ None
numbered_none n ss h = find_none (λ (s : Standing). nat_eq s.number n) ss (λ s a t. h s a (number_is n s t))

pub numbered_is : (n : ℕ) (ss : List Standing) (x : Standing) → Has ss x → x.number ≡ n → ((s : Standing) → Has ss s → s.number ≡ n → s ≡ x) → numbered n ss ≡ Some x
numbered_is n ss x a e one = by (numbered n ss) refl
  where
    by : (o : Option Standing) → numbered n ss ≡ o → numbered n ss ≡ Some x
    by None q = absurd (unnumbered n ss x q a e)
    by (Some y) q = let k = found_has (λ (s : Standing). nat_eq s.number n) ss y q in q ∙ ap (λ (v : Standing). Some v) (one y k.0 (number_is n y k.1))

-- no two names are alike
pub distinct_names : (es : List Slot) → Sorted es → AllNamed es → AllDistinct (names_of (filled es))
distinct_names [] s b = tt
distinct_names ((k, None) ∷ es) s b = distinct_names es (sorted_tail sweep_cmp k (keys_of es) s) b.1
distinct_names ((k, Some x) ∷ es) s b = (
  λ a.
      let m = map_has (λ (s : Standing). s.name) (filled es) x.name a in
      unnamed k (filled es) m.0 (named_behind k es (sorted_head sweep_cmp k (keys_of es) s) b.1) m.1 (m.2 ∙ b.0),
  distinct_names es (sorted_tail sweep_cmp k (keys_of es) s) b.1,
)

-- each number leads to its name
abbrev pub Numbers : List Standing → (ℕ → Option (List ℕ)) → Type 0
Numbers ss num = (s : Standing) → Has ss s → num s.number ≡ Some s.name

pub some_same : (a b : List ℕ) → Some a ≡ Some b → a ≡ b
some_same a b e = cc

pub one_numbered : (ss : List Standing) (num : ℕ → Option (List ℕ)) (x y : Standing) → AllDistinct (names_of ss) → Numbers ss num → Has ss x → Has ss y → x.number ≡ y.number → x ≡ y
one_numbered ss num x y d h a b e = distinct_one (λ (s : Standing). s.name) ss x y d a b (some_same x.name y.name (sym (h x a) ∙ ap num e ∙ h y b))

-- what a number leads to
pub numbered_unknown : (n : ℕ) (ss : List Standing) (num : ℕ → Option (List ℕ)) → Numbers ss num → num n ≡ None → numbered n ss ≡ None
numbered_unknown n ss num h e = numbered_none n ss (λ s a q. let f = sym (h s a) ∙ ap num q ∙ e in let none : ⊥ = cc in none)

pub numbered_empty : (n : ℕ) (name : List ℕ) (ss : List Standing) (num : ℕ → Option (List ℕ)) → Numbers ss num → num n ≡ Some name → named name ss ≡ None → numbered n ss ≡ None
numbered_empty n name ss num h e f = numbered_none n ss (λ s a q. unnamed name ss s f a (some_same s.name name (sym (h s a) ∙ ap num q ∙ e)))

pub numbered_found : (n : ℕ) (name : List ℕ) (x : Standing) (ss : List Standing) (num : ℕ → Option (List ℕ)) → AllDistinct (names_of ss) → Numbers ss num → named name ss ≡ Some x → x.number ≡ n → numbered n ss ≡ Some x
numbered_found n name x ss num d h f e = let k = named_has name ss x f in numbered_is n ss x k.0 e (λ s a q. one_numbered ss num s x d h a k.0 (q ∙ sym e))

pub named_is : (name : List ℕ) (ss : List Standing) (x : Standing) → AllDistinct (names_of ss) → Has ss x → x.name ≡ name → named name ss ≡ Some x
named_is name ss x d a e = by (named name ss) refl
  where
    by : (o : Option Standing) → named name ss ≡ o → named name ss ≡ Some x
    by None q = absurd (unnamed name ss x q a e)
    by (Some y) q = let k = named_has name ss y q in q ∙ ap (λ (v : Standing). Some v) (distinct_one (λ (s : Standing). s.name) ss y x d k.0 a (k.1 ∙ sym e))

-- The list of those that aren't settled.

kept_number : (number : ℕ) (n : ℕ) → (n ≡ number → ⊥) → not (nat_eq n number) ≡ true
kept_number number n ne = grind (arith, ne)

number_kept : (number : ℕ) (n : ℕ) → not (nat_eq n number) ≡ true → n ≡ number → ⊥
number_kept number n e q = grind (arith, e, q)

distinct_end : (ns : List ℕ) (n : ℕ) → AllDistinct ns → (Has ns n → ⊥) → AllDistinct (ns ++ n ∷ [])
distinct_end [] n d h = (λ a. a, tt)
distinct_end (m ∷ ns) n d h = (λ a. elim (last_is ns n m a) [ inl b ↦ d.0 b | inr e ↦ h (inl (sym e)) ], distinct_end ns n d.1 (λ a. h (inr a)))

distinct_kept : (p : ℕ → Bool) (ns : List ℕ) → AllDistinct ns → AllDistinct (filter p ns)
distinct_kept p [] d = tt
distinct_kept p (n ∷ ns) d = cond_both (p n) (n ∷ filter p ns) (filter p ns) AllDistinct (λ t. (λ a. d.0 (filter_has p ns n a).0, distinct_kept p ns d.1)) (λ t. distinct_kept p ns d.1)

-- a standing more
pub retry_put : (ss : List Standing) (retry : List ℕ) (i : ℕ) (x : Standing) → IsRetry ss retry → (Has retry x.number → ⊥) → IsRetry (insert ss i x) (noted x.number true x.settled retry)
retry_put ss retry i x h new = by x.settled refl
  where
    by : (b : Bool) → x.settled ≡ b → IsRetry (insert ss i x) (noted x.number true b retry)
    by false e = record {
      each = λ s a f. elim (insert_has ss i x s a) [ inl is ↦ has_right retry (x.number ∷ []) s.number (inl (ap (λ (v : Standing). v.number) is)) | inr b ↦ has_left retry (x.number ∷ []) s.number (h.each s b f) ];
      only = λ n a. elim (last_is retry x.number n a) [ inl b ↦ (let k = h.only n b in (k.0, has_old ss i x k.0 k.1, k.2, k.3)) | inr q ↦ (x, has_new ss i x, q, e) ];
      distinct = distinct_end retry x.number h.distinct new;
    }
    by true e = record {
      each = λ s a f. elim (insert_has ss i x s a) [ inl is ↦ (let none : ⊥ = both_ways x.settled (ap (λ (v : Standing). v.settled) is ∙ f) e in absurd none) | inr b ↦ h.each s b f ];
      only = λ n a. let k = h.only n a in (k.0, has_old ss i x k.0 k.1, k.2, k.3);
      distinct = h.distinct;
    }

-- those that a test keeps
pub retry_kept : (ss : List Standing) (retry : List ℕ) (p : Standing → Bool) (q : ℕ → Bool) → IsRetry ss retry → ((s : Standing) → Has ss s → s.settled ≡ false → p s ≡ q s.number) → IsRetry (filter p ss) (filter q retry)
retry_kept ss retry p q h same = record {
  each = λ s a f. let k = filter_has p ss s a in has_filter q retry s.number (h.each s k.0 f) (sym (same s k.0 f) ∙ k.1);
  only = λ n a. let b = filter_has q retry n a in let k = h.only n b.0 in (k.0, has_filter p ss k.0 k.1 (same k.0 k.1 k.3 ∙ ap q k.2 ∙ b.1), k.2, k.3);
  distinct = distinct_kept q retry h.distinct;
}

pub retry_all_kept : (ss : List Standing) (retry : List ℕ) (p : Standing → Bool) → IsRetry ss retry → ((s : Standing) → Has ss s → s.settled ≡ false → p s ≡ true) → IsRetry (filter p ss) retry
retry_all_kept ss retry p h same = record {
  each = λ s a f. h.each s (filter_has p ss s a).0 f;
  only = λ n a. let k = h.only n a in (k.0, has_filter p ss k.0 k.1 (same k.0 k.1 k.3), k.2, k.3);
  distinct = h.distinct;
}

-- A mark that changes.

marked_settled : (name : List ℕ) (b : Bool) (s : Standing) → s.name ≡ name → (marked name b s).settled ≡ b
marked_settled name b s e = ap (λ (v : Standing). v.settled) (marked_own name b s e)

pub other_settled : (name : List ℕ) (b : Bool) (s : Standing) → (s.name ≡ name → ⊥) → marked name b s ≡ s
other_settled name b s ne = marked_other name b s (false_from_ne_true (same_name s.name name) (λ t. ne (name_same s.name name t)))

-- whether a standing bears a name
pub either_named : (name : List ℕ) (s : Standing) → (s.name ≡ name) ⊎ (s.name ≡ name → ⊥)
either_named name s = elim (cases_Bool (same_name s.name name)) [ inl t ↦ inl (name_same s.name name t) | inr f ↦ inr (λ e. both_ways (same_name s.name name) f (subst (λ (v : List ℕ). same_name v name ≡ true) (sym e) (same_refl name))) ]

module _ (ss : List Standing) (num : ℕ → Option (List ℕ)) (name : List ℕ) (x : Standing) (retry : List ℕ) (d : AllDistinct (names_of ss)) (n : Numbers ss num) (at : named name ss ≡ Some x) (h : IsRetry ss retry) where
  pub own_is : (s : Standing) → Has ss s → s.name ≡ name → s ≡ x
  own_is s a e = let k = named_has name ss x at in distinct_one (λ (v : Standing). v.name) ss s x d a k.0 (e ∙ sym k.1)

  pub own_number : (s : Standing) → Has ss s → s.number ≡ x.number → s.name ≡ name
  own_number s a e = let k = named_has name ss x at in ap (λ (v : Standing). v.name) (one_numbered ss num s x d n a k.0 e) ∙ k.1

  pub settled_out : x.settled ≡ true → Has retry x.number → ⊥
  settled_out t a =
      let k = h.only x.number a in
      let is = own_is k.0 k.1 (own_number k.0 k.1 k.2) in
      both_ways x.settled (ap (λ (v : Standing). v.settled) (sym is) ∙ k.3) t

  pub retry_forgotten : IsRetry (without name ss) (noted x.number x.settled true retry)
  retry_forgotten = by x.settled refl
    where
      by : (b : Bool) → x.settled ≡ b → IsRetry (without name ss) (noted x.number b true retry)
      by false e = retry_kept ss retry (λ (s : Standing). not (same_name s.name name)) (λ (m : ℕ). not (nat_eq m x.number)) h
          (λ s a f. elim (either_named name s) [
            | inl is ↦ ap not (ap (λ (v : List ℕ). same_name v name) is ∙ same_refl name) ∙ sym (ap (λ (v : Standing). not (nat_eq v.number x.number)) (own_is s a is) ∙ ap not (is_number x.number x refl))
            | inr ne ↦ ap not (false_from_ne_true (same_name s.name name) (λ t. ne (name_same s.name name t))) ∙ sym (kept_number x.number s.number (λ q. ne (own_number s a q)))
          ])
      by true e = retry_all_kept ss retry (λ (s : Standing). not (same_name s.name name)) h
          (λ s a f. elim (either_named name s) [
            | inl is ↦ (let none : ⊥ = both_ways x.settled (ap (λ (v : Standing). v.settled) (sym (own_is s a is)) ∙ f) e in absurd none)
            | inr ne ↦ ap not (false_from_ne_true (same_name s.name name) (λ t. ne (name_same s.name name t)))
          ])

  pub retry_marked : (now : Bool) → IsRetry (map (marked name now) ss) (noted x.number x.settled now retry)
  retry_marked now = by x.settled now refl
    where
      own : Has ss x × (x.name ≡ name)
      own = named_has name ss x at

      same_number : (b : Bool) (s : Standing) → (marked name b s).number ≡ s.number
      same_number b s = refl

      -- the others stay, and so does the one where its mark does
      each_other : (b : Bool) (s : Standing) → Has ss s → (s.name ≡ name → ⊥) → (marked name b s).settled ≡ false → Has retry s.number
      each_other b s a ne f = h.each s a (sym (ap (λ (v : Standing). v.settled) (other_settled name b s ne)) ∙ f)

      same : (b : Bool) → x.settled ≡ b → IsRetry (map (marked name b) ss) retry
      same b e =
          let stays : (s : Standing) → Has ss s → (marked name b s).settled ≡ s.settled = λ s a. elim (either_named name s) [
            | inl is ↦ marked_settled name b s is ∙ sym (ap (λ (v : Standing). v.settled) (own_is s a is) ∙ e)
            | inr ne ↦ ap (λ (v : Standing). v.settled) (other_settled name b s ne)
          ] in
          record {
            each = λ s a f. let m = map_has (marked name b) ss s a in subst (λ (k : ℕ). Has retry k) (ap (λ (v : Standing). v.number) m.2) (h.each m.0 m.1 (sym (stays m.0 m.1) ∙ ap (λ (v : Standing). v.settled) m.2 ∙ f));
            only = λ k a. let o = h.only k a in (marked name b o.0, has_map (marked name b) ss o.0 o.1, o.2, stays o.0 o.1 ∙ o.3);
            distinct = h.distinct;
          }

      by : (was b : Bool) → x.settled ≡ was → IsRetry (map (marked name b) ss) (noted x.number was b retry)
      by true false e = record {
        each = λ s a f.
            let m = map_has (marked name false) ss s a in
            elim (either_named name m.0) [
              | inl is ↦ has_right retry (x.number ∷ []) s.number (inl (sym (ap (λ (v : Standing). v.number) (own_is m.0 m.1 is)) ∙ ap (λ (v : Standing). v.number) m.2))
              | inr ne ↦ has_left retry (x.number ∷ []) s.number (subst (λ (k : ℕ). Has retry k) (ap (λ (v : Standing). v.number) m.2) (each_other false m.0 m.1 ne (ap (λ (v : Standing). v.settled) m.2 ∙ f)))
            ];
        only = λ k a. elim (last_is retry x.number k a) [
          | inl b ↦ (let o = h.only k b in (marked name false o.0, has_map (marked name false) ss o.0 o.1, o.2, still o.0 o.3))
          | inr q ↦ (marked name false x, has_map (marked name false) ss x own.0, q, marked_settled name false x own.1)
        ];
        distinct = distinct_end retry x.number h.distinct (settled_out e);
      }
        where
          still : (s : Standing) → s.settled ≡ false → (marked name false s).settled ≡ false
          still s f = elim (either_named name s) [ inl is ↦ marked_settled name false s is | inr ne ↦ ap (λ (v : Standing). v.settled) (other_settled name false s ne) ∙ f ]
      by false true e = record {
        each = λ s a f.
            let m = map_has (marked name true) ss s a in
            elim (either_named name m.0) [
              | inl is ↦ (let none : ⊥ = both_ways (marked name true m.0).settled (ap (λ (v : Standing). v.settled) m.2 ∙ f) (marked_settled name true m.0 is) in absurd none)
              | inr ne ↦ has_filter (λ (k : ℕ). not (nat_eq k x.number)) retry s.number (subst (λ (k : ℕ). Has retry k) (ap (λ (v : Standing). v.number) m.2) (each_other true m.0 m.1 ne (ap (λ (v : Standing). v.settled) m.2 ∙ f)))
                  (kept_number x.number s.number (λ q. ne (own_number m.0 m.1 (ap (λ (v : Standing). v.number) m.2 ∙ q))))
            ];
        only = λ k a.
            let b = filter_has (λ (k : ℕ). not (nat_eq k x.number)) retry k a in
            let o = h.only k b.0 in
            let ne : o.0.name ≡ name → ⊥ = λ is. number_kept x.number k b.1 (sym o.2 ∙ ap (λ (v : Standing). v.number) (own_is o.0 o.1 is)) in
            (marked name true o.0, has_map (marked name true) ss o.0 o.1, o.2, ap (λ (v : Standing). v.settled) (other_settled name true o.0 ne) ∙ o.3);
        distinct = distinct_kept (λ (k : ℕ). not (nat_eq k x.number)) retry h.distinct;
      }
      by true true e = same true e
      by false false e = same false e

-- How long the list gets.

has_any : (n : ℕ) (ns : List ℕ) → Has ns n → list_any (nat_eq n) ns ≡ true
has_any n [] a = absurd a
has_any n (m ∷ ns) (inl e) = grind (arith, e)
has_any n (m ∷ ns) (inr a) = let rest = has_any n ns a in grind (arith, rest)

any_has : (n : ℕ) (ns : List ℕ) → list_any (nat_eq n) ns ≡ true → Has ns n
any_has n [] e = let none : ⊥ = cc in absurd none
any_has n (m ∷ ns) e = elim (or_cases (nat_eq n m) (list_any (nat_eq n) ns) e) [ inl t ↦ inl (grind (arith, t)) | inr t ↦ inr (any_has n ns t) ]

distinct_is : (ns : List ℕ) → AllDistinct ns → IsDistinct nat_eq ns
unfolding IsDistinct
distinct_is [] d = tt
distinct_is (n ∷ ns) d = IsDistinct-cons nat_eq n ns (apart ns d.0) (distinct_is ns d.1)
  where
    apart : (ms : List ℕ) → (Has ms n → ⊥) → AllByRecursion (λ (m : ℕ). nat_eq n m ≡ false) ms
    apart [] h = tt
    apart (m ∷ ms) h = (false_from_ne_true (nat_eq n m) (λ t. h (inl (grind (arith, t)))), apart ms (λ a. h (inr a)))

few : (xs ys : List ℕ) → AllDistinct xs → ((n : ℕ) → Has xs n → Has ys n) → length xs ≤ length ys
few xs ys d h = length-le_from_is_member nat_eq_equiv xs ys (distinct_is xs d) (λ q e. has_any q ys (h q (any_has q xs e)))

pub retry_few : (ss : List Standing) (retry : List ℕ) → IsRetry ss retry → length retry ≤ length ss
retry_few ss retry h =
    let le = few retry (map (λ (s : Standing). s.number) ss) h.distinct (λ n a. let k = h.only n a in subst (λ (m : ℕ). Has (map (λ (s : Standing). s.number) ss) m) k.2 (has_map (λ (s : Standing). s.number) ss k.0 k.1)) in
    subst (λ (m : ℕ). length retry ≤ m) (length-map ss (λ (s : Standing). s.number)) le

pub retry_fewer : (ss : List Standing) (retry : List ℕ) (x : Standing) → IsRetry ss retry → Has ss x → (Has retry x.number → ⊥) → length retry < length ss
retry_fewer ss retry x h a out =
    let le = few (x.number ∷ retry) (map (λ (s : Standing). s.number) ss) (out, h.distinct) (λ n b. elim b [
      | inl e ↦ subst (λ (m : ℕ). Has (map (λ (s : Standing). s.number) ss) m) e (has_map (λ (s : Standing). s.number) ss x a)
      | inr c ↦ (let k = h.only n c in subst (λ (m : ℕ). Has (map (λ (s : Standing). s.number) ss) m) k.2 (has_map (λ (s : Standing). s.number) ss k.0 k.1))
    ]) in
    let same = length-map ss (λ (s : Standing). s.number) in
    omega (arith, le, same)

pub filled_few : (es : List Slot) → length (filled es) ≤ length es
filled_few [] = omega arith
filled_few ((k, None) ∷ es) = let rest = filled_few es in omega (arith, rest)
filled_few ((k, Some x) ∷ es) = let rest = filled_few es in omega (arith, rest)

pub filled_fewer : (name : List ℕ) (es : List Slot) → slot_of name es ≡ Some None → length (filled es) < length es
filled_fewer name [] h = let none : ⊥ = cc in absurd none
filled_fewer name ((k, None) ∷ es) h = let rest = filled_few es in omega (arith, rest)
filled_fewer name ((k, Some x) ∷ es) h = cond_both (is_at (sweep_cmp name) k) (Some (Some x)) (slot_of name es) (λ (o : Option (Option Standing)). o ≡ Some None → length (x ∷ filled es) < length ((k, Some x) ∷ es))
    (λ t e. let none : ⊥ = cc in absurd none)
    (λ t e. let rest = filled_fewer name es e in omega (arith, rest)) h
