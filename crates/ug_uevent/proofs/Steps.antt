-- One string behind others, and all strings.
use Rattle.std.proofs.Common.{◌≡◌, ◌≢◌, ◌⊎◌, inl, inr, ℕ, ◌+◌, ◌<◌, ◌≤◌, Bool, true, false, cond, nat_eq, List, [], ◌∷◌, ◌++◌, length, take, drop, Option, Some, None, Result, Ok, Err, refl, sym, ap, subst, ◌∙◌, arith, append_assoc, length-take}
use Rattle.std.specs.Prelude.{◌||◌}
use Rattle.std.specs.Cmp.Lexicographic.{pointwise}
use Rattle.std.proofs.lemmas.Bool.Decides.{nat_tests}
use Rattle.std.proofs.lemmas.List.{append-nil}
use Rattle.ug_types.specs.TextFaults.{fault_of_kind}
use Rattle.ug_lines.specs.Numbers.{number_in}
use Rattle.ug_lines.proofs.Numerals.{is_number, number_found, no_number}
use Rattle.ug_uevent.specs.Cuts.{length_before}
use Rattle.ug_uevent.specs.Grammar.{IsPair, IsKeyValue, key_word, IsFieldSet, IsNumber, IsGood, AreGood, Differs, IsFaulty, length_of}
use Rattle.ug_uevent.specs.Reading.{field_of, is_usb, is_field_set, number_read, first_value, field_read, string_read, on_string, strings_read}
use Rattle.ug_uevent.specs.declared.fault.UeventKind.{UeventKind}
use Rattle.ug_uevent.specs.declared.fault.UeventKind.TheVariants as kind
use Rattle.ug_uevent.specs.declared.fields.Field.{Field}
use Rattle.ug_uevent.specs.declared.fields.Field.TheVariants as field
use Rattle.ug_uevent.specs.declared.fields.Found.{Found}
use Rattle.ug_uevent.proofs.Cuts.{cut_at, cut_front, cut_back, cut_within, cut_or_none, whole_length}
use Rattle.ug_uevent.proofs.Found.{one_pair, one_word, Stands, stands_other, stands_action, stands_path, stands_subsystem, stands_number}
use Rattle.ug_uevent.proofs.Settings.{is_same, same_so, differs_so, is_other, key_read, known_or_other}

-- a pair about a sign, or none
filled : (front : List ℕ) → front ≢ [] → length front ≡ 0 → ⊥
filled [] f e = f refl
filled (b ∷ front) f e = omega (arith, e)

pub pair_tests : (sign : ℕ) (text front back : List ℕ) → IsPair sign text front back → (length_before sign text ≡ 0 → ⊥) × (length_before sign text ≡ length text → ⊥)
pair_tests sign text front back p = (
  λ e. filled front p.filled (sym (cut_at sign text front back p.cut) ∙ e),
  λ e. (let none : ⊥ = omega (arith, e, cut_within sign text front back p.cut) in none),
)

abbrev pub PairAt : ℕ → List ℕ → ℕ → Type 0
PairAt sign text n = IsPair sign text (take n text) (drop (n + 1) text)

abbrev pub NoPair : ℕ → List ℕ → Type 0
NoPair sign text = (front back : List ℕ) → IsPair sign text front back → ⊥

pub no_pair : (sign : ℕ) (text : List ℕ) → (length_before sign text ≡ 0) ⊎ (length_before sign text ≡ length text) → NoPair sign text
no_pair sign text (inl e) = λ front back p. (pair_tests sign text front back p).0 e
no_pair sign text (inr e) = λ front back p. (pair_tests sign text front back p).1 e

long_front : (n : ℕ) (text : List ℕ) → (n ≡ 0 → ⊥) → n ≤ length text → take n text ≢ []
long_front n text h l = λ e. (let none : ⊥ = (let k : length (take n text) ≡ 0 = ap length e in let m : n ≡ 0 = omega (arith, k, length-take n text, l) in h m) in none)

pub pair_at : (sign : ℕ) (text : List ℕ) → (length_before sign text ≡ 0 → ⊥) → (length_before sign text ≡ length text → ⊥) → PairAt sign text (length_before sign text)
pair_at sign text h k = elim (cut_or_none sign text) [
  | inl c ↦ record { cut = c; filled = long_front (length_before sign text) text h (let l : length_before sign text < length text = cut_within sign text (take (length_before sign text) text) (drop (length_before sign text + 1) text) c in omega (arith, l)) }
  | inr n ↦ absurd (k (whole_length sign text n))
]

tests : (n m : ℕ) → (n ≡ 0 → ⊥) → (n ≡ m → ⊥) → (nat_eq n 0 || nat_eq n m) ≡ false
tests n m h k =
    let a : nat_eq n 0 ≡ false = grind (arith, nat_tests) in
    let b : nat_eq n m ≡ false = grind (arith, nat_tests) in
    rw (a, b) refl

module _ (act path : List ℕ) where
  -- a string that is a setting is read by its key
  setting_read : (found : Found) (text key value : List ℕ) → IsKeyValue text key value → string_read act path found text ≡ field_read act path found (field_of key) value
  setting_read found text key value s =
      let n : ℕ = length_before 61 text in
      let t = pair_tests 61 text key value s in
      ap (λ (v : Bool). cond v (Err kind.BadKey) (field_read act path found (field_of (take n text)) (drop (n + 1) text))) (tests n (length text) t.0 t.1)
      ∙ ap (λ (k : List ℕ). field_read act path found (field_of k) (drop (n + 1) text)) (cut_front 61 text key value s.cut)
      ∙ ap (field_read act path found (field_of key)) (cut_back 61 text key value s.cut)

  no_setting_read : (found : Found) (text : List ℕ) → NoPair 61 text → string_read act path found text ≡ Err kind.BadKey
  no_setting_read found text h = by (nat_eq (length_before 61 text) 0) (nat_eq (length_before 61 text) (length text)) refl refl
    where
      n : ℕ
      n = length_before 61 text

      by : (a b : Bool) → nat_eq n 0 ≡ a → nat_eq n (length text) ≡ b → string_read act path found text ≡ Err kind.BadKey
      by true b e k = rw e refl
      by false true e k = rw (e, k) refl
      by false false e k =
          let none : ⊥ = h (take n text) (drop (n + 1) text) (pair_at 61 text (λ z. grind (arith, nat_tests)) (λ z. grind (arith, nat_tests))) in
          absurd none

  known_read : (found : Found) (text : List ℕ) (f : Field) (value : List ℕ) → IsKeyValue text (key_word f) value
      → string_read act path found text ≡ cond (is_field_set found f) (Err kind.Repeated) (first_value act path found f value)
  known_read found text f value s =
      setting_read found text (key_word f) value s ∙ ap (λ (o : Option Field). field_read act path found o value) (key_read (key_word f) f refl)

  first_read : (before : List (List ℕ)) (found : Found) (text : List ℕ) (f : Field) (value : List ℕ) → Stands before found → IsKeyValue text (key_word f) value
      → (IsFieldSet before f → ⊥) → string_read act path found text ≡ first_value act path found f value
  first_read before found text f value st s h =
      let t : is_field_set found f ≡ false = elim (st.set f) [ inl a ↦ absurd (h a.1) | inr b ↦ b.0 ] in
      known_read found text f value s ∙ ap (λ (v : Bool). cond v (Err kind.Repeated) (first_value act path found f value)) t

  again_read : (before : List (List ℕ)) (found : Found) (text : List ℕ) (f : Field) (value : List ℕ) → Stands before found → IsKeyValue text (key_word f) value
      → IsFieldSet before f → string_read act path found text ≡ Err kind.Repeated
  again_read before found text f value st s h =
      let t : is_field_set found f ≡ true = elim (st.set f) [ inl a ↦ a.0 | inr b ↦ absurd (b.1 h) ] in
      known_read found text f value s ∙ ap (λ (v : Bool). cond v (Err kind.Repeated) (first_value act path found f value)) t

  -- a good string is taken
  record Taken (before : List (List ℕ)) (found : Found) (text : List ℕ) : Type 0 where
    next : Found
    is : string_read act path found text ≡ Ok next
    stands : Stands (before ++ text ∷ []) next

  taken_field : (before : List (List ℕ)) (found : Found) (text : List ℕ) (f : Field) (value : List ℕ) → Stands before found → IsKeyValue text (key_word f) value → IsGood act path before text → Taken before found text
  taken_field before found text f value st s g = by f refl
    where
      same : (g.key ≡ key_word f) × (g.value ≡ value)
      same = one_pair 61 text g.key g.value (key_word f) value g.setting s

      first : IsFieldSet before f → ⊥
      first = g.once f same.0

      read : string_read act path found text ≡ first_value act path found f value
      read = first_read before found text f value st s first

      by : (e : Field) → f ≡ e → Taken before found text
      by field.Action e =
          let key : g.key ≡ key_word field.Action = same.0 ∙ ap key_word e in
          let t : pointwise nat_eq value act ≡ true = same_so value act (sym same.1 ∙ g.same_action key) in
          record {
            next = record found { action = true };
            is = read ∙ ap (λ (h : Field). first_value act path found h value) e ∙ ap (λ (v : Bool). cond v (Ok (record found { action = true })) (Err kind.HeaderDiffers)) t;
            stands = stands_action before found text value st (subst (λ (h : Field). IsKeyValue text (key_word h) value) e s);
          }
      by field.Path e =
          let key : g.key ≡ key_word field.Path = same.0 ∙ ap key_word e in
          let t : pointwise nat_eq value path ≡ true = same_so value path (sym same.1 ∙ g.same_path key) in
          record {
            next = record found { path = true };
            is = read ∙ ap (λ (h : Field). first_value act path found h value) e ∙ ap (λ (v : Bool). cond v (Ok (record found { path = true })) (Err kind.HeaderDiffers)) t;
            stands = stands_path before found text value st (subst (λ (h : Field). IsKeyValue text (key_word h) value) e s);
          }
      by field.Subsystem e = record {
        next = record found { subsystem = true; usb = is_usb value };
        is = read ∙ ap (λ (h : Field). first_value act path found h value) e;
        stands = stands_subsystem before found text value st (subst (λ (h : Field). IsKeyValue text (key_word h) value) e s) (subst (λ (h : Field). IsFieldSet before h → ⊥) e first);
      }
      by field.Number e =
          let key : g.key ≡ key_word field.Number = same.0 ∙ ap key_word e in
          let n = g.number key in
          let r : number_in value ≡ Some n.0 = is_number value n.0 n.2 (sym same.1 ∙ n.1) in
          record {
            next = record found { seq = Some n.0 };
            is = read ∙ ap (λ (h : Field). first_value act path found h value) e ∙ ap (number_read found) r;
            stands = stands_number before found text value st n.0 (subst (λ (h : Field). IsKeyValue text (key_word h) value) e s) (subst (λ (h : Field). IsFieldSet before h → ⊥) e first) r;
          }

  good_taken : (before : List (List ℕ)) (found : Found) (text : List ℕ) → Stands before found → IsGood act path before text → Taken before found text
  good_taken before found text st g = elim (known_or_other g.key) [
    | inl k ↦ taken_field before found text k.0 g.value st (subst (λ (w : List ℕ). IsKeyValue text w g.value) k.1 g.setting) g
    | inr o ↦ record {
      next = found;
      is = setting_read found text g.key g.value g.setting ∙ ap (λ (p : Option Field). field_read act path found p g.value) o.0;
      stands = stands_other before found text g.key g.value g.setting o.1 st;
    }
  ]

  -- a faulty string is refused
  pub faulty_refused : (before : List (List ℕ)) (found : Found) (text : List ℕ) (k : UeventKind) → Stands before found → IsFaulty act path before text k → string_read act path found text ≡ Err k
  faulty_refused before found text kind.NoHeader st h = absurd h
  faulty_refused before found text kind.BadKey st h = no_setting_read found text h
  faulty_refused before found text kind.Repeated st h = again_read before found text h.0 h.1 st h.2 h.3
  faulty_refused before found text kind.HeaderDiffers st h = first_read before found text h.0 h.1 st h.2 h.3 ∙ differs h.0 h.1 h.4
    where
      differs : (f : Field) (value : List ℕ) → Differs act path f value → first_value act path found f value ≡ Err kind.HeaderDiffers
      differs field.Action value d = ap (λ (v : Bool). cond v (Ok (record found { action = true })) (Err kind.HeaderDiffers)) (differs_so value act d)
      differs field.Path value d = ap (λ (v : Bool). cond v (Ok (record found { path = true })) (Err kind.HeaderDiffers)) (differs_so value path d)
      differs field.Subsystem value d = absurd d
      differs field.Number value d = absurd d
  faulty_refused before found text kind.BadSeq st h =
      first_read before found text field.Number h.0 st h.1 h.2 ∙ ap (number_read found) (no_number h.0 (λ n l e. h.3 (n, e, l)))
  faulty_refused before found text kind.TooLong st h = absurd h

  -- each string is good or faulty
  abbrev Faulty : List (List ℕ) → List ℕ → Type 0
  Faulty before text = (k : UeventKind) × IsFaulty act path before text k

  good_so : (before : List (List ℕ)) (text : List ℕ) (f : Field) (value : List ℕ) → IsKeyValue text (key_word f) value → (IsFieldSet before f → ⊥)
      → (f ≡ field.Action → value ≡ act) → (f ≡ field.Path → value ≡ path) → (f ≡ field.Number → IsNumber value) → IsGood act path before text
  good_so before text f value s first a p n = record {
    key = key_word f;
    value = value;
    setting = s;
    once = λ g e. subst (λ (h : Field). IsFieldSet before h → ⊥) (one_word f g e) first;
    same_action = λ e. a (one_word f field.Action e);
    same_path = λ e. p (one_word f field.Path e);
    number = λ e. n (one_word f field.Number e);
  }

  decide_field : (before : List (List ℕ)) (text : List ℕ) (f : Field) (value : List ℕ) → IsKeyValue text (key_word f) value → (IsFieldSet before f → ⊥) → IsGood act path before text ⊎ Faulty before text
  decide_field before text field.Action value s first = by (pointwise nat_eq value act) refl
    where
      by : (v : Bool) → pointwise nat_eq value act ≡ v → IsGood act path before text ⊎ Faulty before text
      by true e = inl (good_so before text field.Action value s first (λ z. is_same value act e) (λ z. (let none : ⊥ = cc in absurd none)) (λ z. (let none : ⊥ = cc in absurd none)))
      by false e = inr (kind.HeaderDiffers, (field.Action, value, s, first, is_other value act e))
  decide_field before text field.Path value s first = by (pointwise nat_eq value path) refl
    where
      by : (v : Bool) → pointwise nat_eq value path ≡ v → IsGood act path before text ⊎ Faulty before text
      by true e = inl (good_so before text field.Path value s first (λ z. (let none : ⊥ = cc in absurd none)) (λ z. is_same value path e) (λ z. (let none : ⊥ = cc in absurd none)))
      by false e = inr (kind.HeaderDiffers, (field.Path, value, s, first, is_other value path e))
  decide_field before text field.Subsystem value s first =
      inl (good_so before text field.Subsystem value s first (λ z. (let none : ⊥ = cc in absurd none)) (λ z. (let none : ⊥ = cc in absurd none)) (λ z. (let none : ⊥ = cc in absurd none)))
  decide_field before text field.Number value s first = by (number_in value) refl
    where
      by : (o : Option ℕ) → number_in value ≡ o → IsGood act path before text ⊎ Faulty before text
      by (Some n) e =
          let k = number_found value n e in
          inl (good_so before text field.Number value s first (λ z. (let none : ⊥ = cc in absurd none)) (λ z. (let none : ⊥ = cc in absurd none)) (λ z. (n, k.0, k.1)))
      by None e = inr (kind.BadSeq, (value, s, first, λ n. (let f : number_in value ≡ Some n.0 = is_number value n.0 n.2 n.1 in let none : ⊥ = cc in none)))

  decide_string : (before : List (List ℕ)) (found : Found) (text : List ℕ) → Stands before found → IsGood act path before text ⊎ Faulty before text
  decide_string before found text st = by (nat_eq (length_before 61 text) 0) (nat_eq (length_before 61 text) (length text)) refl refl
    where
      n : ℕ
      n = length_before 61 text

      on : PairAt 61 text n → IsGood act path before text ⊎ Faulty before text
      on s = elim (known_or_other (take n text)) [
        | inl k ↦
            let t : IsKeyValue text (key_word k.0) (drop (n + 1) text) = subst (λ (w : List ℕ). IsKeyValue text w (drop (n + 1) text)) k.1 s in
            elim (st.set k.0) [
              | inl a ↦ inr (kind.Repeated, (k.0, drop (n + 1) text, t, a.1))
              | inr b ↦ decide_field before text k.0 (drop (n + 1) text) t b.1
            ]
        | inr o ↦ inl (record {
          key = take n text;
          value = drop (n + 1) text;
          setting = s;
          once = λ f e. absurd (o.1 f e);
          same_action = λ e. absurd (o.1 field.Action e);
          same_path = λ e. absurd (o.1 field.Path e);
          number = λ e. absurd (o.1 field.Number e);
        })
      ]

      by : (a b : Bool) → nat_eq n 0 ≡ a → nat_eq n (length text) ≡ b → IsGood act path before text ⊎ Faulty before text
      by true b e k = inr (kind.BadKey, no_pair 61 text (inl (grind (arith, nat_tests))))
      by false true e k = inr (kind.BadKey, no_pair 61 text (inr (grind (arith, nat_tests))))
      by false false e k = on (pair_at 61 text (λ z. grind (arith, nat_tests)) (λ z. grind (arith, nat_tests)))

  -- all strings
  pub next_read : (found next : Found) (place : ℕ) (text : List ℕ) (texts : List (List ℕ)) → string_read act path found text ≡ Ok next
      → strings_read act path found place (text ∷ texts) ≡ strings_read act path next (place + (length text + 1)) texts
  unfolding strings_read
  next_read found next place text texts e = ap (λ (r : Result Found UeventKind). on_string place r (λ later. strings_read act path later (place + (length text + 1)) texts)) e

  pub stop_read : (found : Found) (k : UeventKind) (place : ℕ) (text : List ℕ) (texts : List (List ℕ)) → string_read act path found text ≡ Err k
      → strings_read act path found place (text ∷ texts) ≡ Err (fault_of_kind k place)
  unfolding strings_read
  stop_read found k place text texts e = ap (λ (r : Result Found UeventKind). on_string place r (λ later. strings_read act path later (place + (length text + 1)) texts)) e

  pub end_read : (found : Found) (place : ℕ) → strings_read act path found place [] ≡ Ok found
  unfolding strings_read
  end_read found place = refl

  pub record AllTaken (before : List (List ℕ)) (found : Found) (texts : List (List ℕ)) : Type 0 where
    pub next : Found
    pub stands : Stands (before ++ texts) next
    pub read : (place : ℕ) (more : List (List ℕ)) → strings_read act path found place (texts ++ more) ≡ strings_read act path next (place + length_of texts) more

  pub all_taken : (texts before : List (List ℕ)) (found : Found) → Stands before found → AreGood act path before texts → AllTaken before found texts
  all_taken [] before found st g = record {
    next = found;
    stands = subst (λ (t : List (List ℕ)). Stands t found) (sym (append-nil before)) st;
    read = λ place more. ap (λ (n : ℕ). strings_read act path found n more) (omega arith);
  }
  all_taken (text ∷ texts) before found st g =
      let one : Taken before found text = good_taken before found text st g.0 in
      let rest : AllTaken (before ++ text ∷ []) one.next texts = all_taken texts (before ++ text ∷ []) one.next one.stands g.1 in
      record {
        next = rest.next;
        stands = subst (λ (t : List (List ℕ)). Stands t rest.next) (append_assoc before (text ∷ []) texts) rest.stands;
        read = λ place more.
            next_read found one.next place text (texts ++ more) one.is
            ∙ rest.read (place + (length text + 1)) more
            ∙ ap (λ (n : ℕ). strings_read act path rest.next n more) (omega arith);
      }

  -- strings are good, or one of them is the first that isn't
  pub record FirstFaulty (before texts : List (List ℕ)) : Type 0 where
    pub front : List (List ℕ)
    pub text : List ℕ
    pub behind : List (List ℕ)
    pub k : UeventKind
    pub is : texts ≡ front ++ text ∷ behind
    pub good : AreGood act path before front
    pub faulty : IsFaulty act path (before ++ front) text k

  pub decide : (texts before : List (List ℕ)) (found : Found) → Stands before found → AreGood act path before texts ⊎ FirstFaulty before texts
  decide [] before found st = inl tt
  decide (text ∷ texts) before found st = by (decide_string before found text st) (decide texts (before ++ text ∷ []))
    where
      by : IsGood act path before text ⊎ Faulty before text → ((next : Found) → Stands (before ++ text ∷ []) next → AreGood act path (before ++ text ∷ []) texts ⊎ FirstFaulty (before ++ text ∷ []) texts)
          → AreGood act path before (text ∷ texts) ⊎ FirstFaulty before (text ∷ texts)
      by (inl g) later =
          let one : Taken before found text = good_taken before found text st g in
          elim (later one.next one.stands) [
            | inl all ↦ inl (g, all)
            | inr f ↦ inr (record {
              front = text ∷ f.front;
              text = f.text;
              behind = f.behind;
              k = f.k;
              is = ap (λ (t : List (List ℕ)). text ∷ t) f.is;
              good = (g, f.good);
              faulty = subst (λ (t : List (List ℕ)). IsFaulty act path t f.text f.k) (append_assoc before (text ∷ []) f.front) f.faulty;
            })
          ]
      by (inr f) later = inr (record {
        front = [];
        text = text;
        behind = texts;
        k = f.0;
        is = refl;
        good = tt;
        faulty = subst (λ (t : List (List ℕ)). IsFaulty act path t text f.0) (sym (append-nil before)) f.1;
      })
